-- The result for a model with its data is unique: the two files determine the problem, the link,
-- the names and every printed byte.
use Rattle.std.specs.Prelude.{◌≡◌, ℕ, Bool, List, Option}
use Rattle.net_expr.specs.Worlds.{Name}
use Rattle.net_base.specs.declared.diagnostic.Diagnostic.{Diagnostic}
use Rattle.net_driver.specs.FirstFaults.{IsFirstFault}
use Rattle.net_driver.specs.declared.answer.Answer.{Answer}
use Rattle.net_driver.specs.declared.compiled.Compiled.{Compiled}
use Rattle.net_driver.specs.IsSolved.{IsSolved}
use Rattle.net_driver.specs.IsBuilt.{IsBuilt}

-- the same text, problem, link and names
pub record IsOneWith (c other : Compiled) : Type 0 where
  pub text : c.text.items ≡ other.text.items
  pub supplies : c.problem.supplies.items ≡ other.problem.supplies.items
  pub arcs : c.problem.arcs.items ≡ other.problem.arcs.items
  pub numbers : c.link.numbers.items ≡ other.link.numbers.items
  pub offsets : c.link.offsets.items ≡ other.link.offsets.items
  pub constant : c.link.constant ≡ other.link.constant
  pub sense : c.link.sense ≡ other.link.sense
  pub names : c.names ≡ other.names

-- compiling the same files twice gives the same result
abbrev pub IsOneAnswer : Type 0
IsOneAnswer = (lean : Bool) (wanted : Option Name) (model_text data_text : List ℕ) (c other : Compiled) → IsBuilt lean wanted model_text data_text c → IsBuilt lean wanted model_text data_text other
    → IsOneWith c other

-- solving uses the compiled problem, whether there is a plan or a cut
abbrev pub IsSolvedAsCompiled : Type 0
IsSolvedAsCompiled = (lean : Bool) (wanted : Option Name) (model_text data_text : List ℕ) (a : Answer) (c : Compiled) → IsSolved lean wanted model_text data_text a → IsBuilt lean wanted model_text data_text c
    → IsOneWith a.compiled c

-- files that compile have no error
abbrev pub IsNoFaultCompiled : Type 0
IsNoFaultCompiled = (lean : Bool) (wanted : Option Name) (model_text data_text : List ℕ) (c : Compiled) (diagnostic : Diagnostic) → IsBuilt lean wanted model_text data_text c → IsFirstFault wanted model_text data_text diagnostic → ⊥
