-- The certificates that `solve_min` writes are accepted by `check_bytes`, and the texts that `compile`
-- writes by `solve_min` (First DIMACS Implementation Challenge, minimum-cost flow).
use Rattle.std.specs.Prelude.{◌≡◌, ◌≤◌, ℕ, List, length, Option}
use Rattle.net_check.specs.Certificates.{IsCertificate}
use Rattle.net_check.specs.declared.checker.Verdict.{Verdict}
use Rattle.net_check.specs.declared.checker.Verdict.TheVariants.{Yes}
use Rattle.net_check.specs.declared.certificate.Certificate.{Certificate}
use Rattle.net_dimacs.specs.Limits.{text_limit}
use Rattle.net_expr.specs.Worlds.{Name}
use Rattle.net_driver.specs.declared.compiled.Compiled.{Compiled}
use Rattle.net_driver.specs.declared.driver_fault.Fault.{Fault}
use Rattle.net_driver.specs.declared.driver_fault.Fault.TheVariants.{OutOfMemory}
use Rattle.net_driver.specs.Checked.{Judges, IsLineRejection, IsProblemRejection}
use Rattle.net_driver.specs.LineTexts.{IsProblemOf}
use Rattle.net_driver.specs.Meaning.{IsCompilation}
use Rattle.net_driver.specs.Settled.{Settles}

-- the verdict is yes, and both inputs are accepted unless memory runs out
pub record IsAccepted (problem_text answer : List ℕ) : Type 0 where
  pub yes : (verdict : Verdict) → Judges problem_text answer verdict → verdict ≡ Yes
  pub taken : (fault : Fault) → IsLineRejection problem_text answer fault → fault ≡ OutOfMemory

abbrev pub AreAnswersAccepted : Type 0
AreAnswersAccepted = (problem_text answer : List ℕ) (settled : Certificate) → Settles problem_text settled answer → IsAccepted problem_text answer

-- the text of a compiled model is read as the model's problem: what settles it is a certificate of this problem, and it is rejected only if
-- memory runs out
pub record IsReadBack (c : Compiled) : Type 0 where
  pub is_problem : IsProblemOf c.text.items c.problem
  pub certified : (settled : Certificate) (answer : List ℕ) → Settles c.text.items settled answer → IsCertificate c.problem settled
  pub taken : (fault : Fault) → IsProblemRejection c.text.items fault → fault ≡ OutOfMemory

-- that is so of each compiled model whose text is within the limit for problems
abbrev pub AreCompilationsReadBack : Type 0
AreCompilationsReadBack = (requested : Option Name) (model_text data_text : List ℕ) (c : Compiled) → IsCompilation requested model_text data_text c → length c.text.items ≤ text_limit → IsReadBack c
