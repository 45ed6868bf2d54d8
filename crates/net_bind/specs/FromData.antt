-- Parameters whose values all come from the data: nothing is evaluated at a key.
use Rattle.std.specs.Prelude.{◌≡◌, Bool, true, ◌&&◌, ◌||◌, List, [], ◌∷◌, Option, None, Some, is_some, Result, Ok, Err, ℤ, ⊤}
use Rattle.net_base.specs.declared.diagnostic.Fault.{Fault}
use Rattle.net_base.specs.declared.diagnostic.Fault.TheVariants.{OutOfMemory, At}
use Rattle.net_base.specs.Outcomes.{Outcome, and_then}
use Rattle.net_sets.specs.declared.member.Member.{Member}
use Rattle.net_tree.specs.declared.role.Relation.{Relation}
use Rattle.net_tree.specs.Numerals.{number_of}
use Rattle.net_tree.specs.Phrases.{is_becomes, is_default}
use Rattle.net_tree.specs.PhraseValues.{phrase_value}
use Rattle.net_tree.specs.Spans.{span_of}
use Rattle.net_tree.specs.Tree.{Tree, leaf, Body, valued, Phrase}
use Rattle.net_expr.specs.declared.world.Entry.{Entry}
use Rattle.net_expr.specs.Operators.{member}
use Rattle.net_expr.specs.Values.{value}
use Rattle.net_expr.specs.Worlds.{World, reference}
use Rattle.net_bind.specs.BoundParameters.{source, is_number, takes_texts}
use Rattle.net_bind.specs.Rows.{KeyedParameter}
use Rattle.net_bind.specs.Restrictions.{relation, restricted}

-- the value of a numeral, which is the same at each key
abbrev pub numeral : Tree → Option ℤ
numeral (leaf t) = number_of t
numeral _ = None

abbrev pub is_numeral : Tree → Bool
is_numeral x = is_some (numeral x)

abbrev pub compares : Option Relation → Body → Bool
compares (Some r) (valued x) = is_numeral x
compares _ _ = true

-- each phrase that restricts values compares them with a numeral
abbrev pub are_constant : List Phrase → Bool
are_constant [] = true
are_constant (p ∷ ps) = compares (relation p.word) p.body && are_constant ps

-- a value is of the parameter's kind, and its phrases allow it
abbrev pub Fits : World → KeyedParameter → Member → Type 0
Fits w p m = ((takes_texts p.phrases || is_number m) ≡ true) × (restricted w [] (reference p.name.text p.keys []) m p.phrases ≡ Ok tt)

-- an expression is a numeral with this value
pub record IsNumeral (w : World) (x : Tree) (m : Member) : Type 0 where
  pub numeral : is_numeral x ≡ true
  pub valued : and_then (value w [] x) (member (span_of x)) ≡ Ok m

-- the phrases give this value at each key without one
abbrev pub IsGiven : World → Option Tree → Member → Type 0
IsGiven w None m = ⊥
IsGiven w (Some x) m = IsNumeral w x m

abbrev pub IsSame : World → List Phrase → Member → Type 0
IsSame w ps = IsGiven w (source (phrase_value is_becomes ps) None (phrase_value is_default ps)).0

-- what is returned, if anything is, is what is wanted
abbrev pub Answers : Outcome Entry → Result (Option Entry) Fault → Type 0
Answers wanted (Ok (Some e)) = wanted ≡ Ok e
Answers wanted (Ok None) = ⊤
Answers wanted (Err OutOfMemory) = ⊤
Answers wanted (Err (At r)) = wanted ≡ Err r
