-- The names in scope at a position of a model, in the order in which they were declared.
use Rattle.std.specs.Prelude.{ℕ, List, [], ◌∷◌, ◌++◌, Option}
use Rattle.net_lex.specs.declared.token.Token.{Token}
use Rattle.net_sets.specs.Names.{named}
use Rattle.net_names.specs.declared.meaning.Meaning.{Meaning}

abbrev pub Name : Type 0
Name = List ℕ

abbrev pub NameScope : Type 0
NameScope = List (Name × Meaning)

-- the meaning of a name
abbrev pub meaning_in : Name → NameScope → Option Meaning
meaning_in name s = named s name

abbrev pub with_name : NameScope → Token → Meaning → NameScope
with_name s t m = s ++ (t.text, m) ∷ []
