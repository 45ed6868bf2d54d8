-- The grammar of data files derives what `Mean` accepts, and nothing else.
use Rattle.std.specs.Prelude.{◌≡◌, List, Ok}
use Rattle.net_lex.specs.declared.token.Token.{Token}
use Rattle.net_data.specs.declared.statement.Tables.{Tables}
use Rattle.net_data.specs.Meaning.{Mean, all_judged}
use Rattle.net_data.specs.Grammar.{IsDataFile}

-- the grammar derives tokens that are these statements, if their tables are complete
abbrev pub IsComplete : Type 0
IsComplete = (tokens : List Token) (tables : Tables) → Mean tokens tables → all_judged tables.statements ≡ Ok tt → IsDataFile tables tokens

-- tokens that the grammar derives are these statements, and their tables are complete
abbrev pub IsSound : Type 0
IsSound = (tokens : List Token) (tables : Tables) → IsDataFile tables tokens → Mean tokens tables × (all_judged tables.statements ≡ Ok tt)

-- the grammar derives tokens as one list of statements only
abbrev pub IsUnambiguous : Type 0
IsUnambiguous = (tokens : List Token) (x y : Tables) → IsDataFile x tokens → IsDataFile y tokens → x ≡ y
