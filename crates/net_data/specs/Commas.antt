-- Commas in data statements: they are allowed anywhere and significant only in tuples.
use Rattle.std.specs.Prelude.{Bool, true, false, not, ◌&&◌, List, [], ◌∷◌, if◌then◌else◌, codes}
use Rattle.std.specs.List.{filter}
use Rattle.net_lex.specs.declared.token.Token.{Token}
use Rattle.net_data.specs.Tests.{is_word, is_mark, is_comma}

-- the position of a token: before a statement, in a set statement, in one of its tuples, in another
-- statement
pub data TokenPlace : Type 0 where
  before : TokenPlace
  in_set : TokenPlace
  in_tuple : TokenPlace
  elsewhere : TokenPlace

-- the position after a token
abbrev pub place_after : TokenPlace → Token → TokenPlace
place_after before token = if is_word (codes "set") token then in_set else elsewhere
place_after in_set token = if is_mark (codes ";") token then before else if is_mark (codes "(") token then in_tuple else in_set
place_after in_tuple token = if is_mark (codes ")") token then in_set else in_tuple
place_after elsewhere token = if is_mark (codes ";") token then before else elsewhere

abbrev pub skips : TokenPlace → Bool
skips in_tuple = false
skips _ = true

-- the tokens without the commas outside tuples
abbrev pub bare : TokenPlace → List Token → List Token
bare place [] = []
bare place (token ∷ tokens) = if skips place && is_comma token then bare place tokens else token ∷ bare (place_after place token) tokens

-- the tokens without commas
abbrev pub uncommaed : List Token → List Token
uncommaed tokens = filter (λ token. not (is_comma token)) tokens
