-- One token of a statement, read and printed.
use Rattle.std.proofs.Common.{◌≡◌, ℕ, Bool, true, false, List, ◌∷◌, Option, Some, Result, Ok, Err, refl, ap, sym, ◌∙◌, codes}
use Rattle.std.specs.Str.{bytes_eq}
use Rattle.net_lex.specs.declared.token.Token.{Token}
use Rattle.net_data.specs.declared.data_parser.ParseError.{ParseError}
use Rattle.net_data.specs.Tests.{is_name, is_member, is_word, is_mark}
use Rattle.net_data.specs.Commas.{TokenPlace, before, in_set, elsewhere, place_after, skips, bare}
use Rattle.net_data.specs.Reading.{wanted, met, semicolon, ◌>>=◌}
use Rattle.net_data.proofs.Bare.{took, took_met, takes}
use Rattle.net_data.proofs.Places.{after_set, after_word, set_name, set_mark, set_end, else_name, else_member, else_word, else_mark, else_end}

-- a token that passes leads from one place to the other
pub record Moves (here there : TokenPlace) (test : Token → Bool) : Type 0 where
  pub skips : skips here ≡ true
  pub moves : (token : Token) → test token ≡ true → place_after here token ≡ there

pub to_set : Moves before in_set (is_word (codes "set"))
to_set = record { skips = refl; moves = after_set }

pub to_else : (word : List ℕ) → bytes_eq (codes "set") word ≡ false → Moves before elsewhere (is_word word)
to_else word apart = record { skips = refl; moves = λ token. after_word word token apart }

pub in_set_name : Moves in_set in_set is_name
in_set_name = record { skips = refl; moves = set_name }

pub in_set_mark : (text : List ℕ) → bytes_eq (codes ";") text ≡ false → bytes_eq (codes "(") text ≡ false → Moves in_set in_set (is_mark text)
in_set_mark text a b = record { skips = refl; moves = λ token. set_mark text token a b }

pub in_set_end : Moves in_set before semicolon
in_set_end = record { skips = refl; moves = set_end }

pub in_name : Moves elsewhere elsewhere is_name
in_name = record { skips = refl; moves = else_name }

pub in_member : Moves elsewhere elsewhere is_member
in_member = record { skips = refl; moves = else_member }

pub in_word : (word : List ℕ) → Moves elsewhere elsewhere (is_word word)
in_word word = record { skips = refl; moves = else_word word }

pub in_mark : (text : List ℕ) → bytes_eq (codes ";") text ≡ false → Moves elsewhere elsewhere (is_mark text)
in_mark text apart = record { skips = refl; moves = λ token. else_mark text token apart }

pub in_end : Moves elsewhere before semicolon
in_end = record { skips = refl; moves = else_end }

-- a token that is read is the first that is printed
pub record Got (here there : TokenPlace) (test : Token → Bool) (tokens : List Token) (token : Token) (rest : List Token) : Type 0 where
  pub printed : bare here tokens ≡ token ∷ bare there rest
  pub passes : test token ≡ true

pub got : (here there : TokenPlace) (test : Token → Bool) (tokens : List Token) (x : Token × List Token) → Moves here there test → wanted test tokens ≡ Ok x → Got here there test tokens x.0 x.1
got here there test tokens x m h =
    let t = took here test tokens x m.skips h in
    record { printed = t.printed ∙ ap (λ p. x.0 ∷ bare p x.1) (m.moves x.0 t.passes); passes = t.passes }

pub got_met : (here there : TokenPlace) (test : Token → Bool) (tokens : List Token) (x : Token × List Token) → Moves here there test → met test tokens ≡ Some x → Got here there test tokens x.0 x.1
got_met here there test tokens x m h =
    let t = took_met here test tokens x m.skips h in
    record { printed = t.printed ∙ ap (λ p. x.0 ∷ bare p x.1) (m.moves x.0 t.passes); passes = t.passes }

-- the first that is printed, if it passes, is read
pub record Gives (there : TokenPlace) (test : Token → Bool) (tokens : List Token) (token : Token) (more : List Token) : Type 0 where
  pub rest : List Token
  pub read : wanted test tokens ≡ Ok (token, rest)
  pub met : met test tokens ≡ Some (token, rest)
  pub left : bare there rest ≡ more

pub gives : (here there : TokenPlace) (test : Token → Bool) (tokens more : List Token) (token : Token) → Moves here there test → bare here tokens ≡ token ∷ more → test token ≡ true → Gives there test tokens token more
gives here there test tokens more token m h pass =
    let t = takes here test tokens more token m.skips h pass in
    record { rest = t.rest; read = t.read; met = t.met; left = ap (λ p. bare p t.rest) (sym (m.moves token pass)) ∙ t.left }

-- the parts of what is read in two steps
pub record Bound {A B : Type 0} (read : Result A ParseError) (f : A → Result B ParseError) (y : B) : Type 0 where
  pub value : A
  pub first : read ≡ Ok value
  pub then : f value ≡ Ok y

pub bind_ok : {A B : Type 0} (read : Result A ParseError) (f : A → Result B ParseError) (y : B) → (read >>= f) ≡ Ok y → Bound read f y
bind_ok (Ok x) f y h = record { value = x; first = refl; then = h }
bind_ok (Err e) f y h = absurd (cc)

pub ok_is : {A : Type 0} (x y : A) → (let r : Result A ParseError = Ok x in r ≡ Ok y) → x ≡ y
ok_is x y h = cc

pub some_is : {A : Type 0} (x y : A) → (let o : Option A = Some x in o ≡ Some y) → x ≡ y
some_is x y h = cc
