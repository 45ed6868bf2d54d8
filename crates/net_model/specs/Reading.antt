-- Parsing from left to right: a parser consumes tokens from the beginning, or stops at the first
-- token that is not allowed.
use Rattle.std.specs.Prelude.{◌≡◌, Bool, false, List, [], ◌∷◌, length, Option, None, Some, Result, Ok, Err, if◌then◌else◌}
use Rattle.net_lex.specs.declared.token.Token.{Token}
use Rattle.net_tree.specs.declared.role.Role.{Role}
use Rattle.net_tree.specs.Role.{role_of, is_name, is_number, is_open, is_close, is_open_brace, is_close_brace, is_open_square, is_close_square, is_colon, is_semicolon, is_if, is_then, is_else, is_membership, is_bound, is_net, is_sign, is_comma}
use Rattle.net_model.specs.declared.model_parser.Awaiting.{Awaiting}
use Rattle.net_model.specs.declared.model_parser.ParseError.{ParseError}
use Rattle.net_model.specs.declared.model_parser.ParseError.TheVariants as stops
use Rattle.net_model.specs.declared.expected.Expected.{Expected}
use Rattle.net_model.specs.declared.expected.Expected.TheVariants as sorts

abbrev pub Tokens : Type 0
Tokens = List Token

-- the parsed value and the remaining tokens, or an error
abbrev pub Read : Type 0 → Type 0
Read A = Result (A × Tokens) ParseError

infixl 10 ◌>>=◌
abbrev pub ◌>>=◌ : {A B : Type 0} → Result A ParseError → (A → Result B ParseError) → Result B ParseError
(Ok x) >>= f = f x
(Err e) >>= f = Err e

abbrev pub read_as : {A : Type 0} → A → Tokens → Read A
read_as x rest = Ok (x, rest)

-- the first of these tokens, or the end of the text, is not allowed
abbrev pub rejected : {A : Type 0} → Awaiting → Tokens → Read A
rejected a ts = Err (stops.Rejected (length ts) a)

-- the first of these tokens exceeds the nesting limit
abbrev pub too_deep : {A : Type 0} → Tokens → Read A
too_deep ts = Err (stops.TooDeep (length ts))

abbrev pub first_role : Tokens → Option Role
first_role [] = None
first_role (t ∷ ts) = Some (role_of t)

abbrev pub next_is : (Role → Bool) → Tokens → Bool
next_is test [] = false
next_is test (t ∷ ts) = test (role_of t)

abbrev pub is_sort : Expected → Role → Bool
is_sort sorts.Name r = is_name r
is_sort sorts.Number r = is_number r
is_sort sorts.Open r = is_open r
is_sort sorts.Close r = is_close r
is_sort sorts.OpenBrace r = is_open_brace r
is_sort sorts.CloseBrace r = is_close_brace r
is_sort sorts.OpenSquare r = is_open_square r
is_sort sorts.CloseSquare r = is_close_square r
is_sort sorts.Comma r = is_comma r
is_sort sorts.Colon r = is_colon r
is_sort sorts.Semicolon r = is_semicolon r
is_sort sorts.If r = is_if r
is_sort sorts.Then r = is_then r
is_sort sorts.Else r = is_else r
is_sort sorts.Membership r = is_membership r
is_sort sorts.Bound r = is_bound r
is_sort sorts.Sign r = is_sign r
is_sort sorts.Net r = is_net r

-- a token of this sort
unfoldable pub expect : Expected → Awaiting → Tokens → Read Token
expect s a [] = rejected a []
expect s a (t ∷ ts) = if is_sort s (role_of t) then Ok (t, ts) else rejected a (t ∷ ts)

-- The result of a call, as the specification sees it, and the remaining tokens are as the
-- definition gives, unless memory ran out.
abbrev pub Fails : {A : Type 0} → ParseError → Read A → Type 0
Fails stops.OutOfMemory read = Unit {0}
Fails (stops.Rejected n a) read = read ≡ Err (stops.Rejected n a)
Fails (stops.TooDeep n) read = read ≡ Err (stops.TooDeep n)

abbrev pub Gives : {X A : Type 0} → (X → A) → Result X ParseError → Tokens → Read A → Type 0
Gives view (Ok x) rest read = read ≡ Ok (view x, rest)
Gives view (Err e) rest read = Fails e read
