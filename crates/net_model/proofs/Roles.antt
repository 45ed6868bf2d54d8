-- The role that a cursor keeps decides what the tests of the next token return.
use Rattle.std.specs.Prelude.{◌≡◌, ◌<◌, ◌+◌, ◌&&◌, ℕ, zero, suc, Bool, false, true, [], ◌∷◌, length, drop, None, Some, is_some, if◌then◌else◌}
use Rattle.std.proofs.Common.{refl, ap, ◌∙◌, arith}
use Rattle.net_lex.specs.declared.token.Token.{Token}
use Rattle.net_tree.specs.declared.role.Role.{Role}
use Rattle.net_tree.specs.Role.{role_of, is_sign, is_net}
use Rattle.net_model.specs.Conditions.{signed_net_next}
use Rattle.net_model.specs.Declarations.{any_left}
use Rattle.net_model.specs.Reading.{Tokens, first_role, next_is}

pub next_some : (test : Role → Bool) (ts : Tokens) (r : Role) → first_role ts ≡ Some r → next_is test ts ≡ test r
next_some test [] r h = absurd (cc)
next_some test (t ∷ ts) r h = cc

pub next_none : (test : Role → Bool) (ts : Tokens) → first_role ts ≡ None → next_is test ts ≡ false
next_none test [] h = refl
next_none test (t ∷ ts) h = absurd (cc)

pub any_some : (ts : Tokens) → any_left ts ≡ is_some (first_role ts)
any_some [] = refl
any_some (t ∷ ts) = refl

pub none_left : (ts : Tokens) → first_role ts ≡ None → ts ≡ []
none_left [] h = refl
none_left (t ∷ ts) h = absurd (cc)

-- the token that was consumed has the role that was kept
pub role_first : (ts rest : Tokens) (t : Token) (r : Role) → first_role ts ≡ Some r → ts ≡ t ∷ rest → (ts ≡ t ∷ rest) × (r ≡ role_of t)
role_first ts rest t r h e = (e, cc)

pub some_within : (n : ℕ) (ts : Tokens) (r : Role) → first_role (drop n ts) ≡ Some r → n < length ts
some_within zero [] r h = absurd (cc)
some_within zero (t ∷ ts) r h = omega arith
some_within (suc n) [] r h = absurd (cc)
some_within (suc n) (t ∷ ts) r h = omega (arith, some_within n ts r h)

pub next_within : (test : Role → Bool) (n : ℕ) (ts : Tokens) → next_is test (drop n ts) ≡ true → n < length ts
next_within test zero [] h = absurd (cc)
next_within test zero (t ∷ ts) h = omega arith
next_within test (suc n) [] h = absurd (cc)
next_within test (suc n) (t ∷ ts) h = omega (arith, next_within test n ts h)

if-and : (b c : Bool) → (if b then c else false) ≡ (b && c)
if-and true c = refl
if-and false c = refl

signed-after : (n : ℕ) (ts : Tokens) → signed_net_next (drop n ts) ≡ (next_is is_sign (drop n ts) && next_is is_net (drop (suc n) ts))
signed-after zero [] = refl
signed-after zero (t ∷ ts) = if-and (is_sign (role_of t)) (next_is is_net ts)
signed-after (suc n) [] = refl
signed-after (suc n) (t ∷ ts) = signed-after n ts

pub signed-next : (n : ℕ) (ts : Tokens) → signed_net_next (drop n ts) ≡ (next_is is_sign (drop n ts) && next_is is_net (drop (n + 1) ts))
signed-next n ts = let e : suc n ≡ n + 1 = omega arith in signed-after n ts ∙ ap (λ k. next_is is_sign (drop n ts) && next_is is_net (drop k ts)) e

pub ruleset roles = (next_some, next_none, any_some, none_left, some_within, next_within, signed-next)
