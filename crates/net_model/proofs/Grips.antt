-- Which tokens go on with an expression that was read.
use Rattle.std.specs.Prelude.{◌≡◌, ◌≤◌, ◌<◌, ◌&&◌, ℕ, zero, suc, Bool, true, false, nat_eq, [], ◌∷◌}
use Rattle.std.proofs.Common.{refl, sym, ap, arith}
use Rattle.std.proofs.lemmas.Bool.{eqb-true}
use Rattle.std.proofs.lemmas.Bool.Decides.{nat_tests}
use Rattle.net_tree.specs.declared.operator.OperatorWords.{OperatorWords as Operator}
use Rattle.net_tree.specs.declared.operator.OperatorWords.TheVariants.{One, Two}
use Rattle.net_tree.specs.declared.role.Role.{Role}
use Rattle.net_tree.specs.declared.role.Role.TheVariants as roles
use Rattle.net_tree.specs.Role.{role_of, is_open_square, is_close, is_close_square, is_close_brace, is_colon, is_then, is_else, is_semicolon}
use Rattle.net_tree.specs.Print.{put_operator}
use Rattle.net_tree.specs.WellFormed.{joins, head_of}
use Rattle.net_model.specs.Reading.{Tokens, next_is}
use Rattle.net_model.specs.Expressions.{ends_braces}

-- the precedence of the operands that a token joins; 0 for what opens subscripts, 20 for what goes on with no operand
abbrev pub grip : Role → ℕ
grip roles.OpenSquare = 0
grip (roles.Joining zero) = 20
grip (roles.Joining (suc zero)) = 20
grip (roles.Joining (suc (suc m))) = suc m
grip roles.Sign = 2
grip roles.Range = 3
grip roles.By = 3
grip (roles.Relation r) = 7
grip roles.Not = 7
grip _ = 20

abbrev pub next_grip : Tokens → ℕ
next_grip [] = 20
next_grip (t ∷ ts) = grip (role_of t)

-- the next token joins no operands of this precedence or a tighter one
abbrev pub Stops : ℕ → Tokens → Type 0
Stops n ts = n < next_grip ts

unlike : (n m : ℕ) → (n ≡ m → ⊥) → nat_eq n m ≡ false
unlike n m h = grind (arith, nat_tests)

not_joined : (n k : ℕ) (r : Role) → 0 < n → n < grip r → joins n k r ≡ false
not_joined n k roles.Comma low h = unlike n 0 (λ e. omega (arith, e))
not_joined n k (roles.Joining zero) low h = unlike n 0 (λ e. omega (arith, e))
not_joined n k (roles.Joining (suc zero)) low h = unlike n 0 (λ e. omega (arith, e))
not_joined n k (roles.Joining (suc (suc m))) low h = unlike n (suc m) (λ e. omega (arith, e))
not_joined n k roles.Sign low h = unlike n 2 (λ e. omega (arith, e))
not_joined n k roles.Range low h = ap (λ b. b && nat_eq k 0) (unlike n 3 (λ e. omega (arith, e)))
not_joined n k roles.By low h = ap (λ b. b && nat_eq k 1) (unlike n 3 (λ e. omega (arith, e)))
not_joined n k (roles.Relation r) low h = ap (λ b. b && nat_eq k 0) (unlike n 7 (λ e. omega (arith, e)))
not_joined n k roles.Not low h = ap (λ b. b && nat_eq k 0) (unlike n 7 (λ e. omega (arith, e)))
not_joined n k _ low h = refl

pub stops-joins : (n p k : ℕ) (ts : Tokens) → 0 < n → n ≤ p → Stops p ts → next_is (joins n k) ts ≡ false
stops-joins n p k [] low high h = refl
stops-joins n p k (t ∷ ts) low high h = not_joined n k (role_of t) low (omega arith)

both : (b c : Bool) → (b && c) ≡ true → b ≡ true
both true c h = refl
both false c h = absurd (cc)

same_rank : (n m : ℕ) (b : Bool) → (nat_eq n m && b) ≡ true → n ≡ m
same_rank n m b h = eqb-true n m (both (nat_eq n m) b h)

-- what joins operands of a precedence has that grip
pub joins-grip : (n k : ℕ) (r : Role) → 0 < n → joins n k r ≡ true → grip r ≡ n
joins-grip n k roles.Comma low h = absurd (let e = eqb-true n 0 h in omega (arith, e))
joins-grip n k (roles.Joining zero) low h = absurd (let e = eqb-true n 0 h in omega (arith, e))
joins-grip n k (roles.Joining (suc zero)) low h = absurd (let e = eqb-true n 0 h in omega (arith, e))
joins-grip n k (roles.Joining (suc (suc m))) low h = sym (eqb-true n (suc m) h)
joins-grip n k roles.Sign low h = sym (eqb-true n 2 h)
joins-grip n k roles.Range low h = sym (same_rank n 3 (nat_eq k 0) h)
joins-grip n k roles.By low h = sym (same_rank n 3 (nat_eq k 1) h)
joins-grip n k (roles.Relation r) low h = sym (same_rank n 7 (nat_eq k 0) h)
joins-grip n k roles.Not low h = sym (same_rank n 7 (nat_eq k 0) h)
joins-grip n k _ low h = absurd (cc)

-- what joins the parts of a list joins no operands
pub list-grip : (k : ℕ) (r : Role) → joins 0 k r ≡ true → grip r ≡ 20
list-grip k roles.Comma h = refl
list-grip k (roles.Joining zero) h = refl
list-grip k (roles.Joining (suc zero)) h = refl
list-grip k (roles.Joining (suc (suc m))) h = absurd (let e = eqb-true 0 (suc m) h in omega (arith, e))
list-grip k _ h = absurd (cc)

pub next_grip-operator : (o : Operator) (r : Tokens) → next_grip (put_operator o r) ≡ grip (role_of (head_of o))
next_grip-operator (One t) r = refl
next_grip-operator (Two t u) r = refl

no_square : (r : Role) → 0 < grip r → is_open_square r ≡ false
no_square roles.OpenSquare h = absurd (omega arith)
no_square _ h = refl

pub stops-square : (ts : Tokens) → Stops 0 ts → next_is is_open_square ts ≡ false
stops-square [] h = refl
stops-square (t ∷ ts) h = no_square (role_of t) h

-- a token that goes on with nothing
pub record Shuts (r : Role) : Type 0 where
  pub grips : grip r ≡ 20
  pub ends : (k : ℕ) → joins 0 k r ≡ false

pub close-shuts : (r : Role) → is_close r ≡ true → Shuts r
close-shuts roles.Close h = record { grips = refl; ends = λ k. refl }
close-shuts _ h = absurd (cc)

pub close_square-shuts : (r : Role) → is_close_square r ≡ true → Shuts r
close_square-shuts roles.CloseSquare h = record { grips = refl; ends = λ k. refl }
close_square-shuts _ h = absurd (cc)

pub close_brace-shuts : (r : Role) → is_close_brace r ≡ true → Shuts r
close_brace-shuts roles.CloseBrace h = record { grips = refl; ends = λ k. refl }
close_brace-shuts _ h = absurd (cc)

pub colon-shuts : (r : Role) → is_colon r ≡ true → Shuts r
colon-shuts roles.Colon h = record { grips = refl; ends = λ k. refl }
colon-shuts _ h = absurd (cc)

pub then-shuts : (r : Role) → is_then r ≡ true → Shuts r
then-shuts roles.Then h = record { grips = refl; ends = λ k. refl }
then-shuts _ h = absurd (cc)

pub else-shuts : (r : Role) → is_else r ≡ true → Shuts r
else-shuts roles.Else h = record { grips = refl; ends = λ k. refl }
else-shuts _ h = absurd (cc)

pub semicolon-shuts : (r : Role) → is_semicolon r ≡ true → Shuts r
semicolon-shuts roles.Semicolon h = record { grips = refl; ends = λ k. refl }
semicolon-shuts _ h = absurd (cc)

pub close-no_else : (r : Role) → is_close r ≡ true → is_else r ≡ false
close-no_else roles.Close h = refl
close-no_else _ h = absurd (cc)

pub close_brace-no_colon : (r : Role) → is_close_brace r ≡ true → is_colon r ≡ false
close_brace-no_colon roles.CloseBrace h = refl
close_brace-no_colon _ h = absurd (cc)

pub colon-hollow : (r : Role) → is_colon r ≡ true → ends_braces r ≡ true
colon-hollow roles.Colon h = refl
colon-hollow _ h = absurd (cc)

pub close_brace-hollow : (r : Role) → is_close_brace r ≡ true → ends_braces r ≡ true
close_brace-hollow roles.CloseBrace h = refl
close_brace-hollow _ h = absurd (cc)

-- how tight a token may join that comes behind a tree of this precedence, at most
abbrev pub reach : ℕ → ℕ
reach zero = 0
reach (suc zero) = 1
reach (suc (suc n)) = suc n

pub reach-le : (r : ℕ) → reach r ≤ r
reach-le zero = omega arith
reach-le (suc zero) = omega arith
reach-le (suc (suc n)) = omega arith

pub reach-below : (r p : ℕ) → r ≤ suc p → 0 < p → reach r ≤ p
reach-below zero p h low = omega arith
reach-below (suc zero) p h low = omega arith
reach-below (suc (suc n)) p h low = omega arith
