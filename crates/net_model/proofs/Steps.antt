-- The parser at a nesting depth and of a precedence, as the code takes them: by tests of numbers.
use Rattle.std.specs.Prelude.{◌≡◌, ◌<◌, ◌≤◌, ◌-◌, ℕ, zero, suc, Bool, true, false, [], ◌∷◌, Option, None, Some, Ok, if◌then◌else◌}
use Rattle.std.proofs.Common.{refl, ap, arith}
use Rattle.net_lex.specs.declared.token.Token.{Token}
use Rattle.net_tree.specs.Precedence.{of_or}
use Rattle.net_tree.specs.Role.{role_of}
use Rattle.net_tree.specs.Tree.{negated}
use Rattle.net_model.specs.declared.expected.Expected.TheVariants as sorts
use Rattle.net_model.specs.declared.model_parser.Awaiting.TheVariants as awaiting
use Rattle.net_model.specs.Reading.{Tokens, Read, ◌>>=◌, read_as, rejected, too_deep, is_sort, expect}
use Rattle.net_model.specs.Expressions.{Reader, Inner, nested, inner_of, climb, chain_at, braces, braces_at, negated_at, not_shut}

pub inside-none : (d : ℕ) → d ≡ 0 → nested d ≡ None
unfolding nested
inside-none d h = ap nested h

pub inside-some : (d : ℕ) → (d ≡ 0 → ⊥) → nested d ≡ Some (inner_of (nested (d - 1)))
unfolding nested
inside-some zero h = absurd (h refl)
inside-some (suc d) h = let e : d ≡ suc d - 1 = omega arith in ap (λ k. Some (inner_of (nested k))) e

pub climb-low : (n : ℕ) (u : Reader) → n < 2 → climb n u ≡ u
unfolding climb
climb-low zero u h = refl
climb-low (suc zero) u h = refl
climb-low (suc (suc n)) u h = absurd (omega arith)

pub climb-high : (n : ℕ) (u : Reader) → 2 ≤ n → climb n u ≡ chain_at (n - 1) (climb (n - 1) u)
unfolding climb
climb-high zero u h = absurd (omega arith)
climb-high (suc zero) u h = absurd (omega arith)
climb-high (suc (suc n)) u h = let e : suc n ≡ suc (suc n) - 1 = omega arith in ap (λ k. chain_at k (climb k u)) e

-- parses one level deeper, or stops at these tokens if no level is left
abbrev pub one_deeper : {A : Type 0} → Option Inner → Tokens → (Inner → Read A) → Read A
one_deeper None ts read = too_deep ts
one_deeper (Some i) ts read = read i

-- the test for an opening token at the maximum depth, as the attempt to consume it
shut-step : {A : Type 0} (b : Bool) (x : Token × Tokens) (ts : Tokens)
    → ◌≡◌ {A = Read A} (if b then too_deep ts else rejected awaiting.Other ts) ((if b then Ok x else rejected awaiting.Other ts) >>= λ o. too_deep ts)
shut-step true x ts = refl
shut-step false x ts = refl

pub braces-opened : (o : Option Inner) (ts : Tokens) → braces o ts ≡ (expect sorts.OpenBrace awaiting.Other ts >>= λ b. one_deeper o ts (λ i. braces_at i b.0 b.1))
unfolding braces expect
braces-opened None [] = refl
braces-opened None (t ∷ ts) = shut-step (is_sort sorts.OpenBrace (role_of t)) (t, ts) (t ∷ ts)
braces-opened (Some i) ts = refl

pub negated-opened : (o : Option Inner) (n : Token) (ts : Tokens)
    → negated_at o n ts
    ≡ (expect sorts.Open awaiting.Other ts >>= λ b. one_deeper o ts (λ i. i.at of_or b.1 >>= λ x. expect sorts.Close awaiting.Other x.1 >>= λ c. read_as (negated n b.0 x.0 c.0) c.1))
unfolding negated_at not_shut expect
negated-opened None n [] = refl
negated-opened None n (t ∷ ts) = shut-step (is_sort sorts.Open (role_of t)) (t, ts) (t ∷ ts)
negated-opened (Some i) n ts = refl
