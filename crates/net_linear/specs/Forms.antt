-- Linear forms: sums of arcs with coefficients, and their arithmetic.
use Rattle.std.specs.Prelude.{ℕ, ◌≤◌, unsigned_abs, Bool, true, false, not, ◌&&◌, ◌||◌, List, [], ◌∷◌, nat_eq, Option, None, Some, if◌then◌else◌, Ok, ℤ, pos, negsuc, ◌+ℤ◌, ◌*ℤ◌, int_div, int_rem}
use Rattle.net_base.specs.declared.diagnostic.Span.{Span}
use Rattle.net_base.specs.declared.error_code.ErrorCode.TheVariants.{KindMismatch, DivMod, ValueTooLarge, NotLinear}
use Rattle.net_expr.specs.Limits.{is_small}
use Rattle.net_expr.specs.Numbers.{divides}
use Rattle.net_tree.specs.declared.operator.BinOp.{BinOp}
use Rattle.net_tree.specs.declared.operator.BinOp.TheVariants.{Plus, Minus, Times, Div, Mod}
use Rattle.net_base.specs.Outcomes.{Outcome, and_then, rejected}

-- numbers of arcs, each at most once, with their coefficients
abbrev pub Products : Type 0
Products = List (ℕ × ℤ)

-- an arc's coefficient
abbrev pub coefficient : Products → ℕ → ℤ
coefficient [] a = pos 0
coefficient (p ∷ ps) a = if nat_eq a p.0 then p.1 else coefficient ps a

-- c added to the coefficient of arc a
abbrev pub more : Products → ℕ → ℤ → Products
more [] a c = (a, c) ∷ []
more (p ∷ ps) a c = if nat_eq a p.0 then (p.0, p.1 +ℤ c) ∷ ps else p ∷ more ps a c

-- k times the second sum added to the first
abbrev pub with_times : Products → ℤ → Products → Products
with_times ps k [] = ps
with_times ps k (q ∷ qs) = with_times (more ps q.0 (k *ℤ q.1)) k qs

abbrev pub all_small : Products → Bool
all_small [] = true
all_small (p ∷ ps) = is_small p.1 && all_small ps

-- a linear form: a constant plus a sum of products
pub record Linear : Type 0 where
  pub constant : ℤ
  pub products : Products

abbrev pub just : ℤ → Linear
just n = record { constant = n; products = [] }

abbrev pub one_arc : ℕ → Linear
one_arc a = record { constant = pos 0; products = (a, pos 1) ∷ [] }

-- m + k * n
abbrev pub scaled_onto : ℤ → ℤ → ℤ → ℤ
scaled_onto m k n = m +ℤ k *ℤ n

-- f + k * g
abbrev pub combined : Linear → ℤ → Linear → Linear
combined f k g = record { constant = f.constant +ℤ k *ℤ g.constant; products = with_times f.products k g.products }

abbrev pub is_number : Products → Bool
is_number [] = true
is_number (p ∷ ps) = false

-- the value of an expression; None if it is not numeric
abbrev pub Term : Type 0
Term = Option Linear

-- the constant and each coefficient are within the limit
abbrev pub is_sized : Linear → Bool
is_sized f = is_small f.constant && all_small f.products

abbrev pub if_sized : Linear → Term
if_sized f = if is_sized f then Some f else None

abbrev pub within : Span → Term → Outcome Term
within at (Some f) = Ok (Some f)
within at None = rejected ValueTooLarge at

-- the result of arithmetic
abbrev pub sized : Span → Linear → Outcome Term
sized at f = within at (if_sized f)

abbrev pub minus_one : ℤ
minus_one = negsuc 0

-- at least one side must be constant
abbrev pub times : Span → Linear → Linear → Outcome Term
times at f g =
    if is_number f.products then sized at (combined (just (pos 0)) f.constant g)
    else if is_number g.products then sized at (combined (just (pos 0)) g.constant f)
    else rejected NotLinear at

abbrev pub quotient : Span → (ℤ → ℤ → ℤ) → ℤ → ℤ → Outcome Term
quotient at h m n = if divides m n then sized at (just (h m n)) else rejected DivMod at

-- both sides must be constant
abbrev pub divided : Span → (ℤ → ℤ → ℤ) → Linear → Linear → Outcome Term
divided at h f g = if is_number f.products && is_number g.products then quotient at h f.constant g.constant else rejected NotLinear at

abbrev pub joined : BinOp → Span → Linear → Linear → Outcome Term
joined Plus at f g = sized at (combined f (pos 1) g)
joined Minus at f g = sized at (combined f minus_one g)
joined Times at f g = times at f g
joined Div at f g = divided at int_div f g
joined Mod at f g = divided at int_rem f g
joined _ at f g = rejected NotLinear at

abbrev pub join : BinOp → Span → Term → Term → Outcome Term
join j at (Some f) (Some g) = joined j at f g
join j at _ _ = rejected KindMismatch at

-- k * f
abbrev pub scaled : Span → ℤ → Linear → Outcome Term
scaled at k f = sized at (combined (just (pos 0)) k f)

-- with an optional minus sign
abbrev pub turn : Bool → Span → Term → Outcome Term
turn minus at None = rejected KindMismatch at
turn true at (Some f) = scaled at minus_one f
turn false at (Some f) = Ok (Some f)

abbrev pub or_too_large : Span → Term → Outcome Linear
or_too_large at (Some f) = Ok f
or_too_large at None = rejected ValueTooLarge at

-- adds a cost coefficient of an arc, which is within the limit
abbrev pub priced : Span → Linear → ℕ → ℤ → Outcome Linear
priced at f arc price = if is_small price then or_too_large at (if_sized (combined f price (one_arc arc))) else rejected ValueTooLarge at

-- adds a term of a sum; only the total is checked against the limit
abbrev pub gathered : Span → Linear → Term → Outcome Linear
gathered at sum None = rejected KindMismatch at
gathered at sum (Some f) = Ok (combined sum (pos 1) f)

abbrev pub gathered_over : {S : Type 0} → Span → (S → Outcome Term) → List S → Linear → Outcome Linear
gathered_over at body [] sum = Ok sum
gathered_over at body (s ∷ ss) sum = and_then (body s) (λ u. and_then (gathered at sum u) (gathered_over at body ss))

abbrev pub total : {S : Type 0} → Span → (S → Outcome Term) → List S → Outcome Term
total at body ss = and_then (gathered_over at body ss (just (pos 0))) (sized at)

-- a term must be numeric
abbrev pub as_form : Span → Term → Outcome Linear
as_form at None = rejected KindMismatch at
as_form at (Some f) = Ok f

-- no arc occurs twice
abbrev pub stands_in : ℕ → Products → Bool
stands_in a [] = false
stands_in a (p ∷ ps) = nat_eq a p.0 || stands_in a ps

abbrev pub all_apart : Products → Bool
all_apart [] = true
all_apart (p ∷ ps) = not (stands_in p.0 ps) && all_apart ps

-- the value of the products at these values of the arcs
abbrev pub products_at : (ℕ → ℤ) → Products → ℤ
products_at x [] = pos 0
products_at x (p ∷ ps) = (p.1 *ℤ x p.0) +ℤ products_at x ps

abbrev pub form_at : (ℕ → ℤ) → Linear → ℤ
form_at x f = f.constant +ℤ products_at x f.products

-- the absolute values of the constant and of each coefficient are at most n
pub record AreWithin (n : ℕ) (f : Linear) : Type 0 where
  pub constant : unsigned_abs f.constant ≤ n
  pub products : (a : ℕ) → unsigned_abs (coefficient f.products a) ≤ n
