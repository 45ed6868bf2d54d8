-- What forms are worth, and what arithmetic makes of them.
use Rattle.std.specs.Prelude.{◌≡◌, ℕ, Bool, true, false, not, ◌&&◌, List, [], ◌∷◌, Option, None, Some, if◌then◌else◌, Result, Ok, Err, IfOk, ℤ, pos, negsuc, ◌+ℤ◌, ◌-ℤ◌, ◌*ℤ◌, neg_ℤ, nat_eq, int_div, int_rem}
use Rattle.std.proofs.Common.{refl, ap, sym, ◌∙◌, arith}
use Rattle.std.proofs.lemmas.Int.{ints}
use lib.IntN.{*ℤ_comm}
use Rattle.net_base.specs.declared.diagnostic.Span.{Span}
use Rattle.net_tree.specs.Spans.{span_of}
use Rattle.net_tree.specs.Tree.{Tree}
use Rattle.net_expr.specs.declared.row.Row.{Row}
use Rattle.net_expr.specs.declared.row.Keys.{Keys}
use Rattle.net_base.specs.declared.error_code.ErrorCode.TheVariants.{ValueTooLarge, DivMod, NotLinear}
use Rattle.net_expr.specs.Limits.{is_small}
use Rattle.net_expr.specs.Numbers.{turned, divides}
use Rattle.net_expr.specs.Worlds.{World, Scope}
use Rattle.net_tree.specs.declared.operator.BinOp.{BinOp}
use Rattle.net_tree.specs.declared.operator.BinOp.TheVariants.{Plus, Minus, Times, Div, Mod}
use Rattle.net_linear.specs.Conditions.{number_of}
use Rattle.net_linear.specs.Forms.{Products, more, with_times, all_small, Linear, just, one_arc, combined, is_number, Term, sized, minus_one, is_sized, within, times, divided, joined, join, turn, gathered, gathered_over, total, as_form, or_too_large, priced, products_at, form_at}
use Rattle.net_linear.specs.Objectives.{plain_term, mixed, linear}
use Rattle.net_base.specs.Outcomes.{Outcome, Refines, and_then, rejected}
use Rattle.net_linear.specs.Amounts.{number_or_none}
use Rattle.net_base.specs.declared.diagnostic.Fault.{Fault}
use Rattle.net_linear.specs.ObjectiveValues.{read, number_at, combine, sum_over, sum_in, choose}
use Rattle.net_normal.proofs.WholeNumbers.{mul-add}
use Rattle.net_linear.proofs.Ranges.{ok_then}
use Rattle.net_linear.proofs.Rings.{add-mul, mul-none, one-mul, minus-mul, mul-mul}

abbrev pub term_at : (ℕ → ℤ) → Term → ℤ
term_at x None = pos 0
term_at x (Some f) = form_at x f

abbrev Comes : Term → Outcome Term → Type 0
Comes r o = o ≡ Ok r

pub same_term : (f : Linear) (r : Term) (x : ℕ → ℤ) → Comes r (Ok (Some f)) → term_at x r ≡ form_at x f
same_term f r x e = let same : Some f ≡ r = cc in ap (term_at x) (sym same)

no_term : (r : Term) (x : ℕ → ℤ) → Comes r (Ok None) → term_at x r ≡ pos 0
no_term r x e = let same : None ≡ r = cc in ap (term_at x) (sym same)

-- sums of products
is_arc_of : (a b : ℕ) → nat_eq a b ≡ true → a ≡ b
is_arc_of a b h = grind (arith)

total_more : (x : ℕ → ℤ) (ps : Products) (a : ℕ) (c : ℤ) → products_at x (more ps a c) ≡ products_at x ps +ℤ c *ℤ x a
total_more x [] a c = omega (arith, ints)
total_more x (p ∷ ps) a c = step (nat_eq a p.0) refl (total_more x ps a c)
  where
    step : (b : Bool) → nat_eq a p.0 ≡ b → products_at x (more ps a c) ≡ products_at x ps +ℤ c *ℤ x a
        → products_at x (if b then (p.0, p.1 +ℤ c) ∷ ps else p ∷ more ps a c) ≡ (p.1 *ℤ x p.0 +ℤ products_at x ps) +ℤ c *ℤ x a
    step true h r = omega (arith, ints, add-mul p.1 c (x p.0), ap (λ (i : ℕ). c *ℤ x i) (is_arc_of a p.0 h))
    step false h r = omega (arith, ints, r)

total_with : (x : ℕ → ℤ) (ps : Products) (k : ℤ) (qs : Products) → products_at x (with_times ps k qs) ≡ products_at x ps +ℤ k *ℤ products_at x qs
total_with x ps k [] = omega (arith, ints, mul-none k)
total_with x ps k (q ∷ qs) =
    omega (arith, ints, total_with x (more ps q.0 (k *ℤ q.1)) k qs, total_more x ps q.0 (k *ℤ q.1), mul-mul k q.1 (x q.0), mul-add k (q.1 *ℤ x q.0) (products_at x qs))

pub form_combined : (x : ℕ → ℤ) (f : Linear) (k : ℤ) (g : Linear) → form_at x (combined f k g) ≡ form_at x f +ℤ k *ℤ form_at x g
form_combined x f k g = omega (arith, ints, total_with x f.products k g.products, mul-add k g.constant (products_at x g.products))

pub form_just : (x : ℕ → ℤ) (n : ℤ) → form_at x (just n) ≡ n
form_just x n = omega (arith, ints)

form_scaled : (x : ℕ → ℤ) (k : ℤ) (g : Linear) → form_at x (combined (just (pos 0)) k g) ≡ k *ℤ form_at x g
form_scaled x k g = omega (arith, ints, form_combined x (just (pos 0)) k g, form_just x (pos 0))

pub form_arc : (x : ℕ → ℤ) (a : ℕ) → form_at x (one_arc a) ≡ x a
form_arc x a = omega (arith, ints, one-mul (x a))

number_alone : (x : ℕ → ℤ) (f : Linear) → is_number f.products ≡ true → form_at x f ≡ f.constant
number_alone x f h = go f.products h
  where
    go : (ps : Products) → is_number ps ≡ true → f.constant +ℤ products_at x ps ≡ f.constant
    go [] h = omega (arith, ints)
    go (p ∷ ps) h = cc

-- a result within the limit
sized_ok : (x : ℕ → ℤ) (at : Span) (f : Linear) (r : Term) → sized at f ≡ Ok r → term_at x r ≡ form_at x f
sized_ok x at f r e = go (is_sized f) e
  where
    go : (b : Bool) → Comes r (within at (if b then Some f else None)) → term_at x r ≡ form_at x f
    go true e = same_term f r x e
    go false e = cc

times_ok : (x : ℕ → ℤ) (at : Span) (f g : Linear) (r : Term) → times at f g ≡ Ok r → term_at x r ≡ form_at x f *ℤ form_at x g
times_ok x at f g r e = go (is_number f.products) (is_number g.products) refl refl e
  where
    go : (b c : Bool) → is_number f.products ≡ b → is_number g.products ≡ c
        → Comes r (if b then sized at (combined (just (pos 0)) f.constant g) else if c then sized at (combined (just (pos 0)) g.constant f) else rejected NotLinear at)
        → term_at x r ≡ form_at x f *ℤ form_at x g
    go true c h k e = sized_ok x at _ r e ∙ form_scaled x f.constant g ∙ ap (λ (i : ℤ). i *ℤ form_at x g) (sym (number_alone x f h))
    go false true h k e = sized_ok x at _ r e ∙ form_scaled x g.constant f ∙ *ℤ_comm g.constant (form_at x f) ∙ ap (λ (i : ℤ). form_at x f *ℤ i) (sym (number_alone x g k))
    go false false h k e = cc

divided_ok : (x : ℕ → ℤ) (at : Span) (h : ℤ → ℤ → ℤ) (f g : Linear) (r : Term) → divided at h f g ≡ Ok r → term_at x r ≡ h (form_at x f) (form_at x g)
divided_ok x at h f g r e = go (is_number f.products) (is_number g.products) (divides f.constant g.constant) refl refl e
  where
    go : (b c d : Bool) → is_number f.products ≡ b → is_number g.products ≡ c
        → Comes r (if b && c then if d then sized at (just (h f.constant g.constant)) else rejected DivMod at else rejected NotLinear at)
        → term_at x r ≡ h (form_at x f) (form_at x g)
    go true true true i j e =
        sized_ok x at (just (h f.constant g.constant)) r e ∙ form_just x (h f.constant g.constant) ∙ ap (λ (m : ℤ). h m g.constant) (sym (number_alone x f i)) ∙ ap (λ (m : ℤ). h (form_at x f) m) (sym (number_alone x g j))
    go true true false i j e = cc
    go true false d i j e = cc
    go false c d i j e = cc

joined_ok : (x : ℕ → ℤ) (j : BinOp) (at : Span) (f g : Linear) (r : Term) → joined j at f g ≡ Ok r → term_at x r ≡ combine j (form_at x f) (form_at x g)
joined_ok x Plus at f g r e = sized_ok x at (combined f (pos 1) g) r e ∙ omega (arith, ints, form_combined x f (pos 1) g, one-mul (form_at x g))
joined_ok x Minus at f g r e = sized_ok x at (combined f minus_one g) r e ∙ omega (arith, ints, form_combined x f minus_one g, minus-mul (form_at x g))
joined_ok x Times at f g r e = times_ok x at f g r e
joined_ok x Div at f g r e = divided_ok x at int_div f g r e
joined_ok x Mod at f g r e = divided_ok x at int_rem f g r e
joined_ok x _ at f g r e = cc

pub join_ok : (x : ℕ → ℤ) (j : BinOp) (at : Span) (u v r : Term) → join j at u v ≡ Ok r → term_at x r ≡ combine j (term_at x u) (term_at x v)
join_ok x j at (Some f) (Some g) r e = joined_ok x j at f g r e
join_ok x j at (Some f) None r e = cc
join_ok x j at None v r e = cc

pub turn_ok : (x : ℕ → ℤ) (b : Bool) (at : Span) (u r : Term) → turn b at u ≡ Ok r → term_at x r ≡ turned b (term_at x u)
turn_ok x b at None r e = cc
turn_ok x true at (Some f) r e = sized_ok x at (combined (just (pos 0)) minus_one f) r e ∙ form_scaled x minus_one f ∙ minus-mul (form_at x f)
turn_ok x false at (Some f) r e = same_term f r x e

-- sums
abbrev pub EachIs : (ℕ → ℤ) → (Row → Outcome Term) → (Scope → ℤ) → Type 0
EachIs x body f = (row : Row) (u : Term) → body row ≡ Ok u → term_at x u ≡ f row.scope

gathered_ok : (x : ℕ → ℤ) (at : Span) (sum : Linear) (u : Term) (r : Linear) → gathered at sum u ≡ Ok r → form_at x r ≡ form_at x sum +ℤ term_at x u
gathered_ok x at sum None r e = cc
gathered_ok x at sum (Some f) r e = let same : combined sum (pos 1) f ≡ r = cc in ap (form_at x) (sym same) ∙ omega (arith, ints, form_combined x sum (pos 1) f, one-mul (form_at x f))

gathered_over_ok : (x : ℕ → ℤ) (at : Span) (body : Row → Outcome Term) (f : Scope → ℤ) → EachIs x body f → (rows : List Row) (sum r : Linear) → gathered_over at body rows sum ≡ Ok r → form_at x r ≡ form_at x sum +ℤ sum_over f rows
gathered_over_ok x at body f each [] sum r e = let same : sum ≡ r = cc in ap (form_at x) (sym same) ∙ omega (arith, ints)
gathered_over_ok x at body f each (row ∷ rows) sum r e =
    ok_then (body row) _ r e (λ u h k. ok_then (gathered at sum u) _ r k (λ g i j.
    omega (arith, ints, gathered_over_ok x at body f each rows g r j, gathered_ok x at sum u g i, each row u h)))

pub total_ok : (x : ℕ → ℤ) (at : Span) (body : Row → Outcome Term) (f : Scope → ℤ) → EachIs x body f → (k : Outcome Keys) (r : Term) → and_then k (λ keys. total at body keys.rows) ≡ Ok r → term_at x r ≡ sum_in f k
total_ok x at body f each (Err v) r e = cc
total_ok x at body f each (Ok keys) r e =
    ok_then (gathered_over at body keys.rows (just (pos 0))) (sized at) r e (λ g i j.
    sized_ok x at g r j ∙ omega (arith, ints, gathered_over_ok x at body f each keys.rows (just (pos 0)) g i, form_just x (pos 0)))

-- a tree with arcs, and one without
plain_ok : (x : ℕ → ℤ) (at : Span) (o : Outcome (Option ℤ)) (r : Term) → and_then o (plain_term at) ≡ Ok r → term_at x r ≡ number_of o
plain_ok x at (Ok None) r e = no_term r x e
plain_ok x at (Ok (Some n)) r e = sized_ok x at (just n) r e ∙ form_just x n
plain_ok x at (Err v) r e = cc

pub mixed_ok : (x : ℕ → ℤ) (w : World) (s : Scope) (t : Tree) (b : Bool) (u : Outcome Term) (r : Term) (n : ℤ) → mixed w s t b u ≡ Ok r → (u ≡ Ok r → term_at x r ≡ n) → term_at x r ≡ read w s t b n
mixed_ok x w s t true u r n e k = k e
mixed_ok x w s t false u r n e k = plain_ok x (span_of t) (number_or_none w s t) r e

pub no_arcs : (x : ℕ → ℤ) (w : World) (s : Scope) (t : Tree) (b : Bool) (at : Span) (r : Term) → mixed w s t b (rejected NotLinear at) ≡ Ok r → term_at x r ≡ number_of (number_or_none w s t)
no_arcs x w s t true at r e = nothing e
  where
    nothing : Comes r (rejected NotLinear at) → term_at x r ≡ number_of (number_or_none w s t)
    nothing e = cc
no_arcs x w s t false at r e = plain_ok x (span_of t) (number_or_none w s t) r e

pub linear_ok : (at : Span) (b : Bool) (u : Outcome Term) (r : Term) → linear at b u ≡ Ok r → u ≡ Ok r
linear_ok at true u r e = e
linear_ok at false u r e = cc

pub arc_ok : (x : ℕ → ℤ) (o : Outcome ℕ) (r : Term) → and_then o (λ n. Ok (Some (one_arc n))) ≡ Ok r → term_at x r ≡ number_at x o
arc_ok x (Ok n) r e = same_term (one_arc n) r x e ∙ form_arc x n
arc_ok x (Err v) r e = cc

pub choose_ok : (x : ℕ → ℤ) (c : Outcome Bool) (u v : Outcome Term) (r : Term) (m n : ℤ) → and_then c (λ holds. if holds then u else v) ≡ Ok r → (u ≡ Ok r → term_at x r ≡ m) → (v ≡ Ok r → term_at x r ≡ n) → term_at x r ≡ choose c m n
choose_ok x (Ok true) u v r m n e h k = h e
choose_ok x (Ok false) u v r m n e h k = k e
choose_ok x (Err f) u v r m n e h k = cc

-- a price more
pub priced_worth : (x : ℕ → ℤ) (at : Span) (f : Linear) (arc : ℕ) (price : ℤ) (r : Linear) → priced at f arc price ≡ Ok r → form_at x r ≡ form_at x f +ℤ price *ℤ x arc
priced_worth x at f arc price r e = go (is_small price) (is_sized (combined f price (one_arc arc))) e
  where
    go : (b c : Bool) → (if b then or_too_large at (if c then Some (combined f price (one_arc arc)) else None) else rejected ValueTooLarge at) ≡ Ok r → form_at x r ≡ form_at x f +ℤ price *ℤ x arc
    go true true e =
        let same : combined f price (one_arc arc) ≡ r = cc in
        ap (form_at x) (sym same) ∙ form_combined x f price (one_arc arc) ∙ ap (λ (i : ℤ). form_at x f +ℤ price *ℤ i) (form_arc x arc)
    go true false e = cc
    go false c e = cc

pub priced_by : (at : Span) (f : Linear) (arc : ℕ) (price : ℤ) (r : Result Linear Fault) → Refines (priced at f arc price) r → IfOk r (λ g. (x : ℕ → ℤ) → form_at x g ≡ form_at x f +ℤ price *ℤ x arc)
priced_by at f arc price (Ok g) e = λ x. priced_worth x at f arc price g e
priced_by at f arc price (Err v) e = tt
