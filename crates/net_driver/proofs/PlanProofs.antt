-- Prices prove a plan: weak duality, arc by arc and node by node.
use Rattle.std.specs.Prelude.{◌≡◌, ◌&&◌, Bool, true, false, List, [], ◌∷◌, map, Option, None, Some, if◌then◌else◌, ℤ, pos, neg_ℤ, ◌+ℤ◌, ◌-ℤ◌, ◌*ℤ◌, ◌<ℤ◌, ◌≤ℤ◌, zero, suc, negsuc}
use Rattle.std.specs.List.{AllByRecursion, AllZip, IsDistinct}
use Rattle.std.specs.Str.{bytes_eq}
use Rattle.std.proofs.Common.{refl, ap, sym, subst, ◌∙◌, arith}
use Rattle.std.proofs.lemmas.Int.{ints}
use Rattle.std.proofs.lemmas.Slice.Eq.{bytes_eq-Decides}
use lib.IntN.{zero-*ℤ, *ℤ-zero}
use Rattle.net_sets.specs.Sets.{Tuple, same_tuple}
use Rattle.net_sets.proofs.Sames.{tuple_decides}
use Rattle.net_normal.specs.Links.{signed}
use Rattle.net_normal.specs.Sums.{price_of}
use Rattle.net_normal.specs.declared.instance.Sense.{Sense}
use Rattle.net_normal.specs.declared.instance.Sense.TheVariants.{Minimise, Maximise}
use Rattle.net_normal.proofs.WholeNumbers.{mul-add, neg-mul}
use Rattle.net_check.proofs.Products.{add-mul, sub-mul, mul-sub, mul-le, mul-ge}
use Rattle.net_expr.specs.Worlds.{Name}
use Rattle.net_tree.specs.Syntax.{Clause, absent, present}
use Rattle.net_meaning.specs.Network.{Label, Node, Arc, Network, Assignment, same_label, is_at, flow_on, net_inflow, AreWithinBounds, IsSatisfiedBy, IsFeasible, IsExpressionValue, HasValue}
use Rattle.net_meaning.specs.Operators as values
use Rattle.net_meaning.specs.Values.{Env}
use Rattle.net_meaning.proofs.Unique.{values_are_unique, number_same}
use Rattle.net_driver.specs.IsSolved.{IsAsGood}
use Rattle.net_driver.specs.PlanProofs.{price_at, reduced_costs, IsAtBound, IsAtSide, ProvePlan, PricesProve}

-- ---- numbers

product_le : (r y x : ℤ) → (pos 0 <ℤ r → y ≤ℤ x) → (r <ℤ pos 0 → x ≤ℤ y) → (r *ℤ y) ≤ℤ (r *ℤ x)
product_le (pos zero) y x p q = omega (arith, ints, zero-*ℤ y, zero-*ℤ x)
product_le (pos (suc k)) y x p q = mul-le (suc k) y x (p (omega (arith, ints)))
product_le (negsuc k) y x p q = mul-ge k y x (q (omega (arith, ints)))

signed_le : (sense : Sense) (r y x : ℤ) → (pos 0 <ℤ signed sense r → y ≤ℤ x) → (signed sense r <ℤ pos 0 → x ≤ℤ y) → signed sense (r *ℤ y) ≤ℤ signed sense (r *ℤ x)
signed_le Minimise r y x p q = product_le r y x p q
signed_le Maximise r y x p q = omega (arith, ints, neg-mul r y, neg-mul r x, product_le (neg_ℤ r) y x p q)

signed_add : (sense : Sense) (a b c d : ℤ) → signed sense a ≤ℤ signed sense c → signed sense b ≤ℤ signed sense d → signed sense (a +ℤ b) ≤ℤ signed sense (c +ℤ d)
signed_add Minimise a b c d h k = omega (arith, ints, h, k)
signed_add Maximise a b c d h k = omega (arith, ints, h, k)

no_less : (x : ℤ) → x ≤ℤ x
no_less x = omega (arith, ints)

as_good_by : (sense : Sense) (constant a b value other : ℤ) → value ≡ constant +ℤ a → other ≡ constant +ℤ b → signed sense a ≤ℤ signed sense b → IsAsGood sense value other
as_good_by Minimise constant a b value other e f h = omega (arith, ints, e, f, h)
as_good_by Maximise constant a b value other e f h = omega (arith, ints, e, f, h)

-- ---- arcs

-- the sum over all arcs of these numbers times the flows
abbrev weighted : List ℤ → List Arc → Assignment → ℤ
weighted numbers all x = price_of (λ c. c) numbers (map (flow_on x) all)

costs_le : (sense : Sense) (x z : Assignment) (all : List Arc) (costs : List ℤ) → AllZip (IsAtBound sense x) all costs → AreWithinBounds all z → signed sense (weighted costs all x) ≤ℤ signed sense (weighted costs all z)
costs_le sense x z [] [] h w = no_less (signed sense (pos 0))
costs_le sense x z [] (c ∷ costs) h w = absurd h
costs_le sense x z (a ∷ all) [] h w = absurd h
costs_le sense x z (a ∷ all) (c ∷ costs) h w =
    let low = w.0.0 in
    let high = w.0.1 in
    signed_add sense (c *ℤ flow_on x a) (weighted costs all x) (c *ℤ flow_on z a) (weighted costs all z)
    (signed_le sense c (flow_on x a) (flow_on z a) (λ p. let at = h.0.positive p in omega (arith, ints, at, low)) (λ q. let at = h.0.negative q in omega (arith, ints, at, high)))
    (costs_le sense x z all costs h.1 w.1)

-- ---- nodes

-- the sum over all nodes of price times net inflow
abbrev inflow_terms : List Node → List ℤ → List Arc → Assignment → ℤ
inflow_terms [] prices all x = pos 0
inflow_terms (v ∷ vs) [] all x = pos 0
inflow_terms (v ∷ vs) (p ∷ prices) all x = (p *ℤ net_inflow all x v.label) +ℤ inflow_terms vs prices all x

inflows_le : (sense : Sense) (all : List Arc) (x z : Assignment) (vs : List Node) (prices : List ℤ) → AllZip (IsAtSide sense all x) vs prices → AllByRecursion (IsSatisfiedBy all z) vs → signed sense (inflow_terms vs prices all x) ≤ℤ signed sense (inflow_terms vs prices all z)
inflows_le sense all x z [] prices h w = no_less (signed sense (pos 0))
inflows_le sense all x z (v ∷ vs) [] h w = absurd h
inflows_le sense all x z (v ∷ vs) (p ∷ prices) h w =
    signed_add sense (p *ℤ net_inflow all x v.label) (inflow_terms vs prices all x) (p *ℤ net_inflow all z v.label) (inflow_terms vs prices all z)
    (signed_le sense p (net_inflow all x v.label) (net_inflow all z v.label) (λ a. h.0.positive a z w.0) (λ b. h.0.negative b z w.0))
    (inflows_le sense all x z vs prices h.1 w.1)

-- ---- the sum over arcs of the differences of prices is the sum over nodes

-- the flow of each arc times the price where it enters minus the price where it leaves
abbrev moved : List Node → List ℤ → List Arc → Assignment → ℤ
moved vs prices [] x = pos 0
moved vs prices (a ∷ all) x = ((price_at vs prices a.to -ℤ price_at vs prices a.from) *ℤ flow_on x a) +ℤ moved vs prices all x

nothing_moved : (vs : List Node) (prices : List ℤ) (all : List Arc) (x : Assignment) → ((r : Option (Name × Tuple)) → price_at vs prices r ≡ pos 0) → moved vs prices all x ≡ pos 0
nothing_moved vs prices [] x none = refl
nothing_moved vs prices (a ∷ all) x none =
    let apart : price_at vs prices a.to -ℤ price_at vs prices a.from ≡ pos 0 = omega (arith, ints, none a.to, none a.from) in
    omega (arith, ints, ap (λ (d : ℤ). d *ℤ flow_on x a) apart, zero-*ℤ (flow_on x a), nothing_moved vs prices all x none)

both_true : (a b : Bool) → a && b ≡ true → (a ≡ true) × (b ≡ true)
both_true true true e = (refl, refl)
both_true true false e = absurd (let k = e in cc)
both_true false b e = absurd (let k = e in cc)

-- an end at one label is at no label that differs
pub not_both : (l : Label) (r : Option (Name × Tuple)) → is_at r l ≡ true → (m : Label) → same_label l m ≡ false → is_at r m ≡ false
not_both l None e m h = refl
not_both l (Some r) e m h =
    let same = both_true (bytes_eq r.0 l.name) (same_tuple r.1 l.key) e in
    let name : r.0 ≡ l.name = (bytes_eq-Decides r.0 l.name).0 same.0 in
    let key : r.1 ≡ l.key = (tuple_decides r.1 l.key).0 same.1 in
    ap (λ (n : Name). bytes_eq n m.name && same_tuple r.1 m.key) name ∙ ap (λ (k : Tuple). bytes_eq l.name m.name && same_tuple k m.key) key ∙ h

-- no later node has the price of an end at this label
elsewhere : (l : Label) (r : Option (Name × Tuple)) → is_at r l ≡ true → (vs : List Node) (prices : List ℤ) → AllByRecursion (λ m. same_label l m ≡ false) (map (λ (v : Node). v.label) vs) → price_at vs prices r ≡ pos 0
elsewhere l None e vs prices h = refl
elsewhere l (Some r) e [] prices h = refl
elsewhere l (Some r) e (v ∷ vs) [] h = refl
elsewhere l (Some r) e (v ∷ vs) (p ∷ prices) h = ap (λ (b : Bool). if b then p else price_at vs prices (Some r)) (not_both l (Some r) e v.label h.0) ∙ elsewhere l (Some r) e vs prices h.1

-- the price at an end: that of the first node if the end is there, plus that among the others
price_split : (v : Node) (vs : List Node) (p : ℤ) (prices : List ℤ) → AllByRecursion (λ m. same_label v.label m ≡ false) (map (λ (u : Node). u.label) vs) → (r : Option (Name × Tuple))
    → price_at (v ∷ vs) (p ∷ prices) r ≡ (if is_at r v.label then p else pos 0) +ℤ price_at vs prices r
price_split v vs p prices h None = omega (arith, ints)
price_split v vs p prices h (Some r) = go (is_at (Some r) v.label) refl
  where
    go : (b : Bool) → is_at (Some r) v.label ≡ b → (if b then p else price_at vs prices (Some r)) ≡ (if b then p else pos 0) +ℤ price_at vs prices (Some r)
    go true e = omega (arith, ints, elsewhere v.label (Some r) e vs prices h)
    go false e = omega (arith, ints)

chosen_product : (t f : Bool) (p y : ℤ) → ((if t then p else pos 0) -ℤ (if f then p else pos 0)) *ℤ y ≡ p *ℤ ((if t then y else pos 0) -ℤ (if f then y else pos 0))
chosen_product true true p y =
    let left : p -ℤ p ≡ pos 0 = omega (arith, ints) in
    let right : y -ℤ y ≡ pos 0 = omega (arith, ints) in
    omega (arith, ints, ap (λ (d : ℤ). d *ℤ y) left, zero-*ℤ y, ap (λ (d : ℤ). p *ℤ d) right, *ℤ-zero p)
chosen_product true false p y = omega (arith, ints, sub-mul p (pos 0) y, mul-sub p y (pos 0), zero-*ℤ y, *ℤ-zero p)
chosen_product false true p y = omega (arith, ints, sub-mul (pos 0) p y, mul-sub p (pos 0) y, zero-*ℤ y, *ℤ-zero p)
chosen_product false false p y = omega (arith, ints, sub-mul (pos 0) (pos 0) y, mul-sub p (pos 0) (pos 0), zero-*ℤ y, *ℤ-zero p)

-- one node's part
one_node : (v : Node) (vs : List Node) (p : ℤ) (prices : List ℤ) → AllByRecursion (λ m. same_label v.label m ≡ false) (map (λ (u : Node). u.label) vs) → (all : List Arc) (x : Assignment)
    → moved (v ∷ vs) (p ∷ prices) all x ≡ (p *ℤ net_inflow all x v.label) +ℤ moved vs prices all x
one_node v vs p prices h [] x = omega (arith, ints, *ℤ-zero p)
one_node v vs p prices h (a ∷ all) x =
    let y = flow_on x a in
    let t = is_at a.to v.label in
    let f = is_at a.from v.label in
    let to = price_at vs prices a.to in
    let from = price_at vs prices a.from in
    let own : ℤ = (if t then p else pos 0) -ℤ (if f then p else pos 0) in
    let part : ℤ = (if t then y else pos 0) -ℤ (if f then y else pos 0) in
    let apart : price_at (v ∷ vs) (p ∷ prices) a.to -ℤ price_at (v ∷ vs) (p ∷ prices) a.from ≡ own +ℤ (to -ℤ from) = omega (arith, ints, price_split v vs p prices h a.to, price_split v vs p prices h a.from) in
    omega (
      arith,
      ints,
      ap (λ (d : ℤ). d *ℤ y) apart,
      add-mul own (to -ℤ from) y,
      chosen_product t f p y,
      mul-add p part (net_inflow all x v.label),
      one_node v vs p prices h all x,
    )

exchanged : (vs : List Node) (prices : List ℤ) (all : List Arc) (x : Assignment) → IsDistinct same_label (map (λ (v : Node). v.label) vs) → moved vs prices all x ≡ inflow_terms vs prices all x
unfolding IsDistinct
exchanged [] prices all x d = nothing_moved [] prices all x none
  where
    none : (r : Option (Name × Tuple)) → price_at [] prices r ≡ pos 0
    none None = refl
    none (Some r) = refl
exchanged (v ∷ vs) [] all x d = nothing_moved (v ∷ vs) [] all x none
  where
    none : (r : Option (Name × Tuple)) → price_at (v ∷ vs) [] r ≡ pos 0
    none None = refl
    none (Some r) = refl
exchanged (v ∷ vs) (p ∷ prices) all x d = omega (arith, ints, one_node v vs p prices d.0 all x, exchanged vs prices all x d.1)

-- ---- the value by reduced costs and net inflows

split : (vs : List Node) (prices : List ℤ) (R : Arc → ℤ → Type 0) (all : List Arc) (coefficients : List ℤ) (x : Assignment) → AllZip R all (reduced_costs vs prices all coefficients)
    → weighted coefficients all x ≡ weighted (reduced_costs vs prices all coefficients) all x +ℤ moved vs prices all x
split vs prices R [] [] x h = omega (arith, ints)
split vs prices R [] (c ∷ coefficients) x h = omega (arith, ints)
split vs prices R (a ∷ all) [] x h = absurd h
split vs prices R (a ∷ all) (c ∷ coefficients) x h =
    let y = flow_on x a in
    let to = price_at vs prices a.to in
    let from = price_at vs prices a.from in
    omega (arith, ints, sub-mul (c +ℤ from) to y, add-mul c from y, sub-mul to from y, split vs prices R all coefficients x h.1)

-- ---- an assignment has one value

expression_same : (e : Env) (p : Clause) (k m : ℤ) → IsExpressionValue e p k → IsExpressionValue e p m → k ≡ m
expression_same e absent k m h j = h ∙ sym j
expression_same e (present x) k m h j = number_same k m (values_are_unique e x (values.number k) (values.number m) h j)

one_value : (network : Network) (x : Assignment) (m n : ℤ) → HasValue network x m → HasValue network x n → m ≡ n
one_value network x m n h k =
    let same = expression_same _ network.objective.expression h.0 k.0 h.1 k.1 in
    let left = h.2 in
    let right = k.2 in
    omega (arith, ints, same, left, right)

-- ---- the law

pub prices_prove : PricesProve
prices_prove network x value prices costs apart proof is z other fits has =
    as_good_by sense proof.constant (weighted proof.coefficients all x) (weighted proof.coefficients all z) value other
    (one_value network x value _ is (proof.are_coefficients x)) (one_value network z other _ has (proof.are_coefficients z))
    (subst (λ (m : ℤ). signed sense m ≤ℤ signed sense (weighted proof.coefficients all z)) (sym (whole x))
    (subst (λ (m : ℤ). signed sense (weighted own all x +ℤ inflow_terms vs prices all x) ≤ℤ signed sense m) (sym (whole z))
    (signed_add sense (weighted own all x) (inflow_terms vs prices all x) (weighted own all z) (inflow_terms vs prices all z)
    (costs_le sense x z all own arcs fits.bounds)
    (inflows_le sense all x z vs prices proof.nodes fits.conditions))))
  where
    vs : List Node
    vs = network.nodes

    all : List Arc
    all = network.arcs

    sense : Sense
    sense = network.objective.sense

    own : List ℤ
    own = reduced_costs vs prices all proof.coefficients

    arcs : AllZip (IsAtBound sense x) all own
    arcs = subst (AllZip (IsAtBound sense x) all) proof.are_costs proof.arcs

    whole : (y : Assignment) → weighted proof.coefficients all y ≡ weighted own all y +ℤ inflow_terms vs prices all y
    whole y = split vs prices (IsAtBound sense x) all proof.coefficients y arcs ∙ ap (λ (m : ℤ). weighted own all y +ℤ m) (exchanged vs prices all y apart)
