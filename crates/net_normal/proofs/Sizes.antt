-- How large the numbers of a normal form are: each arc counts at its two ends only, so sums over nodes are bounded by sums over arcs.
use Rattle.std.proofs.Common.{◌≡◌, ℕ, zero, suc, ◌*◌, ◌≤◌, Bool, true, false, cond, inl, inr, Option, Some, None, List, [], ◌∷◌, length, map, ℤ, pos, ◌+ℤ◌, ◌≤ℤ◌, neg_ℤ, refl, arith}
use Rattle.std.proofs.lemmas.Int.{ints, clamps}
use Rattle.std.proofs.lemmas.Bool.Decides.{eqb_tells}
use Rattle.std.specs.Option.{ForSome}
use Rattle.std.specs.List.{All, AllByRecursion}
use Rattle.std.proofs.lemmas.List.Elements.{recursion_from_All, All-weaker}
use Rattle.net_normal.specs.Limits.{IsSized, IsArcOf, value_limit, range_limit, flow_limit, arc_limit, node_limit, sum_limit}
use Rattle.net_normal.specs.Sums.{is_node, flow_on}
use Rattle.net_normal.specs.Assignments.{enters, leaves}
use Rattle.net_normal.specs.NormalForm.{offset_of, least_inflow, most_inflow, shift_of, low_side, high_side, low_of, high_of, supply_of}
use Rattle.net_normal.specs.declared.instance.InstArc.{InstArc}
use Rattle.net_normal.specs.NodeSums.{AreSized, AreSumsAt}
use Rattle.net_normal.specs.declared.instance.NodeRange.{NodeRange}
use Rattle.net_normal.specs.declared.node_sums.NodeSums.{NodeSums}
use Rattle.net_normal.specs.declared.profile.Profile.{Profile}
use Rattle.net_normal.specs.declared.profile.Profile.TheVariants.{Plain, Lean}
use Rattle.net_normal.proofs.WholeNumbers.{choice-le, choice_within}
use Rattle.net_normal.proofs.NodeRuns.{sum_over, sum_over-add, sum_over-zero, standing, standing_on, standing_off, sum_over-before}

-- the same size at each arc
abbrev pub sizes : ℕ → List InstArc → List ℤ
sizes b arcs = map (λ _. pos b) arcs

abbrev pub total_size : ℕ → List InstArc → ℤ
total_size b arcs = flow_on (λ _. true) arcs (sizes b arcs)

total_size-is : (b : ℕ) (arcs : List InstArc) → total_size b arcs ≡ pos (b * length arcs)
total_size-is b [] = omega (arith, ints)
total_size-is b (a ∷ arcs) = omega (arith, ints, total_size-is b arcs)

-- numbers of this size at each arc, and their sums
flow_within : (b : ℕ) (test : InstArc → Bool) (g : InstArc → ℤ) (arcs : List InstArc) → AllByRecursion (λ a. IsSized b (g a)) arcs →
    (neg_ℤ (flow_on test arcs (sizes b arcs)) ≤ℤ flow_on test arcs (map g arcs)) × (flow_on test arcs (map g arcs) ≤ℤ flow_on test arcs (sizes b arcs))
flow_within b test g [] h = (omega (arith, ints), omega (arith, ints))
flow_within b test g (a ∷ arcs) h =
    let rest = flow_within b test g arcs h.1 in
    let here = choice_within (test a) (g a) (pos b) (omega (arith, ints)) h.0.above h.0.below in
    (omega (arith, ints, here.0, rest.0), omega (arith, ints, here.1, rest.1))

flow_upto_total : (b : ℕ) (test : InstArc → Bool) (arcs : List InstArc) → (pos 0 ≤ℤ flow_on test arcs (sizes b arcs)) × (flow_on test arcs (sizes b arcs) ≤ℤ total_size b arcs)
flow_upto_total b test [] = (omega (arith, ints), omega (arith, ints))
flow_upto_total b test (a ∷ arcs) =
    let rest = flow_upto_total b test arcs in
    let least = choice-le (test a) (pos 0) (pos b) (omega (arith, ints)) in
    let none : cond (test a) (pos 0) (pos 0) ≡ pos 0 = elim (test a) as (λ t. cond t (pos 0) (pos 0) ≡ pos 0) [ true ↦ refl | false ↦ refl ] in
    let most : cond (test a) (pos b) (pos 0) ≤ℤ pos b = elim (test a) as (λ t. cond t (pos b) (pos 0) ≤ℤ pos b) [ true ↦ omega (arith, ints) | false ↦ omega (arith, ints) ] in
    (omega (arith, ints, rest.0, least, none), omega (arith, ints, rest.1, most))

-- the sizes of the arcs at a node
abbrev pub reach : ℕ → List InstArc → ℕ → ℤ
reach b arcs v = flow_on (enters v) arcs (sizes b arcs) +ℤ flow_on (leaves v) arcs (sizes b arcs)

pub reach-small : (b : ℕ) (arcs : List InstArc) (v : ℕ) → (pos 0 ≤ℤ reach b arcs v) × (reach b arcs v ≤ℤ pos (2 * (b * length arcs)))
reach-small b arcs v =
    let inn = flow_upto_total b (enters v) arcs in
    let out = flow_upto_total b (leaves v) arcs in
    (omega (arith, ints, inn.0, out.0), omega (arith, ints, inn.1, out.1, total_size-is b arcs))

-- summed over nodes, each arc counts at each of its ends at most once
standing_upto : (e v n b : ℕ) → sum_over (standing e (pos b)) v n ≤ℤ pos b
standing_upto e v zero b = omega (arith, ints)
standing_upto e v (suc n) b =
    elim (eqb_tells e v) as (λ _. sum_over (standing e (pos b)) v (suc n) ≤ℤ pos b) [
      | inl t ↦ omega (arith, ints, standing_on e v (pos b) t.1, sum_over-before e (suc v) n (pos b) (omega (arith, t.1)))
      | inr t ↦ omega (arith, ints, standing_off e v (pos b) t.1, standing_upto e (suc v) n b)
    ]

end_upto : (end : Option ℕ) (n b : ℕ) → sum_over (λ u. cond (is_node u end) (pos b) (pos 0)) 0 n ≤ℤ pos b
end_upto None n b = omega (arith, ints, sum_over-zero 0 n)
end_upto (Some e) n b = standing_upto e 0 n b

ends_upto : (b : ℕ) (end : InstArc → Option ℕ) (arcs : List InstArc) (n : ℕ) → sum_over (λ u. flow_on (λ a. is_node u (end a)) arcs (sizes b arcs)) 0 n ≤ℤ total_size b arcs
ends_upto b end [] n = omega (arith, ints, sum_over-zero 0 n)
ends_upto b end (a ∷ arcs) n =
    omega (
      arith,
      ints,
      end_upto (end a) n b,
      ends_upto b end arcs n,
      sum_over-add (λ u. cond (is_node u (end a)) (pos b) (pos 0)) (λ u. flow_on (λ c. is_node u (end c)) arcs (sizes b arcs)) 0 n,
    )

-- what a supply is at most in size
abbrev pub supply_bound : List InstArc → ℕ → ℤ
supply_bound arcs v = pos range_limit +ℤ (reach value_limit arcs v +ℤ reach value_limit arcs v)

bound-sums : (c : ℕ) (g : ℕ → ℤ) (v n : ℕ) → sum_over (λ u. pos c +ℤ (g u +ℤ g u)) v n ≡ pos (c * n) +ℤ (sum_over g v n +ℤ sum_over g v n)
bound-sums c g v zero = omega (arith, ints)
bound-sums c g v (suc n) = omega (arith, ints, bound-sums c g (suc v) n)

reach-sums : (b : ℕ) (arcs : List InstArc) (n : ℕ) → sum_over (reach b arcs) 0 n ≤ℤ (total_size b arcs +ℤ total_size b arcs)
reach-sums b arcs n =
    omega (
      arith,
      ints,
      ends_upto b (λ a. a.head) arcs n,
      ends_upto b (λ a. a.tail) arcs n,
      sum_over-add (λ u. flow_on (enters u) arcs (sizes b arcs)) (λ u. flow_on (leaves u) arcs (sizes b arcs)) 0 n,
    )

-- all supplies together are within the limit of one
pub supply_bounds-sum : (arcs : List InstArc) (n : ℕ) → length arcs ≤ arc_limit → n ≤ node_limit → sum_over (supply_bound arcs) 0 n ≤ℤ pos flow_limit
supply_bounds-sum arcs n few short =
    omega (arith, ints, bound-sums range_limit (reach value_limit arcs) 0 n, reach-sums value_limit arcs n, total_size-is value_limit arcs)

-- the sums of a node are within its reach
sizes_of : (nodes : ℕ) (g : InstArc → ℤ) → ((a : InstArc) → IsArcOf nodes a → IsSized value_limit (g a)) → (arcs : List InstArc) → All (IsArcOf nodes) arcs → AllByRecursion (λ a. IsSized value_limit (g a)) arcs
sizes_of nodes g f arcs fit = recursion_from_All (λ a. IsSized value_limit (g a)) arcs (All-weaker (IsArcOf nodes) (λ a. IsSized value_limit (g a)) f arcs fit)

pub offset_sized : (p : Profile) (a : InstArc) → IsSized value_limit a.lower → IsSized value_limit (offset_of p a)
offset_sized Lean a h = h
offset_sized Plain a h = record { above = omega (arith, ints, clamps, h.above); below = omega (arith, ints, clamps, h.below) }

least_within : (nodes : ℕ) (arcs : List InstArc) (v : ℕ) → All (IsArcOf nodes) arcs → (neg_ℤ (reach value_limit arcs v) ≤ℤ least_inflow arcs v) × (least_inflow arcs v ≤ℤ reach value_limit arcs v)
least_within nodes arcs v fit =
    let inn = flow_within value_limit (enters v) (λ a. a.lower) arcs (sizes_of nodes (λ a. a.lower) (λ a p. p.lower) arcs fit) in
    let out = flow_within value_limit (leaves v) (λ a. a.upper) arcs (sizes_of nodes (λ a. a.upper) (λ a p. p.upper) arcs fit) in
    (omega (arith, ints, inn.0, out.1), omega (arith, ints, inn.1, out.0))

most_within : (nodes : ℕ) (arcs : List InstArc) (v : ℕ) → All (IsArcOf nodes) arcs → (neg_ℤ (reach value_limit arcs v) ≤ℤ most_inflow arcs v) × (most_inflow arcs v ≤ℤ reach value_limit arcs v)
most_within nodes arcs v fit =
    let inn = flow_within value_limit (enters v) (λ a. a.upper) arcs (sizes_of nodes (λ a. a.upper) (λ a p. p.upper) arcs fit) in
    let out = flow_within value_limit (leaves v) (λ a. a.lower) arcs (sizes_of nodes (λ a. a.lower) (λ a p. p.lower) arcs fit) in
    (omega (arith, ints, inn.0, out.1), omega (arith, ints, inn.1, out.0))

shift_within : (p : Profile) (nodes : ℕ) (arcs : List InstArc) (v : ℕ) → All (IsArcOf nodes) arcs → (neg_ℤ (reach value_limit arcs v) ≤ℤ shift_of p arcs v) × (shift_of p arcs v ≤ℤ reach value_limit arcs v)
shift_within p nodes arcs v fit =
    let offsets = sizes_of nodes (offset_of p) (λ a h. offset_sized p a h.lower) arcs fit in
    let inn = flow_within value_limit (enters v) (offset_of p) arcs offsets in
    let out = flow_within value_limit (leaves v) (offset_of p) arcs offsets in
    (omega (arith, ints, inn.0, out.1), omega (arith, ints, inn.1, out.0))

low_side_within : (low high : Option ℤ) (least r : ℤ) → ForSome low (IsSized range_limit) → ForSome high (IsSized range_limit) → pos 0 ≤ℤ r → neg_ℤ r ≤ℤ least → least ≤ℤ r →
    (neg_ℤ (pos range_limit +ℤ r) ≤ℤ low_side low high least) × (low_side low high least ≤ℤ (pos range_limit +ℤ r))
low_side_within (Some l) high least r f g z p q = let s = f l refl in (omega (arith, ints, s.above), omega (arith, ints, s.below))
low_side_within None (Some h) least r f g z p q = let s = g h refl in (omega (arith, ints, clamps, s.above), omega (arith, ints, clamps, s.below))
low_side_within None None least r f g z p q = (omega (arith, ints), omega (arith, ints))

high_side_within : (low high : Option ℤ) (most r : ℤ) → ForSome low (IsSized range_limit) → ForSome high (IsSized range_limit) → pos 0 ≤ℤ r → neg_ℤ r ≤ℤ most → most ≤ℤ r →
    (neg_ℤ (pos range_limit +ℤ r) ≤ℤ high_side low high most) × (high_side low high most ≤ℤ (pos range_limit +ℤ r))
high_side_within (Some l) (Some h) most r f g z p q = let s = g h refl in (omega (arith, ints, s.above), omega (arith, ints, s.below))
high_side_within None (Some h) most r f g z p q = let s = g h refl in (omega (arith, ints, s.above), omega (arith, ints, s.below))
high_side_within (Some l) None most r f g z p q = let s = f l refl in (omega (arith, ints, clamps, s.above), omega (arith, ints, clamps, s.below))
high_side_within None None most r f g z p q = (omega (arith, ints), omega (arith, ints))

pub low_within : (nodes : ℕ) (arcs : List InstArc) (v : ℕ) (r : NodeRange) → All (IsArcOf nodes) arcs → (neg_ℤ (pos range_limit +ℤ reach value_limit arcs v) ≤ℤ low_of arcs v r) × (low_of arcs v r ≤ℤ (pos range_limit +ℤ reach value_limit arcs v))
low_within nodes arcs v r fit =
    let least = least_within nodes arcs v fit in
    low_side_within r.low r.high (least_inflow arcs v) (reach value_limit arcs v) r.low_fits r.high_fits (reach-small value_limit arcs v).0 least.0 least.1

pub high_within : (nodes : ℕ) (arcs : List InstArc) (v : ℕ) (r : NodeRange) → All (IsArcOf nodes) arcs → (neg_ℤ (pos range_limit +ℤ reach value_limit arcs v) ≤ℤ high_of arcs v r) × (high_of arcs v r ≤ℤ (pos range_limit +ℤ reach value_limit arcs v))
high_within nodes arcs v r fit =
    let most = most_within nodes arcs v fit in
    high_side_within r.low r.high (most_inflow arcs v) (reach value_limit arcs v) r.low_fits r.high_fits (reach-small value_limit arcs v).0 most.0 most.1

pub supply_within : (p : Profile) (nodes : ℕ) (arcs : List InstArc) (v : ℕ) (r : NodeRange) → All (IsArcOf nodes) arcs → (neg_ℤ (supply_bound arcs v) ≤ℤ supply_of p arcs v r) × (supply_of p arcs v r ≤ℤ supply_bound arcs v)
supply_within p nodes arcs v r fit =
    let low = low_within nodes arcs v r fit in
    let shift = shift_within p nodes arcs v fit in
    (omega (arith, ints, low.1, shift.0), omega (arith, ints, low.0, shift.1))

-- what the code sums of a node
pub sums_sized : (p : Profile) (nodes : ℕ) (arcs : List InstArc) (v : ℕ) (sums : NodeSums) → All (IsArcOf nodes) arcs → length arcs ≤ arc_limit → AreSumsAt p arcs v sums → AreSized sum_limit sums
sums_sized p nodes arcs v sums fit few is =
    let small = reach-small value_limit arcs v in
    let least = least_within nodes arcs v fit in
    let most = most_within nodes arcs v fit in
    let shift = shift_within p nodes arcs v fit in
    record {
      least = record { above = omega (arith, ints, is.least, least.0, small.1); below = omega (arith, ints, is.least, least.1, small.1) };
      most = record { above = omega (arith, ints, is.most, most.0, small.1); below = omega (arith, ints, is.most, most.1, small.1) };
      shift = record { above = omega (arith, ints, is.shift, shift.0, small.1); below = omega (arith, ints, is.shift, shift.1, small.1) };
    }

flow_ordered : (test : InstArc → Bool) (arcs : List InstArc) → AllByRecursion (λ a. a.lower ≤ℤ a.upper) arcs → flow_on test arcs (map (λ a. a.lower) arcs) ≤ℤ flow_on test arcs (map (λ a. a.upper) arcs)
flow_ordered test [] h = omega (arith, ints)
flow_ordered test (a ∷ arcs) h = omega (arith, ints, choice-le (test a) a.lower a.upper h.0, flow_ordered test arcs h.1)

-- the least net inflow is at most the greatest
pub least_upto_most : (nodes : ℕ) (arcs : List InstArc) (v : ℕ) → All (IsArcOf nodes) arcs → least_inflow arcs v ≤ℤ most_inflow arcs v
least_upto_most nodes arcs v fit =
    let ordered : AllByRecursion (λ a. a.lower ≤ℤ a.upper) arcs = recursion_from_All (λ a. a.lower ≤ℤ a.upper) arcs (All-weaker (IsArcOf nodes) (λ a. a.lower ≤ℤ a.upper) (λ a p. p.ordered) arcs fit) in
    omega (arith, ints, flow_ordered (enters v) arcs ordered, flow_ordered (leaves v) arcs ordered)
