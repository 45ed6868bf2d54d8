-- Where no residual arc leads out of a set of nodes with excess, the set is a violated cut.
use Rattle.std.proofs.Common.{◌≡◌, ℕ, zero, suc, ◌<◌, Bool, true, false, cond, List, [], ◌∷◌, length, map, get_or, ℤ, pos, ◌+ℤ◌, ◌-ℤ◌, ◌*ℤ◌, ◌<ℤ◌, All, refl, sym, ◌∙◌, ap, arith}
use Rattle.std.proofs.lemmas.Int.{ints}
use Rattle.std.specs.List.{AllZip}
use Rattle.net_normal.specs.Limits.{IsFlowArcOf}
use Rattle.net_normal.specs.Sums.{flow_on}
use Rattle.net_normal.specs.Flows.{net_outflow}
use Rattle.net_normal.specs.declared.problem.FlowArc.{FlowArc}
use Rattle.net_normal.proofs.NodeRuns.{sum_over}
use Rattle.net_check.specs.Certificates.{goes_out, comes_in, supply_in, most_out}
use Rattle.net_solve.specs.Pseudoflows.{IsFull}
use Rattle.net_check.proofs.NoFlow.{weight, weighted-arcs}
use Rattle.net_check.proofs.Products.{chosen-mul}
use Rattle.net_check.proofs.Weights.{sum_over-shift, weighted-outflows}

-- the sum over the set, by numbers of the nodes and along the list (as in NoFlow of net_check)
weighted-set : (f : ℕ → ℤ) (ys : List ℤ) (flags : List Bool) → length flags ≡ length ys → ((u : ℕ) → u < length ys → f u ≡ get_or ys u (pos 0)) → sum_over (λ u. weight flags u *ℤ f u) 0 (length ys) ≡ supply_in ys flags
weighted-set f [] [] h k = refl
weighted-set f [] (b ∷ flags) h k = absurd (omega (arith, h))
weighted-set f (s ∷ ys) [] h k = absurd (omega (arith, h))
weighted-set f (s ∷ ys) (b ∷ flags) h k =
    let first : weight (b ∷ flags) 0 *ℤ f 0 ≡ cond b s (pos 0) = chosen-mul b (f 0) ∙ ap (λ (z : ℤ). cond b z (pos 0)) (k 0 (omega arith)) in
    let rest : sum_over (λ u. weight flags u *ℤ f (suc u)) 0 (length ys) ≡ supply_in ys flags = weighted-set (λ u. f (suc u)) ys flags (omega (arith, h)) (λ u l. k (suc u) (omega (arith, l))) in
    omega (arith, ints, first, rest, sum_over-shift (λ u. weight (b ∷ flags) u *ℤ f u) 0 (length ys))

-- supplies less excesses
abbrev sent : List ℤ → List ℤ → List ℤ
sent [] es = []
sent (s ∷ ss) [] = []
sent (s ∷ ss) (e ∷ es) = (s -ℤ e) ∷ sent ss es

length-sent : (ss es : List ℤ) → length es ≡ length ss → length (sent ss es) ≡ length ss
length-sent [] es h = refl
length-sent (s ∷ ss) [] h = absurd (omega (arith, h))
length-sent (s ∷ ss) (e ∷ es) h = ap suc (length-sent ss es (omega (arith, h)))

sent-at : (ss es : List ℤ) (u : ℕ) → length es ≡ length ss → u < length ss → get_or (sent ss es) u (pos 0) ≡ get_or ss u (pos 0) -ℤ get_or es u (pos 0)
sent-at [] es u h k = absurd (omega (arith, k))
sent-at (s ∷ ss) [] u h k = absurd (omega (arith, h))
sent-at (s ∷ ss) (e ∷ es) zero h k = refl
sent-at (s ∷ ss) (e ∷ es) (suc u) h k = sent-at ss es u (omega (arith, h)) (omega (arith, k))

sent-in : (ss es : List ℤ) (flags : List Bool) → length es ≡ length ss → supply_in (sent ss es) flags ≡ supply_in ss flags -ℤ supply_in es flags
sent-in [] [] [] h = refl
sent-in [] [] (b ∷ flags) h = refl
sent-in [] (e ∷ es) flags h = absurd (omega (arith, h))
sent-in (s ∷ ss) [] flags h = absurd (omega (arith, h))
sent-in (s ∷ ss) (e ∷ es) [] h = refl
sent-in (s ∷ ss) (e ∷ es) (true ∷ flags) h = omega (arith, ints, sent-in ss es flags (omega (arith, h)))
sent-in (s ∷ ss) (e ∷ es) (false ∷ flags) h = omega (arith, ints, sent-in ss es flags (omega (arith, h)))

-- a set's supply is what its arcs carry out of it, and its excess
pub set-balance : (nodes : ℕ) (arcs : List FlowArc) (supplies flows excess : List ℤ) (flags : List Bool) → All (IsFlowArcOf nodes) arcs → length supplies ≡ nodes → length excess ≡ nodes → length flags ≡ nodes
    → ((v : ℕ) → v < nodes → get_or excess v (pos 0) ≡ get_or supplies v (pos 0) -ℤ net_outflow arcs flows v)
    → supply_in supplies flags ≡ (flow_on (goes_out flags) arcs flows -ℤ flow_on (comes_in flags) arcs flows) +ℤ supply_in excess flags
set-balance nodes arcs supplies flows excess flags fit m n k h =
    let f : ℕ → ℤ = net_outflow arcs flows in
    let short : length excess ≡ length supplies = omega (arith, m, n) in
    let long : length (sent supplies excess) ≡ length supplies = length-sent supplies excess short in
    let total : sum_over (λ u. weight flags u *ℤ f u) 0 (length (sent supplies excess)) ≡ supply_in (sent supplies excess) flags
    = weighted-set f (sent supplies excess) flags (omega (arith, k, m, long)) (λ u l. let inside : u < length supplies = omega (arith, l, long) in omega (arith, ints, sent-at supplies excess u short inside, h u (omega (arith, inside, m)))) in
    let count : length (sent supplies excess) ≡ nodes = omega (arith, long, m) in
    let same : sum_over (λ u. weight flags u *ℤ f u) 0 nodes ≡ supply_in (sent supplies excess) flags = ap (λ (z : ℕ). sum_over (λ u. weight flags u *ℤ f u) 0 z) (sym count) ∙ total in
    omega (arith, ints, same, sent-in supplies excess flags short, weighted-outflows (weight flags) nodes arcs flows fit, weighted-arcs flags arcs flows)

chosen : (b : Bool) (x y : ℤ) → (b ≡ true → x ≡ y) → cond b x (pos 0) ≡ cond b y (pos 0)
chosen true x y h = h refl
chosen false x y h = refl

full-out : (flags : List Bool) (arcs : List FlowArc) (flows : List ℤ) → AllZip (IsFull flags) arcs flows → flow_on (goes_out flags) arcs flows ≡ flow_on (goes_out flags) arcs (map (λ a. a.cap) arcs)
full-out flags [] flows h = refl
full-out flags (a ∷ arcs) [] h = absurd h
full-out flags (a ∷ arcs) (y ∷ flows) h = omega (arith, ints, chosen (goes_out flags a) y a.cap h.0.out, full-out flags arcs flows h.1)

full-in : (flags : List Bool) (arcs : List FlowArc) (flows : List ℤ) → AllZip (IsFull flags) arcs flows → flow_on (comes_in flags) arcs flows ≡ flow_on (comes_in flags) arcs (map (λ a. a.low) arcs)
full-in flags [] flows h = refl
full-in flags (a ∷ arcs) [] h = absurd h
full-in flags (a ∷ arcs) (y ∷ flows) h = omega (arith, ints, chosen (comes_in flags a) y a.low h.0.into, full-in flags arcs flows h.1)

pub stuck-violated : (nodes : ℕ) (arcs : List FlowArc) (supplies flows excess : List ℤ) (flags : List Bool) → All (IsFlowArcOf nodes) arcs → length supplies ≡ nodes → length excess ≡ nodes → length flags ≡ nodes
    → ((v : ℕ) → v < nodes → get_or excess v (pos 0) ≡ get_or supplies v (pos 0) -ℤ net_outflow arcs flows v)
    → AllZip (IsFull flags) arcs flows → pos 0 <ℤ supply_in excess flags → most_out arcs flags <ℤ supply_in supplies flags
stuck-violated nodes arcs supplies flows excess flags fit m n k h full some =
    omega (arith, ints, set-balance nodes arcs supplies flows excess flags fit m n k h, full-out flags arcs flows full, full-in flags arcs flows full, some)
