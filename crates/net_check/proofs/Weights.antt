-- Net outflows with a weight for each node: each arc's flow counts with the weight of the node that it leaves, less that of the node where it arrives.
use Rattle.std.proofs.Common.{◌≡◌, ℕ, zero, suc, ◌+◌, ◌<◌, Bool, true, false, cond, List, [], ◌∷◌, ℤ, pos, ◌+ℤ◌, ◌-ℤ◌, ◌*ℤ◌, nat_eq, All, refl, sym, ◌∙◌, ap, eqb-true, arith}
use Rattle.std.proofs.lemmas.Int.{ints}
use Rattle.std.specs.List.{AllByRecursion}
use Rattle.std.proofs.lemmas.List.Elements.{recursion_from_All, All-weaker}
use lib.IntN.{*ℤ-zero}
use Rattle.net_normal.specs.Limits.{IsFlowArcOf}
use Rattle.net_normal.specs.Sums.{flow_on, price_of}
use Rattle.net_normal.specs.Flows.{net_outflow}
use Rattle.net_normal.specs.declared.problem.FlowArc.{FlowArc}
use Rattle.net_normal.proofs.WholeNumbers.{mul-add}
use Rattle.net_normal.proofs.NodeRuns.{sum_over, sum_over-same, sum_over-add, sum_over-sub, sum_over-zero, sum_over-standing, standing}
use Rattle.net_check.proofs.Products.{mul-sub}

-- sums that agree at their own nodes
pub sum_over-within : (f g : ℕ → ℤ) (v n : ℕ) → ((u : ℕ) → u < v + n → f u ≡ g u) → sum_over f v n ≡ sum_over g v n
sum_over-within f g v zero h = refl
sum_over-within f g v (suc n) h = omega (arith, ints, h v (omega arith), sum_over-within f g (suc v) n (λ u l. h u (omega (arith, l))))

pub sum_over-shift : (f : ℕ → ℤ) (v n : ℕ) → sum_over f (suc v) n ≡ sum_over (λ u. f (suc u)) v n
sum_over-shift f v zero = refl
sum_over-shift f v (suc n) = omega (arith, ints, sum_over-shift f (suc v) n)

eq_of : (m n : ℕ) (b : Bool) → nat_eq m n ≡ b → (p : ℕ → ℤ) (x : ℤ) → p n *ℤ cond b x (pos 0) ≡ cond b (p m *ℤ x) (pos 0)
eq_of m n true e p x =
    let same : m ≡ n = eqb-true m n e in
    ap (λ (u : ℕ). p u *ℤ x) (sym same)
eq_of m n false e p x = *ℤ-zero (p n)

-- a flow that stands at one node has that node's weight
weighted-standing : (p : ℕ → ℤ) (e u : ℕ) (x : ℤ) → p u *ℤ standing e x u ≡ standing e (p e *ℤ x) u
weighted-standing p e u x = eq_of e u (nat_eq e u) refl p x

pub weighted-ends : {A : Type 0} (p : ℕ → ℤ) (end : A → ℕ) (n : ℕ) (arcs : List A) (xs : List ℤ) → AllByRecursion (λ a. end a < n) arcs → sum_over (λ u. p u *ℤ flow_on (λ a. nat_eq (end a) u) arcs xs) 0 n ≡ price_of (λ a. p (end a)) arcs xs
weighted-ends p end n [] xs h = sum_over-same (λ u. p u *ℤ pos 0) (λ _. pos 0) 0 n (λ u. *ℤ-zero (p u)) ∙ sum_over-zero 0 n
weighted-ends p end n (a ∷ arcs) [] h = sum_over-same (λ u. p u *ℤ pos 0) (λ _. pos 0) 0 n (λ u. *ℤ-zero (p u)) ∙ sum_over-zero 0 n
weighted-ends p end n (a ∷ arcs) (x ∷ xs) h =
    let rest : ℕ → ℤ = λ u. flow_on (λ b. nat_eq (end b) u) arcs xs in
    let split : sum_over (λ u. p u *ℤ (standing (end a) x u +ℤ rest u)) 0 n ≡ sum_over (λ u. standing (end a) (p (end a) *ℤ x) u +ℤ p u *ℤ rest u) 0 n
    = sum_over-same (λ u. p u *ℤ (standing (end a) x u +ℤ rest u)) (λ u. standing (end a) (p (end a) *ℤ x) u +ℤ p u *ℤ rest u) 0 n
    (λ u. mul-add (p u) (standing (end a) x u) (rest u) ∙ ap (λ (z : ℤ). z +ℤ p u *ℤ rest u) (weighted-standing p (end a) u x)) in
    let both : sum_over (λ u. standing (end a) (p (end a) *ℤ x) u +ℤ p u *ℤ rest u) 0 n ≡ sum_over (standing (end a) (p (end a) *ℤ x)) 0 n +ℤ sum_over (λ u. p u *ℤ rest u) 0 n
    = sum_over-add (standing (end a) (p (end a) *ℤ x)) (λ u. p u *ℤ rest u) 0 n in
    omega (arith, ints, split, both, sum_over-standing (end a) 0 n (p (end a) *ℤ x) (omega arith) (omega (arith, h.0)), weighted-ends p end n arcs xs h.1)

-- the weighted net outflows of all nodes
pub weighted-outflows : (p : ℕ → ℤ) (n : ℕ) (arcs : List FlowArc) (xs : List ℤ) → All (IsFlowArcOf n) arcs → sum_over (λ u. p u *ℤ net_outflow arcs xs u) 0 n ≡ price_of (λ a. p a.src) arcs xs -ℤ price_of (λ a. p a.dst) arcs xs
weighted-outflows p n arcs xs fit =
    let sources = recursion_from_All (λ (a : FlowArc). a.src < n) arcs (All-weaker (IsFlowArcOf n) (λ a. a.src < n) (λ a h. h.src) arcs fit) in
    let targets = recursion_from_All (λ (a : FlowArc). a.dst < n) arcs (All-weaker (IsFlowArcOf n) (λ a. a.dst < n) (λ a h. h.dst) arcs fit) in
    let out : ℕ → ℤ = λ u. flow_on (λ (a : FlowArc). nat_eq a.src u) arcs xs in
    let inn : ℕ → ℤ = λ u. flow_on (λ (a : FlowArc). nat_eq a.dst u) arcs xs in
    let apart : sum_over (λ u. p u *ℤ (out u -ℤ inn u)) 0 n ≡ sum_over (λ u. p u *ℤ out u -ℤ p u *ℤ inn u) 0 n
    = sum_over-same (λ u. p u *ℤ (out u -ℤ inn u)) (λ u. p u *ℤ out u -ℤ p u *ℤ inn u) 0 n (λ u. mul-sub (p u) (out u) (inn u)) in
    let both : sum_over (λ u. p u *ℤ out u -ℤ p u *ℤ inn u) 0 n ≡ sum_over (λ u. p u *ℤ out u) 0 n -ℤ sum_over (λ u. p u *ℤ inn u) 0 n = sum_over-sub (λ u. p u *ℤ out u) (λ u. p u *ℤ inn u) 0 n in
    omega (arith, ints, apart, both, weighted-ends p (λ (a : FlowArc). a.src) n arcs xs sources, weighted-ends p (λ (a : FlowArc). a.dst) n arcs xs targets)
