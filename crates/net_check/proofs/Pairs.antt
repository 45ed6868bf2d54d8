-- Pairs of an arc and its flow, by index and one after the other.
use Rattle.std.proofs.Common.{◌≡◌, ℕ, zero, suc, ◌<◌, List, [], ◌∷◌, length, get_or, Some, ℤ, pos, All, refl, ap, subst, arith}
use Rattle.std.proofs.lemmas.Int.{ints}
use Rattle.std.specs.List.{AllZip, slice_get}
use Rattle.net_normal.specs.Limits.{IsSized, IsFlowArcOf, flow_limit}
use Rattle.net_normal.specs.Flows.{IsWithinCapacity}
use Rattle.net_normal.specs.declared.problem.FlowArc.{FlowArc}
use Rattle.net_check.specs.FirstFaults.{ArcKeeps}

-- what a read past the end would give
abbrev pub no_arc : FlowArc
no_arc = record { src = 0; dst = 0; low = pos 0; cap = pos 0; cost = pos 0 }

-- what stands at an index
pub got : {A : Type 0} (xs : List A) (i : ℕ) (x d : A) → slice_get xs i ≡ Some x → get_or xs i d ≡ x
got [] i x d e = cc
got (y ∷ xs) zero x d e = cc
got (y ∷ xs) (suc i) x d e = got xs i x d e

pub gets : {A : Type 0} (xs : List A) (i : ℕ) (d : A) → i < length xs → slice_get xs i ≡ Some (get_or xs i d)
gets [] i d h = absurd (omega (arith, h))
gets (y ∷ xs) zero d h = refl
gets (y ∷ xs) (suc i) d h = gets xs i d (omega (arith, h))

-- one pair
pub zipped-at : {A : Type 0} (R : A → ℤ → Type 0) (xs : List A) (ys : List ℤ) → AllZip R xs ys → (i : ℕ) (d : A) (e : ℤ) → i < length xs → R (get_or xs i d) (get_or ys i e)
zipped-at R [] ys h i d e inside = absurd (omega (arith, inside))
zipped-at R (x ∷ xs) [] h i d e inside = absurd h
zipped-at R (x ∷ xs) (y ∷ ys) h zero d e inside = h.0
zipped-at R (x ∷ xs) (y ∷ ys) h (suc i) d e inside = zipped-at R xs ys h.1 i d e (omega (arith, inside))

pub keeps-here : (R : FlowArc → ℤ → Type 0) (arcs : List FlowArc) (flows : List ℤ) (i : ℕ) (d : FlowArc) (e : ℤ) → R (get_or arcs i d) (get_or flows i e) → ArcKeeps R arcs flows i
keeps-here R arcs flows i d e h arc flow p q =
    subst (λ (a : FlowArc). R a flow) (got arcs i arc d p) (subst (λ (y : ℤ). R (get_or arcs i d) y) (got flows i flow e q) h)

pub kept : (R : FlowArc → ℤ → Type 0) (arcs : List FlowArc) (flows : List ℤ) (i : ℕ) (d : FlowArc) (e : ℤ) → i < length arcs → length flows ≡ length arcs → ArcKeeps R arcs flows i → R (get_or arcs i d) (get_or flows i e)
kept R arcs flows i d e h same keeps = keeps (get_or arcs i d) (get_or flows i e) (gets arcs i d h) (gets flows i e (omega (arith, h, same)))

-- all pairs
pub keeps-all : (R : FlowArc → ℤ → Type 0) (arcs : List FlowArc) (flows : List ℤ) → length flows ≡ length arcs → ((k : ℕ) → k < length arcs → ArcKeeps R arcs flows k) → AllZip R arcs flows
keeps-all R [] [] h f = tt
keeps-all R [] (y ∷ flows) h f = absurd (omega (arith, h))
keeps-all R (a ∷ arcs) [] h f = absurd (omega (arith, h))
keeps-all R (a ∷ arcs) (y ∷ flows) h f = (f 0 (omega arith) a y refl refl, keeps-all R arcs flows (omega (arith, h)) (λ k l. f (suc k) (omega (arith, l))))

pub zipped-keeps : (R : FlowArc → ℤ → Type 0) (arcs : List FlowArc) (flows : List ℤ) → AllZip R arcs flows → (k : ℕ) → ArcKeeps R arcs flows k
zipped-keeps R [] flows h k arc flow p q = cc
zipped-keeps R (a ∷ arcs) [] h k arc flow p q = absurd h
zipped-keeps R (a ∷ arcs) (y ∷ flows) h zero arc flow p q =
    let here : a ≡ arc = cc in
    let same : y ≡ flow = cc in
    subst (λ (b : FlowArc). R b flow) here (subst (λ (z : ℤ). R a z) same h.0)
zipped-keeps R (a ∷ arcs) (y ∷ flows) h (suc k) arc flow p q = zipped-keeps R arcs flows h.1 k arc flow p q

pub zipped-lengths : {A : Type 0} (R : A → ℤ → Type 0) (xs : List A) (ys : List ℤ) → AllZip R xs ys → length ys ≡ length xs
zipped-lengths R [] [] h = refl
zipped-lengths R [] (y ∷ ys) h = absurd h
zipped-lengths R (x ∷ xs) [] h = absurd h
zipped-lengths R (x ∷ xs) (y ∷ ys) h = ap suc (zipped-lengths R xs ys h.1)

-- a flow within its bounds is within the limits
pub within-sized : (nodes : ℕ) (arc : FlowArc) (y : ℤ) → IsFlowArcOf nodes arc → IsWithinCapacity arc y → IsSized flow_limit y
within-sized nodes arc y fits h = record { above = omega (arith, ints, fits.low, h.low); below = omega (arith, ints, fits.cap, h.cap) }

pub flow-sized : (nodes : ℕ) (arcs : List FlowArc) (flows : List ℤ) → All (IsFlowArcOf nodes) arcs → AllZip IsWithinCapacity arcs flows → (i : ℕ) (d : FlowArc) (e : ℤ) → i < length arcs → IsSized flow_limit (get_or flows i e)
flow-sized nodes arcs flows fit within i d e inside = within-sized nodes (get_or arcs i d) (get_or flows i e) (fit i d inside) (zipped-at IsWithinCapacity arcs flows within i d e inside)
