-- Sums over the arcs of a network (Ahuja, Magnanti, Orlin: Network Flows, chapter 1), in unbounded
-- integers.
use Rattle.std.specs.Prelude.{ℕ, Bool, false, List, [], ◌∷◌, Option, Some, None, ℤ, pos, ◌+ℤ◌, ◌*ℤ◌, ◌==◌, if◌then◌else◌}

-- whether this end of an arc is node v
abbrev pub is_node : ℕ → Option ℕ → Bool
is_node v None = false
is_node v (Some u) = u == v

-- the total flow on the arcs that satisfy `test`; each arc has one flow
abbrev pub flow_on : {A : Type 0} → (A → Bool) → List A → List ℤ → ℤ
flow_on test [] flows = pos 0
flow_on test (arc ∷ arcs) [] = pos 0
flow_on test (arc ∷ arcs) (flow ∷ flows) = (if test arc then flow else pos 0) +ℤ flow_on test arcs flows

-- the total cost: the sum of price times flow over all arcs
abbrev pub price_of : {A : Type 0} → (A → ℤ) → List A → List ℤ → ℤ
price_of price [] flows = pos 0
price_of price (arc ∷ arcs) [] = pos 0
price_of price (arc ∷ arcs) (flow ∷ flows) = (price arc *ℤ flow) +ℤ price_of price arcs flows

abbrev pub sum_of : List ℤ → ℤ
sum_of [] = pos 0
sum_of (x ∷ xs) = x +ℤ sum_of xs
