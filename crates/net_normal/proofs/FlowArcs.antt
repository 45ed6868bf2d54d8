-- Arcs of a problem, field by field.
use Rattle.std.proofs.Common.{◌≡◌, ℕ, ℤ, ◌∙◌, ap}
use Rattle.net_normal.specs.declared.problem.FlowArc.{FlowArc}

pub same_arc : (a b : FlowArc) → a.src ≡ b.src → a.dst ≡ b.dst → a.low ≡ b.low → a.cap ≡ b.cap → a.cost ≡ b.cost → a ≡ b
same_arc a b src dst low cap cost =
    ap (λ (x : ℕ). let new : FlowArc = record { src = x; dst = a.dst; low = a.low; cap = a.cap; cost = a.cost } in new) src
    ∙ ap (λ (x : ℕ). let new : FlowArc = record { src = b.src; dst = x; low = a.low; cap = a.cap; cost = a.cost } in new) dst
    ∙ ap (λ (x : ℤ). let new : FlowArc = record { src = b.src; dst = b.dst; low = x; cap = a.cap; cost = a.cost } in new) low
    ∙ ap (λ (x : ℤ). let new : FlowArc = record { src = b.src; dst = b.dst; low = b.low; cap = x; cost = a.cost } in new) cap
    ∙ ap (λ (x : ℤ). let new : FlowArc = record { src = b.src; dst = b.dst; low = b.low; cap = b.cap; cost = x } in new) cost
