-- How a draft takes an arc.
use Rattle.std.proofs.Common.{◌≡◌, ℕ, Bool, false, cond, ℤ, Some, Err, length, sym, ap, ◌∙◌}
use Rattle.std.specs.Prelude.{Option, nat_le}
use Rattle.net_normal.specs.declared.problem.FlowArc.{FlowArc}
use Rattle.net_dimacs.specs.declared.problem_fault.LineFault.{LineFault}
use Rattle.net_dimacs.specs.declared.problem_fault.LineFault.TheVariants.{Count}
use Rattle.net_dimacs.specs.Reading.{Sketch, place_of, bounds_fault, with_arc, with_arc_at, with_arc_or}

-- an arc with room and with both its nodes; its numbers come as they were passed
pub with_arc_is : (d : Sketch) (src dst low cap cost src' dst' low' cap' cost' : ℤ) (s t : ℕ) (fault : Option LineFault)
    → src' ≡ src → dst' ≡ dst → low' ≡ low → cap' ≡ cap → cost' ≡ cost
    → nat_le d.arc_count (length d.arcs) ≡ false → Some s ≡ place_of d src' → Some t ≡ place_of d dst' → fault ≡ bounds_fault low' cap' cost'
    → with_arc d src dst low cap cost ≡ with_arc_or d fault (record { src = s; dst = t; low = low'; cap = cap'; cost = cost' })
with_arc_is d src dst low cap cost src' dst' low' cap' cost' s t fault e1 e2 e3 e4 e5 room p q b =
    let arc : FlowArc = record { src = s; dst = t; low = low'; cap = cap'; cost = cost' } in
    let same : with_arc d src dst low cap cost ≡ with_arc d src' dst' low' cap' cost' = cc in
    same
    ∙ ap (λ (x : Bool). cond x (Err Count) (with_arc_at d (place_of d src') (place_of d dst') low' cap' cost')) room
    ∙ ap (λ (x : Option ℕ). with_arc_at d x (place_of d dst') low' cap' cost') (sym p)
    ∙ ap (λ (x : Option ℕ). with_arc_at d (Some s) x low' cap' cost') (sym q)
    ∙ ap (λ (x : Option LineFault). with_arc_or d x arc) (sym b)
