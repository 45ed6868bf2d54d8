use Rattle.std.proofs.Common.{◌≡◌, ◌+◌, ◌<◌, length, drop, get_or, ℤ, pos, Some, ap, to_z, of_z, arith}
use Rattle.std.proofs.lemmas.Grind.{common_steps}
use mir.Syntax.{w64}
use Rattle.net_io.proofs.Paging.{start, step, sends_as}
use Rattle.net_report.specs.Links.{arc_line, arc_lines}
use Rattle.net_report.specs.References.{declared_name, names_of}
use Rattle.net_report.proofs.ListedRows.{names_next, arc_at}
use Rattle.net_report.proofs.links.send_declared_arcs.Goals as goal

pub loop-place-init : goal.loop-place-init
loop-place-init g c = start _ _ (arc_lines c.args.numbers.now c.args.offsets.now (names_of c.args.declaration.now))

pub loop-place-preserved : goal.loop-place-preserved
loop-place-preserved g c =
    let x = c.args.declaration.now in
    let numbers = c.args.numbers.now in
    let offsets = c.args.offsets.now in
    let k = c.loop-place.place in
    let key = c.key-key.result in
    let inside : k < length x.rows = omega (arith, c.loop-place-test.true, c.len-place-end.ensures) in
    let name = declared_name (Some x.declared) key in
    let same : to_z w64 (of_z w64 (get_or offsets k (pos 0))) ≡ get_or offsets k (pos 0) = grind (arith, common_steps) in
    step (arc_line (get_or numbers k 0) (get_or offsets k (pos 0)) name) (arc_lines (drop (k + 1) numbers) (drop (k + 1) offsets) (drop (k + 1) (names_of x)))
    (arc_at numbers offsets (names_of x) k name (omega (arith, inside, c.requires.numbers)) (omega (arith, inside, c.requires.offsets)) (names_next x k key inside c.key-key.ensures))
    c.loop-place.invariant (sends_as (ap (λ (z : ℤ). arc_line (get_or numbers k 0) z name) same) c.send_arc.ensures)
