use Rattle.std.proofs.Common.{◌≡◌, ◌≤◌, ◌+◌, ◌-◌, ◌++◌, ℕ, List, length, take, drop, refl, subst, arith}
use Rattle.std.proofs.lemmas.Grind.{common_steps}
use Rattle.std.proofs.lemmas.List.{take-append-le}
use Rattle.std.proofs.Math.ListN.{length-take}
use Rattle.net_dimacs.specs.Limits.{text_limit}
use Rattle.net_dimacs.specs.Scans.{Stands}
use Rattle.net_driver.proofs.Pieces.{more_fed}
use Rattle.net_driver.proofs.problem_source.read_pieces.Goals as goal

pub loop-length-preserved : goal.loop-length-preserved
loop-length-preserved g c =
    let buf : List ℕ = c.read.new.buf in
    let count = c.in_ok-count.count in
    let piece : List ℕ = take count buf in
    let bound : count ≤ length buf = c.in_ok-count.ensures.bound.0 in
    let room : length buf ≤ text_limit + 1 - c.loop-length.length = grind (arith, common_steps) in
    let test : c.loop-length.length ≤ text_limit = omega arith in
    let few : c.loop-length.length + count ≤ text_limit + 1 = omega (arith, room, bound, test) in
    let size : length piece ≡ count = omega (arith, length-take count buf, bound) in
    let same : take count (buf ++ drop c.min-room.result c.loop-length.piece) ≡ piece = take-append-le count buf (drop c.min-room.result c.loop-length.piece) bound in (
      more_fed _ _ _ _ _ _ c.loop-length.reading c.in_ok-reading.reading c.loop-length.length count (c.loop-length.length + count) piece c.loop-length.invariant.0 c.in_ok-count.ensures.bytes.0 size refl few
          (λ text known. subst (λ (l : List ℕ). Stands c.in_ok-reading.reading (text ++ l)) same (c.in_ok-reading.ensures text known)) (grind (arith, common_steps, c.in_ok-count.ensures.flag)),
      grind (arith, common_steps, c.in_ok-count.ensures.reads, c.loop-length.invariant.1),
    )

pub returns-then-is_end-clause-value : goal.returns-then-is_end-clause-value
returns-then-is_end-clause-value g c = grind (arith)
