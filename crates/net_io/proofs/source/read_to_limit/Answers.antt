use Rattle.std.proofs.Common.{rules, ◌≡◌, ◌≤◌, ◌+◌, ◌-◌, List, ℕ, vec_len, length, arith, inl, inr, take, drop, ◌++◌, ap, ◌∙◌}
use Rattle.std.proofs.lemmas.Grind.{common_steps}
use Rattle.std.proofs.Math.ListN.{length-take}
use Rattle.std.proofs.lemmas.List.{take-append-le}
use Rattle.net_io.proofs.Fronts.{front_kept, front_joined, read_to}
use Rattle.net_io.proofs.source.read_to_limit.Goals as goal
use Rattle.net_io.proofs.source.read_to_limit.Goals.{then-count-eq0-via-then-count-eq0, then-count-eq0-via-else-count-eq0+then-len-limit}

pub returns-in_err-count-clause-front : goal.returns-in_err-count-clause-front
returns-in_err-count-clause-front g c = front_kept c.args.limit _ _ _ c.loop.text.items c.from_residual.result (omega arith) c.loop.invariant.2 c.in_err-count.ensures.bytes

pub returns-in_err-extend_from_slice-clause-front :
    goal.returns-in_err-extend_from_slice-clause-front
returns-in_err-extend_from_slice-clause-front g c =
    let piece : List ℕ = take c.in_ok-count.count c.read.new.buf in
    let room : length c.read.new.buf ≤ c.args.limit + 1 - vec_len c.loop.text = grind (arith, common_steps) in
    let few : length piece ≤ c.args.limit + 1 - vec_len c.loop.text = omega (arith, room, c.in_ok-count.ensures.bound, length-take c.in_ok-count.count c.read.new.buf) in
    front_joined c.args.limit _ _ _ c.loop.text.items piece c.from_residual-in_err-extend_from_slice.result (omega (arith, few)) c.loop.invariant.2 c.in_ok-count.ensures.bytes.0

pub returns-then-count-eq0-clause-value : goal.returns-then-count-eq0-clause-value
returns-then-count-eq0-clause-value g c =
    let buf : List ℕ = c.read.new.buf in
    let count = c.in_ok-count.count in
    let joined : c.extend_from_slice.new.self.items ≡ c.loop.text.items ++ take count buf = c.in_ok-extend_from_slice.ensures.items ∙ ap (λ l. c.loop.text.items ++ l) (take-append-le count buf (drop c.min-room.result c.loop.piece) c.in_ok-count.ensures.bound.0) in
    read_to c.args.limit _ _ _ c.loop.text.items (take count buf) c.extend_from_slice.new.self.items joined c.loop.invariant.2 c.in_ok-count.ensures.bytes.0
    (elim c.then-count-eq0.branch [ then-count-eq0-via-then-count-eq0 w ↦ inl (grind (arith, common_steps, joined), c.in_ok-count.ensures.bytes.1 w.if-count-eq0.true (grind (arith, common_steps))) | then-count-eq0-via-else-count-eq0+then-len-limit w ↦ inr (grind (arith, common_steps)) ])

pub loop-preserved : goal.loop-preserved
loop-preserved g c = grind (arith, common_steps)

pub slice_bounds-piece-end : goal.slice_bounds-piece-end
slice_bounds-piece-end g c = search rules

pub overflow_sub-limit : goal.overflow_sub-limit
overflow_sub-limit g c = search rules

pub returns-then-count-eq0-clause-failed : goal.returns-then-count-eq0-clause-failed
returns-then-count-eq0-clause-failed g c = search rules

pub returns-then-count-eq0-clause-reads : goal.returns-then-count-eq0-clause-reads
returns-then-count-eq0-clause-reads g c = search rules

pub returns-then-count-eq0-clause-flag : goal.returns-then-count-eq0-clause-flag
returns-then-count-eq0-clause-flag g c = search rules

pub unreachable-requires : goal.unreachable-requires
unreachable-requires g c = search rules

pub loop-init : goal.loop-init
loop-init c = grind (arith)

pub returns-in_err-count-clause-failed : goal.returns-in_err-count-clause-failed
returns-in_err-count-clause-failed c = grind (arith)

pub returns-in_err-extend_from_slice-clause-flag : goal.returns-in_err-extend_from_slice-clause-flag
returns-in_err-extend_from_slice-clause-flag c = grind (arith)
