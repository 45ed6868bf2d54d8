use Rattle.std.proofs.Common.{◌≡◌, get_or, ℤ, pos, ◌≤ℤ◌, ◌<ℤ◌, vec_len, ◌∙◌, refl, arith}
use Rattle.std.proofs.lemmas.Grind.{common_steps}
use Rattle.std.proofs.lemmas.Int.{ints}
use Rattle.std.proofs.lemmas.List.{get_or_read}
use Rattle.net_solve.specs.Forests.{joined_at}
use Rattle.net_solve.proofs.SentAmounts.{is-source, not-source}
use Rattle.net_solve.proofs.Changes.{excess-sized}
use Rattle.net_solve.proofs.Measures.{moved-le, moved-less}
use Rattle.net_solve.proofs.Walking.{walk-start, walked-next, step-up}
use Rattle.net_solve.proofs.pseudoflow.Pseudoflow.pull.Goals as goal

pub up-init : goal.up-init
up-init c = record {
  under_way = c.requires.under_way;
  potentials = refl;
  walk = walk-start c.args.problem.now c.args.self.now.flows.items c.args.self.now.potentials.items c.args.self.now.excess.items c.args.all.now c.args.place c.requires.forest c.requires.place c.requires.deficit;
  measure = omega arith;
}

pub up-preserved : goal.up-preserved
up-preserved c =
    let problem = c.args.problem.now in
    let all = c.args.all.now in
    let place = c.up.place in
    let h = c.up.invariant in
    let d : ℤ = c.send.result in
    let now = c.up.self.excess.items in
    let next = c.send.new.self.excess.items in
    let s = step-up problem c.args.self.now.flows.items c.up.self.flows.items c.args.self.now.potentials.items c.args.self.now.excess.items now next all place d c.requires.forest h.walk c.send.ensures.moves in
    let u = (joined_at all (joined_at all place).parent).node in
    let read : c.index.result.now ≡ get_or now u (pos 0) = get_or_read now _ _ (omega (arith, s.up, h.under_way.excess_count)) c.index.ensures (pos 0) in
    let size = excess-sized problem c.up.self.flows.items c.up.self.potentials.items now h.under_way u s.up in
    let low : get_or now u (pos 0) ≤ℤ pos 0 = not-source c.index.result.now (get_or now u (pos 0)) size read c.if-is_source.false in
    let less = moved-le (vec_len problem.supplies) u (joined_at all place).node d now next h.under_way.excess_count c.send.ensures.under_way.excess_count (omega (arith, ints, c.send.ensures.positive)) c.send.ensures.wanted s.moves in
    record {
      under_way = c.send.ensures.under_way;
      potentials = c.send.ensures.potentials ∙ h.potentials;
      walk = walked-next problem c.args.self.now.excess.items now next c.args.self.now.flows.items c.up.self.flows.items c.send.new.self.flows.items c.args.self.now.potentials.items all place d c.requires.forest h.walk s.moves c.send.ensures.others c.send.ensures.positive low;
      measure = omega (arith, less, h.measure);
    }

pub returns-then-is_source-clause-sent : goal.returns-then-is_source-clause-sent
returns-then-is_source-clause-sent c =
    let problem = c.args.problem.now in
    let all = c.args.all.now in
    let place = c.up.place in
    let h = c.up.invariant in
    let d : ℤ = c.send.result in
    let now = c.up.self.excess.items in
    let next = c.send.new.self.excess.items in
    let s = step-up problem c.args.self.now.flows.items c.up.self.flows.items c.args.self.now.potentials.items c.args.self.now.excess.items now next all place d c.requires.forest h.walk c.send.ensures.moves in
    let u = (joined_at all (joined_at all place).parent).node in
    let read : c.index.result.now ≡ get_or now u (pos 0) = get_or_read now _ _ (omega (arith, s.up, h.under_way.excess_count)) c.index.ensures (pos 0) in
    let size = excess-sized problem c.up.self.flows.items c.up.self.potentials.items now h.under_way u s.up in
    let some : pos 0 <ℤ get_or now u (pos 0) = is-source c.index.result.now (get_or now u (pos 0)) size read c.if-is_source.true in
    let less = moved-less (vec_len problem.supplies) u (joined_at all place).node d now next h.under_way.excess_count c.send.ensures.under_way.excess_count s.up s.apart c.send.ensures.positive c.send.ensures.wanted some s.moves in
    omega (arith, less, h.measure)

pub bounds-all-joined : goal.bounds-all-joined
bounds-all-joined c = grind (arith, common_steps)

pub offset_bounds-all-place : goal.offset_bounds-all-place
offset_bounds-all-place c = grind (arith, common_steps)

pub send-requires-clause-room : goal.send-requires-clause-room
send-requires-clause-room c = grind (arith, common_steps)

pub index-requires : goal.index-requires
index-requires c = grind (arith, common_steps)

pub up-smaller : goal.up-smaller
up-smaller c = grind (arith, common_steps)

pub offset_bounds-all-joined : goal.offset_bounds-all-joined
offset_bounds-all-joined c = grind (arith, common_steps)

pub returns-then-is_source-clause-under_way : goal.returns-then-is_source-clause-under_way
returns-then-is_source-clause-under_way c = grind (arith, common_steps)

pub send-requires-clause-level : goal.send-requires-clause-level
send-requires-clause-level c = grind (arith, common_steps)

pub overflow_cast-joined : goal.overflow_cast-joined
overflow_cast-joined c = grind (arith, common_steps)

pub send-requires-clause-deficit : goal.send-requires-clause-deficit
send-requires-clause-deficit c = grind (arith, common_steps)

pub bounds-all-place : goal.bounds-all-place
bounds-all-place c = grind (arith, common_steps)

pub send-requires-clause-index : goal.send-requires-clause-index
send-requires-clause-index c = grind (arith, common_steps)

pub overflow_cast-tail-in-up : goal.overflow_cast-tail-in-up
overflow_cast-tail-in-up c = grind (arith, common_steps)

pub send-requires-clause-head : goal.send-requires-clause-head
send-requires-clause-head c = grind (arith, common_steps)

pub overflow_cast-tail : goal.overflow_cast-tail
overflow_cast-tail c = grind (arith, common_steps)

pub send-requires-clause-under_way : goal.send-requires-clause-under_way
send-requires-clause-under_way c = grind (arith, common_steps)
