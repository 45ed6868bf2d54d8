use Rattle.std.proofs.Common.{◌≡◌, ◌+◌, ◌<◌, length, get_or, ℤ, pos, FitsSigned, to_z, of_z, w64, rules, sym, subst, arith}
use Rattle.std.proofs.lemmas.Int.{ints}
use Rattle.std.proofs.lemmas.List.{get_or_read}
use Rattle.net_solve.specs.Rows.{no_entry, entry_at, IsEntry, IsScanned}
use Rattle.net_solve.specs.Machines.{IsDeep, state_of}
use Rattle.net_solve.proofs.Stepping.{plain}
use Rattle.net_solve.proofs.Scans.{cost-sized, head-inside, scanned-lower, scanned-more, scanned-here, least-out}
use Rattle.net_solve.proofs.scaling.Machine.least_out.Goals.{After-index, After-index-in-loop-place-3}
use Rattle.net_solve.proofs.scaling.Machine.least_out.Goals as goal

inside : (c : After-index) → c.loop-place.place < length c.args.rows.now.entries.items
inside c =
    let rows = c.requires.rows in
    let starts = c.args.rows.now.starts in
    let within : c.args.node + 1 < length starts.items = omega (arith, c.requires.node, rows.starts_count) in
    let last : c.index-last.result.now ≡ get_or starts.items (c.args.node + 1) 0 = get_or_read starts.items _ _ within c.index-last.ensures 0 in
    let upto = rows.upto (c.args.node + 1) within in
    omega (arith, c.loop-place-test.true, last, upto)

entry_is : (c : After-index) → c.index.result.now ≡ entry_at c.args.rows.now.entries.items c.loop-place.place
entry_is c = get_or_read c.args.rows.now.entries.items _ _ (inside c) c.index.ensures no_entry

is_entry : (c : After-index) → IsEntry c.args.problem.now c.index.result.now
is_entry c = subst (IsEntry c.args.problem.now) (sym (entry_is c)) (c.requires.rows.entries_are c.loop-place.place (inside c))

pub lesser-least-requires-clause-cost : goal.lesser-least-requires-clause-cost
lesser-least-requires-clause-cost c = cost-sized c.args.problem.now c.index.result.now (is_entry (goal.at.lesser-least-requires-clause-cost c).After-index)

head_is : (c : After-index-in-loop-place-3) → IsEntry c.args.problem.now c.index.result.now → c.index-in-loop-place-3.result.now ≡ get_or c.args.self.now.potentials.items c.index.result.now.head (pos 0)
head_is c e =
    let h = head-inside c.args.problem.now c.index.result.now e in
    get_or_read c.args.self.now.potentials.items _ _ (omega (arith, h, c.requires.running.standing.deep.count)) c.index-in-loop-place-3.ensures (pos 0)

pub lesser-least-requires-clause-head_potential : goal.lesser-least-requires-clause-head_potential
lesser-least-requires-clause-head_potential c =
    let d = goal.at.lesser-least-requires-clause-head_potential c in
    let e = is_entry d.After-index in
    subst IsDeep (sym (head_is d.After-index-in-loop-place-3 e)) (c.requires.running.standing.deep.each c.index.result.now.head (head-inside c.args.problem.now c.index.result.now e))

pub loop-place-preserved : goal.loop-place-preserved
loop-place-preserved c =
    let d = goal.at.loop-place-preserved c in
    let e = is_entry d.After-index in
    let m = c.args.self.now in
    let h = c.requires.running.standing in
    let f : FitsSigned w64 c.lesser-least.result = search rules in
    let p = plain c.lesser-least.result f in
    let own : c.index-in-loop-place-2.result.now ≡ get_or m.potentials.items c.args.node (pos 0) = get_or_read m.potentials.items _ _ (omega (arith, c.requires.node, h.deep.count)) c.index-in-loop-place-2.ensures (pos 0) in
    let flow : c.index-in-loop-place.result.now ≡ get_or m.carried.flows.items c.index.result.now.index (pos 0) = get_or_read m.carried.flows.items _ _ (omega (arith, e.inside, h.carried.flows_count)) c.index-in-loop-place.ensures (pos 0) in
    let new : ℤ = to_z w64 (of_z w64 c.lesser-least.result) in
    scanned-more (λ q. IsScanned m.carried.flows.items m.potentials.items (get_or m.potentials.items c.args.node (pos 0)) new (entry_at c.args.rows.now.entries.items q)) c.index-first.result.now c.loop-place.place
    (λ q l k. scanned-lower m.carried.flows.items m.potentials.items (get_or m.potentials.items c.args.node (pos 0)) _ new (entry_at c.args.rows.now.entries.items q) (omega (arith, ints, p, c.lesser-least.ensures.kept)) (c.loop-place.invariant q l k))
    (subst (IsScanned m.carried.flows.items m.potentials.items (get_or m.potentials.items c.args.node (pos 0)) new) (entry_is d.After-index)
    (scanned-here _ _ _ _ _ _ c.index.result.now flow own (head_is d.After-index-in-loop-place-3 e) p c.lesser-least.ensures.over))

pub returns : goal.returns
returns c =
    let rows = c.requires.rows in
    let starts = c.args.rows.now.starts in
    least-out c.args.problem.now (state_of c.args.self.now) starts.items c.args.rows.now.entries.items c.args.node c.index-first.result.now c.index-last.result.now _ rows
    (get_or_read starts.items _ _ (omega (arith, c.requires.node, rows.starts_count)) c.index-first.ensures 0)
    (get_or_read starts.items _ _ (omega (arith, c.requires.node, rows.starts_count)) c.index-last.ensures 0)
    (λ p l m. c.loop-place.invariant p l (omega (arith, m, c.loop-place-test.false)))

pub index-requires : goal.index-requires
index-requires c =
    let rows = c.requires.rows in
    let starts = c.args.rows.now.starts in
    let within : c.args.node + 1 < length starts.items = omega (arith, c.requires.node, rows.starts_count) in
    let last : c.index-last.result.now ≡ get_or starts.items (c.args.node + 1) 0 = get_or_read starts.items _ _ within c.index-last.ensures 0 in
    let upto = rows.upto (c.args.node + 1) within in
    omega (arith, c.loop-place-test.true, last, upto)

pub overflow_cast-entry : goal.overflow_cast-entry
overflow_cast-entry c = let e = is_entry (goal.at.overflow_cast-entry c).After-index in omega (arith, e.inside, c.args.problem.now.few_arcs)

pub index-requires-in-loop-place : goal.index-requires-in-loop-place
index-requires-in-loop-place c = let e = is_entry (goal.at.index-requires-in-loop-place c).After-index in omega (arith, e.inside, c.requires.running.standing.carried.flows_count)

pub overflow_cast-entry-in-loop-place : goal.overflow_cast-entry-in-loop-place
overflow_cast-entry-in-loop-place c =
    let e = is_entry (goal.at.overflow_cast-entry-in-loop-place c).After-index in
    omega (arith, head-inside c.args.problem.now c.index.result.now e, c.args.problem.now.few_nodes)

pub index-requires-in-loop-place-3 : goal.index-requires-in-loop-place-3
index-requires-in-loop-place-3 c =
    let e = is_entry (goal.at.index-requires-in-loop-place-3 c).After-index in
    omega (arith, head-inside c.args.problem.now c.index.result.now e, c.requires.running.standing.deep.count)

pub lesser-least-requires-clause-potential : goal.lesser-least-requires-clause-potential
lesser-least-requires-clause-potential c =
    let h = c.requires.running.standing in
    let own : c.index-in-loop-place-2.result.now ≡ get_or c.args.self.now.potentials.items c.args.node (pos 0) = get_or_read c.args.self.now.potentials.items _ _ (omega (arith, c.requires.node, h.deep.count)) c.index-in-loop-place-2.ensures (pos 0) in
    subst IsDeep (sym own) (h.deep.each c.args.node c.requires.node)

pub loop-place-init : goal.loop-place-init
loop-place-init c = grind (arith)
