use Rattle.std.proofs.Common.{◌≡◌, ◌<◌, ◌-◌, ℕ, Bool, true, false, List, length, get_or, set, replicate, ℤ, pos, ◌≤ℤ◌, ◌<ℤ◌, vec_len, All, refl, sym, ◌∙◌, ap, subst, arith}
use Rattle.std.proofs.lemmas.Grind.{common_steps}
use Rattle.std.specs.List.{AllZip}
use Rattle.std.proofs.lemmas.List.{get_or_read}
use Rattle.net_normal.specs.Limits.{IsFlowArcOf}
use Rattle.net_normal.specs.Flows.{IsWithinCapacity}
use Rattle.net_normal.specs.declared.problem.FlowArc.{FlowArc}
use Rattle.net_check.proofs.Pairs.{zipped-lengths}
use Rattle.net_solve.specs.Pseudoflows.{IsFull, IsClear, IsSlackArc, no_arc, too_much}
use Rattle.net_solve.specs.Forests.{HasNoDeficit, IsForest, joined_at, no_join}
use Rattle.net_solve.specs.declared.forest.Joined.{Joined}
use Rattle.net_solve.proofs.SentAmounts.{is-deficit, no-deficit}
use Rattle.net_solve.proofs.Changes.{excess-sized}
use Rattle.net_solve.proofs.Grown.{grown-first}
use Rattle.net_solve.proofs.Stopping.{stuck-cut, none-first, none-more, outside-less, last-is}
use Rattle.net_solve.proofs.pseudoflow.Pseudoflow.grow.Goals as goal

-- the same of the lists that the code reads
clear-read : (potentials potentials' flows flows' : List ℤ) (flags flags' : List Bool) (arcs arcs' : List FlowArc) (depth : ℤ) → potentials' ≡ potentials → flows' ≡ flows → flags' ≡ flags → arcs' ≡ arcs → AllZip (IsClear potentials' flags' depth) arcs' flows' → AllZip (IsClear potentials flags depth) arcs flows
clear-read potentials potentials' flows flows' flags flags' arcs arcs' depth p f g a h = rw (← p, ← f, ← g, ← a) h

way-read : (potentials potentials' flows flows' : List ℤ) (flags flags' : List Bool) (arcs arcs' : List FlowArc) (i : ℕ) (depth : ℤ) → potentials' ≡ potentials → flows' ≡ flows → flags' ≡ flags → arcs' ≡ arcs → IsSlackArc potentials' flags' depth (get_or arcs' i no_arc) (get_or flows' i (pos 0)) → IsSlackArc potentials flags depth (get_or arcs i no_arc) (get_or flows i (pos 0))
way-read potentials potentials' flows flows' flags flags' arcs arcs' i depth p f g a h = rw (← p, ← f, ← g, ← a) h

pub joins-init : goal.joins-init
joins-init c =
    let problem = c.args.problem.now in
    let n = vec_len problem.supplies in
    let root = c.args.root in
    let flows = c.args.self.now.flows.items in
    let potentials = c.args.self.now.potentials.items in
    let excess = c.args.self.now.excess.items in
    let flags : c.in_ok-forest.forest.flags.items ≡ set (replicate n false) root true = c.in_ok-forest.ensures.flags ∙ ap (λ (m : ℕ). set (replicate m false) root true) c.len.ensures in
    let places : c.in_ok-forest.forest.places.items ≡ replicate n 0 = c.in_ok-forest.ensures.places ∙ ap (λ (m : ℕ). replicate m 0) c.len.ensures in
    let first = grown-first problem flows potentials excess root c.requires.node c.requires.potentials c.requires.under_way.potentials_count c.requires.root in
    record {
      under_way = c.requires.under_way;
      same_excess = refl;
      grown = rw flags (rw places (rw c.in_ok-forest.ensures.joined first));
      no_deficit = subst (HasNoDeficit excess) (sym flags) (none-first excess n root c.requires.node c.requires.root);
    }

pub min_slack_arc-requires-clause-one_each : goal.min_slack_arc-requires-clause-one_each
min_slack_arc-requires-clause-one_each c =
    ap length c.deref-in-joins.ensures.value ∙ zipped-lengths IsWithinCapacity c.args.problem.now.arcs.items c.joins.self.flows.items c.joins.invariant.under_way.capacity ∙ sym (ap length c.deref.ensures.value)

pub returns-in-None-clause-stuck : goal.returns-in-None-clause-stuck
returns-in-None-clause-stuck c =
    let problem = c.args.problem.now in
    let h = c.joins.invariant in
    let full = subst (λ (f : List Bool). AllZip (IsFull f) problem.arcs.items c.joins.self.flows.items) c.deref-in-joins-3.ensures.value
    (subst (λ (arcs : List FlowArc). AllZip (IsFull c.deref-in-joins-3.result.now) arcs c.joins.self.flows.items) c.deref.ensures.value
    (subst (λ (flows : List ℤ). AllZip (IsFull c.deref-in-joins-3.result.now) c.deref.result.now flows) c.deref-in-joins.ensures.value c.in-None.ensures.none)) in
    stuck-cut problem c.joins.self.flows.items c.joins.self.potentials.items c.joins.self.excess.items c.joins.forest.flags.items c.joins.forest.joined.items c.joins.forest.places.items h.under_way h.grown h.no_deficit full

pub pull-requires-clause-deficit : goal.pull-requires-clause-deficit
pull-requires-clause-deficit c =
    let problem = c.args.problem.now in
    let under = c.in_ok-extend-in-Some.ensures.under_way in
    let grown = c.in_ok-extend-in-Some.ensures.grown in
    let all = c.extend.new.forest.joined.items in
    let excess = c.extend.new.self.excess.items in
    let place : ℕ = c.len-place.result - 1 in
    let inside : place < length all = omega (arith, c.len-place.ensures, c.extend.new.forest.joined.ok.0, grown.some) in
    let joined : c.index.result.now ≡ joined_at all place = get_or_read all _ _ inside c.index.ensures no_join in
    let same : c.index.result.now.node ≡ (joined_at all place).node = ap (λ (x : Joined). x.node) joined in
    let node = grown.forest.node place inside in
    let at : c.index.result.now.node < length excess = omega (arith, same, node, under.excess_count) in
    let read : c.index-in-joins.result.now ≡ get_or excess (joined_at all place).node (pos 0) = get_or_read excess _ _ at c.index-in-joins.ensures (pos 0) ∙ ap (λ (v : ℕ). get_or excess v (pos 0)) same in
    let size = excess-sized problem _ _ excess under (joined_at all place).node node in
    subst (λ (xs : List Joined). get_or excess (joined_at xs place).node (pos 0) <ℤ pos 0) (sym c.deref-then-index-lt0.ensures.value)
    (is-deficit c.index-in-joins.result.now (get_or excess (joined_at all place).node (pos 0)) size read c.if-index-lt0.true)

pub joins-preserved : goal.joins-preserved
joins-preserved c =
    let problem = c.args.problem.now in
    let h = c.joins.invariant in
    let under = c.in_ok-extend-in-Some.ensures.under_way in
    let grown = c.in_ok-extend-in-Some.ensures.grown in
    let one = c.in_ok-extend-in-Some.ensures.one in
    let kept = c.in_ok-extend-in-Some.ensures.same_excess in
    let all = c.extend.new.forest.joined.items in
    let excess = c.extend.new.self.excess.items in
    let place : ℕ = c.len-place.result - 1 in
    let inside : place < length all = omega (arith, c.len-place.ensures, c.extend.new.forest.joined.ok.0, grown.some) in
    let joined : c.index.result.now ≡ joined_at all place = get_or_read all _ _ inside c.index.ensures no_join in
    let same : c.index.result.now.node ≡ (joined_at all place).node = ap (λ (x : Joined). x.node) joined in
    let node = grown.forest.node place inside in
    let at : c.index.result.now.node < length excess = omega (arith, same, node, under.excess_count) in
    let read : c.index-in-joins.result.now ≡ get_or excess (joined_at all place).node (pos 0) = get_or_read excess _ _ at c.index-in-joins.ensures (pos 0) ∙ ap (λ (v : ℕ). get_or excess v (pos 0)) same in
    let size = excess-sized problem _ _ excess under (joined_at all place).node node in
    let last = last-is _ _ _ all place one (omega (arith, inside, c.len-place.ensures, c.extend.new.forest.joined.ok.0)) in
    let here = subst (λ (x : Joined). pos 0 ≤ℤ get_or excess x.node (pos 0)) last (no-deficit c.index-in-joins.result.now (get_or excess (joined_at all place).node (pos 0)) size read c.if-index-lt0.false) in
    record {
      under_way = under;
      same_excess = kept ∙ h.same_excess;
      grown = grown;
      no_deficit = none-more excess _ _ _ _ (subst (λ (e : List ℤ). HasNoDeficit e c.joins.forest.flags.items) (sym kept) h.no_deficit) one here;
    }

pub joins-smaller : goal.joins-smaller
joins-smaller c = outside-less _ _ _ _ c.in_ok-extend-in-Some.ensures.one

pub min_slack_arc-requires-clause-arcs : goal.min_slack_arc-requires-clause-arcs
min_slack_arc-requires-clause-arcs c =
    let problem = c.args.problem.now in
    let count : vec_len problem.supplies ≡ length c.deref-in-joins-2.result.now = sym c.joins.invariant.under_way.potentials_count ∙ sym (ap length c.deref-in-joins-2.ensures.value) in
    subst (λ (n : ℕ). All (IsFlowArcOf n) c.deref.result.now) count (subst (All (IsFlowArcOf (vec_len problem.supplies))) (sym c.deref.ensures.value) problem.arcs_fit)

pub min_slack_arc-requires-clause-flags : goal.min_slack_arc-requires-clause-flags
min_slack_arc-requires-clause-flags c =
    ap length c.deref-in-joins-3.ensures.value ∙ c.joins.invariant.grown.flags_count ∙ sym c.joins.invariant.under_way.potentials_count ∙ sym (ap length c.deref-in-joins-2.ensures.value)

pub extend-requires-clause-clear : goal.extend-requires-clause-clear
extend-requires-clause-clear c =
    clear-read _ _ _ _ _ _ _ _ c.in-Some.way.depth c.deref-in-joins-2.ensures.value c.deref-in-joins.ensures.value c.deref-in-joins-3.ensures.value c.deref.ensures.value c.in-Some.ensures.clear

pub extend-requires-clause-is : goal.extend-requires-clause-is
extend-requires-clause-is c =
    way-read _ _ _ _ _ _ _ _ c.in-Some.way.index c.in-Some.way.depth c.deref-in-joins-2.ensures.value c.deref-in-joins.ensures.value c.deref-in-joins-3.ensures.value c.deref.ensures.value c.in-Some.ensures.is

pub overflow_sub-place : goal.overflow_sub-place
overflow_sub-place c = omega (arith, c.len-place.ensures, c.extend.new.forest.joined.ok.0, c.in_ok-extend-in-Some.ensures.grown.some)

pub index-requires : goal.index-requires
index-requires c = omega (arith, c.len-place.ensures, c.extend.new.forest.joined.ok.0, c.in_ok-extend-in-Some.ensures.grown.some)

pub index-requires-in-joins : goal.index-requires-in-joins
index-requires-in-joins c =
    let grown = c.in_ok-extend-in-Some.ensures.grown in
    let all = c.extend.new.forest.joined.items in
    let place : ℕ = c.len-place.result - 1 in
    let inside : place < length all = omega (arith, c.len-place.ensures, c.extend.new.forest.joined.ok.0, grown.some) in
    let joined : c.index.result.now ≡ joined_at all place = get_or_read all _ _ inside c.index.ensures no_join in
    omega (arith, ap (λ (x : Joined). x.node) joined, grown.forest.node place inside, c.in_ok-extend-in-Some.ensures.under_way.excess_count, c.extend.new.self.excess.ok.0)

pub overflow_cast-place : goal.overflow_cast-place
overflow_cast-place c = omega (arith, c.len-place.ensures, c.extend.new.forest.joined.ok.0, c.in_ok-extend-in-Some.ensures.grown.counted, c.args.problem.now.few_nodes)

pub pull-requires-clause-forest : goal.pull-requires-clause-forest
pull-requires-clause-forest c =
    let state = c.extend.new.self in
    subst (IsForest c.args.problem.now state.flows.items state.potentials.items state.excess.items) (sym c.deref-then-index-lt0.ensures.value) c.in_ok-extend-in-Some.ensures.grown.forest

pub pull-requires-clause-place : goal.pull-requires-clause-place
pull-requires-clause-place c = omega (arith, c.len-place.ensures, c.extend.new.forest.joined.ok.0, c.in_ok-extend-in-Some.ensures.grown.some, ap length c.deref-then-index-lt0.ensures.value)

pub returns-then-index-lt0-clause-sent : goal.returns-then-index-lt0-clause-sent
returns-then-index-lt0-clause-sent c =
    subst (λ (xs : List ℤ). too_much c.pull.new.self.excess.items < too_much xs) (c.in_ok-extend-in-Some.ensures.same_excess ∙ c.joins.invariant.same_excess) c.pull.ensures.sent

pub returns-then-index-lt0-clause-stuck : goal.returns-then-index-lt0-clause-stuck
returns-then-index-lt0-clause-stuck c = grind (arith, common_steps)

pub returns-in-None-clause-sent : goal.returns-in-None-clause-sent
returns-in-None-clause-sent c = grind (arith, common_steps)

pub returns-then-index-lt0-clause-under_way : goal.returns-then-index-lt0-clause-under_way
returns-then-index-lt0-clause-under_way c = grind (arith, common_steps)

pub extend-requires-clause-grown : goal.extend-requires-clause-grown
extend-requires-clause-grown c = grind (arith, common_steps)

pub returns-in-None-clause-under_way : goal.returns-in-None-clause-under_way
returns-in-None-clause-under_way c = grind (arith, common_steps)

pub new-requires : goal.new-requires
new-requires c = grind (arith, common_steps)

pub extend-requires-clause-inside : goal.extend-requires-clause-inside
extend-requires-clause-inside c = grind (arith, common_steps)

pub extend-requires-clause-under_way : goal.extend-requires-clause-under_way
extend-requires-clause-under_way c = grind (arith, common_steps)

pub pull-requires-clause-under_way : goal.pull-requires-clause-under_way
pull-requires-clause-under_way c = grind (arith, common_steps)
