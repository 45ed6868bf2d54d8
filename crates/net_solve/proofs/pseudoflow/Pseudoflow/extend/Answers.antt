use Rattle.std.proofs.Common.{[], ◌∷◌, ◌++◌, ◌≡◌, ◌<◌, ◌≤◌, ◌^◌, ◌+◌, ℕ, List, Bool, length, get_or, set, ℤ, to_z, of_z, w64, vec_len, sym, ◌∙◌, ap, subst, arith, All, true}
use Rattle.std.proofs.lemmas.Grind.{common_steps}
use Rattle.std.specs.Int.{w128}
use Rattle.std.specs.List.{AllZip}
use Rattle.std.proofs.lemmas.Int.{ints}
use Rattle.std.proofs.lemmas.List.{get_or_read}
use Rattle.net_normal.specs.Limits.{IsSized, IsFlowArcOf}
use Rattle.net_normal.specs.declared.problem.FlowArc.{FlowArc}
use Rattle.net_normal.specs.declared.problem.Problem.{Problem}
use Rattle.net_check.specs.Certificates.{is_in, IsComplementary}
use Rattle.net_solve.specs.Forests.{IsGrown, tail_of, head_of}
use Rattle.net_solve.specs.declared.forest.Joined.{Joined}
use Rattle.net_solve.specs.Pseudoflows.{no_arc, arc_at, IsClear, IsUnderWay}
use Rattle.net_solve.proofs.Grown.{Linked, Way, way-of, links-of, grown-more, sunk-sized, depth-sized}
use Rattle.net_solve.proofs.ForestSinking.{Sinks}
use Rattle.net_solve.proofs.SentAmounts.{one-of}
use Rattle.net_solve.proofs.pseudoflow.Pseudoflow.extend.Goals as goal

few-joined : (joined outside nodes : ℕ) → joined + outside ≡ nodes → nodes ≤ 20000 → joined ≤ 20000
few-joined joined outside nodes h few = omega (arith, h, few)

plain : (d : ℤ) → IsSized (10 ^ 18) d → to_z w64 (of_z w64 (to_z w128 (of_z w128 d))) ≡ d
plain d h = omega (arith, ints, h.above, h.below)

pub overflow_cast-way : goal.overflow_cast-way
overflow_cast-way c =
    let problem = c.args.problem.now in
    let h = c.requires.grown in
    let w = way-of problem _ _ _ _ _ _ c.args.way.index c.args.way.depth c.requires.under_way h c.requires.inside c.requires.is in
    let size = depth-sized _ h.sunk c.args.way.depth (few-joined _ _ _ h.counted problem.few_nodes) h.has_sunk.some w.leads.some w.deep in
    omega (arith, ints, size.above, size.below)

pub lower-requires-clause-sizes : goal.lower-requires-clause-sizes
lower-requires-clause-sizes c = λ v l.
    let problem = c.args.problem.now in
    let h = c.requires.grown in
    sunk-sized c.args.forest.now.flags.items (length c.args.forest.now.joined.items) h.sunk c.args.self.now.potentials.items (few-joined _ _ _ h.counted problem.few_nodes) h.has_sunk v
    (omega (arith, l, h.flags_count, c.requires.under_way.potentials_count, c.args.self.now.potentials.ok.0))

pub lower-requires-clause-amount : goal.lower-requires-clause-amount
lower-requires-clause-amount c =
    let problem = c.args.problem.now in
    let h = c.requires.grown in
    let w = way-of problem _ _ _ _ _ _ c.args.way.index c.args.way.depth c.requires.under_way h c.requires.inside c.requires.is in
    let size = depth-sized _ h.sunk c.args.way.depth (few-joined _ _ _ h.counted problem.few_nodes) h.has_sunk.some w.leads.some w.deep in
    subst (IsSized (10 ^ 18)) (sym (plain c.args.way.depth size)) size

pub lower-requires-clause-positive : goal.lower-requires-clause-positive
lower-requires-clause-positive c =
    let problem = c.args.problem.now in
    let h = c.requires.grown in
    let w = way-of problem _ _ _ _ _ _ c.args.way.index c.args.way.depth c.requires.under_way h c.requires.inside c.requires.is in
    let size = depth-sized _ h.sunk c.args.way.depth (few-joined _ _ _ h.counted problem.few_nodes) h.has_sunk.some w.leads.some w.deep in
    omega (arith, ints, size.above, size.below, w.leads.some)

pub lower-requires-clause-clear : goal.lower-requires-clause-clear
lower-requires-clause-clear c =
    let problem = c.args.problem.now in
    let h = c.requires.grown in
    let old = c.args.self.now.potentials.items in
    let w = way-of problem _ _ _ _ _ _ c.args.way.index c.args.way.depth c.requires.under_way h c.requires.inside c.requires.is in
    let size = depth-sized _ h.sunk c.args.way.depth (few-joined _ _ _ h.counted problem.few_nodes) h.has_sunk.some w.leads.some w.deep in
    rw c.deref-3.ensures.value (rw c.deref.ensures.value (rw c.deref-2.ensures.value (subst (λ (d : ℤ). AllZip (IsClear old c.args.forest.now.flags.items d) problem.arcs.items c.args.self.now.flows.items) (sym (plain c.args.way.depth size)) c.requires.clear)))

linked : (problem : Problem) (flags : List Bool) (places : List ℕ) (j : Joined) (arc : FlowArc) (i : ℕ) → arc ≡ arc_at problem j.index → j.index ≡ i → i < vec_len problem.arcs → j.forwards ≡ is_in flags arc.src → head_of j arc ≡ j.node → j.parent ≡ get_or places (tail_of j arc) 0 → Linked problem flags places j
linked problem flags places j arc i e index inside forwards node parent = record {
  index = omega (arith, index, inside);
  forwards = forwards ∙ ap (λ (a : FlowArc). is_in flags a.src) e;
  node = ap (head_of j) (sym e) ∙ node;
  parent = parent ∙ ap (λ (a : FlowArc). get_or places (tail_of j a) 0) e;
}

-- what `lower` says of the amount as the code has it
sinks-plain : (n : ℕ) (flags flags' : List Bool) (depth : ℤ) (old new : List ℤ) → flags' ≡ flags → IsSized (10 ^ 18) depth → Sinks n flags' (to_z w64 (of_z w64 (to_z w128 (of_z w128 depth)))) old new → Sinks n flags depth old new
sinks-plain n flags flags' depth old new same size h =
    let whole : to_z w64 (of_z w64 (to_z w128 (of_z w128 depth))) ≡ depth = omega (arith, ints, size.above, size.below) in
    subst (λ (f : List Bool). Sinks n f depth old new) same (subst (λ (d : ℤ). Sinks n flags' d old new) whole h)

pub returns-clause-grown : goal.returns-clause-grown
returns-clause-grown c =
    let problem = c.args.problem.now in
    let h = c.requires.grown in
    let flags = c.args.forest.now.flags.items in
    let all = c.args.forest.now.joined.items in
    let places = c.args.forest.now.places.items in
    let flows = c.args.self.now.flows.items in
    let old = c.args.self.now.potentials.items in
    let new = c.lower.new.potentials.items in
    let excess = c.args.self.now.excess.items in
    let depth : ℤ = c.args.way.depth in
    let j : Joined = c.link-joined.result in
    let inside : c.args.way.index < length problem.arcs.items = omega (arith, c.requires.inside, problem.arcs.ok.0) in
    let arc : c.index.result.now ≡ arc_at problem j.index = get_or_read problem.arcs.items _ _ inside c.index.ensures no_arc ∙ ap (arc_at problem) (sym c.link-joined.ensures.index) in
    let w = subst (λ (i : ℕ). Way problem flows old flags i (length all) h.sunk depth) (sym c.link-joined.ensures.index) (way-of problem flows old excess flags all places c.args.way.index depth c.requires.under_way h c.requires.inside c.requires.is) in
    let size = depth-sized (length all) h.sunk depth (few-joined _ _ _ h.counted problem.few_nodes) h.has_sunk.some w.leads.some w.deep in
    let sinks = sinks-plain (vec_len problem.supplies) flags c.deref-3.result.now depth old new c.deref-3.ensures.value size (λ v l. c.lower.ensures.value v (omega (arith, l, c.requires.under_way.potentials_count, c.args.self.now.potentials.ok.0))) in
    let links = links-of problem flows old new excess flags all places j h.sunk depth h w sinks (linked problem flags places j c.index.result.now c.args.way.index arc c.link-joined.ensures.index c.requires.inside c.link-joined.ensures.forwards c.link-joined.ensures.node c.link-joined.ensures.parent) in
    let more = grown-more problem flows old new excess flags all places j depth h w sinks links in
    rw c.in_ok-join.ensures.joined (rw c.in_ok-join.ensures.flags (rw c.in_ok-join.ensures.places (subst (λ (m : ℕ). IsGrown problem flows new excess (set flags j.node true) (all ++ j ∷ []) (set places j.node m)) (sym c.args.forest.now.joined.ok.0) more)))

pub returns-clause-one : goal.returns-clause-one
returns-clause-one c =
    let problem = c.args.problem.now in
    let h = c.requires.grown in
    let flags = c.args.forest.now.flags.items in
    let all = c.args.forest.now.joined.items in
    let places = c.args.forest.now.places.items in
    let flows = c.args.self.now.flows.items in
    let old = c.args.self.now.potentials.items in
    let new = c.lower.new.potentials.items in
    let excess = c.args.self.now.excess.items in
    let depth : ℤ = c.args.way.depth in
    let j : Joined = c.link-joined.result in
    let inside : c.args.way.index < length problem.arcs.items = omega (arith, c.requires.inside, problem.arcs.ok.0) in
    let arc : c.index.result.now ≡ arc_at problem j.index = get_or_read problem.arcs.items _ _ inside c.index.ensures no_arc ∙ ap (arc_at problem) (sym c.link-joined.ensures.index) in
    let w = subst (λ (i : ℕ). Way problem flows old flags i (length all) h.sunk depth) (sym c.link-joined.ensures.index) (way-of problem flows old excess flags all places c.args.way.index depth c.requires.under_way h c.requires.inside c.requires.is) in
    let size = depth-sized (length all) h.sunk depth (few-joined _ _ _ h.counted problem.few_nodes) h.has_sunk.some w.leads.some w.deep in
    let sinks = sinks-plain (vec_len problem.supplies) flags c.deref-3.result.now depth old new c.deref-3.ensures.value size (λ v l. c.lower.ensures.value v (omega (arith, l, c.requires.under_way.potentials_count, c.args.self.now.potentials.ok.0))) in
    let links = links-of problem flows old new excess flags all places j h.sunk depth h w sinks (linked problem flags places j c.index.result.now c.args.way.index arc c.link-joined.ensures.index c.requires.inside c.link-joined.ensures.forwards c.link-joined.ensures.node c.link-joined.ensures.parent) in
    record { j = j; inside = omega (arith, links.inside, h.flags_count); before = links.out; all_is = c.in_ok-join.ensures.joined; flags_is = c.in_ok-join.ensures.flags }

pub lower-requires-clause-arcs : goal.lower-requires-clause-arcs
lower-requires-clause-arcs c =
    let problem = c.args.problem.now in
    let count : vec_len problem.supplies ≡ vec_len c.args.self.now.potentials = omega (arith, c.requires.under_way.potentials_count, c.args.self.now.potentials.ok.0) in
    subst (λ (n : ℕ). All (IsFlowArcOf n) c.deref.result.now) count (subst (All (IsFlowArcOf (vec_len problem.supplies))) (sym c.deref.ensures.value) problem.arcs_fit)

pub lower-requires-clause-flags : goal.lower-requires-clause-flags
lower-requires-clause-flags c =
    omega (arith, ap length c.deref-3.ensures.value, c.requires.grown.flags_count, c.requires.under_way.potentials_count, c.args.self.now.potentials.ok.0)

pub lower-requires-clause-slackness : goal.lower-requires-clause-slackness
lower-requires-clause-slackness c =
    let slack = IsComplementary c.args.self.now.potentials.items in
    subst (λ (arcs : List FlowArc). AllZip slack arcs c.deref-2.result.now) (sym c.deref.ensures.value)
    (subst (AllZip slack c.args.problem.now.arcs.items) (sym c.deref-2.ensures.value) c.requires.under_way.slackness)

-- what is known of the arc by which a node comes in
arc-fits : (problem : Problem) (i n : ℕ) (arc : FlowArc) → i < length problem.arcs.items → vec_len problem.supplies ≡ n → arc ≡ arc_at problem i → IsFlowArcOf n arc
arc-fits problem i n arc inside count is = subst (λ (m : ℕ). IsFlowArcOf m arc) count (subst (IsFlowArcOf (vec_len problem.supplies)) (sym is) (problem.arcs_fit i no_arc inside))

pub link-joined-requires-clause-arc : goal.link-joined-requires-clause-arc
link-joined-requires-clause-arc c =
    let problem = c.args.problem.now in
    let inside : c.args.way.index < length problem.arcs.items = omega (arith, c.requires.inside, problem.arcs.ok.0) in
    arc-fits problem c.args.way.index _ c.index.result.now inside (omega (arith, c.requires.grown.flags_count, c.args.forest.now.flags.ok.0)) (get_or_read problem.arcs.items _ _ inside c.index.ensures no_arc)

pub link-joined-requires-clause-places : goal.link-joined-requires-clause-places
link-joined-requires-clause-places c = omega (arith, c.requires.grown.flags_count, c.requires.grown.places_count, c.args.forest.now.flags.ok.0, c.args.forest.now.places.ok.0)

pub join-requires-clause-node : goal.join-requires-clause-node
join-requires-clause-node c =
    let problem = c.args.problem.now in
    let n = vec_len c.args.forest.now.flags in
    let inside : c.args.way.index < length problem.arcs.items = omega (arith, c.requires.inside, problem.arcs.ok.0) in
    let fits = arc-fits problem c.args.way.index n c.index.result.now inside (omega (arith, c.requires.grown.flags_count, c.args.forest.now.flags.ok.0)) (get_or_read problem.arcs.items _ _ inside c.index.ensures no_arc) in
    subst (λ (v : ℕ). v < n) c.link-joined.ensures.node (one-of c.link-joined.result.forwards c.index.result.now.src c.index.result.now.dst n fits.src fits.dst)

pub join-requires-clause-places : goal.join-requires-clause-places
join-requires-clause-places c = omega (arith, c.requires.grown.flags_count, c.requires.grown.places_count, c.args.forest.now.flags.ok.0, c.args.forest.now.places.ok.0)

pub join-requires-clause-few : goal.join-requires-clause-few
join-requires-clause-few c = omega (arith, c.requires.grown.counted, c.args.problem.now.few_nodes, c.args.forest.now.joined.ok.0)

-- the flow stays complementary where the set sinks
under-way : (problem : Problem) (flows flows' old new excess : List ℤ) (arcs : List FlowArc) (n : ℕ) → arcs ≡ problem.arcs.items → flows' ≡ flows → length new ≡ n → n ≡ vec_len problem.supplies → AllZip (IsComplementary new) arcs flows' → IsUnderWay problem flows old excess → IsUnderWay problem flows new excess
under-way problem flows flows' old new excess arcs n is is' count same slack h = record {
  potentials_count = omega (arith, count, same);
  excess_count = h.excess_count;
  capacity = h.capacity;
  slackness = subst (λ (xs : List FlowArc). AllZip (IsComplementary new) xs flows) is (subst (AllZip (IsComplementary new) arcs) is' slack);
  balance = h.balance;
}

pub returns-in_err-join-clause-under_way : goal.returns-in_err-join-clause-under_way
returns-in_err-join-clause-under_way c =
    let state = c.args.self.now in
    under-way c.args.problem.now state.flows.items c.deref-2.result.now state.potentials.items c.lower.new.potentials.items state.excess.items c.deref.result.now _ c.deref.ensures.value c.deref-2.ensures.value
    (sym c.lower.new.potentials.ok.0) (omega (arith, c.lower.ensures.len, c.requires.under_way.potentials_count, state.potentials.ok.0)) c.lower.ensures.slackness c.requires.under_way

pub returns-clause-under_way : goal.returns-clause-under_way
returns-clause-under_way c =
    let state = c.args.self.now in
    under-way c.args.problem.now state.flows.items c.deref-2.result.now state.potentials.items c.lower.new.potentials.items state.excess.items c.deref.result.now _ c.deref.ensures.value c.deref-2.ensures.value
    (sym c.lower.new.potentials.ok.0) (omega (arith, c.lower.ensures.len, c.requires.under_way.potentials_count, state.potentials.ok.0)) c.lower.ensures.slackness c.requires.under_way

pub index-requires : goal.index-requires
index-requires c = grind (arith, common_steps)

pub overflow_cast-way-2 : goal.overflow_cast-way-2
overflow_cast-way-2 c = grind (arith, common_steps)

pub returns-clause-same_excess : goal.returns-clause-same_excess
returns-clause-same_excess c = grind (arith, common_steps)
