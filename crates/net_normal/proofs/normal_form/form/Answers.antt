use Rattle.std.proofs.Common.{◌≡◌, ◌++◌, ℕ, suc, List, length, sym, ◌∙◌, ap, refl, subst, arith, All, vec_len, to_z, of_z}
use Rattle.std.proofs.lemmas.Grind.{common_steps}
use mir.Syntax.{w128}
use Rattle.std.proofs.lemmas.Int.{ints}
use Rattle.net_normal.specs.Limits.{IsSized, IsFlowArcOf, flow_limit, value_limit, constant_limit}
use Rattle.net_normal.specs.NormalForm.{flow_arcs_of, slack_arcs_from, written_arcs}
use Rattle.net_normal.specs.declared.instance.Instance.{Instance}
use Rattle.net_normal.specs.declared.problem.FlowArc.{FlowArc}
use Rattle.net_normal.specs.declared.profile.Profile.{Profile}
use Rattle.net_normal.specs.NodeSums.{AreSumsOf}
use Rattle.net_normal.specs.Numbers.{CountUp}
use Rattle.net_normal.proofs.Written.{length-numbers}
use Rattle.net_normal.proofs.ArcMapsBack.{length-offsets}
use Rattle.net_normal.proofs.Fits.{arcs_fit, few_arcs, supplies_fit, length-supplies, numbered, offsets_fit}
use Rattle.net_normal.proofs.OneToOne.{form-corresponds}
use Rattle.net_normal.proofs.normal_form.form.Goals as goal

-- the arcs of both passes
all_arcs : (p : Profile) (instance : Instance) (made all : List FlowArc) → made ≡ written_arcs p instance.sense (vec_len instance.nodes) instance.arcs.items → all ≡ made ++ slack_arcs_from instance.arcs.items (vec_len instance.nodes) 0 instance.nodes.items → all ≡ flow_arcs_of p instance
all_arcs p instance made all e h = h ∙ ap (λ (zs : List FlowArc). zs ++ slack_arcs_from instance.arcs.items (vec_len instance.nodes) 0 instance.nodes.items) e

pub invariant_of-result-clause-some_node : goal.invariant_of-result-clause-some_node
invariant_of-result-clause-some_node c =
    let supplies = c.in_ok-supplies.field-0.supplies in
    omega (arith, supplies.ok.0, ap length (c.in_ok-supplies.ensures.supplies c.args.profile (subst (AreSumsOf c.args.profile c.args.instance.now.arcs.items) (sym c.deref.ensures.value) c.in_ok-arcs.ensures.sums)), length-supplies c.args.profile c.args.instance.now)

pub invariant_of-result-clause-few_nodes : goal.invariant_of-result-clause-few_nodes
invariant_of-result-clause-few_nodes c =
    let supplies = c.in_ok-supplies.field-0.supplies in
    omega (arith, supplies.ok.0, ap length (c.in_ok-supplies.ensures.supplies c.args.profile (subst (AreSumsOf c.args.profile c.args.instance.now.arcs.items) (sym c.deref.ensures.value) c.in_ok-arcs.ensures.sums)), length-supplies c.args.profile c.args.instance.now, c.args.instance.now.few_nodes)

pub invariant_of-result-clause-few_arcs : goal.invariant_of-result-clause-few_arcs
invariant_of-result-clause-few_arcs c =
    let arcs = c.in_ok-supplies.field-0.arcs in
    let same : arcs.items ≡ flow_arcs_of c.args.profile c.args.instance.now = all_arcs c.args.profile c.args.instance.now c.in_ok-arcs.field-0.arcs.items arcs.items c.in_ok-arcs.ensures.arcs c.in_ok-supplies.ensures.arcs in
    omega (arith, arcs.ok.0, ap length same, few_arcs c.args.profile c.args.instance.now)

pub invariant_of-result-clause-supplies_fit : goal.invariant_of-result-clause-supplies_fit
invariant_of-result-clause-supplies_fit c = subst (All (IsSized flow_limit)) (sym (c.in_ok-supplies.ensures.supplies c.args.profile (subst (AreSumsOf c.args.profile c.args.instance.now.arcs.items) (sym c.deref.ensures.value) c.in_ok-arcs.ensures.sums))) (supplies_fit c.args.profile c.args.instance.now)

pub invariant_of-result-clause-arcs_fit : goal.invariant_of-result-clause-arcs_fit
invariant_of-result-clause-arcs_fit c =
    let instance = c.args.instance.now in
    let supplies = c.in_ok-supplies.field-0.supplies in
    let same : c.in_ok-supplies.field-0.arcs.items ≡ flow_arcs_of c.args.profile instance = all_arcs c.args.profile instance c.in_ok-arcs.field-0.arcs.items c.in_ok-supplies.field-0.arcs.items c.in_ok-arcs.ensures.arcs c.in_ok-supplies.ensures.arcs in
    let count : suc (vec_len instance.nodes) ≡ vec_len supplies = omega (arith, supplies.ok.0, ap length (c.in_ok-supplies.ensures.supplies c.args.profile (subst (AreSumsOf c.args.profile c.args.instance.now.arcs.items) (sym c.deref.ensures.value) c.in_ok-arcs.ensures.sums)), length-supplies c.args.profile instance) in
    subst (λ (all : List FlowArc). All (IsFlowArcOf (vec_len supplies)) all) (sym same)
    (subst (λ (n : ℕ). All (IsFlowArcOf n) (flow_arcs_of c.args.profile instance)) count (arcs_fit c.args.profile instance))

pub invariant_of-link-clause-paired : goal.invariant_of-link-clause-paired
invariant_of-link-clause-paired c =
    let numbers = c.in_ok-arcs.field-0.numbers in
    let offsets = c.in_ok-arcs.field-0.offsets in
    let arcs = c.args.instance.now.arcs.items in
    omega (arith, numbers.ok.0, offsets.ok.0, ap length c.in_ok-arcs.ensures.numbers, ap length c.in_ok-arcs.ensures.offsets, length-numbers c.args.profile 1 arcs, length-offsets c.args.profile arcs)

pub invariant_of-link-clause-numbered : goal.invariant_of-link-clause-numbered
invariant_of-link-clause-numbered c = subst CountUp (sym c.in_ok-arcs.ensures.numbers) (numbered c.args.profile c.args.instance.now.arcs.items)

pub invariant_of-link-clause-offsets_fit : goal.invariant_of-link-clause-offsets_fit
invariant_of-link-clause-offsets_fit c = subst (All (IsSized value_limit)) (sym c.in_ok-arcs.ensures.offsets) (offsets_fit c.args.profile c.args.instance.now)

pub invariant_of-link-clause-constant_fits : goal.invariant_of-link-clause-constant_fits
invariant_of-link-clause-constant_fits c =
    let small = c.in_ok-arcs.ensures.size in
    let plain : to_z w128 (of_z w128 c.in_ok-arcs.field-0.constant) ≡ c.in_ok-arcs.field-0.constant = omega (arith, ints, small.above, small.below) in
    subst (IsSized constant_limit) (sym plain) small

pub returns-clause-corresponds : goal.returns-clause-corresponds
returns-clause-corresponds c =
    let instance = c.args.instance.now in
    let constant = c.in_ok-arcs.field-0.constant in
    let small = c.in_ok-arcs.ensures.size in
    let plain : to_z w128 (of_z w128 constant) ≡ constant = omega (arith, ints, small.above, small.below) in
    form-corresponds c.args.profile instance _ _ (record {
      supplies = c.in_ok-supplies.ensures.supplies c.args.profile (subst (AreSumsOf c.args.profile c.args.instance.now.arcs.items) (sym c.deref.ensures.value) c.in_ok-arcs.ensures.sums);
      arcs = all_arcs c.args.profile instance c.in_ok-arcs.field-0.arcs.items c.in_ok-supplies.field-0.arcs.items c.in_ok-arcs.ensures.arcs c.in_ok-supplies.ensures.arcs;
      numbers = c.in_ok-arcs.ensures.numbers;
      offsets = c.in_ok-arcs.ensures.offsets;
      constant = plain ∙ c.in_ok-arcs.ensures.constant;
      sense = refl;
    })

pub of-requires-2-clause-len : goal.of-requires-2-clause-len
of-requires-2-clause-len c = grind (arith, common_steps)

pub of-requires-2-clause-sums : goal.of-requires-2-clause-sums
of-requires-2-clause-sums c = (c.args.profile, subst (AreSumsOf c.args.profile c.args.instance.now.arcs.items) (sym c.deref.ensures.value) c.in_ok-arcs.ensures.sums)

pub returns-clause-value : goal.returns-clause-value
returns-clause-value c =
    let instance = c.args.instance.now in
    let constant = c.in_ok-arcs.field-0.constant in
    let small = c.in_ok-arcs.ensures.size in
    let plain : to_z w128 (of_z w128 constant) ≡ constant = omega (arith, ints, small.above, small.below) in
    record {
      supplies = c.in_ok-supplies.ensures.supplies c.args.profile (subst (AreSumsOf c.args.profile c.args.instance.now.arcs.items) (sym c.deref.ensures.value) c.in_ok-arcs.ensures.sums);
      arcs = all_arcs c.args.profile instance c.in_ok-arcs.field-0.arcs.items c.in_ok-supplies.field-0.arcs.items c.in_ok-arcs.ensures.arcs c.in_ok-supplies.ensures.arcs;
      numbers = c.in_ok-arcs.ensures.numbers;
      offsets = c.in_ok-arcs.ensures.offsets;
      constant = plain ∙ c.in_ok-arcs.ensures.constant;
      sense = refl;
    }
