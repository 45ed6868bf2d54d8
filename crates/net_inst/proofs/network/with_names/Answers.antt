use Rattle.std.proofs.Common.{◌≡◌, length, rules, to_z, of_z, w64, arith}
use Rattle.std.proofs.lemmas.Grind.{common_steps}
use Rattle.std.specs.Vec.{vec_len}
use Rattle.net_linear.proofs.FormSizes.{sized_as}
use Rattle.net_inst.proofs.Fitting.{priced_fit}
use Rattle.net_inst.proofs.network.with_names.Goals as goal

pub invariant_of-result-clause-arcs_fit : goal.invariant_of-result-clause-arcs_fit
invariant_of-result-clause-arcs_fit c =
    let same : vec_len c.take_ranges-ranges.result ≡ length c.args.nodes.now.ranges = search rules in
    priced_fit (length c.args.nodes.now.ranges) (vec_len c.take_ranges-ranges.result) c.args.arcs.now.form.products c.args.arcs.now.arcs c.in_ok-priced.priced.items c.in_ok-priced.ensures.value c.in_ok-priced.ensures.size c.requires same

pub invariant_of-result-clause-constant_fits : goal.invariant_of-result-clause-constant_fits
invariant_of-result-clause-constant_fits c =
    let plain : to_z w64 (of_z w64 c.constant.result) ≡ c.constant.result = search rules in
    sized_as (to_z w64 (of_z w64 c.constant.result)) c.constant.result plain c.constant.ensures.size

pub invariant_of-result-clause-few_nodes : goal.invariant_of-result-clause-few_nodes
invariant_of-result-clause-few_nodes c = grind (arith, common_steps)

pub returns : goal.returns
returns c = grind (arith, common_steps)
