use Rattle.std.proofs.Common.{rules, length, ap, sym, subst, ◌∙◌}
use Rattle.net_normal.specs.Limits.{IsSized, total_cost_limit}
use Rattle.net_check.proofs.Sums.{plain_128}
use Rattle.net_driver.specs.CompiledNetwork.{written}
use Rattle.net_driver.proofs.Solving.{carried, cost_sized, mapped_back_length}
use Rattle.net_driver.proofs.answer.displayed.Goals as goal

pub map_back-requires : goal.map_back-requires
map_back-requires c = carried (written c.args.network.now) c.args.flows.now c.requires.sizes c.requires.feasible

pub value-value-requires : goal.value-value-requires
value-value-requires c =
    let sized = cost_sized c.args.network.now.problem c.args.flows.now c.args.cost c.requires.feasible c.requires.cost in
    subst (IsSized total_cost_limit) (sym (plain_128 c.args.cost sized)) sized

pub write_display-requires : goal.write_display-requires
write_display-requires c =
    ap length c.deref.ensures.value ∙ ap length c.in_ok-assignment.ensures.value ∙ mapped_back_length c.args.network.now.link c.args.flows.now ∙ c.requires.sizes.arcs

pub returns : goal.returns
returns c = record {
  maps_back = c.in_ok-assignment.ensures.value;
  is_value = search (rules, c.value-value.ensures);
  display = search (rules, c.in_ok-text.ensures.value, c.deref.ensures.value);
}
