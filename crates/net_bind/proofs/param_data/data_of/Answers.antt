use Rattle.std.proofs.Common.{rules, ◌≡◌, Ok, arith}
use Rattle.std.proofs.lemmas.Grind.{common_steps}
use Rattle.net_expr.specs.Worlds.{key_count}
use Rattle.net_bind.specs.ParameterViews.{parameter_of}
use Rattle.net_bind.specs.Rows.{with_statement}
use Rattle.net_bind.proofs.Turns.{in_turn}
use Rattle.net_bind.proofs.param_data.data_of.Goals as goal

pub loop-named-preserved : goal.loop-named-preserved
loop-named-preserved c =
    let done : with_statement c.args.widths.now (parameter_of c.args.parameter.now) (key_count c.args.parameter.now.keys) c.args.is_assigned c.named-item.result (c.loop-named.values, c.loop-named.default) ≡ Ok (c.taken.new.values, c.either-default.result) = search rules in
    in_turn _ _ _ _ _ _ _ c.loop-named.invariant c.loop-named-test.true c.named-item.is done

pub returns-in_err-taken : goal.returns-in_err-taken
returns-in_err-taken c = grind (arith, common_steps)

pub returns : goal.returns
returns c = grind (arith, common_steps)
