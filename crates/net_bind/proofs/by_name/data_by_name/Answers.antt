use Rattle.std.proofs.Common.{rules, ◌≡◌, Ok, arith}
use Rattle.std.proofs.lemmas.Grind.{common_steps}
use Rattle.net_bind.specs.DataByName.{in_statement}
use Rattle.net_bind.proofs.Turns.{in_turn}
use Rattle.net_bind.proofs.by_name.data_by_name.Goals as goal

pub loop-statement-preserved : goal.loop-statement-preserved
loop-statement-preserved c =
    let done : in_statement c.args.names.now c.statement-item.result c.loop-statement.all.items ≡ Ok c.in_statement.new.all.items = search rules in
    in_turn _ _ _ _ _ _ _ c.loop-statement.invariant c.loop-statement-test.true c.statement-item.is done

pub loop-statement-init : goal.loop-statement-init
loop-statement-init c = grind (arith, common_steps)

pub returns-in_err-in_statement : goal.returns-in_err-in_statement
returns-in_err-in_statement c = grind (arith, common_steps)

pub returns : goal.returns
returns c = grind (arith, common_steps)
