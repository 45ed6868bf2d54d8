use Rattle.std.proofs.Common.{arith}
use Rattle.std.proofs.lemmas.Grind.{common_steps}
use Rattle.net_data.proofs.Turns.{leads_on, statement_fails, count_less, ends_with}
use Rattle.net_data.proofs.data_parser.statements.Goals as goal

pub returns-in-Err : goal.returns-in-Err
returns-in-Err c =
    statement_fails c.args.end c.args.tokens.now c.statements.statements.items c.statements.unread.tokens c.in-Err.stop c.statement_fault.result c.statements.invariant.value c.statements.invariant.count c.in-Err.ensures.value c.statement_fault.ensures

pub returns-in-Ok-None : goal.returns-in-Ok-None
returns-in-Ok-None c =
    let reported = rw c.in-Ok-None.field-0-is at c.in-Ok-None.ensures in
    ends_with c.args.tokens.now c.statements.statements.items c.statements.unread.tokens c.new.result c.statement.new.self.tokens c.statements.invariant.value c.statements.invariant.count reported.value c.new.ensures reported.left

pub statements-preserved : goal.statements-preserved
statements-preserved c =
    let reported = rw c.in-Ok-Some.field-0-is at c.in-Ok-Some.ensures in
    record {
      value = leads_on c.args.tokens.now c.statements.statements.items c.push.new.statements.items c.statements.unread.tokens c.statement.new.self.tokens c.in-Ok-Some.found c.statements.invariant.value reported.value c.in_ok-push-in-Ok-Some.ensures.items;
      count = count_less c.args.tokens.now c.statements.unread.tokens c.statement.new.self.tokens c.statements.statements.items c.push.new.statements.items c.in-Ok-Some.found c.statements.invariant.count reported.shorter c.in_ok-push-in-Ok-Some.ensures.items;
    }

pub statements-smaller : goal.statements-smaller
statements-smaller c = grind (arith, common_steps)
