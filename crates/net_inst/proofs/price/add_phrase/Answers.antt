use Rattle.std.proofs.Common.{sym, ap, ◌∙◌, arith}
use Rattle.std.proofs.lemmas.Grind.{common_steps}
use Rattle.net_tree.specs.View.{tree, body_of}
use Rattle.net_inst.proofs.Priced.{price_taken}
use Rattle.net_inst.proofs.price.add_phrase.Goals as goal

pub returns-in-Plain : goal.returns-in-Plain
returns-in-Plain c = grind (arith, common_steps)

pub returns-else-is_goal : goal.returns-else-is_goal
returns-else-is_goal c = grind (arith, common_steps)

pub returns-in-Valued : goal.returns-in-Valued
returns-in-Valued c = grind (arith, common_steps)

pub returns-then-is_goal : goal.returns-then-is_goal
returns-then-is_goal c =
    price_taken c.args.visible.now.goal.now c.args.visible.now.env.now c.args.scope.now c.args.arc (body_of c.args.body.now) c.in-Priced.name (tree c.in-Priced.expr) _ _ _
    (ap body_of c.in-Priced.is) (sym c.is_goal.ensures ∙ c.if-is_goal.true) c.add_value.ensures
