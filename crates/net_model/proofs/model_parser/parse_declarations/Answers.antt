use Rattle.std.proofs.Common.{arith}
use Rattle.std.proofs.lemmas.Grind.{common_steps}
use Rattle.net_model.proofs.Promise.{means_of, rejected_reported}
use Rattle.net_model.proofs.model_parser.parse_declarations.Goals as goal

pub returns-in-Ok-clause-means : goal.returns-in-Ok-clause-means
returns-in-Ok-clause-means c = means_of c.args.tokens.now c.declarations.new.tokens _ (rw (c.deepest.ensures, c.new-cursor.ensures) at c.in-Ok.ensures.value) c.in-Ok.ensures.whole

pub returns-in-Err-clause-rejected : goal.returns-in-Err-clause-rejected
returns-in-Err-clause-rejected c = rejected_reported c.args.tokens.now c.in-Err.stop c.reported.result (rw (c.deepest.ensures, c.new-cursor.ensures) at c.in-Err.ensures.value) c.reported.ensures

pub returns-in-Err-clause-value : goal.returns-in-Err-clause-value
returns-in-Err-clause-value c = grind (arith, common_steps)

pub returns-in-Ok-clause-value : goal.returns-in-Ok-clause-value
returns-in-Ok-clause-value c = grind (arith, common_steps)
