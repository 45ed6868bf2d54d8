use Rattle.std.proofs.Common.{ap, ◌∙◌}
use Rattle.std.proofs.lemmas.Int.{to_z-of_z}
use mir.Syntax.{w128}
use Rattle.net_linear.proofs.Coefficients.{or_none, coefficient_is, unwrapped}
use Rattle.net_linear.proofs.coefficient_list.coefficient_in.Goals as goal

pub returns : goal.returns
returns c = to_z-of_z w128 c.unwrap_or.result (record { sfits = c.unwrap_or.type_inv }) ∙ (c.unwrap_or.ensures ∙ unwrapped c.copied.result ∙ ap or_none (c.copied.ensures ∙ c.get.ensures.value) ∙ coefficient_is c.args.others.now.entries c.args.arc)
