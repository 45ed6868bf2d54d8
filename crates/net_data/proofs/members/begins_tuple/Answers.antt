use Rattle.std.proofs.Common.{◌∙◌, ap, sym}
use Rattle.net_data.specs.Rows.{begins_tuple}
use Rattle.net_data.proofs.ItemLemmas.{first_none, begins_some}
use Rattle.net_data.proofs.members.begins_tuple.Goals as goal

pub returns-in-None : goal.returns-in-None
returns-in-None c = ap begins_tuple (sym (first_none c.args.tokens.now (sym c.in-None.ensures.value)))

pub returns-in-Some : goal.returns-in-Some
returns-in-Some c = c.is_mark.ensures ∙ sym (begins_some c.args.tokens.now c.in-Some.field-0-1 c.in-Some.token (sym c.in-Some.ensures.value))
