use Rattle.std.proofs.Common.{◌∙◌, ap, sym, take, Some}
use Rattle.net_data.specs.Commas.{uncommaed}
use Rattle.net_data.specs.Rows.{first_item}
use Rattle.net_data.proofs.Fronts.{first_of, front_first}
use Rattle.net_data.proofs.ItemLemmas.{first_none, first_tuple, first_alone}
use Rattle.net_data.proofs.members.first_item.Goals as goal

pub returns-in-None : goal.returns-in-None
returns-in-None c =
    let tokens = c.args.tokens.now in
    ap first_item (sym (first_none tokens (front_first tokens ∙ ap first_of (sym c.after_commas-items.ensures ∙ c.in-None.ensures))))

pub returns-then-is_mark : goal.returns-then-is_mark
returns-then-is_mark c =
    let tokens = c.args.tokens.now in
    let next = front_first tokens ∙ ap first_of (sym c.after_commas-items.ensures ∙ c.in-Some.ensures) in
    let reported = first_tuple tokens c.in-Some.rest c.in-Some.token next (sym c.is_mark.ensures ∙ c.if-is_mark.true) in
    cc (reported, c.new.ensures, c.split_at-inside.ensures.front, c.inside_len.ensures.value)

pub returns-else-is_mark : goal.returns-else-is_mark
returns-else-is_mark c =
    let tokens = c.args.tokens.now in
    let next = front_first tokens ∙ ap first_of (sym c.after_commas-items.ensures ∙ c.in-Some.ensures) in
    let reported = first_alone tokens c.in-Some.rest c.in-Some.token next (sym c.is_mark.ensures ∙ c.if-is_mark.false) in
    ap Some (c.new-in-Some.ensures ∙ ap uncommaed (c.split_at-alone.ensures.front ∙ ap (take 1) c.in-Some.ensures)) ∙ sym reported
