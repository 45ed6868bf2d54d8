use Rattle.std.proofs.Common.{◌∙◌, ap, sym, drop, arith}
use Rattle.std.proofs.lemmas.Grind.{common_steps}
use Rattle.std.proofs.Math.Seq.{drop-length}
use Rattle.net_data.specs.Commas.{in_set, bare}
use Rattle.net_data.specs.Rows.{more_items}
use Rattle.net_data.proofs.ItemLemmas.{first_none, more_tuple, more_alone, more_over}
use Rattle.net_data.proofs.members.more_items.Goals as goal

pub returns-in-None : goal.returns-in-None
returns-in-None c = let none = first_none c.args.tokens.now (sym c.in-None.ensures.value) in c.new.ensures ∙ ap (bare in_set) c.copied.ensures ∙ none ∙ sym (ap more_items none)

pub returns-then-is_mark : goal.returns-then-is_mark
returns-then-is_mark c =
    let reported = more_tuple c.args.tokens.now c.in-Some.rest c.in-Some.token (sym c.in-Some.ensures.value) (sym c.is_mark.ensures ∙ c.if-is_mark.true) in
    cc (reported, c.new-then-is_mark.ensures, c.after_first.ensures, c.split_at-closed.ensures.back, c.inside_len.ensures.value)

pub returns-then-is_mark-2 : goal.returns-then-is_mark-2
returns-then-is_mark-2 c =
    let reported = more_over c.args.tokens.now c.in-Some.rest c.in-Some.token (sym c.in-Some.ensures.value) (sym c.is_mark.ensures ∙ c.if-is_mark.false) (sym c.is_mark-in-Some.ensures ∙ c.if-is_mark-2.true) in
    let none = c.split_at-none.ensures.back ∙ ap (λ n. drop n c.in-Some.rest) c.len.ensures ∙ drop-length c.in-Some.rest in
    c.new-then-is_mark-2.ensures ∙ ap (bare in_set) none ∙ sym reported

pub returns-else-is_mark-2 : goal.returns-else-is_mark-2
returns-else-is_mark-2 c =
    let reported = more_alone c.args.tokens.now c.in-Some.rest c.in-Some.token (sym c.in-Some.ensures.value) (sym c.is_mark.ensures ∙ c.if-is_mark.false) (sym c.is_mark-in-Some.ensures ∙ c.if-is_mark-2.false) in
    cc (reported, c.new-in-Some.ensures)

pub split_at-closed-requires : goal.split_at-closed-requires
split_at-closed-requires c = grind (arith, common_steps)
