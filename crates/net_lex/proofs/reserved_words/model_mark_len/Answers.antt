use Rattle.std.proofs.Common.{sym, ◌∙◌}
use Rattle.net_lex.proofs.MarkLengths.{pair_reported, mark_reported, pair_len, mark_len, none_len}
use Rattle.net_lex.proofs.reserved_words.model_mark_len.Goals as goal

pub returns-then-is_model_pair : goal.returns-then-is_model_pair
returns-then-is_model_pair c =
    let text = c.args.text.now in
    pair_len text (sym (pair_reported text _ _ _ c.first-front.ensures c.second.ensures c.is_model_pair.ensures) ∙ c.if-is_model_pair.true)

pub returns-then-is_model_mark : goal.returns-then-is_model_mark
returns-then-is_model_mark c =
    let text = c.args.text.now in
    mark_len text (sym (pair_reported text _ _ _ c.first-front.ensures c.second.ensures c.is_model_pair.ensures) ∙ c.if-is_model_pair.false)
    (sym (mark_reported text _ _ c.first-front.ensures c.is_model_mark.ensures) ∙ c.if-is_model_mark.true)

pub returns-else-is_model_mark : goal.returns-else-is_model_mark
returns-else-is_model_mark c =
    let text = c.args.text.now in
    none_len text (sym (pair_reported text _ _ _ c.first-front.ensures c.second.ensures c.is_model_pair.ensures) ∙ c.if-is_model_pair.false)
    (sym (mark_reported text _ _ c.first-front.ensures c.is_model_mark.ensures) ∙ c.if-is_model_mark.false)
