use Rattle.std.proofs.Common.{◌≡◌, ◌≤◌, ◌∙◌, length, get_or, sym, ap, subst, arith}
use Rattle.std.specs.List.{prefix_len}
use Rattle.std.specs.Str.{IsCharBoundary}
use Rattle.net_lex.specs.Characters.{is_blank}
use Rattle.net_lex.proofs.GapPasses.{blanks_pass, blanks_cut}
use Rattle.net_lex.proofs.gap.gap_len.Goals as goal

pub returns-else-next-eq47-clause-value : goal.returns-else-next-eq47-clause-value
returns-else-next-eq47-clause-value c =
    let text = c.args.text.now in
    let len : c.blank_len-blanks.result ≡ prefix_len is_blank text = c.blank_len-blanks.ensures.value ∙ ap (prefix_len is_blank) c.as_bytes-bytes.ensures.value in
    let next : c.byte_at-next.result ≡ get_or text (prefix_len is_blank text) 0 = c.byte_at-next.ensures ∙ ap (λ bytes. get_or bytes c.blank_len-blanks.result 0) c.as_bytes-bytes.ensures.value ∙ ap (λ n. get_or text n 0) len in
    rw len (blanks_pass text text (λ e. grind (arith, next, e)) (λ e. grind (arith, next, e)))

pub returns-else-next-eq47-clause-cut : goal.returns-else-next-eq47-clause-cut
returns-else-next-eq47-clause-cut c =
    let text = c.args.text.now in
    let len : c.blank_len-blanks.result ≡ prefix_len is_blank text = c.blank_len-blanks.ensures.value ∙ ap (prefix_len is_blank) c.as_bytes-bytes.ensures.value in
    let within : prefix_len is_blank text ≤ length text = omega (arith, len, c.blank_len-blanks.ensures.within, c.as_bytes-bytes.ensures.len) in
    subst (IsCharBoundary text) (sym len) (blanks_cut text c.utf8.text within)
