use Rattle.std.proofs.Common.{◌<◌, ◌∙◌, ap, sym, get_or, arith}
use Rattle.std.proofs.lemmas.Grind.{common_steps}
use Rattle.std.specs.List.{prefix_len}
use Rattle.net_lex.proofs.WordLemmas.{in_ascii, word_len-ascii}
use Rattle.net_lex.proofs.bare_word.word_len.Goals as goal

pub returns-then-is_ascii-clause-value : goal.returns-then-is_ascii-clause-value
returns-then-is_ascii-clause-value c =
    let text = c.args.text.now in
    let run = c.ascii_len-ascii.ensures.value ∙ ap (prefix_len in_ascii) c.as_bytes-bytes.ensures.value in
    let stop : get_or text (prefix_len in_ascii text) 0 < 128 = grind (arith, common_steps) in
    run ∙ sym (word_len-ascii text c.utf8.text stop)

pub returns-then-is_ascii-clause-cut : goal.returns-then-is_ascii-clause-cut
returns-then-is_ascii-clause-cut c = grind (arith, common_steps)

pub returns-else-is_ascii-clause-cut : goal.returns-else-is_ascii-clause-cut
returns-else-is_ascii-clause-cut c = grind (arith, common_steps)
