use Rattle.std.proofs.Common.{◌∙◌, ◌==◌, ◌||◌, sym, ap}
use Rattle.std.specs.Char.{is_ascii_digit}
use Rattle.net_lex.specs.Bytes.{point}
use Rattle.net_lex.proofs.NumeralLemmas.{unread_at}
use Rattle.net_lex.proofs.numeral.numeral_at.Goals as goal

pub returns-else-starts_numeral : goal.returns-else-starts_numeral
returns-else-starts_numeral c =
    sym (unread_at c.args.bytes.now (sym (c.starts_numeral.ensures ∙ ap (λ byte. is_ascii_digit byte || byte == point) c.first.ensures) ∙ c.if-starts_numeral.false))
