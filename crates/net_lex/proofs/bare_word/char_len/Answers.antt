use Rattle.std.proofs.Common.{◌≡◌, ◌++◌, ◌∙◌, sym, ap, length}
use Rattle.std.proofs.lemmas.List.{nil_from_length}
use Rattle.std.specs.Char.{encode_utf8}
use Rattle.net_lex.specs.Shapes.{char_len}
use Rattle.net_lex.proofs.WordLemmas.{char_len-nil, char_len-char}
use Rattle.net_lex.proofs.bare_word.char_len.Goals as goal

pub returns-in-Some : goal.returns-in-Some
returns-in-Some c =
    let read : c.args.text.now ≡ encode_utf8 c.in-Some.c ++ c.next.new.self.rest.now = sym c.chars.ensures.rest ∙ c.in-Some.ensures.steps.0 in
    c.len_utf8.ensures.len ∙ sym (char_len-char c.args.text.now c.next.new.self.rest.now c.in-Some.c c.utf8.text read)

pub returns-in-None : goal.returns-in-None
returns-in-None c =
    let empty = nil_from_length c.args.text.now (ap length (sym c.chars.ensures.rest) ∙ c.in-None.ensures.steps.0.0) in
    sym (ap char_len empty ∙ char_len-nil)
