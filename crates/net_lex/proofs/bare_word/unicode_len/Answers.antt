use Rattle.std.proofs.Common.{◌≡◌, ◌+◌, ◌++◌, ◌∙◌, drop, length, IsUtf8, sym, ap, subst, true, false, arith}
use Rattle.std.proofs.lemmas.Grind.{common_steps}
use Rattle.std.proofs.lemmas.List.{nil_from_length}
use Rattle.std.proofs.lemmas.Str.{IsUtf8-drop, IsCharBoundary-start, IsCharBoundary-past_char, drop_past_char}
use Rattle.std.specs.Char.{encode_utf8}
use Rattle.std.specs.Str.Iter.{chars_rest}
use Rattle.net_lex.specs.Characters.{is_word_char}
use Rattle.net_lex.specs.Shapes.{word_len}
use Rattle.net_lex.proofs.WordLemmas.{word_len-nil, word_len-char}
use Rattle.net_lex.proofs.bare_word.unicode_len.Goals as goal

pub loop-c-init : goal.loop-c-init
loop-c-init c =
    let begins : chars_rest c.into_iter-c-iterator.result ≡ c.args.text.now = ap chars_rest c.into_iter-c-iterator.ensures.into_iter_gives ∙ c.chars-c-items.ensures.rest in
    record { value = ap (λ t. 0 + word_len t) begins ∙ omega arith; at = sym begins; cut = IsCharBoundary-start c.args.text.now c.utf8.text }

pub returns-then-not-is_word_char-clause-value : goal.returns-then-not-is_word_char-clause-value
returns-then-not-is_word_char-clause-value c =
    let text = c.args.text.now in
    let here : IsUtf8 (chars_rest c.loop-c.c-iterator) = subst IsUtf8 c.loop-c.invariant.at (IsUtf8-drop text c.loop-c.len c.utf8.text c.loop-c.invariant.cut) in
    let step = word_len-char _ (chars_rest c.next.new.self) c.in-Some.c here c.in-Some.ensures.steps.0 in
    let fails : is_word_char c.in-Some.c ≡ false = sym c.is_word_char.ensures ∙ c.if-not-is_word_char.true in
    let none : word_len (chars_rest c.loop-c.c-iterator) ≡ 0 = rw fails at step in
    omega (arith, none, c.loop-c.invariant.value)

pub loop-c-preserved : goal.loop-c-preserved
loop-c-preserved c =
    let text = c.args.text.now in
    let len = c.loop-c.len in
    let rest = chars_rest c.next.new.self in
    let utf8 = IsUtf8-drop text len c.utf8.text c.loop-c.invariant.cut in
    let here : IsUtf8 (chars_rest c.loop-c.c-iterator) = subst IsUtf8 c.loop-c.invariant.at utf8 in
    let step = word_len-char _ rest c.in-Some.c here c.in-Some.ensures.steps.0 in
    let passes : is_word_char c.in-Some.c ≡ true = sym c.is_word_char.ensures ∙ c.if-not-is_word_char.false in
    let more : word_len (chars_rest c.loop-c.c-iterator) ≡ length (encode_utf8 c.in-Some.c) + word_len rest = rw passes at step in
    let split : drop len text ≡ encode_utf8 c.in-Some.c ++ rest = c.loop-c.invariant.at ∙ c.in-Some.ensures.steps.0 in
    record {
      value = omega (arith, more, c.loop-c.invariant.value, c.len_utf8-len.ensures.len);
      at = rw c.len_utf8-len.ensures.value (drop_past_char text rest len c.in-Some.c split);
      cut = rw c.len_utf8-len.ensures.value (IsCharBoundary-past_char text rest len c.in-Some.c c.loop-c.invariant.cut.0 utf8 split);
    }

pub returns-clause-value : goal.returns-clause-value
returns-clause-value c =
    let empty = nil_from_length (chars_rest c.loop-c.c-iterator) c.in-None.ensures.steps.0.0 in
    let none : word_len (chars_rest c.loop-c.c-iterator) ≡ 0 = ap word_len empty ∙ word_len-nil in
    omega (arith, none, c.loop-c.invariant.value)

pub overflow_add-len : goal.overflow_add-len
overflow_add-len c = grind (arith, common_steps)

pub returns-then-not-is_word_char-clause-cut : goal.returns-then-not-is_word_char-clause-cut
returns-then-not-is_word_char-clause-cut c = grind (arith, common_steps)

pub returns-clause-cut : goal.returns-clause-cut
returns-clause-cut c = grind (arith, common_steps)
