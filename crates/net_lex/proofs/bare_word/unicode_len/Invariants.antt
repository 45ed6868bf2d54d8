use Rattle.std.proofs.Common.{◌≡◌, ◌+◌, drop}
use Rattle.std.specs.Str.{IsCharBoundary}
use Rattle.std.specs.Str.Iter.{chars_rest}
use Rattle.net_lex.specs.Shapes.{word_len}
use Rattle.net_lex.proofs.bare_word.unicode_len.Given as goal

abbrev pub invariant-loop-c : goal.invariant-loop-c
invariant-loop-c l = record {
  value : l.len + word_len (chars_rest l.c-iterator) ≡ word_len l.text;
  at : drop l.len l.text ≡ chars_rest l.c-iterator;
  cut : IsCharBoundary l.text l.len;
}
