use Rattle.std.proofs.Common.{◌≡◌, ◌≤◌, drop, length, get_or}
use Rattle.std.specs.Str.{IsCharBoundary}
use Rattle.net_lex.specs.declared.gap.Place.TheVariants.{Between, Closing}
use Rattle.net_lex.specs.GapFront.{after_gap}
use Rattle.net_lex.proofs.gap.commented_len.Given as goal

abbrev pub invariant-loop-at : goal.invariant-loop-at
invariant-loop-at l = record {
  value : after_gap l.place (drop l.opened l.text) (drop l.at l.text) ≡ after_gap Between l.text l.text;
  cut : l.place ≡ Between → IsCharBoundary l.text l.at;
  closing : l.place ≡ Closing → get_or l.text l.at 0 ≡ 47;
  opened : l.opened ≤ length l.text;
}
