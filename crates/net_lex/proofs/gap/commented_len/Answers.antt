use Rattle.std.proofs.Common.{◌≡◌, ◌+◌, ◌<◌, length, get_or, drop, Some, refl, ap, ◌∙◌, arith}
use Rattle.std.proofs.lemmas.Grind.{common_steps}
use Rattle.std.proofs.lemmas.Str.{IsCharBoundary-start, IsCharBoundary-after_ascii}
use Rattle.net_lex.specs.GapFront.{place_after}
use Rattle.net_lex.proofs.GapLemmas.{after_gap-drop, after_gap-nil, place_ascii, to_closing}
use Rattle.net_lex.proofs.gap.commented_len.Goals as goal

pub loop-at-init : goal.loop-at-init
loop-at-init c = record { value = refl; cut = λ e. IsCharBoundary-start c.args.text.now c.utf8.text; closing = λ e. cc; opened = omega arith }

pub returns-in-None-clause-value : goal.returns-in-None-clause-value
returns-in-None-clause-value c =
    let text = c.args.text.now in
    let within : c.loop-at.at < length text = omega (arith, c.as_bytes-bytes.ensures.len) in
    let step = after_gap-drop c.loop-at.place (drop c.loop-at.opened text) text c.loop-at.at within in
    grind (arith, common_steps)

pub loop-at-preserved : goal.loop-at-preserved
loop-at-preserved c =
    let text = c.args.text.now in
    let at = c.loop-at.at in
    let within : at < length text = omega (arith, c.as_bytes-bytes.ensures.len) in
    let step = after_gap-drop c.loop-at.place (drop c.loop-at.opened text) text at within in
    let opened = c.opened_at-opened.ensures.value text in
    let turn : place_after c.loop-at.place (get_or text at 0) (get_or text (at + 1) 0) ≡ Some c.in-Some.next = grind (arith, common_steps) in
    record {
      value = grind (arith, common_steps);
      cut = λ e. IsCharBoundary-after_ascii text at c.utf8.text within
          (place_ascii c.loop-at.place (get_or text at 0) (get_or text (at + 1) 0) (turn ∙ ap Some e) c.loop-at.invariant.closing);
      closing = λ e. to_closing c.loop-at.place (get_or text at 0) (get_or text (at + 1) 0) (turn ∙ ap Some e);
      opened = c.opened_at-opened.ensures.within (length text) (omega arith) c.loop-at.invariant.opened;
    }

pub returns-in-Between-clause-value : goal.returns-in-Between-clause-value
returns-in-Between-clause-value c = let ended = after_gap-nil c.loop-at.place (drop c.loop-at.opened c.args.text.now) in grind (arith, common_steps)

pub returns-in-Opening : goal.returns-in-Opening
returns-in-Opening c =
    let ended = after_gap-nil c.loop-at.place (drop c.loop-at.opened c.args.text.now) in
    record { value = grind (arith, common_steps); cut = c.loop-at.invariant.opened }

pub returns-in-None-clause-cut : goal.returns-in-None-clause-cut
returns-in-None-clause-cut c = grind (arith, common_steps)
