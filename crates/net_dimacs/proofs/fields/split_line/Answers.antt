use Rattle.std.proofs.Common.{◌≡◌, ◌<◌, ◌≤◌, ◌+◌, ◌-◌, [], ◌∷◌, List, ℕ, length, sym, ap, ◌∙◌, arith, take, drop}
use Rattle.std.proofs.lemmas.Grind.{common_steps}
use Rattle.std.proofs.lemmas.Bool.Decides.{nat_tests}
use Rattle.std.proofs.lemmas.List.{nil_from_length}
use Rattle.std.specs.List.{position_or_len}
use Rattle.std.specs.Str.Lines.{lines, strip_carriage_return}
use Rattle.net_dimacs.proofs.Fronts.{is_feed, place_is, place_within, first_line, last_line, all_taken, after_first_byte}
use Rattle.net_dimacs.proofs.fields.split_line.Goals as goal

pub returns-then-is_empty-2-clause-parts : goal.returns-then-is_empty-2-clause-parts
returns-then-is_empty-2-clause-parts c =
    let text = c.args.text.now in
    let k = c.unwrap_or-end.result in
    let rest = c.split_at.result.1.now in
    let none : length rest ≡ 0 = grind (arith, nat_tests) in
    let some : 0 < length text = grind (arith, nat_tests) in
    let is_at : k ≡ position_or_len is_feed text = (place_is is_feed c.args.text.now c.first_feed.result c.unwrap_or-end.result c.first_feed.ensures c.unwrap_or-end.ensures) in
    let all : length text ≤ k = omega (arith, c.split_at.ensures.back_len) in
    last_line text some (omega arith)
    ∙ ap (λ (l : List ℕ). l ∷ []) (sym (c.split_at.ensures.front ∙ all_taken text k all))
    ∙ ap (λ (r : List ℕ). c.split_at.result.0.now ∷ lines r) (sym (nil_from_length rest none))

pub returns-clause-parts : goal.returns-clause-parts
returns-clause-parts c =
    let text = c.args.text.now in
    let k = c.unwrap_or-end.result in
    let rest = c.split_at.result.1.now in
    let back : rest ≡ drop k text = c.split_at.ensures.back in
    let some : 0 < length rest = grind (arith, nat_tests) in
    let within : k < length text = omega (arith, c.split_at.ensures.back_len) in
    let after : drop (k + 1) text ≡ take (length rest - 1) (drop 1 rest) = rw back (after_first_byte text k) in
    first_line text k (place_is is_feed c.args.text.now c.first_feed.result c.unwrap_or-end.result c.first_feed.ensures c.unwrap_or-end.ensures) within
    ∙ ap (λ (l : List ℕ). strip_carriage_return l ∷ lines (drop (k + 1) text)) (sym c.split_at.ensures.front)
    ∙ ap (λ (l : List ℕ). l ∷ lines (drop (k + 1) text)) (sym c.without_return.ensures)
    ∙ ap (λ (r : List ℕ). c.without_return.result.now ∷ lines r) after

pub split_at-requires : goal.split_at-requires
split_at-requires c = place_within is_feed c.args.text.now c.first_feed.result c.unwrap_or-end.result c.first_feed.ensures c.unwrap_or-end.ensures

pub returns-then-is_empty-clause-parts : goal.returns-then-is_empty-clause-parts
returns-then-is_empty-clause-parts c = grind (arith, common_steps)

pub slice_bounds-result-start : goal.slice_bounds-result-start
slice_bounds-result-start c = grind (arith, common_steps)

pub slice_bounds-result-count : goal.slice_bounds-result-count
slice_bounds-result-count c = grind (arith, common_steps)

pub returns-clause-shorter : goal.returns-clause-shorter
returns-clause-shorter c = grind (arith, common_steps)

pub returns-then-is_empty-2-clause-shorter : goal.returns-then-is_empty-2-clause-shorter
returns-then-is_empty-2-clause-shorter c = grind (arith, common_steps)
