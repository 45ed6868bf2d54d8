use Rattle.std.proofs.Common.{◌≡◌, ◌+◌, List, ℕ, ℤ, length, drop, ap, sym, ◌∙◌}
use Rattle.std.specs.List.{flat_map}
use Rattle.net_inst.specs.Lists.{Listed}
use Rattle.net_io.proofs.Paging.{start_as, step}
use Rattle.net_report.specs.Links.{arc_lines}
use Rattle.net_report.specs.References.{names_in, names_of}
use Rattle.net_report.proofs.ListedRows.{names_listed, name_count, declared_next, arcs_turn}
use Rattle.net_report.proofs.links.send_arcs.Goals as goal

pub loop-declaration-init : goal.loop-declaration-init
loop-declaration-init g c =
    let xs = c.declarations-declaration-items.result.now in
    let names = flat_map names_of xs in
    let link = c.args.link.now in
    let count : length c.args.arcs.now.keys ≡ length names = ap (λ (l : Listed). length l.keys) c.declarations-declaration-items.ensures ∙ name_count xs in
    record {
      sent = start_as _ _ (arc_lines c.as_slice-numbers.result.now c.as_slice-offsets.result.now names) (arc_lines link.numbers.items link.offsets.items (names_in c.args.arcs.now))
          (ap (λ (l : List ℕ). arc_lines l c.as_slice-offsets.result.now names) c.as_slice-numbers.ensures.value
          ∙ ap (λ (l : List ℤ). arc_lines link.numbers.items l names) c.as_slice-offsets.ensures.value
          ∙ ap (arc_lines link.numbers.items link.offsets.items) (sym (ap names_in c.declarations-declaration-items.ensures ∙ names_listed xs)));
      numbers = c.as_slice-numbers.ensures.len ∙ c.requires ∙ count;
      offsets = c.as_slice-offsets.ensures.len ∙ sym link.paired ∙ c.requires ∙ count;
    }

pub loop-declaration-preserved : goal.loop-declaration-preserved
loop-declaration-preserved g c =
    let xs = c.declarations-declaration-items.result.now in
    let i = c.loop-declaration.declaration-index in
    let x = c.declaration-item.result in
    let rest = flat_map names_of (drop (i + 1) xs) in
    let next = declared_next xs i x c.loop-declaration-test.true c.declaration-item.is in
    let numbers = c.loop-declaration.numbers.now in
    let offsets = c.loop-declaration.offsets.now in
    let own_numbers = c.split_at.result.0.now in
    let own_offsets = c.split_at-in-loop-declaration.result.0.now in
    let later_numbers = c.split_at.result.1.now in
    let later_offsets = c.split_at-in-loop-declaration.result.1.now in
    let turn = arcs_turn x rest c.len-own_count.result numbers own_numbers later_numbers offsets own_offsets later_offsets c.len-own_count.ensures
    c.split_at.ensures.front c.split_at.ensures.back c.split_at-in-loop-declaration.ensures.front c.split_at-in-loop-declaration.ensures.back
    (c.loop-declaration.invariant.numbers ∙ ap length next) (c.loop-declaration.invariant.offsets ∙ ap length next) in
    record {
      sent = step (arc_lines own_numbers own_offsets (names_of x)) (arc_lines later_numbers later_offsets rest) (ap (arc_lines numbers offsets) next ∙ turn.lines)
          c.loop-declaration.invariant.sent c.send_declared_arcs.ensures;
      numbers = turn.numbers_left;
      offsets = turn.offsets_left;
    }
