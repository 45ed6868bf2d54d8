use Rattle.std.proofs.Common.{◌≡◌, ◌+◌, ◌++◌, length, take, drop, ap, sym, ◌∙◌, append_assoc, length-append, length-drop, arith}
use Rattle.std.specs.List.{flat_map}
use Rattle.net_inst.specs.Lists.{Listed}
use Rattle.net_report.specs.Cuts.{node_lines}
use Rattle.net_report.specs.References.{names_in, names_of}
use Rattle.net_report.proofs.ListedRows.{names_listed, name_count, declared_next, own_count, cut_split}
use Rattle.net_report.proofs.cut_text.push_nodes.Goals as goal

pub loop-declaration-init : goal.loop-declaration-init
loop-declaration-init c =
    let xs = c.declarations-declaration-items.result.now in
    let names : names_in c.args.nodes.now ≡ flat_map names_of xs = ap names_in c.declarations-declaration-items.ensures ∙ names_listed xs in
    record {
      text = ap (λ l. c.args.text.now.items ++ node_lines c.args.flags.now l) (sym names);
      count = omega (arith, c.requires, ap (λ (l : Listed). length l.keys) c.declarations-declaration-items.ensures, name_count xs);
    }

pub loop-declaration-preserved : goal.loop-declaration-preserved
loop-declaration-preserved c =
    let xs = c.declarations-declaration-items.result.now in
    let i = c.loop-declaration.declaration-index in
    let x = c.declaration-item.result in
    let rest = flat_map names_of (drop (i + 1) xs) in
    let next = declared_next xs i x c.loop-declaration-test.true c.declaration-item.is in
    let left = c.loop-declaration.left.now in
    let n = c.len.result in
    let text = c.loop-declaration.text.items in
    let size : length (names_of x) ≡ n = own_count x ∙ sym c.len.ensures in
    let both = length-append (names_of x) rest in
    let count = c.loop-declaration.invariant.count in
    let split : node_lines left (flat_map names_of (drop i xs)) ≡ node_lines (take n left) (names_of x) ++ node_lines (drop n left) rest =
    ap (node_lines left) next ∙ cut_split (names_of x) rest left (omega (arith, count, ap length next, both)) ∙ ap (λ m. node_lines (take m left) (names_of x) ++ node_lines (drop m left) rest) size in
    record {
      text =
          ap (λ l. l ++ node_lines c.split_at.result.1.now rest) c.in_ok-push_declared_nodes.ensures.ok
          ∙ append_assoc text (node_lines c.split_at.result.0.now (names_of x)) (node_lines c.split_at.result.1.now rest)
          ∙ ap (λ l. text ++ (node_lines l (names_of x) ++ node_lines c.split_at.result.1.now rest)) c.split_at.ensures.front
          ∙ ap (λ l. text ++ (node_lines (take n left) (names_of x) ++ node_lines l rest)) c.split_at.ensures.back
          ∙ ap (λ l. text ++ l) (sym split)
          ∙ c.loop-declaration.invariant.text;
      count = omega (arith, count, ap length next, both, size, ap length c.split_at.ensures.back, length-drop n left);
    }
