use Rattle.std.proofs.Common.{◌+◌, ◌++◌, drop, ap, sym, ◌∙◌, arith}
use Rattle.std.specs.List.{flat_map}
use Rattle.net_io.proofs.Paging.{start_as, step}
use Rattle.net_report.specs.Links.{node_lines}
use Rattle.net_report.specs.References.{names_in, names_of}
use Rattle.net_report.proofs.ListedRows.{names_listed, declared_next, nodes_split, own_count}
use Rattle.net_report.proofs.links.send_nodes.Goals as goal

pub loop-declaration-init : goal.loop-declaration-init
loop-declaration-init g c =
    let xs = c.declarations-declaration-items.result.now in
    record {
      sent = start_as _ _ (node_lines 0 (flat_map names_of xs)) (node_lines 0 (names_in c.args.nodes.now)) (ap (node_lines 0) (sym (ap names_in c.declarations-declaration-items.ensures ∙ names_listed xs)));
      few = omega arith;
    }

pub send_declared_nodes-requires : goal.send_declared_nodes-requires
send_declared_nodes-requires g c =
    let few = c.loop-declaration.invariant.few in
    omega (arith, few, c.loop-declaration-test.true, c.declarations-declaration-items.type_inv.0, c.len-own_count.ensures, c.len-own_count.type_inv)

pub loop-declaration-preserved : goal.loop-declaration-preserved
loop-declaration-preserved g c =
    let xs = c.declarations-declaration-items.result.now in
    let i = c.loop-declaration.declaration-index in
    let x = c.declaration-item.result in
    let count = c.loop-declaration.count in
    let rest = flat_map names_of (drop (i + 1) xs) in
    record {
      sent = step (node_lines count (names_of x)) (node_lines (count + c.len-own_count.result) rest)
          (ap (node_lines count) (declared_next xs i x c.loop-declaration-test.true c.declaration-item.is) ∙ nodes_split count (names_of x) rest
          ∙ ap (λ k. node_lines count (names_of x) ++ node_lines (count + k) rest) (own_count x ∙ sym c.len-own_count.ensures))
          c.loop-declaration.invariant.sent c.send_declared_nodes.ensures;
      few = omega (arith, c.loop-declaration.invariant.few, c.len-own_count.type_inv);
    }
