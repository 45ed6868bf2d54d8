use Rattle.std.proofs.Common.{◌≡◌, ◌++◌, List, ℕ, ℤ, length, codes, sym, ap, ◌∙◌}
use Rattle.std.specs.List.{zip}
use Rattle.net_report.specs.Displays.{blocks}
use Rattle.net_report.specs.Prices.{node_prices, reduced_costs}
use Rattle.net_report.proofs.PriceLists.{prices_count}
use Rattle.net_report.proofs.Texts.{four_appended}
use Rattle.net_report.proofs.prices.push_prices.Goals as goal

pub push_blocks-requires : goal.push_blocks-requires
push_blocks-requires c =
    ap length c.deref.ensures.value ∙ ap length c.in_ok-prices.ensures ∙ prices_count c.args.instance.now c.args.potentials.now c.requires.potentials ∙ sym c.requires.nodes

pub returns : goal.returns
returns c =
    let names = c.args.names.now in
    let instance = c.args.instance.now in
    let potentials = c.args.potentials.now in
    let first = c.extend_from_slice.new.self.items in
    let second = c.extend_from_slice-2.new.self.items in
    let prices : c.deref.result.now ≡ node_prices instance potentials = c.deref.ensures.value ∙ c.in_ok-prices.ensures in
    let costs : c.deref-2.result.now ≡ reduced_costs instance potentials = c.deref-2.ensures.value ∙ c.in_ok-costs.ensures in
    record {
      value = four_appended c.args.text.now.items (codes "prices\n") (blocks 0 names.nodes.declarations (zip names.nodes.keys (node_prices instance potentials))) (codes "reduced costs\n") (blocks 0 names.arcs.declarations (zip names.arcs.keys (reduced_costs instance potentials)))
          first c.push_blocks.new.text.items second c.push_blocks-2.new.text.items
          c.in_ok-extend_from_slice.ensures.items
          (c.in_ok-push_blocks.ensures.ok ∙ ap (λ (l : List ℤ). first ++ blocks 0 names.nodes.declarations (zip names.nodes.keys l)) prices)
          c.in_ok-extend_from_slice-2.ensures.items
          (c.in_ok-push_blocks-2.ensures.ok ∙ ap (λ (l : List ℤ). second ++ blocks 0 names.arcs.declarations (zip names.arcs.keys l)) costs);
    }
