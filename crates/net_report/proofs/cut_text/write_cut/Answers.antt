use Rattle.std.proofs.Common.{◌≡◌, ap, ◌∙◌, ◌++◌, codes, to_z, of_z, arith}
use Rattle.std.proofs.lemmas.Grind.{common_steps}
use Rattle.std.proofs.lemmas.Int.{to_z-of_z}
use mir.Syntax.{w128}
use Rattle.net_report.specs.Cuts as cuts
use Rattle.net_report.specs.References.{names_in}
use Rattle.net_check.specs.Certificates.{is_in}
use Rattle.net_report.proofs.Texts.{four_parts}
use Rattle.net_report.proofs.cut_text.write_cut.Goals as goal

pub returns : goal.returns
returns c =
    let problem = c.args.problem.now in
    let flags = c.args.flags.now in
    let side = c.args.side in
    let begun = c.extend_from_slice.new.self.items in
    let reported = c.push_nodes.new.text.items in
    let need : to_z w128 (of_z w128 c.supply_in.result) ≡ cuts.need problem flags = to_z-of_z w128 c.supply_in.result (record { sfits = c.supply_in.type_inv }) ∙ c.supply_in.ensures in
    let room : to_z w128 (of_z w128 c.room.result) ≡ cuts.room problem flags side = to_z-of_z w128 c.room.result (record { sfits = c.room.type_inv }) ∙ c.room.ensures in
    record {
      value = four_parts (codes "infeasible\n") (cuts.sums_line side (cuts.need problem flags) (cuts.room problem flags side)) (cuts.node_lines flags (names_in c.args.names.now.nodes)) (cuts.outside_line (is_in flags (cuts.outside problem)))
          begun c.push_sums.new.text.items reported c.extend_from_slice-2.new.self.items
          (c.in_ok-extend_from_slice.ensures.items ∙ ap (λ t. t ++ codes "infeasible\n") c.new-text.ensures.items)
          (c.in_ok-push_sums.ensures.ok ∙ ap (λ z. begun ++ cuts.sums_line side z (to_z w128 (of_z w128 c.room.result))) need ∙ ap (λ z. begun ++ cuts.sums_line side (cuts.need problem flags) z) room)
          c.in_ok-push_nodes.ensures.ok
          (c.in_ok-extend_from_slice-2.ensures.items ∙ ap (λ t. reported ++ t) c.outside_line.ensures ∙ ap (λ b. reported ++ cuts.outside_line b) c.is_outside_in.ensures);
    }

pub supply_in-requires : goal.supply_in-requires
supply_in-requires c = grind (arith, common_steps)

pub push_nodes-requires : goal.push_nodes-requires
push_nodes-requires c = grind (arith, common_steps)

pub is_outside_in-requires : goal.is_outside_in-requires
is_outside_in-requires c = grind (arith, common_steps)

pub room-requires : goal.room-requires
room-requires c = grind (arith, common_steps)
