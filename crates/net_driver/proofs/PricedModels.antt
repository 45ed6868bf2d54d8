-- A solved model with prices: the prices that its text prints prove its plan.
use Rattle.std.specs.Prelude.{◌≡◌, ◌+◌, ℕ, Bool, List, length, map, vec_len, slice_get, slice_index_or, Option, Some, ℤ, pos}
use Rattle.std.specs.List.{AllZip}
use Rattle.std.proofs.Common.{sym, subst, ◌∙◌}
use Rattle.std.proofs.lemmas.List.{length-map}
use Rattle.net_expr.specs.Worlds.{Name}
use Rattle.net_tree.specs.Erasure.{declarations}
use Rattle.net_tree.specs.Syntax.{Declaration}
use Rattle.net_normal.specs.Assignments.{net_inflow}
use Rattle.net_normal.specs.Links.{signed, mapped_back}
use Rattle.net_normal.specs.NormalForm.{flow_arc_of}
use Rattle.net_normal.specs.declared.instance.Instance.{Instance}
use Rattle.net_normal.specs.declared.instance.NodeRange.{NodeRange}
use Rattle.net_meaning.specs.Network.{Network, IsNetwork}
use Rattle.net_meaning.specs.OfTrees.{meant_world}
use Rattle.net_meaning.specs.Represents.{by_label}
use Rattle.net_meaning.specs.Values.{World}
use Rattle.net_inst.specs.AsWritten as written
use Rattle.net_inst.specs.Instances.{seen_as}
use Rattle.net_inst.specs.Laws.{IsRangeOf}
use Rattle.net_inst.specs.Nodes.{sides_of}
use Rattle.net_inst.specs.Soundness.{IsSameNode, HasAssignments}
use Rattle.net_inst.proofs.SoundAssignments.{assignments_are_sound}
use Rattle.net_inst.proofs.Written.{have_ends, have_exact_ranges}
use Rattle.net_report.specs.Prices.{node_prices, reduced_cost, reduced_costs}
use Rattle.net_report.proofs.PriceLists.{prices_count}
use Rattle.net_driver.specs.declared.answer.Answer.{Answer}
use Rattle.net_driver.specs.declared.answer.Outcome.{Outcome}
use Rattle.net_driver.specs.declared.answer.Outcome.TheVariants.{Displayed, Infeasible}
use Rattle.net_driver.specs.declared.compiled.Compiled.{Compiled}
use Rattle.net_driver.specs.IsBuilt.{IsBuilt}
use Rattle.net_driver.specs.IsSolved.{IsOutcome}
use Rattle.net_driver.specs.Made.{profile_of}
use Rattle.net_driver.specs.Meaning.{IsSolution}
use Rattle.net_driver.specs.PlanProofs.{ProvePlan, ProvesIn, PricedPlansAreProved}
use Rattle.net_driver.specs.PricedPlans.{IsPricedPlan, IsPricedOutcome}
use Rattle.net_driver.proofs.Apart.{bound_apart}
use Rattle.net_driver.proofs.Compilations.{solution_with_network}
use Rattle.net_driver.proofs.Counts.{zip_length}
use Rattle.net_driver.proofs.ModelMeaning.{sets_of, names_of}
use Rattle.net_driver.proofs.ModelPrices.{proved}
use Rattle.net_driver.proofs.OneNetwork.{one_network}
use Rattle.net_driver.proofs.PriceBounds.{IsBoundBy, IsSideBy, arcs_bound, nodes_side}
use Rattle.net_driver.proofs.Priced.{form_sizes}
use Rattle.net_driver.proofs.PricedForms.{IsHeld, IsCompleted, above, all_held, completed}

proves_moved : (wanted : Option Name) (w : World) (ds : List Declaration) (network other : Network) (c : Compiled) (outcome : Outcome) (text : List ℕ)
    → IsNetwork wanted w ds network → IsNetwork wanted w ds other → ProvesIn network c outcome text → ProvesIn other c outcome text
proves_moved wanted w ds network other c outcome text is are h = subst (λ (n : Network). ProvesIn n c outcome text) (one_network wanted w ds network other is are) h

pub priced_plans_are_proved : PricedPlansAreProved
priced_plans_are_proved lean wanted m d a text h = record { solution = own.0; proves = moved }
  where
    p : IsBuilt lean wanted m d a.compiled
    p = h.0.compiled

    n : Instance
    n = p.made.instance

    s : HasAssignments wanted p.world p.declarations p.made
    s = assignments_are_sound wanted p.world p.declarations p.made (sets_of lean wanted m d a.compiled p) (names_of lean wanted m d a.compiled p) p.accepts.model.means.level p.has_network

    apart : written.AreDistinct (written.nodes p.world p.declarations) (written.arcs p.world p.declarations)
    apart = bound_apart p.declarations p.accepts.tables.statements p.world p.accepts.model.named p.accepts.world

    many : vec_len n.nodes ≡ length s.has.network.nodes
    many =
        n.nodes.ok.0
        ∙ sym (length-map n.nodes.items sides_of)
        ∙ sym (zip_length IsRangeOf (written.nodes p.world p.declarations) (map sides_of n.nodes.items) (have_exact_ranges wanted p.world p.declarations (seen_as p.made) p.has_network))
        ∙ zip_length IsSameNode (written.nodes p.world p.declarations) s.has.network.nodes s.has.same_nodes

    plan : (numbers : List ℤ) (shown : List ℕ) → length numbers ≡ length (written.arcs p.world p.declarations) → (k : IsPricedPlan n a.compiled numbers shown text)
        → ProvePlan s.has.network (by_label s.has.network.arcs numbers) (node_prices n k.potentials) (reduced_costs n k.potentials)
    plan numbers shown each k =
        proved wanted p.world p.declarations p.made s apart (have_ends wanted p.world p.declarations (seen_as p.made) p.has_network apart) numbers (node_prices n k.potentials) each (prices_count n k.potentials sized ∙ many)
        (subst (AllZip (λ a y. IsBoundBy (signed n.sense (reduced_cost (node_prices n k.potentials) a)) a y) n.arcs.items) (sym k.maps_back) (arcs_bound (profile_of lean) n k.potentials x held sides sized))
        (subst (λ (ys : List ℤ). (u : ℕ) (r : NodeRange) → slice_get n.nodes.items u ≡ Some r → IsSideBy (signed n.sense (slice_index_or (node_prices n k.potentials) u (pos 0))) r (net_inflow n.arcs.items ys u)) (sym k.maps_back) (nodes_side (profile_of lean) n k.potentials x held sides sized))
      where
        x : List ℤ
        x = mapped_back a.compiled.link k.flows

        sized : length k.potentials ≡ vec_len n.nodes + 1
        sized = k.certificate.one_a_node ∙ (form_sizes lean wanted m d a.compiled p).nodes

        held : AllZip (IsHeld (flow_arc_of (profile_of lean) n.sense (vec_len n.nodes)) k.potentials) n.arcs.items x
        held = all_held (profile_of lean) n a.compiled.problem a.compiled.link p.normal k.potentials k.flows k.certificate.feasible k.certificate.slackness

        sides : (u : ℕ) (r : NodeRange) → slice_get n.nodes.items u ≡ Some r → IsCompleted n.arcs.items u r (above k.potentials (vec_len n.nodes) u) (net_inflow n.arcs.items x u)
        sides = completed (profile_of lean) n a.compiled.problem a.compiled.link p.normal k.potentials k.flows k.certificate.feasible k.certificate.slackness

    go : (o : Outcome) → IsOutcome a.compiled (written.nodes p.world p.declarations) (written.arcs p.world p.declarations) p.objective o → IsPricedOutcome n a.compiled o text → ProvesIn s.has.network a.compiled o text
    go (Displayed shown numbers value) f k = (node_prices n k.potentials, reduced_costs n k.potentials, k.displayed, plan numbers.items shown.items f.best.each k)
    go (Infeasible shown flags side) f k = k

    own : (x : IsSolution wanted m d a) × IsNetwork wanted (meant_world p.world) (declarations p.declarations) x.compilation.network
    own = solution_with_network lean wanted m d a h.0

    moved : ProvesIn own.0.compilation.network a.compiled a.outcome text
    moved =
        proves_moved wanted (meant_world p.world) (declarations p.declarations) s.has.network own.0.compilation.network a.compiled a.outcome text
        s.has.is_network own.1 (go a.outcome h.0.outcome h.1)
