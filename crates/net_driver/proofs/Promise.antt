-- The promise of a compiled model, from what its parts promise.
use Rattle.std.proofs.Common.{◌≡◌, ℕ, Bool, ◌<◌, ◌≤◌, ◌^◌, List, [], ◌∷◌, ◌++◌, length, map, vec_len, Option, Some, Ok, neg_ℤ, refl, sym, ap, subst, ◌∙◌, arith, length-append}
use Rattle.std.specs.List.{AllByRecursion, flat_map}
use Rattle.std.proofs.lemmas.List.{length-map}
use Rattle.net_dimacs.specs.Problems.{statements_of}
use Rattle.net_dimacs.specs.Written.{problem_text}
use Rattle.net_expr.specs.Worlds.{Name}
use Rattle.net_inst.specs.declared.network_names.Names.{Names}
use Rattle.net_inst.specs.AsWritten.{nodes, arcs, node_declared, arc_declared}
use Rattle.net_inst.specs.ByName.{CorrespondsByName, CorrespondAsWritten}
use Rattle.net_inst.specs.Instances.{seen_as}
use Rattle.net_inst.specs.Laws.{AreNames, HaveNames, HaveExactRanges, HaveBounds, HaveObjective}
use Rattle.net_inst.specs.Readings.{Objective, objectives, chosen}
use Rattle.net_normal.specs.NormalForm.{supplies_from}
use Rattle.net_normal.specs.Sums.{sum_of}
use Rattle.net_normal.proofs.Written.{length-numbers}
use Rattle.net_driver.proofs.Apart.{bound_apart}
use Rattle.net_report.specs.References.{name_in, names_in}
use Rattle.net_driver.specs.declared.compiled.Compiled.{Compiled}
use Rattle.net_driver.specs.IsBuilt.{IsBuilt}
use Rattle.net_driver.specs.Made.{IsNormalFormOf, SizesAgree, profile_of}
use Rattle.net_driver.proofs.Counts.{node_count, arc_count, supply_count, numbers_within, flow_arc_count}
use Rattle.net_driver.proofs.LinkLines.{links_skipped, numbers_small, same_problem, same_only}

few_names : (lean : Bool) (wanted : Option Name) (m d : List ℕ) (c : Compiled) → HaveNames → HaveExactRanges → IsNormalFormOf lean wanted m d c → length (names_in c.names.nodes) < 2 ^ 127
few_names lean wanted m d c names ranges made =
    let is = made.network in
    let count = node_count wanted is.network.world is.declarations made.named names ranges is.network.network in
    let keys = ap (λ (x : Names). length x.nodes.keys) made.names in
    let instance = made.named.instance in
    let few = instance.few_nodes in
    omega (arith, length-map c.names.nodes.keys (name_in c.names.nodes.declarations), keys, count, instance.nodes.ok.0, few)

-- the text is the link lines, which say nothing, and the problem's
says : (lean : Bool) (wanted : Option Name) (m d : List ℕ) (c : Compiled) → HaveNames → HaveExactRanges → IsNormalFormOf lean wanted m d c
    → statements_of c.text.items ≡ statements_of (problem_text c.problem.supplies.items c.problem.arcs.items)
says lean wanted m d c names ranges made =
    let instance = made.named.instance in
    let few = instance.few_arcs in
    ap statements_of made.text
    ∙ links_skipped c.link (names_in c.names.nodes) (names_in c.names.arcs) (problem_text c.problem.supplies.items c.problem.arcs.items)
    (few_names lean wanted m d c names ranges made)
    (subst (AllByRecursion (λ k. k < 2 ^ 128)) (sym made.normal.numbers) (numbers_small (profile_of lean) 1 instance.arcs.items (omega (arith, instance.arcs.ok.0, few))))

sizes_of : (lean : Bool) (wanted : Option Name) (m d : List ℕ) (c : Compiled) → HaveNames → HaveExactRanges → HaveBounds → IsNormalFormOf lean wanted m d c → SizesAgree c
sizes_of lean wanted m d c names ranges bounds made =
    let is = made.network in
    let n = made.named in
    let normal = made.normal in
    let nodes_named = node_count wanted is.network.world is.declarations n names ranges is.network.network in
    let arcs_named = arc_count wanted is.network.world is.declarations n names bounds is.network.network in
    let node_keys = ap (λ (x : Names). length x.nodes.keys) made.names in
    let arc_keys = ap (λ (x : Names). length x.arcs.keys) made.names in
    let inner = supplies_from (profile_of lean) n.instance.arcs.items 0 n.instance.nodes.items in
    let supplies = ap length normal.supplies in
    let joined = length-append inner (neg_ℤ (sum_of inner) ∷ []) in
    let counted = supply_count (profile_of lean) n.instance.arcs.items 0 n.instance.nodes.items in
    let arcs_made = ap length normal.arcs in
    let arcs_whole = flow_arc_count (profile_of lean) n.instance in
    record {
      nodes = omega (arith, c.problem.supplies.ok.0, nodes_named, node_keys, supplies, joined, counted);
      arcs = omega (arith, c.link.numbers.ok.0, arcs_named, arc_keys, ap length normal.numbers, length-numbers (profile_of lean) 1 n.instance.arcs.items);
      numbers = subst (AllByRecursion (λ k. k ≤ vec_len c.problem.arcs)) (sym normal.numbers)
          (numbers_within (profile_of lean) n.instance.sense (vec_len n.instance.nodes) 1 n.instance.arcs.items (vec_len c.problem.arcs) (omega (arith, c.problem.arcs.ok.0, arcs_made, arcs_whole)));
    }

pub some_same : (o : Option Objective) (x y : Objective) → o ≡ Some x → o ≡ Some y → x ≡ y
some_same o x y p q = let both : ◌≡◌ {A = Option Objective} (Some x) (Some y) = sym p ∙ q in cc

pub headline_of : (lean : Bool) (wanted : Option Name) (m d : List ℕ) (c : Compiled) → HaveNames → HaveExactRanges → HaveBounds → HaveObjective → CorrespondAsWritten → IsNormalFormOf lean wanted m d c → IsBuilt lean wanted m d c
headline_of lean wanted m d c names ranges bounds objective correspond made =
    let is = made.network in
    let ds = is.declarations in
    let w = is.network.world in
    let n = made.named in
    let lines = problem_text c.problem.supplies.items c.problem.arcs.items in
    let called = names wanted w ds (seen_as n) is.network.network in
    let aim = objective wanted w ds (seen_as n) is.network.network in
    record {
      declarations = ds;
      world = w;
      accepts = record { model = is.model; tables = is.tables; statements = is.statements; world = is.network.bound };
      made = n;
      has_network = is.network.network;
      names = made.names;
      normal = made.normal;
      by_number = made.corresponds;
      sizes = sizes_of lean wanted m d c names ranges bounds made;
      objective = aim.0;
      is_chosen = aim.1;
      named = ap (λ (x : Names). x.objective) made.names ∙ aim.2.name;
      sense = made.normal.sense ∙ aim.2.sense;
      node_names = subst (λ (x : Names). AreNames (flat_map node_declared ds) (map (λ v. v.label) (nodes w ds)) x.nodes) (sym made.names) called.nodes;
      arc_names = subst (λ (x : Names). AreNames (flat_map arc_declared ds) (map (λ a. a.label) (arcs w ds)) x.arcs) (sym made.names) called.arcs;
      text = made.text;
      problem = same_problem c.text.items lines c.problem.supplies.items c.problem.arcs.items (says lean wanted m d c names ranges made) made.problem;
      only = same_only c.text.items lines c.problem.supplies.items c.problem.arcs.items (says lean wanted m d c names ranges made) made.only;
      corresponds =
          let apart = bound_apart ds is.tables.statements w is.model.named is.network.bound in
          let by = correspond wanted w ds n c.problem c.link is.network.network apart made.corresponds in
          subst (λ o. CorrespondsByName (nodes w ds) (arcs w ds) o c.problem c.link) (some_same (chosen wanted (objectives w ds)) by.0 aim.0 by.1 aim.1) by.2;
    }

-- the network of the promise is the one that was compiled
pub headline_from : (lean : Bool) (wanted : Option Name) (m d : List ℕ) (c : Compiled) → HaveNames → HaveExactRanges → HaveBounds → HaveObjective → CorrespondAsWritten → (made : IsNormalFormOf lean wanted m d c) → (built : IsBuilt lean wanted m d c) × (built.made.instance ≡ made.named.instance)
unfolding headline_of
headline_from lean wanted m d c names ranges bounds objective correspond made = (headline_of lean wanted m d c names ranges bounds objective correspond made, refl)
