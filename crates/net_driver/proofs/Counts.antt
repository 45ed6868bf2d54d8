-- As many names as nodes and arcs.
use Rattle.std.proofs.Common.{◌≡◌, ℕ, suc, true, false, if◌then◌else◌, ◌+◌, ◌≤◌, List, [], ◌∷◌, length, map, vec_len, Option, Ok, refl, sym, ap, ◌∙◌, arith, length-append}
use Rattle.std.specs.List.{AllByRecursion, AllZip, flat_map}
use Rattle.std.proofs.lemmas.List.{length-map}
use Rattle.net_tree.specs.Tree.{Declaration}
use Rattle.net_expr.specs.Worlds.{Name, World}
use Rattle.net_normal.specs.NormalForm.{numbers_from, supplies_from, is_left_out, flow_arc_of, written_arcs, slack_arcs_from, flow_arcs_of}
use Rattle.net_normal.specs.declared.instance.Instance.{Instance}
use Rattle.net_normal.specs.declared.instance.InstArc.{InstArc}
use Rattle.net_normal.specs.declared.instance.NodeRange.{NodeRange}
use Rattle.net_normal.specs.declared.instance.Sense.{Sense}
use Rattle.net_normal.specs.declared.problem.FlowArc.{FlowArc}
use Rattle.net_normal.specs.declared.profile.Profile.{Profile}
use Rattle.net_inst.specs.AsWritten.{nodes, arcs, node_declared, arc_declared}
use Rattle.net_inst.specs.Instances.{Network, network, seen_as}
use Rattle.net_inst.specs.Laws.{HaveNames, HaveBounds, HaveExactRanges, IsKeyOf, IsBoundedAs, IsRangeOf}
use Rattle.net_inst.specs.Nodes.{sides_of}
use Rattle.net_inst.specs.declared.network.Named.{Named}

pub zip_length : {A B : Type 0} (R : A → B → Type 0) (xs : List A) (ys : List B) → AllZip R xs ys → length xs ≡ length ys
zip_length R [] [] h = refl
zip_length R [] (y ∷ ys) h = absurd h
zip_length R (x ∷ xs) [] h = absurd h
zip_length R (x ∷ xs) (y ∷ ys) h = ap suc (zip_length R xs ys h.1)

pub node_count : (wanted : Option Name) (w : World) (ds : List Declaration) (n : Named) → HaveNames → HaveExactRanges → network wanted w ds ≡ Ok (seen_as n)
    → length n.names.nodes.keys ≡ length n.instance.nodes.items
node_count wanted w ds n names ranges e =
    sym (zip_length (IsKeyOf (flat_map node_declared ds)) (map (λ v. v.label) (nodes w ds)) n.names.nodes.keys (names wanted w ds (seen_as n) e).nodes.keys)
    ∙ length-map (nodes w ds) (λ v. v.label)
    ∙ zip_length IsRangeOf (nodes w ds) (map sides_of n.instance.nodes.items) (ranges wanted w ds (seen_as n) e)
    ∙ length-map n.instance.nodes.items sides_of

pub arc_count : (wanted : Option Name) (w : World) (ds : List Declaration) (n : Named) → HaveNames → HaveBounds → network wanted w ds ≡ Ok (seen_as n)
    → length n.names.arcs.keys ≡ length n.instance.arcs.items
arc_count wanted w ds n names bounds e =
    sym (zip_length (IsKeyOf (flat_map arc_declared ds)) (map (λ a. a.label) (arcs w ds)) n.names.arcs.keys (names wanted w ds (seen_as n) e).arcs.keys)
    ∙ length-map (arcs w ds) (λ a. a.label)
    ∙ zip_length IsBoundedAs (arcs w ds) n.instance.arcs.items (bounds wanted w ds (seen_as n) e)

pub supply_count : (p : Profile) (xs : List InstArc) (v : ℕ) (rs : List NodeRange) → length (supplies_from p xs v rs) ≡ length rs
supply_count p xs v [] = refl
supply_count p xs v (r ∷ rs) = ap suc (supply_count p xs (suc v) rs)

-- numbers from k on are at most k and as many as the arcs that are written
pub numbers_within : (p : Profile) (sense : Sense) (outside k : ℕ) (xs : List InstArc) (most : ℕ) → k + length (written_arcs p sense outside xs) ≤ most + 1 → AllByRecursion (λ n. n ≤ most) (numbers_from p k xs)
numbers_within p sense outside k [] most h = tt
numbers_within p sense outside k (x ∷ xs) most h =
    let rest = written_arcs p sense outside xs in
    let go : k + length (written_arcs p sense outside (x ∷ xs)) ≤ most + 1 → AllByRecursion (λ n. n ≤ most) (numbers_from p k (x ∷ xs)) =
    elim (is_left_out p x) as (λ b. k + length (if b then rest else flow_arc_of p sense outside x ∷ rest) ≤ most + 1 → AllByRecursion (λ n. n ≤ most) (if b then 0 ∷ numbers_from p k xs else k ∷ numbers_from p (suc k) xs)) [
      | true ↦ λ few. (omega arith, numbers_within p sense outside k xs most few)
      | false ↦ λ few. (omega (arith, few), numbers_within p sense outside (suc k) xs most (omega (arith, few)))
    ] in
    go h

-- the problem has an arc for each of the network's that is written, at least
pub flow_arc_count : (p : Profile) (instance : Instance) → length (written_arcs p instance.sense (vec_len instance.nodes) instance.arcs.items) ≤ length (flow_arcs_of p instance)
flow_arc_count p instance =
    let outside = vec_len instance.nodes in
    let own = written_arcs p instance.sense outside instance.arcs.items in
    let room = slack_arcs_from instance.arcs.items outside 0 instance.nodes.items in
    omega (arith, length-append own room)
