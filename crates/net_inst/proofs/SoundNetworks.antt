-- The network that the code computes is the one that the model means: from declaration to declaration.
use Rattle.std.specs.Prelude.{◌≡◌, ℕ, suc, List, [], ◌∷◌, ◌++◌, map, Option, None, Some, Ok, ⊤}
use Rattle.std.specs.List.{AllByRecursion, AllZip}
use Rattle.std.proofs.Common.{refl, ap, sym, ◌∙◌, subst, append_assoc, append-nil}
use Rattle.net_base.specs.Outcomes.{Outcome}
use Rattle.net_lex.specs.declared.token.Token.{Token}
use Rattle.net_tree.specs.Erasure.{indexing, condition, declaration, declarations}
use Rattle.net_tree.specs.Tree.{Braces, Condition, Declaration, set, param, check, node, arc, objective}
use Rattle.net_expr.specs.declared.row.Row.{Row}
use Rattle.net_expr.specs.SetValues.{HasSets}
use Rattle.net_expr.specs.Worlds.{Name, World}
use Rattle.net_linear.specs.Forms.{Products}
use Rattle.net_meaning.specs.OfTrees.{meant_world, env_of, IsNode, AreNodesOf, AreArcsOf, entries_after}
use Rattle.net_meaning.specs.Network as meaning
use Rattle.net_meaning.specs.Network.{InOrder}
use Rattle.net_meaning.proofs.Erased.{indexed_is}
use Rattle.net_meaning.proofs.Meant.{meant_taken}
use Rattle.net_inst.specs.declared.arc.Built.{Built}
use Rattle.net_inst.specs.declared.draft.ChosenObjective.{ChosenObjective}
use Rattle.net_expr.specs.declared.indexing.Indexing.{Indexing}
use Rattle.net_inst.specs.Arcs.{BuiltArcs, with_arcs, arc_env}
use Rattle.net_inst.specs.AsWritten as written
use Rattle.net_inst.specs.AsWritten.{known_after, in_order, nodes_of, arcs_of, rows_of, node_at_row, arc_at_row, arcs_with}
use Rattle.net_inst.specs.Drafts.{Drawing, nothing, env, known_more, nodes_more, arcs_more, declare, draw}
use Rattle.net_expr.specs.Indexings.{indexing_in}
use Rattle.net_inst.specs.Instances.{Network, with_coefficients, network}
use Rattle.net_inst.specs.Nodes.{nodes_by, with_nodes}
use Rattle.net_inst.specs.Phrases.{parts_of}
use Rattle.net_inst.specs.Readings.{Objective, objectives, chosen}
use Rattle.net_inst.specs.Soundness.{NameObjectives, IsSameNode, IsSameArc, HasBounds, IsNamedOnce, HasNetwork, NetworksAreSound}
use Rattle.net_inst.proofs.Agreement.{with_arcs_is, network_is}
use Rattle.net_inst.proofs.Aiming.{have_objective}
use Rattle.net_inst.proofs.KeysOnce.{front_has, are_distinct_in_sets}
use Rattle.net_inst.proofs.Once.{all_join}
use Rattle.net_inst.proofs.SoundArcs.{AgreesOnAll, as_key, HasPrice, HasBuiltBounds, rows_are, keys_are, IsNextGoal}
use Rattle.net_inst.proofs.SoundEnds.{HasEnd, nodes_apart, arcs_apart, ends_are_nodes}
use Rattle.net_inst.proofs.SoundGoals.{next_goal, some_is, no_goal, only_goal, named_goal, IsReady, agrees_on_all, ready_after}
use Rattle.net_inst.proofs.SoundPriced.{all_priced}
use Rattle.net_inst.proofs.SoundNames.{nodes_once, arcs_once}
use Rattle.net_inst.proofs.SoundObjectives.{as_objective, objective_is}
use Rattle.net_inst.proofs.Written.{aimed_is, have_ends}
use Rattle.net_inst.proofs.Zips.{ok_then, ok_is, zip_join}

-- ---- a declaration

abbrev node_made : World → Token → Option Braces → Condition → Row → meaning.Node
node_made w n b c row = record { label = meaning.label_at n.text (indexing b) (as_key w row); env = env_of w row.scope; condition = condition c }

nodes_are : (w : World) (n : Token) (b : Option Braces) (c : Condition) (rows : List Row) → AllZip (IsNode n b c) (map (as_key w) rows) (map (node_made w n b c) rows)
nodes_are w n b c [] = tt
nodes_are w n b c (row ∷ rows) = (refl, nodes_are w n b c rows)

nodes_same : (w : World) (n : Token) (b : Option Braces) (c : Condition) (rows : List Row) → AllZip IsSameNode (map (node_at_row w n b c) rows) (map (node_made w n b c) rows)
nodes_same w n b c [] = tt
nodes_same w n b c (row ∷ rows) = (record { name = refl; indexed = indexed_is b; key = refl; condition = refl; env = refl }, nodes_same w n b c rows)

record IsStep (goal : Name) (w : World) (x : Declaration) (d new : Drawing) : Type 0 where
  nodes : List meaning.Node
  arcs : List meaning.Arc
  are_nodes : AreNodesOf (env w d) x nodes
  are_arcs : AreArcsOf goal (env w d) x arcs
  same_nodes : AllZip IsSameNode (nodes_of (env w d) x) nodes
  same_arcs : AllZip IsSameArc (arcs_of (env w d) x) arcs
  prices : AllZip (HasPrice goal) (arcs_of (env w d) x) arcs
  ended : AllByRecursion HasEnd arcs
  more : List Built
  whole : new.arcs.arcs ≡ d.arcs.arcs ++ more
  bounds : AllZip HasBuiltBounds arcs more
  known : new.known ≡ entries_after d.known x

idle : (goal : Name) (w : World) (x : Declaration) (d new : Drawing) → AreNodesOf (env w d) x [] → AreArcsOf goal (env w d) x [] → nodes_of (env w d) x ≡ [] → arcs_of (env w d) x ≡ []
    → new.arcs.arcs ≡ d.arcs.arcs → new.known ≡ entries_after d.known x → IsStep goal w x d new
idle goal w x d new a b c f g h = record {
  nodes = [];
  arcs = [];
  are_nodes = a;
  are_arcs = b;
  same_nodes = subst (λ (l : List written.WrittenNode). AllZip IsSameNode l []) (sym c) tt;
  same_arcs = subst (λ (l : List written.WrittenArc). AllZip IsSameArc l []) (sym f) tt;
  prices = subst (λ (l : List written.WrittenArc). AllZip (HasPrice goal) l []) (sym f) tt;
  ended = tt;
  more = [];
  whole = g ∙ sym (append-nil d.arcs.arcs);
  bounds = tt;
  known = h;
}

-- the phrases of the declaration agree with the goal so far
abbrev PhrasesAgree : Option ChosenObjective → Name → Declaration → Type 0
PhrasesAgree g goal (arc t n b ps e) = AgreesOnAll g goal ps
PhrasesAgree g goal _ = ⊤

step : (wanted : Option Name) (goal : Name) (w : World) → HasSets w → (x : Declaration) (d new : Drawing) → PhrasesAgree d.goal goal x → declare wanted w x d ≡ Ok new → IsStep goal w x d new
step wanted goal w sets (set t n ps z) d new h e =
    let same = sym (ok_is (known_more d) new e) in idle goal w (set t n ps z) d new refl refl refl refl (ap (λ (y : Drawing). y.arcs.arcs) same) (ap (λ (y : Drawing). y.known) same)
step wanted goal w sets (param t n b ps z) d new h e =
    let same = sym (ok_is (known_more d) new e) in idle goal w (param t n b ps z) d new refl refl refl refl (ap (λ (y : Drawing). y.arcs.arcs) same) (ap (λ (y : Drawing). y.known) same)
step wanted goal w sets (check t b m x z) d new h e =
    let same = sym (ok_is d new e) in idle goal w (check t b m x z) d new refl refl refl refl (ap (λ (y : Drawing). y.arcs.arcs) same) (ap (λ (y : Drawing). y.known) same)
step wanted goal w sets (objective t n p z) d new h e = let by = aimed_is wanted (env w d) t n p d new e in idle goal w (objective t n p z) d new refl refl refl refl (sym by.built) by.known
step wanted goal w sets (node t n b c z) d new h e =
    ok_then (with_nodes (env w d) n b c d.nodes) (λ ns. Ok (nodes_more d ns)) new e (λ ns i j.
    ok_then (indexing_in (env w d) b) (nodes_by (env w d) n c d.nodes) ns i (λ x k l.
    let same = sym (ok_is (nodes_more d ns) new j) in
    record {
      nodes = map (node_made (env w d) n b c) x.rows;
      arcs = [];
      are_nodes = (map (as_key (env w d)) x.rows, keys_are (env w d) (front_has d.known w sets) b x k, nodes_are (env w d) n b c x.rows);
      are_arcs = refl;
      same_nodes = subst (λ (o : Outcome Indexing). AllZip IsSameNode (map (node_at_row (env w d) n b c) (rows_of o)) (map (node_made (env w d) n b c) x.rows)) (sym k) (nodes_same (env w d) n b c x.rows);
      same_arcs = tt;
      ended = tt;
      prices = tt;
      more = [];
      whole = ap (λ (y : Drawing). y.arcs.arcs) same ∙ sym (append-nil d.arcs.arcs);
      bounds = tt;
      known = ap (λ (y : Drawing). y.known) same;
    }))
step wanted goal w sets (arc t n b ps z) d new h e =
    ok_then (with_arcs (arc_env d.goal d.nodes (env w d)) n b ps d.arcs) (λ xs. Ok (arcs_more d xs)) new e (λ xs i j.
    let by = with_arcs_is d.goal d.nodes (env w d) n b ps d.arcs xs i in
    let rows = rows_are goal d.goal d.nodes (env w d) (front_has d.known w sets) n b by.indexing.count by.parts ps by.indexing.rows d.arcs by.found h by.says by.are_found in
    let same = sym (ok_is (arcs_more d xs) new j) in
    let here : arcs_with (env w d) n b ps (parts_of n ps) ≡ map (arc_at_row (env w d) n b ps by.parts) by.indexing.rows =
    ap (arcs_with (env w d) n b ps) by.says ∙ ap (λ (rows : List Row). map (arc_at_row (env w d) n b ps by.parts) rows) (ap rows_of by.keys) in
    record {
      nodes = [];
      arcs = rows.arcs;
      are_nodes = refl;
      are_arcs = (map (as_key (env w d)) by.indexing.rows, keys_are (env w d) (front_has d.known w sets) b by.indexing by.keys, rows.are);
      same_nodes = tt;
      same_arcs = subst (λ (l : List written.WrittenArc). AllZip IsSameArc l rows.arcs) (sym here) rows.same;
      ended = rows.ended;
      prices = subst (λ (l : List written.WrittenArc). AllZip (HasPrice goal) l rows.arcs) (sym here) rows.prices;
      more = rows.more;
      whole = ap (λ (y : Drawing). y.arcs.arcs) same ∙ ap (λ (y : BuiltArcs). y.arcs) (sym by.is_named) ∙ rows.whole;
      bounds = rows.bounds;
      known = ap (λ (y : Drawing). y.known) same;
    })

-- ---- all declarations

record IsWalk (goal : Name) (w : World) (k : ℕ) (ds : List Declaration) (d new : Drawing) : Type 0 where
  nodes : List meaning.Node
  arcs : List meaning.Arc
  are_nodes : InOrder meaning.AreNodesOf (meant_world w) k (declarations ds) nodes
  are_arcs : InOrder (meaning.AreArcsOf goal) (meant_world w) k (declarations ds) arcs
  same_nodes : AllZip IsSameNode (in_order nodes_of w k ds) nodes
  same_arcs : AllZip IsSameArc (in_order arcs_of w k ds) arcs
  prices : AllZip (HasPrice goal) (in_order arcs_of w k ds) arcs
  ended : AllByRecursion HasEnd arcs
  more : List Built
  whole : new.arcs.arcs ≡ d.arcs.arcs ++ more
  bounds : AllZip HasBuiltBounds arcs more

same_after : (k : ℕ) (x : Declaration) → known_after k x ≡ entries_after k x
same_after k (set t n ps e) = refl
same_after k (param t n b ps e) = refl
same_after k (check t b m x e) = refl
same_after k (node t n b c e) = refl
same_after k (arc t n b ps e) = refl
same_after k (objective t n p e) = refl

joined : (goal : Name) (w : World) (x : Declaration) (xs : List Declaration) (d next new : Drawing) → IsStep goal w x d next → IsWalk goal w (entries_after d.known x) xs next new → IsWalk goal w d.known (x ∷ xs) d new
joined goal w x xs d next new one rest = record {
  nodes = one.nodes ++ rest.nodes;
  arcs = one.arcs ++ rest.arcs;
  are_nodes = (one.nodes, rest.nodes, subst (λ v. meaning.AreNodesOf v (declaration x) one.nodes) (sym (meant_taken d.known w)) one.are_nodes, rest.are_nodes, refl);
  are_arcs = (one.arcs, rest.arcs, subst (λ v. meaning.AreArcsOf goal v (declaration x) one.arcs) (sym (meant_taken d.known w)) one.are_arcs, rest.are_arcs, refl);
  same_nodes =
      subst (λ (k : ℕ). AllZip IsSameNode (nodes_of (env w d) x ++ in_order nodes_of w k xs) (one.nodes ++ rest.nodes)) (sym (same_after d.known x))
      (zip_join IsSameNode (nodes_of (env w d) x) (in_order nodes_of w (entries_after d.known x) xs) one.nodes rest.nodes one.same_nodes rest.same_nodes);
  same_arcs =
      subst (λ (k : ℕ). AllZip IsSameArc (arcs_of (env w d) x ++ in_order arcs_of w k xs) (one.arcs ++ rest.arcs)) (sym (same_after d.known x))
      (zip_join IsSameArc (arcs_of (env w d) x) (in_order arcs_of w (entries_after d.known x) xs) one.arcs rest.arcs one.same_arcs rest.same_arcs);
  ended = all_join HasEnd one.arcs rest.arcs one.ended rest.ended;
  prices =
      subst (λ (k : ℕ). AllZip (HasPrice goal) (arcs_of (env w d) x ++ in_order arcs_of w k xs) (one.arcs ++ rest.arcs)) (sym (same_after d.known x))
      (zip_join (HasPrice goal) (arcs_of (env w d) x) (in_order arcs_of w (entries_after d.known x) xs) one.arcs rest.arcs one.prices rest.prices);
  more = one.more ++ rest.more;
  whole = rest.whole ∙ ap (λ (l : List Built). l ++ rest.more) one.whole ∙ append_assoc d.arcs.arcs one.more rest.more;
  bounds = zip_join HasBuiltBounds one.arcs rest.arcs one.more rest.more one.bounds rest.bounds;
}

-- what the walk knows of the final goal
record IsAim (wanted : Option Name) (goal : Name) (new : Drawing) : Type 0 where
  requested : (m : Name) → wanted ≡ Some m → m ≡ goal
  final : ChosenObjective
  has : new.goal ≡ Some final
  named : final.name ≡ goal

-- the objectives that are declared so far
abbrev before_after : List Name → Declaration → List Name
before_after before (objective t n p e) = n.text ∷ before
before_after before (set t n ps e) = before
before_after before (param t n b ps e) = before
before_after before (check t b m x e) = before
before_after before (node t n b c e) = before
before_after before (arc t n b ps e) = before

names_after : (before : List Name) (x : Declaration) (xs : List Declaration) → NameObjectives before (x ∷ xs) → NameObjectives (before_after before x) xs
names_after before (objective t n p e) xs h = h
names_after before (set t n ps e) xs h = h
names_after before (param t n b ps e) xs h = h
names_after before (check t b m x e) xs h = h
names_after before (node t n b c e) xs h = h
names_after before (arc t n b ps e) xs h = h.1

agrees_after : (before : List Name) (goal : Name) (g : Option ChosenObjective) (x : Declaration) (xs : List Declaration) → NameObjectives before (x ∷ xs) → IsReady before goal g → PhrasesAgree g goal x
agrees_after before goal g (objective t n p e) xs h r = tt
agrees_after before goal g (set t n ps e) xs h r = tt
agrees_after before goal g (param t n b ps e) xs h r = tt
agrees_after before goal g (check t b m x e) xs h r = tt
agrees_after before goal g (node t n b c e) xs h r = tt
agrees_after before goal g (arc t n b ps e) xs h r = agrees_on_all before goal g ps r h.0

ready_next : (wanted : Option Name) (before : List Name) (goal : Name) (x : Declaration) (g h : Option ChosenObjective) → ((m : Name) → wanted ≡ Some m → m ≡ goal) → ((z : ChosenObjective) → wanted ≡ None → h ≡ Some z → z.name ≡ goal)
    → IsReady before goal g → IsNextGoal wanted x g h → IsReady (before_after before x) goal h
ready_next wanted before goal (objective t n p e) g h same last r j = ready_after wanted n before goal g h same last r j
ready_next wanted before goal (set t n ps e) g h same last r j = subst (IsReady before goal) (sym j) r
ready_next wanted before goal (param t n b ps e) g h same last r j = subst (IsReady before goal) (sym j) r
ready_next wanted before goal (check t b m x e) g h same last r j = subst (IsReady before goal) (sym j) r
ready_next wanted before goal (node t n b c e) g h same last r j = subst (IsReady before goal) (sym j) r
ready_next wanted before goal (arc t n b ps e) g h same last r j = subst (IsReady before goal) (sym j) r

walk : (wanted : Option Name) (goal : Name) (w : World) → HasSets w → (ds : List Declaration) (before : List Name) (d new : Drawing) → NameObjectives before ds → IsReady before goal d.goal → IsAim wanted goal new
    → draw wanted w ds d ≡ Ok new → IsWalk goal w d.known ds d new
walk wanted goal w sets [] before d new h r aim e = record {
  nodes = [];
  arcs = [];
  are_nodes = refl;
  are_arcs = refl;
  same_nodes = tt;
  same_arcs = tt;
  ended = tt;
  prices = tt;
  more = [];
  whole = ap (λ (y : Drawing). y.arcs.arcs) (sym (ok_is d new e)) ∙ sym (append-nil d.arcs.arcs);
  bounds = tt;
}
walk wanted goal w sets (x ∷ xs) before d new h r aim e =
    ok_then (declare wanted w x d) (draw wanted w xs) new e (λ next i j.
    let one = step wanted goal w sets x d next (agrees_after before goal d.goal x xs h r) i in
    let last : (z : ChosenObjective) → wanted ≡ None → next.goal ≡ Some z → z.name ≡ goal = (λ z q k.
    ap (λ (y : ChosenObjective). y.name) (some_is z aim.final (sym (only_goal w xs next new z k (subst (λ (o : Option Name). draw o w xs next ≡ Ok new) q j)) ∙ aim.has)) ∙ aim.named) in
    let ready = ready_next wanted before goal x d.goal next.goal aim.requested last r (next_goal wanted w x d next i) in
    let rest = walk wanted goal w sets xs (before_after before x) next new (names_after before x xs h) ready aim j in
    joined goal w x xs d next new one (subst (λ (k : ℕ). IsWalk goal w k xs next new) one.known rest))

-- ---- the law

bounds_are : (ps : Products) (a : ℕ) (all : List meaning.Arc) (xs : List Built) → AllZip HasBuiltBounds all xs → AllZip HasBounds all (with_coefficients ps a xs)
bounds_are ps a [] [] h = tt
bounds_are ps a [] (x ∷ xs) h = absurd h
bounds_are ps a (y ∷ all) [] h = absurd h
bounds_are ps a (y ∷ all) (x ∷ xs) h = (record { lower = h.0.lower; upper = h.0.upper }, bounds_are ps (suc a) all xs h.1)

-- the network of the model, and what the proofs about assignments need besides
pub record IsFound (requested : Option Name) (w : World) (ds : List Declaration) (n : Network) : Type 0 where
  pub has : HasNetwork requested w ds n
  pub objective : Objective
  pub is_chosen : chosen requested (objectives w ds) ≡ Some objective
  pub same : has.network.objective ≡ as_objective objective
  pub prices : AllZip (HasPrice objective.name) (written.arcs w ds) has.network.arcs

pub network_found : (requested : Option Name) (w : World) (ds : List Declaration) (n : Network) → HasSets w → IsNamedOnce ds → network requested w ds ≡ Ok n → IsFound requested w ds n
network_found requested w ds n sets names e =
    let f = network_is requested w ds n e in
    let named : (m : Name) → requested ≡ Some m → m ≡ f.goal.name = (λ m q.
    named_goal m w ds nothing f.drawing (λ z k. absurd (none_is z k)) (subst (λ (o : Option Name). draw o w ds nothing ≡ Ok f.drawing) q f.is_built) f.goal f.has_objective) in
    let aim : IsAim requested f.goal.name f.drawing = record { requested = named; final = f.goal; has = f.has_objective; named = refl } in
    let found = walk requested f.goal.name w sets ds [] nothing f.drawing names.priced (λ m l. absurd l) aim f.is_built in
    let aims = have_objective requested w ds n e in
    let apart = are_distinct_in_sets w ds sets (nodes_once ds names.once) (arcs_once ds names.once) in
    let goal : f.goal.name ≡ aims.0.name = ap (λ (z : Network). z.names.objective) f.whole ∙ aims.2.name in
    let has : HasNetwork requested w ds n = record {
      network = record { nodes = found.nodes; arcs = found.arcs; objective = as_objective aims.0 };
      is_network = record {
        objective = objective_is requested w ds f.drawing aims.0 names.once f.is_built aims.1;
        priced = all_priced (meant_world w) ds names.priced;
        nodes = found.are_nodes;
        arcs = subst (λ (g : Name). InOrder (meaning.AreArcsOf g) (meant_world w) 0 (declarations ds) found.arcs) goal found.are_arcs;
        ends = ends_are_nodes (written.nodes w ds) found.nodes (written.arcs w ds) found.arcs n.arcs found.same_nodes found.same_arcs (have_ends requested w ds n e apart) found.ended;
        nodes_apart = nodes_apart (written.nodes w ds) found.nodes found.same_nodes apart.nodes;
        arcs_apart = arcs_apart (written.arcs w ds) found.arcs found.same_arcs apart.arcs;
      };
      same_name = sym aims.2.name;
      same_sense = sym aims.2.sense;
      same_nodes = found.same_nodes;
      same_arcs = found.same_arcs;
      bounds = subst (AllZip HasBounds found.arcs) (ap (λ (z : Network). z.arcs) f.whole)
          (bounds_are f.drawing.arcs.form.products 0 found.arcs f.drawing.arcs.arcs (subst (AllZip HasBuiltBounds found.arcs) (sym found.whole) found.bounds));
    } in
    record {
      has = has;
      objective = aims.0;
      is_chosen = aims.1;
      same = refl;
      prices = subst (λ (g : Name). AllZip (HasPrice g) (written.arcs w ds) found.arcs) goal found.prices;
    }
  where
    none_is : (z : ChosenObjective) → no_goal ≡ Some z → ⊥
    none_is z q = cc

pub networks_are_sound : NetworksAreSound
networks_are_sound requested w ds n sets names e = (network_found requested w ds n sets names e).has
