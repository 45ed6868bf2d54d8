-- The objective that the code chooses is the only eligible one.
use Rattle.std.specs.Prelude.{◌≡◌, ◌+◌, ℕ, Bool, true, false, cond, List, [], ◌∷◌, ◌++◌, map, take, filter, Option, None, Some, is_some, if◌then◌else◌, Ok, ⊤}
use Rattle.std.specs.List.{AllByRecursion, IsDistinct}
use Rattle.std.specs.Str.{bytes_eq}
use Rattle.std.proofs.Common.{refl, ap, sym, ◌∙◌, subst, append-nil}
use Rattle.net_tree.specs.Erasure.{clause}
use Rattle.net_tree.specs.Operations.{is_minimize}
use Rattle.net_tree.specs.Tree.{Declaration, set, param, check, node, arc, objective}
use Rattle.net_expr.specs.Worlds.{Name, World}
use Rattle.net_meaning.specs.OfTrees.{meant_world, objectives as objectives_in, IsObjective}
use Rattle.net_meaning.specs.Network as meaning
use Rattle.net_meaning.specs.Network.{is_eligible}
use Rattle.net_meaning.specs.Values as values
use Rattle.net_meaning.proofs.Meant.{meant_taken}
use Rattle.net_inst.specs.declared.draft.ChosenObjective.{ChosenObjective}
use Rattle.net_inst.specs.declared.network_names.Declared.{Declared}
use Rattle.net_inst.specs.AsWritten.{WrittenArc, in_order, arcs_of, known_after, arc_declared}
use Rattle.net_inst.specs.Drafts.{Drawing, nothing, sense_of, declare, draw}
use Rattle.net_inst.specs.Readings.{Objective, objective_of, objectives_from, objectives, or_else, chosen}
use Rattle.net_inst.specs.Soundness.{names_in}
use Rattle.net_inst.proofs.SoundArcs.{IsNextGoal}
use Rattle.net_inst.proofs.SoundGoals.{next_goal, some_is, no_goal, goal_stays, bytes_same}
use Rattle.net_inst.proofs.SoundNames.{goal_names, objectives_once}
use Rattle.net_inst.proofs.Zips.{ok_then}

-- ---- objectives as written

-- the names, the last one first
abbrev pub names_back : List Declared → List Name → List Name
names_back [] ns = ns
names_back (d ∷ ds) ns = names_back ds (d.name ∷ ns)

-- an objective as written, in the words of the meaning
abbrev pub as_objective : Objective → meaning.Objective
as_objective o = record { sense = o.sense; name = o.name; env = meant_world o.env; arcs = names_back o.before []; expression = clause o.expression }

back_last : (ds : List Declared) (d : Declared) (ns : List Name) → names_back (ds ++ d ∷ []) ns ≡ d.name ∷ names_back ds ns
back_last [] d ns = refl
back_last (x ∷ ds) d ns = back_last ds d (x.name ∷ ns)

same_objectives : (before : List Declared) (w : World) (k : ℕ) (ds : List Declaration) → objectives_in w k (names_back before []) ds ≡ map as_objective (objectives_from before w k ds)
unfolding sense_of is_minimize
same_objectives before w k [] = refl
same_objectives before w k (set t n ps e ∷ ds) = same_objectives before w (k + 1) ds ∙ ap (λ (b : List Declared). map as_objective (objectives_from b w (k + 1) ds)) (sym (append-nil before))
same_objectives before w k (param t n b ps e ∷ ds) = same_objectives before w (k + 1) ds ∙ ap (λ (c : List Declared). map as_objective (objectives_from c w (k + 1) ds)) (sym (append-nil before))
same_objectives before w k (check t b m x e ∷ ds) = same_objectives before w k ds ∙ ap (λ (c : List Declared). map as_objective (objectives_from c w k ds)) (sym (append-nil before))
same_objectives before w k (node t n b c e ∷ ds) = same_objectives before w k ds ∙ ap (λ (q : List Declared). map as_objective (objectives_from q w k ds)) (sym (append-nil before))
same_objectives before w k (arc t n b ps e ∷ ds) = ap (λ (ns : List Name). objectives_in w k ns ds) (sym (back_last before one [])) ∙ same_objectives (before ++ one ∷ []) w k ds
  where
    one : Declared
    one = record { name = n.text; indexed = is_some b }
same_objectives before w k (objective t n p e ∷ ds) =
    ap (λ (v : values.World). (record { sense = sense_of t; name = n.text; env = v; arcs = names_back before []; expression = clause p }) ∷ objectives_in w k (names_back before []) ds) (meant_taken k w)
    ∙ ap (λ (os : List meaning.Objective). as_objective here ∷ os) (same_objectives before w k ds ∙ ap (λ (b : List Declared). map as_objective (objectives_from b w k ds)) (sym (append-nil before)))
  where
    here : Objective
    here = record { sense = sense_of t; name = n.text; env = take k w; expression = p; before = before; behind = in_order arcs_of w k ds }

-- ---- a requested objective

none_eligible : (m : Name) (os : List Objective) → AllByRecursion (λ (k : Name). bytes_eq m k ≡ false) (goal_names os) → filter (is_eligible (Some m)) (map as_objective os) ≡ []
none_eligible m [] h = refl
none_eligible m (o ∷ os) h =
    ap (λ (b : Bool). cond b (as_objective o ∷ filter (is_eligible (Some m)) (map as_objective os)) (filter (is_eligible (Some m)) (map as_objective os))) h.0 ∙ none_eligible m os h.1

abbrev none_there : Option Objective
none_there = None

none_chosen : (m : Name) (os : List Objective) → AllByRecursion (λ (k : Name). bytes_eq m k ≡ false) (goal_names os) → chosen (Some m) os ≡ None
none_chosen m [] h = refl
none_chosen m (o ∷ os) h = ap (λ (b : Bool). or_else (chosen (Some m) os) (if b then Some o else None)) h.0 ∙ ap (λ (c : Option Objective). or_else c None) (none_chosen m os h.1)

only_named : (m : Name) (os : List Objective) (p : Objective) → IsDistinct bytes_eq (goal_names os) → chosen (Some m) os ≡ Some p → filter (is_eligible (Some m)) (map as_objective os) ≡ as_objective p ∷ []
unfolding IsDistinct
only_named m [] p h e = absurd (let q = e in cc)
only_named m (o ∷ os) p h e = go (bytes_eq m o.name) refl (chosen (Some m) os) refl e (only_named m os p h.1)
  where
    rest : List meaning.Objective
    rest = filter (is_eligible (Some m)) (map as_objective os)

    without : (c : Option Objective) → or_else c None ≡ Some p → c ≡ Some p
    without None k = k
    without (Some q) k = k

    go : (b : Bool) → bytes_eq m o.name ≡ b → (c : Option Objective) → chosen (Some m) os ≡ c → or_else c (if b then Some o else None) ≡ Some p → (chosen (Some m) os ≡ Some p → rest ≡ as_objective p ∷ [])
        → cond b (as_objective o ∷ rest) rest ≡ as_objective p ∷ []
    go false i c j k more = more (j ∙ without c k)
    go true i c j k more =
        let others = subst (λ (z : Name). AllByRecursion (λ (y : Name). bytes_eq z y ≡ false) (goal_names os)) (sym (bytes_same m o.name i)) h.0 in
        let none : c ≡ None = sym j ∙ none_chosen m os others in
        let same : o ≡ p = some_is o p (ap (λ (q : Option Objective). or_else q (Some o)) (sym none) ∙ k) in
        ap (λ (r : List meaning.Objective). as_objective o ∷ r) (none_eligible m os others) ∙ ap (λ (q : Objective). as_objective q ∷ []) same

-- ---- no requested objective

abbrev AtMostOne : List Objective → Type 0
AtMostOne [] = ⊤
AtMostOne (o ∷ []) = ⊤
AtMostOne (o ∷ p ∷ os) = ⊥

only_one : (os : List Objective) (p : Objective) → AtMostOne os → chosen None os ≡ Some p → filter (is_eligible None) (map as_objective os) ≡ as_objective p ∷ []
only_one [] p h e = absurd (let q = e in cc)
only_one (o ∷ []) p h e = ap (λ (q : Objective). as_objective q ∷ []) (some_is o p e)
only_one (o ∷ q ∷ os) p h e = absurd h

nothing_here : (before : List Declared) (w : World) (x : Declaration) (later : List WrittenArc) (g h : Option ChosenObjective) (z : ChosenObjective) → g ≡ Some z → IsNextGoal None x g h → objective_of before w x later ≡ []
nothing_here before w (objective t n p e) later g h z i (none, y, j, f) = absurd (differ (sym none ∙ i))
  where
    differ : no_goal ≡ Some z → ⊥
    differ q = cc
nothing_here before w (set t n ps e) later g h z i j = refl
nothing_here before w (param t n b ps e) later g h z i j = refl
nothing_here before w (check t b m x e) later g h z i j = refl
nothing_here before w (node t n b c e) later g h z i j = refl
nothing_here before w (arc t n b ps e) later g h z i j = refl

none_later : (before : List Declared) (w : World) (k : ℕ) (ds : List Declaration) (d new : Drawing) (z : ChosenObjective) → d.goal ≡ Some z → draw None w ds d ≡ Ok new → objectives_from before w k ds ≡ []
none_later before w k [] d new z h e = refl
none_later before w k (x ∷ xs) d new z h e =
    ok_then (declare None w x d) (draw None w xs) new e (λ next i j.
    let goes = next_goal None w x d next i in
    let here = nothing_here before (take k w) x (in_order arcs_of w (known_after k x) xs) d.goal next.goal z h goes in
    ap (λ (os : List Objective). os ++ objectives_from (before ++ arc_declared x) w (known_after k x) xs) here
    ∙ none_later (before ++ arc_declared x) w (known_after k x) xs next new z (goal_stays x d.goal next.goal z h goes) j)

one_more : (before : List Declared) (w : World) (x : Declaration) (later : List WrittenArc) (g h : Option ChosenObjective) (os : List Objective) → IsNextGoal None x g h → AtMostOne os → ((z : ChosenObjective) → h ≡ Some z → os ≡ [])
    → AtMostOne (objective_of before w x later ++ os)
one_more before w (objective t n p e) later g h os (none, y, j, f) one after = subst (λ (l : List Objective). AtMostOne (here ∷ l)) (sym (after y j)) tt
  where
    here : Objective
    here = record { sense = sense_of t; name = n.text; env = w; expression = p; before = before; behind = later }
one_more before w (set t n ps e) later g h os j one after = one
one_more before w (param t n b ps e) later g h os j one after = one
one_more before w (check t b m x e) later g h os j one after = one
one_more before w (node t n b c e) later g h os j one after = one
one_more before w (arc t n b ps e) later g h os j one after = one

at_most_one : (before : List Declared) (w : World) (k : ℕ) (ds : List Declaration) (d new : Drawing) → draw None w ds d ≡ Ok new → AtMostOne (objectives_from before w k ds)
at_most_one before w k [] d new e = tt
at_most_one before w k (x ∷ xs) d new e =
    ok_then (declare None w x d) (draw None w xs) new e (λ next i j.
    one_more before (take k w) x (in_order arcs_of w (known_after k x) xs) d.goal next.goal (objectives_from (before ++ arc_declared x) w (known_after k x) xs) (next_goal None w x d next i)
    (at_most_one (before ++ arc_declared x) w (known_after k x) xs next new j) (λ z h. none_later (before ++ arc_declared x) w (known_after k x) xs next new z h j))

-- ---- the objective

pub objective_is : (requested : Option Name) (w : World) (ds : List Declaration) (d : Drawing) (p : Objective) → IsDistinct bytes_eq (names_in ds) → draw requested w ds nothing ≡ Ok d → chosen requested (objectives w ds) ≡ Some p → IsObjective requested w ds (as_objective p)
objective_is (Some m) w ds d p once e h = ap (filter (is_eligible (Some m))) (same_objectives [] w 0 ds) ∙ only_named m (objectives w ds) p (objectives_once w ds once) h
objective_is None w ds d p once e h = ap (filter (is_eligible None)) (same_objectives [] w 0 ds) ∙ only_one (objectives w ds) p (at_most_one [] w 0 ds nothing d e) h
