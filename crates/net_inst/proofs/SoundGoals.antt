-- The objective that the code has chosen so far, from declaration to declaration.
use Rattle.std.specs.Prelude.{◌≡◌, true, false, List, [], ◌∷◌, Option, None, Some, Ok}
use Rattle.std.specs.List.{AllByRecursion}
use Rattle.std.specs.Str.{bytes_eq}
use Rattle.std.proofs.Common.{refl, ap, sym, ◌∙◌, subst, inl, inr}
use Rattle.std.proofs.lemmas.Slice.Eq.{bytes_eq-Decides}
use Rattle.net_lex.specs.declared.token.Token.{Token}
use Rattle.net_tree.specs.Tree.{Phrase, Body, plain, valued, priced, Declaration, set, param, check, node, arc, objective}
use Rattle.net_expr.specs.Worlds.{Name, World}
use Rattle.net_inst.specs.declared.draft.ChosenObjective.{ChosenObjective}
use Rattle.net_inst.specs.Arcs.{with_arcs, arc_env}
use Rattle.net_inst.specs.Drafts.{Drawing, env, known_more, nodes_more, arcs_more, declare, draw}
use Rattle.net_inst.specs.Nodes.{with_nodes}
use Rattle.net_inst.specs.Soundness.{IsListed, NamesObjective}
use Rattle.net_inst.proofs.SoundArcs.{AgreesOn, AgreesOnAll, IsGoalAfter, IsNextGoal, goal_after}
use Rattle.net_inst.proofs.Zips.{ok_then, ok_is}

pub next_goal : (wanted : Option Name) (w : World) (x : Declaration) (d new : Drawing) → declare wanted w x d ≡ Ok new → IsNextGoal wanted x d.goal new.goal
next_goal wanted w (set t n ps z) d new e = ap (λ (y : Drawing). y.goal) (sym (ok_is (known_more d) new e))
next_goal wanted w (param t n b ps z) d new e = ap (λ (y : Drawing). y.goal) (sym (ok_is (known_more d) new e))
next_goal wanted w (check t b m x z) d new e = ap (λ (y : Drawing). y.goal) (sym (ok_is d new e))
next_goal wanted w (node t n b c z) d new e =
    ok_then (with_nodes (env w d) n b c d.nodes) (λ ns. Ok (nodes_more d ns)) new e (λ ns i j. ap (λ (y : Drawing). y.goal) (sym (ok_is (nodes_more d ns) new j)))
next_goal wanted w (arc t n b ps z) d new e =
    ok_then (with_arcs (arc_env d.goal d.nodes (env w d)) n b ps d.arcs) (λ xs. Ok (arcs_more d xs)) new e (λ xs i j. ap (λ (y : Drawing). y.goal) (sym (ok_is (arcs_more d xs) new j)))
next_goal wanted w (objective t n p z) d new e = goal_after wanted (env w d) t n p d new e

pub some_is : {A : Type 0} (a b : A) → Some a ≡ Some b → a ≡ b
some_is a b e = cc

abbrev pub no_goal : Option ChosenObjective
no_goal = None

-- the only objective stays the goal
pub goal_stays : (x : Declaration) (g h : Option ChosenObjective) (z : ChosenObjective) → g ≡ Some z → IsNextGoal None x g h → h ≡ Some z
goal_stays (objective t n p e) g h z i (none, y, j, f) = absurd (differ (sym none ∙ i))
  where
    differ : no_goal ≡ Some z → ⊥
    differ q = cc
goal_stays (set t n ps e) g h z i j = j ∙ i
goal_stays (param t n b ps e) g h z i j = j ∙ i
goal_stays (check t b m x e) g h z i j = j ∙ i
goal_stays (node t n b c e) g h z i j = j ∙ i
goal_stays (arc t n b ps e) g h z i j = j ∙ i

pub only_goal : (w : World) (ds : List Declaration) (d new : Drawing) (z : ChosenObjective) → d.goal ≡ Some z → draw None w ds d ≡ Ok new → new.goal ≡ Some z
only_goal w [] d new z h e = ap (λ (y : Drawing). y.goal) (sym (ok_is d new e)) ∙ h
only_goal w (x ∷ xs) d new z h e = ok_then (declare None w x d) (draw None w xs) new e (λ next i j. only_goal w xs next new z (goal_stays x d.goal next.goal z h (next_goal None w x d next i)) j)

pub bytes_same : (a b : Name) → bytes_eq a b ≡ true → a ≡ b
bytes_same a b e = (bytes_eq-Decides a b).0 e

-- a goal has the requested name
abbrev HasName : Name → Option ChosenObjective → Type 0
HasName m g = (z : ChosenObjective) → g ≡ Some z → m ≡ z.name

name_stays : (m : Name) (x : Declaration) (g h : Option ChosenObjective) → HasName m g → IsNextGoal (Some m) x g h → HasName m h
name_stays m (objective t n p e) g h i (inl (same, z, j, f)) y k = bytes_same m n.text same ∙ sym f ∙ ap (λ (q : ChosenObjective). q.name) (some_is z y (sym j ∙ k))
name_stays m (objective t n p e) g h i (inr (other, j)) y k = i y (sym j ∙ k)
name_stays m (set t n ps e) g h i j y k = i y (sym j ∙ k)
name_stays m (param t n b ps e) g h i j y k = i y (sym j ∙ k)
name_stays m (check t b c x e) g h i j y k = i y (sym j ∙ k)
name_stays m (node t n b c e) g h i j y k = i y (sym j ∙ k)
name_stays m (arc t n b ps e) g h i j y k = i y (sym j ∙ k)

pub named_goal : (m : Name) (w : World) (ds : List Declaration) (d new : Drawing) → HasName m d.goal → draw (Some m) w ds d ≡ Ok new → HasName m new.goal
named_goal m w [] d new h e = subst (λ (y : Drawing). HasName m y.goal) (ok_is d new e) h
named_goal m w (x ∷ xs) d new h e = ok_then (declare (Some m) w x d) (draw (Some m) w xs) new e (λ next i j. named_goal m w xs next new (name_stays m x d.goal next.goal h (next_goal (Some m) w x d next i)) j)

-- the goal so far is the final one, or no objective so far has its name
abbrev pub IsReady : List Name → Name → Option ChosenObjective → Type 0
IsReady before goal None = (m : Name) → IsListed before m → bytes_eq goal m ≡ false
IsReady before goal (Some g) = g.name ≡ goal

agrees_on : (before : List Name) (goal : Name) (g : Option ChosenObjective) (b : Body) → IsReady before goal g → NamesObjective before b → AgreesOn g goal b
agrees_on before goal None (priced n x) r l = r n.text l
agrees_on before goal (Some g) (priced n x) r l = ap (λ (k : Name). bytes_eq k n.text) (sym r)
agrees_on before goal g plain r l = tt
agrees_on before goal g (valued x) r l = tt

pub agrees_on_all : (before : List Name) (goal : Name) (g : Option ChosenObjective) (ps : List Phrase) → IsReady before goal g → AllByRecursion (λ (p : Phrase). NamesObjective before p.body) ps → AgreesOnAll g goal ps
agrees_on_all before goal g [] r l = tt
agrees_on_all before goal g (p ∷ ps) r l = (agrees_on before goal g p.body r l.0, agrees_on_all before goal g ps r l.1)

pub ready_after : (wanted : Option Name) (n : Token) (before : List Name) (goal : Name) (g h : Option ChosenObjective) → ((m : Name) → wanted ≡ Some m → m ≡ goal) → ((z : ChosenObjective) → wanted ≡ None → h ≡ Some z → z.name ≡ goal)
    → IsReady before goal g → IsGoalAfter wanted n g h → IsReady (n.text ∷ before) goal h
ready_after (Some m) n before goal g h same last r (inl (t, z, e, f)) = subst (IsReady (n.text ∷ before) goal) (sym e) (f ∙ sym (bytes_same m n.text t) ∙ same m refl)
ready_after (Some m) n before goal g h same last r (inr (t, e)) = subst (IsReady (n.text ∷ before) goal) (sym e) (go g r)
  where
    none : ((m : Name) → IsListed before m → bytes_eq goal m ≡ false) → (k : Name) → IsListed (n.text ∷ before) k → bytes_eq goal k ≡ false
    none r k (inl q) = subst (λ (k : Name). bytes_eq goal k ≡ false) q (subst (λ (j : Name). bytes_eq j n.text ≡ false) (same m refl) t)
    none r k (inr q) = r k q

    go : (g : Option ChosenObjective) → IsReady before goal g → IsReady (n.text ∷ before) goal g
    go None r = none r
    go (Some z) r = r
ready_after None n before goal g h same last r (q, z, e, f) = subst (IsReady (n.text ∷ before) goal) (sym e) (last z refl e)
