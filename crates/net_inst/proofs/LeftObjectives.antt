-- What is left of a model's objectives, from declaration to declaration, if exactly one of them is eligible.
use Rattle.std.specs.Prelude.{◌≡◌, ℕ, ◌+◌, true, false, cond, List, [], ◌∷◌, filter, take, Option, None, Some, if◌then◌else◌, Ok}
use Rattle.std.specs.Str.{bytes_eq}
use Rattle.std.proofs.Common.{refl, sym, subst, inl, inr}
use Rattle.net_lex.specs.declared.token.Token.{Token}
use Rattle.net_normal.specs.declared.instance.Sense.TheVariants.{Minimise, Maximise}
use Rattle.net_tree.specs.Erasure.{clause, declarations}
use Rattle.net_tree.specs.Operations.{is_minimize}
use Rattle.net_tree.specs.Tree.{Part, Declaration, set, param, check, node, arc, objective}
use Rattle.net_expr.specs.Worlds.{Name, World}
use Rattle.net_meaning.specs.Network.{Objective, objectives, is_eligible}
use Rattle.net_meaning.specs.Values as values
use Rattle.net_inst.specs.declared.draft.ChosenObjective.{ChosenObjective}
use Rattle.net_inst.specs.Drafts.{Drawing, declare, draw}
use Rattle.net_inst.proofs.SoundArcs.{IsGoalAfter, IsNextGoal}
use Rattle.net_inst.proofs.SoundGoals.{next_goal}
use Rattle.net_inst.proofs.Zips.{ok_then, ok_is}

-- one of these objectives is eligible; none if one is chosen already
abbrev IsLeft : Option Name → Option ChosenObjective → List Objective → Type 0
IsLeft wanted None os = (o : Objective) × (filter (is_eligible wanted) os ≡ o ∷ [])
IsLeft wanted (Some g) os = filter (is_eligible wanted) os ≡ []

-- this is so of the objectives of these declarations
pub record AreLeft (wanted : Option Name) (g : Option ChosenObjective) (ds : List Declaration) : Type 0 where
  pub world : values.World
  pub known : ℕ
  pub before : List Name
  pub left : IsLeft wanted g (objectives world known before (declarations ds))

none_left : (o p : Objective) (os : List Objective) → o ∷ os ≡ p ∷ [] → os ≡ []
none_left o p os e = cc

not_left : {P : Type 0} (o : Objective) (os : List Objective) → o ∷ os ≡ [] → P
not_left o os e = cc

module _ (wanted : Option Name) (o : Objective) (os : List Objective) where
  after_eligible : (g : Option ChosenObjective) (z : ChosenObjective) → is_eligible wanted o ≡ true → IsLeft wanted g (o ∷ os) → IsLeft wanted (Some z) os
  after_eligible None z e (p, h) = none_left o p (filter (is_eligible wanted) os) (subst (λ c. cond c (o ∷ filter (is_eligible wanted) os) (filter (is_eligible wanted) os) ≡ p ∷ []) e h)
  after_eligible (Some g) z e h = not_left o (filter (is_eligible wanted) os) (subst (λ c. cond c (o ∷ filter (is_eligible wanted) os) (filter (is_eligible wanted) os) ≡ []) e h)

  after_other : (g : Option ChosenObjective) → is_eligible wanted o ≡ false → IsLeft wanted g (o ∷ os) → IsLeft wanted g os
  after_other None e (p, h) = (p, subst (λ c. cond c (o ∷ filter (is_eligible wanted) os) (filter (is_eligible wanted) os) ≡ p ∷ []) e h)
  after_other (Some g) e h = subst (λ c. cond c (o ∷ filter (is_eligible wanted) os) (filter (is_eligible wanted) os) ≡ []) e h

abbrev as_declared : values.World → ℕ → List Name → Token → Token → Part → Objective
as_declared v k before t n p = record { sense = if is_minimize t then Minimise else Maximise; name = n.text; env = take k v; arcs = before; expression = clause p }

goal_left : (wanted : Option Name) (n : Token) (g h : Option ChosenObjective) (o : Objective) (os : List Objective) → o.name ≡ n.text → IsGoalAfter wanted n g h → IsLeft wanted g (o ∷ os) → IsLeft wanted h os
goal_left (Some m) n g h o os same (inl (chosen, z, is, named)) l =
    subst (λ q. IsLeft (Some m) q os) (sym is) (after_eligible (Some m) o os g z (subst (λ (k : Name). bytes_eq m k ≡ true) (sym same) chosen) l)
goal_left (Some m) n g h o os same (inr (other, is)) l =
    subst (λ q. IsLeft (Some m) q os) (sym is) (after_other (Some m) o os g (subst (λ (k : Name). bytes_eq m k ≡ false) (sym same) other) l)
goal_left None n g h o os same (none, z, is, named) l = subst (λ q. IsLeft None q os) (sym is) (after_eligible None o os g z refl l)

left_after : (wanted : Option Name) (x : Declaration) (g h : Option ChosenObjective) (ds : List Declaration) → IsNextGoal wanted x g h → AreLeft wanted g (x ∷ ds) → AreLeft wanted h ds
left_after wanted (set t n ps e) g h ds j l =
    record { world = l.world; known = l.known + 1; before = l.before; left = subst (λ q. IsLeft wanted q (objectives l.world (l.known + 1) l.before (declarations ds))) (sym j) l.left }
left_after wanted (param t n b ps e) g h ds j l =
    record { world = l.world; known = l.known + 1; before = l.before; left = subst (λ q. IsLeft wanted q (objectives l.world (l.known + 1) l.before (declarations ds))) (sym j) l.left }
left_after wanted (check t b m x e) g h ds j l =
    record { world = l.world; known = l.known; before = l.before; left = subst (λ q. IsLeft wanted q (objectives l.world l.known l.before (declarations ds))) (sym j) l.left }
left_after wanted (node t n b c e) g h ds j l =
    record { world = l.world; known = l.known; before = l.before; left = subst (λ q. IsLeft wanted q (objectives l.world l.known l.before (declarations ds))) (sym j) l.left }
left_after wanted (arc t n b ps e) g h ds j l =
    record { world = l.world; known = l.known; before = n.text ∷ l.before; left = subst (λ q. IsLeft wanted q (objectives l.world l.known (n.text ∷ l.before) (declarations ds))) (sym j) l.left }
left_after wanted (objective t n p e) g h ds j l = record {
  world = l.world;
  known = l.known;
  before = l.before;
  left = goal_left wanted n g h (as_declared l.world l.known l.before t n p) (objectives l.world l.known l.before (declarations ds)) refl j l.left;
}

pub left_then : (wanted : Option Name) (w : World) (x : Declaration) (ds : List Declaration) (d new : Drawing) → declare wanted w x d ≡ Ok new → AreLeft wanted d.goal (x ∷ ds) → AreLeft wanted new.goal ds
left_then wanted w x ds d new e l = left_after wanted x d.goal new.goal ds (next_goal wanted w x d new e) l

pub left_drawn : (wanted : Option Name) (w : World) (ds : List Declaration) (d new : Drawing) → draw wanted w ds d ≡ Ok new → AreLeft wanted d.goal ds → AreLeft wanted new.goal []
left_drawn wanted w [] d new e l = subst (λ (z : Drawing). AreLeft wanted z.goal []) (ok_is d new e) l
left_drawn wanted w (x ∷ xs) d new e l = ok_then (declare wanted w x d) (draw wanted w xs) new e (λ next i j. left_drawn wanted w xs next new j (left_then wanted w x xs d next i l))

-- a second objective
pub not_second : (g : ChosenObjective) (t n : Token) (p : Part) (e : Token) (ds : List Declaration) → AreLeft None (Some g) (objective t n p e ∷ ds) → ⊥
not_second g t n p e ds l = not_left (as_declared l.world l.known l.before t n p) (filter (is_eligible None) (objectives l.world l.known l.before (declarations ds))) l.left

-- no objective, or none with the requested name
pub not_missing : (wanted : Option Name) → AreLeft wanted None [] → ⊥
not_missing wanted l = let (o, e) = l.left in cc
