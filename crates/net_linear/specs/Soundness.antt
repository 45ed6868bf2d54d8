-- Laws that relate the meaning of objectives and of conditions to their linear forms, which the code is proved to compute.
use Rattle.std.specs.Prelude.{◌≡◌, ◌↔◌, ℕ, false, None, Some, Ok, Option, ⊤, ℤ, pos}
use Rattle.net_base.specs.declared.diagnostic.Span.{Span}
use Rattle.net_sets.specs.Sets.{Tuple}
use Rattle.net_tree.specs.Tree.{Tree, Links, chain, net, none, link, Condition, unsaid, one, between}
use Rattle.net_expr.specs.SetValues.{HasSets}
use Rattle.net_expr.specs.Worlds.{Name, World, Scope}
use Rattle.net_meaning.specs.OfTrees.{env_with, IsSatisfied, IsValue}
use Rattle.net_meaning.specs.Laws.{IsArcFree, AreArcFree}
use Rattle.net_meaning.specs.Operators.{number}
use Rattle.net_meaning.specs.Values.{Whether}
use Rattle.net_linear.specs.declared.condition.Sides.{Sides}
use Rattle.net_linear.specs.Arcs.{Arcs, declared, is_arc, arc_at}
use Rattle.net_linear.specs.Conditions.{Holds, sides_in}
use Rattle.net_linear.specs.Forms.{Linear, form_at}
use Rattle.net_linear.specs.NetTerms.{are_terms}
use Rattle.net_linear.specs.Objectives.{objective_form}

-- g gives each arc of the table its number, and has no other names
pub record ReadsArcs (a : Arcs) (numbers : ℕ → ℤ) (g : Name → Option (Tuple → ℤ)) : Type 0 where
  pub others : (n : Name) → is_arc a n ≡ false → g n ≡ None
  pub arcs : (at : Span) (n : Name) (key : Tuple) (i : ℕ) → arc_at at n (declared a n) key ≡ Ok i → (f : Tuple → ℤ) × (g n ≡ Some f) × (f key ≡ numbers i)

-- the linear form of an objective, at any numbers of the arcs, is the value of its expression; the declared sets of the world have to be sets
abbrev pub ObjectivesAreSound : Type 0
ObjectivesAreSound = (a : Arcs) (numbers : ℕ → ℤ) (g : Name → Option (Tuple → ℤ)) (w : World) (s : Scope) (t : Tree) (f : Linear) → HasSets w → ReadsArcs a numbers g → objective_form a w s t ≡ Ok f
    → IsValue (env_with g (pos 0) w s) t (number (form_at numbers f))

-- a side of a condition names no arc, and has `net_in` and `net_out` only as terms of its sum
abbrev pub IsTermArcFree : (Name → Option (Tuple → ℤ)) → ℤ → Tree → Type 0
IsTermArcFree g y (net s t) = ⊤
IsTermArcFree g y x = IsArcFree g y x

abbrev pub AreTermsArcFree : (Name → Option (Tuple → ℤ)) → ℤ → Links → Type 0
AreTermsArcFree g y none = ⊤
AreTermsArcFree g y (link o x l) = IsTermArcFree g y x × AreTermsArcFree g y l

abbrev pub IsSideArcFree : (Name → Option (Tuple → ℤ)) → ℤ → Tree → Type 0
IsSideArcFree g y (chain n x l) = Whether (are_terms l) (IsTermArcFree g y x × AreTermsArcFree g y l) (IsArcFree g y x × AreArcFree g y l)
IsSideArcFree g y x = IsTermArcFree g y x

abbrev pub IsConditionArcFree : (Name → Option (Tuple → ℤ)) → ℤ → Condition → Type 0
IsConditionArcFree g y unsaid = ⊤
IsConditionArcFree g y (one m x o z) = IsSideArcFree g y x × IsSideArcFree g y z
IsConditionArcFree g y (between m x o z p u) = IsSideArcFree g y x × IsSideArcFree g y z × IsSideArcFree g y u

-- the condition is true of a net inflow exactly when its linear form holds for it
abbrev pub ConditionsAreSound : Type 0
ConditionsAreSound = (g : Name → Option (Tuple → ℤ)) (w : World) (s : Scope) (c : Condition) (r : Sides) (y : ℤ) → HasSets w → IsConditionArcFree g y c → sides_in w s c ≡ Ok r → IsSatisfied (env_with g (pos 0) w s) c y ↔ Holds w s c y
