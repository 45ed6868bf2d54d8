-- The value that the expression of an objective has at an assignment is what the code's form of it comes to.
use Rattle.std.specs.Prelude.{◌≡◌, ◌||◌, ℕ, Bool, true, false, List, [], ◌∷◌, map, Option, None, Some, is_some, if◌then◌else◌, Ok, ⊤, ℤ, pos}
use Rattle.std.specs.List.{IsDistinct, list_any}
use Rattle.std.specs.Str.{bytes_eq}
use Rattle.std.proofs.Common.{refl, ap, sym, ◌∙◌, subst}
use Rattle.net_base.specs.declared.diagnostic.Span.{Span}
use Rattle.net_sets.specs.Sets.{Tuple}
use Rattle.net_tree.specs.Tree.{Part, absent, part}
use Rattle.net_expr.specs.SetValues.{HasSets}
use Rattle.net_expr.specs.Worlds.{Name, World}
use Rattle.net_linear.specs.declared.key_numbers.KeyNumbers.{KeyNumbers}
use Rattle.net_linear.specs.Arcs.{declared, is_arc, arc_at}
use Rattle.net_linear.specs.Forms.{Linear}
use Rattle.net_linear.specs.Soundness.{ReadsArcs}
use Rattle.net_linear.proofs.ObjectivesSound.{objectives_are_sound}
use Rattle.net_meaning.specs.OfTrees.{env_of, env_with, IsExpressionValue, IsValue}
use Rattle.net_meaning.specs.Network.{with_arcs}
use Rattle.net_meaning.specs.Operators as values
use Rattle.net_inst.specs.declared.network_names.Declared.{Declared}
use Rattle.net_inst.specs.AsWritten.{WrittenArc, same_label, Assignment}
use Rattle.net_inst.specs.Drafts.{part_form}
use Rattle.net_inst.specs.Groups.{Numbers}
use Rattle.net_inst.specs.Readings.{Objective, name_alone, part_value}
use Rattle.net_inst.proofs.Built.{arc_labels}
use Rattle.net_inst.proofs.Labels.{NameAlike}
use Rattle.net_inst.proofs.ReadingLaws.{ReadAlike}
use Rattle.net_inst.proofs.SoundObjectives.{names_back}
use Rattle.net_inst.proofs.Valued.{by_place, said_is}

-- the name is in the list
abbrev is_listed : List Name → Name → Bool
is_listed names n = list_any (λ (m : Name). bytes_eq m n) names

-- the names in which an assignment's flows are read
abbrev flows_of : List Declared → Assignment → Name → Option (Tuple → ℤ)
flows_of ds x n = if is_listed (names_back ds []) n then Some (x n) else None

or_true : (b : Bool) → (b || true) ≡ true
or_true true = refl
or_true false = refl

or_false : (b : Bool) → (b || false) ≡ b
or_false true = refl
or_false false = refl

listed_back : (ds : List Declared) (ns : List Name) (n : Name) → is_listed (names_back ds ns) n ≡ (is_arc (map name_alone ds) n || is_listed ns n)
listed_back [] ns n = refl
listed_back (d ∷ ds) ns n = listed_back ds (d.name ∷ ns) n ∙ go (bytes_eq d.name n)
  where
    go : (b : Bool) → (is_arc (map name_alone ds) n || (b || is_listed ns n)) ≡ (is_some (if b then Some (name_alone d).1 else declared (map name_alone ds) n) || is_listed ns n)
    go true = or_true (is_arc (map name_alone ds) n)
    go false = refl

listed_is : (a : Numbers) (ds : List Declared) (n : Name) → NameAlike a (map name_alone ds) → is_listed (names_back ds []) n ≡ is_arc a n
listed_is a ds n alike = listed_back ds [] n ∙ or_false (is_arc (map name_alone ds) n) ∙ sym (alike.alike n)

present : (at : Span) (n : Name) (key : Tuple) (i : ℕ) (o : Option KeyNumbers) → arc_at at n o key ≡ Ok i → is_some o ≡ true
present at n key i None e = cc
present at n key i (Some k) e = refl

-- the flows of the arcs declared so far are those of their numbers
reads_arcs : (a : Numbers) (ds : List Declared) (all : List WrittenArc) (x : Assignment) → NameAlike a (map name_alone ds) → ReadAlike a (by_place all x) x → ReadsArcs a (by_place all x) (flows_of ds x)
reads_arcs a ds all x alike reads = record {
  others = λ n e. ap (λ (b : Bool). pick n b) (listed_is a ds n alike ∙ e);
  arcs = λ at n key i e. (x n, ap (λ (b : Bool). pick n b) (listed_is a ds n alike ∙ present at n key i (declared a n) e), sym (reads.alike at n key i e));
}
  where
    pick : Name → Bool → Option (Tuple → ℤ)
    pick n b = if b then Some (x n) else None

pub said_means : (a : Numbers) (ds : List Declared) (all : List WrittenArc) (x : Assignment) (w : World) (p : Part) (f : Linear) → HasSets w → NameAlike a (map name_alone ds) → ReadAlike a (by_place all x) x → part_form a w p ≡ Ok f
    → IsExpressionValue (with_arcs (env_of w []) (names_back ds []) x) p (part_value ds w p x)
said_means a ds all x w absent f sets alike reads e = refl
said_means a ds all x w (part m t) f sets alike reads e =
    subst (λ (n : ℤ). IsValue (env_with (flows_of ds x) (pos 0) w []) t (values.number n)) (said_is a ds (by_place all x) x w (part m t) f alike reads e)
    (objectives_are_sound a (by_place all x) (flows_of ds x) w [] t f sets (reads_arcs a ds all x alike reads) e)

-- if the declared sets before it are sets, the objective's own expression has its value at each assignment
abbrev pub IsValued : List WrittenArc → Option Objective → Type 0
IsValued all None = ⊤
IsValued all (Some o) = HasSets o.env → IsDistinct same_label (arc_labels all) → (x : Assignment) → IsExpressionValue (with_arcs (env_of o.env []) (names_back o.before []) x) o.expression (part_value o.before o.env o.expression x)
