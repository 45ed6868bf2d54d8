-- A check that the code accepts holds at each of its keys.
use Rattle.std.specs.Prelude.{◌≡◌, Bool, true, false, List, [], ◌∷◌, map, Option, None, Some, Ok}
use Rattle.std.specs.List.{AllByRecursion}
use Rattle.std.proofs.Common.{refl, ap, sym, ◌∙◌, subst}
use Rattle.net_base.specs.declared.diagnostic.Span.{Span}
use Rattle.net_base.specs.Outcomes.{and_then}
use Rattle.net_tree.specs.Spans.{span_of}
use Rattle.net_tree.specs.Tree.{Tree, Braces}
use Rattle.net_expr.specs.declared.indexing.Indexing.{Indexing}
use Rattle.net_expr.specs.declared.row.Row.{Row}
use Rattle.net_expr.specs.declared.value.Value.{Value}
use Rattle.net_expr.specs.declared.value.Value.TheVariants as found
use Rattle.net_expr.specs.Operators.{truth}
use Rattle.net_expr.specs.SetValues.{HasSets}
use Rattle.net_expr.specs.Values.{value, index}
use Rattle.net_expr.specs.Worlds.{World}
use Rattle.net_bind.specs.Binding.{judged, hold}
use Rattle.net_bind.specs.Soundness.{ChecksAreSound}
use Rattle.net_bind.proofs.RowsTaken.{then_ok, is_ok}
use Rattle.net_meaning.specs.OfTrees.{env_of, IsValue, AreIndexed}
use Rattle.net_meaning.specs.Laws.{meaning_of}
use Rattle.net_meaning.specs.Operators.{Truth}
use Rattle.net_meaning.specs.Values.{Key}
use Rattle.net_meaning.proofs.Meaning.{evaluation_is_sound, keys_are_sound}
use Rattle.net_expr.specs.Indexings.{alone, by_keys, indexing_in}

-- a key of the code as a key of the definitions
abbrev pub as_key : World → Row → Key
as_key w r = record { key = r.key; env = env_of w r.scope }

pub keys_are_indexed : (w : World) (b : Option Braces) (i : Indexing) → HasSets w → indexing_in w b ≡ Ok i → AreIndexed w b (map (as_key w) i.rows)
keys_are_indexed w None i sets e = sym (ap (λ (z : Indexing). map (as_key w) z.rows) (is_ok alone i e))
keys_are_indexed w (Some b) i sets e =
    then_ok (index w [] b) (λ k. Ok (by_keys k)) i e (λ k j l.
    subst (λ (z : Indexing). AreIndexed w (Some b) (map (as_key w) z.rows)) (is_ok (by_keys k) i l) (keys_are_sound w [] b k sets j))

judged_true : (x : Tree) (b : Bool) (u : Unit {0}) → judged x b ≡ Ok u → b ≡ true
judged_true x true u e = refl
judged_true x false u e = cc

truth_is : (at : Span) (v : Value) (b : Bool) → truth at v ≡ Ok b → v ≡ found.Truth b
truth_is at (found.One m) b e = cc
truth_is at (found.Several t) b e = cc
truth_is at (found.Many d ts) b e = cc
truth_is at (found.Truth c) b e = ap found.Truth (is_ok c b e)

all_hold : (w : World) → HasSets w → (x : Tree) (rows : List Row) (u : Unit {0}) → hold w x rows ≡ Ok u → AllByRecursion (λ (k : Key). IsValue k.env x (Truth true)) (map (as_key w) rows)
all_hold w sets x [] u e = tt
all_hold w sets x (r ∷ rows) u e =
    then_ok (and_then (and_then (value w r.scope x) (truth (span_of x))) (judged x)) (λ v. hold w x rows) u e (λ v i k.
    then_ok (and_then (value w r.scope x) (truth (span_of x))) (judged x) v i (λ b j l.
    then_ok (value w r.scope x) (truth (span_of x)) b j (λ y f g.
    let is : y ≡ found.Truth true = truth_is (span_of x) y b g ∙ ap found.Truth (judged_true x b v l) in
    (subst (λ z. IsValue (env_of w r.scope) x (meaning_of z)) is (evaluation_is_sound w r.scope x y sets f), all_hold w sets x rows u k))))

pub checks_are_sound : ChecksAreSound
checks_are_sound w b x sets e = then_ok (indexing_in w b) (λ k. hold w x k.rows) tt e (λ k i h. (map (as_key w) k.rows, keys_are_indexed w b k sets i, all_hold w sets x k.rows tt h))
