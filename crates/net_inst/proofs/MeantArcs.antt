-- If the arcs of the declarations are meant, the bounds of none of them cross.
use Rattle.std.specs.Prelude.{◌≡◌, ℕ, true, List, [], ◌∷◌, map, Option, Ok, ℤ, ◌≤ℤ◌, int_lt}
use Rattle.std.specs.List.{AllByRecursion, AllZip}
use Rattle.std.proofs.Common.{sym, subst, ap, arith}
use Rattle.std.proofs.lemmas.Int.{ints}
use Rattle.net_lex.specs.declared.token.Token.{Token}
use Rattle.net_tree.specs.Erasure.{expression, indexing, declaration, declarations}
use Rattle.net_tree.specs.PhraseValues.{phrase_value}
use Rattle.net_tree.specs.Phrases.{is_at_least, is_at_most, is_from, is_to}
use Rattle.net_tree.specs.Tree.{Braces, Phrase, Declaration, set, param, check, node, arc, objective}
use Rattle.net_expr.specs.declared.indexing.Indexing.{Indexing}
use Rattle.net_expr.specs.declared.row.Row.{Row}
use Rattle.net_expr.specs.Indexings.{indexing_in}
use Rattle.net_expr.specs.SetValues.{HasSets}
use Rattle.net_expr.specs.Worlds.{Name, World}
use Rattle.net_meaning.specs.Network as meaning
use Rattle.net_meaning.specs.Network.{Arc, InOrder}
use Rattle.net_meaning.specs.OfTrees.{meant_world, env_of, IsValue, IsArc, AreArcsOf, entries_after}
use Rattle.net_meaning.specs.Operators as values
use Rattle.net_meaning.specs.Values.{Key}
use Rattle.net_meaning.proofs.Erased.{phrase_some}
use Rattle.net_meaning.proofs.Meant.{meant_taken}
use Rattle.net_meaning.proofs.Unique.{values_are_unique, number_same}
use Rattle.net_meaning.proofs.UniqueWorlds.{indexed_unique}
use Rattle.net_inst.specs.Arcs.{with_arcs, arc_env}
use Rattle.net_inst.specs.Drafts.{Drawing, env, known_more, nodes_more, arcs_more, declare}
use Rattle.net_inst.specs.Nodes.{with_nodes}
use Rattle.net_inst.specs.Numbers.{number}
use Rattle.net_inst.specs.Phrases.{Parts, parts_of}
use Rattle.net_inst.proofs.KeysOnce.{front_has}
use Rattle.net_inst.proofs.SoundArcs.{AreParts, parts_are, as_key, number_is, keys_are}
use Rattle.net_inst.proofs.Written.{aimed_is}
use Rattle.net_inst.proofs.Zips.{ok_then, ok_is}

-- ---- an arc at a key

-- the bounds that are meant do not cross
pub record AreOrdered (w : World) (p : Parts) (row : Row) : Type 0 where
  low : ℤ
  high : ℤ
  is_low : IsValue (env_of w row.scope) p.lower (values.number low)
  is_high : IsValue (env_of w row.scope) p.upper (values.number high)
  ordered : low ≤ℤ high

not_less : (l u : ℤ) → l ≤ℤ u → int_lt u l ≡ true → ⊥
not_less l u h e = omega (arith, ints, h, e)

-- so the computed ones do not either
pub uncrossed : (w : World) → HasSets w → (p : Parts) (row : Row) (l u : ℤ) → AreOrdered w p row → number w row.scope p.lower ≡ Ok l → number w row.scope p.upper ≡ Ok u → int_lt u l ≡ true → ⊥
uncrossed w sets p row l u h low high =
    let same_low = number_same h.low l (values_are_unique (env_of w row.scope) (expression p.lower) (values.number h.low) (values.number l) h.is_low (number_is w sets row.scope p.lower l low)) in
    let same_high = number_same h.high u (values_are_unique (env_of w row.scope) (expression p.upper) (values.number h.high) (values.number u) h.is_high (number_is w sets row.scope p.upper u high)) in
    not_less l u (subst (λ (n : ℤ). l ≤ℤ n) same_high (subst (λ (n : ℤ). n ≤ℤ h.high) same_low h.ordered))

-- ---- a declaration

module _ (goal : Name) (w : World) (n : Token) (b : Option Braces) (ps : List Phrase) (p : Parts) (parts : parts_of n ps ≡ Ok p) where
  are : AreParts (phrase_value is_at_least ps) (phrase_value is_at_most ps) (phrase_value is_from ps) (phrase_value is_to ps) p
  are = parts_are n (phrase_value is_at_least ps) (phrase_value is_at_most ps) (phrase_value is_from ps) (phrase_value is_to ps) p parts

  are_ordered : (row : Row) (a : Arc) → IsArc goal n b ps (as_key w row) a → AreOrdered w p row
  are_ordered row a h = record {
    low = a.lower;
    high = a.upper;
    is_low = subst (λ o. meaning.HasNumber (env_of w row.scope) o a.lower) (phrase_some is_at_least ps p.lower are.lower) h.lower;
    is_high = subst (λ o. meaning.HasNumber (env_of w row.scope) o a.upper) (phrase_some is_at_most ps p.upper are.upper) h.upper;
    ordered = h.ordered;
  }

  all_ordered : (rows : List Row) (all : List Arc) → AllZip (IsArc goal n b ps) (map (as_key w) rows) all → AllByRecursion (AreOrdered w p) rows
  all_ordered [] all h = tt
  all_ordered (row ∷ rows) [] h = absurd h
  all_ordered (row ∷ rows) (a ∷ all) h = (are_ordered row a h.0, all_ordered rows all h.1)

  rows_ordered : HasSets w → (t e : Token) (i : Indexing) (all : List Arc) → indexing_in w b ≡ Ok i → AreArcsOf goal w (arc t n b ps e) all → AllByRecursion (AreOrdered w p) i.rows
  rows_ordered sets t e i all is (ks, keys, h) =
      all_ordered i.rows all (subst (λ (js : List Key). AllZip (IsArc goal n b ps) js all) (indexed_unique (meant_world w) (indexing b) ks (map (as_key w) i.rows) keys (keys_are w sets b i is)) h)

-- ---- all declarations

-- the arcs of these declarations, of which the first k sets and parameters are declared before them
pub record ArcsAreMeant (w : World) (k : ℕ) (ds : List Declaration) : Type 0 where
  pub goal : Name
  pub arcs : List Arc
  pub in_order : InOrder (meaning.AreArcsOf goal) (meant_world w) k (declarations ds) arcs

known_next : (wanted : Option Name) (w : World) (x : Declaration) (d new : Drawing) → declare wanted w x d ≡ Ok new → new.known ≡ entries_after d.known x
known_next wanted w (set t n ps z) d new e = ap (λ (y : Drawing). y.known) (sym (ok_is (known_more d) new e))
known_next wanted w (param t n b ps z) d new e = ap (λ (y : Drawing). y.known) (sym (ok_is (known_more d) new e))
known_next wanted w (check t b m x z) d new e = ap (λ (y : Drawing). y.known) (sym (ok_is d new e))
known_next wanted w (node t n b c z) d new e =
    ok_then (with_nodes (env w d) n b c d.nodes) (λ ns. Ok (nodes_more d ns)) new e (λ ns i j. ap (λ (y : Drawing). y.known) (sym (ok_is (nodes_more d ns) new j)))
known_next wanted w (arc t n b ps z) d new e =
    ok_then (with_arcs (arc_env d.goal d.nodes (env w d)) n b ps d.arcs) (λ xs. Ok (arcs_more d xs)) new e (λ xs i j. ap (λ (y : Drawing). y.known) (sym (ok_is (arcs_more d xs) new j)))
known_next wanted w (objective t n p z) d new e = (aimed_is wanted (env w d) t n p d new e).known

pub arcs_then : (wanted : Option Name) (w : World) (x : Declaration) (ds : List Declaration) (d new : Drawing) → declare wanted w x d ≡ Ok new → ArcsAreMeant w d.known (x ∷ ds) → ArcsAreMeant w new.known ds
arcs_then wanted w x ds d new e h =
    let (these, others, is, are, whole) = h.in_order in
    subst (λ k. ArcsAreMeant w k ds) (sym (known_next wanted w x d new e)) (record { goal = h.goal; arcs = others; in_order = are })

pub meant_rows : (w : World) → HasSets w → (d : Drawing) (t n : Token) (b : Option Braces) (ps : List Phrase) (e : Token) (ds : List Declaration) (p : Parts) (i : Indexing) → ArcsAreMeant w d.known (arc t n b ps e ∷ ds) → parts_of n ps ≡ Ok p
    → indexing_in (env w d) b ≡ Ok i → AllByRecursion (AreOrdered (env w d) p) i.rows
meant_rows w sets d t n b ps e ds p i h parts is =
    let (these, others, meant, are, whole) = h.in_order in
    rows_ordered h.goal (env w d) n b ps p parts (front_has d.known w sets) t e i these is
    (subst (λ v. meaning.AreArcsOf h.goal v (declaration (arc t n b ps e)) these) (meant_taken d.known w) meant)
