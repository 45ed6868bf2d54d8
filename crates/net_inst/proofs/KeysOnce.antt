-- No declaration has a key twice, where the declared sets are sets.
use Rattle.std.specs.Prelude.{◌≡◌, ℕ, zero, suc, Bool, true, false, List, [], ◌∷◌, take, Option, None, Some, if◌then◌else◌, Ok, Err}
use Rattle.std.specs.List.{IsDistinct}
use Rattle.std.specs.Str.{bytes_eq}
use Rattle.std.proofs.Common.{refl}
use Rattle.std.proofs.lemmas.Map.Keys.{IsDistinct-cons}
use Rattle.net_sets.specs.Sets.{same_tuple}
use Rattle.net_tree.specs.Tree.{Braces, Declaration, set, param, check, node, arc, objective}
use Rattle.net_expr.specs.declared.row.Keys.{Keys}
use Rattle.net_expr.specs.declared.world.Entry.{Entry}
use Rattle.net_expr.specs.declared.world.Entry.TheVariants.{Set}
use Rattle.net_expr.specs.SetValues.{HasSets}
use Rattle.net_expr.specs.Values.{index}
use Rattle.net_expr.specs.Worlds.{Name, World, entry_of}
use Rattle.net_expr.proofs.KeysOnce.{have_distinct_keys}
use Rattle.net_expr.proofs.SetsGiven.{keeps_sets}
use Rattle.net_inst.specs.AsWritten.{rows_of, known_after}
use Rattle.net_expr.specs.Indexings.{by_keys, indexing_in}
use Rattle.net_expr.specs.Rows.{keys_of}
use Rattle.net_inst.specs.Laws.{keys_by, HaveKeysOnce, AreDistinctInSets}
use Rattle.net_base.specs.Outcomes.{and_then, Outcome}
use Rattle.net_inst.proofs.Once.{are_distinct_as_declared}

none_tuples : IsDistinct same_tuple []
unfolding IsDistinct
none_tuples = tt

-- what is declared first is so in the whole world
first_is : (k : ℕ) (w : World) (n : Name) (e : Entry) → entry_of (take k w) n ≡ Some e → entry_of w n ≡ Some e
first_is zero w n e h = absurd (let i = h in cc)
first_is (suc k) [] n e h = h
first_is (suc k) (x ∷ w) n e h = go (bytes_eq x.0 n) h (first_is k w n e)
  where
    go : (b : Bool) → (if b then Some x.1 else entry_of (take k w) n) ≡ Some e → (entry_of (take k w) n ≡ Some e → entry_of w n ≡ Some e) → (if b then Some x.1 else entry_of w n) ≡ Some e
    go true i more = i
    go false i more = more i

pub front_has : (k : ℕ) (w : World) → HasSets w → HasSets (take k w)
front_has k w h = λ n d ts e. h n d ts (first_is k w n (Set d ts) e)

one_key : IsDistinct same_tuple ([] ∷ [])
one_key = IsDistinct-cons same_tuple [] [] tt none_tuples

indexed_once : (w : World) (b : Option Braces) → HasSets w → IsDistinct same_tuple (keys_of (rows_of (indexing_in w b)))
indexed_once w None h = one_key
indexed_once w (Some b) h = go (index w [] b) refl
  where
    go : (o : Outcome Keys) → index w [] b ≡ o → IsDistinct same_tuple (keys_of (rows_of (and_then o (λ k. Ok (by_keys k)))))
    go (Ok k) e = have_distinct_keys w [] b k (keeps_sets w h) e
    go (Err r) e = none_tuples

keys_once : (w : World) → HasSets w → (d : Declaration) → IsDistinct same_tuple (keys_by w d)
keys_once w h (set t n ps e) = none_tuples
keys_once w h (param t n b ps e) = none_tuples
keys_once w h (check t b m x e) = none_tuples
keys_once w h (node t n b c e) = indexed_once w b h
keys_once w h (arc t n b ps e) = indexed_once w b h
keys_once w h (objective t n p e) = none_tuples

all_once : (w : World) → HasSets w → (k : ℕ) (ds : List Declaration) → HaveKeysOnce w k ds
all_once w h k [] = tt
all_once w h k (d ∷ ds) = (keys_once (take k w) (front_has k w h) d, all_once w h (known_after k d) ds)

pub are_distinct_in_sets : AreDistinctInSets
are_distinct_in_sets w ds h nodes arcs = are_distinct_as_declared w ds (record { nodes = nodes; arcs = arcs; keys = all_once w h 0 ds })
