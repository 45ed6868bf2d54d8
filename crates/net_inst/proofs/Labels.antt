-- The labels behind the numbers of nodes and arcs.
use Rattle.std.specs.Prelude.{◌≡◌, ◌+◌, ◌≤◌, ◌<◌, ◌&&◌, ◌||◌, ℕ, zero, suc, Bool, true, false, cond, List, [], ◌∷◌, ◌++◌, length, map, slice_get, Option, None, Some, is_some, if◌then◌else◌, Ok}
use Rattle.std.specs.List.{AllZip, IsDistinct, position_from}
use Rattle.std.specs.Str.{bytes_eq}
use Rattle.std.proofs.Common.{refl, ap, sym, ◌∙◌, subst, arith, append_assoc, append-nil, ◌⊎◌, inl, inr}
use Rattle.std.proofs.lemmas.Slice.Eq.{bytes_eq-Decides}
use Rattle.net_lex.specs.declared.token.Token.{Token}
use Rattle.net_sets.specs.Operations.{union}
use Rattle.net_sets.specs.Sets.{Tuple, same_tuple, place_of}
use Rattle.net_sets.proofs.Sames.{tuple_decides}
use Rattle.net_sets.proofs.Unions.{all_last}
use Rattle.net_tree.specs.Tree.{Braces}
use Rattle.net_expr.specs.declared.row.Row.{Row}
use Rattle.net_expr.specs.Values.{index}
use Rattle.net_expr.specs.Worlds.{Name, World}
use Rattle.net_linear.specs.declared.key_numbers.KeyNumbers.{KeyNumbers}
use Rattle.net_linear.specs.Arcs.{declared, is_arc}
use Rattle.net_inst.specs.declared.node_name.Group.{Group}
use Rattle.net_expr.specs.declared.indexing.Indexing.{Indexing}
use Rattle.net_inst.specs.declared.network_names.Declared.{Declared}
use Rattle.net_inst.specs.Lists.{Key, keyed, AreInOrder}
use Rattle.net_inst.specs.AsWritten.{WrittenLabel, label_at, same_label}
use Rattle.net_inst.specs.Groups.{Numbers, unless_known, numbers_with, group_with}
use Rattle.net_expr.specs.Indexings.{alone, by_keys, indexing_in}
use Rattle.net_expr.specs.Rows.{keys_of}
use Rattle.net_inst.specs.Laws.{IsKeyOf}
use Rattle.net_inst.specs.Readings.{name_alone}
use Rattle.net_inst.proofs.Zips.{ok_then, ok_is, map_map, map_join, zip_join, zip_as, get_front, get_after, get_last, get_below, distinct_front, distinct_after, distinct_of}

abbrev pub label_of : Name → Bool → Tuple → WrittenLabel
label_of name flag key = record { name = name; indexed = flag; key = key }

-- the keys of a declared name have their labels together
pub record IsRun (labels : List WrittenLabel) (name : Name) (k : KeyNumbers) : Type 0 where
  pub before : List WrittenLabel
  pub flag : Bool
  pub keys : List Tuple
  pub after : List WrittenLabel
  pub whole : labels ≡ before ++ (map (label_of name flag) keys ++ after)
  pub first : k.first ≡ length before
  pub known : k.keys ≡ union [] keys

pub record Finds (labels : List WrittenLabel) (numbers : Numbers) : Type 0 where
  pub runs : (name : Name) (k : KeyNumbers) → declared numbers name ≡ Some k → IsRun labels name k

longer : (labels more : List WrittenLabel) (name : Name) (k : KeyNumbers) → IsRun labels name k → IsRun (labels ++ more) name k
longer labels more name k r = record {
  before = r.before;
  flag = r.flag;
  keys = r.keys;
  after = r.after ++ more;
  whole =
      ap (λ (l : List WrittenLabel). l ++ more) r.whole
      ∙ append_assoc r.before (map (label_of name r.flag) r.keys ++ r.after) more
      ∙ ap (λ (l : List WrittenLabel). r.before ++ l) (append_assoc (map (label_of name r.flag) r.keys) r.after more);
  first = r.first;
  known = r.known;
}

declared_last : (a : Numbers) (name : Name) (k : KeyNumbers) (q : Name) (j : KeyNumbers) → declared (a ++ (name, k) ∷ []) q ≡ Some j → (declared a q ≡ Some j) ⊎ ((name ≡ q) × (k ≡ j))
declared_last [] name k q j e = go (bytes_eq name q) refl e
  where
    go : (b : Bool) → bytes_eq name q ≡ b → (if b then Some k else None) ≡ Some j → (declared [] q ≡ Some j) ⊎ ((name ≡ q) × (k ≡ j))
    go true f h = inr ((bytes_eq-Decides name q).0 f, (cc))
    go false f h = inl h
declared_last (x ∷ a) name k q j e = go (bytes_eq x.0 q) e (declared_last a name k q j)
  where
    go : (b : Bool) → (if b then Some x.1 else declared (a ++ (name, k) ∷ []) q) ≡ Some j → (declared (a ++ (name, k) ∷ []) q ≡ Some j → (declared a q ≡ Some j) ⊎ ((name ≡ q) × (k ≡ j)))
        → ((if b then Some x.1 else declared a q) ≡ Some j) ⊎ ((name ≡ q) × (k ≡ j))
    go true h more = inl h
    go false h more = more h

finds_more : (labels : List WrittenLabel) (a : Numbers) (name : Name) (flag : Bool) (first : ℕ) (i : Indexing) → Finds labels a → first ≡ length labels → Finds (labels ++ map (label_of name flag) (keys_of i.rows)) (numbers_with a name first i)
finds_more labels a name flag first i finds at = record { runs = λ q k e. go q k (is_arc a name) e }
  where
    new : KeyNumbers
    new = record { count = i.count; first = first; keys = union [] (keys_of i.rows) }

    run : List WrittenLabel
    run = map (label_of name flag) (keys_of i.rows)

    one : IsRun (labels ++ run) name new
    one = record {
      before = labels;
      flag = flag;
      keys = keys_of i.rows;
      after = [];
      whole = ap (λ (l : List WrittenLabel). labels ++ l) (sym (append-nil run));
      first = at;
      known = refl;
    }

    either : (q : Name) (k : KeyNumbers) → (declared a q ≡ Some k) ⊎ ((name ≡ q) × (new ≡ k)) → IsRun (labels ++ run) q k
    either q k (inl h) = longer labels run q k (finds.runs q k h)
    either q k (inr h) = subst (λ (n : Name). IsRun (labels ++ run) n k) h.0 (subst (IsRun (labels ++ run) name) h.1 one)

    go : (q : Name) (k : KeyNumbers) (b : Bool) → declared (unless_known b a (a ++ (name, new) ∷ [])) q ≡ Some k → IsRun (labels ++ run) q k
    go q k true e = longer labels run q k (finds.runs q k e)
    go q k false e = either q k (declared_last a name new q k e)

-- the key at the place of a key
place_from : (key : Tuple) (i p : ℕ) (ts : List Tuple) → position_from (same_tuple key) i ts ≡ Some p → (q : ℕ) × (p ≡ i + q) × (slice_get ts q ≡ Some key)
place_from key i p [] e = absurd (let h = e in cc)
place_from key i p (t ∷ ts) e = go (same_tuple key t) refl e (place_from key (i + 1) p ts)
  where
    go : (b : Bool) → same_tuple key t ≡ b → cond b (Some i) (position_from (same_tuple key) (i + 1) ts) ≡ Some p
        → (position_from (same_tuple key) (i + 1) ts ≡ Some p → (q : ℕ) × (p ≡ i + 1 + q) × (slice_get ts q ≡ Some key)) → (q : ℕ) × (p ≡ i + q) × (slice_get (t ∷ ts) q ≡ Some key)
    go true f h more = let same : i ≡ p = cc in (0, omega (arith, same), ap (λ (z : Tuple). Some z) (sym ((tuple_decides key t).0 f)))
    go false f h more = let r = more h in (suc r.0, omega (arith, r.1), r.2)

key_at : (key : Tuple) (ts : List Tuple) (p : ℕ) → place_of ts key ≡ Some p → slice_get ts p ≡ Some key
key_at key ts p e =
    let r = place_from key 0 p ts e in
    let same : p ≡ r.0 = omega (arith, r.1) in
    ap (slice_get ts) same ∙ r.2

get_map : {A B : Type 0} (f : A → B) (xs : List A) (v : ℕ) (x : A) → slice_get xs v ≡ Some x → slice_get (map f xs) v ≡ Some (f x)
get_map f [] v x e = absurd (let h = e in cc)
get_map f (y ∷ xs) zero x e = let same : y ≡ x = cc in ap (λ z. Some (f z)) same
get_map f (y ∷ xs) (suc v) x e = get_map f xs v x e

-- keys are distinct where their labels are
keys_distinct : (name : Name) (flag : Bool) (keys : List Tuple) → IsDistinct same_label (map (label_of name flag) keys) → IsDistinct same_tuple keys
keys_distinct name flag keys h = distinct_of same_tuple same_label (label_of name flag) keys (λ x y e. both x y e) h
  where
    both : (x y : Tuple) → same_tuple x y ≡ true → bytes_eq name name && same_tuple x y ≡ true
    both x y e = rw ((bytes_eq-Decides name name).1 refl) e

-- a number that is found is the place of the label
pub found_label : (labels : List WrittenLabel) (numbers : Numbers) (name : Name) (k : KeyNumbers) (key : Tuple) (p v : ℕ) → Finds labels numbers → IsDistinct same_label labels → declared numbers name ≡ Some k → place_of k.keys key ≡ Some p → v ≡ k.first + p
    → (l : WrittenLabel) × (slice_get labels v ≡ Some l) × (l.name ≡ name) × (l.key ≡ key)
found_label labels numbers name k key p v finds distinct e at same = (label_of name r.flag key, there, refl, refl)
  where
    r : IsRun labels name k
    r = finds.runs name k e

    run : List WrittenLabel
    run = map (label_of name r.flag) r.keys

    run_distinct : IsDistinct same_label run
    run_distinct = distinct_front same_label run r.after (distinct_after same_label r.before (run ++ r.after) (subst (IsDistinct same_label) r.whole distinct))

    each_once : union [] r.keys ≡ r.keys
    each_once = all_last [] r.keys (keys_distinct name r.flag r.keys run_distinct) (λ t h. refl)

    in_keys : slice_get r.keys p ≡ Some key
    in_keys = key_at key r.keys p (ap (λ (ts : List Tuple). place_of ts key) (sym each_once) ∙ ap (λ (ts : List Tuple). place_of ts key) (sym r.known) ∙ at)

    there : slice_get labels v ≡ Some (label_of name r.flag key)
    there =
        ap (λ (ls : List WrittenLabel). slice_get ls v) r.whole
        ∙ get_after r.before (run ++ r.after) p v (same ∙ ap (λ (m : ℕ). m + p) r.first)
        ∙ get_front run r.after p (label_of name r.flag key) (get_map (label_of name r.flag) r.keys p key in_keys)

-- the same names have a meaning
pub record NameAlike (a b : Numbers) : Type 0 where
  pub alike : (n : Name) → is_arc a n ≡ is_arc b n

known_join : (a b : Numbers) (n : Name) → is_arc (a ++ b) n ≡ (is_arc a n || is_arc b n)
known_join [] b n = refl
known_join (x ∷ a) b n = go (bytes_eq x.0 n) (known_join a b n)
  where
    go : (t : Bool) → is_arc (a ++ b) n ≡ (is_arc a n || is_arc b n) → is_some (if t then Some x.1 else declared (a ++ b) n) ≡ (is_some (if t then Some x.1 else declared a n) || is_arc b n)
    go true more = refl
    go false more = more

known_more : (a : Numbers) (ds : List Declared) (d : Declared) (first : ℕ) (i : Indexing) → NameAlike a (map name_alone ds) → NameAlike (numbers_with a d.name first i) (map name_alone (ds ++ d ∷ []))
known_more a ds d first i h = record { alike = λ q. go q (is_arc a d.name) refl ∙ sym (all q) }
  where
    new : KeyNumbers
    new = record { count = i.count; first = first; keys = union [] (keys_of i.rows) }

    all : (q : Name) → is_arc (map name_alone (ds ++ d ∷ [])) q ≡ (is_arc a q || is_arc (name_alone d ∷ []) q)
    all q = ap (λ (l : Numbers). is_arc l q) (map_join name_alone ds (d ∷ [])) ∙ known_join (map name_alone ds) (name_alone d ∷ []) q ∙ ap (λ (t : Bool). t || is_arc (name_alone d ∷ []) q) (sym (h.alike q))

    is_there : (q : Name) (t : Bool) → bytes_eq d.name q ≡ t → is_arc a d.name ≡ true → is_arc a q ≡ (is_arc a q || is_some (if t then Some (name_alone d).1 else None))
    is_there q true e k = let same : is_arc a q ≡ true = ap (is_arc a) (sym ((bytes_eq-Decides d.name q).0 e)) ∙ k in same ∙ ap (λ (t : Bool). t || true) (sym same)
    is_there q false e k = or_false (is_arc a q)
      where
        or_false : (t : Bool) → t ≡ (t || false)
        or_false true = refl
        or_false false = refl

    alone_alike : (t : Bool) → is_some (if t then Some new else None) ≡ is_some (if t then Some (name_alone d).1 else None)
    alone_alike true = refl
    alone_alike false = refl

    go : (q : Name) (b : Bool) → is_arc a d.name ≡ b → is_arc (unless_known b a (a ++ (d.name, new) ∷ [])) q ≡ (is_arc a q || is_arc (name_alone d ∷ []) q)
    go q true k = is_there q (bytes_eq d.name q) refl k
    go q false k = known_join a ((d.name, new) ∷ []) q ∙ ap (λ (t : Bool). is_arc a q || t) (alone_alike (bytes_eq d.name q))

-- a group of declared names lists these labels
pub record IsGroup (labels : List WrittenLabel) (names : List Declared) (g : Group) : Type 0 where
  pub declarations : g.list.declarations ≡ names
  pub keys : AllZip (IsKeyOf names) labels g.list.keys
  pub ordered : AreInOrder 0 g.list.keys
  pub finds : Finds labels g.numbers
  pub known : NameAlike g.numbers (map name_alone names)

pub count_is : (w : World) (b : Option Braces) (i : Indexing) → indexing_in w b ≡ Ok i → is_some i.count ≡ is_some b
count_is w None i e = ap (λ (x : Indexing). is_some x.count) (sym (ok_is alone i e))
count_is w (Some b) i e = ok_then (index w [] b) (λ k. Ok (by_keys k)) i e (λ k h j. ap (λ (x : Indexing). is_some x.count) (sym (ok_is (by_keys k) i j)))

fresh_keys : (names : List Declared) (n : Token) (b : Option Braces) (m : ℕ) (rows : List Row) → m ≡ length names
    → AllZip (IsKeyOf (names ++ (record { name = n.text; indexed = is_some b }) ∷ [])) (map (label_at n b) rows) (map (keyed m) rows)
fresh_keys names n b m [] e = tt
fresh_keys names n b m (row ∷ rows) e = (
  record {
    declaration = ap (slice_get (names ++ (record { name = n.text; indexed = is_some b }) ∷ [])) e ∙ get_last names [] (record { name = n.text; indexed = is_some b });
    key = refl;
  },
  fresh_keys names n b m rows e,
)

fresh_order : (least m : ℕ) (rows : List Row) → least ≤ m → AreInOrder least (map (keyed m) rows)
fresh_order least m [] l = tt
fresh_order least m (row ∷ rows) l = (l, fresh_order m m rows (omega arith))

-- one more declaration's keys stand behind those of the declarations before
more_order : (names : List Declared) (labels : List WrittenLabel) (ks : List Key) (least m : ℕ) (rows : List Row) → m ≡ length names → least ≤ m → AllZip (IsKeyOf names) labels ks → AreInOrder least ks
    → AreInOrder least (ks ++ map (keyed m) rows)
more_order names [] [] least m rows e l h o = fresh_order least m rows l
more_order names [] (k ∷ ks) least m rows e l h o = absurd h
more_order names (x ∷ labels) [] least m rows e l h o = absurd h
more_order names (x ∷ labels) (k ∷ ks) least m rows e l h o =
    let below : k.declaration < length names = get_below names k.declaration _ h.0.declaration in
    (o.0, more_order names labels ks k.declaration m rows e (omega (arith, e, below)) h.1 o.1)

pub group_more : (labels : List WrittenLabel) (names : List Declared) (g : Group) (n : Token) (b : Option Braces) (first : ℕ) (i : Indexing) → IsGroup labels names g → first ≡ length labels → is_some i.count ≡ is_some b
    → IsGroup (labels ++ map (label_at n b) i.rows) (names ++ (record { name = n.text; indexed = is_some b }) ∷ []) (group_with g n.text first i)
group_more labels names g n b first i h at flag = record {
  declarations = ap (λ (ds : List Declared). ds ++ (record { name = n.text; indexed = is_some i.count }) ∷ []) h.declarations ∙ ap (λ (t : Bool). names ++ (record { name = n.text; indexed = t }) ∷ []) flag;
  keys = zip_join (IsKeyOf all) labels (map (label_at n b) i.rows) g.list.keys (map (keyed (length g.list.declarations)) i.rows)
      (zip_as (IsKeyOf names) (IsKeyOf all) labels g.list.keys (λ l k u. record { declaration = get_front names (last ∷ []) k.declaration _ u.declaration; key = u.key }) h.keys)
      (fresh_keys names n b (length g.list.declarations) i.rows (ap (λ (ds : List Declared). length ds) h.declarations));
  ordered = more_order names labels g.list.keys 0 (length g.list.declarations) i.rows (ap (λ (ds : List Declared). length ds) h.declarations) (omega arith) h.keys h.ordered;
  finds = subst (λ (ls : List WrittenLabel). Finds (labels ++ ls) (numbers_with g.numbers n.text first i)) (map_map (label_of n.text (is_some b)) (λ (row : Row). row.key) i.rows) (finds_more labels g.numbers n.text (is_some b) first i h.finds at);
  known = known_more g.numbers names last first i h.known;
}
  where
    last : Declared
    last = record { name = n.text; indexed = is_some b }

    all : List Declared
    all = names ++ last ∷ []
