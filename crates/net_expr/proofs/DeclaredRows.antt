-- The rows of braces that are one or two declared sets.
use Rattle.std.specs.Prelude.{get_or, ◌≡◌, ◌<◌, ◌≤◌, ◌+◌, ◌-◌, ◌||◌, ℕ, Bool, true, false, List, [], ◌∷◌, ◌++◌, length, map, max, nat_eq, nat_le, nat_lt, Option, None, Some, Ok, is_some}
use Rattle.std.specs.List.{AllByRecursion, fold}
use Rattle.std.specs.Option.{IfSome}
use Rattle.std.specs.Str.{bytes_eq}
use Rattle.std.proofs.Common.{refl, ap, sym, subst, ◌∙◌, arith, append_assoc, append-nil}
use Rattle.std.proofs.lemmas.Bool.Decides.{nat_tests}
use Rattle.std.proofs.lemmas.List.{length-append, length-map, map-append}
use Rattle.net_base.specs.declared.diagnostic.Span.{Span}
use Rattle.net_base.specs.Outcomes.{Outcome, and_then, each}
use Rattle.net_lex.specs.declared.token.Token.{Token}
use Rattle.net_sets.specs.declared.member.Member.{Member}
use Rattle.net_sets.specs.Limits.{arity_limit, tuples_limit}
use Rattle.net_sets.specs.Operations.{joined_to, product, widest}
use Rattle.net_sets.specs.Sets.{Tuple}
use Rattle.net_tree.specs.declared.operator.OperatorWords.{OperatorWords as Operator}
use Rattle.net_tree.specs.declared.role.Role.{Role}
use Rattle.net_tree.specs.declared.role.Role.TheVariants as roles
use Rattle.net_tree.specs.Role.{role_of}
use Rattle.net_tree.specs.Spans.{span_between, span_of}
use Rattle.net_tree.specs.declared.expr.Braces.{Braces as Braces_of_code}
use Rattle.net_tree.specs.declared.expr.Braces.TheVariants as braces
use Rattle.net_tree.specs.declared.expr.LinkedOperand.{LinkedOperand, out-LinkedOperand}
use Rattle.net_tree.specs.declared.expr.Operands.{Operands, out-Operands}
use Rattle.net_tree.specs.declared.expr.Part.{Part as Part_of_code}
use Rattle.net_tree.specs.View.{tree, braces_of, links_of, option_part}
use Rattle.net_tree.proofs.Views.{braces_of-filled, links_of-cons}
use Rattle.net_tree.specs.Tree.{Tree, Links, leaf, tuple, none, link, absent, filled}
use Rattle.net_expr.specs.declared.indexing.Indexing.{Indexing}
use Rattle.net_expr.specs.declared.row.PartialRow.{PartialRow}
use Rattle.net_expr.specs.declared.row.Row.{Row}
use Rattle.net_expr.specs.declared.value.Value.{Value}
use Rattle.net_expr.specs.declared.value.Value.TheVariants.{Many}
use Rattle.net_expr.specs.DeclaredRows.{AreNewDummies, AreWide, HasNewDummies, IsFactor, IsItem, IsItemBySides, IsNewDummy, IsOther, IsProductOf, NamesSet}
use Rattle.net_expr.specs.Indexings.{by_keys, indexing_in}
use Rattle.net_expr.specs.Items.{any_in, bare, chosen, has_in, needed, new_dummy, sides, tuples_of}
use Rattle.net_expr.specs.Operators.{longer}
use Rattle.net_expr.specs.RowLists.{bound_to, row_of}
use Rattle.net_expr.specs.Rows.{start, onward, finished_key, same_arity, filter_rows, selected, keys, match_component, if_fits}
use Rattle.net_expr.specs.Values.{value, walk, place, places, left_place, token_value}
use Rattle.net_expr.specs.Walks.{walked, by_sides, item_tuples, keys_by_sides, placed}
use Rattle.net_expr.specs.Widths.{width_by_form}
use Rattle.net_expr.specs.Worlds.{Name, World, Scope, bound, entry_of, name_at, with_dummy}
use Rattle.net_expr.proofs.Walking.{index-filled, walk-step, place-is}

le_true : (a b : ℕ) → a ≤ b → nat_le a b ≡ true
le_true a b h = go (nat_le a b) refl
  where
    go : (c : Bool) → nat_le a b ≡ c → nat_le a b ≡ true
    go true e = e
    go false e = absurd (grind (arith, nat_tests))

lt_true : (a b : ℕ) → a < b → nat_lt a b ≡ true
lt_true a b h = go (nat_lt a b) refl
  where
    go : (c : Bool) → nat_lt a b ≡ c → nat_lt a b ≡ true
    go true e = e
    go false e = absurd (grind (arith, nat_tests))

eq_true : (a b : ℕ) → a ≡ b → nat_eq a b ≡ true
eq_true a b h = go (nat_eq a b) refl
  where
    go : (c : Bool) → nat_eq a b ≡ c → nat_eq a b ≡ true
    go true e = e
    go false e = absurd (grind (arith, nat_tests))

or_true : (b : Bool) → (b || true) ≡ true
or_true true = refl
or_true false = refl

-- ---- names that are none of others

front : (P : Name → Type 0) (xs ys : List Name) → AllByRecursion P (xs ++ ys) → AllByRecursion P xs
front P [] ys h = tt
front P (x ∷ xs) ys h = (h.0, front P xs ys h.1)

last : (P : Name → Type 0) (xs : List Name) (y : Name) → AllByRecursion P (xs ++ y ∷ []) → P y
last P [] y h = h.0
last P (x ∷ xs) y h = last P xs y h.1

-- a scope binds no more than these names
abbrev OnlyBinds : List Name → Scope → Type 0
OnlyBinds before s = (name : Name) → IsOther before name → bound s name ≡ None

binds_more : (before : List Name) (s : Scope) (n : Name) (m : Member) → OnlyBinds before s → OnlyBinds (before ++ n ∷ []) (with_dummy n m s)
binds_more before s n m h name other =
    rw (last (λ k. bytes_eq k name ≡ false) before n other) (h name (front (λ k. bytes_eq k name ≡ false) before (n ∷ []) other))

binds_all : (ns : List Name) (x : Tuple) (before : List Name) (s : Scope) → OnlyBinds before s → OnlyBinds (before ++ ns) (bound_to ns x s)
binds_all [] x before s h = λ name other. h name (front (λ k. bytes_eq k name ≡ false) before [] other)
binds_all (n ∷ ns) [] before s h = λ name other. h name (front (λ k. bytes_eq k name ≡ false) before (n ∷ ns) other)
binds_all (n ∷ ns) (m ∷ x) before s h =
    subst (λ (k : List Name). OnlyBinds k (bound_to ns x (with_dummy n m s))) (append_assoc before (n ∷ []) ns)
    (binds_all ns x (before ++ n ∷ []) (with_dummy n m s) (binds_more before s n m h))

-- ---- a declared set has its value in each of these scopes

token_same : (w : World) (s : Scope) (t : Token) (r : Role) → bound s t.text ≡ None → token_value w s t r ≡ token_value w [] t r
token_same w s t roles.Number h = refl
token_same w s t roles.Text h = refl
token_same w s t roles.Name h = ap (λ b. name_at t.span w t.text b []) h
token_same w s t _ h = refl

set_value : (w : World) (s : Scope) (dummies : List Name) (x : Tree) (width : Option ℕ) (ts : List Tuple) → NamesSet w dummies x width ts → OnlyBinds dummies s → value w s x ≡ Ok (Many width ts)
set_value w s dummies x width ts named only =
    let t = named.token in
    ap (value w s) named.is_name ∙ token_same w s t (role_of t) (only t.text named.other) ∙ sym (ap (value w []) named.is_name) ∙ named.is_set

-- ---- dummies

abbrev name_or : Option Name → Name
name_or None = []
name_or (Some n) = n

abbrev names_in : Links → List Name
names_in none = []
names_in (link o x l) = name_or (bare x) ∷ names_in l

abbrev left_names : Tree → List Name
left_names (tuple o x l c) = name_or (bare x) ∷ names_in l
left_names x = name_or (bare x) ∷ []

names_after : (w : World) (l : Links) (before after : List Name) → AreNewDummies w l before after → after ≡ before ++ names_in l
names_after w none before after h = sym (append-nil before ∙ h)
names_after w (link o x l) before after h = go (bare x) (λ now. names_after w l now after) h
  where
    go : (d : Option Name) → ((now : List Name) → AreNewDummies w l now after → after ≡ now ++ names_in l) → IsNewDummy w before d (λ now. AreNewDummies w l now after) → after ≡ before ++ name_or d ∷ names_in l
    go None rest k = absurd k
    go (Some n) rest k = rest (before ++ n ∷ []) k.2 ∙ append_assoc before (n ∷ []) (names_in l)

left_after : (w : World) (x : Tree) (before after : List Name) → HasNewDummies w x before after → after ≡ before ++ left_names x
left_after w (tuple o x l c) before after h = go (bare x) h
  where
    go : (d : Option Name) → IsNewDummy w before d (λ now. AreNewDummies w l now after) → after ≡ before ++ name_or d ∷ names_in l
    go None k = absurd k
    go (Some n) k = names_after w l (before ++ n ∷ []) after k.2 ∙ append_assoc before (n ∷ []) (names_in l)
left_after w (leaf t) before after h = go (bare (leaf t)) h
  where
    go : (d : Option Name) → IsNewDummy w before d (λ now. now ≡ after) → after ≡ before ++ name_or d ∷ []
    go None k = absurd k
    go (Some n) k = sym k.2
left_after w _ before after h = absurd h

dummy_new : (w : World) (s : Scope) (before : List Name) (x : Tree) (n : Name) → bare x ≡ Some n → entry_of w n ≡ None → IsOther before n → OnlyBinds before s → new_dummy w s x ≡ Some n
dummy_new w s before x n is unknown other only = rw (is, only n other, unknown) refl

longer_one : (k : Tuple) (m : Member) → length k + 1 ≤ arity_limit → longer (m ∷ []) (Some k) ≡ Some (k ++ m ∷ [])
longer_one k m short = rw (le_true (length k + 1) arity_limit short) refl

-- the members after one are bound to the dummies after it
abbrev AreBound : Span → World → Links → List Name → Tuple → Type 0
AreBound at w l after ms =
    (before : List Name) (s : Scope) (k : Tuple) → AreNewDummies w l before after → OnlyBinds before s → length k + length ms ≤ arity_limit
    → places at w l ms (record { scope = s; key = Some k }) ≡ Ok (Some (record { scope = bound_to (names_in l) ms s; key = Some (k ++ ms) }))

-- a member is bound to its dummy, and so are those after it
one_bound : (at : Span) (w : World) (x : Tree) (l : Links) (before after : List Name) (s : Scope) (k : Tuple) (m : Member) (ms : Tuple) → AreBound at w l after ms
    → IsNewDummy w before (bare x) (λ now. AreNewDummies w l now after) → OnlyBinds before s → length k + (1 + length ms) ≤ arity_limit
    → and_then (match_component at (new_dummy w s x) (value w s x) m (record { scope = s; key = Some k })) (if_fits (places at w l ms))
    ≡ Ok (Some (record { scope = bound_to (name_or (bare x) ∷ names_in l) (m ∷ ms) s; key = Some (k ++ m ∷ ms) }))
one_bound at w x l before after s k m ms rest h only short = go (bare x) refl h
  where
    go : (d : Option Name) → bare x ≡ d → IsNewDummy w before d (λ now. AreNewDummies w l now after)
        → and_then (match_component at (new_dummy w s x) (value w s x) m (record { scope = s; key = Some k })) (if_fits (places at w l ms))
        ≡ Ok (Some (record { scope = bound_to (name_or d ∷ names_in l) (m ∷ ms) s; key = Some (k ++ m ∷ ms) }))
    go None is j = absurd j
    go (Some n) is j =
        let p : PartialRow = record { scope = s; key = Some k } in
        let size : length (k ++ m ∷ []) ≡ length k + 1 = length-append k (m ∷ []) in
        ap (λ d. and_then (match_component at d (value w s x) m p) (if_fits (places at w l ms))) (dummy_new w s before x n is j.0 j.1 only)
        ∙ ap (λ q. places at w l ms (record { scope = with_dummy n m s; key = q })) (longer_one k m (omega (arith, short)))
        ∙ rest (before ++ n ∷ []) (with_dummy n m s) (k ++ m ∷ []) j.2 (binds_more before s n m only) (omega (arith, short, size))
        ∙ ap (λ q. Ok (Some (record { scope = bound_to (names_in l) ms (with_dummy n m s); key = Some q }))) (append_assoc k (m ∷ []) ms)

all_bound : (at : Span) (w : World) (l : Links) (after : List Name) (ms : Tuple) → length ms ≡ length (names_in l) → AreBound at w l after ms
all_bound at w none after [] even before s k h only short = ap (λ q. Ok (Some (record { scope = s; key = Some q }))) (sym (append-nil k))
all_bound at w none after (m ∷ ms) even before s k h only short = absurd (omega (arith, even))
all_bound at w (link o x l) after [] even before s k h only short = absurd (omega (arith, even))
all_bound at w (link o x l) after (m ∷ ms) even before s k h only short =
    one_bound at w x l before after s k m ms (all_bound at w l after ms (omega (arith, even))) h only (omega (arith, short))

left_bound : (at : Span) (w : World) (x : Tree) (own : Outcome Value) (before after : List Name) (s : Scope) (k t : Tuple) → HasNewDummies w x before after → OnlyBinds before s → length t ≡ length (left_names x)
    → length k + length t ≤ arity_limit → left_place at w x own t (record { scope = s; key = Some k }) ≡ Ok (Some (record { scope = bound_to (left_names x) t s; key = Some (k ++ t) }))
left_bound at w (tuple o x l c) own before after s k [] h only even short = absurd (omega (arith, even))
left_bound at w (tuple o x l c) own before after s k (m ∷ ms) h only even short =
    one_bound (span_of (tuple o x l c)) w x l before after s k m ms (all_bound (span_of (tuple o x l c)) w l after ms (omega (arith, even))) h only (omega (arith, short))
left_bound at w (leaf u) own before after s k [] h only even short = absurd (omega (arith, even))
left_bound at w (leaf u) own before after s k (m ∷ n ∷ ms) h only even short = absurd (omega (arith, even))
left_bound at w (leaf u) own before after s k (m ∷ []) h only even short = go (bare (leaf u)) refl h
  where
    go : (d : Option Name) → bare (leaf u) ≡ d → IsNewDummy w before d (λ now. now ≡ after)
        → left_place at w (leaf u) own (m ∷ []) (record { scope = s; key = Some k }) ≡ Ok (Some (record { scope = bound_to (name_or d ∷ []) (m ∷ []) s; key = Some (k ++ m ∷ []) }))
    go None is j = absurd j
    go (Some n) is j = rw (dummy_new w s before (leaf u) n is j.0 j.1 only, le_true (length k + 1) arity_limit (omega (arith, short))) refl
left_bound at w _ own before after s k t h only even short = absurd h

-- ---- an item

abbrev dummies_of : Option (Tree × Tree) → List Name
dummies_of None = []
dummies_of (Some p) = left_names p.0

abbrev pub item_names : Tree → List Name
item_names x = dummies_of (sides x)

pub names_are : (w : World) (x : Tree) (before after : List Name) (ts : List Tuple) → IsItem w x before after ts → after ≡ before ++ item_names x
names_are w x before after ts h = go (sides x) h
  where
    go : (o : Option (Tree × Tree)) → IsItemBySides w x before after ts o → after ≡ before ++ dummies_of o
    go None k = sym (append-nil before ∙ k.same)
    go (Some p) k = left_after w p.0 before after k.dummies

item_tuples_are : (at : Span) (w : World) (s : Scope) (x : Tree) (before after : List Name) (ts : List Tuple) → IsItem w x before after ts → OnlyBinds before s → item_tuples at w s x ≡ Ok ts
item_tuples_are at w s x before after ts h only = go (sides x) h
  where
    go : (o : Option (Tree × Tree)) → IsItemBySides w x before after ts o → by_sides at w s x o ≡ Ok ts
    go None k = ap (λ v. and_then v (tuples_of at)) (set_value w s before x k.width ts k.set only)
    go (Some p) k = ap (λ v. and_then v (chosen (span_of x) (needed p.0))) (set_value w s before p.1 k.width ts k.set only) ∙ (rw k.fits refl)

placed_so : (w : World) (x : Tree) (before after : List Name) (n : ℕ) (ts : List Tuple) (s : Scope) (k t : Tuple) → IsFactor w x before after n ts → OnlyBinds before s → length t ≡ n → length k + n ≤ arity_limit
    → place w x t (record { scope = s; key = Some k }) ≡ Ok (Some (record { scope = bound_to (item_names x) t s; key = Some (k ++ t) }))
placed_so w x before after n ts s k t h only long short =
    place-is w x t (record { scope = s; key = Some k }) ∙ go (sides x) (ap is_some refl) h.item
  where
    go : (o : Option (Tree × Tree)) → is_some (sides x) ≡ is_some o → IsItemBySides w x before after ts o
        → placed w x t (record { scope = s; key = Some k }) o ≡ Ok (Some (record { scope = bound_to (dummies_of o) t s; key = Some (k ++ t) }))
    go None some j = rw (le_true (length k + length t) arity_limit (omega (arith, long, short))) refl
    go (Some p) some j =
        let all = ap length (left_after w p.0 before after j.dummies) ∙ length-append before (left_names p.0) in
        let each = h.all_bound some in
        left_bound (span_of x) w p.0 (value w s p.0) before after s k t j.dummies only (omega (arith, all, each, long)) (omega (arith, long, short))

-- ---- the rows of one set

-- the row of a key behind others
abbrev row_behind : List Name → Scope → Tuple → Tuple → Row
row_behind names s k t = record { key = k ++ t; scope = bound_to names t s }

-- the rows so far have keys of this length
abbrev BeginLong : ℕ → List Row → Type 0
BeginLong n [] = Unit {0}
BeginLong n (r ∷ rows) = length r.key ≡ n

begins_more : (n : ℕ) (found : List Row) (r : Row) → length r.key ≡ n → BeginLong n found → BeginLong n (found ++ r ∷ [])
begins_more n [] r h k = h
begins_more n (q ∷ rows) r h k = k

begins_join : (n : ℕ) (found more : List Row) → BeginLong n found → BeginLong n more → BeginLong n (found ++ more)
begins_join n [] more h k = k
begins_join n (r ∷ rows) more h k = h

alike : (n : ℕ) (found : List Row) (key : Tuple) → length key ≡ n → BeginLong n found → same_arity key found ≡ true
alike n [] key h k = refl
alike n (r ∷ rows) key h k = eq_true (length r.key) (length key) (k ∙ sym h)

one_more : (at : Span) (s : Scope) (key : Tuple) (n : ℕ) (found : List Row) → length key ≡ n → BeginLong n found → length found < tuples_limit
    → finished_key at s (Some key) found ≡ Ok (found ++ (record { key = key; scope = s }) ∷ [])
one_more at s key n found long begins room = rw (alike n found key long begins, lt_true (length found) tuples_limit room) refl

inner : (w : World) (at : Span) (x : Tree) (before after : List Name) (ts : List Tuple) (m n : ℕ) (s : Scope) (k : Tuple) (ys : List Tuple) (found : List Row) → IsFactor w x before after m ts → OnlyBinds before s
    → AllByRecursion (λ y. length y ≡ m) ys → length k + m ≡ n → n ≤ arity_limit → BeginLong n found → length found + length ys ≤ tuples_limit
    → each (onward (place w x) (walk at w none) (record { scope = s; key = Some k })) ys found ≡ Ok (found ++ map (row_behind (item_names x) s k) ys)
inner w at x before after ts m n s k [] found h only long whole short begins room = ap Ok (sym (append-nil found))
inner w at x before after ts m n s k (y ∷ ys) found h only long whole short begins room =
    let p : PartialRow = record { scope = s; key = Some k } in
    let row : Row = row_behind (item_names x) s k y in
    let one = long.0 in
    let wide : length (k ++ y) ≡ n = length-append k y ∙ omega (arith, one, whole) in
    let placed = placed_so w x before after m ts s k y h only one (omega (arith, whole, short)) in
    let next : List Row = found ++ row ∷ [] in
    let size : length next ≡ length found + 1 = length-append found (row ∷ []) in
    let added : onward (place w x) (walk at w none) p y found ≡ Ok next =
    rw placed (one_more at (bound_to (item_names x) y s) (k ++ y) n found wide begins (omega (arith, room))) in
    ap (λ o. and_then o (each (onward (place w x) (walk at w none) p) ys)) added
    ∙ inner w at x before after ts m n s k ys next h only long.1 whole short (begins_more n found row wide begins) (omega (arith, size, room))
    ∙ ap Ok (append_assoc found (row ∷ []) (map (row_behind (item_names x) s k) ys))

-- ---- the condition and the width

all_kept : (rows found : List Row) → filter_rows (λ q. Ok true) rows found ≡ Ok (found ++ rows)
all_kept [] found = ap Ok (sym (append-nil found))
all_kept (r ∷ rows) found = all_kept rows (found ++ r ∷ []) ∙ ap Ok (append_assoc found (r ∷ []) rows)

all_selected : (by_form : Outcome ℕ) (r : Row) (rows : List Row) → selected by_form (λ q. Ok true) (r ∷ rows) ≡ Ok (keys (length r.key) (r ∷ rows))
all_selected by_form r rows = ap (λ o. and_then o (λ left. Ok (keys (length r.key) left))) (all_kept (r ∷ rows) [])

-- braces whose first item is a declared set are walked
opens : (at : Span) (w : World) (x : Tree) (is : Links) (after : List Name) (ts : List Tuple) → IsItem w x [] after ts → keys_by_sides at w [] x is absent (sides x) ≡ walked at w [] x is absent ts
opens at w x is after ts h = go (sides x) h
  where
    none_bound : OnlyBinds [] []
    none_bound name other = refl

    go : (o : Option (Tree × Tree)) → IsItemBySides w x [] after ts o → keys_by_sides at w [] x is absent o ≡ walked at w [] x is absent ts
    go None k = rw (k.set.is_set, or_true (any_in is)) refl
    go (Some p) k = rw (k.set.is_set, k.fits) refl

only_none : OnlyBinds [] []
only_none name other = refl

pub one_set_rows : (w : World) (o c : Token) (x : Tree) (after : List Name) (n : ℕ) (ts : List Tuple) → IsFactor w x [] after n ts → length ts ≤ tuples_limit
    → indexing_in w (Some (filled o x none absent c)) ≡ Ok (record { count = Some n; rows = map (row_of after) ts })
one_set_rows w o c x after n [] h few = let some = h.wide.some in absurd (omega (arith, some))
one_set_rows w o c x after n (t ∷ ts) h few =
    let at = span_between o c in
    let by_form = width_by_form at w [] x none in
    let wide = h.wide.all.0 in
    let rows = inner w at x [] after (t ∷ ts) n n [] [] (t ∷ ts) [] h only_none h.wide.all (omega arith) h.short tt (omega (arith, few)) in
    let names : item_names x ≡ after = sym (names_are w x [] after (t ∷ ts) h.item) in
    ap (λ k. and_then k (λ q. Ok (by_keys q)))
    (index-filled w [] o x none absent c ∙ opens at w x none after (t ∷ ts) h.item ∙ ap (λ r. and_then r (selected by_form (λ q. Ok true))) rows
    ∙ all_selected by_form (row_behind (item_names x) [] [] t) (map (row_behind (item_names x) [] []) ts))
    ∙ ap (λ k. Ok (record { count = Some k; rows = map (row_of (item_names x)) (t ∷ ts) })) wide
    ∙ ap (λ ns. Ok (record { count = Some n; rows = map (row_of ns) (t ∷ ts) })) names

-- ---- the rows of two sets

bound_join : (ns more : List Name) (x y : Tuple) (s : Scope) → length ns ≡ length x → bound_to (ns ++ more) (x ++ y) s ≡ bound_to more y (bound_to ns x s)
bound_join [] more [] y s even = refl
bound_join [] more (m ∷ x) y s even = absurd (omega (arith, even))
bound_join (n ∷ ns) more [] y s even = absurd (omega (arith, even))
bound_join (n ∷ ns) more (m ∷ x) y s even = bound_join ns more x y (with_dummy n m s) (omega (arith, even))

joined_size : (x : Tuple) (ys : List Tuple) → length (joined_to x ys) ≡ length ys
joined_size x ys = length-map ys (λ y. x ++ y)

-- the dummies of both items are bound as those of one
abbrev AreJoined : List Name → List Name → ℕ → Type 0
AreJoined ns more n = (x y : Tuple) → length x ≡ n → bound_to (ns ++ more) (x ++ y) [] ≡ bound_to more y (bound_to ns x [])

behind_all : (ns more : List Name) (n : ℕ) (x : Tuple) (ys : List Tuple) → AreJoined ns more n → length x ≡ n → map (row_behind more (bound_to ns x []) x) ys ≡ map (row_of (ns ++ more)) (joined_to x ys)
behind_all ns more n x [] joined long = refl
behind_all ns more n x (y ∷ ys) joined long =
    ap (λ (s : Scope). (record { key = x ++ y; scope = s }) ∷ map (row_behind more (bound_to ns x []) x) ys) (sym (joined x y long))
    ∙ ap (λ (rows : List Row). row_of (ns ++ more) (x ++ y) ∷ rows) (behind_all ns more n x ys joined long)

begin_long : (names : List Name) (x : Tuple) (n m : ℕ) (ys : List Tuple) → length x ≡ n → AllByRecursion (λ y. length y ≡ m) ys → BeginLong (n + m) (map (row_of names) (joined_to x ys))
begin_long names x n m [] long h = tt
begin_long names x n m (y ∷ ys) long h = let one = h.0 in let both = length-append x y in omega (arith, long, one, both)

outer : (w : World) (at : Span) (i j : Tree) (q : Operator) (mid after : List Name) (n m : ℕ) (ts ys xs : List Tuple) (found : List Row) → IsFactor w i [] mid n ts → IsFactor w j mid after m ys
    → AreJoined (item_names i) (item_names j) n → AllByRecursion (λ x. length x ≡ n) xs → n + m ≤ arity_limit → BeginLong (n + m) found → length found + length (product xs ys) ≤ tuples_limit
    → each (onward (place w i) (walk at w (link q j none)) (start [])) xs found ≡ Ok (found ++ map (row_of (item_names i ++ item_names j)) (product xs ys))
outer w at i j q mid after n m ts ys [] found h k joined long short begins room = ap Ok (sym (append-nil found))
outer w at i j q mid after n m ts ys (x ∷ xs) found h k joined long short begins room =
    let ns = item_names i in
    let more = item_names j in
    let one = long.0 in
    let s : Scope = bound_to ns x [] in
    let p : PartialRow = record { scope = s; key = Some x } in
    let size : length (joined_to x ys ++ product xs ys) ≡ length ys + length (product xs ys) = length-append (joined_to x ys) (product xs ys) ∙ ap (λ k. k + length (product xs ys)) (joined_size x ys) in
    let only : OnlyBinds mid s = subst (λ (k : List Name). OnlyBinds k s) (sym (names_are w i [] mid ts h.item)) (binds_all ns x [] [] only_none) in
    let placed : place w i x (start []) ≡ Ok (Some p) = placed_so w i [] mid n ts [] [] x h only_none one (omega (arith, short)) in
    let here = inner w at j mid after ys m (n + m) s x ys found k only k.wide.all (omega (arith, one)) short begins (omega (arith, room, size)) in
    let rows : List Row = map (row_of (ns ++ more)) (joined_to x ys) in
    let walked_on : walk at w (link q j none) p found ≡ Ok (found ++ rows) =
    walk-step at w q j none p found ∙ ap (λ o. and_then o (λ ts. each (onward (place w j) (walk at w none) p) ts found)) (item_tuples_are at w s j mid after ys k.item only)
    ∙ here ∙ ap (λ r. Ok (found ++ r)) (behind_all ns more n x ys joined one) in
    let added : onward (place w i) (walk at w (link q j none)) (start []) x found ≡ Ok (found ++ rows) = rw placed walked_on in
    let next : List Row = found ++ rows in
    let grown : length next ≡ length found + length ys = length-append found rows ∙ ap (λ k. length found + k) (length-map (joined_to x ys) (row_of (ns ++ more)) ∙ joined_size x ys) in
    ap (λ o. and_then o (each (onward (place w i) (walk at w (link q j none)) (start [])) xs)) added
    ∙ outer w at i j q mid after n m ts ys xs next h k joined long.1 short (begins_join (n + m) found rows begins (begin_long (ns ++ more) x n m ys one k.wide.all)) (omega (arith, grown, size, room))
    ∙ ap Ok (append_assoc found rows (map (row_of (ns ++ more)) (product xs ys)) ∙ ap (λ r. found ++ r) (sym (map-append (row_of (ns ++ more)) (joined_to x ys) (product xs ys))))

-- items that both have dummies, or both have none
are_joined : (w : World) (i j : Tree) (mid after : List Name) (n m : ℕ) (xs ys : List Tuple) → IsFactor w i [] mid n xs → IsFactor w j mid after m ys → has_in i ≡ has_in j → AreJoined (item_names i) (item_names j) n
are_joined w i j mid after n m xs ys h k same = go (sides i) (sides j) refl same
  where
    both_have : (p q : Tree × Tree) → sides i ≡ Some p → AreJoined (left_names p.0) (left_names q.0) n
    both_have p q is x y long =
        let names = ap length (names_are w i [] mid xs h.item) in
        let all = h.all_bound (ap is_some is) in
        let own : length (item_names i) ≡ length (left_names p.0) = ap (λ o. length (dummies_of o)) is in
        bound_join (left_names p.0) (left_names q.0) x y [] (omega (arith, names, all, own, long))

    go : (p q : Option (Tree × Tree)) → sides i ≡ p → is_some p ≡ is_some q → AreJoined (dummies_of p) (dummies_of q) n
    go None None is e = λ x y long. refl
    go None (Some q) is e = cc
    go (Some p) None is e = cc
    go (Some p) (Some q) is e = both_have p q is

pub two_sets_rows : (w : World) (o : Token) (q : Operator) (c : Token) (i j : Tree) (mid after : List Name) (n m : ℕ) (xs ys : List Tuple) (made : Indexing) → IsFactor w i [] mid n xs → IsFactor w j mid after m ys
    → has_in i ≡ has_in j → IsProductOf n m xs ys after made → indexing_in w (Some (filled o i (link q j none) absent c)) ≡ Ok made
two_sets_rows w o q c i j mid after n m [] ys made h k same is = let some = h.wide.some in absurd (omega (arith, some))
two_sets_rows w o q c i j mid after n m (x ∷ xs) [] made h k same is = let some = k.wide.some in absurd (omega (arith, some))
two_sets_rows w o q c i j mid after n m (x ∷ xs) (y ∷ ys) made h k same is =
    let at = span_between o c in
    let items = link q j none in
    let by_form = width_by_form at w [] i items in
    let names : item_names i ++ item_names j ≡ after =
    ap (λ ns. ns ++ item_names j) (sym (names_are w i [] mid (x ∷ xs) h.item)) ∙ sym (names_are w j mid after (y ∷ ys) k.item) in
    let joined = are_joined w i j mid after n m (x ∷ xs) (y ∷ ys) h k same in
    let few = is.few in
    let rows = outer w at i j q mid after n m (x ∷ xs) (y ∷ ys) (x ∷ xs) [] h k joined h.wide.all is.short tt (omega (arith, few)) in
    let one = h.wide.all.0 in
    let other = k.wide.all.0 in
    let both = length-append x y in
    let wide : length (x ++ y) ≡ n + m = omega (arith, one, other, both) in
    let ns = item_names i ++ item_names j in
    ap (λ k. and_then k (λ q. Ok (by_keys q)))
    (index-filled w [] o i items absent c ∙ opens at w i items mid (x ∷ xs) h.item ∙ ap (λ r. and_then r (selected by_form (λ q. Ok true))) rows
    ∙ all_selected by_form (row_of ns (x ++ y)) (map (row_of ns) (joined_to x ys ++ product xs (y ∷ ys))))
    ∙ ap (λ k. Ok (record { count = Some k; rows = map (row_of ns) (product (x ∷ xs) (y ∷ ys)) })) wide
    ∙ ap (λ ns. Ok (record { count = Some (n + m); rows = map (row_of ns) (product (x ∷ xs) (y ∷ ys)) })) names
    ∙ ap Ok (sym is.is)

-- ---- the width of a set

widest_from : (n most : ℕ) (ts : List Tuple) → AllByRecursion (λ t. length t ≡ n) ts → fold (λ m t. max m (length t)) most ts ≤ max most n
widest_from n most [] h = omega arith
widest_from n most (t ∷ ts) h = let rest = widest_from n (max most (length t)) ts h.1 in let one = h.0 in omega (arith, rest, one)

pub no_wider : (n : ℕ) (ts : List Tuple) → AreWide n ts → widest ts ≤ n
no_wider n ts wide = let most = widest_from n 0 ts wide.all in omega (arith, most)

-- ---- dummies found one by one

pub new_then : (w : World) (before : List Name) (d : Option Name) (P Q : List Name → Type 0) → ((now : List Name) → P now → Q now) → IsNewDummy w before d P → IsNewDummy w before d Q
new_then w before None P Q f h = h
new_then w before (Some n) P Q f h = (h.0, h.1, f (before ++ n ∷ []) h.2)

pub more_dummies : (w : World) (before now after : List Name) (o : Operator) (x : Tree) (l : Links) → IsNewDummy w before (bare x) (λ k. k ≡ now) → AreNewDummies w l now after → AreNewDummies w (link o x l) before after
more_dummies w before now after o x l h k = new_then w before (bare x) (λ k. k ≡ now) (λ k. AreNewDummies w l k after) (λ q e. subst (λ ns. AreNewDummies w l ns after) (sym e) k) h

-- all tuples have a dummy for each member
pub all_have : (w : World) (x : Tree) (before after : List Name) (ts : List Tuple) (n : ℕ) → IsItem w x before after ts → length after - length before ≡ n → length after ≡ length before + n
all_have w x before after ts n h e = let all = ap length (names_are w x before after ts h) ∙ length-append before (item_names x) in omega (arith, all, e)

pub some_weaker : {A : Type 0} (o : Option A) (P Q : A → Type 0) → ((x : A) → P x → Q x) → IfSome o P → IfSome o Q
some_weaker None P Q f h = tt
some_weaker (Some x) P Q f h = f x h

-- ---- braces of the code

pub filled_one : (b : Braces_of_code) (o : Token) (s : Operands) (p : Option Part_of_code) (c : Token) → b ≡ braces.Filled o s p c → p ≡ None → (out-Operands s).more ≡ []
    → braces_of b ≡ filled o (tree (out-Operands s).first) none absent c
filled_one b o s p c is unconditioned alone =
    ap braces_of is ∙ braces_of-filled o s p c
    ∙ ap (λ q. filled o (tree (out-Operands s).first) (links_of (out-Operands s).more) (option_part q) c) unconditioned
    ∙ ap (λ ls. filled o (tree (out-Operands s).first) (links_of ls) absent c) alone

pub filled_two : (b : Braces_of_code) (o : Token) (s : Operands) (p : Option Part_of_code) (c : Token) (l : LinkedOperand) → b ≡ braces.Filled o s p c → p ≡ None → (out-Operands s).more ≡ l ∷ []
    → braces_of b ≡ filled o (tree (out-Operands s).first) (link (out-LinkedOperand l).operator (tree (out-LinkedOperand l).operand) none) absent c
filled_two b o s p c l is unconditioned both =
    ap braces_of is ∙ braces_of-filled o s p c
    ∙ ap (λ q. filled o (tree (out-Operands s).first) (links_of (out-Operands s).more) (option_part q) c) unconditioned
    ∙ ap (λ ls. filled o (tree (out-Operands s).first) (links_of ls) absent c) both
    ∙ ap (λ ls. filled o (tree (out-Operands s).first) ls absent c) (links_of-cons l [])

pub no_items : {A : Type 0} (xs : List A) → length xs < 1 → xs ≡ []
no_items [] h = refl
no_items (x ∷ xs) h = absurd (omega (arith, h))

pub one_item : {A : Type 0} (xs : List A) (x : A) → 1 ≤ length xs → length xs < 2 → x ≡ get_or xs 0 x → xs ≡ x ∷ []
one_item [] x more less is = absurd (omega (arith, more))
one_item (y ∷ []) x more less is = ap (λ z. z ∷ []) (sym is)
one_item (y ∷ z ∷ xs) x more less is = absurd (omega (arith, less))
