-- The rows of a walk have distinct keys, where each item's set has its tuples once.
use Rattle.std.specs.Prelude.{◌≡◌, ◌&&◌, ◌||◌, ℕ, Bool, true, false, List, [], ◌∷◌, ◌++◌, length, nat_eq, nat_le, nat_lt, Option, None, Some, is_some, if◌then◌else◌, Ok}
use Rattle.std.specs.List.{AllByRecursion, IsDistinct}
use Rattle.std.proofs.Common.{refl, ap, sym, ◌∙◌, subst, append_assoc, append-nil}
use Rattle.std.proofs.lemmas.Bool.{eqb-true}
use Rattle.std.proofs.lemmas.Map.Keys.{IsDistinct-head, IsDistinct-tail, IsDistinct-cons}
use Rattle.net_base.specs.declared.diagnostic.Span.{Span}
use Rattle.net_sets.specs.Limits.{arity_limit, tuples_limit}
use Rattle.net_sets.specs.Sets.{Tuple, same_tuple, has}
use Rattle.net_sets.proofs.Sames.{tuple_decides}
use Rattle.net_tree.specs.Spans.{span_of}
use Rattle.net_tree.specs.Tree.{Tree, Links, chain, none, link}
use Rattle.net_base.specs.declared.error_code.ErrorCode.TheVariants.{Arity, TooMany}
use Rattle.net_expr.specs.declared.row.PartialRow.{PartialRow}
use Rattle.net_expr.specs.declared.row.Row.{Row}
use Rattle.net_expr.specs.declared.value.Value.{Value}
use Rattle.net_expr.specs.declared.value.Value.TheVariants.{One, Several, Many, Truth}
use Rattle.net_expr.specs.Items.{is_in, both, has_in, needed, fits_needed, chosen, tuples_of}
use Rattle.net_tree.specs.Operations.{operation}
use Rattle.net_base.specs.Outcomes.{Outcome, and_then, rejected, each}
use Rattle.net_expr.specs.Rows.{go_on, onward, same_arity, finished_key, keys_of}
use Rattle.net_expr.specs.SetValues.{IsSetOf, GivesSets}
use Rattle.net_expr.specs.Values.{value, place, set_after, walk}
use Rattle.net_expr.specs.Worlds.{World, Scope}
use Rattle.net_expr.proofs.Distinct.{IsLong, LongIn, item_on, item_parted}
use Rattle.net_expr.proofs.Parting.{then_ok, is_ok, OnFrom, on_join, parted_unlike, parted_on}

-- the tuples of an item, each once and as long as its left side says
pub record IsItemSet (i : Tree) (ts : List Tuple) : Type 0 where
  pub distinct : IsDistinct same_tuple ts
  pub width : ℕ
  pub long : AllByRecursion (λ t. length t ≡ width) ts
  pub fits : AllByRecursion (LongIn i) ts

pub none_there : IsDistinct same_tuple []
unfolding IsDistinct
none_there = tt

pub no_item : (i : Tree) (ts : List Tuple) → ts ≡ [] → IsItemSet i ts
no_item i ts e = subst (IsItemSet i) (sym e) (record { distinct = none_there; width = 0; long = tt; fits = tt })

pub all_as : {A : Type 0} (P Q : A → Type 0) (xs : List A) → ((x : A) → P x → Q x) → AllByRecursion P xs → AllByRecursion Q xs
all_as P Q [] f h = tt
all_as P Q (x ∷ xs) f h = (f x h.0, all_as P Q xs f h.1)

pub all_join : {A : Type 0} (P : A → Type 0) (xs ys : List A) → AllByRecursion P xs → AllByRecursion P ys → AllByRecursion P (xs ++ ys)
all_join P [] ys h k = k
all_join P (x ∷ xs) ys h k = (h.0, all_join P xs ys h.1 k)

-- of a tuple that is there what holds of all
pick : (P : Tuple → Type 0) (ts : List Tuple) (u : Tuple) → AllByRecursion P ts → has ts u ≡ true → P u
pick P [] u all h = cc
pick P (t ∷ ts) u all h = go (same_tuple u t) refl h (pick P ts u all.1)
  where
    go : (b : Bool) → same_tuple u t ≡ b → (b || has ts u) ≡ true → (has ts u ≡ true → P u) → P u
    go true f k more = subst P (sym ((tuple_decides u t).0 f)) all.0
    go false f k more = more k

-- ---- the set of an item

pub item_any : (w : World) (s : Scope) (i : Tree) (at : Span) (ts : List Tuple) → GivesSets w → (AllByRecursion (LongIn i) ts) → and_then (value w s i) (tuples_of at) ≡ Ok ts → IsItemSet i ts
item_any w s i at ts g fits e = then_ok (value w s i) (tuples_of at) ts e (λ v h k. go v h k)
  where
    by_width : (d : Option ℕ) → IsSetOf d ts → IsItemSet i ts
    by_width None h = no_item i ts h
    by_width (Some n) h = record { distinct = h.0; width = n; long = h.1; fits = fits }

    go : (v : Value) → value w s i ≡ Ok v → tuples_of at v ≡ Ok ts → IsItemSet i ts
    go (Many d us) h k = by_width d (subst (IsSetOf d) (is_ok us ts k) (g s i d us h))
    go (One m) h k = cc
    go (Several t) h k = cc
    go (Truth b) h k = cc

pub all_true : {A : Type 0} (P : A → Type 0) (xs : List A) → ((x : A) → P x) → AllByRecursion P xs
all_true P [] f = tt
all_true P (x ∷ xs) f = (f x, all_true P xs f)

-- the set behind `in`
chosen_set : (at : Span) (i x : Tree) (ts : List Tuple) (v : Value) → ((d : Option ℕ) (us : List Tuple) → v ≡ Many d us → IsSetOf d us) → ((t : Tuple) → IsLong (needed x) t → LongIn i t) → chosen at (needed x) v ≡ Ok ts → IsItemSet i ts
chosen_set at i x ts (One m) g f e = cc
chosen_set at i x ts (Several t) g f e = cc
chosen_set at i x ts (Truth b) g f e = cc
chosen_set at i x ts (Many d us) g f e = go d (needed x) (g d us refl) f e
  where
    by_test : (n : ℕ) (b : Bool) → b ≡ true → n ≡ n
    by_test n b e = refl

    long : (n m : ℕ) (c : Bool) → nat_eq n m && c ≡ true → n ≡ m
    long n m c h = step (nat_eq n m) refl h
      where
        step : (b : Bool) → nat_eq n m ≡ b → b && c ≡ true → n ≡ m
        step true k l = eqb-true n m k
        step false k l = cc

    as_is : (d n : Option ℕ) (b : Bool) → (if b then (let o : Outcome (List Tuple) = Ok us in o) else rejected Arity at) ≡ Ok ts → (b ≡ true) × (us ≡ ts)
    as_is d n true h = (refl, is_ok us ts h)
    as_is d n false h = cc

    go : (d n : Option ℕ) → IsSetOf d us → ((t : Tuple) → IsLong n t → LongIn i t) → (if fits_needed d n then (let o : Outcome (List Tuple) = Ok us in o) else rejected Arity at) ≡ Ok ts → IsItemSet i ts
    go None n h k e = no_item i ts (sym (as_is None n (fits_needed None n) e).1 ∙ h)
    go (Some m) None h k e =
        subst (IsItemSet i) (as_is (Some m) None true e).1 (record { distinct = h.0; width = m; long = h.1; fits = all_true (LongIn i) us (λ t. k t tt) })
    go (Some m) (Some n) h k e =
        let test = as_is (Some m) (Some n) (fits_needed (Some m) (Some n)) e in
        let same : m ≡ n = long m n (nat_le n arity_limit) test.0 in
        subst (IsItemSet i) test.1 (record { distinct = h.0; width = m; long = h.1; fits = all_as (λ t. length t ≡ m) (LongIn i) us (λ t l. k t (l ∙ same)) h.1 })

-- what an item goes over
pub item_set : (w : World) (s : Scope) (i : Tree) (at : Span) (ts : List Tuple) → GivesSets w → (if has_in i then set_after w s i else and_then (value w s i) (tuples_of at)) ≡ Ok ts → IsItemSet i ts
item_set w s (chain n x (link o y none)) at ts g e = go (is_in (operation o)) refl e
  where
    i : Tree
    i = chain n x (link o y none)

    go : (b : Bool) → is_in (operation o) ≡ b → (if is_some (both x (if b then Some y else None)) then set_after w s i else and_then (value w s i) (tuples_of at)) ≡ Ok ts → IsItemSet i ts
    go true h k = then_ok (value w s y) (chosen (span_of i) (needed x)) ts k (λ v l m. chosen_set (span_of i) i x ts v (λ d us q. g s y d us (l ∙ ap (λ (z : Value). let r : Outcome Value = Ok z in r) q)) (λ t q. λ z. q) m)
    go false h k = item_any w s i at ts g (all_true (LongIn i) ts (λ t z. absurd (let q = h in cc))) k
item_set w s i at ts g e = item_any w s i at ts g (all_true (LongIn i) ts (λ t. tt)) e

-- ---- rows

pub record IsWalk (p : PartialRow) (found rows : List Row) : Type 0 where
  pub new : List Row
  pub whole : rows ≡ found ++ new
  pub from : AllByRecursion (λ r. OnFrom p.key (Some r.key)) new
  pub distinct : IsDistinct same_tuple (keys_of new)

pub record FromOne (w : World) (i : Tree) (p : PartialRow) (ts : List Tuple) (r : Row) : Type 0 where
  pub at : Tuple
  pub there : has ts at ≡ true
  pub way : PartialRow
  pub leads : place w i at p ≡ Ok (Some way)
  pub on : OnFrom way.key (Some r.key)

pub record IsEach (w : World) (i : Tree) (p : PartialRow) (ts : List Tuple) (found rows : List Row) : Type 0 where
  pub new : List Row
  pub whole : rows ≡ found ++ new
  pub from : AllByRecursion (FromOne w i p ts) new
  pub distinct : IsDistinct same_tuple (keys_of new)

keys_join : (xs ys : List Row) → keys_of (xs ++ ys) ≡ keys_of xs ++ keys_of ys
keys_join [] ys = refl
keys_join (x ∷ xs) ys = ap (◌∷◌ x.key) (keys_join xs ys)

distinct_rows : (xs ys : List Row) → IsDistinct same_tuple (keys_of xs) → IsDistinct same_tuple (keys_of ys) → AllByRecursion (λ x. AllByRecursion (λ y. same_tuple x.key y.key ≡ false) ys) xs → IsDistinct same_tuple (keys_of (xs ++ ys))
distinct_rows [] ys h k apart = k
distinct_rows (x ∷ xs) ys h k apart =
    IsDistinct-cons same_tuple x.key (keys_of (xs ++ ys))
    (subst (AllByRecursion (λ (t : Tuple). same_tuple x.key t ≡ false)) (sym (keys_join xs ys)) (all_join (λ (t : Tuple). same_tuple x.key t ≡ false) (keys_of xs) (keys_of ys) (IsDistinct-head same_tuple x.key (keys_of xs) h) (of_rows ys apart.0)))
    (distinct_rows xs ys (IsDistinct-tail same_tuple x.key (keys_of xs) h) k apart.1)
  where
    of_rows : (rows : List Row) → AllByRecursion (λ y. same_tuple x.key y.key ≡ false) rows → AllByRecursion (λ (t : Tuple). same_tuple x.key t ≡ false) (keys_of rows)
    of_rows [] i = tt
    of_rows (r ∷ rows) i = (i.0, of_rows rows i.1)

-- rows from two different tuples
apart_rows : (w : World) (i : Tree) (p q : PartialRow) (t : Tuple) (ts : List Tuple) (xs ys : List Row) → IsItemSet i (t ∷ ts) → place w i t p ≡ Ok (Some q) → AllByRecursion (λ r. OnFrom q.key (Some r.key)) xs → AllByRecursion (FromOne w i p ts) ys
    → AllByRecursion (λ x. AllByRecursion (λ y. same_tuple x.key y.key ≡ false) ys) xs
apart_rows w i p q t ts xs ys set leads h k =
    all_as (λ r. OnFrom q.key (Some r.key)) (λ x. AllByRecursion (λ y. same_tuple x.key y.key ≡ false) ys) xs
    (λ x on. all_as (FromOne w i p ts) (λ y. same_tuple x.key y.key ≡ false) ys (λ y from.
    let unlike = pick (λ u. same_tuple t u ≡ false) ts from.at (IsDistinct-head same_tuple t ts set.distinct) from.there in
    let long : length t ≡ length from.at = set.long.0 ∙ sym (pick (λ u. length u ≡ set.width) ts from.at set.long.1 from.there) in
    let parted = item_parted w i t from.at p q from.way long set.fits.0 (pick (LongIn i) ts from.at set.fits.1 from.there) unlike leads from.leads in
    let one = on x.key refl in
    let two = from.on y.key refl in
    parted_unlike x.key y.key (parted_on one.0 two.0 x.key y.key (parted one.0 two.0 one.1 two.1) one.2 two.2)) k) h

tail_set : (i : Tree) (t : Tuple) (ts : List Tuple) → IsItemSet i (t ∷ ts) → IsItemSet i ts
tail_set i t ts h = record { distinct = IsDistinct-tail same_tuple t ts h.distinct; width = h.width; long = h.long.1; fits = h.fits.1 }

wider : (w : World) (i : Tree) (p : PartialRow) (t : Tuple) (ts : List Tuple) (rows : List Row) → AllByRecursion (FromOne w i p ts) rows → AllByRecursion (FromOne w i p (t ∷ ts)) rows
wider w i p t ts rows h = all_as (FromOne w i p ts) (FromOne w i p (t ∷ ts)) rows (λ r f. record { at = f.at; there = more (same_tuple f.at t) f.there; way = f.way; leads = f.leads; on = f.on }) h
  where
    more : (b : Bool) {c : Bool} → c ≡ true → (b || c) ≡ true
    more true e = refl
    more false e = e

each_walk : (w : World) (i : Tree) (p : PartialRow) (next : PartialRow → List Row → Outcome (List Row)) → ((q : PartialRow) (found rows : List Row) → next q found ≡ Ok rows → IsWalk q found rows) → (ts : List Tuple) → IsItemSet i ts → (found rows : List Row)
    → each (onward (place w i) next p) ts found ≡ Ok rows → IsEach w i p ts found rows
each_walk w i p next step [] set found rows e = record { new = []; whole = sym (is_ok found rows e) ∙ sym (append-nil found); from = tt; distinct = none_there }
each_walk w i p next step (t ∷ ts) set found rows e =
    then_ok (onward (place w i) next p t found) (each (onward (place w i) next p) ts) rows e (λ mid h k. one mid h (each_walk w i p next step ts (tail_set i t ts set) mid rows k))
  where
    own : has (t ∷ ts) t ≡ true
    own = ap (λ (b : Bool). b || has ts t) ((tuple_decides t t).1 refl)

    one : (mid : List Row) → onward (place w i) next p t found ≡ Ok mid → IsEach w i p ts mid rows → IsEach w i p (t ∷ ts) found rows
    one mid h rest = then_ok (place w i t p) (go_on next found) mid h (λ o l m. by_place o l m)
      where
        by_place : (o : Option PartialRow) → place w i t p ≡ Ok o → go_on next found o ≡ Ok mid → IsEach w i p (t ∷ ts) found rows
        by_place None l m = record { new = rest.new; whole = rest.whole ∙ ap (λ (xs : List Row). xs ++ rest.new) (sym (is_ok found mid m)); from = wider w i p t ts rest.new rest.from; distinct = rest.distinct }
        by_place (Some q) l m =
            let here = step q found mid m in
            record {
              new = here.new ++ rest.new;
              whole = rest.whole ∙ ap (λ (xs : List Row). xs ++ rest.new) here.whole ∙ append_assoc found here.new rest.new;
              from = all_join (FromOne w i p (t ∷ ts)) here.new rest.new (all_as (λ r. OnFrom q.key (Some r.key)) (FromOne w i p (t ∷ ts)) here.new (λ r on. record { at = t; there = own; way = q; leads = l; on = on }) here.from) (wider w i p t ts rest.new rest.from);
              distinct = distinct_rows here.new rest.new here.distinct rest.distinct (apart_rows w i p q t ts here.new rest.new set l here.from rest.from);
            }

pub as_walk : (w : World) (i : Tree) (p : PartialRow) (ts : List Tuple) (found rows : List Row) → IsEach w i p ts found rows → IsWalk p found rows
as_walk w i p ts found rows h = record {
  new = h.new;
  whole = h.whole;
  from = all_as (FromOne w i p ts) (λ r. OnFrom p.key (Some r.key)) h.new (λ r f. on_join p.key f.way.key (Some r.key) (item_on w i f.at p f.way f.leads) f.on) h.from;
  distinct = h.distinct;
}

one_row : (at : Span) (s : Scope) (p : PartialRow) (o : Option Tuple) (found rows : List Row) → p.key ≡ o → finished_key at s o found ≡ Ok rows → IsWalk p found rows
one_row at s p None found rows h e = cc
one_row at s p (Some key) found rows h e = go (same_arity key found) (nat_lt (length found) tuples_limit) e
  where
    row : Row
    row = record { key = key; scope = s }

    alone : IsDistinct same_tuple (key ∷ [])
    alone = IsDistinct-cons same_tuple key [] tt none_there

    go : (b c : Bool) → (if b then (if c then (let o : Outcome (List Row) = Ok (found ++ row ∷ []) in o) else rejected TooMany at) else rejected Arity at) ≡ Ok rows → IsWalk p found rows
    go true true k = record { new = row ∷ []; whole = sym (is_ok (found ++ row ∷ []) rows k); from = ((λ b f. (b, h ∙ f, record { rest = []; whole = sym (append-nil b) })), tt); distinct = alone }
    go true false k = cc
    go false c k = cc

pub walk_is : (at : Span) (w : World) → GivesSets w → (l : Links) (p : PartialRow) (found rows : List Row) → walk at w l p found ≡ Ok rows → IsWalk p found rows
walk_is at w g none p found rows e = one_row at p.scope p p.key found rows refl e
walk_is at w g (link o i is) p found rows e =
    then_ok (if has_in i then set_after w p.scope i else and_then (value w p.scope i) (tuples_of at)) (λ ts. each (onward (place w i) (walk at w is) p) ts found) rows e (λ ts h k.
    as_walk w i p ts found rows (each_walk w i p (walk at w is) (λ q f r j. walk_is at w g is q f r j) ts (item_set w p.scope i at ts g h) found rows k))

-- the rows of an item from a place on
pub from_item : (at : Span) (w : World) → GivesSets w → (i : Tree) (is : Links) (p : PartialRow) (ts : List Tuple) (rows : List Row) → IsItemSet i ts → each (onward (place w i) (walk at w is) p) ts [] ≡ Ok rows → IsDistinct same_tuple (keys_of rows)
from_item at w g i is p ts rows set e =
    let all = each_walk w i p (walk at w is) (λ q f r j. walk_is at w g is q f r j) ts set [] rows e in
    subst (λ (l : List Row). IsDistinct same_tuple (keys_of l)) (sym all.whole) all.distinct
