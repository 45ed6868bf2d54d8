-- The parts of items, and the steps of the definition of values.
use Rattle.std.specs.Prelude.{◌≡◌, ◌+◌, ◌-◌, ◌<◌, ◌≤◌, ℕ, zero, suc, not, ◌++◌, List, [], ◌∷◌, length, get_or, drop, take, Option, None, Some, is_some, Bool, true, false, ◌||◌, if◌then◌else◌, Result, Ok, Err, IfOk, IfSome, ℤ, unsigned_abs}
use Rattle.std.proofs.Common.{refl, sym, ap, subst, add-one, append_assoc, ◌∙◌, arith}
use Rattle.std.proofs.Math.Seq.{drop-cons}
use Rattle.std.proofs.lemmas.Bool.{true≢false}
use Rattle.net_base.specs.declared.diagnostic.Span.{Span}
use Rattle.net_lex.specs.declared.token.Token.{Token}
use Rattle.net_sets.specs.Sets.{Tuple}
use Rattle.net_tree.specs.declared.expr.LinkedOperand.{LinkedOperand, out-LinkedOperand}
use Rattle.net_tree.specs.declared.operator.OperatorWords.{OperatorWords as Operator}
use Rattle.net_tree.specs.Spans.{span_of, span_between}
use Rattle.net_tree.specs.Tree.{Tree, Links, Part, Braces, indexed, tuple, negated, signed, reduced, chain, choice, none, link, filled, absent, part}
use Rattle.net_tree.specs.View.{tree, links_of}
use Rattle.net_tree.specs.Weights.{weight, weights}
use Rattle.net_tree.proofs.Views.{links_of-cons, next_link, first_link}
use Rattle.net_base.specs.declared.diagnostic.Fault.{Fault}
use Rattle.net_base.specs.declared.diagnostic.Fault.TheVariants as faults
use Rattle.net_tree.specs.declared.operator.Reduction.{Reduction}
use Rattle.net_expr.specs.declared.row.PartialRow.{PartialRow}
use Rattle.net_expr.specs.declared.row.Row.{Row}
use Rattle.net_expr.specs.declared.row.Keys.{Keys}
use Rattle.net_expr.specs.declared.value.Value.{Value}
use Rattle.net_expr.specs.declared.value.Value.TheVariants.{Truth}
use Rattle.net_base.specs.Outcomes.{Outcome, Refines, Updates, and_then, each}
use Rattle.net_expr.specs.Worlds.{World, Scope}
use Rattle.net_tree.specs.Operations.{operation, is_range, reduction, is_minus}
use Rattle.net_expr.specs.Operators.{apply, decided, truth}
use Rattle.net_expr.specs.Numbers.{number, gathered, range_of}
use Rattle.net_tree.proofs.Items.{behind}
use Rattle.net_expr.specs.Items.{is_in, both, sides, size, any_in, has_in, has_part, begins_range, new_dummy, tuples_of, is_set, walking as walking_over, listing, opened, open_with}
use Rattle.net_expr.specs.Widths.{makes_set, begin_set}
use Rattle.net_expr.specs.Rows.{start, onward, listed, reduce, match_whole, keep, filter_rows, keys, gathered_over}
use Rattle.net_expr.specs.Values.{value, values, chained, index, walk, holds, set_after, place, left_place, either, subscripted, tupled, with_sign, otherwise}
use Rattle.net_expr.specs.Walks.{joined, walked, opened_keys, by_sides, item_tuples, keys_by_sides, index_items, placed, component_places}

pub size-links : (ls : List LinkedOperand) → size (links_of ls) ≡ length ls
size-links [] = refl
size-links (l ∷ ls) = ap size (links_of-cons l ls) ∙ ap (λ k. 1 + k) (size-links ls) ∙ omega arith

pub range_first : (ls : List LinkedOperand) (l : LinkedOperand) → 1 ≤ length ls → l ≡ get_or ls 0 l → is_range (operation (out-LinkedOperand l).operator) ≡ begins_range (links_of ls)
range_first [] l a e = absurd (omega arith)
range_first (x ∷ ls) l a e = ap (λ (k : LinkedOperand). is_range (operation (out-LinkedOperand k).operator)) e ∙ sym (ap begins_range (links_of-cons x ls))

pub set_first : (ls : List LinkedOperand) (l : LinkedOperand) → 1 ≤ length ls → l ≡ get_or ls 0 l → makes_set (operation (out-LinkedOperand l).operator) ≡ begin_set (links_of ls)
set_first [] l a e = absurd (omega arith)
set_first (x ∷ ls) l a e = ap (λ (k : LinkedOperand). makes_set (operation (out-LinkedOperand k).operator)) e ∙ sym (ap begin_set (links_of-cons x ls))

pub ok_by : {A E : Type 0} (r : Result A E) (x y : A) → x ≡ y → IfOk r (λ a. a ≡ y) → IfOk r (λ a. a ≡ x)
ok_by (Ok a) x y e h = h ∙ sym e
ok_by (Err r) x y e h = h

-- an item without `in` is passed over
pub any_left : (ls : List LinkedOperand) (i : ℕ) (l : LinkedOperand) (b : Bool) → i < length ls → l ≡ get_or ls i l → b ≡ has_in (tree (out-LinkedOperand l).operand)
    → any_in (links_of (drop i ls)) ≡ (b || any_in (links_of (drop (i + 1) ls)))
any_left ls i l b h e f = ap any_in (next_link ls i l h e) ∙ ap (λ c. c || any_in (links_of (drop (i + 1) ls))) (sym f)

-- what is answered of one outcome is answered of an equal one
pub answers_by : {A : Type 0} (o wanted : Outcome A) (r : Result A Fault) → wanted ≡ o → Refines o r → Refines wanted r
answers_by o wanted r e h = subst (λ k. Refines k r) (sym e) h

-- a fault of the first step is a fault of all
pub stops : {A B : Type 0} (o : Outcome A) (f : A → Outcome B) (wanted : Outcome B) (e : Fault) → wanted ≡ and_then o f → Refines o (Err e) → Refines wanted (Err e)
stops o f wanted faults.OutOfMemory e h = tt
stops o f wanted (faults.At r) e h = e ∙ ap (λ k. and_then k f) h

-- behind the first step the rest is left
pub goes : {A B : Type 0} (o : Outcome A) (f : A → Outcome B) (wanted : Outcome B) (x : A) → wanted ≡ and_then o f → o ≡ Ok x → wanted ≡ f x
goes o f wanted x e h = e ∙ ap (λ k. and_then k f) h

pub and_then-assoc : {A B C : Type 0} (o : Outcome A) (f : A → Outcome B) (g : B → Outcome C) → and_then (and_then o f) g ≡ and_then o (λ x. and_then (f x) g)
and_then-assoc (Ok x) f g = refl
and_then-assoc (Err r) f g = refl

pub and_then-same : {A B : Type 0} (o : Outcome A) (f g : A → Outcome B) → ((x : A) → f x ≡ g x) → and_then o f ≡ and_then o g
and_then-same (Ok x) f g h = h x
and_then-same (Err r) f g h = refl

-- one link of a chain
pub chained-step : (at : Span) (w : World) (s : Scope) (o : Operator) (x : Tree) (l : Links) (v : Value) → chained at w s (link o x l) v ≡ and_then (joined at (operation o) (value w s x) v) (chained at w s l)
chained-step at w s o x l v = go (decided (operation o) at v) (value w s x)
  where
    go : (d : Outcome (Option Value)) (y : Outcome Value)
        → and_then d (either (chained at w s l) (and_then y (λ u. and_then (apply (operation o) at v u) (chained at w s l))))
        ≡ and_then (and_then d (either (λ u. Ok u) (and_then y (apply (operation o) at v)))) (chained at w s l)
    go (Err r) y = refl
    go (Ok (Some u)) y = refl
    go (Ok None) (Ok u) = refl
    go (Ok None) (Err r) = refl

-- what the first item of braces opens
open_step : {A : Type 0} (at : Span) (b : Bool) (v : Value) (f : List Tuple → Outcome A) (g : Value → Outcome A)
    → and_then (opened at b v) (open_with f g) ≡ (if b || is_set v then and_then (tuples_of at v) f else g v)
open_step at b v f g = go (b || is_set v) (tuples_of at v)
  where
    go : (c : Bool) (ts : Outcome (List Tuple)) → and_then (if c then and_then ts (λ k. Ok (walking_over k)) else Ok (listing v)) (open_with f g) ≡ (if c then and_then ts f else g v)
    go true (Ok ts) = refl
    go true (Err r) = refl
    go false ts = refl

open_plain : (at : Span) (w : World) (s : Scope) (i : Tree) (is : Links) (p : Part)
    → and_then (and_then (value w s i) (opened at (any_in is))) (open_with (walked at w s i is p) (λ v. and_then (values w s is (v ∷ [])) (listed at s (has_part p))))
    ≡ and_then (value w s i) (opened_keys at w s i is p)
open_plain at w s i is p =
    and_then-assoc (value w s i) (opened at (any_in is)) (open_with (walked at w s i is p) (λ v. and_then (values w s is (v ∷ [])) (listed at s (has_part p))))
    ∙ and_then-same (value w s i) _ (opened_keys at w s i is p) (λ v. open_step at (any_in is) v (walked at w s i is p) (λ v. and_then (values w s is (v ∷ [])) (listed at s (has_part p))))

open_sides : (o : Outcome (List Tuple)) (f : List Tuple → Outcome Keys) (g : Value → Outcome Keys) → and_then (and_then o (λ ts. Ok (walking_over ts))) (open_with f g) ≡ and_then o f
open_sides (Ok ts) f g = refl
open_sides (Err r) f g = refl

pub index-filled : (w : World) (s : Scope) (o : Token) (i : Tree) (is : Links) (p : Part) (c : Token) → index w s (filled o i is p c) ≡ index_items (span_between o c) w s i is p
index-filled w s o (chain n x (link r y none)) is p c = go (is_in (operation r))
  where
    i : Tree
    i = chain n x (link r y none)

    go : (b : Bool)
        → and_then (if is_some (both x (behind b y)) then and_then (set_after w s (chain n x (link r y none))) (λ ts. Ok (walking_over ts)) else and_then (value w s (chain n x (link r y none))) (opened (span_between o c) (any_in is)))
        (open_with (walked (span_between o c) w s (chain n x (link r y none)) is p) (λ v. and_then (values w s is (v ∷ [])) (listed (span_between o c) s (has_part p))))
        ≡ keys_by_sides (span_between o c) w s (chain n x (link r y none)) is p (both x (behind b y))
    go true = open_sides (set_after w s (chain n x (link r y none))) _ _
    go false = open_plain (span_between o c) w s (chain n x (link r y none)) is p
index-filled w s o i is p c = open_plain (span_between o c) w s i is p

item_tuples-is : (at : Span) (w : World) (s : Scope) (i : Tree) → (if has_in i then set_after w s i else and_then (value w s i) (tuples_of at)) ≡ item_tuples at w s i
item_tuples-is at w s (chain n x (link r y none)) = go (is_in (operation r))
  where
    go : (b : Bool) → (if is_some (both x (behind b y)) then set_after w s (chain n x (link r y none)) else and_then (value w s (chain n x (link r y none))) (tuples_of at))
        ≡ by_sides at w s (chain n x (link r y none)) (both x (behind b y))
    go true = refl
    go false = refl
item_tuples-is at w s _ = refl

pub walk-step : (at : Span) (w : World) (o : Operator) (i : Tree) (is : Links) (p : PartialRow) (found : List Row)
    → walk at w (link o i is) p found ≡ and_then (item_tuples at w p.scope i) (λ ts. each (onward (place w i) (walk at w is) p) ts found)
walk-step at w o i is p found = ap (λ k. and_then k (λ ts. each (onward (place w i) (walk at w is) p) ts found)) (item_tuples-is at w p.scope i)

pub place-is : (w : World) (i : Tree) (t : Tuple) (p : PartialRow) → place w i t p ≡ placed w i t p (sides i)
place-is w (chain n x (link r y none)) t p = go (is_in (operation r))
  where
    go : (b : Bool) → (if b then placed w (chain n x (link r y none)) t p (Some (x, y)) else placed w (chain n x (link r y none)) t p None) ≡ placed w (chain n x (link r y none)) t p (both x (behind b y))
    go true = refl
    go false = refl
place-is w _ t p = refl

pub left_place-tuple : (at : Span) (w : World) (o : Token) (x : Tree) (l : Links) (c : Token) (own : Outcome Value) (t : Tuple) (p : PartialRow)
    → left_place at w (tuple o x l c) own t p ≡ component_places (span_of (tuple o x l c)) w x l t p
left_place-tuple at w o x l c own [] p = refl
left_place-tuple at w o x l c own (m ∷ ms) p = refl

-- an item's parts are lighter than it
pub weight-sides : (i x y : Tree) → Some (x, y) ≡ sides i → (weight x < weight i) × (weight y < weight i) × (weight x + weight y < weight i)
weight-sides (chain n a (link r b none)) x y h = go (is_in (operation r)) h
  where
    first_of_two : Option (Tree × Tree) → Tree
    first_of_two None = a
    first_of_two (Some q) = q.0

    second_of_two : Option (Tree × Tree) → Tree
    second_of_two None = a
    second_of_two (Some q) = q.1

    go : (c : Bool) → Some (x, y) ≡ both a (behind c b) → (weight x < weight (chain n a (link r b none))) × (weight y < weight (chain n a (link r b none))) × (weight x + weight y < weight (chain n a (link r b none)))
    go true e =
        let left : x ≡ a = ap first_of_two e in
        let right : y ≡ b = ap second_of_two e in
        rw (left, right) (omega arith, omega arith, omega arith)
    go false e = cc
weight-sides _ x y h = cc

-- the value of a tree of each form, with the tree's own place
pub value-indexed : (w : World) (s : Scope) (k : Tree) (n o : Token) (x : Tree) (l : Links) (c : Token) → k ≡ indexed n o x l c
    → value w s k ≡ and_then (and_then (value w s x) (λ v. values w s l (v ∷ []))) (subscripted (span_of k) w s n.text)
value-indexed w s k n o x l c e = rw e refl

pub value-tuple : (w : World) (s : Scope) (k : Tree) (o : Token) (x : Tree) (l : Links) (c : Token) → k ≡ tuple o x l c
    → value w s k ≡ and_then (and_then (value w s x) (λ v. values w s l (v ∷ []))) (tupled (span_of k))
value-tuple w s k o x l c e = rw e refl

pub value-negated : (w : World) (s : Scope) (k : Tree) (n o : Token) (x : Tree) (c : Token) → k ≡ negated n o x c
    → value w s k ≡ and_then (and_then (value w s x) (truth (span_of k))) (λ b. Ok (Truth (not b)))
value-negated w s k n o x c e = rw e refl

pub value-signed : (w : World) (s : Scope) (k : Tree) (t : Token) (x : Tree) → k ≡ signed t x → value w s k ≡ and_then (value w s x) (with_sign (span_of k) (is_minus t))
value-signed w s k t x e = rw e refl

pub value-reduced : (w : World) (s : Scope) (k : Tree) (r : Token) (b : Braces) (x : Tree) → k ≡ reduced r b x
    → value w s k ≡ and_then (index w s b) (reduce (span_of k) (reduction r) (λ q. value w q x))
value-reduced w s k r b x e = rw e refl

pub value-chain : (w : World) (s : Scope) (k : Tree) (n : ℕ) (x : Tree) (l : Links) → k ≡ chain n x l
    → value w s k ≡ and_then (value w s x) (λ v. if begins_range l then and_then (values w s l (v ∷ [])) (range_of (span_of k)) else chained (span_of k) w s l v)
value-chain w s k n x l e = rw e refl

pub value-choice : (w : World) (s : Scope) (k : Tree) (i : Token) (x : Tree) (t : Token) (y : Tree) (p : Part) → k ≡ choice i x t y p
    → value w s k ≡ and_then (and_then (value w s x) (truth (span_of k))) (λ b. if b then value w s y else otherwise w s p)
value-choice w s k i x t y p e = rw e refl

pub left-tuple : (at : Span) (w : World) (k : Tree) (o : Token) (x : Tree) (l : Links) (c : Token) (own : Outcome Value) (t : Tuple) (p : PartialRow) → k ≡ tuple o x l c
    → left_place at w k own t p ≡ component_places (span_of k) w x l t p
left-tuple at w k o x l c own t p e = rw e (left_place-tuple at w o x l c own t p)

abbrev pub is_tuple : Tree → Bool
is_tuple (tuple o x l c) = true
is_tuple _ = false

pub left-other : (at : Span) (w : World) (k : Tree) (own : Outcome Value) (t : Tuple) (p : PartialRow) → is_tuple k ≡ false → left_place at w k own t p ≡ match_whole at (new_dummy w p.scope k) own t p
left-other at w (tuple o x l c) own t p h = absurd (true≢false h)
left-other at w _ own t p h = refl

pub place-sides : (w : World) (i x y : Tree) (t : Tuple) (p : PartialRow) → Some (x, y) ≡ sides i → place w i t p ≡ left_place (span_of i) w x (value w p.scope x) t p
place-sides w i x y t p e = place-is w i t p ∙ ap (placed w i t p) (sym e)

-- a link is lighter than the links with it
pub link_lighter : (ls : List LinkedOperand) (i : ℕ) (l : LinkedOperand) → i < length ls → l ≡ get_or ls i l → weight (tree (out-LinkedOperand l).operand) < weights (links_of ls)
link_lighter ls i l h e =
    let whole = links_drop ls i in
    let here = ap weights (next_link ls i l h e) in omega (arith, whole, here)
  where
    links_drop : (ls : List LinkedOperand) (i : ℕ) → weights (links_of (drop i ls)) ≤ weights (links_of ls)
    links_drop ls zero = omega arith
    links_drop [] (suc i) = omega arith
    links_drop (x ∷ ls) (suc i) = let more = links_drop ls i in let here = ap weights (links_of-cons x ls) in omega (arith, more, here)

-- the first link and the others weigh as much as all
pub first_weighs : (ls : List LinkedOperand) (l : LinkedOperand) → 1 ≤ length ls → l ≡ get_or ls 0 l → weights (links_of ls) ≡ 1 + weight (tree (out-LinkedOperand l).operand) + weights (links_of (drop 1 ls))
first_weighs ls l h e = ap weights (first_link ls l h e)

rest_taken : {A : Type 0} (x : A) (xs : List A) → take (length (x ∷ xs) - 1) xs ≡ xs
rest_taken x xs = let few : length (x ∷ xs) - 1 ≡ length xs = omega arith in ap (λ k. take k xs) few ∙ whole xs
  where
    whole : {A : Type 0} (ys : List A) → take (length ys) ys ≡ ys
    whole [] = refl
    whole (y ∷ ys) = ap (◌∷◌ y) (whole ys)

-- the first of a slice, and the rest of it
pub split_first : {A : Type 0} (xs : List A) (x : A) → 1 ≤ length xs → x ≡ get_or xs 0 x → xs ≡ x ∷ take (length xs - 1) (drop 1 xs)
split_first [] x h e = absurd (omega arith)
split_first (y ∷ ys) x h e = ap (λ z. z ∷ ys) (sym e) ∙ ap (◌∷◌ x) (sym (rest_taken y ys))

pub rest_first : (ls : List LinkedOperand) (l : LinkedOperand) → 1 ≤ length ls → l ≡ get_or ls 0 l
    → links_of ls ≡ link (out-LinkedOperand l).operator (tree (out-LinkedOperand l).operand) (links_of (take (length ls - 1) (drop 1 ls)))
rest_first ls l h e = ap links_of (split_first ls l h e) ∙ links_of-cons l (take (length ls - 1) (drop 1 ls))

pub ok_same : {A : Type 0} (x y : A) (o p : Outcome A) → o ≡ Ok x → p ≡ Ok y → o ≡ p → x ≡ y
ok_same x y o p a b e = ap (ok_or x) (sym a ∙ e ∙ b)
  where
    ok_or : {A : Type 0} → A → Outcome A → A
    ok_or d (Ok z) = z
    ok_or d (Err r) = d

-- a walk from the start
pub from_start : (at : Span) (w : World) (i : Tree) (is : Links) (s : Scope) (p : PartialRow) (ts : List Tuple) (found : List Row) → start s ≡ p → found ≡ []
    → each (onward (place w i) (walk at w is) (start s)) ts [] ≡ each (onward (place w i) (walk at w is) p) ts found
from_start at w i is s p ts found e h =
    ap (λ q. each (onward (place w i) (walk at w is) q) ts []) e ∙ ap (each (onward (place w i) (walk at w is) p) ts) (sym h)

pub leaves_answers : {A : Type 0} (o wanted : Outcome A) (e : Fault) (new : A) → wanted ≡ o → Updates o (Err e) new → Refines wanted (Err e)
leaves_answers o wanted faults.OutOfMemory new e h = tt
leaves_answers o wanted (faults.At r) new e h = e ∙ h

-- one step over links
pub values-left : (w : World) (s : Scope) (ls : List LinkedOperand) (i : ℕ) (l : LinkedOperand) (found : List Value) (wanted : Outcome (List Value)) → i < length ls → l ≡ get_or ls i l
    → values w s (links_of (drop i ls)) found ≡ wanted
    → wanted ≡ and_then (value w s (tree (out-LinkedOperand l).operand)) (λ v. values w s (links_of (drop (i + 1) ls)) (found ++ v ∷ []))
values-left w s ls i l found wanted h e same = sym same ∙ ap (λ k. values w s k found) (next_link ls i l h e)

pub chained-left : (at : Span) (w : World) (s : Scope) (ls : List LinkedOperand) (i : ℕ) (l : LinkedOperand) (v : Value) (wanted : Outcome Value) → i < length ls → l ≡ get_or ls i l
    → chained at w s (links_of (drop i ls)) v ≡ wanted
    → wanted ≡ and_then (joined at (operation (out-LinkedOperand l).operator) (value w s (tree (out-LinkedOperand l).operand)) v) (chained at w s (links_of (drop (i + 1) ls)))
chained-left at w s ls i l v wanted h e same =
    sym same ∙ ap (λ k. chained at w s k v) (next_link ls i l h e) ∙ chained-step at w s (out-LinkedOperand l).operator (tree (out-LinkedOperand l).operand) (links_of (drop (i + 1) ls)) v

drop_at : {A : Type 0} (xs : List A) (i : ℕ) (x : A) → i < length xs → x ≡ get_or xs i x → drop i xs ≡ x ∷ drop (i + 1) xs
drop_at xs i x h e = let a = drop-cons xs i x h in let b = add-one i in cc

-- one step over rows
pub kept-next : (f : Scope → Outcome Bool) (rows left : List Row) (r : Row) (found : List Row) (wanted : Outcome (List Row)) → rows ≡ r ∷ left
    → filter_rows f rows found ≡ wanted
    → wanted ≡ and_then (and_then (f r.scope) (λ b. Ok (keep r found b))) (filter_rows f left)
kept-next f rows left r found wanted e same =
    sym same ∙ ap (λ k. filter_rows f k found) e ∙ sym (and_then-assoc (f r.scope) (λ b. Ok (keep r found b)) (filter_rows f left))

pub kept-all : (f : Scope → Outcome Bool) (rows found : List Row) (wanted : Outcome (List Row)) → length rows ≡ 0 → filter_rows f rows found ≡ wanted → wanted ≡ Ok found
kept-all f [] found wanted h same = sym same
kept-all f (r ∷ rows) found wanted h same = absurd (omega (arith, h))

-- what one value more makes of it, or its fault
abbrev pub one_more : Span → Reduction → Option ℤ → Value → Outcome (Option ℤ)
one_more at r so_far v = and_then (number at v) (λ n. Ok (Some (gathered r so_far n)))

pub gathered-left : (at : Span) (r : Reduction) (body : Scope → Outcome Value) (rows : List Row) (i : ℕ) (row : Row) (so_far : Option ℤ) (wanted : Outcome (Option ℤ)) → i < length rows → row ≡ get_or rows i row
    → gathered_over at r body (drop i rows) so_far ≡ wanted
    → wanted ≡ and_then (and_then (body row.scope) (one_more at r so_far)) (gathered_over at r body (drop (i + 1) rows))
gathered-left at r body rows i row so_far wanted h e same =
    sym same ∙ ap (λ k. gathered_over at r body k so_far) (drop_at rows i row h e)
    ∙ and_then-same (body row.scope) _ _ (λ v. sym (and_then-assoc (number at v) (λ n. Ok (Some (gathered r so_far n))) (gathered_over at r body (drop (i + 1) rows))))
    ∙ sym (and_then-assoc (body row.scope) (one_more at r so_far) (gathered_over at r body (drop (i + 1) rows)))

pub if_some_by : (o : Option ℤ) (k n : ℕ) → k ≤ n → IfSome o (λ a. unsigned_abs a ≤ k) → IfSome o (λ a. unsigned_abs a ≤ n)
if_some_by None k n h small = small
if_some_by (Some a) k n h small = omega arith

-- without a condition all rows are kept
all_kept : (rows found : List Row) → filter_rows (λ q. Ok true) rows found ≡ Ok (found ++ rows)
all_kept [] found = ap Ok (sym (append_nil found))
  where
    append_nil : (rs : List Row) → rs ++ [] ≡ rs
    append_nil [] = refl
    append_nil (r ∷ rs) = ap (◌∷◌ r) (append_nil rs)
all_kept (r ∷ rows) found = all_kept rows (found ++ r ∷ []) ∙ ap Ok (append_assoc found (r ∷ []) rows)

pub unconditioned : (at : Span) (w : World) (p : Part) (n : ℕ) (rows : List Row) → has_part p ≡ false → and_then (filter_rows (λ q. holds at w q p) rows []) (λ left. Ok (keys n left)) ≡ Ok (keys n rows)
unconditioned at w absent n rows h = ap (λ o. and_then o (λ left. Ok (keys n left))) (all_kept rows [])
unconditioned at w (part m x) n rows h = cc

pub ruleset walking = (chained-step, index-filled, walk-step, place-is, left_place-tuple, weight-sides)
