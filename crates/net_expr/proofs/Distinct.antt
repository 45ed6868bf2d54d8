-- No key of braces stands twice, where sets have their tuples once.
use Rattle.std.specs.Prelude.{◌≡◌, ℕ, Bool, true, false, [], ◌∷◌, length, nat_eq, Option, None, Some, if◌then◌else◌, Ok}
use Rattle.std.proofs.Common.{refl, ap, sym, ◌∙◌, subst, arith}
use Rattle.net_base.specs.declared.diagnostic.Span.{Span}
use Rattle.net_sets.specs.Sets.{Tuple, same_tuple}
use Rattle.net_sets.proofs.Sames.{tuple_decides}
use Rattle.net_tree.specs.Spans.{span_of}
use Rattle.net_tree.specs.Tree.{Tree, leaf, tuple, chain, none, link}
use Rattle.net_base.specs.declared.error_code.ErrorCode.TheVariants.{Arity}
use Rattle.net_expr.specs.declared.row.PartialRow.{PartialRow}
use Rattle.net_expr.specs.declared.value.Value.{Value}
use Rattle.net_expr.specs.declared.value.Value.TheVariants.{One, Several, Many, Truth}
use Rattle.net_expr.specs.Items.{new_dummy, is_in, needed}
use Rattle.net_tree.specs.Operations.{operation}
use Rattle.net_base.specs.Outcomes.{Outcome, rejected}
use Rattle.net_expr.specs.Rows.{with_key, bind, matches_tuple, matches_as_tuple, match_component, match_whole}
use Rattle.net_expr.specs.Values.{value, place, left_place, places}
use Rattle.net_expr.specs.Worlds.{Name, World}
use Rattle.net_expr.proofs.Parting.{then_ok, is_ok, OnFrom, on_same, on_join, on_longer, first_difference, PartedFrom, longer_parted, fits_then, fitted_on, places_on, pair_parted, places_parted}

-- ---- an item

-- as many members as the left side of an item says
abbrev pub IsLong : Option ℕ → Tuple → Type 0
IsLong None t = Unit {0}
IsLong (Some n) t = length t ≡ n

whole_of : Value → Tuple
whole_of (One m) = m ∷ []
whole_of (Several t) = t
whole_of (Many d ts) = []
whole_of (Truth b) = []

whole_agreed : (at : Span) (t : Tuple) (p q : PartialRow) (v : Tuple) → matches_tuple at t p v ≡ Ok (Some q) → (same_tuple v t ≡ true) × (p ≡ q)
whole_agreed at t p q v e = go (nat_eq (length v) (length t)) (same_tuple v t) refl e
  where
    go : (b c : Bool) → same_tuple v t ≡ c → (if b then (let o : Outcome (Option PartialRow) = Ok (if c then Some p else None) in o) else rejected Arity at) ≡ Ok (Some q) → (same_tuple v t ≡ true) × (p ≡ q)
    go true true f h = (f, (let same : Some p ≡ Some q = is_ok (Some p) (Some q) h in cc))
    go true false f h = cc
    go false c f h = cc

value_agreed : (at : Span) (t : Tuple) (p q : PartialRow) (v : Value) → matches_as_tuple at t p v ≡ Ok (Some q) → (same_tuple (whole_of v) t ≡ true) × (p ≡ q)
unfolding whole_of
value_agreed at t p q (One m) e = whole_agreed at t p q (m ∷ []) e
value_agreed at t p q (Several u) e = whole_agreed at t p q u e
value_agreed at t p q (Many d ts) e = cc
value_agreed at t p q (Truth b) e = cc

same_place : (p q : PartialRow) → (let o : Outcome (Option PartialRow) = Ok (Some p) in o ≡ Ok (Some q)) → p ≡ q
same_place p q e = let same : Some p ≡ Some q = is_ok (Some p) (Some q) e in cc

on_place : (p z q : PartialRow) → OnFrom p.key z.key → (let o : Outcome (Option PartialRow) = Ok (Some z) in o ≡ Ok (Some q)) → OnFrom p.key q.key
on_place p z q h e = subst (λ (y : PartialRow). OnFrom p.key y.key) (same_place z q e) h

alone_on : (at : Span) (d : Option Name) (own : Outcome Value) (t : Tuple) (p q : PartialRow) → match_whole at d own t p ≡ Ok (Some q) → OnFrom p.key q.key
alone_on at (Some name) own [] p q e = on_place p p q (on_same p.key) e
alone_on at (Some name) own (m ∷ ms) p q e = on_place p (bind name m p) q (on_longer (m ∷ []) p.key) e
alone_on at None own t p q e = then_ok own (matches_as_tuple at t p) (Some q) e (λ v h i. subst (λ (z : PartialRow). OnFrom p.key z.key) (value_agreed at t p q v i).1 (on_same p.key))

none_parted : (at : Span) (own : Outcome Value) (t u : Tuple) (p q r : PartialRow) → same_tuple t u ≡ false → match_whole at None own t p ≡ Ok (Some q) → match_whole at None own u p ≡ Ok (Some r) → PartedFrom q.key r.key
none_parted at own t u p q r unlike e f =
    then_ok own (matches_as_tuple at t p) (Some q) e (λ v h i. then_ok own (matches_as_tuple at u p) (Some r) f (λ x j k.
    let a = value_agreed at t p q v i in
    let b = value_agreed at u p r x k in
    let values : v ≡ x = is_ok v x (sym h ∙ j) in
    let same : t ≡ u = sym ((tuple_decides (whole_of v) t).0 a.0) ∙ ap whole_of values ∙ (tuple_decides (whole_of x) u).0 b.0 in
    let alike : same_tuple t u ≡ true = (tuple_decides t u).1 same in
    absurd (let c = unlike in cc)))

places_of : (p y z q r : PartialRow) → PartedFrom y.key z.key → (let o : Outcome (Option PartialRow) = Ok (Some y) in o ≡ Ok (Some q)) → (let o : Outcome (Option PartialRow) = Ok (Some z) in o ≡ Ok (Some r)) → PartedFrom q.key r.key
places_of p y z q r h e f = subst (λ (x : PartialRow). PartedFrom x.key r.key) (same_place y q e) (subst (λ (x : PartialRow). PartedFrom y.key x.key) (same_place z r f) h)

alone_parted : (at : Span) (d : Option Name) (own : Outcome Value) (t u : Tuple) (p q r : PartialRow) → length t ≡ 1 → length u ≡ 1 → same_tuple t u ≡ false → match_whole at d own t p ≡ Ok (Some q) → match_whole at d own u p ≡ Ok (Some r) → PartedFrom q.key r.key
alone_parted at None own t u p q r i j unlike e f = none_parted at own t u p q r unlike e f
alone_parted at (Some name) own [] u p q r i j unlike e f = absurd (let h = i in omega arith)
alone_parted at (Some name) own (m ∷ k ∷ ms) u p q r i j unlike e f = absurd (let h = i in omega arith)
alone_parted at (Some name) own (m ∷ []) [] p q r i j unlike e f = absurd (let h = j in omega arith)
alone_parted at (Some name) own (m ∷ []) (n ∷ k ∷ ns) p q r i j unlike e f = absurd (let h = j in omega arith)
alone_parted at (Some name) own (m ∷ []) (n ∷ []) p q r i j unlike e f =
    places_of p (bind name m p) (bind name n p) q r (longer_parted (m ∷ []) (n ∷ []) p.key (first_difference (m ∷ []) (n ∷ []) refl unlike)) e f

left_on : (at : Span) (w : World) (x : Tree) (own : Outcome Value) (t : Tuple) (p q : PartialRow) → left_place at w x own t p ≡ Ok (Some q) → OnFrom p.key q.key
left_on at w (tuple o x l c) own [] p q e = on_place p p q (on_same p.key) e
left_on at w (tuple o x l c) own (m ∷ ms) p q e =
    let s = fits_then (match_component (span_of (tuple o x l c)) (new_dummy w p.scope x) (value w p.scope x) m p) (places (span_of (tuple o x l c)) w l ms) q e in
    on_join p.key s.0.key q.key (fitted_on (span_of (tuple o x l c)) (new_dummy w p.scope x) (value w p.scope x) m p s.0 s.1) (places_on (span_of (tuple o x l c)) w l ms s.0 q s.2)
left_on at w x own t p q e = alone_on at (new_dummy w p.scope x) own t p q e

left_parted : (at : Span) (w : World) (x : Tree) (own : Outcome Value) (t u : Tuple) (p q r : PartialRow) → IsLong (needed x) t → IsLong (needed x) u → same_tuple t u ≡ false → left_place at w x own t p ≡ Ok (Some q) → left_place at w x own u p ≡ Ok (Some r) → PartedFrom q.key r.key
left_parted at w (tuple o x l c) own [] u p q r i j unlike e f = absurd (let h = i in omega arith)
left_parted at w (tuple o x l c) own (m ∷ ms) [] p q r i j unlike e f = absurd (let h = j in omega arith)
left_parted at w (tuple o x l c) own (m ∷ ms) (n ∷ ns) p q r i j unlike e f =
    pair_parted (span_of (tuple o x l c)) (new_dummy w p.scope x) (value w p.scope x) w l m n ms ns p q r
    (λ z v g h. places_parted (span_of (tuple o x l c)) w l ms ns z q r (omega (arith, i)) (omega (arith, j)) v g h) unlike e f
left_parted at w (leaf k) own t u p q r i j unlike e f = alone_parted at (new_dummy w p.scope (leaf k)) own t u p q r i j unlike e f
left_parted at w x own t u p q r i j unlike e f = none_parted at own t u p q r unlike e f

key_parted : (t u : Tuple) (p q r : PartialRow) → length t ≡ length u → same_tuple t u ≡ false → (let o : Outcome (Option PartialRow) = Ok (Some (with_key t p)) in o ≡ Ok (Some q)) → (let o : Outcome (Option PartialRow) = Ok (Some (with_key u p)) in o ≡ Ok (Some r)) → PartedFrom q.key r.key
key_parted t u p q r l unlike e f = places_of p (with_key t p) (with_key u p) q r (longer_parted t u p.key (first_difference t u l unlike)) e f

-- a tuple is as long as the left of `in` says
abbrev pub LongIn : Tree → Tuple → Type 0
LongIn (chain n x (link o y none)) t = is_in (operation o) ≡ true → IsLong (needed x) t
LongIn _ t = Unit {0}

pub item_on : (w : World) (i : Tree) (t : Tuple) (p q : PartialRow) → place w i t p ≡ Ok (Some q) → OnFrom p.key q.key
item_on w (chain n x (link o y none)) t p q e = go (is_in (operation o)) e
  where
    go : (b : Bool) → (if b then left_place (span_of (chain n x (link o y none))) w x (value w p.scope x) t p else Ok (Some (with_key t p))) ≡ Ok (Some q) → OnFrom p.key q.key
    go true h = left_on (span_of (chain n x (link o y none))) w x (value w p.scope x) t p q h
    go false h = on_place p (with_key t p) q (on_longer t p.key) h
item_on w i t p q e = on_place p (with_key t p) q (on_longer t p.key) e

pub item_parted : (w : World) (i : Tree) (t u : Tuple) (p q r : PartialRow) → length t ≡ length u → LongIn i t → LongIn i u → same_tuple t u ≡ false → place w i t p ≡ Ok (Some q) → place w i u p ≡ Ok (Some r) → PartedFrom q.key r.key
item_parted w (chain n x (link o y none)) t u p q r l a b unlike e f = go (is_in (operation o)) refl e f
  where
    go : (c : Bool) → is_in (operation o) ≡ c → (if c then left_place (span_of (chain n x (link o y none))) w x (value w p.scope x) t p else Ok (Some (with_key t p))) ≡ Ok (Some q)
        → (if c then left_place (span_of (chain n x (link o y none))) w x (value w p.scope x) u p else Ok (Some (with_key u p))) ≡ Ok (Some r) → PartedFrom q.key r.key
    go true g h k = left_parted (span_of (chain n x (link o y none))) w x (value w p.scope x) t u p q r (a g) (b g) unlike h k
    go false g h k = key_parted t u p q r l unlike h k
item_parted w i t u p q r l a b unlike e f = key_parted t u p q r l unlike e f
