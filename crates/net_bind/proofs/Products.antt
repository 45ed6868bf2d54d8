-- A product has a tuple where its factors have the two parts of it; the products after `within` are sets, and those that AMPL defines.
use Rattle.std.specs.Prelude.{◌≡◌, ◌≤◌, ◌<◌, ◌+◌, ◌*◌, ◌&&◌, ◌||◌, ℕ, Bool, true, false, List, [], ◌∷◌, ◌++◌, length, take, drop, get_or, min, max, nat_le, Option, None, Some, if◌then◌else◌, Ok, IfOk}
use Rattle.std.specs.List.{AllByRecursion, fold}
use Rattle.std.proofs.Common.{refl, ap, sym, ◌∙◌, subst, inr, arith}
use Rattle.std.proofs.lemmas.Bool.{le-leb, leb-true}
use Rattle.std.proofs.lemmas.List.{take_min, drop_min, length-append}
use Rattle.std.proofs.lemmas.List.Folds.{list_any-append}
use Rattle.std.proofs.Math.Bool.{or_assoc, or-true, or-false, and-false, and-or_distrib_left, and-or_distrib_right}
use Rattle.net_base.specs.declared.diagnostic.Span.{Span}
use Rattle.net_base.specs.declared.error_code.ErrorCode.TheVariants.{Arity}
use Rattle.net_base.specs.Outcomes.{Outcome, and_then, rejected}
use Rattle.net_base.specs.Places.{Places, Finds, Model}
use Rattle.net_base.proofs.Found.{finds_then, finds_if}
use Rattle.net_sets.specs.Limits.{arity_limit}
use Rattle.net_sets.specs.Operations.{AreLong, union, joined_to, product, widest, narrowest}
use Rattle.net_sets.specs.Sets.{Tuple, same_tuple, has, added}
use Rattle.net_sets.proofs.Crossing.{least}
use Rattle.net_sets.proofs.Distinct.{put_last, stays}
use Rattle.net_sets.proofs.Parts.{same_parts}
use Rattle.net_sets.proofs.Sames.{tuple_decides}
use Rattle.net_tree.specs.declared.expr.Expr.{Expr}
use Rattle.net_tree.specs.declared.expr.LinkedOperand.{LinkedOperand, out-LinkedOperand}
use Rattle.net_tree.specs.declared.operator.BinOp.{BinOp}
use Rattle.net_tree.specs.declared.operator.BinOp.TheVariants as op
use Rattle.net_tree.specs.declared.operator.OperatorWords.{OperatorWords as Operator}
use Rattle.net_tree.specs.Operations.{operation, is_range}
use Rattle.net_tree.specs.Spans.{span_of}
use Rattle.net_tree.specs.Standing.{Stands, LinksStand}
use Rattle.net_tree.specs.Tree.{Tree, Links, leaf, indexed, parens, tuple, negated, braced, signed, reduced, chain, choice, net, none, link}
use Rattle.net_tree.specs.View.{tree, links_of}
use Rattle.net_tree.proofs.Views.{next_link}
use Rattle.net_expr.specs.declared.value.Value.{Value}
use Rattle.net_expr.specs.declared.value.Value.TheVariants.{One, Several, Many, Truth}
use Rattle.net_expr.specs.Items as items
use Rattle.net_expr.specs.Sets.{counted}
use Rattle.net_expr.specs.SetValues.{IsSetOf, GivesSets, HasSets}
use Rattle.net_expr.specs.Values.{value}
use Rattle.net_expr.specs.Worlds.{World}
use Rattle.net_expr.proofs.KeysOnce.{union_distinct}
use Rattle.net_expr.proofs.ValueFaults.{whole_stands, finds_value}
use Rattle.net_expr.proofs.Walked.{none_there, all_join}
use Rattle.net_meaning.specs.OfTrees.{env_of, begins_range, IsValue, AreOperandValues, IsChain}
use Rattle.net_meaning.specs.Operators as meant
use Rattle.net_meaning.specs.Values.{Env, Whether, HasRange}
use Rattle.net_meaning.proofs.Erased.{begins_range_is}
use Rattle.net_meaning.proofs.Giving.{gives_then, gives_any, gives_if, gives_as}
use Rattle.net_meaning.proofs.Meaning.{evaluation_is_sound}
use Rattle.net_bind.specs.declared.superset.Crossed.{Crossed}
use Rattle.net_bind.specs.Supersets.{crossed_by, AreParted}
use Rattle.net_bind.specs.Factors.{SizedSet, is_cross, are_crosses, is_product, have_size, as_factor, both_crossed, crossed, factor, product_of, with_factors}

-- ---- which tuples a product has

has_added : (ts : List Tuple) (x t : Tuple) → has (added ts x) t ≡ (has ts t || same_tuple t x)
has_added ts x t = step (has ts x) refl
  where
    there : (b : Bool) → same_tuple t x ≡ b → has ts x ≡ true → has ts t ≡ (has ts t || b)
    there true f e = ap (has ts) ((tuple_decides t x).0 f) ∙ e ∙ sym (or-true (has ts t))
    there false f e = sym (or-false (has ts t))

    step : (b : Bool) → has ts x ≡ b → has (added ts x) t ≡ (has ts t || same_tuple t x)
    step true e = ap (λ us. has us t) (stays ts x e) ∙ there (same_tuple t x) refl e
    step false e = ap (λ us. has us t) (put_last ts x e) ∙ list_any-append (same_tuple t) ts (x ∷ []) ∙ ap (λ b. has ts t || b) (or-false (same_tuple t x))

pub has_union : (xs ys : List Tuple) (t : Tuple) → has (union xs ys) t ≡ (has xs t || has ys t)
has_union xs [] t = sym (or-false (has xs t))
has_union xs (y ∷ ys) t = has_union (added xs y) ys t ∙ ap (λ b. b || has ys t) (has_added xs y t) ∙ or_assoc (has xs t) (same_tuple t y) (has ys t)

has_after : (x : Tuple) (ys : List Tuple) (t : Tuple) → has (joined_to x ys) t ≡ (same_tuple (take (length x) t) x && has ys (drop (length x) t))
has_after x [] t = sym (and-false (same_tuple (take (length x) t) x))
has_after x (y ∷ ys) t =
    let front = same_tuple (take (length x) t) x in
    ap (λ b. b || has (joined_to x ys) t) (same_parts x y t)
    ∙ ap (λ b. (front && same_tuple (drop (length x) t) y) || b) (has_after x ys t)
    ∙ sym (and-or_distrib_left front (same_tuple (drop (length x) t) y) (has ys (drop (length x) t)))

has_product : (n : ℕ) (xs ys : List Tuple) (t : Tuple) → AreLong n xs → has (product xs ys) t ≡ (has xs (take n t) && has ys (drop n t))
has_product n [] ys t long = refl
has_product n (x ∷ xs) ys t long =
    list_any-append (same_tuple t) (joined_to x ys) (product xs ys)
    ∙ ap (λ b. b || has (product xs ys) t) (has_after x ys t ∙ ap (λ k. same_tuple (take k t) x && has ys (drop k t)) long.0)
    ∙ ap (λ b. (same_tuple (take n t) x && has ys (drop n t)) || b) (has_product n xs ys t long.1)
    ∙ sym (and-or_distrib_right (same_tuple (take n t) x) (has xs (take n t)) (has ys (drop n t)))

has_crossed : (n : ℕ) (xs ys : List Tuple) (t : Tuple) → AreLong n xs → has (union [] (product xs ys)) t ≡ (has xs (take n t) && has ys (drop n t))
has_crossed n xs ys t long = has_union [] (product xs ys) t ∙ has_product n xs ys t long

-- ---- the last factor

pub crossed_last : (ts : List Tuple) (fs : List Crossed) (f : Crossed) → crossed_by ts (fs ++ f ∷ []) ≡ union [] (product (crossed_by ts fs) f.set)
crossed_last ts [] f = refl
crossed_last ts (g ∷ fs) f = crossed_last (union [] (product ts g.set)) fs f

pub parted_before : (ts : List Tuple) (fs : List Crossed) (f : Crossed) → AreParted ts (fs ++ f ∷ []) → AreParted ts fs × AreLong f.start (crossed_by ts fs)
parted_before ts [] f h = (tt, h.0)
parted_before ts (g ∷ fs) f h = let (p, l) = parted_before (union [] (product ts g.set)) fs f h.1 in ((h.0, p), l)

pub parted_with : (ts : List Tuple) (fs : List Crossed) (f : Crossed) → AreParted ts fs → AreLong f.start (crossed_by ts fs) → AreParted ts (fs ++ f ∷ [])
parted_with ts [] f h l = (l, tt)
parted_with ts (g ∷ fs) f h l = (h.0, parted_with (union [] (product ts g.set)) fs f h.1 l)

exchanged : (a b : Bool) → (a && b) ≡ (b && a)
exchanged true true = refl
exchanged true false = refl
exchanged false true = refl
exchanged false false = refl

-- the last factor is asked for the last members, the product of the others for those before
pub has_last : (ts : List Tuple) (fs : List Crossed) (f : Crossed) (gs : List Crossed) (t front back : Tuple) (m : ℕ) → AreParted ts gs → gs ≡ fs ++ f ∷ [] → m ≡ min f.start (length t) → front ≡ take m t → back ≡ drop m t
    → (has f.set back && has (crossed_by ts fs) front) ≡ has (crossed_by ts gs) t
has_last ts fs f gs t front back m h e size i j =
    let parted = parted_before ts fs f (subst (AreParted ts) e h) in
    exchanged (has f.set back) (has (crossed_by ts fs) front)
    ∙ ap (λ p. has (crossed_by ts fs) p && has f.set back) (i ∙ ap (λ k. take k t) size ∙ take_min f.start t)
    ∙ ap (λ q. has (crossed_by ts fs) (take f.start t) && has f.set q) (j ∙ ap (λ k. drop k t) size ∙ drop_min f.start t)
    ∙ sym (has_crossed f.start (crossed_by ts fs) f.set t parted.1)
    ∙ sym (ap (λ us. has us t) (ap (crossed_by ts) e ∙ crossed_last ts fs f))

-- ---- tuples of one length

no_more : (lo : ℕ) (ts : List Tuple) → fold (λ n t. min n (length t)) lo ts ≤ lo
no_more lo [] = omega arith
no_more lo (t ∷ ts) = let less = no_more (min lo (length t)) ts in omega arith

all_long : (n lo hi : ℕ) (ts : List Tuple) → n ≤ fold (λ n t. min n (length t)) lo ts → fold (λ n t. max n (length t)) hi ts ≤ n → AreLong n ts
all_long n lo hi [] h k = tt
all_long n lo hi (t ∷ ts) h k =
    let low = no_more (min lo (length t)) ts in
    let high = least (max hi (length t)) ts in
    (omega arith, all_long n (min lo (length t)) (max hi (length t)) ts h k)

-- ---- sets whose tuples have their dimension

left_true : (a b : Bool) → (a && b) ≡ true → a ≡ true
left_true true b e = refl
left_true false b e = e

right_true : (a b : Bool) → (a && b) ≡ true → b ≡ true
right_true true b e = e
right_true false b e = cc

pub of_size : (n : ℕ) (ts : List Tuple) → have_size n ts ≡ true → AreLong n ts
of_size n ts h =
    let wide = nat_le (widest ts) n in
    let narrow = nat_le n (narrowest ts) in
    all_long n arity_limit 0 ts (leb-true n (narrowest ts) (right_true wide narrow h)) (leb-true (widest ts) n (left_true wide narrow h))

long_after : (n m : ℕ) (x : Tuple) (ys : List Tuple) → length x ≡ n → AreLong m ys → AreLong (n + m) (joined_to x ys)
long_after n m x [] h k = tt
long_after n m x (y ∷ ys) h k = (length-append x y ∙ omega (arith, h, k.0), long_after n m x ys h k.1)

long_product : (n m : ℕ) (xs ys : List Tuple) → AreLong n xs → AreLong m ys → AreLong (n + m) (product xs ys)
long_product n m [] ys h k = tt
long_product n m (x ∷ xs) ys h k = all_join (λ t. length t ≡ n + m) (joined_to x ys) (product xs ys) (long_after n m x ys h.0 k) (long_product n m xs ys h.1 k)

long_added : (n : ℕ) (ts : List Tuple) (t : Tuple) → AreLong n ts → length t ≡ n → AreLong n (added ts t)
long_added n ts t h k = go (has ts t)
  where
    go : (b : Bool) → AreLong n (if b then ts else ts ++ t ∷ [])
    go true = h
    go false = all_join (λ u. length u ≡ n) ts (t ∷ []) h (k, tt)

long_union : (n : ℕ) (xs ys : List Tuple) → AreLong n xs → AreLong n ys → AreLong n (union xs ys)
long_union n xs [] h k = h
long_union n xs (y ∷ ys) h k = long_union n (added xs y) ys (long_added n xs y h k.0) k.1

pub crossed_long : (n m : ℕ) (xs ys : List Tuple) → AreLong n xs → AreLong m ys → AreLong (n + m) (union [] (product xs ys))
crossed_long n m xs ys h k = long_union (n + m) [] (product xs ys) tt (long_product n m xs ys h k)

long_of : (d : Option ℕ) (ts : List Tuple) → IsSetOf d ts → AreLong (counted d) ts
long_of None ts h = subst (AreLong 1) (sym h) tt
long_of (Some n) ts h = h.1

-- ---- expressions that are no products

pub alike : (w : World) (e : Expr) (x : Tree) → tree e ≡ x → product_of w x ≡ factor w x → product_of w (tree e) ≡ factor w (tree e)
alike w e x h k = ap (product_of w) h ∙ k ∙ sym (ap (factor w) h)

-- ---- one step over links

pub factors-left : (at : Span) (w : World) (ls : List LinkedOperand) (i : ℕ) (l : LinkedOperand) (a : Option SizedSet) (wanted : Outcome (Option SizedSet)) → i < length ls → l ≡ get_or ls i l
    → with_factors at w (links_of (drop i ls)) a ≡ wanted
    → wanted ≡ and_then (factor w (tree (out-LinkedOperand l).operand)) (λ b. and_then (crossed at a b) (with_factors at w (links_of (drop (i + 1) ls))))
factors-left at w ls i l a wanted h e same = sym same ∙ ap (λ k. with_factors at w k a) (next_link ls i l h e)

-- ---- a set that is found is one

abbrev pub IsSet : Option SizedSet → Type 0
IsSet None = Unit {0}
IsSet (Some a) = IsSetOf a.dimension a.tuples

set_factor : (at : Span) (v : Value) → ((d : Option ℕ) (ts : List Tuple) → v ≡ Many d ts → IsSetOf d ts) → IfOk (as_factor at v) IsSet
set_factor at (Many d ts) h = gives_if IsSet (have_size (counted d) ts) _ _ (λ e. h d ts refl) (λ e. tt)
set_factor at (One m) h = tt
set_factor at (Several t) h = tt
set_factor at (Truth b) h = tt

sets_crossed : (at : Span) (a b : Option SizedSet) → IsSet a → IsSet b → IfOk (crossed at a b) IsSet
sets_crossed at (Some a) (Some b) h k =
    gives_if IsSet (nat_le (counted a.dimension + counted b.dimension) arity_limit) _ _
    (λ e. (union_distinct [] (product a.tuples b.tuples) none_there, crossed_long (counted a.dimension) (counted b.dimension) a.tuples b.tuples (long_of a.dimension a.tuples h) (long_of b.dimension b.tuples k))) (λ e. tt)
sets_crossed at (Some a) None h k = tt
sets_crossed at None b h k = tt

module _ (w : World) (g : GivesSets w) where
  one_set : (x : Tree) → IfOk (factor w x) IsSet
  one_set x = gives_any IsSet (value w [] x) (as_factor (span_of x)) (λ v e. set_factor (span_of x) v (λ d ts i. g [] x d ts (e ∙ ap (λ u. Ok u) i)))

  with_factors_are_sets : (at : Span) (l : Links) (a : Option SizedSet) → IsSet a → IfOk (with_factors at w l a) IsSet
  with_factors_are_sets at none a h = h
  with_factors_are_sets at (link o y l) a h =
      gives_then IsSet IsSet (factor w y) _ (one_set y) (λ b k. gives_then IsSet IsSet (crossed at a b) (with_factors at w l) (sets_crossed at a b h k) (with_factors_are_sets at l))

  pub products_are_sets : (x : Tree) → IfOk (product_of w x) IsSet
  products_are_sets (parens o x c) = products_are_sets x
  products_are_sets (chain n x l) =
      gives_if IsSet (are_crosses l) _ _ (λ e. gives_then IsSet IsSet (product_of w x) (with_factors (span_of (chain n x l)) w l) (products_are_sets x) (with_factors_are_sets (span_of (chain n x l)) l)) (λ e. one_set (chain n x l))
  products_are_sets (leaf t) = one_set (leaf t)
  products_are_sets (indexed a o x l c) = one_set (indexed a o x l c)
  products_are_sets (tuple o x l c) = one_set (tuple o x l c)
  products_are_sets (negated a o x c) = one_set (negated a o x c)
  products_are_sets (braced b) = one_set (braced b)
  products_are_sets (signed t x) = one_set (signed t x)
  products_are_sets (reduced r b x) = one_set (reduced r b x)
  products_are_sets (choice i x t y e) = one_set (choice i x t y e)
  products_are_sets (net t u) = one_set (net t u)

-- ---- a set that is found is the one that AMPL defines

crosses : (b : BinOp) → is_cross b ≡ true → b ≡ op.Cross
crosses op.Cross e = refl
crosses _ e = cc

abbrev pub Means : Env → Tree → Option SizedSet → Type 0
Means e x None = Unit {0}
Means e x (Some a) = IsValue e x (meant.Many a.tuples)

-- the factors l after the set a make the set r
abbrev MeansAfter : Env → Links → Option SizedSet → Option SizedSet → Type 0
MeansAfter e l a None = Unit {0}
MeansAfter e l None (Some b) = ⊥
MeansAfter e l (Some a) (Some b) = IsChain e (meant.Many a.tuples) l (meant.Many b.tuples)

meant_factor : (e : Env) (x : Tree) (at : Span) (v : Value) → ((d : Option ℕ) (ts : List Tuple) → v ≡ Many d ts → IsValue e x (meant.Many ts)) → IfOk (as_factor at v) (Means e x)
meant_factor e x at (Many d ts) h = gives_if (Means e x) (have_size (counted d) ts) _ _ (λ i. h d ts refl) (λ i. tt)
meant_factor e x at (One m) h = tt
meant_factor e x at (Several t) h = tt
meant_factor e x at (Truth b) h = tt

no_range : (l : Links) → are_crosses l ≡ true → items.begins_range l ≡ false
no_range none h = refl
no_range (link o y l) h = go (operation o) (crosses (operation o) (left_true (is_cross (operation o)) (are_crosses l) h))
  where
    go : (f : BinOp) → f ≡ op.Cross → is_range f ≡ false
    go f i = ap is_range i

module _ (w : World) (sets : HasSets w) where
  one_meant : (x : Tree) → IfOk (factor w x) (Means (env_of w []) x)
  one_meant x =
      gives_any (Means (env_of w []) x) (value w [] x) (as_factor (span_of x)) (λ v e. meant_factor (env_of w []) x (span_of x) v (λ d ts i. evaluation_is_sound w [] x (Many d ts) sets (e ∙ ap (λ u. Ok u) i)))

  chain_meant : (n : ℕ) (x : Tree) (l : Links) → are_crosses l ≡ true → (a : Option SizedSet) → Means (env_of w []) x a → (b : Option SizedSet) → MeansAfter (env_of w []) l a b → Means (env_of w []) (chain n x l) b
  chain_meant n x l h a i None j = tt
  chain_meant n x l h None i (Some b) j = absurd j
  chain_meant n x l h (Some a) i (Some b) j = (meant.Many a.tuples, i, chained)
    where
      chained : Whether (begins_range l) (HasRange (AreOperandValues (env_of w []) l) (meant.Many a.tuples) (meant.Many b.tuples)) (IsChain (env_of w []) (meant.Many a.tuples) l (meant.Many b.tuples))
      chained = subst (λ c. Whether c (HasRange (AreOperandValues (env_of w []) l) (meant.Many a.tuples) (meant.Many b.tuples)) (IsChain (env_of w []) (meant.Many a.tuples) l (meant.Many b.tuples))) (sym (sym (begins_range_is l) ∙ no_range l h)) j

  link_meant : (o : Operator) (y : Tree) (l : Links) → operation o ≡ op.Cross → (a b : SizedSet) → Means (env_of w []) y (Some b) → (c : Option SizedSet) → MeansAfter (env_of w []) l (Some (both_crossed a b)) c → MeansAfter (env_of w []) (link o y l) (Some a) c
  link_meant o y l h a b i None j = tt
  link_meant o y l h a b i (Some c) j =
      (meant.Many (both_crossed a b).tuples, inr (meant.Many b.tuples, i, subst (λ f. meant.IsResult f (meant.Many a.tuples) (meant.Many b.tuples) (meant.Many (both_crossed a b).tuples)) (sym h) (meant.cross a.tuples b.tuples)), j)

  one_more : (at : Span) (o : Operator) (y : Tree) (l : Links) (a : SizedSet) → operation o ≡ op.Cross → ((c : Option SizedSet) → IfOk (with_factors at w l c) (MeansAfter (env_of w []) l c)) → (b : Option SizedSet) → Means (env_of w []) y b
      → IfOk (and_then (crossed at (Some a) b) (with_factors at w l)) (MeansAfter (env_of w []) (link o y l) (Some a))
  one_more at o y l a cross more None i = tt
  one_more at o y l a cross more (Some b) i = go (nat_le (counted a.dimension + counted b.dimension) arity_limit)
    where
      go : (c : Bool) → IfOk (and_then (if c then (let u : Outcome (Option SizedSet) = Ok (Some (both_crossed a b)) in u) else rejected Arity at) (with_factors at w l)) (MeansAfter (env_of w []) (link o y l) (Some a))
      go true = gives_as (MeansAfter (env_of w []) l (Some (both_crossed a b))) (MeansAfter (env_of w []) (link o y l) (Some a)) (with_factors at w l (Some (both_crossed a b))) (link_meant o y l cross a b i) (more (Some (both_crossed a b)))
      go false = tt

  factors_are_meant : (at : Span) (l : Links) → are_crosses l ≡ true → (a : Option SizedSet) → IfOk (with_factors at w l a) (MeansAfter (env_of w []) l a)
  factors_are_meant at none h None = tt
  factors_are_meant at none h (Some a) = refl
  factors_are_meant at (link o y l) h None = gives_any (MeansAfter (env_of w []) (link o y l) None) (factor w y) (λ b. and_then (crossed at None b) (with_factors at w l)) (λ b e. tt)
  factors_are_meant at (link o y l) h (Some a) =
      gives_then (Means (env_of w []) y) (MeansAfter (env_of w []) (link o y l) (Some a)) (factor w y) (λ b. and_then (crossed at (Some a) b) (with_factors at w l)) (one_meant y)
      (one_more at o y l a (crosses (operation o) (left_true (is_cross (operation o)) (are_crosses l) h)) (λ c. factors_are_meant at l (right_true (is_cross (operation o)) (are_crosses l) h) c))

  pub products_are_meant : (x : Tree) → IfOk (product_of w x) (Means (env_of w []) x)
  products_are_meant (parens o x c) = products_are_meant x
  products_are_meant (chain n x l) =
      gives_if (Means (env_of w []) (chain n x l)) (are_crosses l) _ _
      (λ e. gives_then (Means (env_of w []) x) (Means (env_of w []) (chain n x l)) (product_of w x) (with_factors (span_of (chain n x l)) w l) (products_are_meant x) (λ a h.
      gives_as (MeansAfter (env_of w []) l a) (Means (env_of w []) (chain n x l)) (with_factors (span_of (chain n x l)) w l a) (chain_meant n x l e a h) (factors_are_meant (span_of (chain n x l)) l e a)))
      (λ e. one_meant (chain n x l))
  products_are_meant (leaf t) = one_meant (leaf t)
  products_are_meant (indexed a o x l c) = one_meant (indexed a o x l c)
  products_are_meant (tuple o x l c) = one_meant (tuple o x l c)
  products_are_meant (negated a o x c) = one_meant (negated a o x c)
  products_are_meant (braced b) = one_meant (braced b)
  products_are_meant (signed t x) = one_meant (signed t x)
  products_are_meant (reduced r b x) = one_meant (reduced r b x)
  products_are_meant (choice i x t y e) = one_meant (choice i x t y e)
  products_are_meant (net t u) = one_meant (net t u)

-- ---- where an error stands

module _ (P : Places) where
  finds_factor : (at : Span) → P Model at → (v : Value) → Finds P (as_factor at v)
  finds_factor at h (Many d ts) = finds_if P (have_size (counted d) ts) _ _ tt h
  finds_factor at h (One m) = tt
  finds_factor at h (Several t) = tt
  finds_factor at h (Truth b) = tt

  finds_crossed : (at : Span) → P Model at → (a b : Option SizedSet) → Finds P (crossed at a b)
  finds_crossed at h (Some a) (Some b) = finds_if P (nat_le (counted a.dimension + counted b.dimension) arity_limit) _ _ tt h
  finds_crossed at h (Some a) None = h
  finds_crossed at h None b = h

  finds_one : (w : World) (x : Tree) → Stands (P Model) x → Finds P (factor w x)
  finds_one w x h = finds_then P (value w [] x) (as_factor (span_of x)) (finds_value P w [] x h) (finds_factor (span_of x) (whole_stands (P Model) x h))

  finds_factors : (w : World) (at : Span) → P Model at → (l : Links) → LinksStand (P Model) l → (a : Option SizedSet) → Finds P (with_factors at w l a)
  finds_factors w at h none k a = tt
  finds_factors w at h (link o y l) k a = finds_then P (factor w y) _ (finds_one w y k.0) (λ b. finds_then P (crossed at a b) (with_factors at w l) (finds_crossed at h a b) (finds_factors w at h l k.1))

  pub finds_product : (w : World) (x : Tree) → Stands (P Model) x → Finds P (product_of w x)
  finds_product w (parens o x c) h = finds_product w x h.1
  finds_product w (chain n x l) h =
      finds_if P (are_crosses l) _ _ (finds_then P (product_of w x) (with_factors (span_of (chain n x l)) w l) (finds_product w x h.1) (finds_factors w (span_of (chain n x l)) h.0 l h.2)) (finds_one w (chain n x l) h)
  finds_product w (leaf t) h = finds_one w (leaf t) h
  finds_product w (indexed a o x l c) h = finds_one w (indexed a o x l c) h
  finds_product w (tuple o x l c) h = finds_one w (tuple o x l c) h
  finds_product w (negated a o x c) h = finds_one w (negated a o x c) h
  finds_product w (braced b) h = finds_one w (braced b) h
  finds_product w (signed t x) h = finds_one w (signed t x) h
  finds_product w (reduced r b x) h = finds_one w (reduced r b x) h
  finds_product w (choice i x t y e) h = finds_one w (choice i x t y e) h
  finds_product w (net t u) h = finds_one w (net t u) h
