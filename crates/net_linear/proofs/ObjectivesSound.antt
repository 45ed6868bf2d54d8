-- The form of an objective is its value.
use Rattle.std.specs.Prelude.{◌≡◌, ◌&&◌, ◌||◌, ℕ, zero, suc, Bool, true, false, not, List, [], ◌∷◌, map, Option, None, Some, if◌then◌else◌, Ok, Err, IfOk, ℤ, pos, negsuc, ◌+ℤ◌, ◌*ℤ◌, int_div, int_rem, int_le}
use Rattle.std.specs.List.{AllZip}
use Rattle.std.proofs.Common.{refl, ap, sym, ◌∙◌, subst, arith, inr}
use Rattle.std.proofs.lemmas.Int.{ints}
use Rattle.net_base.specs.declared.diagnostic.Span.{Span}
use Rattle.net_base.specs.declared.error_code.ErrorCode.TheVariants.{NotLinear, DivMod}
use Rattle.net_base.specs.Outcomes.{Outcome, and_then, rejected}
use Rattle.net_linear.specs.Amounts.{as_number}
use Rattle.net_linear.specs.Arcs.{Arcs, declared, is_arc, arc_at}
use Rattle.net_linear.specs.Forms.{Linear, Products, Term, products_at, just, one_arc, combined, is_number, is_sized, within, sized, times, divided, joined, join, turn, gathered, gathered_over, total, as_form, form_at}
use Rattle.net_linear.specs.Objectives.{names_arc, any_arc, part_arc, braces_arc, are_signs, may_join, one_factor, is_linear, is_sum, plain_term, mixed, linear, key_of, arc_term, condition, objective, otherwise, chained}
use Rattle.net_linear.specs.ObjectiveValues.{combine}
use Rattle.net_linear.specs.Signs.{is_sign}
use Rattle.net_linear.proofs.FormLaws.{form_combined, form_just, form_arc, join_ok, turn_ok}
use Rattle.net_linear.proofs.Rings.{one-mul}
use Rattle.net_lex.specs.declared.token.Token.{Token}
use Rattle.net_sets.specs.Sets.{Tuple}
use Rattle.net_tree.specs.declared.operator.BinOp.{BinOp}
use Rattle.net_tree.specs.declared.operator.BinOp.TheVariants as op
use Rattle.net_tree.specs.declared.operator.Reduction.{Reduction}
use Rattle.net_tree.specs.declared.operator.Reduction.TheVariants.{Sum, Min, Max}
use Rattle.net_tree.specs.Operations.{operation, is_range, reduction, is_minus}
use Rattle.net_tree.specs.Spans.{span_of}
use Rattle.net_tree.specs.Role.{role_of}
use Rattle.net_tree.specs.Tree.{Tree, Links, Part, Braces, leaf, indexed, parens, tuple, negated, braced, signed, reduced, chain, choice, net, none, link, absent, part, empty, filled}
use Rattle.net_expr.specs.declared.row.Row.{Row}
use Rattle.net_expr.specs.declared.row.Keys.{Keys}
use Rattle.net_expr.specs.declared.value.Value.{Value as Found}
use Rattle.net_expr.specs.declared.value.Value.TheVariants as found
use Rattle.net_sets.specs.declared.member.Member.TheVariants as member
use Rattle.net_expr.specs.Items.{begins_range}
use Rattle.net_expr.specs.Numbers.{divides}
use Rattle.net_expr.specs.Values.{value, index}
use Rattle.net_expr.specs.SetValues.{HasSets}
use Rattle.net_expr.specs.Worlds.{Name, World, Scope}
use Rattle.net_meaning.specs.OfTrees.{env_with, AreOperandValues, IsValue, IsElse, AreValues, IsChain, AreKeys}
use Rattle.net_meaning.specs.Laws.{meaning_of, IsArcFree, AreArcFree, IsPartArcFree, AreBracesArcFree}
use Rattle.net_linear.specs.Soundness.{ReadsArcs, ObjectivesAreSound}
use Rattle.net_normal.specs.Sums.{sum_of}
use Rattle.net_meaning.specs.Operators.{Value, One, Truth, number, IsResult, Combines, Reduces}
use Rattle.net_meaning.specs.Operators as make
use Rattle.net_meaning.specs.Values.{Env, Key, Whether, IsArcOr, Denotes, IsLeaf, AreMembers, HasRange}
use Rattle.net_meaning.proofs.Erased.{begins_range_is}
use Rattle.net_meaning.proofs.Giving.{gives_then, gives_any, gives_as}
use Rattle.net_meaning.proofs.Meaning.{key_is_sound, braces_are_sound, truth_is_sound, value_is_sound}
use Rattle.net_meaning.proofs.Walking.{as_key}

gives_each : {A : Type 0} (P : A → Type 0) (o : Outcome A) → ((r : A) → o ≡ Ok r → P r) → IfOk o P
gives_each P (Ok r) h = h r refl
gives_each P (Err e) h = tt

neither : (b c : Bool) → (b || c) ≡ false → (b ≡ false) × (c ≡ false)
neither false false e = (refl, refl)
neither false true e = cc
neither true c e = cc

both : (b c : Bool) → (b && c) ≡ true → (b ≡ true) × (c ≡ true)
both true true e = (refl, refl)
both true false e = cc
both false c e = cc

not_true : (b : Bool) → not b ≡ true → b ≡ false
not_true true e = cc
not_true false e = refl

-- ---- forms

sized_some : (at : Span) (f : Linear) (r : Term) → sized at f ≡ Ok r → r ≡ Some f
sized_some at f r e = go (is_sized f) e
  where
    go : (b : Bool) → within at (if b then Some f else None) ≡ Ok r → r ≡ Some f
    go true h = let same : Some f ≡ r = cc in sym same
    go false h = cc

number_unique : (x : ℕ → ℤ) (f : Linear) → is_number f.products ≡ true → form_at x f ≡ f.constant
number_unique x f h = go f.products h
  where
    go : (ps : Products) → is_number ps ≡ true → f.constant +ℤ products_at x ps ≡ f.constant
    go [] h = omega (arith, ints)
    go (p ∷ ps) h = cc

never : (b : Bool) → (b && false) ≡ true → ⊥
never true e = cc
never false e = cc

quotient_makes : (a b : ℤ) → divides a b ≡ true → IsResult op.Div (number a) (number b) (number (int_div a b))
quotient_makes (pos a) (pos (suc b)) e = make.quotient a (suc b) (omega arith)
quotient_makes (pos a) (pos zero) e = absurd (never (int_le (pos 0) (pos a)) e)
quotient_makes (pos a) (negsuc b) e = absurd (never (int_le (pos 0) (pos a)) e)
quotient_makes (negsuc a) b e = cc

remainder_makes : (a b : ℤ) → divides a b ≡ true → IsResult op.Mod (number a) (number b) (number (int_rem a b))
remainder_makes (pos a) (pos (suc b)) e = make.remainder a (suc b) (omega arith)
remainder_makes (pos a) (pos zero) e = absurd (never (int_le (pos 0) (pos a)) e)
remainder_makes (pos a) (negsuc b) e = absurd (never (int_le (pos 0) (pos a)) e)
remainder_makes (negsuc a) b e = cc

module _ (x : ℕ → ℤ) where
  -- two forms with an operator between them
  abbrev Joined : BinOp → Linear → Linear → Term → Type 0
  Joined j f k r = (h : Linear) × (r ≡ Some h) × IsResult j (number (form_at x f)) (number (form_at x k)) (number (form_at x h))

  by_sum : (j : BinOp) (at : Span) (f k h : Linear) (r : Term) (n : ℤ) → IsResult j (number (form_at x f)) (number (form_at x k)) (number n) → r ≡ Some h → form_at x h ≡ n → Joined j f k r
  by_sum j at f k h r n m e same = (h, e, subst (λ z. IsResult j (number (form_at x f)) (number (form_at x k)) (number z)) (sym same) m)

  value_of : (j : BinOp) (at : Span) (f k h : Linear) (r : Term) → r ≡ Some h → joined j at f k ≡ Ok r → form_at x h ≡ combine j (form_at x f) (form_at x k)
  value_of j at f k h r e i = join_ok x j at (Some f) (Some k) (Some h) (i ∙ ap (λ z. Ok z) e)

  makes_times : (at : Span) (f k : Linear) (r : Term) → times at f k ≡ Ok r → Joined op.Times f k r
  makes_times at f k r e = go (is_number f.products) (is_number k.products) e
    where
      found_some : (h : Linear) → sized at h ≡ Ok r → Joined op.Times f k r
      found_some h i = let s = sized_some at h r i in by_sum op.Times at f k h r (form_at x f *ℤ form_at x k) (make.times (form_at x f) (form_at x k)) s (value_of op.Times at f k h r s e)

      go : (b c : Bool) → (if b then sized at (combined (just (pos 0)) f.constant k) else if c then sized at (combined (just (pos 0)) k.constant f) else rejected NotLinear at) ≡ Ok r → Joined op.Times f k r
      go true c i = found_some _ i
      go false true i = found_some _ i
      go false false i = cc

  makes_divided : (j : BinOp) (at : Span) (o : ℤ → ℤ → ℤ) → ((a b : ℤ) → divides a b ≡ true → IsResult j (number a) (number b) (number (o a b))) → (f k : Linear) (r : Term) → divided at o f k ≡ Ok r → Joined j f k r
  makes_divided j at o make f k r e = go (is_number f.products) (is_number k.products) (divides f.constant k.constant) refl refl refl e
    where
      go : (b c d : Bool) → is_number f.products ≡ b → is_number k.products ≡ c → divides f.constant k.constant ≡ d
          → (if b && c then if d then sized at (just (o f.constant k.constant)) else rejected DivMod at else rejected NotLinear at) ≡ Ok r → Joined j f k r
      go true true true p q i e =
          (just (o f.constant k.constant), sized_some at _ r e, rw (form_just x (o f.constant k.constant), number_unique x f p, number_unique x k q) (make f.constant k.constant i))
      go true true false p q i e = cc
      go true false d p q i e = cc
      go false c d p q i e = cc

  makes_joined : (j : BinOp) (at : Span) (f k : Linear) (r : Term) → joined j at f k ≡ Ok r → Joined j f k r
  makes_joined op.Plus at f k r e = let s = sized_some at _ r e in by_sum op.Plus at f k _ r _ (make.plus (form_at x f) (form_at x k)) s (value_of op.Plus at f k _ r s e)
  makes_joined op.Minus at f k r e = let s = sized_some at _ r e in by_sum op.Minus at f k _ r _ (make.minus (form_at x f) (form_at x k)) s (value_of op.Minus at f k _ r s e)
  makes_joined op.Times at f k r e = makes_times at f k r e
  makes_joined op.Div at f k r e = makes_divided op.Div at int_div quotient_makes f k r e
  makes_joined op.Mod at f k r e = makes_divided op.Mod at int_rem remainder_makes f k r e
  makes_joined _ at f k r e = cc

not_range : (a : Arcs) (x : Tree) (l : Links) → is_linear a x l ≡ true → begins_range l ≡ false
not_range a x none e = refl
not_range a x (link o y l) e = go (operation o) (are_signs l) (names_arc a x) (names_arc a y) (one_factor a (names_arc a x || names_arc a y) l) e
  where
    go : (f : BinOp) (b c d g : Bool) → ((is_sign f && b) || (may_join f c d && g)) ≡ true → is_range f ≡ false
    go op.Range b c d g h = cc
    go _ b c d g h = refl

is_reduction_sum : (r : Reduction) → is_sum r ≡ true → r ≡ Sum
is_reduction_sum Sum e = refl
is_reduction_sum Min e = cc
is_reduction_sum Max e = cc

module _ (a : Arcs) (x : ℕ → ℤ) (g : Name → Option (Tuple → ℤ)) (reads : ReadsArcs a x g) where
  abbrev E : World → Scope → Env
  E w s = env_with g (pos 0) w s

  -- trees without arcs
  mutual
    plain : (t : Tree) → names_arc a t ≡ false → IsArcFree g (pos 0) t
    plain (leaf t) e = reads.others t.text e
    plain (indexed n o y l c) e = let (h, i) = neither (is_arc a n.text) (names_arc a y || any_arc a l) e in let (j, k) = neither (names_arc a y) (any_arc a l) i in (reads.others n.text h, plain y j, all_plain l k)
    plain (parens o y c) e = plain y e
    plain (tuple o y l c) e = let (j, k) = neither (names_arc a y) (any_arc a l) e in (plain y j, all_plain l k)
    plain (negated n o y c) e = plain y e
    plain (braced b) e = braces_plain b e
    plain (signed t y) e = plain y e
    plain (reduced r b y) e = let (j, k) = neither (braces_arc a b) (names_arc a y) e in (braces_plain b j, plain y k)
    plain (chain n y l) e = let (j, k) = neither (names_arc a y) (any_arc a l) e in (plain y j, all_plain l k)
    plain (choice i y t z p) e = let (h, k) = neither (names_arc a y || names_arc a z) (part_arc a p) e in let (j, m) = neither (names_arc a y) (names_arc a z) h in (plain y j, plain z m, part_plain p k)
    plain (net s t) e = refl

    all_plain : (l : Links) → any_arc a l ≡ false → AreArcFree g (pos 0) l
    all_plain none e = tt
    all_plain (link o y l) e = let (j, k) = neither (names_arc a y) (any_arc a l) e in (plain y j, all_plain l k)

    part_plain : (p : Part) → part_arc a p ≡ false → IsPartArcFree g (pos 0) p
    part_plain absent e = tt
    part_plain (part m y) e = plain y e

    braces_plain : (b : Braces) → braces_arc a b ≡ false → AreBracesArcFree g (pos 0) b
    braces_plain (empty o p c) e = part_plain p e
    braces_plain (filled o i is p c) e = let (h, k) = neither (names_arc a i || any_arc a is) (part_arc a p) e in let (j, m) = neither (names_arc a i) (any_arc a is) h in (plain i j, all_plain is m, part_plain p k)

  -- a term, if it is one, is the value
  abbrev Is : (Value → Type 0) → Term → Type 0
  Is P None = Unit {0}
  Is P (Some f) = P (number (form_at x f))

  abbrev IsTerm : World → Scope → Tree → Term → Type 0
  IsTerm w s t = Is (IsValue (E w s) t)

  if_number : (P : Value → Type 0) (at : Span) (v : Found) → P (meaning_of v) → IfOk (plain_term at (as_number v)) (Is P)
  if_number P at (found.One (member.Number n)) h = gives_each (Is P) (sized at (just n)) (λ r e. subst (Is P) (sym (sized_some at (just n) r e)) (subst (λ z. P (number z)) (sym (form_just x n)) h))
  if_number P at (found.One (member.Name t)) h = tt
  if_number P at (found.Several t) h = tt
  if_number P at (found.Many d ts) h = tt
  if_number P at (found.Truth b) h = tt

  mixed_is : (w : World) → HasSets w → (s : Scope) (t : Tree) (b : Bool) (u : Outcome Term) → (b ≡ false → IsArcFree g (pos 0) t) → (b ≡ true → IfOk u (IsTerm w s t)) → IfOk (mixed w s t b u) (IsTerm w s t)
  mixed_is w sets s t true u h k = k refl
  mixed_is w sets s t false u h k = go (value w s t) (value_is_sound g (pos 0) w sets s t (h refl))
    where
      go : (o : Outcome Found) → IfOk o (λ v. IsValue (E w s) t (meaning_of v)) → IfOk (and_then (and_then o (λ v. Ok (as_number v))) (plain_term (span_of t))) (IsTerm w s t)
      go (Ok v) i = if_number (IsValue (E w s) t) (span_of t) v i
      go (Err r) i = tt

  linear_is : (P : Term → Type 0) (at : Span) (b : Bool) (u : Outcome Term) → (b ≡ true → IfOk u P) → IfOk (linear at b u) P
  linear_is P at true u h = h refl
  linear_is P at false u h = tt

  -- an arc by its name and key
  arc_is : (at : Span) (n : Name) (key : Tuple) (Else : Value → Type 0) → IfOk (and_then (arc_at at n (declared a n) key) (λ i. Ok (Some (one_arc i)))) (Is (λ v. IsArcOr (g n) key v (Else v)))
  arc_is at n key Else =
      gives_any _ (arc_at at n (declared a n) key) _ (λ i e. let (f, h, k) = reads.arcs at n key i e in subst (λ o. IsArcOr o key (number (form_at x (one_arc i))) (Else (number (form_at x (one_arc i))))) (sym h) (ap number (form_arc x i ∙ sym k)))

  turned_is : (w : World) (s : Scope) (t : Token) (y : Tree) (at : Span) (u : Term) → IsTerm w s y u → IfOk (turn (is_minus t) at u) (IsTerm w s (signed t y))
  turned_is w s t y at u h = gives_each (IsTerm w s (signed t y)) (turn (is_minus t) at u) (go u h)
    where
      go : (u : Term) → IsTerm w s y u → (r : Term) → turn (is_minus t) at u ≡ Ok r → IsTerm w s (signed t y) r
      go u i None e = tt
      go None i (Some f) e = cc
      go (Some k) i (Some f) e = (form_at x k, i, ap number (turn_ok x (is_minus t) at (Some k) (Some f) e))

  abbrev IsLinked : World → Scope → Links → Term → Term → Type 0
  IsLinked w s l (Some u) (Some r) = IsChain (E w s) (number (form_at x u)) l (number (form_at x r))
  IsLinked w s l None (Some r) = ⊥
  IsLinked w s l u None = Unit {0}

  linked : (at : Span) (w : World) (s : Scope) (o : _) (y : Tree) (l : Links) (u v : Term) → IsTerm w s y v → ((z : Term) → IfOk (chained a at w s l z) (IsLinked w s l z))
      → IfOk (and_then (join (operation o) at u v) (chained a at w s l)) (IsLinked w s (link o y l) u)
  linked at w s o y l None v h next = tt
  linked at w s o y l (Some u) None h next = tt
  linked at w s o y l (Some u) (Some v) h next =
      gives_any _ (joined (operation o) at u v) (chained a at w s l) (λ z e.
      let (k, same, m) = makes_joined x (operation o) at u v z e in
      gives_as (IsLinked w s l z) (IsLinked w s (link o y l) (Some u)) (chained a at w s l z) (λ r i. go k m r (subst (λ c. IsLinked w s l c r) same i)) (next z))
    where
      go : (k : Linear) → IsResult (operation o) (number (form_at x u)) (number (form_at x v)) (number (form_at x k)) → (r : Term) → IsLinked w s l (Some k) r → IsLinked w s (link o y l) (Some u) r
      go k m None i = tt
      go k m (Some r) i = (number (form_at x k), inr (number (form_at x v), h, m), i)

  -- sums over keys
  gathered_is : (at : Span) (w : World) (y : Tree) → ((s : Scope) → IfOk (objective a w s y) (IsTerm w s y)) → (rows : List Row) (sum : Linear)
      → IfOk (gathered_over at (λ row. objective a w row.scope y) rows sum) (λ r. (ns : List ℤ) × AllZip (λ (k : Key) m. IsValue k.env y (number m)) (map (as_key g (pos 0) w) rows) ns × (form_at x r ≡ form_at x sum +ℤ sum_of ns))
  gathered_is at w y h [] sum = ([], tt, omega (arith, ints))
  gathered_is at w y h (q ∷ rows) sum = gives_then (IsTerm w q.scope y) _ (objective a w q.scope y) _ (h q.scope) (go (λ more. gathered_is at w y h rows more))
    where
      go : ((more : Linear) → IfOk (gathered_over at (λ row. objective a w row.scope y) rows more) (λ r. (ns : List ℤ) × AllZip (λ (k : Key) m. IsValue k.env y (number m)) (map (as_key g (pos 0) w) rows) ns × (form_at x r ≡ form_at x more +ℤ sum_of ns)))
          → (u : Term) → IsTerm w q.scope y u
          → IfOk (and_then (gathered at sum u) (gathered_over at (λ row. objective a w row.scope y) rows))
          (λ r. (ns : List ℤ) × AllZip (λ (k : Key) m. IsValue k.env y (number m)) (map (as_key g (pos 0) w) (q ∷ rows)) ns × (form_at x r ≡ form_at x sum +ℤ sum_of ns))
      go rest None i = tt
      go rest (Some f) i =
          gives_as _ _ (gathered_over at (λ row. objective a w row.scope y) rows (combined sum (pos 1) f)) (λ r (ns, all, e). (form_at x f ∷ ns, (i, all), omega (arith, ints, e, form_combined x sum (pos 1) f, one-mul (form_at x f))))
          (rest (combined sum (pos 1) f))

  sum_is : (at : Span) (w : World) (s : Scope) (r : Token) (b : Braces) (y : Tree) → reduction r ≡ Sum → (k : Keys) → AreKeys (E w s) b (map (as_key g (pos 0) w) k.rows)
      → ((q : Scope) → IfOk (objective a w q y) (IsTerm w q y)) → IfOk (total at (λ row. objective a w row.scope y) k.rows) (IsTerm w s (reduced r b y))
  sum_is at w s r b y e k keys h =
      gives_then _ (IsTerm w s (reduced r b y)) (gathered_over at (λ row. objective a w row.scope y) k.rows (just (pos 0))) (sized at) (gathered_is at w y h k.rows (just (pos 0))) (λ f (ns, all, sum).
      gives_each (IsTerm w s (reduced r b y)) (sized at f) (λ z i. subst (IsTerm w s (reduced r b y)) (sym (sized_some at f z i))
      (map (as_key g (pos 0) w) k.rows, ns, form_at x f, keys, all, subst (λ c. Reduces c ns (form_at x f)) (sym e) (let zero_is = form_just x (pos 0) in omega (arith, ints, sum, zero_is)), refl)))

  indexed_is : (w : World) → HasSets w → (s : Scope) (n o : Token) (y : Tree) (l : Links) (c : Token) → IsArcFree g (pos 0) y → AreArcFree g (pos 0) l
      → IfOk (arc_term a (span_of (indexed n o y l c)) n.text (key_of w s (span_of (indexed n o y l c)) y l)) (IsTerm w s (indexed n o y l c))
  indexed_is w sets s n o y l c h k = go (key_of w s (span_of (indexed n o y l c)) y l) (key_is_sound g (pos 0) (span_of (indexed n o y l c)) w sets s y l h k)
    where
      with_key : (key : Tuple) → AreMembers (IsValue (E w s) y) (AreValues (E w s) l) key → (u : Term) → Is (λ v. IsArcOr (g n.text) key v (Denotes (E w s) n.text key v)) u → IsTerm w s (indexed n o y l c) u
      with_key key m None i = tt
      with_key key m (Some f) i = (key, m, i)

      go : (o' : Outcome Tuple) → IfOk o' (AreMembers (IsValue (E w s) y) (AreValues (E w s) l)) → IfOk (arc_term a (span_of (indexed n o y l c)) n.text o') (IsTerm w s (indexed n o y l c))
      go (Err r) m = tt
      go (Ok key) m =
          gives_as (Is (λ v. IsArcOr (g n.text) key v (Denotes (E w s) n.text key v))) (IsTerm w s (indexed n o y l c)) (and_then (arc_at (span_of (indexed n o y l c)) n.text (declared a n.text) key) (λ i. Ok (Some (one_arc i)))) (with_key key m)
          (arc_is (span_of (indexed n o y l c)) n.text key (λ v. Denotes (E w s) n.text key v))

  chain_is : (w : World) (s : Scope) (n : ℕ) (y : Tree) (l : Links) → begins_range l ≡ false → (u : Term) → IsTerm w s y u → (r : Term) → IsLinked w s l u r → IsTerm w s (chain n y l) r
  chain_is w s n y l e u h None i = tt
  chain_is w s n y l e None h (Some r) i = absurd i
  chain_is w s n y l e (Some u) h (Some r) i =
      (number (form_at x u), h, subst (λ b. Whether b (HasRange (AreOperandValues (E w s) l) (number (form_at x u)) (number (form_at x r))) (IsChain (E w s) (number (form_at x u)) l (number (form_at x r)))) (sym e ∙ begins_range_is l) i)

  choice_is : (w : World) (s : Scope) (i : Token) (y : Tree) (t : Token) (z : Tree) (p : Part) (b : Bool) → IsValue (E w s) y (Truth b) → IfOk (objective a w s z) (IsTerm w s z) → IfOk (otherwise a w s p) (Is (IsElse (E w s) p))
      → IfOk (if b then objective a w s z else otherwise a w s p) (IsTerm w s (choice i y t z p))
  choice_is w s i y t z p true h m k = gives_as (IsTerm w s z) (IsTerm w s (choice i y t z p)) (objective a w s z) go m
    where
      go : (u : Term) → IsTerm w s z u → IsTerm w s (choice i y t z p) u
      go None j = tt
      go (Some f) j = (true, h, j)
  choice_is w s i y t z p false h m k = gives_as (Is (IsElse (E w s) p)) (IsTerm w s (choice i y t z p)) (otherwise a w s p) go k
    where
      go : (u : Term) → Is (IsElse (E w s) p) u → IsTerm w s (choice i y t z p) u
      go None j = tt
      go (Some f) j = (false, h, j)

  mutual
    form_is : (w : World) → HasSets w → (s : Scope) (t : Tree) → IfOk (objective a w s t) (IsTerm w s t)
    form_is w sets s (leaf t) = mixed_is w sets s (leaf t) (is_arc a t.text) _ (λ e. plain (leaf t) e) (λ e. arc_is (span_of (leaf t)) t.text [] (IsLeaf (E w s) t.kind t.text))
    form_is w sets s (indexed n o y l c) =
        mixed_is w sets s (indexed n o y l c) (names_arc a (indexed n o y l c)) _ (λ e. plain (indexed n o y l c) e) (λ e.
        linear_is (IsTerm w s (indexed n o y l c)) (span_of (indexed n o y l c)) (not (names_arc a y || any_arc a l)) _ (λ f.
        let (j, k) = neither (names_arc a y) (any_arc a l) (not_true _ f) in indexed_is w sets s n o y l c (plain y j) (all_plain l k)))
    form_is w sets s (parens o y c) = mixed_is w sets s (parens o y c) (names_arc a y) _ (λ e. plain y e) (λ e. gives_as (IsTerm w s y) (IsTerm w s (parens o y c)) (objective a w s y) in_parens (form_is w sets s y))
      where
        in_parens : (u : Term) → IsTerm w s y u → IsTerm w s (parens o y c) u
        in_parens None h = tt
        in_parens (Some f) h = h
    form_is w sets s (tuple o y l c) = mixed_is w sets s (tuple o y l c) (names_arc a (tuple o y l c)) _ (λ e. plain (tuple o y l c) e) (λ e. tt)
    form_is w sets s (negated n o y c) = mixed_is w sets s (negated n o y c) (names_arc a y) _ (λ e. plain y e) (λ e. tt)
    form_is w sets s (braced b) = mixed_is w sets s (braced b) (braces_arc a b) _ (λ e. braces_plain b e) (λ e. tt)
    form_is w sets s (signed t y) =
        mixed_is w sets s (signed t y) (names_arc a y) _ (λ e. plain y e) (λ e. gives_then (IsTerm w s y) _ (objective a w s y) _ (form_is w sets s y) (λ u h. turned_is w s t y (span_of (signed t y)) u h))
    form_is w sets s (reduced r b y) =
        mixed_is w sets s (reduced r b y) (names_arc a (reduced r b y)) _ (λ e. plain (reduced r b y) e) (λ e.
        linear_is (IsTerm w s (reduced r b y)) (span_of (reduced r b y)) (is_sum (reduction r) && not (braces_arc a b)) _ (λ f.
        let (j, k) = both (is_sum (reduction r)) (not (braces_arc a b)) f in
        gives_then (λ k. AreKeys (E w s) b (map (as_key g (pos 0) w) k.rows)) _ (index w s b) _ (braces_are_sound g (pos 0) w sets s b (braces_plain b (not_true _ k))) (λ k h.
        sum_is (span_of (reduced r b y)) w s r b y (is_reduction_sum (reduction r) j) k h (λ q. form_is w sets q y))))
    form_is w sets s (chain n y l) =
        mixed_is w sets s (chain n y l) (names_arc a (chain n y l)) _ (λ e. plain (chain n y l) e) (λ e.
        linear_is (IsTerm w s (chain n y l)) (span_of (chain n y l)) (is_linear a y l) _ (λ f.
        gives_then (IsTerm w s y) _ (objective a w s y) _ (form_is w sets s y) (λ u h.
        gives_as (IsLinked w s l u) (IsTerm w s (chain n y l)) (chained a (span_of (chain n y l)) w s l u) (chain_is w s n y l (not_range a y l f) u h) (linked_is (span_of (chain n y l)) w sets s l u))))
    form_is w sets s (choice i y t z p) =
        mixed_is w sets s (choice i y t z p) (names_arc a (choice i y t z p)) _ (λ e. plain (choice i y t z p) e) (λ e.
        linear_is (IsTerm w s (choice i y t z p)) (span_of (choice i y t z p)) (not (names_arc a y)) _ (λ f.
        gives_then (λ b. IsValue (E w s) y (Truth b)) _ (condition w s (span_of (choice i y t z p)) y) _ (truth_is_sound g (pos 0) w sets s y (span_of (choice i y t z p)) (plain y (not_true _ f))) (λ b h.
        choice_is w s i y t z p b h (form_is w sets s z) (part_is w sets s p))))
    form_is w sets s (net t u) = mixed_is w sets s (net t u) false (rejected NotLinear (span_of (net t u))) (λ e. refl) (λ e. tt)

    part_is : (w : World) → HasSets w → (s : Scope) (p : Part) → IfOk (otherwise a w s p) (Is (IsElse (E w s) p))
    part_is w sets s absent = ap number (form_just x (pos 0))
    part_is w sets s (part m y) = gives_as (IsTerm w s y) (Is (IsElse (E w s) (part m y))) (objective a w s y) in_part (form_is w sets s y)
      where
        in_part : (u : Term) → IsTerm w s y u → Is (IsElse (E w s) (part m y)) u
        in_part None h = tt
        in_part (Some f) h = h

    linked_is : (at : Span) (w : World) → HasSets w → (s : Scope) (l : Links) (u : Term) → IfOk (chained a at w s l u) (IsLinked w s l u)
    linked_is at w sets s none None = tt
    linked_is at w sets s none (Some u) = refl
    linked_is at w sets s (link o y l) u = gives_then (IsTerm w s y) _ (objective a w s y) _ (form_is w sets s y) (λ v h. linked at w s o y l u v h (λ z. linked_is at w sets s l z))

pub objectives_are_sound : ObjectivesAreSound
objectives_are_sound a x g w s t f sets reads e = go (objective a w s t) (form_is a x g reads w sets s t) e
  where
    go : (o : Outcome Term) → IfOk o (Is a x g reads (IsValue (env_with g (pos 0) w s) t)) → and_then o (as_form (span_of t)) ≡ Ok f → IsValue (env_with g (pos 0) w s) t (number (form_at x f))
    go (Err r) h i = cc
    go (Ok None) h i = cc
    go (Ok (Some k)) h i = let same : k ≡ f = cc in subst (λ z. IsValue (env_with g (pos 0) w s) t (number (form_at x z))) same h
