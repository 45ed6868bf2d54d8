-- The range of a condition holds exactly the net inflows of which the condition is true.
use Rattle.std.specs.Prelude.{◌≡◌, ◌&&◌, ◌||◌, Bool, true, false, Option, None, Some, if◌then◌else◌, Result, Ok, Err, IfOk, IfSome, ◌↔◌, ℤ, pos, ◌+ℤ◌, ◌-ℤ◌, ◌≤ℤ◌, ◌<ℤ◌}
use Rattle.std.specs.Option.{ForSome}
use Rattle.std.proofs.Common.{refl, ◌∙◌, subst, arith}
use Rattle.std.proofs.lemmas.Int.{ints}
use Rattle.net_base.specs.declared.diagnostic.Span.{Span}
use Rattle.net_normal.specs.declared.instance.NodeRange.{NodeRange}
use Rattle.net_normal.specs.Assignments.{IsInRange}
use Rattle.net_normal.specs.Limits.{IsSized, range_limit}
use Rattle.net_tree.specs.Tree.{Tree, Condition, unsaid, one, between}
use Rattle.net_tree.specs.Role.{role_of}
use Rattle.net_base.specs.declared.error_code.ErrorCode.TheVariants.{ValueTooLarge}
use Rattle.net_expr.specs.Limits.{is_small}
use Rattle.net_expr.specs.Worlds.{World, Scope}
use Rattle.net_linear.specs.declared.condition.Comparison.{Comparison}
use Rattle.net_linear.specs.declared.condition.Comparison.TheVariants.{Equal, AtMost, AtLeast}
use Rattle.net_linear.specs.declared.condition.Sides.{Sides}
use Rattle.net_base.specs.declared.diagnostic.Fault.{Fault}
use Rattle.net_linear.specs.declared.net_term.NetTerm.{NetTerm}
use Rattle.net_linear.specs.declared.net_term.NetTerm.TheVariants.{Absent, Inflow, Outflow}
use Rattle.net_linear.specs.Conditions.{comparison_in, side_at, Compares, Holds, compared_with, flipped, solved, solved_sides, met_ends, from_to, sides_in, are_crossed, uncrossed, range_in, AreSides, AnswersRange}
use Rattle.net_linear.specs.NetTerms.{net_side, at_inflow}
use Rattle.net_base.specs.Outcomes.{Outcome, and_then, rejected}
use Rattle.net_linear.specs.Amounts.{number_or_none}
use Rattle.net_linear.proofs.NetTerms.{is_clear, side_ok}
use Rattle.net_linear.proofs.Sizes.{difference_sized}

abbrev IsAbove : Option ℤ → ℤ → Type 0
IsAbove None y = Unit {0}
IsAbove (Some n) y = n ≤ℤ y

abbrev IsBelow : Option ℤ → ℤ → Type 0
IsBelow None y = Unit {0}
IsBelow (Some n) y = y ≤ℤ n

abbrev pub IsWithin : Sides → ℤ → Type 0
IsWithin r y = IsAbove r.low y × IsBelow r.high y

abbrev pub Same : Type 0 → Type 0 → Type 0
Same A B = (A → B) × (B → A)

pub ok_then : {A B P : Type 0} (o : Outcome A) (f : A → Outcome B) (r : B) → and_then o f ≡ Ok r → ((y : A) → o ≡ Ok y → f y ≡ Ok r → P) → P
ok_then (Ok y) f r e k = k y refl e
ok_then (Err x) f r e k = cc

ok_is : {A : Type 0} (a b : A) → (let o : Outcome A = Ok a in o ≡ Ok b) → a ≡ b
ok_is a b e = cc

-- one comparison
within_as_written : (c : Comparison) (d y p q : ℤ) → q -ℤ p ≡ d -ℤ y → Same (IsWithin (compared_with c d) y) (Compares (Some c) p q)
within_as_written Equal d y p q h = ((λ i. omega (arith, ints, i.0, i.1, h)), (λ i. (omega (arith, ints, i, h), omega (arith, ints, i, h))))
within_as_written AtMost d y p q h = ((λ i. omega (arith, ints, i.1, h)), (λ i. (tt, omega (arith, ints, i, h))))
within_as_written AtLeast d y p q h = ((λ i. omega (arith, ints, i.0, h)), (λ i. (omega (arith, ints, i, h), tt)))

within_flipped : (c : Comparison) (d y p q : ℤ) → p -ℤ q ≡ d -ℤ y → Same (IsWithin (compared_with (flipped c) d) y) (Compares (Some c) p q)
within_flipped Equal d y p q h = ((λ i. omega (arith, ints, i.0, i.1, h)), (λ i. (omega (arith, ints, i, h), omega (arith, ints, i, h))))
within_flipped AtMost d y p q h = ((λ i. omega (arith, ints, i.0, h)), (λ i. (omega (arith, ints, i, h), tt)))
within_flipped AtLeast d y p q h = ((λ i. omega (arith, ints, i.1, h)), (λ i. (tt, omega (arith, ints, i, h))))

at_same : (r q : Sides) (y : ℤ) (B : Type 0) → (let o : Outcome Sides = Ok q in o ≡ Ok r) → Same (IsWithin q y) B → Same (IsWithin r y) B
at_same r q y B e h = subst (λ k. Same (IsWithin k y) B) (ok_is q r e) h

solved_ok : (at : Span) (c : Option Comparison) (m n : NetTerm) (a b : ℤ) (r : Sides) (y p q : ℤ) → solved at c m n a b ≡ Ok r
    → (is_clear m ≡ true → p ≡ a +ℤ at_inflow m y) → (is_clear n ≡ true → q ≡ b +ℤ at_inflow n y) → Same (IsWithin r y) (Compares c p q)
solved_ok at (Some c) Inflow Absent a b r y p q e h k = at_same r _ y _ e (within_as_written c (b -ℤ a) y p q (omega (arith, ints, h refl, k refl)))
solved_ok at (Some c) Absent Outflow a b r y p q e h k = at_same r _ y _ e (within_as_written c (b -ℤ a) y p q (omega (arith, ints, h refl, k refl)))
solved_ok at (Some c) Outflow Absent a b r y p q e h k = at_same r _ y _ e (within_flipped c (a -ℤ b) y p q (omega (arith, ints, h refl, k refl)))
solved_ok at (Some c) Absent Inflow a b r y p q e h k = at_same r _ y _ e (within_flipped c (a -ℤ b) y p q (omega (arith, ints, h refl, k refl)))
solved_ok at _ _ _ a b r y p q e h k = cc

if_small : {A : Type 0} (b : Bool) (o : Outcome A) (at : Span) (r : A) → (if b then o else rejected ValueTooLarge at) ≡ Ok r → (b ≡ true) × (o ≡ Ok r)
if_small true o at r e = (refl, e)
if_small false o at r e = cc

-- of two expressions
pair_ok : (w : World) (s : Scope) (at : Span) (c : Option Comparison) (x z : Tree) (a b : Option ℤ) (r : Sides) (y : ℤ) → number_or_none w s x ≡ Ok a → number_or_none w s z ≡ Ok b
    → solved_sides at c (net_side x) (net_side z) a b ≡ Ok r → Same (IsWithin r y) (Compares c (side_at w s x y) (side_at w s z y))
pair_ok w s at c x z (Some a) (Some b) r y h k e =
    let small = if_small (is_small a && is_small b) (solved at c (net_side x) (net_side z) a b) at r e in
    solved_ok at c (net_side x) (net_side z) a b r y (side_at w s x y) (side_at w s z y) small.1 (λ i. side_ok w s x a y i h) (λ i. side_ok w s z b y i k)
pair_ok w s at c x z (Some a) None r y h k e = cc
pair_ok w s at c x z None b r y h k e = cc

ends_ok : (at : Span) (a b c d : Option ℤ) (r : Sides) (y : ℤ) → met_ends at a b c d ≡ Ok r → Same (IsWithin r y) ((IsAbove a y × IsBelow b y) × (IsAbove c y × IsBelow d y))
ends_ok at None (Some h) (Some l) None r y e = at_same r (record { low = Some l; high = Some h }) y _ e ((λ i. ((tt, i.1), (i.0, tt))), (λ i. (i.1.0, i.0.1)))
ends_ok at (Some l) None None (Some h) r y e = at_same r (record { low = Some l; high = Some h }) y _ e ((λ i. ((i.0, tt), (tt, i.1))), (λ i. (i.0.0, i.1.1)))
ends_ok at _ _ _ _ r y e = cc

pub sides_exact : (w : World) (s : Scope) (c : Condition) (r : Sides) → sides_in w s c ≡ Ok r → (y : ℤ) → Same (IsWithin r y) (Holds w s c y)
sides_exact w s unsaid r e y = at_same r (compared_with Equal (pos 0)) y _ e ((λ i. omega (arith, ints, i.0, i.1)), (λ i. (omega (arith, ints, i), omega (arith, ints, i))))
sides_exact w s (one m x o z) r e y =
    ok_then (number_or_none w s x) _ r e (λ a h f. ok_then (number_or_none w s z) _ r f (λ b k g.
    pair_ok w s (from_to x z) (comparison_in (role_of o)) x z a b r y h k g))
sides_exact w s (between m x o z p u) r e y =
    ok_then (number_or_none w s x) _ r e (λ a h f. ok_then (number_or_none w s z) _ r f (λ b k g. ok_then (number_or_none w s u) _ r g (λ d l i.
    ok_then (solved_sides (from_to x u) (comparison_in (role_of o)) (net_side x) (net_side z) a b) _ r i (λ q j v.
    ok_then (solved_sides (from_to x u) (comparison_in (role_of p)) (net_side z) (net_side u) b d) _ r v (λ t n met_so.
    let first = pair_ok w s (from_to x u) (comparison_in (role_of o)) x z a b q y h k j in
    let second = pair_ok w s (from_to x u) (comparison_in (role_of p)) z u b d t y k l n in
    let both = ends_ok (from_to x u) q.low q.high t.low t.high r y met_so in
    ((λ i. let j = both.0 i in (first.0 j.0, second.0 j.1)), (λ i. both.1 (first.1 i.0, second.1 i.1))))))))

-- crossed sides leave nothing
uncrossed_some : (b : Bool) (q r : Sides) → ◌≡◌ {A = Outcome (Option Sides)} (Ok (if b then None else Some q)) (Ok (Some r)) → q ≡ r
uncrossed_some true q r e = cc
uncrossed_some false q r e = cc

pub range_exact : (w : World) (s : Scope) (c : Condition) (r : Sides) → range_in w s c ≡ Ok (Some r) → (y : ℤ) → Same (IsWithin r y) (Holds w s c y)
range_exact w s c r e y =
    ok_then (sides_in w s c) (λ q. Ok (uncrossed q)) (Some r) e (λ q h k.
    subst (λ k. Same (IsWithin k y) (Holds w s c y)) (uncrossed_some (are_crossed q.low q.high) q r k) (sides_exact w s c q h y))

none_between : (low high : Option ℤ) (y : ℤ) → are_crossed low high ≡ true → IsAbove low y → IsBelow high y → ⊥
none_between (Some l) (Some h) y e a b = let less : h <ℤ l = search (arith, ints, e) in omega (arith, ints, less, a, b)
none_between (Some l) None y e a b = cc
none_between None h y e a b = cc

pub nothing_meets : (w : World) (s : Scope) (c : Condition) → range_in w s c ≡ Ok None → (y : ℤ) → Holds w s c y → ⊥
nothing_meets w s c e y holds = ok_then (sides_in w s c) (λ q. Ok (uncrossed q)) None e (λ q h k. crossed_then q (are_crossed q.low q.high) refl h k)
  where
    crossed_then : (q : Sides) (b : Bool) → are_crossed q.low q.high ≡ b → sides_in w s c ≡ Ok q → ◌≡◌ {A = Outcome (Option Sides)} (Ok (if b then None else Some q)) (Ok None) → ⊥
    crossed_then q true i h k = let in_it = (sides_exact w s c q h y).1 holds in none_between q.low q.high y i in_it.0 in_it.1
    crossed_then q false i h k = cc

-- the sides are of a size that a network takes
sides_of : (r q : Sides) → (let o : Outcome Sides = Ok q in o ≡ Ok r) → AreSides q → AreSides r
sides_of r q e h = subst AreSides (ok_is q r e) h

some_sized : (n : ℤ) → IsSized range_limit n → ForSome (Some n) (IsSized range_limit)
some_sized n h = λ m e. let same : n ≡ m = cc in subst (IsSized range_limit) same h

none_sized : ForSome None (IsSized range_limit)
none_sized = λ m e. cc

compared_sized : (c : Comparison) (n : ℤ) → IsSized range_limit n → AreSides (compared_with c n)
compared_sized Equal n h = record { given = refl; low_fits = some_sized n h; high_fits = some_sized n h }
compared_sized AtMost n h = record { given = refl; low_fits = none_sized; high_fits = some_sized n h }
compared_sized AtLeast n h = record { given = refl; low_fits = some_sized n h; high_fits = none_sized }

solved_sized : (at : Span) (c : Option Comparison) (m n : NetTerm) (a b : ℤ) (r : Sides) → is_small a ≡ true → is_small b ≡ true → solved at c m n a b ≡ Ok r → AreSides r
solved_sized at (Some c) Inflow Absent a b r h k e = sides_of r _ e (compared_sized c (b -ℤ a) (difference_sized b a k h))
solved_sized at (Some c) Absent Outflow a b r h k e = sides_of r _ e (compared_sized c (b -ℤ a) (difference_sized b a k h))
solved_sized at (Some c) Outflow Absent a b r h k e = sides_of r _ e (compared_sized (flipped c) (a -ℤ b) (difference_sized a b h k))
solved_sized at (Some c) Absent Inflow a b r h k e = sides_of r _ e (compared_sized (flipped c) (a -ℤ b) (difference_sized a b h k))
solved_sized at _ _ _ a b r h k e = cc

both_are : (a b : Bool) → a && b ≡ true → (a ≡ true) × (b ≡ true)
both_are true true h = (refl, refl)
both_are true false h = cc
both_are false b h = cc

pair_sized : (at : Span) (c : Option Comparison) (m n : NetTerm) (a b : Option ℤ) (r : Sides) → solved_sides at c m n a b ≡ Ok r → AreSides r
pair_sized at c m n (Some a) (Some b) r e =
    let small = if_small (is_small a && is_small b) (solved at c m n a b) at r e in
    let both = both_are (is_small a) (is_small b) small.0 in
    solved_sized at c m n a b r both.0 both.1 small.1
pair_sized at c m n (Some a) None r e = cc
pair_sized at c m n None b r e = cc

ends_sized : (at : Span) (a b c d : Option ℤ) (r : Sides) → met_ends at a b c d ≡ Ok r → ForSome a (IsSized range_limit) → ForSome b (IsSized range_limit) → ForSome c (IsSized range_limit) → ForSome d (IsSized range_limit) → AreSides r
ends_sized at None (Some h) (Some l) None r e i j k m = sides_of r (record { low = Some l; high = Some h }) e (record { given = refl; low_fits = k; high_fits = j })
ends_sized at (Some l) None None (Some h) r e i j k m = sides_of r (record { low = Some l; high = Some h }) e (record { given = refl; low_fits = i; high_fits = m })
ends_sized at _ _ _ _ r e i j k m = cc

pub sides_sized : (w : World) (s : Scope) (c : Condition) (r : Sides) → sides_in w s c ≡ Ok r → AreSides r
sides_sized w s unsaid r e = sides_of r (compared_with Equal (pos 0)) e (compared_sized Equal (pos 0) (record { above = omega (arith, ints); below = omega (arith, ints) }))
sides_sized w s (one m x o z) r e =
    ok_then (number_or_none w s x) _ r e (λ a h f. ok_then (number_or_none w s z) _ r f (λ b k g. pair_sized _ _ _ _ a b r g))
sides_sized w s (between m x o z p u) r e =
    ok_then (number_or_none w s x) _ r e (λ a h f. ok_then (number_or_none w s z) _ r f (λ b k g. ok_then (number_or_none w s u) _ r g (λ d l i.
    ok_then (solved_sides (from_to x u) (comparison_in (role_of o)) (net_side x) (net_side z) a b) _ r i (λ q j v.
    ok_then (solved_sides (from_to x u) (comparison_in (role_of p)) (net_side z) (net_side u) b d) _ r v (λ t n met_so.
    let first = pair_sized _ _ _ _ a b q j in
    let second = pair_sized _ _ _ _ b d t n in
    ends_sized (from_to x u) q.low q.high t.low t.high r met_so first.low_fits first.high_fits second.low_fits second.high_fits)))))

-- in the words of net_normal
above_some : (o : Option ℤ) (y : ℤ) → Same (IsAbove o y) (ForSome o (λ l. l ≤ℤ y))
above_some None y = ((λ h m e. cc), (λ h. tt))
above_some (Some n) y = ((λ h m e. let same : n ≡ m = cc in omega (arith, ints, same, h)), (λ h. h n refl))

below_some : (o : Option ℤ) (y : ℤ) → Same (IsBelow o y) (ForSome o (λ h. y ≤ℤ h))
below_some None y = ((λ h m e. cc), (λ h. tt))
below_some (Some n) y = ((λ h m e. let same : n ≡ m = cc in omega (arith, ints, same, h)), (λ h. h n refl))

pub in_range : (w : World) (s : Scope) (c : Condition) (r : NodeRange) → range_in w s c ≡ Ok (Some (record { low = r.low; high = r.high })) → (y : ℤ) → Same (IsInRange r y) (Holds w s c y)
in_range w s c r e y =
    let exact = range_exact w s c (record { low = r.low; high = r.high }) e y in
    let low = above_some r.low y in
    let high = below_some r.high y in
    ((λ i. exact.0 (low.1 i.low, high.1 i.high)), (λ i. let h = exact.1 i in record { low = low.0 h.0; high = high.0 h.1 }))

pub exact_by : (w : World) (s : Scope) (c : Condition) (r : Result (Option NodeRange) Fault) → AnswersRange (range_in w s c) r
    → IfOk r (λ found. IfSome found (λ range. (y : ℤ) → IsInRange range y ↔ Holds w s c y))
exact_by w s c (Ok None) e = tt
exact_by w s c (Ok (Some range)) e = in_range w s c range e
exact_by w s c (Err f) e = tt

pub crossed_by : (w : World) (s : Scope) (c : Condition) (r : Result (Option NodeRange) Fault) → AnswersRange (range_in w s c) r
    → IfOk r (λ found. found ≡ None → (y : ℤ) → Holds w s c y → ⊥)
crossed_by w s c (Ok None) e = λ k y h. nothing_meets w s c e y h
crossed_by w s c (Ok (Some range)) e = λ k y h. cc
crossed_by w s c (Err f) e = tt
