-- Levels for numbers that rise, and potentials that are moved to their levels.
use Rattle.std.proofs.Common.{All, vec_len, ◌-◌, Ordering, Result, w64, to_z, of_z, false, ◌≡◌, ℕ, zero, suc, ◌+◌, ◌*◌, ◌^◌, ◌<◌, ◌≤◌, List, [], ◌∷◌, ◌++◌, length, get_or, inl, inr, ℤ, pos, ◌+ℤ◌, ◌-ℤ◌, ◌≤ℤ◌, ◌<ℤ◌, refl, sym, ◌∙◌, ap, subst, arith}
use Rattle.std.proofs.lemmas.Int.{ints, clamps}
use Rattle.std.specs.Int.{int_min}
use Rattle.std.proofs.lemmas.Bool.{cases_lt}
use Rattle.std.specs.List.Sorted.{IsBinarySearchResult, IsSorted, IsPermutation}
use Rattle.std.specs.Int.{w128}
use Rattle.std.specs.Ordering.{MatchOrdering, int_cmp, is_lt, ordering_index}
use Rattle.std.specs.Cmp.{int_ranks}
use Rattle.std.proofs.Common.{MatchResult, Ok, Err, Less, Equal, Greater}
use Rattle.std.proofs.lemmas.List.Sorted.{Contains-permutation}
use Rattle.std.proofs.lemmas.List.Elements.{Contains-get_or}
use Rattle.std.proofs.lemmas.List.{get_or_past, get_or_default}
use Rattle.std.proofs.Math.ListN.{get_or-append}
use Rattle.std.proofs.Math.Seq.{get_or-append_seam}
use Rattle.std.specs.List.{AllZip, AllByRecursion}
use Rattle.std.proofs.lemmas.List.Elements.{recursion_from_All}
use Rattle.net_normal.specs.Limits.{IsSized, IsFlowArcOf}
use Rattle.net_normal.specs.declared.problem.FlowArc.{FlowArc}
use Rattle.net_normal.specs.declared.problem.Problem.{Problem}
use Rattle.net_check.specs.Certificates.{IsComplementary}
use Rattle.net_solve.specs.Pseudoflows.{IsUnderWay, IsCloser, IsRising, StandsIn, AreFromTo, AreCloser, AreLevelsOf, HasLevelOf}
use Rattle.net_solve.proofs.ForestSinking.{closed-arc, closer-next}

pub record HasLevelled (most : ℕ) (sorted : List ℤ) (i : ℕ) (last level : ℤ) (levels : List ℤ) : Type 0 where
  pub count : length levels ≡ i
  pub first : i ≡ 0 → last ≡ get_or sorted 0 (pos 0)
  pub before : (k : ℕ) → k < i → get_or sorted k (pos 0) ≤ℤ last
  pub after : (k : ℕ) → i ≤ k → k < length sorted → last ≤ℤ get_or sorted k (pos 0)
  pub closer : (k j : ℕ) → k ≤ j → j < i → IsCloser most (get_or sorted k (pos 0)) (get_or sorted j (pos 0)) (get_or levels k (pos 0)) (get_or levels j (pos 0))
  pub now : (k : ℕ) → k < i → IsCloser most (get_or sorted k (pos 0)) last (get_or levels k (pos 0)) level
  pub below : (k : ℕ) → k < i → (pos 0 ≤ℤ get_or levels k (pos 0)) × (get_or levels k (pos 0) ≤ℤ level)
  pub size : IsSized (2 ^ 63) last
  pub low : pos 0 ≤ℤ level
  pub high : level ≤ℤ pos (i * most)

pub levelled-start : (most : ℕ) (sorted : List ℤ) (last : ℤ) → IsRising sorted → IsSized (2 ^ 63) last → last ≡ get_or sorted 0 (pos 0) → HasLevelled most sorted 0 last (pos 0) []
levelled-start most sorted last up small is = record {
  size = small;
  count = refl;
  first = λ e. is;
  before = λ k l. absurd (omega (arith, l));
  after = λ k l m. subst (λ (x : ℤ). x ≤ℤ get_or sorted k (pos 0)) (sym is) (up 0 k (omega arith) m);
  closer = λ k j l m. absurd (omega (arith, m));
  now = λ k l. absurd (omega (arith, l));
  below = λ k l. absurd (omega (arith, l));
  low = omega (arith, ints);
  high = omega (arith, ints);
}

next_high : (i most : ℕ) → i * most + most ≡ (i + 1) * most
next_high i most = omega arith

same-closer : (most : ℕ) (x u : ℤ) → IsCloser most x x u u
same-closer most x u = record { either = inl (omega (arith, ints)) }

-- a list with one more at its end
abbrev with : List ℤ → ℤ → List ℤ
with xs x = xs ++ x ∷ []

at-old : (xs : List ℤ) (x : ℤ) (k : ℕ) → k < length xs → get_or (with xs x) k (pos 0) ≡ get_or xs k (pos 0)
at-old xs x k l = get_or-append xs (x ∷ []) (pos 0) k l

at-new : (xs : List ℤ) (x : ℤ) (k : ℕ) → length xs ≡ k → get_or (with xs x) k (pos 0) ≡ x
at-new xs x k e = subst (λ (n : ℕ). get_or (with xs x) n (pos 0) ≡ x) e (get_or-append_seam xs x [] (pos 0))

closer-same : (most : ℕ) (x y u v u' v' : ℤ) → u' ≡ u → v' ≡ v → IsCloser most x y u v → IsCloser most x y u' v'
closer-same most x y u v u' v' e f h = subst (λ (z : ℤ). IsCloser most x y z v') (sym e) (subst (λ (z : ℤ). IsCloser most x y u z) (sym f) h)

pub levelled-next : (most : ℕ) (sorted : List ℤ) (i : ℕ) (last level next : ℤ) (levels : List ℤ) → IsRising sorted → i < length sorted → IsSized (2 ^ 63) (get_or sorted i (pos 0)) → HasLevelled most sorted i last level levels
    → next ≡ level +ℤ int_min (get_or sorted i (pos 0) -ℤ last) (pos most) → HasLevelled most sorted (i + 1) (get_or sorted i (pos 0)) next (with levels next)
levelled-next most sorted i last level next levels up inside small h is =
    let z = get_or sorted i (pos 0) in
    let rises : last ≤ℤ z = h.after i (omega arith) inside in
    let above : level ≤ℤ next = omega (arith, ints, clamps, is, rises) in
    let far : next ≤ℤ (level +ℤ pos most) = omega (arith, ints, clamps, is) in
    let last-closer : (k : ℕ) → k < i → IsCloser most (get_or sorted k (pos 0)) z (get_or levels k (pos 0)) next
    = λ k l. closer-next most (get_or sorted k (pos 0)) last z (get_or levels k (pos 0)) level next (h.before k l) rises ((h.below k l).1) (h.now k l) is in
    let old : (k : ℕ) → k < i → get_or (with levels next) k (pos 0) ≡ get_or levels k (pos 0) = λ k l. at-old levels next k (omega (arith, l, h.count)) in
    let new : get_or (with levels next) i (pos 0) ≡ next = at-new levels next i h.count in
    let upto : (k : ℕ) → k < i + 1 → IsCloser most (get_or sorted k (pos 0)) z (get_or (with levels next) k (pos 0)) next
    = λ k l. elim (cases_lt k i) as (λ _. IsCloser most (get_or sorted k (pos 0)) z (get_or (with levels next) k (pos 0)) next) [
      | inl m ↦ subst (λ (u : ℤ). IsCloser most (get_or sorted k (pos 0)) z u next) (sym (old k m)) (last-closer k m)
      | inr m ↦
          let e : i ≡ k = omega (arith, l, m) in
          subst (λ (n : ℕ). IsCloser most (get_or sorted n (pos 0)) z (get_or (with levels next) n (pos 0)) next) e (subst (λ (u : ℤ). IsCloser most z z u next) (sym new) (same-closer most z next))
    ] in
    record {
      count = omega (arith, h.count, length-with levels next);
      first = λ e. absurd (omega (arith, e));
      before = λ k l. up k i (omega (arith, l)) inside;
      after = λ k l m. up i k (omega (arith, l)) m;
      closer = λ k j l m. elim (cases_lt j i) as (λ _. IsCloser most (get_or sorted k (pos 0)) (get_or sorted j (pos 0)) (get_or (with levels next) k (pos 0)) (get_or (with levels next) j (pos 0))) [
        | inl below ↦ closer-same most _ _ _ _ _ _ (old k (omega (arith, l, below))) (old j below) (h.closer k j l below)
        | inr past ↦
            let e : i ≡ j = omega (arith, m, past) in
            subst (λ (n : ℕ). IsCloser most (get_or sorted k (pos 0)) (get_or sorted n (pos 0)) (get_or (with levels next) k (pos 0)) (get_or (with levels next) n (pos 0))) e
            (subst (λ (u : ℤ). IsCloser most (get_or sorted k (pos 0)) z (get_or (with levels next) k (pos 0)) u) (sym new) (upto k (omega (arith, l, e))))
      ];
      now = upto;
      below = λ k l. elim (cases_lt k i) as (λ _. (pos 0 ≤ℤ get_or (with levels next) k (pos 0)) × (get_or (with levels next) k (pos 0) ≤ℤ next)) [
        | inl m ↦ let b = h.below k m in (omega (arith, ints, old k m, b.0), omega (arith, ints, old k m, b.1, above))
        | inr m ↦
            let e : i ≡ k = omega (arith, l, m) in
            subst (λ (n : ℕ). (pos 0 ≤ℤ get_or (with levels next) n (pos 0)) × (get_or (with levels next) n (pos 0) ≤ℤ next)) e (omega (arith, ints, new, above, h.low), omega (arith, ints, new))
      ];
      size = small;
      low = omega (arith, ints, above, h.low);
      high = omega (arith, ints, far, h.high, next_high i most);
    }
  where
    length-with : (xs : List ℤ) (x : ℤ) → length (with xs x) ≡ length xs + 1
    length-with [] x = refl
    length-with (y ∷ xs) x = omega (arith, length-with xs x)

pub levelled-done : (most : ℕ) (sorted : List ℤ) (i : ℕ) (last level : ℤ) (levels : List ℤ) → i ≡ length sorted → HasLevelled most sorted i last level levels → AreLevelsOf most sorted levels
levelled-done most sorted i last level levels end h = record {
  count = h.count ∙ end;
  closer = λ k j l m. h.closer k j l (omega (arith, m, end));
  size = λ v l. let b = h.below v (omega (arith, l, h.count)) in (b.0, subst (λ (n : ℕ). get_or levels v (pos 0) ≤ℤ pos (n * most)) end (omega (arith, ints, b.1, h.high)));
}

-- a level fits
pub level-small : (most i : ℕ) → most ≤ 10 ^ 12 → i ≤ 20000 → i * most ≤ 2 * 10 ^ 16
level-small most i small few = mul-small i 20000 most few (omega (arith, small))
  where
    mul-small : (i n most : ℕ) → i ≤ n → n * most ≤ 2 * 10 ^ 16 → i * most ≤ 2 * 10 ^ 16
    mul-small zero n most l h = omega arith
    mul-small (suc i) zero most l h = absurd (omega (arith, l))
    mul-small (suc i) (suc n) most l h = omega (arith, mul-le i n most (omega (arith, l)), h)
      where
        mul-le : (i n most : ℕ) → i ≤ n → i * most ≤ n * most
        mul-le zero n most l = omega arith
        mul-le (suc i) zero most l = absurd (omega (arith, l))
        mul-le (suc i) (suc n) most l = omega (arith, mul-le i n most (omega (arith, l)))

-- the other way round
pub closer-turned : (most : ℕ) (x y u v : ℤ) → IsCloser most x y u v → IsCloser most y x v u
closer-turned most x y u v h = elim h.either as (λ _. IsCloser most y x v u) [
  | inl e ↦ record { either = inl (omega (arith, ints, e)) }
  | inr far ↦ elim far as (λ _. IsCloser most y x v u) [
    | inl a ↦ record { either = inr (inr a) }
    | inr b ↦ record { either = inr (inl b) }
  ]
]

pub all-closer : (most : ℕ) (sorted levels old new : List ℤ) → AreLevelsOf most sorted levels → ((v : ℕ) → v < length old → HasLevelOf sorted levels (get_or old v (pos 0)) (get_or new v (pos 0))) → AreCloser most old new
all-closer most sorted levels old new h each u v l m =
    let a = each u l in
    let b = each v m in
    let now = λ (closer : IsCloser most (get_or sorted a.place (pos 0)) (get_or sorted b.place (pos 0)) (get_or levels a.place (pos 0)) (get_or levels b.place (pos 0))).
    subst (λ (x : ℤ). IsCloser most x (get_or old v (pos 0)) (get_or new u (pos 0)) (get_or new v (pos 0))) a.is
    (subst (λ (y : ℤ). IsCloser most (get_or sorted a.place (pos 0)) y (get_or new u (pos 0)) (get_or new v (pos 0))) b.is
    (subst (λ (x : ℤ). IsCloser most (get_or sorted a.place (pos 0)) (get_or sorted b.place (pos 0)) x (get_or new v (pos 0))) a.level_is
    (subst (λ (y : ℤ). IsCloser most (get_or sorted a.place (pos 0)) (get_or sorted b.place (pos 0)) (get_or levels a.place (pos 0)) y) b.level_is closer))) in
    elim (cases_lt b.place a.place) as (λ _. IsCloser most (get_or old u (pos 0)) (get_or old v (pos 0)) (get_or new u (pos 0)) (get_or new v (pos 0))) [
      | inl below ↦ now (closer-turned most _ _ _ _ (h.closer b.place a.place (omega (arith, below)) a.inside))
      | inr past ↦ now (h.closer a.place b.place (omega (arith, past)) b.inside)
    ]

pub all-sized : (most : ℕ) (sorted levels old new : List ℤ) → length sorted ≡ length old → length new ≡ length old → AreLevelsOf most sorted levels → ((v : ℕ) → v < length old → HasLevelOf sorted levels (get_or old v (pos 0)) (get_or new v (pos 0))) → AreFromTo (length old * most) new
all-sized most sorted levels old new same count h each v l =
    let a = each v (omega (arith, l, count)) in
    let b = h.size a.place (omega (arith, a.inside, h.count)) in
    (omega (arith, ints, b.0, a.level_is), subst (λ (n : ℕ). get_or new v (pos 0) ≤ℤ pos (n * most)) same (omega (arith, ints, b.1, a.level_is)))

-- a number stands there
abbrev pub At : List ℤ → ℤ → ℕ → Type 0
At xs x i = (i < length xs) × (get_or xs i (pos 0) ≡ x)

ranked : (o p : Ordering) (a b x : ℤ) → MatchOrdering o (a <ℤ x) (a ≡ x) (x <ℤ a) → MatchOrdering p (b <ℤ x) (b ≡ x) (x <ℤ b) → a ≤ℤ b → ordering_index o ≤ ordering_index p
ranked Less p a b x h k l = omega arith
ranked Equal Less a b x h k l = absurd (omega (arith, ints, h, k, l))
ranked Equal Equal a b x h k l = omega arith
ranked Equal Greater a b x h k l = omega arith
ranked Greater Less a b x h k l = absurd (omega (arith, ints, h, k, l))
ranked Greater Equal a b x h k l = absurd (omega (arith, ints, h, k, l))
ranked Greater Greater a b x h k l = omega arith

pub found : (xs : List ℤ) (x : ℤ) (r : Result ℕ ℕ) → IsBinarySearchResult (λ y. int_cmp y x) xs r → IsRising xs → StandsIn xs x → MatchResult r (At xs x) (At xs x)
found xs x (Ok i) h up known =
    let at : (d : ℤ) → get_or xs i d ≡ x = λ d. subst (λ o. MatchOrdering o (get_or xs i d <ℤ x) (get_or xs i d ≡ x) (x <ℤ get_or xs i d)) (h d) (int_ranks (get_or xs i d) x) in
    (elim (cases_lt i (length xs)) as (λ _. i < length xs) [ inl l ↦ l | inr l ↦ absurd (omega (arith, ints, at (x +ℤ pos 1), get_or_past xs i (x +ℤ pos 1) l)) ], at (pos 0))
found xs x (Err i) h up known =
    let m = known.place in
    let parted = h (λ a b d le l. ranked _ _ (get_or xs a d) (get_or xs b d) x (int_ranks (get_or xs a d) x) (int_ranks (get_or xs b d) x)
    (omega (arith, ints, up a b le l, get_or_default xs a d (pos 0) (omega (arith, le, l)), get_or_default xs b d (pos 0) l))) in
    elim (cases_lt m i) as (λ _. At xs x i) [
      | inl l ↦
          let below : get_or xs m (pos 0) <ℤ x = subst (λ o. MatchOrdering o (get_or xs m (pos 0) <ℤ x) (get_or xs m (pos 0) ≡ x) (x <ℤ get_or xs m (pos 0))) (parted.0 m (pos 0) (omega arith) l) (int_ranks (get_or xs m (pos 0)) x) in
          absurd (omega (arith, ints, below, known.is))
      | inr l ↦
          let above : x <ℤ get_or xs m (pos 0) = subst (λ o. MatchOrdering o (get_or xs m (pos 0) <ℤ x) (get_or xs m (pos 0) ≡ x) (x <ℤ get_or xs m (pos 0))) (parted.1 m (pos 0) l known.inside) (int_ranks (get_or xs m (pos 0)) x) in
          absurd (omega (arith, ints, above, known.is))
    ]

not-less : (o : Ordering) (x y : ℤ) → MatchOrdering o (x <ℤ y) (x ≡ y) (y <ℤ x) → is_lt o ≡ false → y ≤ℤ x
not-less Less x y h e = cc
not-less Equal x y h e = omega (arith, ints, h)
not-less Greater x y h e = omega (arith, ints, h)

-- a list in order rises
pub sorted-rises : (xs : List ℤ) → IsSorted int_cmp xs → IsRising xs
sorted-rises xs h i j le l = subst (λ (k : ℕ). get_or xs i (pos 0) ≤ℤ get_or xs k (pos 0)) (sym (far j le)) (up (j - i) (omega (arith, l, far j le)))
  where
    far : (j : ℕ) → i ≤ j → j ≡ i + (j - i)
    far j le = omega (arith, le)

    up : (k : ℕ) → i + k < length xs → get_or xs i (pos 0) ≤ℤ get_or xs (i + k) (pos 0)
    up zero m = subst (λ (n : ℕ). get_or xs i (pos 0) ≤ℤ get_or xs n (pos 0)) (none i) (omega (arith, ints))
      where
        none : (i : ℕ) → i ≡ i + 0
        none i = omega arith
    up (suc k) m =
        let next : i + k + 1 ≡ i + suc k = omega arith in
        let step = not-less _ _ _ (int_ranks (get_or xs (i + k + 1) (pos 0)) (get_or xs (i + k) (pos 0))) (h (i + k) (pos 0) (omega arith) (omega (arith, m))) in
        subst (λ (n : ℕ). get_or xs i (pos 0) ≤ℤ get_or xs n (pos 0)) next (omega (arith, ints, step, up k (omega (arith, m))))

-- what stands in a list stands in it after a sort
pub sorted-stands : (xs ys : List ℤ) (v : ℕ) → IsPermutation xs ys → v < length xs → StandsIn ys (get_or xs v (pos 0))
sorted-stands xs ys v h l =
    let x = get_or xs v (pos 0) in
    let c = Contains-permutation xs ys x h (Contains-get_or xs v (pos 0) l) in
    record { place = c.0; inside = c.1; is = get_or_default ys c.0 (pos 0) x c.1 ∙ c.2 }

-- one step up
pub step : (last x most m : ℤ) (n : ℕ) → last ≤ℤ x → IsSized (2 ^ 63) x → IsSized (2 ^ 63) last → most ≡ pos n → n ≤ 10 ^ 12 → m ≡ int_min (to_z w128 (of_z w128 (to_z w128 (of_z w128 x) -ℤ last))) (to_z w128 (of_z w128 most))
    → (m ≡ int_min (x -ℤ last) (pos n)) × ((pos 0 ≤ℤ m) × (m ≤ℤ pos (10 ^ 12)))
step last x most m n l h k e small is =
    let plain : to_z w128 (of_z w128 (to_z w128 (of_z w128 x) -ℤ last)) ≡ x -ℤ last = omega (arith, ints, h.above, h.below, k.above, k.below) in
    let whole : to_z w128 (of_z w128 most) ≡ pos n = omega (arith, ints, e, small) in
    let same : m ≡ int_min (x -ℤ last) (pos n) = is ∙ ap (λ (z : ℤ). int_min z (to_z w128 (of_z w128 most))) plain ∙ ap (λ (z : ℤ). int_min (x -ℤ last) z) whole in
    (same, (omega (arith, ints, clamps, same, l), omega (arith, ints, clamps, same, small)))

pub level-next : (level m : ℤ) → pos 0 ≤ℤ level → level ≤ℤ pos (2 * 10 ^ 16) → pos 0 ≤ℤ m → m ≤ℤ pos (10 ^ 12) → to_z w64 (of_z w64 (level +ℤ to_z w64 (of_z w64 (to_z w128 (of_z w128 m))))) ≡ level +ℤ m
level-next level m a b c d = omega (arith, ints, a, b, c, d)

pub placed : (sorted levels : List ℤ) (x y : ℤ) (place : ℕ) → length levels ≡ length sorted → AreFromTo (2 * 10 ^ 16) levels → At sorted x place → y ≡ to_z w64 (of_z w64 (get_or levels place (pos 0))) → HasLevelOf sorted levels x y
placed sorted levels x y place same size at is =
    let small = size place (omega (arith, at.0, same)) in
    record { place = place; inside = at.0; is = at.1; level_is = omega (arith, ints, is, small.0, small.1) }

pub levels-small : (most : ℕ) (sorted levels : List ℤ) → most ≤ 10 ^ 12 → length sorted ≤ 20000 → AreLevelsOf most sorted levels → AreFromTo (2 * 10 ^ 16) levels
levels-small most sorted levels small few h v l = let b = h.size v l in (b.0, omega (arith, ints, b.1, level-small most (length sorted) small few))

-- closing gaps keeps a flow complementary
closed-each : (most : ℕ) (n : ℕ) (old new : List ℤ) (arcs : List FlowArc) (flows : List ℤ) → length old ≡ n → AllByRecursion (λ arc. IsSized most arc.cost) arcs → AllByRecursion (IsFlowArcOf n) arcs → AreCloser most old new → AllZip (IsComplementary old) arcs flows → AllZip (IsComplementary new) arcs flows
closed-each most n old new [] [] count small fit closer h = tt
closed-each most n old new [] (y ∷ flows) count small fit closer h = absurd h
closed-each most n old new (a ∷ arcs) [] count small fit closer h = absurd h
closed-each most n old new (a ∷ arcs) (y ∷ flows) count small fit closer h =
    let src = fit.0.src in
    let dst = fit.0.dst in
    (closed-arc most old new a y small.0 (closer a.src a.dst (omega (arith, src, count)) (omega (arith, dst, count))) h.0, closed-each most n old new arcs flows count small.1 fit.1 closer h.1)

pub closed-under : (problem : Problem) (most : ℕ) (flows old new excess : List ℤ) → All (λ arc. IsSized most arc.cost) problem.arcs.items → AreCloser most old new → length new ≡ vec_len problem.supplies → IsUnderWay problem flows old excess → IsUnderWay problem flows new excess
closed-under problem most flows old new excess small closer count h = record {
  potentials_count = count;
  excess_count = h.excess_count;
  capacity = h.capacity;
  slackness = closed-each most (vec_len problem.supplies) old new problem.arcs.items flows h.potentials_count (recursion_from_All (λ arc. IsSized most arc.cost) problem.arcs.items small) (recursion_from_All (IsFlowArcOf (vec_len problem.supplies)) problem.arcs.items problem.arcs_fit) closer h.slackness;
  balance = h.balance;
}

pub within-level : (nodes most : ℕ) (potentials : List ℤ) → nodes ≤ 20000 → most ≤ 10 ^ 12 → AreFromTo (nodes * most) potentials → AreFromTo (2 * 10 ^ 16) potentials
within-level nodes most potentials few small h v l = let b = h v l in (b.0, omega (arith, ints, b.1, level-small most nodes small few))

-- a level in 64 bits
pub plain-level : (sorted levels : List ℤ) (x y : ℤ) → length levels ≡ length sorted → AreFromTo (2 * 10 ^ 16) levels → HasLevelOf sorted levels x y → HasLevelOf sorted levels x (to_z w64 (of_z w64 y))
plain-level sorted levels x y count small h =
    let size = small h.place (omega (arith, count, h.inside)) in
    let same : y ≡ to_z w64 (of_z w64 y) = omega (arith, ints, h.level_is, size.0, size.1) in
    subst (HasLevelOf sorted levels x) same h
