-- What is gathered of numbers is what a reduction makes of them, and a range lists its numbers.
use Rattle.std.specs.Prelude.{◌≡◌, ◌⊎◌, Bool, true, false, List, [], ◌∷◌, map, int_lt, Option, None, Some, if◌then◌else◌, IfOk, ℤ, pos, ◌+ℤ◌, ◌≤ℤ◌}
use Rattle.std.specs.List.{AllByRecursion, AllZip}
use Rattle.std.specs.Int.{int_min, int_max}
use Rattle.std.proofs.Common.{refl, ap, sym, ◌∙◌, subst, arith, inl, inr}
use Rattle.std.proofs.lemmas.Int.{ints}
use Rattle.net_base.specs.declared.diagnostic.Span.{Span}
use Rattle.net_base.specs.Outcomes.{Outcome}
use Rattle.net_tree.specs.declared.operator.Reduction.{Reduction}
use Rattle.net_tree.specs.declared.operator.Reduction.TheVariants.{Sum, Min, Max}
use Rattle.net_expr.specs.declared.row.Row.{Row}
use Rattle.net_expr.specs.declared.row.Keys.{Keys}
use Rattle.net_expr.specs.declared.value.Value.{Value as Found}
use Rattle.net_expr.specs.Numbers as numbers
use Rattle.net_expr.specs.Numbers.{gathered, sized}
use Rattle.net_expr.specs.Rows.{gathered_over, reduced_to, reduce}
use Rattle.net_expr.specs.Worlds.{Scope}
use Rattle.net_meaning.specs.Laws.{meaning_of}
use Rattle.net_normal.specs.Sums.{sum_of}
use Rattle.net_meaning.specs.Operators.{Value, number, IsAmong, Reduces}
use Rattle.net_meaning.proofs.Giving.{gives_then, gives_as}
use Rattle.net_meaning.proofs.Operating.{number_is, sized_is}

-- what is gathered of numbers behind others
abbrev Gathered : Reduction → Option ℤ → List ℤ → Option ℤ → Type 0
Gathered r o [] result = result ≡ o
Gathered r o (n ∷ ns) result = Gathered r (Some (gathered r o n)) ns result

sum_gathered : (a : ℤ) (ns : List ℤ) (o : Option ℤ) → Gathered Sum (Some a) ns o → o ≡ Some (a +ℤ sum_of ns)
sum_gathered a [] o h = h ∙ ap Some (omega (arith, ints))
sum_gathered a (n ∷ ns) o h = sum_gathered (a +ℤ n) ns o h ∙ ap Some (omega (arith, ints))

record IsLeast (a : ℤ) (ns : List ℤ) (o : Option ℤ) : Type 0 where
  least : ℤ
  is : o ≡ Some least
  among : (a ≡ least) ⊎ IsAmong ns least
  first : least ≤ℤ a
  all : AllByRecursion (λ m. least ≤ℤ m) ns

record IsGreatest (a : ℤ) (ns : List ℤ) (o : Option ℤ) : Type 0 where
  greatest : ℤ
  is : o ≡ Some greatest
  among : (a ≡ greatest) ⊎ IsAmong ns greatest
  first : a ≤ℤ greatest
  all : AllByRecursion (λ m. m ≤ℤ greatest) ns

lesser : (a n : ℤ) → ((int_min a n ≡ a) ⊎ (int_min a n ≡ n)) × (int_min a n ≤ℤ a) × (int_min a n ≤ℤ n)
lesser a n = go (int_lt n a) refl
  where
    go : (b : Bool) → int_lt n a ≡ b → (((if b then n else a) ≡ a) ⊎ ((if b then n else a) ≡ n)) × ((if b then n else a) ≤ℤ a) × ((if b then n else a) ≤ℤ n)
    go true e = (inr refl, search (arith, ints, e), omega (arith, ints))
    go false e = (inl refl, omega (arith, ints), search (arith, ints, e))

greater : (a n : ℤ) → ((int_max a n ≡ a) ⊎ (int_max a n ≡ n)) × (a ≤ℤ int_max a n) × (n ≤ℤ int_max a n)
greater a n = go (int_lt n a) refl
  where
    go : (b : Bool) → int_lt n a ≡ b → (((if b then a else n) ≡ a) ⊎ ((if b then a else n) ≡ n)) × (a ≤ℤ (if b then a else n)) × (n ≤ℤ (if b then a else n))
    go true e = (inl refl, omega (arith, ints), search (arith, ints, e))
    go false e = (inr refl, search (arith, ints, e), omega (arith, ints))

min_gathered : (a : ℤ) (ns : List ℤ) (o : Option ℤ) → Gathered Min (Some a) ns o → IsLeast a ns o
min_gathered a [] o h = record { least = a; is = h; among = inl refl; first = omega (arith, ints); all = tt }
min_gathered a (n ∷ ns) o h =
    let rest = min_gathered (int_min a n) ns o h in
    let (one, below, under) = lesser a n in
    record { least = rest.least; is = rest.is; among = choose one rest.among; first = (let f = rest.first in omega (arith, ints, f, below)); all = ((let f = rest.first in omega (arith, ints, f, under)), rest.all) }
  where
    choose : {l : ℤ} → ((int_min a n ≡ a) ⊎ (int_min a n ≡ n)) → ((int_min a n ≡ l) ⊎ IsAmong ns l) → (a ≡ l) ⊎ ((n ≡ l) ⊎ IsAmong ns l)
    choose (inl e) (inl f) = inl (sym e ∙ f)
    choose (inr e) (inl f) = inr (inl (sym e ∙ f))
    choose e (inr f) = inr (inr f)

max_gathered : (a : ℤ) (ns : List ℤ) (o : Option ℤ) → Gathered Max (Some a) ns o → IsGreatest a ns o
max_gathered a [] o h = record { greatest = a; is = h; among = inl refl; first = omega (arith, ints); all = tt }
max_gathered a (n ∷ ns) o h =
    let rest = max_gathered (int_max a n) ns o h in
    let (one, above, over) = greater a n in
    record { greatest = rest.greatest; is = rest.is; among = choose one rest.among; first = (let f = rest.first in omega (arith, ints, f, above)); all = ((let f = rest.first in omega (arith, ints, f, over)), rest.all) }
  where
    choose : {l : ℤ} → ((int_max a n ≡ a) ⊎ (int_max a n ≡ n)) → ((int_max a n ≡ l) ⊎ IsAmong ns l) → (a ≡ l) ⊎ ((n ≡ l) ⊎ IsAmong ns l)
    choose (inl e) (inl f) = inl (sym e ∙ f)
    choose (inr e) (inl f) = inr (inl (sym e ∙ f))
    choose e (inr f) = inr (inr f)

none_is : {A : Type 0} (a : A) → None ≡ Some a → ⊥
none_is a e = cc

reduced_is : (at : Span) (r : Reduction) (ns : List ℤ) (o : Option ℤ) → Gathered r None ns o → IfOk (reduced_to at r o) (λ v. (n : ℤ) × Reduces r ns n × (meaning_of v ≡ number n))
reduced_is at Sum [] None h = (pos 0, refl, refl)
reduced_is at Min [] None h = tt
reduced_is at Max [] None h = tt
reduced_is at r [] (Some a) h = absurd (none_is a (sym h))
reduced_is at Sum (n ∷ ns) None h = absurd (none_is _ (sum_gathered n ns None h))
reduced_is at Min (n ∷ ns) None h = absurd (none_is _ (min_gathered n ns None h).is)
reduced_is at Max (n ∷ ns) None h = absurd (none_is _ (max_gathered n ns None h).is)
reduced_is at Sum (n ∷ ns) (Some a) h =
    gives_as _ _ (sized at a) (λ v e. (a, (let same : Some a ≡ Some (n +ℤ sum_of ns) = sum_gathered n ns (Some a) h in cc), e)) (sized_is at a)
reduced_is at Min (n ∷ ns) (Some a) h =
    let l = min_gathered n ns (Some a) h in
    let same : a ≡ l.least = (let e = l.is in cc) in
    gives_as _ _ (sized at a) (λ v e. (l.least, (l.among, (l.first, l.all)), e ∙ ap number same)) (sized_is at a)
reduced_is at Max (n ∷ ns) (Some a) h =
    let l = max_gathered n ns (Some a) h in
    let same : a ≡ l.greatest = (let e = l.is in cc) in
    gives_as _ _ (sized at a) (λ v e. (l.greatest, (l.among, (l.first, l.all)), e ∙ ap number same)) (sized_is at a)

-- P of the value of the body at each row
module _ (at : Span) (r : Reduction) (body : Scope → Outcome Found) {K : Type 0} (as_key : Row → K) (P : K → Value → Type 0) (h : (q : Row) → IfOk (body q.scope) (λ v. P (as_key q) (meaning_of v))) where
  numbers_gathered : (rows : List Row) (o : Option ℤ) → IfOk (gathered_over at r body rows o) (λ result. (ns : List ℤ) × AllZip (λ k n. P k (number n)) (map as_key rows) ns × Gathered r o ns result)
  numbers_gathered [] o = ([], tt, refl)
  numbers_gathered (q ∷ rows) o =
      gives_then (λ v. P (as_key q) (meaning_of v)) _ (body q.scope) _ (h q) (λ v p.
      gives_then (λ n. meaning_of v ≡ number n) _ (numbers.number at v) _ (number_is at v) (λ n e.
      gives_as _ _ (gathered_over at r body rows (Some (gathered r o n))) (λ result (ns, all, g). (n ∷ ns, (subst (P (as_key q)) e p, all), g)) (numbers_gathered rows (Some (gathered r o n)))))

  pub reduce_is : (k : Keys) → IfOk (reduce at r body k) (λ v. (ns : List ℤ) × (n : ℤ) × AllZip (λ q m. P q (number m)) (map as_key k.rows) ns × Reduces r ns n × (meaning_of v ≡ number n))
  reduce_is k =
      gives_then _ _ (gathered_over at r body k.rows None) (reduced_to at r) (numbers_gathered k.rows None) (λ o (ns, all, g).
      gives_as _ _ (reduced_to at r o) (λ v (n, red, e). (ns, n, all, red, e)) (reduced_is at r ns o g))
