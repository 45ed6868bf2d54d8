-- Sums in 128 bits, and the cost of the arcs so far with that of the arcs to come.
use Rattle.std.proofs.Common.{◌≡◌, ℕ, suc, ◌+◌, ◌*◌, ◌^◌, ◌<◌, ◌≤◌, List, ◌∷◌, length, get_or, drop, ℤ, ◌+ℤ◌, ◌*ℤ◌, FitsSigned, to_z, of_z, sym, ◌∙◌, ap, subst, arith}
use mir.Syntax.{w128}
use Rattle.std.proofs.lemmas.Int.{ints}
use Rattle.std.proofs.Math.Seq.{drop-cons}
use Rattle.net_normal.specs.Limits.{IsSized}
use Rattle.net_normal.specs.Sums.{price_of}
use Rattle.net_normal.specs.declared.problem.FlowArc.{FlowArc}

pub sum_is : (total x : ℤ) → IsSized (10 ^ 36) total → IsSized (10 ^ 36) x → to_z w128 (of_z w128 (total +ℤ to_z w128 (of_z w128 x))) ≡ total +ℤ x
sum_is total x h k = omega (arith, ints)

pub sum_fits : (total x : ℤ) → IsSized (10 ^ 36) total → IsSized (10 ^ 36) x → FitsSigned w128 (total +ℤ to_z w128 (of_z w128 x))
sum_fits total x h k = omega (arith, ints)

pub plain_128 : (x : ℤ) → IsSized (10 ^ 36) x → to_z w128 (of_z w128 x) ≡ x
plain_128 x h = omega (arith, ints)

-- two numbers of the same bits
pub same_bits : (x y : ℤ) → IsSized (10 ^ 36) x → IsSized (10 ^ 36) y → of_z w128 x ≡ of_z w128 y → x ≡ y
same_bits x y h k e = sym (plain_128 x h) ∙ ap (to_z w128) e ∙ plain_128 y k

pub smaller : (m n : ℕ) (x : ℤ) → m ≤ n → IsSized m x → IsSized n x
smaller m n x l h = record { above = omega (arith, ints, h.above); below = omega (arith, ints, h.below) }

pub sized-add : (m n : ℕ) (x y : ℤ) → IsSized m x → IsSized n y → IsSized (m + n) (x +ℤ y)
sized-add m n x y h k = record { above = omega (arith, ints, h.above, k.above); below = omega (arith, ints, h.below, k.below) }

-- a list from index i on, when its element there has been read
pub split_at : {A : Type 0} (xs : List A) (i : ℕ) (d : A) → i < length xs → drop i xs ≡ get_or xs i d ∷ drop (suc i) xs
split_at xs i d h = drop-cons xs i d h

-- what the arcs so far cost, with what those to come cost, is what all cost
pub record HasPriced (arcs : List FlowArc) (flows : List ℤ) (i : ℕ) (total : ℤ) : Type 0 where
  pub whole : total +ℤ price_of (λ arc. arc.cost) (drop i arcs) (drop i flows) ≡ price_of (λ arc. arc.cost) arcs flows
  pub size : IsSized (10 ^ 30 * i) total

next_size : (i : ℕ) → 10 ^ 30 * i + 10 ^ 30 ≡ 10 ^ 30 * suc i
next_size i = omega arith

pub priced-next : (arcs : List FlowArc) (flows : List ℤ) (i : ℕ) (d : FlowArc) (e total price next : ℤ) → i < length arcs → i < length flows → HasPriced arcs flows i total → price ≡ (get_or arcs i d).cost *ℤ get_or flows i e → IsSized (10 ^ 30) price → next ≡ total +ℤ price → HasPriced arcs flows (i + 1) next
priced-next arcs flows i d e total price next inside inside' h is small adds =
    let one : suc i ≡ i + 1 = omega arith in
    let sum : List FlowArc → List ℤ → ℤ = price_of (λ (arc : FlowArc). arc.cost) in
    let here : sum (drop i arcs) (drop i flows) ≡ ((get_or arcs i d).cost *ℤ get_or flows i e) +ℤ sum (drop (suc i) arcs) (drop (suc i) flows)
    = ap (λ (bs : List FlowArc). sum bs (drop i flows)) (split_at arcs i d inside) ∙ ap (sum (get_or arcs i d ∷ drop (suc i) arcs)) (split_at flows i e inside') in
    subst (λ (n : ℕ). HasPriced arcs flows n next) one
    (record {
      whole = omega (arith, ints, h.whole, here, is, adds);
      size = subst (λ (n : ℕ). IsSized n next) (next_size i) (subst (IsSized (10 ^ 30 * i + 10 ^ 30)) (sym adds) (sized-add (10 ^ 30 * i) (10 ^ 30) total price h.size small));
    })

pub price-small : (i : ℕ) (total : ℤ) → i ≤ 200000 → IsSized (10 ^ 30 * i) total → IsSized (10 ^ 36) total
price-small i total few h = smaller (10 ^ 30 * i) (10 ^ 36) total (omega arith) h
