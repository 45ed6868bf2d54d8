-- The balances of the nodes: what the arcs so far send out, with what those to come send, is what all send.
use Rattle.std.proofs.Common.{◌≡◌, ◌≢◌, ◌-◌, ◌%◌, set, sym, inl, inr, w64, to_z, of_z, ℕ, suc, ◌+◌, ◌*◌, ◌^◌, ◌<◌, ◌≤◌, Bool, true, false, cond, List, ◌∷◌, length, get_or, drop, nat_eq, ℤ, pos, ◌+ℤ◌, ◌-ℤ◌, ◌∙◌, ap, subst, arith}
use Rattle.std.specs.Int.{w128}
use Rattle.std.proofs.lemmas.Int.{ints}
use Rattle.std.proofs.lemmas.Bool.{cases_Bool}
use Rattle.std.proofs.lemmas.Bool.Decides.{nat_tests}
use Rattle.std.proofs.lemmas.Grind.{get_or-set_at}
use Rattle.std.proofs.lemmas.List.{get_or-set_other}
use Rattle.net_normal.specs.Limits.{IsSized, flow_limit}
use Rattle.net_normal.specs.Flows.{net_outflow}
use Rattle.net_normal.specs.Sums.{flow_on}
use Rattle.net_normal.specs.declared.problem.FlowArc.{FlowArc}
use Rattle.net_check.proofs.Sums.{split_at, smaller}

pub record HasCarried (n first : ℕ) (arcs : List FlowArc) (flows : List ℤ) (i : ℕ) (balances : List ℤ) : Type 0 where
  pub count : length balances ≡ n
  pub whole : (v : ℕ) → v < n → get_or balances v (pos 0) +ℤ net_outflow (drop i arcs) (drop i flows) (first + v) ≡ net_outflow arcs flows (first + v)
  pub sizes : (v : ℕ) → v < n → IsSized (2 * 10 ^ 18 * i) (get_or balances v (pos 0))

-- what `carry` says of the nodes of a block
abbrev pub Carries : ℕ → ℕ → FlowArc → ℤ → List ℤ → List ℤ → Type 0
Carries n first arc flow old new = (v : ℕ) → v < n → get_or new v (pos 0) ≡ (get_or old v (pos 0) +ℤ cond (nat_eq arc.src (first + v)) flow (pos 0)) -ℤ cond (nat_eq arc.dst (first + v)) flow (pos 0)

-- one number added at one place
pub added_at : (xs : List ℤ) (n first node place : ℕ) (amount new : ℤ) → length xs ≡ n → place < n → node ≡ first + place → new ≡ get_or xs place (pos 0) +ℤ amount
    → (v : ℕ) → v < n → get_or (set xs place new) v (pos 0) ≡ get_or xs v (pos 0) +ℤ cond (nat_eq node (first + v)) amount (pos 0)
added_at xs n first node place amount new count inside at is v within =
    elim (cases_Bool (nat_eq place v)) [
      | inl e ↦
          let same : place ≡ v = grind (arith, nat_tests) in
          let test : nat_eq node (first + v) ≡ true = grind (arith, nat_tests) in
          get_or-set_at xs place v new (pos 0) (sym same) (omega (arith, count, inside))
          ∙ is ∙ ap (λ (k : ℕ). get_or xs k (pos 0) +ℤ amount) same
          ∙ ap (λ (t : Bool). get_or xs v (pos 0) +ℤ cond t amount (pos 0)) (sym test)
      | inr e ↦
          let other : v ≢ place = grind (arith, nat_tests) in
          let test : nat_eq node (first + v) ≡ false = grind (arith, nat_tests) in
          let nothing : get_or xs v (pos 0) ≡ get_or xs v (pos 0) +ℤ pos 0 = omega (arith, ints) in
          get_or-set_other xs place v new (pos 0) other
          ∙ nothing
          ∙ ap (λ (t : Bool). get_or xs v (pos 0) +ℤ cond t amount (pos 0)) (sym test)
    ]

-- the place of a node in a block, as the code finds it
pub place_found : (node first n : ℕ) → node < 2 ^ 32 → first ≤ 20000 → n ≤ 20000 → (node + (18446744073709551616 - first)) % 18446744073709551616 < n → node ≡ first + (node + (18446744073709551616 - first)) % 18446744073709551616
place_found node first n small few block inside = omega arith

-- what the code makes of the sum
pub sum_fits : (x y amount : ℤ) → IsSized (10 ^ 25) x → IsSized flow_limit amount → y ≡ to_z w64 (of_z w64 amount) → to_z w128 (of_z w128 (to_z w128 (of_z w128 x) +ℤ to_z w128 (of_z w128 y))) ≡ x +ℤ amount
sum_fits x y amount h k e = omega (arith, ints, h.above, h.below, k.above, k.below, e)

changed-sized : (m : ℕ) (p q : Bool) (x y flow : ℤ) → IsSized (10 ^ 18) flow → IsSized m x → y ≡ (x +ℤ cond p flow (pos 0)) -ℤ cond q flow (pos 0) → IsSized (m + 2 * 10 ^ 18) y
changed-sized m true true x y flow k h e = record { above = omega (arith, ints, h.above, k.above, k.below, e); below = omega (arith, ints, h.below, k.above, k.below, e) }
changed-sized m true false x y flow k h e = record { above = omega (arith, ints, h.above, k.above, e); below = omega (arith, ints, h.below, k.below, e) }
changed-sized m false true x y flow k h e = record { above = omega (arith, ints, h.above, k.below, e); below = omega (arith, ints, h.below, k.above, e) }
changed-sized m false false x y flow k h e = record { above = omega (arith, ints, h.above, e); below = omega (arith, ints, h.below, e) }

next_size : (i : ℕ) → 2 * 10 ^ 18 * i + 2 * 10 ^ 18 ≡ 2 * 10 ^ 18 * suc i
next_size i = omega arith

pub carried-next : (n first : ℕ) (arcs : List FlowArc) (flows : List ℤ) (i : ℕ) (d : FlowArc) (e : ℤ) (old new : List ℤ) → i < length arcs → i < length flows → IsSized flow_limit (get_or flows i e) → HasCarried n first arcs flows i old → length new ≡ n → Carries n first (get_or arcs i d) (get_or flows i e) old new → HasCarried n first arcs flows (i + 1) new
carried-next n first arcs flows i d e old new inside inside' small h count carries =
    let one : suc i ≡ i + 1 = omega arith in
    let a = get_or arcs i d in
    let y = get_or flows i e in
    subst (λ (k : ℕ). HasCarried n first arcs flows k new) one
    (record {
      count = count;
      whole = λ v l.
          let w = first + v in
          let here : net_outflow (drop i arcs) (drop i flows) w ≡ (cond (nat_eq a.src w) y (pos 0) +ℤ flow_on (λ b. nat_eq b.src w) (drop (suc i) arcs) (drop (suc i) flows)) -ℤ (cond (nat_eq a.dst w) y (pos 0) +ℤ flow_on (λ b. nat_eq b.dst w) (drop (suc i) arcs) (drop (suc i) flows))
          = ap (λ (bs : List FlowArc). net_outflow bs (drop i flows) w) (split_at arcs i d inside) ∙ ap (λ (ys : List ℤ). net_outflow (a ∷ drop (suc i) arcs) ys w) (split_at flows i e inside') in
          omega (arith, ints, h.whole v l, here, carries v l);
      sizes = λ v l. subst (λ (m : ℕ). IsSized m (get_or new v (pos 0))) (next_size i) (changed-sized (2 * 10 ^ 18 * i) (nat_eq a.src (first + v)) (nat_eq a.dst (first + v)) (get_or old v (pos 0)) (get_or new v (pos 0)) y small (h.sizes v l) (carries v l));
    })

pub carried-small : (n first : ℕ) (arcs : List FlowArc) (flows : List ℤ) (i : ℕ) (balances : List ℤ) → i ≤ 200000 → HasCarried n first arcs flows i balances → (v : ℕ) → v < n → IsSized (10 ^ 24) (get_or balances v (pos 0))
carried-small n first arcs flows i balances few h v l = smaller (2 * 10 ^ 18 * i) (10 ^ 24) (get_or balances v (pos 0)) (omega arith) (h.sizes v l)
