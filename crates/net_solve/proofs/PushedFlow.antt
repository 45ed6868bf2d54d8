-- Facts on each index of a list, with one element more at its end.
use Rattle.std.proofs.Common.{◌≡◌, ℕ, ◌+◌, ◌<◌, ◌≤◌, List, [], ◌∷◌, ◌++◌, length, get_or, inl, inr, ℤ, pos, ◌+ℤ◌, ◌-ℤ◌, cond, nat_eq, drop, replicate, sym, ap, subst, arith}
use Rattle.std.proofs.lemmas.Bool.{cases_lt}
use Rattle.net_normal.specs.declared.problem.FlowArc.{FlowArc}
use Rattle.std.proofs.lemmas.Int.{ints}
use Rattle.std.proofs.lemmas.List.{drop_all, get_or-replicate, length-replicate}
use Rattle.net_normal.specs.Flows.{net_outflow}
use Rattle.net_check.proofs.Balances.{HasCarried, Carries}
use Rattle.std.proofs.Math.ListN.{get_or-append}
use Rattle.std.proofs.Math.Seq.{get_or-append_seam}

pub pushed-old : {A : Type 0} (xs : List A) (x d : A) (k : ℕ) → k < length xs → get_or (xs ++ x ∷ []) k d ≡ get_or xs k d
pushed-old xs x d k l = get_or-append xs (x ∷ []) d k l

pub pushed-new : {A : Type 0} (xs : List A) (x d : A) (k : ℕ) → length xs ≡ k → get_or (xs ++ x ∷ []) k d ≡ x
pushed-new {A} xs x d k e = subst (λ (n : ℕ). get_or (xs ++ x ∷ []) n d ≡ x) e (get_or-append_seam xs x [] d)

pub pushed : {A : Type 0} (P : ℕ → A → Type 0) (xs : List A) (x d : A) (i : ℕ) → length xs ≡ i → ((k : ℕ) → k < i → P k (get_or xs k d)) → P i x → (k : ℕ) → k < i + 1 → P k (get_or (xs ++ x ∷ []) k d)
pushed {A} P xs x d i e old new k l = elim (cases_lt k i) as (λ _. P k (get_or (xs ++ x ∷ []) k d)) [
  | inl m ↦ subst (P k) (sym (pushed-old xs x d k (omega (arith, m, e)))) (old k m)
  | inr m ↦
      let same : i ≡ k = omega (arith, l, m) in
      subst (λ (n : ℕ). P n (get_or (xs ++ x ∷ []) n d)) same (subst (P i) (sym (pushed-new xs x d i e)) new)
]

-- counted from the first node on
pub carries-all : (n : ℕ) (arc : FlowArc) (flow : ℤ) (old new : List ℤ)
    → ((v : ℕ) → v < n → get_or new v (pos 0) ≡ (get_or old v (pos 0) +ℤ cond (nat_eq arc.src v) flow (pos 0)) -ℤ cond (nat_eq arc.dst v) flow (pos 0)) → Carries n 0 arc flow old new
carries-all n arc flow old new h v l =
    let same : v ≡ 0 + v = omega arith in
    subst (λ (w : ℕ). get_or new v (pos 0) ≡ (get_or old v (pos 0) +ℤ cond (nat_eq arc.src w) flow (pos 0)) -ℤ cond (nat_eq arc.dst w) flow (pos 0)) same (h v l)

-- all have been counted
pub carried-whole : (n : ℕ) (arcs : List FlowArc) (flows : List ℤ) (i : ℕ) (sent : List ℤ) → length arcs ≤ i → length flows ≤ i → HasCarried n 0 arcs flows i sent → (v : ℕ) → v < n → get_or sent v (pos 0) ≡ net_outflow arcs flows v
carried-whole n arcs flows i sent past past' h v l =
    let same : 0 + v ≡ v = omega arith in
    let whole = subst (λ (w : ℕ). get_or sent v (pos 0) +ℤ net_outflow (drop i arcs) (drop i flows) w ≡ net_outflow arcs flows w) same (h.whole v l) in
    let none : net_outflow (drop i arcs) (drop i flows) v ≡ net_outflow [] (drop i flows) v = ap (λ (bs : List FlowArc). net_outflow bs (drop i flows) v) (drop_all i arcs past) in
    omega (arith, ints, whole, none)

-- none has been counted
pub carried-none : (n : ℕ) (arcs : List FlowArc) (flows : List ℤ) → HasCarried n 0 arcs flows 0 (replicate n (pos 0))
carried-none n arcs flows = record {
  count = length-replicate n (pos 0);
  whole = λ v l. omega (arith, ints, get_or-replicate n v (pos 0) (pos 0) l);
  sizes = λ v l. let none = get_or-replicate n v (pos 0) (pos 0) l in record { above = omega (arith, ints, none); below = omega (arith, ints, none) };
}
