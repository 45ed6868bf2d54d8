-- Where a growth stops: at a deficit, or at a set with excess that no flow can leave.
use Rattle.std.proofs.Common.{◌≡◌, ℕ, zero, suc, ◌+◌, ◌<◌, Bool, true, false, cond, not, ◌&&◌, map, List, [], ◌∷◌, ◌++◌, length, get_or, set, replicate, inl, inr, ℤ, pos, ◌≤ℤ◌, ◌<ℤ◌, vec_len, refl, sym, ◌∙◌, ap, subst, arith}
use Rattle.std.proofs.lemmas.Int.{ints}
use Rattle.std.proofs.lemmas.Bool.{cases_eq}
use Rattle.std.specs.List.{AllZip, AllByRecursion}
use Rattle.std.proofs.lemmas.List.{length-replicate}
use Rattle.std.proofs.lemmas.List.Elements.{recursion_from_All}
use Rattle.net_normal.specs.Limits.{IsFlowArcOf}
use Rattle.net_normal.specs.Sums.{flow_on}
use Rattle.net_normal.specs.Flows.{cost_of}
use Rattle.net_normal.specs.declared.problem.FlowArc.{FlowArc}
use Rattle.net_normal.proofs.NodeRuns.{slice_get-inside}
use Rattle.net_check.proofs.Pairs.{got}
use Rattle.net_normal.specs.declared.problem.Problem.{Problem}
use Rattle.net_check.specs.Certificates.{is_in, goes_out, comes_in, supply_in, IsOptimal, IsViolatedCut}
use Rattle.net_check.specs.declared.certificate.Side.TheVariants.{Over, Under}
use Rattle.net_solve.specs.Pseudoflows.{IsUnderWay, IsFull}
use Rattle.net_solve.specs.Forests.{IsGrown, HasNoDeficit, JoinsOne, outside, joined_at, no_join}
use Rattle.net_solve.specs.declared.forest.Joined.{Joined}
use Rattle.net_solve.proofs.Grown.{alone-is, in-new, outside-set}
use Rattle.net_solve.proofs.PushedFlow.{pushed-new}
use Rattle.net_solve.proofs.Stuck.{set-balance, stuck-violated}

pub set-none : (flags : List Bool) (ys : List ℤ) → HasNoDeficit ys flags → pos 0 ≤ℤ supply_in ys flags
set-none [] ys h = omega (arith, ints)
set-none (b ∷ flags) [] h = omega (arith, ints)
set-none (true ∷ flags) (y ∷ ys) h = let here : pos 0 ≤ℤ y = h 0 refl in omega (arith, ints, here, set-none flags ys (λ v e. h (suc v) e))
set-none (false ∷ flags) (y ∷ ys) h = omega (arith, ints, set-none flags ys (λ v e. h (suc v) e))

pub set-some : (flags : List Bool) (ys : List ℤ) (u : ℕ) → HasNoDeficit ys flags → is_in flags u ≡ true → pos 0 <ℤ get_or ys u (pos 0) → pos 0 <ℤ supply_in ys flags
set-some [] ys u h e some = cc
set-some (b ∷ flags) [] u h e some = absurd (omega (arith, ints, some))
set-some (true ∷ flags) (y ∷ ys) zero h e some = omega (arith, ints, some, set-none flags ys (λ v e. h (suc v) e))
set-some (false ∷ flags) (y ∷ ys) zero h e some = cc
set-some (true ∷ flags) (y ∷ ys) (suc u) h e some = let here : pos 0 ≤ℤ y = h 0 refl in omega (arith, ints, here, set-some flags ys u (λ v e. h (suc v) e) e some)
set-some (false ∷ flags) (y ∷ ys) (suc u) h e some = omega (arith, ints, set-some flags ys u (λ v e. h (suc v) e) e some)

pub stuck-cut : (problem : Problem) (flows potentials excess : List ℤ) (flags : List Bool) (all : List Joined) (places : List ℕ) → IsUnderWay problem flows potentials excess → IsGrown problem flows potentials excess flags all places → HasNoDeficit excess flags
    → AllZip (IsFull flags) problem.arcs.items flows → IsViolatedCut problem flags Over
stuck-cut problem flows potentials excess flags all places under h none full = record {
  one_a_node = h.flags_count;
  violated = stuck-violated (vec_len problem.supplies) problem.arcs.items problem.supplies.items flows excess flags problem.arcs_fit (sym problem.supplies.ok.0) under.excess_count h.flags_count under.balance full
      (set-some flags excess (joined_at all 0).node none (h.members 0 h.some) h.first);
}

pub none-first : (excess : List ℤ) (n root : ℕ) → root < n → pos 0 <ℤ get_or excess root (pos 0) → HasNoDeficit excess (set (replicate n false) root true)
none-first excess n root l some v e = subst (λ (w : ℕ). pos 0 ≤ℤ get_or excess w (pos 0)) (alone-is n root v l e) (omega (arith, ints, some))

pub none-more : (excess : List ℤ) (flags new_flags : List Bool) (all new_all : List Joined) → HasNoDeficit excess flags → (one : JoinsOne flags all new_flags new_all) → pos 0 ≤ℤ get_or excess one.j.node (pos 0) → HasNoDeficit excess new_flags
none-more excess flags new_flags all new_all h one here v e = elim (cases_eq one.j.node v) as (λ _. pos 0 ≤ℤ get_or excess v (pos 0)) [
  | inl same ↦ subst (λ (w : ℕ). pos 0 ≤ℤ get_or excess w (pos 0)) same here
  | inr other ↦ h v (in-new flags one.j.node v (λ s. other (sym s)) (ap (λ (f : List Bool). is_in f v) (sym one.flags_is) ∙ e))
]

pub outside-less : (flags new_flags : List Bool) (all new_all : List Joined) → JoinsOne flags all new_flags new_all → outside new_flags < outside flags
outside-less flags new_flags all new_all one = let next = ap outside one.flags_is in omega (arith, next, outside-set flags one.j.node one.inside one.before)

-- the node that came in last
pub last-is : (flags new_flags : List Bool) (all new_all : List Joined) (place : ℕ) → (one : JoinsOne flags all new_flags new_all) → place + 1 ≡ length new_all → joined_at new_all place ≡ one.j
last-is flags new_flags all new_all place one end =
    let same : length all ≡ place = omega (arith, end, ap length one.all_is, length-more all one.j) in
    ap (λ (xs : List Joined). joined_at xs place) one.all_is ∙ pushed-new all one.j no_join place same
  where
    length-more : (xs : List Joined) (x : Joined) → length (xs ++ x ∷ []) ≡ length xs + 1
    length-more [] x = refl
    length-more (y ∷ xs) x = omega (arith, length-more xs x)

-- the set of all nodes: no arc leads out of it
all-in : (n v : ℕ) → v < n → is_in (replicate n true) v ≡ true
all-in zero v l = absurd (omega (arith, l))
all-in (suc n) zero l = refl
all-in (suc n) (suc v) l = all-in n v (omega (arith, l))

none-chosen : {A : Type 0} (test : A → Bool) (arcs : List A) (ys : List ℤ) → AllByRecursion (λ a. test a ≡ false) arcs → flow_on test arcs ys ≡ pos 0
none-chosen test [] ys h = refl
none-chosen test (a ∷ arcs) [] h = refl
none-chosen test (a ∷ arcs) (y ∷ ys) h =
    let here : cond (test a) y (pos 0) ≡ pos 0 = ap (λ (b : Bool). cond b y (pos 0)) h.0 in
    omega (arith, ints, here, none-chosen test arcs ys h.1)

crosses-none : (p q : Bool) → q ≡ true → p && not q ≡ false
crosses-none true true e = refl
crosses-none true false e = cc
crosses-none false true e = refl
crosses-none false false e = refl

none-out : (n : ℕ) (arcs : List FlowArc) → AllByRecursion (IsFlowArcOf n) arcs → AllByRecursion (λ a. goes_out (replicate n true) a ≡ false) arcs
none-out n [] h = tt
none-out n (a ∷ arcs) h = (crosses-none (is_in (replicate n true) a.src) (is_in (replicate n true) a.dst) (all-in n a.dst h.0.dst), none-out n arcs h.1)

none-into : (n : ℕ) (arcs : List FlowArc) → AllByRecursion (IsFlowArcOf n) arcs → AllByRecursion (λ a. comes_in (replicate n true) a ≡ false) arcs
none-into n [] h = tt
none-into n (a ∷ arcs) h = (crosses-none (is_in (replicate n true) a.dst) (is_in (replicate n true) a.src) (all-in n a.src h.0.src), none-into n arcs h.1)

total-none : (n : ℕ) (ys : List ℤ) → ((v : ℕ) → v < n → get_or ys v (pos 0) ≤ℤ pos 0) → supply_in ys (replicate n true) ≤ℤ pos 0
total-none zero ys h = omega (arith, ints)
total-none (suc n) [] h = omega (arith, ints)
total-none (suc n) (y ∷ ys) h = let here : y ≤ℤ pos 0 = h 0 (omega arith) in omega (arith, ints, here, total-none n ys (λ v l. h (suc v) (omega (arith, l))))

total-some : (n : ℕ) (ys : List ℤ) (u : ℕ) → ((v : ℕ) → v < n → get_or ys v (pos 0) ≤ℤ pos 0) → u < n → get_or ys u (pos 0) <ℤ pos 0 → supply_in ys (replicate n true) <ℤ pos 0
total-some zero ys u h l some = absurd (omega (arith, l))
total-some (suc n) [] u h l some = absurd (omega (arith, ints, some))
total-some (suc n) (y ∷ ys) zero h l some = omega (arith, ints, some, total-none n ys (λ v l. h (suc v) (omega (arith, l))))
total-some (suc n) (y ∷ ys) (suc u) h l some = let here : y ≤ℤ pos 0 = h 0 (omega arith) in omega (arith, ints, here, total-some n ys u (λ v l. h (suc v) (omega (arith, l))) (omega (arith, l)) some)

-- where only deficits are left, all nodes together supply too little
pub under-cut : (problem : Problem) (flows potentials excess : List ℤ) (u : ℕ) → IsUnderWay problem flows potentials excess → ((v : ℕ) → v < vec_len problem.supplies → get_or excess v (pos 0) ≤ℤ pos 0) → u < vec_len problem.supplies → get_or excess u (pos 0) <ℤ pos 0
    → IsViolatedCut problem (replicate (vec_len problem.supplies) true) Under
under-cut problem flows potentials excess u h none l some =
    let n = vec_len problem.supplies in
    let arcs = problem.arcs.items in
    let flags = replicate n true in
    let each = recursion_from_All (IsFlowArcOf n) arcs problem.arcs_fit in
    let out = none-out n arcs each in
    let into = none-into n arcs each in
    let long : length flags ≡ n = length-replicate n true in
    let balance = set-balance n arcs problem.supplies.items flows excess flags problem.arcs_fit (sym problem.supplies.ok.0) h.excess_count long h.balance in
    record {
      one_a_node = long;
      violated = omega (arith, ints, balance, none-chosen (goes_out flags) arcs flows out, none-chosen (comes_in flags) arcs flows into, none-chosen (goes_out flags) arcs (map (λ a. a.low) arcs) out, none-chosen (comes_in flags) arcs (map (λ a. a.cap) arcs) into, total-some n excess u none l some);
    }

-- where nothing is left, the flow costs least
pub optimal : (problem : Problem) (value : ℤ) (flows potentials excess : List ℤ) → IsUnderWay problem flows potentials excess → ((v : ℕ) → v < vec_len problem.supplies → get_or excess v (pos 0) ≤ℤ pos 0) → ((v : ℕ) → v < vec_len problem.supplies → pos 0 ≤ℤ get_or excess v (pos 0))
    → value ≡ cost_of problem flows → IsOptimal problem value flows potentials
optimal problem value flows potentials excess h none least is = record {
  one_a_node = h.potentials_count;
  feasible = record {
    capacity = h.capacity;
    balance = λ v supply e.
        let l : v < vec_len problem.supplies = omega (arith, slice_get-inside problem.supplies.items v supply e, problem.supplies.ok.0) in
        omega (arith, ints, h.balance v l, none v l, least v l, got problem.supplies.items v supply (pos 0) e);
  };
  cost = is;
  slackness = h.slackness;
}
