-- The arcs of a network that a profile leaves out: those that it writes, and a flow on them, beside all arcs, where one that is left
-- out has no flow.
use Rattle.std.proofs.Common.{◌≡◌, ℕ, suc, ◌<◌, ◌≤◌, Bool, true, false, cond, List, [], ◌∷◌, ◌++◌, length, map, get_or, drop, ℤ, pos, ◌+ℤ◌, ◌-ℤ◌, ◌*ℤ◌, ◌≤ℤ◌, neg_ℤ, refl, sym, ◌∙◌, ap, arith, length-drop, nat_eq, ◌≢◌}
use Rattle.std.proofs.lemmas.Int.{ints}
use Rattle.std.proofs.lemmas.Bool.Decides.{Decides-int_eq}
use Rattle.std.proofs.Math.Seq.{drop-cons}
use Rattle.std.specs.List.{AllZip}
use Rattle.std.specs.Ordering.{int_eq}
use lib.IntN.{zero-*ℤ, *ℤ_comm}
use Rattle.net_normal.specs.Sums.{flow_on, price_of}
use Rattle.net_normal.specs.Numbers.{positives, counted, CountUp}
use Rattle.net_normal.specs.Assignments.{net_inflow}
use Rattle.net_normal.specs.Flows.{IsWithinCapacity, net_outflow}
use Rattle.net_normal.specs.Links.{signed, mapped_back_by}
use Rattle.net_normal.specs.NormalForm.{offset_of, offsets_of, is_left_out, numbers_from, flow_arc_of, written_arcs}
use Rattle.net_normal.specs.declared.instance.Sense.{Sense}
use Rattle.net_normal.specs.declared.instance.InstArc.{InstArc}
use Rattle.net_normal.specs.declared.problem.FlowArc.{FlowArc}
use Rattle.net_normal.specs.declared.profile.Profile.{Profile}
use Rattle.net_normal.specs.declared.profile.Profile.TheVariants.{Plain, Lean}
use Rattle.net_normal.proofs.ArcSums.{added, rest_of, flow_on-nil}
use Rattle.net_normal.proofs.ArcMapsBack.{made_outflow, made_price}

-- the first of some flows
abbrev pub first_of : List ℤ → ℤ
first_of [] = pos 0
first_of (x ∷ xs) = x

-- a flow for each arc of the network, where the arcs that are written have these
abbrev pub spread : Profile → List InstArc → List ℤ → List ℤ
spread p [] xs = []
spread p (a ∷ arcs) xs = cond (is_left_out p a) (pos 0 ∷ spread p arcs xs) (first_of xs ∷ spread p arcs (rest_of xs))

-- the flows of those that are written
abbrev pub kept : Profile → List InstArc → List ℤ → List ℤ
kept p [] zs = []
kept p (a ∷ arcs) zs = cond (is_left_out p a) (kept p arcs (rest_of zs)) (first_of zs ∷ kept p arcs (rest_of zs))

-- an arc that is left out has one number only, its offset
pub int_eq-reports : (x y : ℤ) → int_eq x y ≡ true → x ≡ y
int_eq-reports x y h = (Decides-int_eq x y).0 h

pub int_eq-same : (x y : ℤ) → x ≡ y → int_eq x y ≡ true
int_eq-same x y h = (Decides-int_eq x y).1 h

pub left_out-fixed : (p : Profile) (a : InstArc) → is_left_out p a ≡ true → (a.lower ≡ offset_of p a) × (a.upper ≡ offset_of p a)
left_out-fixed Plain a h = cc
left_out-fixed Lean a h = (refl, sym (int_eq-reports a.lower a.upper h))

-- a fact by whether an arc is left out
pub by_case : (b : Bool) (P : Bool → Type 0) → (b ≡ true → P true) → (b ≡ false → P false) → P b
by_case true P f g = f refl
by_case false P f g = g refl

length_step : (b : Bool) (n m k : ℕ) → cond b n (suc n) ≡ m → m ≡ cond b k (suc k) → n ≡ k
length_step true n m k h e = omega (arith, h, e)
length_step false n m k h e = omega (arith, h, e)

pub length-spread : (p : Profile) (arcs : List InstArc) (xs : List ℤ) → length (spread p arcs xs) ≡ length arcs
length-spread p [] xs = refl
length-spread p (a ∷ arcs) xs =
    elim (is_left_out p a) as (λ b. length (cond b (pos 0 ∷ spread p arcs xs) (first_of xs ∷ spread p arcs (rest_of xs))) ≡ suc (length arcs)) [
      | true ↦ ap suc (length-spread p arcs xs)
      | false ↦ ap suc (length-spread p arcs (rest_of xs))
    ]

-- sums over the arcs that are written are sums over all
no_flow : (b : Bool) → cond b (pos 0) (pos 0) ≡ pos 0
no_flow true = refl
no_flow false = refl

spread-flow_on : (p : Profile) (sense : Sense) (outside : ℕ) (test : FlowArc → Bool) (arcs : List InstArc) (xs : List ℤ) → flow_on test (written_arcs p sense outside arcs) xs ≡ flow_on test (map (flow_arc_of p sense outside) arcs) (spread p arcs xs)
spread-flow_on p sense outside test [] xs = refl
spread-flow_on p sense outside test (a ∷ arcs) [] =
    let make = flow_arc_of p sense outside in
    let rest = written_arcs p sense outside arcs in
    let none = no_flow (test (make a)) in
    elim (is_left_out p a) as (λ b. flow_on test (cond b rest (make a ∷ rest)) [] ≡ flow_on test (make a ∷ map make arcs) (cond b (pos 0 ∷ spread p arcs []) (pos 0 ∷ spread p arcs []))) [
      | true ↦ omega (arith, ints, none, spread-flow_on p sense outside test arcs [])
      | false ↦ omega (arith, ints, none, flow_on-nil test rest, spread-flow_on p sense outside test arcs [])
    ]
spread-flow_on p sense outside test (a ∷ arcs) (x ∷ xs) =
    let make = flow_arc_of p sense outside in
    let rest = written_arcs p sense outside arcs in
    elim (is_left_out p a) as (λ b. flow_on test (cond b rest (make a ∷ rest)) (x ∷ xs) ≡ flow_on test (make a ∷ map make arcs) (cond b (pos 0 ∷ spread p arcs (x ∷ xs)) (x ∷ spread p arcs xs))) [
      | true ↦ omega (arith, ints, no_flow (test (make a)), spread-flow_on p sense outside test arcs (x ∷ xs))
      | false ↦ omega (arith, ints, spread-flow_on p sense outside test arcs xs)
    ]

nothing_for : (arcs : List FlowArc) → price_of (λ (c : FlowArc). c.cost) arcs [] ≡ pos 0
nothing_for [] = refl
nothing_for (a ∷ arcs) = refl

no_price : (c : ℤ) → c *ℤ pos 0 ≡ pos 0
no_price c = *ℤ_comm c (pos 0) ∙ zero-*ℤ c

spread-price : (p : Profile) (sense : Sense) (outside : ℕ) (arcs : List InstArc) (xs : List ℤ) → price_of (λ (a : FlowArc). a.cost) (written_arcs p sense outside arcs) xs ≡ price_of (λ (a : FlowArc). a.cost) (map (flow_arc_of p sense outside) arcs) (spread p arcs xs)
spread-price p sense outside [] xs = refl
spread-price p sense outside (a ∷ arcs) [] =
    let make = flow_arc_of p sense outside in
    let rest = written_arcs p sense outside arcs in
    let none = no_price (make a).cost in
    elim (is_left_out p a) as (λ b. price_of (λ (c : FlowArc). c.cost) (cond b rest (make a ∷ rest)) [] ≡ price_of (λ (c : FlowArc). c.cost) (make a ∷ map make arcs) (cond b (pos 0 ∷ spread p arcs []) (pos 0 ∷ spread p arcs []))) [
      | true ↦ omega (arith, ints, none, spread-price p sense outside arcs [])
      | false ↦ omega (arith, ints, none, nothing_for rest, spread-price p sense outside arcs [])
    ]
spread-price p sense outside (a ∷ arcs) (x ∷ xs) =
    let make = flow_arc_of p sense outside in
    let rest = written_arcs p sense outside arcs in
    elim (is_left_out p a) as (λ b. price_of (λ (c : FlowArc). c.cost) (cond b rest (make a ∷ rest)) (x ∷ xs) ≡ price_of (λ (c : FlowArc). c.cost) (make a ∷ map make arcs) (cond b (pos 0 ∷ spread p arcs (x ∷ xs)) (x ∷ spread p arcs xs))) [
      | true ↦ omega (arith, ints, no_price (make a).cost, spread-price p sense outside arcs (x ∷ xs))
      | false ↦ omega (arith, ints, spread-price p sense outside arcs xs)
    ]

-- a node of the network sends out by the arcs that are written what it receives less by all
pub written_outflow : (p : Profile) (sense : Sense) (outside u : ℕ) → outside ≢ u → (arcs : List InstArc) (xs : List ℤ) → net_outflow (written_arcs p sense outside arcs) xs u ≡ neg_ℤ (net_inflow arcs (spread p arcs xs) u)
written_outflow p sense outside u h arcs xs =
    omega (
      arith,
      ints,
      spread-flow_on p sense outside (λ (a : FlowArc). nat_eq a.src u) arcs xs,
      spread-flow_on p sense outside (λ (a : FlowArc). nat_eq a.dst u) arcs xs,
      made_outflow p sense outside u h arcs (spread p arcs xs),
    )

pub written_price : (p : Profile) (sense : Sense) (outside : ℕ) (arcs : List InstArc) (xs : List ℤ) → price_of (λ (a : FlowArc). a.cost) (written_arcs p sense outside arcs) xs ≡ signed sense (price_of (λ a. a.coefficient) arcs (spread p arcs xs))
written_price p sense outside arcs xs = spread-price p sense outside arcs xs ∙ made_price p sense outside arcs (spread p arcs xs)

none_within : (p : Profile) (sense : Sense) (outside : ℕ) (a : InstArc) → a.lower ≡ offset_of p a → a.upper ≡ offset_of p a → IsWithinCapacity (flow_arc_of p sense outside a) (pos 0)
none_within p sense outside a lower upper = record { low = omega (arith, ints, lower); cap = omega (arith, ints, upper) }

-- within the capacities: those of the arcs that are written, and those of all
pub spread-within : (p : Profile) (sense : Sense) (outside : ℕ) (arcs : List InstArc) (xs : List ℤ) → AllZip IsWithinCapacity (written_arcs p sense outside arcs) xs → AllZip IsWithinCapacity (map (flow_arc_of p sense outside) arcs) (spread p arcs xs)
spread-within p sense outside [] xs h = tt
spread-within p sense outside (a ∷ arcs) [] h =
    let make = flow_arc_of p sense outside in
    let rest = written_arcs p sense outside arcs in
    by_case (is_left_out p a) (λ b. AllZip IsWithinCapacity (cond b rest (make a ∷ rest)) [] → AllZip IsWithinCapacity (make a ∷ map make arcs) (cond b (pos 0 ∷ spread p arcs []) (pos 0 ∷ spread p arcs [])))
    (λ out k. let fixed = left_out-fixed p a out in (none_within p sense outside a fixed.0 fixed.1, spread-within p sense outside arcs [] k))
    (λ _ k. absurd k) h
spread-within p sense outside (a ∷ arcs) (x ∷ xs) h =
    let make = flow_arc_of p sense outside in
    let rest = written_arcs p sense outside arcs in
    by_case (is_left_out p a) (λ b. AllZip IsWithinCapacity (cond b rest (make a ∷ rest)) (x ∷ xs) → AllZip IsWithinCapacity (make a ∷ map make arcs) (cond b (pos 0 ∷ spread p arcs (x ∷ xs)) (x ∷ spread p arcs xs)))
    (λ out k. let fixed = left_out-fixed p a out in (none_within p sense outside a fixed.0 fixed.1, spread-within p sense outside arcs (x ∷ xs) k))
    (λ _ k. (k.0, spread-within p sense outside arcs xs k.1)) h

pub kept-within : (p : Profile) (sense : Sense) (outside : ℕ) (arcs : List InstArc) (zs : List ℤ) → AllZip IsWithinCapacity (map (flow_arc_of p sense outside) arcs) zs → AllZip IsWithinCapacity (written_arcs p sense outside arcs) (kept p arcs zs)
kept-within p sense outside [] zs h = tt
kept-within p sense outside (a ∷ arcs) [] h = absurd h
kept-within p sense outside (a ∷ arcs) (z ∷ zs) h =
    let make = flow_arc_of p sense outside in
    let rest = written_arcs p sense outside arcs in
    elim (is_left_out p a) as (λ b. AllZip IsWithinCapacity (cond b rest (make a ∷ rest)) (cond b (kept p arcs zs) (z ∷ kept p arcs zs))) [
      | true ↦ kept-within p sense outside arcs zs h.1
      | false ↦ (h.0, kept-within p sense outside arcs zs h.1)
    ]

-- what is kept of flows within the capacities says all of them
pub spread-kept : (p : Profile) (sense : Sense) (outside : ℕ) (arcs : List InstArc) (zs : List ℤ) → AllZip IsWithinCapacity (map (flow_arc_of p sense outside) arcs) zs → spread p arcs (kept p arcs zs) ≡ zs
spread-kept p sense outside [] [] h = refl
spread-kept p sense outside [] (z ∷ zs) h = absurd h
spread-kept p sense outside (a ∷ arcs) [] h = absurd h
spread-kept p sense outside (a ∷ arcs) (z ∷ zs) h =
    let ks = kept p arcs zs in
    let back = spread-kept p sense outside arcs zs h.1 in
    let low : (a.lower -ℤ offset_of p a) ≤ℤ z = h.0.low in
    let cap : z ≤ℤ (a.upper -ℤ offset_of p a) = h.0.cap in
    by_case (is_left_out p a) (λ b. cond b (pos 0 ∷ spread p arcs (cond b ks (z ∷ ks))) (first_of (cond b ks (z ∷ ks)) ∷ spread p arcs (rest_of (cond b ks (z ∷ ks)))) ≡ z ∷ zs)
    (λ out. let fixed = left_out-fixed p a out in
    let none : pos 0 ≡ z = omega (arith, ints, fixed.0, fixed.1, low, cap) in
    ap (λ (x : ℤ). x ∷ spread p arcs ks) none ∙ ap (λ (xs : List ℤ). z ∷ xs) back)
    (λ _. ap (λ (xs : List ℤ). z ∷ xs) back)

-- and flows on the arcs that are written are kept
pub kept-spread : (p : Profile) (sense : Sense) (outside : ℕ) (arcs : List InstArc) (xs : List ℤ) → length (written_arcs p sense outside arcs) ≡ length xs → kept p arcs (spread p arcs xs) ≡ xs
kept-spread p sense outside [] [] h = refl
kept-spread p sense outside [] (x ∷ xs) h = absurd (omega (arith, h))
kept-spread p sense outside (a ∷ arcs) [] h =
    let make = flow_arc_of p sense outside in
    let rest = written_arcs p sense outside arcs in
    let both : length (written_arcs p sense outside (a ∷ arcs)) ≡ 0 → kept p (a ∷ arcs) (spread p (a ∷ arcs) []) ≡ [] =
    elim (is_left_out p a) as (λ b. length (cond b rest (make a ∷ rest)) ≡ 0 → (let zs : List ℤ = cond b (pos 0 ∷ spread p arcs []) (pos 0 ∷ spread p arcs []) in cond b (kept p arcs (rest_of zs)) (first_of zs ∷ kept p arcs (rest_of zs))) ≡ []) [
      | true ↦ λ h. kept-spread p sense outside arcs [] h
      | false ↦ λ h. absurd (omega (arith, h))
    ] in
    both h
kept-spread p sense outside (a ∷ arcs) (x ∷ xs) h =
    let make = flow_arc_of p sense outside in
    let rest = written_arcs p sense outside arcs in
    let both : length (written_arcs p sense outside (a ∷ arcs)) ≡ suc (length xs) → kept p (a ∷ arcs) (spread p (a ∷ arcs) (x ∷ xs)) ≡ x ∷ xs =
    elim (is_left_out p a) as (λ b. length (cond b rest (make a ∷ rest)) ≡ suc (length xs) → (let zs : List ℤ = cond b (pos 0 ∷ spread p arcs (x ∷ xs)) (x ∷ spread p arcs xs) in cond b (kept p arcs (rest_of zs)) (first_of zs ∷ kept p arcs (rest_of zs))) ≡ x ∷ xs) [
      | true ↦ λ h. kept-spread p sense outside arcs (x ∷ xs) h
      | false ↦ λ h. ap (λ (zs : List ℤ). x ∷ zs) (kept-spread p sense outside arcs xs (omega (arith, h)))
    ] in
    both h

no_flow_mapped_back : (offset : ℤ) {xs ys : List ℤ} → xs ≡ ys → offset ∷ xs ≡ (pos 0 +ℤ offset) ∷ ys
no_flow_mapped_back offset {xs} {ys} e = let same : offset ≡ pos 0 +ℤ offset = omega (arith, ints) in ap (λ (z : ℤ). z ∷ xs) same ∙ ap (λ (zs : List ℤ). (pos 0 +ℤ offset) ∷ zs) e

-- the flows from number k on, each with its offset
pub mapped_back_is : (p : Profile) (sense : Sense) (outside : ℕ) (arcs : List InstArc) (k : ℕ) (flows xs ys : List ℤ) → drop k flows ≡ xs ++ ys → length (written_arcs p sense outside arcs) ≡ length xs → mapped_back_by (numbers_from p (suc k) arcs) (offsets_of p arcs) flows ≡ added (spread p arcs xs) (offsets_of p arcs)
mapped_back_is p sense outside [] k flows xs ys e h = refl
mapped_back_is p sense outside (a ∷ arcs) k flows [] ys e h =
    let make = flow_arc_of p sense outside in
    let rest = written_arcs p sense outside arcs in
    let offset = offset_of p a in
    let offsets = offsets_of p arcs in
    let both : length (written_arcs p sense outside (a ∷ arcs)) ≡ 0 → mapped_back_by (numbers_from p (suc k) (a ∷ arcs)) (offsets_of p (a ∷ arcs)) flows ≡ added (spread p (a ∷ arcs) []) (offsets_of p (a ∷ arcs)) =
    elim (is_left_out p a) as (λ b. length (cond b rest (make a ∷ rest)) ≡ 0 →
    mapped_back_by (cond b (0 ∷ numbers_from p (suc k) arcs) (suc k ∷ numbers_from p (suc (suc k)) arcs)) (offset ∷ offsets) flows ≡ added (cond b (pos 0 ∷ spread p arcs []) (pos 0 ∷ spread p arcs [])) (offset ∷ offsets)) [
      | true ↦ λ h. no_flow_mapped_back offset (mapped_back_is p sense outside arcs k flows [] ys e h)
      | false ↦ λ h. absurd (omega (arith, h))
    ] in
    both h
mapped_back_is p sense outside (a ∷ arcs) k flows (x ∷ xs) ys e h =
    let make = flow_arc_of p sense outside in
    let rest = written_arcs p sense outside arcs in
    let offset = offset_of p a in
    let offsets = offsets_of p arcs in
    let inside : k < length flows = omega (arith, ap length e, length-drop k flows) in
    let split : get_or flows k (pos 0) ∷ drop (suc k) flows ≡ x ∷ (xs ++ ys) = sym (drop-cons flows k (pos 0) inside) ∙ e in
    let first : get_or flows k (pos 0) ≡ x = cc in
    let others : drop (suc k) flows ≡ xs ++ ys = cc in
    let both : length (written_arcs p sense outside (a ∷ arcs)) ≡ suc (length xs) → mapped_back_by (numbers_from p (suc k) (a ∷ arcs)) (offsets_of p (a ∷ arcs)) flows ≡ added (spread p (a ∷ arcs) (x ∷ xs)) (offsets_of p (a ∷ arcs)) =
    elim (is_left_out p a) as (λ b. length (cond b rest (make a ∷ rest)) ≡ suc (length xs) →
    mapped_back_by (cond b (0 ∷ numbers_from p (suc k) arcs) (suc k ∷ numbers_from p (suc (suc k)) arcs)) (offset ∷ offsets) flows ≡ added (cond b (pos 0 ∷ spread p arcs (x ∷ xs)) (x ∷ spread p arcs xs)) (offset ∷ offsets)) [
      | true ↦ λ h. no_flow_mapped_back offset (mapped_back_is p sense outside arcs k flows (x ∷ xs) ys e h)
      | false ↦ λ h.
          ap (λ (z : ℤ). (z +ℤ offset) ∷ mapped_back_by (numbers_from p (suc (suc k)) arcs) offsets flows) first
          ∙ ap (λ (zs : List ℤ). (x +ℤ offset) ∷ zs) (mapped_back_is p sense outside arcs (suc k) flows xs ys others (omega (arith, h)))
    ] in
    both h

-- how many there are, and how they are numbered
pub length_written : (p : Profile) (sense : Sense) (outside : ℕ) (arcs : List InstArc) → length (written_arcs p sense outside arcs) ≤ length arcs
length_written p sense outside [] = omega arith
length_written p sense outside (a ∷ arcs) =
    let rest = written_arcs p sense outside arcs in
    elim (is_left_out p a) as (λ b. length (cond b rest (flow_arc_of p sense outside a ∷ rest)) ≤ suc (length arcs)) [
      | true ↦ omega (arith, length_written p sense outside arcs)
      | false ↦ omega (arith, length_written p sense outside arcs)
    ]

pub length-numbers : (p : Profile) (n : ℕ) (arcs : List InstArc) → length (numbers_from p n arcs) ≡ length arcs
length-numbers p n [] = refl
length-numbers p n (a ∷ arcs) =
    elim (is_left_out p a) as (λ b. length (cond b (0 ∷ numbers_from p n arcs) (n ∷ numbers_from p (suc n) arcs)) ≡ suc (length arcs)) [
      | true ↦ ap suc (length-numbers p n arcs)
      | false ↦ ap suc (length-numbers p (suc n) arcs)
    ]

counts_from : (p : Profile) (n : ℕ) (arcs : List InstArc) → positives (numbers_from p (suc n) arcs) ≡ counted (suc n) (length (positives (numbers_from p (suc n) arcs)))
counts_from p n [] = refl
counts_from p n (a ∷ arcs) =
    elim (is_left_out p a) as (λ b. let numbers : List ℕ = cond b (0 ∷ numbers_from p (suc n) arcs) (suc n ∷ numbers_from p (suc (suc n)) arcs) in positives numbers ≡ counted (suc n) (length (positives numbers))) [
      | true ↦ counts_from p n arcs
      | false ↦ ap (λ (ns : List ℕ). suc n ∷ ns) (counts_from p (suc n) arcs)
    ]

pub numbers-count_up : (p : Profile) (arcs : List InstArc) → CountUp (numbers_from p 1 arcs)
numbers-count_up p arcs = counts_from p 0 arcs
