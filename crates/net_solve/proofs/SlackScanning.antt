-- The ways out of a set of nodes among the arcs so far.
use Rattle.std.proofs.Common.{◌≡◌, ℕ, suc, ◌+◌, ◌<◌, ◌≤◌, Bool, List, [], ◌∷◌, Option, Some, None, IfSome, IfNone, length, get_or, inl, inr, ℤ, pos, ◌≤ℤ◌, ◌<ℤ◌, refl, sym, subst, arith}
use Rattle.std.proofs.lemmas.Int.{ints}
use Rattle.std.proofs.lemmas.Bool.{cases_lt}
use Rattle.std.specs.List.{AllZip}
use Rattle.net_normal.specs.declared.problem.FlowArc.{FlowArc}
use Rattle.net_solve.specs.Pseudoflows.{IsFull, IsClear, IsSlackArc, no_arc}
use Rattle.net_solve.specs.declared.slack.SlackArc.{SlackArc}
use Rattle.net_solve.proofs.ForestSinking.{cases_leℤ}

-- R holds at an index
abbrev pub At : (FlowArc → ℤ → Type 0) → List FlowArc → List ℤ → ℕ → Type 0
At R arcs flows k = R (get_or arcs k no_arc) (get_or flows k (pos 0))

pub zipped-from : (R : FlowArc → ℤ → Type 0) (arcs : List FlowArc) (flows : List ℤ) → length flows ≡ length arcs → ((k : ℕ) → k < length arcs → At R arcs flows k) → AllZip R arcs flows
zipped-from R [] [] h f = tt
zipped-from R [] (y ∷ flows) h f = absurd (omega (arith, h))
zipped-from R (a ∷ arcs) [] h f = absurd (omega (arith, h))
zipped-from R (a ∷ arcs) (y ∷ flows) h f = (f 0 (omega arith), zipped-from R arcs flows (omega (arith, h)) (λ k l. f (suc k) (omega (arith, l))))

pub record IsFirst (arcs : List FlowArc) (flows potentials : List ℤ) (flags : List Bool) (i : ℕ) (way : SlackArc) : Type 0 where
  pub inside : way.index < i
  pub is : At (IsSlackArc potentials flags way.depth) arcs flows way.index
  pub clear : (k : ℕ) → k < i → At (IsClear potentials flags way.depth) arcs flows k

pub record HasScanned (arcs : List FlowArc) (flows potentials : List ℤ) (flags : List Bool) (i : ℕ) (first : Option SlackArc) : Type 0 where
  pub none : first ≡ None → (k : ℕ) → k < i → At (IsFull flags) arcs flows k
  pub some : (way : SlackArc) → first ≡ Some way → IsFirst arcs flows potentials flags i way

full-clear : (potentials : List ℤ) (flags : List Bool) (depth : ℤ) (arc : FlowArc) (flow : ℤ) → IsFull flags arc flow → IsClear potentials flags depth arc flow
full-clear potentials flags depth arc flow h = record { out = λ e. inl (h.out e); into = λ e. inl (h.into e) }

way-clear : (potentials : List ℤ) (flags : List Bool) (d depth : ℤ) (arc : FlowArc) (flow : ℤ) → d ≤ℤ depth → IsSlackArc potentials flags depth arc flow → IsClear potentials flags d arc flow
way-clear potentials flags d depth arc flow l h = record { out = λ e. inr (omega (arith, ints, l, (h.out e).1)); into = λ e. inr (omega (arith, ints, l, (h.into e).1)) }

sooner-clear : (potentials : List ℤ) (flags : List Bool) (d depth : ℤ) (arc : FlowArc) (flow : ℤ) → d ≤ℤ depth → IsClear potentials flags depth arc flow → IsClear potentials flags d arc flow
sooner-clear potentials flags d depth arc flow l h = record {
  out = λ e. elim (h.out e) [ inl x ↦ inl x | inr x ↦ inr (omega (arith, ints, l, x)) ];
  into = λ e. elim (h.into e) [ inl x ↦ inl x | inr x ↦ inr (omega (arith, ints, l, x)) ];
}

-- what holds below i and at i holds below i + 1
below-next : (P : ℕ → Type 0) (i : ℕ) → ((k : ℕ) → k < i → P k) → P i → (k : ℕ) → k < i + 1 → P k
below-next P i f p k l = elim (cases_lt k i) as (λ _. P k) [ inl m ↦ f k m | inr m ↦ let e : i ≡ k = omega (arith, l, m) in subst P e p ]

pub scanned-start : (arcs : List FlowArc) (flows potentials : List ℤ) (flags : List Bool) → HasScanned arcs flows potentials flags 0 None
scanned-start arcs flows potentials flags = record { none = λ e k l. absurd (omega (arith, l)); some = λ way e. cc }

pub scanned-full : (arcs : List FlowArc) (flows potentials : List ℤ) (flags : List Bool) (i : ℕ) (first : Option SlackArc) → HasScanned arcs flows potentials flags i first → At (IsFull flags) arcs flows i → HasScanned arcs flows potentials flags (i + 1) first
scanned-full arcs flows potentials flags i first h full = record {
  none = λ e. below-next (At (IsFull flags) arcs flows) i (h.none e) full;
  some = λ way e. let old = h.some way e in record { inside = omega (arith, old.inside); is = old.is; clear = below-next (At (IsClear potentials flags way.depth) arcs flows) i old.clear (full-clear potentials flags way.depth _ _ full) };
}

first-kept : (arcs : List FlowArc) (flows potentials : List ℤ) (flags : List Bool) (i : ℕ) (way : SlackArc) (depth : ℤ) → IsFirst arcs flows potentials flags i way → At (IsSlackArc potentials flags depth) arcs flows i → way.depth ≤ℤ depth → IsFirst arcs flows potentials flags (i + 1) way
first-kept arcs flows potentials flags i way depth old is l = record { inside = omega (arith, old.inside); is = old.is; clear = below-next (At (IsClear potentials flags way.depth) arcs flows) i old.clear (way-clear potentials flags way.depth depth _ _ l is) }

first-taken : (arcs : List FlowArc) (flows potentials : List ℤ) (flags : List Bool) (i : ℕ) (way : SlackArc) (depth : ℤ) → way.index ≡ i → way.depth ≡ depth → ((k : ℕ) → k < i → At (IsClear potentials flags depth) arcs flows k) → At (IsSlackArc potentials flags depth) arcs flows i → IsFirst arcs flows potentials flags (i + 1) way
first-taken arcs flows potentials flags i way depth here same clear is = record {
  inside = omega (arith, here);
  is = subst (λ (k : ℕ). At (IsSlackArc potentials flags way.depth) arcs flows k) (sym here) (subst (λ (d : ℤ). At (IsSlackArc potentials flags d) arcs flows i) (sym same) is);
  clear = subst (λ (d : ℤ). (k : ℕ) → k < i + 1 → At (IsClear potentials flags d) arcs flows k) (sym same) (below-next (At (IsClear potentials flags depth) arcs flows) i clear (way-clear potentials flags depth depth _ _ (omega (arith, ints)) is));
}

got-some : (x : SlackArc) (result : Option SlackArc) (P : SlackArc → Type 0) → result ≡ Some x → P x → (way : SlackArc) → result ≡ Some way → P way
got-some x result P e p way f = let same : x ≡ way = cc in subst P same p

some-of : (arcs : List FlowArc) (flows potentials : List ℤ) (flags : List Bool) (i : ℕ) (x : SlackArc) (result : Option SlackArc) → result ≡ Some x → IsFirst arcs flows potentials flags i x → HasScanned arcs flows potentials flags i result
some-of arcs flows potentials flags i x result e h = record { none = λ f. cc; some = got-some x result (IsFirst arcs flows potentials flags i) e h }

pub scanned-way : (arcs : List FlowArc) (flows potentials : List ℤ) (flags : List Bool) (i : ℕ) (depth : ℤ) (first result : Option SlackArc) (new : SlackArc) → new.index ≡ i → new.depth ≡ depth → HasScanned arcs flows potentials flags i first → At (IsSlackArc potentials flags depth) arcs flows i
    → (first ≡ None → result ≡ Some new) → ((way : SlackArc) → first ≡ Some way → way.depth ≤ℤ depth → result ≡ Some way) → ((way : SlackArc) → first ≡ Some way → depth <ℤ way.depth → result ≡ Some new) → HasScanned arcs flows potentials flags (i + 1) result
scanned-way arcs flows potentials flags i depth None result new here same h is none kept taken =
    some-of arcs flows potentials flags (i + 1) new result (none refl) (first-taken arcs flows potentials flags i new depth here same (λ k l. full-clear potentials flags depth _ _ (h.none refl k l)) is)
scanned-way arcs flows potentials flags i depth (Some way) result new here same h is none kept taken =
    let old = h.some way refl in
    elim (cases_leℤ way.depth depth) as (λ _. HasScanned arcs flows potentials flags (i + 1) result) [
      | inl l ↦ some-of arcs flows potentials flags (i + 1) way result (kept way refl l) (first-kept arcs flows potentials flags i way depth old is l)
      | inr l ↦ some-of arcs flows potentials flags (i + 1) new result (taken way refl l) (first-taken arcs flows potentials flags i new depth here same (λ k m. sooner-clear potentials flags depth way.depth _ _ (omega (arith, ints, l)) (old.clear k m)) is)
    ]

-- at the end of the arcs
pub none-of : (arcs : List FlowArc) (flows potentials : List ℤ) (flags : List Bool) (i : ℕ) (first : Option SlackArc) → length flows ≡ length arcs → length arcs ≤ i → HasScanned arcs flows potentials flags i first → IfNone first (AllZip (IsFull flags) arcs flows)
none-of arcs flows potentials flags i None one_each past h = zipped-from (IsFull flags) arcs flows one_each (λ k l. h.none refl k (omega (arith, l, past)))
none-of arcs flows potentials flags i (Some way) one_each past h = tt

pub clear-of : (arcs : List FlowArc) (flows potentials : List ℤ) (flags : List Bool) (i : ℕ) (first : Option SlackArc) → length flows ≡ length arcs → length arcs ≤ i → HasScanned arcs flows potentials flags i first → IfSome first (λ way. AllZip (IsClear potentials flags way.depth) arcs flows)
clear-of arcs flows potentials flags i None one_each past h = tt
clear-of arcs flows potentials flags i (Some way) one_each past h = zipped-from (IsClear potentials flags way.depth) arcs flows one_each (λ k l. (h.some way refl).clear k (omega (arith, l, past)))

pub inside-of : (arcs : List FlowArc) (flows potentials : List ℤ) (flags : List Bool) (i : ℕ) (first : Option SlackArc) → i ≤ length arcs → HasScanned arcs flows potentials flags i first → IfSome first (λ way. way.index < length arcs)
inside-of arcs flows potentials flags i None upto h = tt
inside-of arcs flows potentials flags i (Some way) upto h = omega (arith, (h.some way refl).inside, upto)

pub is-of : (arcs : List FlowArc) (flows potentials : List ℤ) (flags : List Bool) (i : ℕ) (first : Option SlackArc) → HasScanned arcs flows potentials flags i first → IfSome first (λ way. At (IsSlackArc potentials flags way.depth) arcs flows way.index)
is-of arcs flows potentials flags i None h = tt
is-of arcs flows potentials flags i (Some way) h = (h.some way refl).is
