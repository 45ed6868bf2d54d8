-- Texts that pass through a page one after the other.
use Rattle.std.proofs.Common.{◌≡◌, ℕ, Bool, true, false, List, [], ◌++◌, refl, sym, ap, ◌∙◌, append_assoc, append-nil, subst, inl, inr, Ok, Err}
use Rattle.std.specs.Prelude.{Option, Result, OnErr, OnOk}
use Rattle.std.specs.Io.KnownBytes.{Appends}
use Rattle.std.proofs.KnownBytes.{Appends-nil, Appends-trans}
use Rattle.std.proofs.lemmas.Bool.{cases_Bool}
use Rattle.net_io.specs.Ends.{WritesFront}
use Rattle.net_io.specs.Paging.{Held, Taken, Passes, Sends, SendsTo, empty}

passes_nothing : (a : Option (List ℕ)) (x : List ℕ) → Passes a a x [] x
passes_nothing a x = record { front = []; gone = Appends-nil a; parts = append-nil x }

passes_more : (a b c : Option (List ℕ)) (x s y t z : List ℕ) → Passes a b x s y → Passes b c y t z → Passes a c x (s ++ t) z
passes_more a b c x s y t z p q =
    record {
      front = p.front ++ q.front;
      gone = Appends-trans a b c p.front q.front p.gone q.gone;
      parts = sym (append_assoc x s t) ∙ ap (λ (l : List ℕ). l ++ t) p.parts ∙ append_assoc p.front y t ∙ ap (λ (l : List ℕ). p.front ++ l) q.parts ∙ sym (append_assoc p.front q.front z);
    }

-- a prefix of a prefix
front_more : (a c : Option (List ℕ)) (x s t : List ℕ) → WritesFront a c (x ++ s) → WritesFront a c (x ++ (s ++ t))
front_more a c x s t w = (w.0, w.1 ++ t, sym (append_assoc x s t) ∙ ap (λ (l : List ℕ). l ++ t) w.2 ∙ append_assoc w.0 w.1 t, w.3)

front_after : (a b c : Option (List ℕ)) (x s y t : List ℕ) → Passes a b x s y → WritesFront b c (y ++ t) → WritesFront a c (x ++ (s ++ t))
front_after a b c x s y t p w = (
  p.front ++ w.0,
  w.1,
  sym (append_assoc x s t) ∙ ap (λ (l : List ℕ). l ++ t) p.parts ∙ append_assoc p.front y t ∙ ap (λ (l : List ℕ). p.front ++ l) w.2 ∙ sym (append_assoc p.front w.0 w.1),
  Appends-trans a b c p.front w.0 p.gone w.3,
)

differ : {A : Type 0} (b : Bool) → b ≡ true → b ≡ false → A
differ b t f = absurd (let h = sym t ∙ f in cc)

-- nothing is sent
pub sends_nothing : (a : Taken) (x : Held) → Sends a a x [] x
sends_nothing a x = record {
  passes = λ f g. (passes_nothing a.bytes x.bytes, refl);
  stops = λ f g. differ x.failed g f;
  stopped = λ f. (f, refl);
}

-- a text, and then another
pub sends_both : {a b c : Taken} {x y z : Held} {s t : List ℕ} → Sends a b x s y → Sends b c y t z → Sends a c x (s ++ t) z
sends_both {a} {b} {c} {x} {y} {z} {s} {t} p q = record {
  passes = λ f g. elim (cases_Bool y.failed) [
    | inl h ↦ differ z.failed (q.stopped h).0 g
    | inr h ↦ (passes_more a.bytes b.bytes c.bytes x.bytes s y.bytes t z.bytes (p.passes f h).0 (q.passes h g).0, (q.passes h g).1 ∙ (p.passes f h).1)
  ];
  stops = λ f g. elim (cases_Bool y.failed) [
    | inl h ↦ (
        let same : c ≡ b = (q.stopped h).1 in
        (subst (λ (k : Taken). WritesFront a.bytes k.bytes (x.bytes ++ (s ++ t))) (sym same) (front_more a.bytes b.bytes x.bytes s t (p.stops f h).0), ap (λ (k : Taken). k.failed) same ∙ (p.stops f h).1))
    | inr h ↦ (front_after a.bytes b.bytes c.bytes x.bytes s y.bytes t (p.passes f h).0 (q.stops h g).0, (q.stops h g).1)
  ];
  stopped = λ f. ((q.stopped (p.stopped f).0).0, (q.stopped (p.stopped f).0).1 ∙ (p.stopped f).1);
}

-- the same text, written in another way
pub sends_as : {a b : Taken} {x y : Held} {s t : List ℕ} → s ≡ t → Sends a b x s y → Sends a b x t y
sends_as {a} {b} {x} {y} e p = subst (λ (l : List ℕ). Sends a b x l y) e p

-- a write of the page fails, before a text
pub page_fails : {A E : Type 0} (a b : Option (List ℕ)) (page x text : List ℕ) (r : Result A E) → page ≡ x → WritesFront a b page → OnErr r (WritesFront a b (x ++ text))
page_fails a b page x text (Ok v) e w = tt
page_fails a b page x text (Err v) e w = (w.0, w.1 ++ text, ap (λ (l : List ℕ). l ++ text) (sym e ∙ w.2) ∙ append_assoc w.0 w.1 text, w.3)

-- the page is written, and then the text, which is longer than a page
pub both_pass : {A E : Type 0} (a b c : Option (List ℕ)) (page x text after : List ℕ) (r : Result A E) → page ≡ x → Appends a b page → after ≡ [] → OnOk r (Appends b c text) → OnOk r (Passes a c x text after)
both_pass a b c page x text after (Ok v) e gone none more = record {
  front = x ++ text;
  gone = Appends-trans a b c x text (subst (Appends a b) e gone) more;
  parts = sym (append-nil (x ++ text)) ∙ ap (λ (l : List ℕ). (x ++ text) ++ l) (sym none);
}
both_pass a b c page x text after (Err v) e gone none more = tt

pub text_fails : {A E : Type 0} (a b c : Option (List ℕ)) (page x text : List ℕ) (r : Result A E) → page ≡ x → Appends a b page → OnErr r (WritesFront b c text) → OnErr r (WritesFront a c (x ++ text))
text_fails a b c page x text (Ok v) e gone w = tt
text_fails a b c page x text (Err v) e gone w = (
  x ++ w.0,
  w.1,
  ap (λ (l : List ℕ). x ++ l) w.2 ∙ sym (append_assoc x w.0 w.1),
  Appends-trans a b c x w.0 (subst (Appends a b) e gone) w.3,
)

-- a text is sent through an empty page, the page is finished, and a write fails: a prefix was written
pub whole_fails : {A E S : Type 0} (taken : S → Option (List ℕ)) (failed : S → Bool) (a b c : S) (x y : Held) (text : List ℕ) (r : Result A E) → x ≡ empty
    → SendsTo taken failed a b x text y
    → OnErr r ((y.failed ≡ false → WritesFront (taken b) (taken c) y.bytes) × (y.failed ≡ true → c ≡ b)) → OnErr r (WritesFront (taken a) (taken c) text)
whole_fails taken failed a b c x y text (Ok v) none p w = tt
whole_fails {S = S} taken failed a b c x y text (Err v) none p w =
    let fresh : x.failed ≡ false = ap (λ (h : Held). h.failed) none in
    let bare : x.bytes ≡ [] = ap (λ (h : Held). h.bytes) none in
    elim (cases_Bool y.failed) [
      | inl h ↦ subst (λ (k : S). WritesFront (taken a) (taken k) text) (sym (w.1 h)) (subst (λ (l : List ℕ). WritesFront (taken a) (taken b) (l ++ text)) bare (p.stops fresh h).0)
      | inr h ↦ (
          let passed = (p.passes fresh h).0 in
          let last = w.0 h in (
            passed.front ++ last.0,
            last.1,
            ap (λ (l : List ℕ). l ++ text) (sym bare) ∙ passed.parts ∙ ap (λ (l : List ℕ). passed.front ++ l) last.2 ∙ sym (append_assoc passed.front last.0 last.1),
            Appends-trans (taken a) (taken b) (taken c) passed.front last.0 passed.gone last.3,
          ))
    ]

-- the same if no write failed
pub whole_passes : {A E S : Type 0} (taken : S → Option (List ℕ)) (failed : S → Bool) (a b c : S) (x y : Held) (text : List ℕ) (r : Result A E) → x ≡ empty
    → SendsTo taken failed a b x text y
    → OnOk r ((y.failed ≡ false) × Appends (taken b) (taken c) y.bytes) → OnOk r (Appends (taken a) (taken c) text)
whole_passes taken failed a b c x y text (Err v) none p w = tt
whole_passes taken failed a b c x y text (Ok v) none p w =
    let passed = (p.passes (ap (λ (h : Held). h.failed) none) w.0).0 in
    subst (Appends (taken a) (taken c)) (sym passed.parts ∙ ap (λ (h : Held). h.bytes ++ text) none) (Appends-trans (taken a) (taken b) (taken c) passed.front y.bytes passed.gone w.1)

-- of the whole text, `rest` is still to be sent
pub record IsPartlySent (a b : Taken) (x y : Held) (rest whole : List ℕ) : Type 0 where
  pub done : List ℕ
  pub sent : Sends a b x done y
  pub left : done ++ rest ≡ whole

-- the same of a sink before and after: `taken` and `failed` are what is known of it
abbrev pub IsPartlySentTo : {S : Type 0} (taken : S → Option (List ℕ)) (failed : S → Bool) (old new : S) (before after : Held) (rest whole : List ℕ) → Type 0
IsPartlySentTo taken failed old new before after rest whole =
    IsPartlySent (record { bytes = taken old; failed = failed old }) (record { bytes = taken new; failed = failed new }) before after rest whole

pub start_as : (a : Taken) (x : Held) (rest whole : List ℕ) → rest ≡ whole → IsPartlySent a a x x rest whole
start_as a x rest whole e = record { done = []; sent = sends_nothing a x; left = e }

pub start : (a : Taken) (x : Held) (whole : List ℕ) → IsPartlySent a a x x whole whole
start a x whole = start_as a x whole whole refl

pub step : {a b c : Taken} {x y z : Held} {rest whole : List ℕ} (piece more : List ℕ) → rest ≡ piece ++ more → IsPartlySent a b x y rest whole → Sends b c y piece z → IsPartlySent a c x z more whole
step piece more is s p =
    record {
      done = s.done ++ piece;
      sent = sends_both s.sent p;
      left = append_assoc s.done piece more ∙ ap (λ (l : List ℕ). s.done ++ l) (sym is) ∙ s.left;
    }

pub finish : {a b : Taken} {x y : Held} {rest whole : List ℕ} → rest ≡ [] → IsPartlySent a b x y rest whole → Sends a b x whole y
finish is s = sends_as (sym (append-nil s.done) ∙ ap (λ (l : List ℕ). s.done ++ l) (sym is) ∙ s.left) s.sent
