-- What is read in a row is printed one after the other, and the other way round.
use Rattle.std.specs.Prelude.{◌≡◌, ◌≤◌, ◌<◌, ℕ, zero, suc, Bool, true, false, List, [], ◌∷◌, length, Ok}
use Rattle.std.proofs.Common.{refl, ap, ◌∙◌, arith}
use Rattle.net_model.specs.Reading.{Tokens}
use Rattle.net_model.specs.Rows.{Step, row}
use Rattle.net_model.proofs.Tools.{bind_ok, given, chosen, on, off}

-- each thing leads from one state to the next
abbrev pub Chain : {A S : Type 0} → (S → A → S → Type 0) → S → List A → S → Type 0
Chain P s [] e = s ≡ e
Chain {S = S} P s (a ∷ l) e = (m : S) × P s a m × Chain P m l e

abbrev pub put_all : {A : Type 0} → (A → Tokens → Tokens) → List A → Tokens → Tokens
put_all put [] r = r
put_all put (a ∷ l) r = put a (put_all put l r)

pub record SoundStep {A S : Type 0} (put : A → Tokens → Tokens) (P : S → A → S → Type 0) (s : S) (ts : Tokens) (x : (A × S) × Tokens) : Type 0 where
  pub text : ts ≡ put x.0.0 x.1
  pub holds : P s x.0.0 x.0.1

pub record SoundRow {A S : Type 0} (put : A → Tokens → Tokens) (P : S → A → S → Type 0) (s : S) (ts : Tokens) (x : (List A × S) × Tokens) : Type 0 where
  pub text : ts ≡ put_all put x.0.0 x.1
  pub chain : Chain P s x.0.0 x.0.1

pub row-sound : {A S : Type 0} (put : A → Tokens → Tokens) (P : S → A → S → Type 0) (step : Step A S) (more : S → Tokens → Bool)
    → ((s : S) (ts : Tokens) (x : (A × S) × Tokens) → more s ts ≡ true → step s ts ≡ Ok x → SoundStep put P s ts x)
    → (turns : ℕ) (s : S) (ts : Tokens) (x : (List A × S) × Tokens) → row turns step more s ts ≡ Ok x → SoundRow put P s ts x
row-sound put P step more sound zero s ts x h = given (λ y. SoundRow put P s ts y) (([], s), ts) x h (record { text = refl; chain = refl })
row-sound put P step more sound (suc turns) s ts x h =
    elim (chosen (more s ts) _ _ _ h) [
      | on b e ↦
          let a = bind_ok _ _ _ e in
          let sa = sound s ts a.value b a.first in
          let l = bind_ok _ _ _ a.after in
          let sl = row-sound put P step more sound turns a.value.0.1 a.value.1 l.value l.first in
          given (λ y. SoundRow put P s ts y) ((a.value.0.0 ∷ l.value.0.0, l.value.0.1), l.value.1) x l.after
          (record { text = sa.text ∙ ap (put a.value.0.0) sl.text; chain = (a.value.0.1, sa.holds, sl.chain) })
      | off b e ↦ given (λ y. SoundRow put P s ts y) (([], s), ts) x e (record { text = refl; chain = refl })
    ]

-- what is printed as one thing is read as that thing, where what follows lets it end
pub record CompleteStep {A S : Type 0} (put : A → Tokens → Tokens) (P : S → A → S → Type 0) (Ends : Tokens → Type 0) (step : Step A S) (more : S → Tokens → Bool) : Type 0 where
  pub longer : (a : A) (r : Tokens) → length r < length (put a r)
  pub goes : (s : S) (a : A) (m : S) (r : Tokens) → P s a m → more s (put a r) ≡ true
  pub lets : (s : S) (a : A) (m : S) (r : Tokens) → P s a m → Ends (put a r)
  pub reads : (s : S) (a : A) (m : S) (r : Tokens) → P s a m → Ends r → step s (put a r) ≡ Ok ((a, m), r)

no_more : {A S : Type 0} (step : Step A S) (more : S → Tokens → Bool) (turns : ℕ) (s : S) (r : Tokens) → more s r ≡ false → row turns step more s r ≡ Ok (([], s), r)
no_more step more zero s r over = refl
no_more step more (suc turns) s r over = rw over refl

ends : {A S : Type 0} (put : A → Tokens → Tokens) (P : S → A → S → Type 0) (Ends : Tokens → Type 0) → ((s : S) (a : A) (m : S) (r : Tokens) → P s a m → Ends (put a r))
    → (s : S) (l : List A) (e : S) (r : Tokens) → Chain P s l e → Ends r → Ends (put_all put l r)
ends put P Ends lets s [] e r chain last = last
ends put P Ends lets s (a ∷ l) e r chain last = lets s a chain.0 (put_all put l r) chain.1

pub row-complete : {A S : Type 0} (put : A → Tokens → Tokens) (P : S → A → S → Type 0) (Ends : Tokens → Type 0) (step : Step A S) (more : S → Tokens → Bool)
    → CompleteStep put P Ends step more
    → (turns : ℕ) (s : S) (l : List A) (e : S) (r : Tokens) → length (put_all put l r) ≤ turns → Chain P s l e → Ends r → more e r ≡ false
    → row turns step more s (put_all put l r) ≡ Ok ((l, e), r)
row-complete put P Ends step more c turns s [] e r enough chain last over =
    rw (← chain) (no_more step more turns s r (rw chain over))
row-complete put P Ends step more c zero s (a ∷ l) e r enough chain last over = absurd (omega (arith, c.longer a (put_all put l r)))
row-complete put P Ends step more c (suc turns) s (a ∷ l) e r enough chain last over =
    let rest = put_all put l r in
    let fewer : length rest ≤ turns = omega (arith, c.longer a rest) in
    let one = c.reads s a chain.0 rest chain.1 (ends put P Ends c.lets chain.0 l e r chain.2 last) in
    let others = row-complete put P Ends step more c turns chain.0 l e r fewer chain.2 last over in
    rw (c.goes s a chain.0 rest chain.1, one, others) refl
