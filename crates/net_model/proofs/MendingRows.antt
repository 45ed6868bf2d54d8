-- Where things in a row stop, the tokens before the stop begin such a row.
use Rattle.std.specs.Prelude.{◌≡◌, ◌≤◌, ℕ, zero, suc, Bool, true, List, [], ◌∷◌, Ok}
use Rattle.std.proofs.Common.{refl, ap, ◌∙◌}
use Rattle.net_model.specs.Reading.{Tokens}
use Rattle.net_model.specs.Rows.{Step, row}
use Rattle.net_model.proofs.Readers.{put_before}
use Rattle.net_model.proofs.RowLaws.{Chain, put_all, SoundStep}
use Rattle.net_model.proofs.Mending.{Written, Mending, here, same, then_mends, last_mends, choose_mends, read_mends}

-- a printer that goes on as it began
abbrev pub Fronts : {A : Type 0} → (A → Tokens → Tokens) → Type 0
Fronts {A} put = (x : A) (v r : Tokens) → put x (put_before v r) ≡ put_before (put x v) r

pub put_all-front : {A : Type 0} (put : A → Tokens → Tokens) → Fronts put → Fronts (put_all put)
put_all-front put front [] v r = refl
put_all-front put front (x ∷ l) v r = ap (put x) (put_all-front put front l v r) ∙ front x (put_all put l v) r

-- a thing and the state behind it, where this state was before it
abbrev pub step_of : {A S : Type 0} (put : A → Tokens → Tokens) → Fronts put → (ℕ → S → A → S → Type 0) → S → Written (A × S)
step_of put front P s = record { put = λ x. put x.0; fits = λ k x. P k s x.0 x.1; front = λ x. front x.0 }

abbrev pub row_of : {A S : Type 0} (put : A → Tokens → Tokens) → Fronts put → (ℕ → S → A → S → Type 0) → S → Written (List A × S)
row_of put front P s = record { put = λ x. put_all put x.0; fits = λ k x. Chain (P k) s x.0 x.1; front = λ x. put_all-front put front x.0 }

pub row-mends : {A S : Type 0} (put : A → Tokens → Tokens) (front : Fronts put) (P : ℕ → S → A → S → Type 0) (d : ℕ) (step : Step A S) (more : S → Tokens → Bool)
    → ((k : ℕ) (s : S) (a : A) (m : S) → d ≤ k → P d s a m → P k s a m)
    → ((s : S) (ts : Tokens) (x : (A × S) × Tokens) → more s ts ≡ true → step s ts ≡ Ok x → SoundStep put (P d) s ts x)
    → ((s : S) (ts : Tokens) → more s ts ≡ true → Mending (step_of put front P s) d same ts (step s ts))
    → (turns : ℕ) (s : S) (ts : Tokens) → Mending (row_of put front P s) d same ts (row turns step more s ts)
row-mends put front P d step more wider sound mends zero s ts = read_mends (row_of put front P s) d same ts (([], s), ts)
row-mends put front P d step more wider sound mends (suc turns) s ts =
    choose_mends (row_of put front P s) d same ts (more s ts) _ _
    (λ b. then_mends (step_of put front P s) (row_of put front P s) here d same ts (step s ts) _ (mends s ts b)
    (λ stop e k x le f. record { thing = (x.0 ∷ [], x.1); fits = (x.1, f, refl); rest = []; text = λ r. refl })
    (λ x e.
    let sx = sound s ts x b e in
    record {
      text = sx.text;
      mends =
          last_mends (row_of put front P x.0.1) (row_of put front P s) here d (put x.0.0) x.1 (row turns step more x.0.1 x.1) _ (row-mends put front P d step more wider sound mends turns x.0.1 x.1)
          (λ stop e k l le f. record { thing = (x.0.0 ∷ l.0, l.1); fits = (x.0.1, wider k s x.0.0 x.0.1 le sx.holds, f); rest = []; text = λ r. refl })
          (λ l stop h. cc);
    }))
    (λ b. read_mends (row_of put front P s) d same ts (([], s), ts))
