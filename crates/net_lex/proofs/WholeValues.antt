-- What scaling gives is the whole value, and it is the same from numbers that are kept only up to a bound.
use Rattle.std.proofs.Common.{◌≡◌, ℕ, ◌+◌, ◌-◌, ◌*◌, ◌^◌, ◌<◌, ◌≤◌, ◌⊎◌, min, Ok, Err, refl, sym, ap, ◌∙◌, arith, subst, inl, inr}
use Rattle.std.proofs.lemmas.Bool.{lt-ltb, le-ltb, ne_eqb, cases_lt, cases_eq}
use Rattle.std.proofs.lemmas.Nat.{pow-add}
use Rattle.std.proofs.Math.Nat.{mul-le-mul_left, le_of_mul-le-mul_right, mul_assoc}
use Rattle.net_lex.specs.declared.whole.NumFault.TheVariants.{NotWhole, TooLarge}
use Rattle.net_lex.specs.Numerals.{IsWhole, IsSized}
use Rattle.net_lex.specs.Significands.{whole_value}
use Rattle.net_lex.proofs.Tens.{ten_pos, ten_more, ten_large}

pub value_zero : (limit up down : ℕ) → whole_value limit 0 up down ≡ Ok 0
unfolding whole_value
value_zero limit up down = refl

pub value_low : (limit s up down : ℕ) → 0 < s → up < down → whole_value limit s up down ≡ Err NotWhole
unfolding whole_value
value_low limit s up down some low = rw (ne_eqb s 0 (λ e. omega arith), lt-ltb up down low) refl

pub value_too_large : (limit s up down : ℕ) → 0 < s → down ≤ up → limit < s * 10 ^ (up - down) → whole_value limit s up down ≡ Err TooLarge
unfolding whole_value
value_too_large limit s up down some high large = rw (ne_eqb s 0 (λ e. omega arith), le-ltb up down high, lt-ltb limit (s * 10 ^ (up - down)) large) refl

pub value_found : (limit s up down : ℕ) → 0 < s → down ≤ up → s * 10 ^ (up - down) ≤ limit → whole_value limit s up down ≡ Ok (s * 10 ^ (up - down))
unfolding whole_value
value_found limit s up down some high small = rw (ne_eqb s 0 (λ e. omega arith), le-ltb up down high, le-ltb limit (s * 10 ^ (up - down)) small) refl

-- no zero stands at the end, or the number is 0
abbrev pub EndsInNoZero : ℕ → Type 0
EndsInNoZero s = (s ≡ 0) ⊎ ((q : ℕ) → s ≡ 10 * q → ⊥)

-- digits and zeros, raised: the mantissa's whole value
raised_whole : (m s z up down : ℕ) → m ≡ s * 10 ^ z → down ≤ z + up → IsWhole m up down (s * 10 ^ (z + up - down))
raised_whole m s z up down e high = record {
  raised = λ h.
      let places : z + up - down ≡ z + (up - down) = omega arith in
      rw (places, pow-add 10 z (up - down), e) (omega arith);
  lowered = λ h.
      let places : z + up - down + (down - up) ≡ z = omega arith in
      let joined : 10 ^ (z + up - down) * 10 ^ (down - up) ≡ 10 ^ z = sym (pow-add 10 (z + up - down) (down - up)) ∙ ap (λ k. 10 ^ k) places in
      mul_assoc s (10 ^ (z + up - down)) (10 ^ (down - up)) ∙ ap (λ k. s * k) joined ∙ sym e;
}

-- a number that does not end in a zero is no multiple of a higher power of ten
not_lower : (m s z up down n : ℕ) → m ≡ s * 10 ^ z → ((q : ℕ) → s ≡ 10 * q → ⊥) → z + up < down → IsWhole m up down n → ⊥
not_lower m s z up down n e ends low whole =
    let j = down - up - z - 1 in
    let below : up < down = omega arith in
    let places : down - up ≡ j + 1 + z = omega arith in
    let split : 10 ^ (down - up) ≡ 10 * 10 ^ j * 10 ^ z = ap (λ k. 10 ^ k) places ∙ pow-add 10 (j + 1) z ∙ ap (λ k. k * 10 ^ z) (ten_more j) in
    let lowered : n * (10 * 10 ^ j * 10 ^ z) ≡ m = ap (λ k. n * k) (sym split) ∙ whole.lowered below in
    let same : 10 * (n * 10 ^ j) * 10 ^ z ≡ s * 10 ^ z = omega (arith, lowered, e) in
    let most : s ≤ 10 * (n * 10 ^ j) = le_of_mul-le-mul_right {k = 10 ^ z} (omega arith) (ten_pos z) in
    let least : 10 * (n * 10 ^ j) ≤ s = le_of_mul-le-mul_right {k = 10 ^ z} (omega arith) (ten_pos z) in
    ends (n * 10 ^ j) (omega arith)

-- what scaling gives is the whole value of the mantissa, or says why there is none
pub whole_value_sized : (limit m s z up down : ℕ) → m ≡ s * 10 ^ z → EndsInNoZero s → IsSized limit m up down (whole_value limit s (z + up) down)
whole_value_sized limit m s z up down e (inl none) =
    let m_none : m ≡ 0 = e ∙ ap (λ k. k * 10 ^ z) none ∙ omega arith in
    subst (λ k. IsSized limit m up down (whole_value limit k (z + up) down)) (sym none)
    (rw (value_zero limit (z + up) down) (record { raised = λ h. rw m_none (omega arith); lowered = λ h. rw m_none (omega arith) }, omega arith))
whole_value_sized limit m s z up down e (inr ends) =
    let some : 0 < s = elim (cases_eq s 0) [ inl none ↦ absurd (ends 0 (omega arith)) | inr other ↦ omega arith ] in
    elim (cases_lt (z + up) down) [
      | inl low ↦ rw (value_low limit s (z + up) down some low) (λ n. not_lower m s z up down n e ends low)
      | inr high ↦ elim (cases_lt limit (s * 10 ^ (z + up - down))) [
        | inl large ↦ rw (value_too_large limit s (z + up) down some high large) (s * 10 ^ (z + up - down), raised_whole m s z up down e high, large)
        | inr small ↦ rw (value_found limit s (z + up) down some high small) (raised_whole m s z up down e high, small)
      ]
    ]

-- numbers of which one is kept up to a bound scale alike
pub record ScalesAlike (up down kept_up kept_down : ℕ) : Type 0 where
  pub low : up < down → kept_up < kept_down
  pub high : down ≤ up → kept_down ≤ kept_up
  pub near : up - down ≤ 12 → down ≤ up → kept_up - kept_down ≡ up - down
  pub far : 12 < up - down → 12 < kept_up - kept_down

abbrev bound : ℕ
bound = 1000000000000

large_apart : (s k : ℕ) → bound < s → bound < s * 10 ^ k
large_apart s k h = let most : s * 1 ≤ s * 10 ^ k = mul-le-mul_left s (ten_pos k) in omega arith

value_same : (s up down kept_up kept_down : ℕ) → 0 < s → down ≤ up → kept_down ≤ kept_up → kept_up - kept_down ≡ up - down
    → whole_value bound s kept_up kept_down ≡ whole_value bound s up down
value_same s up down kept_up kept_down some high kept_high same = elim (cases_lt bound (s * 10 ^ (up - down))) [
  | inl large ↦
      value_too_large bound s kept_up kept_down some kept_high (rw same large) ∙ sym (value_too_large bound s up down some high large)
  | inr small ↦
      value_found bound s kept_up kept_down some kept_high (rw same small)
      ∙ (ap (λ k. Ok (s * 10 ^ k)) same ∙ sym (value_found bound s up down some high small))
]

pub value_kept : (s up down kept_up kept_down : ℕ) → ScalesAlike up down kept_up kept_down
    → whole_value 1000000000000 (min s 1000000000001) kept_up kept_down ≡ whole_value 1000000000000 s up down
value_kept s up down kept_up kept_down alike = elim (cases_eq s 0) [
  | inl none ↦ rw none (value_zero bound kept_up kept_down ∙ sym (value_zero bound up down))
  | inr other ↦
      let some : 0 < s = omega arith in
      let kept : 0 < min s 1000000000001 = omega arith in
      elim (cases_lt up down) [
        | inl low ↦ value_low bound _ kept_up kept_down kept (alike.low low) ∙ sym (value_low bound s up down some low)
        | inr high ↦ elim (cases_lt 12 (up - down)) [
          | inl far ↦
              value_too_large bound _ kept_up kept_down kept (alike.high high) (omega (arith, ten_large _ (kept_up - kept_down) 0 kept (alike.far far)))
              ∙ sym (value_too_large bound s up down some high (omega (arith, ten_large s (up - down) 0 some far)))
          | inr near ↦ elim (cases_lt 1000000000000 s) [
            | inl large ↦
                value_too_large bound _ kept_up kept_down kept (alike.high high) (let top : bound < min s 1000000000001 = omega arith in large_apart _ (kept_up - kept_down) top)
                ∙ sym (value_too_large bound s up down some high (large_apart s (up - down) large))
            | inr small ↦
                let same : min s 1000000000001 ≡ s = omega arith in
                ap (λ k. whole_value bound k kept_up kept_down) same
                ∙ value_same s up down kept_up kept_down some high (alike.high high) (alike.near near high)
          ]
        ]
      ]
]
