-- A number that was written is that number as a field.
use Rattle.std.proofs.Common.{◌≡◌, ◌≢◌, ◌≤◌, ◌<◌, ℕ, suc, ◌^◌, ◌==◌, Bool, true, false, cond, ◌&&◌, ◌||◌, List, [], ◌∷◌, ℤ, pos, negsuc, neg_ℤ, Some, None, refl, ap, ◌∙◌, length, arith, rules}
use Rattle.std.specs.Prelude.{Option}
use Rattle.std.specs.Option.{option_map}
use Rattle.std.specs.Char.{is_ascii_digit}
use Rattle.std.specs.Str.{all_ascii_digits}
use Rattle.std.specs.Fmt.{decimal, signed_decimal}
use Rattle.std.specs.List.{AllByRecursion}
use Rattle.std.proofs.lemmas.Bool.Decides.{nat_tests}
use Rattle.std.proofs.lemmas.Fmt.{decimal_is_IsNumeral_wide}
use Rattle.std.proofs.lemmas.Str.Parse.{IsNumeralModel, numerals_by_fold}
use Rattle.net_dimacs.specs.Words as words
use Rattle.net_dimacs.proofs.Words.{word_by}
use Rattle.net_dimacs.specs.Lines.{is_blank, has_byte, value_after, natural_of, number_of, number_or_other, word_of}

own : IsNumeralModel (λ ds. all_ascii_digits ds ≡ true) (value_after 0)
own = numerals_by_fold _ (search rules) value_after (search rules)

-- ---- a number of 128 bits

pub are_digits : (n : ℕ) → n < 2 ^ 128 → all_ascii_digits (decimal n) ≡ true
are_digits n small = own.from (decimal n) (decimal_is_IsNumeral_wide n (omega arith)).0.1

pub digits_value : (n : ℕ) → n < 2 ^ 128 → value_after 0 (decimal n) ≡ n
digits_value n small = own.same (decimal n) (decimal_is_IsNumeral_wide n (omega arith)).0.1 ∙ (decimal_is_IsNumeral_wide n (omega arith)).1

pub some_digit : (n : ℕ) → n < 2 ^ 128 → 0 < length (decimal n)
some_digit n small = (decimal_is_IsNumeral_wide n (omega arith)).0.0

both_true : (s t : Bool) → (s && t) ≡ true → (s ≡ true) × (t ≡ true)
both_true true true e = (refl, refl)
both_true true false e = absurd cc
both_true false t e = absurd cc

natural_by : (ds : List ℕ) → all_ascii_digits ds ≡ true → 0 < length ds → natural_of ds ≡ Some (value_after 0 ds)
natural_by [] all some = absurd (omega arith)
natural_by (b ∷ bs) all some = ap (λ (t : Bool). cond t (Some (value_after 0 (b ∷ bs))) None) all

natural_decimal : (n : ℕ) → n < 2 ^ 128 → natural_of (decimal n) ≡ Some n
natural_decimal n small = natural_by (decimal n) (are_digits n small) (some_digit n small) ∙ ap Some (digits_value n small)

-- a field that begins with a digit is a number
number_by : (c p n a m plus minus : Bool) (b : ℕ) (bs : List ℕ) → c ≡ false → p ≡ false → n ≡ false → a ≡ false → m ≡ false → plus ≡ false → minus ≡ false
    → word_by c p n a m plus minus b bs ≡ number_or_other (option_map pos (natural_of (b ∷ bs)))
number_by true p n a m plus minus b bs e1 e2 e3 e4 e5 e6 e7 = absurd cc
number_by false true n a m plus minus b bs e1 e2 e3 e4 e5 e6 e7 = absurd cc
number_by false false true a m plus minus b bs e1 e2 e3 e4 e5 e6 e7 = absurd cc
number_by false false false true m plus minus b bs e1 e2 e3 e4 e5 e6 e7 = absurd cc
number_by false false false false true plus minus b bs e1 e2 e3 e4 e5 e6 e7 = absurd cc
number_by false false false false false true minus b bs e1 e2 e3 e4 e5 e6 e7 = absurd cc
number_by false false false false false false true b bs e1 e2 e3 e4 e5 e6 e7 = absurd cc
number_by false false false false false false false b bs e1 e2 e3 e4 e5 e6 e7 = refl

record IsInDigits (b : ℕ) : Type 0 where
  low : 48 ≤ b
  high : b ≤ 57

digit_range : (b : ℕ) → is_ascii_digit b ≡ true → IsInDigits b
digit_range b e = record { low = grind (arith, nat_tests); high = grind (arith, nat_tests) }

other_byte : (b k : ℕ) → b ≢ k → (b == k) ≡ false
other_byte b k h = grind (arith, nat_tests)

digit_word : (b : ℕ) (bs : List ℕ) → is_ascii_digit b ≡ true → word_of (b ∷ bs) ≡ number_or_other (option_map pos (natural_of (b ∷ bs)))
digit_word b bs e =
    let r = digit_range b e in
    let low = r.low in
    let high = r.high in
    number_by (b == 99) (b == 112) (b == 110) (b == 97) (b == 109) (b == 43) (b == 45) b bs
    (other_byte b 99 (omega arith)) (other_byte b 112 (omega arith)) (other_byte b 110 (omega arith)) (other_byte b 97 (omega arith)) (other_byte b 109 (omega arith)) (other_byte b 43 (omega arith)) (other_byte b 45 (omega arith))

digits_word : (ds : List ℕ) (n : ℕ) → all_ascii_digits ds ≡ true → 0 < length ds → natural_of ds ≡ Some n → word_of ds ≡ words.Number (pos n)
digits_word [] n all some e = absurd (omega arith)
digits_word (b ∷ bs) n all some e =
    digit_word b bs (both_true (is_ascii_digit b) (all_ascii_digits bs) all).0 ∙ ap (λ (o : Option ℕ). number_or_other (option_map pos o)) e

-- a number whose size fits 128 bits
abbrev pub IsPrintable : ℤ → Type 0
IsPrintable (pos n) = n < 2 ^ 128
IsPrintable (negsuc n) = suc n < 2 ^ 128

pub word_decimal : (z : ℤ) → IsPrintable z → word_of (signed_decimal z) ≡ words.Number z
word_decimal (pos n) small = digits_word (decimal n) n (are_digits n small) (some_digit n small) (natural_decimal n small)
word_decimal (negsuc n) small = ap (λ (o : Option ℕ). number_or_other (option_map (λ m. neg_ℤ (pos m)) o)) (natural_decimal (suc n) small)

number_from_tests : (plus minus : Bool) (b : ℕ) (bs : List ℕ) → plus ≡ false → minus ≡ false
    → cond plus (option_map pos (natural_of bs)) (cond minus (option_map (λ n. neg_ℤ (pos n)) (natural_of bs)) (option_map pos (natural_of (b ∷ bs)))) ≡ option_map pos (natural_of (b ∷ bs))
number_from_tests true minus b bs p q = absurd cc
number_from_tests false true b bs p q = absurd cc
number_from_tests false false b bs p q = refl

digits_number : (ds : List ℕ) (n : ℕ) → all_ascii_digits ds ≡ true → 0 < length ds → natural_of ds ≡ Some n → number_of ds ≡ Some (pos n)
digits_number [] n all some e = absurd (omega arith)
digits_number (b ∷ bs) n all some e =
    let r = digit_range b (both_true (is_ascii_digit b) (all_ascii_digits bs) all).0 in
    let low = r.low in
    number_from_tests (b == 43) (b == 45) b bs (other_byte b 43 (omega arith)) (other_byte b 45 (omega arith)) ∙ ap (λ (o : Option ℕ). option_map pos o) e

pub number_decimal : (z : ℤ) → IsPrintable z → number_of (signed_decimal z) ≡ Some z
number_decimal (pos n) small = digits_number (decimal n) n (are_digits n small) (some_digit n small) (natural_decimal n small)
number_decimal (negsuc n) small = ap (λ (o : Option ℕ). option_map (λ m. neg_ℤ (pos m)) o) (natural_decimal (suc n) small)

-- ---- the bytes of a number

-- a byte of a line that is no blank
pub record IsSolid (b : ℕ) : Type 0 where
  pub no_blank : is_blank b ≡ false
  pub no_feed : (b == 10) ≡ false
  pub no_return : (b == 13) ≡ false

neither : (s t : Bool) → s ≡ false → t ≡ false → (s || t) ≡ false
neither true t p q = p
neither false t p q = q

solid_digit : (b : ℕ) → is_ascii_digit b ≡ true → IsSolid b
solid_digit b e =
    let r = digit_range b e in
    let low = r.low in
    record {
      no_blank = neither (b == 32) (b == 9) (other_byte b 32 (omega arith)) (other_byte b 9 (omega arith));
      no_feed = other_byte b 10 (omega arith);
      no_return = other_byte b 13 (omega arith);
    }

pub solid_digits : (ds : List ℕ) → all_ascii_digits ds ≡ true → AllByRecursion IsSolid ds
solid_digits [] all = tt
solid_digits (b ∷ bs) all = let p = both_true (is_ascii_digit b) (all_ascii_digits bs) all in (solid_digit b p.0, solid_digits bs p.1)

pub solid_decimal : (z : ℤ) → IsPrintable z → AllByRecursion IsSolid (signed_decimal z)
solid_decimal (pos n) small = solid_digits (decimal n) (are_digits n small)
solid_decimal (negsuc n) small = (record { no_blank = refl; no_feed = refl; no_return = refl }, solid_digits (decimal (suc n)) (are_digits (suc n) small))

some_byte : (ds : List ℕ) → 0 < length ds → has_byte ds ≡ true
some_byte [] some = absurd (omega arith)
some_byte (b ∷ bs) some = refl

pub byte_decimal : (z : ℤ) → IsPrintable z → has_byte (signed_decimal z) ≡ true
byte_decimal (pos n) small = some_byte (decimal n) (some_digit n small)
byte_decimal (negsuc n) small = refl
