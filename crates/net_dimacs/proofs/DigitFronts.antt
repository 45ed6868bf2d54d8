-- A number in front of a text, digit by digit.
use Rattle.std.proofs.Common.{◌≡◌, ◌≢◌, ◌≤◌, ◌<◌, ℕ, zero, suc, ◌+◌, ◌-◌, ◌*◌, ◌^◌, ◌==◌, min, Bool, true, false, not, cond, ◌&&◌, List, [], ◌∷◌, ◌++◌, ℤ, pos, neg_ℤ, Some, None, refl, sym, ap, subst, ◌∙◌, length, take, drop, get_or, map, arith, w64, to_z, of_z, ◌-ℤ◌}
use Rattle.std.specs.Prelude.{Option, IfSome}
use Rattle.std.specs.Option.{option_map}
use Rattle.std.specs.Char.{is_ascii_digit}
use Rattle.std.specs.Str.{all_ascii_digits}
use Rattle.std.specs.List.{position_or_len}
use Rattle.std.proofs.lemmas.Bool.Decides.{nat_tests}
use Rattle.std.proofs.lemmas.Grind.{common_steps}
use Rattle.std.proofs.lemmas.Int.{ints}
use Rattle.std.proofs.lemmas.List.{take_more}
use Rattle.std.proofs.Math.Nat.{pow-suc, pow-le-pow_right}
use Rattle.net_dimacs.specs.Lines.{is_blank, fields_of, value_after, natural_of, number_of}
use Rattle.net_dimacs.specs.Numbers.{greatest_signed, cut, cut_number, cut_numbers, first_number, BeginsWithDigits}
use Rattle.net_dimacs.proofs.Fronts.{after_blank, first_field}

-- ---- one digit more

value_more : (ds : List ℕ) (d n : ℕ) → value_after n (ds ++ d ∷ []) ≡ value_after n ds * 10 + (d - 48)
value_more [] d n = refl
value_more (x ∷ ds) d n = value_more ds d (n * 10 + (x - 48))

and_assoc : (s t u : Bool) → (s && (t && u)) ≡ ((s && t) && u)
and_assoc true t u = refl
and_assoc false t u = refl

digits_more : (ds : List ℕ) (d : ℕ) → all_ascii_digits (ds ++ d ∷ []) ≡ (all_ascii_digits ds && (is_ascii_digit d && true))
digits_more [] d = refl
digits_more (x ∷ ds) d = ap (λ (t : Bool). is_ascii_digit x && t) (digits_more ds d) ∙ and_assoc (is_ascii_digit x) (all_ascii_digits ds) (is_ascii_digit d && true)

-- this many bytes in front are digits, and this is their number
pub record HasDigits (bytes : List ℕ) (count size : ℕ) : Type 0 where
  pub digits : all_ascii_digits (take count bytes) ≡ true
  pub value : size ≡ value_after 0 (take count bytes)
  pub few : count ≤ 18
  pub small : size < 10 ^ count

pub no_digits : (bytes : List ℕ) → HasDigits bytes 0 0
no_digits bytes = record { digits = refl; value = refl; few = omega arith; small = omega arith }

next_small : (size d count : ℕ) → size < 10 ^ count → d ≤ 57 → size * 10 + (d - 48) < 10 ^ (count + 1)
next_small size d count small high =
    let one : suc count ≡ count + 1 = omega arith in
    let next : 10 ^ (count + 1) ≡ 10 ^ count * 10 = ap (λ (n : ℕ). 10 ^ n) (sym one) ∙ pow-suc 10 count in
    let p = 10 ^ count in
    let less : size < p = small in
    rw next (omega (arith, less))

pub digit_high : (d : ℕ) → is_ascii_digit d ≡ true → (48 ≤ d) × (d ≤ 57)
digit_high d e = (grind (arith, nat_tests), grind (arith, nat_tests))

pub more_digits : (bytes : List ℕ) (count size : ℕ) → count < length bytes → is_ascii_digit (get_or bytes count 0) ≡ true → count ≢ 18 → HasDigits bytes count size → HasDigits bytes (count + 1) (size * 10 + (get_or bytes count 0 - 48))
more_digits bytes count size inside digit room h =
    let d = get_or bytes count 0 in
    let front : take (count + 1) bytes ≡ take count bytes ++ d ∷ [] = take_more bytes count 0 inside in
    record {
      digits = ap all_ascii_digits front ∙ digits_more (take count bytes) d ∙ ap (λ (t : Bool). t && (is_ascii_digit d && true)) h.digits ∙ ap (λ (t : Bool). t && true) digit;
      value = sym (ap (value_after 0) front ∙ value_more (take count bytes) d 0 ∙ ap (λ (n : ℕ). n * 10 + (d - 48)) (sym h.value));
      few = let most = h.few in omega (arith, room);
      small = next_small size d count h.small (digit_high d digit).1;
    }

pub digits_small : (bytes : List ℕ) (count size : ℕ) → HasDigits bytes count size → size < 10 ^ 18
digits_small bytes count size h =
    let most : 10 ^ count ≤ 10 ^ 18 = pow-le-pow_right {n = 10} (omega arith) h.few in
    let less = h.small in
    omega (arith, most, less)

-- ---- the field that the digits are

both : (s t : Bool) → (s && t) ≡ true → (s ≡ true) × (t ≡ true)
both true true e = (refl, refl)
both true false e = absurd cc
both false t e = absurd cc

digit_no_blank : (d : ℕ) → is_ascii_digit d ≡ true → is_blank d ≡ false
digit_no_blank d e = let h = digit_high d e in grind (arith, nat_tests)

front_is : (xs : List ℕ) (k : ℕ) → k ≤ length xs → all_ascii_digits (take k xs) ≡ true → (0 < length (drop k xs) → is_blank (get_or (drop k xs) 0 0) ≡ true) → position_or_len is_blank xs ≡ k
front_is [] zero within digits ends = refl
front_is [] (suc k) within digits ends = absurd (omega arith)
front_is (x ∷ xs) zero within digits ends = ap (λ (t : Bool). cond (not t) (1 + position_or_len is_blank xs) 0) (ends (omega arith))
front_is (x ∷ xs) (suc k) within digits ends =
    let p = both (is_ascii_digit x) (all_ascii_digits (take k xs)) digits in
    let more : position_or_len is_blank xs ≡ k = front_is xs k (omega arith) p.1 ends in
    ap (λ (t : Bool). cond (not t) (1 + position_or_len is_blank xs) 0) (digit_no_blank x p.0) ∙ omega (arith, more)

natural_is : (ds : List ℕ) → 0 < length ds → all_ascii_digits ds ≡ true → natural_of ds ≡ Some (value_after 0 ds)
natural_is [] some all = absurd (omega arith)
natural_is (d ∷ ds) some all = ap (λ (t : Bool). cond t (Some (value_after 0 (d ∷ ds))) None) all

number_by : (plus minus : Bool) (a b c : Option ℤ) → plus ≡ false → minus ≡ false → cond plus a (cond minus b c) ≡ c
number_by true minus a b c e f = absurd cc
number_by false true a b c e f = absurd cc
number_by false false a b c e f = refl

number_is : (ds : List ℕ) → 0 < length ds → all_ascii_digits ds ≡ true → number_of ds ≡ Some (pos (value_after 0 ds))
number_is [] some all = absurd (omega arith)
number_is (d ∷ ds) some all =
    let high = digit_high d (both (is_ascii_digit d) (all_ascii_digits ds) all).0 in
    let plus : (d == 43) ≡ false = grind (arith, nat_tests) in
    let minus : (d == 45) ≡ false = grind (arith, nat_tests) in
    number_by (d == 43) (d == 45) (option_map pos (natural_of ds)) (option_map (λ n. neg_ℤ (pos n)) (natural_of ds)) (option_map pos (natural_of (d ∷ ds))) plus minus
    ∙ ap (option_map pos) (natural_is (d ∷ ds) some all)

front_length : (bytes : List ℕ) (k : ℕ) → k ≤ length bytes → 0 < k → 0 < length (take k bytes)
front_length bytes k within some = grind (arith, common_steps)

-- the field and its number, where one blank stands before it
abbrev IsFront : List ℕ → List ℕ → ℤ → Type 0
IsFront bytes after z = (field : List ℕ) × (fields_of bytes ≡ field ∷ fields_of after) × (number_of field ≡ Some z)

pub unsigned_front : (bytes rest after : List ℕ) (b : ℕ) (z : ℤ) → bytes ≡ b ∷ rest → is_blank b ≡ true → BeginsWithDigits rest after z → IsFront bytes after z
unsigned_front bytes rest after b z split blank h =
    let k = h.count in
    let has : 0 < length rest = let l = h.within in let s = h.some in omega arith in
    let at : k ≡ position_or_len is_blank rest = sym (front_is rest k h.within h.digits (λ l. ap (λ (ys : List ℕ). is_blank (get_or ys 0 0)) (sym h.rest) ∙ h.ends (subst (λ (ys : List ℕ). 0 < length ys) (sym h.rest) l))) in (
      take k rest,
      ap fields_of split ∙ after_blank b rest blank ∙ first_field rest k at h.some has ∙ ap (λ (ys : List ℕ). take k rest ∷ fields_of ys) (sym h.rest),
      number_is (take k rest) (front_length rest k h.within h.some) h.digits ∙ ap Some (sym h.value),
    )

pub negative_front : (bytes rest digits after : List ℕ) (b : ℕ) (z : ℤ) → bytes ≡ b ∷ rest → is_blank b ≡ true → rest ≡ 45 ∷ digits → BeginsWithDigits digits after z → IsFront bytes after (neg_ℤ z)
negative_front bytes rest digits after b z split blank sign h =
    let k = h.count in
    let at : k ≡ position_or_len is_blank digits = sym (front_is digits k h.within h.digits (λ l. ap (λ (ys : List ℕ). is_blank (get_or ys 0 0)) (sym h.rest) ∙ h.ends (subst (λ (ys : List ℕ). 0 < length ys) (sym h.rest) l))) in
    let at' : suc k ≡ position_or_len is_blank (45 ∷ digits) = omega (arith, at) in (
      45 ∷ take k digits,
      ap fields_of split ∙ after_blank b rest blank ∙ ap fields_of sign ∙ first_field (45 ∷ digits) (suc k) at' (omega arith) (omega arith) ∙ ap (λ (ys : List ℕ). (45 ∷ take k digits) ∷ fields_of ys) (sym h.rest),
      ap (option_map (λ n. neg_ℤ (pos n))) (natural_is (take k digits) (front_length digits k h.within h.some) h.digits) ∙ ap (λ (x : ℤ). Some (neg_ℤ x)) (sym h.value),
    )

-- a number of 18 digits is not cut off
cut_small : (n : ℕ) → n < 10 ^ 18 → cut (pos n) ≡ pos n
cut_small n small = ap pos (let e : min n greatest_signed ≡ n = omega arith in e)

cut_small_negative : (n : ℕ) → n < 10 ^ 18 → cut (neg_ℤ (pos n)) ≡ neg_ℤ (pos n)
cut_small_negative zero small = refl
cut_small_negative (suc n) small = ap (λ (m : ℕ). neg_ℤ (pos m)) (let e : min (suc n) greatest_signed ≡ suc n = omega arith in e)

pub front_uncut : (bytes after : List ℕ) (z : ℤ) → BeginsWithDigits bytes after z → cut z ≡ z
front_uncut bytes after z h = subst (λ (x : ℤ). cut x ≡ x) (sym h.value) (cut_small (value_after 0 (take h.count bytes)) h.small)

pub negative_uncut : (bytes after : List ℕ) (z : ℤ) → BeginsWithDigits bytes after z → cut (neg_ℤ z) ≡ neg_ℤ z
negative_uncut bytes after z h = subst (λ (x : ℤ). cut (neg_ℤ x) ≡ neg_ℤ x) (sym h.value) (cut_small_negative (value_after 0 (take h.count bytes)) h.small)

pub split_is : (bytes after field : List ℕ) (z : ℤ) → fields_of bytes ≡ field ∷ fields_of after → number_of field ≡ Some z → cut z ≡ z → first_number (cut_numbers bytes) ≡ Some (z, cut_numbers after)
split_is bytes after field z parts is uncut =
    ap (λ (fs : List (List ℕ)). first_number (map cut_number fs)) parts
    ∙ ap (λ (o : Option ℤ). first_number (option_map cut o ∷ cut_numbers after)) is
    ∙ ap (λ (x : ℤ). Some (x, cut_numbers after)) uncut

-- what the code makes of -z
pub turned : (bytes after : List ℕ) (z : ℤ) → BeginsWithDigits bytes after z → to_z w64 (of_z w64 (pos 0 -ℤ to_z w64 (of_z w64 z))) ≡ neg_ℤ z
turned bytes after z h = let same = h.value in let small = h.small in omega (arith, ints)

-- the same of each value that an option may have
pub if_some : {A : Type 0} (P Q : A → Type 0) (r : Option A) → ((x : A) → P x → Q x) → IfSome r P → IfSome r Q
if_some P Q (Some x) next h = next x h
if_some P Q None next h = tt
