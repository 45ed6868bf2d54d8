-- The numeral that is read at the front of a text is spelled there, and what is spelled there is read.
use Rattle.std.proofs.Common.{◌≡◌, ℕ, ◌+◌, ◌<◌, ◌≤◌, Bool, true, false, cond, ◌&&◌, ◌||◌, ◌==◌, List, [], ◌∷◌, ◌++◌, length, take, drop, nat_lt, Option, Some, None, refl, sym, ap, ◌∙◌, arith, subst, inl, inr, append_assoc, take_at, drop_at, length-drop, length-take, length-append, take-append-drop, one-add}
use Rattle.std.proofs.lemmas.Bool.{cases_Bool, and_parts, or_parts, lt-ltb, cond_both}
use Rattle.std.proofs.lemmas.Bool.Decides.{nat_tests}
use Rattle.std.specs.List.{prefix_len, list_all}
use Rattle.std.specs.Char.{is_ascii_digit}
use Rattle.net_lex.specs.Bytes.{first, point, minus, marks_power, is_sign, after_sign, digits_at}
use Rattle.net_lex.specs.Numerals.{AllDigits, AreDigits, SpellsMantissa, plain, pointed, IsSign, unsigned, with_plus, with_minus}
use Rattle.net_lex.specs.NumeralFront.{Mantissa, Power, starts_fraction, mantissa_at, power_at, numeral_at}

-- the digits at the front are digits, and a byte that is none follows
pub run_all : (p : ℕ → Bool) (text : List ℕ) → list_all p (take (prefix_len p text) text) ≡ true
run_all p [] = refl
run_all p (c ∷ cs) = elim (cases_Bool (p c)) [
  | inl passes ↦ rw (passes, one-add) (rw passes (run_all p cs))
  | inr fails ↦ rw fails refl
]

pub digits_all : (text : List ℕ) → AllDigits (digits_at text).0
digits_all text = run_all is_ascii_digit text

pub digits_joined : (text : List ℕ) → text ≡ (digits_at text).0 ++ (digits_at text).1
digits_joined text = sym (take-append-drop (prefix_len is_ascii_digit text) text)

-- digits at the front are read with the digits that follow them
pub digits_more : (ds rest : List ℕ) → AllDigits ds → prefix_len is_ascii_digit (ds ++ rest) ≡ length ds + prefix_len is_ascii_digit rest
digits_more [] rest all = omega arith
digits_more (c ∷ cs) rest all =
    let (here, more) = and_parts (is_ascii_digit c) (list_all is_ascii_digit cs) all in
    rw here (omega (arith, digits_more cs rest more))

pub none_at : (p : ℕ → Bool) (text : List ℕ) → p (first text) ≡ false → prefix_len p text ≡ 0
none_at p [] stop = refl
none_at p (c ∷ cs) stop = rw stop refl

-- no numeral begins with a byte that is neither a digit nor a point
pub unread_at : (text : List ℕ) → (is_ascii_digit (first text) || first text == point) ≡ false → numeral_at text ≡ None
unfolding numeral_at mantissa_at
unread_at text stop =
    let (digit, dot) = or_parts (is_ascii_digit (first text)) (first text == point) stop in
    let none : prefix_len is_ascii_digit text ≡ 0 = none_at is_ascii_digit text digit in
    rw (none, dot) refl

pub digits_run : (ds rest : List ℕ) → AllDigits ds → is_ascii_digit (first rest) ≡ false → digits_at (ds ++ rest) ≡ (ds, rest)
digits_run ds rest all stop =
    let none : prefix_len is_ascii_digit rest ≡ 0 = none_at is_ascii_digit rest stop in
    let len : prefix_len is_ascii_digit (ds ++ rest) ≡ length ds = omega (arith, digits_more ds rest all) in
    rw (len, take_at ds rest _ refl, drop_at ds rest _ refl)

-- what follows the digits is no longer than what followed those that were known
pub digits_rest : (ds rest : List ℕ) → AllDigits ds → length (digits_at (ds ++ rest)).1 ≤ length rest
digits_rest ds rest all = omega (arith, length-drop (prefix_len is_ascii_digit (ds ++ rest)) (ds ++ rest), digits_more ds rest all, length-append ds rest)

-- a run that is not empty begins as it does where more follows
pub first_append : (xs ys : List ℕ) → 0 < length xs → first (xs ++ ys) ≡ first xs
first_append [] ys some = absurd (omega arith)
first_append (x ∷ xs) ys some = refl

pub first_digit : (ds rest : List ℕ) → AreDigits ds → is_ascii_digit (first (ds ++ rest)) ≡ true
first_digit [] rest d = absurd (omega (arith, d.some))
first_digit (c ∷ cs) rest d = (and_parts (is_ascii_digit c) (list_all is_ascii_digit cs) d.all).0

digit_no_sign : (c : ℕ) → is_ascii_digit c ≡ true → is_sign c ≡ false
digit_no_sign c digit = grind (arith, nat_tests)

digit_no_minus : (c : ℕ) → is_ascii_digit c ≡ true → (c == minus) ≡ false
digit_no_minus c digit = grind (arith, nat_tests)

-- the sign is skipped, and the digits after it are not
pub after_sign_digits : (sign ds rest : List ℕ) (negative : Bool) → IsSign sign negative → AreDigits ds
    → (after_sign (sign ++ (ds ++ rest)) ≡ ds ++ rest) × ((first (sign ++ (ds ++ rest)) == minus) ≡ negative)
after_sign_digits sign ds rest negative (unsigned e n) d =
    let digit = first_digit ds rest d in
    rw (e, n) (rw (digit_no_sign _ digit) refl, digit_no_minus _ digit)
after_sign_digits sign ds rest negative (with_plus e n) d = rw (e, n) (refl, refl)
after_sign_digits sign ds rest negative (with_minus e n) d = rw (e, n) (refl, refl)

-- the power that is spelled at the front is read, with the digits that follow it
pub power_marked : (letter : ℕ) (sign ds rest : List ℕ) (negative : Bool) → marks_power letter ≡ true → IsSign sign negative → AreDigits ds
    → power_at (letter ∷ (sign ++ (ds ++ rest))) ≡ record { negative = negative; power = (digits_at (ds ++ rest)).0; rest = (digits_at (ds ++ rest)).1 }
unfolding power_at
power_marked letter sign ds rest negative mark s d =
    let (skipped, minus_is) = after_sign_digits sign ds rest negative s d in
    rw (mark, skipped, minus_is, first_digit ds rest d) refl

pub power_absent : (rest : List ℕ) → marks_power (first rest) ≡ false → power_at rest ≡ record { negative = false; power = []; rest = rest }
unfolding power_at
power_absent rest stop = rw stop refl

digits_leave : (text : List ℕ) → length (digits_at text).1 ≤ length text
digits_leave text = omega (arith, length-drop (prefix_len is_ascii_digit text) text)

after_sign_leaves : (text : List ℕ) → length (after_sign text) ≤ length text
after_sign_leaves text = cond_both (is_sign (first text)) (drop 1 text) text (λ (t : List ℕ). length t ≤ length text) (λ h. omega (arith, length-drop 1 text)) (λ h. omega arith)

-- what follows a power is no longer than the text
pub power_rest : (text : List ℕ) → length (power_at text).rest ≤ length text
unfolding power_at
power_rest text =
    let found = digits_at (after_sign (drop 1 text)) in
    cond_both (marks_power (first text) && is_ascii_digit (first (after_sign (drop 1 text))))
    (record { negative = first (drop 1 text) == minus; power = found.0; rest = found.1 })
    (record { negative = false; power = []; rest = text })
    (λ (p : Power). length p.rest ≤ length text)
    (λ h. omega (arith, digits_leave (after_sign (drop 1 text)), after_sign_leaves (drop 1 text), length-drop 1 text))
    (λ h. omega arith)

-- the mantissa, once the digits before the point are known, and those after it
abbrev pub with_fraction : List ℕ → List ℕ × List ℕ → Option Mantissa
with_fraction whole fraction = Some (record { whole = whole; fraction = fraction.0; rest = fraction.1 })

abbrev pub mantissa_from : List ℕ × List ℕ → Option Mantissa
mantissa_from whole =
    cond (starts_fraction whole.1) (with_fraction whole.0 (digits_at (drop 1 whole.1)))
    (cond (nat_lt 0 (length whole.0)) (Some (record { whole = whole.0; fraction = []; rest = whole.1 })) None)

pub mantissa_is : (text : List ℕ) → mantissa_at text ≡ mantissa_from (digits_at text)
unfolding mantissa_at
mantissa_is text = refl

-- digits, and no point: a mantissa
mantissa_plain : (whole rest : List ℕ) → 0 < length whole → starts_fraction rest ≡ false
    → mantissa_from (whole, rest) ≡ Some (record { whole = whole; fraction = []; rest = rest })
mantissa_plain whole rest some stop = rw (stop, lt-ltb 0 (length whole) some) refl

mantissa_pointed : (whole fraction rest : List ℕ) → AreDigits fraction
    → mantissa_from (whole, point ∷ (fraction ++ rest)) ≡ with_fraction whole (digits_at (fraction ++ rest))
mantissa_pointed whole fraction rest f = rw (first_digit fraction rest f) refl

no_fraction : (rest : List ℕ) → (first rest == point) ≡ false → starts_fraction rest ≡ false
no_fraction rest no_point = rw no_point refl

mantissa_after_point : (front whole fraction rest : List ℕ) → AllDigits whole → AreDigits fraction → front ≡ whole ++ point ∷ fraction
    → mantissa_at (front ++ rest) ≡ with_fraction whole (digits_at (fraction ++ rest))
mantissa_after_point front whole fraction rest w f e =
    let split : front ++ rest ≡ whole ++ (point ∷ (fraction ++ rest)) = ap (λ t. t ++ rest) e ∙ append_assoc whole (point ∷ fraction) rest in
    rw split (mantissa_is (whole ++ (point ∷ (fraction ++ rest)))
    ∙ (ap mantissa_from (digits_run whole (point ∷ (fraction ++ rest)) w refl) ∙ mantissa_pointed whole fraction rest f))

-- the mantissa that is spelled at the front is read, where neither a digit nor a point follows
pub mantissa_read : (front whole fraction rest : List ℕ) → SpellsMantissa front whole fraction → is_ascii_digit (first rest) ≡ false → (first rest == point) ≡ false
    → mantissa_at (front ++ rest) ≡ Some (record { whole = whole; fraction = fraction; rest = rest })
mantissa_read front whole fraction rest (plain d e none) no_digit no_point =
    rw (e, none) (mantissa_is (whole ++ rest) ∙ (ap mantissa_from (digits_run whole rest d.all no_digit) ∙ mantissa_plain whole rest d.some (no_fraction rest no_point)))
mantissa_read front whole fraction rest (pointed w f e) no_digit no_point =
    mantissa_after_point front whole fraction rest w f e ∙ ap (with_fraction whole) (digits_run fraction rest f.all no_digit)

-- whatever follows a mantissa, at least as much is read
abbrev pub LeavesAtMost : ℕ → Option Mantissa → Type 0
LeavesAtMost n None = ⊥
LeavesAtMost n (Some m) = length m.rest ≤ n

pointed_rest : (text : List ℕ) → starts_fraction text ≡ true → length (digits_at (drop 1 text)).1 ≤ length text
pointed_rest text h = omega (arith, length-drop (prefix_len is_ascii_digit (drop 1 text)) (drop 1 text), length-drop 1 text)

from_leaves : (whole rest : List ℕ) (n : ℕ) → 0 < length whole → length rest ≤ n → LeavesAtMost n (mantissa_from (whole, rest))
from_leaves whole rest n some small = elim (cases_Bool (starts_fraction rest)) [
  | inl starts ↦ rw starts (omega (arith, pointed_rest rest starts))
  | inr stops ↦ rw (stops, lt-ltb 0 (length whole) some) small
]

pub mantissa_leaves : (front whole fraction rest : List ℕ) → SpellsMantissa front whole fraction → LeavesAtMost (length rest) (mantissa_at (front ++ rest))
mantissa_leaves front whole fraction rest (plain d e none) =
    let more = digits_more whole rest d.all in
    let some : 0 < length (digits_at (whole ++ rest)).0 =
    omega (arith, length-take (prefix_len is_ascii_digit (whole ++ rest)) (whole ++ rest), length-append whole rest, d.some) in
    rw e (subst (LeavesAtMost (length rest)) (sym (mantissa_is (whole ++ rest)))
    (from_leaves (digits_at (whole ++ rest)).0 (digits_at (whole ++ rest)).1 (length rest) some (digits_rest whole rest d.all)))
mantissa_leaves front whole fraction rest (pointed w f e) =
    subst (LeavesAtMost (length rest)) (sym (mantissa_after_point front whole fraction rest w f e)) (digits_rest fraction rest f.all)
