-- The numeral at the beginning of a text, read from left to right as far as possible (AMPL book,
-- section A.1).
use Rattle.std.specs.Prelude.{ℕ, Bool, false, ◌&&◌, ◌==◌, nat_lt, List, [], length, drop, if◌then◌else◌, Option, Some, None, option_and_then}
use Rattle.std.specs.Char.{is_ascii_digit}
use Rattle.net_lex.specs.Bytes.{first, second, digits_at, point, minus, marks_power, after_sign}
use Rattle.net_lex.specs.Numerals.{Parts}

-- the digits before and after the decimal point, and the text after them
pub record Mantissa : Type 0 where
  pub whole : List ℕ
  pub fraction : List ℕ
  pub rest : List ℕ

-- a decimal point is part of the numeral only if a digit follows
abbrev pub starts_fraction : List ℕ → Bool
starts_fraction text = first text == point && is_ascii_digit (second text)

unfoldable pub mantissa_at : List ℕ → Option Mantissa
mantissa_at text =
    let whole = digits_at text in
    let fraction = digits_at (drop 1 whole.1) in
    if starts_fraction whole.1 then Some (record { whole = whole.0; fraction = fraction.0; rest = fraction.1 })
    else if nat_lt 0 (length whole.0) then Some (record { whole = whole.0; fraction = []; rest = whole.1 })
    else None

-- the exponent, whether it is negative, and the text after it
pub record Power : Type 0 where
  pub negative : Bool
  pub power : List ℕ
  pub rest : List ℕ

-- an exponent letter is part of the numeral only if an optional sign and digits follow
unfoldable pub power_at : List ℕ → Power
power_at text =
    let sign = drop 1 text in
    let digits = digits_at (after_sign sign) in
    if marks_power (first text) && is_ascii_digit (first (after_sign sign))
    then record { negative = first sign == minus; power = digits.0; rest = digits.1 }
    else record { negative = false; power = []; rest = text }

-- the parts of the numeral, and the text after it
unfoldable pub numeral_at : List ℕ → Option (Parts × List ℕ)
numeral_at text = option_and_then (λ m. let p = power_at m.rest in
    Some (record { whole = m.whole; fraction = m.fraction; negative = p.negative; power = p.power }, p.rest)) (mantissa_at text)
