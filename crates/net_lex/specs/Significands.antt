-- A number as its significant digits and its trailing zeros (used for the numerals of the AMPL
-- book, section A.1).
use Rattle.std.specs.Prelude.{ℕ, ◌+◌, ◌-◌, ◌*◌, ◌^◌, ◌==◌, nat_lt, List, fold, if◌then◌else◌, Result, Ok, Err}
use Rattle.net_lex.specs.declared.whole.NumFault.{NumFault}
use Rattle.net_lex.specs.declared.whole.NumFault.TheVariants.{NotWhole, TooLarge}

-- the number is digits * 10 ^ zeros
pub record Significand : Type 0 where
  pub digits : ℕ
  pub zeros : ℕ

abbrev pub with_digit : Significand → ℕ → Significand
with_digit g c =
    if c == 48 then record { digits = g.digits; zeros = g.zeros + 1 }
    else record { digits = g.digits * 10 ^ (g.zeros + 1) + (c - 48); zeros = 0 }

abbrev pub with_digits : Significand → List ℕ → Significand
with_digits g text = fold with_digit g text

-- the integer value of digits * 10 ^ (up - down), up to the limit; the last digit is not 0
unfoldable pub whole_value : (limit digits up down : ℕ) → Result ℕ NumFault
whole_value limit digits up down =
    if digits == 0 then Ok 0
    else if nat_lt up down then Err NotWhole
    else if nat_lt limit (digits * 10 ^ (up - down)) then Err TooLarge
    else Ok (digits * 10 ^ (up - down))
