-- Numerals of AMPL (AMPL book, section A.1): digits with an optional decimal point and digits, or a
-- point and digits; then optionally an exponent: e, E, d or D, an optional sign and digits. Neither
-- the length nor the number of digits is limited here.
use Rattle.std.specs.Prelude.{◌≡◌, ℕ, ◌+◌, ◌-◌, ◌*◌, ◌^◌, ◌<◌, ◌≤◌, Bool, true, false, List, [], ◌∷◌, ◌++◌, length, fold, if◌then◌else◌, Result, Ok, Err, ℤ, pos, neg_ℤ}
use Rattle.std.specs.List.{list_all}
use Rattle.std.specs.Char.{is_ascii_digit}
use Rattle.net_lex.specs.Bytes.{point, plus, minus, marks_power}
use Rattle.net_lex.specs.declared.whole.NumFault.{NumFault}
use Rattle.net_lex.specs.declared.whole.NumFault.TheVariants.{NotNumeral, NotWhole, TooLarge}

-- the parts of a numeral: the digits before the point, the digits after it, and the exponent with
-- its sign
pub record Parts : Type 0 where
  pub whole : List ℕ
  pub fraction : List ℕ
  pub negative : Bool
  pub power : List ℕ

abbrev pub AllDigits : List ℕ → Type 0
AllDigits text = list_all is_ascii_digit text ≡ true

-- one or more digits
pub record AreDigits (text : List ℕ) : Type 0 where
  pub some : 0 < length text
  pub all : AllDigits text

-- digits; or zero or more digits, a point and digits
pub data SpellsMantissa (text whole fraction : List ℕ) : Type 0 where
  plain : AreDigits whole → text ≡ whole → fraction ≡ [] → SpellsMantissa text whole fraction
  pointed : AllDigits whole → AreDigits fraction → text ≡ whole ++ point ∷ fraction → SpellsMantissa text whole fraction

-- an optional sign
pub data IsSign (text : List ℕ) (negative : Bool) : Type 0 where
  unsigned : text ≡ [] → negative ≡ false → IsSign text negative
  with_plus : text ≡ plus ∷ [] → negative ≡ false → IsSign text negative
  with_minus : text ≡ minus ∷ [] → negative ≡ true → IsSign text negative

-- empty; or an exponent letter, an optional sign and digits
pub data SpellsPower (text : List ℕ) (negative : Bool) (power : List ℕ) : Type 0 where
  absent : text ≡ [] → negative ≡ false → power ≡ [] → SpellsPower text negative power
  marked : (letter : ℕ) (sign : List ℕ) → marks_power letter ≡ true → IsSign sign negative → AreDigits power
      → text ≡ letter ∷ (sign ++ power) → SpellsPower text negative power

-- the text is an unsigned numeral with these parts
pub record SpellsNumeral (text : List ℕ) (parts : Parts) : Type 0 where
  pub front : List ℕ
  pub back : List ℕ
  pub joined : text ≡ front ++ back
  pub mantissa : SpellsMantissa front parts.whole parts.fraction
  pub power : SpellsPower back parts.negative parts.power

-- the text is a numeral with an optional sign
pub record SpellsSigned (text : List ℕ) (negative : Bool) (parts : Parts) : Type 0 where
  pub sign : List ℕ
  pub body : List ℕ
  pub joined : text ≡ sign ++ body
  pub signed : IsSign sign negative
  pub numeral : SpellsNumeral body parts

-- the number written by decimal digits
abbrev pub digits_value : List ℕ → ℕ
digits_value digits = fold (λ n c. 10 * n + (c - 48)) 0 digits

-- the number written by all digits without the decimal point
abbrev pub mantissa : Parts → ℕ
mantissa p = digits_value (p.whole ++ p.fraction)

-- the value is mantissa * 10 ^ (up - down): the written exponent, minus one for each digit after
-- the point
abbrev pub up : Parts → ℕ
up p = if p.negative then 0 else digits_value p.power

abbrev pub down : Parts → ℕ
down p = if p.negative then length p.fraction + digits_value p.power else length p.fraction

-- n is mantissa * 10 ^ (up - down); there is no such n if that is not an integer
pub record IsWhole (mantissa up down n : ℕ) : Type 0 where
  pub raised : down ≤ up → n ≡ mantissa * 10 ^ (up - down)
  pub lowered : up < down → n * 10 ^ (down - up) ≡ mantissa

abbrev pub HasWhole : Parts → ℕ → Type 0
HasWhole p n = IsWhole (mantissa p) (up p) (down p) n

-- the result for an integer value up to the limit, or the reason why there is none
abbrev pub IsSized : (limit mantissa up down : ℕ) → Result ℕ NumFault → Type 0
IsSized limit m up down (Ok n) = IsWhole m up down n × (n ≤ limit)
IsSized limit m up down (Err NotNumeral) = ⊥
IsSized limit m up down (Err NotWhole) = (n : ℕ) → ¬ IsWhole m up down n
IsSized limit m up down (Err TooLarge) = (n : ℕ) × IsWhole m up down n × (limit < n)

abbrev pub signed : Bool → ℕ → ℤ
signed negative n = if negative then neg_ℤ (pos n) else pos n

-- the text is a numeral with the integer value v, whose absolute value is at most the limit
pub record IsValue (limit : ℕ) (text : List ℕ) (v : ℤ) : Type 0 where
  pub negative : Bool
  pub parts : Parts
  pub size : ℕ
  pub spelled : SpellsSigned text negative parts
  pub whole : HasWhole parts size
  pub within : size ≤ limit
  pub is : v ≡ signed negative size

-- why a text has no such value
abbrev pub IsNumFault : ℕ → List ℕ → NumFault → Type 0
IsNumFault limit text NotNumeral = (negative : Bool) (p : Parts) → ¬ SpellsSigned text negative p
IsNumFault limit text NotWhole = (negative : Bool) × (p : Parts) × SpellsSigned text negative p × ((n : ℕ) → ¬ HasWhole p n)
IsNumFault limit text TooLarge = (negative : Bool) × (p : Parts) × (n : ℕ) × SpellsSigned text negative p × HasWhole p n × (limit < n)
