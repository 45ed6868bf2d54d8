-- The meaning of a line of a certificate file.
use Rattle.std.specs.Prelude.{ℕ, ◌-◌, ◌^◌, ◌&&◌, Bool, if◌then◌else◌, List, [], ◌∷◌, codes, map, ℤ, pos, neg_ℤ, unsigned_abs, int_lt, int_le, Option, Some, None}
use Rattle.net_check.specs.declared.certificate.Side.TheVariants.{Over, Under}
use Rattle.net_dimacs.specs.Lines.{fields_of, number_of, is_text, begins_with}
use Rattle.net_dimacs.specs.declared.integer.Integer.{Integer}
use Rattle.net_dimacs.specs.declared.integer.Integer.TheVariants as integers
use Rattle.net_dimacs.specs.declared.integer.Numbers.{Numbers}
use Rattle.net_dimacs.specs.declared.integer.Numbers.TheVariants.{Zero, One, Two, Three, Other}
use Rattle.net_dimacs.specs.declared.claim.Claim.{Claim}
use Rattle.net_dimacs.specs.declared.claim.Claim.TheVariants as claims
use Rattle.net_dimacs.specs.declared.claim.Mark.{Mark}
use Rattle.net_dimacs.specs.declared.claim.Mark.TheVariants as marks

-- ---- numbers and their types

-- z is in the range of the signed type with minimum -limit
abbrev pub is_within : ℕ → ℤ → Bool
is_within limit z = int_le (neg_ℤ (pos limit)) z && int_lt z (pos limit)

abbrev pub integer_of : ℤ → Integer
integer_of z = if is_within (2 ^ 127) z then integers.Of z else integers.TooLarge

-- a number of 128 bits
abbrev pub value_of : Integer → Option ℤ
value_of (integers.Of z) = Some z
value_of integers.TooLarge = None

-- a number of 64 bits
abbrev pub amount_of : Integer → Option ℤ
amount_of (integers.Of z) = if is_within (2 ^ 63) z then Some z else None
amount_of integers.TooLarge = None

-- the index of a node, counted from 0; the file numbers nodes from 1
abbrev pub place_of : Integer → Option ℕ
place_of (integers.Of z) = if int_le (pos 1) z && int_le z (pos (2 ^ 32)) then Some (unsigned_abs z - 1) else None
place_of integers.TooLarge = None

-- zero to three numbers, and nothing else
abbrev pub numbers_in : List (Option ℤ) → Numbers
numbers_in [] = Zero
numbers_in (Some a ∷ []) = One (integer_of a)
numbers_in (Some a ∷ Some b ∷ []) = Two (integer_of a) (integer_of b)
numbers_in (Some a ∷ Some b ∷ Some c ∷ []) = Three (integer_of a) (integer_of b) (integer_of c)
numbers_in fields = Other

-- ---- the five kinds of lines

-- `s VALUE`
abbrev pub value_claim : Numbers → Claim
value_claim (One value) = claims.Value (value_of value)
value_claim numbers = claims.Other

-- `f SRC DST FLOW`
abbrev pub flow_claim : Numbers → Claim
flow_claim (Three src dst flow) = claims.Flow (place_of src) (place_of dst) (amount_of flow)
flow_claim numbers = claims.Other

-- `v ID POTENTIAL`
abbrev pub potential_claim : Numbers → Claim
potential_claim (Two node potential) = claims.Potential (place_of node) (amount_of potential)
potential_claim numbers = claims.Other

-- `m ID`
abbrev pub member_claim : Numbers → Claim
member_claim (One node) = claims.Member (place_of node)
member_claim numbers = claims.Other

-- `x over` or `x under`
abbrev pub side_claim : List (List ℕ) → Claim
side_claim (word ∷ []) = if is_text (codes "over") word then claims.Side Over else if is_text (codes "under") word then claims.Side Under else claims.Other
side_claim words = claims.Other

-- the kind of line that a first field indicates
abbrev pub mark_of : List ℕ → Mark
mark_of field =
    if begins_with 99 field then marks.Comment
    else if is_text (codes "s") field then marks.Value
    else if is_text (codes "f") field then marks.Flow
    else if is_text (codes "v") field then marks.Potential
    else if is_text (codes "x") field then marks.Side
    else if is_text (codes "m") field then marks.Member
    else marks.Other

-- the meaning of the fields after the first
abbrev pub claim_by : Mark → List (List ℕ) → Option Claim
claim_by marks.Comment fields = None
claim_by marks.Value fields = Some (value_claim (numbers_in (map number_of fields)))
claim_by marks.Flow fields = Some (flow_claim (numbers_in (map number_of fields)))
claim_by marks.Potential fields = Some (potential_claim (numbers_in (map number_of fields)))
claim_by marks.Side fields = Some (side_claim fields)
claim_by marks.Member fields = Some (member_claim (numbers_in (map number_of fields)))
claim_by marks.Other fields = Some claims.Other

-- blank lines and comments have no meaning
abbrev pub claimed_by : List (List ℕ) → Option Claim
claimed_by [] = None
claimed_by (field ∷ fields) = claim_by (mark_of field) fields

abbrev pub claimed : List ℕ → Option Claim
claimed line = claimed_by (fields_of line)
