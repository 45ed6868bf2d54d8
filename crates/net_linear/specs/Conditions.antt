-- Conditions of nodes: when a net inflow satisfies one, and the range that it is equivalent to.
use Rattle.std.specs.Prelude.{◌≡◌, Bool, true, false, ◌&&◌, ◌||◌, Option, None, Some, is_some, IsTrue, if◌then◌else◌, Result, Ok, Err, ⊤, ℤ, pos, ◌+ℤ◌, ◌-ℤ◌, ◌≤ℤ◌, int_lt}
use Rattle.std.specs.Option.{ForSome}
use Rattle.net_base.specs.declared.diagnostic.Span.{Span}
use Rattle.net_lex.specs.declared.token.Token.{Token}
use Rattle.net_normal.specs.declared.instance.NodeRange.{NodeRange}
use Rattle.net_normal.specs.Limits.{IsSized, range_limit}
use Rattle.net_tree.specs.declared.role.Relation.TheVariants as relations
use Rattle.net_tree.specs.declared.role.Role.{Role}
use Rattle.net_tree.specs.declared.role.Role.TheVariants as roles
use Rattle.net_tree.specs.Role.{role_of}
pub use Rattle.net_tree.specs.Spans.{from_to}
use Rattle.net_tree.specs.Tree.{Tree, Links, net, chain, none, link, Condition, unsaid, one, between}
use Rattle.net_base.specs.declared.error_code.ErrorCode.TheVariants.{KindMismatch, ValueTooLarge}
use Rattle.net_expr.specs.Limits.{is_small}
use Rattle.net_expr.specs.Numbers.{turned}
use Rattle.net_tree.specs.Operations.{operation, has_minus, is_outflow}
use Rattle.net_expr.specs.Worlds.{World, Scope}
use Rattle.net_linear.specs.declared.condition.Comparison.{Comparison}
use Rattle.net_linear.specs.declared.condition.Comparison.TheVariants.{Equal, AtMost, AtLeast}
use Rattle.net_linear.specs.declared.condition.Sides.{Sides}
use Rattle.net_base.specs.declared.diagnostic.Fault.{Fault}
use Rattle.net_base.specs.declared.diagnostic.Fault.TheVariants.{OutOfMemory, At}
use Rattle.net_tree.specs.declared.operator.BinOp.{BinOp}
use Rattle.net_tree.specs.declared.operator.BinOp.TheVariants.{Plus, Minus}
use Rattle.net_linear.specs.declared.net_term.NetTerm.{NetTerm}
use Rattle.net_linear.specs.declared.net_term.NetTerm.TheVariants.{Absent, Inflow, Outflow}
use Rattle.net_linear.specs.NetTerms.{are_terms, net_side}
use Rattle.net_base.specs.Outcomes.{Outcome, and_then, rejected}
use Rattle.net_linear.specs.Amounts.{number_or_none}

-- the relations `=`, `==`, `<=` and `>=`
abbrev pub comparison_in : Role → Option Comparison
comparison_in (roles.Relation relations.Equal) = Some Equal
comparison_in (roles.Relation relations.AtMost) = Some AtMost
comparison_in (roles.Relation relations.AtLeast) = Some AtLeast
comparison_in _ = None

-- a number; 0 if there is none
abbrev pub number_of : Outcome (Option ℤ) → ℤ
number_of (Ok (Some n)) = n
number_of _ = pos 0

-- the value of a term if the net inflow is y
abbrev pub term_at : World → Scope → Tree → ℤ → ℤ
term_at w s (net sign word) y = turned (has_minus sign) (turned (is_outflow word) y)
term_at w s x y = number_of (number_or_none w s x)

abbrev pub with_term : BinOp → ℤ → ℤ → ℤ
with_term Plus a b = a +ℤ b
with_term Minus a b = a -ℤ b
with_term _ a b = a

-- the sum of a number and further terms, each with `+` or `-`
abbrev pub terms_at : World → Scope → Links → ℤ → ℤ → ℤ
terms_at w s none a y = a
terms_at w s (link o x l) a y = terms_at w s l (with_term (operation o) a (term_at w s x y)) y

-- the value of a side as written if the net inflow is y; sizes are not checked
abbrev pub side_at : World → Scope → Tree → ℤ → ℤ
side_at w s (chain n x l) y = if are_terms l then terms_at w s l (term_at w s x y) y else number_of (number_or_none w s (chain n x l))
side_at w s x y = term_at w s x y

abbrev pub Compares : Option Comparison → ℤ → ℤ → Type 0
Compares (Some Equal) a b = a ≡ b
Compares (Some AtMost) a b = a ≤ℤ b
Compares (Some AtLeast) a b = b ≤ℤ a
Compares None a b = ⊥

-- the condition as written is true if the net inflow is y; without a condition, y is 0
abbrev pub Holds : World → Scope → Condition → ℤ → Type 0
Holds w s unsaid y = y ≡ pos 0
Holds w s (one m x o z) y = Compares (comparison_in (role_of o)) (side_at w s x y) (side_at w s z y)
Holds w s (between m x o z p u) y =
    Compares (comparison_in (role_of o)) (side_at w s x y) (side_at w s z y) × Compares (comparison_in (role_of p)) (side_at w s z y) (side_at w s u y)

-- the net inflows that satisfy a comparison with a number
abbrev pub compared_with : Comparison → ℤ → Sides
compared_with Equal n = record { low = Some n; high = Some n }
compared_with AtMost n = record { low = None; high = Some n }
compared_with AtLeast n = record { low = Some n; high = None }

abbrev pub flipped : Comparison → Comparison
flipped Equal = Equal
flipped AtMost = AtLeast
flipped AtLeast = AtMost

-- the net inflows y for which a + y, or a - y, satisfies the comparison with the other side
abbrev pub solved : Span → Option Comparison → NetTerm → NetTerm → ℤ → ℤ → Outcome Sides
solved at (Some c) Inflow Absent a b = Ok (compared_with c (b -ℤ a))
solved at (Some c) Absent Outflow a b = Ok (compared_with c (b -ℤ a))
solved at (Some c) Outflow Absent a b = Ok (compared_with (flipped c) (a -ℤ b))
solved at (Some c) Absent Inflow a b = Ok (compared_with (flipped c) (a -ℤ b))
solved at _ _ _ a b = rejected KindMismatch at

-- two sides with a comparison
abbrev pub solved_sides : Span → Option Comparison → NetTerm → NetTerm → Option ℤ → Option ℤ → Outcome Sides
solved_sides at c m n (Some a) (Some b) = if is_small a && is_small b then solved at c m n a b else rejected ValueTooLarge at
solved_sides at c m n _ _ = rejected KindMismatch at

-- the intersection of two ranges, of which one has the low side and the other the high one
abbrev pub met_ends : Span → Option ℤ → Option ℤ → Option ℤ → Option ℤ → Outcome Sides
met_ends at None (Some h) (Some l) None = Ok (record { low = Some l; high = Some h })
met_ends at (Some l) None None (Some h) = Ok (record { low = Some l; high = Some h })
met_ends at _ _ _ _ = rejected KindMismatch at

abbrev pub met : Span → Sides → Sides → Outcome Sides
met at r q = met_ends at r.low r.high q.low q.high

-- the range of a condition with two sides; all parts are evaluated first with net inflow 0, and a
-- part that is not a number is an error of the whole condition
abbrev pub one_in : World → Scope → Tree → Token → Tree → Outcome Sides
one_in w s x o z =
    and_then (number_or_none w s x) (λ a. and_then (number_or_none w s z) (λ b.
    solved_sides (from_to x z) (comparison_in (role_of o)) (net_side x) (net_side z) a b))

-- the range of a condition with three sides
abbrev pub between_in : World → Scope → Tree → Token → Tree → Token → Tree → Outcome Sides
between_in w s x o z p u =
    and_then (number_or_none w s x) (λ a. and_then (number_or_none w s z) (λ b. and_then (number_or_none w s u) (λ e.
    and_then (solved_sides (from_to x u) (comparison_in (role_of o)) (net_side x) (net_side z) a b) (λ first.
    and_then (solved_sides (from_to x u) (comparison_in (role_of p)) (net_side z) (net_side u) b e) (met (from_to x u) first)))))

abbrev pub sides_in : World → Scope → Condition → Outcome Sides
sides_in w s unsaid = Ok (compared_with Equal (pos 0))
sides_in w s (one m x o z) = one_in w s x o z
sides_in w s (between m x o z p u) = between_in w s x o z p u

abbrev pub are_crossed : Option ℤ → Option ℤ → Bool
are_crossed (Some l) (Some h) = int_lt h l
are_crossed _ _ = false

-- crossed sides: no number is in the range
abbrev pub uncrossed : Sides → Option Sides
uncrossed r = if are_crossed r.low r.high then None else Some r

-- the range of a node's condition; None if no net inflow satisfies it
abbrev pub range_in : World → Scope → Condition → Outcome (Option Sides)
range_in w s c = and_then (sides_in w s c) (λ r. Ok (uncrossed r))

-- a range has a low or a high side, and both are within the limits of a network
pub record AreSides (r : Sides) : Type 0 where
  pub given : IsTrue (is_some r.low || is_some r.high)
  pub low_fits : ForSome r.low (IsSized range_limit)
  pub high_fits : ForSome r.high (IsSized range_limit)

-- the range has these sides, or there is none
abbrev pub HasSides : Option Sides → Option NodeRange → Type 0
HasSides wanted None = wanted ≡ None
HasSides wanted (Some r) = wanted ≡ Some (record { low = r.low; high = r.high })

-- the code returns the range that the definition gives, unless memory runs out
abbrev pub AnswersRange : Outcome (Option Sides) → Result (Option NodeRange) Fault → Type 0
AnswersRange wanted (Ok None) = wanted ≡ Ok None
AnswersRange wanted (Ok (Some r)) = wanted ≡ Ok (Some (record { low = r.low; high = r.high }))
AnswersRange wanted (Err OutOfMemory) = ⊤
AnswersRange wanted (Err (At r)) = wanted ≡ Err r
