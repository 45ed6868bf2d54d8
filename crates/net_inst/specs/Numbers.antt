-- Numbers in declarations: bounds and coefficients of arcs.
use Rattle.std.specs.Prelude.{if◌then◌else◌, Ok, ℤ}
use Rattle.net_base.specs.declared.diagnostic.Span.{Span}
use Rattle.net_sets.specs.declared.member.Member.{Member}
use Rattle.net_sets.specs.declared.member.Member.TheVariants.{Number, Name}
use Rattle.net_tree.specs.Spans.{span_of}
use Rattle.net_tree.specs.Tree.{Tree}
use Rattle.net_base.specs.declared.error_code.ErrorCode.TheVariants.{KindMismatch, ValueTooLarge}
use Rattle.net_expr.specs.Limits.{is_small}
use Rattle.net_expr.specs.Operators.{member}
use Rattle.net_expr.specs.Values.{value}
use Rattle.net_expr.specs.Worlds.{World, Scope}
use Rattle.net_base.specs.Outcomes.{Outcome, and_then, rejected}

abbrev pub number_in : Span → Member → Outcome ℤ
number_in at (Number n) = if is_small n then Ok n else rejected ValueTooLarge at
number_in at (Name t) = rejected KindMismatch at

-- the value of an expression as a number
abbrev pub number : World → Scope → Tree → Outcome ℤ
number w s t = and_then (and_then (value w s t) (member (span_of t))) (number_in (span_of t))
