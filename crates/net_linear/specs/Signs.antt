-- The operators of sums.
use Rattle.std.specs.Prelude.{Bool, true, false}
use Rattle.net_tree.specs.declared.operator.BinOp.{BinOp}
use Rattle.net_tree.specs.declared.operator.BinOp.TheVariants.{Plus, Minus}

-- `+` and `-`
abbrev pub is_sign : BinOp → Bool
is_sign Plus = true
is_sign Minus = true
is_sign _ = false
