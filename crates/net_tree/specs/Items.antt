-- The form of items in braces, and simple names.
use Rattle.std.specs.Prelude.{Bool, true, false, Option, None, Some, if◌then◌else◌}
use Rattle.net_lex.specs.declared.token.Token.{Token}
use Rattle.net_tree.specs.declared.operator.BinOp.{BinOp}
use Rattle.net_tree.specs.declared.operator.BinOp.TheVariants as op
use Rattle.net_tree.specs.Operations.{operation}
use Rattle.net_tree.specs.Role.{role_of, is_name}
use Rattle.net_tree.specs.Tree.{Tree, Links, leaf, chain, none, link}

-- `in`, but not `not in`
abbrev pub is_in : BinOp → Bool
is_in op.In = true
is_in _ = false

-- the right operand of a single `in`
abbrev pub after_in : Links → Option Tree
after_in (link o y none) = if is_in (operation o) then Some y else None
after_in _ = None

abbrev pub both : Tree → Option Tree → Option (Tree × Tree)
both x None = None
both x (Some y) = Some (x, y)

-- the two sides of an item whose top operator is `in`
abbrev pub sides : Tree → Option (Tree × Tree)
sides (chain n x l) = both x (after_in l)
sides _ = None

-- the token of a simple name
abbrev pub single_name : Tree → Option Token
single_name (leaf t) = if is_name (role_of t) then Some t else None
single_name _ = None
