-- Which trees are well-formed. A tree has a precedence level, from the tightest: atoms and signed
-- operands, reductions, products, sums, ranges, `cross`, `inter`, `union`, comparisons, `and`,
-- `or`, `if`, net terms. Each position allows trees up to some precedence.
use Rattle.std.specs.Prelude.{◌≡◌, ◌≤◌, ◌<◌, ℕ, suc, Bool, true, false, ◌&&◌, ◌||◌, nat_eq, nat_le, if◌then◌else◌, Option, None, Some}
use Rattle.net_lex.specs.declared.token.Token.{Token}
use Rattle.net_tree.specs.declared.operator.OperatorWords.{OperatorWords as Operator}
use Rattle.net_tree.specs.declared.operator.OperatorWords.TheVariants.{One, Two}
use Rattle.net_tree.specs.declared.role.Role.{Role}
use Rattle.net_tree.specs.declared.role.Role.TheVariants as roles
use Rattle.net_tree.specs.Precedence.{of_operands, of_one, of_comma, of_reduction, of_product, of_sum, of_union, of_relation, of_or, of_if, of_net_term}
use Rattle.net_tree.specs.Tree.{Tree, Links, Part, Braces, leaf, indexed, parens, tuple, negated, braced, signed, reduced, chain, choice, net, none, link, absent, part, empty, filled}
use Rattle.net_tree.specs.Role.{role_of, is_name, is_leaf, is_open, is_close, is_open_brace, is_close_brace, is_open_square, is_close_square, is_colon, is_sign, is_not, is_if, is_then, is_else, is_reduction, is_net, is_membership}

-- the number n of a chain is the maximum precedence of its operands; the chain itself is one higher
abbrev pub precedence : Tree → ℕ
precedence (leaf t) = of_one
precedence (indexed n o x l c) = of_one
precedence (parens o x c) = of_one
precedence (tuple o x l c) = of_one
precedence (negated n o x c) = of_one
precedence (braced b) = of_one
precedence (signed s x) = precedence x
precedence (reduced w b x) = of_reduction
precedence (chain n x l) = suc n
precedence (choice i x t y e) = of_if
precedence (net s w) = of_net_term

-- whether a token of this role can join operands of precedence n after k links: a range has `..`
-- and then `by`, a comparison has one operator; 0 means the commas of a list
abbrev pub joins : ℕ → ℕ → Role → Bool
joins n k roles.Comma = nat_eq n of_comma
joins n k (roles.Joining m) = nat_eq n (of_operands m)
joins n k roles.Sign = nat_eq n of_product
joins n k roles.Range = nat_eq n of_sum && nat_eq k 0
joins n k roles.By = nat_eq n of_sum && nat_eq k 1
joins n k (roles.Relation r) = nat_eq n of_union && nat_eq k 0
joins n k roles.Not = nat_eq n of_union && nat_eq k 0
joins n k _ = false

abbrev pub head_of : Operator → Token
head_of (One t) = t
head_of (Two t u) = t

-- `not` is followed by `in` or `within`
abbrev pub IsOperator : Operator → Type 0
IsOperator (One t) = is_not (role_of t) ≡ false
IsOperator (Two t u) = (is_not (role_of t) ≡ true) × (is_membership (role_of u) ≡ true)

-- the maximum precedence of an operand before these links: a reduction cannot be followed by a
-- product operator
abbrev pub room : ℕ → Links → ℕ
room n none = n
room n (link o x l) = if nat_eq n of_reduction then of_one else n

abbrev pub IsLinked : Links → Type 0
IsLinked none = ⊥
IsLinked (link o x l) = Unit {0}

-- positions that allow a set, a number or an `if`
abbrev pub is_value : ℕ → Bool
is_value r = nat_le r of_union || nat_eq r of_if

abbrev pub IsOptionalSign : Option Token → Type 0
IsOptionalSign None = Unit {0}
IsOptionalSign (Some s) = is_sign (role_of s) ≡ true

abbrev mutual
  -- the tree is well-formed
  pub IsWellFormed : Tree → Type 0
  IsWellFormed (leaf t) = is_leaf (role_of t) ≡ true
  IsWellFormed (indexed n o x l c) =
      (is_name (role_of n) ≡ true) × (is_open_square (role_of o) ≡ true) × IsWellFormed x × (precedence x ≤ of_sum) × AreWellFormed of_comma of_sum 0 l × (is_close_square (role_of c) ≡ true)
  IsWellFormed (parens o x c) = (is_open (role_of o) ≡ true) × IsWellFormed x × (precedence x ≤ of_if) × (is_close (role_of c) ≡ true)
  IsWellFormed (tuple o x l c) =
      (is_open (role_of o) ≡ true) × IsWellFormed x × (precedence x ≤ of_sum) × IsLinked l × AreWellFormed of_comma of_sum 0 l × (is_close (role_of c) ≡ true)
  IsWellFormed (negated n o x c) = (is_not (role_of n) ≡ true) × (is_open (role_of o) ≡ true) × IsWellFormed x × (precedence x ≤ of_or) × (is_close (role_of c) ≡ true)
  IsWellFormed (braced b) = AreBraces b
  IsWellFormed (signed s x) = (is_sign (role_of s) ≡ true) × IsWellFormed x × (precedence x ≤ of_reduction)
  IsWellFormed (reduced w b x) = (is_reduction (role_of w) ≡ true) × AreBraces b × IsWellFormed x × (precedence x ≤ of_product)
  IsWellFormed (chain n x l) = (0 < n) × (n < of_or) × IsWellFormed x × (precedence x ≤ room n l) × IsLinked l × AreWellFormed n n 0 l
  IsWellFormed (choice i x t y e) =
      (is_if (role_of i) ≡ true) × IsWellFormed x × (precedence x ≤ of_or) × (is_then (role_of t) ≡ true) × IsWellFormed y × (precedence y ≤ of_union) × IsElse e
  IsWellFormed (net s w) = IsOptionalSign s × (is_net (role_of w) ≡ true)

  -- links whose tokens join operands of precedence j, with operands of precedence at most n, after
  -- k links
  pub AreWellFormed : ℕ → ℕ → ℕ → Links → Type 0
  AreWellFormed j n k none = Unit {0}
  AreWellFormed j n k (link o x l) = (joins j k (role_of (head_of o)) ≡ true) × IsOperator o × IsWellFormed x × (precedence x ≤ room n l) × AreWellFormed j n (suc k) l

  pub IsElse : Part → Type 0
  IsElse absent = Unit {0}
  IsElse (part m x) = (is_else (role_of m) ≡ true) × IsWellFormed x × (is_value (precedence x) ≡ true)

  pub IsFilter : Part → Type 0
  IsFilter absent = Unit {0}
  IsFilter (part m x) = (is_colon (role_of m) ≡ true) × IsWellFormed x × (precedence x ≤ of_or)

  pub AreBraces : Braces → Type 0
  AreBraces (empty o p c) = (is_open_brace (role_of o) ≡ true) × IsFilter p × (is_close_brace (role_of c) ≡ true)
  AreBraces (filled o x l p c) =
      (is_open_brace (role_of o) ≡ true) × IsWellFormed x × (precedence x ≤ of_relation) × AreWellFormed of_comma of_relation 0 l × IsFilter p × (is_close_brace (role_of c) ≡ true)
