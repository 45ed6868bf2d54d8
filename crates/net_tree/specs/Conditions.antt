-- Which conditions of nodes are well-formed: sums and comparisons in which exactly one sum has one
-- net term.
use Rattle.std.specs.Prelude.{◌≡◌, ◌≤◌, ◌⊎◌, ℕ, ◌+◌, Bool, true, false, None}
use Rattle.net_tree.specs.declared.operator.OperatorWords.TheVariants.{One, Two}
use Rattle.net_tree.specs.declared.role.Relation.TheVariants as relations
use Rattle.net_tree.specs.declared.role.Role.{Role}
use Rattle.net_tree.specs.declared.role.Role.TheVariants as roles
use Rattle.net_tree.specs.Precedence.{of_product, of_sum}
use Rattle.net_tree.specs.Tree.{Tree, Links, chain, net, none, link, Condition, unsaid, one, between}
use Rattle.net_tree.specs.Role.{role_of, is_sign, is_net, is_colon, is_bound}
use Rattle.net_tree.specs.WellFormed.{precedence, IsWellFormed, IsLinked}

-- a sum without a net term
abbrev pub IsSum : Tree → Type 0
IsSum x = IsWellFormed x × (precedence x ≤ of_sum)

-- a term is a product or a net term; the first term can also be a signed net term
abbrev pub IsFirstTerm : Tree → Type 0
IsFirstTerm (net s w) = IsWellFormed (net s w)
IsFirstTerm x = IsWellFormed x × (precedence x ≤ of_product)

abbrev pub IsFurtherTerm : Tree → Type 0
IsFurtherTerm (net s w) = (s ≡ None) × (is_net (role_of w) ≡ true)
IsFurtherTerm x = IsWellFormed x × (precedence x ≤ of_product)

-- the further terms, each after `+` or `-`
abbrev pub AreTerms : Links → Type 0
AreTerms none = Unit {0}
AreTerms (link (One t) x l) = (is_sign (role_of t) ≡ true) × IsFurtherTerm x × AreTerms l
AreTerms (link (Two t u) x l) = ⊥

-- the number of net terms among the terms
abbrev pub nets : Tree → ℕ
nets (net s w) = 1
nets _ = 0

abbrev pub nets_in : Links → ℕ
nets_in none = 0
nets_in (link o x l) = nets x + nets_in l

-- a sum in which exactly one term is a net term
abbrev pub IsNetSum : Tree → Type 0
IsNetSum (net s w) = IsWellFormed (net s w)
IsNetSum (chain n x l) = (n ≡ of_product) × IsFirstTerm x × IsLinked l × AreTerms l × (nets x + nets_in l ≡ 1)
IsNetSum _ = ⊥

-- `<=` and `<=`, or `>=` and `>=`
abbrev pub same_order : Role → Role → Bool
same_order (roles.Relation relations.AtMost) (roles.Relation relations.AtMost) = true
same_order (roles.Relation relations.AtLeast) (roles.Relation relations.AtLeast) = true
same_order _ _ = false

abbrev pub IsCondition : Condition → Type 0
IsCondition unsaid = Unit {0}
IsCondition (one m x o y) = (is_colon (role_of m) ≡ true) × (is_bound (role_of o) ≡ true) × ((IsNetSum x × IsSum y) ⊎ (IsSum x × IsNetSum y))
IsCondition (between m x o y p z) = (is_colon (role_of m) ≡ true) × (same_order (role_of o) (role_of p) ≡ true) × IsSum x × IsNetSum y × IsSum z
