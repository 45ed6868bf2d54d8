-- The grammar of expressions. The number in a parser's name or argument is the maximum precedence
-- of its trees.
use Rattle.std.specs.Prelude.{ℕ, zero, suc, Bool, true, false, ◌||◌, nat_le, [], ◌∷◌, length, Option, None, Some, if◌then◌else◌}
use Rattle.net_lex.specs.declared.token.Token.{Token}
use Rattle.net_tree.specs.declared.operator.OperatorWords.{OperatorWords as Operator}
use Rattle.net_tree.specs.declared.operator.OperatorWords.TheVariants.{One, Two}
use Rattle.net_tree.specs.declared.role.Role.{Role}
use Rattle.net_tree.specs.declared.role.Role.TheVariants as roles
use Rattle.net_tree.specs.Tree.{Tree, Links, Part, Braces, leaf, indexed, parens, tuple, negated, braced, signed, reduced, chain, choice, none, link, absent, part, empty, filled}
use Rattle.net_tree.specs.Role.{role_of, is_not, is_open_brace, is_close_brace, is_open_square, is_colon, is_if}
use Rattle.net_tree.specs.Precedence.{of_comma, of_reduction, of_product, of_sum, of_union, of_relation, of_or}
use Rattle.net_tree.specs.WellFormed.{precedence, joins}
use Rattle.net_model.specs.declared.expected.Expected.{Expected}
use Rattle.net_model.specs.declared.expected.Expected.TheVariants as sorts
use Rattle.net_model.specs.declared.model_parser.Awaiting.TheVariants as awaiting
use Rattle.net_model.specs.Reading.{Tokens, Read, ◌>>=◌, read_as, rejected, too_deep, next_is, is_sort, expect}

abbrev pub Reader : Type 0
Reader = Tokens → Read Tree

-- an operator; `not` is followed by `in` or `within`
unfoldable pub operator_at : Tokens → Read Operator
operator_at [] = rejected awaiting.Other []
operator_at (t ∷ ts) = if is_not (role_of t) then (expect sorts.Membership awaiting.Other ts >>= λ u. read_as (Two t u.0) u.1) else read_as (One t) ts

-- at most `turns` links whose tokens join operands of precedence j, after k links
abbrev pub links : ℕ → ℕ → ℕ → Reader → Tokens → Read Links
links zero j k operand ts = read_as none ts
links (suc turns) j k operand ts =
    if next_is (joins j k) ts
    then (operator_at ts >>= λ o. operand o.1 >>= λ x. links turns j (suc k) operand x.1 >>= λ l. read_as (link o.0 x.0 l.0) l.1)
    else read_as none ts

abbrev pub all_links : ℕ → Reader → Tokens → Read Links
all_links j operand ts = links (length ts) j 0 operand ts

-- an operand alone is not a chain
abbrev pub is_none : Links → Bool
is_none none = true
is_none (link o x l) = false

abbrev pub chained : ℕ → Tree → Links → Tree
chained n x l = if is_none l then x else chain n x l

unfoldable pub chain_at : ℕ → Reader → Tokens → Read Tree
chain_at n operand ts = operand ts >>= λ x. all_links n operand x.1 >>= λ l. read_as (chained n x.0 l.0) l.1

-- a tree of at most this precedence, up to an `or`
unfoldable pub climb : ℕ → Reader → Reader
climb zero unary = unary
climb (suc zero) unary = unary
climb (suc (suc n)) unary = chain_at (suc n) (climb (suc n) unary)

-- a clause introduced by punctuation or a keyword, if present
unfoldable pub present_at : Reader → Tokens → Read Part
present_at value [] = rejected awaiting.Other []
present_at value (t ∷ ts) = value ts >>= λ x. read_as (part t x.0) x.1

unfoldable pub part_at : Expected → Reader → Tokens → Read Part
part_at s value ts = if next_is (is_sort s) ts then present_at value ts else read_as absent ts

-- the parsers one nesting level deeper
pub record Inner : Type 0 where
  -- trees of a precedence
  pub at : ℕ → Reader
  -- an `if`, or a tree of a precedence
  pub wide : ℕ → Reader
  pub braces : Tokens → Read Braces

-- after a name: subscripts, if present
abbrev pub is_subscripted : Tokens → Bool
is_subscripted ts = next_is is_open_square ts

unfoldable pub subscripts_at : Inner → Token → Tokens → Read Tree
subscripts_at i n [] = rejected awaiting.Other []
subscripts_at i n (o ∷ ts) =
    i.at of_sum ts >>= λ x. all_links of_comma (i.at of_sum) x.1 >>= λ l. expect sorts.CloseSquare awaiting.Other l.1 >>= λ c. read_as (indexed n o x.0 l.0 c.0) c.1

unfoldable pub named_at : Option Inner → Token → Tokens → Read Tree
named_at None n ts = if is_subscripted ts then too_deep ts else read_as (leaf n) ts
named_at (Some i) n ts = if is_subscripted ts then subscripts_at i n ts else read_as (leaf n) ts

-- after `(` and an expression
abbrev pub closed : Token → Tree → Tokens → Read Tree
closed o x ts = expect sorts.Close awaiting.Other ts >>= λ c. read_as (parens o x c.0) c.1

abbrev pub listed : Token → Tree → Links → Tokens → Read Tree
listed o x l ts = if is_none l then closed o x ts else (expect sorts.Close awaiting.Other ts >>= λ c. read_as (tuple o x l c.0) c.1)

unfoldable pub parens_from : Inner → Token → Tree → Tokens → Read Tree
parens_from i o x ts = if nat_le (precedence x) of_sum then (all_links of_comma (i.at of_sum) ts >>= λ l. listed o x l.0 l.1) else closed o x ts

unfoldable pub parens_at : Inner → Token → Tokens → Read Tree
parens_at i o ts = i.wide of_or ts >>= λ x. parens_from i o x.0 x.1

-- after `not`, at the maximum depth
unfoldable pub not_shut : Tokens → Read Tree
not_shut ts = if next_is (is_sort sorts.Open) ts then too_deep ts else rejected awaiting.Other ts

unfoldable pub negated_at : Option Inner → Token → Tokens → Read Tree
negated_at None n ts = not_shut ts
negated_at (Some i) n ts =
    expect sorts.Open awaiting.Other ts >>= λ o. i.at of_or o.1 >>= λ x. expect sorts.Close awaiting.Other x.1 >>= λ c. read_as (negated n o.0 x.0 c.0) c.1

-- after `{`: the braces have no items
abbrev pub ends_braces : Role → Bool
ends_braces r = is_colon r || is_close_brace r

abbrev pub filter_at : Inner → Tokens → Read Part
filter_at i ts = part_at sorts.Colon (i.at of_or) ts

unfoldable pub empty_braces_at : Inner → Token → Tokens → Read Braces
empty_braces_at i o ts = filter_at i ts >>= λ p. expect sorts.CloseBrace awaiting.Other p.1 >>= λ c. read_as (empty o p.0 c.0) c.1

unfoldable pub items_at : Inner → Token → Tokens → Read Braces
items_at i o ts =
    i.at of_relation ts >>= λ x. all_links of_comma (i.at of_relation) x.1 >>= λ l. filter_at i l.1 >>= λ p. expect sorts.CloseBrace awaiting.Other p.1 >>= λ c. read_as (filled o x.0 l.0 p.0 c.0) c.1

unfoldable pub braces_at : Inner → Token → Tokens → Read Braces
braces_at i o ts = if next_is ends_braces ts then empty_braces_at i o ts else items_at i o ts

unfoldable pub braces : Option Inner → Tokens → Read Braces
braces None ts = if next_is is_open_brace ts then too_deep ts else rejected awaiting.Other ts
braces (Some i) ts = expect sorts.OpenBrace awaiting.Other ts >>= λ o. braces_at i o.0 o.1

-- after `sum`, `min` or `max`
unfoldable pub reduction_at : Inner → Token → Tokens → Read Tree
reduction_at i w ts = i.braces ts >>= λ b. i.at of_product b.1 >>= λ x. read_as (reduced w b.0 x.0) x.1

-- after `if`
unfoldable pub conditional_at : Inner → Token → Tokens → Read Tree
conditional_at i w ts =
    i.at of_or ts >>= λ x. expect sorts.Then awaiting.Other x.1 >>= λ t. i.at of_union t.1 >>= λ y. part_at sorts.Else (i.wide of_union) y.1 >>= λ e.
    read_as (choice w x.0 t.0 y.0 e.0) e.1

unfoldable pub unary_at : Option Inner → Role → Token → Tokens → Read Tree
unary_at o roles.Name t ts = named_at o t ts
unary_at o roles.Number t ts = read_as (leaf t) ts
unary_at o roles.Text t ts = read_as (leaf t) ts
unary_at o roles.Not t ts = negated_at o t ts
unary_at None roles.Open t ts = too_deep (t ∷ ts)
unary_at None roles.OpenBrace t ts = too_deep (t ∷ ts)
unary_at None roles.Sign t ts = too_deep (t ∷ ts)
unary_at None roles.Reduction t ts = too_deep (t ∷ ts)
unary_at (Some i) roles.Open t ts = parens_at i t ts
unary_at (Some i) roles.OpenBrace t ts = braces_at i t ts >>= λ b. read_as (braced b.0) b.1
unary_at (Some i) roles.Sign t ts = i.at of_reduction ts >>= λ x. read_as (signed t x.0) x.1
unary_at (Some i) roles.Reduction t ts = reduction_at i t ts
unary_at o _ t ts = rejected awaiting.Other (t ∷ ts)

unfoldable pub unary : Option Inner → Reader
unary o [] = rejected awaiting.Other []
unary o (t ∷ ts) = unary_at o (role_of t) t ts

-- at an `if`
unfoldable pub if_at : Option Inner → Reader
if_at None ts = too_deep ts
if_at (Some i) [] = rejected awaiting.Other []
if_at (Some i) (t ∷ ts) = conditional_at i t ts

unfoldable pub wide : Option Inner → ℕ → Reader
wide o n ts = if next_is is_if ts then if_at o ts else climb n (unary o) ts

unfoldable pub inner_of : Option Inner → Inner
inner_of o = record { at = λ n. climb n (unary o); wide = wide o; braces = braces o }

-- the parsers nested, if n more nesting levels are allowed
unfoldable pub nested : ℕ → Option Inner
nested zero = None
nested (suc n) = Some (inner_of (nested n))
