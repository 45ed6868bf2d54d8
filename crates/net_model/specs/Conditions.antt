-- Conditions of nodes: sums in which one net term can occur.
use Rattle.std.specs.Prelude.{Bool, true, false, List, [], ◌∷◌, length, Option, None, Some, if◌then◌else◌}
use Rattle.net_lex.specs.declared.token.Token.{Token}
use Rattle.net_tree.specs.declared.operator.OperatorWords.{OperatorWords as Operator}
use Rattle.net_tree.specs.declared.role.Role.{Role}
use Rattle.net_tree.specs.declared.role.Role.TheVariants as roles
use Rattle.net_tree.specs.declared.role.Relation.TheVariants as relations
use Rattle.net_tree.specs.Role.{role_of, is_net, is_sign, is_colon}
use Rattle.net_tree.specs.Precedence.{of_product, of_sum}
use Rattle.net_tree.specs.Tree.{Tree, net, Condition, unsaid, one, between}
use Rattle.net_tree.specs.View.{links_from}
use Rattle.net_model.specs.declared.model_parser.Awaiting.TheVariants as awaiting
use Rattle.net_model.specs.declared.expected.Expected.TheVariants as sorts
use Rattle.net_model.specs.Reading.{Tokens, Read, ◌>>=◌, read_as, rejected, next_is, expect}
use Rattle.net_model.specs.Expressions.{Inner, unary, climb, operator_at, chained}
use Rattle.net_model.specs.Rows.{row}

-- whether a net term comes next (`net_next`), or a sign and a net term (`signed_net_next`)
abbrev pub net_next : Tokens → Bool
net_next ts = next_is is_net ts

abbrev pub signed_net_next : Tokens → Bool
signed_net_next [] = false
signed_net_next (t ∷ ts) = if is_sign (role_of t) then next_is is_net ts else false

unfoldable pub net_at : Tokens → Read Tree
net_at ts = expect sorts.Net awaiting.Other ts >>= λ w. read_as (net None w.0) w.1

-- a net term, after which no other is allowed
abbrev pub only_net_at : Tokens → Read (Tree × Bool)
only_net_at ts = net_at ts >>= λ x. read_as (x.0, false) x.1

unfoldable pub signed_net_at : Tokens → Read Tree
signed_net_at ts = expect sorts.Sign awaiting.Other ts >>= λ s. expect sorts.Net awaiting.Other s.1 >>= λ w. read_as (net (Some s.0) w.0) w.1

-- a term, and whether a net term is still allowed; the first term can have a sign
unfoldable pub term_at : Option Inner → Bool → Tokens → Read (Tree × Bool)
term_at o free ts =
    if (if free then net_next ts else false)
    then (net_at ts >>= λ x. read_as (x.0, false) x.1)
    else (climb of_product (unary o) ts >>= λ x. read_as (x.0, free) x.1)

unfoldable pub first_term_at : Option Inner → Bool → Tokens → Read (Tree × Bool)
first_term_at o free ts =
    if (if free then signed_net_next ts else false)
    then (signed_net_at ts >>= λ x. read_as (x.0, false) x.1)
    else term_at o free ts

unfoldable pub further_term_at : Option Inner → Bool → Tokens → Read ((Operator × Tree) × Bool)
further_term_at o free ts = operator_at ts >>= λ p. term_at o free p.1 >>= λ x. read_as ((p.0, x.0.0), x.0.1) x.1

abbrev pub sign_next : Bool → Tokens → Bool
sign_next free ts = next_is is_sign ts

unfoldable pub further_terms : Option Inner → Bool → Tokens → Read (List (Operator × Tree) × Bool)
further_terms o free ts = row (length ts) (further_term_at o) sign_next free ts

-- a sum, and whether a net term is still allowed after it
unfoldable pub sum_at : Option Inner → Bool → Tokens → Read (Tree × Bool)
sum_at o free ts =
    first_term_at o free ts >>= λ x. further_terms o x.0.1 x.1 >>= λ l. read_as (chained of_product x.0.0 (links_from l.0.0), l.0.1) l.1

-- whether a bound can be followed by the same one: `<=` or `>=`
abbrev pub is_at_most : Role → Bool
is_at_most (roles.Relation relations.AtMost) = true
is_at_most _ = false

abbrev pub is_at_least : Role → Bool
is_at_least (roles.Relation relations.AtLeast) = true
is_at_least _ = false

abbrev pub chains : Role → Role → Bool
chains (roles.Relation relations.AtMost) q = is_at_most q
chains (roles.Relation relations.AtLeast) q = is_at_least q
chains _ q = false

-- after the second sum, if the first had no net term
abbrev pub chain_next : Role → Tokens → Bool
chain_next p ts = next_is (chains p) ts

unfoldable pub high_at : Option Inner → Token → Tree → Token → Tree → Tokens → Read Condition
high_at o m x p y ts =
    if chain_next (role_of p) ts
    then (expect sorts.Bound awaiting.Other ts >>= λ q. climb of_sum (unary o) q.1 >>= λ z. read_as (between m x p y q.0 z.0) z.1)
    else read_as (one m x p y) ts

unfoldable pub middle_at : Option Inner → Token → Tree → Token → Tokens → Read Condition
middle_at o m x p ts = sum_at o true ts >>= λ y. if y.0.1 then rejected awaiting.Other y.1 else high_at o m x p y.0.0 y.1

-- after the first sum and the relation
unfoldable pub bounded_at : Option Inner → Token → Tree → Bool → Token → Tokens → Read Condition
bounded_at o m x free p ts =
    if free then middle_at o m x p ts else (climb of_sum (unary o) ts >>= λ y. read_as (one m x p y.0) y.1)

unfoldable pub said_at : Option Inner → Tokens → Read Condition
said_at o ts =
    expect sorts.Colon awaiting.Other ts >>= λ m. sum_at o true m.1 >>= λ x. expect sorts.Bound awaiting.Other x.1 >>= λ p.
    bounded_at o m.0 x.0.0 x.0.1 p.0 p.1

unfoldable pub condition_at : Option Inner → Tokens → Read Condition
condition_at o ts = if next_is is_colon ts then said_at o ts else read_as unsaid ts
