-- The restrictions on the values of a parameter in its phrases.
use Rattle.std.specs.Prelude.{Bool, true, not, List, [], ◌∷◌, Option, None, Some, if◌then◌else◌, Ok, ℤ, int_lt, int_le}
use Rattle.net_base.specs.declared.diagnostic.Language.TheVariants.{Model}
use Rattle.net_base.specs.declared.diagnostic.Span.{Span}
use Rattle.net_lex.specs.declared.token.Token.{Token}
use Rattle.net_sets.specs.declared.member.Member.{Member}
use Rattle.net_tree.specs.Spans.{span_of}
use Rattle.net_tree.specs.Tree.{Tree, Body, plain, valued, priced, Phrase}
use Rattle.net_base.specs.declared.diagnostic.Detail.{Detail}
use Rattle.net_expr.specs.declared.value.Value.{Value}
use Rattle.net_expr.specs.declared.value.Value.TheVariants.{One}
use Rattle.net_expr.specs.Numbers.{number}
use Rattle.net_expr.specs.Operators.{same, belongs}
use Rattle.net_expr.specs.Values.{value}
use Rattle.net_expr.specs.Worlds.{World, Scope}
use Rattle.net_base.specs.declared.error_code.ErrorCode.TheVariants.{Restriction}
use Rattle.net_tree.specs.declared.role.Relation.{Relation}
use Rattle.net_tree.specs.declared.role.Relation.TheVariants as relations
use Rattle.net_tree.specs.declared.role.Role.{Role}
use Rattle.net_tree.specs.declared.role.Role.TheVariants as roles
use Rattle.net_tree.specs.Role.{role_of}
use Rattle.net_base.specs.Outcomes.{Outcome, and_then, rejected_as}

-- the relations that can restrict a value: all except these two
abbrev pub restricting : Relation → Option Relation
restricting relations.Equal = None
restricting relations.Within = None
restricting r = Some r

abbrev pub relation_as : Role → Option Relation
relation_as (roles.Relation r) = restricting r
relation_as _ = None

-- the restriction of a value by a phrase with this keyword, if it is one
abbrev pub relation : Token → Option Relation
relation t = relation_as (role_of t)

abbrev pub ordered : Span → (ℤ → ℤ → Bool) → Member → Value → Outcome Bool
ordered at holds m v = and_then (number at (One m)) (λ a. and_then (number at v) (λ b. Ok (holds a b)))

-- whether two numbers satisfy this relation
abbrev pub compared : Relation → ℤ → ℤ → Bool
compared relations.Less a b = int_lt a b
compared relations.AtMost a b = int_le a b
compared relations.Greater a b = int_lt b a
compared relations.AtLeast a b = int_le b a
compared _ a b = true

-- whether a value satisfies a relation to another; order relations require numbers
abbrev pub related : Span → Relation → Member → Value → Outcome Bool
related at relations.Less m v = ordered at (compared relations.Less) m v
related at relations.AtMost m v = ordered at (compared relations.AtMost) m v
related at relations.Greater m v = ordered at (compared relations.Greater) m v
related at relations.AtLeast m v = ordered at (compared relations.AtLeast) m v
related at relations.Unequal m v = and_then (same at (One m) v) (λ b. Ok (not b))
related at relations.In m v = belongs at (One m) v
related at _ m v = Ok true

abbrev pub holding : Span → Detail → Bool → Outcome (Unit {0})
holding at detail b = if b then Ok tt else rejected_as Model Restriction at detail

abbrev pub restricted_by : World → Scope → Detail → Member → Option Relation → Tree → Outcome (Unit {0})
restricted_by w s detail m None x = Ok tt
restricted_by w s detail m (Some r) x =
    and_then (value w s x) (λ v. and_then (related (span_of x) r m v) (holding (span_of x) detail))

abbrev pub restricted_in : World → Scope → Detail → Member → Token → Body → Outcome (Unit {0})
restricted_in w s detail m word plain = Ok tt
restricted_in w s detail m word (valued x) = restricted_by w s detail m (relation word) x
restricted_in w s detail m word (priced n x) = Ok tt

-- checks a value against all phrases in order
abbrev pub restricted : World → Scope → Detail → Member → List Phrase → Outcome (Unit {0})
restricted w s detail m [] = Ok tt
restricted w s detail m (p ∷ ps) = and_then (restricted_in w s detail m p.word p.body) (λ u. restricted w s detail m ps)
