-- The grammar of declarations and of whole models: a production for each form of the abstract syntax.
use Rattle.std.specs.Prelude.{◌≡◌, ◌≢◌, ◌+◌, ℕ, Bool, true, false, List, [], ◌∷◌, codes}
use Rattle.std.specs.List.{AllPairs}
use Rattle.net_lex.specs.declared.token.Kind.TheVariants as kinds
use Rattle.net_lex.specs.declared.token.Token.{Token}
use Rattle.net_lex.specs.Productions.{◌⨾◌, nothing, mark}
use Rattle.net_tree.specs.declared.operator.BinOp.{BinOp}
use Rattle.net_tree.specs.declared.operator.BinOp.TheVariants as op
use Rattle.net_tree.specs.declared.role.Begins.TheVariants as begins
use Rattle.net_tree.specs.declared.role.Relation.TheVariants as relations
use Rattle.net_tree.specs.declared.role.Role.{Role}
use Rattle.net_tree.specs.declared.role.Role.TheVariants as roles
use Rattle.net_tree.specs.Precedence.{of_one, of_product, of_sum, of_union, of_or}
use Rattle.net_tree.specs.Syntax.{Expression, leaf, indexed, chain, net, Operands, none, apply, Clause, absent, present, Body, plain, valued, priced, Phrase, Condition, unsaid, one, between, Declaration, set, param, check, node, arc, objective}
use Rattle.net_model.specs.Operators.{Production, never, ◌∪◌, when, word, IsOperator}
use Rattle.net_model.specs.Grammar.{exactly, name, sign, IsExpression, IsIndexing, IsValue}

-- Conditions

-- the keyword of a net term, by whether it is `net_out`
abbrev pub flow : Bool → Production
flow true = word (codes "net_out")
flow false = word (codes "net_in")

-- a term of a sum is a product or a net term; only as the first term does a net term have a sign of
-- its own
abbrev pub IsFirstTerm : Expression → Production
IsFirstTerm (net true out) = sign true ⨾ flow out
IsFirstTerm (net false out) = (nothing ∪ sign false) ⨾ flow out
IsFirstTerm x = IsExpression of_product x

abbrev pub IsFurtherTerm : Expression → Production
IsFurtherTerm (net true out) = never
IsFurtherTerm (net false out) = flow out
IsFurtherTerm x = IsExpression of_product x

-- the further terms, each after `+` or `-`
abbrev pub AreTerms : Operands → Production
AreTerms none = nothing
AreTerms (apply o x os) = IsOperator 0 of_product o ⨾ IsFurtherTerm x ⨾ AreTerms os

-- the number of net terms among the terms
abbrev pub nets : Expression → ℕ
nets (net minus out) = 1
nets _ = 0

abbrev pub nets_in : Operands → ℕ
nets_in none = 0
nets_in (apply o x os) = nets x + nets_in os

-- a net term, or a sum in which exactly one term is a net term
abbrev pub IsNetSum : Expression → Production
IsNetSum (net minus out) = IsFirstTerm (net minus out)
IsNetSum (chain x (apply o y os)) = when (nets x + nets_in (apply o y os) ≡ 1) (IsFirstTerm x ⨾ AreTerms (apply o y os))
IsNetSum _ = never

-- the relations of a two-sided condition
abbrev pub bound : BinOp → Production
bound op.AtMost = mark (codes "<=")
bound op.AtLeast = mark (codes ">=")
bound _ = never

-- the relations of a one-sided condition
abbrev pub relation : BinOp → Production
relation op.Equal = mark (codes "=") ∪ mark (codes "==")
relation o = bound o

-- the condition of a node with the colon before it, if there is one
abbrev pub IsCondition : Condition → Production
IsCondition unsaid = nothing
IsCondition (one x o y) =
    mark (codes ":") ⨾ ((IsNetSum x ⨾ relation o ⨾ IsExpression of_sum y) ∪ (IsExpression of_sum x ⨾ relation o ⨾ IsNetSum y))
IsCondition (between x o y p z) = when (o ≡ p) (mark (codes ":") ⨾ IsExpression of_sum x ⨾ bound o ⨾ IsNetSum y ⨾ bound p ⨾ IsExpression of_sum z)

-- Phrases: a keyword and what follows it

abbrev pub IsSetPhrase : Role → Body → Production
IsSetPhrase (roles.Phrase begins.Dimen) (valued (leaf t)) = word (codes "dimen") ⨾ exactly kinds.Num t
IsSetPhrase (roles.Relation relations.Within) (valued x) = word (codes "within") ⨾ IsExpression of_union x
IsSetPhrase roles.Becomes (valued x) = mark (codes ":=") ⨾ IsValue x
IsSetPhrase _ _ = never

abbrev pub IsParamPhrase : Role → Body → Production
IsParamPhrase (roles.Phrase begins.Symbolic) plain = word (codes "symbolic")
IsParamPhrase (roles.Phrase begins.Integer) plain = word (codes "integer")
IsParamPhrase (roles.Relation relations.AtMost) (valued x) = mark (codes "<=") ⨾ IsExpression of_sum x
IsParamPhrase (roles.Relation relations.AtLeast) (valued x) = mark (codes ">=") ⨾ IsExpression of_sum x
IsParamPhrase (roles.Relation relations.Less) (valued x) = mark (codes "<") ⨾ IsExpression of_sum x
IsParamPhrase (roles.Relation relations.Greater) (valued x) = mark (codes ">") ⨾ IsExpression of_sum x
IsParamPhrase (roles.Relation relations.Unequal) (valued x) = (mark (codes "<>") ∪ mark (codes "!=")) ⨾ IsExpression of_sum x
IsParamPhrase (roles.Relation relations.In) (valued x) = word (codes "in") ⨾ IsExpression of_union x
IsParamPhrase (roles.Phrase begins.Default) (valued x) = word (codes "default") ⨾ IsValue x
IsParamPhrase roles.Becomes (valued x) = mark (codes ":=") ⨾ IsValue x
IsParamPhrase _ _ = never

-- a name, with or without subscripts
abbrev pub IsReference : Expression → Production
IsReference (leaf t) = exactly kinds.Name t
IsReference (indexed n x xs) = IsExpression of_one (indexed n x xs)
IsReference _ = never

abbrev pub IsArcPhrase : Role → Body → Production
IsArcPhrase (roles.Relation relations.AtMost) (valued x) = mark (codes "<=") ⨾ IsExpression of_sum x
IsArcPhrase (roles.Relation relations.AtLeast) (valued x) = mark (codes ">=") ⨾ IsExpression of_sum x
IsArcPhrase (roles.Phrase begins.Integer) plain = word (codes "integer")
IsArcPhrase (roles.Phrase begins.From) (valued x) = word (codes "from") ⨾ IsReference x
IsArcPhrase (roles.Phrase begins.To) (valued x) = word (codes "to") ⨾ IsReference x
IsArcPhrase (roles.Phrase begins.Obj) (priced n x) = word (codes "obj") ⨾ name n ⨾ IsExpression of_sum x
IsArcPhrase _ _ = never

-- phrases in any order, each with an optional comma before it
abbrev pub ArePhrases : (Role → Body → Production) → List Phrase → Production
ArePhrases IsPhrase [] = nothing
ArePhrases IsPhrase (p ∷ ps) = (nothing ∪ mark (codes ",")) ⨾ IsPhrase p.word p.body ⨾ ArePhrases IsPhrase ps

-- at most one phrase has this keyword
abbrev pub IsOnce : Role → List Phrase → Type 0
IsOnce keyword = AllPairs (λ p q. p.word ≡ keyword → q.word ≢ keyword)

abbrev pub AreSetPhrases : List Phrase → Production
AreSetPhrases ps = when (IsOnce (roles.Phrase begins.Dimen) ps × IsOnce roles.Becomes ps) (ArePhrases IsSetPhrase ps)

abbrev pub AreParamPhrases : List Phrase → Production
AreParamPhrases ps = when (IsOnce (roles.Phrase begins.Default) ps × IsOnce roles.Becomes ps) (ArePhrases IsParamPhrase ps)

abbrev pub AreArcPhrases : List Phrase → Production
AreArcPhrases ps =
    when
    (IsOnce (roles.Relation relations.AtLeast) ps × IsOnce (roles.Relation relations.AtMost) ps × IsOnce (roles.Phrase begins.From) ps × IsOnce (roles.Phrase begins.To) ps)
    (ArePhrases IsArcPhrase ps)

-- Declarations

-- the keyword of an objective, by whether it minimizes
abbrev pub direction : Bool → Production
direction true = word (codes "minimize")
direction false = word (codes "maximize")

-- the expression of an objective, if there is one
abbrev pub IsObjective : Clause → Production
IsObjective absent = nothing
IsObjective (present x) = mark (codes ":") ⨾ IsValue x

abbrev pub IsDeclaration : Declaration → Production
IsDeclaration (set n ps) = word (codes "set") ⨾ name n ⨾ AreSetPhrases ps ⨾ mark (codes ";")
IsDeclaration (param n b ps) = word (codes "param") ⨾ name n ⨾ IsIndexing b ⨾ AreParamPhrases ps ⨾ mark (codes ";")
IsDeclaration (check b x) = word (codes "check") ⨾ IsIndexing b ⨾ mark (codes ":") ⨾ IsExpression of_or x ⨾ mark (codes ";")
IsDeclaration (node n b c) = word (codes "node") ⨾ name n ⨾ IsIndexing b ⨾ IsCondition c ⨾ mark (codes ";")
IsDeclaration (arc n b ps) = word (codes "arc") ⨾ name n ⨾ IsIndexing b ⨾ AreArcPhrases ps ⨾ mark (codes ";")
IsDeclaration (objective minimizes n p) = direction minimizes ⨾ name n ⨾ IsObjective p ⨾ mark (codes ";")

abbrev pub AreDeclarations : List Declaration → Production
AreDeclarations [] = nothing
AreDeclarations (d ∷ ds) = IsDeclaration d ⨾ AreDeclarations ds

-- the tokens are those of this model
abbrev pub IsModel : List Declaration → List Token → Type 0
IsModel ds ts = AreDeclarations ds ts []
