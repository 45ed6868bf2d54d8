-- Which phrases sets, parameters and arcs can have: in any order, each with an optional comma
-- before it, and some at most once.
use Rattle.std.specs.Prelude.{◌≡◌, ◌≤◌, ℕ, suc, Bool, true, false, if◌then◌else◌, List, [], ◌∷◌, Option, None, Some}
use Rattle.net_lex.specs.declared.token.Token.{Token}
use Rattle.net_tree.specs.declared.role.Begins.TheVariants as begins
use Rattle.net_tree.specs.declared.role.Relation.TheVariants as relations
use Rattle.net_tree.specs.declared.role.Role.{Role}
use Rattle.net_tree.specs.declared.role.Role.TheVariants as roles
use Rattle.net_tree.specs.Tree.{leaf, indexed, Body, plain, valued, priced, Phrase}
use Rattle.net_tree.specs.Role.{role_of, is_name, is_number, is_comma}
use Rattle.net_tree.specs.Precedence.{of_sum, of_union}
use Rattle.net_tree.specs.WellFormed.{precedence, is_value, IsWellFormed}

-- nothing follows the keyword of the phrase
abbrev pub IsNothing : Body → Type 0
IsNothing plain = Unit {0}
IsNothing _ = ⊥

-- a numeral
abbrev pub IsNumeral : Body → Type 0
IsNumeral (valued (leaf t)) = is_number (role_of t) ≡ true
IsNumeral _ = ⊥

-- a sum
abbrev pub IsBound : Body → Type 0
IsBound (valued x) = IsWellFormed x × (precedence x ≤ of_sum)
IsBound _ = ⊥

-- a set or a member
abbrev pub IsOperand : Body → Type 0
IsOperand (valued x) = IsWellFormed x × (precedence x ≤ of_union)
IsOperand _ = ⊥

-- a set, a member or an `if`
abbrev pub IsValue : Body → Type 0
IsValue (valued x) = IsWellFormed x × (is_value (precedence x) ≡ true)
IsValue _ = ⊥

-- a name, with or without subscripts
abbrev pub IsReference : Body → Type 0
IsReference (valued (leaf t)) = is_name (role_of t) ≡ true
IsReference (valued (indexed n o x l c)) = IsWellFormed (indexed n o x l c)
IsReference _ = ⊥

-- a name and a sum
abbrev pub IsPrice : Body → Type 0
IsPrice (priced n x) = (is_name (role_of n) ≡ true) × IsWellFormed x × (precedence x ≤ of_sum)
IsPrice _ = ⊥

-- what follows each keyword in a set (`OfSet`), in a parameter (`OfParam`) and in an arc (`OfArc`)
abbrev pub OfSet : Role → Body → Type 0
OfSet (roles.Phrase begins.Dimen) b = IsNumeral b
OfSet (roles.Relation relations.Within) b = IsOperand b
OfSet roles.Becomes b = IsValue b
OfSet _ b = ⊥

abbrev pub OfParam : Role → Body → Type 0
OfParam (roles.Phrase begins.Symbolic) b = IsNothing b
OfParam (roles.Phrase begins.Integer) b = IsNothing b
OfParam (roles.Relation relations.AtMost) b = IsBound b
OfParam (roles.Relation relations.AtLeast) b = IsBound b
OfParam (roles.Relation relations.Less) b = IsBound b
OfParam (roles.Relation relations.Greater) b = IsBound b
OfParam (roles.Relation relations.Unequal) b = IsBound b
OfParam (roles.Relation relations.In) b = IsOperand b
OfParam (roles.Phrase begins.Default) b = IsValue b
OfParam roles.Becomes b = IsValue b
OfParam _ b = ⊥

abbrev pub OfArc : Role → Body → Type 0
OfArc (roles.Relation relations.AtMost) b = IsBound b
OfArc (roles.Relation relations.AtLeast) b = IsBound b
OfArc (roles.Phrase begins.Integer) b = IsNothing b
OfArc (roles.Phrase begins.From) b = IsReference b
OfArc (roles.Phrase begins.To) b = IsReference b
OfArc (roles.Phrase begins.Obj) b = IsPrice b
OfArc _ b = ⊥

abbrev pub IsOptionalComma : Option Token → Type 0
IsOptionalComma None = Unit {0}
IsOptionalComma (Some c) = is_comma (role_of c) ≡ true

abbrev pub ArePhrases : (Role → Body → Type 0) → List Phrase → Type 0
ArePhrases Of [] = Unit {0}
ArePhrases Of (p ∷ ps) = IsOptionalComma p.comma × Of (role_of p.word) p.body × ArePhrases Of ps

-- the number of phrases whose keyword satisfies the test
abbrev pub count : (Role → Bool) → List Phrase → ℕ
count test [] = 0
count test (p ∷ ps) = if test (role_of p.word) then suc (count test ps) else count test ps

abbrev pub is_dimen : Role → Bool
is_dimen (roles.Phrase begins.Dimen) = true
is_dimen _ = false

abbrev pub is_default : Role → Bool
is_default (roles.Phrase begins.Default) = true
is_default _ = false

abbrev pub is_becomes : Role → Bool
is_becomes roles.Becomes = true
is_becomes _ = false

abbrev pub is_at_least : Role → Bool
is_at_least (roles.Relation relations.AtLeast) = true
is_at_least _ = false

abbrev pub is_at_most : Role → Bool
is_at_most (roles.Relation relations.AtMost) = true
is_at_most _ = false

abbrev pub is_from : Role → Bool
is_from (roles.Phrase begins.From) = true
is_from _ = false

abbrev pub is_to : Role → Bool
is_to (roles.Phrase begins.To) = true
is_to _ = false

-- at most one `dimen`, at most one `:=`
abbrev pub AreSetPhrases : List Phrase → Type 0
AreSetPhrases ps = ArePhrases OfSet ps × (count is_dimen ps ≤ 1) × (count is_becomes ps ≤ 1)

-- at most one `default`, at most one `:=`
abbrev pub AreParamPhrases : List Phrase → Type 0
AreParamPhrases ps = ArePhrases OfParam ps × (count is_default ps ≤ 1) × (count is_becomes ps ≤ 1)

-- at most one of each of `>=`, `<=`, `from`, `to`
abbrev pub AreArcPhrases : List Phrase → Type 0
AreArcPhrases ps =
    ArePhrases OfArc ps × (count is_at_least ps ≤ 1) × (count is_at_most ps ≤ 1) × (count is_from ps ≤ 1) × (count is_to ps ≤ 1)
