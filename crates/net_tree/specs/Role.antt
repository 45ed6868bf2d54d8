-- The grammatical role of each token in a model.
use Rattle.std.specs.Prelude.{ℕ, Bool, true, false, List, [], ◌∷◌, codes, if◌then◌else◌}
use Rattle.std.specs.Str.{bytes_eq}
use Rattle.net_lex.specs.declared.token.Token.{Token}
use Rattle.net_lex.specs.declared.token.Kind.{Kind}
use Rattle.net_lex.specs.declared.token.Kind.TheVariants as kinds
use Rattle.net_tree.specs.declared.role.Declares.TheVariants as declares
use Rattle.net_tree.specs.declared.role.Begins.TheVariants as begins
use Rattle.net_tree.specs.declared.role.Relation.{Relation}
use Rattle.net_tree.specs.declared.role.Relation.TheVariants as relations
use Rattle.net_tree.specs.declared.role.Role.{Role}
use Rattle.net_tree.specs.declared.role.Role.TheVariants as roles
use Rattle.net_tree.specs.Precedence.{of_product, of_cross, of_inter, of_union, of_and, of_or}

-- the punctuation tokens with their roles
unfoldable pub marks : List (List ℕ × Role)
marks =
    (codes ",", roles.Comma) ∷ (codes ";", roles.Semicolon) ∷ (codes "[", roles.OpenSquare) ∷ (codes "]", roles.CloseSquare) ∷ (codes "(", roles.Open)
    ∷ (codes ")", roles.Close) ∷ (codes "{", roles.OpenBrace) ∷ (codes "}", roles.CloseBrace) ∷ (codes ":", roles.Colon) ∷ (codes "+", roles.Sign)
    ∷ (codes "-", roles.Sign) ∷ (codes "*", roles.Joining of_product) ∷ (codes "=", roles.Relation relations.Equal) ∷ (codes "<=", roles.Relation relations.AtMost)
    ∷ (codes ">=", roles.Relation relations.AtLeast) ∷ (codes "<", roles.Relation relations.Less) ∷ (codes ">", roles.Relation relations.Greater)
    ∷ (codes "..", roles.Range) ∷ (codes ":=", roles.Becomes) ∷ (codes "<>", roles.Relation relations.Unequal) ∷ (codes "==", roles.Relation relations.Equal)
    ∷ (codes "!=", roles.Relation relations.Unequal) ∷ (codes ".", roles.LeftOut) ∷ (codes "/", roles.LeftOut) ∷ (codes "**", roles.LeftOut)
    ∷ (codes "^", roles.LeftOut) ∷ (codes "&", roles.LeftOut) ∷ (codes "&&", roles.LeftOut) ∷ (codes "||", roles.LeftOut) ∷ (codes "!", roles.LeftOut) ∷ []

-- the reserved words with their roles
unfoldable pub keys : List (List ℕ × Role)
keys =
    (codes "in", roles.Relation relations.In) ∷ (codes "sum", roles.Reduction) ∷ (codes "param", roles.Declaration declares.Param)
    ∷ (codes "set", roles.Declaration declares.Set) ∷ (codes "cross", roles.Joining of_cross) ∷ (codes "within", roles.Relation relations.Within)
    ∷ (codes "and", roles.Joining of_and) ∷ (codes "obj", roles.Phrase begins.Obj) ∷ (codes "from", roles.Phrase begins.From)
    ∷ (codes "to", roles.Phrase begins.To) ∷ (codes "if", roles.If) ∷ (codes "then", roles.Then) ∷ (codes "else", roles.Else)
    ∷ (codes "or", roles.Joining of_or) ∷ (codes "not", roles.Not) ∷ (codes "arc", roles.Declaration declares.Arc)
    ∷ (codes "node", roles.Declaration declares.Node) ∷ (codes "net_in", roles.Net) ∷ (codes "net_out", roles.Net) ∷ (codes "by", roles.By)
    ∷ (codes "check", roles.Declaration declares.Check) ∷ (codes "div", roles.Joining of_product) ∷ (codes "mod", roles.Joining of_product) ∷ (codes "min", roles.Reduction)
    ∷ (codes "max", roles.Reduction) ∷ (codes "union", roles.Joining of_union) ∷ (codes "diff", roles.Joining of_union) ∷ (codes "symdiff", roles.Joining of_union)
    ∷ (codes "inter", roles.Joining of_inter) ∷ (codes "minimize", roles.Declaration declares.Objective)
    ∷ (codes "maximize", roles.Declaration declares.Objective) ∷ (codes "default", roles.Phrase begins.Default)
    ∷ (codes "dimen", roles.Phrase begins.Dimen) ∷ (codes "symbolic", roles.Phrase begins.Symbolic) ∷ (codes "integer", roles.Phrase begins.Integer)
    ∷ (codes "exists", roles.LeftOut) ∷ (codes "forall", roles.LeftOut) ∷ (codes "Infinity", roles.LeftOut) ∷ (codes "less", roles.LeftOut)
    ∷ (codes "prod", roles.LeftOut) ∷ (codes "setof", roles.LeftOut) ∷ []

abbrev pub role_in : List (List ℕ × Role) → List ℕ → Role
role_in [] text = roles.Unknown
role_in (word ∷ others) text = if bytes_eq word.0 text then word.1 else role_in others text

-- the role of a token of this kind and text
abbrev pub role_as : Kind → List ℕ → Role
role_as kinds.Name text = roles.Name
role_as kinds.Key text = role_in keys text
role_as kinds.Num text = roles.Number
role_as kinds.Str text = roles.Text
role_as kinds.Mark text = role_in marks text
role_as kinds.Dot text = roles.Unknown

unfoldable pub role_of : Token → Role
role_of t = role_as t.kind t.text

-- tests on a role
abbrev pub is_name : Role → Bool
is_name roles.Name = true
is_name _ = false

-- a complete expression by itself
abbrev pub is_leaf : Role → Bool
is_leaf roles.Name = true
is_leaf roles.Number = true
is_leaf roles.Text = true
is_leaf _ = false

abbrev pub is_number : Role → Bool
is_number roles.Number = true
is_number _ = false

abbrev pub is_open : Role → Bool
is_open roles.Open = true
is_open _ = false

abbrev pub is_close : Role → Bool
is_close roles.Close = true
is_close _ = false

abbrev pub is_open_brace : Role → Bool
is_open_brace roles.OpenBrace = true
is_open_brace _ = false

abbrev pub is_close_brace : Role → Bool
is_close_brace roles.CloseBrace = true
is_close_brace _ = false

abbrev pub is_open_square : Role → Bool
is_open_square roles.OpenSquare = true
is_open_square _ = false

abbrev pub is_close_square : Role → Bool
is_close_square roles.CloseSquare = true
is_close_square _ = false

abbrev pub is_comma : Role → Bool
is_comma roles.Comma = true
is_comma _ = false

abbrev pub is_colon : Role → Bool
is_colon roles.Colon = true
is_colon _ = false

abbrev pub is_semicolon : Role → Bool
is_semicolon roles.Semicolon = true
is_semicolon _ = false

abbrev pub is_sign : Role → Bool
is_sign roles.Sign = true
is_sign _ = false

abbrev pub is_not : Role → Bool
is_not roles.Not = true
is_not _ = false

abbrev pub is_if : Role → Bool
is_if roles.If = true
is_if _ = false

abbrev pub is_then : Role → Bool
is_then roles.Then = true
is_then _ = false

abbrev pub is_else : Role → Bool
is_else roles.Else = true
is_else _ = false

abbrev pub is_reduction : Role → Bool
is_reduction roles.Reduction = true
is_reduction _ = false

abbrev pub is_net : Role → Bool
is_net roles.Net = true
is_net _ = false

-- operators that `not` can precede
abbrev pub is_membership : Role → Bool
is_membership (roles.Relation relations.In) = true
is_membership (roles.Relation relations.Within) = true
is_membership _ = false

-- relations that can occur between the sides of a node's condition
abbrev pub bounds : Relation → Bool
bounds relations.Equal = true
bounds relations.AtMost = true
bounds relations.AtLeast = true
bounds _ = false

abbrev pub is_bound : Role → Bool
is_bound (roles.Relation r) = bounds r
is_bound _ = false
