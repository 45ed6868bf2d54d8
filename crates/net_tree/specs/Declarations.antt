-- Which declarations are well-formed.
use Rattle.std.specs.Prelude.{◌≡◌, ◌≤◌, true, List, [], ◌∷◌, Option, None, Some}
use Rattle.net_tree.specs.declared.role.Declares.TheVariants as declares
use Rattle.net_tree.specs.declared.role.Role.TheVariants as roles
use Rattle.net_tree.specs.Tree.{Part, absent, part, Braces, Declaration, set, param, check, node, arc, objective}
use Rattle.net_tree.specs.Role.{role_of, is_name, is_colon, is_semicolon}
use Rattle.net_tree.specs.Precedence.{of_or}
use Rattle.net_tree.specs.WellFormed.{precedence, is_value, IsWellFormed, AreBraces}
use Rattle.net_tree.specs.Conditions.{IsCondition}
use Rattle.net_tree.specs.Phrases.{AreSetPhrases, AreParamPhrases, AreArcPhrases}

abbrev pub IsIndexing : Option Braces → Type 0
IsIndexing None = Unit {0}
IsIndexing (Some b) = AreBraces b

-- the expression of an objective, if there is one: a value
abbrev pub IsObjective : Part → Type 0
IsObjective absent = Unit {0}
IsObjective (part m x) = (is_colon (role_of m) ≡ true) × IsWellFormed x × (is_value (precedence x) ≡ true)

abbrev pub IsDeclaration : Declaration → Type 0
IsDeclaration (set w n ps e) =
    (role_of w ≡ roles.Declaration declares.Set) × (is_name (role_of n) ≡ true) × AreSetPhrases ps × (is_semicolon (role_of e) ≡ true)
IsDeclaration (param w n b ps e) =
    (role_of w ≡ roles.Declaration declares.Param) × (is_name (role_of n) ≡ true) × IsIndexing b × AreParamPhrases ps × (is_semicolon (role_of e) ≡ true)
IsDeclaration (check w b m x e) =
    (role_of w ≡ roles.Declaration declares.Check) × IsIndexing b × (is_colon (role_of m) ≡ true) × IsWellFormed x × (precedence x ≤ of_or) × (is_semicolon (role_of e) ≡ true)
IsDeclaration (node w n b c e) =
    (role_of w ≡ roles.Declaration declares.Node) × (is_name (role_of n) ≡ true) × IsIndexing b × IsCondition c × (is_semicolon (role_of e) ≡ true)
IsDeclaration (arc w n b ps e) =
    (role_of w ≡ roles.Declaration declares.Arc) × (is_name (role_of n) ≡ true) × IsIndexing b × AreArcPhrases ps × (is_semicolon (role_of e) ≡ true)
IsDeclaration (objective w n p e) =
    (role_of w ≡ roles.Declaration declares.Objective) × (is_name (role_of n) ≡ true) × IsObjective p × (is_semicolon (role_of e) ≡ true)

-- a whole model
abbrev pub AreDeclarations : List Declaration → Type 0
AreDeclarations [] = Unit {0}
AreDeclarations (d ∷ ds) = IsDeclaration d × AreDeclarations ds
