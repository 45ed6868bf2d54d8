-- The laws that connect the grammar with the syntax trees of the parser and their printing.
use Rattle.std.specs.Prelude.{◌≡◌, List}
use Rattle.net_lex.specs.declared.token.Token.{Token}
use Rattle.net_tree.specs.Syntax as forms
use Rattle.net_tree.specs.Tree.{Declaration}
use Rattle.net_tree.specs.Print.{print}
use Rattle.net_tree.specs.Declarations.{AreDeclarations}
use Rattle.net_tree.specs.Erasure.{declarations}
use Rattle.net_model.specs.GrammarOfDeclarations.{IsModel}

-- the tokens of a well-formed tree are the model that the tree means
abbrev pub IsComplete : Type 0
IsComplete = (ds : List Declaration) → AreDeclarations ds → IsModel (declarations ds) (print ds)

-- each model of the grammar is meant by a well-formed tree with its tokens
abbrev pub IsSound : Type 0
IsSound = (xs : List forms.Declaration) (ts : List Token) → IsModel xs ts → (ds : List Declaration) × AreDeclarations ds × (print ds ≡ ts) × (declarations ds ≡ xs)

-- tokens are at most one model
abbrev pub IsUnique : Type 0
IsUnique = (xs ys : List forms.Declaration) (ts : List Token) → IsModel xs ts → IsModel ys ts → xs ≡ ys
