-- Grammars as relations. A production relates a list of tokens to the tokens that remain after it: `P ts rest` says that ts begins with a P, and
-- that rest follows it.
use Rattle.std.specs.Prelude.{◌≡◌, List, ◌∷◌, ℕ}
use Rattle.net_lex.specs.declared.token.Kind.{Kind}
use Rattle.net_lex.specs.declared.token.Kind.TheVariants as kinds
use Rattle.net_lex.specs.declared.token.Token.{Token}

-- P, and then Q
infixr 10 ◌⨾◌
abbrev pub ◌⨾◌ : (List Token → List Token → Type 0) → (List Token → List Token → Type 0) → List Token → List Token → Type 0
(P ⨾ Q) ts rest = (middle : List Token) × P ts middle × Q middle rest

-- nothing
abbrev pub nothing : List Token → List Token → Type 0
nothing ts rest = ts ≡ rest

-- one token with this property
abbrev pub token : (Token → Type 0) → List Token → List Token → Type 0
token P ts rest = (t : Token) × P t × (ts ≡ t ∷ rest)

-- a token of this kind and text
abbrev pub literal : Kind → List ℕ → List Token → List Token → Type 0
literal kind text = token (λ t. (t.kind ≡ kind) × (t.text ≡ text))

-- punctuation with this text
abbrev pub mark : List ℕ → List Token → List Token → Type 0
mark = literal kinds.Mark
