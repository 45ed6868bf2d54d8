-- Trees, worlds and scopes of the worked examples.
use Rattle.std.specs.Prelude.{ℕ, List, [], ◌∷◌, None, Some, pos, codes}
use Rattle.net_lex.specs.declared.token.Token.{Token}
use Rattle.net_lex.specs.declared.token.Kind.TheVariants as kinds
use Rattle.net_sets.specs.declared.member.Member.TheVariants.{Number, Name}
use Rattle.net_expr.specs.declared.world.Entry.TheVariants.{Set, Parameter}
use Rattle.net_expr.specs.Worlds.{World, Scope}

-- tokens of each kind, with their places
abbrev pub name : List ℕ → ℕ → ℕ → Token
name t a b = record { kind = kinds.Name; text = t; span = record { start = a; end = b } }

abbrev pub number : List ℕ → ℕ → ℕ → Token
number t a b = record { kind = kinds.Num; text = t; span = record { start = a; end = b } }

abbrev pub string : List ℕ → ℕ → ℕ → Token
string t a b = record { kind = kinds.Str; text = t; span = record { start = a; end = b } }

abbrev pub key : List ℕ → ℕ → ℕ → Token
key t a b = record { kind = kinds.Key; text = t; span = record { start = a; end = b } }

abbrev pub mark : List ℕ → ℕ → ℕ → Token
mark t a b = record { kind = kinds.Mark; text = t; span = record { start = a; end = b } }

-- two cities, the links between them, a cost of one of these; two parameters without braces, one without a value
abbrev pub cities : World
cities =
    (codes "CITIES", Set 1 ((Name (codes "a") ∷ []) ∷ (Name (codes "b") ∷ []) ∷ []))
    ∷ (codes "LINKS", Set 2 ((Name (codes "a") ∷ Name (codes "b") ∷ []) ∷ (Name (codes "b") ∷ Name (codes "a") ∷ []) ∷ []))
    ∷ (
      codes "cost",
      Parameter (Some 2) ((Name (codes "a") ∷ Name (codes "b") ∷ []) ∷ (Name (codes "b") ∷ Name (codes "a") ∷ []) ∷ [])
          (((Name (codes "a") ∷ Name (codes "b") ∷ []), Number (pos 1)) ∷ []),
    )
    ∷ (codes "rate", Parameter None ([] ∷ []) (([], Number (pos 7)) ∷ []))
    ∷ (codes "base", Parameter None ([] ∷ []) []) ∷ []

-- three pairs of numbers
abbrev pub pairs : World
pairs = (codes "L", Set 2 ((Number (pos 1) ∷ Number (pos 2) ∷ []) ∷ (Number (pos 2) ∷ Number (pos 3) ∷ []) ∷ (Number (pos 1) ∷ Number (pos 4) ∷ []) ∷ [])) ∷ []

-- one dummy in scope
abbrev pub i_is : ℕ → Scope
i_is n = (record { name = codes "i"; member = Number (pos n) }) ∷ []
