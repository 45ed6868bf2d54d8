-- The grammar of data files, one production per form. A production names the tokens that a statement keeps. Commas can precede each token outside
-- tuples and are not kept; the commas of tuples are kept.
use Rattle.std.specs.Prelude.{◌≡◌, ◌⊎◌, ℕ, ◌+◌, ◌<◌, ◌%◌, List, [], ◌∷◌, ◌++◌, length, Option, Some, None, codes}
use Rattle.std.specs.List.{flat_map}
use Rattle.net_lex.specs.declared.token.Kind.TheVariants.{Name, Num, Str, Mark, Dot}
use Rattle.net_lex.specs.declared.token.Token.{Token}
use Rattle.net_lex.specs.Productions.{◌⨾◌, nothing, token, literal}
use Rattle.net_data.specs.declared.statement.DefaultValue.{DefaultValue}
use Rattle.net_data.specs.declared.statement.Given.{Given}
use Rattle.net_data.specs.declared.statement.Transposed.{Transposed}
use Rattle.net_data.specs.declared.statement.NamedSet.{NamedSet}
use Rattle.net_data.specs.declared.statement.Statement.{Statement}
use Rattle.net_data.specs.declared.statement.Statement.TheVariants.{Set, List as Listed, Table, Columns}
use Rattle.net_data.specs.declared.statement.Single.{Single}
use Rattle.net_data.specs.declared.statement.Tables.{Tables}

abbrev pub Production : Type 1
Production = List Token → List Token → Type 0

-- P any number of times
pub data many (P : Production) : List Token → List Token → Type 0 where
  none : {tokens : List Token} → many P tokens tokens
  more : {tokens middle rest : List Token} → P tokens middle → many P middle rest → many P tokens rest

-- P for each element
abbrev pub each : {A : Type 0} → (A → Production) → List A → Production
each P [] = nothing
each P (x ∷ xs) = P x ⨾ each P xs

-- P for the part, if it is present
abbrev pub optional : {A : Type 0} → (A → Production) → Option A → Production
optional P None = nothing
optional P (Some x) = P x

-- nothing, if this holds
abbrev pub provided : Type 0 → Production
provided holds tokens rest = holds × (tokens ≡ rest)

abbrev pub comma : Production
comma = literal Mark (codes ",")

-- any number of commas, and then these tokens, which form a P
abbrev pub spaced : Production → List Token → Production
spaced P these tokens rest = P these [] × many comma tokens (these ++ rest)

abbrev pub word : List ℕ → Token → Production
word text t = spaced (literal Name text) (t ∷ [])

abbrev pub mark : List ℕ → Token → Production
mark text t = spaced (literal Mark text) (t ∷ [])

abbrev pub name : Token → Production
name t = spaced (token (λ u. u.kind ≡ Name)) (t ∷ [])

abbrev pub IsMember : Token → Type 0
IsMember t = (t.kind ≡ Name) ⊎ (t.kind ≡ Num) ⊎ (t.kind ≡ Str)

abbrev pub member : Token → Production
member t = spaced (token IsMember) (t ∷ [])

-- a member, or the missing-value dot
abbrev pub cell : Token → Production
cell t = spaced (token (λ u. IsMember u ⊎ (u.kind ≡ Dot))) (t ∷ [])

-- `( member , member .. )` with two or more members
abbrev pub tuple : Production
tuple = literal Mark (codes "(") ⨾ token IsMember ⨾ comma ⨾ token IsMember ⨾ many (comma ⨾ token IsMember) ⨾ literal Mark (codes ")")

-- a member or a tuple
abbrev pub item : List Token → Production
item = spaced (λ tokens rest. token IsMember tokens rest ⊎ tuple tokens rest)

-- items, which have these tokens in all
abbrev pub IsItems : List Token → Production
IsItems these tokens rest = (items : List (List Token)) × (flat_map (λ x. x) items ≡ these) × each item items tokens rest

abbrev pub IsDefault : DefaultValue → Production
IsDefault d = word (codes "default") d.keyword ⨾ member d.value

abbrev pub IsGiven : Given → Production
IsGiven g = mark (codes ":=") g.assign ⨾ each cell g.cells

abbrev pub IsTransposed : Transposed → Production
IsTransposed t = mark (codes "(") t.opening ⨾ word (codes "tr") t.word ⨾ mark (codes ")") t.closing

abbrev pub IsNamedSet : NamedSet → Production
IsNamedSet s = name s.name ⨾ mark (codes ":") s.colon

-- A table has at least one column, and its cells fill complete rows: one cell for the row, and one for each column. A heading with several
-- parameters has at least one name.
abbrev pub IsStatement : Statement → Production
IsStatement (Set s) = word (codes "set") s.keyword ⨾ name s.name ⨾ mark (codes ":=") s.assign ⨾ IsItems s.items ⨾ mark (codes ";") s.end
IsStatement (Listed l) = word (codes "param") l.keyword ⨾ name l.name ⨾ optional IsDefault l.default ⨾ optional IsGiven l.given ⨾ mark (codes ";") l.end
IsStatement (Table t) =
    word (codes "param") t.keyword ⨾ name t.name ⨾ optional IsDefault t.default ⨾ optional IsTransposed t.transposed ⨾ mark (codes ":") t.colon
    ⨾ each member t.columns ⨾ mark (codes ":=") t.assign ⨾ each cell t.cells ⨾ mark (codes ";") t.end
    ⨾ provided (0 < length t.columns) ⨾ provided (length t.cells % (length t.columns + 1) ≡ 0)
IsStatement (Columns c) =
    word (codes "param") c.keyword ⨾ mark (codes ":") c.colon ⨾ optional IsNamedSet c.set ⨾ each name c.names ⨾ mark (codes ":=") c.assign
    ⨾ each cell c.cells ⨾ mark (codes ";") c.end ⨾ provided (0 < length c.names)

abbrev pub IsSingle : List ℕ → Single → Production
IsSingle text s = word text s.word ⨾ mark (codes ";") s.end

-- the tokens of a data file with these statements
abbrev pub IsDataFile : Tables → List Token → Type 0
IsDataFile file tokens =
    (optional (IsSingle (codes "data")) file.opening ⨾ each IsStatement file.statements ⨾ optional (IsSingle (codes "end")) file.ending ⨾ many comma) tokens []
