-- What soundness requires of data statements: their numerals have values, and their headings name no other set.
use Rattle.std.specs.Prelude.{◌≡◌, ℕ, false, List, ⊤, ℤ, IfSome}
use Rattle.std.specs.List.{AllByRecursion}
use Rattle.net_lex.specs.Limits.{limits}
use Rattle.net_lex.specs.Numerals.{IsValue as IsNumeral}
use Rattle.net_lex.specs.declared.token.Kind.{Kind}
use Rattle.net_lex.specs.declared.token.Kind.TheVariants.{Num}
use Rattle.net_lex.specs.declared.token.Token.{Token}
use Rattle.net_data.specs.declared.statement.Statement.{Statement}
use Rattle.net_data.specs.declared.statement.Statement.TheVariants.{Set, List as Listed, Table, Columns}
use Rattle.net_expr.specs.Worlds.{Name}
use Rattle.net_meaning.specs.World.{is_set_named}
use Rattle.net_bind.specs.DataByName.{given_cells}

abbrev pub HasNumeral : Kind → List ℕ → Type 0
HasNumeral Num text = (v : ℤ) × IsNumeral limits.value text v
HasNumeral _ text = ⊤

-- if the token is a numeral, it has an integer value within the limit
abbrev pub HasValue : Token → Type 0
HasValue t = HasNumeral t.kind t.text

-- this holds for each token of the statement that is a member or a value
abbrev pub HaveValues : Statement → Type 0
HaveValues (Set s) = AllByRecursion HasValue s.items
HaveValues (Listed l) = IfSome l.default (λ d. HasValue d.value) × AllByRecursion HasValue (given_cells l.given)
HaveValues (Table t) = IfSome t.default (λ d. HasValue d.value) × AllByRecursion HasValue t.columns × AllByRecursion HasValue t.cells
HaveValues (Columns c) = AllByRecursion HasValue c.cells

-- no heading names the set n
abbrev pub NamesNoSet : Name → Statement → Type 0
NamesNoSet n (Set s) = ⊤
NamesNoSet n (Listed l) = ⊤
NamesNoSet n (Table t) = ⊤
NamesNoSet n (Columns c) = is_set_named c.set n ≡ false
