-- The world of a model and its data, by the definitions of net_meaning.
use Rattle.std.specs.Prelude.{◌≡◌, ℕ, List, [], ◌∷◌, Option, None, Some, IfSome, Ok, ℤ}
use Rattle.std.specs.List.{AllByRecursion}
use Rattle.std.proofs.Common.{refl}
use Rattle.net_lex.specs.Limits.{limits}
use Rattle.net_lex.specs.Numerals.{IsValue}
use Rattle.net_lex.specs.Reading.{AreSound}
use Rattle.net_lex.specs.declared.token.Kind.{Kind}
use Rattle.net_lex.specs.declared.token.Kind.TheVariants.{Num}
use Rattle.net_lex.specs.declared.token.Kind.TheVariants as kinds
use Rattle.net_lex.specs.declared.token.Token.{Token}
use Rattle.net_tree.specs.Tree.{Declaration}
use Rattle.net_data.specs.declared.statement.DefaultValue.{DefaultValue}
use Rattle.net_data.specs.declared.statement.Given.{Given}
use Rattle.net_data.specs.declared.statement.Statement.{Statement}
use Rattle.net_data.specs.declared.statement.Statement.TheVariants as statements
use Rattle.net_data.specs.declared.statement.Tables.{Tables}
use Rattle.net_data.specs.Standing.{AllTokens, DefaultToken, GivenTokens}
use Rattle.net_data.proofs.Standing.{mean_tokens}
use Rattle.net_expr.specs.Worlds.{World}
use Rattle.net_bind.specs.Binding as binding
use Rattle.net_bind.specs.DataByName.{given_cells}
use Rattle.net_bind.specs.DataValues.{HasNumeral, HasValue, HaveValues}
use Rattle.net_bind.specs.Soundness.{WorldsAreSound}
use Rattle.net_bind.proofs.NewNames.{new_names}
use Rattle.net_meaning.specs.OfTrees.{IsWorld}
use Rattle.net_driver.specs.Reading.{IsModel, IsData}

numeral : (k : Kind) (text : List ℕ) → (k ≡ Num → (v : ℤ) × IsValue limits.value text v) → HasNumeral k text
numeral kinds.Num text h = h refl
numeral kinds.Name text h = tt
numeral kinds.Key text h = tt
numeral kinds.Str text h = tt
numeral kinds.Mark text h = tt
numeral kinds.Dot text h = tt

tokens_valued : (ts : List Token) → AreSound limits.token limits.value ts → AllByRecursion HasValue ts
tokens_valued [] h = tt
tokens_valued (t ∷ ts) h = (numeral t.kind t.text h.0.value, tokens_valued ts h.1)

default_valued : (x : Option DefaultValue) → DefaultToken HasValue x → IfSome x (λ (d : DefaultValue). HasValue d.value)
default_valued None h = tt
default_valued (Some d) h = h

cells_valued : (x : Option Given) → GivenTokens HasValue x → AllByRecursion HasValue (given_cells x)
cells_valued None h = tt
cells_valued (Some g) h = h

statement_valued : (s : Statement) → AllTokens HasValue s → HaveValues s
statement_valued (statements.Set s) h = h.1
statement_valued (statements.List l) h = (default_valued l.default h.1, cells_valued l.given h.2)
statement_valued (statements.Table t) h = (default_valued t.default h.1, h.2, h.3)
statement_valued (statements.Columns c) h = h.2

statements_valued : (ss : List Statement) → AllByRecursion (AllTokens HasValue) ss → AllByRecursion HaveValues ss
statements_valued [] h = tt
statements_valued (s ∷ ss) h = (statement_valued s h.0, statements_valued ss h.1)

-- the numerals of accepted data have values
pub data_valued : (d : List ℕ) (x : Tables) → IsData d x → AllByRecursion HaveValues x.statements
data_valued d x is = statements_valued x.statements (mean_tokens HasValue is.tokens x is.written (tokens_valued is.tokens is.read.sound))

pub is_world : WorldsAreSound → (m d : List ℕ) (ds : List Declaration) (x : Tables) (w : World) → IsModel m ds → IsData d x → binding.world ds x.statements ≡ Ok w → IsWorld ds x.statements w
is_world sound m d ds x w is are bound =
    sound ds x.statements w is.means.level (new_names ds is.named) are.written.are.statements are.full (data_valued d x are) bound
