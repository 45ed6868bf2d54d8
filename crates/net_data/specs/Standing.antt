-- Statements all of whose tokens, or all of whose spans, satisfy a predicate P.
use Rattle.std.specs.Prelude.{List, Option, None, Some, ⊤}
use Rattle.std.specs.List.{AllByRecursion}
use Rattle.net_base.specs.declared.diagnostic.Span.{Span}
use Rattle.net_lex.specs.declared.token.Token.{Token}
use Rattle.net_data.specs.declared.statement.DefaultValue.{DefaultValue}
use Rattle.net_data.specs.declared.statement.Given.{Given}
use Rattle.net_data.specs.declared.statement.NamedSet.{NamedSet}
use Rattle.net_data.specs.declared.statement.Statement.{Statement}
use Rattle.net_data.specs.declared.statement.Statement.TheVariants.{Set, List as Listed, Table, Columns}

-- ---- tokens

abbrev pub DefaultToken : (Token → Type 0) → Option DefaultValue → Type 0
DefaultToken P None = ⊤
DefaultToken P (Some d) = P d.value

abbrev pub GivenTokens : (Token → Type 0) → Option Given → Type 0
GivenTokens P None = ⊤
GivenTokens P (Some g) = AllByRecursion P g.cells

abbrev pub NamedSetToken : (Token → Type 0) → Option NamedSet → Type 0
NamedSetToken P None = ⊤
NamedSetToken P (Some s) = P s.name

-- P holds for the names, the default and the cells of a statement: for all tokens except keywords and most punctuation
abbrev pub AllTokens : (Token → Type 0) → Statement → Type 0
AllTokens P (Set s) = P s.name × AllByRecursion P s.items
AllTokens P (Listed l) = P l.name × DefaultToken P l.default × GivenTokens P l.given
AllTokens P (Table t) = P t.name × DefaultToken P t.default × AllByRecursion P t.columns × AllByRecursion P t.cells
AllTokens P (Columns c) = NamedSetToken P c.set × AllByRecursion P c.names × AllByRecursion P c.cells

-- ---- spans

-- P holds for the token's span
abbrev pub SpanOf : (Span → Type 0) → Token → Type 0
SpanOf P t = P t.span

-- P holds for the spans of these tokens
abbrev pub TokensHaveSpans : (Span → Type 0) → List Token → Type 0
TokensHaveSpans P ts = AllByRecursion (SpanOf P) ts

abbrev pub DefaultHasSpan : (Span → Type 0) → Option DefaultValue → Type 0
DefaultHasSpan P d = DefaultToken (SpanOf P) d

abbrev pub GivenHasSpans : (Span → Type 0) → Option Given → Type 0
GivenHasSpans P g = GivenTokens (SpanOf P) g

abbrev pub NamedSetHasSpan : (Span → Type 0) → Option NamedSet → Type 0
NamedSetHasSpan P s = NamedSetToken (SpanOf P) s

-- P holds for the spans of the names, the default and the cells of a statement
abbrev pub StatementHasSpans : (Span → Type 0) → Statement → Type 0
StatementHasSpans P s = AllTokens (SpanOf P) s

abbrev pub StatementsHaveSpans : (Span → Type 0) → List Statement → Type 0
StatementsHaveSpans P ss = AllByRecursion (StatementHasSpans P) ss
