-- What data statements name stands at their words.
use Rattle.std.specs.Prelude.{ℕ, ◌+◌, Bool, true, false, List, [], ◌∷◌, ◌++◌, length, slice_index_or, Option, None, Some}
use Rattle.std.specs.List.{AllByRecursion}
use Rattle.net_base.specs.declared.diagnostic.Span.{Span}
use Rattle.net_base.specs.declared.diagnostic.Language.TheVariants as languages
use Rattle.net_base.specs.Outcomes.{and_then}
use Rattle.net_lex.specs.declared.token.Token.{Token}
use Rattle.net_data.specs.declared.statement.DefaultValue.{DefaultValue}
use Rattle.net_data.specs.declared.statement.Given.{Given as Cells}
use Rattle.net_data.specs.declared.statement.NamedSet.{NamedSet}
use Rattle.net_data.specs.declared.statement.Statement.{Statement}
use Rattle.net_data.specs.declared.statement.Statement.TheVariants.{Set, List as Listed, Table, Columns}
use Rattle.net_bind.specs.declared.given.DataContent.{DataContent}
use Rattle.net_bind.specs.declared.given.DataContent.TheVariants as given
use Rattle.net_bind.specs.declared.given.NamedData.{NamedData}
use Rattle.net_sets.specs.Names.{located}
use Rattle.net_bind.specs.Names.{Declared, at_place, as_wanted, target}
use Rattle.net_bind.specs.DataByName.{Sorted, no_data, with_named_data, default_word, given_cells, grouped, named, with_named, lesser, set_first, first_of, or_zero, headed, set_headed, in_columns, in_statement, data_by_name}
use Rattle.net_base.specs.Places.{Places, Finds, Data, Refuted}
use Rattle.net_base.proofs.Found.{finds_then, Gives, gives_then, gives_each, gives_after}
use Rattle.net_base.proofs.Elements.{OfSome, all_append, all_set, all_index}
use Rattle.net_data.specs.Standing.{TokensHaveSpans, DefaultHasSpan, GivenHasSpans, NamedSetHasSpan, StatementHasSpans, StatementsHaveSpans}

-- what is said of a name stands at some places
abbrev pub SaidStands : (Span → Type 0) → DataContent → Type 0
SaidStands P (given.Members ts) = TokensHaveSpans P ts
SaidStands P (given.Groups g) = TokensHaveSpans P g.cells
SaidStands P (given.Grid g) = TokensHaveSpans P g.columns × TokensHaveSpans P g.cells

abbrev pub MentionStands : (Span → Type 0) → NamedData → Type 0
MentionStands P m = P m.word.span × OfSome (λ (t : Token). P t.span) m.default × SaidStands P m.given

abbrev pub MentionsStand : (Span → Type 0) → List NamedData → Type 0
MentionsStand P ms = AllByRecursion (MentionStands P) ms

abbrev pub SortedStands : (Span → Type 0) → Sorted → Type 0
SortedStands P all = AllByRecursion (MentionsStand P) all

default_stands : (P : Span → Type 0) (d : Option DefaultValue) → DefaultHasSpan P d → OfSome (λ (t : Token). P t.span) (default_word d)
default_stands P None h = tt
default_stands P (Some d) h = h

cells_stand : (P : Span → Type 0) (g : Option Cells) → GivenHasSpans P g → TokensHaveSpans P (given_cells g)
cells_stand P None h = tt
cells_stand P (Some g) h = h

module _ (P : Places) (unnamed : (at : Span) → P Data at → P (Refuted languages.Data) at) where
  pub finds_target : (ds : Declared) (is_set : Bool) (t : Token) → P Data t.span → Finds P (target ds is_set t)
  finds_target ds is_set t h = go (as_wanted is_set (located 0 ds t.text))
    where
      go : (o : Option ℕ) → Finds P (at_place t o)
      go None = unnamed t.span h
      go (Some i) = tt

  unsaid_stands : (ds : Declared) → SortedStands (P Data) (no_data ds)
  unsaid_stands [] = tt
  unsaid_stands (d ∷ ds) = (tt, unsaid_stands ds)

  with_mention_stands : (i : ℕ) (m : NamedData) (all : Sorted) → MentionStands (P Data) m → SortedStands (P Data) all → SortedStands (P Data) (with_named_data i m all)
  with_mention_stands i m all h k =
      all_set (MentionsStand (P Data)) all i (slice_index_or all i [] ++ m ∷ []) k
      (all_append (MentionStands (P Data)) (slice_index_or all i []) (m ∷ []) (all_index (MentionsStand (P Data)) all i [] k tt) (h, tt))

  gives_mentioned : (ds : Declared) (is_set : Bool) (word : Token) → P Data word.span → (m : ℕ → NamedData) → ((i : ℕ) → MentionStands (P Data) (m i))
      → (all : Sorted) → SortedStands (P Data) all → Gives P (SortedStands (P Data)) (with_named ds is_set word m all)
  gives_mentioned ds is_set word h m k all j =
      gives_after P (SortedStands (P Data)) (target ds is_set word) _ (finds_target ds is_set word h) (λ i. with_mention_stands i (m i) all (k i) j)

  finds_set_first : (ds : Declared) (s : Option NamedSet) → NamedSetHasSpan (P Data) s → Finds P (set_first ds s)
  finds_set_first ds None h = tt
  finds_set_first ds (Some s) h = finds_then P (target ds true s.name) _ (finds_target ds true s.name h) (λ i. tt)

  finds_first_of : (ds : Declared) (ts : List Token) → TokensHaveSpans (P Data) ts → (first : Option ℕ) → Finds P (first_of ds ts first)
  finds_first_of ds [] h first = tt
  finds_first_of ds (t ∷ ts) h first = finds_then P (target ds false t) _ (finds_target ds false t h.0) (λ i. finds_first_of ds ts h.1 (Some (lesser first i)))

  gives_headed : (ds : Declared) (leader values : ℕ) (cells : List Token) → TokensHaveSpans (P Data) cells → (place : ℕ) (ts : List Token) → TokensHaveSpans (P Data) ts
      → (all : Sorted) → SortedStands (P Data) all → Gives P (SortedStands (P Data)) (headed ds leader values cells place ts all)
  gives_headed ds leader values cells h place [] k all j = j
  gives_headed ds leader values cells h place (t ∷ ts) k all j =
      gives_then P (SortedStands (P Data)) (SortedStands (P Data)) (with_named ds false t (λ i. named t None (grouped leader values place cells)) all) (headed ds leader values cells (place + 1) ts)
      (gives_mentioned ds false t k.0 (λ i. named t None (grouped leader values place cells)) (λ i. (k.0, tt, h)) all j)
      (gives_headed ds leader values cells h (place + 1) ts k.1)

  gives_set_headed : (ds : Declared) (leader values : ℕ) (cells : List Token) → TokensHaveSpans (P Data) cells → (s : Option NamedSet) → NamedSetHasSpan (P Data) s
      → (all : Sorted) → SortedStands (P Data) all → Gives P (SortedStands (P Data)) (set_headed ds leader values cells s all)
  gives_set_headed ds leader values cells h None k all j = j
  gives_set_headed ds leader values cells h (Some s) k all j =
      gives_mentioned ds true s.name k (λ i. named s.name None (grouped leader values 0 cells)) (λ i. (k, tt, h)) all j

  gives_in_columns : (ds : Declared) (s : Option NamedSet) (names cells : List Token) → NamedSetHasSpan (P Data) s → TokensHaveSpans (P Data) names → TokensHaveSpans (P Data) cells
      → (all : Sorted) → SortedStands (P Data) all → Gives P (SortedStands (P Data)) (in_columns ds s names cells all)
  gives_in_columns ds s names cells h k m all j =
      gives_after P (SortedStands (P Data)) (and_then (set_first ds s) (first_of ds names)) _
      (finds_then P (set_first ds s) (first_of ds names) (finds_set_first ds s h) (finds_first_of ds names k)) (λ first.
      gives_then P (SortedStands (P Data)) (SortedStands (P Data)) (set_headed ds (or_zero first) (length names) cells s all) (headed ds (or_zero first) (length names) cells 0 names)
      (gives_set_headed ds (or_zero first) (length names) cells m s h all j) (gives_headed ds (or_zero first) (length names) cells m 0 names k))

  gives_in_statement : (ds : Declared) (s : Statement) → StatementHasSpans (P Data) s → (all : Sorted) → SortedStands (P Data) all → Gives P (SortedStands (P Data)) (in_statement ds s all)
  gives_in_statement ds (Set s) h all j = gives_mentioned ds true s.name h.0 _ (λ i. (h.0, tt, h.1)) all j
  gives_in_statement ds (Listed l) h all j = gives_mentioned ds false l.name h.0 _ (λ i. (h.0, default_stands (P Data) l.default h.1, cells_stand (P Data) l.given h.2)) all j
  gives_in_statement ds (Table t) h all j = gives_mentioned ds false t.name h.0 _ (λ i. (h.0, default_stands (P Data) t.default h.1, (h.2, h.3))) all j
  gives_in_statement ds (Columns c) h all j = gives_in_columns ds c.set c.names c.cells h.0 h.1 h.2 all j

  pub gives_said : (ds : Declared) (ss : List Statement) → StatementsHaveSpans (P Data) ss → Gives P (SortedStands (P Data)) (data_by_name ds ss)
  gives_said ds ss h = gives_each P (StatementHasSpans (P Data)) (SortedStands (P Data)) (in_statement ds) (gives_in_statement ds) ss h (no_data ds) (unsaid_stands ds)
