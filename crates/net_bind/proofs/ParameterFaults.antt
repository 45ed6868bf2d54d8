-- What declared parameters are refused for stands at their phrases and at the data's cells.
use Rattle.std.specs.Prelude.{ℕ, ◌+◌, Bool, true, false, ◌&&◌, ◌||◌, List, [], ◌∷◌, length, take, nat_eq, nat_le, nat_lt, slice_get, is_some, if◌then◌else◌, Option, None, Some, ℤ, ⊤}
use Rattle.std.specs.List.{AllByRecursion}
use Rattle.net_base.specs.declared.diagnostic.Span.{Span}
use Rattle.net_base.specs.declared.diagnostic.Detail.{Detail}
use Rattle.net_base.specs.declared.diagnostic.Language.{Language}
use Rattle.net_base.specs.declared.diagnostic.Language.TheVariants as languages
use Rattle.net_base.specs.Outcomes.{and_then, each}
use Rattle.net_lex.specs.declared.token.Token.{Token}
use Rattle.net_sets.specs.Limits.{tuples_limit}
use Rattle.net_sets.specs.Operations.{union}
use Rattle.net_sets.specs.Sets.{Tuple, has, at_key}
use Rattle.net_sets.specs.declared.member.Member.{Member}
use Rattle.net_data.specs.Rows.{points}
use Rattle.net_tree.specs.Role.{role_of}
use Rattle.net_tree.specs.Spans.{span_of}
use Rattle.net_tree.specs.Tree.{Tree, Braces, Body, plain, valued, priced, Phrase}
use Rattle.net_expr.specs.declared.row.Row.{Row}
use Rattle.net_expr.specs.declared.value.Value.{Value}
use Rattle.net_expr.specs.declared.value.Value.TheVariants.{One}
use Rattle.net_expr.specs.Operators as operators
use Rattle.net_expr.specs.Numbers.{number}
use Rattle.net_expr.specs.Rows.{keys_of}
use Rattle.net_expr.specs.Values.{value, index}
use Rattle.net_expr.specs.Worlds.{World, Scope, key_count, reference}
use Rattle.net_bind.specs.declared.given.DataContent.{DataContent}
use Rattle.net_bind.specs.declared.given.DataContent.TheVariants as given
use Rattle.net_bind.specs.declared.given.NamedData.{NamedData}
use Rattle.net_tree.specs.declared.role.Relation.{Relation}
use Rattle.net_tree.specs.declared.role.Relation.TheVariants as relations
use Rattle.net_tree.specs.declared.role.Role.{Role}
use Rattle.net_tree.specs.Phrases.{is_becomes, is_default}
use Rattle.net_tree.specs.PhraseValues.{expression_of, phrase_value}
use Rattle.net_bind.specs.Cells.{tuple_in, member_in}
use Rattle.net_bind.specs.SetData.{begins_at, cut, leading_size, agrees}
use Rattle.net_bind.specs.Restrictions.{relation, ordered, compared, related, holding, restricted_by, restricted_in, restricted}
use Rattle.net_bind.specs.Rows.{KeyedParameter, NamedParameter, named_as, Table, Taken, All, with_value, with_row, with_cell, with_group, pair_of, across, with_line, has_two, shaped, with_rows, taken, either, with_statement}
use Rattle.net_bind.specs.BoundParameters.{PlacedValues, placed, keyed, source_in, takes_texts, span_or, index_list, Source, source, source_text, place_in, source_at, member_by, from_source, insert_value, with_key, is_number, cell_of, no_text, fit_kind, keys_with, fit_value, fit_row, fit_values, untaken, data_of, valued_by, values, fill_table, bound_parameter}
use Rattle.net_sets.specs.Sets.{place_of}
use Rattle.net_base.specs.Places.{Places, Finds, Model, Data, region}
use Rattle.net_tree.specs.Standing.{Stands, IndexingHasSpans, BodyHasSpans, PhrasesHaveSpans}
use Rattle.net_base.proofs.Found.{finds_then, finds_if, finds_each, Gives, gives_then, gives_if, gives_each, gives_after, finds_after}
use Rattle.net_base.proofs.Elements.{OfSome, all_take, all_append, all_get}
use Rattle.net_expr.proofs.OperatorFaults.{finds_number, finds_same, finds_belongs, finds_member}
use Rattle.net_expr.proofs.ValueFaults.{whole_stands, braces_stand, finds_value, finds_index}
use Rattle.net_data.specs.Standing.{TokensHaveSpans}
use Rattle.net_bind.proofs.NameFaults.{MentionStands, MentionsStand, SaidStands}
use Rattle.net_bind.proofs.SetFaults.{cut_stands, begins_stands, finds_whole_groups, finds_agrees}
use Rattle.net_expr.specs.Indexings.{indexing_in}

-- a source stands where it is written: a tree of the model's, or a token of the data's
abbrev pub SourceStands : Places → Option Tree → Option Token → Type 0
SourceStands P (Some x) None = Stands (P Model) x
SourceStands P (Some x) (Some c) = ⊥
SourceStands P None (Some c) = P Data c.span
SourceStands P None None = ⊤

module _ (P : Places) where
  -- the places of the values that data gave
  abbrev TakenStands : Taken → Type 0
  TakenStands t = AllByRecursion (P Data) t.1

  abbrev AllStand : All → Type 0
  AllStand a = TakenStands a.0 × OfSome (λ (t : Token). P Data t.span) a.1

  -- ---- what data say

  finds_with_value : (text : Language) (at : Span) → P (region false text) at → (key : Tuple) (m : Member) (t : Table) → Finds P (with_value text at key m t)
  finds_with_value text at h key m t = finds_if P (nat_lt (length t) tuples_limit) _ _ tt h

  gives_with_row : (p : NamedParameter) (key : List Token) → TokensHaveSpans (P Data) key → (v : Token) → P Data v.span → (t : Taken) → TakenStands t → Gives P TakenStands (with_row p key v t)
  gives_with_row p key h v k t j =
      gives_if P TakenStands (is_some (at_key t.0 (tuple_in key))) _ _ (begins_stands (P Data) v.span k key h)
      (gives_if P TakenStands (has p.index (tuple_in key)) _ _
      (gives_after P TakenStands (with_value languages.Data (begins_at v.span key) (tuple_in key) (member_in v) t.0) _
      (finds_with_value languages.Data (begins_at v.span key) (begins_stands (P Data) v.span k key h) (tuple_in key) (member_in v) t.0) (λ u. all_append (P Data) t.1 (v.span ∷ []) j (k, tt)))
      (begins_stands (P Data) v.span k key h))

  gives_with_cell : (p : NamedParameter) (key : List Token) → TokensHaveSpans (P Data) key → (v : Option Token) → OfSome (λ (c : Token). P Data c.span) v
      → (t : Taken) → TakenStands t → Gives P TakenStands (with_cell p key v t)
  gives_with_cell p key h None k t j = j
  gives_with_cell p key h (Some v) k t j = gives_if P TakenStands (points v.kind) _ _ j (gives_with_row p key h v k t j)

  gives_with_group : (p : NamedParameter) (keys place : ℕ) (g : List Token) → TokensHaveSpans (P Data) g → (t : Taken) → TakenStands t
      → Gives P TakenStands (with_group p keys place g t)
  gives_with_group p keys place g h t j = gives_with_cell p (take keys g) (all_take _ keys g h) (slice_get g (keys + place)) (all_get _ g (keys + place) h) t j

  pair_stands : (transposed : Bool) (row column : Token) → P Data row.span → P Data column.span → TokensHaveSpans (P Data) (pair_of transposed row column)
  pair_stands false row column h k = (h, (k, tt))
  pair_stands true row column h k = (k, (h, tt))

  gives_across : (p : NamedParameter) (transposed : Bool) (row : Token) → P Data row.span → (columns : List Token) → TokensHaveSpans (P Data) columns
      → (cells : List Token) → TokensHaveSpans (P Data) cells → (t : Taken) → TakenStands t → Gives P TakenStands (across p transposed row columns cells t)
  gives_across p transposed row h [] k cells m t j = j
  gives_across p transposed row h (c ∷ cs) k [] m t j = j
  gives_across p transposed row h (c ∷ cs) k (cell ∷ cells) m t j =
      gives_then P TakenStands TakenStands (with_cell p (pair_of transposed row c) (Some cell) t) (across p transposed row cs cells)
      (gives_with_cell p (pair_of transposed row c) (pair_stands transposed row c h k.0) (Some cell) m.0 t j) (gives_across p transposed row h cs k.1 cells m.1)

  gives_with_line : (p : NamedParameter) (transposed : Bool) (columns : List Token) → TokensHaveSpans (P Data) columns → (line : List Token) → TokensHaveSpans (P Data) line
      → (t : Taken) → TakenStands t → Gives P TakenStands (with_line p transposed columns line t)
  gives_with_line p transposed columns k [] m t j = j
  gives_with_line p transposed columns k (row ∷ cells) m t j = gives_across p transposed row m.0 columns k cells m.1 t j

  finds_shaped : (widths : List ℕ) (n : ℕ) (word : Token) → P Data word.span → (g : DataContent) → SaidStands (P Data) g → Finds P (shaped widths n word g)
  finds_shaped widths n word h (given.Members ts) k = tt
  finds_shaped widths n word h (given.Groups g) k =
      finds_then P (agrees word (leading_size widths g.leader n) n) _ (finds_agrees P word h (leading_size widths g.leader n) n)
      (λ u. finds_whole_groups P word.span h n (n + g.values) (cut (n + g.values) g.cells) (cut_stands (P Data) (n + g.values) g.cells k))
  finds_shaped widths n word h (given.Grid g) k =
      finds_then P (has_two word n) _ (finds_if P (nat_eq n 2) _ _ tt h)
      (λ u. finds_whole_groups P word.span h 1 (1 + length g.columns) (cut (1 + length g.columns) g.cells) (cut_stands (P Data) (1 + length g.columns) g.cells k.1))

  gives_with_rows : (p : NamedParameter) (size : ℕ) (g : DataContent) → SaidStands (P Data) g → (t : Taken) → TakenStands t → Gives P TakenStands (with_rows p size g t)
  gives_with_rows p size (given.Members ts) k t j = j
  gives_with_rows p size (given.Groups g) k t j =
      gives_each P (TokensHaveSpans (P Data)) TakenStands (with_group p size g.place) (gives_with_group p size g.place) (cut (size + g.values) g.cells)
      (cut_stands (P Data) (size + g.values) g.cells k) t j
  gives_with_rows p size (given.Grid g) k t j =
      gives_each P (TokensHaveSpans (P Data)) TakenStands (with_line p g.transposed g.columns) (gives_with_line p g.transposed g.columns k.0) (cut (1 + length g.columns) g.cells)
      (cut_stands (P Data) (1 + length g.columns) g.cells k.1) t j

  gives_taken : (widths : List ℕ) (p : NamedParameter) (size : ℕ) → P Data p.word.span → (g : DataContent) → SaidStands (P Data) g → (is_doubled : Bool) (t : Taken) → TakenStands t
      → Gives P TakenStands (taken widths p size g is_doubled t)
  gives_taken widths p size h g k is_doubled t j =
      gives_after P TakenStands (shaped widths size p.word g) _ (finds_shaped widths size p.word h g k) (λ u. gives_if P TakenStands is_doubled _ _ h (gives_with_rows p size g k t j))

  either_stands : (a b : Option Token) → OfSome (λ (t : Token). P Data t.span) a → OfSome (λ (t : Token). P Data t.span) b → OfSome (λ (t : Token). P Data t.span) (either a b)
  either_stands None b h k = k
  either_stands (Some c) b h k = h

  gives_with_statement : (widths : List ℕ) (p : KeyedParameter) (size : ℕ) (is_assigned : Bool) (m : NamedData) → MentionStands (P Data) m → (all : All) → AllStand all
      → Gives P AllStand (with_statement widths p size is_assigned m all)
  gives_with_statement widths p size is_assigned m h all k =
      gives_then P TakenStands AllStand (taken widths (named_as m.word p) size m.given (is_assigned || (is_some m.default && is_some all.1)) all.0) _
      (gives_taken widths (named_as m.word p) size h.0 m.given h.2 (is_assigned || (is_some m.default && is_some all.1)) all.0 k.0) (λ t j. (j, either_stands all.1 m.default k.1 h.1))

  gives_said_of : (widths : List ℕ) (p : KeyedParameter) (is_assigned : Bool) (ms : List NamedData) → MentionsStand (P Data) ms → Gives P AllStand (data_of widths p is_assigned ms)
  gives_said_of widths p is_assigned ms h =
      gives_each P (MentionStands (P Data)) AllStand (with_statement widths p (key_count p.keys) is_assigned) (gives_with_statement widths p (key_count p.keys) is_assigned) ms h untaken (tt, tt)

  -- ---- what phrases ask

  finds_ordered : (at : Span) → P Model at → (holds : ℤ → ℤ → Bool) (m : Member) (v : Value) → Finds P (ordered at holds m v)
  finds_ordered at h holds m v = finds_then P (number at (One m)) _ (finds_number P at h (One m)) (λ a. finds_then P (number at v) _ (finds_number P at h v) (λ b. tt))

  finds_related : (at : Span) → P Model at → (r : Relation) (m : Member) (v : Value) → Finds P (related at r m v)
  finds_related at h relations.Less m v = finds_ordered at h (compared relations.Less) m v
  finds_related at h relations.AtMost m v = finds_ordered at h (compared relations.AtMost) m v
  finds_related at h relations.Greater m v = finds_ordered at h (compared relations.Greater) m v
  finds_related at h relations.AtLeast m v = finds_ordered at h (compared relations.AtLeast) m v
  finds_related at h relations.Unequal m v = finds_then P (operators.same at (One m) v) _ (finds_same P at h (One m) v) (λ b. tt)
  finds_related at h relations.In m v = finds_belongs P at h (One m) v
  finds_related at h relations.Equal m v = tt
  finds_related at h relations.Within m v = tt

  finds_restricted_by : (w : World) (s : Scope) (d : Detail) (m : Member) (r : Option Relation) (x : Tree) → Stands (P Model) x → Finds P (restricted_by w s d m r x)
  finds_restricted_by w s d m None x h = tt
  finds_restricted_by w s d m (Some r) x h =
      finds_then P (value w s x) _ (finds_value P w s x h) (λ v.
      finds_then P (related (span_of x) r m v) (holding (span_of x) d) (finds_related (span_of x) (whole_stands (P Model) x h) r m v) (λ b. finds_if P b _ _ tt (whole_stands (P Model) x h)))

  finds_restricted_in : (w : World) (s : Scope) (d : Detail) (m : Member) (word : Token) (b : Body) → BodyHasSpans (P Model) b → Finds P (restricted_in w s d m word b)
  finds_restricted_in w s d m word plain h = tt
  finds_restricted_in w s d m word (valued x) h = finds_restricted_by w s d m (relation word) x h
  finds_restricted_in w s d m word (priced n x) h = tt

  finds_restricted : (w : World) (s : Scope) (d : Detail) (m : Member) (ps : List Phrase) → PhrasesHaveSpans (P Model) ps → Finds P (restricted w s d m ps)
  finds_restricted w s d m [] h = tt
  finds_restricted w s d m (p ∷ ps) h = finds_then P (restricted_in w s d m p.word p.body) _ (finds_restricted_in w s d m p.word p.body h.1) (λ u. finds_restricted w s d m ps h.2)

  -- ---- values

  pub finds_indexing_in : (w : World) (b : Option Braces) → IndexingHasSpans (P Model) b → Finds P (indexing_in w b)
  finds_indexing_in w None h = tt
  finds_indexing_in w (Some b) h = finds_then P (index w [] b) _ (finds_index P w [] b h) (λ k. tt)

  span_or_stands : (at : Span) → P Model at → (b : Option Braces) → IndexingHasSpans (P Model) b → P Model (span_or at b)
  span_or_stands at h None k = h
  span_or_stands at h (Some b) k = braces_stand (P Model) b k

  finds_index_list : (at : Span) → P Model at → (rows : List Row) → Finds P (index_list at rows)
  finds_index_list at h rows = finds_if P (nat_le (length (union [] (keys_of rows))) tuples_limit) _ _ tt h

  source_stands : (at : Span) → P Model at → (x : Option Tree) (c : Option Token) → SourceStands P x c → P (region false (source_text c)) (place_in at x c)
  source_stands at h (Some x) None k = whole_stands (P Model) x k
  source_stands at h (Some x) (Some c) k = absurd k
  source_stands at h None (Some c) k = k
  source_stands at h None None k = h

  finds_member_by : (w : World) (s : Scope) (x : Option Tree) (c : Option Token) → SourceStands P x c → Finds P (member_by w s x c)
  finds_member_by w s (Some x) None h =
      finds_then P (and_then (value w s x) (operators.member (span_of x))) _
      (finds_then P (value w s x) _ (finds_value P w s x h) (finds_member P (span_of x) (whole_stands (P Model) x h))) (λ m. tt)
  finds_member_by w s (Some x) (Some c) h = absurd h
  finds_member_by w s None (Some c) h = tt
  finds_member_by w s None None h = tt

  finds_with_found : (text : Language) (at : Span) → P (region false text) at → (key : Tuple) (m : Option Member) (t : Table) → Finds P (insert_value text at key m t)
  finds_with_found text at h key None t = tt
  finds_with_found text at h key (Some m) t = finds_with_value text at h key m t

  finds_with_key : (w : World) (at : Span) → P Model at → (x : Source) → SourceStands P x.0 x.1 → (r : Row) (t : Table) → Finds P (with_key w at x r t)
  finds_with_key w at h x k r t =
      finds_if P (is_some (at_key t r.key)) _ _ tt
      (finds_then P (from_source w r.scope x) _ (finds_member_by w r.scope x.0 x.1 k) (λ m. finds_with_found (source_text x.1) (source_at at x) (source_stands at h x.0 x.1 k) r.key m t))

  finds_fit_kind : (texts : Bool) (text : Language) (at : Span) → P (region false text) at → (cell : Option Span) → OfSome (P Data) cell → (m : Member) → Finds P (fit_kind texts text at cell m)
  finds_fit_kind texts text at h cell k m = finds_if P (texts || is_number m) _ _ tt (go cell k)
    where
      go : (cell : Option Span) → OfSome (P Data) cell → Finds P (no_text text at cell)
      go None j = h
      go (Some c) j = j

  cell_stands : (cells : List Span) → AllByRecursion (P Data) cells → (i : Option ℕ) → OfSome (P Data) (cell_of cells i)
  cell_stands cells h None = tt
  cell_stands cells h (Some i) = all_get (P Data) cells i h

  finds_fit_value : (w : World) (p : KeyedParameter) → PhrasesHaveSpans (P Model) p.phrases → (v : PlacedValues) → P (region false v.text) v.at → AllByRecursion (P Data) v.cells → (r : Row) (m : Option Member)
      → Finds P (fit_value w p v r m)
  finds_fit_value w p h v k j r None = tt
  finds_fit_value w p h v k j r (Some m) =
      finds_then P (fit_kind (takes_texts p.phrases) v.text v.at (cell_of v.cells (place_of (keys_with v.table) r.key)) m) _
      (finds_fit_kind (takes_texts p.phrases) v.text v.at k (cell_of v.cells (place_of (keys_with v.table) r.key)) (cell_stands v.cells j (place_of (keys_with v.table) r.key)) m)
      (λ u. finds_restricted w r.scope (reference p.name.text p.keys r.key) m p.phrases h)

  finds_fit_values : (w : World) (p : KeyedParameter) → PhrasesHaveSpans (P Model) p.phrases → (v : PlacedValues) → P (region false v.text) v.at → AllByRecursion (P Data) v.cells → (rows : List Row) → Finds P (fit_values w p v rows)
  finds_fit_values w p h v k j [] = tt
  finds_fit_values w p h v k j (r ∷ rows) =
      finds_then P (fit_row w p v r) _ (finds_fit_value w p h v k j r (at_key v.table r.key)) (λ u. finds_fit_values w p h v k j rows)

  finds_values : (w : World) (p : KeyedParameter) → P Model p.name.span → PhrasesHaveSpans (P Model) p.phrases → (x : Source) → SourceStands P x.0 x.1 → (rows : List Row) (t : Taken) → TakenStands t
      → Finds P (values w p x rows t)
  finds_values w p h k x j rows t m =
      finds_then P (each (with_key w p.name.span x) rows t.0) (valued_by w p x rows t) (finds_each P (with_key w p.name.span x) (finds_with_key w p.name.span h x j) rows t.0) (λ table.
      finds_then P (fit_values w p (placed p x t table) rows) _ (finds_fit_values w p k (placed p x t table) (source_stands p.name.span h x.0 x.1 j) m rows) (λ u. tt))

  body_stands : (b : Body) → BodyHasSpans (P Model) b → OfSome (Stands (P Model)) (expression_of b)
  body_stands plain h = tt
  body_stands (valued x) h = h
  body_stands (priced n x) h = tt

  phrase_stands : (test : Role → Bool) (ps : List Phrase) → PhrasesHaveSpans (P Model) ps → OfSome (Stands (P Model)) (phrase_value test ps)
  phrase_stands test [] h = tt
  phrase_stands test (p ∷ ps) h = go (test (role_of p.word)) (phrase_stands test ps h.2)
    where
      go : (b : Bool) → OfSome (Stands (P Model)) (phrase_value test ps) → OfSome (Stands (P Model)) (if b then expression_of p.body else phrase_value test ps)
      go true k = body_stands p.body h.1
      go false k = k

  chosen_stands : (x : Option Tree) (c : Option Token) (y : Option Tree) → OfSome (Stands (P Model)) x → OfSome (λ (t : Token). P Data t.span) c → OfSome (Stands (P Model)) y
      → SourceStands P (source x c y).0 (source x c y).1
  chosen_stands (Some x) c y h k j = h
  chosen_stands None (Some c) y h k j = k
  chosen_stands None None (Some y) h k j = j
  chosen_stands None None None h k j = tt

  finds_filled : (w : World) (widths : List ℕ) (p : KeyedParameter) → P Model p.name.span → PhrasesHaveSpans (P Model) p.phrases → (ms : List NamedData) → MentionsStand (P Data) ms → (rows : List Row)
      → Finds P (fill_table w widths p ms rows)
  finds_filled w widths p h k ms j rows =
      let assigned = phrase_value is_becomes p.phrases in
      finds_after P AllStand (data_of widths p (is_some assigned) ms) _ (gives_said_of widths p (is_some assigned) ms j) (λ all i.
      finds_values w p h k (source_in p all.1) (chosen_stands assigned all.1 (phrase_value is_default p.phrases) (phrase_stands is_becomes p.phrases k) i.1 (phrase_stands is_default p.phrases k)) rows all.0 i.0)

  pub finds_bound_parameter : (w : World) (widths : List ℕ) (name : Token) → P Model name.span → (b : Option Braces) → IndexingHasSpans (P Model) b → (ps : List Phrase) → PhrasesHaveSpans (P Model) ps
      → (ms : List NamedData) → MentionsStand (P Data) ms → Finds P (bound_parameter w widths name b ps ms)
  finds_bound_parameter w widths name h b g ps k ms j =
      finds_then P (indexing_in w b) _ (finds_indexing_in w b g) (λ i.
      finds_then P (index_list (span_or name.span b) i.rows) _ (finds_index_list (span_or name.span b) (span_or_stands name.span h b g) i.rows) (λ index.
      finds_then P (fill_table w widths (keyed name ps i index) ms i.rows) _ (finds_filled w widths (keyed name ps i index) h k ms j i.rows) (λ t. tt)))
