-- The tokens in the rows of data statements are among those of the statements.
use Rattle.std.specs.Prelude.{ℕ, zero, suc, ◌+◌, Bool, true, false, List, [], ◌∷◌, length, take, drop, map, slice_get, if◌then◌else◌, unwrap_or, codes, Option, None, Some}
use Rattle.std.specs.List.{AllByRecursion, AllZip, flat_map, zip, cons_option}
use Rattle.std.specs.Option.{ForSome}
use Rattle.std.specs.Str.{bytes_eq}
use Rattle.std.proofs.Common.{refl, sym, subst}
use Rattle.net_base.proofs.Elements.{OfSome, all_append, all_take, all_drop, all_filter, all_get}
use Rattle.net_lex.specs.declared.token.Kind.{Kind}
use Rattle.net_lex.specs.declared.token.Kind.TheVariants as kinds
use Rattle.net_lex.specs.declared.token.Token.{Token}
use Rattle.net_data.specs.declared.statement.DefaultValue.{DefaultValue}
use Rattle.net_data.specs.declared.statement.Given.{Given}
use Rattle.net_data.specs.declared.statement.Statement.{Statement}
use Rattle.net_data.specs.declared.statement.Statement.TheVariants as statements
use Rattle.net_data.specs.declared.statement.Transposed.{Transposed}
use Rattle.net_data.specs.Commas.{uncommaed}
use Rattle.net_data.specs.Rows.{DataRow, points, row_of, groups_from, groups, table_keys, row_across, given_rows, rows, key_rows, inside_len, first_item, begins_tuple, more_items, alone_len, first_row, more_rows, set_rows_from, set_rows}
use Rattle.net_data.specs.Tests.{is_mark}
use Rattle.net_sets.specs.declared.member.Member.{Member}
use Rattle.net_sets.specs.Sets.{Tuple}
use Rattle.net_sets.specs.Texts.{text_of}
use Rattle.net_expr.specs.Worlds.{Name}
use Rattle.net_meaning.specs.Texts.{MemberHolds, TupleHolds, TuplesHold, TokenHolds, TokensHold, StatementHolds, StatementsHold}
use Rattle.net_meaning.specs.World.{IsDataValueOf, IsDataValue, AreDataValues, rows_at, rows_of, is_set_named, set_rows_of, default_token, default_in, data_rows, data_defaults}

module _ (P : List ℕ → Type 0) where
  -- ---- the values of tokens

  data_value_of_holds : (k : Kind) (text : List ℕ) (m : Member) → P (text_of text) → IsDataValueOf k text m → MemberHolds P m
  data_value_of_holds kinds.Dot text m h is = absurd is
  data_value_of_holds kinds.Num text m h (n, i, e) = subst (MemberHolds P) (sym e) tt
  data_value_of_holds kinds.Name text m h e = subst (MemberHolds P) (sym e) h
  data_value_of_holds kinds.Key text m h e = subst (MemberHolds P) (sym e) h
  data_value_of_holds kinds.Str text m h e = subst (MemberHolds P) (sym e) h
  data_value_of_holds kinds.Mark text m h e = subst (MemberHolds P) (sym e) h

  pub data_value_holds : (t : Token) (m : Member) → TokenHolds P t → IsDataValue t m → MemberHolds P m
  data_value_holds t m h is = data_value_of_holds t.kind t.text m h is

  data_values_hold : (ts : List Token) (key : Tuple) → TokensHold P ts → AreDataValues ts key → TupleHolds P key
  data_values_hold [] [] h z = tt
  data_values_hold [] (m ∷ key) h z = absurd z
  data_values_hold (t ∷ ts) [] h z = absurd z
  data_values_hold (t ∷ ts) (m ∷ key) h z = (data_value_holds t m h.0 z.0, data_values_hold ts key h.1 z.1)

  -- the tokens of each list hold P
  abbrev pub LinesHold : List (List Token) → Type 0
  LinesHold lines = AllByRecursion (TokensHold P) lines

  pub lines_hold : (lines : List (List Token)) (ts : List Tuple) → LinesHold lines → AllZip AreDataValues lines ts → TuplesHold P ts
  lines_hold [] [] h z = tt
  lines_hold [] (t ∷ ts) h z = absurd z
  lines_hold (l ∷ lines) [] h z = absurd z
  lines_hold (l ∷ lines) (t ∷ ts) h z = (data_values_hold l t h.0 z.0, lines_hold lines ts h.1 z.1)

  -- ---- the rows of a parameter

  groups_hold : (size turns : ℕ) (ts : List Token) → TokensHold P ts → LinesHold (groups_from size turns ts)
  groups_hold size zero ts h = tt
  groups_hold size (suc n) [] h = tt
  groups_hold size (suc n) (t ∷ ts) h = (all_take (TokenHolds P) size (t ∷ ts) h, groups_hold size n (drop size (t ∷ ts)) (all_drop (TokenHolds P) size (t ∷ ts) h))

  -- the keys and the value of a row hold P
  abbrev pub RowHolds : DataRow → Type 0
  RowHolds r = TokensHold P r.keys × TokenHolds P r.value

  abbrev pub RowsHold : List DataRow → Type 0
  RowsHold rs = AllByRecursion RowHolds rs

  row_holds : (keys : List Token) (o : Option Token) → TokensHold P keys → OfSome (TokenHolds P) o → RowsHold (row_of keys o)
  row_holds keys None h k = tt
  row_holds keys (Some t) h k = go (points t.kind)
    where
      go : (b : Bool) → RowsHold (if b then [] else record { keys = keys; value = t } ∷ [])
      go true = tt
      go false = ((h, k), tt)

  list_rows_hold : (keys place : ℕ) (lines : List (List Token)) → LinesHold lines → RowsHold (flat_map (λ group. row_of (take keys group) (slice_get group (keys + place))) lines)
  list_rows_hold keys place [] h = tt
  list_rows_hold keys place (l ∷ lines) h =
      all_append RowHolds (row_of (take keys l) (slice_get l (keys + place))) (flat_map (λ group. row_of (take keys group) (slice_get group (keys + place))) lines)
      (row_holds (take keys l) (slice_get l (keys + place)) (all_take (TokenHolds P) keys l h.0) (all_get (TokenHolds P) l (keys + place) h.0)) (list_rows_hold keys place lines h.1)

  table_keys_hold : (o : Option Transposed) (row column : Token) → TokenHolds P row → TokenHolds P column → TokensHold P (table_keys o row column)
  table_keys_hold None row column h k = (h, (k, tt))
  table_keys_hold (Some t) row column h k = (k, (h, tt))

  across_hold : (o : Option Transposed) (row : Token) (columns values : List Token) → TokenHolds P row → TokensHold P columns → TokensHold P values
      → RowsHold (flat_map (λ pair. row_of (table_keys o row pair.0) (Some pair.1)) (zip columns values))
  across_hold o row [] values h k l = tt
  across_hold o row (c ∷ cs) [] h k l = tt
  across_hold o row (c ∷ cs) (v ∷ vs) h k l =
      all_append RowHolds (row_of (table_keys o row c) (Some v)) (flat_map (λ pair. row_of (table_keys o row pair.0) (Some pair.1)) (zip cs vs))
      (row_holds (table_keys o row c) (Some v) (table_keys_hold o row c h k.0) l.0) (across_hold o row cs vs h k.1 l.1)

  line_across_holds : (o : Option Transposed) (columns line : List Token) → TokensHold P columns → TokensHold P line → RowsHold (row_across o columns line)
  line_across_holds o columns [] h k = tt
  line_across_holds o columns (row ∷ values) h k = across_hold o row columns values k.0 h k.1

  table_rows_hold : (o : Option Transposed) (columns : List Token) (lines : List (List Token)) → TokensHold P columns → LinesHold lines → RowsHold (flat_map (row_across o columns) lines)
  table_rows_hold o columns [] h k = tt
  table_rows_hold o columns (l ∷ lines) h k =
      all_append RowHolds (row_across o columns l) (flat_map (row_across o columns) lines) (line_across_holds o columns l h k.0) (table_rows_hold o columns lines h k.1)

  given_rows_hold : (keys : ℕ) (o : Option Given) → ForSome o (λ (g : Given). TokensHold P g.cells) → RowsHold (given_rows keys o)
  given_rows_hold keys None h = tt
  given_rows_hold keys (Some g) h = list_rows_hold keys 0 (groups (keys + 1) g.cells) (groups_hold (keys + 1) (length g.cells) g.cells (h g refl))

  statement_rows_hold : (keys place : ℕ) (s : Statement) → StatementHolds P s → RowsHold (rows keys place s)
  statement_rows_hold keys place (statements.Set s) h = tt
  statement_rows_hold keys place (statements.List l) h = given_rows_hold keys l.given h.1
  statement_rows_hold keys place (statements.Table t) h =
      table_rows_hold t.transposed t.columns (groups (length t.columns + 1) t.cells) h.1 (groups_hold (length t.columns + 1) (length t.cells) t.cells h.2)
  statement_rows_hold keys place (statements.Columns c) h =
      list_rows_hold keys place (groups (keys + length c.names) c.cells) (groups_hold (keys + length c.names) (length c.cells) c.cells h)

  rows_at_hold : (size column : ℕ) (s : Statement) (n : Name) (ts : List Token) → StatementHolds P s → RowsHold (rows_at size column s n ts)
  rows_at_hold size column s n [] h = tt
  rows_at_hold size column s n (t ∷ ts) h =
      all_append RowHolds (if bytes_eq t.text n then rows size column s else []) (rows_at size (column + 1) s n ts) (go (bytes_eq t.text n)) (rows_at_hold size (column + 1) s n ts h)
    where
      go : (b : Bool) → RowsHold (if b then rows size column s else [])
      go true = statement_rows_hold size column s h
      go false = tt

  rows_of_hold : (size : ℕ) (n : Name) (s : Statement) → StatementHolds P s → RowsHold (rows_of size n s)
  rows_of_hold size n (statements.Set s) h = tt
  rows_of_hold size n (statements.List l) h = rows_at_hold size 0 (statements.List l) n (l.name ∷ []) h
  rows_of_hold size n (statements.Table t) h = rows_at_hold size 0 (statements.Table t) n (t.name ∷ []) h
  rows_of_hold size n (statements.Columns c) h = rows_at_hold size 0 (statements.Columns c) n c.names h

  pub data_rows_hold : (size : ℕ) (n : Name) (ss : List Statement) → StatementsHold P ss → RowsHold (data_rows size n ss)
  data_rows_hold size n [] h = tt
  data_rows_hold size n (s ∷ ss) h = all_append RowHolds (rows_of size n s) (data_rows size n ss) (rows_of_hold size n s h.0) (data_rows_hold size n ss h.1)

  -- the keys of a row are the values of its tokens
  pub row_key_holds : (r : DataRow) (key : Tuple) → RowHolds r → AreDataValues r.keys key → TupleHolds P key
  row_key_holds r key h z = data_values_hold r.keys key h.0 z

  -- ---- the rows of a set

  first_item_holds : (ts : List Token) → TokensHold P ts → TokensHold P (unwrap_or (first_item ts) [])
  first_item_holds [] h = tt
  first_item_holds (t ∷ ts) h = go (is_mark (codes "(") t)
    where
      go : (b : Bool) → TokensHold P (unwrap_or (if b then Some (uncommaed (take (inside_len ts) ts)) else Some (t ∷ [])) [])
      go true = all_filter (TokenHolds P) _ (take (inside_len ts) ts) (all_take (TokenHolds P) (inside_len ts) ts h.1)
      go false = (h.0, tt)

  more_items_hold : (ts : List Token) → TokensHold P ts → TokensHold P (more_items ts)
  more_items_hold [] h = tt
  more_items_hold (t ∷ ts) h = go (is_mark (codes "(") t) (is_mark (codes ";") t)
    where
      go : (a b : Bool) → TokensHold P (if a then drop (suc (inside_len ts)) ts else if b then [] else ts)
      go true b = all_drop (TokenHolds P) (suc (inside_len ts)) ts h.1
      go false true = tt
      go false false = h.1

  first_row_holds : (d : ℕ) (ts : List Token) → TokensHold P ts → TokensHold P (first_row d ts)
  first_row_holds d ts h = go (begins_tuple ts)
    where
      go : (b : Bool) → TokensHold P (if b then unwrap_or (first_item ts) [] else take d (take (alone_len ts) ts))
      go true = first_item_holds ts h
      go false = all_take (TokenHolds P) d (take (alone_len ts) ts) (all_take (TokenHolds P) (alone_len ts) ts h)

  more_rows_hold : (d : ℕ) (ts : List Token) → TokensHold P ts → TokensHold P (more_rows d ts)
  more_rows_hold d ts h = go (begins_tuple ts)
    where
      go : (b : Bool) → TokensHold P (if b then more_items ts else drop (length (take d (take (alone_len ts) ts))) ts)
      go true = more_items_hold ts h
      go false = all_drop (TokenHolds P) (length (take d (take (alone_len ts) ts))) ts h

  set_rows_from_hold : (d turns : ℕ) (ts : List Token) → TokensHold P ts → LinesHold (set_rows_from d turns ts)
  set_rows_from_hold d zero ts h = tt
  set_rows_from_hold d (suc n) [] h = tt
  set_rows_from_hold d (suc n) (t ∷ ts) h = (first_row_holds d (t ∷ ts) h, set_rows_from_hold d n (more_rows d (t ∷ ts)) (more_rows_hold d (t ∷ ts) h))

  heads_hold : (n : ℕ) (lines : List (List Token)) → LinesHold lines → LinesHold (map (λ group. take n group) lines)
  heads_hold n [] h = tt
  heads_hold n (l ∷ lines) h = (all_take (TokenHolds P) n l h.0, heads_hold n lines h.1)

  set_rows_of_hold : (d : ℕ) (n : Name) (s : Statement) → StatementHolds P s → LinesHold (set_rows_of d n s)
  set_rows_of_hold d n (statements.Set s) h = go (bytes_eq s.name.text n)
    where
      go : (b : Bool) → LinesHold (if b then set_rows d s.items else [])
      go true = set_rows_from_hold d (length s.items) s.items h
      go false = tt
  set_rows_of_hold d n (statements.List l) h = tt
  set_rows_of_hold d n (statements.Table t) h = tt
  set_rows_of_hold d n (statements.Columns c) h = go (is_set_named c.set n)
    where
      go : (b : Bool) → LinesHold (if b then key_rows d (statements.Columns c) else [])
      go true = heads_hold d (groups (d + length c.names) c.cells) (groups_hold (d + length c.names) (length c.cells) c.cells h)
      go false = tt

  pub all_set_rows_hold : (d : ℕ) (n : Name) (ss : List Statement) → StatementsHold P ss → LinesHold (flat_map (set_rows_of d n) ss)
  all_set_rows_hold d n [] h = tt
  all_set_rows_hold d n (s ∷ ss) h = all_append (TokensHold P) (set_rows_of d n s) (flat_map (set_rows_of d n) ss) (set_rows_of_hold d n s h.0) (all_set_rows_hold d n ss h.1)

  -- ---- defaults

  default_token_holds : (o : Option DefaultValue) → ForSome o (λ (d : DefaultValue). TokenHolds P d.value) → OfSome (TokenHolds P) (default_token o)
  default_token_holds None h = tt
  default_token_holds (Some d) h = h d refl

  named_default_holds : (b : Bool) (o : Option Token) → OfSome (TokenHolds P) o → OfSome (TokenHolds P) (if b then o else None)
  named_default_holds true o h = h
  named_default_holds false o h = tt

  default_in_holds : (n : Name) (s : Statement) → StatementHolds P s → OfSome (TokenHolds P) (default_in n s)
  default_in_holds n (statements.Set s) h = tt
  default_in_holds n (statements.List l) h = named_default_holds (bytes_eq l.name.text n) (default_token l.default) (default_token_holds l.default h.0)
  default_in_holds n (statements.Table t) h = named_default_holds (bytes_eq t.name.text n) (default_token t.default) (default_token_holds t.default h.0)
  default_in_holds n (statements.Columns c) h = tt

  pub data_defaults_hold : (n : Name) (ss : List Statement) → StatementsHold P ss → TokensHold P (data_defaults n ss)
  data_defaults_hold n [] h = tt
  data_defaults_hold n (s ∷ ss) h = go (default_in n s) (default_in_holds n s h.0) (data_defaults_hold n ss h.1)
    where
      go : (o : Option Token) → OfSome (TokenHolds P) o → TokensHold P (data_defaults n ss) → TokensHold P (cons_option o (data_defaults n ss))
      go None i k = k
      go (Some t) i k = (i, k)
