-- The value of a bound parameter at a key comes from the source that AMPL defines, and satisfies the parameter's phrases.
use Rattle.std.specs.Prelude.{◌≡◌, ◌||◌, ℕ, suc, Bool, true, false, cond, List, [], ◌∷◌, length, map, take, Option, None, Some, if◌then◌else◌, Ok}
use Rattle.std.specs.List.{AllByRecursion, Contains, cons_option, list_any}
use Rattle.std.specs.Option.{ForSome}
use Rattle.std.proofs.Common.{refl, ap, sym, ◌∙◌, subst, arith}
use Rattle.std.proofs.lemmas.List.{length-map, length-take, take_all}
use Rattle.net_tree.specs.PhraseValues.{phrase_value}
use Rattle.net_base.specs.declared.diagnostic.Language.{Language}
use Rattle.net_base.specs.declared.diagnostic.Span.{Span}
use Rattle.net_base.specs.Outcomes.{and_then}
use Rattle.net_lex.specs.declared.token.Token.{Token}
use Rattle.net_data.specs.declared.statement.Statement.{Statement}
use Rattle.net_data.specs.Rows.{DataRow}
use Rattle.net_sets.specs.declared.member.Member.{Member}
use Rattle.net_sets.specs.declared.member.Member.TheVariants as member
use Rattle.net_sets.specs.Limits.{arity_limit}
use Rattle.net_sets.specs.Sets.{Tuple, same_tuple, at_key, place_of}
use Rattle.net_sets.proofs.Sames.{tuple_decides}
use Rattle.net_tree.specs.declared.role.Begins.TheVariants as begins
use Rattle.net_tree.specs.declared.role.Role.{Role}
use Rattle.net_tree.specs.declared.role.Role.TheVariants as roles
use Rattle.net_tree.specs.Erasure as erased
use Rattle.net_tree.specs.Erasure.{expression}
use Rattle.net_tree.specs.Phrases.{is_becomes, is_default}
use Rattle.net_tree.specs.Role.{role_of}
use Rattle.net_tree.specs.Spans.{span_of}
use Rattle.net_tree.specs.Syntax as forms
use Rattle.net_tree.specs.Tree.{Tree, Phrase}
use Rattle.net_expr.specs.declared.row.Row.{Row}
use Rattle.net_expr.specs.declared.value.Value.{Value}
use Rattle.net_expr.specs.declared.value.Value.TheVariants as found
use Rattle.net_expr.specs.Operators.{member as member_of}
use Rattle.net_expr.specs.SetValues.{HasSets}
use Rattle.net_expr.specs.Values.{value}
use Rattle.net_expr.specs.Worlds.{Name, World, Scope, reference}
use Rattle.net_bind.specs.declared.given.NamedData.{NamedData}
use Rattle.net_bind.specs.BoundParameters as bound
use Rattle.net_bind.specs.BoundParameters.{PlacedValues, source, from_source, some, takes_texts, cell_of, no_text, fit_kind, fit_value, fit_row, fit_values, keys_with}
use Rattle.net_bind.specs.Cells.{member_in, tuple_in}
use Rattle.net_bind.specs.ParameterValues.{row_value, default_given, IsValue}
use Rattle.net_bind.specs.Restrictions.{restricted}
use Rattle.net_bind.specs.Rows.{KeyedParameter, either}
use Rattle.net_bind.proofs.RowsTaken.{then_ok, is_ok}
use Rattle.net_bind.proofs.SoundChecks.{as_key}
use Rattle.net_bind.proofs.SoundRestrictions.{restrictions_are_sound}
use Rattle.net_bind.proofs.SoundRows.{IsMember, value_in, values_in, values_are_in, defaults_of}
use Rattle.net_bind.proofs.SoundTaken.{IsWhole}
use Rattle.net_meaning.specs.OfTrees.{env_of, IsParameterValue, IsOfKind}
use Rattle.net_meaning.specs.Laws.{meaning_of}
use Rattle.net_meaning.specs.Operators.{One}
use Rattle.net_meaning.specs.Values.{Key}
use Rattle.net_meaning.specs.OfTrees as trees
use Rattle.net_meaning.specs.World as world
use Rattle.net_meaning.specs.World.{IsDataValue, AreDataValues, data_rows, data_defaults, HasNoRow, row, assigned, data_default, default, nothing, Fits}
use Rattle.net_meaning.proofs.Erased.{phrase_some, phrase_none}
use Rattle.net_meaning.proofs.Meaning.{evaluation_is_sound}

-- ---- phrases

symbolic_is : (r : Role) → bound.is_symbolic r ≡ world.is_symbolic_word r
symbolic_is (roles.Phrase begins.Symbolic) = refl
symbolic_is (roles.Phrase _) = refl
symbolic_is _ = refl

texts_are : (ps : List Phrase) → takes_texts ps ≡ list_any (λ (p : forms.Phrase). world.is_symbolic_word p.word) (map erased.phrase ps)
texts_are [] = refl
texts_are (p ∷ ps) = ap (λ b. b || takes_texts ps) (symbolic_is (role_of p.word)) ∙ ap (λ b. world.is_symbolic_word (role_of p.word) || b) (texts_are ps)

-- ---- rows

-- the members of a row's key, and its value
pub record IsRead (r : DataRow) : Type 0 where
  pub whole : tuple_in r.keys ≡ map member_in r.keys
  pub members : AreDataValues r.keys (tuple_in r.keys)
  pub value : IsDataValue r.value (member_in r.value)

pub row_read : (size : ℕ) (r : DataRow) → IsWhole size r → length (tuple_in r.keys) ≡ size → IsRead r
row_read size r h e = record { whole = same; members = subst (AreDataValues r.keys) (sym same) (values_in r.keys h.members); value = value_in r.value h.value }
  where
    same : tuple_in r.keys ≡ map member_in r.keys
    same =
        let long = h.long in
        let cut = sym (length-map (take arity_limit r.keys) member_in ∙ length-take arity_limit r.keys) ∙ e in
        ap (map member_in) (take_all arity_limit r.keys (omega (arith, long, cut)))

-- the row that gave a value
pub record IsRowAt (rows : List DataRow) (key : Tuple) (m : Member) : Type 0 where
  pub from : DataRow
  pub there : Contains rows from
  pub read : IsRead from
  pub key_is : key ≡ tuple_in from.keys
  pub value_is : member_in from.value ≡ m

some_is : {A : Type 0} (a b : A) → Some a ≡ Some b → a ≡ b
some_is a b e = cc

row_at : (rows : List DataRow) (key : Tuple) (m : Member) → AllByRecursion IsRead rows → at_key (map row_value rows) key ≡ Some m → IsRowAt rows key m
row_at [] key m h e = cc
row_at (r ∷ rows) key m h e = go (same_tuple key (tuple_in r.keys)) refl e (row_at rows key m h.1)
  where
    later : IsRowAt rows key m → IsRowAt (r ∷ rows) key m
    later a =
        let (k, l, i) = a.there in
        record { from = a.from; there = (suc k, omega (arith, l), i); read = a.read; key_is = a.key_is; value_is = a.value_is }

    go : (b : Bool) → same_tuple key (tuple_in r.keys) ≡ b → cond b (Some (member_in r.value)) (at_key (map row_value rows) key) ≡ Some m → (at_key (map row_value rows) key ≡ Some m → IsRowAt rows key m) → IsRowAt (r ∷ rows) key m
    go true i f more = record { from = r; there = (0, omega arith, refl); read = h.0; key_is = (tuple_decides key (tuple_in r.keys)).0 i; value_is = some_is (member_in r.value) m f }
    go false i f more = later (more f)

no_row : (rows : List DataRow) (key : Tuple) → AllByRecursion IsRead rows → at_key (map row_value rows) key ≡ None → AllByRecursion (λ (r : DataRow). AreDataValues r.keys key → ⊥) rows
no_row [] key h e = tt
no_row (r ∷ rows) key h e = go (same_tuple key (tuple_in r.keys)) refl e (no_row rows key h.1)
  where
    apart : same_tuple key (tuple_in r.keys) ≡ false → AreDataValues r.keys key → ⊥
    apart i d = let same = (tuple_decides key (tuple_in r.keys)).1 (values_are_in r.keys key d ∙ sym h.0.whole) in cc

    go : (b : Bool) → same_tuple key (tuple_in r.keys) ≡ b → cond b (Some (member_in r.value)) (at_key (map row_value rows) key) ≡ None → (at_key (map row_value rows) key ≡ None → AllByRecursion (λ (q : DataRow). AreDataValues q.keys key → ⊥) rows)
        → AllByRecursion (λ (q : DataRow). AreDataValues q.keys key → ⊥) (r ∷ rows)
    go true i f more = cc
    go false i f more = (apart i, more f)

-- ---- the value at a key

abbrev pub first_of : List Token → Option Token
first_of [] = None
first_of (t ∷ ts) = Some t

pub default_is : (ms : List NamedData) → default_given ms ≡ first_of (defaults_of ms)
default_is [] = refl
default_is (m ∷ ms) = go m.default (default_is ms)
  where
    go : (d : Option Token) → default_given ms ≡ first_of (defaults_of ms) → either d (default_given ms) ≡ first_of (cons_option d (defaults_of ms))
    go None e = e
    go (Some t) e = refl

member_is : (at : Span) (v : Value) (m : Member) → member_of at v ≡ Ok m → meaning_of v ≡ One m
member_is at (found.One x) m e = ap One (is_ok x m e)
member_is at (found.Several t) m e = cc
member_is at (found.Many d ts) m e = cc
member_is at (found.Truth b) m e = cc

-- an expression that gives a value
record IsGiven (w : World) (s : Scope) (x : Tree) (o : Option Member) : Type 0 where
  pub one : Member
  pub is : Some one ≡ o
  pub holds : trees.IsValue (env_of w s) x (One one)

expression_given : (w : World) → HasSets w → (s : Scope) (x : Tree) (found : Option Member) → and_then (and_then (value w s x) (member_of (span_of x))) some ≡ Ok found → IsGiven w s x found
expression_given w sets s x found e =
    then_ok (and_then (value w s x) (member_of (span_of x))) some found e (λ m i k.
    then_ok (value w s x) (member_of (span_of x)) m i (λ v j l.
    record { one = m; is = is_ok (Some m) found k; holds = subst (trees.IsValue (env_of w s) x) (member_is (span_of x) v m l) (evaluation_is_sound w s x v sets j) }))

module _ (w : World) (sets : HasSets w) (ss : List Statement) (n : Name) (ps : List Phrase) (size : ℕ) where
  by_source : (r : Row) (found : Option Member) (a : Option Tree) (ds : List Token) (d : Option Tree) → phrase_value is_becomes ps ≡ a → data_defaults n ss ≡ ds → phrase_value is_default ps ≡ d → AllByRecursion IsMember ds
      → HasNoRow size n ss r.key → from_source w r.scope (source a (first_of ds) d) ≡ Ok found → IsParameterValue ss n ps size (as_key w r) found
  by_source r found (Some x) ds d ea eds ed h none e =
      let g = expression_given w sets r.scope x found e in
      subst (IsParameterValue ss n ps size (as_key w r)) g.is (assigned (expression x) g.one none (phrase_some is_becomes ps x ea) g.holds)
  by_source r found None (t ∷ ds) d ea eds ed h none e =
      subst (IsParameterValue ss n ps size (as_key w r)) (is_ok (Some (member_in t)) found e) (data_default t (member_in t) none (phrase_none is_becomes ps ea) (subst (λ l. Contains l t) (sym eds) (0, omega arith, refl)) (value_in t h.0))
  by_source r found None [] (Some y) ea eds ed h none e =
      let g = expression_given w sets r.scope y found e in
      subst (IsParameterValue ss n ps size (as_key w r)) g.is (default (expression y) g.one none (phrase_none is_becomes ps ea) eds (phrase_some is_default ps y ed) g.holds)
  by_source r found None [] None ea eds ed h none e = subst (IsParameterValue ss n ps size (as_key w r)) (is_ok None found e) (nothing none (phrase_none is_becomes ps ea) eds (phrase_none is_default ps ed))

  by_row : (r : Row) (m : Member) → IsRowAt (data_rows size n ss) r.key m → IsParameterValue ss n ps size (as_key w r) (Some m)
  by_row r m a = row a.from m a.there (subst (AreDataValues a.from.keys) (sym a.key_is) a.read.members) (subst (IsDataValue a.from.value) a.value_is a.read.value)

  pub value_is_meant : (r : Row) (found : Option Member) → AllByRecursion IsRead (data_rows size n ss) → AllByRecursion IsMember (data_defaults n ss)
      → IsValue (at_key (map row_value (data_rows size n ss)) r.key) (from_source w r.scope (source (phrase_value is_becomes ps) (first_of (data_defaults n ss)) (phrase_value is_default ps))) found
      → IsParameterValue ss n ps size (as_key w r) found
  value_is_meant r found h k v = go (at_key (map row_value (data_rows size n ss)) r.key) refl v
    where
      go : (o : Option Member) → at_key (map row_value (data_rows size n ss)) r.key ≡ o
          → IsValue o (from_source w r.scope (source (phrase_value is_becomes ps) (first_of (data_defaults n ss)) (phrase_value is_default ps))) found → IsParameterValue ss n ps size (as_key w r) found
      go (Some m) i e = subst (IsParameterValue ss n ps size (as_key w r)) (sym e) (by_row r m (row_at (data_rows size n ss) r.key m h i))
      go None i e =
          by_source r found (phrase_value is_becomes ps) (data_defaults n ss) (phrase_value is_default ps) refl refl refl k (no_row (data_rows size n ss) r.key h i) e

-- ---- the phrases of the parameter

kind_is : (ps : List Phrase) (text : Language) (at : Span) (cell : Option Span) (m : Member) (u : Unit {0}) → fit_kind (takes_texts ps) text at cell m ≡ Ok u → IsOfKind ps m
kind_is ps text at cell (member.Number n) u e = tt
kind_is ps text at cell (member.Name t) u e = sym (texts_are ps) ∙ go (takes_texts ps) cell e
  where
    go : (b : Bool) (c : Option Span) → (if b || false then Ok tt else no_text text at c) ≡ Ok u → b ≡ true
    go true c i = refl
    go false None i = cc
    go false (Some s) i = cc

pub rows_fit : (w : World) → HasSets w → (p : KeyedParameter) (v : PlacedValues) (rows : List Row) (u : Unit {0}) → fit_values w p v rows ≡ Ok u
    → AllByRecursion (λ (k : Key). ForSome (at_key v.table k.key) (λ m. AllByRecursion (Fits k.env m) (map erased.phrase p.phrases) × IsOfKind p.phrases m)) (map (as_key w) rows)
rows_fit w sets p v [] u e = tt
rows_fit w sets p v (r ∷ rows) u e = then_ok (fit_row w p v r) (λ z. fit_values w p v rows) u e (λ z i k. (fits z i, rows_fit w sets p v rows u k))
  where
    fit_one : (z : Unit {0}) (m : Member) → fit_value w p v r (Some m) ≡ Ok z → AllByRecursion (Fits (env_of w r.scope) m) (map erased.phrase p.phrases) × IsOfKind p.phrases m
    fit_one z m e =
        let cell = cell_of v.cells (place_of (keys_with v.table) r.key) in
        then_ok (fit_kind (takes_texts p.phrases) v.text v.at cell m) (λ x. restricted w r.scope (reference p.name.text p.keys r.key) m p.phrases) z e (λ x i k.
        (restrictions_are_sound w r.scope (reference p.name.text p.keys r.key) m p.phrases sets k, kind_is p.phrases v.text v.at cell m x i))

    fits : (z : Unit {0}) → fit_row w p v r ≡ Ok z → ForSome (at_key v.table r.key) (λ m. AllByRecursion (Fits (env_of w r.scope) m) (map erased.phrase p.phrases) × IsOfKind p.phrases m)
    fits z e m f = fit_one z m (subst (λ o. fit_value w p v r o ≡ Ok z) f e)
