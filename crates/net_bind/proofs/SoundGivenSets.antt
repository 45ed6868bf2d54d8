-- The sets that data statements give are those that AMPL defines.
use Rattle.std.specs.Prelude.{◌≡◌, ◌+◌, ◌<◌, ℕ, zero, suc, Bool, true, false, List, [], ◌∷◌, length, map, take, drop, nat_eq, is_some, unwrap_or, Option, None, Some, if◌then◌else◌, option_map, Ok, Err}
use Rattle.std.specs.List.{AllByRecursion, AllZip, flat_map}
use Rattle.std.specs.Str.{bytes_eq}
use Rattle.std.proofs.Common.{refl, ap, sym, ◌∙◌, subst, arith, append-nil}
use Rattle.net_base.specs.declared.error_code.ErrorCode.TheVariants.{Arity}
use Rattle.net_base.specs.declared.diagnostic.Span.{Span}
use Rattle.net_base.specs.Outcomes.{rejected_there}
use Rattle.net_lex.specs.declared.token.Token.{Token}
use Rattle.net_data.specs.declared.statement.NamedSet.{NamedSet}
use Rattle.net_data.specs.declared.statement.Statement.{Statement}
use Rattle.net_data.specs.declared.statement.Statement.TheVariants.{Set as SetStatement, List as Listed, Table, Columns}
use Rattle.net_data.specs.Meaning as texts
use Rattle.net_data.specs.Meaning.{AreItems, IsStatement, judged, all_judged}
use Rattle.net_data.specs.Rows as stated
use Rattle.net_data.specs.Rows.{points, groups}
use Rattle.net_sets.specs.Sets.{Tuple}
use Rattle.net_tree.specs.Erasure.{expression, phrase}
use Rattle.net_tree.specs.Phrases.{AreSetPhrases, is_becomes}
use Rattle.net_tree.specs.Tree.{Tree, Phrase}
use Rattle.net_expr.specs.declared.world.Entry.{Entry}
use Rattle.net_expr.specs.declared.world.Entry.TheVariants.{Set}
use Rattle.net_expr.specs.SetValues.{IsSetOf, HasSets}
use Rattle.net_expr.specs.Worlds.{Name, World}
use Rattle.net_expr.proofs.Walked.{all_join}
use Rattle.net_meaning.specs.OfTrees.{IsSet}
use Rattle.net_tree.specs.PhraseValues.{phrase_value}
use Rattle.net_meaning.specs.World.{AreDataValues, set_rows_of, AreGivenMembers}
use Rattle.net_meaning.proofs.Erased.{phrase_value_is}
use Rattle.net_bind.specs.declared.given.DataContent.{DataContent}
use Rattle.net_bind.specs.declared.given.DataContent.TheVariants as given
use Rattle.net_bind.specs.declared.given.NamedData.{NamedData}
use Rattle.net_bind.specs.declared.set_phrase.Claims.{Claims}
use Rattle.net_bind.specs.BoundSets.{one_of, allowed, set_of, bound_set}
use Rattle.net_bind.specs.Cells.{tuple_in}
use Rattle.net_bind.specs.DataByName.{grouped, named}
use Rattle.net_bind.specs.DataFor.{leader, headed_for, set_for, data_in, data_for}
use Rattle.net_bind.specs.DataValues.{HasValue, HaveValues}
use Rattle.net_bind.specs.Names.{Declared}
use Rattle.net_bind.specs.SetData.{begins_at, all_of_size, without_points, whole_group, whole_groups, cut, leading_size, agrees, set_rows, given_rows, given_set}
use Rattle.net_bind.specs.SetPhrases.{unclaimed, set_phrases, assigned}
use Rattle.net_bind.proofs.Claiming.{inside_all}
use Rattle.net_bind.proofs.HeldEntries.{IsEntry, bound_set_is}
use Rattle.net_bind.proofs.NamesDeclared.{NamesNoParameter}
use Rattle.net_bind.proofs.RowsTaken.{then_ok, is_ok, AreOfSize, rows_sized}
use Rattle.net_bind.proofs.SoundGroups.{HasGroups, rows_grouped, set_rows_whole}
use Rattle.net_bind.proofs.SetItems.{IsInside, items_inside, all_take, all_drop, item_rows, item_rows_made}
use Rattle.net_bind.proofs.SetRowsSound.{IsCell, mentions_are, rows_given, rows_in, rows_of_statements, no_data, one_data, members_added, rows_values}
use Rattle.net_bind.proofs.SoundSets.{AreClaimed, claims_are, assigned_alike, all_own, all_satisfied}
use Rattle.net_bind.proofs.DataRowsTaken.{cut_is}
use Rattle.net_bind.proofs.SoundGroups.{some_names}

-- ---- well-formed data for a name

-- items of a set, or cells of a heading with at least one parameter; numerals have values
abbrev IsSoundGiven : DataContent → Type 0
IsSoundGiven (given.Members ts) = AreItems ts × AllByRecursion HasValue ts
IsSoundGiven (given.Groups g) = (0 < g.values) × AllByRecursion HasValue g.cells
IsSoundGiven (given.Grid g) = Unit {0}

abbrev IsSoundData : NamedData → Type 0
IsSoundData m = IsSoundGiven m.given

if_sound : (b : Bool) (m : NamedData) → IsSoundData m → AllByRecursion IsSoundData (if b then m ∷ [] else [])
if_sound true m h = (h, tt)
if_sound false m h = tt

headed_sound : (first values : ℕ) (cells : List Token) (place : ℕ) (n : Name) (ts : List Token) → 0 < values → AllByRecursion HasValue cells → AllByRecursion IsSoundData (headed_for first values cells place n ts)
headed_sound first values cells place n [] l h = tt
headed_sound first values cells place n (t ∷ ts) l h =
    all_join IsSoundData (if bytes_eq t.text n then named t None (grouped first values place cells) ∷ [] else []) (headed_for first values cells (place + 1) n ts)
    (if_sound (bytes_eq t.text n) (named t None (grouped first values place cells)) (l, h)) (headed_sound first values cells (place + 1) n ts l h)

set_sound : (first values : ℕ) (cells : List Token) (n : Name) (s : Option NamedSet) → 0 < values → AllByRecursion HasValue cells → AllByRecursion IsSoundData (set_for first values cells n s)
set_sound first values cells n None l h = tt
set_sound first values cells n (Some s) l h = if_sound (bytes_eq s.name.text n) (named s.name None (grouped first values 0 cells)) (l, h)

data_sound : (ds : Declared) (i : ℕ) (n : Name) (s : Statement) → IsStatement s → judged s ≡ Ok tt → HaveValues s → AllByRecursion IsSoundData (data_in ds i n s)
data_sound ds i n (SetStatement s) w j v = if_sound (bytes_eq s.name.text n) _ (w.items, v)
data_sound ds i n (Listed l) w j v = if_sound (bytes_eq l.name.text n) _ (omega arith, v.1)
data_sound ds i n (Table t) w j v = if_sound (bytes_eq t.name.text n) _ tt
data_sound ds i n (Columns c) w j v =
    let some = some_names c.names c.assign j in
    all_join IsSoundData (set_for (leader ds c) (length c.names) c.cells n c.set) (headed_for (leader ds c) (length c.names) c.cells 0 n c.names)
    (set_sound (leader ds c) (length c.names) c.cells n c.set some v) (headed_sound (leader ds c) (length c.names) c.cells 0 n c.names some v)

judged_parts : (s : Statement) (ss : List Statement) → all_judged (s ∷ ss) ≡ Ok tt → (judged s ≡ Ok tt) × (all_judged ss ≡ Ok tt)
judged_parts s ss e = go (judged s) refl e
  where
    go : (o : _) → judged s ≡ o → texts.and_then o (all_judged ss) ≡ Ok tt → (judged s ≡ Ok tt) × (all_judged ss ≡ Ok tt)
    go (Ok x) f g = (f, g)
    go (Err r) f g = cc

each_judged : (ss : List Statement) → all_judged ss ≡ Ok tt → AllByRecursion (λ s. judged s ≡ Ok tt) ss
each_judged [] e = tt
each_judged (s ∷ ss) e = let parts = judged_parts s ss e in (parts.0, each_judged ss parts.1)

all_sound : (ds : Declared) (i : ℕ) (n : Name) (ss : List Statement) → AllByRecursion IsStatement ss → all_judged ss ≡ Ok tt → AllByRecursion HaveValues ss → AllByRecursion IsSoundData (data_for ds i n ss)
all_sound ds i n [] w j v = tt
all_sound ds i n (s ∷ ss) w j v =
    let (here, later) = judged_parts s ss j in
    all_join IsSoundData (data_in ds i n s) (data_for ds i n ss) (data_sound ds i n s w.0 here v.0) (all_sound ds i n ss w.1 later v.1)

-- ---- rows that are accepted

cell_is : (t : Token) → IsInside t → HasValue t → IsCell t
cell_is t i v = record { solid = i.solid; valued = v }

cells_are : (ts : List Token) → AllByRecursion IsInside ts → AllByRecursion HasValue ts → AllByRecursion IsCell ts
cells_are [] i v = tt
cells_are (t ∷ ts) i v = (cell_is t i.0 v.0, cells_are ts i.1 v.1)

without_is : (ts : List Token) (u : Unit {0}) → AllByRecursion HasValue ts → without_points ts ≡ Ok u → AllByRecursion IsCell ts
without_is [] u v e = tt
without_is (t ∷ ts) u v e = go (points t.kind) refl e (without_is ts u v.1)
  where
    go : (b : Bool) → points t.kind ≡ b → (if b then rejected_there Arity t.span else without_points ts) ≡ Ok u → (without_points ts ≡ Ok u → AllByRecursion IsCell ts) → AllByRecursion IsCell (t ∷ ts)
    go true s f more = cc
    go false s f more = (record { solid = s; valued = v.0 }, more f)

group_is : (at : Span) (keys size : ℕ) (g : List Token) (u : Unit {0}) → AllByRecursion HasValue g → whole_group at keys size g ≡ Ok u → AllByRecursion IsCell (take keys g)
group_is at keys size g u v e = go (nat_eq (length g) size) e
  where
    go : (b : Bool) → (if b then without_points (take keys g) else rejected_there Arity (begins_at at g)) ≡ Ok u → AllByRecursion IsCell (take keys g)
    go true f = without_is (take keys g) u (all_take HasValue keys g v) f
    go false f = cc

groups_are : (at : Span) (keys size : ℕ) (gs : List (List Token)) (u : Unit {0}) → AllByRecursion (AllByRecursion HasValue) gs → whole_groups at keys size gs ≡ Ok u → AllByRecursion (AllByRecursion IsCell) (map (take keys) gs)
groups_are at keys size [] u v e = tt
groups_are at keys size (g ∷ gs) u v e = then_ok (whole_group at keys size g) (λ w. whole_groups at keys size gs) u e (λ w f k. (group_is at keys size g w v.0 f, groups_are at keys size gs u v.1 k))

groups_made : (P : Token → Type 0) (size turns : ℕ) (ts : List Token) → AllByRecursion P ts → AllByRecursion (AllByRecursion P) (stated.groups_from size turns ts)
groups_made P size zero ts h = tt
groups_made P size (suc turns) [] h = tt
groups_made P size (suc turns) (t ∷ ts) h = (all_take P size (t ∷ ts) h, groups_made P size turns (drop size (t ∷ ts)) (all_drop P size (t ∷ ts) h))

-- the rows that the code takes are those of the statement, and their tokens are members
rows_are : (widths : List ℕ) (d : ℕ) (word : Token) (g : DataContent) (rows : List (List Token)) → IsSoundGiven g → given_rows widths d word g ≡ Ok rows → (rows ≡ rows_given d g) × AllByRecursion (AllByRecursion IsCell) rows
rows_are widths d word (given.Members ts) rows h e =
    then_ok (all_of_size word.span d (set_rows d ts)) (λ u. Ok (set_rows d ts)) rows e (λ u f k.
    let are : rows ≡ stated.set_rows d ts = sym (is_ok (set_rows d ts) rows k) ∙ item_rows word.span d ts u h.0 f in
    (are, subst (AllByRecursion (AllByRecursion IsCell)) (sym are) (item_rows_made IsCell d ts (cells_are ts (items_inside ts h.0) h.1))))
rows_are widths d word (given.Groups g) rows h e =
    then_ok (agrees word (leading_size widths g.leader d) d) _ rows e (λ u f k.
    then_ok (whole_groups word.span d (d + g.values) (cut (d + g.values) g.cells)) (λ v. Ok (map (take d) (cut (d + g.values) g.cells))) rows k (λ v i l.
    let some : cut (d + g.values) g.cells ≡ groups (d + g.values) g.cells = cut_is (d + g.values) (d + g.values) g.cells refl (omega (arith, h.0)) in
    let own = is_ok (map (take d) (cut (d + g.values) g.cells)) rows l in
    let made = subst (AllByRecursion (AllByRecursion HasValue)) (sym some) (groups_made HasValue (d + g.values) (length g.cells) g.cells h.1) in
    (sym own ∙ ap (map (take d)) some, subst (AllByRecursion (AllByRecursion IsCell)) own (groups_are word.span d (d + g.values) (cut (d + g.values) g.cells) v made i))))
rows_are widths d word (given.Grid g) rows h e = (sym (is_ok [] rows e), subst (AllByRecursion (AllByRecursion IsCell)) (is_ok [] rows e) tt)

-- ---- a set

-- the members of a set without `:=`
from_data : (widths : List ℕ) (d : ℕ) (ds : Declared) (i : ℕ) (n : Name) (ss : List Statement) (ts : List Tuple) → all_judged ss ≡ Ok tt → AllByRecursion IsSoundData (data_for ds i n ss) → AllByRecursion (NamesNoParameter n) ss
    → AllByRecursion (λ t. length t ≡ d) ts → given_set widths d false (data_for ds i n ss) ≡ Ok (Some ts) → AreGivenMembers ss n d ts None
from_data widths d ds i n ss ts whole sound none long e =
    let h = one_data widths d (data_for ds i n ss) ts e in
    let (are, cells) = rows_are widths d h.only.word h.only.given h.rows (subst (AllByRecursion IsSoundData) h.is sound).0 h.given in
    let members : ts ≡ map tuple_in h.rows = members_added h.only.word h.rows [] ts h.taken in
    let sized : AreOfSize d h.rows = rows_sized widths d h.only.word h.only.given h.rows h.given in
    let stated_rows : flat_map (set_rows_of d n) ss ≡ h.rows =
    rows_of_statements d ds i n ss none ∙ ap (flat_map (rows_in d)) h.is ∙ append-nil (rows_in d h.only) ∙ sym are in (
      mentions_are ds i n ss ∙ ap (λ (z : List NamedData). length z) h.is,
      set_rows_whole ds i d n ss (each_judged ss whole) none (subst (AllByRecursion (λ (m : NamedData). HasGroups d m.given)) (sym h.is) (rows_grouped widths d h.only.word h.only.given h.rows h.given, tt)),
      subst (λ z. AllZip AreDataValues (flat_map (set_rows_of d n) ss) z) (sym members)
          (subst (λ z. AllZip AreDataValues z (map tuple_in h.rows)) (sym stated_rows) (rows_values d h.rows sized (subst (AllByRecursion (λ t. length t ≡ d)) members long) cells)),
    )

-- the expression after `:=`, or else the data
members_are : (widths : List ℕ) (d : ℕ) (ds : Declared) (i : ℕ) (name : Token) (ss : List Statement) (ts : List Tuple) → all_judged ss ≡ Ok tt → AllByRecursion IsSoundData (data_for ds i name.text ss) → AllByRecursion (NamesNoParameter name.text) ss
    → AllByRecursion (λ t. length t ≡ d) ts → (x : Option Tree) (o found : Option (List Tuple)) → is_some x ≡ is_some o → given_set widths d (is_some o) (data_for ds i name.text ss) ≡ Ok found → one_of name o found ≡ Ok ts
    → AreGivenMembers ss name.text d ts (option_map expression x)
members_are widths d ds i name ss ts whole sound none long (Some x) None found s e f = cc
members_are widths d ds i name ss ts whole sound none long None (Some us) found s e f = cc
members_are widths d ds i name ss ts whole sound none long (Some x) (Some us) found s e f =
    mentions_are ds i name.text ss ∙ ap (λ (z : List NamedData). length z) (no_data widths d (data_for ds i name.text ss) found e)
members_are widths d ds i name ss ts whole sound none long None None None s e f = cc
members_are widths d ds i name ss ts whole sound none long None None (Some us) s e f = from_data widths d ds i name.text ss ts whole sound none long (e ∙ ap (λ z. Ok (Some z)) (is_ok us ts f))

-- the set of `:=` is the set
own_members : (name : Token) (o found : Option (List Tuple)) (ts us : List Tuple) → one_of name o found ≡ Ok ts → o ≡ Some us → us ≡ ts
own_members name (Some vs) found ts us e f = some_same us vs (sym f) ∙ is_ok vs ts e
  where
    some_same : (us vs : List Tuple) → Some us ≡ Some vs → us ≡ vs
    some_same us vs e = cc
own_members name None found ts us e f = cc

entry_parts : (d : ℕ) (ts : List Tuple) → IsEntry (Set d ts) → IsSetOf (Some d) ts
entry_parts d ts h = h

one_dimension : (o : Option ℕ) (n : ℕ) → o ≡ Some n → n ≡ unwrap_or o 1
one_dimension o n e = sym (ap (λ (z : Option ℕ). unwrap_or z 1) e)

-- without phrases the dimension is 1
single_dimension : (w : World) (ps : List Phrase) (c : Claims) → set_phrases w ps ≡ Ok c → map phrase ps ≡ [] → unwrap_or c.dimension 1 ≡ 1
single_dimension w [] c e h = ap (λ (z : Claims). unwrap_or z.dimension 1) (sym (is_ok unclaimed c e))
single_dimension w (p ∷ ps) c e h = cc

-- a set that the code binds, with the data of well-formed statements, is the one that AMPL defines
pub set_is : (w : World) (widths : List ℕ) (name : Token) (ps : List Phrase) (ds : Declared) (i : ℕ) (ss : List Statement) (x : Entry) → HasSets w → AreSetPhrases ps
    → AllByRecursion IsStatement ss → all_judged ss ≡ Ok tt → AllByRecursion HaveValues ss → AllByRecursion (NamesNoParameter name.text) ss → bound_set w widths name ps (data_for ds i name.text ss) ≡ Ok x
    → (d : ℕ) × (ts : List Tuple) × (x ≡ Set d ts) × IsSet w ss name.text ps ts
set_is w widths name ps ds i ss x sets (well, dimens, once) are whole valued none e =
    then_ok (set_phrases w ps) (set_of widths name (data_for ds i name.text ss)) x e (λ c f g.
    then_ok (given_set widths (unwrap_or c.dimension 1) (is_some (assigned c.phrases)) (data_for ds i name.text ss)) _ x g (λ found h k.
    then_ok (one_of name (assigned c.phrases) found) _ x k (λ ts j l.
    then_ok (allowed name ts c.phrases) (λ u. Ok (Set (unwrap_or c.dimension 1) ts)) x l (λ u a m.
    let d = unwrap_or c.dimension 1 in
    let same : x ≡ Set d ts = sym (is_ok (Set d ts) x m) in
    let entry : IsSetOf (Some d) ts = entry_parts d ts (subst IsEntry same (bound_set_is w sets widths name ps (data_for ds i name.text ss) x e)) in
    let said = claims_are w ps unclaimed c well f in
    let claimed : AreClaimed w c.dimension ps c.phrases = subst (AreClaimed w c.dimension ps) (sym said.phrases) said.are in
    let own = all_own w c.dimension ts ps c.phrases claimed once (λ us z. own_members name (assigned c.phrases) found ts us j z) in (
      d,
      ts,
      same,
      record {
        dimension = d;
        distinct = entry.0;
        lengths = entry.1;
        single = single_dimension w ps c f;
        phrases = all_satisfied w sets c.dimension d ts (one_dimension c.dimension) ps c.phrases claimed (inside_all name ts c.phrases u a) own;
        members =
            subst (AreGivenMembers ss name.text d ts) (sym (phrase_value_is is_becomes ps))
            (members_are widths d ds i name ss ts whole (all_sound ds i name.text ss are whole valued) none entry.1 (phrase_value is_becomes ps) (assigned c.phrases) found (assigned_alike w c.dimension ps c.phrases claimed) h j);
      },
    )))))
