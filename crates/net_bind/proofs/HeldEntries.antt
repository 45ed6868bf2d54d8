-- In the world of a model and its tables the declared sets are sets, and parameters have values at their keys alone.
use Rattle.std.specs.Prelude.{◌≡◌, ℕ, Bool, true, false, List, [], ◌∷◌, ◌++◌, is_some, unwrap_or, Option, None, Some, if◌then◌else◌, Ok}
use Rattle.std.specs.Str.{bytes_eq}
use Rattle.std.proofs.Common.{refl, ap, ◌∙◌, subst}
use Rattle.net_lex.specs.declared.token.Token.{Token}
use Rattle.net_data.specs.declared.statement.Statement.{Statement}
use Rattle.net_sets.specs.Sets.{Tuple}
use Rattle.net_tree.specs.Tree.{Braces, Phrase, Declaration, set, param, check, node, arc, objective}
use Rattle.net_expr.specs.declared.row.Row.{Row}
use Rattle.net_expr.specs.declared.world.Entry.{Entry}
use Rattle.net_expr.specs.declared.world.Entry.TheVariants.{Set, Parameter}
use Rattle.net_expr.specs.SetValues.{IsSetOf, HasSets}
use Rattle.net_expr.specs.Worlds.{Name, World, entry_of}
use Rattle.net_expr.proofs.SetsGiven.{keeps_sets}
use Rattle.net_bind.specs.declared.given.NamedData.{NamedData}
use Rattle.net_tree.specs.Phrases.{is_becomes}
use Rattle.net_tree.specs.PhraseValues.{phrase_value}
use Rattle.net_bind.specs.declared.set_phrase.Claims.{Claims}
use Rattle.net_base.specs.Outcomes.{Outcome, and_then, each}
use Rattle.net_bind.specs.Binding as binding
use Rattle.net_bind.specs.Binding.{widths, next_data, with_entry, declare, check_one, after_checks, with_given}
use Rattle.net_bind.specs.BoundParameters.{keyed, source_in, span_or, index_list, data_of, fill_table, with_data, bound_parameter}
use Rattle.net_bind.specs.Rows.{KeyedParameter}
use Rattle.net_bind.specs.BoundSets.{one_of, allowed, set_of, bound_set}
use Rattle.net_bind.specs.DataByName.{Sorted, data_by_name}
use Rattle.net_bind.specs.Names.{declared}
use Rattle.net_bind.specs.ParameterValues.{IsParameterOf, HasParameters}
use Rattle.net_bind.specs.SetData.{given_set}
use Rattle.net_bind.specs.SetPhrases.{set_phrases, assigned}
use Rattle.net_bind.proofs.HeldParameters.{IsIndex, index_is, parameter_is}
use Rattle.net_bind.proofs.Claiming.{AreSound, inside_all, phrases_sound, set_or_one, long_or_one}
use Rattle.net_bind.proofs.RowsTaken.{then_ok, is_ok, AreTaken, IsTaken, given_taken}
use Rattle.net_expr.specs.Indexings.{indexing_in}

-- a declared set is one, and so is a declared parameter
abbrev pub IsEntry : Entry → Type 0
IsEntry (Set d ts) = IsSetOf (Some d) ts
IsEntry (Parameter n index t) = IsParameterOf index t

abbrev pub AreEntries : World → Type 0
AreEntries w = (name : Name) (e : Entry) → entry_of w name ≡ Some e → IsEntry e

pub sets_of : (w : World) → AreEntries w → HasSets w
sets_of w g = λ name d ts i. g name (Set d ts) i

-- ---- a set

-- the tuples of a set, from `:=` or from data
chosen_set : (name : Token) (c : Claims) (found : Option (List Tuple)) (ts : List Tuple) (u : Unit {0}) → AreSound c.dimension c.phrases → IsTaken (unwrap_or c.dimension 1) found
    → one_of name (assigned c.phrases) found ≡ Ok ts → allowed name ts c.phrases ≡ Ok u → IsSetOf (Some (unwrap_or c.dimension 1)) ts
chosen_set name c found ts u h f e a = go (assigned c.phrases) refl found f e
  where
    from_data : assigned c.phrases ≡ None → AreTaken (unwrap_or c.dimension 1) ts → IsSetOf (Some (unwrap_or c.dimension 1)) ts
    from_data free t = (t.once, long_or_one c.dimension c.phrases ts h (record { free = free; inside = inside_all name ts c.phrases u a }) t.long)

    go : (o : Option (List Tuple)) → assigned c.phrases ≡ o → (p : Option (List Tuple)) → IsTaken (unwrap_or c.dimension 1) p → one_of name o p ≡ Ok ts → IsSetOf (Some (unwrap_or c.dimension 1)) ts
    go (Some us) i p t k = set_or_one c.dimension ts (h.own ts (i ∙ ap (λ z. Some z) (is_ok us ts k)))
    go None i (Some us) t k = from_data i (subst (AreTaken (unwrap_or c.dimension 1)) (is_ok us ts k) t)
    go None i None t k = cc

set_entry : (ws : List ℕ) (name : Token) (ms : List NamedData) (c : Claims) (e : Entry) → AreSound c.dimension c.phrases → set_of ws name ms c ≡ Ok e → IsEntry e
set_entry ws name ms c e h o =
    let n = unwrap_or c.dimension 1 in
    then_ok (given_set ws n (is_some (assigned c.phrases)) ms) _ e o (λ found i k.
    then_ok (one_of name (assigned c.phrases) found) _ e k (λ ts j l.
    then_ok (allowed name ts c.phrases) (λ u. Ok (Set n ts)) e l (λ u a m.
    subst IsEntry (is_ok (Set n ts) e m) (chosen_set name c found ts u h (given_taken ws n (is_some (assigned c.phrases)) ms None found tt i) j a))))

pub bound_set_is : (w : World) → HasSets w → (ws : List ℕ) (name : Token) (ps : List Phrase) (ms : List NamedData) (e : Entry) → bound_set w ws name ps ms ≡ Ok e → IsEntry e
bound_set_is w g ws name ps ms e h = then_ok (set_phrases w ps) (set_of ws name ms) e h (λ c i k. set_entry ws name ms c e (phrases_sound w (keeps_sets w g) ps c i) k)

-- ---- a parameter

with_data_is : (w : World) (ws : List ℕ) (p : KeyedParameter) (ms : List NamedData) (rows : List Row) (e : Entry) → IsIndex rows p.index → with_data w ws p ms rows ≡ Ok e → IsEntry e
with_data_is w ws p ms rows e f h =
    then_ok (fill_table w ws p ms rows) (λ t. Ok (Parameter p.keys p.index t)) e h (λ t k l.
    then_ok (data_of ws p (is_some (phrase_value is_becomes p.phrases)) ms) _ t k (λ all i j.
    subst IsEntry (is_ok (Parameter p.keys p.index t) e l)
    (parameter_is w ws p (source_in p all.1) (is_some (phrase_value is_becomes p.phrases)) ms rows all t f i j)))

bound_parameter_is : (w : World) (ws : List ℕ) (name : Token) (b : Option Braces) (ps : List Phrase) (ms : List NamedData) (e : Entry) → bound_parameter w ws name b ps ms ≡ Ok e → IsEntry e
bound_parameter_is w ws name b ps ms e h =
    then_ok (indexing_in w b) _ e h (λ k i o.
    then_ok (index_list (span_or name.span b) k.rows) (λ index. with_data w ws (keyed name ps k index) ms k.rows) e o (λ index j l.
    with_data_is w ws (keyed name ps k index) ms k.rows e (index_is (span_or name.span b) k.rows index j) l))

-- ---- worlds

entry_more : (w : World) (n : Name) (e f : Entry) (name : Name) → entry_of (w ++ (n, e) ∷ []) name ≡ Some f → (IsEntry e) → (entry_of w name ≡ Some f → IsEntry f) → IsEntry f
entry_more [] n e f name h s k = go (bytes_eq n name) h
  where
    go : (b : Bool) → (if b then Some e else None) ≡ Some f → IsEntry f
    go true i = let same : e ≡ f = cc in subst IsEntry same s
    go false i = cc
entry_more (x ∷ w) n e f name h s k = go (bytes_eq x.0 name) h k (entry_more w n e f name)
  where
    go : (b : Bool) → (if b then Some x.1 else entry_of (w ++ (n, e) ∷ []) name) ≡ Some f → ((if b then Some x.1 else entry_of w name) ≡ Some f → IsEntry f)
        → (entry_of (w ++ (n, e) ∷ []) name ≡ Some f → IsEntry e → (entry_of w name ≡ Some f → IsEntry f) → IsEntry f) → IsEntry f
    go true i l more = l i
    go false i l more = more i s l

world_more : (w : World) (n : Name) (e : Entry) → AreEntries w → IsEntry e → AreEntries (w ++ (n, e) ∷ [])
world_more w n e g s = λ name f i. entry_more w n e f name i s (g name f)

entered : (w v : World) (n : Token) (o : Outcome Entry) → AreEntries w → ((e : Entry) → o ≡ Ok e → IsEntry e) → and_then o (with_entry w n) ≡ Ok v → AreEntries v
entered w v n o g s h = then_ok o (with_entry w n) v h (λ e i k. subst AreEntries (is_ok (w ++ (n.text, e) ∷ []) v k) (world_more w n.text e g (s e i)))

pub declared_entries : (given : Sorted) (d : Declaration) (w v : World) → AreEntries w → declare given d w ≡ Ok v → AreEntries v
declared_entries given (set k n ps e) w v g h = entered w v n (bound_set w (widths w) n ps (next_data given w)) g (bound_set_is w (sets_of w g) (widths w) n ps (next_data given w)) h
declared_entries given (param k n b ps e) w v g h = entered w v n (bound_parameter w (widths w) n b ps (next_data given w)) g (bound_parameter_is w (widths w) n b ps (next_data given w)) h
declared_entries given (check k b m x e) w v g h = subst AreEntries (is_ok w v h) g
declared_entries given (node k n b c e) w v g h = subst AreEntries (is_ok w v h) g
declared_entries given (arc k n b ps e) w v g h = subst AreEntries (is_ok w v h) g
declared_entries given (objective k n p e) w v g h = subst AreEntries (is_ok w v h) g

all_entries : (given : Sorted) (ds : List Declaration) (w v : World) → AreEntries w → each (declare given) ds w ≡ Ok v → AreEntries v
all_entries given [] w v g h = subst AreEntries (is_ok w v h) g
all_entries given (d ∷ ds) w v g h = then_ok (declare given d w) (each (declare given) ds) v h (λ u i k. all_entries given ds u v (declared_entries given d w u g i) k)

pub no_entries : AreEntries []
no_entries = λ name f e. absurd (let h = e in cc)

checked_entries : (ds : List Declaration) (w v : World) → AreEntries w → after_checks ds w ≡ Ok v → AreEntries v
checked_entries ds w v g h = then_ok (each (check_one w) ds 0) (λ known. Ok w) v h (λ known i k. subst AreEntries (is_ok w v k) g)

have_entries : (ds : List Declaration) (ss : List Statement) (w : World) → binding.world ds ss ≡ Ok w → AreEntries w
unfolding binding.world
have_entries ds ss w h =
    then_ok (data_by_name (declared ds) ss) (with_given ds) w h (λ given i k.
    then_ok (each (declare given) ds []) (after_checks ds) w k (λ v j l. checked_entries ds v w (all_entries given ds [] v no_entries j) l))

pub have_sets : (ds : List Declaration) (ss : List Statement) (w : World) → binding.world ds ss ≡ Ok w → HasSets w
have_sets ds ss w h = sets_of w (have_entries ds ss w h)

pub have_parameters : (ds : List Declaration) (ss : List Statement) (w : World) → binding.world ds ss ≡ Ok w → HasParameters w
have_parameters ds ss w h = λ name n index t i. have_entries ds ss w h name (Parameter n index t) i
