-- The objective of a network is the chosen one, and its sum is the value as it is written.
use Rattle.std.specs.Prelude.{◌≡◌, ◌+◌, ℕ, Bool, true, false, List, [], ◌∷◌, ◌++◌, length, map, slice_get, nat_eq, Option, None, Some, if◌then◌else◌, Ok, ℤ, pos, ◌+ℤ◌, ◌*ℤ◌}
use Rattle.std.specs.List.{IsDistinct}
use Rattle.std.specs.Str.{bytes_eq}
use Rattle.std.proofs.Common.{refl, ap, sym, ◌∙◌, subst, arith, append_assoc}
use Rattle.std.proofs.lemmas.Int.{ints}
use lib.IntN.{zero-*ℤ}
use Rattle.std.proofs.lemmas.List.{length-append}
use Rattle.net_base.specs.declared.diagnostic.Span.{Span}
use Rattle.net_lex.specs.declared.token.Token.{Token}
use Rattle.net_sets.specs.Sets.{Tuple, place_of}
use Rattle.net_tree.specs.Spans.{span_of}
use Rattle.net_tree.specs.Tree.{Tree, Braces, Part, absent, part, Body, plain, valued, priced, Phrase}
use Rattle.net_base.specs.declared.diagnostic.Detail.{Detail}
use Rattle.net_base.specs.declared.error_code.ErrorCode.TheVariants.{Arity}
use Rattle.net_expr.specs.declared.row.Row.{Row}
use Rattle.net_expr.specs.declared.value.Value.{Value}
use Rattle.net_expr.specs.Worlds.{Name, World, Scope, key_count, reference}
use Rattle.net_linear.specs.declared.key_numbers.KeyNumbers.{KeyNumbers}
use Rattle.net_linear.specs.Arcs.{declared, arc_at, numbered}
use Rattle.net_linear.specs.Conditions.{number_of}
use Rattle.net_linear.specs.Forms.{Linear, just, form_at, all_apart}
use Rattle.net_linear.specs.Forms as forms
use Rattle.net_linear.specs.Amounts.{as_number}
use Rattle.net_linear.proofs.FormLaws.{form_just, priced_worth}
use Rattle.net_linear.proofs.Rings.{add-mul}
use Rattle.net_inst.specs.declared.arc.Built.{Built}
use Rattle.net_inst.specs.declared.draft.ChosenObjective.{ChosenObjective}
use Rattle.net_inst.specs.declared.network_names.Declared.{Declared}
use Rattle.net_inst.specs.Arcs.{BuiltArcs, priced_by, price_in, prices_in, next_arc, arcs_at, with_arcs, arc_env, arc_text}
use Rattle.net_inst.specs.AsWritten.{WrittenLabel, WrittenArc, rows_of, arc_at_row, arcs_with, same_label, Assignment, number_on, numbers_on, amount}
use Rattle.net_inst.specs.Drafts.{part_form}
use Rattle.net_inst.specs.Groups.{Numbers}
use Rattle.net_inst.specs.Nodes.{BuiltNodes}
use Rattle.net_inst.specs.Numbers.{number}
use Rattle.net_base.specs.Outcomes.{Outcome, and_then, rejected}
use Rattle.net_inst.specs.Phrases.{Parts, parts_of}
use Rattle.net_inst.specs.Readings.{reading, name_alone, price_of, prices, part_value}
use Rattle.net_inst.specs.Readings as written
use Rattle.net_inst.proofs.Agreement.{IsNextArc, next_arc_is, AreArcsBy, with_arcs_is}
use Rattle.net_inst.proofs.Apart.{objective_apart, price_apart}
use Rattle.net_inst.proofs.Labels.{Finds, found_label, NameAlike}
use Rattle.net_inst.proofs.Placing.{number_is}
use Rattle.net_inst.proofs.ReadingLaws.{ReadAlike, form_reads, names_all_same}
use Rattle.net_inst.proofs.Totals.{number_at, number_of_label, number_of_arc}
use Rattle.net_inst.proofs.Zips.{ok_then, ok_is, map_join, get_front}

-- the numbers of all arcs by their places
abbrev pub by_place : List WrittenArc → Assignment → ℕ → ℤ
by_place all x = number_at (numbers_on x all)

-- ---- phrases

abbrev pub goal_price : Option ChosenObjective → World → Scope → List Phrase → ℤ
goal_price None w s ps = pos 0
goal_price (Some g) w s ps = price_of g.name w s ps

abbrev pub goal_prices : Option ChosenObjective → List WrittenArc → Assignment → ℤ
goal_prices None all x = pos 0
goal_prices (Some g) all x = prices g.name all x

pub amount_is : (w : World) (s : Scope) (t : Tree) (n : ℤ) → number w s t ≡ Ok n → amount w s t ≡ n
amount_is w s t n e = ap (λ (o : Outcome Value). number_of (and_then o (λ v. Ok (as_number v)))) (number_is w s t n e)

one_price : (g : ChosenObjective) (w : World) (s : Scope) (a : ℕ) (b : Body) (f new : Linear) → price_in (Some g) w s a b f ≡ Ok new → (x : ℕ → ℤ) → form_at x new ≡ form_at x f +ℤ written.price_in g.name w s b *ℤ x a
one_price g w s a plain f new e x = let same = ok_is f new e in ap (form_at x) (sym same) ∙ omega (arith, ints, zero-*ℤ (x a))
one_price g w s a (valued t) f new e x = let same = ok_is f new e in ap (form_at x) (sym same) ∙ omega (arith, ints, zero-*ℤ (x a))
one_price g w s a (priced n t) f new e x = go (bytes_eq g.name n.text) e
  where
    go : (b : Bool) → (if b then priced_by w s a t f else Ok f) ≡ Ok new → form_at x new ≡ form_at x f +ℤ (if b then amount w s t else pos 0) *ℤ x a
    go true h =
        ok_then (number w s t) (λ c. forms.priced (span_of t) f a c) new h (λ c i j.
        priced_worth x (span_of t) f a c new j ∙ ap (λ (m : ℤ). form_at x f +ℤ m *ℤ x a) (sym (amount_is w s t c i)))
    go false h = let same = ok_is f new h in ap (form_at x) (sym same) ∙ omega (arith, ints, zero-*ℤ (x a))

passed_over : (w : World) (s : Scope) (a : ℕ) (ps : List Phrase) (f new : Linear) → prices_in None w s a ps f ≡ Ok new → f ≡ new
passed_over w s a [] f new e = ok_is f new e
passed_over w s a (p ∷ ps) f new e = ok_then (price_in None w s a p.body f) (prices_in None w s a ps) new e (λ g i j. one p.body g i ∙ passed_over w s a ps g new j)
  where
    one : (b : Body) (g : Linear) → price_in None w s a b f ≡ Ok g → f ≡ g
    one plain g i = ok_is f g i
    one (valued t) g i = ok_is f g i
    one (priced n t) g i = ok_is f g i

all_prices : (g : Option ChosenObjective) (w : World) (s : Scope) (a : ℕ) (ps : List Phrase) (f new : Linear) → prices_in g w s a ps f ≡ Ok new → (x : ℕ → ℤ) → form_at x new ≡ form_at x f +ℤ goal_price g w s ps *ℤ x a
all_prices None w s a ps f new e x = ap (form_at x) (sym (passed_over w s a ps f new e)) ∙ omega (arith, ints, zero-*ℤ (x a))
all_prices (Some g) w s a [] f new e x = ap (form_at x) (sym (ok_is f new e)) ∙ omega (arith, ints, zero-*ℤ (x a))
all_prices (Some g) w s a (p ∷ ps) f new e x =
    ok_then (price_in (Some g) w s a p.body f) (prices_in (Some g) w s a ps) new e (λ h i j.
    omega (arith, ints, all_prices (Some g) w s a ps h new j x, one_price g w s a p.body f h i x, add-mul (written.price_in g.name w s p.body) (price_of g.name w s ps) (x a)))

prices_apart : (g : Option ChosenObjective) (w : World) (s : Scope) (a : ℕ) (ps : List Phrase) (f new : Linear) → all_apart f.products ≡ true → prices_in g w s a ps f ≡ Ok new → all_apart new.products ≡ true
prices_apart g w s a [] f new h e = ap (λ (z : Linear). all_apart z.products) (sym (ok_is f new e)) ∙ h
prices_apart g w s a (p ∷ ps) f new h e = ok_then (price_in g w s a p.body f) (prices_in g w s a ps) new e (λ k i j. prices_apart g w s a ps k new (one g p.body k i) j)
  where
    same : (k : Linear) → (let o : Outcome Linear = Ok f in o ≡ Ok k) → all_apart k.products ≡ true
    same k i = ap (λ (z : Linear). all_apart z.products) (sym (ok_is f k i)) ∙ h

    one : (g : Option ChosenObjective) (b : Body) (k : Linear) → price_in g w s a b f ≡ Ok k → all_apart k.products ≡ true
    one g plain k i = same k i
    one g (valued t) k i = same k i
    one None (priced n t) k i = same k i
    one (Some g) (priced n t) k i = go (bytes_eq g.name n.text) i
      where
        go : (b : Bool) → (if b then priced_by w s a t f else Ok f) ≡ Ok k → all_apart k.products ≡ true
        go true m = ok_then (number w s t) (λ c. forms.priced (span_of t) f a c) k m (λ c q y. price_apart (span_of t) f a c k h y)
        go false m = same k m

-- ---- arcs

-- what rows of an arc's declaration add to the form
pub record Adds (all : List WrittenArc) (g : Option ChosenObjective) (here : List WrittenArc) (f new : Linear) : Type 0 where
  pub apart : all_apart f.products ≡ true → all_apart new.products ≡ true
  pub sum : (x : Assignment) → form_at (by_place all x) new ≡ form_at (by_place all x) f +ℤ goal_prices g here x

goal_more : (g : Option ChosenObjective) (w : World) (n : Token) (b : Option Braces) (ps : List Phrase) (p : Parts) (row : Row) (rest : List WrittenArc) (x : Assignment)
    → goal_prices g (arc_at_row w n b ps p row ∷ rest) x ≡ goal_price g w row.scope ps *ℤ number_on x (arc_at_row w n b ps p row) +ℤ goal_prices g rest x
goal_more None w n b ps p row rest x = omega (arith, ints, zero-*ℤ (number_on x (arc_at_row w n b ps p row)))
goal_more (Some g) w n b ps p row rest x = refl

nothing_more : (g : Option ChosenObjective) (m : ℤ) (x : Assignment) → m ≡ m +ℤ goal_prices g [] x
nothing_more None m x = omega (arith, ints)
nothing_more (Some g) m x = omega (arith, ints)

row_adds : (all : List WrittenArc) (g : Option ChosenObjective) (dn : BuiltNodes) (w : World) (n : Token) (b : Option Braces) (k : Option ℕ) (p : Parts) (ps : List Phrase) (row : Row) (d next new : BuiltArcs) (front later after : List WrittenArc)
    → length d.arcs ≡ length front → all ≡ front ++ (arc_at_row w n b ps p row ∷ later ++ after) → IsNextArc g dn w n k p ps row d next → Adds all g later next.form new.form → Adds all g (arc_at_row w n b ps p row ∷ later) d.form new.form
row_adds all g dn w n b k p ps row d next new front later after l whole by rest = record {
  apart = λ h. rest.apart (prices_apart g w row.scope (length d.arcs) ps d.form next.form h by.priced);
  sum = λ x.
      let first = all_prices g w row.scope (length d.arcs) ps d.form next.form by.priced (by_place all x) in
      let place : by_place all x (length d.arcs) ≡ number_on x one = ap (λ (each : List WrittenArc). by_place each x (length d.arcs)) whole ∙ number_of_arc x front one (later ++ after) (length d.arcs) l in
      let times : goal_price g w row.scope ps *ℤ by_place all x (length d.arcs) ≡ goal_price g w row.scope ps *ℤ number_on x one = ap (λ (m : ℤ). goal_price g w row.scope ps *ℤ m) place in
      omega (arith, ints, rest.sum x, first, times, goal_more g w n b ps p row later x);
}
  where
    one : WrittenArc
    one = arc_at_row w n b ps p row

rows_add : (all : List WrittenArc) (g : Option ChosenObjective) (dn : BuiltNodes) (w : World) (n : Token) (b : Option Braces) (k : Option ℕ) (p : Parts) (ps : List Phrase) (rows : List Row) (d new : BuiltArcs) (front after : List WrittenArc)
    → length d.arcs ≡ length front → all ≡ front ++ (map (arc_at_row w n b ps p) rows ++ after) → arcs_at (arc_env g dn w) (arc_text n p ps) k rows d ≡ Ok new → Adds all g (map (arc_at_row w n b ps p) rows) d.form new.form
rows_add all g dn w n b k p ps [] d new front after l whole e =
    let same = ap (λ (z : BuiltArcs). z.form) (ok_is d new e) in
    record { apart = λ h. ap (λ (z : Linear). all_apart z.products) (sym same) ∙ h; sum = λ x. ap (form_at (by_place all x)) (sym same) ∙ nothing_more g (form_at (by_place all x) d.form) x }
rows_add all g dn w n b k p ps (row ∷ rows) d new front after l whole e =
    ok_then (next_arc (arc_env g dn w) (arc_text n p ps) k row d) (arcs_at (arc_env g dn w) (arc_text n p ps) k rows) new e (λ next i j.
    let by = next_arc_is g dn w n k p ps row d next i in
    let one = arc_at_row w n b ps p row in
    let later = map (arc_at_row w n b ps p) rows in
    let counted : length next.arcs ≡ length (front ++ one ∷ []) = ap (λ (xs : List Built). length xs) by.arcs ∙ omega (arith, length-append d.arcs (by.arc ∷ []), length-append front (one ∷ []), l) in
    row_adds all g dn w n b k p ps row d next new front later after l whole by
    (rows_add all g dn w n b k p ps rows next new (front ++ one ∷ []) after counted (whole ∙ sym (append_assoc front (one ∷ []) (later ++ after))) j))

pub arcs_add : (all : List WrittenArc) (g : Option ChosenObjective) (dn : BuiltNodes) (w : World) (n : Token) (b : Option Braces) (ps : List Phrase) (d new : BuiltArcs) (front after : List WrittenArc)
    → length d.arcs ≡ length front → all ≡ front ++ (arcs_with w n b ps (parts_of n ps) ++ after) → with_arcs (arc_env g dn w) n b ps d ≡ Ok new → Adds all g (arcs_with w n b ps (parts_of n ps)) d.form new.form
arcs_add all g dn w n b ps d new front after l whole e =
    subst (λ (here : List WrittenArc). Adds all g here d.form new.form) (sym here_is)
    (subst (λ (z : BuiltArcs). Adds all g here d.form z.form) by.is_named (rows_add all g dn w n b by.indexing.count by.parts ps by.indexing.rows d by.found front after l (whole ∙ ap (λ (xs : List WrittenArc). front ++ (xs ++ after)) here_is) by.are_found))
  where
    by : AreArcsBy g dn w n b ps d new
    by = with_arcs_is g dn w n b ps d new e

    here : List WrittenArc
    here = map (arc_at_row w n b ps by.parts) by.indexing.rows

    here_is : arcs_with w n b ps (parts_of n ps) ≡ here
    here_is = ap (arcs_with w n b ps) by.says ∙ ap (λ (rows : List Row). map (arc_at_row w n b ps by.parts) rows) (ap rows_of by.keys)

-- ---- what an objective says

-- an arc's number is the place of its label
pub read_alike : (all front after : List WrittenArc) (x : Assignment) (a : Numbers) → Finds (map (λ v. v.label) front) a → IsDistinct same_label (map (λ v. v.label) front) → all ≡ front ++ after → ReadAlike a (by_place all x) x
read_alike all front after x a finds distinct whole = record { alike = λ at n key v e. by_keys at n key v (declared a n) refl e }
  where
    placed : (n : Name) (key : Tuple) (v : ℕ) (k : KeyNumbers) (p : ℕ) → declared a n ≡ Some k → place_of k.keys key ≡ Some p → v ≡ k.first + p → by_place all x v ≡ x n key
    placed n key v k p e i j =
        let found = found_label (map (λ v. v.label) front) a n k key p v finds distinct e i j in
        let there : slice_get (map (λ u. u.label) all) v ≡ Some found.0 = ap (λ (l : List WrittenArc). slice_get (map (λ u. u.label) l) v) whole ∙ ap (λ (l : List WrittenLabel). slice_get l v) (map_join (λ (u : WrittenArc). u.label) front after) ∙ get_front (map (λ u. u.label) front) (map (λ u. u.label) after) v found.0 found.1 in
        number_of_label x all v found.0 there ∙ ap (λ (m : Name). x m found.0.key) found.2 ∙ ap (x n) found.3

    by_number : (at : Span) (n : Name) (key : Tuple) (v : ℕ) (k : KeyNumbers) → declared a n ≡ Some k → (o : Option ℕ) → place_of k.keys key ≡ o → (r : Detail) → numbered at r k.first o ≡ Ok v → by_place all x v ≡ x n key
    by_number at n key v k e None i r j = cc
    by_number at n key v k e (Some p) i r j = placed n key v k p e i (let same : k.first + p ≡ v = cc in sym same)

    by_keys : (at : Span) (n : Name) (key : Tuple) (v : ℕ) (o : Option KeyNumbers) → declared a n ≡ o → arc_at at n o key ≡ Ok v → by_place all x v ≡ x n key
    by_keys at n key v None e i = cc
    by_keys at n key v (Some k) e i = go (nat_eq (length key) (key_count k.count)) i
      where
        go : (b : Bool) → (if b then numbered at (reference n k.count key) k.first (place_of k.keys key) else rejected Arity at) ≡ Ok v → by_place all x v ≡ x n key
        go true h = by_number at n key v k e (place_of k.keys key) refl (reference n k.count key) h
        go false h = cc

-- what is said of the arcs before
pub said_apart : (a : Numbers) (w : World) (p : Part) (f : Linear) → part_form a w p ≡ Ok f → all_apart f.products ≡ true
said_apart a w absent f e = ap (λ (z : Linear). all_apart z.products) (sym (ok_is (just (pos 0)) f e))
said_apart a w (part m t) f e = objective_apart a w [] t f e

pub said_is : (a : Numbers) (ds : List Declared) (x : ℕ → ℤ) (y : Assignment) (w : World) (p : Part) (f : Linear) → NameAlike a (map name_alone ds) → ReadAlike a x y → part_form a w p ≡ Ok f → form_at x f ≡ part_value ds w p y
said_is a ds x y w absent f names alike e = ap (form_at x) (sym (ok_is (just (pos 0)) f e)) ∙ form_just x (pos 0)
said_is a ds x y w (part m t) f names alike e =
    form_reads x y a alike w [] t f e ∙ ap (λ (arc_in : Tree → Bool). reading arc_in w [] t y) (names_all_same a (map name_alone ds) names)
