-- An arc that is declared before an objective has no coefficient in it.
use Rattle.std.specs.Prelude.{◌≡◌, ◌+◌, ℕ, Bool, true, false, List, [], ◌∷◌, ◌++◌, map, take, Option, None, Some, if◌then◌else◌, Ok, Err, ℤ, pos, ◌+ℤ◌, ◌*ℤ◌}
use Rattle.std.specs.List.{AllByRecursion, AllZip, IsDistinct}
use Rattle.std.specs.Str.{bytes_eq}
use Rattle.std.proofs.Common.{refl, ap, sym, ◌∙◌, subst, arith, inl, inr}
use Rattle.std.proofs.lemmas.Int.{ints}
use Rattle.std.proofs.lemmas.Slice.Eq.{bytes_eq-Decides}
use lib.IntN.{zero-*ℤ}
use Rattle.net_base.specs.Outcomes.{Outcome}
use Rattle.net_lex.specs.declared.token.Token.{Token}
use Rattle.net_tree.specs.Tree.{Braces, Phrase, Body, plain, valued, priced, Declaration, set, param, check, node, arc, objective}
use Rattle.net_expr.specs.declared.row.Row.{Row}
use Rattle.net_expr.specs.Worlds.{Name, World, Scope}
use Rattle.net_meaning.specs.Network as meaning
use Rattle.net_inst.specs.declared.network_names.Declared.{Declared}
use Rattle.net_inst.specs.AsWritten.{WrittenArc, arcs_of, arcs_with, arc_at_row, rows_of, in_order, arc_declared, Assignment, number_on, amount}
use Rattle.net_inst.specs.Drafts.{sense_of}
use Rattle.net_expr.specs.Indexings.{indexing_in}
use Rattle.net_inst.specs.Phrases.{Parts, parts_of}
use Rattle.net_inst.specs.Readings.{Objective, price_in, price_of, prices, objectives_from, is_wanted, or_else, chosen}
use Rattle.net_inst.specs.Soundness.{IsListed, NamesObjective, NameObjectives, IsSameArc}
use Rattle.net_inst.proofs.SoundArcs.{HasPrice}
use Rattle.net_inst.proofs.SoundGoals.{some_is}
use Rattle.net_inst.proofs.SoundNames.{goal_names}

-- no objective so far has this name
abbrev IsLater : List Name → Name → Type 0
IsLater before goal = (m : Name) → IsListed before m → bytes_eq goal m ≡ false

no_price : (before : List Name) (goal : Name) (w : World) (s : Scope) (ps : List Phrase) → IsLater before goal → AllByRecursion (λ (p : Phrase). NamesObjective before p.body) ps → price_of goal w s ps ≡ pos 0
no_price before goal w s [] later h = refl
no_price before goal w s (p ∷ ps) later h = omega (arith, ints, one p.body h.0, no_price before goal w s ps later h.1)
  where
    one : (b : Body) → NamesObjective before b → price_in goal w s b ≡ pos 0
    one plain l = refl
    one (valued t) l = refl
    one (priced n t) l = ap (λ (c : Bool). if c then amount w s t else pos 0) (later n.text l)

rows_free : (before : List Name) (goal : Name) (w : World) (n : Token) (b : Option Braces) (ps : List Phrase) (p : Parts) (rows : List Row) (x : Assignment) → IsLater before goal → AllByRecursion (λ (p : Phrase). NamesObjective before p.body) ps
    → prices goal (map (arc_at_row w n b ps p) rows) x ≡ pos 0
rows_free before goal w n b ps p [] x later h = refl
rows_free before goal w n b ps p (row ∷ rows) x later h =
    let one = ap (λ (m : ℤ). m *ℤ number_on x (arc_at_row w n b ps p row)) (no_price before goal w row.scope ps later h) ∙ zero-*ℤ (number_on x (arc_at_row w n b ps p row)) in
    omega (arith, ints, one, rows_free before goal w n b ps p rows x later h)

arcs_free : (before : List Name) (goal : Name) (w : World) (n : Token) (b : Option Braces) (ps : List Phrase) (o : Outcome Parts) (x : Assignment) → IsLater before goal → AllByRecursion (λ (p : Phrase). NamesObjective before p.body) ps
    → prices goal (arcs_with w n b ps o) x ≡ pos 0
arcs_free before goal w n b ps (Ok p) x later h = rows_free before goal w n b ps p (rows_of (indexing_in w b)) x later h
arcs_free before goal w n b ps (Err r) x later h = refl

prices_join : (goal : Name) (xs ys : List WrittenArc) (x : Assignment) → prices goal (xs ++ ys) x ≡ prices goal xs x +ℤ prices goal ys x
prices_join goal [] ys x = omega (arith, ints)
prices_join goal (a ∷ xs) ys x = omega (arith, ints, prices_join goal xs ys x)

-- the chosen objective is one of them
chosen_among : (P : Name → Type 0) (wanted : Option Name) (os : List Objective) (p : Objective) → AllByRecursion P (goal_names os) → chosen wanted os ≡ Some p → P p.name
chosen_among P wanted [] p h e = absurd (let q = e in cc)
chosen_among P wanted (o ∷ os) p h e = go (chosen wanted os) refl (is_wanted wanted o) e (chosen_among P wanted os p h.1)
  where
    go : (c : Option Objective) → chosen wanted os ≡ c → (b : Bool) → or_else c (if b then Some o else None) ≡ Some p → (chosen wanted os ≡ Some p → P p.name) → P p.name
    go (Some q) i b k more = more (i ∙ k)
    go None i true k more = subst (λ (q : Objective). P q.name) (some_is o p k) h.0
    go None i false k more = absurd (let q = k in cc)

flipped : (a b : Name) → bytes_eq a b ≡ false → bytes_eq b a ≡ false
flipped a b e = go (bytes_eq b a) refl
  where
    go : (c : Bool) → bytes_eq b a ≡ c → c ≡ false
    go true f = let same : bytes_eq a b ≡ true = (bytes_eq-Decides a b).1 (sym ((bytes_eq-Decides b a).0 f)) in cc
    go false f = refl

-- all arcs have the coefficients of those that are declared after the objective
pub all_prices : (wanted : Option Name) (names : List Name) (before : List Declared) (w : World) (k : ℕ) (ds : List Declaration) (x : Assignment) (p : Objective) → NameObjectives names ds → IsDistinct bytes_eq (goal_names (objectives_from before w k ds))
    → IsLater names p.name → chosen wanted (objectives_from before w k ds) ≡ Some p → prices p.name (in_order arcs_of w k ds) x ≡ prices p.name p.behind x
unfolding IsDistinct
all_prices wanted names before w k [] x p h once later e = absurd (let q = e in cc)
all_prices wanted names before w k (set t n ps z ∷ ds) x p h once later e = all_prices wanted names (before ++ []) w (k + 1) ds x p h once later e
all_prices wanted names before w k (param t n b ps z ∷ ds) x p h once later e = all_prices wanted names (before ++ []) w (k + 1) ds x p h once later e
all_prices wanted names before w k (check t b m q z ∷ ds) x p h once later e = all_prices wanted names (before ++ []) w k ds x p h once later e
all_prices wanted names before w k (node t n b c z ∷ ds) x p h once later e = all_prices wanted names (before ++ []) w k ds x p h once later e
all_prices wanted names before w k (arc t n b ps z ∷ ds) x p h once later e =
    let here = arcs_free names p.name (take k w) n b ps (parts_of n ps) x later h.0 in
    let rest = all_prices wanted names (before ++ arc_declared (arc t n b ps z)) w k ds x p h.1 once later e in
    omega (arith, ints, prices_join p.name (arcs_with (take k w) n b ps (parts_of n ps)) (in_order arcs_of w k ds) x, here, rest)
all_prices wanted names before w k (objective t n q z ∷ ds) x p h once later e = go (chosen wanted (objectives_from (before ++ []) w k ds)) refl (is_wanted wanted one) e (λ l i. all_prices wanted (n.text ∷ names) (before ++ []) w k ds x p h once.1 l i)
  where
    one : Objective
    one = record { sense = sense_of t; name = n.text; env = take k w; expression = q; before = before; behind = in_order arcs_of w k ds }

    after : bytes_eq p.name n.text ≡ false → IsLater (n.text ∷ names) p.name
    after other m (inl same) = subst (λ (y : Name). bytes_eq p.name y ≡ false) same other
    after other m (inr l) = later m l

    go : (c : Option Objective) → chosen wanted (objectives_from (before ++ []) w k ds) ≡ c → (b : Bool) → or_else c (if b then Some one else None) ≡ Some p
        → (IsLater (n.text ∷ names) p.name → chosen wanted (objectives_from (before ++ []) w k ds) ≡ Some p → prices p.name (in_order arcs_of w k ds) x ≡ prices p.name p.behind x) → prices p.name (in_order arcs_of w k ds) x ≡ prices p.name p.behind x
    go None i true j more = ap (λ (r : Objective). prices p.name r.behind x) (some_is one p j)
    go None i false j more = absurd (let r = j in cc)
    go (Some r) i b j more =
        let other = flipped n.text p.name (chosen_among (λ (y : Name). bytes_eq n.text y ≡ false) wanted (objectives_from (before ++ []) w k ds) p once.0 (i ∙ j)) in
        more (after other) (i ∙ j)

-- ---- coefficients

pub terms_are : (goal : Name) (xs : List WrittenArc) (all : List meaning.Arc) (x : Assignment) → AllZip (HasPrice goal) xs all → AllZip IsSameArc xs all → meaning.coefficient_terms all x ≡ prices goal xs x
terms_are goal [] [] x h same = refl
terms_are goal [] (a ∷ all) x h same = absurd h
terms_are goal (v ∷ xs) [] x h same = absurd h
terms_are goal (v ∷ xs) (a ∷ all) x h same =
    let one = same.0 in
    let flow : meaning.flow_on x a ≡ number_on x v = ap (λ (m : Name). x m a.label.key) one.name ∙ ap (x v.label.name) one.key in
    let term = ap (λ (m : ℤ). m *ℤ meaning.flow_on x a) h.0 ∙ ap (λ (m : ℤ). price_of goal v.env v.scope v.phrases *ℤ m) flow in
    omega (arith, ints, term, terms_are goal xs all x h.1 same.1)
