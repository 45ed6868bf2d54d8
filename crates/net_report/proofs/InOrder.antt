-- Where arcs stand in the order of their declarations, those of a declaration stand together.
use Rattle.std.proofs.Common.{◌≡◌, ℕ, suc, ◌+◌, ◌≤◌, ◌<◌, true, false, cond, List, [], ◌∷◌, ◌++◌, take, drop, ℤ, refl, ap, sym, subst, ◌∙◌, arith, inl, inr}
use Rattle.std.specs.Prelude.{nat_eq, codes}
use Rattle.std.specs.List.{zip, filter, take_while, prefix_len}
use Rattle.std.proofs.lemmas.Bool.{cases_Bool}
use Rattle.std.proofs.lemmas.Bool.Decides.{nat_tests}
use Rattle.net_inst.specs.declared.network_names.Declared.{Declared}
use Rattle.net_inst.specs.Lists.{Key, AreInOrder}
use Rattle.net_inst.specs.declared.network_names.Names.{Names}
use Rattle.net_report.specs.Displays.{Assigned, value_line, is_of, block, blocks, blocks_of_all, display_text, display_of_all}
use Rattle.net_report.specs.Prices.{prices_text, prices_of_all}

-- arcs with their numbers, of declaration d or a later one, in order
abbrev pub IsOrdered : ℕ → List Assigned → Type 0
IsOrdered d [] = Unit {0}
IsOrdered d (a ∷ arcs) = (d ≤ a.0.declaration) × IsOrdered a.0.declaration arcs

ordered_pairs : (d : ℕ) (ks : List Key) (zs : List ℤ) → AreInOrder d ks → IsOrdered d (zip ks zs)
ordered_pairs d [] zs h = tt
ordered_pairs d (k ∷ ks) [] h = tt
ordered_pairs d (k ∷ ks) (z ∷ zs) h = (h.0, ordered_pairs k.declaration ks zs h.1)

from_earlier : (d e : ℕ) (arcs : List Assigned) → d ≤ e → IsOrdered e arcs → IsOrdered d arcs
from_earlier d e [] l h = tt
from_earlier d e (a ∷ arcs) l h = let first = h.0 in (omega (arith, l, first), h.1)

-- ---- an arc that is of a declaration, or of none so early

alike : (m d : ℕ) → nat_eq m d ≡ true → m ≡ d
alike m d e = grind (arith, nat_tests)

unlike : (m d : ℕ) → d < m → nat_eq m d ≡ false
unlike m d l = grind (arith, nat_tests)

past : (m d : ℕ) → d ≤ m → nat_eq m d ≡ false → d < m
past m d l e = grind (arith, nat_tests)

-- ---- the arcs of one declaration

none_before : (d e : ℕ) (arcs : List Assigned) → d < e → IsOrdered e arcs → filter (is_of d) arcs ≡ []
none_before d e [] l h = refl
none_before d e (a ∷ arcs) l h =
    let first = h.0 in
    let behind : d < a.0.declaration = omega (arith, l, first) in
    ap (λ t. cond t (a ∷ filter (is_of d) arcs) (filter (is_of d) arcs)) (unlike a.0.declaration d behind) ∙ none_before d a.0.declaration arcs behind h.1

one_more : (n : ℕ) → 1 + n ≡ suc n
one_more n = omega arith

-- where the first arc is of declaration d, and where it is of a later one
at_front : (d : ℕ) (a : Assigned) (arcs : List Assigned) → nat_eq a.0.declaration d ≡ true → take_while (is_of d) (a ∷ arcs) ≡ a ∷ take_while (is_of d) arcs
at_front d a arcs e = ap (λ t. take (cond t (1 + prefix_len (is_of d) arcs) 0) (a ∷ arcs)) e ∙ ap (λ n. take n (a ∷ arcs)) (one_more (prefix_len (is_of d) arcs))

none_at_front : (d : ℕ) (a : Assigned) (arcs : List Assigned) → nat_eq a.0.declaration d ≡ false → take_while (is_of d) (a ∷ arcs) ≡ []
none_at_front d a arcs e = ap (λ t. take (cond t (1 + prefix_len (is_of d) arcs) 0) (a ∷ arcs)) e

abbrev pub rest : ℕ → List Assigned → List Assigned
rest d arcs = drop (prefix_len (is_of d) arcs) arcs

rest_after : (d : ℕ) (a : Assigned) (arcs : List Assigned) → nat_eq a.0.declaration d ≡ true → rest d (a ∷ arcs) ≡ rest d arcs
rest_after d a arcs e = ap (λ t. drop (cond t (1 + prefix_len (is_of d) arcs) 0) (a ∷ arcs)) e ∙ ap (λ n. drop n (a ∷ arcs)) (one_more (prefix_len (is_of d) arcs))

all_left : (d : ℕ) (a : Assigned) (arcs : List Assigned) → nat_eq a.0.declaration d ≡ false → rest d (a ∷ arcs) ≡ a ∷ arcs
all_left d a arcs e = ap (λ t. drop (cond t (1 + prefix_len (is_of d) arcs) 0) (a ∷ arcs)) e

own_at_front : (d : ℕ) (arcs : List Assigned) → IsOrdered d arcs → filter (is_of d) arcs ≡ take_while (is_of d) arcs
own_at_front d [] h = refl
own_at_front d (a ∷ arcs) h = elim (cases_Bool (nat_eq a.0.declaration d)) [
  | inl e ↦
      ap (λ t. cond t (a ∷ filter (is_of d) arcs) (filter (is_of d) arcs)) e
      ∙ ap (λ (l : List Assigned). a ∷ l) (own_at_front d arcs (from_earlier d a.0.declaration arcs h.0 h.1))
      ∙ sym (at_front d a arcs e)
  | inr e ↦
      ap (λ t. cond t (a ∷ filter (is_of d) arcs) (filter (is_of d) arcs)) e
      ∙ none_before d a.0.declaration arcs (past a.0.declaration d h.0 e) h.1
      ∙ sym (none_at_front d a arcs e)
]

rest_ordered : (d : ℕ) (arcs : List Assigned) → IsOrdered d arcs → IsOrdered (suc d) (rest d arcs)
rest_ordered d [] h = tt
rest_ordered d (a ∷ arcs) h = elim (cases_Bool (nat_eq a.0.declaration d)) [
  | inl e ↦ subst (IsOrdered (suc d)) (sym (rest_after d a arcs e)) (rest_ordered d arcs (from_earlier d a.0.declaration arcs h.0 h.1))
  | inr e ↦
      let behind : d < a.0.declaration = past a.0.declaration d h.0 e in
      subst (IsOrdered (suc d)) (sym (all_left d a arcs e)) (omega (arith, behind), h.1)
]

-- ---- the arcs of the others are all in the rest

others_in_rest : (d e : ℕ) (arcs : List Assigned) → d < e → filter (is_of e) arcs ≡ filter (is_of e) (rest d arcs)
others_in_rest d e [] l = refl
others_in_rest d e (a ∷ arcs) l = elim (cases_Bool (nat_eq a.0.declaration d)) [
  | inl same ↦
      let not_its : nat_eq a.0.declaration e ≡ false = ap (λ m. nat_eq m e) (alike a.0.declaration d same) ∙ differ d e l in
      ap (λ t. cond t (a ∷ filter (is_of e) arcs) (filter (is_of e) arcs)) not_its
      ∙ others_in_rest d e arcs l
      ∙ ap (filter (is_of e)) (sym (rest_after d a arcs same))
  | inr other ↦ ap (filter (is_of e)) (sym (all_left d a arcs other))
]
  where
    differ : (d e : ℕ) → d < e → nat_eq d e ≡ false
    differ d e l = grind (arith, nat_tests)

later_in_rest : (d e : ℕ) (xs : List Declared) (arcs : List Assigned) → d < e → blocks_of_all e xs arcs ≡ blocks_of_all e xs (rest d arcs)
later_in_rest d e [] arcs l = refl
later_in_rest d e (x ∷ xs) arcs l =
    ap (λ own. block x own ++ blocks_of_all (suc e) xs arcs) (others_in_rest d e arcs l)
    ∙ ap (λ t. block x (filter (is_of e) (rest d arcs)) ++ t) (later_in_rest d (suc e) xs arcs (omega (arith, l)))

same_blocks : (d : ℕ) (xs : List Declared) (arcs : List Assigned) → IsOrdered d arcs → blocks d xs arcs ≡ blocks_of_all d xs arcs
same_blocks d [] arcs h = refl
same_blocks d (x ∷ xs) arcs h =
    ap (λ own. block x own ++ blocks (suc d) xs (rest d arcs)) (sym (own_at_front d arcs h))
    ∙ ap (λ t. block x (filter (is_of d) arcs) ++ t) (same_blocks (suc d) xs (rest d arcs) (rest_ordered d arcs h) ∙ sym (later_in_rest d (suc d) xs arcs (omega arith)))

-- a plan whose arcs are in order shows all of them
pub shows_all : (names : Names) (assignment : List ℤ) (value : ℤ) → AreInOrder 0 names.arcs.keys → display_text names assignment value ≡ display_of_all names assignment value
shows_all names assignment value h =
    ap (λ t. value_line names.objective value ++ t) (same_blocks 0 names.arcs.declarations (zip names.arcs.keys assignment) (ordered_pairs 0 names.arcs.keys assignment h))

-- and so do prices of nodes and arcs that are in order
pub prices_show_all : (names : Names) (prices costs : List ℤ) → AreInOrder 0 names.nodes.keys → AreInOrder 0 names.arcs.keys → prices_text names prices costs ≡ prices_of_all names prices costs
prices_show_all names prices costs h k =
    let nodes = same_blocks 0 names.nodes.declarations (zip names.nodes.keys prices) (ordered_pairs 0 names.nodes.keys prices h) in
    let arcs = same_blocks 0 names.arcs.declarations (zip names.arcs.keys costs) (ordered_pairs 0 names.arcs.keys costs k) in
    ap (λ (t : List ℕ). codes "prices\n" ++ (t ++ (codes "reduced costs\n" ++ blocks 0 names.arcs.declarations (zip names.arcs.keys costs)))) nodes
    ∙ ap (λ (t : List ℕ). codes "prices\n" ++ (blocks_of_all 0 names.nodes.declarations (zip names.nodes.keys prices) ++ (codes "reduced costs\n" ++ t))) arcs
