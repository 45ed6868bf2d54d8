-- The parts of items, and how much they weigh.
use Rattle.std.specs.Prelude.{◌≡◌, ◌+◌, ◌<◌, ◌≤◌, ℕ, zero, suc, List, [], ◌∷◌, ◌++◌, length, get_or, drop, take, Option, None, Some, is_some, Bool, true, false, if◌then◌else◌, Result, Err, is_none}
use Rattle.std.proofs.Common.{refl, sym, ap, subst, ◌∙◌, arith, append_assoc}
use Rattle.std.proofs.lemmas.List.{append-nil, take_at}
use Rattle.net_lex.specs.declared.token.Token.{Token}
use Rattle.net_tree.specs.declared.operator.OperatorWords.{OperatorWords as Operator}
use Rattle.net_tree.specs.declared.expr.LinkedOperand.{LinkedOperand, out-LinkedOperand}
use Rattle.net_tree.specs.Tree.{Tree, Links, Part, Braces, leaf, tuple, chain, none, link, empty, filled}
use Rattle.net_tree.specs.View.{tree, links_of}
use Rattle.net_tree.specs.Weights.{weight, weights}
use Rattle.net_tree.proofs.Views.{links_of-cons, next_link}
use Rattle.net_names.specs.declared.meaning.Meaning.TheVariants as meanings
use Rattle.net_names.specs.declared.meaning.Need.{Need}
use Rattle.net_names.specs.declared.name_fault.NameFault.{NameFault}
use Rattle.net_names.specs.declared.name_fault.NameFault.TheVariants as faults
use Rattle.net_names.specs.Scopes.{NameScope, meaning_in, with_name}
use Rattle.net_names.specs.Reported.{Fault, first, Reports}
use Rattle.net_tree.proofs.Items.{behind}
use Rattle.net_tree.specs.Items.{is_in, both, sides, single_name}
use Rattle.net_tree.specs.Operations.{operation}
use Rattle.net_names.specs.Dummies.{with_component, with_components, with_left, with_sides, with_item, with_items, with_braces, with_bare}
use Rattle.net_names.specs.Names.{tree_fault, links_fault, items_fault, further_fault, part_fault, placed_fault, components_fault, braces_fault, is_tuple}
use Rattle.net_names.specs.Items.{by_sides, component_fault, left_fault, item_fault, items_and_part}

-- the fault of an item as it stands in braces
pub item_is : (n : Need) (s : NameScope) (x : Tree) → (if is_some (sides x) then placed_fault n s x else tree_fault n s x) ≡ item_fault n s x
item_is n s (chain k x (link r y none)) = go (is_in (operation r))
  where
    go : (b : Bool) → (if is_some (both x (behind b y)) then placed_fault n s (chain k x (link r y none)) else tree_fault n s (chain k x (link r y none)))
        ≡ by_sides n s (chain k x (link r y none)) (both x (behind b y))
    go true = refl
    go false = refl
item_is n s _ = refl

-- what is no tuple is a component by itself
pub left_other : (n : Need) (s : NameScope) (x : Tree) → is_tuple x ≡ false → left_fault n s x ≡ component_fault n s x
left_other n s x h = ap (λ b. if b then components_fault n s x else component_fault n s x) h

pub items-step : (n : Need) (s : NameScope) (o : Operator) (x : Tree) (l : Links) → items_fault n s (link o x l) ≡ first (item_fault n s x) (items_fault n (with_item s x) l)
items-step n s o x l = ap (λ f. first f (items_fault n (with_item s x) l)) (item_is n s x)

pub braces-items : (n : Need) (s : NameScope) (o : Token) (x : Tree) (l : Links) (p : Part) (c : Token) → braces_fault n s (filled o x l p c) ≡ items_and_part n s x l p
braces-items n s o x l p c = ap (λ f. first f (first (items_fault n (with_item s x) l) (part_fault n (with_items (with_item s x) l) p))) (item_is n s x)

-- the scope behind braces begins with the scope before them
abbrev pub Begins : NameScope → NameScope → Type 0
Begins s t = (r : NameScope) × (t ≡ s ++ r)

pub begins_same : (s : NameScope) → Begins s s
begins_same s = ([], sym (append-nil s))

pub begins_trans : (s t u : NameScope) → Begins s t → Begins t u → Begins s u
begins_trans s t u a b = (a.0 ++ b.0, b.1 ∙ ap (λ k. k ++ b.0) a.1 ∙ append_assoc s a.0 b.0)

bare_begins : (s : NameScope) (n : Option Token) → Begins s (with_bare s n)
bare_begins s None = begins_same s
bare_begins s (Some t) = go (is_none (meaning_in t.text s))
  where
    go : (b : Bool) → Begins s (if b then with_name s t meanings.Dummy else s)
    go true = ((t.text, meanings.Dummy) ∷ [], refl)
    go false = begins_same s

component_begins : (s : NameScope) (x : Tree) → Begins s (with_component s x)
component_begins s x = bare_begins s (single_name x)

components_begin : (s : NameScope) (l : Links) → Begins s (with_components s l)
components_begin s none = begins_same s
components_begin s (link o x l) = begins_trans s (with_component s x) (with_components (with_component s x) l) (component_begins s x) (components_begin (with_component s x) l)

left_begins : (s : NameScope) (x : Tree) → Begins s (with_left s x)
left_begins s (tuple o x l c) = begins_trans s (with_component s x) (with_components (with_component s x) l) (component_begins s x) (components_begin (with_component s x) l)
left_begins s (leaf t) = component_begins s (leaf t)
left_begins s _ = begins_same s

item_begins : (s : NameScope) (x : Tree) → Begins s (with_item s x)
item_begins s x = go (sides x)
  where
    go : (p : Option (Tree × Tree)) → Begins s (with_sides s p)
    go None = begins_same s
    go (Some p) = left_begins s p.0

items_begin : (s : NameScope) (l : Links) → Begins s (with_items s l)
items_begin s none = begins_same s
items_begin s (link o x l) = begins_trans s (with_item s x) (with_items (with_item s x) l) (item_begins s x) (items_begin (with_item s x) l)

pub braces_begin : (s : NameScope) (b : Braces) → Begins s (with_braces s b)
braces_begin s (empty o p c) = begins_same s
braces_begin s (filled o x l p c) = begins_trans s (with_item s x) (with_items (with_item s x) l) (item_begins s x) (items_begin (with_item s x) l)

pub taken_back : (s t : NameScope) → Begins s t → take (length s) t ≡ s
taken_back s t b = ap (take (length s)) b.1 ∙ take_at s b.0 _ refl

-- the dummies forgotten
pub forgotten_braces : (s t : NameScope) (b : Braces) (n : ℕ) → n ≡ length s → t ≡ with_braces s b → take n t ≡ s
forgotten_braces s t b n h e = ap (take n) e ∙ ap (λ k. take k (with_braces s b)) h ∙ taken_back s (with_braces s b) (braces_begin s b)

pub forgotten_components : (s t u : NameScope) (x : Tree) (l : Links) (n : ℕ) → n ≡ length s → t ≡ with_component s x → u ≡ with_components t l → take n u ≡ s
forgotten_components s t u x l n h e f =
    ap (take n) (f ∙ ap (λ k. with_components k l) e)
    ∙ ap (λ k. take k (with_components (with_component s x) l)) h
    ∙ taken_back s (with_components (with_component s x) l) (begins_trans s (with_component s x) (with_components (with_component s x) l) (component_begins s x) (components_begin (with_component s x) l))

-- an item weighs more than its two sides
pub sides_lighter : (x : Tree) (p : Tree × Tree) → sides x ≡ Some p → weight p.0 + weight p.1 < weight x
sides_lighter (chain k x (link r y none)) p h = go (is_in (operation r)) h
  where
    go : (b : Bool) → both x (behind b y) ≡ Some p → weight p.0 + weight p.1 < weight (chain k x (link r y none))
    go true e = let f : (x, y) ≡ p = cc in rw (← f) (omega arith)
    go false e = cc
sides_lighter _ p h = cc

-- the first fault of two, where the first has one, and where it has none
pub reports_first : (f g : Option Fault) (e : NameFault) → Reports f (Err e) → Reports (first f g) (Err e)
reports_first f g faults.OutOfMemory h = tt
reports_first f g (faults.At d t) h = ap (λ k. first k g) h

pub reports_after : (f g : Option Fault) (r : Result (Unit {0}) NameFault) → f ≡ None → Reports g r → Reports (first f g) r
reports_after f g r e h = subst (λ k. Reports (first k g) r) (sym e) h

pub reports_by : (f g : Option Fault) (r : Result (Unit {0}) NameFault) → f ≡ g → Reports g r → Reports f r
reports_by f g r e h = subst (λ k. Reports k r) (sym e) h

-- a link weighs less than all of them
pub link_lighter : (ls : List LinkedOperand) (i : ℕ) (l : LinkedOperand) → i < length ls → l ≡ get_or ls i l → weight (tree (out-LinkedOperand l).operand) < weights (links_of ls)
link_lighter [] i l h e = absurd (omega arith)
link_lighter (x ∷ ls) zero l h e = omega (arith, ap weights (links_of-cons x ls), ap (λ (k : LinkedOperand). weight (tree (out-LinkedOperand k).operand)) e)
link_lighter (x ∷ ls) (suc i) l h e = omega (arith, ap weights (links_of-cons x ls), link_lighter ls i l (omega arith) e)

-- the fault of the links from one of them on
pub links_left : (n : Need) (s t : NameScope) (ls : List LinkedOperand) (i : ℕ) (l : LinkedOperand) (whole : Option Fault) → i < length ls → l ≡ get_or ls i l → t ≡ s
    → links_fault n s (links_of (drop i ls)) ≡ whole → first (tree_fault n t (tree (out-LinkedOperand l).operand)) (links_fault n s (links_of (drop (i + 1) ls))) ≡ whole
links_left n s t ls i l whole h e k before =
    ap (λ u. first (tree_fault n u (tree (out-LinkedOperand l).operand)) (links_fault n s (links_of (drop (i + 1) ls)))) k
    ∙ sym (ap (links_fault n s) (next_link ls i l h e)) ∙ before

pub items_left : (n : Need) (s : NameScope) (ls : List LinkedOperand) (i : ℕ) (l : LinkedOperand) (whole : Option Fault) → i < length ls → l ≡ get_or ls i l
    → items_fault n s (links_of (drop i ls)) ≡ whole
    → first (item_fault n s (tree (out-LinkedOperand l).operand)) (items_fault n (with_item s (tree (out-LinkedOperand l).operand)) (links_of (drop (i + 1) ls))) ≡ whole
items_left n s ls i l whole h e before =
    sym (ap (items_fault n s) (next_link ls i l h e) ∙ items-step n s (out-LinkedOperand l).operator (tree (out-LinkedOperand l).operand) (links_of (drop (i + 1) ls))) ∙ before

pub components_left : (n : Need) (s : NameScope) (ls : List LinkedOperand) (i : ℕ) (l : LinkedOperand) (whole : Option Fault) → i < length ls → l ≡ get_or ls i l
    → further_fault n s (links_of (drop i ls)) ≡ whole
    → first (component_fault n s (tree (out-LinkedOperand l).operand)) (further_fault n (with_component s (tree (out-LinkedOperand l).operand)) (links_of (drop (i + 1) ls))) ≡ whole
components_left n s ls i l whole h e before = sym (ap (further_fault n s) (next_link ls i l h e)) ∙ before

pub after_none : (f g whole : Option Fault) → first f g ≡ whole → f ≡ None → g ≡ whole
after_none f g whole e h = sym (ap (λ k. first k g) h) ∙ e

pub stops_first : (f g whole : Option Fault) (e : NameFault) → first f g ≡ whole → Reports f (Err e) → Reports whole (Err e)
stops_first f g whole e h reported = reports_by whole (first f g) (Err e) (sym h) (reports_first f g e reported)

pub ruleset walking = (item_is, braces-items, forgotten_braces, forgotten_components, sides_lighter, reports_first, reports_after, reports_by)
