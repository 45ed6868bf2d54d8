-- Tuples that the dummies in scope leave out lead nowhere, so a walk may pass them by.
use Rattle.std.specs.Prelude.{◌≡◌, ◌+◌, ◌<◌, ◌≤◌, ℕ, zero, suc, min, List, [], ◌∷◌, length, drop, filter, get_or, nat_lt, slice_get, Option, None, Some, is_some, Bool, true, false, ◌||◌, cond, if◌then◌else◌, Ok}
use Rattle.std.proofs.Common.{refl, sym, ap, ◌∙◌, arith, add-one}
use Rattle.std.proofs.lemmas.Bool.Decides.{nat_tests}
use Rattle.std.specs.List.{fold}
use Rattle.std.specs.Str.{bytes_eq}
use Rattle.std.proofs.lemmas.Slice.Eq.{bytes_eq-Decides}
use Rattle.net_base.specs.declared.diagnostic.Span.{Span}
use Rattle.net_lex.specs.declared.token.Token.{Token}
use Rattle.net_sets.specs.declared.member.Member.{Member}
use Rattle.net_sets.specs.Sets.{Tuple, same_member}
use Rattle.net_sets.specs.Operations.{narrowest}
use Rattle.net_sets.specs.Components.{agrees, is_member, sought}
use Rattle.net_tree.specs.declared.role.Role.{Role}
use Rattle.net_tree.specs.declared.role.Role.TheVariants as roles
use Rattle.net_tree.specs.Role.{role_of, is_name}
use Rattle.net_tree.specs.Spans.{span_of}
use Rattle.net_tree.specs.declared.expr.LinkedOperand.{LinkedOperand, out-LinkedOperand}
use Rattle.net_tree.specs.Tree.{Tree, Links, leaf, tuple, none, link}
use Rattle.net_tree.specs.View.{tree, links_of}
use Rattle.net_tree.proofs.Views.{next_link}
use Rattle.net_expr.specs.declared.row.PartialRow.{PartialRow}
use Rattle.net_expr.specs.declared.row.Row.{Row}
use Rattle.net_expr.specs.declared.value.Value.{Value}
use Rattle.net_expr.specs.declared.value.Value.TheVariants.{One}
use Rattle.net_base.specs.Outcomes.{Outcome, and_then, each}
use Rattle.net_expr.specs.Worlds.{Name, World, Scope, bound, entry_of, with_dummy}
use Rattle.net_expr.specs.Items.{sides, text_of, bare, unless_known, new_dummy}
use Rattle.net_expr.specs.Rows.{bind, match_component, if_fits, go_on, onward}
use Rattle.net_expr.specs.Values.{value, token_value, place, left_place, places}
use Rattle.net_expr.specs.Walks.{placed}
use Rattle.net_expr.specs.Selecting.{dummy_alone, picked, selecting_from, selecting_components, selecting_left, selecting_sides, selecting}
use Rattle.net_expr.proofs.Walking.{and_then-same, place-is}

-- the components from a link on
abbrev Chosen : World → Scope → List LinkedOperand → ℕ → LinkedOperand → Option Member → Bool → Option (ℕ × Member)
Chosen w s ls i l d b = picked (i + 1) d (if b then selecting_from w s (i + 1 + 1) (links_of (drop (i + 1) ls)) else None)

pub one_chosen : (w : World) (s : Scope) (ls : List LinkedOperand) (i : ℕ) (l : LinkedOperand) (wanted : Option (ℕ × Member)) → i < length ls → l ≡ get_or ls i l → selecting_from w s (i + 1) (links_of (drop i ls)) ≡ wanted
    → (d : Option Member) → d ≡ dummy_alone s (bare (tree (out-LinkedOperand l).operand)) → (b : Bool) → b ≡ is_some (new_dummy w s (tree (out-LinkedOperand l).operand)) → Chosen w s ls i l d b ≡ wanted
one_chosen w s ls i l wanted h e same d is b new =
    ap (λ x. Chosen w s ls i l x b) is ∙ ap (Chosen w s ls i l (dummy_alone s (bare (tree (out-LinkedOperand l).operand)))) new ∙ sym (ap (selecting_from w s (i + 1)) (next_link ls i l h e)) ∙ same

-- a walk over those that agree is one over all, where the others change nothing
each_that_agrees : {B : Type 0} (f : Tuple → B → Outcome B) (k : ℕ) (m : Member) → ((t : Tuple) (b : B) → k < length t → agrees k m t ≡ false → f t b ≡ Ok b)
    → (least : ℕ) (ts : List Tuple) → k < fold (λ n t. min n (length t)) least ts → (b : B) → each f (filter (agrees k m) ts) b ≡ each f ts b
each_that_agrees f k m others least [] h b = refl
each_that_agrees f k m others least (t ∷ ts) h b = step (agrees k m t) refl (each_that_agrees f k m others (min least (length t)) ts h)
  where
    smallest : (n : ℕ) (us : List Tuple) → fold (λ n t. min n (length t)) n us ≤ n
    smallest n [] = omega arith
    smallest n (u ∷ us) = let rest = smallest (min n (length u)) us in omega (arith, rest)

    long : k < length t
    long = let least_of = smallest (min least (length t)) ts in omega (arith, h, least_of)

    step : (c : Bool) → agrees k m t ≡ c → ((x : _) → each f (filter (agrees k m) ts) x ≡ each f ts x) → each f (cond c (t ∷ filter (agrees k m) ts) (filter (agrees k m) ts)) b ≡ and_then (f t b) (each f ts)
    step true e more = and_then-same (f t b) _ _ more
    step false e more = more b ∙ sym (ap (λ o. and_then o (each f ts)) (others t b long e))

-- what is bound in one scope is bound in another
abbrev Keeps : Scope → Scope → Type 0
Keeps s q = (name : Name) (m : Member) → bound s name ≡ Some m → bound q name ≡ Some m

-- a dummy that was new binds no name that was bound
keeps_more : (s q : Scope) (name : Name) (y : Member) → Keeps s q → bound q name ≡ None → Keeps s (with_dummy name y q)
keeps_more s q name y kept new other m h = step (bytes_eq name other) refl
  where
    step : (b : Bool) → bytes_eq name other ≡ b → (if b then Some y else bound q other) ≡ Some m
    step true e = let same : name ≡ other = (bytes_eq-Decides name other).0 e in let gone : None ≡ Some m = sym new ∙ ap (bound q) same ∙ kept other m h in cc
    step false e = kept other m h

-- a dummy in scope that stands alone has its member for its value
pub value_alone : (w : World) (s : Scope) (x : Tree) (name : Name) (v : Member) → bare x ≡ Some name → bound s name ≡ Some v → value w s x ≡ Ok (One v)
value_alone w s (leaf t) name v e h = go (role_of t) e
  where
    go : (r : Role) → text_of (if is_name r then Some t else None) ≡ Some name → token_value w s t r ≡ Ok (One v)
    go roles.Name e =
        let same : t.text ≡ name = cc in
        let here : bound s t.text ≡ Some v = ap (bound s) same ∙ h in
        rw here refl
    go _ e = cc
value_alone w s _ name v e h = cc

abbrev pick : ℕ → Member → Option (ℕ × Member)
pick k m = Some (k, m)

same_pick : (j k : ℕ) (v m : Member) → pick j v ≡ pick k m → (j ≡ k) × (v ≡ m)
same_pick j k v m e = (ap (λ o. (pick_or o).0) e, ap (λ o. (pick_or o).1) e)
  where
    pick_or : Option (ℕ × Member) → ℕ × Member
    pick_or None = (j, v)
    pick_or (Some q) = q

-- a component up to the selecting one: the place that is not left is one where the rest leads nowhere
fit_apart : (at : Span) (w : World) (s : Scope) (k : ℕ) (m : Member) (x : Tree) (rest : Option (ℕ × Member)) (j : ℕ) (t : Tuple) (y : Member) (p : PartialRow) (next : PartialRow → Outcome (Option PartialRow))
    → picked j (dummy_alone s (bare x)) (if is_some (new_dummy w s x) then rest else None) ≡ Some (k, m) → slice_get t j ≡ Some y → agrees k m t ≡ false → Keeps s p.scope
    → (rest ≡ Some (k, m) → (q : PartialRow) → Keeps s q.scope → next q ≡ Ok None)
    → and_then (match_component at (new_dummy w p.scope x) (value w p.scope x) y p) (if_fits next) ≡ Ok None
fit_apart at w s k m x rest j t y p next chosen here apart kept more = by_name (bare x) refl chosen
  where
    fit : Option Name → Outcome Value → Outcome (Option PartialRow)
    fit d own = and_then (match_component at d own y p) (if_fits next)

    known : (name : Name) (v : Member) → bound p.scope name ≡ Some v → unless_known w p.scope (Some name) ≡ None
    known name v e = ap (λ b. if is_some b || is_some (entry_of w name) then None else Some name) e

    by_value : (name : Name) (v : Member) → bare x ≡ Some name → bound p.scope name ≡ Some v → fit (unless_known w p.scope (Some name)) (value w p.scope x) ≡ fit None (Ok (One v))
    by_value name v e b = ap (λ d. fit d (value w p.scope x)) (known name v b) ∙ ap (fit None) (value_alone w p.scope x name v e b)

    agreeing : (v : Member) (b : Bool) → rest ≡ Some (k, m) → and_then (Ok (if b then Some p else None)) (if_fits next) ≡ Ok None
    agreeing v true r = more r p kept
    agreeing v false r = refl

    behind : (name : Name) → bare x ≡ Some name → entry_of w name ≡ None → rest ≡ Some (k, m) → (b : Option Member) → bound p.scope name ≡ b → fit (unless_known w p.scope (Some name)) (value w p.scope x) ≡ Ok None
    behind name e gone r (Some v) b = by_value name v e b ∙ agreeing v (same_member v y) r
    behind name e gone r None b =
        let new : unless_known w p.scope (Some name) ≡ Some name = ap (λ c. if is_some c || is_some (entry_of w name) then None else Some name) b ∙ ap (λ c. if is_some c then None else Some name) gone in
        ap (λ d. fit d (value w p.scope x)) new ∙ more r (bind name y p) (keeps_more s p.scope name y kept b)

    by_entry : (name : Name) → bare x ≡ Some name → (o : Option _) → entry_of w name ≡ o → (if is_some (if is_some o then None else Some name) then rest else None) ≡ Some (k, m) → fit (unless_known w p.scope (Some name)) (value w p.scope x) ≡ Ok None
    by_entry name e (Some d) f c = cc
    by_entry name e None f c = behind name e f c (bound p.scope name) refl

    by_binding : (name : Name) → bare x ≡ Some name → (b : Option Member) → bound s name ≡ b
        → picked j b (if is_some (if is_some b || is_some (entry_of w name) then None else Some name) then rest else None) ≡ Some (k, m)
        → fit (unless_known w p.scope (Some name)) (value w p.scope x) ≡ Ok None
    by_binding name e (Some v) b c =
        let place : j ≡ k = (same_pick j k v m c).0 in
        let member : v ≡ m = (same_pick j k v m c).1 in
        let there : slice_get t k ≡ Some y = ap (slice_get t) (sym place) ∙ here in
        let unlike : same_member v y ≡ false = ap (λ u. same_member u y) member ∙ sym (ap (is_member m) there) ∙ apart in
        by_value name v e (kept name v b) ∙ ap (λ u. and_then (Ok (if u then Some p else None)) (if_fits next)) unlike
    by_binding name e None b c = by_entry name e (entry_of w name) refl c

    by_name : (o : Option Name) → bare x ≡ o → picked j (dummy_alone s o) (if is_some (unless_known w s o) then rest else None) ≡ Some (k, m)
        → fit (unless_known w p.scope o) (value w p.scope x) ≡ Ok None
    by_name None e c = cc
    by_name (Some name) e c = by_binding name e (bound s name) refl c

-- the first of what is left is the member at the place
first_left : (t : Tuple) (j : ℕ) (y : Member) (ys : Tuple) → drop j t ≡ y ∷ ys → (slice_get t j ≡ Some y) × (drop (j + 1) t ≡ ys)
first_left t j y ys e = let both = go t j e in (both.0, ap (λ i. drop i t) (add-one j) ∙ both.1)
  where
    go : (t : Tuple) (j : ℕ) → drop j t ≡ y ∷ ys → (slice_get t j ≡ Some y) × (drop (suc j) t ≡ ys)
    go [] zero e = cc
    go [] (suc j) e = cc
    go (z ∷ zs) zero e = (cc, cc)
    go (z ∷ zs) (suc j) e = go zs j e

none_left : (t : Tuple) (j : ℕ) → drop j t ≡ [] → length t ≤ j
none_left [] zero e = omega arith
none_left [] (suc j) e = omega arith
none_left (z ∷ zs) zero e = cc
none_left (z ∷ zs) (suc j) e = let more = none_left zs j e in omega (arith, more)

-- the component that selects is one of those that are left
selecting_later : (w : World) (s : Scope) (k : ℕ) (m : Member) (j : ℕ) (l : Links) → selecting_from w s j l ≡ Some (k, m) → j ≤ k
selecting_later w s k m j none e = cc
selecting_later w s k m j (link o x l) e = go (dummy_alone s (bare x)) (is_some (new_dummy w s x)) e (selecting_later w s k m (j + 1) l)
  where
    go : (d : Option Member) (b : Bool) → picked j d (if b then selecting_from w s (j + 1) l else None) ≡ Some (k, m) → (selecting_from w s (j + 1) l ≡ Some (k, m) → j + 1 ≤ k) → j ≤ k
    go (Some v) b e more = let same = (same_pick j k v m e).0 in omega (arith, same)
    go None true e more = let later = more e in omega (arith, later)
    go None false e more = cc

places_apart : (at : Span) (w : World) (s : Scope) (k : ℕ) (m : Member) (l : Links) (j : ℕ) (t ms : Tuple) (p : PartialRow)
    → selecting_from w s j l ≡ Some (k, m) → drop j t ≡ ms → k < length t → agrees k m t ≡ false → Keeps s p.scope → places at w l ms p ≡ Ok None
places_apart at w s k m none j t ms p e left long apart kept = cc
places_apart at w s k m (link o x l) j t [] p e left long apart kept =
    let later = selecting_later w s k m j (link o x l) e in
    let short = none_left t j left in
    absurd (omega (arith, later, short, long))
places_apart at w s k m (link o x l) j t (y ∷ ys) p e left long apart kept =
    let both = first_left t j y ys left in
    fit_apart at w s k m x (selecting_from w s (j + 1) l) j t y p (places at w l ys) e both.0 apart kept
    (λ r q kept_more. places_apart at w s k m l (j + 1) t ys q r both.1 long apart kept_more)

left_apart : (at : Span) (w : World) (k : ℕ) (m : Member) (x : Tree) (own : Outcome Value) (t : Tuple) (p : PartialRow) → selecting_left w p.scope x ≡ Some (k, m) → k < length t → agrees k m t ≡ false
    → left_place at w x own t p ≡ Ok None
left_apart at w k m (tuple o x l c) own [] p e long apart = absurd (omega (arith, long))
left_apart at w k m (tuple o x l c) own (y ∷ ys) p e long apart =
    fit_apart (span_of (tuple o x l c)) w p.scope k m x (selecting_from w p.scope 1 l) 0 (y ∷ ys) y p (places (span_of (tuple o x l c)) w l ys) e refl apart (λ name v h. h)
    (λ r q kept. places_apart (span_of (tuple o x l c)) w p.scope k m l 1 (y ∷ ys) ys q r refl long apart kept)
left_apart at w k m _ own t p e long apart = cc

place_apart : (w : World) (k : ℕ) (m : Member) (i : Tree) (t : Tuple) (p : PartialRow) → selecting w p.scope i ≡ Some (k, m) → k < length t → agrees k m t ≡ false → place w i t p ≡ Ok None
place_apart w k m i t p e long apart = place-is w i t p ∙ go (sides i) e
  where
    go : (o : Option (Tree × Tree)) → selecting_sides w p.scope o ≡ Some (k, m) → placed w i t p o ≡ Ok None
    go None e = cc
    go (Some q) e = left_apart (span_of i) w k m q.0 (value w p.scope q.0) t p e long apart

-- a walk through the tuples that an item selects comes to the same as one through all
pub selected_walk : (w : World) (i : Tree) (next : PartialRow → List Row → Outcome (List Row)) (p : PartialRow) (ts : List Tuple) (found : List Row)
    → each (onward (place w i) next p) (sought (selecting w p.scope i) ts) found ≡ each (onward (place w i) next p) ts found
selected_walk w i next p ts found = by_component (selecting w p.scope i) refl
  where
    go_past : (k : ℕ) (m : Member) → selecting w p.scope i ≡ Some (k, m) → (b : Bool) → nat_lt k (narrowest ts) ≡ b
        → each (onward (place w i) next p) (cond b (filter (agrees k m) ts) ts) found ≡ each (onward (place w i) next p) ts found
    go_past k m e true h =
        let long : k < narrowest ts = grind (arith, nat_tests) in
        each_that_agrees (onward (place w i) next p) k m (λ t b l a. ap (λ o. and_then o (go_on next b)) (place_apart w k m i t p e l a)) 4 ts long found
    go_past k m e false h = refl

    by_component : (o : Option (ℕ × Member)) → selecting w p.scope i ≡ o → each (onward (place w i) next p) (sought o ts) found ≡ each (onward (place w i) next p) ts found
    by_component None e = refl
    by_component (Some s) e = go_past s.0 s.1 e (nat_lt s.0 (narrowest ts)) refl

pub selected_from : (w : World) (i : Tree) (next : PartialRow → List Row → Outcome (List Row)) (p : PartialRow) (ts left : List Tuple) (found : List Row) → left ≡ sought (selecting w p.scope i) ts
    → each (onward (place w i) next p) left found ≡ each (onward (place w i) next p) ts found
selected_from w i next p ts left found h = ap (λ us. each (onward (place w i) next p) us found) h ∙ selected_walk w i next p ts found

-- a tuple at the left of `in`, as the code reads it
pub left-tuple : (w : World) (s : Scope) (k : Tree) (o : Token) (x : Tree) (l : Links) (c : Token) → k ≡ tuple o x l c → selecting_components w s x l ≡ selecting_left w s k
left-tuple w s k o x l c e = sym (ap (selecting_left w s) e)
