-- Walks over items: what is found and what is still to come at each item are together what is wanted.
use Rattle.std.specs.Prelude.{◌≡◌, ℕ, ◌+◌, ◌-◌, ◌<◌, ◌≤◌, List, [], ◌∷◌, ◌++◌, length, take, drop, get_or, slice_get, Option, None, Some, IfSome, Ok, Err, ⊤}
use Rattle.std.proofs.Common.{refl, sym, ap, ◌∙◌, arith}
use Rattle.net_base.specs.declared.diagnostic.Span.{Span}
use Rattle.net_sets.specs.Components.{sought}
use Rattle.net_sets.specs.Sets.{Tuple}
use Rattle.net_tree.specs.declared.expr.LinkedOperand.{LinkedOperand, out-LinkedOperand}
use Rattle.net_tree.specs.View.{tree, links_of}
use Rattle.net_tree.specs.Weights.{weight, weights}
use Rattle.net_base.specs.declared.diagnostic.Fault.{Fault}
use Rattle.net_base.specs.declared.diagnostic.Fault.TheVariants as faults
use Rattle.net_base.specs.declared.diagnostic.Diagnostic.{Diagnostic}
use Rattle.net_expr.specs.declared.keys.Frame.{Frame}
use Rattle.net_expr.specs.declared.row.PartialRow.{PartialRow}
use Rattle.net_expr.specs.declared.row.Row.{Row}
use Rattle.net_expr.specs.Frames.{still, steps, steps_next, steps_of, of_tuples, steps_still, weight_of, Leads}
use Rattle.net_base.specs.Outcomes.{Outcome, Refines, Updates, and_then, each}
use Rattle.net_expr.specs.Rows.{onward, go_on}
use Rattle.net_expr.specs.Selecting.{selecting}
use Rattle.net_expr.specs.Values.{place, walk}
use Rattle.net_expr.specs.Walks.{item_tuples}
use Rattle.net_expr.specs.Worlds.{World}
use Rattle.net_expr.proofs.Parting.{is_ok}
use Rattle.net_expr.proofs.Passing.{selected_from}
use Rattle.net_expr.proofs.Walking.{and_then-assoc, rest_first, walk-step}

-- what the items that were left on the way have still to give, the last of them first
abbrev pub still_below : Span → World → List Frame → List Row → Outcome (List Row)
still_below at w [] found = Ok found
still_below at w (f ∷ fs) found = and_then (still_below at w fs found) (still at w f)

abbrev pub steps_below : Span → World → List Frame → ℕ
steps_below at w [] = 0
steps_below at w (f ∷ fs) = steps_still at w f + steps_below at w fs

abbrev pub AreLight : ℕ → List Frame → Type 0
AreLight n [] = ⊤
AreLight n (f ∷ fs) = (weight_of f ≤ n) × AreLight n fs

-- an item that was left last
pub below_last : (at : Span) (w : World) (fs : List Frame) (f : Frame) (found : List Row) → still_below at w (fs ++ f ∷ []) found ≡ and_then (still at w f found) (still_below at w fs)
below_last at w [] f found = go (still at w f found)
  where
    go : (o : Outcome (List Row)) → o ≡ and_then o (still_below at w [])
    go (Ok rows) = refl
    go (Err r) = refl
below_last at w (g ∷ fs) f found = ap (λ o. and_then o (still at w g)) (below_last at w fs f found) ∙ and_then-assoc (still at w f found) (still_below at w fs) (still at w g)

pub steps_last : (at : Span) (w : World) (fs : List Frame) (f : Frame) → steps_below at w (fs ++ f ∷ []) ≡ steps_below at w fs + steps_still at w f
steps_last at w [] f = omega arith
steps_last at w (g ∷ fs) f = let more = steps_last at w fs f in omega (arith, more)

pub light_last : (n : ℕ) (fs : List Frame) (f : Frame) → AreLight n fs → weight_of f ≤ n → AreLight n (fs ++ f ∷ [])
light_last n [] f h i = (i, tt)
light_last n (g ∷ fs) f h i = (h.0, light_last n fs f h.1 i)

pub light_apart : (n : ℕ) (fs : List Frame) (f : Frame) → AreLight n (fs ++ f ∷ []) → AreLight n fs × (weight_of f ≤ n)
light_apart n [] f h = (tt, h.0)
light_apart n (g ∷ fs) f h = let more = light_apart n fs f h.1 in ((h.0, more.0), more.1)

-- what is still to come has a first tuple, or none
pub none_to_come : (ts : List Tuple) (o : Option Tuple) → o ≡ slice_get ts 0 → o ≡ None → ts ≡ []
none_to_come [] o e is = refl
none_to_come (t ∷ ts) o e is = cc

pub one_to_come : (ts : List Tuple) (o : Option Tuple) (t : Tuple) → o ≡ slice_get ts 0 → o ≡ Some t → ts ≡ t ∷ drop 1 ts
one_to_come [] o t e is = cc
one_to_come (u ∷ ts) o t e is = let same : Some t ≡ Some u = sym is ∙ e in let here : u ≡ t = cc in ap (λ (v : Tuple). v ∷ ts) here

-- the item with what is to come behind a tuple
abbrev pub after_first : Frame → Frame
after_first f = record f { left = drop 1 f.left }

-- an item gives what its next tuple leads to, and what comes behind it
pub first_gives : (at : Span) (w : World) (f : Frame) (t : Tuple) (found : List Row) → f.left ≡ t ∷ drop 1 f.left
    → still at w f found ≡ and_then (and_then (place w (tree f.item.now) t f.partial) (go_on (walk at w (links_of f.more.now)) found)) (still at w (after_first f))
first_gives at w f t found e = ap (λ ts. each (onward (place w (tree f.item.now)) (walk at w (links_of f.more.now)) f.partial) ts found) e

pub first_steps : (at : Span) (w : World) (f : Frame) (t : Tuple) → f.left ≡ t ∷ drop 1 f.left
    → steps_still at w f ≡ 1 + steps_next (steps at w (links_of f.more.now)) (place w (tree f.item.now) t f.partial) + steps_still at w (after_first f)
first_steps at w f t e = ap (steps_of (λ t. place w (tree f.item.now) t f.partial) (steps at w (links_of f.more.now))) e

-- at the end
pub ended : (at : Span) (w : World) (f : Frame) (fs : List Frame) (found : List Row) (wanted : Outcome (List Row)) → and_then (still at w f found) (still_below at w fs) ≡ wanted → f.left ≡ [] → fs ≡ [] → wanted ≡ Ok found
ended at w f fs found wanted same e h =
    sym same
    ∙ ap (λ ts. and_then (each (onward (place w (tree f.item.now)) (walk at w (links_of f.more.now)) f.partial) ts found) (still_below at w fs)) e
    ∙ ap (λ gs. still_below at w gs found) h

-- an item without tuples gives way to the one that was left last
pub gives_way : (at : Span) (w : World) (f g : Frame) (fs left : List Frame) (found : List Row) (wanted : Outcome (List Row)) → and_then (still at w f found) (still_below at w fs) ≡ wanted → f.left ≡ [] → fs ≡ left ++ g ∷ []
    → and_then (still at w g found) (still_below at w left) ≡ wanted
gives_way at w f g fs left found wanted same e h =
    sym (below_last at w left g found)
    ∙ ap (λ gs. still_below at w gs found) (sym h)
    ∙ sym (ap (λ ts. and_then (each (onward (place w (tree f.item.now)) (walk at w (links_of f.more.now)) f.partial) ts found) (still_below at w fs)) e)
    ∙ same

-- a tuple that leads somewhere, or nowhere
pub led : (at : Span) (w : World) (f : Frame) (t : Tuple) (next : Option PartialRow) (fs : List Frame) (found : List Row) (wanted : Outcome (List Row))
    → and_then (still at w f found) (still_below at w fs) ≡ wanted → f.left ≡ t ∷ drop 1 f.left → place w (tree f.item.now) t f.partial ≡ Ok next
    → wanted ≡ and_then (and_then (go_on (walk at w (links_of f.more.now)) found next) (still at w (after_first f))) (still_below at w fs)
led at w f t next fs found wanted same e p =
    sym same
    ∙ ap (λ o. and_then o (still_below at w fs)) (first_gives at w f t found e)
    ∙ ap (λ o. and_then (and_then (and_then o (go_on (walk at w (links_of f.more.now)) found)) (still at w (after_first f))) (still_below at w fs)) p

pub to_item : (at : Span) (w : World) (f g : Frame) (o : Outcome (List Row)) (deeper : Option Frame) (fs more : List Frame) (found : List Row) (wanted : Outcome (List Row))
    → wanted ≡ and_then (and_then o (still at w f)) (still_below at w fs) → Leads at w o (Ok deeper) found → deeper ≡ Some g → more ≡ fs ++ f ∷ [] → and_then (still at w g found) (still_below at w more) ≡ wanted
to_item at w f g o None fs more found wanted e h is pushed = cc
to_item at w f g o (Some k) fs more found wanted e h is pushed =
    let same : k ≡ g = cc in
    ap (λ gs. and_then (still at w g found) (still_below at w gs)) pushed
    ∙ step (still at w g found)
    ∙ sym (ap (λ (j : Frame). and_then (and_then (still at w j found) (still at w f)) (still_below at w fs)) same)
    ∙ sym (ap (λ k. and_then (and_then k (still at w f)) (still_below at w fs)) h)
    ∙ sym e
  where
    step : (o : Outcome (List Row)) → and_then o (still_below at w (fs ++ f ∷ [])) ≡ and_then (and_then o (still at w f)) (still_below at w fs)
    step (Ok rows) = below_last at w fs f rows
    step (Err r) = refl

-- faults
pub fault_of_place : (at : Span) (w : World) (f : Frame) (t : Tuple) (fs : List Frame) (found last : List Row) (wanted : Outcome (List Row)) (e : Fault)
    → and_then (still at w f found) (still_below at w fs) ≡ wanted → f.left ≡ t ∷ drop 1 f.left → Refines (place w (tree f.item.now) t f.partial) (Err e) → Updates wanted (Err e) last
fault_of_place at w f t fs found last wanted faults.OutOfMemory same e h = tt
fault_of_place at w f t fs found last wanted (faults.At r) same e h =
    sym same
    ∙ ap (λ o. and_then o (still_below at w fs)) (first_gives at w f t found e)
    ∙ ap (λ o. and_then (and_then (and_then o (go_on (walk at w (links_of f.more.now)) found)) (still at w (after_first f))) (still_below at w fs)) h

-- an item is entered at a place
pub entering : (at : Span) (w : World) (ls : List LinkedOperand) (l : LinkedOperand) (o : Option PartialRow) (p : PartialRow) (found : List Row) → o ≡ Some p → 1 ≤ length ls → l ≡ get_or ls 0 l
    → go_on (walk at w (links_of ls)) found o
    ≡ and_then (item_tuples at w p.scope (tree (out-LinkedOperand l).operand)) (λ ts. each (onward (place w (tree (out-LinkedOperand l).operand)) (walk at w (links_of (take (length ls - 1) (drop 1 ls)))) p) ts found)
entering at w ls l o p found is h e =
    ap (go_on (walk at w (links_of ls)) found) is
    ∙ ap (λ k. walk at w k p found) (rest_first ls l h e)
    ∙ walk-step at w (out-LinkedOperand l).operator (tree (out-LinkedOperand l).operand) (links_of (take (length ls - 1) (drop 1 ls))) p found

-- what was made of tuples, and of which
made : (o : Outcome (List Tuple)) (make : List Tuple → Frame) (f : Frame) → and_then o (λ ts. Ok (make ts)) ≡ Ok f → (ts : List Tuple) × (o ≡ Ok ts) × (make ts ≡ f)
made (Ok ts) make f e = (ts, refl, is_ok (make ts) f e)
made (Err r) make f e = cc

pub entering_stops : (at : Span) (w : World) (ls : List LinkedOperand) (l : LinkedOperand) (o : Option PartialRow) (p : PartialRow) (found : List Row) (make : List Tuple → Frame) (e : Fault) → o ≡ Some p → 1 ≤ length ls → l ≡ get_or ls 0 l
    → Refines (and_then (item_tuples at w p.scope (tree (out-LinkedOperand l).operand)) (λ ts. Ok (make ts))) (Err e) → Leads at w (go_on (walk at w (links_of ls)) found o) (Err e) found
entering_stops at w ls l o p found make faults.OutOfMemory is h i a = tt
entering_stops at w ls l o p found make (faults.At r) is h i a = go (item_tuples at w p.scope (tree (out-LinkedOperand l).operand)) _ (entering at w ls l o p found is h i) a
  where
    go : (ts : Outcome (List Tuple)) (f : List Tuple → Outcome (List Row)) {wanted : Outcome (List Row)} → wanted ≡ and_then ts f → and_then ts (λ us. Ok (make us)) ≡ Err r → wanted ≡ Err r
    go (Ok us) f e a = cc
    go (Err s) f e a = let same : s ≡ r = cc in e ∙ ap (λ (k : Diagnostic). let stopped : Outcome (List Row) = Err k in stopped) same

pub entering_leads : (at : Span) (w : World) (ls : List LinkedOperand) (l : LinkedOperand) (o : Option PartialRow) (p : PartialRow) (found : List Row) (make : List Tuple → Frame) (f : Frame) → o ≡ Some p → 1 ≤ length ls → l ≡ get_or ls 0 l
    → ((ts : List Tuple) → still at w (make ts) found ≡ each (onward (place w (tree (out-LinkedOperand l).operand)) (walk at w (links_of (take (length ls - 1) (drop 1 ls)))) p) (sought (selecting w p.scope (tree (out-LinkedOperand l).operand)) ts) found)
    → and_then (item_tuples at w p.scope (tree (out-LinkedOperand l).operand)) (λ ts. Ok (make ts)) ≡ Ok f → go_on (walk at w (links_of ls)) found o ≡ still at w f found
entering_leads at w ls l o p found make f is h i same a =
    let m = made (item_tuples at w p.scope (tree (out-LinkedOperand l).operand)) make f a in
    entering at w ls l o p found is h i
    ∙ ap (λ k. and_then k (λ ts. each (onward (place w (tree (out-LinkedOperand l).operand)) (walk at w (links_of (take (length ls - 1) (drop 1 ls)))) p) ts found)) m.1
    ∙ sym (selected_from w (tree (out-LinkedOperand l).operand) (walk at w (links_of (take (length ls - 1) (drop 1 ls)))) p m.0 (sought (selecting w p.scope (tree (out-LinkedOperand l).operand)) m.0) found refl)
    ∙ sym (same m.0)
    ∙ ap (λ (g : Frame). still at w g found) m.2

pub entering_lighter : (at : Span) (w : World) (ls : List LinkedOperand) (l : LinkedOperand) (p : PartialRow) (make : List Tuple → Frame) (f : Frame) → 1 ≤ length ls → l ≡ get_or ls 0 l
    → ((ts : List Tuple) → weight_of (make ts) ≡ weight (tree (out-LinkedOperand l).operand) + weights (links_of (take (length ls - 1) (drop 1 ls))))
    → and_then (item_tuples at w p.scope (tree (out-LinkedOperand l).operand)) (λ ts. Ok (make ts)) ≡ Ok f → weight_of f ≤ weights (links_of ls)
entering_lighter at w ls l p make f h i same a =
    let m = made (item_tuples at w p.scope (tree (out-LinkedOperand l).operand)) make f a in
    let here = same m.0 in
    let is : weight_of (make m.0) ≡ weight_of f = ap weight_of m.2 in
    let all = ap weights (rest_first ls l h i) in
    omega (arith, here, is, all)

pub entering_steps : (at : Span) (w : World) (ls : List LinkedOperand) (l : LinkedOperand) (o : Option PartialRow) (p : PartialRow) (make : List Tuple → Frame) (f : Frame) → o ≡ Some p → 1 ≤ length ls → l ≡ get_or ls 0 l
    → ((ts : List Tuple) → steps_still at w (make ts) ≡ steps_of (λ t. place w (tree (out-LinkedOperand l).operand) t p) (steps at w (links_of (take (length ls - 1) (drop 1 ls)))) (sought (selecting w p.scope (tree (out-LinkedOperand l).operand)) ts))
    → and_then (item_tuples at w p.scope (tree (out-LinkedOperand l).operand)) (λ ts. Ok (make ts)) ≡ Ok f → steps_still at w f ≡ steps_next (steps at w (links_of ls)) (Ok o)
entering_steps at w ls l o p make f is h i same a =
    let m = made (item_tuples at w p.scope (tree (out-LinkedOperand l).operand)) make f a in
    sym (ap (λ (q : Option PartialRow). steps_next (steps at w (links_of ls)) (Ok q)) is
    ∙ ap (λ k. steps at w k p) (rest_first ls l h i)
    ∙ ap (of_tuples (λ ts. steps_of (λ t. place w (tree (out-LinkedOperand l).operand) t p) (steps at w (links_of (take (length ls - 1) (drop 1 ls)))) (sought (selecting w p.scope (tree (out-LinkedOperand l).operand)) ts))) m.1
    ∙ sym (same m.0)
    ∙ ap (steps_still at w) m.2)

-- each turn leaves less to do
pub way_shorter : (at : Span) (w : World) (f g : Frame) (fs left : List Frame) → f.left ≡ [] → fs ≡ left ++ g ∷ [] → steps_still at w g + steps_below at w left < steps_still at w f + steps_below at w fs
way_shorter at w f g fs left e h =
    let here : steps_still at w f ≡ 1 = ap (steps_of (λ t. place w (tree f.item.now) t f.partial) (steps at w (links_of f.more.now))) e in
    let below = ap (steps_below at w) h ∙ steps_last at w left g in
    omega (arith, here, below)

pub item_shorter : (at : Span) (w : World) (f g : Frame) (t : Tuple) (next : Option PartialRow) (o : Option Frame) (fs more : List Frame) → f.left ≡ t ∷ drop 1 f.left → place w (tree f.item.now) t f.partial ≡ Ok next
    → IfSome o (λ k. steps_still at w k ≡ steps_next (steps at w (links_of f.more.now)) (Ok next)) → o ≡ Some g → more ≡ fs ++ after_first f ∷ []
    → steps_still at w g + steps_below at w more < steps_still at w f + steps_below at w fs
item_shorter at w f g t next None fs more e p s is pushed = cc
item_shorter at w f g t next (Some k) fs more e p s is pushed =
    let same : k ≡ g = cc in
    let deep : steps_still at w k ≡ steps_still at w g = ap (steps_still at w) same in
    let here = first_steps at w f t e ∙ ap (λ n. 1 + steps_next (steps at w (links_of f.more.now)) n + steps_still at w (after_first f)) p in
    let below = ap (steps_below at w) pushed ∙ steps_last at w fs (after_first f) in
    omega (arith, s, deep, here, below)

pub no_frames : (fs : List Frame) → length fs ≡ 0 → fs ≡ []
no_frames [] e = refl
no_frames (f ∷ fs) e = absurd (omega (arith, e))

pub lighter_still : (n : ℕ) (f g : Frame) (o : Option Frame) → weight_of f ≤ n → IfSome o (λ k. weight_of k ≤ weights (links_of f.more.now)) → o ≡ Some g → weight_of g ≤ n
lighter_still n f g None h l is = cc
lighter_still n f g (Some k) h l is = let same : k ≡ g = cc in let weighed : weight_of k ≡ weight_of g = ap weight_of same in omega (arith, h, l, weighed)
