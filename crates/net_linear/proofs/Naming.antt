-- Steps of walks over links in which arcs may stand.
use Rattle.std.specs.Prelude.{◌≡◌, ◌+◌, ◌<◌, ℕ, Bool, true, false, not, ◌&&◌, ◌||◌, List, length, get_or, drop, if◌then◌else◌, Ok, Err}
use Rattle.std.proofs.Common.{refl, ap, sym, ◌∙◌}
use Rattle.net_tree.specs.declared.expr.LinkedOperand.{LinkedOperand, out-LinkedOperand}
use Rattle.net_tree.specs.View.{tree, links_of}
use Rattle.net_tree.proofs.Views.{next_link}
use Rattle.net_tree.specs.declared.operator.BinOp.{BinOp}
use Rattle.net_linear.specs.Arcs.{Arcs}
use Rattle.net_tree.specs.Operations.{operation}
use Rattle.net_linear.specs.Signs.{is_sign}
use Rattle.net_linear.specs.Objectives.{names_arc, any_arc, are_signs, may_join, one_factor}

any-left : (a : Arcs) (ls : List LinkedOperand) (i : ℕ) (l : LinkedOperand) (b : Bool) → i < length ls → l ≡ get_or ls i l → b ≡ names_arc a (tree (out-LinkedOperand l).operand)
    → any_arc a (links_of (drop i ls)) ≡ b || any_arc a (links_of (drop (i + 1) ls))
any-left a ls i l b h e f = ap (any_arc a) (next_link ls i l h e) ∙ ap (λ c. c || any_arc a (links_of (drop (i + 1) ls))) (sym f)

pub any_stops : (a : Arcs) (ls : List LinkedOperand) (i : ℕ) (l : LinkedOperand) (b : Bool) → i < length ls → l ≡ get_or ls i l → b ≡ names_arc a (tree (out-LinkedOperand l).operand) → b ≡ true → true ≡ any_arc a (links_of (drop i ls))
any_stops a ls i l b h e f g = sym (any-left a ls i l b h e f ∙ ap (λ c. c || any_arc a (links_of (drop (i + 1) ls))) g)

pub any_goes : (a : Arcs) (ls : List LinkedOperand) (i : ℕ) (l : LinkedOperand) (b : Bool) → i < length ls → l ≡ get_or ls i l → b ≡ names_arc a (tree (out-LinkedOperand l).operand) → b ≡ false → any_arc a (links_of (drop (i + 1) ls)) ≡ any_arc a (links_of (drop i ls))
any_goes a ls i l b h e f g = sym (any-left a ls i l b h e f ∙ ap (λ c. c || any_arc a (links_of (drop (i + 1) ls))) g)

signs-left : (ls : List LinkedOperand) (i : ℕ) (l : LinkedOperand) (j : BinOp) → i < length ls → l ≡ get_or ls i l → j ≡ operation (out-LinkedOperand l).operator → are_signs (links_of (drop i ls)) ≡ is_sign j && are_signs (links_of (drop (i + 1) ls))
signs-left ls i l j h e f = ap are_signs (next_link ls i l h e) ∙ ap (λ k. is_sign k && are_signs (links_of (drop (i + 1) ls))) (sym f)

pub signs_stop : (ls : List LinkedOperand) (i : ℕ) (l : LinkedOperand) (j : BinOp) → i < length ls → l ≡ get_or ls i l → j ≡ operation (out-LinkedOperand l).operator → is_sign j ≡ false → false ≡ are_signs (links_of (drop i ls))
signs_stop ls i l j h e f g = sym (signs-left ls i l j h e f ∙ ap (λ b. b && are_signs (links_of (drop (i + 1) ls))) g)

pub signs_go : (ls : List LinkedOperand) (i : ℕ) (l : LinkedOperand) (j : BinOp) → i < length ls → l ≡ get_or ls i l → j ≡ operation (out-LinkedOperand l).operator → is_sign j ≡ true → are_signs (links_of (drop (i + 1) ls)) ≡ are_signs (links_of (drop i ls))
signs_go ls i l j h e f g = sym (signs-left ls i l j h e f ∙ ap (λ b. b && are_signs (links_of (drop (i + 1) ls))) g)

factor-left : (a : Arcs) (ls : List LinkedOperand) (i : ℕ) (l : LinkedOperand) (j : BinOp) (before here : Bool) → i < length ls → l ≡ get_or ls i l → j ≡ operation (out-LinkedOperand l).operator → here ≡ names_arc a (tree (out-LinkedOperand l).operand)
    → one_factor a before (links_of (drop i ls)) ≡ may_join j before here && one_factor a (before || here) (links_of (drop (i + 1) ls))
factor-left a ls i l j before here h e f g =
    ap (one_factor a before) (next_link ls i l h e)
    ∙ ap (λ k. may_join k before (names_arc a (tree (out-LinkedOperand l).operand)) && one_factor a (before || names_arc a (tree (out-LinkedOperand l).operand)) (links_of (drop (i + 1) ls))) (sym f)
    ∙ ap (λ b. may_join j before b && one_factor a (before || b) (links_of (drop (i + 1) ls))) (sym g)

pub factor_stops : (a : Arcs) (ls : List LinkedOperand) (i : ℕ) (l : LinkedOperand) (j : BinOp) (before here : Bool) → i < length ls → l ≡ get_or ls i l → j ≡ operation (out-LinkedOperand l).operator → here ≡ names_arc a (tree (out-LinkedOperand l).operand)
    → may_join j before here ≡ false → false ≡ one_factor a before (links_of (drop i ls))
factor_stops a ls i l j before here h e f g k = sym (factor-left a ls i l j before here h e f g ∙ ap (λ b. b && one_factor a (before || here) (links_of (drop (i + 1) ls))) k)

pub factor_goes : (a : Arcs) (ls : List LinkedOperand) (i : ℕ) (l : LinkedOperand) (j : BinOp) (before here : Bool) → i < length ls → l ≡ get_or ls i l → j ≡ operation (out-LinkedOperand l).operator → here ≡ names_arc a (tree (out-LinkedOperand l).operand)
    → may_join j before here ≡ true → one_factor a (before || here) (links_of (drop (i + 1) ls)) ≡ one_factor a before (links_of (drop i ls))
factor_goes a ls i l j before here h e f g k = sym (factor-left a ls i l j before here h e f g ∙ ap (λ b. b && one_factor a (before || here) (links_of (drop (i + 1) ls))) k)
