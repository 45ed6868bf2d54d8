-- The last operand of a chain, found at once.
use Rattle.std.specs.Prelude.{◌-◌, ◌<◌, ◌≤◌, length, get_or, ◌≡◌, suc, List, [], ◌∷◌}
use Rattle.std.proofs.Common.{refl, sym, ap, ◌∙◌, arith}
use Rattle.net_lex.specs.declared.token.Token.{Token}
use Rattle.net_tree.specs.declared.expr.LinkedOperand.{LinkedOperand, out-LinkedOperand}
use Rattle.net_tree.specs.Tree.{none}
use Rattle.net_tree.specs.View.{tree, links_of}
use Rattle.net_tree.specs.Spans.{final, final_of}
use Rattle.net_tree.specs.Weights.{weight, weights}
use Rattle.net_tree.proofs.Views.{links_of-cons}

deeper : (x y : LinkedOperand) (ls : List LinkedOperand) (d : LinkedOperand) → get_or (x ∷ y ∷ ls) (length (x ∷ y ∷ ls) - 1) d ≡ get_or (y ∷ ls) (length (y ∷ ls) - 1) d
deeper x y ls d =
    let e : length (x ∷ y ∷ ls) - 1 ≡ suc (length (y ∷ ls) - 1) = omega arith in
    ap (λ i. get_or (x ∷ y ∷ ls) i d) e

pub last_link : (ls : List LinkedOperand) (d : LinkedOperand) (t : Token) → 1 ≤ length ls → final_of t (links_of ls) ≡ final (tree (out-LinkedOperand (get_or ls (length ls - 1) d)).operand)
last_link [] d t h = absurd (omega arith)
last_link (x ∷ []) d t h = ap (final_of t) (links_of-cons x [])
last_link (x ∷ y ∷ ls) d t h =
    ap (final_of t) (links_of-cons x (y ∷ ls))
    ∙ last_link (y ∷ ls) d (final (tree (out-LinkedOperand x).operand)) (omega arith)
    ∙ ap (λ (k : LinkedOperand). final (tree (out-LinkedOperand k).operand)) (sym (deeper x y ls d))

pub last_weight : (ls : List LinkedOperand) (d : LinkedOperand) → 1 ≤ length ls → weight (tree (out-LinkedOperand (get_or ls (length ls - 1) d)).operand) ≤ weights (links_of ls)
last_weight [] d h = absurd (omega arith)
last_weight (x ∷ []) d h = omega (arith, ap weights (links_of-cons x []))
last_weight (x ∷ y ∷ ls) d h =
    omega (arith, ap weights (links_of-cons x (y ∷ ls)), last_weight (y ∷ ls) d (omega arith), ap (λ (k : LinkedOperand). weight (tree (out-LinkedOperand k).operand)) (deeper x y ls d))

pub no_link : (ls : List LinkedOperand) → length ls < 1 → links_of ls ≡ none
no_link [] h = refl
no_link (x ∷ ls) h = absurd (omega arith)

-- what the code's last element is
pub last_is : (ls : List LinkedOperand) (l : LinkedOperand) (t : Token) → 1 ≤ length ls → l ≡ get_or ls (length ls - 1) l → final (tree (out-LinkedOperand l).operand) ≡ final_of t (links_of ls)
last_is ls l t h e = ap (λ (k : LinkedOperand). final (tree (out-LinkedOperand k).operand)) e ∙ sym (last_link ls l t h)

pub last_lighter : (ls : List LinkedOperand) (l : LinkedOperand) → 1 ≤ length ls → l ≡ get_or ls (length ls - 1) l → weight (tree (out-LinkedOperand l).operand) ≤ weights (links_of ls)
last_lighter ls l h e = omega (arith, last_weight ls l h, ap (λ (k : LinkedOperand). weight (tree (out-LinkedOperand k).operand)) e)
