-- What stands behind a lone `in`, by its links.
use Rattle.std.specs.Prelude.{◌≡◌, ◌<◌, ◌≤◌, List, [], ◌∷◌, length, get_or, Option, None, Some, Bool, if◌then◌else◌}
use Rattle.std.proofs.Common.{refl, sym, ap, ◌∙◌, arith}
use Rattle.net_tree.specs.declared.expr.LinkedOperand.{LinkedOperand, out-LinkedOperand}
use Rattle.net_tree.specs.Items.{is_in, after_in}
use Rattle.net_tree.specs.Operations.{operation}
use Rattle.net_tree.specs.Tree.{Tree}
use Rattle.net_tree.specs.View.{tree, links_of}
use Rattle.net_tree.proofs.Views.{links_of-cons}

-- what stands behind the only link, by its operator
abbrev pub behind : Bool → Tree → Option Tree
behind b y = if b then Some y else None

pub one_link : (ls : List LinkedOperand) (l : LinkedOperand) (b : Bool) → 1 ≤ length ls → length ls < 2 → l ≡ get_or ls 0 l → is_in (operation (out-LinkedOperand l).operator) ≡ b
    → behind b (tree (out-LinkedOperand l).operand) ≡ after_in (links_of ls)
one_link [] l b h i e f = absurd (omega arith)
one_link (x ∷ []) l b h i e f =
    ap (λ c. behind c (tree (out-LinkedOperand l).operand)) (sym f)
    ∙ ap (λ (k : LinkedOperand). behind (is_in (operation (out-LinkedOperand k).operator)) (tree (out-LinkedOperand k).operand)) e
    ∙ sym (ap after_in (links_of-cons x []))
one_link (x ∷ y ∷ ls) l b h i e f = absurd (omega arith)

pub many_links : (ls : List LinkedOperand) → 2 ≤ length ls → None ≡ after_in (links_of ls)
many_links [] b = absurd (omega arith)
many_links (x ∷ []) b = absurd (omega arith)
many_links (x ∷ y ∷ ls) b = refl
