use Rattle.std.proofs.Common.{◌≡◌, ◌<◌, ◌≤◌, List, [], ◌∷◌, length, true, false, refl, sym, ap, arith}
use Rattle.net_tree.specs.declared.expr.LinkedOperand.{LinkedOperand}
use Rattle.net_tree.specs.View.{links_of}
use Rattle.net_tree.proofs.Views.{links_of-cons}
use Rattle.net_model.specs.Expressions.{is_none}
use Rattle.net_model.proofs.chains.is_none.Goals as goal

no_links : (ls : List LinkedOperand) → length ls < 1 → true ≡ is_none (links_of ls)
no_links [] h = refl
no_links (l ∷ ls) h = absurd (omega arith)

some_links : (ls : List LinkedOperand) → 1 ≤ length ls → false ≡ is_none (links_of ls)
some_links [] h = absurd (omega arith)
some_links (l ∷ ls) h = sym (ap is_none (links_of-cons l ls))

pub returns-in-empty : goal.returns-in-empty
returns-in-empty c = no_links c.args.links.now (omega (arith, c.in-empty.len_below, ap length c.as_slice.ensures))

pub returns-in-len1-up : goal.returns-in-len1-up
returns-in-len1-up c = some_links c.args.links.now (omega (arith, c.in-len1-up.len_at_least, ap length c.as_slice.ensures))
