use Rattle.std.proofs.Common.{◌≡◌, ◌≤◌, ◌+◌, ◌*◌, ◌-◌, length}
use Rattle.net_tree.specs.View.{links_of}
use Rattle.net_model.specs.Expressions.{links, climb, unary, nested}
use Rattle.net_model.specs.Chains.{with_links}
use Rattle.net_model.proofs.+parser.Given as goal

abbrev pub decreases-expressions::unary_of : goal.decreases-expressions::unary_of
decreases-expressions::unary_of l = 100 * l.depth + 1

abbrev pub decreases-expressions::named_of : goal.decreases-expressions::named_of
decreases-expressions::named_of l = 100 * l.depth

abbrev pub decreases-expressions::subscripts_inside : goal.decreases-expressions::subscripts_inside
decreases-expressions::subscripts_inside l = 100 * l.depth + 70

abbrev pub decreases-expressions::parens_inside : goal.decreases-expressions::parens_inside
decreases-expressions::parens_inside l = 100 * l.depth + 80

abbrev pub decreases-expressions::parens_from : goal.decreases-expressions::parens_from
decreases-expressions::parens_from l = 100 * l.depth + 70

abbrev pub decreases-expressions::negated_of : goal.decreases-expressions::negated_of
decreases-expressions::negated_of l = 100 * l.depth

abbrev pub decreases-braces::braces_of : goal.decreases-braces::braces_of
decreases-braces::braces_of l = 100 * l.depth + 1

abbrev pub decreases-braces::braces_inside : goal.decreases-braces::braces_inside
decreases-braces::braces_inside l = 100 * l.depth + 80

abbrev pub decreases-braces::hollow_inside : goal.decreases-braces::hollow_inside
decreases-braces::hollow_inside l = 100 * l.depth + 75

abbrev pub decreases-braces::items_inside : goal.decreases-braces::items_inside
decreases-braces::items_inside l = 100 * l.depth + 75

abbrev pub decreases-braces::filter_of : goal.decreases-braces::filter_of
decreases-braces::filter_of l = 100 * l.depth + 70

abbrev pub decreases-braces::reduced_inside : goal.decreases-braces::reduced_inside
decreases-braces::reduced_inside l = 100 * l.depth + 80

abbrev pub decreases-braces::body_inside : goal.decreases-braces::body_inside
decreases-braces::body_inside l = 100 * l.depth + 11

abbrev pub decreases-choices::wide_of : goal.decreases-choices::wide_of
decreases-choices::wide_of l = 100 * l.depth + 4 * l.max_precedence + 10

abbrev pub decreases-choices::if_of : goal.decreases-choices::if_of
decreases-choices::if_of l = 100 * l.depth + 1

abbrev pub decreases-choices::choice_inside : goal.decreases-choices::choice_inside
decreases-choices::choice_inside l = 100 * l.depth + 80

abbrev pub decreases-choices::introduced : goal.decreases-choices::introduced
decreases-choices::introduced l = 100 * l.depth + 4 * l.max_precedence + 5

abbrev pub decreases-choices::otherwise_of : goal.decreases-choices::otherwise_of
decreases-choices::otherwise_of l = 100 * l.depth + 70

abbrev pub decreases-chains::climb_to : goal.decreases-chains::climb_to
decreases-chains::climb_to l = 100 * l.depth + 4 * l.max_precedence + 2

abbrev pub decreases-chains::chain_of : goal.decreases-chains::chain_of
decreases-chains::chain_of l = 100 * l.depth + 4 * l.max_precedence + 5

abbrev pub decreases-chains::chain_links : goal.decreases-chains::chain_links
decreases-chains::chain_links l = 100 * l.depth + 4 * l.max_precedence + 4

abbrev pub decreases-chains::links_from : goal.decreases-chains::links_from
decreases-chains::links_from l = 100 * l.depth + 4 * l.max_precedence + 3

abbrev pub invariant-chains::links_from-loop-alloc : goal.invariant-chains::links_from-loop-alloc
invariant-chains::links_from-loop-alloc l = record {
  read :
      with_links (links_of l.found.items) (links (length l.fn.tokens - length l.found.items) l.joining (length l.found.items) (climb l.max_precedence (unary (nested l.depth))) l.tokens)
      ≡ links (length l.fn.tokens) l.joining 0 (climb l.max_precedence (unary (nested l.depth))) l.fn.tokens;
  room : length l.found.items + length l.tokens ≤ length l.fn.tokens;
}

abbrev pub decreases-chains::links_from-loop-alloc : goal.decreases-chains::links_from-loop-alloc
decreases-chains::links_from-loop-alloc l = length l.tokens
