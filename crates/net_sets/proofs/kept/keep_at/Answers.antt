use Rattle.std.specs.Prelude.{◌≡◌, length}
use Rattle.std.specs.List.{items_where_true}
use Rattle.std.proofs.Common.{◌∙◌, ap, rules}
use Rattle.net_sets.proofs.Choosing.{kept_in_turn}
use Rattle.net_sets.specs.contracts.kept.fn.keep_at.retain as closure
use Rattle.net_sets.proofs.kept.keep_at.Goals as goal

pub returns : goal.returns
returns g c =
    let over : closure.Over = record { T = g.row.T; T-Eq = g.T.Eq; T-Eq-dict = g.T.Eq-dict; T-PartialEq = g.T.PartialEq; T-PartialEq-dict = g.T.PartialEq-dict; T-Hash = g.T.Hash; T-Hash-dict = g.T.Hash-dict; T-Destruct-dict = g.T.Destruct-dict } in
    let keys = c.args.set.now.keys in
    let given = c.iter-rest.ensures.rest in
    let size : length c.iter-rest.result.rest.now ≡ length keys = ap length given ∙ c.requires in
    kept_in_turn _ (λ f. (closure.captures over f).rest.rest.now) (λ p x b q a more call e. search rules) _ keys _ size c.retain.ensures.filtered
    ∙ ap (λ answers. items_where_true answers keys) given
