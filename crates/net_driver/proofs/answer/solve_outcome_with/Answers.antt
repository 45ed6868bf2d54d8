use Rattle.std.specs.Option.{option_copied}
use Rattle.net_driver.specs.CompiledNetwork.{written}
use Rattle.net_driver.specs.Reporting.{IsRejection}
use Rattle.net_driver.proofs.NoMemory.{model_may, no_memory}
use Rattle.net_driver.proofs.Compilations.{solutions_are_sound}
use Rattle.net_driver.proofs.Networks.{lies_there, network_read}
use Rattle.net_driver.proofs.Stops.{passed_on}
use Rattle.net_driver.proofs.answer.solve_outcome_with.Goals as goal

pub reported-requires : goal.reported-requires
reported-requires c = lies_there _ c.args.model.now c.args.data.now _ c.read_network-found.ensures.rejected

pub solve_network-requires : goal.solve_network-requires
solve_network-requires c =
    let network = network_read _ c.args.model.now c.args.data.now _ c.in_ok-named.named c.in_ok-named.ensures.ok c.read_network-found.ensures.ok in
    (c.in_ok-network.ensures _ _ _ network).sizes

pub returns-clause-value : goal.returns-clause-value
returns-clause-value c =
    let m = c.args.model.now in
    let d = c.args.data.now in
    let compiled = written c.in_ok-network.network in
    let network = network_read _ m d _ c.in_ok-named.named c.in_ok-named.ensures.ok c.read_network-found.ensures.ok in
    let solved = c.in_ok-outcome.ensures _ _ _ _ (c.in_ok-network.ensures _ _ _ network) in
    (compiled, solved, solutions_are_sound _ _ m d (record { compiled = compiled; outcome = c.in_ok-outcome.outcome }) solved)

pub returns-in_err-named-clause-rejected : goal.returns-in_err-named-clause-rejected
returns-in_err-named-clause-rejected c =
    let wanted = option_copied c.args.options.now.objective in
    passed_on (IsRejection wanted c.args.model.now c.args.data.now) _ c.from_residual.result _ (λ e h. h)
    (c.in_err-named.ensures.rejected wanted c.read_network-found.ensures.rejected) c.from_residual.ensures.1

pub returns-in_err-network-clause-rejected : goal.returns-in_err-network-clause-rejected
returns-in_err-network-clause-rejected c =
    let network = network_read _ c.args.model.now c.args.data.now _ c.in_ok-named.named c.in_ok-named.ensures.ok c.read_network-found.ensures.ok in
    no_memory _ c.args.model.now c.args.data.now c.from_residual-in_err-network.result _ (λ e h. h) (model_may c.args.model.now _ network.model) c.from_residual-in_err-network.ensures.1

pub returns-in_err-outcome-clause-rejected : goal.returns-in_err-outcome-clause-rejected
returns-in_err-outcome-clause-rejected c =
    let network = network_read _ c.args.model.now c.args.data.now _ c.in_ok-named.named c.in_ok-named.ensures.ok c.read_network-found.ensures.ok in
    no_memory _ c.args.model.now c.args.data.now c.from_residual-in_err-outcome.result _ (λ e h. h) (model_may c.args.model.now _ network.model) c.from_residual-in_err-outcome.ensures.1
