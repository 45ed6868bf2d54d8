use Rattle.std.proofs.Common.{sym, subst}
use Rattle.std.specs.Option.{option_copied}
use Rattle.net_driver.specs.IsBuilt.{IsBuilt}
use Rattle.net_driver.specs.Reporting.{IsRejection}
use Rattle.net_driver.proofs.NoMemory.{model_may, no_memory}
use Rattle.net_driver.proofs.Compilations.{compilations_are_sound}
use Rattle.net_driver.proofs.Networks.{lies_there, network_read}
use Rattle.net_driver.proofs.Stops.{passed_on}
use Rattle.net_driver.proofs.compiled.compile_with.Goals as goal

pub reported-requires : goal.reported-requires
reported-requires c = lies_there _ c.args.model.now c.args.data.now _ c.read_network-read.ensures.rejected

pub with_text-requires : goal.with_text-requires
with_text-requires c =
    let network = network_read _ c.args.model.now c.args.data.now _ c.in_ok-named.named c.in_ok-named.ensures.ok c.read_network-read.ensures.ok in
    (c.in_ok-network.ensures _ _ _ network).sizes

pub returns-clause-value : goal.returns-clause-value
returns-clause-value c =
    let network = network_read _ c.args.model.now c.args.data.now _ c.in_ok-named.named c.in_ok-named.ensures.ok c.read_network-read.ensures.ok in
    subst (IsBuilt c.args.options.now.lean (option_copied c.args.options.now.objective) c.args.model.now c.args.data.now) (sym c.in_ok-compiled.ensures) (c.in_ok-network.ensures _ _ _ network)

pub returns-clause-means : goal.returns-clause-means
returns-clause-means c =
    let wanted = option_copied c.args.options.now.objective in
    let network = network_read wanted c.args.model.now c.args.data.now _ c.in_ok-named.named c.in_ok-named.ensures.ok c.read_network-read.ensures.ok in
    compilations_are_sound c.args.options.now.lean wanted c.args.model.now c.args.data.now c.in_ok-compiled.compiled
    (subst (IsBuilt c.args.options.now.lean wanted c.args.model.now c.args.data.now) (sym c.in_ok-compiled.ensures) (c.in_ok-network.ensures _ _ _ network))

pub returns-in_err-named-clause-rejected : goal.returns-in_err-named-clause-rejected
returns-in_err-named-clause-rejected c =
    let wanted = option_copied c.args.options.now.objective in
    passed_on (IsRejection wanted c.args.model.now c.args.data.now) _ c.from_residual.result _ (λ e h. h)
    (c.in_err-named.ensures.rejected wanted c.read_network-read.ensures.rejected) c.from_residual.ensures.1

pub returns-in_err-network-clause-rejected : goal.returns-in_err-network-clause-rejected
returns-in_err-network-clause-rejected c =
    let network = network_read _ c.args.model.now c.args.data.now _ c.in_ok-named.named c.in_ok-named.ensures.ok c.read_network-read.ensures.ok in
    no_memory _ c.args.model.now c.args.data.now c.from_residual-in_err-network.result _ (λ e h. h) (model_may c.args.model.now _ network.model) c.from_residual-in_err-network.ensures.1

pub returns-in_err-compiled-clause-rejected : goal.returns-in_err-compiled-clause-rejected
returns-in_err-compiled-clause-rejected c =
    let network = network_read _ c.args.model.now c.args.data.now _ c.in_ok-named.named c.in_ok-named.ensures.ok c.read_network-read.ensures.ok in
    no_memory _ c.args.model.now c.args.data.now c.from_residual-in_err-compiled.result _ (λ e h. h) (model_may c.args.model.now _ network.model) c.from_residual-in_err-compiled.ensures.1
