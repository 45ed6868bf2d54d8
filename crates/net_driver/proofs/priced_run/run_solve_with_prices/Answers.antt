use Rattle.std.proofs.Common.{rules, arith, refl, []}
use Rattle.std.specs.Option.{option_copied}
use Rattle.net_driver.specs.IsSolved.{exit_kind_of}
use Rattle.net_driver.specs.CompiledNetwork.{written}
use Rattle.net_driver.specs.PricedPlans.{IsBuiltFrom}
use Rattle.net_driver.specs.Reporting.{IsRejection}
use Rattle.net_driver.proofs.Reading.{read_whole}
use Rattle.net_driver.proofs.Networks.{lies_there, network_read}
use Rattle.net_driver.proofs.Priced.{sizes_from}
use Rattle.net_driver.proofs.Running.{texts_of, rejected_run, stopped_run}
use Rattle.net_driver.proofs.PricedModels.{priced_plans_are_proved}
use Rattle.net_driver.proofs.priced_run.run_solve_with_prices.Goals as goal

pub reported-requires : goal.reported-requires
reported-requires g c =
    let stopped = rw (c.deref.ensures.value, c.deref-2.ensures.value) at c.read_network-read.ensures.rejected in
    rw (c.deref-3.ensures.value, c.deref-4.ensures.value) (lies_there _ c.in_ok-model_text.model_text.items c.in_ok-data_text.data_text.items _ stopped)

pub solve_with_prices-requires-clause-sizes : goal.solve_with_prices-requires-clause-sizes
solve_with_prices-requires-clause-sizes g c =
    let m = c.in_ok-model_text.model_text.items in
    let d = c.in_ok-data_text.data_text.items in
    let found = rw (c.deref.ensures.value, c.deref-2.ensures.value) at c.read_network-read.ensures.ok in
    (c.in_ok-network.ensures _ m d (network_read _ m d _ c.in_ok-named.named c.in_ok-named.ensures.ok found)).0.sizes

pub solve_with_prices-requires-clause-nodes : goal.solve_with_prices-requires-clause-nodes
solve_with_prices-requires-clause-nodes g c =
    let m = c.in_ok-model_text.model_text.items in
    let d = c.in_ok-data_text.data_text.items in
    let found = rw (c.deref.ensures.value, c.deref-2.ensures.value) at c.read_network-read.ensures.ok in
    (sizes_from _ _ m d _ (written c.in_ok-network.network) (c.in_ok-network.ensures _ m d (network_read _ m d _ c.in_ok-named.named c.in_ok-named.ensures.ok found))).nodes

pub solve_with_prices-requires-clause-arcs : goal.solve_with_prices-requires-clause-arcs
solve_with_prices-requires-clause-arcs g c =
    let m = c.in_ok-model_text.model_text.items in
    let d = c.in_ok-data_text.data_text.items in
    let found = rw (c.deref.ensures.value, c.deref-2.ensures.value) at c.read_network-read.ensures.ok in
    (sizes_from _ _ m d _ (written c.in_ok-network.network) (c.in_ok-network.ensures _ m d (network_read _ m d _ c.in_ok-named.named c.in_ok-named.ensures.ok found))).arcs

pub returns-in-Ok-clause-run : goal.returns-in-Ok-clause-run
returns-in-Ok-clause-run g c =
    let m = c.in_ok-model_text.model_text.items in
    let d = c.in_ok-data_text.data_text.items in
    let compiled = written c.in_ok-network.network in
    let outcome = c.in_ok-priced.priced.outcome in
    let found = rw (c.deref.ensures.value, c.deref-2.ensures.value) at c.read_network-read.ensures.ok in
    let promise : IsBuiltFrom c.args.options.now.lean (option_copied c.args.options.now.objective) m d c.in_ok-network.instance compiled
    = c.in_ok-network.ensures _ m d (network_read _ m d _ c.in_ok-named.named c.in_ok-named.ensures.ok found) in
    let solved = c.in_ok-priced.ensures _ _ m d promise in
    record {
      ok = record {
        texts = texts_of m d [] [];
        read = (read_whole _ _ _ c.in_ok-model_text.ensures.value promise.0.accepts.model.read.short, (read_whole _ _ _ c.in_ok-data_text.ensures.value promise.0.accepts.statements.read.short, tt));
        text = c.in_ok-priced.priced.text.items;
        answer = (record { compiled = compiled; outcome = outcome }, solved, priced_plans_are_proved _ _ m d (record { compiled = compiled; outcome = outcome }) c.in_ok-priced.priced.text.items solved, c.exit_kind_of-exit_kind.ensures);
        written = search rules;
      };
      err = tt;
      unread = (grind (arith), (grind (arith), tt));
      unwritten = grind (arith);
      reads = (search rules, (search rules, tt));
    }

pub returns-clause-run : goal.returns-clause-run
returns-clause-run g c =
    let m = c.in_ok-model_text.model_text.items in
    let d = c.in_ok-data_text.data_text.items in
    let compiled = written c.in_ok-network.network in
    let outcome = c.in_ok-priced.priced.outcome in
    let found = rw (c.deref.ensures.value, c.deref-2.ensures.value) at c.read_network-read.ensures.ok in
    let promise : IsBuiltFrom c.args.options.now.lean (option_copied c.args.options.now.objective) m d c.in_ok-network.instance compiled
    = c.in_ok-network.ensures _ m d (network_read _ m d _ c.in_ok-named.named c.in_ok-named.ensures.ok found) in
    let solved = c.in_ok-priced.ensures _ _ m d promise in
    record {
      ok = tt;
      err = (
        exit_kind_of outcome,
        record {
          texts = texts_of m d [] [];
          read = (read_whole _ _ _ c.in_ok-model_text.ensures.value promise.0.accepts.model.read.short, (read_whole _ _ _ c.in_ok-data_text.ensures.value promise.0.accepts.statements.read.short, tt));
          text = c.in_ok-priced.priced.text.items;
          answer = (record { compiled = compiled; outcome = outcome }, solved, priced_plans_are_proved _ _ m d (record { compiled = compiled; outcome = outcome }) c.in_ok-priced.priced.text.items solved, refl);
          written = search rules;
        },
      );
      unread = (grind (arith), (grind (arith), tt));
      unwritten = grind (arith);
      reads = (search rules, (search rules, tt));
    }

pub returns-in_err-named-clause-run : goal.returns-in_err-named-clause-run
returns-in_err-named-clause-run g c =
    let m = c.in_ok-model_text.model_text.items in
    let d = c.in_ok-data_text.data_text.items in
    let wanted = option_copied c.args.options.now.objective in
    let stopped = rw (c.deref.ensures.value, c.deref-2.ensures.value) at c.read_network-read.ensures.rejected in
    let wrong : IsRejection wanted m d c.in_err-named.field-0.0 =
    rw (← c.deref-3.ensures.value, ← c.deref-4.ensures.value) (c.in_err-named.ensures.rejected wanted (rw (c.deref-3.ensures.value, c.deref-4.ensures.value) stopped)) in
    rejected_run _ _ _ _ (texts_of m d [] []) (λ name h. h) (λ h. h) (c.in_ok-model_text.ensures.value, (c.in_ok-data_text.ensures.value, tt)) refl
    (grind (arith), (grind (arith), tt)) (grind (arith)) (c.in_ok-model_text.ensures.reads, (c.in_ok-data_text.ensures.reads, tt))
    c.in_err-named.field-0.0 wrong _ _ (λ e h. h) c.from_residual-in_err-named.ensures.1

pub returns-in_err-network-clause-run : goal.returns-in_err-network-clause-run
returns-in_err-network-clause-run g c =
    stopped_run _ _ _ _ refl (grind (arith), (grind (arith), tt)) (grind (arith)) (c.in_ok-model_text.ensures.reads, (c.in_ok-data_text.ensures.reads, tt))
    _ _ (λ e h. h) c.from_residual-in_err-network.ensures.1

pub returns-in_err-priced-clause-run : goal.returns-in_err-priced-clause-run
returns-in_err-priced-clause-run g c =
    stopped_run _ _ _ _ refl (grind (arith), (grind (arith), tt)) (grind (arith)) (c.in_ok-model_text.ensures.reads, (c.in_ok-data_text.ensures.reads, tt))
    _ _ (λ e h. h) c.from_residual-in_err-priced.ensures.1
