use Rattle.std.proofs.Common.{◌≡◌, List, ℕ, Err, sym, subst}
use Rattle.net_tree.specs.View as view
use Rattle.net_tree.specs.declared.declaration.Model.{Model}
use Rattle.net_lex.specs.declared.token.Token.{Token}
use Rattle.net_data.specs.Reading as data_reading
use Rattle.net_driver.specs.Reading.{IsModel}
use Rattle.net_driver.proofs.Stops.{is_data, data_token, data_parse, network_stop, network_stops, bind_stop, passed_on}
use Rattle.net_driver.proofs.network_reader.network_of.Goals as goal

-- the model that `model` returns is that of the text
the_model : (text : List ℕ) (declared model : Model) → model ≡ declared → IsModel text (view.model declared) → IsModel text (view.model model)
the_model text declared model same is = subst (λ (m : Model). IsModel text (view.model m)) (sym same) is

pub returns-in_err-tokens-clause-rejected : goal.returns-in_err-tokens-clause-rejected
returns-in_err-tokens-clause-rejected c text is =
    passed_on _ _ c.from_residual.result _ (λ e h. h) (data_token _ text c.args.data.now (view.model c.args.declared.now) _ is c.in_err-tokens.ensures.value.rejected) c.from_residual.ensures.1

pub returns-in_err-tables-clause-rejected : goal.returns-in_err-tables-clause-rejected
returns-in_err-tables-clause-rejected c text is =
    let fault = c.in_err-tables.field-0.0 in
    let place = subst (λ (t : List Token). data_reading.Answers (data_reading.end_of t) (data_reading.tables t) (Err fault)) c.words.ensures c.in_err-tables.ensures.place in
    passed_on _ fault c.from_residual-in_err-tables.result _ (λ e h. h)
    (data_parse _ text c.args.data.now (view.model c.args.declared.now) c.in_ok-tokens.tokens fault is c.in_ok-tokens.ensures.value.ok place) c.from_residual-in_err-tables.ensures.1

pub returns-in_err-world-clause-rejected : goal.returns-in_err-world-clause-rejected
returns-in_err-world-clause-rejected c text is =
    let tables = c.in_ok-tables.tables in
    let same = the_model text _ _ c.model-model.ensures is in
    let fault = c.in_err-world.field-0.0 in
    let found = is_data c.args.data.now c.in_ok-tokens.tokens _ tables c.words.ensures c.in_ok-tokens.ensures.value.ok c.in_ok-tables.ensures.ok c.in_ok-tables.ensures.full in
    passed_on _ fault c.from_residual-in_err-world.result _ (λ e h. h)
    (network_stop _ text c.args.data.now (view.model c.model-model.result.now) tables fault same found (bind_stop _ (view.model c.model-model.result.now) tables fault c.in_err-world.ensures)) c.from_residual-in_err-world.ensures.1

pub returns-clause-rejected : goal.returns-clause-rejected
returns-clause-rejected c text is =
    let tables = c.in_ok-tables.tables in
    let same = the_model text _ _ c.model-model.ensures is in
    let found = is_data c.args.data.now c.in_ok-tokens.tokens _ tables c.words.ensures c.in_ok-tokens.ensures.value.ok c.in_ok-tables.ensures.ok c.in_ok-tables.ensures.full in
    network_stops _ text c.args.data.now (view.model c.model-model.result.now) tables c.in_ok-world.world c.instantiate_for.result same found c.in_ok-world.ensures c.instantiate_for.ensures
