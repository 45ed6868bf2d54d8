use Rattle.std.proofs.Common.{List, Err, subst, arith}
use Rattle.net_lex.specs.declared.token.Token.{Token}
use Rattle.net_model.specs.Meaning.{Means}
use Rattle.net_model.specs.Models.{meant, Parses}
use Rattle.net_model.proofs.NamedModels.{meant_well_named}
use Rattle.net_bind.proofs.NewNames.{new_names}
use Rattle.net_tree.specs.View as view
use Rattle.net_driver.proofs.Stops.{model_token, model_parse, model_stop, passed_on}
use Rattle.net_driver.proofs.network_reader.read_network.Goals as goal

pub network_of-read-requires : goal.network_of-read-requires
network_of-read-requires c = new_names (view.model c.in_ok-declared.declared) (meant_well_named c.deref.result.now (view.model c.in_ok-declared.declared) c.in_ok-declared.ensures.value)

pub returns-clause-ok : goal.returns-clause-ok
returns-clause-ok c = c.network_of-read.ensures.ok c.args.model.now (record {
  tokens = c.in_ok-tokens.tokens.items;
  read = c.in_ok-tokens.ensures.value.ok;
  means = subst (λ (t : List Token). Means t (view.model c.in_ok-declared.declared)) c.deref.ensures.value c.in_ok-declared.ensures.means;
  named = meant_well_named c.deref.result.now (view.model c.in_ok-declared.declared) c.in_ok-declared.ensures.value;
})

pub returns-clause-rejected : goal.returns-clause-rejected
returns-clause-rejected c = c.network_of-read.ensures.rejected c.args.model.now (record {
  tokens = c.in_ok-tokens.tokens.items;
  read = c.in_ok-tokens.ensures.value.ok;
  means = subst (λ (t : List Token). Means t (view.model c.in_ok-declared.declared)) c.deref.ensures.value c.in_ok-declared.ensures.means;
  named = meant_well_named c.deref.result.now (view.model c.in_ok-declared.declared) c.in_ok-declared.ensures.value;
})

pub returns-in_err-tokens-clause-rejected : goal.returns-in_err-tokens-clause-rejected
returns-in_err-tokens-clause-rejected c =
    let fault = c.in_err-tokens.field-0.0 in
    passed_on _ fault c.from_residual.result _ (λ e h. h) (model_stop _ c.args.model.now c.args.data.now fault (model_token c.args.model.now fault c.in_err-tokens.ensures.value.rejected)) c.from_residual.ensures.1

pub returns-in_err-declared-clause-rejected : goal.returns-in_err-declared-clause-rejected
returns-in_err-declared-clause-rejected c =
    let fault = c.in_err-declared.field-0.0 in
    let parsed = subst (λ (t : List Token). Parses (Err fault) (meant t)) c.deref.ensures.value c.in_err-declared.ensures.value in
    passed_on _ fault c.from_residual-in_err-declared.result _ (λ e h. h)
    (model_stop _ c.args.model.now c.args.data.now fault (model_parse c.args.model.now c.in_ok-tokens.tokens.items fault c.in_ok-tokens.ensures.value.ok parsed)) c.from_residual-in_err-declared.ensures.1
