use Rattle.net_base.specs.declared.diagnostic.Language.TheVariants.{Model}
use Rattle.net_lex.proofs.Reporting.{lexes_no_memory}
use Rattle.net_lex.proofs.model_text.lex_model.Goals as goal

pub returns-in_err-to_tokens : goal.returns-in_err-to_tokens
returns-in_err-to_tokens c = record {
  value = lexes_no_memory (λ v. v.items) Model c.args.text.now c.in_ok-words.words c.from_residual-in_err-to_tokens.result c.in_ok-words.ensures.value.ok c.in_ok-words.ensures.stands c.in_err-to_tokens.ensures.some c.from_residual-in_err-to_tokens.ensures.0 c.from_residual-in_err-to_tokens.ensures.1;
}
