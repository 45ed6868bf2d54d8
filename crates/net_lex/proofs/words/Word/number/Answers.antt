use Rattle.std.proofs.Common.{MatchResult, ◌∙◌, subst}
use Rattle.net_lex.specs.Limits.{limits}
use Rattle.net_lex.specs.Numerals.{IsNumFault, IsValue}
use Rattle.net_lex.proofs.words.Word.number.Goals as goal

pub returns-in-0 : goal.returns-in-0
returns-in-0 c = subst (λ t. MatchResult c.whole_of.result (λ v. IsValue limits.value t v) (λ why. IsNumFault limits.value t why)) (c.as_str.ensures ∙ c.text.ensures) c.whole_of.ensures.value
