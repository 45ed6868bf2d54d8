use Rattle.std.proofs.Common.{◌≡◌, ◌-◌, ◌≤◌, suc, List, [], ◌∷◌, length, get_or, refl, ap, ◌∙◌, arith}
use Rattle.std.proofs.lemmas.Grind.{common_steps}
use Rattle.net_lex.specs.declared.token.Token.{Token}
use Rattle.net_base.specs.declared.diagnostic.Span.{Span}
use Rattle.net_model.specs.Faults.{end_of}
use Rattle.net_model.proofs.model_fault.end_of.Goals as goal

abbrev end_span : Token → Span
end_span t = record { start = t.span.end; end = t.span.end }

last_end : (ts : List Token) (d : Token) → 1 ≤ length ts → end_span (get_or ts (length ts - 1) d) ≡ end_of ts
last_end [] d h = absurd (omega arith)
last_end (t ∷ []) d h = refl
last_end (t ∷ u ∷ ts) d h =
    let e : length (t ∷ u ∷ ts) - 1 ≡ suc (length (u ∷ ts) - 1) = omega arith in
    ap (λ i. end_span (get_or (t ∷ u ∷ ts) i d)) e ∙ last_end (u ∷ ts) d (omega arith)

pub returns-in-len1-up : goal.returns-in-len1-up
returns-in-len1-up c = ap end_span c.last-item.is ∙ last_end c.args.tokens.now c.last-item.result c.in-len1-up.len_at_least

pub overflow_sub-last : goal.overflow_sub-last
overflow_sub-last c = grind (arith, common_steps)

pub returns-in-empty : goal.returns-in-empty
returns-in-empty c = grind (arith, common_steps)

pub bounds-tokens-tokens : goal.bounds-tokens-tokens
bounds-tokens-tokens c = grind (arith, common_steps)
