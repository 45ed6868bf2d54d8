use Rattle.std.proofs.Common.{FitsSigned, w64, rules, arith}
use Rattle.net_solve.proofs.Sinking.{may-sink}
use Rattle.std.proofs.lemmas.Grind.{common_steps}
use Rattle.net_solve.proofs.lowering.may_sink.Goals as goal

pub returns : goal.returns
returns c = λ t.
    let f : FitsSigned w64 c.args.amount.now = search rules in
    let g : FitsSigned w64 c.args.least.now = search rules in
    let h : FitsSigned w64 c.args.epsilon.now = search rules in
    may-sink c.args.potential.now c.args.least.now c.args.amount.now c.args.epsilon.now c.requires.potential f g h c.requires.epsilon c.if-least-lt0.false c.if-amount-le0.false c.if-amount.false c.if-amount-epsilon.false t

pub overflow_sub-result : goal.overflow_sub-result
overflow_sub-result c = grind (arith, common_steps)
