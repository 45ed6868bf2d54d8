use Rattle.net_check.proofs.NoFlow.{cut-no_flow}
use Rattle.net_check.proofs.checker.never_both.Goals as goal

pub returns : goal.returns
returns c = record { value = λ problem value flows potentials flags side optimal cut. cut-no_flow problem flags side flows cut optimal.feasible }
