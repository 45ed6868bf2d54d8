use Rattle.net_check.proofs.NoFlow.{cut-no_flow}
use Rattle.net_check.proofs.checker.no_flow.Goals as goal

pub returns : goal.returns
returns c = record { value = cut-no_flow }
