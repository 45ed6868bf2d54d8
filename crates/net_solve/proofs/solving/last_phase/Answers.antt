use Rattle.net_solve.proofs.Keeping.{ended-feasible, ended-least}
use Rattle.net_solve.proofs.solving.last_phase.Goals as goal

pub returns-clause-feasible : goal.returns-clause-feasible
returns-clause-feasible c = ended-feasible

pub returns-clause-least : goal.returns-clause-least
returns-clause-least c = ended-least
