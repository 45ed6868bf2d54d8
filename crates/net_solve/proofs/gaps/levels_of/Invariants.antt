use Rattle.net_solve.proofs.Closing.{HasLevelled}
use Rattle.net_solve.proofs.gaps.levels_of.Given as goal

abbrev pub invariant-loop-number : goal.invariant-loop-number
invariant-loop-number l = HasLevelled l.most l.sorted l.number-index l.last l.level l.levels.items
