use Rattle.net_solve.proofs.SlackScanning.{HasScanned}
use Rattle.net_solve.proofs.slack.min_slack_arc.Given as goal

abbrev pub invariant-loop-index : goal.invariant-loop-index
invariant-loop-index l = HasScanned l.arcs l.flows l.potentials l.flags l.index l.first
