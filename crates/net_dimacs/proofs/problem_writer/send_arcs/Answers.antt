use Rattle.std.proofs.Common.{◌+◌, drop, get_or, pos}
use Rattle.std.specs.List.{flat_map}
use Rattle.net_normal.specs.declared.problem.FlowArc.{FlowArc}
use Rattle.net_dimacs.specs.Written.{arc_line}
use Rattle.net_io.proofs.Paging.{start, step, finish}
use Rattle.net_dimacs.proofs.Sending.{arcs_next, arcs_end}
use Rattle.net_dimacs.proofs.problem_writer.send_arcs.Goals as goal

abbrev none : FlowArc
none = record { src = 0; dst = 0; low = pos 0; cap = pos 0; cost = pos 0 }

pub loop-arc-init : goal.loop-arc-init
loop-arc-init g c = start _ _ (flat_map arc_line c.args.arcs.now)

pub loop-arc-preserved : goal.loop-arc-preserved
loop-arc-preserved g c =
    let k = c.loop-arc.arc-index in
    let arcs = c.args.arcs.now in
    step (arc_line (get_or arcs k none)) (flat_map arc_line (drop (k + 1) arcs)) (arcs_next k arcs none c.loop-arc-test.true) c.loop-arc.invariant c.send_arc.ensures

pub returns : goal.returns
returns g c = finish (arcs_end c.loop-arc.arc-index c.args.arcs.now c.loop-arc-test.false) c.loop-arc.invariant
