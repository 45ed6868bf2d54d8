use Rattle.net_io.proofs.Paging.{whole_fails}
use Rattle.net_dimacs.specs.Written.{problem_text}
use Rattle.net_dimacs.proofs.problem_writer.send_whole.Goals as goal

pub returns-clause-err : goal.returns-clause-err
returns-clause-err g c =
    whole_fails g.W.Sink.taken g.W.Sink.failed c.args.sink.now c.send_problem.new.sink c.finish.new.sink _ c.send_problem.new.page
    (problem_text c.args.problem.now.supplies.items c.args.problem.now.arcs.items) c.finish.result c.new-page.ensures c.send_problem.ensures c.finish.ensures.err
