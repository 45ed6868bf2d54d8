use Rattle.std.proofs.Common.{refl, arith}
use Rattle.std.proofs.lemmas.Grind.{common_steps}
use Rattle.net_dimacs.specs.Written.{problem_text}
use Rattle.net_report.specs.Links.{link_text}
use Rattle.net_driver.proofs.Writing.{both_written, first_failed, second_failed}
use Rattle.net_driver.proofs.compiled_network.write_text.Goals as goal

pub returns-in_err-write_links_to-clause-err : goal.returns-in_err-write_links_to-clause-err
returns-in_err-write_links_to-clause-err g c =
    let network = c.args.network.now in
    let links = link_text network.names network.link in
    first_failed _ _ links links (problem_text network.problem.supplies.items network.problem.arcs.items) c.from_residual.result refl c.in_err-write_links_to.ensures.err

pub returns-in_err-write_problem_to-clause-err : goal.returns-in_err-write_problem_to-clause-err
returns-in_err-write_problem_to-clause-err g c =
    let network = c.args.network.now in
    let links = link_text network.names network.link in
    second_failed _ _ _ links links (problem_text network.problem.supplies.items network.problem.arcs.items) c.from_residual-in_err-write_problem_to.result refl
    c.in_ok-write_links_to.ensures.ok c.in_err-write_problem_to.ensures.err

pub returns-clause-flag : goal.returns-clause-flag
returns-clause-flag g c = grind (arith, common_steps)

pub returns-clause-ok : goal.returns-clause-ok
returns-clause-ok g c =
    let network = c.args.network.now in
    let links = link_text network.names network.link in
    both_written (g.W.Sink.taken c.args.sink.now) (g.W.Sink.taken c.write_links_to.new.sink) (g.W.Sink.taken c.write_problem_to.new.sink) links links
    (problem_text network.problem.supplies.items network.problem.arcs.items) refl c.in_ok-write_links_to.ensures.ok c.in_ok-write_problem_to.ensures.ok
