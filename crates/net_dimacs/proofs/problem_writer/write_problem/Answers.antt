use Rattle.std.proofs.Common.{◌≡◌, ℕ, List, sym, subst, arith}
use Rattle.std.proofs.lemmas.Grind.{common_steps}
use Rattle.net_dimacs.specs.Problems.{IsOnlyProblem}
use Rattle.net_dimacs.specs.Written.{problem_text}
use Rattle.net_dimacs.proofs.problem_writer.write_problem.Goals as goal

pub returns-in-Ok-clause-only : goal.returns-in-Ok-clause-only
returns-in-Ok-clause-only c =
    let p = c.args.problem.now in
    let e : c.write_problem_to.new.sink.taken.items ≡ problem_text p.supplies.items p.arcs.items = grind (arith, common_steps) in
    subst (λ (text : List ℕ). IsOnlyProblem text p.supplies.items p.arcs.items) (sym e) c.in-Ok.ensures.only
