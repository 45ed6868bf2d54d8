-- What a caller of the writer may rely on.
use Rattle.net_normal.specs.declared.problem.Problem.{Problem}
use Rattle.net_dimacs.specs.Written.{problem_text}
use Rattle.net_dimacs.specs.Problems.{IsProblemText, IsOnlyProblem}
use Rattle.net_dimacs.proofs.OneProblem.{one_problem}
use Rattle.net_dimacs.proofs.ReadLaws.{limits_of}
use Rattle.net_dimacs.proofs.WrittenLines.{written_is}

pub text_is : (p : Problem) → IsProblemText (problem_text p.supplies.items p.arcs.items) p.supplies.items p.arcs.items
text_is p = written_is p.supplies.items p.arcs.items (limits_of p)

pub text_only : (p : Problem) → IsOnlyProblem (problem_text p.supplies.items p.arcs.items) p.supplies.items p.arcs.items
text_only p = λ s a text. one_problem (problem_text p.supplies.items p.arcs.items) s p.supplies.items a p.arcs.items text (text_is p)
