-- What it means that an answer is a certificate.
use Rattle.net_normal.specs.declared.problem.Problem.{Problem}
use Rattle.net_check.specs.Certificates.{IsCertificate}
use Rattle.net_check.specs.declared.certificate.Certificate.{Certificate}
use Rattle.net_check.specs.declared.certificate.Certificate.TheVariants.{Optimal, Cut}
use Rattle.net_check.proofs.LeastCost.{optimal-least}
use Rattle.net_check.proofs.NoFlow.{cut-no_flow}
use Rattle.net_solve.specs.Settling.{BoundsEachFlow, LeavesNoFlow}

pub certificate-bounds : (problem : Problem) (certificate : Certificate) → IsCertificate problem certificate → BoundsEachFlow problem certificate
certificate-bounds problem (Optimal value flows potentials) is = λ others feasible. optimal-least problem value flows.items potentials.items others is feasible
certificate-bounds problem (Cut flags side) is = tt

pub certificate-leaves : (problem : Problem) (certificate : Certificate) → IsCertificate problem certificate → LeavesNoFlow problem certificate
certificate-leaves problem (Optimal value flows potentials) is = tt
certificate-leaves problem (Cut flags side) is = λ flows feasible. cut-no_flow problem flags.items side flows is feasible
