-- From what is read and settled to what is answered.
use Rattle.std.proofs.Common.{◌≡◌, ℕ, List, sym, subst, ◌∙◌}
use Rattle.net_normal.specs.Flows.{IsWithinCapacity}
use Rattle.net_normal.specs.declared.problem.Problem.{Problem}
use Rattle.net_check.specs.declared.certificate.Certificate.TheVariants as certificates
use Rattle.net_check.specs.Certificates.{IsCertificate, HasShape}
use Rattle.net_driver.specs.LineTexts.{IsProblemOf}
use Rattle.net_check.specs.declared.certificate.Certificate.{Certificate}
use Rattle.net_driver.specs.declared.driver_fault.Fault.{Fault}
use Rattle.net_driver.specs.declared.driver_fault.Fault.TheVariants as faults
use Rattle.net_driver.specs.Checked.{IsFirstLineFault, IsLineRejection, IsCertificateStop}
use Rattle.net_driver.proofs.Counts.{zip_length}

-- a certificate has its problem's size
pub certificate_shape : (problem : Problem) (certificate : Certificate) → IsCertificate problem certificate → HasShape problem certificate
certificate_shape problem (certificates.Optimal value flows potentials) h =
    record {
      one_an_arc = sym (zip_length IsWithinCapacity problem.arcs.items flows.items h.feasible.capacity) ∙ sym problem.arcs.ok.0;
      one_a_node = h.one_a_node;
    }
certificate_shape problem (certificates.Cut flags side) h = h.one_a_node

pub certificate_rejection : (problem_text certificate_text : List ℕ) (problem : Problem) (fault : Fault) → IsProblemOf problem_text problem
    → IsCertificateStop problem certificate_text fault → IsLineRejection problem_text certificate_text fault
certificate_rejection p c problem faults.OutOfMemory read stop = tt
certificate_rejection p c problem (faults.Rejected r) read stop = absurd stop
certificate_rejection p c problem (faults.RejectedLine r) read stop = subst (λ name. IsFirstLineFault p c name r.fault r.line) (sym stop.0) (problem, read, stop.1)
certificate_rejection p c problem (faults.Unread name) read stop = absurd stop
certificate_rejection p c problem faults.Unwritten read stop = absurd stop
