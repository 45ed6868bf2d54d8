-- Exit statuses.
use Rattle.std.specs.Prelude.{ℕ}
use Rattle.net_driver.specs.declared.solve_run.ExitKind.{ExitKind}
use Rattle.net_driver.specs.declared.solve_run.ExitKind.TheVariants as endings
use Rattle.net_driver.specs.declared.driver_fault.Fault.{Fault}
use Rattle.net_driver.specs.declared.driver_fault.Fault.TheVariants as faults
use Rattle.netflow.specs.declared.status.Status.{Status}
use Rattle.netflow.specs.declared.status.Status.TheVariants.{Done, Refuted, Rejected, EndFailed, OutOfMemory, Usage}

abbrev pub code_of : Status → ℕ
code_of Done = 0
code_of Refuted = 2
code_of Rejected = 3
code_of EndFailed = 4
code_of OutOfMemory = 5
code_of Usage = 64

abbrev pub status_of_fault : Fault → Status
status_of_fault faults.OutOfMemory = OutOfMemory
status_of_fault (faults.Rejected r) = Rejected
status_of_fault (faults.RejectedLine r) = Rejected
status_of_fault (faults.Unread text) = EndFailed
status_of_fault faults.Unwritten = EndFailed

abbrev pub status_of_exit_kind : ExitKind → Status
status_of_exit_kind endings.Done = Done
status_of_exit_kind endings.Refuted = Refuted
