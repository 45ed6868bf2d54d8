-- The state of the reader of a certificate file.
use Rattle.std.specs.Prelude.{◌≡◌, Bool, true, false, IsTrue, Option, Some, None, List, Result, Ok, Err}
use Rattle.std.specs.Global.{Vec}
use Rattle.net_check.specs.declared.certificate.Certificate.{Certificate}
use Rattle.net_dimacs.specs.declared.problem_fault.LineFault.{LineFault}
use Rattle.net_dimacs.specs.declared.problem_fault.ProblemFault.{ProblemFault}
use Rattle.net_dimacs.specs.declared.problem_fault.ProblemFault.TheVariants as faults
use Rattle.net_dimacs.specs.declared.progress.LineStop.{LineStop}
use Rattle.net_dimacs.specs.Drafts.{FailsLine}
use Rattle.net_dimacs.specs.Certificates.{Account, account_of}
use Rattle.net_dimacs.specs.CertificateReading.{Progress, Start, Open, Rejected}

-- the result is the list or the error that the definition gives, unless memory ran out
abbrev pub GivesList : {A : Type 0} → Result (List A) LineFault → Result (Vec A) LineStop → Type 0
GivesList read (Ok list) = read ≡ Ok list.items
GivesList read (Err e) = FailsLine read e

-- the same for a partial certificate
abbrev pub GivesPart : Result Account LineFault → Result Certificate LineStop → Type 0
GivesPart read (Ok certificate) = read ≡ Ok (account_of certificate)
GivesPart read (Err e) = FailsLine read e

abbrev pub progress_of : Option Certificate → Progress
progress_of None = Start
progress_of (Some certificate) = Open (account_of certificate)

abbrev pub is_open : Progress → Bool
is_open Start = false
is_open (Open account) = true
is_open (Rejected rejection) = false

-- memory can run out only at a line that is accepted
abbrev pub Stops : Progress → ProblemFault → Type 0
Stops progress faults.OutOfMemory = IsTrue (is_open progress)
Stops progress (faults.Rejected rejection) = progress ≡ Rejected rejection

-- the result is the partial certificate or the error that the definition gives, unless memory ran
-- out
abbrev pub Comes : Progress → Result Certificate ProblemFault → Type 0
Comes progress (Ok certificate) = progress ≡ Open (account_of certificate)
Comes progress (Err e) = Stops progress e
