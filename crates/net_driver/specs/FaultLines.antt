-- The printed line of an error.
use Rattle.std.specs.Prelude.{ℕ, List, [], ◌∷◌, ◌++◌, codes, decimal, string_bytes}
use Rattle.net_dimacs.specs.Faults.{line_fault_text}
use Rattle.net_base.specs.ErrorLines.{error_code_shown}
use Rattle.net_driver.specs.declared.driver_fault.Fault.{Fault}
use Rattle.net_driver.specs.declared.driver_fault.Fault.TheVariants.{OutOfMemory, Rejected, RejectedLine, Unread, Unwritten}
use Rattle.net_driver.specs.declared.driver_fault.Rejection.{Rejection}
use Rattle.net_driver.specs.declared.driver_fault.LineRejection.{LineRejection}
use Rattle.net_driver.specs.declared.driver_fault.TextName.{TextName}
use Rattle.net_driver.specs.declared.driver_fault.TextName.TheVariants.{Model, Data, Problem, Certificate}

abbrev pub text_word : TextName → List ℕ
text_word Model = codes "model"
text_word Data = codes "data"
text_word Problem = codes "problem"
text_word Certificate = codes "certificate"

-- a space before the detail, if there is one
abbrev pub detail_gap : List ℕ → List ℕ
detail_gap [] = []
detail_gap (byte ∷ rest) = codes " "

-- for example `E12 Undeclared model 3:30 B`
abbrev pub rejection_line : Rejection → List ℕ
rejection_line r =
    error_code_shown r.kind ++ (codes " " ++ (text_word r.text ++ (codes " " ++ (decimal r.line ++ (codes ":" ++ (decimal r.column ++ (detail_gap (string_bytes r.detail) ++ string_bytes r.detail)))))))

-- for example `E75 Count problem 3`
abbrev pub line_rejection_line : LineRejection → List ℕ
line_rejection_line r = line_fault_text r.fault ++ (codes " " ++ (text_word r.text ++ (codes " " ++ decimal r.line)))

abbrev pub fault_line : Fault → List ℕ
fault_line OutOfMemory = codes "out of memory"
fault_line (Rejected r) = rejection_line r
fault_line (RejectedLine r) = line_rejection_line r
fault_line (Unread text) = codes "E90 ReadFault " ++ text_word text
fault_line Unwritten = codes "E91 WriteFault"
