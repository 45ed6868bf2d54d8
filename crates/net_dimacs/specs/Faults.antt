-- The numbers and names of the errors in a DIMACS file (First DIMACS Implementation Challenge), as
-- netflow prints them.
use Rattle.std.specs.Prelude.{ℕ, List, ◌++◌, codes}
use Rattle.std.specs.Fmt.{decimal}
use Rattle.net_dimacs.specs.declared.problem_fault.LineFault.{LineFault}
use Rattle.net_dimacs.specs.declared.problem_fault.ProblemFault.{ProblemFault}
use Rattle.net_dimacs.specs.declared.problem_fault.ProblemFault.TheVariants.{OutOfMemory, Rejected}
use Rattle.net_dimacs.specs.declared.problem_fault.Rejection.{Rejection}
use Rattle.net_dimacs.specs.declared.problem_fault.LineFault.TheVariants.{BadLine, NoProblemLine, LineOrder, NodeNumber, DoubleNode, Count, Bounds, TooLarge, Certificate}

abbrev pub number_of : LineFault → ℕ
number_of BadLine = 70
number_of NoProblemLine = 71
number_of LineOrder = 72
number_of NodeNumber = 73
number_of DoubleNode = 74
number_of Count = 75
number_of Bounds = 76
number_of TooLarge = 77
number_of Certificate = 78

abbrev pub name_of : LineFault → List ℕ
name_of BadLine = codes "BadLine"
name_of NoProblemLine = codes "NoProblemLine"
name_of LineOrder = codes "LineOrder"
name_of NodeNumber = codes "NodeNumber"
name_of DoubleNode = codes "DoubleNode"
name_of Count = codes "Count"
name_of Bounds = codes "Bounds"
name_of TooLarge = codes "TooLarge"
name_of Certificate = codes "Certificate"

-- as `E75 Count`
abbrev pub line_fault_text : LineFault → List ℕ
line_fault_text fault = codes "E" ++ (decimal (number_of fault) ++ (codes " " ++ name_of fault))

-- as `E76 Bounds problem 2`: number, name, the word `problem`, line number
abbrev pub rejection_text : Rejection → List ℕ
rejection_text r = line_fault_text r.fault ++ (codes " problem " ++ decimal r.line)

abbrev pub problem_fault_text : ProblemFault → List ℕ
problem_fault_text OutOfMemory = codes "out of memory"
problem_fault_text (Rejected r) = rejection_text r
