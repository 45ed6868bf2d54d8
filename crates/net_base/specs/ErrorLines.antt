-- How an error of a model or its data is shown if the text itself is not at hand, so that its position is in bytes.
use Rattle.std.specs.Prelude.{ℕ, ◌/◌, ◌%◌, List, [], ◌++◌, codes, decimal}
use Rattle.net_base.specs.declared.error_code.ErrorCode.{ErrorCode}
use Rattle.net_base.specs.declared.diagnostic.Detail.{Detail}
use Rattle.net_base.specs.declared.diagnostic.Detail.TheVariants.{Nothing, Reported}
use Rattle.net_base.specs.declared.diagnostic.Fault.{Fault}
use Rattle.net_base.specs.declared.diagnostic.Fault.TheVariants.{OutOfMemory, At}
use Rattle.net_base.specs.declared.diagnostic.Diagnostic.{Diagnostic}
use Rattle.net_base.specs.declared.diagnostic.Language.{Language}
use Rattle.net_base.specs.declared.diagnostic.Language.TheVariants.{Model, Data}
use Rattle.net_base.specs.ErrorCodes.{number_of, name_of}

abbrev pub language_word : Language → List ℕ
language_word Model = codes "model"
language_word Data = codes "data"

-- a code of two digits: `E04`
abbrev pub code_of : ℕ → List ℕ
code_of number = codes "E" ++ (decimal (number / 10) ++ decimal (number % 10))

-- as `E04 NotWhole`
abbrev pub error_code_shown : ErrorCode → List ℕ
error_code_shown d = code_of (number_of d) ++ (codes " " ++ name_of d)

-- a colon and the detail, if there is one
abbrev pub detail_shown : Detail → List ℕ
detail_shown Nothing = []
detail_shown (Reported text) = codes ": " ++ text

-- as `E12 Undeclared in the model, bytes 30..31: B`
abbrev pub diagnostic_shown : Diagnostic → List ℕ
diagnostic_shown x = error_code_shown x.error_code ++ (codes " in the " ++ (language_word x.text ++ (codes ", bytes "
    ++ (decimal x.at.start ++ (codes ".." ++ (decimal x.at.end ++ detail_shown x.detail))))))

abbrev pub fault_shown : Fault → List ℕ
fault_shown OutOfMemory = codes "out of memory"
fault_shown (At x) = diagnostic_shown x
