-- Name errors.
use Rattle.std.specs.Prelude.{◌≡◌, Option, None, Some, Result, Ok, Err}
use Rattle.net_lex.specs.declared.token.Token.{Token}
use Rattle.net_names.specs.declared.meaning.Meaning.{Meaning}
use Rattle.net_names.specs.declared.meaning.Need.{Need}
use Rattle.net_base.specs.declared.error_code.ErrorCode.{ErrorCode}
use Rattle.net_base.specs.declared.error_code.ErrorCode.TheVariants as error_codes
use Rattle.net_names.specs.declared.name_fault.NameFault.{NameFault}
use Rattle.net_names.specs.declared.name_fault.NameFault.TheVariants as faults
use Rattle.net_base.specs.declared.diagnostic.Fault as outcomes
use Rattle.net_base.specs.declared.diagnostic.Fault.TheVariants as reported_faults
use Rattle.net_base.specs.declared.diagnostic.Detail.TheVariants.{Reported}
use Rattle.net_base.specs.declared.diagnostic.Diagnostic.{Diagnostic}
use Rattle.net_base.specs.declared.diagnostic.Language.TheVariants.{Model}
use Rattle.net_base.specs.Outcomes.{diagnostic_at}
use Rattle.net_names.specs.Meanings.{error_code_of}
use Rattle.net_names.specs.Scopes.{NameScope, meaning_in}

-- the kind of error and the name
abbrev pub Fault : Type 0
Fault = ErrorCode × Token

-- the first error, or else the second
abbrev pub first : Option Fault → Option Fault → Option Fault
first None behind = behind
first (Some f) behind = Some f

abbrev pub at_name : Option ErrorCode → Token → Option Fault
at_name None t = None
at_name (Some d) t = Some (d, t)

-- the error of a name that is used
abbrev pub name_fault : Need → NameScope → Token → Option Fault
name_fault n s t = at_name (error_code_of n (meaning_in t.text s)) t

-- the error of a name that is declared
abbrev pub declared_before : Option Meaning → Token → Option Fault
declared_before None t = None
declared_before (Some m) t = Some (error_codes.Redeclared, t)

-- the result is this error, or success if there is none, unless memory ran out
abbrev pub Reports : Option Fault → Result (Unit {0}) NameFault → Type 0
Reports f (Ok u) = f ≡ None
Reports f (Err faults.OutOfMemory) = Unit {0}
Reports f (Err (faults.At d t)) = f ≡ Some (d, t)

-- the same for a function that allocates no memory
abbrev pub Decides : Option Fault → Result (Unit {0}) NameFault → Type 0
Decides f (Ok u) = f ≡ None
Decides f (Err faults.OutOfMemory) = ⊥
Decides f (Err (faults.At d t)) = f ≡ Some (d, t)

-- the error is reported at the span of the name, with the name as its detail
abbrev pub diagnostic_of : Fault → Diagnostic
diagnostic_of f = diagnostic_at Model f.0 f.1.span (Reported f.1.text)

abbrev pub IsReportedOf : NameFault → outcomes.Fault → Type 0
IsReportedOf faults.OutOfMemory reported = reported ≡ reported_faults.OutOfMemory
IsReportedOf (faults.At d t) reported_faults.OutOfMemory = Unit {0}
IsReportedOf (faults.At d t) (reported_faults.At g) = g ≡ diagnostic_of (d, t)

-- the result is this error as it is reported, or success if there is none, unless memory ran out
abbrev pub ReportsOf : Option Fault → Result (Unit {0}) outcomes.Fault → Type 0
ReportsOf f (Ok u) = f ≡ None
ReportsOf f (Err reported_faults.OutOfMemory) = Unit {0}
ReportsOf f (Err (reported_faults.At g)) = (x : Fault) × (f ≡ Some x) × (g ≡ diagnostic_of x)
