-- The result for a text, or its first error.
use Rattle.std.specs.Prelude.{◌≡◌, List, [], ◌∷◌, Result, Ok, Err, ⊤}
use Rattle.net_base.specs.declared.diagnostic.Span.{Span}
use Rattle.net_base.specs.declared.diagnostic.Language.{Language}
use Rattle.net_base.specs.declared.diagnostic.Language.TheVariants.{Model, Data}
use Rattle.net_base.specs.declared.error_code.ErrorCode.{ErrorCode}
use Rattle.net_base.specs.declared.diagnostic.Detail.{Detail}
use Rattle.net_base.specs.declared.diagnostic.Detail.TheVariants.{Nothing}
use Rattle.net_base.specs.declared.diagnostic.Diagnostic.{Diagnostic}
use Rattle.net_base.specs.declared.diagnostic.Fault.{Fault}
use Rattle.net_base.specs.declared.diagnostic.Fault.TheVariants.{OutOfMemory, At}

abbrev pub diagnostic_at : Language → ErrorCode → Span → Detail → Diagnostic
diagnostic_at text d at x = record { error_code = d; text = text; at = at; detail = x }

-- an error without a detail
abbrev pub bare : Language → ErrorCode → Span → Diagnostic
bare text d at = diagnostic_at text d at Nothing

abbrev pub Outcome : Type 0 → Type 0
Outcome A = Result A Diagnostic

-- f of the value; an error is passed on
abbrev pub and_then : {A B : Type 0} → Outcome A → (A → Outcome B) → Outcome B
and_then (Ok a) f = f a
and_then (Err r) f = Err r

abbrev pub rejected_as : {A : Type 0} → Language → ErrorCode → Span → Detail → Outcome A
rejected_as text d at x = Err (diagnostic_at text d at x)

-- an error in the model, without a detail
abbrev pub rejected : {A : Type 0} → ErrorCode → Span → Outcome A
rejected d at = rejected_as Model d at Nothing

-- an error in the model, with its detail
abbrev pub rejected_of : {A : Type 0} → ErrorCode → Span → Detail → Outcome A
rejected_of d at x = rejected_as Model d at x

-- an error in the data, without a detail
abbrev pub rejected_there : {A : Type 0} → ErrorCode → Span → Outcome A
rejected_there d at = rejected_as Data d at Nothing

-- f applied to each element in turn, with the result so far
abbrev pub each : {A B : Type 0} → (A → B → Outcome B) → List A → B → Outcome B
each f [] diagnostic_at = Ok diagnostic_at
each f (x ∷ xs) diagnostic_at = and_then (f x diagnostic_at) (each f xs)

-- the code returns what the definition gives, unless memory runs out
abbrev pub Refines : {A : Type 0} → Outcome A → Result A Fault → Type 0
Refines wanted (Ok x) = wanted ≡ Ok x
Refines wanted (Err OutOfMemory) = ⊤
Refines wanted (Err (At r)) = wanted ≡ Err r

-- the same, if contracts see f of the value
abbrev pub RefinesAs : {A B : Type 0} → (A → B) → Outcome B → Result A Fault → Type 0
RefinesAs f wanted (Ok x) = wanted ≡ Ok (f x)
RefinesAs f wanted (Err OutOfMemory) = ⊤
RefinesAs f wanted (Err (At r)) = wanted ≡ Err r

-- the same, for code that allocates no memory
abbrev pub Yields : {A : Type 0} → Outcome A → Result A Fault → Type 0
Yields wanted (Ok x) = wanted ≡ Ok x
Yields wanted (Err OutOfMemory) = ⊥
Yields wanted (Err (At r)) = wanted ≡ Err r

-- the same, for code that modifies a value in place
abbrev pub Updates : {A : Type 0} → Outcome A → Result (Unit {0}) Fault → A → Type 0
Updates wanted (Ok x) new = wanted ≡ Ok new
Updates wanted (Err OutOfMemory) new = ⊤
Updates wanted (Err (At r)) new = wanted ≡ Err r
