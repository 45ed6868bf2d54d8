-- Want of memory behind a model that was read.
use Rattle.std.specs.Prelude.{◌≡◌, ℕ, List, Option, Result, Ok, Err, IfErr}
use Rattle.std.specs.Result.{IsErrAnd}
use Rattle.std.proofs.Common.{sym, subst}
use Rattle.net_tree.specs.Tree.{Declaration}
use Rattle.net_expr.specs.Worlds.{Name}
use Rattle.net_driver.specs.declared.driver_fault.Fault.{Fault}
use Rattle.net_driver.specs.declared.driver_fault.Fault.TheVariants.{OutOfMemory}
use Rattle.net_driver.specs.FirstFaults.{MayBeModel}
use Rattle.net_driver.specs.Reading.{IsModel}
use Rattle.net_driver.specs.Reporting.{IsRejection}
use Rattle.net_driver.proofs.Stops.{may_be}

pub model_may : (m : List ℕ) (ds : List Declaration) → IsModel m ds → MayBeModel m
model_may m ds is = may_be m is.tokens is.read

-- want of memory is a refusal of a text that may be a model
pub no_memory : {A : Type 0} (wanted : Option Name) (m d : List ℕ) (r : Result A Fault) (P : Fault → Type 0) → ((e : Fault) → P e → e ≡ OutOfMemory) → MayBeModel m → IsErrAnd r P
    → IfErr r (IsRejection wanted m d)
no_memory wanted m d (Ok x) P f may h = absurd h
no_memory wanted m d (Err e) P f may h = subst (IsRejection wanted m d) (sym (f e h)) may
