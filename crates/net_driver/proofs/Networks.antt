-- A network that was read, or the error that was met, and what is reported of it.
use Rattle.std.specs.Prelude.{◌≡◌, ℕ, List, Option, Result, Ok, Err, IfOk, IfErr}
use Rattle.std.proofs.Common.{subst}
use Rattle.net_base.specs.declared.diagnostic.Fault.{Fault}
use Rattle.net_expr.specs.Worlds.{Name}
use Rattle.net_inst.specs.Instances.{seen_as}
use Rattle.net_inst.specs.declared.network.Named.{Named}
use Rattle.net_driver.specs.FirstFaults.{IsStop}
use Rattle.net_driver.specs.Reading.{IsNetworkOf}
use Rattle.net_driver.specs.Reporting.{IsSpanThere}
use Rattle.net_driver.proofs.FaultPlaces.{stop_lies_there}

-- the network is that of the two texts
pub network_read : (wanted : Option Name) (m d : List ℕ) (read : Result Named Fault) (named : Named) → read ≡ Ok named
    → IfOk read (λ n. IsNetworkOf wanted m d (seen_as n)) → IsNetworkOf wanted m d (seen_as named)
network_read wanted m d read named is found = subst (λ r. IfOk r (λ n. IsNetworkOf wanted m d (seen_as n))) is found

-- what holds of the error that was met
pub met : (Q : Fault → Type 0) (read : Result Named Fault) (fault own : Fault) → read ≡ Err fault → fault ≡ own → IfErr read Q → Q own
met Q read fault own is same stopped = subst Q same (subst (λ r. IfErr r Q) is stopped)

-- its span is within its text
pub lies_there : (wanted : Option Name) (m d : List ℕ) (read : Result Named Fault) → IfErr read (IsStop wanted m d) → IfErr read (IsSpanThere m d)
lies_there wanted m d (Ok named) stopped = tt
lies_there wanted m d (Err fault) stopped = stop_lies_there wanted m d fault stopped
