use Rattle.net_base.specs.Places.{IsInFiles}
use Rattle.net_inst.proofs.NetworkFaults.{finds_network}
use Rattle.net_inst.proofs.inst_laws.errors_are_in_model.Goals as goal

pub returns : goal.returns
returns c = record { value = λ size wanted w ds h. finds_network (IsInFiles size 0) ⊥ (λ f at j. j) wanted w ds h (λ q. absurd q) (λ q. absurd q) }
