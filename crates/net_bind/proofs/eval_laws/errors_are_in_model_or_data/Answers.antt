use Rattle.net_base.specs.Places.{IsInFiles}
use Rattle.net_bind.proofs.WorldFaults.{finds_world}
use Rattle.net_bind.proofs.eval_laws.errors_are_in_model_or_data.Goals as goal

pub returns : goal.returns
returns c = record { value = λ model_size data_size. finds_world (IsInFiles model_size data_size) (λ at h. h) }
