use Rattle.net_driver.proofs.Answering.{certificate_shape}
use Rattle.net_driver.proofs.line_runs.settle.Goals as goal

pub write_certificate-requires : goal.write_certificate-requires
write_certificate-requires c = certificate_shape c.args.network.now c.in_ok-settled.settled c.in_ok-settled.ensures.certificate

pub returns : goal.returns
returns c = λ problem is.
    let by = c.in_ok-settled.ensures in
    record { problem = c.args.network.now; is_problem = is; certificate = by.certificate; optimal = by.optimal; cut = by.cut; answer = (c.in_ok-text.ensures.value, c.in_ok-text.ensures.ok) }
