use Rattle.net_driver.proofs.compiled_network.compile_network.Goals as goal

pub returns-in-Ok : goal.returns-in-Ok
returns-in-Ok c = λ wanted m d network. (c.in-Ok.ensures wanted m d network).0
