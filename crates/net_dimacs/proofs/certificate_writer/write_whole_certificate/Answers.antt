use Rattle.std.proofs.Common.{arith}
use Rattle.std.proofs.lemmas.Grind.{common_steps}
use Rattle.net_dimacs.proofs.certificate_writer.write_whole_certificate.Goals as goal

pub push_flows-requires : goal.push_flows-requires
push_flows-requires c = grind (arith, common_steps)

pub returns-clause-value : goal.returns-clause-value
returns-clause-value c = grind (arith, common_steps)

pub push_potentials-requires : goal.push_potentials-requires
push_potentials-requires c = grind (arith, common_steps)

pub push_members-requires : goal.push_members-requires
push_members-requires c = grind (arith, common_steps)
