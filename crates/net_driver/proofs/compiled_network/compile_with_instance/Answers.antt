use Rattle.std.proofs.Common.{refl}
use Rattle.net_dimacs.proofs.WriteLaws.{text_is, text_only}
use Rattle.net_driver.specs.CompiledNetwork.{written}
use Rattle.net_driver.proofs.Promise.{headline_from}
use Rattle.net_inst.proofs.Aiming.{have_objective}
use Rattle.net_inst.proofs.Written.{have_bounds, have_exact_ranges, have_names}
use Rattle.net_inst.proofs.Corresponding.{correspond_as_written}
use Rattle.net_driver.proofs.compiled_network.compile_with_instance.Goals as goal

pub returns : goal.returns
returns c = λ wanted m d network.
    let problem = c.in_ok-problem.problem in
    headline_from c.args.lean wanted m d (written record { problem = problem; link = c.in_ok-problem.link; names = c.args.network.names }) have_names have_exact_ranges
    have_bounds have_objective correspond_as_written record {
      named = c.args.network;
      network = network;
      names = refl;
      normal = c.in_ok-problem.ensures.value;
      corresponds = c.in_ok-problem.ensures.corresponds;
      text = refl;
      problem = text_is problem;
      only = text_only problem;
    }
