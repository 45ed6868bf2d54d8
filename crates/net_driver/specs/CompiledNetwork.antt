-- A compiled model whose text is not in memory.
use Rattle.std.specs.Prelude.{◌++◌}
use Rattle.net_dimacs.specs.Written.{problem_text}
use Rattle.net_report.specs.Links.{link_text}
use Rattle.net_driver.specs.declared.compiled.Compiled.{Compiled}
use Rattle.net_driver.specs.declared.compiled_network.CompiledNetwork.{CompiledNetwork}

-- the compiled model with its text: the name map, then the problem's lines
abbrev pub written : CompiledNetwork → Compiled
written u = record { text = record { items = link_text u.names u.link ++ problem_text u.problem.supplies.items u.problem.arcs.items }; problem = u.problem; link = u.link; names = u.names }
