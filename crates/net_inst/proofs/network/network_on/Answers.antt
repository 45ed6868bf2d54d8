use Rattle.std.proofs.Common.{◌≡◌, subst, arith}
use Rattle.std.proofs.lemmas.Grind.{common_steps}
use Rattle.std.specs.Prelude.{map, option_copied, Ok}
use Rattle.net_tree.specs.View.{declaration_of}
use Rattle.net_inst.specs.Drafts.{draw}
use Rattle.net_inst.proofs.Fitting.{built_fit}
use Rattle.net_inst.specs.Instances.{network}
use Rattle.net_inst.proofs.network.network_on.Goals as goal

pub finished-requires : goal.finished-requires
finished-requires c = built_fit (option_copied c.args.wanted.now) c.args.world.now (map declaration_of c.args.declarations.now) c.draw.new.draft
    (subst (λ d. draw (option_copied c.args.wanted.now) c.args.world.now (map declaration_of c.args.declarations.now) d ≡ Ok c.draw.new.draft) c.requires c.in_ok-draw.ensures)

pub draw-requires : goal.draw-requires
unfolding network
draw-requires c = grind (arith, common_steps)

pub returns : goal.returns
unfolding network
returns c = grind (arith)
