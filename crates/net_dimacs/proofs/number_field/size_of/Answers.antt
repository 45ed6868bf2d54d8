use Rattle.std.proofs.Common.{◌-◌, ◌^◌, ◌∙◌}
use Rattle.net_dimacs.proofs.Sizes.{size_is}
use Rattle.net_dimacs.proofs.number_field.size_of.Goals as goal

pub returns : goal.returns
returns c = c.short_size_of.ensures ∙ size_is (2 ^ 64 - 1) c.args.digits.now
