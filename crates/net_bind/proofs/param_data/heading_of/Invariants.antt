use Rattle.std.specs.Prelude.{◌≡◌, take}
use Rattle.net_bind.proofs.param_data.heading_of.Given as goal

abbrev pub invariant-loop-word : goal.invariant-loop-word
invariant-loop-word l = l.columns.items ≡ take l.word-index l.fn.grid.columns
