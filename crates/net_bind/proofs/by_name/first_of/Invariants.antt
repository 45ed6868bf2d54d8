use Rattle.std.specs.Prelude.{◌≡◌, drop}
use Rattle.net_bind.specs.DataByName.{first_of}
use Rattle.net_bind.proofs.by_name.first_of.Given as goal

abbrev pub invariant-loop-word : goal.invariant-loop-word
invariant-loop-word l = first_of l.names (drop l.word-index l.words) l.first ≡ first_of l.names l.words l.fn.before
