use Rattle.std.proofs.Common.{rules, ◌∙◌}
use Rattle.net_sets.proofs.HashedWords.{word_written}
use Rattle.net_sets.proofs.key.KeyedHasherHasher.write_u64.Goals as goal

pub returns : goal.returns
returns c = c.add.ensures ∙ word_written c.args.self.now c.args.word (search rules)
