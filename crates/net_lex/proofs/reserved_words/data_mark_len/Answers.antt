use Rattle.std.proofs.Common.{arith}
use Rattle.std.proofs.lemmas.Grind.{common_steps}
use Rattle.net_lex.specs.Words.{data_mark_len}
use Rattle.net_lex.proofs.reserved_words.data_mark_len.Goals as goal

pub bounds-text-0-in_default-1 : goal.bounds-text-0-in_default-1
unfolding data_mark_len
bounds-text-0-in_default-1 c = grind (arith, common_steps)

pub bounds-text-0-in_default-4 : goal.bounds-text-0-in_default-4
unfolding data_mark_len
bounds-text-0-in_default-4 c = grind (arith, common_steps)

pub bounds-text-0-2 : goal.bounds-text-0-2
unfolding data_mark_len
bounds-text-0-2 c = grind (arith, common_steps)

pub bounds-text-1 : goal.bounds-text-1
unfolding data_mark_len
bounds-text-1 c = grind (arith, common_steps)

pub bounds-text-0-in_default-2 : goal.bounds-text-0-in_default-2
unfolding data_mark_len
bounds-text-0-in_default-2 c = grind (arith, common_steps)

pub bounds-text-0-in_default-text-2-2 : goal.bounds-text-0-in_default-text-2-2
unfolding data_mark_len
bounds-text-0-in_default-text-2-2 c = grind (arith, common_steps)

pub bounds-text-0-in_default-3 : goal.bounds-text-0-in_default-3
unfolding data_mark_len
bounds-text-0-in_default-3 c = grind (arith, common_steps)

pub returns-in-58 : goal.returns-in-58
unfolding data_mark_len
returns-in-58 c = grind (arith, common_steps)

pub bounds-text-0-in_default-text-2 : goal.bounds-text-0-in_default-text-2
unfolding data_mark_len
bounds-text-0-in_default-text-2 c = grind (arith, common_steps)

pub returns-in-59-4 : goal.returns-in-59-4
unfolding data_mark_len
returns-in-59-4 c = grind (arith, common_steps)

pub bounds-text-0 : goal.bounds-text-0
unfolding data_mark_len
bounds-text-0 c = grind (arith, common_steps)
