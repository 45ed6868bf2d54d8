use Rattle.net_tree.proofs.Numerals.{numerals_have_numbers}
use Rattle.net_tree.proofs.terminal.numerals_have_numbers.Goals as goal

pub returns : goal.returns
returns c = record { value = numerals_have_numbers }
