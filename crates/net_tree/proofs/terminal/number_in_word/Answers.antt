use Rattle.std.proofs.Common.{rules, sym, ap, ◌∙◌, Some}
use Rattle.std.proofs.lemmas.Int.{to_z-of_z}
use mir.Val.{SFits}
use mir.Syntax.{w64}
use Rattle.net_tree.proofs.Numerals.{value_is, fault_is}
use Rattle.net_tree.proofs.terminal.number_in_word.Goals as goal

pub returns-in-Ok : goal.returns-in-Ok
returns-in-Ok c = let fits : SFits w64 c.in-Ok.number = search rules in ap Some (to_z-of_z w64 c.in-Ok.number fits) ∙ sym (value_is _ _ c.in-Ok.ensures)

pub returns-in-Err : goal.returns-in-Err
returns-in-Err c = sym (fault_is _ _ c.in-Err.ensures)
