use Rattle.std.proofs.Common.{arith}
use Rattle.std.proofs.lemmas.Grind.{common_steps}
use Rattle.net_bind.proofs.check.all_checked.Goals as goal

pub loop-decl-preserved : goal.loop-decl-preserved
loop-decl-preserved c = grind (arith, common_steps)

pub loop-decl-init : goal.loop-decl-init
loop-decl-init c = grind (arith, common_steps)

pub returns : goal.returns
returns c = grind (arith, common_steps)

pub check_one-requires : goal.check_one-requires
check_one-requires c = grind (arith, common_steps)

pub returns-in_err-known : goal.returns-in_err-known
returns-in_err-known c = grind (arith, common_steps)

pub offset_bounds-decls-decl-index : goal.offset_bounds-decls-decl-index
offset_bounds-decls-decl-index c = grind (arith, common_steps)
