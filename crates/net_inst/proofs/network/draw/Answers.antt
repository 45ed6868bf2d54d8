use Rattle.std.proofs.Common.{sym, arith}
use Rattle.std.proofs.lemmas.Grind.{common_steps}
use Rattle.std.proofs.lemmas.Result.{err_from_is_err_and}
use Rattle.std.specs.Prelude.{option_copied}
use Rattle.net_inst.proofs.Steps.{goes, halts, step_up, draw-left}
use Rattle.net_inst.proofs.network.draw.Goals as goal

pub returns-in_err-declare : goal.returns-in_err-declare
returns-in_err-declare c =
    let y = err_from_is_err_and c.from_residual.result c.from_residual.ensures.1 in
    rw y.1 (rw y.2
    (halts _ _ _ c.in_err-declare.field-0.0 _ _
    (draw-left (option_copied c.args.wanted.now) c.args.world.now c.args.declarations.now c.loop-declaration.declaration-index c.declaration-item.result c.loop-declaration.draft _ c.loop-declaration-test.true c.declaration-item.is c.loop-declaration.invariant.0)
    c.in_err-declare.ensures.value))

pub loop-declaration-preserved : goal.loop-declaration-preserved
loop-declaration-preserved c = (
  sym (goes _ _ _ _
      (draw-left (option_copied c.args.wanted.now) c.args.world.now c.args.declarations.now c.loop-declaration.declaration-index c.declaration-item.result c.loop-declaration.draft _ c.loop-declaration-test.true c.declaration-item.is c.loop-declaration.invariant.0)
      c.in_ok-declare.ensures.value),
  step_up _ _ _ c.loop-declaration.invariant.1 c.in_ok-declare.ensures.known,
)

pub declare-requires : goal.declare-requires
declare-requires c = grind (arith, common_steps)

pub loop-declaration-init : goal.loop-declaration-init
loop-declaration-init c = grind (arith, common_steps)

pub returns : goal.returns
returns c = grind (arith, common_steps)

pub offset_bounds-declarations-declaration-index : goal.offset_bounds-declarations-declaration-index
offset_bounds-declarations-declaration-index c = grind (arith, common_steps)
