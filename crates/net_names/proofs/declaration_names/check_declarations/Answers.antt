use Rattle.std.proofs.Common.{ap, ◌∙◌, ◌+◌, drop, map, arith}
use Rattle.std.proofs.lemmas.Grind.{common_steps}
use Rattle.std.proofs.lemmas.Result.{err_from_is_err_and}
use Rattle.net_tree.specs.View.{declaration_of}
use Rattle.net_names.specs.Names.{names_fault}
use Rattle.net_names.proofs.Walking.{after_none, stops_first}
use Rattle.net_names.proofs.Declaring.{declarations_left}
use Rattle.net_names.proofs.declaration_names.check_declarations.Goals as goal

pub returns-in_err-check_declaration : goal.returns-in_err-check_declaration
returns-in_err-check_declaration c =
    let y = err_from_is_err_and c.from_residual.result c.from_residual.ensures.1 in
    rw y.1 (rw y.2
    (stops_first _ _ (names_fault c.args.scope.now (map declaration_of c.args.declarations.now)) c.in_err-check_declaration.field-0.0
    (declarations_left c.loop-declaration.scope c.args.declarations.now c.loop-declaration.declaration-index c.declaration-item.result _ c.loop-declaration-test.true c.declaration-item.is c.loop-declaration.invariant)
    c.in_err-check_declaration.ensures.value))

pub loop-declaration-preserved : goal.loop-declaration-preserved
loop-declaration-preserved c =
    ap (λ s. names_fault s (map declaration_of (drop (c.loop-declaration.declaration-index + 1) c.args.declarations.now))) c.in_ok-check_declaration.ensures.grown
    ∙ after_none _ _ (names_fault c.args.scope.now (map declaration_of c.args.declarations.now))
    (declarations_left c.loop-declaration.scope c.args.declarations.now c.loop-declaration.declaration-index c.declaration-item.result _ c.loop-declaration-test.true c.declaration-item.is c.loop-declaration.invariant)
    c.in_ok-check_declaration.ensures.value

pub offset_bounds-declarations-declaration-index : goal.offset_bounds-declarations-declaration-index
offset_bounds-declarations-declaration-index c = grind (arith, common_steps)

pub returns : goal.returns
returns c = grind (arith, common_steps)
