use Rattle.std.proofs.Common.{rules, ◌≡◌, Ok, arith}
use Rattle.std.proofs.lemmas.Grind.{common_steps}
use Rattle.net_tree.specs.View.{declaration_of}
use Rattle.net_bind.specs.Binding as binding
use Rattle.net_bind.proofs.Fresh.{fresh_item, fresh_left, goes_on, fresh}
use Rattle.net_bind.proofs.bind_world.declare_all.Goals as goal

pub declare-requires-clause-fresh : goal.declare-requires-clause-fresh
declare-requires-clause-fresh c = fresh_item _ _ _ _ c.loop-decl.invariant.fresh c.loop-decl-test.true c.decl-item.is

pub loop-decl-preserved : goal.loop-decl-preserved
loop-decl-preserved c =
    let done : binding.declare c.args.given.now (declaration_of c.decl-item.result) c.loop-decl.world ≡ Ok c.declare.new.world = search rules in
    record {
      goes_on = goes_on _ _ _ _ _ _ _ c.loop-decl.invariant.goes_on c.loop-decl-test.true c.decl-item.is done;
      kept = search rules;
      fresh = fresh_left _ _ _ _ _ _ c.loop-decl.invariant.fresh c.loop-decl-test.true c.decl-item.is done;
    }

pub offset_bounds-decls-decl-index : goal.offset_bounds-decls-decl-index
offset_bounds-decls-decl-index c = grind (arith, common_steps, fresh)

pub returns-in_err-declare : goal.returns-in_err-declare
returns-in_err-declare c = grind (arith, common_steps, fresh)

pub returns : goal.returns
returns c = grind (arith, common_steps, fresh)

pub declare-requires-clause-kept : goal.declare-requires-clause-kept
declare-requires-clause-kept c = grind (arith, common_steps, fresh)

pub loop-decl-init : goal.loop-decl-init
loop-decl-init c = grind (arith, common_steps, fresh)
