use Rattle.std.specs.Prelude.{◌≡◌, ◌++◌, ◌∷◌, []}
use Rattle.std.proofs.Common.{rules, arith}
use Rattle.std.proofs.lemmas.Grind.{common_steps}
use Rattle.net_tree.specs.View.{declaration_of}
use Rattle.net_bind.specs.Names.{declared}
use Rattle.net_bind.proofs.Fresh.{fresh, fresh_item, fresh_name_left, names_go_on}
use Rattle.net_bind.proofs.declared_names.declared.Goals as goal

pub add_declared-requires : goal.add_declared-requires
add_declared-requires c = fresh_item _ _ _ _ c.loop-decl.invariant.fresh c.loop-decl-test.true c.decl-item.is

pub loop-decl-preserved : goal.loop-decl-preserved
loop-decl-preserved c =
    let more : c.add_declared.new.are_sets ≡ c.loop-decl.are_sets ++ declared (declaration_of c.decl-item.result ∷ []) = search rules in
    record {
      goes_on = names_go_on _ _ _ _ _ _ c.loop-decl.invariant.goes_on c.loop-decl-test.true c.decl-item.is more;
      fresh = fresh_name_left _ _ _ _ _ c.loop-decl.invariant.fresh c.loop-decl-test.true c.decl-item.is more;
    }

pub loop-decl-init : goal.loop-decl-init
loop-decl-init c = grind (arith, common_steps, fresh)

pub returns : goal.returns
returns c = grind (arith, common_steps)

pub offset_bounds-decls-decl-index : goal.offset_bounds-decls-decl-index
offset_bounds-decls-decl-index c = grind (arith, common_steps)
