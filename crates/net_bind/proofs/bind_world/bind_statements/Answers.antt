use Rattle.std.proofs.Common.{rules, ◌≡◌, Ok, map}
use Rattle.net_tree.specs.View.{declaration_of}
use Rattle.net_bind.specs.Binding.{with_given}
use Rattle.net_bind.specs.DataByName.{data_by_name}
use Rattle.net_bind.specs.Names.{declared}
use Rattle.net_base.specs.Outcomes.{Refines}
use Rattle.net_bind.proofs.Fresh.{said_first}
use Rattle.net_bind.proofs.bind_world.bind_statements.Goals as goal

pub returns : goal.returns
returns c =
    let names : c.in_ok-names.names ≡ declared (map declaration_of c.args.decls.now) = search rules in
    let given : data_by_name c.in_ok-names.names c.args.statements.now ≡ Ok c.in_ok-given.given = search rules in
    let answer : Refines (with_given (map declaration_of c.args.decls.now) c.in_ok-given.given) c.bind_given.result = rw c.as_slice.ensures at c.bind_given.ensures in
    said_first (map declaration_of c.args.decls.now) c.args.statements.now c.in_ok-names.names c.in_ok-given.given c.bind_given.result names given answer
