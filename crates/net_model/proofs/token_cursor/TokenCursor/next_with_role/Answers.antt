use Rattle.std.proofs.Common.{◌≡◌, Some, arith}
use Rattle.std.proofs.lemmas.Grind.{common_steps}
use Rattle.net_model.specs.Reading.{first_role}
use Rattle.net_model.proofs.Roles.{some_within, role_first}
use Rattle.net_model.proofs.token_cursor.TokenCursor.next_with_role.Goals as goal

pub returns-in-Some : goal.returns-in-Some
returns-in-Some c =
    let kept : first_role c.args.self.now ≡ Some c.in-Some.role = grind (arith) in
    role_first c.args.self.now _ c.copied-token.result c.in-Some.role kept (grind (arith, common_steps, some_within))
