use Rattle.std.proofs.Common.{◌≡◌, None, Some, sym, ◌∙◌}
use Rattle.net_sets.specs.Sets.{place_of}
use Rattle.net_sets.proofs.TableRows.{member_at, no_member}
use Rattle.net_sets.proofs.table.member_of.Goals as goal

pub returns-in-None : goal.returns-in-None
returns-in-None c =
    let at : place_of c.args.known.now c.args.key.now ≡ None = sym c.position_with_hint.ensures ∙ c.in-None.is in
    no_member c.args.known.now c.args.rows.now c.args.key.now c.requires at

pub returns-in-Some : goal.returns-in-Some
returns-in-Some c =
    let at : place_of c.args.known.now c.args.key.now ≡ Some c.in-Some.position = sym c.position_with_hint.ensures ∙ c.in-Some.is in
    c.get.ensures ∙ member_at c.args.known.now c.args.rows.now c.args.key.now c.in-Some.position c.requires at
