use Rattle.std.specs.Prelude.{◌&&◌, ◌≤◌, length}
use Rattle.std.proofs.Common.{refl, ap, sym, ◌∙◌, subst, arith}
use Rattle.std.proofs.lemmas.Grind.{common_steps}
use Rattle.net_sets.specs.Limits.{arity_limit}
use Rattle.net_sets.specs.Sets.{has}
use Rattle.net_bind.specs.Supersets.{crossed_by, AreParted}
use Rattle.net_bind.proofs.Products.{parted_before, has_last}
use Rattle.net_bind.proofs.superset.+has_members.Goals as goal

pub has_members-requires : goal.has_members-requires
has_members-requires t c =
    let e = c.in-Some.ensures.cases in
    let parted = (parted_before c.args.first.now c.in-Some.before.now c.in-Some.last.now (subst (AreParted c.args.first.now) e.0 c.requires.parted)).0 in
    let few : length c.split_at.result.0.now ≤ arity_limit = omega (arith, c.requires.few, c.split_at.ensures.front_len, c.split_at.ensures.back_len, c.min.ensures) in
    (omega (arith, e.1), (parted, few))

pub returns-then-contains : goal.returns-then-contains
returns-then-contains t c =
    c.has_members.ensures
    ∙ ap (λ b. b && has (crossed_by c.args.first.now c.in-Some.before.now) c.split_at.result.0.now) (sym c.if-contains.true ∙ c.contains-in-Some.ensures ∙ ap (λ ts. has ts c.of_members-in-Some.result) c.get.ensures ∙ ap (has c.in-Some.last.now.set) c.of_members-in-Some.ensures)
    ∙ has_last c.args.first.now c.in-Some.before.now c.in-Some.last.now c.args.more.now c.args.members.now c.split_at.result.0.now c.split_at.result.1.now c.min.result c.requires.parted c.in-Some.ensures.cases.0 c.min.ensures c.split_at.ensures.front c.split_at.ensures.back

pub returns-else-contains : goal.returns-else-contains
returns-else-contains t c =
    c.if-contains.false
    ∙ ap (λ b. b && has (crossed_by c.args.first.now c.in-Some.before.now) c.split_at.result.0.now) (sym c.if-contains.false ∙ c.contains-in-Some.ensures ∙ ap (λ ts. has ts c.of_members-in-Some.result) c.get.ensures ∙ ap (has c.in-Some.last.now.set) c.of_members-in-Some.ensures)
    ∙ has_last c.args.first.now c.in-Some.before.now c.in-Some.last.now c.args.more.now c.args.members.now c.split_at.result.0.now c.split_at.result.1.now c.min.result c.requires.parted c.in-Some.ensures.cases.0 c.min.ensures c.split_at.ensures.front c.split_at.ensures.back
