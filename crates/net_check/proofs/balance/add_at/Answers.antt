use Rattle.std.proofs.Common.{◌≡◌, ◌+◌, ◌-◌, ◌%◌, ℕ, ℤ, List, get_or, pos, arith}
use Rattle.std.proofs.lemmas.Grind.{common_steps}
use Rattle.net_check.proofs.Balances.{added_at, place_found, sum_fits}
use Rattle.net_check.proofs.balance.add_at.Goals as goal

pub returns-then-place-clause-value : goal.returns-then-place-clause-value
returns-then-place-clause-value g c =
    let place : ℕ = (c.args.node + (18446744073709551616 - c.args.first)) % 18446744073709551616 in
    let balances : List ℤ = c.args.balances.now in
    let found : c.args.node ≡ c.args.first + place = place_found c.args.node c.args.first g.row.N (omega arith) c.requires.first c.requires.few c.if-place.true in
    added_at balances g.row.N c.args.first c.args.node place c.args.amount _ (omega arith) c.if-place.true found
    (sum_fits (get_or balances place (pos 0)) c.wide.result c.args.amount (c.requires.size place c.if-place.true) c.requires.amount c.wide.ensures.value)

pub returns-else-place-clause-value : goal.returns-else-place-clause-value
returns-else-place-clause-value g c = grind (arith, common_steps)

pub returns-then-place-clause-len : goal.returns-then-place-clause-len
returns-then-place-clause-len g c = grind (arith, common_steps)

pub overflow_add-balances : goal.overflow_add-balances
overflow_add-balances g c = grind (arith, common_steps)
