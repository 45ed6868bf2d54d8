use Rattle.std.specs.Prelude.{◌≡◌, ◌+ℤ◌, pos, ◌∷◌, []}
use Rattle.std.proofs.Common.{ap, sym, ◌∙◌, arith}
use Rattle.std.proofs.lemmas.Grind.{common_steps}
use Rattle.net_sets.specs.declared.member.Member.TheVariants.{Number}
use Rattle.net_sets.specs.Sets.{has}
use Rattle.net_sets.proofs.Running.{run_next, not_there}
use Rattle.net_sets.proofs.number_run.NumberRun.append.Goals as goal

pub returns-clause-next : goal.returns-clause-next
returns-clause-next c = λ _.
    let there : c.args.number ≡ c.self.inside.first +ℤ pos c.self.inside.count = grind (arith, common_steps) in
    run_next c.self.inside.first c.self.inside.count c.args.number there c.args.self.now (sym c.self.view_is)

pub returns-clause-fresh : goal.returns-clause-fresh
returns-clause-fresh c = λ _.
    let there : c.args.number ≡ c.self.inside.first +ℤ pos c.self.inside.count = grind (arith, common_steps) in
    ap (λ ts. has ts (Number c.args.number ∷ [])) (sym c.self.view_is) ∙ not_there c.self.inside.first c.self.inside.count c.args.number there
