use Rattle.std.specs.Prelude.{◌∷◌, [], Some, slice_get}
use Rattle.std.proofs.Common.{ap, sym, ◌∙◌, arith}
use Rattle.std.proofs.lemmas.Grind.{common_steps}
use Rattle.net_sets.specs.declared.member.Member.TheVariants.{Number}
use Rattle.net_sets.proofs.Running.{run_there, run_past}
use Rattle.net_sets.proofs.number_run.NumberRun.number.Goals as goal

pub returns-then-position-self : goal.returns-then-position-self
returns-then-position-self c =
    ap (λ ts. slice_get ts c.args.position) (sym c.self.view_is)
    ∙ (run_there c.self.inside.first c.self.inside.count c.args.position c.if-position-self.true
    ∙ ap (λ x. Some (Number x ∷ [])) (grind (arith, common_steps)))

pub returns-else-position-self : goal.returns-else-position-self
returns-else-position-self c =
    ap (λ ts. slice_get ts c.args.position) (sym c.self.view_is) ∙ run_past c.self.inside.first c.self.inside.count c.args.position c.if-position-self.false
