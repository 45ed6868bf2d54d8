use Rattle.std.specs.Prelude.{◌≡◌, ◌+ℤ◌, pos, ◌∷◌, []}
use Rattle.std.proofs.Common.{ap, ◌∙◌, arith}
use Rattle.std.proofs.lemmas.Grind.{common_steps}
use Rattle.net_sets.specs.declared.member.Member.TheVariants.{Number}
use Rattle.net_sets.specs.Sets.{place_of}
use Rattle.net_sets.proofs.Running.{placed, missing}
use Rattle.net_sets.proofs.number_run.NumberRun.position.Goals as goal

pub returns-then-number-self : goal.returns-then-number-self
returns-then-number-self c =
    missing c.self.inside.first c.self.inside.count c.args.number (λ k h e. grind (arith, common_steps)) ∙ ap (λ ts. place_of ts (Number c.args.number ∷ [])) c.self.view_is

pub returns-then-distance-self : goal.returns-then-distance-self
returns-then-distance-self c =
    let there : c.args.number ≡ c.self.inside.first +ℤ pos c.abs_diff-distance.result = grind (arith, common_steps) in
    placed c.self.inside.first c.self.inside.count c.abs_diff-distance.result c.args.number there c.if-distance-self.true ∙ ap (λ ts. place_of ts (Number c.args.number ∷ [])) c.self.view_is

pub returns-else-distance-self : goal.returns-else-distance-self
returns-else-distance-self c =
    missing c.self.inside.first c.self.inside.count c.args.number (λ k h e. grind (arith, common_steps)) ∙ ap (λ ts. place_of ts (Number c.args.number ∷ [])) c.self.view_is
