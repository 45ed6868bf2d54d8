use Rattle.std.proofs.Common.{◌≤◌, length, ap, arith}
use Rattle.std.proofs.lemmas.Grind.{common_steps}
use Rattle.std.proofs.lemmas.Result.{IfOk-weaker}
use Rattle.net_normal.specs.Limits.{arc_limit}
use Rattle.net_inst.proofs.Pricing.{priced-few}
use Rattle.net_inst.proofs.arc_draft.ArcDraft.priced.Goals as goal

pub returns-clause-few : goal.returns-clause-few
returns-clause-few c =
    let few : length c.as_slice.result.now ≤ arc_limit = omega (arith, ap length c.as_slice.ensures.value, c.self.invariant) in
    IfOk-weaker c.priced.result _ _ (λ all h. priced-few arc_limit _ 0 c.as_slice.result.now all.items h few) c.priced.ensures.value

pub returns-clause-value : goal.returns-clause-value
returns-clause-value c = grind (arith, common_steps)
