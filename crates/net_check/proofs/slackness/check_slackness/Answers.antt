use Rattle.std.proofs.Common.{◌≡◌, ◌+◌, ◌-◌, ℕ, sym, subst, arith, below_more}
use Rattle.std.proofs.lemmas.Grind.{common_steps}
use Rattle.net_check.specs.Certificates.{IsComplementary}
use Rattle.net_check.specs.FirstFaults.{ArcKeeps, IsSlack}
use Rattle.net_check.specs.declared.checker.Reason.{Reason}
use Rattle.net_check.proofs.Pairs.{keeps-here, keeps-all}
use Rattle.net_check.proofs.slackness.check_slackness.Goals as goal

pub returns-in-Some-clause-reason : goal.returns-in-Some-clause-reason
returns-in-Some-clause-reason c reason number e =
    let potentials = c.args.potentials.now in
    let same : c.in-Some.reason ≡ reason = cc in
    let at : number ≡ c.loop-index.index + 1 = cc in
    let here : number - 1 ≡ c.loop-index.index = omega (arith, at) in
    let Here : ℕ → Reason → Type 0 = λ i r. ArcKeeps (λ arc flow. IsSlack potentials arc flow r) c.args.arcs.now c.args.flows.now i in
    subst (λ (i : ℕ). Here i reason) (sym here) (subst (Here c.loop-index.index) same
    (keeps-here (λ arc flow. IsSlack potentials arc flow c.in-Some.reason) c.args.arcs.now c.args.flows.now c.loop-index.index _ _ c.in-Some.ensures.some))

pub loop-index-preserved : goal.loop-index-preserved
loop-index-preserved c =
    below_more (ArcKeeps (IsComplementary c.args.potentials.now) c.args.arcs.now c.args.flows.now) c.loop-index.index c.loop-index.invariant
    (keeps-here (IsComplementary c.args.potentials.now) c.args.arcs.now c.args.flows.now c.loop-index.index _ _ c.in_default.ensures.none)

pub returns-clause-yes : goal.returns-clause-yes
returns-clause-yes c e = keeps-all (IsComplementary c.args.potentials.now) c.args.arcs.now c.args.flows.now c.requires.one_each (λ k l. c.loop-index.invariant k (omega arith))

pub returns-in-Some-clause-yes : goal.returns-in-Some-clause-yes
returns-in-Some-clause-yes c = grind (arith, common_steps)

pub returns-clause-no : goal.returns-clause-no
returns-clause-no c = grind (arith, common_steps)

pub returns-clause-reason : goal.returns-clause-reason
returns-clause-reason c = grind (arith, common_steps)
