use Rattle.std.proofs.Common.{◌≡◌, ◌<◌, ◌<ℤ◌, ◌≤ℤ◌, ◌∙◌, ℕ, ℤ, List, Bool, true, length, get_or, replicate, pos, FitsSigned, to_z, of_z, vec_len, refl, rules, ap, sym, subst, arith}
use Rattle.std.proofs.lemmas.Grind.{common_steps}
use Rattle.std.specs.Int.{w128}
use Rattle.std.proofs.lemmas.Int.{to_z-of_z}
use Rattle.net_normal.specs.Flows.{cost_of}
use Rattle.net_check.specs.Certificates.{IsViolatedCut}
use Rattle.net_check.specs.declared.certificate.Side.TheVariants.{Under}
use Rattle.net_solve.proofs.Stopping.{under-cut, optimal}
use Rattle.net_solve.proofs.primal_dual.settled.Goals as goal

pub returns-then-has_deficit-clause-certificate : goal.returns-then-has_deficit-clause-certificate
returns-then-has_deficit-clause-certificate c =
    let problem = c.args.problem.now in
    let excess = c.args.state.excess.items in
    let some = c.if-has_deficit.ensures.some refl in
    let flags : c.in_ok-flags.flags.items ≡ replicate c.len.result true = search rules in
    let all : c.in_ok-flags.flags.items ≡ replicate (vec_len problem.supplies) true = flags ∙ ap (λ (n : ℕ). replicate n true) c.len.ensures in
    let low = subst (λ (xs : List ℤ). get_or xs some.0 (pos 0) <ℤ pos 0) c.deref.ensures.value some.2 in
    let inside : some.0 < vec_len problem.supplies = omega (arith, some.1, ap length c.deref.ensures.value, c.requires.under_way.excess_count) in
    subst (λ (f : List Bool). IsViolatedCut problem f Under) (sym all) (under-cut problem c.args.state.flows.items c.args.state.potentials.items excess some.0 c.requires.under_way c.requires.no_excess inside low)

pub returns-clause-certificate : goal.returns-clause-certificate
returns-clause-certificate c =
    let problem = c.args.problem.now in
    let excess = c.args.state.excess.items in
    let flows = c.args.state.flows.items in
    let least = subst (λ (xs : List ℤ). (v : ℕ) → v < length xs → pos 0 ≤ℤ get_or xs v (pos 0)) c.deref.ensures.value (c.if-has_deficit.ensures.none refl) in
    let fits : FitsSigned w128 c.cost-value.result = search rules in
    let value : to_z w128 (of_z w128 c.cost-value.result) ≡ cost_of problem flows = to_z-of_z w128 c.cost-value.result fits ∙ c.cost-value.ensures ∙ ap (cost_of problem) c.deref-2.ensures.value in
    optimal problem _ flows c.args.state.potentials.items excess c.requires.under_way c.requires.no_excess (λ v l. least v (omega (arith, l, c.requires.under_way.excess_count))) value

pub cost-value-requires : goal.cost-value-requires
cost-value-requires c = grind (arith, common_steps)

pub returns-then-has_deficit-clause-same : goal.returns-then-has_deficit-clause-same
returns-then-has_deficit-clause-same c = grind (arith, common_steps)
