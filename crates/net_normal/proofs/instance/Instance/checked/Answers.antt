use Rattle.std.proofs.Common.{IsTrue, All, List, arith, rules, refl, subst, ℕ, vec_len}
use Rattle.std.proofs.lemmas.Grind.{common_steps}
use Rattle.net_normal.specs.Limits.{IsArcOf, value_limit}
use Rattle.net_normal.specs.declared.instance.InstArc.{InstArc}
use Rattle.net_normal.proofs.instance.Instance.checked.Goals as goal

pub invariant_of-result : goal.invariant_of-result
invariant_of-result c =
    let passed : IsTrue c.are_arcs.result = search rules in
    let sized : IsTrue c.is_sized.result = search rules in
    let fit : All (IsArcOf c.len-else-not-is_sized.result) c.deref.result.now = c.are_arcs.ensures.0 passed in
    let same : All (IsArcOf (vec_len c.args.nodes)) c.deref.result.now = subst (λ (n : ℕ). All (IsArcOf n) c.deref.result.now) c.len-else-not-is_sized.ensures fit in
    record {
      few_nodes = omega arith;
      few_arcs = omega arith;
      arcs_fit = subst (λ (l : List InstArc). All (IsArcOf (vec_len c.args.nodes)) l) c.deref.ensures.value same;
      constant_fits = (c.is_sized.ensures value_limit refl).0 sized;
    }

pub returns-clause-some : goal.returns-clause-some
returns-clause-some c = grind (arith, common_steps)

pub returns-then-len-gt-NODE_LIMIT-clause-some : goal.returns-then-len-gt-NODE_LIMIT-clause-some
returns-then-len-gt-NODE_LIMIT-clause-some c = grind (arith, common_steps)

pub returns-clause-lists : goal.returns-clause-lists
returns-clause-lists c = grind (arith, common_steps)

pub returns-then-not-is_sized-clause-some : goal.returns-then-not-is_sized-clause-some
returns-then-not-is_sized-clause-some c = grind (arith, common_steps)
