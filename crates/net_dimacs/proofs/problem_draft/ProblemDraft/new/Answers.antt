use Rattle.std.proofs.Common.{◌≡◌, List, ℕ, ℤ, pos, All, length, replicate, to_z, of_z, w64, nat_abs, rules, sym, ap, subst, arith}
use Rattle.std.proofs.lemmas.Grind.{common_steps}
use Rattle.std.proofs.lemmas.Int.{ints}
use Rattle.std.proofs.lemmas.List.{get_or-replicate, length-replicate}
use Rattle.net_normal.specs.Limits.{IsSized, flow_limit}
use Rattle.net_dimacs.proofs.problem_draft.ProblemDraft.new.Goals as goal

zeros-fit : (xs : List ℤ) (n : ℕ) → xs ≡ replicate n (pos 0) → All (IsSized flow_limit) xs
zeros-fit xs n e = subst (All (IsSized flow_limit)) (sym e) (λ k d l.
    let zero = get_or-replicate n k (pos 0) d (omega (arith, l, length-replicate n (pos 0))) in
    record { above = omega (arith, ints, zero); below = omega (arith, ints, zero) })

pub invariant_of-result : goal.invariant_of-result
invariant_of-result c =
    let zeros : c.in_ok-vec.field-0.items ≡ replicate (nat_abs (to_z w64 (of_z w64 c.args.nodes))) (pos 0) = search rules in
    record {
      some_node = omega (arith, ints, c.in_ok-vec.ensures.len);
      few_nodes = omega (arith, ints, c.in_ok-vec.ensures.len);
      marks = omega (arith, c.in_ok-vec.ensures.len, c.in_ok-vec-2.ensures.len);
      few_arcs = omega (arith, ints);
      arcs_so_far = omega (arith, c.in_ok-with_capacity.ensures.len);
      room = omega (arith, c.in_ok-with_capacity.ensures.capacity);
      supplies_fit = zeros-fit _ _ zeros;
      arcs_fit = λ k d l. absurd (omega (arith, l, ap length c.in_ok-with_capacity.ensures.items));
    }

pub overflow_cast-node_count : goal.overflow_cast-node_count
overflow_cast-node_count c = grind (arith, common_steps)

pub returns-in_err-vec-2 : goal.returns-in_err-vec-2
returns-in_err-vec-2 c = grind (arith, common_steps)

pub returns-then-nodes-lt1 : goal.returns-then-nodes-lt1
returns-then-nodes-lt1 c = grind (arith, common_steps)

pub returns-in_err-with_capacity : goal.returns-in_err-with_capacity
returns-in_err-with_capacity c = grind (arith, common_steps)

pub overflow_cast-arc_count : goal.overflow_cast-arc_count
overflow_cast-arc_count c = grind (arith, common_steps)
