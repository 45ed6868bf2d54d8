use Rattle.std.proofs.Common.{◌≡◌, ◌≤◌, ◌++◌, ◌∷◌, [], List, ℕ, Bool, false, length, replicate, ap, ◌∙◌, arith}
use Rattle.net_dimacs.proofs.Sizes.{one_more_absent, all_counted}
use Rattle.net_dimacs.proofs.certificate_draft.with_absent.Goals as goal

pub loop-preserved : goal.loop-preserved
loop-preserved c =
    let low = c.loop.invariant.0 in (
      omega arith,
      c.in_ok-push.ensures.items
          ∙ ap (λ (xs : List Bool). xs ++ false ∷ []) c.loop.invariant.1
          ∙ one_more_absent c.args.flags.items (length c.args.flags.items) c.loop.counter low,
      λ h. absurd (omega arith),
    )

pub returns : goal.returns
returns c =
    let size = length c.args.flags.items in
    let same : c.len-counter.result ≡ size = omega (arith, c.len-counter.ensures, c.args.flags.ok.0) in
    let count = all_counted size c.args.nodes c.loop.counter c.loop.invariant.0 c.loop-test.false c.loop.invariant.2 (λ (h : size ≤ c.args.nodes). c.loop.auto.counter-end (omega arith)) in
    c.loop.invariant.1 ∙ ap (λ (m : ℕ). c.args.flags.items ++ replicate m false) count
