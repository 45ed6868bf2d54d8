use Rattle.std.proofs.Common.{rules, refl, arith}
use Rattle.std.proofs.lemmas.Grind.{common_steps}
use Rattle.net_normal.specs.Limits.{value_limit}
use Rattle.net_normal.proofs.instance.is_arc.Goals as goal

pub returns : goal.returns
returns c = (
  λ within. record {
    lower = (c.is_sized.ensures value_limit refl).0 (search rules);
    upper = (c.is_sized-else-not-is_sized.ensures value_limit refl).0 (search rules);
    ordered = search rules;
    coefficient = (c.is_sized-2.ensures value_limit refl).0 (search rules);
    tail = search rules;
    head = c.is_among-2.ensures.0 within;
    an_end = search rules;
  },
  λ fits. c.is_among-2.ensures.1 fits.head,
)

pub returns-then-not-is_sized : goal.returns-then-not-is_sized
returns-then-not-is_sized c = grind (arith, common_steps)

pub returns-then-not-is_sized-3 : goal.returns-then-not-is_sized-3
returns-then-not-is_sized-3 c = grind (arith, common_steps)

pub returns-then-not-has_end : goal.returns-then-not-has_end
returns-then-not-has_end c = grind (arith, common_steps)
