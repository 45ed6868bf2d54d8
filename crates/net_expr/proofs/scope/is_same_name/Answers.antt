use Rattle.std.proofs.Common.{ap, ◌∙◌}
use Rattle.std.specs.Str.{bytes_eq}
use Rattle.net_expr.proofs.Scoping.{other_length}
use Rattle.net_expr.proofs.scope.is_same_name.Goals as goal

pub returns-then-one-other : goal.returns-then-one-other
returns-then-one-other c =
    other_length c.as_bytes-one.result.now c.as_bytes-other.result.now c.if-one-other.true
    ∙ ap (λ k. bytes_eq k c.as_bytes-other.result.now) (c.as_bytes-one.ensures.value ∙ c.as_str.ensures)
    ∙ ap (bytes_eq c.args.one.now) (c.as_bytes-other.ensures.value ∙ c.as_str-2.ensures)
