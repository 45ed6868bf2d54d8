use Rattle.std.proofs.Common.{length, ap, arith}
use Rattle.net_linear.proofs.Storage.{long}
use Rattle.net_linear.proofs.coefficient_list.Coefficients.len.Goals as goal

pub returns : goal.returns
returns c =
    let inside = c.self.inside in
    omega (arith, c.len-run.ensures, inside.run.ok.0, c.len-others.ensures.len, long inside.first inside.run.items inside.others.entries, ap length c.self.view_is)

pub overflow_add-result : goal.overflow_add-result
overflow_add-result c = omega (arith, c.len-run.ensures, c.self.inside.run.ok.1, c.self.inside.run.small, c.len-others.ensures.small)
