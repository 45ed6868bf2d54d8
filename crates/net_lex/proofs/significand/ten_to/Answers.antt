use Rattle.std.proofs.Common.{arith}
use Rattle.net_lex.proofs.Tens.{ten_small}
use Rattle.net_lex.proofs.significand.ten_to.Goals as goal

pub returns-clause-small : goal.returns-clause-small
returns-clause-small c = omega (arith, ten_small c.args.power c.requires, c.pow.ensures)
