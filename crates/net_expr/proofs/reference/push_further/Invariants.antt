use Rattle.std.proofs.Common.{◌≡◌, ◌++◌, drop, string_bytes}
use Rattle.net_expr.specs.References.{further_text}
use Rattle.net_expr.proofs.reference.push_further.Given as goal

abbrev pub invariant-loop-member : goal.invariant-loop-member
invariant-loop-member l = string_bytes l.out ++ further_text (drop l.member-index l.members) ≡ string_bytes l.fn.out ++ further_text l.members
