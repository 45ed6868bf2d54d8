use Rattle.net_report.proofs.WrittenNames.{IsPlainTo}
use Rattle.net_report.proofs.written_name.is_plain.Given as goal

abbrev pub invariant-loop-byte : goal.invariant-loop-byte
invariant-loop-byte l = IsPlainTo l.bytes l.byte-index
