use Rattle.std.proofs.Common.{◌≡◌, ◌≤◌, ◌+◌, ◌*◌, ◌++◌, drop, length}
use Rattle.arrayvec.specs.ArrayVec.{array_vec_len}
use Rattle.net_dimacs.specs.Written.{row}
use Rattle.net_dimacs.proofs.written_line.line_of.Given as goal

abbrev pub invariant-loop-number : goal.invariant-loop-number
invariant-loop-number l =
    record {
      text : l.line.items ++ row (drop l.number-index l.numbers) ≡ l.kind ++ row l.numbers;
      few : array_vec_len l.line ≤ length l.kind + 41 * l.number-index;
    }
