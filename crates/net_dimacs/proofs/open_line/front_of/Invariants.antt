use Rattle.std.proofs.Common.{◌≤◌, ◌*◌}
use Rattle.arrayvec.specs.ArrayVec.{array_vec_len}
use Rattle.net_dimacs.specs.Lines.{is_feed, HasNone}
use Rattle.net_dimacs.proofs.OpenFronts.{IsCutFront}
use Rattle.net_dimacs.proofs.open_line.front_of.Given as goal

abbrev pub invariant-loop : goal.invariant-loop
invariant-loop l =
    record {
      few : array_vec_len l.front ≤ 22 * l.counter;
      kept : HasNone is_feed l.front.items;
      left : HasNone is_feed l.rest;
      cut : IsCutFront l.line l.front.items l.rest l.counter;
    }
