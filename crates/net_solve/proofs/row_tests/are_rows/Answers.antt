use Rattle.std.proofs.Common.{ℕ, ◌<◌, ◌≤◌, List, length, get_or, subst, arith}
use Rattle.net_solve.specs.declared.rows.Entry.{Entry}
use Rattle.net_solve.specs.Rows.{entry_at, IsEntry}
use Rattle.net_solve.proofs.Scans.{both-listed}
use Rattle.std.proofs.lemmas.Grind.{common_steps}
use Rattle.net_solve.proofs.row_tests.are_rows.Goals as goal

pub returns : goal.returns
returns c = λ t.
    let problem = c.args.problem.now in
    let starts = c.args.rows.now.starts in
    let entries = c.args.rows.now.entries in
    let within = c.are_within.ensures c.if-not-are_within.false in
    let each = c.are_entries.ensures c.if-not-are_entries.false in
    record {
      starts_count = omega (arith, c.if-len.false, c.len.ensures, c.len-2.ensures, starts.ok.0);
      upto = subst (λ (xs : List ℕ). (v : ℕ) → v < length xs → get_or xs v 0 ≤ length entries.items) c.deref.ensures.value (λ v l. let h = within v l in omega (arith, h, c.len-3.ensures, entries.ok.0));
      entries_are = subst (λ (es : List Entry). (p : ℕ) → p < length es → IsEntry problem (entry_at es p)) c.deref-2.ensures.value each;
      listed = both-listed problem starts.items entries.items (c.are_listed.ensures c.if-not-are_listed.false) (c.are_listed-2.ensures t);
    }

pub returns-then-not-are_entries : goal.returns-then-not-are_entries
returns-then-not-are_entries c = grind (arith, common_steps)

pub returns-then-not-are_listed : goal.returns-then-not-are_listed
returns-then-not-are_listed c = grind (arith, common_steps)
