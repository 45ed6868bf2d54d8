use Rattle.std.proofs.Common.{◌≡◌, ℕ, ◌+◌, ◌<◌, length, get_or, sym, ◌∙◌, ap, arith, vec_len}
use Rattle.std.proofs.lemmas.List.{get_or_read}
use Rattle.net_normal.specs.declared.problem.FlowArc.{FlowArc}
use Rattle.net_solve.specs.Pseudoflows.{no_arc, arc_at}
use Rattle.net_solve.specs.Runs.{tail_of}
use Rattle.net_solve.specs.Rows.{entry_at, no_entry}
use Rattle.net_solve.proofs.Stepping.{tail-inside}
use Rattle.net_solve.proofs.row_tests.is_listed.Goals as goal

pub returns : goal.returns
returns c = λ t.
    let problem = c.args.problem.now in
    let starts = c.args.rows.now.starts.items in
    let entries = c.args.rows.now.entries in
    let inside : c.args.index < length problem.arcs.items = omega (arith, c.requires.index, problem.arcs.ok.0) in
    let fits = problem.arcs_fit c.args.index no_arc inside in
    let arc : c.index.result.now ≡ arc_at problem c.args.index = get_or_read problem.arcs.items _ _ inside c.index.ensures no_arc in
    let tail : c.tail_of-tail.result ≡ tail_of (arc_at problem c.args.index) c.args.forwards = c.tail_of-tail.ensures ∙ ap (λ (a : FlowArc). tail_of a c.args.forwards) arc in
    let within : tail_of (arc_at problem c.args.index) c.args.forwards < vec_len problem.supplies = tail-inside (vec_len problem.supplies) (arc_at problem c.args.index) c.args.forwards fits.src fits.dst in
    let first : c.index-2.result.now ≡ get_or starts c.tail_of-tail.result 0 = get_or_read starts _ _ (omega (arith, tail, within, c.requires.starts, c.args.rows.now.starts.ok.0)) c.index-2.ensures 0 in
    let last : c.index-3.result.now ≡ get_or starts (c.tail_of-tail.result + 1) 0 = get_or_read starts _ _ (omega (arith, tail, within, c.requires.starts, c.args.rows.now.starts.ok.0)) c.index-3.ensures 0 in
    let entry : c.index-4.result.now ≡ entry_at entries.items c.args.place = get_or_read entries.items _ _ (omega (arith, c.if-place-len.false, c.len.ensures, entries.ok.0)) c.index-4.ensures no_entry in
    record {
      place = c.args.place;
      first = omega (arith, c.if-place-index.false, first, ap (λ (v : ℕ). get_or starts v 0) tail);
      last = omega (arith, c.if-place-index-2.false, last, ap (λ (v : ℕ). get_or starts (v + 1) 0) tail);
      is = sym entry ∙ c.are_same.ensures t ∙ c.entry_of-entry.ensures;
    }

pub index-requires-3 : goal.index-requires-3
index-requires-3 c = grind (arith)

pub returns-then-place-index : goal.returns-then-place-index
returns-then-place-index c = grind (arith)

pub returns-then-place-index-2 : goal.returns-then-place-index-2
returns-then-place-index-2 c = grind (arith)

pub returns-then-place-len : goal.returns-then-place-len
returns-then-place-len c = grind (arith)
