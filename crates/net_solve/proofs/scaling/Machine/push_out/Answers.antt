use Rattle.std.proofs.Common.{◌≡◌, ◌+◌, ◌<◌, length, get_or, sym, subst, arith}
use Rattle.std.proofs.lemmas.List.{get_or_read}
use Rattle.net_solve.specs.Rows.{no_entry, entry_at, IsEntry}
use Rattle.net_solve.proofs.scaling.Machine.push_out.Goals as goal

pub index-requires : goal.index-requires
index-requires c =
    let rows = c.requires.rows in
    let starts = c.args.rows.now.starts in
    let within : c.args.node + 1 < length starts.items = omega (arith, c.requires.node, rows.starts_count) in
    let last : c.index-last.result.now ≡ get_or starts.items (c.args.node + 1) 0 = get_or_read starts.items _ _ within c.index-last.ensures 0 in
    let upto = rows.upto (c.args.node + 1) within in
    omega (arith, c.loop-place-test.true, last, upto)

pub push-requires-clause-index : goal.push-requires-clause-index
push-requires-clause-index c =
    let rows = c.requires.rows in
    let starts = c.args.rows.now.starts in
    let entries = c.args.rows.now.entries.items in
    let within : c.args.node + 1 < length starts.items = omega (arith, c.requires.node, rows.starts_count) in
    let last : c.index-last.result.now ≡ get_or starts.items (c.args.node + 1) 0 = get_or_read starts.items _ _ within c.index-last.ensures 0 in
    let inside : c.loop-place.place < length entries = let upto = rows.upto (c.args.node + 1) within in omega (arith, c.loop-place-test.true, last, upto) in
    let entry : c.index.result.now ≡ entry_at entries c.loop-place.place = get_or_read entries _ _ inside c.index.ensures no_entry in
    (subst (IsEntry c.args.problem.now) (sym entry) (rows.entries_are c.loop-place.place inside)).inside

pub loop-place-preserved : goal.loop-place-preserved
loop-place-preserved c = grind arith
