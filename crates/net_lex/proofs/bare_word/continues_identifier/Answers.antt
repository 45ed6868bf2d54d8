use Rattle.std.proofs.Common.{◌<◌, arith}
use Rattle.std.proofs.lemmas.Grind.{common_steps}
use Rattle.unicode_ident.proofs.IdentLemmas.{is_xid_continue-ascii}
use Rattle.net_lex.proofs.bare_word.continues_identifier.Goals as goal

pub returns-then-is_ascii_alphanumeric : goal.returns-then-is_ascii_alphanumeric
returns-then-is_ascii_alphanumeric c =
    let small : c.args.c < 128 = grind (arith, common_steps) in
    let ascii = is_xid_continue-ascii c.args.c small in
    grind (arith, common_steps)

pub returns-else-is_ascii_alphanumeric : goal.returns-else-is_ascii_alphanumeric
returns-else-is_ascii_alphanumeric c =
    let small : c.args.c < 128 = grind (arith, common_steps) in
    let ascii = is_xid_continue-ascii c.args.c small in
    grind (arith, common_steps)
