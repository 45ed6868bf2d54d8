use Rattle.std.proofs.Common.{◌<◌, length, arith}
use Rattle.std.proofs.lemmas.Grind.{common_steps}
use Rattle.net_lex.proofs.StringLemmas.{string_end-drop, string_end-nil}
use Rattle.net_lex.proofs.string.string_end.Goals as goal

pub returns-in-None-clause-value : goal.returns-in-None-clause-value
returns-in-None-clause-value c =
    let within : c.loop-at.at < length c.args.inside.now = omega arith in
    let step = string_end-drop c.args.delimiter c.loop-at.delimited c.loop-at.at c.args.inside.now c.loop-at.at within in
    grind (arith, common_steps)

pub returns-in-None-2-clause-value : goal.returns-in-None-2-clause-value
returns-in-None-2-clause-value c =
    let within : c.loop-at.at < length c.args.inside.now = omega arith in
    let step = string_end-drop c.args.delimiter c.loop-at.delimited c.loop-at.at c.args.inside.now c.loop-at.at within in
    grind (arith, common_steps)

pub loop-at-preserved : goal.loop-at-preserved
loop-at-preserved c =
    let within : c.loop-at.at < length c.args.inside.now = omega arith in
    let step = string_end-drop c.args.delimiter c.loop-at.delimited c.loop-at.at c.args.inside.now c.loop-at.at within in
    grind (arith, common_steps)

pub returns-then-delimited-2-clause-value : goal.returns-then-delimited-2-clause-value
returns-then-delimited-2-clause-value c = let ended = string_end-nil c.args.delimiter c.loop-at.delimited (length c.args.inside.now) in grind (arith, common_steps)

pub returns-else-delimited-2-clause-value : goal.returns-else-delimited-2-clause-value
returns-else-delimited-2-clause-value c = let ended = string_end-nil c.args.delimiter c.loop-at.delimited (length c.args.inside.now) in grind (arith, common_steps)
