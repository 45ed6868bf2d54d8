use Rattle.std.proofs.Common.{◌≡◌, ◌<◌, ◌++◌, List, ℕ, length, ap, sym, ◌∙◌, arith}
use Rattle.std.specs.Str.Lines.{lines}
use Rattle.std.proofs.lemmas.Grind.{common_steps}
use Rattle.net_dimacs.specs.Scans.{reads}
use Rattle.net_dimacs.proofs.Scanning.{whole_lines}
use Rattle.net_dimacs.proofs.line_scan.Scan.take_whole.Goals as goal

pub returns-clause-ok : goal.returns-clause-ok
returns-clause-ok c = λ more.
    let pending : List ℕ = c.args.pending.now.items in
    let whole : List ℕ = c.args.whole.now in
    let some : 0 < length whole = grind (arith, common_steps) in
    let all : c.deref.result.now ≡ pending ++ whole = c.deref.ensures.value ∙ c.in_ok-extend_from_slice.ensures.items in
    ap (λ (l : List ℕ). reads c.take_lines.new.self (lines (l ++ more))) c.clear.ensures.items
    ∙ c.in_ok-take_lines.ensures.lines (lines more)
    ∙ ap (λ (l : List ℕ). reads c.args.self.now (lines l ++ lines more)) all
    ∙ ap (λ (ls : List (List ℕ)). reads c.args.self.now ls) (sym (whole_lines pending whole more some c.requires.lines))

pub take_lines-requires : goal.take_lines-requires
take_lines-requires c = grind (arith, common_steps)

pub returns-then-is_empty-clause-ok : goal.returns-then-is_empty-clause-ok
returns-then-is_empty-clause-ok c = grind (arith, common_steps)

pub returns-clause-count : goal.returns-clause-count
returns-clause-count c = grind (arith, common_steps)
