use Rattle.std.proofs.Common.{◌≡◌, [], List, ℕ, ap, subst, ◌∙◌, append-nil, arith}
use Rattle.std.proofs.lemmas.Grind.{common_steps}
use Rattle.std.specs.Str.Lines.{lines}
use Rattle.net_dimacs.specs.Reading.{Gives}
use Rattle.net_dimacs.specs.Scans.{reads}
use Rattle.net_dimacs.proofs.line_scan.Scan.ended.Goals as goal

pub returns-clause-value : goal.returns-clause-value
returns-clause-value c =
    let rest : List ℕ = c.args.rest.now in
    let same : reads c.take_lines.new.self [] ≡ reads c.args.self (lines rest) =
    c.in_ok-take_lines.ensures.lines [] ∙ ap (λ (ls : List (List ℕ)). reads c.args.self ls) (append-nil (lines rest)) in
    subst (λ read. Gives read c.finished.result) same c.finished.ensures.value

pub returns-clause-memory : goal.returns-clause-memory
returns-clause-memory c = grind (arith, common_steps)
