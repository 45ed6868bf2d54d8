use Rattle.std.proofs.Common.{◌≡◌, ◌∷◌, List, ℕ, ◌∙◌, arith}
use Rattle.std.proofs.lemmas.Grind.{common_steps}
use Rattle.std.specs.Str.Lines.{lines}
use Rattle.net_dimacs.specs.Reading.{with_optional_statement, line_statement}
use Rattle.net_dimacs.specs.Drafts.{state_of}
use Rattle.net_dimacs.proofs.Scanning.{said_so, line_read, still_unbegun, wants_memory, on_err}
use Rattle.net_dimacs.proofs.line_scan.Scan.take_lines.Goals as goal

pub loop-line-preserved : goal.loop-line-preserved
loop-line-preserved c =
    let now = c.loop-line.self in
    let line : List ℕ = c.in-Some.line.now in
    let after : List ℕ = c.in-Some.after.now in
    let rest : List ℕ = c.loop-line.rest.now in
    let text : List ℕ = c.args.text.now in
    let parts : lines rest ≡ line ∷ lines after = c.in-Some.ensures.parts in
    let taken : state_of c.take.new.self ≡ with_optional_statement now.line (state_of now.progress) (line_statement line) =
    c.in_ok-take.ensures.ok ∙ said_so now.line now.progress line c.statement_of.result c.statement_of.ensures in (
      λ more. line_read now.line (state_of now.progress) (state_of c.take.new.self) line rest after parts taken more ∙ c.loop-line.invariant.0 more,
      omega (arith, c.loop-line.invariant.1, c.in-Some.ensures.shorter),
      still_unbegun now.line c.args.self.now now (state_of c.take.new.self) text line rest after parts taken c.loop-line.invariant.2,
    )

pub returns-in_err-take-clause-memory : goal.returns-in_err-take-clause-memory
returns-in_err-take-clause-memory c =
    on_err _ c.from_residual.result (wants_memory c.args.self.now c.loop-line.self c.args.text.now c.in-Some.line.now c.loop-line.rest.now c.in-Some.after.now c.statement_of.result
    c.in-Some.ensures.parts c.statement_of.ensures c.loop-line.invariant.2 c.in_err-take.ensures.err)

pub loop-line-smaller : goal.loop-line-smaller
loop-line-smaller c = grind (arith, common_steps)
