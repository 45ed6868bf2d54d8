use Rattle.std.proofs.Common.{◌≡◌, ◌≤◌, Bool, false, cond, List, ℕ, [], ◌++◌, length, sym, ap, subst, ◌∙◌, arith, append-nil, Err}
use Rattle.std.specs.Prelude.{nat_lt, Result}
use Rattle.std.specs.Str.Lines.{lines}
use Rattle.std.proofs.lemmas.Bool.Decides.{nat_tests}
use Rattle.net_dimacs.specs.declared.problem_fault.Rejection.{Rejection}
use Rattle.net_dimacs.specs.declared.problem_fault.LineFault.TheVariants.{TooLarge}
use Rattle.net_dimacs.specs.Limits.{text_limit}
use Rattle.net_dimacs.specs.Reading.{Start, Numbers, read_lines, read_text, Gives}
use Rattle.net_dimacs.specs.Scans.{reads}
use Rattle.net_dimacs.proofs.reading.Reading.read_out.Goals as goal

pub returns : goal.returns
returns c = λ text stands.
    let small : length text ≤ text_limit = omega arith in
    let short : nat_lt text_limit (length text) ≡ false = grind (arith, nat_tests) in
    let pending : List ℕ = c.deref.result.now in
    let same : reads c.args.self.scan (lines pending) ≡ read_text text =
    ap (λ (l : List ℕ). reads c.args.self.scan (lines l)) (sym (append-nil pending))
    ∙ ap (λ (l : List ℕ). reads c.args.self.scan (lines (l ++ []))) c.deref.ensures.value ∙ stands.scanned small []
    ∙ ap (λ (l : List ℕ). read_lines 1 Start (lines l)) (append-nil text)
    ∙ ap (λ (t : Bool). cond {A = Result Numbers Rejection} t (Err (record { fault = TooLarge; line = 1 })) (read_lines 1 Start (lines text))) (sym short) in
    subst (λ read. Gives read c.ended.result) same c.ended.ensures.value
