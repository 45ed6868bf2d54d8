use Rattle.std.specs.Prelude.{◌≡◌, ℕ, List, [], ◌∷◌, ◌++◌}
use Rattle.std.proofs.Common.{inl, inr, ap, sym, ◌∙◌}
use Rattle.std.proofs.lemmas.Fmt.{contents_after_writes}
use Rattle.net_driver.specs.FaultLines.{fault_line}
use Rattle.netflow.proofs.error_line.print_error.Goals as goal
use Rattle.netflow.proofs.error_line.print_error.Goals.{in-Ok, in-Err}

pub returns-clause-printed : goal.returns-clause-printed
returns-clause-printed g c = elim c.match-writeln.branch [
  | in-Ok w ↦
      let line : c.writeln.new.self.bytes ≡ fault_line c.args.fault.now ++ 10 ∷ [] =
      contents_after_writes _ (λ s. s.bytes) (λ _ _ _ t. t) _ _ _ w.in-Ok.ensures.writes ∙ ap (λ (bytes : List ℕ). bytes ++ (fault_line c.args.fault.now ++ 10 ∷ [])) c.new-line.ensures in
      inl (rw (w.errors-is, sym (w.as_bytes.ensures.value ∙ w.as_str.ensures.value ∙ line)) w.write_text.ensures)
  | in-Err w ↦ inr (rw (w.errors-is, sym w.as_bytes-in-Err.ensures.value) w.write_text-in-Err.ensures)
]
