use Rattle.std.proofs.Common.{◌≡◌, ◌++◌, ◌∷◌, [], List, ℕ, Bool, sym, ap, ◌∙◌}
use Rattle.net_sets.specs.Sets.{Tuple}
use Rattle.net_io.proofs.Paging.{sends_both, sends_as}
use Rattle.net_expr.specs.References.{members_text, reference_text}
use Rattle.net_report.specs.Links.{in_line}
use Rattle.net_report.proofs.WrittenNames.{with_key}
use Rattle.net_report.proofs.written_name.send_name.Goals as goal

pub returns-then-declared : goal.returns-then-declared
returns-then-declared g c =
    let name = c.args.declared.now.name in
    let key = c.args.key.now in
    let same_name : c.as_bytes.result.now ≡ name = c.as_bytes.ensures.value ∙ c.as_str.ensures in
    let same_key : c.as_slice.result.now ≡ key = c.as_slice.ensures.members in
    sends_as
    (ap (λ (n : List ℕ). in_line n ++ ((91 ∷ []) ++ (in_line (members_text c.as_slice.result.now) ++ 93 ∷ []))) same_name
    ∙ ap (λ (k : Tuple). in_line name ++ ((91 ∷ []) ++ (in_line (members_text k) ++ 93 ∷ []))) same_key
    ∙ with_key name key
    ∙ ap (λ (b : Bool). in_line (reference_text name b key)) (sym c.if-declared.true))
    (sends_both c.send_in_line.ensures (sends_both c.send.ensures (sends_both c.send_members.ensures c.send-then-declared.ensures)))
