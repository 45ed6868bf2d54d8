use Rattle.std.proofs.Common.{◌≡◌, ◌++◌, drop, string_bytes}
use Rattle.net_report.specs.Displays.{fields}
use Rattle.net_report.proofs.display.push_fields.Given as goal

abbrev pub invariant-loop-member : goal.invariant-loop-member
invariant-loop-member l = (l.text.items ≡ l.fn.text.items) × (string_bytes l.fields ++ fields (drop l.member-index l.key) ≡ fields l.key)
