use Rattle.net_report.proofs.LineNames.{unchanged}
use Rattle.net_report.proofs.links.line_names_are_names.Goals as goal

pub returns : goal.returns
returns c = record { value = unchanged }
