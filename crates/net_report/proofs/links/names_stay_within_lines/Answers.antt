use Rattle.net_report.proofs.LineNames.{names_stay, names_unchanged}
use Rattle.net_report.proofs.links.names_stay_within_lines.Goals as goal

pub returns : goal.returns
returns c = record { value = names_stay; unchanged = names_unchanged }
