use Rattle.net_linear.proofs.WorthLaws.{have_value}
use Rattle.net_linear.proofs.form.forms_have_value.Goals as goal

pub returns : goal.returns
returns c = record { value_of_tree = have_value }
