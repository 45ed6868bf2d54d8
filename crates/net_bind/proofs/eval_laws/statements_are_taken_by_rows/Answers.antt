use Rattle.net_bind.proofs.DataRowsTaken.{takes_lists, takes_tables, takes_columns, takes_keys}
use Rattle.net_bind.proofs.SetRowsTaken.{takes_members}
use Rattle.net_bind.proofs.eval_laws.statements_are_taken_by_rows.Goals as goal

pub returns : goal.returns
returns c = record {
  lists = takes_lists;
  tables = takes_tables;
  columns = takes_columns;
  members = takes_members;
  keys = takes_keys;
}
