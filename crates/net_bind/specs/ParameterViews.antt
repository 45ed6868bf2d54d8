-- The code's records of a parameter and its values, as definitions see them.
use Rattle.std.specs.Prelude.{map}
use Rattle.net_tree.specs.View.{phrase_of}
use Rattle.net_bind.specs.declared.parameter.Parameter.{Parameter}
use Rattle.net_bind.specs.declared.parameter.PlacedValues as code
use Rattle.net_bind.specs.declared.data_row.NamedParameter as stated
use Rattle.net_bind.specs.BoundParameters.{PlacedValues}
use Rattle.net_bind.specs.Rows.{KeyedParameter, NamedParameter}

abbrev pub parameter_of : Parameter → KeyedParameter
parameter_of p = record { name = p.name.now; keys = p.keys; index = p.index.now; phrases = map phrase_of p.phrases.now }

abbrev pub named_of : stated.NamedParameter → NamedParameter
named_of p = record { word = p.word.now; keys = p.keys; index = p.index.now }

abbrev pub values_of : code.PlacedValues → PlacedValues
values_of v = record { table = v.table.now; cells = v.cells.now; text = v.text; at = v.at }
