-- The parts of a numeral in the code, whose fields are slices, as parts in the specification.
use Rattle.net_lex.specs.declared.numeral.Parts as code_parts
use Rattle.net_lex.specs.declared.numeral.Mantissa as code_mantissa
use Rattle.net_lex.specs.declared.numeral.Power as code_power
use Rattle.net_lex.specs.Numerals.{Parts}
use Rattle.net_lex.specs.NumeralFront.{Mantissa, Power}

abbrev pub mantissa_view : code_mantissa.Mantissa → Mantissa
mantissa_view m = record { whole = m.whole.now; fraction = m.fraction.now; rest = m.rest.now }

abbrev pub power_view : code_power.Power → Power
power_view p = record { negative = p.negative; power = p.power.now; rest = p.rest.now }

abbrev pub parts_view : code_parts.Parts → Parts
parts_view p = record { whole = p.whole.now; fraction = p.fraction.now; negative = p.negative; power = p.power.now }
