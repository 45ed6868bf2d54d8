-- Which meanings a name can have at its position.
use Rattle.std.specs.Prelude.{Option, None, Some}
use Rattle.net_names.specs.declared.meaning.Meaning.{Meaning}
use Rattle.net_names.specs.declared.meaning.Meaning.TheVariants as meanings
use Rattle.net_names.specs.declared.meaning.Need.{Need}
use Rattle.net_names.specs.declared.meaning.Need.TheVariants as needs
use Rattle.net_base.specs.declared.error_code.ErrorCode.{ErrorCode}
use Rattle.net_base.specs.declared.error_code.ErrorCode.TheVariants as error_codes

-- the error of a name with this meaning, if any
abbrev pub misfit : Need → Meaning → Option ErrorCode
misfit needs.Value meanings.Set = None
misfit needs.Value meanings.Param = None
misfit needs.Value meanings.Dummy = None
misfit needs.Total meanings.Set = None
misfit needs.Total meanings.Param = None
misfit needs.Total meanings.Dummy = None
misfit needs.Total meanings.Arc = None
misfit needs.Node meanings.Node = None
misfit needs.Objective meanings.Objective = None
misfit needs.Objective meanings.StatedObjective = Some error_codes.LeftOut
misfit _ _ = Some error_codes.Undeclared

-- an undeclared name is an error, whatever is needed
abbrev pub error_code_of : Need → Option Meaning → Option ErrorCode
error_code_of n None = Some error_codes.Undeclared
error_code_of n (Some m) = misfit n m

-- the meanings that names in the subscripts of a name can have
abbrev pub in_subscripts : Need → Need
in_subscripts needs.Total = needs.Total
in_subscripts _ = needs.Value
