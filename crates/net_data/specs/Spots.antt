-- The position of a token among the members and tuples of a set.
use Rattle.std.specs.Prelude.{Bool, true, false, ◌||◌, if◌then◌else◌, codes, Option, Some, None}
use Rattle.net_lex.specs.declared.token.Token.{Token}
use Rattle.net_data.specs.declared.members.Spot.{Spot}
use Rattle.net_data.specs.declared.members.Spot.TheVariants.{Outside, Opened, First, Parted, Later}
use Rattle.net_data.specs.Tests.{is_member, is_mark, is_comma}

-- the position after a token, or None if the token is not allowed
abbrev pub spot_after : Spot → Token → Option Spot
spot_after Outside token = if is_member token || is_comma token then Some Outside else if is_mark (codes "(") token then Some Opened else None
spot_after Opened token = if is_member token then Some First else None
spot_after First token = if is_comma token then Some Parted else None
spot_after Parted token = if is_member token then Some Later else None
spot_after Later token = if is_comma token then Some Parted else if is_mark (codes ")") token then Some Outside else None

-- whether no tuple is open
abbrev pub rests : Spot → Bool
rests Outside = true
rests _ = false

abbrev pub outside : Spot
outside = Outside
