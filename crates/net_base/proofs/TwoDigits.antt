-- A number of an error is printed with two digits.
use Rattle.std.specs.Prelude.{◌≡◌, refl, ℕ, ◌/◌, ◌%◌, ◌^◌, ◌-◌, List, ◌++◌, decimal}
use Rattle.std.specs.Fmt.{format_spec, styled_decimal, digits, padded_integral, char_count}
use Rattle.net_base.specs.declared.error_code.ErrorCode.{ErrorCode}
use Rattle.net_base.specs.declared.error_code.ErrorCode.TheVariants.{BadCharacter, OpenString, OpenComment, NotWhole, NumeralTooLarge, NotUtf8, TextTooLong, ModelSyntax, TooDeep, Undeclared, Redeclared, LeftOut, Gain, NetPlace, DataSyntax, RowWidth, TableWidth, NoSuchName, DoubleValue, NoValue, OutsideSet, Restriction, CheckFailed, KindMismatch, Arity, DivMod, ValueTooLarge, TooMany, NoSuchNode, NoLower, NoUpper, ArcCrossed, NodeCrossed, NoEnds, NoObjective, TwoObjectives, NotLinear, TooManyNodes, TooManyArcs, NoSuchObjective}
use Rattle.net_base.specs.ErrorCodes.{number_of}

pub two_digits : (d : ErrorCode) → styled_decimal (format_spec 32 0 4 2 (2 ^ 64 - 1)) (number_of d) ≡ decimal (number_of d / 10) ++ decimal (number_of d % 10)
unfolding digits padded_integral char_count
two_digits BadCharacter = refl
two_digits OpenString = refl
two_digits OpenComment = refl
two_digits NotWhole = refl
two_digits NumeralTooLarge = refl
two_digits NotUtf8 = refl
two_digits TextTooLong = refl
two_digits ModelSyntax = refl
two_digits TooDeep = refl
two_digits Undeclared = refl
two_digits Redeclared = refl
two_digits LeftOut = refl
two_digits Gain = refl
two_digits NetPlace = refl
two_digits DataSyntax = refl
two_digits RowWidth = refl
two_digits TableWidth = refl
two_digits NoSuchName = refl
two_digits DoubleValue = refl
two_digits NoValue = refl
two_digits OutsideSet = refl
two_digits Restriction = refl
two_digits CheckFailed = refl
two_digits KindMismatch = refl
two_digits Arity = refl
two_digits DivMod = refl
two_digits ValueTooLarge = refl
two_digits TooMany = refl
two_digits NoSuchNode = refl
two_digits NoLower = refl
two_digits NoUpper = refl
two_digits ArcCrossed = refl
two_digits NodeCrossed = refl
two_digits NoEnds = refl
two_digits NoObjective = refl
two_digits TwoObjectives = refl
two_digits NotLinear = refl
two_digits TooManyNodes = refl
two_digits TooManyArcs = refl
two_digits NoSuchObjective = refl
