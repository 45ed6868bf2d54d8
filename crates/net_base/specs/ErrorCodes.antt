-- The numbers and names of errors in a model or its data, as they are printed, and which errors show that there is no network.
use Rattle.std.specs.Prelude.{ℕ, Bool, true, false, List, codes}
use Rattle.net_base.specs.declared.error_code.ErrorCode.{ErrorCode}
use Rattle.net_base.specs.declared.error_code.ErrorCode.TheVariants.{BadCharacter, OpenString, OpenComment, NotWhole, NumeralTooLarge, NotUtf8, TextTooLong, ModelSyntax, TooDeep, Undeclared, Redeclared, LeftOut, Gain, NetPlace, DataSyntax, RowWidth, TableWidth, NoSuchName, DoubleValue, NoValue, OutsideSet, Restriction, CheckFailed, KindMismatch, Arity, DivMod, ValueTooLarge, TooMany, NoSuchNode, NoLower, NoUpper, ArcCrossed, NodeCrossed, NoEnds, NoObjective, TwoObjectives, NotLinear, TooManyNodes, TooManyArcs, NoSuchObjective}

abbrev pub number_of : ErrorCode → ℕ
number_of BadCharacter = 1
number_of OpenString = 2
number_of OpenComment = 3
number_of NotWhole = 4
number_of NumeralTooLarge = 5
number_of NotUtf8 = 6
number_of TextTooLong = 7
number_of ModelSyntax = 10
number_of TooDeep = 11
number_of Undeclared = 12
number_of Redeclared = 13
number_of LeftOut = 14
number_of Gain = 15
number_of NetPlace = 16
number_of DataSyntax = 20
number_of RowWidth = 21
number_of TableWidth = 22
number_of NoSuchName = 30
number_of DoubleValue = 31
number_of NoValue = 32
number_of OutsideSet = 33
number_of Restriction = 34
number_of CheckFailed = 35
number_of KindMismatch = 36
number_of Arity = 37
number_of DivMod = 38
number_of ValueTooLarge = 39
number_of TooMany = 40
number_of NoSuchNode = 50
number_of NoLower = 51
number_of NoUpper = 52
number_of ArcCrossed = 53
number_of NodeCrossed = 54
number_of NoEnds = 55
number_of NoObjective = 56
number_of TwoObjectives = 57
number_of NotLinear = 58
number_of TooManyNodes = 59
number_of TooManyArcs = 60
number_of NoSuchObjective = 61

abbrev pub name_of : ErrorCode → List ℕ
name_of BadCharacter = codes "BadCharacter"
name_of OpenString = codes "OpenString"
name_of OpenComment = codes "OpenComment"
name_of NotWhole = codes "NotWhole"
name_of NumeralTooLarge = codes "TooLarge"
name_of NotUtf8 = codes "NotUtf8"
name_of TextTooLong = codes "TextTooLong"
name_of ModelSyntax = codes "Syntax"
name_of TooDeep = codes "TooDeep"
name_of Undeclared = codes "Undeclared"
name_of Redeclared = codes "Redeclared"
name_of LeftOut = codes "LeftOut"
name_of Gain = codes "Gain"
name_of NetPlace = codes "NetPlace"
name_of DataSyntax = codes "Syntax"
name_of RowWidth = codes "RowWidth"
name_of TableWidth = codes "TableWidth"
name_of NoSuchName = codes "NoSuchName"
name_of DoubleValue = codes "DoubleValue"
name_of NoValue = codes "NoValue"
name_of OutsideSet = codes "OutsideSet"
name_of Restriction = codes "Restriction"
name_of CheckFailed = codes "CheckFailed"
name_of KindMismatch = codes "KindMismatch"
name_of Arity = codes "Arity"
name_of DivMod = codes "DivMod"
name_of ValueTooLarge = codes "TooLarge"
name_of TooMany = codes "TooMany"
name_of NoSuchNode = codes "NoSuchNode"
name_of NoLower = codes "NoLower"
name_of NoUpper = codes "NoUpper"
name_of ArcCrossed = codes "ArcCrossed"
name_of NodeCrossed = codes "NodeCrossed"
name_of NoEnds = codes "NoEnds"
name_of NoObjective = codes "NoObjective"
name_of TwoObjectives = codes "TwoObjectives"
name_of NotLinear = codes "NotLinear"
name_of TooManyNodes = codes "TooManyNodes"
name_of TooManyArcs = codes "TooManyArcs"
name_of NoSuchObjective = codes "NoSuchObjective"

-- An error with one of these codes shows that the inputs mean no network (AMPL book, chapter 15). The other codes either stand for netflow's own
-- rules, so that inputs with a network can have the error, or no theorem is about them. Netflow's own rules are limits of length, nesting, size and
-- values, parts of AMPL that are left out, and rules for parts of a model that its network does not depend on. For example, each name is declared
-- before it is used, even in an expression that is never evaluated.
abbrev pub says_no_network : ErrorCode → Bool
says_no_network BadCharacter = true
says_no_network OpenString = true
says_no_network OpenComment = true
says_no_network NotWhole = true
says_no_network NumeralTooLarge = true
says_no_network NotUtf8 = true
says_no_network ModelSyntax = true
says_no_network Redeclared = true
says_no_network Gain = true
says_no_network NetPlace = true
says_no_network DataSyntax = true
says_no_network RowWidth = true
says_no_network TableWidth = true
says_no_network NoSuchName = true
says_no_network ArcCrossed = true
says_no_network NoObjective = true
says_no_network TwoObjectives = true
says_no_network NoSuchObjective = true
says_no_network _ = false
