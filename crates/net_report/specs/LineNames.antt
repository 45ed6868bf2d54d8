-- Names that a line can contain: names without line endings.
use Rattle.std.specs.Prelude.{⊤}
use Rattle.std.specs.List.{AllByRecursion}
use Rattle.net_lex.specs.LineEnds.{HasNoLineEnd}
use Rattle.net_sets.specs.Sets.{Tuple}
use Rattle.net_sets.specs.declared.member.Member.{Member}
use Rattle.net_sets.specs.declared.member.Member.TheVariants.{Number, Name}
use Rattle.net_inst.specs.Lists.{Listed}

-- a text as a key's component; a number has no line ending
abbrev pub IsWithinLine : Member → Type 0
IsWithinLine (Number n) = ⊤
IsWithinLine (Name text) = HasNoLineEnd text

abbrev pub AreWithinLine : Tuple → Type 0
AreWithinLine key = AllByRecursion IsWithinLine key

-- no declared name, and no text of a key, contains a line ending
pub record HasLineNames (listed : Listed) : Type 0 where
  pub names : AllByRecursion (λ d. HasNoLineEnd d.name) listed.declarations
  pub keys : AllByRecursion (λ k. AreWithinLine k.tuple) listed.keys
