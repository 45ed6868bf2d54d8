-- Members in data files.
use Rattle.std.specs.Prelude.{ℕ, List, map, take, Option, None, Some, ℤ}
use Rattle.net_lex.specs.declared.token.Kind.{Kind}
use Rattle.net_lex.specs.declared.token.Kind.TheVariants.{Num}
use Rattle.net_lex.specs.declared.token.Token.{Token}
use Rattle.net_sets.specs.declared.member.Member.{Member}
use Rattle.net_sets.specs.declared.member.Member.TheVariants.{Number, Name}
use Rattle.net_sets.specs.Limits.{arity_limit}
use Rattle.net_sets.specs.Sets.{Tuple}
use Rattle.net_sets.specs.Texts.{text_of}
use Rattle.net_tree.specs.Numerals.{number_in}

-- each numeral of a text has a number (`numerals_have_numbers` of net_tree)
abbrev pub number_or_name : List ℕ → Option ℤ → Member
number_or_name text None = Name (text_of text)
number_or_name text (Some n) = Number n

abbrev pub member_of : Kind → List ℕ → Member
member_of Num text = number_or_name text (number_in text)
member_of _ text = Name (text_of text)

-- a number, or the text of a name or a string
unfoldable pub member_in : Token → Member
member_in t = member_of t.kind t.text

-- the tuple of these members; no key has more than four
abbrev pub tuple_in : List Token → Tuple
tuple_in ts = map member_in (take arity_limit ts)
