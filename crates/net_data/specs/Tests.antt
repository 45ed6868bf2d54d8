-- The sort of a token in the grammar of data statements (keywords as in the AMPL book, chapter 9;
-- the forms are those of this profile).
use Rattle.std.specs.Prelude.{ℕ, Bool, true, false, ◌&&◌, List, codes}
use Rattle.std.specs.Str.{bytes_eq}
use Rattle.net_lex.specs.declared.token.Kind.{Kind}
use Rattle.net_lex.specs.declared.token.Kind.TheVariants.{Name, Num, Str, Mark, Dot}
use Rattle.net_lex.specs.declared.token.Token.{Token}
use Rattle.net_data.specs.declared.expected_token.Expected.{Expected}
use Rattle.net_data.specs.declared.expected_token.Expected.TheVariants as sorts

abbrev pub names : Kind → Bool
names Name = true
names _ = false

-- a name, a number or a string
abbrev pub stands_for_member : Kind → Bool
stands_for_member Name = true
stands_for_member Num = true
stands_for_member Str = true
stands_for_member _ = false

-- a member, or the missing-value dot
abbrev pub fills_cell : Kind → Bool
fills_cell Name = true
fills_cell Num = true
fills_cell Str = true
fills_cell Dot = true
fills_cell _ = false

abbrev pub marks : Kind → Bool
marks Mark = true
marks _ = false

abbrev pub is_name : Token → Bool
is_name token = names token.kind

abbrev pub is_member : Token → Bool
is_member token = stands_for_member token.kind

abbrev pub is_cell : Token → Bool
is_cell token = fills_cell token.kind

-- the name with this text
abbrev pub is_word : List ℕ → Token → Bool
is_word text token = names token.kind && bytes_eq text token.text

-- the punctuation with this text
abbrev pub is_mark : List ℕ → Token → Bool
is_mark text token = marks token.kind && bytes_eq text token.text

abbrev pub is_comma : Token → Bool
is_comma = is_mark (codes ",")

-- a token of this sort
abbrev pub is_of : Expected → Token → Bool
is_of sorts.Name = is_name
is_of sorts.Member = is_member
is_of sorts.Cell = is_cell
is_of sorts.Assign = is_mark (codes ":=")
is_of sorts.Colon = is_mark (codes ":")
is_of sorts.Semicolon = is_mark (codes ";")
is_of sorts.Opening = is_mark (codes "(")
is_of sorts.Closing = is_mark (codes ")")
is_of sorts.Data = is_word (codes "data")
is_of sorts.End = is_word (codes "end")
is_of sorts.Set = is_word (codes "set")
is_of sorts.Param = is_word (codes "param")
is_of sorts.Default = is_word (codes "default")
is_of sorts.Transposed = is_word (codes "tr")
