-- Characters of model and data files (AMPL book, section A.1; Unicode Standard Annex 31 for the
-- characters of words).
use Rattle.std.specs.Prelude.{ℕ, Bool, ◌==◌, ◌||◌, ◌&&◌, nat_lt, List}
use Rattle.std.specs.Char.{is_ascii_alphabetic, is_ascii_alphanumeric}
use Rattle.unicode_ident.specs.Ident.{is_xid_continue}
use Rattle.net_lex.specs.Bytes.{first, second, point, plus, minus}

abbrev pub line_feed : ℕ
line_feed = 10

abbrev pub hash : ℕ
hash = 35

abbrev pub slash : ℕ
slash = 47

abbrev pub star : ℕ
star = 42

abbrev pub underscore : ℕ
underscore = 95

-- space, line feed, carriage return or tab
abbrev pub is_blank : ℕ → Bool
is_blank c = ((c == 32 || c == 10) || c == 13) || c == 9

-- a single or double quotation mark
abbrev pub is_quote : ℕ → Bool
is_quote c = c == 39 || c == 34

-- control characters, which are not allowed in strings
abbrev pub is_control : ℕ → Bool
is_control c = nat_lt c 32 || c == 127

-- the first character of a name in a model (`starts_name`) and the later characters
-- (`continues_name`)
abbrev pub starts_name : ℕ → Bool
starts_name c = is_ascii_alphabetic c || c == underscore

abbrev pub continues_name : ℕ → Bool
continues_name c = is_ascii_alphanumeric c || c == underscore

-- a character of a bare word in a data file
abbrev pub is_word_char : ℕ → Bool
is_word_char c = ((is_xid_continue c || c == point) || c == plus) || c == minus

-- whether a comment to the end of the line starts here (`begins_line_comment`), or a delimited
-- comment (`begins_comment`)
abbrev pub begins_line_comment : List ℕ → Bool
begins_line_comment text = first text == hash

abbrev pub begins_comment : List ℕ → Bool
begins_comment text = first text == slash && second text == star
