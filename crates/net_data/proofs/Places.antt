-- Where the tokens of statements stand.
use Rattle.std.proofs.Common.{◌≡◌, ℕ, true, false, List, codes}
use Rattle.std.specs.Str.{bytes_eq}
use Rattle.net_lex.specs.declared.token.Token.{Token}
use Rattle.net_data.specs.Tests.{is_name, is_member, is_cell, is_word, is_mark}
use Rattle.net_data.specs.Commas.{before, in_set, elsewhere, place_after}
use Rattle.net_data.specs.Reading.{semicolon}
use Rattle.net_data.proofs.Apart.{name-mark, member-mark, cell-mark, word-mark, word-word, mark-mark}

pub after_set : (token : Token) → is_word (codes "set") token ≡ true → place_after before token ≡ in_set
after_set token h = rw h

pub after_word : (word : List ℕ) (token : Token) → bytes_eq (codes "set") word ≡ false → is_word word token ≡ true → place_after before token ≡ elsewhere
after_word word token apart h = let no = word-word word (codes "set") token apart h in rw no

pub set_name : (token : Token) → is_name token ≡ true → place_after in_set token ≡ in_set
set_name token h = let no = name-mark (codes ";") token h in let none = name-mark (codes "(") token h in rw (no, none)

pub set_mark : (text : List ℕ) (token : Token) → bytes_eq (codes ";") text ≡ false → bytes_eq (codes "(") text ≡ false → is_mark text token ≡ true → place_after in_set token ≡ in_set
set_mark text token apart other h = let no = mark-mark text (codes ";") token apart h in let none = mark-mark text (codes "(") token other h in rw (no, none)

pub set_end : (token : Token) → semicolon token ≡ true → place_after in_set token ≡ before
set_end token h = rw h

pub else_name : (token : Token) → is_name token ≡ true → place_after elsewhere token ≡ elsewhere
else_name token h = let no = name-mark (codes ";") token h in rw no

pub else_member : (token : Token) → is_member token ≡ true → place_after elsewhere token ≡ elsewhere
else_member token h = let no = member-mark (codes ";") token h in rw no

pub else_cell : (token : Token) → is_cell token ≡ true → place_after elsewhere token ≡ elsewhere
else_cell token h = let no = cell-mark (codes ";") token h in rw no

pub else_word : (word : List ℕ) (token : Token) → is_word word token ≡ true → place_after elsewhere token ≡ elsewhere
else_word word token h = let no = word-mark (codes ";") word token h in rw no

pub else_mark : (text : List ℕ) (token : Token) → bytes_eq (codes ";") text ≡ false → is_mark text token ≡ true → place_after elsewhere token ≡ elsewhere
else_mark text token apart h = let no = mark-mark text (codes ";") token apart h in rw no

pub else_end : (token : Token) → semicolon token ≡ true → place_after elsewhere token ≡ before
else_end token h = rw h
