-- No token passes two tests that tell tokens apart.
use Rattle.std.proofs.Common.{◌≡◌, ℕ, true, false, List, refl, sym}
use Rattle.std.proofs.lemmas.Bool.{and_parts, and_left, and_right}
use Rattle.std.proofs.lemmas.Slice.Eq.{bytes_eq-Decides}
use Rattle.std.specs.Str.{bytes_eq}
use Rattle.net_lex.specs.declared.token.Kind.{Kind}
use Rattle.net_lex.specs.declared.token.Kind.TheVariants.{Name, Key, Num, Str, Mark, Dot}
use Rattle.net_lex.specs.declared.token.Token.{Token}
use Rattle.net_data.specs.Tests.{names, stands_for_member, fills_cell, marks, is_name, is_member, is_cell, is_word, is_mark}

name_no_mark : (kind : Kind) → names kind ≡ true → marks kind ≡ false
name_no_mark Name h = refl
name_no_mark Key h = absurd (cc)
name_no_mark Num h = absurd (cc)
name_no_mark Str h = absurd (cc)
name_no_mark Mark h = absurd (cc)
name_no_mark Dot h = absurd (cc)

member_no_mark : (kind : Kind) → stands_for_member kind ≡ true → marks kind ≡ false
member_no_mark Name h = refl
member_no_mark Key h = refl
member_no_mark Num h = refl
member_no_mark Str h = refl
member_no_mark Mark h = absurd (cc)
member_no_mark Dot h = refl

cell_no_mark : (kind : Kind) → fills_cell kind ≡ true → marks kind ≡ false
cell_no_mark Name h = refl
cell_no_mark Key h = refl
cell_no_mark Num h = refl
cell_no_mark Str h = refl
cell_no_mark Mark h = absurd (cc)
cell_no_mark Dot h = refl

mark_no_name : (kind : Kind) → marks kind ≡ true → (names kind ≡ false) × (stands_for_member kind ≡ false) × (fills_cell kind ≡ false)
mark_no_name Name h = absurd (cc)
mark_no_name Key h = absurd (cc)
mark_no_name Num h = absurd (cc)
mark_no_name Str h = absurd (cc)
mark_no_name Mark h = (refl, refl, refl)
mark_no_name Dot h = absurd (cc)

-- what is no mark is not this mark
no_mark : (text : List ℕ) (token : Token) → marks token.kind ≡ false → is_mark text token ≡ false
no_mark text token h = and_left (marks token.kind) (bytes_eq text token.text) h

pub name-mark : (text : List ℕ) (token : Token) → is_name token ≡ true → is_mark text token ≡ false
name-mark text token h = no_mark text token (name_no_mark token.kind h)

pub member-mark : (text : List ℕ) (token : Token) → is_member token ≡ true → is_mark text token ≡ false
member-mark text token h = no_mark text token (member_no_mark token.kind h)

pub cell-mark : (text : List ℕ) (token : Token) → is_cell token ≡ true → is_mark text token ≡ false
cell-mark text token h = no_mark text token (cell_no_mark token.kind h)

pub word_name : (word : List ℕ) (token : Token) → is_word word token ≡ true → is_name token ≡ true
word_name word token h = (and_parts (names token.kind) (bytes_eq word token.text) h).0

pub word-mark : (text word : List ℕ) (token : Token) → is_word word token ≡ true → is_mark text token ≡ false
word-mark text word token h = name-mark text token (word_name word token h)

-- the text of the mark, or of the word
text_of : (text other : List ℕ) → bytes_eq text other ≡ true → other ≡ text
text_of text other h = sym ((bytes_eq-Decides text other).0 h)

pub mark-mark : (text other : List ℕ) (token : Token) → bytes_eq other text ≡ false → is_mark text token ≡ true → is_mark other token ≡ false
mark-mark text other token apart h =
    let same : token.text ≡ text = text_of text token.text (and_parts (marks token.kind) (bytes_eq text token.text) h).1 in
    and_right (marks token.kind) (bytes_eq other token.text) (rw same apart)

pub word-word : (text other : List ℕ) (token : Token) → bytes_eq other text ≡ false → is_word text token ≡ true → is_word other token ≡ false
word-word text other token apart h =
    let same : token.text ≡ text = text_of text token.text (and_parts (names token.kind) (bytes_eq text token.text) h).1 in
    and_right (names token.kind) (bytes_eq other token.text) (rw same apart)

pub mark-name : (text : List ℕ) (token : Token) → is_mark text token ≡ true → is_name token ≡ false
mark-name text token h = (mark_no_name token.kind (and_parts (marks token.kind) (bytes_eq text token.text) h).0).0

pub mark-member : (text : List ℕ) (token : Token) → is_mark text token ≡ true → is_member token ≡ false
mark-member text token h = (mark_no_name token.kind (and_parts (marks token.kind) (bytes_eq text token.text) h).0).1

pub mark-cell : (text : List ℕ) (token : Token) → is_mark text token ≡ true → is_cell token ≡ false
mark-cell text token h = (mark_no_name token.kind (and_parts (marks token.kind) (bytes_eq text token.text) h).0).2

pub mark-word : (text word : List ℕ) (token : Token) → is_mark text token ≡ true → is_word word token ≡ false
mark-word text word token h = and_left (names token.kind) (bytes_eq word token.text) (mark-name text token h)
