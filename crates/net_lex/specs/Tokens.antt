-- The tokens of each kind (AMPL book, section A.1; data files have no reserved words in this
-- profile).
use Rattle.std.specs.Prelude.{◌≡◌, ℕ, ◌<◌, Bool, true, false, List, [], ◌∷◌, ◌++◌, length}
use Rattle.std.specs.List.{list_all}
use Rattle.std.specs.Str.{all_scalars, encode_utf8_all}
use Rattle.net_base.specs.declared.diagnostic.Language.{Language}
use Rattle.net_base.specs.declared.diagnostic.Language.TheVariants.{Model, Data}
use Rattle.net_lex.specs.declared.shape.Shape.{Shape}
use Rattle.net_lex.specs.declared.shape.Shape.TheVariants.{Word, Numeral, Quoted, Mark}
use Rattle.net_lex.specs.declared.token.Kind.{Kind}
use Rattle.net_lex.specs.declared.token.Kind.TheVariants as kinds
use Rattle.net_lex.specs.Bytes.{first, point}
use Rattle.net_lex.specs.Characters.{is_quote, is_control, starts_name, continues_name, is_word_char}
use Rattle.net_lex.specs.Numerals.{Parts, SpellsNumeral, SpellsSigned}
use Rattle.net_lex.specs.Words.{model_marks, data_marks, is_among, is_reserved}

-- a letter or an underscore, followed by letters, digits and underscores
pub record IsName (text : List ℕ) : Type 0 where
  pub begins : starts_name (first text) ≡ true
  pub goes_on : list_all continues_name text ≡ true

-- one or more characters of bare words
pub record IsWord (text : List ℕ) : Type 0 where
  pub characters : List ℕ
  pub some : 0 < length characters
  pub scalars : all_scalars characters ≡ true
  pub spelled : encode_utf8_all characters ≡ text
  pub all : list_all is_word_char characters ≡ true

-- the inside of a string: no control characters, and delimiters only doubled
pub data IsInside (delimiter : ℕ) : List ℕ → Type 0 where
  nothing : IsInside delimiter []
  plain : {c : ℕ} {rest : List ℕ} → (c ≡ delimiter → ⊥) → is_control c ≡ false → IsInside delimiter rest → IsInside delimiter (c ∷ rest)
  doubled : {rest : List ℕ} → IsInside delimiter rest → IsInside delimiter (delimiter ∷ delimiter ∷ rest)

pub record IsString (text : List ℕ) : Type 0 where
  pub delimiter : ℕ
  pub inside : List ℕ
  pub quote : is_quote delimiter ≡ true
  pub body : IsInside delimiter inside
  pub joined : text ≡ delimiter ∷ (inside ++ delimiter ∷ [])

-- the texts of each shape in each language
abbrev pub HasShape : Language → Shape → List ℕ → Type 0
HasShape Model Word text = IsName text
HasShape Model Numeral text = (p : Parts) × SpellsNumeral text p
HasShape Model Quoted text = IsString text
HasShape Model Mark text = is_among model_marks text ≡ true
HasShape Data Word text = IsWord text
HasShape Data Numeral text = ⊥
HasShape Data Quoted text = IsString text
HasShape Data Mark text = is_among data_marks text ≡ true

-- the texts of each kind in each language
abbrev pub Allows : Language → Kind → List ℕ → Type 0
Allows Model kinds.Name text = IsName text × (is_reserved text ≡ false)
Allows Model kinds.Key text = is_reserved text ≡ true
Allows Model kinds.Num text = (p : Parts) × SpellsNumeral text p
Allows Model kinds.Str text = IsString text
Allows Model kinds.Mark text = is_among model_marks text ≡ true
Allows Model kinds.Dot text = ⊥
Allows Data kinds.Name text = IsWord text × (text ≡ point ∷ [] → ⊥) × ((negative : Bool) (p : Parts) → ¬ SpellsSigned text negative p)
Allows Data kinds.Key text = ⊥
Allows Data kinds.Num text = (negative : Bool) × (p : Parts) × SpellsSigned text negative p
Allows Data kinds.Str text = IsString text
Allows Data kinds.Mark text = is_among data_marks text ≡ true
Allows Data kinds.Dot text = text ≡ point ∷ []
