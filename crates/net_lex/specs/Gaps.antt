-- Blanks and comments (AMPL book, section A.1): `#` starts a comment to the end of the line; `/*`
-- starts a comment that ends at the next `*/`.
use Rattle.std.specs.Prelude.{◌≡◌, ℕ, ◌==◌, ◌&&◌, ◌||◌, Bool, true, false, not, List, [], ◌∷◌, ◌++◌}
use Rattle.std.specs.List.{list_all}
use Rattle.net_lex.specs.Bytes.{first}
use Rattle.net_lex.specs.Characters.{is_blank, line_feed, hash, slash, star}

-- the text contains no line feed
abbrev pub IsOneLine : List ℕ → Type 0
IsOneLine text = list_all (λ c. not (c == line_feed)) text ≡ true

-- the text contains `*/`
abbrev pub has_close : List ℕ → Bool
has_close [] = false
has_close (c ∷ cs) = (c == star && first cs == slash) || has_close cs

-- blanks and complete comments
pub data IsGap : List ℕ → Type 0 where
  nothing : IsGap []
  blank : {c : ℕ} {rest : List ℕ} → is_blank c ≡ true → IsGap rest → IsGap (c ∷ rest)
  line : {text : List ℕ} (body rest : List ℕ) → IsOneLine body → IsGap rest → text ≡ hash ∷ (body ++ line_feed ∷ rest) → IsGap text
  block : {text : List ℕ} (body rest : List ℕ) → has_close body ≡ false → IsGap rest → text ≡ slash ∷ star ∷ (body ++ star ∷ slash ∷ rest) → IsGap text

-- empty, or a comment that ends with the text
pub data IsOpenLine (text : List ℕ) : Type 0 where
  none : text ≡ [] → IsOpenLine text
  comment : (body : List ℕ) → IsOneLine body → text ≡ hash ∷ body → IsOpenLine text

-- the blanks and comments at the end of a text
pub record IsLastGap (text : List ℕ) : Type 0 where
  pub front : List ℕ
  pub line : List ℕ
  pub joined : text ≡ front ++ line
  pub gap : IsGap front
  pub last : IsOpenLine line

-- a comment that is not closed
pub record IsOpenComment (text : List ℕ) : Type 0 where
  pub body : List ℕ
  pub is : text ≡ slash ∷ star ∷ body
  pub unclosed : has_close body ≡ false
