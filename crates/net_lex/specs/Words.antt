-- The tables of AMPL's reserved words and punctuation in this profile (AMPL book, section A.1;
-- punctuation as in sections A.4 to A.8).
use Rattle.std.specs.Prelude.{ℕ, Bool, List, [], ◌∷◌, length, fold, max, nat_eq, if◌then◌else◌, codes}
use Rattle.std.specs.List.{list_any, starts_with}
use Rattle.std.specs.Str.{bytes_eq}

-- the reserved words of models
abbrev pub reserved : List (List ℕ)
reserved =
    codes "and" ∷ codes "arc" ∷ codes "by" ∷ codes "check" ∷ codes "cross" ∷ codes "default" ∷ codes "diff" ∷ codes "dimen" ∷ codes "div"
    ∷ codes "else" ∷ codes "exists" ∷ codes "forall" ∷ codes "from" ∷ codes "if" ∷ codes "in" ∷ codes "Infinity" ∷ codes "integer" ∷ codes "inter"
    ∷ codes "less" ∷ codes "max" ∷ codes "maximize" ∷ codes "min" ∷ codes "minimize" ∷ codes "mod" ∷ codes "net_in" ∷ codes "net_out" ∷ codes "node"
    ∷ codes "not" ∷ codes "obj" ∷ codes "or" ∷ codes "param" ∷ codes "prod" ∷ codes "set" ∷ codes "setof" ∷ codes "sum" ∷ codes "symbolic"
    ∷ codes "symdiff" ∷ codes "then" ∷ codes "to" ∷ codes "union" ∷ codes "within" ∷ []

-- the punctuation of models
abbrev pub model_marks : List (List ℕ)
model_marks =
    codes ";" ∷ codes ":" ∷ codes "," ∷ codes "(" ∷ codes ")" ∷ codes "{" ∷ codes "}" ∷ codes "[" ∷ codes "]" ∷ codes ":=" ∷ codes ".." ∷ codes "."
    ∷ codes "+" ∷ codes "-" ∷ codes "*" ∷ codes "**" ∷ codes "/" ∷ codes "^" ∷ codes "&" ∷ codes "&&" ∷ codes "||" ∷ codes "!" ∷ codes "<" ∷ codes "<="
    ∷ codes ">" ∷ codes ">=" ∷ codes "=" ∷ codes "==" ∷ codes "<>" ∷ codes "!=" ∷ []

-- the punctuation of data files
abbrev pub data_marks : List (List ℕ)
data_marks = codes ";" ∷ codes ":" ∷ codes ":=" ∷ codes "," ∷ codes "(" ∷ codes ")" ∷ codes "[" ∷ codes "]" ∷ codes "*" ∷ []

-- whether the text is an entry of the table
abbrev pub is_among : List (List ℕ) → List ℕ → Bool
is_among table text = list_any (λ entry. bytes_eq entry text) table

-- the length of the longest entry with which the text begins, or 0
abbrev pub longest_among : List (List ℕ) → List ℕ → ℕ
longest_among table text = fold (λ n entry. if starts_with nat_eq text entry then max n (length entry) else n) 0 table

-- the length of the punctuation token with which the text begins, or 0
unfoldable pub model_mark_len : List ℕ → ℕ
model_mark_len text = longest_among model_marks text

unfoldable pub data_mark_len : List ℕ → ℕ
data_mark_len text = longest_among data_marks text

unfoldable pub is_reserved : List ℕ → Bool
is_reserved text = is_among reserved text
