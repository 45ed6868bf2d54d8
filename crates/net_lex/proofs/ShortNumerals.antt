-- Digits alone, at most twelve, have a value within the limit.
use Rattle.std.proofs.Common.{◌≡◌, ℕ, suc, ◌+◌, ◌-◌, ◌*◌, ◌^◌, ◌<◌, ◌≤◌, true, List, [], ◌∷◌, ◌++◌, length, ℤ, pos, ap, sym, ◌∙◌, subst, append-nil, arith}
use Rattle.std.proofs.Math.Nat.{pow-suc}
use Rattle.std.proofs.lemmas.Bool.{and_parts}
use Rattle.std.proofs.lemmas.Bool.Decides.{nat_tests}
use Rattle.std.specs.List.{fold, list_all}
use Rattle.std.specs.Char.{is_ascii_digit}
use Rattle.net_lex.specs.Bytes.{digits_at}
use Rattle.net_lex.specs.Numerals.{AllDigits, AreDigits, digits_value, IsValue}
use Rattle.net_lex.proofs.Tens.{ten_small}
use Rattle.net_lex.proofs.NumeralLemmas.{digits_all, digits_joined}
use Rattle.net_lex.proofs.NumeralSigned.{digits_spell}

one_more : (n m c : ℕ) → is_ascii_digit c ≡ true → n < m → 10 * n + (c - 48) < 10 * m
one_more n m c digit less = let small : c ≤ 57 = grind (arith, nat_tests) in omega arith

ten_times : (m k : ℕ) → (10 * m) * 10 ^ k ≡ m * 10 ^ suc k
ten_times m k = let more : 10 ^ suc k ≡ 10 * 10 ^ k = omega (arith, pow-suc 10 k) in rw more (omega arith)

-- each digit makes the bound ten times as large
digits_below : (n m : ℕ) (text : List ℕ) → AllDigits text → n < m → fold (λ n c. 10 * n + (c - 48)) n text < m * 10 ^ length text
digits_below n m [] all less = omega arith
digits_below n m (c ∷ cs) all less =
    let (here, more) = and_parts (is_ascii_digit c) (list_all is_ascii_digit cs) all in
    subst (λ k. fold (λ n c. 10 * n + (c - 48)) (10 * n + (c - 48)) cs < k) (ten_times m (length cs))
    (digits_below (10 * n + (c - 48)) (10 * m) cs more (one_more n m c here less))

pub digits_small : (text : List ℕ) → AllDigits text → length text ≤ 12 → digits_value text ≤ 1000000000000
digits_small text all short = omega (arith, digits_below 0 1 text all (omega arith), ten_small (length text) short)

-- a word of which only digits are read
pub plain_word : (text : List ℕ) → 6 ≤ length text → length text ≤ 12 → (digits_at text).1 ≡ [] → (length text ≤ 12) × AreDigits text
plain_word text some short none = (short, record { some = omega (arith, some); all = subst AllDigits (sym whole) (digits_all text) })
  where
    whole : text ≡ (digits_at text).0
    whole = digits_joined text ∙ ap (λ rest. (digits_at text).0 ++ rest) none ∙ append-nil (digits_at text).0

pub plain_numeral : (text : List ℕ) → (length text ≤ 12) × AreDigits text → (v : ℤ) × IsValue 1000000000000 text v
plain_numeral text (short, digits) = (pos (digits_value text), digits_spell text digits (digits_small text digits.all short))
