-- A word that is read from its own eight bytes is the word.
use Rattle.std.specs.Prelude.{◌≡◌, ℕ, zero, suc, ◌+◌, ◌*◌, ◌/◌, ◌%◌, ◌^◌, ◌<◌, [], ◌∷◌}
use Rattle.std.proofs.Common.{ap, sym, ◌∙◌, arith}
use Rattle.std.proofs.Math.Nat.{mod-eq_of_lt}
use Rattle.std.proofs.lemmas.Nat.{from_le_bytes-to_le_bytes_8, mod_below}
use Rattle.std.specs.Hash.{le_bytes}
use Rattle.std.specs.Int.{byte_at}
use Rattle.net_sets.specs.declared.key.KeyedHasher.{KeyedHasher}
use Rattle.net_sets.specs.KeyedHash.{word_of, with_word, written}

-- the bytes so far are the highest of the word: the next one moves them down
moved : (word sum rest byte : ℕ) → word ≡ sum → sum ≡ 256 * rest → rest < 2 ^ 56 → byte < 256
    → (word / 256 + (byte * 2 ^ 56) % 2 ^ 64) % 2 ^ 64 ≡ rest + byte * 2 ^ 56
moved word sum rest byte e s small fits =
    let down : word / 256 ≡ rest = omega (arith, e, s) in
    let top : (byte * 2 ^ 56) % 2 ^ 64 ≡ byte * 2 ^ 56 = mod-eq_of_lt (omega (arith, fits)) in
    let whole : (rest + byte * 2 ^ 56) % 2 ^ 64 ≡ rest + byte * 2 ^ 56 = mod-eq_of_lt (omega (arith, small, fits)) in
    rw (down, top) whole

eight : (a b c d e f g h : ℕ) → a < 256 → b < 256 → c < 256 → d < 256 → e < 256 → f < 256 → g < 256 → h < 256
    → word_of (a ∷ b ∷ c ∷ d ∷ e ∷ f ∷ g ∷ h ∷ []) ≡ a + b * 2 ^ 8 + c * 2 ^ 16 + d * 2 ^ 24 + e * 2 ^ 32 + f * 2 ^ 40 + g * 2 ^ 48 + h * 2 ^ 56
eight a b c d e f g h i j k l m n o p =
    let q = moved 0 0 0 a (omega arith) (omega arith) (omega arith) i in
    let r = moved _ _ (a * 2 ^ 48) b q (omega arith) (omega (arith, i)) j in
    let s = moved _ _ (a * 2 ^ 40 + b * 2 ^ 48) c r (omega arith) (omega (arith, i, j)) k in
    let t = moved _ _ (a * 2 ^ 32 + b * 2 ^ 40 + c * 2 ^ 48) d s (omega arith) (omega (arith, i, j, k)) l in
    let u = moved _ _ (a * 2 ^ 24 + b * 2 ^ 32 + c * 2 ^ 40 + d * 2 ^ 48) e t (omega arith) (omega (arith, i, j, k, l)) m in
    let v = moved _ _ (a * 2 ^ 16 + b * 2 ^ 24 + c * 2 ^ 32 + d * 2 ^ 40 + e * 2 ^ 48) f u (omega arith) (omega (arith, i, j, k, l, m)) n in
    let w = moved _ _ (a * 2 ^ 8 + b * 2 ^ 16 + c * 2 ^ 24 + d * 2 ^ 32 + e * 2 ^ 40 + f * 2 ^ 48) g v (omega arith) (omega (arith, i, j, k, l, m, n)) o in
    moved _ _ (a + b * 2 ^ 8 + c * 2 ^ 16 + d * 2 ^ 24 + e * 2 ^ 32 + f * 2 ^ 40 + g * 2 ^ 48) h w (omega arith) (omega (arith, i, j, k, l, m, n, o)) p

word_is : (n : ℕ) → n < 2 ^ 64 → word_of (le_bytes 8 n) ≡ n
unfolding le_bytes
word_is n fits =
    eight (byte_at 0 n) (byte_at 1 n) (byte_at 2 n) (byte_at 3 n) (byte_at 4 n) (byte_at 5 n) (byte_at 6 n) (byte_at 7 n)
    (byte 0) (byte 1) (byte 2) (byte 3) (byte 4) (byte 5) (byte 6) (byte 7)
    ∙ from_le_bytes-to_le_bytes_8 n fits
  where
    byte : (i : ℕ) → byte_at i n < 256
    byte zero = mod_below n 256 (omega arith)
    byte (suc i) = mod_below (n / 256 ^ suc i) 256 (omega arith)

pub word_written : (h : KeyedHasher) (n : ℕ) → n < 2 ^ 64 → with_word h n ≡ written h (le_bytes 8 n)
word_written h n fits = ap (with_word h) (sym (word_is n fits))
