-- The number of a numeral is the value that it is read as.
use Rattle.std.specs.Prelude.{◌≡◌, ℕ, ◌+◌, ◌-◌, ◌*◌, ◌==◌, List, [], ◌∷◌, Option, None, Some, Result, Ok, Err, ℤ, fold}
use Rattle.std.proofs.Common.{refl, sym, ap, ◌∙◌, arith, inl, subst}
use Rattle.std.proofs.lemmas.List.Sums.{fold-append}
use Rattle.net_lex.specs.declared.whole.NumFault.{NumFault}
use Rattle.net_lex.specs.declared.whole.NumFault.TheVariants.{NotNumeral, NotWhole, TooLarge}
use Rattle.net_lex.specs.Bytes.{first, minus, after_sign}
use Rattle.net_lex.specs.Limits.{limits}
use Rattle.net_lex.specs.Numerals.{Parts, AllDigits, mantissa, up, down, signed, IsWhole, IsSized, IsValue, IsNumFault}
use Rattle.net_lex.specs.NumeralFront.{numeral_at}
use Rattle.net_lex.specs.Significands.{Significand, with_digits}
use Rattle.net_lex.proofs.SignificandLemmas.{number, digits_number, digits_end}
use Rattle.net_lex.proofs.WholeValues.{whole_value_sized}
use Rattle.net_lex.proofs.NumeralSigned.{signed_read, signed_spelled, read_digits}
use Rattle.net_lex.proofs.FaultReading.{whole_unique}
use Rattle.std.specs.List.{AllByRecursion}
use Rattle.net_lex.specs.declared.token.Token.{Token}
use Rattle.net_lex.specs.Reading.{IsSound, AreSound}
use Rattle.net_tree.specs.Role.{role_as, role_of}
use Rattle.net_tree.specs.Numerals.{significant, whole_size, with_sign, if_whole, number_in, number_as, number_of, HasNumber, NumeralsHaveNumbers}

abbrev nothing : Significand
nothing = record { digits = 0; zeros = 0 }

mantissa_is : (p : Parts) → mantissa p ≡ number (significant p)
mantissa_is p =
    fold-append (λ n c. 10 * n + (c - 48)) 0 p.whole p.fraction
    ∙ (ap (λ n. fold (λ n c. 10 * n + (c - 48)) n p.fraction) (digits_number nothing p.whole) ∙ digits_number (with_digits nothing p.whole) p.fraction)

-- what scaling gives is the whole value of the numeral's parts, or says why there is none
whole_sized : (p : Parts) → AllDigits p.whole × AllDigits p.fraction → IsSized limits.value (mantissa p) (up p) (down p) (whole_size p)
whole_sized p (w, f) =
    whole_value_sized limits.value (mantissa p) (significant p).digits (significant p).zeros (up p) (down p) (mantissa_is p)
    (digits_end _ p.fraction f (digits_end nothing p.whole w (inl refl)))

-- a whole value of the parts is the one that scaling gives
size_is : (limit : ℕ) (p : Parts) (size : ℕ) (b : _) (r : Result ℕ NumFault) → IsSized limit (mantissa p) (up p) (down p) r
    → IsSized limit (mantissa p) (up p) (down p) (Ok size) → with_sign b r ≡ Some (signed b size)
size_is limit p size b (Ok n) (whole, small) (other, within) = ap (λ k. Some (signed b k)) (whole_unique _ _ _ n size whole other)
size_is limit p size b (Err NotNumeral) none (other, within) = absurd none
size_is limit p size b (Err NotWhole) none (other, within) = absurd (none size other)
size_is limit p size b (Err TooLarge) (n, whole, large) (other, within) =
    let e : n ≡ size = whole_unique _ _ _ n size whole other in absurd (omega arith)

pub value_is : (text : List ℕ) (v : ℤ) → IsValue limits.value text v → number_in text ≡ Some v
unfolding number_in
value_is text v h =
    let (read, sign) = signed_read text h.negative h.parts h.spelled in
    ap (if_whole text) read
    ∙ size_is limits.value h.parts h.size (first text == minus) (whole_size h.parts) (whole_sized h.parts (read_digits _ _ h.parts read)) (h.whole, h.within)
    ∙ ap (λ b. Some (signed b h.size)) sign ∙ ap Some (sym h.is)

-- a numeral without such a value has no number
no_size : (limit : ℕ) (p : Parts) (b : _) (r : Result ℕ NumFault) → ((n : ℕ) → r ≡ Ok n → ⊥) → with_sign b r ≡ None
no_size limit p b (Ok n) h = absurd (h n refl)
no_size limit p b (Err why) h = refl

abbrev parts_or : Parts → Option (Parts × List ℕ) → Parts
parts_or d None = d
parts_or d (Some x) = x.0

-- a value and a fault exclude each other
excluded : (limit : ℕ) (text : List ℕ) (p : Parts) (n : ℕ) (why : NumFault) → numeral_at (after_sign text) ≡ Some (p, [])
    → IsSized limit (mantissa p) (up p) (down p) (Ok n) → IsNumFault limit text why → ⊥
excluded limit text p n NotNumeral e sized h = h (first text == minus) p (signed_spelled text p e)
excluded limit text p n NotWhole e (whole, small) (negative, q, spelled, none) =
    let parts : q ≡ p = ap (parts_or p) (sym (signed_read text negative q spelled).0 ∙ e) in
    none n (subst (λ k. IsWhole (mantissa k) (up k) (down k) n) (sym parts) whole)
excluded limit text p n TooLarge e (whole, small) (negative, q, m, spelled, other, large) =
    let parts : q ≡ p = ap (parts_or p) (sym (signed_read text negative q spelled).0 ∙ e) in
    let equal : m ≡ n = whole_unique _ _ _ m n (subst (λ k. IsWhole (mantissa k) (up k) (down k) m) parts other) whole in omega arith

pub fault_is : (text : List ℕ) (why : NumFault) → IsNumFault limits.value text why → number_in text ≡ None
unfolding number_in
fault_is text why h = go (numeral_at (after_sign text)) refl
  where
    go : (o : Option (Parts × List ℕ)) → numeral_at (after_sign text) ≡ o → if_whole text o ≡ None
    go None e = refl
    go (Some (p, [])) e =
        no_size limits.value p (first text == minus) (whole_size p) (λ n r.
        let sized : IsSized limits.value (mantissa p) (up p) (down p) (Ok n) = subst (λ k. IsSized limits.value (mantissa p) (up p) (down p) k) r (whole_sized p (read_digits _ _ p e)) in
        excluded limits.value text p n why e sized h)
    go (Some (p, c ∷ cs)) e = refl

-- ---- the numerals of a text

has_number : (t : Token) → IsSound limits.token limits.value t.kind t.text → HasNumber t
unfolding number_of role_of
has_number t sound num =
    let (n, is) = sound.value num in
    (n, ap (λ k. number_as (role_as k t.text) t.text) num ∙ value_is t.text n is)

have_numbers : (tokens : List Token) → AreSound limits.token limits.value tokens → AllByRecursion HasNumber tokens
have_numbers [] sound = tt
have_numbers (t ∷ tokens) sound = (has_number t sound.0, have_numbers tokens sound.1)

pub numerals_have_numbers : NumeralsHaveNumbers
numerals_have_numbers language text tokens are = have_numbers tokens are.sound
