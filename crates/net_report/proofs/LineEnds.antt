-- Texts as they stand in a line, by the pieces between line ends.
use Rattle.std.specs.Prelude.{◌≡◌, ℕ, ◌+◌, ◌<◌, ◌≤◌, Bool, true, not, List, [], ◌∷◌, ◌++◌, length, take, drop, slice_index}
use Rattle.std.specs.List.{prefix_len}
use Rattle.std.proofs.Common.{◌⊎◌, inl, inr, refl, ap, sym, ◌∙◌, subst, arith, length-append, take_at}
use Rattle.std.proofs.lemmas.Bool.{cases_Bool}
use Rattle.std.proofs.lemmas.Bool.Decides.{nat_tests}
use Rattle.std.proofs.lemmas.List.{map-append}
use Rattle.std.proofs.Math.Seq.{get_or-append_seam, drop-append-add}
use Rattle.net_lex.specs.LineEnds.{ends_line}
use Rattle.net_report.specs.Links.{within_line, in_line}

abbrev pub stays : ℕ → Bool
stays b = not (ends_line b)

record LineEnd (text : List ℕ) : Type 0 where
  before : List ℕ
  byte : ℕ
  after : List ℕ
  parts : text ≡ before ++ (byte ∷ after)
  place : length before ≡ prefix_len stays text
  ends : ends_line byte ≡ true
  plain : in_line before ≡ before

find : (text : List ℕ) → ((in_line text ≡ text) × (prefix_len stays text ≡ length text)) ⊎ LineEnd text
find [] = inl (refl, refl)
find (b ∷ text) = elim (cases_Bool (ends_line b)) [
  | inl ends ↦ inr (record { before = []; byte = b; after = text; parts = refl; place = rw ends refl; ends = ends; plain = refl })
  | inr other ↦ elim (find text) [
    | inl whole ↦ inl (rw other (ap (λ (l : List ℕ). b ∷ l) whole.0), rw other (omega (arith, whole.1)))
    | inr cut ↦ inr (record {
      before = b ∷ cut.before;
      byte = cut.byte;
      after = cut.after;
      parts = ap (λ (l : List ℕ). b ∷ l) cut.parts;
      place = rw other (omega (arith, cut.place));
      ends = cut.ends;
      plain = rw other (ap (λ (l : List ℕ). b ∷ l) cut.plain);
    })
  ]
]

longer : (text : List ℕ) (cut : LineEnd text) → prefix_len stays text < length text
longer text cut = omega (arith, cut.place, ap length cut.parts, length-append cut.before (cut.byte ∷ cut.after))

pub whole_line : (text : List ℕ) → length text ≤ prefix_len stays text → in_line text ≡ text
whole_line text whole = elim (find text) [
  | inl plain ↦ plain.0
  | inr cut ↦ absurd (omega (arith, longer text cut, whole))
]

end_small : (b : ℕ) → ends_line b ≡ true → b < 128
end_small b h = grind (arith, nat_tests)

pub record IsCut (text : List ℕ) (n : ℕ) : Type 0 where
  pub value : in_line text ≡ take n text ++ (32 ∷ in_line (drop (n + 1) text))
  pub small : slice_index text n < 128

pub cut_line : (text : List ℕ) → prefix_len stays text < length text → IsCut text (prefix_len stays text)
cut_line text within = elim (find text) [
  | inl plain ↦ absurd (omega (arith, plain.1, within))
  | inr cut ↦ subst (IsCut text) cut.place (subst (λ t. IsCut t (length cut.before)) (sym cut.parts) (at cut.before cut.byte cut.after cut.ends cut.plain))
]
  where
    at : (before : List ℕ) (byte : ℕ) (after : List ℕ) → ends_line byte ≡ true → in_line before ≡ before → IsCut (before ++ (byte ∷ after)) (length before)
    at before byte after ends plain =
        let blank : within_line byte ≡ 32 = rw ends refl in
        let here = take_at before (byte ∷ after) (length before) refl in
        let behind = drop-append-add before (byte ∷ after) 1 in
        record {
          value = map-append within_line before (byte ∷ after) ∙ (λ i. plain i ++ (blank i ∷ in_line after)) ∙ (λ i. sym here i ++ (32 ∷ in_line (sym behind i)));
          small = subst (λ b. b < 128) (sym (get_or-append_seam before byte after 0)) (end_small byte ends);
        }
