-- A line that goes on from what is kept of its front says what the line says.
use Rattle.std.proofs.Common.{◌≡◌, ◌≤◌, ◌<◌, ℕ, ◌+◌, Bool, true, false, cond, List, [], ◌∷◌, ◌++◌, refl, sym, ap, subst, ◌∙◌, length, map, append_assoc, append-nil, arith}
use Rattle.std.specs.Prelude.{filter}
use Rattle.std.specs.List.{AllByRecursion, slice_split, onto_first}
use Rattle.std.proofs.lemmas.List.{map-append, length-append, length-map, nil_from_length}
use Rattle.net_dimacs.specs.Lines.{is_blank, is_feed, has_byte, fields_of, HasNone, IsFirstField}
use Rattle.net_dimacs.specs.OpenLines.{View, view, StandsFor, IsSameStatement, short_field}
use Rattle.net_dimacs.proofs.Fronts.{after_blank, some_field}
use Rattle.net_dimacs.proofs.Lists.{all_append}
use Rattle.net_dimacs.proofs.ShortFields.{short_stands}
use Rattle.net_dimacs.proofs.Views.{line_seen, seen, seven_decide}

-- ---- fields that go on

pub some_part : (test : ℕ → Bool) (bytes : List ℕ) → (part : List ℕ) × (parts : List (List ℕ)) × (slice_split test bytes ≡ part ∷ parts)
some_part test [] = ([], [], refl)
some_part test (x ∷ bytes) = step (test x) (some_part test bytes)
  where
    step : (b : Bool) → (part : List ℕ) × (parts : List (List ℕ)) × (slice_split test bytes ≡ part ∷ parts)
        → (part : List ℕ) × (parts : List (List ℕ)) × (cond b ([] ∷ slice_split test bytes) (onto_first x (slice_split test bytes)) ≡ part ∷ parts)
    step true p = ([], slice_split test bytes, refl)
    step false p = (x ∷ p.0, p.1, ap (onto_first x) p.2)

-- bytes of which none separates are the front of the first part
pub front_part : (test : ℕ → Bool) (front more part : List ℕ) (parts : List (List ℕ)) → HasNone test front → slice_split test more ≡ part ∷ parts → slice_split test (front ++ more) ≡ (front ++ part) ∷ parts
front_part test [] more part parts none e = e
front_part test (x ∷ front) more part parts none e =
    ap (λ (t : Bool). cond t ([] ∷ slice_split test (front ++ more)) (onto_first x (slice_split test (front ++ more)))) none.0
    ∙ ap (onto_first x) (front_part test front more part parts none.1 e)

blanks_on : (blanks more : List ℕ) → AllByRecursion (λ b. is_blank b ≡ true) blanks → fields_of (blanks ++ more) ≡ fields_of more
blanks_on [] more all = refl
blanks_on (b ∷ blanks) more all = after_blank b (blanks ++ more) all.0 ∙ blanks_on blanks more all.1

longer : (field part : List ℕ) → 0 < length field → 0 < length (field ++ part)
longer [] part some = absurd (omega (arith, some))
longer (b ∷ field) part some = omega arith

open_on : (field more part : List ℕ) (parts : List (List ℕ)) → 0 < length field → HasNone is_blank field → slice_split is_blank more ≡ part ∷ parts
    → fields_of (field ++ more) ≡ (field ++ part) ∷ filter has_byte parts
open_on field more part parts some solid e =
    ap (filter has_byte) (front_part is_blank field more part parts solid e) ∙ some_field (field ++ part) parts (longer field part some)

field_on : (field : List ℕ) (b : ℕ) (more : List ℕ) → 0 < length field → HasNone is_blank field → is_blank b ≡ true → fields_of (field ++ b ∷ more) ≡ field ∷ fields_of more
field_on field b more some solid blank =
    open_on field (b ∷ more) [] (slice_split is_blank more) some solid (ap (λ (t : Bool). cond t ([] ∷ slice_split is_blank more) (onto_first b (slice_split is_blank more))) blank)
    ∙ ap (λ (f : List ℕ). f ∷ fields_of more) (append-nil field)

open_alike : (short field more : List ℕ) → 0 < length field → HasNone is_blank field → StandsFor short field → map view (fields_of (short ++ more)) ≡ map view (fields_of (field ++ more))
open_alike short field more some solid s =
    let p = some_part is_blank more in
    ap (map view) (open_on short more p.0 p.1 s.some s.solid p.2)
    ∙ ap (λ (v : View). v ∷ map view (filter has_byte p.1)) (s.alike p.0)
    ∙ sym (ap (map view) (open_on field more p.0 p.1 some solid p.2))

-- ---- the front of a line, field by field

-- what is kept of a front of a line: so many whole fields, behind which the rest goes on as behind that front
pub record IsCutFront (line front rest : List ℕ) (count : ℕ) : Type 0 where
  pub fields : List (List ℕ)
  pub many : length fields ≡ count
  pub ahead : (more : List ℕ) → fields_of (front ++ more) ≡ fields ++ fields_of more
  pub alike : (more : List ℕ) → map view (fields_of (line ++ more)) ≡ map view (fields ++ fields_of (rest ++ more))

pub nothing_cut : (line : List ℕ) → IsCutFront line [] line 0
nothing_cut line = record { fields = []; many = refl; ahead = λ more. refl; alike = λ more. refl }

said_alike : (front line : List ℕ) → ((more : List ℕ) → map view (fields_of (front ++ more)) ≡ map view (fields_of (line ++ more))) → IsSameStatement front line
said_alike front line same more = line_seen (front ++ more) ∙ ap seen (same more) ∙ sym (line_seen (line ++ more))

-- the first field of a rest, and what goes on behind it
rest_on : (rest field after more : List ℕ) → IsFirstField rest field after → fields_of (rest ++ more) ≡ fields_of (field ++ (after ++ more))
rest_on rest field after more f =
    ap (λ (l : List ℕ). fields_of (l ++ more)) f.whole
    ∙ ap fields_of (append_assoc f.blanks (field ++ after) more)
    ∙ blanks_on f.blanks ((field ++ after) ++ more) f.before
    ∙ ap fields_of (append_assoc field after more)

first_on : (rest field after more : List ℕ) → IsFirstField rest field after → 0 < length after → fields_of (rest ++ more) ≡ field ∷ fields_of (after ++ more)
first_on rest field [] more f left = absurd (omega (arith, left))
first_on rest field (b ∷ after) more f left =
    rest_on rest field (b ∷ after) more f ∙ field_on field b (after ++ more) f.some f.solid f.behind
    ∙ ap (λ (fs : List (List ℕ)). field ∷ fs) (sym (after_blank b (after ++ more) f.behind))

-- one more field
pub field_cut : (line front rest field after short : List ℕ) (count : ℕ) → IsCutFront line front rest count → IsFirstField rest field after → 0 < length after → StandsFor short field
    → IsCutFront line ((front ++ short) ++ 32 ∷ []) after (count + 1)
field_cut line front rest field after short count h f left s = record {
  fields = h.fields ++ short ∷ [];
  many = length-append h.fields (short ∷ []) ∙ ap (λ (n : ℕ). n + 1) h.many;
  ahead = λ more.
      ap fields_of (append_assoc (front ++ short) (32 ∷ []) more ∙ append_assoc front short (32 ∷ more))
      ∙ h.ahead (short ++ 32 ∷ more)
      ∙ ap (λ (fs : List (List ℕ)). h.fields ++ fs) (field_on short 32 more s.some s.solid refl)
      ∙ sym (append_assoc h.fields (short ∷ []) (fields_of more));
  alike = λ more.
      h.alike more
      ∙ ap (λ (fs : List (List ℕ)). map view (h.fields ++ fs)) (first_on rest field after more f left)
      ∙ map-append view h.fields (field ∷ fields_of (after ++ more))
      ∙ ap (λ (v : View). map view h.fields ++ v ∷ map view (fields_of (after ++ more))) (sym (view_same short field s))
      ∙ sym (map-append view h.fields (short ∷ fields_of (after ++ more)))
      ∙ ap (map view) (sym (append_assoc h.fields (short ∷ []) (fields_of (after ++ more))));
}
  where
    view_same : (short field : List ℕ) → StandsFor short field → view short ≡ view field
    view_same short field s = ap view (sym (append-nil short)) ∙ s.alike [] ∙ ap view (append-nil field)

-- nothing but blanks is left
pub blanks_left : (line front rest : List ℕ) (count : ℕ) → IsCutFront line front rest count → AllByRecursion (λ b. is_blank b ≡ true) rest → IsSameStatement front line
blanks_left line front rest count h all =
    said_alike front line (λ more.
    ap (map view) (h.ahead more)
    ∙ ap (λ (fs : List (List ℕ)). map view (h.fields ++ fs)) (sym (blanks_on rest more all))
    ∙ sym (h.alike more))

-- the last field goes on
pub field_left : (line front rest field after short : List ℕ) (count : ℕ) → IsCutFront line front rest count → IsFirstField rest field after → length after ≡ 0 → StandsFor short field
    → IsSameStatement (front ++ short) line
field_left line front rest field after short count h f none s =
    said_alike (front ++ short) line (λ more.
    ap (λ (l : List ℕ). map view (fields_of l)) (append_assoc front short more)
    ∙ ap (map view) (h.ahead (short ++ more))
    ∙ map-append view h.fields (fields_of (short ++ more))
    ∙ ap (λ (vs : List View). map view h.fields ++ vs) (open_alike short field more f.some f.solid s)
    ∙ sym (map-append view h.fields (fields_of (field ++ more)))
    ∙ ap (λ (l : List ℕ). map view (h.fields ++ fields_of (field ++ (l ++ more)))) (sym (nil_from_length after none))
    ∙ ap (λ (fs : List (List ℕ)). map view (h.fields ++ fs)) (sym (rest_on rest field after more f))
    ∙ sym (h.alike more))

-- as many fields as decide
pub seven_cut : (line front rest : List ℕ) (count : ℕ) → IsCutFront line front rest count → 7 ≤ count → IsSameStatement front line
seven_cut line front rest count h enough more =
    let many : 7 ≤ length (map view h.fields) = let e = length-map h.fields view in let m = h.many in omega (arith, e, m, enough) in
    line_seen (front ++ more)
    ∙ ap (λ (fs : List (List ℕ)). seen (map view fs)) (h.ahead more)
    ∙ ap seen (map-append view h.fields (fields_of more))
    ∙ seven_decide (map view h.fields) (map view (fields_of more)) (map view (fields_of (rest ++ more))) many
    ∙ ap seen (sym (map-append view h.fields (fields_of (rest ++ more))))
    ∙ ap seen (sym (h.alike more))
    ∙ sym (line_seen (line ++ more))

-- ---- no LF

pub all_parts : {A : Type 0} (P : A → Type 0) (xs ys : List A) → AllByRecursion P (xs ++ ys) → AllByRecursion P xs × AllByRecursion P ys
all_parts P [] ys all = (tt, all)
all_parts P (x ∷ xs) ys all = let more = all_parts P xs ys all.1 in ((all.0, more.0), more.1)

-- what is kept of the first field stands for it
pub first_stands : (rest field after : List ℕ) → IsFirstField rest field after → HasNone is_feed rest → StandsFor (short_field field) field
first_stands rest field after f none =
    let P : ℕ → Type 0 = λ b. is_feed b ≡ false in
    let behind = all_parts P f.blanks (field ++ after) (subst (AllByRecursion P) f.whole none) in
    let here = all_parts P field after behind.1 in
    short_stands field f.some f.solid here.0

pub after_feedless : (rest field after : List ℕ) → IsFirstField rest field after → HasNone is_feed rest → HasNone is_feed after
after_feedless rest field after f none =
    let P : ℕ → Type 0 = λ b. is_feed b ≡ false in
    let behind = all_parts P f.blanks (field ++ after) (subst (AllByRecursion P) f.whole none) in
    let here = all_parts P field after behind.1 in
    here.1

-- a field more, and a blank
pub next_feedless : (front short : List ℕ) → HasNone is_feed front → HasNone is_feed short → HasNone is_feed ((front ++ short) ++ 32 ∷ [])
next_feedless front short kept next = all_append (λ b. is_feed b ≡ false) (front ++ short) (32 ∷ []) (all_append (λ b. is_feed b ≡ false) front short kept next) (refl, tt)
