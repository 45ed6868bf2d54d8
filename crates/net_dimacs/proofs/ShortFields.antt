-- What is kept of a field is seen as the field, however both go on.
use Rattle.std.proofs.Common.{◌≡◌, ◌≤◌, ◌<◌, ℕ, zero, suc, ◌+◌, ◌-◌, ◌*◌, ◌^◌, ◌==◌, min, Bool, true, false, cond, ◌&&◌, List, [], ◌∷◌, ◌++◌, ℤ, pos, neg_ℤ, Some, None, refl, sym, ap, subst, ◌∙◌, length, codes, arith}
use Rattle.std.specs.Prelude.{Option, nat_le, if◌then◌else◌}
use Rattle.std.specs.Option.{option_map}
use Rattle.std.specs.Char.{is_ascii_digit}
use Rattle.std.specs.Str.{all_ascii_digits}
use Rattle.std.specs.Fmt.{decimal}
use Rattle.std.proofs.lemmas.Bool.{eqb-true}
use Rattle.std.proofs.lemmas.Bool.Decides.{nat_tests}
use Rattle.std.proofs.lemmas.Fmt.{length-decimal-le}
use Rattle.net_dimacs.specs.declared.problem_line.LineKind.TheVariants as kinds
use Rattle.net_dimacs.specs.Limits.{open_field_limit}
use Rattle.net_dimacs.specs.Lines.{is_blank, is_feed, value_after, natural_of, HasNone}
use Rattle.net_dimacs.specs.Numbers.{greatest_signed, cut, cut_number}
use Rattle.net_dimacs.specs.Numerals.{size_of}
use Rattle.net_dimacs.specs.OpenLines.{View, view, StandsFor, number_text, short_number, short_long_field, short_field}
use Rattle.net_dimacs.proofs.Decimals.{are_digits, digits_value, some_digit, IsSolid, solid_digits}
use Rattle.net_dimacs.proofs.Lists.{all_map}
use Rattle.net_dimacs.proofs.Sizes.{size_is}

-- ---- digits that go on

value_on : (n : ℕ) (ds more : List ℕ) → value_after n (ds ++ more) ≡ value_after (value_after n ds) more
value_on n [] more = refl
value_on n (d ∷ ds) more = value_on (n * 10 + (d - 48)) ds more

and_assoc : (s t u : Bool) → (s && (t && u)) ≡ ((s && t) && u)
and_assoc true t u = refl
and_assoc false t u = refl

digits_on : (ds more : List ℕ) → all_ascii_digits (ds ++ more) ≡ (all_ascii_digits ds && all_ascii_digits more)
digits_on [] more = refl
digits_on (d ∷ ds) more = ap (λ (t : Bool). is_ascii_digit d && t) (digits_on ds more) ∙ and_assoc (is_ascii_digit d) (all_ascii_digits ds) (all_ascii_digits more)

-- numbers that are cut off alike stay so
value_alike : (top m n : ℕ) (ds : List ℕ) → min m top ≡ min n top → min (value_after m ds) top ≡ min (value_after n ds) top
value_alike top m n [] e = e
value_alike top m n (d ∷ ds) e = value_alike top (m * 10 + (d - 48)) (n * 10 + (d - 48)) ds (omega (arith, e))

natural_on : (ds more : List ℕ) → 0 < length ds → natural_of (ds ++ more) ≡ cond (all_ascii_digits ds && all_ascii_digits more) (Some (value_after (value_after 0 ds) more)) None
natural_on [] more some = absurd (omega (arith, some))
natural_on (d ∷ ds) more some =
    ap (λ (t : Bool). cond t (Some (value_after 0 ((d ∷ ds) ++ more))) None) (digits_on (d ∷ ds) more)
    ∙ ap (λ (n : ℕ). cond (all_ascii_digits (d ∷ ds) && all_ascii_digits more) (Some n) None) (value_on 0 (d ∷ ds) more)

no_natural : (ds more : List ℕ) → 0 < length ds → all_ascii_digits ds ≡ false → natural_of (ds ++ more) ≡ None
no_natural ds more some e = natural_on ds more some ∙ ap (λ (t : Bool). cond (t && all_ascii_digits more) (Some (value_after (value_after 0 ds) more)) None) e

-- a sign that numbers which are cut off alike have no part in
abbrev Cuts : (ℕ → ℤ) → Type 0
Cuts sign = (m n : ℕ) → min m greatest_signed ≡ min n greatest_signed → cut (sign m) ≡ cut (sign n)

cuts_pos : Cuts pos
cuts_pos m n e = ap pos e

abbrev minus : ℕ → ℤ
minus n = neg_ℤ (pos n)

cut_minus : (n : ℕ) → cut (minus n) ≡ minus (min n greatest_signed)
cut_minus zero = ap minus (let e : 0 ≡ min 0 greatest_signed = omega arith in e)
cut_minus (suc n) = refl

cuts_minus : Cuts minus
cuts_minus m n e = cut_minus m ∙ ap minus e ∙ sym (cut_minus n)

cut_alike : (sign : ℕ → ℤ) → Cuts sign → (t : Bool) (m n : ℕ) → min m greatest_signed ≡ min n greatest_signed
    → option_map cut (option_map sign (cond t (Some m) None)) ≡ option_map cut (option_map sign (cond t (Some n) None))
cut_alike sign cuts true m n e = ap Some (cuts m n e)
cut_alike sign cuts false m n e = refl

all_natural : (ds more : List ℕ) → 0 < length ds → all_ascii_digits ds ≡ true → natural_of (ds ++ more) ≡ cond (all_ascii_digits more) (Some (value_after (value_after 0 ds) more)) None
all_natural ds more some e = natural_on ds more some ∙ ap (λ (t : Bool). cond (t && all_ascii_digits more) (Some (value_after (value_after 0 ds) more)) None) e

digits_alike : (sign : ℕ → ℤ) → Cuts sign → (ds es more : List ℕ) → 0 < length ds → 0 < length es → all_ascii_digits ds ≡ true → all_ascii_digits es ≡ true
    → min (value_after 0 ds) greatest_signed ≡ min (value_after 0 es) greatest_signed
    → option_map cut (option_map sign (natural_of (ds ++ more))) ≡ option_map cut (option_map sign (natural_of (es ++ more)))
digits_alike sign cuts ds es more some_d some_e all_d all_e e =
    ap (λ (o : Option ℕ). option_map cut (option_map sign o)) (all_natural ds more some_d all_d)
    ∙ cut_alike sign cuts (all_ascii_digits more) (value_after (value_after 0 ds) more) (value_after (value_after 0 es) more) (value_alike greatest_signed (value_after 0 ds) (value_after 0 es) more e)
    ∙ sym (ap (λ (o : Option ℕ). option_map cut (option_map sign o)) (all_natural es more some_e all_e))

-- ---- a number

-- what is seen of a field that is a number or nothing
abbrev plain : Option ℤ → View
plain number = record { kind = kinds.Other; is_min = false; number = number }

-- the size of digits is their number, cut off, or they are no digits
record IsSizeOf (digits : List ℕ) (size : ℕ) : Type 0 where
  all : all_ascii_digits digits ≡ true
  value : size ≡ min (value_after 0 digits) (2 ^ 64 - 1)

no_size_by : (t : Bool) (v top : ℕ) → option_map (λ n. min n top) (cond t (Some v) None) ≡ None → t ≡ false
no_size_by true v top e = absurd cc
no_size_by false v top e = refl

no_size : (digits : List ℕ) → 0 < length digits → size_of (2 ^ 64 - 1) digits ≡ None → all_ascii_digits digits ≡ false
no_size [] some e = absurd (omega (arith, some))
no_size (d ∷ ds) some e = no_size_by (all_ascii_digits (d ∷ ds)) (value_after 0 (d ∷ ds)) (2 ^ 64 - 1) (sym (size_is (2 ^ 64 - 1) (d ∷ ds)) ∙ e)

size_by : (t : Bool) (v top size : ℕ) → option_map (λ n. min n top) (cond t (Some v) None) ≡ Some size → (t ≡ true) × (size ≡ min v top)
size_by true v top size e = (refl, let same : min v top ≡ size = cc in sym same)
size_by false v top size e = absurd cc

some_size : (digits : List ℕ) (size : ℕ) → 0 < length digits → size_of (2 ^ 64 - 1) digits ≡ Some size → IsSizeOf digits size
some_size [] size some e = absurd (omega (arith, some))
some_size (d ∷ ds) size some e =
    let p = size_by (all_ascii_digits (d ∷ ds)) (value_after 0 (d ∷ ds)) (2 ^ 64 - 1) size (sym (size_is (2 ^ 64 - 1) (d ∷ ds)) ∙ e) in
    record { all = p.0; value = p.1 }

number_alike : (head : ℕ) (sign : ℕ → ℤ) → Cuts sign → ((xs : List ℕ) → view (head ∷ xs) ≡ plain (option_map cut (option_map sign (natural_of xs))))
    → (digits more : List ℕ) → 0 < length digits → view (short_number head digits ++ more) ≡ plain (option_map cut (option_map sign (natural_of (digits ++ more))))
number_alike head sign cuts sees digits more some = go (size_of (2 ^ 64 - 1) digits) refl
  where
    go : (o : Option ℕ) → size_of (2 ^ 64 - 1) digits ≡ o → view (number_text head o ++ more) ≡ plain (option_map cut (option_map sign (natural_of (digits ++ more))))
    go None e = sym (ap (λ (o : Option ℕ). plain (option_map cut (option_map sign o))) (no_natural digits more some (no_size digits some e)))
    go (Some size) e =
        let s = some_size digits size some e in
        let value = s.value in
        let small : size < 2 ^ 128 = omega (arith, value) in
        let same : min (value_after 0 (decimal size)) greatest_signed ≡ min (value_after 0 digits) greatest_signed =
        ap (λ (n : ℕ). min n greatest_signed) (digits_value size small) ∙ omega (arith, value) in
        sees (decimal size ++ more) ∙ ap plain (digits_alike sign cuts (decimal size) digits more (some_digit size small) some (are_digits size small) s.all same)

-- its bytes
abbrev HasFew : List ℕ → Type 0
HasFew bytes = (0 < length bytes) × (length bytes ≤ open_field_limit) × HasNone is_blank bytes × HasNone is_feed bytes

number_few : (head : ℕ) (digits : List ℕ) → 0 < length digits → IsSolid head → HasFew (short_number head digits)
number_few head digits some solid = go (size_of (2 ^ 64 - 1) digits) refl
  where
    go : (o : Option ℕ) → size_of (2 ^ 64 - 1) digits ≡ o → HasFew (number_text head o)
    go None e = (omega arith, omega arith, (refl, tt), (refl, tt))
    go (Some size) e =
        let s = some_size digits size some e in
        let value = s.value in
        let short : length (decimal size) ≤ 20 = length-decimal-le 20 size (omega arith) (omega (arith, value)) (omega (arith, value)) in
        let all = solid_digits (decimal size) (are_digits size (omega (arith, value))) in (
          omega arith,
          omega (arith, short),
          (solid.no_blank, all_map IsSolid (λ b. is_blank b ≡ false) (decimal size) (λ b s. s.no_blank) all),
          (solid.no_feed, all_map IsSolid (λ b. is_feed b ≡ false) (decimal size) (λ b s. s.no_feed) all),
        )

-- ---- a long field

and_none : (t : Bool) → (t && false) ≡ false
and_none true = refl
and_none false = refl

view_by : (c p n a m : Bool) (z : Option ℤ) → c ≡ false → p ≡ false → n ≡ false → a ≡ false → m ≡ false
    → (record { kind = cond c kinds.Comment (cond p kinds.Problem (cond n kinds.Node (cond a kinds.Arc kinds.Other))); is_min = m; number = z }) ≡ plain z
view_by true p n a m z e1 e2 e3 e4 e5 = absurd cc
view_by false true n a m z e1 e2 e3 e4 e5 = absurd cc
view_by false false true a m z e1 e2 e3 e4 e5 = absurd cc
view_by false false false true m z e1 e2 e3 e4 e5 = absurd cc
view_by false false false false true z e1 e2 e3 e4 e5 = absurd cc
view_by false false false false false z e1 e2 e3 e4 e5 = refl

-- past three bytes it is a comment's, a number or nothing
view_long : (b : ℕ) (bs : List ℕ) → (b == 99) ≡ false → 3 ≤ length bs → view (b ∷ bs) ≡ plain (cut_number (b ∷ bs))
view_long b [] e h = absurd (omega (arith, h))
view_long b (c ∷ []) e h = absurd (omega (arith, h))
view_long b (c ∷ d ∷ []) e h = absurd (omega (arith, h))
view_long b (c ∷ d ∷ x ∷ more) e h =
    let min_of : (s t : Bool) → (s && (t && ((d == 110) && false))) ≡ false = λ s t. ap (λ (u : Bool). s && (t && u)) (and_none (d == 110)) ∙ ap (λ (u : Bool). s && u) (and_none t) ∙ and_none s in
    view_by (b == 99) ((b == 112) && false) ((b == 110) && false) ((b == 97) && false) ((b == 109) && ((c == 105) && ((d == 110) && false))) (cut_number (b ∷ c ∷ d ∷ x ∷ more))
    e (and_none (b == 112)) (and_none (b == 110)) (and_none (b == 97)) (min_of (b == 109) (c == 105))

unsigned_by : (p m : Bool) (x y z : Option ℤ) → p ≡ false → m ≡ false → cond p x (cond m y z) ≡ z
unsigned_by true m x y z e f = absurd cc
unsigned_by false true x y z e f = absurd cc
unsigned_by false false x y z e f = refl

stands_with : (short field : List ℕ) → HasFew short → ((more : List ℕ) → view (short ++ more) ≡ view (field ++ more)) → StandsFor short field
stands_with short field few alike = record { alike = alike; some = few.0; few = few.1; solid = few.2; whole = few.3 }

longer : (bs more : List ℕ) → 3 ≤ length bs → 3 ≤ length (bs ++ more)
longer [] more h = absurd (omega (arith, h))
longer (a ∷ []) more h = absurd (omega (arith, h))
longer (a ∷ b ∷ []) more h = absurd (omega (arith, h))
longer (a ∷ b ∷ c ∷ bs) more h = omega arith

signed_stands : (head b : ℕ) (bs : List ℕ) (sign : ℕ → ℤ) → b ≡ head → Cuts sign → IsSolid head → ((xs : List ℕ) → view (head ∷ xs) ≡ plain (option_map cut (option_map sign (natural_of xs)))) → 0 < length bs
    → StandsFor (short_number head bs) (b ∷ bs)
signed_stands head b bs sign e cuts solid sees some =
    subst (λ (x : ℕ). StandsFor (short_number head bs) (x ∷ bs)) (sym e)
    (stands_with (short_number head bs) (head ∷ bs) (number_few head bs some solid) (λ more. number_alike head sign cuts sees bs more some ∙ sym (sees (bs ++ more))))

comment_stands : (b : ℕ) (bs : List ℕ) → b ≡ 99 → StandsFor (codes "c") (b ∷ bs)
comment_stands b bs e =
    subst (λ (x : ℕ). StandsFor (codes "c") (x ∷ bs)) (sym e)
    (stands_with (99 ∷ []) (99 ∷ bs) (omega arith, omega arith, (refl, tt), (refl, tt)) (λ more. refl))

unsigned_stands : (b : ℕ) (bs : List ℕ) → (b == 99) ≡ false → (b == 43) ≡ false → (b == 45) ≡ false → 3 ≤ length bs → StandsFor (short_number 43 (b ∷ bs)) (b ∷ bs)
unsigned_stands b bs c p m long =
    stands_with (short_number 43 (b ∷ bs)) (b ∷ bs)
    (number_few 43 (b ∷ bs) (omega arith) (record { no_blank = refl; no_feed = refl; no_return = refl }))
    (λ more.
    number_alike 43 pos cuts_pos (λ xs. refl) (b ∷ bs) more (omega arith)
    ∙ sym (ap (λ (o : Option ℤ). plain (option_map cut o))
    (unsigned_by (b == 43) (b == 45) (option_map pos (natural_of (bs ++ more))) (option_map (λ n. neg_ℤ (pos n)) (natural_of (bs ++ more))) (option_map pos (natural_of (b ∷ (bs ++ more)))) p m))
    ∙ sym (view_long b (bs ++ more) c (longer bs more long)))

long_stands : (field : List ℕ) → 3 < length field → StandsFor (short_long_field field) field
long_stands [] h = absurd (omega (arith, h))
long_stands (b ∷ bs) h = go (b == 99) (b == 43) (b == 45) refl refl refl
  where
    some : 0 < length bs
    some = omega (arith, h)

    solid_sign : IsSolid 43
    solid_sign = record { no_blank = refl; no_feed = refl; no_return = refl }

    solid_minus : IsSolid 45
    solid_minus = record { no_blank = refl; no_feed = refl; no_return = refl }

    go : (c p m : Bool) → (b == 99) ≡ c → (b == 43) ≡ p → (b == 45) ≡ m
        → StandsFor (if c then codes "c" else if p then short_number 43 bs else if m then short_number 45 bs else short_number 43 (b ∷ bs)) (b ∷ bs)
    go true p m e1 e2 e3 = comment_stands b bs (eqb-true b 99 e1)
    go false true m e1 e2 e3 = signed_stands 43 b bs pos (eqb-true b 43 e2) cuts_pos solid_sign (λ xs. refl) some
    go false false true e1 e2 e3 = signed_stands 45 b bs minus (eqb-true b 45 e3) cuts_minus solid_minus (λ xs. refl) some
    go false false false e1 e2 e3 = unsigned_stands b bs e1 e2 e3 (omega (arith, h))

pub short_stands : (field : List ℕ) → 0 < length field → HasNone is_blank field → HasNone is_feed field → StandsFor (short_field field) field
short_stands field some solid whole = go (nat_le (length field) open_field_limit) refl
  where
    go : (t : Bool) → nat_le (length field) open_field_limit ≡ t → StandsFor (if t then field else short_long_field field) field
    go true e = let few : length field ≤ open_field_limit = grind (arith, nat_tests) in record { alike = λ more. refl; some = some; few = few; solid = solid; whole = whole }
    go false e = let long : open_field_limit < length field = grind (arith, nat_tests) in long_stands field (omega (arith, long))
