-- Printed names within a line.
use Rattle.std.proofs.Common.{◌≡◌, ℕ, zero, suc, ◌/◌, ◌%◌, ◌+◌, ◌≤◌, Bool, true, false, not, ◌==◌, List, [], ◌∷◌, ◌++◌, map, ℤ, pos, negsuc, refl, ◌∙◌, inl, inr, arith}
use Rattle.std.specs.Prelude.{slice_get, nat_eq}
use Rattle.std.specs.Fmt.{decimal, digits, digits_onto, digit_glyph, signed_decimal}
use Rattle.std.specs.List.{AllByRecursion, list_all}
use Rattle.std.proofs.lemmas.Bool.{cases_Bool, and_parts, and_from, cases_lt, lt-ltb, le-ltb}
use Rattle.std.proofs.lemmas.Bool.Decides.{nat_tests}
use Rattle.std.proofs.lemmas.List.Folds.{list_all-append}
use Rattle.net_lex.specs.LineEnds.{ends_line, HasNoLineEnd}
use Rattle.net_sets.specs.Sets.{Tuple}
use Rattle.net_sets.specs.declared.member.Member.{Member}
use Rattle.net_sets.specs.declared.member.Member.TheVariants.{Number, Name}
use Rattle.net_inst.specs.declared.network_names.Declared.{Declared}
use Rattle.net_inst.specs.Lists.{Key, Listed}
use Rattle.net_expr.specs.References.{doubled, quoted, member_text, further_text, members_text, reference_text}
use Rattle.net_report.specs.References.{declared_name, name_in, names_in}
use Rattle.net_report.specs.LineNames.{IsWithinLine, AreWithinLine, HasLineNames}
use Rattle.net_report.specs.Links.{within_line, in_line}

abbrev stays : ℕ → Bool
stays b = not (ends_line b)

joined : (xs ys : List ℕ) → HasNoLineEnd xs → HasNoLineEnd ys → HasNoLineEnd (xs ++ ys)
joined xs ys hx hy = list_all-append stays xs ys ∙ and_from (list_all stays xs) (list_all stays ys) hx hy

-- ---- a name as written within a line

same_byte : (b : ℕ) → stays b ≡ true → within_line b ≡ b
same_byte b h = elim (cases_Bool (ends_line b)) [ inl ends ↦ absurd (let e : not true ≡ true = rw ends at h in cc) | inr other ↦ rw other refl ]

pub unchanged : (name : List ℕ) → HasNoLineEnd name → in_line name ≡ name
unchanged [] h = refl
unchanged (b ∷ bs) h =
    let (here, more) = and_parts (stays b) (list_all stays bs) h in
    (λ i. same_byte b here i ∷ unchanged bs more i)

-- ---- numbers

glyph_stays : (d : ℕ) → stays (digit_glyph false d) ≡ true
glyph_stays d = elim (cases_lt d 10) [
  | inl small ↦ rw (lt-ltb d 10 small) (above 48 d (omega arith))
  | inr far ↦ rw (le-ltb d 10 far) (above 87 d (omega arith))
]
  where
    above : (n d : ℕ) → 14 ≤ n → stays (n + d) ≡ true
    above n d h = grind (arith, nat_tests)

digits_stay : (k n : ℕ) (acc : List ℕ) → HasNoLineEnd acc → HasNoLineEnd (digits_onto k 10 false n acc)
digits_stay zero n acc h = h
digits_stay (suc k) n acc h =
    let more = and_from (stays (digit_glyph false (n % 10))) (list_all stays acc) (glyph_stays (n % 10)) h in
    elim (cases_Bool (n / 10 == 0)) [
      | inl last ↦ rw last more
      | inr other ↦ rw other (digits_stay k (n / 10) (digit_glyph false (n % 10) ∷ acc) more)
    ]

decimal_stays : (n : ℕ) → HasNoLineEnd (decimal n)
unfolding digits
decimal_stays n = digits_stay 64 n [] refl

pub signed_stays : (z : ℤ) → HasNoLineEnd (signed_decimal z)
signed_stays (pos n) = decimal_stays n
signed_stays (negsuc n) = decimal_stays (suc n)

-- ---- texts in quotes

doubled_stays : (text : List ℕ) → HasNoLineEnd text → HasNoLineEnd (doubled text)
doubled_stays [] h = refl
doubled_stays (c ∷ cs) h =
    let (here, more) = and_parts (stays c) (list_all stays cs) h in
    elim (cases_Bool (nat_eq c 39)) [
      | inl quote ↦ rw quote (doubled_stays cs more)
      | inr other ↦ rw other (and_from (stays c) (list_all stays (doubled cs)) here (doubled_stays cs more))
    ]

quoted_stays : (text : List ℕ) → HasNoLineEnd text → HasNoLineEnd (quoted text)
quoted_stays text h = joined (doubled text) (39 ∷ []) (doubled_stays text h) refl

-- ---- keys and names

member_stays : (m : Member) → IsWithinLine m → HasNoLineEnd (member_text m)
member_stays (Number n) h = signed_stays n
member_stays (Name text) h = quoted_stays text h

further_stays : (ms : Tuple) → AreWithinLine ms → HasNoLineEnd (further_text ms)
further_stays [] h = refl
further_stays (m ∷ ms) (here, more) = joined (member_text m) (further_text ms) (member_stays m here) (further_stays ms more)

members_stay : (ms : Tuple) → AreWithinLine ms → HasNoLineEnd (members_text ms)
members_stay [] h = refl
members_stay (m ∷ ms) (here, more) = joined (member_text m) (further_text ms) (member_stays m here) (further_stays ms more)

reference_stays : (name : List ℕ) (indexed : Bool) (key : Tuple) → HasNoLineEnd name → AreWithinLine key → HasNoLineEnd (reference_text name indexed key)
reference_stays name false key hn hk = hn
reference_stays name true key hn hk = joined name (91 ∷ (members_text key ++ 93 ∷ [])) hn (joined (members_text key) (93 ∷ []) (members_stay key hk) refl)

declared_stays : (declarations : List Declared) (n : ℕ) (key : Tuple) → AllByRecursion (λ d. HasNoLineEnd d.name) declarations → AreWithinLine key
    → HasNoLineEnd (declared_name (slice_get declarations n) key)
declared_stays [] n key hd hk = refl
declared_stays (d ∷ ds) zero key (here, more) hk = reference_stays d.name d.indexed key here hk
declared_stays (d ∷ ds) (suc n) key (here, more) hk = declared_stays ds n key more hk

each_stays : (declarations : List Declared) (keys : List Key) → AllByRecursion (λ d. HasNoLineEnd d.name) declarations → AllByRecursion (λ k. AreWithinLine k.tuple) keys
    → AllByRecursion HasNoLineEnd (map (name_in declarations) keys)
each_stays declarations [] hd hk = tt
each_stays declarations (k ∷ ks) hd (here, more) = (declared_stays declarations k.declaration k.tuple hd here, each_stays declarations ks hd more)

pub names_stay : (listed : Listed) → HasLineNames listed → AllByRecursion HasNoLineEnd (names_in listed)
names_stay listed h = each_stays listed.declarations listed.keys h.names h.keys

all_unchanged : (names : List (List ℕ)) → AllByRecursion HasNoLineEnd names → AllByRecursion (λ name. in_line name ≡ name) names
all_unchanged [] h = tt
all_unchanged (n ∷ ns) (here, more) = (unchanged n here, all_unchanged ns more)

pub names_unchanged : (listed : Listed) → HasLineNames listed → AllByRecursion (λ name. in_line name ≡ name) (names_in listed)
names_unchanged listed h = all_unchanged (names_in listed) (names_stay listed h)
