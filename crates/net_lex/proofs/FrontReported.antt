-- What the front of a text is found to be: the longest token there, or what is wrong.
use Rattle.std.proofs.Common.{◌≡◌, ℕ, zero, suc, ◌+◌, ◌-◌, ◌<◌, ◌≤◌, ◌⊎◌, true, false, not, ◌&&◌, ◌||◌, ◌==◌, nat_lt, nat_le, List, [], ◌∷◌, ◌++◌, length, take, drop, get_or, IsUtf8, Option, Some, None, Ok, Err, refl, sym, ap, ◌∙◌, arith, inl, inr, subst, append_assoc, length-append, length-take, take-append-drop, take_at, drop_at, get_or-take}
use Rattle.std.proofs.lemmas.Bool.{cases_Bool, or_cases, leb-true, and_parts, and_from, false≢true, true≢false, eqb-true, ne_eqb, eq-eqb, cases_eq, not-true}
use Rattle.std.proofs.lemmas.Bool.Decides.{nat_tests}
use Rattle.std.proofs.lemmas.List.{get_or_at}
use Rattle.std.proofs.lemmas.Str.{IsCharBoundary-after_ascii, length-le-encodes}
use Rattle.std.proofs.lemmas.List.Sums.{prefix_len-le-length}
use Rattle.std.specs.List.{list_all, prefix_len}
use Rattle.std.specs.Char.{is_ascii_digit, encode_utf8}
use Rattle.std.specs.Str.{IsCharBoundary, encode_utf8_all}
use Rattle.net_base.specs.declared.error_code.ErrorCode.TheVariants.{BadCharacter}
use Rattle.net_base.specs.declared.diagnostic.Language.{Language}
use Rattle.net_base.specs.declared.diagnostic.Language.TheVariants.{Model, Data}
use Rattle.net_lex.specs.declared.shape.Shape.{Shape}
use Rattle.net_lex.specs.declared.shape.Shape.TheVariants.{Word, Numeral, Quoted, Mark}
use Rattle.net_lex.specs.declared.shape.BadFront.{BadFront}
use Rattle.net_lex.specs.declared.string.StringEnd.{StringEnd}
use Rattle.net_lex.specs.declared.string.StringEnd.TheVariants.{Closed, Control, Open}
use Rattle.net_lex.specs.declared.token.Kind.{Kind}
use Rattle.net_lex.specs.declared.token.Kind.TheVariants as kinds
use Rattle.net_lex.specs.Bytes.{first, second, point}
use Rattle.net_lex.specs.Characters.{is_blank, is_quote, starts_name, continues_name}
use Rattle.net_lex.specs.Numerals.{Parts, SpellsNumeral}
use Rattle.net_lex.specs.NumeralFront.{numeral_at}
use Rattle.net_lex.specs.Words.{model_marks, data_marks, is_among, model_mark_len, data_mark_len}
use Rattle.net_lex.specs.Tokens.{IsName, IsString, IsInside, IsWord, HasShape, Allows}
use Rattle.net_lex.specs.Shapes.{Front, string_end, quoted_front, string_at, char_len, mark_front, unnamed_front, model_front, data_front, word_len, front}
use Rattle.net_lex.specs.Faults.{IsErrorCode, no_token, control, open_string}
use Rattle.net_lex.specs.Limits.{limits}
use Rattle.net_lex.proofs.FormLemmas.{BeginsNumeral, numeral_begins, numeral_some, numeral_no_name, numeral_no_quote, name_no_quote, same_first, run_covers, ascii_cut, name_all_small, numeral_in, numeral_small, is_small}
use Rattle.net_lex.proofs.NumeralLemmas.{run_all}
use Rattle.net_lex.proofs.NumeralSpelled.{NumeralLeaves, numeral_leaves, numeral_spelled}
use Rattle.net_lex.proofs.StringLemmas.{InsideReported, inside_reported, inside_passes, closes_from, ClosesFrom}
use Rattle.net_lex.proofs.WordLemmas.{char_len-char}
use Rattle.net_lex.proofs.WordReading.{word_covers, WordFound, word_found, no_word_begins, signed_word, point_word, in_ascii_word}
use Rattle.net_lex.proofs.Tables.{is_name, reserved_names, is_mark_form, model_mark_forms, data_mark_forms, IsMarkFound, model_mark_found, data_mark_found, data_marks_no_word}

-- a shape of this length stands at the front, it may be cut off, and no token there is longer
pub record FrontIs (language : Language) (text : List ℕ) (shape : Shape) (n : ℕ) : Type 0 where
  pub within : n ≤ length text
  pub some : 0 < n
  pub formed : HasShape language shape (take n text)
  pub cut : IsCharBoundary text n
  pub longest : (kind : Kind) (more rest : List ℕ) → text ≡ more ++ rest → Allows language kind more → length more ≤ n
  pub whole : is_quote (first text) ≡ true → first (drop n text) ≡ first text → ⊥

pub record Rejects (language : Language) (text : List ℕ) (stop : BadFront) : Type 0 where
  pub error_code : IsErrorCode limits language text stop.error_code stop.from stop.to
  pub within : stop.to ≤ length text
  pub order : stop.from ≤ stop.to

abbrev pub FrontReported : Language → List ℕ → Front → Type 0
FrontReported language text (Ok x) = FrontIs language text x.0 x.1
FrontReported language text (Err stop) = Rejects language text stop

-- what a front of a text is, by its first bytes
pub data Begins (text more : List ℕ) : Type 0 where
  a_name : starts_name (first text) ≡ true → list_all continues_name more ≡ true → Begins text more
  a_numeral : (p : Parts) → SpellsNumeral more p → BeginsNumeral text → Begins text more
  a_string : is_quote (first text) ≡ true → IsString more → Begins text more
  a_mark : 0 < length more → is_mark_form more ≡ true → first text ≡ first more → Begins text more

pub mark_some : (more : List ℕ) → is_mark_form more ≡ true → 0 < length more
mark_some [] h = absurd (false≢true h)
mark_some (c ∷ cs) h = omega arith

pub name_some : (more : List ℕ) → starts_name (first more) ≡ true → 0 < length more
name_some [] h = absurd (false≢true h)
name_some (c ∷ cs) h = omega arith

pub string_some : (more : List ℕ) → IsString more → 0 < length more
string_some more s = omega (arith, ap length s.joined)

name_begins : (text more rest : List ℕ) → text ≡ more ++ rest → is_name more ≡ true → Begins text more
name_begins text more rest e h =
    let (begins, goes_on) = and_parts (starts_name (first more)) (list_all continues_name more) h in
    a_name (rw (same_first text more rest e (name_some more begins)) begins) goes_on

is_name_of : (more : List ℕ) → IsName more → is_name more ≡ true
is_name_of more n = and_from (starts_name (first more)) (list_all continues_name more) n.begins n.goes_on

string_begins : (text more rest : List ℕ) → text ≡ more ++ rest → IsString more → Begins text more
string_begins text more rest e s =
    a_string (rw (same_first text more rest e (string_some more s), ap first s.joined) s.quote) s

mark_begins : (text more rest : List ℕ) → text ≡ more ++ rest → is_mark_form more ≡ true → Begins text more
mark_begins text more rest e h = a_mark (mark_some more h) h (same_first text more rest e (mark_some more h))

pub model_begins : (kind : Kind) (text more rest : List ℕ) → text ≡ more ++ rest → Allows Model kind more → Begins text more
model_begins kinds.Name text more rest e (n, free) = name_begins text more rest e (is_name_of more n)
model_begins kinds.Key text more rest e among = name_begins text more rest e (reserved_names more among)
model_begins kinds.Num text more rest e (p, n) = a_numeral p n (rw e (numeral_begins more rest p n))
model_begins kinds.Str text more rest e s = string_begins text more rest e s
model_begins kinds.Mark text more rest e among = mark_begins text more rest e (model_mark_forms more among)
model_begins kinds.Dot text more rest e none = absurd none

-- what a mark's form tells of its first byte
pub mark_no_name : (more : List ℕ) → is_mark_form more ≡ true → starts_name (first more) ≡ false
mark_no_name more h = grind arith

pub mark_no_quote : (more : List ℕ) → is_mark_form more ≡ true → is_quote (first more) ≡ false
mark_no_quote more h = grind arith

pub mark_no_digit : (more : List ℕ) → is_mark_form more ≡ true → is_ascii_digit (first more) ≡ false
mark_no_digit more h = grind arith

pub mark_pointed : (more : List ℕ) → is_mark_form more ≡ true → first more ≡ point → (length more ≤ 1) ⊎ (second more ≡ point)
mark_pointed more h e =
    let last = (and_parts (((nat_lt 0 (length more) && list_all (λ c. nat_lt c 128) more) && not (starts_name (first more))) && not (is_quote (first more))) _ h).1 in
    let dots = (and_parts (not (is_ascii_digit (first more)) && not (is_blank (first more))) _ last).1 in
    elim (or_cases (not (first more == point) || nat_le (length more) 1) (second more == point) dots) [
      | inl one ↦ elim (or_cases (not (first more == point)) (nat_le (length more) 1) one) [
        | inl other ↦ absurd (false≢true (rw e at other))
        | inr short ↦ inl (leb-true (length more) 1 short)
      ]
      | inr two ↦ inr (eqb-true (second more) point two)
    ]

second_point : (more others : List ℕ) → second more ≡ point → second (more ++ others) ≡ point
second_point [] others e = absurd (omega arith)
second_point (x ∷ []) others e = absurd (omega arith)
second_point (x ∷ y ∷ zs) others e = e

name_run_some : (text : List ℕ) → starts_name (first text) ≡ true → 0 < prefix_len continues_name text
name_run_some [] h = absurd (false≢true h)
name_run_some (c ∷ cs) h = rw (goes_on c h) (omega arith)
  where
    goes_on : (c : ℕ) → starts_name c ≡ true → continues_name c ≡ true
    goes_on c h = grind (arith, nat_tests)

pub first_take : (n : ℕ) (text : List ℕ) → 0 < n → first (take n text) ≡ first text
first_take n text some = get_or-take n text 0 0 some

-- what is taken may be cut off, if it is ASCII
taken_cut : (text : List ℕ) (n : ℕ) → IsUtf8 text → n ≤ length text → list_all is_small (take n text) ≡ true → IsCharBoundary text n
taken_cut text n utf8 within small =
    let len : length (take n text) ≡ n = omega (arith, length-take n text) in
    subst (IsCharBoundary text) len (ascii_cut text (take n text) (drop n text) utf8 (sym (take-append-drop n text)) small)

reported_name : (text : List ℕ) → IsUtf8 text → starts_name (first text) ≡ true → FrontIs Model text Word (prefix_len continues_name text)
reported_name text utf8 begins =
    let n = prefix_len continues_name text in
    let some = name_run_some text begins in
    let within = prefix_len-le-length continues_name text in
    let goes_on = run_all continues_name text in
    record {
      within = within;
      some = some;
      formed = record { begins = rw (first_take n text some) begins; goes_on = goes_on };
      cut = taken_cut text n utf8 within (name_all_small (take n text) goes_on);
      longest = λ kind more rest e allowed. longest_name more rest e (model_begins kind text more rest e allowed);
      whole = λ quote. absurd (true≢false (sym quote ∙ name_no_quote (first text) begins));
    }
  where
    longest_name : (more rest : List ℕ) → text ≡ more ++ rest → Begins text more → length more ≤ prefix_len continues_name text
    longest_name more rest e (a_name b all) = rw e (run_covers continues_name more rest all)
    longest_name more rest e (a_numeral p n b) = absurd (true≢false (sym begins ∙ numeral_no_name text b))
    longest_name more rest e (a_string quote s) = absurd (true≢false (sym quote ∙ name_no_quote (first text) begins))
    longest_name more rest e (a_mark some form same) = absurd (true≢false (sym begins ∙ (ap starts_name same ∙ mark_no_name more form)))

reported_numeral : (text rest : List ℕ) (p : Parts) → IsUtf8 text → numeral_at text ≡ Some (p, rest) → FrontIs Model text Numeral (length text - length rest)
reported_numeral text rest p utf8 e =
    let (front, joined, n) = numeral_spelled text rest p e in
    let len : length text - length rest ≡ length front = omega (arith, ap length joined, length-append front rest) in
    let taken : take (length front) text ≡ front = ap (take (length front)) joined ∙ take_at front rest _ refl in
    let begins : BeginsNumeral text = rw joined (numeral_begins front rest p n) in
    let some = numeral_some front p n in
    rw len (record {
      within = omega (arith, ap length joined, length-append front rest);
      some = some;
      formed = rw taken (p, n);
      cut = ascii_cut text front rest utf8 joined (numeral_small front (numeral_in front p n));
      longest = λ kind more others split allowed. longest_numeral front more others begins some (omega (arith, ap length joined, length-append front rest)) split (model_begins kind text more others split allowed);
      whole = λ quote. absurd (true≢false (sym quote ∙ numeral_no_quote text begins));
    })
  where
    longest_numeral : (front more others : List ℕ) → BeginsNumeral text → 0 < length front → length text ≡ length front + length rest → text ≡ more ++ others → Begins text more → length more ≤ length front
    longest_numeral front more others begins some len split (a_name b all) = absurd (true≢false (sym b ∙ numeral_no_name text begins))
    longest_numeral front more others begins some len split (a_numeral q n b) =
        let leaves : NumeralLeaves (length others) (numeral_at text) = subst (λ t. NumeralLeaves (length others) (numeral_at t)) (sym split) (numeral_leaves more others q n) in
        let left : length rest ≤ length others = subst (NumeralLeaves (length others)) e leaves in
        omega (arith, ap length split, length-append more others)
    longest_numeral front more others begins some len split (a_string quote s) = absurd (true≢false (sym quote ∙ numeral_no_quote text begins))
    longest_numeral front more others (inl digit) some len split (a_mark has form same) = absurd (true≢false (sym digit ∙ (ap is_ascii_digit same ∙ mark_no_digit more form)))
    longest_numeral front more others (inr (dot, digit)) some len split (a_mark has form same) = elim (mark_pointed more form (sym same ∙ dot)) [
      | inl short ↦ omega arith
      | inr two ↦
          let dots : second text ≡ point = ap second split ∙ second_point more others two in
          absurd (false≢true (rw dots at digit))
    ]

pub quote_small : (q : ℕ) → is_quote q ≡ true → q < 128
quote_small q h = grind (arith, nat_tests)

-- the string that begins a text, whose first byte is a quotation mark
module _ (language : Language) (text : List ℕ) (q : ℕ) (cs : List ℕ) (is : text ≡ q ∷ cs) (utf8 : IsUtf8 text) (quote : is_quote q ≡ true)
    (formed : (word : List ℕ) → IsString word → HasShape language Quoted word)
    (strings : (kind : Kind) (more rest : List ℕ) → text ≡ more ++ rest → Allows language kind more → IsString more) where
  string_length : (more rest : List ℕ) (n : ℕ) → text ≡ more ++ rest → IsString more → string_end q false 0 cs ≡ Closed n → length more ≤ n + 1
  string_length more rest n e s closed =
      let split : text ≡ s.delimiter ∷ (s.inside ++ s.delimiter ∷ rest) = e ∙ (ap (λ t. t ++ rest) s.joined ∙ ap (λ t. s.delimiter ∷ t) (append_assoc s.inside (s.delimiter ∷ []) rest)) in
      let same : q ≡ s.delimiter = ap first (sym is ∙ split) in
      let rest_is : cs ≡ s.inside ++ q ∷ rest = ap (drop 1) (sym is ∙ split) ∙ ap (λ d. s.inside ++ d ∷ rest) (sym same) in
      let body : IsInside q s.inside = subst (λ d. IsInside d s.inside) (sym same) s.body in
      let passes : string_end q false 0 cs ≡ string_end q true (0 + length s.inside + 1) rest = ap (string_end q false 0) rest_is ∙ inside_passes q quote 0 s.inside rest body in
      let from : ClosesFrom q quote (0 + length s.inside + 1) (Closed n) = subst (ClosesFrom q quote (0 + length s.inside + 1)) (sym passes ∙ closed) (closes_from q quote true (0 + length s.inside + 1) rest) in
      omega (arith, ap length s.joined, length-append s.inside (s.delimiter ∷ []), from)

  quoted_reported : (r : StringEnd) → string_end q false 0 cs ≡ r → InsideReported q quote 0 cs r → FrontReported language text (quoted_front r)
  quoted_reported (Closed n) e (inside, after, split, body, len, single) =
      let word = q ∷ (inside ++ q ∷ []) in
      let whole : text ≡ word ++ after = is ∙ ap (λ t. q ∷ t) (split ∙ sym (append_assoc inside (q ∷ []) after)) in
      let size : length word ≡ n + 1 = omega (arith, length-append inside (q ∷ [])) in
      let taken : take (n + 1) text ≡ word = ap (λ k. take k text) (sym size) ∙ (ap (take (length word)) whole ∙ take_at word after _ refl) in
      let dropped : drop (n + 1) text ≡ after = ap (λ k. drop k text) (sym size) ∙ (ap (drop (length word)) whole ∙ drop_at word after _ refl) in
      let string : IsString word = record { delimiter = q; inside = inside; quote = quote; body = body; joined = refl } in
      record {
        within = omega (arith, ap length whole, length-append word after);
        some = omega arith;
        formed = rw taken (formed word string);
        cut = IsCharBoundary-after_ascii text n utf8 (omega (arith, ap length whole, length-append word after))
            (subst (λ k. k < 128) (sym (ap (λ t. get_or t n 0) (is ∙ ap (λ t. q ∷ t) split) ∙ get_or_at (q ∷ inside) q after 0 n (omega arith))) (quote_small q quote));
        longest = λ kind more rest joined allowed. string_length more rest n joined (strings kind more rest joined allowed) e;
        whole = λ k same. single (ap first (sym dropped) ∙ (same ∙ ap first is));
      }
  quoted_reported (Control n) e (inside, c, after, split, body, bad, len) =
      let whole : text ≡ q ∷ (inside ++ c ∷ after) = is ∙ ap (λ t. q ∷ t) split in
      let place : n ≡ length inside = omega arith in
      record {
        error_code = subst (λ k. IsErrorCode limits language text BadCharacter (k + 1) (k + 2)) (sym place) (control q c inside after quote body bad whole);
        within = omega (arith, ap length whole, length-append inside (c ∷ after));
        order = omega arith;
      }
  quoted_reported Open e body = record { error_code = open_string q cs quote body is; within = omega (arith, ap length is); order = omega arith }

  reported_string : FrontReported language text (string_at text)
  reported_string = subst (λ t. FrontReported language text (quoted_front (string_end (first t) false 0 (drop 1 t)))) (sym is) (quoted_reported (string_end q false 0 cs) refl (inside_reported q quote false 0 cs))

quote_begins : (text : List ℕ) → is_quote (first text) ≡ true → text ≡ first text ∷ drop 1 text
quote_begins [] h = absurd (false≢true h)
quote_begins (c ∷ cs) h = refl

-- the first character of a text that is not empty
first_char : (text : List ℕ) → IsUtf8 text → 0 < length text → (c : ℕ) × (after : List ℕ) × (text ≡ encode_utf8 c ++ after)
first_char text ([], (scalar, e)) some = absurd (omega (arith, ap length e))
first_char text ((c ∷ cs), (scalar, e)) some = (c, encode_utf8_all cs, sym e)

-- nothing begins here, or a mark
reported_mark : (language : Language) (text : List ℕ) (table : List (List ℕ)) (n : ℕ) → IsUtf8 text → 0 < length text → is_quote (first text) ≡ false
    → IsMarkFound table text n
    → ((mark : List ℕ) → is_among table mark ≡ true → HasShape language Mark mark × (is_mark_form mark ≡ true))
    → ((kind : Kind) (more rest : List ℕ) → text ≡ more ++ rest → Allows language kind more → (0 < length more) × (is_among table more ≡ true))
    → FrontReported language text (mark_front text n)
reported_mark language text table zero utf8 some no_quote (found, longest) formed marks =
    let (c, after, split) = first_char text utf8 some in
    let len : char_len text ≡ length (encode_utf8 c) = char_len-char text after c utf8 split in
    record {
      error_code = subst (IsErrorCode limits language text BadCharacter 0) (sym len)
          (no_token c after utf8 split no_quote (λ kind more rest joined allowed. let (has, among) = marks kind more rest joined allowed in omega (arith, longest more rest among joined)));
      within = omega (arith, len, ap length split, length-append (encode_utf8 c) after);
      order = omega arith;
    }
reported_mark language text table (suc n) utf8 some no_quote (found, longest) formed marks =
    let (among, within) = found (omega arith) in
    let (shaped, form) = formed (take (suc n) text) among in
    rw (ne_eqb (suc n) 0 (λ e. omega arith)) (record {
      within = within;
      some = omega arith;
      formed = shaped;
      cut = taken_cut text (suc n) utf8 within (mark_small (take (suc n) text) form);
      longest = λ kind more rest joined allowed. longest more rest (marks kind more rest joined allowed).1 joined;
      whole = λ quote. absurd (true≢false (sym quote ∙ no_quote));
    })
  where
    mark_small : (mark : List ℕ) → is_mark_form mark ≡ true → list_all is_small mark ≡ true
    mark_small mark h =
        (and_parts (nat_lt 0 (length mark)) _ (and_parts (nat_lt 0 (length mark) && list_all is_small mark) _ (and_parts ((nat_lt 0 (length mark) && list_all is_small mark) && not (starts_name (first mark))) _ (and_parts _ _ h).0).0).0).1

pub model_strings : (text : List ℕ) → is_quote (first text) ≡ true → (kind : Kind) (more rest : List ℕ) → text ≡ more ++ rest → Allows Model kind more → IsString more
model_strings text quote kind more rest e allowed = only (model_begins kind text more rest e allowed)
  where
    only : Begins text more → IsString more
    only (a_name b all) = absurd (true≢false (sym quote ∙ name_no_quote (first text) b))
    only (a_numeral p n b) = absurd (true≢false (sym quote ∙ numeral_no_quote text b))
    only (a_string q s) = s
    only (a_mark some form same) = absurd (true≢false (sym quote ∙ (ap is_quote same ∙ mark_no_quote more form)))

-- where neither a name, a numeral nor a string begins
model_marks_only : (text : List ℕ) → starts_name (first text) ≡ false → numeral_at text ≡ None → is_quote (first text) ≡ false
    → (kind : Kind) (more rest : List ℕ) → text ≡ more ++ rest → Allows Model kind more → (0 < length more) × (is_among model_marks more ≡ true)
model_marks_only text no_name no_numeral no_quote kinds.Mark more rest e allowed = (mark_some more (model_mark_forms more allowed), allowed)
model_marks_only text no_name no_numeral no_quote kinds.Name more rest e (n, free) =
    absurd (true≢false (sym n.begins ∙ (ap starts_name (sym (same_first text more rest e (name_some more n.begins))) ∙ no_name)))
model_marks_only text no_name no_numeral no_quote kinds.Key more rest e among =
    let begins = (and_parts (starts_name (first more)) (list_all continues_name more) (reserved_names more among)).0 in
    absurd (true≢false (sym begins ∙ (ap starts_name (sym (same_first text more rest e (name_some more begins))) ∙ no_name)))
model_marks_only text no_name no_numeral no_quote kinds.Num more rest e (p, n) =
    absurd (subst (NumeralLeaves (length rest)) (ap numeral_at (sym e) ∙ no_numeral) (numeral_leaves more rest p n))
model_marks_only text no_name no_numeral no_quote kinds.Str more rest e s =
    absurd (true≢false (sym s.quote ∙ (ap is_quote (ap first (sym s.joined) ∙ sym (same_first text more rest e (string_some more s))) ∙ no_quote)))
model_marks_only text no_name no_numeral no_quote kinds.Dot more rest e none = absurd none

reported_unnamed : (text : List ℕ) → IsUtf8 text → 0 < length text → starts_name (first text) ≡ false → (r : Option (Parts × List ℕ)) → numeral_at text ≡ r
    → FrontReported Model text (unnamed_front text r)
reported_unnamed text utf8 some no_name (Some x) e = reported_numeral text x.1 x.0 utf8 e
reported_unnamed text utf8 some no_name None e = elim (cases_Bool (is_quote (first text))) [
  | inl quote ↦ rw quote (reported_string Model text (first text) (drop 1 text) (quote_begins text quote) utf8 quote (λ word s. s) (model_strings text quote))
  | inr no_quote ↦ rw no_quote (reported_mark Model text model_marks (model_mark_len text) utf8 some no_quote (model_mark_found text)
      (λ mark among. (among, model_mark_forms mark among)) (model_marks_only text no_name e no_quote))
]

-- what the front of a model text is
pub reported_model : (text : List ℕ) → IsUtf8 text → 0 < length text → FrontReported Model text (model_front text)
unfolding model_front
reported_model text utf8 some = elim (cases_Bool (starts_name (first text))) [
  | inl begins ↦ rw begins (reported_name text utf8 begins)
  | inr no_name ↦ rw no_name (reported_unnamed text utf8 some no_name (numeral_at text) refl)
]

-- what a front of a data text is
pub data DataBegins (text more : List ℕ) : Type 0 where
  a_word : IsWord more → DataBegins text more
  a_data_string : is_quote (first text) ≡ true → IsString more → DataBegins text more
  a_data_mark : is_among data_marks more ≡ true → first text ≡ first more → 0 < length more → DataBegins text more

pub data_begins : (kind : Kind) (text more rest : List ℕ) → text ≡ more ++ rest → Allows Data kind more → DataBegins text more
data_begins kinds.Name text more rest e allowed = a_word allowed.0
data_begins kinds.Key text more rest e none = absurd none
data_begins kinds.Num text more rest e (negative, p, s) = a_word (signed_word more negative p s)
data_begins kinds.Str text more rest e s = a_data_string (rw (same_first text more rest e (string_some more s), ap first s.joined) s.quote) s
data_begins kinds.Mark text more rest e among =
    let some = mark_some more (data_mark_forms more among) in a_data_mark among (same_first text more rest e some) some
data_begins kinds.Dot text more rest e is = a_word (rw is point_word)

pub mark_first_small : (more : List ℕ) → 0 < length more → is_mark_form more ≡ true → first more < 128
mark_first_small [] some h = absurd (omega arith)
mark_first_small (c ∷ cs) some h = grind (arith, nat_tests)

pub quote_no_word : (c : ℕ) → is_quote c ≡ true → in_ascii_word c ≡ false
quote_no_word c h = grind (arith, nat_tests)

pub data_strings : (text : List ℕ) → 0 < length text → is_quote (first text) ≡ true → (kind : Kind) (more rest : List ℕ) → text ≡ more ++ rest → Allows Data kind more → IsString more
data_strings text some quote kind more rest e allowed = only (data_begins kind text more rest e allowed)
  where
    only : DataBegins text more → IsString more
    only (a_word w) = absurd (no_word_begins text more rest e some (quote_small (first text) quote) (quote_no_word (first text) quote) w)
    only (a_data_string q s) = s
    only (a_data_mark among same has) = absurd (true≢false (sym quote ∙ (ap is_quote same ∙ mark_no_quote more (data_mark_forms more among))))

reported_word : (text : List ℕ) → IsUtf8 text → 0 < length text → is_quote (first text) ≡ false → 0 < word_len text → FrontIs Data text Word (word_len text)
reported_word text utf8 has no_quote some =
    let found = word_found text utf8 some in
    record {
      within = found.within;
      some = some;
      formed = found.word;
      cut = found.cut;
      longest = λ kind more rest e allowed. longest_word more rest e found (data_begins kind text more rest e allowed);
      whole = λ quote. absurd (true≢false (sym quote ∙ no_quote));
    }
  where
    longest_word : (more rest : List ℕ) → text ≡ more ++ rest → WordFound text (word_len text) → DataBegins text more → length more ≤ word_len text
    longest_word more rest e found (a_word w) = word_covers text more rest e w
    longest_word more rest e found (a_data_string q s) = absurd (true≢false (sym q ∙ no_quote))
    longest_word more rest e found (a_data_mark among same has_byte) =
        absurd (no_word_begins text (take (word_len text) text) (drop (word_len text) text) (sym (take-append-drop (word_len text) text)) has
        (rw same (mark_first_small more has_byte (data_mark_forms more among)))
        (rw same (not-true (in_ascii_word (first more)) (data_marks_no_word more among))) found.word)

data_marks_only : (text : List ℕ) → is_quote (first text) ≡ false → word_len text ≡ 0
    → (kind : Kind) (more rest : List ℕ) → text ≡ more ++ rest → Allows Data kind more → (0 < length more) × (is_among data_marks more ≡ true)
data_marks_only text no_quote none kind more rest e allowed = only (data_begins kind text more rest e allowed)
  where
    word_some : IsWord more → 0 < length more
    word_some w = omega (arith, w.some, length-le-encodes w.characters, ap length w.spelled)

    only : DataBegins text more → (0 < length more) × (is_among data_marks more ≡ true)
    only (a_word w) = absurd (omega (arith, word_covers text more rest e w, word_some w))
    only (a_data_string q s) = absurd (true≢false (sym q ∙ no_quote))
    only (a_data_mark among same has) = (has, among)

-- what the front of a data text is
pub reported_data : (text : List ℕ) → IsUtf8 text → 0 < length text → FrontReported Data text (data_front text)
unfolding data_front
reported_data text utf8 some = elim (cases_Bool (is_quote (first text))) [
  | inl quote ↦ rw quote (reported_string Data text (first text) (drop 1 text) (quote_begins text quote) utf8 quote (λ word s. s) (data_strings text some quote))
  | inr no_quote ↦ elim (cases_eq (word_len text) 0) [
    | inl none ↦ rw (no_quote, eq-eqb (word_len text) 0 none) (reported_mark Data text data_marks (data_mark_len text) utf8 some no_quote (data_mark_found text)
        (λ mark among. (among, data_mark_forms mark among)) (data_marks_only text no_quote none))
    | inr has ↦ rw (no_quote, ne_eqb (word_len text) 0 has) (reported_word text utf8 some no_quote (omega arith))
  ]
]

pub reported_front : (language : Language) (text : List ℕ) → IsUtf8 text → 0 < length text → FrontReported language text (front language text)
unfolding front
reported_front Model text utf8 some = reported_model text utf8 some
reported_front Data text utf8 some = reported_data text utf8 some
