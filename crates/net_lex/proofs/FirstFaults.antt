-- A text has either tokens or a first fault, and at most one.
use Rattle.std.proofs.Common.{◌≡◌, ℕ, ◌+◌, true, false, List, [], ◌∷◌, ◌++◌, length, drop, Result, Ok, Err, IsUtf8, refl, sym, ap, ◌∙◌, arith, subst}
use Rattle.std.proofs.lemmas.Bool.{false≢true}
use Rattle.std.proofs.lemmas.List.{append_cancel_right}
use Rattle.std.proofs.lemmas.Str.{utf8_valid_len-IsUtf8, utf8_valid_len-IsValidUpTo}
use Rattle.std.specs.Str.{IsValidUpTo}
use Rattle.net_base.specs.declared.error_code.ErrorCode.{ErrorCode}
use Rattle.net_lex.specs.declared.gap.Place.TheVariants.{Between}
use Rattle.net_base.specs.declared.diagnostic.Language.{Language}
use Rattle.net_lex.specs.declared.whole.NumFault.TheVariants as num
use Rattle.net_base.specs.declared.diagnostic.Span.{Span}
use Rattle.net_lex.specs.declared.string.StringEnd.{StringEnd}
use Rattle.net_lex.specs.declared.string.StringEnd.TheVariants.{Closed, Control, Open}
use Rattle.net_lex.specs.declared.token.Kind.{Kind}
use Rattle.net_lex.specs.declared.token.Kind.TheVariants as kinds
use Rattle.net_lex.specs.declared.token.Token.{Token}
use Rattle.net_lex.specs.Bytes.{first}
use Rattle.net_lex.specs.Characters.{is_quote, is_blank, is_control}
use Rattle.net_lex.specs.Tokens.{IsInside}
use Rattle.net_lex.specs.GapFront.{after_gap}
use Rattle.net_lex.specs.Gaps.{IsGap, IsOpenComment}
use Rattle.net_lex.specs.Limits.{limits}
use Rattle.net_lex.specs.Lexing.{AreTokensOf, IsFirstFault}
use Rattle.net_lex.specs.Numerals.{IsNumFault, HasWhole}
use Rattle.net_lex.specs.Reading.{IsLongest, BeginsNoComment}
use Rattle.net_lex.specs.Faults.{EndsWhole, IsErrorCode, no_token, control, open_string, too_long, not_whole, too_large, IsFault, comment, token, IsSoundNext, StandSound, text_too_long, not_utf8, after_tokens}
use Rattle.net_lex.specs.Shapes.{string_end}
use Rattle.net_lex.proofs.FaultReading.{closes_here, ends_single, strings_only, no_error_code, no_first_fault, parts_unique}
use Rattle.net_lex.proofs.GapPasses.{gap_passes, gap_stops, open_passes}
use Rattle.net_lex.proofs.StringLemmas.{control_found, open_found}
use Rattle.net_lex.proofs.Unique.{next_skips, no_gap}
use Rattle.net_lex.proofs.UniqueReading.{ok_same, longest_same, next_same}
use Rattle.net_lex.proofs.WordLemmas.{char_len-char}

-- a text that is valid up to a byte is not UTF-8
invalid : (text : List ℕ) (good : ℕ) → IsValidUpTo text good → IsUtf8 text → ⊥
invalid text good valid utf8 = omega (arith, valid.short, utf8_valid_len-IsUtf8 text utf8, utf8_valid_len-IsValidUpTo text good valid)

pub read_or_rejected : (language : Language) (text : List ℕ) (tokens : List Token) (d : ErrorCode) (span : Span) → AreTokensOf language text tokens → IsFirstFault language text d span → ⊥
read_or_rejected language text tokens d span are (text_too_long long is place) = omega (arith, are.short, long)
read_or_rejected language text tokens d span are (not_utf8 good short valid is place) = invalid text good valid are.utf8
read_or_rejected language text tokens d span are (after_tokens front short utf8 fault) = no_first_fault language 0 text d span front tokens fault are.read are.sound

-- a string that is not closed has no token
unclosed : (language : Language) (text : List ℕ) (q : ℕ) (cs : List ℕ) (kind : Kind) (word after : List ℕ) (other : StringEnd) → is_quote q ≡ true → text ≡ q ∷ cs → text ≡ word ++ after
    → IsLongest language kind word after → EndsWhole kind word after → string_end q false 0 cs ≡ other → ((n : ℕ) → Closed n ≡ other → ⊥) → ⊥
unclosed language text q cs kind word after other quote is split longest whole found none =
    let begins : first text ≡ q = ap first is in
    let quoted = ap is_quote begins ∙ quote in
    let u : Token = record { kind = kind; text = word; span = record { start = 0; end = 0 } } in
    let (n, closed) = closes_here text after word q cs quote is split (strings_only language text quoted kind word after split longest.allowed)
    (ends_single language u after text q quoted begins split longest whole) in
    none n (sym closed ∙ found)

not_control : (k n : ℕ) → Closed n ≡ Control k → ⊥
not_control k n e = cc

not_open : (n : ℕ) → Closed n ≡ Open → ⊥
not_open n e = cc

number_whole : (word after : List ℕ) → EndsWhole kinds.Num word after
number_whole word after same = absurd (let e : kinds.Num ≡ kinds.Str = same in cc)

no_quote : (text : List ℕ) (q : ℕ) (cs : List ℕ) → is_quote (first text) ≡ false → is_quote q ≡ true → text ≡ q ∷ cs → ⊥
no_quote text q cs other quote split = false≢true (sym other ∙ (ap (λ t. is_quote (first t)) split ∙ quote))

abbrev at_control : StringEnd → ℕ
at_control (Control n) = n
at_control (Closed n) = 0
at_control Open = 0

-- a numeral that has a value is whole
one_num_fault : (word : List ℕ) → IsNumFault limits.value word num.TooLarge → IsNumFault limits.value word num.NotWhole → ⊥
one_num_fault word (sign, p, n, spelled, whole, large) (mark, q, other, none) = none n (subst (λ r. HasWhole r n) (parts_unique word sign mark p q spelled other) whole)

-- what is wrong at a place, and where it begins and ends
abbrev Same : ErrorCode → ℕ → ℕ → ErrorCode → ℕ → ℕ → Type 0
Same d from to e start end = (d ≡ e) × (from ≡ start) × (to ≡ end)

controls : (q c r k : ℕ) (inside after inner behind : List ℕ) → is_quote q ≡ true → is_quote r ≡ true → IsInside q inside → IsInside r inner → is_control c ≡ true → is_control k ≡ true
    → q ∷ (inside ++ c ∷ after) ≡ r ∷ (inner ++ k ∷ behind) → length inside ≡ length inner
controls q c r k inside after inner behind quote other body core bad worse e =
    let same : r ≡ q = sym (ap first e) in
    let mine = control_found q quote 0 c inside after body bad in
    let yours = control_found q quote 0 k inner behind (subst (λ d. IsInside d inner) same core) worse in
    let rest : inside ++ c ∷ after ≡ inner ++ k ∷ behind = ap (drop 1) e in
    let both : Control (0 + length inside) ≡ Control (0 + length inner) = sym mine ∙ (ap (string_end q false 0) rest ∙ yours) in
    let place : 0 + length inside ≡ 0 + length inner = ap at_control both in
    omega (arith, place)

control_not_open : (q c r : ℕ) (inside after inner : List ℕ) → is_quote q ≡ true → IsInside q inside → IsInside r inner → is_control c ≡ true → q ∷ (inside ++ c ∷ after) ≡ r ∷ inner → ⊥
control_not_open q c r inside after inner quote body core bad e =
    let same : r ≡ q = sym (ap first e) in
    let mine = control_found q quote 0 c inside after body bad in
    let yours = open_found q quote 0 inner (subst (λ d. IsInside d inner) same core) in
    let rest : inside ++ c ∷ after ≡ inner = ap (drop 1) e in
    let both : Control (0 + length inside) ≡ Open = sym mine ∙ (ap (string_end q false 0) rest ∙ yours) in cc

error_code_same : (language : Language) (text : List ℕ) (d : ErrorCode) (from to : ℕ) (e : ErrorCode) (start end : ℕ)
    → IsErrorCode limits language text d from to → IsErrorCode limits language text e start end → Same d from to e start end
error_code_same language text _ _ _ _ _ _ (no_token c after utf8 split other none) (no_token k behind utf8' split' other' none') =
    (refl, refl, sym (char_len-char text after c utf8 split) ∙ char_len-char text behind k utf8' split')
error_code_same language text _ _ _ _ _ _ (no_token c after utf8 split other none) (control q k inside behind quote body bad split') = absurd (no_quote text q (inside ++ k ∷ behind) other quote split')
error_code_same language text _ _ _ _ _ _ (no_token c after utf8 split other none) (open_string q inside quote body split') = absurd (no_quote text q inside other quote split')
error_code_same language text _ _ _ _ _ _ (no_token c after utf8 split other none) (too_long kind word behind split' longest whole long) = absurd (none kind word behind split' longest.allowed)
error_code_same language text _ _ _ _ _ _ (no_token c after utf8 split other none) (not_whole word behind split' longest short fault) = absurd (none kinds.Num word behind split' longest.allowed)
error_code_same language text _ _ _ _ _ _ (no_token c after utf8 split other none) (too_large word behind split' longest short fault) = absurd (none kinds.Num word behind split' longest.allowed)
error_code_same language text _ _ _ _ _ _ (control q c inside after quote body bad split) (no_token k behind utf8 split' other none) = absurd (no_quote text q (inside ++ c ∷ after) other quote split)
error_code_same language text _ _ _ _ _ _ (control q c inside after quote body bad split) (control r k inner behind quote' core worse split') =
    let len = controls q c r k inside after inner behind quote quote' body core bad worse (sym split ∙ split') in
    (refl, omega (arith, len), omega (arith, len))
error_code_same language text _ _ _ _ _ _ (control q c inside after quote body bad split) (open_string r inner quote' core split') =
    absurd (control_not_open q c r inside after inner quote body core bad (sym split ∙ split'))
error_code_same language text _ _ _ _ _ _ (control q c inside after quote body bad split) (too_long kind word behind split' longest whole long) =
    absurd (unclosed language text q (inside ++ c ∷ after) kind word behind (Control (0 + length inside)) quote split split' longest whole (control_found q quote 0 c inside after body bad) (not_control (0 + length inside)))
error_code_same language text _ _ _ _ _ _ (control q c inside after quote body bad split) (not_whole word behind split' longest short fault) =
    absurd (unclosed language text q (inside ++ c ∷ after) kinds.Num word behind (Control (0 + length inside)) quote split split' longest (number_whole word behind) (control_found q quote 0 c inside after body bad) (not_control (0 + length inside)))
error_code_same language text _ _ _ _ _ _ (control q c inside after quote body bad split) (too_large word behind split' longest short fault) =
    absurd (unclosed language text q (inside ++ c ∷ after) kinds.Num word behind (Control (0 + length inside)) quote split split' longest (number_whole word behind) (control_found q quote 0 c inside after body bad) (not_control (0 + length inside)))
error_code_same language text d from to e start end (open_string q inside quote body split) (no_token k behind utf8 split' other none) = absurd (no_quote text q inside other quote split)
error_code_same language text d from to e start end (open_string q inside quote body split) (control r k inner behind quote' core worse split') =
    absurd (control_not_open r k q inner behind inside quote' core body worse (sym split' ∙ split))
error_code_same language text _ _ _ _ _ _ (open_string q inside quote body split) (open_string r inner quote' core split') = (refl, refl, refl)
error_code_same language text _ _ _ _ _ _ (open_string q inside quote body split) (too_long kind word behind split' longest whole long) =
    absurd (unclosed language text q inside kind word behind Open quote split split' longest whole (open_found q quote 0 inside body) not_open)
error_code_same language text _ _ _ _ _ _ (open_string q inside quote body split) (not_whole word behind split' longest short fault) =
    absurd (unclosed language text q inside kinds.Num word behind Open quote split split' longest (number_whole word behind) (open_found q quote 0 inside body) not_open)
error_code_same language text _ _ _ _ _ _ (open_string q inside quote body split) (too_large word behind split' longest short fault) =
    absurd (unclosed language text q inside kinds.Num word behind Open quote split split' longest (number_whole word behind) (open_found q quote 0 inside body) not_open)
error_code_same language text _ _ _ _ _ _ (too_long kind word behind split' longest whole long) (no_token c after utf8 split other none) = absurd (none kind word behind split' longest.allowed)
error_code_same language text _ _ _ _ _ _ (too_long kind word behind split' longest whole long) (control q c inside after quote body bad split) =
    absurd (unclosed language text q (inside ++ c ∷ after) kind word behind (Control (0 + length inside)) quote split split' longest whole (control_found q quote 0 c inside after body bad) (not_control (0 + length inside)))
error_code_same language text _ _ _ _ _ _ (too_long kind word behind split' longest whole long) (open_string q inside quote body split) =
    absurd (unclosed language text q inside kind word behind Open quote split split' longest whole (open_found q quote 0 inside body) not_open)
error_code_same language text _ _ _ _ _ _ (too_long kind word behind split longest whole long) (too_long sort term after split' longest' whole' long') =
    (refl, refl, ap length (longest_same language kind sort word term behind after longest longest' (sym split ∙ split')).0)
error_code_same language text _ _ _ _ _ _ (too_long kind word behind split longest whole long) (not_whole term after split' longest' short fault) =
    absurd (omega (arith, ap length (longest_same language kind kinds.Num word term behind after longest longest' (sym split ∙ split')).0, long, short))
error_code_same language text _ _ _ _ _ _ (too_long kind word behind split longest whole long) (too_large term after split' longest' short fault) =
    absurd (omega (arith, ap length (longest_same language kind kinds.Num word term behind after longest longest' (sym split ∙ split')).0, long, short))
error_code_same language text _ _ _ _ _ _ (not_whole word behind split' longest short fault) (no_token c after utf8 split other none) = absurd (none kinds.Num word behind split' longest.allowed)
error_code_same language text _ _ _ _ _ _ (not_whole word behind split' longest short fault) (control q c inside after quote body bad split) =
    absurd (unclosed language text q (inside ++ c ∷ after) kinds.Num word behind (Control (0 + length inside)) quote split split' longest (number_whole word behind) (control_found q quote 0 c inside after body bad) (not_control (0 + length inside)))
error_code_same language text _ _ _ _ _ _ (not_whole word behind split' longest short fault) (open_string q inside quote body split) =
    absurd (unclosed language text q inside kinds.Num word behind Open quote split split' longest (number_whole word behind) (open_found q quote 0 inside body) not_open)
error_code_same language text _ _ _ _ _ _ (not_whole word behind split longest short fault) (too_long kind term after split' longest' whole long) =
    absurd (omega (arith, ap length (longest_same language kinds.Num kind word term behind after longest longest' (sym split ∙ split')).0, long, short))
error_code_same language text _ _ _ _ _ _ (not_whole word behind split longest short fault) (not_whole term after split' longest' short' fault') =
    (refl, refl, ap length (longest_same language kinds.Num kinds.Num word term behind after longest longest' (sym split ∙ split')).0)
error_code_same language text _ _ _ _ _ _ (not_whole word behind split longest short fault) (too_large term after split' longest' short' fault') =
    absurd (one_num_fault word (subst (λ w. IsNumFault limits.value w num.TooLarge) (sym (longest_same language kinds.Num kinds.Num word term behind after longest longest' (sym split ∙ split')).0) fault') fault)
error_code_same language text _ _ _ _ _ _ (too_large word behind split' longest short fault) (no_token c after utf8 split other none) = absurd (none kinds.Num word behind split' longest.allowed)
error_code_same language text _ _ _ _ _ _ (too_large word behind split' longest short fault) (control q c inside after quote body bad split) =
    absurd (unclosed language text q (inside ++ c ∷ after) kinds.Num word behind (Control (0 + length inside)) quote split split' longest (number_whole word behind) (control_found q quote 0 c inside after body bad) (not_control (0 + length inside)))
error_code_same language text _ _ _ _ _ _ (too_large word behind split' longest short fault) (open_string q inside quote body split) =
    absurd (unclosed language text q inside kinds.Num word behind Open quote split split' longest (number_whole word behind) (open_found q quote 0 inside body) not_open)
error_code_same language text _ _ _ _ _ _ (too_large word behind split longest short fault) (too_long kind term after split' longest' whole long) =
    absurd (omega (arith, ap length (longest_same language kinds.Num kind word term behind after longest longest' (sym split ∙ split')).0, long, short))
error_code_same language text _ _ _ _ _ _ (too_large word behind split longest short fault) (not_whole term after split' longest' short' fault') =
    absurd (one_num_fault word fault (subst (λ w. IsNumFault limits.value w num.NotWhole) (sym (longest_same language kinds.Num kinds.Num word term behind after longest longest' (sym split ∙ split')).0) fault'))
error_code_same language text _ _ _ _ _ _ (too_large word behind split longest short fault) (too_large term after split' longest' short' fault') =
    (refl, refl, ap length (longest_same language kinds.Num kinds.Num word term behind after longest longest' (sym split ∙ split')).0)

-- what stands behind a gap
behind_gap : (rest gap text : List ℕ) → rest ≡ gap ++ text → IsGap gap → is_blank (first text) ≡ false → BeginsNoComment text → after_gap Between rest rest ≡ Ok text
behind_gap rest gap text e g bare no_comment = ap (after_gap Between rest) e ∙ (gap_passes gap g rest text ∙ gap_stops text text (no_gap text bare no_comment))

opens : (rest gap opened : List ℕ) → rest ≡ gap ++ opened → IsGap gap → IsOpenComment opened → after_gap Between rest rest ≡ Err opened
opens rest gap opened e g o = ap (after_gap Between rest) e ∙ (gap_passes gap g rest opened ∙ open_passes opened o)

same_gap : (rest gap hole text other : List ℕ) → rest ≡ gap ++ text → rest ≡ hole ++ other → text ≡ other → gap ≡ hole
same_gap rest gap hole text other e f same = append_cancel_right gap hole text (sym e ∙ (f ∙ ap (λ x. hole ++ x) (sym same)))

err_same : {A B : Type 0} (x y : B) → ◌≡◌ {A = Result A B} (Err x) (Err y) → x ≡ y
err_same x y e = cc

ok_not_err : {A B : Type 0} (x : A) (y : B) → ◌≡◌ {A = Result A B} (Ok x) (Err y) → ⊥
ok_not_err x y e = cc

fault_same : (language : Language) (at : ℕ) (rest : List ℕ) (d e : ErrorCode) (span place : Span) → IsFault limits language at rest d span → IsFault limits language at rest e place → (d ≡ e) × (span ≡ place)
fault_same language at rest d e span place (comment gap opened split g o is there) (comment hole other split' g' o' is' there') =
    let same : opened ≡ other = err_same opened other (sym (opens rest gap opened split g o) ∙ opens rest hole other split' g' o') in
    let gaps = same_gap rest gap hole opened other split split' same in
    (is ∙ sym is', there ∙ (ap (λ (x : List ℕ). record { start = at + length x; end = at + length x + 2 }) gaps ∙ sym there'))
fault_same language at rest d e span place (comment gap opened split g o is there) (token hole text from to split' g' bare no_comment error_code there') =
    absurd (ok_not_err text opened (sym (behind_gap rest hole text split' g' bare no_comment) ∙ opens rest gap opened split g o))
fault_same language at rest d e span place (token hole text from to split' g' bare no_comment error_code there') (comment gap opened split g o is there) =
    absurd (ok_not_err text opened (sym (behind_gap rest hole text split' g' bare no_comment) ∙ opens rest gap opened split g o))
fault_same language at rest d e span place (token gap text from to split g bare no_comment error_code there) (token hole other start end split' g' bare' no_comment' error_code' there') =
    let same : text ≡ other = ok_same text other (sym (behind_gap rest gap text split g bare no_comment) ∙ behind_gap rest hole other split' g' bare' no_comment') in
    let gaps = same_gap rest gap hole text other split split' same in
    let (kind, begin, stop) = error_code_same language text d from to e start end error_code (subst (λ t. IsErrorCode limits language t e start end) (sym same) error_code') in
    (kind, there ∙ (placed (length gap) (length hole) from start to end (ap length gaps) begin stop ∙ sym there'))
  where
    placed : (g h a b x y : ℕ) → g ≡ h → a ≡ b → x ≡ y → ◌≡◌ {A = Span} (record { start = at + g + a; end = at + g + x }) (record { start = at + h + b; end = at + h + y })
    placed g h a b x y p q r = cc (p, q, r)

-- where a sound token stands there is no fault
no_token_and_fault : (language : Language) (at : ℕ) (rest : List ℕ) (d : ErrorCode) (span : Span) (u : Token) (hole behind : List ℕ) → IsFault limits language at rest d span
    → IsSoundNext limits language at rest u hole behind → ⊥
no_token_and_fault language at rest d span u hole behind (comment gap opened split g o is there) next =
    ok_not_err (u.text ++ behind) opened (sym (next_skips language at rest u hole behind next.next) ∙ opens rest gap opened split g o)
no_token_and_fault language at rest d span u hole behind (token gap text from to split g bare no_comment error_code there) next =
    let same : text ≡ u.text ++ behind = ok_same text (u.text ++ behind) (sym (behind_gap rest gap text split g bare no_comment) ∙ next_skips language at rest u hole behind next.next) in
    no_error_code language text d from to error_code u behind same next.next.longest next.whole next.sound

abbrev Faulty : Language → ErrorCode → Span → ℕ → List ℕ → List Token → Type 0
Faulty language d span at rest tokens = StandSound limits language (λ at rest. IsFault limits language at rest d span) at rest tokens

after_same : (language : Language) (at : ℕ) (rest : List ℕ) (d e : ErrorCode) (span place : Span) (ts us : List Token) → Faulty language d span at rest ts → Faulty language e place at rest us
    → (d ≡ e) × (span ≡ place)
after_same language at rest d e span place [] [] fault other = fault_same language at rest d e span place fault other
after_same language at rest d e span place [] (u ∷ us) fault (hole, behind, next, tail) = absurd (no_token_and_fault language at rest d span u hole behind fault next)
after_same language at rest d e span place (t ∷ ts) [] (gap, after, next, tail) other = absurd (no_token_and_fault language at rest e place t gap after other next)
after_same language at rest d e span place (t ∷ ts) (u ∷ us) (gap, after, next, tail) (hole, behind, more, other) =
    let same = next_same language at rest t u gap hole after behind next.next more.next in
    let there : Faulty language e place t.span.end after us =
    subst (λ k. Faulty language e place k after us) (sym (ap (λ (x : Token). x.span.end) same.0)) (subst (λ r. Faulty language e place u.span.end r us) (sym same.1) other) in
    after_same language t.span.end after d e span place ts us tail there

pub one_first_fault : (language : Language) (text : List ℕ) (d e : ErrorCode) (span place : Span) → IsFirstFault language text d span → IsFirstFault language text e place → (d ≡ e) × (span ≡ place)
one_first_fault language text d e span place (text_too_long long is there) (text_too_long long' is' there') = (is ∙ sym is', there ∙ sym there')
one_first_fault language text d e span place (text_too_long long is there) (not_utf8 good short valid is' there') = absurd (omega (arith, long, short))
one_first_fault language text d e span place (text_too_long long is there) (after_tokens us short utf8 fault) = absurd (omega (arith, long, short))
one_first_fault language text d e span place (not_utf8 good short valid is there) (text_too_long long is' there') = absurd (omega (arith, long, short))
one_first_fault language text d e span place (not_utf8 good short valid is there) (not_utf8 well short' valid' is' there') =
    let same : good ≡ well = sym (utf8_valid_len-IsValidUpTo text good valid) ∙ utf8_valid_len-IsValidUpTo text well valid' in
    (is ∙ sym is', there ∙ (ap (λ n. record { start = n; end = n + 1 }) same ∙ sym there'))
one_first_fault language text d e span place (not_utf8 good short valid is there) (after_tokens us short' utf8 fault) = absurd (invalid text good valid utf8)
one_first_fault language text d e span place (after_tokens ts short utf8 fault) (text_too_long long is there) = absurd (omega (arith, long, short))
one_first_fault language text d e span place (after_tokens ts short utf8 fault) (not_utf8 good short' valid is there) = absurd (invalid text good valid utf8)
one_first_fault language text d e span place (after_tokens ts short utf8 fault) (after_tokens us short' utf8' fault') = after_same language 0 text d e span place ts us fault fault'
