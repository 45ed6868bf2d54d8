-- What is skipped at the front of a text is blanks and comments, and no more follow.
use Rattle.std.proofs.Common.{◌≡◌, ℕ, ◌<◌, ◌⊎◌, true, false, ◌&&◌, ◌==◌, List, [], ◌∷◌, ◌++◌, length, Result, Ok, Err, refl, sym, ap, ◌∙◌, arith, inl, inr, subst, append_assoc, eqb-true}
use Rattle.std.proofs.lemmas.Bool.{cases_Bool, and_parts, false≢true, or_from, and_right}
use Rattle.net_lex.specs.declared.gap.Place.{Place}
use Rattle.net_lex.specs.declared.gap.Place.TheVariants.{Between, Line, Opening, Block, Closing}
use Rattle.net_lex.specs.Bytes.{first}
use Rattle.net_lex.specs.Characters.{is_blank, line_feed, hash, slash, star}
use Rattle.net_lex.specs.GapFront.{after_gap}
use Rattle.net_lex.specs.Gaps.{IsOneLine, has_close, IsGap, nothing, blank, line, block, none, comment, IsLastGap, IsOpenComment}
use Rattle.net_lex.specs.Scanning.{BeginsNoGap}
use Rattle.net_lex.proofs.NumeralLemmas.{first_append}

-- the text is a last gap, or a gap and a rest where none begins, or a gap and a comment that is not closed
abbrev pub Skipped : List ℕ → Result (List ℕ) (List ℕ) → Type 0
Skipped text (Ok rest) = ((rest ≡ []) × IsLastGap text) ⊎ ((gap : List ℕ) × (text ≡ gap ++ rest) × IsGap gap × BeginsNoGap rest × (0 < length rest))
Skipped text (Err opened) = (gap : List ℕ) × (text ≡ gap ++ opened) × IsGap gap × IsOpenComment opened

-- a piece in front that makes a longer gap of each gap
Lengthens : List ℕ → Type 0
Lengthens piece = (gap : List ℕ) → IsGap gap → IsGap (piece ++ gap)

lengthened : (piece text : List ℕ) (r : Result (List ℕ) (List ℕ)) → ((gap : List ℕ) → IsGap gap → IsGap (piece ++ gap)) → Skipped text r → Skipped (piece ++ text) r
lengthened piece text (Ok rest) more (inl (e, last)) =
    inl (e, record { front = piece ++ last.front; line = last.line; joined = ap (λ t. piece ++ t) last.joined ∙ sym (append_assoc piece last.front last.line); gap = more last.front last.gap; last = last.last })
lengthened piece text (Ok rest) more (inr (gap, e, is, stops, some)) =
    inr (piece ++ gap, ap (λ t. piece ++ t) e ∙ sym (append_assoc piece gap rest), more gap is, stops, some)
lengthened piece text (Err opened) more (gap, e, is, open_comment) =
    (piece ++ gap, ap (λ t. piece ++ t) e ∙ sym (append_assoc piece gap opened), more gap is, open_comment)

-- what is told of a text that begins in a place
abbrev InLine : List ℕ → Result (List ℕ) (List ℕ) → Type 0
InLine text r = (body : List ℕ) × IsOneLine body × (((text ≡ body) × (r ≡ Ok [])) ⊎ ((rest : List ℕ) × (text ≡ body ++ line_feed ∷ rest) × Skipped rest r))

abbrev InBlock : List ℕ → List ℕ → Result (List ℕ) (List ℕ) → Type 0
InBlock opened text r = (body : List ℕ) × (has_close body ≡ false) × (((text ≡ body) × (r ≡ Err opened)) ⊎ ((rest : List ℕ) × (text ≡ body ++ star ∷ slash ∷ rest) × Skipped rest r))

abbrev Reported : Place → List ℕ → List ℕ → Result (List ℕ) (List ℕ) → Type 0
Reported Between opened text r = Skipped text r
Reported Line opened text r = InLine text r
Reported Opening opened [] r = r ≡ Err opened
Reported Opening opened (c ∷ cs) r = InBlock opened cs r
Reported Block opened text r = InBlock opened text r
Reported Closing opened [] r = r ≡ Err opened
Reported Closing opened (c ∷ cs) r = Skipped cs r

nothing_last : IsLastGap []
nothing_last = record { front = []; line = []; joined = refl; gap = nothing; last = none refl }

hash_line : (cs : List ℕ) (r : Result (List ℕ) (List ℕ)) → InLine cs r → Skipped (hash ∷ cs) r
hash_line cs r (body, one, inl (e, ended)) =
    subst (Skipped (hash ∷ cs)) (sym ended) (inl (refl, record { front = []; line = hash ∷ body; joined = ap (λ t. hash ∷ t) e; gap = nothing; last = comment body one refl }))
hash_line cs r (body, one, inr (rest, e, skipped)) =
    let piece = hash ∷ (body ++ line_feed ∷ []) in
    let whole : hash ∷ cs ≡ piece ++ rest = ap (λ t. hash ∷ t) (e ∙ sym (append_assoc body (line_feed ∷ []) rest)) in
    subst (λ t. Skipped t r) (sym whole)
    (lengthened piece rest r (λ gap is. line body gap one is (ap (λ t. hash ∷ t) (append_assoc body (line_feed ∷ []) gap))) skipped)

slash_star : (cs : List ℕ) (r : Result (List ℕ) (List ℕ)) → InBlock (slash ∷ star ∷ cs) cs r → Skipped (slash ∷ star ∷ cs) r
slash_star cs r (body, unclosed, inl (e, ended)) =
    subst (Skipped (slash ∷ star ∷ cs)) (sym ended) ([], refl, nothing, record { body = body; is = ap (λ t. slash ∷ star ∷ t) e; unclosed = unclosed })
slash_star cs r (body, unclosed, inr (rest, e, skipped)) =
    let piece = slash ∷ star ∷ (body ++ star ∷ slash ∷ []) in
    let whole : slash ∷ star ∷ cs ≡ piece ++ rest = ap (λ t. slash ∷ star ∷ t) (e ∙ sym (append_assoc body (star ∷ slash ∷ []) rest)) in
    subst (λ t. Skipped t r) (sym whole)
    (lengthened piece rest r (λ gap is. block body gap unclosed is (ap (λ t. slash ∷ star ∷ t) (append_assoc body (star ∷ slash ∷ []) gap))) skipped)

line_goes : (c : ℕ) (cs : List ℕ) (r : Result (List ℕ) (List ℕ)) → (c == line_feed) ≡ false → InLine cs r → InLine (c ∷ cs) r
line_goes c cs r other (body, one, inl (e, ended)) = (c ∷ body, rw other one, inl (ap (λ t. c ∷ t) e, ended))
line_goes c cs r other (body, one, inr (rest, e, skipped)) = (c ∷ body, rw other one, inr (rest, ap (λ t. c ∷ t) e, skipped))

no_close : (c : ℕ) (body cs : List ℕ) → (c == star && first cs == slash) ≡ false → has_close body ≡ false → (0 < length body → first cs ≡ first body) → has_close (c ∷ body) ≡ false
no_close c [] cs other unclosed same = or_from (c == star && false) false (and_right (c == star) false refl) refl
no_close c (d ∷ ds) cs other unclosed same =
    let e : first cs ≡ d = same (omega arith) in
    or_from (c == star && d == slash) (has_close (d ∷ ds)) (subst (λ k. (c == star && k == slash) ≡ false) e other) unclosed

block_goes : (opened : List ℕ) (c : ℕ) (cs : List ℕ) (r : Result (List ℕ) (List ℕ)) → (c == star && first cs == slash) ≡ false → InBlock opened cs r → InBlock opened (c ∷ cs) r
block_goes opened c cs r other (body, unclosed, inl (e, ended)) =
    (c ∷ body, no_close c body cs other unclosed (λ some. ap first e), inl (ap (λ t. c ∷ t) e, ended))
block_goes opened c cs r other (body, unclosed, inr (rest, e, skipped)) = (c ∷ body, no_close c body cs other unclosed (λ some. ap first e ∙ first_append body (star ∷ slash ∷ rest) some), inr (rest, ap (λ t. c ∷ t) e, skipped))

opening_skipped : (cs : List ℕ) (r : Result (List ℕ) (List ℕ)) → (first cs == star) ≡ true → Reported Opening (slash ∷ cs) cs r → Skipped (slash ∷ cs) r
opening_skipped [] r h t = absurd (false≢true h)
opening_skipped (d ∷ ds) r h t =
    let e = eqb-true d star h in
    subst (λ k. Skipped (slash ∷ k ∷ ds) r) (sym e) (slash_star ds r (subst (λ k. InBlock (slash ∷ k ∷ ds) ds r) e t))

closing_block : (opened cs : List ℕ) (r : Result (List ℕ) (List ℕ)) → (first cs == slash) ≡ true → Reported Closing opened cs r → InBlock opened (star ∷ cs) r
closing_block opened [] r h t = absurd (false≢true h)
closing_block opened (d ∷ ds) r h t = ([], refl, inr (ds, ap (λ k. star ∷ k ∷ ds) (eqb-true d slash h), t))

begins_between : (c : ℕ) (cs opened : List ℕ) → ((place : Place) (opened : List ℕ) → Reported place opened cs (after_gap place opened cs))
    → Skipped (c ∷ cs) (after_gap Between opened (c ∷ cs))
unfolding after_gap
begins_between c cs opened reported = elim (cases_Bool (is_blank c)) [
  | inl is ↦ rw is (lengthened (c ∷ []) cs _ (λ gap g. blank is g) (reported Between (c ∷ cs)))
  | inr not_blank ↦ elim (cases_Bool (c == hash)) [
    | inl is ↦ rw (eqb-true c hash is) (hash_line cs _ (reported Line (hash ∷ cs)))
    | inr not_hash ↦ elim (cases_Bool (c == slash && first cs == star)) [
      | inl is ↦
          let (slashes, stars) = and_parts (c == slash) (first cs == star) is in
          rw (eqb-true c slash slashes, stars) (opening_skipped cs _ stars (reported Opening (slash ∷ cs)))
      | inr not_comment ↦ rw (not_blank, not_hash, not_comment) (inr ([], refl, nothing, rw (not_blank, not_hash, not_comment) refl, omega arith))
    ]
  ]
]

-- what is told of each place holds
reported : (place : Place) (opened text : List ℕ) → Reported place opened text (after_gap place opened text)
unfolding after_gap
reported Between opened [] = inl (refl, nothing_last)
reported Line opened [] = ([], refl, inl (refl, refl))
reported Opening opened [] = refl
reported Block opened [] = ([], refl, inl (refl, refl))
reported Closing opened [] = refl
reported Between opened (c ∷ cs) = begins_between c cs opened (λ place o. reported place o cs)
reported Line opened (c ∷ cs) = elim (cases_Bool (c == line_feed)) [
  | inl is ↦ rw (eqb-true c line_feed is) ([], refl, inr (cs, refl, reported Between opened cs))
  | inr other ↦ rw other (line_goes c cs _ other (reported Line opened cs))
]
reported Opening opened (c ∷ cs) = reported Block opened cs
reported Block opened (c ∷ cs) = elim (cases_Bool (c == star && first cs == slash)) [
  | inl is ↦
      let (stars, slashes) = and_parts (c == star) (first cs == slash) is in
      rw (eqb-true c star stars, slashes) (closing_block opened cs _ slashes (reported Closing opened cs))
  | inr other ↦ rw other (block_goes opened c cs _ other (reported Block opened cs))
]
reported Closing opened (c ∷ cs) = reported Between opened cs

-- what follows the blanks and comments of a text, or a comment that is not closed
pub skipped_is : (text : List ℕ) (r : Result (List ℕ) (List ℕ)) → after_gap Between text text ≡ r → Skipped text r
skipped_is text r e = subst (Skipped text) e (reported Between text text)
