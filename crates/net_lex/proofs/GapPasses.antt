-- Blanks and comments are skipped, whatever follows them.
use Rattle.std.proofs.Common.{◌≡◌, ℕ, ◌≤◌, true, false, not, ◌&&◌, ◌==◌, List, [], ◌∷◌, ◌++◌, length, take, drop, get_or, IsUtf8, None, Ok, Err, refl, sym, ap, ◌∙◌, inl, inr, subst, arith, one-add, append_assoc, length-take, take-append-drop}
use Rattle.std.proofs.lemmas.Bool.{cases_Bool, ne_eqb, and_parts, and_right, or_parts, not-true}
use Rattle.std.proofs.lemmas.Bool.Decides.{nat_tests}
use Rattle.std.specs.List.{list_all, prefix_len}
use Rattle.std.specs.Str.{IsCharBoundary}
use Rattle.net_lex.specs.declared.gap.Place.TheVariants.{Between, Line, Block}
use Rattle.net_lex.specs.Bytes.{first}
use Rattle.net_lex.specs.Characters.{is_blank, line_feed, hash, slash, star}
use Rattle.net_lex.specs.GapFront.{place_after, after_gap}
use Rattle.net_lex.specs.Gaps.{IsOneLine, has_close, IsGap, nothing, blank, line, block, IsOpenLine, none, comment, IsLastGap, IsOpenComment}
use Rattle.net_lex.specs.Scanning.{BeginsNoGap}
use Rattle.net_lex.proofs.FormLemmas.{is_small, all_weaker, ascii_cut}
use Rattle.net_lex.proofs.NumeralLemmas.{run_all}

between_any : (o p rest : List ℕ) → after_gap Between o rest ≡ after_gap Between p rest
unfolding after_gap
between_any o p [] = refl
between_any o p (c ∷ cs) = refl

line_passes : (o body rest : List ℕ) → IsOneLine body → after_gap Line o (body ++ line_feed ∷ rest) ≡ after_gap Between o rest
unfolding after_gap
line_passes o [] rest one = refl
line_passes o (c ∷ cs) rest one =
    let (here, more) = and_parts (not (c == line_feed)) (list_all (λ c. not (c == line_feed)) cs) one in
    rw (not-true (c == line_feed) here) (line_passes o cs rest more)

line_ends : (o body : List ℕ) → IsOneLine body → after_gap Line o body ≡ Ok []
unfolding after_gap
line_ends o [] one = refl
line_ends o (c ∷ cs) one =
    let (here, more) = and_parts (not (c == line_feed)) (list_all (λ c. not (c == line_feed)) cs) one in
    rw (not-true (c == line_feed) here) (line_ends o cs more)

still_open : (c : ℕ) (cs rest : List ℕ) → (c == star && first cs == slash) ≡ false → (c == star && first (cs ++ star ∷ slash ∷ rest) == slash) ≡ false
still_open c [] rest h = and_right (c == star) false refl
still_open c (d ∷ ds) rest h = h

block_passes : (o body rest : List ℕ) → has_close body ≡ false → after_gap Block o (body ++ star ∷ slash ∷ rest) ≡ after_gap Between o rest
unfolding after_gap
block_passes o [] rest open_still = refl
block_passes o (c ∷ cs) rest open_still =
    let (here, more) = or_parts (c == star && first cs == slash) (has_close cs) open_still in
    rw (still_open c cs rest here) (block_passes o cs rest more)

block_ends : (o body : List ℕ) → has_close body ≡ false → after_gap Block o body ≡ Err o
unfolding after_gap
block_ends o [] open_still = refl
block_ends o (c ∷ cs) open_still =
    let (here, more) = or_parts (c == star && first cs == slash) (has_close cs) open_still in
    rw here (block_ends o cs more)

begin_line : (o x : List ℕ) → after_gap Between o (hash ∷ x) ≡ after_gap Line (hash ∷ x) x
unfolding after_gap
begin_line o x = refl

begin_block : (o x : List ℕ) → after_gap Between o (slash ∷ star ∷ x) ≡ after_gap Block (slash ∷ star ∷ x) x
unfolding after_gap
begin_block o x = refl

begin_blank : (c : ℕ) (o x : List ℕ) → is_blank c ≡ true → after_gap Between o (c ∷ x) ≡ after_gap Between (c ∷ x) x
unfolding after_gap
begin_blank c o x is = rw is refl

-- a gap is skipped
pub gap_passes : (gap : List ℕ) → IsGap gap → (o rest : List ℕ) → after_gap Between o (gap ++ rest) ≡ after_gap Between rest rest
gap_passes _ nothing o rest = between_any o rest rest
gap_passes _ (blank {c = c} {rest = more} is g) o rest = begin_blank c o (more ++ rest) is ∙ gap_passes more g (c ∷ (more ++ rest)) rest
gap_passes gap (line body more one g e) o rest =
    let split : gap ++ rest ≡ hash ∷ (body ++ line_feed ∷ (more ++ rest)) = ap (λ t. t ++ rest) e ∙ ap (λ t. hash ∷ t) (append_assoc body (line_feed ∷ more) rest) in
    ap (after_gap Between o) split ∙ (begin_line o (body ++ line_feed ∷ (more ++ rest))
    ∙ (line_passes (hash ∷ (body ++ line_feed ∷ (more ++ rest))) body (more ++ rest) one ∙ gap_passes more g (hash ∷ (body ++ line_feed ∷ (more ++ rest))) rest))
gap_passes gap (block body more open_still g e) o rest =
    let x = body ++ star ∷ slash ∷ (more ++ rest) in
    let split : gap ++ rest ≡ slash ∷ star ∷ x = ap (λ t. t ++ rest) e ∙ ap (λ t. slash ∷ star ∷ t) (append_assoc body (star ∷ slash ∷ more) rest) in
    ap (after_gap Between o) split ∙ (begin_block o x ∙ (block_passes (slash ∷ star ∷ x) body (more ++ rest) open_still ∙ gap_passes more g (slash ∷ star ∷ x) rest))

-- where no gap begins, none is skipped
pub gap_stops : (o : List ℕ) (rest : List ℕ) → BeginsNoGap rest → after_gap Between o rest ≡ Ok rest
unfolding after_gap
gap_stops o [] stops = refl
gap_stops o (c ∷ cs) stops = rw stops refl

nil_end : after_gap Between [] [] ≡ Ok []
unfolding after_gap
nil_end = refl

-- a last gap is the whole text
pub last_passes : (text : List ℕ) → IsLastGap text → after_gap Between text text ≡ Ok []
last_passes text last = ap (after_gap Between text) last.joined ∙ (gap_passes last.front last.gap text last.line ∙ line_end last.line last.last)
  where
    line_end : (text : List ℕ) → IsOpenLine text → after_gap Between text text ≡ Ok []
    line_end text (none e) = rw e nil_end
    line_end text (comment body one e) = rw e (begin_line (hash ∷ body) body ∙ line_ends (hash ∷ body) body one)

-- a comment that is not closed is found
pub open_passes : (opened : List ℕ) → IsOpenComment opened → after_gap Between opened opened ≡ Err opened
open_passes opened o = rw (o.is) (begin_block (slash ∷ star ∷ o.body) o.body ∙ block_ends (slash ∷ star ∷ o.body) o.body o.unclosed)

no_gap : (c next : ℕ) → is_blank c ≡ false → (c ≡ hash → ⊥) → (c ≡ slash → ⊥) → place_after Between c next ≡ None
no_gap c next other no_line no_block = rw (other, ne_eqb c hash no_line, ne_eqb c slash no_block) refl

-- blanks alone are skipped, where no comment begins behind them
pub blanks_pass : (o text : List ℕ) → let n = prefix_len is_blank text in (get_or text n 0 ≡ hash → ⊥) → (get_or text n 0 ≡ slash → ⊥) → after_gap Between o text ≡ Ok (drop n text)
blanks_pass o [] no_line no_block = between_any o [] [] ∙ nil_end
blanks_pass o (c ∷ cs) no_line no_block = elim (cases_Bool (is_blank c)) [
  | inl passes ↦ rw (passes, one-add) (begin_blank c o cs passes ∙ blanks_pass (c ∷ cs) cs (rw (passes, one-add) at no_line) (rw (passes, one-add) at no_block))
  | inr fails ↦ rw fails (gap_stops o (c ∷ cs) (no_gap c (first cs) fails (rw fails at no_line) (rw fails at no_block)))
]

blank_small : (c : ℕ) → is_blank c ≡ true → is_small c ≡ true
blank_small c h = grind (arith, nat_tests)

-- the text may be cut behind its blanks
pub blanks_cut : (text : List ℕ) → IsUtf8 text → let n = prefix_len is_blank text in n ≤ length text → IsCharBoundary text n
blanks_cut text utf8 within =
    let n = prefix_len is_blank text in
    let small = all_weaker is_blank is_small (take n text) blank_small (run_all is_blank text) in
    let len : length (take n text) ≡ n = omega (arith, length-take n text) in
    subst (IsCharBoundary text) len (ascii_cut text (take n text) (drop n text) utf8 (sym (take-append-drop n text)) small)
