-- The blanks and comments at the front of a text.
use Rattle.std.proofs.Common.{◌≡◌, ℕ, ◌+◌, ◌<◌, cond, List, [], length, get_or, drop, Some, None, is_some, unwrap_or, Ok, refl, arith, add-zero, get_or-drop}
use Rattle.std.proofs.lemmas.Bool.Decides.{nat_tests}
use Rattle.std.proofs.lemmas.List.{drop_more}
use Rattle.net_lex.specs.declared.gap.Place.{Place}
use Rattle.net_lex.specs.declared.gap.Place.TheVariants.{Between, Line, Opening, Block, Closing}
use Rattle.net_lex.specs.GapFront.{place_after, opened_at, gap_end, after_gap}

-- one byte, at an index
pub after_gap-drop : (place : Place) (opened xs : List ℕ) (i : ℕ) → i < length xs
    → let next = place_after place (get_or xs i 0) (get_or xs (i + 1) 0) in
    after_gap place opened (drop i xs)
    ≡ cond (is_some next) (after_gap (unwrap_or next Between) (opened_at place (drop i xs) opened) (drop (i + 1) xs)) (Ok (drop i xs))
unfolding after_gap
after_gap-drop place opened xs i h =
    let next : get_or (drop (i + 1) xs) 0 0 ≡ get_or xs (i + 1) 0 = rw (get_or-drop (i + 1) xs 0 0, add-zero) refl in
    rw (drop_more xs i 0 h, next) refl

pub after_gap-nil : (place : Place) (opened : List ℕ) → after_gap place opened [] ≡ gap_end place opened
unfolding after_gap
after_gap-nil place opened = refl

-- only the star and the slash that end a comment lead to its end
pub to_closing : (place : Place) (c next : ℕ) → place_after place c next ≡ Some Closing → next ≡ 47
to_closing Between c next e = grind (arith, nat_tests)
to_closing Line c next e = grind (arith, nat_tests)
to_closing Opening c next e = grind (arith, nat_tests)
to_closing Block c next e = grind (arith, nat_tests)
to_closing Closing c next e = grind (arith, nat_tests)

-- the byte after which blanks and comments may end is ASCII
pub place_ascii : (place : Place) (c next : ℕ) → place_after place c next ≡ Some Between → (place ≡ Closing → c ≡ 47) → c < 128
place_ascii Between c next e closing = grind (arith, nat_tests)
place_ascii Line c next e closing = grind (arith, nat_tests)
place_ascii Opening c next e closing = grind (arith, nat_tests)
place_ascii Block c next e closing = grind (arith, nat_tests)
place_ascii Closing c next e closing = omega (arith, closing refl)

-- only between comments can they end
pub stops_between : (place : Place) (c next : ℕ) → place_after place c next ≡ None → place ≡ Between
stops_between Between c next e = refl
stops_between Line c next e = grind (arith, nat_tests)
stops_between Opening c next e = grind (arith, nat_tests)
stops_between Block c next e = grind (arith, nat_tests)
stops_between Closing c next e = grind (arith, nat_tests)
