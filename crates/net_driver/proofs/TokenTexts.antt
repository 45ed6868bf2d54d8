-- The text of a name or a string has no line ending if the token has none.
use Rattle.std.specs.Prelude.{◌≡◌, ℕ, zero, suc, ◌-◌, Bool, true, false, not, ◌&&◌, List, [], ◌∷◌, length, take, slice_index, nat_eq, if◌then◌else◌}
use Rattle.std.specs.List.{list_all}
use Rattle.std.proofs.Common.{refl}
use Rattle.std.proofs.lemmas.Bool.{and_parts, and_from}
use Rattle.net_lex.specs.Characters.{is_quote}
use Rattle.net_lex.specs.LineEnds.{ends_line, HasNoLineEnd}
use Rattle.net_sets.specs.Texts.{single, without_close, text_of}

abbrev stays : ℕ → Bool
stays c = not (ends_line c)

take_stays : (n : ℕ) (text : List ℕ) → HasNoLineEnd text → HasNoLineEnd (take n text)
take_stays zero text h = refl
take_stays (suc n) [] h = refl
take_stays (suc n) (c ∷ cs) h =
    let (here, more) = and_parts (stays c) (list_all stays cs) h in
    and_from (stays c) (list_all stays (take n cs)) here (take_stays n cs more)

without_close_stays : (d : ℕ) (text : List ℕ) → HasNoLineEnd text → HasNoLineEnd (without_close d text)
without_close_stays d text h = go (nat_eq (slice_index text (length text - 1)) d)
  where
    go : (b : Bool) → HasNoLineEnd (if b then take (length text - 1) text else text)
    go true = take_stays (length text - 1) text h
    go false = h

single_stays : (d : ℕ) (text : List ℕ) → HasNoLineEnd text → HasNoLineEnd (single d text)
single_stays d [] h = refl
single_stays d (a ∷ []) h = h
single_stays d (a ∷ b ∷ rest) h =
    let (here, more) = and_parts (stays a) (list_all stays (b ∷ rest)) h in
    let (next, others) = and_parts (stays b) (list_all stays rest) more in
    go (nat_eq a d && nat_eq b d) here (single_stays d rest others) (single_stays d (b ∷ rest) more)
  where
    go : (c : Bool) → stays a ≡ true → HasNoLineEnd (single d rest) → HasNoLineEnd (single d (b ∷ rest)) → HasNoLineEnd (if c then a ∷ single d rest else a ∷ single d (b ∷ rest))
    go true here once both = and_from (stays a) (list_all stays (single d rest)) here once
    go false here once both = and_from (stays a) (list_all stays (single d (b ∷ rest))) here both

pub text_stays : (text : List ℕ) → HasNoLineEnd text → HasNoLineEnd (text_of text)
text_stays [] h = refl
text_stays (c ∷ rest) h = go (is_quote c)
  where
    go : (b : Bool) → HasNoLineEnd (if b then single c (without_close c rest) else c ∷ rest)
    go true = single_stays c (without_close c rest) (without_close_stays c rest (and_parts (stays c) (list_all stays rest) h).1)
    go false = h
