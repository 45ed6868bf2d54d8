-- The blanks and comments at the beginning of a text, byte by byte (AMPL book, section A.1).
use Rattle.std.specs.Prelude.{ℕ, ◌==◌, ◌&&◌, List, [], ◌∷◌, if◌then◌else◌, Option, Some, None, is_some, unwrap_or, Result, Ok, Err}
use Rattle.net_lex.specs.declared.gap.Place.{Place}
use Rattle.net_lex.specs.declared.gap.Place.TheVariants.{Between, Line, Opening, Block, Closing}
use Rattle.net_lex.specs.Bytes.{first}
use Rattle.net_lex.specs.Characters.{is_blank, line_feed, hash, slash, star}

-- the state after the byte c, which is followed by `next`; `None` at the end of the blanks and
-- comments
abbrev pub place_after : Place → ℕ → ℕ → Option Place
place_after Between c next =
    if is_blank c then Some Between
    else if c == hash then Some Line
    else if c == slash && next == star then Some Opening
    else None
place_after Line c next = if c == line_feed then Some Between else Some Line
place_after Opening c next = Some Block
place_after Block c next = if c == star && next == slash then Some Closing else Some Block
place_after Closing c next = Some Between

-- the text from the start of the last comment that was opened
abbrev pub opened_at : Place → List ℕ → List ℕ → List ℕ
opened_at Between here opened = here
opened_at Line here opened = opened
opened_at Opening here opened = opened
opened_at Block here opened = opened
opened_at Closing here opened = opened

-- the result at the end of the text: the empty rest, or an unclosed comment
abbrev pub gap_end : Place → List ℕ → Result (List ℕ) (List ℕ)
gap_end Between opened = Ok []
gap_end Line opened = Ok []
gap_end Opening opened = Err opened
gap_end Block opened = Err opened
gap_end Closing opened = Err opened

-- the text after the leading blanks and comments, or the text from an unclosed comment on
unfoldable pub after_gap : Place → List ℕ → List ℕ → Result (List ℕ) (List ℕ)
after_gap place opened [] = gap_end place opened
after_gap place opened (c ∷ cs) =
    if is_some (place_after place c (first cs))
    then after_gap (unwrap_or (place_after place c (first cs)) Between) (opened_at place (c ∷ cs) opened) cs
    else Ok (c ∷ cs)
