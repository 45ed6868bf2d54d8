-- A line reads the same behind what is kept of its front as behind the front.
use Rattle.std.proofs.Common.{◌≡◌, ◌≤◌, ◌<◌, ℕ, suc, ◌+◌, ◌-◌, ◌==◌, Bool, true, false, List, [], ◌∷◌, ◌++◌, refl, sym, ap, ◌∙◌, length, take, drop, append_assoc, arith}
use Rattle.std.specs.Prelude.{Result, slice_index, if◌then◌else◌}
use Rattle.std.specs.List.{slice_split}
use Rattle.std.specs.Str.Lines.{lines, lines_of_parts, strip_carriage_return}
use Rattle.std.proofs.lemmas.Bool.Decides.{nat_tests}
use Rattle.std.proofs.lemmas.List.{take-append-drop, length-append}
use Rattle.net_dimacs.specs.declared.problem_fault.Rejection.{Rejection}
use Rattle.net_dimacs.specs.declared.line_scan.Scan.{Scan}
use Rattle.net_dimacs.specs.Limits.{text_limit}
use Rattle.net_dimacs.specs.Lines.{is_feed, HasNone}
use Rattle.net_dimacs.specs.OpenLines.{IsSameStatement}
use Rattle.net_dimacs.specs.Reading.{Numbers, State, with_optional_statement, read_lines, line_statement}
use Rattle.net_dimacs.specs.Drafts.{state_of}
use Rattle.net_dimacs.specs.Scans.{reads, IsReadAlike}
use Rattle.net_dimacs.proofs.Cutting.{said_cut}
use Rattle.net_dimacs.proofs.OpenFronts.{some_part, front_part}
use Rattle.net_dimacs.proofs.Scanning.{small_state}

-- ---- the return at the end of a line

strip_by : (x y : ℕ) (ys : List ℕ) (t : Bool) → (if t then take (length (x ∷ y ∷ ys) - 1) (x ∷ y ∷ ys) else x ∷ y ∷ ys) ≡ x ∷ (if t then take (length (y ∷ ys) - 1) (y ∷ ys) else y ∷ ys)
strip_by x y ys true =
    ap (λ (n : ℕ). take n (x ∷ y ∷ ys)) (let e : length (x ∷ y ∷ ys) - 1 ≡ suc (length ys) = omega arith in e)
    ∙ sym (ap (λ (n : ℕ). x ∷ take n (y ∷ ys)) (let e : length (y ∷ ys) - 1 ≡ length ys = omega arith in e))
strip_by x y ys false = refl

strip_one : (x y : ℕ) (ys : List ℕ) → strip_carriage_return (x ∷ y ∷ ys) ≡ x ∷ strip_carriage_return (y ∷ ys)
strip_one x y ys =
    let last : slice_index (x ∷ y ∷ ys) (length (x ∷ y ∷ ys) - 1) ≡ slice_index (y ∷ ys) (length (y ∷ ys) - 1) =
    ap (slice_index (x ∷ y ∷ ys)) (let e : length (x ∷ y ∷ ys) - 1 ≡ suc (length ys) = omega arith in e)
    ∙ sym (ap (slice_index (y ∷ ys)) (let e : length (y ∷ ys) - 1 ≡ length ys = omega arith in e)) in
    ap (λ (b : ℕ). if b == 13 then take (length (x ∷ y ∷ ys) - 1) (x ∷ y ∷ ys) else x ∷ y ∷ ys) last
    ∙ strip_by x y ys (slice_index (y ∷ ys) (length (y ∷ ys) - 1) == 13)

-- it is behind a byte that stays
strip_after : (front : List ℕ) (b : ℕ) (more : List ℕ) → strip_carriage_return (front ++ b ∷ more) ≡ front ++ strip_carriage_return (b ∷ more)
strip_after [] b more = refl
strip_after (x ∷ []) b more = strip_one x b more
strip_after (x ∷ y ∷ front) b more = strip_one x y (front ++ b ∷ more) ∙ ap (λ (l : List ℕ). x ∷ l) (strip_after (y ∷ front) b more)

-- ---- one line

some_bytes : (front : List ℕ) (b : ℕ) (more : List ℕ) → (length (front ++ b ∷ more) == 0) ≡ false
some_bytes front b more = let e = length-append front (b ∷ more) in let some : 0 < length (front ++ b ∷ more) = omega (arith, e) in grind (arith, nat_tests)

-- what is read of a line that may be the last, and of what follows it
line_of_parts : (n : ℕ) (state : State) (front : List ℕ) (b : ℕ) (more : List ℕ) (parts : List (List ℕ)) → Result Numbers Rejection
line_of_parts n state front b more [] = read_lines (n + 1) (with_optional_statement n state (line_statement (front ++ b ∷ more))) []
line_of_parts n state front b more (part ∷ parts) = read_lines (n + 1) (with_optional_statement n state (line_statement (front ++ strip_carriage_return (b ∷ more)))) (lines_of_parts (part ∷ parts))

parts_read : (n : ℕ) (state : State) (front : List ℕ) (b : ℕ) (more : List ℕ) (parts : List (List ℕ)) → read_lines n state (lines_of_parts ((front ++ b ∷ more) ∷ parts)) ≡ line_of_parts n state front b more parts
unfolding line_of_parts
parts_read n state front b more [] = ap (λ (t : Bool). read_lines n state (if t then [] else (front ++ b ∷ more) ∷ [])) (some_bytes front b more)
parts_read n state front b more (part ∷ parts) = ap (λ (l : List ℕ). read_lines (n + 1) (with_optional_statement n state (line_statement l)) (lines_of_parts (part ∷ parts))) (strip_after front b more)

-- the same line behind two fronts that say alike
said_same : (scan : Scan) (front line more : List ℕ) → IsSameStatement front line → with_optional_statement scan.line (state_of scan.progress) (line_statement (front ++ more)) ≡ with_optional_statement scan.line (state_of scan.progress) (line_statement (line ++ more))
said_same scan front line more alike =
    let state = state_of scan.progress in
    sym (said_cut scan.line state (line_statement (front ++ more)) (small_state scan.progress))
    ∙ ap (with_optional_statement scan.line state) (alike more)
    ∙ said_cut scan.line state (line_statement (line ++ more)) (small_state scan.progress)

line_same : (scan : Scan) (front line : List ℕ) (b : ℕ) (more : List ℕ) (parts : List (List ℕ)) → IsSameStatement front line
    → line_of_parts scan.line (state_of scan.progress) front b more parts ≡ line_of_parts scan.line (state_of scan.progress) line b more parts
unfolding line_of_parts
line_same scan front line b more [] alike = ap (λ (s : State). read_lines (scan.line + 1) s []) (said_same scan front line (b ∷ more) alike)
line_same scan front line b more (part ∷ parts) alike =
    ap (λ (s : State). read_lines (scan.line + 1) s (lines_of_parts (part ∷ parts))) (said_same scan front line (strip_carriage_return (b ∷ more)) alike)

-- ---- what follows

joined_parts : (front more part : List ℕ) (b : ℕ) (parts : List (List ℕ)) → HasNone is_feed (front ++ b ∷ []) → slice_split is_feed more ≡ part ∷ parts
    → lines ((front ++ b ∷ []) ++ more) ≡ lines_of_parts ((front ++ b ∷ part) ∷ parts)
joined_parts front more part b parts none e =
    ap lines_of_parts (front_part is_feed (front ++ b ∷ []) more part parts none e)
    ∙ ap (λ (l : List ℕ). lines_of_parts (l ∷ parts)) (append_assoc front (b ∷ []) part)

pub read_alike : (front line : List ℕ) (b : ℕ) → HasNone is_feed (front ++ b ∷ []) → HasNone is_feed (line ++ b ∷ []) → IsSameStatement front line → IsReadAlike (front ++ b ∷ []) (line ++ b ∷ [])
read_alike front line b open_front open_line alike scan more =
    let p = some_part is_feed more in
    ap (reads scan) (joined_parts front more p.0 b p.1 open_front p.2)
    ∙ parts_read scan.line (state_of scan.progress) front b p.0 p.1
    ∙ line_same scan front line b p.0 p.1 alike
    ∙ sym (parts_read scan.line (state_of scan.progress) line b p.0 p.1)
    ∙ sym (ap (reads scan) (joined_parts line more p.0 b p.1 open_line p.2))

-- ---- the two parts of a piece, with what comes behind them

pub cut_joined : (at : ℕ) (piece whole rest more : List ℕ) → whole ≡ take at piece → rest ≡ drop at piece → whole ++ (rest ++ more) ≡ piece ++ more
cut_joined at piece whole rest more e f =
    sym (append_assoc whole rest more)
    ∙ ap (λ (l : List ℕ). (l ++ rest) ++ more) e
    ∙ ap (λ (l : List ℕ). (take at piece ++ l) ++ more) f
    ∙ ap (λ (l : List ℕ). l ++ more) (take-append-drop at piece)

pub front_fits : (text piece : List ℕ) → length (text ++ piece) ≤ text_limit → length text ≤ text_limit
front_fits text piece h = let both = length-append text piece in omega (arith, both, h)
