-- Lines that begin with `c` and a blank say nothing.
use Rattle.std.proofs.Common.{◌≡◌, ℕ, false, List, [], ◌∷◌, ◌++◌, None, refl, ap, ◌∙◌, append_assoc}
use Rattle.std.specs.Prelude.{Option, filter, filter_map, map}
use Rattle.std.specs.List.{AllByRecursion, cons_option}
use Rattle.std.proofs.lemmas.List.Elements.{All-from_recursion}
use Rattle.std.proofs.lemmas.List.Splits.{slice_split_at}
use Rattle.net_dimacs.specs.declared.problem_line.LineStatement.{LineStatement}
use Rattle.net_dimacs.specs.Lines.{is_blank, has_byte, word_of}
use Rattle.net_dimacs.specs.Reading.{statement_of, line_statement}
use Rattle.net_dimacs.specs.Problems.{statements_of}
use Rattle.net_dimacs.proofs.WrittenLines.{IsPlain, lines_then}

comment_says : (body : List ℕ) → line_statement (99 ∷ 32 ∷ body) ≡ None
comment_says body =
    ap (λ (fs : List (List ℕ)). statement_of (map word_of (filter has_byte fs)))
    (slice_split_at is_blank (99 ∷ []) 32 body (All-from_recursion (λ b. is_blank b ≡ false) (99 ∷ []) (refl, tt)) refl)

-- a comment line is skipped
pub comment_skipped : (line body rest : List ℕ) → line ≡ (99 ∷ 32 ∷ body) ++ 10 ∷ [] → AllByRecursion IsPlain body → statements_of (line ++ rest) ≡ statements_of rest
comment_skipped line body rest e plain =
    let whole : List ℕ = 99 ∷ 32 ∷ body in
    ap (λ (l : List ℕ). statements_of (l ++ rest)) e
    ∙ ap statements_of (append_assoc whole (10 ∷ []) rest)
    ∙ ap (filter_map line_statement) (lines_then whole rest (record { no_feed = refl; no_return = refl }, (record { no_feed = refl; no_return = refl }, plain)))
    ∙ ap (λ (o : Option LineStatement). cons_option o (statements_of rest)) (comment_says body)
