-- A field by the tests of its first byte.
use Rattle.std.proofs.Common.{ℕ, Bool, cond, ◌&&◌, List, [], ◌∷◌, pos, neg_ℤ}
use Rattle.std.specs.Option.{option_map}
use Rattle.net_dimacs.specs.Words.{Word}
use Rattle.net_dimacs.specs.Words as words
use Rattle.net_dimacs.specs.Lines.{natural_of, number_or_other}
use Rattle.net_dimacs.specs.Lines as spoken

abbrev pub word_by : Bool → Bool → Bool → Bool → Bool → Bool → Bool → ℕ → List ℕ → Word
word_by c p n a m plus minus b bs =
    cond c words.Comment (cond (p && spoken.is_text [] bs) words.Problem (cond (n && spoken.is_text [] bs) words.Node (cond (a && spoken.is_text [] bs) words.Arc (cond (m && spoken.is_text (105 ∷ 110 ∷ []) bs) words.Min
    (number_or_other (cond plus (option_map pos (natural_of bs)) (cond minus (option_map (λ k. neg_ℤ (pos k)) (natural_of bs)) (option_map pos (natural_of (b ∷ bs))))))))))
