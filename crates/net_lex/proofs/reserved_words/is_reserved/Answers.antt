use Rattle.std.proofs.Common.{◌≡◌, ◌∙◌, ◌==◌, ◌||◌, ℕ, true, List, [], ◌∷◌, map, ap, refl}
use Rattle.std.proofs.lemmas.Bool.Decides.{Decides-eqb}
use Rattle.std.proofs.lemmas.Map.Views.{any-filter_same}
use Rattle.std.proofs.lemmas.Slice.Eq.{bytes_eq-Decides}
use Rattle.std.specs.Borrow.{Bor}
use Rattle.std.specs.List.{list_any, filter}
use Rattle.std.specs.Str.{bytes_eq}
use Rattle.net_lex.specs.Bytes.{first}
use Rattle.net_lex.specs.Words.{reserved, is_among, is_reserved}
use Rattle.net_lex.proofs.reserved_words.is_reserved.Goals as goal

-- the words that the code's slices hold
any-now : (words : List (Bor (List ℕ))) (text : List ℕ) → list_any (λ word. bytes_eq word.now text) words ≡ is_among (map (λ (word : Bor (List ℕ)). word.now) words) text
any-now [] text = refl
any-now (word ∷ words) text = ap (λ more. bytes_eq word.now text || more) (any-now words text)

-- a text that is a word begins as the word does
same_letter : (text word : List ℕ) → bytes_eq word text ≡ true → (first word == first text) ≡ true
same_letter text word same = (Decides-eqb (first word) (first text)).1 (ap first ((bytes_eq-Decides word text).0 same))

pub returns : goal.returns
unfolding is_reserved
returns c =
    let text = c.args.text.now in
    c.contains.ensures.value
    ∙ any-now c.reserved_with.result.now text
    ∙ ap (λ words. is_among words text) (c.reserved_with.ensures ∙ ap (λ letter. filter (λ word. first word == letter) reserved) c.first.ensures)
    ∙ any-filter_same (λ word. bytes_eq word text) (λ word. first word == first text) true (same_letter text) reserved
