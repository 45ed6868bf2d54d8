-- A keyword is counted at most once if and only if no two phrases have it.
use Rattle.std.specs.Prelude.{◌≡◌, ◌≢◌, ◌≤◌, ◌<◌, ℕ, zero, suc, Bool, true, false, List, [], ◌∷◌, map, length, slice_index_or, if◌then◌else◌}
use Rattle.std.proofs.Common.{refl, ap, ◌∙◌, arith}
use Rattle.net_tree.specs.declared.role.Role.{Role}
use Rattle.net_tree.specs.Erasure.{phrase}
use Rattle.net_tree.specs.Role.{role_of}
use Rattle.net_tree.specs.Syntax as forms
use Rattle.net_tree.specs.Tree.{Phrase}
use Rattle.net_tree.specs.Phrases.{count}
use Rattle.net_model.specs.GrammarOfDeclarations.{IsOnce}

-- no phrase has the keyword
abbrev HasNone : Role → List Phrase → Type 0
HasNone keyword ps = (j : ℕ) (d : forms.Phrase) → j < length (map phrase ps) → (slice_index_or (map phrase ps) j d).word ≢ keyword

none-step : (test : Role → Bool) (keyword : Role) → test keyword ≡ true → (p : Phrase) (ps : List Phrase) (b : Bool) → test (role_of p.word) ≡ b
    → (if b then suc (count test ps) else count test ps) ≡ 0 → (count test ps ≡ 0 → HasNone keyword ps) → HasNone keyword (p ∷ ps)
none-step test keyword is p ps true e none rest j d less f = absurd (omega arith)
none-step test keyword is p ps false e none rest zero d less f = let g : test (role_of p.word) ≡ true = ap test f ∙ is in absurd (cc)
none-step test keyword is p ps false e none rest (suc j) d less f = rest none j d (omega arith) f

none-from_count : (test : Role → Bool) (keyword : Role) → test keyword ≡ true → (ps : List Phrase) → count test ps ≡ 0 → HasNone keyword ps
none-from_count test keyword is [] none = λ j d less e. absurd (omega (arith, less))
none-from_count test keyword is (p ∷ ps) none = none-step test keyword is p ps (test (role_of p.word)) refl none (none-from_count test keyword is ps)

once-step : (test : Role → Bool) (keyword : Role) → test keyword ≡ true → (p : Phrase) (ps : List Phrase) (b : Bool) → test (role_of p.word) ≡ b
    → (if b then suc (count test ps) else count test ps) ≤ 1 → (count test ps ≤ 1 → IsOnce keyword (map phrase ps)) → IsOnce keyword (map phrase (p ∷ ps))
once-step test keyword is p ps b e few rest i zero d less within f = absurd (omega arith)
once-step test keyword is p ps true e few rest zero (suc j) d less within f = none-from_count test keyword is ps (omega arith) j d (omega arith)
once-step test keyword is p ps false e few rest zero (suc j) d less within f = let g : test (role_of p.word) ≡ true = ap test f ∙ is in absurd (cc)
once-step test keyword is p ps true e few rest (suc i) (suc j) d less within f = rest (omega arith) i j d (omega arith) (omega arith) f
once-step test keyword is p ps false e few rest (suc i) (suc j) d less within f = rest few i j d (omega arith) (omega arith) f

pub once-from_count : (test : Role → Bool) (keyword : Role) → test keyword ≡ true → (ps : List Phrase) → count test ps ≤ 1 → IsOnce keyword (map phrase ps)
once-from_count test keyword is [] few = λ i j d less within f. absurd (omega (arith, within))
once-from_count test keyword is (p ∷ ps) few = once-step test keyword is p ps (test (role_of p.word)) refl few (once-from_count test keyword is ps)

-- the other way round
count-none : (test : Role → Bool) (keyword : Role) → ((r : Role) → test r ≡ true → r ≡ keyword) → (ps : List Phrase) → HasNone keyword ps → count test ps ≡ 0
count-none test keyword only [] none = refl
count-none test keyword only (p ∷ ps) none = go (test (role_of p.word)) refl (count-none test keyword only ps (λ j d less. none (suc j) d (omega arith)))
  where
    go : (b : Bool) → test (role_of p.word) ≡ b → count test ps ≡ 0 → (if b then suc (count test ps) else count test ps) ≡ 0
    go true e rest = absurd (none 0 (phrase p) (omega arith) (only (role_of p.word) e))
    go false e rest = rest

pub count-from_once : (test : Role → Bool) (keyword : Role) → ((r : Role) → test r ≡ true → r ≡ keyword) → (ps : List Phrase) → IsOnce keyword (map phrase ps) → count test ps ≤ 1
count-from_once test keyword only [] once = omega arith
count-from_once test keyword only (p ∷ ps) once = go (test (role_of p.word)) refl (count-from_once test keyword only ps (λ i j d less within. once (suc i) (suc j) d (omega arith) (omega arith)))
  where
    go : (b : Bool) → test (role_of p.word) ≡ b → count test ps ≤ 1 → (if b then suc (count test ps) else count test ps) ≤ 1
    go true e rest = omega (arith, count-none test keyword only ps (λ j d less. once 0 (suc j) d (omega arith) (omega arith) (only (role_of p.word) e)))
    go false e rest = rest
