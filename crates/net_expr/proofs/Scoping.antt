-- Dummies that are kept with the newest last.
use Rattle.std.specs.Prelude.{◌≡◌, ◌≢◌, Bool, true, false, ◌+◌, ◌-◌, ◌<◌, ◌≤◌, ℕ, List, [], ◌∷◌, ◌++◌, length, get_or, take, reverse, Option, None, Some, if◌then◌else◌}
use Rattle.std.specs.Str.{bytes_eq}
use Rattle.std.proofs.Common.{refl, ap, sym, ◌∙◌, arith}
use Rattle.std.proofs.lemmas.Slice.Eq.{bytes_eq-Decides}
use Rattle.std.proofs.lemmas.Grind.{take_at_read}
use Rattle.std.proofs.lemmas.List.{reverse-append}
use Rattle.net_sets.specs.declared.member.Member.{Member}
use Rattle.net_expr.specs.declared.scope.Binding.{Binding}
use Rattle.net_expr.specs.Worlds.{Name, bound}

-- one more of those that are kept is the newest
pub newest : (bs : List Binding) (i : ℕ) (b : Binding) (name : Name) → i < length bs → b ≡ get_or bs i b
    → bound (reverse (take (i + 1) bs)) name ≡ (if bytes_eq b.name name then Some b.member else bound (reverse (take i bs)) name)
newest bs i b name h e =
    ap (λ xs. bound (reverse xs) name) ((take_at_read bs i b h).1 ∙ ap (λ x. take i bs ++ x ∷ []) (sym e))
    ∙ ap (λ xs. bound xs name) (reverse-append (take i bs) (b ∷ []))

pub put_last : (bs : List Binding) (b : Binding) → reverse (bs ++ b ∷ []) ≡ b ∷ reverse bs
put_last bs b = reverse-append bs (b ∷ [])

-- a dummy stands where its search has come to
pub at_last : (bs : List Binding) (i : ℕ) (b : Binding) (name : Name) (wanted : Option Member) → i < length bs → b ≡ get_or bs (length bs - 1 - i) b
    → bound (reverse (take (length bs - i) bs)) name ≡ wanted
    → (if bytes_eq b.name name then Some b.member else bound (reverse (take (length bs - (i + 1)) bs)) name) ≡ wanted
at_last bs i b name wanted h e same =
    let here : length bs - i ≡ length bs - 1 - i + 1 = omega (arith, h) in
    let there : length bs - (i + 1) ≡ length bs - 1 - i = omega arith in
    ap (λ n. if bytes_eq b.name name then Some b.member else bound (reverse (take n bs)) name) there
    ∙ sym (newest bs (length bs - 1 - i) b name (omega (arith, h)) e)
    ∙ ap (λ n. bound (reverse (take n bs)) name) (sym here)
    ∙ same

pub all_taken : (bs kept : List Binding) (name : Name) → bs ≡ kept → bound (reverse (take (length bs - 0) bs)) name ≡ bound (reverse kept) name
all_taken bs kept name e = let all : length bs - 0 ≡ length bs = omega arith in
    ap (λ n. bound (reverse (take n bs)) name) all ∙ ap (λ k. bound (reverse k) name) (whole bs ∙ e)
  where
    whole : (xs : List Binding) → take (length xs) xs ≡ xs
    whole [] = refl
    whole (x ∷ xs) = ap (◌∷◌ x) (whole xs)

pub none_left : (bs : List Binding) (i : ℕ) (name : Name) → length bs ≤ i → bound (reverse (take (length bs - i) bs)) name ≡ None
none_left bs i name h = let none : length bs - i ≡ 0 = omega (arith, h) in ap (λ n. bound (reverse (take n bs)) name) none

-- texts of different lengths differ
pub other_length : (xs ys : List ℕ) → length xs ≢ length ys → false ≡ bytes_eq xs ys
other_length xs ys h = go (bytes_eq xs ys) refl
  where
    go : (b : Bool) → bytes_eq xs ys ≡ b → false ≡ b
    go true e = absurd (h (ap length ((bytes_eq-Decides xs ys).0 e)))
    go false e = refl
