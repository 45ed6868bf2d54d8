-- Rows that are made from their keys.
use Rattle.std.specs.Prelude.{◌≡◌, ◌<◌, ◌≤◌, ◌+◌, ℕ, zero, suc, Bool, true, false, List, [], ◌∷◌, ◌++◌, drop, get_or, length, map, min, reverse, slice_get, take, Option, None, Some}
use Rattle.std.specs.List.{AllByRecursion, IsDistinct}
use Rattle.std.specs.Str.{bytes_eq}
use Rattle.std.proofs.Common.{refl, ap, sym, ◌∙◌, add-one, arith}
use Rattle.std.proofs.Math.Seq.{drop-cons}
use Rattle.std.proofs.lemmas.Grind.{take_at_read}
use Rattle.std.proofs.lemmas.List.{map-append, reverse-append}
use Rattle.std.proofs.lemmas.Slice.Eq.{bytes_eq-Decides}
use Rattle.net_sets.specs.declared.member.Member.{Member}
use Rattle.net_sets.specs.Operations.{union}
use Rattle.net_sets.specs.Sets.{Tuple, same_member, same_tuple}
use Rattle.net_sets.proofs.Sames.{member_decides}
use Rattle.net_sets.proofs.Unions.{all_last}
use Rattle.net_expr.specs.declared.row.Row.{Row}
use Rattle.net_expr.specs.declared.scope.Binding.{Binding}
use Rattle.net_expr.specs.Rows.{keys_of}
use Rattle.net_expr.specs.RowLists.{bound_to, row_of}
use Rattle.net_expr.specs.Worlds.{Name, Scope, bound}

-- what is left of a list at one of its elements
left_at : {A : Type 0} (xs : List A) (i : ℕ) (x : A) → i < length xs → x ≡ get_or xs i x → drop i xs ≡ x ∷ drop (i + 1) xs
left_at xs i x h e = let a = drop-cons xs i x h in let b = add-one i in cc

no_members : (names : List Name) (s : Scope) → bound_to names [] s ≡ s
no_members [] s = refl
no_members (n ∷ names) s = refl

-- no dummy or no member is left
pub bound_all : (names : List Name) (ms : Tuple) (s : Scope) (i : ℕ) → min (length names) (length ms) ≤ i → bound_to (drop i names) (drop i ms) s ≡ s
bound_all [] ms s zero h = refl
bound_all [] ms s (suc i) h = refl
bound_all (n ∷ names) [] s zero h = refl
bound_all (n ∷ names) [] s (suc i) h = no_members (drop i names) s
bound_all (n ∷ names) (m ∷ ms) s zero h = absurd (omega (arith, h))
bound_all (n ∷ names) (m ∷ ms) s (suc i) h = bound_all names ms s i (omega (arith, h))

pub keys_made : (names : List Name) (keys : List Tuple) → keys_of (map (row_of names) keys) ≡ keys
keys_made names [] = refl
keys_made names (k ∷ keys) = ap (λ (more : List Tuple). k ∷ more) (keys_made names keys)

pub keys_once : (names : List Name) (keys : List Tuple) → IsDistinct same_tuple keys → union [] (keys_of (map (row_of names) keys)) ≡ keys
keys_once names keys distinct = ap (union []) (keys_made names keys) ∙ all_last [] keys distinct (λ t h. refl)

pub row_made : (names : List Name) (keys : List Tuple) (i : ℕ) (key : Tuple) (r : Row) → Some key ≡ slice_get keys i → row_of names key ≡ get_or (map (row_of names) keys) i r
row_made names [] i key r h = cc
row_made names (k ∷ keys) zero key r h = cc
row_made names (k ∷ keys) (suc i) key r h = row_made names keys i key r h

pub key_made : (names : List Name) (keys : List Tuple) (i : ℕ) (key : Tuple) → Some key ≡ slice_get keys i → key ≡ get_or (keys_of (map (row_of names) keys)) i []
key_made names [] i key h = cc
key_made names (k ∷ keys) zero key h = cc
key_made names (k ∷ keys) (suc i) key h = key_made names keys i key h

-- a key is there for each row
pub key_there : (names : List Name) (keys : List Tuple) (i : ℕ) → i < length (map (row_of names) keys) → None ≡ slice_get keys i → ⊥
key_there names [] i h e = absurd (omega (arith, h))
key_there names (k ∷ keys) zero h e = cc
key_there names (k ∷ keys) (suc i) h e = key_there names keys i (omega (arith, h)) e

-- ---- rows of which only the keys are kept

-- one more dummy is bound to its member
pub binds_next : (names : List Name) (ms : Tuple) (bs : List Binding) (i : ℕ) (n : Name) (m : Member) (b : Binding) → i < length names → i < length ms → i < length bs → n ≡ get_or names i n → m ≡ get_or ms i m → b ≡ get_or bs i b
    → bytes_eq b.name n ≡ true → same_member b.member m ≡ true → bound_to (drop (i + 1) names) (drop (i + 1) ms) (reverse (take (i + 1) bs)) ≡ bound_to (drop i names) (drop i ms) (reverse (take i bs))
binds_next names ms bs i n m b hn hm hb en em eb same_name same_value =
    let name : b.name ≡ n = (bytes_eq-Decides b.name n).0 same_name in
    let value : b.member ≡ m = (member_decides b.member m).0 same_value in
    let newest : reverse (take (i + 1) bs) ≡ b ∷ reverse (take i bs) =
    ap reverse ((take_at_read bs i b hb).1 ∙ ap (λ x. take i bs ++ x ∷ []) (sym eb)) ∙ reverse-append (take i bs) (b ∷ []) in
    let is : b ≡ record { name = n; member = m } = ap (λ x. record { name = x; member = b.member }) name ∙ ap (λ x. record { name = n; member = x }) value in
    let names_left : drop i names ≡ n ∷ drop (i + 1) names = left_at names i n hn en in
    let members_left : drop i ms ≡ m ∷ drop (i + 1) ms = left_at ms i m hm em in
    ap (bound_to (drop (i + 1) names) (drop (i + 1) ms)) (newest ∙ ap (λ (x : Binding). x ∷ reverse (take i bs)) is)
    ∙ sym (ap (λ ns. bound_to ns (drop i ms) (reverse (take i bs))) names_left ∙ ap (λ t. bound_to (n ∷ drop (i + 1) names) t (reverse (take i bs))) members_left)

pub row_kept : (names : List Name) (keys : List Tuple) (rows : List Row) (i : ℕ) (r : Row) → i < length rows → r ≡ get_or rows i r → r ≡ row_of names r.key → map (row_of names) keys ≡ take i rows
    → map (row_of names) (keys ++ r.key ∷ []) ≡ take (i + 1) rows
row_kept names keys rows i r h e is before =
    map-append (row_of names) keys (r.key ∷ []) ∙ ap (λ (l : List Row). l ++ row_of names r.key ∷ []) before
    ∙ sym ((take_at_read rows i r h).1 ∙ ap (λ x. take i rows ++ x ∷ []) (sym e ∙ is))
