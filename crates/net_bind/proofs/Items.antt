-- Walks over the items of a set.
use Rattle.std.specs.Prelude.{◌≡◌, ℕ, zero, suc, ◌+◌, ◌≤◌, ◌<◌, Bool, true, false, List, [], ◌∷◌, ◌++◌, length, take, drop, nat_le, None, Some, unwrap_or, codes, if◌then◌else◌}
use Rattle.std.specs.List.{flat_map, fold}
use Rattle.std.proofs.Common.{refl, sym, ap, ◌∙◌, arith, append_assoc, append-nil, length-drop, length-append}
use Rattle.std.proofs.lemmas.List.{length-take-le}
use Rattle.std.proofs.lemmas.Bool.Decides.{nat_tests}
use Rattle.std.proofs.Math.Seq.{take-append_seam, drop-append_seam}
use Rattle.net_lex.specs.declared.token.Token.{Token}
use Rattle.net_data.specs.Rows.{first_item, begins_tuple, more_items, inside_len}
use Rattle.net_data.specs.Tests.{is_mark}
use Rattle.net_bind.specs.SetData.{Item, item, items_from, closed, closed_with, with_item, pending}

shorter : (t : Token) (ts : List Token) → length (more_items (t ∷ ts)) ≤ length ts
shorter t ts = go (is_mark (codes "(") t) (is_mark (codes ";") t)
  where
    go : (a b : Bool) → length (if a then drop (suc (inside_len ts)) ts else if b then [] else ts) ≤ length ts
    go true b = omega (arith, length-drop (suc (inside_len ts)) ts)
    go false true = omega arith
    go false false = omega arith

some_first : (t : Token) (ts : List Token) → first_item (t ∷ ts) ≡ None → ⊥
some_first t ts = go (is_mark (codes "(") t) _ _
  where
    go : (a : Bool) (x y : List Token) → (if a then Some x else Some y) ≡ None → ⊥
    go true x y e = cc
    go false x y e = cc

-- the next item, and those behind it
pub none_next : (turns : ℕ) (ts : List Token) → None ≡ first_item ts → items_from turns ts ≡ []
none_next zero ts e = refl
none_next (suc n) [] e = refl
none_next (suc n) (t ∷ ts) e = absurd (some_first t ts (sym e))

pub next_item : (turns : ℕ) (ts ms : List Token) → length ts ≤ turns → Some ms ≡ first_item ts
    → (more : ℕ) × (items_from turns ts ≡ item (begins_tuple ts) ms ∷ items_from more (more_items ts)) × (length (more_items ts) ≤ more)
next_item turns [] ms l h = absurd (none_some h)
  where
    none_some : Some ms ≡ None → ⊥
    none_some e = cc
next_item zero (t ∷ ts) ms l h = absurd (omega (arith, l))
next_item (suc n) (t ∷ ts) ms l h =
    (n, sym (ap (λ o. item (begins_tuple (t ∷ ts)) (unwrap_or o []) ∷ items_from n (more_items (t ∷ ts))) h), omega (arith, l, shorter t ts))

-- ---- the members of the items

abbrev pub members : List Item → List Token
members is = flat_map (λ (i : Item). i.members) is

pub words_next : (turns : ℕ) (all total ts ms : List Token) → all ++ members (items_from turns ts) ≡ total → length ts ≤ turns → Some ms ≡ first_item ts
    → (more : ℕ) × ((all ++ ms) ++ members (items_from more (more_items ts)) ≡ total) × (length (more_items ts) ≤ more)
words_next turns all total ts ms e l h =
    let next = next_item turns ts ms l h in
    (next.0, append_assoc all ms (members (items_from next.0 (more_items ts))) ∙ ap (λ is. all ++ members is) (sym next.1) ∙ e, next.2)

pub words_over : (turns : ℕ) (all total ts : List Token) → all ++ members (items_from turns ts) ≡ total → None ≡ first_item ts → all ≡ total
words_over turns all total ts e h = sym (append-nil all) ∙ ap (λ is. all ++ members is) (sym (none_next turns ts h)) ∙ e

-- ---- the rows

-- the rows so far, and those of the items that are left
pub record AreLeft (d turns : ℕ) (rows : List (List Token)) (alone : ℕ) (words ts : List Token) (total : List (List Token)) : Type 0 where
  pub made : closed (fold (with_item d) (pending rows alone words) (items_from turns ts)) ≡ total
  pub after : drop alone words ≡ members (items_from turns ts)
  pub few : alone ≤ length words
  pub enough : length ts ≤ turns

pub has_words : (d turns : ℕ) (rows : List (List Token)) (alone : ℕ) (words ts ms : List Token) (total : List (List Token)) → AreLeft d turns rows alone words ts total
    → Some ms ≡ first_item ts → alone + length ms ≤ length words
has_words d turns rows alone words ts ms total left h =
    let next = next_item turns ts ms left.enough h in
    let rest = members (items_from next.0 (more_items ts)) in
    let parts : length (drop alone words) ≡ length (ms ++ rest) = ap length (left.after ∙ ap members next.1) in
    omega (arith, left.few, parts, length-drop alone words, length-append ms rest)

pub rows_next : (d turns : ℕ) (rows : List (List Token)) (alone : ℕ) (words ts ms : List Token) (total : List (List Token)) (tuple : Bool) (count : ℕ)
    (rows_after : List (List Token)) (alone_after : ℕ) (words_after : List Token) → AreLeft d turns rows alone words ts total → Some ms ≡ first_item ts
    → tuple ≡ begins_tuple ts → count ≡ length ms → pending rows_after alone_after words_after ≡ with_item d (pending rows alone words) (item tuple (take count (drop alone words)))
    → drop alone_after words_after ≡ drop count (drop alone words) → alone_after ≤ length words_after
    → (more : ℕ) × AreLeft d more rows_after alone_after words_after (more_items ts) total
rows_next d turns rows alone words ts ms total tuple count rows_after alone_after words_after left h t c step behind few =
    let next = next_item turns ts ms left.enough h in
    let is = items_from next.0 (more_items ts) in
    let parts : drop alone words ≡ ms ++ members is = left.after ∙ ap members next.1 in
    let taken : take count (drop alone words) ≡ ms = ap (λ n. take n (drop alone words)) c ∙ ap (take (length ms)) parts ∙ take-append_seam ms (members is) in
    let dropped : drop count (drop alone words) ≡ members is = ap (λ n. drop n (drop alone words)) c ∙ ap (drop (length ms)) parts ∙ drop-append_seam ms (members is) in
    let here : pending rows_after alone_after words_after ≡ with_item d (pending rows alone words) (item (begins_tuple ts) ms) =
    step ∙ ap (λ xs. with_item d (pending rows alone words) (item tuple xs)) taken ∙ ap (λ b. with_item d (pending rows alone words) (item b ms)) t in (
      next.0,
      record {
        made = ap (λ r. closed (fold (with_item d) r is)) here ∙ ap (λ z. closed (fold (with_item d) (pending rows alone words) z)) (sym next.1) ∙ left.made;
        after = behind ∙ dropped;
        few = few;
        enough = next.2;
      },
    )

pub rows_over : (d turns : ℕ) (rows : List (List Token)) (alone : ℕ) (words ts : List Token) (total : List (List Token)) → AreLeft d turns rows alone words ts total
    → None ≡ first_item ts → closed_with rows (take alone words) ≡ total
rows_over d turns rows alone words ts total left h = ap (λ is. closed (fold (with_item d) (pending rows alone words) is)) (sym (none_next turns ts h)) ∙ left.made

-- ---- single members that are not a complete row yet

take_none : (ts : List Token) → take 0 ts ≡ []
take_none [] = refl
take_none (t ∷ ts) = refl

take_nil : (n : ℕ) → take n (let ts : List Token = [] in ts) ≡ []
take_nil zero = refl
take_nil (suc n) = refl

take_same : (m n : ℕ) (ts : List Token) → m ≡ n → take m ts ≡ take n ts
take_same m n ts e = ap (λ k. take k ts) e

take_more : (a c : ℕ) (ts : List Token) → take a ts ++ take c (drop a ts) ≡ take (a + c) ts
take_more zero c [] = take_nil c ∙ sym (take_nil (0 + c))
take_more zero c (t ∷ ts) = take_same c (0 + c) (t ∷ ts) (omega arith)
take_more (suc a) c [] = take_nil c ∙ sym (take_nil (suc a + c))
take_more (suc a) c (t ∷ ts) = ap (◌∷◌ t) (take_more a c ts) ∙ take_same (suc (a + c)) (suc a + c) (t ∷ ts) (omega arith)

more_alone : (a c : ℕ) (ts : List Token) → a + c ≤ length ts → length (take a ts ++ take c (drop a ts)) ≡ a + c
more_alone a c ts l = ap length (take_more a c ts) ∙ length-take-le (a + c) ts l

is_le : (m n : ℕ) → m ≤ n → nat_le m n ≡ true
is_le m n l = grind (arith, nat_tests)

not_le : (m n : ℕ) → n < m → nat_le m n ≡ false
not_le m n l = grind (arith, nat_tests)

-- a single member that completes a row, or does not
pub full : (d alone count : ℕ) (rows : List (List Token)) (left left_after : List Token) (tuple : Bool) → tuple ≡ false → alone + count ≤ length left → d ≤ alone + count
    → pending (rows ++ take (alone + count) left ∷ []) 0 left_after ≡ with_item d (pending rows alone left) (item tuple (take count (drop alone left)))
full d alone count rows left left_after tuple t l e =
    let fits : nat_le d (length (take alone left ++ take count (drop alone left))) ≡ true = ap (nat_le d) (more_alone alone count left l) ∙ is_le d (alone + count) e in
    ap (λ ts. record { rows = rows ++ take (alone + count) left ∷ []; alone = ts }) (take_none left_after)
    ∙ ap (λ ts. record { rows = rows ++ ts ∷ []; alone = [] }) (sym (take_more alone count left))
    ∙ sym (ap (λ b. if b then record { rows = rows ++ (take alone left ++ take count (drop alone left)) ∷ []; alone = [] } else record { rows = rows; alone = take alone left ++ take count (drop alone left) }) fits)
    ∙ ap (λ b. with_item d (pending rows alone left) (item b (take count (drop alone left)))) (sym t)

pub short : (d alone count : ℕ) (rows : List (List Token)) (left : List Token) (tuple : Bool) → tuple ≡ false → alone + count ≤ length left → alone + count < d
    → pending rows (alone + count) left ≡ with_item d (pending rows alone left) (item tuple (take count (drop alone left)))
short d alone count rows left tuple t l e =
    let room : nat_le d (length (take alone left ++ take count (drop alone left))) ≡ false = ap (nat_le d) (more_alone alone count left l) ∙ not_le d (alone + count) e in
    ap (λ ts. record { rows = rows; alone = ts }) (sym (take_more alone count left))
    ∙ sym (ap (λ b. if b then record { rows = rows ++ (take alone left ++ take count (drop alone left)) ∷ []; alone = [] } else record { rows = rows; alone = take alone left ++ take count (drop alone left) }) room)
    ∙ ap (λ b. with_item d (pending rows alone left) (item b (take count (drop alone left)))) (sym t)
