-- What is taken of a statement of a set are the rows that it has.
use Rattle.std.specs.Prelude.{◌≡◌, ℕ, zero, suc, ◌+◌, ◌≤◌, ◌<◌, Bool, true, false, not, cond, List, [], ◌∷◌, ◌++◌, length, take, drop, nat_le, unwrap_or, if◌then◌else◌, Some, codes}
use Rattle.std.specs.List.{AllByRecursion, fold}
use Rattle.std.proofs.Common.{refl, ap, sym, ◌∙◌, arith, append_assoc, append-nil, length-drop}
use Rattle.std.proofs.lemmas.Bool.Decides.{nat_tests}
use Rattle.net_lex.specs.declared.token.Token.{Token}
use Rattle.net_data.specs.Commas.{uncommaed}
use Rattle.net_data.specs.Tests.{is_mark}
use Rattle.net_data.specs.Rows as stated
use Rattle.net_data.specs.Rows.{inside_len, alone_len, first_item, more_items, first_row, more_rows}
use Rattle.net_data.proofs.GroupLemmas.{set_rows-cons}
use Rattle.net_bind.specs.DataRows.{TakesMembers}
use Rattle.net_bind.specs.SetData.{items_from, closed, closed_with, opened, with_item}

-- members that stand alone
abbrev Alone : List Token → Type 0
Alone ts = AllByRecursion (λ (t : Token). is_mark (codes "(") t ≡ false) ts

-- no semicolon
abbrev Inside : List Token → Type 0
Inside ts = AllByRecursion (λ (t : Token). is_mark (codes ";") t ≡ false) ts

-- ---- lists

all_after : {A : Type 0} (P : A → Type 0) (k : ℕ) (xs : List A) → AllByRecursion P xs → AllByRecursion P (drop k xs)
all_after P zero [] h = tt
all_after P zero (x ∷ xs) h = h
all_after P (suc k) [] h = tt
all_after P (suc k) (x ∷ xs) h = all_after P k xs h.1

alone_join : (xs : List Token) (t : Token) → Alone xs → is_mark (codes "(") t ≡ false → Alone (xs ++ t ∷ [])
alone_join [] t h e = (e, tt)
alone_join (x ∷ xs) t h e = (h.0, alone_join xs t h.1 e)

one_more : (xs : List Token) (t : Token) → length (xs ++ t ∷ []) ≡ suc (length xs)
one_more [] t = refl
one_more (x ∷ xs) t = ap suc (one_more xs t)

take_none : (xs : List Token) → take 0 xs ≡ []
take_none [] = refl
take_none (x ∷ xs) = refl

take_all : (d : ℕ) (xs : List Token) → length xs ≤ d → take d xs ≡ xs
take_all zero [] l = refl
take_all (suc d) [] l = refl
take_all zero (x ∷ xs) l = absurd (omega (arith, l))
take_all (suc d) (x ∷ xs) l = ap (λ ys. x ∷ ys) (take_all d xs (omega (arith, l)))

take_front : (front ts : List Token) (m k : ℕ) → m ≡ length front + k → take m (front ++ ts) ≡ front ++ take k ts
take_front [] ts m k e = ap (λ i. take i ts) (omega (arith, e))
take_front (x ∷ front) ts zero k e = absurd (omega (arith, e))
take_front (x ∷ front) ts (suc m) k e = ap (λ ys. x ∷ ys) (take_front front ts m k (omega (arith, e)))

drop_none : (xs : List Token) → drop 0 xs ≡ xs
drop_none [] = refl
drop_none (x ∷ xs) = refl

drop_front : (front ts : List Token) (m : ℕ) → m ≡ length front → drop m (front ++ ts) ≡ ts
drop_front [] ts m e = ap (λ i. drop i ts) e ∙ drop_none ts
drop_front (x ∷ front) ts zero e = absurd (omega (arith, e))
drop_front (x ∷ front) ts (suc m) e = drop_front front ts m (omega (arith, e))

alone_front : (front ts : List Token) → Alone front → alone_len (front ++ ts) ≡ length front + alone_len ts
alone_front [] ts h = omega arith
alone_front (x ∷ front) ts h =
    let more = alone_front front ts h.1 in
    ap (λ b. cond (not b) (1 + alone_len (front ++ ts)) 0) h.0 ∙ omega (arith, more)

-- ---- one row

-- members that stand alone are a row where no more of them belong to it
one_row : (d : ℕ) (front ts : List Token) → 0 < d → 0 < length front → Alone front → take d (front ++ take (alone_len ts) ts) ≡ front → stated.set_rows d (front ++ ts) ≡ front ∷ stated.set_rows d ts
one_row d [] ts some items h same = absurd (omega (arith, items))
one_row d (x ∷ front) ts some items h same =
    set_rows-cons d all some (omega arith)
    ∙ ap (λ r. r ∷ stated.set_rows d (more_rows d all)) first
    ∙ ap (λ m. (x ∷ front) ∷ stated.set_rows d m) more
  where
    all : List Token
    all = x ∷ front ++ ts

    own : take d (take (alone_len all) all) ≡ x ∷ front
    own = ap (take d) (take_front (x ∷ front) ts (alone_len all) (alone_len ts) (alone_front (x ∷ front) ts h)) ∙ same

    first : first_row d all ≡ x ∷ front
    first = ap (λ b. if b then unwrap_or (first_item all) [] else take d (take (alone_len all) all)) h.0 ∙ own

    more : more_rows d all ≡ ts
    more = ap (λ b. if b then more_items all else drop (length (take d (take (alone_len all) all))) all) h.0 ∙ drop_front (x ∷ front) ts (length (take d (take (alone_len all) all))) (ap (λ (l : List Token). length l) own)

tuple_row : (d : ℕ) (t : Token) (ts : List Token) → 0 < d → is_mark (codes "(") t ≡ true → stated.set_rows d (t ∷ ts) ≡ uncommaed (take (inside_len ts) ts) ∷ stated.set_rows d (drop (suc (inside_len ts)) ts)
tuple_row d t ts some e =
    set_rows-cons d (t ∷ ts) some (omega arith)
    ∙ ap (λ r. r ∷ stated.set_rows d (more_rows d (t ∷ ts))) first
    ∙ ap (λ m. uncommaed (take (inside_len ts) ts) ∷ stated.set_rows d m) more
  where
    first : first_row d (t ∷ ts) ≡ uncommaed (take (inside_len ts) ts)
    first = ap (λ b. if b then unwrap_or (if b then Some (uncommaed (take (inside_len ts) ts)) else Some (t ∷ [])) [] else take d (take (alone_len (t ∷ ts)) (t ∷ ts))) e

    more : more_rows d (t ∷ ts) ≡ drop (suc (inside_len ts)) ts
    more = ap (λ b. if b then (if b then drop (suc (inside_len ts)) ts else if is_mark (codes ";") t then [] else ts) else drop (length (take d (take (alone_len (t ∷ ts)) (t ∷ ts)))) (t ∷ ts)) e

-- the members so far, and what is behind them where no member belongs to them
closing : (d : ℕ) (rows : List (List Token)) (alone ts : List Token) → 0 < d → Alone alone → length alone ≤ d → alone_len ts ≡ 0
    → closed_with rows alone ++ stated.set_rows d ts ≡ rows ++ stated.set_rows d (alone ++ ts)
closing d rows [] ts some h l e = refl
closing d rows (x ∷ xs) ts some h l e =
    append_assoc rows ((x ∷ xs) ∷ []) (stated.set_rows d ts) ∙ ap (λ more. rows ++ more) (sym (one_row d (x ∷ xs) ts some (omega arith) h whole))
  where
    whole : take d ((x ∷ xs) ++ take (alone_len ts) ts) ≡ x ∷ xs
    whole = ap (λ k. take d ((x ∷ xs) ++ take k ts)) e ∙ ap (λ l. take d ((x ∷ xs) ++ l)) (take_none ts) ∙ ap (take d) (append-nil (x ∷ xs)) ∙ take_all d (x ∷ xs) l

-- ---- item by item

at_least : (m n : ℕ) → nat_le m n ≡ true → m ≤ n
at_least m n e = grind (arith, nat_tests)

fewer : (m n : ℕ) → nat_le m n ≡ false → n < m
fewer m n e = grind (arith, nat_tests)

-- so many items more, from the rows so far
abbrev Walks : ℕ → ℕ → Type 0
Walks d n = (rows : List (List Token)) (alone ts : List Token) → length ts ≤ n → Inside ts → Alone alone → length alone < d
    → closed (fold (with_item d) (record { rows = rows; alone = alone }) (items_from n ts)) ≡ rows ++ stated.set_rows d (alone ++ ts)

at_end : (d : ℕ) (rows : List (List Token)) (alone : List Token) → 0 < d → Alone alone → length alone < d → closed_with rows alone ≡ rows ++ stated.set_rows d (alone ++ [])
at_end d rows alone some h l = sym (append-nil (closed_with rows alone)) ∙ closing d rows alone [] some h (omega (arith, l)) refl

at_tuple : (d n : ℕ) (rows : List (List Token)) (alone : List Token) (t : Token) (ts : List Token) → 0 < d → Walks d n → length ts ≤ n → Inside ts → Alone alone → length alone < d → is_mark (codes "(") t ≡ true
    → closed (fold (with_item d) (record { rows = closed_with rows alone ++ uncommaed (take (inside_len ts) ts) ∷ []; alone = [] }) (items_from n (drop (suc (inside_len ts)) ts))) ≡ rows ++ stated.set_rows d (alone ++ t ∷ ts)
at_tuple d n rows alone t ts some walks fits inside h short e =
    let less = length-drop (suc (inside_len ts)) ts in
    walks (closed_with rows alone ++ uncommaed (take (inside_len ts) ts) ∷ []) [] (drop (suc (inside_len ts)) ts) (omega (arith, less, fits)) (all_after (λ (u : Token). is_mark (codes ";") u ≡ false) (suc (inside_len ts)) ts inside) tt some
    ∙ append_assoc (closed_with rows alone) (uncommaed (take (inside_len ts) ts) ∷ []) (stated.set_rows d (drop (suc (inside_len ts)) ts))
    ∙ ap (λ more. closed_with rows alone ++ more) (sym (tuple_row d t ts some e))
    ∙ closing d rows alone (t ∷ ts) some h (omega (arith, short)) (ap (λ b. cond (not b) (1 + alone_len ts) 0) e)

at_member : (d n : ℕ) (rows : List (List Token)) (alone : List Token) (t : Token) (ts : List Token) → 0 < d → Walks d n → length ts ≤ n → Inside ts → Alone alone → length alone < d → is_mark (codes "(") t ≡ false
    → closed (fold (with_item d) (opened d rows (alone ++ t ∷ [])) (items_from n ts)) ≡ rows ++ stated.set_rows d (alone ++ t ∷ ts)
at_member d n rows alone t ts some walks fits inside h short e = go (nat_le d (length front)) refl ∙ ap (λ l. rows ++ stated.set_rows d l) (append_assoc alone (t ∷ []) ts)
  where
    front : List Token
    front = alone ++ t ∷ []

    long : length front ≡ suc (length alone)
    long = one_more alone t

    stands : Alone front
    stands = alone_join alone t h e

    go : (b : Bool) → nat_le d (length front) ≡ b
        → closed (fold (with_item d) (if b then record { rows = rows ++ front ∷ []; alone = [] } else record { rows = rows; alone = front }) (items_from n ts)) ≡ rows ++ stated.set_rows d (front ++ ts)
    go true full =
        let enough = at_least d (length front) full in
        let whole : take d (front ++ take (alone_len ts) ts) ≡ front =
        take_front front (take (alone_len ts) ts) d 0 (omega (arith, enough, long, short)) ∙ ap (λ l. front ++ l) (take_none (take (alone_len ts) ts)) ∙ append-nil front in
        walks (rows ++ front ∷ []) [] ts fits inside tt some
        ∙ append_assoc rows (front ∷ []) (stated.set_rows d ts)
        ∙ ap (λ more. rows ++ more) (sym (one_row d front ts some (omega (arith, long)) stands whole))
    go false room = walks rows front ts fits inside stands (fewer d (length front) room)

next_item : (d n : ℕ) (rows : List (List Token)) (alone : List Token) (t : Token) (ts : List Token) → 0 < d → Walks d n → length ts ≤ n → Inside (t ∷ ts) → Alone alone → length alone < d → (b : Bool) → is_mark (codes "(") t ≡ b
    → closed (fold (with_item d) (record { rows = rows; alone = alone }) (items_from (suc n) (t ∷ ts))) ≡ rows ++ stated.set_rows d (alone ++ t ∷ ts)
next_item d n rows alone t ts some walks fits inside h short b e = ap after e ∙ go b e
  where
    members : Bool → List Token
    members c = unwrap_or (if c then Some (uncommaed (take (inside_len ts) ts)) else Some (t ∷ [])) []

    left : Bool → List Token
    left c = if c then drop (suc (inside_len ts)) ts else if is_mark (codes ";") t then [] else ts

    after : Bool → List (List Token)
    after c = closed (fold (with_item d) (with_item d (record { rows = rows; alone = alone }) (record { is_tuple = c; members = members c })) (items_from n (left c)))

    go : (c : Bool) → is_mark (codes "(") t ≡ c → after c ≡ rows ++ stated.set_rows d (alone ++ t ∷ ts)
    go true is = at_tuple d n rows alone t ts some walks fits inside.1 h short is
    go false is =
        ap (λ (c : Bool). closed (fold (with_item d) (opened d rows (alone ++ t ∷ [])) (items_from n (if c then [] else ts)))) inside.0
        ∙ at_member d n rows alone t ts some walks fits inside.1 h short is

walk : (d n : ℕ) → 0 < d → Walks d n
walk d zero some rows alone [] fits inside h short = at_end d rows alone some h short
walk d zero some rows alone (t ∷ ts) fits inside h short = absurd (omega (arith, fits))
walk d (suc n) some rows alone [] fits inside h short = at_end d rows alone some h short
walk d (suc n) some rows alone (t ∷ ts) fits inside h short = next_item d n rows alone t ts some (walk d n some) (omega (arith, fits)) inside h short (is_mark (codes "(") t) refl

pub takes_members : TakesMembers
takes_members dimension ts some inside = walk dimension (length ts) some [] [] ts (omega arith) inside tt some
