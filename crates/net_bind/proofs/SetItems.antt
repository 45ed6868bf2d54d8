-- The items of a set statement: its rows are made of its tokens, and a set of dimension 0 has none.
use Rattle.std.specs.Prelude.{◌≡◌, ◌+◌, ℕ, zero, suc, Bool, true, false, not, cond, List, [], ◌∷◌, ◌++◌, length, take, drop, nat_le, unwrap_or, if◌then◌else◌, codes, Some, Ok}
use Rattle.std.specs.List.{AllByRecursion, filter, fold}
use Rattle.std.proofs.Common.{refl, ap, sym, ◌∙◌, subst, arith, append_assoc, append-nil}
use Rattle.net_base.specs.declared.diagnostic.Span.{Span}
use Rattle.net_lex.specs.declared.token.Kind.{Kind}
use Rattle.net_lex.specs.declared.token.Kind.TheVariants.{Name, Key, Num, Str, Mark, Dot}
use Rattle.net_lex.specs.declared.token.Token.{Token}
use Rattle.net_data.specs.Commas.{uncommaed}
use Rattle.net_data.specs.Meaning.{AreItems, IsTupleRest}
use Rattle.net_data.specs.Rows as stated
use Rattle.net_data.specs.Rows.{points, alone_len, inside_len, more_items, first_row, more_rows, set_rows_from}
use Rattle.net_data.specs.Tests.{stands_for_member, marks, is_member, is_mark, is_comma}
use Rattle.net_data.proofs.Apart.{member-mark, mark-mark}
use Rattle.net_bind.specs.SetData.{Item, Rows}
use Rattle.net_bind.specs.SetData.{items_from, closed, closed_with, with_item, set_rows, all_of_size}
use Rattle.net_bind.proofs.RowsTaken.{AreOfSize, sized}
use Rattle.net_bind.proofs.SetRowsTaken.{takes_members}
use Rattle.std.proofs.lemmas.Bool.{and_parts}

-- ---- tokens of items

-- neither a dot nor a semicolon
pub record IsInside (t : Token) : Type 0 where
  pub solid : points t.kind ≡ false
  pub inside : is_mark (codes ";") t ≡ false

member_solid : (kind : Kind) → stands_for_member kind ≡ true → points kind ≡ false
member_solid Name h = refl
member_solid Key h = refl
member_solid Num h = refl
member_solid Str h = refl
member_solid Mark h = refl
member_solid Dot h = absurd (cc)

mark_solid : (kind : Kind) → marks kind ≡ true → points kind ≡ false
mark_solid Name h = refl
mark_solid Key h = refl
mark_solid Num h = refl
mark_solid Str h = refl
mark_solid Mark h = refl
mark_solid Dot h = absurd (cc)

member_inside : (t : Token) → is_member t ≡ true → IsInside t
member_inside t h = record { solid = member_solid t.kind h; inside = member-mark (codes ";") t h }

comma_inside : (t : Token) → is_comma t ≡ true → IsInside t
comma_inside t h = record { solid = mark_solid t.kind (and_parts (marks t.kind) _ h).0; inside = mark-mark (codes ",") (codes ";") t refl h }

opening_inside : (t : Token) → is_mark (codes "(") t ≡ true → IsInside t
opening_inside t h = record { solid = mark_solid t.kind (and_parts (marks t.kind) _ h).0; inside = mark-mark (codes "(") (codes ";") t refl h }

closing_inside : (t : Token) → is_mark (codes ")") t ≡ true → IsInside t
closing_inside t h = record { solid = mark_solid t.kind (and_parts (marks t.kind) _ h).0; inside = mark-mark (codes ")") (codes ";") t refl h }

rest_inside : {tokens rest : List Token} → IsTupleRest tokens rest → AllByRecursion IsInside rest → AllByRecursion IsInside tokens
rest_inside (IsTupleRest.last {comma} {member} {closing} {rest} c m k) h = (comma_inside comma c, (member_inside member m, (closing_inside closing k, h)))
rest_inside (IsTupleRest.more {comma} {member} {tokens} {rest} c m r) h = (comma_inside comma c, (member_inside member m, rest_inside r h))

pub items_inside : (ts : List Token) → AreItems ts → AllByRecursion IsInside ts
items_inside [] AreItems.nothing = tt
items_inside (t ∷ ts) (AreItems.member m a) = (member_inside t m, items_inside ts a)
items_inside (t ∷ first ∷ ts) (AreItems.tuple {rest = rest} o m r a) = (opening_inside t o, (member_inside first m, rest_inside r (items_inside rest a)))

-- ---- rows are made of the tokens

pub all_take : {A : Type 0} (P : A → Type 0) (k : ℕ) (xs : List A) → AllByRecursion P xs → AllByRecursion P (take k xs)
all_take P zero [] h = tt
all_take P zero (x ∷ xs) h = tt
all_take P (suc k) [] h = tt
all_take P (suc k) (x ∷ xs) h = (h.0, all_take P k xs h.1)

pub all_drop : {A : Type 0} (P : A → Type 0) (k : ℕ) (xs : List A) → AllByRecursion P xs → AllByRecursion P (drop k xs)
all_drop P zero [] h = tt
all_drop P zero (x ∷ xs) h = h
all_drop P (suc k) [] h = tt
all_drop P (suc k) (x ∷ xs) h = all_drop P k xs h.1

all_filter : {A : Type 0} (P : A → Type 0) (test : A → Bool) (xs : List A) → AllByRecursion P xs → AllByRecursion P (filter test xs)
all_filter P test [] h = tt
all_filter P test (x ∷ xs) h = go (test x) (all_filter P test xs h.1)
  where
    go : (b : Bool) → AllByRecursion P (filter test xs) → AllByRecursion P (cond b (x ∷ filter test xs) (filter test xs))
    go true k = (h.0, k)
    go false k = k

first_made : (P : Token → Type 0) (d : ℕ) (t : Token) (ts : List Token) → AllByRecursion P (t ∷ ts) → AllByRecursion P (first_row d (t ∷ ts))
first_made P d t ts h = go (is_mark (codes "(") t)
  where
    go : (b : Bool)
        → AllByRecursion P (if b then unwrap_or (if b then Some (uncommaed (take (inside_len ts) ts)) else Some (t ∷ [])) [] else take d (take (alone_len (t ∷ ts)) (t ∷ ts)))
    go true = all_filter P (λ u. not (is_comma u)) (take (inside_len ts) ts) (all_take P (inside_len ts) ts h.1)
    go false = all_take P d (take (alone_len (t ∷ ts)) (t ∷ ts)) (all_take P (alone_len (t ∷ ts)) (t ∷ ts) h)

more_made : (P : Token → Type 0) (d : ℕ) (t : Token) (ts : List Token) → AllByRecursion P (t ∷ ts) → AllByRecursion P (more_rows d (t ∷ ts))
more_made P d t ts h = go (is_mark (codes "(") t) (is_mark (codes ";") t)
  where
    go : (b c : Bool)
        → AllByRecursion P (if b then (if b then drop (suc (inside_len ts)) ts else if c then [] else ts) else drop (length (take d (take (alone_len (t ∷ ts)) (t ∷ ts)))) (t ∷ ts))
    go true c = all_drop P (suc (inside_len ts)) ts h.1
    go false c = all_drop P (length (take d (take (alone_len (t ∷ ts)) (t ∷ ts)))) (t ∷ ts) h

rows_made : (P : Token → Type 0) (d turns : ℕ) (ts : List Token) → AllByRecursion P ts → AllByRecursion (AllByRecursion P) (set_rows_from d turns ts)
rows_made P d zero ts h = tt
rows_made P d (suc turns) [] h = tt
rows_made P d (suc turns) (t ∷ ts) h = (first_made P d t ts h, rows_made P d turns (more_rows d (t ∷ ts)) (more_made P d t ts h))

pub item_rows_made : (P : Token → Type 0) (d : ℕ) (ts : List Token) → AllByRecursion P ts → AllByRecursion (AllByRecursion P) (stated.set_rows d ts)
item_rows_made P d ts h = rows_made P d (length ts) ts h

-- ---- a set of dimension 0

-- rows are added at the end
record Keeps (before after : List (List Token)) : Type 0 where
  more : List (List Token)
  is : after ≡ before ++ more

closed_keeps : (rows : List (List Token)) (alone : List Token) → Keeps rows (closed_with rows alone)
closed_keeps rows [] = record { more = []; is = sym (append-nil rows) }
closed_keeps rows (t ∷ ts) = record { more = (t ∷ ts) ∷ []; is = refl }

item_keeps : (d : ℕ) (r : Rows) (i : Item) → Keeps r.rows (with_item d r i).rows
item_keeps d r i = go i.is_tuple (nat_le d (length (r.alone ++ i.members)))
  where
    go : (b c : Bool)
        → Keeps r.rows (let x : Rows = if b then record { rows = closed r ++ i.members ∷ []; alone = [] } else if c then record { rows = r.rows ++ (r.alone ++ i.members) ∷ []; alone = [] } else record { rows = r.rows; alone = r.alone ++ i.members } in x).rows
    go true c =
        let k = closed_keeps r.rows r.alone in
        record { more = k.more ++ i.members ∷ []; is = ap (λ z. z ++ i.members ∷ []) k.is ∙ append_assoc r.rows k.more (i.members ∷ []) }
    go false true = record { more = (r.alone ++ i.members) ∷ []; is = refl }
    go false false = record { more = []; is = sym (append-nil r.rows) }

items_keep : (d : ℕ) (r : Rows) (is : List Item) → Keeps r.rows (closed (fold (with_item d) r is))
items_keep d r [] = closed_keeps r.rows r.alone
items_keep d r (i ∷ is) =
    let here = item_keeps d r i in
    let later = items_keep d (with_item d r i) is in
    record { more = here.more ++ later.more; is = later.is ∙ ap (λ z. z ++ later.more) here.is ∙ append_assoc r.rows here.more later.more }

abbrev starting : Rows
starting = record { rows = []; alone = [] }

-- the first item is a row of some members
record HasRow (ts : List Token) : Type 0 where
  first : Token
  others : List Token
  more : List (List Token)
  is : set_rows 0 ts ≡ (first ∷ others) ∷ more

member_row : (t : Token) (ts : List Token) → is_mark (codes "(") t ≡ false → HasRow (t ∷ ts)
member_row t ts alone =
    let kept = items_keep 0 (after (is_mark (codes "(") t)) (items_from (length ts) (more_items (t ∷ ts))) in
    record { first = t; others = []; more = kept.more; is = kept.is ∙ ap (λ z. z ++ kept.more) (ap (λ b. (after b).rows) alone) }
  where
    after : Bool → Rows
    after b = with_item 0 starting (record { is_tuple = b; members = unwrap_or (if b then Some (uncommaed (take (inside_len ts) ts)) else Some (t ∷ [])) [] })

tuple_row : (t first : Token) (ts : List Token) → is_mark (codes "(") t ≡ true → is_mark (codes ")") first ≡ false → is_comma first ≡ false → HasRow (t ∷ first ∷ ts)
tuple_row t first ts o k c =
    let kept = items_keep 0 (after (is_mark (codes "(") t)) (items_from (length (first ∷ ts)) (more_items (t ∷ first ∷ ts))) in
    record {
      first = first;
      others = uncommaed (take (inside_len ts) ts);
      more = kept.more;
      is = kept.is ∙ ap (λ z. z ++ kept.more) (ap (λ b. (after b).rows) o ∙ ap (λ (z : List Token). z ∷ []) members);
    }
  where
    after : Bool → Rows
    after b = with_item 0 starting (record { is_tuple = b; members = unwrap_or (if b then Some (uncommaed (take (inside_len (first ∷ ts)) (first ∷ ts))) else Some (t ∷ [])) [] })

    members : uncommaed (take (inside_len (first ∷ ts)) (first ∷ ts)) ≡ first ∷ uncommaed (take (inside_len ts) ts)
    members =
        let one : 1 + inside_len ts ≡ suc (inside_len ts) = omega arith in
        ap (λ b. uncommaed (take (cond (not b) (1 + inside_len ts) 0) (first ∷ ts))) k
        ∙ ap (λ m. uncommaed (take m (first ∷ ts))) one
        ∙ ap (λ b. cond (not b) (first ∷ uncommaed (take (inside_len ts) ts)) (uncommaed (take (inside_len ts) ts))) c

no_row : (ts : List Token) → HasRow ts → AreOfSize 0 (set_rows 0 ts) → ⊥
no_row ts h l = let first = (subst (AreOfSize 0) h.is l).0 in omega (arith, first)

nothing_in : (ts : List Token) → AreItems ts → AreOfSize 0 (set_rows 0 ts) → ts ≡ []
nothing_in [] AreItems.nothing l = refl
nothing_in (t ∷ ts) (AreItems.member m a) l = absurd (no_row (t ∷ ts) (member_row t ts (member-mark (codes "(") t m)) l)
nothing_in (t ∷ first ∷ ts) (AreItems.tuple o m r a) l = absurd (no_row (t ∷ first ∷ ts) (tuple_row t first ts o (member-mark (codes ")") first m) (member-mark (codes ",") first m)) l)

-- the rows that are taken of a statement that is accepted
pub item_rows : (at : Span) (d : ℕ) (ts : List Token) (u : Unit {0}) → AreItems ts → all_of_size at d (set_rows d ts) ≡ Ok u → set_rows d ts ≡ stated.set_rows d ts
item_rows at zero ts u a e =
    let none = nothing_in ts a (sized at 0 (set_rows 0 ts) u e) in
    ap (set_rows 0) none ∙ ap (stated.set_rows 0) (sym none)
item_rows at (suc d) ts u a e = takes_members (suc d) ts (omega arith) (only ts (items_inside ts a))
  where
    only : (ts : List Token) → AllByRecursion IsInside ts → AllByRecursion (λ (t : Token). is_mark (codes ";") t ≡ false) ts
    only [] h = tt
    only (t ∷ ts) h = (h.0.inside, only ts h.1)
