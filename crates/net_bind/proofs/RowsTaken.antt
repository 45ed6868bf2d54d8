-- The tuples that data give a set stand once, and are as long as its rows.
use Rattle.std.specs.Prelude.{◌≡◌, ◌+◌, ◌≤◌, ◌||◌, ℕ, Bool, true, false, List, [], ◌∷◌, length, map, take, nat_eq, nat_le, is_some, Option, None, Some, if◌then◌else◌, Ok, Err}
use Rattle.std.specs.List.{AllByRecursion, IsDistinct}
use Rattle.std.proofs.Common.{refl, ◌∙◌, subst, arith}
use Rattle.std.proofs.lemmas.Bool.{eqb-true}
use Rattle.std.proofs.lemmas.List.{length-map, length-take, length-take-le}
use Rattle.net_base.specs.declared.diagnostic.Language.TheVariants.{Data}
use Rattle.net_base.specs.declared.diagnostic.Span.{Span}
use Rattle.net_lex.specs.declared.token.Token.{Token}
use Rattle.net_sets.specs.Limits.{arity_limit, tuples_limit}
use Rattle.net_sets.specs.Sets.{Tuple, same_tuple, has, added}
use Rattle.net_base.specs.declared.diagnostic.Detail.TheVariants.{Reported}
use Rattle.net_base.specs.declared.error_code.ErrorCode.TheVariants.{Arity, TooMany, DoubleValue}
use Rattle.net_sets.specs.Operations.{AreLong}
use Rattle.net_expr.proofs.Alike.{all_added}
use Rattle.net_expr.proofs.KeysOnce.{union_distinct}
use Rattle.net_expr.proofs.Walked.{none_there}
use Rattle.net_bind.specs.declared.given.DataContent.{DataContent}
use Rattle.net_bind.specs.declared.given.DataContent.TheVariants as given
use Rattle.net_bind.specs.declared.given.NamedData.{NamedData}
use Rattle.net_bind.specs.Cells.{member_in, tuple_in}
use Rattle.net_base.specs.Outcomes.{Outcome, and_then, each, rejected_as, rejected_there}
use Rattle.net_bind.specs.SetData.{set_rows, begins_at, all_of_size, without_points, whole_group, whole_groups, cut, leading_size, agrees, given_rows, with_member, doubled, with_statement}

pub then_ok : {A B P : Type 0} (o : Outcome A) (f : A → Outcome B) (r : B) → and_then o f ≡ Ok r → ((y : A) → o ≡ Ok y → f y ≡ Ok r → P) → P
then_ok (Ok y) f r e k = k y refl e
then_ok (Err x) f r e k = cc

pub is_ok : {A : Type 0} (a b : A) → (let o : Outcome A = Ok a in o ≡ Ok b) → a ≡ b
is_ok a b e = cc

abbrev pub AreOfSize : ℕ → List (List Token) → Type 0
AreOfSize n rows = AllByRecursion (λ r. length r ≡ n) rows

pub sized : (at : Span) (n : ℕ) (rows : List (List Token)) (u : Unit {0}) → all_of_size at n rows ≡ Ok u → AreOfSize n rows
sized at n [] u h = tt
sized at n (r ∷ rows) u h = go (nat_eq (length r) n) refl h (sized at n rows u)
  where
    go : (b : Bool) → nat_eq (length r) n ≡ b → (if b then all_of_size at n rows else rejected_there Arity (begins_at at r)) ≡ Ok u → (all_of_size at n rows ≡ Ok u → AreOfSize n rows) → AreOfSize n (r ∷ rows)
    go true e k more = (eqb-true (length r) n e, more k)
    go false e k more = cc

-- the key of a group that is whole
key_sized : (at : Span) (keys values : ℕ) (g : List Token) (u : Unit {0}) → whole_group at keys (keys + values) g ≡ Ok u → length (take keys g) ≡ keys
key_sized at keys values g u h = go (nat_eq (length g) (keys + values)) refl h
  where
    go : (b : Bool) → nat_eq (length g) (keys + values) ≡ b → (if b then without_points (take keys g) else rejected_there Arity (begins_at at g)) ≡ Ok u → length (take keys g) ≡ keys
    go true e k = let long = eqb-true (length g) (keys + values) e in length-take-le keys g (omega (arith, long))
    go false e k = cc

keys_sized : (at : Span) (keys values : ℕ) (gs : List (List Token)) (u : Unit {0}) → whole_groups at keys (keys + values) gs ≡ Ok u → AreOfSize keys (map (take keys) gs)
keys_sized at keys values [] u h = tt
keys_sized at keys values (g ∷ gs) u h = then_ok (whole_group at keys (keys + values) g) (λ v. whole_groups at keys (keys + values) gs) u h (λ v e k. (key_sized at keys values g v e, keys_sized at keys values gs u k))

pub rows_sized : (widths : List ℕ) (n : ℕ) (word : Token) (g : DataContent) (rows : List (List Token)) → given_rows widths n word g ≡ Ok rows → AreOfSize n rows
rows_sized widths n word (given.Members ts) rows h =
    then_ok (all_of_size word.span n (set_rows n ts)) (λ u. Ok (set_rows n ts)) rows h (λ u e k. subst (AreOfSize n) (is_ok (set_rows n ts) rows k) (sized word.span n (set_rows n ts) u e))
rows_sized widths n word (given.Groups g) rows h =
    then_ok (agrees word (leading_size widths g.leader n) n) _ rows h (λ u e k.
    then_ok (whole_groups word.span n (n + g.values) (cut (n + g.values) g.cells)) (λ v. Ok (map (take n) (cut (n + g.values) g.cells))) rows k (λ v i l.
    subst (AreOfSize n) (is_ok (map (take n) (cut (n + g.values) g.cells)) rows l) (keys_sized word.span n g.values (cut (n + g.values) g.cells) v i)))
rows_sized widths n word (given.Grid g) rows h = subst (AreOfSize n) (is_ok [] rows h) tt

-- tuples once, and of this dimension where a key may have so many members
pub record AreTaken (n : ℕ) (ts : List Tuple) : Type 0 where
  pub once : IsDistinct same_tuple ts
  pub long : n ≤ arity_limit → AreLong n ts

tuple_long : (n : ℕ) (row : List Token) → length row ≡ n → n ≤ arity_limit → length (tuple_in row) ≡ n
tuple_long n row e l = length-map (take arity_limit row) member_in ∙ (length-take arity_limit row ∙ omega (arith, e, l))

member_more : (n : ℕ) (word : Token) (row : List Token) (ts us : List Tuple) → length row ≡ n → AreTaken n ts → with_member word row ts ≡ Ok us → AreTaken n us
member_more n word row ts us l h e = go (has ts (tuple_in row)) (nat_le (length (added ts (tuple_in row))) tuples_limit) e
  where
    more : AreTaken n (added ts (tuple_in row))
    more = record { once = union_distinct ts (tuple_in row ∷ []) h.once; long = λ k. all_added (λ t. length t ≡ n) ts (tuple_in row) (h.long k) (tuple_long n row l k) }

    go : (b c : Bool) → (if b then rejected_as Data DoubleValue (begins_at word.span row) (Reported word.text) else if c then (let o : Outcome (List Tuple) = Ok (added ts (tuple_in row)) in o) else rejected_there TooMany (begins_at word.span row)) ≡ Ok us → AreTaken n us
    go true c i = cc
    go false true i = subst (AreTaken n) (is_ok (added ts (tuple_in row)) us i) more
    go false false i = cc

members_taken : (n : ℕ) (word : Token) (rows : List (List Token)) (ts us : List Tuple) → AreOfSize n rows → AreTaken n ts → each (with_member word) rows ts ≡ Ok us → AreTaken n us
members_taken n word [] ts us l h e = subst (AreTaken n) (is_ok ts us e) h
members_taken n word (r ∷ rows) ts us l h e =
    then_ok (with_member word r ts) (each (with_member word) rows) us e (λ vs i k. members_taken n word rows vs us l.1 (member_more n word r ts vs l.0 h i) k)

-- what statements give, if they give a set
abbrev pub IsTaken : ℕ → Option (List Tuple) → Type 0
IsTaken n None = Unit {0}
IsTaken n (Some ts) = AreTaken n ts

statement_taken : (widths : List ℕ) (n : ℕ) (a : Bool) (m : NamedData) (found more : Option (List Tuple)) → with_statement widths n a m found ≡ Ok more → IsTaken n more
statement_taken widths n a m found more h =
    then_ok (given_rows widths n m.word m.given) (λ rows. if a || is_some found then doubled m.word else and_then (each (with_member m.word) rows []) (λ ts. Ok (Some ts))) more h
    (λ rows e k. go rows (rows_sized widths n m.word m.given rows e) (a || is_some found) k)
  where
    go : (rows : List (List Token)) → AreOfSize n rows → (b : Bool) → (let o : Outcome (Option (List Tuple)) = if b then doubled m.word else and_then (each (with_member m.word) rows []) (λ ts. Ok (Some ts)) in o) ≡ Ok more → IsTaken n more
    go rows l true k = cc
    go rows l false k =
        then_ok (each (with_member m.word) rows []) (λ ts. Ok (Some ts)) more k
        (λ ts e i. subst (IsTaken n) (is_ok (Some ts) more i) (members_taken n m.word rows [] ts l (record { once = none_there; long = λ j. tt }) e))

pub given_taken : (widths : List ℕ) (n : ℕ) (a : Bool) (ms : List NamedData) (found more : Option (List Tuple)) → IsTaken n found → each (with_statement widths n a) ms found ≡ Ok more → IsTaken n more
given_taken widths n a [] found more h e = subst (IsTaken n) (is_ok found more e) h
given_taken widths n a (m ∷ ms) found more h e =
    then_ok (with_statement widths n a m found) (each (with_statement widths n a) ms) more e (λ next i k. given_taken widths n a ms next more (statement_taken widths n a m found next i) k)
