-- The first item of a set, and those behind it.
use Rattle.std.proofs.Common.{◌≡◌, ℕ, zero, suc, ◌+◌, Bool, true, false, cond, List, [], ◌∷◌, take, drop, Option, Some, None, refl, ap, sym, ◌∙◌, arith, codes}
use Rattle.net_lex.specs.declared.token.Token.{Token}
use Rattle.net_data.specs.Tests.{is_mark, is_comma}
use Rattle.net_data.specs.Commas.{in_set, in_tuple, place_after, bare, uncommaed}
use Rattle.net_data.specs.Meaning.{AreItems, IsTupleRest}
use Rattle.net_data.specs.Reading.{front}
use Rattle.net_data.specs.Rows.{first_item, begins_tuple, more_items, inside_len}
use Rattle.net_data.proofs.Apart.{member-mark, mark-mark}
use Rattle.net_data.proofs.Bare.{front-bare, front-none}

pub no_comma : (tokens rest : List Token) (token : Token) → front tokens ≡ Some (token, rest) → is_comma token ≡ false
no_comma [] rest token h = absurd (cc)
no_comma (t ∷ tokens) rest token h =
    let P : Bool → Type 0 = λ b. is_comma t ≡ b → (let o : Option (Token × List Token) = cond b (front tokens) (Some (t, tokens)) in o ≡ Some (token, rest)) → is_comma token ≡ false in
    let by : (b : Bool) → P b = λ b. elim b as P [
      | true ↦ λ is k. no_comma tokens rest token k
      | false ↦ λ is k. let pair : (t, tokens) ≡ (token, rest) = cc in let same : t ≡ token = ap (λ (p : Token × List Token). p.0) pair in rw (sym same) is
    ] in
    by (is_comma t) refl h

-- up to the `)` a tuple stands as it is written
record Inside (tokens : List Token) : Type 0 where
  count : inside_len (bare in_tuple tokens) ≡ inside_len tokens
  taken : take (inside_len tokens) (bare in_tuple tokens) ≡ take (inside_len tokens) tokens
  behind : drop (suc (inside_len tokens)) (bare in_tuple tokens) ≡ bare in_set (drop (suc (inside_len tokens)) tokens)

inside_at : (token : Token) (tokens : List Token) (close : Bool) → is_mark (codes ")") token ≡ close → Inside tokens → Inside (token ∷ tokens)
inside_at token tokens true is i = record { count = rw is refl; taken = rw is refl; behind = rw is refl }
inside_at token tokens false is i =
    let n = inside_len tokens in
    let one : 1 + n ≡ suc n = omega arith in
    record {
      count = rw is (ap (λ m. 1 + m) i.count);
      taken = rw (is, one) (ap (λ ts. token ∷ ts) i.taken);
      behind = rw (is, one) i.behind;
    }

inside : (tokens : List Token) → Inside tokens
inside [] = record { count = refl; taken = refl; behind = refl }
inside (token ∷ tokens) = inside_at token tokens (is_mark (codes ")") token) refl (inside tokens)

pub first_none : (tokens : List Token) → front tokens ≡ None → bare in_set tokens ≡ []
first_none tokens h = front-none in_set tokens refl h

pub begins_some : (tokens rest : List Token) (token : Token) → front tokens ≡ Some (token, rest) → begins_tuple (bare in_set tokens) ≡ is_mark (codes "(") token
begins_some tokens rest token h = rw (front-bare in_set tokens rest token refl h) refl

open_bare : (tokens rest : List Token) (token : Token) → front tokens ≡ Some (token, rest) → is_mark (codes "(") token ≡ true → bare in_set tokens ≡ token ∷ bare in_tuple rest
open_bare tokens rest token h opens =
    let end = mark-mark (codes "(") (codes ";") token refl opens in
    let place : place_after in_set token ≡ in_tuple = rw (end, opens) refl in
    front-bare in_set tokens rest token refl h ∙ ap (λ p. token ∷ bare p rest) place

pub first_tuple : (tokens rest : List Token) (token : Token) → front tokens ≡ Some (token, rest) → is_mark (codes "(") token ≡ true
    → first_item (bare in_set tokens) ≡ Some (uncommaed (take (inside_len rest) rest))
first_tuple tokens rest token h opens =
    let i = inside rest in
    rw (open_bare tokens rest token h opens, opens, i.count, i.taken) refl

pub first_alone : (tokens rest : List Token) (token : Token) → front tokens ≡ Some (token, rest) → is_mark (codes "(") token ≡ false → first_item (bare in_set tokens) ≡ Some (uncommaed (token ∷ []))
first_alone tokens rest token h alone =
    let no_mark = no_comma tokens rest token h in
    rw (front-bare in_set tokens rest token refl h, alone, no_mark) refl

drop_one : (n : ℕ) (tokens : List Token) → drop (suc n) tokens ≡ drop 1 (drop n tokens)
drop_one zero [] = refl
drop_one zero (t ∷ tokens) = refl
drop_one (suc n) [] = refl
drop_one (suc n) (t ∷ tokens) = drop_one n tokens

pub more_tuple : (tokens rest : List Token) (token : Token) → front tokens ≡ Some (token, rest) → is_mark (codes "(") token ≡ true → more_items (bare in_set tokens) ≡ bare in_set (drop 1 (drop (inside_len rest) rest))
more_tuple tokens rest token h opens =
    let i = inside rest in rw (open_bare tokens rest token h opens, opens, i.count) (i.behind ∙ ap (bare in_set) (drop_one (inside_len rest) rest))

pub more_alone : (tokens rest : List Token) (token : Token) → front tokens ≡ Some (token, rest) → is_mark (codes "(") token ≡ false → is_mark (codes ";") token ≡ false → more_items (bare in_set tokens) ≡ bare in_set rest
more_alone tokens rest token h alone goes_on =
    let here = front-bare in_set tokens rest token refl h in rw (here, goes_on, alone) refl

pub more_over : (tokens rest : List Token) (token : Token) → front tokens ≡ Some (token, rest) → is_mark (codes "(") token ≡ false → is_mark (codes ";") token ≡ true → more_items (bare in_set tokens) ≡ []
more_over tokens rest token h alone over =
    let here = front-bare in_set tokens rest token refl h in rw (here, over, alone) refl

rest_after : {tokens rest : List Token} → IsTupleRest tokens rest → drop (suc (inside_len tokens)) tokens ≡ rest
rest_after (IsTupleRest.last {comma} {member} {closing} {rest} c m k) =
    let a = mark-mark (codes ",") (codes ")") comma refl c in let b = member-mark (codes ")") member m in rw (a, b, k) refl
rest_after (IsTupleRest.more {comma} {member} {tokens} {rest} c m r) =
    let a = mark-mark (codes ",") (codes ")") comma refl c in let b = member-mark (codes ")") member m in
    let n = inside_len tokens in
    let two : 1 + (1 + n) ≡ suc (suc n) = omega arith in rw (a, b, two) (rest_after r)

pub more_are : (tokens : List Token) → AreItems tokens → AreItems (more_items tokens)
more_are [] AreItems.nothing = AreItems.nothing
more_are (token ∷ tokens) (AreItems.member m a) = let alone = member-mark (codes "(") token m in let goes_on = member-mark (codes ";") token m in rw (alone, goes_on) a
more_are (token ∷ first ∷ tokens) (AreItems.tuple o m r a) =
    let b = member-mark (codes ")") first m in
    let n = inside_len tokens in
    let one : 1 + n ≡ suc n = omega arith in
    rw (o, b, one, rest_after r) a
