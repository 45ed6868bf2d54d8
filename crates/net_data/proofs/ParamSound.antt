-- What is read as a statement is its printing.
use Rattle.std.proofs.Common.{◌≡◌, ℕ, zero, suc, true, List, ◌∷◌, Option, Some, None, IfSome, Result, Ok, Err, refl, ap, ◌∙◌, subst, codes}
use Rattle.net_lex.specs.declared.token.Token.{Token}
use Rattle.net_data.specs.declared.data_parser.ParseError.{ParseError}
use Rattle.net_data.specs.declared.statement.DefaultValue.{DefaultValue}
use Rattle.net_data.specs.declared.statement.NamedSet.{NamedSet}
use Rattle.net_data.specs.declared.statement.Statement.{Statement}
use Rattle.net_data.specs.Tests.{is_name, is_member, is_word, is_mark}
use Rattle.net_data.specs.Commas.{before, in_set, elsewhere, bare}
use Rattle.net_data.specs.Printing.{put, put_default, put_set, put_all}
use Rattle.net_data.specs.Meaning.{IsDefault, IsNamedSet, IsStatement, all_judged}
use Rattle.net_data.specs.Reading.{Read, body, body_by, default, default_by, named, named_set, named_set_by, met_after, columns, param, param_by, statement, statement_by, some_statement, statements, statements_by, with_statement, met, colon}
use Rattle.std.specs.List.{AllByRecursion}
use Rattle.net_data.proofs.RunLemmas.{keeps_name}
use Rattle.net_data.proofs.Steps.{to_set, to_else, in_name, in_member, in_word, in_mark, got, got_met, bind_ok, ok_is, some_is}
use Rattle.net_data.proofs.SetSound.{Stated, set-sound}
use Rattle.net_data.proofs.TableSound.{table-sound, turned-sound, list-sound, heading-sound, cells-sound}

body_of : (keyword name : Token) (default : Option DefaultValue) (tokens : List Token) (opening mark : Option (Token × List Token)) (x : Statement × List Token)
    → is_word (codes "param") keyword ≡ true → is_name name ≡ true → IfSome default IsDefault → met (is_mark (codes "(")) tokens ≡ opening → met colon tokens ≡ mark
    → body_by keyword name default tokens opening mark ≡ Ok x → Stated (keyword ∷ name ∷ put_default default (bare elsewhere tokens)) x
body_of keyword name default tokens (Some o) mark x key named defaults is colons h =
    let opens = got_met elsewhere elsewhere (is_mark (codes "(")) tokens o (in_mark (codes "(") refl) is in
    rw opens.printed (turned-sound keyword name default o.0 o.1 x key named defaults opens.passes h)
body_of keyword name default tokens None (Some c) x key named defaults is colons h =
    let mark = got_met elsewhere elsewhere colon tokens c (in_mark (codes ":") refl) colons in
    rw mark.printed (table-sound keyword name default None c.0 c.1 x key named defaults tt mark.passes h)
body_of keyword name default tokens None None x key named defaults is colons h = list-sound keyword name default tokens x key named defaults h

body-sound : (keyword name : Token) (default : Option DefaultValue) (tokens : List Token) (x : Statement × List Token)
    → is_word (codes "param") keyword ≡ true → is_name name ≡ true → IfSome default IsDefault
    → body keyword name default tokens ≡ Ok x → Stated (keyword ∷ name ∷ put_default default (bare elsewhere tokens)) x
unfolding body
body-sound keyword name default tokens x key named defaults h =
    body_of keyword name default tokens (met (is_mark (codes "(")) tokens) (met colon tokens) x key named defaults refl refl h

pub record DefaultRead (tokens : List Token) (x : Option DefaultValue × List Token) : Type 0 where
  pub printed : bare elsewhere tokens ≡ put_default x.0 (bare elsewhere x.1)
  pub are : IfSome x.0 IsDefault

default_of : (tokens : List Token) (next : Option (Token × List Token)) (x : Option DefaultValue × List Token) → met (is_word (codes "default")) tokens ≡ next → default_by tokens next ≡ Ok x → DefaultRead tokens x
default_of tokens None x is h =
    let P : Option DefaultValue × List Token → Type 0 = λ z. DefaultRead tokens z in subst P (ok_is _ x h) (record { printed = refl; are = tt })
default_of tokens (Some word) x is h =
    let key = got_met elsewhere elsewhere (is_word (codes "default")) tokens word (in_word (codes "default")) is in
    let a = bind_ok _ _ _ h in
    let value = got elsewhere elsewhere is_member word.1 a.value in_member a.first in
    let P : Option DefaultValue × List Token → Type 0 = λ z. DefaultRead tokens z in
    subst P (ok_is _ x a.then) (record { printed = rw (key.printed, value.printed) refl; are = record { keyword = key.passes; value = value.passes } })

pub default-sound : (tokens : List Token) (x : Option DefaultValue × List Token) → default tokens ≡ Ok x → DefaultRead tokens x
unfolding default
default-sound tokens x h = default_of tokens (met (is_word (codes "default")) tokens) x refl h

named-sound : (keyword : Token) (tokens : List Token) (x : Statement × List Token) → is_word (codes "param") keyword ≡ true → named keyword tokens ≡ Ok x → Stated (keyword ∷ bare elsewhere tokens) x
unfolding named
named-sound keyword tokens x key h =
    let a = bind_ok _ _ _ h in
    let name = got elsewhere elsewhere is_name tokens a.value in_name a.first in
    let b = bind_ok _ _ _ a.then in
    let d = default-sound a.value.1 b.value b.first in
    rw (name.printed, d.printed) (body-sound keyword a.value.0 b.value.0 b.value.1 x key name.passes d.are b.then)

pub record SetRead (tokens : List Token) (x : Option NamedSet × List Token) : Type 0 where
  pub printed : bare elsewhere tokens ≡ put_set x.0 (bare elsewhere x.1)
  pub are : IfSome x.0 IsNamedSet

named_set_of : (tokens : List Token) (name : Option (Token × List Token)) (mark : Option (Token × List Token)) → met is_name tokens ≡ name → met_after colon name ≡ mark → SetRead tokens (named_set_by tokens name mark)
named_set_of tokens None mark is colons = record { printed = refl; are = tt }
named_set_of tokens (Some name) None is colons = record { printed = refl; are = tt }
named_set_of tokens (Some name) (Some mark) is colons =
    let n = got_met elsewhere elsewhere is_name tokens name in_name is in
    let m = got_met elsewhere elsewhere colon name.1 mark (in_mark (codes ":") refl) colons in
    record { printed = rw (n.printed, m.printed) refl; are = record { name = n.passes; colon = m.passes } }

pub named_set-sound : (tokens : List Token) → SetRead tokens (named_set tokens)
unfolding named_set
named_set-sound tokens = named_set_of tokens (met is_name tokens) (met_after colon (met is_name tokens)) refl refl

columns-sound : (keyword mark : Token) (tokens : List Token) (x : Statement × List Token) → is_word (codes "param") keyword ≡ true → colon mark ≡ true
    → columns keyword mark tokens ≡ Ok x → Stated (keyword ∷ mark ∷ bare elsewhere tokens) x
unfolding columns
columns-sound keyword mark tokens x key colons h =
    let s = named_set-sound tokens in
    let a = bind_ok _ _ _ h in
    let head = heading-sound is_name (named_set tokens).1 a.value keeps_name a.first in
    let b = bind_ok _ _ _ a.then in
    let body = cells-sound a.value.1 b.value b.first in
    let P : Statement × List Token → Type 0 = λ z. Stated (keyword ∷ mark ∷ bare elsewhere tokens) z in
    subst P (ok_is _ x b.then) (record {
      printed = rw (s.printed, head.printed, body.printed) refl;
      are = record { heading = record { keyword = key; colon = colons; set = s.are; names = head.pass; assign = head.assign }; cells = body.pass; end = body.end };
      judged = head.judged;
    })

param_of : (keyword : Token) (tokens : List Token) (next : Option (Token × List Token)) (x : Statement × List Token) → is_word (codes "param") keyword ≡ true → met colon tokens ≡ next
    → param_by keyword tokens next ≡ Ok x → Stated (keyword ∷ bare elsewhere tokens) x
param_of keyword tokens (Some mark) x key is h =
    let m = got_met elsewhere elsewhere colon tokens mark (in_mark (codes ":") refl) is in rw m.printed (columns-sound keyword mark.0 mark.1 x key m.passes h)
param_of keyword tokens None x key is h = named-sound keyword tokens x key h

param-sound : (keyword : Token) (tokens : List Token) (x : Statement × List Token) → is_word (codes "param") keyword ≡ true → param keyword tokens ≡ Ok x → Stated (keyword ∷ bare elsewhere tokens) x
unfolding param
param-sound keyword tokens x key h = param_of keyword tokens (met colon tokens) x key refl h

found_is : (read : Read Statement) (x : Statement × List Token) → some_statement read ≡ Ok (Some x) → read ≡ Ok x
found_is (Ok y) x h = let same : y ≡ x = some_is y x (ok_is _ _ h) in rw same refl
found_is (Err e) x h = absurd (cc)

statement_of : (tokens : List Token) (set_word param_word : Option (Token × List Token)) (x : Statement × List Token) → met (is_word (codes "set")) tokens ≡ set_word → met (is_word (codes "param")) tokens ≡ param_word
    → statement_by set_word param_word ≡ Ok (Some x) → Stated (bare before tokens) x
statement_of tokens (Some s) param_word x is other h =
    let key = got_met before in_set (is_word (codes "set")) tokens s to_set is in rw key.printed (set-sound s.0 s.1 x key.passes (found_is _ x h))
statement_of tokens None (Some p) x is other h =
    let key = got_met before elsewhere (is_word (codes "param")) tokens p (to_else (codes "param") refl) other in rw key.printed (param-sound p.0 p.1 x key.passes (found_is _ x h))
statement_of tokens None None x is other h = absurd (cc)

pub statement-sound : (tokens : List Token) (x : Statement × List Token) → statement tokens ≡ Ok (Some x) → Stated (bare before tokens) x
unfolding statement
statement-sound tokens x h = statement_of tokens (met (is_word (codes "set")) tokens) (met (is_word (codes "param")) tokens) x refl refl h

-- statements that are read
pub record AllStated (tokens : List Token) (x : List Statement × List Token) : Type 0 where
  pub printed : bare before tokens ≡ put_all x.0 (bare before x.1)
  pub are : AllByRecursion IsStatement x.0
  pub judged : all_judged x.0 ≡ Ok tt

with_inv : (x : Statement) (read : Read (List Statement)) (y : List Statement × List Token) → with_statement x read ≡ Ok y → (z : List Statement × List Token) × (read ≡ Ok z) × ((x ∷ z.0, z.1) ≡ y)
with_inv x (Ok z) y h = (z, refl, ok_is _ y h)
with_inv x (Err e) y h = absurd (cc)

all_of : (n : ℕ) (tokens : List Token) (read : Result (Option (Statement × List Token)) ParseError) (y : List Statement × List Token) → statement tokens ≡ read → statements_by (statements n) tokens read ≡ Ok y
    → ((rest : List Token) (z : List Statement × List Token) → statements n rest ≡ Ok z → AllStated rest z) → AllStated tokens y
all_of n tokens (Ok (Some x)) y is h behind =
    let w = with_inv x.0 (statements n x.1) y h in
    let s = statement-sound tokens x is in
    let more = behind x.1 w.0 w.1 in
    let P : List Statement × List Token → Type 0 = λ z. AllStated tokens z in
    subst P w.2 (record { printed = s.printed ∙ ap (λ ts. put x.0 ts) more.printed; are = (s.are, more.are); judged = rw s.judged more.judged })
all_of n tokens (Ok None) y is h behind =
    let P : List Statement × List Token → Type 0 = λ z. AllStated tokens z in subst P (ok_is _ y h) (record { printed = refl; are = tt; judged = refl })
all_of n tokens (Err e) y is h behind = absurd (cc)

pub statements-sound : (n : ℕ) (tokens : List Token) (y : List Statement × List Token) → statements n tokens ≡ Ok y → AllStated tokens y
unfolding statements
statements-sound zero tokens y h =
    let P : List Statement × List Token → Type 0 = λ z. AllStated tokens z in subst P (ok_is _ y h) (record { printed = refl; are = tt; judged = refl })
statements-sound (suc n) tokens y h = all_of n tokens (statement tokens) y refl h (λ rest z k. statements-sound n rest z k)
