-- What is read as a heading with its cells, or as a list, is its printing, and the other way round.
use Rattle.std.proofs.Common.{◌≡◌, Bool, true, List, [], ◌∷◌, ◌++◌, Option, Some, None, IfSome, Ok, refl, ap, ◌∙◌, subst, codes}
use Rattle.std.specs.List.{list_all}
use Rattle.net_lex.specs.declared.token.Token.{Token}
use Rattle.net_data.specs.declared.statement.DefaultValue.{DefaultValue}
use Rattle.net_data.specs.declared.statement.Given.{Given}
use Rattle.net_data.specs.declared.statement.Transposed.{Transposed}
use Rattle.net_data.specs.declared.statement.Statement.{Statement}
use Rattle.net_data.specs.Tests.{is_name, is_member, is_cell, is_word, is_mark}
use Rattle.net_data.specs.Commas.{before, elsewhere, bare}
use Rattle.net_data.specs.Printing.{put_default, put_given, put_transposed}
use Rattle.net_data.specs.Meaning.{IsDefault, IsGiven, IsTransposed, heading_judged, and_then}
use Rattle.net_data.specs.Reading.{run, heading, headed, cells, check_rows, table, turned, given, given_by, list, met, semicolon, colon, assign}
use Rattle.net_data.proofs.RunLemmas.{Keeps, keeps_cell, keeps_member, ran}
use Rattle.net_data.proofs.Steps.{in_word, in_mark, in_end, got, got_met, bind_ok, ok_is}
use Rattle.net_data.proofs.SetSound.{Stated}

-- a heading, as it is printed
pub record Headed (test : Token → Bool) (tokens : List Token) (x : (List Token × Token) × List Token) : Type 0 where
  pub printed : bare elsewhere tokens ≡ x.0.0 ++ x.0.1 ∷ bare elsewhere x.1
  pub pass : list_all test x.0.0 ≡ true
  pub assign : assign x.0.1 ≡ true
  pub judged : heading_judged x.0.0 x.0.1 ≡ Ok tt

headed_ok : (columns : List Token) (mark : Token) (tokens : List Token) (x : (List Token × Token) × List Token) → headed columns mark tokens ≡ Ok x → (((columns, mark), tokens) ≡ x) × (heading_judged columns mark ≡ Ok tt)
headed_ok [] mark tokens x h = absurd (cc)
headed_ok (c ∷ columns) mark tokens x h = (ok_is _ x h, refl)

pub heading-sound : (test : Token → Bool) (tokens : List Token) (x : (List Token × Token) × List Token) → Keeps test → heading test tokens ≡ Ok x → Headed test tokens x
unfolding heading
heading-sound test tokens x keeps h =
    let r = ran test tokens keeps in
    let a = bind_ok _ _ _ h in
    let mark = got elsewhere elsewhere assign (run test tokens).1 a.value (in_mark (codes ":=") refl) a.first in
    let e = headed_ok (run test tokens).0 a.value.0 a.value.1 x a.then in
    let P : (List Token × Token) × List Token → Type 0 = λ z. Headed test tokens z in
    subst P e.0 (record { printed = r.printed ∙ ap (λ ts. (run test tokens).0 ++ ts) mark.printed; pass = r.pass; assign = mark.passes; judged = e.1 })

pub record Celled (tokens : List Token) (x : (List Token × Token) × List Token) : Type 0 where
  pub printed : bare elsewhere tokens ≡ x.0.0 ++ x.0.1 ∷ bare before x.1
  pub pass : list_all is_cell x.0.0 ≡ true
  pub end : semicolon x.0.1 ≡ true

pub cells-sound : (tokens : List Token) (x : (List Token × Token) × List Token) → cells tokens ≡ Ok x → Celled tokens x
unfolding cells
cells-sound tokens x h =
    let r = ran is_cell tokens keeps_cell in
    let a = bind_ok _ _ _ h in
    let end = got elsewhere before semicolon (run is_cell tokens).1 a.value in_end a.first in
    let P : (List Token × Token) × List Token → Type 0 = λ z. Celled tokens z in
    subst P (ok_is _ x a.then) (record { printed = r.printed ∙ ap (λ ts. (run is_cell tokens).0 ++ ts) end.printed; pass = r.pass; end = end.passes })

pub table-sound : (keyword name : Token) (default : Option DefaultValue) (transposed : Option Transposed) (mark : Token) (tokens : List Token) (x : Statement × List Token)
    → is_word (codes "param") keyword ≡ true → is_name name ≡ true → IfSome default IsDefault → IfSome transposed IsTransposed → colon mark ≡ true
    → table keyword name default transposed mark tokens ≡ Ok x → Stated (keyword ∷ name ∷ put_default default (put_transposed transposed (mark ∷ bare elsewhere tokens))) x
unfolding table
table-sound keyword name default transposed mark tokens x key named defaults turns colons h =
    let a = bind_ok _ _ _ h in
    let head = heading-sound is_member tokens a.value keeps_member a.first in
    let b = bind_ok _ _ _ a.then in
    let body = cells-sound a.value.1 b.value b.first in
    let c = bind_ok _ _ _ b.then in
    let fine : and_then (heading_judged a.value.0.0 a.value.0.1) (check_rows a.value.0.0 b.value.0.0) ≡ Ok tt = rw head.judged c.first in
    let P : Statement × List Token → Type 0 = λ z. Stated (keyword ∷ name ∷ put_default default (put_transposed transposed (mark ∷ bare elsewhere tokens))) z in
    subst P (ok_is _ x c.then) (record {
      printed = rw (head.printed, body.printed) refl;
      are = record {
        heading = record { keyword = key; name = named; default = defaults; transposed = turns; colon = colons; columns = head.pass; assign = head.assign };
        cells = body.pass;
        end = body.end;
      };
      judged = fine;
    })

pub turned-sound : (keyword name : Token) (default : Option DefaultValue) (opening : Token) (tokens : List Token) (x : Statement × List Token)
    → is_word (codes "param") keyword ≡ true → is_name name ≡ true → IfSome default IsDefault → is_mark (codes "(") opening ≡ true
    → turned keyword name default opening tokens ≡ Ok x → Stated (keyword ∷ name ∷ put_default default (opening ∷ bare elsewhere tokens)) x
unfolding turned
turned-sound keyword name default opening tokens x key named defaults opens h =
    let a = bind_ok _ _ _ h in
    let word = got elsewhere elsewhere (is_word (codes "tr")) tokens a.value (in_word (codes "tr")) a.first in
    let b = bind_ok _ _ _ a.then in
    let closing = got elsewhere elsewhere (is_mark (codes ")")) a.value.1 b.value (in_mark (codes ")") refl) b.first in
    let c = bind_ok _ _ _ b.then in
    let mark = got elsewhere elsewhere colon b.value.1 c.value (in_mark (codes ":") refl) c.first in
    rw (word.printed, closing.printed, mark.printed)
    (table-sound keyword name default (Some (record { opening = opening; word = a.value.0; closing = b.value.0 })) c.value.0 c.value.1 x key named defaults
    (record { opening = opens; word = word.passes; closing = closing.passes }) mark.passes c.then)

pub record GivenRead (tokens : List Token) (x : Option Given × List Token) : Type 0 where
  pub printed : bare elsewhere tokens ≡ put_given x.0 (bare elsewhere x.1)
  pub are : IfSome x.0 IsGiven

given_of : (tokens : List Token) (next : Option (Token × List Token)) → met assign tokens ≡ next → GivenRead tokens (given_by tokens next)
given_of tokens None h = record { printed = refl; are = tt }
given_of tokens (Some x) h =
    let mark = got_met elsewhere elsewhere assign tokens x (in_mark (codes ":=") refl) h in
    let r = ran is_cell x.1 keeps_cell in
    record { printed = rw (mark.printed, r.printed) refl; are = record { assign = mark.passes; cells = r.pass } }

given-sound : (tokens : List Token) → GivenRead tokens (given tokens)
unfolding given
given-sound tokens = given_of tokens (met assign tokens) refl

pub list-sound : (keyword name : Token) (default : Option DefaultValue) (tokens : List Token) (x : Statement × List Token)
    → is_word (codes "param") keyword ≡ true → is_name name ≡ true → IfSome default IsDefault
    → list keyword name default tokens ≡ Ok x → Stated (keyword ∷ name ∷ put_default default (bare elsewhere tokens)) x
unfolding list
list-sound keyword name default tokens x key named defaults h =
    let g = given-sound tokens in
    let a = bind_ok _ _ _ h in
    let end = got elsewhere before semicolon (given tokens).1 a.value in_end a.first in
    let P : Statement × List Token → Type 0 = λ z. Stated (keyword ∷ name ∷ put_default default (bare elsewhere tokens)) z in
    subst P (ok_is _ x a.then) (record {
      printed = ap (λ ts. keyword ∷ name ∷ put_default default ts) (g.printed ∙ ap (λ ts. put_given (given tokens).0 ts) end.printed);
      are = record { keyword = key; name = named; default = defaults; given = g.are; end = end.passes };
      judged = refl;
    })
