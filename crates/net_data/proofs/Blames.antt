-- What stops the reading is a token that is not allowed, or a table that has the fault.
use Rattle.std.proofs.Common.{◌≡◌, ℕ, zero, suc, ◌+◌, ◌%◌, Bool, true, false, List, [], ◌∷◌, ◌++◌, length, Option, Some, None, IfSome, Result, Ok, Err, refl, ap, sym, ◌∙◌, subst, codes, ◌⊎◌, inl, inr, cond}
use Rattle.std.proofs.Math.Nat.{zero-mod}
use Rattle.std.specs.List.{AllByRecursion}
use Rattle.net_base.specs.declared.diagnostic.Span.{Span}
use Rattle.net_lex.specs.declared.token.Token.{Token}
use Rattle.net_base.specs.declared.error_code.ErrorCode.TheVariants.{DataSyntax, RowWidth, TableWidth}
use Rattle.net_data.specs.declared.members.Spot.{Spot}
use Rattle.net_data.specs.declared.data_parser.ParseError.{ParseError}
use Rattle.net_data.specs.declared.statement.DefaultValue.{DefaultValue}
use Rattle.net_data.specs.declared.statement.Transposed.{Transposed}
use Rattle.net_data.specs.declared.statement.TableStatement.{TableStatement}
use Rattle.net_data.specs.declared.statement.ColumnsStatement.{ColumnsStatement}
use Rattle.net_data.specs.declared.statement.Statement.{Statement}
use Rattle.net_data.specs.declared.statement.Statement.TheVariants as kinds
use Rattle.net_data.specs.Tests.{is_name, is_member, is_cell, is_word, is_mark}
use Rattle.net_data.specs.Commas.{before, elsewhere, bare}
use Rattle.net_data.specs.Spots.{spot_after, rests, outside}
use Rattle.net_data.specs.Printing.{put, put_default, put_transposed, put_all, put_single}
use Rattle.net_data.specs.Meaning.{IsDefault, IsTransposed, IsStatement, all_judged}
use Rattle.net_data.specs.Rejections.{IsFaulty, HasFault}
use Rattle.net_data.specs.Reading.{Read, stop, wanted, wanted_by, rejected, run, heading, headed, cells, check_rows, fills, last_span, last_span_or, items, items_from, with_token, items_after, spot_or, set, table, turned, given, list, body, body_by, default, default_by, named, named_set, columns, param, param_by, statement, statement_by, some_statement, statements, statements_by, with_statement, single, single_by, finished, finished_by, tables, met, front, semicolon, colon, assign, ◌>>=◌}
use Rattle.net_data.proofs.RunLemmas.{Keeps, keeps_member, keeps_name, ran}
use Rattle.net_data.proofs.Steps.{in_name, in_word, in_mark, to_else, got, got_met}
use Rattle.net_data.proofs.TableSound.{heading-sound, cells-sound}
use Rattle.net_data.proofs.ParamSound.{default-sound, named_set-sound, statement-sound}
use Rattle.net_data.proofs.TablesMean.{single-sound}

-- a stop at a token that is not allowed, or for a fault of the table with which the tokens begin
abbrev pub Blamed : List Token → ParseError → Type 0
Blamed tokens e = (e.error_code ≡ DataSyntax) ⊎ ((span : Span) × (e.at ≡ Some span) × IsFaulty tokens span e.error_code)

bind_err : {A B : Type 0} (read : Result A ParseError) (f : A → Result B ParseError) (e : ParseError) → (read >>= f) ≡ Err e → (read ≡ Err e) ⊎ ((x : A) × (read ≡ Ok x) × (f x ≡ Err e))
bind_err (Ok x) f e h = inr (x, refl, h)
bind_err (Err d) f e h = let same : d ≡ e = cc in inl (rw same refl)

err_is : {A : Type 0} (d e : ParseError) → (let r : Result A ParseError = Err d in r ≡ Err e) → d ≡ e
err_is d e h = cc

wanted_of : (tokens : List Token) (next : Option (Token × List Token)) (e : ParseError) → wanted_by tokens next ≡ Err e → e.error_code ≡ DataSyntax
unfolding rejected
wanted_of tokens None e h = let same = err_is _ e h in sym (ap (λ (s : ParseError). s.error_code) same)
wanted_of tokens (Some x) e h = absurd (cc)

wanted_err : (test : Token → Bool) (tokens : List Token) (e : ParseError) → wanted test tokens ≡ Err e → e.error_code ≡ DataSyntax
unfolding wanted
wanted_err test tokens e h = wanted_of tokens (met test tokens) e h

rested_err : (x : List Token × List Token) (at : Option Span) (e : ParseError) (b : Bool) → (let r : Read (List Token) = cond b (Ok x) (Err (stop DataSyntax at)) in r ≡ Err e) → e.error_code ≡ DataSyntax
rested_err x at e true h = absurd (cc)
rested_err x at e false h = let same = err_is _ e h in sym (ap (λ (s : ParseError). s.error_code) same)

with_err : (token : Token) (read : Read (List Token)) (e : ParseError) → with_token token read ≡ Err e → read ≡ Err e
with_err token (Ok x) e h = absurd (cc)
with_err token (Err d) e h = let same = err_is d e h in rw same refl

items_on : (token : Token) (tokens : List Token) (o : Option Spot) (spot : Spot) (e : ParseError) → items_after token tokens o spot (items_from (spot_or spot o) tokens) ≡ Err e
    → ((s : Spot) → items_from s tokens ≡ Err e → e.error_code ≡ DataSyntax) → e.error_code ≡ DataSyntax
items_on token tokens (Some next) spot e h behind = behind next (with_err token (items_from next tokens) e h)
items_on token tokens None spot e h behind = rested_err ([], token ∷ tokens) (Some token.span) e (rests spot) h

items_from_err : (tokens : List Token) (spot : Spot) (e : ParseError) → items_from spot tokens ≡ Err e → e.error_code ≡ DataSyntax
unfolding items_from
items_from_err [] spot e h = rested_err ([], []) None e (rests spot) h
items_from_err (token ∷ tokens) spot e h = items_on token tokens (spot_after spot token) spot e h (λ s k. items_from_err tokens s e k)

items_err : (tokens : List Token) (e : ParseError) → items tokens ≡ Err e → e.error_code ≡ DataSyntax
unfolding items
items_err tokens e h = elim (bind_err (items_from outside tokens) _ e h) [ inl k ↦ items_from_err tokens outside e k | inr x ↦ absurd (let k = x.2 in cc) ]

set_err : (keyword : Token) (tokens : List Token) (e : ParseError) → set keyword tokens ≡ Err e → e.error_code ≡ DataSyntax
unfolding set
set_err keyword tokens e h = elim (bind_err _ _ e h) [
  | inl k ↦ wanted_err is_name tokens e k
  | inr a ↦
      elim (bind_err _ _ e a.2) [
        | inl k ↦ wanted_err assign a.0.1 e k
        | inr b ↦
            elim (bind_err _ _ e b.2) [
              | inl k ↦ items_err b.0.1 e k
              | inr c ↦
                  elim (bind_err _ _ e c.2) [ inl k ↦ wanted_err semicolon c.0.1 e k | inr d ↦ absurd (let k = d.2 in cc) ]
            ]
      ]
]

-- a heading without a column
record NoColumn (tokens : List Token) (e : ParseError) : Type 0 where
  mark : Token
  rest : List Token
  printed : bare elsewhere tokens ≡ mark ∷ bare elsewhere rest
  marked : assign mark ≡ true
  blamed : e ≡ stop TableWidth (Some mark.span)

headed_err : (columns : List Token) (mark : Token) (tokens : List Token) (e : ParseError) → headed columns mark tokens ≡ Err e → (columns ≡ []) × (e ≡ stop TableWidth (Some mark.span))
headed_err [] mark tokens e h = (refl, sym (err_is _ e h))
headed_err (c ∷ columns) mark tokens e h = absurd (cc)

heading_err : (test : Token → Bool) (tokens : List Token) (e : ParseError) → Keeps test → heading test tokens ≡ Err e → (e.error_code ≡ DataSyntax) ⊎ NoColumn tokens e
unfolding heading
heading_err test tokens e keeps h = elim (bind_err _ _ e h) [
  | inl k ↦ inl (wanted_err assign (run test tokens).1 e k)
  | inr a ↦
      let r = ran test tokens keeps in
      let mark = got elsewhere elsewhere assign (run test tokens).1 a.0 (in_mark (codes ":=") refl) a.1 in
      let none = headed_err (run test tokens).0 a.0.0 a.0.1 e a.2 in
      let printed : bare elsewhere tokens ≡ a.0.0 ∷ bare elsewhere a.0.1 = r.printed ∙ ap (λ xs. xs ++ bare elsewhere (run test tokens).1) none.0 ∙ mark.printed in
      inr (record { mark = a.0.0; rest = a.0.1; printed = printed; marked = mark.passes; blamed = none.1 })
]

cells_err : (tokens : List Token) (e : ParseError) → cells tokens ≡ Err e → e.error_code ≡ DataSyntax
unfolding cells
cells_err tokens e h = elim (bind_err _ _ e h) [ inl k ↦ wanted_err semicolon (run is_cell tokens).1 e k | inr a ↦ absurd (let k = a.2 in cc) ]

filled_of : (columns xs : List Token) (e : ParseError) (b : Bool) → (let r : Result (Unit {0}) ParseError = cond b (Ok tt) (Err (stop RowWidth (last_span xs))) in r ≡ Err e) → (b ≡ false) × (e ≡ stop RowWidth (last_span xs))
filled_of columns xs e true h = absurd (cc)
filled_of columns xs e false h = (refl, sym (err_is _ e h))

pub filled_err : (columns xs : List Token) (e : ParseError) → check_rows columns xs ≡ Err e → (fills columns xs ≡ false) × (e ≡ stop RowWidth (last_span xs))
unfolding check_rows
filled_err columns xs e h = filled_of columns xs e (fills columns xs) h

last_some : (some_statement : Span) (xs : List Token) → (span : Span) × (last_span_or (Some some_statement) xs ≡ Some span)
last_some some_statement [] = (some_statement, refl)
last_some some_statement (x ∷ xs) = last_some x.span xs

-- no cells fill their rows
last_cell : (columns xs : List Token) → fills columns xs ≡ false → (span : Span) × (last_span xs ≡ Some span)
last_cell columns [] h = let none : 0 % (length columns + 1) ≡ 0 = zero-mod (length columns + 1) in let full : fills columns [] ≡ true = rw none refl in absurd (cc)
last_cell columns (x ∷ xs) h = last_some x.span xs

table_err : (keyword name : Token) (default : Option DefaultValue) (transposed : Option Transposed) (mark : Token) (tokens : List Token) (e : ParseError)
    → is_word (codes "param") keyword ≡ true → is_name name ≡ true → IfSome default IsDefault → IfSome transposed IsTransposed → colon mark ≡ true
    → table keyword name default transposed mark tokens ≡ Err e → Blamed (keyword ∷ name ∷ put_default default (put_transposed transposed (mark ∷ bare elsewhere tokens))) e
unfolding table
table_err keyword name default transposed mark tokens e key named defaults turns colons h =
    let all = keyword ∷ name ∷ put_default default (put_transposed transposed (mark ∷ bare elsewhere tokens)) in
    elim (bind_err _ _ e h) [
      | inl k ↦ elim (heading_err is_member tokens e keeps_member k) [
        | inl s ↦ inl s
        | inr n ↦
            let t : TableStatement = record { keyword = keyword; name = name; default = default; transposed = transposed; colon = mark; columns = []; assign = n.mark; cells = []; end = mark } in
            let P : ParseError → Type 0 = λ z. Blamed all z in
            subst P (sym n.blamed) (inr (
              n.mark.span,
              refl,
              IsFaulty.no_column t (bare elsewhere n.rest) (rw (n.printed) refl)
                  (record { keyword = key; name = named; default = defaults; transposed = turns; colon = colons; columns = refl; assign = n.marked }) refl refl,
            ))
      ]
      | inr a ↦ elim (bind_err _ _ e a.2) [
        | inl k ↦ inl (cells_err a.0.1 e k)
        | inr b ↦ elim (bind_err _ _ e b.2) [
          | inl k ↦
              let head = heading-sound is_member tokens a.0 keeps_member a.1 in
              let body = cells-sound a.0.1 b.0 b.1 in
              let short = filled_err a.0.0.0 b.0.0.0 e k in
              let last = last_cell a.0.0.0 b.0.0.0 short.0 in
              let t : TableStatement = record { keyword = keyword; name = name; default = default; transposed = transposed; colon = mark; columns = a.0.0.0; assign = a.0.0.1; cells = b.0.0.0; end = b.0.0.1 } in
              let printed : all ≡ put (kinds.Table t) (bare before b.0.1) = rw (head.printed, body.printed) refl in
              let P : ParseError → Type 0 = λ z. Blamed all z in
              subst P (sym short.1) (inr (
                last.0,
                last.1,
                IsFaulty.short_row t (bare before b.0.1) printed
                    (record { heading = record { keyword = key; name = named; default = defaults; transposed = turns; colon = colons; columns = head.pass; assign = head.assign }; cells = body.pass; end = body.end }) head.judged short.0 last.1,
              ))
          | inr c ↦ absurd (let k = c.2 in cc)
        ]
      ]
    ]

turned_err : (keyword name : Token) (default : Option DefaultValue) (opening : Token) (tokens : List Token) (e : ParseError)
    → is_word (codes "param") keyword ≡ true → is_name name ≡ true → IfSome default IsDefault → is_mark (codes "(") opening ≡ true
    → turned keyword name default opening tokens ≡ Err e → Blamed (keyword ∷ name ∷ put_default default (opening ∷ bare elsewhere tokens)) e
unfolding turned
turned_err keyword name default opening tokens e key named defaults opens h =
    elim (bind_err _ _ e h) [
      | inl k ↦ inl (wanted_err (is_word (codes "tr")) tokens e k)
      | inr a ↦
          elim (bind_err _ _ e a.2) [
            | inl k ↦ inl (wanted_err (is_mark (codes ")")) a.0.1 e k)
            | inr b ↦
                elim (bind_err _ _ e b.2) [
                  | inl k ↦ inl (wanted_err colon b.0.1 e k)
                  | inr c ↦
                      let word = got elsewhere elsewhere (is_word (codes "tr")) tokens a.0 (in_word (codes "tr")) a.1 in
                      let closing = got elsewhere elsewhere (is_mark (codes ")")) a.0.1 b.0 (in_mark (codes ")") refl) b.1 in
                      let mark = got elsewhere elsewhere colon b.0.1 c.0 (in_mark (codes ":") refl) c.1 in
                      rw (word.printed, closing.printed, mark.printed)
                      (table_err keyword name default (Some (record { opening = opening; word = a.0.0; closing = b.0.0 })) c.0.0 c.0.1 e key named defaults
                      (record { opening = opens; word = word.passes; closing = closing.passes }) mark.passes c.2)
                ]
          ]
    ]

list_err : (keyword name : Token) (default : Option DefaultValue) (tokens : List Token) (e : ParseError) → list keyword name default tokens ≡ Err e → e.error_code ≡ DataSyntax
unfolding list
list_err keyword name default tokens e h = elim (bind_err _ _ e h) [ inl k ↦ wanted_err semicolon (given tokens).1 e k | inr a ↦ absurd (let k = a.2 in cc) ]

body_of : (keyword name : Token) (default : Option DefaultValue) (tokens : List Token) (opening mark : Option (Token × List Token)) (e : ParseError)
    → is_word (codes "param") keyword ≡ true → is_name name ≡ true → IfSome default IsDefault → met (is_mark (codes "(")) tokens ≡ opening → met colon tokens ≡ mark
    → body_by keyword name default tokens opening mark ≡ Err e → Blamed (keyword ∷ name ∷ put_default default (bare elsewhere tokens)) e
body_of keyword name default tokens (Some o) mark e key named defaults is colons h =
    let opens = got_met elsewhere elsewhere (is_mark (codes "(")) tokens o (in_mark (codes "(") refl) is in
    rw opens.printed (turned_err keyword name default o.0 o.1 e key named defaults opens.passes h)
body_of keyword name default tokens None (Some c) e key named defaults is colons h =
    let mark = got_met elsewhere elsewhere colon tokens c (in_mark (codes ":") refl) colons in
    rw mark.printed (table_err keyword name default None c.0 c.1 e key named defaults tt mark.passes h)
body_of keyword name default tokens None None e key named defaults is colons h = inl (list_err keyword name default tokens e h)

body_err : (keyword name : Token) (default : Option DefaultValue) (tokens : List Token) (e : ParseError) → is_word (codes "param") keyword ≡ true → is_name name ≡ true → IfSome default IsDefault
    → body keyword name default tokens ≡ Err e → Blamed (keyword ∷ name ∷ put_default default (bare elsewhere tokens)) e
unfolding body
body_err keyword name default tokens e key named defaults h = body_of keyword name default tokens (met (is_mark (codes "(")) tokens) (met colon tokens) e key named defaults refl refl h

default_of : (tokens : List Token) (next : Option (Token × List Token)) (e : ParseError) → default_by tokens next ≡ Err e → e.error_code ≡ DataSyntax
default_of tokens None e h = absurd (cc)
default_of tokens (Some word) e h = elim (bind_err _ _ e h) [ inl k ↦ wanted_err is_member word.1 e k | inr a ↦ absurd (let k = a.2 in cc) ]

default_err : (tokens : List Token) (e : ParseError) → default tokens ≡ Err e → e.error_code ≡ DataSyntax
unfolding default
default_err tokens e h = default_of tokens (met (is_word (codes "default")) tokens) e h

named_err : (keyword : Token) (tokens : List Token) (e : ParseError) → is_word (codes "param") keyword ≡ true → named keyword tokens ≡ Err e → Blamed (keyword ∷ bare elsewhere tokens) e
unfolding named
named_err keyword tokens e key h =
    elim (bind_err _ _ e h) [
      | inl k ↦ inl (wanted_err is_name tokens e k)
      | inr a ↦
          elim (bind_err _ _ e a.2) [
            | inl k ↦ inl (default_err a.0.1 e k)
            | inr b ↦
                let name = got elsewhere elsewhere is_name tokens a.0 in_name a.1 in
                let d = default-sound a.0.1 b.0 b.1 in
                rw (name.printed, d.printed) (body_err keyword a.0.0 b.0.0 b.0.1 e key name.passes d.are b.2)
          ]
    ]

columns_err : (keyword mark : Token) (tokens : List Token) (e : ParseError) → is_word (codes "param") keyword ≡ true → colon mark ≡ true → columns keyword mark tokens ≡ Err e → Blamed (keyword ∷ mark ∷ bare elsewhere tokens) e
unfolding columns
columns_err keyword mark tokens e key colons h =
    let s = named_set-sound tokens in
    elim (bind_err _ _ e h) [
      | inl k ↦ elim (heading_err is_name (named_set tokens).1 e keeps_name k) [
        | inl i ↦ inl i
        | inr n ↦
            let c : ColumnsStatement = record { keyword = keyword; colon = mark; set = (named_set tokens).0; names = []; assign = n.mark; cells = []; end = mark } in
            let P : ParseError → Type 0 = λ z. Blamed (keyword ∷ mark ∷ bare elsewhere tokens) z in
            subst P (sym n.blamed) (inr (
              n.mark.span,
              refl,
              IsFaulty.no_name c (bare elsewhere n.rest) (rw (s.printed, n.printed) refl)
                  (record { keyword = key; colon = colons; set = s.are; names = refl; assign = n.marked }) refl refl,
            ))
      ]
      | inr a ↦ elim (bind_err _ _ e a.2) [ inl k ↦ inl (cells_err a.0.1 e k) | inr b ↦ absurd (let k = b.2 in cc) ]
    ]

param_of : (keyword : Token) (tokens : List Token) (next : Option (Token × List Token)) (e : ParseError) → is_word (codes "param") keyword ≡ true → met colon tokens ≡ next → param_by keyword tokens next ≡ Err e
    → Blamed (keyword ∷ bare elsewhere tokens) e
param_of keyword tokens (Some mark) e key is h =
    let m = got_met elsewhere elsewhere colon tokens mark (in_mark (codes ":") refl) is in rw m.printed (columns_err keyword mark.0 mark.1 e key m.passes h)
param_of keyword tokens None e key is h = named_err keyword tokens e key h

param_err : (keyword : Token) (tokens : List Token) (e : ParseError) → is_word (codes "param") keyword ≡ true → param keyword tokens ≡ Err e → Blamed (keyword ∷ bare elsewhere tokens) e
unfolding param
param_err keyword tokens e key h = param_of keyword tokens (met colon tokens) e key refl h

found_err : (read : Read Statement) (e : ParseError) → some_statement read ≡ Err e → read ≡ Err e
found_err (Ok x) e h = absurd (cc)
found_err (Err d) e h = let same = err_is d e h in rw same refl

statement_of : (tokens : List Token) (set_word param_word : Option (Token × List Token)) (e : ParseError) → met (is_word (codes "set")) tokens ≡ set_word → met (is_word (codes "param")) tokens ≡ param_word
    → statement_by set_word param_word ≡ Err e → Blamed (bare before tokens) e
statement_of tokens (Some s) param_word e is other h = inl (set_err s.0 s.1 e (found_err _ e h))
statement_of tokens None (Some p) e is other h =
    let key = got_met before elsewhere (is_word (codes "param")) tokens p (to_else (codes "param") refl) other in rw key.printed (param_err p.0 p.1 e key.passes (found_err _ e h))
statement_of tokens None None e is other h = absurd (cc)

statement_err : (tokens : List Token) (e : ParseError) → statement tokens ≡ Err e → Blamed (bare before tokens) e
unfolding statement
statement_err tokens e h = statement_of tokens (met (is_word (codes "set")) tokens) (met (is_word (codes "param")) tokens) e refl refl h

-- a table that has the fault, behind statements that have none
record After (tokens : List Token) (e : ParseError) (span : Span) : Type 0 where
  statements : List Statement
  rest : List Token
  printed : bare before tokens ≡ put_all statements rest
  are : AllByRecursion IsStatement statements
  judged : all_judged statements ≡ Ok tt
  faulty : IsFaulty rest span e.error_code

with_err_all : (x : Statement) (read : Read (List Statement)) (e : ParseError) → with_statement x read ≡ Err e → read ≡ Err e
with_err_all x (Ok y) e h = absurd (cc)
with_err_all x (Err d) e h = let same = err_is d e h in rw same refl

statements_of : (n : ℕ) (tokens : List Token) (read : Result (Option (Statement × List Token)) ParseError) (e : ParseError) → statement tokens ≡ read → statements_by (statements n) tokens read ≡ Err e
    → ((rest : List Token) → statements n rest ≡ Err e → (e.error_code ≡ DataSyntax) ⊎ ((span : Span) × (e.at ≡ Some span) × After rest e span)) → (e.error_code ≡ DataSyntax) ⊎ ((span : Span) × (e.at ≡ Some span) × After tokens e span)
statements_of n tokens (Ok (Some x)) e is h more =
    let s = statement-sound tokens x is in
    elim (more x.1 (with_err_all x.0 (statements n x.1) e h)) [
      | inl k ↦ inl k
      | inr b ↦ inr (
        b.0,
        b.1,
        record {
          statements = x.0 ∷ b.2.statements;
          rest = b.2.rest;
          printed = s.printed ∙ ap (λ ts. put x.0 ts) b.2.printed;
          are = (s.are, b.2.are);
          judged = rw s.judged b.2.judged;
          faulty = b.2.faulty;
        },
      )
    ]
statements_of n tokens (Ok None) e is h more = absurd (cc)
statements_of n tokens (Err d) e is h more =
    let same = err_is d e h in
    elim (statement_err tokens e (rw is (rw same refl))) [ inl k ↦ inl k | inr b ↦ inr (b.0, b.1, record { statements = []; rest = bare before tokens; printed = refl; are = tt; judged = refl; faulty = b.2 }) ]

statements_err : (n : ℕ) (tokens : List Token) (e : ParseError) → statements n tokens ≡ Err e → (e.error_code ≡ DataSyntax) ⊎ ((span : Span) × (e.at ≡ Some span) × After tokens e span)
unfolding statements
statements_err zero tokens e h = absurd (cc)
statements_err (suc n) tokens e h = statements_of n tokens (statement tokens) e refl h (λ rest k. statements_err n rest e k)

single_of : (tokens : List Token) (next : Option (Token × List Token)) (e : ParseError) → single_by tokens next ≡ Err e → e.error_code ≡ DataSyntax
single_of tokens None e h = absurd (cc)
single_of tokens (Some word) e h = elim (bind_err _ _ e h) [ inl k ↦ wanted_err semicolon word.1 e k | inr a ↦ absurd (let k = a.2 in cc) ]

single_err : (word : List ℕ) (tokens : List Token) (e : ParseError) → single word tokens ≡ Err e → e.error_code ≡ DataSyntax
unfolding single
single_err word tokens e h = single_of tokens (met (is_word word) tokens) e h

finished_of : (next : Option (Token × List Token)) (e : ParseError) → finished_by next ≡ Err e → e.error_code ≡ DataSyntax
finished_of None e h = absurd (cc)
finished_of (Some x) e h = let same = err_is _ e h in sym (ap (λ (s : ParseError). s.error_code) same)

finished_err : (tokens : List Token) (e : ParseError) → finished tokens ≡ Err e → e.error_code ≡ DataSyntax
unfolding finished
finished_err tokens e h = finished_of (front tokens) e h

pub tables_err : (tokens : List Token) (e : ParseError) → tables tokens ≡ Err e → (e.error_code ≡ DataSyntax) ⊎ ((span : Span) × (e.at ≡ Some span) × HasFault tokens e.error_code span)
unfolding tables
tables_err tokens e h =
    elim (bind_err _ _ e h) [
      | inl k ↦ inl (single_err (codes "data") tokens e k)
      | inr a ↦
          elim (bind_err _ _ e a.2) [
            | inl k ↦
                let opening = single-sound (codes "data") tokens a.0 refl a.1 in
                elim (statements_err (suc (length a.0.1)) a.0.1 e k) [
                  | inl s ↦ inl s
                  | inr b ↦ inr (
                    b.0,
                    b.1,
                    record {
                      opening = a.0.0;
                      statements = b.2.statements;
                      rest = b.2.rest;
                      printed = opening.printed ∙ ap (λ ts. put_single a.0.0 ts) b.2.printed;
                      opens = opening.are;
                      are = b.2.are;
                      judged = b.2.judged;
                      faulty = b.2.faulty;
                    },
                  )
                ]
            | inr b ↦
                elim (bind_err _ _ e b.2) [
                  | inl k ↦ inl (single_err (codes "end") b.0.1 e k)
                  | inr c ↦
                      elim (bind_err _ _ e c.2) [ inl k ↦ inl (finished_err c.0.1 e k) | inr d ↦ absurd (let k = d.2 in cc) ]
                ]
          ]
    ]
