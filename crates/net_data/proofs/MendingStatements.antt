-- Where a statement stops, the tokens before the stop begin one.
use Rattle.std.proofs.Common.{◌≡◌, Bool, true, List, [], ◌∷◌, ◌++◌, Option, Some, IfSome, Result, Ok, Err, refl, ap, sym, ◌∙◌, codes}
use Rattle.std.specs.List.{list_all}
use Rattle.net_lex.specs.declared.token.Token.{Token}
use Rattle.net_base.specs.declared.error_code.ErrorCode.TheVariants.{DataSyntax, TableWidth}
use Rattle.net_data.specs.declared.statement.DefaultValue.{DefaultValue}
use Rattle.net_data.specs.declared.statement.Transposed.{Transposed}
use Rattle.net_data.specs.declared.statement.Statement.{Statement}
use Rattle.net_data.specs.declared.statement.Statement.TheVariants as kinds
use Rattle.net_data.specs.declared.data_parser.ParseError.{ParseError}
use Rattle.net_data.specs.Commas.{TokenPlace, before, in_set, elsewhere, bare}
use Rattle.net_data.specs.Meaning.{AreItems, IsDefault, IsTransposed, IsStatement}
use Rattle.net_data.specs.Printing.{put, put_default, put_transposed}
use Rattle.net_data.specs.Reading.{stop, wanted, items, semicolon, colon, assign, set, headed, heading, cells, check_rows, table, turned, ◌>>=◌}
use Rattle.net_data.specs.Tests.{is_name, is_member, is_cell, is_word, is_mark}
use Rattle.net_data.proofs.Blames.{filled_err}
use Rattle.net_data.proofs.Lookahead.{err_is}
use Rattle.net_data.proofs.RunLemmas.{Keeps, keeps_member, keeps_cell}
use Rattle.net_data.proofs.RunsAhead.{ran}
use Rattle.net_data.proofs.StatementsAhead.{heads_of, read_cells}
use Rattle.net_data.proofs.Steps.{in_set_name, in_set_mark, in_set_end, in_word, in_mark, in_end}
use Rattle.net_data.proofs.Mending.{Written, Begun, Reads, same, token, then_reads, reported_reads, wanted_reads}
use Rattle.net_data.proofs.MendingRuns.{a_name, a_mark, a_word, passing, run_reads, item_list, items_reads}

abbrev pub statement_kind : Written Statement
statement_kind = record { put = put; fits = IsStatement }

-- the marks that are made up
abbrev pub stop_mark : Token
stop_mark = a_mark (codes ";")

abbrev pub gives_mark : Token
gives_mark = a_mark (codes ":=")

abbrev pub colon_mark : Token
colon_mark = a_mark (codes ":")

abbrev set_of : Token → Token → Token → List Token → Token → Statement
set_of keyword name mark xs end = kinds.Set (record { keyword = keyword; name = name; assign = mark; items = xs; end = end })

pub set_reads : (keyword : Token) (tokens : List Token) → is_word (codes "set") keyword ≡ true → Reads statement_kind in_set before (λ r. keyword ∷ r) tokens (set keyword tokens)
unfolding set
set_reads keyword tokens key =
    then_reads (token is_name) statement_kind in_set in_set before (λ r. keyword ∷ r) tokens (wanted is_name tokens) _ (wanted_reads in_set in_set is_name a_name tokens in_set_name refl refl)
    (λ x named. record {
      thing = set_of keyword x gives_mark [] stop_mark;
      fits = record { keyword = key; name = named; assign = refl; items = AreItems.nothing; end = refl };
      rest = gives_mark ∷ stop_mark ∷ [];
      text = λ r. refl;
    })
    (λ name r1 e1 named.
    then_reads (token assign) statement_kind in_set in_set before (λ r. keyword ∷ name ∷ r) r1 (wanted assign r1) _ (wanted_reads in_set in_set assign gives_mark r1 (in_set_mark (codes ":=") refl refl) refl refl)
    (λ x gives. record {
      thing = set_of keyword name x [] stop_mark;
      fits = record { keyword = key; name = named; assign = gives; items = AreItems.nothing; end = refl };
      rest = stop_mark ∷ [];
      text = λ r. refl;
    })
    (λ mark r2 e2 gives.
    then_reads item_list statement_kind in_set in_set before (λ r. keyword ∷ name ∷ mark ∷ r) r2 (items r2) _ (items_reads r2)
    (λ xs are. record {
      thing = set_of keyword name mark xs stop_mark;
      fits = record { keyword = key; name = named; assign = gives; items = are; end = refl };
      rest = stop_mark ∷ [];
      text = λ r. refl;
    })
    (λ xs r3 e3 are.
    then_reads (token semicolon) statement_kind in_set before before (λ r. keyword ∷ name ∷ mark ∷ (xs ++ r)) r3 (wanted semicolon r3) _ (wanted_reads in_set before semicolon stop_mark r3 in_set_end refl refl)
    (λ x ends. record {
      thing = set_of keyword name mark xs x;
      fits = record { keyword = key; name = named; assign = gives; items = are; end = ends };
      rest = [];
      text = λ r. refl;
    })
    (λ end r4 e4 ends.
    reported_reads statement_kind before (λ r. keyword ∷ name ∷ mark ∷ (xs ++ end ∷ r)) (set_of keyword name mark xs end) r4
    (record { keyword = key; name = named; assign = gives; items = are; end = ends }) (λ r. refl)))))

-- ---- headings and cells

abbrev pub heading_kind : (Token → Bool) → Written (List Token × Token)
heading_kind test = record { put = λ x r. x.0 ++ x.1 ∷ r; fits = λ x. (list_all test x.0 ≡ true) × (assign x.1 ≡ true) }

headed_reads : (test : Token → Bool) (xs : List Token) (mark : Token) (rest : List Token) → list_all test xs ≡ true → assign mark ≡ true → Reads (heading_kind test) elsewhere elsewhere (λ r. xs ++ mark ∷ r) rest (headed xs mark rest)
headed_reads test [] mark rest pass gives = record {
  crosses = λ x last h. absurd (let k = h in cc);
  mends = λ e h d. absurd (let k = ap (λ (s : ParseError). s.error_code) (err_is {A = (List Token × Token) × List Token} (stop TableWidth (Some mark.span)) e h) ∙ d in cc);
}
headed_reads test (c ∷ xs) mark rest pass gives = reported_reads (heading_kind test) elsewhere (λ r. c ∷ xs ++ mark ∷ r) (c ∷ xs, mark) rest (pass, gives) (λ r. refl)

pub heading_reads : (test : Token → Bool) (tokens : List Token) → Keeps test → Reads (heading_kind test) elsewhere elsewhere same tokens (heading test tokens)
unfolding heading
heading_reads test tokens keeps =
    then_reads (passing test) (heading_kind test) elsewhere elsewhere elsewhere same tokens (ran test tokens) heads_of (run_reads test tokens keeps)
    (λ xs pass. record { thing = (xs, gives_mark); fits = (pass, refl); rest = gives_mark ∷ []; text = λ r. refl })
    (λ xs r1 e1 pass.
    then_reads (token assign) (heading_kind test) elsewhere elsewhere elsewhere (λ r. xs ++ r) r1 (wanted assign r1) _ (wanted_reads elsewhere elsewhere assign gives_mark r1 (in_mark (codes ":=") refl) refl refl)
    (λ x gives. record { thing = (xs, x); fits = (pass, gives); rest = []; text = λ r. refl })
    (λ mark r2 e2 gives. headed_reads test xs mark r2 pass gives))

abbrev pub cells_kind : Written (List Token × Token)
cells_kind = record { put = λ x r. x.0 ++ x.1 ∷ r; fits = λ x. (list_all is_cell x.0 ≡ true) × (semicolon x.1 ≡ true) }

pub cells_reads : (tokens : List Token) → Reads cells_kind elsewhere before same tokens (cells tokens)
unfolding cells
cells_reads tokens =
    then_reads (passing is_cell) cells_kind elsewhere elsewhere before same tokens (ran is_cell tokens) read_cells (run_reads is_cell tokens keeps_cell)
    (λ xs pass. record { thing = (xs, stop_mark); fits = (pass, refl); rest = stop_mark ∷ []; text = λ r. refl })
    (λ xs r1 e1 pass.
    then_reads (token semicolon) cells_kind elsewhere before before (λ r. xs ++ r) r1 (wanted semicolon r1) _ (wanted_reads elsewhere before semicolon stop_mark r1 in_end refl refl)
    (λ x ends. record { thing = (xs, x); fits = (pass, ends); rest = []; text = λ r. refl })
    (λ end r2 e2 ends. reported_reads cells_kind before (λ r. xs ++ end ∷ r) (xs, end) r2 (pass, ends) (λ r. refl)))

-- what is judged and is no fault of the grammar
judged_reads : {U A : Type 0} (K : Written A) (q : TokenPlace) (w : List Token → List Token) (tokens : List Token) (judged : Result U ParseError) (x : A × List Token)
    → ((e : ParseError) → judged ≡ Err e → e.error_code ≡ DataSyntax → ⊥) → Reads K q q w tokens (Ok x) → Reads K q q w tokens (judged >>= (λ u. Ok x))
judged_reads K q w tokens (Ok u) x never r = r
judged_reads {U} {A} K q w tokens (Err t) x never r = record {
  crosses = λ y last h. absurd (let k = h in cc);
  mends = λ e h d. absurd (never e (ap (λ z. let j : Result U ParseError = Err z in j) (err_is {A = A × List Token} t e h)) d);
}

filled_never : (heads all : List Token) (e : ParseError) → check_rows heads all ≡ Err e → e.error_code ≡ DataSyntax → ⊥
filled_never heads all e h d = let k = (filled_err heads all e h).1 in absurd (cc)

abbrev table_of : Token → Token → Option DefaultValue → Option Transposed → Token → List Token → Token → List Token → Token → Statement
table_of keyword name value turned mark heads gives all end =
    kinds.Table (record { keyword = keyword; name = name; default = value; transposed = turned; colon = mark; columns = heads; assign = gives; cells = all; end = end })

pub table_reads : (keyword name : Token) (value : Option DefaultValue) (turned : Option Transposed) (mark : Token) (tokens : List Token)
    → is_word (codes "param") keyword ≡ true → is_name name ≡ true → IfSome value IsDefault → IfSome turned IsTransposed → colon mark ≡ true
    → Reads statement_kind elsewhere before (λ r. keyword ∷ name ∷ put_default value (put_transposed turned (mark ∷ r))) tokens (table keyword name value turned mark tokens)
unfolding table
table_reads keyword name value turned mark tokens key names defaults turns colons =
    then_reads (heading_kind is_member) statement_kind elsewhere elsewhere before (λ r. keyword ∷ name ∷ put_default value (put_transposed turned (mark ∷ r))) tokens (heading is_member tokens) _
    (heading_reads is_member tokens keeps_member)
    (λ x f. record {
      thing = table_of keyword name value turned mark x.0 x.1 [] stop_mark;
      fits = record { heading = record { keyword = key; name = names; default = defaults; transposed = turns; colon = colons; columns = f.0; assign = f.1 }; cells = refl; end = refl };
      rest = stop_mark ∷ [];
      text = λ r. refl;
    })
    (λ head r1 e1 f.
    then_reads cells_kind statement_kind elsewhere before before (λ r. keyword ∷ name ∷ put_default value (put_transposed turned (mark ∷ (head.0 ++ head.1 ∷ r)))) r1 (cells r1) _ (cells_reads r1)
    (λ x g. record {
      thing = table_of keyword name value turned mark head.0 head.1 x.0 x.1;
      fits = record { heading = record { keyword = key; name = names; default = defaults; transposed = turns; colon = colons; columns = f.0; assign = f.1 }; cells = g.0; end = g.1 };
      rest = [];
      text = λ r. refl;
    })
    (λ all r2 e2 g.
    judged_reads statement_kind before _ r2 (check_rows head.0 all.0) (table_of keyword name value turned mark head.0 head.1 all.0 all.1, r2) (filled_never head.0 all.0)
    (reported_reads statement_kind before _ (table_of keyword name value turned mark head.0 head.1 all.0 all.1) r2
    (record { heading = record { keyword = key; name = names; default = defaults; transposed = turns; colon = colons; columns = f.0; assign = f.1 }; cells = g.0; end = g.1 })
    (λ r. refl))))

-- a table that is made up, behind its colon
made_table : (keyword name : Token) (value : Option DefaultValue) (turned : Option Transposed) (mark : Token)
    → is_word (codes "param") keyword ≡ true → is_name name ≡ true → IfSome value IsDefault → IfSome turned IsTransposed → colon mark ≡ true
    → Begun statement_kind elsewhere before (λ r. keyword ∷ name ∷ put_default value (put_transposed turned (mark ∷ r))) []
made_table keyword name value turned mark key names defaults turns colons = record {
  thing = table_of keyword name value turned mark [] gives_mark [] stop_mark;
  fits = record { heading = record { keyword = key; name = names; default = defaults; transposed = turns; colon = colons; columns = refl; assign = refl }; cells = refl; end = refl };
  rest = gives_mark ∷ stop_mark ∷ [];
  text = λ r. refl;
}

-- a token in between
with_token : (K : Written Statement) (p q : TokenPlace) (w : List Token → List Token) (t : Token) → ((r : List Token) → bare p (t ∷ r) ≡ t ∷ bare p r) → Begun K p q (λ r. w (t ∷ r)) [] → Begun K p q w []
with_token K p q w t stays b = record { thing = b.thing; fits = b.fits; rest = t ∷ b.rest; text = λ r. b.text r ∙ ap w (sym (stays (b.rest ++ r))) }

pub turned_reads : (keyword name : Token) (value : Option DefaultValue) (opening : Token) (tokens : List Token)
    → is_word (codes "param") keyword ≡ true → is_name name ≡ true → IfSome value IsDefault → is_mark (codes "(") opening ≡ true
    → Reads statement_kind elsewhere before (λ r. keyword ∷ name ∷ put_default value (opening ∷ r)) tokens (turned keyword name value opening tokens)
unfolding turned
turned_reads keyword name value opening tokens key names defaults opens =
    then_reads (token (is_word (codes "tr"))) statement_kind elsewhere elsewhere before (λ r. keyword ∷ name ∷ put_default value (opening ∷ r)) tokens (wanted (is_word (codes "tr")) tokens) _
    (wanted_reads elsewhere elsewhere (is_word (codes "tr")) (a_word (codes "tr")) tokens (in_word (codes "tr")) refl refl)
    (λ x words.
    with_token statement_kind elsewhere before (λ r. keyword ∷ name ∷ put_default value (opening ∷ x ∷ r)) (a_mark (codes ")")) (λ r. refl)
    (with_token statement_kind elsewhere before (λ r. keyword ∷ name ∷ put_default value (opening ∷ x ∷ a_mark (codes ")") ∷ r)) colon_mark (λ r. refl)
    (made_table keyword name value (Some (record { opening = opening; word = x; closing = a_mark (codes ")") })) colon_mark key names defaults (record { opening = opens; word = words; closing = refl }) refl)))
    (λ word r1 e1 words.
    then_reads (token (is_mark (codes ")"))) statement_kind elsewhere elsewhere before (λ r. keyword ∷ name ∷ put_default value (opening ∷ word ∷ r)) r1 (wanted (is_mark (codes ")")) r1) _
    (wanted_reads elsewhere elsewhere (is_mark (codes ")")) (a_mark (codes ")")) r1 (in_mark (codes ")") refl) refl refl)
    (λ x closes.
    with_token statement_kind elsewhere before (λ r. keyword ∷ name ∷ put_default value (opening ∷ word ∷ x ∷ r)) colon_mark (λ r. refl)
    (made_table keyword name value (Some (record { opening = opening; word = word; closing = x })) colon_mark key names defaults (record { opening = opens; word = words; closing = closes }) refl))
    (λ closing r2 e2 closes.
    then_reads (token colon) statement_kind elsewhere elsewhere before (λ r. keyword ∷ name ∷ put_default value (opening ∷ word ∷ closing ∷ r)) r2 (wanted colon r2) _
    (wanted_reads elsewhere elsewhere colon colon_mark r2 (in_mark (codes ":") refl) refl refl)
    (λ x colons. made_table keyword name value (Some (record { opening = opening; word = word; closing = closing })) x key names defaults (record { opening = opens; word = words; closing = closes }) colons)
    (λ mark r3 e3 colons.
    table_reads keyword name value (Some (record { opening = opening; word = word; closing = closing })) mark r3 key names defaults (record { opening = opens; word = words; closing = closes }) colons)))
