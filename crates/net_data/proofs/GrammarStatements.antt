-- The statements of the grammar are those of `Mean` whose tables are complete.
use Rattle.std.proofs.Common.{◌≡◌, ℕ, ◌+◌, ◌<◌, ◌%◌, Bool, true, false, cond, List, [], ◌∷◌, ◌++◌, length, Option, Some, None, IfSome, Result, Ok, Err, refl, codes, arith}
use Rattle.std.proofs.lemmas.Bool.{eqb-true}
use Rattle.std.specs.List.{AllByRecursion, list_all}
use Rattle.std.specs.Str.{bytes_eq}
use Rattle.net_lex.specs.declared.token.Token.{Token}
use Rattle.net_base.specs.declared.error_code.ErrorCode.TheVariants.{RowWidth}
use Rattle.net_data.specs.declared.data_parser.ParseError.{ParseError}
use Rattle.net_data.specs.declared.statement.DefaultValue.{DefaultValue}
use Rattle.net_data.specs.declared.statement.Given.{Given}
use Rattle.net_data.specs.declared.statement.Transposed.{Transposed}
use Rattle.net_data.specs.declared.statement.NamedSet.{NamedSet}
use Rattle.net_data.specs.declared.statement.Statement.{Statement}
use Rattle.net_data.specs.declared.statement.Statement.TheVariants.{Set, List as Listed, Table, Columns}
use Rattle.net_data.specs.declared.statement.Single.{Single}
use Rattle.net_data.specs.Commas.{TokenPlace, before, elsewhere}
use Rattle.net_data.specs.Tests.{is_name, is_member, is_cell, is_word, is_mark}
use Rattle.net_data.specs.Printing.{put, put_default, put_given, put_transposed, put_set, put_all, put_single}
use Rattle.net_data.specs.Reading.{check_rows, fills, stop, last_span}
use Rattle.net_data.specs.Meaning.{IsDefault, IsGiven, IsTransposed, IsNamedSet, IsSingle, IsStatement, heading_judged, judged, all_judged, and_then}
use Rattle.net_data.specs.Grammar as grammar
use Rattle.net_data.proofs.Apart.{name-mark, member-mark, cell-mark, mark-mark, word-mark}
use Rattle.net_data.proofs.Places.{else_cell}
use Rattle.net_data.proofs.Steps.{Moves, to_set, to_else, in_set_name, in_set_mark, in_set_end, in_name, in_member, in_word, in_mark, in_end}
use Rattle.net_data.proofs.GrammarTerms.{Agrees, then, restated, only, nothing_agrees, tokens_agree, a_token, decides_name, decides_member, decides_cell, decides_word, decides_mark}
use Rattle.net_data.proofs.GrammarItems.{items_agree}

a_word : {here there : TokenPlace} (text : List ℕ) (t : Token) → Moves here there (is_word text) → Agrees (grammar.word text t) here there (λ ts. t ∷ ts) (is_word text t ≡ true)
a_word text t m = a_token t (decides_word text) m (word-mark (codes ",") text t)

a_mark : {here there : TokenPlace} (text : List ℕ) (t : Token) → bytes_eq (codes ",") text ≡ false → Moves here there (is_mark text) → Agrees (grammar.mark text t) here there (λ ts. t ∷ ts) (is_mark text t ≡ true)
a_mark text t other m = a_token t (decides_mark text) m (mark-mark text (codes ",") t other)

a_name : {here there : TokenPlace} (t : Token) → Moves here there is_name → Agrees (grammar.name t) here there (λ ts. t ∷ ts) (is_name t ≡ true)
a_name t m = a_token t decides_name m (name-mark (codes ",") t)

a_member : (t : Token) → Agrees (grammar.member t) elsewhere elsewhere (λ ts. t ∷ ts) (is_member t ≡ true)
a_member t = a_token t decides_member in_member (member-mark (codes ",") t)

in_cell : Moves elsewhere elsewhere is_cell
in_cell = record { skips = refl; moves = else_cell }

cells_agree : (ts : List Token) → Agrees (grammar.each grammar.cell ts) elsewhere elsewhere (λ us. ts ++ us) (list_all is_cell ts ≡ true)
cells_agree ts = tokens_agree ts decides_cell in_cell (cell-mark (codes ","))

members_agree : (ts : List Token) → Agrees (grammar.each grammar.member ts) elsewhere elsewhere (λ us. ts ++ us) (list_all is_member ts ≡ true)
members_agree ts = tokens_agree ts decides_member in_member (member-mark (codes ","))

names_agree : (ts : List Token) → Agrees (grammar.each grammar.name ts) elsewhere elsewhere (λ us. ts ++ us) (list_all is_name ts ≡ true)
names_agree ts = tokens_agree ts decides_name in_name (name-mark (codes ","))

colon_agrees : (t : Token) → Agrees (grammar.mark (codes ":") t) elsewhere elsewhere (λ ts. t ∷ ts) (is_mark (codes ":") t ≡ true)
colon_agrees t = a_mark (codes ":") t refl (in_mark (codes ":") refl)

assign_agrees : (t : Token) → Agrees (grammar.mark (codes ":=") t) elsewhere elsewhere (λ ts. t ∷ ts) (is_mark (codes ":=") t ≡ true)
assign_agrees t = a_mark (codes ":=") t refl (in_mark (codes ":=") refl)

end_agrees : (t : Token) → Agrees (grammar.mark (codes ";") t) elsewhere before (λ ts. t ∷ ts) (is_mark (codes ";") t ≡ true)
end_agrees t = a_mark (codes ";") t refl in_end

default_agrees : (d : Option DefaultValue) → Agrees (grammar.optional grammar.IsDefault d) elsewhere elsewhere (λ ts. put_default d ts) (IfSome d IsDefault)
default_agrees None = restated (nothing_agrees elsewhere) (λ x. tt) (λ x. tt)
default_agrees (Some d) = restated (then (a_word (codes "default") d.keyword (in_word (codes "default"))) (a_member d.value)) (λ (h, k). record { keyword = h; value = k }) (λ h. (h.keyword, h.value))

given_agrees : (g : Option Given) → Agrees (grammar.optional grammar.IsGiven g) elsewhere elsewhere (λ ts. put_given g ts) (IfSome g IsGiven)
given_agrees None = restated (nothing_agrees elsewhere) (λ x. tt) (λ x. tt)
given_agrees (Some g) = restated (then (assign_agrees g.assign) (cells_agree g.cells)) (λ (h, k). record { assign = h; cells = k }) (λ h. (h.assign, h.cells))

transposed_agrees : (t : Option Transposed) → Agrees (grammar.optional grammar.IsTransposed t) elsewhere elsewhere (λ ts. put_transposed t ts) (IfSome t IsTransposed)
transposed_agrees None = restated (nothing_agrees elsewhere) (λ x. tt) (λ x. tt)
transposed_agrees (Some t) =
    restated (then (a_mark (codes "(") t.opening refl (in_mark (codes "(") refl)) (then (a_word (codes "tr") t.word (in_word (codes "tr"))) (a_mark (codes ")") t.closing refl (in_mark (codes ")") refl))))
    (λ (h, (k, l)). record { opening = h; word = k; closing = l }) (λ h. (h.opening, (h.word, h.closing)))

named_agrees : (s : Option NamedSet) → Agrees (grammar.optional grammar.IsNamedSet s) elsewhere elsewhere (λ ts. put_set s ts) (IfSome s IsNamedSet)
named_agrees None = restated (nothing_agrees elsewhere) (λ x. tt) (λ x. tt)
named_agrees (Some s) = restated (then (a_name s.name in_name) (colon_agrees s.colon)) (λ (h, k). record { name = h; colon = k }) (λ h. (h.name, h.colon))

pub single_agrees : (text : List ℕ) (s : Option Single) → bytes_eq (codes "set") text ≡ false → Agrees (grammar.optional (grammar.IsSingle text) s) before before (λ ts. put_single s ts) (IfSome s (IsSingle text))
single_agrees text None apart = restated (nothing_agrees before) (λ x. tt) (λ x. tt)
single_agrees text (Some s) apart = restated (then (a_word text s.word (to_else text apart)) (end_agrees s.end)) (λ (h, k). record { word = h; end = k }) (λ h. (h.word, h.end))

-- a heading has columns
judged_wide : (columns : List Token) (t : Token) → 0 < length columns → heading_judged columns t ≡ Ok tt
judged_wide [] t h = absurd (omega arith)
judged_wide (c ∷ columns) t h = refl

wide_judged : (columns : List Token) (t : Token) → heading_judged columns t ≡ Ok tt → 0 < length columns
wide_judged [] t h = absurd (cc)
wide_judged (c ∷ columns) t h = omega arith

-- cells fill rows
filled_when : (columns cells : List Token) → length cells % (length columns + 1) ≡ 0 → check_rows columns cells ≡ Ok tt
unfolding check_rows
filled_when columns cells h = rw h refl

fills_of : (b : Bool) (e : ParseError) → (let r : Result (Unit {0}) ParseError = cond b (Ok tt) (Err e) in r ≡ Ok tt) → b ≡ true
fills_of true e h = refl
fills_of false e h = absurd (cc)

when_filled : (columns cells : List Token) → check_rows columns cells ≡ Ok tt → length cells % (length columns + 1) ≡ 0
unfolding check_rows
when_filled columns cells h = eqb-true _ _ (fills_of (fills columns cells) (stop RowWidth (last_span cells)) h)

pub both_ok : (x y : Result (Unit {0}) ParseError) → x ≡ Ok tt → y ≡ Ok tt → and_then x y ≡ Ok tt
both_ok x y h k = rw h k

pub ok_both : (x y : Result (Unit {0}) ParseError) → and_then x y ≡ Ok tt → (x ≡ Ok tt) × (y ≡ Ok tt)
ok_both (Ok u) y h = (refl, h)
ok_both (Err e) y h = absurd (cc)

-- a statement, with its table complete
abbrev pub IsComplete : Statement → Type 0
IsComplete s = IsStatement s × (judged s ≡ Ok tt)

statement_agrees : (s : Statement) → Agrees (grammar.IsStatement s) before before (λ ts. put s ts) (IsComplete s)
statement_agrees (Set s) =
    restated
    (then (a_word (codes "set") s.keyword to_set) (then (a_name s.name in_set_name) (then (a_mark (codes ":=") s.assign refl (in_set_mark (codes ":=") refl refl))
    (then (items_agree s.items) (a_mark (codes ";") s.end refl in_set_end)))))
    (λ (a, (b, (c, (d, e)))). (record { keyword = a; name = b; assign = c; items = d; end = e }, refl))
    (λ (h, full). (h.keyword, (h.name, (h.assign, (h.items, h.end)))))
statement_agrees (Listed l) =
    restated
    (then (a_word (codes "param") l.keyword (to_else (codes "param") refl)) (then (a_name l.name in_name) (then (default_agrees l.default) (then (given_agrees l.given) (end_agrees l.end)))))
    (λ (a, (b, (c, (d, e)))). (record { keyword = a; name = b; default = c; given = d; end = e }, refl))
    (λ (h, full). (h.keyword, (h.name, (h.default, (h.given, h.end)))))
statement_agrees (Table t) =
    restated
    (then (a_word (codes "param") t.keyword (to_else (codes "param") refl)) (then (a_name t.name in_name) (then (default_agrees t.default) (then (transposed_agrees t.transposed)
    (then (colon_agrees t.colon) (then (members_agree t.columns) (then (assign_agrees t.assign) (then (cells_agree t.cells) (then (end_agrees t.end)
    (then (only before (0 < length t.columns)) (only before (length t.cells % (length t.columns + 1) ≡ 0))))))))))))
    (λ (a, (b, (c, (d, (e, (f, (g, (h, (i, (wide, fills)))))))))). (
      record { heading = record { keyword = a; name = b; default = c; transposed = d; colon = e; columns = f; assign = g }; cells = h; end = i },
      both_ok _ _ (judged_wide t.columns t.assign wide) (filled_when t.columns t.cells fills),
    ))
    (λ (h, full).
    let (wide, fills) = ok_both (heading_judged t.columns t.assign) (check_rows t.columns t.cells) full in
    let g = h.heading in
    (g.keyword, (g.name, (g.default, (g.transposed, (g.colon, (g.columns, (g.assign, (h.cells, (h.end, (wide_judged t.columns t.assign wide, when_filled t.columns t.cells fills)))))))))))
statement_agrees (Columns c) =
    restated
    (then (a_word (codes "param") c.keyword (to_else (codes "param") refl)) (then (colon_agrees c.colon) (then (named_agrees c.set) (then (names_agree c.names)
    (then (assign_agrees c.assign) (then (cells_agree c.cells) (then (end_agrees c.end) (only before (0 < length c.names)))))))))
    (λ (a, (b, (s, (d, (e, (f, (g, wide))))))).
    (record { heading = record { keyword = a; colon = b; set = s; names = d; assign = e }; cells = f; end = g }, judged_wide c.names c.assign wide))
    (λ (h, full). let g = h.heading in (g.keyword, (g.colon, (g.set, (g.names, (g.assign, (h.cells, (h.end, wide_judged c.names c.assign full))))))))

pub statements_agree : (ss : List Statement) → Agrees (grammar.each grammar.IsStatement ss) before before (λ ts. put_all ss ts) (AllByRecursion IsStatement ss × (all_judged ss ≡ Ok tt))
statements_agree [] = restated (nothing_agrees before) (λ x. (tt, refl)) (λ x. tt)
statements_agree (s ∷ ss) =
    restated (then (statement_agrees s) (statements_agree ss)) (λ ((h, k), (hs, ks)). ((h, hs), both_ok _ _ k ks))
    (λ ((h, hs), full). let (k, ks) = ok_both (judged s) (all_judged ss) full in ((h, k), (hs, ks)))
