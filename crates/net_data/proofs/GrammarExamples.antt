-- Worked examples of the grammar.
use Rattle.std.proofs.Common.{◌≡◌, ℕ, List, [], ◌∷◌, Some, None, Result, Ok, Err, refl, ap, ◌∙◌, codes, inl, inr, arith}
use Rattle.net_lex.specs.declared.token.Kind.TheVariants.{Num, Mark, Dot}
use Rattle.net_lex.specs.declared.token.Token.{Token}
use Rattle.net_lex.specs.Productions.{token, literal}
use Rattle.net_data.specs.declared.data_parser.ParseError.{ParseError}
use Rattle.net_data.specs.declared.statement.Statement.TheVariants as kinds
use Rattle.net_data.specs.declared.statement.Tables.{Tables}
use Rattle.net_data.specs.Grammar as grammar
use Rattle.net_data.specs.Grammar.{many}
use Rattle.net_data.specs.Reading.{tables, met, wanted, run, items, items_from, set, heading, cells, check_rows, table, body, default, named, param, statement, statements, single, ◌>>=◌}
use Rattle.net_data.specs.Reading as reading
use Rattle.net_data.proofs.Examples.{at, name, mark}
use Rattle.net_data.proofs.TablesMean.{tables-complete}
use Rattle.net_data.proofs.GrammarAgrees.{sound}

-- tokens that derive as themselves
a_word : (n : ℕ) (text : List ℕ) {rest : List Token} → grammar.word text (name n text) (name n text ∷ rest) rest
a_word n text = ((name n text, (refl, refl), refl), many.none)

a_mark : (n : ℕ) (text : List ℕ) {rest : List Token} → grammar.mark text (mark n text) (mark n text ∷ rest) rest
a_mark n text = ((mark n text, (refl, refl), refl), many.none)

a_name : (n : ℕ) (text : List ℕ) {rest : List Token} → grammar.name (name n text) (name n text ∷ rest) rest
a_name n text = ((name n text, refl, refl), many.none)

a_member : (n : ℕ) (text : List ℕ) {rest : List Token} → grammar.member (name n text) (name n text ∷ rest) rest
a_member n text = ((name n text, inl refl, refl), many.none)

a_cell : (n : ℕ) (text : List ℕ) {rest : List Token} → grammar.cell (name n text) (name n text ∷ rest) rest
a_cell n text = ((name n text, inl (inl refl), refl), many.none)

a_number : (n : ℕ) (text : List ℕ) {rest : List Token} → grammar.cell (at n Num text) (at n Num text ∷ rest) rest
a_number n text = ((at n Num text, inl (inr (inl refl)), refl), many.none)

a_dot : (n : ℕ) {rest : List Token} → grammar.cell (at n Dot (codes ".")) (at n Dot (codes ".") ∷ rest) rest
a_dot n = ((at n Dot (codes "."), inr refl, refl), many.none)

-- tokens of a tuple
opening : (n : ℕ) {rest : List Token} → literal Mark (codes "(") (mark n (codes "(") ∷ rest) rest
opening n = (mark n (codes "("), (refl, refl), refl)

inside : (n : ℕ) (text : List ℕ) {rest : List Token} → token grammar.IsMember (name n text ∷ rest) rest
inside n text = (name n text, inl refl, refl)

comma : (n : ℕ) {rest : List Token} → grammar.comma (mark n (codes ",") ∷ rest) rest
comma n = (mark n (codes ","), (refl, refl), refl)

closing : (n : ℕ) {rest : List Token} → literal Mark (codes ")") (mark n (codes ")") ∷ rest) rest
closing n = (mark n (codes ")"), (refl, refl), refl)

-- a comma before other tokens
skip : (n : ℕ) {rest left : List Token} → many grammar.comma rest left → many grammar.comma (mark n (codes ",") ∷ rest) left
skip n commas = many.more (mark n (codes ","), (refl, refl), refl) commas

-- set , S := a , ( b , c ) ;
set_of_tuples : grammar.IsStatement (kinds.Set (record {
  keyword = name 1 (codes "set");
  name = name 3 (codes "S");
  assign = mark 4 (codes ":=");
  items = name 5 (codes "a") ∷ mark 7 (codes "(") ∷ name 8 (codes "b") ∷ mark 9 (codes ",") ∷ name 10 (codes "c") ∷ mark 11 (codes ")") ∷ [];
  end = mark 12 (codes ";");
})) (name 1 (codes "set") ∷ mark 2 (codes ",") ∷ name 3 (codes "S") ∷ mark 4 (codes ":=") ∷ name 5 (codes "a") ∷ mark 6 (codes ",") ∷ mark 7 (codes "(") ∷ name 8 (codes "b")
    ∷ mark 9 (codes ",") ∷ name 10 (codes "c") ∷ mark 11 (codes ")") ∷ mark 12 (codes ";") ∷ []) []
set_of_tuples = (
  _,
  a_word 1 (codes "set"),
  (
    _,
    ((name 3 (codes "S"), refl, refl), skip 2 many.none),
    (
      _,
      a_mark 4 (codes ":="),
      (
        _,
        (
          (name 5 (codes "a") ∷ []) ∷ (mark 7 (codes "(") ∷ name 8 (codes "b") ∷ mark 9 (codes ",") ∷ name 10 (codes "c") ∷ mark 11 (codes ")") ∷ []) ∷ [],
          refl,
          (_, (inl (name 5 (codes "a"), inl refl, refl), many.none), (_, (inr (_, opening 7, (_, inside 8 (codes "b"), (_, comma 9, (_, inside 10 (codes "c"), (_, many.none, closing 11))))), skip 6 many.none), refl)),
        ),
        a_mark 12 (codes ";"),
      ),
    ),
  ),
)

-- param d default 0 := a 1 , b . ,
list_of_groups : grammar.IsStatement (kinds.List (record {
  keyword = name 1 (codes "param");
  name = name 2 (codes "d");
  default = Some (record { keyword = name 3 (codes "default"); value = name 4 (codes "z") });
  given = Some (record { assign = mark 5 (codes ":="); cells = name 6 (codes "a") ∷ at 7 Num (codes "1") ∷ name 9 (codes "b") ∷ at 10 Dot (codes ".") ∷ [] });
  end = mark 12 (codes ";");
})) (name 1 (codes "param") ∷ name 2 (codes "d") ∷ name 3 (codes "default") ∷ name 4 (codes "z") ∷ mark 5 (codes ":=") ∷ name 6 (codes "a") ∷ at 7 Num (codes "1") ∷ mark 8 (codes ",") ∷ name 9 (codes "b")
    ∷ at 10 Dot (codes ".") ∷ mark 11 (codes ",") ∷ mark 12 (codes ";") ∷ []) []
list_of_groups = (
  _,
  a_word 1 (codes "param"),
  (
    _,
    a_name 2 (codes "d"),
    (
      _,
      (_, a_word 3 (codes "default"), a_member 4 (codes "z")),
      (
        _,
        (
          _,
          a_mark 5 (codes ":="),
          (_, a_cell 6 (codes "a"), (_, a_number 7 (codes "1"), (_, ((name 9 (codes "b"), inl (inl refl), refl), skip 8 many.none), (_, a_dot 10, refl)))),
        ),
        ((mark 12 (codes ";"), (refl, refl), refl), skip 11 many.none),
      ),
    ),
  ),
)

-- param c ( tr ) : x y := a 1 2 ;
transposed_table : grammar.IsStatement (kinds.Table (record {
  keyword = name 1 (codes "param");
  name = name 2 (codes "c");
  default = None;
  transposed = Some (record { opening = mark 3 (codes "("); word = name 4 (codes "tr"); closing = mark 5 (codes ")") });
  colon = mark 6 (codes ":");
  columns = name 7 (codes "x") ∷ name 8 (codes "y") ∷ [];
  assign = mark 9 (codes ":=");
  cells = name 10 (codes "a") ∷ at 11 Num (codes "1") ∷ at 12 Num (codes "2") ∷ [];
  end = mark 13 (codes ";");
})) (name 1 (codes "param") ∷ name 2 (codes "c") ∷ mark 3 (codes "(") ∷ name 4 (codes "tr") ∷ mark 5 (codes ")") ∷ mark 6 (codes ":") ∷ name 7 (codes "x") ∷ name 8 (codes "y") ∷ mark 9 (codes ":=") ∷ name 10 (codes "a")
    ∷ at 11 Num (codes "1") ∷ at 12 Num (codes "2") ∷ mark 13 (codes ";") ∷ []) []
transposed_table = (
  _,
  a_word 1 (codes "param"),
  (
    _,
    a_name 2 (codes "c"),
    (
      _,
      refl,
      (
        _,
        (_, a_mark 3 (codes "("), (_, a_word 4 (codes "tr"), a_mark 5 (codes ")"))),
        (
          _,
          a_mark 6 (codes ":"),
          (
            _,
            (_, a_member 7 (codes "x"), (_, a_member 8 (codes "y"), refl)),
            (
              _,
              a_mark 9 (codes ":="),
              (_, (_, a_cell 10 (codes "a"), (_, a_number 11 (codes "1"), (_, a_number 12 (codes "2"), refl))), (_, a_mark 13 (codes ";"), (_, (omega arith, refl), (refl, refl)))),
            ),
          ),
        ),
      ),
    ),
  ),
)

-- param : L : k := a b 5 ;
heading_with_set : grammar.IsStatement (kinds.Columns (record {
  keyword = name 1 (codes "param");
  colon = mark 2 (codes ":");
  set = Some (record { name = name 3 (codes "L"); colon = mark 4 (codes ":") });
  names = name 5 (codes "k") ∷ [];
  assign = mark 6 (codes ":=");
  cells = name 7 (codes "a") ∷ name 8 (codes "b") ∷ at 9 Num (codes "5") ∷ [];
  end = mark 10 (codes ";");
})) (name 1 (codes "param") ∷ mark 2 (codes ":") ∷ name 3 (codes "L") ∷ mark 4 (codes ":") ∷ name 5 (codes "k") ∷ mark 6 (codes ":=") ∷ name 7 (codes "a") ∷ name 8 (codes "b") ∷ at 9 Num (codes "5") ∷ mark 10 (codes ";") ∷ []) []
heading_with_set = (
  _,
  a_word 1 (codes "param"),
  (
    _,
    a_mark 2 (codes ":"),
    (
      _,
      (_, a_name 3 (codes "L"), a_mark 4 (codes ":")),
      (
        _,
        (_, a_name 5 (codes "k"), refl),
        (
          _,
          a_mark 6 (codes ":="),
          (_, (_, a_cell 7 (codes "a"), (_, a_cell 8 (codes "b"), (_, a_number 9 (codes "5"), refl))), (_, a_mark 10 (codes ";"), (omega arith, refl))),
        ),
      ),
    ),
  ),
)

-- data ; set S := ; end ; ,
whole_file : grammar.IsDataFile (record {
  opening = Some (record { word = name 1 (codes "data"); end = mark 2 (codes ";") });
  statements = kinds.Set (record { keyword = name 3 (codes "set"); name = name 4 (codes "S"); assign = mark 5 (codes ":="); items = []; end = mark 6 (codes ";") }) ∷ [];
  ending = Some (record { word = name 7 (codes "end"); end = mark 8 (codes ";") });
}) (name 1 (codes "data") ∷ mark 2 (codes ";") ∷ name 3 (codes "set") ∷ name 4 (codes "S") ∷ mark 5 (codes ":=") ∷ mark 6 (codes ";") ∷ name 7 (codes "end") ∷ mark 8 (codes ";") ∷ mark 9 (codes ",") ∷ [])
whole_file = (
  _,
  (_, a_word 1 (codes "data"), a_mark 2 (codes ";")),
  (
    _,
    (_, (_, a_word 3 (codes "set"), (_, a_name 4 (codes "S"), (_, a_mark 5 (codes ":="), (_, ([], refl, refl), a_mark 6 (codes ";"))))), refl),
    (_, (_, a_word 7 (codes "end"), a_mark 8 (codes ";")), skip 9 many.none),
  ),
)

-- tokens that the parser rejects are no data file
rejected : (tokens : List Token) (e : ParseError) → tables tokens ≡ Err e → (x : Tables) → grammar.IsDataFile x tokens → ⊥
rejected tokens e h x is =
    let (mean, full) = sound tokens x is in
    let ok : tables tokens ≡ Ok x = tables-complete tokens x mean ∙ ap (λ j. j >>= (λ u. let r : Result Tables ParseError = Ok x in r)) full in
    absurd (cc)

-- param p : := ;
no_column : (x : Tables) → grammar.IsDataFile x (name 1 (codes "param") ∷ name 2 (codes "p") ∷ mark 3 (codes ":") ∷ mark 4 (codes ":=") ∷ mark 5 (codes ";") ∷ []) → ⊥
unfolding tables single met statements statement param named wanted default body table heading run cells
no_column = rejected _ _ refl

-- param p : x := a 1 b ;
short_row : (x : Tables) → grammar.IsDataFile x (name 1 (codes "param") ∷ name 2 (codes "p") ∷ mark 3 (codes ":") ∷ name 4 (codes "x") ∷ mark 5 (codes ":=") ∷ name 6 (codes "a") ∷ at 7 Num (codes "1") ∷ name 8 (codes "b") ∷ mark 9 (codes ";") ∷ []) → ⊥
unfolding tables single met statements statement param named wanted default body table heading run cells check_rows
short_row = rejected _ _ refl

-- set S := ( a , , b ) ;
comma_in_tuple : (x : Tables) → grammar.IsDataFile x (name 1 (codes "set") ∷ name 2 (codes "S") ∷ mark 3 (codes ":=") ∷ mark 4 (codes "(") ∷ name 5 (codes "a") ∷ mark 6 (codes ",") ∷ mark 7 (codes ",") ∷ name 8 (codes "b") ∷ mark 9 (codes ")") ∷ mark 10 (codes ";") ∷ []) → ⊥
unfolding tables single met statements statement set wanted items items_from
comma_in_tuple = rejected _ _ refl

-- set S := ( a ) ;
one_member : (x : Tables) → grammar.IsDataFile x (name 1 (codes "set") ∷ name 2 (codes "S") ∷ mark 3 (codes ":=") ∷ mark 4 (codes "(") ∷ name 5 (codes "a") ∷ mark 6 (codes ")") ∷ mark 7 (codes ";") ∷ []) → ⊥
unfolding tables single met statements statement set wanted items items_from reading.rejected
one_member = rejected _ _ refl
