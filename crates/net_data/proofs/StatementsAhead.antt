-- A statement depends on no token behind the one at which its reading stops, or behind its end.
use Rattle.std.proofs.Common.{◌≡◌, Bool, true, false, List, [], ◌∷◌, ◌++◌, Option, Some, None, Ok, Err, refl, ap, sym, ◌∙◌, codes}
use Rattle.std.specs.Prelude.{if◌then◌else◌}
use Rattle.net_lex.specs.declared.token.Token.{Token}
use Rattle.net_base.specs.declared.error_code.ErrorCode.TheVariants.{DataSyntax, TableWidth}
use Rattle.net_data.specs.declared.data_parser.ParseError.{ParseError}
use Rattle.net_data.specs.declared.statement.DefaultValue.{DefaultValue}
use Rattle.net_data.specs.declared.statement.Given.{Given}
use Rattle.net_data.specs.declared.statement.NamedSet.{NamedSet}
use Rattle.net_data.specs.declared.statement.Transposed.{Transposed}
use Rattle.net_data.specs.declared.statement.Statement.{Statement}
use Rattle.net_data.specs.declared.statement.Statement.TheVariants as kinds
use Rattle.net_data.specs.Reading.{Read, stop, front, met, met_after, wanted, run, items, semicolon, colon, assign, set, headed, heading, cells, check_rows, table, turned, given, given_by, list, body, body_by, default, default_by, named, named_set, named_set_by, columns, param, param_by, ◌>>=◌}
use Rattle.net_data.specs.Tests.{is_name, is_member, is_cell, is_word, is_mark, is_comma}
use Rattle.net_data.proofs.Blames.{filled_err}
use Rattle.net_data.proofs.Lookahead.{never_ok, err_is, Local, bind_local, same_local, pure_local, const_local}
use Rattle.net_data.proofs.NextToken.{wanted_local, choose, met_parts, choose_local}
use Rattle.net_data.proofs.RunLemmas.{run_after, run-cons}
use Rattle.net_data.proofs.RunsAhead.{ran, run_local, items_local}

-- ---- statements

headed_local : (heads : List Token) (mark : Token) (tokens : List Token) → Local (headed heads mark) tokens
headed_local [] mark tokens = record {
  stops = λ e h d span at. absurd (let k = ap (λ (s : ParseError). s.error_code) (err_is (stop TableWidth (Some mark.span)) e h) ∙ d in cc);
  passes = λ x rest h. never_ok (x, rest) (stop TableWidth (Some mark.span)) h;
}
headed_local (c ∷ heads) mark tokens = pure_local (c ∷ heads, mark) tokens

pub set_local : (keyword : Token) (tokens : List Token) → Local (set keyword) tokens
unfolding set
set_local keyword tokens =
    same_local (set keyword) _ tokens (λ ts. refl)
    (bind_local (wanted is_name) _ tokens (wanted_local is_name tokens) (λ name behind_name i.
    bind_local (wanted assign) _ behind_name (wanted_local assign behind_name) (λ mark after_mark j.
    bind_local items _ after_mark (items_local after_mark) (λ all after_all k.
    bind_local (wanted semicolon) _ after_all (wanted_local semicolon after_all) (λ end rest l. pure_local _ rest)))))

abbrev pub heads_of : List Token × List Token → Read (List Token × Token)
heads_of r = wanted assign r.1 >>= (λ a. headed r.0 a.0 a.1)

heading_local : (test : Token → Bool) (tokens : List Token) → Local (heading test) tokens
unfolding heading
heading_local test tokens =
    same_local (heading test) (λ ts. ran test ts >>= heads_of) tokens (λ ts. refl)
    (bind_local (ran test) heads_of tokens (run_local test tokens) (λ heads behind i.
    bind_local (wanted assign) (λ a. headed heads a.0 a.1) behind (wanted_local assign behind) (λ mark rest j. headed_local heads mark rest)))

abbrev pub read_cells : List Token × List Token → Read (List Token × Token)
read_cells r = wanted semicolon r.1 >>= (λ end. Ok ((r.0, end.0), end.1))

cells_local : (tokens : List Token) → Local cells tokens
unfolding cells
cells_local tokens =
    same_local cells (λ ts. ran is_cell ts >>= read_cells) tokens (λ ts. refl)
    (bind_local (ran is_cell) read_cells tokens (run_local is_cell tokens) (λ all behind i.
    bind_local (wanted semicolon) _ behind (wanted_local semicolon behind) (λ end rest j. pure_local (all, end) rest)))

filled_never : (heads all : List Token) (e : ParseError) → check_rows heads all ≡ Err e → e.error_code ≡ DataSyntax → ⊥
filled_never heads all e h d = let k = (filled_err heads all e h).1 in absurd (cc)

table_local : (keyword name : Token) (given : Option DefaultValue) (transposed : Option Transposed) (mark : Token) (tokens : List Token) → Local (table keyword name given transposed mark) tokens
unfolding table
table_local keyword name given transposed mark tokens =
    same_local (table keyword name given transposed mark) _ tokens (λ ts. refl)
    (bind_local (heading is_member) _ tokens (heading_local is_member tokens) (λ head behind i.
    bind_local cells _ behind (cells_local behind) (λ all rest j.
    const_local (check_rows head.0 all.0) _ rest (filled_never head.0 all.0) (λ u. pure_local _ rest))))

turned_local : (keyword name : Token) (given : Option DefaultValue) (opening : Token) (tokens : List Token) → Local (turned keyword name given opening) tokens
unfolding turned
turned_local keyword name given opening tokens =
    same_local (turned keyword name given opening) _ tokens (λ ts. refl)
    (bind_local (wanted (is_word (codes "tr"))) _ tokens (wanted_local (is_word (codes "tr")) tokens) (λ word after_word i.
    bind_local (wanted (is_mark (codes ")"))) _ after_word (wanted_local (is_mark (codes ")")) after_word) (λ closing behind j.
    bind_local (wanted colon) _ behind (wanted_local colon behind) (λ mark rest k.
    table_local keyword name given (Some (record { opening = opening; word = word; closing = closing })) mark rest))))

-- the cells of a list, if there are some
abbrev read_given : List Token → Read (Option Given)
read_given ts = Ok ((given ts).0, (given ts).1)

abbrev given_of : Token → List Token × List Token → Read (Option Given)
given_of mark r = Ok (Some (record { assign = mark; cells = r.0 }), r.1)

abbrev cells_after : Token → List Token → Read (Option Given)
cells_after mark ts = ran is_cell ts >>= given_of mark

given_is : (ts : List Token) → read_given ts ≡ choose (met assign ts) (Ok (None, ts)) cells_after
unfolding given
given_is ts = go (met assign ts)
  where
    go : (o : Option (Token × List Token)) → (let r : Read (Option Given) = Ok ((given_by ts o).0, (given_by ts o).1) in r) ≡ choose o (Ok (None, ts)) cells_after
    go None = refl
    go (Some x) = refl

given_local : (tokens : List Token) → Local read_given tokens
given_local tokens =
    same_local read_given (λ ts. choose (met assign ts) (Ok (None, ts)) cells_after) tokens given_is
    (choose_local assign (λ ts. Ok (None, ts)) cells_after tokens (pure_local None tokens) (λ mark behind i.
    bind_local (ran is_cell) (given_of mark) behind (run_local is_cell behind) (λ all rest j. pure_local (Some (record { assign = mark; cells = all })) rest)))

abbrev list_to : Token → Token → Option DefaultValue → Option Given → Token → Statement
list_to keyword name value g end = kinds.List (record { keyword = keyword; name = name; default = value; given = g; end = end })

abbrev list_of : Token → Token → Option DefaultValue → Option Given × List Token → Read Statement
list_of keyword name value g = wanted semicolon g.1 >>= (λ end. Ok (list_to keyword name value g.0 end.0, end.1))

list_local : (keyword name : Token) (value : Option DefaultValue) (tokens : List Token) → Local (list keyword name value) tokens
unfolding list
list_local keyword name value tokens =
    same_local (list keyword name value) (λ ts. read_given ts >>= list_of keyword name value) tokens (λ ts. refl)
    (bind_local read_given (list_of keyword name value) tokens (given_local tokens) (λ g behind i.
    bind_local (wanted semicolon) (λ end. Ok (list_to keyword name value g end.0, end.1)) behind (wanted_local semicolon behind) (λ end rest j.
    pure_local (list_to keyword name value g end) rest)))

abbrev value_after : Token → List Token → Read (Option DefaultValue)
value_after word ts = wanted is_member ts >>= (λ value. Ok (Some (record { keyword = word; value = value.0 }), value.1))

default_is : (ts : List Token) → default ts ≡ choose (met (is_word (codes "default")) ts) (Ok (None, ts)) value_after
unfolding default
default_is ts = go (met (is_word (codes "default")) ts)
  where
    go : (o : Option (Token × List Token)) → default_by ts o ≡ choose o (Ok (None, ts)) value_after
    go None = refl
    go (Some x) = refl

default_local : (tokens : List Token) → Local default tokens
default_local tokens =
    same_local default (λ ts. choose (met (is_word (codes "default")) ts) (Ok (None, ts)) value_after) tokens default_is
    (choose_local (is_word (codes "default")) (λ ts. Ok (None, ts)) value_after tokens (pure_local None tokens) (λ word behind i.
    bind_local (wanted is_member) _ behind (wanted_local is_member behind) (λ value rest j. pure_local (Some (record { keyword = word; value = value })) rest)))

abbrev tables_or_list : Token → Token → Option DefaultValue → List Token → Read Statement
tables_or_list keyword name value ts = choose (met colon ts) (list keyword name value ts) (table keyword name value None)

body_is : (keyword name : Token) (value : Option DefaultValue) (ts : List Token) → body keyword name value ts ≡ choose (met (is_mark (codes "(")) ts) (tables_or_list keyword name value ts) (turned keyword name value)
unfolding body
body_is keyword name value ts = go (met (is_mark (codes "(")) ts) (met colon ts)
  where
    go : (o p : Option (Token × List Token)) → body_by keyword name value ts o p ≡ choose o (choose p (list keyword name value ts) (table keyword name value None)) (turned keyword name value)
    go (Some x) p = refl
    go None (Some x) = refl
    go None None = refl

body_local : (keyword name : Token) (value : Option DefaultValue) (tokens : List Token) → Local (body keyword name value) tokens
body_local keyword name value tokens =
    same_local (body keyword name value) (λ ts. choose (met (is_mark (codes "(")) ts) (tables_or_list keyword name value ts) (turned keyword name value)) tokens (body_is keyword name value)
    (choose_local (is_mark (codes "(")) (tables_or_list keyword name value) (turned keyword name value) tokens
    (choose_local colon (list keyword name value) (table keyword name value None) tokens (list_local keyword name value tokens) (λ mark rest i. table_local keyword name value None mark rest))
    (λ opening rest i. turned_local keyword name value opening rest))

named_local : (keyword : Token) (tokens : List Token) → Local (named keyword) tokens
unfolding named
named_local keyword tokens =
    same_local (named keyword) _ tokens (λ ts. refl)
    (bind_local (wanted is_name) _ tokens (wanted_local is_name tokens) (λ name behind i.
    bind_local default _ behind (default_local behind) (λ value rest j. body_local keyword name value rest)))

-- ---- parameters beside each other

-- what stands behind these names of the heading
abbrev columns_from : Token → Token → List Token → Option NamedSet → List Token × List Token → Read Statement
columns_from keyword mark names of r =
    (wanted assign r.1 >>= (λ a. headed (names ++ r.0) a.0 a.1)) >>= (λ head.
    cells head.1 >>= (λ all. Ok (kinds.Columns (record { keyword = keyword; colon = mark; set = of; names = head.0.0; assign = head.0.1; cells = all.0.0; end = all.0.1 }), all.1)))

abbrev columns_after : Token → Token → List Token → Option NamedSet → List Token → Read Statement
columns_after keyword mark names of ts = ran is_name ts >>= columns_from keyword mark names of

after_local : (keyword mark : Token) (names : List Token) (of : Option NamedSet) (tokens : List Token) → Local (columns_after keyword mark names of) tokens
after_local keyword mark names of tokens =
    bind_local (ran is_name) (columns_from keyword mark names of) tokens (run_local is_name tokens) (λ more behind i.
    bind_local (λ ts. wanted assign ts >>= (λ a. headed (names ++ more) a.0 a.1)) _ behind
    (bind_local (wanted assign) _ behind (wanted_local assign behind) (λ sign after j. headed_local (names ++ more) sign after)) (λ head after j.
    bind_local cells _ after (cells_local after) (λ all rest k. pure_local _ rest)))

-- a name at the front is the first of a run
run_name : (ts : List Token) (x : Token × List Token) → met is_name ts ≡ Some x → run is_name ts ≡ (x.0 ∷ (run is_name x.1).0, (run is_name x.1).1)
run_name ts x h = let m = met_parts is_name ts x h in first_name ts m.front m.passes
  where
    first_name : (us : List Token) → front us ≡ Some x → is_name x.0 ≡ true → run is_name us ≡ (x.0 ∷ (run is_name x.1).0, (run is_name x.1).1)
    first_name [] i j = absurd (let k = i in cc)
    first_name (u ∷ us) i j = run-cons is_name u us ∙ go (is_comma u) i (λ k. first_name us k j)
      where
        go : (c : Bool) → (if c then front us else Some (u, us)) ≡ Some x → (front us ≡ Some x → run is_name us ≡ (x.0 ∷ (run is_name x.1).0, (run is_name x.1).1))
            → run_after u us c (is_name u) (run is_name us) ≡ (x.0 ∷ (run is_name x.1).0, (run is_name x.1).1)
        go true k more = more k
        go false k more =
            let same : (u, us) ≡ x = cc in
            ap (λ b. run_after u us false b (run is_name us)) (ap (λ (z : Token × List Token). is_name z.0) same ∙ j)
            ∙ ap (λ (z : Token × List Token). let p : List Token × List Token = (z.0 ∷ (run is_name z.1).0, (run is_name z.1).1) in p) same

-- a name with a colon, or a name alone
abbrev after_name : Token → Token → Token → List Token → Read Statement
after_name keyword mark name ts =
    choose (met colon ts) (columns_after keyword mark (name ∷ []) None ts) (λ sign. columns_after keyword mark [] (Some (record { name = name; colon = sign })))

columns_is : (keyword mark : Token) (ts : List Token) → columns keyword mark ts ≡ choose (met is_name ts) (columns_after keyword mark [] None ts) (after_name keyword mark)
unfolding columns heading named_set
columns_is keyword mark ts = go (met is_name ts) refl
  where
    whole : Option NamedSet × List Token → Read Statement
    whole n = heading is_name n.1 >>= (λ head. cells head.1 >>= (λ all. Ok (kinds.Columns (record { keyword = keyword; colon = mark; set = n.0; names = head.0.0; assign = head.0.1; cells = all.0.0; end = all.0.1 }), all.1)))

    by : (x : Token × List Token) (p : Option (Token × List Token)) → met is_name ts ≡ Some x
        → whole (named_set_by ts (Some x) p) ≡ choose p (columns_after keyword mark (x.0 ∷ []) None x.1) (λ sign. columns_after keyword mark [] (Some (record { name = x.0; colon = sign })))
    by x None i = ap (columns_from keyword mark [] None) (run_name ts x i)
    by x (Some sign) i = refl

    go : (o : Option (Token × List Token)) → met is_name ts ≡ o → whole (named_set_by ts (met is_name ts) (met_after colon (met is_name ts))) ≡ choose (met is_name ts) (columns_after keyword mark [] None ts) (after_name keyword mark)
    go None i =
        ap (λ o. whole (named_set_by ts o (met_after colon o))) i
        ∙ sym (ap (λ o. choose o (columns_after keyword mark [] None ts) (after_name keyword mark)) i)
    go (Some x) i =
        ap (λ o. whole (named_set_by ts o (met_after colon o))) i
        ∙ by x (met colon x.1) i
        ∙ sym (ap (λ o. choose o (columns_after keyword mark [] None ts) (after_name keyword mark)) i)

columns_local : (keyword mark : Token) (tokens : List Token) → Local (columns keyword mark) tokens
columns_local keyword mark tokens =
    same_local (columns keyword mark) (λ ts. choose (met is_name ts) (columns_after keyword mark [] None ts) (after_name keyword mark)) tokens (columns_is keyword mark)
    (choose_local is_name (columns_after keyword mark [] None) (after_name keyword mark) tokens (after_local keyword mark [] None tokens) (λ name behind i.
    choose_local colon (columns_after keyword mark (name ∷ []) None) (λ sign. columns_after keyword mark [] (Some (record { name = name; colon = sign }))) behind
    (after_local keyword mark (name ∷ []) None behind)
    (λ sign rest j. after_local keyword mark [] (Some (record { name = name; colon = sign })) rest)))

param_is : (keyword : Token) (ts : List Token) → param keyword ts ≡ choose (met colon ts) (named keyword ts) (columns keyword)
unfolding param
param_is keyword ts = go (met colon ts)
  where
    go : (o : Option (Token × List Token)) → param_by keyword ts o ≡ choose o (named keyword ts) (columns keyword)
    go None = refl
    go (Some x) = refl

pub param_local : (keyword : Token) (tokens : List Token) → Local (param keyword) tokens
param_local keyword tokens =
    same_local (param keyword) (λ ts. choose (met colon ts) (named keyword ts) (columns keyword)) tokens (param_is keyword)
    (choose_local colon (named keyword) (columns keyword) tokens (named_local keyword tokens) (λ mark rest i. columns_local keyword mark rest))
