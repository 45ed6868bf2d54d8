-- Where a statement that gives a parameter stops, the tokens before the stop begin one.
use Rattle.std.proofs.Common.{◌≡◌, true, List, [], ◌∷◌, ◌++◌, Option, Some, None, IfSome, Ok, refl, codes}
use Rattle.net_lex.specs.declared.token.Token.{Token}
use Rattle.net_data.specs.declared.statement.DefaultValue.{DefaultValue}
use Rattle.net_data.specs.declared.statement.Given.{Given}
use Rattle.net_data.specs.declared.statement.NamedSet.{NamedSet}
use Rattle.net_data.specs.declared.statement.Statement.{Statement}
use Rattle.net_data.specs.declared.statement.Statement.TheVariants as kinds
use Rattle.net_data.specs.Commas.{before, elsewhere}
use Rattle.net_data.specs.Meaning.{IsDefault, IsGiven, IsNamedSet}
use Rattle.net_data.specs.Printing.{put_default, put_given, put_set}
use Rattle.net_data.specs.Reading.{Read, met, met_after, wanted, semicolon, colon, assign, heading, cells, given, given_by, list, body, body_by, default, default_by, named, named_set, named_set_by, columns, param, param_by, ◌>>=◌}
use Rattle.net_data.specs.Tests.{is_name, is_member, is_cell, is_word, is_mark}
use Rattle.net_data.proofs.RunLemmas.{keeps_name, keeps_cell}
use Rattle.net_data.proofs.RunsAhead.{ran}
use Rattle.net_data.proofs.Steps.{in_name, in_member, in_word, in_mark, in_end}
use Rattle.net_data.proofs.Mending.{Written, Begun, Reads, same, token, then_reads, reported_reads, wanted_reads, next_reads}
use Rattle.net_data.proofs.MendingRuns.{a_name, passing, run_reads}
use Rattle.net_data.proofs.MendingStatements.{statement_kind, stop_mark, gives_mark, heading_kind, heading_reads, cells_kind, cells_reads, table_reads, turned_reads}

abbrev default_kind : Written (Option DefaultValue)
default_kind = record { put = put_default; fits = λ x. IfSome x IsDefault }

default_reads : (tokens : List Token) → Reads default_kind elsewhere elsewhere same tokens (default tokens)
unfolding default
default_reads tokens = go (met (is_word (codes "default")) tokens) refl
  where
    go : (o : Option (Token × List Token)) → met (is_word (codes "default")) tokens ≡ o → Reads default_kind elsewhere elsewhere same tokens (default_by tokens o)
    go None i = reported_reads default_kind elsewhere same None tokens tt (λ r. refl)
    go (Some x) i =
        next_reads default_kind elsewhere elsewhere elsewhere same (is_word (codes "default")) tokens x _ (in_word (codes "default")) i
        (λ key. then_reads (token is_member) default_kind elsewhere elsewhere elsewhere (λ r. x.0 ∷ r) x.1 (wanted is_member x.1) _ (wanted_reads elsewhere elsewhere is_member a_name x.1 in_member refl refl)
        (λ y member. record { thing = Some (record { keyword = x.0; value = y }); fits = record { keyword = key; value = member }; rest = []; text = λ r. refl })
        (λ y r1 e1 member. reported_reads default_kind elsewhere (λ r. x.0 ∷ y ∷ r) (Some (record { keyword = x.0; value = y })) r1 (record { keyword = key; value = member }) (λ r. refl)))

abbrev given_kind : Written (Option Given)
given_kind = record { put = put_given; fits = λ x. IfSome x IsGiven }

abbrev read_given : List Token → Read (Option Given)
read_given tokens = Ok ((given tokens).0, (given tokens).1)

given_reads : (tokens : List Token) → Reads given_kind elsewhere elsewhere same tokens (read_given tokens)
unfolding given
given_reads tokens = go (met assign tokens) refl
  where
    give : Token → List Token × List Token → Read (Option Given)
    give mark x = Ok (Some (record { assign = mark; cells = x.0 }), x.1)

    go : (o : Option (Token × List Token)) → met assign tokens ≡ o → Reads given_kind elsewhere elsewhere same tokens (Ok ((given_by tokens o).0, (given_by tokens o).1))
    go None i = reported_reads given_kind elsewhere same None tokens tt (λ r. refl)
    go (Some x) i =
        next_reads given_kind elsewhere elsewhere elsewhere same assign tokens x _ (in_mark (codes ":=") refl) i
        (λ gives. then_reads (passing is_cell) given_kind elsewhere elsewhere elsewhere (λ r. x.0 ∷ r) x.1 (ran is_cell x.1) (give x.0) (run_reads is_cell x.1 keeps_cell)
        (λ xs pass. record { thing = Some (record { assign = x.0; cells = xs }); fits = record { assign = gives; cells = pass }; rest = []; text = λ r. refl })
        (λ xs r1 e1 pass. reported_reads given_kind elsewhere (λ r. x.0 ∷ (xs ++ r)) (Some (record { assign = x.0; cells = xs })) r1 (record { assign = gives; cells = pass }) (λ r. refl)))

abbrev list_of : Token → Token → Option DefaultValue → Option Given → Token → Statement
list_of keyword name value g end = kinds.List (record { keyword = keyword; name = name; default = value; given = g; end = end })

abbrev list_after : Token → Token → Option DefaultValue → Option Given × List Token → Read Statement
list_after keyword name value g = wanted semicolon g.1 >>= (λ end. Ok (list_of keyword name value g.0 end.0, end.1))

list_reads : (keyword name : Token) (value : Option DefaultValue) (tokens : List Token) → is_word (codes "param") keyword ≡ true → is_name name ≡ true → IfSome value IsDefault
    → Reads statement_kind elsewhere before (λ r. keyword ∷ name ∷ put_default value r) tokens (list keyword name value tokens)
unfolding list
list_reads keyword name value tokens key names defaults =
    then_reads given_kind statement_kind elsewhere elsewhere before (λ r. keyword ∷ name ∷ put_default value r) tokens (read_given tokens) (list_after keyword name value) (given_reads tokens)
    (λ g are. record {
      thing = list_of keyword name value g stop_mark;
      fits = record { keyword = key; name = names; default = defaults; given = are; end = refl };
      rest = stop_mark ∷ [];
      text = λ r. refl;
    })
    (λ g r1 e1 are.
    then_reads (token semicolon) statement_kind elsewhere before before (λ r. keyword ∷ name ∷ put_default value (put_given g r)) r1 (wanted semicolon r1) _ (wanted_reads elsewhere before semicolon stop_mark r1 in_end refl refl)
    (λ x ends. record { thing = list_of keyword name value g x; fits = record { keyword = key; name = names; default = defaults; given = are; end = ends }; rest = []; text = λ r. refl })
    (λ end r2 e2 ends.
    reported_reads statement_kind before (λ r. keyword ∷ name ∷ put_default value (put_given g (end ∷ r))) (list_of keyword name value g end) r2
    (record { keyword = key; name = names; default = defaults; given = are; end = ends }) (λ r. refl)))

body_reads : (keyword name : Token) (value : Option DefaultValue) (tokens : List Token) → is_word (codes "param") keyword ≡ true → is_name name ≡ true → IfSome value IsDefault
    → Reads statement_kind elsewhere before (λ r. keyword ∷ name ∷ put_default value r) tokens (body keyword name value tokens)
unfolding body
body_reads keyword name value tokens key names defaults = go (met (is_mark (codes "(")) tokens) refl (met colon tokens) refl
  where
    go : (o : Option (Token × List Token)) → met (is_mark (codes "(")) tokens ≡ o → (c : Option (Token × List Token)) → met colon tokens ≡ c
        → Reads statement_kind elsewhere before (λ r. keyword ∷ name ∷ put_default value r) tokens (body_by keyword name value tokens o c)
    go (Some x) i c j =
        next_reads statement_kind elsewhere elsewhere before (λ r. keyword ∷ name ∷ put_default value r) (is_mark (codes "(")) tokens x _ (in_mark (codes "(") refl) i
        (λ opens. turned_reads keyword name value x.0 x.1 key names defaults opens)
    go None i (Some x) j =
        next_reads statement_kind elsewhere elsewhere before (λ r. keyword ∷ name ∷ put_default value r) colon tokens x _ (in_mark (codes ":") refl) j
        (λ colons. table_reads keyword name value None x.0 x.1 key names defaults tt colons)
    go None i None j = list_reads keyword name value tokens key names defaults

-- a list without cells
made_list : (keyword name : Token) (value : Option DefaultValue) → is_word (codes "param") keyword ≡ true → is_name name ≡ true → IfSome value IsDefault
    → Begun statement_kind elsewhere before (λ r. keyword ∷ name ∷ put_default value r) []
made_list keyword name value key names defaults = record {
  thing = list_of keyword name value None stop_mark;
  fits = record { keyword = key; name = names; default = defaults; given = tt; end = refl };
  rest = stop_mark ∷ [];
  text = λ r. refl;
}

named_reads : (keyword : Token) (tokens : List Token) → is_word (codes "param") keyword ≡ true → Reads statement_kind elsewhere before (λ r. keyword ∷ r) tokens (named keyword tokens)
unfolding named
named_reads keyword tokens key =
    then_reads (token is_name) statement_kind elsewhere elsewhere before (λ r. keyword ∷ r) tokens (wanted is_name tokens) _ (wanted_reads elsewhere elsewhere is_name a_name tokens in_name refl refl)
    (λ x names. made_list keyword x None key names tt)
    (λ name r1 e1 names.
    then_reads default_kind statement_kind elsewhere elsewhere before (λ r. keyword ∷ name ∷ r) r1 (default r1) _ (default_reads r1)
    (λ x are. made_list keyword name x key names are)
    (λ value r2 e2 are. body_reads keyword name value r2 key names are))

abbrev named_kind : Written (Option NamedSet)
named_kind = record { put = put_set; fits = λ x. IfSome x IsNamedSet }

abbrev read_named : List Token → Read (Option NamedSet)
read_named tokens = Ok ((named_set tokens).0, (named_set tokens).1)

named_set_reads : (tokens : List Token) → Reads named_kind elsewhere elsewhere same tokens (read_named tokens)
unfolding named_set
named_set_reads tokens = go (met is_name tokens) refl
  where
    read : Option (Token × List Token) → Option (Token × List Token) → Read (Option NamedSet)
    read o p = Ok ((named_set_by tokens o p).0, (named_set_by tokens o p).1)

    by : (x : Token × List Token) → met is_name tokens ≡ Some x → (p : Option (Token × List Token)) → met colon x.1 ≡ p → Reads named_kind elsewhere elsewhere same tokens (read (Some x) p)
    by x i None j = reported_reads named_kind elsewhere same None tokens tt (λ r. refl)
    by x i (Some y) j =
        next_reads named_kind elsewhere elsewhere elsewhere same is_name tokens x _ in_name i (λ names.
        next_reads named_kind elsewhere elsewhere elsewhere (λ r. x.0 ∷ r) colon x.1 y _ (in_mark (codes ":") refl) j (λ colons.
        reported_reads named_kind elsewhere (λ r. x.0 ∷ y.0 ∷ r) (Some (record { name = x.0; colon = y.0 })) y.1 (record { name = names; colon = colons }) (λ r. refl)))

    go : (o : Option (Token × List Token)) → met is_name tokens ≡ o → Reads named_kind elsewhere elsewhere same tokens (read o (met_after colon o))
    go None i = reported_reads named_kind elsewhere same None tokens tt (λ r. refl)
    go (Some x) i = by x i (met colon x.1) refl

abbrev columns_of : Token → Token → Option NamedSet → List Token → Token → List Token → Token → Statement
columns_of keyword mark of names gives all end =
    kinds.Columns (record { keyword = keyword; colon = mark; set = of; names = names; assign = gives; cells = all; end = end })

abbrev columns_after : Token → Token → Option NamedSet × List Token → Read Statement
columns_after keyword mark of =
    heading is_name of.1 >>= (λ head. cells head.1 >>= (λ all. Ok (columns_of keyword mark of.0 head.0.0 head.0.1 all.0.0 all.0.1, all.1)))

columns_reads : (keyword mark : Token) (tokens : List Token) → is_word (codes "param") keyword ≡ true → colon mark ≡ true → Reads statement_kind elsewhere before (λ r. keyword ∷ mark ∷ r) tokens (columns keyword mark tokens)
unfolding columns
columns_reads keyword mark tokens key colons =
    then_reads named_kind statement_kind elsewhere elsewhere before (λ r. keyword ∷ mark ∷ r) tokens (read_named tokens) (columns_after keyword mark) (named_set_reads tokens)
    (λ of are. record {
      thing = columns_of keyword mark of [] gives_mark [] stop_mark;
      fits = record { heading = record { keyword = key; colon = colons; set = are; names = refl; assign = refl }; cells = refl; end = refl };
      rest = gives_mark ∷ stop_mark ∷ [];
      text = λ r. refl;
    })
    (λ of r1 e1 are.
    then_reads (heading_kind is_name) statement_kind elsewhere elsewhere before (λ r. keyword ∷ mark ∷ put_set of r) r1 (heading is_name r1) _ (heading_reads is_name r1 keeps_name)
    (λ x f. record {
      thing = columns_of keyword mark of x.0 x.1 [] stop_mark;
      fits = record { heading = record { keyword = key; colon = colons; set = are; names = f.0; assign = f.1 }; cells = refl; end = refl };
      rest = stop_mark ∷ [];
      text = λ r. refl;
    })
    (λ head r2 e2 f.
    then_reads cells_kind statement_kind elsewhere before before (λ r. keyword ∷ mark ∷ put_set of (head.0 ++ head.1 ∷ r)) r2 (cells r2) _ (cells_reads r2)
    (λ x g. record {
      thing = columns_of keyword mark of head.0 head.1 x.0 x.1;
      fits = record { heading = record { keyword = key; colon = colons; set = are; names = f.0; assign = f.1 }; cells = g.0; end = g.1 };
      rest = [];
      text = λ r. refl;
    })
    (λ all r3 e3 g.
    reported_reads statement_kind before _ (columns_of keyword mark of head.0 head.1 all.0 all.1) r3
    (record { heading = record { keyword = key; colon = colons; set = are; names = f.0; assign = f.1 }; cells = g.0; end = g.1 }) (λ r. refl))))

pub param_reads : (keyword : Token) (tokens : List Token) → is_word (codes "param") keyword ≡ true → Reads statement_kind elsewhere before (λ r. keyword ∷ r) tokens (param keyword tokens)
unfolding param
param_reads keyword tokens key = go (met colon tokens) refl
  where
    go : (o : Option (Token × List Token)) → met colon tokens ≡ o → Reads statement_kind elsewhere before (λ r. keyword ∷ r) tokens (param_by keyword tokens o)
    go None i = named_reads keyword tokens key
    go (Some x) i = next_reads statement_kind elsewhere elsewhere before (λ r. keyword ∷ r) colon tokens x _ (in_mark (codes ":") refl) i (λ colons. columns_reads keyword x.0 x.1 key colons)
