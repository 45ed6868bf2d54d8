-- The eight cities of examples/cities, written by hand as declarations and statements, and what they mean: their world, their network, and a plan
-- of cost 18190. CitiesWorld.antt proves that this is their world, CitiesNetwork.antt that this is their network, in which everything has a value,
-- and that the plan is feasible and has this cost. In AMPL:
--
--     set CITIES;
--     set LINKS within (CITIES cross CITIES);
--     param supply {CITIES} >= 0;
--     param demand {CITIES} >= 0;
--     check: sum {i in CITIES} supply[i] = sum {j in CITIES} demand[j];
--     param cost {LINKS} >= 0;
--     param capacity {LINKS} >= 0;
--     minimize Total_Cost;
--     node Balance {k in CITIES}: net_in = demand[k] - supply[k];
--     arc Ship {(i,j) in LINKS} >= 0, <= capacity[i,j], from Balance[i], to Balance[j], obj Total_Cost cost[i,j];
--
--     set CITIES := PITT NE SE BOS EWR BWI ATL MCO;
--     param supply default 0 := PITT 450;
--     param demand default 0 := BOS 90, EWR 120, BWI 120, ATL 70, MCO 50;
--     param: LINKS: cost capacity :=
--         PITT NE 25 250    PITT SE 35 250
--         NE BOS 17 100     NE EWR 7 100      NE BWI 13 100
--         SE EWR 13 100     SE BWI 8 100      SE ATL 2 100      SE MCO 21 100;
use Rattle.std.specs.Prelude.{ℕ, true, false, List, [], ◌∷◌, ◌++◌, map, Option, None, Some, unwrap_or, codes, ℤ, pos}
use Rattle.std.specs.Map.{lookup}
use Rattle.net_lex.specs.declared.token.Kind.{Kind}
use Rattle.net_lex.specs.declared.token.Kind.TheVariants as kinds
use Rattle.net_lex.specs.declared.token.Token.{Token}
use Rattle.net_data.specs.declared.statement.Statement.{Statement}
use Rattle.net_data.specs.declared.statement.Statement.TheVariants as statements
use Rattle.net_sets.specs.Sets.{Tuple, same_tuple, at_key}
use Rattle.net_sets.specs.declared.member.Member.{Member}
use Rattle.net_sets.specs.declared.member.Member.TheVariants.{Number, Name}
use Rattle.net_normal.specs.declared.instance.Sense.TheVariants.{Minimise}
use Rattle.net_tree.specs.declared.operator.BinOp.TheVariants as op
use Rattle.net_tree.specs.declared.operator.Reduction.TheVariants.{Sum}
use Rattle.net_tree.specs.declared.role.Begins.TheVariants as begins
use Rattle.net_tree.specs.declared.role.Relation.TheVariants as relations
use Rattle.net_tree.specs.declared.role.Role.{Role}
use Rattle.net_tree.specs.declared.role.Role.TheVariants as roles
use Rattle.net_tree.specs.Syntax.{Expression, leaf, indexed, tuple, parens, reduced, chain, net, no_more, more, none, apply, absent, Braces, filled, Phrase, valued, priced, Condition, Declaration, set, param, check, node, arc, objective}
use Rattle.net_tree.specs.Syntax as conditions
use Rattle.net_meaning.specs.Values.{SetOf, ParameterOf, World, Key, env_of, start, bind}
use Rattle.net_meaning.specs.Network.{Node, Arc, Objective, Assignment}

-- ---- tokens and expressions; positions in the file do not matter here

abbrev pub token : Kind → List ℕ → Token
token k t = record { kind = k; text = t; span = record { start = 0; end = 0 } }

abbrev pub word : List ℕ → Token
word t = token kinds.Name t

abbrev pub numeral : List ℕ → Token
numeral t = token kinds.Num t

abbrev pub mark : List ℕ → Token
mark t = token kinds.Mark t

abbrev pub named : List ℕ → Expression
named t = leaf (word t)

abbrev pub zero_leaf : Expression
zero_leaf = leaf (numeral (codes "0"))

-- p[i]
abbrev pub at : List ℕ → List ℕ → Expression
at p i = indexed p (named i) no_more

-- p[i, j]
abbrev pub at_both : List ℕ → Expression
at_both p = indexed p (named (codes "i")) (more (named (codes "j")) no_more)

-- {S}
abbrev pub over : List ℕ → Braces
over s = filled (named s) no_more absent

-- {i in CITIES}
abbrev pub in_cities : List ℕ → Braces
in_cities i = filled (chain (named i) (apply op.In (named (codes "CITIES")) none)) no_more absent

-- (i, j) in LINKS
abbrev pub link_item : Expression
link_item = chain (tuple (named (codes "i")) (more (named (codes "j")) no_more)) (apply op.In (named (codes "LINKS")) none)

-- {(i, j) in LINKS}
abbrev pub in_links : Braces
in_links = filled link_item no_more absent

abbrev pub phrase : Role → Expression → Phrase
phrase r x = record { word = r; body = valued x }

-- >= 0
abbrev pub at_least_0 : Phrase
at_least_0 = phrase (roles.Relation relations.AtLeast) zero_leaf

-- ---- the declarations

-- within (CITIES cross CITIES)
abbrev pub within_cities : Phrase
within_cities = phrase (roles.Relation relations.Within) (parens (chain (named (codes "CITIES")) (apply op.Cross (named (codes "CITIES")) none)))

-- sum {i in CITIES} p[i]
abbrev pub total : List ℕ → List ℕ → Expression
total p i = reduced Sum (in_cities i) (at p i)

-- sum {i in CITIES} supply[i] = sum {j in CITIES} demand[j]
abbrev pub as_much : Expression
as_much = chain (total (codes "supply") (codes "i")) (apply op.Equal (total (codes "demand") (codes "j")) none)

-- net_in = demand[k] - supply[k]
abbrev pub balance : Condition
balance = conditions.one (net false false) op.Equal (chain (at (codes "demand") (codes "k")) (apply op.Minus (at (codes "supply") (codes "k")) none))

-- >= 0, <= capacity[i, j], from Balance[i], to Balance[j], obj Total_Cost cost[i, j]
abbrev pub ship : List Phrase
ship =
    at_least_0
    ∷ phrase (roles.Relation relations.AtMost) (at_both (codes "capacity"))
    ∷ phrase (roles.Phrase begins.From) (at (codes "Balance") (codes "i"))
    ∷ phrase (roles.Phrase begins.To) (at (codes "Balance") (codes "j"))
    ∷ record { word = roles.Phrase begins.Obj; body = priced (codes "Total_Cost") (at_both (codes "cost")) }
    ∷ []

abbrev pub declarations : List Declaration
declarations =
    set (codes "CITIES") []
    ∷ set (codes "LINKS") (within_cities ∷ [])
    ∷ param (codes "supply") (Some (over (codes "CITIES"))) (at_least_0 ∷ [])
    ∷ param (codes "demand") (Some (over (codes "CITIES"))) (at_least_0 ∷ [])
    ∷ check None as_much
    ∷ param (codes "cost") (Some (over (codes "LINKS"))) (at_least_0 ∷ [])
    ∷ param (codes "capacity") (Some (over (codes "LINKS"))) (at_least_0 ∷ [])
    ∷ objective true (codes "Total_Cost") absent
    ∷ node (codes "Balance") (Some (in_cities (codes "k"))) balance
    ∷ arc (codes "Ship") (Some in_links) ship
    ∷ []

-- ---- the data

-- set CITIES := PITT NE SE BOS EWR BWI ATL MCO;
abbrev pub set_cities : Statement
set_cities = statements.Set (record {
  keyword = word (codes "set");
  name = word (codes "CITIES");
  assign = mark (codes ":=");
  items =
      word (codes "PITT") ∷ word (codes "NE") ∷ word (codes "SE") ∷ word (codes "BOS")
      ∷ word (codes "EWR") ∷ word (codes "BWI") ∷ word (codes "ATL") ∷ word (codes "MCO") ∷ [];
  end = mark (codes ";");
})

-- param NAME default 0 := CELLS;
abbrev pub list_of : List ℕ → List Token → Statement
list_of name cells = statements.List (record {
  keyword = word (codes "param");
  name = word name;
  default = Some (record { keyword = word (codes "default"); value = numeral (codes "0") });
  given = Some (record { assign = mark (codes ":="); cells = cells });
  end = mark (codes ";");
})

-- param supply default 0 := PITT 450;
abbrev pub list_supply : Statement
list_supply = list_of (codes "supply") (word (codes "PITT") ∷ numeral (codes "450") ∷ [])

-- param demand default 0 := BOS 90, EWR 120, BWI 120, ATL 70, MCO 50;
abbrev pub list_demand : Statement
list_demand = list_of (codes "demand") (
    word (codes "BOS") ∷ numeral (codes "90") ∷ word (codes "EWR") ∷ numeral (codes "120") ∷ word (codes "BWI") ∷ numeral (codes "120")
    ∷ word (codes "ATL") ∷ numeral (codes "70") ∷ word (codes "MCO") ∷ numeral (codes "50") ∷ []
    )

-- the cells of a link: its ends, its cost and its capacity
abbrev pub cells_of : (i j cost capacity : List ℕ) → List Token
cells_of i j cost capacity = word i ∷ word j ∷ numeral cost ∷ numeral capacity ∷ []

-- param: LINKS: cost capacity := PITT NE 25 250 ..;
abbrev pub columns_links : Statement
columns_links = statements.Columns (record {
  keyword = word (codes "param");
  colon = mark (codes ":");
  set = Some (record { name = word (codes "LINKS"); colon = mark (codes ":") });
  names = word (codes "cost") ∷ word (codes "capacity") ∷ [];
  assign = mark (codes ":=");
  cells =
      cells_of (codes "PITT") (codes "NE") (codes "25") (codes "250")
      ++ cells_of (codes "PITT") (codes "SE") (codes "35") (codes "250")
      ++ cells_of (codes "NE") (codes "BOS") (codes "17") (codes "100")
      ++ cells_of (codes "NE") (codes "EWR") (codes "7") (codes "100")
      ++ cells_of (codes "NE") (codes "BWI") (codes "13") (codes "100")
      ++ cells_of (codes "SE") (codes "EWR") (codes "13") (codes "100")
      ++ cells_of (codes "SE") (codes "BWI") (codes "8") (codes "100")
      ++ cells_of (codes "SE") (codes "ATL") (codes "2") (codes "100")
      ++ cells_of (codes "SE") (codes "MCO") (codes "21") (codes "100");
  end = mark (codes ";");
})

abbrev pub data_statements : List Statement
data_statements = set_cities ∷ list_supply ∷ list_demand ∷ columns_links ∷ []

-- ---- the world

-- a city with its supply and its demand
pub record City : Type 0 where
  pub name : Member
  pub supply : ℤ
  pub demand : ℤ

abbrev pub pitt : City
pitt = record { name = Name (codes "PITT"); supply = pos 450; demand = pos 0 }

abbrev pub ne : City
ne = record { name = Name (codes "NE"); supply = pos 0; demand = pos 0 }

abbrev pub se : City
se = record { name = Name (codes "SE"); supply = pos 0; demand = pos 0 }

abbrev pub bos : City
bos = record { name = Name (codes "BOS"); supply = pos 0; demand = pos 90 }

abbrev pub ewr : City
ewr = record { name = Name (codes "EWR"); supply = pos 0; demand = pos 120 }

abbrev pub bwi : City
bwi = record { name = Name (codes "BWI"); supply = pos 0; demand = pos 120 }

abbrev pub atl : City
atl = record { name = Name (codes "ATL"); supply = pos 0; demand = pos 70 }

abbrev pub mco : City
mco = record { name = Name (codes "MCO"); supply = pos 0; demand = pos 50 }

abbrev pub cities : List City
cities = pitt ∷ ne ∷ se ∷ bos ∷ ewr ∷ bwi ∷ atl ∷ mco ∷ []

-- a link with its cost, its capacity, and its flow in the plan
pub record Link : Type 0 where
  pub start : Member
  pub end : Member
  pub cost : ℤ
  pub capacity : ℤ
  pub flow : ℤ

abbrev pub pitt_ne : Link
pitt_ne = record { start = pitt.name; end = ne.name; cost = pos 25; capacity = pos 250; flow = pos 250 }

abbrev pub pitt_se : Link
pitt_se = record { start = pitt.name; end = se.name; cost = pos 35; capacity = pos 250; flow = pos 200 }

abbrev pub ne_bos : Link
ne_bos = record { start = ne.name; end = bos.name; cost = pos 17; capacity = pos 100; flow = pos 90 }

abbrev pub ne_ewr : Link
ne_ewr = record { start = ne.name; end = ewr.name; cost = pos 7; capacity = pos 100; flow = pos 100 }

abbrev pub ne_bwi : Link
ne_bwi = record { start = ne.name; end = bwi.name; cost = pos 13; capacity = pos 100; flow = pos 60 }

abbrev pub se_ewr : Link
se_ewr = record { start = se.name; end = ewr.name; cost = pos 13; capacity = pos 100; flow = pos 20 }

abbrev pub se_bwi : Link
se_bwi = record { start = se.name; end = bwi.name; cost = pos 8; capacity = pos 100; flow = pos 60 }

abbrev pub se_atl : Link
se_atl = record { start = se.name; end = atl.name; cost = pos 2; capacity = pos 100; flow = pos 70 }

abbrev pub se_mco : Link
se_mco = record { start = se.name; end = mco.name; cost = pos 21; capacity = pos 100; flow = pos 50 }

abbrev pub links : List Link
links = pitt_ne ∷ pitt_se ∷ ne_bos ∷ ne_ewr ∷ ne_bwi ∷ se_ewr ∷ se_bwi ∷ se_atl ∷ se_mco ∷ []

abbrev pub city : City → Tuple
city c = c.name ∷ []

abbrev pub ends : Link → Tuple
ends l = l.start ∷ l.end ∷ []

-- the values of a parameter over the cities, or over the links
abbrev pub of_cities : (City → ℤ) → Tuple → Option Member
of_cities value = at_key (map (λ (c : City). (city c, Number (value c))) cities)

abbrev pub of_links : (Link → ℤ) → Tuple → Option Member
of_links value = at_key (map (λ (l : Link). (ends l, Number (value l))) links)

abbrev pub world_of_sets : World
world_of_sets = (codes "CITIES", SetOf (map city cities)) ∷ (codes "LINKS", SetOf (map ends links)) ∷ []

abbrev pub world_of_demand : World
world_of_demand = world_of_sets ++ (codes "supply", ParameterOf (of_cities (λ c. c.supply))) ∷ (codes "demand", ParameterOf (of_cities (λ c. c.demand))) ∷ []

abbrev pub world : World
world = world_of_demand ++ (codes "cost", ParameterOf (of_links (λ l. l.cost))) ∷ (codes "capacity", ParameterOf (of_links (λ l. l.capacity))) ∷ []

-- ---- the network

-- the key of a city, where a dummy index is the city
abbrev pub key_of : World → List ℕ → City → Key
key_of w i c = bind i c.name (start (env_of w []))

-- the key of a link, where i and j are its ends
abbrev pub key_of_link : Link → Key
key_of_link l = bind (codes "j") l.end (bind (codes "i") l.start (start (env_of world [])))

abbrev pub node_of : City → Node
node_of c = record {
  label = record { name = codes "Balance"; indexed = true; key = city c };
  env = (key_of world (codes "k") c).env;
  condition = balance;
}

abbrev pub arc_of : Link → Arc
arc_of l = record {
  label = record { name = codes "Ship"; indexed = true; key = ends l };
  lower = pos 0;
  upper = l.capacity;
  from = Some (codes "Balance", l.start ∷ []);
  to = Some (codes "Balance", l.end ∷ []);
  coefficient = l.cost;
}

abbrev pub total_cost : Objective
total_cost = record { sense = Minimise; name = codes "Total_Cost"; env = world; arcs = []; expression = absent }

abbrev pub plan : Assignment
plan n key = unwrap_or (lookup (same_tuple key) (map (λ (l : Link). (ends l, l.flow)) links)) (pos 0)
