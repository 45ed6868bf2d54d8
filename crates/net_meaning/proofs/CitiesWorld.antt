-- The statements of the eight cities give their world, in which the check holds: the supply is as much as the demand.
use Rattle.std.specs.Prelude.{◌≡◌, ◌+◌, ℕ, true, false, List, [], ◌∷◌, ◌++◌, map, length, Option, None, Some, codes, ℤ, pos, int_le}
use Rattle.std.specs.List.{AllByRecursion}
use Rattle.std.specs.Option.{ForSome}
use Rattle.std.proofs.Common.{refl, ap, ◌∙◌, sym, subst, inl, inr, arith}
use Rattle.std.proofs.lemmas.Bool.{false≢true}
use Rattle.std.proofs.lemmas.Cmp.{nat_list_eq_equiv}
use Rattle.net_data.specs.declared.statement.Given.{Given}
use Rattle.net_data.specs.declared.statement.NamedSet.{NamedSet}
use Rattle.net_data.specs.Rows.{DataRow}
use Rattle.net_sets.specs.Names as names
use Rattle.net_sets.specs.Operations.{union, product}
use Rattle.net_sets.specs.Sets.{Tuple, same_member, same_tuple}
use Rattle.net_sets.specs.Texts.{same_text}
use Rattle.net_sets.specs.declared.member.Member.{Member}
use Rattle.net_sets.specs.declared.member.Member.TheVariants.{Number, Name}
use Rattle.net_tree.specs.Role.{role_of, marks, keys}
use Rattle.net_tree.specs.declared.operator.BinOp.TheVariants as op
use Rattle.net_tree.specs.declared.role.Relation.TheVariants as relations
use Rattle.net_tree.specs.declared.role.Role.TheVariants as roles
use Rattle.net_tree.specs.Syntax.{parens, chain, none, apply}
use Rattle.net_expr.specs.Worlds.{bound}
use Rattle.net_meaning.specs.Operators as results
use Rattle.net_meaning.specs.Operators.{One, Many, Truth, number, IsResult}
use Rattle.net_meaning.specs.Values.{SetOf, ParameterOf, World, Key, env_of, start, a_set, parameter, dummy, MatchesWhole, new_dummy, IsValue, AreKeys}
use Rattle.net_meaning.specs.World.{SatisfiesRole, Satisfies, IsSet, IsParameter, Fits, IsOfKind, row, data_default, AreWhole, AreNamesIn, sets_in, IsWorld}
use Rattle.net_meaning.specs.Network.{with_inflow}
use Rattle.net_meaning.proofs.Cities.{word, numeral, named, at, over, in_cities, total, at_least_0, within_cities, as_much, declarations, data_statements, City, cities, pitt, ne, se, bos, ewr, bwi, atl, mco, Link, links, city, ends, key_of, of_cities, of_links, world_of_sets, world_of_demand, world}
use Rattle.net_meaning.proofs.CitiesLemmas.{n0, n450, n90, n120, n70, n50, n25, n35, n17, n7, n13, n8, n2, n21, n250, n100, each, all_left, have_lengths, key_over, keys_over, for_some, are_distinct, have_length, all_keys, none_elsewhere}

-- ---- sets

abbrev world_of_cities : World
world_of_cities = (codes "CITIES", SetOf (map city cities)) ∷ []

are_cities : IsSet [] data_statements (codes "CITIES") [] (map city cities)
are_cities = record {
  dimension = 1;
  distinct = are_distinct same_tuple (map city cities) refl;
  lengths = have_length 1 (map city cities) refl;
  single = λ h. refl;
  phrases = tt;
  members = (refl, (tt, (tt, (tt, (tt, tt)))), ((refl, tt), ((refl, tt), ((refl, tt), ((refl, tt), ((refl, tt), ((refl, tt), ((refl, tt), ((refl, tt), tt)))))))));
}

-- CITIES cross CITIES
abbrev pairs : List Tuple
pairs = union [] (product (map city cities) (map city cities))

are_pairs : IsValue (env_of world_of_cities []) (parens (chain (named (codes "CITIES")) (apply op.Cross (named (codes "CITIES")) none))) (Many pairs)
are_pairs = (Many (map city cities), a_set (map city cities) refl refl, (Many pairs, inr (Many (map city cities), a_set (map city cities) refl refl, results.cross (map city cities) (map city cities)), refl))

are_within : Satisfies world_of_cities 2 (map ends links) within_cities
are_within = for_some (SatisfiesRole world_of_cities 2 (map ends links) (roles.Relation relations.Within)) _ (pairs, are_pairs, have_length 2 pairs refl, refl)

are_links : IsSet world_of_cities data_statements (codes "LINKS") (within_cities ∷ []) (map ends links)
are_links = record {
  dimension = 2;
  distinct = are_distinct same_tuple (map ends links) refl;
  lengths = have_length 2 (map ends links) refl;
  single = λ h. cc;
  phrases = (are_within, tt);
  members = (refl, (tt, (tt, (tt, ((refl, (refl, (refl, (refl, (refl, (refl, (refl, (refl, (refl, tt))))))))), tt)))), ((refl, (refl, tt)), ((refl, (refl, tt)), ((refl, (refl, tt)), ((refl, (refl, tt)), ((refl, (refl, tt)), ((refl, (refl, tt)), ((refl, (refl, tt)), ((refl, (refl, tt)), ((refl, (refl, tt)), tt))))))))));
}

-- ---- parameters

names_differ : (a b : List ℕ) → same_text a b ≡ false → Name a ≡ Name b → ⊥
names_differ a b h e = false≢true (sym h ∙ ap (λ (m : Member). same_member m (Name b)) e ∙ nat_list_eq_equiv.refl b)

-- a number that is not negative satisfies `>= 0`
fits : (w : World) (n : ℤ) → int_le (pos 0) n ≡ true → ForSome (Some (Number n)) (λ m. AllByRecursion (Fits (env_of w []) m) (at_least_0 ∷ []) × IsOfKind (at_least_0 ∷ []) m)
unfolding role_of marks keys
fits w n h = for_some (λ m. AllByRecursion (Fits (env_of w []) m) (at_least_0 ∷ []) × IsOfKind (at_least_0 ∷ []) m) (Number n) (((number (pos 0), (pos 0, n0, refl), subst (λ b. IsResult op.AtLeast (number n) (number (pos 0)) (Truth b)) h (results.at_least n (pos 0))), tt), tt)

-- a row of a list, and a row of the columns
abbrev entry : (t v : List ℕ) → DataRow
entry t v = record { keys = word t ∷ []; value = numeral v }

abbrev entry_at : (t u v : List ℕ) → DataRow
entry_at t u v = record { keys = word t ∷ word u ∷ []; value = numeral v }

abbrev world_of_supply : World
world_of_supply = world_of_sets ++ (codes "supply", ParameterOf (of_cities (λ c. c.supply))) ∷ []

abbrev world_of_cost : World
world_of_cost = world_of_demand ++ (codes "cost", ParameterOf (of_links (λ l. l.cost))) ∷ []

are_supply : IsParameter world_of_sets data_statements (codes "supply") (Some (over (codes "CITIES"))) (at_least_0 ∷ []) (of_cities (λ c. c.supply))
are_supply = record {
  keys = map (key_over world_of_sets city) cities;
  size = 1;
  indexed = keys_over world_of_sets (codes "CITIES") 1 city (λ c. refl) cities refl;
  lengths = all_keys (λ (k : Key). length k.key ≡ 1) (key_over world_of_sets city) (λ c. refl) cities;
  values = (
    row (entry (codes "PITT") (codes "450")) (Number (pos 450)) (0, omega arith, refl) (refl, tt) (pos 450, n450, refl),
    (
      data_default (numeral (codes "0")) (Number (pos 0)) ((λ h. names_differ (codes "NE") (codes "PITT") refl h.0), tt) refl (0, omega arith, refl) (pos 0, n0, refl),
      (
        data_default (numeral (codes "0")) (Number (pos 0)) ((λ h. names_differ (codes "SE") (codes "PITT") refl h.0), tt) refl (0, omega arith, refl) (pos 0, n0, refl),
        (
          data_default (numeral (codes "0")) (Number (pos 0)) ((λ h. names_differ (codes "BOS") (codes "PITT") refl h.0), tt) refl (0, omega arith, refl) (pos 0, n0, refl),
          (
            data_default (numeral (codes "0")) (Number (pos 0)) ((λ h. names_differ (codes "EWR") (codes "PITT") refl h.0), tt) refl (0, omega arith, refl) (pos 0, n0, refl),
            (
              data_default (numeral (codes "0")) (Number (pos 0)) ((λ h. names_differ (codes "BWI") (codes "PITT") refl h.0), tt) refl (0, omega arith, refl) (pos 0, n0, refl),
              (
                data_default (numeral (codes "0")) (Number (pos 0)) ((λ h. names_differ (codes "ATL") (codes "PITT") refl h.0), tt) refl (0, omega arith, refl) (pos 0, n0, refl),
                (data_default (numeral (codes "0")) (Number (pos 0)) ((λ h. names_differ (codes "MCO") (codes "PITT") refl h.0), tt) refl (0, omega arith, refl) (pos 0, n0, refl), tt),
              ),
            ),
          ),
        ),
      ),
    ),
  );
  elsewhere = none_elsewhere world_of_sets city (λ (c : City). Number c.supply) cities;
  fits = (fits world_of_sets (pos 450) refl, (fits world_of_sets (pos 0) refl, (fits world_of_sets (pos 0) refl, (fits world_of_sets (pos 0) refl, (fits world_of_sets (pos 0) refl, (fits world_of_sets (pos 0) refl, (fits world_of_sets (pos 0) refl, (fits world_of_sets (pos 0) refl, tt))))))));
  whole = (tt, (for_some (λ (g : Given). AreWhole 2 g.cells) _ (refl, tt), (tt, (tt, tt))));
  subscripts = (Name (codes "PITT") ∷ []) ∷ [];
  read = ((refl, tt), tt);
  inside = (refl, tt);
  once = are_distinct same_tuple _ refl;
  assigned = inl refl;
  defaults = omega arith;
}

are_demand : IsParameter world_of_supply data_statements (codes "demand") (Some (over (codes "CITIES"))) (at_least_0 ∷ []) (of_cities (λ c. c.demand))
are_demand = record {
  keys = map (key_over world_of_supply city) cities;
  size = 1;
  indexed = keys_over world_of_supply (codes "CITIES") 1 city (λ c. refl) cities refl;
  lengths = all_keys (λ (k : Key). length k.key ≡ 1) (key_over world_of_supply city) (λ c. refl) cities;
  values = (
    data_default (numeral (codes "0")) (Number (pos 0)) ((λ h. names_differ (codes "PITT") (codes "BOS") refl h.0), ((λ h. names_differ (codes "PITT") (codes "EWR") refl h.0), ((λ h. names_differ (codes "PITT") (codes "BWI") refl h.0), ((λ h. names_differ (codes "PITT") (codes "ATL") refl h.0), ((λ h. names_differ (codes "PITT") (codes "MCO") refl h.0), tt))))) refl (0, omega arith, refl) (pos 0, n0, refl),
    (
      data_default (numeral (codes "0")) (Number (pos 0)) ((λ h. names_differ (codes "NE") (codes "BOS") refl h.0), ((λ h. names_differ (codes "NE") (codes "EWR") refl h.0), ((λ h. names_differ (codes "NE") (codes "BWI") refl h.0), ((λ h. names_differ (codes "NE") (codes "ATL") refl h.0), ((λ h. names_differ (codes "NE") (codes "MCO") refl h.0), tt))))) refl (0, omega arith, refl) (pos 0, n0, refl),
      (
        data_default (numeral (codes "0")) (Number (pos 0)) ((λ h. names_differ (codes "SE") (codes "BOS") refl h.0), ((λ h. names_differ (codes "SE") (codes "EWR") refl h.0), ((λ h. names_differ (codes "SE") (codes "BWI") refl h.0), ((λ h. names_differ (codes "SE") (codes "ATL") refl h.0), ((λ h. names_differ (codes "SE") (codes "MCO") refl h.0), tt))))) refl (0, omega arith, refl) (pos 0, n0, refl),
        (
          row (entry (codes "BOS") (codes "90")) (Number (pos 90)) (0, omega arith, refl) (refl, tt) (pos 90, n90, refl),
          (
            row (entry (codes "EWR") (codes "120")) (Number (pos 120)) (1, omega arith, refl) (refl, tt) (pos 120, n120, refl),
            (
              row (entry (codes "BWI") (codes "120")) (Number (pos 120)) (2, omega arith, refl) (refl, tt) (pos 120, n120, refl),
              (
                row (entry (codes "ATL") (codes "70")) (Number (pos 70)) (3, omega arith, refl) (refl, tt) (pos 70, n70, refl),
                (row (entry (codes "MCO") (codes "50")) (Number (pos 50)) (4, omega arith, refl) (refl, tt) (pos 50, n50, refl), tt),
              ),
            ),
          ),
        ),
      ),
    ),
  );
  elsewhere = none_elsewhere world_of_supply city (λ (c : City). Number c.demand) cities;
  fits = (fits world_of_supply (pos 0) refl, (fits world_of_supply (pos 0) refl, (fits world_of_supply (pos 0) refl, (fits world_of_supply (pos 90) refl, (fits world_of_supply (pos 120) refl, (fits world_of_supply (pos 120) refl, (fits world_of_supply (pos 70) refl, (fits world_of_supply (pos 50) refl, tt))))))));
  whole = (tt, (tt, (for_some (λ (g : Given). AreWhole 2 g.cells) _ (refl, (refl, (refl, (refl, (refl, tt))))), (tt, tt))));
  subscripts = (Name (codes "BOS") ∷ []) ∷ (Name (codes "EWR") ∷ []) ∷ (Name (codes "BWI") ∷ []) ∷ (Name (codes "ATL") ∷ []) ∷ (Name (codes "MCO") ∷ []) ∷ [];
  read = ((refl, tt), ((refl, tt), ((refl, tt), ((refl, tt), ((refl, tt), tt)))));
  inside = (refl, (refl, (refl, (refl, (refl, tt)))));
  once = are_distinct same_tuple _ refl;
  assigned = inl refl;
  defaults = omega arith;
}

are_cost : IsParameter world_of_demand data_statements (codes "cost") (Some (over (codes "LINKS"))) (at_least_0 ∷ []) (of_links (λ l. l.cost))
are_cost = record {
  keys = map (key_over world_of_demand ends) links;
  size = 2;
  indexed = keys_over world_of_demand (codes "LINKS") 2 ends (λ l. refl) links refl;
  lengths = all_keys (λ (k : Key). length k.key ≡ 2) (key_over world_of_demand ends) (λ l. refl) links;
  values = (
    row (entry_at (codes "PITT") (codes "NE") (codes "25")) (Number (pos 25)) (0, omega arith, refl) (refl, (refl, tt)) (pos 25, n25, refl),
    (
      row (entry_at (codes "PITT") (codes "SE") (codes "35")) (Number (pos 35)) (1, omega arith, refl) (refl, (refl, tt)) (pos 35, n35, refl),
      (
        row (entry_at (codes "NE") (codes "BOS") (codes "17")) (Number (pos 17)) (2, omega arith, refl) (refl, (refl, tt)) (pos 17, n17, refl),
        (
          row (entry_at (codes "NE") (codes "EWR") (codes "7")) (Number (pos 7)) (3, omega arith, refl) (refl, (refl, tt)) (pos 7, n7, refl),
          (
            row (entry_at (codes "NE") (codes "BWI") (codes "13")) (Number (pos 13)) (4, omega arith, refl) (refl, (refl, tt)) (pos 13, n13, refl),
            (
              row (entry_at (codes "SE") (codes "EWR") (codes "13")) (Number (pos 13)) (5, omega arith, refl) (refl, (refl, tt)) (pos 13, n13, refl),
              (
                row (entry_at (codes "SE") (codes "BWI") (codes "8")) (Number (pos 8)) (6, omega arith, refl) (refl, (refl, tt)) (pos 8, n8, refl),
                (
                  row (entry_at (codes "SE") (codes "ATL") (codes "2")) (Number (pos 2)) (7, omega arith, refl) (refl, (refl, tt)) (pos 2, n2, refl),
                  (row (entry_at (codes "SE") (codes "MCO") (codes "21")) (Number (pos 21)) (8, omega arith, refl) (refl, (refl, tt)) (pos 21, n21, refl), tt),
                ),
              ),
            ),
          ),
        ),
      ),
    ),
  );
  elsewhere = none_elsewhere world_of_demand ends (λ (l : Link). Number l.cost) links;
  fits = (fits world_of_demand (pos 25) refl, (fits world_of_demand (pos 35) refl, (fits world_of_demand (pos 17) refl, (fits world_of_demand (pos 7) refl, (fits world_of_demand (pos 13) refl, (fits world_of_demand (pos 13) refl, (fits world_of_demand (pos 8) refl, (fits world_of_demand (pos 2) refl, (fits world_of_demand (pos 21) refl, tt)))))))));
  whole = (tt, (tt, (tt, ((refl, (refl, (refl, (refl, (refl, (refl, (refl, (refl, (refl, tt))))))))), tt))));
  subscripts = map ends links;
  read = ((refl, (refl, tt)), ((refl, (refl, tt)), ((refl, (refl, tt)), ((refl, (refl, tt)), ((refl, (refl, tt)), ((refl, (refl, tt)), ((refl, (refl, tt)), ((refl, (refl, tt)), ((refl, (refl, tt)), tt)))))))));
  inside = (refl, (refl, (refl, (refl, (refl, (refl, (refl, (refl, (refl, tt)))))))));
  once = are_distinct same_tuple (map ends links) refl;
  assigned = inl refl;
  defaults = omega arith;
}

are_capacity : IsParameter world_of_cost data_statements (codes "capacity") (Some (over (codes "LINKS"))) (at_least_0 ∷ []) (of_links (λ l. l.capacity))
are_capacity = record {
  keys = map (key_over world_of_cost ends) links;
  size = 2;
  indexed = keys_over world_of_cost (codes "LINKS") 2 ends (λ l. refl) links refl;
  lengths = all_keys (λ (k : Key). length k.key ≡ 2) (key_over world_of_cost ends) (λ l. refl) links;
  values = (
    row (entry_at (codes "PITT") (codes "NE") (codes "250")) (Number (pos 250)) (0, omega arith, refl) (refl, (refl, tt)) (pos 250, n250, refl),
    (
      row (entry_at (codes "PITT") (codes "SE") (codes "250")) (Number (pos 250)) (1, omega arith, refl) (refl, (refl, tt)) (pos 250, n250, refl),
      (
        row (entry_at (codes "NE") (codes "BOS") (codes "100")) (Number (pos 100)) (2, omega arith, refl) (refl, (refl, tt)) (pos 100, n100, refl),
        (
          row (entry_at (codes "NE") (codes "EWR") (codes "100")) (Number (pos 100)) (3, omega arith, refl) (refl, (refl, tt)) (pos 100, n100, refl),
          (
            row (entry_at (codes "NE") (codes "BWI") (codes "100")) (Number (pos 100)) (4, omega arith, refl) (refl, (refl, tt)) (pos 100, n100, refl),
            (
              row (entry_at (codes "SE") (codes "EWR") (codes "100")) (Number (pos 100)) (5, omega arith, refl) (refl, (refl, tt)) (pos 100, n100, refl),
              (
                row (entry_at (codes "SE") (codes "BWI") (codes "100")) (Number (pos 100)) (6, omega arith, refl) (refl, (refl, tt)) (pos 100, n100, refl),
                (
                  row (entry_at (codes "SE") (codes "ATL") (codes "100")) (Number (pos 100)) (7, omega arith, refl) (refl, (refl, tt)) (pos 100, n100, refl),
                  (row (entry_at (codes "SE") (codes "MCO") (codes "100")) (Number (pos 100)) (8, omega arith, refl) (refl, (refl, tt)) (pos 100, n100, refl), tt),
                ),
              ),
            ),
          ),
        ),
      ),
    ),
  );
  elsewhere = none_elsewhere world_of_cost ends (λ (l : Link). Number l.capacity) links;
  fits = (fits world_of_cost (pos 250) refl, (fits world_of_cost (pos 250) refl, (fits world_of_cost (pos 100) refl, (fits world_of_cost (pos 100) refl, (fits world_of_cost (pos 100) refl, (fits world_of_cost (pos 100) refl, (fits world_of_cost (pos 100) refl, (fits world_of_cost (pos 100) refl, (fits world_of_cost (pos 100) refl, tt)))))))));
  whole = (tt, (tt, (tt, ((refl, (refl, (refl, (refl, (refl, (refl, (refl, (refl, (refl, tt))))))))), tt))));
  subscripts = map ends links;
  read = ((refl, (refl, tt)), ((refl, (refl, tt)), ((refl, (refl, tt)), ((refl, (refl, tt)), ((refl, (refl, tt)), ((refl, (refl, tt)), ((refl, (refl, tt)), ((refl, (refl, tt)), ((refl, (refl, tt)), tt)))))))));
  inside = (refl, (refl, (refl, (refl, (refl, (refl, (refl, (refl, (refl, tt)))))))));
  once = are_distinct same_tuple (map ends links) refl;
  assigned = inl refl;
  defaults = omega arith;
}

-- ---- the check

-- the keys of {i in CITIES}
pub keys_in_cities : (w : World) (i : List ℕ) → new_dummy (env_of w []) (named i) ≡ Some i → names.named w (codes "CITIES") ≡ Some (SetOf (map city cities)) → AreKeys (env_of w []) (in_cities i) (map (key_of w i) cities)
keys_in_cities w i new h = inl (
  map (key_of w i) cities,
  (map city cities, a_set (map city cities) refl h, each place city (key_of w i) taken cities),
  (1, have_lengths 1 (key_of w i) (λ c. refl) cities),
  all_left (map (key_of w i) cities),
)
  where
    place : Tuple → Option Key → Type 0
    place t r = MatchesWhole (start (env_of w [])) (new_dummy (env_of w []) (named i)) (IsValue (env_of w []) (named i)) t r

    taken : (c : City) → place (city c) (Some (key_of w i c))
    taken c = subst (λ o. MatchesWhole (start (env_of w [])) o (IsValue (env_of w []) (named i)) (city c) (Some (key_of w i c))) (sym new) refl

-- p[i] at the key of a city, and at each net inflow
pub value_at : (w : World) (p i : List ℕ) (value : City → ℤ) (y : ℤ) (c : City) → bound (key_of w i c).env.dummies i ≡ Some c.name → bound (key_of w i c).env.dummies p ≡ None → names.named w p ≡ Some (ParameterOf (of_cities value))
    → of_cities value (city c) ≡ Some (Number (value c)) → IsValue (with_inflow (key_of w i c).env y) (at p i) (number (value c))
value_at w p i value y c own other h k = (
  city c,
  (One c.name, [], dummy c.name own, refl, refl),
  parameter (of_cities value) (city c) (Number (value c)) other h k,
)

supplied : IsValue (env_of world_of_demand []) (total (codes "supply") (codes "i")) (number (pos 450))
unfolding role_of marks keys
supplied = (
  map (key_of world_of_demand (codes "i")) cities,
  map (λ (c : City). c.supply) cities,
  pos 450,
  keys_in_cities world_of_demand (codes "i") refl refl,
  (value_at world_of_demand (codes "supply") (codes "i") (λ c. c.supply) (pos 0) pitt refl refl refl refl, (value_at world_of_demand (codes "supply") (codes "i") (λ c. c.supply) (pos 0) ne refl refl refl refl, (value_at world_of_demand (codes "supply") (codes "i") (λ c. c.supply) (pos 0) se refl refl refl refl, (value_at world_of_demand (codes "supply") (codes "i") (λ c. c.supply) (pos 0) bos refl refl refl refl, (value_at world_of_demand (codes "supply") (codes "i") (λ c. c.supply) (pos 0) ewr refl refl refl refl, (value_at world_of_demand (codes "supply") (codes "i") (λ c. c.supply) (pos 0) bwi refl refl refl refl, (value_at world_of_demand (codes "supply") (codes "i") (λ c. c.supply) (pos 0) atl refl refl refl refl, (value_at world_of_demand (codes "supply") (codes "i") (λ c. c.supply) (pos 0) mco refl refl refl refl, tt)))))))),
  refl,
  refl,
)

demanded : IsValue (env_of world_of_demand []) (total (codes "demand") (codes "j")) (number (pos 450))
unfolding role_of marks keys
demanded = (
  map (key_of world_of_demand (codes "j")) cities,
  map (λ (c : City). c.demand) cities,
  pos 450,
  keys_in_cities world_of_demand (codes "j") refl refl,
  (value_at world_of_demand (codes "demand") (codes "j") (λ c. c.demand) (pos 0) pitt refl refl refl refl, (value_at world_of_demand (codes "demand") (codes "j") (λ c. c.demand) (pos 0) ne refl refl refl refl, (value_at world_of_demand (codes "demand") (codes "j") (λ c. c.demand) (pos 0) se refl refl refl refl, (value_at world_of_demand (codes "demand") (codes "j") (λ c. c.demand) (pos 0) bos refl refl refl refl, (value_at world_of_demand (codes "demand") (codes "j") (λ c. c.demand) (pos 0) ewr refl refl refl refl, (value_at world_of_demand (codes "demand") (codes "j") (λ c. c.demand) (pos 0) bwi refl refl refl refl, (value_at world_of_demand (codes "demand") (codes "j") (λ c. c.demand) (pos 0) atl refl refl refl refl, (value_at world_of_demand (codes "demand") (codes "j") (λ c. c.demand) (pos 0) mco refl refl refl refl, tt)))))))),
  refl,
  refl,
)

is_as_much : IsValue (env_of world_of_demand []) as_much (Truth true)
is_as_much = (number (pos 450), supplied, (Truth true, inr (number (pos 450), demanded, results.equal (Number (pos 450)) (Number (pos 450))), refl))

-- ---- the world

pub is_world : IsWorld declarations data_statements world
is_world = record {
  bound = (
    map city cities,
    are_cities,
    (
      map ends links,
      are_links,
      (
        of_cities (λ c. c.supply),
        are_supply,
        (
          of_cities (λ c. c.demand),
          are_demand,
          (
            start (env_of world_of_demand []) ∷ [],
            refl,
            (is_as_much, tt),
            (
              of_links (λ l. l.cost),
              are_cost,
              (of_links (λ l. l.capacity), are_capacity, refl),
            ),
          ),
        ),
      ),
    ),
  );
  declared = (
    ((0, omega arith, refl), tt),
    (
      ((0, omega arith, refl), tt),
      (
        ((1, omega arith, refl), tt),
        (
          (for_some (λ (s : NamedSet). AreNamesIn (sets_in declarations) (s.name ∷ [])) _ ((1, omega arith, refl), tt), ((2, omega arith, refl), ((3, omega arith, refl), tt))),
          tt,
        ),
      ),
    ),
  );
}
