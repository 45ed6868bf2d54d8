-- In their world the eight cities have their network, in which the plan is feasible and costs 18190.
use Rattle.std.specs.Prelude.{◌≡◌, ℕ, List, [], ◌∷◌, map, None, Some, codes, ℤ, pos, ◌+ℤ◌, ◌-ℤ◌, ◌*ℤ◌, ◌≤ℤ◌}
use Rattle.std.specs.List.{AllZip}
use Rattle.std.proofs.Common.{refl, ap, ◌∙◌, sym, subst, inl, inr, arith}
use Rattle.std.proofs.lemmas.Cmp.{int_eq_equiv}
use Rattle.std.proofs.lemmas.Int.{ints}
use Rattle.net_sets.specs.Names as names
use Rattle.net_sets.specs.declared.member.Member.TheVariants.{Number}
use Rattle.net_tree.specs.declared.operator.BinOp.TheVariants as op
use Rattle.net_tree.specs.Syntax.{chain, none, apply}
use Rattle.net_tree.specs.Role.{role_of, marks, keys}
use Rattle.net_expr.specs.Worlds.{bound}
use Rattle.net_meaning.specs.Operators as results
use Rattle.net_meaning.specs.Operators.{One, Truth, number, IsResult}
use Rattle.net_meaning.specs.Values.{ParameterOf, env_of, start, a_set, parameter, dummy, Extends, IsValue, AreKeys}
use Rattle.net_meaning.specs.Network.{Node, Arc, IsArc, IsNode, name_and_key, Network, IsNetwork, Assignment, same_label, flow_on, net_inflow, coefficient_terms, HasSides, IsEvaluated, with_inflow, IsSatisfied, IsSatisfiedBy, IsFeasible, HasValue}
use Rattle.net_meaning.proofs.Cities.{at, at_both, in_cities, link_item, in_links, balance, ship, declarations, City, cities, pitt, ne, se, bos, ewr, bwi, atl, mco, Link, links, pitt_ne, pitt_se, ne_bos, ne_ewr, ne_bwi, se_ewr, se_bwi, se_atl, se_mco, city, ends, of_cities, of_links, world, key_of, key_of_link, node_of, arc_of, total_cost, plan}
use Rattle.net_meaning.proofs.CitiesLemmas.{n0, each, all_left, have_lengths, are_distinct}
use Rattle.net_meaning.proofs.CitiesWorld.{keys_in_cities, value_at}

-- ---- arcs

-- the keys of {(i, j) in LINKS}
keys_in_links : AreKeys (env_of world []) in_links (map key_of_link links)
unfolding role_of marks keys
keys_in_links = inl (
  map key_of_link links,
  (map ends links, a_set (map ends links) refl refl, each (Extends (start (env_of world [])) link_item) ends key_of_link (λ l. (refl, refl)) links),
  (2, have_lengths 2 key_of_link (λ l. refl) links),
  all_left (map key_of_link links),
)

-- p[i, j] at the key of a link
value_at_link : (p : List ℕ) (value : Link → ℤ) (l : Link) → bound (key_of_link l).env.dummies p ≡ None → names.named world p ≡ Some (ParameterOf (of_links value))
    → of_links value (ends l) ≡ Some (Number (value l)) → IsValue (key_of_link l).env (at_both p) (number (value l))
unfolding role_of marks keys
value_at_link p value l other h k = (
  ends l,
  (One l.start, One l.end ∷ [], dummy l.start refl, (One l.end, [], dummy l.end refl, refl, refl), refl),
  parameter (of_links value) (ends l) (Number (value l)) other h k,
)

-- a link's arc, given that the tables have its capacity and its cost
is_ship : (l : Link) → of_links (λ x. x.capacity) (ends l) ≡ Some (Number l.capacity)
    → of_links (λ x. x.cost) (ends l) ≡ Some (Number l.cost) → pos 0 ≤ℤ l.capacity → IsArc (codes "Total_Cost") (codes "Ship") (Some in_links) ship (key_of_link l) (arc_of l)
unfolding role_of marks keys
is_ship l capacity cost h = record {
  label = refl;
  lower = (pos 0, n0, refl);
  upper = value_at_link (codes "capacity") (λ x. x.capacity) l refl refl capacity;
  ordered = h;
  from = name_and_key (codes "Balance") _ _ (l.start ∷ []) (One l.start, [], dummy l.start refl, refl, refl);
  to = name_and_key (codes "Balance") _ _ (l.end ∷ []) (One l.end, [], dummy l.end refl, refl, refl);
  coefficient = (pos 0, l.cost, refl, (pos 0, l.cost, refl, (pos 0, l.cost, refl, (pos 0, l.cost, refl, (l.cost, pos 0, value_at_link (codes "cost") (λ x. x.cost) l refl refl cost, refl, omega (arith, ints)), omega (arith, ints)), omega (arith, ints)), omega (arith, ints)), omega (arith, ints));
}

-- ---- the network

abbrev pub eight_cities : Network
eight_cities = record { nodes = map node_of cities; arcs = map arc_of links; objective = total_cost }

are_nodes : AllZip (IsNode (codes "Balance") (Some (in_cities (codes "k"))) balance) (map (key_of world (codes "k")) cities) (map node_of cities)
are_nodes = (refl, (refl, (refl, (refl, (refl, (refl, (refl, (refl, tt))))))))

are_arcs : AllZip (IsArc (codes "Total_Cost") (codes "Ship") (Some in_links) ship) (map key_of_link links) (map arc_of links)
are_arcs = (
  is_ship pitt_ne refl refl (omega (arith, ints)),
  (
    is_ship pitt_se refl refl (omega (arith, ints)),
    (
      is_ship ne_bos refl refl (omega (arith, ints)),
      (
        is_ship ne_ewr refl refl (omega (arith, ints)),
        (
          is_ship ne_bwi refl refl (omega (arith, ints)),
          (
            is_ship se_ewr refl refl (omega (arith, ints)),
            (
              is_ship se_bwi refl refl (omega (arith, ints)),
              (
                is_ship se_atl refl refl (omega (arith, ints)),
                (is_ship se_mco refl refl (omega (arith, ints)), tt),
              ),
            ),
          ),
        ),
      ),
    ),
  ),
)

pub is_network : IsNetwork None world declarations eight_cities
unfolding role_of marks keys
is_network = record {
  objective = refl;
  priced = (tt, (tt, (tt, (tt, (tt, (tt, (tt, (tt, (tt, (((tt, (tt, (tt, (tt, (refl, tt)))))), tt))))))))));
  nodes = ([], _, refl, ([], _, refl, ([], _, refl, ([], _, refl, ([], _, refl, ([], _, refl, ([], _, refl, ([], _, refl, (map node_of cities, [], (map (key_of world (codes "k")) cities, keys_in_cities world (codes "k") refl refl, are_nodes), ([], [], refl, refl, refl), refl), refl), refl), refl), refl), refl), refl), refl), refl);
  arcs = ([], _, refl, ([], _, refl, ([], _, refl, ([], _, refl, ([], _, refl, ([], _, refl, ([], _, refl, ([], _, refl, ([], _, refl, (map arc_of links, [], (map key_of_link links, keys_in_links, are_arcs), refl, refl), refl), refl), refl), refl), refl), refl), refl), refl), refl);
  ends = ((refl, refl, refl), ((refl, refl, refl), ((refl, refl, refl), ((refl, refl, refl), ((refl, refl, refl), ((refl, refl, refl), ((refl, refl, refl), ((refl, refl, refl), ((refl, refl, refl), tt)))))))));
  nodes_apart = are_distinct same_label (map (λ (v : Node). v.label) (map node_of cities)) refl;
  arcs_apart = are_distinct same_label (map (λ (a : Arc). a.label) (map arc_of links)) refl;
}

-- ---- the plan

-- the flow on a link's arc, given that the plan has it
is_within : (l : Link) → flow_on plan (arc_of l) ≡ l.flow → pos 0 ≤ℤ l.flow → l.flow ≤ℤ l.capacity → (pos 0 ≤ℤ flow_on plan (arc_of l)) × (flow_on plan (arc_of l) ≤ℤ l.capacity)
is_within l h low high = (subst (λ n. pos 0 ≤ℤ n) (sym h) low, subst (λ n. n ≤ℤ l.capacity) (sym h) high)

-- demand[k] - supply[k] at the key of a city, given that the tables have them
needed : (y : ℤ) (c : City) → of_cities (λ x. x.demand) (city c) ≡ Some (Number c.demand) → of_cities (λ x. x.supply) (city c) ≡ Some (Number c.supply)
    → IsValue (with_inflow (key_of world (codes "k") c).env y) (chain (at (codes "demand") (codes "k")) (apply op.Minus (at (codes "supply") (codes "k")) none)) (number (c.demand -ℤ c.supply))
unfolding role_of marks keys
needed y c demand supply = (
  number c.demand,
  value_at world (codes "demand") (codes "k") (λ x. x.demand) y c refl refl refl demand,
  (number (c.demand -ℤ c.supply), inr (number c.supply, value_at world (codes "supply") (codes "k") (λ x. x.supply) y c refl refl refl supply, results.minus c.demand c.supply), refl),
)

is_balanced : (c : City) → of_cities (λ x. x.demand) (city c) ≡ Some (Number c.demand) → of_cities (λ x. x.supply) (city c) ≡ Some (Number c.supply)
    → net_inflow (map arc_of links) plan (node_of c).label ≡ c.demand -ℤ c.supply → IsSatisfiedBy (map arc_of links) plan (node_of c)
is_balanced c demand supply h = subst (IsSatisfied (node_of c).env balance) (sym h) (
  number (c.demand -ℤ c.supply),
  number (c.demand -ℤ c.supply),
  refl,
  needed (c.demand -ℤ c.supply) c demand supply,
  subst (λ b. IsResult op.Equal (number (c.demand -ℤ c.supply)) (number (c.demand -ℤ c.supply)) (Truth b)) (int_eq_equiv.refl (c.demand -ℤ c.supply)) (results.equal (Number (c.demand -ℤ c.supply)) (Number (c.demand -ℤ c.supply))),
)

pub is_feasible : IsFeasible eight_cities plan
is_feasible = record {
  bounds = (
    is_within pitt_ne refl (omega (arith, ints)) (omega (arith, ints)),
    (
      is_within pitt_se refl (omega (arith, ints)) (omega (arith, ints)),
      (
        is_within ne_bos refl (omega (arith, ints)) (omega (arith, ints)),
        (
          is_within ne_ewr refl (omega (arith, ints)) (omega (arith, ints)),
          (
            is_within ne_bwi refl (omega (arith, ints)) (omega (arith, ints)),
            (
              is_within se_ewr refl (omega (arith, ints)) (omega (arith, ints)),
              (
                is_within se_bwi refl (omega (arith, ints)) (omega (arith, ints)),
                (
                  is_within se_atl refl (omega (arith, ints)) (omega (arith, ints)),
                  (is_within se_mco refl (omega (arith, ints)) (omega (arith, ints)), tt),
                ),
              ),
            ),
          ),
        ),
      ),
    ),
  );
  conditions = (is_balanced pitt refl refl refl, (is_balanced ne refl refl refl, (is_balanced se refl refl refl, (is_balanced bos refl refl refl, (is_balanced ewr refl refl refl, (is_balanced bwi refl refl refl, (is_balanced atl refl refl refl, (is_balanced mco refl refl refl, tt))))))));
}

pub costs_18190 : HasValue eight_cities plan (pos 18190)
costs_18190 = (pos 0, refl, refl)

-- ---- nothing in the network is without a value

terms_agree : (all : List Arc) (x y : Assignment) → map (flow_on x) all ≡ map (flow_on y) all → coefficient_terms all x ≡ coefficient_terms all y
terms_agree [] x y h = refl
terms_agree (a ∷ all) x y h = ap (λ n. (a.coefficient *ℤ n) +ℤ coefficient_terms all x) (heads_agree _ _ _ _ h) ∙ ap (λ n. (a.coefficient *ℤ flow_on y a) +ℤ n) (terms_agree all x y (tails_agree _ _ _ _ h))
  where
    heads_agree : (m n : ℤ) (ms ns : List ℤ) → m ∷ ms ≡ n ∷ ns → m ≡ n
    heads_agree m n ms ns e = cc

    tails_agree : (m n : ℤ) (ms ns : List ℤ) → m ∷ ms ≡ n ∷ ns → ms ≡ ns
    tails_agree m n ms ns e = cc

has_sides : (y : ℤ) (c : City) → of_cities (λ x. x.demand) (city c) ≡ Some (Number c.demand) → of_cities (λ x. x.supply) (city c) ≡ Some (Number c.supply)
    → HasSides (with_inflow (node_of c).env y) balance
has_sides y c demand supply = ((y, refl), (c.demand -ℤ c.supply, needed y c demand supply))

pub is_evaluated : IsEvaluated eight_cities
is_evaluated = record {
  conditions = λ y. (has_sides y pitt refl refl, (has_sides y ne refl refl, (has_sides y se refl refl, (has_sides y bos refl refl, (has_sides y ewr refl refl, (has_sides y bwi refl refl, (has_sides y atl refl refl, (has_sides y mco refl refl, tt))))))));
  objective = λ x. (pos 0 +ℤ coefficient_terms (map arc_of links) x, (pos 0, refl, refl));
  alike = λ x y n agree h. (h.0, h.1, h.2 ∙ ap (λ m. h.0 +ℤ m) (terms_agree (map arc_of links) x y agree));
}
