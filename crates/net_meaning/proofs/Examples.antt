-- Worked examples of the definitions. The expected values are worked out by hand from the AMPL book.
use Rattle.std.specs.Prelude.{◌≡◌, ℕ, true, false, List, [], ◌∷◌, Option, None, Some, codes, ℤ, pos, negsuc}
use Rattle.std.specs.List.{AllZip}
use Rattle.std.proofs.Common.{refl, ap, ◌∙◌, subst, inl, arith}
use Rattle.std.proofs.lemmas.Int.{ints}
use lib.IntN.{zero-*ℤ}
use Rattle.net_lex.specs.Limits.{limits}
use Rattle.net_lex.specs.NumeralFront.{mantissa_at, power_at, numeral_at}
use Rattle.net_lex.specs.Numerals.{IsValue as IsNumeral}
use Rattle.net_lex.specs.Significands.{whole_value}
use Rattle.net_lex.specs.declared.token.Kind.{Kind}
use Rattle.net_lex.specs.declared.token.Kind.TheVariants as kinds
use Rattle.net_lex.specs.declared.token.Token.{Token}
use Rattle.net_sets.specs.Sets.{Tuple}
use Rattle.net_sets.specs.declared.member.Member.TheVariants.{Number}
use Rattle.net_normal.specs.declared.instance.Sense.TheVariants.{Minimise}
use Rattle.net_tree.specs.declared.operator.BinOp.TheVariants as op
use Rattle.net_tree.specs.declared.operator.Reduction.TheVariants.{Sum}
use Rattle.net_tree.specs.declared.role.Begins.TheVariants as begins
use Rattle.net_tree.specs.declared.role.Relation.TheVariants as relations
use Rattle.net_tree.specs.declared.role.Role.{Role}
use Rattle.net_tree.specs.declared.role.Role.TheVariants as roles
use Rattle.net_tree.specs.Role.{role_of, marks, keys}
use Rattle.net_tree.specs.Syntax.{Expression, leaf, tuple, signed, reduced, chain, net, no_more, more, none, apply, absent, present, filled, Phrase, valued, Condition, between}
use Rattle.net_tree.specs.Numerals.{number_in}
use Rattle.net_meaning.specs.Operators as results
use Rattle.net_meaning.specs.Operators.{Value, One, Several, Many, Truth, number, IsTuple, IsResult, HaveOneDimension, at_most}
use Rattle.net_meaning.specs.Values.{SetOf, World, Env, Key, env_of, start, bind, a_set, dummy, AreListed, IsValue, AreKeys, Extends}
use Rattle.net_meaning.specs.Network.{Arc, IsArc, name, IsSatisfied, with_inflow, Objective, Assignment, HasValue}
use Rattle.net_meaning.specs.World.{AreWhole}
use Rattle.net_meaning.proofs.Naming.{numeral_is}
use Rattle.net_meaning.proofs.Unique.{values_are_unique}

-- positions in the file do not matter here
abbrev token : Kind → List ℕ → Token
token k t = record { kind = k; text = t; span = record { start = 0; end = 0 } }

abbrev named : List ℕ → Expression
named t = leaf (token kinds.Name t)

abbrev numeral : List ℕ → Expression
numeral t = leaf (token kinds.Num t)

two_is : IsNumeral limits.value (codes "2") (pos 2)
unfolding number_in numeral_at mantissa_at power_at whole_value
two_is = numeral_is (codes "2") (pos 2) refl

zero_is : IsNumeral limits.value (codes "0") (pos 0)
unfolding number_in numeral_at mantissa_at power_at whole_value
zero_is = numeral_is (codes "0") (pos 0) refl

three_is : IsNumeral limits.value (codes "3") (pos 3)
unfolding number_in numeral_at mantissa_at power_at whole_value
three_is = numeral_is (codes "3") (pos 3) refl

five_is : IsNumeral limits.value (codes "5") (pos 5)
unfolding number_in numeral_at mantissa_at power_at whole_value
five_is = numeral_is (codes "5") (pos 5) refl

-- ---- an indexing expression that selects: {(i, 2) in LINKS}, where LINKS is {(1, 2), (3, 2), (1, 3)}, has the keys 1 and 3

abbrev links : World
links = (codes "LINKS", SetOf ((Number (pos 1) ∷ Number (pos 2) ∷ []) ∷ (Number (pos 3) ∷ Number (pos 2) ∷ []) ∷ (Number (pos 1) ∷ Number (pos 3) ∷ []) ∷ [])) ∷ []

abbrev to_two : Expression
to_two = chain (tuple (named (codes "i")) (more (numeral (codes "2")) no_more)) (apply op.In (named (codes "LINKS")) none)

abbrev key_of : ℤ → Key
key_of m = bind (codes "i") (Number m) (start (env_of links []))

no_key : Option Key
no_key = None

takes : (m : ℤ) → Extends (start (env_of links [])) to_two (Number m ∷ Number (pos 2) ∷ []) (Some (key_of m))
unfolding role_of marks keys
takes m = (refl, (Number (pos 2), (pos 2, two_is, refl), refl))

passes_over : Extends (start (env_of links [])) to_two (Number (pos 1) ∷ Number (pos 3) ∷ []) None
unfolding role_of marks keys
passes_over = (refl, (Number (pos 2), (pos 2, two_is, refl), refl))

selects : AreKeys (env_of links []) (filled to_two no_more absent) (key_of (pos 1) ∷ key_of (pos 3) ∷ [])
unfolding role_of marks keys
selects = inl (
  key_of (pos 1) ∷ key_of (pos 3) ∷ [],
  (
    _,
    a_set _ refl refl,
    (
      Some (key_of (pos 1)),
      key_of (pos 1) ∷ [],
      key_of (pos 3) ∷ [],
      takes (pos 1),
      refl,
      (Some (key_of (pos 3)), key_of (pos 3) ∷ [], [], takes (pos 3), refl, (None, [], [], passes_over, refl, refl, refl), refl),
      refl,
    ),
  ),
  (1, (refl, (refl, tt))),
  (key_of (pos 3) ∷ [], ([], refl, inl (refl, refl)), inl (refl, refl)),
)

-- ---- a tuple with another number of components is an error, and is not passed over: (1, 3, 5) and (1) for (i, 2), and (1, 2) for i

too_long : (r : Option Key) → Extends (start (env_of links [])) to_two (Number (pos 1) ∷ Number (pos 3) ∷ Number (pos 5) ∷ []) r → ⊥
unfolding role_of marks keys
too_long r h = let long = h.0 in omega arith

too_short : (r : Option Key) → Extends (start (env_of links [])) to_two (Number (pos 1) ∷ []) r → ⊥
unfolding role_of marks keys
too_short r h = let long = h.0 in omega arith

no_pair : (r : Option Key) → Extends (start (env_of links [])) (chain (named (codes "i")) (apply op.In (named (codes "LINKS")) none)) (Number (pos 1) ∷ Number (pos 2) ∷ []) r → ⊥
unfolding role_of marks keys
no_pair r h = h

-- ---- sets of members and of pairs: {1} and {(1, 2)} have no union, neither is within the other, {1, (1, 2)} lists no set, and 1 is neither in
-- {(1, 2)} nor not in it

abbrev one : Tuple
one = Number (pos 1) ∷ []

abbrev pair : Tuple
pair = Number (pos 1) ∷ Number (pos 2) ∷ []

differ : HaveOneDimension (one ∷ pair ∷ []) → ⊥
differ (d, (h, (k, end))) = omega (arith, h, k)

no_union : (v : Value) → IsResult op.Union (Many (one ∷ [])) (Many (pair ∷ [])) v → ⊥
no_union v (results.union xs ys h) = differ h

not_within : (v : Value) → IsResult op.Within (Many (one ∷ [])) (Many (pair ∷ [])) v → ⊥
not_within v (results.within xs ys h) = differ h

not_in : (v : Value) → IsResult op.In (One (Number (pos 1))) (Many (pair ∷ [])) v → ⊥
not_in v (results.is_in u t ts (results.one m) h) = differ h

not_listed : (ks : List Key) → AreListed (env_of [] []) (λ u. u ≡ number (pos 1)) (λ us. us ≡ Several pair ∷ []) ks → ⊥
not_listed ks (u, us, ts, first, others, zip, h, e) =
    listed ts (subst (λ (z : List Value). AllZip IsTuple z ts) (ap (λ (z : Value). z ∷ us) first ∙ ap (λ (zs : List Value). number (pos 1) ∷ zs) others) zip) h
  where
    listed : (ts : List Tuple) → AllZip IsTuple (number (pos 1) ∷ Several pair ∷ []) ts → HaveOneDimension ts → ⊥
    listed [] z h = z
    listed (t ∷ []) z h = z.1
    listed (t ∷ s ∷ r ∷ ts) z h = z.1.1
    listed (t ∷ s ∷ []) (results.one m, (results.several p, end)) h = differ h

-- ---- data with a value left out: of three cells, two to a row, the last row is not whole

not_whole : (t : Token) → AreWhole 2 (t ∷ t ∷ t ∷ []) → ⊥
not_whole t h = let rest = h.1.0 in omega (arith, rest)

-- ---- an arc with a negative lower bound: arc A >= -5, <= 3, from X, to Y

abbrev minus_five : Expression
minus_five = signed true (numeral (codes "5"))

abbrev phrase : Role → Expression → Phrase
phrase r x = record { word = r; body = valued x }

abbrev phrases : List Phrase
phrases =
    phrase (roles.Relation relations.AtLeast) minus_five ∷ phrase (roles.Relation relations.AtMost) (numeral (codes "3")) ∷ phrase (roles.Phrase begins.From) (named (codes "X")) ∷ phrase (roles.Phrase begins.To) (named (codes "Y")) ∷ []

abbrev an_arc : Arc
an_arc = record {
  label = record { name = codes "A"; indexed = false; key = [] };
  lower = negsuc 4;
  upper = pos 3;
  from = Some (codes "X", []);
  to = Some (codes "Y", []);
  coefficient = pos 0;
}

lower_is : IsValue (env_of [] []) minus_five (number (negsuc 4))
unfolding role_of marks keys
lower_is = (pos 5, (pos 5, five_is, refl), refl)

upper_is : IsValue (env_of [] []) (numeral (codes "3")) (number (pos 3))
unfolding role_of marks keys
upper_is = (pos 3, three_is, refl)

arc_with_negative_bound : IsArc (codes "Cost") (codes "A") None phrases (start (env_of [] [])) an_arc
unfolding role_of marks keys
arc_with_negative_bound = record {
  label = refl;
  lower = lower_is;
  upper = upper_is;
  ordered = omega (arith, ints);
  from = name (token kinds.Name (codes "X"));
  to = name (token kinds.Name (codes "Y"));
  coefficient = (pos 0, pos 0, refl, (pos 0, pos 0, refl, (pos 0, pos 0, refl, (pos 0, pos 0, refl, refl, refl), refl), refl), refl);
}

-- ---- a condition with a range at the key i = 2: 0 <= net_in <= i is true of 1, and not of 3

abbrev in_range : Condition
in_range = between (numeral (codes "0")) op.AtMost (net false false) op.AtMost (named (codes "i"))

abbrev at_two : Env
at_two = env_of [] ((record { name = codes "i"; member = Number (pos 2) }) ∷ [])

true_of_one : IsSatisfied at_two in_range (pos 1)
unfolding role_of marks keys
true_of_one = ((number (pos 0), number (pos 1), (pos 0, zero_is, refl), refl, at_most (pos 0) (pos 1)), (number (pos 1), number (pos 2), refl, dummy (Number (pos 2)) refl, at_most (pos 1) (pos 2)))

not_true_of_three : IsSatisfied at_two in_range (pos 3) → ⊥
unfolding role_of marks keys
not_true_of_three (low, (u, v, a, b, c)) = three_at_most_two (subst (λ (z : Value). IsResult op.AtMost z (number (pos 2)) (Truth true)) a (subst (λ (z : Value). IsResult op.AtMost u z (Truth true)) (values_are_unique (with_inflow at_two (pos 3)) (named (codes "i")) v (number (pos 2)) b (dummy (Number (pos 2)) refl)) c))
  where
    three_at_most_two : IsResult op.AtMost (number (pos 3)) (number (pos 2)) (Truth true) → ⊥
    three_at_most_two h = elim h [ ]

-- ---- a dummy index may have the name of a later arc: minimize Total: sum {i in S} i; arc i ..; where S is {2}. The value is 2 at every flow

abbrev just_two : World
just_two = (codes "S", SetOf ((Number (pos 2) ∷ []) ∷ [])) ∷ []

abbrev total : Expression
total = reduced Sum (filled (chain (named (codes "i")) (apply op.In (named (codes "S")) none)) no_more absent) (named (codes "i"))

abbrev minimize_total : Objective
minimize_total = record { sense = Minimise; name = codes "Total"; env = just_two; arcs = []; expression = present total }

abbrev arc_i : Arc
arc_i = record { label = record { name = codes "i"; indexed = false; key = [] }; lower = pos 0; upper = pos 9; from = None; to = Some (codes "Y", []); coefficient = pos 0 }

later_arc_is_no_flow : (x : Assignment) → HasValue (record { nodes = []; arcs = arc_i ∷ []; objective = minimize_total }) x (pos 2)
unfolding role_of marks keys
later_arc_is_no_flow x = (
  pos 2,
  (
    bind (codes "i") (Number (pos 2)) (start (env_of just_two [])) ∷ [],
    pos 2 ∷ [],
    pos 2,
    inl (
      _,
      (_, a_set _ refl refl, (Some (bind (codes "i") (Number (pos 2)) (start (env_of just_two []))), _, [], refl, refl, refl, refl)),
      (1, (refl, tt)),
      ([], refl, inl (refl, refl)),
    ),
    (dummy (Number (pos 2)) refl, tt),
    refl,
    refl,
  ),
  omega (arith, ints, zero-*ℤ (x (codes "i") [])),
)
