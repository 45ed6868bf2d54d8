-- Declarations have at most one network in a world.
use Rattle.std.specs.Prelude.{◌≡◌, ℕ, Bool, true, false, List, [], ◌∷◌, ◌++◌, take, Option, None, Some, ℤ, ◌+ℤ◌}
use Rattle.std.specs.List.{AllZip}
use Rattle.std.specs.Str.{bytes_eq}
use Rattle.std.proofs.Common.{refl, ap, sym, ◌∙◌, subst}
use Rattle.net_sets.specs.Sets.{Tuple}
use Rattle.net_tree.specs.Phrases.{is_at_least, is_at_most, is_from, is_to}
use Rattle.net_tree.specs.Syntax.{Expression, Expressions, tuple, Braces, Body, plain, valued, priced, Phrase, Declaration, set, param, check, node, arc, objective}
use Rattle.net_expr.specs.Worlds.{Name}
use Rattle.net_meaning.specs.Network.{Node, Arc, Objective, IsEnd, absent_end, name, name_and_key, IsCoefficientFor, IsCoefficientIn, IsCoefficient, HasNumber, IsArc, IsNode, AreNodesOf, AreArcsOf, entries_after, InOrder}
use Rattle.net_meaning.specs.Operators.{Several, number}
use Rattle.net_meaning.specs.Values.{World, Env, Key, env_of, IsValue, AreValues, AreMembers}
use Rattle.net_meaning.specs.World.{AreIndexed, phrase_value}
use Rattle.net_meaning.proofs.Unique.{values_are_unique, number_same, zip_unique}
use Rattle.net_meaning.proofs.UniqueWorlds.{indexed_unique}
use Rattle.net_driver.specs.MeaningLaws.{NetworksAreUnique}

in_order_unique : {A : Type 0} (P : World → Declaration → List A → Type 0) → ((w : World) (d : Declaration) (xs ys : List A) → P w d xs → P w d ys → xs ≡ ys)
    → (w : World) (k : ℕ) (ds : List Declaration) (xs ys : List A) → InOrder P w k ds xs → InOrder P w k ds ys → xs ≡ ys
in_order_unique P one w k [] xs ys h j = h ∙ sym j
in_order_unique P one w k (d ∷ ds) xs ys (x, us, a, b, e) (y, vs, c, f, g) =
    e ∙ ap (λ l. l ++ us) (one (take k w) d x y a c) ∙ ap (λ l. y ++ l) (in_order_unique P one w (entries_after k d) ds us vs b f) ∙ sym g

-- ---- nodes

nodes_unique : (w : World) (d : Declaration) (xs ys : List Node) → AreNodesOf w d xs → AreNodesOf w d ys → xs ≡ ys
nodes_unique w (set n ps) xs ys h j = h ∙ sym j
nodes_unique w (param n b ps) xs ys h j = h ∙ sym j
nodes_unique w (check b x) xs ys h j = h ∙ sym j
nodes_unique w (node n b c) xs ys (ks, i, h) (js, l, j) =
    zip_unique (IsNode n b c) (λ k u v f g. f ∙ sym g) ks xs ys h (subst (λ (m : List Key). AllZip (IsNode n b c) m ys) (indexed_unique w b js ks l i) j)
nodes_unique w (arc n b ps) xs ys h j = h ∙ sym j
nodes_unique w (objective minimizes n p) xs ys h j = h ∙ sym j

-- ---- arcs

one_number : (e : Env) (x : Expression) (n m : ℤ) → IsValue e x (number n) → IsValue e x (number m) → n ≡ m
one_number e x n m h j = number_same n m (values_are_unique e x (number n) (number m) h j)

said_number : (e : Env) (o : Option Expression) (n m : ℤ) → HasNumber e o n → HasNumber e o m → n ≡ m
said_number e None n m h j = absurd h
said_number e (Some x) n m h j = one_number e x n m h j

several_same : (t u : Tuple) → Several t ≡ Several u → t ≡ u
several_same t u e = cc

-- members are the value of a tuple
one_key : (e : Env) (x : Expression) (l : Expressions) (t u : Tuple) → AreMembers (IsValue e x) (AreValues e l) t → AreMembers (IsValue e x) (AreValues e l) u → t ≡ u
one_key e x l t u h j = several_same t u (values_are_unique e (tuple x l) (Several t) (Several u) (t, h, refl) (u, j, refl))

one_end : (e : Env) (o : Option Expression) (p q : Option (Name × Tuple)) → IsEnd e o p → IsEnd e o q → p ≡ q
one_end e o p q absent_end absent_end = refl
one_end e o p q (name t) (name u) = refl
one_end e o p q (name_and_key n x l key h) (name_and_key k y r other j) = ap (λ (t : Tuple). Some (n, t)) (one_key e x l key other h j)

coefficient_for : (e : Env) (x : Expression) (c d : ℤ) (b : Bool) → IsCoefficientFor e x c b → IsCoefficientFor e x d b → c ≡ d
coefficient_for e x c d true h j = one_number e x c d h j
coefficient_for e x c d false h j = h ∙ sym j

coefficient_in : (goal : Name) (e : Env) (b : Body) (c d : ℤ) → IsCoefficientIn goal e b c → IsCoefficientIn goal e b d → c ≡ d
coefficient_in goal e plain c d h j = h ∙ sym j
coefficient_in goal e (valued x) c d h j = h ∙ sym j
coefficient_in goal e (priced n x) c d h j = coefficient_for e x c d (bytes_eq goal n) h j

one_coefficient : (goal : Name) (e : Env) (ps : List Phrase) (c d : ℤ) → IsCoefficient goal e ps c → IsCoefficient goal e ps d → c ≡ d
one_coefficient goal e [] c d h j = h ∙ sym j
one_coefficient goal e (p ∷ ps) c d (x, y, h, i, s) (u, v, j, k, t) =
    s ∙ ap (λ (n : ℤ). n +ℤ y) (coefficient_in goal e p.body x u h j) ∙ ap (λ (n : ℤ). u +ℤ n) (one_coefficient goal e ps y v i k) ∙ sym t

one_arc : (goal : Name) (n : Name) (b : Option Braces) (ps : List Phrase) (k : Key) (a c : Arc) → IsArc goal n b ps k a → IsArc goal n b ps k c → a ≡ c
one_arc goal n b ps k a c h j =
    let label = h.label ∙ sym j.label in
    let lower = said_number k.env (phrase_value is_at_least ps) a.lower c.lower h.lower j.lower in
    let upper = said_number k.env (phrase_value is_at_most ps) a.upper c.upper h.upper j.upper in
    let from = one_end k.env (phrase_value is_from ps) a.from c.from h.from j.from in
    let to = one_end k.env (phrase_value is_to ps) a.to c.to h.to j.to in
    let coefficient = one_coefficient goal k.env ps a.coefficient c.coefficient h.coefficient j.coefficient in
    λ t. record { label = label t; lower = lower t; upper = upper t; from = from t; to = to t; coefficient = coefficient t }

arcs_unique : (goal : Name) (w : World) (d : Declaration) (xs ys : List Arc) → AreArcsOf goal w d xs → AreArcsOf goal w d ys → xs ≡ ys
arcs_unique goal w (set n ps) xs ys h j = h ∙ sym j
arcs_unique goal w (param n b ps) xs ys h j = h ∙ sym j
arcs_unique goal w (check b x) xs ys h j = h ∙ sym j
arcs_unique goal w (node n b c) xs ys h j = h ∙ sym j
arcs_unique goal w (arc n b ps) xs ys (ks, i, h) (js, l, j) =
    zip_unique (IsArc goal n b ps) (one_arc goal n b ps) ks xs ys h (subst (λ (m : List Key). AllZip (IsArc goal n b ps) m ys) (indexed_unique w b js ks l i) j)
arcs_unique goal w (objective minimizes n p) xs ys h j = h ∙ sym j

-- ---- the network

head_same : (o p : Objective) → o ∷ [] ≡ p ∷ [] → o ≡ p
head_same o p e = cc

pub one_network : NetworksAreUnique
one_network wanted w ds n m h j =
    let nodes = in_order_unique AreNodesOf nodes_unique w 0 ds n.nodes m.nodes h.nodes j.nodes in
    let goal = head_same n.objective m.objective (sym h.objective ∙ j.objective) in
    let own = subst (λ (q : Objective). InOrder (AreArcsOf q.name) w 0 ds n.arcs) goal h.arcs in
    let arcs = in_order_unique (AreArcsOf m.objective.name) (arcs_unique m.objective.name) w 0 ds n.arcs m.arcs own j.arcs in
    λ t. record { nodes = nodes t; arcs = arcs t; objective = goal t }
