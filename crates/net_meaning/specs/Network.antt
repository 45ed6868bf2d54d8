-- The network of a model: its nodes and arcs by name and key, the feasible assignments of flows to arcs, and their values (AMPL book, chapter 15).
-- The grammar of declarations (`GrammarOfDeclarations.antt` of net_model) guarantees what is not repeated here. In a condition exactly one term
-- is `net_in` or `net_out`, without a factor, and they occur nowhere else. Its relations are `=`, `<=` and `>=`; if it has two, they are the same.
-- An arc has each of `>=`, `<=`, `from` and `to` at most once.
use Rattle.std.specs.Prelude.{◌≡◌, ◌+◌, ◌||◌, ◌&&◌, ℕ, Bool, true, false, List, [], ◌∷◌, ◌++◌, map, take, filter, Option, None, Some, is_some, if◌then◌else◌, IsTrue, ⊤, ℤ, pos, ◌+ℤ◌, ◌-ℤ◌, ◌*ℤ◌, ◌≤ℤ◌}
use Rattle.std.specs.List.{AllByRecursion, AllZip, IsDistinct, list_any}
use Rattle.std.specs.Str.{bytes_eq}
use Rattle.net_lex.specs.declared.token.Token.{Token}
use Rattle.net_normal.specs.declared.instance.Sense.{Sense}
use Rattle.net_normal.specs.declared.instance.Sense.TheVariants.{Minimise, Maximise}
use Rattle.net_sets.specs.Sets.{Tuple, same_tuple}
use Rattle.net_tree.specs.declared.operator.BinOp.{BinOp}
use Rattle.net_tree.specs.Phrases.{is_at_least, is_at_most, is_from, is_to}
use Rattle.net_tree.specs.Syntax.{Expression, Expressions, leaf, indexed, Clause, absent, present, Braces, Body, plain, valued, priced, Phrase, Condition, unsaid, one, between, Declaration, set, param, node, arc, objective}
use Rattle.net_expr.specs.Worlds.{Name}
use Rattle.net_meaning.specs.Operators.{Value, Truth, number, IsResult}
use Rattle.net_meaning.specs.Values.{World, Env, Key, env_of, IsValue, AreValues, AreMembers}
use Rattle.net_meaning.specs.World.{phrase_value, AreIndexed}

-- ---- nodes and arcs

-- the name of a node or an arc with its key, which is empty for a declaration without an indexing expression
pub record Label : Type 0 where
  pub name : Name
  pub indexed : Bool
  pub key : Tuple

-- the label of a declaration at a key
abbrev pub label_at : Name → Option Braces → Key → Label
label_at n b k = record { name = n; indexed = is_some b; key = k.key }

-- both labels have the same name and the same key
abbrev pub same_label : Label → Label → Bool
same_label l m = bytes_eq l.name m.name && same_tuple l.key m.key

-- a node: its label, its condition, and the environment in which the condition is evaluated
pub record Node : Type 0 where
  pub label : Label
  pub env : Env
  pub condition : Condition

-- an arc: its bounds, the nodes that it leaves and enters, and its coefficient in the objective by `obj` phrases. An arc without `from` or
-- without `to` has one end at a node.
pub record Arc : Type 0 where
  pub label : Label
  pub lower : ℤ
  pub upper : ℤ
  pub from : Option (Name × Tuple)
  pub to : Option (Name × Tuple)
  pub coefficient : ℤ

-- the reference after `from` or `to`, by name and key; None if the arc has no such phrase. The network has the node (`IsNodeAt`).
pub data IsEnd (e : Env) : Option Expression → Option (Name × Tuple) → Type 0 where
  absent_end : IsEnd e None None
  name : (t : Token) → IsEnd e (Some (leaf t)) (Some (t.text, []))
  name_and_key : (n : Name) (x : Expression) (l : Expressions) (key : Tuple) → AreMembers (IsValue e x) (AreValues e l) key → IsEnd e (Some (indexed n x l)) (Some (n, key))

-- the number of an `obj` phrase: that of its expression, if it names this objective (the last argument); otherwise 0, whatever its expression
abbrev pub IsCoefficientFor : Env → Expression → ℤ → Bool → Type 0
IsCoefficientFor e x c true = IsValue e x (number c)
IsCoefficientFor e x c false = c ≡ pos 0

-- the number that a phrase adds to the coefficient; only `obj` phrases add one
abbrev pub IsCoefficientIn : Name → Env → Body → ℤ → Type 0
IsCoefficientIn objective_name e (priced n x) c = IsCoefficientFor e x c (bytes_eq objective_name n)
IsCoefficientIn objective_name e plain c = c ≡ pos 0
IsCoefficientIn objective_name e (valued x) c = c ≡ pos 0

-- the sum over all phrases
abbrev pub IsCoefficient : Name → Env → List Phrase → ℤ → Type 0
IsCoefficient objective_name e [] c = c ≡ pos 0
IsCoefficient objective_name e (p ∷ ps) c = (a : ℤ) × (b : ℤ) × IsCoefficientIn objective_name e p.body a × IsCoefficient objective_name e ps b × (c ≡ a +ℤ b)

-- the expression is present, and its value is this number. An arc has to have both bounds: without one, it has no number.
abbrev pub HasNumber : Env → Option Expression → ℤ → Type 0
HasNumber e None n = ⊥
HasNumber e (Some x) n = IsValue e x (number n)

-- the arc a that a declaration of arcs, with name n, indexing expression b and phrases ps, declares at the key k. If its bounds cross
-- (`ordered`), the model has no network. A node's condition that no net inflow satisfies is no error: then no assignment is feasible.
pub record IsArc (objective_name n : Name) (b : Option Braces) (ps : List Phrase) (k : Key) (a : Arc) : Type 0 where
  pub label : a.label ≡ label_at n b k
  pub lower : HasNumber k.env (phrase_value is_at_least ps) a.lower
  pub upper : HasNumber k.env (phrase_value is_at_most ps) a.upper
  pub ordered : a.lower ≤ℤ a.upper
  pub from : IsEnd k.env (phrase_value is_from ps) a.from
  pub to : IsEnd k.env (phrase_value is_to ps) a.to
  pub coefficient : IsCoefficient objective_name k.env ps a.coefficient

-- the node that a declaration of nodes declares at a key
abbrev pub IsNode : Name → Option Braces → Condition → Key → Node → Type 0
IsNode n b c k v = v ≡ record { label = label_at n b k; env = k.env; condition = c }

-- the nodes of a declaration: one at each key, in order
abbrev pub AreNodesOf : World → Declaration → List Node → Type 0
AreNodesOf w (node n b c) vs = (keys : List Key) × AreIndexed w b keys × AllZip (IsNode n b c) keys vs
AreNodesOf w d vs = vs ≡ []

-- the arcs of a declaration: one at each key, in order
abbrev pub AreArcsOf : Name → World → Declaration → List Arc → Type 0
AreArcsOf objective_name w (arc n b ps) all = (keys : List Key) × AreIndexed w b keys × AllZip (IsArc objective_name n b ps) keys all
AreArcsOf objective_name w d all = all ≡ []

-- the number of sets and parameters that are declared up to and including a declaration
abbrev pub entries_after : ℕ → Declaration → ℕ
entries_after k (set n ps) = k + 1
entries_after k (param n b ps) = k + 1
entries_after k _ = k

-- `InOrder P w k ds all`: all is the concatenation of what P gives for each declaration, in order. Each declaration sees the sets and parameters
-- declared before it, which are the first k entries of the world w: k counts sets and parameters, not declarations.
abbrev pub InOrder : {A : Type 0} → (World → Declaration → List A → Type 0) → World → ℕ → List Declaration → List A → Type 0
InOrder P w k [] all = all ≡ []
InOrder {A} P w k (d ∷ ds) all = (these : List A) × (others : List A) × P (take k w) d these × InOrder P w (entries_after k d) ds others × (all ≡ these ++ others)

-- ---- the objective

-- an objective: its sense, its name, its expression, which may be absent, the sets and parameters declared before it, and the names of the
-- arcs declared before it. In its expression only these names denote arcs; the name of a later arc is free, for example for a dummy index.
pub record Objective : Type 0 where
  pub sense : Sense
  pub name : Name
  pub env : World
  pub arcs : List Name
  pub expression : Clause

-- `objectives w k before ds`: the objectives of the declarations ds, in order; the first k entries of the world w and the arcs with the names
-- before are declared before ds
abbrev pub objectives : World → ℕ → List Name → List Declaration → List Objective
objectives w k before [] = []
objectives w k before (objective minimizes n p ∷ ds) = (record { sense = if minimizes then Minimise else Maximise; name = n; env = take k w; arcs = before; expression = p }) ∷ objectives w k before ds
objectives w k before (arc n b ps ∷ ds) = objectives w k (n ∷ before) ds
objectives w k before (d ∷ ds) = objectives w (entries_after k d) before ds

-- an objective is eligible if it has the requested name, or if no name is requested
abbrev pub is_eligible : Option Name → Objective → Bool
is_eligible None o = true
is_eligible (Some n) o = bytes_eq n o.name

-- o is the only eligible objective of the model
abbrev pub IsObjective : Option Name → World → List Declaration → Objective → Type 0
IsObjective requested w ds o = filter (is_eligible requested) (objectives w 0 [] ds) ≡ o ∷ []

-- an `obj` phrase names one of these objectives
abbrev pub IsPriced : List Objective → Body → Type 0
IsPriced os (priced n x) = IsTrue (list_any (λ (o : Objective). bytes_eq o.name n) os)
IsPriced os b = ⊤

-- each `obj` phrase of the declaration names one of these objectives
abbrev pub ArePriced : List Objective → Declaration → Type 0
ArePriced os (arc n b ps) = AllByRecursion (λ (p : Phrase). IsPriced os p.body) ps
ArePriced os d = ⊤

-- ---- the network

pub record Network : Type 0 where
  pub nodes : List Node
  pub arcs : List Arc
  pub objective : Objective

-- the end is the node with this label
abbrev pub is_at : Option (Name × Tuple) → Label → Bool
is_at None l = false
is_at (Some r) l = bytes_eq r.0 l.name && same_tuple r.1 l.key

-- the end, if present, is one of the nodes
abbrev pub IsNodeAt : List Node → Option (Name × Tuple) → Type 0
IsNodeAt vs None = ⊤
IsNodeAt vs (Some r) = IsTrue (list_any (λ (v : Node). is_at (Some r) v.label) vs)

-- the network that the declarations have in the world, with the requested objective
pub record IsNetwork (requested : Option Name) (w : World) (ds : List Declaration) (network : Network) : Type 0 where
  pub objective : IsObjective requested w ds network.objective
  pub priced : AllByRecursion (ArePriced (objectives w 0 [] ds)) ds
  pub nodes : InOrder AreNodesOf w 0 ds network.nodes
  pub arcs : InOrder (AreArcsOf network.objective.name) w 0 ds network.arcs
  pub ends : AllByRecursion (λ (a : Arc). IsNodeAt network.nodes a.from × IsNodeAt network.nodes a.to × IsTrue (is_some a.from || is_some a.to)) network.arcs
  -- labels are unique among nodes, and among arcs
  pub nodes_apart : IsDistinct same_label (map (λ (v : Node). v.label) network.nodes)
  pub arcs_apart : IsDistinct same_label (map (λ (a : Arc). a.label) network.arcs)

-- ---- assignments

-- an assignment gives a flow, a whole number, to each name and key of an arc
abbrev pub Assignment : Type 0
Assignment = Name → Tuple → ℤ

-- the flow on an arc
abbrev pub flow_on : Assignment → Arc → ℤ
flow_on x a = x a.label.name a.label.key

-- both assignments give each arc the same flow
abbrev pub Agree : List Arc → Assignment → Assignment → Type 0
Agree all x y = map (flow_on x) all ≡ map (flow_on y) all

-- the inflow of a node minus its outflow
abbrev pub net_inflow : List Arc → Assignment → Label → ℤ
net_inflow [] x v = pos 0
net_inflow (a ∷ all) x v = ((if is_at a.to v then flow_on x a else pos 0) -ℤ (if is_at a.from v then flow_on x a else pos 0)) +ℤ net_inflow all x v

-- the environment with this net inflow
abbrev pub with_inflow : Env → ℤ → Env
with_inflow e y = record e { inflow = y }

-- both sides have values, and the comparison is true of them
abbrev pub Compares : Env → Expression → BinOp → Expression → Type 0
Compares e x o z = (u : Value) × (v : Value) × IsValue e x u × IsValue e z v × IsResult o u v (Truth true)

-- the condition is true if `net_in` has the value y and `net_out` the value -y; without a condition the net inflow is 0
abbrev pub IsSatisfied : Env → Condition → ℤ → Type 0
IsSatisfied e unsaid y = y ≡ pos 0
IsSatisfied e (one x o z) y = Compares (with_inflow e y) x o z
IsSatisfied e (between x o z p u) y = Compares (with_inflow e y) x o z × Compares (with_inflow e y) z p u

-- each flow is within its arc's bounds
abbrev pub AreWithinBounds : List Arc → Assignment → Type 0
AreWithinBounds all x = AllByRecursion (λ (a : Arc). (a.lower ≤ℤ flow_on x a) × (flow_on x a ≤ℤ a.upper)) all

-- the node's condition is true of its net inflow
abbrev pub IsSatisfiedBy : List Arc → Assignment → Node → Type 0
IsSatisfiedBy all x v = IsSatisfied v.env v.condition (net_inflow all x v.label)

-- each flow is within its arc's bounds, and each node's condition is true of its net inflow
pub record IsFeasible (network : Network) (x : Assignment) : Type 0 where
  pub bounds : AreWithinBounds network.arcs x
  pub conditions : AllByRecursion (IsSatisfiedBy network.arcs x) network.nodes

-- the environment in which each of these names of arcs denotes its flow
abbrev pub with_arcs : Env → List Name → Assignment → Env
with_arcs e names x = record e { arcs = λ n. if list_any (λ (m : Name). bytes_eq m n) names then Some (x n) else None }

-- the sum over all arcs of coefficient times flow
abbrev pub coefficient_terms : List Arc → Assignment → ℤ
coefficient_terms [] x = pos 0
coefficient_terms (a ∷ all) x = (a.coefficient *ℤ flow_on x a) +ℤ coefficient_terms all x

-- the value of the objective's expression; 0 if it is absent
abbrev pub IsExpressionValue : Env → Clause → ℤ → Type 0
IsExpressionValue e absent n = n ≡ pos 0
IsExpressionValue e (present x) n = IsValue e x (number n)

-- the value of an assignment: that of the objective's expression, plus for each arc its coefficient times its flow
abbrev pub HasValue : Network → Assignment → ℤ → Type 0
HasValue network x n = (m : ℤ) × IsExpressionValue (with_arcs (env_of network.objective.env []) network.objective.arcs x) network.objective.expression m × (n ≡ m +ℤ coefficient_terms network.arcs x)

-- ---- values

-- the expression has a number as its value
abbrev pub IsNumeric : Env → Expression → Type 0
IsNumeric e x = (n : ℤ) × IsValue e x (number n)

-- each side of the condition has a number
abbrev pub HasSides : Env → Condition → Type 0
HasSides e unsaid = ⊤
HasSides e (one x o z) = IsNumeric e x × IsNumeric e z
HasSides e (between x o z p u) = IsNumeric e x × IsNumeric e z × IsNumeric e u

-- nothing in the network is without a value: at each net inflow the sides of each node's condition have numbers, and each assignment has a
-- value. The flow of an arc that does not exist has no effect on it (`alike`).
pub record IsEvaluated (network : Network) : Type 0 where
  pub conditions : (y : ℤ) → AllByRecursion (λ (v : Node). HasSides (with_inflow v.env y) v.condition) network.nodes
  pub objective : (x : Assignment) → (n : ℤ) × HasValue network x n
  pub alike : (x y : Assignment) (n : ℤ) → Agree network.arcs x y → HasValue network x n → HasValue network y n
