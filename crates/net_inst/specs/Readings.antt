-- The objective of a model as written, and its value at an assignment: each arc is replaced by its
-- value. Sizes are not checked.
use Rattle.std.specs.Prelude.{ℕ, Bool, true, List, [], ◌∷◌, ◌++◌, map, take, Option, None, Some, if◌then◌else◌, Ok, Err, ℤ, pos, ◌+ℤ◌, ◌*ℤ◌}
use Rattle.std.specs.Str.{bytes_eq}
use Rattle.net_sets.specs.Sets.{Tuple}
use Rattle.net_tree.specs.Spans.{span_of}
use Rattle.net_tree.specs.Tree.{Tree, Links, Part, leaf, indexed, parens, tuple, negated, braced, signed, reduced, chain, choice, net, none, link, absent, part, Body, plain, valued, priced, Phrase, Declaration, objective}
use Rattle.net_normal.specs.declared.instance.Sense.{Sense}
use Rattle.net_expr.specs.Numbers.{turned}
use Rattle.net_tree.specs.Operations.{is_minus, operation}
use Rattle.net_expr.specs.Values.{index}
use Rattle.net_expr.specs.Worlds.{Name, World, Scope}
use Rattle.net_linear.specs.declared.key_numbers.KeyNumbers.{KeyNumbers}
use Rattle.net_linear.specs.Objectives.{names_arc, key_of, condition}
use Rattle.net_base.specs.Outcomes.{Outcome}
use Rattle.net_linear.specs.ObjectiveValues.{read, combine, sum_in, choose}
use Rattle.net_inst.specs.declared.network_names.Declared.{Declared}
use Rattle.net_inst.specs.AsWritten.{WrittenArc, Assignment, number_on, amount, arcs_of, arc_declared, in_order, known_after}
use Rattle.net_inst.specs.Drafts.{sense_of}

-- the value of the arc with a name and a key
abbrev pub number_at_key : Assignment → Name → Outcome Tuple → ℤ
number_at_key x n (Ok key) = x n key
number_at_key x n (Err r) = pos 0

-- the value of an expression with each arc replaced by its value; a tree without arcs has the
-- evaluator's value
abbrev mutual
  pub reading : (Tree → Bool) → World → Scope → Tree → Assignment → ℤ
  reading arc_in w s (leaf t) x = read w s (leaf t) (arc_in (leaf t)) (number_at_key x t.text (Ok []))
  reading arc_in w s (indexed n o y l c) x =
      read w s (indexed n o y l c) (arc_in (indexed n o y l c)) (number_at_key x n.text (key_of w s (span_of (indexed n o y l c)) y l))
  reading arc_in w s (parens o y c) x = read w s (parens o y c) (arc_in (parens o y c)) (reading arc_in w s y x)
  reading arc_in w s (tuple o y l c) x = amount w s (tuple o y l c)
  reading arc_in w s (negated n o y c) x = amount w s (negated n o y c)
  reading arc_in w s (braced b) x = amount w s (braced b)
  reading arc_in w s (signed t y) x = read w s (signed t y) (arc_in (signed t y)) (turned (is_minus t) (reading arc_in w s y x))
  reading arc_in w s (reduced r b y) x = read w s (reduced r b y) (arc_in (reduced r b y)) (sum_in (λ q. reading arc_in w q y x) (index w s b))
  reading arc_in w s (chain n y l) x = read w s (chain n y l) (arc_in (chain n y l)) (reading_chain arc_in w s l (reading arc_in w s y x) x)
  reading arc_in w s (choice i y t z e) x =
      read w s (choice i y t z e) (arc_in (choice i y t z e)) (choose (condition w s (span_of (choice i y t z e)) y) (reading arc_in w s z x) (reading_else arc_in w s e x))
  reading arc_in w s (net t u) x = amount w s (net t u)

  pub reading_else : (Tree → Bool) → World → Scope → Part → Assignment → ℤ
  reading_else arc_in w s absent x = pos 0
  reading_else arc_in w s (part m y) x = reading arc_in w s y x

  -- applies the operators of a chain from left to right
  pub reading_chain : (Tree → Bool) → World → Scope → Links → ℤ → Assignment → ℤ
  reading_chain arc_in w s none n x = n
  reading_chain arc_in w s (link o y l) n x = reading_chain arc_in w s l (combine (operation o) n (reading arc_in w s y x)) x

-- a name of arcs without their keys
abbrev pub name_alone : Declared → Name × KeyNumbers
name_alone d = (d.name, record { count = None; first = 0; keys = [] })

-- the tree contains one of these arcs
abbrev pub stands_in : List Declared → Tree → Bool
stands_in ds t = names_arc (map name_alone ds) t

-- the coefficient that a phrase gives to an arc in the objective with this name
abbrev pub price_in : Name → World → Scope → Body → ℤ
price_in goal w s (priced n t) = if bytes_eq goal n.text then amount w s t else pos 0
price_in goal w s plain = pos 0
price_in goal w s (valued t) = pos 0

-- the sum of the coefficients in its `obj` phrases
abbrev pub price_of : Name → World → Scope → List Phrase → ℤ
price_of goal w s [] = pos 0
price_of goal w s (p ∷ ps) = price_in goal w s p.body +ℤ price_of goal w s ps

-- the contribution of arcs to the objective with this name
abbrev pub prices : Name → List WrittenArc → Assignment → ℤ
prices goal [] x = pos 0
prices goal (a ∷ all) x = (price_of goal a.env a.scope a.phrases *ℤ number_on x a) +ℤ prices goal all x

-- a declared objective, with the arcs declared before it, to which its expression can refer, and
-- those after it, whose `obj` phrases can refer to it
pub record Objective : Type 0 where
  pub sense : Sense
  pub name : Name
  pub env : World
  pub expression : Part
  pub before : List Declared
  pub behind : List WrittenArc

-- the value of the objective's own expression
abbrev pub part_value : List Declared → World → Part → Assignment → ℤ
part_value ds w absent x = pos 0
part_value ds w (part m t) x = reading (stands_in ds) w [] t x

-- the value of an assignment
abbrev pub value_of : Objective → Assignment → ℤ
value_of o x = part_value o.before o.env o.expression x +ℤ prices o.name o.behind x

abbrev pub objective_of : List Declared → World → Declaration → List WrittenArc → List Objective
objective_of before w (objective t n p e) behind = (record { sense = sense_of t; name = n.text; env = w; expression = p; before = before; behind = behind }) ∷ []
objective_of before w _ behind = []

-- the objectives in order
abbrev pub objectives_from : List Declared → World → ℕ → List Declaration → List Objective
objectives_from before w k [] = []
objectives_from before w k (d ∷ ds) =
    objective_of before (take k w) d (in_order arcs_of w (known_after k d) ds) ++ objectives_from (before ++ arc_declared d) w (known_after k d) ds

abbrev pub objectives : World → List Declaration → List Objective
objectives w ds = objectives_from [] w 0 ds

-- the objective with the given name, or any objective if no name is given
abbrev pub is_wanted : Option Name → Objective → Bool
is_wanted None o = true
is_wanted (Some name) o = bytes_eq name o.name

abbrev pub or_else : Option Objective → Option Objective → Option Objective
or_else None o = o
or_else (Some p) o = Some p

-- the last objective that is wanted
abbrev pub chosen : Option Name → List Objective → Option Objective
chosen wanted [] = None
chosen wanted (o ∷ os) = or_else (chosen wanted os) (if is_wanted wanted o then Some o else None)
