-- The arcs of declarations, and their contributions to the objective.
use Rattle.std.specs.Prelude.{ℕ, Bool, false, List, [], ◌∷◌, ◌++◌, length, nat_lt, Option, None, Some, if◌then◌else◌, Ok, ℤ, pos, int_lt}
use Rattle.std.specs.Str.{bytes_eq}
use Rattle.net_lex.specs.declared.token.Token.{Token}
use Rattle.net_tree.specs.Spans.{span_of}
use Rattle.net_tree.specs.Tree.{Tree, Braces, Body, plain, valued, priced, Phrase}
use Rattle.net_normal.specs.Limits.{arc_limit}
use Rattle.net_expr.specs.declared.row.Row.{Row}
use Rattle.net_expr.specs.Worlds.{Name, World, Scope, reference}
use Rattle.net_linear.specs.Forms as forms
use Rattle.net_inst.specs.declared.arc.Built.{Built}
use Rattle.net_base.specs.declared.error_code.ErrorCode.TheVariants.{ArcCrossed, TooManyArcs}
use Rattle.net_inst.specs.declared.draft.ChosenObjective.{ChosenObjective}
use Rattle.net_inst.specs.declared.node_name.Group.{Group}
use Rattle.net_expr.specs.declared.indexing.Indexing.{Indexing}
use Rattle.net_inst.specs.Groups.{no_group, group_with}
use Rattle.net_expr.specs.Indexings.{indexing_in}
use Rattle.net_inst.specs.Nodes.{BuiltNodes, node_named}
use Rattle.net_inst.specs.Numbers.{number}
use Rattle.net_base.specs.Outcomes.{Outcome, and_then, rejected_of}
use Rattle.net_inst.specs.Rejections.{rejected_name}
use Rattle.net_inst.specs.Phrases.{Parts, parts_of}

-- arcs in order without their coefficients, and the linear form of the objective
pub record BuiltArcs : Type 0 where
  pub arcs : List Built
  pub form : forms.Linear
  pub group : Group

abbrev pub no_arcs : BuiltArcs
no_arcs = record { arcs = []; form = forms.just (pos 0); group = no_group }

abbrev pub end_at : BuiltNodes → World → Scope → Option Tree → Outcome (Option ℕ)
end_at ns w s None = Ok None
end_at ns w s (Some t) = and_then (node_named ns w s t) (λ v. Ok (Some v))

abbrev pub with_ends : BuiltNodes → World → Scope → Parts → ℤ → ℤ → Outcome Built
with_ends ns w s p l u = and_then (end_at ns w s p.tail) (λ t. and_then (end_at ns w s p.head) (λ h. Ok (record { lower = l; upper = u; tail = t; head = h })))

-- the arc at a key: first its bounds, then its ends
abbrev pub built : BuiltNodes → World → Token → Option ℕ → Parts → Row → Outcome Built
built ns w n k p row =
    and_then (number w row.scope p.lower) (λ l. and_then (number w row.scope p.upper) (λ u.
    if int_lt u l then rejected_of ArcCrossed n.span (reference n.text k row.key) else with_ends ns w row.scope p l u))

abbrev pub is_goal : Option ChosenObjective → Name → Bool
is_goal None name = false
is_goal (Some g) name = bytes_eq g.name name

abbrev pub priced_by : World → Scope → ℕ → Tree → forms.Linear → Outcome forms.Linear
priced_by w s a x f = and_then (number w s x) (λ c. forms.priced (span_of x) f a c)

-- adds the coefficient that a phrase gives to arc a in the objective; phrases for other objectives
-- are skipped
abbrev pub price_in : Option ChosenObjective → World → Scope → ℕ → Body → forms.Linear → Outcome forms.Linear
price_in g w s a (priced n x) f = if is_goal g n.text then priced_by w s a x f else Ok f
price_in g w s a plain f = Ok f
price_in g w s a (valued x) f = Ok f

abbrev pub prices_in : Option ChosenObjective → World → Scope → ℕ → List Phrase → forms.Linear → Outcome forms.Linear
prices_in g w s a [] f = Ok f
prices_in g w s a (p ∷ ps) f = and_then (price_in g w s a p.body f) (prices_in g w s a ps)

-- with what an arc is built: the chosen objective, the nodes so far, the sets and parameters
pub record ArcEnv : Type 0 where
  pub goal : Option ChosenObjective
  pub nodes : BuiltNodes
  pub world : World

abbrev pub arc_env : Option ChosenObjective → BuiltNodes → World → ArcEnv
arc_env g ns w = record { goal = g; nodes = ns; world = w }

-- an arc's declaration: its name, the expressions of its bounds and ends, and its phrases
pub record ArcText : Type 0 where
  pub name : Token
  pub parts : Parts
  pub phrases : List Phrase

abbrev pub arc_text : Token → Parts → List Phrase → ArcText
arc_text n p ps = record { name = n; parts = p; phrases = ps }

-- adds the arc at a key
abbrev pub next_arc : ArcEnv → ArcText → Option ℕ → Row → BuiltArcs → Outcome BuiltArcs
next_arc v x k row d =
    if nat_lt (length d.arcs) arc_limit then
    and_then (built v.nodes v.world x.name k x.parts row) (λ a. and_then (prices_in v.goal v.world row.scope (length d.arcs) x.phrases d.form) (λ f. Ok (record { arcs = d.arcs ++ a ∷ []; form = f; group = d.group })))
    else rejected_name TooManyArcs x.name

-- adds an arc for each key
abbrev pub arcs_at : ArcEnv → ArcText → Option ℕ → List Row → BuiltArcs → Outcome BuiltArcs
arcs_at v x k [] d = Ok d
arcs_at v x k (row ∷ rows) d = and_then (next_arc v x k row d) (arcs_at v x k rows)

-- replaces the linear form of the objective
abbrev pub formed : BuiltArcs → forms.Linear → BuiltArcs
formed d f = record { arcs = d.arcs; form = f; group = d.group }

abbrev pub named_arcs : Name → ℕ → Indexing → BuiltArcs → BuiltArcs
named_arcs name first i d = record { arcs = d.arcs; form = d.form; group = group_with d.group name first i }

abbrev pub arcs_by : ArcEnv → ArcText → BuiltArcs → Indexing → Outcome BuiltArcs
arcs_by v x d i = and_then (arcs_at v x i.count i.rows d) (λ found. Ok (named_arcs x.name.text (length d.arcs) i found))

-- adds the arcs of a declaration; a missing phrase is reported first
abbrev pub with_arcs : ArcEnv → Token → Option Braces → List Phrase → BuiltArcs → Outcome BuiltArcs
with_arcs v n b ps d = and_then (parts_of n ps) (λ p. and_then (indexing_in v.world b) (arcs_by v (arc_text n p ps) d))
