-- The network of a model: its nodes and arcs in order of declaration and of keys, its objective,
-- and all their names.
use Rattle.std.specs.Prelude.{ℕ, suc, Bool, true, false, List, [], ◌∷◌, map, Option, None, Some, unwrap_or, Result, Ok, ℤ}
use Rattle.net_base.specs.declared.diagnostic.Span.{Span}
pub use Rattle.net_tree.specs.Spans.{point}
use Rattle.net_lex.specs.declared.token.Token.{Token}
use Rattle.net_tree.specs.Tree.{Declaration, set, param, check, node, arc, objective}
use Rattle.net_normal.specs.declared.instance.InstArc.{InstArc}
use Rattle.net_normal.specs.declared.instance.Sense.{Sense}
use Rattle.net_base.specs.declared.diagnostic.Detail.TheVariants.{Nothing, Reported}
use Rattle.net_expr.specs.Worlds.{Name, World}
use Rattle.net_linear.specs.declared.condition.Sides.{Sides}
use Rattle.net_linear.specs.Forms.{Products, coefficient}
use Rattle.net_inst.specs.declared.arc.Built.{Built}
use Rattle.net_base.specs.declared.error_code.ErrorCode.TheVariants.{NoObjective, NoSuchObjective}
use Rattle.net_base.specs.declared.diagnostic.Fault.{Fault}
use Rattle.net_inst.specs.declared.draft.ChosenObjective.{ChosenObjective}
use Rattle.net_inst.specs.declared.network.Named.{Named as NamedOfCode}
use Rattle.net_inst.specs.declared.network_names.Names.{Names}
use Rattle.net_inst.specs.Arcs.{BuiltArcs}
use Rattle.net_inst.specs.Drafts.{Drawing, nothing, draw}
use Rattle.net_inst.specs.Nodes.{BuiltNodes, sides_of}
use Rattle.net_base.specs.Outcomes.{Outcome, and_then, rejected_of, RefinesAs}

pub record Network : Type 0 where
  pub nodes : List Sides
  pub arcs : List InstArc
  pub sense : Sense
  pub constant : ℤ
  pub names : Names

abbrev pub with_coefficient : Built → ℤ → InstArc
with_coefficient x c = record { lower = x.lower; upper = x.upper; coefficient = c; tail = x.tail; head = x.head }

-- the arcs from number a on, each with its coefficient
abbrev pub with_coefficients : Products → ℕ → List Built → List InstArc
with_coefficients ps a [] = []
with_coefficients ps a (x ∷ xs) = with_coefficient x (coefficient ps a) ∷ with_coefficients ps (suc a) xs

abbrev pub network_of : BuiltNodes → BuiltArcs → ChosenObjective → Network
network_of ns xs g = record {
  nodes = ns.ranges;
  arcs = with_coefficients xs.form.products 0 xs.arcs;
  sense = g.sense;
  constant = xs.form.constant;
  names = record { objective = g.name; nodes = ns.group.list; arcs = xs.group.list };
}

-- the error if no objective is declared, or none with the given name
abbrev pub without_goal : {A : Type 0} → Option Name → Span → Bool → Outcome A
without_goal wanted at false = rejected_of NoObjective at Nothing
without_goal wanted at true = rejected_of NoSuchObjective at (Reported (unwrap_or wanted []))

abbrev pub finished : Option Name → Span → Drawing → Option ChosenObjective → Outcome Network
finished wanted at d (Some g) = Ok (network_of d.nodes d.arcs g)
finished wanted at d None = without_goal wanted at d.has_objective

-- the last token of a declaration
abbrev pub semicolon : Declaration → Token
semicolon (set t n ps e) = e
semicolon (param t n b ps e) = e
semicolon (check t b m x e) = e
semicolon (node t n b c e) = e
semicolon (arc t n b ps e) = e
semicolon (objective t n p e) = e

-- the end of the declarations; the start of the text if there are none
abbrev pub end_of : ℕ → List Declaration → ℕ
end_of at [] = at
end_of at (d ∷ ds) = end_of (semicolon d).span.end ds

-- the network of a model with the objective of the given name, or with its only objective
unfoldable pub network : Option Name → World → List Declaration → Outcome Network
network wanted w ds = and_then (draw wanted w ds nothing) (λ d. finished wanted (point (end_of 0 ds)) d d.goal)

-- what contracts see of a network with names
abbrev pub seen_as : NamedOfCode → Network
seen_as n = record { nodes = map sides_of n.instance.nodes.items; arcs = n.instance.arcs.items; sense = n.instance.sense; constant = n.instance.constant; names = n.names }

-- the code returns the network that the definition gives, or the first error, unless memory runs
-- out
abbrev pub AnswersNetwork : Outcome Network → Result NamedOfCode Fault → Type 0
AnswersNetwork wanted result = RefinesAs seen_as wanted result
