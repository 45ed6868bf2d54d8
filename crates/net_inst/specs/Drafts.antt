-- Processing the declarations of a model, one after the other.
use Rattle.std.specs.Prelude.{◌+◌, Bool, true, false, List, [], ◌∷◌, codes, take, Option, None, Some, if◌then◌else◌, Ok, pos}
use Rattle.std.specs.Str.{bytes_eq}
use Rattle.net_lex.specs.declared.token.Token.{Token}
use Rattle.net_tree.specs.Tree.{Tree, Braces, Condition, Phrase, Part, absent, part, Declaration, set, param, check, node, arc, objective}
use Rattle.net_normal.specs.declared.instance.Sense.{Sense}
use Rattle.net_normal.specs.declared.instance.Sense.TheVariants.{Minimise, Maximise}
use Rattle.net_expr.specs.Worlds.{Name, World}
use Rattle.net_linear.specs.Forms.{Linear, just}
use Rattle.net_linear.specs.Objectives.{objective_form}
use Rattle.net_base.specs.declared.error_code.ErrorCode.TheVariants.{TwoObjectives}
use Rattle.net_inst.specs.declared.draft.Draft.{Draft}
use Rattle.net_inst.specs.declared.draft.ChosenObjective.{ChosenObjective}
use Rattle.net_inst.specs.Arcs.{BuiltArcs, no_arcs, with_arcs, formed, arc_env}
use Rattle.net_inst.specs.Groups.{Numbers}
use Rattle.net_inst.specs.Nodes.{BuiltNodes, no_nodes, with_nodes}
use Rattle.net_base.specs.Outcomes.{Outcome, and_then}
use Rattle.net_inst.specs.Rejections.{rejected_name}

-- the result of the declarations so far
abbrev pub Drawing : Type 0
Drawing = Draft

abbrev pub nothing : Drawing
nothing = record { known = 0; nodes = no_nodes; arcs = no_arcs; goal = None; has_objective = false }

-- the world as declared so far
abbrev pub env : World → Drawing → World
env w d = take d.known w

-- `minimize` and `maximize`
unfoldable pub sense_of : Token → Sense
sense_of t = if bytes_eq (codes "minimize") t.text then Minimise else Maximise

-- whether an objective is the chosen one: the one with the given name, or the only one if no name
-- is given
abbrev pub is_chosen : Option Name → Option ChosenObjective → Token → Outcome Bool
is_chosen (Some name) g n = Ok (bytes_eq name n.text)
is_chosen None None n = Ok true
is_chosen None (Some g) n = rejected_name TwoObjectives n

abbrev pub tree_form : Numbers → World → Tree → Outcome Linear
tree_form a w x = (objective_form a w [] x)

-- the linear form of the objective's own expression, over the arcs declared before it
abbrev pub part_form : Numbers → World → Part → Outcome Linear
part_form a w absent = Ok (just (pos 0))
part_form a w (part m x) = tree_form a w x

abbrev pub passed : Drawing → Drawing
passed d = record { known = d.known; nodes = d.nodes; arcs = d.arcs; goal = d.goal; has_objective = true }

abbrev pub aimed : Drawing → Token → Token → Linear → Drawing
aimed d t n f = record {
  known = d.known;
  nodes = d.nodes;
  arcs = formed d.arcs f;
  goal = Some (record { name = n.text; sense = sense_of t });
  has_objective = true;
}

abbrev pub with_goal : World → Token → Token → Part → Drawing → Outcome Drawing
with_goal w t n p d = and_then (part_form d.arcs.group.numbers w p) (λ f. Ok (aimed d t n f))

abbrev pub with_objective : Option Name → World → Token → Token → Part → Drawing → Outcome Drawing
with_objective wanted w t n p d = and_then (is_chosen wanted d.goal n) (λ b. if b then with_goal w t n p d else Ok (passed d))

abbrev pub known_more : Drawing → Drawing
known_more d = record { known = d.known + 1; nodes = d.nodes; arcs = d.arcs; goal = d.goal; has_objective = d.has_objective }

abbrev pub nodes_more : Drawing → BuiltNodes → Drawing
nodes_more d ns = record { known = d.known; nodes = ns; arcs = d.arcs; goal = d.goal; has_objective = d.has_objective }

abbrev pub arcs_more : Drawing → BuiltArcs → Drawing
arcs_more d xs = record { known = d.known; nodes = d.nodes; arcs = xs; goal = d.goal; has_objective = d.has_objective }

abbrev pub with_node_declaration : World → Token → Option Braces → Condition → Drawing → Outcome Drawing
with_node_declaration w n b c d = and_then (with_nodes w n b c d.nodes) (λ ns. Ok (nodes_more d ns))

abbrev pub with_arc_declaration : World → Token → Option Braces → List Phrase → Drawing → Outcome Drawing
with_arc_declaration w n b ps d = and_then (with_arcs (arc_env d.goal d.nodes w) n b ps d.arcs) (λ xs. Ok (arcs_more d xs))

-- adds a declaration
abbrev pub declare : Option Name → World → Declaration → Drawing → Outcome Drawing
declare wanted w (set t n ps e) d = Ok (known_more d)
declare wanted w (param t n b ps e) d = Ok (known_more d)
declare wanted w (check t b m x e) d = Ok d
declare wanted w (node t n b c e) d = with_node_declaration (env w d) n b c d
declare wanted w (arc t n b ps e) d = with_arc_declaration (env w d) n b ps d
declare wanted w (objective t n p e) d = with_objective wanted (env w d) t n p d

-- adds the declarations in order
abbrev pub draw : Option Name → World → List Declaration → Drawing → Outcome Drawing
draw wanted w [] d = Ok d
draw wanted w (x ∷ xs) d = and_then (declare wanted w x d) (draw wanted w xs)
