-- What a compiled model and a solved model say of the network that the two inputs mean (AMPL book, chapter 15; First DIMACS Implementation
-- Challenge, minimum-cost flow). The meaning of sets, parameters, expressions and networks is that of net_meaning, which has no errors and no
-- defaults; no definition of the code's evaluation is cited.
use Rattle.std.specs.Prelude.{◌≡◌, ℕ, Bool, not, if◌then◌else◌, List, [], ◌∷◌, ◌++◌, map, Option, is_some, length, ⊤, ℤ, ◌+ℤ◌, ◌-ℤ◌, ◌≤ℤ◌}
use Rattle.std.specs.List.{AllByRecursion, AllZip, flat_map, IsDistinct, position_or_len}
use Rattle.std.specs.Str.{bytes_eq}
use Rattle.net_lex.specs.Lexing.{AreTokensOf}
use Rattle.net_lex.specs.declared.token.Token.{Token}
use Rattle.net_tree.specs.Syntax.{Declaration, node, arc}
use Rattle.net_base.specs.declared.diagnostic.Language.TheVariants as languages
use Rattle.net_model.specs.GrammarOfDeclarations.{IsModel}
use Rattle.net_data.specs.declared.statement.Tables.{Tables}
use Rattle.net_data.specs.Grammar.{IsDataFile}
use Rattle.net_check.specs.Certificates.{is_in, IsViolatedCut}
use Rattle.net_check.specs.declared.certificate.Side.{Side}
use Rattle.net_check.specs.declared.certificate.Side.TheVariants.{Over, Under}
use Rattle.net_dimacs.specs.Problems.{IsProblemText, IsOnlyProblem}
use Rattle.net_dimacs.specs.Written.{problem_text}
use Rattle.net_expr.specs.Worlds.{Name}
use Rattle.net_inst.specs.declared.network_names.Declared.{Declared}
use Rattle.net_inst.specs.declared.network_names.Names.{Names}
use Rattle.net_inst.specs.Lists.{Key, Listed}
use Rattle.net_meaning.specs.Network.{Label, Node, Arc, Network, Assignment, IsNetwork, IsEvaluated, net_inflow, AreWithinBounds, IsSatisfied, IsSatisfiedBy, IsFeasible, HasValue}
use Rattle.net_normal.specs.declared.problem.Problem.{Problem}
use Rattle.net_normal.specs.Sums.{sum_of}
use Rattle.net_meaning.specs.Represents.{magnitude, Represents, by_label}
use Rattle.net_meaning.specs.Values.{World}
use Rattle.net_meaning.specs.World.{names_in, IsWorld}
use Rattle.net_report.specs.Cuts.{need, room, cut_text}
use Rattle.net_report.specs.Displays.{display_of_all}
use Rattle.net_report.specs.Links.{link_text}
use Rattle.net_driver.specs.declared.answer.Answer.{Answer}
use Rattle.net_driver.specs.declared.answer.Outcome.{Outcome}
use Rattle.net_driver.specs.declared.answer.Outcome.TheVariants.{Displayed, Infeasible}
use Rattle.net_driver.specs.declared.compiled.Compiled.{Compiled}
use Rattle.net_driver.specs.IsSolved.{IsAsGood}

-- ---- the two inputs

-- the model file contains these declarations: by the grammar, its tokens are theirs
pub record ContainsModel (text : List ℕ) (ds : List Declaration) : Type 0 where
  pub tokens : List Token
  pub read : AreTokensOf languages.Model text tokens
  pub derived : IsModel ds tokens

-- the data file contains these statements
pub record ContainsData (text : List ℕ) (tables : Tables) : Type 0 where
  pub tokens : List Token
  pub read : AreTokensOf languages.Data text tokens
  pub derived : IsDataFile tables tokens

-- The two inputs mean this network. The model contains these declarations, in which no name is declared twice, and the data these statements.
-- Together they give each set its members and each parameter its values: this is the world. In it the declarations have this network, with the
-- requested objective, or the only one; nothing in it is without a value.
pub record MeanNetwork (requested : Option Name) (model_text data_text : List ℕ) (network : Network) : Type 0 where
  pub declarations : List Declaration
  pub model : ContainsModel model_text declarations
  pub names_once : IsDistinct bytes_eq (names_in declarations)
  pub tables : Tables
  pub data_statements : ContainsData data_text tables
  pub world : World
  pub is_world : IsWorld declarations tables.statements world
  pub is_network : IsNetwork requested world declarations network
  pub evaluated : IsEvaluated network

-- ---- compiled models

-- the names of nodes and of arcs that a declaration declares, each with whether it is indexed
abbrev pub node_declared : Declaration → List Declared
node_declared (node n b c) = (record { name = n; indexed = is_some b }) ∷ []
node_declared _ = []

abbrev pub arc_declared : Declaration → List Declared
arc_declared (arc n b ps) = (record { name = n; indexed = is_some b }) ∷ []
arc_declared _ = []

-- a label by the index of its declaration, and its key
abbrev pub key_in : List Declared → Label → Key
key_in declared l = record { declaration = position_or_len (λ (d : Declared). bytes_eq d.name l.name) declared; tuple = l.key }

-- the declared names, and the labels in order
abbrev pub listed : List Declared → List Label → Listed
listed declared labels = record { declarations = declared; keys = map (key_in declared) labels }

-- the names of the network: that of its objective, and those of its nodes and arcs
abbrev pub network_names : List Declaration → Network → Names
network_names ds network = record {
  objective = network.objective.name;
  nodes = listed (flat_map node_declared ds) (map (λ (v : Node). v.label) network.nodes);
  arcs = listed (flat_map arc_declared ds) (map (λ (a : Arc). a.label) network.arcs);
}

-- the names are those of the network; the text is the name map followed by the problem's lines, and it contains this problem and no other
pub record IsWritten (ds : List Declaration) (network : Network) (c : Compiled) : Type 0 where
  pub names : c.names ≡ network_names ds network
  pub text : c.text.items ≡ link_text c.names c.link ++ problem_text c.problem.supplies.items c.problem.arcs.items
  pub problem : IsProblemText c.text.items c.problem.supplies.items c.problem.arcs.items
  pub only : IsOnlyProblem c.text.items c.problem.supplies.items c.problem.arcs.items

-- The compiled model is that of the two inputs: they mean a network, the problem represents it, and the text is the network's names and this
-- problem.
pub record IsCompilation (requested : Option Name) (model_text data_text : List ℕ) (c : Compiled) : Type 0 where
  pub network : Network
  pub mean : MeanNetwork requested model_text data_text network
  pub represents : Represents network c.problem c.link
  pub written : IsWritten mean.declarations network c

-- ---- solved models

-- there is a flow for each arc, in order; the assignment of these flows is feasible and has this value, and this value is at least as good as
-- that of every feasible assignment
pub record IsOptimal (network : Network) (flows : List ℤ) (value : ℤ) : Type 0 where
  pub each : length flows ≡ length network.arcs
  pub feasible : IsFeasible network (by_label network.arcs flows)
  pub has_value : HasValue network (by_label network.arcs flows) value
  pub none_better : (x : Assignment) (other : ℤ) → IsFeasible network x → HasValue network x other → IsAsGood network.objective.sense value other

-- a displayed plan is optimal in the network; if the outcome is a cut, no assignment is feasible
abbrev pub HoldsIn : Network → Outcome → Type 0
HoldsIn network (Displayed text numbers value) = IsOptimal network numbers.items value
HoldsIn network (Infeasible text flags side) = (x : Assignment) → ¬ IsFeasible network x

-- the text of the outcome: the plan; or the cut, a set of nodes whose supply is outside what its arcs in the problem allow
abbrev pub IsPrinted : Compiled → Outcome → Type 0
IsPrinted c (Displayed text numbers value) = text.items ≡ display_of_all c.names numbers.items value
IsPrinted c (Infeasible text flags side) = IsViolatedCut c.problem flags.items side × (text.items ≡ cut_text c.names c.problem flags.items side)

-- the nodes with these marks
abbrev pub marked : List Node → List Bool → List Node
marked [] flags = []
marked (v ∷ vs) [] = []
marked (v ∷ vs) (flag ∷ flags) = if flag then v ∷ marked vs flags else marked vs flags

-- the nodes of the model that a cut is about: those of its set or, if the node outside is in the set, those that are not. The text of a cut names
-- the nodes of its set, and says whether the node outside is one of them.
abbrev pub nodes_of_cut : List Node → List Bool → List Node
nodes_of_cut vs flags = marked vs (if is_in flags (length vs) then map not flags else flags)

-- the difference of the two numbers of a cut; in the model only the difference has a meaning, since offsets and slack change both numbers alike
abbrev pub shortage : Problem → List Bool → Side → ℤ
shortage problem flags Over = need problem flags -ℤ room problem flags Over
shortage problem flags Under = room problem flags Under -ℤ need problem flags

-- numbers for these nodes, one each: added to their net inflows, they make each of their conditions true
abbrev pub AreMisses : List Node → List Arc → Assignment → List ℤ → Type 0
AreMisses vs all x ds = AllZip (λ v d. IsSatisfied v.env v.condition (net_inflow all x v.label +ℤ d)) vs ds

-- for some assignment within the bounds, such numbers have this sum, apart from its sign
abbrev pub IsExactlyMissed : List Node → List Arc → ℤ → Type 0
IsExactlyMissed vs all short = (x : Assignment) × (ds : List ℤ) × AreWithinBounds all x × AreMisses vs all x ds × (magnitude (sum_of ds) ≡ short)

-- No assignment within the bounds makes the conditions of these nodes all true. Whatever numbers do when added to their net inflows, the sum of
-- the absolute values is at least this much. For some assignment, their sum with signs is exactly this or minus this; the least sum of absolute
-- values can be larger.
pub record AreMissed (vs : List Node) (all : List Arc) (short : ℤ) : Type 0 where
  pub contradict : (x : Assignment) → AreWithinBounds all x → ¬ AllByRecursion (IsSatisfiedBy all x) vs
  pub missing : (x : Assignment) (ds : List ℤ) → AreWithinBounds all x → AreMisses vs all x ds → short ≤ℤ sum_of (map magnitude ds)
  pub exact : IsExactlyMissed vs all short

-- a cut's nodes are those whose conditions are missed, by the difference of its two numbers
abbrev pub IsExplained : Network → Problem → Outcome → Type 0
IsExplained network problem (Displayed text numbers value) = ⊤
IsExplained network problem (Infeasible text flags side) = AreMissed (nodes_of_cut network.nodes flags.items) network.arcs (shortage problem flags.items side)

-- The solved model is that of the two inputs: its compiled model is, the outcome holds in the network, the text prints it, and a cut says what is
-- missing there.
pub record IsSolution (requested : Option Name) (model_text data_text : List ℕ) (a : Answer) : Type 0 where
  pub compilation : IsCompilation requested model_text data_text a.compiled
  pub holds : HoldsIn compilation.network a.outcome
  pub printed : IsPrinted a.compiled a.outcome
  pub explained : IsExplained compilation.network a.compiled.problem a.outcome
