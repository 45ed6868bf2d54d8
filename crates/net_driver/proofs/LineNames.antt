-- The names of a network are without line endings, since the tokens of the files are.
use Rattle.std.specs.Prelude.{◌≡◌, ℕ, List, [], ◌∷◌, map}
use Rattle.std.specs.List.{AllByRecursion, flat_map}
use Rattle.std.proofs.Common.{sym, subst}
use Rattle.net_base.specs.declared.diagnostic.Language.TheVariants as languages
use Rattle.net_lex.specs.declared.token.Token.{Token}
use Rattle.net_lex.specs.LineEnds.{HasNoLineEnd}
use Rattle.net_lex.proofs.LineEnds.{tokens_stay}
use Rattle.net_tree.specs.Print.{print}
use Rattle.net_tree.specs.Erasure.{declarations}
use Rattle.net_tree.specs.Syntax as forms
use Rattle.net_tree.specs.Tree.{Declaration, set, param, check, node, arc, objective}
use Rattle.net_tree.specs.Declarations.{AreDeclarations}
use Rattle.net_model.specs.GrammarLaws as model_laws
use Rattle.net_data.specs.declared.statement.Tables.{Tables}
use Rattle.net_data.specs.GrammarLaws as data_laws
use Rattle.net_sets.specs.declared.member.Member.TheVariants as member
use Rattle.net_sets.specs.Sets.{Tuple}
use Rattle.net_sets.specs.Texts.{text_of}
use Rattle.net_driver.proofs.TokenTexts.{text_stays}
use Rattle.net_expr.specs.Worlds.{Name}
use Rattle.net_meaning.specs.Network.{Label, Node, Arc}
use Rattle.net_meaning.specs.Texts.{TupleHolds, DeclarationsHold, StatementsHold, nodes_in, arcs_in, LabelHolds}
use Rattle.net_meaning.proofs.TextNetworks.{network_holds}
use Rattle.net_meaning.proofs.TextTokens.{declaration_and, declarations_hold, statements_hold}
use Rattle.net_meaning.proofs.TextWorlds.{world_holds}
use Rattle.net_inst.specs.declared.network_names.Declared.{Declared}
use Rattle.net_inst.specs.Lists.{Key, Listed}
use Rattle.net_report.specs.LineNames.{AreWithinLine, HasLineNames}
use Rattle.net_report.specs.Links.{in_line}
use Rattle.net_report.specs.References.{names_in}
use Rattle.net_driver.specs.LineNames.{AreExact, HasExactNames, NamesAreExact, BuiltNamesAreExact}
use Rattle.net_driver.specs.Meaning.{ContainsModel, ContainsData, node_declared, arc_declared, key_in, listed}
use Rattle.net_driver.specs.MeaningLaws.{CompilationsAreSound}

-- ---- tokens

abbrev Stays : Token → Type 0
Stays t = HasNoLineEnd t.text

text_of_token : (t : Token) → Stays t → HasNoLineEnd (text_of t.text)
text_of_token t h = text_stays t.text h

-- the tokens of the syntax trees are those of the file
printed_stay : (sound : model_laws.IsSound) (m : List ℕ) (ds : List forms.Declaration) (is : ContainsModel m ds) → AllByRecursion Stays (print (sound ds is.tokens is.derived).0)
printed_stay sound m ds is = subst (AllByRecursion Stays) (sym (sound ds is.tokens is.derived).2) (tokens_stay languages.Model 0 m is.tokens is.read.read)

declarations_stay : model_laws.IsSound → (m : List ℕ) (ds : List forms.Declaration) → ContainsModel m ds → DeclarationsHold HasNoLineEnd ds
declarations_stay sound m ds is =
    subst (DeclarationsHold HasNoLineEnd) (sound ds is.tokens is.derived).3 (declarations_hold HasNoLineEnd Stays text_of_token (sound ds is.tokens is.derived).0 (printed_stay sound m ds is))

statements_stay : data_laws.IsSound → (d : List ℕ) (x : Tables) → ContainsData d x → StatementsHold HasNoLineEnd x.statements
statements_stay sound d x is = statements_hold HasNoLineEnd Stays text_of_token is.tokens x (sound is.tokens x is.derived).0 (tokens_stay languages.Data 0 d is.tokens is.read.read)

-- ---- declared names

abbrev NamesStay : List Declared → Type 0
NamesStay declared = AllByRecursion (λ (d : Declared). HasNoLineEnd d.name) declared

nodes_declared_stay : (ds : List Declaration) → AllByRecursion Stays (print ds) → NamesStay (flat_map node_declared (declarations ds))
nodes_declared_stay [] h = tt
nodes_declared_stay (d ∷ ds) h = go d h (nodes_declared_stay ds (declaration_and HasNoLineEnd Stays text_of_token d (print ds) h).1)
  where
    go : (d : Declaration) → AllByRecursion Stays (print (d ∷ ds)) → NamesStay (flat_map node_declared (declarations ds)) → NamesStay (flat_map node_declared (declarations (d ∷ ds)))
    go (node t n b c e) h more = (h.1.0, more)
    go (set t n ps e) h more = more
    go (param t n b ps e) h more = more
    go (check t b m x e) h more = more
    go (arc t n b ps e) h more = more
    go (objective t n p e) h more = more

arcs_declared_stay : (ds : List Declaration) → AllByRecursion Stays (print ds) → NamesStay (flat_map arc_declared (declarations ds))
arcs_declared_stay [] h = tt
arcs_declared_stay (d ∷ ds) h = go d h (arcs_declared_stay ds (declaration_and HasNoLineEnd Stays text_of_token d (print ds) h).1)
  where
    go : (d : Declaration) → AllByRecursion Stays (print (d ∷ ds)) → NamesStay (flat_map arc_declared (declarations ds)) → NamesStay (flat_map arc_declared (declarations (d ∷ ds)))
    go (arc t n b ps e) h more = (h.1.0, more)
    go (set t n ps e) h more = more
    go (param t n b ps e) h more = more
    go (check t b m x e) h more = more
    go (node t n b c e) h more = more
    go (objective t n p e) h more = more

-- ---- keys

key_within : (key : Tuple) → TupleHolds HasNoLineEnd key → AreWithinLine key
key_within [] h = tt
key_within (member.Number n ∷ key) h = (tt, key_within key h.1)
key_within (member.Name text ∷ key) h = (h.0, key_within key h.1)

abbrev LabelsStay : List Label → Type 0
LabelsStay labels = AllByRecursion (λ (l : Label). TupleHolds HasNoLineEnd l.key) labels

keys_within : (declared : List Declared) (labels : List Label) → LabelsStay labels → AllByRecursion (λ (k : Key). AreWithinLine k.tuple) (map (key_in declared) labels)
keys_within declared [] h = tt
keys_within declared (l ∷ labels) h = (key_within l.key h.0, keys_within declared labels h.1)

-- names without line endings are unchanged in their lines
abbrev AreUnchanged : Type 0
AreUnchanged = (listed : Listed) → HasLineNames listed → AllByRecursion (λ (name : List ℕ). in_line name ≡ name) (names_in listed)

-- the names of labels are exact in the name map
exact : AreUnchanged → (declared : List Declared) (labels : List Label) → NamesStay declared → LabelsStay labels → AreExact (listed declared labels)
exact same declared labels h k = record { within = within; unchanged = same (listed declared labels) within }
  where
    within : HasLineNames (listed declared labels)
    within = record { names = h; keys = keys_within declared labels k }

labels_stay : {A : Type 0} (label : A → Label) (names : List Name) (xs : List A) → AllByRecursion (λ x. LabelHolds HasNoLineEnd names (label x)) xs → LabelsStay (map label xs)
labels_stay label names [] h = tt
labels_stay label names (x ∷ xs) h = (h.0.1, labels_stay label names xs h.1)

-- ---- compiled models

pub names_exact : model_laws.IsSound → data_laws.IsSound → AreUnchanged → NamesAreExact
names_exact models data_files same requested m d c is = subst HasExactNames (sym is.written.names) (record {
  nodes = exact same (flat_map node_declared is.mean.declarations) (map (λ (v : Node). v.label) is.network.nodes) (subst (λ ds. NamesStay (flat_map node_declared ds)) found.3 (nodes_declared_stay found.0 printed))
      (labels_stay (λ (v : Node). v.label) (nodes_in is.mean.declarations) is.network.nodes here.0);
  arcs = exact same (flat_map arc_declared is.mean.declarations) (map (λ (a : Arc). a.label) is.network.arcs) (subst (λ ds. NamesStay (flat_map arc_declared ds)) found.3 (arcs_declared_stay found.0 printed))
      (labels_stay (λ (a : Arc). a.label) (arcs_in is.mean.declarations) is.network.arcs here.1);
})
  where
    found : (ds : List Declaration) × AreDeclarations ds × (print ds ≡ is.mean.model.tokens) × (declarations ds ≡ is.mean.declarations)
    found = models is.mean.declarations is.mean.model.tokens is.mean.model.derived

    printed : AllByRecursion Stays (print found.0)
    printed = printed_stay models m is.mean.declarations is.mean.model

    own : DeclarationsHold HasNoLineEnd is.mean.declarations
    own = declarations_stay models m is.mean.declarations is.mean.model

    here : AllByRecursion (λ (v : Node). LabelHolds HasNoLineEnd (nodes_in is.mean.declarations) v.label) is.network.nodes × AllByRecursion (λ (a : Arc). LabelHolds HasNoLineEnd (arcs_in is.mean.declarations) a.label) is.network.arcs
    here =
        network_holds HasNoLineEnd requested is.mean.world is.mean.declarations is.network
        (world_holds HasNoLineEnd is.mean.declarations is.mean.tables.statements is.mean.world own (statements_stay data_files d is.mean.tables is.mean.data_statements) is.mean.is_world) own is.mean.is_network

pub built_exact : model_laws.IsSound → data_laws.IsSound → AreUnchanged → CompilationsAreSound → BuiltNamesAreExact
built_exact models data_files same sound lean requested m d c is = names_exact models data_files same requested m d c (sound lean requested m d c is)
