-- Laws that relate parameters, checks and worlds, as the code binds them, to their meaning.
use Rattle.std.specs.Prelude.{◌≡◌, ℕ, true, List, [], map, Option, Ok}
use Rattle.std.specs.List.{AllByRecursion}
use Rattle.net_base.specs.declared.diagnostic.Detail.{Detail}
use Rattle.net_lex.specs.declared.token.Token.{Token}
use Rattle.net_data.specs.declared.statement.Statement.{Statement}
use Rattle.net_data.specs.Meaning.{IsStatement, all_judged}
use Rattle.net_sets.specs.declared.member.Member.{Member}
use Rattle.net_tree.specs.Declarations.{AreDeclarations}
use Rattle.net_tree.specs.Erasure.{phrase}
use Rattle.net_tree.specs.Tree.{Tree, Braces, Phrase, Declaration}
use Rattle.net_expr.specs.declared.world.Entry.{Entry}
use Rattle.net_expr.specs.SetValues.{HasSets}
use Rattle.net_expr.specs.Worlds.{World, Scope}
use Rattle.net_meaning.specs.OfTrees.{env_of, IsValue, AreIndexed, IsParameter, IsWorld}
use Rattle.net_meaning.specs.Operators.{Truth}
use Rattle.net_meaning.specs.Values.{Key}
use Rattle.net_meaning.specs.World.{Fits}
use Rattle.net_bind.specs.Binding as binding
use Rattle.net_bind.specs.Binding.{checked, AreNew}
use Rattle.net_bind.specs.BoundParameters.{bound_parameter}
use Rattle.net_bind.specs.DataFor.{data_for}
use Rattle.net_bind.specs.DataValues.{HaveValues, NamesNoSet}
use Rattle.net_bind.specs.Names.{Declared}
use Rattle.net_bind.specs.Restrictions.{restricted}

-- if the code accepts a value of a parameter, the value satisfies each restriction of the declaration; the declared sets of the world have to be sets
abbrev pub RestrictionsAreSound : Type 0
RestrictionsAreSound = (w : World) (s : Scope) (d : Detail) (m : Member) (ps : List Phrase) → HasSets w → restricted w s d m ps ≡ Ok tt → AllByRecursion (Fits (env_of w s) m) (map phrase ps)

-- if the code binds a parameter with the data of well-formed statements, its entry is the one that AMPL defines
abbrev pub ParametersAreSound : Type 0
ParametersAreSound =
    (w : World) (widths : List ℕ) (name : Token) (b : Option Braces) (ps : List Phrase) (ds : Declared) (i : ℕ) (ss : List Statement) (x : Entry) → HasSets w
    → AllByRecursion IsStatement ss → AllByRecursion HaveValues ss → AllByRecursion (NamesNoSet name.text) ss
    → bound_parameter w widths name b ps (data_for ds i name.text ss) ≡ Ok x → IsParameter w ss name.text b ps x

-- if the code accepts a check, its condition is true at each of its keys
abbrev pub ChecksAreSound : Type 0
ChecksAreSound = (w : World) (b : Option Braces) (x : Tree) → HasSets w → checked w b x ≡ Ok tt → (keys : List Key) × AreIndexed w b keys × AllByRecursion (λ (k : Key). IsValue k.env x (Truth true)) keys

-- if the code computes a world of well-formed declarations and data statements, it is the world that AMPL defines
abbrev pub WorldsAreSound : Type 0
WorldsAreSound =
    (ds : List Declaration) (ss : List Statement) (w : World) → AreDeclarations ds → AreNew [] ds → AllByRecursion IsStatement ss → all_judged ss ≡ Ok tt
    → AllByRecursion HaveValues ss → binding.world ds ss ≡ Ok w → IsWorld ds ss w
