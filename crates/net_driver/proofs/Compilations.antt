-- Compiled models and answers are those of the network that the two inputs mean.
use Rattle.std.specs.Prelude.{◌≡◌, ℕ, Bool, List, [], ◌∷◌, map, Option}
use Rattle.std.specs.List.{IsDistinct}
use Rattle.std.specs.Str.{bytes_eq}
use Rattle.std.proofs.Common.{refl, ap, sym, subst}
use Rattle.net_tree.specs.Erasure.{declarations}
use Rattle.net_tree.specs.Tree.{Declaration, set, param, check, node, arc, objective}
use Rattle.net_model.specs.GrammarLaws as model_laws
use Rattle.net_model.specs.GrammarOfDeclarations.{IsModel}
use Rattle.net_data.specs.GrammarLaws as data_laws
use Rattle.net_expr.specs.Worlds.{Name}
use Rattle.net_bind.specs.Soundness.{WorldsAreSound}
use Rattle.net_meaning.specs.Network as meaning
use Rattle.net_meaning.specs.Network.{IsNetwork, IsEvaluated}
use Rattle.net_meaning.specs.OfTrees.{meant_world}
use Rattle.net_meaning.specs.Represents.{Represents}
use Rattle.net_meaning.specs.World.{names_in}
use Rattle.net_inst.specs.AsWritten as written
use Rattle.net_inst.specs.AsWritten.{nodes, arcs}
use Rattle.net_inst.specs.Instances.{seen_as}
use Rattle.net_inst.specs.Laws.{HaveFeasible, HaveObjective}
use Rattle.net_inst.specs.Readings.{Objective}
use Rattle.net_inst.specs.Represented.{ProblemsRepresent}
use Rattle.net_inst.specs.Soundness as once
use Rattle.net_inst.specs.Soundness.{HasNetwork, AssignmentsAreSound}
use Rattle.net_driver.specs.declared.answer.Answer.{Answer}
use Rattle.net_driver.specs.declared.answer.Outcome.{Outcome}
use Rattle.net_driver.specs.declared.answer.Outcome.TheVariants.{Displayed, Infeasible}
use Rattle.net_driver.specs.declared.compiled.Compiled.{Compiled}
use Rattle.net_driver.specs.IsSolved.{IsSolved, IsOutcome}
use Rattle.net_driver.specs.IsBuilt.{IsBuilt}
use Rattle.net_driver.specs.Made.{profile_of}
use Rattle.net_driver.specs.Meaning.{IsCompilation, IsSolution, IsPrinted, IsExplained}
use Rattle.net_driver.specs.MeaningLaws.{CompilationsAreSound, SolutionsAreSound}
use Rattle.net_driver.proofs.MissedCuts.{cuts_are_missed}
use Rattle.net_driver.proofs.ModelMeaning.{sets_of, names_of, answers_solve, holds_moved}
use Rattle.net_driver.proofs.ModelWorld.{is_world}
use Rattle.net_driver.proofs.NetworkNames.{names_are_listed}
use Rattle.net_inst.proofs.SoundProblems.{problems_represent}
use Rattle.net_inst.proofs.SoundAssignments.{assignments_are_sound}
use Rattle.net_inst.proofs.Feasible.{have_feasible}
use Rattle.net_inst.proofs.Aiming.{have_objective}
use Rattle.net_bind.proofs.SoundWorlds.{worlds_are_sound}
use Rattle.net_model.proofs.GrammarModelsComplete.{model-complete}
use Rattle.net_data.proofs.GrammarAgrees.{complete}

-- ---- declared names

pub names_are : (ds : List Declaration) → names_in (declarations ds) ≡ once.names_in ds
names_are [] = refl
names_are (set t n ps e ∷ ds) = ap (λ ns. n.text ∷ ns) (names_are ds)
names_are (param t n b ps e ∷ ds) = ap (λ ns. n.text ∷ ns) (names_are ds)
names_are (check t b m x e ∷ ds) = names_are ds
names_are (node t n b c e ∷ ds) = ap (λ ns. n.text ∷ ns) (names_are ds)
names_are (arc t n b ps e ∷ ds) = ap (λ ns. n.text ∷ ns) (names_are ds)
names_are (objective t n p e ∷ ds) = ap (λ ns. n.text ∷ ns) (names_are ds)

-- ---- compiled models

module _ (represent : ProblemsRepresent) (worlds : WorldsAreSound) (models : model_laws.IsComplete) (data_files : data_laws.IsComplete) where
  -- the compiled model, whose network is one of the declarations in the computed world
  compilation_of : (lean : Bool) (wanted : Option Name) (m d : List ℕ) (c : Compiled) (h : IsBuilt lean wanted m d c)
      → (x : IsCompilation wanted m d c) × IsNetwork wanted (meant_world h.world) (declarations h.declarations) x.network
  compilation_of lean wanted m d c h = (
    record {
      network = has.network;
      mean = record {
        declarations = declarations h.declarations;
        model = record {
          tokens = h.accepts.model.tokens;
          read = h.accepts.model.read;
          derived = subst (λ ts. IsModel (declarations h.declarations) ts) h.accepts.model.means.printed (models h.declarations h.accepts.model.means.level);
        };
        names_once = subst (IsDistinct bytes_eq) (sym (names_are h.declarations)) (names_of lean wanted m d c h).once;
        tables = h.accepts.tables;
        data_statements = record {
          tokens = h.accepts.statements.tokens;
          read = h.accepts.statements.read;
          derived = data_files h.accepts.statements.tokens h.accepts.tables h.accepts.statements.written h.accepts.statements.full;
        };
        world = meant_world h.world;
        is_world = is_world worlds m d h.declarations h.accepts.tables h.world h.accepts.model h.accepts.statements h.accepts.world;
        is_network = has.is_network;
        evaluated = found.1;
      };
      represents = found.2;
      written = record { names = names_are_listed lean wanted m d c h has; text = h.text; problem = h.problem; only = h.only };
    },
    has.is_network,
  )
    where
      found : (has : HasNetwork wanted h.world h.declarations (seen_as h.made)) × IsEvaluated has.network × Represents has.network c.problem c.link
      found = represent wanted h.world h.declarations h.made (profile_of lean) c.problem c.link (sets_of lean wanted m d c h) (names_of lean wanted m d c h) h.accepts.model.means.level h.has_network h.normal h.by_number

      has : HasNetwork wanted h.world h.declarations (seen_as h.made)
      has = found.0

  pub compilations_sound : CompilationsAreSound
  compilations_sound lean wanted m d c h = (compilation_of lean wanted m d c h).0

  -- ---- solved models

  printed : (c : Compiled) (ns : List written.WrittenNode) (xs : List written.WrittenArc) (p : Objective) (o : Outcome) → IsOutcome c ns xs p o → IsPrinted c o
  printed c ns xs p (Displayed text numbers value) h = h.displayed
  printed c ns xs p (Infeasible text flags side) h = (h.violated, h.reported)

  explained : (network : meaning.Network) (c : Compiled) (outcome : Outcome) → Represents network c.problem c.link → IsDistinct meaning.same_label (map (λ (a : meaning.Arc). a.label) network.arcs)
      → IsPrinted c outcome → IsExplained network c.problem outcome
  explained network c (Displayed text numbers value) h apart k = tt
  explained network c (Infeasible text flags side) h apart k = cuts_are_missed network c.problem c.link flags.items side h apart k.0

  -- the solved model, whose network is one of the declarations in the computed world
  pub solution_of : AssignmentsAreSound → HaveFeasible → HaveObjective → (lean : Bool) (wanted : Option Name) (m d : List ℕ) (a : Answer) (h : IsSolved lean wanted m d a)
      → (x : IsSolution wanted m d a) × IsNetwork wanted (meant_world h.compiled.world) (declarations h.compiled.declarations) x.compilation.network
  solution_of sound fits aims lean wanted m d a h =
      let own = compilation_of lean wanted m d a.compiled h.compiled in
      let solved = answers_solve represent sound fits aims lean wanted m d a h in
      let text = printed a.compiled (nodes h.compiled.world h.compiled.declarations) (arcs h.compiled.world h.compiled.declarations) h.compiled.objective a.outcome h.outcome in (
        record {
          compilation = own.0;
          holds = holds_moved wanted (meant_world h.compiled.world) (declarations h.compiled.declarations) _ own.0.network a.outcome solved.represented.is_network own.1 solved.holds;
          printed = text;
          explained = explained own.0.network a.compiled a.outcome own.0.represents own.0.mean.is_network.arcs_apart text;
        },
        own.1,
      )

  pub solutions_sound : AssignmentsAreSound → HaveFeasible → HaveObjective → SolutionsAreSound
  solutions_sound sound fits aims lean wanted m d a h = (solution_of sound fits aims lean wanted m d a h).0

pub compilations_are_sound : CompilationsAreSound
compilations_are_sound = compilations_sound problems_represent worlds_are_sound model-complete complete

pub solutions_are_sound : SolutionsAreSound
solutions_are_sound = solutions_sound problems_represent worlds_are_sound model-complete complete assignments_are_sound have_feasible have_objective

pub solution_with_network : (lean : Bool) (wanted : Option Name) (m d : List ℕ) (a : Answer) (h : IsSolved lean wanted m d a)
    → (x : IsSolution wanted m d a) × IsNetwork wanted (meant_world h.compiled.world) (declarations h.compiled.declarations) x.compilation.network
solution_with_network = solution_of problems_represent worlds_are_sound model-complete complete assignments_are_sound have_feasible have_objective
