-- Compiled problems and answers speak of the network that the model means.
use Rattle.std.specs.Prelude.{◌≡◌, ◌↔◌, ◌&&◌, ℕ, Bool, List, [], ◌∷◌, map, Option, if◌then◌else◌, ℤ}
use Rattle.std.specs.List.{AllZip}
use Rattle.std.specs.Str.{bytes_eq}
use Rattle.std.proofs.Common.{refl, ap, sym, ◌∙◌, subst}
use Rattle.net_sets.specs.Sets.{Tuple, same_tuple}
use Rattle.net_tree.specs.Erasure.{declarations}
use Rattle.net_tree.specs.Syntax.{Declaration}
use Rattle.net_normal.specs.Assignments.{IsFeasibleAssignment, value_of}
use Rattle.net_expr.specs.SetValues.{HasSets}
use Rattle.net_expr.specs.Worlds.{Name}
use Rattle.net_bind.proofs.HeldEntries.{have_sets}
use Rattle.net_meaning.specs.Network as meaning
use Rattle.net_meaning.specs.Network.{flow_on}
use Rattle.net_meaning.specs.OfTrees.{meant_world}
use Rattle.net_meaning.specs.Represents.{by_label}
use Rattle.net_meaning.specs.Values.{World}
use Rattle.net_inst.specs.AsWritten as written
use Rattle.net_inst.specs.Instances.{seen_as}
use Rattle.net_inst.specs.Laws.{HaveFeasible, HaveObjective, IsObjectiveOf}
use Rattle.net_inst.specs.Readings as readings
use Rattle.net_inst.specs.Represented.{ProblemsRepresent}
use Rattle.net_inst.specs.Soundness.{IsSameArc, IsNamedOnce, HasAssignments, AssignmentsAreSound}
use Rattle.net_driver.specs.declared.answer.Outcome.{Outcome}
use Rattle.net_driver.specs.declared.answer.Outcome.TheVariants.{Displayed, Infeasible}
use Rattle.net_driver.specs.declared.compiled.Compiled.{Compiled}
use Rattle.net_driver.specs.IsSolved.{IsAsGood, IsOutcome, by_arc}
use Rattle.net_driver.specs.IsBuilt.{IsBuilt}
use Rattle.net_driver.specs.Made.{profile_of}
use Rattle.net_driver.specs.Meaning.{HoldsIn}
use Rattle.net_driver.specs.MeaningLaws.{RepresentsModel, CompiledProblemsRepresent, AnswersSolveModels}
use Rattle.net_driver.proofs.Answered.{aim_of}
use Rattle.net_driver.proofs.Apart.{bound_apart}
use Rattle.net_driver.proofs.Counts.{zip_length}
use Rattle.net_driver.proofs.NamedOnce.{named_once}
use Rattle.net_driver.proofs.OneNetwork.{one_network}

-- what an accepted model has
module _ (lean : Bool) (wanted : Option Name) (m d : List ℕ) (c : Compiled) (h : IsBuilt lean wanted m d c) where
  pub sets_of : HasSets h.world
  sets_of = have_sets h.declarations h.accepts.tables.statements h.world h.accepts.world

  pub names_of : IsNamedOnce h.declarations
  names_of = named_once h.declarations h.accepts.model.named

pub compiled_represent : ProblemsRepresent → CompiledProblemsRepresent
compiled_represent represent lean wanted m d c h =
    let found = represent wanted h.world h.declarations h.made (profile_of lean) c.problem c.link (sets_of lean wanted m d c h) (names_of lean wanted m d c h) h.accepts.model.means.level h.has_network h.normal h.by_number in
    record { network = found.0.network; is_network = found.0.is_network; represents = found.2 }

-- ---- answers

pub flows_same : (xs : List written.WrittenArc) (all : List meaning.Arc) (x : meaning.Assignment) → AllZip IsSameArc xs all → map (flow_on x) all ≡ written.numbers_on x xs
flows_same [] [] x h = refl
flows_same [] (a ∷ all) x h = absurd h
flows_same (v ∷ xs) [] x h = absurd h
flows_same (v ∷ xs) (a ∷ all) x h =
    let one = ap (λ (n : Name). x n a.label.key) h.0.name ∙ ap (x v.label.name) h.0.key in
    let rest = flows_same xs all x h.1 in
    λ t. one t ∷ rest t

-- the flows in order are one assignment by either labels
pub by_same : (xs : List written.WrittenArc) (all : List meaning.Arc) (ys : List ℤ) → AllZip IsSameArc xs all → (n : Name) (key : Tuple) → by_label all ys n key ≡ by_arc xs ys n key
by_same [] [] ys h n key = refl
by_same [] (a ∷ all) ys h n key = absurd h
by_same (v ∷ xs) [] ys h n key = absurd h
by_same (v ∷ xs) (a ∷ all) [] h n key = refl
by_same (v ∷ xs) (a ∷ all) (y ∷ ys) h n key =
    ap (λ (k : Name). if bytes_eq k n && same_tuple a.label.key key then y else by_label all ys n key) h.0.name
    ∙ ap (λ (k : Tuple). if bytes_eq v.label.name n && same_tuple k key then y else by_label all ys n key) h.0.key
    ∙ ap (λ (z : ℤ). if bytes_eq v.label.name n && same_tuple v.label.key key then y else z) (by_same xs all ys h.1 n key)

-- what holds in one network of the declarations holds in the other, which is the same
pub holds_moved : (wanted : Option Name) (w : World) (ds : List Declaration) (network other : meaning.Network) (outcome : Outcome)
    → meaning.IsNetwork wanted w ds network → meaning.IsNetwork wanted w ds other → HoldsIn network outcome → HoldsIn other outcome
holds_moved wanted w ds network other outcome is are h = subst (λ (n : meaning.Network). HoldsIn n outcome) (one_network wanted w ds network other is are) h

pub answers_solve : ProblemsRepresent → AssignmentsAreSound → HaveFeasible → HaveObjective → AnswersSolveModels
answers_solve represent sound fits aims lean wanted m d a h = record { represented = represented; holds = moved }
  where
    p : IsBuilt lean wanted m d a.compiled
    p = h.compiled

    ns : List written.WrittenNode
    ns = written.nodes p.world p.declarations

    xs : List written.WrittenArc
    xs = written.arcs p.world p.declarations

    s : HasAssignments wanted p.world p.declarations p.made
    s = sound wanted p.world p.declarations p.made (sets_of lean wanted m d a.compiled p) (names_of lean wanted m d a.compiled p) p.accepts.model.means.level p.has_network

    apart : written.AreDistinct ns xs
    apart = bound_apart p.declarations p.accepts.tables.statements p.world p.accepts.model.named p.accepts.world

    flows : (x : meaning.Assignment) → map (flow_on x) s.has.network.arcs ≡ written.numbers_on x xs
    flows x = flows_same xs s.has.network.arcs x s.has.same_arcs

    feasible : (x : meaning.Assignment) → meaning.IsFeasible s.has.network x ↔ written.IsFeasible ns xs x
    feasible x =
        let own = s.feasible x in
        let by = fits wanted p.world p.declarations p.made p.has_network apart x in (
          (λ k. by.1 (subst (IsFeasibleAssignment p.made.instance) (flows x) (own.0 k))),
          (λ k. own.1 (subst (IsFeasibleAssignment p.made.instance) (sym (flows x)) (by.0 k))),
        )

    aim : IsObjectiveOf p.objective (seen_as p.made) xs
    aim = aim_of lean wanted m d a.compiled aims p

    is_value : (x : meaning.Assignment) → value_of p.made.instance (map (flow_on x) s.has.network.arcs) ≡ readings.value_of p.objective x
    is_value x = ap (value_of p.made.instance) (flows x) ∙ aim.value apart.arcs x

    sense : s.has.network.objective.sense ≡ p.objective.sense
    sense = s.has.same_sense ∙ aim.sense

    go : (o : Outcome) → IsOutcome a.compiled ns xs p.objective o → HoldsIn s.has.network o
    go (Displayed text numbers value) k =
        let x : meaning.Assignment = by_label s.has.network.arcs numbers.items in
        let same : x ≡ by_arc xs numbers.items = λ t n key. by_same xs s.has.network.arcs numbers.items s.has.same_arcs n key t in
        record {
          each = k.best.each ∙ zip_length IsSameArc xs s.has.network.arcs s.has.same_arcs;
          feasible = (feasible x).1 (subst (written.IsFeasible ns xs) (sym same) k.best.feasible);
          has_value = (s.value x value).1 (sym (is_value x ∙ ap (readings.value_of p.objective) same ∙ k.best.is_value));
          none_better = λ y other f v.
              subst (λ o. IsAsGood o value other) (sym sense)
              (subst (IsAsGood p.objective.sense value) (sym ((s.value y other).0 v ∙ is_value y)) (k.best.none_better y ((feasible y).0 f)));
        }
    go (Infeasible text flags side) k = λ x f. k.none x ((feasible x).0 f)

    represented : RepresentsModel wanted (meant_world p.world) (declarations p.declarations) a.compiled.problem a.compiled.link
    represented = compiled_represent represent lean wanted m d a.compiled p

    moved : HoldsIn represented.network a.outcome
    moved = holds_moved wanted (meant_world p.world) (declarations p.declarations) s.has.network represented.network a.outcome s.has.is_network represented.is_network (go a.outcome h.outcome)
