-- The answer to a model, from its compiled form and what settles its problem.
use Rattle.std.proofs.Common.{◌≡◌, ℕ, suc, List, [], ◌∷◌, length, map, Bool, Option, Some, Ok, ℤ, ◌≤ℤ◌, refl, sym, ap, subst, ◌∙◌, arith}
use Rattle.std.specs.List.{flat_map}
use Rattle.std.proofs.lemmas.List.{length-map}
use Rattle.net_check.specs.Certificates.{IsCertificate, IsViolatedCut}
use Rattle.net_check.specs.declared.certificate.Side.{Side}
use Rattle.net_expr.specs.Worlds.{Name}
use Rattle.net_inst.specs.AsWritten.{WrittenNode, WrittenArc, nodes, arcs, arc_declared, AreDistinct, Assignment, numbers_on, IsFeasible}
use Rattle.net_inst.specs.ByName.{CorrespondsByName, up, Agree}
use Rattle.net_inst.specs.Instances.{Network, seen_as}
use Rattle.net_inst.specs.Laws.{HaveObjective, IsKeyOf, IsObjectiveOf, total_of}
use Rattle.net_inst.specs.Readings.{Objective, objectives, chosen, value_of}
use Rattle.net_normal.specs.Flows.{IsFeasibleFlow, cost_of}
use Rattle.net_normal.specs.Links.{mapped_back_by, value_at}
use Rattle.net_driver.proofs.Apart.{bound_apart}
use Rattle.net_report.specs.Cuts.{cut_text}
use Rattle.net_report.proofs.InOrder.{shows_all}
use Rattle.net_solve.specs.Settling.{BoundsEachFlow, LeavesNoFlow}
use Rattle.net_check.specs.declared.certificate.Certificate.{Certificate}
use Rattle.net_check.specs.declared.certificate.Certificate.TheVariants.{Optimal, Cut}
use Rattle.net_driver.specs.declared.answer.Answer.{Answer}
use Rattle.net_driver.specs.declared.answer.Outcome.{Outcome}
use Rattle.net_driver.specs.declared.answer.Outcome.TheVariants.{Displayed, Infeasible}
use Rattle.net_driver.specs.declared.compiled.Compiled.{Compiled}
use Rattle.net_driver.specs.IsSolved.{IsSolved, IsAsGood, IsBestPlan, IsDisplay, IsCut, IsOutcome, by_arc}
use Rattle.net_driver.specs.IsBuilt.{IsBuilt}
use Rattle.net_driver.specs.Outcomes.{IsMappedBack, IsReportedCut, IsOutcomeOf}
use Rattle.net_driver.proofs.Counts.{zip_length}
use Rattle.net_driver.proofs.Promise.{some_same}
use Rattle.net_driver.proofs.Solving.{as_good}

-- what is alike on each arc has one value
value_alike : (o : Objective) (n : Network) (ns : List WrittenNode) (all : List WrittenArc) → IsObjectiveOf o n all → AreDistinct ns all → (x y : Assignment) → Agree all x y → value_of o x ≡ value_of o y
value_alike o n ns all aim distinct x y agree = sym (aim.value distinct.arcs x) ∙ ap (total_of n) agree ∙ aim.value distinct.arcs y

best : (o : Objective) (n : Network) (ns : List WrittenNode) (all : List WrittenArc) (c : Compiled) (flows : List ℤ) (cost : ℤ) (text : List ℕ) (numbers : List ℤ) (value : ℤ) → IsObjectiveOf o n all → c.link.sense ≡ o.sense
    → CorrespondsByName ns all o c.problem c.link → AreDistinct ns all → IsFeasibleFlow c.problem flows → cost ≡ cost_of c.problem flows
    → ((others : List ℤ) → IsFeasibleFlow c.problem others → cost ≤ℤ cost_of c.problem others) → IsMappedBack c flows cost text numbers value → length numbers ≡ length all → IsBestPlan ns all o numbers value
best o n ns all c flows cost text numbers value aim sense by distinct feasible is bounds map_back each =
    record {
      each = each;
      feasible = subst (λ l. IsFeasible ns all (by_arc all l)) (sym map_back.maps_back) (by.forward flows feasible);
      is_value = ap (λ (l : List ℤ). value_of o (by_arc all l)) map_back.maps_back ∙ by.value flows feasible ∙ ap (value_at c.link) (sym is) ∙ sym map_back.is_value;
      none_better = λ x fits.
          let back = by.onto x fits in
          let same : value_at c.link (cost_of c.problem back.0) ≡ value_of o x = sym (by.value back.0 back.1) ∙ value_alike o n ns all aim distinct (up all c.link back.0) x back.2 in
          subst (λ v. IsAsGood o.sense v (value_of o x)) (sym map_back.is_value)
          (subst (IsAsGood o.sense (value_at c.link cost)) same (as_good c.link o.sense cost (cost_of c.problem back.0) sense (bounds back.0 back.1)));
    }

none : (o : Objective) (ns : List WrittenNode) (all : List WrittenArc) (c : Compiled) → CorrespondsByName ns all o c.problem c.link → ((flows : List ℤ) → ¬ IsFeasibleFlow c.problem flows) → (x : Assignment) → ¬ IsFeasible ns all x
none o ns all c by empty x fits = let back = by.onto x fits in empty back.0 back.1

mapped_back_each : (numbers : List ℕ) (offsets flows : List ℤ) → length numbers ≡ length offsets → length (mapped_back_by numbers offsets flows) ≡ length numbers
mapped_back_each [] offsets flows e = refl
mapped_back_each (n ∷ ns) [] flows e = absurd (omega (arith, e))
mapped_back_each (n ∷ ns) (o ∷ os) flows e = ap suc (mapped_back_each ns os flows (omega (arith, e)))

-- a number for each arc
numbered : (lean : Bool) (wanted : Option Name) (m d : List ℕ) (c : Compiled) (promise : IsBuilt lean wanted m d c) (flows numbers : List ℤ) → numbers ≡ mapped_back_by c.link.numbers.items c.link.offsets.items flows
    → length numbers ≡ length (arcs promise.world promise.declarations)
numbered lean wanted m d c promise flows numbers is =
    let labels = map (λ (a : WrittenArc). a.label) (arcs promise.world promise.declarations) in
    let each = mapped_back_each c.link.numbers.items c.link.offsets.items flows (omega (arith, c.link.numbers.ok.0, c.link.offsets.ok.0, c.link.paired)) in
    let named = zip_length (IsKeyOf (flat_map arc_declared promise.declarations)) labels c.names.arcs.keys promise.arc_names.keys in
    omega (arith, ap length is, each, named, length-map (arcs promise.world promise.declarations) (λ (a : WrittenArc). a.label), promise.sizes.arcs, c.link.numbers.ok.0)

-- the network's sum is the value of the promised objective
pub aim_of : (lean : Bool) (wanted : Option Name) (m d : List ℕ) (c : Compiled) → HaveObjective → (promise : IsBuilt lean wanted m d c) → IsObjectiveOf promise.objective (seen_as promise.made) (arcs promise.world promise.declarations)
aim_of lean wanted m d c objective promise =
    let w = promise.world in
    let ds = promise.declarations in
    let aim = objective wanted w ds (seen_as promise.made) promise.has_network in
    subst (λ o. IsObjectiveOf o (seen_as promise.made) (arcs w ds)) (some_same (chosen wanted (objectives w ds)) aim.0 promise.objective aim.1 promise.is_chosen) aim.2

pub outcome_holds : (lean : Bool) (wanted : Option Name) (m d : List ℕ) (c : Compiled) (settled : Certificate) (outcome : Outcome) → HaveObjective → (promise : IsBuilt lean wanted m d c)
    → IsCertificate c.problem settled → BoundsEachFlow c.problem settled → LeavesNoFlow c.problem settled → IsOutcomeOf c settled outcome
    → IsOutcome c (nodes promise.world promise.declarations) (arcs promise.world promise.declarations) promise.objective outcome
outcome_holds lean wanted m d c settled outcome objective promise by bounds leaves is = go settled outcome by bounds leaves is
  where
    aim : IsObjectiveOf promise.objective (seen_as promise.made) (arcs promise.world promise.declarations)
    aim = aim_of lean wanted m d c objective promise

    apart : AreDistinct (nodes promise.world promise.declarations) (arcs promise.world promise.declarations)
    apart = bound_apart promise.declarations promise.accepts.tables.statements promise.world promise.accepts.model.named promise.accepts.world

    go : (s : Certificate) (o : Outcome) → IsCertificate c.problem s → BoundsEachFlow c.problem s → LeavesNoFlow c.problem s → IsOutcomeOf c s o
        → IsOutcome c (nodes promise.world promise.declarations) (arcs promise.world promise.declarations) promise.objective o
    go (Optimal cost flows potentials) (Displayed text numbers value) f g h k =
        record {
          displayed = k.display ∙ shows_all c.names numbers.items value promise.arc_names.ordered;
          best =
              best promise.objective (seen_as promise.made) (nodes promise.world promise.declarations) (arcs promise.world promise.declarations) c flows.items cost text.items numbers.items value aim
              promise.sense promise.corresponds apart f.feasible f.cost g k (numbered lean wanted m d c promise flows.items numbers.items k.maps_back);
        }
    go (Optimal cost flows potentials) (Infeasible text flags side) f g h k = absurd k
    go (Cut flags side) (Displayed text numbers value) f g h k = absurd k
    go (Cut flags side) (Infeasible text set on) f g h k =
        record {
          reported = k.reports ∙ ap (λ (l : List Bool). cut_text c.names c.problem l side) (sym k.same_set) ∙ ap (cut_text c.names c.problem set.items) (sym k.same_side);
          violated = subst (λ l. IsViolatedCut c.problem l on) (sym k.same_set) (subst (IsViolatedCut c.problem flags.items) (sym k.same_side) f);
          none = none promise.objective (nodes promise.world promise.declarations) (arcs promise.world promise.declarations) c promise.corresponds h;
        }

pub answers_of : (lean : Bool) (wanted : Option Name) (m d : List ℕ) (c : Compiled) (settled : Certificate) (outcome : Outcome) → HaveObjective → (promise : IsBuilt lean wanted m d c)
    → IsCertificate c.problem settled → BoundsEachFlow c.problem settled → LeavesNoFlow c.problem settled → IsOutcomeOf c settled outcome → IsSolved lean wanted m d (record { compiled = c; outcome = outcome })
answers_of lean wanted m d c settled outcome objective promise by bounds leaves is =
    record { compiled = promise; outcome = outcome_holds lean wanted m d c settled outcome objective promise by bounds leaves is }
