-- The result for a model with its data: an optimal plan, or why there is none (AMPL book, chapter
-- 15).
use Rattle.std.specs.Prelude.{◌≡◌, ℕ, ◌+◌, ◌≤◌, List, Bool, Option, map, length, ℤ, ◌≤ℤ◌}
use Rattle.net_check.specs.Certificates.{IsViolatedCut}
use Rattle.net_check.specs.declared.certificate.Side.{Side}
use Rattle.net_expr.specs.Worlds.{Name}
use Rattle.net_inst.specs.AsWritten.{WrittenNode, WrittenArc, nodes, arcs, Assignment, by_label, IsFeasible}
use Rattle.net_inst.specs.Readings.{Objective, value_of}
use Rattle.net_normal.specs.declared.instance.Sense.{Sense}
use Rattle.net_normal.specs.declared.instance.Sense.TheVariants.{Minimise, Maximise}
use Rattle.net_report.specs.Cuts.{cut_text}
use Rattle.net_report.specs.Displays.{display_of_all}
use Rattle.net_driver.specs.declared.answer.Answer.{Answer}
use Rattle.net_driver.specs.declared.answer.Outcome.{Outcome}
use Rattle.net_driver.specs.declared.answer.Outcome.TheVariants.{Displayed, Infeasible}
use Rattle.net_driver.specs.declared.compiled.Compiled.{Compiled}
use Rattle.net_driver.specs.declared.solve_run.ExitKind.{ExitKind}
use Rattle.net_driver.specs.declared.solve_run.ExitKind.TheVariants.{Done, Refuted}
use Rattle.net_driver.specs.IsBuilt.{IsBuilt}

-- a value is at least as good as another: not above it when minimizing, not below it when
-- maximizing
abbrev pub IsAsGood : Sense → ℤ → ℤ → Type 0
IsAsGood Minimise value other = value ≤ℤ other
IsAsGood Maximise value other = other ≤ℤ value

-- the assignment of these numbers to the names and keys of the arcs, in order
abbrev pub by_arc : List WrittenArc → List ℤ → Assignment
by_arc all numbers = by_label (map (λ a. a.label) all) numbers

-- there is a number for each arc, the assignment is feasible and has this value, and no feasible
-- assignment has a better one
pub record IsBestPlan (ns : List WrittenNode) (all : List WrittenArc) (o : Objective) (numbers : List ℤ) (value : ℤ) : Type 0 where
  pub each : length numbers ≡ length all
  pub feasible : IsFeasible ns all (by_arc all numbers)
  pub is_value : value_of o (by_arc all numbers) ≡ value
  pub none_better : (x : Assignment) → IsFeasible ns all x → IsAsGood o.sense value (value_of o x)

-- a printed plan: each declared name with all of its arcs
pub record IsDisplay (c : Compiled) (ns : List WrittenNode) (all : List WrittenArc) (o : Objective) (text : List ℕ) (numbers : List ℤ) (value : ℤ) : Type 0 where
  pub displayed : text ≡ display_of_all c.names numbers value
  pub best : IsBestPlan ns all o numbers value

-- a set of nodes, printed by name. Its supply is more than its arcs can carry away (side Over), or
-- less than they have to carry away (side Under), so no assignment is feasible
pub record IsCut (c : Compiled) (ns : List WrittenNode) (all : List WrittenArc) (text : List ℕ) (flags : List Bool) (side : Side) : Type 0 where
  pub reported : text ≡ cut_text c.names c.problem flags side
  pub violated : IsViolatedCut c.problem flags side
  pub none : (x : Assignment) → ¬ IsFeasible ns all x

abbrev pub IsOutcome : Compiled → List WrittenNode → List WrittenArc → Objective → Outcome → Type 0
IsOutcome c ns all o (Displayed text numbers value) = IsDisplay c ns all o text.items numbers.items value
IsOutcome c ns all o (Infeasible text flags side) = IsCut c ns all text.items flags.items side

-- the model is compiled, and the outcome is an optimal plan or a cut
pub record IsSolved (lean : Bool) (wanted : Option Name) (model_text data_text : List ℕ) (a : Answer) : Type 0 where
  pub compiled : IsBuilt lean wanted model_text data_text a.compiled
  pub outcome : IsOutcome a.compiled (nodes compiled.world compiled.declarations) (arcs compiled.world compiled.declarations) compiled.objective a.outcome

-- the text that is written
abbrev pub text_of : Outcome → List ℕ
text_of (Displayed text numbers value) = text.items
text_of (Infeasible text flags side) = text.items

abbrev pub exit_kind_of : Outcome → ExitKind
exit_kind_of (Displayed text numbers value) = Done
exit_kind_of (Infeasible text flags side) = Refuted
