-- What the lean form is free of.
use Rattle.std.proofs.Common.{◌≡◌, ℕ, suc, true, false, cond, List, [], ◌∷◌, pos, ◌-ℤ◌, ◌↔◌, All, vec_len, refl, sym, ◌∙◌, subst, arith}
use Rattle.std.proofs.lemmas.Int.{ints}
use Rattle.std.specs.List.{AllZip, AllByRecursion}
use Rattle.std.specs.Ordering.{int_eq}
use Rattle.std.proofs.lemmas.List.Elements.{All-from_recursion, All-append}
use Rattle.net_normal.specs.NormalForm.{is_open, numbers_from, written_arcs, slack_arc, slack_arcs_from, flow_arc_of, IsLeanForm}
use Rattle.net_normal.specs.declared.instance.Instance.{Instance}
use Rattle.net_normal.specs.declared.instance.InstArc.{InstArc}
use Rattle.net_normal.specs.declared.instance.NodeRange.{NodeRange}
use Rattle.net_normal.specs.declared.instance.Sense.{Sense}
use Rattle.net_normal.specs.declared.problem.FlowArc.{FlowArc}
use Rattle.net_normal.specs.declared.problem.Problem.{Problem}
use Rattle.net_normal.specs.declared.problem.Link.{Link}
use Rattle.net_normal.specs.declared.profile.Profile.TheVariants.{Lean}
use Rattle.net_normal.proofs.Written.{by_case, int_eq-reports, int_eq-same}

-- no arc has a lower bound
abbrev pub HasNoLow : FlowArc → Type 0
HasNoLow arc = arc.low ≡ pos 0

no_low_written : (sense : Sense) (outside : ℕ) (arcs : List InstArc) → AllByRecursion HasNoLow (written_arcs Lean sense outside arcs)
no_low_written sense outside [] = tt
no_low_written sense outside (a ∷ arcs) =
    let rest = written_arcs Lean sense outside arcs in
    let none : a.lower -ℤ a.lower ≡ pos 0 = omega (arith, ints) in
    elim (int_eq a.lower a.upper) as (λ b. AllByRecursion HasNoLow (cond b rest (flow_arc_of Lean sense outside a ∷ rest))) [
      | true ↦ no_low_written sense outside arcs
      | false ↦ (none, no_low_written sense outside arcs)
    ]

no_low_rooms : (arcs : List InstArc) (outside v : ℕ) (ranges : List NodeRange) → AllByRecursion HasNoLow (slack_arcs_from arcs outside v ranges)
no_low_rooms arcs outside v [] = tt
no_low_rooms arcs outside v (r ∷ ranges) =
    let rest = slack_arcs_from arcs outside (suc v) ranges in
    elim (is_open r.low r.high) as (λ b. AllByRecursion HasNoLow (cond b (slack_arc arcs outside v r ∷ rest) rest)) [
      | true ↦ (refl, no_low_rooms arcs outside (suc v) ranges)
      | false ↦ no_low_rooms arcs outside (suc v) ranges
    ]

pub lean-no_low : (instance : Instance) (problem : Problem) (link : Link) → IsLeanForm instance problem link → All HasNoLow problem.arcs.items
lean-no_low instance problem link form =
    let outside = vec_len instance.nodes in
    let written = written_arcs Lean instance.sense outside instance.arcs.items in
    let rooms = slack_arcs_from instance.arcs.items outside 0 instance.nodes.items in
    subst (λ (all : List FlowArc). All HasNoLow all) (sym form.arcs)
    (All-append HasNoLow written rooms
    (All-from_recursion HasNoLow written (no_low_written instance.sense outside instance.arcs.items))
    (All-from_recursion HasNoLow rooms (no_low_rooms instance.arcs.items outside 0 instance.nodes.items)))

-- an arc has number 0 exactly where its bounds are equal
abbrev pub IsZeroWhereFixed : InstArc → ℕ → Type 0
IsZeroWhereFixed arc number = (number ≡ 0) ↔ (arc.lower ≡ arc.upper)

zero_where_fixed : (n : ℕ) (arcs : List InstArc) → AllZip IsZeroWhereFixed arcs (numbers_from Lean (suc n) arcs)
zero_where_fixed n [] = tt
zero_where_fixed n (a ∷ arcs) =
    by_case (int_eq a.lower a.upper) (λ b. AllZip IsZeroWhereFixed (a ∷ arcs) (cond b (0 ∷ numbers_from Lean (suc n) arcs) (suc n ∷ numbers_from Lean (suc (suc n)) arcs)))
    (λ e. (((λ _. int_eq-reports a.lower a.upper e), (λ _. refl)), zero_where_fixed n arcs))
    (λ e. (((λ z. absurd (omega (arith, z))), (λ same. absurd (let no : true ≡ false = sym (int_eq-same a.lower a.upper same) ∙ e in cc))), zero_where_fixed (suc n) arcs))

pub lean-left_out : (instance : Instance) (problem : Problem) (link : Link) → IsLeanForm instance problem link → AllZip IsZeroWhereFixed instance.arcs.items link.numbers.items
lean-left_out instance problem link form = subst (AllZip IsZeroWhereFixed instance.arcs.items) (sym form.numbers) (zero_where_fixed 0 instance.arcs.items)
