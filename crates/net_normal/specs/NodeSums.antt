-- Sums for each node, accumulated in one pass over the arcs of a network.
use Rattle.std.specs.Prelude.{◌≡◌, ℕ, ◌<◌, List, length, ℤ, pos, ◌+ℤ◌, ◌-ℤ◌, slice_index_or, if◌then◌else◌}
use Rattle.net_normal.specs.Limits.{IsSized}
use Rattle.net_normal.specs.Assignments.{enters, leaves}
use Rattle.net_normal.specs.NormalForm.{offset_of, least_inflow, most_inflow, shift_of, low_side, high_side}
use Rattle.net_normal.specs.declared.instance.NodeRange.{NodeRange}
use Rattle.net_normal.specs.declared.problem.FlowArc.{FlowArc}
use Rattle.net_normal.specs.declared.instance.InstArc.{InstArc}
use Rattle.net_normal.specs.declared.profile.Profile.{Profile}
use Rattle.net_normal.specs.declared.node_sums.NodeSums.{NodeSums}

-- the sums of a node without arcs
abbrev pub no_sums : NodeSums
no_sums = record { least = pos 0; most = pos 0; shift = pos 0 }

-- the sums of a node after adding an arc into it (`entered`) or an arc out of it (`left`)
abbrev pub entered : Profile → InstArc → NodeSums → NodeSums
entered p arc sums = record { least = sums.least +ℤ arc.lower; most = sums.most +ℤ arc.upper; shift = sums.shift +ℤ offset_of p arc }

abbrev pub left : Profile → InstArc → NodeSums → NodeSums
left p arc sums = record { least = sums.least -ℤ arc.upper; most = sums.most -ℤ arc.lower; shift = sums.shift -ℤ offset_of p arc }

-- the absolute value of each sum is at most n
pub record AreSized (n : ℕ) (sums : NodeSums) : Type 0 where
  pub least : IsSized n sums.least
  pub most : IsSized n sums.most
  pub shift : IsSized n sums.shift

-- the sums of node v over exactly these arcs
pub record AreSumsAt (p : Profile) (arcs : List InstArc) (v : ℕ) (sums : NodeSums) : Type 0 where
  pub least : sums.least ≡ least_inflow arcs v
  pub most : sums.most ≡ most_inflow arcs v
  pub shift : sums.shift ≡ shift_of p arcs v

-- the sums of all nodes over exactly these arcs
abbrev pub AreSumsOf : Profile → List InstArc → List NodeSums → Type 0
AreSumsOf p arcs all = (v : ℕ) (d : NodeSums) → v < length all → AreSumsAt p arcs v (slice_index_or all v d)

-- the sums of all nodes, in one of the profiles
abbrev pub AreSumsOfEither : List InstArc → List NodeSums → Type 0
AreSumsOfEither arcs all = (p : Profile) × AreSumsOf p arcs all

-- adds the arc at its head node (`counted_head`) and at its tail node (`counted_tail`)
abbrev pub counted_head : Profile → InstArc → ℕ → NodeSums → NodeSums
counted_head p arc v sums = if enters v arc then entered p arc sums else sums

abbrev pub counted_tail : Profile → InstArc → ℕ → NodeSums → NodeSums
counted_tail p arc v sums = if leaves v arc then left p arc sums else sums

abbrev pub CountsHead : Profile → InstArc → List NodeSums → List NodeSums → Type 0
CountsHead p arc old new = (v : ℕ) (d : NodeSums) → v < length old → slice_index_or new v d ≡ counted_head p arc v (slice_index_or old v d)

abbrev pub CountsTail : Profile → InstArc → List NodeSums → List NodeSums → Type 0
CountsTail p arc old new = (v : ℕ) (d : NodeSums) → v < length old → slice_index_or new v d ≡ counted_tail p arc v (slice_index_or old v d)

abbrev pub CountsArc : Profile → InstArc → List NodeSums → List NodeSums → Type 0
CountsArc p arc old new = (v : ℕ) (d : NodeSums) → v < length old → slice_index_or new v d ≡ counted_tail p arc v (counted_head p arc v (slice_index_or old v d))

-- a node's supply and its slack arc, from its own sums
abbrev pub own_supply : NodeRange → NodeSums → ℤ
own_supply range sums = sums.shift -ℤ low_side range.low range.high sums.least

abbrev pub own_slack : ℕ → ℕ → NodeRange → NodeSums → FlowArc
own_slack node outside range sums = record { src = node; dst = outside; low = pos 0; cap = high_side range.low range.high sums.most -ℤ low_side range.low range.high sums.least; cost = pos 0 }
