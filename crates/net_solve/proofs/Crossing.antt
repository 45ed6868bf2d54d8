-- What an arc is whose ends are in a set of nodes or not: a way out, or full.
use Rattle.std.proofs.Common.{◌≡◌, ◌≢◌, ◌^◌, Bool, true, false, List, ℤ, pos, neg_ℤ, ◌-ℤ◌, to_z, of_z, arith}
use Rattle.std.specs.Int.{w128}
use Rattle.std.proofs.lemmas.Int.{ints}
use Rattle.net_normal.specs.Limits.{IsSized}
use Rattle.net_normal.specs.declared.problem.FlowArc.{FlowArc}
use Rattle.net_check.specs.Certificates.{is_in, goes_out, comes_in, reduced_cost}
use Rattle.net_solve.specs.Pseudoflows.{IsFull, IsSlackArc}

not-out : (flags : List Bool) (arc : FlowArc) → is_in flags arc.src ≡ false → goes_out flags arc ≡ false
not-out flags arc s = rw s

not-into : (flags : List Bool) (arc : FlowArc) → is_in flags arc.dst ≡ false → comes_in flags arc ≡ false
not-into flags arc d = rw d

pub way-forwards : (potentials : List ℤ) (flags : List Bool) (depth : ℤ) (arc : FlowArc) (flow : ℤ) → is_in flags arc.src ≡ true → is_in flags arc.dst ≡ false → flow ≢ arc.cap → depth ≡ reduced_cost potentials arc → IsSlackArc potentials flags depth arc flow
way-forwards potentials flags depth arc flow s d room is = record { crosses = rw (s, d); out = λ e. (room, is); into = λ e. let f = not-into flags arc d in cc }

pub way-back : (potentials : List ℤ) (flags : List Bool) (depth : ℤ) (arc : FlowArc) (flow : ℤ) → is_in flags arc.src ≡ false → is_in flags arc.dst ≡ true → flow ≢ arc.low → depth ≡ neg_ℤ (reduced_cost potentials arc) → IsSlackArc potentials flags depth arc flow
way-back potentials flags depth arc flow s d room is = record { crosses = rw (s, d); out = λ e. let f = not-out flags arc s in cc; into = λ e. (room, is) }

pub full-forwards : (flags : List Bool) (arc : FlowArc) (flow : ℤ) → is_in flags arc.dst ≡ false → flow ≡ arc.cap → IsFull flags arc flow
full-forwards flags arc flow d full = record { out = λ e. full; into = λ e. let f = not-into flags arc d in cc }

pub full-back : (flags : List Bool) (arc : FlowArc) (flow : ℤ) → is_in flags arc.src ≡ false → flow ≡ arc.low → IsFull flags arc flow
full-back flags arc flow s full = record { out = λ e. let f = not-out flags arc s in cc; into = λ e. full }

pub full-outside : (flags : List Bool) (arc : FlowArc) (flow : ℤ) → is_in flags arc.src ≡ false → is_in flags arc.dst ≡ false → IsFull flags arc flow
full-outside flags arc flow s d = record { out = λ e. let f = not-out flags arc s in cc; into = λ e. let f = not-into flags arc d in cc }

inside-not-out : (flags : List Bool) (arc : FlowArc) → is_in flags arc.src ≡ true → is_in flags arc.dst ≡ true → goes_out flags arc ≡ false
inside-not-out flags arc s d = rw (s, d)

inside-not-into : (flags : List Bool) (arc : FlowArc) → is_in flags arc.src ≡ true → is_in flags arc.dst ≡ true → comes_in flags arc ≡ false
inside-not-into flags arc s d = rw (d, s)

pub full-inside : (flags : List Bool) (arc : FlowArc) (flow : ℤ) → is_in flags arc.src ≡ true → is_in flags arc.dst ≡ true → IsFull flags arc flow
full-inside flags arc flow s d = record { out = λ e. let f = inside-not-out flags arc s d in cc; into = λ e. let f = inside-not-into flags arc s d in cc }

-- a depth in 128 bits
pub depth-is : (x z : ℤ) → x ≡ z → IsSized (2 ^ 66) x → to_z w128 (of_z w128 x) ≡ z
depth-is x z e h = omega (arith, ints, e, h.above, h.below)

pub depth-back : (x z : ℤ) → x ≡ z → IsSized (2 ^ 66) x → to_z w128 (of_z w128 (pos 0 -ℤ to_z w128 (of_z w128 x))) ≡ neg_ℤ z
depth-back x z e h = omega (arith, ints, e, h.above, h.below)
