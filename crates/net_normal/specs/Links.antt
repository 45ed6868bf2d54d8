-- Mapping a problem's flows back to its network: which arc of the problem carries the value of
-- which arc of the network, and which objective value belongs to a cost.
use Rattle.std.specs.Prelude.{ℕ, zero, suc, List, [], ◌∷◌, ℤ, pos, ◌+ℤ◌, neg_ℤ, slice_index_or}
use Rattle.net_normal.specs.declared.instance.Sense.{Sense}
use Rattle.net_normal.specs.declared.instance.Sense.TheVariants.{Minimise, Maximise}
use Rattle.net_normal.specs.declared.problem.Link.{Link}

-- maximizing is minimizing the negated value
abbrev pub signed : Sense → ℤ → ℤ
signed Minimise x = x
signed Maximise x = neg_ℤ x

-- the value of one arc: the flow on the arc with this number (counted from 1) plus the offset;
-- number 0 means that the problem has no such arc, and the value is the offset
abbrev pub mapped_back_at : List ℤ → ℕ → ℤ → ℤ
mapped_back_at flows zero offset = offset
mapped_back_at flows (suc place) offset = slice_index_or flows place (pos 0) +ℤ offset

-- the values of all arcs of the network, from their numbers and offsets
abbrev pub mapped_back_by : List ℕ → List ℤ → List ℤ → List ℤ
mapped_back_by [] offsets flows = []
mapped_back_by (number ∷ numbers) [] flows = []
mapped_back_by (number ∷ numbers) (offset ∷ offsets) flows = mapped_back_at flows number offset ∷ mapped_back_by numbers offsets flows

-- the assignment that corresponds to a flow
abbrev pub mapped_back : Link → List ℤ → List ℤ
mapped_back link flows = mapped_back_by link.numbers.items link.offsets.items flows

-- the objective value that corresponds to a cost
abbrev pub value_at : Link → ℤ → ℤ
value_at link cost = link.constant +ℤ signed link.sense cost
