-- How the distinct tuples of a set are stored: by the number of their members.
use Rattle.std.specs.Prelude.{◌≡◌, ℕ, Bool, not, List, [], ⊤}
use Rattle.std.specs.List.{IsDistinct}
use Rattle.net_sets.specs.declared.kept.Kept.{Kept}
use Rattle.net_sets.specs.declared.kept.Kept.TheVariants.{Nothing, Run, Singles, Pairs, Tuples}
use Rattle.net_sets.specs.Forms.{AreShort}
use Rattle.net_sets.specs.Sets.{Tuple, has, added, same_tuple}

abbrev pub tuples_in : Kept → List Tuple
tuples_in Nothing = []
tuples_in (Run run) = run
tuples_in (Singles set) = set.keys
tuples_in (Pairs set) = set.keys
tuples_in (Tuples set) = set.keys

-- each tuple fits into the form that it is stored in
abbrev pub AreKept : Kept → Type 0
AreKept Nothing = ⊤
AreKept (Run run) = AreShort 1 run
AreKept (Singles set) = AreShort 1 set.keys
AreKept (Pairs set) = AreShort 2 set.keys
AreKept (Tuples set) = ⊤

pub record IsStore (kept : Kept) : Type 0 where
  pub shape : AreKept kept
  pub distinct : IsDistinct same_tuple (tuples_in kept)

-- `all` is `ts` with `t` appended unless `ts` contains it; each tuple has at most `n` members, and `is_new` says whether `t` was appended
pub record IsWith (n : ℕ) (ts : List Tuple) (t : Tuple) (all : List Tuple) (is_new : Bool) : Type 0 where
  pub new : is_new ≡ not (has ts t)
  pub all_there : all ≡ added ts t
  pub short : AreShort n all
  pub distinct : IsDistinct same_tuple all
