-- The supersets of a declared set: a set, or the product of a set with others.
use Rattle.std.specs.Prelude.{List, [], ◌∷◌}
use Rattle.net_sets.specs.Operations.{AreLong, union, product}
use Rattle.net_sets.specs.Sets.{Tuple}
use Rattle.net_bind.specs.declared.superset.Crossed.{Crossed}

abbrev pub crossed_by : List Tuple → List Crossed → List Tuple
crossed_by ts [] = ts
crossed_by ts (f ∷ fs) = crossed_by (union [] (product ts f.set)) fs

-- each factor begins after the members of those before it
abbrev pub AreParted : List Tuple → List Crossed → Type 0
AreParted ts [] = Unit {0}
AreParted ts (f ∷ fs) = AreLong f.start ts × AreParted (union [] (product ts f.set)) fs
