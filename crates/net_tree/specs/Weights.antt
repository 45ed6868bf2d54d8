-- The number of nodes of a tree, which decreases in recursive functions.
use Rattle.std.specs.Prelude.{ℕ, ◌+◌}
use Rattle.net_tree.specs.Tree.{Tree, Links, Part, Braces, leaf, indexed, parens, tuple, negated, braced, signed, reduced, chain, choice, net, none, link, absent, part, empty, filled}

abbrev mutual
  pub weight : Tree → ℕ
  weight (leaf t) = 1
  weight (indexed n o x l c) = 1 + weight x + weights l
  weight (parens o x c) = 1 + weight x
  weight (tuple o x l c) = 1 + weight x + weights l
  weight (negated n o x c) = 1 + weight x
  weight (braced b) = 1 + braces_weight b
  weight (signed s x) = 1 + weight x
  weight (reduced w b x) = 1 + braces_weight b + weight x
  weight (chain n x l) = 1 + weight x + weights l
  weight (choice i x t y e) = 1 + weight x + weight y + part_weight e
  weight (net s w) = 1

  pub weights : Links → ℕ
  weights none = 0
  weights (link o x l) = 1 + weight x + weights l

  pub part_weight : Part → ℕ
  part_weight absent = 0
  part_weight (part m x) = 1 + weight x

  pub braces_weight : Braces → ℕ
  braces_weight (empty o p c) = 1 + part_weight p
  braces_weight (filled o x l p c) = 1 + weight x + weights l + part_weight p
