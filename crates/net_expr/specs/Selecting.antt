-- Which tuples of a set can match an item, as far as the dummies in scope on its left side
-- determine it.
use Rattle.std.specs.Prelude.{ℕ, ◌+◌, Option, None, Some, is_some, if◌then◌else◌}
use Rattle.net_sets.specs.declared.member.Member.{Member}
use Rattle.net_tree.specs.Tree.{Tree, Links, tuple, none, link}
use Rattle.net_expr.specs.Items.{sides, bare, new_dummy}
use Rattle.net_expr.specs.Worlds.{Name, World, Scope, bound}

-- the member of a simple name that is a dummy in scope
abbrev pub dummy_alone : Scope → Option Name → Option Member
dummy_alone s None = None
dummy_alone s (Some name) = bound s name

-- a dummy's member at a component, or else the rest
abbrev pub picked : ℕ → Option Member → Option (ℕ × Member) → Option (ℕ × Member)
picked k (Some m) rest = Some (k, m)
picked k None rest = rest

-- the first component that is a dummy in scope, if those before it are new dummies: its index, and
-- the dummy's member
abbrev pub selecting_from : World → Scope → ℕ → Links → Option (ℕ × Member)
selecting_from w s k none = None
selecting_from w s k (link o x l) = picked k (dummy_alone s (bare x)) (if is_some (new_dummy w s x) then selecting_from w s (k + 1) l else None)

abbrev pub selecting_components : World → Scope → Tree → Links → Option (ℕ × Member)
selecting_components w s x l = picked 0 (dummy_alone s (bare x)) (if is_some (new_dummy w s x) then selecting_from w s 1 l else None)

abbrev pub selecting_left : World → Scope → Tree → Option (ℕ × Member)
selecting_left w s (tuple o x l c) = selecting_components w s x l
selecting_left w s _ = None

abbrev pub selecting_sides : World → Scope → Option (Tree × Tree) → Option (ℕ × Member)
selecting_sides w s None = None
selecting_sides w s (Some q) = selecting_left w s q.0

-- the component by which a tuple on the left side of `in` selects, and the member that is required
-- there
abbrev pub selecting : World → Scope → Tree → Option (ℕ × Member)
selecting w s i = selecting_sides w s (sides i)
