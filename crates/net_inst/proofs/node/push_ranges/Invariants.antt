use Rattle.std.specs.Prelude.{◌≡◌, ◌≤◌, drop, length, map}
use Rattle.net_normal.specs.Limits.{node_limit}
use Rattle.net_tree.specs.View.{condition_of}
use Rattle.net_inst.specs.Nodes.{ranges_at, sides_of}
use Rattle.net_inst.proofs.node.push_ranges.Given as goal

abbrev pub invariant-loop-place : goal.invariant-loop-place
invariant-loop-place l =
    (ranges_at l.env l.text.name.now l.count (condition_of l.text.condition.now) (drop l.place l.rows) (map sides_of l.ranges.items)
    ≡ ranges_at l.fn.env l.fn.text.name.now l.fn.count (condition_of l.fn.text.condition.now) l.fn.rows (map sides_of l.fn.ranges.items))
    × (length l.ranges.items ≤ node_limit) × (l.place ≤ length l.ranges.items)
