-- The lines of a problem, sent one after the other.
use Rattle.std.proofs.Common.{◌≡◌, ◌<◌, ◌≤◌, ◌+◌, ℕ, zero, suc, List, [], ◌∷◌, ◌++◌, ℤ, pos, negsuc, codes, length, drop, get_or, refl, ap}
use Rattle.std.specs.Prelude.{◌≢◌}
use Rattle.std.specs.List.{flat_map}
use Rattle.std.proofs.lemmas.List.{at_drop_more, drop_all}
use Rattle.net_normal.specs.declared.problem.FlowArc.{FlowArc}
use Rattle.net_dimacs.specs.Written.{line, node_number, node_line, node_lines, arc_line}

-- a supply that is not 0 has a line
pub node_line_by : (v : ℕ) (z : ℤ) → z ≢ pos 0 → node_line v z ≡ line (codes "n") (node_number v ∷ z ∷ [])
node_line_by v (pos zero) some = absurd (some refl)
node_line_by v (pos (suc n)) some = refl
node_line_by v (negsuc n) some = refl

pub nodes_next : (v : ℕ) (supplies : List ℤ) → v < length supplies → node_lines v (drop v supplies) ≡ node_line v (get_or supplies v (pos 0)) ++ node_lines (v + 1) (drop (v + 1) supplies)
nodes_next v supplies inside = at_drop_more (node_lines v) supplies v (pos 0) inside

pub nodes_end : (v : ℕ) (supplies : List ℤ) → length supplies ≤ v → node_lines v (drop v supplies) ≡ []
nodes_end v supplies past = ap (node_lines v) (drop_all v supplies past)

pub arcs_next : (k : ℕ) (arcs : List FlowArc) (none : FlowArc) → k < length arcs → flat_map arc_line (drop k arcs) ≡ arc_line (get_or arcs k none) ++ flat_map arc_line (drop (k + 1) arcs)
arcs_next k arcs none inside = at_drop_more (flat_map arc_line) arcs k none inside

pub arcs_end : (k : ℕ) (arcs : List FlowArc) → length arcs ≤ k → flat_map arc_line (drop k arcs) ≡ []
arcs_end k arcs past = ap (flat_map arc_line) (drop_all k arcs past)
