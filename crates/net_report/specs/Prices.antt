-- Prices of nodes and reduced costs of arcs, from the potentials of a certificate, and their printed form.
use Rattle.std.specs.Prelude.{ℕ, List, [], ◌∷◌, ◌++◌, map, vec_len, Option, None, Some, ℤ, pos, ◌+ℤ◌, ◌-ℤ◌, slice_index_or, codes}
use Rattle.std.specs.Int.{int_min, int_max}
use Rattle.std.specs.List.{zip}
use Rattle.net_normal.specs.Links.{signed}
use Rattle.net_normal.specs.declared.instance.Sense.{Sense}
use Rattle.net_normal.specs.declared.instance.InstArc.{InstArc}
use Rattle.net_normal.specs.declared.instance.Instance.{Instance}
use Rattle.net_normal.specs.declared.instance.NodeRange.{NodeRange}
use Rattle.net_inst.specs.declared.network_names.Names.{Names}
use Rattle.net_report.specs.Displays.{blocks, blocks_of_all}

-- the closest number to z that can be the price of a node whose range has these sides, to minimize: a node without a high side can only
-- require more, one without a low side only less. A range has a side at least.
abbrev pub limited : Option ℤ → Option ℤ → ℤ → ℤ
limited (Some low) (Some high) z = z
limited (Some low) None z = int_max z (pos 0)
limited None (Some high) z = int_min z (pos 0)
limited None None z = pos 0

-- the price of a node with this range and potential: by how much the objective value changes for one more unit of net inflow that the node
-- requires
abbrev pub node_price : Sense → (outside : ℤ) → NodeRange → (potential : ℤ) → ℤ
node_price sense outside range potential = signed sense (limited range.low range.high (potential -ℤ outside))

abbrev pub prices_from : Sense → (outside : ℤ) → List NodeRange → (potentials : List ℤ) → List ℤ
prices_from sense outside [] potentials = []
prices_from sense outside (r ∷ ranges) [] = []
prices_from sense outside (r ∷ ranges) (p ∷ potentials) = node_price sense outside r p ∷ prices_from sense outside ranges potentials

-- the prices of all nodes; the last potential is that of the outside node
abbrev pub node_prices : Instance → (potentials : List ℤ) → List ℤ
node_prices instance potentials =
    prices_from instance.sense (slice_index_or potentials (vec_len instance.nodes) (pos 0)) instance.nodes.items potentials

-- the price at an end of an arc: that of its node; 0 if the end is missing
abbrev pub price_at : (prices : List ℤ) → Option ℕ → ℤ
price_at prices None = pos 0
price_at prices (Some v) = slice_index_or prices v (pos 0)

-- the coefficient plus the price of the node that the arc leaves minus the price of the node that it enters
abbrev pub reduced_cost : (prices : List ℤ) → InstArc → ℤ
reduced_cost prices arc = (arc.coefficient +ℤ price_at prices arc.tail) -ℤ price_at prices arc.head

abbrev pub reduced_costs : Instance → (potentials : List ℤ) → List ℤ
reduced_costs instance potentials = map (reduced_cost (node_prices instance potentials)) instance.arcs.items

-- two headings, the prices of the nodes in the form of a plan, and the reduced costs of the arcs
abbrev pub prices_text : Names → (prices costs : List ℤ) → List ℕ
prices_text names prices costs =
    codes "prices\n" ++ (blocks 0 names.nodes.declarations (zip names.nodes.keys prices)
    ++ (codes "reduced costs\n" ++ blocks 0 names.arcs.declarations (zip names.arcs.keys costs)))

-- the same by all nodes and all arcs of each declaration
abbrev pub prices_of_all : Names → (prices costs : List ℤ) → List ℕ
prices_of_all names prices costs =
    codes "prices\n" ++ (blocks_of_all 0 names.nodes.declarations (zip names.nodes.keys prices)
    ++ (codes "reduced costs\n" ++ blocks_of_all 0 names.arcs.declarations (zip names.arcs.keys costs)))
