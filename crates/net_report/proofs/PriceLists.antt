-- The prices of a network, node by node.
use Rattle.std.proofs.Common.{◌≡◌, ℕ, zero, suc, ◌+◌, ◌<◌, ◌≤◌, List, [], ◌∷◌, length, vec_len, ℤ, pos, ◌-ℤ◌, refl, ap, sym, ◌∙◌, arith}
use Rattle.std.specs.Prelude.{slice_index_or}
use Rattle.std.proofs.Math.Seq.{drop-cons}
use Rattle.net_normal.specs.declared.instance.Sense.{Sense}
use Rattle.net_normal.specs.declared.instance.Instance.{Instance}
use Rattle.net_normal.specs.declared.instance.NodeRange.{NodeRange}
use Rattle.net_report.specs.Prices.{node_price, prices_from, node_prices}

-- the price at an index
price_in : (sense : Sense) (outside : ℤ) (ranges : List NodeRange) (potentials : List ℤ) (v : ℕ) (r : NodeRange) (d : ℤ) → v < length ranges → length ranges ≤ length potentials
    → slice_index_or (prices_from sense outside ranges potentials) v d ≡ node_price sense outside (slice_index_or ranges v r) (slice_index_or potentials v d)
price_in sense outside [] potentials v r d h few = absurd (omega (arith, h))
price_in sense outside (q ∷ ranges) [] v r d h few = absurd (omega (arith, few))
price_in sense outside (q ∷ ranges) (p ∷ potentials) zero r d h few = refl
price_in sense outside (q ∷ ranges) (p ∷ potentials) (suc v) r d h few = price_in sense outside ranges potentials v r d (omega (arith, h)) (omega (arith, few))

pub price_is : (instance : Instance) (potentials : List ℤ) (v : ℕ) (r : NodeRange) → v < vec_len instance.nodes → length potentials ≡ vec_len instance.nodes + 1
    → slice_index_or (node_prices instance potentials) v (pos 0)
    ≡ node_price instance.sense (slice_index_or potentials (vec_len instance.nodes) (pos 0)) (slice_index_or instance.nodes.items v r) (slice_index_or potentials v (pos 0))
price_is instance potentials v r h few =
    price_in instance.sense (slice_index_or potentials (vec_len instance.nodes) (pos 0)) instance.nodes.items potentials v r (pos 0) (omega (arith, h, instance.nodes.ok.0)) (omega (arith, few, instance.nodes.ok.0))

-- as many prices as nodes
price_count : (sense : Sense) (outside : ℤ) (ranges : List NodeRange) (potentials : List ℤ) → length ranges ≤ length potentials → length (prices_from sense outside ranges potentials) ≡ length ranges
price_count sense outside [] potentials h = refl
price_count sense outside (r ∷ ranges) [] h = absurd (omega (arith, h))
price_count sense outside (r ∷ ranges) (p ∷ potentials) h = ap suc (price_count sense outside ranges potentials (omega (arith, h)))

pub prices_count : (instance : Instance) (potentials : List ℤ) → length potentials ≡ vec_len instance.nodes + 1 → length (node_prices instance potentials) ≡ vec_len instance.nodes
prices_count instance potentials few =
    price_count instance.sense (slice_index_or potentials (vec_len instance.nodes) (pos 0)) instance.nodes.items potentials (omega (arith, few, instance.nodes.ok.0)) ∙ sym instance.nodes.ok.0
