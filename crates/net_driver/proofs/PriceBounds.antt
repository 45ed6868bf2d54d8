-- The printed prices show which arcs of a network are at a bound and which nodes at a side of their range.
use Rattle.std.proofs.Common.{◌≡◌, ℕ, zero, suc, ◌+◌, ◌<◌, Bool, true, List, [], ◌∷◌, length, map, vec_len, Option, None, Some, ℤ, pos, negsuc, neg_ℤ, ◌+ℤ◌, ◌-ℤ◌, ◌≤ℤ◌, refl, sym, ap, subst, ◌∙◌, arith, eq-eqb}
use Rattle.std.specs.Prelude.{◌<ℤ◌, slice_get, slice_index_or, unwrap_or}
use Rattle.std.specs.Int.{int_min, int_max}
use Rattle.std.specs.List.{AllByRecursion, AllZip}
use Rattle.std.specs.Option.{ForSome}
use Rattle.std.proofs.lemmas.Int.{ints, clamps}
use Rattle.std.proofs.lemmas.List.Elements.{recursion_from_All}
use Rattle.net_normal.specs.Assignments.{enters, leaves, net_inflow, IsWithinBounds, IsInRange}
use Rattle.net_normal.specs.Limits.{IsArcOf}
use Rattle.net_normal.specs.Links.{signed}
use Rattle.net_normal.specs.NormalForm.{flow_arc_of, least_inflow, most_inflow, low_side, high_side}
use Rattle.net_normal.specs.Sums.{is_node}
use Rattle.net_normal.specs.declared.instance.Instance.{Instance}
use Rattle.net_normal.specs.declared.instance.InstArc.{InstArc}
use Rattle.net_normal.specs.declared.instance.NodeRange.{NodeRange}
use Rattle.net_normal.specs.declared.instance.Sense.{Sense}
use Rattle.net_normal.specs.declared.instance.Sense.TheVariants.{Minimise, Maximise}
use Rattle.net_normal.specs.declared.problem.FlowArc.{FlowArc}
use Rattle.net_normal.specs.declared.profile.Profile.{Profile}
use Rattle.net_normal.proofs.ArcSums.{zipped-weaker}
use Rattle.net_check.specs.Certificates as check
use Rattle.net_check.proofs.Pairs.{got}
use Rattle.net_report.specs.Prices.{limited, node_price, node_prices, price_at, reduced_cost}
use Rattle.net_report.proofs.PriceLists.{price_is}
use Rattle.net_driver.proofs.Extremes.{IsMostAt, IsLeastAt, at_most, at_least, for_each}
use Rattle.net_driver.proofs.PricedForms.{IsHeld, IsCompleted, above}

-- an arc is at a bound, by this reduced cost
pub record IsBoundBy (cost : ℤ) (a : InstArc) (y : ℤ) : Type 0 where
  pub positive : pos 0 <ℤ cost → y ≡ a.lower
  pub negative : cost <ℤ pos 0 → y ≡ a.upper

-- no net inflow in the range is below this one, or none is above it, by this price
pub record IsSideBy (price : ℤ) (r : NodeRange) (y : ℤ) : Type 0 where
  pub positive : pos 0 <ℤ price → (q : ℤ) → IsInRange r q → y ≤ℤ q
  pub negative : price <ℤ pos 0 → (q : ℤ) → IsInRange r q → q ≤ℤ y

-- ---- a price that the range limits

-- it is raised only at a node with the greatest net inflow that the bounds allow, and lowered only at one with the least
raised : (low high : Option ℤ) (most d y : ℤ) → (d <ℤ pos 0 → y ≡ high_side low high most) → d <ℤ limited low high d → most ≤ℤ y
raised (Some l) (Some h) most d y at q = absurd (omega (arith, ints, q))
raised (Some l) None most d y at q = let e : y ≡ int_max l most = at (omega (arith, ints, clamps, q)) in omega (arith, ints, clamps, e)
raised None (Some h) most d y at q = absurd (omega (arith, ints, clamps, q))
raised None None most d y at q = let e : y ≡ most = at q in omega (arith, ints, e)

lowered : (low high : Option ℤ) (least d y : ℤ) → (pos 0 <ℤ d → y ≡ low_side low high least) → limited low high d <ℤ d → y ≤ℤ least
lowered (Some l) (Some h) least d y at q = absurd (omega (arith, ints, q))
lowered (Some l) None least d y at q = absurd (omega (arith, ints, clamps, q))
lowered None (Some h) least d y at q = let e : y ≡ int_min h least = at (omega (arith, ints, clamps, q)) in omega (arith, ints, clamps, e)
lowered None None least d y at q = let e : y ≡ least = at q in omega (arith, ints, e)

at_low : (low high : Option ℤ) (least d y q : ℤ) → (pos 0 <ℤ d → y ≡ low_side low high least) → ForSome low (λ l. l ≤ℤ q) → pos 0 <ℤ limited low high d → y ≤ℤ q
at_low (Some l) (Some h) least d y q at below k = let e : y ≡ l = at k in omega (arith, ints, e, below l refl)
at_low (Some l) None least d y q at below k = let e : y ≡ l = at (omega (arith, ints, clamps, k)) in omega (arith, ints, e, below l refl)
at_low None (Some h) least d y q at below k = absurd (omega (arith, ints, clamps, k))
at_low None None least d y q at below k = absurd (omega (arith, ints, k))

at_high : (low high : Option ℤ) (most d y q : ℤ) → (d <ℤ pos 0 → y ≡ high_side low high most) → ForSome high (λ h. q ≤ℤ h) → limited low high d <ℤ pos 0 → q ≤ℤ y
at_high (Some l) (Some h) most d y q at upto k = let e : y ≡ h = at k in omega (arith, ints, e, upto h refl)
at_high (Some l) None most d y q at upto k = absurd (omega (arith, ints, clamps, k))
at_high None (Some h) most d y q at upto k = let e : y ≡ h = at (omega (arith, ints, clamps, k)) in omega (arith, ints, e, upto h refl)
at_high None None most d y q at upto k = absurd (omega (arith, ints, k))

-- ---- a sum that is positive has a positive part

positive_part : (a b c : ℤ) (P : Type 0) → pos 0 <ℤ ((a +ℤ b) +ℤ c) → (pos 0 <ℤ a → P) → (pos 0 <ℤ b → P) → (pos 0 <ℤ c → P) → P
positive_part (pos (suc k)) b c P h f g i = f (omega (arith, ints))
positive_part (pos zero) (pos (suc k)) c P h f g i = g (omega (arith, ints))
positive_part (pos zero) (pos zero) c P h f g i = i (omega (arith, ints, h))
positive_part (pos zero) (negsuc k) c P h f g i = i (omega (arith, ints, h))
positive_part (negsuc m) (pos (suc k)) c P h f g i = g (omega (arith, ints))
positive_part (negsuc m) (pos zero) c P h f g i = i (omega (arith, ints, h))
positive_part (negsuc m) (negsuc k) c P h f g i = i (omega (arith, ints, h))

-- ---- the network at its prices, to minimize

abbrev limited_at : Option NodeRange → ℤ → ℤ
limited_at None d = d
limited_at (Some r) d = limited r.low r.high d

module _ (p : Profile) (instance : Instance) (potentials x : List ℤ) (held : AllZip (IsHeld (flow_arc_of p instance.sense (vec_len instance.nodes)) potentials) instance.arcs.items x)
    (completed : (u : ℕ) (r : NodeRange) → slice_get instance.nodes.items u ≡ Some r → IsCompleted instance.arcs.items u r (above potentials (vec_len instance.nodes) u) (net_inflow instance.arcs.items x u)) where
  abbrev is : List InstArc
  is = instance.arcs.items

  abbrev outside : ℕ
  outside = vec_len instance.nodes

  abbrev make : InstArc → FlowArc
  make = flow_arc_of p instance.sense outside

  abbrev d : ℕ → ℤ
  d u = above potentials outside u

  abbrev price : ℕ → ℤ
  price u = limited_at (slice_get instance.nodes.items u) (d u)

  bounds : AllZip IsWithinBounds is x
  bounds = zipped-weaker (IsHeld make potentials) IsWithinBounds (λ a y h. record { lower = h.lower; upper = h.upper }) is x held

  abbrev Raised : Type 0
  Raised = (u : ℕ) × (d u <ℤ price u)

  abbrev Lowered : Type 0
  Lowered = (u : ℕ) × (price u <ℤ d u)

  ups : AllZip (λ a y. (i : Raised) → IsMostAt i.0 a y) is x
  ups = for_each {I = Raised} (IsHeld make potentials) (λ i. IsMostAt i.0) is x held (λ i. go i.0 (slice_get instance.nodes.items i.0) refl i.1)
    where
      go : (u : ℕ) (o : Option NodeRange) → slice_get instance.nodes.items u ≡ o → d u <ℤ limited_at o (d u) → AllZip (IsMostAt u) is x
      go u None e q = absurd (omega (arith, ints, q))
      go u (Some r) e q = at_most u is x bounds (raised r.low r.high (most_inflow is u) (d u) (net_inflow is x u) (completed u r e).high q)

  downs : AllZip (λ a y. (i : Lowered) → IsLeastAt i.0 a y) is x
  downs = for_each {I = Lowered} (IsHeld make potentials) (λ i. IsLeastAt i.0) is x held (λ i. go i.0 (slice_get instance.nodes.items i.0) refl i.1)
    where
      go : (u : ℕ) (o : Option NodeRange) → slice_get instance.nodes.items u ≡ o → limited_at o (d u) <ℤ d u → AllZip (IsLeastAt u) is x
      go u None e q = absurd (omega (arith, ints, q))
      go u (Some r) e q = at_least u is x bounds (lowered r.low r.high (least_inflow is u) (d u) (net_inflow is x u) (completed u r e).low q)

  -- the price at an end of an arc, and by how much the range of its node has changed it
  abbrev price_of : Option ℕ → ℤ
  price_of None = pos 0
  price_of (Some u) = price u

  abbrev change : Option ℕ → ℤ
  change None = pos 0
  change (Some u) = price u -ℤ d u

  potential_is : (end : Option ℕ) → slice_index_or potentials (unwrap_or end outside) (pos 0) ≡ slice_index_or potentials outside (pos 0) +ℤ (price_of end -ℤ change end)
  potential_is None = omega (arith, ints)
  potential_is (Some u) = omega (arith, ints)

  abbrev cost : InstArc → ℤ
  cost a = (signed instance.sense a.coefficient +ℤ price_of a.tail) -ℤ price_of a.head

  cost_is : (a : InstArc) → cost a ≡ (check.reduced_cost potentials (make a) +ℤ change a.tail) -ℤ change a.head
  cost_is a = omega (arith, ints, potential_is a.tail, potential_is a.head)

  node_is : (u : ℕ) (end : Option ℕ) → end ≡ Some u → is_node u end ≡ true
  node_is u end e = ap (is_node u) e ∙ eq-eqb u u refl

  module _ (a : InstArc) (y : ℤ) (h : IsHeld make potentials a y) (up : (i : Raised) → IsMostAt i.0 a y) (down : (i : Lowered) → IsLeastAt i.0 a y) where
    tail_raised : (end : Option ℕ) → a.tail ≡ end → pos 0 <ℤ change end → y ≡ a.lower
    tail_raised None e q = absurd (omega (arith, ints, q))
    tail_raised (Some u) e q = (up (u, omega (arith, ints, q))).leaving (node_is u a.tail e)

    tail_lowered : (end : Option ℕ) → a.tail ≡ end → pos 0 <ℤ neg_ℤ (change end) → y ≡ a.upper
    tail_lowered None e q = absurd (omega (arith, ints, q))
    tail_lowered (Some u) e q = (down (u, omega (arith, ints, q))).leaving (node_is u a.tail e)

    head_raised : (end : Option ℕ) → a.head ≡ end → pos 0 <ℤ change end → y ≡ a.upper
    head_raised None e q = absurd (omega (arith, ints, q))
    head_raised (Some u) e q = (up (u, omega (arith, ints, q))).entering (node_is u a.head e)

    head_lowered : (end : Option ℕ) → a.head ≡ end → pos 0 <ℤ neg_ℤ (change end) → y ≡ a.lower
    head_lowered None e q = absurd (omega (arith, ints, q))
    head_lowered (Some u) e q = (down (u, omega (arith, ints, q))).entering (node_is u a.head e)

    one_bound : IsBoundBy (cost a) a y
    one_bound = record {
      positive = λ q. positive_part (check.reduced_cost potentials (make a)) (change a.tail) (neg_ℤ (change a.head)) (y ≡ a.lower) (omega (arith, ints, q, cost_is a)) h.positive (tail_raised a.tail refl) (head_lowered a.head refl);
      negative = λ q. positive_part (neg_ℤ (check.reduced_cost potentials (make a))) (neg_ℤ (change a.tail)) (change a.head) (y ≡ a.upper) (omega (arith, ints, q, cost_is a)) (λ k. h.negative (omega (arith, ints, k))) (tail_lowered a.tail refl) (head_raised a.head refl);
    }

  all_bound : (arcs : List InstArc) (ys : List ℤ) → AllZip (IsHeld make potentials) arcs ys → AllZip (λ a y. (i : Raised) → IsMostAt i.0 a y) arcs ys → AllZip (λ a y. (i : Lowered) → IsLeastAt i.0 a y) arcs ys → AllZip (λ a y. IsBoundBy (cost a) a y) arcs ys
  all_bound [] [] h up down = tt
  all_bound [] (y ∷ ys) h up down = absurd h
  all_bound (a ∷ arcs) [] h up down = absurd h
  all_bound (a ∷ arcs) (y ∷ ys) h up down = (one_bound a y h.0 up.0 down.0, all_bound arcs ys h.1 up.1 down.1)

  -- ---- the printed prices

  module _ (many : length potentials ≡ vec_len instance.nodes + 1) where
    abbrev prices : List ℤ
    prices = node_prices instance potentials

    inside : (ranges : List NodeRange) (u : ℕ) → u < length ranges → (r : NodeRange) × (slice_get ranges u ≡ Some r)
    inside [] u k = absurd (omega (arith, k))
    inside (r ∷ ranges) zero k = (r, refl)
    inside (r ∷ ranges) (suc u) k = inside ranges u (omega (arith, k))

    below : (ranges : List NodeRange) (u : ℕ) (r : NodeRange) → slice_get ranges u ≡ Some r → u < length ranges
    below [] u r e = absurd (let k = e in cc)
    below (q ∷ ranges) zero r e = omega arith
    below (q ∷ ranges) (suc u) r e = omega (arith, below ranges u r e)

    price_printed : (u : ℕ) (r : NodeRange) → slice_get instance.nodes.items u ≡ Some r → slice_index_or prices u (pos 0) ≡ signed instance.sense (limited r.low r.high (d u))
    price_printed u r e =
        price_is instance potentials u r (omega (arith, below instance.nodes.items u r e, instance.nodes.ok.0)) many
        ∙ ap (λ (q : NodeRange). node_price instance.sense (slice_index_or potentials outside (pos 0)) q (slice_index_or potentials u (pos 0))) (got instance.nodes.items u r r e)

    end_printed : (end : Option ℕ) → ForSome end (λ u. u < outside) → price_at prices end ≡ signed instance.sense (price_of end)
    end_printed None fits = none instance.sense
      where
        none : (s : Sense) → pos 0 ≡ signed s (pos 0)
        none Minimise = refl
        none Maximise = omega (arith, ints)
    end_printed (Some u) fits =
        let found = inside instance.nodes.items u (omega (arith, fits u refl, instance.nodes.ok.0)) in
        price_printed u found.0 found.1 ∙ ap (λ (o : Option NodeRange). signed instance.sense (limited_at o (d u))) (sym found.1)

    signed_cost : (s : Sense) (c z w : ℤ) → signed s ((c +ℤ signed s z) -ℤ signed s w) ≡ (signed s c +ℤ z) -ℤ w
    signed_cost Minimise c z w = refl
    signed_cost Maximise c z w = omega (arith, ints)

    cost_printed : (a : InstArc) → IsArcOf outside a → signed instance.sense (reduced_cost prices a) ≡ cost a
    cost_printed a fits =
        ap (λ (z : ℤ). signed instance.sense ((a.coefficient +ℤ z) -ℤ price_at prices a.head)) (end_printed a.tail fits.tail)
        ∙ ap (λ (z : ℤ). signed instance.sense ((a.coefficient +ℤ signed instance.sense (price_of a.tail)) -ℤ z)) (end_printed a.head fits.head)
        ∙ signed_cost instance.sense a.coefficient (price_of a.tail) (price_of a.head)

    arcs_printed : (arcs : List InstArc) (zs : List ℤ) → AllByRecursion (IsArcOf outside) arcs → AllZip (λ a y. IsBoundBy (cost a) a y) arcs zs → AllZip (λ a y. IsBoundBy (signed instance.sense (reduced_cost prices a)) a y) arcs zs
    arcs_printed [] [] fit h = tt
    arcs_printed [] (y ∷ zs) fit h = absurd h
    arcs_printed (a ∷ arcs) [] fit h = absurd h
    arcs_printed (a ∷ arcs) (y ∷ zs) fit h = (subst (λ c. IsBoundBy c a y) (sym (cost_printed a fit.0)) h.0, arcs_printed arcs zs fit.1 h.1)

    pub arcs_bound : AllZip (λ a y. IsBoundBy (signed instance.sense (reduced_cost prices a)) a y) is x
    arcs_bound = arcs_printed is x (recursion_from_All (IsArcOf outside) is instance.arcs_fit) (all_bound is x held ups downs)

    signed_twice : (s : Sense) (z : ℤ) → signed s (signed s z) ≡ z
    signed_twice Minimise z = refl
    signed_twice Maximise z = omega (arith, ints)

    pub nodes_side : (u : ℕ) (r : NodeRange) → slice_get instance.nodes.items u ≡ Some r → IsSideBy (signed instance.sense (slice_index_or prices u (pos 0))) r (net_inflow is x u)
    nodes_side u r e =
        let same : signed instance.sense (slice_index_or prices u (pos 0)) ≡ limited r.low r.high (d u) = ap (signed instance.sense) (price_printed u r e) ∙ signed_twice instance.sense (limited r.low r.high (d u)) in
        subst (λ c. IsSideBy c r (net_inflow is x u)) (sym same) (record {
          positive = λ k q h. at_low r.low r.high (least_inflow is u) (d u) (net_inflow is x u) q (completed u r e).low h.low k;
          negative = λ k q h. at_high r.low r.high (most_inflow is u) (d u) (net_inflow is x u) q (completed u r e).high h.high k;
        })
