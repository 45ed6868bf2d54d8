-- Where a tree's tokens rise through a text, the tree and its parts lie in it.
use Rattle.std.specs.Prelude.{ℕ, ◌≤◌, List, ◌∷◌, None, Some}
use Rattle.std.proofs.Common.{arith}
use Rattle.net_lex.specs.declared.token.Token.{Token}
use Rattle.net_tree.specs.declared.operator.OperatorWords.{OperatorWords as Operator}
use Rattle.net_tree.specs.declared.operator.OperatorWords.TheVariants.{One, Two}
use Rattle.net_tree.specs.Print.{put_operator, put, put_links, put_part, put_braces}
use Rattle.net_tree.specs.Spans.{opening, closing, first, final, final_of, final_part, span_between, span_of, braces_span}
use Rattle.net_tree.specs.Tree.{Tree, Links, Part, Braces, leaf, indexed, parens, tuple, negated, braced, signed, reduced, chain, choice, net, none, link, absent, part, empty, filled}
use Rattle.net_base.specs.Places.{IsSpanIn}
use Rattle.net_tree.specs.Standing.{Stands, LinksStand, PartStands, BracesStand}
use Rattle.net_lex.proofs.Rising.{Rise, rise_ends, rise_later}

-- what stands between two tokens, the first of which is not before a place, and what rises behind it
pub record Placed (from to : ℕ) (first final : Token) (Standing : Type 0) (rest : List Token) : Type 0 where
  pub begins : from ≤ first.span.start
  pub forward : first.span.start ≤ final.span.end
  pub stands : Standing
  pub behind : Rise final.span.end to rest

-- the same of what may be nothing, behind a token
pub record Follows (to : ℕ) (before final : Token) (Standing : Type 0) (rest : List Token) : Type 0 where
  pub forward : before.span.end ≤ final.span.end
  pub stands : Standing
  pub behind : Rise final.span.end to rest

module _ (to : ℕ) where
  lies : (start end : ℕ) → start ≤ end → end ≤ to → IsSpanIn to (record { start = start; end = end })
  lies start end h k = record { forward = h; inside = k }

  -- behind an operator
  after_operator : (from : ℕ) (o : Operator) (r : List Token) → Rise from to (put_operator o r) → Rise from to r
  after_operator from (One t) r (h, k, m) = rise_later from t.span.end to r (omega (arith, h, k)) m
  after_operator from (Two t u) r (h, k, (i, j, m)) = rise_later from u.span.end to r (omega (arith, h, k, i, j)) m

  mutual
    unfolding span_of span_between braces_span

    pub tree_rises : (from : ℕ) (t : Tree) (r : List Token) → Rise from to (put t r) → Placed from to (first t) (final t) (Stands (IsSpanIn to) t) r
    tree_rises from (leaf t) r (h, k, m) =
        let inside = rise_ends t.span.end to r m in
        record { begins = h; forward = k; stands = (lies _ _ k inside, record { forward = k; inside = inside }); behind = m }
    tree_rises from (indexed n o x l c) r (h, k, (i, j, m)) =
        let x' = tree_rises o.span.end x (put_links l (c ∷ r)) m in
        let l' = links_rise (final x) l (c ∷ r) x'.behind in
        let (p, q, s) = l'.behind in
        let whole : n.span.start ≤ c.span.end = omega (arith, k, i, j, x'.begins, x'.forward, l'.forward, p, q) in
        let inside = rise_ends c.span.end to r s in
        record { begins = h; forward = whole; stands = (lies _ _ whole inside, record { forward = k; inside = rise_ends n.span.end to (o ∷ put x (put_links l (c ∷ r))) (i, j, m) }, x'.stands, l'.stands); behind = s }
    tree_rises from (parens o x c) r (h, k, m) =
        let x' = tree_rises o.span.end x (c ∷ r) m in
        let (p, q, s) = x'.behind in
        let whole : o.span.start ≤ c.span.end = omega (arith, k, x'.begins, x'.forward, p, q) in
        record { begins = h; forward = whole; stands = (lies _ _ whole (rise_ends c.span.end to r s), x'.stands); behind = s }
    tree_rises from (tuple o x l c) r (h, k, m) =
        let x' = tree_rises o.span.end x (put_links l (c ∷ r)) m in
        let l' = links_rise (final x) l (c ∷ r) x'.behind in
        let (p, q, s) = l'.behind in
        let whole : o.span.start ≤ c.span.end = omega (arith, k, x'.begins, x'.forward, l'.forward, p, q) in
        record { begins = h; forward = whole; stands = (lies _ _ whole (rise_ends c.span.end to r s), x'.stands, l'.stands); behind = s }
    tree_rises from (negated n o x c) r (h, k, (i, j, m)) =
        let x' = tree_rises o.span.end x (c ∷ r) m in
        let (p, q, s) = x'.behind in
        let whole : n.span.start ≤ c.span.end = omega (arith, k, i, j, x'.begins, x'.forward, p, q) in
        record { begins = h; forward = whole; stands = (lies _ _ whole (rise_ends c.span.end to r s), x'.stands); behind = s }
    tree_rises from (braced b) r h =
        let b' = braces_rise from b r h in
        record { begins = b'.begins; forward = b'.forward; stands = (lies _ _ b'.forward (rise_ends (closing b).span.end to r b'.behind), b'.stands); behind = b'.behind }
    tree_rises from (signed t x) r (h, k, m) =
        let x' = tree_rises t.span.end x r m in
        let whole : t.span.start ≤ (final x).span.end = omega (arith, k, x'.begins, x'.forward) in
        record { begins = h; forward = whole; stands = (lies _ _ whole (rise_ends (final x).span.end to r x'.behind), x'.stands); behind = x'.behind }
    tree_rises from (reduced w b x) r (h, k, m) =
        let b' = braces_rise w.span.end b (put x r) m in
        let x' = tree_rises (closing b).span.end x r b'.behind in
        let whole : w.span.start ≤ (final x).span.end = omega (arith, k, b'.begins, b'.forward, x'.begins, x'.forward) in
        record { begins = h; forward = whole; stands = (lies _ _ whole (rise_ends (final x).span.end to r x'.behind), b'.stands, x'.stands); behind = x'.behind }
    tree_rises from (chain n x l) r h =
        let x' = tree_rises from x (put_links l r) h in
        let l' = links_rise (final x) l r x'.behind in
        let whole : (first x).span.start ≤ (final_of (final x) l).span.end = omega (arith, x'.forward, l'.forward) in
        record { begins = x'.begins; forward = whole; stands = (lies _ _ whole (rise_ends (final_of (final x) l).span.end to r l'.behind), x'.stands, l'.stands); behind = l'.behind }
    tree_rises from (choice i x t y e) r (h, k, m) =
        let x' = tree_rises i.span.end x (t ∷ put y (put_part e r)) m in
        let (p, q, s) = x'.behind in
        let y' = tree_rises t.span.end y (put_part e r) s in
        let e' = part_rises (final y) e r y'.behind in
        let whole : i.span.start ≤ (final_part (final y) e).span.end = omega (arith, k, x'.begins, x'.forward, p, q, y'.begins, y'.forward, e'.forward) in
        record { begins = h; forward = whole; stands = (lies _ _ whole (rise_ends (final_part (final y) e).span.end to r e'.behind), x'.stands, y'.stands, e'.stands); behind = e'.behind }
    tree_rises from (net None w) r (h, k, m) = record { begins = h; forward = k; stands = lies _ _ k (rise_ends w.span.end to r m); behind = m }
    tree_rises from (net (Some s) w) r (h, k, (i, j, m)) =
        let whole : s.span.start ≤ w.span.end = omega (arith, k, i, j) in
        record { begins = h; forward = whole; stands = lies _ _ whole (rise_ends w.span.end to r m); behind = m }

    links_rise : (before : Token) (l : Links) (r : List Token) → Rise before.span.end to (put_links l r) → Follows to before (final_of before l) (LinksStand (IsSpanIn to) l) r
    links_rise before none r h = record { forward = omega arith; stands = tt; behind = h }
    links_rise before (link o x l) r h =
        let x' = tree_rises before.span.end x (put_links l r) (after_operator before.span.end o (put x (put_links l r)) h) in
        let l' = links_rise (final x) l r x'.behind in
        record { forward = omega (arith, x'.begins, x'.forward, l'.forward); stands = (x'.stands, l'.stands); behind = l'.behind }

    part_rises : (before : Token) (p : Part) (r : List Token) → Rise before.span.end to (put_part p r) → Follows to before (final_part before p) (PartStands (IsSpanIn to) p) r
    part_rises before absent r h = record { forward = omega arith; stands = tt; behind = h }
    part_rises before (part m x) r (h, k, s) =
        let x' = tree_rises m.span.end x r s in
        record { forward = omega (arith, h, k, x'.begins, x'.forward); stands = x'.stands; behind = x'.behind }

    pub braces_rise : (from : ℕ) (b : Braces) (r : List Token) → Rise from to (put_braces b r) → Placed from to (opening b) (closing b) (BracesStand (IsSpanIn to) b) r
    braces_rise from (empty o p c) r (h, k, m) =
        let p' = part_rises o p (c ∷ r) m in
        let (i, j, s) = p'.behind in
        let whole : o.span.start ≤ c.span.end = omega (arith, k, p'.forward, i, j) in
        let inside = rise_ends c.span.end to r s in
        record { begins = h; forward = whole; stands = (lies _ _ whole inside, lies _ _ whole inside, p'.stands); behind = s }
    braces_rise from (filled o x l p c) r (h, k, m) =
        let x' = tree_rises o.span.end x (put_links l (put_part p (c ∷ r))) m in
        let l' = links_rise (final x) l (put_part p (c ∷ r)) x'.behind in
        let p' = part_rises (final_of (final x) l) p (c ∷ r) l'.behind in
        let (i, j, s) = p'.behind in
        let whole : o.span.start ≤ c.span.end = omega (arith, k, x'.begins, x'.forward, l'.forward, p'.forward, i, j) in
        let inside = rise_ends c.span.end to r s in
        record { begins = h; forward = whole; stands = (lies _ _ whole inside, lies _ _ whole inside, x'.stands, l'.stands, p'.stands); behind = s }
