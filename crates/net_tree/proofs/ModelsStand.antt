-- Where the tokens of declarations rise through a text, the declarations lie in it.
use Rattle.std.specs.Prelude.{ℕ, ◌≤◌, List, [], ◌∷◌, Option, None, Some}
use Rattle.std.proofs.Common.{arith}
use Rattle.net_lex.specs.declared.token.Token.{Token}
use Rattle.net_tree.specs.Print.{put_optional, put, put_part, put_indexing, put_body, put_phrases, put_condition, put_declaration, print}
use Rattle.net_tree.specs.Spans.{closing, first, final, span_of, point}
use Rattle.net_tree.specs.Tree.{Tree, Part, Braces, absent, part, Body, plain, valued, priced, Phrase, Condition, unsaid, one, between, Declaration, set, param, check, node, arc, objective}
use Rattle.net_base.specs.Places.{IsSpanIn}
use Rattle.net_tree.specs.Standing.{Stands, PartStands, IndexingHasSpans, BodyHasSpans, PhrasesHaveSpans, ConditionHasSpans, DeclarationHasSpans, DeclarationsHaveSpans, ModelHasSpans}
use Rattle.net_lex.proofs.Rising.{Rise, rise_ends, rise_later}
use Rattle.net_tree.proofs.TreesStand.{tree_rises, braces_rise}

module _ (to : ℕ) where
  -- what stands, and what rises behind it
  abbrev pub Passed : (from : ℕ) → Type 0 → List Token → Type 0
  Passed from Standing rest = Standing × Rise from to rest

  past : (from : ℕ) (t : Token) (r : List Token) → Rise from to (t ∷ r) → Passed from (IsSpanIn to t.span) r
  past from t r (h, k, m) = (record { forward = k; inside = rise_ends t.span.end to r m }, rise_later from t.span.end to r (omega (arith, h, k)) m)

  point_lies : (from : ℕ) (t : Token) (r : List Token) → Rise from to (t ∷ r) → IsSpanIn to (point t.span.end)
  point_lies from t r (h, k, m) = record { forward = omega arith; inside = rise_ends t.span.end to r m }

  tree_passed : (from : ℕ) (x : Tree) (r : List Token) → Rise from to (put x r) → Passed from (Stands (IsSpanIn to) x) r
  tree_passed from x r h = let x' = tree_rises to from x r h in (x'.stands, rise_later from (final x).span.end to r (omega (arith, x'.begins, x'.forward)) x'.behind)

  part_passed : (from : ℕ) (p : Part) (r : List Token) → Rise from to (put_part p r) → Passed from (PartStands (IsSpanIn to) p) r
  part_passed from absent r h = (tt, h)
  part_passed from (part m x) r h = tree_passed from x r (past from m (put x r) h).1

  indexing_passed : (from : ℕ) (b : Option Braces) (r : List Token) → Rise from to (put_indexing b r) → Passed from (IndexingHasSpans (IsSpanIn to) b) r
  indexing_passed from None r h = (tt, h)
  indexing_passed from (Some b) r h = let b' = braces_rise to from b r h in (b'.stands, rise_later from (closing b).span.end to r (omega (arith, b'.begins, b'.forward)) b'.behind)

  optional_passed : (from : ℕ) (t : Option Token) (r : List Token) → Rise from to (put_optional t r) → Rise from to r
  optional_passed from None r h = h
  optional_passed from (Some t) r h = (past from t r h).1

  body_passed : (from : ℕ) (b : Body) (r : List Token) → Rise from to (put_body b r) → Passed from (BodyHasSpans (IsSpanIn to) b) r
  body_passed from plain r h = (tt, h)
  body_passed from (valued x) r h = tree_passed from x r h
  body_passed from (priced n x) r h = let (name, more) = past from n (put x r) h in let (x', rest) = tree_passed from x r more in ((name, x'), rest)

  phrases_passed : (from : ℕ) (ps : List Phrase) (r : List Token) → Rise from to (put_phrases ps r) → Passed from (PhrasesHaveSpans (IsSpanIn to) ps) r
  phrases_passed from [] r h = (tt, h)
  phrases_passed from (p ∷ ps) r h =
      let (word, more) = past from p.word (put_body p.body (put_phrases ps r)) (optional_passed from p.comma (p.word ∷ put_body p.body (put_phrases ps r)) h) in
      let (b, others) = body_passed from p.body (put_phrases ps r) more in
      let (all, rest) = phrases_passed from ps r others in
      ((word, b, all), rest)

  condition_passed : (from : ℕ) (c : Condition) (r : List Token) → Rise from to (put_condition c r) → Passed from (ConditionHasSpans (IsSpanIn to) c) r
  unfolding span_of
  condition_passed from unsaid r h = (tt, h)
  condition_passed from (one m x o y) r h =
      let x' = tree_rises to from x (o ∷ put y r) (past from m (put x (o ∷ put y r)) h).1 in
      let (i, j, more) = x'.behind in
      let y' = tree_rises to o.span.end y r more in
      let whole : (first x).span.start ≤ (final y).span.end = omega (arith, x'.forward, i, j, y'.begins, y'.forward) in
      ((record { forward = whole; inside = rise_ends (final y).span.end to r y'.behind }, x'.stands, y'.stands), rise_later from (final y).span.end to r (omega (arith, x'.begins, whole)) y'.behind)
  condition_passed from (between m x o y p z) r h =
      let x' = tree_rises to from x (o ∷ put y (p ∷ put z r)) (past from m (put x (o ∷ put y (p ∷ put z r))) h).1 in
      let (i, j, more) = x'.behind in
      let y' = tree_rises to o.span.end y (p ∷ put z r) more in
      let (k, l, others) = y'.behind in
      let z' = tree_rises to p.span.end z r others in
      let whole : (first x).span.start ≤ (final z).span.end = omega (arith, x'.forward, i, j, y'.begins, y'.forward, k, l, z'.begins, z'.forward) in
      ((record { forward = whole; inside = rise_ends (final z).span.end to r z'.behind }, x'.stands, y'.stands, z'.stands), rise_later from (final z).span.end to r (omega (arith, x'.begins, whole)) z'.behind)

  pub declaration_passed : (from : ℕ) (d : Declaration) (r : List Token) → Rise from to (put_declaration d r) → Passed from (DeclarationHasSpans (IsSpanIn to) d) r
  declaration_passed from (set w n ps e) r h =
      let (name, more) = past from n (put_phrases ps (e ∷ r)) (past from w (n ∷ put_phrases ps (e ∷ r)) h).1 in
      let (all, end) = phrases_passed from ps (e ∷ r) more in
      ((name, all, point_lies from e r end), (past from e r end).1)
  declaration_passed from (param w n b ps e) r h =
      let (name, more) = past from n (put_indexing b (put_phrases ps (e ∷ r))) (past from w (n ∷ put_indexing b (put_phrases ps (e ∷ r))) h).1 in
      let (b', others) = indexing_passed from b (put_phrases ps (e ∷ r)) more in
      let (all, end) = phrases_passed from ps (e ∷ r) others in
      ((name, b', all, point_lies from e r end), (past from e r end).1)
  declaration_passed from (check w b m x e) r h =
      let (b', more) = indexing_passed from b (m ∷ put x (e ∷ r)) (past from w (put_indexing b (m ∷ put x (e ∷ r))) h).1 in
      let (x', end) = tree_passed from x (e ∷ r) (past from m (put x (e ∷ r)) more).1 in
      ((b', x', point_lies from e r end), (past from e r end).1)
  declaration_passed from (node w n b c e) r h =
      let (name, more) = past from n (put_indexing b (put_condition c (e ∷ r))) (past from w (n ∷ put_indexing b (put_condition c (e ∷ r))) h).1 in
      let (b', others) = indexing_passed from b (put_condition c (e ∷ r)) more in
      let (c', end) = condition_passed from c (e ∷ r) others in
      ((name, b', c', point_lies from e r end), (past from e r end).1)
  declaration_passed from (arc w n b ps e) r h =
      let (name, more) = past from n (put_indexing b (put_phrases ps (e ∷ r))) (past from w (n ∷ put_indexing b (put_phrases ps (e ∷ r))) h).1 in
      let (b', others) = indexing_passed from b (put_phrases ps (e ∷ r)) more in
      let (all, end) = phrases_passed from ps (e ∷ r) others in
      ((name, b', all, point_lies from e r end), (past from e r end).1)
  declaration_passed from (objective w n p e) r h =
      let (name, more) = past from n (put_part p (e ∷ r)) (past from w (n ∷ put_part p (e ∷ r)) h).1 in
      let (p', end) = part_passed from p (e ∷ r) more in
      ((name, p', point_lies from e r end), (past from e r end).1)

  declarations_stand : (from : ℕ) (ds : List Declaration) → Rise from to (print ds) → DeclarationsHaveSpans (IsSpanIn to) ds
  declarations_stand from [] h = tt
  declarations_stand from (d ∷ ds) h = let (d', more) = declaration_passed from d (print ds) h in (d', declarations_stand from ds more)

  pub model_stands : (ds : List Declaration) → Rise 0 to (print ds) → ModelHasSpans (IsSpanIn to) ds
  model_stands ds h = (record { forward = omega arith; inside = omega arith }, declarations_stand 0 ds h)
