-- Trees all of whose spans satisfy a predicate P.
use Rattle.std.specs.Prelude.{⊤, List, [], ◌∷◌, Option, None, Some}
use Rattle.net_base.specs.declared.diagnostic.Span.{Span}
use Rattle.net_tree.specs.Spans.{span_of, span_between, braces_span, from_to, point}
use Rattle.net_tree.specs.Tree.{Tree, Links, Part, Braces, leaf, indexed, parens, tuple, negated, braced, signed, reduced, chain, choice, net, none, link, absent, part, empty, filled, Body, plain, valued, priced, Phrase, Condition, unsaid, one, between, Declaration, set, param, check, node, arc, objective}

-- P holds for the span of the tree and of all its parts, down to the tokens
abbrev mutual
  pub Stands : (Span → Type 0) → Tree → Type 0
  Stands P (leaf t) = P (span_of (leaf t)) × P t.span
  Stands P (indexed n o x l c) = P (span_of (indexed n o x l c)) × P n.span × Stands P x × LinksStand P l
  Stands P (parens o x c) = P (span_of (parens o x c)) × Stands P x
  Stands P (tuple o x l c) = P (span_of (tuple o x l c)) × Stands P x × LinksStand P l
  Stands P (negated n o x c) = P (span_of (negated n o x c)) × Stands P x
  Stands P (braced b) = P (span_of (braced b)) × BracesStand P b
  Stands P (signed t x) = P (span_of (signed t x)) × Stands P x
  Stands P (reduced r b x) = P (span_of (reduced r b x)) × BracesStand P b × Stands P x
  Stands P (chain n x l) = P (span_of (chain n x l)) × Stands P x × LinksStand P l
  Stands P (choice i x t y e) = P (span_of (choice i x t y e)) × Stands P x × Stands P y × PartStands P e
  Stands P (net t u) = P (span_of (net t u))

  pub LinksStand : (Span → Type 0) → Links → Type 0
  LinksStand P none = ⊤
  LinksStand P (link o x l) = Stands P x × LinksStand P l

  pub PartStands : (Span → Type 0) → Part → Type 0
  PartStands P absent = ⊤
  PartStands P (part m x) = Stands P x

  pub BracesStand : (Span → Type 0) → Braces → Type 0
  BracesStand P (empty o p c) = P (braces_span (empty o p c)) × P (span_between o c) × PartStands P p
  BracesStand P (filled o x l p c) = P (braces_span (filled o x l p c)) × P (span_between o c) × Stands P x × LinksStand P l × PartStands P p

abbrev pub IndexingHasSpans : (Span → Type 0) → Option Braces → Type 0
IndexingHasSpans P None = ⊤
IndexingHasSpans P (Some b) = BracesStand P b

-- what follows the keyword of a phrase
abbrev pub BodyHasSpans : (Span → Type 0) → Body → Type 0
BodyHasSpans P plain = ⊤
BodyHasSpans P (valued x) = Stands P x
BodyHasSpans P (priced n x) = P n.span × Stands P x

abbrev pub PhrasesHaveSpans : (Span → Type 0) → List Phrase → Type 0
PhrasesHaveSpans P [] = ⊤
PhrasesHaveSpans P (p ∷ ps) = P p.word.span × BodyHasSpans P p.body × PhrasesHaveSpans P ps

-- a node's condition: its expressions and the whole condition
abbrev pub ConditionHasSpans : (Span → Type 0) → Condition → Type 0
ConditionHasSpans P unsaid = ⊤
ConditionHasSpans P (one m x o y) = P (from_to x y) × Stands P x × Stands P y
ConditionHasSpans P (between m x o y p z) = P (from_to x z) × Stands P x × Stands P y × Stands P z

-- a declaration: its name, its parts, and the position after its semicolon
abbrev pub DeclarationHasSpans : (Span → Type 0) → Declaration → Type 0
DeclarationHasSpans P (set w n ps e) = P n.span × PhrasesHaveSpans P ps × P (point e.span.end)
DeclarationHasSpans P (param w n b ps e) = P n.span × IndexingHasSpans P b × PhrasesHaveSpans P ps × P (point e.span.end)
DeclarationHasSpans P (check w b m x e) = IndexingHasSpans P b × Stands P x × P (point e.span.end)
DeclarationHasSpans P (node w n b c e) = P n.span × IndexingHasSpans P b × ConditionHasSpans P c × P (point e.span.end)
DeclarationHasSpans P (arc w n b ps e) = P n.span × IndexingHasSpans P b × PhrasesHaveSpans P ps × P (point e.span.end)
DeclarationHasSpans P (objective w n p e) = P n.span × PartStands P p × P (point e.span.end)

abbrev pub DeclarationsHaveSpans : (Span → Type 0) → List Declaration → Type 0
DeclarationsHaveSpans P [] = ⊤
DeclarationsHaveSpans P (d ∷ ds) = DeclarationHasSpans P d × DeclarationsHaveSpans P ds

-- a whole model; the position 0 is used for a model without declarations
abbrev pub ModelHasSpans : (Span → Type 0) → List Declaration → Type 0
ModelHasSpans P ds = P (point 0) × DeclarationsHaveSpans P ds
