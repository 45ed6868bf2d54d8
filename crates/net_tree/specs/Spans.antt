-- The span of a tree: from its first token to its last.
use Rattle.std.specs.Prelude.{ℕ, Option, None, Some}
use Rattle.net_lex.specs.declared.token.Token.{Token}
use Rattle.net_base.specs.declared.diagnostic.Span.{Span}
use Rattle.net_tree.specs.Tree.{Tree, Links, Part, Braces, leaf, indexed, parens, tuple, negated, braced, signed, reduced, chain, choice, net, none, link, absent, part, empty, filled, Condition, unsaid, one, between}

abbrev pub opening : Braces → Token
opening (empty o p c) = o
opening (filled o x l p c) = o

abbrev pub closing : Braces → Token
closing (empty o p c) = c
closing (filled o x l p c) = c

abbrev pub first_or : Option Token → Token → Token
first_or None w = w
first_or (Some s) w = s

-- the first token
abbrev pub first : Tree → Token
first (leaf t) = t
first (indexed n o x l c) = n
first (parens o x c) = o
first (tuple o x l c) = o
first (negated n o x c) = n
first (braced b) = opening b
first (signed s x) = s
first (reduced w b x) = w
first (chain n x l) = first x
first (choice i x t y e) = i
first (net s w) = first_or s w

-- the last token of a tree; for links and clauses the last token in them, or else the given one
abbrev mutual
  pub final : Tree → Token
  final (leaf t) = t
  final (indexed n o x l c) = c
  final (parens o x c) = c
  final (tuple o x l c) = c
  final (negated n o x c) = c
  final (braced b) = closing b
  final (signed s x) = final x
  final (reduced w b x) = final x
  final (chain n x l) = final_of (final x) l
  final (choice i x t y e) = final_part (final y) e
  final (net s w) = w

  pub final_of : Token → Links → Token
  final_of t none = t
  final_of t (link o x l) = final_of (final x) l

  pub final_part : Token → Part → Token
  final_part t absent = t
  final_part t (part m x) = final x

-- the span from one token to another
unfoldable pub span_between : Token → Token → Span
span_between a b = record { start = a.span.start; end = b.span.end }

unfoldable pub span_of : Tree → Span
span_of x = record { start = (first x).span.start; end = (final x).span.end }

unfoldable pub braces_span : Braces → Span
braces_span b = record { start = (opening b).span.start; end = (closing b).span.end }

-- the span from the start of one tree to the end of another
abbrev pub from_to : Tree → Tree → Span
from_to x z = record { start = (span_of x).start; end = (span_of z).end }

-- an empty span at this position
abbrev pub point : ℕ → Span
point at = record { start = at; end = at }

-- the span of a node's condition, from the first token after the colon
abbrev pub condition_span : Condition → Option Span
condition_span unsaid = None
condition_span (one m x o y) = Some (record { start = (first x).span.start; end = (final y).span.end })
condition_span (between m x o y p z) = Some (record { start = (first x).span.start; end = (final z).span.end })
