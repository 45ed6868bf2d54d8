-- The value of a tree, in a world and with dummies in scope, or the first error from left to right.
use Rattle.std.specs.Prelude.{Bool, true, not, List, [], ◌∷◌, ◌++◌, Option, None, Some, if◌then◌else◌, Ok, ℤ, pos}
use Rattle.net_base.specs.declared.diagnostic.Span.{Span}
use Rattle.net_lex.specs.declared.token.Token.{Token}
use Rattle.net_sets.specs.declared.member.Member.TheVariants as member
use Rattle.net_sets.specs.Texts.{text_of}
use Rattle.net_sets.specs.Sets.{Tuple}
use Rattle.net_tree.specs.declared.role.Role.{Role}
use Rattle.net_tree.specs.declared.role.Role.TheVariants as roles
use Rattle.net_tree.specs.Role.{role_of}
use Rattle.net_tree.specs.Spans.{span_of, span_between, braces_span}
use Rattle.net_tree.specs.Tree.{Tree, Links, Part, Braces, leaf, indexed, parens, tuple, negated, braced, signed, reduced, chain, choice, net, none, link, absent, part, empty, filled}
use Rattle.net_base.specs.declared.error_code.ErrorCode.TheVariants.{KindMismatch, ValueTooLarge}
use Rattle.net_expr.specs.declared.value.Value.{Value}
use Rattle.net_expr.specs.declared.value.Value.TheVariants.{One, Several, Truth}
use Rattle.net_expr.specs.declared.row.PartialRow.{PartialRow}
use Rattle.net_expr.specs.declared.row.Row.{Row}
use Rattle.net_expr.specs.declared.row.Keys.{Keys}
use Rattle.net_base.specs.Outcomes.{Outcome, and_then, rejected, each}
use Rattle.net_expr.specs.Worlds.{Name, World, Scope, bound, name_at}
use Rattle.net_tree.specs.Operations.{operation, reduction, is_minus}
use Rattle.net_expr.specs.Numbers.{number, sized, turned, range_of}
use Rattle.net_tree.specs.Numerals.{number_in}
use Rattle.net_expr.specs.Operators.{apply, decided, truth, tuple_of}
use Rattle.net_expr.specs.Items.{is_in, has_in, any_in, begins_range, has_part, new_dummy, needed, chosen, tuples_of, walking, opened, open_with}
use Rattle.net_expr.specs.Rows.{start, with_key, match_component, match_whole, if_fits, onward, finished, selected, no_keys, as_set, listed, reduce}
use Rattle.net_expr.specs.Widths.{width_by_form}

-- A numeral without a number does not occur: each numeral of a text has one
-- (`numerals_have_numbers` of net_tree).
abbrev pub number_value : Span → Option ℤ → Outcome Value
number_value at None = rejected ValueTooLarge at
number_value at (Some n) = Ok (One (member.Number n))

abbrev pub token_value : World → Scope → Token → Role → Outcome Value
token_value w s t roles.Number = number_value t.span (number_in t.text)
token_value w s t roles.Text = Ok (One (member.Name (text_of t.text)))
token_value w s t roles.Name = name_at t.span w t.text (bound s t.text) []
token_value w s t _ = rejected KindMismatch t.span

-- the value of a name at its subscripts
abbrev pub subscripted : Span → World → Scope → Name → List Value → Outcome Value
subscripted at w s name vs = and_then (tuple_of at vs) (name_at at w name (bound s name))

abbrev pub tupled : Span → List Value → Outcome Value
tupled at vs = and_then (tuple_of at vs) (λ t. Ok (Several t))

abbrev pub with_sign : Span → Bool → Value → Outcome Value
with_sign at minus v = and_then (number at v) (λ n. sized at (turned minus n))

-- f of the value if there is one, or else the rest
abbrev pub either : {A B : Type 0} → (A → B) → B → Option A → B
either f rest None = rest
either f rest (Some a) = f a

abbrev mutual
  pub value : World → Scope → Tree → Outcome Value
  value w s (leaf t) = token_value w s t (role_of t)
  value w s (indexed n o x l c) = and_then (and_then (value w s x) (λ v. values w s l (v ∷ []))) (subscripted (span_of (indexed n o x l c)) w s n.text)
  value w s (parens o x c) = value w s x
  value w s (tuple o x l c) = and_then (and_then (value w s x) (λ v. values w s l (v ∷ []))) (tupled (span_of (tuple o x l c)))
  value w s (negated n o x c) = and_then (and_then (value w s x) (truth (span_of (negated n o x c)))) (λ b. Ok (Truth (not b)))
  value w s (braced b) = and_then (index w s b) (as_set (braces_span b))
  value w s (signed t x) = and_then (value w s x) (with_sign (span_of (signed t x)) (is_minus t))
  value w s (reduced r b x) = and_then (index w s b) (reduce (span_of (reduced r b x)) (reduction r) (λ q. value w q x))
  value w s (chain n x l) =
      and_then (value w s x) (λ v. if begins_range l then and_then (values w s l (v ∷ [])) (range_of (span_of (chain n x l))) else chained (span_of (chain n x l)) w s l v)
  value w s (choice i x t y e) =
      and_then (and_then (value w s x) (truth (span_of (choice i x t y e)))) (λ b. if b then value w s y else otherwise w s e)
  value w s (net t u) = Ok (One (member.Number (pos 0)))

  -- a missing `else` is 0
  pub otherwise : World → Scope → Part → Outcome Value
  otherwise w s absent = Ok (One (member.Number (pos 0)))
  otherwise w s (part m x) = value w s x

  -- the values of operands, appended to those found before
  pub values : World → Scope → Links → List Value → Outcome (List Value)
  values w s none found = Ok found
  values w s (link o x l) found = and_then (value w s x) (λ v. values w s l (found ++ v ∷ []))

  -- applies the operators of a chain from left to right
  pub chained : Span → World → Scope → Links → Value → Outcome Value
  chained at w s none v = Ok v
  chained at w s (link o x l) v =
      and_then (decided (operation o) at v) (either (chained at w s l) (and_then (value w s x) (λ u. and_then (apply (operation o) at v u) (chained at w s l))))

  -- the keys of an indexing expression, each with the dummies in scope
  pub index : World → Scope → Braces → Outcome Keys
  index w s (empty o p c) = if has_part p then rejected KindMismatch (span_between o c) else Ok no_keys
  index w s (filled o i is p c) =
      and_then (if has_in i then and_then (set_after w s i) (λ ts. Ok (walking ts)) else and_then (value w s i) (opened (span_between o c) (any_in is)))
      (open_with
      (λ ts. and_then (each (onward (place w i) (walk (span_between o c) w is) (start s)) ts [])
      (selected (width_by_form (span_between o c) w s i is) (λ q. holds (span_between o c) w q p)))
      (λ v. and_then (values w s is (v ∷ [])) (listed (span_between o c) s (has_part p))))

  -- the items from left to right, each for every state that the items before it produce
  pub walk : Span → World → Links → PartialRow → List Row → Outcome (List Row)
  walk at w none p found = finished at p found
  walk at w (link o i is) p found =
      and_then (if has_in i then set_after w p.scope i else and_then (value w p.scope i) (tuples_of at))
      (λ ts. each (onward (place w i) (walk at w is) p) ts found)

  -- the tuples of the set after `in`
  pub set_after : World → Scope → Tree → Outcome (List Tuple)
  set_after w s (chain n x (link o y none)) = and_then (value w s y) (chosen (span_of (chain n x (link o y none))) (needed x))
  set_after w s _ = Ok []

  -- the state after an item for one tuple of its set, if the tuple matches
  pub place : World → Tree → Tuple → PartialRow → Outcome (Option PartialRow)
  place w (chain n x (link o y none)) t p =
      if is_in (operation o) then left_place (span_of (chain n x (link o y none))) w x (value w p.scope x) t p else Ok (Some (with_key t p))
  place w _ t p = Ok (Some (with_key t p))

  -- the components of a tuple from left to right, up to the first that does not match; `own` is the
  -- value of the whole
  pub left_place : Span → World → Tree → Outcome Value → Tuple → PartialRow → Outcome (Option PartialRow)
  left_place at w (tuple o x l c) own [] p = Ok (Some p)
  left_place at w (tuple o x l c) own (m ∷ ms) p =
      and_then (match_component (span_of (tuple o x l c)) (new_dummy w p.scope x) (value w p.scope x) m p) (if_fits (places (span_of (tuple o x l c)) w l ms))
  left_place at w x own t p = match_whole at (new_dummy w p.scope x) own t p

  pub places : Span → World → Links → Tuple → PartialRow → Outcome (Option PartialRow)
  places at w none ms p = Ok (Some p)
  places at w (link o x l) [] p = Ok (Some p)
  places at w (link o x l) (m ∷ ms) p = and_then (match_component at (new_dummy w p.scope x) (value w p.scope x) m p) (if_fits (places at w l ms))

  -- the condition after the items
  pub holds : Span → World → Scope → Part → Outcome Bool
  holds at w s absent = Ok true
  holds at w s (part m x) = and_then (value w s x) (truth at)
