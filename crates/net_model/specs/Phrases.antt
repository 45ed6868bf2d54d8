-- The phrases of sets, parameters and arcs, in any order, each with an optional comma before it.
use Rattle.std.specs.Prelude.{Bool, true, false, ◌&&◌, List, [], ◌∷◌, length, Option, None, Some, is_some, if◌then◌else◌}
use Rattle.net_lex.specs.declared.token.Token.{Token}
use Rattle.net_tree.specs.declared.role.Role.{Role}
use Rattle.net_tree.specs.declared.role.Role.TheVariants as roles
use Rattle.net_tree.specs.declared.role.Begins.TheVariants as begins
use Rattle.net_tree.specs.declared.role.Relation.TheVariants as relations
use Rattle.net_tree.specs.Role.{role_of, is_comma, is_semicolon}
use Rattle.net_tree.specs.Precedence.{of_sum, of_union}
use Rattle.net_tree.specs.Tree.{leaf, Body, plain, valued, priced, Phrase}
use Rattle.net_model.specs.declared.phrases.Owner.{Owner}
use Rattle.net_model.specs.declared.phrases.Owner.TheVariants as owners
use Rattle.net_model.specs.declared.phrases.Slot.{Slot}
use Rattle.net_model.specs.declared.phrases.Slot.TheVariants as slots
use Rattle.net_model.specs.declared.phrases.Stood.{Stood}
use Rattle.net_model.specs.declared.model_parser.Awaiting.{Awaiting}
use Rattle.net_model.specs.declared.model_parser.Awaiting.TheVariants as awaiting
use Rattle.net_model.specs.declared.expected.Expected.TheVariants as sorts
use Rattle.net_model.specs.Reading.{Tokens, Read, ◌>>=◌, read_as, rejected, next_is, expect}
use Rattle.net_model.specs.Expressions.{Inner, unary, climb, wide, named_at}
use Rattle.net_model.specs.Rows.{row}

-- what follows this keyword in a phrase, if the declaration has such a phrase
abbrev pub set_slot : Role → Option Slot
set_slot (roles.Phrase begins.Dimen) = Some slots.Number
set_slot (roles.Relation relations.Within) = Some slots.Set
set_slot roles.Becomes = Some slots.Value
set_slot _ = None

abbrev pub param_slot : Role → Option Slot
param_slot (roles.Phrase begins.Symbolic) = Some slots.Nothing
param_slot (roles.Phrase begins.Integer) = Some slots.Nothing
param_slot (roles.Relation relations.AtMost) = Some slots.Sum
param_slot (roles.Relation relations.AtLeast) = Some slots.Sum
param_slot (roles.Relation relations.Less) = Some slots.Sum
param_slot (roles.Relation relations.Greater) = Some slots.Sum
param_slot (roles.Relation relations.Unequal) = Some slots.Sum
param_slot (roles.Relation relations.In) = Some slots.Set
param_slot (roles.Phrase begins.Default) = Some slots.Value
param_slot roles.Becomes = Some slots.Value
param_slot _ = None

abbrev pub arc_slot : Role → Option Slot
arc_slot (roles.Relation relations.AtMost) = Some slots.Sum
arc_slot (roles.Relation relations.AtLeast) = Some slots.Sum
arc_slot (roles.Phrase begins.Integer) = Some slots.Nothing
arc_slot (roles.Phrase begins.From) = Some slots.Node
arc_slot (roles.Phrase begins.To) = Some slots.Node
arc_slot (roles.Phrase begins.Obj) = Some slots.Price
arc_slot _ = None

abbrev pub slot_of : Owner → Role → Option Slot
slot_of owners.Set r = set_slot r
slot_of owners.Param r = param_slot r
slot_of owners.Arc r = arc_slot r

abbrev pub is_arc : Owner → Bool
is_arc owners.Set = false
is_arc owners.Param = false
is_arc owners.Arc = true

-- whether this keyword begins a phrase that is allowed only once and has occurred; comparisons of
-- parameters can be repeated
abbrev pub stood_before : Owner → Stood → Role → Bool
stood_before o s (roles.Phrase begins.Dimen) = s.dimen
stood_before o s (roles.Phrase begins.Default) = s.default
stood_before o s (roles.Phrase begins.From) = s.from
stood_before o s (roles.Phrase begins.To) = s.to
stood_before o s roles.Becomes = s.becomes
stood_before o s (roles.Relation relations.AtLeast) = is_arc o && s.at_least
stood_before o s (roles.Relation relations.AtMost) = is_arc o && s.at_most
stood_before _ _ _ = false

-- the phrases that have occurred, including the one that this keyword begins
abbrev pub and_then_stood : Stood → Role → Stood
and_then_stood s (roles.Phrase begins.Dimen) = record s { dimen = true; after_node = false }
and_then_stood s (roles.Phrase begins.Default) = record s { default = true; after_node = false }
and_then_stood s (roles.Phrase begins.From) = record s { from = true; after_node = true }
and_then_stood s (roles.Phrase begins.To) = record s { to = true; after_node = true }
and_then_stood s roles.Becomes = record s { becomes = true; after_node = false }
and_then_stood s (roles.Relation relations.AtLeast) = record s { at_least = true; after_node = false }
and_then_stood s (roles.Relation relations.AtMost) = record s { at_most = true; after_node = false }
and_then_stood s _ = record s { after_node = false }

abbrev pub nothing_stood : Stood
nothing_stood = record { dimen = false; default = false; becomes = false; at_least = false; at_most = false; from = false; to = false; after_node = false }

-- whether this keyword begins a phrase here
abbrev pub begins_phrase : Owner → Stood → Role → Bool
begins_phrase o s r = if stood_before o s r then false else is_some (slot_of o r)

abbrev pub goes_on : Owner → Stood → Role → Bool
goes_on o s r = if is_comma r then true else begins_phrase o s r

abbrev pub phrase_next : Owner → Stood → Tokens → Bool
phrase_next o s ts = next_is (goes_on o s) ts

-- what is expected at a token that is not accepted
abbrev pub awaited : Owner → Stood → Role → Awaiting
awaited o s r = if stood_before o s r then awaiting.FurtherPhrase else if s.after_node then awaiting.PhraseAfterNode else awaiting.Phrase

abbrev pub body_of : Option Inner → Slot → Tokens → Read Body
body_of o slots.Nothing ts = read_as plain ts
body_of o slots.Number ts = expect sorts.Number awaiting.Other ts >>= λ t. read_as (valued (leaf t.0)) t.1
body_of o slots.Set ts = climb of_union (unary o) ts >>= λ x. read_as (valued x.0) x.1
body_of o slots.Sum ts = climb of_sum (unary o) ts >>= λ x. read_as (valued x.0) x.1
body_of o slots.Value ts = wide o of_union ts >>= λ x. read_as (valued x.0) x.1
body_of o slots.Node ts = expect sorts.Name awaiting.Other ts >>= λ n. named_at o n.0 n.1 >>= λ x. read_as (valued x.0) x.1
body_of o slots.Price ts = expect sorts.Name awaiting.Objective ts >>= λ n. climb of_sum (unary o) n.1 >>= λ x. read_as (priced n.0 x.0) x.1

-- after the keyword
abbrev pub phrase_of_slot : Option Inner → Option Token → Token → Stood → Option Slot → Tokens → Read (Phrase × Stood)
phrase_of_slot o c w s None ts = rejected awaiting.Phrase (w ∷ ts)
phrase_of_slot o c w s (Some slot) ts = body_of o slot ts >>= λ b. read_as (record { comma = c; word = w; body = b.0 }, s) b.1

unfoldable pub worded : Option Inner → Owner → Stood → Option Token → Tokens → Read (Phrase × Stood)
worded o owner s c [] = rejected awaiting.Phrase []
worded o owner s c (w ∷ ts) =
    if stood_before owner s (role_of w)
    then rejected awaiting.FurtherPhrase (w ∷ ts)
    else phrase_of_slot o c w (and_then_stood s (role_of w)) (slot_of owner (role_of w)) ts

abbrev pub comma_taken : Tokens → Read (Option Token)
comma_taken [] = read_as None []
comma_taken (t ∷ ts) = read_as (Some t) ts

unfoldable pub comma_at : Tokens → Read (Option Token)
comma_at ts = if next_is is_comma ts then comma_taken ts else read_as None ts

unfoldable pub phrase_at : Option Inner → Owner → Stood → Tokens → Read (Phrase × Stood)
phrase_at o owner s ts = comma_at ts >>= λ c. worded o owner s c.0 c.1

-- the phrases, and which of them have occurred
unfoldable pub phrases : Option Inner → Owner → Tokens → Read (List Phrase × Stood)
phrases o owner ts = row (length ts) (phrase_at o owner) (phrase_next owner) nothing_stood ts

-- the semicolon after the phrases
unfoldable pub phrases_end : Owner → Stood → Tokens → Read Token
phrases_end owner s [] = rejected awaiting.Phrase []
phrases_end owner s (t ∷ ts) = if is_semicolon (role_of t) then read_as t ts else rejected (awaited owner s (role_of t)) (t ∷ ts)
