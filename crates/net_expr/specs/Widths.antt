-- The number of members of the keys of an indexing expression by its form alone, if it has no keys.
use Rattle.std.specs.Prelude.{ℕ, ◌+◌, min, Bool, true, false, ◌&&◌, ◌||◌, nat_le, Option, None, Some, is_some, if◌then◌else◌, Ok, pos}
use Rattle.net_base.specs.declared.diagnostic.Span.{Span}
use Rattle.net_sets.specs.declared.member.Member.{Member}
use Rattle.net_sets.specs.declared.member.Member.TheVariants.{Number}
use Rattle.net_sets.specs.Limits.{arity_limit}
use Rattle.net_tree.specs.Tree.{Tree, Links, Braces, leaf, indexed, parens, tuple, negated, braced, signed, reduced, chain, choice, net, none, link, empty, filled}
use Rattle.net_base.specs.declared.error_code.ErrorCode.TheVariants.{KindMismatch, Arity}
use Rattle.net_tree.specs.declared.operator.BinOp.{BinOp}
use Rattle.net_tree.specs.declared.operator.BinOp.TheVariants as op
use Rattle.net_expr.specs.declared.width.ItemsForm.{ItemsForm}
use Rattle.net_expr.specs.declared.world.Entry.{Entry}
use Rattle.net_expr.specs.declared.world.Entry.TheVariants.{Set}
use Rattle.net_base.specs.Outcomes.{Outcome, rejected}
use Rattle.net_expr.specs.Worlds.{Name, World, Scope, bound, entry_of, with_dummy}
use Rattle.net_tree.specs.Operations.{operation}
use Rattle.net_expr.specs.Sets.{counted}
use Rattle.net_expr.specs.Items.{sides, has_in, any_in, bare, new_dummy, size}

-- the dimension of a declared set
abbrev pub set_width : Option Entry → Option ℕ
set_width (Some (Set d ts)) = Some d
set_width _ = None

abbrev pub unless_dummy : Option Member → Option ℕ → Option ℕ
unless_dummy None d = d
unless_dummy (Some m) d = None

abbrev pub named_width : World → Scope → Option Name → Option ℕ
named_width w s None = None
named_width w s (Some name) = unless_dummy (bound s name) (set_width (entry_of w name))

-- whether an operator returns a set
abbrev pub makes_set : BinOp → Bool
makes_set op.Range = true
makes_set op.Cross = true
makes_set op.Inter = true
makes_set op.Union = true
makes_set op.Diff = true
makes_set op.Symdiff = true
makes_set _ = false

abbrev pub begin_set : Links → Bool
begin_set none = false
begin_set (link o y l) = makes_set (operation o)

-- whether a tree is a set by its form; for an `if`, its `then` branch decides
abbrev pub is_set_form : World → Scope → Tree → Bool
is_set_form w s (leaf t) = is_some (named_width w s (bare (leaf t)))
is_set_form w s (parens o x c) = is_set_form w s x
is_set_form w s (braced b) = true
is_set_form w s (chain n x l) = begin_set l
is_set_form w s (choice i x t y e) = is_set_form w s y
is_set_form w s _ = false

-- numbers of members above four are equivalent
abbrev pub capped : ℕ → ℕ
capped n = min n 5

-- the dimension of the result of two sets of the same dimension
abbrev pub of_either : Option ℕ → Option ℕ → Option ℕ
of_either None e = Some (counted e)
of_either (Some d) e = Some d

-- the dimension of the result of a set operator; none for `{}`
abbrev pub combined : BinOp → Option ℕ → Option ℕ → Option ℕ
combined op.Range d e = Some 1
combined op.Cross d e = Some (capped (counted d + counted e))
combined op.Inter d e = of_either d e
combined op.Union d e = of_either d e
combined op.Diff d e = of_either d e
combined op.Symdiff d e = of_either d e
combined _ d e = d

abbrev pub or_one : Option ℕ → Option ℕ
or_one None = Some 1
or_one (Some d) = Some d

-- before the first item
abbrev pub begin : Scope → ItemsForm
begin s = record { scope = s; count = 0; indexes = true }

-- a new dummy is in scope from now on, bound to an arbitrary member, and is a member of the key
abbrev pub with_new : ItemsForm → Option Name → ItemsForm
with_new f None = f
with_new f (Some name) = record { scope = with_dummy name (Number (pos 0)) f.scope; count = capped (f.count + 1); indexes = f.indexes }

abbrev pub with_component : World → ItemsForm → Tree → ItemsForm
with_component w f x = with_new f (new_dummy w f.scope x)

abbrev pub with_components : World → ItemsForm → Links → ItemsForm
with_components w f none = f
with_components w f (link o x l) = with_components w (with_component w f x) l

-- the left side of `in`
abbrev pub with_left : World → ItemsForm → Tree → ItemsForm
with_left w f (tuple o x l c) = with_components w (with_component w f x) l
with_left w f x = with_component w f x

-- an item that is a set of this dimension by its form, or not a set
abbrev pub with_plain : ItemsForm → Option ℕ → Bool → ItemsForm
with_plain f d is_set = record { scope = f.scope; count = capped (f.count + counted d); indexes = f.indexes && is_set }

abbrev pub with_sides : World → ItemsForm → Option (Tree × Tree) → Option ℕ → Bool → ItemsForm
with_sides w f None d is_set = with_plain f d is_set
with_sides w f (Some p) d is_set = with_left w f p.0

abbrev mutual
  -- the dimension of a set by its form, none for `{}`; other trees count as one member
  pub width : World → Scope → Tree → Option ℕ
  width w s (leaf t) = or_one (named_width w s (bare (leaf t)))
  width w s (parens o x c) = width w s x
  width w s (tuple o x l c) = Some (capped (1 + size l))
  width w s (braced b) = braces_width w s b
  width w s (chain n x l) = chain_width w s (width w s x) l
  width w s (choice i x t y e) = width w s y
  width w s (indexed n o x l c) = Some 1
  width w s (negated n o x c) = Some 1
  width w s (signed t x) = Some 1
  width w s (reduced r b x) = Some 1
  width w s (net t u) = Some 1

  pub chain_width : World → Scope → Option ℕ → Links → Option ℕ
  chain_width w s d none = d
  chain_width w s d (link o x l) = chain_width w s (combined (operation o) d (width w s x)) l

  pub braces_width : World → Scope → Braces → Option ℕ
  braces_width w s (empty o p c) = None
  braces_width w s (filled o i is p c) =
      if has_in i || any_in is || is_set_form w s i
      then Some (with_items w (with_sides w (begin s) (sides i) (width w s i) (is_set_form w s i)) is).count
      else width w s i

  -- further items
  pub with_items : World → ItemsForm → Links → ItemsForm
  with_items w f none = f
  with_items w f (link o i is) = with_items w (with_sides w f (sides i) (width w f.scope i) (is_set_form w f.scope i)) is

-- braces with these items
abbrev pub items_width : World → Scope → Tree → Links → Option ℕ
items_width w s i is =
    if has_in i || any_in is || is_set_form w s i
    then Some (with_items w (with_sides w (begin s) (sides i) (width w s i) (is_set_form w s i)) is).count
    else width w s i

abbrev pub with_item : World → ItemsForm → Tree → ItemsForm
with_item w f i = with_sides w f (sides i) (width w f.scope i) (is_set_form w f.scope i)

-- the number of members of keys by the form of the items, which must all be sets
abbrev pub width_of_form : Span → ItemsForm → Outcome ℕ
width_of_form at f =
    if f.indexes then (if nat_le f.count arity_limit then Ok f.count else rejected Arity at) else rejected KindMismatch at

abbrev pub width_by_form : Span → World → Scope → Tree → Links → Outcome ℕ
width_by_form at w s i is = width_of_form at (with_items w (with_item w (begin s) i) is)
