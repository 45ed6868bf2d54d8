-- Which dummies an indexing expression declares.
use Rattle.std.specs.Prelude.{Bool, false, Option, None, Some, is_none, if◌then◌else◌}
use Rattle.net_lex.specs.declared.token.Token.{Token}
pub use Rattle.net_tree.specs.Items.{sides}
use Rattle.net_tree.specs.Items.{single_name}
use Rattle.net_tree.specs.Tree.{Tree, tuple, Links, none, link, Braces, empty, filled}
use Rattle.net_names.specs.declared.meaning.Meaning.TheVariants as meanings
use Rattle.net_names.specs.Scopes.{NameScope, meaning_in, with_name}

abbrev pub means_nothing : NameScope → Option Token → Bool
means_nothing s None = false
means_nothing s (Some t) = is_none (meaning_in t.text s)

-- a simple name that is not declared
abbrev pub is_new : NameScope → Tree → Bool
is_new s x = means_nothing s (single_name x)

abbrev pub with_bare : NameScope → Option Token → NameScope
with_bare s None = s
with_bare s (Some t) = if is_none (meaning_in t.text s) then with_name s t meanings.Dummy else s

-- adds a simple name that is not declared as a dummy: the left side of `in`, or a component of it
abbrev pub with_component : NameScope → Tree → NameScope
with_component s x = with_bare s (single_name x)

abbrev pub with_components : NameScope → Links → NameScope
with_components s none = s
with_components s (link o x l) = with_components (with_component s x) l

abbrev pub with_left : NameScope → Tree → NameScope
with_left s (tuple o x l c) = with_components (with_component s x) l
with_left s x = with_component s x

abbrev pub with_sides : NameScope → Option (Tree × Tree) → NameScope
with_sides s None = s
with_sides s (Some p) = with_left s p.0

abbrev pub with_item : NameScope → Tree → NameScope
with_item s x = with_sides s (sides x)

abbrev pub with_items : NameScope → Links → NameScope
with_items s none = s
with_items s (link o x l) = with_items (with_item s x) l

abbrev pub with_braces : NameScope → Braces → NameScope
with_braces s (empty o p c) = s
with_braces s (filled o x l p c) = with_items (with_item s x) l

abbrev pub with_indexing : NameScope → Option Braces → NameScope
with_indexing s None = s
with_indexing s (Some b) = with_braces s b
