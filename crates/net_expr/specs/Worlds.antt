-- The meaning of names: the declared sets and parameters that are visible, and the dummies in
-- scope.
use Rattle.std.specs.Prelude.{ℕ, Bool, true, false, ◌||◌, List, [], ◌∷◌, length, nat_eq, Option, None, Some, is_some, if◌then◌else◌, Ok}
use Rattle.std.specs.Str.{bytes_eq}
use Rattle.net_base.specs.declared.diagnostic.Span.{Span}
use Rattle.net_sets.specs.declared.member.Member.{Member}
use Rattle.net_sets.specs.Names.{named}
use Rattle.net_sets.specs.Sets.{Tuple, has, at_key}
use Rattle.net_base.specs.declared.error_code.ErrorCode.TheVariants.{NoValue, OutsideSet, KindMismatch, Arity}
use Rattle.net_base.specs.declared.diagnostic.Detail.{Detail}
use Rattle.net_base.specs.declared.diagnostic.Detail.TheVariants.{Reported}
use Rattle.net_expr.specs.declared.value.Value.{Value}
use Rattle.net_expr.specs.declared.value.Value.TheVariants.{One, Many}
use Rattle.net_expr.specs.declared.world.Entry.{Entry}
use Rattle.net_expr.specs.declared.world.Entry.TheVariants.{Set, Parameter}
use Rattle.net_expr.specs.declared.scope.Binding.{Binding}
use Rattle.net_base.specs.Outcomes.{Outcome, rejected, rejected_of}
use Rattle.net_expr.specs.References.{reference_text}

abbrev pub Name : Type 0
Name = List ℕ

-- the sets and parameters that an expression can refer to, in order of declaration
abbrev pub World : Type 0
World = List (Name × Entry)

abbrev pub entry_of : World → Name → Option Entry
entry_of w name = named w name

-- the dummies, innermost first
abbrev pub Scope : Type 0
Scope = List Binding

abbrev pub bound : Scope → Name → Option Member
bound [] name = None
bound (b ∷ s) name = if bytes_eq b.name name then Some b.member else bound s name

abbrev pub with_dummy : Name → Member → Scope → Scope
with_dummy name m s = (record { name = name; member = m }) ∷ s

-- a name that is declared or a dummy in scope
abbrev pub is_known : World → Scope → Name → Bool
is_known w s name = is_some (bound s name) || is_some (entry_of w name)

-- the number of subscripts of a parameter
abbrev pub key_count : Option ℕ → ℕ
key_count None = 0
key_count (Some n) = n

-- a parameter with its key, as errors report it
abbrev pub reference : Name → Option ℕ → Tuple → Detail
reference name count key = Reported (reference_text name (is_some count) key)

-- the error for a key without a value: NoValue if the index set contains the key, else OutsideSet
abbrev pub missing : Span → Detail → Bool → Outcome Value
missing at d true = rejected_of NoValue at d
missing at d false = rejected_of OutsideSet at d

-- the value of a parameter at a key, if it has one; `listed` says whether its index set contains
-- the key
abbrev pub value_at : Span → Detail → Option Member → Bool → Outcome Value
value_at at d (Some m) listed = Ok (One m)
value_at at d None listed = missing at d listed

-- the value of a declared name at its subscripts
abbrev pub entry_at : Span → Name → Option Entry → Tuple → Outcome Value
entry_at at name None key = rejected KindMismatch at
entry_at at name (Some (Set d ts)) [] = Ok (Many (Some d) ts)
entry_at at name (Some (Set d ts)) (m ∷ ms) = rejected Arity at
entry_at at name (Some (Parameter n keys values)) key =
    if nat_eq (length key) (key_count n) then value_at at (reference name n key) (at_key values key) (has keys key) else rejected Arity at

-- the value of a name at its subscripts; a dummy has none
abbrev pub name_at : Span → World → Name → Option Member → Tuple → Outcome Value
name_at at w name None key = entry_at at name (entry_of w name) key
name_at at w name (Some m) [] = Ok (One m)
name_at at w name (Some m) (k ∷ ks) = rejected Arity at
