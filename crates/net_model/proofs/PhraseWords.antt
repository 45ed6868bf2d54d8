-- Which words begin phrases, and which of them once only.
use Rattle.std.specs.Prelude.{◌≡◌, ◌<◌, Bool, true, false, cond, Option, Some, is_some}
use Rattle.std.proofs.Common.{refl, ap, arith, subst}
use Rattle.net_tree.specs.declared.role.Begins.TheVariants as begins
use Rattle.net_tree.specs.declared.role.Relation.TheVariants as relations
use Rattle.net_tree.specs.declared.role.Role.{Role}
use Rattle.net_tree.specs.declared.role.Role.TheVariants as roles
use Rattle.net_tree.specs.Role.{is_comma, is_else, is_semicolon}
use Rattle.net_tree.specs.Tree.{Body}
use Rattle.net_tree.specs.Phrases.{OfSet, OfParam, OfArc, is_dimen, is_default, is_becomes, is_at_least, is_at_most, is_from, is_to}
use Rattle.net_model.specs.declared.phrases.Owner.{Owner}
use Rattle.net_model.specs.declared.phrases.Owner.TheVariants as owners
use Rattle.net_model.specs.declared.phrases.Slot.{Slot}
use Rattle.net_model.specs.declared.phrases.Slot.TheVariants as slots
use Rattle.net_model.specs.declared.phrases.Stood.{Stood}
use Rattle.net_model.specs.Phrases.{set_slot, param_slot, arc_slot, slot_of, stood_before, and_then_stood, goes_on}
use Rattle.net_model.proofs.Grips.{grip}
use Rattle.net_model.proofs.BodyLaws.{BodyOf}

-- what follows a word in each declaration
abbrev pub Of : Owner → Role → Body → Type 0
Of owners.Set = OfSet
Of owners.Param = OfParam
Of owners.Arc = OfArc

moved : (s t : Slot) (b : Body) → (let o : Option Slot = Some s in o ≡ Some t) → BodyOf t b → BodyOf s b
moved s t b h body = let same : t ≡ s = cc in let P : Slot → Type 0 = λ u. BodyOf u b in subst P same body

set-body : (r : Role) (s : Slot) (b : Body) → set_slot r ≡ Some s → BodyOf s b → OfSet r b
set-body (roles.Phrase begins.Dimen) s b h body = moved slots.Number s b h body
set-body (roles.Relation relations.Within) s b h body = moved slots.Set s b h body
set-body roles.Becomes s b h body = moved slots.Value s b h body
set-body _ s b h body = absurd (cc)

param-body : (r : Role) (s : Slot) (b : Body) → param_slot r ≡ Some s → BodyOf s b → OfParam r b
param-body (roles.Phrase begins.Symbolic) s b h body = moved slots.Nothing s b h body
param-body (roles.Phrase begins.Integer) s b h body = moved slots.Nothing s b h body
param-body (roles.Relation relations.AtMost) s b h body = moved slots.Sum s b h body
param-body (roles.Relation relations.AtLeast) s b h body = moved slots.Sum s b h body
param-body (roles.Relation relations.Less) s b h body = moved slots.Sum s b h body
param-body (roles.Relation relations.Greater) s b h body = moved slots.Sum s b h body
param-body (roles.Relation relations.Unequal) s b h body = moved slots.Sum s b h body
param-body (roles.Relation relations.In) s b h body = moved slots.Set s b h body
param-body (roles.Phrase begins.Default) s b h body = moved slots.Value s b h body
param-body roles.Becomes s b h body = moved slots.Value s b h body
param-body _ s b h body = absurd (cc)

arc-body : (r : Role) (s : Slot) (b : Body) → arc_slot r ≡ Some s → BodyOf s b → OfArc r b
arc-body (roles.Relation relations.AtMost) s b h body = moved slots.Sum s b h body
arc-body (roles.Relation relations.AtLeast) s b h body = moved slots.Sum s b h body
arc-body (roles.Phrase begins.Integer) s b h body = moved slots.Nothing s b h body
arc-body (roles.Phrase begins.From) s b h body = moved slots.Node s b h body
arc-body (roles.Phrase begins.To) s b h body = moved slots.Node s b h body
arc-body (roles.Phrase begins.Obj) s b h body = moved slots.Price s b h body
arc-body _ s b h body = absurd (cc)

pub slot-body : (o : Owner) (r : Role) (s : Slot) (b : Body) → slot_of o r ≡ Some s → BodyOf s b → Of o r b
slot-body owners.Set r s b h body = set-body r s b h body
slot-body owners.Param r s b h body = param-body r s b h body
slot-body owners.Arc r s b h body = arc-body r s b h body

-- and the slot of a word with what follows it
abbrev HasSlot : (Role → Option Slot) → Role → Body → Type 0
HasSlot slot r b = (s : Slot) × (slot r ≡ Some s) × BodyOf s b

set-has : (r : Role) (b : Body) → OfSet r b → HasSlot set_slot r b
set-has (roles.Phrase begins.Dimen) b h = (slots.Number, refl, h)
set-has (roles.Relation relations.Within) b h = (slots.Set, refl, h)
set-has roles.Becomes b h = (slots.Value, refl, h)
set-has _ b h = absurd h

param-has : (r : Role) (b : Body) → OfParam r b → HasSlot param_slot r b
param-has (roles.Phrase begins.Symbolic) b h = (slots.Nothing, refl, h)
param-has (roles.Phrase begins.Integer) b h = (slots.Nothing, refl, h)
param-has (roles.Relation relations.AtMost) b h = (slots.Sum, refl, h)
param-has (roles.Relation relations.AtLeast) b h = (slots.Sum, refl, h)
param-has (roles.Relation relations.Less) b h = (slots.Sum, refl, h)
param-has (roles.Relation relations.Greater) b h = (slots.Sum, refl, h)
param-has (roles.Relation relations.Unequal) b h = (slots.Sum, refl, h)
param-has (roles.Relation relations.In) b h = (slots.Set, refl, h)
param-has (roles.Phrase begins.Default) b h = (slots.Value, refl, h)
param-has roles.Becomes b h = (slots.Value, refl, h)
param-has _ b h = absurd h

arc-has : (r : Role) (b : Body) → OfArc r b → HasSlot arc_slot r b
arc-has (roles.Relation relations.AtMost) b h = (slots.Sum, refl, h)
arc-has (roles.Relation relations.AtLeast) b h = (slots.Sum, refl, h)
arc-has (roles.Phrase begins.Integer) b h = (slots.Nothing, refl, h)
arc-has (roles.Phrase begins.From) b h = (slots.Node, refl, h)
arc-has (roles.Phrase begins.To) b h = (slots.Node, refl, h)
arc-has (roles.Phrase begins.Obj) b h = (slots.Price, refl, h)
arc-has _ b h = absurd h

pub has-slot : (o : Owner) (r : Role) (b : Body) → Of o r b → HasSlot (slot_of o) r b
has-slot owners.Set r b h = set-has r b h
has-slot owners.Param r b h = param-has r b h
has-slot owners.Arc r b h = arc-has r b h

-- the word of a phrase goes on with no value, and is no comma
pub record IsWord (r : Role) : Type 0 where
  pub loose : 6 < grip r
  pub no_else : is_else r ≡ false
  pub no_comma : is_comma r ≡ false

phrase-word : (r : Role) → is_some (set_slot r) ≡ true → IsWord r
phrase-word (roles.Phrase begins.Dimen) h = record { loose = omega arith; no_else = refl; no_comma = refl }
phrase-word (roles.Relation relations.Within) h = record { loose = omega arith; no_else = refl; no_comma = refl }
phrase-word roles.Becomes h = record { loose = omega arith; no_else = refl; no_comma = refl }
phrase-word _ h = absurd (cc)

param-word : (r : Role) → is_some (param_slot r) ≡ true → IsWord r
param-word (roles.Phrase b) h = record { loose = omega arith; no_else = refl; no_comma = refl }
param-word (roles.Relation q) h = record { loose = omega arith; no_else = refl; no_comma = refl }
param-word roles.Becomes h = record { loose = omega arith; no_else = refl; no_comma = refl }
param-word _ h = absurd (cc)

arc-word : (r : Role) → is_some (arc_slot r) ≡ true → IsWord r
arc-word (roles.Phrase b) h = record { loose = omega arith; no_else = refl; no_comma = refl }
arc-word (roles.Relation q) h = record { loose = omega arith; no_else = refl; no_comma = refl }
arc-word _ h = absurd (cc)

pub slot-word : (o : Owner) (r : Role) (s : Slot) → slot_of o r ≡ Some s → IsWord r
slot-word owners.Set r s h = phrase-word r (ap is_some h)
slot-word owners.Param r s h = param-word r (ap is_some h)
slot-word owners.Arc r s h = arc-word r (ap is_some h)

-- a semicolon begins no phrase
pub semicolon-over : (o : Owner) (s : Stood) (r : Role) → is_semicolon r ≡ true → goes_on o s r ≡ false
semicolon-over owners.Set s roles.Semicolon h = refl
semicolon-over owners.Param s roles.Semicolon h = refl
semicolon-over owners.Arc s roles.Semicolon h = refl
semicolon-over o s _ h = absurd (cc)

-- the words that may stand once only
pub data Single : Type 0 where
  dimen default becomes at_least at_most from to : Single

abbrev pub is_word : Single → Role → Bool
is_word dimen = is_dimen
is_word default = is_default
is_word becomes = is_becomes
is_word at_least = is_at_least
is_word at_most = is_at_most
is_word from = is_from
is_word to = is_to

abbrev pub is_single : Owner → Single → Bool
is_single owners.Set dimen = true
is_single owners.Set becomes = true
is_single owners.Param default = true
is_single owners.Param becomes = true
is_single owners.Arc at_least = true
is_single owners.Arc at_most = true
is_single owners.Arc from = true
is_single owners.Arc to = true
is_single _ _ = false

abbrev pub stood : Single → Stood → Bool
stood dimen s = s.dimen
stood default s = s.default
stood becomes s = s.becomes
stood at_least s = s.at_least
stood at_most s = s.at_most
stood from s = s.from
stood to s = s.to

pub stood-after : (f : Single) (s : Stood) (w : Role) → stood f (and_then_stood s w) ≡ cond (is_word f w) true (stood f s)
stood-after dimen s (roles.Phrase begins.Dimen) = refl
stood-after dimen s (roles.Relation relations.AtLeast) = refl
stood-after dimen s _ = refl
stood-after default s (roles.Phrase begins.Dimen) = refl
stood-after default s (roles.Relation relations.AtLeast) = refl
stood-after default s _ = refl
stood-after becomes s (roles.Phrase begins.Dimen) = refl
stood-after becomes s (roles.Relation relations.AtLeast) = refl
stood-after becomes s _ = refl
stood-after at_least s (roles.Phrase begins.Dimen) = refl
stood-after at_least s (roles.Relation relations.AtLeast) = refl
stood-after at_least s _ = refl
stood-after at_most s (roles.Phrase begins.Dimen) = refl
stood-after at_most s (roles.Relation relations.AtLeast) = refl
stood-after at_most s _ = refl
stood-after from s (roles.Phrase begins.Dimen) = refl
stood-after from s (roles.Relation relations.AtLeast) = refl
stood-after from s _ = refl
stood-after to s (roles.Phrase begins.Dimen) = refl
stood-after to s (roles.Relation relations.AtLeast) = refl
stood-after to s _ = refl

-- a word that may stand once only stood before, where it stood
pub stood-single : (o : Owner) (f : Single) (s : Stood) (r : Role) → is_single o f ≡ true → is_word f r ≡ true → stood_before o s r ≡ stood f s
stood-single o dimen s (roles.Phrase begins.Dimen) single h = refl
stood-single o default s (roles.Phrase begins.Default) single h = refl
stood-single o becomes s roles.Becomes single h = refl
stood-single owners.Arc at_least s (roles.Relation relations.AtLeast) single h = refl
stood-single owners.Arc at_most s (roles.Relation relations.AtMost) single h = refl
stood-single o from s (roles.Phrase begins.From) single h = refl
stood-single o to s (roles.Phrase begins.To) single h = refl
stood-single o f s r single h = absurd (cc)

-- a phrase's word did not stand before, where none that may stand once only did
pub fresh : (o : Owner) (r : Role) (s : Stood) → is_some (slot_of o r) ≡ true → ((f : Single) → is_single o f ≡ true → is_word f r ≡ true → stood f s ≡ false) → stood_before o s r ≡ false
fresh owners.Set (roles.Phrase begins.Dimen) s has none = none dimen refl refl
fresh owners.Set roles.Becomes s has none = none becomes refl refl
fresh owners.Set (roles.Relation relations.Within) s has none = refl
fresh owners.Set r s has none = absurd (cc)
fresh owners.Param (roles.Phrase begins.Default) s has none = none default refl refl
fresh owners.Param (roles.Phrase begins.Symbolic) s has none = refl
fresh owners.Param (roles.Phrase begins.Integer) s has none = refl
fresh owners.Param roles.Becomes s has none = none becomes refl refl
fresh owners.Param (roles.Relation relations.AtMost) s has none = refl
fresh owners.Param (roles.Relation relations.AtLeast) s has none = refl
fresh owners.Param (roles.Relation relations.Less) s has none = refl
fresh owners.Param (roles.Relation relations.Greater) s has none = refl
fresh owners.Param (roles.Relation relations.Unequal) s has none = refl
fresh owners.Param (roles.Relation relations.In) s has none = refl
fresh owners.Param r s has none = absurd (cc)
fresh owners.Arc (roles.Relation relations.AtLeast) s has none = none at_least refl refl
fresh owners.Arc (roles.Relation relations.AtMost) s has none = none at_most refl refl
fresh owners.Arc (roles.Phrase begins.From) s has none = none from refl refl
fresh owners.Arc (roles.Phrase begins.To) s has none = none to refl refl
fresh owners.Arc (roles.Phrase begins.Integer) s has none = refl
fresh owners.Arc (roles.Phrase begins.Obj) s has none = refl
fresh owners.Arc r s has none = absurd (cc)
