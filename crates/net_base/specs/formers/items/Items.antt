-- How a list is stored, so that a type can contain a list of itself: contracts see the list of the
-- vector's elements, in order.
use mathlib.Core.Path.{◌≡◌, refl, sym}
use mathlib.Core.List.{List, []}
use mathlib.Core.Former.{Former, this, list, via, children}
use base.Stored.{code_map}
use denote.RattleType.{RattleType}
use denote.HoleLaws.{Alike}
use denote.HolePlaces.{Recodes, struct_places, laid}
use denote.Hole.Carrier.{listed, list-listed}
use denote.Hole.Fix.{over}
use denote.Param.Weighed.{Weighed, w_list}
use denote.Model.Placed.{view_places}
use Rattle.std.specs.formers.vec.Vec as vector
use Rattle.std.specs.declared.alloc.Global.{Global}
use Rattle.std.specs.contracts.alloc.Global as allocator
use Rattle.std.specs.contracts.impls.GlobalAllocator.TheImpl as allocating
use Rattle.net_base.specs.declared.items.Items.TheInside.{Inside}
use Rattle.net_base.specs.declared.items.Items.TheView as seen
use Rattle.net_base.specs.contracts.items.Items as whole
use Rattle.net_base.specs.contracts.items.Items.TheInside as inside

-- the values inside are exactly the elements of the list
abbrev pub the_former : Former {0} → Former {0}
the_former element = list element

abbrev pub the_weighed : {element : Former {0}} → Weighed element → Weighed (the_former element)
the_weighed weighed = w_list weighed

pub the_empty : List ⊥
the_empty = []

abbrev pub the_items : (Element : Type 0) → List Element → List Element
the_items Element elements = elements

pub the_items_listed : (Element : Type 0) (elements : List Element) → listed _ (children (the_former this) Element elements) ≡ the_items Element elements
the_items_listed Element elements = list-listed Element elements

-- the only field, a vector
abbrev kept : Former {0}
kept = via (vector.the_former this Global) Inside (λ Element stored. stored.items) (λ Element items. record { items = items }) (λ Element stored. refl) (λ Element items. refl)

pub the_places : (Here There : RattleType) (change : Here.Denot → There.Denot) → Alike Here There change → Alike (whole.the_row Here) (whole.the_row There) ((the_former this).map Here.Denot There.Denot change)
the_places Here There change alike =
    let elements = vector.the_places allocator.the_row allocating.ghosts Here There change alike in
    view_places kept (list this) seen.view (λ X Y k u. refl) (λ X u. refl) Here.Denot There.Denot change (whole.the_row Here).coded (whole.the_row There).coded
    (seen.invariant Here.Denot) (seen.invariant There.Denot) (λ u p q. refl) (λ u p q. refl) (λ u e. tt) (λ u e. tt)
    (over (inside.the_row Here)) (over (inside.the_row There))
    (struct_places (inside.the_type Here) (inside.the_type There) (vector.mapped change, tt) _ (λ d. refl) refl (laid _ _ _ elements, tt))

pub the_codes_placed : (Here There : RattleType) (change : Here.Denot → There.Denot) → Recodes Here There change → Recodes (whole.the_row Here) (whole.the_row There) ((the_former this).map Here.Denot There.Denot change)
the_codes_placed Here There change same elements = sym (code_map Here.coded.code There.coded.code change (λ x. sym (same x)) elements)
