-- How a box is stored, so that a type can contain a box of itself: contracts see only the value,
-- not the address of the block.
use mathlib.Core.Path.{refl}
use mathlib.Core.Former.{Former, this, const, pair, via}
use base.Stored.{gnil}
use base.Fml.{ftrue}
use denote.RattleType.{RattleType}
use denote.Memory.{part_of}
use denote.RawPtr.{Ptr}
use denote.Sharing.{nothing}
use denote.HoleLaws.{Alike}
use denote.HolePlaces.{Recodes, struct_places, laid, one_value}
use denote.Hole.Fix.{over}
use denote.Param.Weighed.{Weighed}
use denote.Model.Placed.{view_places}
use Rattle.std.specs.declared.boxed.Box.{Box}
use Rattle.std.specs.contracts.boxed.Box as block
use Rattle.std.specs.declared.alloc.Global.{Global}
use Rattle.std.specs.contracts.alloc.Global as allocator
use Rattle.std.specs.contracts.impls.GlobalAllocator.TheImpl as allocating
use Rattle.net_base.specs.declared.boxed.Boxed.TheInside.{Inside}
use Rattle.net_base.specs.declared.boxed.Boxed.TheView as seen
use Rattle.net_base.specs.contracts.boxed.Boxed as whole
use Rattle.net_base.specs.contracts.boxed.Boxed.TheInside as inside

-- the former maps a type to itself: the box holds one value
abbrev pub the_former : Former {0} → Former {0}
the_former value = value

abbrev pub the_weighed : {value : Former {0}} → Weighed value → Weighed (the_former value)
the_weighed weighed = weighed

-- the same block with another value
abbrev refilled : {Old New : Type 0} → Box Old Global → New → Box New Global
refilled old value = record { ptr = old.ptr; alloc = old.alloc; value = value }

abbrev kept : Former {0}
kept = via (pair (const (Ptr × Global)) this) Inside
    (λ Value stored. let held = stored.inner in ((held.ptr, held.alloc), held.value))
    (λ Value parts. record { inner = record { ptr = parts.0.0; alloc = parts.0.1; value = parts.1 } })
    (λ Value stored. refl) (λ Value parts. refl)

abbrev block_of : RattleType → RattleType
block_of Value = block.the_row Value allocator.the_row allocating.ghosts

block_places : (Here There : RattleType) (change : Here.Denot → There.Denot) → Alike Here There change → Alike (block_of Here) (block_of There) (λ held. refilled held (change held.value))
unfolding part_of
block_places Here There change alike = record {
  mir_same = λ i. (block_of (one_value Here (alike.mir_same i) (λ _. ftrue) (λ _ _. nothing) gnil)).mir;
  own_same = λ held i. (block_of (one_value Here (alike.mir_same i) (alike.own_same held.value i) (alike.shr_same held.value i) gnil)).own_val (refilled held tt);
  shr_same = λ held i. (block_of (one_value Here (alike.mir_same i) (alike.own_same held.value i) (alike.shr_same held.value i) gnil)).shr_at (refilled held tt);
}

pub the_places : (Here There : RattleType) (change : Here.Denot → There.Denot) → Alike Here There change → Alike (whole.the_row Here) (whole.the_row There) ((the_former this).map Here.Denot There.Denot change)
the_places Here There change alike =
    let held = block_places Here There change alike in
    view_places kept this seen.view (λ X Y k u. refl) (λ X u. refl) Here.Denot There.Denot change (whole.the_row Here).coded (whole.the_row There).coded
    (seen.invariant Here.Denot) (seen.invariant There.Denot) (λ u p q. refl) (λ u p q. refl) (λ u e. tt) (λ u e. tt)
    (over (inside.the_row Here)) (over (inside.the_row There))
    (struct_places (inside.the_type Here) (inside.the_type There) ((λ b. refilled b (change b.value)), tt) _ (λ d. refl) refl (laid _ _ _ held, tt))

pub the_codes_placed : (Here There : RattleType) (change : Here.Denot → There.Denot) → Recodes Here There change → Recodes (whole.the_row Here) (whole.the_row There) ((the_former this).map Here.Denot There.Denot change)
the_codes_placed Here There change same value = same value
