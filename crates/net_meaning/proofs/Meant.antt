-- The world that is meant has the names of the code's world, in order.
use Rattle.std.specs.Prelude.{◌≡◌, ℕ, zero, suc, Bool, true, false, List, [], ◌∷◌, ◌++◌, map, take, Some, if◌then◌else◌, option_map}
use Rattle.std.specs.Str.{bytes_eq}
use Rattle.std.proofs.Common.{refl, ap, ◌∙◌}
use Rattle.net_sets.specs.Names.{named}
use Rattle.net_expr.specs.declared.world.Entry.{Entry}
use Rattle.net_expr.specs.Worlds.{Name, World, entry_of}
use Rattle.net_meaning.specs.OfTrees.{meant_entry, meant_world}

pub named_is : (w : World) (n : Name) → named (meant_world w) n ≡ option_map meant_entry (entry_of w n)
named_is [] n = refl
named_is (x ∷ w) n = go (bytes_eq x.0 n) (named_is w n)
  where
    go : (b : Bool) → named (meant_world w) n ≡ option_map meant_entry (entry_of w n) → (if b then Some (meant_entry x.1) else named (meant_world w) n) ≡ option_map meant_entry (if b then Some x.1 else entry_of w n)
    go true more = refl
    go false more = more

pub entry_named : (w : World) (n : Name) (x : Entry) → entry_of w n ≡ Some x → named (meant_world w) n ≡ Some (meant_entry x)
entry_named w n x e = named_is w n ∙ ap (option_map meant_entry) e

pub meant_with : (w : World) (n : Name) (x : Entry) → meant_world (w ++ (n, x) ∷ []) ≡ meant_world w ++ (n, meant_entry x) ∷ []
meant_with [] n x = refl
meant_with (y ∷ w) n x = ap (λ z. (y.0, meant_entry y.1) ∷ z) (meant_with w n x)

pub meant_taken : (k : ℕ) (w : World) → take k (meant_world w) ≡ meant_world (take k w)
meant_taken zero [] = refl
meant_taken zero (x ∷ w) = refl
meant_taken (suc k) [] = refl
meant_taken (suc k) (x ∷ w) = ap (λ z. (x.0, meant_entry x.1) ∷ z) (meant_taken k w)
