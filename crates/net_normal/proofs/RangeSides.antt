-- What the completed sides of a node's range allow, among the net inflows that the arcs' bounds leave.
use Rattle.std.proofs.Common.{◌≡◌, false, ◌||◌, Option, Some, None, ℤ, ◌≤ℤ◌, IsTrue, is_some, refl, arith}
use Rattle.std.proofs.lemmas.Int.{ints, clamps}
use Rattle.std.specs.Option.{ForSome}
use Rattle.net_normal.specs.NormalForm.{low_side, high_side, is_open}

-- the given sides hold, so the completed ones do
pub within_sides : (low high : Option ℤ) (least most x : ℤ) → IsTrue (is_some low || is_some high) → ForSome low (λ l. l ≤ℤ x) → ForSome high (λ h. x ≤ℤ h) → least ≤ℤ x → x ≤ℤ most → (low_side low high least ≤ℤ x) × (x ≤ℤ high_side low high most)
within_sides (Some l) (Some h) least most x given below above from upto = (below l refl, above h refl)
within_sides (Some l) None least most x given below above from upto = (below l refl, omega (arith, ints, clamps))
within_sides None (Some h) least most x given below above from upto = (omega (arith, ints, clamps), above h refl)
within_sides None None least most x given below above from upto = (from, upto)

-- the completed sides hold, so the given ones do
pub from_low_side : (low high : Option ℤ) (least x : ℤ) → low_side low high least ≤ℤ x → ForSome low (λ l. l ≤ℤ x)
from_low_side (Some l) high least x h = λ m e. let same : l ≡ m = cc in omega (arith, ints)
from_low_side None high least x h = λ m e. cc

pub from_high_side : (low high : Option ℤ) (most x : ℤ) → x ≤ℤ high_side low high most → ForSome high (λ h. x ≤ℤ h)
from_high_side low (Some h) most x k = λ m e. let same : h ≡ m = cc in omega (arith, ints)
from_high_side low None most x k = λ m e. cc

-- a closed range has one number
pub closed_sides : (low high : Option ℤ) (least most : ℤ) → ForSome low (λ l. ForSome high (λ h. l ≤ℤ h)) → is_open low high ≡ false → low_side low high least ≡ high_side low high most
closed_sides (Some l) (Some h) least most ordered closed = let in_order : l ≤ℤ h = ordered l refl h refl in grind (arith, ints)
closed_sides (Some l) None least most ordered closed = cc
closed_sides None high least most ordered closed = cc

-- the low side is at most the high one
pub sides-ordered : (low high : Option ℤ) (least most : ℤ) → ForSome low (λ l. ForSome high (λ h. l ≤ℤ h)) → least ≤ℤ most → low_side low high least ≤ℤ high_side low high most
sides-ordered (Some l) (Some h) least most ordered fit = ordered l refl h refl
sides-ordered (Some l) None least most ordered fit = omega (arith, ints, clamps)
sides-ordered None (Some h) least most ordered fit = omega (arith, ints, clamps)
sides-ordered None None least most ordered fit = fit
