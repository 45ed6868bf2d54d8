use Rattle.std.proofs.Common.{rules, ◌≡◌, ◌≤◌, ◌<◌, ◌^◌, ℤ, IsTrue, FitsSigned, w64, arith, unsigned_abs, ℕ, true}
use mir.Val.{hbits}
use Rattle.std.proofs.lemmas.Int.{fits_signed_from_abs, to_z-of_z}
use Rattle.std.proofs.lemmas.Bool.{leb-true}
use Rattle.net_expr.specs.Limits.{is_small}
use Rattle.net_expr.proofs.arithmetic.narrow.Goals as goal

small-64 : (n : ℤ) → IsTrue (is_small n) → FitsSigned w64 n
unfolding is_small
small-64 n h = fits_signed_from_abs w64 n (le_lt (unsigned_abs n) (leb-true (unsigned_abs n) 1000000000000 (is_true h)))
  where
    is_true : {b : _} → IsTrue b → b ≡ true
    is_true h = search (rules, h)

    le_lt : (m : ℕ) → m ≤ 1000000000000 → m < 2 ^ hbits w64
    le_lt m h = omega arith

pub overflow_cast-result : goal.overflow_cast-result
overflow_cast-result c = search (rules, small-64 c.args.number.now c.requires)

pub returns : goal.returns
returns c = search (rules, to_z-of_z, small-64 c.args.number.now c.requires)
