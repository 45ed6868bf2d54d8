-- What is answered of a part is what is answered of the whole, where the whole is that part.
use Rattle.std.specs.Prelude.{◌≡◌, true, false, Option, Some, Result, ℤ}
use Rattle.std.proofs.Common.{sym, subst}
use Rattle.net_base.specs.declared.diagnostic.Span.{Span}
use Rattle.net_base.specs.declared.diagnostic.Fault.{Fault}
use Rattle.net_base.specs.Outcomes.{Refines}
use Rattle.net_linear.specs.Forms.{Linear, Term, is_number, just, sized, scaled, times}
use Rattle.net_linear.specs.Objectives.{plain_term}

pub plain_number : (at : Span) (o : Option ℤ) (n : ℤ) (r : Result Term Fault) → o ≡ Some n → Refines (sized at (just n)) r → Refines (plain_term at o) r
plain_number at o n r is h = subst (λ k. Refines (plain_term at k) r) (sym is) h

pub times_left : (at : Span) (f g : Linear) (k : ℤ) (r : Result Term Fault) → is_number f.products ≡ true → k ≡ f.constant → Refines (scaled at k g) r → Refines (times at f g) r
times_left at f g k r left is h = rw left (subst (λ m. Refines (scaled at m g) r) is h)

pub times_right : (at : Span) (f g : Linear) (k : ℤ) (r : Result Term Fault) → is_number f.products ≡ false → is_number g.products ≡ true → k ≡ g.constant → Refines (scaled at k f) r
    → Refines (times at f g) r
times_right at f g k r left right is h = rw left (rw right (subst (λ m. Refines (scaled at m f) r) is h))
