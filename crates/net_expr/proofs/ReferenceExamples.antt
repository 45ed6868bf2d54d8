-- Texts of names with their keys, worked out.
use Rattle.std.specs.Prelude.{◌≡◌, true, false, [], ◌∷◌, codes}
use Rattle.std.proofs.Common.{refl}
use Rattle.net_sets.specs.declared.member.Member.TheVariants.{Name}
use Rattle.net_expr.specs.References.{reference_text}

two_members : reference_text (codes "Ship") true (Name (codes "PITT") ∷ Name (codes "NE") ∷ []) ≡ codes "Ship['PITT','NE']"
two_members = refl

quote_doubled : reference_text (codes "N") true (Name (codes "it's") ∷ []) ≡ codes "N['it''s']"
quote_doubled = refl

empty_key : reference_text (codes "N") true [] ≡ codes "N[]"
empty_key = refl

without_braces : reference_text (codes "Move") false [] ≡ codes "Move"
without_braces = refl
