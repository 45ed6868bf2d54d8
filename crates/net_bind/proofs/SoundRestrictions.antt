-- Restrictions of parameters that the code checks are those that are meant.
use Rattle.std.specs.Prelude.{◌≡◌, Bool, true, false, not, [], ◌∷◌, Option, None, Some, Ok, Err, ℤ, int_lt, int_le}
use Rattle.std.proofs.Common.{refl, ap, subst}
use Rattle.net_base.specs.declared.diagnostic.Detail.{Detail}
use Rattle.net_base.specs.declared.diagnostic.Span.{Span}
use Rattle.net_base.specs.Outcomes.{Outcome, and_then}
use Rattle.net_sets.specs.declared.member.Member.{Member}
use Rattle.net_tree.specs.declared.operator.BinOp.{BinOp}
use Rattle.net_tree.specs.declared.operator.BinOp.TheVariants as op
use Rattle.net_tree.specs.declared.role.Relation.{Relation}
use Rattle.net_tree.specs.declared.role.Relation.TheVariants as relations
use Rattle.net_tree.specs.declared.role.Role.{Role}
use Rattle.net_tree.specs.declared.role.Role.TheVariants as roles
use Rattle.net_tree.specs.Erasure as erased
use Rattle.net_tree.specs.Erasure.{expression}
use Rattle.net_tree.specs.Role.{role_of}
use Rattle.net_tree.specs.Spans.{span_of}
use Rattle.net_tree.specs.Tree.{Tree, Body, plain, valued, priced, Phrase}
use Rattle.net_expr.specs.declared.value.Value.{Value}
use Rattle.net_expr.specs.declared.value.Value.TheVariants as found
use Rattle.net_expr.specs.Numbers.{number}
use Rattle.net_expr.specs.Operators.{same, belongs, apply, decided}
use Rattle.net_expr.specs.SetValues.{HasSets}
use Rattle.net_expr.specs.Values.{value}
use Rattle.net_expr.specs.Worlds.{World, Scope}
use Rattle.net_expr.proofs.Parting.{then_ok, is_ok}
use Rattle.net_bind.specs.Soundness.{RestrictionsAreSound}
use Rattle.net_bind.specs.Restrictions.{relation_as, related, holding, restricted_by, restricted_in}
use Rattle.net_expr.proofs.SetsGiven.{IsSetValue, Gives, gives}
use Rattle.net_meaning.specs.Laws.{meaning_of}
use Rattle.net_meaning.specs.Operators.{One, Truth, IsResult}
use Rattle.net_meaning.specs.OfTrees.{env_of}
use Rattle.net_meaning.specs.World as world
use Rattle.net_meaning.specs.World.{Fits, FitsBy}
use Rattle.net_meaning.proofs.Giving.{gives_ok}
use Rattle.net_meaning.proofs.Meaning.{evaluation_is_sound}
use Rattle.net_meaning.proofs.Operating.{makes}

in_order : (p q : Outcome ℤ) (h : ℤ → ℤ → Bool) → and_then p (λ a. and_then q (λ b. Ok (h a b))) ≡ Ok true → and_then p (λ a. and_then q (λ b. Ok (found.Truth (h a b)))) ≡ Ok (found.Truth true)
in_order (Ok a) (Ok b) h e = ap (λ t. Ok (found.Truth t)) (is_ok (h a b) true e)
in_order (Ok a) (Err r) h e = cc
in_order (Err r) q h e = cc

truly : (o : Outcome Bool) → o ≡ Ok true → and_then o (λ b. Ok (found.Truth b)) ≡ Ok (found.Truth true)
truly o e = ap (λ u. and_then u (λ b. Ok (found.Truth b))) e

denied : (o : Outcome Bool) → and_then o (λ b. Ok (not b)) ≡ Ok true → and_then o (λ b. Ok (found.Truth (not b))) ≡ Ok (found.Truth true)
denied (Ok b) e = ap (λ t. Ok (found.Truth t)) (is_ok (not b) true e)
denied (Err r) e = cc

by_applying : (o : BinOp) (at : Span) (m : Member) (v : Value) → IsSetValue v → decided o at (found.One m) ≡ Ok None → apply o at (found.One m) v ≡ Ok (found.Truth true) → IsResult o (One m) (meaning_of v) (Truth true)
by_applying o at m v i d e = gives_ok (λ z. IsResult o (One m) (meaning_of v) (meaning_of z)) (apply o at (found.One m) v) (found.Truth true) (makes o at (found.One m) v tt i d) e

held : (at : Span) (d : Detail) (o : Outcome Bool) → and_then o (holding at d) ≡ Ok tt → o ≡ Ok true
held at d (Ok true) e = refl
held at d (Ok false) e = cc
held at d (Err r) e = cc

-- a relation that restricts, as an operator
by_value : (w : World) → HasSets w → (s : Scope) (d : Detail) (m : Member) (r : Relation) (o : BinOp) (x : Tree) → ((v : Value) → IsSetValue v → related (span_of x) r m v ≡ Ok true → IsResult o (One m) (meaning_of v) (Truth true))
    → restricted_by w s d m (Some r) x ≡ Ok tt → FitsBy (env_of w s) m (Some o) (Some (expression x))
by_value w sets s d m r o x make e =
    then_ok (value w s x) _ tt e (λ v h i. (meaning_of v, evaluation_is_sound w s x v sets h, make v (subst Gives h (gives w sets s x)) (held (span_of x) d (related (span_of x) r m v) i)))

fits_by : (w : World) → HasSets w → (s : Scope) (d : Detail) (m : Member) (r : Role) (x : Tree) → restricted_by w s d m (relation_as r) x ≡ Ok tt → FitsBy (env_of w s) m (world.restriction_operator r) (Some (expression x))
fits_by w sets s d m (roles.Relation relations.Less) x e = by_value w sets s d m relations.Less op.Less x (λ v i k. by_applying op.Less (span_of x) m v i refl (in_order (number (span_of x) (found.One m)) (number (span_of x) v) int_lt k)) e
fits_by w sets s d m (roles.Relation relations.AtMost) x e = by_value w sets s d m relations.AtMost op.AtMost x (λ v i k. by_applying op.AtMost (span_of x) m v i refl (in_order (number (span_of x) (found.One m)) (number (span_of x) v) int_le k)) e
fits_by w sets s d m (roles.Relation relations.Greater) x e =
    by_value w sets s d m relations.Greater op.Greater x (λ v i k. by_applying op.Greater (span_of x) m v i refl (in_order (number (span_of x) (found.One m)) (number (span_of x) v) (λ a b. int_lt b a) k)) e
fits_by w sets s d m (roles.Relation relations.AtLeast) x e =
    by_value w sets s d m relations.AtLeast op.AtLeast x (λ v i k. by_applying op.AtLeast (span_of x) m v i refl (in_order (number (span_of x) (found.One m)) (number (span_of x) v) (λ a b. int_le b a) k)) e
fits_by w sets s d m (roles.Relation relations.Unequal) x e = by_value w sets s d m relations.Unequal op.Unequal x (λ v i k. by_applying op.Unequal (span_of x) m v i refl (denied (same (span_of x) (found.One m) v) k)) e
fits_by w sets s d m (roles.Relation relations.In) x e = by_value w sets s d m relations.In op.In x (λ v i k. by_applying op.In (span_of x) m v i refl (truly (belongs (span_of x) (found.One m) v) k)) e
fits_by w sets s d m (roles.Relation relations.Equal) x e = tt
fits_by w sets s d m (roles.Relation relations.Within) x e = tt
fits_by w sets s d m _ x e = tt

fits_body : (w : World) → HasSets w → (s : Scope) (d : Detail) (m : Member) (p : Phrase) (b : Body) → restricted_in w s d m p.word b ≡ Ok tt → FitsBy (env_of w s) m (world.restriction_operator (role_of p.word)) (world.expression_of (erased.body b))
fits_body w sets s d m p plain e = nothing_asked (world.restriction_operator (role_of p.word))
  where
    nothing_asked : (o : Option BinOp) → FitsBy (env_of w s) m o None
    nothing_asked None = tt
    nothing_asked (Some o) = tt
fits_body w sets s d m p (valued x) e = fits_by w sets s d m (role_of p.word) x e
fits_body w sets s d m p (priced n x) e = nothing_asked (world.restriction_operator (role_of p.word))
  where
    nothing_asked : (o : Option BinOp) → FitsBy (env_of w s) m o None
    nothing_asked None = tt
    nothing_asked (Some o) = tt

pub restrictions_are_sound : RestrictionsAreSound
restrictions_are_sound w s d m [] sets e = tt
restrictions_are_sound w s d m (p ∷ ps) sets e = then_ok (restricted_in w s d m p.word p.body) _ tt e (λ u h i. (fits_body w sets s d m p p.body h, restrictions_are_sound w s d m ps sets i))
