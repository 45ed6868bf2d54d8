-- What arithmetic on forms and references to arcs are refused for stands at the place that they are given.
use Rattle.std.specs.Prelude.{ℕ, Bool, true, false, ◌&&◌, List, [], ◌∷◌, length, nat_eq, Option, None, Some, ℤ, pos, int_div, int_rem}
use Rattle.net_base.specs.declared.diagnostic.Span.{Span}
use Rattle.net_base.specs.declared.diagnostic.Detail.{Detail}
use Rattle.net_base.specs.Outcomes.{Outcome}
use Rattle.net_sets.specs.Sets.{Tuple, place_of}
use Rattle.net_expr.specs.Limits.{is_small}
use Rattle.net_expr.specs.Numbers.{divides}
use Rattle.net_expr.specs.Worlds.{Name, key_count, reference}
use Rattle.net_linear.specs.declared.key_numbers.KeyNumbers.{KeyNumbers}
use Rattle.net_tree.specs.declared.operator.BinOp.{BinOp}
use Rattle.net_tree.specs.declared.operator.BinOp.TheVariants as joints
use Rattle.net_linear.specs.Arcs.{numbered, arc_at}
use Rattle.net_linear.specs.Forms.{Linear, Term, just, one_arc, combined, is_number, if_sized, within, sized, minus_one, times, quotient, divided, joined, join, scaled, turn}
use Rattle.net_linear.specs.Forms.{or_too_large, priced, gathered, gathered_over, total, as_form}
use Rattle.net_base.specs.Places.{Places, Finds, Model}
use Rattle.net_base.proofs.Found.{finds_then, finds_if}

module _ (P : Places) (at : Span) (h : P Model at) where
  finds_within : (t : Term) → Finds P (within at t)
  finds_within (Some f) = tt
  finds_within None = h

  pub finds_sized : (f : Linear) → Finds P (sized at f)
  finds_sized f = finds_within (if_sized f)

  finds_times : (f g : Linear) → Finds P (times at f g)
  finds_times f g =
      finds_if P (is_number f.products) _ _ (finds_sized (combined (just (pos 0)) f.constant g))
      (finds_if P (is_number g.products) _ _ (finds_sized (combined (just (pos 0)) g.constant f)) h)

  finds_quotient : (k : ℤ → ℤ → ℤ) (m n : ℤ) → Finds P (quotient at k m n)
  finds_quotient k m n = finds_if P (divides m n) _ _ (finds_sized (just (k m n))) h

  finds_divided : (k : ℤ → ℤ → ℤ) (f g : Linear) → Finds P (divided at k f g)
  finds_divided k f g = finds_if P (is_number f.products && is_number g.products) _ _ (finds_quotient k f.constant g.constant) h

  finds_joined : (j : BinOp) (f g : Linear) → Finds P (joined j at f g)
  finds_joined joints.Plus f g = finds_sized (combined f (pos 1) g)
  finds_joined joints.Minus f g = finds_sized (combined f minus_one g)
  finds_joined joints.Times f g = finds_times f g
  finds_joined joints.Div f g = finds_divided int_div f g
  finds_joined joints.Mod f g = finds_divided int_rem f g
  finds_joined _ f g = h

  pub finds_join : (j : BinOp) (t u : Term) → Finds P (join j at t u)
  finds_join j (Some f) (Some g) = finds_joined j f g
  finds_join j (Some f) None = h
  finds_join j None u = h

  finds_scaled : (k : ℤ) (f : Linear) → Finds P (scaled at k f)
  finds_scaled k f = finds_sized (combined (just (pos 0)) k f)

  pub finds_turn : (minus : Bool) (t : Term) → Finds P (turn minus at t)
  finds_turn minus None = h
  finds_turn true (Some f) = finds_scaled minus_one f
  finds_turn false (Some f) = tt

  finds_or_too_large : (t : Term) → Finds P (or_too_large at t)
  finds_or_too_large (Some f) = tt
  finds_or_too_large None = h

  pub finds_priced : (f : Linear) (arc : ℕ) (price : ℤ) → Finds P (priced at f arc price)
  finds_priced f arc price = finds_if P (is_small price) _ _ (finds_or_too_large (if_sized (combined f price (one_arc arc)))) h

  finds_gathered : (sum : Linear) (t : Term) → Finds P (gathered at sum t)
  finds_gathered sum None = h
  finds_gathered sum (Some f) = tt

  finds_gathered_over : {S : Type 0} (body : S → Outcome Term) → ((s : S) → Finds P (body s)) → (ss : List S) (sum : Linear) → Finds P (gathered_over at body ss sum)
  finds_gathered_over body k [] sum = tt
  finds_gathered_over body k (s ∷ ss) sum =
      finds_then P (body s) _ (k s) (λ u. finds_then P (gathered at sum u) (gathered_over at body ss) (finds_gathered sum u) (finds_gathered_over body k ss))

  pub finds_total : {S : Type 0} (body : S → Outcome Term) → ((s : S) → Finds P (body s)) → (ss : List S) → Finds P (total at body ss)
  finds_total body k ss = finds_then P (gathered_over at body ss (just (pos 0))) (sized at) (finds_gathered_over body k ss (just (pos 0))) finds_sized

  pub finds_as_form : (t : Term) → Finds P (as_form at t)
  finds_as_form None = h
  finds_as_form (Some f) = tt

  finds_numbered : (d : Detail) (first : ℕ) (place : Option ℕ) → Finds P (numbered at d first place)
  finds_numbered d first None = h
  finds_numbered d first (Some place) = tt

  pub finds_arc_at : (name : Name) (a : Option KeyNumbers) (key : Tuple) → Finds P (arc_at at name a key)
  finds_arc_at name None key = h
  finds_arc_at name (Some a) key =
      finds_if P (nat_eq (length key) (key_count a.count)) _ _ (finds_numbered (reference name a.count key) a.first (place_of a.keys key)) h
