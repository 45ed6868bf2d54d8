-- Each `obj` phrase names an objective of the model.
use Rattle.std.specs.Prelude.{◌≡◌, ◌||◌, ◌+◌, ℕ, Bool, true, false, List, [], ◌∷◌, map, take, if◌then◌else◌}
use Rattle.std.specs.List.{AllByRecursion, list_any}
use Rattle.std.specs.Str.{bytes_eq}
use Rattle.std.proofs.Common.{refl, ap, inl, inr}
use Rattle.std.proofs.lemmas.Slice.Eq.{bytes_eq-Decides}
use Rattle.net_normal.specs.declared.instance.Sense.TheVariants.{Minimise, Maximise}
use Rattle.net_tree.specs.Erasure.{body, clause, phrase, declarations}
use Rattle.net_tree.specs.Operations.{is_minimize}
use Rattle.net_tree.specs.Syntax as forms
use Rattle.net_tree.specs.Tree.{Body, plain, valued, priced, Phrase, Declaration, set, param, check, node, arc, objective}
use Rattle.net_expr.specs.Worlds.{Name}
use Rattle.net_meaning.specs.Network.{Objective, objectives, IsPriced, ArePriced}
use Rattle.net_meaning.specs.Values.{World}
use Rattle.net_inst.specs.Soundness.{IsListed, NamesObjective, NameObjectives}

-- one of the objectives has this name
abbrev IsOneOf : List Objective → Name → Type 0
IsOneOf os n = list_any (λ (o : Objective). bytes_eq o.name n) os ≡ true

is_first : (o : Objective) (os : List Objective) (n : Name) → o.name ≡ n → IsOneOf (o ∷ os) n
is_first o os n e = ap (λ b. b || list_any (λ (p : Objective). bytes_eq p.name n) os) ((bytes_eq-Decides o.name n).1 e)

is_later : (o : Objective) (os : List Objective) (n : Name) → IsOneOf os n → IsOneOf (o ∷ os) n
is_later o os n h = go (bytes_eq o.name n)
  where
    go : (b : Bool) → (b || list_any (λ (p : Objective). bytes_eq p.name n) os) ≡ true
    go true = refl
    go false = h

module _ (all : List Objective) where
  phrases_priced : (before : List Name) → ((n : Name) → IsListed before n → IsOneOf all n) → (ps : List Phrase) → AllByRecursion (λ (p : Phrase). NamesObjective before p.body) ps → AllByRecursion (λ (p : forms.Phrase). IsPriced all p.body) (map phrase ps)
  phrases_priced before f [] h = tt
  phrases_priced before f (p ∷ ps) h = (go p.body h.0, phrases_priced before f ps h.1)
    where
      go : (b : Body) → NamesObjective before b → IsPriced all (body b)
      go (priced n x) k = f n.text k
      go plain k = tt
      go (valued x) k = tt

  each_priced : (w : World) (k : ℕ) (arcs before : List Name) (ds : List Declaration) → ((n : Name) → IsListed before n → IsOneOf all n) → ((n : Name) → IsOneOf (objectives w k arcs (declarations ds)) n → IsOneOf all n) → NameObjectives before ds
      → AllByRecursion (ArePriced all) (declarations ds)
  each_priced w k arcs before [] f g h = tt
  each_priced w k arcs before (set t n ps e ∷ ds) f g h = (tt, each_priced w (k + 1) arcs before ds f g h)
  each_priced w k arcs before (param t n b ps e ∷ ds) f g h = (tt, each_priced w (k + 1) arcs before ds f g h)
  each_priced w k arcs before (check t b m x e ∷ ds) f g h = (tt, each_priced w k arcs before ds f g h)
  each_priced w k arcs before (node t n b c e ∷ ds) f g h = (tt, each_priced w k arcs before ds f g h)
  each_priced w k arcs before (arc t n b ps e ∷ ds) f g h = (phrases_priced before f ps h.0, each_priced w k (n.text ∷ arcs) before ds f g h.1)
  each_priced w k arcs before (objective t n p e ∷ ds) f g h = (tt, each_priced w k arcs (n.text ∷ before) ds named (λ m l. g m (is_later own (objectives w k arcs (declarations ds)) m l)) h)
    where
      own : Objective
      own = record { sense = if is_minimize t then Minimise else Maximise; name = n.text; env = take k w; arcs = arcs; expression = clause p }

      named : (m : Name) → IsListed (n.text ∷ before) m → IsOneOf all m
      named m (inl e) = g m (is_first own (objectives w k arcs (declarations ds)) m e)
      named m (inr l) = f m l

pub all_priced : (w : World) (ds : List Declaration) → NameObjectives [] ds → AllByRecursion (ArePriced (objectives w 0 [] (declarations ds))) (declarations ds)
all_priced w ds h = each_priced (objectives w 0 [] (declarations ds)) w 0 [] [] ds (λ m l. absurd l) (λ m l. l) h
