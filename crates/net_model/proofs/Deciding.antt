-- The tokens of a model are parsed, or have a first error: the parser of the definitions reads to the end and never runs out of memory.
use Rattle.std.specs.Prelude.{◌≡◌, ◌≤◌, ℕ, zero, suc, false, List, [], ◌∷◌, length, Option, None, Some, Ok, Err}
use Rattle.std.proofs.Common.{refl, ap, ◌∙◌, arith}
use Rattle.net_names.specs.Names.{names_fault}
use Rattle.net_names.specs.Reported as names
use Rattle.net_names.specs.Reported.{diagnostic_of}
use Rattle.net_tree.specs.Tree.{Declaration}
use Rattle.net_model.specs.declared.model_parser.ParseError.TheVariants as stops
use Rattle.net_model.specs.Reading.{Tokens, Read}
use Rattle.net_model.specs.Expressions.{nested}
use Rattle.net_model.specs.Rows.{row}
use Rattle.net_model.specs.Faults.{rejected_fault, deep_fault, left_of}
use Rattle.net_model.specs.Declarations.{any_left, declaration_step, model_at, nesting_limit}
use Rattle.net_model.specs.Meaning.{Means}
use Rattle.net_model.specs.Models.{unless_fault, meant_by, meant, Decided, model, rejected}
use Rattle.net_model.proofs.Tools.{bind_ok, chosen, given, on, off}
use Rattle.net_model.proofs.Longer.{put_declaration-longer}
use Rattle.net_model.proofs.ModelLaws.{step-sound}
use Rattle.net_model.proofs.Promise.{means_of, stop-within}

none_left : (ts : Tokens) → any_left ts ≡ false → ts ≡ []
none_left [] h = refl
none_left (t ∷ ts) h = cc

no_tokens : (ts : Tokens) → length ts ≤ 0 → ts ≡ []
no_tokens [] h = refl
no_tokens (t ∷ ts) h = absurd (omega (arith, h))

-- nothing is left of the tokens
row_ends : (d turns : ℕ) (s : Unit {0}) (ts : Tokens) (x : (List Declaration × Unit {0}) × Tokens) → length ts ≤ turns
    → row turns (declaration_step (nested d)) (λ s. any_left) s ts ≡ Ok x → x.1 ≡ []
row_ends d zero s ts x few h = given (λ y. y.1 ≡ []) (([], s), ts) x h (no_tokens ts few)
row_ends d (suc turns) s ts x few h =
    elim (chosen (any_left ts) _ _ _ h) [
      | on b e ↦
          let a = bind_ok _ _ _ e in
          let sa = step-sound d s ts a.value b a.first in
          let l = bind_ok _ _ _ a.after in
          let shorter : length a.value.1 ≤ turns = omega (arith, few, put_declaration-longer a.value.0.0 a.value.1, ap length sa.text) in
          let ends = row_ends d turns a.value.0.1 a.value.1 l.value shorter l.first in
          given (λ y. y.1 ≡ []) ((a.value.0.0 ∷ l.value.0.0, l.value.0.1), l.value.1) x l.after ends
      | off b e ↦ given (λ y. y.1 ≡ []) (([], s), ts) x e (none_left ts b)
    ]

model_ends : (d : ℕ) (ts : Tokens) (x : (List Declaration × Unit {0}) × Tokens) → model_at d ts ≡ Ok x → x.1 ≡ []
unfolding model_at
model_ends d ts x h = row_ends d (length ts) tt ts x (omega arith) h

by_names : (ts : Tokens) (ds : List Declaration) (o : Option names.Fault) → names_fault [] ds ≡ o → Means ts ds → meant ts ≡ unless_fault ds (names_fault [] ds) → Decided ts
by_names ts ds None h means is = model ds means (is ∙ ap (unless_fault ds) h)
by_names ts ds (Some f) h means is = rejected (diagnostic_of f) (is ∙ ap (unless_fault ds) h)

by_grammar : (ts : Tokens) (r : Read (List Declaration × Unit {0})) → model_at nesting_limit ts ≡ r → Decided ts
by_grammar ts (Ok x) h =
    let ends = model_ends nesting_limit ts x h in
    by_names ts x.0.0 (names_fault [] x.0.0) refl (means_of ts x.1 x.0.0 h ends) (ap (meant_by ts) h)
by_grammar ts (Err stops.OutOfMemory) h = absurd (stop-within ts stops.OutOfMemory h)
by_grammar ts (Err (stops.Rejected left a)) h = rejected (rejected_fault a (left_of left ts) ts) (ap (meant_by ts) h)
by_grammar ts (Err (stops.TooDeep left)) h = rejected (deep_fault (left_of left ts) ts) (ap (meant_by ts) h)

pub decided : (ts : Tokens) → Decided ts
decided ts = by_grammar ts (model_at nesting_limit ts) refl
