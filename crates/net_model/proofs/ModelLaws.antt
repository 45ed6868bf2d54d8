-- What tokens mean: what is read is printed so, and the other way round.
use Rattle.std.specs.Prelude.{◌≡◌, ◌≤◌, ◌<◌, ℕ, true, max, List, [], ◌∷◌, length, Ok}
use Rattle.std.proofs.Common.{refl, sym, ap, ◌∙◌, arith}
use Rattle.net_tree.specs.Tree.{Declaration}
use Rattle.net_tree.specs.Print.{put_declaration, print}
use Rattle.net_tree.specs.Depth.{declaration_depth, model_depth}
use Rattle.net_tree.specs.Declarations.{IsDeclaration, AreDeclarations}
use Rattle.net_model.specs.Reading.{Tokens, Read}
use Rattle.net_model.specs.Expressions.{nested}
use Rattle.net_model.specs.Declarations.{any_left, declaration_step, model_at}
use Rattle.net_model.proofs.Tools.{bind_ok, ok_is, given}
use Rattle.net_model.proofs.Longer.{put_declaration-longer}
use Rattle.net_model.proofs.TreesSound.{inside-sound}
use Rattle.net_model.proofs.RowLaws.{Chain, put_all, SoundStep, row-sound, CompleteStep, row-complete}
use Rattle.net_model.proofs.DeclarationLaws.{declaration-sound, declaration-complete}

pub record IsOne (d : ℕ) (s : Unit {0}) (x : Declaration) (after : Unit {0}) : Type 0 where
  pub level : IsDeclaration x
  pub within : declaration_depth x ≤ d

pub put_all-print : (xs : List Declaration) (r : Tokens) → r ≡ [] → put_all put_declaration xs r ≡ print xs
put_all-print [] r none = none
put_all-print (x ∷ xs) r none = ap (put_declaration x) (put_all-print xs r none)

pub step-sound : (d : ℕ) (s : Unit {0}) (ts : Tokens) (a : (Declaration × Unit {0}) × Tokens) → any_left ts ≡ true → declaration_step (nested d) s ts ≡ Ok a → SoundStep put_declaration (IsOne d) s ts a
unfolding declaration_step
step-sound d s ts a more h =
    let x = bind_ok _ _ _ h in
    let sx = declaration-sound d (nested d) (inside-sound d) ts x.value x.first in
    given (λ y. SoundStep put_declaration (IsOne d) s ts y) ((x.value.0, s), x.value.1) a x.after (record { text = sx.text; holds = record { level = sx.level; within = sx.within } })

pub chain-level : (d : ℕ) (s : Unit {0}) (xs : List Declaration) (e : Unit {0}) → Chain (IsOne d) s xs e → AreDeclarations xs × (model_depth xs ≤ d)
chain-level d s [] e steps = (tt, omega arith)
chain-level d s (x ∷ xs) e steps =
    let one = steps.1 in
    let rest = chain-level d steps.0 xs e steps.2 in
    ((one.level, rest.0), omega (arith, one.within, rest.1))

pub model-sound : (d : ℕ) (ts : Tokens) (xs : List Declaration) → model_at d ts ≡ Ok ((xs, tt), []) → (print xs ≡ ts) × AreDeclarations xs × (model_depth xs ≤ d)
unfolding model_at
model-sound d ts xs h =
    let s = row-sound put_declaration (IsOne d) (declaration_step (nested d)) (λ s. any_left) (step-sound d) (length ts) tt ts ((xs, tt), []) h in
    let level = chain-level d tt xs tt s.chain in
    (sym (put_all-print xs [] refl) ∙ sym s.text, level.0, level.1)

-- whatever is left, the declarations that were read are printed before it
pub model-begins : (d : ℕ) (ts : Tokens) (r : (List Declaration × Unit {0}) × Tokens) → model_at d ts ≡ Ok r → put_all put_declaration r.0.0 r.1 ≡ ts
unfolding model_at
model-begins d ts r h = sym (row-sound put_declaration (IsOne d) (declaration_step (nested d)) (λ s. any_left) (step-sound d) (length ts) tt ts r h).text

any-left : (ts r : Tokens) → length r < length ts → any_left ts ≡ true
any-left [] r h = absurd (omega arith)
any-left (t ∷ ts) r h = refl

model_step : (d : ℕ) → CompleteStep put_declaration (IsOne d) (λ ts. Unit {0}) (declaration_step (nested d)) (λ s. any_left)
unfolding declaration_step
model_step d = record {
  longer = put_declaration-longer;
  goes = λ s x m r one. any-left (put_declaration x r) r (put_declaration-longer x r);
  lets = λ s x m r one. tt;
  reads = λ s x m r one ends. rw (declaration-complete d x r one.level one.within) refl;
}

steps_of : (d : ℕ) (xs : List Declaration) → AreDeclarations xs → model_depth xs ≤ d → Chain (IsOne d) tt xs tt
steps_of d [] are deep = refl
steps_of d (x ∷ xs) are deep = (tt, record { level = are.0; within = omega (arith, deep) }, steps_of d xs are.1 (omega (arith, deep)))

pub model-complete : (d : ℕ) (xs : List Declaration) → AreDeclarations xs → model_depth xs ≤ d → model_at d (print xs) ≡ Ok ((xs, tt), [])
unfolding model_at
model-complete d xs are deep =
    let text = put_all-print xs [] refl in
    let read = row-complete put_declaration (IsOne d) (λ ts. Unit {0}) (declaration_step (nested d)) (λ s. any_left) (model_step d) (length (put_all put_declaration xs [])) tt xs tt []
    (omega arith) (steps_of d xs are deep) tt refl in
    rw text at read

-- no two models that are as the grammar wants print the same tokens
pub one_model : (xs ys : List Declaration) → AreDeclarations xs → AreDeclarations ys → print xs ≡ print ys → xs ≡ ys
one_model xs ys are others same =
    let d = max (model_depth xs) (model_depth ys) in
    let x : model_at d (print xs) ≡ Ok ((xs, tt), []) = model-complete d xs are (omega arith) in
    let y : model_at d (print ys) ≡ Ok ((ys, tt), []) = model-complete d ys others (omega arith) in
    ok_models xs ys (sym x ∙ ap (model_at d) same ∙ y)
  where
    ok_models : (xs ys : List Declaration) → (let r : Read (List Declaration × Unit {0}) = Ok ((xs, tt), []) in r ≡ Ok ((ys, tt), [])) → xs ≡ ys
    ok_models xs ys h = ap (λ (r : (List Declaration × Unit {0}) × Tokens). r.0.0) (ok_is _ _ h)
