-- A key that is made subscript by subscript is the tuple of the values of all.
use Rattle.std.specs.Prelude.{◌≡◌, ◌+◌, ◌<◌, ◌≤◌, ℕ, zero, suc, Bool, true, false, not, ◌||◌, List, [], ◌∷◌, ◌++◌, length, get_or, drop, Option, None, Some, if◌then◌else◌, Result, Ok, Err}
use Rattle.std.proofs.Common.{refl, sym, ap, append_assoc, ◌∙◌, arith}
use Rattle.net_base.specs.declared.diagnostic.Span.{Span}
use Rattle.net_base.specs.declared.error_code.ErrorCode.TheVariants.{KindMismatch}
use Rattle.net_base.specs.declared.diagnostic.Fault.{Fault}
use Rattle.net_base.specs.declared.diagnostic.Fault.TheVariants as faults
use Rattle.net_base.specs.Outcomes.{Outcome, Refines, Yields, and_then, rejected}
use Rattle.net_sets.specs.declared.member.Member.{Member}
use Rattle.net_sets.specs.Sets.{Tuple}
use Rattle.net_tree.specs.declared.expr.LinkedOperand.{LinkedOperand, out-LinkedOperand}
use Rattle.net_tree.specs.Tree.{Tree, Links, none, link}
use Rattle.net_tree.specs.View.{tree, links_of}
use Rattle.net_tree.proofs.Views.{next_link}
use Rattle.net_expr.specs.declared.subscripts.Subscripts.{Subscripts}
use Rattle.net_expr.specs.declared.value.Value.{Value}
use Rattle.net_expr.specs.declared.value.Value.TheVariants.{One, Several, Many, Truth}
use Rattle.net_expr.specs.Items.{bare}
use Rattle.net_expr.specs.Operators.{members_after, short_enough, tuple_of}
use Rattle.net_expr.specs.Selecting.{dummy_alone}
use Rattle.net_expr.specs.Subscripts.{none_yet, has_room, with_value, so_far}
use Rattle.net_expr.specs.Values.{value, values}
use Rattle.net_expr.specs.Worlds.{Name, World, Scope}
use Rattle.net_expr.proofs.Passing.{value_alone}
use Rattle.net_expr.proofs.Walking.{and_then-assoc, and_then-same}

-- values are found behind others as they are found alone
values_after : (w : World) (s : Scope) (l : Links) (a b : List Value) → values w s l (a ++ b) ≡ and_then (values w s l b) (λ vs. Ok (a ++ vs))
values_after w s none a b = refl
values_after w s (link o x l) a b =
    and_then-same (value w s x) _ _ (λ v. ap (values w s l) (append_assoc a b (v ∷ [])) ∙ values_after w s l a (b ++ v ∷ []))
    ∙ sym (and_then-assoc (value w s x) (λ v. values w s l (b ++ v ∷ [])) (λ vs. Ok (a ++ vs)))

-- the key of those before, and of more values
abbrev pub key_from : Span → Subscripts → List Value → Outcome Tuple
key_from at f vs = and_then (so_far at f) (members_after at vs)

abbrev no_key : Span → Outcome Tuple
no_key at = rejected KindMismatch at

no_member : (at : Span) (u : Bool) (key : Option Tuple)
    → and_then (if u then rejected KindMismatch at else Ok key) (λ k. no_key at) ≡ no_key at
no_member at true key = refl
no_member at false key = refl

one_more : (at : Span) (f : Subscripts) (v : Value) (vs : List Value) → key_from at f (v ∷ vs) ≡ key_from at (with_value v f) vs
one_more at f (One m) vs = go f.unfit f.too_many (has_room f.key) refl
  where
    go : (u t b : Bool) → has_room f.key ≡ b
        → and_then (if u then rejected KindMismatch at else Ok (if t then None else Some f.key)) (members_after at (One m ∷ vs))
        ≡ and_then (if u then rejected KindMismatch at else Ok (if t || not b then None else Some (if b then f.key ++ m ∷ [] else f.key))) (members_after at vs)
    go true t b e = refl
    go false true b e = refl
    go false false true e = ap (λ c. members_after at vs (if c then Some (f.key ++ m ∷ []) else None)) e
    go false false false e = ap (λ c. members_after at vs (if c then Some (f.key ++ m ∷ []) else None)) e
one_more at f (Several t) vs = no_member at f.unfit (if f.too_many then None else Some f.key)
one_more at f (Many d ts) vs = no_member at f.unfit (if f.too_many then None else Some f.key)
one_more at f (Truth b) vs = no_member at f.unfit (if f.too_many then None else Some f.key)

-- what is left of the subscripts, behind those before
abbrev pub rest : Span → World → Scope → Links → Subscripts → Outcome Tuple
rest at w s l f = and_then (values w s l []) (key_from at f)

pub step : (at : Span) (w : World) (s : Scope) (x : Tree) (l : Links) (f : Subscripts)
    → and_then (and_then (value w s x) (λ v. values w s l (v ∷ []))) (key_from at f) ≡ and_then (and_then (value w s x) (λ v. Ok (with_value v f))) (rest at w s l)
step at w s x l f =
    and_then-assoc (value w s x) (λ v. values w s l (v ∷ [])) (key_from at f)
    ∙ and_then-same (value w s x) _ (λ v. rest at w s l (with_value v f)) (λ v. ap (λ o. and_then o (key_from at f)) (values_after w s l (v ∷ []) [])
    ∙ and_then-assoc (values w s l []) (λ vs. Ok (v ∷ vs)) (key_from at f)
    ∙ and_then-same (values w s l []) _ (key_from at (with_value v f)) (one_more at f v))
    ∙ sym (and_then-assoc (value w s x) (λ v. Ok (with_value v f)) (rest at w s l))

-- the subscripts from the first on
pub from_none : (at : Span) (w : World) (s : Scope) (x : Tree) (l : Links) (f : Subscripts) → f ≡ none_yet
    → and_then (and_then (value w s x) (λ v. values w s l (v ∷ []))) (tuple_of at) ≡ and_then (and_then (value w s x) (λ v. Ok (with_value v f))) (rest at w s l)
from_none at w s x l f e = step at w s x l none_yet ∙ ap (λ k. and_then (and_then (value w s x) (λ v. Ok (with_value v k))) (rest at w s l)) (sym e)

-- one subscript more
pub one-left : (at : Span) (w : World) (s : Scope) (ls : List LinkedOperand) (i : ℕ) (l : LinkedOperand) (f : Subscripts) (wanted : Outcome Tuple) → i < length ls → l ≡ get_or ls i l
    → rest at w s (links_of (drop i ls)) f ≡ wanted
    → wanted ≡ and_then (and_then (value w s (tree (out-LinkedOperand l).operand)) (λ v. Ok (with_value v f))) (rest at w s (links_of (drop (i + 1) ls)))
one-left at w s ls i l f wanted h e same =
    sym same ∙ ap (λ k. rest at w s k f) (next_link ls i l h e) ∙ step at w s (tree (out-LinkedOperand l).operand) (links_of (drop (i + 1) ls)) f

-- a dummy in scope that stands alone has its member for its value
pub dummy_value : (w : World) (s : Scope) (x : Tree) (m : Member) → Some m ≡ dummy_alone s (bare x) → value w s x ≡ Ok (One m)
dummy_value w s x m e = go (bare x) refl e
  where
    go : (o : Option Name) → bare x ≡ o → Some m ≡ dummy_alone s o → value w s x ≡ Ok (One m)
    go None b e = cc
    go (Some name) b e = value_alone w s x name m b (sym e)

drop_whole : {A : Type 0} (xs : List A) (i : ℕ) → length xs ≤ i → drop i xs ≡ []
drop_whole [] zero h = refl
drop_whole [] (suc i) h = refl
drop_whole (x ∷ xs) zero h = absurd (omega (arith, h))
drop_whole (x ∷ xs) (suc i) h = drop_whole xs i (omega (arith, h))

-- no subscript more
pub none-left : (at : Span) (w : World) (s : Scope) (ls : List LinkedOperand) (i : ℕ) (f : Subscripts) (wanted : Outcome Tuple) → length ls ≤ i → rest at w s (links_of (drop i ls)) f ≡ wanted
    → wanted ≡ and_then (so_far at f) (short_enough at)
none-left at w s ls i f wanted h same = sym same ∙ ap (λ k. rest at w s (links_of k) f) (drop_whole ls i h)

-- what is decided is answered
pub answers_decided : {A : Type 0} (o wanted : Outcome A) (r : Result A Fault) → wanted ≡ o → Yields o r → Refines wanted r
answers_decided o wanted (Ok x) e h = e ∙ h
answers_decided o wanted (Err faults.OutOfMemory) e h = tt
answers_decided o wanted (Err (faults.At r)) e h = e ∙ h
