-- What a sum comes to where the net inflow is a number: what it comes to with 0, and the net term of that number.
use Rattle.std.specs.Prelude.{◌≡◌, ◌+◌, ◌<◌, Bool, true, false, ◌&&◌, List, [], ◌∷◌, length, get_or, drop, ℕ, Option, Some, Ok, Err, ℤ, pos, ◌+ℤ◌, ◌-ℤ◌, neg_ℤ, if◌then◌else◌}
use Rattle.std.proofs.Common.{refl, ap, sym, ◌∙◌, arith}
use Rattle.std.proofs.lemmas.Int.{ints}
use Rattle.net_base.specs.declared.diagnostic.Span.{Span}
use Rattle.net_sets.specs.declared.member.Member.TheVariants.{Number, Name}
use Rattle.net_tree.specs.declared.expr.LinkedOperand.{LinkedOperand, out-LinkedOperand}
use Rattle.net_tree.specs.declared.operator.OperatorWords.{OperatorWords as Operator}
use Rattle.net_tree.specs.declared.operator.OperatorWords.TheVariants.{One}
use Rattle.net_tree.specs.Spans.{span_of}
use Rattle.net_tree.specs.Tree.{Tree, Links, leaf, indexed, parens, tuple, negated, braced, signed, reduced, chain, choice, net, none, link}
use Rattle.net_tree.specs.View.{tree, links_of}
use Rattle.net_tree.proofs.Views.{next_link}
use Rattle.net_tree.specs.declared.operator.BinOp.{BinOp}
use Rattle.net_tree.specs.declared.operator.BinOp.TheVariants as op
use Rattle.net_base.specs.declared.error_code.ErrorCode.TheVariants.{ValueTooLarge}
use Rattle.net_expr.specs.declared.value.Value.{Value}
use Rattle.net_expr.specs.declared.value.Value.TheVariants as values
use Rattle.net_expr.specs.Limits.{is_small}
use Rattle.net_expr.specs.Items.{begins_range}
use Rattle.net_expr.specs.Numbers.{number, turned, plus, less as minus, range_of}
use Rattle.net_tree.specs.Operations.{operation, is_range, has_minus, is_outflow}
use Rattle.net_expr.specs.Operators.{apply, decided, of_numbers}
use Rattle.net_expr.specs.Values.{value, values as each_value, chained, either}
use Rattle.net_expr.specs.Worlds.{World, Scope}
use Rattle.net_tree.specs.declared.operator.BinOp.{BinOp}
use Rattle.net_tree.specs.declared.operator.BinOp.TheVariants.{Plus, Minus}
use Rattle.net_linear.specs.declared.net_term.NetTerm.{NetTerm}
use Rattle.net_linear.specs.declared.net_term.NetTerm.TheVariants.{Absent, Inflow, Outflow, Unclear}
use Rattle.net_linear.specs.Conditions.{number_of, term_at, with_term, terms_at, side_at}
use Rattle.net_linear.specs.Signs.{is_sign}
use Rattle.net_linear.specs.NetTerms.{with_sign, negated as turned_term, net_term, beside, behind, net_terms, net_side, at_inflow, are_terms}
use Rattle.net_base.specs.Outcomes.{Outcome, and_then, rejected}
use Rattle.net_linear.specs.Amounts.{as_number, number_or_none}

-- a step of a walk over links
pub net_terms-left : (ls : List LinkedOperand) (i : ℕ) (l : LinkedOperand) (so_far : NetTerm) → i < length ls → l ≡ get_or ls i l
    → net_terms (links_of (drop i ls)) so_far ≡ net_terms (links_of (drop (i + 1) ls)) (behind (operation (out-LinkedOperand l).operator) so_far (net_term (tree (out-LinkedOperand l).operand)))
net_terms-left ls i l so_far h e = ap (λ k. net_terms k so_far) (next_link ls i l h e)

terms-left : (ls : List LinkedOperand) (i : ℕ) (l : LinkedOperand) (j : BinOp) → i < length ls → l ≡ get_or ls i l → j ≡ operation (out-LinkedOperand l).operator
    → are_terms (links_of (drop i ls)) ≡ is_sign j && are_terms (links_of (drop (i + 1) ls))
terms-left ls i l j h e f = ap are_terms (next_link ls i l h e) ∙ ap (λ k. is_sign k && are_terms (links_of (drop (i + 1) ls))) (sym f)

pub terms_stop : (ls : List LinkedOperand) (i : ℕ) (l : LinkedOperand) (j : BinOp) → i < length ls → l ≡ get_or ls i l → j ≡ operation (out-LinkedOperand l).operator → is_sign j ≡ false → false ≡ are_terms (links_of (drop i ls))
terms_stop ls i l j h e f g = sym (terms-left ls i l j h e f ∙ ap (λ b. b && are_terms (links_of (drop (i + 1) ls))) g)

pub terms_go : (ls : List LinkedOperand) (i : ℕ) (l : LinkedOperand) (j : BinOp) → i < length ls → l ≡ get_or ls i l → j ≡ operation (out-LinkedOperand l).operator → is_sign j ≡ true → are_terms (links_of (drop (i + 1) ls)) ≡ are_terms (links_of (drop i ls))
terms_go ls i l j h e f g = sym (terms-left ls i l j h e f ∙ ap (λ b. b && are_terms (links_of (drop (i + 1) ls))) g)

-- what stands behind an Ok
pub value_then : {A B P : Type 0} (o : Outcome A) (f : A → Outcome B) (r : B) → and_then o f ≡ Ok r → ((y : A) → o ≡ Ok y → f y ≡ Ok r → P) → P
value_then (Ok y) f r e k = k y refl e
value_then (Err x) f r e k = cc

number_is : (at : Span) (v : Value) (n : ℤ) → number at v ≡ Ok n → v ≡ values.One (Number n)
number_is at (values.One (Number m)) n e = let same : m ≡ n = cc in ap (λ (i : ℤ). values.One (Number i)) same
number_is at (values.One (Name t)) n e = cc
number_is at (values.Several t) n e = cc
number_is at (values.Many d ts) n e = cc
number_is at (values.Truth b) n e = cc

sized_is : (at : Span) (b : Bool) (n : ℤ) (v : Value) → (if b then Ok (values.One (Number n)) else rejected ValueTooLarge at) ≡ Ok v → values.One (Number n) ≡ v
sized_is at true n v e = cc
sized_is at false n v e = cc

pub as_ok : (w : World) (s : Scope) (x : Tree) (v : Value) → value w s x ≡ Ok v → number_or_none w s x ≡ Ok (as_number v)
as_ok w s x v e = ap (λ (o : Outcome Value). and_then o (λ u. Ok (as_number u))) e

ok_is : {A : Type 0} (a b : A) (o : Outcome A) → o ≡ Ok a → o ≡ Ok b → a ≡ b
ok_is a b o e h = cc

-- a term
signs : (m o : Bool) (y : ℤ) → turned m (turned o y) ≡ pos 0 +ℤ at_inflow (with_sign m (with_sign o Inflow)) y
signs true true y = omega (arith, ints)
signs true false y = omega (arith, ints)
signs false true y = omega (arith, ints)
signs false false y = omega (arith, ints)

without : (n y : ℤ) (o : Outcome (Option ℤ)) → o ≡ Ok (Some n) → number_of o ≡ n +ℤ pos 0
without n y o e = ap number_of e ∙ omega (arith, ints)

pub term_ok : (w : World) (s : Scope) (x : Tree) (n y : ℤ) → number_or_none w s x ≡ Ok (Some n) → term_at w s x y ≡ n +ℤ at_inflow (net_term x) y
term_ok w s (net sign word) n y e =
    let none_yet : pos 0 ≡ n = cc in
    signs (has_minus sign) (is_outflow word) y ∙ ap (λ (i : ℤ). i +ℤ at_inflow (net_term (net sign word)) y) none_yet
term_ok w s (leaf t) n y e = without n y (number_or_none w s (leaf t)) e
term_ok w s (indexed m o x l c) n y e = without n y (number_or_none w s (indexed m o x l c)) e
term_ok w s (parens o x c) n y e = without n y (number_or_none w s (parens o x c)) e
term_ok w s (tuple o x l c) n y e = without n y (number_or_none w s (tuple o x l c)) e
term_ok w s (negated m o x c) n y e = without n y (number_or_none w s (negated m o x c)) e
term_ok w s (braced b) n y e = without n y (number_or_none w s (braced b)) e
term_ok w s (signed t x) n y e = without n y (number_or_none w s (signed t x)) e
term_ok w s (reduced r b x) n y e = without n y (number_or_none w s (reduced r b x)) e
term_ok w s (chain k x l) n y e = without n y (number_or_none w s (chain k x l)) e
term_ok w s (choice i x t u p) n y e = without n y (number_or_none w s (choice i x t u p)) e

-- the net inflow stands at most once
abbrev pub is_clear : NetTerm → Bool
is_clear Unclear = false
is_clear _ = true

beside_unclear : (n : NetTerm) → beside Unclear n ≡ Unclear
beside_unclear Absent = refl
beside_unclear Inflow = refl
beside_unclear Outflow = refl
beside_unclear Unclear = refl

unclear_stays : (j : BinOp) (n : NetTerm) → behind j Unclear n ≡ Unclear
unclear_stays Minus n = beside_unclear (turned_term n)
unclear_stays _ n = beside_unclear n

pub all_unclear : (l : Links) → net_terms l Unclear ≡ Unclear
all_unclear none = refl
all_unclear (link o x l) = ap (net_terms l) (unclear_stays (operation o) (net_term x)) ∙ all_unclear l

clear_before : (l : Links) (n : NetTerm) → is_clear (net_terms l n) ≡ true → is_clear n ≡ true
clear_before l Absent h = refl
clear_before l Inflow h = refl
clear_before l Outflow h = refl
clear_before l Unclear h = sym (ap is_clear (all_unclear l)) ∙ h

beside_at : (a b : NetTerm) (y : ℤ) → is_clear (beside a b) ≡ true → at_inflow (beside a b) y ≡ at_inflow a y +ℤ at_inflow b y
beside_at Absent Absent y h = omega (arith, ints)
beside_at Absent Inflow y h = omega (arith, ints)
beside_at Absent Outflow y h = omega (arith, ints)
beside_at Absent Unclear y h = cc
beside_at Inflow Absent y h = omega (arith, ints)
beside_at Outflow Absent y h = omega (arith, ints)
beside_at Unclear Absent y h = cc
beside_at Inflow Inflow y h = cc
beside_at Inflow Outflow y h = cc
beside_at Inflow Unclear y h = cc
beside_at Outflow Inflow y h = cc
beside_at Outflow Outflow y h = cc
beside_at Outflow Unclear y h = cc
beside_at Unclear Inflow y h = cc
beside_at Unclear Outflow y h = cc
beside_at Unclear Unclear y h = cc

turned_at : (a : NetTerm) (y : ℤ) → at_inflow (turned_term a) y ≡ neg_ℤ (at_inflow a y)
turned_at Absent y = omega (arith, ints)
turned_at Inflow y = omega (arith, ints)
turned_at Outflow y = omega (arith, ints)
turned_at Unclear y = omega (arith, ints)

-- terms behind others
abbrev ends_in : Outcome Value → ℤ → Type 0
ends_in o n = o ≡ Ok (values.One (Number n))

abbrev AreTerms : Span → World → Scope → Links → ℤ → Type 0
AreTerms at w s l y =
    (so_far : NetTerm) (a n m : ℤ) → are_terms l ≡ true → ends_in (chained at w s l (values.One (Number a))) n → is_clear (net_terms l so_far) ≡ true → m ≡ a +ℤ at_inflow so_far y
    → terms_at w s l m y ≡ n +ℤ at_inflow (net_terms l so_far) y

terms_step : (at : Span) (w : World) (s : Scope) (o : Operator) (x : Tree) (l : Links) (y : ℤ) → AreTerms at w s l y → AreTerms at w s (link o x l) y
terms_step at w s o x l y terms_more so_far a n m t e k h = go (operation o) refl t k
  where
    added : and_then (value w s x) (λ u. and_then (apply op.Plus at (values.One (Number a)) u) (chained at w s l)) ≡ Ok (values.One (Number n)) → are_terms l ≡ true
        → is_clear (net_terms l (beside so_far (net_term x))) ≡ true → terms_at w s l (m +ℤ term_at w s x y) y ≡ n +ℤ at_inflow (net_terms l (beside so_far (net_term x))) y
    added f i j =
        value_then (value w s x) _ _ f (λ u p q. value_then (apply op.Plus at (values.One (Number a)) u) (chained at w s l) _ q (λ v r z.
        value_then (number at u) _ _ r (λ b c d.
        let sum : values.One (Number (a +ℤ b)) ≡ v = sized_is at (is_small (a +ℤ b)) (a +ℤ b) v d in
        let here : term_at w s x y ≡ b +ℤ at_inflow (net_term x) y = term_ok w s x b y (as_ok w s x u p ∙ ap (λ (k : Value). Ok (as_number k)) (number_is at u b c)) in
        terms_more (beside so_far (net_term x)) (a +ℤ b) n (m +ℤ term_at w s x y) i (ap (chained at w s l) sum ∙ z) j
        (omega (arith, ints, h, here, beside_at so_far (net_term x) y (clear_before l _ j))))))

    taken : and_then (value w s x) (λ u. and_then (apply op.Minus at (values.One (Number a)) u) (chained at w s l)) ≡ Ok (values.One (Number n)) → are_terms l ≡ true
        → is_clear (net_terms l (beside so_far (turned_term (net_term x)))) ≡ true → terms_at w s l (m -ℤ term_at w s x y) y ≡ n +ℤ at_inflow (net_terms l (beside so_far (turned_term (net_term x)))) y
    taken f i j =
        value_then (value w s x) _ _ f (λ u p q. value_then (apply op.Minus at (values.One (Number a)) u) (chained at w s l) _ q (λ v r z.
        value_then (number at u) _ _ r (λ b c d.
        let less : values.One (Number (a -ℤ b)) ≡ v = sized_is at (is_small (a -ℤ b)) (a -ℤ b) v d in
        let here : term_at w s x y ≡ b +ℤ at_inflow (net_term x) y = term_ok w s x b y (as_ok w s x u p ∙ ap (λ (k : Value). Ok (as_number k)) (number_is at u b c)) in
        terms_more (beside so_far (turned_term (net_term x))) (a -ℤ b) n (m -ℤ term_at w s x y) i (ap (chained at w s l) less ∙ z) j
        (omega (arith, ints, h, here, beside_at so_far (turned_term (net_term x)) y (clear_before l _ j), turned_at (net_term x) y)))))

    step_of : BinOp → Outcome Value
    step_of r = and_then (decided r at (values.One (Number a))) (either (chained at w s l) (and_then (value w s x) (λ u. and_then (apply r at (values.One (Number a)) u) (chained at w s l))))

    go : (j : BinOp) → operation o ≡ j → is_sign j && are_terms l ≡ true → is_clear (net_terms l (behind j so_far (net_term x))) ≡ true
        → terms_at w s l (with_term j m (term_at w s x y)) y ≡ n +ℤ at_inflow (net_terms l (behind j so_far (net_term x))) y
    go Plus i t k = added (sym (ap (λ r. step_of r) i) ∙ e) t k
    go Minus i t k = taken (sym (ap (λ r. step_of r) i) ∙ e) t k
    go _ i t k = cc

terms_ok : (at : Span) (w : World) (s : Scope) (l : Links) (y : ℤ) → AreTerms at w s l y
terms_ok at w s none y so_far a n m t e k h = let same : a ≡ n = cc in omega (arith, ints, h, same)
terms_ok at w s (link o x l) y so_far a n m t e k h = terms_step at w s o x l y (terms_ok at w s l y) so_far a n m t e k h

-- a chain of terms
starts_range : (l : Links) → are_terms l ≡ true → begins_range l ≡ false
starts_range none h = refl
starts_range (link o x l) h = go (operation o) refl h
  where
    go : (j : BinOp) → operation o ≡ j → is_sign j && are_terms l ≡ true → is_range (operation o) ≡ false
    go Plus i t = ap is_range i
    go Minus i t = ap is_range i
    go _ i t = cc

number_inv : (v : Value) (n : ℤ) → as_number v ≡ Some n → v ≡ values.One (Number n)
number_inv (values.One (Number m)) n e = let same : m ≡ n = cc in ap (λ (i : ℤ). values.One (Number i)) same
number_inv (values.One (Name t)) n e = cc
number_inv (values.Several t) n e = cc
number_inv (values.Many d ts) n e = cc
number_inv (values.Truth b) n e = cc

pub came_from : (w : World) (s : Scope) (x : Tree) (n : ℤ) → number_or_none w s x ≡ Ok (Some n) → ends_in (value w s x) n
came_from w s x n e = go (value w s x) refl e
  where
    go : (o : Outcome Value) → value w s x ≡ o → and_then o (λ u. Ok (as_number u)) ≡ Ok (Some n) → value w s x ≡ Ok (values.One (Number n))
    go (Ok v) i h = let same : as_number v ≡ Some n = cc in i ∙ ap (λ (u : Value). Ok u) (number_inv v n same)
    go (Err r) i h = cc

-- the first value of a chain, where nothing joins it to a number
first_number : (at : Span) (w : World) (s : Scope) (l : Links) (v : Value) (n : ℤ) (P : Type 0) → are_terms l ≡ true → ends_in (chained at w s l v) n → ((a : ℤ) → v ≡ values.One (Number a) → P) → P
first_number at w s none v n P t e k = k n (let same : v ≡ values.One (Number n) = cc in same)
first_number at w s (link o x l) v n P t e k = go (operation o) refl t
  where
    step_of : BinOp → Outcome Value
    step_of r = and_then (decided r at v) (either (chained at w s l) (and_then (value w s x) (λ u. and_then (apply r at v u) (chained at w s l))))

    by_numbers : (f : ℤ → ℤ → Outcome Value) → and_then (value w s x) (λ u. and_then (of_numbers at f v u) (chained at w s l)) ≡ Ok (values.One (Number n)) → P
    by_numbers f h =
        value_then (value w s x) _ _ h (λ u p q. value_then (of_numbers at f v u) (chained at w s l) _ q (λ z r m.
        value_then (number at v) _ _ r (λ a c d. k a (number_is at v a c))))

    go : (j : BinOp) → operation o ≡ j → is_sign j && are_terms l ≡ true → P
    go Plus i t = by_numbers (plus at) (sym (ap (λ r. step_of r) i) ∙ e)
    go Minus i t = by_numbers (minus at) (sym (ap (λ r. step_of r) i) ∙ e)
    go _ i t = cc

abbrev range_or_chain : Span → World → Scope → Links → Value → Bool → Outcome Value
range_or_chain at w s l v b = if b then and_then (each_value w s l (v ∷ [])) (range_of at) else chained at w s l v

sum_ok : (w : World) (s : Scope) (k : ℕ) (x : Tree) (l : Links) (n y : ℤ) → are_terms l ≡ true → is_clear (net_terms l (net_term x)) ≡ true → ends_in (value w s (chain k x l)) n
    → terms_at w s l (term_at w s x y) y ≡ n +ℤ at_inflow (net_terms l (net_term x)) y
sum_ok w s k x l n y t c e =
    value_then (value w s x) _ _ e (λ v p q.
    let chained_so : ends_in (chained (span_of (chain k x l)) w s l v) n = sym (ap (range_or_chain (span_of (chain k x l)) w s l v) (starts_range l t)) ∙ q in
    first_number (span_of (chain k x l)) w s l v n _ t chained_so (λ a i.
    terms_ok (span_of (chain k x l)) w s l y (net_term x) a n (term_at w s x y) t (sym (ap (chained (span_of (chain k x l)) w s l) i) ∙ chained_so) c
    (term_ok w s x a y (as_ok w s x v p ∙ ap (λ (u : Value). Ok (as_number u)) i))))

-- a side
pub side_ok : (w : World) (s : Scope) (x : Tree) (n y : ℤ) → is_clear (net_side x) ≡ true → number_or_none w s x ≡ Ok (Some n) → side_at w s x y ≡ n +ℤ at_inflow (net_side x) y
side_ok w s (chain k x l) n y c e = go (are_terms l) refl c
  where
    go : (b : Bool) → are_terms l ≡ b → is_clear (if b then net_terms l (net_term x) else Absent) ≡ true
        → (if b then terms_at w s l (term_at w s x y) y else number_of (number_or_none w s (chain k x l))) ≡ n +ℤ at_inflow (if b then net_terms l (net_term x) else Absent) y
    go true t c = sum_ok w s k x l n y t c (came_from w s (chain k x l) n e)
    go false t c = without n y (number_or_none w s (chain k x l)) e
side_ok w s (net sign word) n y c e = term_ok w s (net sign word) n y e
side_ok w s (leaf t) n y c e = term_ok w s (leaf t) n y e
side_ok w s (indexed m o x l z) n y c e = term_ok w s (indexed m o x l z) n y e
side_ok w s (parens o x z) n y c e = term_ok w s (parens o x z) n y e
side_ok w s (tuple o x l z) n y c e = term_ok w s (tuple o x l z) n y e
side_ok w s (negated m o x z) n y c e = term_ok w s (negated m o x z) n y e
side_ok w s (braced b) n y c e = term_ok w s (braced b) n y e
side_ok w s (signed t x) n y c e = term_ok w s (signed t x) n y e
side_ok w s (reduced r b x) n y c e = term_ok w s (reduced r b x) n y e
side_ok w s (choice i x t u p) n y c e = term_ok w s (choice i x t u p) n y e
