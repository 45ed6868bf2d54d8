-- Steps of the definition of objectives.
use Rattle.std.specs.Prelude.{◌≡◌, ◌+◌, ◌<◌, ◌||◌, ◌&&◌, not, ℕ, Bool, true, false, List, [], ◌∷◌, length, get_or, drop, Option, Some, None, if◌then◌else◌, Ok, Err, Result}
use Rattle.std.proofs.Common.{refl, ap, sym, ◌∙◌, subst}
use Rattle.std.proofs.Math.Seq.{drop-cons}
use Rattle.std.proofs.Common.{add-one}
use Rattle.net_base.specs.declared.diagnostic.Language.TheVariants as languages
use Rattle.net_base.specs.declared.diagnostic.Span.{Span}
use Rattle.net_lex.specs.declared.token.Token.{Token}
use Rattle.net_tree.specs.declared.expr.LinkedOperand.{LinkedOperand, out-LinkedOperand}
use Rattle.net_tree.specs.Spans.{span_of}
use Rattle.net_tree.specs.Tree.{Tree, Links, Part, Braces, leaf, indexed, parens, tuple, negated, braced, signed, reduced, chain, choice, net}
use Rattle.net_tree.specs.View.{tree, links_of}
use Rattle.net_tree.proofs.Views.{next_link}
use Rattle.net_expr.specs.declared.row.Row.{Row}
use Rattle.net_tree.specs.Operations.{reduction, is_minus, operation}
use Rattle.net_expr.specs.Values.{index}
use Rattle.net_expr.specs.Worlds.{World, Scope}
use Rattle.net_base.specs.declared.diagnostic.Fault.{Fault}
use Rattle.net_base.specs.declared.diagnostic.Fault.TheVariants.{OutOfMemory, At}
use Rattle.net_linear.specs.Arcs.{Arcs}
use Rattle.net_linear.specs.Forms.{Linear, Term, join, turn, total, gathered, gathered_over}
use Rattle.net_linear.specs.Objectives.{names_arc, any_arc, first_or_any, braces_arc, is_sum, is_linear, mixed, linear, key_of, arc_term, condition, objective, otherwise, chained, with_arcs}
use Rattle.net_base.specs.Outcomes.{Outcome, Refines, and_then, rejected, bare}
use Rattle.net_base.specs.declared.error_code.ErrorCode.TheVariants.{NotLinear}
use Rattle.net_base.specs.declared.diagnostic.Detail.TheVariants.{Nothing}

-- what is answered of one outcome is answered of an equal one
pub answers_by : {A : Type 0} (o wanted : Outcome A) (r : Result A Fault) → wanted ≡ o → Refines o r → Refines wanted r
answers_by o wanted r e h = subst (λ k. Refines k r) (sym e) h

-- a fault of the first step is a fault of all
pub stops : {A B : Type 0} (o : Outcome A) (f : A → Outcome B) (wanted : Outcome B) (e : Fault) → wanted ≡ and_then o f → Refines o (Err e) → Refines wanted (Err e)
stops o f wanted OutOfMemory e h = tt
stops o f wanted (At r) e h = e ∙ ap (λ k. and_then k f) h

-- behind the first step the rest is left
pub goes : {A B : Type 0} (o : Outcome A) (f : A → Outcome B) (wanted : Outcome B) (x : A) → wanted ≡ and_then o f → o ≡ Ok x → wanted ≡ f x
goes o f wanted x e h = e ∙ ap (λ k. and_then k f) h

pub objective-is : (a : Arcs) (w : World) (s : Scope) (t : Tree) → objective a w s t ≡ mixed w s t (names_arc a t) (with_arcs a w s t)
objective-is a w s (leaf t) = refl
objective-is a w s (indexed n o x l c) = refl
objective-is a w s (parens o x c) = refl
objective-is a w s (tuple o x l c) = refl
objective-is a w s (negated n o x c) = refl
objective-is a w s (braced b) = refl
objective-is a w s (signed t x) = refl
objective-is a w s (reduced r b x) = refl
objective-is a w s (chain n x l) = refl
objective-is a w s (choice i x t y e) = refl
objective-is a w s (net t u) = refl

pub when_named : (a : Arcs) (w : World) (s : Scope) (t : Tree) → names_arc a t ≡ true → objective a w s t ≡ with_arcs a w s t
when_named a w s t h = objective-is a w s t ∙ ap (λ b. mixed w s t b (with_arcs a w s t)) h

pub when_plain : (a : Arcs) (w : World) (s : Scope) (t : Tree) → names_arc a t ≡ false → objective a w s t ≡ mixed w s t false (with_arcs a w s t)
when_plain a w s t h = objective-is a w s t ∙ ap (λ b. mixed w s t b (with_arcs a w s t)) h

-- of a tree of each form, with the tree's own place
pub with-indexed : (a : Arcs) (w : World) (s : Scope) (k : Tree) (n o : Token) (x : Tree) (l : Links) (c : Token) → k ≡ indexed n o x l c
    → with_arcs a w s k ≡ linear (span_of k) (not (first_or_any a x l)) (arc_term a (span_of k) n.text (key_of w s (span_of k) x l))
with-indexed a w s k n o x l c e = rw e refl

pub with-signed : (a : Arcs) (w : World) (s : Scope) (k : Tree) (t : Token) (x : Tree) → k ≡ signed t x → with_arcs a w s k ≡ and_then (objective a w s x) (turn (is_minus t) (span_of k))
with-signed a w s k t x e = rw e refl

pub with-reduced : (a : Arcs) (w : World) (s : Scope) (k : Tree) (r : Token) (b : Braces) (x : Tree) → k ≡ reduced r b x
    → with_arcs a w s k ≡ linear (span_of k) (is_sum (reduction r) && not (braces_arc a b)) (and_then (index w s b) (λ q. total (span_of k) (λ row. objective a w row.scope x) q.rows))
with-reduced a w s k r b x e = rw e refl

pub with-chain : (a : Arcs) (w : World) (s : Scope) (k : Tree) (n : ℕ) (x : Tree) (l : Links) → k ≡ chain n x l
    → with_arcs a w s k ≡ linear (span_of k) (is_linear a x l) (and_then (objective a w s x) (chained a (span_of k) w s l))
with-chain a w s k n x l e = rw e refl

pub with-choice : (a : Arcs) (w : World) (s : Scope) (k : Tree) (i : Token) (x : Tree) (t : Token) (y : Tree) (p : Part) → k ≡ choice i x t y p
    → with_arcs a w s k ≡ linear (span_of k) (not (names_arc a x)) (and_then (condition w s (span_of k) x) (λ holds. if holds then objective a w s y else otherwise a w s p))
with-choice a w s k i x t y p e = rw e refl

and_then-assoc : {A B C : Type 0} (o : Outcome A) (f : A → Outcome B) (g : B → Outcome C) → and_then o (λ x. and_then (f x) g) ≡ and_then (and_then o f) g
and_then-assoc (Ok x) f g = refl
and_then-assoc (Err r) f g = refl

-- one link of a chain
pub chained-left : (a : Arcs) (at : Span) (w : World) (s : Scope) (ls : List LinkedOperand) (i : ℕ) (l : LinkedOperand) (u : Term) (wanted : Outcome Term) → i < length ls → l ≡ get_or ls i l
    → chained a at w s (links_of (drop i ls)) u ≡ wanted
    → wanted ≡ and_then (and_then (objective a w s (tree (out-LinkedOperand l).operand)) (join (operation (out-LinkedOperand l).operator) at u)) (chained a at w s (links_of (drop (i + 1) ls)))
chained-left a at w s ls i l u wanted h e same =
    sym same ∙ ap (λ k. chained a at w s k u) (next_link ls i l h e)
    ∙ and_then-assoc (objective a w s (tree (out-LinkedOperand l).operand)) (join (operation (out-LinkedOperand l).operator) at u) (chained a at w s (links_of (drop (i + 1) ls)))

-- one row of a sum
drop_row : (rows : List Row) (i : ℕ) (r : Row) → i < length rows → r ≡ get_or rows i r → drop i rows ≡ r ∷ drop (i + 1) rows
drop_row rows i r h e = let a = drop-cons rows i r h in let b = add-one i in cc

pub rows-left : (at : Span) (body : Row → Outcome Term) (rows : List Row) (i : ℕ) (r : Row) (sum : Linear) (wanted : Outcome Linear) → i < length rows → r ≡ get_or rows i r
    → gathered_over at body (drop i rows) sum ≡ wanted
    → wanted ≡ and_then (body r) (λ u. and_then (gathered at sum u) (gathered_over at body (drop (i + 1) rows)))
rows-left at body rows i r sum wanted h e same = sym same ∙ ap (λ rs. gathered_over at body rs sum) (drop_row rows i r h e)

pub with-tuple : (a : Arcs) (w : World) (s : Scope) (k : Tree) (o : Token) (x : Tree) (l : Links) (c : Token) → k ≡ tuple o x l c → with_arcs a w s k ≡ rejected NotLinear (span_of k)
with-tuple a w s k o x l c e = rw e refl

pub with-negated : (a : Arcs) (w : World) (s : Scope) (k : Tree) (n o : Token) (x : Tree) (c : Token) → k ≡ negated n o x c → with_arcs a w s k ≡ rejected NotLinear (span_of k)
with-negated a w s k n o x c e = rw e refl

pub rejects : {A : Type 0} (o : Outcome A) (f : Fault) (at : Span) → o ≡ rejected NotLinear at → f ≡ At (bare languages.Model NotLinear at) → Refines o (Err f)
rejects o f at e h = subst (λ k. Refines o (Err k)) (sym h) e
