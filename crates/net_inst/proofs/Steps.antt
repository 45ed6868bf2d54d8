-- Steps of the definitions.
use Rattle.std.specs.Prelude.{◌≡◌, ◌+◌, ◌<◌, ◌≤◌, ℕ, List, [], ◌∷◌, length, get_or, drop, map, Bool, true, false, cond, Option, Some, Ok, Err}
use Rattle.std.specs.List.{position_from}
use Rattle.std.proofs.Common.{ap, sym, subst, ◌∙◌, add-one, arith}
use Rattle.std.proofs.Math.Seq.{drop-cons}
use Rattle.net_lex.specs.declared.token.Token.{Token}
use Rattle.net_sets.specs.Sets.{Tuple, same_tuple, place_of}
use Rattle.net_tree.specs.declared.declaration.Phrase.{Phrase as PhraseOfCode}
use Rattle.net_tree.specs.Tree.{Condition, Phrase}
use Rattle.net_tree.specs.View.{phrase_of, declaration_of}
use Rattle.net_tree.specs.declared.declaration.Decl.{Decl}
use Rattle.net_tree.proofs.Views.{next_phrase, next_declaration}
use Rattle.net_expr.specs.declared.row.Row.{Row}
use Rattle.net_expr.specs.Worlds.{Name, World, Scope}
use Rattle.net_linear.specs.Forms.{Linear}
use Rattle.net_linear.specs.declared.condition.Sides.{Sides}
use Rattle.net_base.specs.declared.diagnostic.Fault.{Fault}
use Rattle.net_base.specs.declared.diagnostic.Fault.TheVariants.{OutOfMemory, At}
use Rattle.net_inst.specs.declared.draft.ChosenObjective.{ChosenObjective}
use Rattle.net_inst.specs.Arcs.{BuiltArcs, price_in, prices_in, next_arc, arcs_at, arc_env, arc_text}
use Rattle.net_inst.specs.Drafts.{Drawing, declare, draw}
use Rattle.net_inst.specs.Nodes.{BuiltNodes, next_range, ranges_at}
use Rattle.net_inst.specs.Phrases.{Parts}
use Rattle.net_base.specs.Outcomes.{Outcome, Updates, and_then}

-- a fault of the first step is a fault of all
pub halts : {A B : Type 0} (o : Outcome A) (f : A → Outcome B) (wanted : Outcome B) (e : Fault) (x : A) (y : B) → wanted ≡ and_then o f → Updates o (Err e) x → Updates wanted (Err e) y
halts o f wanted OutOfMemory x y e h = tt
halts o f wanted (At r) x y e h = e ∙ ap (λ k. and_then k f) h

-- behind the first step the rest is left
pub goes : {A B : Type 0} (o : Outcome A) (f : A → Outcome B) (wanted : Outcome B) (x : A) → wanted ≡ and_then o f → o ≡ Ok x → wanted ≡ f x
goes o f wanted x e h = e ∙ ap (λ k. and_then k f) h

-- what is left of a list at one of its elements
pub left_at : {A : Type 0} (xs : List A) (i : ℕ) (x : A) → i < length xs → x ≡ get_or xs i x → drop i xs ≡ x ∷ drop (i + 1) xs
left_at xs i x h e = let a = drop-cons xs i x h in let b = add-one i in cc

pub one_more : (i a b : ℕ) → i ≤ a → b ≡ a + 1 → i + 1 ≤ b
one_more i a b h e = omega arith

pub step_up : (i a b : ℕ) → a ≤ i → b ≤ a + 1 → b ≤ i + 1
step_up i a b h e = omega arith

pub there : (rows : List Row) (i n : ℕ) → i < n → n ≡ length rows → i < length rows
there rows i n h e = omega (arith, h, e)

-- a row that is referred to
pub row_is : (rows : List Row) (i : ℕ) (row held : Row) → row ≡ held → held ≡ get_or rows i held → row ≡ get_or rows i row
row_is rows i row held same is = subst (λ (r : Row). r ≡ get_or rows i r) (sym same) is

pub ranges-left : (w : World) (n : Token) (k : Option ℕ) (c : Condition) (rows : List Row) (i : ℕ) (row : Row) (found : List Sides) (wanted : Outcome (List Sides)) → i < length rows → row ≡ get_or rows i row → ranges_at w n k c (drop i rows) found ≡ wanted → wanted ≡ and_then (next_range w n k c row found) (ranges_at w n k c (drop (i + 1) rows))
ranges-left w n k c rows i row found wanted h e inv = sym inv ∙ ap (λ (l : List Row). ranges_at w n k c l found) (left_at rows i row h e)

-- a tuple's place is below their number
below : (test : Tuple → Bool) (i j : ℕ) (ts : List Tuple) → position_from test i ts ≡ Some j → j < i + length ts
below test i j [] e = cc
below test i j (t ∷ ts) e = step (test t) e (below test (i + 1) j ts)
  where
    step : (b : Bool) → cond b (Some i) (position_from test (i + 1) ts) ≡ Some j → (position_from test (i + 1) ts ≡ Some j → j < i + 1 + length ts) → j < i + length (t ∷ ts)
    step true h more = let same : i ≡ j = cc in omega (arith, same)
    step false h more = omega (arith, more h)

pub place_below : (ts : List Tuple) (t : Tuple) (j : ℕ) → Some j ≡ place_of ts t → j < length ts
place_below ts t j e = omega (arith, below (same_tuple t) 0 j ts (sym e))

pub prices-left : (g : Option ChosenObjective) (w : World) (s : Scope) (a : ℕ) (ps : List PhraseOfCode) (i : ℕ) (p : PhraseOfCode) (f : Linear) (wanted : Outcome Linear) → i < length ps → p ≡ get_or ps i p → prices_in g w s a (map phrase_of (drop i ps)) f ≡ wanted → wanted ≡ and_then (price_in g w s a (phrase_of p).body f) (prices_in g w s a (map phrase_of (drop (i + 1) ps)))
prices-left g w s a ps i p f wanted h e inv = sym inv ∙ ap (λ l. prices_in g w s a l f) (next_phrase ps i p h e)

pub arcs-left : (g : Option ChosenObjective) (ns : BuiltNodes) (w : World) (n : Token) (k : Option ℕ) (p : Parts) (ps : List Phrase) (rows : List Row) (i : ℕ) (row : Row) (d : BuiltArcs) (wanted : Outcome BuiltArcs) → i < length rows → row ≡ get_or rows i row → arcs_at (arc_env g ns w) (arc_text n p ps) k (drop i rows) d ≡ wanted → wanted ≡ and_then (next_arc (arc_env g ns w) (arc_text n p ps) k row d) (arcs_at (arc_env g ns w) (arc_text n p ps) k (drop (i + 1) rows))
arcs-left g ns w n k p ps rows i row d wanted h e inv = sym inv ∙ ap (λ (l : List Row). arcs_at (arc_env g ns w) (arc_text n p ps) k l d) (left_at rows i row h e)

pub draw-left : (n : Option Name) (w : World) (ds : List Decl) (i : ℕ) (x : Decl) (d : Drawing) (wanted : Outcome Drawing) → i < length ds → x ≡ get_or ds i x → draw n w (map declaration_of (drop i ds)) d ≡ wanted → wanted ≡ and_then (declare n w (declaration_of x) d) (draw n w (map declaration_of (drop (i + 1) ds)))
draw-left n w ds i x d wanted h e inv = sym inv ∙ ap (λ l. draw n w l d) (next_declaration ds i x h e)
