-- What an expression is refused for stands at one of its parts.
use Rattle.std.specs.Prelude.{Bool, List, [], ◌∷◌, ◌++◌, nat_le, Option, None, Some, if◌then◌else◌, Ok, ℤ}
use Rattle.net_base.specs.declared.diagnostic.Span.{Span}
use Rattle.net_base.specs.Outcomes.{Outcome, and_then, each}
use Rattle.net_lex.specs.declared.token.Token.{Token}
use Rattle.net_sets.specs.Limits.{arity_limit}
use Rattle.net_sets.specs.Sets.{Tuple}
use Rattle.net_tree.specs.declared.role.Role.{Role}
use Rattle.net_tree.specs.declared.role.Role.TheVariants as roles
use Rattle.net_tree.specs.Role.{role_of}
use Rattle.net_tree.specs.Spans.{span_of, span_between, braces_span}
use Rattle.net_tree.specs.Tree.{Tree, Links, Part, Braces, leaf, indexed, parens, tuple, negated, braced, signed, reduced, chain, choice, net, none, link, absent, part, empty, filled}
use Rattle.net_expr.specs.declared.row.PartialRow.{PartialRow}
use Rattle.net_expr.specs.declared.row.Row.{Row}
use Rattle.net_expr.specs.declared.value.Value.{Value}
use Rattle.net_expr.specs.Items.{is_in, has_in, any_in, begins_range, has_part, new_dummy, needed, chosen, tuples_of, walking, opened}
use Rattle.net_expr.specs.Numbers.{number, range_of}
use Rattle.net_tree.specs.Numerals.{number_in}
use Rattle.net_tree.specs.Operations.{operation, reduction, is_minus}
use Rattle.net_expr.specs.Operators.{apply, decided, truth, tuple_of}
use Rattle.net_expr.specs.Rows.{start, match_component, if_fits, onward, selected, as_set, listed, reduce}
use Rattle.net_expr.specs.Values.{number_value, token_value, subscripted, tupled, with_sign, either, value, otherwise, values, chained, index, walk, set_after, place, left_place, places, holds}
use Rattle.net_expr.specs.Widths.{width_by_form, begin, with_item, with_items}
use Rattle.net_expr.specs.Worlds.{Name, World, Scope, bound}
use Rattle.net_base.specs.Places.{Places, Finds, Model}
use Rattle.net_tree.specs.Standing.{Stands, LinksStand, PartStands, BracesStand}
use Rattle.net_base.proofs.Found.{finds_then, finds_if, finds_each}
use Rattle.net_expr.proofs.OperatorFaults.{finds_number, finds_sized, finds_range_of, finds_truth, finds_apply, finds_decided, finds_tuple_of, finds_name_at}
use Rattle.net_expr.proofs.RowFaults.{finds_chosen, finds_tuples_of, finds_opened, finds_fitted, finds_fitted_alone, finds_finished, finds_as_set, finds_listed, finds_reduce, finds_if_fits, finds_onward, finds_open_with, finds_selected}

-- the whole of a tree stands there
pub whole_stands : (P : Span → Type 0) (t : Tree) → Stands P t → P (span_of t)
whole_stands P (leaf t) h = h.0
whole_stands P (indexed n o x l c) h = h.0
whole_stands P (parens o x c) h = h.0
whole_stands P (tuple o x l c) h = h.0
whole_stands P (negated n o x c) h = h.0
whole_stands P (braced b) h = h.0
whole_stands P (signed t x) h = h.0
whole_stands P (reduced r b x) h = h.0
whole_stands P (chain n x l) h = h.0
whole_stands P (choice i x t y e) h = h.0
whole_stands P (net t u) h = h

pub braces_stand : (P : Span → Type 0) (b : Braces) → BracesStand P b → P (braces_span b)
braces_stand P (empty o p c) h = h.0
braces_stand P (filled o x l p c) h = h.0

module _ (P : Places) where
  finds_number_value : (at : Span) → P Model at → (n : Option ℤ) → Finds P (number_value at n)
  finds_number_value at h None = h
  finds_number_value at h (Some n) = tt

  finds_token : (w : World) (s : Scope) (t : Token) (r : Role) → P Model t.span → Finds P (token_value w s t r)
  finds_token w s t roles.Number h = finds_number_value t.span h (number_in t.text)
  finds_token w s t roles.Text h = tt
  finds_token w s t roles.Name h = finds_name_at P t.span h w t.text (bound s t.text) []
  finds_token w s t _ h = h

  finds_subscripted : (at : Span) → P Model at → (w : World) (s : Scope) (name : Name) (vs : List Value) → Finds P (subscripted at w s name vs)
  finds_subscripted at h w s name vs = finds_then P (tuple_of at vs) _ (finds_tuple_of P at h vs) (λ key. finds_name_at P at h w name (bound s name) key)

  finds_tupled : (at : Span) → P Model at → (vs : List Value) → Finds P (tupled at vs)
  finds_tupled at h vs = finds_then P (tuple_of at vs) _ (finds_tuple_of P at h vs) (λ t. tt)

  finds_signed : (at : Span) → P Model at → (minus : Bool) (v : Value) → Finds P (with_sign at minus v)
  finds_signed at h minus v = finds_then P (number at v) _ (finds_number P at h v) (λ n. finds_sized P at h _)

  finds_either : {A : Type 0} (f : A → Outcome Value) (rest : Outcome Value) → ((a : A) → Finds P (f a)) → Finds P rest → (o : Option A) → Finds P (either f rest o)
  finds_either f rest h k None = k
  finds_either f rest h k (Some a) = h a

  pub finds_by_form : (at : Span) → P Model at → (w : World) (s : Scope) (i : Tree) (is : Links) → Finds P (width_by_form at w s i is)
  finds_by_form at h w s i is =
      finds_if P (with_items w (with_item w (begin s) i) is).indexes _ _ (finds_if P (nat_le (with_items w (with_item w (begin s) i) is).count arity_limit) _ _ tt h) h

  mutual
    pub finds_value : (w : World) (s : Scope) (t : Tree) → Stands (P Model) t → Finds P (value w s t)
    finds_value w s (leaf t) (h, k) = finds_token w s t (role_of t) k
    finds_value w s (indexed n o x l c) (h, j, k, m) =
        finds_then P (and_then (value w s x) (λ v. values w s l (v ∷ []))) (subscripted (span_of (indexed n o x l c)) w s n.text)
        (finds_then P (value w s x) _ (finds_value w s x k) (λ v. finds_values w s l m (v ∷ [])))
        (finds_subscripted (span_of (indexed n o x l c)) h w s n.text)
    finds_value w s (parens o x c) (h, k) = finds_value w s x k
    finds_value w s (tuple o x l c) (h, k, m) =
        finds_then P (and_then (value w s x) (λ v. values w s l (v ∷ []))) (tupled (span_of (tuple o x l c)))
        (finds_then P (value w s x) _ (finds_value w s x k) (λ v. finds_values w s l m (v ∷ [])))
        (finds_tupled (span_of (tuple o x l c)) h)
    finds_value w s (negated n o x c) (h, k) =
        finds_then P (and_then (value w s x) (truth (span_of (negated n o x c)))) _
        (finds_then P (value w s x) _ (finds_value w s x k) (finds_truth P (span_of (negated n o x c)) h)) (λ b. tt)
    finds_value w s (braced b) (h, k) = finds_then P (index w s b) (as_set (braces_span b)) (finds_index w s b k) (finds_as_set P (braces_span b) (braces_stand (P Model) b k))
    finds_value w s (signed t x) (h, k) =
        finds_then P (value w s x) (with_sign (span_of (signed t x)) (is_minus t)) (finds_value w s x k) (finds_signed (span_of (signed t x)) h (is_minus t))
    finds_value w s (reduced r b x) (h, j, k) =
        finds_then P (index w s b) (reduce (span_of (reduced r b x)) (reduction r) (λ q. value w q x)) (finds_index w s b j)
        (finds_reduce P (span_of (reduced r b x)) h (reduction r) (λ q. value w q x) (λ q. finds_value w q x k))
    finds_value w s (chain n x l) (h, k, m) =
        finds_then P (value w s x) _ (finds_value w s x k) (λ v.
        finds_if P (begins_range l) (and_then (values w s l (v ∷ [])) (range_of (span_of (chain n x l)))) (chained (span_of (chain n x l)) w s l v)
        (finds_then P (values w s l (v ∷ [])) (range_of (span_of (chain n x l))) (finds_values w s l m (v ∷ [])) (finds_range_of P (span_of (chain n x l)) h))
        (finds_chained (span_of (chain n x l)) h w s l m v))
    finds_value w s (choice i x t y e) (h, j, k, m) =
        finds_then P (and_then (value w s x) (truth (span_of (choice i x t y e)))) _
        (finds_then P (value w s x) _ (finds_value w s x j) (finds_truth P (span_of (choice i x t y e)) h))
        (λ b. finds_if P b (value w s y) (otherwise w s e) (finds_value w s y k) (finds_otherwise w s e m))
    finds_value w s (net t u) h = tt

    finds_otherwise : (w : World) (s : Scope) (e : Part) → PartStands (P Model) e → Finds P (otherwise w s e)
    finds_otherwise w s absent h = tt
    finds_otherwise w s (part m x) h = finds_value w s x h

    pub finds_values : (w : World) (s : Scope) (l : Links) → LinksStand (P Model) l → (found : List Value) → Finds P (values w s l found)
    finds_values w s none h found = tt
    finds_values w s (link o x l) (h, k) found = finds_then P (value w s x) _ (finds_value w s x h) (λ v. finds_values w s l k (found ++ v ∷ []))

    finds_chained : (at : Span) → P Model at → (w : World) (s : Scope) (l : Links) → LinksStand (P Model) l → (v : Value) → Finds P (chained at w s l v)
    finds_chained at h w s none k v = tt
    finds_chained at h w s (link o x l) (j, k) v =
        finds_then P (decided (operation o) at v) (either (chained at w s l) (and_then (value w s x) (λ u. and_then (apply (operation o) at v u) (chained at w s l))))
        (finds_decided P at h (operation o) v)
        (finds_either (chained at w s l) (and_then (value w s x) (λ u. and_then (apply (operation o) at v u) (chained at w s l))) (finds_chained at h w s l k)
        (finds_then P (value w s x) _ (finds_value w s x j) (λ u. finds_then P (apply (operation o) at v u) (chained at w s l) (finds_apply P at h (operation o) v u) (finds_chained at h w s l k))))

    pub finds_index : (w : World) (s : Scope) (b : Braces) → BracesStand (P Model) b → Finds P (index w s b)
    finds_index w s (empty o p c) (g, h, k) = finds_if P (has_part p) _ _ h tt
    finds_index w s (filled o i is p c) (g, h, j, k, m) =
        finds_then P (if has_in i then and_then (set_after w s i) (λ ts. Ok (walking ts)) else and_then (value w s i) (opened (span_between o c) (any_in is))) _
        (finds_if P (has_in i) (and_then (set_after w s i) (λ ts. Ok (walking ts))) (and_then (value w s i) (opened (span_between o c) (any_in is)))
        (finds_then P (set_after w s i) _ (finds_after w s i j) (λ ts. tt))
        (finds_then P (value w s i) (opened (span_between o c) (any_in is)) (finds_value w s i j) (finds_opened P (span_between o c) h (any_in is))))
        (finds_open_with P _ _
        (λ ts. finds_then P (each (onward (place w i) (walk (span_between o c) w is) (start s)) ts []) (selected (width_by_form (span_between o c) w s i is) (λ q. holds (span_between o c) w q p))
        (finds_each P (onward (place w i) (walk (span_between o c) w is) (start s))
        (λ t found. finds_onward P (place w i) (walk (span_between o c) w is) (finds_place w i j) (finds_walk (span_between o c) h w is k) (start s) t found) ts [])
        (finds_selected P (width_by_form (span_between o c) w s i is) (λ q. holds (span_between o c) w q p) (finds_by_form (span_between o c) h w s i is) (λ q. finds_holds (span_between o c) h w q p m)))
        (λ v. finds_then P (values w s is (v ∷ [])) (listed (span_between o c) s (has_part p)) (finds_values w s is k (v ∷ [])) (finds_listed P (span_between o c) h s (has_part p))))

    pub finds_walk : (at : Span) → P Model at → (w : World) (l : Links) → LinksStand (P Model) l → (p : PartialRow) (found : List Row) → Finds P (walk at w l p found)
    finds_walk at h w none k p found = finds_finished P at h p found
    finds_walk at h w (link o i is) (j, k) p found =
        finds_then P (if has_in i then set_after w p.scope i else and_then (value w p.scope i) (tuples_of at)) _
        (finds_if P (has_in i) (set_after w p.scope i) (and_then (value w p.scope i) (tuples_of at)) (finds_after w p.scope i j)
        (finds_then P (value w p.scope i) (tuples_of at) (finds_value w p.scope i j) (finds_tuples_of P at h)))
        (λ ts. finds_each P (onward (place w i) (walk at w is) p) (λ t rows. finds_onward P (place w i) (walk at w is) (finds_place w i j) (finds_walk at h w is k) p t rows) ts found)

    finds_after : (w : World) (s : Scope) (t : Tree) → Stands (P Model) t → Finds P (set_after w s t)
    finds_after w s (chain n x (link o y none)) (h, j, k) =
        finds_then P (value w s y) (chosen (span_of (chain n x (link o y none))) (needed x)) (finds_value w s y k.0) (finds_chosen P (span_of (chain n x (link o y none))) h (needed x))
    finds_after w s (chain n x none) h = tt
    finds_after w s (chain n x (link o y (link q z l))) h = tt
    finds_after w s (leaf t) h = tt
    finds_after w s (indexed n o x l c) h = tt
    finds_after w s (parens o x c) h = tt
    finds_after w s (tuple o x l c) h = tt
    finds_after w s (negated n o x c) h = tt
    finds_after w s (braced b) h = tt
    finds_after w s (signed t x) h = tt
    finds_after w s (reduced r b x) h = tt
    finds_after w s (choice i x t y e) h = tt
    finds_after w s (net t u) h = tt

    pub finds_place : (w : World) (i : Tree) → Stands (P Model) i → (t : Tuple) (p : PartialRow) → Finds P (place w i t p)
    finds_place w (chain n x (link o y none)) (h, j, k) t p =
        finds_if P (is_in (operation o)) (left_place (span_of (chain n x (link o y none))) w x (value w p.scope x) t p) _
        (finds_left (span_of (chain n x (link o y none))) h w x j (value w p.scope x) (finds_value w p.scope x j) t p) tt
    finds_place w (chain n x none) h t p = tt
    finds_place w (chain n x (link o y (link q z l))) h t p = tt
    finds_place w (leaf a) h t p = tt
    finds_place w (indexed n o x l c) h t p = tt
    finds_place w (parens o x c) h t p = tt
    finds_place w (tuple o x l c) h t p = tt
    finds_place w (negated n o x c) h t p = tt
    finds_place w (braced b) h t p = tt
    finds_place w (signed a x) h t p = tt
    finds_place w (reduced r b x) h t p = tt
    finds_place w (choice i x a y e) h t p = tt
    finds_place w (net a u) h t p = tt

    finds_left : (at : Span) → P Model at → (w : World) (x : Tree) → Stands (P Model) x → (own : Outcome Value) → Finds P own → (t : Tuple) (p : PartialRow) → Finds P (left_place at w x own t p)
    finds_left at g w (tuple o x l c) h own k [] p = tt
    finds_left at g w (tuple o x l c) (h, i, j) own k (m ∷ ms) p =
        finds_then P (match_component (span_of (tuple o x l c)) (new_dummy w p.scope x) (value w p.scope x) m p) (if_fits (places (span_of (tuple o x l c)) w l ms))
        (finds_fitted P (span_of (tuple o x l c)) h (new_dummy w p.scope x) (value w p.scope x) (finds_value w p.scope x i) m p)
        (finds_if_fits P (places (span_of (tuple o x l c)) w l ms) (finds_places (span_of (tuple o x l c)) h w l j ms))
    finds_left at g w (leaf a) h own k t p = finds_fitted_alone P at g (new_dummy w p.scope (leaf a)) own k t p
    finds_left at g w (indexed n o x l c) h own k t p = finds_fitted_alone P at g (new_dummy w p.scope (indexed n o x l c)) own k t p
    finds_left at g w (parens o x c) h own k t p = finds_fitted_alone P at g (new_dummy w p.scope (parens o x c)) own k t p
    finds_left at g w (negated n o x c) h own k t p = finds_fitted_alone P at g (new_dummy w p.scope (negated n o x c)) own k t p
    finds_left at g w (braced b) h own k t p = finds_fitted_alone P at g (new_dummy w p.scope (braced b)) own k t p
    finds_left at g w (signed a x) h own k t p = finds_fitted_alone P at g (new_dummy w p.scope (signed a x)) own k t p
    finds_left at g w (reduced r b x) h own k t p = finds_fitted_alone P at g (new_dummy w p.scope (reduced r b x)) own k t p
    finds_left at g w (chain n x l) h own k t p = finds_fitted_alone P at g (new_dummy w p.scope (chain n x l)) own k t p
    finds_left at g w (choice i x a y e) h own k t p = finds_fitted_alone P at g (new_dummy w p.scope (choice i x a y e)) own k t p
    finds_left at g w (net a u) h own k t p = finds_fitted_alone P at g (new_dummy w p.scope (net a u)) own k t p

    finds_places : (at : Span) → P Model at → (w : World) (l : Links) → LinksStand (P Model) l → (ms : Tuple) (p : PartialRow) → Finds P (places at w l ms p)
    finds_places at h w none k ms p = tt
    finds_places at h w (link o x l) k [] p = tt
    finds_places at h w (link o x l) (j, k) (m ∷ ms) p =
        finds_then P (match_component at (new_dummy w p.scope x) (value w p.scope x) m p) (if_fits (places at w l ms))
        (finds_fitted P at h (new_dummy w p.scope x) (value w p.scope x) (finds_value w p.scope x j) m p)
        (finds_if_fits P (places at w l ms) (finds_places at h w l k ms))

    finds_holds : (at : Span) → P Model at → (w : World) (s : Scope) (p : Part) → PartStands (P Model) p → Finds P (holds at w s p)
    finds_holds at h w s absent k = tt
    finds_holds at h w s (part m x) k = finds_then P (value w s x) (truth at) (finds_value w s x k) (finds_truth P at h)
