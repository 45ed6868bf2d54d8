-- The ends of arcs are the places of the nodes that are named.
use Rattle.std.specs.Prelude.{◌≡◌, ◌+◌, ℕ, Bool, true, false, List, [], ◌++◌, length, slice_get, nat_eq, nat_lt, int_lt, Option, None, Some, if◌then◌else◌, Ok, Err, ℤ}
use Rattle.std.specs.List.{IsDistinct}
use Rattle.std.proofs.Common.{refl, ap, sym, subst}
use Rattle.net_base.specs.declared.diagnostic.Span.{Span}
use Rattle.net_lex.specs.declared.token.Token.{Token}
use Rattle.net_sets.specs.declared.member.Member.TheVariants.{Number, Name as Text}
use Rattle.net_sets.specs.Sets.{Tuple, place_of}
use Rattle.net_tree.specs.Spans.{span_of}
use Rattle.net_tree.specs.Tree.{Tree, leaf, indexed, parens, tuple, negated, braced, signed, reduced, chain, choice, net}
use Rattle.net_base.specs.declared.diagnostic.Detail.{Detail}
use Rattle.net_base.specs.declared.error_code.ErrorCode.TheVariants.{ValueTooLarge, Arity, NoSuchNode, ArcCrossed}
use Rattle.net_expr.specs.declared.row.Row.{Row}
use Rattle.net_expr.specs.declared.value.Value.{Value}
use Rattle.net_expr.specs.declared.value.Value.TheVariants.{One, Several, Many, Truth}
use Rattle.net_expr.specs.Limits.{is_small}
use Rattle.net_expr.specs.Operators.{member}
use Rattle.net_expr.specs.Values.{value}
use Rattle.net_expr.specs.Worlds.{Name, World, Scope, key_count, reference}
use Rattle.net_linear.specs.declared.key_numbers.KeyNumbers.{KeyNumbers}
use Rattle.net_linear.specs.Arcs.{declared}
use Rattle.net_linear.specs.Objectives.{key_of}
use Rattle.net_inst.specs.declared.arc.Built.{Built}
use Rattle.net_inst.specs.Arcs.{end_at, with_ends, built}
use Rattle.net_inst.specs.AsWritten.{WrittenLabel, same_label, with_key, reference_in, end_of}
use Rattle.net_inst.specs.Groups.{Numbers}
use Rattle.net_inst.specs.Laws.{IsPlaceOf}
use Rattle.net_inst.specs.Nodes.{BuiltNodes, numbered, node_at, node_named}
use Rattle.net_inst.specs.Numbers.{number_in, number}
use Rattle.net_base.specs.Outcomes.{Outcome, and_then, rejected_of, rejected}
use Rattle.net_inst.specs.Phrases.{Parts}
use Rattle.net_inst.proofs.Labels.{Finds, found_label}
use Rattle.net_inst.proofs.Zips.{ok_then, ok_is, get_front}

-- a label stands at a place
pub record Stands (labels : List WrittenLabel) (name : Name) (key : Tuple) (v : ℕ) : Type 0 where
  pub label : WrittenLabel
  pub at : slice_get labels v ≡ Some label
  pub name_is : label.name ≡ name
  pub key_is : label.key ≡ key

place_is : (labels : List WrittenLabel) (numbers : Numbers) (name : Name) (key : Tuple) (v count : ℕ) (at : Span) → Finds labels numbers → IsDistinct same_label labels
    → node_at count at name (declared numbers name) key ≡ Ok v → Stands labels name key v
place_is labels numbers name key v count at finds distinct e = by_keys (declared numbers name) refl e
  where
    by_place : (k : KeyNumbers) → declared numbers name ≡ Some k → (o : Option ℕ) → place_of k.keys key ≡ o → (d : Detail) → numbered count at d k.first o ≡ Ok v → Stands labels name key v
    by_place k h None i d j = cc
    by_place k h (Some p) i d j = go (nat_lt (k.first + p) count) j
      where
        go : (b : Bool) → (let o : Outcome ℕ = if b then Ok (k.first + p) else rejected_of NoSuchNode at d in o ≡ Ok v) → Stands labels name key v
        go true f =
            let found = found_label labels numbers name k key p v finds distinct h i (sym (ok_is (k.first + p) v f)) in
            record { label = found.0; at = found.1; name_is = found.2; key_is = found.3 }
        go false f = cc

    by_keys : (o : Option KeyNumbers) → declared numbers name ≡ o → node_at count at name o key ≡ Ok v → Stands labels name key v
    by_keys None h i = cc
    by_keys (Some k) h i = go (nat_eq (length key) (key_count k.count)) i
      where
        go : (b : Bool) → (if b then numbered count at (reference name k.count key) k.first (place_of k.keys key) else rejected Arity at) ≡ Ok v → Stands labels name key v
        go true f = by_place k h (place_of k.keys key) refl (reference name k.count key) f
        go false f = cc

as_place : (labels : List WrittenLabel) (name : Name) (key : Tuple) (v : ℕ) → Stands labels name key v → IsPlaceOf labels (Some (name, key)) (Some v)
as_place labels name key v s = (s.label, s.at, s.name_is, s.key_is)

-- the node that a tree names
pub named_place : (labels : List WrittenLabel) (ns : BuiltNodes) (w : World) (s : Scope) (t : Tree) (v : ℕ) → Finds labels ns.group.numbers → IsDistinct same_label labels
    → node_named ns w s t ≡ Ok v → IsPlaceOf labels (reference_in w s t) (Some v)
named_place labels ns w s (leaf t) v finds distinct e = as_place labels t.text [] v (place_is labels ns.group.numbers t.text [] v (length ns.ranges) (span_of (leaf t)) finds distinct e)
named_place labels ns w s (indexed n o x l c) v finds distinct e = go (key_of w s (span_of (indexed n o x l c)) x l) e
  where
    go : (k : Outcome Tuple) → and_then k (node_at (length ns.ranges) (span_of (indexed n o x l c)) n.text (declared ns.group.numbers n.text)) ≡ Ok v → IsPlaceOf labels (with_key n.text k) (Some v)
    go (Ok key) h = as_place labels n.text key v (place_is labels ns.group.numbers n.text key v (length ns.ranges) (span_of (indexed n o x l c)) finds distinct h)
    go (Err r) h = cc
named_place labels ns w s (parens o y c) v finds distinct e = cc
named_place labels ns w s (tuple o y l c) v finds distinct e = cc
named_place labels ns w s (negated n o y c) v finds distinct e = cc
named_place labels ns w s (braced b) v finds distinct e = cc
named_place labels ns w s (signed t y) v finds distinct e = cc
named_place labels ns w s (reduced m b y) v finds distinct e = cc
named_place labels ns w s (chain n y l) v finds distinct e = cc
named_place labels ns w s (choice i y t z p) v finds distinct e = cc
named_place labels ns w s (net t u) v finds distinct e = cc

pub end_place : (labels : List WrittenLabel) (ns : BuiltNodes) (w : World) (s : Scope) (o : Option Tree) (v : Option ℕ) → Finds labels ns.group.numbers → IsDistinct same_label labels
    → end_at ns w s o ≡ Ok v → IsPlaceOf labels (end_of w s o) v
end_place labels ns w s None v finds distinct e = subst (IsPlaceOf labels None) (ok_is None v e) tt
end_place labels ns w s (Some t) v finds distinct e =
    ok_then (node_named ns w s t) (λ u. Ok (Some u)) v e (λ u h i.
    subst (IsPlaceOf labels (reference_in w s t)) (ok_is (Some u) v i) (named_place labels ns w s t u finds distinct h))

-- behind more labels the places stay
pub place_stays : (labels more : List WrittenLabel) (r : Option (Name × Tuple)) (v : Option ℕ) → IsPlaceOf labels r v → IsPlaceOf (labels ++ more) r v
place_stays labels more None None h = tt
place_stays labels more None (Some v) h = absurd h
place_stays labels more (Some r) None h = absurd h
place_stays labels more (Some r) (Some v) h = (h.0, get_front labels more v h.0 h.1, h.2, h.3)

-- a number is the value
pub number_is : (w : World) (s : Scope) (t : Tree) (n : ℤ) → number w s t ≡ Ok n → value w s t ≡ Ok (One (Number n))
number_is w s t n e = go (value w s t) e
  where
    small : (m : ℤ) (b : Bool) → (let o : Outcome ℤ = if b then Ok m else rejected ValueTooLarge (span_of t) in o ≡ Ok n) → m ≡ n
    small m true h = ok_is m n h
    small m false h = cc

    wrap : ℤ → Outcome Value
    wrap m = Ok (One (Number m))

    go : (o : Outcome Value) → and_then (and_then o (member (span_of t))) (number_in (span_of t)) ≡ Ok n → o ≡ Ok (One (Number n))
    go (Ok (One (Number m))) h = ap wrap (small m (is_small m) h)
    go (Ok (One (Text u))) h = cc
    go (Ok (Several u)) h = cc
    go (Ok (Many d u)) h = cc
    go (Ok (Truth b)) h = cc
    go (Err r) h = cc

-- what an arc at a key comes to
pub record IsBuiltBy (ns : BuiltNodes) (w : World) (s : Scope) (p : Parts) (x : Built) : Type 0 where
  pub lower : value w s p.lower ≡ Ok (One (Number x.lower))
  pub upper : value w s p.upper ≡ Ok (One (Number x.upper))
  pub tail : end_at ns w s p.tail ≡ Ok x.tail
  pub head : end_at ns w s p.head ≡ Ok x.head

pub built_is : (ns : BuiltNodes) (w : World) (n : Token) (k : Option ℕ) (p : Parts) (row : Row) (x : Built) → built ns w n k p row ≡ Ok x → IsBuiltBy ns w row.scope p x
built_is ns w n k p row x e =
    ok_then (number w row.scope p.lower) (λ l. and_then (number w row.scope p.upper) (λ u. uncrossed l u)) x e (λ l h i.
    ok_then (number w row.scope p.upper) (uncrossed l) x i (λ u j m. go l u h j (int_lt u l) m))
  where
    uncrossed : ℤ → ℤ → Outcome Built
    uncrossed l u = if int_lt u l then rejected_of ArcCrossed n.span (reference n.text k row.key) else with_ends ns w row.scope p l u

    go : (l u : ℤ) → number w row.scope p.lower ≡ Ok l → number w row.scope p.upper ≡ Ok u → (b : Bool) → (if b then rejected_of ArcCrossed n.span (reference n.text k row.key) else with_ends ns w row.scope p l u) ≡ Ok x → IsBuiltBy ns w row.scope p x
    go l u h i true m = cc
    go l u h i false m =
        ok_then (end_at ns w row.scope p.tail) (λ t. and_then (end_at ns w row.scope p.head) (λ z. Ok (record { lower = l; upper = u; tail = t; head = z }))) x m (λ t j f.
        ok_then (end_at ns w row.scope p.head) (λ z. Ok (record { lower = l; upper = u; tail = t; head = z })) x f (λ z q y.
        subst (IsBuiltBy ns w row.scope p) (ok_is (record { lower = l; upper = u; tail = t; head = z }) x y) (record { lower = number_is w row.scope p.lower l h; upper = number_is w row.scope p.upper u i; tail = j; head = q })))
