-- Reading a text line by line: what a reader keeps small, and where a text may be cut.
use Rattle.std.proofs.Common.{◌≡◌, ◌≤◌, ℕ, ◌==◌, Bool, true, false, cond, List, [], ◌∷◌, ◌++◌, ℤ, pos, negsuc, Some, None, Ok, Err, refl, sym, ap, subst, ◌∙◌, length, map, arith}
use Rattle.std.specs.Prelude.{Option, Result, int_lt, unsigned_abs, slice_index_or, nat_le}
use Rattle.std.specs.List.{slice_split, onto_first}
use Rattle.std.specs.Str.Lines.{lines, lines_of_parts, strip_carriage_return}
use Rattle.std.proofs.lemmas.Bool.Decides.{nat_tests}
use Rattle.std.proofs.Math.ListN.{length-set, length-replicate}
use Rattle.net_normal.specs.Limits.{flow_node_limit, flow_arc_limit, flow_limit}
use Rattle.net_normal.specs.declared.problem.FlowArc.{FlowArc}
use Rattle.net_dimacs.specs.declared.problem_line.LineStatement.{LineStatement}
use Rattle.net_dimacs.specs.declared.problem_line.LineStatement.TheVariants as statements
use Rattle.net_dimacs.specs.declared.problem_fault.LineFault.{LineFault}
use Rattle.net_dimacs.specs.declared.problem_fault.LineFault.TheVariants.{LineOrder, Count}
use Rattle.net_dimacs.specs.Reading.{Sketch, place_of, new_sketch, is_past, with_node, with_node_at, bounds_fault, with_arc, with_arc_at, with_arc_or, State, Start, Open, Rejected, state_from, with_optional_statement}
use Rattle.net_dimacs.proofs.Cutting.{sketch_by, node_by, IsSmall}

-- ---- a draft keeps its nodes

abbrev IsSmallDraft : Result Sketch LineFault → Type 0
IsSmallDraft (Ok d) = length d.supplies ≤ flow_node_limit
IsSmallDraft (Err fault) = Unit {0}

small_kept : (line : ℕ) (read : Result Sketch LineFault) → IsSmallDraft read → IsSmall (state_from line read)
small_kept line (Ok d) h = h
small_kept line (Err fault) h = tt

few_nodes : (nodes : ℤ) → int_lt nodes (pos 1) ≡ false → int_lt (pos flow_node_limit) nodes ≡ false → unsigned_abs nodes ≤ flow_node_limit
few_nodes (pos n) p q = grind (arith, nat_tests)
few_nodes (negsuc n) p q = absurd cc

small_new : (s t u v : Bool) (nodes arcs : ℤ) → (s ≡ false → u ≡ false → unsigned_abs nodes ≤ flow_node_limit) → IsSmallDraft (sketch_by s t u v nodes arcs)
small_new true t u v nodes arcs h = tt
small_new false true u v nodes arcs h = tt
small_new false false true v nodes arcs h = tt
small_new false false false true nodes arcs h = tt
small_new false false false false nodes arcs h = let few = h refl refl in rw length-replicate few

small_node : (d : Sketch) (node : ℕ) (s t : Bool) (supply : ℤ) → length d.supplies ≤ flow_node_limit → IsSmallDraft (node_by d node s t supply)
small_node d node true t supply few = tt
small_node d node false true supply few = tt
small_node d node false false supply few = rw length-set few

small_node_at : (d : Sketch) (place : Option ℕ) (supply : ℤ) → length d.supplies ≤ flow_node_limit → IsSmallDraft (with_node_at d place supply)
small_node_at d None supply few = tt
small_node_at d (Some node) supply few = small_node d node (slice_index_or d.named node false) (is_past (pos flow_limit) supply) supply few

small_either : (t : Bool) (x y : Result Sketch LineFault) → IsSmallDraft x → IsSmallDraft y → IsSmallDraft (cond t x y)
small_either true x y p q = p
small_either false x y p q = q

small_arc_or : (d : Sketch) (fault : Option LineFault) (arc : FlowArc) → length d.supplies ≤ flow_node_limit → IsSmallDraft (with_arc_or d fault arc)
small_arc_or d None arc few = few
small_arc_or d (Some fault) arc few = tt

small_arc_at : (d : Sketch) (src dst : Option ℕ) (low cap cost : ℤ) → length d.supplies ≤ flow_node_limit → IsSmallDraft (with_arc_at d src dst low cap cost)
small_arc_at d None dst low cap cost few = tt
small_arc_at d (Some src) None low cap cost few = tt
small_arc_at d (Some src) (Some dst) low cap cost few = small_arc_or d (bounds_fault low cap cost) (record { src = src; dst = dst; low = low; cap = cap; cost = cost }) few

pub small_said : (line : ℕ) (state : State) (line_statement : Option LineStatement) → IsSmall state → IsSmall (with_optional_statement line state line_statement)
small_said line state None few = few
small_said line Start (Some (statements.Problem nodes arcs)) few =
    small_kept line (new_sketch nodes arcs) (small_new (int_lt nodes (pos 1)) (int_lt arcs (pos 0)) (int_lt (pos flow_node_limit) nodes) (int_lt (pos flow_arc_limit) arcs) nodes arcs (few_nodes nodes))
small_said line Start (Some (statements.Node node supply)) few = tt
small_said line Start (Some (statements.Arc src dst low cap cost)) few = tt
small_said line Start (Some statements.Other) few = tt
small_said line (Open d) (Some (statements.Problem nodes arcs)) few = tt
small_said line (Open d) (Some (statements.Node node supply)) few =
    small_kept line (with_node d node supply) (small_either (length d.arcs == 0) (with_node_at d (place_of d node) supply) (Err LineOrder) (small_node_at d (place_of d node) supply few) tt)
small_said line (Open d) (Some (statements.Arc src dst low cap cost)) few =
    small_kept line (with_arc d src dst low cap cost) (small_either (nat_le d.arc_count (length d.arcs)) (Err Count) (with_arc_at d (place_of d src) (place_of d dst) low cap cost) tt (small_arc_at d (place_of d src) (place_of d dst) low cap cost few))
small_said line (Open d) (Some statements.Other) few = tt
small_said line (Rejected r) (Some statement) few = tt

-- ---- where a text may be cut

abbrev is_feed : ℕ → Bool
is_feed b = b == 10

-- there is a part, at least
parts_step : (b : ℕ) (t : Bool) (parts : List (List ℕ)) → (x : List ℕ) × (xs : List (List ℕ)) × (cond t ([] ∷ parts) (onto_first b parts) ≡ x ∷ xs)
parts_step b true parts = ([], parts, refl)
parts_step b false [] = (b ∷ [], [], refl)
parts_step b false (y ∷ ys) = (b ∷ y, ys, refl)

pub split_parts : (bs : List ℕ) → (x : List ℕ) × (xs : List (List ℕ)) × (slice_split is_feed bs ≡ x ∷ xs)
split_parts [] = ([], [], refl)
split_parts (b ∷ bs) = parts_step b (is_feed b) (slice_split is_feed bs)

-- the parts up to an LF, whatever follows it
record Whole (front : List ℕ) : Type 0 where
  first : List ℕ
  others : List (List ℕ)
  parts : (more : List ℕ) → slice_split is_feed (front ++ 10 ∷ more) ≡ first ∷ (others ++ slice_split is_feed more)

whole_step : (b : ℕ) (front : List ℕ) (t : Bool) → is_feed b ≡ t → Whole front → Whole (b ∷ front)
whole_step b front true e h = record {
  first = [];
  others = h.first ∷ h.others;
  parts = λ more. ap (λ (t : Bool). cond t ([] ∷ slice_split is_feed (front ++ 10 ∷ more)) (onto_first b (slice_split is_feed (front ++ 10 ∷ more)))) e
      ∙ ap (λ (ps : List (List ℕ)). [] ∷ ps) (h.parts more);
}
whole_step b front false e h = record {
  first = b ∷ h.first;
  others = h.others;
  parts = λ more. ap (λ (t : Bool). cond t ([] ∷ slice_split is_feed (front ++ 10 ∷ more)) (onto_first b (slice_split is_feed (front ++ 10 ∷ more)))) e
      ∙ ap (onto_first b) (h.parts more);
}

whole_front : (front : List ℕ) → Whole front
whole_front [] = record { first = []; others = []; parts = λ more. refl }
whole_front (b ∷ front) = whole_step b front (is_feed b) refl (whole_front front)

parts_joined : (ps : List (List ℕ)) (x : List ℕ) (xs : List (List ℕ)) → lines_of_parts (ps ++ x ∷ xs) ≡ map strip_carriage_return ps ++ lines_of_parts (x ∷ xs)
parts_joined [] x xs = refl
parts_joined (p ∷ []) x xs = refl
parts_joined (p ∷ q ∷ ps) x xs = ap (λ (ls : List (List ℕ)). strip_carriage_return p ∷ ls) (parts_joined (q ∷ ps) x xs)

parts_then : (ps qs : List (List ℕ)) (x : List ℕ) (xs : List (List ℕ)) → qs ≡ x ∷ xs → lines_of_parts (ps ++ qs) ≡ map strip_carriage_return ps ++ lines_of_parts qs
parts_then ps qs x xs e = subst (λ (rs : List (List ℕ)). lines_of_parts (ps ++ rs) ≡ map strip_carriage_return ps ++ lines_of_parts rs) (sym e) (parts_joined ps x xs)

lines_by : (front more : List ℕ) → let w = whole_front front in lines (front ++ 10 ∷ more) ≡ map strip_carriage_return (w.first ∷ w.others) ++ lines more
lines_by front more =
    let w = whole_front front in
    let p = split_parts more in
    ap lines_of_parts (w.parts more) ∙ parts_then (w.first ∷ w.others) (slice_split is_feed more) p.0 p.1 p.2

nothing_more : (ls : List (List ℕ)) → ls ++ [] ≡ ls
nothing_more [] = refl
nothing_more (l ∷ ls) = ap (λ (ms : List (List ℕ)). l ∷ ms) (nothing_more ls)

-- behind an LF other lines begin
pub lines_joined : (front more : List ℕ) → lines (front ++ 10 ∷ more) ≡ lines (front ++ 10 ∷ []) ++ lines more
lines_joined front more =
    lines_by front more ∙ ap (λ (ls : List (List ℕ)). ls ++ lines more) (sym (lines_by front [] ∙ nothing_more (map strip_carriage_return ((whole_front front).first ∷ (whole_front front).others))))
