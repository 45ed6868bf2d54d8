-- What a text says is read.
use Rattle.std.proofs.Common.{◌≡◌, ◌≢◌, ◌≤◌, ◌<◌, ℕ, ◌+◌, ◌-◌, ◌==◌, Bool, true, false, cond, ◌&&◌, ◌||◌, List, [], ◌∷◌, ◌++◌, ℤ, pos, neg_ℤ, Some, None, Ok, Err, refl, sym, ap, subst, ◌∙◌, length, replicate, get_or, set, map, arith, append-nil, append_assoc, length-append}
use Rattle.std.specs.Prelude.{Option, Result, IsOk, filter_map, int_lt, int_le, nat_lt, nat_le}
use Rattle.std.specs.List.{AllByRecursion, cons_option}
use Rattle.std.specs.Str.Lines.{lines}
use Rattle.std.proofs.lemmas.Bool.Decides.{nat_tests}
use Rattle.std.proofs.lemmas.Int.{ints}
use Rattle.std.proofs.lemmas.List.Elements.{recursion_from_All}
use Rattle.std.proofs.lemmas.List.{get_or-set_other, length-set, length-replicate, get_or-replicate, get_or_default, same_lists}
use Rattle.net_normal.specs.Limits.{IsSized, IsFlowArcOf, flow_node_limit, flow_arc_limit, flow_limit, cost_limit}
use Rattle.net_normal.specs.declared.problem.FlowArc.{FlowArc}
use Rattle.net_dimacs.specs.declared.problem_line.LineStatement.{LineStatement}
use Rattle.net_dimacs.specs.declared.problem_line.LineStatement.TheVariants as statements
use Rattle.net_dimacs.specs.declared.problem_fault.Rejection.{Rejection}
use Rattle.net_dimacs.specs.declared.problem_fault.LineFault.{LineFault}
use Rattle.net_dimacs.specs.declared.problem_fault.LineFault.TheVariants.{LineOrder, Count}
use Rattle.net_dimacs.specs.Reading.{Sketch, place_of, is_past, new_sketch, with_node, with_node_at, with_arc, with_arc_at, with_arc_or, bounds_fault, State, Start, Open, state_from, with_statement, with_optional_statement, line_statement, Numbers, finished, read_lines}
use Rattle.net_dimacs.specs.Problems.{Named, node_statement, arc_statement, AreDistinct, supply_after, IsProblemText, BeginsProblem, statements_of}
use Rattle.net_normal.specs.Limits.{IsWithinLimits}
use Rattle.net_dimacs.proofs.Lists.{all_map, all_both}
use Rattle.net_dimacs.proofs.Steps.{marked, with_one, first_sketch, set_supply}
use Rattle.net_dimacs.proofs.Cutting.{sketch_by, node_by, bounds_by}

-- ---- tests that pass

place_by : (s t : Bool) (n v : ℕ) → s ≡ true → t ≡ true → n ≡ v → cond (s && t) (Some n) None ≡ Some v
place_by true true n v p q e = ap Some e
place_by true false n v p q e = absurd cc
place_by false t n v p q e = absurd cc

place_there : (d : Sketch) (v : ℕ) → v < length d.supplies → place_of d (pos (v + 1)) ≡ Some v
place_there d v h =
    place_by (int_le (pos 1) (pos (v + 1))) (int_le (pos (v + 1)) (pos (length d.supplies))) (v + 1 - 1) v (grind (arith, nat_tests)) (grind (arith, nat_tests)) (omega arith)

sized_below : (l : ℕ) (z : ℤ) → IsSized l z → int_lt (pos l) z ≡ false
sized_below l z h = let b = h.below in grind (arith, ints)

sized_above : (l : ℕ) (z : ℤ) → IsSized l z → int_lt z (neg_ℤ (pos l)) ≡ false
sized_above l z h = let b = h.above in grind (arith, ints)

neither : (s t : Bool) → s ≡ false → t ≡ false → (s || t) ≡ false
neither true t p q = p
neither false t p q = q

not_past : (l : ℕ) (z : ℤ) → IsSized l z → is_past (pos l) z ≡ false
not_past l z h = neither (int_lt (pos l) z) (int_lt z (neg_ℤ (pos l))) (sized_below l z h) (sized_above l z h)

bounds_pass : (s t u v w : Bool) → s ≡ false → t ≡ false → u ≡ false → v ≡ false → w ≡ false → bounds_by s t u v w ≡ None
bounds_pass true t u v w a b c d e = absurd cc
bounds_pass false true u v w a b c d e = absurd cc
bounds_pass false false true v w a b c d e = absurd cc
bounds_pass false false false true w a b c d e = absurd cc
bounds_pass false false false false true a b c d e = absurd cc
bounds_pass false false false false false a b c d e = refl

no_fault : (n : ℕ) (arc : FlowArc) → IsFlowArcOf n arc → bounds_fault arc.low arc.cap arc.cost ≡ None
no_fault n arc h =
    let low = h.low in
    let room = h.room in
    let cap = h.cap in
    bounds_pass (int_lt (pos flow_limit) arc.low) (int_lt (pos flow_limit) arc.cap) (is_past (pos cost_limit) arc.cost) (int_lt arc.low (pos 0)) (int_lt arc.cap arc.low)
    (grind (arith, ints)) (grind (arith, ints)) (not_past cost_limit arc.cost h.cost) (grind (arith, ints)) (grind (arith, ints))

-- ---- an arc is taken

arc_taken : (d : Sketch) (arc : FlowArc) → IsFlowArcOf (length d.supplies) arc → length d.arcs < d.arc_count
    → with_arc d (pos (arc.src + 1)) (pos (arc.dst + 1)) arc.low arc.cap arc.cost ≡ Ok (with_one d arc)
arc_taken d arc h room =
    let free : nat_le d.arc_count (length d.arcs) ≡ false = grind (arith, nat_tests) in
    ap (λ (t : Bool). cond t (Err Count) (with_arc_at d (place_of d (pos (arc.src + 1))) (place_of d (pos (arc.dst + 1))) arc.low arc.cap arc.cost)) free
    ∙ ap (λ (p : Option ℕ). with_arc_at d p (place_of d (pos (arc.dst + 1))) arc.low arc.cap arc.cost) (place_there d arc.src h.src)
    ∙ ap (λ (p : Option ℕ). with_arc_at d (Some arc.src) p arc.low arc.cap arc.cost) (place_there d arc.dst h.dst)
    ∙ ap (λ (f : Option LineFault). with_arc_or d f arc) (no_fault (length d.supplies) arc h)

abbrev Gives : ℕ → State → List (List ℕ) → List ℤ → List FlowArc → Type 0
Gives line state ls s a = read_lines line state ls ≡ Ok (s, a)

same_head : {A : Type 0} (x y : A) (xs ys : List A) → x ∷ xs ≡ y ∷ ys → (x ≡ y) × (xs ≡ ys)
same_head x y xs ys e = (cc, cc)

arcs_end : (line : ℕ) (d : Sketch) → length d.arcs ≡ d.arc_count → finished line (Open d) ≡ Ok (d.supplies, d.arcs ++ [])
arcs_end line d e =
    let whole : nat_lt (length d.arcs) d.arc_count ≡ false = grind (arith, nat_tests) in
    ap (λ (t : Bool). cond {A = Result Numbers Rejection} t (Err (record { fault = Count; line = line })) (Ok (d.supplies, d.arcs))) whole
    ∙ ap (λ (x : List FlowArc). Ok (d.supplies, x)) (sym (append-nil d.arcs))

abbrev ArcsFollow : List (List ℕ) → Type 0
ArcsFollow ls = (line : ℕ) (d : Sketch) (more : List FlowArc) → filter_map line_statement ls ≡ map arc_statement more → AllByRecursion (IsFlowArcOf (length d.supplies)) more
    → length d.arcs + length more ≡ d.arc_count → Gives line (Open d) ls d.supplies (d.arcs ++ more)

arc_said : (line : ℕ) (d : Sketch) (x : Option LineStatement) (ls : List (List ℕ)) (more : List FlowArc) → ArcsFollow ls → cons_option x (filter_map line_statement ls) ≡ map arc_statement more
    → AllByRecursion (IsFlowArcOf (length d.supplies)) more → length d.arcs + length more ≡ d.arc_count → Gives (line + 1) (with_optional_statement line (Open d) x) ls d.supplies (d.arcs ++ more)
arc_said line d None ls more follow e fit count = follow (line + 1) d more e fit count
arc_said line d (Some x) ls [] follow e fit count = absurd cc
arc_said line d (Some x) ls (arc ∷ more) follow e fit count =
    let both = same_head x (arc_statement arc) (filter_map line_statement ls) (map arc_statement more) e in
    let room : length d.arcs < d.arc_count = omega arith in
    ap (λ (y : LineStatement). read_lines (line + 1) (with_statement line (Open d) y) ls) both.0
    ∙ ap (λ (y : Result Sketch LineFault). read_lines (line + 1) (state_from line y) ls) (arc_taken d arc fit.0 room)
    ∙ follow (line + 1) (with_one d arc) more both.1 fit.1 (omega (arith, length-append d.arcs (arc ∷ [])))
    ∙ ap (λ (y : List FlowArc). Ok (d.supplies, y)) (append_assoc d.arcs (arc ∷ []) more)

arcs_read : (ls : List (List ℕ)) → ArcsFollow ls
arcs_read [] line d [] e fit count = arcs_end line d (omega arith)
arcs_read [] line d (arc ∷ more) e fit count = absurd cc
arcs_read (l ∷ ls) line d more e fit count = arc_said line d (line_statement l) ls more (arcs_read ls) e fit count

-- ---- a node is taken

node_passes : (s t : Bool) (d : Sketch) (v : ℕ) (z : ℤ) → s ≡ false → t ≡ false → node_by d v s t z ≡ Ok (marked d v z)
node_passes true t d v z p q = absurd cc
node_passes false true d v z p q = absurd cc
node_passes false false d v z p q = refl

node_taken : (d : Sketch) (v : ℕ) (z : ℤ) → d.arcs ≡ [] → v < length d.supplies → get_or d.named v false ≡ false → IsSized flow_limit z → with_node d (pos (v + 1)) z ≡ Ok (marked d v z)
node_taken d v z none h fresh sized =
    ap (λ (x : List FlowArc). cond (length x == 0) (with_node_at d (place_of d (pos (v + 1))) z) (Err LineOrder)) none
    ∙ ap (λ (p : Option ℕ). with_node_at d p z) (place_there d v h)
    ∙ node_passes (get_or d.named v false) (is_past (pos flow_limit) z) d v z fresh (not_past flow_limit z sized)

-- these nodes may be named, where these are marked
abbrev MayName : List Bool → ℕ → List Named → Type 0
MayName marks size [] = Unit {0}
MayName marks size (n ∷ ns) = (n.0 < size) × IsSized flow_limit n.1 × (get_or marks n.0 false ≡ false) × MayName (set marks n.0 true) size ns

abbrev set_all : List ℤ → List Named → List ℤ
set_all supplies [] = supplies
set_all supplies (n ∷ ns) = set_all (set supplies n.0 n.1) ns

abbrev NodesFollow : List (List ℕ) → Type 0
NodesFollow ls = (line : ℕ) (d : Sketch) (nodes : List Named) (more : List FlowArc) → filter_map line_statement ls ≡ map node_statement nodes ++ map arc_statement more → d.arcs ≡ [] → MayName d.named (length d.supplies) nodes
    → AllByRecursion (IsFlowArcOf (length d.supplies)) more → length more ≡ d.arc_count → Gives line (Open d) ls (set_all d.supplies nodes) more

only_arcs : (ls : List (List ℕ)) (line : ℕ) (d : Sketch) (more : List FlowArc) → filter_map line_statement ls ≡ map arc_statement more → d.arcs ≡ []
    → AllByRecursion (IsFlowArcOf (length d.supplies)) more → length more ≡ d.arc_count → Gives line (Open d) ls d.supplies more
only_arcs ls line d more e none fit count =
    let bare : length d.arcs ≡ 0 = ap length none in
    arcs_read ls line d more e fit (omega arith) ∙ ap (λ (x : List FlowArc). Ok (d.supplies, x ++ more)) none

node_said : (line : ℕ) (d : Sketch) (x : Option LineStatement) (ls : List (List ℕ)) (n : Named) (nodes : List Named) (more : List FlowArc) → NodesFollow ls
    → cons_option x (filter_map line_statement ls) ≡ node_statement n ∷ (map node_statement nodes ++ map arc_statement more) → d.arcs ≡ [] → MayName d.named (length d.supplies) (n ∷ nodes)
    → AllByRecursion (IsFlowArcOf (length d.supplies)) more → length more ≡ d.arc_count → Gives (line + 1) (with_optional_statement line (Open d) x) ls (set_all d.supplies (n ∷ nodes)) more
node_said line d None ls n nodes more follow e none may fit count = follow (line + 1) d (n ∷ nodes) more e none may fit count
node_said line d (Some x) ls n nodes more follow e none may fit count =
    let both = same_head x (node_statement n) (filter_map line_statement ls) (map node_statement nodes ++ map arc_statement more) e in
    let size = sym (length-set d.supplies n.0 n.1) in
    ap (λ (y : LineStatement). read_lines (line + 1) (with_statement line (Open d) y) ls) both.0
    ∙ ap (λ (y : Result Sketch LineFault). read_lines (line + 1) (state_from line y) ls) (node_taken d n.0 n.1 none may.0 may.2 may.1)
    ∙ follow (line + 1) (marked d n.0 n.1) nodes more both.1 none
    (subst (λ (k : ℕ). MayName (set d.named n.0 true) k nodes) size may.3)
    (subst (λ (k : ℕ). AllByRecursion (IsFlowArcOf k) more) size fit) count

nodes_read : (ls : List (List ℕ)) → NodesFollow ls
nodes_read ls line d [] more e none may fit count = only_arcs ls line d more e none fit count
nodes_read [] line d (n ∷ nodes) more e none may fit count = absurd cc
nodes_read (l ∷ ls) line d (n ∷ nodes) more e none may fit count = node_said line d (line_statement l) ls n nodes more (nodes_read ls) e none may fit count

-- ---- the `p` line

new_passes : (s t u v : Bool) (n m : ℕ) → s ≡ false → t ≡ false → u ≡ false → v ≡ false → sketch_by s t u v (pos n) (pos m) ≡ Ok (first_sketch n m)
new_passes true t u v n m a b c d = absurd cc
new_passes false true u v n m a b c d = absurd cc
new_passes false false true v n m a b c d = absurd cc
new_passes false false false true n m a b c d = absurd cc
new_passes false false false false n m a b c d = refl

new_taken : (n m : ℕ) → 1 ≤ n → n ≤ flow_node_limit → m ≤ flow_arc_limit → new_sketch (pos n) (pos m) ≡ Ok (first_sketch n m)
new_taken n m some few_nodes few_arcs =
    new_passes (int_lt (pos n) (pos 1)) (int_lt (pos m) (pos 0)) (int_lt (pos flow_node_limit) (pos n)) (int_lt (pos flow_arc_limit) (pos m)) n m
    (grind (arith, nat_tests)) (grind (arith, nat_tests)) (grind (arith, nat_tests)) (grind (arith, nat_tests))

-- the text of a problem within the limits begins one
pub begins : (text : List ℕ) (s : List ℤ) (a : List FlowArc) → 1 ≤ length s → length s ≤ flow_node_limit → length a ≤ flow_arc_limit → IsProblemText text s a → BeginsProblem (statements_of text)
begins text s a some few_nodes few_arcs is =
    subst BeginsProblem (sym is.says) (subst (λ (made : Result Sketch LineFault). IsOk made) (sym (new_taken (length s) (length a) some few_nodes few_arcs)) refl)

abbrev RestGives : List LineStatement → ℕ → ℕ → List ℤ → List FlowArc → Type 0
RestGives says n m s a = (line : ℕ) (ls : List (List ℕ)) → filter_map line_statement ls ≡ says → Gives line (Open (first_sketch n m)) ls s a

head_said : (line : ℕ) (x : Option LineStatement) (ls : List (List ℕ)) (says : List LineStatement) (n m : ℕ) (s : List ℤ) (a : List FlowArc) → 1 ≤ n → n ≤ flow_node_limit → m ≤ flow_arc_limit → RestGives says n m s a
    → (filter_map line_statement ls ≡ statements.Problem (pos n) (pos m) ∷ says → Gives (line + 1) Start ls s a)
    → cons_option x (filter_map line_statement ls) ≡ statements.Problem (pos n) (pos m) ∷ says → Gives (line + 1) (with_optional_statement line Start x) ls s a
head_said line None ls says n m s a some few_nodes few_arcs rest more e = more e
head_said line (Some x) ls says n m s a some few_nodes few_arcs rest more e =
    let both = same_head x (statements.Problem (pos n) (pos m)) (filter_map line_statement ls) says e in
    ap (λ (y : LineStatement). read_lines (line + 1) (with_statement line Start y) ls) both.0
    ∙ ap (λ (y : Result Sketch LineFault). read_lines (line + 1) (state_from line y) ls) (new_taken n m some few_nodes few_arcs)
    ∙ rest (line + 1) ls both.1

head_read : (line : ℕ) (ls : List (List ℕ)) (says : List LineStatement) (n m : ℕ) (s : List ℤ) (a : List FlowArc) → 1 ≤ n → n ≤ flow_node_limit → m ≤ flow_arc_limit → RestGives says n m s a
    → filter_map line_statement ls ≡ statements.Problem (pos n) (pos m) ∷ says → Gives line Start ls s a
head_read line [] says n m s a some few_nodes few_arcs rest e = absurd cc
head_read line (l ∷ ls) says n m s a some few_nodes few_arcs rest e =
    head_said line (line_statement l) ls says n m s a some few_nodes few_arcs rest (head_read (line + 1) ls says n m s a some few_nodes few_arcs rest) e

-- ---- the supplies

length-set_all : (supplies : List ℤ) (nodes : List Named) → length (set_all supplies nodes) ≡ length supplies
length-set_all supplies [] = refl
length-set_all supplies (n ∷ ns) = length-set_all (set supplies n.0 n.1) ns ∙ length-set supplies n.0 n.1

set_all_supply : (supplies : List ℤ) (nodes : List Named) (w : ℕ) → AllByRecursion (λ n. n.0 < length supplies) nodes → get_or (set_all supplies nodes) w (pos 0) ≡ supply_after nodes w (get_or supplies w (pos 0))
set_all_supply supplies [] w within = refl
set_all_supply supplies (n ∷ ns) w within =
    set_all_supply (set supplies n.0 n.1) ns w (subst (λ (k : ℕ). AllByRecursion (λ m. m.0 < k) ns) (sym (length-set supplies n.0 n.1)) within.1)
    ∙ ap (λ (x : ℤ). supply_after ns w x) (set_supply supplies n.0 w n.1 within.0)

-- ---- what is named

pub absent : (nodes : List Named) (v : ℕ) (z : ℤ) → AllByRecursion (λ m. m.0 ≢ v) nodes → supply_after nodes v z ≡ z
absent [] v z none = refl
absent (n ∷ ns) v z none =
    let other : (n.0 == v) ≡ false = let h = none.0 in grind (arith, nat_tests) in
    ap (λ (t : Bool). supply_after ns v (cond t n.1 z)) other ∙ absent ns v z none.1

-- the last word on a node is its own
abbrev IsSaid : List Named → Named → Type 0
IsSaid nodes n = (z : ℤ) → supply_after nodes n.0 z ≡ n.1

same_node : (v : ℕ) → (v == v) ≡ true
same_node v = grind (arith, nat_tests)

all_said : (nodes : List Named) → AreDistinct nodes → AllByRecursion (IsSaid nodes) nodes
all_said [] distinct = tt
all_said (n ∷ ns) distinct = (
  λ z. ap (λ (t : Bool). supply_after ns n.0 (cond t n.1 z)) (same_node n.0) ∙ absent ns n.0 n.1 distinct.0,
  all_map (IsSaid ns) (IsSaid (n ∷ ns)) ns (λ m line_statement z. line_statement (cond (n.0 == m.0) n.1 z)) (all_said ns distinct.1),
)

may_name : (marks : List Bool) (size : ℕ) (nodes : List Named) → length marks ≡ size → AreDistinct nodes → AllByRecursion (λ n. n.0 < size) nodes → AllByRecursion (λ n. IsSized flow_limit n.1) nodes
    → AllByRecursion (λ n. get_or marks n.0 false ≡ false) nodes → MayName marks size nodes
may_name marks size [] e distinct within sized fresh = tt
may_name marks size (n ∷ ns) e distinct within sized fresh = (
  within.0,
  sized.0,
  fresh.0,
  may_name (set marks n.0 true) size ns (length-set marks n.0 true ∙ e) distinct.1 within.1 sized.1
      (all_both (λ m. m.0 ≢ n.0) (λ m. get_or marks m.0 false ≡ false) (λ m. get_or (set marks n.0 true) m.0 false ≡ false) ns
      (λ m other free. get_or-set_other marks n.0 m.0 true false other ∙ free) distinct.0 fresh.1),
)

-- ---- the whole text

same_supplies : (s : List ℤ) (nodes : List Named) → AllByRecursion (λ n. n.0 < length s) nodes → ((v : ℕ) → v < length s → get_or s v (pos 0) ≡ supply_after nodes v (pos 0))
    → set_all (replicate (length s) (pos 0)) nodes ≡ s
same_supplies s nodes within supply =
    let zeros = replicate (length s) (pos 0) in
    let count : length zeros ≡ length s = length-replicate (length s) (pos 0) in
    let size : length (set_all zeros nodes) ≡ length s = length-set_all zeros nodes ∙ count in
    same_lists (set_all zeros nodes) s size (λ k d h.
    let inside : k < length s = omega (arith, size) in
    get_or_default (set_all zeros nodes) k d (pos 0) h
    ∙ set_all_supply zeros nodes k (subst (λ (x : ℕ). AllByRecursion (λ m. m.0 < x) nodes) (sym count) within)
    ∙ ap (λ (x : ℤ). supply_after nodes k x) (get_or-replicate (length s) k (pos 0) (pos 0) inside)
    ∙ sym (supply k inside) ∙ get_or_default s k (pos 0) d inside)

pub text_is_read : (text : List ℕ) (s : List ℤ) (a : List FlowArc) → IsProblemText text s a → IsWithinLimits s a → read_lines 1 Start (lines text) ≡ Ok (s, a)
text_is_read text s a t fit =
    let n = length s in
    let m = length a in
    let nodes = t.named in
    let zeros = replicate n (pos 0) in
    let marks = replicate n false in
    let count : n ≡ length zeros = sym (length-replicate n (pos 0)) in
    let sized = all_both (λ x. x.0 < n) (IsSaid nodes) (λ x. IsSized flow_limit x.1) nodes
    (λ x h line_statement. subst (IsSized flow_limit) (t.supply x.0 h ∙ line_statement (pos 0)) (fit.supplies_fit x.0 (pos 0) h)) t.nodes (all_said nodes t.distinct) in
    let fresh = all_map (λ x. x.0 < n) (λ x. get_or marks x.0 false ≡ false) nodes (λ x h. get_or-replicate n x.0 false false h) t.nodes in
    let may = may_name marks n nodes (length-replicate n false) t.distinct t.nodes sized fresh in
    let arcs = recursion_from_All (IsFlowArcOf n) a fit.arcs_fit in
    let rest : RestGives (map node_statement nodes ++ map arc_statement a) n m s a = λ line ls e.
    nodes_read ls line (first_sketch n m) nodes a e refl (subst (λ (k : ℕ). MayName marks k nodes) count may) (subst (λ (k : ℕ). AllByRecursion (IsFlowArcOf k) a) count arcs) refl
    ∙ ap (λ (x : List ℤ). Ok (x, a)) (same_supplies s nodes t.nodes t.supply) in
    head_read 1 (lines text) (map node_statement nodes ++ map arc_statement a) n m s a fit.some_node fit.few_nodes fit.few_arcs rest t.says
