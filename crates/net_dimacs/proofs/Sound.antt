-- What is read is what the text says.
use Rattle.std.proofs.Common.{◌≡◌, ◌≢◌, ◌≤◌, ◌<◌, ℕ, ◌+◌, Bool, true, false, cond, List, [], ◌∷◌, ◌++◌, ℤ, pos, Some, None, Ok, Err, refl, sym, ap, subst, ◌∙◌, length, replicate, get_or, set, map, arith, append-nil, append_assoc, length-append}
use Rattle.std.specs.Prelude.{Option, Result, filter_map, unsigned_abs, nat_lt}
use Rattle.std.specs.List.{AllByRecursion, cons_option}
use Rattle.std.specs.Str.Lines.{lines}
use Rattle.std.proofs.lemmas.Bool.Decides.{nat_tests}
use Rattle.std.proofs.lemmas.List.{get_or-set_same, get_or-set_other, length-set, length-replicate, get_or-replicate}
use Rattle.net_normal.specs.declared.problem.FlowArc.{FlowArc}
use Rattle.net_dimacs.specs.declared.problem_line.LineStatement.{LineStatement}
use Rattle.net_dimacs.specs.declared.problem_line.LineStatement.TheVariants as statements
use Rattle.net_dimacs.specs.declared.problem_fault.Rejection.{Rejection}
use Rattle.net_dimacs.specs.declared.problem_fault.LineFault.{LineFault}
use Rattle.net_dimacs.specs.declared.problem_fault.LineFault.TheVariants.{Count}
use Rattle.net_dimacs.specs.Reading.{Sketch, new_sketch, with_node, with_arc, State, Start, Open, Rejected, state_from, with_optional_statement, line_statement, Numbers, finished, read_lines}
use Rattle.net_dimacs.specs.Problems.{Named, node_statement, arc_statement, AreDistinct, supply_after, IsProblemText}
use Rattle.net_dimacs.proofs.Steps.{marked, with_one, first_sketch, set_supply, NodeStep, node_step, ArcStep, arc_step, new_step}

-- a refusal stays
rejected_said : (line : ℕ) (r : Rejection) (x : Option LineStatement) → with_optional_statement line (Rejected r) x ≡ Rejected r
rejected_said line r None = refl
rejected_said line r (Some x) = refl

pub rejected_reads : (line : ℕ) (r : Rejection) (ls : List (List ℕ)) → read_lines line (Rejected r) ls ≡ Err r
rejected_reads line r [] = refl
rejected_reads line r (l ∷ ls) = ap (λ (x : State). read_lines (line + 1) x ls) (rejected_said line r (line_statement l)) ∙ rejected_reads (line + 1) r ls

no_more : {A : Type 0} (line : ℕ) (r : Rejection) (ls : List (List ℕ)) (read : Numbers) → read_lines line (Rejected r) ls ≡ Ok read → A
no_more line r ls read e = absurd (let h = sym (rejected_reads line r ls) ∙ e in cc)

-- the marks are one for each node, and the arcs have room
pub record IsSound (d : Sketch) : Type 0 where
  pub marks : length d.named ≡ length d.supplies
  pub room : length d.arcs ≤ d.arc_count

-- what the lines behind a draft say of the problem that is read in the end
pub record Extends (d : Sketch) (says : List LineStatement) (s : List ℤ) (a : List FlowArc) : Type 0 where
  pub nodes : List Named
  pub more : List FlowArc
  pub lines : says ≡ map node_statement nodes ++ map arc_statement more
  pub order : 0 < length d.arcs → nodes ≡ []
  pub arcs : a ≡ d.arcs ++ more
  pub counted : length a ≡ d.arc_count
  pub size : length s ≡ length d.supplies
  pub within : AllByRecursion (λ n. n.0 < length d.supplies) nodes
  pub fresh : AllByRecursion (λ n. get_or d.named n.0 false ≡ false) nodes
  pub distinct : AreDistinct nodes
  pub supply : (v : ℕ) → v < length d.supplies → get_or s v (pos 0) ≡ supply_after nodes v (get_or d.supplies v (pos 0))

-- ---- one node more

unmarked : (marks : List Bool) (v w : ℕ) → v < length marks → get_or (set marks v true) w false ≡ false → (w ≢ v) × (get_or marks w false ≡ false)
unmarked marks v w h e =
    let other : w ≢ v = λ same. let t = sym (get_or-set_same marks v true false h) ∙ ap (λ (k : ℕ). get_or (set marks v true) k false) (sym same) ∙ e in cc in
    (other, sym (get_or-set_other marks v w true false other) ∙ e)

still_fresh : (marks : List Bool) (v : ℕ) (nodes : List Named) → v < length marks → AllByRecursion (λ n. get_or (set marks v true) n.0 false ≡ false) nodes
    → AllByRecursion (λ n. get_or marks n.0 false ≡ false) nodes × AllByRecursion (λ n. n.0 ≢ v) nodes
still_fresh marks v [] h fresh = (tt, tt)
still_fresh marks v (n ∷ ns) h fresh =
    let one = unmarked marks v n.0 h fresh.0 in
    let rest = still_fresh marks v ns h fresh.1 in
    ((one.1, rest.0), (one.0, rest.1))

sound_marked : (d : Sketch) (v : ℕ) (z : ℤ) → IsSound d → IsSound (marked d v z)
sound_marked d v z good = record { marks = length-set d.named v true ∙ good.marks ∙ sym (length-set d.supplies v z); room = good.room }

node_extends : (d : Sketch) (z f : ℤ) (d' : Sketch) (says : List LineStatement) (s : List ℤ) (a : List FlowArc) (n : NodeStep d z f d') → IsSound d
    → Extends (marked d n.place f) says s a → Extends d (statements.Node z f ∷ says) s a
node_extends d z f d' says s a n good more =
    let v = n.place in
    let h : v < length d.named = omega (arith, good.marks, n.within) in
    let marks = still_fresh d.named v more.nodes h more.fresh in
    let size = length-set d.supplies v f in
    let bare : length d.arcs ≡ 0 = ap length n.no_arcs in
    record {
      nodes = (v, f) ∷ more.nodes;
      more = more.more;
      lines = ap (λ (x : ℤ). statements.Node x f ∷ says) n.node_is ∙ ap (λ (x : List LineStatement). statements.Node (pos (v + 1)) f ∷ x) more.lines;
      order = λ some. absurd (omega (arith, bare));
      arcs = more.arcs;
      counted = more.counted;
      size = more.size ∙ size;
      within = (n.within, subst (λ (k : ℕ). AllByRecursion (λ m. m.0 < k) more.nodes) size more.within);
      fresh = (n.fresh, marks.0);
      distinct = (marks.1, more.distinct);
      supply = λ w inside. more.supply w (let k : w < length (set d.supplies v f) = omega (arith, size) in k) ∙ ap (λ (x : ℤ). supply_after more.nodes w x) (set_supply d.supplies v w f n.within);
    }

-- ---- one arc more

sound_with_one : (d : Sketch) (arc : FlowArc) → IsSound d → length d.arcs < d.arc_count → IsSound (with_one d arc)
sound_with_one d arc good room = record { marks = good.marks; room = omega (arith, length-append d.arcs (arc ∷ [])) }

arc_extends : (d : Sketch) (src dst low cap cost : ℤ) (d' : Sketch) (says : List LineStatement) (s : List ℤ) (a : List FlowArc) (step : ArcStep d src dst low cap cost d')
    → Extends (with_one d step.arc) says s a → Extends d (statements.Arc src dst low cap cost ∷ says) s a
arc_extends d src dst low cap cost d' says s a step more =
    let arc = step.arc in
    let none : more.nodes ≡ [] = more.order (omega (arith, length-append d.arcs (arc ∷ []))) in
    let spelled : statements.Arc src dst low cap cost ≡ arc_statement arc = let e1 = step.src_is in let e2 = step.dst_is in let e3 = step.low_is in let e4 = step.cap_is in let e5 = step.cost_is in cc in
    record {
      nodes = [];
      more = arc ∷ more.more;
      lines = ap (λ (x : List LineStatement). statements.Arc src dst low cap cost ∷ x) (more.lines ∙ ap (λ (ns : List Named). map node_statement ns ++ map arc_statement more.more) none)
          ∙ ap (λ (x : LineStatement). x ∷ map arc_statement more.more) spelled;
      order = λ some. refl;
      arcs = more.arcs ∙ append_assoc d.arcs (arc ∷ []) more.more;
      counted = more.counted;
      size = more.size;
      within = tt;
      fresh = tt;
      distinct = tt;
      supply = λ v inside. more.supply v inside ∙ ap (λ (ns : List Named). supply_after ns v (get_or d.supplies v (pos 0))) none;
    }

-- ---- all lines behind the `p` line

finished_by : (t : Bool) (r : Rejection) (x y : Numbers) → cond t (Err r) (Ok x) ≡ Ok y → (t ≡ false) × (x ≡ y)
finished_by true r x y e = absurd cc
finished_by false r x y e = (refl, cc)

end_extends : (line : ℕ) (d : Sketch) (s : List ℤ) (a : List FlowArc) → IsSound d → finished line (Open d) ≡ Ok (s, a) → Extends d [] s a
end_extends line d s a good e =
    let p = finished_by (nat_lt (length d.arcs) d.arc_count) (record { fault = Count; line = line }) (d.supplies, d.arcs) (s, a) e in
    let arcs : d.arcs ≡ a = ap (λ (x : Numbers). x.1) p.1 in
    let supplies : d.supplies ≡ s = ap (λ (x : Numbers). x.0) p.1 in
    let whole : d.arc_count ≤ length d.arcs = grind (arith, nat_tests, p.0) in
    record {
      nodes = [];
      more = [];
      lines = refl;
      order = λ some. refl;
      arcs = sym arcs ∙ sym (append-nil d.arcs);
      counted = omega (arith, ap length arcs, whole, good.room);
      size = ap length (sym supplies);
      within = tt;
      fresh = tt;
      distinct = tt;
      supply = λ v inside. ap (λ (x : List ℤ). get_or x v (pos 0)) (sym supplies);
    }

abbrev Reads : ℕ → Sketch → List (List ℕ) → List ℤ → List FlowArc → Type 0
Reads line d ls s a = read_lines line (Open d) ls ≡ Ok (s, a)

node_line : (line : ℕ) (d : Sketch) (z f : ℤ) (ls : List (List ℕ)) (s : List ℤ) (a : List FlowArc) (r : Result Sketch LineFault) → with_node d z f ≡ r → IsSound d
    → ((d' : Sketch) → IsSound d' → Reads (line + 1) d' ls s a → Extends d' (filter_map line_statement ls) s a)
    → read_lines (line + 1) (state_from line r) ls ≡ Ok (s, a) → Extends d (statements.Node z f ∷ filter_map line_statement ls) s a
node_line line d z f ls s a (Err fault) w good more e = no_more (line + 1) (record { fault = fault; line = line }) ls (s, a) e
node_line line d z f ls s a (Ok d') w good more e =
    let n = node_step d z f d' w in
    node_extends d z f d' (filter_map line_statement ls) s a n good
    (more (marked d n.place f) (sound_marked d n.place f good) (ap (λ (x : Sketch). read_lines (line + 1) (Open x) ls) n.result ∙ e))

arc_line : (line : ℕ) (d : Sketch) (src dst low cap cost : ℤ) (ls : List (List ℕ)) (s : List ℤ) (a : List FlowArc) (r : Result Sketch LineFault) → with_arc d src dst low cap cost ≡ r → IsSound d
    → ((d' : Sketch) → IsSound d' → Reads (line + 1) d' ls s a → Extends d' (filter_map line_statement ls) s a)
    → read_lines (line + 1) (state_from line r) ls ≡ Ok (s, a) → Extends d (statements.Arc src dst low cap cost ∷ filter_map line_statement ls) s a
arc_line line d src dst low cap cost ls s a (Err fault) w good more e = no_more (line + 1) (record { fault = fault; line = line }) ls (s, a) e
arc_line line d src dst low cap cost ls s a (Ok d') w good more e =
    let step = arc_step d src dst low cap cost d' w in
    arc_extends d src dst low cap cost d' (filter_map line_statement ls) s a step
    (more (with_one d step.arc) (sound_with_one d step.arc good step.room) (ap (λ (x : Sketch). read_lines (line + 1) (Open x) ls) step.result ∙ e))

said_line : (line : ℕ) (d : Sketch) (x : Option LineStatement) (ls : List (List ℕ)) (s : List ℤ) (a : List FlowArc) → IsSound d
    → ((d' : Sketch) → IsSound d' → Reads (line + 1) d' ls s a → Extends d' (filter_map line_statement ls) s a)
    → read_lines (line + 1) (with_optional_statement line (Open d) x) ls ≡ Ok (s, a) → Extends d (cons_option x (filter_map line_statement ls)) s a
said_line line d None ls s a good more e = more d good e
said_line line d (Some (statements.Problem nodes arcs)) ls s a good more e = no_more (line + 1) _ ls (s, a) e
said_line line d (Some (statements.Node z f)) ls s a good more e = node_line line d z f ls s a (with_node d z f) refl good more e
said_line line d (Some (statements.Arc src dst low cap cost)) ls s a good more e = arc_line line d src dst low cap cost ls s a (with_arc d src dst low cap cost) refl good more e
said_line line d (Some statements.Other) ls s a good more e = no_more (line + 1) _ ls (s, a) e

open_extends : (line : ℕ) (d : Sketch) (ls : List (List ℕ)) (s : List ℤ) (a : List FlowArc) → IsSound d → Reads line d ls s a → Extends d (filter_map line_statement ls) s a
open_extends line d [] s a good e = end_extends line d s a good e
open_extends line d (l ∷ ls) s a good e = said_line line d (line_statement l) ls s a good (λ d' good' e'. open_extends (line + 1) d' ls s a good' e') e

-- ---- the whole text

-- what the lines say of the problem that is read in the end
record Reports (says : List LineStatement) (s : List ℤ) (a : List FlowArc) : Type 0 where
  nodes : List Named
  lines : says ≡ statements.Problem (pos (length s)) (pos (length a)) ∷ (map node_statement nodes ++ map arc_statement a)
  within : AllByRecursion (λ n. n.0 < length s) nodes
  distinct : AreDistinct nodes
  supply : (v : ℕ) → v < length s → get_or s v (pos 0) ≡ supply_after nodes v (pos 0)

reports : (n m : ℕ) (says : List LineStatement) (s : List ℤ) (a : List FlowArc) → Extends (first_sketch n m) says s a → Reports (statements.Problem (pos n) (pos m) ∷ says) s a
reports n m says s a more =
    let size : length s ≡ n = more.size ∙ length-replicate n (pos 0) in
    let count : length a ≡ m = more.counted in
    record {
      nodes = more.nodes;
      lines = ap (λ (x : List LineStatement). statements.Problem (pos n) (pos m) ∷ x) (more.lines ∙ ap (λ (x : List FlowArc). map node_statement more.nodes ++ map arc_statement x) (sym more.arcs))
          ∙ ap (λ (k : ℕ). statements.Problem (pos k) (pos m) ∷ (map node_statement more.nodes ++ map arc_statement a)) (sym size)
          ∙ ap (λ (k : ℕ). statements.Problem (pos (length s)) (pos k) ∷ (map node_statement more.nodes ++ map arc_statement a)) (sym count);
      within = subst (λ (k : ℕ). AllByRecursion (λ x. x.0 < k) more.nodes) (sym more.size) more.within;
      distinct = more.distinct;
      supply = λ v inside.
          more.supply v (let k : v < length (replicate n (pos 0)) = omega (arith, more.size) in k)
          ∙ ap (λ (x : ℤ). supply_after more.nodes v x) (get_or-replicate n v (pos 0) (pos 0) (omega (arith, size)));
    }

head_line : (line : ℕ) (nodes arcs : ℤ) (ls : List (List ℕ)) (s : List ℤ) (a : List FlowArc) (r : Result Sketch LineFault) → new_sketch nodes arcs ≡ r
    → read_lines (line + 1) (state_from line r) ls ≡ Ok (s, a) → Reports (statements.Problem nodes arcs ∷ filter_map line_statement ls) s a
head_line line nodes arcs ls s a (Err fault) w e = no_more (line + 1) (record { fault = fault; line = line }) ls (s, a) e
head_line line nodes arcs ls s a (Ok d') w e =
    let step = new_step nodes arcs d' w in
    let n = unsigned_abs nodes in
    let m = unsigned_abs arcs in
    let good : IsSound (first_sketch n m) = record { marks = length-replicate n false ∙ sym (length-replicate n (pos 0)); room = omega arith } in
    let more = open_extends (line + 1) (first_sketch n m) ls s a good (ap (λ (x : Sketch). read_lines (line + 1) (Open x) ls) step.result ∙ e) in
    let spelled : statements.Problem nodes arcs ≡ statements.Problem (pos n) (pos m) = let e1 = step.nodes_is in let e2 = step.arcs_is in cc in
    subst (λ (x : LineStatement). Reports (x ∷ filter_map line_statement ls) s a) (sym spelled) (reports n m (filter_map line_statement ls) s a more)

start_line : (line : ℕ) (x : Option LineStatement) (ls : List (List ℕ)) (s : List ℤ) (a : List FlowArc) → (read_lines (line + 1) Start ls ≡ Ok (s, a) → Reports (filter_map line_statement ls) s a)
    → read_lines (line + 1) (with_optional_statement line Start x) ls ≡ Ok (s, a) → Reports (cons_option x (filter_map line_statement ls)) s a
start_line line None ls s a more e = more e
start_line line (Some (statements.Problem nodes arcs)) ls s a more e = head_line line nodes arcs ls s a (new_sketch nodes arcs) refl e
start_line line (Some (statements.Node z f)) ls s a more e = no_more (line + 1) _ ls (s, a) e
start_line line (Some (statements.Arc src dst low cap cost)) ls s a more e = no_more (line + 1) _ ls (s, a) e
start_line line (Some statements.Other) ls s a more e = no_more (line + 1) _ ls (s, a) e

start_reports : (line : ℕ) (ls : List (List ℕ)) (s : List ℤ) (a : List FlowArc) → read_lines line Start ls ≡ Ok (s, a) → Reports (filter_map line_statement ls) s a
start_reports line [] s a e = absurd cc
start_reports line (l ∷ ls) s a e = start_line line (line_statement l) ls s a (start_reports (line + 1) ls s a) e

pub is_problem_text : (text : List ℕ) (s : List ℤ) (a : List FlowArc) → read_lines 1 Start (lines text) ≡ Ok (s, a) → IsProblemText text s a
is_problem_text text s a e =
    let t = start_reports 1 (lines text) s a e in
    record { named = t.nodes; says = t.lines; nodes = t.within; distinct = t.distinct; supply = t.supply }
