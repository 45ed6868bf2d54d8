-- A text that was written is its problem's.
use Rattle.std.proofs.Common.{◌≡◌, ◌≢◌, ◌≤◌, ◌<◌, ℕ, zero, suc, ◌+◌, ◌-◌, ◌^◌, ◌==◌, Bool, true, false, cond, List, [], ◌∷◌, ◌++◌, ℤ, pos, negsuc, ◌≤ℤ◌, Some, refl, sym, ap, ◌∙◌, length, get_or, take, map, codes, arith, append-nil, append_assoc, All}
use Rattle.std.specs.Prelude.{Option, filter, filter_map}
use Rattle.std.specs.List.{AllByRecursion, flat_map, slice_split, cons_option}
use Rattle.std.specs.Str.Lines.{lines, lines_of_parts, strip_carriage_return}
use Rattle.std.specs.Fmt.{signed_decimal}
use Rattle.std.proofs.lemmas.Bool.Decides.{nat_tests}
use Rattle.std.proofs.lemmas.Int.{ints}
use Rattle.std.proofs.lemmas.List.Elements.{All-from_recursion, recursion_from_All}
use Rattle.std.proofs.lemmas.List.Splits.{slice_split_none, slice_split_at}
use Rattle.net_normal.specs.Limits.{IsSized, IsFlowArcOf, flow_node_limit, flow_limit, cost_limit}
use Rattle.net_normal.specs.declared.problem.FlowArc.{FlowArc}
use Rattle.net_dimacs.specs.Words.{Word}
use Rattle.net_dimacs.specs.Words as words
use Rattle.net_dimacs.specs.declared.problem_line.LineStatement.{LineStatement}
use Rattle.net_dimacs.specs.declared.problem_line.LineStatement.TheVariants as statements
use Rattle.net_dimacs.specs.Lines.{is_blank, has_byte, fields_of, word_of}
use Rattle.net_dimacs.specs.Written.{row, line, node_number, node_line, node_lines, arc_line, problem_text}
use Rattle.net_dimacs.specs.Reading.{statement_of, line_statement}
use Rattle.net_dimacs.specs.Problems.{Named, node_statement, arc_statement, AreDistinct, supply_after, statements_of, IsProblemText}
use Rattle.net_normal.specs.Limits.{IsWithinLimits}
use Rattle.net_dimacs.proofs.Decimals.{IsPrintable, IsSolid, word_decimal, solid_decimal, byte_decimal}
use Rattle.net_dimacs.proofs.Lists.{all_map, all_append}
use Rattle.net_dimacs.proofs.Complete.{absent}
use Rattle.net_dimacs.proofs.LineSteps.{split_parts}

-- ---- the fields of a line

abbrev pub Printable : List ℤ → Type 0
Printable zs = AllByRecursion IsPrintable zs

abbrev pub Solid : List ℕ → Type 0
Solid bs = AllByRecursion IsSolid bs

no_blanks : (bs : List ℕ) → Solid bs → All (λ b. is_blank b ≡ false) bs
no_blanks bs solid = All-from_recursion (λ b. is_blank b ≡ false) bs (all_map IsSolid (λ b. is_blank b ≡ false) bs (λ b s. s.no_blank) solid)

pub split_row : (field : List ℕ) (zs : List ℤ) → Solid field → Printable zs → slice_split is_blank (field ++ row zs) ≡ field ∷ map signed_decimal zs
split_row field [] solid fit = ap (slice_split is_blank) (append-nil field) ∙ slice_split_none is_blank field (no_blanks field solid)
split_row field (z ∷ zs) solid fit =
    slice_split_at is_blank field 32 (signed_decimal z ++ row zs) (no_blanks field solid) refl
    ∙ ap (λ (fs : List (List ℕ)). field ∷ fs) (split_row (signed_decimal z) zs (solid_decimal z fit.0) fit.1)

pub kept_field : (field : List ℕ) (fs : List (List ℕ)) → has_byte field ≡ true → filter has_byte (field ∷ fs) ≡ field ∷ filter has_byte fs
kept_field field fs e = ap (λ (t : Bool). cond t (field ∷ filter has_byte fs) (filter has_byte fs)) e

pub kept_row : (zs : List ℤ) → Printable zs → filter has_byte (map signed_decimal zs) ≡ map signed_decimal zs
kept_row [] fit = refl
kept_row (z ∷ zs) fit = kept_field (signed_decimal z) (map signed_decimal zs) (byte_decimal z fit.0) ∙ ap (λ (fs : List (List ℕ)). signed_decimal z ∷ fs) (kept_row zs fit.1)

words_row : (zs : List ℤ) → Printable zs → map word_of (map signed_decimal zs) ≡ map (λ z. words.Number z) zs
words_row [] fit = refl
words_row (z ∷ zs) fit =
    ap (λ (w : Word). w ∷ map word_of (map signed_decimal zs)) (word_decimal z fit.0) ∙ ap (λ (ws : List Word). words.Number z ∷ ws) (words_row zs fit.1)

-- a field, and numbers
line_words : (field : List ℕ) (zs : List ℤ) → Solid field → has_byte field ≡ true → Printable zs → map word_of (fields_of (field ++ row zs)) ≡ word_of field ∷ map (λ z. words.Number z) zs
line_words field zs solid some fit =
    ap (λ (fs : List (List ℕ)). map word_of (filter has_byte fs)) (split_row field zs solid fit)
    ∙ ap (map word_of) (kept_field field (map signed_decimal zs) some ∙ ap (λ (fs : List (List ℕ)). field ∷ fs) (kept_row zs fit))
    ∙ ap (λ (ws : List Word). word_of field ∷ ws) (words_row zs fit)

abbrev pub solid_byte : (b : ℕ) → is_blank b ≡ false → (b == 10) ≡ false → (b == 13) ≡ false → IsSolid b
solid_byte b p q r = record { no_blank = p; no_feed = q; no_return = r }

node_says : (z f : ℤ) → Printable (z ∷ f ∷ []) → line_statement (codes "n" ++ row (z ∷ f ∷ [])) ≡ Some (statements.Node z f)
node_says z f fit = ap statement_of (line_words (codes "n") (z ∷ f ∷ []) (solid_byte 110 refl refl refl, tt) refl fit)

arc_says : (a b c d e : ℤ) → Printable (a ∷ b ∷ c ∷ d ∷ e ∷ []) → line_statement (codes "a" ++ row (a ∷ b ∷ c ∷ d ∷ e ∷ [])) ≡ Some (statements.Arc a b c d e)
arc_says a b c d e fit = ap statement_of (line_words (codes "a") (a ∷ b ∷ c ∷ d ∷ e ∷ []) (solid_byte 97 refl refl refl, tt) refl fit)

solid_min : Solid (codes "min")
solid_min = (solid_byte 109 refl refl refl, (solid_byte 105 refl refl refl, (solid_byte 110 refl refl refl, tt)))

head_says : (n m : ℤ) → Printable (n ∷ m ∷ []) → line_statement (codes "p min" ++ row (n ∷ m ∷ [])) ≡ Some (statements.Problem n m)
head_says n m fit =
    ap (λ (ws : List Word). statement_of (words.Problem ∷ ws)) (line_words (codes "min") (n ∷ m ∷ []) solid_min refl fit)

-- ---- the lines of a text

-- a byte of a line
pub record IsPlain (b : ℕ) : Type 0 where
  pub no_feed : (b == 10) ≡ false
  pub no_return : (b == 13) ≡ false

abbrev pub Plain : List ℕ → Type 0
Plain bs = AllByRecursion IsPlain bs

pub plain_solid : (bs : List ℕ) → Solid bs → Plain bs
plain_solid bs solid = all_map IsSolid IsPlain bs (λ b s. record { no_feed = s.no_feed; no_return = s.no_return }) solid

pub plain_row : (zs : List ℤ) → Printable zs → Plain (row zs)
plain_row [] fit = tt
plain_row (z ∷ zs) fit = (record { no_feed = refl; no_return = refl }, all_append IsPlain (signed_decimal z) (row zs) (plain_solid (signed_decimal z) (solid_decimal z fit.0)) (plain_row zs fit.1))

no_feeds : (bs : List ℕ) → Plain bs → All (λ b. (b == 10) ≡ false) bs
no_feeds bs plain = All-from_recursion (λ b. (b == 10) ≡ false) bs (all_map IsPlain (λ b. (b == 10) ≡ false) bs (λ b s. s.no_feed) plain)

no_return : (bs : List ℕ) (k : ℕ) → Plain bs → (get_or bs k 0 == 13) ≡ false
no_return [] k plain = refl
no_return (b ∷ bs) zero plain = plain.0.no_return
no_return (b ∷ bs) (suc k) plain = no_return bs k plain.1

not_stripped : (bs : List ℕ) → Plain bs → strip_carriage_return bs ≡ bs
not_stripped bs plain = ap (λ (t : Bool). cond t (take (length bs - 1) bs) bs) (no_return bs (length bs - 1) plain)

lines_by : (body : List ℕ) (parts : List (List ℕ)) (x : List ℕ) (xs : List (List ℕ)) → parts ≡ x ∷ xs → Plain body → lines_of_parts (body ∷ parts) ≡ body ∷ lines_of_parts parts
lines_by body parts x xs e plain =
    ap (λ (ps : List (List ℕ)). lines_of_parts (body ∷ ps)) e
    ∙ ap (λ (l : List ℕ). l ∷ lines_of_parts (x ∷ xs)) (not_stripped body plain)
    ∙ ap (λ (ps : List (List ℕ)). body ∷ lines_of_parts ps) (sym e)

pub lines_then : (body rest : List ℕ) → Plain body → lines (body ++ 10 ∷ rest) ≡ body ∷ lines rest
lines_then body rest plain =
    let p = split_parts rest in
    ap lines_of_parts (slice_split_at (λ b. b == 10) body 10 rest (no_feeds body plain) refl)
    ∙ lines_by body (slice_split (λ b. b == 10) rest) p.0 p.1 p.2 plain

-- one line more, and what it says
line_then : (kind : List ℕ) (zs : List ℤ) (rest : List ℕ) (statement : LineStatement) → Plain kind → Printable zs → line_statement (kind ++ row zs) ≡ Some statement
    → statements_of (line kind zs ++ rest) ≡ statement ∷ statements_of rest
line_then kind zs rest statement plain fit says =
    let body = kind ++ row zs in
    let grouped : line kind zs ++ rest ≡ body ++ 10 ∷ rest = ap (λ (x : List ℕ). x ++ rest) (sym (append_assoc kind (row zs) (10 ∷ []))) ∙ append_assoc body (10 ∷ []) rest in
    ap statements_of grouped
    ∙ ap (filter_map line_statement) (lines_then body rest (all_append IsPlain kind (row zs) plain (plain_row zs fit)))
    ∙ ap (λ (o : Option LineStatement). cons_option o (statements_of rest)) says

-- ---- the three kinds

pub plain_byte : (b : ℕ) → (b == 10) ≡ false → (b == 13) ≡ false → IsPlain b
plain_byte b p q = record { no_feed = p; no_return = q }

node_then : (v : ℕ) (z : ℤ) (rest : List ℕ) → IsPrintable (node_number v) → IsPrintable z → statements_of (line (codes "n") (node_number v ∷ z ∷ []) ++ rest) ≡ node_statement (v, z) ∷ statements_of rest
node_then v z rest p q =
    line_then (codes "n") (node_number v ∷ z ∷ []) rest (node_statement (v, z)) (plain_byte 110 refl refl, tt) (p, (q, tt)) (node_says (node_number v) z (p, (q, tt)))

record IsPrintableArc (arc : FlowArc) : Type 0 where
  src : IsPrintable (node_number arc.src)
  dst : IsPrintable (node_number arc.dst)
  low : IsPrintable arc.low
  cap : IsPrintable arc.cap
  cost : IsPrintable arc.cost

arc_then : (arc : FlowArc) (rest : List ℕ) → IsPrintableArc arc → statements_of (arc_line arc ++ rest) ≡ arc_statement arc ∷ statements_of rest
arc_then arc rest fit =
    let zs = node_number arc.src ∷ node_number arc.dst ∷ arc.low ∷ arc.cap ∷ arc.cost ∷ [] in
    let fits : Printable zs = (fit.src, (fit.dst, (fit.low, (fit.cap, (fit.cost, tt))))) in
    line_then (codes "a") zs rest (arc_statement arc) (plain_byte 97 refl refl, tt) fits (arc_says (node_number arc.src) (node_number arc.dst) arc.low arc.cap arc.cost fits)

arcs_then : (arcs : List FlowArc) → AllByRecursion IsPrintableArc arcs → statements_of (flat_map arc_line arcs) ≡ map arc_statement arcs
arcs_then [] fit = refl
arcs_then (arc ∷ arcs) fit = arc_then arc (flat_map arc_line arcs) fit.0 ∙ ap (λ (x : List LineStatement). arc_statement arc ∷ x) (arcs_then arcs fit.1)

-- the nodes from v on whose supply is not 0
abbrev named_at : ℕ → ℤ → List Named → List Named
named_at v (pos zero) more = more
named_at v (pos (suc n)) more = (v, pos (suc n)) ∷ more
named_at v (negsuc n) more = (v, negsuc n) ∷ more

abbrev named_from : ℕ → List ℤ → List Named
named_from v [] = []
named_from v (z ∷ zs) = named_at v z (named_from (v + 1) zs)

at_node : (v : ℕ) (z : ℤ) (more : List Named) (text rest : List ℕ) (says : List LineStatement) → IsPrintable (node_number v) → IsPrintable z → statements_of (text ++ rest) ≡ map node_statement more ++ says
    → statements_of ((node_line v z ++ text) ++ rest) ≡ map node_statement (named_at v z more) ++ says
at_node v (pos zero) more text rest says p q e = e
at_node v (pos (suc n)) more text rest says p q e =
    ap statements_of (append_assoc (node_line v (pos (suc n))) text rest) ∙ node_then v (pos (suc n)) (text ++ rest) p q ∙ ap (λ (x : List LineStatement). node_statement (v, pos (suc n)) ∷ x) e
at_node v (negsuc n) more text rest says p q e =
    ap statements_of (append_assoc (node_line v (negsuc n)) text rest) ∙ node_then v (negsuc n) (text ++ rest) p q ∙ ap (λ (x : List LineStatement). node_statement (v, negsuc n) ∷ x) e

nodes_then : (v : ℕ) (supplies : List ℤ) (rest : List ℕ) → v + length supplies < 2 ^ 63 → Printable supplies → statements_of (node_lines v supplies ++ rest) ≡ map node_statement (named_from v supplies) ++ statements_of rest
nodes_then v [] rest few fit = refl
nodes_then v (z ∷ zs) rest few fit =
    at_node v z (named_from (v + 1) zs) (node_lines (v + 1) zs) rest (statements_of rest) (omega arith) fit.0 (nodes_then (v + 1) zs rest (omega arith) fit.1)

-- ---- what is named

named_within : (v top : ℕ) (zs : List ℤ) → v + length zs ≤ top → AllByRecursion (λ n. n.0 < top) (named_from v zs)
named_within v top [] h = tt
named_within v top (pos zero ∷ zs) h = named_within (v + 1) top zs (omega arith)
named_within v top (pos (suc n) ∷ zs) h = (omega arith, named_within (v + 1) top zs (omega arith))
named_within v top (negsuc n ∷ zs) h = (omega arith, named_within (v + 1) top zs (omega arith))

named_later : (w v : ℕ) (zs : List ℤ) → w < v → AllByRecursion (λ n. n.0 ≢ w) (named_from v zs)
named_later w v [] h = tt
named_later w v (pos zero ∷ zs) h = named_later w (v + 1) zs (omega arith)
named_later w v (pos (suc n) ∷ zs) h = (omega arith, named_later w (v + 1) zs (omega arith))
named_later w v (negsuc n ∷ zs) h = (omega arith, named_later w (v + 1) zs (omega arith))

named_distinct : (v : ℕ) (zs : List ℤ) → AreDistinct (named_from v zs)
named_distinct v [] = tt
named_distinct v (pos zero ∷ zs) = named_distinct (v + 1) zs
named_distinct v (pos (suc n) ∷ zs) = (named_later v (v + 1) zs (omega arith), named_distinct (v + 1) zs)
named_distinct v (negsuc n ∷ zs) = (named_later v (v + 1) zs (omega arith), named_distinct (v + 1) zs)

same_node : (v : ℕ) → (v == v + 0) ≡ true
same_node v = grind (arith, nat_tests)

later_node : (v k : ℕ) → (v == v + suc k) ≡ false
later_node v k = grind (arith, nat_tests)

named_here : (v : ℕ) (z : ℤ) (zs : List ℤ) → supply_after (named_at v z (named_from (v + 1) zs)) (v + 0) (pos 0) ≡ z
named_here v (pos zero) zs = absent (named_from (v + 1) zs) (v + 0) (pos 0) (named_later (v + 0) (v + 1) zs (omega arith))
named_here v (pos (suc n)) zs =
    ap (λ (t : Bool). supply_after (named_from (v + 1) zs) (v + 0) (cond t (pos (suc n)) (pos 0))) (same_node v)
    ∙ absent (named_from (v + 1) zs) (v + 0) (pos (suc n)) (named_later (v + 0) (v + 1) zs (omega arith))
named_here v (negsuc n) zs =
    ap (λ (t : Bool). supply_after (named_from (v + 1) zs) (v + 0) (cond t (negsuc n) (pos 0))) (same_node v)
    ∙ absent (named_from (v + 1) zs) (v + 0) (negsuc n) (named_later (v + 0) (v + 1) zs (omega arith))

named_there : (v k : ℕ) (z : ℤ) (more : List Named) → supply_after (named_at v z more) (v + suc k) (pos 0) ≡ supply_after more (v + suc k) (pos 0)
named_there v k (pos zero) more = refl
named_there v k (pos (suc n)) more = ap (λ (t : Bool). supply_after more (v + suc k) (cond t (pos (suc n)) (pos 0))) (later_node v k)
named_there v k (negsuc n) more = ap (λ (t : Bool). supply_after more (v + suc k) (cond t (negsuc n) (pos 0))) (later_node v k)

named_supply : (v k : ℕ) (zs : List ℤ) → supply_after (named_from v zs) (v + k) (pos 0) ≡ get_or zs k (pos 0)
named_supply v k [] = refl
named_supply v zero (z ∷ zs) = named_here v z zs
named_supply v (suc k) (z ∷ zs) =
    named_there v k z (named_from (v + 1) zs)
    ∙ ap (λ (w : ℕ). supply_after (named_from (v + 1) zs) w (pos 0)) (let e : v + suc k ≡ v + 1 + k = omega arith in e)
    ∙ named_supply (v + 1) k zs

-- ---- the whole text

printable_sized : (l : ℕ) (z : ℤ) → l < 2 ^ 63 → IsSized l z → IsPrintable z
printable_sized l (pos n) small h = let b = h.below in omega (arith, ints)
printable_sized l (negsuc n) small h = let b = h.above in omega (arith, ints)

printable_between : (z : ℤ) → pos 0 ≤ℤ z → z ≤ℤ pos flow_limit → IsPrintable z
printable_between (pos n) low high = omega (arith, ints)
printable_between (negsuc n) low high = absurd (omega (arith, ints))

printable_arc : (n : ℕ) (arc : FlowArc) → n ≤ flow_node_limit → IsFlowArcOf n arc → IsPrintableArc arc
printable_arc n arc few fit =
    let low = fit.low in
    let room = fit.room in
    let cap = fit.cap in
    record {
      src = omega (arith, fit.src);
      dst = omega (arith, fit.dst);
      low = printable_between arc.low low (omega (arith, ints));
      cap = printable_between arc.cap (omega (arith, ints)) cap;
      cost = printable_sized cost_limit arc.cost (omega arith) fit.cost;
    }

pub written_is : (s : List ℤ) (a : List FlowArc) → IsWithinLimits s a → IsProblemText (problem_text s a) s a
written_is s a fit =
    let few = fit.few_nodes in
    let few_arcs = fit.few_arcs in
    let n = pos (length s) in
    let m = pos (length a) in
    let supplies = all_map (IsSized flow_limit) IsPrintable s (λ z h. printable_sized flow_limit z (omega arith) h) (recursion_from_All (IsSized flow_limit) s fit.supplies_fit) in
    let arcs = all_map (IsFlowArcOf (length s)) IsPrintableArc a (λ arc h. printable_arc (length s) arc few h) (recursion_from_All (IsFlowArcOf (length s)) a fit.arcs_fit) in
    let counts : Printable (n ∷ m ∷ []) = (omega arith, (omega arith, tt)) in
    let kind : Plain (codes "p min") = (plain_byte 112 refl refl, (plain_byte 32 refl refl, (plain_byte 109 refl refl, (plain_byte 105 refl refl, (plain_byte 110 refl refl, tt))))) in
    let rest = node_lines 0 s ++ flat_map arc_line a in
    record {
      named = named_from 0 s;
      says = line_then (codes "p min") (n ∷ m ∷ []) rest (statements.Problem n m) kind counts (head_says n m counts)
          ∙ ap (λ (x : List LineStatement). statements.Problem n m ∷ x) (nodes_then 0 s (flat_map arc_line a) (omega arith) supplies ∙ ap (λ (x : List LineStatement). map node_statement (named_from 0 s) ++ x) (arcs_then a arcs));
      nodes = named_within 0 (length s) s (omega arith);
      distinct = named_distinct 0 s;
      supply = λ v inside. sym (ap (λ (w : ℕ). supply_after (named_from 0 s) w (pos 0)) (let e : v ≡ 0 + v = omega arith in e) ∙ named_supply 0 v s);
    }
