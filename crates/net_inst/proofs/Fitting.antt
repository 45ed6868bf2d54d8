-- What is drawn is within the limits of a network.
use Rattle.std.specs.Prelude.{◌≡◌, ◌+◌, ◌<◌, ◌≤◌, ◌||◌, ℕ, suc, Bool, true, false, if◌then◌else◌, List, [], ◌∷◌, ◌++◌, length, nat_eq, nat_lt, int_lt, Option, None, Some, is_some, IsTrue, Ok, Err, ℤ, ◌≤ℤ◌, All}
use Rattle.std.specs.List.{AllByRecursion}
use Rattle.std.specs.Option.{ForSome}
use Rattle.std.proofs.Common.{refl, sym, subst, arith, length-append}
use Rattle.std.proofs.lemmas.Bool.Decides.{nat_tests}
use Rattle.std.proofs.lemmas.Int.{ints}
use Rattle.std.proofs.lemmas.List.Elements.{All-nil, All-push, All-weaker, recursion_from_All, All-from_recursion}
use Rattle.net_base.specs.declared.diagnostic.Span.{Span}
use Rattle.net_lex.specs.declared.token.Token.{Token}
use Rattle.net_sets.specs.declared.member.Member.{Member}
use Rattle.net_sets.specs.declared.member.Member.TheVariants.{Number, Name as Text}
use Rattle.net_sets.specs.Sets.{Tuple, place_of}
use Rattle.net_tree.specs.Spans.{span_of}
use Rattle.net_tree.specs.Tree.{Tree, Links, Braces, Condition, Phrase, Declaration, set, param, check, node, arc, objective}
use Rattle.net_normal.specs.declared.instance.InstArc.{InstArc}
use Rattle.net_normal.specs.Limits.{IsArcOf, arc_limit, node_limit}
use Rattle.net_base.specs.declared.diagnostic.Detail.{Detail}
use Rattle.net_base.specs.declared.error_code.ErrorCode.TheVariants.{Arity, ValueTooLarge, NoSuchNode, ArcCrossed, TooManyArcs, TooManyNodes}
use Rattle.net_expr.specs.declared.row.Row.{Row}
use Rattle.net_expr.specs.Limits.{is_small}
use Rattle.net_expr.specs.Operators.{member}
use Rattle.net_expr.specs.Values.{value}
use Rattle.net_expr.specs.Worlds.{Name, World, Scope, key_count, reference}
use Rattle.net_linear.specs.declared.key_numbers.KeyNumbers.{KeyNumbers}
use Rattle.net_linear.specs.declared.condition.Sides.{Sides}
use Rattle.net_linear.specs.Arcs.{declared}
use Rattle.net_linear.specs.Forms.{Products, Linear}
use Rattle.net_linear.specs.Objectives.{key_of}
use Rattle.net_linear.proofs.FormSizes.{is_sized_number}
use Rattle.net_inst.specs.declared.arc.Built.{Built}
use Rattle.net_inst.specs.declared.draft.ChosenObjective.{ChosenObjective}
use Rattle.net_expr.specs.declared.indexing.Indexing.{Indexing}
use Rattle.net_tree.specs.Phrases.{is_at_least, is_at_most, is_from, is_to}
use Rattle.net_tree.specs.PhraseValues.{phrase_value}
use Rattle.net_inst.specs.Arcs.{BuiltArcs, end_at, with_ends, built, prices_in, next_arc, arcs_at, arcs_by, named_arcs, with_arcs, arc_env, arc_text}
use Rattle.net_inst.specs.Drafts.{Drawing, nothing, env, is_chosen, part_form, passed, aimed, with_goal, known_more, nodes_more, arcs_more, declare, draw}
use Rattle.net_inst.specs.Fitting.{IsBuiltOf, IsPriced}
use Rattle.net_inst.specs.Groups.{group_with}
use Rattle.net_expr.specs.Indexings.{indexing_in}
use Rattle.net_inst.specs.Instances.{with_coefficients}
use Rattle.net_inst.specs.Nodes.{BuiltNodes, next_range, ranges_at, nodes_by, with_nodes, index_within, numbered, node_at, name_in, node_of, node_by, node_named, node_sides}
use Rattle.net_inst.specs.Numbers.{number_in, number}
use Rattle.net_base.specs.Outcomes.{Outcome, and_then, rejected_of, rejected}
use Rattle.net_inst.specs.Rejections.{rejected_name}
use Rattle.net_inst.specs.Phrases.{Parts, parts_from, parts_of}

-- where the second step comes out, the first does
both : {A B : Type 0} (o : Outcome A) (f : A → Outcome B) (b : B) (C : Type 0) → and_then o f ≡ Ok b → ((a : A) → o ≡ Ok a → f a ≡ Ok b → C) → C
both (Ok a) f b C h k = k a refl h
both (Err r) f b C h k = cc

-- what comes out is one thing
same_out : {A : Type 0} (P : A → Type 0) (a b : A) (o : Outcome A) → o ≡ Ok a → o ≡ Ok b → P a → P b
same_out P a b o e h p = let same : a ≡ b = cc in subst P same p

-- numbers
in_small : (at : Span) (m : Member) (n : ℤ) → number_in at m ≡ Ok n → is_small n ≡ true
in_small at (Number k) n h = step (is_small k) refl h
  where
    step : (b : Bool) → is_small k ≡ b → (if b then Ok k else rejected ValueTooLarge at) ≡ Ok n → is_small n ≡ true
    step true e h = same_out (λ i. is_small i ≡ true) k n (Ok k) refl h e
    step false e h = cc
in_small at (Text t) n h = cc

number_small : (w : World) (s : Scope) (t : Tree) (n : ℤ) → number w s t ≡ Ok n → is_small n ≡ true
number_small w s t n h = both (and_then (value w s t) (member (span_of t))) (number_in (span_of t)) n (is_small n ≡ true) h (λ m e k. in_small (span_of t) m n k)

-- nodes that are named
among_below : (count : ℕ) (at : Span) (d : Detail) (v n : ℕ) → index_within count at d v ≡ Ok n → n < count
among_below count at d v n h = step (nat_lt v count) refl h
  where
    step : (b : Bool) → nat_lt v count ≡ b → (if b then Ok v else rejected_of NoSuchNode at d) ≡ Ok n → n < count
    step true e h = same_out (λ i. i < count) v n (Ok v) refl h (grind (arith, nat_tests))
    step false e h = cc

numbered_below : (count : ℕ) (at : Span) (d : Detail) (first : ℕ) (p : Option ℕ) (n : ℕ) → numbered count at d first p ≡ Ok n → n < count
numbered_below count at d first None n h = cc
numbered_below count at d first (Some p) n h = among_below count at d (first + p) n h

node_at_below : (count : ℕ) (at : Span) (name : Name) (k : Option KeyNumbers) (key : Tuple) (n : ℕ) → node_at count at name k key ≡ Ok n → n < count
node_at_below count at name None key n h = cc
node_at_below count at name (Some k) key n h = step (nat_eq (length key) (key_count k.count)) h
  where
    step : (b : Bool) → (if b then numbered count at (reference name k.count key) k.first (place_of k.keys key) else rejected Arity at) ≡ Ok n → n < count
    step true h = numbered_below count at (reference name k.count key) k.first (place_of k.keys key) n h
    step false h = cc

node_below : (d : BuiltNodes) (w : World) (s : Scope) (t : Tree) (n : ℕ) → node_named d w s t ≡ Ok n → n < length d.ranges
node_below d w s t n h = named (name_in t) h
  where
    subscripted : (k : Token) (q : Option (Tree × Links)) → node_of d w s (span_of t) k q ≡ Ok n → n < length d.ranges
    subscripted k None h = node_at_below (length d.ranges) (span_of t) k.text (declared d.group.numbers k.text) [] n h
    subscripted k (Some q) h =
        both (key_of w s (span_of t) q.0 q.1) (node_at (length d.ranges) (span_of t) k.text (declared d.group.numbers k.text)) n (n < length d.ranges) h
        (λ key e g. node_at_below (length d.ranges) (span_of t) k.text (declared d.group.numbers k.text) key n g)

    named : (o : Option (Token × Option (Tree × Links))) → node_by d w s (span_of t) o ≡ Ok n → n < length d.ranges
    named None h = cc
    named (Some p) h = subscripted p.0 p.1 h

-- an end is one of the nodes, and is there where it is said
end_fits : (ns : BuiltNodes) (w : World) (s : Scope) (o : Option Tree) (v : Option ℕ) → end_at ns w s o ≡ Ok v → ForSome v (λ n. n < length ns.ranges) × (is_some v ≡ is_some o)
end_fits ns w s None v h = same_out (λ e. ForSome e (λ n. n < length ns.ranges) × (is_some e ≡ false)) None v (Ok None) refl h (λ n e. cc, refl)
end_fits ns w s (Some t) v h =
    both (node_named ns w s t) (λ n. Ok (Some n)) v (ForSome v (λ n. n < length ns.ranges) × (is_some v ≡ true)) h
    (λ m e k. same_out (λ e. ForSome e (λ n. n < length ns.ranges) × (is_some e ≡ true)) (Some m) v (Ok (Some m)) refl k (there m (node_below ns w s t m e), refl))
  where
    there : (m : ℕ) → m < length ns.ranges → ForSome (Some m) (λ n. n < length ns.ranges)
    there m l n e = let same : m ≡ n = cc in omega (arith, l, same)

has_end : (n : Token) (ps : List Phrase) (p : Parts) → parts_of n ps ≡ Ok p → (is_some p.tail || is_some p.head) ≡ true
has_end n ps p h = from (phrase_value is_at_least ps) (phrase_value is_at_most ps) (phrase_value is_from ps) (phrase_value is_to ps) h
  where
    from : (l u t e : Option Tree) → parts_from n l u t e ≡ Ok p → (is_some p.tail || is_some p.head) ≡ true
    from None u t e h = cc
    from (Some l) None t e h = cc
    from (Some l) (Some u) None None h = cc
    from (Some l) (Some u) None (Some e) h =
        same_out (λ q. (is_some q.tail || is_some q.head) ≡ true) (record { lower = l; upper = u; tail = None; head = Some e }) p (parts_from n (Some l) (Some u) None (Some e)) refl h refl
    from (Some l) (Some u) (Some t) e h =
        same_out (λ q. (is_some q.tail || is_some q.head) ≡ true) (record { lower = l; upper = u; tail = Some t; head = e }) p (parts_from n (Some l) (Some u) (Some t) e) refl h refl

either : (a b c d : Bool) → a ≡ c → b ≡ d → (c || d) ≡ true → IsTrue (a || b)
either true b c d e f h = refl
either false true c d e f h = refl
either false false c d e f h = cc

with_ends_fit : (ns : BuiltNodes) (w : World) (s : Scope) (p : Parts) (l u : ℤ) (x : Built) → is_small l ≡ true → is_small u ≡ true → l ≤ℤ u → (is_some p.tail || is_some p.head) ≡ true
    → with_ends ns w s p l u ≡ Ok x → IsBuiltOf (length ns.ranges) x
with_ends_fit ns w s p l u x a b o e h =
    both (end_at ns w s p.tail) (λ t. and_then (end_at ns w s p.head) (λ h. Ok (record { lower = l; upper = u; tail = t; head = h }))) x (IsBuiltOf (length ns.ranges) x) h (λ t et kt.
    both (end_at ns w s p.head) (λ h. Ok (record { lower = l; upper = u; tail = t; head = h })) x (IsBuiltOf (length ns.ranges) x) kt (λ h eh kh.
    let tail = end_fits ns w s p.tail t et in
    let head = end_fits ns w s p.head h eh in
    same_out (IsBuiltOf (length ns.ranges)) (record { lower = l; upper = u; tail = t; head = h }) x (Ok (record { lower = l; upper = u; tail = t; head = h })) refl kh
    (record { lower = is_sized_number l a; upper = is_sized_number u b; ordered = o; tail = tail.0; head = head.0; an_end = either (is_some t) (is_some h) (is_some p.tail) (is_some p.head) tail.1 head.1 e })))

built_fits : (ns : BuiltNodes) (w : World) (n : Token) (k : Option ℕ) (p : Parts) (row : Row) (x : Built) → (is_some p.tail || is_some p.head) ≡ true → built ns w n k p row ≡ Ok x → IsBuiltOf (length ns.ranges) x
built_fits ns w n k p row x e h =
    both (number w row.scope p.lower) (λ l. and_then (number w row.scope p.upper) (λ u. if int_lt u l then rejected_of ArcCrossed n.span (reference n.text k row.key) else with_ends ns w row.scope p l u)) x (IsBuiltOf (length ns.ranges) x) h (λ l el kl.
    both (number w row.scope p.upper) (λ u. if int_lt u l then rejected_of ArcCrossed n.span (reference n.text k row.key) else with_ends ns w row.scope p l u) x (IsBuiltOf (length ns.ranges) x) kl (λ u eu ku.
    step l u (number_small w row.scope p.lower l el) (number_small w row.scope p.upper u eu) (int_lt u l) refl ku))
  where
    step : (l u : ℤ) → is_small l ≡ true → is_small u ≡ true → (b : Bool) → int_lt u l ≡ b → (if b then rejected_of ArcCrossed n.span (reference n.text k row.key) else with_ends ns w row.scope p l u) ≡ Ok x → IsBuiltOf (length ns.ranges) x
    step l u sl su true t h = cc
    step l u sl su false t h = let up : l ≤ℤ u = grind (arith, ints) in with_ends_fit ns w row.scope p l u x sl su up e h

-- arcs, key by key
next_fits : (g : Option ChosenObjective) (ns : BuiltNodes) (w : World) (n : Token) (k : Option ℕ) (p : Parts) (ps : List Phrase) (row : Row) (d new : BuiltArcs) → (is_some p.tail || is_some p.head) ≡ true
    → All (IsBuiltOf (length ns.ranges)) d.arcs → next_arc (arc_env g ns w) (arc_text n p ps) k row d ≡ Ok new → All (IsBuiltOf (length ns.ranges)) new.arcs
next_fits g ns w n k p ps row d new e all h = step (nat_lt (length d.arcs) arc_limit) h
  where
    more : Built → Linear → BuiltArcs
    more x f = record { arcs = d.arcs ++ x ∷ []; form = f; group = d.group }

    step : (b : Bool) → (if b then and_then (built ns w n k p row) (λ x. and_then (prices_in g w row.scope (length d.arcs) ps d.form) (λ f. Ok (more x f))) else rejected_name TooManyArcs n) ≡ Ok new → All (IsBuiltOf (length ns.ranges)) new.arcs
    step true h =
        both (built ns w n k p row) (λ x. and_then (prices_in g w row.scope (length d.arcs) ps d.form) (λ f. Ok (more x f))) new (All (IsBuiltOf (length ns.ranges)) new.arcs) h (λ x ex kx.
        both (prices_in g w row.scope (length d.arcs) ps d.form) (λ f. Ok (more x f)) new (All (IsBuiltOf (length ns.ranges)) new.arcs) kx (λ f ef kf.
        same_out (λ q. All (IsBuiltOf (length ns.ranges)) q.arcs) (more x f) new (Ok (more x f)) refl kf (All-push (IsBuiltOf (length ns.ranges)) d.arcs x all (built_fits ns w n k p row x e ex))))
    step false h = cc

rows_fit : (g : Option ChosenObjective) (ns : BuiltNodes) (w : World) (n : Token) (k : Option ℕ) (p : Parts) (ps : List Phrase) (rows : List Row) (d new : BuiltArcs) → (is_some p.tail || is_some p.head) ≡ true
    → All (IsBuiltOf (length ns.ranges)) d.arcs → arcs_at (arc_env g ns w) (arc_text n p ps) k rows d ≡ Ok new → All (IsBuiltOf (length ns.ranges)) new.arcs
rows_fit g ns w n k p ps [] d new e all h = same_out (λ q. All (IsBuiltOf (length ns.ranges)) q.arcs) d new (Ok d) refl h all
rows_fit g ns w n k p ps (row ∷ rows) d new e all h =
    both (next_arc (arc_env g ns w) (arc_text n p ps) k row d) (arcs_at (arc_env g ns w) (arc_text n p ps) k rows) new (All (IsBuiltOf (length ns.ranges)) new.arcs) h
    (λ m em km. rows_fit g ns w n k p ps rows m new e (next_fits g ns w n k p ps row d m e all em) km)

arcs_fit : (g : Option ChosenObjective) (ns : BuiltNodes) (w : World) (n : Token) (b : Option Braces) (ps : List Phrase) (d new : BuiltArcs) → All (IsBuiltOf (length ns.ranges)) d.arcs
    → with_arcs (arc_env g ns w) n b ps d ≡ Ok new → All (IsBuiltOf (length ns.ranges)) new.arcs
arcs_fit g ns w n b ps d new all h =
    both (parts_of n ps) (λ p. and_then (indexing_in w b) (arcs_by (arc_env g ns w) (arc_text n p ps) d)) new (All (IsBuiltOf (length ns.ranges)) new.arcs) h (λ p ep kp.
    both (indexing_in w b) (arcs_by (arc_env g ns w) (arc_text n p ps) d) new (All (IsBuiltOf (length ns.ranges)) new.arcs) kp (λ i ei ki.
    both (arcs_at (arc_env g ns w) (arc_text n p ps) i.count i.rows d) (λ found. Ok (named_arcs n.text (length d.arcs) i found)) new (All (IsBuiltOf (length ns.ranges)) new.arcs) ki (λ found ef kf.
    same_out (λ q. All (IsBuiltOf (length ns.ranges)) q.arcs) (named_arcs n.text (length d.arcs) i found) new (Ok (named_arcs n.text (length d.arcs) i found)) refl kf
    (rows_fit g ns w n i.count p ps i.rows d found (has_end n ps p ep) all ef))))

-- nodes grow in number
next_more : (w : World) (n : Token) (k : Option ℕ) (c : Condition) (row : Row) (found more : List Sides) → next_range w n k c row found ≡ Ok more → length found ≤ length more
next_more w n k c row found more h = step (nat_lt (length found) node_limit) h
  where
    step : (b : Bool) → (if b then and_then (node_sides w n k c row) (λ r. Ok (found ++ r ∷ [])) else rejected_name TooManyNodes n) ≡ Ok more → length found ≤ length more
    step true h =
        both (node_sides w n k c row) (λ r. Ok (found ++ r ∷ [])) more (length found ≤ length more) h
        (λ r e kr. same_out (λ q. length found ≤ length q) (found ++ r ∷ []) more (Ok (found ++ r ∷ [])) refl kr (omega (arith, length-append found (r ∷ []))))
    step false h = cc

rows_more : (w : World) (n : Token) (k : Option ℕ) (c : Condition) (rows : List Row) (found more : List Sides) → ranges_at w n k c rows found ≡ Ok more → length found ≤ length more
rows_more w n k c [] found more h = same_out (λ q. length found ≤ length q) found more (Ok found) refl h (omega arith)
rows_more w n k c (row ∷ rows) found more h =
    both (next_range w n k c row found) (ranges_at w n k c rows) more (length found ≤ length more) h
    (λ m em km. omega (arith, next_more w n k c row found m em, rows_more w n k c rows m more km))

nodes_grow : (w : World) (n : Token) (b : Option Braces) (c : Condition) (d new : BuiltNodes) → with_nodes w n b c d ≡ Ok new → length d.ranges ≤ length new.ranges
nodes_grow w n b c d new h =
    both (indexing_in w b) (nodes_by w n c d) new (length d.ranges ≤ length new.ranges) h (λ i ei ki.
    both (ranges_at w n i.count c i.rows d.ranges) (λ ranges. Ok (with i ranges)) new (length d.ranges ≤ length new.ranges) ki (λ ranges er kr.
    same_out (λ q. length d.ranges ≤ length q.ranges) (with i ranges) new (Ok (with i ranges)) refl kr (rows_more w n i.count c i.rows d.ranges ranges er)))
  where
    with : Indexing → List Sides → BuiltNodes
    with i ranges = record { ranges = ranges; group = group_with d.group n.text (length d.ranges) i }

below_more : (m n : ℕ) (o : Option ℕ) → m ≤ n → ForSome o (λ v. v < m) → ForSome o (λ v. v < n)
below_more m n o l h v e = omega (arith, l, h v e)

wider : (m n : ℕ) → m ≤ n → (x : Built) → IsBuiltOf m x → IsBuiltOf n x
wider m n l x h = record { lower = h.lower; upper = h.upper; ordered = h.ordered; tail = below_more m n x.tail l h.tail; head = below_more m n x.head l h.head; an_end = h.an_end }

-- declaration by declaration
abbrev Fits : Drawing → Type 0
Fits d = All (IsBuiltOf (length d.nodes.ranges)) d.arcs.arcs

declare_fits : (wanted : Option Name) (w : World) (x : Declaration) (d new : Drawing) → Fits d → declare wanted w x d ≡ Ok new → Fits new
declare_fits wanted w (set t n ps e) d new f h = same_out Fits (known_more d) new (Ok (known_more d)) refl h f
declare_fits wanted w (param t n b ps e) d new f h = same_out Fits (known_more d) new (Ok (known_more d)) refl h f
declare_fits wanted w (check t b m x e) d new f h = same_out Fits d new (Ok d) refl h f
declare_fits wanted w (node t n b c e) d new f h =
    both (with_nodes (env w d) n b c d.nodes) (λ ns. Ok (nodes_more d ns)) new (Fits new) h (λ ns en kn.
    same_out Fits (nodes_more d ns) new (Ok (nodes_more d ns)) refl kn
    (All-weaker (IsBuiltOf (length d.nodes.ranges)) (IsBuiltOf (length ns.ranges)) (wider (length d.nodes.ranges) (length ns.ranges) (nodes_grow (env w d) n b c d.nodes ns en)) d.arcs.arcs f))
declare_fits wanted w (arc t n b ps e) d new f h =
    both (with_arcs (arc_env d.goal d.nodes (env w d)) n b ps d.arcs) (λ xs. Ok (arcs_more d xs)) new (Fits new) h (λ xs ex kx.
    same_out Fits (arcs_more d xs) new (Ok (arcs_more d xs)) refl kx (arcs_fit d.goal d.nodes (env w d) n b ps d.arcs xs f ex))
declare_fits wanted w (objective t n p e) d new f h =
    both (is_chosen wanted d.goal n) (λ b. if b then with_goal (env w d) t n p d else Ok (passed d)) new (Fits new) h (λ b eb kb. chosen b kb)
  where
    chosen : (b : Bool) → (if b then with_goal (env w d) t n p d else Ok (passed d)) ≡ Ok new → Fits new
    chosen true k =
        both (part_form d.arcs.group.numbers (env w d) p) (λ l. Ok (aimed d t n l)) new (Fits new) k (λ l el kl.
        same_out Fits (aimed d t n l) new (Ok (aimed d t n l)) refl kl f)
    chosen false k = same_out Fits (passed d) new (Ok (passed d)) refl k f

all_fit : (wanted : Option Name) (w : World) (xs : List Declaration) (d new : Drawing) → Fits d → draw wanted w xs d ≡ Ok new → Fits new
all_fit wanted w [] d new f h = same_out Fits d new (Ok d) refl h f
all_fit wanted w (x ∷ xs) d new f h =
    both (declare wanted w x d) (draw wanted w xs) new (Fits new) h (λ m em km. all_fit wanted w xs m new (declare_fits wanted w x d m f em) km)

-- the arcs of all declarations are those of a network with the nodes of all
pub built_fit : (wanted : Option Name) (w : World) (xs : List Declaration) (d : Drawing) → draw wanted w xs nothing ≡ Ok d → All (IsBuiltOf (length d.nodes.ranges)) d.arcs.arcs
built_fit wanted w xs d h = all_fit wanted w xs nothing d (All-nil (IsBuiltOf 0)) h

-- and so with their coefficients
each_priced : (count : ℕ) (ps : Products) (a : ℕ) (xs : List Built) → AllByRecursion IsPriced (with_coefficients ps a xs) → AllByRecursion (IsBuiltOf count) xs → AllByRecursion (IsArcOf count) (with_coefficients ps a xs)
each_priced count ps a [] c h = h
each_priced count ps a (x ∷ xs) c h =
    (record { lower = h.0.lower; upper = h.0.upper; ordered = h.0.ordered; coefficient = c.0; tail = h.0.tail; head = h.0.head; an_end = h.0.an_end }, each_priced count ps (suc a) xs c.1 h.1)

pub priced_fit : (count nodes : ℕ) (ps : Products) (xs : List Built) (all : List InstArc) → all ≡ with_coefficients ps 0 xs → All IsPriced all → All (IsBuiltOf count) xs → nodes ≡ count → All (IsArcOf nodes) all
priced_fit count nodes ps xs all e c h same =
    let priced = subst (All IsPriced) e c in
    let fit = All-from_recursion (IsArcOf count) (with_coefficients ps 0 xs) (each_priced count ps 0 xs (recursion_from_All IsPriced (with_coefficients ps 0 xs) priced) (recursion_from_All (IsBuiltOf count) xs h)) in
    subst (λ n. All (IsArcOf n) all) (sym same) (subst (All (IsArcOf count)) (sym e) fit)
