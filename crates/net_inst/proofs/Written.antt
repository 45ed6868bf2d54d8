-- The network is the model as it is written: names, ranges, bounds and ends.
use Rattle.std.specs.Prelude.{◌≡◌, ℕ, suc, Bool, true, false, List, [], ◌∷◌, ◌++◌, Option, None, Some, if◌then◌else◌, Ok, ℤ, ◌≤ℤ◌}
use Rattle.std.specs.List.{AllZip, IsDistinct, flat_map}
use Rattle.std.specs.Option.{ForSome}
use Rattle.std.proofs.Common.{refl, ap, sym, ◌∙◌, subst, append_assoc, append-nil}
use Rattle.net_lex.specs.declared.token.Token.{Token}
use Rattle.net_tree.specs.Tree.{Part, Declaration, set, param, check, node, arc, objective}
use Rattle.net_expr.specs.Worlds.{Name, World}
use Rattle.net_linear.specs.declared.condition.Sides.{Sides}
use Rattle.net_linear.specs.Forms.{Products}
use Rattle.net_linear.proofs.Ranges.{IsWithin, range_exact}
use Rattle.net_inst.specs.declared.arc.Built.{Built}
use Rattle.net_inst.specs.declared.node_name.Group.{Group}
use Rattle.net_inst.specs.declared.network_names.Declared.{Declared}
use Rattle.net_inst.specs.Arcs.{with_arcs, arc_env}
use Rattle.net_inst.specs.AsWritten.{WrittenLabel, WrittenNode, WrittenArc, nodes_of, arcs_of, nodes, arcs, known_after, in_order, node_declared, arc_declared, same_label}
use Rattle.net_inst.specs.Drafts.{Drawing, nothing, env, part_form, aimed, passed, is_chosen, with_goal, with_objective, known_more, nodes_more, arcs_more, declare, draw}
use Rattle.net_inst.specs.Instances.{Network, with_coefficients}
use Rattle.net_inst.specs.Laws.{IsInSides, IsRangeOf, HaveExactRanges, AreNames, AreNamesOf, HaveNames, IsBoundedAs, HaveBounds, HasEndsOf, HaveEnds}
use Rattle.net_inst.specs.Nodes.{with_nodes}
use Rattle.net_inst.proofs.Agreement.{network_is}
use Rattle.net_inst.proofs.Built.{node_labels, arc_labels, HasRange, AreNodes, nodes_more_are, IsBuiltAs, AreArcs, arcs_more_are, arcs_stay}
use Rattle.net_inst.proofs.Labels.{IsGroup}
use Rattle.net_inst.proofs.Zips.{ok_then, ok_is, map_join, zip_as}

-- what is written in some declarations
pub record Lines : Type 0 where
  pub nodes : List WrittenNode
  pub node_names : List Declared
  pub arcs : List WrittenArc
  pub arc_names : List Declared

abbrev pub lines_of : World → Declaration → Lines
lines_of w x = record { nodes = nodes_of w x; node_names = node_declared x; arcs = arcs_of w x; arc_names = arc_declared x }

abbrev pub all_lines : World → ℕ → List Declaration → Lines
all_lines w k ds = record { nodes = in_order nodes_of w k ds; node_names = flat_map node_declared ds; arcs = in_order arcs_of w k ds; arc_names = flat_map arc_declared ds }

abbrev pub behind : Lines → Lines → Lines
behind a b = record { nodes = a.nodes ++ b.nodes; node_names = a.node_names ++ b.node_names; arcs = a.arcs ++ b.arcs; arc_names = a.arc_names ++ b.arc_names }

abbrev pub no_lines : Lines
no_lines = record { nodes = []; node_names = []; arcs = []; arc_names = [] }

after_none : (a b : Lines) → b.nodes ≡ [] → b.node_names ≡ [] → b.arcs ≡ [] → b.arc_names ≡ [] → a ≡ behind a b
after_none a b h i j k =
    let p = sym (append-nil a.nodes) ∙ ap (λ (x : List WrittenNode). a.nodes ++ x) (sym h) in
    let q = sym (append-nil a.node_names) ∙ ap (λ (x : List Declared). a.node_names ++ x) (sym i) in
    let r = sym (append-nil a.arcs) ∙ ap (λ (x : List WrittenArc). a.arcs ++ x) (sym j) in
    let s = sym (append-nil a.arc_names) ∙ ap (λ (x : List Declared). a.arc_names ++ x) (sym k) in
    λ t. record { nodes = p t; node_names = q t; arcs = r t; arc_names = s t }

after_after : (a b c : Lines) → behind (behind a b) c ≡ behind a (behind b c)
after_after a b c =
    λ t. record { nodes = append_assoc a.nodes b.nodes c.nodes t; node_names = append_assoc a.node_names b.node_names c.node_names t; arcs = append_assoc a.arcs b.arcs c.arcs t; arc_names = append_assoc a.arc_names b.arc_names c.arc_names t }

-- what is drawn is what is written
pub record IsWritten (m : Lines) (d : Drawing) : Type 0 where
  pub nodes : AreNodes m.nodes m.node_names d.nodes
  pub arcs : AreArcs (node_labels m.nodes) m.arcs m.arc_names d.arcs

-- an objective changes neither nodes nor arcs
pub record IsAimed (d new : Drawing) : Type 0 where
  pub known : new.known ≡ d.known
  pub nodes : d.nodes ≡ new.nodes
  pub built : d.arcs.arcs ≡ new.arcs.arcs
  pub group : d.arcs.group ≡ new.arcs.group

pub aimed_is : (wanted : Option Name) (w : World) (t n : Token) (p : Part) (d new : Drawing) → with_objective wanted w t n p d ≡ Ok new → IsAimed d new
aimed_is wanted w t n p d new e =
    ok_then (is_chosen wanted d.goal n) (λ b. if b then with_goal w t n p d else Ok (passed d)) new e (λ b h i. go b i)
  where
    go : (b : Bool) → (if b then with_goal w t n p d else Ok (passed d)) ≡ Ok new → IsAimed d new
    go true i =
        ok_then (part_form d.arcs.group.numbers w p) (λ f. Ok (aimed d t n f)) new i (λ f j k.
        subst (IsAimed d) (ok_is (aimed d t n f) new k) (record { known = refl; nodes = refl; built = refl; group = refl }))
    go false i = subst (IsAimed d) (ok_is (passed d) new i) (record { known = refl; nodes = refl; built = refl; group = refl })

-- one declaration more
pub record IsNext (m : Lines) (w : World) (x : Declaration) (d new : Drawing) : Type 0 where
  pub known : new.known ≡ known_after d.known x
  pub is_written : IsWritten (behind m (lines_of (env w d) x)) new

unchanged : (m : Lines) (w : World) (x : Declaration) (d new : Drawing) → IsWritten m d → new.known ≡ known_after d.known x → d.nodes ≡ new.nodes → d.arcs.arcs ≡ new.arcs.arcs → d.arcs.group ≡ new.arcs.group
    → nodes_of (env w d) x ≡ [] → node_declared x ≡ [] → arcs_of (env w d) x ≡ [] → arc_declared x ≡ [] → IsNext m w x d new
unchanged m w x d new h known ns built group a b c e = record {
  known = known;
  is_written = subst (λ (l : Lines). IsWritten l new) (after_none m (lines_of (env w d) x) a b c e) (record {
    nodes = subst (AreNodes m.nodes m.node_names) ns h.nodes;
    arcs = record {
      built = subst (AllZip (IsBuiltAs (node_labels m.nodes)) m.arcs) built h.arcs.built;
      group = subst (IsGroup (arc_labels m.arcs) m.arc_names) group h.arcs.group;
    };
  });
}

pub next_is : (wanted : Option Name) (w : World) (m : Lines) (x : Declaration) (d new : Drawing) → IsWritten m d → declare wanted w x d ≡ Ok new → IsNext m w x d new
next_is wanted w m (set t n ps z) d new h e =
    let same = ok_is (known_more d) new e in
    unchanged m w (set t n ps z) d new h (ap (λ (y : Drawing). y.known) (sym same)) (ap (λ (y : Drawing). y.nodes) same) (ap (λ (y : Drawing). y.arcs.arcs) same) (ap (λ (y : Drawing). y.arcs.group) same) refl refl refl refl
next_is wanted w m (param t n b ps z) d new h e =
    let same = ok_is (known_more d) new e in
    unchanged m w (param t n b ps z) d new h (ap (λ (y : Drawing). y.known) (sym same)) (ap (λ (y : Drawing). y.nodes) same) (ap (λ (y : Drawing). y.arcs.arcs) same) (ap (λ (y : Drawing). y.arcs.group) same) refl refl refl refl
next_is wanted w m (check t b c x z) d new h e =
    let same = ok_is d new e in
    unchanged m w (check t b c x z) d new h (ap (λ (y : Drawing). y.known) (sym same)) (ap (λ (y : Drawing). y.nodes) same) (ap (λ (y : Drawing). y.arcs.arcs) same) (ap (λ (y : Drawing). y.arcs.group) same) refl refl refl refl
next_is wanted w m (objective t n p z) d new h e =
    let by = aimed_is wanted (env w d) t n p d new e in
    unchanged m w (objective t n p z) d new h by.known by.nodes by.built by.group refl refl refl refl
next_is wanted w m (node t n b c z) d new h e =
    ok_then (with_nodes (env w d) n b c d.nodes) (λ ns. Ok (nodes_more d ns)) new e (λ ns i j.
    subst (IsNext m w (node t n b c z) d) (ok_is (nodes_more d ns) new j) (record {
      known = refl;
      is_written = record {
        nodes = nodes_more_are (env w d) n b c m.nodes m.node_names d.nodes ns h.nodes i;
        arcs =
            subst (λ (xs : List WrittenArc). AreArcs (node_labels (m.nodes ++ nodes_of (env w d) (node t n b c z))) xs (m.arc_names ++ []) d.arcs) (sym (append-nil m.arcs))
            (subst (λ (xs : List Declared). AreArcs (node_labels (m.nodes ++ nodes_of (env w d) (node t n b c z))) m.arcs xs d.arcs) (sym (append-nil m.arc_names))
            (subst (λ (ls : List WrittenLabel). AreArcs ls m.arcs m.arc_names d.arcs) (sym (map_join (λ (v : WrittenNode). v.label) m.nodes (nodes_of (env w d) (node t n b c z))))
            (arcs_stay (node_labels m.nodes) (node_labels (nodes_of (env w d) (node t n b c z))) m.arcs m.arc_names d.arcs h.arcs)));
      };
    }))
next_is wanted w m (arc t n b ps z) d new h e =
    ok_then (with_arcs (arc_env d.goal d.nodes (env w d)) n b ps d.arcs) (λ xs. Ok (arcs_more d xs)) new e (λ xs i j.
    subst (IsNext m w (arc t n b ps z) d) (ok_is (arcs_more d xs) new j) (record {
      known = refl;
      is_written = record {
        nodes = subst (λ (ns : List WrittenNode). AreNodes ns (m.node_names ++ []) d.nodes) (sym (append-nil m.nodes)) (subst (λ (ns : List Declared). AreNodes m.nodes ns d.nodes) (sym (append-nil m.node_names)) h.nodes);
        arcs =
            subst (λ (ns : List WrittenNode). AreArcs (node_labels ns) (m.arcs ++ arcs_of (env w d) (arc t n b ps z)) (m.arc_names ++ arc_declared (arc t n b ps z)) xs) (sym (append-nil m.nodes))
            (arcs_more_are m.nodes m.node_names d.nodes h.nodes d.goal (env w d) n b ps m.arcs m.arc_names d.arcs xs h.arcs i);
      };
    }))

pub written : (wanted : Option Name) (w : World) (ds : List Declaration) (m : Lines) (d new : Drawing) → IsWritten m d → draw wanted w ds d ≡ Ok new → IsWritten (behind m (all_lines w d.known ds)) new
written wanted w [] m d new h e = subst (λ (l : Lines). IsWritten l new) (after_none m (all_lines w d.known []) refl refl refl refl) (subst (IsWritten m) (ok_is d new e) h)
written wanted w (x ∷ xs) m d new h e =
    ok_then (declare wanted w x d) (draw wanted w xs) new e (λ next i j.
    let one = next_is wanted w m x d next h i in
    let rest = written wanted w xs (behind m (lines_of (env w d) x)) next new one.is_written j in
    subst (λ (l : Lines). IsWritten l new) (after_after m (lines_of (env w d) x) (all_lines w (known_after d.known x) xs))
    (subst (λ (k : ℕ). IsWritten (behind (behind m (lines_of (env w d) x)) (all_lines w k xs)) new) one.known rest))

pub nothing_written : IsWritten no_lines nothing
nothing_written = record {
  nodes = record { ranges = tt; group = record { declarations = refl; keys = tt; ordered = tt; finds = record { runs = λ name k e. absurd (let h = e in cc) }; known = record { alike = λ n. refl } } };
  arcs = record { built = tt; group = record { declarations = refl; keys = tt; ordered = tt; finds = record { runs = λ name k e. absurd (let h = e in cc) }; known = record { alike = λ n. refl } } };
}

pub all_written : (wanted : Option Name) (w : World) (ds : List Declaration) (d : Drawing) → draw wanted w ds nothing ≡ Ok d → IsWritten (all_lines w 0 ds) d
all_written wanted w ds d e = written wanted w ds no_lines nothing d nothing_written e

-- ---- the laws

-- a range in the words of an option's value
abbrev AreOneRange : Option ℤ → Option ℤ → ℤ → Type 0
AreOneRange low high y = let r : Sides = record { low = low; high = high } in (IsWithin r y → IsInSides r y) × (IsInSides r y → IsWithin r y)

for_none : (P : ℤ → Type 0) → ForSome None P
for_none P = λ m e. absurd (let h = e in cc)

for_some : (P : ℤ → Type 0) (n : ℤ) → P n → ForSome (Some n) P
for_some P n h = λ m e. subst P (let same : n ≡ m = cc in same) h

one_range : (low high : Option ℤ) (y : ℤ) → AreOneRange low high y
one_range None None y = ((λ h. record { low = for_none (λ l. l ≤ℤ y); high = for_none (λ g. y ≤ℤ g) }), (λ h. (tt, tt)))
one_range None (Some n) y = ((λ h. record { low = for_none (λ l. l ≤ℤ y); high = for_some (λ g. y ≤ℤ g) n h.1 }), (λ h. (tt, h.high n refl)))
one_range (Some l) None y = ((λ h. record { low = for_some (λ m. m ≤ℤ y) l h.0; high = for_none (λ g. y ≤ℤ g) }), (λ h. (h.low l refl, tt)))
one_range (Some l) (Some n) y = ((λ h. record { low = for_some (λ m. m ≤ℤ y) l h.0; high = for_some (λ g. y ≤ℤ g) n h.1 }), (λ h. (h.low l refl, h.high n refl)))

range_is : (n : WrittenNode) (r : Sides) → HasRange n r → IsRangeOf n r
range_is n r h y =
    let exact = range_exact n.env n.scope n.condition r h.is y in
    let words = one_range r.low r.high y in
    ((λ i. exact.0 (words.1 i)), (λ i. words.0 (exact.1 i)))

pub have_exact_ranges : HaveExactRanges
have_exact_ranges wanted w ds n e =
    let f = network_is wanted w ds n e in
    subst (AllZip IsRangeOf (nodes w ds)) (ap (λ (z : Network). z.nodes) f.whole) (zip_as HasRange IsRangeOf (nodes w ds) f.drawing.nodes.ranges range_is (all_written wanted w ds f.drawing f.is_built).nodes.ranges)

names_are : (labels : List WrittenLabel) (names : List Declared) (g : Group) → IsGroup labels names g → AreNames names labels g.list
names_are labels names g h = record { declarations = h.declarations; keys = h.keys; ordered = h.ordered }

pub have_names : HaveNames
have_names wanted w ds n e =
    let f = network_is wanted w ds n e in
    let all = all_written wanted w ds f.drawing f.is_built in
    subst (AreNamesOf w ds) f.whole (record {
      nodes = names_are (node_labels (nodes w ds)) (flat_map node_declared ds) f.drawing.nodes.group all.nodes.group;
      arcs = names_are (arc_labels (arcs w ds)) (flat_map arc_declared ds) f.drawing.arcs.group all.arcs.group;
    })

bounded : (labels : List WrittenLabel) (ps : Products) (a : ℕ) (all : List WrittenArc) (xs : List Built) → AllZip (IsBuiltAs labels) all xs → AllZip IsBoundedAs all (with_coefficients ps a xs)
bounded labels ps a [] [] h = tt
bounded labels ps a [] (x ∷ xs) h = absurd h
bounded labels ps a (y ∷ all) [] h = absurd h
bounded labels ps a (y ∷ all) (x ∷ xs) h = (record { lower = h.0.lower; upper = h.0.upper }, bounded labels ps (suc a) all xs h.1)

pub have_bounds : HaveBounds
have_bounds wanted w ds n e =
    let f = network_is wanted w ds n e in
    let all = all_written wanted w ds f.drawing f.is_built in
    subst (AllZip IsBoundedAs (arcs w ds)) (ap (λ (z : Network). z.arcs) f.whole) (bounded (node_labels (nodes w ds)) f.drawing.arcs.form.products 0 (arcs w ds) f.drawing.arcs.arcs all.arcs.built)

with_ends : (labels : List WrittenLabel) → IsDistinct same_label labels → (ps : Products) (a : ℕ) (all : List WrittenArc) (xs : List Built) → AllZip (IsBuiltAs labels) all xs → AllZip (HasEndsOf labels) all (with_coefficients ps a xs)
with_ends labels distinct ps a [] [] h = tt
with_ends labels distinct ps a [] (x ∷ xs) h = absurd h
with_ends labels distinct ps a (y ∷ all) [] h = absurd h
with_ends labels distinct ps a (y ∷ all) (x ∷ xs) h =
    let ends = h.0.ends distinct in
    (record { from = ends.from; to = ends.to }, with_ends labels distinct ps (suc a) all xs h.1)

pub have_ends : HaveEnds
have_ends wanted w ds n e distinct =
    let f = network_is wanted w ds n e in
    let all = all_written wanted w ds f.drawing f.is_built in
    subst (AllZip (HasEndsOf (node_labels (nodes w ds))) (arcs w ds)) (ap (λ (z : Network). z.arcs) f.whole)
    (with_ends (node_labels (nodes w ds)) distinct.nodes f.drawing.arcs.form.products 0 (arcs w ds) f.drawing.arcs.arcs all.arcs.built)
