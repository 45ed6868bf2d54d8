-- Whichever objective is chosen, the declarations come to the same nodes and arcs.
use Rattle.std.specs.Prelude.{◌≡◌, ◌+◌, ℕ, suc, Bool, true, false, List, [], ◌∷◌, ◌++◌, length, map, take, nat_lt, Option, None, Some, if◌then◌else◌, Ok}
use Rattle.std.proofs.Common.{refl, ap, sym, ◌∙◌, subst}
use Rattle.net_base.specs.declared.diagnostic.Span.{Span}
use Rattle.net_lex.specs.declared.token.Token.{Token}
use Rattle.net_tree.specs.Tree.{Braces, Phrase, Part, Declaration, set, param, check, node, arc, objective}
use Rattle.net_normal.specs.Limits.{arc_limit}
use Rattle.net_expr.specs.declared.row.Row.{Row}
use Rattle.net_expr.specs.Worlds.{Name, World}
use Rattle.net_linear.specs.Forms.{Products}
use Rattle.net_linear.specs.Forms as forms
use Rattle.net_inst.specs.declared.arc.Built.{Built}
use Rattle.net_base.specs.declared.error_code.ErrorCode.TheVariants.{TooManyArcs}
use Rattle.net_inst.specs.declared.draft.ChosenObjective.{ChosenObjective}
use Rattle.net_inst.specs.declared.node_name.Group.{Group}
use Rattle.net_expr.specs.declared.indexing.Indexing.{Indexing}
use Rattle.net_inst.specs.Arcs.{BuiltArcs, built, prices_in, next_arc, arcs_at, arcs_by, with_arcs, named_arcs, arc_env, arc_text}
use Rattle.net_inst.specs.Drafts.{Drawing, nothing, env, part_form, aimed, passed, is_chosen, with_goal, with_objective, known_more, nodes_more, arcs_more, declare, draw}
use Rattle.net_inst.specs.Groups.{group_with}
use Rattle.net_expr.specs.Indexings.{indexing_in}
use Rattle.net_inst.specs.Instances.{Network, with_coefficients, network_of, without_goal, finished, end_of, point, network}
use Rattle.net_inst.specs.Laws.{shape_of, AreOneNetwork}
use Rattle.net_inst.specs.Nodes.{BuiltNodes, with_nodes}
use Rattle.net_base.specs.Outcomes.{Outcome, and_then}
use Rattle.net_inst.specs.Rejections.{rejected_name}
use Rattle.net_inst.specs.Phrases.{Parts, parts_of}
use Rattle.net_inst.proofs.Zips.{ok_then, ok_is}

-- what one arc more comes to
pub record IsNextArc (g : Option ChosenObjective) (ns : BuiltNodes) (w : World) (n : Token) (k : Option ℕ) (p : Parts) (ps : List Phrase) (row : Row) (d new : BuiltArcs) : Type 0 where
  pub arc : Built
  pub is_built : built ns w n k p row ≡ Ok arc
  pub priced : prices_in g w row.scope (length d.arcs) ps d.form ≡ Ok new.form
  pub arcs : new.arcs ≡ d.arcs ++ arc ∷ []
  pub group : new.group ≡ d.group

pub next_arc_is : (g : Option ChosenObjective) (ns : BuiltNodes) (w : World) (n : Token) (k : Option ℕ) (p : Parts) (ps : List Phrase) (row : Row) (d new : BuiltArcs) → next_arc (arc_env g ns w) (arc_text n p ps) k row d ≡ Ok new → IsNextArc g ns w n k p ps row d new
next_arc_is g ns w n k p ps row d new e = go (nat_lt (length d.arcs) arc_limit) e
  where
    rest : Built → Outcome BuiltArcs
    rest x = and_then (prices_in g w row.scope (length d.arcs) ps d.form) (λ f. Ok (record { arcs = d.arcs ++ x ∷ []; form = f; group = d.group }))

    made : (x : Built) (f : forms.Linear) → built ns w n k p row ≡ Ok x → prices_in g w row.scope (length d.arcs) ps d.form ≡ Ok f → (let o : Outcome BuiltArcs = Ok (record { arcs = d.arcs ++ x ∷ []; form = f; group = d.group }) in o ≡ Ok new)
        → IsNextArc g ns w n k p ps row d new
    made x f h i j =
        let same = ok_is _ new j in
        record {
          arc = x;
          is_built = h;
          priced = i ∙ ap (λ (z : BuiltArcs). let o : Outcome forms.Linear = Ok z.form in o) same;
          arcs = sym (ap (λ (z : BuiltArcs). z.arcs) same);
          group = sym (ap (λ (z : BuiltArcs). z.group) same);
        }

    go : (b : Bool) → (if b then and_then (built ns w n k p row) rest else rejected_name TooManyArcs n) ≡ Ok new → IsNextArc g ns w n k p ps row d new
    go true h = ok_then (built ns w n k p row) rest new h (λ x i j. ok_then (prices_in g w row.scope (length d.arcs) ps d.form) _ new j (λ f l m. made x f i l m))
    go false h = cc

abbrev AreAlike : BuiltArcs → BuiltArcs → Type 0
AreAlike d e = (d.arcs ≡ e.arcs) × (d.group ≡ e.group)

next_alike : (g h : Option ChosenObjective) (ns : BuiltNodes) (w : World) (n : Token) (k : Option ℕ) (p : Parts) (ps : List Phrase) (row : Row) (d e new other : BuiltArcs) → AreAlike d e
    → next_arc (arc_env g ns w) (arc_text n p ps) k row d ≡ Ok new → next_arc (arc_env h ns w) (arc_text n p ps) k row e ≡ Ok other → AreAlike new other
next_alike g h ns w n k p ps row d e new other same i j =
    let first = next_arc_is g ns w n k p ps row d new i in
    let second = next_arc_is h ns w n k p ps row e other j in
    let one : first.arc ≡ second.arc = ok_is first.arc second.arc (sym first.is_built ∙ second.is_built) in (
      first.arcs ∙ ap (λ (xs : List Built). xs ++ first.arc ∷ []) same.0 ∙ ap (λ (x : Built). e.arcs ++ x ∷ []) one ∙ sym second.arcs,
      first.group ∙ same.1 ∙ sym second.group,
    )

arcs_alike : (g h : Option ChosenObjective) (ns : BuiltNodes) (w : World) (n : Token) (k : Option ℕ) (p : Parts) (ps : List Phrase) (rows : List Row) (d e new other : BuiltArcs) → AreAlike d e
    → arcs_at (arc_env g ns w) (arc_text n p ps) k rows d ≡ Ok new → arcs_at (arc_env h ns w) (arc_text n p ps) k rows e ≡ Ok other → AreAlike new other
arcs_alike g h ns w n k p ps [] d e new other same i j =
    let one = ok_is d new i in
    let two = ok_is e other j in
    (ap (λ (z : BuiltArcs). z.arcs) (sym one) ∙ same.0 ∙ ap (λ (z : BuiltArcs). z.arcs) two, ap (λ (z : BuiltArcs). z.group) (sym one) ∙ same.1 ∙ ap (λ (z : BuiltArcs). z.group) two)
arcs_alike g h ns w n k p ps (row ∷ rows) d e new other same i j =
    ok_then (next_arc (arc_env g ns w) (arc_text n p ps) k row d) (arcs_at (arc_env g ns w) (arc_text n p ps) k rows) new i (λ d1 a b.
    ok_then (next_arc (arc_env h ns w) (arc_text n p ps) k row e) (arcs_at (arc_env h ns w) (arc_text n p ps) k rows) other j (λ e1 c f.
    arcs_alike g h ns w n k p ps rows d1 e1 new other (next_alike g h ns w n k p ps row d e d1 e1 same a c) b f))

-- the arcs of a declaration, by its parts and keys
pub record AreArcsBy (g : Option ChosenObjective) (ns : BuiltNodes) (w : World) (n : Token) (b : Option Braces) (ps : List Phrase) (d new : BuiltArcs) : Type 0 where
  pub parts : Parts
  pub says : parts_of n ps ≡ Ok parts
  pub indexing : Indexing
  pub keys : indexing_in w b ≡ Ok indexing
  pub found : BuiltArcs
  pub are_found : arcs_at (arc_env g ns w) (arc_text n parts ps) indexing.count indexing.rows d ≡ Ok found
  pub is_named : named_arcs n.text (length d.arcs) indexing found ≡ new

pub with_arcs_is : (g : Option ChosenObjective) (ns : BuiltNodes) (w : World) (n : Token) (b : Option Braces) (ps : List Phrase) (d new : BuiltArcs) → with_arcs (arc_env g ns w) n b ps d ≡ Ok new → AreArcsBy g ns w n b ps d new
with_arcs_is g ns w n b ps d new e =
    ok_then (parts_of n ps) (λ p. and_then (indexing_in w b) (arcs_by (arc_env g ns w) (arc_text n p ps) d)) new e (λ p h i.
    ok_then (indexing_in w b) (arcs_by (arc_env g ns w) (arc_text n p ps) d) new i (λ x j k.
    ok_then (arcs_at (arc_env g ns w) (arc_text n p ps) x.count x.rows d) (λ found. Ok (named_arcs n.text (length d.arcs) x found)) new k (λ found l m.
    record { parts = p; says = h; indexing = x; keys = j; found = found; are_found = l; is_named = ok_is (named_arcs n.text (length d.arcs) x found) new m })))

with_arcs_alike : (g h : Option ChosenObjective) (ns : BuiltNodes) (w : World) (n : Token) (b : Option Braces) (ps : List Phrase) (d e new other : BuiltArcs) → AreAlike d e
    → with_arcs (arc_env g ns w) n b ps d ≡ Ok new → with_arcs (arc_env h ns w) n b ps e ≡ Ok other → AreAlike new other
with_arcs_alike g h ns w n b ps d e new other same i j =
    let one = with_arcs_is g ns w n b ps d new i in
    let two = with_arcs_is h ns w n b ps e other j in
    let parts : two.parts ≡ one.parts = ok_is two.parts one.parts (sym two.says ∙ one.says) in
    let keys : two.indexing ≡ one.indexing = ok_is two.indexing one.indexing (sym two.keys ∙ one.keys) in
    let copied : arcs_at (arc_env h ns w) (arc_text n one.parts ps) one.indexing.count one.indexing.rows e ≡ Ok two.found =
    subst (λ (x : Indexing). arcs_at (arc_env h ns w) (arc_text n one.parts ps) x.count x.rows e ≡ Ok two.found) keys (subst (λ (p : Parts). arcs_at (arc_env h ns w) (arc_text n p ps) two.indexing.count two.indexing.rows e ≡ Ok two.found) parts two.are_found) in
    let found = arcs_alike g h ns w n one.indexing.count one.parts ps one.indexing.rows d e one.found two.found same one.are_found copied in
    let counted : length d.arcs ≡ length e.arcs = ap (λ (xs : List Built). length xs) same.0 in (
      sym (ap (λ (z : BuiltArcs). z.arcs) one.is_named) ∙ found.0 ∙ ap (λ (z : BuiltArcs). z.arcs) two.is_named,
      sym (ap (λ (z : BuiltArcs). z.group) one.is_named)
          ∙ ap (λ (gr : Group). group_with gr n.text (length d.arcs) one.indexing) found.1
          ∙ ap (λ (first : ℕ). group_with two.found.group n.text first one.indexing) counted
          ∙ ap (λ (x : Indexing). group_with two.found.group n.text (length e.arcs) x) (sym keys)
          ∙ ap (λ (z : BuiltArcs). z.group) two.is_named,
    )

-- two drawings that differ at most in the objective
record AreOne (d e : Drawing) : Type 0 where
  pub known : d.known ≡ e.known
  pub nodes : d.nodes ≡ e.nodes
  pub arcs : AreAlike d.arcs e.arcs

by_aim : (wanted : Option Name) (w : World) (t n : Token) (p : Part) (d new : Drawing) → with_objective wanted w t n p d ≡ Ok new → AreOne d new
by_aim wanted w t n p d new e =
    ok_then (is_chosen wanted d.goal n) (λ b. if b then with_goal w t n p d else Ok (passed d)) new e (λ b h i. go b i)
  where
    same : (z : Drawing) → z ≡ new → AreOne d z → AreOne d new
    same z e h = subst (AreOne d) e h

    go : (b : Bool) → (if b then with_goal w t n p d else Ok (passed d)) ≡ Ok new → AreOne d new
    go true i = ok_then (part_form d.arcs.group.numbers w p) (λ f. Ok (aimed d t n f)) new i (λ f j k. same (aimed d t n f) (ok_is (aimed d t n f) new k) (record { known = refl; nodes = refl; arcs = (refl, refl) }))
    go false i = same (passed d) (ok_is (passed d) new i) (record { known = refl; nodes = refl; arcs = (refl, refl) })

flipped : (d e : Drawing) → AreOne d e → AreOne e d
flipped d e h = record { known = sym h.known; nodes = sym h.nodes; arcs = (sym h.arcs.0, sym h.arcs.1) }

joined : (d e f : Drawing) → AreOne d e → AreOne e f → AreOne d f
joined d e f h k = record { known = h.known ∙ k.known; nodes = h.nodes ∙ k.nodes; arcs = (h.arcs.0 ∙ k.arcs.0, h.arcs.1 ∙ k.arcs.1) }

same_drawing : (d e : Drawing) → d ≡ e → AreOne d e
same_drawing d e h = subst (AreOne d) h (record { known = refl; nodes = refl; arcs = (refl, refl) })

more_known : (d e : Drawing) → AreOne d e → AreOne (known_more d) (known_more e)
more_known d e h = record { known = ap (λ (k : ℕ). k + 1) h.known; nodes = h.nodes; arcs = h.arcs }

declared_one : (a b : Option Name) (w : World) (x : Declaration) (d e new other : Drawing) → AreOne d e → declare a w x d ≡ Ok new → declare b w x e ≡ Ok other → AreOne new other
declared_one a b w (set t n ps z) d e new other h i j =
    joined new (known_more d) other (same_drawing new (known_more d) (sym (ok_is (known_more d) new i))) (joined (known_more d) (known_more e) other (more_known d e h) (same_drawing (known_more e) other (ok_is (known_more e) other j)))
declared_one a b w (param t n q ps z) d e new other h i j =
    joined new (known_more d) other (same_drawing new (known_more d) (sym (ok_is (known_more d) new i))) (joined (known_more d) (known_more e) other (more_known d e h) (same_drawing (known_more e) other (ok_is (known_more e) other j)))
declared_one a b w (check t q m x z) d e new other h i j = joined new d other (same_drawing new d (sym (ok_is d new i))) (joined d e other h (same_drawing e other (ok_is e other j)))
declared_one a b w (node t n q c z) d e new other h i j =
    ok_then (with_nodes (env w d) n q c d.nodes) (λ ns. Ok (nodes_more d ns)) new i (λ ns k l.
    ok_then (with_nodes (env w e) n q c e.nodes) (λ ns. Ok (nodes_more e ns)) other j (λ ms f m.
    let copied : with_nodes (env w d) n q c d.nodes ≡ Ok ms =
    ap (λ (y : ℕ). with_nodes (take y w) n q c d.nodes) h.known ∙ ap (λ (y : BuiltNodes). with_nodes (take e.known w) n q c y) h.nodes ∙ f in
    let one : ns ≡ ms = ok_is ns ms (sym k ∙ copied) in
    joined new (nodes_more d ns) other (same_drawing new (nodes_more d ns) (sym (ok_is (nodes_more d ns) new l)))
    (joined (nodes_more d ns) (nodes_more e ms) other (record { known = h.known; nodes = one; arcs = h.arcs }) (same_drawing (nodes_more e ms) other (ok_is (nodes_more e ms) other m)))))
declared_one a b w (arc t n q ps z) d e new other h i j =
    ok_then (with_arcs (arc_env d.goal d.nodes (env w d)) n q ps d.arcs) (λ xs. Ok (arcs_more d xs)) new i (λ xs k l.
    ok_then (with_arcs (arc_env e.goal e.nodes (env w e)) n q ps e.arcs) (λ xs. Ok (arcs_more e xs)) other j (λ ys f m.
    let copied : with_arcs (arc_env e.goal d.nodes (env w d)) n q ps e.arcs ≡ Ok ys =
    ap (λ (y : ℕ). with_arcs (arc_env e.goal d.nodes (take y w)) n q ps e.arcs) h.known ∙ ap (λ (y : BuiltNodes). with_arcs (arc_env e.goal y (take e.known w)) n q ps e.arcs) h.nodes ∙ f in
    let one : AreAlike xs ys = with_arcs_alike d.goal e.goal d.nodes (env w d) n q ps d.arcs e.arcs xs ys h.arcs k copied in
    joined new (arcs_more d xs) other (same_drawing new (arcs_more d xs) (sym (ok_is (arcs_more d xs) new l)))
    (joined (arcs_more d xs) (arcs_more e ys) other (record { known = h.known; nodes = h.nodes; arcs = one }) (same_drawing (arcs_more e ys) other (ok_is (arcs_more e ys) other m)))))
declared_one a b w (objective t n p z) d e new other h i j = joined new d other (flipped d new (by_aim a (env w d) t n p d new i)) (joined d e other h (by_aim b (env w e) t n p e other j))

built_one : (a b : Option Name) (w : World) (ds : List Declaration) (d e new other : Drawing) → AreOne d e → draw a w ds d ≡ Ok new → draw b w ds e ≡ Ok other → AreOne new other
built_one a b w [] d e new other h i j = joined new d other (same_drawing new d (sym (ok_is d new i))) (joined d e other h (same_drawing e other (ok_is e other j)))
built_one a b w (x ∷ xs) d e new other h i j =
    ok_then (declare a w x d) (draw a w xs) new i (λ d1 k l.
    ok_then (declare b w x e) (draw b w xs) other j (λ e1 m f.
    built_one a b w xs d1 e1 new other (declared_one a b w x d e d1 e1 h k m) l f))

-- the network of what is drawn
pub record IsFinished (wanted : Option Name) (w : World) (ds : List Declaration) (n : Network) : Type 0 where
  pub drawing : Drawing
  pub is_built : draw wanted w ds nothing ≡ Ok drawing
  pub goal : ChosenObjective
  pub has_objective : drawing.goal ≡ Some goal
  pub whole : network_of drawing.nodes drawing.arcs goal ≡ n

pub network_is : (wanted : Option Name) (w : World) (ds : List Declaration) (n : Network) → network wanted w ds ≡ Ok n → IsFinished wanted w ds n
unfolding network
network_is wanted w ds n e = ok_then (draw wanted w ds nothing) (λ d. finished wanted (point (end_of 0 ds)) d d.goal) n e (λ d h i. go d h d.goal refl i)
  where
    none : (b : Bool) (at : Span) → without_goal wanted at b ≡ Ok n → ⊥
    none true at i = cc
    none false at i = cc

    go : (d : Drawing) → draw wanted w ds nothing ≡ Ok d → (g : Option ChosenObjective) → d.goal ≡ g → finished wanted (point (end_of 0 ds)) d g ≡ Ok n → IsFinished wanted w ds n
    go d h (Some g) j i = record { drawing = d; is_built = h; goal = g; has_objective = j; whole = ok_is (network_of d.nodes d.arcs g) n i }
    go d h None j i = absurd (none d.has_objective (point (end_of 0 ds)) i)

pub shapes : (ps : Products) (a : ℕ) (xs : List Built) → map shape_of (with_coefficients ps a xs) ≡ xs
shapes ps a [] = refl
shapes ps a (x ∷ xs) = ap (◌∷◌ x) (shapes ps (suc a) xs)

pub are_one_network : AreOneNetwork
are_one_network name other w ds m n h k =
    let first = network_is name w ds m h in
    let second = network_is other w ds n k in
    let one = built_one name other w ds nothing nothing first.drawing second.drawing (record { known = refl; nodes = refl; arcs = (refl, refl) }) first.is_built second.is_built in
    record {
      nodes = sym (ap (λ (z : Network). z.nodes) first.whole) ∙ ap (λ (z : BuiltNodes). z.ranges) one.nodes ∙ ap (λ (z : Network). z.nodes) second.whole;
      arcs =
          sym (ap (λ (z : Network). map shape_of z.arcs) first.whole)
          ∙ shapes first.drawing.arcs.form.products 0 first.drawing.arcs.arcs
          ∙ one.arcs.0
          ∙ sym (shapes second.drawing.arcs.form.products 0 second.drawing.arcs.arcs)
          ∙ ap (λ (z : Network). map shape_of z.arcs) second.whole;
      node_names = sym (ap (λ (z : Network). z.names.nodes) first.whole) ∙ ap (λ (z : BuiltNodes). z.group.list) one.nodes ∙ ap (λ (z : Network). z.names.nodes) second.whole;
      arc_names = sym (ap (λ (z : Network). z.names.arcs) first.whole) ∙ ap (λ (gr : Group). gr.list) one.arcs.1 ∙ ap (λ (z : Network). z.names.arcs) second.whole;
    }
