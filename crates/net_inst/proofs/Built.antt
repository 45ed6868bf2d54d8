-- What is drawn so far is what is written so far.
use Rattle.std.specs.Prelude.{◌≡◌, ℕ, Bool, true, false, List, [], ◌∷◌, ◌++◌, length, map, nat_lt, Option, is_some, if◌then◌else◌, Ok, Err}
use Rattle.std.specs.List.{AllZip, IsDistinct}
use Rattle.std.proofs.Common.{None, Some, refl, ap, sym, ◌∙◌, subst, append_assoc, append-nil}
use Rattle.std.proofs.lemmas.List.{length-map}
use Rattle.net_lex.specs.declared.token.Token.{Token}
use Rattle.net_sets.specs.declared.member.Member.TheVariants.{Number}
use Rattle.net_tree.specs.Tree.{Braces, Condition, Phrase}
use Rattle.net_normal.specs.Limits.{node_limit}
use Rattle.net_expr.specs.declared.row.Row.{Row}
use Rattle.net_expr.specs.declared.value.Value.TheVariants.{One}
use Rattle.net_expr.specs.Values.{value}
use Rattle.net_expr.specs.Worlds.{World, reference}
use Rattle.net_linear.specs.declared.condition.Sides.{Sides}
use Rattle.net_linear.specs.Conditions.{range_in}
use Rattle.net_inst.specs.declared.arc.Built.{Built}
use Rattle.net_base.specs.declared.error_code.ErrorCode.TheVariants.{TooManyNodes}
use Rattle.net_inst.specs.declared.draft.ChosenObjective.{ChosenObjective}
use Rattle.net_inst.specs.declared.node_name.Group.{Group}
use Rattle.net_expr.specs.declared.indexing.Indexing.{Indexing}
use Rattle.net_inst.specs.declared.network_names.Declared.{Declared}
use Rattle.net_inst.specs.Arcs.{BuiltArcs, built, arcs_at, next_arc, with_arcs, named_arcs, arc_env, arc_text}
use Rattle.net_inst.specs.AsWritten.{WrittenLabel, WrittenNode, WrittenArc, rows_of, label_at, node_at_row, arc_at_row, arcs_with, same_label, from_end, to_end}
use Rattle.net_inst.specs.Groups.{group_with}
use Rattle.net_expr.specs.Indexings.{indexing_in}
use Rattle.net_inst.specs.Laws.{IsPlaceOf}
use Rattle.net_inst.specs.Nodes.{BuiltNodes, of_node, next_range, ranges_at, nodes_by, with_nodes, node_sides}
use Rattle.net_base.specs.Outcomes.{and_then, Outcome}
use Rattle.net_inst.specs.Rejections.{rejected_name}
use Rattle.net_inst.specs.Phrases.{Parts, parts_of}
use Rattle.net_inst.proofs.Agreement.{next_arc_is, AreArcsBy, with_arcs_is}
use Rattle.net_inst.proofs.Labels.{IsGroup, count_is, group_more}
use Rattle.net_inst.proofs.Placing.{end_place, place_stays, built_is}
use Rattle.net_inst.proofs.Zips.{ok_then, ok_is, map_map, map_join, zip_join, zip_as, zip_long, distinct_front}

abbrev pub node_labels : List WrittenNode → List WrittenLabel
node_labels ns = map (λ n. n.label) ns

abbrev pub arc_labels : List WrittenArc → List WrittenLabel
arc_labels all = map (λ a. a.label) all

-- ---- nodes

-- a range is that of the node's condition
pub record HasRange (n : WrittenNode) (r : Sides) : Type 0 where
  pub is : range_in n.env n.scope n.condition ≡ Ok (Some r)

pub record AreNodes (ns : List WrittenNode) (names : List Declared) (d : BuiltNodes) : Type 0 where
  pub ranges : AllZip HasRange ns d.ranges
  pub group : IsGroup (node_labels ns) names d.group

-- more ranges behind others
pub record AreMore (ns : List WrittenNode) (found new : List Sides) : Type 0 where
  pub more : List Sides
  pub whole : new ≡ found ++ more
  pub ranges : AllZip HasRange ns more

next_is : (w : World) (n : Token) (k : Option ℕ) (c : Condition) (row : Row) (found new : List Sides) → next_range w n k c row found ≡ Ok new → (r : Sides) × (range_in w row.scope c ≡ Ok (Some r)) × (new ≡ found ++ r ∷ [])
next_is w n k c row found new e = go (nat_lt (length found) node_limit) e
  where
    by_range : (o : Outcome (Option Sides)) → and_then (and_then o (of_node n.span (reference n.text k row.key))) (λ r. Ok (found ++ r ∷ [])) ≡ Ok new
        → (r : Sides) × (o ≡ Ok (Some r)) × (new ≡ found ++ r ∷ [])
    by_range (Ok None) h = cc
    by_range (Ok (Some r)) h = (r, refl, sym (ok_is (found ++ r ∷ []) new h))
    by_range (Err x) h = cc

    go : (b : Bool) → (if b then and_then (node_sides w n k c row) (λ r. Ok (found ++ r ∷ [])) else rejected_name TooManyNodes n) ≡ Ok new
        → (r : Sides) × (range_in w row.scope c ≡ Ok (Some r)) × (new ≡ found ++ r ∷ [])
    go true h = by_range (range_in w row.scope c) h
    go false h = cc

ranges_are : (w : World) (n : Token) (b : Option Braces) (k : Option ℕ) (c : Condition) (rows : List Row) (found new : List Sides) → ranges_at w n k c rows found ≡ Ok new → AreMore (map (node_at_row w n b c) rows) found new
ranges_are w n b k c [] found new e = record { more = []; whole = sym (ok_is found new e) ∙ sym (append-nil found); ranges = tt }
ranges_are w n b k c (row ∷ rows) found new e =
    ok_then (next_range w n k c row found) (ranges_at w n k c rows) new e (λ next h i.
    let one = next_is w n k c row found next h in
    let rest = ranges_are w n b k c rows next new i in
    record {
      more = one.0 ∷ rest.more;
      whole = rest.whole ∙ ap (λ (l : List Sides). l ++ rest.more) one.2 ∙ append_assoc found (one.0 ∷ []) rest.more;
      ranges = (record { is = one.1 }, rest.ranges);
    })

pub nodes_more_are : (w : World) (n : Token) (b : Option Braces) (c : Condition) (ns : List WrittenNode) (names : List Declared) (d new : BuiltNodes) → AreNodes ns names d → with_nodes w n b c d ≡ Ok new
    → AreNodes (ns ++ map (node_at_row w n b c) (rows_of (indexing_in w b))) (names ++ (record { name = n.text; indexed = is_some b }) ∷ []) new
nodes_more_are w n b c ns names d new h e =
    ok_then (indexing_in w b) (nodes_by w n c d) new e (λ i j k.
    ok_then (ranges_at w n i.count c i.rows d.ranges) (λ ranges. Ok (record { ranges = ranges; group = group_with d.group n.text (length d.ranges) i })) new k (λ ranges l m.
    by_rows i j ranges l (ok_is (record { ranges = ranges; group = group_with d.group n.text (length d.ranges) i }) new m)))
  where
    by_rows : (i : Indexing) → indexing_in w b ≡ Ok i → (ranges : List Sides) → ranges_at w n i.count c i.rows d.ranges ≡ Ok ranges
        → (let z : BuiltNodes = record { ranges = ranges; group = group_with d.group n.text (length d.ranges) i } in z ≡ new)
        → AreNodes (ns ++ map (node_at_row w n b c) (rows_of (indexing_in w b))) (names ++ (record { name = n.text; indexed = is_some b }) ∷ []) new
    by_rows i j ranges l same =
        subst (AreNodes (ns ++ map (node_at_row w n b c) (rows_of (indexing_in w b))) (names ++ (record { name = n.text; indexed = is_some b }) ∷ [])) same
        (subst (λ (rows : List Row). AreNodes (ns ++ map (node_at_row w n b c) rows) (names ++ (record { name = n.text; indexed = is_some b }) ∷ []) (record { ranges = ranges; group = group_with d.group n.text (length d.ranges) i })) (sym (ap rows_of j))
        (record {
          ranges =
              subst (AllZip HasRange (ns ++ map (node_at_row w n b c) i.rows)) (sym found.whole) (zip_join HasRange ns (map (node_at_row w n b c) i.rows) d.ranges found.more h.ranges found.ranges);
          group =
              subst (λ (ls : List WrittenLabel). IsGroup ls (names ++ (record { name = n.text; indexed = is_some b }) ∷ []) (group_with d.group n.text (length d.ranges) i)) labels
              (group_more (node_labels ns) names d.group n b (length d.ranges) i h.group (zip_long HasRange ns d.ranges h.ranges ∙ sym (length-map ns (λ v. v.label))) (count_is w b i j));
        }))
      where
        found : AreMore (map (node_at_row w n b c) i.rows) d.ranges ranges
        found = ranges_are w n b i.count c i.rows d.ranges ranges l

        labels : node_labels ns ++ map (label_at n b) i.rows ≡ node_labels (ns ++ map (node_at_row w n b c) i.rows)
        labels =
            ap (λ (ls : List WrittenLabel). node_labels ns ++ ls) (sym (map_map (λ (v : WrittenNode). v.label) (node_at_row w n b c) i.rows))
            ∙ sym (map_join (λ (v : WrittenNode). v.label) ns (map (node_at_row w n b c) i.rows))

-- ---- arcs

pub record HasEnds (labels : List WrittenLabel) (a : WrittenArc) (x : Built) : Type 0 where
  pub from : IsPlaceOf labels (from_end a) x.tail
  pub to : IsPlaceOf labels (to_end a) x.head

-- what is drawn of an arc
pub record IsBuiltAs (labels : List WrittenLabel) (a : WrittenArc) (x : Built) : Type 0 where
  pub lower : value a.env a.scope a.parts.lower ≡ Ok (One (Number x.lower))
  pub upper : value a.env a.scope a.parts.upper ≡ Ok (One (Number x.upper))
  pub ends : IsDistinct same_label labels → HasEnds labels a x

pub record AreArcs (labels : List WrittenLabel) (all : List WrittenArc) (names : List Declared) (d : BuiltArcs) : Type 0 where
  pub built : AllZip (IsBuiltAs labels) all d.arcs
  pub group : IsGroup (arc_labels all) names d.group

-- more arcs behind others
pub record AreMoreArcs (labels : List WrittenLabel) (all : List WrittenArc) (d new : BuiltArcs) : Type 0 where
  pub more : List Built
  pub whole : new.arcs ≡ d.arcs ++ more
  pub built : AllZip (IsBuiltAs labels) all more
  pub group : new.group ≡ d.group

one_arc : (ns : List WrittenNode) (names : List Declared) (dn : BuiltNodes) → AreNodes ns names dn → (w : World) (n : Token) (b : Option Braces) (k : Option ℕ) (p : Parts) (ps : List Phrase) (row : Row) (x : Built)
    → built dn w n k p row ≡ Ok x → IsBuiltAs (node_labels ns) (arc_at_row w n b ps p row) x
one_arc ns names dn h w n b k p ps row x e =
    let by = built_is dn w n k p row x e in
    record {
      lower = by.lower;
      upper = by.upper;
      ends = λ distinct. record {
        from = end_place (node_labels ns) dn w row.scope p.tail x.tail h.group.finds distinct by.tail;
        to = end_place (node_labels ns) dn w row.scope p.head x.head h.group.finds distinct by.head;
      };
    }

arcs_are : (ns : List WrittenNode) (names : List Declared) (dn : BuiltNodes) → AreNodes ns names dn → (g : Option ChosenObjective) (w : World) (n : Token) (b : Option Braces) (k : Option ℕ) (p : Parts) (ps : List Phrase) (rows : List Row) (d new : BuiltArcs)
    → arcs_at (arc_env g dn w) (arc_text n p ps) k rows d ≡ Ok new → AreMoreArcs (node_labels ns) (map (arc_at_row w n b ps p) rows) d new
arcs_are ns names dn h g w n b k p ps [] d new e =
    let same = ok_is d new e in
    record { more = []; whole = ap (λ (z : BuiltArcs). z.arcs) (sym same) ∙ sym (append-nil d.arcs); built = tt; group = ap (λ (z : BuiltArcs). z.group) (sym same) }
arcs_are ns names dn h g w n b k p ps (row ∷ rows) d new e =
    ok_then (next_arc (arc_env g dn w) (arc_text n p ps) k row d) (arcs_at (arc_env g dn w) (arc_text n p ps) k rows) new e (λ next i j.
    let one = next_arc_is g dn w n k p ps row d next i in
    let rest = arcs_are ns names dn h g w n b k p ps rows next new j in
    record {
      more = one.arc ∷ rest.more;
      whole = rest.whole ∙ ap (λ (l : List Built). l ++ rest.more) one.arcs ∙ append_assoc d.arcs (one.arc ∷ []) rest.more;
      built = (one_arc ns names dn h w n b k p ps row one.arc one.is_built, rest.built);
      group = rest.group ∙ one.group;
    })

pub arcs_more_are : (ns : List WrittenNode) (node_names : List Declared) (dn : BuiltNodes) → AreNodes ns node_names dn → (g : Option ChosenObjective) (w : World) (n : Token) (b : Option Braces) (ps : List Phrase) (all : List WrittenArc) (names : List Declared) (d new : BuiltArcs)
    → AreArcs (node_labels ns) all names d → with_arcs (arc_env g dn w) n b ps d ≡ Ok new → AreArcs (node_labels ns) (all ++ arcs_with w n b ps (parts_of n ps)) (names ++ (record { name = n.text; indexed = is_some b }) ∷ []) new
arcs_more_are ns node_names dn hn g w n b ps all names d new h e =
    subst (AreArcs (node_labels ns) (all ++ arcs_with w n b ps (parts_of n ps)) more_names) by.is_named
    (subst (λ (xs : List WrittenArc). AreArcs (node_labels ns) (all ++ xs) more_names (named_arcs n.text (length d.arcs) by.indexing by.found)) (sym written)
    (record {
      built = subst (AllZip (IsBuiltAs (node_labels ns)) (all ++ here)) (sym found.whole) (zip_join (IsBuiltAs (node_labels ns)) all here d.arcs found.more h.built found.built);
      group =
          subst (λ (ls : List WrittenLabel). IsGroup ls more_names (group_with by.found.group n.text (length d.arcs) by.indexing)) labels
          (subst (λ (z : Group). IsGroup (arc_labels all ++ map (label_at n b) by.indexing.rows) more_names (group_with z n.text (length d.arcs) by.indexing)) (sym found.group)
          (group_more (arc_labels all) names d.group n b (length d.arcs) by.indexing h.group (zip_long (IsBuiltAs (node_labels ns)) all d.arcs h.built ∙ sym (length-map all (λ (v : WrittenArc). v.label))) (count_is w b by.indexing by.keys)));
    }))
  where
    by : AreArcsBy g dn w n b ps d new
    by = with_arcs_is g dn w n b ps d new e

    more_names : List Declared
    more_names = names ++ (record { name = n.text; indexed = is_some b }) ∷ []

    here : List WrittenArc
    here = map (arc_at_row w n b ps by.parts) by.indexing.rows

    found : AreMoreArcs (node_labels ns) here d by.found
    found = arcs_are ns node_names dn hn g w n b by.indexing.count by.parts ps by.indexing.rows d by.found by.are_found

    written : arcs_with w n b ps (parts_of n ps) ≡ here
    written = ap (arcs_with w n b ps) by.says ∙ ap (λ (rows : List Row). map (arc_at_row w n b ps by.parts) rows) (ap rows_of by.keys)

    labels : arc_labels all ++ map (label_at n b) by.indexing.rows ≡ arc_labels (all ++ here)
    labels =
        ap (λ (ls : List WrittenLabel). arc_labels all ++ ls) (sym (map_map (λ (v : WrittenArc). v.label) (arc_at_row w n b ps by.parts) by.indexing.rows))
        ∙ sym (map_join (λ (v : WrittenArc). v.label) all here)

-- behind more nodes the arcs stay
pub arcs_stay : (labels more : List WrittenLabel) (all : List WrittenArc) (names : List Declared) (d : BuiltArcs) → AreArcs labels all names d → AreArcs (labels ++ more) all names d
arcs_stay labels more all names d h = record {
  built = zip_as (IsBuiltAs labels) (IsBuiltAs (labels ++ more)) all d.arcs (λ a x u. record {
    lower = u.lower;
    upper = u.upper;
    ends = λ distinct. let e = u.ends (distinct_front same_label labels more distinct) in record { from = place_stays labels more (from_end a) x.tail e.from; to = place_stays labels more (to_end a) x.head e.to };
  }) h.built;
  group = h.group;
}
