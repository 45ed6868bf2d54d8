-- The chosen objective, and what the declarations behind it add to its form.
use Rattle.std.specs.Prelude.{◌≡◌, ℕ, Bool, true, false, List, [], ◌∷◌, ◌++◌, take, Option, None, Some, if◌then◌else◌, Ok, ℤ, ◌+ℤ◌}
use Rattle.std.specs.List.{AllByRecursion, AllZip, IsDistinct}
use Rattle.std.specs.Str.{bytes_eq}
use Rattle.std.proofs.Common.{refl, ap, sym, ◌∙◌, subst, arith, append_assoc}
use Rattle.std.proofs.lemmas.Int.{ints}
use Rattle.std.proofs.lemmas.List.{length-map}
use Rattle.net_lex.specs.declared.token.Token.{Token}
use Rattle.net_tree.specs.Tree.{Declaration, set, param, check, node, arc, objective}
use Rattle.net_expr.specs.SetValues.{HasSets}
use Rattle.net_expr.specs.Worlds.{Name, World}
use Rattle.net_linear.specs.Forms.{Linear, form_at, all_apart}
use Rattle.net_inst.specs.declared.draft.ChosenObjective.{ChosenObjective}
use Rattle.net_inst.specs.declared.network_names.Declared.{Declared}
use Rattle.net_inst.specs.Arcs.{with_arcs, arc_env}
use Rattle.net_inst.specs.AsWritten.{WrittenArc, arcs_of, nodes, arcs, known_after, in_order, arc_declared, same_label, Assignment, number_on, numbers_on}
use Rattle.net_inst.specs.Drafts.{Drawing, nothing, env, sense_of, part_form, aimed, passed, is_chosen, with_goal, known_more, nodes_more, arcs_more, declare, draw}
use Rattle.net_inst.specs.Instances.{Network, network}
use Rattle.net_inst.specs.Laws.{total_of, IsObjectiveOf, HaveObjective}
use Rattle.net_inst.specs.Nodes.{with_nodes}
use Rattle.net_inst.specs.Readings.{Objective, prices, part_value, value_of, objective_of, objectives_from, objectives, is_wanted, or_else, chosen}
use Rattle.net_inst.proofs.Agreement.{IsFinished, network_is}
use Rattle.net_inst.proofs.Built.{arc_labels, node_labels, IsBuiltAs}
use Rattle.net_inst.proofs.KeysOnce.{front_has}
use Rattle.net_inst.proofs.Once.{all_join}
use Rattle.net_inst.proofs.ReadingLaws.{ReadAlike}
use Rattle.net_inst.proofs.SoundValues.{said_means, IsValued}
use Rattle.net_inst.proofs.Totals.{total_is}
use Rattle.net_inst.proofs.Valued.{by_place, goal_prices, Adds, arcs_add, read_alike, said_apart, said_is}
use Rattle.net_inst.proofs.Written.{Lines, lines_of, behind, no_lines, IsWritten, nothing_written, next_is, all_written}
use Rattle.net_inst.proofs.Zips.{ok_then, ok_is, map_join, zip_long, distinct_front}

abbrev goal_after : Option Objective → Option ChosenObjective → Option ChosenObjective
goal_after None g = g
goal_after (Some o) g = Some (record { name = o.name; sense = o.sense })

abbrev value_after : List WrittenArc → Option Objective → Option ChosenObjective → Linear → List WrittenArc → Assignment → ℤ
value_after all None g f rest x = form_at (by_place all x) f +ℤ goal_prices g rest x
value_after all (Some o) g f rest x = value_of o x

-- what the declarations left, with these objectives and arcs, make of the objective
pub record Aims (all : List WrittenArc) (o : Option Objective) (rest : List WrittenArc) (d new : Drawing) : Type 0 where
  pub goal : new.goal ≡ goal_after o d.goal
  pub apart : all_apart d.arcs.form.products ≡ true → all_apart new.arcs.form.products ≡ true
  pub value : IsDistinct same_label (arc_labels all) → (x : Assignment) → form_at (by_place all x) new.arcs.form ≡ value_after all o d.goal d.arcs.form rest x
  pub valued : IsValued all o

-- the objective stays as it is
same_aim : (all : List WrittenArc) (o : Option Objective) (rest : List WrittenArc) (d next new : Drawing) → next.goal ≡ d.goal → next.arcs.form ≡ d.arcs.form → Aims all o rest next new → Aims all o rest d new
same_aim all o rest d next new g f h = record {
  goal = h.goal ∙ ap (goal_after o) g;
  apart = λ k. h.apart (ap (λ (z : Linear). all_apart z.products) f ∙ k);
  value = λ distinct x. h.value distinct x ∙ ap (λ (z : Option ChosenObjective). value_after all o z next.arcs.form rest x) g ∙ ap (λ (z : Linear). value_after all o d.goal z rest x) f;
  valued = h.valued;
}

prices_join : (g : Option ChosenObjective) (xs ys : List WrittenArc) (x : Assignment) → goal_prices g (xs ++ ys) x ≡ goal_prices g xs x +ℤ goal_prices g ys x
prices_join None xs ys x = omega (arith, ints)
prices_join (Some g) [] ys x = omega (arith, ints)
prices_join (Some g) (a ∷ xs) ys x = omega (arith, ints, prices_join (Some g) xs ys x)

-- arcs more
arcs_aim : (all : List WrittenArc) (o : Option Objective) (here rest : List WrittenArc) (d next new : Drawing) → next.goal ≡ d.goal → Adds all d.goal here d.arcs.form next.arcs.form → Aims all o rest next new → Aims all o (here ++ rest) d new
arcs_aim all None here rest d next new g adds h = record {
  goal = h.goal ∙ g;
  apart = λ k. h.apart (adds.apart k);
  value = λ distinct x.
      let later : goal_prices next.goal rest x ≡ goal_prices d.goal rest x = ap (λ (z : Option ChosenObjective). goal_prices z rest x) g in
      omega (arith, ints, h.value distinct x, adds.sum x, later, prices_join d.goal here rest x);
  valued = h.valued;
}
arcs_aim all (Some o) here rest d next new g adds h = record { goal = h.goal; apart = λ k. h.apart (adds.apart k); value = h.value; valued = h.valued }

wanted_is : (wanted : Option Name) (g : Option ChosenObjective) (n : Token) (o : Objective) (b : Bool) → o.name ≡ n.text → is_chosen wanted g n ≡ Ok b → is_wanted wanted o ≡ b
wanted_is None None n o b e h = ok_is true b h
wanted_is None (Some g) n o b e h = cc
wanted_is (Some name) g n o b e h = ap (bytes_eq name) e ∙ ok_is (bytes_eq name n.text) b h

-- an objective that is passed over, and one that is chosen
passed_aim : (all : List WrittenArc) (wanted : Option Name) (o : Objective) (os : List Objective) (rest : List WrittenArc) (d new : Drawing) → is_wanted wanted o ≡ false → Aims all (chosen wanted os) rest (passed d) new → Aims all (chosen wanted (o ∷ os)) rest d new
passed_aim all wanted o os rest d new e h =
    subst (λ (p : Option Objective). Aims all p rest d new) (none_more (chosen wanted os) ∙ ap (λ (b : Bool). or_else (chosen wanted os) (if b then Some o else None)) (sym e)) (same_aim all (chosen wanted os) rest d (passed d) new refl refl h)
  where
    none_more : (p : Option Objective) → p ≡ or_else p None
    none_more None = refl
    none_more (Some p) = refl

aimed_aim : (all : List WrittenArc) (wanted : Option Name) (o : Objective) (os : List Objective) (rest : List WrittenArc) (t n : Token) (f : Linear) (d new : Drawing) → is_wanted wanted o ≡ true → o.name ≡ n.text → o.sense ≡ sense_of t → o.behind ≡ rest
    → all_apart f.products ≡ true → (IsDistinct same_label (arc_labels all) → (x : Assignment) → form_at (by_place all x) f ≡ part_value o.before o.env o.expression x)
    → IsValued all (Some o) → Aims all (chosen wanted os) rest (aimed d t n f) new → Aims all (chosen wanted (o ∷ os)) rest d new
aimed_aim all wanted o os rest t n f d new e name sense later apart phrase_expression means h =
    subst (λ (b : Bool). Aims all (or_else (chosen wanted os) (if b then Some o else None)) rest d new) (sym e) (go (chosen wanted os) h)
  where
    go : (p : Option Objective) → Aims all p rest (aimed d t n f) new → Aims all (or_else p (Some o)) rest d new
    go None k = record {
      goal = k.goal ∙ ap (λ (z : Name). let g : Option ChosenObjective = Some (record { name = z; sense = sense_of t }) in g) (sym name) ∙ ap (λ z. let g : Option ChosenObjective = Some (record { name = o.name; sense = z }) in g) (sym sense);
      apart = λ a. k.apart apart;
      value = λ distinct x.
          let after_it : prices n.text rest x ≡ prices o.name o.behind x = ap (λ (z : Name). prices z rest x) (sym name) ∙ ap (λ (z : List WrittenArc). prices o.name z x) (sym later) in
          omega (arith, ints, k.value distinct x, phrase_expression distinct x, after_it);
      valued = means;
    }
    go (Some p) k = record { goal = k.goal; apart = λ a. k.apart apart; value = k.value; valued = k.valued }

-- one declaration before others
step : (wanted : Option Name) (w : World) (all : List WrittenArc) (m : Lines) (x : Declaration) (d next new : Drawing) (os : List Objective) (rest : List WrittenArc) → IsWritten m d → all ≡ m.arcs ++ (arcs_of (env w d) x ++ rest)
    → declare wanted w x d ≡ Ok next → Aims all (chosen wanted os) rest next new → Aims all (chosen wanted (objective_of m.arc_names (env w d) x rest ++ os)) (arcs_of (env w d) x ++ rest) d new
step wanted w all m (set t n ps z) d next new os rest h whole e k =
    let same = ok_is (known_more d) next e in
    same_aim all (chosen wanted os) rest d next new (ap (λ (y : Drawing). y.goal) (sym same)) (ap (λ (y : Drawing). y.arcs.form) (sym same)) k
step wanted w all m (param t n b ps z) d next new os rest h whole e k =
    let same = ok_is (known_more d) next e in
    same_aim all (chosen wanted os) rest d next new (ap (λ (y : Drawing). y.goal) (sym same)) (ap (λ (y : Drawing). y.arcs.form) (sym same)) k
step wanted w all m (check t b c q z) d next new os rest h whole e k =
    let same = ok_is d next e in
    same_aim all (chosen wanted os) rest d next new (ap (λ (y : Drawing). y.goal) (sym same)) (ap (λ (y : Drawing). y.arcs.form) (sym same)) k
step wanted w all m (node t n b c z) d next new os rest h whole e k =
    ok_then (with_nodes (env w d) n b c d.nodes) (λ ns. Ok (nodes_more d ns)) next e (λ ns i j.
    let same = ok_is (nodes_more d ns) next j in
    same_aim all (chosen wanted os) rest d next new (ap (λ (y : Drawing). y.goal) (sym same)) (ap (λ (y : Drawing). y.arcs.form) (sym same)) k)
step wanted w all m (arc t n b ps z) d next new os rest h whole e k =
    ok_then (with_arcs (arc_env d.goal d.nodes (env w d)) n b ps d.arcs) (λ xs. Ok (arcs_more d xs)) next e (λ xs i j.
    let same = ok_is (arcs_more d xs) next j in
    let adds = arcs_add all d.goal d.nodes (env w d) n b ps d.arcs xs m.arcs rest (zip_long (IsBuiltAs (node_labels m.nodes)) m.arcs d.arcs.arcs h.arcs.built) whole i in
    arcs_aim all (chosen wanted os) (arcs_of (env w d) (arc t n b ps z)) rest d next new (ap (λ (y : Drawing). y.goal) (sym same))
    (subst (λ (y : Drawing). Adds all d.goal (arcs_of (env w d) (arc t n b ps z)) d.arcs.form y.arcs.form) same adds) k)
step wanted w all m (objective t n p z) d next new os rest h whole e k =
    ok_then (is_chosen wanted d.goal n) (λ b. if b then with_goal (env w d) t n p d else Ok (passed d)) next e (λ b i j. go b (wanted_is wanted d.goal n here b refl i) j)
  where
    here : Objective
    here = record { sense = sense_of t; name = n.text; env = env w d; expression = p; before = m.arc_names; behind = rest }

    reads : IsDistinct same_label (arc_labels all) → (x : Assignment) → ReadAlike d.arcs.group.numbers (by_place all x) x
    reads distinct x =
        read_alike all m.arcs rest x d.arcs.group.numbers h.arcs.group.finds (distinct_front same_label (arc_labels m.arcs) (arc_labels rest) (subst (IsDistinct same_label) (ap arc_labels whole ∙ map_join (λ (v : WrittenArc). v.label) m.arcs rest) distinct)) whole

    go : (b : Bool) → is_wanted wanted here ≡ b → (if b then with_goal (env w d) t n p d else Ok (passed d)) ≡ Ok next → Aims all (chosen wanted (here ∷ os)) rest d new
    go false i j = passed_aim all wanted here os rest d new i (subst (λ (y : Drawing). Aims all (chosen wanted os) rest y new) (sym (ok_is (passed d) next j)) k)
    go true i j =
        ok_then (part_form d.arcs.group.numbers (env w d) p) (λ f. Ok (aimed d t n f)) next j (λ f q r.
        aimed_aim all wanted here os rest t n f d new i refl refl refl (said_apart d.arcs.group.numbers (env w d) p f q)
        (λ distinct x. said_is d.arcs.group.numbers m.arc_names (by_place all x) x (env w d) p f h.arcs.group.known (reads distinct x) q)
        (λ sets distinct x. said_means d.arcs.group.numbers m.arc_names all x (env w d) p f sets h.arcs.group.known (reads distinct x) q)
        (subst (λ (y : Drawing). Aims all (chosen wanted os) rest y new) (sym (ok_is (aimed d t n f) next r)) k))

has_objective : (wanted : Option Name) (w : World) (ds : List Declaration) (all : List WrittenArc) (m : Lines) (d new : Drawing) → IsWritten m d → all ≡ m.arcs ++ in_order arcs_of w d.known ds → draw wanted w ds d ≡ Ok new
    → Aims all (chosen wanted (objectives_from m.arc_names w d.known ds)) (in_order arcs_of w d.known ds) d new
has_objective wanted w [] all m d new h whole e =
    let same = ok_is d new e in
    record {
      goal = ap (λ (y : Drawing). y.goal) (sym same) ∙ goal_same;
      apart = λ k. ap (λ (y : Drawing). all_apart y.arcs.form.products) (sym same) ∙ k;
      value = λ distinct x. ap (λ (y : Drawing). form_at (by_place all x) y.arcs.form) (sym same) ∙ nothing_more d.goal x;
      valued = tt;
    }
  where
    goal_same : d.goal ≡ goal_after None d.goal
    goal_same = refl

    nothing_more : (g : Option ChosenObjective) (x : Assignment) → form_at (by_place all x) d.arcs.form ≡ value_after all None g d.arcs.form [] x
    nothing_more None x = omega (arith, ints)
    nothing_more (Some g) x = omega (arith, ints)
has_objective wanted w (x ∷ xs) all m d new h whole e =
    ok_then (declare wanted w x d) (draw wanted w xs) new e (λ next i j.
    let one = next_is wanted w m x d next h i in
    let here = arcs_of (env w d) x in
    let rest = has_objective wanted w xs all (behind m (lines_of (env w d) x)) next new one.is_written
    (whole ∙ sym (append_assoc m.arcs here (in_order arcs_of w (known_after d.known x) xs)) ∙ ap (λ (k : ℕ). (m.arcs ++ here) ++ in_order arcs_of w k xs) (sym one.known)) j in
    let known = subst (λ (k : ℕ). Aims all (chosen wanted (objectives_from (m.arc_names ++ arc_declared x) w k xs)) (in_order arcs_of w k xs) next new) one.known rest in
    step wanted w all m x d next new (objectives_from (m.arc_names ++ arc_declared x) w (known_after d.known x) xs) (in_order arcs_of w (known_after d.known x) xs) h whole i known)

pub have_objective : HaveObjective
have_objective wanted w ds n e = go (chosen wanted (objectives w ds)) refl (has_objective wanted w ds (arcs w ds) no_lines nothing f.drawing nothing_written refl f.is_built)
  where
    f : IsFinished wanted w ds n
    f = network_is wanted w ds n e

    built : AllZip (IsBuiltAs (node_labels (nodes w ds))) (arcs w ds) f.drawing.arcs.arcs
    built = (all_written wanted w ds f.drawing f.is_built).arcs.built

    go : (o : Option Objective) → chosen wanted (objectives w ds) ≡ o → Aims (arcs w ds) o (arcs w ds) nothing f.drawing → (p : Objective) × (chosen wanted (objectives w ds) ≡ Some p) × IsObjectiveOf p n (arcs w ds)
    go None i a = let none = a.goal in let some = f.has_objective in absurd (cc)
    go (Some o) i a =
        let goal_is : Some o_goal ≡ Some f.goal = sym a.goal ∙ f.has_objective in
        let same : o_goal ≡ f.goal = cc in (
          o,
          i,
          record {
            name = sym (ap (λ (z : Network). z.names.objective) f.whole) ∙ ap (λ (g : ChosenObjective). g.name) (sym same);
            sense = sym (ap (λ (z : Network). z.sense) f.whole) ∙ ap (λ (g : ChosenObjective). g.sense) (sym same);
            value = λ distinct x.
                ap (λ (z : Network). total_of z (numbers_on x (arcs w ds))) (sym f.whole)
                ∙ ap (λ (s : ℤ). f.drawing.arcs.form.constant +ℤ s)
                (total_is f.drawing.arcs.form.products f.drawing.arcs.arcs (numbers_on x (arcs w ds)) (a.apart refl) (zip_long (IsBuiltAs (node_labels (nodes w ds))) (arcs w ds) f.drawing.arcs.arcs built ∙ sym (length-map (arcs w ds) (number_on x))))
                ∙ a.value distinct x;
          },
        )
      where
        o_goal : ChosenObjective
        o_goal = record { name = o.name; sense = o.sense }

-- the declared sets before an objective are sets
abbrev HaveSets : Objective → Type 0
HaveSets o = HasSets o.env

chosen_has : (wanted : Option Name) (os : List Objective) (o : Objective) → AllByRecursion HaveSets os → chosen wanted os ≡ Some o → HaveSets o
chosen_has wanted [] o all e = cc
chosen_has wanted (p ∷ os) o all e = go (chosen wanted os) (is_wanted wanted p) refl e (chosen_has wanted os o all.1)
  where
    go : (q : Option Objective) (b : Bool) → chosen wanted os ≡ q → or_else q (if b then Some p else None) ≡ Some o → (chosen wanted os ≡ Some o → HaveSets o) → HaveSets o
    go None true f i more = let same : p ≡ o = cc in subst HaveSets same all.0
    go None false f i more = cc
    go (Some q) b f i more = more (f ∙ i)

objectives_have : (w : World) → HasSets w → (before : List Declared) (k : ℕ) (ds : List Declaration) → AllByRecursion HaveSets (objectives_from before w k ds)
objectives_have w sets before k [] = tt
objectives_have w sets before k (d ∷ ds) =
    all_join HaveSets (objective_of before (take k w) d (in_order arcs_of w (known_after k d) ds)) (objectives_from (before ++ arc_declared d) w (known_after k d) ds) (here d) (objectives_have w sets (before ++ arc_declared d) (known_after k d) ds)
  where
    here : (x : Declaration) → AllByRecursion HaveSets (objective_of before (take k w) x (in_order arcs_of w (known_after k d) ds))
    here (objective t n p e) = (front_has k w sets, tt)
    here (set t n ps e) = tt
    here (param t n b ps e) = tt
    here (check t b m x e) = tt
    here (node t n b c e) = tt
    here (arc t n b ps e) = tt

pub objective_has : (wanted : Option Name) (w : World) (ds : List Declaration) → HasSets w → (o : Objective) → chosen wanted (objectives w ds) ≡ Some o → HasSets o.env
objective_has wanted w ds sets o h = chosen_has wanted (objectives w ds) o (objectives_have w sets [] 0 ds) h

pub objective_valued : (wanted : Option Name) (w : World) (ds : List Declaration) (n : Network) → network wanted w ds ≡ Ok n → (o : Objective) → chosen wanted (objectives w ds) ≡ Some o → IsValued (arcs w ds) (Some o)
objective_valued wanted w ds n e o h =
    let f = network_is wanted w ds n e in
    subst (IsValued (arcs w ds)) h (has_objective wanted w ds (arcs w ds) no_lines nothing f.drawing nothing_written refl f.is_built).valued
