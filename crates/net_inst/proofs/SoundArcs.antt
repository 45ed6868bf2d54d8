-- The network that the code computes is the one that the model means.
use Rattle.std.specs.Prelude.{◌≡◌, ◌⊎◌, ◌||◌, ℕ, Bool, true, false, List, [], ◌∷◌, ◌++◌, length, map, Option, None, Some, is_some, IsTrue, if◌then◌else◌, option_map, Ok, Err, IfOk, ⊤, ℤ, pos, ◌+ℤ◌, ◌≤ℤ◌, int_lt}
use Rattle.std.specs.List.{AllByRecursion, AllZip}
use Rattle.std.specs.Str.{bytes_eq}
use Rattle.std.proofs.Common.{refl, ap, sym, ◌∙◌, subst, arith, inl, inr, append_assoc, append-nil}
use Rattle.std.proofs.lemmas.Int.{ints}
use Rattle.net_base.specs.declared.error_code.ErrorCode.TheVariants.{ArcCrossed}
use Rattle.net_base.specs.Outcomes.{Outcome, and_then, rejected_of}
use Rattle.net_lex.specs.declared.token.Token.{Token}
use Rattle.net_sets.specs.declared.member.Member.TheVariants as member
use Rattle.net_sets.specs.Sets.{Tuple}
use Rattle.net_tree.specs.Erasure.{expression, expressions, indexing}
use Rattle.net_tree.specs.Phrases.{is_at_least, is_at_most, is_from, is_to}
use Rattle.net_tree.specs.Spans.{span_of}
use Rattle.net_tree.specs.Syntax.{Expression}
use Rattle.net_tree.specs.Tree.{Tree, Braces, Part, Phrase, Body, plain, valued, priced, leaf, indexed, parens, tuple, negated, braced, signed, reduced, chain, choice, net, Declaration, set, param, check, node, arc, objective}
use Rattle.net_expr.specs.declared.row.Row.{Row}
use Rattle.net_expr.specs.declared.value.Value.TheVariants as found
use Rattle.net_expr.specs.SetValues.{HasSets}
use Rattle.net_expr.specs.Values.{index}
use Rattle.net_expr.specs.Worlds.{Name, World, Scope, reference}
use Rattle.net_linear.specs.Arcs.{declared}
use Rattle.net_linear.specs.Forms as forms
use Rattle.net_linear.specs.Forms.{Linear}
use Rattle.net_linear.specs.Objectives.{key_of}
use Rattle.net_tree.specs.PhraseValues.{phrase_value}
use Rattle.net_meaning.specs.OfTrees.{env_of, IsEnd, HasNumber, IsArc, IsCoefficient, IsCoefficientIn, IsCoefficientFor, IsValue, AreKeys, AreValues, AreIndexed}
use Rattle.net_meaning.specs.Network as meaning
use Rattle.net_meaning.specs.Network.{absent_end, name, name_and_key}
use Rattle.net_meaning.specs.Operators as values
use Rattle.net_meaning.specs.Values.{Env, Key, AreMembers}
use Rattle.net_meaning.proofs.Erased.{phrase_value_is, indexed_is, some_kept}
use Rattle.net_meaning.proofs.Meaning.{evaluation_is_sound, keys_are_sound, key_is_sound, netless, all_netless}
use Rattle.net_inst.specs.declared.arc.Built.{Built}
use Rattle.net_inst.specs.declared.draft.ChosenObjective.{ChosenObjective}
use Rattle.net_expr.specs.declared.indexing.Indexing.{Indexing}
use Rattle.net_inst.specs.Arcs.{BuiltArcs, built, end_at, with_ends, is_goal, priced_by, price_in, prices_in, next_arc, arcs_at, arc_env, arc_text}
use Rattle.net_inst.specs.AsWritten as written
use Rattle.net_inst.specs.AsWritten.{amount, arc_at_row}
use Rattle.net_inst.specs.Drafts.{Drawing, part_form, aimed, passed, is_chosen, with_goal, with_objective}
use Rattle.net_expr.specs.Indexings.{alone, by_keys, indexing_in}
use Rattle.net_inst.specs.Nodes as nodes
use Rattle.net_inst.specs.Nodes.{BuiltNodes}
use Rattle.net_inst.specs.Numbers.{number}
use Rattle.net_inst.specs.Phrases.{Parts, parts_of, parts_from}
use Rattle.net_inst.specs.Readings.{price_of}
use Rattle.net_inst.specs.Readings.{price_in as price_in_goal}
use Rattle.net_inst.specs.Soundness.{IsSameArc}
use Rattle.net_inst.proofs.Agreement.{next_arc_is}
use Rattle.net_inst.proofs.Placing as placing
use Rattle.net_inst.proofs.SoundEnds.{HasEnd}
use Rattle.net_inst.proofs.Valued.{amount_is}
use Rattle.net_inst.proofs.Zips.{ok_then, ok_is}

-- ---- numbers, ends and coefficients

pub number_is : (w : World) → HasSets w → (s : Scope) (t : Tree) (n : ℤ) → number w s t ≡ Ok n → IsValue (env_of w s) t (values.number n)
number_is w sets s t n e = evaluation_is_sound w s t (found.One (member.Number n)) sets (placing.number_is w s t n e)

end_is : (ns : BuiltNodes) (w : World) → HasSets w → (s : Scope) (o : Option Tree) (v : Option ℕ) → end_at ns w s o ≡ Ok v → IsEnd (env_of w s) o (written.end_of w s o)
end_is ns w sets s None v e = absent_end
end_is ns w sets s (Some (leaf t)) v e = name t
end_is ns w sets s (Some (indexed n o x l c)) v e = go (key_of w s (span_of (indexed n o x l c)) x l) (key_is_sound (λ n. None) (pos 0) (span_of (indexed n o x l c)) w sets s x l (netless x) (all_netless l)) e
  where
    go : (k : Outcome Tuple) → IfOk k (AreMembers (IsValue (env_of w s) x) (AreValues (env_of w s) l))
        → and_then (and_then k (nodes.node_at (length ns.ranges) (span_of (indexed n o x l c)) n.text (declared ns.group.numbers n.text))) (λ u. Ok (Some u)) ≡ Ok v
        → IsEnd (env_of w s) (Some (indexed n o x l c)) (written.with_key n.text k)
    go (Ok key) h i = name_and_key n.text (expression x) (expressions l) key h
    go (Err r) h i = cc
end_is ns w sets s (Some (parens o y c)) v e = cc
end_is ns w sets s (Some (tuple o y l c)) v e = cc
end_is ns w sets s (Some (negated n o y c)) v e = cc
end_is ns w sets s (Some (braced b)) v e = cc
end_is ns w sets s (Some (signed t y)) v e = cc
end_is ns w sets s (Some (reduced m b y)) v e = cc
end_is ns w sets s (Some (chain n y l)) v e = cc
end_is ns w sets s (Some (choice i y t z p)) v e = cc
end_is ns w sets s (Some (net t u)) v e = cc

-- an end is present if and only if its phrase is
end_present : (e : Env) (o : Option Tree) (r : Option (Name × Tuple)) → IsEnd e o r → is_some r ≡ is_some o
end_present e o r h = present (option_map expression o) r h ∙ some_kept expression o
  where
    present : (x : Option Expression) (r : Option (Name × Tuple)) → meaning.IsEnd e x r → is_some r ≡ is_some x
    present x r absent_end = refl
    present x r (name t) = refl
    present x r (name_and_key n y l key h) = refl

-- the objective so far and the final one agree about the names of these phrases
abbrev pub AgreesOn : Option ChosenObjective → Name → Body → Type 0
AgreesOn g goal (priced n x) = bytes_eq goal n.text ≡ is_goal g n.text
AgreesOn g goal plain = ⊤
AgreesOn g goal (valued x) = ⊤

abbrev pub AgreesOnAll : Option ChosenObjective → Name → List Phrase → Type 0
AgreesOnAll g goal ps = AllByRecursion (λ (p : Phrase). AgreesOn g goal p.body) ps

term_is : (goal : Name) (g : Option ChosenObjective) (w : World) → HasSets w → (s : Scope) (a : ℕ) (b : Body) (f new : Linear) → AgreesOn g goal b → price_in g w s a b f ≡ Ok new → (c : ℤ) × IsCoefficientIn goal (env_of w s) b c × (c ≡ price_in_goal goal w s b)
term_is goal g w sets s a plain f new h e = (pos 0, refl, refl)
term_is goal g w sets s a (valued x) f new h e = (pos 0, refl, refl)
term_is goal g w sets s a (priced n x) f new h e = go (is_goal g n.text) h e
  where
    go : (b : Bool) → bytes_eq goal n.text ≡ b → (if b then priced_by w s a x f else Ok f) ≡ Ok new → (c : ℤ) × IsCoefficientFor (env_of w s) x c (bytes_eq goal n.text) × (c ≡ (if bytes_eq goal n.text then amount w s x else pos 0))
    go true h i =
        ok_then (number w s x) (λ c. forms.priced (span_of x) f a c) new i (λ c k l. (
          c,
          subst (IsCoefficientFor (env_of w s) x c) (sym h) (number_is w sets s x c k),
          sym (ap (λ (b : Bool). if b then amount w s x else pos 0) h ∙ amount_is w s x c k),
        ))
    go false h i = (pos 0, subst (IsCoefficientFor (env_of w s) x (pos 0)) (sym h) refl, sym (ap (λ (b : Bool). if b then amount w s x else pos 0) h))

coefficient_is : (goal : Name) (g : Option ChosenObjective) (w : World) → HasSets w → (s : Scope) (a : ℕ) (ps : List Phrase) (f new : Linear) → AgreesOnAll g goal ps → prices_in g w s a ps f ≡ Ok new → (c : ℤ) × IsCoefficient goal (env_of w s) ps c × (c ≡ price_of goal w s ps)
coefficient_is goal g w sets s a [] f new h e = (pos 0, refl, refl)
coefficient_is goal g w sets s a (p ∷ ps) f new h e =
    ok_then (price_in g w s a p.body f) (prices_in g w s a ps) new e (λ z i j.
    let first = term_is goal g w sets s a p.body f z h.0 i in
    let rest = coefficient_is goal g w sets s a ps z new h.1 j in
    (first.0 +ℤ rest.0, (first.0, rest.0, first.1, rest.1, refl), ap (λ (m : ℤ). m +ℤ rest.0) first.2 ∙ ap (λ (m : ℤ). price_in_goal goal w s p.body +ℤ m) rest.2))

-- ---- an arc at a key

pub record AreParts (l u t h : Option Tree) (p : Parts) : Type 0 where
  pub lower : l ≡ Some p.lower
  pub upper : u ≡ Some p.upper
  pub tail : p.tail ≡ t
  pub head : p.head ≡ h
  pub ended : IsTrue (is_some p.tail || is_some p.head)

pub parts_are : (n : Token) (l u t h : Option Tree) (p : Parts) → parts_from n l u t h ≡ Ok p → AreParts l u t h p
parts_are n None u t h p e = cc
parts_are n (Some l) None t h p e = cc
parts_are n (Some l) (Some u) None None p e = cc
parts_are n (Some l) (Some u) None (Some h) p e = subst (AreParts (Some l) (Some u) None (Some h)) (ok_is _ p e) (record { lower = refl; upper = refl; tail = refl; head = refl; ended = refl })
parts_are n (Some l) (Some u) (Some t) h p e = subst (AreParts (Some l) (Some u) (Some t) h) (ok_is _ p e) (record { lower = refl; upper = refl; tail = refl; head = refl; ended = refl })

-- what the code computes of an arc is what its phrases mean
record IsRow (w : World) (s : Scope) (ps : List Phrase) (p : Parts) (x : Built) : Type 0 where
  lower : HasNumber (env_of w s) (phrase_value is_at_least ps) x.lower
  upper : HasNumber (env_of w s) (phrase_value is_at_most ps) x.upper
  ordered : x.lower ≤ℤ x.upper
  from : IsEnd (env_of w s) (phrase_value is_from ps) (written.end_of w s p.tail)
  to : IsEnd (env_of w s) (phrase_value is_to ps) (written.end_of w s p.head)
  ended : IsTrue (is_some (written.end_of w s p.tail) || is_some (written.end_of w s p.head))

ends_are : (ns : BuiltNodes) (w : World) → HasSets w → (s : Scope) (ps : List Phrase) (p : Parts) (l u : ℤ) (x : Built) → AreParts (phrase_value is_at_least ps) (phrase_value is_at_most ps) (phrase_value is_from ps) (phrase_value is_to ps) p
    → number w s p.lower ≡ Ok l → number w s p.upper ≡ Ok u → l ≤ℤ u → with_ends ns w s p l u ≡ Ok x → IsRow w s ps p x
ends_are ns w sets s ps p l u x are low high ordered e =
    ok_then (end_at ns w s p.tail) _ x e (λ t h i. ok_then (end_at ns w s p.head) _ x i (λ z j k.
    subst (IsRow w s ps p) (ok_is (record { lower = l; upper = u; tail = t; head = z }) x k) (record {
      lower = subst (λ o. HasNumber (env_of w s) o l) (sym are.lower) (number_is w sets s p.lower l low);
      upper = subst (λ o. HasNumber (env_of w s) o u) (sym are.upper) (number_is w sets s p.upper u high);
      ordered = ordered;
      from = subst (λ o. IsEnd (env_of w s) o (written.end_of w s p.tail)) (are.tail) (end_is ns w sets s p.tail t h);
      to = subst (λ o. IsEnd (env_of w s) o (written.end_of w s p.head)) (are.head) (end_is ns w sets s p.head z j);
      ended =
          ap (λ (b : Bool). b || is_some (written.end_of w s p.head)) (end_present (env_of w s) p.tail (written.end_of w s p.tail) (end_is ns w sets s p.tail t h))
          ∙ ap (λ (b : Bool). is_some p.tail || b) (end_present (env_of w s) p.head (written.end_of w s p.head) (end_is ns w sets s p.head z j))
          ∙ are.ended;
    })))

row_is : (ns : BuiltNodes) (w : World) → HasSets w → (n : Token) (k : Option ℕ) (ps : List Phrase) (p : Parts) (row : Row) (x : Built) → parts_of n ps ≡ Ok p → built ns w n k p row ≡ Ok x → IsRow w row.scope ps p x
row_is ns w sets n k ps p row x parts e =
    ok_then (number w row.scope p.lower) _ x e (λ l h i. ok_then (number w row.scope p.upper) (λ u. uncrossed l u) x i (λ u j m. go l u h j (int_lt u l) refl m))
  where
    uncrossed : ℤ → ℤ → Outcome Built
    uncrossed l u = if int_lt u l then rejected_of ArcCrossed n.span (reference n.text k row.key) else with_ends ns w row.scope p l u

    go : (l u : ℤ) → number w row.scope p.lower ≡ Ok l → number w row.scope p.upper ≡ Ok u → (b : Bool) → int_lt u l ≡ b
        → (if b then rejected_of ArcCrossed n.span (reference n.text k row.key) else with_ends ns w row.scope p l u) ≡ Ok x → IsRow w row.scope ps p x
    go l u h j true f m = cc
    go l u h j false f m = ends_are ns w sets row.scope ps p l u x (parts_are n (phrase_value is_at_least ps) (phrase_value is_at_most ps) (phrase_value is_from ps) (phrase_value is_to ps) p parts) h j (search (arith, ints, f)) m

abbrev pub as_key : World → Row → Key
as_key w row = record { key = row.key; env = env_of w row.scope }

abbrev made : World → Token → Option Braces → Parts → Row → Built → ℤ → meaning.Arc
made w n b p row x c = record {
  label = meaning.label_at n.text (indexing b) (as_key w row);
  lower = x.lower;
  upper = x.upper;
  from = written.end_of w row.scope p.tail;
  to = written.end_of w row.scope p.head;
  coefficient = c;
}

pub record HasBuiltBounds (a : meaning.Arc) (x : Built) : Type 0 where
  pub lower : x.lower ≡ a.lower
  pub upper : x.upper ≡ a.upper

-- the coefficient of an arc is the sum of its `obj` phrases for this objective
abbrev pub HasPrice : Name → written.WrittenArc → meaning.Arc → Type 0
HasPrice goal v a = a.coefficient ≡ price_of goal v.env v.scope v.phrases

is_arc : (goal : Name) (w : World) (n : Token) (b : Option Braces) (ps : List Phrase) (p : Parts) (row : Row) (x : Built) (c : ℤ) → IsRow w row.scope ps p x → IsCoefficient goal (env_of w row.scope) ps c
    → IsArc goal n b ps (as_key w row) (made w n b p row x c)
is_arc goal w n b ps p row x c by h = record {
  label = refl;
  lower = subst (λ o. meaning.HasNumber (env_of w row.scope) o x.lower) (sym (phrase_value_is is_at_least ps)) by.lower;
  upper = subst (λ o. meaning.HasNumber (env_of w row.scope) o x.upper) (sym (phrase_value_is is_at_most ps)) by.upper;
  ordered = by.ordered;
  from = subst (λ o. meaning.IsEnd (env_of w row.scope) o (written.end_of w row.scope p.tail)) (sym (phrase_value_is is_from ps)) by.from;
  to = subst (λ o. meaning.IsEnd (env_of w row.scope) o (written.end_of w row.scope p.head)) (sym (phrase_value_is is_to ps)) by.to;
  coefficient = h;
}

pub record AreRows (goal : Name) (w : World) (n : Token) (b : Option Braces) (ps : List Phrase) (p : Parts) (rows : List Row) (d new : BuiltArcs) : Type 0 where
  pub arcs : List meaning.Arc
  pub are : AllZip (IsArc goal n b ps) (map (as_key w) rows) arcs
  pub same : AllZip IsSameArc (map (arc_at_row w n b ps p) rows) arcs
  pub ended : AllByRecursion HasEnd arcs
  pub prices : AllZip (HasPrice goal) (map (arc_at_row w n b ps p) rows) arcs
  pub more : List Built
  pub whole : new.arcs ≡ d.arcs ++ more
  pub bounds : AllZip HasBuiltBounds arcs more

pub rows_are : (goal : Name) (g : Option ChosenObjective) (ns : BuiltNodes) (w : World) → HasSets w → (n : Token) (b : Option Braces) (k : Option ℕ) (p : Parts) (ps : List Phrase) (rows : List Row) (d new : BuiltArcs) → AgreesOnAll g goal ps → parts_of n ps ≡ Ok p
    → arcs_at (arc_env g ns w) (arc_text n p ps) k rows d ≡ Ok new → AreRows goal w n b ps p rows d new
rows_are goal g ns w sets n b k p ps [] d new h parts e =
    record { arcs = []; are = tt; same = tt; ended = tt; prices = tt; more = []; whole = ap (λ (z : BuiltArcs). z.arcs) (sym (ok_is d new e)) ∙ sym (append-nil d.arcs); bounds = tt }
rows_are goal g ns w sets n b k p ps (row ∷ rows) d new h parts e =
    ok_then (next_arc (arc_env g ns w) (arc_text n p ps) k row d) (arcs_at (arc_env g ns w) (arc_text n p ps) k rows) new e (λ next i j.
    let one = next_arc_is g ns w n k p ps row d next i in
    let rest = rows_are goal g ns w sets n b k p ps rows next new h parts j in
    let by = row_is ns w sets n k ps p row one.arc parts one.is_built in
    let c = coefficient_is goal g w sets row.scope (length d.arcs) ps d.form next.form h one.priced in
    record {
      arcs = made w n b p row one.arc c.0 ∷ rest.arcs;
      are = (is_arc goal w n b ps p row one.arc c.0 by c.1, rest.are);
      same = (record { name = refl; indexed = indexed_is b; key = refl; from = refl; to = refl }, rest.same);
      ended = (by.ended, rest.ended);
      prices = (c.2, rest.prices);
      more = one.arc ∷ rest.more;
      whole = rest.whole ∙ ap (λ (l : List Built). l ++ rest.more) one.arcs ∙ append_assoc d.arcs (one.arc ∷ []) rest.more;
      bounds = (record { lower = refl; upper = refl }, rest.bounds);
    })

-- ---- a declaration

pub keys_are : (w : World) → HasSets w → (b : Option Braces) (i : Indexing) → indexing_in w b ≡ Ok i → AreIndexed w b (map (as_key w) i.rows)
keys_are w sets None i e = ap (λ (z : Indexing). map (as_key w) z.rows) (sym (ok_is alone i e))
keys_are w sets (Some bs) i e =
    ok_then (index w [] bs) (λ k. Ok (by_keys k)) i e (λ k h j. subst (λ (z : Indexing). AreKeys (env_of w []) bs (map (as_key w) z.rows)) (ok_is (by_keys k) i j) (keys_are_sound w [] bs k sets h))

-- the goal after an objective
abbrev pub IsGoalAfter : Option Name → Token → Option ChosenObjective → Option ChosenObjective → Type 0
IsGoalAfter (Some m) n g h = ((bytes_eq m n.text ≡ true) × (z : ChosenObjective) × (h ≡ Some z) × (z.name ≡ n.text)) ⊎ ((bytes_eq m n.text ≡ false) × (h ≡ g))
IsGoalAfter None n g h = (g ≡ None) × (z : ChosenObjective) × (h ≡ Some z) × (z.name ≡ n.text)

abbrev pub IsNextGoal : Option Name → Declaration → Option ChosenObjective → Option ChosenObjective → Type 0
IsNextGoal wanted (objective t n p e) g h = IsGoalAfter wanted n g h
IsNextGoal wanted (set t n ps e) g h = h ≡ g
IsNextGoal wanted (param t n b ps e) g h = h ≡ g
IsNextGoal wanted (check t b m x e) g h = h ≡ g
IsNextGoal wanted (node t n b c e) g h = h ≡ g
IsNextGoal wanted (arc t n b ps e) g h = h ≡ g

pub goal_after : (wanted : Option Name) (w : World) (t n : Token) (p : Part) (d new : Drawing) → with_objective wanted w t n p d ≡ Ok new → IsGoalAfter wanted n d.goal new.goal
goal_after (Some m) w t n p d new e = go (bytes_eq m n.text) refl e
  where
    go : (b : Bool) → bytes_eq m n.text ≡ b → (if b then with_goal w t n p d else Ok (passed d)) ≡ Ok new → IsGoalAfter (Some m) n d.goal new.goal
    go true h i = ok_then (part_form d.arcs.group.numbers w p) (λ f. Ok (aimed d t n f)) new i (λ f j k. inl (h, _, ap (λ (z : Drawing). z.goal) (sym (ok_is (aimed d t n f) new k)), refl))
    go false h i = inr (h, ap (λ (z : Drawing). z.goal) (sym (ok_is (passed d) new i)))
goal_after None w t n p d new e = go d.goal refl e
  where
    go : (g : Option ChosenObjective) → d.goal ≡ g → and_then (is_chosen None g n) (λ b. if b then with_goal w t n p d else Ok (passed d)) ≡ Ok new → IsGoalAfter None n d.goal new.goal
    go None h i = ok_then (part_form d.arcs.group.numbers w p) (λ f. Ok (aimed d t n f)) new i (λ f j k. (h, _, ap (λ (z : Drawing). z.goal) (sym (ok_is (aimed d t n f) new k)), refl))
    go (Some g) h i = cc
