-- What arcs of declarations are refused for stands at the name or at one of the phrases.
use Rattle.std.specs.Prelude.{◌≡◌, ℕ, Bool, true, false, List, [], ◌∷◌, length, nat_lt, Option, None, Some, if◌then◌else◌, Ok, ℤ, int_lt, ⊤}
use Rattle.std.specs.List.{AllByRecursion}
use Rattle.std.proofs.Common.{refl}
use Rattle.net_base.specs.declared.diagnostic.Language.TheVariants as languages
use Rattle.net_base.specs.declared.diagnostic.Span.{Span}
use Rattle.net_base.specs.declared.error_code.ErrorCode.TheVariants.{ArcCrossed}
use Rattle.net_base.specs.Outcomes.{rejected_of}
use Rattle.net_lex.specs.declared.token.Token.{Token}
use Rattle.net_tree.specs.Role.{role_of}
use Rattle.net_tree.specs.Spans.{span_of}
use Rattle.net_tree.specs.Tree.{Tree, Braces, Body, plain, valued, priced, Phrase}
use Rattle.net_expr.specs.declared.indexing.Indexing.{Indexing}
use Rattle.net_expr.specs.declared.row.Row.{Row}
use Rattle.net_expr.specs.SetValues.{HasSets}
use Rattle.net_expr.specs.Worlds.{World, Scope, reference}
use Rattle.net_linear.specs.Forms as forms
use Rattle.net_tree.specs.declared.role.Role.{Role}
use Rattle.net_tree.specs.Phrases.{is_at_least, is_at_most, is_from, is_to}
use Rattle.net_tree.specs.PhraseValues.{expression_of, phrase_value}
use Rattle.net_inst.specs.Arcs.{BuiltArcs, end_at, with_ends, built, is_goal, priced_by, price_in, prices_in, next_arc, arcs_at, arcs_by, with_arcs, arc_env, arc_text}
use Rattle.net_inst.specs.Drafts.{Drawing}
use Rattle.net_expr.specs.Indexings.{indexing_in}
use Rattle.net_inst.specs.Nodes.{BuiltNodes, node_named}
use Rattle.net_inst.specs.Numbers.{number}
use Rattle.net_inst.specs.Phrases.{Parts, parts_from, parts_of}
use Rattle.net_base.specs.Places.{Places, Finds, Model, Refuted}
use Rattle.net_tree.specs.Standing.{Stands, IndexingHasSpans, BodyHasSpans, PhrasesHaveSpans}
use Rattle.net_base.proofs.Found.{Gives, finds_then, finds_then_is, finds_if, finds_after_is}
use Rattle.net_linear.proofs.FormFaults.{finds_priced}
use Rattle.net_inst.proofs.MeantArcs.{AreOrdered, uncrossed}
use Rattle.net_inst.proofs.NodeFaults.{finds_indexing_in, finds_number, finds_node_named}
use Rattle.net_expr.proofs.ValueFaults.{whole_stands}

-- what is said behind a word of a phrase, where it is said
abbrev SaidStands : (Span → Type 0) → Option Tree → Type 0
SaidStands P None = ⊤
SaidStands P (Some x) = Stands P x

-- the bounds of an arc, and its ends
abbrev PartsStand : (Span → Type 0) → Parts → Type 0
PartsStand P p = Stands P p.lower × Stands P p.upper × SaidStands P p.tail × SaidStands P p.head

-- what a word's phrase says stands there
module _ (P : Span → Type 0) where
  said_stands : (o : Option Tree) (b : Bool) (u : Option Tree) → SaidStands P o → SaidStands P u → SaidStands P (if b then o else u)
  said_stands o true u h k = h
  said_stands o false u h k = k

  value_in_stands : (b : Body) → BodyHasSpans P b → SaidStands P (expression_of b)
  value_in_stands plain h = tt
  value_in_stands (valued x) h = h
  value_in_stands (priced n x) h = tt

  phrase_stands : (test : Role → Bool) (ps : List Phrase) → PhrasesHaveSpans P ps → SaidStands P (phrase_value test ps)
  phrase_stands test [] h = tt
  phrase_stands test (p ∷ ps) (h, j, k) = said_stands (expression_of p.body) (test (role_of p.word)) (phrase_value test ps) (value_in_stands p.body j) (phrase_stands test ps k)

module _ (P : Places) (n : Token) (h : P Model n.span) where
  gives_parts_from : (l u t e : Option Tree) → SaidStands (P Model) l → SaidStands (P Model) u → SaidStands (P Model) t → SaidStands (P Model) e
      → Gives P (PartsStand (P Model)) (parts_from n l u t e)
  gives_parts_from None u t e i j k m = h
  gives_parts_from (Some l) None t e i j k m = h
  gives_parts_from (Some l) (Some u) None None i j k m = h
  gives_parts_from (Some l) (Some u) None (Some e) i j k m = (i, j, k, m)
  gives_parts_from (Some l) (Some u) (Some t) e i j k m = (i, j, k, m)

  gives_parts_of : (ps : List Phrase) → PhrasesHaveSpans (P Model) ps → Gives P (PartsStand (P Model)) (parts_of n ps)
  gives_parts_of ps k =
      gives_parts_from (phrase_value is_at_least ps) (phrase_value is_at_most ps) (phrase_value is_from ps) (phrase_value is_to ps) (phrase_stands (P Model) is_at_least ps k) (phrase_stands (P Model) is_at_most ps k)
      (phrase_stands (P Model) is_from ps k) (phrase_stands (P Model) is_to ps k)

module _ (P : Places) (w : World) where
  finds_end_at : (ns : BuiltNodes) (s : Scope) (t : Option Tree) → SaidStands (P Model) t → Finds P (end_at ns w s t)
  finds_end_at ns s None h = tt
  finds_end_at ns s (Some t) h = finds_then P (node_named ns w s t) _ (finds_node_named P ns w s t h) (λ v. tt)

  finds_with_ends : (ns : BuiltNodes) (s : Scope) (p : Parts) → PartsStand (P Model) p → (l u : ℤ) → Finds P (with_ends ns w s p l u)
  finds_with_ends ns s p (g, h, j, k) l u =
      finds_then P (end_at ns w s p.tail) _ (finds_end_at ns s p.tail j) (λ t. finds_then P (end_at ns w s p.head) _ (finds_end_at ns s p.head k) (λ e. tt))

  finds_priced_by : (s : Scope) (a : ℕ) (x : Tree) → Stands (P Model) x → (f : forms.Linear) → Finds P (priced_by w s a x f)
  finds_priced_by s a x h f = finds_then P (number w s x) _ (finds_number P w s x h) (λ c. finds_priced P (span_of x) (whole_stands (P Model) x h) f a c)

  finds_price_in : (g : _) (s : Scope) (a : ℕ) (b : Body) → BodyHasSpans (P Model) b → (f : forms.Linear) → Finds P (price_in g w s a b f)
  finds_price_in g s a plain h f = tt
  finds_price_in g s a (valued x) h f = tt
  finds_price_in g s a (priced n x) (h, k) f = finds_if P (is_goal g n.text) (priced_by w s a x f) _ (finds_priced_by s a x k f) tt

  finds_prices_in : (g : _) (s : Scope) (a : ℕ) (ps : List Phrase) → PhrasesHaveSpans (P Model) ps → (f : forms.Linear) → Finds P (prices_in g w s a ps f)
  finds_prices_in g s a [] h f = tt
  finds_prices_in g s a (p ∷ ps) (h, j, k) f =
      finds_then P (price_in g w s a p.body f) (prices_in g w s a ps) (finds_price_in g s a p.body j f) (finds_prices_in g s a ps k)

-- Q: the model has a network
module _ (P : Places) (Q : Type 0) (refuted : (Q → ⊥) → (at : Span) → P Model at → P (Refuted languages.Model) at) (w : World) (sets : Q → HasSets w) where
  finds_built : (ns : BuiltNodes) (n : Token) → P Model n.span → (k : Option ℕ) (p : Parts) → PartsStand (P Model) p → (row : Row) → (Q → AreOrdered w p row) → Finds P (built ns w n k p row)
  finds_built ns n h k p j row ordered =
      finds_then_is P (number w row.scope p.lower) _ (finds_number P w row.scope p.lower j.0) (λ l low.
      finds_then_is P (number w row.scope p.upper) _ (finds_number P w row.scope p.upper j.1) (λ u high. go l u low high (int_lt u l) refl))
    where
      go : (l u : ℤ) → number w row.scope p.lower ≡ Ok l → number w row.scope p.upper ≡ Ok u → (b : Bool) → int_lt u l ≡ b
          → Finds P (if b then rejected_of ArcCrossed n.span (reference n.text k row.key) else with_ends ns w row.scope p l u)
      go l u low high true e = refuted (λ q. uncrossed w (sets q) p row l u (ordered q) low high e) n.span h
      go l u low high false e = finds_with_ends P w ns row.scope p j l u

  module _ (e : Drawing) (n : Token) (h : P Model n.span) (ps : List Phrase) (i : PhrasesHaveSpans (P Model) ps) where
    finds_next_arc : (k : Option ℕ) (p : Parts) → PartsStand (P Model) p → (row : Row) → (Q → AreOrdered w p row) → (d : BuiltArcs) → Finds P (next_arc (arc_env e.goal e.nodes w) (arc_text n p ps) k row d)
    finds_next_arc k p j row ordered d =
        finds_if P (nat_lt (length d.arcs) _) _ _
        (finds_then P (built e.nodes w n k p row) _ (finds_built e.nodes n h k p j row ordered) (λ x.
        finds_then P (prices_in e.goal w row.scope (length d.arcs) ps d.form) _ (finds_prices_in P w e.goal row.scope (length d.arcs) ps i d.form) (λ f. tt))) h

    finds_arcs_at : (k : Option ℕ) (p : Parts) → PartsStand (P Model) p → (rows : List Row) → (Q → AllByRecursion (AreOrdered w p) rows) → (d : BuiltArcs) → Finds P (arcs_at (arc_env e.goal e.nodes w) (arc_text n p ps) k rows d)
    finds_arcs_at k p j [] ordered d = tt
    finds_arcs_at k p j (row ∷ rows) ordered d =
        finds_then P (next_arc (arc_env e.goal e.nodes w) (arc_text n p ps) k row d) (arcs_at (arc_env e.goal e.nodes w) (arc_text n p ps) k rows)
        (finds_next_arc k p j row (λ q. (ordered q).0) d) (finds_arcs_at k p j rows (λ q. (ordered q).1))

    finds_arcs_by : (d : BuiltArcs) (p : Parts) → PartsStand (P Model) p → (x : Indexing) → (Q → AllByRecursion (AreOrdered w p) x.rows) → Finds P (arcs_by (arc_env e.goal e.nodes w) (arc_text n p ps) d x)
    finds_arcs_by d p j x ordered = finds_then P (arcs_at (arc_env e.goal e.nodes w) (arc_text n p ps) x.count x.rows d) _ (finds_arcs_at x.count p j x.rows ordered d) (λ found. tt)

    pub finds_with_arcs : (b : Option Braces) → IndexingHasSpans (P Model) b → ((p : Parts) (x : Indexing) → parts_of n ps ≡ Ok p → indexing_in w b ≡ Ok x → Q → AllByRecursion (AreOrdered w p) x.rows) → (d : BuiltArcs)
        → Finds P (with_arcs (arc_env e.goal e.nodes w) n b ps d)
    finds_with_arcs b k ordered d =
        finds_after_is P (PartsStand (P Model)) (parts_of n ps) _ (gives_parts_of P n h ps i) (λ p parts j.
        finds_then_is P (indexing_in w b) (arcs_by (arc_env e.goal e.nodes w) (arc_text n p ps) d) (finds_indexing_in P w b k) (λ x is. finds_arcs_by d p j x (ordered p x parts is)))
