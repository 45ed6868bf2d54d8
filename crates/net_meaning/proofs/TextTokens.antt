-- If each token of a file has a property Q, and P follows for its text, the declarations and the statements of the file hold P.
use Rattle.std.specs.Prelude.{ℕ, Bool, true, false, ◌&&◌, List, [], ◌∷◌, ◌++◌, map, if◌then◌else◌, Option, None, Some}
use Rattle.std.specs.List.{AllByRecursion}
use Rattle.std.specs.Option.{ForSome}
use Rattle.std.proofs.Common.{subst}
use Rattle.net_base.proofs.Elements.{all_left, all_right}
use Rattle.net_lex.specs.declared.token.Token.{Token}
use Rattle.net_data.specs.declared.statement.DefaultValue.{DefaultValue}
use Rattle.net_data.specs.declared.statement.Given.{Given}
use Rattle.net_data.specs.declared.statement.NamedSet.{NamedSet}
use Rattle.net_data.specs.declared.statement.Statement.{Statement}
use Rattle.net_data.specs.declared.statement.Statement.TheVariants as statements
use Rattle.net_data.specs.declared.statement.Transposed.{Transposed}
use Rattle.net_data.specs.declared.statement.Single.{Single}
use Rattle.net_data.specs.declared.statement.Tables.{Tables}
use Rattle.net_data.specs.Commas.{TokenPlace, before, place_after, skips, bare}
use Rattle.net_data.specs.Meaning.{Mean}
use Rattle.net_data.specs.Printing as printing
use Rattle.net_data.specs.Printing.{put_default, put_given, put_transposed, put_set, put_single, put_all}
use Rattle.net_data.specs.Tests.{is_comma}
use Rattle.net_tree.specs.declared.operator.OperatorWords.{OperatorWords as Operator}
use Rattle.net_tree.specs.declared.operator.OperatorWords.TheVariants as words
use Rattle.net_tree.specs.Erasure.{expression, expressions, operands, clause, braces, indexing, body, phrase, condition, declaration, declarations}
use Rattle.net_tree.specs.Print.{put_operator, put_optional, put, put_links, put_part, put_braces, put_indexing, put_body, put_phrases, put_condition, put_declaration, print}
use Rattle.net_tree.specs.Tree.{Tree, Links, Part, Braces, leaf, indexed, parens, tuple, negated, braced, signed, reduced, chain, choice, net, none, link, absent, part, empty, filled, Body, plain, valued, priced, Phrase, Condition, unsaid, one, between, Declaration, set, param, check, node, arc, objective}
use Rattle.net_meaning.specs.Texts.{TokenHolds, TokensHold, ExpressionHolds, ExpressionsHold, OperandsHold, ClauseHolds, BracesHold, BodyHolds, PhrasesHold, ConditionHolds, DeclarationHolds, DeclarationsHold, StatementHolds, StatementsHold}
use Rattle.net_meaning.proofs.TextValues.{none_is, some_is}

module _ (P : List ℕ → Type 0) (Q : Token → Type 0) (f : (t : Token) → Q t → TokenHolds P t) where
  abbrev pub All : List Token → Type 0
  All ts = AllByRecursion Q ts

  tokens_hold : (ts : List Token) → All ts → TokensHold P ts
  tokens_hold [] h = tt
  tokens_hold (t ∷ ts) h = (f t h.0, tokens_hold ts h.1)

  -- what holds P, and the tokens after it
  abbrev pub And : Type 0 → List Token → Type 0
  And Holds rest = Holds × All rest

  -- ---- declarations

  after_operator : (o : Operator) (r : List Token) → All (put_operator o r) → All r
  after_operator (words.One t) r h = h.1
  after_operator (words.Two t u) r h = h.1.1

  after_optional : (t : Option Token) (r : List Token) → All (put_optional t r) → All r
  after_optional None r h = h
  after_optional (Some t) r h = h.1

  operands_hold : (l : Links) → ExpressionsHold P (expressions l) → OperandsHold P (operands l)
  operands_hold none h = tt
  operands_hold (link o x l) h = (h.0, operands_hold l h.1)

  mutual
    tree_and : (t : Tree) (r : List Token) → All (put t r) → And (ExpressionHolds P (expression t)) r
    tree_and (leaf t) r h = (f t h.0, h.1)
    tree_and (indexed n o x l c) r h = let (x', more) = tree_and x (put_links l (c ∷ r)) h.1.1 in let (l', rest) = links_and l (c ∷ r) more in ((x', l'), rest.1)
    tree_and (parens o x c) r h = let (x', rest) = tree_and x (c ∷ r) h.1 in (x', rest.1)
    tree_and (tuple o x l c) r h = let (x', more) = tree_and x (put_links l (c ∷ r)) h.1 in let (l', rest) = links_and l (c ∷ r) more in ((x', l'), rest.1)
    tree_and (negated n o x c) r h = let (x', rest) = tree_and x (c ∷ r) h.1.1 in (x', rest.1)
    tree_and (braced b) r h = braces_and b r h
    tree_and (signed t x) r h = tree_and x r h.1
    tree_and (reduced w b x) r h = let (b', more) = braces_and b (put x r) h.1 in let (x', rest) = tree_and x r more in ((b', x'), rest)
    tree_and (chain n x l) r h = let (x', more) = tree_and x (put_links l r) h in let (l', rest) = links_and l r more in ((x', operands_hold l l'), rest)
    tree_and (choice i x t y e) r h =
        let (x', more) = tree_and x (t ∷ put y (put_part e r)) h.1 in
        let (y', others) = tree_and y (put_part e r) more.1 in
        let (e', rest) = part_and e r others in
        ((x', y', e'), rest)
    tree_and (net s w) r h = (tt, (after_optional s (w ∷ r) h).1)

    links_and : (l : Links) (r : List Token) → All (put_links l r) → And (ExpressionsHold P (expressions l)) r
    links_and none r h = (tt, h)
    links_and (link o x l) r h = let (x', more) = tree_and x (put_links l r) (after_operator o (put x (put_links l r)) h) in let (l', rest) = links_and l r more in ((x', l'), rest)

    part_and : (p : Part) (r : List Token) → All (put_part p r) → And (ClauseHolds P (clause p)) r
    part_and absent r h = (tt, h)
    part_and (part m x) r h = tree_and x r h.1

    braces_and : (b : Braces) (r : List Token) → All (put_braces b r) → And (BracesHold P (braces b)) r
    braces_and (empty o p c) r h = let (p', rest) = part_and p (c ∷ r) h.1 in (p', rest.1)
    braces_and (filled o x l p c) r h =
        let (x', more) = tree_and x (put_links l (put_part p (c ∷ r))) h.1 in
        let (l', others) = links_and l (put_part p (c ∷ r)) more in
        let (p', rest) = part_and p (c ∷ r) others in
        ((x', l', p'), rest.1)

  indexing_and : (b : Option Braces) (r : List Token) → All (put_indexing b r) → And (ForSome (indexing b) (BracesHold P)) r
  indexing_and None r h = ((λ x e. absurd (none_is x e)), h)
  indexing_and (Some b) r h = let (b', rest) = braces_and b r h in ((λ x e. subst (BracesHold P) (some_is (braces b) x e) b'), rest)

  body_and : (b : Body) (r : List Token) → All (put_body b r) → And (BodyHolds P (body b)) r
  body_and plain r h = (tt, h)
  body_and (valued x) r h = tree_and x r h
  body_and (priced n x) r h = tree_and x r h.1

  phrases_and : (ps : List Phrase) (r : List Token) → All (put_phrases ps r) → And (PhrasesHold P (map phrase ps)) r
  phrases_and [] r h = (tt, h)
  phrases_and (p ∷ ps) r h =
      let (b, more) = body_and p.body (put_phrases ps r) (after_optional p.comma (p.word ∷ put_body p.body (put_phrases ps r)) h).1 in
      let (all, rest) = phrases_and ps r more in
      ((b, all), rest)

  condition_and : (c : Condition) (r : List Token) → All (put_condition c r) → And (ConditionHolds P (condition c)) r
  condition_and unsaid r h = (tt, h)
  condition_and (one m x o y) r h = let (x', more) = tree_and x (o ∷ put y r) h.1 in let (y', rest) = tree_and y r more.1 in ((x', y'), rest)
  condition_and (between m x o y p z) r h =
      let (x', more) = tree_and x (o ∷ put y (p ∷ put z r)) h.1 in
      let (y', others) = tree_and y (p ∷ put z r) more.1 in
      let (z', rest) = tree_and z r others.1 in
      ((x', y', z'), rest)

  pub declaration_and : (d : Declaration) (r : List Token) → All (put_declaration d r) → And (DeclarationHolds P (declaration d)) r
  declaration_and (set w n ps e) r h = let (ps', rest) = phrases_and ps (e ∷ r) h.1.1 in (ps', rest.1)
  declaration_and (param w n b ps e) r h =
      let (b', more) = indexing_and b (put_phrases ps (e ∷ r)) h.1.1 in
      let (ps', rest) = phrases_and ps (e ∷ r) more in
      ((b', ps'), rest.1)
  declaration_and (check w b m x e) r h =
      let (b', more) = indexing_and b (m ∷ put x (e ∷ r)) h.1 in
      let (x', rest) = tree_and x (e ∷ r) more.1 in
      ((b', x'), rest.1)
  declaration_and (node w n b c e) r h =
      let (b', more) = indexing_and b (put_condition c (e ∷ r)) h.1.1 in
      let (c', rest) = condition_and c (e ∷ r) more in
      ((b', c'), rest.1)
  declaration_and (arc w n b ps e) r h =
      let (b', more) = indexing_and b (put_phrases ps (e ∷ r)) h.1.1 in
      let (ps', rest) = phrases_and ps (e ∷ r) more in
      ((b', ps'), rest.1)
  declaration_and (objective w n p e) r h = let (p', rest) = part_and p (e ∷ r) h.1.1 in (p', rest.1)

  pub declarations_hold : (ds : List Declaration) → All (print ds) → DeclarationsHold P (declarations ds)
  declarations_hold [] h = tt
  declarations_hold (d ∷ ds) h = let (d', more) = declaration_and d (print ds) h in (d', declarations_hold ds more)

  -- ---- data statements

  bare_holds : (p : TokenPlace) (ts : List Token) → All ts → All (bare p ts)
  bare_holds p [] h = tt
  bare_holds p (t ∷ ts) h = go (skips p && is_comma t) (bare_holds p ts h.1) (bare_holds (place_after p t) ts h.1)
    where
      go : (b : Bool) → All (bare p ts) → All (bare (place_after p t) ts) → All (if b then bare p ts else t ∷ bare (place_after p t) ts)
      go true k m = k
      go false k m = (h.0, m)

  default_and : (d : Option DefaultValue) (r : List Token) → All (put_default d r) → And (ForSome d (λ (v : DefaultValue). TokenHolds P v.value)) r
  default_and None r h = ((λ x e. absurd (none_is x e)), h)
  default_and (Some d) r h = ((λ x e. subst (λ (v : DefaultValue). TokenHolds P v.value) (some_is d x e) (f d.value h.1.0)), h.1.1)

  given_and : (g : Option Given) (r : List Token) → All (put_given g r) → And (ForSome g (λ (v : Given). TokensHold P v.cells)) r
  given_and None r h = ((λ x e. absurd (none_is x e)), h)
  given_and (Some g) r h = ((λ x e. subst (λ (v : Given). TokensHold P v.cells) (some_is g x e) (tokens_hold g.cells (all_left Q g.cells r h.1))), all_right Q g.cells r h.1)

  after_transposed : (t : Option Transposed) (r : List Token) → All (put_transposed t r) → All r
  after_transposed None r h = h
  after_transposed (Some t) r h = h.1.1.1

  after_set : (s : Option NamedSet) (r : List Token) → All (put_set s r) → All r
  after_set None r h = h
  after_set (Some s) r h = h.1.1

  statement_and : (s : Statement) (r : List Token) → All (printing.put s r) → And (StatementHolds P s) r
  statement_and (statements.Set s) r h = (tokens_hold s.items (all_left Q s.items (s.end ∷ r) h.1.1.1), (all_right Q s.items (s.end ∷ r) h.1.1.1).1)
  statement_and (statements.List l) r h =
      let (d, more) = default_and l.default (put_given l.given (l.end ∷ r)) h.1.1 in
      let (g, rest) = given_and l.given (l.end ∷ r) more in
      ((d, g), rest.1)
  statement_and (statements.Table t) r h =
      let (d, more) = default_and t.default (put_transposed t.transposed (t.colon ∷ (t.columns ++ t.assign ∷ (t.cells ++ t.end ∷ r)))) h.1.1 in
      let others = (after_transposed t.transposed (t.colon ∷ (t.columns ++ t.assign ∷ (t.cells ++ t.end ∷ r))) more).1 in
      let after = (all_right Q t.columns (t.assign ∷ (t.cells ++ t.end ∷ r)) others).1 in (
        (d, tokens_hold t.columns (all_left Q t.columns (t.assign ∷ (t.cells ++ t.end ∷ r)) others), tokens_hold t.cells (all_left Q t.cells (t.end ∷ r) after)),
        (all_right Q t.cells (t.end ∷ r) after).1,
      )
  statement_and (statements.Columns c) r h =
      let more = after_set c.set (c.names ++ c.assign ∷ (c.cells ++ c.end ∷ r)) h.1.1 in
      let after = (all_right Q c.names (c.assign ∷ (c.cells ++ c.end ∷ r)) more).1 in
      (tokens_hold c.cells (all_left Q c.cells (c.end ∷ r) after), (all_right Q c.cells (c.end ∷ r) after).1)

  printed_hold : (ss : List Statement) (r : List Token) → All (put_all ss r) → StatementsHold P ss
  printed_hold [] r h = tt
  printed_hold (s ∷ ss) r h = let (s', more) = statement_and s (put_all ss r) h in (s', printed_hold ss r more)

  after_single : (o : Option Single) (r : List Token) → All (put_single o r) → All r
  after_single None r h = h
  after_single (Some l) r h = h.1.1

  pub statements_hold : (tokens : List Token) (x : Tables) → Mean tokens x → All tokens → StatementsHold P x.statements
  statements_hold tokens x mean h =
      printed_hold x.statements (put_single x.ending [])
      (after_single x.opening (put_all x.statements (put_single x.ending [])) (subst (All) mean.printed (bare_holds before tokens h)))
