-- The conditions of nodes are those of the grammar.
use Rattle.std.specs.Prelude.{◌≡◌, ◌⊎◌, ◌+◌, ℕ, Bool, true, false, List, [], ◌∷◌, codes, None, Some}
use Rattle.std.proofs.Common.{refl, sym, ap, ap₂, ◌∙◌, subst, inl, inr, arith}
use Rattle.net_lex.specs.declared.token.Kind.TheVariants as kinds
use Rattle.net_lex.specs.declared.token.Token.{Token}
use Rattle.net_tree.specs.declared.operator.BinOp.{BinOp}
use Rattle.net_tree.specs.declared.operator.BinOp.TheVariants as op
use Rattle.net_tree.specs.declared.operator.OperatorWords.TheVariants.{One, Two}
use Rattle.net_tree.specs.declared.role.Relation.TheVariants as relations
use Rattle.net_tree.specs.declared.role.Role.{Role}
use Rattle.net_tree.specs.declared.role.Role.TheVariants as roles
use Rattle.net_tree.specs.Erasure.{expression, operands, condition}
use Rattle.net_tree.specs.Operations.{operation, operations, operation_in, is_minus, is_outflow}
use Rattle.net_tree.specs.Precedence.{of_product, of_sum}
use Rattle.net_tree.specs.Print.{put, put_links, put_condition}
use Rattle.net_tree.specs.Role.{marks, keys, role_of, is_sign, is_not, is_bound}
use Rattle.net_tree.specs.Syntax as forms
use Rattle.net_tree.specs.Tree.{Tree, Links, chain, net, none, link, Condition, unsaid, one, between}
use Rattle.net_tree.specs.WellFormed.{joins}
use Rattle.net_tree.specs.Conditions as trees
use Rattle.net_model.specs.Grammar.{sign}
use Rattle.net_model.specs.GrammarOfDeclarations.{flow, IsFirstTerm, IsFurtherTerm, AreTerms, nets, nets_in, IsNetSum, bound, relation, IsCondition}
use Rattle.net_model.proofs.GrammarTokens.{texts, IsAmong, token-spelled, among, literal-head}
use Rattle.net_model.proofs.GrammarSpelling.{at-colon, at-sign, at-net}
use Rattle.net_model.proofs.GrammarOperators.{operators-complete}
use Rattle.net_model.proofs.GrammarKeywords.{as-at_most, as-at_least}
use Rattle.net_model.proofs.GrammarComplete.{tree-complete}

signed-net : (b : Bool) (s w : Token) (rest : List Token) → sign b (s ∷ w ∷ rest) (w ∷ rest) → flow (is_outflow w) (w ∷ rest) rest → IsFirstTerm (forms.net b (is_outflow w)) (s ∷ w ∷ rest) rest
signed-net true s w rest h f = (_, h, f)
signed-net false s w rest h f = (_, inr h, f)

first-complete : (x : Tree) (rest : List Token) → trees.IsFirstTerm x → IsFirstTerm (expression x) (put x rest) rest
first-complete (net None w) rest h = (_, inl refl, at-net w rest h.1)
first-complete (net (Some s) w) rest h = signed-net (is_minus s) s w rest (at-sign s (w ∷ rest) h.0) (at-net w rest h.1)
first-complete x rest h = tree-complete x of_product rest h.0 h.1 (omega arith)

further-complete : (x : Tree) (rest : List Token) → trees.IsFurtherTerm x → IsFurtherTerm (expression x) (put x rest) rest
further-complete (net None w) rest h = at-net w rest h.1
further-complete (net (Some s) w) rest h = let e = h.0 in absurd (cc)
further-complete x rest h = tree-complete x of_product rest h.0 h.1 (omega arith)

pub sign-role : (r : Role) → is_sign r ≡ true → r ≡ roles.Sign
sign-role roles.Sign h = refl
sign-role _ h = absurd (cc)

terms-complete : (l : Links) (rest : List Token) → trees.AreTerms l → AreTerms (operands l) (put_links l rest) rest
terms-complete none rest h = refl
terms-complete (link (One t) x l) rest h =
    let e = sign-role (role_of t) h.0 in
    (_, operators-complete of_product 0 (One t) _ (omega arith) (ap (joins of_product 0) e) (ap is_not e), (_, further-complete x _ h.1, terms-complete l rest h.2))
terms-complete (link (Two t u) x l) rest h = absurd h

pub nets-same : (x : Tree) → trees.nets x ≡ nets (expression x)
nets-same (net s w) = refl
nets-same _ = refl

pub nets_in-same : (l : Links) → trees.nets_in l ≡ nets_in (operands l)
nets_in-same none = refl
nets_in-same (link o x l) = ap₂ (λ m n. m + n) (nets-same x) (nets_in-same l)

net_sum-complete : (x : Tree) (rest : List Token) → trees.IsNetSum x → IsNetSum (expression x) (put x rest) rest
net_sum-complete (net s w) rest h = first-complete (net s w) rest h
net_sum-complete (chain n x none) rest h = absurd h.2
net_sum-complete (chain n x (link o y l)) rest h =
    (omega (arith, h.4, nets-same x, nets_in-same (link o y l)), (_, first-complete x _ h.1, terms-complete (link o y l) rest h.3))
net_sum-complete _ rest h = absurd h

at-relation : (t : Token) (rest : List Token) → is_bound (role_of t) ≡ true → relation (operation (One t)) (t ∷ rest) rest
unfolding marks keys operation operations
at-relation t rest h =
    go (token-spelled is_bound t (refl, refl, refl, refl) h)
  where
    G : List ℕ → Type 0
    G x = relation (operation_in operations x) (t ∷ rest) rest

    go : (((t.kind ≡ kinds.Mark) × IsAmong (texts is_bound marks) t.text (role_of t)) ⊎ ((t.kind ≡ kinds.Key) × IsAmong (texts is_bound keys) t.text (role_of t))) → G t.text
    go (inl (kind, a)) =
        among (texts is_bound marks) t.text (role_of t) (G t.text) (
          λ e f. subst G (sym e) (inl (t, (kind, e), refl)),
          (
            λ e f. subst G (sym e) (t, (kind, e), refl),
            (λ e f. subst G (sym e) (t, (kind, e), refl), (λ e f. subst G (sym e) (inr (t, (kind, e), refl)), tt)),
          ),
        ) a
    go (inr (kind, a)) = absurd a

-- the operator of a two-sided condition
abbrev Bounds : BinOp → Token → Type 0
Bounds o t = (operation (One t) ≡ o) × ((rest : List Token) → bound o (t ∷ rest) rest)

most : (t : Token) → role_of t ≡ roles.Relation relations.AtMost → Bounds op.AtMost t
unfolding operation operations
most t e = (ap (operation_in operations) (literal-head kinds.Mark (codes "<=") t [] [] (as-at_most t [] e)).1, λ rest. as-at_most t rest e)

least : (t : Token) → role_of t ≡ roles.Relation relations.AtLeast → Bounds op.AtLeast t
unfolding operation operations
least t e = (ap (operation_in operations) (literal-head kinds.Mark (codes ">=") t [] [] (as-at_least t [] e)).1, λ rest. as-at_least t rest e)

ordered : (t u : Token) (r s : Role) → role_of t ≡ r → role_of u ≡ s → trees.same_order r s ≡ true → (o : BinOp) × Bounds o t × Bounds o u
ordered t u (roles.Relation relations.AtMost) (roles.Relation relations.AtMost) e f h = (op.AtMost, most t e, most u f)
ordered t u (roles.Relation relations.AtLeast) (roles.Relation relations.AtLeast) e f h = (op.AtLeast, least t e, least u f)
ordered t u _ _ e f h = absurd (cc)

at-bound : (o : BinOp) (t : Token) (rest : List Token) → Bounds o t → bound (operation (One t)) (t ∷ rest) rest
at-bound o t rest b = subst (λ p. bound p (t ∷ rest) rest) (sym b.0) (b.1 rest)

pub condition-complete : (c : Condition) (rest : List Token) → trees.IsCondition c → IsCondition (condition c) (put_condition c rest) rest
condition-complete unsaid rest h = refl
condition-complete (one m x o y) rest (colon, rel, inl (a, b)) =
    (_, at-colon m _ colon, inl (_, net_sum-complete x _ a, (_, at-relation o _ rel, tree-complete y of_sum rest b.0 b.1 (omega arith))))
condition-complete (one m x o y) rest (colon, rel, inr (a, b)) =
    (_, at-colon m _ colon, inr (_, tree-complete x of_sum _ a.0 a.1 (omega arith), (_, at-relation o _ rel, net_sum-complete y rest b)))
condition-complete (between m x o y p z) rest (colon, same, a, b, c) =
    let both = ordered o p (role_of o) (role_of p) refl refl same in (
      both.1.0 ∙ sym both.2.0,
      (
        _,
        at-colon m _ colon,
        (
          _,
          tree-complete x of_sum _ a.0 a.1 (omega arith),
          (
            _,
            at-bound both.0 o _ both.1,
            (_, net_sum-complete y _ b, (_, at-bound both.0 p _ both.2, tree-complete z of_sum rest c.0 c.1 (omega arith))),
          ),
        ),
      ),
    )
