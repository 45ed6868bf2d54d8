-- Each condition of the grammar is the abstract syntax of a well-formed condition with the same tokens.
use Rattle.std.specs.Prelude.{◌≡◌, ◌≤◌, ◌⊎◌, ◌+◌, ℕ, Bool, true, false, List, ◌∷◌, codes, None, Some}
use Rattle.std.proofs.Common.{refl, sym, ap, ap₂, ◌∙◌, subst, inl, inr, arith}
use Rattle.net_lex.specs.declared.token.Kind.TheVariants as kinds
use Rattle.net_lex.specs.declared.token.Token.{Token}
use Rattle.net_lex.specs.Productions.{mark}
use Rattle.net_tree.specs.declared.operator.BinOp.{BinOp}
use Rattle.net_tree.specs.declared.operator.BinOp.TheVariants as op
use Rattle.net_tree.specs.declared.operator.OperatorWords.{OperatorWords}
use Rattle.net_tree.specs.declared.operator.OperatorWords.TheVariants.{One, Two}
use Rattle.net_tree.specs.declared.role.Role.{Role}
use Rattle.net_tree.specs.declared.role.Role.TheVariants as roles
use Rattle.net_tree.specs.Erasure.{expression, operands, condition}
use Rattle.net_tree.specs.Operations.{operation, operations, operation_in}
use Rattle.net_tree.specs.Precedence.{of_product, of_sum}
use Rattle.net_tree.specs.Print.{put, put_links, put_operator, put_condition}
use Rattle.net_tree.specs.Role.{marks, keys, role_as, role_of, is_sign, is_not, is_bound}
use Rattle.net_tree.specs.Syntax as forms
use Rattle.net_tree.specs.Tree.{Tree, Links, chain, net, none, link, Condition, unsaid, one, between}
use Rattle.net_tree.specs.WellFormed.{precedence, IsWellFormed, IsOperator, IsLinked, joins, head_of}
use Rattle.net_tree.specs.Conditions as trees
use Rattle.net_model.specs.Grammar.{IsExpression}
use Rattle.net_model.specs.GrammarOfDeclarations.{IsFirstTerm, IsFurtherTerm, AreTerms, nets, nets_in, IsNetSum, bound, relation, IsCondition}
use Rattle.net_model.proofs.GrammarTokens.{texts, IsAmong, token-spelled, among, has-role, passes}
use Rattle.net_model.proofs.GrammarSpelled.{colon-is, sign-sound, flow-sound, operator-sound}
use Rattle.net_model.proofs.GrammarSound.{tree-sound}
use Rattle.net_model.proofs.GrammarConditions.{nets-same, nets_in-same}

record IsTermOf (P : Tree → Type 0) (x : forms.Expression) (ts rest : List Token) : Type 0 where
  pub tree : Tree
  pub text : put tree rest ≡ ts
  pub level : P tree
  pub same : expression tree ≡ x

first-level : (x : Tree) → IsWellFormed x → precedence x ≤ of_product → trees.IsFirstTerm x
first-level (net s w) h p = absurd (omega arith)
first-level _ h p = (h, p)

further-level : (x : Tree) → IsWellFormed x → precedence x ≤ of_product → trees.IsFurtherTerm x
further-level (net s w) h p = absurd (omega arith)
further-level _ h p = (h, p)

plain-first : (x : forms.Expression) (ts rest : List Token) → IsExpression of_product x ts rest → IsTermOf trees.IsFirstTerm x ts rest
plain-first x ts rest h = let s = tree-sound x of_product ts rest h in record { tree = s.tree; text = s.text; level = first-level s.tree s.level s.within; same = s.same }

first-sound : (x : forms.Expression) (ts rest : List Token) → IsFirstTerm x ts rest → IsTermOf trees.IsFirstTerm x ts rest
first-sound (forms.net true out) ts rest (m, hs, hf) =
    let s = sign-sound true ts m hs in
    let f = flow-sound out m rest hf in
    record { tree = net (Some s.token) f.token; text = cc (s.text, f.text); level = (s.role, f.role); same = cc (s.same, f.same) }
first-sound (forms.net false out) ts rest (m, inl e, hf) =
    let f = flow-sound out m rest hf in
    record { tree = net None f.token; text = cc (f.text); level = (tt, f.role); same = cc (f.same) }
first-sound (forms.net false out) ts rest (m, inr hs, hf) =
    let s = sign-sound false ts m hs in
    let f = flow-sound out m rest hf in
    record { tree = net (Some s.token) f.token; text = cc (s.text, f.text); level = (s.role, f.role); same = cc (s.same, f.same) }
first-sound x ts rest h = plain-first x ts rest h

plain-further : (x : forms.Expression) (ts rest : List Token) → IsExpression of_product x ts rest → IsTermOf trees.IsFurtherTerm x ts rest
plain-further x ts rest h = let s = tree-sound x of_product ts rest h in record { tree = s.tree; text = s.text; level = further-level s.tree s.level s.within; same = s.same }

further-sound : (x : forms.Expression) (ts rest : List Token) → IsFurtherTerm x ts rest → IsTermOf trees.IsFurtherTerm x ts rest
further-sound (forms.net true out) ts rest h = absurd h
further-sound (forms.net false out) ts rest h =
    let f = flow-sound out ts rest h in
    record { tree = net None f.token; text = cc (f.text); level = (refl, f.role); same = cc (f.same) }
further-sound x ts rest h = plain-further x ts rest h

-- an operator of sums is a sign
sum-sign : (t : Token) → joins of_product 0 (role_of t) ≡ true → is_sign (role_of t) ≡ true
unfolding marks keys
sum-sign t h =
    go (token-spelled (joins of_product 0) t (refl, refl, refl, refl) h)
  where
    go : (((t.kind ≡ kinds.Mark) × IsAmong (texts (joins of_product 0) marks) t.text (role_of t)) ⊎ ((t.kind ≡ kinds.Key) × IsAmong (texts (joins of_product 0) keys) t.text (role_of t))) → is_sign (role_of t) ≡ true
    go (inl (kind, a)) = among (texts (joins of_product 0) marks) t.text (role_of t) (is_sign (role_of t) ≡ true) (λ e f. ap is_sign f, (λ e f. ap is_sign f, tt)) a
    go (inr (kind, a)) = absurd a

sign-not : (r : Role) → is_sign r ≡ true → is_not r ≡ true → ⊥
sign-not roles.Sign h is = absurd (cc)
sign-not _ h is = absurd (cc)

record AreTermsOf (os : forms.Operands) (ts rest : List Token) : Type 0 where
  pub links : Links
  pub text : put_links links rest ≡ ts
  pub level : trees.AreTerms links
  pub same : operands links ≡ os

terms-link : (w : OperatorWords) (o : BinOp) (x : forms.Expression) (os : forms.Operands) (ts m1 m2 rest : List Token) → put_operator w m1 ≡ ts → IsOperator w → operation w ≡ o
    → joins of_product 0 (role_of (head_of w)) ≡ true → IsTermOf trees.IsFurtherTerm x m1 m2 → AreTermsOf os m2 rest → AreTermsOf (forms.apply o x os) ts rest
terms-link (One t) o x os ts m1 m2 rest text level same joint sx sl =
    record { links = link (One t) sx.tree sl.links; text = cc (text, sx.text, sl.text); level = (sum-sign t joint, sx.level, sl.level); same = cc (same, sx.same, sl.same) }
terms-link (Two t u) o x os ts m1 m2 rest text level same joint sx sl = absurd (sign-not (role_of t) (sum-sign t joint) level.0)

terms-sound : (os : forms.Operands) (ts rest : List Token) → AreTerms os ts rest → AreTermsOf os ts rest
terms-sound forms.none ts rest h = record { links = none; text = sym h; level = tt; same = refl }
terms-sound (forms.apply o x os) ts rest (m1, ho, (m2, hx, hos)) =
    let so = operator-sound 0 of_product o ts m1 ho in
    terms-link so.words o x os ts m1 m2 rest so.text so.level so.same (so.joins 0 ∙ ho.0) (further-sound x m1 m2 hx) (terms-sound os m2 rest hos)

net-level : (x : Tree) (out minus : Bool) → expression x ≡ forms.net minus out → trees.IsFirstTerm x → trees.IsNetSum x
net-level (net s w) out minus e h = h
net-level _ out minus e h = absurd (let k = e in cc)

linked : (l : Links) (o : BinOp) (y : forms.Expression) (os : forms.Operands) → operands l ≡ forms.apply o y os → IsLinked l
linked none o y os e = absurd (cc)
linked (link w x l) o y os e = tt

net_sum-sound : (x : forms.Expression) (ts rest : List Token) → IsNetSum x ts rest → IsTermOf trees.IsNetSum x ts rest
net_sum-sound (forms.net minus out) ts rest h =
    let s = first-sound (forms.net minus out) ts rest h in
    record { tree = s.tree; text = s.text; level = net-level s.tree out minus s.same s.level; same = s.same }
net_sum-sound (forms.chain x (forms.apply o y os)) ts rest (one-net, (m, hx, hos)) =
    let sx = first-sound x ts m hx in
    let sl = terms-sound (forms.apply o y os) m rest hos in
    let first : trees.nets sx.tree ≡ nets x = nets-same sx.tree ∙ ap nets sx.same in
    let further : trees.nets_in sl.links ≡ nets_in (forms.apply o y os) = nets_in-same sl.links ∙ ap nets_in sl.same in
    record {
      tree = chain of_product sx.tree sl.links;
      text = cc (sx.text, sl.text);
      level = (refl, sx.level, linked sl.links o y os sl.same, sl.level, ap₂ (λ a b. a + b) first further ∙ one-net);
      same = cc (sx.same, sl.same);
    }
net_sum-sound _ ts rest h = absurd h

-- the operator between the sides of a condition
record IsSideOf (o : BinOp) (ts rest : List Token) : Type 0 where
  pub token : Token
  pub text : ts ≡ token ∷ rest
  pub level : is_bound (role_of token) ≡ true
  pub same : operation (One token) ≡ o

side : (o : BinOp) (text : List ℕ) → is_bound (role_as kinds.Mark text) ≡ true → operation_in operations text ≡ o → (ts rest : List Token) → mark text ts rest → IsSideOf o ts rest
unfolding operation
side o text level means ts rest (t, h, e) =
    record { token = t; text = e; level = passes is_bound kinds.Mark text t h level; same = ap (operation_in operations) h.1 ∙ means }

relation-sound : (o : BinOp) (ts rest : List Token) → relation o ts rest → IsSideOf o ts rest
unfolding marks operations
relation-sound op.Equal ts rest (inl h) = side op.Equal (codes "=") refl refl ts rest h
relation-sound op.Equal ts rest (inr h) = side op.Equal (codes "==") refl refl ts rest h
relation-sound op.AtMost ts rest h = side op.AtMost (codes "<=") refl refl ts rest h
relation-sound op.AtLeast ts rest h = side op.AtLeast (codes ">=") refl refl ts rest h
relation-sound _ ts rest h = absurd h

record AreSidesOf (o : BinOp) (ts ts' rest rest' : List Token) : Type 0 where
  pub left : Token
  pub right : Token
  pub text : ts ≡ left ∷ rest
  pub text' : ts' ≡ right ∷ rest'
  pub level : trees.same_order (role_of left) (role_of right) ≡ true
  pub same : operation (One left) ≡ o
  pub same' : operation (One right) ≡ o

sides : (o : BinOp) (text : List ℕ) → trees.same_order (role_as kinds.Mark text) (role_as kinds.Mark text) ≡ true → operation_in operations text ≡ o
    → (ts ts' rest rest' : List Token) → mark text ts rest → mark text ts' rest' → AreSidesOf o ts ts' rest rest'
unfolding operation
sides o text level means ts ts' rest rest' (t, h, e) (u, g, f) = record {
  left = t;
  right = u;
  text = e;
  text' = f;
  level = ap₂ trees.same_order (has-role kinds.Mark text t h) (has-role kinds.Mark text u g) ∙ level;
  same = ap (operation_in operations) h.1 ∙ means;
  same' = ap (operation_in operations) g.1 ∙ means;
}

bounds-sound : (o : BinOp) (ts ts' rest rest' : List Token) → bound o ts rest → bound o ts' rest' → AreSidesOf o ts ts' rest rest'
unfolding marks operations
bounds-sound op.AtMost ts ts' rest rest' h g = sides op.AtMost (codes "<=") refl refl ts ts' rest rest' h g
bounds-sound op.AtLeast ts ts' rest rest' h g = sides op.AtLeast (codes ">=") refl refl ts ts' rest rest' h g
bounds-sound _ ts ts' rest rest' h g = absurd h

pub record IsConditionOf (c : forms.Condition) (ts rest : List Token) : Type 0 where
  pub shape : Condition
  pub text : put_condition shape rest ≡ ts
  pub level : trees.IsCondition shape
  pub same : condition shape ≡ c

pub condition-sound : (c : forms.Condition) (ts rest : List Token) → IsCondition c ts rest → IsConditionOf c ts rest
condition-sound forms.unsaid ts rest h = record { shape = unsaid; text = sym h; level = tt; same = refl }
condition-sound (forms.one x o y) ts rest (m1, (c, is-c, e1), inl (m2, hx, (m3, ho, hy))) =
    let sx = net_sum-sound x m1 m2 hx in
    let so = relation-sound o m2 m3 ho in
    let sy = tree-sound y of_sum m3 rest hy in
    record {
      shape = one c sx.tree so.token sy.tree;
      text = cc (e1, sx.text, so.text, sy.text);
      level = (colon-is c is-c, so.level, inl (sx.level, (sy.level, sy.within)));
      same = cc (sx.same, so.same, sy.same);
    }
condition-sound (forms.one x o y) ts rest (m1, (c, is-c, e1), inr (m2, hx, (m3, ho, hy))) =
    let sx = tree-sound x of_sum m1 m2 hx in
    let so = relation-sound o m2 m3 ho in
    let sy = net_sum-sound y m3 rest hy in
    record {
      shape = one c sx.tree so.token sy.tree;
      text = cc (e1, sx.text, so.text, sy.text);
      level = (colon-is c is-c, so.level, inr ((sx.level, sx.within), sy.level));
      same = cc (sx.same, so.same, sy.same);
    }
condition-sound (forms.between x o y p z) ts rest (equal, (m1, (c, is-c, e1), (m2, hx, (m3, ho, (m4, hy, (m5, hp, hz)))))) =
    let sx = tree-sound x of_sum m1 m2 hx in
    let both = bounds-sound o m2 m4 m3 m5 ho (subst (λ q. bound q m4 m5) (sym equal) hp) in
    let sy = net_sum-sound y m3 m4 hy in
    let sz = tree-sound z of_sum m5 rest hz in
    record {
      shape = between c sx.tree both.left sy.tree both.right sz.tree;
      text = cc (e1, sx.text, both.text, sy.text, both.text', sz.text);
      level = (colon-is c is-c, both.level, (sx.level, sx.within), sy.level, (sz.level, sz.within));
      same = cc (sx.same, both.same, sy.same, both.same', equal, sz.same);
    }
