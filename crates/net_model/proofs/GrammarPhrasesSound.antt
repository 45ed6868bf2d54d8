-- The phrases of the grammar are the abstract syntax of well-formed phrases with the same tokens.
use Rattle.std.specs.Prelude.{◌≡◌, ◌≤◌, ℕ, Bool, true, List, [], ◌∷◌, map, codes, Option, None, Some}
use Rattle.std.proofs.Common.{refl, sym, ap, ap₂, ◌∙◌, subst, inl, inr}
use Rattle.net_lex.specs.declared.token.Kind.{Kind}
use Rattle.net_lex.specs.declared.token.Kind.TheVariants as kinds
use Rattle.net_lex.specs.declared.token.Token.{Token}
use Rattle.net_lex.specs.Productions.{nothing, literal, mark}
use Rattle.net_tree.specs.declared.role.Begins.TheVariants as begins
use Rattle.net_tree.specs.declared.role.Relation.TheVariants as relations
use Rattle.net_tree.specs.declared.role.Role.{Role}
use Rattle.net_tree.specs.declared.role.Role.TheVariants as roles
use Rattle.net_tree.specs.Erasure.{body, phrase, expression}
use Rattle.net_tree.specs.Precedence.{of_one, of_sum, of_union}
use Rattle.net_tree.specs.Print.{put, put_body, put_phrases, put_optional}
use Rattle.net_tree.specs.Role.{marks, keys, role_as, role_of}
use Rattle.net_tree.specs.Syntax as forms
use Rattle.net_tree.specs.Tree.{Tree, leaf, indexed, Body, plain, valued, priced, Phrase}
use Rattle.net_tree.specs.WellFormed.{precedence, IsWellFormed}
use Rattle.net_tree.specs.Phrases as trees
use Rattle.net_tree.specs.Phrases.{is_dimen, is_default, is_becomes, is_at_least, is_at_most, is_from, is_to}
use Rattle.net_model.specs.Operators.{Production, ◌∪◌, word}
use Rattle.net_model.specs.Grammar.{IsExpression, IsValue}
use Rattle.net_model.specs.GrammarOfDeclarations.{IsSetPhrase, IsParamPhrase, IsReference, IsArcPhrase, ArePhrases, IsOnce, AreSetPhrases, AreParamPhrases, AreArcPhrases}
use Rattle.net_model.proofs.GrammarTokens.{has-role}
use Rattle.net_model.proofs.GrammarSpelled.{comma-is, name-is, number-is}
use Rattle.net_model.proofs.GrammarSound.{tree-sound, value-sound}
use Rattle.net_model.proofs.GrammarOnce.{count-from_once}

-- a phrase of a tree with this role and body
record IsPhraseOf (Of : Role → Body → Type 0) (r : Role) (b : forms.Body) (ts rest : List Token) : Type 0 where
  pub keyword : Token
  pub content : Body
  pub text : keyword ∷ put_body content rest ≡ ts
  pub role : role_of keyword ≡ r
  pub level : Of r content
  pub same : body content ≡ b

alone : (Of : Role → Body → Type 0) (r : Role) (kind : Kind) (text : List ℕ) → role_as kind text ≡ r → Of r plain → (ts rest : List Token) → literal kind text ts rest → IsPhraseOf Of r forms.plain ts rest
alone Of r kind text is level ts rest (t, h, e) = record { keyword = t; content = plain; text = sym e; role = has-role kind text t h ∙ is; level = level; same = refl }

-- a keyword before an expression of precedence at most n
bounded : (Of : Role → Body → Type 0) (r : Role) (kind : Kind) (text : List ℕ) (n : ℕ) → role_as kind text ≡ r → ((x : Tree) → IsWellFormed x → precedence x ≤ n → Of r (valued x))
    → (x : forms.Expression) (ts middle rest : List Token) → literal kind text ts middle → IsExpression n x middle rest → IsPhraseOf Of r (forms.valued x) ts rest
bounded Of r kind text n is level x ts middle rest (t, h, e) g =
    let s = tree-sound x n middle rest g in
    record { keyword = t; content = valued s.tree; text = cc (e, s.text); role = has-role kind text t h ∙ is; level = level s.tree s.level s.within; same = ap forms.valued s.same }

-- a keyword before a value
given : (Of : Role → Body → Type 0) (r : Role) (kind : Kind) (text : List ℕ) → role_as kind text ≡ r → ((x : Tree) → trees.IsValue (valued x) → Of r (valued x))
    → (x : forms.Expression) (ts middle rest : List Token) → literal kind text ts middle → IsValue x middle rest → IsPhraseOf Of r (forms.valued x) ts rest
given Of r kind text is level x ts middle rest (t, h, e) g =
    let s = value-sound x middle rest g in
    record { keyword = t; content = valued s.tree; text = cc (e, s.text); role = has-role kind text t h ∙ is; level = level s.tree (s.level, s.within); same = ap forms.valued s.same }

abbrev Sound : (Role → Body → Type 0) → (Role → forms.Body → Production) → Type 0
Sound Of Is = (r : Role) (b : forms.Body) (ts rest : List Token) → Is r b ts rest → IsPhraseOf Of r b ts rest

set-phrase : Sound trees.OfSet IsSetPhrase
unfolding marks keys
set-phrase (roles.Phrase begins.Dimen) (forms.valued (forms.leaf t)) ts rest (m, (w, h, e), (kind, f)) =
    record { keyword = w; content = valued (leaf t); text = cc; role = has-role kinds.Key (codes "dimen") w h; level = number-is t kind; same = refl }
set-phrase (roles.Relation relations.Within) (forms.valued x) ts rest (m, h, g) = bounded trees.OfSet (roles.Relation relations.Within) kinds.Key (codes "within") of_union refl (λ x l p. (l, p)) x ts m rest h g
set-phrase roles.Becomes (forms.valued x) ts rest (m, h, g) = given trees.OfSet roles.Becomes kinds.Mark (codes ":=") refl (λ x v. v) x ts m rest h g
set-phrase _ _ ts rest h = absurd h

param-phrase : Sound trees.OfParam IsParamPhrase
unfolding marks keys
param-phrase (roles.Phrase begins.Symbolic) forms.plain ts rest h = alone trees.OfParam (roles.Phrase begins.Symbolic) kinds.Key (codes "symbolic") refl tt ts rest h
param-phrase (roles.Phrase begins.Integer) forms.plain ts rest h = alone trees.OfParam (roles.Phrase begins.Integer) kinds.Key (codes "integer") refl tt ts rest h
param-phrase (roles.Relation relations.AtMost) (forms.valued x) ts rest (m, h, g) = bounded trees.OfParam (roles.Relation relations.AtMost) kinds.Mark (codes "<=") of_sum refl (λ x l p. (l, p)) x ts m rest h g
param-phrase (roles.Relation relations.AtLeast) (forms.valued x) ts rest (m, h, g) = bounded trees.OfParam (roles.Relation relations.AtLeast) kinds.Mark (codes ">=") of_sum refl (λ x l p. (l, p)) x ts m rest h g
param-phrase (roles.Relation relations.Less) (forms.valued x) ts rest (m, h, g) = bounded trees.OfParam (roles.Relation relations.Less) kinds.Mark (codes "<") of_sum refl (λ x l p. (l, p)) x ts m rest h g
param-phrase (roles.Relation relations.Greater) (forms.valued x) ts rest (m, h, g) = bounded trees.OfParam (roles.Relation relations.Greater) kinds.Mark (codes ">") of_sum refl (λ x l p. (l, p)) x ts m rest h g
param-phrase (roles.Relation relations.Unequal) (forms.valued x) ts rest (m, inl h, g) = bounded trees.OfParam (roles.Relation relations.Unequal) kinds.Mark (codes "<>") of_sum refl (λ x l p. (l, p)) x ts m rest h g
param-phrase (roles.Relation relations.Unequal) (forms.valued x) ts rest (m, inr h, g) = bounded trees.OfParam (roles.Relation relations.Unequal) kinds.Mark (codes "!=") of_sum refl (λ x l p. (l, p)) x ts m rest h g
param-phrase (roles.Relation relations.In) (forms.valued x) ts rest (m, h, g) = bounded trees.OfParam (roles.Relation relations.In) kinds.Key (codes "in") of_union refl (λ x l p. (l, p)) x ts m rest h g
param-phrase (roles.Phrase begins.Default) (forms.valued x) ts rest (m, h, g) = given trees.OfParam (roles.Phrase begins.Default) kinds.Key (codes "default") refl (λ x v. v) x ts m rest h g
param-phrase roles.Becomes (forms.valued x) ts rest (m, h, g) = given trees.OfParam roles.Becomes kinds.Mark (codes ":=") refl (λ x v. v) x ts m rest h g
param-phrase _ _ ts rest h = absurd h

record IsReferenceOf (x : forms.Expression) (ts rest : List Token) : Type 0 where
  pub tree : Tree
  pub text : put tree rest ≡ ts
  pub level : trees.IsReference (valued tree)
  pub same : expression tree ≡ x

-- a tree with subscripts is one with subscripts
indexed-level : (x : Tree) (n : List ℕ) (y : forms.Expression) (ys : forms.Expressions) → expression x ≡ forms.indexed n y ys → IsWellFormed x → trees.IsReference (valued x)
indexed-level (indexed m o x l c) n y ys e h = h
indexed-level _ n y ys e h = absurd (let k = e in cc)

reference-sound : (x : forms.Expression) (ts rest : List Token) → IsReference x ts rest → IsReferenceOf x ts rest
reference-sound (forms.leaf t) ts rest (kind, e) = record { tree = leaf t; text = sym e; level = name-is t kind; same = refl }
reference-sound (forms.indexed n y ys) ts rest h =
    let s = tree-sound (forms.indexed n y ys) of_one ts rest h in
    record { tree = s.tree; text = s.text; level = indexed-level s.tree n y ys s.same s.level; same = s.same }
reference-sound _ ts rest h = absurd h

referred : (r : Role) (text : List ℕ) → role_as kinds.Key text ≡ r → ((b : Body) → trees.IsReference b → trees.OfArc r b)
    → (x : forms.Expression) (ts middle rest : List Token) → word text ts middle → IsReference x middle rest → IsPhraseOf trees.OfArc r (forms.valued x) ts rest
referred r text is level x ts middle rest (t, h, e) g =
    let s = reference-sound x middle rest g in
    record { keyword = t; content = valued s.tree; text = cc (e, s.text); role = has-role kinds.Key text t h ∙ is; level = level (valued s.tree) s.level; same = ap forms.valued s.same }

arc-phrase : Sound trees.OfArc IsArcPhrase
unfolding marks keys
arc-phrase (roles.Relation relations.AtMost) (forms.valued x) ts rest (m, h, g) = bounded trees.OfArc (roles.Relation relations.AtMost) kinds.Mark (codes "<=") of_sum refl (λ x l p. (l, p)) x ts m rest h g
arc-phrase (roles.Relation relations.AtLeast) (forms.valued x) ts rest (m, h, g) = bounded trees.OfArc (roles.Relation relations.AtLeast) kinds.Mark (codes ">=") of_sum refl (λ x l p. (l, p)) x ts m rest h g
arc-phrase (roles.Phrase begins.Integer) forms.plain ts rest h = alone trees.OfArc (roles.Phrase begins.Integer) kinds.Key (codes "integer") refl tt ts rest h
arc-phrase (roles.Phrase begins.From) (forms.valued x) ts rest (m, h, g) = referred (roles.Phrase begins.From) (codes "from") refl (λ b l. l) x ts m rest h g
arc-phrase (roles.Phrase begins.To) (forms.valued x) ts rest (m, h, g) = referred (roles.Phrase begins.To) (codes "to") refl (λ b l. l) x ts m rest h g
arc-phrase (roles.Phrase begins.Obj) (forms.priced n x) ts rest (m, (w, h, e), (m2, (t, (kind, name), f), g)) =
    let s = tree-sound x of_sum m2 rest g in
    record {
      keyword = w;
      content = priced t s.tree;
      text = cc (e, f, s.text);
      role = has-role kinds.Key (codes "obj") w h;
      level = (name-is t kind, s.level, s.within);
      same = cc (name, s.same);
    }
arc-phrase _ _ ts rest h = absurd h

record ArePhrasesOf (Of : Role → Body → Type 0) (xs : List forms.Phrase) (ts rest : List Token) : Type 0 where
  pub shapes : List Phrase
  pub text : put_phrases shapes rest ≡ ts
  pub level : trees.ArePhrases Of shapes
  pub same : map phrase shapes ≡ xs

record IsCommaOf (ts rest : List Token) : Type 0 where
  pub shape : Option Token
  pub text : put_optional shape rest ≡ ts
  pub level : trees.IsOptionalComma shape

comma-sound : (ts rest : List Token) → (nothing ∪ mark (codes ",")) ts rest → IsCommaOf ts rest
comma-sound ts rest (inl e) = record { shape = None; text = sym e; level = tt }
comma-sound ts rest (inr (t, h, e)) = record { shape = Some t; text = sym e; level = comma-is t h }

phrases-sound : (Of : Role → Body → Type 0) (Is : Role → forms.Body → Production) → Sound Of Is → (xs : List forms.Phrase) (ts rest : List Token) → ArePhrases Is xs ts rest → ArePhrasesOf Of xs ts rest
phrases-sound Of Is each [] ts rest h = record { shapes = []; text = sym h; level = tt; same = refl }
phrases-sound Of Is each (x ∷ xs) ts rest (m1, hc, (m2, hx, hxs)) =
    let c = comma-sound ts m1 hc in
    let s = each x.word x.body m1 m2 hx in
    let ss = phrases-sound Of Is each xs m2 rest hxs in
    let make : Role → forms.Body → forms.Phrase = λ a b. record { word = a; body = b } in
    let head : make (role_of s.keyword) (body s.content) ≡ make x.word x.body = ap₂ make s.role s.same in
    record {
      shapes = record { comma = c.shape; word = s.keyword; body = s.content } ∷ ss.shapes;
      text = cc (c.text, s.text, ss.text);
      level = (c.level, subst (λ r. Of r s.content) (sym s.role) s.level, ss.level);
      same = ap₂ (λ a b. a ∷ b) head ss.same;
    }

-- the keyword of a phrase that occurs once
counted : (test : Role → Bool) (keyword : Role) → ((r : Role) → test r ≡ true → r ≡ keyword) → (shapes : List Phrase) (xs : List forms.Phrase) → map phrase shapes ≡ xs → IsOnce keyword xs → trees.count test shapes ≤ 1
counted test keyword only shapes xs same once = count-from_once test keyword only shapes (subst (λ ys. IsOnce keyword ys) (sym same) once)

only-dimen : (r : Role) → is_dimen r ≡ true → r ≡ roles.Phrase begins.Dimen
only-dimen (roles.Phrase begins.Dimen) h = refl
only-dimen _ h = absurd (cc)

only-default : (r : Role) → is_default r ≡ true → r ≡ roles.Phrase begins.Default
only-default (roles.Phrase begins.Default) h = refl
only-default _ h = absurd (cc)

only-becomes : (r : Role) → is_becomes r ≡ true → r ≡ roles.Becomes
only-becomes roles.Becomes h = refl
only-becomes _ h = absurd (cc)

only-at_least : (r : Role) → is_at_least r ≡ true → r ≡ roles.Relation relations.AtLeast
only-at_least (roles.Relation relations.AtLeast) h = refl
only-at_least _ h = absurd (cc)

only-at_most : (r : Role) → is_at_most r ≡ true → r ≡ roles.Relation relations.AtMost
only-at_most (roles.Relation relations.AtMost) h = refl
only-at_most _ h = absurd (cc)

only-from : (r : Role) → is_from r ≡ true → r ≡ roles.Phrase begins.From
only-from (roles.Phrase begins.From) h = refl
only-from _ h = absurd (cc)

only-to : (r : Role) → is_to r ≡ true → r ≡ roles.Phrase begins.To
only-to (roles.Phrase begins.To) h = refl
only-to _ h = absurd (cc)

pub record AreOf (P : List Phrase → Type 0) (xs : List forms.Phrase) (ts rest : List Token) : Type 0 where
  pub shapes : List Phrase
  pub text : put_phrases shapes rest ≡ ts
  pub level : P shapes
  pub same : map phrase shapes ≡ xs

pub set_phrases-sound : (xs : List forms.Phrase) (ts rest : List Token) → AreSetPhrases xs ts rest → AreOf trees.AreSetPhrases xs ts rest
set_phrases-sound xs ts rest (once, h) =
    let s = phrases-sound trees.OfSet IsSetPhrase set-phrase xs ts rest h in
    record {
      shapes = s.shapes;
      text = s.text;
      level = (s.level, counted is_dimen (roles.Phrase begins.Dimen) only-dimen s.shapes xs s.same once.0, counted is_becomes roles.Becomes only-becomes s.shapes xs s.same once.1);
      same = s.same;
    }

pub param_phrases-sound : (xs : List forms.Phrase) (ts rest : List Token) → AreParamPhrases xs ts rest → AreOf trees.AreParamPhrases xs ts rest
param_phrases-sound xs ts rest (once, h) =
    let s = phrases-sound trees.OfParam IsParamPhrase param-phrase xs ts rest h in
    record {
      shapes = s.shapes;
      text = s.text;
      level = (s.level, counted is_default (roles.Phrase begins.Default) only-default s.shapes xs s.same once.0, counted is_becomes roles.Becomes only-becomes s.shapes xs s.same once.1);
      same = s.same;
    }

pub arc_phrases-sound : (xs : List forms.Phrase) (ts rest : List Token) → AreArcPhrases xs ts rest → AreOf trees.AreArcPhrases xs ts rest
arc_phrases-sound xs ts rest (once, h) =
    let s = phrases-sound trees.OfArc IsArcPhrase arc-phrase xs ts rest h in
    record {
      shapes = s.shapes;
      text = s.text;
      level = (
        s.level,
        counted is_at_least (roles.Relation relations.AtLeast) only-at_least s.shapes xs s.same once.0,
        counted is_at_most (roles.Relation relations.AtMost) only-at_most s.shapes xs s.same once.1,
        counted is_from (roles.Phrase begins.From) only-from s.shapes xs s.same once.2,
        counted is_to (roles.Phrase begins.To) only-to s.shapes xs s.same once.3,
      );
      same = s.same;
    }
