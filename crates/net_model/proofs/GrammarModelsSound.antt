-- Each model of the grammar is the abstract syntax of a well-formed tree with the same tokens, so
-- tokens are at most one model.
use Rattle.std.specs.Prelude.{◌≡◌, Bool, true, false, List, [], ◌∷◌, codes}
use Rattle.std.specs.Str.{bytes_eq}
use Rattle.std.proofs.Common.{refl, sym, ap, ap₂, ◌∙◌}
use Rattle.net_lex.specs.declared.token.Kind.TheVariants as kinds
use Rattle.net_lex.specs.declared.token.Token.{Token}
use Rattle.net_tree.specs.declared.role.Declares.TheVariants as declares
use Rattle.net_tree.specs.declared.role.Role.TheVariants as roles
use Rattle.net_tree.specs.Erasure.{clause, declaration, declarations}
use Rattle.net_tree.specs.Operations.{is_minimize}
use Rattle.net_tree.specs.Precedence.{of_or}
use Rattle.net_tree.specs.Print.{put_part, put_declaration, print}
use Rattle.net_tree.specs.Role.{keys, role_of}
use Rattle.net_tree.specs.Syntax as forms
use Rattle.net_tree.specs.Tree.{Part, absent, part, Declaration, set, param, check, node, arc, objective}
use Rattle.net_tree.specs.Declarations as trees
use Rattle.net_model.specs.GrammarOfDeclarations.{direction, IsObjective, IsDeclaration, IsModel}
use Rattle.net_model.proofs.GrammarTokens.{has-role}
use Rattle.net_model.proofs.GrammarSpelled.{colon-is, semicolon-is, name-is}
use Rattle.net_model.proofs.GrammarSound.{tree-sound, indexing-sound, value-sound}
use Rattle.net_model.proofs.GrammarConditionsSound.{condition-sound}
use Rattle.net_model.proofs.GrammarPhrasesSound.{set_phrases-sound, param_phrases-sound, arc_phrases-sound}
use Rattle.net_model.proofs.ModelLaws.{one_model}

record IsObjectiveOf (p : forms.Clause) (ts rest : List Token) : Type 0 where
  pub shape : Part
  pub text : put_part shape rest ≡ ts
  pub level : trees.IsObjective shape
  pub same : clause shape ≡ p

objective-sound : (p : forms.Clause) (ts rest : List Token) → IsObjective p ts rest → IsObjectiveOf p ts rest
objective-sound forms.absent ts rest h = record { shape = absent; text = sym h; level = tt; same = refl }
objective-sound (forms.present x) ts rest (m, (c, is-c, e), hx) =
    let s = value-sound x m rest hx in
    record { shape = part c s.tree; text = cc (e, s.text); level = (colon-is c is-c, s.level, s.within); same = cc (s.same) }

record IsDirectionOf (minimizes : Bool) (ts rest : List Token) : Type 0 where
  pub token : Token
  pub text : ts ≡ token ∷ rest
  pub role : role_of token ≡ roles.Declaration declares.Objective
  pub same : is_minimize token ≡ minimizes

direction-sound : (minimizes : Bool) (ts rest : List Token) → direction minimizes ts rest → IsDirectionOf minimizes ts rest
unfolding keys is_minimize
direction-sound true ts rest (t, h, e) = record { token = t; text = e; role = has-role kinds.Key (codes "minimize") t h; same = ap (bytes_eq (codes "minimize")) h.1 }
direction-sound false ts rest (t, h, e) = record { token = t; text = e; role = has-role kinds.Key (codes "maximize") t h; same = ap (bytes_eq (codes "minimize")) h.1 }

record IsDeclarationOf (x : forms.Declaration) (ts rest : List Token) : Type 0 where
  pub shape : Declaration
  pub text : put_declaration shape rest ≡ ts
  pub level : trees.IsDeclaration shape
  pub same : declaration shape ≡ x

declaration-sound : (x : forms.Declaration) (ts rest : List Token) → IsDeclaration x ts rest → IsDeclarationOf x ts rest
unfolding keys
declaration-sound (forms.set n ps) ts rest (m1, (w, is-w, e1), (m2, (t, (kind, name), e2), (m3, hps, (e, is-e, e4)))) =
    let s = set_phrases-sound ps m2 m3 hps in
    record {
      shape = set w t s.shapes e;
      text = cc (e1, e2, s.text, e4);
      level = (has-role kinds.Key (codes "set") w is-w, name-is t kind, s.level, semicolon-is e is-e);
      same = cc (name, s.same);
    }
declaration-sound (forms.param n b ps) ts rest (m1, (w, is-w, e1), (m2, (t, (kind, name), e2), (m3, hb, (m4, hps, (e, is-e, e5))))) =
    let i = indexing-sound b m2 m3 hb in
    let s = param_phrases-sound ps m3 m4 hps in
    record {
      shape = param w t i.shape s.shapes e;
      text = cc (e1, e2, i.text, s.text, e5);
      level = (has-role kinds.Key (codes "param") w is-w, name-is t kind, i.level, s.level, semicolon-is e is-e);
      same = cc (name, i.same, s.same);
    }
declaration-sound (forms.check b x) ts rest (m1, (w, is-w, e1), (m2, hb, (m3, (c, is-c, e3), (m4, hx, (e, is-e, e5))))) =
    let i = indexing-sound b m1 m2 hb in
    let s = tree-sound x of_or m3 m4 hx in
    record {
      shape = check w i.shape c s.tree e;
      text = cc (e1, i.text, e3, s.text, e5);
      level = (has-role kinds.Key (codes "check") w is-w, i.level, colon-is c is-c, s.level, s.within, semicolon-is e is-e);
      same = cc (i.same, s.same);
    }
declaration-sound (forms.node n b c) ts rest (m1, (w, is-w, e1), (m2, (t, (kind, name), e2), (m3, hb, (m4, hc, (e, is-e, e5))))) =
    let i = indexing-sound b m2 m3 hb in
    let s = condition-sound c m3 m4 hc in
    record {
      shape = node w t i.shape s.shape e;
      text = cc (e1, e2, i.text, s.text, e5);
      level = (has-role kinds.Key (codes "node") w is-w, name-is t kind, i.level, s.level, semicolon-is e is-e);
      same = cc (name, i.same, s.same);
    }
declaration-sound (forms.arc n b ps) ts rest (m1, (w, is-w, e1), (m2, (t, (kind, name), e2), (m3, hb, (m4, hps, (e, is-e, e5))))) =
    let i = indexing-sound b m2 m3 hb in
    let s = arc_phrases-sound ps m3 m4 hps in
    record {
      shape = arc w t i.shape s.shapes e;
      text = cc (e1, e2, i.text, s.text, e5);
      level = (has-role kinds.Key (codes "arc") w is-w, name-is t kind, i.level, s.level, semicolon-is e is-e);
      same = cc (name, i.same, s.same);
    }
declaration-sound (forms.objective minimizes n p) ts rest (m1, hw, (m2, (t, (kind, name), e2), (m3, hp, (e, is-e, e4)))) =
    let d = direction-sound minimizes ts m1 hw in
    let s = objective-sound p m2 m3 hp in
    record {
      shape = objective d.token t s.shape e;
      text = cc (d.text, e2, s.text, e4);
      level = (d.role, name-is t kind, s.level, semicolon-is e is-e);
      same = cc (d.same, name, s.same);
    }

pub model-sound : (xs : List forms.Declaration) (ts : List Token) → IsModel xs ts → (ds : List Declaration) × trees.AreDeclarations ds × (print ds ≡ ts) × (declarations ds ≡ xs)
model-sound [] ts h = ([], tt, sym h, refl)
model-sound (x ∷ xs) ts (m, hx, hxs) =
    let d = declaration-sound x ts m hx in
    let rest = model-sound xs m hxs in
    (d.shape ∷ rest.0, (d.level, rest.1), ap (put_declaration d.shape) rest.2 ∙ d.text, ap₂ (λ a b. a ∷ b) d.same rest.3)

pub model-unique : (xs ys : List forms.Declaration) (ts : List Token) → IsModel xs ts → IsModel ys ts → xs ≡ ys
model-unique xs ys ts h g =
    let a = model-sound xs ts h in
    let b = model-sound ys ts g in
    sym a.3 ∙ ap declarations (one_model a.0 b.0 a.1 b.1 (a.2 ∙ sym b.2)) ∙ b.3
