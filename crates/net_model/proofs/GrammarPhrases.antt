-- The phrases of declarations are those of the grammar.
use Rattle.std.specs.Prelude.{◌≡◌, List, [], ◌∷◌, map, codes, Option, None, Some}
use Rattle.std.proofs.Common.{refl, inl, inr, arith}
use Rattle.net_lex.specs.declared.token.Token.{Token}
use Rattle.net_lex.specs.Productions.{nothing, mark}
use Rattle.net_tree.specs.declared.role.Begins.TheVariants as begins
use Rattle.net_tree.specs.declared.role.Relation.TheVariants as relations
use Rattle.net_tree.specs.declared.role.Role.{Role}
use Rattle.net_tree.specs.declared.role.Role.TheVariants as roles
use Rattle.net_tree.specs.Erasure.{body, phrase, expression}
use Rattle.net_tree.specs.Precedence.{of_one, of_sum, of_union}
use Rattle.net_tree.specs.Print.{put, put_body, put_phrases, put_optional}
use Rattle.net_tree.specs.Role.{role_of}
use Rattle.net_tree.specs.Syntax as forms
use Rattle.net_tree.specs.Tree.{Tree, leaf, indexed, Body, plain, valued, priced, Phrase}
use Rattle.net_tree.specs.Phrases as trees
use Rattle.net_tree.specs.Phrases.{count, is_dimen, is_default, is_becomes, is_at_least, is_at_most, is_from, is_to}
use Rattle.net_model.specs.Operators.{Production, ◌∪◌}
use Rattle.net_model.specs.GrammarOfDeclarations.{IsSetPhrase, IsParamPhrase, IsReference, IsArcPhrase, ArePhrases, AreSetPhrases, AreParamPhrases, AreArcPhrases}
use Rattle.net_model.proofs.GrammarSpelling.{at-comma, at-name, is-a-name, is-a-number}
use Rattle.net_model.proofs.GrammarKeywords.{as-dimen, as-symbolic, as-integer, as-default, as-from, as-to, as-obj, as-becomes, as-at_most, as-at_least, as-less, as-greater, as-unequal, as-in, as-within}
use Rattle.net_model.proofs.GrammarOnce.{once-from_count}
use Rattle.net_model.proofs.GrammarComplete.{tree-complete, value-complete}

-- the token w has the role r, and what follows it is a phrase
abbrev Follows : (Role → Body → Type 0) → (Role → forms.Body → Production) → Type 0
Follows Of Is = (w : Token) (r : Role) (b : Body) (rest : List Token) → role_of w ≡ r → Of r b → Is r (body b) (w ∷ put_body b rest) rest

set-follows : Follows trees.OfSet IsSetPhrase
set-follows w (roles.Phrase begins.Dimen) (valued (leaf t)) rest e h = (_, as-dimen w _ e, (is-a-number t h, refl))
set-follows w (roles.Relation relations.Within) (valued x) rest e h = (_, as-within w _ e, tree-complete x of_union rest h.0 h.1 (omega arith))
set-follows w roles.Becomes (valued x) rest e h = (_, as-becomes w _ e, value-complete x rest h.0 h.1)
set-follows w _ _ rest e h = absurd h

param-follows : Follows trees.OfParam IsParamPhrase
param-follows w (roles.Phrase begins.Symbolic) plain rest e h = as-symbolic w rest e
param-follows w (roles.Phrase begins.Integer) plain rest e h = as-integer w rest e
param-follows w (roles.Relation relations.AtMost) (valued x) rest e h = (_, as-at_most w _ e, tree-complete x of_sum rest h.0 h.1 (omega arith))
param-follows w (roles.Relation relations.AtLeast) (valued x) rest e h = (_, as-at_least w _ e, tree-complete x of_sum rest h.0 h.1 (omega arith))
param-follows w (roles.Relation relations.Less) (valued x) rest e h = (_, as-less w _ e, tree-complete x of_sum rest h.0 h.1 (omega arith))
param-follows w (roles.Relation relations.Greater) (valued x) rest e h = (_, as-greater w _ e, tree-complete x of_sum rest h.0 h.1 (omega arith))
param-follows w (roles.Relation relations.Unequal) (valued x) rest e h = (_, as-unequal w _ e, tree-complete x of_sum rest h.0 h.1 (omega arith))
param-follows w (roles.Relation relations.In) (valued x) rest e h = (_, as-in w _ e, tree-complete x of_union rest h.0 h.1 (omega arith))
param-follows w (roles.Phrase begins.Default) (valued x) rest e h = (_, as-default w _ e, value-complete x rest h.0 h.1)
param-follows w roles.Becomes (valued x) rest e h = (_, as-becomes w _ e, value-complete x rest h.0 h.1)
param-follows w _ _ rest e h = absurd h

reference-complete : (x : Tree) (rest : List Token) → trees.IsReference (valued x) → IsReference (expression x) (put x rest) rest
reference-complete (leaf t) rest h = (is-a-name t h, refl)
reference-complete (indexed n o x l c) rest h = tree-complete (indexed n o x l c) of_one rest h (omega arith) (omega arith)
reference-complete _ rest h = absurd h

arc-follows : Follows trees.OfArc IsArcPhrase
arc-follows w (roles.Relation relations.AtMost) (valued x) rest e h = (_, as-at_most w _ e, tree-complete x of_sum rest h.0 h.1 (omega arith))
arc-follows w (roles.Relation relations.AtLeast) (valued x) rest e h = (_, as-at_least w _ e, tree-complete x of_sum rest h.0 h.1 (omega arith))
arc-follows w (roles.Phrase begins.Integer) plain rest e h = as-integer w rest e
arc-follows w (roles.Phrase begins.From) (valued x) rest e h = (_, as-from w _ e, reference-complete x rest h)
arc-follows w (roles.Phrase begins.To) (valued x) rest e h = (_, as-to w _ e, reference-complete x rest h)
arc-follows w (roles.Phrase begins.Obj) (priced n x) rest e h = (_, as-obj w _ e, (_, at-name n _ h.0, tree-complete x of_sum rest h.1 h.2 (omega arith)))
arc-follows w _ _ rest e h = absurd h

comma-complete : (c : Option Token) (rest : List Token) → trees.IsOptionalComma c → (nothing ∪ mark (codes ",")) (put_optional c rest) rest
comma-complete None rest h = inl refl
comma-complete (Some c) rest h = inr (at-comma c rest h)

phrases-complete : (Of : Role → Body → Type 0) (Is : Role → forms.Body → Production) → Follows Of Is → (ps : List Phrase) (rest : List Token) → trees.ArePhrases Of ps
    → ArePhrases Is (map phrase ps) (put_phrases ps rest) rest
phrases-complete Of Is follows [] rest h = refl
phrases-complete Of Is follows (p ∷ ps) rest h =
    (_, comma-complete p.comma _ h.0, (_, follows p.word (role_of p.word) p.body _ refl h.1, phrases-complete Of Is follows ps rest h.2))

pub set_phrases-complete : (ps : List Phrase) (rest : List Token) → trees.AreSetPhrases ps → AreSetPhrases (map phrase ps) (put_phrases ps rest) rest
set_phrases-complete ps rest h =
    ((once-from_count is_dimen (roles.Phrase begins.Dimen) refl ps h.1, once-from_count is_becomes roles.Becomes refl ps h.2), phrases-complete trees.OfSet IsSetPhrase set-follows ps rest h.0)

pub param_phrases-complete : (ps : List Phrase) (rest : List Token) → trees.AreParamPhrases ps → AreParamPhrases (map phrase ps) (put_phrases ps rest) rest
param_phrases-complete ps rest h =
    ((once-from_count is_default (roles.Phrase begins.Default) refl ps h.1, once-from_count is_becomes roles.Becomes refl ps h.2), phrases-complete trees.OfParam IsParamPhrase param-follows ps rest h.0)

pub arc_phrases-complete : (ps : List Phrase) (rest : List Token) → trees.AreArcPhrases ps → AreArcPhrases (map phrase ps) (put_phrases ps rest) rest
arc_phrases-complete ps rest h = (
  (
    once-from_count is_at_least (roles.Relation relations.AtLeast) refl ps h.1,
    once-from_count is_at_most (roles.Relation relations.AtMost) refl ps h.2,
    once-from_count is_from (roles.Phrase begins.From) refl ps h.3,
    once-from_count is_to (roles.Phrase begins.To) refl ps h.4,
  ),
  phrases-complete trees.OfArc IsArcPhrase arc-follows ps rest h.0,
)
