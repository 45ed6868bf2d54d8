-- The keywords of phrases and declarations by their roles.
use Rattle.std.specs.Prelude.{◌≡◌, ◌⊎◌, ℕ, Bool, true, nat_eq, List, [], ◌∷◌, codes}
use Rattle.std.specs.Str.{bytes_eq}
use Rattle.std.proofs.Common.{refl, sym, ap, ◌∙◌, subst, inl, inr}
use Rattle.net_lex.specs.declared.token.Kind.TheVariants as kinds
use Rattle.net_lex.specs.declared.token.Token.{Token}
use Rattle.net_lex.specs.Productions.{mark}
use Rattle.net_tree.specs.declared.role.Begins.TheVariants as begins
use Rattle.net_tree.specs.declared.role.Declares.TheVariants as declares
use Rattle.net_tree.specs.declared.role.Relation.TheVariants as relations
use Rattle.net_tree.specs.declared.role.Role.{Role}
use Rattle.net_tree.specs.declared.role.Role.TheVariants as roles
use Rattle.net_tree.specs.Operations.{is_minimize}
use Rattle.net_tree.specs.Role.{marks, keys, role_of}
use Rattle.net_model.specs.Operators.{Production, ◌∪◌, word}
use Rattle.net_model.specs.GrammarOfDeclarations.{direction}
use Rattle.net_model.proofs.GrammarTokens.{texts, IsAmong, IsOfTables, token-spelled, among, is-mark, is-word}

-- a number for each role of a keyword
abbrev code : Role → ℕ
code (roles.Phrase begins.Dimen) = 1
code (roles.Phrase begins.Symbolic) = 2
code (roles.Phrase begins.Integer) = 3
code (roles.Phrase begins.Default) = 4
code (roles.Phrase begins.From) = 5
code (roles.Phrase begins.To) = 6
code (roles.Phrase begins.Obj) = 7
code roles.Becomes = 8
code (roles.Relation relations.AtMost) = 9
code (roles.Relation relations.AtLeast) = 10
code (roles.Relation relations.Less) = 11
code (roles.Relation relations.Greater) = 12
code (roles.Relation relations.Unequal) = 13
code (roles.Relation relations.In) = 14
code (roles.Relation relations.Within) = 15
code (roles.Declaration declares.Set) = 16
code (roles.Declaration declares.Param) = 17
code (roles.Declaration declares.Check) = 18
code (roles.Declaration declares.Node) = 19
code (roles.Declaration declares.Arc) = 20
code (roles.Declaration declares.Objective) = 21
code _ = 0

abbrev has_code : ℕ → Role → Bool
has_code n r = nat_eq (code r) n

word-is : (n : ℕ) (text : List ℕ) (role : Role) → IsOfTables (has_code n) → texts (has_code n) keys ≡ (text, role) ∷ [] → texts (has_code n) marks ≡ [] → has_code n role ≡ true
    → (t : Token) (rest : List Token) → role_of t ≡ role → word text (t ∷ rest) rest
word-is n text role only one none same t rest e = (t, is-word (has_code n) text role t only one none (ap (has_code n) e ∙ same), refl)

mark-is : (n : ℕ) (text : List ℕ) (role : Role) → IsOfTables (has_code n) → texts (has_code n) marks ≡ (text, role) ∷ [] → texts (has_code n) keys ≡ [] → has_code n role ≡ true
    → (t : Token) (rest : List Token) → role_of t ≡ role → mark text (t ∷ rest) rest
mark-is n text role only one none same t rest e = (t, is-mark (has_code n) text role t only one none (ap (has_code n) e ∙ same), refl)

-- a token with this role
abbrev As : Role → Production → Type 0
As r Q = (t : Token) (rest : List Token) → role_of t ≡ r → Q (t ∷ rest) rest

pub as-dimen : As (roles.Phrase begins.Dimen) (word (codes "dimen"))
unfolding marks keys
as-dimen = word-is 1 (codes "dimen") (roles.Phrase begins.Dimen) (refl, refl, refl, refl) refl refl refl

pub as-symbolic : As (roles.Phrase begins.Symbolic) (word (codes "symbolic"))
unfolding marks keys
as-symbolic = word-is 2 (codes "symbolic") (roles.Phrase begins.Symbolic) (refl, refl, refl, refl) refl refl refl

pub as-integer : As (roles.Phrase begins.Integer) (word (codes "integer"))
unfolding marks keys
as-integer = word-is 3 (codes "integer") (roles.Phrase begins.Integer) (refl, refl, refl, refl) refl refl refl

pub as-default : As (roles.Phrase begins.Default) (word (codes "default"))
unfolding marks keys
as-default = word-is 4 (codes "default") (roles.Phrase begins.Default) (refl, refl, refl, refl) refl refl refl

pub as-from : As (roles.Phrase begins.From) (word (codes "from"))
unfolding marks keys
as-from = word-is 5 (codes "from") (roles.Phrase begins.From) (refl, refl, refl, refl) refl refl refl

pub as-to : As (roles.Phrase begins.To) (word (codes "to"))
unfolding marks keys
as-to = word-is 6 (codes "to") (roles.Phrase begins.To) (refl, refl, refl, refl) refl refl refl

pub as-obj : As (roles.Phrase begins.Obj) (word (codes "obj"))
unfolding marks keys
as-obj = word-is 7 (codes "obj") (roles.Phrase begins.Obj) (refl, refl, refl, refl) refl refl refl

pub as-becomes : As roles.Becomes (mark (codes ":="))
unfolding marks keys
as-becomes = mark-is 8 (codes ":=") roles.Becomes (refl, refl, refl, refl) refl refl refl

pub as-at_most : As (roles.Relation relations.AtMost) (mark (codes "<="))
unfolding marks keys
as-at_most = mark-is 9 (codes "<=") (roles.Relation relations.AtMost) (refl, refl, refl, refl) refl refl refl

pub as-at_least : As (roles.Relation relations.AtLeast) (mark (codes ">="))
unfolding marks keys
as-at_least = mark-is 10 (codes ">=") (roles.Relation relations.AtLeast) (refl, refl, refl, refl) refl refl refl

pub as-less : As (roles.Relation relations.Less) (mark (codes "<"))
unfolding marks keys
as-less = mark-is 11 (codes "<") (roles.Relation relations.Less) (refl, refl, refl, refl) refl refl refl

pub as-greater : As (roles.Relation relations.Greater) (mark (codes ">"))
unfolding marks keys
as-greater = mark-is 12 (codes ">") (roles.Relation relations.Greater) (refl, refl, refl, refl) refl refl refl

pub as-in : As (roles.Relation relations.In) (word (codes "in"))
unfolding marks keys
as-in = word-is 14 (codes "in") (roles.Relation relations.In) (refl, refl, refl, refl) refl refl refl

pub as-within : As (roles.Relation relations.Within) (word (codes "within"))
unfolding marks keys
as-within = word-is 15 (codes "within") (roles.Relation relations.Within) (refl, refl, refl, refl) refl refl refl

pub as-set : As (roles.Declaration declares.Set) (word (codes "set"))
unfolding marks keys
as-set = word-is 16 (codes "set") (roles.Declaration declares.Set) (refl, refl, refl, refl) refl refl refl

pub as-param : As (roles.Declaration declares.Param) (word (codes "param"))
unfolding marks keys
as-param = word-is 17 (codes "param") (roles.Declaration declares.Param) (refl, refl, refl, refl) refl refl refl

pub as-check : As (roles.Declaration declares.Check) (word (codes "check"))
unfolding marks keys
as-check = word-is 18 (codes "check") (roles.Declaration declares.Check) (refl, refl, refl, refl) refl refl refl

pub as-node : As (roles.Declaration declares.Node) (word (codes "node"))
unfolding marks keys
as-node = word-is 19 (codes "node") (roles.Declaration declares.Node) (refl, refl, refl, refl) refl refl refl

pub as-arc : As (roles.Declaration declares.Arc) (word (codes "arc"))
unfolding marks keys
as-arc = word-is 20 (codes "arc") (roles.Declaration declares.Arc) (refl, refl, refl, refl) refl refl refl

pub as-unequal : As (roles.Relation relations.Unequal) (mark (codes "<>") ∪ mark (codes "!="))
unfolding marks keys
as-unequal t rest e =
    go (token-spelled (has_code 13) t (refl, refl, refl, refl) (ap (has_code 13) e))
  where
    G : Type 0
    G = (mark (codes "<>") ∪ mark (codes "!=")) (t ∷ rest) rest

    go : (((t.kind ≡ kinds.Mark) × IsAmong (texts (has_code 13) marks) t.text (role_of t)) ⊎ ((t.kind ≡ kinds.Key) × IsAmong (texts (has_code 13) keys) t.text (role_of t))) → G
    go (inl (kind, a)) = among (texts (has_code 13) marks) t.text (role_of t) G (λ e f. inl (t, (kind, e), refl), (λ e f. inr (t, (kind, e), refl), tt)) a
    go (inr (kind, a)) = absurd a

pub as-objective : (t : Token) (rest : List Token) → role_of t ≡ roles.Declaration declares.Objective → direction (is_minimize t) (t ∷ rest) rest
unfolding marks keys is_minimize
as-objective t rest e =
    go (token-spelled (has_code 21) t (refl, refl, refl, refl) (ap (has_code 21) e))
  where
    G : List ℕ → Type 0
    G x = direction (bytes_eq (codes "minimize") x) (t ∷ rest) rest

    go : (((t.kind ≡ kinds.Mark) × IsAmong (texts (has_code 21) marks) t.text (role_of t)) ⊎ ((t.kind ≡ kinds.Key) × IsAmong (texts (has_code 21) keys) t.text (role_of t))) → G t.text
    go (inl (kind, a)) = absurd a
    go (inr (kind, a)) = among (texts (has_code 21) keys) t.text (role_of t) (G t.text) (λ e f. subst G (sym e) (t, (kind, e), refl), (λ e f. subst G (sym e) (t, (kind, e), refl), tt)) a
