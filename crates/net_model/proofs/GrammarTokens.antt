-- Tokens by their roles and by their texts: the texts that a test of roles accepts.
use Rattle.std.specs.Prelude.{◌≡◌, ◌⊎◌, ℕ, Bool, true, false, List, [], ◌∷◌, if◌then◌else◌}
use Rattle.std.specs.Str.{bytes_eq}
use Rattle.std.proofs.Common.{refl, sym, ap, ◌∙◌, subst, inl, inr}
use Rattle.std.proofs.lemmas.Slice.Eq.{bytes_eq-Decides}
use Rattle.net_lex.specs.declared.token.Kind.{Kind}
use Rattle.net_lex.specs.declared.token.Kind.TheVariants as kinds
use Rattle.net_lex.specs.declared.token.Token.{Token}
use Rattle.net_lex.specs.Productions.{literal}
use Rattle.net_tree.specs.declared.role.Role.{Role}
use Rattle.net_tree.specs.declared.role.Role.TheVariants as roles
use Rattle.net_tree.specs.Role.{marks, keys, role_in, role_as, role_of}

-- the entries of a table of roles that pass the test
abbrev pub texts : (Role → Bool) → List (List ℕ × Role) → List (List ℕ × Role)
texts P [] = []
texts P (e ∷ es) = if P e.1 then e ∷ texts P es else texts P es

abbrev pub IsAmong : List (List ℕ × Role) → List ℕ → Role → Type 0
IsAmong [] text role = ⊥
IsAmong (e ∷ es) text role = ((text ≡ e.0) × (role ≡ e.1)) ⊎ IsAmong es text role

found-step : (P : Role → Bool) (e : List ℕ × Role) (es : List (List ℕ × Role)) (text : List ℕ) (b c : Bool) → (b ≡ true → text ≡ e.0) → P e.1 ≡ c
    → (P (role_in es text) ≡ true → IsAmong (texts P es) text (role_in es text)) → P (if b then e.1 else role_in es text) ≡ true
    → IsAmong (if c then e ∷ texts P es else texts P es) text (if b then e.1 else role_in es text)
found-step P e es text true true same test rest pass = inl (same refl, refl)
found-step P e es text true false same test rest pass = absurd (cc)
found-step P e es text false true same test rest pass = inr (rest pass)
found-step P e es text false false same test rest pass = rest pass

pub found : (P : Role → Bool) (table : List (List ℕ × Role)) (text : List ℕ) → P roles.Unknown ≡ false → P (role_in table text) ≡ true → IsAmong (texts P table) text (role_in table text)
found P [] text unknown pass = absurd (cc)
found P (e ∷ es) text unknown pass =
    found-step P e es text (bytes_eq e.0 text) (P e.1) (λ h. sym ((bytes_eq-Decides e.0 text).0 h)) refl (λ h. found P es text unknown h) pass

-- the test accepts only punctuation and reserved words
abbrev pub IsOfTables : (Role → Bool) → Type 0
IsOfTables P = (P roles.Name ≡ false) × (P roles.Number ≡ false) × (P roles.Text ≡ false) × (P roles.Unknown ≡ false)

abbrev Spelled : (Role → Bool) → Kind → List ℕ → Role → Type 0
Spelled P kind text role = ((kind ≡ kinds.Mark) × IsAmong (texts P marks) text role) ⊎ ((kind ≡ kinds.Key) × IsAmong (texts P keys) text role)

spelled : (P : Role → Bool) (kind : Kind) (text : List ℕ) → IsOfTables P → P (role_as kind text) ≡ true → Spelled P kind text (role_as kind text)
spelled P kinds.Name text only pass = let no = only.0 in absurd (cc)
spelled P kinds.Key text only pass = inr (refl, found P keys text only.3 pass)
spelled P kinds.Num text only pass = let no = only.1 in absurd (cc)
spelled P kinds.Str text only pass = let no = only.2 in absurd (cc)
spelled P kinds.Mark text only pass = inl (refl, found P marks text only.3 pass)
spelled P kinds.Dot text only pass = let no = only.3 in absurd (cc)

pub token-spelled : (P : Role → Bool) (t : Token) → IsOfTables P → P (role_of t) ≡ true → Spelled P t.kind t.text (role_of t)
unfolding role_of
token-spelled P t only pass = spelled P t.kind t.text only pass

-- a proof for each entry of a list
abbrev pub Each : List (List ℕ × Role) → List ℕ → Role → Type 0 → Type 0
Each [] text role G = Unit {0}
Each (e ∷ es) text role G = (text ≡ e.0 → role ≡ e.1 → G) × Each es text role G

pub among : (es : List (List ℕ × Role)) (text : List ℕ) (role : Role) (G : Type 0) → Each es text role G → IsAmong es text role → G
among [] text role G each h = absurd h
among (e ∷ es) text role G each (inl h) = each.0 h.0 h.1
among (e ∷ es) text role G each (inr h) = among es text role G each.1 h

-- the kind and text of a token
abbrev pub Has : Kind → List ℕ → Token → Type 0
Has kind text t = (t.kind ≡ kind) × (t.text ≡ text)

pub is-mark : (P : Role → Bool) (text : List ℕ) (role : Role) (t : Token) → IsOfTables P → texts P marks ≡ (text, role) ∷ [] → texts P keys ≡ [] → P (role_of t) ≡ true → Has kinds.Mark text t
is-mark P text role t only one none pass =
    go (token-spelled P t only pass)
  where
    go : Spelled P t.kind t.text (role_of t) → Has kinds.Mark text t
    go (inl (k, h)) = (k, among ((text, role) ∷ []) t.text (role_of t) (t.text ≡ text) (λ e f. e, tt) (subst (λ es. IsAmong es t.text (role_of t)) one h))
    go (inr (k, h)) = absurd (subst (λ es. IsAmong es t.text (role_of t)) none h)

pub is-word : (P : Role → Bool) (text : List ℕ) (role : Role) (t : Token) → IsOfTables P → texts P keys ≡ (text, role) ∷ [] → texts P marks ≡ [] → P (role_of t) ≡ true → Has kinds.Key text t
is-word P text role t only one none pass =
    go (token-spelled P t only pass)
  where
    go : Spelled P t.kind t.text (role_of t) → Has kinds.Key text t
    go (inr (k, h)) = (k, among ((text, role) ∷ []) t.text (role_of t) (t.text ≡ text) (λ e f. e, tt) (subst (λ es. IsAmong es t.text (role_of t)) one h))
    go (inl (k, h)) = absurd (subst (λ es. IsAmong es t.text (role_of t)) none h)

-- the role of a token of this kind and text
pub has-role : (kind : Kind) (text : List ℕ) (t : Token) → Has kind text t → role_of t ≡ role_as kind text
unfolding role_of
has-role kind text t h = ap (λ k. role_as k t.text) h.0 ∙ ap (λ x. role_as kind x) h.1

pub passes : (P : Role → Bool) (kind : Kind) (text : List ℕ) (t : Token) → Has kind text t → P (role_as kind text) ≡ true → P (role_of t) ≡ true
passes P kind text t h pass = ap P (has-role kind text t h) ∙ pass

-- the token that a production for one text takes
pub literal-head : (kind : Kind) (text : List ℕ) (t : Token) (ts rest : List Token) → literal kind text (t ∷ ts) rest → Has kind text t
literal-head kind text t ts rest (u, h, e) = let same : u ≡ t = cc in subst (λ v. Has kind text v) same h
