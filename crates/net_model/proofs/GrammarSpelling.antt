-- The tokens of trees are those of the grammar's productions.
use Rattle.std.specs.Prelude.{◌≡◌, ◌⊎◌, ℕ, Bool, true, false, List, [], ◌∷◌, codes, if◌then◌else◌}
use Rattle.std.specs.Str.{bytes_eq}
use Rattle.std.proofs.Common.{refl, sym, ap, subst, inl, inr}
use Rattle.net_lex.specs.declared.token.Kind.{Kind}
use Rattle.net_lex.specs.declared.token.Kind.TheVariants as kinds
use Rattle.net_lex.specs.declared.token.Token.{Token}
use Rattle.net_lex.specs.Productions.{mark}
use Rattle.net_tree.specs.declared.role.Role.{Role}
use Rattle.net_tree.specs.declared.role.Role.TheVariants as roles
use Rattle.net_tree.specs.declared.operator.Reduction.TheVariants as reductions
use Rattle.net_tree.specs.Operations.{is_minus, reduction, is_outflow}
use Rattle.net_tree.specs.Role.{marks, keys, role_in, role_as, role_of, is_name, is_leaf, is_number, is_open, is_close, is_open_brace, is_close_brace, is_open_square, is_close_square, is_comma, is_colon, is_semicolon, is_sign, is_not, is_if, is_then, is_else, is_reduction, is_net}
use Rattle.net_tree.specs.WellFormed.{joins}
use Rattle.net_model.specs.Operators.{Production, ◌∪◌, word}
use Rattle.net_model.specs.Grammar.{exactly, name, sign, reducer}
use Rattle.net_model.specs.GrammarOfDeclarations.{flow}
use Rattle.net_model.proofs.GrammarTokens.{texts, IsAmong, found, token-spelled, among, Has, is-mark, is-word, has-role}

-- a token with this role
abbrev At : (Role → Bool) → Production → Type 0
At P Q = (t : Token) (rest : List Token) → P (role_of t) ≡ true → Q (t ∷ rest) rest

pub at-comma : At is_comma (mark (codes ","))
unfolding marks keys
at-comma t rest h = (t, is-mark is_comma (codes ",") roles.Comma t (refl, refl, refl, refl) refl refl h, refl)

pub at-semicolon : At is_semicolon (mark (codes ";"))
unfolding marks keys
at-semicolon t rest h = (t, is-mark is_semicolon (codes ";") roles.Semicolon t (refl, refl, refl, refl) refl refl h, refl)

pub at-colon : At is_colon (mark (codes ":"))
unfolding marks keys
at-colon t rest h = (t, is-mark is_colon (codes ":") roles.Colon t (refl, refl, refl, refl) refl refl h, refl)

pub at-open : At is_open (mark (codes "("))
unfolding marks keys
at-open t rest h = (t, is-mark is_open (codes "(") roles.Open t (refl, refl, refl, refl) refl refl h, refl)

pub at-close : At is_close (mark (codes ")"))
unfolding marks keys
at-close t rest h = (t, is-mark is_close (codes ")") roles.Close t (refl, refl, refl, refl) refl refl h, refl)

pub at-open-brace : At is_open_brace (mark (codes "{"))
unfolding marks keys
at-open-brace t rest h = (t, is-mark is_open_brace (codes "{") roles.OpenBrace t (refl, refl, refl, refl) refl refl h, refl)

pub at-close-brace : At is_close_brace (mark (codes "}"))
unfolding marks keys
at-close-brace t rest h = (t, is-mark is_close_brace (codes "}") roles.CloseBrace t (refl, refl, refl, refl) refl refl h, refl)

pub at-open-square : At is_open_square (mark (codes "["))
unfolding marks keys
at-open-square t rest h = (t, is-mark is_open_square (codes "[") roles.OpenSquare t (refl, refl, refl, refl) refl refl h, refl)

pub at-close-square : At is_close_square (mark (codes "]"))
unfolding marks keys
at-close-square t rest h = (t, is-mark is_close_square (codes "]") roles.CloseSquare t (refl, refl, refl, refl) refl refl h, refl)

pub at-not : At is_not (word (codes "not"))
unfolding marks keys
at-not t rest h = (t, is-word is_not (codes "not") roles.Not t (refl, refl, refl, refl) refl refl h, refl)

pub at-if : At is_if (word (codes "if"))
unfolding marks keys
at-if t rest h = (t, is-word is_if (codes "if") roles.If t (refl, refl, refl, refl) refl refl h, refl)

pub at-then : At is_then (word (codes "then"))
unfolding marks keys
at-then t rest h = (t, is-word is_then (codes "then") roles.Then t (refl, refl, refl, refl) refl refl h, refl)

pub at-else : At is_else (word (codes "else"))
unfolding marks keys
at-else t rest h = (t, is-word is_else (codes "else") roles.Else t (refl, refl, refl, refl) refl refl h, refl)

-- the token that joins the expressions of a list
joins-comma : (k : ℕ) (t : Token) → joins 0 k (role_of t) ≡ true → Has kinds.Mark (codes ",") t
unfolding marks keys
joins-comma k t h = is-mark (joins 0 k) (codes ",") roles.Comma t (refl, refl, refl, refl) refl refl h

pub at-link : (k : ℕ) (t : Token) (rest : List Token) → joins 0 k (role_of t) ≡ true → mark (codes ",") (t ∷ rest) rest
at-link k t rest h = (t, joins-comma k t h, refl)

pub not-link : (k : ℕ) (t : Token) → joins 0 k (role_of t) ≡ true → is_not (role_of t) ≡ true → ⊥
unfolding marks
not-link k t h is = let other : is_not (role_of t) ≡ false = ap is_not (has-role kinds.Mark (codes ",") t (joins-comma k t h)) in absurd (cc)

-- names, numerals and strings
Plain : (Role → Bool) → Kind → Type 0
Plain P kind = ((kind ≡ kinds.Name) × (P roles.Name ≡ true)) ⊎ (((kind ≡ kinds.Num) × (P roles.Number ≡ true)) ⊎ ((kind ≡ kinds.Str) × (P roles.Text ≡ true)))

plain : (P : Role → Bool) (kind : Kind) (text : List ℕ) → P roles.Unknown ≡ false → texts P keys ≡ [] → texts P marks ≡ [] → P (role_as kind text) ≡ true → Plain P kind
unfolding Plain
plain P kinds.Name text unknown no-key no-mark h = inl (refl, h)
plain P kinds.Num text unknown no-key no-mark h = inr (inl (refl, h))
plain P kinds.Str text unknown no-key no-mark h = inr (inr (refl, h))
plain P kinds.Key text unknown no-key no-mark h = absurd (subst (λ es. IsAmong es text (role_in keys text)) no-key (found P keys text unknown h))
plain P kinds.Mark text unknown no-key no-mark h = absurd (subst (λ es. IsAmong es text (role_in marks text)) no-mark (found P marks text unknown h))
plain P kinds.Dot text unknown no-key no-mark h = absurd (cc)

pub at-leaf : (t : Token) (rest : List Token) → is_leaf (role_of t) ≡ true → (exactly kinds.Name t ∪ exactly kinds.Num t ∪ exactly kinds.Str t) (t ∷ rest) rest
unfolding role_of marks keys Plain
at-leaf t rest h =
    elim (plain is_leaf t.kind t.text refl refl refl h) [
      | inl a ↦ inl (a.0, refl)
      | inr (inl a) ↦ inr (inl (a.0, refl))
      | inr (inr a) ↦ inr (inr (a.0, refl))
    ]

pub is-a-name : (t : Token) → is_name (role_of t) ≡ true → t.kind ≡ kinds.Name
unfolding role_of marks keys Plain
is-a-name t h =
    elim (plain is_name t.kind t.text refl refl refl h) [
      | inl a ↦ a.0
      | inr (inl a) ↦ absurd (let b = a.1 in cc)
      | inr (inr a) ↦ absurd (let b = a.1 in cc)
    ]

pub is-a-number : (t : Token) → is_number (role_of t) ≡ true → t.kind ≡ kinds.Num
unfolding role_of marks keys Plain
is-a-number t h =
    elim (plain is_number t.kind t.text refl refl refl h) [
      | inl a ↦ absurd (let b = a.1 in cc)
      | inr (inl a) ↦ a.0
      | inr (inr a) ↦ absurd (let b = a.1 in cc)
    ]

pub at-name : (t : Token) (rest : List Token) → is_name (role_of t) ≡ true → name t.text (t ∷ rest) rest
at-name t rest h = (t, (is-a-name t h, refl), refl)

-- tokens of which the text decides the meaning
pub at-sign : (t : Token) (rest : List Token) → is_sign (role_of t) ≡ true → sign (is_minus t) (t ∷ rest) rest
unfolding marks keys is_minus
at-sign t rest h =
    go (token-spelled is_sign t (refl, refl, refl, refl) h)
  where
    go : (((t.kind ≡ kinds.Mark) × IsAmong (texts is_sign marks) t.text (role_of t)) ⊎ ((t.kind ≡ kinds.Key) × IsAmong (texts is_sign keys) t.text (role_of t))) → sign (is_minus t) (t ∷ rest) rest
    go (inl (kind, a)) =
        among (texts is_sign marks) t.text (role_of t) (sign (is_minus t) (t ∷ rest) rest) (
          λ e f. subst (λ x. sign (bytes_eq (codes "-") x) (t ∷ rest) rest) (sym e) (t, (kind, e), refl),
          (λ e f. subst (λ x. sign (bytes_eq (codes "-") x) (t ∷ rest) rest) (sym e) (t, (kind, e), refl), tt),
        ) a
    go (inr (kind, a)) = absurd a

pub at-reduction : (t : Token) (rest : List Token) → is_reduction (role_of t) ≡ true → reducer (reduction t) (t ∷ rest) rest
unfolding marks keys reduction
at-reduction t rest h =
    go (token-spelled is_reduction t (refl, refl, refl, refl) h)
  where
    G : List ℕ → Type 0
    G x = reducer (if bytes_eq (codes "min") x then reductions.Min else if bytes_eq (codes "max") x then reductions.Max else reductions.Sum) (t ∷ rest) rest

    go : (((t.kind ≡ kinds.Mark) × IsAmong (texts is_reduction marks) t.text (role_of t)) ⊎ ((t.kind ≡ kinds.Key) × IsAmong (texts is_reduction keys) t.text (role_of t))) → reducer (reduction t) (t ∷ rest) rest
    go (inl (kind, a)) = absurd a
    go (inr (kind, a)) =
        among (texts is_reduction keys) t.text (role_of t) (reducer (reduction t) (t ∷ rest) rest)
        (λ e f. subst G (sym e) (t, (kind, e), refl), (λ e f. subst G (sym e) (t, (kind, e), refl), (λ e f. subst G (sym e) (t, (kind, e), refl), tt))) a

pub at-net : (t : Token) (rest : List Token) → is_net (role_of t) ≡ true → flow (is_outflow t) (t ∷ rest) rest
unfolding marks keys is_outflow
at-net t rest h =
    go (token-spelled is_net t (refl, refl, refl, refl) h)
  where
    go : (((t.kind ≡ kinds.Mark) × IsAmong (texts is_net marks) t.text (role_of t)) ⊎ ((t.kind ≡ kinds.Key) × IsAmong (texts is_net keys) t.text (role_of t))) → flow (is_outflow t) (t ∷ rest) rest
    go (inl (kind, a)) = absurd a
    go (inr (kind, a)) =
        among (texts is_net keys) t.text (role_of t) (flow (is_outflow t) (t ∷ rest) rest) (
          λ e f. subst (λ x. flow (bytes_eq (codes "net_out") x) (t ∷ rest) rest) (sym e) (t, (kind, e), refl),
          (λ e f. subst (λ x. flow (bytes_eq (codes "net_out") x) (t ∷ rest) rest) (sym e) (t, (kind, e), refl), tt),
        ) a
