-- Productions of the grammar and printed tokens.
use Rattle.std.proofs.Common.{◌≡◌, ℕ, Bool, true, false, cond, List, [], ◌∷◌, ◌++◌, Option, Some, None, refl, ap, sym, ◌∙◌, codes, ◌⊎◌, inl, inr}
use Rattle.std.specs.List.{list_all}
use Rattle.std.specs.Str.{bytes_eq}
use Rattle.std.proofs.lemmas.Bool.{and_parts, and_from}
use Rattle.std.proofs.lemmas.Slice.Eq.{bytes_eq-Decides}
use Rattle.net_lex.specs.declared.token.Kind.{Kind}
use Rattle.net_lex.specs.declared.token.Kind.TheVariants.{Name, Key, Num, Str, Mark, Dot}
use Rattle.net_lex.specs.declared.token.Token.{Token}
use Rattle.net_lex.specs.Productions.{◌⨾◌, token}
use Rattle.net_data.specs.Commas.{TokenPlace, place_after, skips, bare}
use Rattle.net_data.specs.Tests.{names, stands_for_member, fills_cell, marks, is_name, is_member, is_cell, is_word, is_mark, is_comma}
use Rattle.net_data.specs.Reading.{front}
use Rattle.net_data.specs.Grammar.{Production, many, each, provided, comma, spaced, IsMember}
use Rattle.net_data.proofs.Bare.{next, nothing}
use Rattle.net_data.proofs.Steps.{Moves}

-- a production derives, from one place to another, exactly what this function prints if this fact holds
pub record Agrees (P : Production) (here there : TokenPlace) (print : List Token → List Token) (Fact : Type 0) : Type 0 where
  pub sound : (tokens rest : List Token) → P tokens rest → (bare here tokens ≡ print (bare there rest)) × Fact
  pub complete : (tokens more : List Token) → Fact → bare here tokens ≡ print more → (rest : List Token) × P tokens rest × (bare there rest ≡ more)

pub then : {P Q : Production} {a b c : TokenPlace} {f g : List Token → List Token} {F G : Type 0} → Agrees P a b f F → Agrees Q b c g G → Agrees (P ⨾ Q) a c (λ ts. f (g ts)) (F × G)
then {f} {g} p q = record {
  sound = λ tokens rest (middle, x, y).
      let u = p.sound tokens middle x in let v = q.sound middle rest y in (u.0 ∙ ap f v.0, (u.1, v.1));
  complete = λ tokens more (x, y) h.
      let u = p.complete tokens (g more) x h in let v = q.complete u.0 more y u.2 in (v.0, (u.0, u.1, v.1), v.2);
}

-- the same, with an equivalent fact
pub restated : {P : Production} {a b : TokenPlace} {f : List Token → List Token} {F G : Type 0} → Agrees P a b f F → (F → G) → (G → F) → Agrees P a b f G
restated p to from = record {
  sound = λ tokens rest x. let u = p.sound tokens rest x in (u.0, to u.1);
  complete = λ tokens more x h. p.complete tokens more (from x) h;
}

pub only : (a : TokenPlace) (C : Type 0) → Agrees (provided C) a a (λ ts. ts) C
only a C = record {
  sound = λ tokens rest (x, same). (ap (bare a) same, x);
  complete = λ tokens more x h. (tokens, (x, refl), h);
}

-- the tests of a kind and text, as equations
kind_is_name : (kind : Kind) → names kind ≡ true → kind ≡ Name
kind_is_name Name h = refl
kind_is_name Key h = absurd (cc)
kind_is_name Num h = absurd (cc)
kind_is_name Str h = absurd (cc)
kind_is_name Mark h = absurd (cc)
kind_is_name Dot h = absurd (cc)

kind_is_mark : (kind : Kind) → marks kind ≡ true → kind ≡ Mark
kind_is_mark Name h = absurd (cc)
kind_is_mark Key h = absurd (cc)
kind_is_mark Num h = absurd (cc)
kind_is_mark Str h = absurd (cc)
kind_is_mark Mark h = refl
kind_is_mark Dot h = absurd (cc)

kind_is_member : (kind : Kind) → stands_for_member kind ≡ true → (kind ≡ Name) ⊎ (kind ≡ Num) ⊎ (kind ≡ Str)
kind_is_member Name h = inl refl
kind_is_member Key h = absurd (cc)
kind_is_member Num h = inr (inl refl)
kind_is_member Str h = inr (inr refl)
kind_is_member Mark h = absurd (cc)
kind_is_member Dot h = absurd (cc)

kind_is_cell : (kind : Kind) → fills_cell kind ≡ true → ((kind ≡ Name) ⊎ (kind ≡ Num) ⊎ (kind ≡ Str)) ⊎ (kind ≡ Dot)
kind_is_cell Name h = inl (inl refl)
kind_is_cell Key h = absurd (cc)
kind_is_cell Num h = inl (inr (inl refl))
kind_is_cell Str h = inl (inr (inr refl))
kind_is_cell Mark h = absurd (cc)
kind_is_cell Dot h = inr refl

-- a test of a token, and the property that it decides
pub record Decides (test : Token → Bool) (P : Token → Type 0) : Type 0 where
  pub to : (t : Token) → test t ≡ true → P t
  pub from : (t : Token) → P t → test t ≡ true

pub decides_name : Decides is_name (λ t. t.kind ≡ Name)
decides_name = record { to = λ t. kind_is_name t.kind; from = λ t h. rw h refl }

pub decides_member : Decides is_member IsMember
decides_member = record {
  to = λ t. kind_is_member t.kind;
  from = λ t h. elim h [ inl a ↦ rw a refl | inr b ↦ elim b [ inl c ↦ rw c refl | inr d ↦ rw d refl ] ];
}

pub decides_cell : Decides is_cell (λ t. IsMember t ⊎ (t.kind ≡ Dot))
decides_cell = record {
  to = λ t. kind_is_cell t.kind;
  from = λ t h. elim h [ inl m ↦ elim m [ inl a ↦ rw a refl | inr b ↦ elim b [ inl c ↦ rw c refl | inr d ↦ rw d refl ] ] | inr e ↦ rw e refl ];
}

pub decides_word : (text : List ℕ) → Decides (is_word text) (λ t. (t.kind ≡ Name) × (t.text ≡ text))
decides_word text = record {
  to = λ t h. let parts = and_parts (names t.kind) (bytes_eq text t.text) h in (kind_is_name t.kind parts.0, sym ((bytes_eq-Decides text t.text).0 parts.1));
  from = λ t (k, e). and_from (names t.kind) (bytes_eq text t.text) (rw k refl) ((bytes_eq-Decides text t.text).1 (sym e));
}

pub decides_mark : (text : List ℕ) → Decides (is_mark text) (λ t. (t.kind ≡ Mark) × (t.text ≡ text))
decides_mark text = record {
  to = λ t h. let parts = and_parts (marks t.kind) (bytes_eq text t.text) h in (kind_is_mark t.kind parts.0, sym ((bytes_eq-Decides text t.text).0 parts.1));
  from = λ t (k, e). and_from (marks t.kind) (bytes_eq text t.text) (rw k refl) ((bytes_eq-Decides text t.text).1 (sym e));
}

-- skipped commas are not printed
pub commas_bare : (place : TokenPlace) (tokens rest : List Token) → skips place ≡ true → many comma tokens rest → bare place tokens ≡ bare place rest
commas_bare place tokens rest outside many.none = refl
commas_bare place tokens rest outside (many.more {middle} (t, is, same) commas) =
    let comma : is_comma t ≡ true = (decides_mark (codes ",")).from t is in
    let left = commas_bare place middle rest outside commas in
    let here : bare place (t ∷ middle) ≡ bare place rest = rw (outside, comma) left in
    ap (bare place) same ∙ here

-- a pair as a list
listed : (p q : Token × List Token) → (let o : Option (Token × List Token) = Some p in o ≡ Some q) → p.0 ∷ p.1 ≡ q.0 ∷ q.1
listed p q h = let same : p ≡ q = cc in ap (λ (x : Token × List Token). x.0 ∷ x.1) same

front_commas_at : (u t : Token) (tokens rest : List Token) (b : Bool) → is_comma u ≡ b → (front tokens ≡ Some (t, rest) → many comma tokens (t ∷ rest)) → cond b (front tokens) (Some (u, tokens)) ≡ Some (t, rest) → many comma (u ∷ tokens) (t ∷ rest)
front_commas_at u t tokens rest true is behind k = many.more (u, (decides_mark (codes ",")).to u is, refl) (behind k)
front_commas_at u t tokens rest false is behind k = rw (listed (u, tokens) (t, rest) k) many.none

front_commas : (tokens rest : List Token) (t : Token) → front tokens ≡ Some (t, rest) → many comma tokens (t ∷ rest)
front_commas [] rest t h = absurd (cc)
front_commas (u ∷ tokens) rest t h = front_commas_at u t tokens rest (is_comma u) refl (front_commas tokens rest t) h

end_commas_at : (u : Token) (tokens : List Token) (b : Bool) → is_comma u ≡ b → (front tokens ≡ None → many comma tokens []) → cond b (front tokens) (Some (u, tokens)) ≡ None → many comma (u ∷ tokens) []
end_commas_at u tokens true is behind k = many.more (u, (decides_mark (codes ",")).to u is, refl) (behind k)
end_commas_at u tokens false is behind k = absurd (cc)

front_none_commas : (tokens : List Token) → front tokens ≡ None → many comma tokens []
front_none_commas [] h = many.none
front_none_commas (u ∷ tokens) h = end_commas_at u tokens (is_comma u) refl (front_none_commas tokens) h

-- if no other tokens are left
pub end_commas : (place : TokenPlace) (tokens : List Token) → skips place ≡ true → bare place tokens ≡ [] → many comma tokens []
end_commas place tokens outside h = front_none_commas tokens (nothing place tokens outside h)

-- commas, and then the first token that is printed
pub record Skips (place : TokenPlace) (tokens : List Token) (t : Token) (more : List Token) : Type 0 where
  pub rest : List Token
  pub commas : many comma tokens (t ∷ rest)
  pub left : bare (place_after place t) rest ≡ more

pub skip : (place : TokenPlace) (tokens more : List Token) (t : Token) → skips place ≡ true → bare place tokens ≡ t ∷ more → Skips place tokens t more
skip place tokens more t outside h = let n = next place tokens more t outside h in record { rest = n.rest; commas = front_commas tokens n.rest t n.front; left = n.left }

-- a token that the grammar derives passes its test
pub a_token : {test : Token → Bool} {P : Token → Type 0} {here there : TokenPlace} (t : Token) → Decides test P → Moves here there test → (test t ≡ true → is_comma t ≡ false)
    → Agrees (spaced (token P) (t ∷ [])) here there (λ ts. t ∷ ts) (test t ≡ true)
a_token {test} {P} {here} {there} t d m no_comma = record {
  sound = λ tokens rest ((u, is, same), commas).
      let one : t ≡ u = cc in
      let pass : test t ≡ true = d.from t (rw one is) in
      let keep = no_comma pass in
      let moved = m.moves t pass in
      let out = m.skips in
      let first : bare here (t ∷ rest) ≡ t ∷ bare there rest = rw (keep, out, moved) refl in
      (commas_bare here tokens (t ∷ rest) m.skips commas ∙ first, pass);
  complete = λ tokens more pass h.
      let s = skip here tokens more t m.skips h in
      let left : bare there s.rest ≡ more = rw (sym (m.moves t pass)) s.left in
      (s.rest, ((t, d.to t pass, refl), s.commas), left);
}

pub nothing_agrees : (a : TokenPlace) → Agrees (λ ts rest. ts ≡ rest) a a (λ ts. ts) (Unit {0})
nothing_agrees a = record { sound = λ tokens rest same. (ap (bare a) same, tt); complete = λ tokens more x h. (tokens, refl, h) }

pub tokens_agree : {test : Token → Bool} {P : Token → Type 0} {a : TokenPlace} (xs : List Token) → Decides test P → Moves a a test → ((t : Token) → test t ≡ true → is_comma t ≡ false)
    → Agrees (each (λ t. spaced (token P) (t ∷ [])) xs) a a (λ ts. xs ++ ts) (list_all test xs ≡ true)
tokens_agree {a} [] d m no_comma = restated (nothing_agrees a) (λ x. refl) (λ x. tt)
tokens_agree {test} (x ∷ xs) d m no_comma = restated (then (a_token x d m (no_comma x)) (tokens_agree xs d m no_comma)) (λ (h, k). and_from (test x) (list_all test xs) h k) (λ h. and_parts (test x) (list_all test xs) h)
