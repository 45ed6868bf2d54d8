-- No two lists of tokens read one text, and no text that is read has a fault.
use Rattle.std.proofs.Common.{◌≡◌, ℕ, ◌+◌, ◌≤◌, List, [], ◌∷◌, ◌++◌, length, take, drop, Result, Ok, refl, sym, ap, ◌∙◌, arith, subst, length-append, take_at, drop_at}
use Rattle.std.proofs.lemmas.List.{append_cancel_right}
use Rattle.net_base.specs.declared.diagnostic.Language.{Language}
use Rattle.net_lex.specs.declared.token.Kind.{Kind}
use Rattle.net_lex.specs.declared.token.Token.{Token}
use Rattle.net_lex.specs.Gaps.{IsLastGap}
use Rattle.net_lex.specs.Tokens.{Allows}
use Rattle.net_lex.specs.Reading.{IsLongest, IsNext, StandIn, EndsInGap}
use Rattle.net_lex.proofs.GapPasses.{last_passes}
use Rattle.net_lex.proofs.Unique.{next_skips, kind_unique, allowed_some}

pub ok_same : {A B : Type 0} (x y : A) → ◌≡◌ {A = Result A B} (Ok x) (Ok y) → x ≡ y
ok_same x y e = cc

-- the longest tokens at one place are one
pub longest_same : (language : Language) (k l : Kind) (x y after behind : List ℕ) → IsLongest language k x after → IsLongest language l y behind → x ++ after ≡ y ++ behind
    → (x ≡ y) × (after ≡ behind) × (k ≡ l)
longest_same language k l x y after behind p q e =
    let most : length y ≤ length x = p.longest l y behind e q.allowed in
    let least : length x ≤ length y = q.longest k x after (sym e) p.allowed in
    let len : length x ≡ length y = omega arith in
    let same : x ≡ y = sym (take_at x after (length x) refl) ∙ (ap (take (length x)) e ∙ take_at y behind (length x) (sym len)) in
    let rest : after ≡ behind = sym (drop_at x after (length x) refl) ∙ (ap (drop (length x)) e ∙ drop_at y behind (length x) (sym len)) in
    (same, rest, kind_unique language k l y (subst (Allows language k) same p.allowed) q.allowed)

abbrev token_of : Kind → List ℕ → ℕ → ℕ → Token
token_of kind text start end = record { kind = kind; text = text; span = record { start = start; end = end } }

-- the next token is one
pub next_same : (language : Language) (at : ℕ) (rest : List ℕ) (t u : Token) (gap hole after behind : List ℕ) → IsNext language at rest t gap after → IsNext language at rest u hole behind
    → (t ≡ u) × (after ≡ behind)
next_same language at rest t u gap hole after behind p q =
    let skips : t.text ++ after ≡ u.text ++ behind = ok_same _ _ (sym (next_skips language at rest t gap after p) ∙ next_skips language at rest u hole behind q) in
    let same = longest_same language t.kind u.kind t.text u.text after behind p.longest q.longest skips in
    let gaps : gap ≡ hole = append_cancel_right gap hole (t.text ++ after) (sym p.joined ∙ (q.joined ∙ ap (λ x. hole ++ x) (sym skips))) in
    let start : t.span.start ≡ u.span.start = p.start ∙ (ap (λ g. at + length g) gaps ∙ sym q.start) in
    let end : t.span.end ≡ u.span.end = omega (arith, p.end, q.end, ap length gaps, ap length same.0) in
    (token_same t u same.2 same.0 start end, same.1)
  where
    token_same : (t u : Token) → t.kind ≡ u.kind → t.text ≡ u.text → t.span.start ≡ u.span.start → t.span.end ≡ u.span.end → t ≡ u
    token_same t u k x s e =
        ap (λ a. token_of a t.text t.span.start t.span.end) k ∙ (ap (λ a. token_of u.kind a t.span.start t.span.end) x
        ∙ (ap (λ a. token_of u.kind u.text a t.span.end) s ∙ ap (λ a. token_of u.kind u.text u.span.start a) e))

-- at the end of a text no token comes
pub last_no_next : (language : Language) (at : ℕ) (rest : List ℕ) (t : Token) (gap after : List ℕ) → IsLastGap rest → IsNext language at rest t gap after → ⊥
last_no_next language at rest t gap after last next =
    let none : [] ≡ t.text ++ after = ok_same _ _ (sym (last_passes rest last) ∙ next_skips language at rest t gap after next) in
    omega (arith, ap length none, length-append t.text after, allowed_some language t.kind t.text next.longest.allowed)

pub reads_same : (language : Language) (at : ℕ) (rest : List ℕ) (ts us : List Token)
    → StandIn (IsNext language) EndsInGap at rest ts → StandIn (IsNext language) EndsInGap at rest us → ts ≡ us
reads_same language at rest [] [] p q = refl
reads_same language at rest [] (u ∷ us) p (hole, behind, next, tail) = absurd (last_no_next language at rest u hole behind p next)
reads_same language at rest (t ∷ ts) [] (gap, after, next, tail) q = absurd (last_no_next language at rest t gap after q next)
reads_same language at rest (t ∷ ts) (u ∷ us) (gap, after, next, tail) (hole, behind, other, more) =
    let same = next_same language at rest t u gap hole after behind next other in
    let there : StandIn (IsNext language) EndsInGap t.span.end after us =
    subst (λ k. StandIn (IsNext language) EndsInGap k after us) (sym (ap (λ (x : Token). x.span.end) same.0))
    (subst (λ r. StandIn (IsNext language) EndsInGap u.span.end r us) (sym same.1) more) in
    ap (λ x. x ∷ ts) same.0 ∙ ap (λ xs. u ∷ xs) (reads_same language t.span.end after ts us tail there)
