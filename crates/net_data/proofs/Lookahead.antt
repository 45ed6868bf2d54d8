-- What is read does not depend on tokens behind the one at which the reading stops, or behind the next one where it goes on.
use Rattle.std.proofs.Common.{◌≡◌, Bool, true, false, List, [], ◌∷◌, ◌++◌, Option, Some, Result, Ok, Err, refl, ap, sym, ◌∙◌, append_assoc}
use Rattle.std.specs.Prelude.{if◌then◌else◌}
use Rattle.net_base.specs.declared.diagnostic.Span.{Span}
use Rattle.net_lex.specs.declared.token.Token.{Token}
use Rattle.net_base.specs.declared.error_code.ErrorCode.TheVariants.{DataSyntax}
use Rattle.net_data.specs.declared.data_parser.ParseError.{ParseError}
use Rattle.net_data.specs.Tests.{is_comma}
use Rattle.net_data.specs.Reading.{Read, ◌>>=◌}

-- ---- what two results are, if they are one

ok_is : {A : Type 0} (p q : A × List Token) → (let r : Read A = Ok p in r ≡ Ok q) → p ≡ q
ok_is p q h = cc

some_is : (p q : Token × List Token) → (let o : Option (Token × List Token) = Some p in o ≡ Some q) → p ≡ q
some_is p q h = cc

pub never : {A P : Type 0} (x : A) (e : ParseError) → (let r : Result A ParseError = Ok x in r ≡ Err e) → P
never x e h = absurd (cc)

pub never_ok : {A P : Type 0} (x : A) (e : ParseError) → (let r : Result A ParseError = Err e in r ≡ Ok x) → P
never_ok x e h = absurd (cc)

pub ok_parts : {A : Type 0} (x y : A) (ts us : List Token) → (let r : Read A = Ok (x, ts) in r ≡ Ok (y, us)) → (x ≡ y) × (ts ≡ us)
ok_parts x y ts us h = let both = ok_is (x, ts) (y, us) h in (ap (λ p. p.0) both, ap (λ p. p.1) both)

pub some_parts : (x y : Token) (ts us : List Token) → (let o : Option (Token × List Token) = Some (x, ts) in o ≡ Some (y, us)) → (x ≡ y) × (ts ≡ us)
some_parts x y ts us h = let both = some_is (x, ts) (y, us) h in (ap (λ p. p.0) both, ap (λ p. p.1) both)

pub err_is : {A : Type 0} (d e : ParseError) → (let r : Result A ParseError = Err d in r ≡ Err e) → d ≡ e
err_is d e h = cc

pub place_is : (x y : Span) → (let o : Option Span = Some x in o ≡ Some y) → x ≡ y
place_is x y h = cc

-- ---- the commas at the front, and the next token

abbrev pub looked : List Token → List Token
looked [] = []
looked (t ∷ ts) = if is_comma t then t ∷ looked ts else t ∷ []

pub looked_join : (xs ys zs : List Token) → looked ys ≡ looked zs → looked (xs ++ ys) ≡ looked (xs ++ zs)
looked_join [] ys zs e = e
looked_join (t ∷ xs) ys zs e = ap (λ (l : List Token). if is_comma t then t ∷ l else t ∷ []) (looked_join xs ys zs e)

pub looked_token : (t : Token) (ys zs : List Token) → is_comma t ≡ false → looked (t ∷ ys) ≡ looked (t ∷ zs)
looked_token t ys zs i = ap (λ b. if b then t ∷ looked ys else t ∷ []) i ∙ sym (ap (λ b. if b then t ∷ looked zs else t ∷ []) i)

pub looked_nothing : (xs : List Token) → looked xs ≡ [] → xs ≡ []
looked_nothing [] e = refl
looked_nothing (t ∷ ts) e = go (is_comma t) e
  where
    go : (b : Bool) → (if b then t ∷ looked ts else t ∷ []) ≡ [] → t ∷ ts ≡ []
    go true i = absurd (let h = i in cc)
    go false i = absurd (let h = i in cc)

pub record Begins (xs : List Token) (t : Token) : Type 0 where
  pub behind : List Token
  pub is : xs ≡ t ∷ behind

pub looked_begins : (xs : List Token) (t : Token) (ts : List Token) → is_comma t ≡ false → looked xs ≡ looked (t ∷ ts) → Begins xs t
looked_begins xs t ts i e = begins xs (e ∙ ap (λ b. if b then t ∷ looked ts else t ∷ []) i)
  where
    begins : (ys : List Token) → looked ys ≡ t ∷ [] → Begins ys t
    begins [] k = absurd (let h = k in cc)
    begins (y ∷ ys) k = go (is_comma y) k
      where
        go : (b : Bool) → (if b then y ∷ looked ys else y ∷ []) ≡ t ∷ [] → Begins (y ∷ ys) t
        go true j = let same : y ≡ t = cc in record { behind = ys; is = ap (λ z. z ∷ ys) same }
        go false j = let same : y ≡ t = cc in record { behind = ys; is = ap (λ z. z ∷ ys) same }

-- ---- a reading, and where it depends on no more

pub record StopsAt {B : Type 0} (f : List Token → Result B ParseError) (tokens : List Token) (e : ParseError) (span : Span) : Type 0 where
  pub front : List Token
  pub token : Token
  pub more : List Token
  pub parts : tokens ≡ front ++ token ∷ more
  pub at : token.span ≡ span
  pub looks : (ys zs : List Token) → looked (front ++ token ∷ ys) ≡ looked (front ++ token ∷ zs)
  pub always : (other : List Token) → f (front ++ token ∷ other) ≡ Err e

-- at the token at which it stops
abbrev pub Stops : {B : Type 0} → (List Token → Result B ParseError) → List Token → Type 0
Stops f tokens = (e : ParseError) → f tokens ≡ Err e → e.error_code ≡ DataSyntax → (span : Span) → e.at ≡ Some span → StopsAt f tokens e span

pub record PassesOn {A : Type 0} (f : List Token → Read A) (tokens : List Token) (x : A) (rest : List Token) : Type 0 where
  pub front : List Token
  pub parts : tokens ≡ front ++ rest
  pub always : (other : List Token) → looked other ≡ looked rest → f (front ++ other) ≡ Ok (x, other)

abbrev pub Passes : {A : Type 0} → (List Token → Read A) → List Token → Type 0
Passes f tokens = (x : _) (rest : List Token) → f tokens ≡ Ok (x, rest) → PassesOn f tokens x rest

pub record Local {A : Type 0} (f : List Token → Read A) (tokens : List Token) : Type 0 where
  pub stops : Stops f tokens
  pub passes : Passes f tokens

-- ---- one reading behind the other

pub record Failed {A B : Type 0} (read : Result A ParseError) (k : A → Result B ParseError) (e : ParseError) : Type 0 where
  pub value : A
  pub first : read ≡ Ok value
  pub stopped : k value ≡ Err e

bind_err : {A B P : Type 0} (read : Result A ParseError) (k : A → Result B ParseError) (e : ParseError) → (read >>= k) ≡ Err e → (read ≡ Err e → P) → (Failed read k e → P) → P
bind_err (Ok x) k e h p q = q (record { value = x; first = refl; stopped = h })
bind_err {A} (Err d) k e h p q = p (ap (λ z. let r : Result A ParseError = Err z in r) (err_is d e h))

record Followed {A B : Type 0} (read : Result A ParseError) (k : A → Result B ParseError) (y : B) : Type 0 where
  pub value : A
  pub first : read ≡ Ok value
  pub behind : k value ≡ Ok y

bind_ok : {A B : Type 0} (read : Result A ParseError) (k : A → Result B ParseError) (y : B) → (read >>= k) ≡ Ok y → Followed read k y
bind_ok (Ok x) k y h = record { value = x; first = refl; behind = h }
bind_ok (Err e) k y h = absurd (cc)

pub bind_stops : {A B : Type 0} (f : List Token → Read A) (k : A × List Token → Result B ParseError) (tokens : List Token) → Local f tokens → ((x : A) (rest : List Token) → f tokens ≡ Ok (x, rest) → Stops (λ ts. k (x, ts)) rest) → Stops (λ ts. f ts >>= k) tokens
bind_stops f k tokens l behind e h d span at = bind_err (f tokens) k e h at_first at_second
  where
    at_first : f tokens ≡ Err e → StopsAt (λ ts. f ts >>= k) tokens e span
    at_first i =
        let s = l.stops e i d span at in
        record { front = s.front; token = s.token; more = s.more; parts = s.parts; at = s.at; looks = s.looks; always = λ other. ap (λ r. r >>= k) (s.always other) }

    at_second : Failed (f tokens) k e → StopsAt (λ ts. f ts >>= k) tokens e span
    at_second i =
        let p = l.passes i.value.0 i.value.1 i.first in
        let s = behind i.value.0 i.value.1 i.first e i.stopped d span at in
        record {
          front = p.front ++ s.front;
          token = s.token;
          more = s.more;
          parts = p.parts ∙ ap (λ (ts : List Token). p.front ++ ts) s.parts ∙ sym (append_assoc p.front s.front (s.token ∷ s.more));
          at = s.at;
          looks = λ ys zs.
              ap looked (append_assoc p.front s.front (s.token ∷ ys))
              ∙ looked_join p.front (s.front ++ s.token ∷ ys) (s.front ++ s.token ∷ zs) (s.looks ys zs)
              ∙ sym (ap looked (append_assoc p.front s.front (s.token ∷ zs)));
          always = λ other.
              ap (λ ts. f ts >>= k) (append_assoc p.front s.front (s.token ∷ other))
              ∙ ap (λ r. r >>= k) (p.always (s.front ++ s.token ∷ other) (s.looks other s.more ∙ ap looked (sym s.parts)))
              ∙ s.always other;
        }

pub bind_local : {A B : Type 0} (f : List Token → Read A) (k : A × List Token → Read B) (tokens : List Token) → Local f tokens → ((x : A) (rest : List Token) → f tokens ≡ Ok (x, rest) → Local (λ ts. k (x, ts)) rest) → Local (λ ts. f ts >>= k) tokens
bind_local f k tokens l behind = record {
  stops = bind_stops f k tokens l (λ x rest i. (behind x rest i).stops);
  passes = λ y rest h.
      let i = bind_ok (f tokens) k (y, rest) h in
      let p = l.passes i.value.0 i.value.1 i.first in
      let q = (behind i.value.0 i.value.1 i.first).passes y rest i.behind in
      record {
        front = p.front ++ q.front;
        parts = p.parts ∙ ap (λ (ts : List Token). p.front ++ ts) q.parts ∙ sym (append_assoc p.front q.front rest);
        always = λ other look.
            ap (λ ts. f ts >>= k) (append_assoc p.front q.front other)
            ∙ ap (λ r. r >>= k) (p.always (q.front ++ other) (looked_join q.front other rest look ∙ ap looked (sym q.parts)))
            ∙ q.always other look;
      };
}

pub same_local : {A : Type 0} (f g : List Token → Read A) (tokens : List Token) → ((ts : List Token) → f ts ≡ g ts) → Local g tokens → Local f tokens
same_local f g tokens same l = record {
  stops = λ e h d span at.
      let s = l.stops e (sym (same tokens) ∙ h) d span at in
      record { front = s.front; token = s.token; more = s.more; parts = s.parts; at = s.at; looks = s.looks; always = λ other. same (s.front ++ s.token ∷ other) ∙ s.always other };
  passes = λ x rest h.
      let p = l.passes x rest (sym (same tokens) ∙ h) in
      record { front = p.front; parts = p.parts; always = λ other look. same (p.front ++ other) ∙ p.always other look };
}

pub pure_local : {A : Type 0} (x : A) (tokens : List Token) → Local (λ ts. let r : Read A = Ok (x, ts) in r) tokens
pure_local {A} x tokens = record {
  stops = λ e h d span at. absurd (let i = h in cc);
  passes = λ y rest h.
      let both = ok_parts x y tokens rest h in
      record { front = []; parts = both.1; always = λ other look. ap (λ z. let r : Read A = Ok (z, other) in r) both.0 };
}

-- what does not come from the tokens, and is no fault of syntax
pub const_local : {U B : Type 0} (r : Result U ParseError) (k : U → List Token → Read B) (tokens : List Token) → ((e : ParseError) → r ≡ Err e → e.error_code ≡ DataSyntax → ⊥) → ((u : U) → Local (k u) tokens) → Local (λ ts. r >>= (λ u. k u ts)) tokens
const_local (Ok u) k tokens never l = l u
const_local {U} (Err d) k tokens never l = record {
  stops = λ e h s span at. absurd (never e (ap (λ z. let r : Result U ParseError = Err z in r) (err_is d e h)) s);
  passes = λ y rest h. absurd (let i = h in cc);
}
