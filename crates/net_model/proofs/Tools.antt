-- Reading in steps, taken apart and put together.
use Rattle.std.specs.Prelude.{◌≡◌, Bool, true, false, cond, [], ◌∷◌, Result, Ok, Err}
use Rattle.std.proofs.Common.{refl, subst}
use Rattle.net_lex.specs.declared.token.Token.{Token}
use Rattle.net_tree.specs.declared.role.Role.{Role}
use Rattle.net_tree.specs.Role.{role_of}
use Rattle.net_model.specs.declared.expected.Expected.{Expected}
use Rattle.net_model.specs.declared.model_parser.Awaiting.{Awaiting}
use Rattle.net_model.specs.declared.model_parser.ParseError.{ParseError}
use Rattle.net_model.specs.Reading.{Tokens, ◌>>=◌, next_is, is_sort, expect}

-- the parts of what is read in two steps
pub record Bound {A B : Type 0} (read : Result A ParseError) (f : A → Result B ParseError) (y : B) : Type 0 where
  pub value : A
  pub first : read ≡ Ok value
  pub after : f value ≡ Ok y

pub bind_ok : {A B : Type 0} (read : Result A ParseError) (f : A → Result B ParseError) (y : B) → (read >>= f) ≡ Ok y → Bound read f y
bind_ok (Ok x) f y h = record { value = x; first = refl; after = h }
bind_ok (Err e) f y h = absurd (cc)

pub ok_is : {A : Type 0} (x y : A) → (let r : Result A ParseError = Ok x in r ≡ Ok y) → x ≡ y
ok_is x y h = cc

-- what holds of the one answer holds of the other
pub given : {A : Type 0} (P : A → Type 0) (x y : A) → (let r : Result A ParseError = Ok x in r ≡ Ok y) → P x → P y
given P x y h p = subst P (ok_is x y h) p

-- which of the two a test chose
pub data Chosen {A : Type 0} (b : Bool) (x y z : A) : Type 0 where
  on : b ≡ true → x ≡ z → Chosen b x y z
  off : b ≡ false → y ≡ z → Chosen b x y z

pub chosen : {A : Type 0} (b : Bool) (x y z : A) → cond b x y ≡ z → Chosen b x y z
chosen true x y z h = on refl h
chosen false x y z h = off refl h

-- a token that is awaited
pub record IsMet (s : Expected) (ts : Tokens) (x : Token × Tokens) : Type 0 where
  pub text : ts ≡ x.0 ∷ x.1
  pub sort : is_sort s (role_of x.0) ≡ true

pub expect-sound : (s : Expected) (a : Awaiting) (ts : Tokens) (x : Token × Tokens) → expect s a ts ≡ Ok x → IsMet s ts x
unfolding expect
expect-sound s a [] x h = absurd (cc)
expect-sound s a (t ∷ ts) x h =
    elim (chosen (is_sort s (role_of t)) _ _ _ h) [
      | on b e ↦ given (λ y. IsMet s (t ∷ ts) y) (t, ts) x e (record { text = refl; sort = b })
      | off b e ↦ absurd (let k = e in cc)
    ]

pub expect-complete : (s : Expected) (a : Awaiting) (t : Token) (ts : Tokens) → is_sort s (role_of t) ≡ true → expect s a (t ∷ ts) ≡ Ok (t, ts)
unfolding expect
expect-complete s a t ts h = rw h refl

-- a token that comes next
pub record Next (test : Role → Bool) (ts : Tokens) : Type 0 where
  pub token : Token
  pub rest : Tokens
  pub text : ts ≡ token ∷ rest
  pub passes : test (role_of token) ≡ true

pub next : (test : Role → Bool) (ts : Tokens) → next_is test ts ≡ true → Next test ts
next test [] h = absurd (cc)
next test (t ∷ ts) h = record { token = t; rest = ts; text = refl; passes = h }
