-- Where a reader stops, the tokens before the stop begin a thing of its kind: some thing that is written as the grammar wants has them first.
use Rattle.std.specs.Prelude.{◌≡◌, ◌≤◌, ℕ, suc, Bool, true, false, cond, [], ◌∷◌, length, Ok, Err}
use Rattle.std.proofs.Common.{refl, sym, ap, ◌∙◌, arith, subst}
use Rattle.net_lex.specs.declared.token.Token.{Token}
use Rattle.net_tree.specs.Role.{role_of}
use Rattle.net_model.specs.declared.model_parser.Awaiting.{Awaiting}
use Rattle.net_model.specs.declared.model_parser.ParseError.{ParseError}
use Rattle.net_model.specs.declared.model_parser.ParseError.TheVariants as stops
use Rattle.net_model.specs.Meaning.{announces}
use Rattle.net_model.specs.Reading.{Tokens, Read, ◌>>=◌, rejected, too_deep}
use Rattle.net_model.proofs.Readers.{put_before, twice-before}

-- how things of a kind are written: their tokens, and which of them are as the grammar wants and nested so deep at most
pub record Written (A : Type 0) : Type 1 where
  pub put : A → Tokens → Tokens
  pub fits : ℕ → A → Type 0
  pub front : (x : A) (v r : Tokens) → put x (put_before v r) ≡ put_before (put x v) r

-- a thing that fits, of which w and then the tokens v are printed first
pub record Begun {A : Type 0} (K : Written A) (k : ℕ) (w : Tokens → Tokens) (v : Tokens) : Type 0 where
  pub thing : A
  pub fits : K.fits k thing
  pub rest : Tokens
  pub text : (r : Tokens) → K.put thing r ≡ w (put_before v (put_before rest r))

-- the same, nested so deep or deeper
abbrev pub Sometime : {A : Type 0} → Written A → ℕ → (Tokens → Tokens) → Tokens → Type 0
Sometime K d w v = (k : ℕ) × (d ≤ k) × Begun K k w v

-- nested so deep at most, or one deeper, where the last word announces a nesting
pub data Shallow {A : Type 0} (K : Written A) (d : ℕ) (w : Tokens → Tokens) (v : Tokens) : Type 0 where
  so_far : Begun K d w v → Shallow K d w v
  announced : (front : Tokens) (word : Token) → put_before front (word ∷ []) ≡ v → announces (role_of word) ≡ true → Begun K d w front → Begun K (suc d) w v → Shallow K d w v

-- the tokens before a refused one
pub record Before {A : Type 0} (K : Written A) (d : ℕ) (w : Tokens → Tokens) (ts : Tokens) (n : ℕ) : Type 0 where
  pub before : Tokens
  pub left : Tokens
  pub text : put_before before left ≡ ts
  pub size : length left ≡ n
  pub begun : Sometime K d w before

-- the tokens before the one that opens a nesting too many
pub record Opening {A : Type 0} (K : Written A) (d : ℕ) (w : Tokens → Tokens) (ts : Tokens) (n : ℕ) : Type 0 where
  pub before : Tokens
  pub token : Token
  pub after : Tokens
  pub text : put_before before (token ∷ after) ≡ ts
  pub size : suc (length after) ≡ n
  pub shallow : Shallow K d w before
  pub goes_on : Sometime K d w (put_before before (token ∷ []))

abbrev pub Mended : {A : Type 0} → Written A → ℕ → (Tokens → Tokens) → Tokens → ParseError → Type 0
Mended K d w ts stops.OutOfMemory = Unit {0}
Mended K d w ts (stops.Rejected n a) = Before K d w ts n
Mended K d w ts (stops.TooDeep n) = Opening K d w ts n

-- where this stops, what was read before it, after w, begins a thing
abbrev pub Mending : {A : Type 0} → Written A → ℕ → (Tokens → Tokens) → Tokens → Read A → Type 0
Mending K d w ts p = (s : ParseError) → p ≡ Err s → Mended K d w ts s

abbrev pub same : Tokens → Tokens
same r = r

-- the readers of parts go on as deep, or one nesting further in
pub data Move : Type 0 where
  here : Move
  inward : Move

abbrev pub moved : Move → ℕ → ℕ
moved here k = k
moved inward k = suc k

moved-le : (m : Move) (d k : ℕ) → d ≤ k → moved m d ≤ moved m k
moved-le here d k h = h
moved-le inward d k h = omega arith

moved-suc : (m : Move) (d : ℕ) → moved m (suc d) ≡ suc (moved m d)
moved-suc here d = refl
moved-suc inward d = refl

-- what ends a part, and then the whole
through : {A B : Type 0} (K : Written A) (L : Written B) (j k : ℕ) (w : Tokens → Tokens) (v : Tokens) → (b : Begun K j same v) → Begun L k (λ r. w (K.put b.thing r)) [] → Begun L k w v
through K L j k w v b c = record {
  thing = c.thing;
  fits = c.fits;
  rest = put_before b.rest c.rest;
  text = λ r. c.text r ∙ ap w (b.text (put_before c.rest r)) ∙ ap (λ k. w (put_before v k)) (sym (twice-before b.rest c.rest r));
}

-- how the whole is ended behind a part
abbrev pub Ended : {A B : Type 0} → Written A → Written B → Move → ℕ → (Tokens → Tokens) → Type 0
Ended {A} K L m d w = (k : ℕ) (x : A) → d ≤ k → K.fits k x → Begun L (moved m k) (λ r. w (K.put x r)) []

sometime : {A B : Type 0} (K : Written A) (L : Written B) (m : Move) (d : ℕ) (w : Tokens → Tokens) (v : Tokens) → Ended K L m d w → Sometime K d same v → Sometime L (moved m d) w v
sometime K L m d w v ends b = (moved m b.0, moved-le m d b.0 b.1, through K L b.0 (moved m b.0) w v b.2 (ends b.0 b.2.thing b.1 b.2.fits))

shallow : {A B : Type 0} (K : Written A) (L : Written B) (m : Move) (d : ℕ) (w : Tokens → Tokens) (v : Tokens) → Ended K L m d w → Shallow K d same v → Shallow L (moved m d) w v
shallow K L m d w v ends (so_far b) = so_far (through K L d (moved m d) w v b (ends d b.thing (omega arith) b.fits))
shallow K L m d w v ends (announced front word is announces b c) =
    let P : ℕ → Type 0 = λ k. Begun L k w v in
    announced front word is announces (through K L d (moved m d) w front b (ends d b.thing (omega arith) b.fits))
    (subst P (moved-suc m d) (through K L (suc d) (moved m (suc d)) w v c (ends (suc d) c.thing (omega arith) c.fits)))

-- a part stops
part-stops : {A B : Type 0} (K : Written A) (L : Written B) (m : Move) (d : ℕ) (w : Tokens → Tokens) (ts : Tokens) (s : ParseError) → Ended K L m d w → Mended K d same ts s → Mended L (moved m d) w ts s
part-stops K L m d w ts stops.OutOfMemory ends h = tt
part-stops K L m d w ts (stops.Rejected n a) ends h = record { before = h.before; left = h.left; text = h.text; size = h.size; begun = sometime K L m d w h.before ends h.begun }
part-stops K L m d w ts (stops.TooDeep n) ends h = record {
  before = h.before;
  token = h.token;
  after = h.after;
  text = h.text;
  size = h.size;
  shallow = shallow K L m d w h.before ends h.shallow;
  goes_on = sometime K L m d w (put_before h.before (h.token ∷ [])) ends h.goes_on;
}

-- what was begun behind a part
behind : {A B : Type 0} (K : Written A) (L : Written B) (k : ℕ) (w : Tokens → Tokens) (x : A) (v : Tokens) → Begun L k (λ r. w (K.put x r)) v → Begun L k w (K.put x v)
behind K L k w x v b = record { thing = b.thing; fits = b.fits; rest = b.rest; text = λ r. b.text r ∙ ap w (K.front x v (put_before b.rest r)) }

behind-shallow : {A B : Type 0} (K : Written A) (L : Written B) (d : ℕ) (w : Tokens → Tokens) (x : A) (v : Tokens) → Shallow L d (λ r. w (K.put x r)) v → Shallow L d w (K.put x v)
behind-shallow K L d w x v (so_far b) = so_far (behind K L d w x v b)
behind-shallow K L d w x v (announced front word is announces b c) =
    announced (K.put x front) word (sym (K.front x front (word ∷ [])) ∙ ap (K.put x) is) announces (behind K L d w x front b) (behind K L (suc d) w x v c)

-- what follows a part stops
pub rest-stops : {A B : Type 0} (K : Written A) (L : Written B) (d : ℕ) (w : Tokens → Tokens) (x : A) (ts r : Tokens) (s : ParseError) → ts ≡ K.put x r → Mended L d (λ r. w (K.put x r)) r s → Mended L d w ts s
rest-stops K L d w x ts r stops.OutOfMemory is h = tt
rest-stops K L d w x ts r (stops.Rejected n a) is h = record {
  before = K.put x h.before;
  left = h.left;
  text = sym (K.front x h.before h.left) ∙ ap (K.put x) h.text ∙ sym is;
  size = h.size;
  begun = (h.begun.0, h.begun.1, behind K L h.begun.0 w x h.before h.begun.2);
}
rest-stops K L d w x ts r (stops.TooDeep n) is h = record {
  before = K.put x h.before;
  token = h.token;
  after = h.after;
  text = sym (K.front x h.before (h.token ∷ h.after)) ∙ ap (K.put x) h.text ∙ sym is;
  size = h.size;
  shallow = behind-shallow K L d w x h.before h.shallow;
  goes_on = (h.goes_on.0, h.goes_on.1, rw (← K.front x h.before (h.token ∷ [])) (behind K L h.goes_on.0 w x (put_before h.before (h.token ∷ [])) h.goes_on.2));
}

-- a part and what follows it
pub record After {A B : Type 0} (K : Written A) (L : Written B) (d : ℕ) (w : Tokens → Tokens) (ts : Tokens) (x : A × Tokens) (p : Read B) : Type 0 where
  pub text : ts ≡ K.put x.0 x.1
  pub mends : Mending L d (λ r. w (K.put x.0 r)) x.1 p

pub then_mends : {A B : Type 0} (K : Written A) (L : Written B) (m : Move) (d : ℕ) (w : Tokens → Tokens) (ts : Tokens) (p : Read A) (g : A × Tokens → Read B)
    → Mending K d same ts p
    → ((s : ParseError) → p ≡ Err s → Ended K L m d w)
    → ((x : A × Tokens) → p ≡ Ok x → After K L (moved m d) w ts x (g x))
    → Mending L (moved m d) w ts (p >>= g)
then_mends K L m d w ts (Ok x) g first ends after s h = let b = after x refl in rest-stops K L (moved m d) w x.0 ts x.1 s b.text (b.mends s h)
then_mends {A} K L m d w ts (Err t) g first ends after s h =
    let e : t ≡ s = cc in
    let k : (let r : Read A = Err t in r ≡ Err s) = ap Err e in
    part-stops K L m d w ts s (ends t refl) (first s k)

-- and where what follows only tells what was read
pub last_mends : {A B : Type 0} (K : Written A) (L : Written B) (m : Move) (d : ℕ) (w : Tokens → Tokens) (ts : Tokens) (p : Read A) (g : A × Tokens → Read B)
    → Mending K d same ts p
    → ((s : ParseError) → p ≡ Err s → Ended K L m d w)
    → ((x : A × Tokens) (s : ParseError) → g x ≡ Err s → ⊥)
    → Mending L (moved m d) w ts (p >>= g)
last_mends K L m d w ts (Ok x) g first ends reads s h = absurd (reads x s h)
last_mends {A} K L m d w ts (Err t) g first ends reads s h =
    let e : t ≡ s = cc in
    let k : (let r : Read A = Err t in r ≡ Err s) = ap Err e in
    part-stops K L m d w ts s (ends t refl) (first s k)

pub choose_mends : {A : Type 0} (K : Written A) (d : ℕ) (w : Tokens → Tokens) (ts : Tokens) (b : Bool) (p q : Read A)
    → (b ≡ true → Mending K d w ts p) → (b ≡ false → Mending K d w ts q) → Mending K d w ts (cond b p q)
choose_mends K d w ts true p q on' off' = on' refl
choose_mends K d w ts false p q on' off' = off' refl

pub read_mends : {A : Type 0} (K : Written A) (d : ℕ) (w : Tokens → Tokens) (ts : Tokens) (x : A × Tokens) → Mending K d w ts (Ok x)
read_mends K d w ts x s h = absurd (cc)

pub rejected_mends : {A : Type 0} (K : Written A) (d : ℕ) (w : Tokens → Tokens) (ts : Tokens) (a : Awaiting) → Sometime K d w [] → Mending K d w ts (rejected a ts)
rejected_mends K d w ts a b s h =
    let e : stops.Rejected (length ts) a ≡ s = cc in
    subst (Mended K d w ts) e (record { before = []; left = ts; text = refl; size = refl; begun = b })

pub opens_mends : {A : Type 0} (K : Written A) (d : ℕ) (w : Tokens → Tokens) (t : Token) (ts : Tokens) → Begun K d w [] → Sometime K d w (t ∷ []) → Mending K d w (t ∷ ts) (too_deep (t ∷ ts))
opens_mends K d w t ts b more s h =
    let e : stops.TooDeep (length (t ∷ ts)) ≡ s = cc in
    subst (Mended K d w (t ∷ ts)) e (record { before = []; token = t; after = ts; text = refl; size = refl; shallow = so_far b; goes_on = more })

-- one token is any part
abbrev a_token : Written Token
a_token = record { put = λ t r. t ∷ r; fits = λ k t. Unit {0}; front = λ t v r. refl }

pub passed_mends : {A : Type 0} (K : Written A) (d : ℕ) (w : Tokens → Tokens) (t : Token) (ts : Tokens) (p : Read A) → Mending K d (λ r. w (t ∷ r)) ts p → Mending K d w (t ∷ ts) p
passed_mends K d w t ts p after s h = rest-stops a_token K d w t (t ∷ ts) ts s refl (after s h)

-- what fits the one way fits the other
recast : {A : Type 0} (K L : Written A) → ((k : ℕ) (x : A) → K.fits k x → L.fits k x) → ((x : A) (r : Tokens) → L.put x r ≡ K.put x r)
    → (k : ℕ) (w : Tokens → Tokens) (v : Tokens) → Begun K k w v → Begun L k w v
recast K L fits text k w v b = record { thing = b.thing; fits = fits k b.thing b.fits; rest = b.rest; text = λ r. text b.thing r ∙ b.text r }

recast-shallow : {A : Type 0} (K L : Written A) → ((k : ℕ) (x : A) → K.fits k x → L.fits k x) → ((x : A) (r : Tokens) → L.put x r ≡ K.put x r)
    → (d : ℕ) (w : Tokens → Tokens) (v : Tokens) → Shallow K d w v → Shallow L d w v
recast-shallow K L fits text d w v (so_far b) = so_far (recast K L fits text d w v b)
recast-shallow K L fits text d w v (announced front word is announces b c) = announced front word is announces (recast K L fits text d w front b) (recast K L fits text (suc d) w v c)

pub recast_mends : {A : Type 0} (K L : Written A) → ((k : ℕ) (x : A) → K.fits k x → L.fits k x) → ((x : A) (r : Tokens) → L.put x r ≡ K.put x r)
    → (d : ℕ) (w : Tokens → Tokens) (ts : Tokens) (p : Read A) → Mending K d w ts p → Mending L d w ts p
recast_mends K L fits text d w ts p mends s h = by s (mends s h)
  where
    by : (s : ParseError) → Mended K d w ts s → Mended L d w ts s
    by stops.OutOfMemory m = tt
    by (stops.Rejected n a) m = record { before = m.before; left = m.left; text = m.text; size = m.size; begun = (m.begun.0, m.begun.1, recast K L fits text m.begun.0 w m.before m.begun.2) }
    by (stops.TooDeep n) m = record {
      before = m.before;
      token = m.token;
      after = m.after;
      text = m.text;
      size = m.size;
      shallow = recast-shallow K L fits text d w m.before m.shallow;
      goes_on = (m.goes_on.0, m.goes_on.1, recast K L fits text m.goes_on.0 w (put_before m.before (m.token ∷ [])) m.goes_on.2);
    }

-- and a token in between
pub with_token : {A : Type 0} (L : Written A) (k : ℕ) (w : Tokens → Tokens) (t : Token) → Begun L k (λ r. w (t ∷ r)) [] → Begun L k w []
with_token L k w t b = record { thing = b.thing; fits = b.fits; rest = t ∷ b.rest; text = b.text }
