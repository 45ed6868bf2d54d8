-- A reader looks at no token behind the one at which it stops: two texts that begin alike, up to that token, are refused alike.
use Rattle.std.specs.Prelude.{◌≡◌, ◌≤◌, ◌<◌, ◌+◌, Bool, true, false, cond, [], ◌∷◌, length, Ok, Err}
use Rattle.std.proofs.Common.{refl, ap, ◌∙◌, arith}
use Rattle.net_lex.specs.declared.token.Token.{Token}
use Rattle.net_tree.specs.declared.role.Role.{Role}
use Rattle.net_tree.specs.Role.{role_of}
use Rattle.net_model.specs.declared.expected.Expected.{Expected}
use Rattle.net_model.specs.declared.model_parser.Awaiting.{Awaiting}
use Rattle.net_model.specs.declared.model_parser.ParseError.TheVariants as stops
use Rattle.net_model.specs.Meaning.{opens}
use Rattle.net_model.specs.Reading.{Tokens, Read, ◌>>=◌, read_as, rejected, too_deep, next_is, is_sort, expect}

-- a token, and two ways to go on behind it
pub record Fork : Type 0 where
  pub token : Token
  pub rest : Tokens
  pub other : Tokens

abbrev pub put_before : Tokens → Tokens → Tokens
put_before [] l = l
put_before (t ∷ v) l = t ∷ put_before v l

-- the two texts, with the same tokens before the fork
abbrev pub left : Fork → Tokens → Tokens
left f v = put_before v (f.token ∷ f.rest)

abbrev pub right : Fork → Tokens → Tokens
right f v = put_before v (f.token ∷ f.other)

length-before : (v l : Tokens) → length (put_before v l) ≡ length v + length l
length-before [] l = omega arith
length-before (t ∷ v) l = omega (arith, length-before v l)

pub lengths : (f : Fork) (v w : Tokens) → length (left f w) ≤ length (left f v) → length (right f w) ≤ length (right f v)
lengths f v w h =
    omega (arith, length-before v (f.token ∷ f.rest), length-before w (f.token ∷ f.rest), length-before v (f.token ∷ f.other), length-before w (f.token ∷ f.other))

pub lengths-strict : (f : Fork) (v w : Tokens) → length (left f w) < length (left f v) → length (right f w) < length (right f v)
lengths-strict f v w h =
    omega (arith, length-before v (f.token ∷ f.rest), length-before w (f.token ∷ f.rest), length-before v (f.token ∷ f.other), length-before w (f.token ∷ f.other))

pub left-some : (f : Fork) (v : Tokens) → length f.rest < length (left f v)
left-some f v = omega (arith, length-before v (f.token ∷ f.rest))

pub right-some : (f : Fork) (v : Tokens) → 0 < length (right f v)
right-some f v = omega (arith, length-before v (f.token ∷ f.other))

-- the last of these tokens, so many
abbrev pub IsTail : Tokens → Tokens → Type 0
IsTail r ts = (before : Tokens) × (put_before before r ≡ ts)

pub tail-self : (ts : Tokens) → IsTail ts ts
tail-self ts = ([], refl)

pub tail-next : (t : Token) (ts : Tokens) → IsTail ts (t ∷ ts)
tail-next t ts = (t ∷ [], refl)

pub twice-before : (b c r : Tokens) → put_before (put_before b c) r ≡ put_before b (put_before c r)
twice-before [] c r = refl
twice-before (t ∷ b) c r = ap (λ k. t ∷ k) (twice-before b c r)

tail-tail : (q r ts : Tokens) → IsTail q r → IsTail r ts → IsTail q ts
tail-tail q r ts h k = (put_before k.0 h.0, twice-before k.0 h.0 q ∙ ap (put_before k.0) h.1 ∙ k.1)

pub tail-length : (r ts : Tokens) → IsTail r ts → length r ≤ length ts
tail-length r ts h = omega (arith, length-before h.0 r, ap length h.1)

-- what is left, or the place of the stop, is among these tokens; a nesting too many is opened by a token that opens one
abbrev pub Within : {A : Type 0} → Tokens → Read A → Type 0
Within ts (Ok x) = IsTail x.1 ts
Within ts (Err stops.OutOfMemory) = ⊥
Within ts (Err (stops.Rejected n a)) = n ≤ length ts
Within ts (Err (stops.TooDeep n)) = (rest : Tokens) × IsTail rest ts × (length rest ≡ n) × (next_is opens rest ≡ true)

pub within-le : {A : Type 0} (r ts : Tokens) (p : Read A) → IsTail r ts → Within r p → Within ts p
within-le r ts (Ok x) less h = tail-tail x.1 r ts h less
within-le r ts (Err stops.OutOfMemory) less h = absurd h
within-le r ts (Err (stops.Rejected k a)) less h = omega (arith, tail-length r ts less, h)
within-le r ts (Err (stops.TooDeep k)) less h = (h.0, tail-tail h.0 r ts h.1 less, h.2, h.3)

pub bind-within : {A B : Type 0} (ts : Tokens) (p : Read A) (g : A × Tokens → Read B) → Within ts p → ((x : A × Tokens) → IsTail x.1 ts → Within ts (g x)) → Within ts (p >>= g)
bind-within ts (Ok x) g h more = more x h
bind-within ts (Err stops.OutOfMemory) g h more = absurd h
bind-within ts (Err (stops.Rejected k a)) g h more = h
bind-within ts (Err (stops.TooDeep k)) g h more = h

-- what comes of the two texts: the same before the fork, or on the left the fork's token was passed
pub data Out {A : Type 0} (f : Fork) (p q : Read A) : Type 0 where
  reads : (x : A) (w : Tokens) → p ≡ Ok (x, left f w) → q ≡ Ok (x, right f w) → Out f p q
  rejects : (a : Awaiting) (w : Tokens) → p ≡ Err (stops.Rejected (length (left f w)) a) → q ≡ Err (stops.Rejected (length (right f w)) a) → Out f p q
  deepens : (w : Tokens) → p ≡ Err (stops.TooDeep (length (left f w))) → q ≡ Err (stops.TooDeep (length (right f w))) → Out f p q
  passed : Within f.rest p → Out f p q

moved : {A : Type 0} (f : Fork) (p p' q q' : Read A) → p ≡ p' → q ≡ q' → Out f p' q' → Out f p q
moved f p p' q q' e e' (reads x w h h') = reads x w (e ∙ h) (e' ∙ h')
moved f p p' q q' e e' (rejects a w h h') = rejects a w (e ∙ h) (e' ∙ h')
moved f p p' q q' e e' (deepens w h h') = deepens w (e ∙ h) (e' ∙ h')
moved f p p' q q' e e' (passed h) = passed (rw e h)

pub bind-out : {A B : Type 0} (f : Fork) (p q : Read A) (g k : A × Tokens → Read B) → Out f p q
    → ((x : A) (w : Tokens) → p ≡ Ok (x, left f w) → Out f (g (x, left f w)) (k (x, right f w)))
    → ((x : A × Tokens) → Within x.1 (g x)) → Out f (p >>= g) (q >>= k)
bind-out f p q g k (reads x w e e') more over = moved f (p >>= g) (g (x, left f w)) (q >>= k) (k (x, right f w)) (ap (λ z. z >>= g) e) (ap (λ z. z >>= k) e') (more x w e)
bind-out f p q g k (rejects a w e e') more over = rejects a w (ap (λ z. z >>= g) e) (ap (λ z. z >>= k) e')
bind-out f p q g k (deepens w e e') more over = deepens w (ap (λ z. z >>= g) e) (ap (λ z. z >>= k) e')
bind-out f p q g k (passed h) more over = passed (bind-within f.rest p g h (λ x less. within-le x.1 f.rest (g x) less (over x)))

pub choose-out : {A : Type 0} (f : Fork) (b c : Bool) (p q p' q' : Read A) → b ≡ c → Out f p p' → Out f q q' → Out f (cond b p q) (cond c p' q')
choose-out f true true p q p' q' e on' off' = on'
choose-out f false false p q p' q' e on' off' = off'
choose-out f true false p q p' q' e on' off' = absurd (cc)
choose-out f false true p q p' q' e on' off' = absurd (cc)

pub choose-within : {A : Type 0} (m : Tokens) (b : Bool) (p q : Read A) → Within m p → Within m q → Within m (cond b p q)
choose-within m true p q h k = h
choose-within m false p q h k = k

pub next-same : (test : Role → Bool) (f : Fork) (v : Tokens) → next_is test (left f v) ≡ next_is test (right f v)
next-same test f [] = refl
next-same test f (t ∷ v) = refl

pub record IsReader {A : Type 0} (p : Tokens → Read A) : Type 0 where
  pub within : (ts : Tokens) → Within ts (p ts)
  pub local : (f : Fork) (v : Tokens) → Out f (p (left f v)) (p (right f v))

pub reading : {A : Type 0} (x : A) → IsReader (λ ts. read_as x ts)
reading x = record { within = tail-self; local = λ f v. reads x v refl refl }

pub refusing : {A : Type 0} (a : Awaiting) → IsReader {A = A} (λ ts. rejected a ts)
refusing a = record { within = λ ts. omega arith; local = λ f v. rejects a v refl refl }

pub binding : {A B : Type 0} (p : Tokens → Read A) (g : A × Tokens → Read B) → IsReader p → ((x : A) → IsReader (λ ts. g (x, ts))) → IsReader (λ ts. p ts >>= g)
binding p g first after = record {
  within = λ ts. bind-within ts (p ts) g (first.within ts) (λ x less. within-le x.1 ts (g x) less ((after x.0).within x.1));
  local = λ f v. bind-out f (p (left f v)) (p (right f v)) g g (first.local f v) (λ x w e. (after x).local f w) (λ x. (after x.0).within x.1);
}

pub testing : {A : Type 0} (test : Tokens → Bool) (p q : Tokens → Read A) → ((f : Fork) (v : Tokens) → test (left f v) ≡ test (right f v)) → IsReader p → IsReader q
    → IsReader (λ ts. cond (test ts) (p ts) (q ts))
testing test p q same on' off' = record {
  within = λ ts. choose-within ts (test ts) (p ts) (q ts) (on'.within ts) (off'.within ts);
  local = λ f v. choose-out f (test (left f v)) (test (right f v)) (p (left f v)) (q (left f v)) (p (right f v)) (q (right f v)) (same f v) (on'.local f v) (off'.local f v);
}

pub nexting : {A : Type 0} (test : Role → Bool) (p q : Tokens → Read A) → IsReader p → IsReader q → IsReader (λ ts. cond (next_is test ts) (p ts) (q ts))
nexting test p q on' off' = testing (next_is test) p q (next-same test) on' off'

-- a nesting too many, where the next token opens one
pub opening : {A : Type 0} (test : Role → Bool) (q : Tokens → Read A) → ((r : Role) → test r ≡ true → opens r ≡ true) → IsReader q → IsReader (λ ts. cond (next_is test ts) (too_deep ts) (q ts))
opening test q only other = record {
  within = λ ts. by ts (next_is test ts) refl;
  local = λ f v. choose-out f (next_is test (left f v)) (next_is test (right f v)) (too_deep (left f v)) (q (left f v)) (too_deep (right f v)) (q (right f v)) (next-same test f v) (deepens v refl refl) (other.local f v);
}
  where
    opened : (ts : Tokens) → next_is test ts ≡ true → next_is opens ts ≡ true
    opened [] h = absurd (cc)
    opened (t ∷ ts) h = only (role_of t) h

    by : (ts : Tokens) (b : Bool) → next_is test ts ≡ b → Within ts (cond b (too_deep ts) (q ts))
    by ts true h = (ts, tail-self ts, refl, opened ts h)
    by ts false h = other.within ts

-- a reader that takes the first token, or stops at it
pub data Head {A : Type 0} (t : Token) (p : Tokens → Read A) : Type 0 where
  takes : IsReader p → Head t p
  rejects_it : (a : Awaiting) → ((ts : Tokens) → p ts ≡ rejected a (t ∷ ts)) → Head t p
  deepens_it : opens (role_of t) ≡ true → ((ts : Tokens) → p ts ≡ too_deep (t ∷ ts)) → Head t p

pub heading : {A : Type 0} (a : Awaiting) (p : Tokens → Read A) → p [] ≡ rejected a [] → ((t : Token) → Head t (λ ts. p (t ∷ ts))) → IsReader p
heading a p none head = record { within = all; local = forks }
  where
    one : (t : Token) (ts : Tokens) → Head t (λ ts. p (t ∷ ts)) → Within (t ∷ ts) (p (t ∷ ts))
    one t ts (takes h) = within-le ts (t ∷ ts) (p (t ∷ ts)) (tail-next t ts) (h.within ts)
    one t ts (rejects_it b e) = rw (e ts) (omega arith)
    one t ts (deepens_it o e) = rw (e ts) (t ∷ ts, tail-self (t ∷ ts), refl, o)

    all : (ts : Tokens) → Within ts (p ts)
    all [] = rw none (omega arith)
    all (t ∷ ts) = one t ts (head t)

    here : (f : Fork) → Head f.token (λ ts. p (f.token ∷ ts)) → Out f (p (f.token ∷ f.rest)) (p (f.token ∷ f.other))
    here f (takes h) = passed (h.within f.rest)
    here f (rejects_it b e) = rejects b [] (e f.rest) (e f.other)
    here f (deepens_it o e) = deepens [] (e f.rest) (e f.other)

    before : (f : Fork) (t : Token) (v : Tokens) → Head t (λ ts. p (t ∷ ts)) → Out f (p (t ∷ left f v)) (p (t ∷ right f v))
    before f t v (takes h) = h.local f v
    before f t v (rejects_it b e) = rejects b (t ∷ v) (e (left f v)) (e (right f v))
    before f t v (deepens_it o e) = deepens (t ∷ v) (e (left f v)) (e (right f v))

    forks : (f : Fork) (v : Tokens) → Out f (p (left f v)) (p (right f v))
    forks f [] = here f (head f.token)
    forks f (t ∷ v) = before f t v (head t)

expect-head : (s : Expected) (a : Awaiting) (t : Token) (b : Bool) → is_sort s (role_of t) ≡ b → Head t (λ ts. expect s a (t ∷ ts))
unfolding expect
expect-head s a t true e = takes (record { within = λ ts. rw e (tail-self ts); local = λ f v. rw e (reads t v refl refl) })
expect-head s a t false e = rejects_it a (λ ts. rw e refl)

pub expecting : (s : Expected) (a : Awaiting) → IsReader (expect s a)
unfolding expect
expecting s a = heading a (expect s a) refl (λ t. expect-head s a t (is_sort s (role_of t)) refl)
