-- What is read as a chain is printed so, and is as the grammar wants.
use Rattle.std.specs.Prelude.{◌≡◌, ◌≤◌, ◌<◌, ℕ, zero, suc, Bool, true, false, cond, nat_eq, [], ◌∷◌, length, Ok}
use Rattle.std.proofs.Common.{refl, ap, ◌∙◌, arith, subst}
use Rattle.std.proofs.lemmas.Bool.{eqb-true}
use Rattle.net_tree.specs.declared.operator.OperatorWords.{OperatorWords as Operator}
use Rattle.net_tree.specs.declared.operator.OperatorWords.TheVariants.{One, Two}
use Rattle.net_tree.specs.declared.role.Role.{Role}
use Rattle.net_tree.specs.declared.role.Role.TheVariants as roles
use Rattle.net_tree.specs.Role.{role_of, is_not}
use Rattle.net_tree.specs.Tree.{Tree, Links, none, link}
use Rattle.net_tree.specs.Print.{put, put_links, put_operator}
use Rattle.net_tree.specs.Depth.{depth, links_depth}
use Rattle.net_tree.specs.WellFormed.{precedence, room, joins, head_of, IsOperator, IsWellFormed, AreWellFormed}
use Rattle.net_model.specs.declared.expected.Expected.TheVariants as sorts
use Rattle.net_model.specs.declared.model_parser.Awaiting.TheVariants as awaiting
use Rattle.net_model.specs.Reading.{Tokens, Read, read_as, next_is}
use Rattle.net_model.specs.Expressions.{Reader, operator_at, links, chained, chain_at, climb}
use Rattle.net_model.proofs.Tools.{bind_ok, given, chosen, on, off, expect-sound}
use Rattle.net_model.proofs.Longer.{put-longer, put_operator-longer}

-- A reader read x with r left: x is what is printed before r, as the grammar wants, of a precedence that fits, and so deep at most; behind an open reduction
-- no product goes on.
pub record Sound (d : ℕ) (Fits : ℕ → Type 0) (ts : Tokens) (a : Tree × Tokens) : Type 0 where
  pub text : ts ≡ put a.0 a.1
  pub level : IsWellFormed a.0
  pub within : depth a.0 ≤ d
  pub fits : Fits (precedence a.0)
  pub ended : precedence a.0 ≡ 1 → next_is (joins 1 0) a.1 ≡ false

abbrev pub IsSound : ℕ → (ℕ → Type 0) → Reader → Type 0
IsSound d Fits p = (ts : Tokens) (a : Tree × Tokens) → p ts ≡ Ok a → Sound d Fits ts a

abbrev pub UpTo : ℕ → ℕ → Type 0
UpTo n r = r ≤ n

pub record SoundOperator (ts : Tokens) (a : Operator × Tokens) : Type 0 where
  pub text : ts ≡ put_operator a.0 a.1
  pub level : IsOperator a.0

pub operator-sound : (ts : Tokens) (a : Operator × Tokens) → operator_at ts ≡ Ok a → SoundOperator ts a
unfolding operator_at
operator-sound [] a h = absurd (cc)
operator-sound (t ∷ ts) a h =
    elim (chosen (is_not (role_of t)) _ _ _ h) [
      | on b e ↦
          let u = bind_ok _ _ _ e in
          let m = expect-sound sorts.Membership awaiting.Other ts u.value u.first in
          given (λ y. SoundOperator (t ∷ ts) y) (Two t u.value.0, u.value.1) a u.after (record { text = ap (λ k. t ∷ k) m.text; level = (b, m.sort) })
      | off b e ↦ given (λ y. SoundOperator (t ∷ ts) y) (One t, ts) a e (record { text = refl; level = b })
    ]

pub joins_product : (j k : ℕ) (r : Role) → joins 1 j r ≡ joins 1 k r
joins_product j k roles.Comma = refl
joins_product j k _ = refl

next_product : (k : ℕ) (o : Operator) (r : Tokens) → next_is (joins 1 0) (put_operator o r) ≡ false → joins 1 k (role_of (head_of o)) ≡ true → ⊥
next_product k (One t) r ended joined = let e = joins_product 0 k (role_of t) in cc
next_product k (Two t u) r ended joined = let e = joins_product 0 k (role_of t) in cc

-- an operand before further links of a product is closed
pub room-fits : (j n k : ℕ) (l : Links) (x : Tree) (r : Tokens) → (n ≡ 1 → j ≡ 1) → precedence x ≤ n → (precedence x ≡ 1 → next_is (joins 1 0) (put_links l r) ≡ false)
    → AreWellFormed j n k l → precedence x ≤ room n l
room-fits j n k none x r own fits ended level = fits
room-fits j n k (link o y l) x r own fits ended level = by (nat_eq n 1) refl
  where
    closed : n ≡ 1 → (precedence x ≡ 1 → ⊥)
    closed e f =
        let J : ℕ → Type 0 = λ m. joins m k (role_of (head_of o)) ≡ true in
        next_product k o (put y (put_links l r)) (ended f) (subst J (own e) level.0)

    by : (b : Bool) → nat_eq n 1 ≡ b → precedence x ≤ cond b 0 n
    by true e = let same : n ≡ 1 = eqb-true n 1 e in let not_one : precedence x ≡ 1 → ⊥ = closed same in omega (arith, not_one)
    by false e = fits

pub record SoundLinks (d j n k : ℕ) (ts : Tokens) (a : Links × Tokens) : Type 0 where
  pub text : ts ≡ put_links a.0 a.1
  pub level : AreWellFormed j n k a.0
  pub within : links_depth a.0 ≤ d
  pub count : ℕ
  pub done : next_is (joins j count) a.1 ≡ false

empty_of : (ts : Tokens) → length ts ≤ 0 → ts ≡ []
empty_of [] h = refl
empty_of (t ∷ ts) h = absurd (omega arith)

pub links-sound : (d j n : ℕ) (p : Reader) → IsSound d (UpTo n) p → (n ≡ 1 → j ≡ 1)
    → (turns k : ℕ) (ts : Tokens) (a : Links × Tokens) → length ts ≤ turns → links turns j k p ts ≡ Ok a → SoundLinks d j n k ts a
links-sound d j n p sound own zero k ts a enough h =
    let nothing = empty_of ts enough in
    given (λ y. SoundLinks d j n k ts y) (none, ts) a h (record { text = refl; level = tt; within = omega arith; count = 0; done = rw nothing refl })
links-sound d j n p sound own (suc turns) k ts a enough h =
    elim (chosen (next_is (joins j k) ts) _ _ _ h) [
      | on b e ↦
          let o = bind_ok _ _ _ e in
          let so = operator-sound ts o.value o.first in
          let x = bind_ok _ _ _ o.after in
          let sx = sound o.value.1 x.value x.first in
          let fewer : length x.value.1 ≤ turns = omega (arith, ap length so.text, ap length sx.text, put_operator-longer o.value.0 o.value.1, put-longer x.value.0 x.value.1) in
          let l = bind_ok _ _ _ x.after in
          let sl = links-sound d j n p sound own turns (suc k) x.value.1 l.value fewer l.first in
          more o.value.0 o.value.1 x.value l.value b so sx sl l.after
      | off b e ↦ given (λ y. SoundLinks d j n k ts y) (none, ts) a e (record { text = refl; level = tt; within = omega arith; count = k; done = b })
    ]
  where
    head_joins : (o : Operator) (r : Tokens) → next_is (joins j k) (put_operator o r) ≡ true → joins j k (role_of (head_of o)) ≡ true
    head_joins (One t) r q = q
    head_joins (Two t u) r q = q

    more : (o : Operator) (r : Tokens) (x : Tree × Tokens) (l : Links × Tokens) → next_is (joins j k) ts ≡ true → SoundOperator ts (o, r) → Sound d (UpTo n) r x
        → SoundLinks d j n (suc k) x.1 l → (let w : Read Links = read_as (link o x.0 l.0) l.1 in w ≡ Ok a) → SoundLinks d j n k ts a
    more o r x l b so sx sl e =
        let ended : precedence x.0 ≡ 1 → next_is (joins 1 0) (put_links l.0 l.1) ≡ false = λ f. rw (← sl.text) (sx.ended f) in
        given (λ y. SoundLinks d j n k ts y) (link o x.0 l.0, l.1) a e (record {
          text = so.text ∙ ap (put_operator o) (sx.text ∙ ap (put x.0) sl.text);
          level = (head_joins o r (rw so.text at b), so.level, sx.level, room-fits j n (suc k) l.0 x.0 l.1 own sx.fits ended sl.level, sl.level);
          within = omega (arith, sx.within, sl.within);
          count = sl.count;
          done = sl.done;
        })

-- links behind a first operand: alone, or a chain
pub chained-sound : (d n : ℕ) (x : Tree) (r : Tokens) (ts : Tokens) (l : Links) (rest : Tokens) → 0 < n → n < 10
    → Sound d (UpTo n) ts (x, r) → SoundLinks d n n 0 r (l, rest) → Sound d (UpTo (suc n)) ts (chained n x l, rest)
chained-sound d n x r ts none rest low high sx sl = record {
  text = sx.text ∙ ap (put x) sl.text;
  level = sx.level;
  within = sx.within;
  fits = omega (arith, sx.fits);
  ended = λ e. rw (← sl.text) (sx.ended e);
}
chained-sound d n x r ts (link o y l) rest low high sx sl =
    let ended : precedence x ≡ 1 → next_is (joins 1 0) (put_links (link o y l) rest) ≡ false = λ f. rw (← sl.text) (sx.ended f) in
    record {
      text = sx.text ∙ ap (put x) sl.text;
      level = (low, high, sx.level, room-fits n n 0 (link o y l) x rest (λ e. e) sx.fits ended sl.level, tt, sl.level);
      within = omega (arith, sx.within, sl.within);
      fits = omega arith;
      ended = λ e. absurd (omega arith);
    }

-- and behind what was read no operator of the chain comes
pub record SoundChain (d n : ℕ) (ts : Tokens) (a : Tree × Tokens) : Type 0 where
  pub sound : Sound d (UpTo (suc n)) ts a
  pub count : ℕ
  pub done : next_is (joins n count) a.1 ≡ false

pub chain-sound : (d n : ℕ) (p : Reader) → 0 < n → n < 10 → IsSound d (UpTo n) p → (ts : Tokens) (a : Tree × Tokens) → chain_at n p ts ≡ Ok a → SoundChain d n ts a
unfolding chain_at
chain-sound d n p low high sound ts a h =
    let x = bind_ok _ _ _ h in
    let sx = sound ts x.value x.first in
    let l = bind_ok _ _ _ x.after in
    let sl = links-sound d n n p sound (λ e. e) (length x.value.1) 0 x.value.1 l.value (omega arith) l.first in
    given (λ y. SoundChain d n ts y) (chained n x.value.0 l.value.0, l.value.1) a l.after (record {
      sound = chained-sound d n x.value.0 x.value.1 ts l.value.0 l.value.1 low high sx sl;
      count = sl.count;
      done = sl.done;
    })

pub climb-sound : (d n : ℕ) (u : Reader) → 0 < n → n ≤ 10 → IsSound d (UpTo 1) u → IsSound d (UpTo n) (climb n u)
unfolding climb
climb-sound d zero u low high sound = absurd (omega arith)
climb-sound d (suc zero) u low high sound = sound
climb-sound d (suc (suc n)) u low high sound =
    λ ts a h. (chain-sound d (suc n) (climb (suc n) u) (omega arith) (omega arith) (climb-sound d (suc n) u (omega arith) (omega arith) sound) ts a h).sound
