-- Where a node's condition stops, the tokens before the stop begin one.
use Rattle.std.specs.Prelude.{◌≡◌, ◌≤◌, ℕ, Bool, true, false, cond, [], ◌∷◌, Option, None}
use Rattle.std.proofs.Common.{refl, ap, ◌∙◌, arith, inl, inr}
use Rattle.net_lex.specs.declared.token.Token.{Token}
use Rattle.net_tree.specs.Role.{role_of, is_colon, is_bound}
use Rattle.net_tree.specs.Tree.{Tree, net, Condition, unsaid, one, between}
use Rattle.net_tree.specs.Print.{put, put_condition}
use Rattle.net_tree.specs.Depth.{depth, condition_depth}
use Rattle.net_tree.specs.Conditions.{IsSum, IsNetSum, IsCondition}
use Rattle.net_model.specs.declared.expected.Expected.TheVariants as sorts
use Rattle.net_model.specs.declared.model_parser.Awaiting.TheVariants as awaiting
use Rattle.net_model.specs.Reading.{Tokens, ◌>>=◌, read_as, rejected, next_is, expect}
use Rattle.net_model.specs.Expressions.{Inner, climb, unary}
use Rattle.net_model.specs.Conditions.{chains, sum_at, high_at, middle_at, bounded_at, said_at, condition_at}
use Rattle.net_model.proofs.Tools.{expect-complete}
use Rattle.net_model.proofs.LinksSound.{UpTo}
use Rattle.net_model.proofs.TreesSound.{unary-sound}
use Rattle.net_model.proofs.ConditionLaws.{chains-order, order-bounds}
use Rattle.net_model.proofs.Readers.{put_before}
use Rattle.net_model.proofs.Mending.{Written, Begun, Mending, here, same, then_mends, last_mends, choose_mends, read_mends, rejected_mends, passed_mends, with_token}
use Rattle.net_model.proofs.Fillers.{filler, fills, a_name, a_name_level, tree, put-front}
use Rattle.net_model.proofs.MendingLinks.{Mends, expect_then, climb-mends}
use Rattle.net_model.proofs.MendingInside.{Mendable}
use Rattle.net_model.proofs.MendingTerms.{Sum, sum_kind, sum-whole, sum-mends}

pub put_condition-front : (c : Condition) (v r : Tokens) → put_condition c (put_before v r) ≡ put_before (put_condition c v) r
put_condition-front unsaid v r = refl
put_condition-front (one m x o y) v r = ap (λ k. m ∷ put x (o ∷ k)) (put-front y v r) ∙ ap (λ k. m ∷ k) (put-front x (o ∷ put y v) r)
put_condition-front (between m x o y p z) v r =
    ap (λ k. m ∷ put x (o ∷ put y (p ∷ k))) (put-front z v r)
    ∙ ap (λ k. m ∷ put x (o ∷ k)) (put-front y (p ∷ put z v) r)
    ∙ ap (λ k. m ∷ k) (put-front x (o ∷ put y (p ∷ put z v)) r)

abbrev pub condition_of : Written Condition
condition_of = record { put = put_condition; fits = λ k c. IsCondition c × (condition_depth c ≤ k); front = put_condition-front }

-- behind the first sum and a bound
bound_begun : (k : ℕ) (m : Token) (x : Tree) (free : Bool) (p : Token) → is_colon (role_of m) ≡ true → Sum k (x, free) → is_bound (role_of p) ≡ true → Begun condition_of k (λ r. m ∷ put x (p ∷ r)) []
bound_begun k m x true p colon s bound = record {
  thing = one m x p (net None (filler sorts.Net));
  fits = ((colon, bound, inr (s.sum, (tt, fills sorts.Net))), omega (arith, s.within));
  rest = filler sorts.Net ∷ [];
  text = λ r. refl;
}
bound_begun k m x false p colon s bound = record {
  thing = one m x p a_name;
  fits = ((colon, bound, inl (s.sum, (a_name_level, omega arith))), omega (arith, s.within));
  rest = filler sorts.Name ∷ [];
  text = λ r. refl;
}

-- and behind the second sum
second_begun : (k : ℕ) (m : Token) (x : Tree) (p : Token) (y : Tree) (free : Bool) → is_colon (role_of m) ≡ true → IsSum x → depth x ≤ k → is_bound (role_of p) ≡ true → Sum k (y, free)
    → Begun condition_of k (λ r. m ∷ put x (p ∷ put y r)) []
second_begun k m x p y true colon sx deep bound s =
    let g = s.goes_on refl in
    record {
      thing = one m x p g.sum;
      fits = ((colon, bound, inr (sx, g.nets)), omega (arith, deep, g.within));
      rest = g.rest;
      text = λ r. ap (λ q. m ∷ put x (p ∷ q)) (g.text r);
    }
second_begun k m x p y false colon sx deep bound s =
    record { thing = one m x p y; fits = ((colon, bound, inr (sx, s.sum)), omega (arith, deep, s.within)); rest = []; text = λ r. refl }

high-mends : (d : ℕ) (o : Option Inner) → Mendable d o → (m : Token) (x : Tree) (p : Token) (y : Tree) → is_colon (role_of m) ≡ true → IsSum x → depth x ≤ d → is_bound (role_of p) ≡ true → IsNetSum y → depth y ≤ d
    → (ts : Tokens) → Mending condition_of d (λ r. m ∷ put x (p ∷ put y r)) ts (high_at o m x p y ts)
unfolding high_at
high-mends d o mendable m x p y colon sx deep bound sy deep' [] = read_mends condition_of d (λ r. m ∷ put x (p ∷ put y r)) [] (one m x p y, [])
high-mends d o mendable m x p y colon sx deep bound sy deep' (q ∷ ts) =
    choose_mends condition_of d (λ r. m ∷ put x (p ∷ put y r)) (q ∷ ts) (chains (role_of p) (role_of q)) _ _ goes
    (λ b. read_mends condition_of d (λ r. m ∷ put x (p ∷ put y r)) (q ∷ ts) (one m x p y, q ∷ ts))
  where
    goes : chains (role_of p) (role_of q) ≡ true
        → Mending condition_of d (λ r. m ∷ put x (p ∷ put y r)) (q ∷ ts) (expect sorts.Bound awaiting.Other (q ∷ ts) >>= λ q. climb 3 (unary o) q.1 >>= λ z. read_as (between m x p y q.0 z.0) z.1)
    goes b =
        let order = chains-order (role_of p) (role_of q) b in
        let bounds = order-bounds (role_of p) (role_of q) order in
        rw (expect-complete sorts.Bound awaiting.Other q ts bounds.1)
        (passed_mends condition_of d (λ r. m ∷ put x (p ∷ put y r)) q ts _
        (last_mends (tree (UpTo 3)) condition_of here d (λ r. m ∷ put x (p ∷ put y (q ∷ r))) ts (climb 3 (unary o) ts) _
        (climb-mends d 3 (unary o) mendable.unary (unary-sound d o mendable.sound) (omega arith) (omega arith) ts)
        (λ s e k z le f. record {
          thing = between m x p y q z;
          fits = ((colon, order, sx, sy, (f.0, f.2)), omega (arith, deep, deep', le, f.1));
          rest = [];
          text = λ r. refl;
        })
        (λ z s h. cc)))

middle-mends : (d : ℕ) (o : Option Inner) → Mendable d o → (m : Token) (x : Tree) (p : Token) → is_colon (role_of m) ≡ true → IsSum x → depth x ≤ d → is_bound (role_of p) ≡ true
    → (ts : Tokens) → Mending condition_of d (λ r. m ∷ put x (p ∷ r)) ts (middle_at o m x p ts)
unfolding middle_at
middle-mends d o mendable m x p colon sx deep bound ts =
    then_mends sum_kind condition_of here d (λ r. m ∷ put x (p ∷ r)) ts (sum_at o true ts) _ (sum-mends d o mendable ts)
    (λ s e k y le f. second_begun k m x p y.0 y.1 colon sx (omega (arith, deep, le)) bound f)
    (λ y e. let sy = sum-whole d o mendable ts y e in record { text = sy.0; mends = by y.0.0 y.0.1 y.1 sy.1 })
  where
    by : (y : Tree) (free : Bool) (r : Tokens) → Sum d (y, free) → Mending condition_of d (λ q. m ∷ put x (p ∷ put y q)) r (cond free (rejected awaiting.Other r) (high_at o m x p y r))
    by y true r s = rejected_mends condition_of d (λ q. m ∷ put x (p ∷ put y q)) r awaiting.Other (d, omega arith, second_begun d m x p y true colon sx deep bound s)
    by y false r s = high-mends d o mendable m x p y colon sx deep bound s.sum s.within r

bounded-mends : (d : ℕ) (o : Option Inner) → Mendable d o → (m : Token) (x : Tree) (free : Bool) (p : Token) → is_colon (role_of m) ≡ true → Sum d (x, free) → is_bound (role_of p) ≡ true
    → (ts : Tokens) → Mending condition_of d (λ r. m ∷ put x (p ∷ r)) ts (bounded_at o m x free p ts)
unfolding bounded_at
bounded-mends d o mendable m x true p colon s bound ts = middle-mends d o mendable m x p colon s.sum s.within bound ts
bounded-mends d o mendable m x false p colon s bound ts =
    last_mends (tree (UpTo 3)) condition_of here d (λ r. m ∷ put x (p ∷ r)) ts (climb 3 (unary o) ts) _
    (climb-mends d 3 (unary o) mendable.unary (unary-sound d o mendable.sound) (omega arith) (omega arith) ts)
    (λ stop e k y le f. record { thing = one m x p y; fits = ((colon, bound, inl (s.sum, (f.0, f.2))), omega (arith, s.within, le, f.1)); rest = []; text = λ r. refl })
    (λ y stop h. cc)

-- a net term is a sum
net_only : (k : ℕ) (m : Token) → is_colon (role_of m) ≡ true → Begun condition_of k (λ r. m ∷ r) []
net_only k m colon = record {
  thing = one m (net None (filler sorts.Net)) (filler sorts.Bound) a_name;
  fits = ((colon, fills sorts.Bound, inl ((tt, fills sorts.Net), (a_name_level, omega arith))), omega arith);
  rest = filler sorts.Net ∷ filler sorts.Bound ∷ filler sorts.Name ∷ [];
  text = λ r. refl;
}

wider_sum : (d k : ℕ) (x : Tree × Bool) → d ≤ k → Sum d x → Sum k x
wider_sum d k x le s = record {
  sum = s.sum;
  within = omega (arith, s.within, le);
  goes_on = λ e. let g = s.goes_on e in record { sum = g.sum; nets = g.nets; within = omega (arith, g.within, le); rest = g.rest; text = g.text };
}

pub condition-mends : (d : ℕ) (o : Option Inner) → Mendable d o → Mends condition_of d (condition_at o)
unfolding condition_at said_at
condition-mends d o mendable ts =
    choose_mends condition_of d same ts (next_is is_colon ts) _ _
    (λ b. expect_then sorts.Colon awaiting.Other condition_of d same ts _ (λ k m le is. net_only k m is)
    (λ m r colon.
    then_mends sum_kind condition_of here d (λ q. m ∷ q) r (sum_at o true r) _ (sum-mends d o mendable r)
    (λ s e k x le f. with_token condition_of k (λ q. m ∷ put x.0 q) (filler sorts.Bound) (bound_begun k m x.0 x.1 (filler sorts.Bound) colon f (fills sorts.Bound)))
    (λ x e.
    let sx = sum-whole d o mendable r x e in
    record {
      text = sx.0;
      mends =
          expect_then sorts.Bound awaiting.Other condition_of d (λ q. m ∷ put x.0.0 q) x.1 _
          (λ k p le is. bound_begun k m x.0.0 x.0.1 p colon (wider_sum d k x.0 le sx.1) is)
          (λ p q bound. bounded-mends d o mendable m x.0.0 x.0.1 p colon sx.1 bound q);
    })))
    (λ b. read_mends condition_of d same ts (unsaid, ts))
