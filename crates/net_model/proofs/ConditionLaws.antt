-- What is read as a node's condition is printed so, and the other way round.
use Rattle.std.specs.Prelude.{◌≡◌, ◌≤◌, ℕ, Bool, true, false, cond, ◌∷◌, Option, Ok}
use Rattle.std.proofs.Common.{refl, ap, ◌∙◌, arith, inl, inr}
use Rattle.net_lex.specs.declared.token.Token.{Token}
use Rattle.net_tree.specs.declared.role.Relation.TheVariants as relations
use Rattle.net_tree.specs.declared.role.Role.{Role}
use Rattle.net_tree.specs.declared.role.Role.TheVariants as roles
use Rattle.net_tree.specs.Role.{role_of, is_colon, is_bound, is_semicolon}
use Rattle.net_tree.specs.Tree.{Tree, Condition, unsaid, one, between}
use Rattle.net_tree.specs.Print.{put, put_condition}
use Rattle.net_tree.specs.Depth.{depth, condition_depth}
use Rattle.net_tree.specs.WellFormed.{precedence}
use Rattle.net_tree.specs.Conditions.{IsSum, IsNetSum, same_order, IsCondition}
use Rattle.net_model.specs.declared.expected.Expected.TheVariants as sorts
use Rattle.net_model.specs.declared.model_parser.Awaiting.TheVariants as awaiting
use Rattle.net_model.specs.Reading.{Tokens, rejected, next_is}
use Rattle.net_model.specs.Expressions.{Inner, climb, unary, nested}
use Rattle.net_model.specs.Conditions.{is_at_most, is_at_least, chains, chain_next, high_at, middle_at, bounded_at, said_at, condition_at}
use Rattle.net_model.proofs.Tools.{bind_ok, given, chosen, on, off, expect-sound, expect-complete}
use Rattle.net_model.proofs.LinksSound.{climb-sound}
use Rattle.net_model.proofs.TreesSound.{IsInside, unary-sound}
use Rattle.net_model.proofs.Grips.{Stops, grip, semicolon-shuts, reach-below}
use Rattle.net_model.proofs.LinksComplete.{in_place}
use Rattle.net_model.proofs.TreesComplete.{trees-complete}
use Rattle.net_model.proofs.TermsSound.{SoundSum, sum-sound}
use Rattle.net_model.proofs.TermsComplete.{sum-complete}

pub record SoundCondition (d : ℕ) (ts : Tokens) (a : Condition × Tokens) : Type 0 where
  pub text : ts ≡ put_condition a.0 a.1
  pub level : IsCondition a.0
  pub within : condition_depth a.0 ≤ d

pub chains-order : (p q : Role) → chains p q ≡ true → same_order p q ≡ true
chains-order (roles.Relation relations.AtMost) (roles.Relation relations.AtMost) h = refl
chains-order (roles.Relation relations.AtLeast) (roles.Relation relations.AtLeast) h = refl
chains-order _ _ h = absurd (cc)

pub order-chains : (p q : Role) → same_order p q ≡ true → chains p q ≡ true
order-chains (roles.Relation relations.AtMost) (roles.Relation relations.AtMost) h = refl
order-chains (roles.Relation relations.AtLeast) (roles.Relation relations.AtLeast) h = refl
order-chains _ _ h = absurd (cc)

pub order-bounds : (p q : Role) → same_order p q ≡ true → (is_bound p ≡ true) × (is_bound q ≡ true)
order-bounds (roles.Relation relations.AtMost) (roles.Relation relations.AtMost) h = (refl, refl)
order-bounds (roles.Relation relations.AtLeast) (roles.Relation relations.AtLeast) h = (refl, refl)
order-bounds _ _ h = absurd (cc)

-- behind the bound, where the first sum has the net term or none
abbrev WithNet : Bool → Tree → Type 0
WithNet true x = IsSum x
WithNet false x = IsNetSum x

high-sound : (d : ℕ) (o : Option Inner) → IsInside d o → (m : Token) (x : Tree) (p : Token) (y : Tree) (ts : Tokens) (a : Condition × Tokens)
    → is_colon (role_of m) ≡ true → IsSum x → depth x ≤ d → is_bound (role_of p) ≡ true → IsNetSum y → depth y ≤ d → high_at o m x p y ts ≡ Ok a
    → SoundCondition d (m ∷ put x (p ∷ put y ts)) a
unfolding high_at
high-sound d o inner m x p y ts a colon sx deep bound sy deep' h =
    elim (chosen (chain_next (role_of p) ts) _ _ _ h) [
      | on b e ↦
          let q = bind_ok _ _ _ e in
          let sq = expect-sound sorts.Bound awaiting.Other ts q.value q.first in
          let z = bind_ok _ _ _ q.after in
          let sz = climb-sound d 3 (unary o) (omega arith) (omega arith) (unary-sound d o inner) q.value.1 z.value z.first in
          let order : chains (role_of p) (role_of q.value.0) ≡ true = rw sq.text at b in
          given (λ w. SoundCondition d (m ∷ put x (p ∷ put y ts)) w) (between m x p y q.value.0 z.value.0, z.value.1) a z.after (record {
            text = ap (λ k. m ∷ put x (p ∷ put y k)) (sq.text ∙ ap (λ k. q.value.0 ∷ k) sz.text);
            level = (colon, chains-order (role_of p) (role_of q.value.0) order, sx, sy, (sz.level, sz.fits));
            within = omega (arith, deep, deep', sz.within);
          })
      | off b e ↦ given (λ w. SoundCondition d (m ∷ put x (p ∷ put y ts)) w) (one m x p y, ts) a e (record { text = refl; level = (colon, bound, inr (sx, sy)); within = omega (arith, deep, deep') })
    ]

middle-sound : (d : ℕ) (o : Option Inner) → IsInside d o → (m : Token) (x : Tree) (p : Token) (ts : Tokens) (a : Condition × Tokens)
    → is_colon (role_of m) ≡ true → IsSum x → depth x ≤ d → is_bound (role_of p) ≡ true → middle_at o m x p ts ≡ Ok a → SoundCondition d (m ∷ put x (p ∷ ts)) a
unfolding middle_at
middle-sound d o inner m x p ts a colon sx deep bound h =
    let y = bind_ok _ _ _ h in
    let sy = sum-sound d o inner ts y.value y.first in
    by y.value.0.0 y.value.0.1 y.value.1 sy y.after
  where
    by : (y : Tree) (free : Bool) (r : Tokens) → SoundSum d ts ((y, free), r) → cond free (rejected awaiting.Other r) (high_at o m x p y r) ≡ Ok a → SoundCondition d (m ∷ put x (p ∷ ts)) a
    by y true r sy e = absurd (let k = e in cc)
    by y false r sy e = rw sy.text (high-sound d o inner m x p y r a colon sx deep bound sy.sum sy.within e)

bounded-sound : (d : ℕ) (o : Option Inner) → IsInside d o → (m : Token) (x : Tree) (free : Bool) (p : Token) (ts : Tokens) (a : Condition × Tokens)
    → is_colon (role_of m) ≡ true → WithNet free x → depth x ≤ d → is_bound (role_of p) ≡ true → bounded_at o m x free p ts ≡ Ok a → SoundCondition d (m ∷ put x (p ∷ ts)) a
unfolding bounded_at
bounded-sound d o inner m x true p ts a colon sx deep bound h = middle-sound d o inner m x p ts a colon sx deep bound h
bounded-sound d o inner m x false p ts a colon sx deep bound h =
    let y = bind_ok _ _ _ h in
    let sy = climb-sound d 3 (unary o) (omega arith) (omega arith) (unary-sound d o inner) ts y.value y.first in
    given (λ w. SoundCondition d (m ∷ put x (p ∷ ts)) w) (one m x p y.value.0, y.value.1) a y.after (record {
      text = ap (λ k. m ∷ put x (p ∷ k)) sy.text;
      level = (colon, bound, inl (sx, (sy.level, sy.fits)));
      within = omega (arith, deep, sy.within);
    })

with_net : (d : ℕ) (free : Bool) (x : Tree) (r ts : Tokens) → SoundSum d ts ((x, free), r) → WithNet free x
with_net d true x r ts s = s.sum
with_net d false x r ts s = s.sum

pub condition-sound : (d : ℕ) (o : Option Inner) → IsInside d o → (ts : Tokens) (a : Condition × Tokens) → condition_at o ts ≡ Ok a → SoundCondition d ts a
unfolding condition_at said_at
condition-sound d o inner ts a h =
    elim (chosen (next_is is_colon ts) _ _ _ h) [
      | on b e ↦
          let m = bind_ok _ _ _ e in
          let sm = expect-sound sorts.Colon awaiting.Other ts m.value m.first in
          let x = bind_ok _ _ _ m.after in
          let sx = sum-sound d o inner m.value.1 x.value x.first in
          let p = bind_ok _ _ _ x.after in
          let sp = expect-sound sorts.Bound awaiting.Other x.value.1 p.value p.first in
          let text : ts ≡ m.value.0 ∷ put x.value.0.0 (p.value.0 ∷ p.value.1) = sm.text ∙ ap (λ k. m.value.0 ∷ k) (sx.text ∙ ap (put x.value.0.0) sp.text) in
          rw text (bounded-sound d o inner m.value.0 x.value.0.0 x.value.0.1 p.value.0 p.value.1 a sm.sort (with_net d x.value.0.1 x.value.0.0 x.value.1 m.value.1 sx) sx.within sp.sort p.after)
      | off b e ↦ given (λ y. SoundCondition d ts y) (unsaid, ts) a e (record { text = refl; level = tt; within = omega arith })
    ]

-- the other way round, before a semicolon
bound-grip : (r : Role) → is_bound r ≡ true → grip r ≡ 7
bound-grip (roles.Relation r) h = refl
bound-grip _ h = absurd (cc)

bound-stops : (p : Token) (r : Tokens) → is_bound (role_of p) ≡ true → Stops 2 (p ∷ r)
bound-stops p r h = let e = bound-grip (role_of p) h in omega (arith, e)

semicolon-stops : (e : Token) (r : Tokens) → is_semicolon (role_of e) ≡ true → Stops 2 (e ∷ r)
semicolon-stops e r h = let s = semicolon-shuts (role_of e) h in omega (arith, s.grips)

semicolon-no_colon : (r : Role) → is_semicolon r ≡ true → is_colon r ≡ false
semicolon-no_colon roles.Semicolon h = refl
semicolon-no_colon _ h = absurd (cc)

at_most-no_semicolon : (q : Role) → is_semicolon q ≡ true → is_at_most q ≡ false
at_most-no_semicolon roles.Semicolon h = refl
at_most-no_semicolon _ h = absurd (cc)

at_least-no_semicolon : (q : Role) → is_semicolon q ≡ true → is_at_least q ≡ false
at_least-no_semicolon roles.Semicolon h = refl
at_least-no_semicolon _ h = absurd (cc)

semicolon-no_chain : (p q : Role) → is_semicolon q ≡ true → chains p q ≡ false
semicolon-no_chain (roles.Relation relations.AtMost) q h = at_most-no_semicolon q h
semicolon-no_chain (roles.Relation relations.AtLeast) q h = at_least-no_semicolon q h
semicolon-no_chain _ q h = refl

sum-read : (d : ℕ) (x : Tree) (ts : Tokens) → IsSum x → depth x ≤ d → Stops 2 ts → climb 3 (unary (nested d)) (put x ts) ≡ Ok (x, ts)
sum-read d x ts sum deep stops = in_place d 3 2 x ts (trees-complete x d) sum.0 deep sum.1 (omega arith) (omega arith) (reach-below (precedence x) 2 sum.1 (omega arith)) stops

pub condition-complete : (d : ℕ) (c : Condition) (e : Token) (ts : Tokens) → IsCondition c → condition_depth c ≤ d → is_semicolon (role_of e) ≡ true
    → condition_at (nested d) (put_condition c (e ∷ ts)) ≡ Ok (c, e ∷ ts)
unfolding condition_at said_at bounded_at middle_at high_at
condition-complete d unsaid e ts level deep ends = rw (semicolon-no_colon (role_of e) ends) refl
condition-complete d (one m x p y) e ts level deep ends =
    let rest = p ∷ put y (e ∷ ts) in
    elim level.2 [
      | inl k ↦
          rw (
            level.0,
            expect-complete sorts.Colon awaiting.Other m (put x rest) level.0,
            sum-complete d false x rest k.0 (omega (arith, deep)) (bound-stops p (put y (e ∷ ts)) level.1),
            expect-complete sorts.Bound awaiting.Other p (put y (e ∷ ts)) level.1,
            sum-read d y (e ∷ ts) k.1 (omega (arith, deep)) (semicolon-stops e ts ends),
          )
          refl
      | inr k ↦
          rw (
            level.0,
            expect-complete sorts.Colon awaiting.Other m (put x rest) level.0,
            sum-complete d true x rest k.0 (omega (arith, deep)) (bound-stops p (put y (e ∷ ts)) level.1),
            expect-complete sorts.Bound awaiting.Other p (put y (e ∷ ts)) level.1,
            sum-complete d false y (e ∷ ts) k.1 (omega (arith, deep)) (semicolon-stops e ts ends),
            semicolon-no_chain (role_of p) (role_of e) ends,
          )
          refl
    ]
condition-complete d (between m x p y q z) e ts level deep ends =
    let bounds = order-bounds (role_of p) (role_of q) level.1 in
    let last = q ∷ put z (e ∷ ts) in
    let rest = p ∷ put y last in
    rw (
      level.0,
      expect-complete sorts.Colon awaiting.Other m (put x rest) level.0,
      sum-complete d true x rest level.2 (omega (arith, deep)) (bound-stops p (put y last) bounds.0),
      expect-complete sorts.Bound awaiting.Other p (put y last) bounds.0,
      sum-complete d false y last level.3 (omega (arith, deep)) (bound-stops q (put z (e ∷ ts)) bounds.1),
      order-chains (role_of p) (role_of q) level.1,
      expect-complete sorts.Bound awaiting.Other q (put z (e ∷ ts)) bounds.1,
      sum-read d z (e ∷ ts) level.4 (omega (arith, deep)) (semicolon-stops e ts ends),
    )
    refl
