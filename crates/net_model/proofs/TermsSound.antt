-- What is read as a sum with a net term, or without one, is printed so.
use Rattle.std.specs.Prelude.{◌≡◌, ◌≤◌, ◌+◌, ℕ, suc, Bool, true, false, cond, List, [], ◌∷◌, length, Option, None, Some, Ok}
use Rattle.std.proofs.Common.{refl, sym, ap, ◌∙◌, arith}
use Rattle.net_lex.specs.declared.token.Token.{Token}
use Rattle.net_tree.specs.declared.operator.OperatorWords.{OperatorWords as Operator}
use Rattle.net_tree.specs.declared.operator.OperatorWords.TheVariants.{One, Two}
use Rattle.net_tree.specs.declared.role.Role.{Role}
use Rattle.net_tree.specs.declared.role.Role.TheVariants as roles
use Rattle.net_tree.specs.Role.{role_of, is_not, is_sign}
use Rattle.net_tree.specs.Tree.{Tree, Links, net, none, link}
use Rattle.net_tree.specs.View.{links_from}
use Rattle.net_tree.specs.Print.{put, put_links, put_operator}
use Rattle.net_tree.specs.Depth.{depth, links_depth}
use Rattle.net_tree.specs.WellFormed.{precedence, room, joins, IsOperator, IsWellFormed, AreWellFormed}
use Rattle.net_tree.specs.Conditions.{IsSum, IsFirstTerm, IsFurtherTerm, AreTerms, nets, nets_in, IsNetSum}
use Rattle.net_model.specs.declared.expected.Expected.TheVariants as sorts
use Rattle.net_model.specs.declared.model_parser.Awaiting.TheVariants as awaiting
use Rattle.net_model.specs.Reading.{Tokens, next_is}
use Rattle.net_model.specs.Expressions.{Inner, chained, unary}
use Rattle.net_model.specs.Conditions.{net_next, signed_net_next, net_at, signed_net_at, term_at, first_term_at, further_term_at, sign_next, further_terms, sum_at}
use Rattle.net_model.proofs.Tools.{bind_ok, given, chosen, on, off, expect-sound}
use Rattle.net_model.proofs.LinksSound.{climb-sound, operator-sound}
use Rattle.net_model.proofs.TreesSound.{IsInside, unary-sound}
use Rattle.net_model.proofs.RowLaws.{Chain, put_all, SoundStep, row-sound}

-- how many net terms may still come
abbrev pub left : Bool → ℕ
left true = 1
left false = 0

-- a term, where before it a net term may come or not
pub record SoundTerm (d : ℕ) (IsTerm : Tree → Type 0) (free : Bool) (ts : Tokens) (a : (Tree × Bool) × Tokens) : Type 0 where
  pub text : ts ≡ put a.0.0 a.1
  pub term : IsTerm a.0.0
  pub within : depth a.0.0 ≤ d
  pub nets : nets a.0.0 + left a.0.1 ≡ left free

pub record IsProduct (x : Tree) : Type 0 where
  pub first : IsFirstTerm x
  pub further : IsFurtherTerm x
  pub no_net : nets x ≡ 0

pub product : (x : Tree) → IsWellFormed x → precedence x ≤ 2 → IsProduct x
product (net s w) level fits = absurd (omega (arith, fits))
product x level fits = record { first = (level, fits); further = (level, fits); no_net = refl }

freed : (free test : Bool) → cond free test false ≡ true → free ≡ true
freed true test h = refl
freed false test h = absurd (cc)

one_less : (free : Bool) → free ≡ true → 1 + left false ≡ left free
one_less true h = refl
one_less false h = absurd (cc)

pub term-sound : (d : ℕ) (o : Option Inner) → IsInside d o → (free : Bool) (ts : Tokens) (a : (Tree × Bool) × Tokens) → term_at o free ts ≡ Ok a → SoundTerm d IsFurtherTerm free ts a
unfolding term_at net_at
term-sound d o inner free ts a h =
    elim (chosen (cond free (net_next ts) false) _ _ _ h) [
      | on b e ↦
          let x = bind_ok _ _ _ e in
          let w = bind_ok _ _ _ x.first in
          let sw = expect-sound sorts.Net awaiting.Other ts w.value w.first in
          let y = given (λ (z : Tree × Tokens). ts ≡ put z.0 z.1) (net None w.value.0, w.value.1) x.value w.after sw.text in
          let t = given (λ (z : Tree × Tokens). IsFurtherTerm z.0) (net None w.value.0, w.value.1) x.value w.after (refl, sw.sort) in
          let m = given (λ (z : Tree × Tokens). (depth z.0 ≤ d) × (nets z.0 ≡ 1)) (net None w.value.0, w.value.1) x.value w.after (omega arith, refl) in
          given (λ z. SoundTerm d IsFurtherTerm free ts z) ((x.value.0, false), x.value.1) a x.after
          (record { text = y; term = t; within = m.0; nets = ap (λ n. n + 0) m.1 ∙ one_less free (freed free (net_next ts) b) })
      | off b e ↦
          let x = bind_ok _ _ _ e in
          let sx = climb-sound d 2 (unary o) (omega arith) (omega arith) (unary-sound d o inner) ts x.value x.first in
          let p = product x.value.0 sx.level sx.fits in
          given (λ z. SoundTerm d IsFurtherTerm free ts z) ((x.value.0, free), x.value.1) a x.after
          (record { text = sx.text; term = p.further; within = sx.within; nets = omega (arith, p.no_net) })
    ]

pub first_of_further : (x : Tree) → IsFurtherTerm x → IsFirstTerm x
first_of_further (net s w) h = rw h.0 (tt, h.1)
first_of_further x h = h

pub first_term-sound : (d : ℕ) (o : Option Inner) → IsInside d o → (free : Bool) (ts : Tokens) (a : (Tree × Bool) × Tokens) → first_term_at o free ts ≡ Ok a → SoundTerm d IsFirstTerm free ts a
unfolding first_term_at signed_net_at
first_term-sound d o inner free ts a h =
    elim (chosen (cond free (signed_net_next ts) false) _ _ _ h) [
      | on b e ↦
          let x = bind_ok _ _ _ e in
          let s = bind_ok _ _ _ x.first in
          let ss = expect-sound sorts.Sign awaiting.Other ts s.value s.first in
          let w = bind_ok _ _ _ s.after in
          let sw = expect-sound sorts.Net awaiting.Other s.value.1 w.value w.first in
          let y = given (λ (z : Tree × Tokens). ts ≡ put z.0 z.1) (net (Some s.value.0) w.value.0, w.value.1) x.value w.after (ss.text ∙ ap (λ k. s.value.0 ∷ k) sw.text) in
          let t = given (λ (z : Tree × Tokens). IsFirstTerm z.0) (net (Some s.value.0) w.value.0, w.value.1) x.value w.after (ss.sort, sw.sort) in
          let m = given (λ (z : Tree × Tokens). (depth z.0 ≤ d) × (nets z.0 ≡ 1)) (net (Some s.value.0) w.value.0, w.value.1) x.value w.after (omega arith, refl) in
          given (λ z. SoundTerm d IsFirstTerm free ts z) ((x.value.0, false), x.value.1) a x.after
          (record { text = y; term = t; within = m.0; nets = ap (λ n. n + 0) m.1 ∙ one_less free (freed free (signed_net_next ts) b) })
      | off b e ↦
          let s = term-sound d o inner free ts a e in
          record { text = s.text; term = first_of_further a.0.0 s.term; within = s.within; nets = s.nets }
    ]

-- a further term and the sign before it
pub record IsFurther (d : ℕ) (free : Bool) (p : Operator × Tree) (after : Bool) : Type 0 where
  pub sign : Token
  pub one : p.0 ≡ One sign
  pub signs : is_sign (role_of sign) ≡ true
  pub term : IsFurtherTerm p.1
  pub within : depth p.1 ≤ d
  pub nets : nets p.1 + left after ≡ left free

abbrev pub put_further : Operator × Tree → Tokens → Tokens
put_further p r = put_operator p.0 (put p.1 r)

pub sign_no_not : (r : Role) → is_sign r ≡ true → is_not r ≡ false
sign_no_not roles.Sign h = refl
sign_no_not _ h = absurd (cc)

sign_operator : (o : Operator) (ts r : Tokens) → next_is is_sign ts ≡ true → ts ≡ put_operator o r → IsOperator o → (t : Token) × (o ≡ One t) × (is_sign (role_of t) ≡ true)
sign_operator (One t) ts r next text level = (t, refl, rw text at next)
sign_operator (Two t u) ts r next text level =
    let s : is_sign (role_of t) ≡ true = rw text at next in absurd (let e = sign_no_not (role_of t) s in let k = level.0 in cc)

pub further_term-sound : (d : ℕ) (o : Option Inner) → IsInside d o → (free : Bool) (ts : Tokens) (a : ((Operator × Tree) × Bool) × Tokens) → sign_next free ts ≡ true → further_term_at o free ts ≡ Ok a
    → SoundStep put_further (IsFurther d) free ts a
unfolding further_term_at
further_term-sound d o inner free ts a next h =
    let p = bind_ok _ _ _ h in
    let sp = operator-sound ts p.value p.first in
    let x = bind_ok _ _ _ p.after in
    let sx = term-sound d o inner free p.value.1 x.value x.first in
    let s = sign_operator p.value.0 ts p.value.1 next sp.text sp.level in
    given (λ z. SoundStep put_further (IsFurther d) free ts z) (((p.value.0, x.value.0.0), x.value.0.1), x.value.1) a x.after
    (record { text = sp.text ∙ ap (put_operator p.value.0) sx.text; holds = record { sign = s.0; one = s.1; signs = s.2; term = sx.term; within = sx.within; nets = sx.nets } })

pub put_further-links : (l : List (Operator × Tree)) (r : Tokens) → put_all put_further l r ≡ put_links (links_from l) r
put_further-links [] r = refl
put_further-links (p ∷ l) r = ap (λ k. put_operator p.0 (put p.1 k)) (put_further-links l r)

pub record SoundTerms (d : ℕ) (free : Bool) (ts : Tokens) (a : (List (Operator × Tree) × Bool) × Tokens) : Type 0 where
  pub text : ts ≡ put_links (links_from a.0.0) a.1
  pub terms : AreTerms (links_from a.0.0)
  pub within : links_depth (links_from a.0.0) ≤ d
  pub nets : nets_in (links_from a.0.0) + left a.0.1 ≡ left free

pub are_terms : (o : Operator) (x : Tree) (l : Links) (t : Token) → o ≡ One t → is_sign (role_of t) ≡ true → IsFurtherTerm x → AreTerms l → AreTerms (link o x l)
are_terms (One u) x l t is signs term terms = let same : u ≡ t = cc in (rw same signs, term, terms)
are_terms (Two u v) x l t is signs term terms = absurd (cc)

pub terms_of : (d : ℕ) (free after : Bool) (l : List (Operator × Tree)) → Chain (IsFurther d) free l after
    → AreTerms (links_from l) × (links_depth (links_from l) ≤ d) × (nets_in (links_from l) + left after ≡ left free)
terms_of d free after [] steps = (tt, omega arith, omega (arith, ap left steps))
terms_of d free after (p ∷ l) steps =
    let f = steps.1 in
    let rest = terms_of d steps.0 after l steps.2 in
    (are_terms p.0 p.1 (links_from l) f.sign f.one f.signs f.term rest.0, omega (arith, f.within, rest.1), omega (arith, f.nets, rest.2))

pub terms-sound : (d : ℕ) (o : Option Inner) → IsInside d o → (free : Bool) (ts : Tokens) (a : (List (Operator × Tree) × Bool) × Tokens) → further_terms o free ts ≡ Ok a → SoundTerms d free ts a
unfolding further_terms
terms-sound d o inner free ts a h =
    let s = row-sound put_further (IsFurther d) (further_term_at o) sign_next (further_term-sound d o inner) (length ts) free ts a h in
    let t = terms_of d free a.0.1 a.0.0 s.chain in
    record { text = s.text ∙ put_further-links a.0.0 a.1; terms = t.0; within = t.1; nets = t.2 }

-- a sum, with a net term or without one
abbrev pub IsSumOf : Bool → Tree → Type 0
IsSumOf true x = IsSum x
IsSumOf false x = IsNetSum x

sign_joins : (k : ℕ) (r : Role) → is_sign r ≡ true → joins 2 k r ≡ true
sign_joins k roles.Sign h = refl
sign_joins k _ h = absurd (cc)

plain_term : (x : Tree) → IsFurtherTerm x → nets x ≡ 0 → IsWellFormed x × (precedence x ≤ 2)
plain_term (net s w) h no_net = absurd (omega (arith, no_net))
plain_term x h no_net = h

plain_first : (x : Tree) → IsFirstTerm x → nets x ≡ 0 → IsWellFormed x × (precedence x ≤ 2)
plain_first (net s w) h no_net = absurd (omega (arith, no_net))
plain_first x h no_net = h

net_first : (x : Tree) → IsFirstTerm x → nets x ≡ 1 → IsNetSum x
net_first (net s w) h is_one = h
net_first x h is_one = absurd (omega (arith, is_one))

room_two : (x : Tree) (l : Links) → precedence x ≤ 2 → precedence x ≤ room 2 l
room_two x none h = h
room_two x (link o y l) h = h

plain_links : (k : ℕ) (l : Links) → AreTerms l → nets_in l ≡ 0 → AreWellFormed 2 2 k l
plain_links k none terms no_net = tt
plain_links k (link (One t) x l) terms no_net =
    let p = plain_term x terms.1 (omega (arith, no_net)) in
    (sign_joins k (role_of t) terms.0, sign_no_not (role_of t) terms.0, p.0, room_two x l p.1, plain_links (suc k) l terms.2 (omega (arith, no_net)))
plain_links k (link (Two t u) x l) terms no_net = absurd terms

pub sum_of : (x : Tree) (l : Links) (free : Bool) → IsFirstTerm x → AreTerms l → nets x + nets_in l + left free ≡ 1 → IsSumOf free (chained 2 x l)
sum_of x none true first terms total = let p = plain_first x first (omega (arith, total)) in (p.0, omega (arith, p.1))
sum_of x none false first terms total = net_first x first (omega (arith, total))
sum_of x (link o y l) true first terms total =
    let p = plain_first x first (omega (arith, total)) in
    ((omega arith, omega arith, p.0, p.1, tt, plain_links 0 (link o y l) terms (omega (arith, total))), omega arith)
sum_of x (link o y l) false first terms total = (refl, first, tt, terms, omega (arith, total))

pub chained-text : (x : Tree) (l : Links) (r : Tokens) → put (chained 2 x l) r ≡ put x (put_links l r)
chained-text x none r = refl
chained-text x (link o y l) r = refl

pub chained-depth : (d : ℕ) (x : Tree) (l : Links) → depth x ≤ d → links_depth l ≤ d → depth (chained 2 x l) ≤ d
chained-depth d x none h k = h
chained-depth d x (link o y l) h k = omega (arith, h, k)

pub record SoundSum (d : ℕ) (ts : Tokens) (a : (Tree × Bool) × Tokens) : Type 0 where
  pub text : ts ≡ put a.0.0 a.1
  pub sum : IsSumOf a.0.1 a.0.0
  pub within : depth a.0.0 ≤ d

pub sum-sound : (d : ℕ) (o : Option Inner) → IsInside d o → (ts : Tokens) (a : (Tree × Bool) × Tokens) → sum_at o true ts ≡ Ok a → SoundSum d ts a
unfolding sum_at
sum-sound d o inner ts a h =
    let x = bind_ok _ _ _ h in
    let sx = first_term-sound d o inner true ts x.value x.first in
    let l = bind_ok _ _ _ x.after in
    let sl = terms-sound d o inner x.value.0.1 x.value.1 l.value l.first in
    given (λ z. SoundSum d ts z) ((chained 2 x.value.0.0 (links_from l.value.0.0), l.value.0.1), l.value.1) a l.after (record {
      text = sx.text ∙ ap (put x.value.0.0) sl.text ∙ sym (chained-text x.value.0.0 (links_from l.value.0.0) l.value.1);
      sum = sum_of x.value.0.0 (links_from l.value.0.0) l.value.0.1 sx.term sl.terms (omega (arith, sx.nets, sl.nets));
      within = chained-depth d x.value.0.0 (links_from l.value.0.0) sx.within sl.within;
    })
