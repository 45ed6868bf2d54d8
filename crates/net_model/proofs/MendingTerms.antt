-- Where a sum with a net term, or without one, stops, the tokens before the stop begin one.
use Rattle.std.specs.Prelude.{◌≡◌, ◌≤◌, ◌+◌, ℕ, Bool, true, false, cond, [], ◌∷◌, length, Option, None, Some, Ok}
use Rattle.std.proofs.Common.{refl, sym, ap, ◌∙◌, arith}
use Rattle.net_lex.specs.declared.token.Token.{Token}
use Rattle.net_tree.specs.declared.operator.OperatorWords.{OperatorWords as Operator}
use Rattle.net_tree.specs.declared.operator.OperatorWords.TheVariants.{One, Two}
use Rattle.net_tree.specs.Role.{role_of, is_sign}
use Rattle.net_tree.specs.Tree.{Tree, Links, net, none, link, chain}
use Rattle.net_tree.specs.View.{links_from}
use Rattle.net_tree.specs.Print.{put, put_links, put_operator}
use Rattle.net_tree.specs.Depth.{depth, links_depth}
use Rattle.net_tree.specs.WellFormed.{IsLinked}
use Rattle.net_tree.specs.Conditions.{IsFirstTerm, IsFurtherTerm, AreTerms, nets, nets_in, IsNetSum}
use Rattle.net_model.specs.declared.expected.Expected.TheVariants as sorts
use Rattle.net_model.specs.declared.model_parser.Awaiting.TheVariants as awaiting
use Rattle.net_model.specs.Reading.{Tokens}
use Rattle.net_model.specs.Expressions.{Inner, operator_at, chained, climb, unary}
use Rattle.net_model.specs.Conditions.{net_next, signed_net_next, net_at, signed_net_at, term_at, first_term_at, further_term_at, sign_next, further_terms, sum_at}
use Rattle.net_model.proofs.Tools.{bind_ok, given}
use Rattle.net_model.proofs.LinksSound.{UpTo}
use Rattle.net_model.proofs.TreesSound.{unary-sound}
use Rattle.net_model.proofs.TermsSound.{left, first_of_further, product, sign_no_not, IsFurther, put_further, terms_of, put_further-links, first_term-sound, further_term-sound, terms-sound, IsSumOf, sum_of, chained-text, chained-depth}
use Rattle.net_model.proofs.Readers.{put_before}
use Rattle.net_model.proofs.Mending.{Written, Mending, here, same, then_mends, last_mends, choose_mends, passed_mends, recast_mends}
use Rattle.net_model.proofs.Fillers.{filler, fills, tree, put-front, put_operator-front}
use Rattle.net_model.proofs.MendingLinks.{Mends, expect_then, expect_last, climb-mends}
use Rattle.net_model.proofs.MendingInside.{Mendable}
use Rattle.net_model.proofs.MendingRows.{step_of, row_of, row-mends}

-- a term, where before it a net term may come or not
abbrev pub term_of : (Tree → Type 0) → Bool → Written (Tree × Bool)
term_of IsTerm free = record { put = λ x. put x.0; fits = λ k x. IsTerm x.0 × (depth x.0 ≤ k) × (nets x.0 + left x.1 ≡ left free); front = λ x. put-front x.0 }

-- a net term
abbrev pub net_of : (Tree → Type 0) → Written Tree
net_of IsTerm = record { put = put; fits = λ k x. IsTerm x × (depth x ≤ k) × (nets x ≡ 1); front = put-front }

net-mends : (d : ℕ) → Mends (net_of IsFurtherTerm) d net_at
unfolding net_at
net-mends d ts =
    expect_last sorts.Net awaiting.Other (net_of IsFurtherTerm) d same ts _
    (λ k w le is. record { thing = net None w; fits = ((refl, is), omega arith, refl); rest = []; text = λ r. refl })
    (λ w s h. cc)

signed_net-mends : (d : ℕ) → Mends (net_of IsFirstTerm) d signed_net_at
unfolding signed_net_at
signed_net-mends d ts =
    expect_then sorts.Sign awaiting.Other (net_of IsFirstTerm) d same ts _
    (λ k s le is. record { thing = net (Some s) (filler sorts.Net); fits = ((is, fills sorts.Net), omega arith, refl); rest = filler sorts.Net ∷ []; text = λ r. refl })
    (λ s r is. expect_last sorts.Net awaiting.Other (net_of IsFirstTerm) d (λ q. s ∷ q) r _
    (λ k w le nets'. record { thing = net (Some s) w; fits = ((is, nets'), omega arith, refl); rest = []; text = λ q. refl })
    (λ w stop h. cc))

freed : (free test : Bool) → cond free test false ≡ true → free ≡ true
freed true test h = refl
freed false test h = absurd (cc)

netted : (free : Bool) (n : ℕ) → free ≡ true → n ≡ 1 → n + left false ≡ left free
netted true n h is = omega (arith, is)
netted false n h is = absurd (cc)

term-mends : (d : ℕ) (o : Option Inner) → Mendable d o → (free : Bool) → Mends (term_of IsFurtherTerm free) d (term_at o free)
unfolding term_at
term-mends d o m free ts =
    choose_mends (term_of IsFurtherTerm free) d same ts (cond free (net_next ts) false) _ _
    (λ b. last_mends (net_of IsFurtherTerm) (term_of IsFurtherTerm free) here d same ts (net_at ts) _ (net-mends d ts)
    (λ s e k x le f. record { thing = (x, false); fits = (f.0, f.1, netted free (nets x) (freed free (net_next ts) b) f.2); rest = []; text = λ r. refl })
    (λ x s h. cc))
    (λ b. last_mends (tree (UpTo 2)) (term_of IsFurtherTerm free) here d same ts (climb 2 (unary o) ts) _ (climb-mends d 2 (unary o) m.unary (unary-sound d o m.sound) (omega arith) (omega arith) ts)
    (λ s e k x le f. let p = product x f.0 f.2 in record { thing = (x, free); fits = (p.further, f.1, omega (arith, p.no_net)); rest = []; text = λ r. refl })
    (λ x s h. cc))

first_term-mends : (d : ℕ) (o : Option Inner) → Mendable d o → (free : Bool) → Mends (term_of IsFirstTerm free) d (first_term_at o free)
unfolding first_term_at
first_term-mends d o m free ts =
    choose_mends (term_of IsFirstTerm free) d same ts (cond free (signed_net_next ts) false) _ _
    (λ b. last_mends (net_of IsFirstTerm) (term_of IsFirstTerm free) here d same ts (signed_net_at ts) _ (signed_net-mends d ts)
    (λ s e k x le f. record { thing = (x, false); fits = (f.0, f.1, netted free (nets x) (freed free (signed_net_next ts) b) f.2); rest = []; text = λ r. refl })
    (λ x s h. cc))
    (λ b. recast_mends (term_of IsFurtherTerm free) (term_of IsFirstTerm free) (λ k x f. (first_of_further x.0 f.0, f.1, f.2)) (λ x r. refl) d same ts _ (term-mends d o m free ts))

put_further-front : (p : Operator × Tree) (v r : Tokens) → put_further p (put_before v r) ≡ put_before (put_further p v) r
put_further-front p v r = ap (put_operator p.0) (put-front p.1 v r) ∙ put_operator-front p.0 (put p.1 v) r

abbrev Further : ℕ → Bool → (Operator × Tree) → Bool → Type 0
Further k free p after = IsFurther k free p after

sign-read : (t : Token) (ts : Tokens) → is_sign (role_of t) ≡ true → operator_at (t ∷ ts) ≡ Ok (One t, ts)
unfolding operator_at
sign-read t ts signs = rw (sign_no_not (role_of t) signs) refl

further_term-mends : (d : ℕ) (o : Option Inner) → Mendable d o → (free : Bool) (ts : Tokens) → sign_next free ts ≡ true → Mending (step_of put_further put_further-front Further free) d same ts (further_term_at o free ts)
unfolding further_term_at
further_term-mends d o m free [] signs = absurd (cc)
further_term-mends d o m free (t ∷ ts) signs =
    rw (sign-read t ts signs)
    (passed_mends (step_of put_further put_further-front Further free) d same t ts _
    (last_mends (term_of IsFurtherTerm free) (step_of put_further put_further-front Further free) here d (λ r. t ∷ r) ts (term_at o free ts) _ (term-mends d o m free ts)
    (λ s e k x le f. record {
      thing = ((One t, x.0), x.1);
      fits = record { sign = t; one = refl; signs = signs; term = f.0; within = f.1; nets = f.2 };
      rest = [];
      text = λ r. refl;
    })
    (λ x s h. cc)))

wider : (d k : ℕ) (free : Bool) (p : Operator × Tree) (after : Bool) → d ≤ k → Further d free p after → Further k free p after
wider d k free p after le f = record { sign = f.sign; one = f.one; signs = f.signs; term = f.term; within = omega (arith, f.within, le); nets = f.nets }

terms-mends : (d : ℕ) (o : Option Inner) → Mendable d o → (free : Bool) → Mends (row_of put_further put_further-front Further free) d (further_terms o free)
unfolding further_terms
terms-mends d o m free ts =
    row-mends put_further put_further-front Further d (further_term_at o) sign_next (λ k s p after. wider d k s p after) (further_term-sound d o m.sound) (further_term-mends d o m) (length ts) free ts

-- a net term at the end
abbrev plus_net : Links → Links
plus_net none = link (One (filler sorts.Sign)) (net None (filler sorts.Net)) none
plus_net (link o x l) = link o x (plus_net l)

plus_net-terms : (l : Links) → AreTerms l → AreTerms (plus_net l)
plus_net-terms none terms = (fills sorts.Sign, (refl, fills sorts.Net), tt)
plus_net-terms (link (One t) x l) terms = (terms.0, terms.1, plus_net-terms l terms.2)
plus_net-terms (link (Two t u) x l) terms = absurd terms

plus_net-nets : (l : Links) → nets_in (plus_net l) ≡ nets_in l + 1
plus_net-nets none = refl
plus_net-nets (link o x l) = omega (arith, plus_net-nets l)

plus_net-linked : (l : Links) → IsLinked (plus_net l)
plus_net-linked none = tt
plus_net-linked (link o x l) = tt

plus_net-depth : (l : Links) → links_depth (plus_net l) ≡ links_depth l
plus_net-depth none = omega arith
plus_net-depth (link o x l) = omega (arith, plus_net-depth l)

plus_net-text : (l : Links) (r : Tokens) → put_links (plus_net l) r ≡ put_links l (filler sorts.Sign ∷ filler sorts.Net ∷ r)
plus_net-text none r = refl
plus_net-text (link o x l) r = ap (λ k. put_operator o (put x k)) (plus_net-text l r)

-- a sum in which a net term may come goes on to one with a net term
pub record GoesOn (k : ℕ) (x : Tree) : Type 0 where
  pub sum : Tree
  pub nets : IsNetSum sum
  pub within : depth sum ≤ k
  pub rest : Tokens
  pub text : (r : Tokens) → put sum r ≡ put x (put_before rest r)

goes_on : (k : ℕ) (x : Tree) (l : Links) → IsFirstTerm x → AreTerms l → nets x + nets_in l + 1 ≡ 1 → depth x ≤ k → links_depth l ≤ k → GoesOn k (chained 2 x l)
goes_on k x l first terms total deep deep' = record {
  sum = chain 2 x (plus_net l);
  nets = (refl, first, plus_net-linked l, plus_net-terms l terms, omega (arith, total, plus_net-nets l));
  within = omega (arith, deep, deep', plus_net-depth l);
  rest = filler sorts.Sign ∷ filler sorts.Net ∷ [];
  text = λ r. ap (put x) (plus_net-text l r) ∙ sym (chained-text x l (filler sorts.Sign ∷ filler sorts.Net ∷ r));
}

-- a sum, with a net term or without one
pub record Sum (k : ℕ) (x : Tree × Bool) : Type 0 where
  pub sum : IsSumOf x.1 x.0
  pub within : depth x.0 ≤ k
  pub goes_on : x.1 ≡ true → GoesOn k x.0

sum : (k : ℕ) (x : Tree) (l : Links) (free : Bool) → IsFirstTerm x → AreTerms l → nets x + nets_in l + left free ≡ 1 → depth x ≤ k → links_depth l ≤ k → Sum k (chained 2 x l, free)
sum k x l free first terms total deep deep' = record {
  sum = sum_of x l free first terms total;
  within = chained-depth k x l deep deep';
  goes_on = λ e. let one : left free ≡ 1 = ap left e in goes_on k x l first terms (omega (arith, total, one)) deep deep';
}

abbrev pub sum_kind : Written (Tree × Bool)
sum_kind = record { put = λ x. put x.0; fits = Sum; front = λ x. put-front x.0 }

pub sum-whole : (d : ℕ) (o : Option Inner) → Mendable d o → (ts : Tokens) (a : (Tree × Bool) × Tokens) → sum_at o true ts ≡ Ok a → (ts ≡ put a.0.0 a.1) × Sum d a.0
unfolding sum_at
sum-whole d o m ts a h =
    let x = bind_ok _ _ _ h in
    let sx = first_term-sound d o m.sound true ts x.value x.first in
    let l = bind_ok _ _ _ x.after in
    let sl = terms-sound d o m.sound x.value.0.1 x.value.1 l.value l.first in
    given (λ z. (ts ≡ put z.0.0 z.1) × Sum d z.0) ((chained 2 x.value.0.0 (links_from l.value.0.0), l.value.0.1), l.value.1) a l.after (
      sx.text ∙ ap (put x.value.0.0) sl.text ∙ sym (chained-text x.value.0.0 (links_from l.value.0.0) l.value.1),
      sum d x.value.0.0 (links_from l.value.0.0) l.value.0.1 sx.term sl.terms (omega (arith, sx.nets, sl.nets)) sx.within sl.within,
    )

pub sum-mends : (d : ℕ) (o : Option Inner) → Mendable d o → Mends sum_kind d (sum_at o true)
unfolding sum_at
sum-mends d o m ts =
    then_mends (term_of IsFirstTerm true) sum_kind here d same ts (first_term_at o true ts) _ (first_term-mends d o m true ts)
    (λ s e k x le f. record { thing = (x.0, x.1); fits = sum k x.0 none x.1 f.0 tt (omega (arith, f.2)) f.1 (omega arith); rest = []; text = λ r. refl })
    (λ x e.
    let sx = first_term-sound d o m.sound true ts x e in
    record {
      text = sx.text;
      mends =
          last_mends (row_of put_further put_further-front Further x.0.1) sum_kind here d (put x.0.0) x.1 (further_terms o x.0.1 x.1) _ (terms-mends d o m x.0.1 x.1)
          (λ s e k l le f.
          let t = terms_of k x.0.1 l.1 l.0 f in
          record {
            thing = (chained 2 x.0.0 (links_from l.0), l.1);
            fits = sum k x.0.0 (links_from l.0) l.1 sx.term t.0 (omega (arith, sx.nets, t.2)) (omega (arith, sx.within, le)) t.1;
            rest = [];
            text = λ r. chained-text x.0.0 (links_from l.0) r ∙ ap (put x.0.0) (sym (put_further-links l.0 r));
          })
          (λ l s h. cc);
    })
