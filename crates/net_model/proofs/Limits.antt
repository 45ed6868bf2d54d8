-- Where more nestings may be opened, the same is read, unless a nesting too many was opened.
use Rattle.std.specs.Prelude.{◌≡◌, ◌≤◌, ℕ, zero, suc, Bool, true, false, cond, nat_le, [], ◌∷◌, length, Option, None, Some, Result, Ok, Err}
use Rattle.std.proofs.Common.{refl, ap, arith}
use Rattle.net_lex.specs.declared.token.Token.{Token}
use Rattle.net_tree.specs.declared.role.Role.{Role}
use Rattle.net_tree.specs.declared.role.Role.TheVariants as roles
use Rattle.net_tree.specs.Role.{role_of, is_open, is_open_brace, is_if}
use Rattle.net_tree.specs.Tree.{leaf, indexed, negated, braced, signed, reduced, choice, none, link, absent, part, empty, filled}
use Rattle.net_tree.specs.WellFormed.{precedence, joins}
use Rattle.net_model.specs.declared.expected.Expected.{Expected}
use Rattle.net_model.specs.declared.expected.Expected.TheVariants as sorts
use Rattle.net_model.specs.declared.model_parser.Awaiting.TheVariants as awaiting
use Rattle.net_model.specs.declared.model_parser.ParseError.{ParseError}
use Rattle.net_model.specs.declared.model_parser.ParseError.TheVariants as stops
use Rattle.net_model.specs.Reading.{Tokens, Read, ◌>>=◌, read_as, rejected, too_deep, next_is, is_sort, expect}
use Rattle.net_model.specs.Expressions.{Reader, Inner, operator_at, links, all_links, chained, chain_at, climb, present_at, part_at, is_subscripted, subscripts_at, named_at, closed, listed, parens_from, parens_at, not_shut, negated_at, ends_braces, empty_braces_at, items_at, braces_at, braces, reduction_at, conditional_at, unary_at, unary, if_at, wide, inner_of, nested}

-- the second is the same, or the first stopped at a nesting too many
pub data Agree {A : Type 0} (p q : Result A ParseError) : Type 0 where
  same : p ≡ q → Agree p q
  deep : (n : ℕ) → p ≡ Err (stops.TooDeep n) → Agree p q

pub agreed : {A : Type 0} (p : Result A ParseError) → Agree p p
agreed p = same refl

both_read : {A B : Type 0} (x : A) (q : Result A ParseError) (p : Result B ParseError) (g : A → Result B ParseError) → Ok x ≡ q → Agree p (g x) → Agree p (q >>= g)
both_read x (Ok y) p g e m = let k : x ≡ y = cc in rw (← k) m
both_read x (Err s) p g e m = absurd (cc)

pub then_agree : {A B : Type 0} (p q : Result A ParseError) (f g : A → Result B ParseError) → Agree p q → ((x : A) → Agree (f x) (g x)) → Agree (p >>= f) (q >>= g)
then_agree (Ok x) q f g (same e) more = both_read x q (f x) g e (more x)
then_agree (Err s) q f g (same e) more = same (ap (λ w. w >>= g) e)
then_agree (Ok x) q f g (deep n e) more = absurd (cc)
then_agree (Err s) q f g (deep n e) more = deep n (ap (λ w. w >>= f) e)

pub choose_agree : {A : Type 0} (b : Bool) (p q r s : Result A ParseError) → Agree p q → Agree r s → Agree (cond b p r) (cond b q s)
choose_agree true p q r s yes' no' = yes'
choose_agree false p q r s yes' no' = no'

abbrev pub Agrees : {A : Type 0} → (Tokens → Read A) → (Tokens → Read A) → Type 0
Agrees p q = (ts : Tokens) → Agree (p ts) (q ts)

links-agree : (p q : Reader) → Agrees p q → (turns j k : ℕ) → Agrees (links turns j k p) (links turns j k q)
links-agree p q operand zero j k ts = agreed (read_as none ts)
links-agree p q operand (suc turns) j k ts =
    choose_agree (next_is (joins j k) ts) _ _ _ _
    (then_agree (operator_at ts) (operator_at ts) _ _ (agreed (operator_at ts)) λ o.
    then_agree (p o.1) (q o.1) _ _ (operand o.1) λ x.
    then_agree (links turns j (suc k) p x.1) (links turns j (suc k) q x.1) _ _ (links-agree p q operand turns j (suc k) x.1) λ l.
    agreed (read_as (link o.0 x.0 l.0) l.1))
    (agreed (read_as none ts))

chain-agree : (p q : Reader) → Agrees p q → (n : ℕ) → Agrees (chain_at n p) (chain_at n q)
unfolding chain_at
chain-agree p q operand n ts =
    then_agree (p ts) (q ts) _ _ (operand ts) λ x. then_agree (all_links n p x.1) (all_links n q x.1) _ _ (links-agree p q operand (length x.1) n 0 x.1) λ l. agreed (read_as (chained n x.0 l.0) l.1)

pub climb-agree : (p q : Reader) → Agrees p q → (n : ℕ) → Agrees (climb n p) (climb n q)
unfolding climb
climb-agree p q operand zero = operand
climb-agree p q operand (suc zero) = operand
climb-agree p q operand (suc (suc n)) = chain-agree (climb (suc n) p) (climb (suc n) q) (climb-agree p q operand (suc n)) (suc n)

present-agree : (p q : Reader) → Agrees p q → Agrees (present_at p) (present_at q)
unfolding present_at
present-agree p q value [] = same refl
present-agree p q value (t ∷ ts) = then_agree (p ts) (q ts) _ _ (value ts) λ x. agreed (read_as (part t x.0) x.1)

pub part-agree : (s : Expected) (p q : Reader) → Agrees p q → Agrees (part_at s p) (part_at s q)
unfolding part_at
part-agree s p q value ts = choose_agree (next_is (is_sort s) ts) (present_at p ts) (present_at q ts) _ _ (present-agree p q value ts) (agreed (read_as absent ts))

-- the readers one nesting further in
pub record InnerAgree (i j : Inner) : Type 0 where
  pub at : (n : ℕ) → Agrees (i.at n) (j.at n)
  pub wide : (n : ℕ) → Agrees (i.wide n) (j.wide n)
  pub braces : Agrees i.braces j.braces

abbrev pub Agreeing : Option Inner → Option Inner → Type 0
Agreeing None o = Unit {0}
Agreeing (Some i) None = ⊥
Agreeing (Some i) (Some j) = InnerAgree i j

list-agree : (i j : Inner) → InnerAgree i j → (n : ℕ) → Agrees (all_links 0 (i.at n)) (all_links 0 (j.at n))
list-agree i j inner n ts = links-agree (i.at n) (j.at n) (inner.at n) (length ts) 0 0 ts

subscripts-agree : (i j : Inner) → InnerAgree i j → (n : Token) → Agrees (subscripts_at i n) (subscripts_at j n)
unfolding subscripts_at
subscripts-agree i j inner n [] = same refl
subscripts-agree i j inner n (o ∷ ts) =
    then_agree (i.at 3 ts) (j.at 3 ts) _ _ (inner.at 3 ts) λ x. then_agree (all_links 0 (i.at 3) x.1) (all_links 0 (j.at 3) x.1) _ _ (list-agree i j inner 3 x.1) λ l.
    agreed (expect sorts.CloseSquare awaiting.Other l.1 >>= λ c. read_as (indexed n o x.0 l.0 c.0) c.1)

pub named-agree : (o q : Option Inner) → Agreeing o q → (n : Token) → Agrees (named_at o n) (named_at q n)
unfolding named_at
named-agree None None inner n ts = same refl
named-agree None (Some j) inner n ts = choose_agree (is_subscripted ts) (too_deep ts) (subscripts_at j n ts) _ _ (deep (length ts) refl) (agreed (read_as (leaf n) ts))
named-agree (Some i) None inner n ts = absurd inner
named-agree (Some i) (Some j) inner n ts = choose_agree (is_subscripted ts) (subscripts_at i n ts) (subscripts_at j n ts) _ _ (subscripts-agree i j inner n ts) (agreed (read_as (leaf n) ts))

parens-agree : (i j : Inner) → InnerAgree i j → (o : Token) → Agrees (parens_at i o) (parens_at j o)
unfolding parens_at parens_from
parens-agree i j inner o ts =
    then_agree (i.wide 10 ts) (j.wide 10 ts) _ _ (inner.wide 10 ts) λ x.
    choose_agree (nat_le (precedence x.0) 3) _ _ _ _
    (then_agree (all_links 0 (i.at 3) x.1) (all_links 0 (j.at 3) x.1) _ _ (list-agree i j inner 3 x.1) λ l. agreed (listed o x.0 l.0 l.1))
    (agreed (closed o x.0 x.1))

not_shut-agree : (j : Inner) (n : Token) → Agrees not_shut (negated_at (Some j) n)
unfolding not_shut negated_at expect
not_shut-agree j n [] = same refl
not_shut-agree j n (t ∷ ts) = by (is_open (role_of t))
  where
    by : (b : Bool) → Agree (cond b (too_deep (t ∷ ts)) (rejected awaiting.Other (t ∷ ts))) (cond b (Ok (t, ts)) (rejected awaiting.Other (t ∷ ts)) >>= λ o. j.at 10 o.1 >>= λ x. expect sorts.Close awaiting.Other x.1 >>= λ c. read_as (negated n o.0 x.0 c.0) c.1)
    by true = deep (length (t ∷ ts)) refl
    by false = same refl

negated-agree : (o q : Option Inner) → Agreeing o q → (n : Token) → Agrees (negated_at o n) (negated_at q n)
unfolding negated_at
negated-agree None None inner n ts = same refl
negated-agree None (Some j) inner n ts = not_shut-agree j n ts
negated-agree (Some i) None inner n ts = absurd inner
negated-agree (Some i) (Some j) inner n ts =
    then_agree (expect sorts.Open awaiting.Other ts) (expect sorts.Open awaiting.Other ts) _ _ (agreed (expect sorts.Open awaiting.Other ts)) λ o.
    then_agree (i.at 10 o.1) (j.at 10 o.1) _ _ (inner.at 10 o.1) λ x. agreed (expect sorts.Close awaiting.Other x.1 >>= λ c. read_as (negated n o.0 x.0 c.0) c.1)

hollow-agree : (i j : Inner) → InnerAgree i j → (o : Token) → Agrees (empty_braces_at i o) (empty_braces_at j o)
unfolding empty_braces_at
hollow-agree i j inner o ts =
    then_agree (part_at sorts.Colon (i.at 10) ts) (part_at sorts.Colon (j.at 10) ts) _ _ (part-agree sorts.Colon (i.at 10) (j.at 10) (inner.at 10) ts) λ p.
    agreed (expect sorts.CloseBrace awaiting.Other p.1 >>= λ c. read_as (empty o p.0 c.0) c.1)

items-agree : (i j : Inner) → InnerAgree i j → (o : Token) → Agrees (items_at i o) (items_at j o)
unfolding items_at
items-agree i j inner o ts =
    then_agree (i.at 8 ts) (j.at 8 ts) _ _ (inner.at 8 ts) λ x.
    then_agree (all_links 0 (i.at 8) x.1) (all_links 0 (j.at 8) x.1) _ _ (list-agree i j inner 8 x.1) λ l.
    then_agree (part_at sorts.Colon (i.at 10) l.1) (part_at sorts.Colon (j.at 10) l.1) _ _ (part-agree sorts.Colon (i.at 10) (j.at 10) (inner.at 10) l.1) λ p.
    agreed (expect sorts.CloseBrace awaiting.Other p.1 >>= λ c. read_as (filled o x.0 l.0 p.0 c.0) c.1)

braces_at-agree : (i j : Inner) → InnerAgree i j → (o : Token) → Agrees (braces_at i o) (braces_at j o)
unfolding braces_at
braces_at-agree i j inner o ts = choose_agree (next_is ends_braces ts) (empty_braces_at i o ts) (empty_braces_at j o ts) (items_at i o ts) (items_at j o ts) (hollow-agree i j inner o ts) (items-agree i j inner o ts)

braces_shut-agree : (j : Inner) → Agrees (braces None) (braces (Some j))
unfolding braces expect
braces_shut-agree j [] = same refl
braces_shut-agree j (t ∷ ts) = by (is_open_brace (role_of t))
  where
    by : (b : Bool) → Agree (cond b (too_deep (t ∷ ts)) (rejected awaiting.Other (t ∷ ts))) (cond b (Ok (t, ts)) (rejected awaiting.Other (t ∷ ts)) >>= λ o. braces_at j o.0 o.1)
    by true = deep (length (t ∷ ts)) refl
    by false = same refl

pub braces-agree : (o q : Option Inner) → Agreeing o q → Agrees (braces o) (braces q)
unfolding braces
braces-agree None None inner ts = same refl
braces-agree None (Some j) inner ts = braces_shut-agree j ts
braces-agree (Some i) None inner ts = absurd inner
braces-agree (Some i) (Some j) inner ts =
    then_agree (expect sorts.OpenBrace awaiting.Other ts) (expect sorts.OpenBrace awaiting.Other ts) _ _ (agreed (expect sorts.OpenBrace awaiting.Other ts)) λ o. braces_at-agree i j inner o.0 o.1

reduced-agree : (i j : Inner) → InnerAgree i j → (w : Token) → Agrees (reduction_at i w) (reduction_at j w)
unfolding reduction_at
reduced-agree i j inner w ts =
    then_agree (i.braces ts) (j.braces ts) _ _ (inner.braces ts) λ b. then_agree (i.at 2 b.1) (j.at 2 b.1) _ _ (inner.at 2 b.1) λ x. agreed (read_as (reduced w b.0 x.0) x.1)

choice-agree : (i j : Inner) → InnerAgree i j → (w : Token) → Agrees (conditional_at i w) (conditional_at j w)
unfolding conditional_at
choice-agree i j inner w ts =
    then_agree (i.at 10 ts) (j.at 10 ts) _ _ (inner.at 10 ts) λ x.
    then_agree (expect sorts.Then awaiting.Other x.1) (expect sorts.Then awaiting.Other x.1) _ _ (agreed (expect sorts.Then awaiting.Other x.1)) λ t.
    then_agree (i.at 7 t.1) (j.at 7 t.1) _ _ (inner.at 7 t.1) λ y.
    then_agree (part_at sorts.Else (i.wide 7) y.1) (part_at sorts.Else (j.wide 7) y.1) _ _ (part-agree sorts.Else (i.wide 7) (j.wide 7) (inner.wide 7) y.1) λ e.
    agreed (read_as (choice w x.0 t.0 y.0 e.0) e.1)

unary_at-agree : (o q : Option Inner) → Agreeing o q → (r : Role) (t : Token) → Agrees (unary_at o r t) (unary_at q r t)
unfolding unary_at
unary_at-agree o q inner roles.Name t ts = named-agree o q inner t ts
unary_at-agree o q inner roles.Number t ts = same refl
unary_at-agree o q inner roles.Text t ts = same refl
unary_at-agree o q inner roles.Not t ts = negated-agree o q inner t ts
unary_at-agree None q inner roles.Open t ts = deep (length (t ∷ ts)) refl
unary_at-agree None q inner roles.OpenBrace t ts = deep (length (t ∷ ts)) refl
unary_at-agree None q inner roles.Sign t ts = deep (length (t ∷ ts)) refl
unary_at-agree None q inner roles.Reduction t ts = deep (length (t ∷ ts)) refl
unary_at-agree (Some i) (Some j) inner roles.Open t ts = parens-agree i j inner t ts
unary_at-agree (Some i) (Some j) inner roles.OpenBrace t ts = then_agree (braces_at i t ts) (braces_at j t ts) _ _ (braces_at-agree i j inner t ts) λ b. agreed (read_as (braced b.0) b.1)
unary_at-agree (Some i) (Some j) inner roles.Sign t ts = then_agree (i.at 1 ts) (j.at 1 ts) _ _ (inner.at 1 ts) λ x. agreed (read_as (signed t x.0) x.1)
unary_at-agree (Some i) (Some j) inner roles.Reduction t ts = reduced-agree i j inner t ts
unary_at-agree (Some i) None inner r t ts = absurd inner
unary_at-agree o q inner r t ts = same refl

pub unary-agree : (o q : Option Inner) → Agreeing o q → Agrees (unary o) (unary q)
unfolding unary
unary-agree o q inner [] = same refl
unary-agree o q inner (t ∷ ts) = unary_at-agree o q inner (role_of t) t ts

if_at-agree : (o q : Option Inner) → Agreeing o q → Agrees (if_at o) (if_at q)
unfolding if_at
if_at-agree None q inner ts = deep (length ts) refl
if_at-agree (Some i) None inner ts = absurd inner
if_at-agree (Some i) (Some j) inner [] = same refl
if_at-agree (Some i) (Some j) inner (t ∷ ts) = choice-agree i j inner t ts

pub wide-agree : (o q : Option Inner) → Agreeing o q → (n : ℕ) → Agrees (wide o n) (wide q n)
unfolding wide
wide-agree o q inner n ts = choose_agree (next_is is_if ts) (if_at o ts) (if_at q ts) _ _ (if_at-agree o q inner ts) (climb-agree (unary o) (unary q) (unary-agree o q inner) n ts)

inner-agree : (o q : Option Inner) → Agreeing o q → InnerAgree (inner_of o) (inner_of q)
unfolding inner_of
inner-agree o q inner = record { at = climb-agree (unary o) (unary q) (unary-agree o q inner); wide = wide-agree o q inner; braces = braces-agree o q inner }

pub inside-agree : (d e : ℕ) → d ≤ e → Agreeing (nested d) (nested e)
unfolding nested
inside-agree zero e less = tt
inside-agree (suc d) zero less = absurd (omega arith)
inside-agree (suc d) (suc e) less = inner-agree (nested d) (nested e) (inside-agree d e (omega arith))
