-- The readers of expressions look at no token behind the one at which they stop.
use Rattle.std.specs.Prelude.{◌≡◌, ◌≤◌, ◌<◌, ℕ, zero, suc, Bool, true, false, nat_le, ◌∷◌, length, Option, None, Some, Ok, Err}
use Rattle.std.proofs.Common.{refl, ap, arith, subst}
use Rattle.net_lex.specs.declared.token.Token.{Token}
use Rattle.net_tree.specs.declared.operator.OperatorWords.{OperatorWords as Operator}
use Rattle.net_tree.specs.declared.operator.OperatorWords.TheVariants.{One, Two}
use Rattle.net_tree.specs.declared.role.Role.{Role}
use Rattle.net_tree.specs.declared.role.Role.TheVariants as roles
use Rattle.net_tree.specs.Role.{role_of, is_not, is_open, is_open_brace, is_open_square, is_if}
use Rattle.net_tree.specs.Tree.{Tree, Links, leaf, indexed, parens, tuple, negated, braced, signed, reduced, choice, none, link, absent, part, empty, filled}
use Rattle.net_tree.specs.WellFormed.{precedence, joins}
use Rattle.net_model.specs.declared.expected.Expected.{Expected}
use Rattle.net_model.specs.declared.expected.Expected.TheVariants as sorts
use Rattle.net_model.specs.declared.model_parser.Awaiting.TheVariants as awaiting
use Rattle.net_model.specs.Meaning.{opens}
use Rattle.net_model.specs.Reading.{Tokens, Read, ◌>>=◌, read_as, rejected, next_is, is_sort, expect}
use Rattle.net_model.specs.Expressions.{Reader, Inner, operator_at, links, all_links, chained, chain_at, climb, present_at, part_at, subscripts_at, named_at, closed, listed, parens_from, parens_at, not_shut, negated_at, ends_braces, empty_braces_at, items_at, braces_at, braces, reduction_at, conditional_at, unary_at, unary, if_at, wide, inner_of, nested}
use Rattle.net_model.proofs.Tools.{ok_is}
use Rattle.net_model.proofs.Longer.{put_operator-longer}
use Rattle.net_model.proofs.LinksSound.{operator-sound}
use Rattle.net_model.proofs.Readers.{IsTail, tail-self, tail-length, Fork, left, right, lengths, lengths-strict, left-some, right-some, Within, within-le, bind-within, Out, bind-out, choose-out, choose-within, next-same, IsReader, reading, refusing, binding, testing, nexting, opening, Head, takes, rejects_it, deepens_it, heading, expecting}

operator-head : (t : Token) (b : Bool) → is_not (role_of t) ≡ b → Head t (λ ts. operator_at (t ∷ ts))
unfolding operator_at
operator-head t true e =
    let r = binding (expect sorts.Membership awaiting.Other) (λ u. let a : Read Operator = read_as (Two t u.0) u.1 in a) (expecting sorts.Membership awaiting.Other) (λ u. reading (Two t u)) in
    takes (record { within = λ ts. rw e (r.within ts); local = λ f v. rw e (r.local f v) })
operator-head t false e = let r = reading (One t) in takes (record { within = λ ts. rw e (r.within ts); local = λ f v. rw e (r.local f v) })

pub operating : IsReader operator_at
unfolding operator_at
operating = heading awaiting.Other operator_at refl (λ t. operator-head t (is_not (role_of t)) refl)

links-within : (p : Reader) → IsReader p → (j turns k : ℕ) (ts : Tokens) → Within ts (links turns j k p ts)
links-within p operand j zero k ts = tail-self ts
links-within p operand j (suc turns) k ts =
    choose-within ts (next_is (joins j k) ts) _ _
    (bind-within ts (operator_at ts) _ (operating.within ts) λ o less.
    bind-within ts (p o.1) _ (within-le o.1 ts (p o.1) less (operand.within o.1)) λ x fewer.
    bind-within ts (links turns j (suc k) p x.1) _ (within-le x.1 ts (links turns j (suc k) p x.1) fewer (links-within p operand j turns (suc k) x.1)) λ l least.
    least)
    (tail-self ts)

pub is_tail : (A : Type 0) (ts : Tokens) (p : Read A) (x : A × Tokens) → Within ts p → p ≡ Ok x → IsTail x.1 ts
is_tail A ts (Ok y) x h e = let P : A × Tokens → Type 0 = λ z. IsTail z.1 ts in subst P (ok_is y x e) h
is_tail A ts (Err s) x h e = absurd (cc)

links-local : (p : Reader) → IsReader p → (j turns turns' k : ℕ) (f : Fork) (v : Tokens) → length (left f v) ≤ turns → length (right f v) ≤ turns'
    → Out f (links turns j k p (left f v)) (links turns' j k p (right f v))
links-local p operand j zero turns' k f v enough enough' = absurd (omega (arith, left-some f v))
links-local p operand j (suc turns) zero k f v enough enough' = absurd (omega (arith, right-some f v))
links-local p operand j (suc turns) (suc turns') k f v enough enough' =
    choose-out f (next_is (joins j k) (left f v)) (next_is (joins j k) (right f v)) _ _ _ _ (next-same (joins j k) f v)
    (bind-out f (operator_at (left f v)) (operator_at (right f v)) _ _ (operating.local f v)
    (λ o w e.
    let so = operator-sound (left f v) (o, left f w) e in
    let shorter : length (left f w) < length (left f v) = omega (arith, ap length so.text, put_operator-longer o (left f w)) in
    let shorter' = lengths-strict f v w shorter in
    bind-out f (p (left f w)) (p (right f w)) _ _ (operand.local f w)
    (λ x u e'.
    let fewer : length (left f u) ≤ length (left f w) = tail-length (left f u) (left f w) (is_tail Tree (left f w) (p (left f w)) (x, left f u) (operand.within (left f w)) e') in
    let fewer' = lengths f w u fewer in
    bind-out f (links turns j (suc k) p (left f u)) (links turns' j (suc k) p (right f u)) _ _
    (links-local p operand j turns turns' (suc k) f u (omega (arith, shorter, fewer, enough)) (omega (arith, shorter', fewer', enough')))
    (λ l z e''. (reading (link o x l)).local f z)
    (λ l. tail-self l.1))
    (λ x.
    bind-within x.1 (links turns j (suc k) p x.1) _ (links-within p operand j turns (suc k) x.1) (λ l less. less)))
    (λ o.
    bind-within o.1 (p o.1) _ (operand.within o.1) (λ x less.
    bind-within o.1 (links turns j (suc k) p x.1) _ (within-le x.1 o.1 (links turns j (suc k) p x.1) less (links-within p operand j turns (suc k) x.1)) (λ l least. least))))
    ((reading none).local f v)

pub linking : (p : Reader) → IsReader p → (j : ℕ) → IsReader (all_links j p)
linking p operand j = record {
  within = λ ts. links-within p operand j (length ts) 0 ts;
  local = λ f v. links-local p operand j (length (left f v)) (length (right f v)) 0 f v (omega arith) (omega arith);
}

chaining : (p : Reader) → IsReader p → (n : ℕ) → IsReader (chain_at n p)
unfolding chain_at
chaining p operand n = binding p _ operand λ x. binding (all_links n p) _ (linking p operand n) λ l. reading (chained n x l)

pub climbing : (u : Reader) → IsReader u → (n : ℕ) → IsReader (climb n u)
unfolding climb
climbing u operand zero = operand
climbing u operand (suc zero) = operand
climbing u operand (suc (suc n)) = chaining (climb (suc n) u) (climbing u operand (suc n)) (suc n)

presenting : (p : Reader) → IsReader p → IsReader (present_at p)
unfolding present_at
presenting p value = heading awaiting.Other (present_at p) refl (λ t. takes (binding p (λ x. read_as (part t x.0) x.1) value λ x. reading (part t x)))

pub parting : (s : Expected) (p : Reader) → IsReader p → IsReader (part_at s p)
unfolding part_at
parting s p value = nexting (is_sort s) (present_at p) (read_as absent) (presenting p value) (reading absent)

square-opens : (r : Role) → is_open_square r ≡ true → opens r ≡ true
square-opens roles.OpenSquare h = refl
square-opens _ h = absurd (cc)

open-opens : (r : Role) → is_open r ≡ true → opens r ≡ true
open-opens roles.Open h = refl
open-opens _ h = absurd (cc)

brace-opens : (r : Role) → is_open_brace r ≡ true → opens r ≡ true
brace-opens roles.OpenBrace h = refl
brace-opens _ h = absurd (cc)

if-opens : (r : Role) → is_if r ≡ true → opens r ≡ true
if-opens roles.If h = refl
if-opens _ h = absurd (cc)

-- the readers one nesting further in
pub record AreReaders (i : Inner) : Type 0 where
  pub at : (n : ℕ) → IsReader (i.at n)
  pub wide : (n : ℕ) → IsReader (i.wide n)
  pub braces : IsReader i.braces

abbrev pub MayRead : Option Inner → Type 0
MayRead None = Unit {0}
MayRead (Some i) = AreReaders i

subscripting : (i : Inner) → AreReaders i → (n : Token) → IsReader (subscripts_at i n)
unfolding subscripts_at
subscripting i inner n =
    heading awaiting.Other (subscripts_at i n) refl (λ o. takes
    (binding (i.at 3) (λ x. all_links 0 (i.at 3) x.1 >>= λ l. expect sorts.CloseSquare awaiting.Other l.1 >>= λ c. read_as (indexed n o x.0 l.0 c.0) c.1) (inner.at 3) λ x.
    binding (all_links 0 (i.at 3)) _ (linking (i.at 3) (inner.at 3) 0) λ l. binding (expect sorts.CloseSquare awaiting.Other) _ (expecting sorts.CloseSquare awaiting.Other) λ c.
    reading (indexed n o x l c)))

pub naming : (o : Option Inner) → MayRead o → (n : Token) → IsReader (named_at o n)
unfolding named_at
naming None inner n = opening is_open_square (read_as (leaf n)) square-opens (reading (leaf n))
naming (Some i) inner n = nexting is_open_square (subscripts_at i n) (read_as (leaf n)) (subscripting i inner n) (reading (leaf n))

closing : (o : Token) (x : Tree) → IsReader (closed o x)
closing o x = binding (expect sorts.Close awaiting.Other) _ (expecting sorts.Close awaiting.Other) λ c. reading (parens o x c)

listing : (o : Token) (x : Tree) (l : Links) → IsReader (listed o x l)
listing o x none = closing o x
listing o x (link p y l) = binding (expect sorts.Close awaiting.Other) _ (expecting sorts.Close awaiting.Other) λ c. reading (tuple o x (link p y l) c)

parenthesizing : (i : Inner) → AreReaders i → (o : Token) → IsReader (parens_at i o)
unfolding parens_at parens_from
parenthesizing i inner o =
    binding (i.wide 10) _ (inner.wide 10) λ x.
    testing (λ ts. nat_le (precedence x) 3) (λ ts. all_links 0 (i.at 3) ts >>= λ l. listed o x l.0 l.1) (closed o x) (λ f v. refl)
    (binding (all_links 0 (i.at 3)) _ (linking (i.at 3) (inner.at 3) 0) λ l. listing o x l) (closing o x)

negating : (o : Option Inner) → MayRead o → (n : Token) → IsReader (negated_at o n)
unfolding negated_at not_shut
negating None inner n = opening is_open (rejected awaiting.Other) open-opens (refusing awaiting.Other)
negating (Some i) inner n =
    binding (expect sorts.Open awaiting.Other) _ (expecting sorts.Open awaiting.Other) λ o. binding (i.at 10) _ (inner.at 10) λ x.
    binding (expect sorts.Close awaiting.Other) _ (expecting sorts.Close awaiting.Other) λ c. reading (negated n o x c)

hollowing : (i : Inner) → AreReaders i → (o : Token) → IsReader (empty_braces_at i o)
unfolding empty_braces_at
hollowing i inner o =
    binding (part_at sorts.Colon (i.at 10)) _ (parting sorts.Colon (i.at 10) (inner.at 10)) λ p.
    binding (expect sorts.CloseBrace awaiting.Other) _ (expecting sorts.CloseBrace awaiting.Other) λ c. reading (empty o p c)

itemizing : (i : Inner) → AreReaders i → (o : Token) → IsReader (items_at i o)
unfolding items_at
itemizing i inner o =
    binding (i.at 8) _ (inner.at 8) λ x. binding (all_links 0 (i.at 8)) _ (linking (i.at 8) (inner.at 8) 0) λ l.
    binding (part_at sorts.Colon (i.at 10)) _ (parting sorts.Colon (i.at 10) (inner.at 10)) λ p.
    binding (expect sorts.CloseBrace awaiting.Other) _ (expecting sorts.CloseBrace awaiting.Other) λ c. reading (filled o x l p c)

bracing_at : (i : Inner) → AreReaders i → (o : Token) → IsReader (braces_at i o)
unfolding braces_at
bracing_at i inner o = nexting ends_braces (empty_braces_at i o) (items_at i o) (hollowing i inner o) (itemizing i inner o)

pub bracing : (o : Option Inner) → MayRead o → IsReader (braces o)
unfolding braces
bracing None inner = opening is_open_brace (rejected awaiting.Other) brace-opens (refusing awaiting.Other)
bracing (Some i) inner = binding (expect sorts.OpenBrace awaiting.Other) _ (expecting sorts.OpenBrace awaiting.Other) λ o. bracing_at i inner o

reducing : (i : Inner) → AreReaders i → (w : Token) → IsReader (reduction_at i w)
unfolding reduction_at
reducing i inner w = binding i.braces _ inner.braces λ b. binding (i.at 2) _ (inner.at 2) λ x. reading (reduced w b x)

choosing : (i : Inner) → AreReaders i → (w : Token) → IsReader (conditional_at i w)
unfolding conditional_at
choosing i inner w =
    binding (i.at 10) _ (inner.at 10) λ x. binding (expect sorts.Then awaiting.Other) _ (expecting sorts.Then awaiting.Other) λ t.
    binding (i.at 7) _ (inner.at 7) λ y. binding (part_at sorts.Else (i.wide 7)) _ (parting sorts.Else (i.wide 7) (inner.wide 7)) λ e. reading (choice w x t y e)

unary-head : (o : Option Inner) → MayRead o → (r : Role) (t : Token) → role_of t ≡ r → Head t (unary_at o r t)
unfolding unary_at
unary-head o inner roles.Name t is = takes (naming o inner t)
unary-head o inner roles.Number t is = takes (reading (leaf t))
unary-head o inner roles.Text t is = takes (reading (leaf t))
unary-head o inner roles.Not t is = takes (negating o inner t)
unary-head None inner roles.Open t is = deepens_it (rw is refl) (λ ts. refl)
unary-head None inner roles.OpenBrace t is = deepens_it (rw is refl) (λ ts. refl)
unary-head None inner roles.Sign t is = deepens_it (rw is refl) (λ ts. refl)
unary-head None inner roles.Reduction t is = deepens_it (rw is refl) (λ ts. refl)
unary-head (Some i) inner roles.Open t is = takes (parenthesizing i inner t)
unary-head (Some i) inner roles.OpenBrace t is = takes (binding (braces_at i t) (λ b. read_as (braced b.0) b.1) (bracing_at i inner t) λ b. reading (braced b))
unary-head (Some i) inner roles.Sign t is = takes (binding (i.at 1) (λ x. read_as (signed t x.0) x.1) (inner.at 1) λ x. reading (signed t x))
unary-head (Some i) inner roles.Reduction t is = takes (reducing i inner t)
unary-head o inner r t is = rejects_it awaiting.Other (λ ts. refl)

pub unarying : (o : Option Inner) → MayRead o → IsReader (unary o)
unfolding unary
unarying o inner = heading awaiting.Other (unary o) refl (λ t. unary-head o inner (role_of t) t refl)

pub widening : (o : Option Inner) → MayRead o → (n : ℕ) → IsReader (wide o n)
unfolding wide if_at
widening None inner n = opening is_if (climb n (unary None)) if-opens (climbing (unary None) (unarying None inner) n)
widening (Some i) inner n =
    nexting is_if (if_at (Some i)) (climb n (unary (Some i))) (heading awaiting.Other (if_at (Some i)) refl (λ t. takes (choosing i inner t))) (climbing (unary (Some i)) (unarying (Some i) inner) n)

pub inside-reads : (d : ℕ) → MayRead (nested d)
unfolding nested inner_of
inside-reads zero = tt
inside-reads (suc d) =
    let inner = inside-reads d in
    record { at = climbing (unary (nested d)) (unarying (nested d) inner); wide = widening (nested d) inner; braces = bracing (nested d) inner }
