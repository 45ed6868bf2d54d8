-- What is printed as a sum with a net term, or without one, is read as that sum.
use Rattle.std.specs.Prelude.{◌≡◌, ◌≤◌, ◌<◌, ◌+◌, ℕ, zero, suc, Bool, true, false, cond, nat_eq, List, [], ◌∷◌, length, Option, None, Some, Ok}
use Rattle.std.proofs.Common.{refl, sym, ap, ◌∙◌, arith, subst}
use Rattle.std.proofs.lemmas.Bool.{eqb-true}
use Rattle.std.proofs.lemmas.Bool.Decides.{nat_tests}
use Rattle.net_lex.specs.declared.token.Token.{Token}
use Rattle.net_tree.specs.declared.operator.OperatorWords.{OperatorWords as Operator}
use Rattle.net_tree.specs.declared.operator.OperatorWords.TheVariants.{One, Two}
use Rattle.net_tree.specs.declared.role.Role.{Role}
use Rattle.net_tree.specs.declared.role.Role.TheVariants as roles
use Rattle.net_tree.specs.Role.{role_of, is_not, is_sign, is_net}
use Rattle.net_tree.specs.Tree.{Tree, Links, leaf, indexed, parens, tuple, negated, braced, signed, reduced, chain, choice, net, none, link}
use Rattle.net_tree.specs.View.{links_from}
use Rattle.net_tree.specs.Print.{put, put_links}
use Rattle.net_tree.specs.Depth.{depth, links_depth}
use Rattle.net_tree.specs.WellFormed.{precedence, room, IsOperator, IsWellFormed, AreWellFormed}
use Rattle.net_tree.specs.Conditions.{IsFirstTerm, IsFurtherTerm, AreTerms, nets, nets_in, IsNetSum}
use Rattle.net_model.specs.declared.expected.Expected.TheVariants as sorts
use Rattle.net_model.specs.declared.model_parser.Awaiting.TheVariants as awaiting
use Rattle.net_model.specs.Reading.{Tokens, next_is}
use Rattle.net_model.specs.Expressions.{Inner, chained, chain_at, climb, unary_at, unary, nested, inner_of}
use Rattle.net_model.specs.Conditions.{signed_net_next, net_at, signed_net_at, term_at, first_term_at, further_term_at, sign_next, further_terms, sum_at}
use Rattle.net_model.proofs.Tools.{bind_ok, expect-complete}
use Rattle.net_model.proofs.Longer.{put-longer, put_operator-longer}
use Rattle.net_model.proofs.Grips.{Stops, grip, reach-below}
use Rattle.net_model.proofs.LinksComplete.{in_place, operator-complete}
use Rattle.net_model.proofs.Starts.{climb-no_net, unary-starts, starts}
use Rattle.net_model.proofs.TreesComplete.{trees-complete}
use Rattle.net_model.proofs.RowLaws.{Chain, put_all, CompleteStep, row-complete}
use Rattle.net_model.proofs.TermsSound.{left, product, IsFurther, put_further, put_further-links, IsSumOf, chained-text}
use Rattle.net_model.proofs.Unjoined.{sign_joins}

-- a term that is read, and whether a net term may come behind it
off : (free test : Bool) → test ≡ false → cond free test false ≡ false
off true test h = h
off false test h = refl

term_plain : (d : ℕ) (x : Tree) (free : Bool) (ts : Tokens) → IsWellFormed x → precedence x ≤ 2 → depth x ≤ d → Stops 1 ts → term_at (nested d) free (put x ts) ≡ Ok ((x, free), ts)
unfolding term_at
term_plain d x free ts level fits deep stops =
    let read = in_place d 2 1 x ts (trees-complete x d) level deep fits (omega arith) (omega arith) (reach-below (precedence x) 1 fits (omega arith)) stops in
    rw (off free (next_is is_net (put x ts)) (climb-no_net 2 (nested d) (put x ts) (x, ts) read), read) refl

taken : (free after : Bool) → 1 + left after ≡ left free → (free ≡ true) × (after ≡ false)
taken true false h = (refl, refl)
taken true true h = absurd (omega (arith, h))
taken false after h = absurd (omega (arith, h))

kept : (free after : Bool) → 0 + left after ≡ left free → after ≡ free
kept true true h = refl
kept false false h = refl
kept true false h = absurd (omega (arith, h))
kept false true h = absurd (omega (arith, h))

term_net : (o : Option Inner) (w : Token) (ts : Tokens) → is_net (role_of w) ≡ true → term_at o true (w ∷ ts) ≡ Ok ((net None w, false), ts)
unfolding term_at net_at
term_net o w ts h = rw (h, expect-complete sorts.Net awaiting.Other w ts h) refl

pub term-complete : (d : ℕ) (x : Tree) (free after : Bool) (ts : Tokens) → IsFurtherTerm x → depth x ≤ d → nets x + left after ≡ left free → Stops 1 ts
    → term_at (nested d) free (put x ts) ≡ Ok ((x, after), ts)
term-complete d (net s w) free after ts term deep total stops =
    let t = taken free after total in
    rw (t.0, t.1, term.0) (term_net (nested d) w ts term.1)
term-complete d x free after ts term deep total stops =
    let same : after ≡ free = kept free after total in
    rw same (term_plain d x free ts term.0 term.1 deep stops)

-- behind a sign that begins an expression no net term comes
sign_starts : (i : Inner) (s : Token) (ts : Tokens) (a : Tree × Tokens) (r : Role) → is_sign r ≡ true → unary_at (Some i) r s ts ≡ Ok a → (b : Tree × Tokens) × (i.at 1 ts ≡ Ok b)
unfolding unary_at
sign_starts i s ts a roles.Sign h k = let x = bind_ok _ _ _ k in (x.value, x.first)
sign_starts i s ts a _ h k = absurd (cc)

shut_sign : (s : Token) (ts : Tokens) (a : Tree × Tokens) (r : Role) → is_sign r ≡ true → unary_at None r s ts ≡ Ok a → ⊥
unfolding unary_at
shut_sign s ts a roles.Sign h k = cc
shut_sign s ts a _ h k = cc

no_net_start : (ts : Tokens) (r : Role) → starts r ≡ true → is_net r ≡ false
no_net_start ts roles.Net h = absurd (cc)
no_net_start ts _ h = refl

no_net_next : (ts : Tokens) → next_is starts ts ≡ true → next_is is_net ts ≡ false
no_net_next [] h = refl
no_net_next (t ∷ ts) h = no_net_start ts (role_of t) h

after_sign : (d : ℕ) (t : Token) (ts : Tokens) (a : Tree × Tokens) → is_sign (role_of t) ≡ true → unary (nested d) (t ∷ ts) ≡ Ok a → next_is is_net ts ≡ false
unfolding unary nested inner_of climb
after_sign zero t ts a signs h = absurd (shut_sign t ts a (role_of t) signs h)
after_sign (suc d) t ts a signs h =
    let b = sign_starts (inner_of (nested d)) t ts a (role_of t) signs h in
    no_net_next ts (unary-starts (nested d) ts b.0 b.1)

unary-no_signed_net : (d : ℕ) (ts : Tokens) (a : Tree × Tokens) → unary (nested d) ts ≡ Ok a → signed_net_next ts ≡ false
unary-no_signed_net d [] a h = refl
unary-no_signed_net d (t ∷ ts) a h = by (is_sign (role_of t)) refl
  where
    by : (b : Bool) → is_sign (role_of t) ≡ b → cond b (next_is is_net ts) false ≡ false
    by true e = after_sign d t ts a e h
    by false e = refl

pub climb-no_signed_net : (n d : ℕ) (ts : Tokens) (a : Tree × Tokens) → climb n (unary (nested d)) ts ≡ Ok a → signed_net_next ts ≡ false
unfolding climb chain_at
climb-no_signed_net zero d ts a h = unary-no_signed_net d ts a h
climb-no_signed_net (suc zero) d ts a h = unary-no_signed_net d ts a h
climb-no_signed_net (suc (suc n)) d ts a h = let x = bind_ok _ _ _ h in climb-no_signed_net (suc n) d ts x.value x.first

first_plain : (d : ℕ) (x : Tree) (free : Bool) (ts : Tokens) → IsWellFormed x → precedence x ≤ 2 → depth x ≤ d → Stops 1 ts → first_term_at (nested d) free (put x ts) ≡ Ok ((x, free), ts)
unfolding first_term_at
first_plain d x free ts level fits deep stops =
    let read = in_place d 2 1 x ts (trees-complete x d) level deep fits (omega arith) (omega arith) (reach-below (precedence x) 1 fits (omega arith)) stops in
    rw (off free (signed_net_next (put x ts)) (climb-no_signed_net 2 d (put x ts) (x, ts) read)) (term_plain d x free ts level fits deep stops)

net_no_sign : (r : Role) → is_net r ≡ true → is_sign r ≡ false
net_no_sign roles.Net h = refl
net_no_sign _ h = absurd (cc)

first_net : (o : Option Inner) (s : Option Token) (w : Token) (ts : Tokens) → IsWellFormed (net s w) → first_term_at o true (put (net s w) ts) ≡ Ok ((net s w, false), ts)
unfolding first_term_at signed_net_at
first_net o None w ts level = rw (net_no_sign (role_of w) level.1) (term_net o w ts level.1)
first_net o (Some s) w ts level = rw (level.0, level.1, expect-complete sorts.Sign awaiting.Other s (w ∷ ts) level.0, expect-complete sorts.Net awaiting.Other w ts level.1) refl

pub first_term-complete : (d : ℕ) (x : Tree) (free after : Bool) (ts : Tokens) → IsFirstTerm x → depth x ≤ d → nets x + left after ≡ left free → Stops 1 ts
    → first_term_at (nested d) free (put x ts) ≡ Ok ((x, after), ts)
first_term-complete d (net s w) free after ts term deep total stops =
    let t = taken free after total in
    rw (t.0, t.1) (first_net (nested d) s w ts term)
first_term-complete d x free after ts term deep total stops =
    let same : after ≡ free = kept free after total in
    rw same (first_plain d x free ts term.0 term.1 deep stops)

-- the further terms
parts : Links → List (Operator × Tree)
parts none = []
parts (link o x l) = (o, x) ∷ parts l

linked_parts : (l : Links) → links_from (parts l) ≡ l
unfolding parts
linked_parts none = refl
linked_parts (link o x l) = ap (link o x) (linked_parts l)

left-le : (b : Bool) → left b ≤ 1
left-le true = omega arith
left-le false = omega arith

middle : (n k : ℕ) (free after : Bool) → n + k + left after ≡ left free → (m : Bool) × (n + left m ≡ left free) × (k + left after ≡ left m)
middle zero k free after h = (free, omega arith, omega (arith, h))
middle (suc n) k free after h = (false, omega (arith, h, left-le free), omega (arith, h, left-le free))

steps_of : (d : ℕ) (free after : Bool) (l : Links) → AreTerms l → links_depth l ≤ d → nets_in l + left after ≡ left free → Chain (IsFurther d) free (parts l) after
unfolding parts
steps_of d free after none terms deep total = sym (kept free after total)
steps_of d free after (link (One t) x l) terms deep total =
    let m = middle (nets x) (nets_in l) free after total in
    (m.0, record { sign = t; one = refl; signs = terms.0; term = terms.1; within = omega (arith, deep); nets = m.1 }, steps_of d m.0 after l terms.2 (omega (arith, deep)) m.2)
steps_of d free after (link (Two t u) x l) terms deep total = absurd terms

sign-grip : (r : Role) → is_sign r ≡ true → grip r ≡ 2
sign-grip roles.Sign h = refl
sign-grip _ h = absurd (cc)

sign_no_not : (r : Role) → is_sign r ≡ true → is_not r ≡ false
sign_no_not roles.Sign h = refl
sign_no_not _ h = absurd (cc)

sign-stops : (t : Token) (r : Tokens) → is_sign (role_of t) ≡ true → Stops 1 (t ∷ r)
sign-stops t r h = let e = sign-grip (role_of t) h in omega (arith, e)

further-read : (d : ℕ) (free : Bool) (p : Operator × Tree) (after : Bool) (r : Tokens) → IsFurther d free p after → Stops 1 r → further_term_at (nested d) free (put_further p r) ≡ Ok ((p, after), r)
unfolding further_term_at
further-read d free p after r f stops =
    let level : IsOperator p.0 = rw f.one (sign_no_not (role_of f.sign) f.signs) in
    rw (operator-complete p.0 (put p.1 r) level, term-complete d p.1 free after r f.term f.within f.nets stops) refl

further_step : (d : ℕ) → CompleteStep put_further (IsFurther d) (Stops 1) (further_term_at (nested d)) sign_next
further_step d = record {
  longer = λ p r. omega (arith, put_operator-longer p.0 (put p.1 r), put-longer p.1 r);
  goes = λ s p m r f. rw f.one f.signs;
  lets = λ s p m r f. rw f.one (sign-stops f.sign (put p.1 r) f.signs);
  reads = λ s p m r f stops. further-read d s p m r f stops;
}

no_sign : (r : Role) → 2 < grip r → is_sign r ≡ false
no_sign roles.Sign h = absurd (omega arith)
no_sign _ h = refl

stops-sign : (ts : Tokens) → Stops 2 ts → next_is is_sign ts ≡ false
stops-sign [] h = refl
stops-sign (t ∷ ts) h = no_sign (role_of t) h

terms-complete : (d : ℕ) (free after : Bool) (l : Links) (ts : Tokens) → AreTerms l → links_depth l ≤ d → nets_in l + left after ≡ left free → Stops 2 ts
    → further_terms (nested d) free (put_links l ts) ≡ Ok ((parts l, after), ts)
unfolding further_terms
terms-complete d free after l ts terms deep total stops =
    let text : put_all put_further (parts l) ts ≡ put_links l ts = put_further-links (parts l) ts ∙ ap (λ k. put_links k ts) (linked_parts l) in
    let read = row-complete put_further (IsFurther d) (Stops 1) (further_term_at (nested d)) sign_next (further_step d) (length (put_all put_further (parts l) ts)) free (parts l) after ts
    (omega arith) (steps_of d free after l terms deep total) (omega (arith, stops)) (stops-sign ts stops) in
    rw text at read

terms-stop : (l : Links) (ts : Tokens) → AreTerms l → Stops 2 ts → Stops 1 (put_links l ts)
terms-stop none ts terms stops = omega (arith, stops)
terms-stop (link (One t) x l) ts terms stops = sign-stops t (put x (put_links l ts)) terms.0
terms-stop (link (Two t u) x l) ts terms stops = absurd terms

read_sum : (d : ℕ) (after : Bool) (x : Tree) (l : Links) (ts : Tokens) → IsFirstTerm x → AreTerms l → depth x ≤ d → links_depth l ≤ d → nets x + nets_in l + left after ≡ 1 → Stops 2 ts
    → sum_at (nested d) true (put x (put_links l ts)) ≡ Ok ((chained 2 x l, after), ts)
unfolding sum_at
read_sum d after x l ts first terms deep deep' total stops =
    let m = middle (nets x) (nets_in l) true after total in
    rw (first_term-complete d x true m.0 (put_links l ts) first deep m.1 (terms-stop l ts terms stops), terms-complete d m.0 after l ts terms deep' m.2 stops, linked_parts l) refl

-- a sum as its first term and the further ones
record Terms (x : Tree) : Type 0 where
  first : Tree
  more : Links
  same : chained 2 first more ≡ x
  is_first : IsFirstTerm first
  are_terms : AreTerms more
  no_nets : nets first + nets_in more ≡ 0

further_plain : (x : Tree) → IsWellFormed x → precedence x ≤ 2 → IsFurtherTerm x × (nets x ≡ 0)
further_plain x level fits = let p = product x level fits in (p.further, p.no_net)

room-two : (x : Tree) (l : Links) → precedence x ≤ room 2 l → precedence x ≤ 2
room-two x none h = h
room-two x (link o y l) h = h

plain_terms : (k : ℕ) (l : Links) → AreWellFormed 2 2 k l → AreTerms l × (nets_in l ≡ 0)
plain_terms k none are = (tt, refl)
plain_terms k (link (One t) x l) are =
    let p = further_plain x are.2 (room-two x l are.3) in
    let rest = plain_terms (suc k) l are.4 in
    ((sign_joins k t are.0, p.0, rest.0), omega (arith, p.1, rest.1))
plain_terms k (link (Two t u) x l) are =
    let s = sign_joins k t are.0 in absurd (let e = sign_no_not (role_of t) s in let k = are.1.0 in cc)

alone : (x : Tree) → IsWellFormed x → precedence x ≤ 2 → Terms x
alone x level fits =
    let p = product x level fits in
    record { first = x; more = none; same = refl; is_first = p.first; are_terms = tt; no_nets = omega (arith, p.no_net) }

several : (x : Tree) (l : Links) → IsWellFormed (chain 2 x l) → Terms (chain 2 x l)
several x none level = absurd level.4
several x (link o y l) level =
    let p = product x level.2 level.3 in
    let t = plain_terms 0 (link o y l) level.5 in
    record { first = x; more = link o y l; same = refl; is_first = p.first; are_terms = t.0; no_nets = omega (arith, p.no_net, t.1) }

chain_terms : (n : ℕ) (x : Tree) (l : Links) (b : Bool) → nat_eq n 2 ≡ b → IsWellFormed (chain n x l) → suc n ≤ 3 → Terms (chain n x l)
chain_terms n x l true e level fits =
    let same : n ≡ 2 = eqb-true n 2 e in
    let P : ℕ → Type 0 = λ k. IsWellFormed (chain k x l) → Terms (chain k x l) in
    subst P (sym same) (several x l) level
chain_terms n x l false e level fits = alone (chain n x l) level (grind (arith, nat_tests))

sum_terms : (x : Tree) → IsWellFormed x → precedence x ≤ 3 → Terms x
sum_terms (chain n x l) level fits = chain_terms n x l (nat_eq n 2) refl level fits
sum_terms (signed s x) level fits = alone (signed s x) level (omega (arith, level.2))
sum_terms (choice i x t y e) level fits = absurd (omega (arith, fits))
sum_terms (net s w) level fits = absurd (omega (arith, fits))
sum_terms (leaf t) level fits = alone (leaf t) level (omega arith)
sum_terms (indexed n o x l c) level fits = alone (indexed n o x l c) level (omega arith)
sum_terms (parens o x c) level fits = alone (parens o x c) level (omega arith)
sum_terms (tuple o x l c) level fits = alone (tuple o x l c) level (omega arith)
sum_terms (negated n o x c) level fits = alone (negated n o x c) level (omega arith)
sum_terms (braced b) level fits = alone (braced b) level (omega arith)
sum_terms (reduced w b x) level fits = alone (reduced w b x) level (omega arith)

chained-parts : (d : ℕ) (x : Tree) (l : Links) → depth (chained 2 x l) ≤ d → (depth x ≤ d) × (links_depth l ≤ d)
chained-parts d x none h = (h, omega arith)
chained-parts d x (link o y l) h = (omega (arith, h), omega (arith, h))

plain_sum : (d : ℕ) (x : Tree) (ts : Tokens) → Terms x → depth x ≤ d → Stops 2 ts → sum_at (nested d) true (put x ts) ≡ Ok ((x, true), ts)
plain_sum d x ts t deep stops =
    let deep' = chained-parts d t.first t.more (rw t.same deep) in
    let read = read_sum d true t.first t.more ts t.is_first t.are_terms deep'.0 deep'.1 (omega (arith, t.no_nets)) stops in
    let text : put t.first (put_links t.more ts) ≡ put x ts = sym (chained-text t.first t.more ts) ∙ ap (λ y. put y ts) t.same in
    rw (text, t.same) at read

net_sum : (d : ℕ) (x : Tree) (ts : Tokens) → IsNetSum x → depth x ≤ d → Stops 2 ts → sum_at (nested d) true (put x ts) ≡ Ok ((x, false), ts)
net_sum d (net s w) ts sum deep stops = read_sum d false (net s w) none ts sum tt deep (omega arith) (omega arith) stops
net_sum d (chain n x none) ts sum deep stops = absurd sum.2
net_sum d (chain n x (link o y l)) ts sum deep stops =
    let read = read_sum d false x (link o y l) ts sum.1 sum.3 (omega (arith, deep)) (omega (arith, deep)) (omega (arith, sum.4)) stops in
    rw (ap (λ k. chain k x (link o y l)) sum.0) read
net_sum d x ts sum deep stops = absurd sum

pub sum-complete : (d : ℕ) (free : Bool) (x : Tree) (ts : Tokens) → IsSumOf free x → depth x ≤ d → Stops 2 ts → sum_at (nested d) true (put x ts) ≡ Ok ((x, free), ts)
sum-complete d true x ts sum deep stops = plain_sum d x ts (sum_terms x sum.0 sum.1) deep stops
sum-complete d false x ts sum deep stops = net_sum d x ts sum deep stops
