-- The reader of models looks at no token behind the one at which it stops.
use Rattle.std.specs.Prelude.{◌≡◌, ◌≤◌, ◌<◌, ℕ, zero, suc, Bool, true, false, cond, [], ◌∷◌, length, Option, None, Some, Ok}
use Rattle.std.proofs.Common.{refl, sym, ap, ◌∙◌, arith}
use Rattle.net_lex.specs.declared.token.Token.{Token}
use Rattle.net_tree.specs.declared.operator.OperatorWords.{OperatorWords as Operator}
use Rattle.net_tree.specs.declared.role.Declares.{Declares}
use Rattle.net_tree.specs.declared.role.Declares.TheVariants as declares
use Rattle.net_tree.specs.declared.role.Role.{Role}
use Rattle.net_tree.specs.declared.role.Role.TheVariants as roles
use Rattle.net_tree.specs.Role.{role_of, is_open_brace, is_colon, is_comma, is_semicolon, is_sign, is_net}
use Rattle.net_tree.specs.Tree.{Tree, signed, net, leaf, plain, valued, priced, Phrase, unsaid, one, between, Declaration, set, param, check, node, arc, objective}
use Rattle.net_tree.specs.View.{links_from}
use Rattle.net_model.specs.declared.phrases.Owner.{Owner}
use Rattle.net_model.specs.declared.phrases.Owner.TheVariants as owners
use Rattle.net_model.specs.declared.phrases.Slot.{Slot}
use Rattle.net_model.specs.declared.phrases.Slot.TheVariants as slots
use Rattle.net_model.specs.declared.phrases.Stood.{Stood}
use Rattle.net_model.specs.declared.expected.Expected.TheVariants as sorts
use Rattle.net_model.specs.declared.model_parser.Awaiting.TheVariants as awaiting
use Rattle.net_model.specs.Reading.{Tokens, Read, ◌>>=◌, read_as, rejected, next_is, expect}
use Rattle.net_model.specs.Rows.{Step, row}
use Rattle.net_model.specs.Expressions.{Inner, operator_at, all_links, chained, chain_at, climb, part_at, unary, wide, named_at, braces, inner_of, nested}
use Rattle.net_model.specs.Conditions.{net_next, signed_net_next, net_at, signed_net_at, term_at, first_term_at, further_term_at, sign_next, further_terms, sum_at, chains, high_at, middle_at, bounded_at, said_at, condition_at}
use Rattle.net_model.specs.Phrases.{slot_of, stood_before, and_then_stood, nothing_stood, goes_on, phrase_next, awaited, body_of, phrase_of_slot, worded, comma_at, phrase_at, phrases, phrases_end}
use Rattle.net_model.specs.Declarations.{indexing_at, set_at, param_at, check_at, node_at, arc_at, after_objective, objective_at, declared_at, declaration_of_role, declaration_at, any_left, declaration_step, model_at}
use Rattle.net_model.proofs.Tools.{bind_ok, ok_is}
use Rattle.net_model.proofs.Longer.{put_operator-longer}
use Rattle.net_model.proofs.LinksSound.{operator-sound}
use Rattle.net_model.proofs.TreesComplete.{at_sign}
use Rattle.net_model.proofs.Readers.{tail-self, tail-next, tail-length, Fork, left, right, lengths-strict, left-some, right-some, Within, within-le, bind-within, Out, reads, passed, bind-out, choose-out, choose-within, next-same, IsReader, reading, refusing, binding, testing, nexting, Head, takes, rejects_it, deepens_it, heading, expecting}
use Rattle.net_model.proofs.LocalTrees.{operating, linking, climbing, parting, AreReaders, MayRead, naming, bracing, unarying, widening, inside-reads, is_tail}

-- things in a row, each of which takes a token at least
abbrev Takes : {A S : Type 0} → Step A S → Type 0
Takes {A} {S} step = (s : S) (ts : Tokens) (x : (A × S) × Tokens) → step s ts ≡ Ok x → length x.1 < length ts

row-within : {A S : Type 0} (step : Step A S) (more : S → Tokens → Bool) → ((s : S) → IsReader (step s)) → (turns : ℕ) (s : S) (ts : Tokens) → Within ts (row turns step more s ts)
row-within step more each zero s ts = tail-self ts
row-within step more each (suc turns) s ts =
    choose-within ts (more s ts) _ _
    (bind-within ts (step s ts) _ ((each s).within ts) λ x less.
    bind-within ts (row turns step more x.0.1 x.1) _ (within-le x.1 ts (row turns step more x.0.1 x.1) less (row-within step more each turns x.0.1 x.1)) λ l least. least)
    (tail-self ts)

row-local : {A S : Type 0} (step : Step A S) (more : S → Tokens → Bool) → ((s : S) → IsReader (step s)) → Takes step → ((s : S) (f : Fork) (v : Tokens) → more s (left f v) ≡ more s (right f v))
    → (turns turns' : ℕ) (s : S) (f : Fork) (v : Tokens) → length (left f v) ≤ turns → length (right f v) ≤ turns' → Out f (row turns step more s (left f v)) (row turns' step more s (right f v))
row-local step more each strict same zero turns' s f v enough enough' = absurd (omega (arith, left-some f v))
row-local step more each strict same (suc turns) zero s f v enough enough' = absurd (omega (arith, right-some f v))
row-local step more each strict same (suc turns) (suc turns') s f v enough enough' =
    choose-out f (more s (left f v)) (more s (right f v)) _ _ _ _ (same s f v)
    (bind-out f (step s (left f v)) (step s (right f v)) _ _ ((each s).local f v)
    (λ x w e.
    let shorter = strict s (left f v) (x, left f w) e in
    let shorter' = lengths-strict f v w shorter in
    bind-out f (row turns step more x.1 (left f w)) (row turns' step more x.1 (right f w)) _ _
    (row-local step more each strict same turns turns' x.1 f w (omega (arith, shorter, enough)) (omega (arith, shorter', enough')))
    (λ l u e'. (reading (x.0 ∷ l.0, l.1)).local f u)
    (λ l. tail-self l.1))
    (λ x. bind-within x.1 (row turns step more x.0.1 x.1) _ (row-within step more each turns x.0.1 x.1) (λ l less. less)))
    ((reading ([], s)).local f v)

rowing : {A S : Type 0} (step : Step A S) (more : S → Tokens → Bool) → ((s : S) → IsReader (step s)) → Takes step → ((s : S) (f : Fork) (v : Tokens) → more s (left f v) ≡ more s (right f v))
    → (s : S) → IsReader (λ ts. row (length ts) step more s ts)
rowing step more each strict same s = record {
  within = λ ts. row-within step more each (length ts) s ts;
  local = λ f v. row-local step more each strict same (length (left f v)) (length (right f v)) s f v (omega arith) (omega arith);
}

-- a reader that takes a first token takes one
head-strict : {A : Type 0} (t : Token) (p : Tokens → Read A) → Head t p → (ts : Tokens) (x : A × Tokens) → p ts ≡ Ok x → length x.1 ≤ length ts
head-strict {A} t p (takes r) ts x e = tail-length x.1 ts (is_tail A ts (p ts) x (r.within ts) e)
head-strict t p (rejects_it a h) ts x e = absurd (let k = sym (h ts) ∙ e in cc)
head-strict t p (deepens_it o h) ts x e = absurd (let k = sym (h ts) ∙ e in cc)

-- terms
free_same : (free : Bool) (f : Fork) (v : Tokens) → cond free (net_next (left f v)) false ≡ cond free (net_next (right f v)) false
free_same true f v = next-same is_net f v
free_same false f v = refl

net_reading : IsReader net_at
unfolding net_at
net_reading = binding (expect sorts.Net awaiting.Other) _ (expecting sorts.Net awaiting.Other) λ w. reading (net None w)

terming : (o : Option Inner) → MayRead o → (free : Bool) → IsReader (term_at o free)
unfolding term_at
terming o inner free =
    testing (λ ts. cond free (net_next ts) false) (λ ts. net_at ts >>= λ x. read_as (x.0, false) x.1) (λ ts. climb 2 (unary o) ts >>= λ x. read_as (x.0, free) x.1) (free_same free)
    (binding net_at _ net_reading λ x. reading (x, false)) (binding (climb 2 (unary o)) _ (climbing (unary o) (unarying o inner) 2) λ x. reading (x, free))

signed_net_reading : IsReader signed_net_at
unfolding signed_net_at
signed_net_reading =
    binding (expect sorts.Sign awaiting.Other) _ (expecting sorts.Sign awaiting.Other) λ s. binding (expect sorts.Net awaiting.Other) _ (expecting sorts.Net awaiting.Other) λ w. reading (net (Some s) w)

-- what begins with a sign passes it
sign_no_net : (r : Role) → is_sign r ≡ true → is_net r ≡ false
sign_no_net roles.Sign h = refl
sign_no_net _ h = absurd (cc)

unary-passes : (i : Inner) → AreReaders i → (t : Token) (ts : Tokens) → is_sign (role_of t) ≡ true → Within ts (unary (Some i) (t ∷ ts))
unfolding unary
unary-passes i inner t ts signs =
    let r = binding (i.at 1) (λ x. let a : Read Tree = read_as (signed t x.0) x.1 in a) (inner.at 1) λ x. reading (signed t x) in
    rw (at_sign i t ts (role_of t) signs) (r.within ts)

product-passes : (i : Inner) → AreReaders i → (t : Token) (ts : Tokens) → is_sign (role_of t) ≡ true → Within ts (climb 2 (unary (Some i)) (t ∷ ts))
unfolding climb chain_at
product-passes i inner t ts signs =
    bind-within ts (unary (Some i) (t ∷ ts)) _ (unary-passes i inner t ts signs) λ x less.
    within-le x.1 ts _ less ((binding (all_links 1 (unary (Some i))) (λ l. let a : Read Tree = read_as (chained 1 x.0 l.0) l.1 in a) (linking (unary (Some i)) (unarying (Some i) inner) 1) λ l. reading (chained 1 x.0 l)).within x.1)

term-passes : (i : Inner) → AreReaders i → (t : Token) (ts : Tokens) → is_sign (role_of t) ≡ true → Within ts (term_at (Some i) true (t ∷ ts))
unfolding term_at
term-passes i inner t ts signs =
    rw (sign_no_net (role_of t) signs) (bind-within ts (climb 2 (unary (Some i)) (t ∷ ts)) _ (product-passes i inner t ts signs) λ x less. less)

signed_net-passes : (t : Token) (ts : Tokens) → is_sign (role_of t) ≡ true → Within ts (signed_net_at (t ∷ ts))
unfolding signed_net_at expect
signed_net-passes t ts signs =
    rw signs ((binding (expect sorts.Net awaiting.Other) (λ w. let a : Read Tree = read_as (net (Some t) w.0) w.1 in a) (expecting sorts.Net awaiting.Other) λ w. reading (net (Some t) w)).within ts)

first-passes : (i : Inner) → AreReaders i → (t : Token) (ts : Tokens) → is_sign (role_of t) ≡ true → (b : Bool)
    → Within ts (cond b (signed_net_at (t ∷ ts) >>= λ x. read_as (x.0, false) x.1) (term_at (Some i) true (t ∷ ts)))
first-passes i inner t ts signs true = bind-within ts (signed_net_at (t ∷ ts)) _ (signed_net-passes t ts signs) λ x less. less
first-passes i inner t ts signs false = term-passes i inner t ts signs

signed_first : Tokens → Read (Tree × Bool)
signed_first ts = signed_net_at ts >>= λ x. read_as (x.0, false) x.1

signed_first_reading : IsReader signed_first
unfolding signed_first
signed_first_reading = binding signed_net_at (λ x. read_as (x.0, false) x.1) signed_net_reading λ x. reading (x, false)

first-here : (i : Inner) → AreReaders i → (f : Fork) (b : Bool) → is_sign (role_of f.token) ≡ b → Out f (first_term_at (Some i) true (left f [])) (first_term_at (Some i) true (right f []))
unfolding first_term_at
first-here i inner f true signs = passed (rw signs (first-passes i inner f.token f.rest signs (next_is is_net f.rest)))
first-here i inner f false signs = rw signs ((terming (Some i) inner true).local f [])

signed_next_same : (f : Fork) (t : Token) (v : Tokens) → signed_net_next (left f (t ∷ v)) ≡ signed_net_next (right f (t ∷ v))
signed_next_same f t v = ap (λ b. cond (is_sign (role_of t)) b false) (next-same is_net f v)

first-local : (i : Inner) → AreReaders i → (f : Fork) (v : Tokens) → Out f (first_term_at (Some i) true (left f v)) (first_term_at (Some i) true (right f v))
unfolding first_term_at signed_first
first-local i inner f [] = first-here i inner f (is_sign (role_of f.token)) refl
first-local i inner f (t ∷ v) =
    choose-out f (signed_net_next (left f (t ∷ v))) (signed_net_next (right f (t ∷ v))) _ _ _ _ (signed_next_same f t v) (signed_first_reading.local f (t ∷ v)) ((terming (Some i) inner true).local f (t ∷ v))

first_terming : (i : Inner) → AreReaders i → IsReader (first_term_at (Some i) true)
unfolding first_term_at signed_first
first_terming i inner = record {
  within = λ ts. choose-within ts (signed_net_next ts) _ _ (signed_first_reading.within ts) ((terming (Some i) inner true).within ts);
  local = first-local i inner;
}

further_terming : (i : Inner) → AreReaders i → (free : Bool) → IsReader (further_term_at (Some i) free)
unfolding further_term_at
further_terming i inner free = binding operator_at _ operating λ p. binding (term_at (Some i) free) _ (terming (Some i) inner free) λ x. reading ((p, x.0), x.1)

further-takes : (i : Inner) → AreReaders i → Takes (further_term_at (Some i))
unfolding further_term_at
further-takes i inner free ts x e =
    let p = bind_ok _ _ _ e in
    let sp = operator-sound ts p.value p.first in
    let after : Within p.value.1 (term_at (Some i) free p.value.1 >>= λ x. let a : Read ((Operator × Tree) × Bool) = read_as ((p.value.0, x.0.0), x.0.1) x.1 in a) =
    bind-within p.value.1 (term_at (Some i) free p.value.1) _ ((terming (Some i) inner free).within p.value.1) (λ y less. less) in
    let less = tail-length x.1 p.value.1 (is_tail ((Operator × Tree) × Bool) p.value.1 _ x after p.after) in
    omega (arith, less, ap length sp.text, put_operator-longer p.value.0 p.value.1)

summing : (i : Inner) → AreReaders i → IsReader (sum_at (Some i) true)
unfolding sum_at further_terms
summing i inner =
    binding (first_term_at (Some i) true) _ (first_terming i inner) λ x.
    binding (λ ts. row (length ts) (further_term_at (Some i)) sign_next x.1 ts) (λ l. read_as (chained 2 x.0 (links_from l.0.0), l.0.1) l.1)
    (rowing (further_term_at (Some i)) sign_next (further_terming i inner) (further-takes i inner) (λ s f v. next-same is_sign f v) x.1) λ l.
    reading (chained 2 x.0 (links_from l.0), l.1)

-- conditions
highing : (i : Inner) → AreReaders i → (m : Token) (x : Tree) (p : Token) (y : Tree) → IsReader (high_at (Some i) m x p y)
unfolding high_at
highing i inner m x p y =
    nexting (chains (role_of p)) (λ ts. expect sorts.Bound awaiting.Other ts >>= λ q. climb 3 (unary (Some i)) q.1 >>= λ z. read_as (between m x p y q.0 z.0) z.1) (read_as (one m x p y))
    (binding (expect sorts.Bound awaiting.Other) _ (expecting sorts.Bound awaiting.Other) λ q. binding (climb 3 (unary (Some i))) _ (climbing (unary (Some i)) (unarying (Some i) inner) 3) λ z. reading (between m x p y q z))
    (reading (one m x p y))

middling : (i : Inner) → AreReaders i → (m : Token) (x : Tree) (p : Token) → IsReader (middle_at (Some i) m x p)
unfolding middle_at
middling i inner m x p =
    binding (sum_at (Some i) true) _ (summing i inner) λ y.
    testing (λ ts. y.1) (rejected awaiting.Other) (high_at (Some i) m x p y.0) (λ f v. refl) (refusing awaiting.Other) (highing i inner m x p y.0)

bounding : (i : Inner) → AreReaders i → (m : Token) (x : Tree) (free : Bool) (p : Token) → IsReader (bounded_at (Some i) m x free p)
unfolding bounded_at
bounding i inner m x true p = middling i inner m x p
bounding i inner m x false p = binding (climb 3 (unary (Some i))) _ (climbing (unary (Some i)) (unarying (Some i) inner) 3) λ y. reading (one m x p y)

conditioning : (i : Inner) → AreReaders i → IsReader (condition_at (Some i))
unfolding condition_at said_at
conditioning i inner =
    nexting is_colon (said_at (Some i)) (read_as unsaid)
    (binding (expect sorts.Colon awaiting.Other) _ (expecting sorts.Colon awaiting.Other) λ m. binding (sum_at (Some i) true) _ (summing i inner) λ x.
    binding (expect sorts.Bound awaiting.Other) _ (expecting sorts.Bound awaiting.Other) λ p. bounding i inner m x.0 x.1 p)
    (reading unsaid)

-- phrases
bodying : (o : Option Inner) → MayRead o → (s : Slot) → IsReader (body_of o s)
bodying o inner slots.Nothing = reading plain
bodying o inner slots.Number = binding (expect sorts.Number awaiting.Other) _ (expecting sorts.Number awaiting.Other) λ t. reading (valued (leaf t))
bodying o inner slots.Set = binding (climb 7 (unary o)) _ (climbing (unary o) (unarying o inner) 7) λ x. reading (valued x)
bodying o inner slots.Sum = binding (climb 3 (unary o)) _ (climbing (unary o) (unarying o inner) 3) λ x. reading (valued x)
bodying o inner slots.Value = binding (wide o 7) _ (widening o inner 7) λ x. reading (valued x)
bodying o inner slots.Node = binding (expect sorts.Name awaiting.Other) _ (expecting sorts.Name awaiting.Other) λ n. binding (named_at o n) _ (naming o inner n) λ x. reading (valued x)
bodying o inner slots.Price =
    binding (expect sorts.Name awaiting.Objective) _ (expecting sorts.Name awaiting.Objective) λ n. binding (climb 3 (unary o)) _ (climbing (unary o) (unarying o inner) 3) λ x. reading (priced n x)

slot-head : (o : Option Inner) → MayRead o → (c : Option Token) (w : Token) (s : Stood) (slot : Option Slot) → Head w (phrase_of_slot o c w s slot)
slot-head o inner c w s None = rejects_it awaiting.Phrase (λ ts. refl)
slot-head o inner c w s (Some slot) = takes (binding (body_of o slot) (λ b. read_as (record { comma = c; word = w; body = b.0 }, s) b.1) (bodying o inner slot) λ b. reading (record { comma = c; word = w; body = b }, s))

choose-head : {A : Type 0} (t : Token) (b : Bool) (p q : Tokens → Read A) → Head t p → Head t q → Head t (λ ts. cond b (p ts) (q ts))
choose-head t true p q h k = h
choose-head t false p q h k = k

word-head : (o : Option Inner) → MayRead o → (owner : Owner) (s : Stood) (c : Option Token) (w : Token) → Head w (λ ts. worded o owner s c (w ∷ ts))
unfolding worded
word-head o inner owner s c w =
    choose-head w (stood_before owner s (role_of w)) (λ ts. rejected awaiting.FurtherPhrase (w ∷ ts)) (phrase_of_slot o c w (and_then_stood s (role_of w)) (slot_of owner (role_of w)))
    (rejects_it awaiting.FurtherPhrase (λ ts. refl)) (slot-head o inner c w (and_then_stood s (role_of w)) (slot_of owner (role_of w)))

wording : (o : Option Inner) → MayRead o → (owner : Owner) (s : Stood) (c : Option Token) → IsReader (worded o owner s c)
unfolding worded
wording o inner owner s c = heading awaiting.Phrase (worded o owner s c) refl (word-head o inner owner s c)

worded-takes : (o : Option Inner) → MayRead o → (owner : Owner) (s : Stood) (c : Option Token) (ts : Tokens) (x : (Phrase × Stood) × Tokens) → worded o owner s c ts ≡ Ok x → length x.1 < length ts
unfolding worded
worded-takes o inner owner s c [] x e = absurd (cc)
worded-takes o inner owner s c (w ∷ ts) x e = let h = head-strict w (λ ts. worded o owner s c (w ∷ ts)) (word-head o inner owner s c w) ts x e in omega (arith, h)

comma-within : (ts : Tokens) → Within ts (comma_at ts)
unfolding comma_at
comma-within [] = tail-self []
comma-within (t ∷ ts) = choose-within (t ∷ ts) (is_comma (role_of t)) (read_as (Some t) ts) (read_as None (t ∷ ts)) (tail-next t ts) (tail-self (t ∷ ts))

comma-here : (f : Fork) (b : Bool) → is_comma (role_of f.token) ≡ b → Out f (comma_at (left f [])) (comma_at (right f []))
unfolding comma_at
comma-here f true e = passed (rw e (tail-self f.rest))
comma-here f false e = rw e (reads None [] refl refl)

comma-before : (f : Fork) (t : Token) (v : Tokens) (b : Bool) → is_comma (role_of t) ≡ b → Out f (comma_at (left f (t ∷ v))) (comma_at (right f (t ∷ v)))
unfolding comma_at
comma-before f t v true e = rw e (reads (Some t) v refl refl)
comma-before f t v false e = rw e (reads None (t ∷ v) refl refl)

comma-local : (f : Fork) (v : Tokens) → Out f (comma_at (left f v)) (comma_at (right f v))
comma-local f [] = comma-here f (is_comma (role_of f.token)) refl
comma-local f (t ∷ v) = comma-before f t v (is_comma (role_of t)) refl

phrasing : (o : Option Inner) → MayRead o → (owner : Owner) (s : Stood) → IsReader (phrase_at o owner s)
unfolding phrase_at
phrasing o inner owner s = binding comma_at _ (record { within = comma-within; local = comma-local }) λ c. wording o inner owner s c

phrase-takes : (o : Option Inner) → MayRead o → (owner : Owner) → Takes (phrase_at o owner)
unfolding phrase_at
phrase-takes o inner owner s ts x e =
    let c = bind_ok (comma_at ts) _ x e in
    let h = worded-takes o inner owner s c.value.0 c.value.1 x c.after in
    let k = tail-length c.value.1 ts (is_tail (Option Token) ts (comma_at ts) c.value (comma-within ts) c.first) in
    omega (arith, h, k)

phrases_reading : (o : Option Inner) → MayRead o → (owner : Owner) → IsReader (phrases o owner)
unfolding phrases
phrases_reading o inner owner = rowing (phrase_at o owner) (phrase_next owner) (phrasing o inner owner) (phrase-takes o inner owner) (λ s f v. next-same (goes_on owner s) f v) nothing_stood

end-head : (owner : Owner) (s : Stood) (t : Token) → Head t (λ ts. phrases_end owner s (t ∷ ts))
unfolding phrases_end
end-head owner s t =
    choose-head t (is_semicolon (role_of t)) (read_as t) (λ ts. rejected (awaited owner s (role_of t)) (t ∷ ts)) (takes (reading t)) (rejects_it (awaited owner s (role_of t)) (λ ts. refl))

ending : (owner : Owner) (s : Stood) → IsReader (phrases_end owner s)
unfolding phrases_end
ending owner s = heading awaiting.Phrase (phrases_end owner s) refl (end-head owner s)

-- declarations
indexing : (o : Option Inner) → MayRead o → IsReader (indexing_at o)
unfolding indexing_at
indexing o inner = nexting is_open_brace (λ ts. braces o ts >>= λ b. read_as (Some b.0) b.1) (read_as None) (binding (braces o) _ (bracing o inner) λ b. reading (Some b)) (reading None)

declaring : (i : Inner) → AreReaders i → (k : Declares) (w : Token) → IsReader (declared_at (Some i) k w)
unfolding declared_at set_at param_at check_at node_at arc_at objective_at
declaring i inner declares.Set w =
    binding (expect sorts.Name awaiting.Other) _ (expecting sorts.Name awaiting.Other) λ n. binding (phrases (Some i) owners.Set) _ (phrases_reading (Some i) inner owners.Set) λ p.
    binding (phrases_end owners.Set p.1) _ (ending owners.Set p.1) λ e. reading (set w n p.0 e)
declaring i inner declares.Param w =
    binding (expect sorts.Name awaiting.Other) _ (expecting sorts.Name awaiting.Other) λ n. binding (indexing_at (Some i)) _ (indexing (Some i) inner) λ b.
    binding (phrases (Some i) owners.Param) _ (phrases_reading (Some i) inner owners.Param) λ p.
    binding (phrases_end owners.Param p.1) _ (ending owners.Param p.1) λ e. reading (param w n b p.0 e)
declaring i inner declares.Arc w =
    binding (expect sorts.Name awaiting.Other) _ (expecting sorts.Name awaiting.Other) λ n. binding (indexing_at (Some i)) _ (indexing (Some i) inner) λ b.
    binding (phrases (Some i) owners.Arc) _ (phrases_reading (Some i) inner owners.Arc) λ p.
    binding (phrases_end owners.Arc p.1) _ (ending owners.Arc p.1) λ e. reading (arc w n b p.0 e)
declaring i inner declares.Check w =
    binding (indexing_at (Some i)) _ (indexing (Some i) inner) λ b. binding (expect sorts.Colon awaiting.Other) _ (expecting sorts.Colon awaiting.Other) λ m.
    binding (climb 10 (unary (Some i))) _ (climbing (unary (Some i)) (unarying (Some i) inner) 10) λ x.
    binding (expect sorts.Semicolon awaiting.Other) _ (expecting sorts.Semicolon awaiting.Other) λ e. reading (check w b m x e)
declaring i inner declares.Node w =
    binding (expect sorts.Name awaiting.Other) _ (expecting sorts.Name awaiting.Other) λ n. binding (indexing_at (Some i)) _ (indexing (Some i) inner) λ b.
    binding (condition_at (Some i)) _ (conditioning i inner) λ c.
    binding (expect sorts.Semicolon awaiting.Other) _ (expecting sorts.Semicolon awaiting.Other) λ e. reading (node w n b c e)
declaring i inner declares.Objective w =
    binding (expect sorts.Name awaiting.Other) _ (expecting sorts.Name awaiting.Other) λ n.
    binding (part_at sorts.Colon (wide (Some i) 7)) _ (parting sorts.Colon (wide (Some i) 7) (widening (Some i) inner 7)) λ p.
    binding (expect sorts.Semicolon (after_objective p)) _ (expecting sorts.Semicolon (after_objective p)) λ e. reading (objective w n p e)

declaration-head : (i : Inner) → AreReaders i → (r : Role) (w : Token) → Head w (declaration_of_role (Some i) r w)
declaration-head i inner (roles.Declaration k) w = takes (declaring i inner k w)
declaration-head i inner _ w = rejects_it awaiting.Declaration (λ ts. refl)

declaration_reading : (i : Inner) → AreReaders i → IsReader (declaration_at (Some i))
unfolding declaration_at
declaration_reading i inner = heading awaiting.Declaration (declaration_at (Some i)) refl (λ w. declaration-head i inner (role_of w) w)

declaration-takes : (i : Inner) → AreReaders i → (ts : Tokens) (x : Declaration × Tokens) → declaration_at (Some i) ts ≡ Ok x → length x.1 < length ts
unfolding declaration_at
declaration-takes i inner [] x e = absurd (cc)
declaration-takes i inner (w ∷ ts) x e = let h = head-strict w (declaration_of_role (Some i) (role_of w) w) (declaration-head i inner (role_of w) w) ts x e in omega (arith, h)

stepping : (i : Inner) → AreReaders i → (s : Unit {0}) → IsReader (declaration_step (Some i) s)
unfolding declaration_step
stepping i inner s = binding (declaration_at (Some i)) _ (declaration_reading i inner) λ d. reading (d, s)

step-takes : (i : Inner) → AreReaders i → Takes (declaration_step (Some i))
unfolding declaration_step
step-takes i inner s ts x e =
    let d = bind_ok _ _ _ e in
    let h = declaration-takes i inner ts d.value d.first in
    let k : length d.value.1 ≡ length x.1 = ap (λ (z : (Declaration × Unit {0}) × Tokens). length z.1) (ok_is _ _ d.after) in
    omega (arith, h, k)

any-same : (f : Fork) (v : Tokens) → any_left (left f v) ≡ any_left (right f v)
any-same f [] = refl
any-same f (t ∷ v) = refl

pub model_reading : (d : ℕ) → IsReader (model_at (suc d))
unfolding model_at nested
model_reading d =
    let inner = inside-reads (suc d) in
    rowing (declaration_step (nested (suc d))) (λ s. any_left) (stepping_of d) (takes_of d) (λ s f v. any-same f v) tt
  where
    stepping_of : (d : ℕ) (s : Unit {0}) → IsReader (declaration_step (nested (suc d)) s)
    stepping_of d s = stepping (inner_of (nested d)) (inside-reads (suc d)) s

    takes_of : (d : ℕ) → Takes (declaration_step (nested (suc d)))
    takes_of d = step-takes (inner_of (nested d)) (inside-reads (suc d))
