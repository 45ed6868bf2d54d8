-- Reading links one after the other.
use Rattle.std.specs.Prelude.{◌≡◌, ◌≤◌, ◌+◌, ◌-◌, ℕ, zero, suc, Bool, true, false, cond, List, [], ◌∷◌, ◌++◌, length, Ok, Err}
use Rattle.std.proofs.Common.{refl, sym, ap, ◌∙◌, arith, length-append}
use Rattle.net_tree.specs.declared.operator.OperatorWords.{OperatorWords as Operator}
use Rattle.net_tree.specs.declared.expr.LinkedOperand.{LinkedOperand}
use Rattle.net_tree.specs.declared.role.Role.{Role}
use Rattle.net_tree.specs.Tree.{Tree, Links, none, link}
use Rattle.net_tree.specs.WellFormed.{joins}
use Rattle.net_tree.specs.View.{links_of, link_of}
use Rattle.net_model.specs.declared.model_parser.ParseError.{ParseError}
use Rattle.net_model.specs.declared.model_parser.ParseError.TheVariants as stops
use Rattle.net_model.specs.Reading.{Tokens, Read, ◌>>=◌, read_as, next_is, Fails}
use Rattle.net_model.specs.Expressions.{Reader, operator_at, links}
use Rattle.net_model.specs.Chains.{joined, with_links}

pub some_left : (test : Role → Bool) (ts : Tokens) → next_is test ts ≡ true → 1 ≤ length ts
some_left test [] h = cc
some_left test (t ∷ ts) h = omega arith

-- nothing joins
pub links-over : (turns j k : ℕ) (p : Reader) (ts : Tokens) → next_is (joins j k) ts ≡ false → links turns j k p ts ≡ Ok (none, ts)
links-over zero j k p ts h = refl
links-over (suc turns) j k p ts h =
    ap (λ b. cond b (operator_at ts >>= λ o. p o.1 >>= λ x. links turns j (suc k) p x.1 >>= λ l. read_as (link o.0 x.0 l.0) l.1) (read_as none ts)) h

-- one link more
abbrev turned : ℕ → ℕ → ℕ → Reader → Tokens → Read Links
turned turns j k p ts = operator_at ts >>= λ o. p o.1 >>= λ x. links turns j (suc k) p x.1 >>= λ l. read_as (link o.0 x.0 l.0) l.1

links-on : (turns j k : ℕ) (p : Reader) (ts : Tokens) → 1 ≤ turns → next_is (joins j k) ts ≡ true → links turns j k p ts ≡ turned (turns - 1) j k p ts
links-on zero j k p ts some h = absurd (omega arith)
links-on (suc turns) j k p ts some h =
    let e : turns ≡ suc turns - 1 = omega arith in
    ap (λ b. cond b (turned turns j k p ts) (read_as none ts)) h ∙ ap (λ t. turned t j k p ts) e

with_one : (o : Operator) (x : Tree) (w : Read Links) → (w >>= λ l. read_as (link o x l.0) l.1) ≡ with_links (link o x none) w
with_one o x (Ok l) = refl
with_one o x (Err e) = refl

pub links-turn : (turns j k : ℕ) (p : Reader) (ts : Tokens) (o : Operator) (a : Tokens) (x : Tree) (r : Tokens)
    → 1 ≤ turns → next_is (joins j k) ts ≡ true → operator_at ts ≡ Ok (o, a) → p a ≡ Ok (x, r)
    → links turns j k p ts ≡ with_links (link o x none) (links (turns - 1) j (suc k) p r)
links-turn turns j k p ts o a x r some h e f =
    links-on turns j k p ts some h
    ∙ ap (λ (w : Read Operator). w >>= λ o. p o.1 >>= λ x. links (turns - 1) j (suc k) p x.1 >>= λ l. read_as (link o.0 x.0 l.0) l.1) e
    ∙ ap (λ (w : Read Tree). w >>= λ x. links (turns - 1) j (suc k) p x.1 >>= λ l. read_as (link o x.0 l.0) l.1) f
    ∙ with_one o x (links (turns - 1) j (suc k) p r)

pub links-no_operator : (turns j k : ℕ) (p : Reader) (ts : Tokens) (s : ParseError)
    → 1 ≤ turns → next_is (joins j k) ts ≡ true → operator_at ts ≡ Err s → links turns j k p ts ≡ Err s
links-no_operator turns j k p ts s some h e =
    links-on turns j k p ts some h
    ∙ ap (λ (w : Read Operator). w >>= λ o. p o.1 >>= λ x. links (turns - 1) j (suc k) p x.1 >>= λ l. read_as (link o.0 x.0 l.0) l.1) e

pub links-no_operand : (turns j k : ℕ) (p : Reader) (ts : Tokens) (o : Operator) (a : Tokens) (s : ParseError)
    → 1 ≤ turns → next_is (joins j k) ts ≡ true → operator_at ts ≡ Ok (o, a) → p a ≡ Err s → links turns j k p ts ≡ Err s
links-no_operand turns j k p ts o a s some h e f =
    links-on turns j k p ts some h
    ∙ ap (λ (w : Read Operator). w >>= λ o. p o.1 >>= λ x. links (turns - 1) j (suc k) p x.1 >>= λ l. read_as (link o.0 x.0 l.0) l.1) e
    ∙ ap (λ (w : Read Tree). w >>= λ x. links (turns - 1) j (suc k) p x.1 >>= λ l. read_as (link o x.0 l.0) l.1) f

joined-none : (l : Links) → joined l none ≡ l
joined-none none = refl
joined-none (link o x l) = ap (link o x) (joined-none l)

joined-assoc : (f g l : Links) → joined f (joined g l) ≡ joined (joined f g) l
joined-assoc none g l = refl
joined-assoc (link o x f) g l = ap (link o x) (joined-assoc f g l)

with_links-twice : (f g : Links) (w : Read Links) → with_links f (with_links g w) ≡ with_links (joined f g) w
with_links-twice f g (Ok l) = ap (λ k. read_as k l.1) (joined-assoc f g l.0)
with_links-twice f g (Err s) = refl

links_of-append : (ls : List LinkedOperand) (l : LinkedOperand) (o : Operator) (x : Tree) → link_of l ≡ (o, x) → links_of (ls ++ l ∷ []) ≡ joined (links_of ls) (link o x none)
links_of-append [] l o x e = ap (λ (q : Operator × Tree). link q.0 q.1 none) e
links_of-append (m ∷ ls) l o x e = ap (link (link_of m).0 (link_of m).1) (links_of-append ls l o x e)

-- the loop's end
pub all_read : (found : List LinkedOperand) (turns j k : ℕ) (p : Reader) (ts : Tokens) (all : Read Links) → next_is (joins j k) ts ≡ false
    → with_links (links_of found) (links turns j k p ts) ≡ all → all ≡ Ok (links_of found, ts)
all_read found turns j k p ts all h e =
    sym e ∙ ap (with_links (links_of found)) (links-over turns j k p ts h) ∙ ap (λ k. read_as k ts) (joined-none (links_of found))

-- the loop's turn
pub one_read : (found more : List LinkedOperand) (l : LinkedOperand) (whole j k : ℕ) (p : Reader) (ts : Tokens) (o : Operator) (x : Tree) (a r : Tokens) (all : Read Links)
    → k ≡ length found → length found + length ts ≤ whole → next_is (joins j k) ts ≡ true → operator_at ts ≡ Ok (o, a) → p a ≡ Ok (x, r)
    → link_of l ≡ (o, x) → more ≡ found ++ l ∷ []
    → with_links (links_of found) (links (whole - length found) j (length found) p ts) ≡ all
    → with_links (links_of more) (links (whole - length more) j (length more) p r) ≡ all
one_read found more l whole j k p ts o x a r all same room h e f is made before =
    let some : 1 ≤ whole - length found = omega (arith, some_left (joins j k) ts h) in
    let long : length more ≡ suc (length found) = omega (arith, ap length made, length-append found (l ∷ [])) in
    let fewer : whole - length more ≡ whole - length found - 1 = omega (arith, long) in
    let joins_here : next_is (joins j (length found)) ts ≡ true = sym (ap (λ n. next_is (joins j n) ts) same) ∙ h in
    let turn = links-turn (whole - length found) j (length found) p ts o a x r some joins_here e f in
    let tail = links (whole - length found - 1) j (suc (length found)) p r in
    let left : links_of more ≡ joined (links_of found) (link o x none) =
    ap links_of made ∙ links_of-append found l o x is in
    ap (λ (n : ℕ). with_links (links_of more) (links n j (length more) p r)) fewer
    ∙ ap (λ (n : ℕ). with_links (links_of more) (links (whole - length found - 1) j n p r)) long
    ∙ ap (λ (k : Links). with_links k tail) left
    ∙ sym (with_links-twice (links_of found) (link o x none) tail)
    ∙ sym (ap (with_links (links_of found)) turn)
    ∙ before

-- a stop in a part is the stop of the whole
pub fails : {A B : Type 0} (s : ParseError) (part : Read A) (whole : Read B) → Fails s part → ((t : ParseError) → part ≡ Err t → whole ≡ Err t) → Fails s whole
fails stops.OutOfMemory part whole h onward = tt
fails (stops.Rejected n a) part whole h onward = onward (stops.Rejected n a) h
fails (stops.TooDeep n) part whole h onward = onward (stops.TooDeep n) h

pub no_operator : (found : List LinkedOperand) (whole j k : ℕ) (p : Reader) (ts : Tokens) (all : Read Links) (s : ParseError)
    → k ≡ length found → length found + length ts ≤ whole → next_is (joins j k) ts ≡ true
    → with_links (links_of found) (links (whole - length found) j (length found) p ts) ≡ all → Fails s (operator_at ts) → Fails s all
no_operator found whole j k p ts all s same room h before stopped =
    fails s (operator_at ts) all stopped
    (λ t e.
    let some : 1 ≤ whole - length found = omega (arith, some_left (joins j k) ts h) in
    let joins_here : next_is (joins j (length found)) ts ≡ true = sym (ap (λ n. next_is (joins j n) ts) same) ∙ h in
    sym before ∙ ap (with_links (links_of found)) (links-no_operator (whole - length found) j (length found) p ts t some joins_here e))

pub no_operand : (found : List LinkedOperand) (whole j k : ℕ) (p : Reader) (ts : Tokens) (o : Operator) (a : Tokens) (all : Read Links) (s : ParseError)
    → k ≡ length found → length found + length ts ≤ whole → next_is (joins j k) ts ≡ true → operator_at ts ≡ Ok (o, a)
    → with_links (links_of found) (links (whole - length found) j (length found) p ts) ≡ all → Fails s (p a) → Fails s all
no_operand found whole j k p ts o a all s same room h e before stopped =
    fails s (p a) all stopped
    (λ t f.
    let some : 1 ≤ whole - length found = omega (arith, some_left (joins j k) ts h) in
    let joins_here : next_is (joins j (length found)) ts ≡ true = sym (ap (λ n. next_is (joins j n) ts) same) ∙ h in
    sym before ∙ ap (with_links (links_of found)) (links-no_operand (whole - length found) j (length found) p ts o a t some joins_here e f))
