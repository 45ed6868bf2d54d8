-- Where links, a chain or a part stop, the tokens before the stop begin such a thing.
use Rattle.std.specs.Prelude.{◌≡◌, ◌≤◌, ◌<◌, ℕ, zero, suc, Bool, true, false, cond, nat_eq, [], ◌∷◌, length, Err}
use Rattle.std.proofs.Common.{refl, arith, subst}
use Rattle.std.proofs.lemmas.Bool.{eqb-true}
use Rattle.net_lex.specs.declared.token.Token.{Token}
use Rattle.net_tree.specs.declared.operator.OperatorWords.{OperatorWords as Operator}
use Rattle.net_tree.specs.declared.operator.OperatorWords.TheVariants.{One, Two}
use Rattle.net_tree.specs.Role.{role_of, is_not}
use Rattle.net_tree.specs.Tree.{Tree, Links, none, link, chain, absent, part}
use Rattle.net_tree.specs.Print.{put, put_links, put_operator}
use Rattle.net_tree.specs.Depth.{depth, links_depth}
use Rattle.net_tree.specs.WellFormed.{precedence, room, joins, head_of, IsOperator, IsWellFormed, AreWellFormed}
use Rattle.net_model.specs.declared.expected.Expected.{Expected}
use Rattle.net_model.specs.declared.expected.Expected.TheVariants as sorts
use Rattle.net_model.specs.declared.model_parser.Awaiting.{Awaiting}
use Rattle.net_model.specs.declared.model_parser.Awaiting.TheVariants as awaiting
use Rattle.net_model.specs.declared.model_parser.ParseError.{ParseError}
use Rattle.net_model.specs.Reading.{Tokens, Read, ◌>>=◌, read_as, next_is, is_sort, expect}
use Rattle.net_model.specs.Expressions.{Reader, operator_at, links, all_links, chain_at, climb, present_at, part_at}
use Rattle.net_model.proofs.Tools.{expect-sound}
use Rattle.net_model.proofs.LinksSound.{IsSound, UpTo, operator-sound, joins_product, climb-sound}
use Rattle.net_model.proofs.Mending.{Written, Begun, Mending, here, same, then_mends, last_mends, choose_mends, read_mends, rejected_mends, passed_mends}
use Rattle.net_model.proofs.Fillers.{filler, fills, a_name, a_name_level, token, operator, tree, links_of, part_of}

-- wherever this reader stops
abbrev pub Mends : {A : Type 0} → Written A → ℕ → (Tokens → Read A) → Type 0
Mends K d p = (ts : Tokens) → Mending K d same ts (p ts)

pub expect-mends : (s : Expected) (a : Awaiting) (d : ℕ) → Mends (token s) d (expect s a)
unfolding expect
expect-mends s a d [] = rejected_mends (token s) d same [] a (d, omega arith, record { thing = filler s; fits = fills s; rest = filler s ∷ []; text = λ r. refl })
expect-mends s a d (t ∷ ts) =
    choose_mends (token s) d same (t ∷ ts) (is_sort s (role_of t)) _ _ (λ b. read_mends (token s) d same (t ∷ ts) (t, ts))
    (λ b. rejected_mends (token s) d same (t ∷ ts) a (d, omega arith, record { thing = filler s; fits = fills s; rest = filler s ∷ []; text = λ r. refl }))

-- a token that is awaited, and what comes behind it
pub expect_then : {B : Type 0} (s : Expected) (a : Awaiting) (L : Written B) (d : ℕ) (w : Tokens → Tokens) (ts : Tokens) (g : Token × Tokens → Read B)
    → ((k : ℕ) (t : Token) → d ≤ k → is_sort s (role_of t) ≡ true → Begun L k (λ r. w (t ∷ r)) [])
    → ((t : Token) (r : Tokens) → is_sort s (role_of t) ≡ true → Mending L d (λ q. w (t ∷ q)) r (g (t, r)))
    → Mending L d w ts (expect s a ts >>= g)
expect_then s a L d w ts g ends after =
    then_mends (token s) L here d w ts (expect s a ts) g (expect-mends s a d ts) (λ stop e. ends)
    (λ x e. let sx = expect-sound s a ts x e in record { text = sx.text; mends = after x.0 x.1 sx.sort })

-- a token that is awaited at the end
pub expect_last : {B : Type 0} (s : Expected) (a : Awaiting) (L : Written B) (d : ℕ) (w : Tokens → Tokens) (ts : Tokens) (g : Token × Tokens → Read B)
    → ((k : ℕ) (t : Token) → d ≤ k → is_sort s (role_of t) ≡ true → Begun L k (λ r. w (t ∷ r)) [])
    → ((x : Token × Tokens) (s : ParseError) → g x ≡ Err s → ⊥)
    → Mending L d w ts (expect s a ts >>= g)
expect_last s a L d w ts g ends reads = last_mends (token s) L here d w ts (expect s a ts) g (expect-mends s a d ts) (λ stop e. ends) reads

operator-mends : (d j k : ℕ) (ts : Tokens) → next_is (joins j k) ts ≡ true → Mending (operator j k) d same ts (operator_at ts)
unfolding operator_at
operator-mends d j k [] joined = absurd (cc)
operator-mends d j k (t ∷ ts) joined =
    choose_mends (operator j k) d same (t ∷ ts) (is_not (role_of t)) _ _
    (λ nots. passed_mends (operator j k) d same t ts _
    (expect_last sorts.Membership awaiting.Other (operator j k) d (λ r. t ∷ r) ts _
    (λ i u le is. record { thing = Two t u; fits = (joined, (nots, is)); rest = []; text = λ r. refl })
    (λ u s h. cc)))
    (λ b. read_mends (operator j k) d same (t ∷ ts) (One t, ts))

stops-joined : (turns j k : ℕ) (p : Reader) (ts : Tokens) (s : ParseError) → links turns j k p ts ≡ Err s → next_is (joins j k) ts ≡ true
stops-joined zero j k p ts s h = absurd (cc)
stops-joined (suc turns) j k p ts s h = by (next_is (joins j k) ts) refl h
  where
    by : (b : Bool) → next_is (joins j k) ts ≡ b → cond b (operator_at ts >>= λ o. p o.1 >>= λ x. links turns j (suc k) p x.1 >>= λ l. read_as (link o.0 x.0 l.0) l.1) (read_as none ts) ≡ Err s → next_is (joins j k) ts ≡ true
    by true e g = e
    by false e g = absurd (cc)

product_next : (k : ℕ) (ts : Tokens) → next_is (joins 1 k) ts ≡ next_is (joins 1 0) ts
product_next k [] = refl
product_next k (t ∷ ts) = joins_product k 0 (role_of t)

-- an operand behind which links go on has room for them
room-open : (j n k : ℕ) (x : Tree) (l : Links) (ts : Tokens) → (n ≡ 1 → j ≡ 1) → precedence x ≤ n → (precedence x ≡ 1 → next_is (joins 1 0) ts ≡ false) → next_is (joins j k) ts ≡ true → precedence x ≤ room n l
room-open j n k x none ts own fits ended joined = fits
room-open j n k x (link o y l) ts own fits ended joined = by (nat_eq n 1) refl
  where
    not_one : n ≡ 1 → precedence x ≡ 1 → ⊥
    not_one e f =
        let J : ℕ → Type 0 = λ m. next_is (joins m k) ts ≡ true in
        let yes = subst J (own e) joined in
        let no = ended f in
        let alike = product_next k ts in
        cc

    by : (b : Bool) → nat_eq n 1 ≡ b → precedence x ≤ cond b 0 n
    by true e = let is : n ≡ 1 = eqb-true n 1 e in let open' : precedence x ≡ 1 → ⊥ = not_one is in omega (arith, open')
    by false e = fits

head_joins : (j k : ℕ) (o : Operator) (r : Tokens) → next_is (joins j k) (put_operator o r) ≡ true → joins j k (role_of (head_of o)) ≡ true
head_joins j k (One t) r q = q
head_joins j k (Two t u) r q = q

pub links-mends : (d j n : ℕ) (p : Reader) → Mends (tree (UpTo n)) d p → IsSound d (UpTo n) p → (n ≡ 1 → j ≡ 1) → (turns k : ℕ) (ts : Tokens) → Mending (links_of j n k) d same ts (links turns j k p ts)
links-mends d j n p operand sound own zero k ts = read_mends (links_of j n k) d same ts (none, ts)
links-mends d j n p operand sound own (suc turns) k ts =
    choose_mends (links_of j n k) d same ts (next_is (joins j k) ts) _ _
    (λ joined. then_mends (operator j k) (links_of j n k) here d same ts (operator_at ts) _ (operator-mends d j k ts joined)
    (λ s e i o le f. record { thing = link o a_name none; fits = ((f.0, f.1, a_name_level, omega arith, tt), omega arith); rest = filler sorts.Name ∷ []; text = λ r. refl })
    (λ o e. let so = operator-sound ts o e in record { text = so.text; mends = operands (links-mends d j n p operand sound own turns (suc k)) o (head_joins j k o.0 o.1 (rw so.text at joined)) so.level }))
    (λ b. read_mends (links_of j n k) d same ts (none, ts))
  where
    operands : ((r : Tokens) → Mending (links_of j n (suc k)) d same r (links turns j (suc k) p r)) → (o : Operator × Tokens) → joins j k (role_of (head_of o.0)) ≡ true → IsOperator o.0
        → Mending (links_of j n k) d (put_operator o.0) o.1 (p o.1 >>= λ x. links turns j (suc k) p x.1 >>= λ l. read_as (link o.0 x.0 l.0) l.1)
    operands further o heads level =
        then_mends (tree (UpTo n)) (links_of j n k) here d (put_operator o.0) o.1 (p o.1) _ (operand o.1)
        (λ s e i x le f. record { thing = link o.0 x none; fits = ((heads, level, f.0, f.2, tt), omega (arith, f.1)); rest = []; text = λ r. refl })
        (λ x e.
        let sx = sound o.1 x e in
        record {
          text = sx.text;
          mends =
              last_mends (links_of j n (suc k)) (links_of j n k) here d (λ r. put_operator o.0 (put x.0 r)) x.1 (links turns j (suc k) p x.1) _
              (further x.1)
              (λ s stopped i l le f. record {
                thing = link o.0 x.0 l;
                fits = ((heads, level, sx.level, room-open j n (suc k) x.0 l x.1 own sx.fits sx.ended (stops-joined turns j (suc k) p x.1 s stopped), f.0), omega (arith, sx.within, le, f.1));
                rest = [];
                text = λ r. refl;
              })
              (λ l s h. cc);
        })

-- a chain, where links were begun behind the first operand
pub chained_begun : (n k : ℕ) (x : Tree) (l : Links) → 0 < n → n < 10 → IsWellFormed x → depth x ≤ k → precedence x ≤ n → precedence x ≤ room n l → AreWellFormed n n 0 l → links_depth l ≤ k
    → Begun (tree (UpTo (suc n))) k (λ r. put x (put_links l r)) []
chained_begun n k x none low high level within fits room links deep = record { thing = x; fits = (level, within, omega (arith, fits)); rest = []; text = λ r. refl }
chained_begun n k x (link o y l) low high level within fits room links deep =
    record { thing = chain n x (link o y l); fits = ((low, high, level, room, tt, links), omega (arith, within, deep), omega arith); rest = []; text = λ r. refl }

chain-mends : (d n : ℕ) (p : Reader) → Mends (tree (UpTo n)) d p → IsSound d (UpTo n) p → 0 < n → n < 10 → Mends (tree (UpTo (suc n))) d (chain_at n p)
unfolding chain_at
chain-mends d n p operand sound low high ts =
    then_mends (tree (UpTo n)) (tree (UpTo (suc n))) here d same ts (p ts) _ (operand ts)
    (λ s e k x le f. record { thing = x; fits = (f.0, f.1, omega (arith, f.2)); rest = []; text = λ r. refl })
    (λ x e.
    let sx = sound ts x e in
    record {
      text = sx.text;
      mends =
          last_mends (links_of n n 0) (tree (UpTo (suc n))) here d (put x.0) x.1 (all_links n p x.1) _ (links-mends d n n p operand sound (λ e. e) (length x.1) 0 x.1)
          (λ s stopped k l le f.
          chained_begun n k x.0 l low high sx.level (omega (arith, sx.within, le)) sx.fits (room-open n n 0 x.0 l x.1 (λ e. e) sx.fits sx.ended (stops-joined (length x.1) n 0 p x.1 s stopped)) f.0 f.1)
          (λ l s h. cc);
    })

pub climb-mends : (d n : ℕ) (u : Reader) → Mends (tree (UpTo 1)) d u → IsSound d (UpTo 1) u → 0 < n → n ≤ 10 → Mends (tree (UpTo n)) d (climb n u)
unfolding climb
climb-mends d zero u unary sound low high = absurd (omega arith)
climb-mends d (suc zero) u unary sound low high = unary
climb-mends d (suc (suc n)) u unary sound low high =
    chain-mends d (suc n) (climb (suc n) u) (climb-mends d (suc n) u unary sound (omega arith) (omega arith)) (climb-sound d (suc n) u (omega arith) (omega arith) sound) (omega arith) (omega arith)

pub part-mends : (d : ℕ) (s : Expected) (Fits : ℕ → Type 0) (p : Reader) → Mends (tree Fits) d p → Mends (part_of s Fits) d (part_at s p)
unfolding part_at present_at
part-mends d s Fits p value [] = read_mends (part_of s Fits) d same [] (absent, [])
part-mends d s Fits p value (t ∷ ts) =
    choose_mends (part_of s Fits) d same (t ∷ ts) (is_sort s (role_of t)) _ _
    (λ b. passed_mends (part_of s Fits) d same t ts _
    (last_mends (tree Fits) (part_of s Fits) here d (λ r. t ∷ r) ts (p ts) _ (value ts)
    (λ stop e k x le f. record { thing = part t x; fits = ((b, f.0, f.2), f.1); rest = []; text = λ r. refl })
    (λ x s h. cc)))
    (λ b. read_mends (part_of s Fits) d same (t ∷ ts) (absent, t ∷ ts))
