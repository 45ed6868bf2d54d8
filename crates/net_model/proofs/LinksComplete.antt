-- What is printed as a chain is read as that chain.
use Rattle.std.specs.Prelude.{◌≡◌, ◌≤◌, ◌<◌, ℕ, zero, suc, Bool, true, false, cond, nat_eq, length, Ok}
use Rattle.std.proofs.Common.{refl, arith, subst}
use Rattle.std.proofs.lemmas.Bool.{eqb-true, eq-eqb}
use Rattle.net_tree.specs.declared.operator.OperatorWords.{OperatorWords as Operator}
use Rattle.net_tree.specs.declared.operator.OperatorWords.TheVariants.{One, Two}
use Rattle.net_tree.specs.declared.role.Role.{Role}
use Rattle.net_tree.specs.Role.{role_of, is_else}
use Rattle.net_tree.specs.Tree.{Tree, Links, none, link}
use Rattle.net_tree.specs.Print.{put, put_links, put_operator}
use Rattle.net_tree.specs.Depth.{depth, links_depth}
use Rattle.net_tree.specs.WellFormed.{precedence, room, joins, head_of, IsOperator, IsWellFormed, AreWellFormed}
use Rattle.net_model.specs.declared.expected.Expected.TheVariants as sorts
use Rattle.net_model.specs.declared.model_parser.Awaiting.TheVariants as awaiting
use Rattle.net_model.specs.Reading.{Tokens, next_is}
use Rattle.net_model.specs.Expressions.{Reader, operator_at, links, all_links, chain_at, climb, unary, if_at, nested}
use Rattle.net_model.proofs.Tools.{expect-complete}
use Rattle.net_model.proofs.Longer.{put-longer, put_operator-longer}
use Rattle.net_model.proofs.Grips.{grip, Stops, stops-joins, joins-grip, list-grip, next_grip-operator, reach, reach-le, reach-below}

pub operator-complete : (o : Operator) (ts : Tokens) → IsOperator o → operator_at (put_operator o ts) ≡ Ok (o, ts)
unfolding operator_at
operator-complete (One t) ts level = rw level refl
operator-complete (Two t u) ts level = rw (level.0, expect-complete sorts.Membership awaiting.Other u ts level.1) refl

pub head-joins : (j k : ℕ) (o : Operator) (r : Tokens) → joins j k (role_of (head_of o)) ≡ true → next_is (joins j k) (put_operator o r) ≡ true
head-joins j k (One t) r h = h
head-joins j k (Two t u) r h = h

-- each operand is read from its place
abbrev pub AreRead : ℕ → Reader → ℕ → Links → Tokens → Type 0
AreRead j p k none ts = next_is (joins j k) ts ≡ false
AreRead j p k (link o x l) ts =
    (joins j k (role_of (head_of o)) ≡ true) × IsOperator o × (p (put x (put_links l ts)) ≡ Ok (x, put_links l ts)) × AreRead j p (suc k) l ts

pub links-complete : (j : ℕ) (p : Reader) (turns k : ℕ) (l : Links) (ts : Tokens) → length (put_links l ts) ≤ turns → AreRead j p k l ts
    → links turns j k p (put_links l ts) ≡ Ok (l, ts)
links-complete j p zero k none ts enough are = refl
links-complete j p (suc turns) k none ts enough are = rw are refl
links-complete j p zero k (link o x l) ts enough are = absurd (omega (arith, put_operator-longer o (put x (put_links l ts))))
links-complete j p (suc turns) k (link o x l) ts enough are =
    let fewer : length (put_links l ts) ≤ turns = omega (arith, put_operator-longer o (put x (put_links l ts)), put-longer x (put_links l ts)) in
    rw (head-joins j k o (put x (put_links l ts)) are.0, operator-complete o (put x (put_links l ts)) are.1, are.2, links-complete j p turns (suc k) l ts fewer are.3) refl

-- The tree is read back from what is printed, where no token behind it goes on with it.
pub record IsReadBack (d : ℕ) (x : Tree) (ts : Tokens) : Type 0 where
  pub narrow : precedence x ≤ 10 → Stops (reach (precedence x)) ts → climb (precedence x) (unary (nested d)) (put x ts) ≡ Ok (x, ts)
  pub loose : precedence x ≡ 11 → Stops 6 ts → next_is is_else ts ≡ false → if_at (nested d) (put x ts) ≡ Ok (x, ts)

abbrev pub Complete : ℕ → Tree → Type 0
Complete d x = IsWellFormed x → depth x ≤ d → (ts : Tokens) → IsReadBack d x ts

abbrev pub AllComplete : ℕ → Links → Type 0
AllComplete d none = Unit {0}
AllComplete d (link o x l) = Complete d x × AllComplete d l

-- what is read as tighter is read as looser
no_more : (n : ℕ) (p : Reader) (ts : Tokens) (x : Tree) (r : Tokens) → p ts ≡ Ok (x, r) → next_is (joins n 0) r ≡ false → chain_at n p ts ≡ Ok (x, r)
unfolding chain_at
no_more n p ts x r h over =
    let alone : all_links n p r ≡ Ok (none, r) = links-complete n p (length r) 0 none r (omega arith) over in
    rw (h, alone) refl

unequal : (m n : ℕ) → nat_eq m n ≡ false → m ≡ n → ⊥
unequal m n h e = absurd (let k = eq-eqb m n e in cc)

map_back_by : (m n p : ℕ) (u : Reader) (ts : Tokens) (x : Tree) (r : Tokens) (b : Bool) → nat_eq m (suc (suc n)) ≡ b → Stops p r → suc (suc n) ≤ suc p → m ≤ suc (suc n)
    → climb m u ts ≡ Ok (x, r) → (m ≤ suc n → climb (suc n) u ts ≡ Ok (x, r)) → climb (suc (suc n)) u ts ≡ Ok (x, r)
unfolding climb
map_back_by m n p u ts x r true e stops low below h tighter = let P : ℕ → Type 0 = λ k. climb k u ts ≡ Ok (x, r) in subst P (eqb-true m (suc (suc n)) e) h
map_back_by m n p u ts x r false e stops low below h tighter =
    let other : m ≡ suc (suc n) → ⊥ = unequal m (suc (suc n)) e in
    no_more (suc n) (climb (suc n) u) ts x r (tighter (omega (arith, other))) (stops-joins (suc n) p 0 r (omega arith) (omega arith) stops)

pub map_back : (m n p : ℕ) (u : Reader) (ts : Tokens) (x : Tree) (r : Tokens) → m ≤ n → n ≤ suc p → Stops p r → climb m u ts ≡ Ok (x, r) → climb n u ts ≡ Ok (x, r)
unfolding climb
map_back m zero p u ts x r below low stops h = let same : m ≡ 0 = omega arith in let P : ℕ → Type 0 = λ k. climb k u ts ≡ Ok (x, r) in subst P same h
map_back zero (suc zero) p u ts x r below low stops h = h
map_back (suc m) (suc zero) p u ts x r below low stops h = let same : suc m ≡ 1 = omega arith in let P : ℕ → Type 0 = λ k. climb k u ts ≡ Ok (x, r) in subst P same h
map_back m (suc (suc n)) p u ts x r below low stops h =
    map_back_by m n p u ts x r (nat_eq m (suc (suc n))) refl stops low below h (λ fits. map_back m (suc n) p u ts x r fits (omega arith) stops h)

-- a tree in a place that takes its precedence
pub in_place : (d n p : ℕ) (x : Tree) (ts : Tokens) → Complete d x → IsWellFormed x → depth x ≤ d → precedence x ≤ n → n ≤ 10 → n ≤ suc p → reach (precedence x) ≤ p → Stops p ts
    → climb n (unary (nested d)) (put x ts) ≡ Ok (x, ts)
in_place d n p x ts complete level deep fits high low reaches stops =
    map_back (precedence x) n p (unary (nested d)) (put x ts) x ts fits low stops ((complete level deep ts).narrow (omega arith) (omega arith))

-- the operands of a chain
pub stops-links : (j k p : ℕ) (o : Operator) (r : Tokens) → ((k : ℕ) (r : Role) → joins j k r ≡ true → p < grip r) → joins j k (role_of (head_of o)) ≡ true → Stops p (put_operator o r)
stops-links j k p o r joint h = let e = next_grip-operator o r in omega (arith, joint k (role_of (head_of o)) h, e)

abbrev pub closed_rank : ℕ → ℕ
closed_rank n = cond (nat_eq n 1) 0 n

closed_rank-le : (n : ℕ) → closed_rank n ≤ n
closed_rank-le n = by (nat_eq n 1)
  where
    by : (b : Bool) → cond b 0 n ≤ n
    by true = omega arith
    by false = omega arith

pub operand-read : (d j n p k : ℕ) (x : Tree) (l : Links) (ts : Tokens) → Complete d x → n ≤ 10 → n ≤ suc p → p ≤ n
    → ((k : ℕ) (r : Role) → joins j k r ≡ true → p < grip r) → ((r : ℕ) → r ≤ closed_rank n → reach r ≤ p)
    → IsWellFormed x → depth x ≤ d → precedence x ≤ room n l → AreWellFormed j n k l → Stops n ts
    → climb n (unary (nested d)) (put x (put_links l ts)) ≡ Ok (x, put_links l ts)
operand-read d j n p k x none ts complete high near under joint reaches level deep fits are stops =
    in_place d n n x ts complete level deep fits high (omega arith) (omega (arith, reach-le (precedence x))) stops
operand-read d j n p k x (link o y l) ts complete high near under joint reaches level deep fits are stops =
    in_place d n p x (put_links (link o y l) ts) complete level deep (omega (arith, fits, closed_rank-le n)) high near (reaches (precedence x) fits)
    (stops-links j k p o (put y (put_links l ts)) joint are.0)

pub links-are_read : (d j n p k : ℕ) (l : Links) (ts : Tokens) → AllComplete d l → n ≤ 10 → n ≤ suc p → p ≤ n
    → ((k : ℕ) (r : Role) → joins j k r ≡ true → p < grip r) → ((r : ℕ) → r ≤ closed_rank n → reach r ≤ p)
    → AreWellFormed j n k l → links_depth l ≤ d → Stops n ts → ((k : ℕ) → next_is (joins j k) ts ≡ false)
    → AreRead j (climb n (unary (nested d))) k l ts
links-are_read d j n p k none ts complete high near under joint reaches are deep stops over = over k
links-are_read d j n p k (link o x l) ts complete high near under joint reaches are deep stops over = (
  are.0,
  are.1,
  operand-read d j n p (suc k) x l ts complete.0 high near under joint reaches are.2 (omega arith) are.3 are.4 stops,
  links-are_read d j n p (suc k) l ts complete.1 high near under joint reaches are.4 (omega arith) stops over,
)

-- the parts of a list
pub list-joint : (p : ℕ) → p < 20 → (k : ℕ) (r : Role) → joins 0 k r ≡ true → p < grip r
list-joint p h k r joined = omega (arith, list-grip k r joined)

pub list-reaches : (n : ℕ) → (r : ℕ) → r ≤ closed_rank n → reach r ≤ n
list-reaches n r h = omega (arith, h, closed_rank-le n, reach-le r)

pub chain-joint : (n : ℕ) → (k : ℕ) (r : Role) → joins (suc n) k r ≡ true → n < grip r
chain-joint n k r joined = omega (arith, joins-grip (suc n) k r (omega arith) joined)

pub chain-reaches : (n : ℕ) → (r : ℕ) → r ≤ closed_rank (suc n) → reach r ≤ n
chain-reaches zero r h = omega (arith, h, reach-le r)
chain-reaches (suc n) r h = omega (arith, reach-below r (suc n) (omega (arith, h, closed_rank-le (suc (suc n)))) (omega arith))
