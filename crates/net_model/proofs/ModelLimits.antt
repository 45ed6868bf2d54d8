-- Where more nestings may be opened, the same model is read, unless a nesting too many was opened.
use Rattle.std.specs.Prelude.{◌≡◌, ◌≤◌, ◌<◌, ℕ, zero, suc, Bool, true, false, cond, max, List, [], ◌∷◌, length, Option, None, Some, Result, Ok, Err}
use Rattle.std.proofs.Common.{refl, sym, ap, ◌∙◌, arith}
use Rattle.net_lex.specs.declared.token.Token.{Token}
use Rattle.net_tree.specs.declared.role.Declares.{Declares}
use Rattle.net_tree.specs.declared.role.Declares.TheVariants as declares
use Rattle.net_tree.specs.declared.role.Role.{Role}
use Rattle.net_tree.specs.declared.role.Role.TheVariants as roles
use Rattle.net_tree.specs.Role.{role_of, is_open_brace, is_colon}
use Rattle.net_tree.specs.Tree.{Tree, valued, priced, unsaid, one, between, Declaration, set, param, check, node, arc, objective}
use Rattle.net_tree.specs.Print.{print}
use Rattle.net_tree.specs.Depth.{model_depth}
use Rattle.net_tree.specs.Declarations.{AreDeclarations}
use Rattle.net_tree.specs.View.{links_from}
use Rattle.net_model.specs.declared.phrases.Owner.{Owner}
use Rattle.net_model.specs.declared.phrases.Owner.TheVariants as owners
use Rattle.net_model.specs.declared.phrases.Slot.{Slot}
use Rattle.net_model.specs.declared.phrases.Slot.TheVariants as slots
use Rattle.net_model.specs.declared.phrases.Stood.{Stood}
use Rattle.net_model.specs.declared.expected.Expected.TheVariants as sorts
use Rattle.net_model.specs.declared.model_parser.Awaiting.{Awaiting}
use Rattle.net_model.specs.declared.model_parser.Awaiting.TheVariants as awaiting
use Rattle.net_model.specs.declared.model_parser.ParseError.{ParseError}
use Rattle.net_model.specs.declared.model_parser.ParseError.TheVariants as stops
use Rattle.net_model.specs.Reading.{Tokens, ◌>>=◌, read_as, rejected, next_is, expect}
use Rattle.net_model.specs.Rows.{Step, row}
use Rattle.net_model.specs.Expressions.{Inner, operator_at, chained, climb, part_at, unary, wide, named_at, braces, nested}
use Rattle.net_model.specs.Conditions.{net_next, signed_net_next, net_at, signed_net_at, term_at, first_term_at, further_term_at, sign_next, further_terms, sum_at, chain_next, high_at, middle_at, bounded_at, said_at, condition_at}
use Rattle.net_model.specs.Phrases.{slot_of, stood_before, and_then_stood, nothing_stood, phrase_next, body_of, phrase_of_slot, worded, comma_at, phrase_at, phrases, phrases_end}
use Rattle.net_model.specs.Declarations.{indexing_at, set_at, param_at, check_at, node_at, arc_at, after_objective, objective_at, declared_at, declaration_of_role, declaration_at, any_left, declaration_step, model_at}
use Rattle.net_model.proofs.Limits.{Agree, same, deep, agreed, then_agree, choose_agree, Agrees, climb-agree, part-agree, Agreeing, named-agree, braces-agree, unary-agree, wide-agree, inside-agree}
use Rattle.net_model.proofs.ModelLaws.{model-sound, model-complete}

trees-agree : (o q : Option Inner) → Agreeing o q → (n : ℕ) → Agrees (climb n (unary o)) (climb n (unary q))
trees-agree o q inner n = climb-agree (unary o) (unary q) (unary-agree o q inner) n

row-agree : {A S : Type 0} (p q : Step A S) (more : S → Tokens → Bool) → ((s : S) (ts : Tokens) → Agree (p s ts) (q s ts)) → (turns : ℕ) (s : S) (ts : Tokens) → Agree (row turns p more s ts) (row turns q more s ts)
row-agree p q more step zero s ts = agreed (row zero p more s ts)
row-agree p q more step (suc turns) s ts =
    choose_agree (more s ts) _ _ _ _
    (then_agree (p s ts) (q s ts) _ _ (step s ts) λ x.
    then_agree (row turns p more x.0.1 x.1) (row turns q more x.0.1 x.1) _ _ (row-agree p q more step turns x.0.1 x.1) λ l. agreed (read_as (x.0.0 ∷ l.0.0, l.0.1) l.1))
    (agreed (read_as ([], s) ts))

term-agree : (o q : Option Inner) → Agreeing o q → (free : Bool) → Agrees (term_at o free) (term_at q free)
unfolding term_at
term-agree o q inner free ts =
    choose_agree (cond free (net_next ts) false) _ _ _ _ (agreed (net_at ts >>= λ x. read_as (x.0, false) x.1))
    (then_agree (climb 2 (unary o) ts) (climb 2 (unary q) ts) _ _ (trees-agree o q inner 2 ts) λ x. agreed (read_as (x.0, free) x.1))

first_term-agree : (o q : Option Inner) → Agreeing o q → (free : Bool) → Agrees (first_term_at o free) (first_term_at q free)
unfolding first_term_at
first_term-agree o q inner free ts =
    choose_agree (cond free (signed_net_next ts) false) _ _ _ _ (agreed (signed_net_at ts >>= λ x. read_as (x.0, false) x.1)) (term-agree o q inner free ts)

further_term-agree : (o q : Option Inner) → Agreeing o q → (free : Bool) → Agrees (further_term_at o free) (further_term_at q free)
unfolding further_term_at
further_term-agree o q inner free ts =
    then_agree (operator_at ts) (operator_at ts) _ _ (agreed (operator_at ts)) λ p.
    then_agree (term_at o free p.1) (term_at q free p.1) _ _ (term-agree o q inner free p.1) λ x. agreed (read_as ((p.0, x.0.0), x.0.1) x.1)

sum-agree : (o q : Option Inner) → Agreeing o q → (free : Bool) → Agrees (sum_at o free) (sum_at q free)
unfolding sum_at further_terms
sum-agree o q inner free ts =
    then_agree (first_term_at o free ts) (first_term_at q free ts) _ _ (first_term-agree o q inner free ts) λ x.
    then_agree (further_terms o x.0.1 x.1) (further_terms q x.0.1 x.1) _ _
    (row-agree (further_term_at o) (further_term_at q) sign_next (further_term-agree o q inner) (length x.1) x.0.1 x.1) λ l.
    agreed (read_as (chained 2 x.0.0 (links_from l.0.0), l.0.1) l.1)

high-agree : (o q : Option Inner) → Agreeing o q → (m : Token) (x : Tree) (p : Token) (y : Tree) → Agrees (high_at o m x p y) (high_at q m x p y)
unfolding high_at
high-agree o q inner m x p y ts =
    choose_agree (chain_next (role_of p) ts) _ _ _ _
    (then_agree (expect sorts.Bound awaiting.Other ts) (expect sorts.Bound awaiting.Other ts) _ _ (agreed (expect sorts.Bound awaiting.Other ts)) λ b.
    then_agree (climb 3 (unary o) b.1) (climb 3 (unary q) b.1) _ _ (trees-agree o q inner 3 b.1) λ z. agreed (read_as (between m x p y b.0 z.0) z.1))
    (agreed (read_as (one m x p y) ts))

bounded-agree : (o q : Option Inner) → Agreeing o q → (m : Token) (x : Tree) (free : Bool) (p : Token) → Agrees (bounded_at o m x free p) (bounded_at q m x free p)
unfolding bounded_at middle_at
bounded-agree o q inner m x free p ts =
    choose_agree free _ _ _ _
    (then_agree (sum_at o true ts) (sum_at q true ts) _ _ (sum-agree o q inner true ts) λ y.
    choose_agree y.0.1 _ _ _ _ (agreed (rejected awaiting.Other y.1)) (high-agree o q inner m x p y.0.0 y.1))
    (then_agree (climb 3 (unary o) ts) (climb 3 (unary q) ts) _ _ (trees-agree o q inner 3 ts) λ y. agreed (read_as (one m x p y.0) y.1))

condition-agree : (o q : Option Inner) → Agreeing o q → Agrees (condition_at o) (condition_at q)
unfolding condition_at said_at
condition-agree o q inner ts =
    choose_agree (next_is is_colon ts) _ _ _ _
    (then_agree (expect sorts.Colon awaiting.Other ts) (expect sorts.Colon awaiting.Other ts) _ _ (agreed (expect sorts.Colon awaiting.Other ts)) λ m.
    then_agree (sum_at o true m.1) (sum_at q true m.1) _ _ (sum-agree o q inner true m.1) λ x.
    then_agree (expect sorts.Bound awaiting.Other x.1) (expect sorts.Bound awaiting.Other x.1) _ _ (agreed (expect sorts.Bound awaiting.Other x.1)) λ p.
    bounded-agree o q inner m.0 x.0.0 x.0.1 p.0 p.1)
    (agreed (read_as unsaid ts))

body-agree : (o q : Option Inner) → Agreeing o q → (s : Slot) → Agrees (body_of o s) (body_of q s)
body-agree o q inner slots.Nothing ts = same refl
body-agree o q inner slots.Number ts = same refl
body-agree o q inner slots.Set ts = then_agree (climb 7 (unary o) ts) (climb 7 (unary q) ts) _ _ (trees-agree o q inner 7 ts) λ x. agreed (read_as (valued x.0) x.1)
body-agree o q inner slots.Sum ts = then_agree (climb 3 (unary o) ts) (climb 3 (unary q) ts) _ _ (trees-agree o q inner 3 ts) λ x. agreed (read_as (valued x.0) x.1)
body-agree o q inner slots.Value ts = then_agree (wide o 7 ts) (wide q 7 ts) _ _ (wide-agree o q inner 7 ts) λ x. agreed (read_as (valued x.0) x.1)
body-agree o q inner slots.Node ts =
    then_agree (expect sorts.Name awaiting.Other ts) (expect sorts.Name awaiting.Other ts) _ _ (agreed (expect sorts.Name awaiting.Other ts)) λ n.
    then_agree (named_at o n.0 n.1) (named_at q n.0 n.1) _ _ (named-agree o q inner n.0 n.1) λ x. agreed (read_as (valued x.0) x.1)
body-agree o q inner slots.Price ts =
    then_agree (expect sorts.Name awaiting.Objective ts) (expect sorts.Name awaiting.Objective ts) _ _ (agreed (expect sorts.Name awaiting.Objective ts)) λ n.
    then_agree (climb 3 (unary o) n.1) (climb 3 (unary q) n.1) _ _ (trees-agree o q inner 3 n.1) λ x. agreed (read_as (priced n.0 x.0) x.1)

slotted-agree : (o q : Option Inner) → Agreeing o q → (c : Option Token) (w : Token) (s : Stood) (slot : Option Slot) → Agrees (phrase_of_slot o c w s slot) (phrase_of_slot q c w s slot)
slotted-agree o q inner c w s None ts = same refl
slotted-agree o q inner c w s (Some slot) ts = then_agree (body_of o slot ts) (body_of q slot ts) _ _ (body-agree o q inner slot ts) λ b. agreed (read_as (record { comma = c; word = w; body = b.0 }, s) b.1)

worded-agree : (o q : Option Inner) → Agreeing o q → (owner : Owner) (s : Stood) (c : Option Token) → Agrees (worded o owner s c) (worded q owner s c)
unfolding worded
worded-agree o q inner owner s c [] = same refl
worded-agree o q inner owner s c (w ∷ ts) =
    choose_agree (stood_before owner s (role_of w)) _ _ _ _ (agreed (rejected awaiting.FurtherPhrase (w ∷ ts)))
    (slotted-agree o q inner c w (and_then_stood s (role_of w)) (slot_of owner (role_of w)) ts)

phrase-agree : (o q : Option Inner) → Agreeing o q → (owner : Owner) (s : Stood) → Agrees (phrase_at o owner s) (phrase_at q owner s)
unfolding phrase_at
phrase-agree o q inner owner s ts = then_agree (comma_at ts) (comma_at ts) _ _ (agreed (comma_at ts)) λ c. worded-agree o q inner owner s c.0 c.1

phrases-agree : (o q : Option Inner) → Agreeing o q → (owner : Owner) → Agrees (phrases o owner) (phrases q owner)
unfolding phrases
phrases-agree o q inner owner ts = row-agree (phrase_at o owner) (phrase_at q owner) (phrase_next owner) (phrase-agree o q inner owner) (length ts) nothing_stood ts

indexing-agree : (o q : Option Inner) → Agreeing o q → Agrees (indexing_at o) (indexing_at q)
unfolding indexing_at
indexing-agree o q inner ts =
    choose_agree (next_is is_open_brace ts) _ _ _ _ (then_agree (braces o ts) (braces q ts) _ _ (braces-agree o q inner ts) λ b. agreed (read_as (Some b.0) b.1)) (agreed (read_as None ts))

declared-agree : (o q : Option Inner) → Agreeing o q → (k : Declares) (w : Token) → Agrees (declared_at o k w) (declared_at q k w)
unfolding declared_at set_at param_at check_at node_at arc_at objective_at
declared-agree o q inner declares.Set w ts =
    then_agree (expect sorts.Name awaiting.Other ts) (expect sorts.Name awaiting.Other ts) _ _ (agreed (expect sorts.Name awaiting.Other ts)) λ n.
    then_agree (phrases o owners.Set n.1) (phrases q owners.Set n.1) _ _ (phrases-agree o q inner owners.Set n.1) λ p.
    agreed (phrases_end owners.Set p.0.1 p.1 >>= λ e. read_as (set w n.0 p.0.0 e.0) e.1)
declared-agree o q inner declares.Param w ts =
    then_agree (expect sorts.Name awaiting.Other ts) (expect sorts.Name awaiting.Other ts) _ _ (agreed (expect sorts.Name awaiting.Other ts)) λ n.
    then_agree (indexing_at o n.1) (indexing_at q n.1) _ _ (indexing-agree o q inner n.1) λ b.
    then_agree (phrases o owners.Param b.1) (phrases q owners.Param b.1) _ _ (phrases-agree o q inner owners.Param b.1) λ p.
    agreed (phrases_end owners.Param p.0.1 p.1 >>= λ e. read_as (param w n.0 b.0 p.0.0 e.0) e.1)
declared-agree o q inner declares.Arc w ts =
    then_agree (expect sorts.Name awaiting.Other ts) (expect sorts.Name awaiting.Other ts) _ _ (agreed (expect sorts.Name awaiting.Other ts)) λ n.
    then_agree (indexing_at o n.1) (indexing_at q n.1) _ _ (indexing-agree o q inner n.1) λ b.
    then_agree (phrases o owners.Arc b.1) (phrases q owners.Arc b.1) _ _ (phrases-agree o q inner owners.Arc b.1) λ p.
    agreed (phrases_end owners.Arc p.0.1 p.1 >>= λ e. read_as (arc w n.0 b.0 p.0.0 e.0) e.1)
declared-agree o q inner declares.Check w ts =
    then_agree (indexing_at o ts) (indexing_at q ts) _ _ (indexing-agree o q inner ts) λ b.
    then_agree (expect sorts.Colon awaiting.Other b.1) (expect sorts.Colon awaiting.Other b.1) _ _ (agreed (expect sorts.Colon awaiting.Other b.1)) λ m.
    then_agree (climb 10 (unary o) m.1) (climb 10 (unary q) m.1) _ _ (trees-agree o q inner 10 m.1) λ x.
    agreed (expect sorts.Semicolon awaiting.Other x.1 >>= λ e. read_as (check w b.0 m.0 x.0 e.0) e.1)
declared-agree o q inner declares.Node w ts =
    then_agree (expect sorts.Name awaiting.Other ts) (expect sorts.Name awaiting.Other ts) _ _ (agreed (expect sorts.Name awaiting.Other ts)) λ n.
    then_agree (indexing_at o n.1) (indexing_at q n.1) _ _ (indexing-agree o q inner n.1) λ b.
    then_agree (condition_at o b.1) (condition_at q b.1) _ _ (condition-agree o q inner b.1) λ c.
    agreed (expect sorts.Semicolon awaiting.Other c.1 >>= λ e. read_as (node w n.0 b.0 c.0 e.0) e.1)
declared-agree o q inner declares.Objective w ts =
    then_agree (expect sorts.Name awaiting.Other ts) (expect sorts.Name awaiting.Other ts) _ _ (agreed (expect sorts.Name awaiting.Other ts)) λ n.
    then_agree (part_at sorts.Colon (wide o 7) n.1) (part_at sorts.Colon (wide q 7) n.1) _ _ (part-agree sorts.Colon (wide o 7) (wide q 7) (wide-agree o q inner 7) n.1) λ p.
    agreed (expect sorts.Semicolon (after_objective p.0) p.1 >>= λ e. read_as (objective w n.0 p.0 e.0) e.1)

role-agree : (o q : Option Inner) → Agreeing o q → (r : Role) (w : Token) → Agrees (declaration_of_role o r w) (declaration_of_role q r w)
role-agree o q inner (roles.Declaration k) w ts = declared-agree o q inner k w ts
role-agree o q inner _ w ts = same refl

declaration-agree : (o q : Option Inner) → Agreeing o q → (s : Unit {0}) → Agrees (declaration_step o s) (declaration_step q s)
unfolding declaration_step declaration_at
declaration-agree o q inner s [] = same refl
declaration-agree o q inner s (w ∷ ts) =
    then_agree (declaration_at o (w ∷ ts)) (declaration_at q (w ∷ ts)) _ _ (role-agree o q inner (role_of w) w ts) λ d. agreed (read_as (d.0, s) d.1)

pub model-agree : (d e : ℕ) → d ≤ e → Agrees (model_at d) (model_at e)
unfolding model_at
model-agree d e less ts =
    row-agree (declaration_step (nested d)) (declaration_step (nested e)) (λ s. any_left) (declaration-agree (nested d) (nested e) (inside-agree d e less)) (length ts) tt ts

rejected_too : {A : Type 0} (p q : Result A ParseError) (n : ℕ) (a : Awaiting) → Agree p q → p ≡ Err (stops.Rejected n a) → q ≡ Err (stops.Rejected n a)
rejected_too p q n a (same e) h = sym e ∙ h
rejected_too p q n a (deep m e) h = absurd (let k = sym e ∙ h in cc)

-- where a token is refused, no model that is as the grammar wants, of any depth, prints the tokens
pub rejected-none : (d n : ℕ) (a : Awaiting) (ts : Tokens) → model_at d ts ≡ Err (stops.Rejected n a) → (xs : List Declaration) → AreDeclarations xs → print xs ≡ ts → ⊥
rejected-none d n a ts h xs are printed =
    let e = max d (model_depth xs) in
    let read : model_at e (print xs) ≡ Ok ((xs, tt), []) = model-complete e xs are (omega arith) in
    let stop = rejected_too (model_at d ts) (model_at e ts) n a (model-agree d e (omega arith) ts) h in
    let both = sym (ap (model_at e) printed ∙ stop) ∙ read in
    cc

-- where a nesting too many is opened, each such model that prints the tokens is deeper
pub deep-deeper : (d n : ℕ) (ts : Tokens) → model_at d ts ≡ Err (stops.TooDeep n) → (xs : List Declaration) → AreDeclarations xs → print xs ≡ ts → d < model_depth xs
deep-deeper d n ts h xs are printed =
    let shallow : model_depth xs ≤ d → ⊥ = λ fits. let read = model-complete d xs are fits in let both = sym (ap (model_at d) printed ∙ h) ∙ read in cc in
    omega (arith, shallow)

-- and the tokens of each such model that is deeper are read up to a nesting too many
pub deep-stops : (d : ℕ) (xs : List Declaration) → AreDeclarations xs → d < model_depth xs → (n : ℕ) × (model_at d (print xs) ≡ Err (stops.TooDeep n))
deep-stops d xs are deeper = by (model-agree d (model_depth xs) (omega arith) (print xs))
  where
    by : Agree (model_at d (print xs)) (model_at (model_depth xs) (print xs)) → (n : ℕ) × (model_at d (print xs) ≡ Err (stops.TooDeep n))
    by (same e) = absurd (let s = model-sound d (print xs) xs (e ∙ model-complete (model_depth xs) xs are (omega arith)) in omega (arith, s.2))
    by (deep n e) = (n, e)
