-- What is printed as an expression, as the grammar wants it, is read as that expression.
use Rattle.std.specs.Prelude.{◌≡◌, ◌≤◌, ◌<◌, ◌⊎◌, ℕ, zero, suc, Bool, true, false, cond, nat_le, ◌∷◌, length, Option, None, Some, Ok}
use Rattle.std.proofs.Common.{refl, sym, ap, ◌∙◌, arith, inl, inr}
use Rattle.std.proofs.lemmas.Bool.{le-leb}
use Rattle.std.proofs.lemmas.Bool.Decides.{nat_tests}
use Rattle.net_lex.specs.declared.token.Token.{Token}
use Rattle.net_tree.specs.declared.role.Role.{Role}
use Rattle.net_tree.specs.declared.role.Role.TheVariants as roles
use Rattle.net_tree.specs.Role.{role_of, is_name, is_leaf, is_not, is_open_square, is_if, is_open, is_open_brace, is_sign, is_reduction, is_else, is_close, is_close_brace}
use Rattle.net_tree.specs.Tree.{Tree, Links, Part, Braces, leaf, indexed, parens, tuple, negated, braced, signed, reduced, chain, choice, net, none, link, absent, part, empty, filled}
use Rattle.net_tree.specs.Print.{put, put_links, put_part, put_braces}
use Rattle.net_tree.specs.Depth.{depth, links_depth, part_depth, braces_depth}
use Rattle.net_tree.specs.WellFormed.{precedence, joins, is_value, IsLinked, IsWellFormed, AreWellFormed, IsElse, IsFilter, AreBraces}
use Rattle.net_model.specs.declared.expected.Expected.TheVariants as sorts
use Rattle.net_model.specs.declared.model_parser.Awaiting.TheVariants as awaiting
use Rattle.net_model.specs.Reading.{Tokens, ◌>>=◌, read_as, next_is}
use Rattle.net_model.specs.Expressions.{Reader, Inner, all_links, chain_at, climb, present_at, part_at, subscripts_at, named_at, closed, listed, parens_from, parens_at, negated_at, ends_braces, filter_at, empty_braces_at, items_at, braces_at, braces, reduction_at, conditional_at, unary_at, unary, if_at, wide, inner_of, nested}
use Rattle.net_model.proofs.Tools.{expect-complete}
use Rattle.net_model.proofs.Grips.{Stops, stops-joins, stops-square, Shuts, close-shuts, close_square-shuts, close_brace-shuts, colon-shuts, then-shuts, else-shuts, close-no_else, close_brace-no_colon, colon-hollow, close_brace-hollow, reach, reach-le, reach-below}
use Rattle.net_model.proofs.LinksComplete.{links-complete, IsReadBack, Complete, AllComplete, in_place, stops-links, operand-read, links-are_read, list-joint, list-reaches, chain-joint, chain-reaches}
use Rattle.net_model.proofs.Starts.{climb-no_if, climb-no_hollow}

climb_unary : (r : ℕ) (u : Reader) → r ≤ 1 → climb r u ≡ u
unfolding climb
climb_unary zero u low = refl
climb_unary (suc zero) u low = refl
climb_unary (suc (suc n)) u low = absurd (omega arith)

-- a tree of precedence 0 or 1
unary_back : (d : ℕ) (x : Tree) (ts : Tokens) → precedence x ≤ 1 → (Stops (reach (precedence x)) ts → unary (nested d) (put x ts) ≡ Ok (x, ts)) → IsReadBack d x ts
unary_back d x ts low back = record {
  narrow = λ fits stops. ap (λ (p : Reader). p (put x ts)) (climb_unary (precedence x) (unary (nested d)) low) ∙ back stops;
  loose = λ e. absurd (omega arith);
}

leaf-read : (o : Option Inner) (t : Token) (ts : Tokens) → Stops 0 ts → (r : Role) → is_leaf r ≡ true → unary_at o r t ts ≡ Ok (leaf t, ts)
unfolding unary_at named_at
leaf-read None t ts stops roles.Name h = rw (stops-square ts stops) refl
leaf-read (Some i) t ts stops roles.Name h = rw (stops-square ts stops) refl
leaf-read o t ts stops roles.Number h = refl
leaf-read o t ts stops roles.Text h = refl
leaf-read o t ts stops _ h = absurd (cc)

leaf_rule : (d : ℕ) (t : Token) → Complete d (leaf t)
unfolding unary
leaf_rule d t level deep ts = unary_back d (leaf t) ts (omega arith) (λ stops. leaf-read (nested d) t ts stops (role_of t) level)

-- what follows a list or an expression within brackets
shut : (p : ℕ) (t : Token) (ts : Tokens) → p < 20 → Shuts (role_of t) → Stops p (t ∷ ts)
shut p t ts h s = omega (arith, s.grips)

-- a list of operands of precedence n behind a first one
list_first : (d n : ℕ) (x : Tree) (l : Links) (t : Token) (ts : Tokens) → n ≤ 8 → 1 < n → Complete d x → IsWellFormed x → depth x ≤ d → precedence x ≤ n → AreWellFormed 0 n 0 l → Shuts (role_of t)
    → (m : ℕ) → n ≤ m → m ≤ 10 → climb m (unary (nested d)) (put x (put_links l (t ∷ ts))) ≡ Ok (x, put_links l (t ∷ ts))
list_first d n x none t ts high low complete level deep fits are s m wider most =
    in_place d m m x (t ∷ ts) complete level deep (omega (arith, fits, wider)) most (omega arith) (omega (arith, reach-le (precedence x), fits, wider)) (shut m t ts (omega (arith, most)) s)
list_first d n x (link o y l) t ts high low complete level deep fits are s m wider most =
    in_place d m m x (put_links (link o y l) (t ∷ ts)) complete level deep (omega (arith, fits, wider)) most (omega arith) (omega (arith, reach-le (precedence x), fits, wider))
    (stops-links 0 0 m o (put y (put_links l (t ∷ ts))) (list-joint m (omega (arith, most))) are.0)

list_rest : (d n : ℕ) (l : Links) (t : Token) (ts : Tokens) → n ≤ 8 → 1 < n → AllComplete d l → AreWellFormed 0 n 0 l → links_depth l ≤ d → Shuts (role_of t)
    → all_links 0 (climb n (unary (nested d))) (put_links l (t ∷ ts)) ≡ Ok (l, t ∷ ts)
list_rest d n l t ts high low complete are deep s =
    links-complete 0 (climb n (unary (nested d))) (length (put_links l (t ∷ ts))) 0 l (t ∷ ts) (omega arith)
    (links-are_read d 0 n n 0 l (t ∷ ts) complete (omega (arith, high)) (omega arith) (omega arith) (list-joint n (omega (arith, high))) (list-reaches n) are deep (shut n t ts (omega (arith, high)) s) s.ends)

named_some : (i : Inner) (n o : Token) (ts : Tokens) → is_open_square (role_of o) ≡ true → (r : Role) → is_name r ≡ true → unary_at (Some i) r n (o ∷ ts) ≡ subscripts_at i n (o ∷ ts)
unfolding unary_at named_at
named_some i n o ts opens roles.Name h = rw opens refl
named_some i n o ts opens _ h = absurd (cc)

indexed_rule : (d : ℕ) (n o : Token) (x : Tree) (l : Links) (c : Token) → Complete d x → AllComplete d l → Complete (suc d) (indexed n o x l c)
unfolding unary nested inner_of subscripts_at
indexed_rule d n o x l c cx cl level deep ts =
    unary_back (suc d) (indexed n o x l c) ts (omega arith)
    (λ stops.
    let s = close_square-shuts (role_of c) level.5 in
    let first = list_first d 3 x l c ts (omega arith) (omega arith) cx level.2 (omega arith) level.3 level.4 s 3 (omega arith) (omega arith) in
    let rest = list_rest d 3 l c ts (omega arith) (omega arith) cl level.4 (omega arith) s in
    named_some (inner_of (nested d)) n o (put x (put_links l (c ∷ ts))) level.1 (role_of n) level.0
    ∙ (rw (first, rest, expect-complete sorts.CloseSquare awaiting.Other c ts level.5) refl))

at_open : (i : Inner) (o : Token) (ts : Tokens) (r : Role) → is_open r ≡ true → unary_at (Some i) r o ts ≡ parens_at i o ts
unfolding unary_at
at_open i o ts roles.Open h = refl
at_open i o ts _ h = absurd (cc)

at_not : (o : Option Inner) (n : Token) (ts : Tokens) (r : Role) → is_not r ≡ true → unary_at o r n ts ≡ negated_at o n ts
unfolding unary_at
at_not o n ts roles.Not h = refl
at_not o n ts _ h = absurd (cc)

pub at_sign : (i : Inner) (s : Token) (ts : Tokens) (r : Role) → is_sign r ≡ true → unary_at (Some i) r s ts ≡ (i.at 1 ts >>= λ x. read_as (signed s x.0) x.1)
unfolding unary_at
at_sign i s ts roles.Sign h = refl
at_sign i s ts _ h = absurd (cc)

at_reduction : (i : Inner) (w : Token) (ts : Tokens) (r : Role) → is_reduction r ≡ true → unary_at (Some i) r w ts ≡ reduction_at i w ts
unfolding unary_at
at_reduction i w ts roles.Reduction h = refl
at_reduction i w ts _ h = absurd (cc)

at_brace : (i : Inner) (o : Token) (ts : Tokens) (r : Role) → is_open_brace r ≡ true → unary_at (Some i) r o ts ≡ (braces_at i o ts >>= λ b. read_as (braced b.0) b.1)
unfolding unary_at
at_brace i o ts roles.OpenBrace h = refl
at_brace i o ts _ h = absurd (cc)

-- an `if` begins with that word
pub begins_if : (x : Tree) (ts : Tokens) → IsWellFormed x → precedence x ≡ 11 → next_is is_if (put x ts) ≡ true
begins_if (choice i x t y e) ts level h = level.0
begins_if (chain n x l) ts level h = absurd (omega (arith, level.1, h))
begins_if (signed s x) ts level h = absurd (omega (arith, level.2, h))
begins_if (leaf t) ts level h = absurd (omega arith)
begins_if (indexed n o x l c) ts level h = absurd (omega (arith, h))
begins_if (parens o x c) ts level h = absurd (omega (arith, h))
begins_if (tuple o x l c) ts level h = absurd (omega (arith, h))
begins_if (negated n o x c) ts level h = absurd (omega (arith, h))
begins_if (braced b) ts level h = absurd (omega (arith, h))
begins_if (reduced w b x) ts level h = absurd (omega (arith, h))
begins_if (net s w) ts level h = absurd (omega (arith, h))

-- a tree in a place that takes an `if` too
pub wide_narrow : (d n : ℕ) (x : Tree) (ts : Tokens) → climb n (unary (nested d)) (put x ts) ≡ Ok (x, ts) → wide (nested d) n (put x ts) ≡ Ok (x, ts)
unfolding wide
wide_narrow d n x ts h = rw (climb-no_if n (nested d) (put x ts) (x, ts) h) h

pub wide_loose : (d n : ℕ) (x : Tree) (ts : Tokens) → Complete d x → IsWellFormed x → depth x ≤ d → precedence x ≡ 11 → Stops 6 ts → next_is is_else ts ≡ false → wide (nested d) n (put x ts) ≡ Ok (x, ts)
unfolding wide
wide_loose d n x ts complete level deep h stops no_else = rw (begins_if x ts level h) ((complete level deep ts).loose h stops no_else)

no_list : (p : Reader) (c : Token) (ts : Tokens) → Shuts (role_of c) → all_links 0 p (c ∷ ts) ≡ Ok (none, c ∷ ts)
no_list p c ts s = links-complete 0 p (length (c ∷ ts)) 0 none (c ∷ ts) (omega arith) (s.ends 0)

closed_parens : (d : ℕ) (o : Token) (x : Tree) (c : Token) (ts : Tokens) → is_close (role_of c) ≡ true → (b : Bool) → cond b (all_links 0 (climb 3 (unary (nested d))) (c ∷ ts) >>= λ l. listed o x l.0 l.1) (closed o x (c ∷ ts)) ≡ Ok (parens o x c, ts)
closed_parens d o x c ts closes true = rw (no_list (climb 3 (unary (nested d))) c ts (close-shuts (role_of c) closes), expect-complete sorts.Close awaiting.Other c ts closes) refl
closed_parens d o x c ts closes false = rw (expect-complete sorts.Close awaiting.Other c ts closes) refl

pub ten_or_if : (r : ℕ) → r ≤ 11 → (r ≤ 10) ⊎ (r ≡ 11)
ten_or_if r h = grind (arith)

parens_wide : (d : ℕ) (x : Tree) (c : Token) (ts : Tokens) → Complete d x → IsWellFormed x → depth x ≤ d → is_close (role_of c) ≡ true → (precedence x ≤ 10) ⊎ (precedence x ≡ 11)
    → wide (nested d) 10 (put x (c ∷ ts)) ≡ Ok (x, c ∷ ts)
parens_wide d x c ts complete level deep closes (inl h) =
    wide_narrow d 10 x (c ∷ ts) (in_place d 10 10 x (c ∷ ts) complete level deep h (omega arith) (omega arith) (omega (arith, reach-le (precedence x))) (shut 10 c ts (omega arith) (close-shuts (role_of c) closes)))
parens_wide d x c ts complete level deep closes (inr h) =
    wide_loose d 10 x (c ∷ ts) complete level deep h (shut 6 c ts (omega arith) (close-shuts (role_of c) closes)) (close-no_else (role_of c) closes)

parens_rule : (d : ℕ) (o : Token) (x : Tree) (c : Token) → Complete d x → Complete (suc d) (parens o x c)
unfolding unary nested inner_of parens_at parens_from
parens_rule d o x c complete level deep ts =
    unary_back (suc d) (parens o x c) ts (omega arith)
    (λ stops.
    let inner = parens_wide d x c ts complete level.1 (omega arith) level.3 (ten_or_if (precedence x) level.2) in
    at_open (inner_of (nested d)) o (put x (c ∷ ts)) (role_of o) level.0
    ∙ (rw inner (closed_parens d o x c ts level.3 (nat_le (precedence x) 3))))

tuple_read : (d : ℕ) (o : Token) (x : Tree) (l : Links) (c : Token) (ts : Tokens) → IsLinked l → is_close (role_of c) ≡ true → listed o x l (c ∷ ts) ≡ Ok (tuple o x l c, ts)
tuple_read d o x none c ts linked closes = absurd linked
tuple_read d o x (link p y l) c ts linked closes = rw (expect-complete sorts.Close awaiting.Other c ts closes) refl

tuple_rule : (d : ℕ) (o : Token) (x : Tree) (l : Links) (c : Token) → Complete d x → AllComplete d l → Complete (suc d) (tuple o x l c)
unfolding unary nested inner_of parens_at parens_from
tuple_rule d o x l c cx cl level deep ts =
    unary_back (suc d) (tuple o x l c) ts (omega arith)
    (λ stops.
    let s = close-shuts (role_of c) level.5 in
    let first = wide_narrow d 10 x (put_links l (c ∷ ts)) (list_first d 3 x l c ts (omega arith) (omega arith) cx level.1 (omega arith) level.2 level.4 s 10 (omega arith) (omega arith)) in
    let rest = list_rest d 3 l c ts (omega arith) (omega arith) cl level.4 (omega arith) s in
    at_open (inner_of (nested d)) o (put x (put_links l (c ∷ ts))) (role_of o) level.0
    ∙ (rw (first, le-leb (precedence x) 3 level.2, rest) (tuple_read d o x l c ts level.3 level.5)))

negated_rule : (d : ℕ) (n o : Token) (x : Tree) (c : Token) → Complete d x → Complete (suc d) (negated n o x c)
unfolding unary nested inner_of negated_at
negated_rule d n o x c complete level deep ts =
    unary_back (suc d) (negated n o x c) ts (omega arith)
    (λ stops.
    let inner = in_place d 10 10 x (c ∷ ts) complete level.2 (omega arith) level.3 (omega arith) (omega arith) (omega (arith, reach-le (precedence x), level.3)) (shut 10 c ts (omega arith) (close-shuts (role_of c) level.4)) in
    at_not (Some (inner_of (nested d))) n (o ∷ put x (c ∷ ts)) (role_of n) level.0
    ∙ (rw (expect-complete sorts.Open awaiting.Other o (put x (c ∷ ts)) level.1, inner, expect-complete sorts.Close awaiting.Other c ts level.4) refl))

signed_rule : (d : ℕ) (s : Token) (x : Tree) → Complete d x → Complete (suc d) (signed s x)
unfolding unary nested inner_of
signed_rule d s x complete level deep ts =
    unary_back (suc d) (signed s x) ts level.2
    (λ stops.
    let narrow = (complete level.1 (omega arith) ts).narrow (omega (arith, level.2)) stops in
    let inner : climb 1 (unary (nested d)) (put x ts) ≡ Ok (x, ts) =
    ap (λ (p : Reader). p (put x ts)) (climb_unary 1 (unary (nested d)) (omega arith) ∙ sym (climb_unary (precedence x) (unary (nested d)) level.2)) ∙ narrow in
    at_sign (inner_of (nested d)) s (put x ts) (role_of s) level.0 ∙ (rw inner refl))

chain_rule : (d n : ℕ) (x : Tree) (l : Links) → Complete d x → AllComplete d l → Complete d (chain n x l)
unfolding climb chain_at
chain_rule d zero x l cx cl level deep ts = absurd (omega (arith, level.0))
chain_rule d (suc n) x none cx cl level deep ts = absurd level.4
chain_rule d (suc n) x (link o y l) cx cl level deep ts = record {
  narrow = λ fits stops.
      let first = operand-read d (suc n) (suc n) n 0 x (link o y l) ts cx (omega (arith, level.1)) (omega arith) (omega arith) (chain-joint n) (chain-reaches n) level.2 (omega arith) level.3 level.5 stops in
      let over : (k : ℕ) → next_is (joins (suc n) k) ts ≡ false = λ k. stops-joins (suc n) (suc n) k ts (omega arith) (omega arith) stops in
      let are = links-are_read d (suc n) (suc n) n 0 (link o y l) ts cl (omega (arith, level.1)) (omega arith) (omega arith) (chain-joint n) (chain-reaches n) level.5 (omega arith) stops over in
      let rest = links-complete (suc n) (climb (suc n) (unary (nested d))) (length (put_links (link o y l) ts)) 0 (link o y l) ts (omega arith) are in
      rw (first, rest) refl;
  loose = λ e. absurd (omega (arith, level.1, e));
}

-- braces
abbrev pub CompleteBraces : ℕ → Braces → Type 0
CompleteBraces d b = AreBraces b → braces_depth b ≤ d → (ts : Tokens) → braces (nested d) (put_braces b ts) ≡ Ok (b, ts)

abbrev pub CompletePart : ℕ → Part → Type 0
CompletePart d absent = Unit {0}
CompletePart d (part m x) = Complete d x

filter-read : (d : ℕ) (p : Part) (c : Token) (ts : Tokens) → CompletePart d p → IsFilter p → part_depth p ≤ d → is_close_brace (role_of c) ≡ true
    → filter_at (inner_of (nested d)) (put_part p (c ∷ ts)) ≡ Ok (p, c ∷ ts)
unfolding part_at present_at inner_of
filter-read d absent c ts complete level deep closes = rw (close_brace-no_colon (role_of c) closes) refl
filter-read d (part m x) c ts complete level deep closes =
    let inner = in_place d 10 10 x (c ∷ ts) complete level.1 deep level.2 (omega arith) (omega arith) (omega (arith, reach-le (precedence x), level.2)) (shut 10 c ts (omega arith) (close_brace-shuts (role_of c) closes)) in
    rw (level.0, inner) refl

begins_hollow : (p : Part) (c : Token) (ts : Tokens) → IsFilter p → is_close_brace (role_of c) ≡ true → next_is ends_braces (put_part p (c ∷ ts)) ≡ true
begins_hollow absent c ts level closes = close_brace-hollow (role_of c) closes
begins_hollow (part m x) c ts level closes = colon-hollow (role_of m) level.0

empty_rule : (d : ℕ) (o : Token) (p : Part) (c : Token) → CompletePart d p → CompleteBraces (suc d) (empty o p c)
unfolding braces nested braces_at empty_braces_at
empty_rule d o p c complete level deep ts =
    rw (
      expect-complete sorts.OpenBrace awaiting.Other o (put_part p (c ∷ ts)) level.0,
      begins_hollow p c ts level.1 level.2,
      filter-read d p c ts complete level.1 (omega arith) level.2,
      expect-complete sorts.CloseBrace awaiting.Other c ts level.2,
    )
    refl

-- what follows the items
after_items : (p : Part) (c : Token) (ts : Tokens) → IsFilter p → is_close_brace (role_of c) ≡ true → (t : Token) × (r : Tokens) × (put_part p (c ∷ ts) ≡ t ∷ r) × Shuts (role_of t)
after_items absent c ts level closes = (c, ts, refl, close_brace-shuts (role_of c) closes)
after_items (part m x) c ts level closes = (m, put x (c ∷ ts), refl, colon-shuts (role_of m) level.0)

filled_rule : (d : ℕ) (o : Token) (x : Tree) (l : Links) (p : Part) (c : Token) → Complete d x → AllComplete d l → CompletePart d p → CompleteBraces (suc d) (filled o x l p c)
unfolding braces nested inner_of braces_at items_at
filled_rule d o x l p c cx cl cp level deep ts =
    let b = after_items p c ts level.4 level.5 in
    let first' = list_first d 8 x l b.0 b.1 (omega arith) (omega arith) cx level.1 (omega arith) level.2 level.3 b.3 8 (omega arith) (omega arith) in
    let first : climb 8 (unary (nested d)) (put x (put_links l (put_part p (c ∷ ts)))) ≡ Ok (x, put_links l (put_part p (c ∷ ts))) = rw b.2 first' in
    let rest' = list_rest d 8 l b.0 b.1 (omega arith) (omega arith) cl level.3 (omega arith) b.3 in
    let rest : all_links 0 (climb 8 (unary (nested d))) (put_links l (put_part p (c ∷ ts))) ≡ Ok (l, put_part p (c ∷ ts)) = rw b.2 rest' in
    rw (
      expect-complete sorts.OpenBrace awaiting.Other o (put x (put_links l (put_part p (c ∷ ts)))) level.0,
      climb-no_hollow 8 (nested d) (put x (put_links l (put_part p (c ∷ ts)))) (x, put_links l (put_part p (c ∷ ts))) first,
      first,
      rest,
    )
    (rw (filter-read d p c ts cp level.4 (omega arith) level.5, expect-complete sorts.CloseBrace awaiting.Other c ts level.5) refl)

-- braces as an expression
opened : (i : Inner) (o : Token) (ts : Tokens) → is_open_brace (role_of o) ≡ true → braces (Some i) (o ∷ ts) ≡ braces_at i o ts
unfolding braces
opened i o ts opens = rw (expect-complete sorts.OpenBrace awaiting.Other o ts opens) refl

braced_at : (i : Inner) (o : Token) (r ts : Tokens) (b : Braces) → is_open_brace (role_of o) ≡ true → braces (Some i) (o ∷ r) ≡ Ok (b, ts) → unary_at (Some i) (role_of o) o r ≡ Ok (braced b, ts)
braced_at i o r ts b opens h =
    let inner : braces_at i o r ≡ Ok (b, ts) = sym (opened i o r opens) ∙ h in
    at_brace i o r (role_of o) opens ∙ (rw inner refl)

braced_back : (d : ℕ) (b : Braces) (ts : Tokens) → AreBraces b → braces (nested (suc d)) (put_braces b ts) ≡ Ok (b, ts) → unary (nested (suc d)) (put_braces b ts) ≡ Ok (braced b, ts)
unfolding unary nested
braced_back d (empty o p c) ts level h = braced_at (inner_of (nested d)) o (put_part p (c ∷ ts)) ts (empty o p c) level.0 h
braced_back d (filled o x l p c) ts level h = braced_at (inner_of (nested d)) o (put x (put_links l (put_part p (c ∷ ts)))) ts (filled o x l p c) level.0 h

braced_rule : (d : ℕ) (b : Braces) → CompleteBraces (suc d) b → Complete (suc d) (braced b)
braced_rule d b complete level deep ts = unary_back (suc d) (braced b) ts (omega arith) (λ stops. braced_back d b ts level (complete level deep ts))

reduced_rule : (d : ℕ) (w : Token) (b : Braces) (x : Tree) → CompleteBraces d b → Complete d x → Complete (suc d) (reduced w b x)
unfolding unary nested inner_of reduction_at
reduced_rule d w b x cb cx level deep ts =
    unary_back (suc d) (reduced w b x) ts (omega arith)
    (λ stops.
    let inner = in_place d 2 1 x ts cx level.2 (omega arith) level.3 (omega arith) (omega arith) (reach-below (precedence x) 1 level.3 (omega arith)) stops in
    at_reduction (inner_of (nested d)) w (put_braces b (put x ts)) (role_of w) level.0 ∙ (rw (cb level.1 (omega arith) (put x ts), inner) refl))

-- what follows the branch of `then`
after_then : (e : Part) (ts : Tokens) → IsElse e → Stops 6 ts → Stops 6 (put_part e ts)
after_then absent ts level stops = stops
after_then (part m x) ts level stops = let s = else-shuts (role_of m) level.0 in omega (arith, s.grips)

seven_or_if : (r : ℕ) → is_value r ≡ true → (r ≤ 7) ⊎ (r ≡ 11)
seven_or_if r h = grind (arith, nat_tests)

pub value-read : (d : ℕ) (x : Tree) (ts : Tokens) → Complete d x → IsWellFormed x → depth x ≤ d → is_value (precedence x) ≡ true → Stops 6 ts → next_is is_else ts ≡ false → wide (nested d) 7 (put x ts) ≡ Ok (x, ts)
value-read d x ts complete level deep value stops no_else =
    elim (seven_or_if (precedence x) value) [
      | inl h ↦ wide_narrow d 7 x ts (in_place d 7 6 x ts complete level deep h (omega arith) (omega arith) (reach-below (precedence x) 6 h (omega arith)) stops)
      | inr h ↦ wide_loose d 7 x ts complete level deep h stops no_else
    ]

else-read : (d : ℕ) (e : Part) (ts : Tokens) → CompletePart d e → IsElse e → part_depth e ≤ d → Stops 6 ts → next_is is_else ts ≡ false → part_at sorts.Else (wide (nested d) 7) (put_part e ts) ≡ Ok (e, ts)
unfolding part_at present_at
else-read d absent ts complete level deep stops no_else = rw no_else refl
else-read d (part m x) ts complete level deep stops no_else = rw (level.0, value-read d x ts complete level.1 deep level.2 stops no_else) refl

choice_rule : (d : ℕ) (i : Token) (x : Tree) (t : Token) (y : Tree) (e : Part) → Complete d x → Complete d y → CompletePart d e → Complete (suc d) (choice i x t y e)
unfolding nested inner_of if_at conditional_at
choice_rule d i x t y e cx cy ce level deep ts = record {
  narrow = λ fits. absurd (omega (arith, fits));
  loose = λ is stops no_else.
      let first = in_place d 10 10 x (t ∷ put y (put_part e ts)) cx level.1 (omega arith) level.2 (omega arith) (omega arith) (omega (arith, reach-le (precedence x), level.2)) (shut 10 t (put y (put_part e ts)) (omega arith) (then-shuts (role_of t) level.3)) in
      let second = in_place d 7 6 y (put_part e ts) cy level.4 (omega arith) level.5 (omega arith) (omega arith) (reach-below (precedence y) 6 level.5 (omega arith)) (after_then e ts level.6 stops) in
      rw (first, expect-complete sorts.Then awaiting.Other t (put y (put_part e ts)) level.3, second, else-read d e ts ce level.6 (omega arith) stops no_else) refl;
}

net_rule : (d : ℕ) (s : Option Token) (w : Token) → Complete d (net s w)
net_rule d s w level deep ts = record { narrow = λ fits. absurd (omega (arith, fits)); loose = λ is. absurd (omega (arith, is)) }

-- a tree whose token opens a nesting has one left
shallow : (d : ℕ) (x : Tree) → 0 < depth x → ((e : ℕ) → d ≡ suc e → Complete (suc e) x) → Complete d x
shallow zero x some inner = λ level deep ts. absurd (omega (arith, some, deep))
shallow (suc d) x some inner = inner d refl

shallow_braces : (d : ℕ) (b : Braces) → 0 < braces_depth b → ((e : ℕ) → CompleteBraces (suc e) b) → CompleteBraces d b
shallow_braces zero b some inner = λ level deep ts. absurd (omega (arith, some, deep))
shallow_braces (suc d) b some inner = inner d

some_braces : (b : Braces) → 0 < braces_depth b
some_braces (empty o p c) = omega arith
some_braces (filled o x l p c) = omega arith

mutual
  pub trees-complete : (x : Tree) (d : ℕ) → Complete d x
  trees-complete (leaf t) d = leaf_rule d t
  trees-complete (indexed n o x l c) d = shallow d (indexed n o x l c) (omega arith) (λ e is. indexed_rule e n o x l c (trees-complete x e) (links-all_complete l e))
  trees-complete (parens o x c) d = shallow d (parens o x c) (omega arith) (λ e is. parens_rule e o x c (trees-complete x e))
  trees-complete (tuple o x l c) d = shallow d (tuple o x l c) (omega arith) (λ e is. tuple_rule e o x l c (trees-complete x e) (links-all_complete l e))
  trees-complete (negated n o x c) d = shallow d (negated n o x c) (omega arith) (λ e is. negated_rule e n o x c (trees-complete x e))
  trees-complete (braced b) d = shallow d (braced b) (some_braces b) (λ e is. braced_rule e b (braces-complete b (suc e)))
  trees-complete (signed s x) d = shallow d (signed s x) (omega arith) (λ e is. signed_rule e s x (trees-complete x e))
  trees-complete (reduced w b x) d = shallow d (reduced w b x) (omega arith) (λ e is. reduced_rule e w b x (braces-complete b e) (trees-complete x e))
  trees-complete (chain n x l) d = chain_rule d n x l (trees-complete x d) (links-all_complete l d)
  trees-complete (choice i x t y e) d = shallow d (choice i x t y e) (omega arith) (λ f is. choice_rule f i x t y e (trees-complete x f) (trees-complete y f) (part-complete e f))
  trees-complete (net s w) d = net_rule d s w

  pub links-all_complete : (l : Links) (d : ℕ) → AllComplete d l
  links-all_complete none d = tt
  links-all_complete (link o x l) d = (trees-complete x d, links-all_complete l d)

  pub part-complete : (p : Part) (d : ℕ) → CompletePart d p
  part-complete absent d = tt
  part-complete (part m x) d = trees-complete x d

  pub braces-complete : (b : Braces) (d : ℕ) → CompleteBraces d b
  braces-complete (empty o p c) d = shallow_braces d (empty o p c) (omega arith) (λ e. empty_rule e o p c (part-complete p e))
  braces-complete (filled o x l p c) d = shallow_braces d (filled o x l p c) (omega arith) (λ e. filled_rule e o x l p c (trees-complete x e) (links-all_complete l e) (part-complete p e))
