-- The readers of expressions, at so many nestings: the tokens before their stops begin expressions.
use Rattle.std.specs.Prelude.{◌≡◌, ◌≤◌, ◌<◌, ℕ, zero, suc, Bool, true, false, cond, [], ◌∷◌, length, Option, None, Some}
use Rattle.std.proofs.Common.{refl, arith, subst, inl, inr}
use Rattle.net_lex.specs.declared.token.Token.{Token}
use Rattle.net_tree.specs.declared.role.Role.{Role}
use Rattle.net_tree.specs.declared.role.Role.TheVariants as roles
use Rattle.net_tree.specs.Role.{role_of, is_name, is_not, is_if, is_open, is_open_brace, is_sign, is_reduction}
use Rattle.net_tree.specs.Tree.{Tree, Braces, leaf, indexed, parens, negated, braced, signed, reduced, choice, absent, empty, valued}
use Rattle.net_tree.specs.Print.{put, put_braces}
use Rattle.net_tree.specs.Depth.{depth}
use Rattle.net_tree.specs.WellFormed.{precedence, IsWellFormed}
use Rattle.net_tree.specs.Phrases.{IsReference}
use Rattle.net_model.specs.declared.expected.Expected.TheVariants as sorts
use Rattle.net_model.specs.declared.model_parser.Awaiting.TheVariants as awaiting
use Rattle.net_model.specs.declared.model_parser.ParseError.TheVariants as stops
use Rattle.net_model.specs.Meaning.{announces}
use Rattle.net_model.specs.Reading.{Tokens, Read, ◌>>=◌, read_as, rejected, too_deep, next_is}
use Rattle.net_model.specs.Expressions.{Inner, climb, named_at, not_shut, negated_at, braces_at, braces, reduction_at, unary_at, unary, if_at, wide, inner_of, nested}
use Rattle.net_model.proofs.LinksSound.{UpTo}
use Rattle.net_model.proofs.TreesSound.{Wide, SoundInner, IsInside, unary-sound, inside-sound}
use Rattle.net_model.proofs.Readers.{put_before}
use Rattle.net_model.proofs.Mending.{Written, Begun, Mended, Mending, Sometime, announced, here, inward, same, then_mends, last_mends, choose_mends, read_mends, rejected_mends, opens_mends, passed_mends, recast_mends}
use Rattle.net_model.proofs.Fillers.{filler, fills, a_name, a_name_level, name-leaf, tree, braces_of}
use Rattle.net_model.proofs.MendingLinks.{Mends, climb-mends}
use Rattle.net_model.proofs.MendingTrees.{MendInner, reference, named-inside, named-shut, parens-mends, negated-inside, braces_at-mends, braces-mends, choice-mends}

-- where the word before announced the nesting too many
announced_mends : {A : Type 0} (K : Written A) (d : ℕ) (n t : Token) (ts : Tokens) → announces (role_of n) ≡ true → Begun K d same [] → Begun K (suc d) same (n ∷ []) → Sometime K d same (n ∷ t ∷ [])
    → Mending K d same (n ∷ t ∷ ts) (too_deep (t ∷ ts))
announced_mends K d n t ts announces b c more s h =
    let e : stops.TooDeep (length (t ∷ ts)) ≡ s = cc in
    subst (Mended K d same (n ∷ t ∷ ts)) e (record { before = n ∷ []; token = t; after = ts; text = refl; size = refl; shallow = announced [] n refl announces b c; goes_on = more })

-- a name alone begins an expression of any precedence
name_begun : (Fits : ℕ → Type 0) (k : ℕ) → Fits 0 → Begun (tree Fits) k same []
name_begun Fits k fits = record { thing = a_name; fits = (a_name_level, omega arith, fits); rest = filler sorts.Name ∷ []; text = λ r. refl }

not_announces : (r : Role) → is_not r ≡ true → announces r ≡ true
not_announces roles.Not h = refl
not_announces _ h = absurd (cc)

reduction_announces : (r : Role) → is_reduction r ≡ true → announces r ≡ true
reduction_announces roles.Reduction h = refl
reduction_announces _ h = absurd (cc)

negated_begun : (d : ℕ) (n o : Token) → is_not (role_of n) ≡ true → is_open (role_of o) ≡ true → Sometime (tree (UpTo 1)) d same (n ∷ o ∷ [])
negated_begun d n o nots opens = (
  suc d,
  omega arith,
  record {
    thing = negated n o a_name (filler sorts.Close);
    fits = ((nots, opens, a_name_level, omega arith, fills sorts.Close), omega arith, omega arith);
    rest = filler sorts.Name ∷ filler sorts.Close ∷ [];
    text = λ r. refl;
  },
)

not_begun : (d : ℕ) (n : Token) → is_not (role_of n) ≡ true → Begun (tree (UpTo 1)) (suc d) (λ r. n ∷ r) []
not_begun d n nots = record {
  thing = negated n (filler sorts.Open) a_name (filler sorts.Close);
  fits = ((nots, fills sorts.Open, a_name_level, omega arith, fills sorts.Close), omega arith, omega arith);
  rest = filler sorts.Open ∷ filler sorts.Name ∷ filler sorts.Close ∷ [];
  text = λ r. refl;
}

-- a word that was read, or that is still to come
reported : (k : ℕ) (n : Token) → Begun (tree (UpTo 1)) k (λ r. n ∷ r) [] → Begun (tree (UpTo 1)) k same (n ∷ [])
reported k n b = record { thing = b.thing; fits = b.fits; rest = b.rest; text = b.text }

negated-shut : (d : ℕ) (n : Token) → is_not (role_of n) ≡ true → (ts : Tokens) → Mending (tree (UpTo 1)) d same (n ∷ ts) (negated_at None n ts)
unfolding negated_at not_shut
negated-shut d n nots [] = passed_mends (tree (UpTo 1)) d same n [] _ (rejected_mends (tree (UpTo 1)) d (λ r. n ∷ r) [] awaiting.Other (suc d, omega arith, not_begun d n nots))
negated-shut d n nots (t ∷ ts) =
    choose_mends (tree (UpTo 1)) d same (n ∷ t ∷ ts) (is_open (role_of t)) _ _
    (λ opens. announced_mends (tree (UpTo 1)) d n t ts (not_announces (role_of n) nots) (name_begun (UpTo 1) d (omega arith)) (reported (suc d) n (not_begun d n nots)) (negated_begun d n t nots opens))
    (λ b. passed_mends (tree (UpTo 1)) d same n (t ∷ ts) _ (rejected_mends (tree (UpTo 1)) d (λ r. n ∷ r) (t ∷ ts) awaiting.Other (suc d, omega arith, not_begun d n nots)))

reference_level : (x : Tree) → IsReference (valued x) → IsWellFormed x × (precedence x ≤ 1)
reference_level (leaf t) h = (name-leaf (role_of t) h, omega arith)
reference_level (indexed n o x l c) h = (h, omega arith)
reference_level x h = absurd h

named_tree : (d : ℕ) (ts : Tokens) (p : Read Tree) → Mending reference d same ts p → Mending (tree (UpTo 1)) d same ts p
named_tree d ts p m = recast_mends reference (tree (UpTo 1)) (λ k x f. let l = reference_level x f.0 in (l.0, f.1, l.1)) (λ x r. refl) d same ts p m

up_one : (d : ℕ) (ts : Tokens) (p : Read Tree) → Mending (tree (UpTo 0)) d same ts p → Mending (tree (UpTo 1)) d same ts p
up_one d ts p m = recast_mends (tree (UpTo 0)) (tree (UpTo 1)) (λ k x f. (f.0, f.1, omega (arith, f.2))) (λ x r. refl) d same ts p m

signed-mends : (d : ℕ) (i : Inner) → MendInner d i → (t : Token) → is_sign (role_of t) ≡ true → (ts : Tokens) → Mending (tree (UpTo 1)) (suc d) same (t ∷ ts) (i.at 1 ts >>= λ x. read_as (signed t x.0) x.1)
signed-mends d i mends t signs ts =
    passed_mends (tree (UpTo 1)) (suc d) same t ts _
    (last_mends (tree (UpTo 1)) (tree (UpTo 1)) inward d (λ r. t ∷ r) ts (i.at 1 ts) _ (mends.at 1 (omega arith) (omega arith) ts)
    (λ s e k x le f. record { thing = signed t x; fits = ((signs, f.0, f.2), omega (arith, f.1), f.2); rest = []; text = λ r. refl })
    (λ x s h. cc))

braced-mends : (d : ℕ) (i : Inner) → SoundInner d i → MendInner d i → (t : Token) → is_open_brace (role_of t) ≡ true → (ts : Tokens)
    → Mending (tree (UpTo 1)) (suc d) same (t ∷ ts) (braces_at i t ts >>= λ b. read_as (braced b.0) b.1)
braced-mends d i sound mends t opens ts =
    last_mends braces_of (tree (UpTo 1)) here (suc d) same (t ∷ ts) (braces_at i t ts) _ (passed_mends braces_of (suc d) same t ts (braces_at i t ts) (braces_at-mends d i sound mends t opens ts))
    (λ s e k b le f. record { thing = braced b; fits = (f.0, f.1, omega arith); rest = []; text = λ r. refl })
    (λ x s h. cc)

unary_at-inside : (d : ℕ) (i : Inner) → SoundInner d i → MendInner d i → (r : Role) (t : Token) → role_of t ≡ r → (ts : Tokens) → Mending (tree (UpTo 1)) (suc d) same (t ∷ ts) (unary_at (Some i) r t ts)
unfolding unary_at
unary_at-inside d i sound mends roles.Name t is ts = named_tree (suc d) (t ∷ ts) _ (named-inside d i sound mends t (rw is refl) ts)
unary_at-inside d i sound mends roles.Number t is ts = read_mends (tree (UpTo 1)) (suc d) same (t ∷ ts) (leaf t, ts)
unary_at-inside d i sound mends roles.Text t is ts = read_mends (tree (UpTo 1)) (suc d) same (t ∷ ts) (leaf t, ts)
unary_at-inside d i sound mends roles.Not t is ts = up_one (suc d) (t ∷ ts) _ (negated-inside d i sound mends t (rw is refl) ts)
unary_at-inside d i sound mends roles.Open t is ts = up_one (suc d) (t ∷ ts) _ (parens-mends d i sound mends t (rw is refl) ts)
unary_at-inside d i sound mends roles.OpenBrace t is ts = braced-mends d i sound mends t (rw is refl) ts
unary_at-inside d i sound mends roles.Sign t is ts = signed-mends d i mends t (rw is refl) ts
unary_at-inside d i sound mends roles.Reduction t is ts = mends.reduced t (rw is refl) ts
unary_at-inside d i sound mends r t is ts = rejected_mends (tree (UpTo 1)) (suc d) same (t ∷ ts) awaiting.Other (suc d, omega arith, name_begun (UpTo 1) (suc d) (omega arith))

reduction_begun : (k : ℕ) (w o : Token) → 2 ≤ k → is_reduction (role_of w) ≡ true → is_open_brace (role_of o) ≡ true → Begun (tree (UpTo 1)) k (λ r. w ∷ o ∷ r) []
reduction_begun k w o deep reduces opens = record {
  thing = reduced w (empty o absent (filler sorts.CloseBrace)) a_name;
  fits = ((reduces, (opens, tt, fills sorts.CloseBrace), a_name_level, omega arith), omega (arith, deep), omega arith);
  rest = filler sorts.CloseBrace ∷ filler sorts.Name ∷ [];
  text = λ r. refl;
}

opened_begun : (d : ℕ) (t : Token) (x : Tree) (rest : Tokens) → IsWellFormed x → depth x ≤ 2 → precedence x ≤ 1 → ((r : Tokens) → put x r ≡ t ∷ put_before rest r) → Sometime (tree (UpTo 1)) d same (t ∷ [])
opened_begun d t x rest level deep fits text = (suc (suc d), omega arith, record { thing = x; fits = (level, omega (arith, deep), fits); rest = rest; text = text })

unary_at-shut : (d : ℕ) (r : Role) (t : Token) → role_of t ≡ r → (ts : Tokens) → Mending (tree (UpTo 1)) d same (t ∷ ts) (unary_at None r t ts)
unfolding unary_at
unary_at-shut d roles.Name t is ts = named_tree d (t ∷ ts) _ (named-shut d t (rw is refl) ts)
unary_at-shut d roles.Number t is ts = read_mends (tree (UpTo 1)) d same (t ∷ ts) (leaf t, ts)
unary_at-shut d roles.Text t is ts = read_mends (tree (UpTo 1)) d same (t ∷ ts) (leaf t, ts)
unary_at-shut d roles.Not t is ts = negated-shut d t (rw is refl) ts
unary_at-shut d roles.Open t is ts =
    opens_mends (tree (UpTo 1)) d same t ts (name_begun (UpTo 1) d (omega arith))
    (opened_begun d t (parens t a_name (filler sorts.Close)) (filler sorts.Name ∷ filler sorts.Close ∷ []) (rw is refl, a_name_level, omega arith, fills sorts.Close) (omega arith) (omega arith) (λ r. refl))
unary_at-shut d roles.OpenBrace t is ts =
    opens_mends (tree (UpTo 1)) d same t ts (name_begun (UpTo 1) d (omega arith))
    (opened_begun d t (braced (empty t absent (filler sorts.CloseBrace))) (filler sorts.CloseBrace ∷ []) (rw is refl, tt, fills sorts.CloseBrace) (omega arith) (omega arith) (λ r. refl))
unary_at-shut d roles.Sign t is ts =
    opens_mends (tree (UpTo 1)) d same t ts (name_begun (UpTo 1) d (omega arith))
    (opened_begun d t (signed t a_name) (filler sorts.Name ∷ []) (rw is refl, a_name_level, omega arith) (omega arith) (omega arith) (λ r. refl))
unary_at-shut d roles.Reduction t is ts =
    opens_mends (tree (UpTo 1)) d same t ts (name_begun (UpTo 1) d (omega arith))
    (opened_begun d t (reduced t (empty (filler sorts.OpenBrace) absent (filler sorts.CloseBrace)) a_name) (filler sorts.OpenBrace ∷ filler sorts.CloseBrace ∷ filler sorts.Name ∷ [])
    (rw is refl, (fills sorts.OpenBrace, tt, fills sorts.CloseBrace), a_name_level, omega arith) (omega arith) (omega arith) (λ r. refl))
unary_at-shut d r t is ts = rejected_mends (tree (UpTo 1)) d same (t ∷ ts) awaiting.Other (d, omega arith, name_begun (UpTo 1) d (omega arith))

unary-inside : (d : ℕ) (i : Inner) → SoundInner d i → MendInner d i → Mends (tree (UpTo 1)) (suc d) (unary (Some i))
unfolding unary
unary-inside d i sound mends [] = rejected_mends (tree (UpTo 1)) (suc d) same [] awaiting.Other (suc d, omega arith, name_begun (UpTo 1) (suc d) (omega arith))
unary-inside d i sound mends (t ∷ ts) = unary_at-inside d i sound mends (role_of t) t refl ts

unary-shut : (d : ℕ) → Mends (tree (UpTo 1)) d (unary None)
unfolding unary
unary-shut d [] = rejected_mends (tree (UpTo 1)) d same [] awaiting.Other (d, omega arith, name_begun (UpTo 1) d (omega arith))
unary-shut d (t ∷ ts) = unary_at-shut d (role_of t) t refl ts

-- an `if`, or an expression of a precedence
if-inside : (d n : ℕ) (i : Inner) → SoundInner d i → MendInner d i → (ts : Tokens) → next_is is_if ts ≡ true → Mending (tree (Wide n)) (suc d) same ts (if_at (Some i) ts)
unfolding if_at
if-inside d n i sound mends [] ifs = absurd (cc)
if-inside d n i sound mends (t ∷ ts) ifs =
    recast_mends (tree (λ r. r ≡ 11)) (tree (Wide n)) (λ k x f. (f.0, f.1, inr f.2)) (λ x r. refl) (suc d) same (t ∷ ts) _ (choice-mends d i sound mends t ifs ts)

if-shut : (d n : ℕ) (ts : Tokens) → next_is is_if ts ≡ true → Mending (tree (Wide n)) d same ts (if_at None ts)
unfolding if_at
if-shut d n [] ifs = absurd (cc)
if-shut d n (t ∷ ts) ifs =
    opens_mends (tree (Wide n)) d same t ts (name_begun (Wide n) d (inl (omega arith))) (
      suc d,
      omega arith,
      record {
        thing = choice t a_name (filler sorts.Then) a_name absent;
        fits = ((ifs, a_name_level, omega arith, fills sorts.Then, a_name_level, omega arith, tt), omega arith, inr refl);
        rest = filler sorts.Name ∷ filler sorts.Then ∷ filler sorts.Name ∷ [];
        text = λ r. refl;
      },
    )

wide-mends : (d n : ℕ) (o : Option Inner) → 0 < n → n ≤ 10 → IsInside d o → Mends (tree (UpTo 1)) d (unary o) → ((ts : Tokens) → next_is is_if ts ≡ true → Mending (tree (Wide n)) d same ts (if_at o ts)) → Mends (tree (Wide n)) d (wide o n)
unfolding wide
wide-mends d n o low high inner mends ifs ts =
    choose_mends (tree (Wide n)) d same ts (next_is is_if ts) _ _ (ifs ts)
    (λ b. recast_mends (tree (UpTo n)) (tree (Wide n)) (λ k x f. (f.0, f.1, inl f.2)) (λ x r. refl) d same ts _ (climb-mends d n (unary o) mends (unary-sound d o inner) low high ts))

-- behind the word of a reduction
reduced-mends : (d : ℕ) (i : Inner) → SoundInner d i → Mends braces_of d i.braces → Mends (tree (UpTo 2)) d (i.at 2) → (w : Token) → is_reduction (role_of w) ≡ true → (ts : Tokens)
    → Mending (tree (UpTo 1)) (suc d) same (w ∷ ts) (reduction_at i w ts)
unfolding reduction_at
reduced-mends d i sound bracing products w reduces ts =
    passed_mends (tree (UpTo 1)) (suc d) same w ts _
    (then_mends braces_of (tree (UpTo 1)) inward d (λ r. w ∷ r) ts (i.braces ts) _ (bracing ts)
    (λ s e k b le f. record { thing = reduced w b a_name; fits = ((reduces, f.0, a_name_level, omega arith), omega (arith, f.1), omega arith); rest = filler sorts.Name ∷ []; text = λ r. refl })
    (λ b e.
    let sb = sound.braces ts b e in
    record {
      text = sb.text;
      mends =
          last_mends (tree (UpTo 2)) (tree (UpTo 1)) inward d (λ r. w ∷ put_braces b.0 r) b.1 (i.at 2 b.1) _ (products b.1)
          (λ s e k x le f. record { thing = reduced w b.0 x; fits = ((reduces, sb.level, f.0, f.2), omega (arith, sb.within, le, f.1), omega arith); rest = []; text = λ r. refl })
          (λ x s h. cc);
    }))

word_begun : (w : Token) → is_reduction (role_of w) ≡ true → Begun (tree (UpTo 1)) 2 (λ r. w ∷ r) []
word_begun w reduces =
    let b = reduction_begun 2 w (filler sorts.OpenBrace) (omega arith) reduces (fills sorts.OpenBrace) in record { thing = b.thing; fits = b.fits; rest = filler sorts.OpenBrace ∷ b.rest; text = b.text }

reduced-shut : (w : Token) → is_reduction (role_of w) ≡ true → (ts : Tokens) → Mending (tree (UpTo 1)) 1 same (w ∷ ts) (reduction_at (inner_of None) w ts)
unfolding reduction_at inner_of braces
reduced-shut w reduces [] =
    passed_mends (tree (UpTo 1)) 1 same w [] _
    (rejected_mends (tree (UpTo 1)) 1 (λ r. w ∷ r) [] awaiting.Other (2, omega arith, word_begun w reduces))
reduced-shut w reduces (t ∷ ts) = by (is_open_brace (role_of t)) refl
  where
    both_begun : is_open_brace (role_of t) ≡ true → Begun (tree (UpTo 1)) 2 same (w ∷ t ∷ [])
    both_begun opens = let b = reduction_begun 2 w t (omega arith) reduces opens in record { thing = b.thing; fits = b.fits; rest = b.rest; text = b.text }

    by : (b : Bool) → is_open_brace (role_of t) ≡ b
        → Mending (tree (UpTo 1)) 1 same (w ∷ t ∷ ts) ((let p : Read Braces = cond b (too_deep (t ∷ ts)) (rejected awaiting.Other (t ∷ ts)) in p) >>= λ b. climb 2 (unary None) b.1 >>= λ x. read_as (reduced w b.0 x.0) x.1)
    by true opens = announced_mends (tree (UpTo 1)) 1 w t ts (reduction_announces (role_of w) reduces) (name_begun (UpTo 1) 1 (omega arith)) (reported 2 w (word_begun w reduces)) (2, omega arith, both_begun opens)
    by false e = passed_mends (tree (UpTo 1)) 1 same w (t ∷ ts) _ (rejected_mends (tree (UpTo 1)) 1 (λ r. w ∷ r) (t ∷ ts) awaiting.Other (2, omega arith, word_begun w reduces))

-- the readers at so many nestings
pub record Mendable (d : ℕ) (o : Option Inner) : Type 0 where
  pub sound : IsInside d o
  pub unary : Mends (tree (UpTo 1)) d (unary o)
  pub wide : (n : ℕ) → 0 < n → n ≤ 10 → Mends (tree (Wide n)) d (wide o n)
  pub named : (n : Token) → is_name (role_of n) ≡ true → (ts : Tokens) → Mending reference d same (n ∷ ts) (named_at o n ts)
  pub braces : 0 < d → Mends braces_of d (braces o)

sound_inner : (d : ℕ) → SoundInner d (inner_of (nested d))
unfolding nested
sound_inner d = let s = inside-sound (suc d) in let P : ℕ → Type 0 = λ e. SoundInner e (inner_of (nested d)) in let e : s.0 ≡ d = omega (arith, s.1) in subst P e s.2

reduced-inner : (d : ℕ) → Mendable d (nested d) → (w : Token) → is_reduction (role_of w) ≡ true → (ts : Tokens) → Mending (tree (UpTo 1)) (suc d) same (w ∷ ts) (reduction_at (inner_of (nested d)) w ts)
unfolding nested inner_of
reduced-inner zero m w reduces ts = reduced-shut w reduces ts
reduced-inner (suc d) m w reduces ts =
    reduced-mends (suc d) (inner_of (nested (suc d))) (sound_inner (suc d)) (m.braces (omega arith)) (climb-mends (suc d) 2 (unary (nested (suc d))) m.unary (unary-sound (suc d) (nested (suc d)) m.sound) (omega arith) (omega arith)) w reduces ts

inner-mends : (d : ℕ) → Mendable d (nested d) → MendInner d (inner_of (nested d))
unfolding inner_of
inner-mends d m = record {
  at = λ n low high. climb-mends d n (unary (nested d)) m.unary (unary-sound d (nested d) m.sound) low high;
  wide = m.wide;
  reduced = reduced-inner d m;
}

pub inside-mends : (d : ℕ) → Mendable d (nested d)
unfolding nested
inside-mends zero = record {
  sound = inside-sound zero;
  unary = unary-shut zero;
  wide = λ n low high. wide-mends zero n None low high (inside-sound zero) (unary-shut zero) (if-shut zero n);
  named = named-shut zero;
  braces = λ some. absurd (omega (arith, some));
}
inside-mends (suc d) =
    let i = inner_of (nested d) in
    let sound = sound_inner d in
    let mends = inner-mends d (inside-mends d) in
    record {
      sound = inside-sound (suc d);
      unary = unary-inside d i sound mends;
      wide = λ n low high. wide-mends (suc d) n (Some i) low high (inside-sound (suc d)) (unary-inside d i sound mends) (if-inside d n i sound mends);
      named = named-inside d i sound mends;
      braces = λ some. braces-mends d i sound mends;
    }
