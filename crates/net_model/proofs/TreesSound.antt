-- What is read as an expression is printed so, is as the grammar wants, and is no deeper than nestings may be opened.
use Rattle.std.specs.Prelude.{◌≡◌, ◌≤◌, ◌<◌, ◌⊎◌, ℕ, zero, suc, true, false, nat_le, [], ◌∷◌, length, Option, None, Some, Ok}
use Rattle.std.proofs.Common.{refl, sym, ap, ◌∙◌, arith, subst, inl, inr}
use Rattle.std.proofs.lemmas.Bool.{leb-true, le-leb}
use Rattle.net_lex.specs.declared.token.Token.{Token}
use Rattle.net_tree.specs.declared.role.Role.{Role}
use Rattle.net_tree.specs.declared.role.Role.TheVariants as roles
use Rattle.net_tree.specs.Role.{role_of, is_name, is_leaf, is_not, is_if, is_open, is_open_brace, is_sign, is_reduction}
use Rattle.net_tree.specs.Tree.{Tree, Links, Part, Braces, leaf, indexed, parens, tuple, negated, braced, signed, reduced, choice, none, link, absent, part, empty, filled}
use Rattle.net_tree.specs.Print.{put, put_links, put_part, put_braces}
use Rattle.net_tree.specs.Depth.{part_depth, braces_depth}
use Rattle.net_tree.specs.WellFormed.{precedence, joins, is_value, IsWellFormed, IsElse, IsFilter, AreBraces}
use Rattle.net_model.specs.declared.expected.Expected.{Expected}
use Rattle.net_model.specs.declared.expected.Expected.TheVariants as sorts
use Rattle.net_model.specs.declared.model_parser.Awaiting.TheVariants as awaiting
use Rattle.net_model.specs.Reading.{Tokens, Read, ◌>>=◌, read_as, next_is, is_sort}
use Rattle.net_model.specs.Expressions.{Reader, Inner, climb, present_at, part_at, is_subscripted, subscripts_at, named_at, closed, listed, parens_from, parens_at, not_shut, negated_at, ends_braces, empty_braces_at, items_at, braces_at, braces, reduction_at, conditional_at, unary_at, unary, if_at, wide, inner_of, nested}
use Rattle.net_model.proofs.Tools.{bind_ok, given, chosen, on, off, expect-sound}
use Rattle.net_model.proofs.LinksSound.{Sound, IsSound, UpTo, SoundLinks, links-sound, SoundChain, chain-sound, climb-sound, joins_product}

-- a precedence up to n, or that of an `if`
abbrev pub Wide : ℕ → ℕ → Type 0
Wide n r = (r ≤ n) ⊎ (r ≡ 11)

pub record SoundBraces (d : ℕ) (ts : Tokens) (a : Braces × Tokens) : Type 0 where
  pub text : ts ≡ put_braces a.0 a.1
  pub level : AreBraces a.0
  pub within : braces_depth a.0 ≤ d

abbrev pub AreSound : ℕ → (Tokens → Read Braces) → Type 0
AreSound d p = (ts : Tokens) (a : Braces × Tokens) → p ts ≡ Ok a → SoundBraces d ts a

-- the readers one nesting further in read what is so deep at most
pub record SoundInner (d : ℕ) (i : Inner) : Type 0 where
  pub at : (n : ℕ) → 0 < n → n ≤ 10 → IsSound d (UpTo n) (i.at n)
  pub products : (ts : Tokens) (a : Tree × Tokens) → i.at 2 ts ≡ Ok a → SoundChain d 1 ts a
  pub wide : (n : ℕ) → 0 < n → n ≤ 10 → IsSound d (Wide n) (i.wide n)
  pub braces : AreSound d i.braces

abbrev pub IsInside : ℕ → Option Inner → Type 0
IsInside d None = Unit {0}
IsInside d (Some i) = (e : ℕ) × (d ≡ suc e) × SoundInner e i

-- a mark and what it introduces
abbrev pub IsPart : Expected → (ℕ → Type 0) → Part → Type 0
IsPart s Fits absent = Unit {0}
IsPart s Fits (part m x) = (is_sort s (role_of m) ≡ true) × IsWellFormed x × Fits (precedence x)

pub record SoundPart (d : ℕ) (s : Expected) (Fits : ℕ → Type 0) (ts : Tokens) (a : Part × Tokens) : Type 0 where
  pub text : ts ≡ put_part a.0 a.1
  pub level : IsPart s Fits a.0
  pub within : part_depth a.0 ≤ d

pub part-sound : (d : ℕ) (s : Expected) (Fits : ℕ → Type 0) (p : Reader) → IsSound d Fits p → (ts : Tokens) (a : Part × Tokens) → part_at s p ts ≡ Ok a → SoundPart d s Fits ts a
unfolding part_at present_at
part-sound d s Fits p sound [] a h = given (λ y. SoundPart d s Fits [] y) (absent, []) a h (record { text = refl; level = tt; within = omega arith })
part-sound d s Fits p sound (t ∷ ts) a h =
    elim (chosen (is_sort s (role_of t)) _ _ _ h) [
      | on b e ↦
          let x = bind_ok _ _ _ e in
          let sx = sound ts x.value x.first in
          given (λ y. SoundPart d s Fits (t ∷ ts) y) (part t x.value.0, x.value.1) a x.after
          (record { text = ap (λ k. t ∷ k) sx.text; level = (b, sx.level, sx.fits); within = sx.within })
      | off b e ↦ given (λ y. SoundPart d s Fits (t ∷ ts) y) (absent, t ∷ ts) a e (record { text = refl; level = tt; within = omega arith })
    ]

pub part_filter : (p : Part) → IsPart sorts.Colon (UpTo 10) p → IsFilter p
part_filter absent h = tt
part_filter (part m x) h = h

pub wide_value : (r : ℕ) → Wide 7 r → is_value r ≡ true
wide_value r (inl h) = rw (le-leb r 7 h) refl
wide_value r (inr h) = rw h refl

part_else : (p : Part) → IsPart sorts.Else (Wide 7) p → IsElse p
part_else absent h = tt
part_else (part m x) h = (h.0, h.1, wide_value (precedence x) h.2)

subscripts-sound : (d : ℕ) (i : Inner) (n : Token) (ts : Tokens) (a : Tree × Tokens) → SoundInner d i → is_name (role_of n) ≡ true → is_subscripted ts ≡ true
    → subscripts_at i n ts ≡ Ok a → Sound (suc d) (UpTo 0) (n ∷ ts) a
unfolding subscripts_at
subscripts-sound d i n [] a inner named opens h = absurd (cc)
subscripts-sound d i n (o ∷ ts) a inner named opens h =
    let x = bind_ok _ _ _ h in
    let sx = inner.at 3 (omega arith) (omega arith) ts x.value x.first in
    let l = bind_ok _ _ _ x.after in
    let sl = links-sound d 0 3 (i.at 3) (inner.at 3 (omega arith) (omega arith)) (λ e. absurd (omega arith)) (length x.value.1) 0 x.value.1 l.value (omega arith) l.first in
    let c = bind_ok _ _ _ l.after in
    let sc = expect-sound sorts.CloseSquare awaiting.Other l.value.1 c.value c.first in
    given (λ y. Sound (suc d) (UpTo 0) (n ∷ o ∷ ts) y) (indexed n o x.value.0 l.value.0 c.value.0, c.value.1) a c.after (record {
      text = ap (λ k. n ∷ o ∷ k) (sx.text ∙ ap (put x.value.0) (sl.text ∙ ap (put_links l.value.0) sc.text));
      level = (named, opens, sx.level, sx.fits, sl.level, sc.sort);
      within = omega (arith, sx.within, sl.within);
      fits = omega arith;
      ended = λ e. absurd (omega arith);
    })

leaf-sound : (d : ℕ) (t : Token) (ts : Tokens) (a : Tree × Tokens) → is_leaf (role_of t) ≡ true → (let w : Read Tree = read_as (leaf t) ts in w ≡ Ok a) → Sound d (UpTo 0) (t ∷ ts) a
leaf-sound d t ts a is h =
    given (λ y. Sound d (UpTo 0) (t ∷ ts) y) (leaf t, ts) a h (record { text = refl; level = is; within = omega arith; fits = omega arith; ended = λ e. absurd (omega arith) })

name_leaf : (r : Role) → is_name r ≡ true → is_leaf r ≡ true
name_leaf roles.Name h = refl
name_leaf _ h = absurd (cc)

pub named-sound : (d : ℕ) (o : Option Inner) (n : Token) (ts : Tokens) (a : Tree × Tokens) → IsInside d o → is_name (role_of n) ≡ true → named_at o n ts ≡ Ok a → Sound d (UpTo 0) (n ∷ ts) a
unfolding named_at
named-sound d None n ts a inner named h =
    elim (chosen (is_subscripted ts) _ _ _ h) [ on b e ↦ absurd (let k = e in cc) | off b e ↦ leaf-sound d n ts a (name_leaf (role_of n) named) e ]
named-sound d (Some i) n ts a inner named h =
    elim (chosen (is_subscripted ts) _ _ _ h) [
      | on b e ↦
          let P : ℕ → Type 0 = λ k. Sound k (UpTo 0) (n ∷ ts) a in
          subst P (sym inner.1) (subscripts-sound inner.0 i n ts a inner.2 named b e)
      | off b e ↦ leaf-sound d n ts a (name_leaf (role_of n) named) e
    ]

wide_ten : (r : ℕ) → Wide 10 r → r ≤ 11
wide_ten r (inl h) = omega (arith, h)
wide_ten r (inr h) = omega (arith, h)

closed-sound : (d : ℕ) (o : Token) (x : Tree) (r ts : Tokens) (a : Tree × Tokens) → is_open (role_of o) ≡ true → Sound d (Wide 10) ts (x, r) → closed o x r ≡ Ok a → Sound (suc d) (UpTo 0) (o ∷ ts) a
closed-sound d o x r ts a opens sx h =
    let c = bind_ok _ _ _ h in
    let sc = expect-sound sorts.Close awaiting.Other r c.value c.first in
    given (λ y. Sound (suc d) (UpTo 0) (o ∷ ts) y) (parens o x c.value.0, c.value.1) a c.after (record {
      text = ap (λ k. o ∷ k) (sx.text ∙ ap (put x) sc.text);
      level = (opens, sx.level, wide_ten (precedence x) sx.fits, sc.sort);
      within = omega (arith, sx.within);
      fits = omega arith;
      ended = λ e. absurd (omega arith);
    })

listed-sound : (d : ℕ) (o : Token) (x : Tree) (l : Links) (r q ts : Tokens) (a : Tree × Tokens) → is_open (role_of o) ≡ true → Sound d (Wide 10) ts (x, q) → precedence x ≤ 3
    → SoundLinks d 0 3 0 q (l, r) → listed o x l r ≡ Ok a → Sound (suc d) (UpTo 0) (o ∷ ts) a
listed-sound d o x none r q ts a opens sx low sl h =
    let sx' : Sound d (Wide 10) ts (x, r) = record { text = sx.text ∙ ap (put x) sl.text; level = sx.level; within = sx.within; fits = sx.fits; ended = λ e. rw (← sl.text) (sx.ended e) } in
    closed-sound d o x r ts a opens sx' h
listed-sound d o x (link p y l) r q ts a opens sx low sl h =
    let c = bind_ok _ _ _ h in
    let sc = expect-sound sorts.Close awaiting.Other r c.value c.first in
    given (λ z. Sound (suc d) (UpTo 0) (o ∷ ts) z) (tuple o x (link p y l) c.value.0, c.value.1) a c.after (record {
      text = ap (λ k. o ∷ k) (sx.text ∙ ap (put x) (sl.text ∙ ap (put_links (link p y l)) sc.text));
      level = (opens, sx.level, low, tt, sl.level, sc.sort);
      within = omega (arith, sx.within, sl.within);
      fits = omega arith;
      ended = λ e. absurd (omega arith);
    })

parens-sound : (d : ℕ) (i : Inner) (o : Token) (ts : Tokens) (a : Tree × Tokens) → SoundInner d i → is_open (role_of o) ≡ true → parens_at i o ts ≡ Ok a → Sound (suc d) (UpTo 0) (o ∷ ts) a
unfolding parens_at parens_from
parens-sound d i o ts a inner opens h =
    let x = bind_ok _ _ _ h in
    let sx = inner.wide 10 (omega arith) (omega arith) ts x.value x.first in
    elim (chosen (nat_le (precedence x.value.0) 3) _ _ _ x.after) [
      | on b e ↦
          let l = bind_ok _ _ _ e in
          let sl = links-sound d 0 3 (i.at 3) (inner.at 3 (omega arith) (omega arith)) (λ e. absurd (omega arith)) (length x.value.1) 0 x.value.1 l.value (omega arith) l.first in
          listed-sound d o x.value.0 l.value.0 l.value.1 x.value.1 ts a opens sx (leb-true (precedence x.value.0) 3 b) sl l.after
      | off b e ↦ closed-sound d o x.value.0 x.value.1 ts a opens sx e
    ]

negated-sound : (d : ℕ) (i : Inner) (n : Token) (ts : Tokens) (a : Tree × Tokens) → SoundInner d i → is_not (role_of n) ≡ true → negated_at (Some i) n ts ≡ Ok a → Sound (suc d) (UpTo 0) (n ∷ ts) a
unfolding negated_at
negated-sound d i n ts a inner nots h =
    let o = bind_ok _ _ _ h in
    let so = expect-sound sorts.Open awaiting.Other ts o.value o.first in
    let x = bind_ok _ _ _ o.after in
    let sx = inner.at 10 (omega arith) (omega arith) o.value.1 x.value x.first in
    let c = bind_ok _ _ _ x.after in
    let sc = expect-sound sorts.Close awaiting.Other x.value.1 c.value c.first in
    given (λ y. Sound (suc d) (UpTo 0) (n ∷ ts) y) (negated n o.value.0 x.value.0 c.value.0, c.value.1) a c.after (record {
      text = ap (λ k. n ∷ k) (so.text ∙ ap (λ k. o.value.0 ∷ k) (sx.text ∙ ap (put x.value.0) sc.text));
      level = (nots, so.sort, sx.level, sx.fits, sc.sort);
      within = omega (arith, sx.within);
      fits = omega arith;
      ended = λ e. absurd (omega arith);
    })

hollow-sound : (d : ℕ) (i : Inner) (o : Token) (ts : Tokens) (a : Braces × Tokens) → SoundInner d i → is_open_brace (role_of o) ≡ true → empty_braces_at i o ts ≡ Ok a → SoundBraces (suc d) (o ∷ ts) a
unfolding empty_braces_at
hollow-sound d i o ts a inner opens h =
    let p = bind_ok _ _ _ h in
    let sp = part-sound d sorts.Colon (UpTo 10) (i.at 10) (inner.at 10 (omega arith) (omega arith)) ts p.value p.first in
    let c = bind_ok _ _ _ p.after in
    let sc = expect-sound sorts.CloseBrace awaiting.Other p.value.1 c.value c.first in
    given (λ y. SoundBraces (suc d) (o ∷ ts) y) (empty o p.value.0 c.value.0, c.value.1) a c.after (record {
      text = ap (λ k. o ∷ k) (sp.text ∙ ap (put_part p.value.0) sc.text);
      level = (opens, part_filter p.value.0 sp.level, sc.sort);
      within = omega (arith, sp.within);
    })

items-sound : (d : ℕ) (i : Inner) (o : Token) (ts : Tokens) (a : Braces × Tokens) → SoundInner d i → is_open_brace (role_of o) ≡ true → items_at i o ts ≡ Ok a → SoundBraces (suc d) (o ∷ ts) a
unfolding items_at
items-sound d i o ts a inner opens h =
    let x = bind_ok _ _ _ h in
    let sx = inner.at 8 (omega arith) (omega arith) ts x.value x.first in
    let l = bind_ok _ _ _ x.after in
    let sl = links-sound d 0 8 (i.at 8) (inner.at 8 (omega arith) (omega arith)) (λ e. absurd (omega arith)) (length x.value.1) 0 x.value.1 l.value (omega arith) l.first in
    let p = bind_ok _ _ _ l.after in
    let sp = part-sound d sorts.Colon (UpTo 10) (i.at 10) (inner.at 10 (omega arith) (omega arith)) l.value.1 p.value p.first in
    let c = bind_ok _ _ _ p.after in
    let sc = expect-sound sorts.CloseBrace awaiting.Other p.value.1 c.value c.first in
    given (λ y. SoundBraces (suc d) (o ∷ ts) y) (filled o x.value.0 l.value.0 p.value.0 c.value.0, c.value.1) a c.after (record {
      text = ap (λ k. o ∷ k) (sx.text ∙ ap (put x.value.0) (sl.text ∙ ap (put_links l.value.0) (sp.text ∙ ap (put_part p.value.0) sc.text)));
      level = (opens, sx.level, sx.fits, sl.level, part_filter p.value.0 sp.level, sc.sort);
      within = omega (arith, sx.within, sl.within, sp.within);
    })

braces_at-sound : (d : ℕ) (i : Inner) (o : Token) (ts : Tokens) (a : Braces × Tokens) → SoundInner d i → is_open_brace (role_of o) ≡ true → braces_at i o ts ≡ Ok a → SoundBraces (suc d) (o ∷ ts) a
unfolding braces_at
braces_at-sound d i o ts a inner opens h =
    elim (chosen (next_is ends_braces ts) _ _ _ h) [ on b e ↦ hollow-sound d i o ts a inner opens e | off b e ↦ items-sound d i o ts a inner opens e ]

pub braces-sound : (d : ℕ) (o : Option Inner) → IsInside d o → AreSound d (braces o)
unfolding braces
braces-sound d None inner ts a h =
    elim (chosen (next_is is_open_brace ts) _ _ _ h) [ on b e ↦ absurd (let k = e in cc) | off b e ↦ absurd (let k = e in cc) ]
braces-sound d (Some i) inner ts a h =
    let o = bind_ok _ _ _ h in
    let so = expect-sound sorts.OpenBrace awaiting.Other ts o.value o.first in
    let b = braces_at-sound inner.0 i o.value.0 o.value.1 a inner.2 so.sort o.after in
    record { text = so.text ∙ b.text; level = b.level; within = omega (arith, b.within, inner.1) }

reduced-sound : (d : ℕ) (i : Inner) (w : Token) (ts : Tokens) (a : Tree × Tokens) → SoundInner d i → is_reduction (role_of w) ≡ true → reduction_at i w ts ≡ Ok a → Sound (suc d) (UpTo 1) (w ∷ ts) a
unfolding reduction_at
reduced-sound d i w ts a inner reduces h =
    let b = bind_ok _ _ _ h in
    let sb = inner.braces ts b.value b.first in
    let x = bind_ok _ _ _ b.after in
    let sx = inner.products b.value.1 x.value x.first in
    given (λ y. Sound (suc d) (UpTo 1) (w ∷ ts) y) (reduced w b.value.0 x.value.0, x.value.1) a x.after (record {
      text = ap (λ k. w ∷ k) (sb.text ∙ ap (put_braces b.value.0) sx.sound.text);
      level = (reduces, sb.level, sx.sound.level, sx.sound.fits);
      within = omega (arith, sb.within, sx.sound.within);
      fits = omega arith;
      ended = λ e. no_product sx.count x.value.1 sx.done;
    })
  where
    no_product : (k : ℕ) (r : Tokens) → next_is (joins 1 k) r ≡ false → next_is (joins 1 0) r ≡ false
    no_product k [] h = refl
    no_product k (t ∷ r) h = joins_product 0 k (role_of t) ∙ h

choice-sound : (d : ℕ) (i : Inner) (w : Token) (ts : Tokens) (a : Tree × Tokens) → SoundInner d i → is_if (role_of w) ≡ true → conditional_at i w ts ≡ Ok a → Sound (suc d) (λ r. r ≡ 11) (w ∷ ts) a
unfolding conditional_at
choice-sound d i w ts a inner ifs h =
    let x = bind_ok _ _ _ h in
    let sx = inner.at 10 (omega arith) (omega arith) ts x.value x.first in
    let t = bind_ok _ _ _ x.after in
    let st = expect-sound sorts.Then awaiting.Other x.value.1 t.value t.first in
    let y = bind_ok _ _ _ t.after in
    let sy = inner.at 7 (omega arith) (omega arith) t.value.1 y.value y.first in
    let e = bind_ok _ _ _ y.after in
    let se = part-sound d sorts.Else (Wide 7) (i.wide 7) (inner.wide 7 (omega arith) (omega arith)) y.value.1 e.value e.first in
    given (λ z. Sound (suc d) (λ r. r ≡ 11) (w ∷ ts) z) (choice w x.value.0 t.value.0 y.value.0 e.value.0, e.value.1) a e.after (record {
      text = ap (λ k. w ∷ k) (sx.text ∙ ap (put x.value.0) (st.text ∙ ap (λ k. t.value.0 ∷ k) (sy.text ∙ ap (put y.value.0) se.text)));
      level = (ifs, sx.level, sx.fits, st.sort, sy.level, sy.fits, part_else e.value.0 se.level);
      within = omega (arith, sx.within, sy.within, se.within);
      fits = refl;
      ended = λ f. absurd (omega (arith, f));
    })

looser : (d : ℕ) (P Q : ℕ → Type 0) (ts : Tokens) (a : Tree × Tokens) → ((r : ℕ) → P r → Q r) → Sound d P ts a → Sound d Q ts a
looser d P Q ts a more s = record { text = s.text; level = s.level; within = s.within; fits = more (precedence a.0) s.fits; ended = s.ended }

deeper : (d e : ℕ) (P : ℕ → Type 0) (ts : Tokens) (a : Tree × Tokens) → d ≡ suc e → Sound (suc e) P ts a → Sound d P ts a
deeper d e P ts a same s = subst (λ k. Sound k P ts a) (sym same) s

signed-sound : (d : ℕ) (i : Inner) (s : Token) (ts : Tokens) (a : Tree × Tokens) → SoundInner d i → is_sign (role_of s) ≡ true
    → (i.at 1 ts >>= λ x. read_as (signed s x.0) x.1) ≡ Ok a → Sound (suc d) (UpTo 1) (s ∷ ts) a
signed-sound d i s ts a inner signs h =
    let x = bind_ok _ _ _ h in
    let sx = inner.at 1 (omega arith) (omega arith) ts x.value x.first in
    given (λ y. Sound (suc d) (UpTo 1) (s ∷ ts) y) (signed s x.value.0, x.value.1) a x.after (record {
      text = ap (λ k. s ∷ k) sx.text;
      level = (signs, sx.level, sx.fits);
      within = omega (arith, sx.within);
      fits = sx.fits;
      ended = sx.ended;
    })

braced-sound : (d : ℕ) (i : Inner) (o : Token) (ts : Tokens) (a : Tree × Tokens) → SoundInner d i → is_open_brace (role_of o) ≡ true
    → (braces_at i o ts >>= λ b. read_as (braced b.0) b.1) ≡ Ok a → Sound (suc d) (UpTo 0) (o ∷ ts) a
braced-sound d i o ts a inner opens h =
    let b = bind_ok _ _ _ h in
    let sb = braces_at-sound d i o ts b.value inner opens b.first in
    given (λ y. Sound (suc d) (UpTo 0) (o ∷ ts) y) (braced b.value.0, b.value.1) a b.after (record {
      text = sb.text;
      level = sb.level;
      within = sb.within;
      fits = omega arith;
      ended = λ e. absurd (omega arith);
    })

up_one : (r : ℕ) → UpTo 0 r → UpTo 1 r
up_one r h = omega arith

unary_at-sound : (d : ℕ) (o : Option Inner) (t : Token) (ts : Tokens) (a : Tree × Tokens) → IsInside d o → (r : Role) → role_of t ≡ r → unary_at o r t ts ≡ Ok a → Sound d (UpTo 1) (t ∷ ts) a
unfolding unary_at negated_at not_shut
unary_at-sound d o t ts a inner roles.Name is h = looser d (UpTo 0) (UpTo 1) (t ∷ ts) a up_one (named-sound d o t ts a inner (rw is refl) h)
unary_at-sound d o t ts a inner roles.Number is h = looser d (UpTo 0) (UpTo 1) (t ∷ ts) a up_one (leaf-sound d t ts a (rw is refl) h)
unary_at-sound d o t ts a inner roles.Text is h = looser d (UpTo 0) (UpTo 1) (t ∷ ts) a up_one (leaf-sound d t ts a (rw is refl) h)
unary_at-sound d None t ts a inner roles.Not is h =
    elim (chosen (next_is (is_sort sorts.Open) ts) _ _ _ h) [ on b e ↦ absurd (let k = e in cc) | off b e ↦ absurd (let k = e in cc) ]
unary_at-sound d (Some i) t ts a inner roles.Not is h =
    deeper d inner.0 (UpTo 1) (t ∷ ts) a inner.1 (looser (suc inner.0) (UpTo 0) (UpTo 1) (t ∷ ts) a up_one (negated-sound inner.0 i t ts a inner.2 (rw is refl) h))
unary_at-sound d (Some i) t ts a inner roles.Open is h =
    deeper d inner.0 (UpTo 1) (t ∷ ts) a inner.1 (looser (suc inner.0) (UpTo 0) (UpTo 1) (t ∷ ts) a up_one (parens-sound inner.0 i t ts a inner.2 (rw is refl) h))
unary_at-sound d (Some i) t ts a inner roles.OpenBrace is h =
    deeper d inner.0 (UpTo 1) (t ∷ ts) a inner.1 (looser (suc inner.0) (UpTo 0) (UpTo 1) (t ∷ ts) a up_one (braced-sound inner.0 i t ts a inner.2 (rw is refl) h))
unary_at-sound d (Some i) t ts a inner roles.Sign is h = deeper d inner.0 (UpTo 1) (t ∷ ts) a inner.1 (signed-sound inner.0 i t ts a inner.2 (rw is refl) h)
unary_at-sound d (Some i) t ts a inner roles.Reduction is h = deeper d inner.0 (UpTo 1) (t ∷ ts) a inner.1 (reduced-sound inner.0 i t ts a inner.2 (rw is refl) h)
unary_at-sound d None t ts a inner roles.Open is h = absurd (cc)
unary_at-sound d None t ts a inner roles.OpenBrace is h = absurd (cc)
unary_at-sound d None t ts a inner roles.Sign is h = absurd (cc)
unary_at-sound d None t ts a inner roles.Reduction is h = absurd (cc)
unary_at-sound d o t ts a inner _ is h = absurd (cc)

pub unary-sound : (d : ℕ) (o : Option Inner) → IsInside d o → IsSound d (UpTo 1) (unary o)
unfolding unary
unary-sound d o inner [] a h = absurd (cc)
unary-sound d o inner (t ∷ ts) a h = unary_at-sound d o t ts a inner (role_of t) refl h

if_at-sound : (d : ℕ) (o : Option Inner) (ts : Tokens) (a : Tree × Tokens) → IsInside d o → next_is is_if ts ≡ true → if_at o ts ≡ Ok a → Sound d (λ r. r ≡ 11) ts a
unfolding if_at
if_at-sound d None ts a inner ifs h = absurd (cc)
if_at-sound d (Some i) [] a inner ifs h = absurd (cc)
if_at-sound d (Some i) (t ∷ ts) a inner ifs h = deeper d inner.0 (λ r. r ≡ 11) (t ∷ ts) a inner.1 (choice-sound inner.0 i t ts a inner.2 ifs h)

pub wide-sound : (d n : ℕ) (o : Option Inner) → 0 < n → n ≤ 10 → IsInside d o → IsSound d (Wide n) (wide o n)
unfolding wide
wide-sound d n o low high inner ts a h =
    elim (chosen (next_is is_if ts) _ _ _ h) [
      | on b e ↦ looser d (λ r. r ≡ 11) (Wide n) ts a (λ r k. inr k) (if_at-sound d o ts a inner b e)
      | off b e ↦ looser d (UpTo n) (Wide n) ts a (λ r k. inl k) (climb-sound d n (unary o) low high (unary-sound d o inner) ts a e)
    ]

inner-sound : (d : ℕ) (o : Option Inner) → IsInside d o → SoundInner d (inner_of o)
unfolding inner_of climb
inner-sound d o inner = record {
  at = λ n low high. climb-sound d n (unary o) low high (unary-sound d o inner);
  products = λ ts a h. chain-sound d 1 (unary o) (omega arith) (omega arith) (unary-sound d o inner) ts a h;
  wide = λ n low high. wide-sound d n o low high inner;
  braces = braces-sound d o inner;
}

-- the readers at so many nestings
pub inside-sound : (d : ℕ) → IsInside d (nested d)
unfolding nested
inside-sound zero = tt
inside-sound (suc d) = (d, refl, inner-sound d (nested d) (inside-sound d))
