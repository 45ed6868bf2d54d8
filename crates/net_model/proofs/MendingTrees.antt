-- Where an expression stops, the tokens before the stop begin one.
use Rattle.std.specs.Prelude.{◌≡◌, ◌≤◌, ◌<◌, ℕ, suc, true, nat_le, [], ◌∷◌, length, None, Some}
use Rattle.std.proofs.Common.{refl, arith, inl, inr}
use Rattle.std.proofs.lemmas.Bool.{leb-true}
use Rattle.net_lex.specs.declared.token.Token.{Token}
use Rattle.net_tree.specs.Role.{role_of, is_name, is_not, is_if, is_open, is_open_brace, is_reduction}
use Rattle.net_tree.specs.Tree.{Tree, Links, Part, leaf, indexed, parens, tuple, negated, choice, none, link, absent, part, empty, filled, valued}
use Rattle.net_tree.specs.Print.{put, put_links, put_part}
use Rattle.net_tree.specs.Depth.{depth, links_depth}
use Rattle.net_tree.specs.WellFormed.{precedence, IsWellFormed, AreWellFormed, IsElse}
use Rattle.net_tree.specs.Phrases.{IsReference}
use Rattle.net_model.specs.declared.expected.Expected.TheVariants as sorts
use Rattle.net_model.specs.declared.model_parser.Awaiting.TheVariants as awaiting
use Rattle.net_model.specs.Reading.{Tokens, next_is, is_sort}
use Rattle.net_model.specs.Expressions.{Inner, all_links, part_at, is_subscripted, subscripts_at, named_at, closed, listed, parens_from, parens_at, negated_at, ends_braces, empty_braces_at, items_at, braces_at, braces, reduction_at, conditional_at}
use Rattle.net_model.proofs.LinksSound.{UpTo, links-sound}
use Rattle.net_model.proofs.TreesSound.{Wide, wide_value, SoundInner, IsPart, part-sound, part_filter}
use Rattle.net_model.proofs.Mending.{Written, Begun, Mending, inward, same, then_mends, last_mends, choose_mends, read_mends, opens_mends, passed_mends}
use Rattle.net_model.proofs.Fillers.{filler, fills, a_name, a_name_level, tree, links_of, part_of, braces_of, put-front}
use Rattle.net_model.proofs.MendingLinks.{Mends, expect_then, expect_last, links-mends, part-mends}

-- the readers one nesting further in
pub record MendInner (d : ℕ) (i : Inner) : Type 0 where
  pub at : (n : ℕ) → 0 < n → n ≤ 10 → Mends (tree (UpTo n)) d (i.at n)
  pub wide : (n : ℕ) → 0 < n → n ≤ 10 → Mends (tree (Wide n)) d (i.wide n)
  -- and behind the word of a reduction
  pub reduced : (w : Token) → is_reduction (role_of w) ≡ true → (ts : Tokens) → Mending (tree (UpTo 1)) (suc d) same (w ∷ ts) (reduction_at i w ts)

list-mends : (d n : ℕ) (i : Inner) → SoundInner d i → MendInner d i → 1 < n → n ≤ 10 → Mends (links_of 0 n 0) d (all_links 0 (i.at n))
list-mends d n i sound mends low high ts = links-mends d 0 n (i.at n) (mends.at n (omega arith) high) (sound.at n (omega arith) high) (λ e. absurd (omega (arith, e))) (length ts) 0 ts

-- a name, with subscripts or without
abbrev pub reference : Written Tree
reference = record { put = put; fits = λ k x. IsReference (valued x) × (depth x ≤ k); front = put-front }

subscripts-mends : (d : ℕ) (i : Inner) → SoundInner d i → MendInner d i → (n : Token) → is_name (role_of n) ≡ true → (ts : Tokens) → is_subscripted ts ≡ true → Mending reference (suc d) same (n ∷ ts) (subscripts_at i n ts)
unfolding subscripts_at
subscripts-mends d i sound mends n named [] opens = absurd (cc)
subscripts-mends d i sound mends n named (o ∷ ts) opens =
    passed_mends reference (suc d) same n (o ∷ ts) _ (passed_mends reference (suc d) (λ r. n ∷ r) o ts _
    (then_mends (tree (UpTo 3)) reference inward d (λ r. n ∷ o ∷ r) ts (i.at 3 ts) _ (mends.at 3 (omega arith) (omega arith) ts)
    (λ s e k x le f. record {
      thing = indexed n o x none (filler sorts.CloseSquare);
      fits = ((named, opens, f.0, f.2, tt, fills sorts.CloseSquare), omega (arith, f.1));
      rest = filler sorts.CloseSquare ∷ [];
      text = λ r. refl;
    })
    (λ x e.
    let sx = sound.at 3 (omega arith) (omega arith) ts x e in
    record {
      text = sx.text;
      mends =
          then_mends (links_of 0 3 0) reference inward d (λ r. n ∷ o ∷ put x.0 r) x.1 (all_links 0 (i.at 3) x.1) _ (list-mends d 3 i sound mends (omega arith) (omega arith) x.1)
          (λ s e k l le f. record {
            thing = indexed n o x.0 l (filler sorts.CloseSquare);
            fits = ((named, opens, sx.level, sx.fits, f.0, fills sorts.CloseSquare), omega (arith, sx.within, le, f.1));
            rest = filler sorts.CloseSquare ∷ [];
            text = λ r. refl;
          })
          (λ l e.
          let sl = links-sound d 0 3 (i.at 3) (sound.at 3 (omega arith) (omega arith)) (λ e. absurd (omega arith)) (length x.1) 0 x.1 l (omega arith) e in
          record {
            text = sl.text;
            mends =
                expect_last sorts.CloseSquare awaiting.Other reference (suc d) (λ r. n ∷ o ∷ put x.0 (put_links l.0 r)) l.1 _
                (λ k c le is. record {
                  thing = indexed n o x.0 l.0 c;
                  fits = ((named, opens, sx.level, sx.fits, sl.level, is), omega (arith, sx.within, sl.within, le));
                  rest = [];
                  text = λ r. refl;
                })
                (λ c s h. cc);
          });
    })))

pub named-inside : (d : ℕ) (i : Inner) → SoundInner d i → MendInner d i → (n : Token) → is_name (role_of n) ≡ true → (ts : Tokens) → Mending reference (suc d) same (n ∷ ts) (named_at (Some i) n ts)
unfolding named_at
named-inside d i sound mends n named ts =
    choose_mends reference (suc d) same (n ∷ ts) (is_subscripted ts) _ _ (subscripts-mends d i sound mends n named ts) (λ b. read_mends reference (suc d) same (n ∷ ts) (leaf n, ts))

pub named-shut : (d : ℕ) (n : Token) → is_name (role_of n) ≡ true → (ts : Tokens) → Mending reference d same (n ∷ ts) (named_at None n ts)
unfolding named_at
named-shut d n named [] = read_mends reference d same (n ∷ []) (leaf n, [])
named-shut d n named (t ∷ ts) =
    choose_mends reference d same (n ∷ t ∷ ts) (is_subscripted (t ∷ ts)) _ _
    (λ opens. passed_mends reference d same n (t ∷ ts) _
    (opens_mends reference d (λ r. n ∷ r) t ts (record { thing = leaf n; fits = (named, omega arith); rest = []; text = λ r. refl }) (
      suc d,
      omega arith,
      record {
        thing = indexed n t a_name none (filler sorts.CloseSquare);
        fits = ((named, opens, a_name_level, omega arith, tt, fills sorts.CloseSquare), omega arith);
        rest = filler sorts.Name ∷ filler sorts.CloseSquare ∷ [];
        text = λ r. refl;
      },
    )))
    (λ b. read_mends reference d same (n ∷ t ∷ ts) (leaf n, t ∷ ts))

-- behind `(`
wide_eleven : (r : ℕ) → Wide 10 r → r ≤ 11
wide_eleven r (inl h) = omega (arith, h)
wide_eleven r (inr h) = omega (arith, h)

closed-mends : (d : ℕ) (o : Token) (x : Tree) (ts : Tokens) → is_open (role_of o) ≡ true → IsWellFormed x → depth x ≤ d → precedence x ≤ 11 → Mending (tree (UpTo 0)) (suc d) (λ r. o ∷ put x r) ts (closed o x ts)
closed-mends d o x ts opens level deep fits =
    expect_last sorts.Close awaiting.Other (tree (UpTo 0)) (suc d) (λ r. o ∷ put x r) ts _
    (λ k c le is. record { thing = parens o x c; fits = ((opens, level, fits, is), omega (arith, deep, le), omega arith); rest = []; text = λ r. refl })
    (λ c s h. cc)

listed_begun : (k : ℕ) (o : Token) (x : Tree) (l : Links) (c : Token) → is_open (role_of o) ≡ true → IsWellFormed x → depth x < k → precedence x ≤ 3 → AreWellFormed 0 3 0 l → links_depth l < k → is_sort sorts.Close (role_of c) ≡ true
    → Begun (tree (UpTo 0)) k (λ r. o ∷ put x (put_links l r)) []
listed_begun k o x none c opens level deep low links narrow shuts =
    record { thing = parens o x c; fits = ((opens, level, omega (arith, low), shuts), omega (arith, deep), omega arith); rest = c ∷ []; text = λ r. refl }
listed_begun k o x (link p y l) c opens level deep low links narrow shuts =
    record { thing = tuple o x (link p y l) c; fits = ((opens, level, low, tt, links, shuts), omega (arith, deep, narrow), omega arith); rest = c ∷ []; text = λ r. refl }

listed-mends : (d : ℕ) (o : Token) (x : Tree) (l : Links) (ts : Tokens) → is_open (role_of o) ≡ true → IsWellFormed x → depth x ≤ d → precedence x ≤ 3 → AreWellFormed 0 3 0 l → links_depth l ≤ d
    → Mending (tree (UpTo 0)) (suc d) (λ r. o ∷ put x (put_links l r)) ts (listed o x l ts)
listed-mends d o x none ts opens level deep low links narrow = closed-mends d o x ts opens level deep (omega (arith, low))
listed-mends d o x (link p y l) ts opens level deep low links narrow =
    expect_last sorts.Close awaiting.Other (tree (UpTo 0)) (suc d) (λ r. o ∷ put x (put_links (link p y l) r)) ts _
    (λ k c le is. record { thing = tuple o x (link p y l) c; fits = ((opens, level, low, tt, links, is), omega (arith, deep, narrow, le), omega arith); rest = []; text = λ r. refl })
    (λ c s h. cc)

pub parens-mends : (d : ℕ) (i : Inner) → SoundInner d i → MendInner d i → (o : Token) → is_open (role_of o) ≡ true → (ts : Tokens) → Mending (tree (UpTo 0)) (suc d) same (o ∷ ts) (parens_at i o ts)
unfolding parens_at parens_from
parens-mends d i sound mends o opens ts =
    passed_mends (tree (UpTo 0)) (suc d) same o ts _
    (then_mends (tree (Wide 10)) (tree (UpTo 0)) inward d (λ r. o ∷ r) ts (i.wide 10 ts) _ (mends.wide 10 (omega arith) (omega arith) ts)
    (λ s e k x le f. record {
      thing = parens o x (filler sorts.Close);
      fits = ((opens, f.0, wide_eleven (precedence x) f.2, fills sorts.Close), omega (arith, f.1), omega arith);
      rest = filler sorts.Close ∷ [];
      text = λ r. refl;
    })
    (λ x e.
    let sx = sound.wide 10 (omega arith) (omega arith) ts x e in
    record {
      text = sx.text;
      mends =
          choose_mends (tree (UpTo 0)) (suc d) (λ r. o ∷ put x.0 r) x.1 (nat_le (precedence x.0) 3) _ _
          (λ b.
          let low = leb-true (precedence x.0) 3 b in
          then_mends (links_of 0 3 0) (tree (UpTo 0)) inward d (λ r. o ∷ put x.0 r) x.1 (all_links 0 (i.at 3) x.1) _ (list-mends d 3 i sound mends (omega arith) (omega arith) x.1)
          (λ s e k l le f. listed_begun (suc k) o x.0 l (filler sorts.Close) opens sx.level (omega (arith, sx.within, le)) low f.0 (omega (arith, f.1)) (fills sorts.Close))
          (λ l e.
          let sl = links-sound d 0 3 (i.at 3) (sound.at 3 (omega arith) (omega arith)) (λ e. absurd (omega arith)) (length x.1) 0 x.1 l (omega arith) e in
          record { text = sl.text; mends = listed-mends d o x.0 l.0 l.1 opens sx.level sx.within low sl.level sl.within }))
          (λ b. closed-mends d o x.0 x.1 opens sx.level sx.within (wide_eleven (precedence x.0) sx.fits));
    }))

-- behind `not`
pub negated-inside : (d : ℕ) (i : Inner) → SoundInner d i → MendInner d i → (n : Token) → is_not (role_of n) ≡ true → (ts : Tokens) → Mending (tree (UpTo 0)) (suc d) same (n ∷ ts) (negated_at (Some i) n ts)
unfolding negated_at
negated-inside d i sound mends n nots ts =
    passed_mends (tree (UpTo 0)) (suc d) same n ts _
    (expect_then sorts.Open awaiting.Other (tree (UpTo 0)) (suc d) (λ r. n ∷ r) ts _
    (λ k o le is. record {
      thing = negated n o a_name (filler sorts.Close);
      fits = ((nots, is, a_name_level, omega arith, fills sorts.Close), omega (arith, le), omega arith);
      rest = filler sorts.Name ∷ filler sorts.Close ∷ [];
      text = λ r. refl;
    })
    (λ o r opens.
    then_mends (tree (UpTo 10)) (tree (UpTo 0)) inward d (λ q. n ∷ o ∷ q) r (i.at 10 r) _ (mends.at 10 (omega arith) (omega arith) r)
    (λ s e k x le f. record {
      thing = negated n o x (filler sorts.Close);
      fits = ((nots, opens, f.0, f.2, fills sorts.Close), omega (arith, f.1), omega arith);
      rest = filler sorts.Close ∷ [];
      text = λ r. refl;
    })
    (λ x e.
    let sx = sound.at 10 (omega arith) (omega arith) r x e in
    record {
      text = sx.text;
      mends =
          expect_last sorts.Close awaiting.Other (tree (UpTo 0)) (suc d) (λ q. n ∷ o ∷ put x.0 q) x.1 _
          (λ k c le is. record { thing = negated n o x.0 c; fits = ((nots, opens, sx.level, sx.fits, is), omega (arith, sx.within, le), omega arith); rest = []; text = λ r. refl })
          (λ c s h. cc);
    })))

-- behind `{`
hollow-mends : (d : ℕ) (i : Inner) → SoundInner d i → MendInner d i → (o : Token) → is_open_brace (role_of o) ≡ true → (ts : Tokens) → Mending braces_of (suc d) (λ r. o ∷ r) ts (empty_braces_at i o ts)
unfolding empty_braces_at
hollow-mends d i sound mends o opens ts =
    then_mends (part_of sorts.Colon (UpTo 10)) braces_of inward d (λ r. o ∷ r) ts (part_at sorts.Colon (i.at 10) ts) _ (part-mends d sorts.Colon (UpTo 10) (i.at 10) (mends.at 10 (omega arith) (omega arith)) ts)
    (λ s e k p le f. record {
      thing = empty o p (filler sorts.CloseBrace);
      fits = ((opens, part_filter p f.0, fills sorts.CloseBrace), omega (arith, f.1));
      rest = filler sorts.CloseBrace ∷ [];
      text = λ r. refl;
    })
    (λ p e.
    let sp = part-sound d sorts.Colon (UpTo 10) (i.at 10) (sound.at 10 (omega arith) (omega arith)) ts p e in
    record {
      text = sp.text;
      mends =
          expect_last sorts.CloseBrace awaiting.Other braces_of (suc d) (λ r. o ∷ put_part p.0 r) p.1 _
          (λ k c le is. record { thing = empty o p.0 c; fits = ((opens, part_filter p.0 sp.level, is), omega (arith, sp.within, le)); rest = []; text = λ r. refl })
          (λ c s h. cc);
    })

items-mends : (d : ℕ) (i : Inner) → SoundInner d i → MendInner d i → (o : Token) → is_open_brace (role_of o) ≡ true → (ts : Tokens) → Mending braces_of (suc d) (λ r. o ∷ r) ts (items_at i o ts)
unfolding items_at
items-mends d i sound mends o opens ts =
    then_mends (tree (UpTo 8)) braces_of inward d (λ r. o ∷ r) ts (i.at 8 ts) _ (mends.at 8 (omega arith) (omega arith) ts)
    (λ s e k x le f. record {
      thing = filled o x none absent (filler sorts.CloseBrace);
      fits = ((opens, f.0, f.2, tt, tt, fills sorts.CloseBrace), omega (arith, f.1));
      rest = filler sorts.CloseBrace ∷ [];
      text = λ r. refl;
    })
    (λ x e.
    let sx = sound.at 8 (omega arith) (omega arith) ts x e in
    record {
      text = sx.text;
      mends =
          then_mends (links_of 0 8 0) braces_of inward d (λ r. o ∷ put x.0 r) x.1 (all_links 0 (i.at 8) x.1) _ (list-mends d 8 i sound mends (omega arith) (omega arith) x.1)
          (λ s e k l le f. record {
            thing = filled o x.0 l absent (filler sorts.CloseBrace);
            fits = ((opens, sx.level, sx.fits, f.0, tt, fills sorts.CloseBrace), omega (arith, sx.within, le, f.1));
            rest = filler sorts.CloseBrace ∷ [];
            text = λ r. refl;
          })
          (λ l e.
          let sl = links-sound d 0 8 (i.at 8) (sound.at 8 (omega arith) (omega arith)) (λ e. absurd (omega arith)) (length x.1) 0 x.1 l (omega arith) e in
          record {
            text = sl.text;
            mends =
                then_mends (part_of sorts.Colon (UpTo 10)) braces_of inward d (λ r. o ∷ put x.0 (put_links l.0 r)) l.1 (part_at sorts.Colon (i.at 10) l.1) _
                (part-mends d sorts.Colon (UpTo 10) (i.at 10) (mends.at 10 (omega arith) (omega arith)) l.1)
                (λ s e k p le f. record {
                  thing = filled o x.0 l.0 p (filler sorts.CloseBrace);
                  fits = ((opens, sx.level, sx.fits, sl.level, part_filter p f.0, fills sorts.CloseBrace), omega (arith, sx.within, sl.within, le, f.1));
                  rest = filler sorts.CloseBrace ∷ [];
                  text = λ r. refl;
                })
                (λ p e.
                let sp = part-sound d sorts.Colon (UpTo 10) (i.at 10) (sound.at 10 (omega arith) (omega arith)) l.1 p e in
                record {
                  text = sp.text;
                  mends =
                      expect_last sorts.CloseBrace awaiting.Other braces_of (suc d) (λ r. o ∷ put x.0 (put_links l.0 (put_part p.0 r))) p.1 _
                      (λ k c le is. record {
                        thing = filled o x.0 l.0 p.0 c;
                        fits = ((opens, sx.level, sx.fits, sl.level, part_filter p.0 sp.level, is), omega (arith, sx.within, sl.within, sp.within, le));
                        rest = [];
                        text = λ r. refl;
                      })
                      (λ c s h. cc);
                });
          });
    })

pub braces_at-mends : (d : ℕ) (i : Inner) → SoundInner d i → MendInner d i → (o : Token) → is_open_brace (role_of o) ≡ true → (ts : Tokens) → Mending braces_of (suc d) (λ r. o ∷ r) ts (braces_at i o ts)
unfolding braces_at
braces_at-mends d i sound mends o opens ts =
    choose_mends braces_of (suc d) (λ r. o ∷ r) ts (next_is ends_braces ts) _ _ (λ b. hollow-mends d i sound mends o opens ts) (λ b. items-mends d i sound mends o opens ts)

pub braces-mends : (d : ℕ) (i : Inner) → SoundInner d i → MendInner d i → Mends braces_of (suc d) (braces (Some i))
unfolding braces
braces-mends d i sound mends ts =
    expect_then sorts.OpenBrace awaiting.Other braces_of (suc d) same ts _
    (λ k o le is. record { thing = empty o absent (filler sorts.CloseBrace); fits = ((is, tt, fills sorts.CloseBrace), omega (arith, le)); rest = filler sorts.CloseBrace ∷ []; text = λ r. refl })
    (λ o r is. braces_at-mends d i sound mends o is r)

-- behind `if`
part_else : (p : Part) → IsPart sorts.Else (Wide 7) p → IsElse p
part_else absent h = tt
part_else (part m x) h = (h.0, h.1, wide_value (precedence x) h.2)

pub choice-mends : (d : ℕ) (i : Inner) → SoundInner d i → MendInner d i → (w : Token) → is_if (role_of w) ≡ true → (ts : Tokens) → Mending (tree (λ r. r ≡ 11)) (suc d) same (w ∷ ts) (conditional_at i w ts)
unfolding conditional_at
choice-mends d i sound mends w ifs ts =
    passed_mends (tree (λ r. r ≡ 11)) (suc d) same w ts _
    (then_mends (tree (UpTo 10)) (tree (λ r. r ≡ 11)) inward d (λ r. w ∷ r) ts (i.at 10 ts) _ (mends.at 10 (omega arith) (omega arith) ts)
    (λ s e k x le f. record {
      thing = choice w x (filler sorts.Then) a_name absent;
      fits = ((ifs, f.0, f.2, fills sorts.Then, a_name_level, omega arith, tt), omega (arith, f.1), refl);
      rest = filler sorts.Then ∷ filler sorts.Name ∷ [];
      text = λ r. refl;
    })
    (λ x e.
    let sx = sound.at 10 (omega arith) (omega arith) ts x e in
    record {
      text = sx.text;
      mends =
          expect_then sorts.Then awaiting.Other (tree (λ r. r ≡ 11)) (suc d) (λ r. w ∷ put x.0 r) x.1 _
          (λ k t le is. record {
            thing = choice w x.0 t a_name absent;
            fits = ((ifs, sx.level, sx.fits, is, a_name_level, omega arith, tt), omega (arith, sx.within, le), refl);
            rest = filler sorts.Name ∷ [];
            text = λ r. refl;
          })
          (λ t q thens.
          then_mends (tree (UpTo 7)) (tree (λ r. r ≡ 11)) inward d (λ r. w ∷ put x.0 (t ∷ r)) q (i.at 7 q) _ (mends.at 7 (omega arith) (omega arith) q)
          (λ s e k y le f. record {
            thing = choice w x.0 t y absent;
            fits = ((ifs, sx.level, sx.fits, thens, f.0, f.2, tt), omega (arith, sx.within, le, f.1), refl);
            rest = [];
            text = λ r. refl;
          })
          (λ y e.
          let sy = sound.at 7 (omega arith) (omega arith) q y e in
          record {
            text = sy.text;
            mends =
                last_mends (part_of sorts.Else (Wide 7)) (tree (λ r. r ≡ 11)) inward d (λ r. w ∷ put x.0 (t ∷ put y.0 r)) y.1 (part_at sorts.Else (i.wide 7) y.1) _
                (part-mends d sorts.Else (Wide 7) (i.wide 7) (mends.wide 7 (omega arith) (omega arith)) y.1)
                (λ s e k p le f. record {
                  thing = choice w x.0 t y.0 p;
                  fits = ((ifs, sx.level, sx.fits, thens, sy.level, sy.fits, part_else p f.0), omega (arith, sx.within, sy.within, le, f.1), refl);
                  rest = [];
                  text = λ r. refl;
                })
                (λ p s h. cc);
          }));
    }))
