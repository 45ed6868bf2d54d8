-- Where phrases stop, the tokens before the stop begin phrases.
use Rattle.std.specs.Prelude.{◌≡◌, ◌≤◌, ◌<◌, ℕ, Bool, true, false, cond, List, [], ◌∷◌, length, Option, None, Some, codes, Ok}
use Rattle.std.proofs.Common.{refl, sym, ap, ◌∙◌, arith}
use Rattle.net_lex.specs.declared.token.Token.{Token}
use Rattle.net_lex.specs.declared.token.Kind.TheVariants as kinds
use Rattle.net_tree.specs.Role.{role_of, keys, is_name, is_comma, is_semicolon}
use Rattle.net_tree.specs.Tree.{leaf, Body, plain, valued, priced, Phrase}
use Rattle.net_tree.specs.Print.{put_optional, put_body, put_phrases}
use Rattle.net_tree.specs.Depth.{body_depth, phrases_depth}
use Rattle.net_tree.specs.WellFormed.{precedence}
use Rattle.net_tree.specs.Phrases.{IsOptionalComma, ArePhrases}
use Rattle.net_model.specs.declared.phrases.Owner.{Owner}
use Rattle.net_model.specs.declared.phrases.Owner.TheVariants as owners
use Rattle.net_model.specs.declared.phrases.Slot.{Slot}
use Rattle.net_model.specs.declared.phrases.Slot.TheVariants as slots
use Rattle.net_model.specs.declared.phrases.Stood.{Stood}
use Rattle.net_model.specs.declared.expected.Expected.TheVariants as sorts
use Rattle.net_model.specs.declared.model_parser.Awaiting.TheVariants as awaiting
use Rattle.net_model.specs.Reading.{Tokens, Read, ◌>>=◌, read_as, rejected, expect}
use Rattle.net_model.specs.Expressions.{Inner, climb, unary, wide, named_at}
use Rattle.net_model.specs.Phrases.{slot_of, stood_before, and_then_stood, nothing_stood, phrase_next, awaited, body_of, phrase_of_slot, worded, comma_at, phrase_at, phrases, phrases_end}
use Rattle.net_model.proofs.LinksSound.{UpTo}
use Rattle.net_model.proofs.TreesSound.{Wide, wide_value, unary-sound}
use Rattle.net_model.proofs.BodyLaws.{BodyOf}
use Rattle.net_model.proofs.PhraseWords.{Of}
use Rattle.net_model.proofs.PhraseLaws.{comma-sound, IsPhraseOf, put_phrase, put_all-phrases, phrase-sound, Singly, chain-singly, chain-phrases}
use Rattle.net_model.proofs.Readers.{put_before}
use Rattle.net_model.proofs.Mending.{Written, Begun, Mending, here, same, then_mends, last_mends, choose_mends, read_mends, rejected_mends, passed_mends, recast_mends}
use Rattle.net_model.proofs.Fillers.{made, filler, fills, a_name, a_name_level, token, tree, put-front, put_optional-front}
use Rattle.net_model.proofs.MendingLinks.{Mends, expect_then, expect_last, climb-mends}
use Rattle.net_model.proofs.MendingTrees.{reference}
use Rattle.net_model.proofs.MendingInside.{Mendable}
use Rattle.net_model.proofs.MendingRows.{step_of, row_of, row-mends}

put_body-front : (b : Body) (v r : Tokens) → put_body b (put_before v r) ≡ put_before (put_body b v) r
put_body-front plain v r = refl
put_body-front (valued x) v r = put-front x v r
put_body-front (priced n x) v r = ap (λ k. n ∷ k) (put-front x v r)

abbrev body_kind : Slot → Written Body
body_kind s = record { put = put_body; fits = λ k b. BodyOf s b × (body_depth b ≤ k); front = put_body-front }

-- what each word may be followed by
default_body : (s : Slot) (k : ℕ) → Begun (body_kind s) k same []
default_body slots.Nothing k = record { thing = plain; fits = (tt, omega arith); rest = []; text = λ r. refl }
default_body slots.Number k = record { thing = valued (leaf (filler sorts.Number)); fits = (fills sorts.Number, omega arith); rest = filler sorts.Number ∷ []; text = λ r. refl }
default_body slots.Set k = record { thing = valued a_name; fits = ((a_name_level, omega arith), omega arith); rest = filler sorts.Name ∷ []; text = λ r. refl }
default_body slots.Sum k = record { thing = valued a_name; fits = ((a_name_level, omega arith), omega arith); rest = filler sorts.Name ∷ []; text = λ r. refl }
default_body slots.Value k = record { thing = valued a_name; fits = ((a_name_level, refl), omega arith); rest = filler sorts.Name ∷ []; text = λ r. refl }
default_body slots.Node k = record { thing = valued a_name; fits = (fills sorts.Name, omega arith); rest = filler sorts.Name ∷ []; text = λ r. refl }
default_body slots.Price k =
    record { thing = priced (filler sorts.Name) a_name; fits = ((fills sorts.Name, a_name_level, omega arith), omega arith); rest = filler sorts.Name ∷ filler sorts.Name ∷ []; text = λ r. refl }

node-mends : (d : ℕ) (o : Option Inner) → Mendable d o → (ts : Tokens)
    → Mending (body_kind slots.Node) d same ts (expect sorts.Name awaiting.Other ts >>= λ n. named_at o n.0 n.1 >>= λ x. read_as (valued x.0) x.1)
unfolding expect
node-mends d o m [] = rejected_mends (body_kind slots.Node) d same [] awaiting.Other (d, omega arith, default_body slots.Node d)
node-mends d o m (n ∷ ts) = by (is_name (role_of n)) refl
  where
    by : (b : Bool) → is_name (role_of n) ≡ b
        → Mending (body_kind slots.Node) d same (n ∷ ts) ((let p : Read Token = cond b (Ok (n, ts)) (rejected awaiting.Other (n ∷ ts)) in p) >>= λ n. named_at o n.0 n.1 >>= λ x. read_as (valued x.0) x.1)
    by true named =
        last_mends reference (body_kind slots.Node) here d same (n ∷ ts) (named_at o n ts) _ (m.named n named ts)
        (λ s e k x le f. record { thing = valued x; fits = (f.0, f.1); rest = []; text = λ r. refl })
        (λ x s h. cc)
    by false e = rejected_mends (body_kind slots.Node) d same (n ∷ ts) awaiting.Other (d, omega arith, default_body slots.Node d)

trees : (d n : ℕ) (o : Option Inner) → Mendable d o → 0 < n → n ≤ 10 → Mends (tree (UpTo n)) d (climb n (unary o))
trees d n o m low high = climb-mends d n (unary o) m.unary (unary-sound d o m.sound) low high

body-mends : (d : ℕ) (o : Option Inner) → Mendable d o → (s : Slot) → Mends (body_kind s) d (body_of o s)
body-mends d o m slots.Nothing ts = read_mends (body_kind slots.Nothing) d same ts (plain, ts)
body-mends d o m slots.Number ts =
    expect_last sorts.Number awaiting.Other (body_kind slots.Number) d same ts _ (λ k t le is. record { thing = valued (leaf t); fits = (is, omega arith); rest = []; text = λ r. refl }) (λ x s h. cc)
body-mends d o m slots.Set ts =
    last_mends (tree (UpTo 7)) (body_kind slots.Set) here d same ts (climb 7 (unary o) ts) _ (trees d 7 o m (omega arith) (omega arith) ts)
    (λ s e k x le f. record { thing = valued x; fits = ((f.0, f.2), f.1); rest = []; text = λ r. refl })
    (λ x s h. cc)
body-mends d o m slots.Sum ts =
    last_mends (tree (UpTo 3)) (body_kind slots.Sum) here d same ts (climb 3 (unary o) ts) _ (trees d 3 o m (omega arith) (omega arith) ts)
    (λ s e k x le f. record { thing = valued x; fits = ((f.0, f.2), f.1); rest = []; text = λ r. refl })
    (λ x s h. cc)
body-mends d o m slots.Value ts =
    last_mends (tree (Wide 7)) (body_kind slots.Value) here d same ts (wide o 7 ts) _ (m.wide 7 (omega arith) (omega arith) ts)
    (λ s e k x le f. record { thing = valued x; fits = ((f.0, wide_value (precedence x) f.2), f.1); rest = []; text = λ r. refl })
    (λ x s h. cc)
body-mends d o m slots.Node ts = node-mends d o m ts
body-mends d o m slots.Price ts =
    expect_then sorts.Name awaiting.Objective (body_kind slots.Price) d same ts _
    (λ k n le is. record { thing = priced n a_name; fits = ((is, a_name_level, omega arith), omega arith); rest = filler sorts.Name ∷ []; text = λ r. refl })
    (λ n r is. last_mends (tree (UpTo 3)) (body_kind slots.Price) here d (λ q. n ∷ q) r (climb 3 (unary o) r) _ (trees d 3 o m (omega arith) (omega arith) r)
    (λ s e k x le f. record { thing = priced n x; fits = ((is, f.0, f.2), f.1); rest = []; text = λ r. refl })
    (λ x s h. cc))

-- a word that may begin a phrase whatever stood before it
unfoldable spare : Owner → Token
spare owners.Set = made kinds.Key (codes "within")
spare owners.Param = made kinds.Key (codes "integer")
spare owners.Arc = made kinds.Key (codes "integer")

spare_slot : (o : Owner) → (slot : Slot) × (slot_of o (role_of (spare o)) ≡ Some slot)
unfolding spare role_of keys
spare_slot owners.Set = (slots.Set, refl)
spare_slot owners.Param = (slots.Nothing, refl)
spare_slot owners.Arc = (slots.Nothing, refl)

spare_fresh : (o : Owner) (s : Stood) → stood_before o s (role_of (spare o)) ≡ false
unfolding spare role_of keys
spare_fresh owners.Set s = refl
spare_fresh owners.Param s = refl
spare_fresh owners.Arc s = refl

pub put_phrase-front : (p : Phrase) (v r : Tokens) → put_phrase p (put_before v r) ≡ put_before (put_phrase p v) r
put_phrase-front p v r = ap (λ k. put_optional p.comma (p.word ∷ k)) (put_body-front p.body v r) ∙ put_optional-front p.comma (p.word ∷ put_body p.body v) r

abbrev pub OnePhrase : Owner → ℕ → Stood → Phrase → Stood → Type 0
OnePhrase o k s p after = IsPhraseOf k o s p after

abbrev phrase_kind : Owner → Stood → Written (Phrase × Stood)
phrase_kind o s = step_of put_phrase put_phrase-front (OnePhrase o) s

spare_begun : (o : Owner) (s : Stood) (k : ℕ) (c : Option Token) → IsOptionalComma c → Begun (phrase_kind o s) k (put_optional c) []
spare_begun o s k c comma =
    let slot = spare_slot o in
    let b = default_body slot.0 k in
    record {
      thing = (record { comma = c; word = spare o; body = b.thing }, and_then_stood s (role_of (spare o)));
      fits = record { comma = comma; fresh = spare_fresh o s; stands = refl; slot = slot.0; has = slot.1; body = b.fits.0; within = b.fits.1 };
      rest = spare o ∷ b.rest;
      text = λ r. ap (λ k. put_optional c (spare o ∷ k)) (b.text r);
    }

slotted-mends : (d : ℕ) (i : Option Inner) → Mendable d i → (o : Owner) (s : Stood) (c : Option Token) → IsOptionalComma c → (w : Token) → stood_before o s (role_of w) ≡ false
    → (slot : Option Slot) → slot_of o (role_of w) ≡ slot → (ts : Tokens) → Mending (phrase_kind o s) d (put_optional c) (w ∷ ts) (phrase_of_slot i c w (and_then_stood s (role_of w)) slot ts)
slotted-mends d i m o s c comma w new None is ts = rejected_mends (phrase_kind o s) d (put_optional c) (w ∷ ts) awaiting.Phrase (d, omega arith, spare_begun o s d c comma)
slotted-mends d i m o s c comma w new (Some slot) is ts =
    passed_mends (phrase_kind o s) d (put_optional c) w ts _
    (last_mends (body_kind slot) (phrase_kind o s) here d (λ r. put_optional c (w ∷ r)) ts (body_of i slot ts) _ (body-mends d i m slot ts)
    (λ stop e k b le f. record {
      thing = (record { comma = c; word = w; body = b }, and_then_stood s (role_of w));
      fits = record { comma = comma; fresh = new; stands = refl; slot = slot; has = is; body = f.0; within = f.1 };
      rest = [];
      text = λ r. refl;
    })
    (λ b stop h. cc))

worded-mends : (d : ℕ) (i : Option Inner) → Mendable d i → (o : Owner) (s : Stood) (c : Option Token) → IsOptionalComma c → (ts : Tokens) → Mending (phrase_kind o s) d (put_optional c) ts (worded i o s c ts)
unfolding worded
worded-mends d i m o s c comma [] = rejected_mends (phrase_kind o s) d (put_optional c) [] awaiting.Phrase (d, omega arith, spare_begun o s d c comma)
worded-mends d i m o s c comma (w ∷ ts) =
    choose_mends (phrase_kind o s) d (put_optional c) (w ∷ ts) (stood_before o s (role_of w)) _ _
    (λ b. rejected_mends (phrase_kind o s) d (put_optional c) (w ∷ ts) awaiting.FurtherPhrase (d, omega arith, spare_begun o s d c comma))
    (λ b. slotted-mends d i m o s c comma w b (slot_of o (role_of w)) refl ts)

abbrev comma_kind : Written (Option Token)
comma_kind = record { put = put_optional; fits = λ k c. IsOptionalComma c; front = put_optional-front }

comma-mends : (d : ℕ) → Mends comma_kind d comma_at
unfolding comma_at
comma-mends d [] = read_mends comma_kind d same [] (None, [])
comma-mends d (t ∷ ts) =
    choose_mends comma_kind d same (t ∷ ts) (is_comma (role_of t)) _ _ (λ b. read_mends comma_kind d same (t ∷ ts) (Some t, ts)) (λ b. read_mends comma_kind d same (t ∷ ts) (None, t ∷ ts))

phrase-mends : (d : ℕ) (i : Option Inner) → Mendable d i → (o : Owner) (s : Stood) → Mends (phrase_kind o s) d (phrase_at i o s)
unfolding phrase_at
phrase-mends d i m o s ts =
    then_mends comma_kind (phrase_kind o s) here d same ts (comma_at ts) _ (comma-mends d ts)
    (λ stop e k c le f. spare_begun o s k c f)
    (λ c e. let sc = comma-sound ts c e in record { text = sc.text; mends = worded-mends d i m o s c.0 sc.level c.1 })

wider : (o : Owner) (d k : ℕ) (s : Stood) (p : Phrase) (after : Stood) → d ≤ k → OnePhrase o d s p after → OnePhrase o k s p after
wider o d k s p after le f = record { comma = f.comma; fresh = f.fresh; stands = f.stands; slot = f.slot; has = f.has; body = f.body; within = omega (arith, f.within, le) }

pub put_phrases-front : (ps : List Phrase) (v r : Tokens) → put_phrases ps (put_before v r) ≡ put_before (put_phrases ps v) r
put_phrases-front [] v r = refl
put_phrases-front (p ∷ ps) v r = ap (put_phrase p) (put_phrases-front ps v r) ∙ put_phrase-front p (put_phrases ps v) r

-- the phrases of an owner, and what stood in the end
abbrev pub phrases_of : Owner → Written (List Phrase × Stood)
phrases_of o = record { put = λ x. put_phrases x.0; fits = λ k x. ArePhrases (Of o) x.0 × Singly o nothing_stood x.0 × (phrases_depth x.0 ≤ k); front = λ x. put_phrases-front x.0 }

pub phrases-mends : (d : ℕ) (i : Option Inner) → Mendable d i → (o : Owner) → Mends (phrases_of o) d (phrases i o)
unfolding phrases
phrases-mends d i m o ts =
    recast_mends (row_of put_phrase put_phrase-front (OnePhrase o) nothing_stood) (phrases_of o)
    (λ k x f. let l = chain-phrases k o nothing_stood x.0 x.1 f in (l.0, chain-singly k o nothing_stood x.0 x.1 f, l.1))
    (λ x r. sym (put_all-phrases x.0 r))
    d same ts _
    (row-mends put_phrase put_phrase-front (OnePhrase o) d (phrase_at i o) (phrase_next o) (λ k s p after. wider o d k s p after) (phrase-sound d i m.sound o) (λ s ts b. phrase-mends d i m o s ts) (length ts) nothing_stood ts)

pub end-mends : (d : ℕ) (o : Owner) (s : Stood) → Mends (token sorts.Semicolon) d (phrases_end o s)
unfolding phrases_end
end-mends d o s [] =
    rejected_mends (token sorts.Semicolon) d same [] awaiting.Phrase (d, omega arith, record { thing = filler sorts.Semicolon; fits = fills sorts.Semicolon; rest = filler sorts.Semicolon ∷ []; text = λ r. refl })
end-mends d o s (t ∷ ts) =
    choose_mends (token sorts.Semicolon) d same (t ∷ ts) (is_semicolon (role_of t)) _ _ (λ b. read_mends (token sorts.Semicolon) d same (t ∷ ts) (t, ts))
    (λ b. rejected_mends (token sorts.Semicolon) d same (t ∷ ts) (awaited o s (role_of t))
    (d, omega arith, record { thing = filler sorts.Semicolon; fits = fills sorts.Semicolon; rest = filler sorts.Semicolon ∷ []; text = λ r. refl }))
