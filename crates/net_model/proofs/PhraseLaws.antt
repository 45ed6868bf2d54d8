-- What is read as phrases is printed so, and the other way round.
use Rattle.std.specs.Prelude.{◌≡◌, ◌≤◌, ◌<◌, ◌+◌, ℕ, suc, Bool, true, false, cond, List, [], ◌∷◌, length, Option, None, Some, is_some, Ok}
use Rattle.std.proofs.Common.{refl, sym, ap, ◌∙◌, arith}
use Rattle.net_lex.specs.declared.token.Token.{Token}
use Rattle.net_tree.specs.declared.role.Role.{Role}
use Rattle.net_tree.specs.declared.role.Role.TheVariants as roles
use Rattle.net_tree.specs.Role.{role_of, is_comma, is_else, is_semicolon}
use Rattle.net_tree.specs.Tree.{Phrase}
use Rattle.net_tree.specs.Print.{put_optional, put_body, put_phrases}
use Rattle.net_tree.specs.Depth.{body_depth, phrases_depth}
use Rattle.net_tree.specs.Phrases.{IsOptionalComma, ArePhrases, count}
use Rattle.net_model.specs.declared.phrases.Owner.{Owner}
use Rattle.net_model.specs.declared.phrases.Slot.{Slot}
use Rattle.net_model.specs.declared.phrases.Stood.{Stood}
use Rattle.net_model.specs.Reading.{Tokens}
use Rattle.net_model.specs.Expressions.{Inner, nested}
use Rattle.net_model.specs.Phrases.{slot_of, stood_before, and_then_stood, nothing_stood, begins_phrase, phrase_next, phrase_of_slot, worded, comma_at, phrase_at, phrases, phrases_end}
use Rattle.net_model.proofs.Tools.{bind_ok, given, chosen, on, off, next}
use Rattle.net_model.proofs.TreesSound.{IsInside}
use Rattle.net_model.proofs.Longer.{put_optional-longer, put_body-longer}
use Rattle.net_model.proofs.Grips.{grip, semicolon-shuts}
use Rattle.net_model.proofs.RowLaws.{Chain, put_all, SoundStep, row-sound, CompleteStep, row-complete}
use Rattle.net_model.proofs.BodyLaws.{BodyOf, body-sound, Ends, body-complete}
use Rattle.net_model.proofs.PhraseWords.{Of, slot-body, has-slot, IsWord, slot-word, semicolon-over, Single, is_word, is_single, stood, stood-after, stood-single, fresh}

pub record SoundComma (ts : Tokens) (a : Option Token × Tokens) : Type 0 where
  pub text : ts ≡ put_optional a.0 a.1
  pub level : IsOptionalComma a.0

pub comma-sound : (ts : Tokens) (a : Option Token × Tokens) → comma_at ts ≡ Ok a → SoundComma ts a
unfolding comma_at
comma-sound [] a h = given (λ y. SoundComma [] y) (None, []) a h (record { text = refl; level = tt })
comma-sound (t ∷ ts) a h =
    elim (chosen (is_comma (role_of t)) _ _ _ h) [
      | on b e ↦ given (λ y. SoundComma (t ∷ ts) y) (Some t, ts) a e (record { text = refl; level = b })
      | off b e ↦ given (λ y. SoundComma (t ∷ ts) y) (None, t ∷ ts) a e (record { text = refl; level = tt })
    ]

-- a phrase where so much stood before it
pub record IsPhraseOf (d : ℕ) (o : Owner) (s : Stood) (p : Phrase) (after : Stood) : Type 0 where
  pub comma : IsOptionalComma p.comma
  pub fresh : stood_before o s (role_of p.word) ≡ false
  pub stands : and_then_stood s (role_of p.word) ≡ after
  pub slot : Slot
  pub has : slot_of o (role_of p.word) ≡ Some slot
  pub body : BodyOf slot p.body
  pub within : body_depth p.body ≤ d

abbrev pub put_phrase : Phrase → Tokens → Tokens
put_phrase p r = put_optional p.comma (p.word ∷ put_body p.body r)

pub put_all-phrases : (ps : List Phrase) (r : Tokens) → put_all put_phrase ps r ≡ put_phrases ps r
put_all-phrases [] r = refl
put_all-phrases (p ∷ ps) r = ap (λ k. put_optional p.comma (p.word ∷ put_body p.body k)) (put_all-phrases ps r)

slotted-sound : (d : ℕ) (i : Option Inner) → IsInside d i → (o : Owner) (s : Stood) (c : Option Token) (w : Token) (ts : Tokens) (slot : Option Slot) (a : (Phrase × Stood) × Tokens)
    → IsOptionalComma c → stood_before o s (role_of w) ≡ false → slot_of o (role_of w) ≡ slot → phrase_of_slot i c w (and_then_stood s (role_of w)) slot ts ≡ Ok a
    → SoundStep put_phrase (IsPhraseOf d o) s (put_optional c (w ∷ ts)) a
slotted-sound d i inner o s c w ts None a comma new is h = absurd (let k = h in cc)
slotted-sound d i inner o s c w ts (Some slot) a comma new is h =
    let b = bind_ok _ _ _ h in
    let sb = body-sound d i inner slot ts b.value b.first in
    given (λ y. SoundStep put_phrase (IsPhraseOf d o) s (put_optional c (w ∷ ts)) y) ((record { comma = c; word = w; body = b.value.0 }, and_then_stood s (role_of w)), b.value.1) a b.after
    (record {
      text = ap (λ k. put_optional c (w ∷ k)) sb.text;
      holds = record { comma = comma; fresh = new; stands = refl; slot = slot; has = is; body = sb.level; within = sb.within };
    })

worded-sound : (d : ℕ) (i : Option Inner) → IsInside d i → (o : Owner) (s : Stood) (c : Option Token) (ts : Tokens) (a : (Phrase × Stood) × Tokens)
    → IsOptionalComma c → worded i o s c ts ≡ Ok a → SoundStep put_phrase (IsPhraseOf d o) s (put_optional c ts) a
unfolding worded
worded-sound d i inner o s c [] a comma h = absurd (let k = h in cc)
worded-sound d i inner o s c (w ∷ ts) a comma h =
    elim (chosen (stood_before o s (role_of w)) _ _ _ h) [
      | on b e ↦ absurd (let k = e in cc)
      | off b e ↦ slotted-sound d i inner o s c w ts (slot_of o (role_of w)) a comma b refl e
    ]

pub phrase-sound : (d : ℕ) (i : Option Inner) → IsInside d i → (o : Owner) (s : Stood) (ts : Tokens) (a : (Phrase × Stood) × Tokens) → phrase_next o s ts ≡ true → phrase_at i o s ts ≡ Ok a
    → SoundStep put_phrase (IsPhraseOf d o) s ts a
unfolding phrase_at
phrase-sound d i inner o s ts a next h =
    let c = bind_ok _ _ _ h in
    let sc = comma-sound ts c.value c.first in
    rw sc.text (worded-sound d i inner o s c.value.0 c.value.1 a sc.level c.after)

-- each of the words that may stand once only stands so
abbrev pub Singly : Owner → Stood → List Phrase → Type 0
Singly o s ps = (f : Single) → is_single o f ≡ true → cond (stood f s) 1 0 + count (is_word f) ps ≤ 1

abbrev one_of : Bool → ℕ
one_of b = cond b 1 0

one_of-le : (b : Bool) → one_of b ≤ 1
one_of-le true = omega arith
one_of-le false = omega arith

counted_by : (n : ℕ) (before after word : Bool) → after ≡ cond word true before → (word ≡ true → before ≡ false) → one_of after + n ≤ 1 → one_of before + cond word (suc n) n ≤ 1
counted_by n before after true is new h =
    let a : one_of after ≡ 1 = ap one_of is in
    let b : one_of before ≡ 0 = ap one_of (new refl) in
    omega (arith, h, a, b)
counted_by n before after false is new h = let a : one_of after ≡ one_of before = ap one_of is in omega (arith, h, a)

pub chain-singly : (d : ℕ) (o : Owner) (s : Stood) (ps : List Phrase) (e : Stood) → Chain (IsPhraseOf d o) s ps e → Singly o s ps
chain-singly d o s [] e steps f single = omega (arith, one_of-le (stood f s))
chain-singly d o s (p ∷ ps) e steps f single =
    let q = steps.1 in
    counted_by (count (is_word f) ps) (stood f s) (stood f steps.0) (is_word f (role_of p.word))
    (ap (stood f) (sym q.stands) ∙ stood-after f s (role_of p.word))
    (λ word. sym (stood-single o f s (role_of p.word) single word) ∙ q.fresh)
    (chain-singly d o steps.0 ps e steps.2 f single)

pub chain-phrases : (d : ℕ) (o : Owner) (s : Stood) (ps : List Phrase) (e : Stood) → Chain (IsPhraseOf d o) s ps e → ArePhrases (Of o) ps × (phrases_depth ps ≤ d)
chain-phrases d o s [] e steps = (tt, omega arith)
chain-phrases d o s (p ∷ ps) e steps =
    let q = steps.1 in
    let rest = chain-phrases d o steps.0 ps e steps.2 in
    ((q.comma, slot-body o (role_of p.word) q.slot p.body q.has q.body, rest.0), omega (arith, q.within, rest.1))

pub record SoundPhrases (d : ℕ) (o : Owner) (ts : Tokens) (a : (List Phrase × Stood) × Tokens) : Type 0 where
  pub text : ts ≡ put_phrases a.0.0 a.1
  pub level : ArePhrases (Of o) a.0.0
  pub singly : Singly o nothing_stood a.0.0
  pub within : phrases_depth a.0.0 ≤ d

pub phrases-sound : (d : ℕ) (i : Option Inner) → IsInside d i → (o : Owner) (ts : Tokens) (a : (List Phrase × Stood) × Tokens) → phrases i o ts ≡ Ok a → SoundPhrases d o ts a
unfolding phrases
phrases-sound d i inner o ts a h =
    let s = row-sound put_phrase (IsPhraseOf d o) (phrase_at i o) (phrase_next o) (phrase-sound d i inner o) (length ts) nothing_stood ts a h in
    let level = chain-phrases d o nothing_stood a.0.0 a.0.1 s.chain in
    record { text = s.text ∙ put_all-phrases a.0.0 a.1; level = level.0; singly = chain-singly d o nothing_stood a.0.0 a.0.1 s.chain; within = level.1 }

-- the other way round
comma-complete : (c : Option Token) (w : Token) (r : Tokens) → IsOptionalComma c → is_comma (role_of w) ≡ false → comma_at (put_optional c (w ∷ r)) ≡ Ok (c, w ∷ r)
unfolding comma_at
comma-complete None w r comma no_comma = rw no_comma refl
comma-complete (Some c) w r comma no_comma = rw comma refl

worded-complete : (d : ℕ) (o : Owner) (s : Stood) (p : Phrase) (after : Stood) (r : Tokens) → IsPhraseOf d o s p after → Ends r
    → worded (nested d) o s p.comma (p.word ∷ put_body p.body r) ≡ Ok ((p, and_then_stood s (role_of p.word)), r)
unfolding worded
worded-complete d o s p after r q ends = rw (q.fresh, q.has, body-complete d q.slot p.body r q.body q.within ends) refl

phrase-complete : (d : ℕ) (o : Owner) (s : Stood) (p : Phrase) (after : Stood) (r : Tokens) → IsPhraseOf d o s p after → Ends r
    → phrase_at (nested d) o s (put_phrase p r) ≡ Ok ((p, after), r)
unfolding phrase_at
phrase-complete d o s p after r q ends =
    let word = slot-word o (role_of p.word) q.slot q.has in
    rw (comma-complete p.comma p.word (put_body p.body r) q.comma word.no_comma, worded-complete d o s p after r q ends, q.stands) refl

comma_or : (b c : Bool) → c ≡ true → cond b true c ≡ true
comma_or true c h = refl
comma_or false c h = h

comma_first : (b c : Bool) → b ≡ true → cond b true c ≡ true
comma_first true c h = refl
comma_first false c h = absurd (cc)

begins-phrase : (o : Owner) (s : Stood) (r : Role) (slot : Slot) → stood_before o s r ≡ false → slot_of o r ≡ Some slot → begins_phrase o s r ≡ true
begins-phrase o s r slot new has = rw (new, has) refl

goes-on : (d : ℕ) (o : Owner) (s : Stood) (c : Option Token) (w : Token) (slot : Slot) (r : Tokens) → IsOptionalComma c → stood_before o s (role_of w) ≡ false → slot_of o (role_of w) ≡ Some slot
    → phrase_next o s (put_optional c (w ∷ r)) ≡ true
goes-on d o s None w slot r comma new has = comma_or (is_comma (role_of w)) (begins_phrase o s (role_of w)) (begins-phrase o s (role_of w) slot new has)
goes-on d o s (Some c) w slot r comma new has = comma_first (is_comma (role_of c)) (begins_phrase o s (role_of c)) comma

comma-ends : (r : Role) → is_comma r ≡ true → (6 < grip r) × (is_else r ≡ false)
comma-ends roles.Comma h = (omega arith, refl)
comma-ends _ h = absurd (cc)

phrase-ends : (c : Option Token) (w : Token) (r : Tokens) → IsOptionalComma c → IsWord (role_of w) → Ends (put_optional c (w ∷ r))
phrase-ends None w r comma word = record { stops = word.loose; no_else = word.no_else }
phrase-ends (Some c) w r comma word = let k = comma-ends (role_of c) comma in record { stops = k.0; no_else = k.1 }

phrase_step : (d : ℕ) (o : Owner) → CompleteStep put_phrase (IsPhraseOf d o) Ends (phrase_at (nested d) o) (phrase_next o)
phrase_step d o = record {
  longer = λ p r. omega (arith, put_optional-longer p.comma (p.word ∷ put_body p.body r), put_body-longer p.body r);
  goes = λ s p m r q. goes-on d o s p.comma p.word q.slot (put_body p.body r) q.comma q.fresh q.has;
  lets = λ s p m r q. phrase-ends p.comma p.word (put_body p.body r) q.comma (slot-word o (role_of p.word) q.slot q.has);
  reads = λ s p m r q ends. phrase-complete d o s p m r q ends;
}

not_yet : (n : ℕ) (before word : Bool) → one_of before + cond word (suc n) n ≤ 1 → word ≡ true → before ≡ false
not_yet n true true h w = absurd (omega (arith, h))
not_yet n true false h w = absurd (cc)
not_yet n false word h w = refl

counts_on : (n : ℕ) (before after word : Bool) → after ≡ cond word true before → one_of before + cond word (suc n) n ≤ 1 → one_of after + n ≤ 1
counts_on n before after true is h = let a : one_of after ≡ 1 = ap one_of is in omega (arith, h, a)
counts_on n before after false is h = let a : one_of after ≡ one_of before = ap one_of is in omega (arith, h, a)

steps_of : (d : ℕ) (o : Owner) (s : Stood) (ps : List Phrase) → ArePhrases (Of o) ps → phrases_depth ps ≤ d → Singly o s ps → (e : Stood) × Chain (IsPhraseOf d o) s ps e
steps_of d o s [] are deep singly = (s, refl)
steps_of d o s (p ∷ ps) are deep singly =
    let has = has-slot o (role_of p.word) p.body are.1 in
    let new = fresh o (role_of p.word) s (ap is_some has.1) (λ f single word. not_yet (count (is_word f) ps) (stood f s) (is_word f (role_of p.word)) (singly f single) word) in
    let after = and_then_stood s (role_of p.word) in
    let rest = steps_of d o after ps are.2 (omega (arith, deep))
    (λ f single. counts_on (count (is_word f) ps) (stood f s) (stood f (and_then_stood s (role_of p.word))) (is_word f (role_of p.word)) (stood-after f s (role_of p.word)) (singly f single)) in
    (rest.0, (after, record { comma = are.0; fresh = new; stands = refl; slot = has.0; has = has.1; body = has.2; within = omega (arith, deep) }, rest.1))

pub record PhrasesBack (d : ℕ) (o : Owner) (ps : List Phrase) (e : Token) (ts : Tokens) : Type 0 where
  pub stands : Stood
  pub read : phrases (nested d) o (put_phrases ps (e ∷ ts)) ≡ Ok ((ps, stands), e ∷ ts)

semicolon-no_else : (r : Role) → is_semicolon r ≡ true → is_else r ≡ false
semicolon-no_else roles.Semicolon h = refl
semicolon-no_else _ h = absurd (cc)

pub phrases-complete : (d : ℕ) (o : Owner) (ps : List Phrase) (e : Token) (ts : Tokens) → ArePhrases (Of o) ps → Singly o nothing_stood ps → phrases_depth ps ≤ d → is_semicolon (role_of e) ≡ true
    → PhrasesBack d o ps e ts
unfolding phrases
phrases-complete d o ps e ts are singly deep ends =
    let steps = steps_of d o nothing_stood ps are deep singly in
    let s = semicolon-shuts (role_of e) ends in
    let text = put_all-phrases ps (e ∷ ts) in
    let read = row-complete put_phrase (IsPhraseOf d o) Ends (phrase_at (nested d) o) (phrase_next o) (phrase_step d o) (length (put_all put_phrase ps (e ∷ ts))) nothing_stood ps steps.0 (e ∷ ts)
    (omega arith) steps.1 (record { stops = omega (arith, s.grips); no_else = semicolon-no_else (role_of e) ends }) (semicolon-over o steps.0 (role_of e) ends) in
    record { stands = steps.0; read = rw text at read }

pub end-complete : (o : Owner) (s : Stood) (e : Token) (ts : Tokens) → is_semicolon (role_of e) ≡ true → phrases_end o s (e ∷ ts) ≡ Ok (e, ts)
unfolding phrases_end
end-complete o s e ts ends = rw ends refl

pub record SoundEnd (ts : Tokens) (a : Token × Tokens) : Type 0 where
  pub text : ts ≡ a.0 ∷ a.1
  pub ends : is_semicolon (role_of a.0) ≡ true

pub end-sound : (o : Owner) (s : Stood) (ts : Tokens) (a : Token × Tokens) → phrases_end o s ts ≡ Ok a → SoundEnd ts a
unfolding phrases_end
end-sound o s [] a h = absurd (let k = h in cc)
end-sound o s (t ∷ ts) a h =
    elim (chosen (is_semicolon (role_of t)) _ _ _ h) [
      | on b e ↦ given (λ y. SoundEnd (t ∷ ts) y) (t, ts) a e (record { text = refl; ends = b })
      | off b e ↦ absurd (let k = e in cc)
    ]
