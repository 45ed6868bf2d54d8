-- Where reading stops at a token that is not allowed, the tokens before it begin a thing of its kind, with the commas that stand there.
use Rattle.std.proofs.Common.{◌≡◌, Bool, true, false, cond, ◌&&◌, List, [], ◌∷◌, ◌++◌, Option, Some, None, Result, Ok, Err, refl, ap, sym, ◌∙◌, subst, append_assoc, append-nil}
use Rattle.net_base.specs.declared.diagnostic.Span.{Span}
use Rattle.net_lex.specs.declared.token.Token.{Token}
use Rattle.net_base.specs.declared.error_code.ErrorCode.TheVariants.{DataSyntax}
use Rattle.net_data.specs.declared.data_parser.ParseError.{ParseError}
use Rattle.net_data.specs.Tests.{is_comma}
use Rattle.net_data.specs.Commas.{TokenPlace, place_after, skips, bare}
use Rattle.net_data.specs.Reading.{Read, stop, front, met, wanted, ◌>>=◌}
use Rattle.net_data.proofs.Lookahead.{err_is, ok_parts}
use Rattle.net_data.proofs.NextToken.{wanted_of, wanted_is, met_parts}
use Rattle.net_data.proofs.Steps.{Moves}

-- how things of a kind are written, and which of them are as the grammar wants
pub record Written (A : Type 0) : Type 1 where
  pub put : A → List Token → List Token
  pub fits : A → Type 0

-- where the first of these tokens stands
abbrev pub place_of : List Token → Option Span
place_of [] = None
place_of (t ∷ ts) = Some t.span

-- A thing that fits. Before it stand tokens that w prints; then the tokens of front, from the place p on, and others, which lead to the place q.
pub record Begun {A : Type 0} (K : Written A) (p q : TokenPlace) (w : List Token → List Token) (front : List Token) : Type 0 where
  pub thing : A
  pub fits : K.fits thing
  pub rest : List Token
  pub text : (r : List Token) → K.put thing (bare q r) ≡ w (bare p (front ++ (rest ++ r)))

-- the tokens before the stop begin a thing
pub record Mended {A : Type 0} (K : Written A) (p q : TokenPlace) (w : List Token → List Token) (tokens : List Token) (at : Option Span) : Type 0 where
  pub before : List Token
  pub left : List Token
  pub parts : tokens ≡ before ++ left
  pub stands : at ≡ place_of left
  pub begun : Begun K p q w before

-- the tokens before what is left are a thing, whatever comes behind
pub record Crossed {A : Type 0} (K : Written A) (p q : TokenPlace) (w : List Token → List Token) (tokens : List Token) (x : A) (rest : List Token) : Type 0 where
  pub front : List Token
  pub parts : tokens ≡ front ++ rest
  pub fits : K.fits x
  pub text : (r : List Token) → K.put x (bare q r) ≡ w (bare p (front ++ r))

abbrev pub Mending : {A B : Type 0} → Written A → TokenPlace → TokenPlace → (List Token → List Token) → List Token → Result B ParseError → Type 0
Mending K p q w tokens read = (e : ParseError) → read ≡ Err e → e.error_code ≡ DataSyntax → Mended K p q w tokens e.at

pub record Reads {A : Type 0} (K : Written A) (p q : TokenPlace) (w : List Token → List Token) (tokens : List Token) (read : Read A) : Type 0 where
  pub crosses : (x : A) (rest : List Token) → read ≡ Ok (x, rest) → Crossed K p q w tokens x rest
  pub mends : Mending K p q w tokens read

abbrev pub same : List Token → List Token
same r = r

-- what ends a part, and then the whole
through : {A B : Type 0} (K : Written A) (L : Written B) (p m q : TokenPlace) (w : List Token → List Token) (front : List Token)
    → (b : Begun K p m same front) → Begun L m q (λ r. w (K.put b.thing r)) [] → Begun L p q w front
through K L p m q w front b c = record {
  thing = c.thing;
  fits = c.fits;
  rest = b.rest ++ c.rest;
  text = λ r. c.text r ∙ ap w (b.text (c.rest ++ r)) ∙ ap (λ k. w (bare p (front ++ k))) (sym (append_assoc b.rest c.rest r));
}

part-stops : {A B : Type 0} (K : Written A) (L : Written B) (p m q : TokenPlace) (w : List Token → List Token) (tokens : List Token) (at : Option Span)
    → ((x : A) → K.fits x → Begun L m q (λ r. w (K.put x r)) []) → Mended K p m same tokens at → Mended L p q w tokens at
part-stops K L p m q w tokens at ends h = record {
  before = h.before;
  left = h.left;
  parts = h.parts;
  stands = h.stands;
  begun = through K L p m q w h.before h.begun (ends h.begun.thing h.begun.fits);
}

rest-stops : {A B : Type 0} (K : Written A) (L : Written B) (p m q : TokenPlace) (w : List Token → List Token) (tokens : List Token) (x : A) (rest : List Token) (at : Option Span)
    → Crossed K p m same tokens x rest → Mended L m q (λ r. w (K.put x r)) rest at → Mended L p q w tokens at
rest-stops K L p m q w tokens x rest at c h = record {
  before = c.front ++ h.before;
  left = h.left;
  parts = c.parts ∙ ap (λ k. c.front ++ k) h.parts ∙ sym (append_assoc c.front h.before h.left);
  stands = h.stands;
  begun = record {
    thing = h.begun.thing;
    fits = h.begun.fits;
    rest = h.begun.rest;
    text = λ r. h.begun.text r ∙ ap w (c.text (h.before ++ (h.begun.rest ++ r))) ∙ ap (λ k. w (bare p k)) (sym (append_assoc c.front h.before (h.begun.rest ++ r)));
  };
}

rest-crosses : {A B : Type 0} (K : Written A) (L : Written B) (p m q : TokenPlace) (w : List Token → List Token) (tokens : List Token) (x : A) (rest : List Token) (y : B) (last : List Token)
    → Crossed K p m same tokens x rest → Crossed L m q (λ r. w (K.put x r)) rest y last → Crossed L p q w tokens y last
rest-crosses K L p m q w tokens x rest y last c h = record {
  front = c.front ++ h.front;
  parts = c.parts ∙ ap (λ k. c.front ++ k) h.parts ∙ sym (append_assoc c.front h.front last);
  fits = h.fits;
  text = λ r. h.text r ∙ ap w (c.text (h.front ++ r)) ∙ ap (λ k. w (bare p k)) (sym (append_assoc c.front h.front r));
}

-- a part, and what stops behind it
pub then_mends : {A B C : Type 0} (K : Written A) (L : Written B) (p m q : TokenPlace) (w : List Token → List Token) (tokens : List Token) (f : Read A) (k : A × List Token → Result C ParseError)
    → Reads K p m same tokens f
    → ((x : A) → K.fits x → Begun L m q (λ r. w (K.put x r)) [])
    → ((x : A) (rest : List Token) → f ≡ Ok (x, rest) → K.fits x → Mending L m q (λ r. w (K.put x r)) rest (k (x, rest)))
    → Mending L p q w tokens (f >>= k)
then_mends K L p m q w tokens (Ok x) k first ends after e h d =
    let c = first.crosses x.0 x.1 refl in rest-stops K L p m q w tokens x.0 x.1 e.at c (after x.0 x.1 refl c.fits e h d)
then_mends {A} K L p m q w tokens (Err t) k first ends after e h d =
    let s : t ≡ e = cc in
    let i : (let r : Read A = Err t in r ≡ Err e) = ap (λ z. let r : Read A = Err z in r) s in
    part-stops K L p m q w tokens e.at ends (first.mends e i d)

then_crosses : {A B : Type 0} (K : Written A) (L : Written B) (p m q : TokenPlace) (w : List Token → List Token) (tokens : List Token) (f : Read A) (k : A × List Token → Read B) (y : B) (last : List Token)
    → Reads K p m same tokens f
    → ((x : A) (rest : List Token) → f ≡ Ok (x, rest) → K.fits x → Reads L m q (λ r. w (K.put x r)) rest (k (x, rest)))
    → (f >>= k) ≡ Ok (y, last) → Crossed L p q w tokens y last
then_crosses K L p m q w tokens (Ok x) k y last first after h =
    let c = first.crosses x.0 x.1 refl in rest-crosses K L p m q w tokens x.0 x.1 y last c ((after x.0 x.1 refl c.fits).crosses y last h)
then_crosses K L p m q w tokens (Err t) k y last first after h = absurd (cc)

pub then_reads : {A B : Type 0} (K : Written A) (L : Written B) (p m q : TokenPlace) (w : List Token → List Token) (tokens : List Token) (f : Read A) (k : A × List Token → Read B)
    → Reads K p m same tokens f
    → ((x : A) → K.fits x → Begun L m q (λ r. w (K.put x r)) [])
    → ((x : A) (rest : List Token) → f ≡ Ok (x, rest) → K.fits x → Reads L m q (λ r. w (K.put x r)) rest (k (x, rest)))
    → Reads L p q w tokens (f >>= k)
then_reads K L p m q w tokens f k first ends after = record {
  crosses = λ y last h. then_crosses K L p m q w tokens f k y last first after h;
  mends = then_mends K L p m q w tokens f k first ends (λ x rest e fits. (after x rest e fits).mends);
}

-- what is only told
pub reported_reads : {A : Type 0} (K : Written A) (q : TokenPlace) (w : List Token → List Token) (x : A) (rest : List Token) → K.fits x → ((r : List Token) → K.put x r ≡ w r) → Reads K q q w rest (Ok (x, rest))
reported_reads K q w x rest fits text = record {
  crosses = λ y last h.
      let both = ok_parts x y rest last h in
      record { front = []; parts = both.1; fits = subst K.fits both.0 fits; text = λ r. ap (λ z. K.put z (bare q r)) (sym both.0) ∙ text (bare q r) };
  mends = λ e h d. absurd (cc);
}

-- one token
abbrev pub token : (Token → Bool) → Written Token
token test = record { put = λ t r. t ∷ r; fits = λ t. test t ≡ true }

-- the commas before the next token
pub record After (tokens : List Token) (t : Token) (rest : List Token) : Type 0 where
  pub commas : List Token
  pub parts : tokens ≡ commas ++ t ∷ rest
  pub skipped : (p : TokenPlace) → skips p ≡ true → (r : List Token) → bare p (commas ++ r) ≡ bare p r
  pub plain : is_comma t ≡ false

skip : (p : TokenPlace) (t : Token) (ts : List Token) → skips p ≡ true → is_comma t ≡ true → bare p (t ∷ ts) ≡ bare p ts
skip p t ts outside is = rw (outside, is) refl

keep : (p : TokenPlace) (t : Token) (ts : List Token) → is_comma t ≡ false → bare p (t ∷ ts) ≡ t ∷ bare (place_after p t) ts
keep p t ts is = by (skips p)
  where
    by : (b : Bool) → cond (b && is_comma t) (bare p ts) (t ∷ bare (place_after p t) ts) ≡ t ∷ bare (place_after p t) ts
    by true = rw is refl
    by false = refl

pub after_commas : (tokens : List Token) (t : Token) (rest : List Token) → front tokens ≡ Some (t, rest) → After tokens t rest
after_commas [] t rest h = absurd (let i = h in cc)
after_commas (x ∷ xs) t rest h = go (is_comma x) refl h (after_commas xs t rest)
  where
    go : (b : Bool) → is_comma x ≡ b → cond b (front xs) (Some (x, xs)) ≡ Some (t, rest) → (front xs ≡ Some (t, rest) → After xs t rest) → After (x ∷ xs) t rest
    go true i k more =
        let f = more k in
        record {
          commas = x ∷ f.commas;
          parts = ap (λ ts. x ∷ ts) f.parts;
          skipped = λ p outside r. skip p x (f.commas ++ r) outside i ∙ f.skipped p outside r;
          plain = f.plain;
        }
    go false i k more =
        let both : (x, xs) ≡ (t, rest) = cc in
        record {
          commas = [];
          parts = ap (λ (z : Token × List Token). z.0 ∷ z.1) both;
          skipped = λ p outside r. refl;
          plain = ap (λ (z : Token × List Token). is_comma z.0) (sym both) ∙ i;
        }

all_commas : (tokens : List Token) → front tokens ≡ None → (p : TokenPlace) → skips p ≡ true → (r : List Token) → bare p (tokens ++ r) ≡ bare p r
all_commas [] h p outside r = refl
all_commas (x ∷ xs) h p outside r = go (is_comma x) refl h (λ k. all_commas xs k p outside r)
  where
    go : (b : Bool) → is_comma x ≡ b → cond b (front xs) (Some (x, xs)) ≡ None → (front xs ≡ None → bare p (xs ++ r) ≡ bare p r) → bare p (x ∷ (xs ++ r)) ≡ bare p r
    go true i k more = skip p x (xs ++ r) outside i ∙ more k
    go false i k more = absurd (let j = k in cc)

abbrev pub span_of_next : Option (Token × List Token) → Option Span
span_of_next None = None
span_of_next (Some x) = Some x.0.span

-- nothing but commas, or commas and a token, before the stop
pub commas_mend : {A : Type 0} (K : Written A) (p q : TokenPlace) (w : List Token → List Token) (tokens : List Token) (e : ParseError) → skips p ≡ true → Begun K p q w []
    → (o : Option (Token × List Token)) → front tokens ≡ o → e.at ≡ span_of_next o → Mended K p q w tokens e.at
commas_mend K p q w tokens e outside b None i at = record {
  before = tokens;
  left = [];
  parts = sym (append-nil tokens);
  stands = at;
  begun = record { thing = b.thing; fits = b.fits; rest = b.rest; text = λ r. b.text r ∙ ap w (sym (all_commas tokens i p outside (b.rest ++ r))) };
}
commas_mend K p q w tokens e outside b (Some x) i at =
    let f = after_commas tokens x.0 x.1 i in
    record {
      before = f.commas;
      left = x.0 ∷ x.1;
      parts = f.parts;
      stands = at;
      begun = record { thing = b.thing; fits = b.fits; rest = b.rest; text = λ r. b.text r ∙ ap w (sym (f.skipped p outside (b.rest ++ r))) };
    }

crossed_token : (p q : TokenPlace) (test : Token → Bool) (tokens : List Token) (t : Token) (rest : List Token) → Moves p q test → test t ≡ true → After tokens t rest → Crossed (token test) p q same tokens t rest
crossed_token p q test tokens t rest m passes f = record {
  front = f.commas ++ t ∷ [];
  parts = f.parts ∙ sym (append_assoc f.commas (t ∷ []) rest);
  fits = passes;
  text = λ r.
      ap (λ z. t ∷ bare z r) (sym (m.moves t passes))
      ∙ sym (keep p t r f.plain)
      ∙ sym (f.skipped p m.skips (t ∷ r))
      ∙ ap (bare p) (sym (append_assoc f.commas (t ∷ []) r));
}

-- a token that would be the wanted one
token_begun : (p q : TokenPlace) (test : Token → Bool) (filler : Token) → Moves p q test → test filler ≡ true → is_comma filler ≡ false → Begun (token test) p q same []
token_begun p q test filler m passes plain = record { thing = filler; fits = passes; rest = filler ∷ []; text = λ r. ap (λ z. filler ∷ bare z r) (sym (m.moves filler passes)) ∙ sym (keep p filler r plain) }

pub wanted_reads : (p q : TokenPlace) (test : Token → Bool) (filler : Token) (tokens : List Token) → Moves p q test → test filler ≡ true → is_comma filler ≡ false → Reads (token test) p q same tokens (wanted test tokens)
wanted_reads p q test filler tokens m passes plain = subst (Reads (token test) p q same tokens) (sym (wanted_is test tokens)) (go (front tokens) refl)
  where
    by : (x : Token × List Token) → front tokens ≡ Some x → (b : Bool) → test x.0 ≡ b → Reads (token test) p q same tokens (cond b (Ok x) (Err (stop DataSyntax (Some x.0.span))))
    by x i true j = record {
      crosses = λ y last h.
          let both = ok_parts x.0 y x.1 last h in
          subst (λ r. Crossed (token test) p q same tokens y r) both.1 (subst (λ z. Crossed (token test) p q same tokens z x.1) both.0 (crossed_token p q test tokens x.0 x.1 m j (after_commas tokens x.0 x.1 i)));
      mends = λ e h d. absurd (let k = h in cc);
    }
    by x i false j = record {
      crosses = λ y last h. absurd (let k = h in cc);
      mends = λ e h d.
          let s = err_is {A = Token × List Token} (stop DataSyntax (Some x.0.span)) e h in
          commas_mend (token test) p q same tokens e m.skips (token_begun p q test filler m passes plain) (Some x) i (ap (λ (z : ParseError). z.at) (sym s));
    }

    go : (o : Option (Token × List Token)) → front tokens ≡ o → Reads (token test) p q same tokens (wanted_of test o)
    go None i = record {
      crosses = λ y last h. absurd (let k = h in cc);
      mends = λ e h d.
          let s = err_is {A = Token × List Token} (stop DataSyntax None) e h in
          commas_mend (token test) p q same tokens e m.skips (token_begun p q test filler m passes plain) None i (ap (λ (z : ParseError). z.at) (sym s));
    }
    go (Some x) i = by x i (test x.0) refl

-- the next token, which was met, and what is read behind it
pub next_reads : {A : Type 0} (K : Written A) (p m q : TokenPlace) (w : List Token → List Token) (test : Token → Bool) (tokens : List Token) (x : Token × List Token) (read : Read A) → Moves p m test
    → met test tokens ≡ Some x → (test x.0 ≡ true → Reads K m q (λ r. w (x.0 ∷ r)) x.1 read) → Reads K p q w tokens read
next_reads K p m q w test tokens x read moves i after =
    let f = met_parts test tokens x i in
    let c = crossed_token p m test tokens x.0 x.1 moves f.passes (after_commas tokens x.0 x.1 f.front) in
    let r = after f.passes in
    record {
      crosses = λ y last h. rest-crosses (token test) K p m q w tokens x.0 x.1 y last c (r.crosses y last h);
      mends = λ e h d. rest-stops (token test) K p m q w tokens x.0 x.1 e.at c (r.mends e h d);
    }
