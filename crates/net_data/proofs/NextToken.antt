-- The next token: one that is wanted, and a choice by it.
use Rattle.std.proofs.Common.{◌≡◌, Bool, true, false, List, [], ◌∷◌, ◌++◌, Option, Some, None, Ok, Err, refl, ap, sym, ◌∙◌, append_assoc}
use Rattle.std.specs.Prelude.{is_some, if◌then◌else◌}
use Rattle.std.specs.Option.{option_map}
use Rattle.net_lex.specs.declared.token.Token.{Token}
use Rattle.net_base.specs.declared.error_code.ErrorCode.TheVariants.{DataSyntax}
use Rattle.net_data.specs.declared.data_parser.ParseError.{ParseError}
use Rattle.net_data.specs.Tests.{is_comma}
use Rattle.net_data.specs.Reading.{Read, stop, span_of, front, met_by, met, rejected, wanted_by, wanted}
use Rattle.net_data.proofs.Lookahead.{ok_parts, some_parts, err_is, place_is, looked, looked_join, looked_token, Local, same_local}

-- ---- the next token

pub record First (tokens : List Token) (t : Token) (rest : List Token) : Type 0 where
  pub commas : List Token
  pub parts : tokens ≡ commas ++ t ∷ rest
  pub fronts : (other : List Token) → front (commas ++ t ∷ other) ≡ Some (t, other)
  pub looks : (ys zs : List Token) → looked (commas ++ t ∷ ys) ≡ looked (commas ++ t ∷ zs)

pub first_token : (tokens : List Token) (t : Token) (rest : List Token) → front tokens ≡ Some (t, rest) → First tokens t rest
first_token [] t rest h = absurd (let i = h in cc)
first_token (x ∷ xs) t rest h = go (is_comma x) refl h (first_token xs t rest)
  where
    go : (b : Bool) → is_comma x ≡ b → (if b then front xs else Some (x, xs)) ≡ Some (t, rest) → (front xs ≡ Some (t, rest) → First xs t rest) → First (x ∷ xs) t rest
    go true i k more =
        let f = more k in
        record {
          commas = x ∷ f.commas;
          parts = ap (λ (ts : List Token). x ∷ ts) f.parts;
          fronts = λ other. ap (λ b. if b then front (f.commas ++ t ∷ other) else Some (x, f.commas ++ t ∷ other)) i ∙ f.fronts other;
          looks = λ ys zs. ap (λ (l : List Token). if is_comma x then x ∷ l else x ∷ []) (f.looks ys zs);
        }
    go false i k more =
        let both = some_parts x t xs rest k in
        let plain : is_comma t ≡ false = ap is_comma (sym both.0) ∙ i in
        record {
          commas = [];
          parts = ap (λ z. z ∷ xs) both.0 ∙ ap (λ (ts : List Token). t ∷ ts) both.1;
          fronts = λ other. ap (λ b. if b then front other else Some (t, other)) plain;
          looks = λ ys zs. looked_token t ys zs plain;
        }

-- what is wanted of the next token, by that token
abbrev pub wanted_of : (Token → Bool) → Option (Token × List Token) → Read Token
wanted_of test None = Err (stop DataSyntax None)
wanted_of test (Some x) = if test x.0 then Ok x else Err (stop DataSyntax (Some x.0.span))

pub wanted_is : (test : Token → Bool) (tokens : List Token) → wanted test tokens ≡ wanted_of test (front tokens)
unfolding wanted met rejected
wanted_is test tokens = go (front tokens) refl
  where
    by : (x : Token × List Token) (b : Bool) → front tokens ≡ Some x → wanted_by tokens (if b then Some x else None) ≡ (if b then Ok x else Err (stop DataSyntax (Some x.0.span)))
    by x true i = refl
    by x false i = ap (λ o. let r : Read Token = Err (stop DataSyntax (span_of (option_map (λ y. y.0) o))) in r) i

    go : (o : Option (Token × List Token)) → front tokens ≡ o → wanted_by tokens (met_by test (front tokens)) ≡ wanted_of test (front tokens)
    go None i = ap (λ o. wanted_by tokens (met_by test o)) i ∙ ap (λ o. let r : Read Token = Err (stop DataSyntax (span_of (option_map (λ y. y.0) o))) in r) i ∙ sym (ap (wanted_of test) i)
    go (Some x) i = ap (λ o. wanted_by tokens (met_by test o)) i ∙ by x (test x.0) i ∙ sym (ap (wanted_of test) i)

wanted_first : (test : Token → Bool) (tokens : List Token) → Local (λ ts. wanted_of test (front ts)) tokens
wanted_first test tokens = go (front tokens) refl
  where
    passed : (x : Token × List Token) → front tokens ≡ Some x → test x.0 ≡ true → Local (λ ts. wanted_of test (front ts)) tokens
    passed x i b =
        let f = first_token tokens x.0 x.1 i in
        let here : wanted_of test (front tokens) ≡ Ok x = ap (wanted_of test) i ∙ ap (λ c. if c then (let r : Read Token = Ok x in r) else Err (stop DataSyntax (Some x.0.span))) b in
        record {
          stops = λ e h d span at. absurd (let j = sym here ∙ h in cc);
          passes = λ y rest h.
              let both = ok_parts x.0 y x.1 rest (sym here ∙ h) in
              record {
                front = f.commas ++ x.0 ∷ [];
                parts = f.parts ∙ ap (λ (ts : List Token). f.commas ++ x.0 ∷ ts) both.1 ∙ sym (append_assoc f.commas (x.0 ∷ []) rest);
                always = λ other look.
                    ap (λ ts. wanted_of test (front ts)) (append_assoc f.commas (x.0 ∷ []) other)
                    ∙ ap (wanted_of test) (f.fronts other)
                    ∙ ap (λ c. if c then (let r : Read Token = Ok (x.0, other) in r) else Err (stop DataSyntax (Some x.0.span))) b
                    ∙ ap (λ z. let r : Read Token = Ok (z, other) in r) both.0;
              };
        }

    failed : (x : Token × List Token) → front tokens ≡ Some x → test x.0 ≡ false → Local (λ ts. wanted_of test (front ts)) tokens
    failed x i b =
        let f = first_token tokens x.0 x.1 i in
        let here : wanted_of test (front tokens) ≡ Err (stop DataSyntax (Some x.0.span)) = ap (wanted_of test) i ∙ ap (λ c. if c then (let r : Read Token = Ok x in r) else Err (stop DataSyntax (Some x.0.span))) b in
        record {
          stops = λ e h d span at.
              let same = err_is (stop DataSyntax (Some x.0.span)) e (sym here ∙ h) in
              record {
                front = f.commas;
                token = x.0;
                more = x.1;
                parts = f.parts;
                at = place_is x.0.span span (ap (λ (s : ParseError). s.at) same ∙ at);
                looks = f.looks;
                always = λ other.
                    ap (wanted_of test) (f.fronts other)
                    ∙ ap (λ c. if c then (let r : Read Token = Ok (x.0, other) in r) else Err (stop DataSyntax (Some x.0.span))) b
                    ∙ ap (λ z. let r : Read Token = Err z in r) same;
              };
          passes = λ y rest h. absurd (let j = sym here ∙ h in cc);
        }

    go : (o : Option (Token × List Token)) → front tokens ≡ o → Local (λ ts. wanted_of test (front ts)) tokens
    go None i =
        let here : wanted_of test (front tokens) ≡ Err (stop DataSyntax None) = ap (wanted_of test) i in
        record {
          stops = λ e h d span at.
              let same = err_is (stop DataSyntax None) e (sym here ∙ h) in
              absurd (let k = ap (λ (s : ParseError). s.at) same ∙ at in cc);
          passes = λ y rest h. absurd (let j = sym here ∙ h in cc);
        }
    go (Some x) i = by (test x.0) refl
      where
        by : (b : Bool) → test x.0 ≡ b → Local (λ ts. wanted_of test (front ts)) tokens
        by true k = passed x i k
        by false k = failed x i k

pub wanted_local : (test : Token → Bool) (tokens : List Token) → Local (wanted test) tokens
wanted_local test tokens = same_local (wanted test) (λ ts. wanted_of test (front ts)) tokens (wanted_is test) (wanted_first test tokens)

-- ---- a choice by the next token

abbrev pub choose : {A : Type 0} → Option (Token × List Token) → Read A → (Token → List Token → Read A) → Read A
choose None other k = other
choose (Some x) other k = k x.0 x.1

abbrev next_in : List Token → Option Token
next_in [] = None
next_in (t ∷ ts) = if is_comma t then next_in ts else Some t

abbrev passes_in : (Token → Bool) → Option Token → Bool
passes_in test None = false
passes_in test (Some t) = test t

next_looked : (xs : List Token) → next_in (looked xs) ≡ next_in xs
next_looked [] = refl
next_looked (t ∷ ts) = go (is_comma t) refl (next_looked ts)
  where
    go : (b : Bool) → is_comma t ≡ b → next_in (looked ts) ≡ next_in ts → next_in (if b then t ∷ looked ts else t ∷ []) ≡ (if b then next_in ts else Some t)
    go true i more = ap (λ b. if b then next_in (looked ts) else Some t) i ∙ more
    go false i more = ap (λ b. if b then next_in [] else Some t) i

met_is : (test : Token → Bool) (xs : List Token) → is_some (met_by test (front xs)) ≡ passes_in test (next_in xs)
met_is test [] = refl
met_is test (t ∷ ts) = go (is_comma t) (met_is test ts)
  where
    tested : (b : Bool) → is_some (let o : Option (Token × List Token) = if b then Some (t, ts) else None in o) ≡ b
    tested true = refl
    tested false = refl

    go : (b : Bool) → is_some (met_by test (front ts)) ≡ passes_in test (next_in ts) → is_some (met_by test (if b then front ts else Some (t, ts))) ≡ passes_in test (if b then next_in ts else Some t)
    go true more = more
    go false more = tested (test t)

none_from : {A : Type 0} (o : Option A) → is_some o ≡ false → o ≡ None
none_from None e = refl
none_from (Some x) e = absurd (let h = e in cc)

-- a test that the next token does not pass
none_looked : (test : Token → Bool) (xs ys : List Token) → looked xs ≡ looked ys → met test xs ≡ None → met test ys ≡ None
unfolding met
none_looked test xs ys e h =
    none_from (met_by test (front ys))
    (met_is test ys
    ∙ ap (passes_in test) (sym (next_looked ys) ∙ ap next_in (sym e) ∙ next_looked xs)
    ∙ sym (met_is test xs)
    ∙ ap (λ (o : Option (Token × List Token)). is_some o) h)

pub record Met (test : Token → Bool) (tokens : List Token) (x : Token × List Token) : Type 0 where
  pub front : front tokens ≡ Some x
  pub passes : test x.0 ≡ true

pub met_parts : (test : Token → Bool) (tokens : List Token) (x : Token × List Token) → met test tokens ≡ Some x → Met test tokens x
unfolding met
met_parts test tokens x h = go (front tokens) refl h
  where
    by : (y : Token × List Token) (b : Bool) → front tokens ≡ Some y → test y.0 ≡ b → (let o : Option (Token × List Token) = if b then Some y else None in o) ≡ Some x → Met test tokens x
    by y true i k j = let same : y ≡ x = cc in record { front = i ∙ ap (λ z. let o : Option (Token × List Token) = Some z in o) same; passes = ap (λ (z : Token × List Token). test z.0) (sym same) ∙ k }
    by y false i k j = absurd (let l = j in cc)

    go : (o : Option (Token × List Token)) → front tokens ≡ o → met_by test o ≡ Some x → Met test tokens x
    go None i k = absurd (let l = k in cc)
    go (Some y) i k = by y (test y.0) i refl k

pub met_always : (test : Token → Bool) (tokens : List Token) (x : Token × List Token) → met test tokens ≡ Some x → (f : First tokens x.0 x.1) (other : List Token) → met test (f.commas ++ x.0 ∷ other) ≡ Some (x.0, other)
unfolding met
met_always test tokens x h f other =
    ap (met_by test) (f.fronts other) ∙ ap (λ b. let o : Option (Token × List Token) = if b then Some (x.0, other) else None in o) (met_parts test tokens x h).passes

pub choose_local : {A : Type 0} (test : Token → Bool) (g : List Token → Read A) (k : Token → List Token → Read A) (tokens : List Token) → Local g tokens → ((t : Token) (rest : List Token) → met test tokens ≡ Some (t, rest) → Local (k t) rest)
    → Local (λ ts. choose (met test ts) (g ts) k) tokens
choose_local {A} test g k tokens l next = go (met test tokens) refl
  where
    whole : List Token → Read A
    whole ts = choose (met test ts) (g ts) k

    behind : (x : Token × List Token) → met test tokens ≡ Some x → Local whole tokens
    behind x i =
        let f = first_token tokens x.0 x.1 (met_parts test tokens x i).front in
        let here : whole tokens ≡ k x.0 x.1 = ap (λ o. choose o (g tokens) k) i in
        let there : (other : List Token) → whole (f.commas ++ x.0 ∷ other) ≡ k x.0 other = λ other. ap (λ o. choose o (g (f.commas ++ x.0 ∷ other)) k) (met_always test tokens x i f other) in
        let m = next x.0 x.1 i in
        record {
          stops = λ e h d span at.
              let s = m.stops e (sym here ∙ h) d span at in
              record {
                front = f.commas ++ x.0 ∷ s.front;
                token = s.token;
                more = s.more;
                parts = f.parts ∙ ap (λ (ts : List Token). f.commas ++ x.0 ∷ ts) s.parts ∙ sym (append_assoc f.commas (x.0 ∷ s.front) (s.token ∷ s.more));
                at = s.at;
                looks = λ ys zs.
                    ap looked (append_assoc f.commas (x.0 ∷ s.front) (s.token ∷ ys))
                    ∙ f.looks (s.front ++ s.token ∷ ys) (s.front ++ s.token ∷ zs)
                    ∙ sym (ap looked (append_assoc f.commas (x.0 ∷ s.front) (s.token ∷ zs)));
                always = λ other. ap whole (append_assoc f.commas (x.0 ∷ s.front) (s.token ∷ other)) ∙ there (s.front ++ s.token ∷ other) ∙ s.always other;
              };
          passes = λ y rest h.
              let p = m.passes y rest (sym here ∙ h) in
              record {
                front = f.commas ++ x.0 ∷ p.front;
                parts = f.parts ∙ ap (λ (ts : List Token). f.commas ++ x.0 ∷ ts) p.parts ∙ sym (append_assoc f.commas (x.0 ∷ p.front) rest);
                always = λ other look. ap whole (append_assoc f.commas (x.0 ∷ p.front) other) ∙ there (p.front ++ other) ∙ p.always other look;
              };
        }

    beside : met test tokens ≡ None → Local whole tokens
    beside i =
        let here : whole tokens ≡ g tokens = ap (λ o. choose o (g tokens) k) i in
        let there : (ts : List Token) → looked tokens ≡ looked ts → whole ts ≡ g ts = λ ts e. ap (λ o. choose o (g ts) k) (none_looked test tokens ts e i) in
        record {
          stops = λ e h d span at.
              let s = l.stops e (sym here ∙ h) d span at in
              record {
                front = s.front;
                token = s.token;
                more = s.more;
                parts = s.parts;
                at = s.at;
                looks = s.looks;
                always = λ other. there (s.front ++ s.token ∷ other) (ap looked s.parts ∙ s.looks s.more other) ∙ s.always other;
              };
          passes = λ y rest h.
              let p = l.passes y rest (sym here ∙ h) in
              record {
                front = p.front;
                parts = p.parts;
                always = λ other look. there (p.front ++ other) (ap looked p.parts ∙ sym (looked_join p.front other rest look)) ∙ p.always other look;
              };
        }

    go : (o : Option (Token × List Token)) → met test tokens ≡ o → Local whole tokens
    go None i = beside i
    go (Some x) i = behind x i
