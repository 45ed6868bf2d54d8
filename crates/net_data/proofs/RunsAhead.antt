-- Runs of tokens and the items of a set depend on the next token behind them, and on no other.
use Rattle.std.proofs.Common.{◌≡◌, Bool, true, false, List, [], ◌∷◌, ◌++◌, Option, Some, None, Ok, Err, refl, ap, sym, ◌∙◌, subst, codes}
use Rattle.std.specs.Prelude.{◌||◌, if◌then◌else◌}
use Rattle.net_base.specs.declared.diagnostic.Span.{Span}
use Rattle.net_lex.specs.declared.token.Token.{Token}
use Rattle.net_base.specs.declared.error_code.ErrorCode.TheVariants.{DataSyntax}
use Rattle.net_data.specs.declared.members.Spot.{Spot}
use Rattle.net_data.specs.declared.members.Spot.TheVariants.{Outside, Opened, First as FirstMember, Parted, Later}
use Rattle.net_data.specs.declared.data_parser.ParseError.{ParseError}
use Rattle.net_data.specs.Commas.{in_set, bare}
use Rattle.net_data.specs.Reading.{Read, stop, run, items_after, items_from, items_of, items, spot_or, with_token, ◌>>=◌}
use Rattle.net_data.specs.Spots.{spot_after, rests, outside}
use Rattle.net_data.specs.Tests.{is_member, is_mark, is_comma}
use Rattle.net_data.proofs.Lookahead.{never, ok_parts, err_is, place_is, looked, looked_token, looked_nothing, looked_begins, PassesOn, Local, bind_local, same_local, pure_local}
use Rattle.net_data.proofs.RunLemmas.{run_after, run-cons, run-nil}

-- ---- runs

abbrev pub ran : (Token → Bool) → List Token → Read (List Token)
ran test ts = Ok ((run test ts).0, (run test ts).1)

record RunsOn (test : Token → Bool) (tokens : List Token) (r : List Token × List Token) : Type 0 where
  pub front : List Token
  pub parts : tokens ≡ front ++ r.1
  pub always : (other : List Token) → looked other ≡ looked r.1 → run test (front ++ other) ≡ (r.0, other)

runs_on : (test : Token → Bool) (tokens : List Token) → RunsOn test tokens (run test tokens)
runs_on test [] =
    subst (RunsOn test []) (sym (run-nil test))
    (record { front = []; parts = refl; always = λ other look. let none = looked_nothing other look in ap (run test) none ∙ run-nil test ∙ ap (λ (o : List Token). let p : List Token × List Token = ([], o) in p) (sym none) })
runs_on test (t ∷ ts) = subst (RunsOn test (t ∷ ts)) (sym (run-cons test t ts)) (go (is_comma t) refl (test t) refl (runs_on test ts))
  where
    go : (c : Bool) → is_comma t ≡ c → (p : Bool) → test t ≡ p → RunsOn test ts (run test ts) → RunsOn test (t ∷ ts) (run_after t ts c p (run test ts))
    go true i p j r = record {
      front = t ∷ r.front;
      parts = ap (λ (us : List Token). t ∷ us) r.parts;
      always = λ other look.
          run-cons test t (r.front ++ other)
          ∙ ap (λ c. run_after t (r.front ++ other) c (test t) (run test (r.front ++ other))) i
          ∙ r.always other look;
    }
    go false i true j r = record {
      front = t ∷ r.front;
      parts = ap (λ (us : List Token). t ∷ us) r.parts;
      always = λ other look.
          run-cons test t (r.front ++ other)
          ∙ ap (λ c. run_after t (r.front ++ other) c (test t) (run test (r.front ++ other))) i
          ∙ ap (λ p. run_after t (r.front ++ other) false p (run test (r.front ++ other))) j
          ∙ ap (λ (x : List Token × List Token). let p : List Token × List Token = (t ∷ x.0, x.1) in p) (r.always other look);
    }
    go false i false j r = record {
      front = [];
      parts = refl;
      always = λ other look.
          let b = looked_begins other t ts i look in
          ap (run test) b.is
          ∙ run-cons test t b.behind
          ∙ ap (λ c. run_after t b.behind c (test t) (run test b.behind)) i
          ∙ ap (λ p. run_after t b.behind false p (run test b.behind)) j
          ∙ ap (λ (o : List Token). let p : List Token × List Token = ([], o) in p) (sym b.is);
    }

pub run_local : (test : Token → Bool) (tokens : List Token) → Local (ran test) tokens
run_local test tokens = record {
  stops = λ e h d span at. never ((run test tokens).0, (run test tokens).1) e h;
  passes = λ x rest h.
      let both = ok_parts (run test tokens).0 x (run test tokens).1 rest h in
      let r = runs_on test tokens in
      record {
        front = r.front;
        parts = r.parts ∙ ap (λ (ts : List Token). r.front ++ ts) both.1;
        always = λ other look.
            ap (λ (z : List Token × List Token). let q : Read (List Token) = Ok (z.0, z.1) in q) (r.always other (look ∙ ap looked (sym both.1)))
            ∙ ap (λ (z : List Token). let q : Read (List Token) = Ok (z, other) in q) both.0;
      };
}

-- ---- items of a set

from_nil : (spot : Spot) → items_from spot [] ≡ (let r : Read (List Token) = if rests spot then Ok ([], []) else Err (stop DataSyntax None) in r)
unfolding items_from
from_nil spot = refl

from_cons : (spot : Spot) (t : Token) (ts : List Token) → items_from spot (t ∷ ts) ≡ items_after t ts (spot_after spot t) spot (items_from (spot_or spot (spot_after spot t)) ts)
unfolding items_from
from_cons spot t ts = refl

from_on : (spot next : Spot) (t : Token) (ts : List Token) → spot_after spot t ≡ Some next → items_from spot (t ∷ ts) ≡ with_token t (items_from next ts)
from_on spot next t ts i = from_cons spot t ts ∙ ap (λ o. items_after t ts o spot (items_from (spot_or spot o) ts)) i

abbrev rested : Bool → Token → List Token → Read (List Token)
rested b t ts = if b then Ok ([], t ∷ ts) else Err (stop DataSyntax (Some t.span))

from_end : (spot : Spot) (t : Token) (ts : List Token) → spot_after spot t ≡ None → items_from spot (t ∷ ts) ≡ rested (rests spot) t ts
from_end spot t ts i = from_cons spot t ts ∙ ap (λ o. items_after t ts o spot (items_from (spot_or spot o) ts)) i

token_err : (t : Token) (read : Read (List Token)) (e : ParseError) → with_token t read ≡ Err e → read ≡ Err e
token_err t (Ok x) e h = absurd (cc)
token_err t (Err d) e h = ap (λ z. let r : Read (List Token) = Err z in r) (err_is d e h)

record Taken (t : Token) (read : Read (List Token)) (x rest : List Token) : Type 0 where
  pub items : List Token
  pub is : read ≡ Ok (items, rest)
  pub whole : t ∷ items ≡ x

token_ok : (t : Token) (read : Read (List Token)) (x rest : List Token) → with_token t read ≡ Ok (x, rest) → Taken t read x rest
token_ok t (Ok y) x rest h = let both = ok_parts (t ∷ y.0) x y.1 rest h in record { items = y.0; is = ap (λ (z : List Token). let r : Read (List Token) = Ok (y.0, z) in r) both.1; whole = both.0 }
token_ok t (Err d) x rest h = absurd (cc)

-- no comma ends the items of a set
end_plain : (spot : Spot) (t : Token) → rests spot ≡ true → spot_after spot t ≡ None → is_comma t ≡ false
end_plain Outside t r h = go (is_member t) (is_comma t) (is_mark (codes "(") t) h
  where
    go : (a b c : Bool) → (let o : Option Spot = if a || b then Some Outside else if c then Some Opened else None in o) ≡ None → b ≡ false
    go true b c k = absurd (cc)
    go false true c k = absurd (cc)
    go false false c k = refl
end_plain Opened t r h = absurd (cc)
end_plain FirstMember t r h = absurd (cc)
end_plain Parted t r h = absurd (cc)
end_plain Later t r h = absurd (cc)

-- a comma outside tuples leaves the place as it is
comma_rests : (spot next : Spot) (t : Token) → rests spot ≡ true → is_comma t ≡ true → spot_after spot t ≡ Some next → rests next ≡ true
comma_rests Outside next t r i h = go (is_member t) (is_comma t) (is_mark (codes "(") t) i h
  where
    is_outside : (let o : Option Spot = Some Outside in o) ≡ Some next → rests next ≡ true
    is_outside k = let same : Outside ≡ next = cc in ap rests (sym same)

    go : (a b c : Bool) → b ≡ true → (let o : Option Spot = if a || b then Some Outside else if c then Some Opened else None in o) ≡ Some next → rests next ≡ true
    go true b c j k = is_outside k
    go false true c j k = is_outside k
    go false false c j k = absurd (cc)
comma_rests Opened next t r i h = absurd (cc)
comma_rests FirstMember next t r i h = absurd (cc)
comma_rests Parted next t r i h = absurd (cc)
comma_rests Later next t r i h = absurd (cc)

record ItemsStop (spot : Spot) (tokens : List Token) (e : ParseError) (span : Span) : Type 0 where
  pub front : List Token
  pub token : Token
  pub more : List Token
  pub parts : tokens ≡ front ++ token ∷ more
  pub at : token.span ≡ span
  pub looks : rests spot ≡ true → (ys zs : List Token) → looked (front ++ token ∷ ys) ≡ looked (front ++ token ∷ zs)
  pub always : (other : List Token) → items_from spot (front ++ token ∷ other) ≡ Err e

items_stop : (spot : Spot) (tokens : List Token) (e : ParseError) → items_from spot tokens ≡ Err e → (span : Span) → e.at ≡ Some span → ItemsStop spot tokens e span
items_stop spot [] e h span at = go (rests spot) (sym (from_nil spot) ∙ h)
  where
    go : (b : Bool) → (let r : Read (List Token) = if b then Ok ([], []) else Err (stop DataSyntax None) in r) ≡ Err e → ItemsStop spot [] e span
    go true k = absurd (cc)
    go false k = let place = ap (λ (s : ParseError). s.at) (err_is (stop DataSyntax None) e k) ∙ at in absurd (cc)
items_stop spot (t ∷ ts) e h span at = go (spot_after spot t) refl (λ next i. items_stop next ts e i span at)
  where
    inside : (next : Spot) → spot_after spot t ≡ Some next → ItemsStop next ts e span → ItemsStop spot (t ∷ ts) e span
    inside next i s = record {
      front = t ∷ s.front;
      token = s.token;
      more = s.more;
      parts = ap (λ (us : List Token). t ∷ us) s.parts;
      at = s.at;
      looks = λ r ys zs. by (is_comma t) refl r ys zs;
      always = λ other. from_on spot next t (s.front ++ s.token ∷ other) i ∙ ap (with_token t) (s.always other);
    }
      where
        by : (c : Bool) → is_comma t ≡ c → rests spot ≡ true → (ys zs : List Token) → looked (t ∷ s.front ++ s.token ∷ ys) ≡ looked (t ∷ s.front ++ s.token ∷ zs)
        by true k r ys zs = ap (λ (l : List Token). if is_comma t then t ∷ l else t ∷ []) (s.looks (comma_rests spot next t r k i) ys zs)
        by false k r ys zs = looked_token t (s.front ++ s.token ∷ ys) (s.front ++ s.token ∷ zs) k

    here : (b : Bool) → rests spot ≡ b → spot_after spot t ≡ None → rested b t ts ≡ Err e → ItemsStop spot (t ∷ ts) e span
    here true r i k = absurd (cc)
    here false r i k =
        let same = err_is (stop DataSyntax (Some t.span)) e k in
        record {
          front = [];
          token = t;
          more = ts;
          parts = refl;
          at = place_is t.span span (ap (λ (s : ParseError). s.at) same ∙ at);
          looks = λ q ys zs. absurd (let both = sym r ∙ q in cc);
          always = λ other. from_end spot t other i ∙ ap (λ b. rested b t other) r ∙ ap (λ z. let q : Read (List Token) = Err z in q) same;
        }

    go : (o : Option Spot) → spot_after spot t ≡ o → ((next : Spot) → items_from next ts ≡ Err e → ItemsStop next ts e span) → ItemsStop spot (t ∷ ts) e span
    go (Some next) i more = inside next i (more next (token_err t (items_from next ts) e (sym (from_on spot next t ts i) ∙ h)))
    go None i more = here (rests spot) refl i (sym (from_end spot t ts i) ∙ h)

items_pass : (spot : Spot) (tokens x rest : List Token) → items_from spot tokens ≡ Ok (x, rest) → PassesOn (items_from spot) tokens x rest
items_pass spot [] x rest h = go (rests spot) (sym (from_nil spot) ∙ h)
  where
    go : (b : Bool) → (let r : Read (List Token) = if b then Ok ([], []) else Err (stop DataSyntax None) in r) ≡ Ok (x, rest) → PassesOn (items_from spot) [] x rest
    go true k =
        let both = ok_parts [] x [] rest k in
        record {
          front = [];
          parts = both.1;
          always = λ other look.
              let none = looked_nothing other (look ∙ ap looked (sym both.1)) in
              ap (items_from spot) none ∙ h ∙ ap (λ (z : List Token). let r : Read (List Token) = Ok (x, z) in r) (sym both.1 ∙ sym none);
        }
    go false k = absurd (cc)
items_pass spot (t ∷ ts) x rest h = go (spot_after spot t) refl (λ next y i. items_pass next ts y rest i)
  where
    inside : (next : Spot) → spot_after spot t ≡ Some next → (k : Taken t (items_from next ts) x rest) → PassesOn (items_from next) ts k.items rest → PassesOn (items_from spot) (t ∷ ts) x rest
    inside next i k p = record {
      front = t ∷ p.front;
      parts = ap (λ (us : List Token). t ∷ us) p.parts;
      always = λ other look. from_on spot next t (p.front ++ other) i ∙ ap (with_token t) (p.always other look) ∙ ap (λ (z : List Token). let r : Read (List Token) = Ok (z, other) in r) k.whole;
    }

    here : (b : Bool) → rests spot ≡ b → spot_after spot t ≡ None → rested b t ts ≡ Ok (x, rest) → PassesOn (items_from spot) (t ∷ ts) x rest
    here true r i k =
        let both = ok_parts [] x (t ∷ ts) rest k in
        record {
          front = [];
          parts = both.1;
          always = λ other look.
              let b = looked_begins other t ts (end_plain spot t r i) (look ∙ ap looked (sym both.1)) in
              ap (items_from spot) b.is
              ∙ from_end spot t b.behind i
              ∙ ap (λ c. rested c t b.behind) r
              ∙ ap (λ (z : List Token). let q : Read (List Token) = Ok ([], z) in q) (sym b.is)
              ∙ ap (λ (z : List Token). let q : Read (List Token) = Ok (z, other) in q) both.0;
        }
    here false r i k = absurd (cc)

    go : (o : Option Spot) → spot_after spot t ≡ o → ((next : Spot) (y : List Token) → items_from next ts ≡ Ok (y, rest) → PassesOn (items_from next) ts y rest) → PassesOn (items_from spot) (t ∷ ts) x rest
    go (Some next) i more =
        let k = token_ok t (items_from next ts) x rest (sym (from_on spot next t ts i) ∙ h) in
        inside next i k (more next k.items k.is)
    go None i more = here (rests spot) refl i (sym (from_end spot t ts i) ∙ h)

from_local : (tokens : List Token) → Local (items_from outside) tokens
from_local tokens = record {
  stops = λ e h d span at.
      let s = items_stop outside tokens e h span at in
      record { front = s.front; token = s.token; more = s.more; parts = s.parts; at = s.at; looks = s.looks refl; always = s.always };
  passes = λ x rest h. items_pass outside tokens x rest h;
}

items_is : (ts : List Token) → items ts ≡ (items_from outside ts >>= (λ x. let r : Read (List Token) = Ok (items_of x) in r))
unfolding items
items_is ts = refl

pub items_local : (tokens : List Token) → Local items tokens
items_local tokens =
    same_local items (λ ts. items_from outside ts >>= (λ x. let r : Read (List Token) = Ok (items_of x) in r)) tokens items_is
    (bind_local (items_from outside) (λ x. let r : Read (List Token) = Ok (items_of x) in r) tokens (from_local tokens) (λ x rest i. pure_local (bare in_set x) rest))
