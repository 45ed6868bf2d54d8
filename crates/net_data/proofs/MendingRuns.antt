-- Runs of tokens, and the members and tuples of a set: what was read of them before a stop begins such a run.
use Rattle.std.proofs.Common.{◌≡◌, ℕ, Bool, true, false, ◌&&◌, List, [], ◌∷◌, ◌++◌, Option, Some, None, Ok, Err, refl, ap, sym, ◌∙◌, subst, codes}
use Rattle.std.specs.Prelude.{if◌then◌else◌}
use Rattle.std.specs.List.{list_all}
use Rattle.std.proofs.lemmas.Bool.{and_from}
use Rattle.net_base.specs.declared.diagnostic.Span.{Span}
use Rattle.net_lex.specs.declared.token.Token.{Token}
use Rattle.net_lex.specs.declared.token.Kind.{Kind}
use Rattle.net_lex.specs.declared.token.Kind.TheVariants as tokens_of
use Rattle.net_base.specs.declared.error_code.ErrorCode.TheVariants.{DataSyntax}
use Rattle.net_data.specs.declared.members.Spot.{Spot}
use Rattle.net_data.specs.declared.members.Spot.TheVariants.{Outside, Opened, First, Parted, Later}
use Rattle.net_data.specs.declared.data_parser.ParseError.{ParseError}
use Rattle.net_data.specs.Commas.{in_set, elsewhere, skips, bare}
use Rattle.net_data.specs.Meaning.{AreItems}
use Rattle.net_data.specs.Reading.{Read, stop, run, items, items_from, items_of, with_token, ◌>>=◌}
use Rattle.net_data.specs.Spots.{spot_after, rests}
use Rattle.net_data.specs.Tests.{is_comma}
use Rattle.net_data.proofs.Lookahead.{ok_parts}
use Rattle.net_data.proofs.RunLemmas.{Keeps, run_after, run-cons, run-nil}
use Rattle.net_data.proofs.RunsAhead.{ran}
use Rattle.net_data.proofs.SetRuns.{place_of as spot_place, Walk, walked, place_next, skip_stays, bare-keep, bare-skip, walk_cons, with_inv, items-some, items-none, items-nil}
use Rattle.net_data.proofs.Mending.{Written, place_of, Reads, same}

abbrev pub made : Kind → List ℕ → Token
made kind text = record { kind = kind; text = text; span = record { start = 0; end = 0 } }

-- a token that is a name, a member and a cell
abbrev pub a_name : Token
a_name = made tokens_of.Name (codes "x")

abbrev pub a_mark : List ℕ → Token
a_mark text = made tokens_of.Mark text

abbrev pub a_word : List ℕ → Token
a_word text = made tokens_of.Name text

-- tokens that pass a test
abbrev pub passing : (Token → Bool) → Written (List Token)
passing test = record { put = λ xs r. xs ++ r; fits = λ xs. list_all test xs ≡ true }

record Ran (test : Token → Bool) (tokens : List Token) (x : List Token × List Token) : Type 0 where
  front : List Token
  parts : tokens ≡ front ++ x.1
  pass : list_all test x.0 ≡ true
  text : (r : List Token) → x.0 ++ bare elsewhere r ≡ bare elsewhere (front ++ r)

ran_on : (test : Token → Bool) → Keeps test → (tokens : List Token) → Ran test tokens (run test tokens)
ran_on test keeps [] = subst (Ran test []) (sym (run-nil test)) (record { front = []; parts = refl; pass = refl; text = λ r. refl })
ran_on test keeps (t ∷ ts) = subst (Ran test (t ∷ ts)) (sym (run-cons test t ts)) (go (is_comma t) refl (test t) refl (ran_on test keeps ts))
  where
    go : (c : Bool) → is_comma t ≡ c → (b : Bool) → test t ≡ b → Ran test ts (run test ts) → Ran test (t ∷ ts) (run_after t ts c b (run test ts))
    go true i b j x = record { front = t ∷ x.front; parts = ap (λ us. t ∷ us) x.parts; pass = x.pass; text = λ r. x.text r ∙ sym (rw i refl) }
    go false i true j x =
        let no = keeps.no_semicolon t j in
        record {
          front = t ∷ x.front;
          parts = ap (λ us. t ∷ us) x.parts;
          pass = and_from (test t) (list_all test (run test ts).0) j x.pass;
          text = λ r. ap (λ us. t ∷ us) (x.text r) ∙ sym (rw (i, no) refl);
        }
    go false i false j x = record { front = []; parts = refl; pass = refl; text = λ r. refl }

pub run_reads : (test : Token → Bool) (tokens : List Token) → Keeps test → Reads (passing test) elsewhere elsewhere same tokens (ran test tokens)
run_reads test tokens keeps =
    let x = ran_on test keeps tokens in
    record {
      crosses = λ y rest h.
          let both = ok_parts (run test tokens).0 y (run test tokens).1 rest h in
          record {
            front = x.front;
            parts = x.parts ∙ ap (λ k. x.front ++ k) both.1;
            fits = subst (λ z. list_all test z ≡ true) both.0 x.pass;
            text = λ r. ap (λ z. z ++ bare elsewhere r) (sym both.0) ∙ x.text r;
          };
      mends = λ e h d. absurd (let k = h in cc);
    }

-- ---- members and tuples

-- the tokens of front and others, from a spot on, are a walk that leads out of all tuples
record Leading (spot : Spot) (front : List Token) : Type 0 where
  closing : List Token
  walk : List Token
  walks : Walk spot walk
  text : (r : List Token) → walk ++ bare in_set r ≡ bare (spot_place spot) (front ++ (closing ++ r))

leading_keep : (spot next : Spot) (token : Token) (front : List Token) → spot_after spot token ≡ Some next → (skips (spot_place spot) && is_comma token) ≡ false → Leading next front → Leading spot (token ∷ front)
leading_keep spot next token front e keep l = record {
  closing = l.closing;
  walk = token ∷ l.walk;
  walks = walk_cons spot next token l.walk e keep l.walks;
  text = λ r.
      ap (λ us. token ∷ us) (l.text r)
      ∙ sym (ap (λ p. token ∷ bare p (front ++ (l.closing ++ r))) (place_next spot next token e keep))
      ∙ sym (bare-keep (spot_place spot) token (front ++ (l.closing ++ r)) keep);
}

leading_skip : (spot : Spot) (token : Token) (front : List Token) → (skips (spot_place spot) && is_comma token) ≡ true → Leading spot front → Leading spot (token ∷ front)
leading_skip spot token front skip l =
    record { closing = l.closing; walk = l.walk; walks = l.walks; text = λ r. l.text r ∙ sym (bare-skip (spot_place spot) token (front ++ (l.closing ++ r)) skip) }

-- what closes an open tuple
leading_none : (spot : Spot) → Leading spot []
leading_none Outside = record { closing = []; walk = []; walks = tt; text = λ r. refl }
leading_none Opened =
    let all = a_name ∷ a_mark (codes ",") ∷ a_name ∷ a_mark (codes ")") ∷ [] in
    record { closing = all; walk = all; walks = (First, refl, refl, (Parted, refl, refl, (Later, refl, refl, (Outside, refl, refl, tt)))); text = λ r. refl }
leading_none First =
    let all = a_mark (codes ",") ∷ a_name ∷ a_mark (codes ")") ∷ [] in
    record { closing = all; walk = all; walks = (Parted, refl, refl, (Later, refl, refl, (Outside, refl, refl, tt))); text = λ r. refl }
leading_none Parted = let all = a_name ∷ a_mark (codes ")") ∷ [] in record { closing = all; walk = all; walks = (Later, refl, refl, (Outside, refl, refl, tt)); text = λ r. refl }
leading_none Later = let all = a_mark (codes ")") ∷ [] in record { closing = all; walk = all; walks = (Outside, refl, refl, tt); text = λ r. refl }

-- a token that a spot allows goes before
leading_cons : (spot next : Spot) (token : Token) (front : List Token) → spot_after spot token ≡ Some next → Leading next front → Leading spot (token ∷ front)
leading_cons spot next token front e l = by (skips (spot_place spot) && is_comma token) refl
  where
    by : (b : Bool) → (skips (spot_place spot) && is_comma token) ≡ b → Leading spot (token ∷ front)
    by false keep = leading_keep spot next token front e keep l
    by true skip =
        let both = skip_stays spot token skip in
        let stays : next ≡ spot = let k = sym e ∙ both.1 in cc in
        leading_skip spot token front skip (subst (λ s. Leading s front) stays l)

record Rejected (spot : Spot) (tokens : List Token) (at : Option Span) : Type 0 where
  front : List Token
  left : List Token
  parts : tokens ≡ front ++ left
  stands : at ≡ place_of left
  leads : Leading spot front

resting : (spot : Spot) (tokens : List Token) (e d : ParseError) → (let r : Read (List Token) = if rests spot then Ok ([], tokens) else Err d in r ≡ Err e) → d ≡ e
resting Outside tokens e d h = absurd (let k = h in cc)
resting Opened tokens e d h = cc
resting First tokens e d h = cc
resting Parted tokens e d h = cc
resting Later tokens e d h = cc

with_err : (token : Token) (read : Read (List Token)) (e : ParseError) → with_token token read ≡ Err e → read ≡ Err e
with_err token (Ok x) e h = absurd (let k = h in cc)
with_err token (Err d) e h = let s : d ≡ e = cc in ap (λ z. let r : Read (List Token) = Err z in r) s

items-rejected : (spot : Spot) (tokens : List Token) (e : ParseError) → items_from spot tokens ≡ Err e → Rejected spot tokens e.at
items-rejected spot [] e h =
    let s = resting spot [] e (stop DataSyntax None) (sym (items-nil spot) ∙ h) in
    record { front = []; left = []; parts = refl; stands = ap (λ (z : ParseError). z.at) (sym s); leads = leading_none spot }
items-rejected spot (t ∷ ts) e h = go (spot_after spot t) refl (λ next k. items-rejected next ts e k)
  where
    go : (o : Option Spot) → spot_after spot t ≡ o → ((next : Spot) → items_from next ts ≡ Err e → Rejected next ts e.at) → Rejected spot (t ∷ ts) e.at
    go None i more =
        let s = resting spot (t ∷ ts) e (stop DataSyntax (Some t.span)) (sym (items-none spot t ts i) ∙ h) in
        record { front = []; left = t ∷ ts; parts = refl; stands = ap (λ (z : ParseError). z.at) (sym s); leads = leading_none spot }
    go (Some next) i more =
        let r = more next (with_err t (items_from next ts) e (sym (items-some spot next t ts i) ∙ h)) in
        record { front = t ∷ r.front; left = r.left; parts = ap (λ us. t ∷ us) r.parts; stands = r.stands; leads = leading_cons spot next t r.front i r.leads }

-- what was read whole needs nothing more
record Taken (spot : Spot) (tokens : List Token) (x : List Token × List Token) : Type 0 where
  parts : tokens ≡ x.0 ++ x.1
  walks : Walk spot (bare (spot_place spot) x.0)
  text : (r : List Token) → bare (spot_place spot) x.0 ++ bare in_set r ≡ bare (spot_place spot) (x.0 ++ r)

taken_none : (spot : Spot) (tokens : List Token) (d : ParseError) (x : List Token × List Token) → (let r : Read (List Token) = if rests spot then Ok ([], tokens) else Err d in r ≡ Ok x) → Taken spot tokens x
taken_none Outside tokens d x h = let s : ([], tokens) ≡ x = cc in subst (Taken Outside tokens) s (record { parts = refl; walks = tt; text = λ r. refl })
taken_none Opened tokens d x h = absurd (let k = h in cc)
taken_none First tokens d x h = absurd (let k = h in cc)
taken_none Parted tokens d x h = absurd (let k = h in cc)
taken_none Later tokens d x h = absurd (let k = h in cc)

taken_cons : (spot next : Spot) (t : Token) (ts : List Token) (y : List Token × List Token) → spot_after spot t ≡ Some next → Taken next ts y → Taken spot (t ∷ ts) (t ∷ y.0, y.1)
taken_cons spot next t ts y e l = by (skips (spot_place spot) && is_comma t) refl
  where
    by : (b : Bool) → (skips (spot_place spot) && is_comma t) ≡ b → Taken spot (t ∷ ts) (t ∷ y.0, y.1)
    by false keep =
        let one : (us : List Token) → bare (spot_place spot) (t ∷ us) ≡ t ∷ bare (spot_place next) us = λ us. bare-keep (spot_place spot) t us keep ∙ ap (λ p. t ∷ bare p us) (place_next spot next t e keep) in
        record {
          parts = ap (λ us. t ∷ us) l.parts;
          walks = rw (one y.0) (walk_cons spot next t (bare (spot_place next) y.0) e keep l.walks);
          text = λ r. ap (λ us. us ++ bare in_set r) (one y.0) ∙ ap (λ us. t ∷ us) (l.text r) ∙ sym (one (y.0 ++ r));
        }
    by true skip =
        let both = skip_stays spot t skip in
        let stays : next ≡ spot = let k = sym e ∙ both.1 in cc in
        let m = subst (λ s. Taken s ts y) stays l in
        record {
          parts = ap (λ us. t ∷ us) m.parts;
          walks = rw (bare-skip (spot_place spot) t y.0 skip) m.walks;
          text = λ r. ap (λ us. us ++ bare in_set r) (bare-skip (spot_place spot) t y.0 skip) ∙ m.text r ∙ sym (bare-skip (spot_place spot) t (y.0 ++ r) skip);
        }

items-taken : (spot : Spot) (tokens : List Token) (x : List Token × List Token) → items_from spot tokens ≡ Ok x → Taken spot tokens x
items-taken spot [] x h = taken_none spot [] (stop DataSyntax None) x (sym (items-nil spot) ∙ h)
items-taken spot (t ∷ ts) x h = go (spot_after spot t) refl (λ next y k. items-taken next ts y k)
  where
    go : (o : Option Spot) → spot_after spot t ≡ o → ((next : Spot) (y : List Token × List Token) → items_from next ts ≡ Ok y → Taken next ts y) → Taken spot (t ∷ ts) x
    go None i more = taken_none spot (t ∷ ts) (stop DataSyntax (Some t.span)) x (sym (items-none spot t ts i) ∙ h)
    go (Some next) i more =
        let y = with_inv t (items_from next ts) x (sym (items-some spot next t ts i) ∙ h) in
        subst (Taken spot (t ∷ ts)) (sym y.2) (taken_cons spot next t ts y.0 i (more next y.0 y.1))

-- members and tuples
abbrev pub item_list : Written (List Token)
item_list = record { put = λ xs r. xs ++ r; fits = AreItems }

items_err : (read : Read (List Token)) (e : ParseError) → (let r : Read (List Token) = read >>= (λ y. Ok (items_of y)) in r ≡ Err e) → read ≡ Err e
items_err (Ok x) e h = absurd (let k = h in cc)
items_err (Err d) e h = let s : d ≡ e = cc in ap (λ z. let r : Read (List Token) = Err z in r) s

items_ok : (read : Read (List Token)) (x : List Token × List Token) → (let r : Read (List Token) = read >>= (λ y. Ok (items_of y)) in r ≡ Ok x) → (y : List Token × List Token) × (read ≡ Ok y) × (items_of y ≡ x)
items_ok (Ok y) x h = (y, refl, cc)
items_ok (Err d) x h = absurd (let k = h in cc)

pub items_reads : (tokens : List Token) → Reads item_list in_set in_set same tokens (items tokens)
unfolding items
items_reads tokens = record {
  crosses = λ x rest h.
      let y = items_ok (items_from Outside tokens) (x, rest) h in
      let t = items-taken Outside tokens y.0 y.1 in
      let first : bare in_set y.0.0 ≡ x = ap (λ (z : List Token × List Token). z.0) y.2 in
      let second : y.0.1 ≡ rest = ap (λ (z : List Token × List Token). z.1) y.2 in
      record {
        front = y.0.0;
        parts = t.parts ∙ ap (λ k. y.0.0 ++ k) second;
        fits = subst AreItems first (walked Outside (bare in_set y.0.0) t.walks);
        text = λ r. ap (λ z. z ++ bare in_set r) (sym first) ∙ t.text r;
      };
  mends = λ e h d.
      let f = items-rejected Outside tokens e (items_err (items_from Outside tokens) e h) in
      record {
        before = f.front;
        left = f.left;
        parts = f.parts;
        stands = f.stands;
        begun = record { thing = f.leads.walk; fits = walked Outside f.leads.walk f.leads.walks; rest = f.leads.closing; text = f.leads.text };
      };
}
