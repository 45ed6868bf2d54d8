-- What the phrases of a set's declaration say, in a world whose declared sets are sets.
use Rattle.std.specs.Prelude.{◌≡◌, ◌≤◌, ◌&&◌, ◌||◌, ℕ, Bool, true, false, List, [], ◌∷◌, ◌++◌, length, nat_eq, int_le, unsigned_abs, unwrap_or, Option, None, Some, if◌then◌else◌, Ok, ℤ, pos, negsuc}
use Rattle.std.specs.List.{AllByRecursion}
use Rattle.std.proofs.Common.{refl, ap, sym, ◌∙◌, subst, arith}
use Rattle.std.proofs.lemmas.Bool.{eqb-true}
use Rattle.std.proofs.lemmas.Int.{ints}
use Rattle.net_base.specs.declared.diagnostic.Language.TheVariants.{Model}
use Rattle.net_base.specs.declared.diagnostic.Span.{Span}
use Rattle.net_lex.specs.declared.token.Token.{Token}
use Rattle.net_sets.specs.declared.member.Member.TheVariants.{Number, Name}
use Rattle.net_sets.specs.Limits.{arity_limit}
use Rattle.net_sets.specs.Operations.{AreLong, is_within}
use Rattle.net_sets.specs.Sets.{Tuple, same_tuple, has}
use Rattle.net_sets.proofs.Sames.{tuple_decides}
use Rattle.net_tree.specs.Role.{role_of}
use Rattle.net_tree.specs.Spans.{span_of}
use Rattle.net_tree.specs.Tree.{Tree, plain, valued, priced, Body, Phrase}
use Rattle.net_base.specs.declared.diagnostic.Detail.TheVariants.{Reported}
use Rattle.net_base.specs.declared.error_code.ErrorCode.TheVariants.{Arity, Restriction}
use Rattle.net_expr.specs.declared.value.Value.{Value}
use Rattle.net_expr.specs.declared.value.Value.TheVariants.{One, Several, Many, Truth}
use Rattle.net_expr.specs.SetValues.{IsSetOf, GivesSets}
use Rattle.net_expr.specs.Values.{value}
use Rattle.net_expr.specs.Worlds.{World}
use Rattle.net_expr.proofs.Walked.{none_there}
use Rattle.net_bind.specs.declared.set_phrase.SetWord.{SetWord}
use Rattle.net_bind.specs.declared.set_phrase.SetWord.TheVariants as words
use Rattle.net_bind.specs.declared.set_phrase.Claim.{Claim}
use Rattle.net_bind.specs.declared.set_phrase.Claim.TheVariants as claims
use Rattle.net_bind.specs.declared.set_phrase.SetPhrase.{SetPhrase}
use Rattle.net_bind.specs.declared.set_phrase.Claims.{Claims}
use Rattle.net_base.specs.Outcomes.{Outcome, and_then, each, rejected, rejected_as}
use Rattle.net_bind.specs.SetPhrases.{set_word, is_dimension, claimed, evaluated, as_within, product_claim, claim_of, set_phrase, dimension_of, agreed, with_phrase, in_body, unclaimed, set_phrases, becomes, assigned}
use Rattle.net_bind.specs.BoundSets.{is_allowed, allowed}
use Rattle.net_bind.specs.Factors.{SizedSet, is_product, product_of}
use Rattle.net_bind.proofs.Products.{IsSet, products_are_sets}
use Rattle.net_bind.proofs.RowsTaken.{then_ok, is_ok}
use Rattle.net_meaning.proofs.Giving.{gives_ok}

-- a dimension is at most four, and a set is one
abbrev IsClaim : Claim → Type 0
IsClaim claims.Nothing = Unit {0}
IsClaim (claims.Dimension d) = d ≤ arity_limit
IsClaim (claims.Within d ts) = IsSetOf d ts
IsClaim (claims.Becomes d ts) = IsSetOf d ts

few : (n : ℤ) → is_dimension n ≡ true → unsigned_abs n ≤ arity_limit
few (pos n) e = go (int_le (pos n) (pos 4)) (int_le (pos 1) (pos n)) refl e
  where
    go : (b c : Bool) → int_le (pos n) (pos 4) ≡ b → (c && b) ≡ true → n ≤ arity_limit
    go true c i k = search (arith, ints, i)
    go false true i k = cc
    go false false i k = cc
few (negsuc n) e = cc

is_claim : (word : SetWord) (at : Span) (v : Value) (c : Claim) → ((d : Option ℕ) (ts : List Tuple) → v ≡ Many d ts → IsSetOf d ts) → claimed word at v ≡ Ok c → IsClaim c
is_claim words.Dimension at (One (Number n)) c g e = go (is_dimension n) refl e
  where
    go : (b : Bool) → is_dimension n ≡ b → (if b then (let o : Outcome Claim = Ok (claims.Dimension (unsigned_abs n)) in o) else rejected Arity at) ≡ Ok c → IsClaim c
    go true i k = subst IsClaim (is_ok (claims.Dimension (unsigned_abs n)) c k) (few n i)
    go false i k = cc
is_claim words.Dimension at (One (Name t)) c g e = cc
is_claim words.Dimension at (Several t) c g e = cc
is_claim words.Dimension at (Many d ts) c g e = cc
is_claim words.Dimension at (Truth b) c g e = cc
is_claim words.Within at (Many d ts) c g e = subst IsClaim (is_ok (claims.Within d ts) c e) (g d ts refl)
is_claim words.Within at (One m) c g e = cc
is_claim words.Within at (Several t) c g e = cc
is_claim words.Within at (Truth b) c g e = cc
is_claim words.Becomes at (Many d ts) c g e = subst IsClaim (is_ok (claims.Becomes d ts) c e) (g d ts refl)
is_claim words.Becomes at (One m) c g e = cc
is_claim words.Becomes at (Several t) c g e = cc
is_claim words.Becomes at (Truth b) c g e = cc
is_claim words.Other at v c g e = subst IsClaim (is_ok claims.Nothing c e) tt

evaluated_claim : (w : World) → GivesSets w → (word : SetWord) (x : Tree) (c : Claim) → evaluated w word x ≡ Ok c → IsClaim c
evaluated_claim w g word x c h = then_ok (value w [] x) (claimed word (span_of x)) c h (λ v e k. is_claim word (span_of x) v c (λ d ts s. g [] x d ts (e ∙ ap (λ u. Ok u) s)) k)

product_within : (at : Span) (o : Option SizedSet) (c : Claim) → IsSet o → as_within at o ≡ Ok c → IsClaim c
product_within at (Some a) c s e = subst IsClaim (is_ok (claims.Within a.dimension a.tuples) c e) s
product_within at None c s e = cc

is_claim_of : (w : World) → GivesSets w → (word : SetWord) (x : Tree) (c : Claim) → claim_of w word x ≡ Ok c → IsClaim c
is_claim_of w g words.Within x c h = go (is_product x) h
  where
    go : (b : Bool) → (if b then product_claim w x else evaluated w words.Within x) ≡ Ok c → IsClaim c
    go true k = then_ok (product_of w x) (as_within (span_of x)) c k (λ o e i. product_within (span_of x) o c (gives_ok IsSet (product_of w x) o (products_are_sets w g x) e) i)
    go false k = evaluated_claim w g words.Within x c k
is_claim_of w g words.Dimension x c h = evaluated_claim w g words.Dimension x c h
is_claim_of w g words.Becomes x c h = evaluated_claim w g words.Becomes x c h
is_claim_of w g words.Other x c h = evaluated_claim w g words.Other x c h

phrase_claims : (w : World) → GivesSets w → (word : SetWord) (x : Tree) (p : SetPhrase) → set_phrase w word x ≡ Ok p → IsClaim p.claim
phrase_claims w g word x p h =
    then_ok (claim_of w word x) (λ c. Ok (record { at = span_of x; claim = c })) p h (λ c i k.
    subst (λ (q : SetPhrase). IsClaim q.claim) (is_ok (record { at = span_of x; claim = c }) p k) (is_claim_of w g word x c i))

-- ---- dimensions in which phrases agree

no_tuples : (d : Option ℕ) (ts : List Tuple) → ts ≡ [] → IsSetOf d ts
no_tuples None ts e = e
no_tuples (Some n) ts e = subst (IsSetOf (Some n)) (sym e) (none_there, tt)

agreed_left : (at : Span) (c e d : Option ℕ) (ts : List Tuple) → agreed at c e ≡ Ok d → IsSetOf c ts → IsSetOf d ts
agreed_left at None e d ts h s = no_tuples d ts s
agreed_left at (Some m) None d ts h s = subst (λ o. IsSetOf o ts) (is_ok (Some m) d h) s
agreed_left at (Some m) (Some n) d ts h s = go (nat_eq m n) h
  where
    go : (b : Bool) → (if b then (let o : Outcome (Option ℕ) = Ok (Some m) in o) else rejected Arity at) ≡ Ok d → IsSetOf d ts
    go true k = subst (λ o. IsSetOf o ts) (is_ok (Some m) d k) s
    go false k = cc

agreed_right : (at : Span) (c e d : Option ℕ) (ts : List Tuple) → agreed at c e ≡ Ok d → IsSetOf e ts → IsSetOf d ts
agreed_right at None e d ts h s = subst (λ o. IsSetOf o ts) (is_ok e d h) s
agreed_right at (Some m) None d ts h s = no_tuples d ts s
agreed_right at (Some m) (Some n) d ts h s = go (nat_eq m n) refl h
  where
    go : (b : Bool) → nat_eq m n ≡ b → (if b then (let o : Outcome (Option ℕ) = Ok (Some m) in o) else rejected Arity at) ≡ Ok d → IsSetOf d ts
    go true i k = subst (λ o. IsSetOf o ts) (ap (λ j. Some j) (sym (eqb-true m n i)) ∙ is_ok (Some m) d k) s
    go false i k = cc

-- ---- what a set within others has

tuple_as : (n : ℕ) (ts : List Tuple) (t : Tuple) → AreLong n ts → has ts t ≡ true → length t ≡ n
tuple_as n [] t l h = cc
tuple_as n (u ∷ ts) t l h = go (same_tuple t u) refl h (tuple_as n ts t l.1)
  where
    go : (b : Bool) → same_tuple t u ≡ b → (b || has ts t) ≡ true → (has ts t ≡ true → length t ≡ n) → length t ≡ n
    go true e k more = ap length ((tuple_decides t u).0 e) ∙ l.0
    go false e k more = more k

within_long : (n : ℕ) (ts us : List Tuple) → AreLong n us → is_within ts us ≡ true → AreLong n ts
within_long n [] us l h = tt
within_long n (t ∷ ts) us l h = go (has us t) refl h (within_long n ts us l)
  where
    go : (b : Bool) → has us t ≡ b → (b && is_within ts us) ≡ true → (is_within ts us ≡ true → AreLong n ts) → AreLong n (t ∷ ts)
    go true e k more = (tuple_as n us t l e, more k)
    go false e k more = cc

-- the phrases ask these tuples to be within sets, and have no set of their own
pub record AreAsked (ps : List SetPhrase) (ts : List Tuple) : Type 0 where
  pub free : assigned ps ≡ None
  pub inside : AllByRecursion (λ (p : SetPhrase). is_allowed ts p.claim ≡ true) ps

-- what so many phrases come to: the set that they say is one, and tuples that they ask for are of their dimension where they are
-- when it is at most four
pub record AreSound (d : Option ℕ) (ps : List SetPhrase) : Type 0 where
  pub own : (ts : List Tuple) → assigned ps ≡ Some ts → IsSetOf d ts
  pub asked : (n : ℕ) (ts : List Tuple) → d ≡ Some n → AreAsked ps ts → (n ≤ arity_limit → AreLong n ts) → AreLong n ts

pub inside_all : (name : Token) (ts : List Tuple) (ps : List SetPhrase) (u : Unit {0}) → allowed name ts ps ≡ Ok u → AllByRecursion (λ (p : SetPhrase). is_allowed ts p.claim ≡ true) ps
inside_all name ts [] u h = tt
inside_all name ts (p ∷ ps) u h = go (is_allowed ts p.claim) refl h (inside_all name ts ps u)
  where
    go : (b : Bool) → is_allowed ts p.claim ≡ b → (if b then allowed name ts ps else rejected_as Model Restriction p.at (Reported name.text)) ≡ Ok u
        → (allowed name ts ps ≡ Ok u → AllByRecursion (λ (q : SetPhrase). is_allowed ts q.claim ≡ true) ps) → AllByRecursion (λ (q : SetPhrase). is_allowed ts q.claim ≡ true) (p ∷ ps)
    go true e k more = (e, more k)
    go false e k more = cc

all_front : (P : SetPhrase → Type 0) (ps qs : List SetPhrase) → AllByRecursion P (ps ++ qs) → AllByRecursion P ps
all_front P [] qs h = tt
all_front P (p ∷ ps) qs h = (h.0, all_front P ps qs h.1)

all_after : (P : SetPhrase → Type 0) (ps qs : List SetPhrase) → AllByRecursion P (ps ++ qs) → AllByRecursion P qs
all_after P [] qs h = h
all_after P (p ∷ ps) qs h = all_after P ps qs h.1

-- the first phrase with a set says the set
abbrev first_said : Option (List Tuple) → Option (List Tuple) → Option (List Tuple)
first_said (Some ts) later = Some ts
first_said None later = later

statement_of : (c : Claim) (a b : Option (List Tuple)) → becomes c (first_said a b) ≡ first_said (becomes c a) b
statement_of claims.Nothing a b = refl
statement_of (claims.Dimension d) a b = refl
statement_of (claims.Within d ts) a b = refl
statement_of (claims.Becomes d ts) a b = refl

assigned_join : (ps qs : List SetPhrase) → assigned (ps ++ qs) ≡ first_said (assigned ps) (assigned qs)
assigned_join [] qs = refl
assigned_join (p ∷ ps) qs = ap (becomes p.claim) (assigned_join ps qs) ∙ statement_of p.claim (assigned ps) (assigned qs)

free_front : (a b : Option (List Tuple)) → first_said a b ≡ None → (a ≡ None) × (b ≡ None)
free_front None b h = (refl, h)
free_front (Some ts) b h = cc

-- one phrase alone
own_one : (c : Claim) (ts : List Tuple) → IsClaim c → becomes c None ≡ Some ts → IsSetOf (dimension_of c) ts
own_one claims.Nothing ts s e = cc
own_one (claims.Dimension d) ts s e = cc
own_one (claims.Within d us) ts s e = cc
own_one (claims.Becomes d us) ts s e = let same : us ≡ ts = cc in subst (IsSetOf d) same s

asked_one : (c : Claim) (n : ℕ) (ts : List Tuple) → IsClaim c → dimension_of c ≡ Some n → becomes c None ≡ None → is_allowed ts c ≡ true → (n ≤ arity_limit → AreLong n ts) → AreLong n ts
asked_one claims.Nothing n ts s e f i k = cc
asked_one (claims.Dimension d) n ts s e f i k = let same : d ≡ n = cc in k (subst (λ j. j ≤ arity_limit) same s)
asked_one (claims.Within (Some d) us) n ts s e f i k = let same : d ≡ n = cc in within_long n ts us (subst (λ j. AreLong j us) same s.1) i
asked_one (claims.Within None us) n ts s e f i k = cc
asked_one (claims.Becomes d us) n ts s e f i k = cc

sound_more : (at : Span) (c d : Option ℕ) (ps : List SetPhrase) (p : SetPhrase) → AreSound c ps → IsClaim p.claim → agreed at c (dimension_of p.claim) ≡ Ok d → AreSound d (ps ++ p ∷ [])
sound_more at c d ps p h s e = record { own = own; asked = asked }
  where
    own : (ts : List Tuple) → assigned (ps ++ p ∷ []) ≡ Some ts → IsSetOf d ts
    own ts i = go (assigned ps) refl (sym (assigned_join ps (p ∷ [])) ∙ i)
      where
        go : (a : Option (List Tuple)) → assigned ps ≡ a → first_said a (becomes p.claim None) ≡ Some ts → IsSetOf d ts
        go None j k = agreed_right at c (dimension_of p.claim) d ts e (own_one p.claim ts s k)
        go (Some us) j k = agreed_left at c (dimension_of p.claim) d ts e (h.own ts (j ∙ k))

    asked : (n : ℕ) (ts : List Tuple) → d ≡ Some n → AreAsked (ps ++ p ∷ []) ts → (n ≤ arity_limit → AreLong n ts) → AreLong n ts
    asked n ts i j k = go c refl e
      where
        free : (assigned ps ≡ None) × (becomes p.claim None ≡ None)
        free = free_front (assigned ps) (becomes p.claim None) (sym (assigned_join ps (p ∷ [])) ∙ j.free)

        here : is_allowed ts p.claim ≡ true
        here = (all_after (λ (q : SetPhrase). is_allowed ts q.claim ≡ true) ps (p ∷ []) j.inside).0

        before : c ≡ Some n → AreLong n ts
        before l = h.asked n ts l (record { free = free.0; inside = all_front (λ (q : SetPhrase). is_allowed ts q.claim ≡ true) ps (p ∷ []) j.inside }) k

        reported : (m : ℕ) (o : Option ℕ) → agreed at (Some m) o ≡ Ok d → Some m ≡ d
        reported m None l = is_ok (Some m) d l
        reported m (Some q) l = by (nat_eq m q) l
          where
            by : (b : Bool) → (if b then (let o : Outcome (Option ℕ) = Ok (Some m) in o) else rejected Arity at) ≡ Ok d → Some m ≡ d
            by true z = is_ok (Some m) d z
            by false z = cc

        go : (o : Option ℕ) → c ≡ o → agreed at o (dimension_of p.claim) ≡ Ok d → AreLong n ts
        go None l z = asked_one p.claim n ts s (is_ok (dimension_of p.claim) d z ∙ i) free.1 here k
        go (Some m) l z = before (l ∙ (reported m (dimension_of p.claim) z ∙ i))

abbrev IsSound : Claims → Type 0
IsSound c = AreSound c.dimension c.phrases

claims_more : (c : Claims) (p : SetPhrase) (d : Claims) → IsSound c → IsClaim p.claim → with_phrase c p ≡ Ok d → IsSound d
claims_more c p d h s e =
    then_ok (agreed p.at c.dimension (dimension_of p.claim)) (λ n. Ok (record { dimension = n; phrases = c.phrases ++ p ∷ [] })) d e (λ n i k.
    subst IsSound (is_ok (record { dimension = n; phrases = c.phrases ++ p ∷ [] }) d k) (sound_more p.at c.dimension n c.phrases p h s i))

body_sound : (w : World) → GivesSets w → (word : SetWord) (b : Body) (c d : Claims) → IsSound c → in_body w word b c ≡ Ok d → IsSound d
body_sound w g word plain c d h e = subst IsSound (is_ok c d e) h
body_sound w g word (valued x) c d h e = then_ok (set_phrase w word x) (with_phrase c) d e (λ p i k. claims_more c p d h (phrase_claims w g word x p i) k)
body_sound w g word (priced n x) c d h e = subst IsSound (is_ok c d e) h

each_sound : (w : World) → GivesSets w → (ps : List Phrase) (c d : Claims) → IsSound c → each (λ p. in_body w (set_word (role_of p.word)) p.body) ps c ≡ Ok d → IsSound d
each_sound w g [] c d h e = subst IsSound (is_ok c d e) h
each_sound w g (p ∷ ps) c d h e =
    then_ok (in_body w (set_word (role_of p.word)) p.body c) (each (λ (q : Phrase). in_body w (set_word (role_of q.word)) q.body) ps) d e
    (λ next i k. each_sound w g ps next d (body_sound w g (set_word (role_of p.word)) p.body c next h i) k)

pub phrases_sound : (w : World) → GivesSets w → (ps : List Phrase) (c : Claims) → set_phrases w ps ≡ Ok c → IsSound c
phrases_sound w g ps c e = each_sound w g ps unclaimed c (record { own = λ ts i. cc; asked = λ n ts i j k. cc }) e

pub set_or_one : (d : Option ℕ) (ts : List Tuple) → IsSetOf d ts → IsSetOf (Some (unwrap_or d 1)) ts
set_or_one None ts s = no_tuples (Some 1) ts s
set_or_one (Some n) ts s = s

pub long_or_one : (d : Option ℕ) (ps : List SetPhrase) (ts : List Tuple) → AreSound d ps → AreAsked ps ts → (unwrap_or d 1 ≤ arity_limit → AreLong (unwrap_or d 1) ts) → AreLong (unwrap_or d 1) ts
long_or_one None ps ts h j k = k (omega arith)
long_or_one (Some n) ps ts h j k = h.asked n ts refl j k
