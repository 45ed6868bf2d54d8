-- The sets that the code binds are those that AMPL defines.
use Rattle.std.specs.Prelude.{◌≡◌, ◌≤◌, ◌&&◌, ℕ, suc, Bool, true, false, List, [], ◌∷◌, ◌++◌, map, length, nat_eq, int_le, unsigned_abs, is_some, Option, None, Some, if◌then◌else◌, Ok, ℤ, pos, negsuc}
use Rattle.std.specs.List.{AllByRecursion, AllZip}
use Rattle.std.proofs.Common.{refl, ap, sym, ◌∙◌, subst, arith, append_assoc, append-nil}
use Rattle.std.proofs.lemmas.Bool.{eqb-true}
use Rattle.std.proofs.lemmas.Int.{ints}
use Rattle.net_base.specs.declared.error_code.ErrorCode.TheVariants.{Arity}
use Rattle.net_base.specs.declared.diagnostic.Span.{Span}
use Rattle.net_base.specs.Outcomes.{Outcome, and_then, each, rejected}
use Rattle.net_sets.specs.declared.member.Member.TheVariants.{Number, Name as Text}
use Rattle.net_sets.specs.Sets.{Tuple}
use Rattle.net_tree.specs.declared.role.Begins.TheVariants as begins
use Rattle.net_tree.specs.declared.role.Relation.TheVariants as relations
use Rattle.net_tree.specs.declared.role.Role.{Role}
use Rattle.net_tree.specs.declared.role.Role.TheVariants as roles
use Rattle.net_tree.specs.Erasure as erased
use Rattle.net_tree.specs.Erasure.{expression}
use Rattle.net_tree.specs.Phrases.{OfSet, ArePhrases, count, is_becomes}
use Rattle.net_tree.specs.Role.{role_of}
use Rattle.net_tree.specs.Spans.{span_of}
use Rattle.net_tree.specs.Syntax.{Expression}
use Rattle.net_tree.specs.Tree.{Tree, Body, plain, valued, priced, Phrase}
use Rattle.net_expr.specs.declared.value.Value.{Value}
use Rattle.net_expr.specs.declared.value.Value.TheVariants.{One, Several, Many, Truth}
use Rattle.net_expr.specs.SetValues.{IsSetOf, HasSets}
use Rattle.net_expr.specs.Values.{value}
use Rattle.net_expr.specs.Worlds.{World}
use Rattle.net_expr.proofs.SetsGiven.{keeps_sets}
use Rattle.net_meaning.specs.OfTrees.{meant_world, env_of, IsValue, SatisfiesRole}
use Rattle.net_tree.specs.PhraseValues.{expression_of, phrase_value}
use Rattle.net_meaning.specs.Operators as meant
use Rattle.net_meaning.specs.World as world
use Rattle.net_meaning.specs.World.{Satisfies}
use Rattle.net_meaning.proofs.Meaning.{evaluation_is_sound}
use Rattle.net_bind.specs.declared.set_phrase.Claim.{Claim}
use Rattle.net_bind.specs.declared.set_phrase.Claim.TheVariants as claims
use Rattle.net_bind.specs.declared.set_phrase.Claims.{Claims}
use Rattle.net_bind.specs.declared.set_phrase.SetPhrase.{SetPhrase}
use Rattle.net_bind.specs.BoundSets.{is_allowed}
use Rattle.net_bind.specs.SetPhrases.{set_word, is_dimension, claimed, evaluated, as_within, product_claim, claim_of, set_phrase, dimension_of, agreed, with_phrase, in_body, becomes, assigned}
use Rattle.net_bind.specs.Factors.{SizedSet, is_product, product_of}
use Rattle.net_bind.specs.declared.set_phrase.SetWord.TheVariants as words
use Rattle.net_bind.proofs.Products.{IsSet, Means, products_are_sets, products_are_meant}
use Rattle.net_bind.proofs.RowsTaken.{then_ok, is_ok}
use Rattle.net_meaning.proofs.Giving.{gives_ok}

-- ---- the phrases of a set

-- what the code finds in a phrase; d is the dimension on which all phrases agree
pub record IsClaimed (w : World) (d : Option ℕ) (r : Role) (x : Tree) (c : Claim) : Type 0 where
  pub claim : claim_of w (set_word r) x ≡ Ok c
  pub agrees : (n : ℕ) → dimension_of c ≡ Some n → d ≡ Some n

abbrev pub IsClaimedIn : World → Option ℕ → Role → Body → Claim → Type 0
IsClaimedIn w d r plain c = ⊥
IsClaimedIn w d r (valued x) c = IsClaimed w d r x c
IsClaimedIn w d r (priced n x) c = ⊥

abbrev pub AreClaimed : World → Option ℕ → List Phrase → List SetPhrase → Type 0
AreClaimed w d ps qs = AllZip (λ (p : Phrase) (q : SetPhrase). IsClaimedIn w d (role_of p.word) p.body q.claim) ps qs

-- a dimension that is found stays
abbrev Stays : Option ℕ → Option ℕ → Type 0
Stays a b = (n : ℕ) → a ≡ Some n → b ≡ Some n

agreed_stays : (at : Span) (a b r : Option ℕ) → agreed at a b ≡ Ok r → Stays a r × Stays b r
agreed_stays at None b r e = (λ n h. cc, λ n h. sym (is_ok b r e) ∙ h)
agreed_stays at (Some m) None r e = (λ n h. sym (is_ok (Some m) r e) ∙ h, λ n h. cc)
agreed_stays at (Some m) (Some k) r e = go (nat_eq m k) refl e
  where
    go : (t : Bool) → nat_eq m k ≡ t → (if t then (let o : Outcome (Option ℕ) = Ok (Some m) in o) else rejected Arity at) ≡ Ok r → Stays (Some m) r × Stays (Some k) r
    go true s f = (λ n h. sym (is_ok (Some m) r f) ∙ h, λ n h. sym (is_ok (Some m) r f) ∙ ap (λ z. Some z) (eqb-true m k s) ∙ h)
    go false s f = cc

-- what the phrases from here on add
pub record Claimed (w : World) (ps : List Phrase) (c e : Claims) : Type 0 where
  pub more : List SetPhrase
  pub phrases : e.phrases ≡ c.phrases ++ more
  pub stays : Stays c.dimension e.dimension
  pub are : AreClaimed w e.dimension ps more

valued_body : (r : Role) (b : Body) → OfSet r b → (x : Tree) × (b ≡ valued x)
valued_body (roles.Phrase begins.Dimen) (valued x) h = (x, refl)
valued_body (roles.Relation relations.Within) (valued x) h = (x, refl)
valued_body roles.Becomes (valued x) h = (x, refl)
valued_body (roles.Phrase begins.Dimen) plain h = absurd h
valued_body (roles.Relation relations.Within) plain h = absurd h
valued_body roles.Becomes plain h = absurd h
valued_body (roles.Phrase begins.Dimen) (priced n x) h = absurd h
valued_body (roles.Relation relations.Within) (priced n x) h = absurd h
valued_body roles.Becomes (priced n x) h = absurd h
valued_body _ _ h = absurd h

claim_more : (w : World) (p : Phrase) (ps : List Phrase) (x : Tree) (c next e : Claims) → p.body ≡ valued x → in_body w (set_word (role_of p.word)) (valued x) c ≡ Ok next → Claimed w ps next e → Claimed w (p ∷ ps) c e
claim_more w p ps x c next e b i h =
    then_ok (set_phrase w (set_word (role_of p.word)) x) (with_phrase c) next i (λ q j k.
    then_ok (claim_of w (set_word (role_of p.word)) x) (λ a. Ok (record { at = span_of x; claim = a })) q j (λ a m o.
    then_ok (agreed q.at c.dimension (dimension_of q.claim)) (λ d. Ok (record { dimension = d; phrases = c.phrases ++ q ∷ [] })) next k (λ d s t.
    let same : (record { dimension = d; phrases = c.phrases ++ q ∷ [] }) ≡ next = is_ok (record { dimension = d; phrases = c.phrases ++ q ∷ [] }) next t in
    let own : a ≡ q.claim = ap (λ (z : SetPhrase). z.claim) (is_ok (record { at = span_of x; claim = a }) q o) in
    let stay = agreed_stays q.at c.dimension (dimension_of q.claim) d s in
    let to_end : Stays d e.dimension = λ n z. h.stays n (sym (ap (λ (y : Claims). y.dimension) same) ∙ z) in
    let claim : IsClaimed w e.dimension (role_of p.word) x q.claim = record { claim = m ∙ ap (λ z. Ok z) own; agrees = λ n z. to_end n (stay.1 n z) } in
    record {
      more = q ∷ h.more;
      phrases = h.phrases ∙ ap (λ (y : Claims). y.phrases ++ h.more) (sym same) ∙ append_assoc c.phrases (q ∷ []) h.more;
      stays = λ n z. to_end n (stay.0 n z);
      are = (subst (λ z. IsClaimedIn w e.dimension (role_of p.word) z q.claim) (sym b) claim, h.are);
    })))

pub claims_are : (w : World) (ps : List Phrase) (c e : Claims) → ArePhrases OfSet ps → each (λ p. in_body w (set_word (role_of p.word)) p.body) ps c ≡ Ok e → Claimed w ps c e
claims_are w [] c e h k = let same = is_ok c e k in record { more = []; phrases = sym (ap (λ (z : Claims). z.phrases) same) ∙ sym (append-nil c.phrases); stays = λ n z. sym (ap (λ (y : Claims). y.dimension) same) ∙ z; are = tt }
claims_are w (p ∷ ps) c e h k =
    let (x, b) = valued_body (role_of p.word) p.body h.1 in
    then_ok (in_body w (set_word (role_of p.word)) p.body c) (each (λ (q : Phrase). in_body w (set_word (role_of q.word)) q.body) ps) e k (λ next i j.
    claim_more w p ps x c next e b (ap (λ z. in_body w (set_word (role_of p.word)) z c) (sym b) ∙ i) (claims_are w ps next e h.2 j))

-- ---- `:=`

-- whether a phrase has the set of `:=`
abbrev Gives : Bool → Claim → Type 0
Gives true c = (us : List Tuple) × ((later : Option (List Tuple)) → becomes c later ≡ Some us)
Gives false c = (later : Option (List Tuple)) → becomes c later ≡ later

no_set : (us : List Tuple) (ts : List Tuple) → None ≡ Some us → us ≡ ts
no_set us ts e = cc

gives_evaluated : (r : Role) (at : Span) (v : Value) (c : Claim) → claimed (set_word r) at v ≡ Ok c → Gives (is_becomes r) c
gives_evaluated roles.Becomes at (Many d us) c e = subst (Gives true) (is_ok (claims.Becomes d us) c e) (us, λ later. refl)
gives_evaluated roles.Becomes at (One m) c e = cc
gives_evaluated roles.Becomes at (Several t) c e = cc
gives_evaluated roles.Becomes at (Truth b) c e = cc
gives_evaluated (roles.Relation relations.Within) at (Many d us) c e = subst (Gives false) (is_ok (claims.Within d us) c e) (λ later. refl)
gives_evaluated (roles.Relation relations.Within) at (One m) c e = cc
gives_evaluated (roles.Relation relations.Within) at (Several t) c e = cc
gives_evaluated (roles.Relation relations.Within) at (Truth b) c e = cc
gives_evaluated (roles.Phrase begins.Dimen) at (One (Number n)) c e = go (is_dimension n) e
  where
    go : (b : Bool) → (if b then (let o : Outcome Claim = Ok (claims.Dimension (unsigned_abs n)) in o) else rejected Arity at) ≡ Ok c → Gives false c
    go true k = subst (Gives false) (is_ok (claims.Dimension (unsigned_abs n)) c k) (λ later. refl)
    go false k = cc
gives_evaluated (roles.Phrase begins.Dimen) at (One (Text t)) c e = cc
gives_evaluated (roles.Phrase begins.Dimen) at (Several t) c e = cc
gives_evaluated (roles.Phrase begins.Dimen) at (Many d us) c e = cc
gives_evaluated (roles.Phrase begins.Dimen) at (Truth b) c e = cc
gives_evaluated _ at v c e = subst (Gives false) (is_ok claims.Nothing c e) (λ later. refl)

-- what a phrase says: its expression is evaluated, or is a product after `within`
data IsSaid (w : World) (r : Role) (x : Tree) (c : Claim) : Type 0 where
  by_value : (v : Value) → value w [] x ≡ Ok v → claimed (set_word r) (span_of x) v ≡ Ok c → IsSaid w r x c
  by_product : (a : SizedSet) → r ≡ roles.Relation relations.Within → product_of w x ≡ Ok (Some a) → claims.Within a.dimension a.tuples ≡ c → IsSaid w r x c

evaluated_said : (w : World) (r : Role) (x : Tree) (c : Claim) → evaluated w (set_word r) x ≡ Ok c → IsSaid w r x c
evaluated_said w r x c h = then_ok (value w [] x) (claimed (set_word r) (span_of x)) c h (λ v e k. by_value v e k)

product_said : (w : World) (x : Tree) (c : Claim) → (o : Option SizedSet) → product_of w x ≡ Ok o → as_within (span_of x) o ≡ Ok c → IsSaid w (roles.Relation relations.Within) x c
product_said w x c (Some a) e k = by_product a refl e (is_ok (claims.Within a.dimension a.tuples) c k)
product_said w x c None e k = cc

within_said : (w : World) (x : Tree) (c : Claim) → claim_of w words.Within x ≡ Ok c → IsSaid w (roles.Relation relations.Within) x c
within_said w x c h = go (is_product x) h
  where
    go : (b : Bool) → (if b then product_claim w x else evaluated w words.Within x) ≡ Ok c → IsSaid w (roles.Relation relations.Within) x c
    go true k = then_ok (product_of w x) (as_within (span_of x)) c k (λ o e i. product_said w x c o e i)
    go false k = evaluated_said w (roles.Relation relations.Within) x c k

is_said : (w : World) (r : Role) (x : Tree) (c : Claim) → claim_of w (set_word r) x ≡ Ok c → IsSaid w r x c
is_said w (roles.Relation relations.Within) x c h = within_said w x c h
is_said w (roles.Phrase begins.Dimen) x c h = evaluated_said w (roles.Phrase begins.Dimen) x c h
is_said w roles.Becomes x c h = evaluated_said w roles.Becomes x c h
is_said w r x c h = evaluated_said w r x c h

gives : (w : World) (r : Role) (x : Tree) (c : Claim) → IsSaid w r x c → Gives (is_becomes r) c
gives w r x c (by_value v e k) = gives_evaluated r (span_of x) v c k
gives w r x c (by_product a f e k) = subst (λ (z : Role). Gives (is_becomes z) c) (sym f) (subst (Gives false) k (λ later. refl))

gives_in : (w : World) (d : Option ℕ) (r : Role) (b : Body) (c : Claim) → IsClaimedIn w d r b c → Gives (is_becomes r) c
gives_in w d r (valued x) c h = gives w r x c (is_said w r x c h.claim)
gives_in w d r plain c h = absurd h
gives_in w d r (priced n x) c h = absurd h

body_value : (w : World) (d : Option ℕ) (r : Role) (b : Body) (c : Claim) → IsClaimedIn w d r b c → is_some (expression_of b) ≡ true
body_value w d r (valued x) c h = refl
body_value w d r plain c h = absurd h
body_value w d r (priced n x) c h = absurd h

-- a set has an expression after `:=` if and only if the code finds a set there
pub assigned_alike : (w : World) (d : Option ℕ) (ps : List Phrase) (qs : List SetPhrase) → AreClaimed w d ps qs → is_some (phrase_value is_becomes ps) ≡ is_some (assigned qs)
assigned_alike w d [] [] h = refl
assigned_alike w d [] (q ∷ qs) h = absurd h
assigned_alike w d (p ∷ ps) [] h = absurd h
assigned_alike w d (p ∷ ps) (q ∷ qs) h = go (is_becomes (role_of p.word)) (gives_in w d (role_of p.word) p.body q.claim h.0) (body_value w d (role_of p.word) p.body q.claim h.0) (assigned_alike w d ps qs h.1)
  where
    go : (b : Bool) → Gives b q.claim → is_some (expression_of p.body) ≡ true → is_some (phrase_value is_becomes ps) ≡ is_some (assigned qs)
        → is_some (if b then expression_of p.body else phrase_value is_becomes ps) ≡ is_some (becomes q.claim (assigned qs))
    go true (us, g) e more = e ∙ sym (ap is_some (g (assigned qs)))
    go false g e more = more ∙ sym (ap is_some (g (assigned qs)))

-- the set of a phrase with `:=` is ts
abbrev pub IsOwn : List Tuple → SetPhrase → Type 0
IsOwn ts q = (us : List Tuple) → becomes q.claim None ≡ Some us → us ≡ ts

none_own : (w : World) (d : Option ℕ) (ts : List Tuple) (ps : List Phrase) (qs : List SetPhrase) → AreClaimed w d ps qs → count is_becomes ps ≡ 0 → AllByRecursion (IsOwn ts) qs
none_own w d ts [] [] h n = tt
none_own w d ts [] (q ∷ qs) h n = absurd h
none_own w d ts (p ∷ ps) [] h n = absurd h
none_own w d ts (p ∷ ps) (q ∷ qs) h n = go (is_becomes (role_of p.word)) (gives_in w d (role_of p.word) p.body q.claim h.0) n (none_own w d ts ps qs h.1)
  where
    go : (b : Bool) → Gives b q.claim → (if b then suc (count is_becomes ps) else count is_becomes ps) ≡ 0 → (count is_becomes ps ≡ 0 → AllByRecursion (IsOwn ts) qs) → AllByRecursion (IsOwn ts) (q ∷ qs)
    go true g e more = absurd (omega (arith, e))
    go false g e more = (λ us k. no_set us ts (sym (g None) ∙ k), more e)

pub all_own : (w : World) (d : Option ℕ) (ts : List Tuple) (ps : List Phrase) (qs : List SetPhrase) → AreClaimed w d ps qs → count is_becomes ps ≤ 1 → ((us : List Tuple) → assigned qs ≡ Some us → us ≡ ts) → AllByRecursion (IsOwn ts) qs
all_own w d ts [] [] h n own = tt
all_own w d ts [] (q ∷ qs) h n own = absurd h
all_own w d ts (p ∷ ps) [] h n own = absurd h
all_own w d ts (p ∷ ps) (q ∷ qs) h n own = go (is_becomes (role_of p.word)) (gives_in w d (role_of p.word) p.body q.claim h.0) n own (none_own w d ts ps qs h.1) (all_own w d ts ps qs h.1)
  where
    go : (b : Bool) → Gives b q.claim → (if b then suc (count is_becomes ps) else count is_becomes ps) ≤ 1 → ((us : List Tuple) → becomes q.claim (assigned qs) ≡ Some us → us ≡ ts)
        → (count is_becomes ps ≡ 0 → AllByRecursion (IsOwn ts) qs) → (count is_becomes ps ≤ 1 → ((us : List Tuple) → assigned qs ≡ Some us → us ≡ ts) → AllByRecursion (IsOwn ts) qs) → AllByRecursion (IsOwn ts) (q ∷ qs)
    go true (vs, g) e k none more = (λ us i. k us (g (assigned qs) ∙ sym (g None) ∙ i), none (omega (arith, e)))
    go false g e k none more = (λ us i. no_set us ts (sym (g None) ∙ i), more e (λ us i. k us (g (assigned qs) ∙ i)))

-- ---- what the phrases require

whole_dimension : (n : ℤ) → is_dimension n ≡ true → n ≡ pos (unsigned_abs n)
whole_dimension (pos n) e = refl
whole_dimension (negsuc n) e = cc

positive_dimension : (n : ℤ) → is_dimension n ≡ true → 1 ≤ unsigned_abs n
positive_dimension (pos n) e = go (int_le (pos 1) (pos n)) (int_le (pos n) (pos 4)) refl e
  where
    go : (b c : Bool) → int_le (pos 1) (pos n) ≡ b → (b && c) ≡ true → 1 ≤ n
    go true c i k = search (arith, ints, i)
    go false c i k = cc
positive_dimension (negsuc n) e = cc

-- the tuples of a superset have the dimension of the set
set_long : (o : Option ℕ) (us : List Tuple) (d : ℕ) → IsSetOf o us → ((n : ℕ) → o ≡ Some n → n ≡ d) → AllByRecursion (λ t. length t ≡ d) us
set_long None us d h k = subst (AllByRecursion (λ (t : Tuple). length t ≡ d)) (sym h) tt
set_long (Some n) us d h k = subst (λ m. AllByRecursion (λ (t : Tuple). length t ≡ m) us) (k n refl) h.1

satisfied : (w : World) → HasSets w → (o : Option ℕ) (d : ℕ) (ts : List Tuple) → ((n : ℕ) → o ≡ Some n → n ≡ d) → (r : Role) (x : Tree) (v : Value) (c : Claim) → value w [] x ≡ Ok v → claimed (set_word r) (span_of x) v ≡ Ok c
    → ((n : ℕ) → dimension_of c ≡ Some n → o ≡ Some n) → is_allowed ts c ≡ true → ((us : List Tuple) → becomes c None ≡ Some us → us ≡ ts) → SatisfiesRole w d ts r x
satisfied w sets o d ts k (roles.Phrase begins.Dimen) x (One (Number n)) c e f a i own = go (is_dimension n) refl f
  where
    go : (b : Bool) → is_dimension n ≡ b → (if b then (let u : Outcome Claim = Ok (claims.Dimension (unsigned_abs n)) in u) else rejected Arity (span_of x)) ≡ Ok c → IsValue (env_of w []) x (meant.number (pos d)) × (1 ≤ d)
    go true s g =
        let claim = is_ok (claims.Dimension (unsigned_abs n)) c g in
        let size : unsigned_abs n ≡ d = k (unsigned_abs n) (a (unsigned_abs n) (ap dimension_of (sym claim))) in
        (subst (λ z. IsValue (env_of w []) x (meant.number z)) (whole_dimension n s ∙ ap pos size) (evaluation_is_sound w [] x (One (Number n)) sets e), subst (λ z. 1 ≤ z) size (positive_dimension n s))
    go false s g = cc
satisfied w sets o d ts k (roles.Phrase begins.Dimen) x (One (Text t)) c e f a i own = cc
satisfied w sets o d ts k (roles.Phrase begins.Dimen) x (Several t) c e f a i own = cc
satisfied w sets o d ts k (roles.Phrase begins.Dimen) x (Many m us) c e f a i own = cc
satisfied w sets o d ts k (roles.Phrase begins.Dimen) x (Truth b) c e f a i own = cc
satisfied w sets o d ts k (roles.Relation relations.Within) x (Many m us) c e f a i own =
    (us, evaluation_is_sound w [] x (Many m us) sets e, set_long m us d (keeps_sets w sets [] x m us e) (λ n s. k n (a n (ap dimension_of (sym (is_ok (claims.Within m us) c f)) ∙ s))), subst (λ z. is_allowed ts z ≡ true) (sym (is_ok (claims.Within m us) c f)) i)
satisfied w sets o d ts k (roles.Relation relations.Within) x (One m) c e f a i own = cc
satisfied w sets o d ts k (roles.Relation relations.Within) x (Several t) c e f a i own = cc
satisfied w sets o d ts k (roles.Relation relations.Within) x (Truth b) c e f a i own = cc
satisfied w sets o d ts k roles.Becomes x (Many m us) c e f a i own =
    subst (λ z. IsValue (env_of w []) x (meant.Many z)) (own us (ap (λ z. becomes z None) (sym (is_ok (claims.Becomes m us) c f)))) (evaluation_is_sound w [] x (Many m us) sets e)
satisfied w sets o d ts k roles.Becomes x (One m) c e f a i own = cc
satisfied w sets o d ts k roles.Becomes x (Several t) c e f a i own = cc
satisfied w sets o d ts k roles.Becomes x (Truth b) c e f a i own = cc
satisfied w sets o d ts k _ x v c e f a i own = tt

-- the same of what a phrase says
satisfied_by : (w : World) → HasSets w → (o : Option ℕ) (d : ℕ) (ts : List Tuple) → ((n : ℕ) → o ≡ Some n → n ≡ d) → (r : Role) (x : Tree) (c : Claim) → IsSaid w r x c
    → ((n : ℕ) → dimension_of c ≡ Some n → o ≡ Some n) → is_allowed ts c ≡ true → ((us : List Tuple) → becomes c None ≡ Some us → us ≡ ts) → SatisfiesRole w d ts r x
satisfied_by w sets o d ts k r x c (by_value v e f) a i own = satisfied w sets o d ts k r x v c e f a i own
satisfied_by w sets o d ts k r x c (by_product p f e g) a i own = subst (λ (z : Role). SatisfiesRole w d ts z x) (sym f) (
  p.tuples,
  gives_ok (Means (env_of w []) x) (product_of w x) (Some p) (products_are_meant w sets x) e,
  set_long p.dimension p.tuples d (gives_ok IsSet (product_of w x) (Some p) (products_are_sets w (keeps_sets w sets) x) e) (λ n s. k n (a n (ap dimension_of (sym g) ∙ s))),
  subst (λ z. is_allowed ts z ≡ true) (sym g) i,
)

satisfied_in : (w : World) → HasSets w → (o : Option ℕ) (d : ℕ) (ts : List Tuple) → ((n : ℕ) → o ≡ Some n → n ≡ d) → (p : Phrase) (q : SetPhrase) → IsClaimedIn w o (role_of p.word) p.body q.claim → is_allowed ts q.claim ≡ true → IsOwn ts q → Satisfies (meant_world w) d ts (erased.phrase p)
satisfied_in w sets o d ts k p q h i own = λ x e. go x p.body e h
  where
    go : (x : Expression) (b : Body) → world.expression_of (erased.body b) ≡ Some x → IsClaimedIn w o (role_of p.word) b q.claim → world.SatisfiesRole (meant_world w) d ts (role_of p.word) x
    go x plain e h = absurd h
    go x (priced n y) e h = absurd h
    go x (valued y) e h = subst (world.SatisfiesRole (meant_world w) d ts (role_of p.word)) (same (expression y) x e) (satisfied_by w sets o d ts k (role_of p.word) y q.claim (is_said w (role_of p.word) y q.claim h.claim) h.agrees i own)
      where
        same : (y x : Expression) → Some y ≡ Some x → y ≡ x
        same y x e = cc

pub all_satisfied : (w : World) → HasSets w → (o : Option ℕ) (d : ℕ) (ts : List Tuple) → ((n : ℕ) → o ≡ Some n → n ≡ d) → (ps : List Phrase) (qs : List SetPhrase) → AreClaimed w o ps qs → AllByRecursion (λ (q : SetPhrase). is_allowed ts q.claim ≡ true) qs
    → AllByRecursion (IsOwn ts) qs → AllByRecursion (Satisfies (meant_world w) d ts) (map erased.phrase ps)
all_satisfied w sets o d ts k [] [] h i own = tt
all_satisfied w sets o d ts k [] (q ∷ qs) h i own = absurd h
all_satisfied w sets o d ts k (p ∷ ps) [] h i own = absurd h
all_satisfied w sets o d ts k (p ∷ ps) (q ∷ qs) h i own = (satisfied_in w sets o d ts k p q h.0 i.0 own.0, all_satisfied w sets o d ts k ps qs h.1 i.1 own.1)
