-- The members and tuples of a set, as a walk over spots and as the grammar has them.
use Rattle.std.proofs.Common.{◌≡◌, Bool, true, false, cond, ◌&&◌, ◌||◌, List, [], ◌∷◌, ◌++◌, Option, Some, None, Ok, Err, refl, ap, sym, ◌∙◌, codes, ◌⊎◌, inl, inr, subst}
use Rattle.std.proofs.lemmas.Bool.{or_cases}
use Rattle.net_lex.specs.declared.token.Token.{Token}
use Rattle.net_data.specs.declared.members.Spot.{Spot}
use Rattle.net_data.specs.declared.members.Spot.TheVariants.{Outside, Opened, First, Parted, Later}
use Rattle.net_data.specs.Tests.{is_member, is_mark, is_comma}
use Rattle.net_data.specs.Commas.{TokenPlace, in_set, in_tuple, place_after, skips, bare}
use Rattle.net_data.specs.Spots.{spot_after, rests}
use Rattle.net_data.specs.declared.data_parser.ParseError.{ParseError}
use Rattle.net_base.specs.declared.error_code.ErrorCode.TheVariants.{DataSyntax}
use Rattle.std.specs.Prelude.{if◌then◌else◌}
use Rattle.net_data.specs.Reading.{stop, Read, items_from, items, items_of, with_token, items_after, semicolon, ◌>>=◌}
use Rattle.net_data.specs.Meaning.{AreItems, IsTupleRest}
use Rattle.net_data.proofs.Apart.{member-mark, mark-mark, mark-member}

abbrev pub place_of : Spot → TokenPlace
place_of Outside = in_set
place_of Opened = in_tuple
place_of First = in_tuple
place_of Parted = in_tuple
place_of Later = in_tuple

-- from a spot on the tokens lead out of all tuples
abbrev pub Walk : Spot → List Token → Type 0
Walk Outside [] = Unit {0}
Walk Opened [] = ⊥
Walk First [] = ⊥
Walk Parted [] = ⊥
Walk Later [] = ⊥
Walk spot (token ∷ tokens) = (next : Spot) × (spot_after spot token ≡ Some next) × ((skips (place_of spot) && is_comma token) ≡ false) × Walk next tokens

-- what spots allow is what the grammar has
abbrev pub Allows : Spot → List Token → Type 0
Allows Outside tokens = AreItems tokens
Allows Opened tokens = (first : Token) × (us : List Token) × (rest : List Token) × (tokens ≡ first ∷ us) × (is_member first ≡ true) × IsTupleRest us rest × AreItems rest
Allows First tokens = (rest : List Token) × IsTupleRest tokens rest × AreItems rest
Allows Parted tokens = (member : Token) × (us : List Token) × (tokens ≡ member ∷ us) × (is_member member ≡ true)
    × (((closing : Token) × (rest : List Token) × (us ≡ closing ∷ rest) × (is_mark (codes ")") closing ≡ true) × AreItems rest) ⊎ ((rest : List Token) × IsTupleRest us rest × AreItems rest))
Allows Later tokens = ((closing : Token) × (rest : List Token) × (tokens ≡ closing ∷ rest) × (is_mark (codes ")") closing ≡ true) × AreItems rest) ⊎ ((rest : List Token) × IsTupleRest tokens rest × AreItems rest)

chose : {A : Type 0} (b : Bool) (x y : A) → (let o : Option A = cond b (Some x) None in o ≡ Some y) → (b ≡ true) × (x ≡ y)
chose true x y h = (refl, cc)
chose false x y h = absurd (cc)

chose_two : {A : Type 0} (b c : Bool) (x y z : A) → (let o : Option A = cond b (Some x) (cond c (Some y) None) in o ≡ Some z) → ((b ≡ true) × (x ≡ z)) ⊎ ((b ≡ false) × (c ≡ true) × (y ≡ z))
chose_two true c x y z h = inl (refl, cc)
chose_two false true x y z h = inr (refl, refl, cc)
chose_two false false x y z h = absurd (cc)

member_or_comma : (token : Token) → (is_member token || is_comma token) ≡ true → is_comma token ≡ false → is_member token ≡ true
member_or_comma token h keep = elim (or_cases (is_member token) (is_comma token) h) [ inl m ↦ m | inr c ↦ absurd (cc) ]

-- behind a comma of a tuple
after_comma : (comma : Token) (tokens : List Token) → is_comma comma ≡ true → Allows Parted tokens → (rest : List Token) × IsTupleRest (comma ∷ tokens) rest × AreItems rest
after_comma comma tokens h (member, us, same, m, inl x) =
    (x.1, rw (same, x.2) (IsTupleRest.last h m x.3), x.4)
after_comma comma tokens h (member, us, same, m, inr x) = (x.0, rw same (IsTupleRest.more h m x.1), x.2)

walked_at : (spot next : Spot) (token : Token) (tokens : List Token) → spot_after spot token ≡ Some next → (skips (place_of spot) && is_comma token) ≡ false → Allows next tokens → Allows spot (token ∷ tokens)
walked_at Outside next token tokens e keep a =
    elim (chose_two (is_member token || is_comma token) (is_mark (codes "(") token) Outside Opened next e) [
      | inl x ↦ let here : AreItems tokens = rw (sym x.1) at a in AreItems.member (member_or_comma token x.0 keep) here
      | inr x ↦ let here : Allows Opened tokens = rw (sym x.2) at a in rw here.3 (AreItems.tuple x.1 here.4 here.5 here.6)
    ]
walked_at Opened next token tokens e keep a =
    let x = chose (is_member token) First next e in
    let here : Allows First tokens = rw (sym x.1) at a in (token, tokens, here.0, refl, x.0, here.1, here.2)
walked_at First next token tokens e keep a =
    let x = chose (is_comma token) Parted next e in
    let here : Allows Parted tokens = rw (sym x.1) at a in after_comma token tokens x.0 here
walked_at Parted next token tokens e keep a =
    let x = chose (is_member token) Later next e in
    let here : Allows Later tokens = rw (sym x.1) at a in (token, tokens, refl, x.0, here)
walked_at Later next token tokens e keep a =
    elim (chose_two (is_comma token) (is_mark (codes ")") token) Parted Outside next e) [
      | inl x ↦ let here : Allows Parted tokens = rw (sym x.1) at a in inr (after_comma token tokens x.0 here)
      | inr x ↦ let here : AreItems tokens = rw (sym x.2) at a in inl (token, tokens, refl, x.1, here)
    ]

pub walked : (spot : Spot) (tokens : List Token) → Walk spot tokens → Allows spot tokens
walked Outside [] w = AreItems.nothing
walked Opened [] w = absurd w
walked First [] w = absurd w
walked Parted [] w = absurd w
walked Later [] w = absurd w
walked Outside (token ∷ tokens) w = walked_at Outside w.0 token tokens w.1 w.2 (walked w.0 tokens w.3)
walked Opened (token ∷ tokens) w = walked_at Opened w.0 token tokens w.1 w.2 (walked w.0 tokens w.3)
walked First (token ∷ tokens) w = walked_at First w.0 token tokens w.1 w.2 (walked w.0 tokens w.3)
walked Parted (token ∷ tokens) w = walked_at Parted w.0 token tokens w.1 w.2 (walked w.0 tokens w.3)
walked Later (token ∷ tokens) w = walked_at Later w.0 token tokens w.1 w.2 (walked w.0 tokens w.3)

-- where the first comma of a tuple may stand, a later one may
first_later : (tokens : List Token) → Walk First tokens → Walk Later tokens
first_later [] w = w
first_later (token ∷ tokens) w = let x = chose (is_comma token) Parted w.0 w.1 in (w.0, rw x.0 (rw x.1 refl), refl, w.3)

rest_walks : {tokens rest : List Token} → IsTupleRest tokens rest → Walk Outside rest → Walk First tokens
rest_walks (IsTupleRest.last {comma} {member} {closing} {rest} c m k) w =
    let keep : is_comma closing ≡ false = mark-mark (codes ")") (codes ",") closing refl k in
    (Parted, rw c refl, refl, (Later, rw m refl, refl, (Outside, rw (keep, k) refl, refl, w)))
rest_walks (IsTupleRest.more {comma} {member} {tokens} {rest} c m r) w =
    (Parted, rw c refl, refl, (Later, rw m refl, refl, first_later tokens (rest_walks r w)))

walks : {tokens : List Token} → AreItems tokens → Walk Outside tokens
walks AreItems.nothing = tt
walks (AreItems.member {member} {rest} m a) =
    let keep : is_comma member ≡ false = member-mark (codes ",") member m in (Outside, rw m refl, keep, walks a)
walks (AreItems.tuple {opening} {first} {tokens} {rest} o m r a) =
    let none = mark-member (codes "(") opening o in
    let keep : is_comma opening ≡ false = mark-mark (codes "(") (codes ",") opening refl o in
    (Opened, rw (none, keep, o) refl, keep, (First, rw m refl, refl, rest_walks r (walks a)))

-- the place behind a token is that of the spot behind it
pub place_next : (spot next : Spot) (token : Token) → spot_after spot token ≡ Some next → (skips (place_of spot) && is_comma token) ≡ false → place_after (place_of spot) token ≡ place_of next
place_next Outside next token e keep =
    elim (chose_two (is_member token || is_comma token) (is_mark (codes "(") token) Outside Opened next e) [
      | inl x ↦
          let m = member_or_comma token x.0 keep in
          let end = member-mark (codes ";") token m in let open_mark = member-mark (codes "(") token m in rw (end, open_mark) (ap place_of x.1)
      | inr x ↦ let end = mark-mark (codes "(") (codes ";") token refl x.1 in rw (end, x.1) (ap place_of x.2)
    ]
place_next Opened next token e keep =
    let x = chose (is_member token) First next e in let close = member-mark (codes ")") token x.0 in rw close (ap place_of x.1)
place_next First next token e keep =
    let x = chose (is_comma token) Parted next e in let close = mark-mark (codes ",") (codes ")") token refl x.0 in rw close (ap place_of x.1)
place_next Parted next token e keep =
    let x = chose (is_member token) Later next e in let close = member-mark (codes ")") token x.0 in rw close (ap place_of x.1)
place_next Later next token e keep =
    elim (chose_two (is_comma token) (is_mark (codes ")") token) Parted Outside next e) [
      | inl x ↦ let close = mark-mark (codes ",") (codes ")") token refl x.0 in rw close (ap place_of x.1)
      | inr x ↦ rw x.1 (ap place_of x.2)
    ]

-- a comma that is skipped leaves the spot as it is
pub skip_stays : (spot : Spot) (token : Token) → (skips (place_of spot) && is_comma token) ≡ true → (spot ≡ Outside) × (spot_after spot token ≡ Some spot)
skip_stays Outside token h =
    let P : Bool → Type 0 = λ b. (let o : Option Spot = cond (b || is_comma token) (Some Outside) (cond (is_mark (codes "(") token) (Some Opened) None) in o ≡ Some Outside) in
    let by : (b : Bool) → P b = λ b. elim b as P [ true ↦ refl | false ↦ rw h refl ] in
    (refl, by (is_member token))
skip_stays Opened token h = absurd (cc)
skip_stays First token h = absurd (cc)
skip_stays Parted token h = absurd (cc)
skip_stays Later token h = absurd (cc)

pub bare-keep : (place : TokenPlace) (token : Token) (tokens : List Token) → (skips place && is_comma token) ≡ false → bare place (token ∷ tokens) ≡ token ∷ bare (place_after place token) tokens
bare-keep place token tokens h = rw h

pub bare-skip : (place : TokenPlace) (token : Token) (tokens : List Token) → (skips place && is_comma token) ≡ true → bare place (token ∷ tokens) ≡ bare place tokens
bare-skip place token tokens h = rw h

pub walk_cons : (spot next : Spot) (token : Token) (tokens : List Token) → spot_after spot token ≡ Some next → (skips (place_of spot) && is_comma token) ≡ false → Walk next tokens → Walk spot (token ∷ tokens)
walk_cons Outside next token tokens e keep w = (next, e, keep, w)
walk_cons Opened next token tokens e keep w = (next, e, keep, w)
walk_cons First next token tokens e keep w = (next, e, keep, w)
walk_cons Parted next token tokens e keep w = (next, e, keep, w)
walk_cons Later next token tokens e keep w = (next, e, keep, w)

-- what is read from a spot on, and what is left
pub record Leads (spot : Spot) (tokens : List Token) (x : List Token × List Token) : Type 0 where
  pub walk : Walk spot (bare (place_of spot) x.0)
  pub printed : bare (place_of spot) tokens ≡ bare (place_of spot) x.0 ++ bare in_set x.1

leads_keep : (spot next : Spot) (token : Token) (tokens : List Token) (x : List Token × List Token) → spot_after spot token ≡ Some next → (skips (place_of spot) && is_comma token) ≡ false → Leads next tokens x
    → Leads spot (token ∷ tokens) (token ∷ x.0, x.1)
leads_keep spot next token tokens x e keep leads =
    let place = place_next spot next token e keep in
    let one : (ts : List Token) → bare (place_of spot) (token ∷ ts) ≡ token ∷ bare (place_of next) ts = λ ts. bare-keep (place_of spot) token ts keep ∙ ap (λ p. token ∷ bare p ts) place in
    record {
      walk = rw (one x.0) (walk_cons spot next token (bare (place_of next) x.0) e keep leads.walk);
      printed = rw (one x.0, one tokens) (ap (λ ts. token ∷ ts) leads.printed);
    }

leads_skip : (spot : Spot) (token : Token) (tokens : List Token) (x : List Token × List Token) → (skips (place_of spot) && is_comma token) ≡ true → Leads spot tokens x → Leads spot (token ∷ tokens) (token ∷ x.0, x.1)
leads_skip spot token tokens x skip leads = record {
  walk = rw (bare-skip (place_of spot) token x.0 skip) leads.walk;
  printed = rw (bare-skip (place_of spot) token x.0 skip, bare-skip (place_of spot) token tokens skip) leads.printed;
}

-- what was read begins with the token
pub with_inv : (token : Token) (read : Read (List Token)) (x : List Token × List Token) → with_token token read ≡ Ok x → (y : List Token × List Token) × (read ≡ Ok y) × (x ≡ (token ∷ y.0, y.1))
with_inv token (Ok y) x h = let same : (token ∷ y.0, y.1) ≡ x = cc in (y, refl, sym same)
with_inv token (Err e) x h = absurd (cc)

pub items-some : (spot next : Spot) (token : Token) (tokens : List Token) → spot_after spot token ≡ Some next → items_from spot (token ∷ tokens) ≡ with_token token (items_from next tokens)
unfolding items_from
items-some spot next token tokens h = rw h

pub items-none : (spot : Spot) (token : Token) (tokens : List Token) → spot_after spot token ≡ None → items_from spot (token ∷ tokens) ≡ items_after token tokens None spot (items_from spot tokens)
unfolding items_from
items-none spot token tokens h = rw h

pub items-nil : (spot : Spot) → items_from spot [] ≡ (if rests spot then Ok ([], []) else Err (stop DataSyntax None))
unfolding items_from
items-nil spot = refl

leads_nothing : (spot : Spot) (tokens : List Token) → rests spot ≡ true → Leads spot tokens ([], tokens)
leads_nothing Outside tokens h = record { walk = tt; printed = refl }
leads_nothing Opened tokens h = absurd (cc)
leads_nothing First tokens h = absurd (cc)
leads_nothing Parted tokens h = absurd (cc)
leads_nothing Later tokens h = absurd (cc)

stops_at : (spot : Spot) (tokens : List Token) (e : ParseError) (x : List Token × List Token) → (if rests spot then Ok ([], tokens) else Err e) ≡ Ok x → Leads spot tokens x
stops_at spot tokens e x h =
    let P : Bool → Type 0 = λ b. rests spot ≡ b → (let r : Read (List Token) = if b then Ok ([], tokens) else Err e in r ≡ Ok x) → Leads spot tokens x in
    let by : (b : Bool) → P b = λ b. elim b as P [ true ↦ λ is k. let same : ([], tokens) ≡ x = cc in rw (sym same) (leads_nothing spot tokens is) | false ↦ λ is k. absurd (cc) ] in
    by (rests spot) refl h

leads_on : (spot : Spot) (token : Token) (tokens : List Token) (x : List Token × List Token) (o : Option Spot) (skip : Bool) → spot_after spot token ≡ o → (skips (place_of spot) && is_comma token) ≡ skip
    → items_from spot (token ∷ tokens) ≡ Ok x → ((next : Spot) (y : List Token × List Token) → items_from next tokens ≡ Ok y → Leads next tokens y) → Leads spot (token ∷ tokens) x
leads_on spot token tokens x None skip is skipped h behind = stops_at spot (token ∷ tokens) _ x (sym (items-none spot token tokens is) ∙ h)
leads_on spot token tokens x (Some next) true is skipped h behind =
    let y = with_inv token (items_from next tokens) x (sym (items-some spot next token tokens is) ∙ h) in
    let stays : next ≡ spot = let both = skip_stays spot token skipped in cc in
    let P : Spot → Type 0 = λ s. Leads s tokens y.0 in
    rw y.2 (leads_skip spot token tokens y.0 skipped (subst P stays (behind next y.0 y.1)))
leads_on spot token tokens x (Some next) false is skipped h behind =
    let y = with_inv token (items_from next tokens) x (sym (items-some spot next token tokens is) ∙ h) in
    rw y.2 (leads_keep spot next token tokens y.0 is skipped (behind next y.0 y.1))

pub leads : (spot : Spot) (tokens : List Token) (x : List Token × List Token) → items_from spot tokens ≡ Ok x → Leads spot tokens x
leads spot [] x h = stops_at spot [] _ x (sym (items-nil spot) ∙ h)
leads spot (token ∷ tokens) x h = leads_on spot token tokens x (spot_after spot token) (skips (place_of spot) && is_comma token) refl refl h (λ next y k. leads next tokens y k)

-- what a walk is read as
pub record Walked (spot : Spot) (tokens walk more : List Token) (stop : Token) : Type 0 where
  pub taken : List Token
  pub rest : List Token
  pub read : items_from spot tokens ≡ Ok (taken, rest)
  pub bare_taken : bare (place_of spot) taken ≡ walk
  pub left : bare in_set rest ≡ stop ∷ more

heads : (x y : Token) (xs ys : List Token) → x ∷ xs ≡ y ∷ ys → (x ≡ y) × (xs ≡ ys)
heads x y xs ys h = (cc, cc)

end_no_item : (token : Token) → semicolon token ≡ true → spot_after Outside token ≡ None
end_no_item token h =
    let a = mark-member (codes ";") token h in let b = mark-mark (codes ";") (codes ",") token refl h in let c = mark-mark (codes ";") (codes "(") token refl h in
    rw (a, b, c) refl

walked_skip : (spot : Spot) (token : Token) (tokens walk more : List Token) (stop : Token) → (skips (place_of spot) && is_comma token) ≡ true → Walked spot tokens walk more stop → Walked spot (token ∷ tokens) walk more stop
walked_skip spot token tokens walk more stop skip w = record {
  taken = token ∷ w.taken;
  rest = w.rest;
  read = items-some spot spot token tokens (skip_stays spot token skip).1 ∙ ap (with_token token) w.read;
  bare_taken = bare-skip (place_of spot) token w.taken skip ∙ w.bare_taken;
  left = w.left;
}

walked_keep : (spot next : Spot) (token : Token) (tokens walk more : List Token) (stop : Token) → spot_after spot token ≡ Some next → (skips (place_of spot) && is_comma token) ≡ false → Walked next tokens walk more stop
    → Walked spot (token ∷ tokens) (token ∷ walk) more stop
walked_keep spot next token tokens walk more stop e keep w = record {
  taken = token ∷ w.taken;
  rest = w.rest;
  read = items-some spot next token tokens e ∙ ap (with_token token) w.read;
  bare_taken = bare-keep (place_of spot) token w.taken keep ∙ ap (λ p. token ∷ bare p w.taken) (place_next spot next token e keep) ∙ ap (λ ts. token ∷ ts) w.bare_taken;
  left = w.left;
}

walked_stop : (token : Token) (tokens more : List Token) (stop : Token) → semicolon stop ≡ true → token ≡ stop → bare in_set (token ∷ tokens) ≡ stop ∷ more → Walked Outside (token ∷ tokens) [] more stop
walked_stop token tokens more stop end same h =
    let none = end_no_item token (rw same end) in
    record { taken = []; rest = token ∷ tokens; read = items-none Outside token tokens none; bare_taken = refl; left = h }

walked_cons : (spot : Spot) (token x : Token) (tokens walk more : List Token) (stop : Token) → (skips (place_of spot) && is_comma token) ≡ false
    → (w : (next : Spot) × (spot_after spot x ≡ Some next) × ((skips (place_of spot) && is_comma x) ≡ false) × Walk next walk) → bare (place_of spot) (token ∷ tokens) ≡ x ∷ (walk ++ stop ∷ more)
    → ((next : Spot) (walk : List Token) → Walk next walk → bare (place_of next) tokens ≡ walk ++ stop ∷ more → Walked next tokens walk more stop) → Walked spot (token ∷ tokens) (x ∷ walk) more stop
walked_cons spot token x tokens walk more stop keep w h behind =
    let both = heads _ _ _ _ (sym (bare-keep (place_of spot) token tokens keep) ∙ h) in
    let e : spot_after spot token ≡ Some w.0 = rw both.0 w.1 in
    let left : bare (place_of w.0) tokens ≡ walk ++ stop ∷ more = ap (λ p. bare p tokens) (sym (place_next spot w.0 token e keep)) ∙ both.1 in
    let P : Token → Type 0 = λ t. Walked spot (token ∷ tokens) (t ∷ walk) more stop in
    subst P both.0 (walked_keep spot w.0 token tokens walk more stop e keep (behind w.0 walk w.3 left))

walked_on : (spot : Spot) (token : Token) (tokens walk more : List Token) (stop : Token) (skip : Bool) → (skips (place_of spot) && is_comma token) ≡ skip → semicolon stop ≡ true → Walk spot walk
    → bare (place_of spot) (token ∷ tokens) ≡ walk ++ stop ∷ more
    → ((next : Spot) (walk : List Token) → Walk next walk → bare (place_of next) tokens ≡ walk ++ stop ∷ more → Walked next tokens walk more stop) → Walked spot (token ∷ tokens) walk more stop
walked_on spot token tokens walk more stop true is end w h behind = walked_skip spot token tokens walk more stop is (behind spot walk w (sym (bare-skip (place_of spot) token tokens is) ∙ h))
walked_on Outside token tokens [] more stop false is end w h behind = walked_stop token tokens more stop end (heads _ _ _ _ (sym (bare-keep in_set token tokens is) ∙ h)).0 h
walked_on Opened token tokens [] more stop false is end w h behind = absurd w
walked_on First token tokens [] more stop false is end w h behind = absurd w
walked_on Parted token tokens [] more stop false is end w h behind = absurd w
walked_on Later token tokens [] more stop false is end w h behind = absurd w
walked_on Outside token tokens (x ∷ walk) more stop false is end w h behind = walked_cons Outside token x tokens walk more stop is w h behind
walked_on Opened token tokens (x ∷ walk) more stop false is end w h behind = walked_cons Opened token x tokens walk more stop is w h behind
walked_on First token tokens (x ∷ walk) more stop false is end w h behind = walked_cons First token x tokens walk more stop is w h behind
walked_on Parted token tokens (x ∷ walk) more stop false is end w h behind = walked_cons Parted token x tokens walk more stop is w h behind
walked_on Later token tokens (x ∷ walk) more stop false is end w h behind = walked_cons Later token x tokens walk more stop is w h behind

walk_read : (tokens more : List Token) (stop : Token) → semicolon stop ≡ true → (spot : Spot) (walk : List Token) → Walk spot walk → bare (place_of spot) tokens ≡ walk ++ stop ∷ more → Walked spot tokens walk more stop
walk_read [] more stop end spot [] w h = absurd (cc)
walk_read [] more stop end spot (x ∷ walk) w h = absurd (cc)
walk_read (token ∷ tokens) more stop end spot walk w h =
    walked_on spot token tokens walk more stop (skips (place_of spot) && is_comma token) refl end w h (λ next ws k p. walk_read tokens more stop end next ws k p)

-- the members and tuples of a set that are read
pub record Took (tokens : List Token) (x : List Token × List Token) : Type 0 where
  pub printed : bare in_set tokens ≡ x.0 ++ bare in_set x.1
  pub are : AreItems x.0

took_of : (tokens : List Token) (read : Read (List Token)) (x : List Token × List Token) → items_from Outside tokens ≡ read → (read >>= (λ y. Ok (items_of y))) ≡ Ok x → Took tokens x
took_of tokens (Ok y) x is h =
    let l = leads Outside tokens y is in
    let same : items_of y ≡ x = cc in
    let P : List Token × List Token → Type 0 = λ z. Took tokens z in
    subst P same (record { printed = l.printed; are = walked Outside (bare in_set y.0) l.walk })
took_of tokens (Err e) x is h = absurd (cc)

pub took_items : (tokens : List Token) (x : List Token × List Token) → items tokens ≡ Ok x → Took tokens x
unfolding items
took_items tokens x h = took_of tokens (items_from Outside tokens) x refl h

pub record Takes (tokens xs more : List Token) (stop : Token) : Type 0 where
  pub rest : List Token
  pub read : items tokens ≡ Ok (xs, rest)
  pub left : bare in_set rest ≡ stop ∷ more

pub takes_items : (tokens xs more : List Token) (stop : Token) → AreItems xs → semicolon stop ≡ true → bare in_set tokens ≡ xs ++ stop ∷ more → Takes tokens xs more stop
unfolding items
takes_items tokens xs more stop are end h =
    let w = walk_read tokens more stop end Outside xs (walks are) h in
    record { rest = w.rest; read = rw (w.read) (ap (λ ts. let r : Read (List Token) = Ok (ts, w.rest) in r) w.bare_taken); left = w.left }
