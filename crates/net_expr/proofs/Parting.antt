-- Two different tuples of an item's set lead to different keys.
use Rattle.std.specs.Prelude.{◌≡◌, ◌+◌, ◌&&◌, Bool, true, false, [], ◌∷◌, ◌++◌, length, nat_le, Option, None, Some, if◌then◌else◌, Ok, Err}
use Rattle.std.proofs.Common.{refl, ap, sym, ◌∙◌, subst, arith, append_assoc, append-nil}
use Rattle.net_base.specs.declared.diagnostic.Span.{Span}
use Rattle.net_sets.specs.declared.member.Member.{Member}
use Rattle.net_sets.specs.Sets.{Tuple, same_member, same_tuple}
use Rattle.net_sets.proofs.Sames.{member_decides, tuple_decides}
use Rattle.net_tree.specs.Tree.{Links, none, link}
use Rattle.net_expr.specs.declared.row.PartialRow.{PartialRow}
use Rattle.net_expr.specs.declared.value.Value.{Value}
use Rattle.net_expr.specs.declared.value.Value.TheVariants.{One, Several, Many, Truth}
use Rattle.net_sets.specs.Limits.{arity_limit}
use Rattle.net_expr.specs.Items.{new_dummy, size}
use Rattle.net_expr.specs.Operators.{longer}
use Rattle.net_base.specs.Outcomes.{Outcome, and_then}
use Rattle.net_expr.specs.Rows.{bind, matches_member, match_component, if_fits}
use Rattle.net_expr.specs.Values.{value, places}
use Rattle.net_expr.specs.Worlds.{Name, World}

pub then_ok : {A B P : Type 0} (o : Outcome A) (f : A → Outcome B) (r : B) → and_then o f ≡ Ok r → ((y : A) → o ≡ Ok y → f y ≡ Ok r → P) → P
then_ok (Ok y) f r e k = k y refl e
then_ok (Err x) f r e k = cc

pub is_ok : {A : Type 0} (a b : A) → (let o : Outcome A = Ok a in o ≡ Ok b) → a ≡ b
is_ok a b e = cc

-- a key goes on from another
pub record GoesOn (a b : Tuple) : Type 0 where
  pub rest : Tuple
  pub whole : b ≡ a ++ rest

-- where the later key is there, the earlier one is a front of it
abbrev pub OnFrom : Option Tuple → Option Tuple → Type 0
OnFrom o q = (b : Tuple) → q ≡ Some b → (a : Tuple) × (o ≡ Some a) × GoesOn a b

pub on_same : (o : Option Tuple) → OnFrom o o
on_same o = λ b e. (b, e, record { rest = []; whole = sym (append-nil b) })

pub on_join : (o p q : Option Tuple) → OnFrom o p → OnFrom p q → OnFrom o q
on_join o p q h k = λ c e.
    let second = k c e in
    let first = h second.0 second.1 in
    (first.0, first.1, record { rest = first.2.rest ++ second.2.rest; whole = second.2.whole ∙ ap (λ (t : Tuple). t ++ second.2.rest) first.2.whole ∙ append_assoc first.0 first.2.rest second.2.rest })

pub on_longer : (t : Tuple) (o : Option Tuple) → OnFrom o (longer t o)
on_longer t None = λ b e. absurd (let h = e in cc)
on_longer t (Some key) = λ b e. go (nat_le (length key + length t) arity_limit) b e
  where
    go : (c : Bool) (b : Tuple) → (if c then Some (key ++ t) else None) ≡ Some b → (a : Tuple) × (Some key ≡ Some a) × GoesOn a b
    go true b e = (key, refl, record { rest = t; whole = (let same : key ++ t ≡ b = cc in sym same) })
    go false b e = absurd (let h = e in cc)

-- behind a common front, two keys differ at one place
pub record Parted (a b : Tuple) : Type 0 where
  pub front : Tuple
  pub here : Member
  pub there : Member
  pub one : Tuple
  pub other : Tuple
  pub first : a ≡ front ++ here ∷ one
  pub second : b ≡ front ++ there ∷ other
  pub unlike : same_member here there ≡ false

same_seam : (front : Tuple) (m n : Member) (xs ys : Tuple) → front ++ m ∷ xs ≡ front ++ n ∷ ys → m ≡ n
same_seam [] m n xs ys e = cc
same_seam (z ∷ front) m n xs ys e = same_seam front m n xs ys (cc)

pub parted_unlike : (a b : Tuple) → Parted a b → same_tuple a b ≡ false
parted_unlike a b h = go (same_tuple a b) refl
  where
    go : (t : Bool) → same_tuple a b ≡ t → t ≡ false
    go true e =
        let same = same_seam h.front h.here h.there h.one h.other (sym h.first ∙ (tuple_decides a b).0 e ∙ h.second) in
        let alike : same_member h.here h.there ≡ true = (member_decides h.here h.there).1 same in
        let unlike = h.unlike in cc
    go false e = refl

pub parted_on : (a b c d : Tuple) → Parted a b → GoesOn a c → GoesOn b d → Parted c d
parted_on a b c d h k l = record {
  front = h.front;
  here = h.here;
  there = h.there;
  one = h.one ++ k.rest;
  other = h.other ++ l.rest;
  first = k.whole ∙ ap (λ (t : Tuple). t ++ k.rest) h.first ∙ append_assoc h.front (h.here ∷ h.one) k.rest;
  second = l.whole ∙ ap (λ (t : Tuple). t ++ l.rest) h.second ∙ append_assoc h.front (h.there ∷ h.other) l.rest;
  unlike = h.unlike;
}

parted_after : (key a b : Tuple) → Parted a b → Parted (key ++ a) (key ++ b)
parted_after key a b h = record {
  front = key ++ h.front;
  here = h.here;
  there = h.there;
  one = h.one;
  other = h.other;
  first = ap (λ (t : Tuple). key ++ t) h.first ∙ sym (append_assoc key h.front (h.here ∷ h.one));
  second = ap (λ (t : Tuple). key ++ t) h.second ∙ sym (append_assoc key h.front (h.there ∷ h.other));
  unlike = h.unlike;
}

-- different tuples of one length
pub first_difference : (t u : Tuple) → length t ≡ length u → same_tuple t u ≡ false → Parted t u
first_difference [] [] l e = absurd (let h = e in cc)
first_difference [] (n ∷ u) l e = absurd (let h = l in omega arith)
first_difference (m ∷ t) [] l e = absurd (let h = l in omega arith)
first_difference (m ∷ t) (n ∷ u) l e = go (same_member m n) refl e (first_difference t u (omega (arith, l)))
  where
    go : (b : Bool) → same_member m n ≡ b → b && same_tuple t u ≡ false → (same_tuple t u ≡ false → Parted t u) → Parted (m ∷ t) (n ∷ u)
    go true f h more =
        let p = more h in
        record { front = m ∷ p.front; here = p.here; there = p.there; one = p.one; other = p.other; first = ap (◌∷◌ m) p.first; second = ap (λ (z : Member). z ∷ u) (sym ((member_decides m n).0 f)) ∙ ap (◌∷◌ m) p.second; unlike = p.unlike }
    go false f h more = record { front = []; here = m; there = n; one = t; other = u; first = refl; second = refl; unlike = f }

abbrev pub PartedFrom : Option Tuple → Option Tuple → Type 0
PartedFrom o u = (a b : Tuple) → o ≡ Some a → u ≡ Some b → Parted a b

longer_is : (t : Tuple) (o : Option Tuple) (a : Tuple) → longer t o ≡ Some a → (key : Tuple) × (o ≡ Some key) × (a ≡ key ++ t)
longer_is t None a e = absurd (let h = e in cc)
longer_is t (Some key) a e = go (nat_le (length key + length t) arity_limit) e
  where
    go : (c : Bool) → (if c then Some (key ++ t) else None) ≡ Some a → (k : Tuple) × (Some key ≡ Some k) × (a ≡ k ++ t)
    go true h = (key, refl, (let same : key ++ t ≡ a = cc in sym same))
    go false h = absurd (let k = h in cc)

pub longer_parted : (t u : Tuple) (o : Option Tuple) → Parted t u → PartedFrom (longer t o) (longer u o)
longer_parted t u o h = λ a b e f.
    let one = longer_is t o a e in
    let two = longer_is u o b f in
    let same : Some one.0 ≡ Some two.0 = sym one.1 ∙ two.1 in
    let key : one.0 ≡ two.0 = cc in
    subst (λ (c : Tuple). Parted c b) (sym one.2) (subst (λ (d : Tuple). Parted (one.0 ++ t) d) (ap (λ (k : Tuple). k ++ u) key ∙ sym two.2) (parted_after one.0 t u h))

pub single : (m n : Member) → same_member m n ≡ false → Parted (m ∷ []) (n ∷ [])
single m n e = record { front = []; here = m; there = n; one = []; other = []; first = refl; second = refl; unlike = e }

pub on_then : (o u c d : Option Tuple) → PartedFrom o u → OnFrom o c → OnFrom u d → PartedFrom c d
on_then o u c d h k l = λ a b e f.
    let one = k a e in
    let two = l b f in
    parted_on one.0 two.0 a b (h one.0 two.0 one.1 two.1) one.2 two.2

-- ---- one component

agreed : (at : Span) (m : Member) (p q : PartialRow) (v : Value) → matches_member at m p v ≡ Ok (Some q) → (u : Member) × (v ≡ One u) × (same_member u m ≡ true) × (p ≡ q)
agreed at m p q (One u) e = go (same_member u m) refl e
  where
    go : (b : Bool) → same_member u m ≡ b → (let o : Outcome (Option PartialRow) = Ok (if b then Some p else None) in o ≡ Ok (Some q)) → (z : Member) × (One u ≡ One z) × (same_member z m ≡ true) × (p ≡ q)
    go true f h = (u, refl, f, (let same : Some p ≡ Some q = is_ok (Some p) (Some q) h in cc))
    go false f h = cc
agreed at m p q (Several t) e = cc
agreed at m p q (Many d ts) e = cc
agreed at m p q (Truth b) e = cc

pub fitted_on : (at : Span) (d : Option Name) (own : Outcome Value) (m : Member) (p q : PartialRow) → match_component at d own m p ≡ Ok (Some q) → OnFrom p.key q.key
fitted_on at (Some name) own m p q e =
    let same : Some (bind name m p) ≡ Some q = is_ok (Some (bind name m p)) (Some q) e in
    let is : bind name m p ≡ q = cc in
    subst (λ (z : PartialRow). OnFrom p.key z.key) is (on_longer (m ∷ []) p.key)
fitted_on at None own m p q e = then_ok own (matches_member at m p) (Some q) e (λ v h i. let a = agreed at m p q v i in subst (λ (z : PartialRow). OnFrom p.key z.key) a.3 (on_same p.key))

fitted_parted : (at : Span) (d : Option Name) (own : Outcome Value) (m n : Member) (p q r : PartialRow) → same_member m n ≡ false → match_component at d own m p ≡ Ok (Some q) → match_component at d own n p ≡ Ok (Some r) → PartedFrom q.key r.key
fitted_parted at (Some name) own m n p q r unlike e f =
    let same : Some (bind name m p) ≡ Some q = is_ok (Some (bind name m p)) (Some q) e in
    let other : Some (bind name n p) ≡ Some r = is_ok (Some (bind name n p)) (Some r) f in
    let first : bind name m p ≡ q = cc in
    let second : bind name n p ≡ r = cc in
    subst (λ (z : PartialRow). PartedFrom z.key r.key) first (subst (λ (z : PartialRow). PartedFrom (longer (m ∷ []) p.key) z.key) second (longer_parted (m ∷ []) (n ∷ []) p.key (single m n unlike)))
fitted_parted at None own m n p q r unlike e f =
    then_ok own (matches_member at m p) (Some q) e (λ v h i. then_ok own (matches_member at n p) (Some r) f (λ u j k.
    let a = agreed at m p q v i in
    let b = agreed at n p r u k in
    let values : v ≡ u = is_ok v u (sym h ∙ j) in
    let ones : One a.0 ≡ One b.0 = sym a.1 ∙ values ∙ b.1 in
    let member : a.0 ≡ b.0 = cc in
    let same : m ≡ n = sym ((member_decides a.0 m).0 a.2) ∙ member ∙ (member_decides b.0 n).0 b.2 in
    let alike : same_member m n ≡ true = (member_decides m n).1 same in
    absurd (let c = unlike in cc)))

-- ---- several components

pub fits_then : (o : Outcome (Option PartialRow)) (next : PartialRow → Outcome (Option PartialRow)) (q : PartialRow) → and_then o (if_fits next) ≡ Ok (Some q) → (p : PartialRow) × (o ≡ Ok (Some p)) × (next p ≡ Ok (Some q))
fits_then (Ok (Some p)) next q e = (p, refl, e)
fits_then (Ok None) next q e = cc
fits_then (Err r) next q e = cc

pub places_on : (at : Span) (w : World) (l : Links) (ms : Tuple) (p q : PartialRow) → places at w l ms p ≡ Ok (Some q) → OnFrom p.key q.key
places_on at w none ms p q e = let same : Some p ≡ Some q = is_ok (Some p) (Some q) e in let is : p ≡ q = cc in subst (λ (z : PartialRow). OnFrom p.key z.key) is (on_same p.key)
places_on at w (link o x l) [] p q e = let same : Some p ≡ Some q = is_ok (Some p) (Some q) e in let is : p ≡ q = cc in subst (λ (z : PartialRow). OnFrom p.key z.key) is (on_same p.key)
places_on at w (link o x l) (m ∷ ms) p q e =
    let s = fits_then (match_component at (new_dummy w p.scope x) (value w p.scope x) m p) (places at w l ms) q e in
    on_join p.key s.0.key q.key (fitted_on at (new_dummy w p.scope x) (value w p.scope x) m p s.0 s.1) (places_on at w l ms s.0 q s.2)

-- two tuples that differ, at one component and those behind it
pub pair_parted : (at : Span) (d : Option Name) (own : Outcome Value) (w : World) (l : Links) (m n : Member) (ms ns : Tuple) (p q r : PartialRow)
    → ((z : PartialRow) → same_tuple ms ns ≡ false → places at w l ms z ≡ Ok (Some q) → places at w l ns z ≡ Ok (Some r) → PartedFrom q.key r.key)
    → same_tuple (m ∷ ms) (n ∷ ns) ≡ false → and_then (match_component at d own m p) (if_fits (places at w l ms)) ≡ Ok (Some q) → and_then (match_component at d own n p) (if_fits (places at w l ns)) ≡ Ok (Some r) → PartedFrom q.key r.key
pair_parted at d own w l m n ms ns p q r more unlike e f = go (same_member m n) refl unlike
  where
    s : (z : PartialRow) × (match_component at d own m p ≡ Ok (Some z)) × (places at w l ms z ≡ Ok (Some q))
    s = fits_then (match_component at d own m p) (places at w l ms) q e

    t : (z : PartialRow) × (match_component at d own n p ≡ Ok (Some z)) × (places at w l ns z ≡ Ok (Some r))
    t = fits_then (match_component at d own n p) (places at w l ns) r f

    go : (b : Bool) → same_member m n ≡ b → b && same_tuple ms ns ≡ false → PartedFrom q.key r.key
    go true h i =
        let copied : match_component at d own m p ≡ Ok (Some t.0) = ap (λ (z : Member). match_component at d own z p) ((member_decides m n).0 h) ∙ t.1 in
        let somes : Some s.0 ≡ Some t.0 = is_ok (Some s.0) (Some t.0) (sym s.1 ∙ copied) in
        let same : s.0 ≡ t.0 = cc in
        more s.0 i s.2 (ap (places at w l ns) same ∙ t.2)
    go false h i = on_then s.0.key t.0.key q.key r.key (fitted_parted at d own m n p s.0 t.0 h s.1 t.1) (places_on at w l ms s.0 q s.2) (places_on at w l ns t.0 r t.2)

pub places_parted : (at : Span) (w : World) (l : Links) (ms ns : Tuple) (p q r : PartialRow) → length ms ≡ size l → length ns ≡ size l → same_tuple ms ns ≡ false → places at w l ms p ≡ Ok (Some q) → places at w l ns p ≡ Ok (Some r) → PartedFrom q.key r.key
places_parted at w none [] [] p q r i j unlike e f = absurd (let h = unlike in cc)
places_parted at w none (m ∷ ms) ns p q r i j unlike e f = absurd (let h = i in omega arith)
places_parted at w none [] (n ∷ ns) p q r i j unlike e f = absurd (let h = j in omega arith)
places_parted at w (link o x l) [] ns p q r i j unlike e f = absurd (let h = i in omega arith)
places_parted at w (link o x l) (m ∷ ms) [] p q r i j unlike e f = absurd (let h = j in omega arith)
places_parted at w (link o x l) (m ∷ ms) (n ∷ ns) p q r i j unlike e f =
    pair_parted at (new_dummy w p.scope x) (value w p.scope x) w l m n ms ns p q r (λ z u g h. places_parted at w l ms ns z q r (omega (arith, i)) (omega (arith, j)) u g h) unlike e f
