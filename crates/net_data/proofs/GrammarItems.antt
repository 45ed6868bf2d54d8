-- The items of a set in the grammar are those of `AreItems`.
use Rattle.std.proofs.Common.{◌≡◌, true, false, List, [], ◌∷◌, ◌++◌, refl, ap, sym, subst, ◌∙◌, codes, ◌⊎◌, inl, inr, append_assoc}
use Rattle.std.specs.List.{flat_map}
use Rattle.net_lex.specs.declared.token.Kind.TheVariants.{Mark}
use Rattle.net_lex.specs.declared.token.Token.{Token}
use Rattle.net_lex.specs.Productions.{◌⨾◌, token, literal}
use Rattle.net_data.specs.Commas.{in_set, in_tuple, place_after, bare}
use Rattle.net_data.specs.Tests.{is_member, is_mark, is_comma}
use Rattle.net_data.specs.Meaning.{AreItems, IsTupleRest}
use Rattle.net_data.specs.Grammar.{many, each, comma, IsMember, tuple, item, IsItems}
use Rattle.net_data.proofs.Apart.{member-mark, mark-mark}
use Rattle.net_data.proofs.GrammarTerms.{Agrees, decides_member, decides_mark, commas_bare, skip}

-- the tokens of a tuple after its first member: they form such a rest, and end the tuple
record Closes (part : List Token) : Type 0 where
  rest : (after : List Token) → IsTupleRest (part ++ after) after
  bare : (after : List Token) → bare in_tuple (part ++ after) ≡ part ++ bare in_set after

-- a comma and a member leave the place in the tuple
pair_bare : (c m : Token) (ts : List Token) → is_comma c ≡ true → is_member m ≡ true → bare in_tuple (c ∷ m ∷ ts) ≡ c ∷ m ∷ bare in_tuple ts
pair_bare c m ts is k =
    let one = mark-mark (codes ",") (codes ")") c refl is in
    let two = member-mark (codes ")") m k in
    rw (one, two) refl

close_bare : (t : Token) (ts : List Token) → is_mark (codes ")") t ≡ true → bare in_tuple (t ∷ ts) ≡ t ∷ bare in_set ts
close_bare t ts is = rw is refl

is_a_comma : (t : Token) → (t.kind ≡ Mark) × (t.text ≡ codes ",") → is_comma t ≡ true
is_a_comma = (decides_mark (codes ",")).from

closes_at : (c m t : Token) → is_comma c ≡ true → is_member m ≡ true → is_mark (codes ")") t ≡ true → Closes (c ∷ m ∷ t ∷ [])
closes_at c m t is k end = record {
  rest = λ after. IsTupleRest.last is k end;
  bare = λ after. pair_bare c m (t ∷ after) is k ∙ ap (λ ts. c ∷ m ∷ ts) (close_bare t after end);
}

closes_more : (c m : Token) (part : List Token) → is_comma c ≡ true → is_member m ≡ true → Closes part → Closes (c ∷ m ∷ part)
closes_more c m part is k more = record {
  rest = λ after. IsTupleRest.more is k (more.rest after);
  bare = λ after. pair_bare c m (part ++ after) is k ∙ ap (λ ts. c ∷ m ∷ ts) (more.bare after);
}

-- pairs of a comma and a member, and the closing bracket
closes : (c m t : Token) (ts rest : List Token) → is_comma c ≡ true → is_member m ≡ true → is_mark (codes ")") t ≡ true → many (comma ⨾ token IsMember) ts rest → rest ≡ t ∷ [] → Closes (c ∷ m ∷ ts)
closes c m t ts rest is k end many.none same = let h = closes_at c m t is k end in rw same h
closes c m t ts rest is k end (many.more {middle} (left, (d, comma_is, one), (n, member_is, two)) pairs) same =
    let inner = closes d n t middle rest (is_a_comma d comma_is) (decides_member.from n member_is) end pairs same in
    let here : ts ≡ d ∷ n ∷ middle = one ∙ ap (λ us. d ∷ us) two in
    rw here (closes_more c m (d ∷ n ∷ middle) is k inner)

-- an item that begins the items of a set is followed by the others
record Leads (part : List Token) : Type 0 where
  items : (more : List Token) → AreItems more → AreItems (part ++ more)
  bare : (rest : List Token) → bare in_set (part ++ rest) ≡ part ++ bare in_set rest

member_bare : (t : Token) (ts : List Token) → is_member t ≡ true → bare in_set (t ∷ ts) ≡ t ∷ bare in_set ts
member_bare t ts is =
    let no_comma = member-mark (codes ",") t is in
    let no_end = member-mark (codes ";") t is in
    let no_opening = member-mark (codes "(") t is in
    rw (no_comma, no_end, no_opening) refl

opening_bare : (t : Token) (ts : List Token) → is_mark (codes "(") t ≡ true → bare in_set (t ∷ ts) ≡ t ∷ bare in_tuple ts
opening_bare t ts is =
    let no_comma = mark-mark (codes "(") (codes ",") t refl is in
    let no_end = mark-mark (codes "(") (codes ";") t refl is in
    rw (no_comma, no_end, is) refl

first_bare : (t : Token) (ts : List Token) → is_member t ≡ true → bare in_tuple (t ∷ ts) ≡ t ∷ bare in_tuple ts
first_bare t ts is = let none = member-mark (codes ")") t is in rw none refl

member_leads : (t : Token) → is_member t ≡ true → Leads (t ∷ [])
member_leads t is = record { items = λ more are. AreItems.member is are; bare = λ rest. member_bare t rest is }

tuple_leads : (o f : Token) (part : List Token) → is_mark (codes "(") o ≡ true → is_member f ≡ true → Closes part → Leads (o ∷ f ∷ part)
tuple_leads o f part opens is closed = record {
  items = λ more are. AreItems.tuple opens is (closed.rest more) are;
  bare = λ rest. opening_bare o (f ∷ part ++ rest) opens ∙ ap (λ ts. o ∷ ts) (first_bare f (part ++ rest) is ∙ ap (λ ts. f ∷ ts) (closed.bare rest));
}

leads : (part : List Token) → (token IsMember part [] ⊎ tuple part []) → Leads part
leads part (inl (t, is, same)) = rw same (member_leads t (decides_member.from t is))
leads part (inr (m1, (o, o_is, e1), (m2, (f, f_is, e2), (m3, (c, c_is, e3), (m4, (m, m_is, e4), (m5, pairs, (t, t_is, e5))))))) =
    let here : part ≡ o ∷ f ∷ c ∷ m ∷ m4 = e1 ∙ ap (λ us. o ∷ us) (e2 ∙ ap (λ us. f ∷ us) (e3 ∙ ap (λ us. c ∷ us) e4)) in
    let end = closes c m t m4 m5 (is_a_comma c c_is) (decides_member.from m m_is) ((decides_mark (codes ")")).from t t_is) pairs e5 in
    rw here (tuple_leads o f (c ∷ m ∷ m4) ((decides_mark (codes "(")).from o o_is) (decides_member.from f f_is) end)

-- items that derive are printed
record Led (parts : List (List Token)) (tokens rest : List Token) : Type 0 where
  printed : bare in_set tokens ≡ flat_map (λ x. x) parts ++ bare in_set rest
  items : AreItems (flat_map (λ x. x) parts)

led : (parts : List (List Token)) (tokens rest : List Token) → each item parts tokens rest → Led parts tokens rest
led [] tokens rest same = record { printed = ap (bare in_set) same; items = AreItems.nothing }
led (part ∷ parts) tokens rest (middle, (form, commas), more) =
    let l = leads part form in
    let k = led parts middle rest more in
    record {
      printed = commas_bare in_set tokens (part ++ middle) refl commas ∙ l.bare middle ∙ ap (λ ts. part ++ ts) k.printed ∙ sym (append_assoc part (flat_map (λ x. x) parts) (bare in_set rest));
      items = l.items (flat_map (λ x. x) parts) k.items;
    }

-- the part of a tuple after its first member, among the tokens
record Closed (tokens us rest0 more : List Token) : Type 0 where
  part : List Token
  left : List Token
  here : tokens ≡ part ++ left
  whole : us ≡ part ++ rest0
  form : (comma ⨾ token IsMember ⨾ many (comma ⨾ token IsMember) ⨾ literal Mark (codes ")")) part []
  bare : bare in_set left ≡ rest0 ++ more

record Stepped (tokens : List Token) (t : Token) (more : List Token) : Type 0 where
  left : List Token
  here : tokens ≡ t ∷ left
  bare : bare (place_after in_tuple t) left ≡ more

step : (tokens : List Token) (t : Token) (more : List Token) → bare in_tuple tokens ≡ t ∷ more → Stepped tokens t more
step [] t more h = absurd (cc)
step (u ∷ us) t more h =
    let same : u ≡ t = cc in
    let behind : bare (place_after in_tuple u) us ≡ more = cc in
    record { left = us; here = ap (λ x. x ∷ us) same; bare = rw same at behind }

step_on : (tokens : List Token) (t : Token) (more : List Token) → is_mark (codes ")") t ≡ false → bare in_tuple tokens ≡ t ∷ more → (left : List Token) × (tokens ≡ t ∷ left) × (bare in_tuple left ≡ more)
step_on tokens t more is h = let s = step tokens t more h in (s.left, s.here, rw is at s.bare)

step_out : (tokens : List Token) (t : Token) (more : List Token) → is_mark (codes ")") t ≡ true → bare in_tuple tokens ≡ t ∷ more → (left : List Token) × (tokens ≡ t ∷ left) × (bare in_set left ≡ more)
step_out tokens t more is h = let s = step tokens t more h in (s.left, s.here, rw is at s.bare)

closed : {us rest0 : List Token} → IsTupleRest us rest0 → (tokens more : List Token) → bare in_tuple tokens ≡ us ++ more → Closed tokens us rest0 more
closed (IsTupleRest.last {comma = c} {member = m} {closing = t} {rest = rest0} is k end) tokens more h =
    let a = step_on tokens c (m ∷ t ∷ rest0 ++ more) (mark-mark (codes ",") (codes ")") c refl is) h in
    let b = step_on a.0 m (t ∷ rest0 ++ more) (member-mark (codes ")") m k) a.2 in
    let e = step_out b.0 t (rest0 ++ more) end b.2 in
    record {
      part = c ∷ m ∷ t ∷ [];
      left = e.0;
      here = a.1 ∙ ap (λ ts. c ∷ ts) (b.1 ∙ ap (λ ts. m ∷ ts) e.1);
      whole = refl;
      form = (_, (c, (decides_mark (codes ",")).to c is, refl), (_, (m, decides_member.to m k, refl), (_, many.none, (t, (decides_mark (codes ")")).to t end, refl))));
      bare = e.2;
    }
closed (IsTupleRest.more {comma = c} {member = m} {tokens = us} {rest = rest0} is k inner) tokens more h =
    let a = step_on tokens c (m ∷ us ++ more) (mark-mark (codes ",") (codes ")") c refl is) h in
    let b = step_on a.0 m (us ++ more) (member-mark (codes ")") m k) a.2 in
    let e = closed inner b.0 more b.2 in
    record {
      part = c ∷ m ∷ e.part;
      left = e.left;
      here = a.1 ∙ ap (λ ts. c ∷ ts) (b.1 ∙ ap (λ ts. m ∷ ts) e.here);
      whole = ap (λ ts. c ∷ m ∷ ts) e.whole;
      form =
          let (m1, d, (m2, n, (m3, pairs, last))) = e.form in
          (_, (c, (decides_mark (codes ",")).to c is, refl), (_, (m, decides_member.to m k, refl), (_, many.more (m1, d, n) pairs, last)));
      bare = e.bare;
    }

-- items that are printed derive
record Derived (items tokens more : List Token) : Type 0 where
  rest : List Token
  parts : List (List Token)
  whole : flat_map (λ x. x) parts ≡ items
  each : each item parts tokens rest
  left : bare in_set rest ≡ more

derived : {items : List Token} → AreItems items → (tokens more : List Token) → bare in_set tokens ≡ items ++ more → Derived items tokens more
derived AreItems.nothing tokens more h = record { rest = tokens; parts = []; whole = refl; each = refl; left = h }
derived (AreItems.member {member = t} {rest = items} is are) tokens more h =
    let s = skip in_set tokens (items ++ more) t refl h in
    let no_end = member-mark (codes ";") t is in
    let no_opening = member-mark (codes "(") t is in
    let left : bare in_set s.rest ≡ items ++ more = rw (no_end, no_opening) at s.left in
    let d = derived are s.rest more left in
    record {
      rest = d.rest;
      parts = (t ∷ []) ∷ d.parts;
      whole = ap (λ ts. t ∷ ts) d.whole;
      each = (s.rest, (inl (t, decides_member.to t is, refl), s.commas), d.each);
      left = d.left;
    }
derived (AreItems.tuple {opening = o} {first = f} {tokens = us} {rest = items} opens is inner are) tokens more h =
    let s = skip in_set tokens (f ∷ us ++ more) o refl h in
    let no_end = mark-mark (codes "(") (codes ";") o refl opens in
    let inside : bare in_tuple s.rest ≡ f ∷ us ++ more = rw (no_end, opens) at s.left in
    let b = step_on s.rest f (us ++ more) (member-mark (codes ")") f is) inside in
    let e = closed inner b.0 more b.2 in
    let d = derived are e.left more e.bare in
    record {
      rest = d.rest;
      parts = (o ∷ f ∷ e.part) ∷ d.parts;
      whole =
          let more : o ∷ f ∷ (e.part ++ flat_map (λ x. x) d.parts) ≡ o ∷ f ∷ (e.part ++ items) = ap (λ ts. o ∷ f ∷ (e.part ++ ts)) d.whole in
          let here : o ∷ f ∷ (e.part ++ items) ≡ o ∷ f ∷ us = ap (λ ts. o ∷ f ∷ ts) (sym e.whole) in
          more ∙ here;
      each =
          let whole : o ∷ s.rest ≡ o ∷ f ∷ (e.part ++ e.left) = ap (λ ts. o ∷ ts) (b.1 ∙ ap (λ ts. f ∷ ts) e.here) in
          (e.left, (inr (_, (o, (decides_mark (codes "(")).to o opens, refl), (_, (f, decides_member.to f is, refl), e.form)), subst (many comma tokens) whole s.commas), d.each);
      left = d.left;
    }

pub items_agree : (items : List Token) → Agrees (IsItems items) in_set in_set (λ ts. items ++ ts) (AreItems items)
items_agree items = record {
  sound = λ tokens rest (parts, whole, form).
      let l = led parts tokens rest form in
      (l.printed ∙ ap (λ ts. ts ++ bare in_set rest) whole, subst AreItems whole l.items);
  complete = λ tokens more are h. let d = derived are tokens more h in (d.rest, (d.parts, d.whole, d.each), d.left);
}
