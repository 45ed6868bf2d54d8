-- In a well-formed condition, `net_in` and `net_out` are terms of a side and are nowhere else.
use Rattle.std.specs.Prelude.{◌≡◌, ◌≤◌, ◌⊎◌, ℕ, suc, Bool, true, false, ◌&&◌, ◌||◌, List, [], ◌∷◌, nat_eq, nat_le, Option, None, if◌then◌else◌, ℤ}
use Rattle.std.specs.List.{list_all}
use Rattle.std.specs.Str.{bytes_eq}
use Rattle.std.proofs.Common.{refl, ap, sym, ◌∙◌, subst, arith, inl, inr}
use Rattle.std.proofs.lemmas.Slice.Eq.{bytes_eq-Decides}
use Rattle.net_lex.specs.declared.token.Kind.{Kind}
use Rattle.net_lex.specs.declared.token.Kind.TheVariants as kinds
use Rattle.net_lex.specs.declared.token.Token.{Token}
use Rattle.net_sets.specs.Sets.{Tuple}
use Rattle.net_tree.specs.Conditions.{IsSum, IsFirstTerm, IsFurtherTerm, AreTerms, IsNetSum, IsCondition}
use Rattle.net_tree.specs.declared.operator.OperatorWords.TheVariants.{One, Two}
use Rattle.net_tree.specs.declared.role.Role.{Role}
use Rattle.net_tree.specs.Operations.{operation, operation_in, operations}
use Rattle.net_tree.specs.Precedence.{of_comma, of_reduction, of_sum, of_relation, of_union, of_if}
use Rattle.net_tree.specs.Role.{role_of, role_as, is_sign, marks, keys, role_in}
use Rattle.net_tree.specs.Tree.{Tree, Links, Part, Braces, leaf, indexed, parens, tuple, negated, braced, signed, reduced, chain, choice, net, none, link, absent, part, empty, filled, Condition, unsaid, one, between}
use Rattle.net_tree.specs.WellFormed.{precedence, room, is_value, IsWellFormed, AreWellFormed, IsElse, IsFilter, AreBraces}
use Rattle.net_expr.specs.Worlds.{Name}
use Rattle.net_meaning.specs.Laws.{IsArcFree, AreArcFree, IsPartArcFree, AreBracesArcFree}
use Rattle.net_meaning.specs.Values.{Whether}
use Rattle.net_linear.specs.NetTerms.{are_terms}
use Rattle.net_linear.specs.Signs as signs
use Rattle.net_linear.specs.Soundness.{IsTermArcFree, AreTermsArcFree, IsSideArcFree, IsConditionArcFree}

-- no name denotes an arc's flow, as in every condition
abbrev pub no_flows : Name → Option (Tuple → ℤ)
no_flows n = None

-- ---- expressions without net terms

room_below : (n : ℕ) (l : Links) → room n l ≤ n
room_below n none = omega arith
room_below n (link o x l) = go (nat_eq n of_reduction)
  where
    go : (b : Bool) → (if b then 0 else n) ≤ n
    go true = omega arith
    go false = omega arith

value_below : (r : ℕ) → is_value r ≡ true → r ≤ of_if
value_below r h = go (nat_le r of_union) (nat_eq r of_if) refl refl h
  where
    go : (b c : Bool) → nat_le r of_union ≡ b → nat_eq r of_if ≡ c → (b || c) ≡ true → r ≤ of_if
    go true c e f k = grind (arith, e)
    go false true e f k = grind (arith, f)
    go false false e f k = cc

module _ (y : ℤ) where
  mutual
    plain : (x : Tree) → IsWellFormed x → precedence x ≤ of_if → IsArcFree no_flows y x
    plain (leaf t) h b = refl
    plain (indexed n o x l c) h b = (refl, plain x h.2 (omega (arith, h.3)), all_plain of_comma of_sum 0 l (omega arith) h.4)
    plain (parens o x c) h b = plain x h.1 h.2
    plain (tuple o x l c) h b = (plain x h.1 (omega (arith, h.2)), all_plain of_comma of_sum 0 l (omega arith) h.4)
    plain (negated n o x c) h b = plain x h.2 (omega (arith, h.3))
    plain (braced q) h b = braces_plain q h
    plain (signed s x) h b = plain x h.1 (omega (arith, h.2))
    plain (reduced w q x) h b = (braces_plain q h.1, plain x h.2 (omega (arith, h.3)))
    plain (chain n x l) h b = (plain x h.2 (omega (arith, h.3, b, room_below n l)), all_plain n n 0 l (omega (arith, b)) h.5)
    plain (choice i x t z e) h b = (plain x h.1 (omega (arith, h.2)), plain z h.4 (omega (arith, h.5)), else_plain e h.6)
    plain (net s w) h b = absurd (omega (arith, b))

    all_plain : (j n k : ℕ) (l : Links) → n ≤ of_if → AreWellFormed j n k l → AreArcFree no_flows y l
    all_plain j n k none b h = tt
    all_plain j n k (link o x l) b h = (plain x h.2 (omega (arith, h.3, b, room_below n l)), all_plain j n (suc k) l b h.4)

    else_plain : (p : Part) → IsElse p → IsPartArcFree no_flows y p
    else_plain absent h = tt
    else_plain (part m x) h = plain x h.1 (value_below (precedence x) h.2)

    filter_plain : (p : Part) → IsFilter p → IsPartArcFree no_flows y p
    filter_plain absent h = tt
    filter_plain (part m x) h = plain x h.1 (omega (arith, h.2))

    braces_plain : (q : Braces) → AreBraces q → AreBracesArcFree no_flows y q
    braces_plain (empty o p c) h = filter_plain p h.1
    braces_plain (filled o x l p c) h = (plain x h.1 (omega (arith, h.2)), all_plain of_comma of_relation 0 l (omega arith) h.3, filter_plain p h.4)

-- ---- signs

abbrev fits : List ℕ × Role → Bool
fits word = if is_sign word.1 then signs.is_sign (operation_in operations word.0) else true

first_of : (b c : Bool) → (b && c) ≡ true → b ≡ true
first_of true c f = refl
first_of false c f = cc

second_of : (b c : Bool) → (b && c) ≡ true → c ≡ true
second_of true c f = f
second_of false c f = cc

in_table : (table : List (List ℕ × Role)) → list_all fits table ≡ true → (text : List ℕ) → is_sign (role_in table text) ≡ true → signs.is_sign (operation_in operations text) ≡ true
in_table [] h text e = cc
in_table (word ∷ others) h text e = go (bytes_eq word.0 text) refl e (in_table others (second_of (fits word) (list_all fits others) h) text)
  where
    go : (b : Bool) → bytes_eq word.0 text ≡ b → is_sign (if b then word.1 else role_in others text) ≡ true → (is_sign (role_in others text) ≡ true → signs.is_sign (operation_in operations text) ≡ true)
        → signs.is_sign (operation_in operations text) ≡ true
    go true f i more =
        let own : signs.is_sign (operation_in operations word.0) ≡ true = subst (λ (c : Bool). (if c then signs.is_sign (operation_in operations word.0) else true) ≡ true) i (first_of (fits word) (list_all fits others) h) in
        subst (λ t. signs.is_sign (operation_in operations t) ≡ true) ((bytes_eq-Decides word.0 text).0 f) own
    go false f i more = more i

marks_fit : list_all fits marks ≡ true
unfolding marks operations
marks_fit = refl

keys_fit : list_all fits keys ≡ true
unfolding keys operations
keys_fit = refl

by_kind : (kind : Kind) (text : List ℕ) → is_sign (role_as kind text) ≡ true → signs.is_sign (operation_in operations text) ≡ true
by_kind kinds.Mark text e = in_table marks marks_fit text e
by_kind kinds.Key text e = in_table keys keys_fit text e
by_kind kinds.Name text e = cc
by_kind kinds.Num text e = cc
by_kind kinds.Str text e = cc
by_kind kinds.Dot text e = cc

sign_is : (t : Token) → is_sign (role_of t) ≡ true → signs.is_sign (operation (One t)) ≡ true
unfolding role_of operation
sign_is t e = by_kind t.kind t.text e

terms_are : (l : Links) → AreTerms l → are_terms l ≡ true
terms_are none h = refl
terms_are (link (One t) x l) h = ap (λ (b : Bool). b && are_terms l) (sign_is t h.0) ∙ terms_are l h.2
terms_are (link (Two t u) x l) h = absurd h

-- ---- sides

module _ (y : ℤ) where
  term_plain : (x : Tree) → IsArcFree no_flows y x → IsTermArcFree no_flows y x
  term_plain (net s w) h = tt
  term_plain x h = h

  terms_plain : (l : Links) → AreArcFree no_flows y l → AreTermsArcFree no_flows y l
  terms_plain none h = tt
  terms_plain (link o x l) h = (term_plain x h.0, terms_plain l h.1)

  first_plain : (x : Tree) → IsFirstTerm x → IsTermArcFree no_flows y x
  first_plain (net s w) h = tt
  first_plain x h = plain y x h.0 (omega (arith, h.1))

  further_plain : (x : Tree) → IsFurtherTerm x → IsTermArcFree no_flows y x
  further_plain (net s w) h = tt
  further_plain x h = plain y x h.0 (omega (arith, h.1))

  all_further : (l : Links) → AreTerms l → AreTermsArcFree no_flows y l
  all_further none h = tt
  all_further (link (One t) x l) h = (further_plain x h.1, all_further l h.2)
  all_further (link (Two t u) x l) h = absurd h

  either : (b : Bool) (P Q : Type 0) → P → Q → Whether b P Q
  either true P Q p q = p
  either false P Q p q = q

  sum_plain : (x : Tree) → IsSum x → IsSideArcFree no_flows y x
  sum_plain (net s w) h = tt
  sum_plain (chain n x l) h =
      let all = plain y (chain n x l) h.0 (omega (arith, h.1)) in
      either (are_terms l) (IsTermArcFree no_flows y x × AreTermsArcFree no_flows y l) (IsArcFree no_flows y x × AreArcFree no_flows y l) (term_plain x all.0, terms_plain l all.1) all
  sum_plain x h = plain y x h.0 (omega (arith, h.1))

  net_sum_plain : (x : Tree) → IsNetSum x → IsSideArcFree no_flows y x
  net_sum_plain (net s w) h = tt
  net_sum_plain (chain n x l) h =
      subst (λ (b : Bool). Whether b (IsTermArcFree no_flows y x × AreTermsArcFree no_flows y l) (IsArcFree no_flows y x × AreArcFree no_flows y l)) (sym (terms_are l h.3)) (first_plain x h.1, all_further l h.3)
  net_sum_plain x h = absurd h

  pub condition_plain : (c : Condition) → IsCondition c → IsConditionArcFree no_flows y c
  condition_plain unsaid h = tt
  condition_plain (one m x o z) h = go h.2
    where
      go : (IsNetSum x × IsSum z) ⊎ (IsSum x × IsNetSum z) → IsSideArcFree no_flows y x × IsSideArcFree no_flows y z
      go (inl (p, q)) = (net_sum_plain x p, sum_plain z q)
      go (inr (p, q)) = (sum_plain x p, net_sum_plain z q)
  condition_plain (between m x o z p u) h = (sum_plain x h.2, net_sum_plain z h.3, sum_plain u h.4)
