-- What numerals and names are found to be is their value.
use Rattle.std.specs.Prelude.{◌≡◌, ◌+◌, ◌-◌, ◌*◌, ◌==◌, ℕ, Bool, true, false, List, [], ◌∷◌, ◌++◌, map, length, fold, nat_eq, nat_le, Option, None, Some, if◌then◌else◌, Result, Ok, Err, IfOk, ℤ}
use Rattle.std.proofs.Common.{refl, ap, sym, ◌∙◌, inl, append_assoc, append-nil}
use Rattle.std.proofs.lemmas.List.Sums.{fold-append}
use Rattle.net_base.specs.declared.diagnostic.Detail.{Detail}
use Rattle.net_base.specs.declared.diagnostic.Span.{Span}
use Rattle.net_lex.specs.declared.token.Kind.{Kind}
use Rattle.net_lex.specs.declared.token.Kind.TheVariants as kinds
use Rattle.net_lex.specs.declared.token.Token.{Token}
use Rattle.net_lex.specs.declared.whole.NumFault.{NumFault}
use Rattle.net_lex.specs.Bytes.{first, minus, after_sign}
use Rattle.net_lex.specs.Limits.{limits}
use Rattle.net_lex.specs.Numerals.{Parts, AllDigits, mantissa, up, down, signed, IsSized, IsValue}
use Rattle.net_lex.specs.NumeralFront.{numeral_at}
use Rattle.net_lex.specs.Significands.{with_digits}
use Rattle.net_lex.proofs.SignificandLemmas.{number as number_of, digits_number, digits_end}
use Rattle.net_lex.proofs.WholeValues.{whole_value_sized}
use Rattle.net_lex.proofs.NumeralSigned.{signed_spelled, read_digits}
use Rattle.net_sets.specs.declared.member.Member.{Member}
use Rattle.net_sets.specs.Limits.{arity_limit}
use Rattle.net_sets.specs.Sets.{Tuple, at_key}
use Rattle.net_tree.specs.declared.role.Role.{Role}
use Rattle.net_tree.specs.declared.role.Role.TheVariants as roles
use Rattle.net_expr.specs.declared.value.Value.{Value as Found}
use Rattle.net_expr.specs.declared.value.Value.TheVariants as found
use Rattle.net_expr.specs.declared.world.Entry.{Entry}
use Rattle.net_expr.specs.declared.world.Entry.TheVariants.{Set, Parameter}
use Rattle.net_tree.specs.Numerals.{significant, whole_size, with_sign, if_whole, number_in}
use Rattle.net_expr.specs.Operators.{longer, member, members_after, tuple_of}
use Rattle.net_expr.specs.Values.{number_value, token_value}
use Rattle.net_expr.specs.Worlds.{Name, World, Scope, key_count, bound, entry_of, value_at, entry_at, name_at}
use Rattle.net_meaning.specs.Laws.{meaning_of}
use Rattle.net_meaning.specs.Operators.{Value, One}
use Rattle.net_meaning.specs.OfTrees.{env_with}
use Rattle.net_meaning.specs.Values.{Denotes, IsLeaf, dummy, a_set, parameter}
use Rattle.net_tree.specs.Role.{role_of, role_as, is_leaf}
use Rattle.net_meaning.proofs.Leaves.{mark_no_leaf, key_no_leaf}
use Rattle.net_meaning.proofs.Giving.{gives_then, gives_if, gives_as}
use Rattle.net_meaning.proofs.Meant.{entry_named}

-- ---- numerals

mantissa_is : (p : Parts) → mantissa p ≡ number_of (significant p)
mantissa_is p =
    fold-append (λ n c. 10 * n + (c - 48)) 0 p.whole p.fraction
    ∙ (ap (λ n. fold (λ n c. 10 * n + (c - 48)) n p.fraction) (digits_number (record { digits = 0; zeros = 0 }) p.whole) ∙ digits_number (with_digits (record { digits = 0; zeros = 0 }) p.whole) p.fraction)

whole_sized : (p : Parts) → AllDigits p.whole × AllDigits p.fraction → IsSized limits.value (mantissa p) (up p) (down p) (whole_size p)
whole_sized p (w, f) =
    whole_value_sized limits.value (mantissa p) (significant p).digits (significant p).zeros (up p) (down p) (mantissa_is p)
    (digits_end _ p.fraction f (digits_end (record { digits = 0; zeros = 0 }) p.whole w (inl refl)))

some_is : {A : Type 0} (a b : A) → Some a ≡ Some b → a ≡ b
some_is a b e = cc

pub numeral_is : (text : List ℕ) (n : ℤ) → number_in text ≡ Some n → IsValue limits.value text n
unfolding number_in
numeral_is text n h = go (numeral_at (after_sign text)) refl h
  where
    sized : (p : Parts) → numeral_at (after_sign text) ≡ Some (p, []) → (r : Result ℕ NumFault) → IsSized limits.value (mantissa p) (up p) (down p) r
        → with_sign (first text == minus) r ≡ Some n → IsValue limits.value text n
    sized p e (Ok m) (whole, small) f =
        record { negative = first text == minus; parts = p; size = m; spelled = signed_spelled text p e; whole = whole; within = small; is = sym (some_is (signed (first text == minus) m) n f) }
    sized p e (Err why) s f = cc

    go : (o : Option (Parts × List ℕ)) → numeral_at (after_sign text) ≡ o → if_whole text o ≡ Some n → IsValue limits.value text n
    go None e f = cc
    go (Some (p, [])) e f = sized p e (whole_size p) (whole_sized p (read_digits _ _ p e)) f
    go (Some (p, c ∷ cs)) e f = cc

-- ---- names

module _ (af : Name → Option (Tuple → ℤ)) (yf : ℤ) where
  pub name_is : (at : Span) (w : World) (s : Scope) (n : Name) (key : Tuple) → IfOk (name_at at w n (bound s n) key) (λ v. Denotes (env_with af yf w s) n key (meaning_of v))
  name_is at w s n key = go (bound s n) refl key
    where
      by_value : (d : Detail) (c : Option ℕ) (keys : List Tuple) (rows : List (Tuple × Member)) (key : Tuple) → bound s n ≡ None → entry_of w n ≡ Some (Parameter c keys rows)
          → (o : Option Member) → at_key rows key ≡ o → (listed : Bool) → IfOk (value_at at d o listed) (λ v. Denotes (env_with af yf w s) n key (meaning_of v))
      by_value d c keys rows key h e (Some m) f listed = parameter (at_key rows) key m h (entry_named w n (Parameter c keys rows) e) f
      by_value d c keys rows key h e None f true = tt
      by_value d c keys rows key h e None f false = tt

      by_entry : bound s n ≡ None → (x : Option Entry) → entry_of w n ≡ x → (key : Tuple) → IfOk (entry_at at n x key) (λ v. Denotes (env_with af yf w s) n key (meaning_of v))
      by_entry h None e key = tt
      by_entry h (Some (Set d ts)) e [] = a_set ts h (entry_named w n (Set d ts) e)
      by_entry h (Some (Set d ts)) e (m ∷ ms) = tt
      by_entry h (Some (Parameter c keys rows)) e key = gives_if _ (nat_eq (length key) (key_count c)) _ _ (λ i. by_value _ c keys rows key h e (at_key rows key) refl _) (λ i. tt)

      go : (o : Option Member) → bound s n ≡ o → (key : Tuple) → IfOk (name_at at w n o key) (λ v. Denotes (env_with af yf w s) n key (meaning_of v))
      go (Some m) h [] = dummy m h
      go (Some m) h (k ∷ ks) = tt
      go None h key = by_entry h (entry_of w n) refl key

  unvalued : (w : World) (s : Scope) (t : Token) (r : Role) (P : Found → Type 0) → is_leaf r ≡ false → IfOk (token_value w s t r) P
  unvalued w s t roles.Number P h = absurd (cc)
  unvalued w s t roles.Text P h = absurd (cc)
  unvalued w s t roles.Name P h = absurd (cc)
  unvalued w s t _ P h = tt

  pub leaf_is : (w : World) (s : Scope) (t : Token) → IfOk (token_value w s t (role_of t)) (λ v. IsLeaf (env_with af yf w s) t.kind t.text (meaning_of v))
  unfolding role_of
  leaf_is w s t = by_kind t.kind
    where
      go : (o : Option ℤ) → number_in t.text ≡ o → IfOk (number_value t.span o) (λ v. IsLeaf (env_with af yf w s) kinds.Num t.text (meaning_of v))
      go None e = tt
      go (Some n) e = (n, numeral_is t.text n e, refl)

      by_kind : (k : Kind) → IfOk (token_value w s t (role_as k t.text)) (λ v. IsLeaf (env_with af yf w s) k t.text (meaning_of v))
      by_kind kinds.Num = go (number_in t.text) refl
      by_kind kinds.Str = refl
      by_kind kinds.Name = name_is t.span w s t.text []
      by_kind kinds.Dot = tt
      by_kind kinds.Mark = unvalued w s t (role_as kinds.Mark t.text) _ (mark_no_leaf t.text)
      by_kind kinds.Key = unvalued w s t (role_as kinds.Key t.text) _ (key_no_leaf t.text)

-- ---- subscripts

pub longer_is : (t : Tuple) (o : Option Tuple) (k : Tuple) → longer t o ≡ Some k → (j : Tuple) × (o ≡ Some j) × (k ≡ j ++ t)
longer_is t None k e = cc
longer_is t (Some j) k e = go (nat_le (length j + length t) arity_limit) e
  where
    go : (b : Bool) → (if b then Some (j ++ t) else None) ≡ Some k → (i : Tuple) × (Some j ≡ Some i) × (k ≡ i ++ t)
    go true f = (j, refl, sym (some_is (j ++ t) k f))
    go false f = cc

member_is : (at : Span) (v : Found) → IfOk (member at v) (λ m. meaning_of v ≡ One m)
member_is at (found.One m) = refl
member_is at (found.Several t) = tt
member_is at (found.Many d ts) = tt
member_is at (found.Truth b) = tt

members_are : (at : Span) (vs : List Found) (o : Option Tuple) → IfOk (members_after at vs o) (λ t. (k : Tuple) × (ms : Tuple) × (o ≡ Some k) × (t ≡ k ++ ms) × (map meaning_of vs ≡ map (λ m. One m) ms))
members_are at [] None = tt
members_are at [] (Some k) = (k, [], refl, sym (append-nil k), refl)
members_are at (v ∷ vs) o =
    gives_then (λ m. meaning_of v ≡ One m) _ (member at v) _ (member_is at v) (λ m e.
    gives_as _ _ (members_after at vs (longer (m ∷ []) o)) (λ t (k, ms, f, g, h).
    let (j, i, l) = longer_is (m ∷ []) o k f in
    (j, m ∷ ms, i, g ∙ ap (λ (z : Tuple). z ++ ms) l ∙ append_assoc j (m ∷ []) ms, ap (λ (z : Value). z ∷ map meaning_of vs) e ∙ ap (λ (zs : List Value). One m ∷ zs) h)) (members_are at vs (longer (m ∷ []) o)))

pub tuple_is : (at : Span) (vs : List Found) → IfOk (tuple_of at vs) (λ t. map meaning_of vs ≡ map (λ m. One m) t)
tuple_is at vs = gives_as _ _ (tuple_of at vs) (λ t (k, ms, f, g, h). h ∙ ap (map (λ m. One m)) (sym (g ∙ ap (λ (z : Tuple). z ++ ms) (sym (some_is [] k f))))) (members_are at vs (Some []))
