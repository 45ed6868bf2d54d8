-- No two expressions that are as the grammar wants print the same tokens.
use Rattle.std.specs.Prelude.{◌≡◌, ◌≤◌, ◌⊎◌, ℕ, true, false, max, [], ◌∷◌, Option, None, Some, Ok}
use Rattle.std.proofs.Common.{refl, sym, ap, ◌∙◌, arith, subst, inl, inr}
use Rattle.net_lex.specs.declared.token.Token.{Token}
use Rattle.net_tree.specs.declared.role.Role.{Role}
use Rattle.net_tree.specs.declared.role.Role.TheVariants as roles
use Rattle.net_tree.specs.Role.{role_of, is_net, is_sign, is_if}
use Rattle.net_tree.specs.Tree.{Tree, signed, chain, net}
use Rattle.net_tree.specs.Print.{put}
use Rattle.net_tree.specs.Depth.{depth}
use Rattle.net_tree.specs.WellFormed.{precedence, IsWellFormed}
use Rattle.net_model.specs.Reading.{Tokens, next_is}
use Rattle.net_model.specs.Expressions.{climb, unary, wide, nested}
use Rattle.net_model.specs.Conditions.{signed_net_next}
use Rattle.net_model.proofs.Tools.{ok_is}
use Rattle.net_model.proofs.Grips.{reach-le}
use Rattle.net_model.proofs.LinksComplete.{in_place}
use Rattle.net_model.proofs.Starts.{climb-no_net}
use Rattle.net_model.proofs.TreesComplete.{trees-complete, wide_narrow, wide_loose, begins_if, ten_or_if}
use Rattle.net_model.proofs.TermsComplete.{climb-no_signed_net}

-- an expression, and no net term
plain_or_net : (x : Tree) → IsWellFormed x → (precedence x ≤ 11) ⊎ (precedence x ≡ 12)
plain_or_net (net s w) level = inr refl
plain_or_net (chain n x l) level = inl (omega (arith, level.1))
plain_or_net (signed s x) level = inl (omega (arith, level.2))
plain_or_net x level = inl (omega arith)

narrow_read : (d : ℕ) (x : Tree) → IsWellFormed x → depth x ≤ d → precedence x ≤ 10 → climb 10 (unary (nested d)) (put x []) ≡ Ok (x, [])
narrow_read d x level deep fits = in_place d 10 10 x [] (trees-complete x d) level deep fits (omega arith) (omega arith) (omega (arith, reach-le (precedence x), fits)) (omega arith)

plain_read : (d : ℕ) (x : Tree) → IsWellFormed x → depth x ≤ d → precedence x ≤ 11 → wide (nested d) 10 (put x []) ≡ Ok (x, [])
plain_read d x level deep fits =
    elim (ten_or_if (precedence x) fits) [
      | inl h ↦ wide_narrow d 10 x [] (narrow_read d x level deep h)
      | inr h ↦ wide_loose d 10 x [] (trees-complete x d) level deep h (omega arith) refl
    ]

-- no net term comes first
if_no_net : (r : Role) → is_if r ≡ true → is_net r ≡ false
if_no_net roles.If h = refl
if_no_net _ h = absurd (cc)

if_no_sign : (r : Role) → is_if r ≡ true → is_sign r ≡ false
if_no_sign roles.If h = refl
if_no_sign _ h = absurd (cc)

if_next : (ts : Tokens) → next_is is_if ts ≡ true → (next_is is_net ts ≡ false) × (signed_net_next ts ≡ false)
if_next [] h = absurd (cc)
if_next (t ∷ ts) h = (if_no_net (role_of t) h, rw (if_no_sign (role_of t) h) refl)

plain_start : (d : ℕ) (x : Tree) → IsWellFormed x → depth x ≤ d → precedence x ≤ 11 → (next_is is_net (put x []) ≡ false) × (signed_net_next (put x []) ≡ false)
plain_start d x level deep fits =
    elim (ten_or_if (precedence x) fits) [
      | inl h ↦
          let read = narrow_read d x level deep h in
          (climb-no_net 10 (nested d) (put x []) (x, []) read, climb-no_signed_net 10 d (put x []) (x, []) read)
      | inr h ↦ if_next (put x []) (begins_if x [] level h)
    ]

net_form : (x : Tree) → IsWellFormed x → precedence x ≡ 12 → (s : Option Token) × (w : Token) × (x ≡ net s w)
net_form (net s w) level h = (s, w, refl)
net_form (chain n x l) level h = absurd (omega (arith, level.1, h))
net_form (signed s x) level h = absurd (omega (arith, level.2, h))
net_form x level h = absurd (omega (arith, h))

net_start : (s : Option Token) (w : Token) → IsWellFormed (net s w) → (next_is is_net (put (net s w) []) ≡ true) ⊎ (signed_net_next (put (net s w) []) ≡ true)
net_start None w level = inl level.1
net_start (Some s) w level = inr (rw (level.0, level.1) refl)

apart : (ts us : Tokens) → ts ≡ us → (next_is is_net ts ≡ false) × (signed_net_next ts ≡ false) → (next_is is_net us ≡ true) ⊎ (signed_net_next us ≡ true) → ⊥
apart ts us same none (inl h) = let k = ap (next_is is_net) same in let m = none.0 in cc
apart ts us same none (inr h) = let k = ap signed_net_next same in let m = none.1 in cc

first_of : (ts us : Tokens) (t u : Token) → t ∷ ts ≡ u ∷ us → (t ≡ u) × (ts ≡ us)
first_of ts us t u h = (cc, cc)

nets_same : (s t : Option Token) (w u : Token) → put (net s w) [] ≡ put (net t u) [] → net s w ≡ net t u
nets_same None None w u same = ap (net None) (first_of [] [] w u same).0
nets_same (Some s) (Some t) w u same =
    let e = first_of (w ∷ []) (u ∷ []) s t same in
    let f = first_of [] [] w u e.1 in
    ap (λ z. net (Some z) w) e.0 ∙ ap (net (Some t)) f.0
nets_same None (Some t) w u same = absurd (let e = (first_of [] (u ∷ []) w t same).1 in cc)
nets_same (Some s) None w u same = absurd (let e = (first_of (w ∷ []) [] s u same).1 in cc)

plain_same : (x y : Tree) → IsWellFormed x → IsWellFormed y → precedence x ≤ 11 → precedence y ≤ 11 → put x [] ≡ put y [] → x ≡ y
plain_same x y level other fits also same =
    let d = max (depth x) (depth y) in
    let a : wide (nested d) 10 (put x []) ≡ Ok (x, []) = plain_read d x level (omega arith) fits in
    let b : wide (nested d) 10 (put y []) ≡ Ok (y, []) = plain_read d y other (omega arith) also in
    ap (λ (r : Tree × Tokens). r.0) (ok_is _ _ (sym a ∙ ap (wide (nested d) 10) same ∙ b))

plain_no_net : (x y : Tree) → IsWellFormed x → IsWellFormed y → precedence x ≤ 11 → precedence y ≡ 12 → put x [] ≡ put y [] → ⊥
plain_no_net x y level other fits is same =
    let n = net_form y other is in
    let text : put x [] ≡ put (net n.0 n.1) [] = same ∙ ap (λ z. put z []) n.2 in
    let net_level : IsWellFormed (net n.0 n.1) = subst IsWellFormed n.2 other in
    apart (put x []) (put (net n.0 n.1) []) text (plain_start (depth x) x level (omega arith) fits) (net_start n.0 n.1 net_level)

-- no two such expressions print the same tokens
pub one_tree : (x y : Tree) → IsWellFormed x → IsWellFormed y → put x [] ≡ put y [] → x ≡ y
one_tree x y level other same =
    elim (plain_or_net x level) [
      | inl a ↦ elim (plain_or_net y other) [ inl b ↦ plain_same x y level other a b same | inr b ↦ absurd (plain_no_net x y level other a b same) ]
      | inr a ↦ elim (plain_or_net y other) [
        | inl b ↦ absurd (plain_no_net y x other level b a (sym same))
        | inr b ↦
            let m = net_form x level a in
            let n = net_form y other b in
            let text : put (net m.0 m.1) [] ≡ put (net n.0 n.1) [] = sym (ap (λ z. put z []) m.2) ∙ same ∙ ap (λ z. put z []) n.2 in
            m.2 ∙ nets_same m.0 n.0 m.1 n.1 text ∙ sym n.2
      ]
    ]
