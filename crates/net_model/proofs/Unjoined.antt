-- The table of operators: no token joins the terms of a sum but a sign.
use Rattle.std.specs.Prelude.{◌≡◌, ℕ, Bool, true, false, not, nat_eq, List, [], ◌∷◌, cond, if◌then◌else◌}
use Rattle.std.specs.Str.{bytes_eq}
use Rattle.std.proofs.Common.{refl, arith}
use Rattle.std.proofs.lemmas.Bool.Decides.{nat_tests}
use Rattle.net_lex.specs.declared.token.Token.{Token}
use Rattle.net_lex.specs.declared.token.Kind.{Kind}
use Rattle.net_lex.specs.declared.token.Kind.TheVariants as kinds
use Rattle.net_tree.specs.declared.role.Role.{Role}
use Rattle.net_tree.specs.declared.role.Role.TheVariants as roles
use Rattle.net_tree.specs.Role.{marks, keys, role_in, role_as, role_of, is_sign}
use Rattle.net_tree.specs.WellFormed.{joins}

-- a role that no table should give
unjoining : Role → Bool
unjoining (roles.Joining m) = not (nat_eq m 3)
unjoining _ = true

all_pass : (Role → Bool) → List (List ℕ × Role) → Bool
all_pass test [] = true
all_pass test (w ∷ ws) = if test w.1 then all_pass test ws else false

found : (test : Role → Bool) (b : Bool) (here there : Role) → test here ≡ true → test there ≡ true → test (if b then here else there) ≡ true
found test true here there h k = h
found test false here there h k = k

both : (b c : Bool) → cond b c false ≡ true → (b ≡ true) × (c ≡ true)
both true c h = (refl, h)
both false c h = absurd (cc)

passes : (test : Role → Bool) (table : List (List ℕ × Role)) (text : List ℕ) → all_pass test table ≡ true → test roles.Unknown ≡ true → test (role_in table text) ≡ true
unfolding all_pass
passes test [] text all other = other
passes test (w ∷ ws) text all other =
    let h = both (test w.1) (all_pass test ws) all in
    found test (bytes_eq w.0 text) w.1 (role_in ws text) h.0 (passes test ws text h.1 other)

role_unjoining : (kind : Kind) (text : List ℕ) → unjoining (role_as kind text) ≡ true
unfolding unjoining all_pass marks keys
role_unjoining kinds.Name text = refl
role_unjoining kinds.Key text = passes unjoining keys text refl refl
role_unjoining kinds.Num text = refl
role_unjoining kinds.Str text = refl
role_unjoining kinds.Mark text = passes unjoining marks text refl refl
role_unjoining kinds.Dot text = refl

sign_of : (k : ℕ) (r : Role) → unjoining r ≡ true → joins 2 k r ≡ true → is_sign r ≡ true
unfolding unjoining
sign_of k roles.Sign h j = refl
sign_of k (roles.Joining m) h j = grind (arith, nat_tests)
sign_of k _ h j = absurd (cc)

pub sign_joins : (k : ℕ) (t : Token) → joins 2 k (role_of t) ≡ true → is_sign (role_of t) ≡ true
unfolding role_of
sign_joins k t h = sign_of k (role_as t.kind t.text) (role_unjoining t.kind t.text) h
