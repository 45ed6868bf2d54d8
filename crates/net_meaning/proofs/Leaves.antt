-- The role of a token that is an expression by itself is that of its kind.
use Rattle.std.specs.Prelude.{◌≡◌, ◌&&◌, ℕ, Bool, true, false, not, List, [], ◌∷◌, if◌then◌else◌}
use Rattle.std.specs.List.{list_all}
use Rattle.std.specs.Str.{bytes_eq}
use Rattle.std.proofs.Common.{refl}
use Rattle.net_lex.specs.declared.token.Kind.{Kind}
use Rattle.net_lex.specs.declared.token.Kind.TheVariants as kinds
use Rattle.net_lex.specs.declared.token.Token.{Token}
use Rattle.net_tree.specs.declared.role.Role.{Role}
use Rattle.net_tree.specs.declared.role.Role.TheVariants as roles
use Rattle.net_tree.specs.Role as of_role
use Rattle.net_tree.specs.Role.{role_of, role_as, role_in, is_leaf, marks, keys}
use Rattle.net_meaning.specs.Values.{is_name}

-- no entry of the table has the role of an expression by itself
abbrev has_no_leaf : List (List ℕ × Role) → Bool
has_no_leaf table = list_all (λ (e : List ℕ × Role). not (is_leaf e.1)) table

found_no_leaf : (table : List (List ℕ × Role)) (text : List ℕ) → has_no_leaf table ≡ true → is_leaf (role_in table text) ≡ false
found_no_leaf [] text h = refl
found_no_leaf (e ∷ es) text h = step (bytes_eq e.0 text) (is_leaf e.1) (has_no_leaf es) h refl (found_no_leaf es text)
  where
    step : (b c d : Bool) → (not c && d) ≡ true → is_leaf e.1 ≡ c → (d ≡ true → is_leaf (role_in es text) ≡ false) → is_leaf (if b then e.1 else role_in es text) ≡ false
    step b true d h q r = absurd (cc)
    step true false d h q r = q
    step false false d h q r = r h

pub mark_no_leaf : (text : List ℕ) → is_leaf (role_as kinds.Mark text) ≡ false
unfolding marks
mark_no_leaf text = found_no_leaf marks text refl

pub key_no_leaf : (text : List ℕ) → is_leaf (role_as kinds.Key text) ≡ false
unfolding keys
key_no_leaf text = found_no_leaf keys text refl

unnamed : (r : Role) → is_leaf r ≡ false → of_role.is_name r ≡ false
unnamed roles.Name h = absurd (cc)
unnamed _ h = refl

pub name_is : (t : Token) → of_role.is_name (role_of t) ≡ is_name t.kind
unfolding role_of
name_is t = go t.kind
  where
    go : (k : Kind) → of_role.is_name (role_as k t.text) ≡ is_name k
    go kinds.Name = refl
    go kinds.Num = refl
    go kinds.Str = refl
    go kinds.Dot = refl
    go kinds.Mark = unnamed (role_as kinds.Mark t.text) (mark_no_leaf t.text)
    go kinds.Key = unnamed (role_as kinds.Key t.text) (key_no_leaf t.text)
