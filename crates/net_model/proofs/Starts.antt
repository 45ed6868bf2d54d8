-- With which tokens an expression begins.
use Rattle.std.specs.Prelude.{◌≡◌, ℕ, zero, suc, Bool, true, false, [], ◌∷◌, Option, Ok}
use Rattle.std.proofs.Common.{refl}
use Rattle.net_lex.specs.declared.token.Token.{Token}
use Rattle.net_tree.specs.declared.role.Role.{Role}
use Rattle.net_tree.specs.declared.role.Role.TheVariants as roles
use Rattle.net_tree.specs.Role.{role_of, is_if, is_net}
use Rattle.net_tree.specs.Tree.{Tree}
use Rattle.net_model.specs.Reading.{Tokens, next_is}
use Rattle.net_model.specs.Expressions.{Inner, chain_at, climb, unary_at, unary, ends_braces}
use Rattle.net_model.proofs.Tools.{bind_ok}

abbrev pub starts : Role → Bool
starts roles.Name = true
starts roles.Number = true
starts roles.Text = true
starts roles.Not = true
starts roles.Open = true
starts roles.OpenBrace = true
starts roles.Sign = true
starts roles.Reduction = true
starts _ = false

unary_at-starts : (o : Option Inner) (r : Role) (t : Token) (ts : Tokens) (a : Tree × Tokens) → unary_at o r t ts ≡ Ok a → starts r ≡ true
unfolding unary_at
unary_at-starts o roles.Name t ts a h = refl
unary_at-starts o roles.Number t ts a h = refl
unary_at-starts o roles.Text t ts a h = refl
unary_at-starts o roles.Not t ts a h = refl
unary_at-starts o roles.Open t ts a h = refl
unary_at-starts o roles.OpenBrace t ts a h = refl
unary_at-starts o roles.Sign t ts a h = refl
unary_at-starts o roles.Reduction t ts a h = refl
unary_at-starts o _ t ts a h = absurd (cc)

pub unary-starts : (o : Option Inner) (ts : Tokens) (a : Tree × Tokens) → unary o ts ≡ Ok a → next_is starts ts ≡ true
unfolding unary
unary-starts o [] a h = absurd (cc)
unary-starts o (t ∷ ts) a h = unary_at-starts o (role_of t) t ts a h

pub climb-starts : (n : ℕ) (o : Option Inner) (ts : Tokens) (a : Tree × Tokens) → climb n (unary o) ts ≡ Ok a → next_is starts ts ≡ true
unfolding climb chain_at
climb-starts zero o ts a h = unary-starts o ts a h
climb-starts (suc zero) o ts a h = unary-starts o ts a h
climb-starts (suc (suc n)) o ts a h = let x = bind_ok _ _ _ h in climb-starts (suc n) o ts x.value x.first

-- what passes none of the tests
apart : (test : Role → Bool) → ((r : Role) → starts r ≡ true → test r ≡ false) → (ts : Tokens) → next_is starts ts ≡ true → next_is test ts ≡ false
apart test no_start [] h = refl
apart test no_start (t ∷ ts) h = no_start (role_of t) h

starts-no_if : (r : Role) → starts r ≡ true → is_if r ≡ false
starts-no_if roles.If h = absurd (cc)
starts-no_if _ h = refl

starts-no_net : (r : Role) → starts r ≡ true → is_net r ≡ false
starts-no_net roles.Net h = absurd (cc)
starts-no_net _ h = refl

starts-no_hollow : (r : Role) → starts r ≡ true → ends_braces r ≡ false
starts-no_hollow roles.Colon h = absurd (cc)
starts-no_hollow roles.CloseBrace h = absurd (cc)
starts-no_hollow _ h = refl

pub climb-no_if : (n : ℕ) (o : Option Inner) (ts : Tokens) (a : Tree × Tokens) → climb n (unary o) ts ≡ Ok a → next_is is_if ts ≡ false
climb-no_if n o ts a h = apart is_if starts-no_if ts (climb-starts n o ts a h)

pub climb-no_net : (n : ℕ) (o : Option Inner) (ts : Tokens) (a : Tree × Tokens) → climb n (unary o) ts ≡ Ok a → next_is is_net ts ≡ false
climb-no_net n o ts a h = apart is_net starts-no_net ts (climb-starts n o ts a h)

pub climb-no_hollow : (n : ℕ) (o : Option Inner) (ts : Tokens) (a : Tree × Tokens) → climb n (unary o) ts ≡ Ok a → next_is ends_braces ts ≡ false
climb-no_hollow n o ts a h = apart ends_braces starts-no_hollow ts (climb-starts n o ts a h)
