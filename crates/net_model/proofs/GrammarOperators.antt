-- The operators of trees are those of the table.
use Rattle.std.specs.Prelude.{◌≡◌, ◌<◌, ◌⊎◌, ℕ, zero, suc, Bool, true, false, ◌&&◌, nat_eq, List, [], ◌∷◌, codes}
use Rattle.std.proofs.Common.{refl, sym, ap, ◌∙◌, subst, inl, inr, arith}
use Rattle.std.proofs.lemmas.Bool.Decides.{Decides-eqb}
use Rattle.net_lex.specs.declared.token.Kind.{Kind}
use Rattle.net_lex.specs.declared.token.Kind.TheVariants as kinds
use Rattle.net_lex.specs.declared.token.Token.{Token}
use Rattle.net_lex.specs.Productions.{literal}
use Rattle.net_tree.specs.declared.operator.BinOp.{BinOp}
use Rattle.net_tree.specs.declared.operator.BinOp.TheVariants as op
use Rattle.net_tree.specs.declared.operator.OperatorWords.{OperatorWords}
use Rattle.net_tree.specs.declared.operator.OperatorWords.TheVariants.{One, Two}
use Rattle.net_tree.specs.declared.role.Relation.TheVariants as relations
use Rattle.net_tree.specs.declared.role.Role.{Role}
use Rattle.net_tree.specs.declared.role.Role.TheVariants as roles
use Rattle.net_tree.specs.Operations.{operation, operations, operation_in, denied}
use Rattle.net_tree.specs.Print.{put_operator}
use Rattle.net_tree.specs.Role.{marks, keys, role_in, role_of, is_not, is_membership}
use Rattle.net_tree.specs.WellFormed.{joins, head_of}
use Rattle.net_tree.specs.Precedence.{of_operands}
use Rattle.net_tree.specs.WellFormed as trees
use Rattle.net_model.specs.Operators.{Production, operators, IsEntry, can_follow, IsOperator}
use Rattle.net_model.proofs.GrammarTokens.{texts, IsAmong, token-spelled, among, Has, is-word, has-role}

-- operators of one token other than `not`
abbrev is_joint : Role → Bool
is_joint (roles.Joining m) = true
is_joint roles.Sign = true
is_joint roles.Range = true
is_joint roles.By = true
is_joint (roles.Relation r) = true
is_joint _ = false

joins-joint : (n k : ℕ) (r : Role) → 0 < n → joins n k r ≡ true → is_not r ≡ false → is_joint r ≡ true
joins-joint n k (roles.Joining m) some h other = refl
joins-joint n k roles.Sign some h other = refl
joins-joint n k roles.Range some h other = refl
joins-joint n k roles.By some h other = refl
joins-joint n k (roles.Relation r) some h other = refl
joins-joint n k roles.Comma some h other = let e : n ≡ 0 = (Decides-eqb n 0).0 h in absurd (omega arith)
joins-joint n k _ some h other = absurd (cc)

-- the entry at an index of the table has this operation, joins operands of precedence n, and is at
-- the head of ts
abbrev Holds : List (Production × BinOp × ℕ) → ℕ → BinOp → ℕ → Production
Holds [] i o n ts rest = ⊥
Holds (e ∷ es) zero o n ts rest = ((e.1 ≡ o) × (of_operands e.2 ≡ n)) × e.0 ts rest
Holds (e ∷ es) (suc i) o n ts rest = Holds es i o n ts rest

pick : (es : List (Production × BinOp × ℕ)) (i : ℕ) (o : BinOp) (n : ℕ) (ts rest : List Token) → Holds es i o n ts rest → IsEntry es o n ts rest
pick [] i o n ts rest h = absurd h
pick (e ∷ es) zero o n ts rest h = inl h
pick (e ∷ es) (suc i) o n ts rest h = inr (pick es i o n ts rest h)

-- what `joins` says of a role
abbrev Fits : Role → BinOp → ℕ → Type 0
Fits role o m = (n k : ℕ) → joins n k role ≡ true → (n ≡ m) × (can_follow k m o ≡ true)

anywhere : (m n : ℕ) → nat_eq n m ≡ true → (n ≡ m) × (true ≡ true)
anywhere m n h = ((Decides-eqb n m).0 h, refl)

there : (m n : ℕ) (b : Bool) → (nat_eq n m && b) ≡ true → (n ≡ m) × (b ≡ true)
there m n b h = go (nat_eq n m) refl h
  where
    go : (c : Bool) → nat_eq n m ≡ c → (c && b) ≡ true → (n ≡ m) × (b ≡ true)
    go true e f = ((Decides-eqb n m).0 e, f)
    go false e f = absurd (cc)

abbrev Joined : Token → ℕ → ℕ → Type 0
Joined t n k = (rest : List Token) → IsOperator k n (operation (One t)) (t ∷ rest) rest

joined : (i : ℕ) (kind : Kind) (text : List ℕ) (role : Role) (o : BinOp) (m : ℕ)
    → ((t : Token) (rest : List Token) → literal kind text (t ∷ rest) rest → Holds operators i o m (t ∷ rest) rest) → operation_in operations text ≡ o → Fits role o m
    → (t : Token) (n k : ℕ) → joins n k (role_of t) ≡ true → t.kind ≡ kind → t.text ≡ text → role_of t ≡ role → Joined t n k
unfolding operation
joined i kind text role o m holds means fits t n k j at-kind at-text at-role rest =
    let f = fits n k (subst (λ r. joins n k r ≡ true) at-role j) in
    let same : operation (One t) ≡ o = ap (operation_in operations) at-text ∙ means in
    let P : BinOp → ℕ → Type 0 = λ p q. IsOperator k q p (t ∷ rest) rest in
    subst (λ p. P p n) (sym same) (subst (P o) (sym f.0) (f.1, pick operators i o m (t ∷ rest) rest (holds t rest (t, (at-kind, at-text), refl))))

mark-joined : (t : Token) (n k : ℕ) → joins n k (role_of t) ≡ true → t.kind ≡ kinds.Mark → IsAmong (texts is_joint marks) t.text (role_of t) → Joined t n k
unfolding marks operations
mark-joined t n k j kind =
    among (texts is_joint marks) t.text (role_of t) (Joined t n k) (
      joined 3 kinds.Mark (codes "+") roles.Sign op.Plus 2 (λ t rest h. ((refl, refl), h)) refl (λ n k. anywhere 2 n) t n k j kind,
      (
        joined 4 kinds.Mark (codes "-") roles.Sign op.Minus 2 (λ t rest h. ((refl, refl), h)) refl (λ n k. anywhere 2 n) t n k j kind,
        (
          joined 0 kinds.Mark (codes "*") (roles.Joining 2) op.Times 1 (λ t rest h. ((refl, refl), h)) refl (λ n k. anywhere 1 n) t n k j kind,
          (
            joined 12 kinds.Mark (codes "=") (roles.Relation relations.Equal) op.Equal 7 (λ t rest h. ((refl, refl), h)) refl (λ n k. there 7 n (nat_eq k 0)) t n k j kind,
            (
              joined 17 kinds.Mark (codes "<=") (roles.Relation relations.AtMost) op.AtMost 7 (λ t rest h. ((refl, refl), h)) refl (λ n k. there 7 n (nat_eq k 0)) t n k j kind,
              (
                joined 19 kinds.Mark (codes ">=") (roles.Relation relations.AtLeast) op.AtLeast 7 (λ t rest h. ((refl, refl), h)) refl (λ n k. there 7 n (nat_eq k 0)) t n k j kind,
                (
                  joined 16 kinds.Mark (codes "<") (roles.Relation relations.Less) op.Less 7 (λ t rest h. ((refl, refl), h)) refl (λ n k. there 7 n (nat_eq k 0)) t n k j kind,
                  (
                    joined 18 kinds.Mark (codes ">") (roles.Relation relations.Greater) op.Greater 7 (λ t rest h. ((refl, refl), h)) refl (λ n k. there 7 n (nat_eq k 0)) t n k j kind,
                    (
                      joined 5 kinds.Mark (codes "..") roles.Range op.Range 3 (λ t rest h. ((refl, refl), h)) refl (λ n k. there 3 n (nat_eq k 0)) t n k j kind,
                      (
                        joined 14 kinds.Mark (codes "<>") (roles.Relation relations.Unequal) op.Unequal 7 (λ t rest h. ((refl, refl), h)) refl (λ n k. there 7 n (nat_eq k 0)) t n k j kind,
                        (
                          joined 13 kinds.Mark (codes "==") (roles.Relation relations.Equal) op.Equal 7 (λ t rest h. ((refl, refl), h)) refl (λ n k. there 7 n (nat_eq k 0)) t n k j kind,
                          (
                            joined 15 kinds.Mark (codes "!=") (roles.Relation relations.Unequal) op.Unequal 7 (λ t rest h. ((refl, refl), h)) refl (λ n k. there 7 n (nat_eq k 0)) t n k j kind,
                            tt,
                          ),
                        ),
                      ),
                    ),
                  ),
                ),
              ),
            ),
          ),
        ),
      ),
    )

word-joined : (t : Token) (n k : ℕ) → joins n k (role_of t) ≡ true → t.kind ≡ kinds.Key → IsAmong (texts is_joint keys) t.text (role_of t) → Joined t n k
unfolding keys operations
word-joined t n k j kind =
    among (texts is_joint keys) t.text (role_of t) (Joined t n k) (
      joined 20 kinds.Key (codes "in") (roles.Relation relations.In) op.In 7 (λ t rest h. ((refl, refl), h)) refl (λ n k. there 7 n (nat_eq k 0)) t n k j kind,
      (
        joined 7 kinds.Key (codes "cross") (roles.Joining 5) op.Cross 4 (λ t rest h. ((refl, refl), h)) refl (λ n k. anywhere 4 n) t n k j kind,
        (
          joined 22 kinds.Key (codes "within") (roles.Relation relations.Within) op.Within 7 (λ t rest h. ((refl, refl), h)) refl (λ n k. there 7 n (nat_eq k 0)) t n k j kind,
          (
            joined 24 kinds.Key (codes "and") (roles.Joining 9) op.And 8 (λ t rest h. ((refl, refl), h)) refl (λ n k. anywhere 8 n) t n k j kind,
            (
              joined 25 kinds.Key (codes "or") (roles.Joining 10) op.Or 9 (λ t rest h. ((refl, refl), h)) refl (λ n k. anywhere 9 n) t n k j kind,
              (
                joined 6 kinds.Key (codes "by") roles.By op.Other 3 (λ t rest h. ((refl, refl), h)) refl (λ n k. there 3 n (nat_eq k 1)) t n k j kind,
                (
                  joined 1 kinds.Key (codes "div") (roles.Joining 2) op.Div 1 (λ t rest h. ((refl, refl), h)) refl (λ n k. anywhere 1 n) t n k j kind,
                  (
                    joined 2 kinds.Key (codes "mod") (roles.Joining 2) op.Mod 1 (λ t rest h. ((refl, refl), h)) refl (λ n k. anywhere 1 n) t n k j kind,
                    (
                      joined 9 kinds.Key (codes "union") (roles.Joining 7) op.Union 6 (λ t rest h. ((refl, refl), h)) refl (λ n k. anywhere 6 n) t n k j kind,
                      (
                        joined 10 kinds.Key (codes "diff") (roles.Joining 7) op.Diff 6 (λ t rest h. ((refl, refl), h)) refl (λ n k. anywhere 6 n) t n k j kind,
                        (
                          joined 11 kinds.Key (codes "symdiff") (roles.Joining 7) op.Symdiff 6 (λ t rest h. ((refl, refl), h)) refl (λ n k. anywhere 6 n) t n k j kind,
                          (
                            joined 8 kinds.Key (codes "inter") (roles.Joining 6) op.Inter 5 (λ t rest h. ((refl, refl), h)) refl (λ n k. anywhere 5 n) t n k j kind,
                            tt,
                          ),
                        ),
                      ),
                    ),
                  ),
                ),
              ),
            ),
          ),
        ),
      ),
    )

is-not-word : (t : Token) → is_not (role_of t) ≡ true → Has kinds.Key (codes "not") t
unfolding marks keys
is-not-word t h = is-word is_not (codes "not") roles.Not t (refl, refl, refl, refl) refl refl h

-- `not` followed by `in` or `within`
denied-at : (i : ℕ) (text : List ℕ) (o : BinOp)
    → ((t u : Token) (rest : List Token) → Has kinds.Key (codes "not") t → literal kinds.Key text (u ∷ rest) rest → Holds operators i o 7 (t ∷ u ∷ rest) rest)
    → denied (operation_in operations text) ≡ o → ((k : ℕ) → can_follow k 7 o ≡ nat_eq k 0)
    → (t u : Token) (n k : ℕ) (rest : List Token) → joins n k roles.Not ≡ true → Has kinds.Key (codes "not") t → u.kind ≡ kinds.Key → u.text ≡ text → IsOperator k n (operation (Two t u)) (t ∷ u ∷ rest) rest
unfolding operation
denied-at i text o holds means first t u n k rest j is at-kind at-text =
    let f = there 7 n (nat_eq k 0) j in
    let same : operation (Two t u) ≡ o = ap (λ x. denied (operation_in operations x)) at-text ∙ means in
    let P : BinOp → ℕ → Type 0 = λ p q. IsOperator k q p (t ∷ u ∷ rest) rest in
    subst (λ p. P p n) (sym same) (subst (P o) (sym f.0) (first k ∙ f.1, pick operators i o 7 (t ∷ u ∷ rest) rest (holds t u rest is (u, (at-kind, at-text), refl))))

two-joined : (n k : ℕ) (t u : Token) (rest : List Token) → joins n k (role_of t) ≡ true → is_not (role_of t) ≡ true → is_membership (role_of u) ≡ true → IsOperator k n (operation (Two t u)) (t ∷ u ∷ rest) rest
unfolding marks keys operations
two-joined n k t u rest j is membership =
    let first = is-not-word t is in
    go first (subst (λ r. joins n k r ≡ true) (has-role kinds.Key (codes "not") t first) j) (token-spelled is_membership u (refl, refl, refl, refl) membership)
  where
    go : Has kinds.Key (codes "not") t → joins n k (role_in keys (codes "not")) ≡ true
        → (((u.kind ≡ kinds.Mark) × IsAmong (texts is_membership marks) u.text (role_of u)) ⊎ ((u.kind ≡ kinds.Key) × IsAmong (texts is_membership keys) u.text (role_of u)))
        → IsOperator k n (operation (Two t u)) (t ∷ u ∷ rest) rest
    go first j' (inl (kind, h)) = absurd h
    go first j' (inr (kind, h)) =
        among (texts is_membership keys) u.text (role_of u) (IsOperator k n (operation (Two t u)) (t ∷ u ∷ rest) rest) (
          λ at-text at-role. denied-at 21 (codes "in") op.NotIn (λ t u rest is h. ((refl, refl), (u ∷ rest, (t, is, refl), h))) refl (λ k. refl) t u n k rest j' first kind at-text,
          (
            λ at-text at-role. denied-at 23 (codes "within") op.NotWithin (λ t u rest is h. ((refl, refl), (u ∷ rest, (t, is, refl), h))) refl (λ k. refl) t u n k rest j' first kind at-text,
            tt,
          ),
        ) h

pub operators-complete : (n k : ℕ) (w : OperatorWords) (rest : List Token) → 0 < n → joins n k (role_of (head_of w)) ≡ true → trees.IsOperator w → IsOperator k n (operation w) (put_operator w rest) rest
operators-complete n k (One t) rest some j other =
    go (token-spelled is_joint t (refl, refl, refl, refl) (joins-joint n k (role_of t) some j other))
  where
    go : (((t.kind ≡ kinds.Mark) × IsAmong (texts is_joint marks) t.text (role_of t)) ⊎ ((t.kind ≡ kinds.Key) × IsAmong (texts is_joint keys) t.text (role_of t))) → IsOperator k n (operation (One t)) (t ∷ rest) rest
    go (inl (kind, h)) = mark-joined t n k j kind h rest
    go (inr (kind, h)) = word-joined t n k j kind h rest
operators-complete n k (Two t u) rest some j (is, membership) = two-joined n k t u rest j is membership
