-- Worked examples of the grammar: models that it derives, and forms that it does not.
use Rattle.std.specs.Prelude.{◌≡◌, ◌≤◌, ℕ, Bool, true, false, ◌&&◌, nat_eq, if◌then◌else◌, zero, suc, List, [], ◌∷◌, codes, None}
use Rattle.std.proofs.Common.{refl, sym, ap, ◌∙◌, subst, inl, inr, arith}
use Rattle.std.proofs.lemmas.Bool.Decides.{Decides-eqb}
use Rattle.net_lex.specs.declared.token.Kind.{Kind}
use Rattle.net_lex.specs.declared.token.Kind.TheVariants.{Name, Key, Num, Mark}
use Rattle.net_lex.specs.declared.token.Token.{Token}
use Rattle.net_lex.specs.Productions.{literal}
use Rattle.net_tree.specs.declared.operator.BinOp.{BinOp}
use Rattle.net_tree.specs.declared.operator.BinOp.TheVariants as op
use Rattle.net_tree.specs.declared.operator.Reduction.{Reduction}
use Rattle.net_tree.specs.declared.operator.Reduction.TheVariants as reductions
use Rattle.net_tree.specs.declared.role.Begins.TheVariants as begins
use Rattle.net_tree.specs.declared.role.Relation.TheVariants as relations
use Rattle.net_tree.specs.declared.role.Role.{Role}
use Rattle.net_tree.specs.declared.role.Role.TheVariants as roles
use Rattle.net_tree.specs.Precedence.{of_operands, of_reduction, of_product}
use Rattle.net_tree.specs.Syntax.{Expression, leaf, reduced, chain, net, no_more, none, apply, absent, present, Braces, filled, plain, valued, Phrase, one, param, node, objective}
use Rattle.net_model.specs.Operators.{Production, operators, IsEntry, can_follow}
use Rattle.net_model.specs.Grammar.{room, IsExpression}
use Rattle.net_model.specs.GrammarOfDeclarations.{IsCondition, IsOnce, AreParamPhrases, IsModel}

abbrev token : Kind → List ℕ → Token
token kind text = record { kind = kind; text = text; span = record { start = 0; end = 1 } }

abbrev m : List ℕ → Token
m = token Mark

abbrev w : List ℕ → Token
w = token Key

abbrev n : List ℕ → Token
n = token Name

abbrev d : List ℕ → Token
d = token Num

-- the production of a token that is next
taken : (kind : Kind) (text : List ℕ) (rest : List Token) → literal kind text (token kind text ∷ rest) rest
taken kind text rest = (token kind text, (refl, refl), refl)

-- node N : net_in = 3 ;
sink : IsModel (node (codes "N") None (one (net false false) op.Equal (leaf (d (codes "3")))) ∷ [])
    (w (codes "node") ∷ n (codes "N") ∷ m (codes ":") ∷ w (codes "net_in") ∷ m (codes "=") ∷ d (codes "3") ∷ m (codes ";") ∷ [])
sink = (
  _,
  (
    _,
    taken Key (codes "node") _,
    (
      _,
      taken Name (codes "N") _,
      (
        _,
        refl,
        (
          _,
          (
            _,
            taken Mark (codes ":") _,
            inl (
              _,
              (_, inl refl, taken Key (codes "net_in") _),
              (_, inl (taken Mark (codes "=") _), inr (inl (refl, refl))),
            ),
          ),
          taken Mark (codes ";") _,
        ),
      ),
    ),
  ),
  refl,
)

-- minimize T : sum { S } a * 2 + 1 ;    the sum of the products, plus 1
abbrev all : Braces
all = filled (leaf (n (codes "S"))) no_more absent

abbrev doubled : Expression
doubled = chain (leaf (n (codes "a"))) (apply op.Times (leaf (d (codes "2"))) none)

total : IsModel (objective true (codes "T") (present (chain (reduced reductions.Sum all doubled) (apply op.Plus (leaf (d (codes "1"))) none))) ∷ [])
    (w (codes "minimize") ∷ n (codes "T") ∷ m (codes ":") ∷ w (codes "sum") ∷ m (codes "{") ∷ n (codes "S") ∷ m (codes "}") ∷ n (codes "a") ∷ m (codes "*") ∷ d (codes "2")
    ∷ m (codes "+") ∷ d (codes "1") ∷ m (codes ";") ∷ [])
total = (
  _,
  (
    _,
    taken Key (codes "minimize") _,
    (
      _,
      taken Name (codes "T") _,
      (
        _,
        (
          _,
          taken Mark (codes ":") _,
          (
            of_product,
            omega arith,
            (
              _,
              (
                omega arith,
                (
                  _,
                  taken Key (codes "sum") _,
                  (
                    _,
                    (_, taken Mark (codes "{") _, (_, inl (refl, refl), (_, refl, (_, refl, taken Mark (codes "}") _)))),
                    (of_reduction, omega arith, (_, inl (refl, refl), (_, (refl, inl ((refl, refl), taken Mark (codes "*") _)), (_, inr (inl (refl, refl)), refl)))),
                  ),
                ),
              ),
              (_, (refl, inr (inr (inr (inl ((refl, refl), taken Mark (codes "+") _))))), (_, inr (inl (refl, refl)), refl)),
            ),
          ),
        ),
        taken Mark (codes ";") _,
      ),
    ),
  ),
  refl,
)

-- a keyword that the first of two phrases does not have
once : (keyword : Role) (x y : Phrase) → (x.word ≡ keyword → ⊥) → IsOnce keyword (x ∷ y ∷ [])
once keyword x y other zero j e less within f = absurd (other f)
once keyword x y other (suc i) j e less within f = absurd (omega (arith, less, within))

-- param p , >= 0 integer ;
bounded : IsModel (param (codes "p") None (record { word = roles.Relation relations.AtLeast; body = valued (leaf (d (codes "0"))) } ∷ record { word = roles.Phrase begins.Integer; body = plain } ∷ []) ∷ [])
    (w (codes "param") ∷ n (codes "p") ∷ m (codes ",") ∷ m (codes ">=") ∷ d (codes "0") ∷ w (codes "integer") ∷ m (codes ";") ∷ [])
bounded = (
  _,
  (
    _,
    taken Key (codes "param") _,
    (
      _,
      taken Name (codes "p") _,
      (
        _,
        refl,
        (
          _,
          (
            (once _ _ _ (λ e. absurd (cc)), once _ _ _ (λ e. absurd (cc))),
            (
              _,
              inr (taken Mark (codes ",") _),
              (_, (_, taken Mark (codes ">=") _, inr (inl (refl, refl))), (_, inl refl, (_, taken Key (codes "integer") _, refl))),
            ),
          ),
          taken Mark (codes ";") _,
        ),
      ),
    ),
  ),
  refl,
)

-- the precedence of the operands of `*` and of `<`
abbrev code : BinOp → ℕ
code op.Times = 1
code op.Less = 2
code _ = 0

abbrev is_settled : List (Production × BinOp × ℕ) → ℕ → ℕ → Bool
is_settled [] c k = true
is_settled (e ∷ es) c k = (if nat_eq (code e.1) c then nat_eq (of_operands e.2) k else true) && is_settled es c k

entry-level : (es : List (Production × BinOp × ℕ)) (o : BinOp) (k r : ℕ) (ts rest : List Token) → is_settled es (code o) k ≡ true → IsEntry es o r ts rest → r ≡ k
entry-level [] o k r ts rest settled h = absurd h
entry-level (e ∷ es) o k r ts rest settled (inl ((same, at), h)) =
    let c : nat_eq (code e.1) (code o) ≡ true = (Decides-eqb (code e.1) (code o)).1 (ap code same) in
    sym at ∙ (Decides-eqb (of_operands e.2) k).0 (chosen (nat_eq (code e.1) (code o)) (nat_eq (of_operands e.2) k) (is_settled es (code o) k) c settled)
  where
    chosen : (b x y : Bool) → b ≡ true → ((if b then x else true) && y) ≡ true → x ≡ true
    chosen true true y e f = refl
    chosen true false y e f = absurd (cc)
    chosen false x y e f = absurd (cc)
entry-level (e ∷ es) o k r ts rest settled (inr h) =
    entry-level es o k r ts rest (second (if nat_eq (code e.1) (code o) then nat_eq (of_operands e.2) k else true) (is_settled es (code o) k) settled) h
  where
    second : (b y : Bool) → (b && y) ≡ true → y ≡ true
    second true y f = f
    second false y f = absurd (cc)

-- no reduction is the left operand of a product: not (sum {S} a) * 2, whatever the tokens
product_after : (r : ℕ) (ts rest : List Token) (q : Reduction) (b : Braces) (x y : Expression) → IsExpression r (chain (reduced q b x) (apply op.Times y none)) ts rest → ⊥
product_after r ts rest q b x y (k, fits, (m1, (low, red), (m2, (can, entry), after))) =
    let one : k ≡ 1 = entry-level operators op.Times 1 k m1 m2 refl entry in
    absurd (omega (arith, subst (λ j. of_reduction ≤ room j (apply op.Times y none)) one low))

-- not a < b < c
compared_twice : (r : ℕ) (ts rest : List Token) (x y z : Expression) → IsExpression r (chain x (apply op.Less y (apply op.Less z none))) ts rest → ⊥
compared_twice r ts rest x y z (k, fits, (m1, hx, (m2, (can, entry), (m3, hy, (m4, (again, entry'), hz))))) =
    let seven : k ≡ 7 = entry-level operators op.Less 7 k m1 m2 refl entry in
    absurd (let e = subst (λ j. can_follow 1 j op.Less ≡ true) seven again in cc)

-- a condition has one net term: not net_in + net_in = 3
two_nets : (ts rest : List Token) (y : Expression) → IsCondition (one (chain (net false false) (apply op.Plus (net false false) none)) op.Equal y) ts rest → ⊥
two_nets ts rest y (m1, colon, inl (m2, (one-net, terms), after)) = absurd (omega (arith, one-net))
two_nets ts rest y (m1, colon, inr (m2, (k, fits, (m3, net-side, more)), after)) = absurd net-side

-- no two defaults
two_defaults : (ts rest : List Token) (x y : Expression)
    → AreParamPhrases (record { word = roles.Phrase begins.Default; body = valued x } ∷ record { word = roles.Phrase begins.Default; body = valued y } ∷ []) ts rest → ⊥
two_defaults ts rest x y ((default, becomes), h) = default 0 1 (record { word = roles.Becomes; body = plain }) (omega arith) (omega arith) refl refl
