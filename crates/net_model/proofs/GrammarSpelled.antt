-- The tokens of the grammar's productions have the roles that trees need.
use Rattle.std.specs.Prelude.{◌≡◌, ◌⊎◌, ◌<◌, ℕ, Bool, true, false, List, [], ◌∷◌, codes, ◌&&◌, nat_lt, nat_eq, if◌then◌else◌}
use Rattle.std.specs.Str.{bytes_eq}
use Rattle.std.proofs.Common.{refl, sym, ap, ◌∙◌, subst, inl, inr, arith}
use Rattle.std.proofs.lemmas.Bool.Decides.{nat_tests}
use Rattle.net_lex.specs.declared.token.Kind.{Kind}
use Rattle.net_lex.specs.declared.token.Kind.TheVariants as kinds
use Rattle.net_lex.specs.declared.token.Token.{Token}
use Rattle.net_lex.specs.Productions.{◌⨾◌, literal}
use Rattle.net_tree.specs.declared.operator.BinOp.{BinOp}
use Rattle.net_tree.specs.declared.operator.BinOp.TheVariants as op
use Rattle.net_tree.specs.declared.operator.Reduction.{Reduction}
use Rattle.net_tree.specs.declared.operator.Reduction.TheVariants as reductions
use Rattle.net_tree.specs.declared.operator.OperatorWords.{OperatorWords}
use Rattle.net_tree.specs.declared.operator.OperatorWords.TheVariants.{One, Two}
use Rattle.net_tree.specs.declared.role.Role.{Role}
use Rattle.net_tree.specs.Operations.{operation, operations, operation_in, denied, is_minus, reduction, is_outflow}
use Rattle.net_tree.specs.Precedence.{of_operands, of_or}
use Rattle.net_tree.specs.Print.{put_operator}
use Rattle.net_tree.specs.Role.{marks, keys, role_as, role_of, is_leaf, is_name, is_number, is_open, is_close, is_open_brace, is_close_brace, is_open_square, is_close_square, is_comma, is_colon, is_semicolon, is_sign, is_not, is_if, is_then, is_else, is_reduction, is_net, is_membership}
use Rattle.net_tree.specs.WellFormed.{joins, head_of}
use Rattle.net_tree.specs.WellFormed as trees
use Rattle.net_model.specs.Operators.{Production, word, operators, IsEntry, can_follow, IsOperator}
use Rattle.net_model.specs.Grammar.{sign, reducer}
use Rattle.net_model.specs.GrammarOfDeclarations.{flow}
use Rattle.net_model.proofs.GrammarTokens.{Has, has-role, passes}

pub comma-is : (t : Token) → Has kinds.Mark (codes ",") t → is_comma (role_of t) ≡ true
unfolding marks
comma-is t h = passes is_comma kinds.Mark (codes ",") t h refl

pub semicolon-is : (t : Token) → Has kinds.Mark (codes ";") t → is_semicolon (role_of t) ≡ true
unfolding marks
semicolon-is t h = passes is_semicolon kinds.Mark (codes ";") t h refl

pub colon-is : (t : Token) → Has kinds.Mark (codes ":") t → is_colon (role_of t) ≡ true
unfolding marks
colon-is t h = passes is_colon kinds.Mark (codes ":") t h refl

pub open-is : (t : Token) → Has kinds.Mark (codes "(") t → is_open (role_of t) ≡ true
unfolding marks
open-is t h = passes is_open kinds.Mark (codes "(") t h refl

pub close-is : (t : Token) → Has kinds.Mark (codes ")") t → is_close (role_of t) ≡ true
unfolding marks
close-is t h = passes is_close kinds.Mark (codes ")") t h refl

pub open_brace-is : (t : Token) → Has kinds.Mark (codes "{") t → is_open_brace (role_of t) ≡ true
unfolding marks
open_brace-is t h = passes is_open_brace kinds.Mark (codes "{") t h refl

pub close_brace-is : (t : Token) → Has kinds.Mark (codes "}") t → is_close_brace (role_of t) ≡ true
unfolding marks
close_brace-is t h = passes is_close_brace kinds.Mark (codes "}") t h refl

pub open_square-is : (t : Token) → Has kinds.Mark (codes "[") t → is_open_square (role_of t) ≡ true
unfolding marks
open_square-is t h = passes is_open_square kinds.Mark (codes "[") t h refl

pub close_square-is : (t : Token) → Has kinds.Mark (codes "]") t → is_close_square (role_of t) ≡ true
unfolding marks
close_square-is t h = passes is_close_square kinds.Mark (codes "]") t h refl

pub not-is : (t : Token) → Has kinds.Key (codes "not") t → is_not (role_of t) ≡ true
unfolding keys
not-is t h = passes is_not kinds.Key (codes "not") t h refl

pub if-is : (t : Token) → Has kinds.Key (codes "if") t → is_if (role_of t) ≡ true
unfolding keys
if-is t h = passes is_if kinds.Key (codes "if") t h refl

pub then-is : (t : Token) → Has kinds.Key (codes "then") t → is_then (role_of t) ≡ true
unfolding keys
then-is t h = passes is_then kinds.Key (codes "then") t h refl

pub else-is : (t : Token) → Has kinds.Key (codes "else") t → is_else (role_of t) ≡ true
unfolding keys
else-is t h = passes is_else kinds.Key (codes "else") t h refl

pub leaf-is : (t : Token) → (t.kind ≡ kinds.Name) ⊎ ((t.kind ≡ kinds.Num) ⊎ (t.kind ≡ kinds.Str)) → is_leaf (role_of t) ≡ true
unfolding role_of
leaf-is t (inl e) = ap (λ k. is_leaf (role_as k t.text)) e
leaf-is t (inr (inl e)) = ap (λ k. is_leaf (role_as k t.text)) e
leaf-is t (inr (inr e)) = ap (λ k. is_leaf (role_as k t.text)) e

pub name-is : (t : Token) → t.kind ≡ kinds.Name → is_name (role_of t) ≡ true
unfolding role_of
name-is t e = ap (λ k. is_name (role_as k t.text)) e

pub number-is : (t : Token) → t.kind ≡ kinds.Num → is_number (role_of t) ≡ true
unfolding role_of
number-is t e = ap (λ k. is_number (role_as k t.text)) e

-- a token of which the text decides the meaning
pub record Taken (P : Role → Bool) {A : Type 0} (meaning : Token → A) (a : A) (ts rest : List Token) : Type 0 where
  pub token : Token
  pub text : ts ≡ token ∷ rest
  pub role : P (role_of token) ≡ true
  pub same : meaning token ≡ a

pub sign-sound : (b : Bool) (ts rest : List Token) → sign b ts rest → Taken is_sign is_minus b ts rest
unfolding marks is_minus
sign-sound true ts rest (t, h, e) = record { token = t; text = e; role = passes is_sign kinds.Mark (codes "-") t h refl; same = ap (bytes_eq (codes "-")) h.1 }
sign-sound false ts rest (t, h, e) = record { token = t; text = e; role = passes is_sign kinds.Mark (codes "+") t h refl; same = ap (bytes_eq (codes "-")) h.1 }

pub flow-sound : (b : Bool) (ts rest : List Token) → flow b ts rest → Taken is_net is_outflow b ts rest
unfolding keys is_outflow
flow-sound true ts rest (t, h, e) = record { token = t; text = e; role = passes is_net kinds.Key (codes "net_out") t h refl; same = ap (bytes_eq (codes "net_out")) h.1 }
flow-sound false ts rest (t, h, e) = record { token = t; text = e; role = passes is_net kinds.Key (codes "net_in") t h refl; same = ap (bytes_eq (codes "net_out")) h.1 }

reduction-as : List ℕ → Reduction
reduction-as x = if bytes_eq (codes "min") x then reductions.Min else if bytes_eq (codes "max") x then reductions.Max else reductions.Sum

pub reducer-sound : (q : Reduction) (ts rest : List Token) → reducer q ts rest → Taken is_reduction reduction q ts rest
unfolding keys reduction reduction-as
reducer-sound reductions.Sum ts rest (t, h, e) = record { token = t; text = e; role = passes is_reduction kinds.Key (codes "sum") t h refl; same = ap reduction-as h.1 }
reducer-sound reductions.Min ts rest (t, h, e) = record { token = t; text = e; role = passes is_reduction kinds.Key (codes "min") t h refl; same = ap reduction-as h.1 }
reducer-sound reductions.Max ts rest (t, h, e) = record { token = t; text = e; role = passes is_reduction kinds.Key (codes "max") t h refl; same = ap reduction-as h.1 }

-- the words of an operator
pub record Spelled (o : BinOp) (n : ℕ) (ts rest : List Token) : Type 0 where
  pub words : OperatorWords
  pub text : put_operator words rest ≡ ts
  pub level : trees.IsOperator words
  pub same : operation words ≡ o
  pub joins : (k : ℕ) → joins n k (role_of (head_of words)) ≡ can_follow k n o
  pub some : 0 < n
  pub few : n < of_or

abbrev bounded : ℕ → Bool
bounded n = nat_lt 0 n && nat_lt n of_or

bounds : (n : ℕ) → bounded n ≡ true → (0 < n) × (n < of_or)
bounds n h = grind (arith, nat_tests)

single : (kind : Kind) (text : List ℕ) (o : BinOp) (n : ℕ) → is_not (role_as kind text) ≡ false → operation_in operations text ≡ o → ((k : ℕ) → joins n k (role_as kind text) ≡ can_follow k n o) → bounded n ≡ true
    → (ts rest : List Token) → literal kind text ts rest → Spelled o n ts rest
unfolding operation
single kind text o n other means fits limits ts rest (t, h, e) = record {
  words = One t;
  text = sym e;
  level = ap is_not (has-role kind text t h) ∙ other;
  same = ap (operation_in operations) h.1 ∙ means;
  joins = λ k. ap (joins n k) (has-role kind text t h) ∙ fits k;
  some = (bounds n limits).0;
  few = (bounds n limits).1;
}

double : (text : List ℕ) (o : BinOp) → is_membership (role_as kinds.Key text) ≡ true → denied (operation_in operations text) ≡ o → ((k : ℕ) → can_follow k 7 o ≡ nat_eq k 0)
    → (ts rest : List Token) → (word (codes "not") ⨾ word text) ts rest → Spelled o 7 ts rest
unfolding operation keys
double text o membership means first ts rest (middle, (t, h, e), (u, g, f)) = record {
  words = Two t u;
  text = cc;
  level = (not-is t h, passes is_membership kinds.Key text u g membership);
  same = ap (λ x. denied (operation_in operations x)) g.1 ∙ means;
  joins = λ k. ap (joins 7 k) (has-role kinds.Key (codes "not") t h) ∙ sym (first k);
  some = omega arith;
  few = omega arith;
}

-- a proof for each entry of a table
abbrev Sound : List (Production × BinOp × ℕ) → Type 0
Sound [] = Unit {0}
Sound (e ∷ es) = ((ts rest : List Token) → e.0 ts rest → Spelled e.1 (of_operands e.2) ts rest) × Sound es

entry-sound : (es : List (Production × BinOp × ℕ)) (o : BinOp) (n : ℕ) (ts rest : List Token) → Sound es → IsEntry es o n ts rest → Spelled o n ts rest
entry-sound [] o n ts rest each h = absurd h
entry-sound (e ∷ es) o n ts rest each (inl ((same, level), h)) = subst (λ m. Spelled o m ts rest) level (subst (λ p. Spelled p (of_operands e.2) ts rest) same (each.0 ts rest h))
entry-sound (e ∷ es) o n ts rest each (inr h) = entry-sound es o n ts rest each.1 h

operators-are : Sound operators
unfolding marks keys operations
operators-are = (
  single kinds.Mark (codes "*") op.Times 1 refl refl (λ k. refl) refl,
  (
    single kinds.Key (codes "div") op.Div 1 refl refl (λ k. refl) refl,
    (
      single kinds.Key (codes "mod") op.Mod 1 refl refl (λ k. refl) refl,
      (
        single kinds.Mark (codes "+") op.Plus 2 refl refl (λ k. refl) refl,
        (
          single kinds.Mark (codes "-") op.Minus 2 refl refl (λ k. refl) refl,
          (
            single kinds.Mark (codes "..") op.Range 3 refl refl (λ k. refl) refl,
            (
              single kinds.Key (codes "by") op.Other 3 refl refl (λ k. refl) refl,
              (
                single kinds.Key (codes "cross") op.Cross 4 refl refl (λ k. refl) refl,
                (
                  single kinds.Key (codes "inter") op.Inter 5 refl refl (λ k. refl) refl,
                  (
                    single kinds.Key (codes "union") op.Union 6 refl refl (λ k. refl) refl,
                    (
                      single kinds.Key (codes "diff") op.Diff 6 refl refl (λ k. refl) refl,
                      (
                        single kinds.Key (codes "symdiff") op.Symdiff 6 refl refl (λ k. refl) refl,
                        (
                          single kinds.Mark (codes "=") op.Equal 7 refl refl (λ k. refl) refl,
                          (
                            single kinds.Mark (codes "==") op.Equal 7 refl refl (λ k. refl) refl,
                            (
                              single kinds.Mark (codes "<>") op.Unequal 7 refl refl (λ k. refl) refl,
                              (
                                single kinds.Mark (codes "!=") op.Unequal 7 refl refl (λ k. refl) refl,
                                (
                                  single kinds.Mark (codes "<") op.Less 7 refl refl (λ k. refl) refl,
                                  (
                                    single kinds.Mark (codes "<=") op.AtMost 7 refl refl (λ k. refl) refl,
                                    (
                                      single kinds.Mark (codes ">") op.Greater 7 refl refl (λ k. refl) refl,
                                      (
                                        single kinds.Mark (codes ">=") op.AtLeast 7 refl refl (λ k. refl) refl,
                                        (
                                          single kinds.Key (codes "in") op.In 7 refl refl (λ k. refl) refl,
                                          (
                                            double (codes "in") op.NotIn refl refl (λ k. refl),
                                            (
                                              single kinds.Key (codes "within") op.Within 7 refl refl (λ k. refl) refl,
                                              (
                                                double (codes "within") op.NotWithin refl refl (λ k. refl),
                                                (
                                                  single kinds.Key (codes "and") op.And 8 refl refl (λ k. refl) refl,
                                                  (
                                                    single kinds.Key (codes "or") op.Or 9 refl refl (λ k. refl) refl,
                                                    tt,
                                                  ),
                                                ),
                                              ),
                                            ),
                                          ),
                                        ),
                                      ),
                                    ),
                                  ),
                                ),
                              ),
                            ),
                          ),
                        ),
                      ),
                    ),
                  ),
                ),
              ),
            ),
          ),
        ),
      ),
    ),
  ),
)

pub operator-sound : (k n : ℕ) (o : BinOp) (ts rest : List Token) → IsOperator k n o ts rest → Spelled o n ts rest
operator-sound k n o ts rest h = entry-sound operators o n ts rest operators-are h.1
