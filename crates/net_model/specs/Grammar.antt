-- The grammar of expressions: a production for each form of the abstract syntax.
-- `IsExpression r x ts rest` says that ts begins with the tokens of x, an expression of precedence at
-- most r, and that rest follows. A greater precedence binds less tightly.
use Rattle.std.specs.Prelude.{◌≡◌, ◌≤◌, ◌<◌, ℕ, suc, min, nat_eq, if◌then◌else◌, Bool, true, false, List, ◌∷◌, codes, Option, None, Some}
use Rattle.net_lex.specs.declared.token.Kind.{Kind}
use Rattle.net_lex.specs.declared.token.Kind.TheVariants as kinds
use Rattle.net_lex.specs.declared.token.Token.{Token}
use Rattle.net_lex.specs.Productions.{◌⨾◌, nothing, literal, mark}
use Rattle.net_tree.specs.declared.operator.Reduction.{Reduction}
use Rattle.net_tree.specs.declared.operator.Reduction.TheVariants as reductions
use Rattle.net_tree.specs.Precedence.{of_one, of_reduction, of_product, of_sum, of_union, of_relation, of_or, of_if}
use Rattle.net_tree.specs.Syntax.{Expression, leaf, indexed, parens, tuple, negated, braced, signed, reduced, chain, conditional, net, Expressions, no_more, more, Operands, none, apply, Clause, absent, present, Braces, empty, filled}
use Rattle.net_model.specs.Operators.{Production, never, ◌∪◌, when, word, IsOperator}

-- this token, if it is of this kind
abbrev pub exactly : Kind → Token → Production
exactly kind t ts rest = (t.kind ≡ kind) × (ts ≡ t ∷ rest)

-- a name with this text
abbrev pub name : List ℕ → Production
name = literal kinds.Name

-- `-` if the argument is true, otherwise `+`
abbrev pub sign : Bool → Production
sign true = mark (codes "-")
sign false = mark (codes "+")

-- the keyword of a reduction
abbrev pub reducer : Reduction → Production
reducer reductions.Sum = word (codes "sum")
reducer reductions.Min = word (codes "min")
reducer reductions.Max = word (codes "max")

-- the maximum precedence of an operand that these operators follow: a reduction takes all of the
-- product after it, so no operator of that product can follow a reduction
abbrev pub room : ℕ → Operands → ℕ
room n none = n
room n (apply o x os) = if nat_eq n of_reduction then of_one else n

-- the maximum precedence of this expression as a value: a value is an `if`, or at most a union
abbrev pub of_value : Expression → ℕ
of_value (conditional x y p) = of_if
of_value _ = of_union

abbrev mutual
  pub IsExpression : ℕ → Expression → Production
  IsExpression r (leaf t) = exactly kinds.Name t ∪ exactly kinds.Num t ∪ exactly kinds.Str t
  IsExpression r (indexed n x xs) = name n ⨾ mark (codes "[") ⨾ IsExpression of_sum x ⨾ AreFurther of_sum xs ⨾ mark (codes "]")
  IsExpression r (parens x) = mark (codes "(") ⨾ IsExpression of_if x ⨾ mark (codes ")")
  IsExpression r (tuple x no_more) = never
  IsExpression r (tuple x (more y ys)) =
      mark (codes "(") ⨾ IsExpression of_sum x ⨾ mark (codes ",") ⨾ IsExpression of_sum y ⨾ AreFurther of_sum ys ⨾ mark (codes ")")
  IsExpression r (negated x) = word (codes "not") ⨾ mark (codes "(") ⨾ IsExpression of_or x ⨾ mark (codes ")")
  IsExpression r (braced b) = IsBraces b
  IsExpression r (signed minus x) = sign minus ⨾ IsExpression (min r of_reduction) x
  IsExpression r (reduced kind b x) = when (of_reduction ≤ r) (reducer kind ⨾ IsBraces b ⨾ IsExpression of_product x)
  IsExpression r (chain x none) = never
  -- an operand of precedence n, then operators with operands of precedence n
  IsExpression r (chain x (apply o y os)) = λ ts rest. (n : ℕ) × (n < r)
      × (IsExpression (room n (apply o y os)) x ⨾ IsOperator 0 n o ⨾ IsExpression (room n os) y ⨾ AreOperands 1 n os) ts rest
  IsExpression r (conditional x y p) =
      when (of_if ≤ r) (word (codes "if") ⨾ IsExpression of_or x ⨾ word (codes "then") ⨾ IsExpression of_union y ⨾ IsElse p)
  -- net terms occur only in the conditions of nodes
  IsExpression r (net minus out) = never

  -- the further expressions of a list, each of precedence at most r
  pub AreFurther : ℕ → Expressions → Production
  AreFurther r no_more = nothing
  AreFurther r (more x xs) = mark (codes ",") ⨾ IsExpression r x ⨾ AreFurther r xs

  -- operators with operands of precedence n, after k operators
  pub AreOperands : ℕ → ℕ → Operands → Production
  AreOperands k n none = nothing
  AreOperands k n (apply o x os) = IsOperator k n o ⨾ IsExpression (room n os) x ⨾ AreOperands (suc k) n os

  pub IsElse : Clause → Production
  IsElse absent = nothing
  IsElse (present x) = word (codes "else") ⨾ IsExpression (of_value x) x

  -- the condition of an indexing
  pub IsFilter : Clause → Production
  IsFilter absent = nothing
  IsFilter (present x) = mark (codes ":") ⨾ IsExpression of_or x

  pub IsBraces : Braces → Production
  IsBraces (empty p) = mark (codes "{") ⨾ IsFilter p ⨾ mark (codes "}")
  IsBraces (filled x xs p) = mark (codes "{") ⨾ IsExpression of_relation x ⨾ AreFurther of_relation xs ⨾ IsFilter p ⨾ mark (codes "}")

abbrev pub IsIndexing : Option Braces → Production
IsIndexing None = nothing
IsIndexing (Some b) = IsBraces b

abbrev pub IsValue : Expression → Production
IsValue x = IsExpression (of_value x) x
