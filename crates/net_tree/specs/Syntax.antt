-- The abstract syntax of models: expressions, phrases and declarations, without punctuation.
use Rattle.std.specs.Prelude.{ℕ, Bool, List, Option}
use Rattle.net_lex.specs.declared.token.Token.{Token}
use Rattle.net_tree.specs.declared.operator.BinOp.{BinOp}
use Rattle.net_tree.specs.declared.operator.Reduction.{Reduction}
use Rattle.net_tree.specs.declared.role.Role.{Role}

mutual
  -- an expression; the comments give an example of each form
  pub data Expression : Type 0 where
    -- 3    'NE'    i
    leaf : Token → Expression
    -- cost[i, j]
    indexed : List ℕ → Expression → Expressions → Expression
    -- (a + b)
    parens : Expression → Expression
    -- (i, j)
    tuple : Expression → Expressions → Expression
    -- not (a < b)
    negated : Expression → Expression
    -- {i in A}    as a set
    braced : Braces → Expression
    -- - a    whether the sign is a minus
    signed : Bool → Expression → Expression
    -- sum {i in A} a[i]
    reduced : Reduction → Braces → Expression → Expression
    -- a + b - c
    chain : Expression → Operands → Expression
    -- if a then b else c
    conditional : Expression → Expression → Clause → Expression
    -- - net_out    whether a minus precedes it, and whether it is `net_out`
    net : Bool → Bool → Expression

  -- the further expressions of a list
  pub data Expressions : Type 0 where
    no_more : Expressions
    more : Expression → Expressions → Expressions

  -- operators, each with the operand after it
  pub data Operands : Type 0 where
    none : Operands
    apply : BinOp → Expression → Operands → Operands

  -- the expression after `else` or a colon, if there is one
  pub data Clause : Type 0 where
    absent : Clause
    present : Expression → Clause

  pub data Braces : Type 0 where
    -- { : a > b }
    empty : Clause → Braces
    -- {i in A, j in B : i > j}
    filled : Expression → Expressions → Clause → Braces

-- what follows the keyword of a phrase
pub data Body : Type 0 where
  -- integer
  plain : Body
  -- >= 0    dimen 2    from N[i]
  valued : Expression → Body
  -- obj Cost 3
  priced : List ℕ → Expression → Body

-- a phrase of a declaration: what its keyword means, and what follows it
pub record Phrase : Type 0 where
  pub word : Role
  pub body : Body

-- the condition on a node's net flow
pub data Condition : Type 0 where
  unsaid : Condition
  -- : net_in = 3
  one : Expression → BinOp → Expression → Condition
  -- : 1 <= net_in <= 4
  between : Expression → BinOp → Expression → BinOp → Expression → Condition

-- a declaration; all but `check` have a name
pub data Declaration : Type 0 where
  -- set S dimen 2;
  set : List ℕ → List Phrase → Declaration
  -- param p {S} >= 0;
  param : List ℕ → Option Braces → List Phrase → Declaration
  -- check {i in S} : p[i] > 0;
  check : Option Braces → Expression → Declaration
  -- node N {i in S} : net_in = p[i];
  node : List ℕ → Option Braces → Condition → Declaration
  -- arc A {i in S} >= 0, <= 9, to N[i], obj Cost 1;
  arc : List ℕ → Option Braces → List Phrase → Declaration
  -- minimize Total : A + 3;    whether it minimizes
  objective : Bool → List ℕ → Clause → Declaration
