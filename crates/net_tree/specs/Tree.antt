-- Models in the specification: syntax trees that contain every token of the text.
use Rattle.std.specs.Prelude.{ℕ, List, Option}
use Rattle.net_lex.specs.declared.token.Token.{Token}
use Rattle.net_tree.specs.declared.operator.OperatorWords.{OperatorWords as Operator}

mutual
  -- an expression; the comments give an example of each form
  pub data Tree : Type 0 where
    -- 3    'NE'    i
    leaf : Token → Tree
    -- cost [ i , j ]
    indexed : Token → Token → Tree → Links → Token → Tree
    -- ( a + b )
    parens : Token → Tree → Token → Tree
    -- ( i , j )
    tuple : Token → Tree → Links → Token → Tree
    -- not ( a < b )
    negated : Token → Token → Tree → Token → Tree
    -- {i in A}    as a set
    braced : Braces → Tree
    -- - a
    signed : Token → Tree → Tree
    -- sum {i in A} a[i]
    reduced : Token → Braces → Tree → Tree
    -- a + b - c    the number is the maximum precedence of an operand
    chain : ℕ → Tree → Links → Tree
    -- if a then b else c
    choice : Token → Tree → Token → Tree → Part → Tree
    -- net_in    - net_in
    net : Option Token → Token → Tree

  -- operators or commas, each with the expression after it
  pub data Links : Type 0 where
    none : Links
    link : Operator → Tree → Links → Links

  -- a clause introduced by punctuation or a keyword, if present:  : a > b    else c
  pub data Part : Type 0 where
    absent : Part
    part : Token → Tree → Part

  pub data Braces : Type 0 where
    -- { : a > b }
    empty : Token → Part → Token → Braces
    -- { i in A , j in B : i > j }
    filled : Token → Tree → Links → Part → Token → Braces

-- what follows the keyword of a phrase
pub data Body : Type 0 where
  -- integer
  plain : Body
  -- >= 0    dimen 2    from N[i]
  valued : Tree → Body
  -- obj Cost 3
  priced : Token → Tree → Body

pub record Phrase : Type 0 where
  pub comma : Option Token
  pub word : Token
  pub body : Body

-- the condition on a node's net flow, with the colon before it
pub data Condition : Type 0 where
  unsaid : Condition
  -- : net_in = 3
  one : Token → Tree → Token → Tree → Condition
  -- : 1 <= net_in <= 4
  between : Token → Tree → Token → Tree → Token → Tree → Condition

pub data Declaration : Type 0 where
  -- set S dimen 2 ;
  set : Token → Token → List Phrase → Token → Declaration
  -- param p {S} >= 0 ;
  param : Token → Token → Option Braces → List Phrase → Token → Declaration
  -- check {i in S} : p[i] > 0 ;
  check : Token → Option Braces → Token → Tree → Token → Declaration
  -- node N {i in S} : net_in = p[i] ;
  node : Token → Token → Option Braces → Condition → Token → Declaration
  -- arc A {i in S} >= 0 , <= 9 , to N[i] , obj Cost 1 ;
  arc : Token → Token → Option Braces → List Phrase → Token → Declaration
  -- maximize Total : A + 3 ;
  objective : Token → Token → Part → Token → Declaration
