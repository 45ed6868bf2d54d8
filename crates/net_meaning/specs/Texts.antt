-- A property P of texts: values, worlds and environments all of whose texts have it, and expressions, declarations and data statements all of
-- whose names and strings have it.
use Rattle.std.specs.Prelude.{ℕ, List, [], ◌∷◌, ⊤}
use Rattle.std.specs.List.{AllByRecursion, Contains}
use Rattle.std.specs.Option.{ForSome}
use Rattle.net_lex.specs.declared.token.Token.{Token}
use Rattle.net_data.specs.declared.statement.DefaultValue.{DefaultValue}
use Rattle.net_data.specs.declared.statement.Given.{Given}
use Rattle.net_data.specs.declared.statement.Statement.{Statement}
use Rattle.net_data.specs.declared.statement.Statement.TheVariants as statements
use Rattle.net_sets.specs.declared.member.Member.{Member}
use Rattle.net_sets.specs.declared.member.Member.TheVariants as member
use Rattle.net_sets.specs.Sets.{Tuple}
use Rattle.net_sets.specs.Texts.{text_of}
use Rattle.net_tree.specs.Syntax.{Expression, Expressions, Operands, Clause, Braces, leaf, indexed, parens, tuple, negated, braced, signed, reduced, chain, conditional, net, no_more, more, none, apply, absent, present, empty, filled, Body, plain, valued, priced, Phrase, Condition, unsaid, one, between, Declaration, set, param, check, node, arc, objective}
use Rattle.net_expr.specs.declared.scope.Binding.{Binding}
use Rattle.net_expr.specs.Worlds.{Name, Scope}
use Rattle.net_meaning.specs.Operators.{Value, One, Several, Many, Truth}
use Rattle.net_meaning.specs.Network.{Label}
use Rattle.net_meaning.specs.Values.{Meaning, SetOf, ParameterOf, World, Env, Key}

-- ---- values and environments

-- a number has no text
abbrev pub MemberHolds : (List ℕ → Type 0) → Member → Type 0
MemberHolds P (member.Number n) = ⊤
MemberHolds P (member.Name text) = P text

abbrev pub TupleHolds : (List ℕ → Type 0) → Tuple → Type 0
TupleHolds P t = AllByRecursion (MemberHolds P) t

abbrev pub TuplesHold : (List ℕ → Type 0) → List Tuple → Type 0
TuplesHold P ts = AllByRecursion (TupleHolds P) ts

abbrev pub ValueHolds : (List ℕ → Type 0) → Value → Type 0
ValueHolds P (One m) = MemberHolds P m
ValueHolds P (Several t) = TupleHolds P t
ValueHolds P (Many ts) = TuplesHold P ts
ValueHolds P (Truth b) = ⊤

-- the members of a set; the keys at which a parameter has a value, and these values
abbrev pub MeaningHolds : (List ℕ → Type 0) → Meaning → Type 0
MeaningHolds P (SetOf ts) = TuplesHold P ts
MeaningHolds P (ParameterOf f) = (key : Tuple) → ForSome (f key) (λ m. TupleHolds P key × MemberHolds P m)

abbrev pub WorldHolds : (List ℕ → Type 0) → World → Type 0
WorldHolds P w = AllByRecursion (λ (x : Name × Meaning). MeaningHolds P x.1) w

-- the members of dummy indices
abbrev pub ScopeHolds : (List ℕ → Type 0) → Scope → Type 0
ScopeHolds P s = AllByRecursion (λ (b : Binding). MemberHolds P b.member) s

abbrev pub EnvHolds : (List ℕ → Type 0) → Env → Type 0
EnvHolds P e = WorldHolds P e.world × ScopeHolds P e.dummies

abbrev pub KeyHolds : (List ℕ → Type 0) → Key → Type 0
KeyHolds P k = TupleHolds P k.key × EnvHolds P k.env

abbrev pub KeysHold : (List ℕ → Type 0) → List Key → Type 0
KeysHold P keys = AllByRecursion (KeyHolds P) keys

-- ---- expressions

-- the text of a name or a string
abbrev pub TokenHolds : (List ℕ → Type 0) → Token → Type 0
TokenHolds P t = P (text_of t.text)

abbrev pub TokensHold : (List ℕ → Type 0) → List Token → Type 0
TokensHold P ts = AllByRecursion (TokenHolds P) ts

abbrev mutual
  pub ExpressionHolds : (List ℕ → Type 0) → Expression → Type 0
  ExpressionHolds P (leaf t) = TokenHolds P t
  ExpressionHolds P (indexed n x l) = ExpressionHolds P x × ExpressionsHold P l
  ExpressionHolds P (parens x) = ExpressionHolds P x
  ExpressionHolds P (tuple x l) = ExpressionHolds P x × ExpressionsHold P l
  ExpressionHolds P (negated x) = ExpressionHolds P x
  ExpressionHolds P (braced b) = BracesHold P b
  ExpressionHolds P (signed minus x) = ExpressionHolds P x
  ExpressionHolds P (reduced r b x) = BracesHold P b × ExpressionHolds P x
  ExpressionHolds P (chain x l) = ExpressionHolds P x × OperandsHold P l
  ExpressionHolds P (conditional x y p) = ExpressionHolds P x × ExpressionHolds P y × ClauseHolds P p
  ExpressionHolds P (net minus out) = ⊤

  pub ExpressionsHold : (List ℕ → Type 0) → Expressions → Type 0
  ExpressionsHold P no_more = ⊤
  ExpressionsHold P (more x l) = ExpressionHolds P x × ExpressionsHold P l

  pub OperandsHold : (List ℕ → Type 0) → Operands → Type 0
  OperandsHold P none = ⊤
  OperandsHold P (apply o x l) = ExpressionHolds P x × OperandsHold P l

  pub ClauseHolds : (List ℕ → Type 0) → Clause → Type 0
  ClauseHolds P absent = ⊤
  ClauseHolds P (present x) = ExpressionHolds P x

  pub BracesHold : (List ℕ → Type 0) → Braces → Type 0
  BracesHold P (empty p) = ClauseHolds P p
  BracesHold P (filled x l p) = ExpressionHolds P x × ExpressionsHold P l × ClauseHolds P p

-- ---- declarations

abbrev pub BodyHolds : (List ℕ → Type 0) → Body → Type 0
BodyHolds P plain = ⊤
BodyHolds P (valued x) = ExpressionHolds P x
BodyHolds P (priced n x) = ExpressionHolds P x

abbrev pub PhrasesHold : (List ℕ → Type 0) → List Phrase → Type 0
PhrasesHold P ps = AllByRecursion (λ (p : Phrase). BodyHolds P p.body) ps

abbrev pub ConditionHolds : (List ℕ → Type 0) → Condition → Type 0
ConditionHolds P unsaid = ⊤
ConditionHolds P (one x o y) = ExpressionHolds P x × ExpressionHolds P y
ConditionHolds P (between x o y p z) = ExpressionHolds P x × ExpressionHolds P y × ExpressionHolds P z

-- the expressions of a declaration
abbrev pub DeclarationHolds : (List ℕ → Type 0) → Declaration → Type 0
DeclarationHolds P (set n ps) = PhrasesHold P ps
DeclarationHolds P (param n b ps) = ForSome b (BracesHold P) × PhrasesHold P ps
DeclarationHolds P (check b x) = ForSome b (BracesHold P) × ExpressionHolds P x
DeclarationHolds P (node n b c) = ForSome b (BracesHold P) × ConditionHolds P c
DeclarationHolds P (arc n b ps) = ForSome b (BracesHold P) × PhrasesHold P ps
DeclarationHolds P (objective minimizes n p) = ClauseHolds P p

abbrev pub DeclarationsHold : (List ℕ → Type 0) → List Declaration → Type 0
DeclarationsHold P ds = AllByRecursion (DeclarationHolds P) ds

-- ---- data statements

-- the members, the cells and the default of a statement
abbrev pub StatementHolds : (List ℕ → Type 0) → Statement → Type 0
StatementHolds P (statements.Set s) = TokensHold P s.items
StatementHolds P (statements.List l) = ForSome l.default (λ (d : DefaultValue). TokenHolds P d.value) × ForSome l.given (λ (g : Given). TokensHold P g.cells)
StatementHolds P (statements.Table t) = ForSome t.default (λ (d : DefaultValue). TokenHolds P d.value) × TokensHold P t.columns × TokensHold P t.cells
StatementHolds P (statements.Columns c) = TokensHold P c.cells

abbrev pub StatementsHold : (List ℕ → Type 0) → List Statement → Type 0
StatementsHold P ss = AllByRecursion (StatementHolds P) ss

-- ---- labels

-- the names of the declarations of nodes
abbrev pub nodes_in : List Declaration → List Name
nodes_in [] = []
nodes_in (node n b c ∷ ds) = n ∷ nodes_in ds
nodes_in (d ∷ ds) = nodes_in ds

-- the names of the declarations of arcs
abbrev pub arcs_in : List Declaration → List Name
arcs_in [] = []
arcs_in (arc n b ps ∷ ds) = n ∷ arcs_in ds
arcs_in (d ∷ ds) = arcs_in ds

-- the name is one of these, and the texts of the key have the property
abbrev pub LabelHolds : (List ℕ → Type 0) → List Name → Label → Type 0
LabelHolds P names l = Contains names l.name × TupleHolds P l.key
