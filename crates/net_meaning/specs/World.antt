-- The sets and parameters of a model with its data (AMPL book, chapters 5, 7 and 9; appendix A.12): which declaration or statement gives the
-- members of each set, and the value of each parameter at each key.
use Rattle.std.specs.Prelude.{◌≡◌, ◌⊎◌, ◌+◌, ◌≤◌, ◌||◌, ℕ, Bool, true, false, List, [], ◌∷◌, ◌++◌, map, length, Option, None, Some, if◌then◌else◌, ⊤, ℤ, pos, IsTrue}
use Rattle.std.specs.List.{AllByRecursion, AllZip, IsDistinct, Contains, flat_map, filter_map, list_any}
use Rattle.std.specs.Option.{ForSome}
use Rattle.std.specs.Str.{bytes_eq}
use Rattle.net_lex.specs.Limits.{limits}
use Rattle.net_lex.specs.Numerals.{IsValue as IsNumeral}
use Rattle.net_lex.specs.declared.token.Kind.{Kind}
use Rattle.net_lex.specs.declared.token.Kind.TheVariants.{Num, Dot}
use Rattle.net_lex.specs.declared.token.Token.{Token}
use Rattle.net_data.specs.declared.statement.DefaultValue.{DefaultValue}
use Rattle.net_data.specs.declared.statement.NamedSet.{NamedSet}
use Rattle.net_data.specs.declared.statement.Statement.{Statement}
use Rattle.net_data.specs.declared.statement.Statement.TheVariants as statements
use Rattle.net_data.specs.Rows.{DataRow, groups, rows, set_rows, key_rows}
use Rattle.net_sets.specs.declared.member.Member.{Member}
use Rattle.net_sets.specs.declared.member.Member.TheVariants as member
use Rattle.net_sets.specs.Operations.{is_within}
use Rattle.net_sets.specs.Sets.{Tuple, same_tuple, has}
use Rattle.net_sets.specs.Texts.{text_of}
use Rattle.net_tree.specs.declared.operator.BinOp.{BinOp}
use Rattle.net_tree.specs.declared.operator.BinOp.TheVariants as op
use Rattle.net_tree.specs.declared.role.Begins.TheVariants as begins
use Rattle.net_tree.specs.declared.role.Relation.TheVariants as relations
use Rattle.net_tree.specs.declared.role.Role.{Role}
use Rattle.net_tree.specs.declared.role.Role.TheVariants as roles
use Rattle.net_tree.specs.Phrases.{is_becomes, is_default}
use Rattle.net_tree.specs.Syntax.{Expression, Braces, Body, plain, valued, priced, Phrase, Declaration, set, param, check, node, arc, objective}
use Rattle.net_expr.specs.Worlds.{Name}
use Rattle.net_meaning.specs.Operators.{Value, One, Many, Truth, number, IsResult}
use Rattle.net_meaning.specs.Values.{World, SetOf, ParameterOf, Whether, Env, Key, start, env_of, IsValue, AreKeys}

-- ---- phrases of declarations

-- the expression of a phrase, if it has one
abbrev pub expression_of : Body → Option Expression
expression_of (valued x) = Some x
expression_of plain = None
expression_of (priced n x) = None

-- the expression of the first phrase whose keyword passes the test (the grammar allows no second one where this is used)
abbrev pub phrase_value : (Role → Bool) → List Phrase → Option Expression
phrase_value test [] = None
phrase_value test (p ∷ ps) = if test p.word then expression_of p.body else phrase_value test ps

-- the keys over which a declaration is indexed; without an indexing expression there is one, the empty key
abbrev pub AreIndexed : World → Option Braces → List Key → Type 0
AreIndexed w None keys = keys ≡ start (env_of w []) ∷ []
AreIndexed w (Some b) keys = AreKeys (env_of w []) b keys

-- ---- data statements

-- the value of a token of the data: a number, or a string; the dot, which marks a missing value, has none (`rows` leaves out rows with a dot)
abbrev pub IsDataValueOf : Kind → List ℕ → Member → Type 0
IsDataValueOf Dot text m = ⊥
IsDataValueOf Num text m = (n : ℤ) × IsNumeral limits.value text n × (m ≡ member.Number n)
IsDataValueOf _ text m = m ≡ member.Name (text_of text)

abbrev pub IsDataValue : Token → Member → Type 0
IsDataValue t m = IsDataValueOf t.kind t.text m

abbrev pub AreDataValues : List Token → Tuple → Type 0
AreDataValues ts key = AllZip IsDataValue ts key

-- the rows of a parameter in each column of a heading that names it
abbrev pub rows_at : ℕ → ℕ → Statement → Name → List Token → List DataRow
rows_at size column s n [] = []
rows_at size column s n (t ∷ ts) = (if bytes_eq t.text n then rows size column s else []) ++ rows_at size (column + 1) s n ts

-- the rows that a statement has for a parameter, if it has this number of subscripts
abbrev pub rows_of : ℕ → Name → Statement → List DataRow
rows_of size n (statements.Set s) = []
rows_of size n (statements.List l) = rows_at size 0 (statements.List l) n (l.name ∷ [])
rows_of size n (statements.Table t) = rows_at size 0 (statements.Table t) n (t.name ∷ [])
rows_of size n (statements.Columns c) = rows_at size 0 (statements.Columns c) n c.names

-- the statement gives members of this set
abbrev pub is_set_named : Option NamedSet → Name → Bool
is_set_named None n = false
is_set_named (Some s) n = bytes_eq s.name.text n

-- the rows that a statement has for a set, if it has this dimension
abbrev pub set_rows_of : ℕ → Name → Statement → List (List Token)
set_rows_of d n (statements.Set s) = if bytes_eq s.name.text n then set_rows d s.items else []
set_rows_of d n (statements.List l) = []
set_rows_of d n (statements.Table t) = []
set_rows_of d n (statements.Columns c) = if is_set_named c.set n then key_rows d (statements.Columns c) else []

-- the cells form whole groups of this size
abbrev pub AreWhole : ℕ → List Token → Type 0
AreWhole size cells = AllByRecursion (λ group. length group ≡ size) (groups size cells)

-- a statement that names n has whole rows of this number of keys and a value for each column; each name of a heading groups the cells by its own
-- number of subscripts. `lengths` of `IsSet` says it for a set. Rows of a table have two keys; `inside` of `IsParameter` excludes another size.
abbrev pub HasWholeRows : ℕ → Name → Statement → Type 0
HasWholeRows size n (statements.Set s) = ⊤
HasWholeRows size n (statements.List l) = Whether (bytes_eq l.name.text n) (ForSome l.given (λ g. AreWhole (size + 1) g.cells)) ⊤
HasWholeRows size n (statements.Table t) = Whether (bytes_eq t.name.text n) (AreWhole (length t.columns + 1) t.cells) ⊤
HasWholeRows size n (statements.Columns c) =
    Whether (is_set_named c.set n || list_any (λ (t : Token). bytes_eq t.text n) c.names) (AreWhole (size + length c.names) c.cells) ⊤

abbrev pub default_token : Option DefaultValue → Option Token
default_token None = None
default_token (Some d) = Some d.value

-- the default that a statement has for a parameter
abbrev pub default_in : Name → Statement → Option Token
default_in n (statements.Set s) = None
default_in n (statements.List l) = if bytes_eq l.name.text n then default_token l.default else None
default_in n (statements.Table t) = if bytes_eq t.name.text n then default_token t.default else None
default_in n (statements.Columns c) = None

-- the number of tokens that are this name
abbrev pub count_name : Name → List Token → ℕ
count_name n [] = 0
count_name n (t ∷ ts) = (if bytes_eq t.text n then 1 else 0) + count_name n ts

-- the number of times that a statement names a set or a parameter
abbrev pub mentions_in : Name → Statement → ℕ
mentions_in n (statements.Set s) = count_name n (s.name ∷ [])
mentions_in n (statements.List l) = count_name n (l.name ∷ [])
mentions_in n (statements.Table t) = count_name n (t.name ∷ [])
mentions_in n (statements.Columns c) = (if is_set_named c.set n then 1 else 0) + count_name n c.names

abbrev pub mentions : Name → List Statement → ℕ
mentions n [] = 0
mentions n (s ∷ ss) = mentions_in n s + mentions n ss

-- ---- sets

-- what a phrase requires of a set with dimension d and members ts; the set after `within` has the same dimension. A set has no other phrases.
abbrev pub SatisfiesRole : World → ℕ → List Tuple → Role → Expression → Type 0
SatisfiesRole w d ts (roles.Phrase begins.Dimen) x = IsValue (env_of w []) x (number (pos d)) × (1 ≤ d)
SatisfiesRole w d ts (roles.Relation relations.Within) x = (us : List Tuple) × IsValue (env_of w []) x (Many us) × AllByRecursion (λ t. length t ≡ d) us × IsTrue (is_within ts us)
SatisfiesRole w d ts roles.Becomes x = IsValue (env_of w []) x (Many ts)
SatisfiesRole w d ts _ x = ⊤

-- the set satisfies the phrase
abbrev pub Satisfies : World → ℕ → List Tuple → Phrase → Type 0
Satisfies w d ts p = ForSome (expression_of p.body) (SatisfiesRole w d ts p.word)

-- the members of a set: those of the expression after `:=` (by `SatisfiesRole`), and then no statement names the set; otherwise the rows of the
-- one statement that names it
abbrev pub AreGivenMembers : List Statement → Name → ℕ → List Tuple → Option Expression → Type 0
AreGivenMembers ss n d ts (Some x) = mentions n ss ≡ 0
AreGivenMembers ss n d ts None = (mentions n ss ≡ 1) × AllByRecursion (HasWholeRows d n) ss × AllZip AreDataValues (flat_map (set_rows_of d n) ss) ts

-- ts are the members of the set n with phrases ps, in the world w of the declarations before it
pub record IsSet (w : World) (ss : List Statement) (n : Name) (ps : List Phrase) (ts : List Tuple) : Type 0 where
  pub dimension : ℕ
  pub distinct : IsDistinct same_tuple ts
  pub lengths : AllByRecursion (λ t. length t ≡ dimension) ts
  -- a declaration without phrases declares a set of dimension 1
  pub single : ps ≡ [] → dimension ≡ 1
  pub phrases : AllByRecursion (Satisfies w dimension ts) ps
  pub members : AreGivenMembers ss n dimension ts (phrase_value is_becomes ps)

-- ---- parameters

-- the rows of the data for a parameter
abbrev pub data_rows : ℕ → Name → List Statement → List DataRow
data_rows size n ss = flat_map (rows_of size n) ss

-- the defaults of the data for a parameter
abbrev pub data_defaults : Name → List Statement → List Token
data_defaults n ss = filter_map (default_in n) ss

-- the data have no row for the key
abbrev pub HasNoRow : ℕ → Name → List Statement → Tuple → Type 0
HasNoRow size n ss key = AllByRecursion (λ (r : DataRow). AreDataValues r.keys key → ⊥) (data_rows size n ss)

-- the value of a parameter at a key, or None if it has no value there. It comes from the first of these sources: the data's row for this key,
-- the expression after `:=`, the data's default, the expression after `default`
pub data IsParameterValue (ss : List Statement) (n : Name) (ps : List Phrase) (size : ℕ) (k : Key) : Option Member → Type 0 where
  row : (r : DataRow) (m : Member) → Contains (data_rows size n ss) r → AreDataValues r.keys k.key → IsDataValue r.value m → IsParameterValue ss n ps size k (Some m)
  assigned : (x : Expression) (m : Member) → HasNoRow size n ss k.key → phrase_value is_becomes ps ≡ Some x → IsValue k.env x (One m) → IsParameterValue ss n ps size k (Some m)
  data_default : (t : Token) (m : Member) → HasNoRow size n ss k.key → phrase_value is_becomes ps ≡ None → Contains (data_defaults n ss) t → IsDataValue t m → IsParameterValue ss n ps size k (Some m)
  default : (x : Expression) (m : Member) → HasNoRow size n ss k.key → phrase_value is_becomes ps ≡ None → data_defaults n ss ≡ [] → phrase_value is_default ps ≡ Some x → IsValue k.env x (One m)
      → IsParameterValue ss n ps size k (Some m)
  nothing : HasNoRow size n ss k.key → phrase_value is_becomes ps ≡ None → data_defaults n ss ≡ [] → phrase_value is_default ps ≡ None → IsParameterValue ss n ps size k None

-- the operator of a phrase that restricts the values of a parameter
abbrev pub restriction_operator : Role → Option BinOp
restriction_operator (roles.Relation relations.Less) = Some op.Less
restriction_operator (roles.Relation relations.AtMost) = Some op.AtMost
restriction_operator (roles.Relation relations.Greater) = Some op.Greater
restriction_operator (roles.Relation relations.AtLeast) = Some op.AtLeast
restriction_operator (roles.Relation relations.Unequal) = Some op.Unequal
restriction_operator (roles.Relation relations.In) = Some op.In
restriction_operator _ = None

-- the operator holds between the value and that of the expression
abbrev pub FitsBy : Env → Member → Option BinOp → Option Expression → Type 0
FitsBy e m (Some o) (Some x) = (v : Value) × IsValue e x v × IsResult o (One m) v (Truth true)
FitsBy e m _ _ = ⊤

-- a value satisfies the restriction of a phrase, if it is one
abbrev pub Fits : Env → Member → Phrase → Type 0
Fits e m p = FitsBy e m (restriction_operator p.word) (expression_of p.body)

-- the keyword `symbolic`
abbrev pub is_symbolic_word : Role → Bool
is_symbolic_word (roles.Phrase begins.Symbolic) = true
is_symbolic_word _ = false

-- only a symbolic parameter has strings as values
abbrev pub IsOfKind : List Phrase → Member → Type 0
IsOfKind ps (member.Number n) = ⊤
IsOfKind ps (member.Name t) = IsTrue (list_any (λ (p : Phrase). is_symbolic_word p.word) ps)

-- the keys without their environments
abbrev pub keys_of : List Key → List Tuple
keys_of keys = map (λ k. k.key) keys

-- f gives the values of the parameter n with indexing expression b and phrases ps, in the world w of the declarations before it
pub record IsParameter (w : World) (ss : List Statement) (n : Name) (b : Option Braces) (ps : List Phrase) (f : Tuple → Option Member) : Type 0 where
  pub keys : List Key
  pub indexed : AreIndexed w b keys
  pub size : ℕ
  pub lengths : AllByRecursion (λ (k : Key). length k.key ≡ size) keys
  pub values : AllByRecursion (λ (k : Key). IsParameterValue ss n ps size k (f k.key)) keys
  pub elsewhere : (t : Tuple) → has (keys_of keys) t ≡ false → f t ≡ None
  pub fits : AllByRecursion (λ (k : Key). ForSome (f k.key) (λ m. AllByRecursion (Fits k.env m) ps × IsOfKind ps m)) keys
  -- each row of the data is whole and for one of the keys, and no key has two rows
  pub whole : AllByRecursion (HasWholeRows size n) ss
  pub subscripts : List Tuple
  pub read : AllZip (λ (r : DataRow) key. AreDataValues r.keys key) (data_rows size n ss) subscripts
  pub inside : AllByRecursion (λ key. IsTrue (has (keys_of keys) key)) subscripts
  pub once : IsDistinct same_tuple subscripts
  -- a parameter with `:=` has no data, and the data have at most one default
  pub assigned : (phrase_value is_becomes ps ≡ None) ⊎ (mentions n ss ≡ 0)
  pub defaults : length (data_defaults n ss) ≤ 1

-- ---- worlds

-- the declarations in order, each in the world of those before it; a `check` is true at each of its keys
abbrev pub Binds : List Statement → World → List Declaration → World → Type 0
Binds ss before [] w = w ≡ before
Binds ss before (set n ps ∷ ds) w = (ts : List Tuple) × IsSet before ss n ps ts × Binds ss (before ++ (n, SetOf ts) ∷ []) ds w
Binds ss before (param n b ps ∷ ds) w = (f : Tuple → Option Member) × IsParameter before ss n b ps f × Binds ss (before ++ (n, ParameterOf f) ∷ []) ds w
Binds ss before (check b x ∷ ds) w = (keys : List Key) × AreIndexed before b keys × AllByRecursion (λ (k : Key). IsValue k.env x (Truth true)) keys × Binds ss before ds w
Binds ss before (d ∷ ds) w = Binds ss before ds w

-- the names of declared sets
abbrev pub sets_in : List Declaration → List Name
sets_in [] = []
sets_in (set n ps ∷ ds) = n ∷ sets_in ds
sets_in (d ∷ ds) = sets_in ds

-- the names of declared parameters
abbrev pub params_in : List Declaration → List Name
params_in [] = []
params_in (param n b ps ∷ ds) = n ∷ params_in ds
params_in (d ∷ ds) = params_in ds

-- the declared names
abbrev pub names_in : List Declaration → List Name
names_in [] = []
names_in (set n ps ∷ ds) = n ∷ names_in ds
names_in (param n b ps ∷ ds) = n ∷ names_in ds
names_in (node n b c ∷ ds) = n ∷ names_in ds
names_in (arc n b ps ∷ ds) = n ∷ names_in ds
names_in (objective minimizes n p ∷ ds) = n ∷ names_in ds
names_in (check b x ∷ ds) = names_in ds

-- each token is one of the names
abbrev pub AreNamesIn : List Name → List Token → Type 0
AreNamesIn names ts = AllByRecursion (λ (t : Token). Contains names t.text) ts

-- a statement names declared sets and parameters alone
abbrev pub AreDeclared : List Declaration → Statement → Type 0
AreDeclared ds (statements.Set s) = AreNamesIn (sets_in ds) (s.name ∷ [])
AreDeclared ds (statements.List l) = AreNamesIn (params_in ds) (l.name ∷ [])
AreDeclared ds (statements.Table t) = AreNamesIn (params_in ds) (t.name ∷ [])
AreDeclared ds (statements.Columns c) = ForSome c.set (λ s. AreNamesIn (sets_in ds) (s.name ∷ [])) × AreNamesIn (params_in ds) c.names

-- w is the world of the declarations ds with the data statements ss
pub record IsWorld (ds : List Declaration) (ss : List Statement) (w : World) : Type 0 where
  pub bound : Binds ss [] ds w
  pub declared : AllByRecursion (AreDeclared ds) ss
