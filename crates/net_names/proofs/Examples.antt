-- The first fault of the names of some models, worked out.
use Rattle.std.specs.Prelude.{◌≡◌, ℕ, ◌+◌, List, [], ◌∷◌, Option, None, Some, codes}
use Rattle.std.proofs.Common.{refl}
use Rattle.net_lex.specs.declared.token.Token.{Token}
use Rattle.net_lex.specs.declared.token.Kind.{Kind}
use Rattle.net_lex.specs.declared.token.Kind.TheVariants as kinds
use Rattle.net_tree.specs.declared.operator.OperatorWords.TheVariants.{One, Two}
use Rattle.net_tree.specs.Operations.{operation, operations}
use Rattle.net_tree.specs.Role.{role_of, marks, keys}
use Rattle.net_tree.specs.Tree.{Tree, Braces, leaf, indexed, parens, tuple, braced, reduced, chain, none, link, absent, part, filled, valued, priced, Phrase, unsaid, Declaration, set, check, node, arc, objective}
use Rattle.net_base.specs.declared.error_code.ErrorCode.TheVariants as error_codes
use Rattle.net_names.specs.Reported.{Fault}
use Rattle.net_names.specs.Names.{names_fault}

-- a token at a place
abbrev token : Kind → List ℕ → ℕ → Token
token k t n = record { kind = k; text = t; span = record { start = n; end = n + 1 } }

-- a mark whose text no rule of names looks at
abbrev mark : Token
mark = token kinds.Mark (codes ";") 0

abbrev key : List ℕ → Token
key t = token kinds.Key t 0

abbrev name : List ℕ → ℕ → Token
name = token kinds.Name

abbrev named : List ℕ → ℕ → Tree
named t n = leaf (name t n)

abbrev number : Tree
number = leaf (token kinds.Num (codes "1") 0)

-- x in y,  x not in y,  x + y,  1 .. x
abbrev is_in : Tree → Tree → Tree
is_in x y = chain 7 x (link (One (key (codes "in"))) y none)

abbrev not_in : Tree → Tree → Tree
not_in x y = chain 7 x (link (Two (key (codes "not")) (key (codes "in"))) y none)

abbrev plus : Tree → Tree → Tree
plus x y = chain 2 x (link (One (token kinds.Mark (codes "+") 0)) y none)

abbrev up_to : Tree → Tree
up_to x = chain 3 number (link (One (token kinds.Mark (codes "..") 0)) x none)

abbrev pair : Tree → Tree → Tree
pair x y = tuple mark x (link (One mark) y none) mark

-- braces of one item, of two, and of one with a condition
abbrev braces : Tree → Braces
braces x = filled mark x none absent mark

abbrev two : Tree → Tree → Braces
two x y = filled mark x (link (One mark) y none) absent mark

abbrev where_ : Tree → Tree → Braces
where_ x y = filled mark x none (part mark y) mark

-- set S;  param p {..};  check {..}: x;  node N;  arc X phrase;  minimize C;  minimize C: x;
abbrev a_set : List ℕ → ℕ → Declaration
a_set t n = set mark (name t n) [] mark

abbrev within : List ℕ → ℕ → Tree → Declaration
within t n x = set mark (name t n) (record { comma = None; word = key (codes "within"); body = valued x } ∷ []) mark

abbrev checks : Braces → Tree → Declaration
checks b x = check mark (Some b) mark x mark

abbrev a_node : List ℕ → ℕ → Declaration
a_node t n = node mark (name t n) None unsaid mark

abbrev an_arc : List ℕ → ℕ → Phrase → Declaration
an_arc t n p = arc mark (name t n) None (p ∷ []) mark

abbrev from : Tree → Phrase
from x = record { comma = None; word = key (codes "from"); body = valued x }

abbrev obj : List ℕ → ℕ → Tree → Phrase
obj t n x = record { comma = None; word = key (codes "obj"); body = priced (name t n) x }

abbrev goal : List ℕ → ℕ → Declaration
goal t n = objective mark (name t n) absent mark

abbrev goal_of : List ℕ → ℕ → Tree → Declaration
goal_of t n x = objective mark (name t n) (part mark x) mark

abbrev first : List Declaration → Option Fault
first = names_fault []

abbrev fine : Option Fault
fine = None

abbrev undeclared : List ℕ → ℕ → Option Fault
undeclared t n = Some (error_codes.Undeclared, name t n)

abbrev redeclared : List ℕ → ℕ → Option Fault
redeclared t n = Some (error_codes.Redeclared, name t n)

abbrev left_out : List ℕ → ℕ → Option Fault
left_out t n = Some (error_codes.LeftOut, name t n)

-- set A; check {i in A}: i; set i;     a dummy may have a name that is declared later
later_declared : first (a_set (codes "A") 1 ∷ checks (braces (is_in (named (codes "i") 2) (named (codes "A") 3))) (named (codes "i") 4) ∷ a_set (codes "i") 5 ∷ []) ≡ fine
unfolding role_of marks keys operation operations
later_declared = refl

-- check {i in A}: i; set A;
used_before : first (checks (braces (is_in (named (codes "i") 1) (named (codes "A") 2))) (named (codes "i") 3) ∷ a_set (codes "A") 4 ∷ []) ≡ undeclared (codes "A") 2
unfolding role_of marks keys operation operations
used_before = refl

-- set A; check {i in A}: i; check {i in A}: i;     a dummy of one declaration is new in the next
dummy_again : first (a_set (codes "A") 1 ∷ checks (braces (is_in (named (codes "i") 2) (named (codes "A") 3))) (named (codes "i") 4) ∷ checks (braces (is_in (named (codes "i") 5) (named (codes "A") 6))) (named (codes "i") 7) ∷ []) ≡ fine
unfolding role_of marks keys operation operations
dummy_again = refl

-- set A; check {i in A}: i; check {1}: i;     and means nothing there without braces of its own
dummy_gone : first (a_set (codes "A") 1 ∷ checks (braces (is_in (named (codes "i") 2) (named (codes "A") 3))) (named (codes "i") 4) ∷ checks (braces number) (named (codes "i") 5) ∷ []) ≡ undeclared (codes "i") 5
unfolding role_of marks keys operation operations
dummy_gone = refl

-- set A within B; set A;     a name that is used stands before one that is declared again, and the other way round
used_first : first (within (codes "A") 1 (named (codes "B") 2) ∷ a_set (codes "A") 3 ∷ []) ≡ undeclared (codes "B") 2
unfolding role_of marks keys operation operations
used_first = refl

-- set A; set A within B;
declared_first : first (a_set (codes "A") 1 ∷ within (codes "A") 2 (named (codes "B") 3) ∷ []) ≡ redeclared (codes "A") 2
unfolding role_of marks keys operation operations
declared_first = refl

-- set A within A;     a declaration does not see its own name
own_name : first (within (codes "A") 1 (named (codes "A") 2) ∷ []) ≡ undeclared (codes "A") 2
unfolding role_of marks keys operation operations
own_name = refl

-- check {i in 1..i}: i;     a set does not see the dummy of its own item
own_set : first (checks (braces (is_in (named (codes "i") 1) (up_to (named (codes "i") 2)))) (named (codes "i") 3) ∷ []) ≡ undeclared (codes "i") 2
unfolding role_of marks keys operation operations
own_set = refl

-- check {i in 1..1, j in 1..i}: i + j;     a later item does
later_item : first (checks (two (is_in (named (codes "i") 1) (up_to number)) (is_in (named (codes "j") 2) (up_to (named (codes "i") 3)))) (plus (named (codes "i") 4) (named (codes "j") 5)) ∷ []) ≡ fine
unfolding role_of marks keys operation operations
later_item = refl

-- set A; check {i in {i in A}}: i;     braces in the set may have a dummy of the same name
nested_braces : first (a_set (codes "A") 1 ∷ checks (braces (is_in (named (codes "i") 2) (braced (braces (is_in (named (codes "i") 3) (named (codes "A") 4)))))) (named (codes "i") 5) ∷ []) ≡ fine
unfolding role_of marks keys operation operations
nested_braces = refl

-- set L; check {(i, i) in L}: i;     the second i is the dummy that the first one is
twice : first (a_set (codes "L") 1 ∷ checks (braces (is_in (pair (named (codes "i") 2) (named (codes "i") 3)) (named (codes "L") 4))) (named (codes "i") 5) ∷ []) ≡ fine
unfolding role_of marks keys operation operations
twice = refl

-- set L; check {(i, j + i) in L}: i;     what is no bare name is an expression
component : first (a_set (codes "L") 1 ∷ checks (braces (is_in (pair (named (codes "i") 2) (plus (named (codes "j") 3) (named (codes "i") 4))) (named (codes "L") 5))) (named (codes "i") 6) ∷ []) ≡ undeclared (codes "j") 3
unfolding role_of marks keys operation operations
component = refl

-- set A; check {(i) in A}: i;     neither is a name in parentheses
in_parens : first (a_set (codes "A") 1 ∷ checks (braces (is_in (parens mark (named (codes "i") 2) mark) (named (codes "A") 3))) (named (codes "i") 4) ∷ []) ≡ undeclared (codes "i") 2
unfolding role_of marks keys operation operations
in_parens = refl

-- set A; check {i not in A}: i;     `not in` brings in no dummy
negated : first (a_set (codes "A") 1 ∷ checks (braces (not_in (named (codes "i") 2) (named (codes "A") 3))) (named (codes "i") 4) ∷ []) ≡ undeclared (codes "i") 2
unfolding role_of marks keys operation operations
negated = refl

-- set A; node N; check {N in A}: 1;     a name that is declared is no new dummy
node_as_dummy : first (a_set (codes "A") 1 ∷ a_node (codes "N") 2 ∷ checks (braces (is_in (named (codes "N") 3) (named (codes "A") 4))) number ∷ []) ≡ undeclared (codes "N") 3
unfolding role_of marks keys operation operations
node_as_dummy = refl

-- set A; set B; check {B in A}: 1;     a set may stand there
set_as_left : first (a_set (codes "A") 1 ∷ a_set (codes "B") 2 ∷ checks (braces (is_in (named (codes "B") 3) (named (codes "A") 4))) number ∷ []) ≡ fine
unfolding role_of marks keys operation operations
set_as_left = refl

-- set A; check {i in A: i}: (sum {j in A} j) + j;     a dummy of a reduction ends with what is added up
after_sum : first (a_set (codes "A") 1 ∷ checks (where_ (is_in (named (codes "i") 2) (named (codes "A") 3)) (named (codes "i") 4)) (plus (reduced mark (braces (is_in (named (codes "j") 5) (named (codes "A") 6))) (named (codes "j") 7)) (named (codes "j") 8)) ∷ []) ≡ undeclared (codes "j") 8
unfolding role_of marks keys operation operations
after_sum = refl

-- node N; arc X from N; minimize C: X;     arcs may stand in objectives
arc_in_objective : first (a_node (codes "N") 1 ∷ an_arc (codes "X") 2 (from (named (codes "N") 3)) ∷ goal_of (codes "C") 4 (named (codes "X") 5) ∷ []) ≡ fine
unfolding role_of marks keys operation operations
arc_in_objective = refl

-- node N; arc X from N; check {1}: X;     and nowhere else
arc_in_check : first (a_node (codes "N") 1 ∷ an_arc (codes "X") 2 (from (named (codes "N") 3)) ∷ checks (braces number) (named (codes "X") 4) ∷ []) ≡ undeclared (codes "X") 4
unfolding role_of marks keys operation operations
arc_in_check = refl

-- set N; arc X from N;
set_as_end : first (a_set (codes "N") 1 ∷ an_arc (codes "X") 2 (from (named (codes "N") 3)) ∷ []) ≡ undeclared (codes "N") 3
unfolding role_of marks keys operation operations
set_as_end = refl

-- set A; node N; arc X from N[N];     a node is needed before the subscripts and not in them
node_in_subscript : first (a_set (codes "A") 1 ∷ a_node (codes "N") 2 ∷ an_arc (codes "X") 3 (from (indexed (name (codes "N") 4) mark (named (codes "N") 5) none mark)) ∷ []) ≡ undeclared (codes "N") 5
unfolding role_of marks keys operation operations
node_in_subscript = refl

-- minimize C: 1; arc X obj C D;     the objective stands before what is behind it
stated : first (goal_of (codes "C") 1 number ∷ an_arc (codes "X") 2 (obj (codes "C") 3 (named (codes "D") 4)) ∷ []) ≡ left_out (codes "C") 3
unfolding role_of marks keys operation operations
stated = refl

-- minimize C; arc X obj C 1;
priced_arc : first (goal (codes "C") 1 ∷ an_arc (codes "X") 2 (obj (codes "C") 3 number) ∷ []) ≡ fine
unfolding role_of marks keys operation operations
priced_arc = refl
