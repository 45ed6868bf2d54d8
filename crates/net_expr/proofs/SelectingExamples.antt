-- By which component items select, worked out. The dummy i is 1; LINKS and base are declared.
use Rattle.std.specs.Prelude.{◌≡◌, None, Some, pos, codes}
use Rattle.std.proofs.Common.{refl}
use Rattle.net_sets.specs.declared.member.Member.TheVariants.{Number}
use Rattle.net_tree.specs.declared.operator.OperatorWords.TheVariants as operator
use Rattle.net_tree.specs.Role.{role_of, marks, keys}
use Rattle.net_tree.specs.Tree.{Tree, leaf, tuple, chain, none, link}
use Rattle.net_tree.specs.Operations.{operations, operation}
use Rattle.net_expr.specs.Selecting.{selecting}
use Rattle.net_expr.proofs.Trees.{name, key, mark, cities, i_is}

abbrev of_links : Tree → Tree
of_links x = chain 7 x (link (operator.One (key (codes "in") 6 8)) (leaf (name (codes "LINKS") 9 14)) none)

abbrev two : Tree → Tree → Tree
two x y = of_links (tuple (mark (codes "(") 0 1) x (link (operator.One (mark (codes ",") 2 3)) y none) (mark (codes ")") 4 5))

abbrev i_again : Tree
i_again = leaf (name (codes "i") 1 2)

abbrev j_new : Tree
j_new = leaf (name (codes "j") 1 2)

-- (i,j) in LINKS
by_the_first : selecting cities (i_is 1) (two i_again j_new) ≡ Some (0, Number (pos 1))
unfolding role_of marks keys operations operation
by_the_first = refl

-- (j,i) in LINKS
by_the_second : selecting cities (i_is 1) (two j_new i_again) ≡ Some (1, Number (pos 1))
unfolding role_of marks keys operations operation
by_the_second = refl

-- (j,j) in LINKS    the second j is in scope only behind the first
by_no_dummy_of_its_own : selecting cities (i_is 1) (two j_new j_new) ≡ None
unfolding role_of marks keys operations operation
by_no_dummy_of_its_own = refl

-- (base,i) in LINKS    base has no value, which is a fault at the first tuple
not_past_a_fault : selecting cities (i_is 1) (two (leaf (name (codes "base") 1 5)) i_again) ≡ None
unfolding role_of marks keys operations operation
not_past_a_fault = refl

-- i in LINKS
not_alone : selecting cities (i_is 1) (of_links i_again) ≡ None
unfolding role_of marks keys operations operation
not_alone = refl
