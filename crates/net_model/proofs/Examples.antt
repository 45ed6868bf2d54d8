-- Worked examples of the definitions.
use Rattle.std.proofs.Common.{◌≡◌, ℕ, List, [], ◌∷◌, None, Ok, Err, inl, inr, refl, codes, arith}
use Rattle.net_lex.specs.declared.token.Kind.TheVariants.{Name, Key, Num, Mark}
use Rattle.net_lex.specs.declared.token.Token.{Token}
use Rattle.net_tree.specs.declared.operator.OperatorWords.TheVariants.{One}
use Rattle.net_tree.specs.Role.{role_of, keys, marks}
use Rattle.net_tree.specs.Tree.{Tree, leaf, reduced, chain, net, none, link, absent, filled, valued, Phrase, one, Declaration, check, node}
use Rattle.net_tree.specs.WellFormed.{IsWellFormed}
use Rattle.net_tree.specs.Conditions.{IsCondition}
use Rattle.net_tree.specs.Phrases.{AreParamPhrases}
use Rattle.net_tree.specs.Declarations.{IsDeclaration}
use Rattle.net_model.specs.declared.model_parser.Awaiting.TheVariants.{Other}
use Rattle.net_model.specs.declared.model_parser.ParseError.TheVariants.{Rejected, TooDeep}
use Rattle.net_model.specs.Reading.{expect}
use Rattle.net_model.specs.Expressions.{operator_at, chain_at, climb, named_at, unary_at, unary, inner_of, nested}
use Rattle.net_model.specs.Declarations.{indexing_at, check_at, declared_at, declaration_at, declaration_step, model_at}

abbrev name : List ℕ → Token
name text = record { kind = Name; text = text; span = record { start = 0; end = 1 } }

abbrev key : List ℕ → Token
key text = record { kind = Key; text = text; span = record { start = 0; end = 1 } }

abbrev mark : List ℕ → Token
mark text = record { kind = Mark; text = text; span = record { start = 0; end = 1 } }

abbrev number : List ℕ → Token
number text = record { kind = Num; text = text; span = record { start = 0; end = 1 } }

-- sum {A} a
abbrev total : Tree
total = reduced (key (codes "sum")) (filled (mark (codes "{")) (leaf (name (codes "A"))) none absent (mark (codes "}"))) (leaf (name (codes "a")))

total_level : IsWellFormed total
unfolding role_of keys marks
total_level = (refl, (refl, refl, omega arith, tt, tt, refl), refl, omega arith)

-- (sum {A} a) + 1, written without parentheses
sum_level : IsWellFormed (chain 2 total (link (One (mark (codes "+"))) (leaf (number (codes "1"))) none))
unfolding role_of keys marks
sum_level = (omega arith, omega arith, (refl, (refl, refl, omega arith, tt, tt, refl), refl, omega arith), omega arith, tt, (refl, refl, refl, omega arith, tt))

-- a product does not go on behind a reduction: (sum {A} a) * 2
product_after : IsWellFormed (chain 1 total (link (One (mark (codes "*"))) (leaf (number (codes "2"))) none)) → ⊥
product_after h = omega (arith, h.3)

-- node N : net_in = 3 ;
abbrev sink : Declaration
sink = node (key (codes "node")) (name (codes "N")) None (one (mark (codes ":")) (net None (key (codes "net_in"))) (mark (codes "=")) (leaf (number (codes "3")))) (mark (codes ";"))

sink_level : IsDeclaration sink
unfolding role_of keys marks
sink_level = (refl, refl, tt, (refl, refl, inl ((tt, refl), (refl, omega arith))), refl)

-- a condition has one net term: not net_in = net_out
two_nets : IsCondition (one (mark (codes ":")) (net None (key (codes "net_in"))) (mark (codes "=")) (net None (key (codes "net_out")))) → ⊥
two_nets (a, b, inl h) = omega (arith, h.1.1)
two_nets (a, b, inr h) = omega (arith, h.0.1)

-- default 0
abbrev default_zero : Phrase
default_zero = record { comma = None; word = key (codes "default"); body = valued (leaf (number (codes "0"))) }

-- a default stands once
two_defaults : AreParamPhrases (default_zero ∷ default_zero ∷ []) → ⊥
unfolding role_of keys
two_defaults h = omega (arith, h.1)

-- check : a < 3 ;
check_read : model_at 64 (key (codes "check") ∷ mark (codes ":") ∷ name (codes "a") ∷ mark (codes "<") ∷ number (codes "3") ∷ mark (codes ";") ∷ [])
    ≡ Ok ((check (key (codes "check")) None (mark (codes ":")) (chain 7 (leaf (name (codes "a"))) (link (One (mark (codes "<"))) (leaf (number (codes "3"))) none)) (mark (codes ";")) ∷ [], tt), [])
unfolding model_at declaration_step declaration_at declared_at check_at indexing_at climb chain_at unary unary_at named_at operator_at nested inner_of expect role_of keys marks
check_read = refl

-- check : - a ;    where no nesting may be opened
sign_too_deep : model_at 0 (key (codes "check") ∷ mark (codes ":") ∷ mark (codes "-") ∷ name (codes "a") ∷ mark (codes ";") ∷ []) ≡ Err (TooDeep 3)
unfolding model_at declaration_step declaration_at declared_at check_at indexing_at climb chain_at unary unary_at nested expect role_of keys marks
sign_too_deep = refl

-- check : a b ;
no_operator : model_at 64 (key (codes "check") ∷ mark (codes ":") ∷ name (codes "a") ∷ name (codes "b") ∷ mark (codes ";") ∷ []) ≡ Err (Rejected 2 Other)
unfolding model_at declaration_step declaration_at declared_at check_at indexing_at climb chain_at unary unary_at named_at operator_at nested inner_of expect role_of keys marks
no_operator = refl
