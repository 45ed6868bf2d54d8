-- The definitions of certificate texts, computed on small texts that were written by hand.
use Rattle.std.proofs.Common.{◌≡◌, ℕ, ◌++◌, true, false, List, [], ◌∷◌, ℤ, pos, negsuc, Some, None, Ok, Err, codes, refl}
use Rattle.net_normal.specs.declared.problem.FlowArc.{FlowArc}
use Rattle.net_check.specs.declared.certificate.Side.TheVariants.{Over, Under}
use Rattle.net_dimacs.specs.declared.problem_fault.LineFault.TheVariants.{TooLarge, Certificate}
use Rattle.net_dimacs.specs.declared.claim.Claim.TheVariants as claims
use Rattle.net_dimacs.specs.Claims.{claimed}
use Rattle.net_dimacs.specs.declared.problem_line.LineStatement.TheVariants as statements
use Rattle.net_dimacs.specs.Lines.{fields_of}
use Rattle.net_dimacs.specs.Numbers.{cut_numbers, kind_of, statement_of_kind}
use Rattle.net_dimacs.specs.Problems.{BeginsProblem, statements_of}
use Rattle.net_dimacs.specs.Certificates.{Account, Optimal, Cut, IsCertificateText}
use Rattle.net_dimacs.specs.CertificateReading.{Start, read_lines}

abbrev flow_arc : ℕ → ℕ → ℤ → ℤ → ℤ → FlowArc
flow_arc src dst low cap cost = record { src = src; dst = dst; low = low; cap = cap; cost = cost }

-- three nodes with two arcs in a row, and a dearer one past them
abbrev arcs : List FlowArc
arcs = flow_arc 0 1 (pos 2) (pos 5) (pos 1) ∷ flow_arc 0 2 (pos 0) (pos 5) (pos 3) ∷ flow_arc 1 2 (pos 0) (pos 5) (pos 1) ∷ []

abbrev optimum : Account
optimum = Optimal (pos 8) (pos 4 ∷ pos 0 ∷ pos 4 ∷ []) (pos 0 ∷ pos 1 ∷ pos 2 ∷ [])

abbrev feed : List ℕ
feed = 10 ∷ []

abbrev optimum_text : List ℕ
optimum_text =
    codes "s 8" ++ feed ++ codes "f 1 2 4" ++ feed ++ codes "f 1 3 0" ++ feed ++ codes "f 2 3 4" ++ feed
    ++ codes "v 1 0" ++ feed ++ codes "v 2 1" ++ feed ++ codes "v 3 2" ++ feed

optimum_is_text : IsCertificateText optimum_text 3 arcs optimum
optimum_is_text = record { size = (refl, refl); says = refl }

-- ---- single lines

blank_line : claimed (codes " \t") ≡ None
blank_line = refl

comment_line : claimed (codes " comment") ≡ None
comment_line = refl

flow_line : claimed (codes "f 01\t+3 -0 ") ≡ Some (claims.Flow (Some 0) (Some 2) (Some (pos 0)))
flow_line = refl

greatest_flow : claimed (codes "f 1 2 9223372036854775807") ≡ Some (claims.Flow (Some 0) (Some 1) (Some (pos 9223372036854775807)))
greatest_flow = refl

flow_past_its_type : claimed (codes "f 1 2 9223372036854775808") ≡ Some (claims.Flow (Some 0) (Some 1) None)
flow_past_its_type = refl

least_value : claimed (codes "s -170141183460469231731687303715884105728") ≡ Some (claims.Value (Some (negsuc 170141183460469231731687303715884105727)))
least_value = refl

value_past_its_type : claimed (codes "s 170141183460469231731687303715884105728") ≡ Some (claims.Value None)
value_past_its_type = refl

no_node_0 : claimed (codes "m 0") ≡ Some (claims.Member None)
no_node_0 = refl

other_side : claimed (codes "x Over") ≡ Some claims.Other
other_side = refl

-- ---- whole texts, as lists of lines

flows_exchanged : read_lines 3 arcs 1 Start (codes "s 8" ∷ codes "f 1 3 0" ∷ codes "f 1 2 4" ∷ []) ≡ Err (record { fault = Certificate; line = 2 })
flows_exchanged = refl

last_potential_missing : read_lines 3 arcs 1 Start (codes "s 8" ∷ codes "f 1 2 4" ∷ codes "f 1 3 0" ∷ codes "f 2 3 4" ∷ codes "v 1 0" ∷ codes "v 2 1" ∷ []) ≡ Err (record { fault = Certificate; line = 7 })
last_potential_missing = refl

flow_too_large : read_lines 3 arcs 1 Start (codes "c" ∷ codes "s 8" ∷ codes "f 1 2 9223372036854775808" ∷ []) ≡ Err (record { fault = TooLarge; line = 3 })
flow_too_large = refl

-- another arc comes before a flow that is too large
wrong_arc_first : read_lines 3 arcs 1 Start (codes "s 8" ∷ codes "f 2 3 9223372036854775808" ∷ []) ≡ Err (record { fault = Certificate; line = 2 })
wrong_arc_first = refl

some_nodes : read_lines 3 arcs 1 Start (codes "x under" ∷ codes "m 2" ∷ []) ≡ Ok (Cut (false ∷ true ∷ false ∷ []) Under)
some_nodes = refl

no_nodes : read_lines 3 arcs 1 Start (codes "x over" ∷ []) ≡ Ok (Cut (false ∷ false ∷ false ∷ []) Over)
no_nodes = refl

falling_nodes : read_lines 3 arcs 1 Start (codes "x over" ∷ codes "m 2" ∷ codes "m 1" ∷ []) ≡ Err (record { fault = Certificate; line = 3 })
falling_nodes = refl

nothing : read_lines 3 arcs 1 Start [] ≡ Err (record { fault = Certificate; line = 1 })
nothing = refl

-- ---- lines of a problem text by their kind

arc_by_kind : statement_of_kind (kind_of (codes "a")) (fields_of (codes " 1\t+2 0 5  -3 ")) ≡ Some (statements.Arc (pos 1) (pos 2) (pos 0) (pos 5) (negsuc 2))
arc_by_kind = refl

short_arc : statement_of_kind (kind_of (codes "a")) (fields_of (codes " 1 2 0 5")) ≡ Some statements.Other
short_arc = refl

node_by_kind : statement_of_kind (kind_of (codes "n")) (fields_of (codes " 2 -7")) ≡ Some (statements.Node (pos 2) (negsuc 6))
node_by_kind = refl

problem_by_kind : statement_of_kind (kind_of (codes "p")) (fields_of (codes " min 3 2")) ≡ Some (statements.Problem (pos 3) (pos 2))
problem_by_kind = refl

most : statement_of_kind (kind_of (codes "p")) (fields_of (codes " max 3 2")) ≡ Some statements.Other
most = refl

comment_by_kind : statement_of_kind (kind_of (codes "cat")) (fields_of (codes " 1 2")) ≡ None
comment_by_kind = refl

-- a number past 64 bits, of either sign
cut_numeral : cut_numbers (codes "99999999999999999999 -99999999999999999999 x") ≡ Some (pos 9223372036854775807) ∷ Some (negsuc 9223372036854775806) ∷ None ∷ []
cut_numeral = refl

-- memory may be wanted over the first text, and not over the others
announced : BeginsProblem (statements_of (codes "c x" ++ feed ++ codes "p min 2 1" ++ feed ++ codes "q"))
announced = refl

too_many_nodes : BeginsProblem (statements_of (codes "p min 20001 1")) → ⊥
too_many_nodes h = cc

no_problem_first : BeginsProblem (statements_of (codes "q" ++ feed ++ codes "p min 2 1")) → ⊥
no_problem_first h = h
