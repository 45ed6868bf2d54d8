-- Networks of small models, worked out.
use Rattle.std.specs.Prelude.{◌≡◌, ℕ, true, false, List, [], ◌∷◌, Option, None, Some, Ok, Err, pos, codes}
use Rattle.std.proofs.Common.{refl}
use Rattle.net_lex.specs.NumeralFront.{mantissa_at, power_at, numeral_at}
use Rattle.net_lex.specs.Significands.{whole_value}
use Rattle.net_lex.specs.declared.token.Token.{Token}
use Rattle.net_lex.specs.declared.token.Kind.TheVariants as kinds
use Rattle.net_sets.specs.declared.member.Member.TheVariants.{Number}
use Rattle.net_tree.specs.declared.operator.OperatorWords.TheVariants as operator
use Rattle.net_tree.specs.Role.{role_of, marks, keys}
use Rattle.net_tree.specs.Spans.{span_of, span_between, braces_span}
use Rattle.net_tree.specs.Tree.{Tree, leaf, indexed, chain, net, none, link, Braces, filled, absent, Phrase, valued, priced, Condition, unsaid, between, Declaration, node, arc, objective}
use Rattle.net_normal.specs.declared.instance.Sense.TheVariants.{Minimise, Maximise}
use Rattle.net_base.specs.declared.diagnostic.Language.TheVariants as languages
use Rattle.net_base.specs.declared.diagnostic.Detail.TheVariants.{Nothing, Reported}
use Rattle.net_expr.specs.Limits.{is_small}
use Rattle.net_tree.specs.Numerals.{number_in}
use Rattle.net_expr.specs.References.{reference_text}
use Rattle.net_tree.specs.Operations.{operations, operation, reduction, is_minus, is_outflow}
use Rattle.net_base.specs.declared.error_code.ErrorCode.TheVariants.{NodeCrossed, NoSuchNode, NoLower, NoObjective, TwoObjectives, NoSuchObjective}
use Rattle.net_inst.specs.Arcs.{no_arcs, with_arcs, arc_env}
use Rattle.net_inst.specs.Drafts.{sense_of}
use Rattle.net_inst.specs.Instances.{network}
use Rattle.net_inst.specs.Nodes.{BuiltNodes, no_nodes, with_nodes}

abbrev name : List ℕ → ℕ → ℕ → Token
name t a b = record { kind = kinds.Name; text = t; span = record { start = a; end = b } }

abbrev number : List ℕ → ℕ → ℕ → Tree
number t a b = leaf (record { kind = kinds.Num; text = t; span = record { start = a; end = b } })

abbrev key : List ℕ → ℕ → ℕ → Token
key t a b = record { kind = kinds.Key; text = t; span = record { start = a; end = b } }

abbrev mark : List ℕ → ℕ → ℕ → Token
mark t a b = record { kind = kinds.Mark; text = t; span = record { start = a; end = b } }

-- {i in 1..2}
abbrev one_and_two : Option Braces
one_and_two = Some (filled (mark (codes "{") 19 20) (chain 7 (leaf (name (codes "i") 20 21)) (link (operator.One (key (codes "in") 22 24)) (chain 3 (number (codes "1") 25 26) (link (operator.One (mark (codes "..") 26 28)) (number (codes "2") 28 29) none)) none)) none absent (mark (codes "}") 29 30))

-- >= 0, <= 3, from N[2], obj C 4
abbrev least : Phrase
least = record { comma = None; word = mark (codes ">=") 38 40; body = valued (number (codes "0") 41 42) }

abbrev most : Phrase
most = record { comma = Some (mark (codes ",") 42 43); word = mark (codes "<=") 44 46; body = valued (number (codes "3") 47 48) }

abbrev from_node : Phrase
from_node = record { comma = Some (mark (codes ",") 48 49); word = key (codes "from") 50 54; body = valued (indexed (name (codes "N") 55 56) (mark (codes "[") 56 57) (number (codes "2") 57 58) none (mark (codes "]") 58 59)) }

abbrev to_node : Phrase
to_node = record { comma = None; word = key (codes "to") 50 54; body = valued (leaf (name (codes "N") 55 56)) }

abbrev price : List ℕ → Phrase
price n = record { comma = Some (mark (codes ",") 59 60); word = key (codes "obj") 61 64; body = priced (name (codes "C") 65 66) (number n 67 68) }

-- minimize C;
abbrev minimized : Declaration
minimized = objective (key (codes "minimize") 0 8) (name (codes "C") 9 10) absent (mark (codes ";") 10 11)

-- maximize D;
abbrev maximized : Declaration
maximized = objective (key (codes "maximize") 70 78) (name (codes "D") 79 80) absent (mark (codes ";") 80 81)

-- node N {i in 1..2};
abbrev nodes : Declaration
nodes = node (key (codes "node") 12 16) (name (codes "N") 17 18) one_and_two unsaid (mark (codes ";") 30 31)

-- arc X >= 0, <= 3, from N[2], obj C 4, obj C 2;
abbrev arcs : Declaration
arcs = arc (key (codes "arc") 32 35) (name (codes "X") 36 37) None (least ∷ most ∷ from_node ∷ price (codes "4") ∷ price (codes "2") ∷ []) (mark (codes ";") 68 69)

-- : 1 <= net_in <= 4
abbrev both_sides : Condition
both_sides = between (mark (codes ":") 31 32) (number (codes "1") 33 34) (mark (codes "<=") 35 37) (net None (key (codes "net_in") 38 44)) (mark (codes "<=") 45 47) (number (codes "4") 48 49)

-- : 4 <= net_in <= i
abbrev crossing : Condition
crossing = between (mark (codes ":") 31 32) (number (codes "4") 33 34) (mark (codes "<=") 35 37) (net None (key (codes "net_in") 38 44)) (mark (codes "<=") 45 47) (leaf (name (codes "i") 48 49))

-- nodes N[1] and N[2]
abbrev two : BuiltNodes
two = record {
  ranges = (record { low = Some (pos 1); high = Some (pos 4) }) ∷ (record { low = Some (pos 1); high = Some (pos 4) }) ∷ [];
  group = record {
    list = record {
      declarations = (record { name = codes "N"; indexed = true }) ∷ [];
      keys = (record { declaration = 0; tuple = Number (pos 1) ∷ [] }) ∷ (record { declaration = 0; tuple = Number (pos 2) ∷ [] }) ∷ [];
    };
    numbers = (codes "N", record { count = Some 1; first = 0; keys = (Number (pos 1) ∷ []) ∷ (Number (pos 2) ∷ []) ∷ [] }) ∷ [];
  };
}

-- node N {i in 1..2}: 1 <= net_in <= 4;
two_nodes : with_nodes [] (name (codes "N") 17 18) one_and_two both_sides no_nodes ≡ Ok two
unfolding role_of marks keys operations operation reduction is_minus is_small number_in numeral_at mantissa_at power_at whole_value span_of span_between braces_span is_outflow sense_of
two_nodes = refl

-- node N {i in 1..2}: 4 <= net_in <= i;    the fault is the first node's
crossed_node : with_nodes [] (name (codes "N") 17 18) one_and_two crossing no_nodes ≡ Err (record { error_code = NodeCrossed; text = languages.Model; at = record { start = 17; end = 18 }; detail = Reported (reference_text (codes "N") true (Number (pos 1) ∷ [])) })
unfolding role_of marks keys operations operation reduction is_minus is_small number_in numeral_at mantissa_at power_at whole_value span_of span_between braces_span is_outflow sense_of
crossed_node = refl

-- arc X >= 0, <= 3, from N[2];    without a chosen objective a price says nothing
one_arc : with_arcs (arc_env None two []) (name (codes "X") 36 37) None (least ∷ most ∷ from_node ∷ price (codes "4") ∷ []) no_arcs
    ≡ Ok (record {
      arcs = (record { lower = pos 0; upper = pos 3; tail = Some 1; head = None }) ∷ [];
      form = record { constant = pos 0; products = [] };
      group = record { list = record { declarations = (record { name = codes "X"; indexed = false }) ∷ []; keys = (record { declaration = 0; tuple = [] }) ∷ [] }; numbers = (codes "X", record { count = None; first = 0; keys = [] ∷ [] }) ∷ [] };
    })
unfolding role_of marks keys operations operation reduction is_minus is_small number_in numeral_at mantissa_at power_at whole_value span_of span_between braces_span is_outflow sense_of
one_arc = refl

-- arc X <= 3, from N[2];
no_lower : with_arcs (arc_env None two []) (name (codes "X") 36 37) None (most ∷ from_node ∷ []) no_arcs ≡ Err (record { error_code = NoLower; text = languages.Model; at = record { start = 36; end = 37 }; detail = Reported (codes "X") })
unfolding role_of marks keys operations operation reduction is_minus is_small number_in numeral_at mantissa_at power_at whole_value span_of span_between braces_span is_outflow sense_of
no_lower = refl

-- arc X >= 0, <= 3, to N;    no node N is declared
no_node : with_arcs (arc_env None no_nodes []) (name (codes "X") 36 37) None (least ∷ most ∷ to_node ∷ []) no_arcs ≡ Err (record { error_code = NoSuchNode; text = languages.Model; at = record { start = 55; end = 56 }; detail = Reported (codes "N") })
unfolding role_of marks keys operations operation reduction is_minus is_small number_in numeral_at mantissa_at power_at whole_value span_of span_between braces_span is_outflow sense_of
no_node = refl

-- minimize C; node N {i in 1..2}; arc X >= 0, <= 3, from N[2], obj C 4, obj C 2;
whole : network None [] (minimized ∷ nodes ∷ arcs ∷ [])
    ≡ Ok (record {
      nodes = (record { low = Some (pos 0); high = Some (pos 0) }) ∷ (record { low = Some (pos 0); high = Some (pos 0) }) ∷ [];
      arcs = (record { lower = pos 0; upper = pos 3; coefficient = pos 6; tail = Some 1; head = None }) ∷ [];
      sense = Minimise;
      constant = pos 0;
      names = record {
        objective = codes "C";
        nodes = record { declarations = (record { name = codes "N"; indexed = true }) ∷ []; keys = (record { declaration = 0; tuple = Number (pos 1) ∷ [] }) ∷ (record { declaration = 0; tuple = Number (pos 2) ∷ [] }) ∷ [] };
        arcs = record { declarations = (record { name = codes "X"; indexed = false }) ∷ []; keys = (record { declaration = 0; tuple = [] }) ∷ [] };
      };
    })
unfolding role_of marks keys operations operation reduction is_minus is_small number_in numeral_at mantissa_at power_at whole_value span_of span_between braces_span is_outflow sense_of network
whole = refl

-- and maximize D;    chosen by its name
other_objective : network (Some (codes "D")) [] (minimized ∷ nodes ∷ arcs ∷ maximized ∷ [])
    ≡ Ok (record {
      nodes = (record { low = Some (pos 0); high = Some (pos 0) }) ∷ (record { low = Some (pos 0); high = Some (pos 0) }) ∷ [];
      arcs = (record { lower = pos 0; upper = pos 3; coefficient = pos 0; tail = Some 1; head = None }) ∷ [];
      sense = Maximise;
      constant = pos 0;
      names = record {
        objective = codes "D";
        nodes = record { declarations = (record { name = codes "N"; indexed = true }) ∷ []; keys = (record { declaration = 0; tuple = Number (pos 1) ∷ [] }) ∷ (record { declaration = 0; tuple = Number (pos 2) ∷ [] }) ∷ [] };
        arcs = record { declarations = (record { name = codes "X"; indexed = false }) ∷ []; keys = (record { declaration = 0; tuple = [] }) ∷ [] };
      };
    })
unfolding role_of marks keys operations operation reduction is_minus is_small number_in numeral_at mantissa_at power_at whole_value span_of span_between braces_span is_outflow sense_of network
other_objective = refl

-- without a name the second is one too many
second_objective : network None [] (minimized ∷ nodes ∷ arcs ∷ maximized ∷ []) ≡ Err (record { error_code = TwoObjectives; text = languages.Model; at = record { start = 79; end = 80 }; detail = Reported (codes "D") })
unfolding role_of marks keys operations operation reduction is_minus is_small number_in numeral_at mantissa_at power_at whole_value span_of span_between braces_span is_outflow sense_of network
second_objective = refl

-- a model without declarations ends at its start
no_objective : network None [] [] ≡ Err (record { error_code = NoObjective; text = languages.Model; at = record { start = 0; end = 0 }; detail = Nothing })
unfolding role_of marks keys operations operation reduction is_minus is_small number_in numeral_at mantissa_at power_at whole_value span_of span_between braces_span is_outflow sense_of network
no_objective = refl

-- a name that is no objective's is told where the declarations end
no_such_objective : network (Some (codes "E")) [] (minimized ∷ nodes ∷ []) ≡ Err (record { error_code = NoSuchObjective; text = languages.Model; at = record { start = 31; end = 31 }; detail = Reported (codes "E") })
unfolding role_of marks keys operations operation reduction is_minus is_small number_in numeral_at mantissa_at power_at whole_value span_of span_between braces_span is_outflow sense_of network
no_such_objective = refl

-- the objective of a name is wanted, and there is none at all
nodes_alone : network (Some (codes "E")) [] (nodes ∷ []) ≡ Err (record { error_code = NoObjective; text = languages.Model; at = record { start = 31; end = 31 }; detail = Nothing })
unfolding role_of marks keys operations operation reduction is_minus is_small number_in numeral_at mantissa_at power_at whole_value span_of span_between braces_span is_outflow sense_of network
nodes_alone = refl
