-- Worlds of models and their tables, worked out.
use Rattle.std.specs.Prelude.{◌≡◌, ℕ, true, List, [], ◌∷◌, None, Some, Ok, Err, pos, codes}
use Rattle.std.proofs.Common.{refl}
use Rattle.net_lex.specs.NumeralFront.{mantissa_at, power_at, numeral_at}
use Rattle.net_lex.specs.Significands.{whole_value}
use Rattle.net_base.specs.declared.diagnostic.Language.TheVariants as texts
use Rattle.net_lex.specs.declared.token.Token.{Token}
use Rattle.net_lex.specs.declared.token.Kind.TheVariants as kinds
use Rattle.net_data.specs.declared.statement.Statement.{Statement}
use Rattle.net_data.specs.declared.statement.Statement.TheVariants as statements
use Rattle.net_sets.specs.declared.member.Member.TheVariants as members
use Rattle.net_tree.specs.declared.operator.OperatorWords.TheVariants as operator
use Rattle.net_tree.specs.Role.{role_of, marks, keys}
use Rattle.net_tree.specs.Spans.{span_of, span_between, braces_span}
use Rattle.net_tree.specs.Tree.{leaf, none, link, absent, filled, valued, Braces, Phrase, Declaration, set, param}
use Rattle.net_base.specs.declared.diagnostic.Detail.TheVariants.{Reported}
use Rattle.net_base.specs.declared.error_code.ErrorCode.TheVariants.{OutsideSet, DoubleValue, NoSuchName}
use Rattle.net_expr.specs.declared.world.Entry.TheVariants.{Set, Parameter}
use Rattle.net_expr.specs.Limits.{is_small}
use Rattle.net_expr.specs.References.{reference_text}
use Rattle.net_tree.specs.Operations.{operations, operation, reduction, is_minus}
use Rattle.net_tree.specs.Numerals.{number_in}
use Rattle.net_bind.specs.Binding.{world}
use Rattle.net_bind.specs.Cells.{member_in}

abbrev name : List ℕ → ℕ → ℕ → Token
name t a b = record { kind = kinds.Name; text = t; span = record { start = a; end = b } }

abbrev number : List ℕ → ℕ → ℕ → Token
number t a b = record { kind = kinds.Num; text = t; span = record { start = a; end = b } }

abbrev key : List ℕ → ℕ → ℕ → Token
key t a b = record { kind = kinds.Key; text = t; span = record { start = a; end = b } }

abbrev mark : List ℕ → ℕ → ℕ → Token
mark t a b = record { kind = kinds.Mark; text = t; span = record { start = a; end = b } }

-- set S;
abbrev set_s : Declaration
set_s = set (key (codes "set") 0 3) (name (codes "S") 4 5) [] (mark (codes ";") 5 6)

-- {1, 2}
abbrev one_or_two : Braces
one_or_two = filled (mark (codes "{") 8 9) (leaf (number (codes "1") 9 10)) (link (operator.One (mark (codes ",") 10 11)) (leaf (number (codes "2") 12 13)) none) absent (mark (codes "}") 13 14)

-- default 4
abbrev default_four : Phrase
default_four = record { comma = None; word = key (codes "default") 15 22; body = valued (leaf (number (codes "4") 23 24)) }

-- param p {1, 2} default 4;
abbrev param_p : Declaration
param_p = param (key (codes "param") 0 5) (name (codes "p") 6 7) (Some one_or_two) (default_four ∷ []) (mark (codes ";") 24 25)

-- a statement of a set S with these members
abbrev given_s : List Token → Statement
given_s ts = statements.Set (record { keyword = name (codes "set") 0 3; name = name (codes "S") 4 5; assign = mark (codes ":=") 6 8; items = ts; end = mark (codes ";") 20 21 })

-- a list for a parameter p with these cells
abbrev given_p : List Token → Statement
given_p ts =
    statements.List (record {
      keyword = name (codes "param") 0 5;
      name = name (codes "p") 6 7;
      default = None;
      given = Some (record { assign = mark (codes ":=") 8 10; cells = ts });
      end = mark (codes ";") 20 21;
    })

-- set S;    set S := b a;
as_given : world (set_s ∷ []) (given_s (name (codes "b") 9 10 ∷ name (codes "a") 11 12 ∷ []) ∷ [])
    ≡ Ok ((codes "S", Set 1 ((members.Name (codes "b") ∷ []) ∷ (members.Name (codes "a") ∷ []) ∷ [])) ∷ [])
unfolding role_of marks keys operations operation reduction is_minus is_small number_in numeral_at mantissa_at power_at whole_value span_of span_between braces_span member_in world
as_given = refl

-- set S;    set S := b b;
given_twice : world (set_s ∷ []) (given_s (name (codes "b") 9 10 ∷ name (codes "b") 11 12 ∷ []) ∷ [])
    ≡ Err (record { error_code = DoubleValue; text = texts.Data; at = record { start = 11; end = 12 }; detail = Reported (codes "S") })
unfolding role_of marks keys operations operation reduction is_minus is_small number_in numeral_at mantissa_at power_at whole_value span_of span_between braces_span member_in world
given_twice = refl

-- param p {1, 2} default 4;    set S := b;
another_name : world (param_p ∷ []) (given_s (name (codes "b") 9 10 ∷ []) ∷ [])
    ≡ Err (record { error_code = NoSuchName; text = texts.Data; at = record { start = 4; end = 5 }; detail = Reported (codes "S") })
unfolding role_of marks keys operations operation reduction is_minus is_small number_in numeral_at mantissa_at power_at whole_value span_of span_between braces_span member_in world
another_name = refl

-- param p {1, 2} default 4;    param p := 2 7;
row_and_default : world (param_p ∷ []) (given_p (number (codes "2") 11 12 ∷ number (codes "7") 13 14 ∷ []) ∷ [])
    ≡ Ok ((
      codes "p",
      Parameter (Some 1) ((members.Number (pos 1) ∷ []) ∷ (members.Number (pos 2) ∷ []) ∷ [])
          ((members.Number (pos 2) ∷ [], members.Number (pos 7)) ∷ (members.Number (pos 1) ∷ [], members.Number (pos 4)) ∷ []),
    ) ∷ [])
unfolding role_of marks keys operations operation reduction is_minus is_small number_in numeral_at mantissa_at power_at whole_value span_of span_between braces_span member_in world
row_and_default = refl

-- param p {1, 2} default 4;    param p := 3 7;
key_outside : world (param_p ∷ []) (given_p (number (codes "3") 11 12 ∷ number (codes "7") 13 14 ∷ []) ∷ [])
    ≡ Err (record { error_code = OutsideSet; text = texts.Data; at = record { start = 11; end = 12 }; detail = Reported (reference_text (codes "p") true (members.Number (pos 3) ∷ [])) })
unfolding role_of marks keys operations operation reduction is_minus is_small number_in numeral_at mantissa_at power_at whole_value span_of span_between braces_span member_in world
key_outside = refl
