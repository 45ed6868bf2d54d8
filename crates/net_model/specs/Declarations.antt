-- Declarations and whole models.
use Rattle.std.specs.Prelude.{ℕ, Bool, true, false, List, [], ◌∷◌, length, Option, None, Some, if◌then◌else◌}
use Rattle.net_lex.specs.declared.token.Token.{Token}
use Rattle.net_tree.specs.declared.role.Role.{Role}
use Rattle.net_tree.specs.declared.role.Role.TheVariants as roles
use Rattle.net_tree.specs.declared.role.Declares.{Declares}
use Rattle.net_tree.specs.declared.role.Declares.TheVariants as declares
use Rattle.net_tree.specs.Role.{role_of, is_open_brace}
use Rattle.net_tree.specs.Precedence.{of_union, of_or}
use Rattle.net_tree.specs.Tree.{Part, absent, part, Braces, Declaration, set, param, check, node, arc, objective}
use Rattle.net_model.specs.declared.phrases.Owner.TheVariants as owners
use Rattle.net_model.specs.declared.model_parser.Awaiting.{Awaiting}
use Rattle.net_model.specs.declared.model_parser.Awaiting.TheVariants as awaiting
use Rattle.net_model.specs.declared.expected.Expected.TheVariants as sorts
use Rattle.net_model.specs.Reading.{Tokens, Read, ◌>>=◌, read_as, rejected, next_is, expect}
use Rattle.net_model.specs.Expressions.{Inner, nested, unary, climb, wide, braces, part_at}
use Rattle.net_model.specs.Rows.{row}
use Rattle.net_model.specs.Phrases.{phrases, phrases_end}
use Rattle.net_model.specs.Conditions.{condition_at}

unfoldable pub indexing_at : Option Inner → Tokens → Read (Option Braces)
indexing_at o ts = if next_is is_open_brace ts then (braces o ts >>= λ b. read_as (Some b.0) b.1) else read_as None ts

unfoldable pub set_at : Option Inner → Token → Tokens → Read Declaration
set_at o w ts =
    expect sorts.Name awaiting.Other ts >>= λ n. phrases o owners.Set n.1 >>= λ p. phrases_end owners.Set p.0.1 p.1 >>= λ e. read_as (set w n.0 p.0.0 e.0) e.1

unfoldable pub param_at : Option Inner → Token → Tokens → Read Declaration
param_at o w ts =
    expect sorts.Name awaiting.Other ts >>= λ n. indexing_at o n.1 >>= λ b. phrases o owners.Param b.1 >>= λ p. phrases_end owners.Param p.0.1 p.1 >>= λ e.
    read_as (param w n.0 b.0 p.0.0 e.0) e.1

unfoldable pub arc_at : Option Inner → Token → Tokens → Read Declaration
arc_at o w ts =
    expect sorts.Name awaiting.Other ts >>= λ n. indexing_at o n.1 >>= λ b. phrases o owners.Arc b.1 >>= λ p. phrases_end owners.Arc p.0.1 p.1 >>= λ e.
    read_as (arc w n.0 b.0 p.0.0 e.0) e.1

unfoldable pub check_at : Option Inner → Token → Tokens → Read Declaration
check_at o w ts =
    indexing_at o ts >>= λ b. expect sorts.Colon awaiting.Other b.1 >>= λ m. climb of_or (unary o) m.1 >>= λ x. expect sorts.Semicolon awaiting.Other x.1 >>= λ e.
    read_as (check w b.0 m.0 x.0 e.0) e.1

unfoldable pub node_at : Option Inner → Token → Tokens → Read Declaration
node_at o w ts =
    expect sorts.Name awaiting.Other ts >>= λ n. indexing_at o n.1 >>= λ b. condition_at o b.1 >>= λ c. expect sorts.Semicolon awaiting.Other c.1 >>= λ e.
    read_as (node w n.0 b.0 c.0 e.0) e.1

-- what is expected after an objective without an expression
abbrev pub after_objective : Part → Awaiting
after_objective absent = awaiting.Objective
after_objective (part m x) = awaiting.Other

unfoldable pub objective_at : Option Inner → Token → Tokens → Read Declaration
objective_at o w ts =
    expect sorts.Name awaiting.Other ts >>= λ n. part_at sorts.Colon (wide o of_union) n.1 >>= λ p. expect sorts.Semicolon (after_objective p.0) p.1 >>= λ e.
    read_as (objective w n.0 p.0 e.0) e.1

unfoldable pub declared_at : Option Inner → Declares → Token → Tokens → Read Declaration
declared_at o declares.Set w ts = set_at o w ts
declared_at o declares.Param w ts = param_at o w ts
declared_at o declares.Check w ts = check_at o w ts
declared_at o declares.Node w ts = node_at o w ts
declared_at o declares.Arc w ts = arc_at o w ts
declared_at o declares.Objective w ts = objective_at o w ts

abbrev pub declaration_of_role : Option Inner → Role → Token → Tokens → Read Declaration
declaration_of_role o (roles.Declaration d) w ts = declared_at o d w ts
declaration_of_role o _ w ts = rejected awaiting.Declaration (w ∷ ts)

unfoldable pub declaration_at : Option Inner → Tokens → Read Declaration
declaration_at o [] = rejected awaiting.Declaration []
declaration_at o (w ∷ ts) = declaration_of_role o (role_of w) w ts

abbrev pub any_left : Tokens → Bool
any_left [] = false
any_left (t ∷ ts) = true

unfoldable pub declaration_step : Option Inner → Unit {0} → Tokens → Read (Declaration × Unit {0})
declaration_step o s ts = declaration_at o ts >>= λ d. read_as (d.0, s) d.1

-- the maximum nesting depth of a model
abbrev pub nesting_limit : ℕ
nesting_limit = 64

-- parses all tokens as declarations
unfoldable pub model_at : ℕ → Tokens → Read (List Declaration × Unit {0})
model_at depth ts = row (length ts) (declaration_step (nested depth)) (λ s. any_left) tt ts
