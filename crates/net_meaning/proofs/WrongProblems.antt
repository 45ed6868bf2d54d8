-- Problems that represent no network: an arc or an end with a wrong number, and a wrong supply of a node that no flow can satisfy.
use Rattle.std.specs.Prelude.{◌≡◌, ℕ, zero, suc, true, false, List, [], ◌∷◌, length, slice_get, Some, codes, IsTrue, ℤ, pos, negsuc, ◌-ℤ◌}
use Rattle.std.proofs.Common.{refl, ap, sym, ◌∙◌, subst}
use Rattle.net_lex.specs.Limits.{limits}
use Rattle.net_lex.specs.NumeralFront.{mantissa_at, power_at, numeral_at}
use Rattle.net_lex.specs.Numerals.{IsValue as IsNumeral}
use Rattle.net_lex.specs.Significands.{whole_value}
use Rattle.net_lex.specs.declared.token.Kind.TheVariants as kinds
use Rattle.net_normal.specs.declared.problem.FlowArc.{FlowArc}
use Rattle.net_normal.specs.declared.problem.Link.{Link}
use Rattle.net_normal.specs.declared.problem.Problem.{Problem}
use Rattle.net_normal.specs.Flows.{net_outflow}
use Rattle.net_tree.specs.declared.operator.BinOp.TheVariants as op
use Rattle.net_tree.specs.Role.{role_of, marks, keys}
use Rattle.net_tree.specs.Numerals.{number_in}
use Rattle.net_tree.specs.Syntax.{Expression, leaf, net}
use Rattle.net_tree.specs.Syntax as conditions
use Rattle.net_meaning.specs.Operators.{Value, Truth, number, IsResult}
use Rattle.net_meaning.specs.Values.{env_of}
use Rattle.net_meaning.specs.Network.{Node, Arc, Objective, is_at, IsSatisfied, with_inflow}
use Rattle.net_meaning.specs.Represents.{IsNodeNumber, IsEncoded, named, at, Lacks, HasSlackWithin, Represents}
use Rattle.net_meaning.proofs.Naming.{numeral_is}
use Rattle.net_meaning.proofs.Unique.{values_are_unique}

abbrev pub five : Expression
five = leaf (record { kind = kinds.Num; text = codes "5"; span = record { start = 0; end = 0 } })

pub five_is : IsNumeral limits.value (codes "5") (pos 5)
unfolding number_in numeral_at mantissa_at power_at whole_value
five_is = numeral_is (codes "5") (pos 5) refl

-- node Shop: net_in = 5
abbrev shop : Node
shop = record { label = record { name = codes "Shop"; indexed = false; key = [] }; env = env_of [] []; condition = conditions.one (net false false) op.Equal five }

-- ---- numbers

-- the node Mill does not exist, so no number is its
no_mill : (i : ℕ) → IsNodeNumber (shop ∷ []) (Some (codes "Mill", [])) i → ⊥
no_mill zero (named r i v e same) = let is : shop ≡ v = cc in absurd (let no = subst (λ (u : Node). IsTrue (is_at (Some (codes "Mill", [])) u.label)) (sym is) same in cc)
no_mill (suc i) (named r j v e same) = absurd (let k = e in cc)

-- a problem with one arc has no arc with number 2
no_second_arc : (f : FlowArc) (a : Arc) (offset : ℤ) → IsEncoded (shop ∷ []) (f ∷ []) a offset 2 → ⊥
no_second_arc f a offset (at i g e from to low cap) = absurd (let k = e in cc)

-- ---- supplies

-- a net inflow of 7 is not 5
not_seven : IsSatisfied (env_of [] []) (conditions.one (net false false) op.Equal five) (pos 7) → ⊥
unfolding role_of marks keys
not_seven (u, v, a, b, c) = no (subst (λ (z : Value). IsResult op.Equal z (number (pos 5)) (Truth true)) a (subst (λ (z : Value). IsResult op.Equal u z (Truth true)) (values_are_unique (with_inflow (env_of [] []) (pos 7)) five v (number (pos 5)) b (pos 5, five_is, refl)) c))
  where
    no : IsResult op.Equal (number (pos 7)) (number (pos 5)) (Truth true) → ⊥
    no h = elim h [ ]

-- without arcs no flow satisfies the shop; its supply is -5 all the same, and not -7
not_minus_seven : (o : Objective) (problem : Problem) (link : Link) → problem.supplies.items ≡ negsuc 6 ∷ pos 7 ∷ [] → problem.arcs.items ≡ [] → Represents (record { nodes = shop ∷ []; arcs = []; objective = o }) problem link → ⊥
not_minus_seven o problem link supplies arcs h = not_seven (h.satisfied [] 0 shop (pos 7) nothing refl seven)
  where
    nothing : HasSlackWithin problem link []
    nothing = record {
      each = sym (ap (λ (fs : List FlowArc). length fs) arcs);
      slack = λ i f y unused e k. absurd (let none = k in cc);
    }

    seven : Lacks problem [] 0 (pos 7)
    seven = ap (λ (ss : List ℤ). slice_get ss 0) supplies ∙ ap (λ (fs : List FlowArc). Some (net_outflow fs [] 0 -ℤ pos 7)) (sym arcs)
