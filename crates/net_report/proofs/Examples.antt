-- The texts, worked out on small networks that were written by hand.
use Rattle.std.proofs.Common.{◌≡◌, ℕ, Bool, true, false, List, [], ◌∷◌, ◌++◌, ℤ, pos, negsuc, codes, refl}
use Rattle.std.specs.Fmt.{digits}
use Rattle.net_sets.specs.Sets.{Tuple}
use Rattle.net_sets.specs.declared.member.Member.TheVariants.{Number, Name}
use Rattle.net_normal.specs.Links.{mapped_back_by}
use Rattle.net_normal.specs.declared.instance.Sense.TheVariants.{Maximise}
use Rattle.net_normal.specs.declared.problem.FlowArc.{FlowArc}
use Rattle.net_check.specs.Certificates.{supply_in, most_out, least_out}
use Rattle.net_check.specs.declared.certificate.Side.TheVariants.{Over, Under}
use Rattle.net_inst.specs.Lists.{Listed, Key}
use Rattle.net_inst.specs.declared.network_names.Declared.{Declared}
use Rattle.net_report.specs.References.{names_in}
use Rattle.net_report.specs.Links as links
use Rattle.net_report.specs.Displays.{Assigned, value_line, blocks}
use Rattle.net_report.specs.Cuts as cuts

abbrev feed : List ℕ
feed = 10 ∷ []

abbrev declared : List ℕ → Bool → Declared
declared name indexed = record { name = name; indexed = indexed }

abbrev key : ℕ → Tuple → Key
key d t = record { declaration = d; tuple = t }

abbrev pair : List ℕ → List ℕ → Tuple
pair a b = Name a ∷ Name b ∷ []

-- ---- names

abbrev nodes : Listed
nodes = record {
  declarations = declared (codes "A") false ∷ declared (codes "Balance") true ∷ [];
  keys = key 0 [] ∷ key 1 (Name (codes "PITT") ∷ []) ∷ key 1 (Name (codes "it's") ∷ []) ∷ [];
}

names_of_both : names_in nodes ≡ codes "A" ∷ codes "Balance['PITT']" ∷ codes "Balance['it''s']" ∷ []
names_of_both = refl

-- ---- links

negative_constant : links.constant_line (negsuc 11) ≡ codes "c constant -12" ++ feed
unfolding digits
negative_constant = refl

sign_to_maximise : links.sign_line Maximise ≡ codes "c sign -1" ++ feed
sign_to_maximise = refl

nodes_from_1 : links.node_lines 0 (names_in nodes) ≡ codes "c node 1 A" ++ feed ++ codes "c node 2 Balance['PITT']" ++ feed ++ codes "c node 3 Balance['it''s']" ++ feed
unfolding digits
nodes_from_1 = refl

offset_below_0 : links.arc_lines (1 ∷ 2 ∷ []) (negsuc 2 ∷ pos 0 ∷ []) (codes "Move" ∷ codes "Ship[3]" ∷ []) ≡ codes "c arc 1 -3 Move" ++ feed ++ codes "c arc 2 0 Ship[3]" ++ feed
unfolding digits
offset_below_0 = refl

-- an arc without a number in the problem, beside one that has one
no_number : links.arc_lines (0 ∷ 1 ∷ []) (pos 2 ∷ pos 1 ∷ []) (codes "P" ∷ codes "Q" ∷ []) ≡ codes "c arc 0 2 P" ++ feed ++ codes "c arc 1 1 Q" ++ feed
unfolding digits
no_number = refl

mapped_back_to_its_offset : mapped_back_by (0 ∷ 1 ∷ []) (pos 2 ∷ pos 1 ∷ []) (pos 4 ∷ []) ≡ pos 2 ∷ pos 5 ∷ []
mapped_back_to_its_offset = refl

-- the flow of 5 on arc 1 is 2 above the offset of -3
mapped_back_by_the_offset : mapped_back_by (1 ∷ []) (negsuc 2 ∷ []) (pos 5 ∷ []) ≡ pos 2 ∷ []
mapped_back_by_the_offset = refl

-- ---- plans

objective_value : value_line (codes "Total_Cost") (pos 18190) ≡ codes "Total_Cost = 18190" ++ feed
unfolding digits
objective_value = refl

-- an arc without braces, one with two members, none of a declaration, one with a number and one with the empty key
abbrev arcs : List Assigned
arcs =
    (key 0 [], negsuc 0) ∷ (key 1 (pair (codes "PITT") (codes "NE")), pos 250) ∷ (key 1 (pair (codes "PITT") (codes "it's")), pos 0)
    ∷ (key 3 (Number (pos 3) ∷ Number (negsuc 0) ∷ []), pos 2) ∷ (key 4 [], pos 7) ∷ []

plan : blocks 0 (declared (codes "Move") false ∷ declared (codes "Ship") true ∷ declared (codes "None") true ∷ declared (codes "F") true ∷ declared (codes "G") true ∷ []) arcs
    ≡ codes "Move = -1" ++ feed
    ++ codes "Ship :=" ++ feed ++ codes "'PITT' 'NE' 250" ++ feed ++ codes "'PITT' 'it''s' 0" ++ feed ++ codes ";" ++ feed
    ++ codes "None :=" ++ feed ++ codes ";" ++ feed
    ++ codes "F :=" ++ feed ++ codes "3 -1 2" ++ feed ++ codes ";" ++ feed
    ++ codes "G :=" ++ feed ++ codes "7" ++ feed ++ codes ";" ++ feed
unfolding digits
plan = refl

-- ---- cuts

-- a node that supplies 5 over an arc of at most 3, a node that needs 5, and the outside node
abbrev supplies : List ℤ
supplies = pos 5 ∷ negsuc 4 ∷ pos 0 ∷ []

abbrev road : List FlowArc
road = (record { src = 0; dst = 1; low = pos 1; cap = pos 3; cost = pos 1 }) ∷ []

abbrev is_over : List ℕ
is_over = cuts.sums_line Over (supply_in supplies (true ∷ false ∷ true ∷ [])) (most_out road (true ∷ false ∷ true ∷ []))

too_much : is_over ≡ codes "over 5 3" ++ feed
unfolding digits
too_much = refl

abbrev is_under : List ℕ
is_under = cuts.sums_line Under (supply_in supplies (false ∷ true ∷ false ∷ [])) (least_out road (false ∷ true ∷ false ∷ []))

too_little : is_under ≡ codes "under -5 -3" ++ feed
unfolding digits
too_little = refl

nodes_of_the_set : cuts.node_lines (true ∷ false ∷ true ∷ true ∷ []) (names_in nodes) ≡ codes "node A" ++ feed ++ codes "node Balance['it''s']" ++ feed
nodes_of_the_set = refl

outside_in_the_set : cuts.outside_line true ≡ codes "outside" ++ feed
outside_in_the_set = refl
