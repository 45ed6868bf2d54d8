-- The printed name of a node or an arc:  Move    Ship['PITT','NE']    N[3]
use Rattle.std.specs.Prelude.{ℕ, Bool, true, false, List, [], ◌∷◌, ◌++◌, nat_eq, if◌then◌else◌}
use Rattle.std.specs.Fmt.{signed_decimal}
use Rattle.net_sets.specs.declared.member.Member.{Member}
use Rattle.net_sets.specs.declared.member.Member.TheVariants.{Number, Name}
use Rattle.net_sets.specs.Sets.{Tuple}
use Rattle.net_base.specs.declared.diagnostic.Detail.{Detail}
use Rattle.net_base.specs.declared.diagnostic.Detail.TheVariants.{Nothing, Reported}

-- each single quote doubled
abbrev pub doubled : List ℕ → List ℕ
doubled [] = []
doubled (c ∷ cs) = if nat_eq c 39 then 39 ∷ 39 ∷ doubled cs else c ∷ doubled cs

-- in single quotes
abbrev pub quoted : List ℕ → List ℕ
quoted t = 39 ∷ (doubled t ++ 39 ∷ [])

-- a string in single quotes, a number as a plain decimal
abbrev pub member_text : Member → List ℕ
member_text (Number n) = signed_decimal n
member_text (Name t) = quoted t

-- further members, each after a comma
abbrev pub further_text : List Member → List ℕ
further_text [] = []
further_text (m ∷ ms) = 44 ∷ (member_text m ++ further_text ms)

abbrev pub members_text : Tuple → List ℕ
members_text [] = []
members_text (m ∷ ms) = member_text m ++ further_text ms

-- the name, followed by the key in brackets if it is indexed, even if the key is empty
abbrev pub reference_text : List ℕ → Bool → Tuple → List ℕ
reference_text name false key = name
reference_text name true key = name ++ (91 ∷ (members_text key ++ 93 ∷ []))

-- the detail that is printed with an error
abbrev pub detail_text : Detail → List ℕ
detail_text Nothing = []
detail_text (Reported text) = text
