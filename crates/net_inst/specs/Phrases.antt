-- The contents of an arc's phrases.
use Rattle.std.specs.Prelude.{List, Option, None, Some, Ok}
use Rattle.net_lex.specs.declared.token.Token.{Token}
use Rattle.net_tree.specs.Phrases.{is_at_least, is_at_most, is_from, is_to}
use Rattle.net_tree.specs.PhraseValues.{phrase_value}
use Rattle.net_tree.specs.Tree.{Tree, Phrase}
use Rattle.net_base.specs.declared.error_code.ErrorCode.TheVariants.{NoLower, NoUpper, NoEnds}
use Rattle.net_base.specs.Outcomes.{Outcome}
use Rattle.net_inst.specs.Rejections.{rejected_name}

-- the bounds of an arc, and the nodes at its ends
pub record Parts : Type 0 where
  pub lower : Tree
  pub upper : Tree
  pub tail : Option Tree
  pub head : Option Tree

-- both bounds and at least one end are required
abbrev pub parts_from : Token → Option Tree → Option Tree → Option Tree → Option Tree → Outcome Parts
parts_from n None u t h = rejected_name NoLower n
parts_from n (Some l) None t h = rejected_name NoUpper n
parts_from n (Some l) (Some u) None None = rejected_name NoEnds n
parts_from n (Some l) (Some u) None (Some h) = Ok (record { lower = l; upper = u; tail = None; head = Some h })
parts_from n (Some l) (Some u) (Some t) h = Ok (record { lower = l; upper = u; tail = Some t; head = h })

abbrev pub parts_of : Token → List Phrase → Outcome Parts
parts_of n ps = parts_from n (phrase_value is_at_least ps) (phrase_value is_at_most ps) (phrase_value is_from ps) (phrase_value is_to ps)
