-- What the code finds in the declaration of an arc, and with what it builds arcs, as definitions see
-- them.
use Rattle.std.specs.Prelude.{map, option_map, option_copied}
use Rattle.net_tree.specs.View.{phrase_of, tree}
use Rattle.net_inst.specs.Arcs.{ArcEnv, ArcText}
use Rattle.net_inst.specs.declared.arc.ArcEnv as code
use Rattle.net_inst.specs.declared.arc_text.ArcText as code_text
use Rattle.net_inst.specs.declared.arc.ArcParts.{ArcParts}
use Rattle.net_inst.specs.Phrases.{Parts}

abbrev pub parts_seen : ArcParts → Parts
parts_seen p = record { lower = tree p.lower.now; upper = tree p.upper.now; tail = option_map tree (option_copied p.tail); head = option_map tree (option_copied p.head) }

abbrev pub arc_env_of : code.ArcEnv → ArcEnv
arc_env_of v = record { goal = v.goal.now; nodes = v.nodes.now; world = v.env.now }

abbrev pub arc_text_of : code_text.ArcText → ArcText
arc_text_of x = record { name = x.name.now; parts = parts_seen x.parts; phrases = map phrase_of x.phrases.now }
