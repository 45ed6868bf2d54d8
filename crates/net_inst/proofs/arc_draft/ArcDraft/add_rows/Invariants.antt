use Rattle.std.specs.Prelude.{◌≡◌, ◌≤◌, drop, length}
use Rattle.net_inst.specs.Arcs.{arcs_at}
use Rattle.net_inst.specs.Parts.{arc_env_of, arc_text_of}
use Rattle.net_inst.proofs.arc_draft.ArcDraft.add_rows.Given as goal

abbrev pub invariant-loop-place : goal.invariant-loop-place
invariant-loop-place l =
    (arcs_at (arc_env_of l.text.visible) (arc_text_of l.text) l.count (drop l.place l.rows) l.self
    ≡ arcs_at (arc_env_of l.fn.text.visible) (arc_text_of l.fn.text) l.fn.count l.fn.rows l.fn.self)
    × (l.place ≤ length l.self.arcs)
