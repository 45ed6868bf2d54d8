use Rattle.std.proofs.Common.{Ok, Err, subst, refl, sym, arith}
use Rattle.std.proofs.lemmas.Grind.{common_steps}
use Rattle.net_solve.proofs.Closing.{At, found, placed}
use Rattle.net_solve.proofs.gaps.level_of.Goals.{in-Ok, in-Err}
use Rattle.net_solve.proofs.gaps.level_of.Goals as goal

pub bounds-levels-place : goal.bounds-levels-place
bounds-levels-place c =
    elim c.match-binary_search.branch [
      | in-Ok w ↦ let at = found c.args.sorted.now c.args.number.now (Ok w.in-Ok.place) w.in-Ok.ensures.position c.requires.rising c.requires.known in omega (arith, at.0, w.place-is, c.requires.levels)
      | in-Err w ↦ let at = found c.args.sorted.now c.args.number.now (Err w.in-Err.place) w.in-Err.ensures.position c.requires.rising c.requires.known in omega (arith, at.0, w.place-is, c.requires.levels)
    ]

pub returns : goal.returns
returns c =
    let at : At c.args.sorted.now c.args.number.now c.match-binary_search.place
    = elim c.match-binary_search.branch [
      | in-Ok w ↦ subst (At c.args.sorted.now c.args.number.now) (sym w.place-is) (found c.args.sorted.now c.args.number.now (Ok w.in-Ok.place) w.in-Ok.ensures.position c.requires.rising c.requires.known)
      | in-Err w ↦ subst (At c.args.sorted.now c.args.number.now) (sym w.place-is) (found c.args.sorted.now c.args.number.now (Err w.in-Err.place) w.in-Err.ensures.position c.requires.rising c.requires.known)
    ] in
    placed c.args.sorted.now c.args.levels.now c.args.number.now _ c.match-binary_search.place c.requires.levels c.requires.size at refl

pub offset_bounds-levels-place : goal.offset_bounds-levels-place
offset_bounds-levels-place c = grind (arith, common_steps)
