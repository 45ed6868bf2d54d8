use Rattle.std.proofs.Common.{length, arith}
use Rattle.net_solve.proofs.Reducing.{scaled-cost, scaled-sized, sum-fits, difference-fits, reduced-value, reduced-sized}
use Rattle.std.proofs.lemmas.Grind.{common_steps}
use Rattle.net_solve.proofs.rounding.reduced.Goals as goal

pub overflow_add-result : goal.overflow_add-result
overflow_add-result c = sum-fits _ _ _ (scaled-cost (length c.args.potentials.now) c.args.arc.now.cost c.requires.few c.requires.arc.cost) (scaled-sized (length c.args.potentials.now) c.args.arc.now.cost c.requires.few c.requires.arc.cost) (c.requires.deep.each c.args.arc.now.src c.requires.arc.src)

pub overflow_sub-result : goal.overflow_sub-result
overflow_sub-result c = difference-fits _ _ _ _ (scaled-cost (length c.args.potentials.now) c.args.arc.now.cost c.requires.few c.requires.arc.cost) (scaled-sized (length c.args.potentials.now) c.args.arc.now.cost c.requires.few c.requires.arc.cost) (c.requires.deep.each c.args.arc.now.src c.requires.arc.src) (c.requires.deep.each c.args.arc.now.dst c.requires.arc.dst)

pub returns-clause-value : goal.returns-clause-value
returns-clause-value c = reduced-value _ _ _ _ (scaled-cost (length c.args.potentials.now) c.args.arc.now.cost c.requires.few c.requires.arc.cost) (scaled-sized (length c.args.potentials.now) c.args.arc.now.cost c.requires.few c.requires.arc.cost) (c.requires.deep.each c.args.arc.now.src c.requires.arc.src) (c.requires.deep.each c.args.arc.now.dst c.requires.arc.dst)

pub returns-clause-size : goal.returns-clause-size
returns-clause-size c = reduced-sized _ _ _ _ (returns-clause-value c) (scaled-sized (length c.args.potentials.now) c.args.arc.now.cost c.requires.few c.requires.arc.cost) (c.requires.deep.each c.args.arc.now.src c.requires.arc.src) (c.requires.deep.each c.args.arc.now.dst c.requires.arc.dst)

pub overflow_mul-result : goal.overflow_mul-result
overflow_mul-result c = grind (arith, common_steps)
