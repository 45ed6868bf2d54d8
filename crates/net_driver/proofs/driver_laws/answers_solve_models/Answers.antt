use Rattle.net_driver.proofs.ModelMeaning.{answers_solve}
use Rattle.net_inst.proofs.SoundProblems.{problems_represent}
use Rattle.net_inst.proofs.SoundAssignments.{assignments_are_sound}
use Rattle.net_inst.proofs.Feasible.{have_feasible}
use Rattle.net_inst.proofs.Aiming.{have_objective}
use Rattle.net_driver.proofs.driver_laws.answers_solve_models.Goals as goal

pub returns : goal.returns
returns c = record { value = answers_solve problems_represent assignments_are_sound have_feasible have_objective }
