use Rattle.net_driver.proofs.OneAnswer.{one_answer, solved_as_compiled, no_fault}
use Rattle.net_driver.proofs.driver_laws.texts_have_one_answer.Goals as goal

pub returns-clause-compiled : goal.returns-clause-compiled
returns-clause-compiled c = one_answer

pub returns-clause-solved : goal.returns-clause-solved
returns-clause-solved c = solved_as_compiled

pub returns-clause-rejected : goal.returns-clause-rejected
returns-clause-rejected c = no_fault
