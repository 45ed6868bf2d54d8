use Rattle.std.specs.Prelude.{length}
use Rattle.std.proofs.Common.{refl, sym, subst}
use Rattle.net_base.specs.Places.{IsSpanIn}
use Rattle.net_driver.specs.FirstFaults.{IsStop}
use Rattle.net_driver.specs.Reporting.{IsReported, IsSpanThere}
use Rattle.net_driver.proofs.FaultPlaces.{detail_may}
use Rattle.net_driver.proofs.Networks.{met}
use Rattle.net_driver.proofs.reporting.reported.Goals as goal

pub rejection_of-requires : goal.rejection_of-requires
rejection_of-requires c =
    subst (λ text. IsSpanIn (length text) c.in-Err-At.diagnostic.at) (sym c.text_of.ensures)
    (met (IsSpanThere c.args.model.now c.args.data.now) _ _ _ c.in-Err-At.is c.in-Err-At.field-0-is c.requires)

pub returns-in-Err-OutOfMemory-clause-rejected : goal.returns-in-Err-OutOfMemory-clause-rejected
returns-in-Err-OutOfMemory-clause-rejected c = λ wanted stopped.
    met (IsStop wanted c.args.model.now c.args.data.now) _ _ _ c.in-Err-OutOfMemory.is c.in-Err-OutOfMemory.field-0-is stopped

pub returns-in-Ok-rejection_of-clause-rejected : goal.returns-in-Ok-rejection_of-clause-rejected
returns-in-Ok-rejection_of-clause-rejected c = λ wanted stopped. (
  c.in-Err-At.diagnostic,
  met (IsStop wanted c.args.model.now c.args.data.now) _ _ _ c.in-Err-At.is c.in-Err-At.field-0-is stopped,
  subst (λ text. IsReported text c.in-Err-At.diagnostic c.in-Ok-rejection_of.rejection) c.text_of.ensures c.in-Ok-rejection_of.ensures.ok,
)

pub returns-clause-rejected : goal.returns-clause-rejected
returns-clause-rejected c = λ wanted stopped.
    detail_may wanted c.args.model.now c.args.data.now c.in-Err-At.diagnostic
    (met (IsStop wanted c.args.model.now c.args.data.now) _ _ _ c.in-Err-At.is c.in-Err-At.field-0-is stopped) (λ none. c.in-Err.ensures.err refl none)
