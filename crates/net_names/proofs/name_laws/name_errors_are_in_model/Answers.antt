use Rattle.std.proofs.Common.{[], Option, None, Some, IfSome}
use Rattle.net_base.specs.declared.diagnostic.Span.{Span}
use Rattle.net_base.proofs.Elements.{OfSome}
use Rattle.net_base.specs.Places.{IsSpanIn}
use Rattle.net_names.specs.Reported.{Fault}
use Rattle.net_names.specs.Names.{names_fault}
use Rattle.net_names.proofs.NamesStand.{names_stand}
use Rattle.net_names.proofs.name_laws.name_errors_are_in_model.Goals as goal

stands_if : (P : Span → Type 0) (f : Option Fault) → OfSome (λ (x : Fault). P x.1.span) f → IfSome f (λ x. P x.1.span)
stands_if P None h = tt
stands_if P (Some x) h = h

pub returns : goal.returns
returns c = record { value = λ size ds h. stands_if (IsSpanIn size) (names_fault [] ds) (names_stand (IsSpanIn size) (λ x. IsSpanIn size x.1.span) (λ d t i k. k) (λ t k. k) [] ds h) }
