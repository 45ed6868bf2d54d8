-- How the first error of a model with its data is reported.
use Rattle.std.specs.Prelude.{◌≡◌, ℕ, List, Option, length, take, string_bytes, ⊤}
use Rattle.net_base.specs.declared.diagnostic.Language.{Language}
use Rattle.net_base.specs.declared.diagnostic.Language.TheVariants as languages
use Rattle.net_lex.specs.Places.{line_of, column_of}
use Rattle.net_base.specs.declared.diagnostic.Fault.{Fault as TextFault}
use Rattle.net_base.specs.declared.diagnostic.Fault.TheVariants as text_faults
use Rattle.net_base.specs.Places.{IsSpanIn}
use Rattle.net_expr.specs.Worlds.{Name}
use Rattle.net_expr.specs.References.{detail_text}
use Rattle.net_base.specs.declared.diagnostic.Diagnostic.{Diagnostic}
use Rattle.net_driver.specs.FirstFaults.{IsFirstFault, MayBeModel}
use Rattle.net_report.specs.Links.{in_line}
use Rattle.net_driver.specs.declared.driver_fault.Fault.{Fault}
use Rattle.net_driver.specs.declared.driver_fault.Fault.TheVariants.{OutOfMemory, Rejected, RejectedLine, Unread, Unwritten}
use Rattle.net_driver.specs.declared.driver_fault.Rejection.{Rejection}
use Rattle.net_driver.specs.declared.driver_fault.TextName.{TextName}
use Rattle.net_driver.specs.declared.driver_fault.TextName.TheVariants.{Model, Data}

abbrev pub name_of : Language → TextName
name_of languages.Model = Model
name_of languages.Data = Data

abbrev pub text_of : (model_text data_text : List ℕ) → Language → List ℕ
text_of model_text data_text languages.Model = model_text
text_of model_text data_text languages.Data = data_text

-- the span of the error is within its file
abbrev pub IsSpanThere : (model_text data_text : List ℕ) → TextFault → Type 0
IsSpanThere model_text data_text text_faults.OutOfMemory = ⊤
IsSpanThere model_text data_text (text_faults.At f) = IsSpanIn (length (text_of model_text data_text f.text)) f.at

-- an error in a text, with the line and the column of its start, and its detail as text within one
-- line
pub record IsReported (text : List ℕ) (diagnostic : Diagnostic) (r : Rejection) : Type 0 where
  pub kind : r.kind ≡ diagnostic.error_code
  pub named : r.text ≡ name_of diagnostic.text
  pub span : r.span ≡ diagnostic.at
  pub lies : IsSpanIn (length text) r.span
  pub line : r.line ≡ line_of (take r.span.start text)
  pub column : r.column ≡ column_of (take r.span.start text)
  pub detail : string_bytes r.detail ≡ in_line (detail_text diagnostic.detail)

-- the first error, reported with its position; or out of memory, if the model is within the limit
-- and UTF-8
abbrev pub IsRejection : Option Name → (model_text data_text : List ℕ) → Fault → Type 0
IsRejection wanted model_text data_text OutOfMemory = MayBeModel model_text
IsRejection wanted model_text data_text (Rejected r) =
    (diagnostic : Diagnostic) × IsFirstFault wanted model_text data_text diagnostic × IsReported (text_of model_text data_text diagnostic.text) diagnostic r
IsRejection wanted model_text data_text (RejectedLine r) = ⊥
IsRejection wanted model_text data_text (Unread text) = ⊥
IsRejection wanted model_text data_text Unwritten = ⊥
