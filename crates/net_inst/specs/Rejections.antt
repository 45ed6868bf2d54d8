-- Errors in declarations.
use Rattle.net_lex.specs.declared.token.Token.{Token}
use Rattle.net_base.specs.declared.error_code.ErrorCode.{ErrorCode}
use Rattle.net_base.specs.declared.diagnostic.Detail.TheVariants.{Reported}
use Rattle.net_base.specs.Outcomes.{Outcome, rejected_of}

-- the error is at the declared name, with the name as its detail
abbrev pub rejected_name : {A : Type 0} → ErrorCode → Token → Outcome A
rejected_name d n = rejected_of d n.span (Reported n.text)
