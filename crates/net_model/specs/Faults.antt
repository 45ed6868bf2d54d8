-- The error that is reported when parsing stops: its kind, its span and its detail.
use Rattle.std.specs.Prelude.{◌≡◌, ℕ, ◌-◌, Bool, true, false, ◌&&◌, List, [], ◌∷◌, length, drop, Result, Ok, Err, if◌then◌else◌}
use Rattle.net_lex.specs.declared.token.Kind.{Kind}
use Rattle.net_lex.specs.declared.token.Kind.TheVariants as kinds
use Rattle.net_base.specs.declared.diagnostic.Span.{Span}
use Rattle.net_tree.specs.declared.role.Role.{Role}
use Rattle.net_tree.specs.declared.role.Role.TheVariants as roles
use Rattle.net_tree.specs.declared.role.Relation.TheVariants as relations
use Rattle.net_tree.specs.declared.declaration.Model.{Model}
use Rattle.net_tree.specs.Role.{role_of}
use Rattle.net_tree.specs.Tree.{Declaration}
use Rattle.net_tree.specs.View as views
use Rattle.net_model.specs.declared.model_parser.Awaiting.{Awaiting}
use Rattle.net_model.specs.declared.model_parser.Awaiting.TheVariants as awaiting
use Rattle.net_model.specs.declared.model_parser.ParseError.{ParseError}
use Rattle.net_model.specs.declared.model_parser.ParseError.TheVariants as stops
use Rattle.net_base.specs.declared.error_code.ErrorCode.{ErrorCode}
use Rattle.net_base.specs.declared.error_code.ErrorCode.TheVariants as error_codes
use Rattle.net_base.specs.declared.diagnostic.Detail.{Detail}
use Rattle.net_base.specs.declared.diagnostic.Detail.TheVariants.{Nothing, Reported}
use Rattle.net_base.specs.declared.diagnostic.Diagnostic.{Diagnostic}
use Rattle.net_base.specs.declared.diagnostic.Fault.{Fault}
use Rattle.net_base.specs.declared.diagnostic.Fault.TheVariants.{OutOfMemory, At}
use Rattle.net_base.specs.declared.diagnostic.Language.TheVariants as languages
use Rattle.net_base.specs.Outcomes.{bare, diagnostic_at}
use Rattle.net_model.specs.Reading.{Tokens, Read}

abbrev pub begins_gain : Role → Bool
begins_gain roles.Number = true
begins_gain roles.Text = true
begins_gain roles.Name = true
begins_gain roles.Open = true
begins_gain roles.OpenBrace = true
begins_gain roles.Sign = true
begins_gain roles.If = true
begins_gain roles.Reduction = true
begins_gain _ = false

abbrev pub is_brace_or_equal : Role → Bool
is_brace_or_equal roles.OpenBrace = true
is_brace_or_equal (roles.Relation relations.Equal) = true
is_brace_or_equal _ = false

-- in the position of a phrase or of a declaration: a word, `=`, `==` or `{`
abbrev pub is_foreign : Kind → Role → Bool
is_foreign kinds.Name r = true
is_foreign kinds.Key r = true
is_foreign kinds.Num r = is_brace_or_equal r
is_foreign kinds.Str r = is_brace_or_equal r
is_foreign kinds.Mark r = is_brace_or_equal r
is_foreign kinds.Dot r = is_brace_or_equal r

abbrev pub foreign_error_code : Bool → ErrorCode
foreign_error_code true = error_codes.LeftOut
foreign_error_code false = error_codes.ModelSyntax

abbrev pub is_brace : Role → Bool
is_brace roles.OpenBrace = true
is_brace _ = false

abbrev pub foreign_for : Awaiting → Kind → Role → Bool
foreign_for awaiting.FurtherPhrase k r = true
foreign_for awaiting.Declaration k r = is_foreign k r
foreign_for awaiting.Phrase k r = is_foreign k r
foreign_for awaiting.PhraseAfterNode k r = is_foreign k r
foreign_for awaiting.Objective k r = is_brace r
foreign_for awaiting.Other k r = false

abbrev pub misplaced : Awaiting → Kind → Role → ErrorCode
misplaced a k roles.Net = error_codes.NetPlace
misplaced a k roles.LeftOut = error_codes.LeftOut
misplaced a k r = foreign_error_code (foreign_for a k r)

abbrev pub is_after_node : Awaiting → Bool
is_after_node awaiting.PhraseAfterNode = true
is_after_node _ = false

-- the error of a token in the position of what is expected
abbrev pub error_code_of : Awaiting → Kind → Role → ErrorCode
error_code_of a k r = if is_after_node a && begins_gain r then error_codes.Gain else misplaced a k r

-- an unsupported construct is reported with its word
abbrev pub detail_of : ErrorCode → List ℕ → Detail
detail_of error_codes.LeftOut text = Reported text
detail_of _ text = Nothing

-- the position after the last token, or 0
abbrev pub end_of : Tokens → Span
end_of [] = record { start = 0; end = 0 }
end_of (t ∷ []) = record { start = t.span.end; end = t.span.end }
end_of (t ∷ u ∷ ts) = end_of (u ∷ ts)

-- the last `left` tokens
abbrev pub left_of : ℕ → Tokens → Tokens
left_of left ts = drop (length ts - left) ts

abbrev pub rejected_fault : Awaiting → (left whole : Tokens) → Diagnostic
rejected_fault a [] ts = bare languages.Model error_codes.ModelSyntax (end_of ts)
rejected_fault a (t ∷ left) ts = diagnostic_at languages.Model (error_code_of a t.kind (role_of t)) t.span (detail_of (error_code_of a t.kind (role_of t)) t.text)

abbrev pub deep_fault : (left whole : Tokens) → Diagnostic
deep_fault [] ts = bare languages.Model error_codes.TooDeep (end_of ts)
deep_fault (t ∷ left) ts = bare languages.Model error_codes.TooDeep t.span

abbrev pub reported : ParseError → Tokens → Fault
reported stops.OutOfMemory ts = OutOfMemory
reported (stops.Rejected left a) ts = At (rejected_fault a (left_of left ts) ts)
reported (stops.TooDeep left) ts = At (deep_fault (left_of left ts) ts)

-- the error for a stop of the parser, unless memory ran out
abbrev pub IsReportedOf : ParseError → Tokens → Fault → Type 0
IsReportedOf s ts OutOfMemory = Unit {0}
IsReportedOf s ts (At f) = reported s ts ≡ At f

-- the result is the model that these tokens are parsed as, or the error for the parser's stop,
-- unless memory ran out
abbrev pub Reports : Tokens → Result Model Fault → Read (List Declaration × Unit {0}) → Type 0
Reports ts (Ok m) read = read ≡ Ok ((views.model m, tt), [])
Reports ts (Err OutOfMemory) read = Unit {0}
Reports ts (Err (At f)) read = (s : ParseError) × (read ≡ Err s) × (reported s ts ≡ At f)
