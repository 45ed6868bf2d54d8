-- What parse_data promises, from what is read.
use Rattle.std.proofs.Common.{◌≡◌, ℕ, List, [], ◌∷◌, Some, IfOk, Result, Ok, Err, refl, ap, sym, ◌∙◌, subst}
use Rattle.net_lex.specs.declared.token.Token.{Token}
use Rattle.net_base.specs.declared.error_code.ErrorCode.TheVariants.{DataSyntax, TableWidth}
use Rattle.net_base.specs.declared.diagnostic.Fault.{Fault}
use Rattle.net_base.specs.declared.diagnostic.Fault.TheVariants.{At}
use Rattle.net_base.specs.declared.diagnostic.Diagnostic.{Diagnostic}
use Rattle.net_base.specs.declared.diagnostic.Language.TheVariants.{Data}
use Rattle.net_base.specs.Outcomes as outcomes
use Rattle.net_data.specs.declared.data_parser.ParseError.{ParseError}
use Rattle.net_data.specs.declared.statement.Statement.{Statement}
use Rattle.net_data.specs.declared.statement.Statement.TheVariants as kinds
use Rattle.net_data.specs.declared.statement.Tables.{Tables}
use Rattle.net_data.specs.Meaning.{Mean, judged, all_judged, heading_judged, and_then, unless_faulty, checked}
use Rattle.net_data.specs.Reading.{tables, check_rows, stop, span_or_end, fault_of, Answers, ◌>>=◌}
use Rattle.net_data.proofs.TablesMean.{tables-sound, tables-complete}
use Rattle.net_data.proofs.Blames.{filled_err}

pub answer_means : (end : ℕ) (tokens : List Token) (result : Result Tables Fault) → Answers end (tables tokens) result → IfOk result (λ x. Mean tokens x)
answer_means end tokens (Ok x) h = (tables-sound tokens x h).mean
answer_means end tokens (Err e) h = tt

pub answer_full : (end : ℕ) (tokens : List Token) (result : Result Tables Fault) → Answers end (tables tokens) result → IfOk result (λ x. all_judged x.statements ≡ Ok tt)
answer_full end tokens (Ok x) h = (tables-sound tokens x h).judged
answer_full end tokens (Err e) h = tt

unless_is : (j : Result (Unit {0}) ParseError) (x : Tables) → (j >>= (λ full. Ok x)) ≡ unless_faulty j x
unless_is (Ok u) x = refl
unless_is (Err e) x = refl

pub answer_complete : (end : ℕ) (tokens : List Token) (result : Result Tables Fault) → Answers end (tables tokens) result → (x : Tables) → Mean tokens x → Answers end (checked x) result
answer_complete end tokens result h x mean = let P : Result Tables ParseError → Type 0 = λ r. Answers end r result in subst P (tables-complete tokens x mean ∙ unless_is (all_judged x.statements) x) h

heading_width : (columns : List Token) (assign : Token) (e : ParseError) → heading_judged columns assign ≡ Err e → e.error_code ≡ DataSyntax → ⊥
heading_width [] assign e h s = let same : stop TableWidth (Some assign.span) ≡ e = cc in let k = ap (λ (x : ParseError). x.error_code) same in cc
heading_width (c ∷ columns) assign e h s = cc

filled_width : (columns cells : List Token) (e : ParseError) → check_rows columns cells ≡ Err e → e.error_code ≡ DataSyntax → ⊥
filled_width columns cells e h s = let k = ap (λ (x : ParseError). x.error_code) (filled_err columns cells e h).1 in cc

and_width : (j k : Result (Unit {0}) ParseError) (e : ParseError) → (j ≡ Err e → e.error_code ≡ DataSyntax → ⊥) → (k ≡ Err e → e.error_code ≡ DataSyntax → ⊥) → and_then j k ≡ Err e → e.error_code ≡ DataSyntax → ⊥
and_width (Ok x) k e first second h s = second h s
and_width (Err d) k e first second h s = first h s

judged_width : (x : Statement) (e : ParseError) → judged x ≡ Err e → e.error_code ≡ DataSyntax → ⊥
judged_width (kinds.Set x) e h s = cc
judged_width (kinds.List x) e h s = cc
judged_width (kinds.Table x) e h s = and_width (heading_judged x.columns x.assign) (check_rows x.columns x.cells) e (heading_width x.columns x.assign e) (filled_width x.columns x.cells e) h s
judged_width (kinds.Columns x) e h s = heading_width x.names x.assign e h s

all_width : (xs : List Statement) (e : ParseError) → all_judged xs ≡ Err e → e.error_code ≡ DataSyntax → ⊥
all_width [] e h s = cc
all_width (x ∷ xs) e h s = and_width (judged x) (all_judged xs) e (judged_width x e) (all_width xs e) h s

judged_err : (j : Result (Unit {0}) ParseError) (x : Tables) (e : ParseError) → (j >>= (λ full. Ok x)) ≡ Err e → j ≡ Err e
judged_err (Ok u) x e h = absurd (cc)
judged_err (Err d) x e h = let same : d ≡ e = cc in rw same refl

pub no_tables : (tokens : List Token) (e : ParseError) → tables tokens ≡ Err e → e.error_code ≡ DataSyntax → (x : Tables) → Mean tokens x → ⊥
no_tables tokens e h s x mean = all_width x.statements e (judged_err (all_judged x.statements) x e (sym (tables-complete tokens x mean) ∙ h)) s

-- the fault of a stop with this place
pub fault_is : (end : ℕ) (e : ParseError) (f : Diagnostic) → At f ≡ fault_of end e → outcomes.bare Data e.error_code (span_or_end end e.at) ≡ f
fault_is end e f h = cc

judged_ok : (j : Result (Unit {0}) ParseError) (x y : Tables) → (j >>= (λ full. Ok x)) ≡ Ok y → x ≡ y
judged_ok (Ok u) x y h = cc
judged_ok (Err e) x y h = absurd (cc)

-- what tokens mean is one thing, where its tables have no fault
pub one_meaning : (tokens : List Token) (x y : Tables) → Mean tokens x → Mean tokens y → all_judged x.statements ≡ Ok tt → x ≡ y
one_meaning tokens x y mean other full =
    let here : tables tokens ≡ Ok x = tables-complete tokens x mean ∙ ap (λ j. j >>= (λ full. let r : Result Tables ParseError = Ok x in r)) full in
    sym (judged_ok (all_judged y.statements) y x (sym (tables-complete tokens y other) ∙ here))
