-- What a refusal of parse_data promises: where it stands at a token, that is the first with which no statements go on.
use Rattle.std.proofs.Common.{◌≡◌, ℕ, zero, suc, ◌<◌, List, [], ◌∷◌, ◌++◌, length, Option, Some, None, IfErr, Result, Ok, Err, refl, ap, sym, ◌∙◌, subst, arith, length-append, append_assoc, append-nil, inl, inr}
use Rattle.net_base.specs.declared.diagnostic.Span.{Span}
use Rattle.net_lex.specs.declared.token.Token.{Token}
use Rattle.net_base.specs.declared.error_code.ErrorCode.{ErrorCode}
use Rattle.net_base.specs.declared.error_code.ErrorCode.TheVariants.{DataSyntax}
use Rattle.net_base.specs.declared.diagnostic.Fault.{Fault}
use Rattle.net_base.specs.declared.diagnostic.Fault.TheVariants.{OutOfMemory, At}
use Rattle.net_data.specs.declared.data_parser.ParseError.{ParseError}
use Rattle.net_data.specs.declared.statement.Tables.{Tables}
use Rattle.net_data.specs.GoingOn.{Begins, EndsAt, NoneGoOn, EndsOpen, AllBegin, IsWrong, at_token, at_end}
use Rattle.net_data.specs.Meaning.{Mean}
use Rattle.net_data.specs.Reading.{tables, stop, end_of, span_or_end, Fails, Answers}
use Rattle.net_data.specs.Rejections.{HasFault, IsErrorCodeAt, IsRejection}
use Rattle.net_data.proofs.Blames.{tables_err}
use Rattle.net_data.proofs.GoingOn.{stops_at_token}
use Rattle.net_data.proofs.Lookahead.{err_is, place_is}
use Rattle.net_data.proofs.Mending.{place_of}
use Rattle.net_data.proofs.MendingTables.{begun_before}
use Rattle.net_data.proofs.Promise.{no_tables, fault_is}
use Rattle.net_data.proofs.TablesMean.{tables-sound}
use Rattle.net_data.proofs.WidthsBegun.{fault_begun}
use Rattle.net_data.proofs.WidthsStay.{widths_stay}

-- tokens that are read, or up to their end, begin statements
open_begins : (tokens : List Token) (e : ParseError) → tables tokens ≡ Err e → e.error_code ≡ DataSyntax → e.at ≡ None → Begins tokens
open_begins tokens e h d at =
    let m = begun_before tokens e h d in
    let nothing : m.left ≡ [] = none_left m.left (sym m.stands ∙ at) in
    let whole : m.before ≡ tokens = sym (append-nil m.before) ∙ ap (λ k. m.before ++ k) (sym nothing) ∙ sym m.parts in
    subst Begins whole m.begins
  where
    none_left : (ts : List Token) → place_of ts ≡ None → ts ≡ []
    none_left [] k = refl
    none_left (t ∷ ts) k = absurd (cc)

read_begins : (tokens : List Token) (x : Tables) → tables tokens ≡ Ok x → Begins tokens
read_begins tokens x h = ([], x, subst (λ z. Mean z x) (sym (append-nil tokens)) (tables-sound tokens x h).mean)

-- the token of a stop, before which the tokens begin statements
record FirstAt (tokens : List Token) (e : ParseError) (span : Span) : Type 0 where
  front : List Token
  token : Token
  more : List Token
  parts : tokens ≡ front ++ token ∷ more
  at : token.span ≡ span
  begins : Begins front
  always : (other : List Token) → tables (front ++ token ∷ other) ≡ Err e

first_at : (n : ℕ) (front : List Token) (token : Token) (more : List Token) (e : ParseError) (span : Span) → length front < n → token.span ≡ span → e.error_code ≡ DataSyntax → e.at ≡ Some span
    → ((other : List Token) → tables (front ++ token ∷ other) ≡ Err e) → FirstAt (front ++ token ∷ more) e span
first_at zero front token more e span less here d at always = absurd (omega (arith, less))
first_at (suc n) front token more e span less here d at always =
    go (tables front) refl (λ ft fk fm shorter place alike. first_at n ft fk fm e span shorter place d at alike)
  where
    found : Begins front → FirstAt (front ++ token ∷ more) e span
    found b = record { front = front; token = token; more = more; parts = refl; at = here; begins = b; always = always }

    earlier : (c : ParseError) (place : Span) → tables front ≡ Err c → c.error_code ≡ DataSyntax → c.at ≡ Some place
        → ((ft : List Token) (fk : Token) (fm : List Token) → length ft < n → fk.span ≡ span → ((other : List Token) → tables (ft ++ fk ∷ other) ≡ Err e) → FirstAt (ft ++ fk ∷ fm) e span)
        → FirstAt (front ++ token ∷ more) e span
    earlier c place i s p copied =
        let st = stops_at_token front c place i s p in
        let cut : (us : List Token) → front ++ us ≡ st.front ++ st.token ∷ (st.more ++ us) = λ us. ap (λ k. k ++ us) st.parts ∙ append_assoc st.front (st.token ∷ st.more) us in
        let same : c ≡ e = err_is {A = Tables} c e (sym (st.always (st.more ++ token ∷ [])) ∙ sym (ap tables (cut (token ∷ []))) ∙ always []) in
        let place_same : place ≡ span = place_is place span (sym p ∙ ap (λ (z : ParseError). z.at) same ∙ at) in
        let long = ap (λ (ts : List Token). length ts) st.parts in
        subst (λ z. FirstAt z e span) (sym (cut (token ∷ more)))
        (copied st.front st.token (st.more ++ token ∷ more) (omega (arith, long, length-append st.front (st.token ∷ st.more), less)) (st.at ∙ place_same)
        (λ other. st.always other ∙ ap (λ z. let r : Result Tables ParseError = Err z in r) same))

    by : (c : ParseError) → tables front ≡ Err c → (k : ErrorCode) → c.error_code ≡ k → (o : Option Span) → c.at ≡ o
        → ((ft : List Token) (fk : Token) (fm : List Token) → length ft < n → fk.span ≡ span → ((other : List Token) → tables (ft ++ fk ∷ other) ≡ Err e) → FirstAt (ft ++ fk ∷ fm) e span)
        → FirstAt (front ++ token ∷ more) e span
    by c i DataSyntax s None p copied = found (open_begins front c i s p)
    by c i DataSyntax s (Some place) p copied = earlier c place i s p copied
    by c i width s o p copied = absurd (widths_stay front (token ∷ []) c e i (λ k. let j = sym s ∙ k in cc) (always []) d)

    go : (r : Result Tables ParseError) → tables front ≡ r
        → ((ft : List Token) (fk : Token) (fm : List Token) → length ft < n → fk.span ≡ span → ((other : List Token) → tables (ft ++ fk ∷ other) ≡ Err e) → FirstAt (ft ++ fk ∷ fm) e span)
        → FirstAt (front ++ token ∷ more) e span
    go (Ok x) i copied = found (read_begins front x i)
    go (Err c) i copied = by c i c.error_code refl c.at refl copied

ends_at : (tokens : List Token) (e : ParseError) (span : Span) → tables tokens ≡ Err e → e.error_code ≡ DataSyntax → e.at ≡ Some span → EndsAt tokens span
ends_at tokens e span h d at =
    let s = stops_at_token tokens e span h d at in
    let f = first_at (suc (length s.front)) s.front s.token s.more e span (omega arith) s.at d at s.always in
    record {
      front = f.front;
      token = f.token;
      more = f.more;
      parts = s.parts ∙ f.parts;
      at = f.at;
      begins = f.begins;
      none = λ other x. no_tables (f.front ++ f.token ∷ other) e (f.always other) d x;
    }

ends_open : (tokens : List Token) (e : ParseError) → tables tokens ≡ Err e → e.error_code ≡ DataSyntax → e.at ≡ None → EndsOpen tokens
ends_open tokens e h d at = record { begins = open_begins tokens e h d at; none = no_tables tokens e h d }

pub none_go_on : NoneGoOn
none_go_on tokens span h = ends_at tokens (stop DataSyntax (Some span)) span h refl refl

pub all_begin : AllBegin
all_begin tokens h = ends_open tokens (stop DataSyntax None) h refl refl

faulty : (tokens : List Token) (end : ℕ) (e : ParseError) (error_code : ErrorCode) (span : Span) → tables tokens ≡ Err e → e.error_code ≡ error_code → span_or_end end e.at ≡ span → (error_code ≡ DataSyntax → ⊥) → HasFault tokens error_code span
faulty tokens end e error_code span h same there width =
    elim (tables_err tokens e h) [
      | inl s ↦ absurd (width (sym same ∙ s))
      | inr b ↦
          let place : b.0 ≡ span = sym (ap (span_or_end end) b.1) ∙ there in
          let P : ErrorCode → Type 0 = λ d. HasFault tokens d span in
          let Q : Span → Type 0 = λ s. HasFault tokens e.error_code s in
          subst P same (subst Q place b.2)
    ]

wrong : (tokens : List Token) (e : ParseError) (span : Span) → tables tokens ≡ Err e → e.error_code ≡ DataSyntax → span_or_end (end_of tokens) e.at ≡ span → IsWrong tokens span
wrong tokens e span h d place = by e.at refl
  where
    by : (o : Option Span) → e.at ≡ o → IsWrong tokens span
    by None at = at_end (ap (span_or_end (end_of tokens)) (sym at) ∙ place) (ends_open tokens e h d at)
    by (Some s) at = let same : s ≡ span = ap (span_or_end (end_of tokens)) (sym at) ∙ place in at_token (subst (EndsAt tokens) same (ends_at tokens e s h d at))

error_code_at : (tokens : List Token) (e : ParseError) (error_code : ErrorCode) (span : Span) → tables tokens ≡ Err e → e.error_code ≡ error_code → span_or_end (end_of tokens) e.at ≡ span → IsErrorCodeAt tokens error_code span
error_code_at tokens e DataSyntax span h same there = wrong tokens e span h same there
error_code_at tokens e error_code span h same there = let f = faulty tokens (end_of tokens) e error_code span h same there (λ s. cc) in (f, fault_begun tokens error_code span f)

rejects : (tokens : List Token) (fault : Fault) → Fails (end_of tokens) (tables tokens) fault → IsRejection tokens fault
rejects tokens OutOfMemory h = tt
rejects tokens (At f) (e, h, is) =
    let same = fault_is (end_of tokens) e f is in
    (cc, error_code_at tokens e f.error_code f.at h (ap (λ g. g.error_code) same) (ap (λ g. g.at) same))

pub answer_rejected : (tokens : List Token) (result : Result Tables Fault) → Answers (end_of tokens) (tables tokens) result → IfErr result (IsRejection tokens)
answer_rejected tokens (Ok x) h = tt
answer_rejected tokens (Err fault) h = rejects tokens fault h
