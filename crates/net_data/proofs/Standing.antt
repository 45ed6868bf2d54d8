-- What holds of the tokens of a data text holds of those of its statements. Where the tokens rise through the text, its statements lie in it, and so
-- does what stops the reading.
use Rattle.std.specs.Prelude.{◌≡◌, ℕ, ◌-◌, Bool, true, false, ◌&&◌, List, [], ◌∷◌, ◌++◌, length, slice_get, if◌then◌else◌, Option, None, Some, Err}
use Rattle.std.specs.List.{AllByRecursion}
use Rattle.std.proofs.Common.{refl, subst, arith}
use Rattle.net_base.specs.declared.diagnostic.Span.{Span}
use Rattle.net_base.specs.declared.error_code.ErrorCode.{ErrorCode}
use Rattle.net_base.specs.declared.error_code.ErrorCode.TheVariants.{DataSyntax}
use Rattle.net_lex.specs.declared.token.Token.{Token}
use Rattle.net_data.specs.declared.statement.DefaultValue.{DefaultValue}
use Rattle.net_data.specs.declared.statement.Given.{Given}
use Rattle.net_data.specs.declared.statement.NamedSet.{NamedSet}
use Rattle.net_data.specs.declared.statement.Transposed.{Transposed}
use Rattle.net_data.specs.declared.statement.Statement.{Statement}
use Rattle.net_data.specs.declared.statement.Statement.TheVariants.{Set, List as Listed, Table, Columns}
use Rattle.net_data.specs.declared.data_parser.ParseError.{ParseError}
use Rattle.net_data.specs.declared.statement.Single.{Single}
use Rattle.net_data.specs.declared.statement.Tables.{Tables}
use Rattle.net_data.specs.Commas.{TokenPlace, before, place_after, skips, bare}
use Rattle.net_data.specs.Tests.{is_comma}
use Rattle.net_data.specs.Meaning.{Mean}
use Rattle.net_data.specs.Printing.{put_default, put_given, put_transposed, put_set, put_single, put, put_all}
use Rattle.net_data.specs.Reading.{tables, end_at, end_of, span_or_end, fault_of}
use Rattle.net_data.specs.GoingOn.{BeginsBefore, IsWrong, at_token, at_end}
use Rattle.net_data.specs.Rejections.{IsErrorCodeAt}
use Rattle.net_data.proofs.FirstWrong.{answer_rejected}
use Rattle.net_base.specs.Places.{IsSpanIn}
use Rattle.net_base.proofs.Elements.{OfSome, all_left, all_right, all_get}
use Rattle.net_lex.proofs.Rising.{Rise, rise_ends}
use Rattle.net_data.specs.Standing.{DefaultToken, GivenTokens, NamedSetToken, AllTokens, SpanOf, TokensHaveSpans, StatementsHaveSpans}

module _ (P : Token → Type 0) where
  bare_tokens : (p : TokenPlace) (ts : List Token) → AllByRecursion P ts → AllByRecursion P (bare p ts)
  bare_tokens p [] h = tt
  bare_tokens p (t ∷ ts) h = go (skips p && is_comma t) (bare_tokens p ts h.1) (bare_tokens (place_after p t) ts h.1)
    where
      go : (b : Bool) → AllByRecursion P (bare p ts) → AllByRecursion P (bare (place_after p t) ts) → AllByRecursion P (if b then bare p ts else t ∷ bare (place_after p t) ts)
      go true k m = k
      go false k m = (h.0, m)

  -- a part, and what follows it
  abbrev And : Type 0 → List Token → Type 0
  And Part rest = Part × AllByRecursion P rest

  default_and : (d : Option DefaultValue) (r : List Token) → AllByRecursion P (put_default d r) → And (DefaultToken P d) r
  default_and None r h = (tt, h)
  default_and (Some d) r h = (h.1.0, h.1.1)

  given_and : (g : Option Given) (r : List Token) → AllByRecursion P (put_given g r) → And (GivenTokens P g) r
  given_and None r h = (tt, h)
  given_and (Some g) r h = (all_left P g.cells r h.1, all_right P g.cells r h.1)

  transposed_and : (t : Option Transposed) (r : List Token) → AllByRecursion P (put_transposed t r) → AllByRecursion P r
  transposed_and None r h = h
  transposed_and (Some t) r h = h.1.1.1

  named_and : (s : Option NamedSet) (r : List Token) → AllByRecursion P (put_set s r) → And (NamedSetToken P s) r
  named_and None r h = (tt, h)
  named_and (Some s) r h = (h.0, h.1.1)

  statement_and : (s : Statement) (r : List Token) → AllByRecursion P (put s r) → And (AllTokens P s) r
  statement_and (Set s) r h = ((h.1.0, all_left P s.items (s.end ∷ r) h.1.1.1), (all_right P s.items (s.end ∷ r) h.1.1.1).1)
  statement_and (Listed l) r h =
      let (d, more) = default_and l.default (put_given l.given (l.end ∷ r)) h.1.1 in
      let (g, rest) = given_and l.given (l.end ∷ r) more in
      ((h.1.0, d, g), rest.1)
  statement_and (Table t) r h =
      let (d, more) = default_and t.default (put_transposed t.transposed (t.colon ∷ (t.columns ++ t.assign ∷ (t.cells ++ t.end ∷ r)))) h.1.1 in
      let others = (transposed_and t.transposed (t.colon ∷ (t.columns ++ t.assign ∷ (t.cells ++ t.end ∷ r))) more).1 in
      let behind = (all_right P t.columns (t.assign ∷ (t.cells ++ t.end ∷ r)) others).1 in
      ((h.1.0, d, all_left P t.columns (t.assign ∷ (t.cells ++ t.end ∷ r)) others, all_left P t.cells (t.end ∷ r) behind), (all_right P t.cells (t.end ∷ r) behind).1)
  statement_and (Columns c) r h =
      let (s, more) = named_and c.set (c.names ++ c.assign ∷ (c.cells ++ c.end ∷ r)) h.1.1 in
      let behind = (all_right P c.names (c.assign ∷ (c.cells ++ c.end ∷ r)) more).1 in
      ((s, all_left P c.names (c.assign ∷ (c.cells ++ c.end ∷ r)) more, all_left P c.cells (c.end ∷ r) behind), (all_right P c.cells (c.end ∷ r) behind).1)

  all_statements : (ss : List Statement) (r : List Token) → AllByRecursion P (put_all ss r) → AllByRecursion (AllTokens P) ss
  all_statements [] r h = tt
  all_statements (s ∷ ss) r h = let (one, more) = statement_and s (put_all ss r) h in (one, all_statements ss r more)

  after_single : (o : Option Single) (r : List Token) → AllByRecursion P (put_single o r) → AllByRecursion P r
  after_single None r h = h
  after_single (Some l) r h = h.1.1

  -- what holds of each token holds of the tokens of the statements that they mean
  pub mean_tokens : (tokens : List Token) (x : Tables) → Mean tokens x → AllByRecursion P tokens → AllByRecursion (AllTokens P) x.statements
  mean_tokens tokens x mean h =
      all_statements x.statements (put_single x.ending []) (after_single x.opening (put_all x.statements (put_single x.ending []))
      (subst (AllByRecursion P) mean.printed (bare_tokens before tokens h)))

-- statements that tokens mean stand where the tokens do
pub mean_stand : (P : Span → Type 0) (tokens : List Token) (x : Tables) → Mean tokens x → TokensHaveSpans P tokens → StatementsHaveSpans P x.statements
mean_stand P tokens x mean h = mean_tokens (SpanOf P) tokens x mean h

module _ (size : ℕ) where
  pub rising_stand : (from : ℕ) (ts : List Token) → Rise from size ts → TokensHaveSpans (IsSpanIn size) ts
  rising_stand from [] h = tt
  rising_stand from (t ∷ ts) (h, k, m) = (record { forward = k; inside = rise_ends t.span.end size ts m }, rising_stand t.span.end ts m)

  -- of a token among those that stand
  among_lies : (front : List Token) (t : Token) (more tokens : List Token) (at : Span) → tokens ≡ front ++ t ∷ more → t.span ≡ at → TokensHaveSpans (IsSpanIn size) tokens → IsSpanIn size at
  among_lies front t more tokens at parts is h =
      subst (IsSpanIn size) is (all_right (λ (u : Token). IsSpanIn size u.span) front (t ∷ more) (subst (TokensHaveSpans (IsSpanIn size)) parts h)).0

  end_lies : (tokens : List Token) → TokensHaveSpans (IsSpanIn size) tokens → IsSpanIn size (span_or_end (end_of tokens) None)
  end_lies tokens h = go (slice_get tokens (length tokens - 1)) (all_get _ tokens (length tokens - 1) h)
    where
      go : (t : Option Token) → OfSome (λ (u : Token). IsSpanIn size u.span) t → IsSpanIn size (span_or_end (end_at t) None)
      go None k = record { forward = omega arith; inside = omega arith }
      go (Some t) k = record { forward = omega arith; inside = k.inside }

  wrong_lies : (tokens : List Token) (at : Span) → TokensHaveSpans (IsSpanIn size) tokens → IsWrong tokens at → IsSpanIn size at
  wrong_lies tokens at h (at_token e) = among_lies e.front e.token e.more tokens at e.parts e.at h
  wrong_lies tokens at h (at_end is opens) = subst (IsSpanIn size) is (end_lies tokens h)

  before_lies : (tokens : List Token) (at : Span) → TokensHaveSpans (IsSpanIn size) tokens → BeginsBefore tokens at → IsSpanIn size at
  before_lies tokens at h b = among_lies b.front b.token b.more tokens at b.parts b.at h

  error_code_lies : (tokens : List Token) (d : ErrorCode) (at : Span) → TokensHaveSpans (IsSpanIn size) tokens → IsErrorCodeAt tokens d at → IsSpanIn size at
  error_code_lies tokens DataSyntax at h is = wrong_lies tokens at h is
  error_code_lies tokens _ at h is = before_lies tokens at h is.1

  -- where reading stops lies in the text
  pub stop_lies : (tokens : List Token) (e : ParseError) → TokensHaveSpans (IsSpanIn size) tokens → tables tokens ≡ Err e → IsSpanIn size (span_or_end (end_of tokens) e.at)
  stop_lies tokens e h is =
      let rejected = answer_rejected tokens (Err (fault_of (end_of tokens) e)) (e, is, refl) in
      error_code_lies tokens e.error_code (span_or_end (end_of tokens) e.at) h rejected.1
