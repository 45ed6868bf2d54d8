-- Before the place of a fault of widths the tokens begin statements, with the commas that stand there.
use Rattle.std.proofs.Common.{◌≡◌, Bool, true, false, cond, not, ◌&&◌, List, [], ◌∷◌, ◌++◌, Option, Some, None, IfSome, refl, ap, sym, ◌∙◌, subst, codes, append_assoc}
use Rattle.std.specs.List.{list_all, AllByRecursion}
use Rattle.std.proofs.lemmas.Bool.{and_parts, and_from}
use Rattle.net_base.specs.declared.diagnostic.Span.{Span}
use Rattle.net_lex.specs.declared.token.Token.{Token}
use Rattle.net_base.specs.declared.error_code.ErrorCode.{ErrorCode}
use Rattle.net_data.specs.declared.statement.Statement.{Statement}
use Rattle.net_data.specs.declared.statement.Statement.TheVariants as kinds
use Rattle.net_data.specs.declared.statement.Single.{Single}
use Rattle.net_data.specs.Commas.{TokenPlace, before, place_after, skips, bare}
use Rattle.net_data.specs.GoingOn.{BeginsBefore}
use Rattle.net_data.specs.Meaning.{IsStatement, IsSingle}
use Rattle.net_data.specs.Printing.{put, put_default, put_transposed, put_set, put_table_heading, put_all, put_single}
use Rattle.net_data.specs.Reading.{last_span, last_span_or}
use Rattle.net_data.specs.Rejections.{IsFaulty, short_row, no_column, no_name, HasFault}
use Rattle.net_data.specs.Tests.{is_cell, is_comma}
use Rattle.net_data.proofs.MendingStatements.{stop_mark, gives_mark}
use Rattle.net_data.proofs.WidthsStay.{heading-append, all-append, single-append, default-append, transposed-append, set-append}

-- tokens without a comma
abbrev Plain : List Token → Type 0
Plain ts = list_all (λ t. not (is_comma t)) ts ≡ true

plain_token : (t : Token) → not (is_comma t) ≡ true → is_comma t ≡ false
plain_token t h = by (is_comma t) h
  where
    by : (b : Bool) → not b ≡ true → b ≡ false
    by true k = absurd (cc)
    by false k = refl

keep : (p : TokenPlace) (t : Token) (ts : List Token) → is_comma t ≡ false → bare p (t ∷ ts) ≡ t ∷ bare (place_after p t) ts
keep p t ts is = by (skips p)
  where
    by : (b : Bool) → cond (b && is_comma t) (bare p ts) (t ∷ bare (place_after p t) ts) ≡ t ∷ bare (place_after p t) ts
    by true = rw is refl
    by false = refl

bare-plain : (p : TokenPlace) (ts : List Token) → Plain ts → bare p ts ≡ ts
bare-plain p [] plain = refl
bare-plain p (t ∷ ts) plain =
    let parts = and_parts (not (is_comma t)) (list_all (λ t. not (is_comma t)) ts) plain in
    keep p t ts (plain_token t parts.0) ∙ ap (λ k. t ∷ k) (bare-plain (place_after p t) ts parts.1)

-- the tokens up to one of those that are printed
record Split (p : TokenPlace) (tokens xs : List Token) (c : Token) : Type 0 where
  front : List Token
  more : List Token
  parts : tokens ≡ front ++ c ∷ more
  text : (ts : List Token) → Plain ts → bare p (front ++ ts) ≡ xs ++ ts

split : (p : TokenPlace) (tokens xs : List Token) (c : Token) (ys : List Token) → bare p tokens ≡ xs ++ c ∷ ys → Split p tokens xs c
split p [] [] c ys h = absurd (cc)
split p [] (x ∷ xs) c ys h = absurd (cc)
split p (t ∷ ts) xs c ys h = go (skips p && is_comma t) refl h (λ k. split p ts xs c ys k) (λ us k. split (place_after p t) ts us c ys k)
  where
    kept : (zs : List Token) → (skips p && is_comma t) ≡ false → t ∷ bare (place_after p t) ts ≡ zs ++ c ∷ ys
        → ((us : List Token) → bare (place_after p t) ts ≡ us ++ c ∷ ys → Split (place_after p t) ts us c) → Split p (t ∷ ts) zs c
    kept [] i k more =
        let head : t ≡ c = cc in
        record { front = []; more = ts; parts = ap (λ z. z ∷ ts) head; text = λ us plain. bare-plain p us plain }
    kept (z ∷ zs) i k more =
        let head : t ≡ z = cc in
        let tail : bare (place_after p t) ts ≡ zs ++ c ∷ ys = cc in
        let s = more zs tail in
        record {
          front = t ∷ s.front;
          more = s.more;
          parts = ap (λ us. t ∷ us) s.parts;
          text = λ us plain. ap (λ b. cond b (bare p (s.front ++ us)) (t ∷ bare (place_after p t) (s.front ++ us))) i ∙ ap (λ us. t ∷ us) (s.text us plain) ∙ ap (λ y. y ∷ zs ++ us) head;
        }

    go : (b : Bool) → (skips p && is_comma t) ≡ b → cond b (bare p ts) (t ∷ bare (place_after p t) ts) ≡ xs ++ c ∷ ys → (bare p ts ≡ xs ++ c ∷ ys → Split p ts xs c)
        → ((us : List Token) → bare (place_after p t) ts ≡ us ++ c ∷ ys → Split (place_after p t) ts us c) → Split p (t ∷ ts) xs c
    go true i k skipped more =
        let s = skipped k in
        record {
          front = t ∷ s.front;
          more = s.more;
          parts = ap (λ us. t ∷ us) s.parts;
          text = λ us plain. ap (λ b. cond b (bare p (s.front ++ us)) (t ∷ bare (place_after p t) (s.front ++ us))) i ∙ s.text us plain;
        }
    go false i k skipped more = kept xs i k more

-- one statement more
all-snoc : (xs : List Statement) (x : Statement) (r : List Token) → put_all (xs ++ x ∷ []) r ≡ put_all xs (put x r)
all-snoc [] x r = refl
all-snoc (y ∷ xs) x r = ap (put y) (all-snoc xs x r)

are-snoc : (xs : List Statement) (x : Statement) → AllByRecursion IsStatement xs → IsStatement x → AllByRecursion IsStatement (xs ++ x ∷ [])
are-snoc [] x are is = (is, tt)
are-snoc (y ∷ xs) x are is = (are.0, are-snoc xs x are.1 is)

-- A statement is begun by us before a token that is printed, and closing ends it.
begun : (tokens : List Token) (span : Span) (o : Option Single) (xs : List Statement) (us : List Token) (c : Token) (ys closing : List Token) (s : Statement)
    → bare before tokens ≡ put_single o (put_all xs (us ++ c ∷ ys)) → c.span ≡ span → Plain closing → us ++ closing ≡ put s [] → IfSome o (IsSingle (codes "data")) → AllByRecursion IsStatement xs → IsStatement s
    → BeginsBefore tokens span
begun tokens span o xs us c ys closing s printed here plain ends opens are is =
    let all : (r : List Token) → put_single o (put_all xs (us ++ r)) ≡ put_single o (put_all xs us) ++ r = λ r. ap (put_single o) (sym (all-append xs us r)) ∙ sym (single-append o (put_all xs us) r) in
    let t = split before tokens (put_single o (put_all xs us)) c ys (printed ∙ all (c ∷ ys)) in
    record {
      front = t.front;
      token = c;
      more = t.more;
      parts = t.parts;
      at = here;
      begins = (
        closing,
        record { opening = o; statements = xs ++ s ∷ []; ending = None },
        record {
          printed = t.text closing plain ∙ sym (all closing) ∙ ap (λ k. put_single o (put_all xs k)) ends ∙ ap (put_single o) (sym (all-snoc xs s []));
          are = record { opening = opens; statements = are-snoc xs s are is; ending = tt };
        },
      );
    }

-- ---- the place of the fault

record Last (xs : List Token) (span : Span) : Type 0 where
  front : List Token
  last : Token
  is : xs ≡ front ++ last ∷ []
  at : last.span ≡ span

last_or : (x : Token) (xs : List Token) (span : Span) → last_span_or (Some x.span) xs ≡ Some span → Last (x ∷ xs) span
last_or x [] span h = record { front = []; last = x; is = refl; at = let k : x.span ≡ span = cc in k }
last_or x (y ∷ ys) span h = let l = last_or y ys span h in record { front = x ∷ l.front; last = l.last; is = ap (λ k. x ∷ k) l.is; at = l.at }

last_of : (xs : List Token) (span : Span) → last_span xs ≡ Some span → Last xs span
last_of [] span h = absurd (cc)
last_of (x ∷ xs) span h = last_or x xs span h

front_passes : (test : Token → Bool) (xs : List Token) (x : Token) → list_all test (xs ++ x ∷ []) ≡ true → list_all test xs ≡ true
front_passes test [] x h = refl
front_passes test (y ∷ xs) x h = let parts = and_parts (test y) (list_all test (xs ++ x ∷ [])) h in and_from (test y) (list_all test xs) parts.0 (front_passes test xs x parts.1)

begun_at : (tokens rest : List Token) (span : Span) (error_code : ErrorCode) (o : Option Single) (xs : List Statement) → IsFaulty rest span error_code → bare before tokens ≡ put_single o (put_all xs rest)
    → IfSome o (IsSingle (codes "data")) → AllByRecursion IsStatement xs → BeginsBefore tokens span
begun_at tokens rest span error_code o xs (short_row t behind is are head short last) printed opens all =
    let l = last_of t.cells span last in
    let text : rest ≡ put_table_heading t l.front ++ l.last ∷ t.end ∷ behind =
    is ∙ ap (λ k. put_table_heading t (k ++ t.end ∷ behind)) l.is ∙ ap (put_table_heading t) (append_assoc l.front (l.last ∷ []) (t.end ∷ behind)) ∙ sym (heading-append t l.front (l.last ∷ t.end ∷ behind)) in
    begun tokens span o xs (put_table_heading t l.front) l.last (t.end ∷ behind) (stop_mark ∷ []) (kinds.Table (record t { cells = l.front; end = stop_mark }))
    (printed ∙ ap (λ k. put_single o (put_all xs k)) text) l.at refl (heading-append t l.front (stop_mark ∷ [])) opens all
    (record {
      heading = record {
        keyword = are.heading.keyword;
        name = are.heading.name;
        default = are.heading.default;
        transposed = are.heading.transposed;
        colon = are.heading.colon;
        columns = are.heading.columns;
        assign = are.heading.assign;
      };
      cells = front_passes is_cell l.front l.last (subst (λ k. list_all is_cell k ≡ true) l.is are.cells);
      end = refl;
    })
begun_at tokens rest span error_code o xs (no_column t behind is are none place) printed opens all =
    let us = t.keyword ∷ t.name ∷ put_default t.default (put_transposed t.transposed (t.colon ∷ [])) in
    let joined : (r : List Token) → us ++ r ≡ t.keyword ∷ t.name ∷ put_default t.default (put_transposed t.transposed (t.colon ∷ r)) =
    λ r. ap (λ k. t.keyword ∷ t.name ∷ k) (default-append t.default (put_transposed t.transposed (t.colon ∷ [])) r ∙ ap (put_default t.default) (transposed-append t.transposed (t.colon ∷ []) r)) in
    let text : rest ≡ us ++ t.assign ∷ behind =
    is ∙ ap (λ k. t.keyword ∷ t.name ∷ put_default t.default (put_transposed t.transposed (t.colon ∷ (k ++ t.assign ∷ behind)))) none ∙ sym (joined (t.assign ∷ behind)) in
    begun tokens span o xs us t.assign behind (gives_mark ∷ stop_mark ∷ []) (kinds.Table (record t { columns = []; assign = gives_mark; cells = []; end = stop_mark }))
    (printed ∙ ap (λ k. put_single o (put_all xs k)) text) place refl (joined (gives_mark ∷ stop_mark ∷ [])) opens all
    (record {
      heading = record { keyword = are.keyword; name = are.name; default = are.default; transposed = are.transposed; colon = are.colon; columns = refl; assign = refl };
      cells = refl;
      end = refl;
    })
begun_at tokens rest span error_code o xs (no_name c behind is are none place) printed opens all =
    let us = c.keyword ∷ c.colon ∷ put_set c.set [] in
    let joined : (r : List Token) → us ++ r ≡ c.keyword ∷ c.colon ∷ put_set c.set r = λ r. ap (λ k. c.keyword ∷ c.colon ∷ k) (set-append c.set [] r) in
    let text : rest ≡ us ++ c.assign ∷ behind = is ∙ ap (λ k. c.keyword ∷ c.colon ∷ put_set c.set (k ++ c.assign ∷ behind)) none ∙ sym (joined (c.assign ∷ behind)) in
    begun tokens span o xs us c.assign behind (gives_mark ∷ stop_mark ∷ []) (kinds.Columns (record c { names = []; assign = gives_mark; cells = []; end = stop_mark }))
    (printed ∙ ap (λ k. put_single o (put_all xs k)) text) place refl (joined (gives_mark ∷ stop_mark ∷ [])) opens all
    (record { heading = record { keyword = are.keyword; colon = are.colon; set = are.set; names = refl; assign = refl }; cells = refl; end = refl })

pub fault_begun : (tokens : List Token) (error_code : ErrorCode) (span : Span) → HasFault tokens error_code span → BeginsBefore tokens span
fault_begun tokens error_code span f = begun_at tokens f.rest span error_code f.opening f.statements f.faulty f.printed f.opens f.are
