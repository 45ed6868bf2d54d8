-- Parameters whose values all come from the data.
use Rattle.std.specs.Prelude.{◌≡◌, ◌&&◌, ℕ, zero, suc, drop, option_map, slice_get, Bool, true, false, List, [], ◌∷◌, Option, None, Some, is_some, if◌then◌else◌, Ok, ℤ}
use Rattle.std.specs.List.{AllByRecursion}
use Rattle.std.proofs.Common.{refl, ap, sym, subst, ◌∙◌}
use Rattle.net_base.specs.declared.diagnostic.Detail.{Detail}
use Rattle.net_base.specs.declared.diagnostic.Span.{Span}
use Rattle.net_base.specs.Outcomes.{Outcome, and_then, each}
use Rattle.net_lex.specs.declared.token.Token.{Token}
use Rattle.net_sets.specs.declared.member.Member.{Member}
use Rattle.net_sets.specs.declared.member.Member.TheVariants.{Number}
use Rattle.net_sets.specs.Sets.{Tuple, at_key, same_tuple}
use Rattle.net_tree.specs.declared.role.Relation.{Relation}
use Rattle.net_tree.specs.declared.role.Role.{Role}
use Rattle.net_tree.specs.declared.role.Role.TheVariants as roles
use Rattle.net_tree.specs.Numerals.{number_as, number_of}
use Rattle.net_tree.specs.Phrases.{is_becomes, is_default}
use Rattle.net_tree.specs.PhraseValues.{phrase_value}
use Rattle.net_tree.specs.Role.{role_of}
use Rattle.net_tree.specs.Spans.{span_of}
use Rattle.net_tree.specs.Tree.{Tree, leaf, indexed, parens, tuple, negated, braced, signed, reduced, chain, choice, net, Body, plain, valued, priced, Phrase}
use Rattle.net_expr.specs.declared.row.Row.{Row}
use Rattle.net_expr.specs.declared.world.Entry.{Entry}
use Rattle.net_expr.specs.declared.world.Entry.TheVariants.{Parameter}
use Rattle.net_expr.specs.declared.value.Value.TheVariants.{One}
use Rattle.net_expr.specs.Values.{value, token_value, number_value}
use Rattle.net_expr.specs.Worlds.{World, Scope, reference}
use Rattle.net_bind.specs.declared.given.NamedData.{NamedData}
use Rattle.net_bind.specs.BoundParameters.{PlacedValues, source, source_in, with_key, fit_value, fit_values, data_of, placed, valued_by, values, with_data}
use Rattle.net_bind.specs.FromData.{numeral, is_numeral, compares, are_constant, Fits}
use Rattle.net_bind.specs.Restrictions.{relation, related, holding, restricted, restricted_by, restricted_in}
use Rattle.net_bind.specs.Rows.{KeyedParameter, Table, Taken}
use Rattle.net_bind.proofs.RowsTaken.{then_ok}

both_true : (a b : Bool) → (a && b) ≡ true → (a ≡ true) × (b ≡ true)
both_true true b h = (refl, h)
both_true false b h = cc

-- ---- numerals have the same value everywhere

token_number : (w : World) (s : Scope) (t : Token) (n : ℤ) (r : Role) → number_as r t.text ≡ Some n → token_value w s t r ≡ Ok (One (Number n))
token_number w s t n roles.Name h = cc
token_number w s t n roles.Number h = ap (number_value t.span) h
token_number w s t n roles.Text h = cc
token_number w s t n roles.Open h = cc
token_number w s t n roles.Close h = cc
token_number w s t n roles.OpenBrace h = cc
token_number w s t n roles.CloseBrace h = cc
token_number w s t n roles.OpenSquare h = cc
token_number w s t n roles.CloseSquare h = cc
token_number w s t n roles.Comma h = cc
token_number w s t n roles.Colon h = cc
token_number w s t n roles.Semicolon h = cc
token_number w s t n roles.Becomes h = cc
token_number w s t n roles.Sign h = cc
token_number w s t n roles.Range h = cc
token_number w s t n roles.By h = cc
token_number w s t n (roles.Joining k) h = cc
token_number w s t n (roles.Relation r) h = cc
token_number w s t n roles.Not h = cc
token_number w s t n roles.If h = cc
token_number w s t n roles.Then h = cc
token_number w s t n roles.Else h = cc
token_number w s t n roles.Reduction h = cc
token_number w s t n roles.Net h = cc
token_number w s t n (roles.Declaration d) h = cc
token_number w s t n (roles.Phrase b) h = cc
token_number w s t n roles.LeftOut h = cc
token_number w s t n roles.Unknown h = cc

pub numeral_value : (w : World) (s : Scope) (x : Tree) (n : ℤ) → numeral x ≡ Some n → value w s x ≡ Ok (One (Number n))
unfolding number_of
numeral_value w s (leaf t) n h = token_number w s t n (role_of t) h
numeral_value w s (indexed k o x l c) n h = cc
numeral_value w s (parens o x c) n h = cc
numeral_value w s (tuple o x l c) n h = cc
numeral_value w s (negated k o x c) n h = cc
numeral_value w s (braced b) n h = cc
numeral_value w s (signed t x) n h = cc
numeral_value w s (reduced r b x) n h = cc
numeral_value w s (chain k x l) n h = cc
numeral_value w s (choice i x t y e) n h = cc
numeral_value w s (net t u) n h = cc

pub same_value : (w : World) (s q : Scope) (x : Tree) → is_numeral x ≡ true → value w s x ≡ value w q x
same_value w s q x h = go (numeral x) refl h
  where
    go : (o : Option ℤ) → numeral x ≡ o → is_some o ≡ true → value w s x ≡ value w q x
    go (Some n) e h = numeral_value w s x n e ∙ sym (numeral_value w q x n e)
    go None e h = cc

-- ---- so phrases that compare with numerals allow the same values at each key

holds_true : (at : Span) (d : Detail) (b : Bool) (u : Unit {0}) → holding at d b ≡ Ok u → b ≡ true
holds_true at d true u h = refl
holds_true at d false u h = cc

by_same : (w : World) (s : Scope) (d e : Detail) (m : Member) (o : Option Relation) (x : Tree) (u : Unit {0}) → compares o (valued x) ≡ true → restricted_by w [] e m o x ≡ Ok u → restricted_by w s d m o x ≡ Ok tt
by_same w s d e m None x u c h = refl
by_same w s d e m (Some r) x u c h =
    then_ok (value w [] x) (λ v. and_then (related (span_of x) r m v) (holding (span_of x) e)) u h (λ v i j.
    then_ok (related (span_of x) r m v) (holding (span_of x) e) u j (λ b k l.
    ap (λ o. and_then o (λ v. and_then (related (span_of x) r m v) (holding (span_of x) d))) (same_value w s [] x c ∙ i)
    ∙ ap (λ o. and_then o (holding (span_of x) d)) (k ∙ ap Ok (holds_true (span_of x) e b u l))))

in_same : (w : World) (s : Scope) (d e : Detail) (m : Member) (word : Token) (b : Body) (u : Unit {0}) → compares (relation word) b ≡ true → restricted_in w [] e m word b ≡ Ok u → restricted_in w s d m word b ≡ Ok tt
in_same w s d e m word plain u c h = refl
in_same w s d e m word (valued x) u c h = by_same w s d e m (relation word) x u c h
in_same w s d e m word (priced n x) u c h = refl

allowed_same : (w : World) (s : Scope) (d e : Detail) (m : Member) (ps : List Phrase) → are_constant ps ≡ true → restricted w [] e m ps ≡ Ok tt → restricted w s d m ps ≡ Ok tt
allowed_same w s d e m [] c h = refl
allowed_same w s d e m (p ∷ ps) c h =
    let (here, rest) = both_true (compares (relation p.word) p.body) (are_constant ps) c in
    then_ok (restricted_in w [] e m p.word p.body) (λ u. restricted w [] e m ps) tt h (λ u i j.
    ap (λ o. and_then o (λ u. restricted w s d m ps)) (in_same w s d e m p.word p.body u here i) ∙ allowed_same w s d e m ps rest j)

-- ---- all values fit

found_fits : (P : Member → Type 0) (t : Table) (key : Tuple) (m : Member) → AllByRecursion (λ row. P row.1) t → at_key t key ≡ Some m → P m
found_fits P [] key m h e = cc
found_fits P (row ∷ t) key m h e = go (same_tuple key row.0) e (found_fits P t key m h.1)
  where
    go : (b : Bool) → (if b then Some row.1 else at_key t key) ≡ Some m → (at_key t key ≡ Some m → P m) → P m
    go true k more = subst P (some_is row.1 m k) h.0
      where
        some_is : (x y : Member) → Some x ≡ Some y → x ≡ y
        some_is x y k = cc
    go false k more = more k

fits_value : (w : World) (p : KeyedParameter) (v : PlacedValues) (r : Row) (m : Member) → are_constant p.phrases ≡ true → Fits w p m → fit_value w p v r (Some m) ≡ Ok tt
fits_value w p v r m c fits =
    let allowed = allowed_same w r.scope (reference p.name.text p.keys r.key) (reference p.name.text p.keys []) m p.phrases c fits.1 in
    rw fits.0 allowed

pub rows_fit : (w : World) (p : KeyedParameter) (v : PlacedValues) (rows : List Row) → are_constant p.phrases ≡ true → AllByRecursion (λ row. Fits w p row.1) v.table → fit_values w p v rows ≡ Ok tt
rows_fit w p v [] c all = refl
rows_fit w p v (r ∷ rows) c all = ap (λ o. and_then o (λ u. fit_values w p v rows)) (go (at_key v.table r.key) refl) ∙ rows_fit w p v rows c all
  where
    go : (o : Option Member) → at_key v.table r.key ≡ o → fit_value w p v r o ≡ Ok tt
    go None e = refl
    go (Some m) e = fits_value w p v r m c (found_fits (Fits w p) v.table r.key m all e)

-- ---- nothing else has a value

no_source : (w : World) (at : Span) (rows : List Row) (t : Table) → each (with_key w at (None, None)) rows t ≡ Ok t
no_source w at [] t = refl
no_source w at (r ∷ rows) t = ap (λ o. and_then o (each (with_key w at (None, None)) rows)) (go (is_some (at_key t r.key))) ∙ no_source w at rows t
  where
    go : (b : Bool) → (if b then (let o : Outcome Table = Ok t in o) else Ok t) ≡ Ok t
    go true = refl
    go false = refl

pub from_data : (w : World) (ws : List ℕ) (p : KeyedParameter) (ms : List NamedData) (rows : List Row) (taken : Taken) → are_constant p.phrases ≡ true → phrase_value is_becomes p.phrases ≡ None → phrase_value is_default p.phrases ≡ None
    → data_of ws p (is_some (phrase_value is_becomes p.phrases)) ms ≡ Ok (taken, None) → AllByRecursion (λ row. Fits w p row.1) taken.0 → with_data w ws p ms rows ≡ Ok (Parameter p.keys p.index taken.0)
from_data w ws p ms rows taken c becomes default said fits =
    let finish : Table → Outcome Entry = λ t. Ok (Parameter p.keys p.index t) in
    ap (λ o. and_then (and_then o (λ all. values w p (source_in p all.1) rows all.0)) finish) said
    ∙ ap (λ x. and_then (values w p x rows taken) finish) (ap (λ a. source a None (phrase_value is_default p.phrases)) becomes ∙ ap (λ b. source None None b) default)
    ∙ ap (λ o. and_then (and_then o (valued_by w p (None, None) rows taken)) finish) (no_source w p.name.span rows taken.0)
    ∙ ap (λ o. and_then (and_then o (λ u. Ok taken.0)) finish) (rows_fit w p (placed p (None, None) taken taken.0) rows c fits)

-- ---- row by row

pub next_row : (P : Member → Type 0) (t : Table) (i : ℕ) (m : Member) → Some m ≡ option_map (λ (row : Tuple × Member). row.1) (slice_get t i) → P m → AllByRecursion (λ row. P row.1) (drop (suc i) t) → AllByRecursion (λ row. P row.1) (drop i t)
next_row P [] i m e fits rest = cc
next_row P (row ∷ t) zero m e fits rest = (subst P (same m row.1 e) fits, rest)
  where
    same : (x y : Member) → Some x ≡ Some y → x ≡ y
    same x y h = cc
next_row P (row ∷ t) (suc i) m e fits rest = next_row P t i m e fits rest
