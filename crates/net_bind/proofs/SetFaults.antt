-- What declared sets are refused for stands at their phrases and in the data's rows.
use Rattle.std.specs.Prelude.{ℕ, zero, suc, ◌+◌, Bool, true, false, ◌||◌, List, [], ◌∷◌, ◌++◌, length, map, take, drop, nat_eq, nat_le, unwrap_or, is_some, codes, if◌then◌else◌, Option, None, Some}
use Rattle.std.specs.List.{AllByRecursion, fold}
use Rattle.net_base.specs.declared.diagnostic.Span.{Span}
use Rattle.net_base.specs.Outcomes.{each}
use Rattle.net_lex.specs.declared.token.Token.{Token}
use Rattle.net_sets.specs.Limits.{tuples_limit}
use Rattle.net_sets.specs.Sets.{Tuple, has, added}
use Rattle.net_sets.specs.declared.member.Member.TheVariants.{Number, Name}
use Rattle.net_data.specs.Rows.{points, groups, groups_from, first_item, more_items, inside_len}
use Rattle.net_data.specs.Commas.{uncommaed}
use Rattle.net_data.specs.Tests.{is_mark}
use Rattle.net_tree.specs.Role.{role_of}
use Rattle.net_tree.specs.Spans.{span_of}
use Rattle.net_tree.specs.Tree.{Tree, Body, plain, valued, priced, Phrase}
use Rattle.net_expr.specs.declared.value.Value.{Value}
use Rattle.net_expr.specs.declared.value.Value.TheVariants.{One, Several, Many, Truth}
use Rattle.net_expr.specs.Values.{value}
use Rattle.net_expr.specs.Worlds.{World}
use Rattle.net_bind.specs.declared.given.DataContent.{DataContent}
use Rattle.net_bind.specs.declared.given.DataContent.TheVariants as given
use Rattle.net_bind.specs.declared.given.NamedData.{NamedData}
use Rattle.net_bind.specs.SetData.{Item, Rows}
use Rattle.net_bind.specs.declared.set_phrase.SetWord.{SetWord}
use Rattle.net_bind.specs.declared.set_phrase.SetWord.TheVariants as words
use Rattle.net_bind.specs.declared.set_phrase.Claim.{Claim}
use Rattle.net_bind.specs.declared.set_phrase.SetPhrase.{SetPhrase}
use Rattle.net_bind.specs.declared.set_phrase.Claims.{Claims}
use Rattle.net_bind.specs.Factors.{SizedSet, is_product, product_of}
use Rattle.net_bind.proofs.Products.{finds_product}
use Rattle.net_bind.specs.SetPhrases.{set_word, is_dimension, dimension, as_set, claimed, evaluated, as_within, product_claim, claim_of, set_phrase, dimension_of, agreed, with_phrase, in_body, unclaimed, set_phrases, assigned}
use Rattle.net_bind.specs.SetData.{items_from, items, closed_with, closed, opened, with_item, set_rows, begins_at, all_of_size, without_points, whole_group, whole_groups, cut, leading_size, agrees, given_rows, with_member, with_statement, given_set}
use Rattle.net_bind.specs.Cells.{tuple_in}
use Rattle.net_bind.specs.BoundSets.{one_of, is_allowed, allowed, set_of, bound_set}
use Rattle.net_base.specs.Places.{Places, Finds, Model, Data}
use Rattle.net_tree.specs.Standing.{Stands, BodyHasSpans, PhrasesHaveSpans}
use Rattle.net_base.proofs.Found.{finds_then, finds_if, Gives, gives_then, gives_after, finds_after, finds_each_of}
use Rattle.net_base.proofs.Elements.{all_take, all_drop, all_append, all_filter}
use Rattle.net_expr.proofs.ValueFaults.{whole_stands, finds_value}
use Rattle.net_data.specs.Standing.{TokensHaveSpans}
use Rattle.net_bind.proofs.NameFaults.{MentionStands, MentionsStand, SaidStands}

-- each line's tokens stand at some places
abbrev pub LinesStand : (Span → Type 0) → List (List Token) → Type 0
LinesStand P lines = AllByRecursion (TokensHaveSpans P) lines

module _ (P : Span → Type 0) where
  groups_stand : (size turns : ℕ) (ts : List Token) → TokensHaveSpans P ts → LinesStand P (groups_from size turns ts)
  groups_stand size zero ts h = tt
  groups_stand size (suc n) [] h = tt
  groups_stand size (suc n) (t ∷ ts) h = (all_take _ size (t ∷ ts) h, groups_stand size n (drop size (t ∷ ts)) (all_drop _ size (t ∷ ts) h))

  pub cut_stands : (n : ℕ) (ts : List Token) → TokensHaveSpans P ts → LinesStand P (cut n ts)
  cut_stands n ts h = go (nat_eq n 0)
    where
      go : (b : Bool) → LinesStand P (if b then [] else groups n ts)
      go true = tt
      go false = groups_stand n (length ts) ts h

  pub begins_stands : (at : Span) → P at → (ts : List Token) → TokensHaveSpans P ts → P (begins_at at ts)
  begins_stands at h [] k = h
  begins_stands at h (t ∷ ts) k = k.0

  heads_stand : (n : ℕ) (lines : List (List Token)) → LinesStand P lines → LinesStand P (map (take n) lines)
  heads_stand n [] h = tt
  heads_stand n (l ∷ ls) h = (all_take _ n l h.0, heads_stand n ls h.1)

  abbrev ItemStands : Item → Type 0
  ItemStands i = TokensHaveSpans P i.members

  first_stands : (ts : List Token) → TokensHaveSpans P ts → TokensHaveSpans P (unwrap_or (first_item ts) [])
  first_stands [] h = tt
  first_stands (t ∷ ts) h = go (is_mark (codes "(") t)
    where
      go : (b : Bool) → TokensHaveSpans P (unwrap_or (if b then Some (uncommaed (take (inside_len ts) ts)) else Some (t ∷ [])) [])
      go true = all_filter _ _ (take (inside_len ts) ts) (all_take _ (inside_len ts) ts h.1)
      go false = (h.0, tt)

  more_stands : (ts : List Token) → TokensHaveSpans P ts → TokensHaveSpans P (more_items ts)
  more_stands [] h = tt
  more_stands (t ∷ ts) h = go (is_mark (codes "(") t) (is_mark (codes ";") t)
    where
      go : (a b : Bool) → TokensHaveSpans P (if a then drop (suc (inside_len ts)) ts else if b then [] else ts)
      go true b = all_drop _ (suc (inside_len ts)) ts h.1
      go false true = tt
      go false false = h.1

  items_stand : (n : ℕ) (ts : List Token) → TokensHaveSpans P ts → AllByRecursion ItemStands (items_from n ts)
  items_stand zero ts h = tt
  items_stand (suc n) [] h = tt
  items_stand (suc n) (t ∷ ts) h = (first_stands (t ∷ ts) h, items_stand n (more_items (t ∷ ts)) (more_stands (t ∷ ts) h))

  abbrev RowsStand : Rows → Type 0
  RowsStand r = LinesStand P r.rows × TokensHaveSpans P r.alone

  closed_stands : (rows : List (List Token)) (alone : List Token) → LinesStand P rows → TokensHaveSpans P alone → LinesStand P (closed_with rows alone)
  closed_stands rows [] h k = h
  closed_stands rows (t ∷ ts) h k = all_append _ rows ((t ∷ ts) ∷ []) h (k, tt)

  opened_stands : (dimension : ℕ) (rows : List (List Token)) (alone : List Token) → LinesStand P rows → TokensHaveSpans P alone → RowsStand (opened dimension rows alone)
  opened_stands dimension rows alone h k = go (nat_le dimension (length alone))
    where
      go : (b : Bool) → RowsStand (if b then record { rows = rows ++ alone ∷ []; alone = [] } else record { rows = rows; alone = alone })
      go true = (all_append _ rows (alone ∷ []) h (k, tt), tt)
      go false = (h, k)

  item_stands : (dimension : ℕ) (r : Rows) (i : Item) → RowsStand r → ItemStands i → RowsStand (with_item dimension r i)
  item_stands dimension r i h k = go i.is_tuple
    where
      go : (b : Bool) → RowsStand (if b then record { rows = closed r ++ i.members ∷ []; alone = [] } else opened dimension r.rows (r.alone ++ i.members))
      go true = (all_append _ (closed r) (i.members ∷ []) (closed_stands r.rows r.alone h.0 h.1) (k, tt), tt)
      go false = opened_stands dimension r.rows (r.alone ++ i.members) h.0 (all_append _ r.alone i.members h.1 k)

  all_items_stand : (dimension : ℕ) (r : Rows) (is : List Item) → RowsStand r → AllByRecursion ItemStands is → RowsStand (fold (with_item dimension) r is)
  all_items_stand dimension r [] h k = h
  all_items_stand dimension r (i ∷ is) h k = all_items_stand dimension (with_item dimension r i) is (item_stands dimension r i h k.0) k.1

  pub set_rows_stand : (dimension : ℕ) (ts : List Token) → TokensHaveSpans P ts → LinesStand P (set_rows dimension ts)
  set_rows_stand dimension ts h =
      let all = all_items_stand dimension (record { rows = []; alone = [] }) (items ts) (tt, tt) (items_stand (length ts) ts h) in
      closed_stands (fold (with_item dimension) (record { rows = []; alone = [] }) (items ts)).rows (fold (with_item dimension) (record { rows = []; alone = [] }) (items ts)).alone all.0 all.1

module _ (P : Places) where
  -- ---- what data say

  finds_size : (at : Span) → P Data at → (n : ℕ) (rows : List (List Token)) → LinesStand (P Data) rows → Finds P (all_of_size at n rows)
  finds_size at h n [] k = tt
  finds_size at h n (r ∷ rows) k = finds_if P (nat_eq (length r) n) _ _ (finds_size at h n rows k.1) (begins_stands (P Data) at h r k.0)

  finds_points : (ts : List Token) → TokensHaveSpans (P Data) ts → Finds P (without_points ts)
  finds_points [] h = tt
  finds_points (t ∷ ts) h = finds_if P (points t.kind) _ _ h.0 (finds_points ts h.1)

  finds_whole_group : (at : Span) → P Data at → (keys size : ℕ) (g : List Token) → TokensHaveSpans (P Data) g → Finds P (whole_group at keys size g)
  finds_whole_group at h keys size g k = finds_if P (nat_eq (length g) size) _ _ (finds_points (take keys g) (all_take _ keys g k)) (begins_stands (P Data) at h g k)

  pub finds_whole_groups : (at : Span) → P Data at → (keys size : ℕ) (gs : List (List Token)) → LinesStand (P Data) gs → Finds P (whole_groups at keys size gs)
  finds_whole_groups at h keys size [] k = tt
  finds_whole_groups at h keys size (g ∷ gs) k =
      finds_then P (whole_group at keys size g) _ (finds_whole_group at h keys size g k.0) (λ u. finds_whole_groups at h keys size gs k.1)

  pub finds_agrees : (word : Token) → P Data word.span → (reported own : ℕ) → Finds P (agrees word reported own)
  finds_agrees word h reported own = finds_if P (nat_eq reported own) _ _ tt h

  gives_given_rows : (widths : List ℕ) (n : ℕ) (word : Token) → P Data word.span → (g : DataContent) → SaidStands (P Data) g → Gives P (LinesStand (P Data)) (given_rows widths n word g)
  gives_given_rows widths n word h (given.Members ts) k =
      gives_after P (LinesStand (P Data)) (all_of_size word.span n (set_rows n ts)) _ (finds_size word.span h n (set_rows n ts) (set_rows_stand (P Data) n ts k)) (λ u. set_rows_stand (P Data) n ts k)
  gives_given_rows widths n word h (given.Groups g) k =
      gives_after P (LinesStand (P Data)) (agrees word (leading_size widths g.leader n) n) _ (finds_agrees word h (leading_size widths g.leader n) n) (λ u.
      gives_after P (LinesStand (P Data)) (whole_groups word.span n (n + g.values) (cut (n + g.values) g.cells)) _
      (finds_whole_groups word.span h n (n + g.values) (cut (n + g.values) g.cells) (cut_stands (P Data) (n + g.values) g.cells k))
      (λ v. heads_stand (P Data) n (cut (n + g.values) g.cells) (cut_stands (P Data) (n + g.values) g.cells k)))
  gives_given_rows widths n word h (given.Grid g) k = tt

  finds_with_member : (word : Token) → P Data word.span → (row : List Token) → TokensHaveSpans (P Data) row → (ts : List Tuple) → Finds P (with_member word row ts)
  finds_with_member word h row k ts =
      finds_if P (has ts (tuple_in row)) _ _ (begins_stands (P Data) word.span h row k)
      (finds_if P (nat_le (length (added ts (tuple_in row))) tuples_limit) _ _ tt (begins_stands (P Data) word.span h row k))

  finds_with_statement : (widths : List ℕ) (n : ℕ) (is_assigned : Bool) (m : NamedData) → MentionStands (P Data) m → (found : Option (List Tuple)) → Finds P (with_statement widths n is_assigned m found)
  finds_with_statement widths n is_assigned m h found =
      finds_after P (LinesStand (P Data)) (given_rows widths n m.word m.given) _ (gives_given_rows widths n m.word h.0 m.given h.2) (λ rows k.
      finds_if P (is_assigned || is_some found) _ _ h.0
      (finds_then P (each (with_member m.word) rows []) _ (finds_each_of P (TokensHaveSpans (P Data)) (with_member m.word) (finds_with_member m.word h.0) rows k []) (λ ts. tt)))

  finds_given_set : (widths : List ℕ) (n : ℕ) (is_assigned : Bool) (ms : List NamedData) → MentionsStand (P Data) ms → Finds P (given_set widths n is_assigned ms)
  finds_given_set widths n is_assigned ms h = finds_each_of P (MentionStands (P Data)) (with_statement widths n is_assigned) (finds_with_statement widths n is_assigned) ms h None

  -- ---- what phrases say

  finds_dimension : (at : Span) → P Model at → (v : Value) → Finds P (dimension at v)
  finds_dimension at h (One (Number n)) = finds_if P (is_dimension n) _ _ tt h
  finds_dimension at h (One (Name t)) = h
  finds_dimension at h (Several t) = h
  finds_dimension at h (Many d ts) = h
  finds_dimension at h (Truth b) = h

  finds_as_set : (claim : Option ℕ → List Tuple → Claim) (at : Span) → P Model at → (v : Value) → Finds P (as_set claim at v)
  finds_as_set claim at h (Many d ts) = tt
  finds_as_set claim at h (One m) = h
  finds_as_set claim at h (Several t) = h
  finds_as_set claim at h (Truth b) = h

  finds_claimed : (word : SetWord) (at : Span) → P Model at → (v : Value) → Finds P (claimed word at v)
  finds_claimed words.Dimension at h v = finds_dimension at h v
  finds_claimed words.Within at h v = finds_as_set _ at h v
  finds_claimed words.Becomes at h v = finds_as_set _ at h v
  finds_claimed words.Other at h v = tt

  abbrev PhraseHasSpans : SetPhrase → Type 0
  PhraseHasSpans p = P Model p.at

  finds_evaluated : (w : World) (word : SetWord) (x : Tree) → Stands (P Model) x → Finds P (evaluated w word x)
  finds_evaluated w word x h = finds_then P (value w [] x) (claimed word (span_of x)) (finds_value P w [] x h) (finds_claimed word (span_of x) (whole_stands (P Model) x h))

  finds_within : (at : Span) → P Model at → (o : Option SizedSet) → Finds P (as_within at o)
  finds_within at h (Some a) = tt
  finds_within at h None = h

  finds_claim_of : (w : World) (word : SetWord) (x : Tree) → Stands (P Model) x → Finds P (claim_of w word x)
  finds_claim_of w words.Within x h =
      finds_if P (is_product x) _ _ (finds_then P (product_of w x) (as_within (span_of x)) (finds_product P w x h) (finds_within (span_of x) (whole_stands (P Model) x h))) (finds_evaluated w words.Within x h)
  finds_claim_of w words.Dimension x h = finds_evaluated w words.Dimension x h
  finds_claim_of w words.Becomes x h = finds_evaluated w words.Becomes x h
  finds_claim_of w words.Other x h = finds_evaluated w words.Other x h

  gives_set_phrase : (w : World) (word : SetWord) (x : Tree) → Stands (P Model) x → Gives P PhraseHasSpans (set_phrase w word x)
  gives_set_phrase w word x h = gives_after P PhraseHasSpans (claim_of w word x) _ (finds_claim_of w word x h) (λ c. whole_stands (P Model) x h)

  finds_agreed : (at : Span) → P Model at → (d e : Option ℕ) → Finds P (agreed at d e)
  finds_agreed at h None e = tt
  finds_agreed at h (Some d) None = tt
  finds_agreed at h (Some d) (Some e) = finds_if P (nat_eq d e) _ _ tt h

  abbrev ClaimsStand : Claims → Type 0
  ClaimsStand c = AllByRecursion PhraseHasSpans c.phrases

  gives_with_phrase : (c : Claims) → ClaimsStand c → (p : SetPhrase) → PhraseHasSpans p → Gives P ClaimsStand (with_phrase c p)
  gives_with_phrase c h p k =
      gives_after P ClaimsStand (agreed p.at c.dimension (dimension_of p.claim)) _ (finds_agreed p.at k c.dimension (dimension_of p.claim)) (λ d. all_append PhraseHasSpans c.phrases (p ∷ []) h (k, tt))

  gives_in_body : (w : World) (word : SetWord) (b : Body) → BodyHasSpans (P Model) b → (c : Claims) → ClaimsStand c → Gives P ClaimsStand (in_body w word b c)
  gives_in_body w word plain h c k = k
  gives_in_body w word (valued x) h c k = gives_then P PhraseHasSpans ClaimsStand (set_phrase w word x) (with_phrase c) (gives_set_phrase w word x h) (gives_with_phrase c k)
  gives_in_body w word (priced n x) h c k = k

  gives_phrases : (w : World) (ps : List Phrase) → PhrasesHaveSpans (P Model) ps → (c : Claims) → ClaimsStand c → Gives P ClaimsStand (each (λ (p : Phrase). in_body w (set_word (role_of p.word)) p.body) ps c)
  gives_phrases w [] h c k = k
  gives_phrases w (p ∷ ps) h c k =
      gives_then P ClaimsStand ClaimsStand (in_body w (set_word (role_of p.word)) p.body c) _ (gives_in_body w (set_word (role_of p.word)) p.body h.1 c k) (gives_phrases w ps h.2)

  -- ---- the set

  finds_one_of : (name : Token) → P Model name.span → (o found : Option (List Tuple)) → Finds P (one_of name o found)
  finds_one_of name h (Some ts) found = tt
  finds_one_of name h None (Some ts) = tt
  finds_one_of name h None None = h

  finds_allowed : (name : Token) (ts : List Tuple) (ps : List SetPhrase) → AllByRecursion PhraseHasSpans ps → Finds P (allowed name ts ps)
  finds_allowed name ts [] h = tt
  finds_allowed name ts (p ∷ ps) h = finds_if P (is_allowed ts p.claim) _ _ (finds_allowed name ts ps h.1) h.0

  finds_set_of : (widths : List ℕ) (name : Token) → P Model name.span → (ms : List NamedData) → MentionsStand (P Data) ms → (c : Claims) → ClaimsStand c → Finds P (set_of widths name ms c)
  finds_set_of widths name h ms k c j =
      finds_then P (given_set widths (unwrap_or c.dimension 1) (is_some (assigned c.phrases)) ms) _ (finds_given_set widths (unwrap_or c.dimension 1) (is_some (assigned c.phrases)) ms k) (λ found.
      finds_then P (one_of name (assigned c.phrases) found) _ (finds_one_of name h (assigned c.phrases) found) (λ ts.
      finds_then P (allowed name ts c.phrases) _ (finds_allowed name ts c.phrases j) (λ u. tt)))

  pub finds_bound_set : (w : World) (widths : List ℕ) (name : Token) → P Model name.span → (ps : List Phrase) → PhrasesHaveSpans (P Model) ps → (ms : List NamedData) → MentionsStand (P Data) ms
      → Finds P (bound_set w widths name ps ms)
  finds_bound_set w widths name h ps k ms j =
      finds_after P ClaimsStand (set_phrases w ps) (set_of widths name ms) (gives_phrases w ps k unclaimed tt) (finds_set_of widths name h ms j)
