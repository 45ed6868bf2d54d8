-- The members and tuples of a set, read token by token.
use Rattle.std.proofs.Common.{◌≡◌, ℕ, true, false, List, [], ◌∷◌, ◌++◌, Some, None, Ok, Err, refl, ap, sym, ◌∙◌, append_assoc, take, drop, ◌+◌}
use Rattle.std.proofs.Math.Seq.{drop-drop, take-add}
use Rattle.std.proofs.lemmas.List.{append-nil}
use Rattle.net_data.specs.Commas.{in_set, bare}
use Rattle.net_data.specs.Spots.{outside}
use Rattle.net_lex.specs.declared.token.Token.{Token}
use Rattle.net_data.specs.declared.members.Spot.{Spot}
use Rattle.net_base.specs.declared.error_code.ErrorCode.TheVariants.{DataSyntax}
use Rattle.net_data.specs.Spots.{spot_after, rests}
use Rattle.net_data.specs.Reading.{Read, stop, with_token, items_from, items}
use Rattle.net_data.specs.declared.data_parser.ParseError.{ParseError}

-- these tokens, and then what is read
abbrev pub with_tokens : List Token → Read (List Token) → Read (List Token)
with_tokens tokens (Ok x) = Ok (tokens ++ x.0, x.1)
with_tokens tokens (Err e) = Err e

with_one : (tokens : List Token) (token : Token) (read : Read (List Token)) → with_tokens tokens (with_token token read) ≡ with_tokens (tokens ++ token ∷ []) read
with_one tokens token (Ok x) = ap (λ y. let r : Read (List Token) = Ok (y, x.1) in r) (sym (append_assoc tokens (token ∷ []) x.0))
with_one tokens token (Err e) = refl

with_none : (read : Read (List Token)) → with_tokens [] read ≡ read
with_none (Ok x) = refl
with_none (Err e) = refl

goes_on : (spot next : Spot) (token : Token) (tokens : List Token) → spot_after spot token ≡ Some next → items_from spot (token ∷ tokens) ≡ with_token token (items_from next tokens)
unfolding items_from
goes_on spot next token tokens h = rw h

-- one token more
pub items_on : (before : List Token) (all : Read (List Token)) (spot next : Spot) (token : Token) (tokens : List Token)
    → all ≡ with_tokens before (items_from spot (token ∷ tokens)) → spot_after spot token ≡ Some next → all ≡ with_tokens (before ++ token ∷ []) (items_from next tokens)
items_on before all spot next token tokens reported h = reported ∙ ap (with_tokens before) (goes_on spot next token tokens h) ∙ with_one before token (items_from next tokens)

-- a token that does not stand there
pub items_stop : (spot : Spot) (token : Token) (tokens : List Token) → spot_after spot token ≡ None → rests spot ≡ false → items_from spot (token ∷ tokens) ≡ Err (stop DataSyntax (Some token.span))
unfolding items_from
items_stop spot token tokens h k = rw (h, k)

pub items_over : (spot : Spot) (token : Token) (tokens : List Token) → spot_after spot token ≡ None → rests spot ≡ true → items_from spot (token ∷ tokens) ≡ Ok ([], token ∷ tokens)
unfolding items_from
items_over spot token tokens h k = rw (h, k)

pub items_end : (spot : Spot) → rests spot ≡ true → items_from spot [] ≡ Ok ([], [])
unfolding items_from
items_end spot k = rw k

pub items_open : (spot : Spot) → rests spot ≡ false → items_from spot [] ≡ Err (stop DataSyntax None)
unfolding items_from
items_open spot k = rw k

pub items_turn : (tokens : List Token) (n : ℕ) (all : Read (List Token)) (spot next : Spot) (token : Token) (left rest : List Token) → left ≡ drop n tokens → left ≡ token ∷ rest
    → all ≡ with_tokens (take n tokens) (items_from spot left) → spot_after spot token ≡ Some next → (all ≡ with_tokens (take (n + 1) tokens) (items_from next rest)) × (rest ≡ drop (n + 1) tokens)
items_turn tokens n all spot next token left rest here is reported h =
    let dropped : drop n tokens ≡ token ∷ rest = sym here ∙ is in
    let taken : take (n + 1) tokens ≡ take n tokens ++ token ∷ [] = take-add n 1 tokens ∙ ap (λ l. take n tokens ++ take 1 l) dropped in (
      items_on (take n tokens) all spot next token rest (reported ∙ ap (λ r. with_tokens (take n tokens) (items_from spot r)) is) h ∙ ap (λ x. with_tokens x (items_from next rest)) (sym taken),
      sym (sym (drop-drop 1 n tokens) ∙ ap (drop 1) dropped),
    )

-- how many there are is what is read
pub items_counted : (tokens : List Token) (n : ℕ) → items_from outside tokens ≡ Ok (take n tokens, drop n tokens) → items tokens ≡ Ok (bare in_set (take n tokens), drop n tokens)
unfolding items
items_counted tokens n h = rw h

pub items_rejected : (tokens : List Token) (e : ParseError) → items_from outside tokens ≡ Err e → items tokens ≡ Err e
unfolding items
items_rejected tokens e h = rw h

-- no more tokens than so many are read, where the next one is none of them
pub counted_over : (tokens : List Token) (n : ℕ) (all : Read (List Token)) (spot : Spot) (token : Token) (left rest : List Token) → left ≡ drop n tokens → left ≡ token ∷ rest
    → all ≡ with_tokens (take n tokens) (items_from spot left) → spot_after spot token ≡ None → rests spot ≡ true → all ≡ Ok (take n tokens, drop n tokens)
counted_over tokens n all spot token left rest here is reported h k =
    reported ∙ ap (λ l. with_tokens (take n tokens) (items_from spot l)) is ∙ ap (with_tokens (take n tokens)) (items_over spot token rest h k)
    ∙ ap (λ x. let r : Read (List Token) = Ok (x, token ∷ rest) in r) (append-nil (take n tokens)) ∙ ap (λ l. let r : Read (List Token) = Ok (take n tokens, l) in r) (sym is ∙ here)

pub counted_stop : (tokens : List Token) (n : ℕ) (all : Read (List Token)) (spot : Spot) (token : Token) (left rest : List Token) → left ≡ token ∷ rest
    → all ≡ with_tokens (take n tokens) (items_from spot left) → spot_after spot token ≡ None → rests spot ≡ false → all ≡ Err (stop DataSyntax (Some token.span))
counted_stop tokens n all spot token left rest is reported h k =
    reported ∙ ap (λ l. with_tokens (take n tokens) (items_from spot l)) is ∙ ap (with_tokens (take n tokens)) (items_stop spot token rest h k)

pub counted_end : (tokens : List Token) (n : ℕ) (all : Read (List Token)) (spot : Spot) (left : List Token) → left ≡ drop n tokens → left ≡ []
    → all ≡ with_tokens (take n tokens) (items_from spot left) → rests spot ≡ true → all ≡ Ok (take n tokens, drop n tokens)
counted_end tokens n all spot left here is reported k =
    reported ∙ ap (λ l. with_tokens (take n tokens) (items_from spot l)) is ∙ ap (with_tokens (take n tokens)) (items_end spot k)
    ∙ ap (λ x. let r : Read (List Token) = Ok (x, []) in r) (append-nil (take n tokens)) ∙ ap (λ l. let r : Read (List Token) = Ok (take n tokens, l) in r) (sym is ∙ here)

pub counted_open : (tokens : List Token) (n : ℕ) (all : Read (List Token)) (spot : Spot) (left : List Token) → left ≡ []
    → all ≡ with_tokens (take n tokens) (items_from spot left) → rests spot ≡ false → all ≡ Err (stop DataSyntax None)
counted_open tokens n all spot left is reported k =
    reported ∙ ap (λ l. with_tokens (take n tokens) (items_from spot l)) is ∙ ap (with_tokens (take n tokens)) (items_open spot k)
