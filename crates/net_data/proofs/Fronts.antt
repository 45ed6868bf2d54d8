-- The next token is the first behind the commas at the front.
use Rattle.std.proofs.Common.{◌≡◌, ℕ, ◌+◌, suc, Bool, true, false, cond, List, [], ◌∷◌, Option, Some, None, MatchOption, drop, length, ◌<◌, refl, arith, ◌∙◌, ap, sym, length-drop}
use Rattle.std.specs.List.{prefix_len}
use Rattle.std.specs.Option.{IfSome}
use Rattle.net_lex.specs.declared.token.Token.{Token}
use Rattle.net_data.specs.Tests.{is_comma}
use Rattle.net_data.specs.Reading.{front}

abbrev pub first_of : List Token → Option (Token × List Token)
first_of [] = None
first_of (token ∷ tokens) = Some (token, tokens)

front_at : (token : Token) (tokens : List Token) (b : Bool) → front tokens ≡ first_of (drop (prefix_len is_comma tokens) tokens)
    → cond b (front tokens) (Some (token, tokens)) ≡ first_of (drop (cond b (1 + prefix_len is_comma tokens) 0) (token ∷ tokens))
front_at token tokens true h = let e : 1 + prefix_len is_comma tokens ≡ suc (prefix_len is_comma tokens) = omega arith in rw e h
front_at token tokens false h = refl

pub front_first : (tokens : List Token) → front tokens ≡ first_of (drop (prefix_len is_comma tokens) tokens)
front_first [] = refl
front_first (token ∷ tokens) = front_at token tokens (is_comma token) (front_first tokens)

-- the same of what the split gives
pub front_split : (tokens rest : List Token) (first : Option (Token × List Token)) → rest ≡ drop (prefix_len is_comma tokens) tokens
    → MatchOption first (rest ≡ []) (λ x. rest ≡ x.0 ∷ x.1) → first ≡ front tokens
front_split tokens rest None back cases = sym (front_first tokens ∙ ap first_of (sym back ∙ cases))
front_split tokens rest (Some x) back cases = sym (front_first tokens ∙ ap first_of (sym back ∙ cases))

pub front_shorter : (n : ℕ) (tokens rest : List Token) (first : Option (Token × List Token)) → rest ≡ drop n tokens
    → MatchOption first (rest ≡ []) (λ x. rest ≡ x.0 ∷ x.1) → IfSome first (λ x. length x.1 < length tokens)
front_shorter n tokens rest None back cases = tt
front_shorter n tokens rest (Some x) back cases = omega (arith, ap length (sym cases ∙ back), length-drop n tokens)
