-- A declared set: its phrases, then its data, then its value.
use Rattle.std.specs.Prelude.{ℕ, Bool, true, List, [], ◌∷◌, is_some, unwrap_or, Option, None, Some, if◌then◌else◌, Ok}
use Rattle.net_base.specs.declared.diagnostic.Language.TheVariants.{Model}
use Rattle.net_lex.specs.declared.token.Token.{Token}
use Rattle.net_sets.specs.Operations.{is_within}
use Rattle.net_sets.specs.Sets.{Tuple}
use Rattle.net_tree.specs.Tree.{Phrase}
use Rattle.net_base.specs.declared.diagnostic.Detail.TheVariants.{Reported}
use Rattle.net_base.specs.declared.error_code.ErrorCode.TheVariants.{NoValue, Restriction}
use Rattle.net_expr.specs.declared.world.Entry.{Entry}
use Rattle.net_expr.specs.declared.world.Entry.TheVariants.{Set}
use Rattle.net_expr.specs.Worlds.{World}
use Rattle.net_bind.specs.declared.given.NamedData.{NamedData}
use Rattle.net_bind.specs.declared.set_phrase.Claim.{Claim}
use Rattle.net_bind.specs.declared.set_phrase.Claim.TheVariants as claims
use Rattle.net_bind.specs.declared.set_phrase.SetPhrase.{SetPhrase}
use Rattle.net_bind.specs.declared.set_phrase.Claims.{Claims}
use Rattle.net_base.specs.Outcomes.{Outcome, and_then, rejected_as}
use Rattle.net_bind.specs.SetPhrases.{set_phrases, assigned}
use Rattle.net_bind.specs.SetData.{given_set}

-- the set of `:=`, or else the set from the data
abbrev pub one_of : Token → Option (List Tuple) → Option (List Tuple) → Outcome (List Tuple)
one_of name (Some ts) found = Ok ts
one_of name None (Some ts) = Ok ts
one_of name None None = rejected_as Model NoValue name.span (Reported name.text)

abbrev pub is_allowed : List Tuple → Claim → Bool
is_allowed ts (claims.Within d within) = is_within ts within
is_allowed ts (claims.Nothing) = true
is_allowed ts (claims.Dimension d) = true
is_allowed ts (claims.Becomes d us) = true

-- the set is a subset of each set that its phrases name
abbrev pub allowed : Token → List Tuple → List SetPhrase → Outcome (Unit {0})
allowed name ts [] = Ok tt
allowed name ts (p ∷ ps) = if is_allowed ts p.claim then allowed name ts ps else rejected_as Model Restriction p.at (Reported name.text)

abbrev pub set_of : List ℕ → Token → List NamedData → Claims → Outcome Entry
set_of widths name ms c =
    and_then (given_set widths (unwrap_or c.dimension 1) (is_some (assigned c.phrases)) ms) (λ found.
    and_then (one_of name (assigned c.phrases) found) (λ ts.
    and_then (allowed name ts c.phrases) (λ u. Ok (Set (unwrap_or c.dimension 1) ts))))

abbrev pub bound_set : World → List ℕ → Token → List Phrase → List NamedData → Outcome Entry
bound_set w widths name ps ms = and_then (set_phrases w ps) (set_of widths name ms)
