-- The phrases of a set declaration: its dimension, its supersets and its value.
use Rattle.std.specs.Prelude.{ℕ, ◌&&◌, Bool, List, [], ◌∷◌, ◌++◌, Option, None, Some, if◌then◌else◌, Ok, ℤ, pos, int_le, nat_eq, unsigned_abs}
use Rattle.net_base.specs.declared.diagnostic.Span.{Span}
use Rattle.net_sets.specs.declared.member.Member.TheVariants.{Number}
use Rattle.net_sets.specs.Sets.{Tuple}
use Rattle.net_tree.specs.declared.role.Begins.TheVariants as begins
use Rattle.net_tree.specs.declared.role.Relation.TheVariants as relations
use Rattle.net_tree.specs.declared.role.Role.{Role}
use Rattle.net_tree.specs.declared.role.Role.TheVariants as roles
use Rattle.net_tree.specs.Role.{role_of}
use Rattle.net_tree.specs.Spans.{span_of}
use Rattle.net_tree.specs.Tree.{Tree, plain, valued, priced, Body, Phrase}
use Rattle.net_base.specs.declared.error_code.ErrorCode.TheVariants.{KindMismatch, Arity}
use Rattle.net_expr.specs.declared.value.Value.{Value}
use Rattle.net_expr.specs.declared.value.Value.TheVariants.{One, Many}
use Rattle.net_expr.specs.Values.{value}
use Rattle.net_expr.specs.Worlds.{World}
use Rattle.net_bind.specs.Factors.{SizedSet, is_product, product_of}
use Rattle.net_bind.specs.declared.set_phrase.SetWord.{SetWord}
use Rattle.net_bind.specs.declared.set_phrase.SetWord.TheVariants as words
use Rattle.net_bind.specs.declared.set_phrase.Claim.{Claim}
use Rattle.net_bind.specs.declared.set_phrase.Claim.TheVariants as claims
use Rattle.net_bind.specs.declared.set_phrase.SetPhrase.{SetPhrase}
use Rattle.net_bind.specs.declared.set_phrase.Claims.{Claims}
use Rattle.net_base.specs.Outcomes.{Outcome, and_then, rejected, each}

abbrev pub set_word : Role → SetWord
set_word (roles.Phrase begins.Dimen) = words.Dimension
set_word (roles.Relation relations.Within) = words.Within
set_word roles.Becomes = words.Becomes
set_word _ = words.Other

-- a dimension is from 1 to 4
abbrev pub is_dimension : ℤ → Bool
is_dimension n = int_le (pos 1) n && int_le n (pos 4)

abbrev pub dimension : Span → Value → Outcome Claim
dimension at (One (Number n)) = if is_dimension n then Ok (claims.Dimension (unsigned_abs n)) else rejected Arity at
dimension at _ = rejected KindMismatch at

abbrev pub as_set : (Option ℕ → List Tuple → Claim) → Span → Value → Outcome Claim
as_set claim at (Many d ts) = Ok (claim d ts)
as_set claim at _ = rejected KindMismatch at

-- the content of a phrase, from the value of its expression
abbrev pub claimed : SetWord → Span → Value → Outcome Claim
claimed words.Dimension at v = dimension at v
claimed words.Within at v = as_set claims.Within at v
claimed words.Becomes at v = as_set claims.Becomes at v
claimed words.Other at v = Ok claims.Nothing

-- the content of a phrase whose expression is evaluated
abbrev pub evaluated : World → SetWord → Tree → Outcome Claim
evaluated w word x = and_then (value w [] x) (claimed word (span_of x))

abbrev pub as_within : Span → Option SizedSet → Outcome Claim
as_within at (Some a) = Ok (claims.Within a.dimension a.tuples)
as_within at None = rejected KindMismatch at

abbrev pub product_claim : World → Tree → Outcome Claim
product_claim w x = and_then (product_of w x) (as_within (span_of x))

-- a product after `within` is not enumerated
abbrev pub claim_of : World → SetWord → Tree → Outcome Claim
claim_of w words.Within x = if is_product x then product_claim w x else evaluated w words.Within x
claim_of w word x = evaluated w word x

abbrev pub set_phrase : World → SetWord → Tree → Outcome SetPhrase
set_phrase w word x = and_then (claim_of w word x) (λ c. Ok (record { at = span_of x; claim = c }))

-- the declared dimension, if any; `{}` has none
abbrev pub dimension_of : Claim → Option ℕ
dimension_of claims.Nothing = None
dimension_of (claims.Dimension d) = Some d
dimension_of (claims.Within d ts) = d
dimension_of (claims.Becomes d ts) = d

-- the common dimension of two phrases, which must agree
abbrev pub agreed : Span → Option ℕ → Option ℕ → Outcome (Option ℕ)
agreed at None e = Ok e
agreed at (Some d) None = Ok (Some d)
agreed at (Some d) (Some e) = if nat_eq d e then Ok (Some d) else rejected Arity at

abbrev pub with_phrase : Claims → SetPhrase → Outcome Claims
with_phrase c p = and_then (agreed p.at c.dimension (dimension_of p.claim)) (λ d. Ok (record { dimension = d; phrases = c.phrases ++ p ∷ [] }))

abbrev pub in_body : World → SetWord → Body → Claims → Outcome Claims
in_body w word plain c = Ok c
in_body w word (valued x) c = and_then (set_phrase w word x) (with_phrase c)
in_body w word (priced n x) c = Ok c

abbrev pub unclaimed : Claims
unclaimed = record { dimension = None; phrases = [] }

-- evaluates each phrase in order; each must agree with those before it
abbrev pub set_phrases : World → List Phrase → Outcome Claims
set_phrases w ps = each (λ p. in_body w (set_word (role_of p.word)) p.body) ps unclaimed

abbrev pub becomes : Claim → Option (List Tuple) → Option (List Tuple)
becomes (claims.Becomes d ts) later = Some ts
becomes claims.Nothing later = later
becomes (claims.Dimension d) later = later
becomes (claims.Within d ts) later = later

-- the set of `:=`
abbrev pub assigned : List SetPhrase → Option (List Tuple)
assigned [] = None
assigned (p ∷ ps) = becomes p.claim (assigned ps)
