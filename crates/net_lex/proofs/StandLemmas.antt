-- Tokens that stand one after the other.
use Rattle.std.proofs.Common.{◌≡◌, ℕ, ◌+◌, List, [], ◌∷◌, ◌++◌, length, sym, ap, arith, subst, append-nil, length-append}
use Rattle.net_base.specs.declared.diagnostic.Language.{Language}
use Rattle.net_lex.specs.declared.token.Token.{Token}
use Rattle.net_lex.specs.Reading.{IsNext, StandIn, AreSound, EndsInGap}
use Rattle.net_lex.specs.Limits.{Limits, limits}
use Rattle.net_lex.specs.Faults.{StandSound, IsSoundNext, BeginsWithToken}

-- the place to which tokens lead
abbrev pub LeadsTo : ℕ → List ℕ → ℕ → List ℕ → Type 0
LeadsTo end after at rest = (at ≡ end) × (rest ≡ after)

-- more tokens from there on
pub stand_on : (sizes : Limits) (language : Language) (Ends : ℕ → List ℕ → Type 0) (at end : ℕ) (rest after : List ℕ) (tokens more : List Token)
    → StandSound sizes language (LeadsTo end after) at rest tokens → StandSound sizes language Ends end after more → StandSound sizes language Ends at rest (tokens ++ more)
stand_on sizes language Ends at end rest after [] more (e, f) stand =
    subst (λ k. StandSound sizes language Ends k rest more) (sym e) (subst (λ t. StandSound sizes language Ends end t more) (sym f) stand)
stand_on sizes language Ends at end rest after (t ∷ ts) more (gap, behind, next, tail) stand =
    (gap, behind, next, stand_on sizes language Ends t.span.end end behind after ts more tail stand)

-- what holds where tokens lead
pub stand_ends : (sizes : Limits) (language : Language) (Ends : ℕ → List ℕ → Type 0) (at end : ℕ) (rest after : List ℕ) (tokens : List Token)
    → StandSound sizes language (LeadsTo end after) at rest tokens → Ends end after → StandSound sizes language Ends at rest tokens
stand_ends sizes language Ends at end rest after tokens stand ends =
    subst (StandSound sizes language Ends at rest) (append-nil tokens) (stand_on sizes language Ends at end rest after tokens [] stand ends)

-- sound tokens that stand in a text read it
pub sound_reads : (sizes : Limits) (language : Language) (at : ℕ) (rest : List ℕ) (tokens : List Token)
    → StandSound sizes language EndsInGap at rest tokens → StandIn (IsNext language) EndsInGap at rest tokens
sound_reads sizes language at rest [] last = last
sound_reads sizes language at rest (t ∷ ts) (gap, after, next, tail) = (gap, after, next.next, sound_reads sizes language t.span.end after ts tail)

pub sound_all : (sizes : Limits) (language : Language) (at : ℕ) (rest : List ℕ) (tokens : List Token)
    → StandSound sizes language EndsInGap at rest tokens → AreSound sizes.token sizes.value tokens
sound_all sizes language at rest [] last = tt
sound_all sizes language at rest (t ∷ ts) (gap, after, next, tail) = (next.sound, sound_all sizes language t.span.end after ts tail)

-- behind a token as many bytes are left as its place says
pub next_room : (language : Language) (at : ℕ) (rest : List ℕ) (token : Token) (gap after : List ℕ) → IsNext language at rest token gap after
    → token.span.end + length after ≡ at + length rest
next_room language at rest token gap after next =
    omega (arith, next.end, ap length next.joined, length-append gap (token.text ++ after), length-append token.text after)

-- the first of the tokens that lead to another, or that one
pub begins : (language : Language) (text : List ℕ) (at : ℕ) (rest : List ℕ) (tokens : List Token) (token : Token) (gap after : List ℕ)
    → StandSound limits language (LeadsTo at rest) 0 text tokens → IsSoundNext limits language at rest token gap after → BeginsWithToken limits language text
begins language text at rest [] token gap after (e, f) next =
    (token, gap, after, subst (λ k. IsSoundNext limits language k text token gap after) (sym e) (subst (λ t. IsSoundNext limits language at t token gap after) (sym f) next))
begins language text at rest (t ∷ ts) token gap after (hole, behind, first, tail) next = (t, hole, behind, first)
