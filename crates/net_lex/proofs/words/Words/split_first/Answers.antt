use Rattle.std.proofs.Common.{◌≡◌, ◌∷◌, ◌<◌, suc, length, List, subst, arith, slice_index_or}
use Rattle.net_lex.specs.declared.words.PackedToken.{PackedToken}
use Rattle.net_lex.specs.Packed.{IsIn}
use Rattle.net_lex.proofs.words.Words.split_first.Goals as goal

pub invariant_of-result : goal.invariant_of-result
invariant_of-result c = λ k d below.
    let all = c.self.invariant in
    let tokens = c.self.inside.tokens.now in
    let is : tokens ≡ c.in_ok-token.token.now ∷ c.in_ok-token.rest.now = c.in_ok-token.ensures.cases.0 in
    subst (λ (l : List PackedToken). suc k < length l → IsIn c.self.inside.text.now.now (slice_index_or l (suc k) d)) is (all (suc k) d) (omega (arith, below))
