use Rattle.std.proofs.Common.{◌≡◌, ◌++◌, ◌∷◌, [], List, ℕ, false, sym, subst, ◌∙◌, arith}
use Rattle.std.proofs.lemmas.Grind.{common_steps}
use Rattle.net_dimacs.specs.Lines.{is_feed, HasNone}
use Rattle.net_dimacs.specs.Scans.{IsReadAlike}
use Rattle.net_dimacs.proofs.Lists.{all_append}
use Rattle.net_dimacs.proofs.OpenFronts.{all_parts}
use Rattle.net_dimacs.proofs.Shortening.{read_alike}
use Rattle.net_dimacs.proofs.open_line.shorten.Goals as goal

pub front_of-front-requires : goal.front_of-front-requires
front_of-front-requires c =
    let old : c.args.pending.now.items ≡ c.in-Some.line.now ++ c.in-Some.last.now ∷ [] = sym c.deref.ensures.value ∙ c.in-Some.ensures.cases.0 in
    (all_parts (λ b. is_feed b ≡ false) c.in-Some.line.now (c.in-Some.last.now ∷ []) (subst (HasNone is_feed) old c.requires)).0

pub returns-clause-alike : goal.returns-clause-alike
returns-clause-alike c =
    let line : List ℕ = c.in-Some.line.now in
    let last : ℕ = c.in-Some.last.now in
    let front : List ℕ = c.front_of-front.result.items in
    let old : c.args.pending.now.items ≡ line ++ last ∷ [] = sym c.deref.ensures.value ∙ c.in-Some.ensures.cases.0 in
    let new : c.extend_from_slice.new.self.items ≡ front ++ last ∷ [] = grind (arith, common_steps) in
    let all = subst (HasNone is_feed) old c.requires in
    let end = all_parts (λ b. is_feed b ≡ false) line (last ∷ []) all in
    subst (λ (l : List ℕ). IsReadAlike l c.args.pending.now.items) (sym new)
    (subst (λ (l : List ℕ). IsReadAlike (front ++ last ∷ []) l) (sym old)
    (read_alike front line last (all_append (λ b. is_feed b ≡ false) front (last ∷ []) c.front_of-front.ensures.no_feed end.1) all c.front_of-front.ensures.alike))

pub returns-clause-no_feed : goal.returns-clause-no_feed
returns-clause-no_feed c =
    let line : List ℕ = c.in-Some.line.now in
    let last : ℕ = c.in-Some.last.now in
    let front : List ℕ = c.front_of-front.result.items in
    let old : c.args.pending.now.items ≡ line ++ last ∷ [] = sym c.deref.ensures.value ∙ c.in-Some.ensures.cases.0 in
    let new : c.extend_from_slice.new.self.items ≡ front ++ last ∷ [] = grind (arith, common_steps) in
    let end = all_parts (λ b. is_feed b ≡ false) line (last ∷ []) (subst (HasNone is_feed) old c.requires) in
    subst (HasNone is_feed) (sym new) (all_append (λ b. is_feed b ≡ false) front (last ∷ []) c.front_of-front.ensures.no_feed end.1)
