use Rattle.std.specs.Prelude.{◌≡◌, ◌++◌, [], ◌∷◌}
use Rattle.std.proofs.Common.{ap, sym, ◌∙◌, subst}
use Rattle.net_sets.specs.Operations.{AreLong, union, product}
use Rattle.net_bind.specs.declared.superset.Crossed.{Crossed}
use Rattle.net_bind.specs.Supersets.{crossed_by, AreParted}
use Rattle.net_bind.proofs.Products.{crossed_last, parted_with}
use Rattle.net_bind.proofs.superset.Superset.crossed.Goals as goal

pub invariant_of-result : goal.invariant_of-result
invariant_of-result c =
    let f : Crossed = record { start = c.args.start; set = c.args.set } in
    let all : c.new.result ≡ c.self.inside.more ++ f ∷ [] = c.new.ensures ∙ c.in_ok-push.ensures.items ∙ ap (λ fs. fs ++ f ∷ []) c.into_vec-more.ensures in
    subst (AreParted c.self.inside.first) (sym all) (parted_with c.self.inside.first c.self.inside.more f c.self.invariant (subst (AreLong c.args.start) (sym c.self.view_is) c.requires))

pub returns : goal.returns
returns c =
    let f : Crossed = record { start = c.args.start; set = c.args.set } in
    let all : c.new.result ≡ c.self.inside.more ++ f ∷ [] = c.new.ensures ∙ c.in_ok-push.ensures.items ∙ ap (λ fs. fs ++ f ∷ []) c.into_vec-more.ensures in
    ap (crossed_by c.self.inside.first) all ∙ crossed_last c.self.inside.first c.self.inside.more f ∙ ap (λ ts. union [] (product ts c.args.set)) c.self.view_is
