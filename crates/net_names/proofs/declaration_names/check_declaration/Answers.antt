use Rattle.std.proofs.Common.{◌++◌, ◌∷◌, [], sym, ap, ◌∙◌, arith}
use Rattle.std.proofs.lemmas.Grind.{common_steps}
use Rattle.net_tree.specs.View.{declaration_of}
use Rattle.net_names.specs.Names.{with_declared}
use Rattle.net_names.specs.Scopes.{NameScope, meaning_in}
use Rattle.net_names.proofs.Declaring.{declared_new, forgotten_dummies}
use Rattle.net_names.proofs.declaration_names.check_declaration.Goals as goal

pub add-requires : goal.add-requires
add-requires c =
    let d = declaration_of c.args.declaration.now in
    let forgot = c.forget_after.ensures ∙ forgotten_dummies c.args.scope.now c.read_declaration.new.scope d c.len-known.result c.len-known.ensures c.in_ok-read_declaration.ensures.grown in
    ap (meaning_in c.in-Some.name.now.text) forgot ∙ declared_new c.args.scope.now d (c.in-Some.name.now, c.in-Some.meaning) (sym c.in-Some.ensures) c.in_ok-read_declaration.ensures.value

pub returns-in-None-clause-grown : goal.returns-in-None-clause-grown
returns-in-None-clause-grown c =
    let d = declaration_of c.args.declaration.now in
    let forgot = c.forget_after.ensures ∙ forgotten_dummies c.args.scope.now c.read_declaration.new.scope d c.len-known.result c.len-known.ensures c.in_ok-read_declaration.ensures.grown in
    forgot ∙ ap (with_declared c.args.scope.now) c.in-None.ensures

pub returns-in_ok-add-in-Some-clause-grown : goal.returns-in_ok-add-in-Some-clause-grown
returns-in_ok-add-in-Some-clause-grown c =
    let d = declaration_of c.args.declaration.now in
    let forgot = c.forget_after.ensures ∙ forgotten_dummies c.args.scope.now c.read_declaration.new.scope d c.len-known.result c.len-known.ensures c.in_ok-read_declaration.ensures.grown in
    c.in_ok-add-in-Some.ensures ∙ ap (λ (s : NameScope). s ++ (c.in-Some.name.now.text, c.in-Some.meaning) ∷ []) forgot ∙ ap (with_declared c.args.scope.now) c.in-Some.ensures

pub returns-in-None-clause-value : goal.returns-in-None-clause-value
returns-in-None-clause-value c = grind (arith, common_steps)
