use Rattle.std.specs.Prelude.{◌≡◌, None, is_some, Ok}
use Rattle.std.proofs.Common.{ap, sym, ◌∙◌, arith}
use Rattle.net_base.specs.Outcomes.{Outcome, each}
use Rattle.net_tree.specs.Phrases.{is_becomes, is_default}
use Rattle.net_tree.specs.PhraseValues.{phrase_value}
use Rattle.net_expr.specs.declared.world.Entry.{Entry}
use Rattle.net_expr.specs.declared.world.Entry.TheVariants.{Parameter}
use Rattle.net_expr.specs.Worlds.{key_count}
use Rattle.net_bind.specs.BoundParameters.{data_of}
use Rattle.net_bind.specs.ParameterViews.{parameter_of}
use Rattle.net_bind.specs.Rows.{with_statement}
use Rattle.net_bind.proofs.FromData.{from_data}
use Rattle.net_bind.proofs.from_data.from_data_alone.Goals as goal

pub returns : goal.returns
returns c = λ rows.
    let p = parameter_of c.args.parameter.now in
    let ws = c.args.earlier.now.widths.now in
    let ms = c.args.named_data.now in
    let taken = c.data_of.new.values in
    let becomes : phrase_value is_becomes p.phrases ≡ None = grind (arith, c.phrase_value.ensures, c.is_some-is_assigned.ensures, c.if-is_assigned.false) in
    let default : phrase_value is_default p.phrases ≡ None = grind (arith, c.phrase_value-2.ensures, c.is_some-otherwise.ensures, c.if-otherwise.false) in
    let nothing : c.in_ok-default.default ≡ None = grind (arith, c.is_some.ensures, c.if-is_some.false) in
    let said : data_of ws p (is_some (phrase_value is_becomes p.phrases)) ms ≡ Ok (taken, None) =
    ap (λ b. data_of ws p b ms) (ap is_some becomes ∙ sym c.if-is_assigned.false)
    ∙ ap (λ t. each (with_statement ws p (key_count p.keys) c.is_some-is_assigned.result) ms (t, None)) (sym c.in_ok-values.ensures)
    ∙ c.in_ok-default.ensures
    ∙ ap (λ d. Ok (taken, d)) nothing in
    let entry : c.in_ok-parameter_entry.field-0 ≡ Parameter p.keys p.index taken.0 = grind (arith, c.in_ok-parameter_entry.ensures, c.into_table.ensures) in
    from_data c.args.earlier.now.env ws p ms rows taken (sym c.are_constant.ensures ∙ c.if-not-are_constant.false) becomes default said (c.values_fit.ensures c.args.earlier.now.env c.if-not-values_fit.false)
    ∙ ap (λ (e : Entry). let o : Outcome Entry = Ok e in o) (sym entry)
