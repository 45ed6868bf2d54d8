use Rattle.std.proofs.Common.{◌≡◌, ◌∙◌, ap, rules, length, get_or, pos, None, to_z, of_z, w64, arith}
use Rattle.std.proofs.lemmas.Grind.{common_steps}
use Rattle.net_linear.specs.Forms.{coefficient}
use Rattle.net_inst.specs.declared.arc.Built.{Built}
use Rattle.net_inst.specs.Instances.{with_coefficient}
use Rattle.net_inst.proofs.Pricing.{priced-more, sized-more}
use Rattle.net_inst.proofs.arc.priced.Goals as goal

-- what a read past the end would give
abbrev no_arc : Built
no_arc = record { lower = pos 0; upper = pos 0; tail = None; head = None }

pub loop-arc-preserved : goal.loop-arc-preserved
loop-arc-preserved c =
    let reported : c.coefficient-coefficient.result ≡ coefficient c.args.form.now.products (length c.loop-arc.all.items) = search rules in
    let plain : to_z w64 (of_z w64 c.coefficient-coefficient.result) ≡ c.coefficient-coefficient.result = search rules in
    let arc = get_or c.args.arcs.now c.loop-arc.arc-index no_arc in
    let whole : c.with_coefficient-whole.result ≡ with_coefficient arc c.coefficient-coefficient.result = c.with_coefficient-whole.ensures ∙ ap (with_coefficient arc) plain in (
      priced-more c.args.form.now.products c.args.arcs.now c.loop-arc.arc-index no_arc c.loop-arc.all.items c.push.new.self.items _ c.with_coefficient-whole.result c.coefficient-coefficient.result c.loop-arc-test.true whole reported c.in_ok-push.ensures.items c.loop-arc.invariant.0,
      sized-more c.loop-arc.all.items c.push.new.self.items c.with_coefficient-whole.result arc c.coefficient-coefficient.result whole c.coefficient-coefficient.ensures.size c.in_ok-push.ensures.items c.loop-arc.invariant.1,
    )

pub returns-clause-size : goal.returns-clause-size
returns-clause-size c = grind (arith, common_steps)

pub returns-clause-value : goal.returns-clause-value
returns-clause-value c = grind (arith, common_steps)

pub loop-arc-init : goal.loop-arc-init
loop-arc-init c = grind (arith, common_steps)
