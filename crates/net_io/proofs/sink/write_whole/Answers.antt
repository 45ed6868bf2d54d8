use Rattle.std.proofs.lemmas.Grind.{common_steps}
use Rattle.std.proofs.Common.{arith, ◌≡◌, Bool, true, false, ◌||◌, ◌++◌, take, refl, sym, ap, ◌∙◌, append_assoc, take-append-drop}
use Rattle.std.proofs.KnownBytes.{Appends-trans}
use Rattle.net_io.proofs.sink.write_whole.Goals as goal

or_false : (b : Bool) → (b || false) ≡ b
or_false true = refl
or_false false = refl

pub loop-rest-preserved : goal.loop-rest-preserved
loop-rest-preserved g c =
    let count = c.in_ok-count.count in
    let rest = c.loop-rest.rest.now in
    let front = c.loop-rest.invariant.0 in
    let after = c.split_at.result.1.now in
    let parts : take count rest ++ after ≡ rest = ap (λ r. take count rest ++ r) c.split_at.ensures.back ∙ take-append-drop count rest in
    let joined : front ++ rest ≡ front ++ (take count rest ++ after) = ap (λ r. front ++ r) (sym parts) in
    let whole : c.args.text.now ≡ (front ++ take count rest) ++ after = c.loop-rest.invariant.1 ∙ joined ∙ sym (append_assoc front (take count rest) after) in
    (front ++ take count rest, whole, Appends-trans _ _ _ front (take count rest) c.loop-rest.invariant.2 c.in_ok-count.ensures.bytes, c.in_ok-count.ensures.flag ∙ or_false _ ∙ c.loop-rest.invariant.3)

pub returns-clause-ok : goal.returns-clause-ok
returns-clause-ok g c = grind (arith, common_steps)

pub loop-rest-smaller : goal.loop-rest-smaller
loop-rest-smaller c = grind (arith)
