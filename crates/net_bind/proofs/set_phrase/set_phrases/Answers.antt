use Rattle.std.proofs.Common.{rules, ◌≡◌, Ok, arith}
use Rattle.std.proofs.lemmas.Grind.{common_steps}
use Rattle.net_tree.specs.View.{phrase_of}
use Rattle.net_tree.specs.Role.{role_of}
use Rattle.net_bind.specs.SetPhrases.{in_body, set_word}
use Rattle.net_bind.proofs.Turns.{in_turn_by}
use Rattle.net_bind.proofs.set_phrase.set_phrases.Goals as goal

pub loop-phrase-preserved : goal.loop-phrase-preserved
loop-phrase-preserved c =
    let phrase = phrase_of c.phrase-item.result in
    let done : in_body c.args.env.now (set_word (role_of phrase.word)) phrase.body c.loop-phrase.claims ≡ Ok c.in_ok-claims.claims = search rules in
    in_turn_by phrase_of (λ p. in_body c.args.env.now (set_word (role_of p.word)) p.body) _ _ _ _ _ _ c.loop-phrase.invariant c.loop-phrase-test.true c.phrase-item.is done

pub offset_bounds-all-phrase-index : goal.offset_bounds-all-phrase-index
offset_bounds-all-phrase-index c = grind (arith, common_steps)

pub returns-in_err-claims : goal.returns-in_err-claims
returns-in_err-claims c = grind (arith, common_steps)

pub returns : goal.returns
returns c = grind (arith, common_steps)
