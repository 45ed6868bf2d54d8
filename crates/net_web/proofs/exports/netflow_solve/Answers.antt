use Rattle.std.proofs.Common.{ℕ, List, subst}
use Rattle.net_web.specs.Replies.{IsHandedOver}
use Rattle.net_web.proofs.exports.netflow_solve.Goals as goal

pub returns : goal.returns
returns c =
    record {
      value = (
        c.solved_for-reply.result.text.items,
        subst (λ (text : List ℕ). IsHandedOver text c.args.out.now c.hand_over.new.out c.hand_over.result) c.deref.ensures.value c.hand_over.ensures.value,
        c.solved_for-reply.ensures,
      );
    }
