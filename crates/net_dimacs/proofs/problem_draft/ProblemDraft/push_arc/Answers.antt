use Rattle.std.proofs.Common.{List, All, ap, sym, subst, arith, vec_len}
use Rattle.std.proofs.lemmas.List.Elements.{All-push}
use Rattle.net_normal.specs.Limits.{IsFlowArcOf}
use Rattle.net_normal.specs.declared.problem.FlowArc.{FlowArc}
use Rattle.net_dimacs.specs.Drafts.{sketch_of}
use Rattle.net_dimacs.proofs.problem_draft.ProblemDraft.push_arc.Goals as goal

pub returns : goal.returns
returns c = ap (λ (arcs : List FlowArc). record (sketch_of c.args.self.now) { arcs = arcs }) c.push_reserved.ensures.items

pub invariant_of-self : goal.invariant_of-self
invariant_of-self c =
    let d = c.args.self.now in
    let P : FlowArc → Type 0 = IsFlowArcOf (vec_len d.supplies) in
    record {
      some_node = d.some_node;
      few_nodes = d.few_nodes;
      marks = d.marks;
      few_arcs = d.few_arcs;
      arcs_so_far = omega (arith, c.requires.room, c.push_reserved.ensures.len);
      room = omega (arith, d.room, c.push_reserved.ensures.capacity);
      supplies_fit = d.supplies_fit;
      arcs_fit = subst (λ (arcs : List FlowArc). All P arcs) (sym c.push_reserved.ensures.items) (All-push P d.arcs.items c.args.arc d.arcs_fit c.requires.arc);
    }
