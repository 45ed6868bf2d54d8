-- What a model is refused for, when its network is made, stands at one of its parts; and some of it is nothing that a model with a network has.
use Rattle.std.specs.Prelude.{◌≡◌, ℕ, Bool, true, false, List, [], ◌∷◌, Option, None, Some, Ok}
use Rattle.net_base.specs.declared.diagnostic.Language.TheVariants as languages
use Rattle.net_base.specs.declared.diagnostic.Span.{Span}
use Rattle.net_lex.specs.declared.token.Token.{Token}
use Rattle.net_tree.specs.Tree.{Tree, Braces, Condition, Part, absent, part, Declaration, set, param, check, node, arc, objective}
use Rattle.net_expr.specs.SetValues.{HasSets}
use Rattle.net_expr.specs.Worlds.{Name, World}
use Rattle.net_inst.specs.declared.draft.ChosenObjective.{ChosenObjective}
use Rattle.net_inst.specs.Arcs.{with_arcs, arc_env}
use Rattle.net_inst.specs.Drafts.{Drawing, nothing, env, is_chosen, tree_form, part_form, with_goal, with_node_declaration, declare, draw}
use Rattle.net_inst.specs.Groups.{Numbers}
use Rattle.net_inst.specs.Instances.{Network, point, end_of, without_goal, finished, network}
use Rattle.net_inst.specs.Nodes.{with_nodes}
use Rattle.net_base.specs.Places.{Places, Finds, Model, Refuted}
use Rattle.net_tree.specs.Standing.{Stands, PartStands, IndexingHasSpans, ConditionHasSpans, DeclarationHasSpans, DeclarationsHaveSpans, ModelHasSpans}
use Rattle.net_base.proofs.Found.{finds_then, finds_then_is, finds_if}
use Rattle.net_linear.proofs.ObjectiveFaults.{finds_objective_form}
use Rattle.net_inst.proofs.NodeFaults.{finds_with_nodes}
use Rattle.net_inst.proofs.ArcFaults.{finds_with_arcs}
use Rattle.net_inst.proofs.KeysOnce.{front_has}
use Rattle.net_inst.proofs.LeftObjectives.{AreLeft, left_then as objectives_then, left_drawn, not_second, not_missing}
use Rattle.net_inst.proofs.MeantArcs.{ArcsAreMeant, arcs_then, meant_rows}

module _ (P : Places) where
  finds_said_tree : (a : Numbers) (w : World) (x : Tree) → Stands (P Model) x → Finds P (tree_form a w x)
  finds_said_tree a w x h = finds_objective_form P a w [] x h

  finds_said_form : (a : Numbers) (w : World) (p : Part) → PartStands (P Model) p → Finds P (part_form a w p)
  finds_said_form a w absent h = tt
  finds_said_form a w (part m x) h = finds_said_tree a w x h

  finds_with_goal : (w : World) (t n : Token) (p : Part) → PartStands (P Model) p → (d : Drawing) → Finds P (with_goal w t n p d)
  finds_with_goal w t n p h d = finds_then P (part_form d.arcs.group.numbers w p) _ (finds_said_form d.arcs.group.numbers w p h) (λ f. tt)

  finds_with_node_declaration : (w : World) (n : Token) → P Model n.span → (b : Option Braces) → IndexingHasSpans (P Model) b → (c : Condition) → ConditionHasSpans (P Model) c → (d : Drawing)
      → Finds P (with_node_declaration w n b c d)
  finds_with_node_declaration w n h b j c k d = finds_then P (with_nodes w n b c d.nodes) _ (finds_with_nodes P w n h c k b j d.nodes) (λ ns. tt)

-- what is left of the model's network, at a declaration
pub record IsLeft (wanted : Option Name) (w : World) (d : Drawing) (ds : List Declaration) : Type 0 where
  pub objectives : AreLeft wanted d.goal ds
  pub arcs : ArcsAreMeant w d.known ds

left_then : (wanted : Option Name) (w : World) (x : Declaration) (ds : List Declaration) (d new : Drawing) → declare wanted w x d ≡ Ok new → IsLeft wanted w d (x ∷ ds) → IsLeft wanted w new ds
left_then wanted w x ds d new is h = record { objectives = objectives_then wanted w x ds d new is h.objectives; arcs = arcs_then wanted w x ds d new is h.arcs }

-- Q: the model has a network
module _ (P : Places) (Q : Type 0) (refuted : (Q → ⊥) → (at : Span) → P Model at → P (Refuted languages.Model) at) where
  finds_is_chosen : (wanted : Option Name) (g : Option ChosenObjective) (t n : Token) → P Model n.span → (p : Part) (e : Token) (ds : List Declaration) → (Q → AreLeft wanted g (objective t n p e ∷ ds)) → Finds P (is_chosen wanted g n)
  finds_is_chosen (Some name) g t n h p e ds l = tt
  finds_is_chosen None None t n h p e ds l = tt
  finds_is_chosen None (Some g) t n h p e ds l = refuted (λ q. not_second g t n p e ds (l q)) n.span h

  module _ (w : World) (sets : Q → HasSets w) where
    finds_declare : (wanted : Option Name) (x : Declaration) → DeclarationHasSpans (P Model) x → (ds : List Declaration) (d : Drawing) → (Q → IsLeft wanted w d (x ∷ ds)) → Finds P (declare wanted w x d)
    finds_declare wanted (set t n ps e) h ds d l = tt
    finds_declare wanted (param t n b ps e) h ds d l = tt
    finds_declare wanted (check t b m x e) h ds d l = tt
    finds_declare wanted (node t n b c e) (h, j, k, m) ds d l = finds_with_node_declaration P (env w d) n h b j c k d
    finds_declare wanted (arc t n b ps e) (h, j, k, m) ds d l =
        finds_then P (with_arcs (arc_env d.goal d.nodes (env w d)) n b ps d.arcs) _
        (finds_with_arcs P Q refuted (env w d) (λ q. front_has d.known w (sets q)) d n h ps k b j (λ p i parts is q. meant_rows w (sets q) d t n b ps e ds p i (l q).arcs parts is) d.arcs) (λ xs. tt)
    finds_declare wanted (objective t n p e) (h, k, m) ds d l =
        finds_then P (is_chosen wanted d.goal n) _ (finds_is_chosen wanted d.goal t n h p e ds (λ q. (l q).objectives)) (λ b. finds_if P b (with_goal (env w d) t n p d) _ (finds_with_goal P (env w d) t n p k d) tt)

    finds_draw : (wanted : Option Name) (ds : List Declaration) → DeclarationsHaveSpans (P Model) ds → (d : Drawing) → (Q → IsLeft wanted w d ds) → Finds P (draw wanted w ds d)
    finds_draw wanted [] h d l = tt
    finds_draw wanted (x ∷ xs) (h, k) d l =
        finds_then_is P (declare wanted w x d) (draw wanted w xs) (finds_declare wanted x h xs d l) (λ new is. finds_draw wanted xs k new (λ q. left_then wanted w x xs d new is (l q)))

  finds_without_goal : (wanted : Option Name) (at : Span) → P Model at → (b : Bool) → (Q → ⊥) → Finds P (without_goal {A = Network} wanted at b)
  finds_without_goal wanted at h true f = refuted f at h
  finds_without_goal wanted at h false f = refuted f at h

  finds_finished : (wanted : Option Name) (at : Span) → P Model at → (d : Drawing) (g : Option ChosenObjective) → (Q → AreLeft wanted g []) → Finds P (finished wanted at d g)
  finds_finished wanted at h d None l = finds_without_goal wanted at h d.has_objective (λ q. not_missing wanted (l q))
  finds_finished wanted at h d (Some g) l = tt

  end_stands : (at : ℕ) → P Model (point at) → (ds : List Declaration) → DeclarationsHaveSpans (P Model) ds → P Model (point (end_of at ds))
  end_stands at h [] k = h
  end_stands at h (set t n ps e ∷ ds) ((g, i, j), k) = end_stands e.span.end j ds k
  end_stands at h (param t n b ps e ∷ ds) ((g, i, j, m), k) = end_stands e.span.end m ds k
  end_stands at h (check t b q x e ∷ ds) ((g, i, j), k) = end_stands e.span.end j ds k
  end_stands at h (node t n b c e ∷ ds) ((g, i, j, m), k) = end_stands e.span.end m ds k
  end_stands at h (arc t n b ps e ∷ ds) ((g, i, j, m), k) = end_stands e.span.end m ds k
  end_stands at h (objective t n p e ∷ ds) ((g, i, j), k) = end_stands e.span.end j ds k

  pub finds_network : (wanted : Option Name) (w : World) (ds : List Declaration) → ModelHasSpans (P Model) ds → (Q → HasSets w) → (Q → IsLeft wanted w nothing ds) → Finds P (network wanted w ds)
  unfolding network
  finds_network wanted w ds (h, k) sets l =
      finds_then_is P (draw wanted w ds nothing) _ (finds_draw w sets wanted ds k nothing l) (λ d is.
      finds_finished wanted (point (end_of 0 ds)) (end_stands 0 h ds k) d d.goal (λ q. left_drawn wanted w ds nothing d is (l q).objectives))
