-- If the first error has one of the codes of `says_no_network`, the inputs mean no network.
use Rattle.std.specs.Prelude.{◌≡◌, ℕ, true, List, [], length, Option, Ok, Err}
use Rattle.std.proofs.Common.{refl, subst}
use Rattle.net_base.specs.declared.diagnostic.Diagnostic.{Diagnostic}
use Rattle.net_base.specs.ErrorCodes.{says_no_network}
use Rattle.net_base.specs.Outcomes.{Outcome, and_then}
use Rattle.net_base.specs.Places as regions
use Rattle.net_base.specs.Places.{Places, IsSpanIn, IsInFiles, Finds, Refuted, region}
use Rattle.net_base.proofs.Found.{Gives}
use Rattle.net_tree.specs.Erasure.{declarations}
use Rattle.net_tree.specs.Tree.{Declaration}
use Rattle.net_model.specs.GrammarOfDeclarations as grammar
use Rattle.net_data.specs.declared.statement.Tables.{Tables}
use Rattle.net_expr.specs.Worlds.{Name, World}
use Rattle.net_bind.specs.Binding as binding
use Rattle.net_bind.specs.Binding.{with_given}
use Rattle.net_bind.specs.DataByName.{Sorted, data_by_name}
use Rattle.net_bind.specs.Names.{declared}
use Rattle.net_bind.proofs.HeldEntries.{have_sets}
use Rattle.net_bind.proofs.NameFaults.{SortedStands, gives_said}
use Rattle.net_bind.proofs.SoundWorlds.{worlds_are_sound}
use Rattle.net_bind.proofs.WorldFaults.{finds_with_given}
use Rattle.net_inst.specs.Instances.{network}
use Rattle.net_inst.specs.Drafts.{nothing}
use Rattle.net_inst.proofs.NetworkFaults.{IsLeft, finds_network}
use Rattle.net_meaning.specs.Network.{Network, IsNetwork}
use Rattle.net_meaning.specs.OfTrees.{meant_world}
use Rattle.net_meaning.specs.World as worlds
use Rattle.net_meaning.proofs.UniqueWorlds.{worlds_are_unique}
use Rattle.net_driver.specs.FirstFaults as faults
use Rattle.net_driver.specs.Meaning.{MeanNetwork}
use Rattle.net_driver.specs.NoNetwork.{of_model, of_data, of_names, ErrorsAreSound}
use Rattle.net_driver.specs.Reading.{IsModel, IsData}
use Rattle.net_driver.proofs.FaultPlaces.{declarations_lie, statements_lie}
use Rattle.net_driver.proofs.ModelWorld.{is_world}
use Rattle.net_driver.proofs.OneMeaning.{have_set_phrases}
use Rattle.net_driver.proofs.TextFaults.{same_model, same_data, text_faults_are_sound}

err_is : {A : Type 0} (s r : Diagnostic) → (let o : Outcome A = Err s in o ≡ Err r) → s ≡ r
err_is s r e = cc

module _ (requested : Option Name) (m d : List ℕ) where
  abbrev Mean : Type 0
  Mean = (network : Network) × MeanNetwork requested m d network

  -- an error in the files, and if it shows that there is no network, there is none
  abbrev Against : Places
  Against regions.Model at = IsSpanIn (length m) at
  Against regions.Data at = IsSpanIn (length d) at
  Against (Refuted text) at = Mean → ⊥

  refuted : {A : Type 0} (o : Outcome A) (r : Diagnostic) → Finds Against o → o ≡ Err r → says_no_network r.error_code ≡ true → Mean → ⊥
  refuted o r h is says = subst (λ b. Against (region b r.text) r.at) says (subst (Finds Against) is h)

  module _ (ds : List Declaration) (x : Tables) (r : Diagnostic) (is : IsModel m ds) (are : IsData d x) (says : says_no_network r.error_code ≡ true) (mean : Mean) where
    -- evaluation refutes nothing, the names in the data do
    no_world_fault : (o : Outcome Sorted) → data_by_name (declared ds) x.statements ≡ o → and_then o (with_given ds) ≡ Err r → ⊥
    no_world_fault (Ok given) e h =
        refuted (with_given ds given) r
        (finds_with_given Against given
        (subst (Gives (IsInFiles (length m) (length d)) (SortedStands (IsSpanIn (length d)))) e
        (gives_said (IsInFiles (length m) (length d)) (λ at k. k) (declared ds) x.statements (statements_lie d x are)))
        ds (declarations_lie m ds is).1) h says mean
    no_world_fault (Err s) e h =
        text_faults_are_sound requested m d r (of_names ds x is are (subst (λ q. data_by_name (declared ds) x.statements ≡ Err q) (err_is s r h) e)) says mean.0 mean.1

    unbound : binding.world ds x.statements ≡ Err r → ⊥
    unfolding binding.world
    unbound h = no_world_fault (data_by_name (declared ds) x.statements) refl h

    module _ (w : World) (bound : binding.world ds x.statements ≡ Ok w) where
      -- the network that is meant, in the computed world
      network_here : (mean : Mean) → IsNetwork requested (meant_world w) (declarations ds) mean.0
      network_here (n, h) =
          let model = same_model m ds h.declarations is h.model in
          let own : worlds.IsWorld (declarations ds) x.statements h.world =
          subst (λ xs. worlds.IsWorld xs x.statements h.world) model (subst (λ (y : Tables). worlds.IsWorld h.declarations y.statements h.world) (same_data d x h.tables are h.data_statements) h.is_world) in
          let phrases = have_set_phrases (declarations ds) h.model.tokens [] (subst (λ xs. grammar.IsModel xs h.model.tokens) model h.model.derived) in
          let world = worlds_are_unique (declarations ds) x.statements h.world (meant_world w) phrases own (is_world worlds_are_sound m d ds x w is are bound) in
          subst (λ v. IsNetwork requested v (declarations ds) n) world (subst (λ xs. IsNetwork requested h.world xs n) model h.is_network)

      left : Mean → IsLeft requested w nothing ds
      left mean =
          let h = network_here mean in
          record {
            objectives = record { world = meant_world w; known = 0; before = []; left = (mean.0.objective, h.objective) };
            arcs = record { goal = mean.0.objective.name; arcs = mean.0.arcs; in_order = h.arcs };
          }

      unbuilt : network requested w ds ≡ Err r → ⊥
      unbuilt h =
          refuted (network requested w ds) r (finds_network Against Mean (λ f at k. f) requested w ds (declarations_lie m ds is) (λ q. have_sets ds x.statements w bound) left) h says mean

pub errors_are_sound : ErrorsAreSound
errors_are_sound requested m d r (faults.model _ h) says n mean = text_faults_are_sound requested m d r (of_model h) says n mean
errors_are_sound requested m d r (faults.statements ds _ is h) says n mean = text_faults_are_sound requested m d r (of_data ds is h) says n mean
errors_are_sound requested m d r (faults.both ds x _ is are (faults.unbound _ h)) says n mean = unbound requested m d ds x r is are says (n, mean) h
errors_are_sound requested m d r (faults.both ds x _ is are (faults.unbuilt w _ bound h)) says n mean = unbuilt requested m d ds x r is are says (n, mean) w bound h
