-- From a certificate of a compiled model to its plan with prices.
use Rattle.std.proofs.Common.{◌≡◌, ℕ, ◌+◌, List, [], ◌∷◌, ◌++◌, length, vec_len, Bool, Option, neg_ℤ, ap, subst, ◌∙◌, arith, length-append}
use Rattle.net_check.specs.Certificates.{IsCertificate}
use Rattle.net_check.specs.declared.certificate.Certificate.{Certificate}
use Rattle.net_check.specs.declared.certificate.Certificate.TheVariants.{Optimal, Cut}
use Rattle.net_expr.specs.Worlds.{Name}
use Rattle.net_inst.specs.Lists.{AreInOrder}
use Rattle.net_normal.specs.NormalForm.{supplies_from}
use Rattle.net_normal.specs.Sums.{sum_of}
use Rattle.net_normal.specs.declared.instance.Instance.{Instance}
use Rattle.net_normal.proofs.Written.{length-numbers}
use Rattle.net_report.specs.Prices.{node_prices, reduced_costs}
use Rattle.net_report.proofs.InOrder.{prices_show_all}
use Rattle.net_driver.specs.declared.answer.Outcome.{Outcome}
use Rattle.net_driver.specs.declared.answer.Outcome.TheVariants.{Displayed, Infeasible}
use Rattle.net_driver.specs.declared.compiled.Compiled.{Compiled}
use Rattle.net_driver.specs.IsBuilt.{IsBuilt}
use Rattle.net_driver.specs.Made.{profile_of}
use Rattle.net_driver.specs.PricedPlans.{IsBuiltFrom, IsPricedOutcomeOf, IsPricedOutcome}
use Rattle.net_driver.proofs.Counts.{supply_count}

-- the problem has a node for each node of the network and one more, the link a number for each arc
pub record HasFormSizes (instance : Instance) (c : Compiled) : Type 0 where
  pub nodes : vec_len c.problem.supplies ≡ vec_len instance.nodes + 1
  pub arcs : vec_len c.link.numbers ≡ vec_len instance.arcs

pub form_sizes : (lean : Bool) (wanted : Option Name) (m d : List ℕ) (c : Compiled) (built : IsBuilt lean wanted m d c) → HasFormSizes built.made.instance c
form_sizes lean wanted m d c built =
    let n = built.made.instance in
    let inner = supplies_from (profile_of lean) n.arcs.items 0 n.nodes.items in
    let supplies = ap length built.normal.supplies in
    let joined = length-append inner (neg_ℤ (sum_of inner) ∷ []) in
    let counted = supply_count (profile_of lean) n.arcs.items 0 n.nodes.items in
    record {
      nodes = omega (arith, c.problem.supplies.ok.0, n.nodes.ok.0, supplies, joined, counted);
      arcs = omega (arith, c.link.numbers.ok.0, n.arcs.ok.0, ap length built.normal.numbers, length-numbers (profile_of lean) 1 n.arcs.items);
    }

pub sizes_from : (lean : Bool) (wanted : Option Name) (m d : List ℕ) (instance : Instance) (c : Compiled) → IsBuiltFrom lean wanted m d instance c → HasFormSizes instance c
sizes_from lean wanted m d instance c from = subst (λ n. HasFormSizes n c) from.1 (form_sizes lean wanted m d c from.0)

pub priced_of : (instance : Instance) (c : Compiled) (settled : Certificate) (outcome : Outcome) (text : List ℕ) → AreInOrder 0 c.names.nodes.keys → AreInOrder 0 c.names.arcs.keys
    → IsCertificate c.problem settled → IsPricedOutcomeOf instance c settled outcome text → IsPricedOutcome instance c outcome text
priced_of instance c (Optimal cost flows potentials) (Displayed shown numbers value) text nodes arcs by h = record {
  cost = cost;
  flows = flows.items;
  potentials = potentials.items;
  certificate = by;
  maps_back = h.0.maps_back;
  displayed = h.1 ∙ ap (λ (t : List ℕ). shown.items ++ t) (prices_show_all c.names (node_prices instance potentials.items) (reduced_costs instance potentials.items) nodes arcs);
}
priced_of instance c (Optimal cost flows potentials) (Infeasible shown flags side) text nodes arcs by h = absurd h.0
priced_of instance c (Cut flags side) (Displayed shown numbers value) text nodes arcs by h = absurd h.0
priced_of instance c (Cut flags side) (Infeasible shown set on) text nodes arcs by h = h.1
