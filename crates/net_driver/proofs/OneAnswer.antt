-- Two texts have one compiled form.
use Rattle.std.proofs.Common.{◌≡◌, ℕ, Bool, suc, List, [], ◌∷◌, ◌++◌, map, vec_len, length, Option, ℤ, pos, ◌+ℤ◌, ◌-ℤ◌, neg_ℤ, if◌then◌else◌, refl, sym, ap, ◌∙◌, arith}
use Rattle.std.proofs.lemmas.List.{length-map}
use Rattle.net_expr.specs.Worlds.{Name}
use Rattle.net_dimacs.specs.Written.{problem_text}
use Rattle.net_linear.specs.declared.condition.Sides.{Sides}
use Rattle.net_inst.specs.Instances.{Network, seen_as}
use Rattle.net_inst.specs.Nodes.{sides_of}
use Rattle.net_inst.specs.declared.network_names.Names.{Names}
use Rattle.net_normal.specs.declared.instance.Instance.{Instance}
use Rattle.net_normal.specs.declared.instance.InstArc.{InstArc}
use Rattle.net_normal.specs.declared.instance.NodeRange.{NodeRange}
use Rattle.net_normal.specs.declared.instance.Sense.{Sense}
use Rattle.net_normal.specs.declared.problem.FlowArc.{FlowArc}
use Rattle.net_normal.specs.declared.profile.Profile.{Profile}
use Rattle.net_normal.specs.NormalForm.{shift_of, low_side, high_side, least_inflow, most_inflow, is_open, supply_of, supplies_from, slack_arcs_from, supplies_of, flow_arcs_of, written_arcs, numbers_from, offsets_of, constant_of}
use Rattle.net_normal.specs.Sums.{sum_of, price_of}
use Rattle.net_base.specs.declared.diagnostic.Diagnostic.{Diagnostic}
use Rattle.net_driver.specs.FirstFaults.{IsFirstFault}
use Rattle.net_driver.specs.Reading.{IsNetworkOf}
use Rattle.net_driver.proofs.OneFault.{one_network, read_or_rejected}
use Rattle.net_report.specs.Links.{link_text, constant_line, sign_line, node_lines, arc_lines}
use Rattle.net_report.specs.References.{names_in}
use Rattle.net_driver.specs.declared.answer.Answer.{Answer}
use Rattle.net_driver.specs.declared.compiled.Compiled.{Compiled}
use Rattle.net_driver.specs.IsSolved.{IsSolved}
use Rattle.net_driver.specs.IsBuilt.{IsBuilt}
use Rattle.net_driver.specs.Made.{profile_of}
use Rattle.net_driver.specs.OneAnswer.{IsOneWith}

-- the network of what is compiled is that of the two texts
network_of : (lean : Bool) (wanted : Option Name) (m d : List ℕ) (c : Compiled) (h : IsBuilt lean wanted m d c) → IsNetworkOf wanted m d (seen_as h.made)
network_of lean wanted m d c h = record {
  declarations = h.declarations;
  model = h.accepts.model;
  tables = h.accepts.tables;
  statements = h.accepts.statements;
  network = record { world = h.world; bound = h.accepts.world; network = h.has_network };
}

pub no_fault : (lean : Bool) (wanted : Option Name) (m d : List ℕ) (c : Compiled) (f : Diagnostic) → IsBuilt lean wanted m d c → IsFirstFault wanted m d f → ⊥
no_fault lean wanted m d c f h fault = read_or_rejected wanted m d (seen_as h.made) f (network_of lean wanted m d c h) fault

same_head : (x y : Sides) (xs ys : List Sides) → x ∷ xs ≡ y ∷ ys → x ≡ y
same_head x y xs ys e = cc

same_rest : (x y : Sides) (xs ys : List Sides) → x ∷ xs ≡ y ∷ ys → xs ≡ ys
same_rest x y xs ys e = cc

no_sides : (x : Sides) (xs : List Sides) → ◌≡◌ {A = List Sides} [] (x ∷ xs) → ⊥
no_sides x xs e = cc

-- a node's supply, and its arc for room before those behind it, by the sides of its range
abbrev supply_by : Profile → List InstArc → ℕ → Sides → ℤ
supply_by p arcs v s = shift_of p arcs v -ℤ low_side s.low s.high (least_inflow arcs v)

abbrev room_by : List InstArc → ℕ → ℕ → List FlowArc → Sides → List FlowArc
room_by arcs outside v rest s =
    if is_open s.low s.high
    then (record { src = v; dst = outside; low = pos 0; cap = high_side s.low s.high (most_inflow arcs v) -ℤ low_side s.low s.high (least_inflow arcs v); cost = pos 0 }) ∷ rest else rest

supplies_same : (p : Profile) (arcs : List InstArc) (v : ℕ) (rs qs : List NodeRange) → map sides_of rs ≡ map sides_of qs → supplies_from p arcs v rs ≡ supplies_from p arcs v qs
supplies_same p arcs v [] [] e = refl
supplies_same p arcs v [] (q ∷ qs) e = absurd (no_sides (sides_of q) (map sides_of qs) e)
supplies_same p arcs v (r ∷ rs) [] e = absurd (no_sides (sides_of r) (map sides_of rs) (sym e))
supplies_same p arcs v (r ∷ rs) (q ∷ qs) e =
    let first : supply_of p arcs v r ≡ supply_of p arcs v q = ap (supply_by p arcs v) (same_head (sides_of r) (sides_of q) (map sides_of rs) (map sides_of qs) e) in
    let rest = supplies_same p arcs (suc v) rs qs (same_rest (sides_of r) (sides_of q) (map sides_of rs) (map sides_of qs) e) in
    ap (λ x. x ∷ supplies_from p arcs (suc v) rs) first ∙ ap (λ l. supply_of p arcs v q ∷ l) rest

rooms_same : (arcs : List InstArc) (outside v : ℕ) (rs qs : List NodeRange) → map sides_of rs ≡ map sides_of qs → slack_arcs_from arcs outside v rs ≡ slack_arcs_from arcs outside v qs
rooms_same arcs outside v [] [] e = refl
rooms_same arcs outside v [] (q ∷ qs) e = absurd (no_sides (sides_of q) (map sides_of qs) e)
rooms_same arcs outside v (r ∷ rs) [] e = absurd (no_sides (sides_of r) (map sides_of rs) (sym e))
rooms_same arcs outside v (r ∷ rs) (q ∷ qs) e =
    let rest = rooms_same arcs outside (suc v) rs qs (same_rest (sides_of r) (sides_of q) (map sides_of rs) (map sides_of qs) e) in
    ap (λ l. room_by arcs outside v l (sides_of r)) rest
    ∙ ap (room_by arcs outside v (slack_arcs_from arcs outside (suc v) qs)) (same_head (sides_of r) (sides_of q) (map sides_of rs) (map sides_of qs) e)

-- the forms of two networks that are seen as one
pub record AreSame (p : Profile) (x y : Instance) : Type 0 where
  pub supplies : supplies_of p x ≡ supplies_of p y
  pub arcs : flow_arcs_of p x ≡ flow_arcs_of p y
  pub numbers : numbers_from p 1 x.arcs.items ≡ numbers_from p 1 y.arcs.items
  pub offsets : offsets_of p x.arcs.items ≡ offsets_of p y.arcs.items
  pub constant : constant_of p x ≡ constant_of p y
  pub sense : x.sense ≡ y.sense

same_forms : (p : Profile) (x y : Instance) → map sides_of x.nodes.items ≡ map sides_of y.nodes.items → x.arcs.items ≡ y.arcs.items → x.sense ≡ y.sense → x.constant ≡ y.constant → AreSame p x y
same_forms p x y nodes arcs sense constant =
    let inner = ap (λ l. supplies_from p l 0 x.nodes.items) arcs ∙ supplies_same p y.arcs.items 0 x.nodes.items y.nodes.items nodes in
    let many : vec_len x.nodes ≡ vec_len y.nodes = omega (arith, x.nodes.ok.0, y.nodes.ok.0, ap length nodes, length-map x.nodes.items sides_of, length-map y.nodes.items sides_of) in
    let own = ap (λ s. written_arcs p s (vec_len x.nodes) x.arcs.items) sense ∙ ap (λ n. written_arcs p y.sense n x.arcs.items) many ∙ ap (written_arcs p y.sense (vec_len y.nodes)) arcs in
    let room = ap (λ l. slack_arcs_from l (vec_len x.nodes) 0 x.nodes.items) arcs ∙ ap (λ n. slack_arcs_from y.arcs.items n 0 x.nodes.items) many
    ∙ rooms_same y.arcs.items (vec_len y.nodes) 0 x.nodes.items y.nodes.items nodes in
    record {
      supplies = ap (λ (l : List ℤ). l ++ neg_ℤ (sum_of l) ∷ []) inner;
      arcs = ap (λ l. l ++ slack_arcs_from x.arcs.items (vec_len x.nodes) 0 x.nodes.items) own ∙ ap (λ l. written_arcs p y.sense (vec_len y.nodes) y.arcs.items ++ l) room;
      numbers = ap (numbers_from p 1) arcs;
      offsets = ap (offsets_of p) arcs;
      constant = ap (λ (k : ℤ). k +ℤ price_of (λ (a : InstArc). a.coefficient) x.arcs.items (offsets_of p x.arcs.items)) constant
          ∙ ap (λ (l : List InstArc). y.constant +ℤ price_of (λ (a : InstArc). a.coefficient) l (offsets_of p l)) arcs;
      sense = sense;
    }

-- the link lines and the problem's lines, by what stands in them
abbrev text_by : Names → ℤ → Sense → List ℕ → List ℤ → List ℤ → List FlowArc → List ℕ
text_by n k s numbers offsets supplies arcs =
    (constant_line k ++ (sign_line s ++ (node_lines 0 (names_in n.nodes) ++ arc_lines numbers offsets (names_in n.arcs)))) ++ problem_text supplies arcs

texts_same : (n p : Names) (k l : ℤ) (s t : Sense) (a b : List ℕ) (f g : List ℤ) (u v : List ℤ) (x y : List FlowArc)
    → n ≡ p → k ≡ l → s ≡ t → a ≡ b → f ≡ g → u ≡ v → x ≡ y → text_by n k s a f u x ≡ text_by p l t b g v y
texts_same n p k l s t a b f g u v x y e1 e2 e3 e4 e5 e6 e7 =
    ap (λ z. text_by z k s a f u x) e1 ∙ ap (λ z. text_by p z s a f u x) e2 ∙ ap (λ z. text_by p l z a f u x) e3 ∙ ap (λ z. text_by p l t z f u x) e4
    ∙ ap (λ z. text_by p l t b z u x) e5 ∙ ap (λ z. text_by p l t b g z x) e6 ∙ ap (text_by p l t b g v) e7

pub one_answer : (lean : Bool) (wanted : Option Name) (m d : List ℕ) (c e : Compiled) → IsBuilt lean wanted m d c → IsBuilt lean wanted m d e → IsOneWith c e
one_answer lean wanted m d c e h k =
    let same : seen_as h.made ≡ seen_as k.made = one_network wanted m d (seen_as h.made) (seen_as k.made) (network_of lean wanted m d c h) (network_of lean wanted m d e k) in
    let form = same_forms (profile_of lean) h.made.instance k.made.instance (ap (λ (n : Network). n.nodes) same) (ap (λ (n : Network). n.arcs) same) (ap (λ (n : Network). n.sense) same) (ap (λ (n : Network). n.constant) same) in
    let names : c.names ≡ e.names = h.names ∙ ap (λ (n : Network). n.names) same ∙ sym k.names in
    let supplies = h.normal.supplies ∙ form.supplies ∙ sym k.normal.supplies in
    let arcs = h.normal.arcs ∙ form.arcs ∙ sym k.normal.arcs in
    let numbers = h.normal.numbers ∙ form.numbers ∙ sym k.normal.numbers in
    let offsets = h.normal.offsets ∙ form.offsets ∙ sym k.normal.offsets in
    let constant = h.normal.constant ∙ form.constant ∙ sym k.normal.constant in
    let sense = h.normal.sense ∙ form.sense ∙ sym k.normal.sense in
    record {
      text = h.text
          ∙ texts_same c.names e.names c.link.constant e.link.constant c.link.sense e.link.sense c.link.numbers.items e.link.numbers.items c.link.offsets.items e.link.offsets.items
          c.problem.supplies.items e.problem.supplies.items c.problem.arcs.items e.problem.arcs.items names constant sense numbers offsets supplies arcs
          ∙ sym k.text;
      supplies = supplies;
      arcs = arcs;
      numbers = numbers;
      offsets = offsets;
      constant = constant;
      sense = sense;
      names = names;
    }

pub solved_as_compiled : (lean : Bool) (wanted : Option Name) (m d : List ℕ) (a : Answer) (c : Compiled) → IsSolved lean wanted m d a → IsBuilt lean wanted m d c → IsOneWith a.compiled c
solved_as_compiled lean wanted m d a c solved compiled = one_answer lean wanted m d a.compiled c solved.compiled compiled
