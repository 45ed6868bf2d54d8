-- A growth: how the forest with its set of nodes and the potentials stay as they are said to be.
use Rattle.std.proofs.Common.{◌≡◌, ◌≢◌, ℕ, zero, suc, ◌+◌, ◌*◌, ◌^◌, ◌<◌, ◌≤◌, Bool, true, false, not, ◌&&◌, ◌||◌, cond, List, [], ◌∷◌, ◌++◌, length, get_or, set, replicate, inl, inr, ◌⊎◌, ℤ, pos, neg_ℤ, ◌+ℤ◌, ◌-ℤ◌, ◌≤ℤ◌, ◌<ℤ◌, vec_len, refl, sym, ◌∙◌, ap, subst, arith}
use Rattle.std.proofs.lemmas.Int.{ints}
use Rattle.std.proofs.lemmas.Bool.{cases_eq}
use Rattle.std.proofs.lemmas.List.{get_or-set_same, get_or-set_other, get_or-replicate, length-set, length-replicate}
use Rattle.net_normal.specs.Limits.{IsSized, IsFlowArcOf}
use Rattle.net_normal.specs.Flows.{IsWithinCapacity}
use Rattle.net_normal.specs.declared.problem.FlowArc.{FlowArc}
use Rattle.net_normal.specs.declared.problem.Problem.{Problem}
use Rattle.net_check.specs.Certificates.{IsComplementary, is_in, reduced_cost}
use Rattle.net_solve.specs.Pseudoflows.{IsUnderWay, IsSlackArc, AreFromTo, no_arc, arc_at}
use Rattle.net_solve.specs.Forests.{IsForest, IsLink, IsGrown, HasSunk, outside, no_join, joined_at, tail_of, head_of, level_limit, depth_limit}
use Rattle.net_solve.specs.declared.forest.Joined.{Joined}
use Rattle.net_solve.proofs.PushedFlow.{pushed, pushed-old, pushed-new}
use Rattle.net_check.proofs.Pairs.{zipped-at}
use Rattle.net_solve.proofs.ForestSinking.{Sinks, cases_leℤ}

-- one node fewer outside
pub outside-set : (flags : List Bool) (v : ℕ) → v < length flags → is_in flags v ≡ false → 1 + outside (set flags v true) ≡ outside flags
outside-set [] v l e = absurd (omega (arith, l))
outside-set (true ∷ flags) zero l e = cc
outside-set (false ∷ flags) zero l e = refl
outside-set (true ∷ flags) (suc v) l e = outside-set flags v (omega (arith, l)) e
outside-set (false ∷ flags) (suc v) l e = omega (arith, outside-set flags v (omega (arith, l)) e)

outside-all : (n : ℕ) → outside (replicate n false) ≡ n
outside-all zero = refl
outside-all (suc n) = omega (arith, outside-all n)

-- one more node in the set
pub in-old : (flags : List Bool) (u v : ℕ) → u < length flags → is_in flags v ≡ true → is_in (set flags u true) v ≡ true
in-old flags u v l e = elim (cases_eq u v) as (λ _. is_in (set flags u true) v ≡ true) [
  | inl same ↦ subst (λ (w : ℕ). is_in (set flags u true) w ≡ true) same (get_or-set_same flags u true false l)
  | inr other ↦ get_or-set_other flags u v true false (λ s. other (sym s)) ∙ e
]

pub in-new : (flags : List Bool) (u v : ℕ) → v ≢ u → is_in (set flags u true) v ≡ true → is_in flags v ≡ true
in-new flags u v other e = sym (get_or-set_other flags u v true false other) ∙ e

pub out-old : (flags : List Bool) (u v : ℕ) → u < length flags → is_in (set flags u true) v ≡ false → is_in flags v ≡ false
out-old flags u v l e = elim (cases_eq u v) as (λ _. is_in flags v ≡ false) [
  | inl same ↦
      let here : is_in (set flags u true) v ≡ true = subst (λ (w : ℕ). is_in (set flags u true) w ≡ true) same (get_or-set_same flags u true false l) in
      cc
  | inr other ↦ sym (get_or-set_other flags u v true false (λ s. other (sym s))) ∙ e
]

-- a node that is out is another than one that is in
pub differ : (flags : List Bool) (u v : ℕ) → is_in flags u ≡ true → is_in flags v ≡ false → u ≢ v
differ flags u v e f same = let g : is_in flags u ≡ is_in flags v = ap (is_in flags) same in cc

-- what an arc that leads out says, by the side of its source
pub record LeadsOut (p q : Bool) (low cap flow r depth : ℤ) : Type 0 where
  pub apart : q ≡ not p
  pub some : pos 0 ≤ℤ depth
  pub is : depth ≡ cond p r (neg_ℤ r)
  pub room : pos 0 <ℤ cond p (cap -ℤ flow) (flow -ℤ low)

below : (x y : ℤ) → x ≤ℤ y → x ≢ y → x <ℤ y
below x y l other = elim (cases_leℤ y x) as (λ _. x <ℤ y) [ inl m ↦ absurd (other (omega (arith, ints, l, m))) | inr m ↦ m ]

none-less : (x : ℤ) → (x <ℤ pos 0 → ⊥) → pos 0 ≤ℤ x
none-less x h = elim (cases_leℤ (pos 0) x) as (λ _. pos 0 ≤ℤ x) [ inl m ↦ m | inr m ↦ absurd (h m) ]

pub leads-out : (p q : Bool) (low cap flow r depth : ℤ) → ((p && not q) || (q && not p)) ≡ true → ((p && not q) ≡ true → (flow ≢ cap) × (depth ≡ r)) → ((q && not p) ≡ true → (flow ≢ low) × (depth ≡ neg_ℤ r))
    → (pos 0 <ℤ r → flow ≡ low) → (r <ℤ pos 0 → flow ≡ cap) → low ≤ℤ flow → flow ≤ℤ cap → LeadsOut p q low cap flow r depth
leads-out true true low cap flow r depth crosses out into positive negative above under = cc
leads-out false false low cap flow r depth crosses out into positive negative above under = cc
leads-out true false low cap flow r depth crosses out into positive negative above under =
    let way = out refl in
    let room = below flow cap under way.0 in
    record { apart = refl; some = none-less depth (λ l. way.0 (negative (omega (arith, ints, l, way.1)))); is = way.1; room = omega (arith, ints, room) }
leads-out false true low cap flow r depth crosses out into positive negative above under =
    let way = into refl in
    let room = below low flow above (λ e. way.0 (sym e)) in
    record { apart = refl; some = none-less depth (λ l. way.0 (positive (omega (arith, ints, l, way.1)))); is = way.1; room = omega (arith, ints, room) }

pub tail-in : (flags : List Bool) (b : Bool) (src dst : ℕ) → b ≡ is_in flags src → is_in flags dst ≡ not (is_in flags src) → is_in flags (cond b src dst) ≡ true
tail-in flags true src dst e h = sym e
tail-in flags false src dst e h = h ∙ ap not (sym e)

pub head-out : (flags : List Bool) (b : Bool) (src dst : ℕ) → b ≡ is_in flags src → is_in flags dst ≡ not (is_in flags src) → is_in flags (cond b dst src) ≡ false
head-out flags true src dst e h = h ∙ ap not (sym e)
head-out flags false src dst e h = sym e

-- the arc is level once the set has sunk
pub now-level : (p q : Bool) (cost os od ns nd depth : ℤ) → q ≡ not p → depth ≡ cond p ((cost +ℤ os) -ℤ od) (neg_ℤ ((cost +ℤ os) -ℤ od)) → ns ≡ os -ℤ cond p depth (pos 0) → nd ≡ od -ℤ cond q depth (pos 0) → (cost +ℤ ns) -ℤ nd ≡ pos 0
now-level true true cost os od ns nd depth apart is s d = cc
now-level false false cost os od ns nd depth apart is s d = cc
now-level true false cost os od ns nd depth apart is s d = omega (arith, ints, is, s, d)
now-level false true cost os od ns nd depth apart is s d = omega (arith, ints, is, s, d)

-- how far it sinks
pub depth-upto : (b : Bool) (potentials : List ℤ) (src dst : ℕ) (cost depth : ℤ) → IsSized (10 ^ 12) cost
    → depth ≡ cond b ((cost +ℤ get_or potentials src (pos 0)) -ℤ get_or potentials dst (pos 0)) (neg_ℤ ((cost +ℤ get_or potentials src (pos 0)) -ℤ get_or potentials dst (pos 0)))
    → depth ≤ℤ ((pos (10 ^ 12) +ℤ get_or potentials (cond b src dst) (pos 0)) -ℤ get_or potentials (cond b dst src) (pos 0))
depth-upto true potentials src dst cost depth small is = omega (arith, ints, small.below, is)
depth-upto false potentials src dst cost depth small is = omega (arith, ints, small.above, is)

-- a level arc leads to a potential that is near
pub near : (b : Bool) (potentials : List ℤ) (src dst : ℕ) (cost : ℤ) → IsSized (10 ^ 12) cost → (cost +ℤ get_or potentials src (pos 0)) -ℤ get_or potentials dst (pos 0) ≡ pos 0
    → get_or potentials (cond b dst src) (pos 0) ≤ℤ (get_or potentials (cond b src dst) (pos 0) +ℤ pos (10 ^ 12))
near true potentials src dst cost small level = omega (arith, ints, small.below, level)
near false potentials src dst cost small level = omega (arith, ints, small.above, level)

-- both ends of an arc sink together
pub still-level : (b : Bool) (flags : List Bool) (src dst : ℕ) (cost os od ns nd depth : ℤ) → is_in flags (cond b src dst) ≡ true → is_in flags (cond b dst src) ≡ true
    → ns ≡ os -ℤ cond (is_in flags src) depth (pos 0) → nd ≡ od -ℤ cond (is_in flags dst) depth (pos 0) → (cost +ℤ os) -ℤ od ≡ pos 0 → (cost +ℤ ns) -ℤ nd ≡ pos 0
still-level b flags src dst cost os od ns nd depth tail head s d level =
    let both = two b src dst tail head in
    let here : ns ≡ os -ℤ depth = s ∙ ap (λ (t : Bool). os -ℤ cond t depth (pos 0)) both.0 in
    let there : nd ≡ od -ℤ depth = d ∙ ap (λ (t : Bool). od -ℤ cond t depth (pos 0)) both.1 in
    omega (arith, ints, here, there, level)
  where
    two : (b : Bool) (src dst : ℕ) → is_in flags (cond b src dst) ≡ true → is_in flags (cond b dst src) ≡ true → (is_in flags src ≡ true) × (is_in flags dst ≡ true)
    two true src dst h k = (h, k)
    two false src dst h k = (k, h)

lower-level : (n : ℕ) (flags : List Bool) (depth : ℤ) (old new : List ℤ) (j : Joined) (arc : FlowArc) → IsFlowArcOf n arc → Sinks n flags depth old new → is_in flags (tail_of j arc) ≡ true → is_in flags (head_of j arc) ≡ true → reduced_cost old arc ≡ pos 0 → reduced_cost new arc ≡ pos 0
lower-level n flags depth old new j arc fits sinks tail head level =
    still-level j.forwards flags arc.src arc.dst arc.cost _ _ _ _ depth tail head (sinks arc.src fits.src) (sinks arc.dst fits.dst) level

-- a forest stays one while its nodes sink
pub lowered-forest : (problem : Problem) (flows old new excess : List ℤ) (flags : List Bool) (all : List Joined) (depth : ℤ) → IsForest problem flows old excess all → ((k : ℕ) → k < length all → is_in flags (joined_at all k).node ≡ true)
    → Sinks (vec_len problem.supplies) flags depth old new → IsForest problem flows new excess all
lowered-forest problem flows old new excess flags all depth h members sinks = record {
  node = h.node;
  parent = h.parent;
  root = h.root;
  link = λ k l m.
      let link = h.link k l m in
      let j = joined_at all k in
      let arc = arc_at problem j.index in
      record {
        index = link.index;
        level = lower-level (vec_len problem.supplies) flags depth old new j arc (problem.arcs_fit j.index no_arc (omega (arith, link.index, problem.arcs.ok.0))) sinks
            (ap (is_in flags) link.tail ∙ members j.parent (omega (arith, l, m))) (ap (is_in flags) link.head ∙ members k l) link.level;
        tail = link.tail;
        head = link.head;
        room = link.room;
      };
  apart = h.apart;
}

-- in the set or not
sinks-in : (flags : List Bool) (v : ℕ) (depth o n : ℤ) → is_in flags v ≡ true → n ≡ o -ℤ cond (is_in flags v) depth (pos 0) → n ≡ o -ℤ depth
sinks-in flags v depth o n e h = h ∙ ap (λ (t : Bool). o -ℤ cond t depth (pos 0)) e

sinks-out : (flags : List Bool) (v : ℕ) (depth o n : ℤ) → is_in flags v ≡ false → n ≡ o -ℤ cond (is_in flags v) depth (pos 0) → n ≡ o
sinks-out flags v depth o n e h = let zero : n ≡ o -ℤ pos 0 = h ∙ ap (λ (t : Bool). o -ℤ cond t depth (pos 0)) e in omega (arith, ints, zero)

cases-in : (b : Bool) → (b ≡ true) ⊎ (b ≡ false)
cases-in true = inl refl
cases-in false = inr refl

pub lowered-sunk : (flags : List Bool) (nodes : ℕ) (sunk depth : ℤ) (old new : List ℤ) → HasSunk old flags nodes sunk → Sinks (length flags) flags depth old new → pos 0 ≤ℤ depth → (sunk +ℤ depth) ≤ℤ pos (depth_limit nodes) → HasSunk new flags nodes (sunk +ℤ depth)
lowered-sunk flags nodes sunk depth old new h sinks some deep = record {
  some = omega (arith, ints, h.some, some);
  deep = deep;
  low = λ v l. elim (cases-in (is_in flags v)) as (λ _. pos 0 ≤ℤ (get_or new v (pos 0) +ℤ (sunk +ℤ depth))) [
    | inl e ↦ omega (arith, ints, sinks-in flags v depth _ _ e (sinks v l), h.low v l)
    | inr e ↦ omega (arith, ints, sinks-out flags v depth _ _ e (sinks v l), h.low v l, some)
  ];
  free = λ v l e. let f = h.free v l e in let s = sinks-out flags v depth _ _ e (sinks v l) in (omega (arith, ints, s, f.0), omega (arith, ints, s, f.1));
  high = λ v l e. omega (arith, ints, sinks-in flags v depth _ _ e (sinks v l), h.high v l e);
}

pub joined-sunk : (flags : List Bool) (nodes : ℕ) (sunk : ℤ) (potentials : List ℤ) (u v : ℕ) → HasSunk potentials flags nodes sunk → v < length flags → u < length flags → is_in flags u ≡ true → get_or potentials v (pos 0) ≤ℤ (get_or potentials u (pos 0) +ℤ pos (10 ^ 12)) → HasSunk potentials (set flags v true) (nodes + 1) sunk
joined-sunk flags nodes sunk potentials u v h l m e upto =
    let same = length-set flags v true in
    record {
      some = h.some;
      deep = omega (arith, ints, h.deep);
      low = λ w k. h.low w (omega (arith, k, same));
      free = λ w k f. h.free w (omega (arith, k, same)) (out-old flags v w l f);
      high = λ w k f. elim (cases_eq w v) as (λ _. (get_or potentials w (pos 0) +ℤ sunk) ≤ℤ pos (level_limit + 10 ^ 12 * (nodes + 1))) [
        | inl is ↦ subst (λ (x : ℕ). (get_or potentials x (pos 0) +ℤ sunk) ≤ℤ pos (level_limit + 10 ^ 12 * (nodes + 1))) (sym is) (omega (arith, ints, upto, h.high u m e))
        | inr other ↦ omega (arith, ints, h.high w (omega (arith, k, same)) (in-new flags v w other f))
      ];
    }

length-more : (xs : List Joined) (x : Joined) → length (xs ++ x ∷ []) ≡ length xs + 1
length-more [] x = refl
length-more (y ∷ xs) x = omega (arith, length-more xs x)

-- one more node, over an arc out of the set
pub joined-forest : (problem : Problem) (flows potentials excess : List ℤ) (flags : List Bool) (all : List Joined) (j : Joined) → IsForest problem flows potentials excess all → ((k : ℕ) → k < length all → is_in flags (joined_at all k).node ≡ true)
    → IsLink problem flows potentials all j → j.parent < length all → j.node < vec_len problem.supplies → is_in flags j.node ≡ false → IsForest problem flows potentials excess (all ++ j ∷ [])
joined-forest problem flows potentials excess flags all j h members link up inside out =
    let more = all ++ j ∷ [] in
    let m = length all in
    let keeps : (x : Joined) → x.parent < m → IsLink problem flows potentials all x → IsLink problem flows potentials more x
    = λ x l k. record { index = k.index; level = k.level; tail = k.tail ∙ ap (λ (y : Joined). y.node) (sym (pushed-old all j no_join x.parent l)); head = k.head; room = k.room } in
    record {
      node = λ k l. pushed (λ k x. x.node < vec_len problem.supplies) all j no_join m refl h.node inside k (omega (arith, l, length-more all j));
      parent = λ k l. pushed (λ k x. x.parent ≤ k) all j no_join m refl h.parent (omega (arith, up)) k (omega (arith, l, length-more all j));
      root = λ k l. pushed (λ k x. x.parent ≡ k → pos 0 <ℤ get_or excess x.node (pos 0)) all j no_join m refl h.root (λ e. absurd (omega (arith, up, e))) k (omega (arith, l, length-more all j));
      link = λ k l. pushed (λ k x. x.parent < k → IsLink problem flows potentials more x) all j no_join m refl (λ k l n. keeps (joined_at all k) (omega (arith, l, n)) (h.link k l n)) (λ n. keeps j up link) k (omega (arith, l, length-more all j));
      apart = λ k n l far. pushed (λ n x. (k : ℕ) → k < n → (joined_at more k).node ≢ x.node) all j no_join m refl
          (λ n inside k l e. h.apart k n l inside (ap (λ (y : Joined). y.node) (sym (pushed-old all j no_join k (omega (arith, l, inside)))) ∙ e))
          (λ k l e. differ flags (joined_at all k).node j.node (members k l) out (ap (λ (y : Joined). y.node) (sym (pushed-old all j no_join k l)) ∙ e)) n (omega (arith, far, length-more all j)) k l;
    }

-- what the first way out says
pub record Way (problem : Problem) (flows potentials : List ℤ) (flags : List Bool) (i nodes : ℕ) (sunk depth : ℤ) : Type 0 where
  pub fits : IsFlowArcOf (vec_len problem.supplies) (arc_at problem i)
  pub leads : LeadsOut (is_in flags (arc_at problem i).src) (is_in flags (arc_at problem i).dst) (arc_at problem i).low (arc_at problem i).cap (get_or flows i (pos 0)) (reduced_cost potentials (arc_at problem i)) depth
  pub deep : (sunk +ℤ depth) ≤ℤ pos (depth_limit nodes)

one-of : (b : Bool) (src dst n : ℕ) → src < n → dst < n → cond b dst src < n
one-of true src dst n h k = k
one-of false src dst n h k = h

pub way-of : (problem : Problem) (flows potentials excess : List ℤ) (flags : List Bool) (all : List Joined) (places : List ℕ) (i : ℕ) (depth : ℤ) → IsUnderWay problem flows potentials excess → (h : IsGrown problem flows potentials excess flags all places)
    → i < vec_len problem.arcs → IsSlackArc potentials flags depth (arc_at problem i) (get_or flows i (pos 0)) → Way problem flows potentials flags i (length all) h.sunk depth
way-of problem flows potentials excess flags all places i depth under h l way =
    let arcs = problem.arcs.items in
    let arc = arc_at problem i in
    let n = vec_len problem.supplies in
    let inside : i < length arcs = omega (arith, l, problem.arcs.ok.0) in
    let fits = problem.arcs_fit i no_arc inside in
    let within = zipped-at IsWithinCapacity arcs flows under.capacity i no_arc (pos 0) inside in
    let slack = zipped-at (IsComplementary potentials) arcs flows under.slackness i no_arc (pos 0) inside in
    let leads = leads-out (is_in flags arc.src) (is_in flags arc.dst) arc.low arc.cap (get_or flows i (pos 0)) (reduced_cost potentials arc) depth way.crosses way.out way.into slack.positive slack.negative within.low within.cap in
    let b = is_in flags arc.src in
    let tail = cond b arc.src arc.dst in
    let head = cond b arc.dst arc.src in
    let tail-inside : tail < length flags = omega (arith, one-of b arc.dst arc.src n fits.dst fits.src, h.flags_count) in
    let head-inside : head < length flags = omega (arith, one-of b arc.src arc.dst n fits.src fits.dst, h.flags_count) in
    let upto = depth-upto b potentials arc.src arc.dst arc.cost depth fits.cost leads.is in
    let high = h.has_sunk.high tail tail-inside (tail-in flags b arc.src arc.dst refl leads.apart) in
    let free = h.has_sunk.free head head-inside (head-out flags b arc.src arc.dst refl leads.apart) in
    record { fits = fits; leads = leads; deep = omega (arith, ints, upto, high, free.0) }

placed-more : (n : ℕ) (flags : List Bool) (all : List Joined) (places : List ℕ) (j : Joined) → length flags ≡ n → length places ≡ n → j.node < n
    → ((v : ℕ) → is_in flags v ≡ true → (get_or places v 0 < length all) × ((joined_at all (get_or places v 0)).node ≡ v))
    → (v : ℕ) → is_in (set flags j.node true) v ≡ true → (get_or (set places j.node (length all)) v 0 < length (all ++ j ∷ [])) × ((joined_at (all ++ j ∷ []) (get_or (set places j.node (length all)) v 0)).node ≡ v)
placed-more n flags all places j e f inside h v is = elim (cases_eq j.node v) as (λ _. (get_or (set places j.node (length all)) v 0 < length (all ++ j ∷ [])) × ((joined_at (all ++ j ∷ []) (get_or (set places j.node (length all)) v 0)).node ≡ v)) [
  | inl same ↦
      let at : get_or (set places j.node (length all)) v 0 ≡ length all = subst (λ (w : ℕ). get_or (set places j.node (length all)) w 0 ≡ length all) same (get_or-set_same places j.node (length all) 0 (omega (arith, f, inside))) in
      (omega (arith, at, length-more all j), ap (λ (k : ℕ). (joined_at (all ++ j ∷ []) k).node) at ∙ ap (λ (x : Joined). x.node) (pushed-new all j no_join (length all) refl) ∙ same)
  | inr other ↦
      let at : get_or (set places j.node (length all)) v 0 ≡ get_or places v 0 = get_or-set_other places j.node v (length all) 0 (λ s. other (sym s)) in
      let old = h v (in-new flags j.node v (λ s. other (sym s)) is) in
      (omega (arith, at, old.0, length-more all j), ap (λ (k : ℕ). (joined_at (all ++ j ∷ []) k).node) at ∙ ap (λ (x : Joined). x.node) (pushed-old all j no_join (get_or places v 0) old.0) ∙ old.1)
]

-- how the new node came in
pub record Linked (problem : Problem) (flags : List Bool) (places : List ℕ) (j : Joined) : Type 0 where
  pub index : j.index < vec_len problem.arcs
  pub forwards : j.forwards ≡ is_in flags (arc_at problem j.index).src
  pub node : head_of j (arc_at problem j.index) ≡ j.node
  pub parent : j.parent ≡ get_or places (tail_of j (arc_at problem j.index)) 0

-- after a way out, the new node is outside, and the arc to it a link
pub record Links (problem : Problem) (flows new : List ℤ) (flags : List Bool) (all : List Joined) (j : Joined) : Type 0 where
  pub inside : j.node < vec_len problem.supplies
  pub out : is_in flags j.node ≡ false
  pub up : j.parent < length all
  pub tail : is_in flags (tail_of j (arc_at problem j.index)) ≡ true
  pub tail_inside : tail_of j (arc_at problem j.index) < vec_len problem.supplies
  pub link : IsLink problem flows new all j
  pub near_by : get_or new j.node (pos 0) ≤ℤ (get_or new (tail_of j (arc_at problem j.index)) (pos 0) +ℤ pos (10 ^ 12))

pub links-of : (problem : Problem) (flows old new excess : List ℤ) (flags : List Bool) (all : List Joined) (places : List ℕ) (j : Joined) (sunk depth : ℤ) → IsGrown problem flows old excess flags all places → Way problem flows old flags j.index (length all) sunk depth
    → Sinks (vec_len problem.supplies) flags depth old new → Linked problem flags places j → Links problem flows new flags all j
links-of problem flows old new excess flags all places j sunk depth h way sinks linked =
    let arc = arc_at problem j.index in
    let n = vec_len problem.supplies in
    let b = j.forwards in
    let fits = way.fits in
    let leads = way.leads in
    let tail = tail-in flags b arc.src arc.dst linked.forwards leads.apart in
    let place = h.placed (cond b arc.src arc.dst) tail in
    let level : reduced_cost new arc ≡ pos 0
    = now-level (is_in flags arc.src) (is_in flags arc.dst) arc.cost (get_or old arc.src (pos 0)) (get_or old arc.dst (pos 0)) (get_or new arc.src (pos 0)) (get_or new arc.dst (pos 0)) depth leads.apart leads.is (sinks arc.src fits.src) (sinks arc.dst fits.dst) in
    record {
      inside = subst (λ (v : ℕ). v < n) linked.node (one-of b arc.src arc.dst n fits.src fits.dst);
      out = ap (is_in flags) (sym linked.node) ∙ head-out flags b arc.src arc.dst linked.forwards leads.apart;
      up = omega (arith, linked.parent, place.0);
      tail = tail;
      tail_inside = one-of b arc.dst arc.src n fits.dst fits.src;
      link = record {
        index = linked.index;
        level = level;
        tail = sym (ap (λ (k : ℕ). (joined_at all k).node) linked.parent ∙ place.1);
        head = linked.node;
        room = subst (λ (t : Bool). pos 0 <ℤ cond t (arc.cap -ℤ get_or flows j.index (pos 0)) (get_or flows j.index (pos 0) -ℤ arc.low)) (sym linked.forwards) leads.room;
      };
      near_by = subst (λ (v : ℕ). get_or new v (pos 0) ≤ℤ (get_or new (cond b arc.src arc.dst) (pos 0) +ℤ pos (10 ^ 12))) linked.node (near b new arc.src arc.dst arc.cost fits.cost level);
    }

pub grown-more : (problem : Problem) (flows old new excess : List ℤ) (flags : List Bool) (all : List Joined) (places : List ℕ) (j : Joined) (depth : ℤ) → (h : IsGrown problem flows old excess flags all places) → Way problem flows old flags j.index (length all) h.sunk depth
    → Sinks (vec_len problem.supplies) flags depth old new → Links problem flows new flags all j → IsGrown problem flows new excess (set flags j.node true) (all ++ j ∷ []) (set places j.node (length all))
grown-more problem flows old new excess flags all places j depth h way sinks links =
    let n = vec_len problem.supplies in
    let more = length-more all j in
    let node : j.node < length flags = omega (arith, links.inside, h.flags_count) in
    let lowered = lowered-sunk flags (length all) h.sunk depth old new h.has_sunk (λ v l. sinks v (omega (arith, l, h.flags_count))) way.leads.some way.deep in
    record {
      flags_count = length-set flags j.node true ∙ h.flags_count;
      places_count = length-set places j.node (length all) ∙ h.places_count;
      counted = omega (arith, more, outside-set flags j.node node links.out, h.counted);
      forest = joined-forest problem flows new excess flags all j (lowered-forest problem flows old new excess flags all depth h.forest h.members sinks) h.members links.link links.up links.inside links.out;
      some = omega (arith, more);
      first = subst (λ (x : Joined). pos 0 <ℤ get_or excess x.node (pos 0)) (sym (pushed-old all j no_join 0 h.some)) h.first;
      members = λ k l. pushed (λ k x. is_in (set flags j.node true) x.node ≡ true) all j no_join (length all) refl (λ k m. in-old flags j.node (joined_at all k).node node (h.members k m)) (get_or-set_same flags j.node true false node) k (omega (arith, l, more));
      placed = placed-more n flags all places j h.flags_count h.places_count links.inside h.placed;
      sunk = h.sunk +ℤ depth;
      has_sunk = subst (λ (m : ℕ). HasSunk new (set flags j.node true) m (h.sunk +ℤ depth)) (sym more) (joined-sunk flags (length all) (h.sunk +ℤ depth) new (tail_of j (arc_at problem j.index)) j.node lowered node (omega (arith, links.tail_inside, h.flags_count)) links.tail links.near_by);
    }

-- numbers fit
pub sunk-sized : (flags : List Bool) (nodes : ℕ) (sunk : ℤ) (potentials : List ℤ) → nodes ≤ 20000 → HasSunk potentials flags nodes sunk → (v : ℕ) → v < length flags → IsSized (10 ^ 18) (get_or potentials v (pos 0))
sunk-sized flags nodes sunk potentials few h v l = record {
  above = omega (arith, ints, h.low v l, h.deep, few);
  below = elim (cases-in (is_in flags v)) as (λ _. get_or potentials v (pos 0) ≤ℤ pos (10 ^ 18)) [
    | inl e ↦ omega (arith, ints, h.high v l e, h.some, few)
    | inr e ↦ omega (arith, ints, (h.free v l e).1)
  ];
}

pub depth-sized : (nodes : ℕ) (sunk depth : ℤ) → nodes ≤ 20000 → pos 0 ≤ℤ sunk → pos 0 ≤ℤ depth → (sunk +ℤ depth) ≤ℤ pos (depth_limit nodes) → IsSized (10 ^ 18) depth
depth-sized nodes sunk depth few h k l = record { above = omega (arith, ints, k); below = omega (arith, ints, h, l, few) }

-- a forest of one node
pub alone-is : (n root v : ℕ) → root < n → is_in (set (replicate n false) root true) v ≡ true → root ≡ v
alone-is n root v l e = elim (cases_eq root v) as (λ _. root ≡ v) [
  | inl same ↦ same
  | inr other ↦ let out : is_in (replicate n false) v ≡ true = in-new (replicate n false) root v (λ s. other (sym s)) e in absurd (none n v out)
]
  where
    none : (n v : ℕ) → is_in (replicate n false) v ≡ true → ⊥
    none zero v e = cc
    none (suc n) zero e = cc
    none (suc n) (suc v) e = none n v e

zeros : (n v : ℕ) → ◌≡◌ {A = ℕ} (get_or (replicate n 0) v 0) 0
zeros zero v = refl
zeros (suc n) zero = refl
zeros (suc n) (suc v) = zeros n v

pub grown-first : (problem : Problem) (flows potentials excess : List ℤ) (root : ℕ) → root < vec_len problem.supplies → AreFromTo level_limit potentials → length potentials ≡ vec_len problem.supplies → pos 0 <ℤ get_or excess root (pos 0)
    → IsGrown problem flows potentials excess (set (replicate (vec_len problem.supplies) false) root true) ((record { node = root; parent = 0; index = 0; forwards = false }) ∷ []) (replicate (vec_len problem.supplies) 0)
grown-first problem flows potentials excess root l small count some =
    let n = vec_len problem.supplies in
    let none = replicate n false in
    let flags = set none root true in
    let long : length none ≡ n = length-replicate n false in
    let same : length flags ≡ n = length-set none root true ∙ long in
    let here : is_in none root ≡ false = get_or-replicate n root false false l in
    let one : Joined = record { node = root; parent = 0; index = 0; forwards = false } in
    record {
      flags_count = same;
      places_count = length-replicate n 0;
      counted = omega (arith, outside-set none root (omega (arith, l, long)) here, outside-all n);
      forest = record {
        node = λ k m. first (λ x. x.node < n) one k m l;
        parent = λ k m. first (λ x. x.parent ≤ k) one k m (omega arith);
        root = λ k m e. first (λ x. pos 0 <ℤ get_or excess x.node (pos 0)) one k m some;
        link = λ k m e. absurd (omega (arith, m, e));
        apart = λ k m e f. absurd (omega (arith, e, f));
      };
      some = omega arith;
      first = some;
      members = λ k m. first (λ x. is_in flags x.node ≡ true) one k m (get_or-set_same none root true false (omega (arith, l, long)));
      placed = λ v e. (omega (arith, zeros n v), ap (λ (k : ℕ). (joined_at (one ∷ []) k).node) (zeros n v) ∙ alone-is n root v l e);
      sunk = pos 0;
      has_sunk = record {
        some = omega (arith, ints);
        deep = omega (arith, ints);
        low = λ v m. let s = small v (omega (arith, m, same, count)) in omega (arith, ints, s.0);
        free = λ v m e. small v (omega (arith, m, same, count));
        high = λ v m e. let s = small v (omega (arith, m, same, count)) in omega (arith, ints, s.1);
      };
    }
  where
    first : (P : Joined → Type 0) (x : Joined) (k : ℕ) → k < length (x ∷ []) → P x → P (joined_at (x ∷ []) k)
    first P x zero m p = p
    first P x (suc k) m p = absurd (omega (arith, m))
