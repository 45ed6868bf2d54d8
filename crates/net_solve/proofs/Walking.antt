-- A step of the walk up: nothing changes before the next place, since no node is in the forest twice.
use Rattle.std.proofs.Common.{◌≡◌, ◌≢◌, ℕ, ◌<◌, Bool, true, false, cond, List, length, get_or, inl, inr, ℤ, pos, ◌-ℤ◌, ◌≤ℤ◌, ◌<ℤ◌, nat_eq, vec_len, refl, sym, ◌∙◌, ap, subst, eq-eqb, arith}
use Rattle.std.proofs.lemmas.Int.{ints}
use Rattle.std.proofs.lemmas.Bool.{cases_lt, ne_eqb}
use Rattle.net_normal.specs.declared.problem.FlowArc.{FlowArc}
use Rattle.net_normal.specs.declared.problem.Problem.{Problem}
use Rattle.net_solve.specs.Pseudoflows.{Moves, arc_at}
use Rattle.net_solve.specs.Forests.{IsForest, IsWalk, Others, joined_at, tail_of, head_of}
use Rattle.net_solve.specs.declared.forest.Joined.{Joined}

-- a node that is neither end keeps its excess
still : (n u v w : ℕ) (d : ℤ) (old new : List ℤ) → Moves n u v d old new → w < n → w ≢ u → w ≢ v → get_or new w (pos 0) ≡ get_or old w (pos 0)
still n u v w d old new moves l a b =
    let here : cond (nat_eq u w) d (pos 0) ≡ pos 0 = ap (λ (t : Bool). cond t d (pos 0)) (ne_eqb u w (λ e. a (sym e))) in
    let there : cond (nat_eq v w) d (pos 0) ≡ pos 0 = ap (λ (t : Bool). cond t d (pos 0)) (ne_eqb v w (λ e. b (sym e))) in
    omega (arith, ints, moves w l, here, there)

-- the end from which the amount goes
given : (n u v : ℕ) (d : ℤ) (old new : List ℤ) → Moves n u v d old new → u < n → u ≢ v → get_or new u (pos 0) ≡ get_or old u (pos 0) -ℤ d
given n u v d old new moves l a =
    let here : cond (nat_eq u u) d (pos 0) ≡ d = ap (λ (t : Bool). cond t d (pos 0)) (eq-eqb u u refl) in
    let there : cond (nat_eq v u) d (pos 0) ≡ pos 0 = ap (λ (t : Bool). cond t d (pos 0)) (ne_eqb v u (λ e. a (sym e))) in
    omega (arith, ints, moves u l, here, there)

-- one arc has two ends: where it leads to v one way, the other way it leads from v
shared : (p q : Bool) (src dst v w x : ℕ) → cond p dst src ≡ v → cond q dst src ≡ w → cond q src dst ≡ x → v ≢ w → v ≢ x → ⊥
shared true true src dst v w x a b c m n = m (sym a ∙ b)
shared true false src dst v w x a b c m n = n (sym a ∙ c)
shared false true src dst v w x a b c m n = n (sym a ∙ c)
shared false false src dst v w x a b c m n = m (sym a ∙ b)

-- so no two nodes came in over one arc
other-arc : (problem : Problem) (flows potentials excess : List ℤ) (all : List Joined) (k m : ℕ) → IsForest problem flows potentials excess all → k < m → m < length all → (joined_at all k).parent < k → (joined_at all m).parent < m → (joined_at all k).index ≢ (joined_at all m).index
other-arc problem flows potentials excess all k m h l inside up over e =
    let a = h.link k (omega (arith, l, inside)) up in
    let b = h.link m inside over in
    let arc = arc_at problem (joined_at all m).index in
    let same : arc_at problem (joined_at all k).index ≡ arc = ap (arc_at problem) e in
    let head = subst (λ (x : FlowArc). head_of (joined_at all k) x ≡ (joined_at all k).node) same a.head in
    let tail = subst (λ (x : FlowArc). tail_of (joined_at all k) x ≡ (joined_at all (joined_at all k).parent).node) same a.tail in
    shared (joined_at all m).forwards (joined_at all k).forwards arc.src arc.dst (joined_at all m).node (joined_at all k).node (joined_at all (joined_at all k).parent).node b.head head tail
    (λ s. h.apart k m l inside (sym s)) (λ s. h.apart (joined_at all k).parent m (omega (arith, up, l)) inside (sym s))

pub walked-next : (problem : Problem) (first now next flows before after potentials : List ℤ) (all : List Joined) (place : ℕ) (d : ℤ) → IsForest problem flows potentials first all → IsWalk problem flows before first now all place
    → Moves (vec_len problem.supplies) (joined_at all (joined_at all place).parent).node (joined_at all place).node d now next → Others (joined_at all place).index before after
    → pos 0 <ℤ d → get_or now (joined_at all (joined_at all place).parent).node (pos 0) ≤ℤ pos 0
    → IsWalk problem flows after first next all (joined_at all place).parent
walked-next problem first now next flows before after potentials all place d h walk moves others z low =
    let n = vec_len problem.supplies in
    let up = (joined_at all place).parent in
    let l : up < place = walk.not_root in
    let inside : up < length all = omega (arith, l, walk.inside) in
    let u = (joined_at all up).node in
    let v = (joined_at all place).node in
    let same = walk.unchanged up l in
    record {
      inside = inside;
      not_root = elim (cases_lt (joined_at all up).parent up) as (λ _. (joined_at all up).parent < up) [
        | inl m ↦ m
        | inr m ↦
            let own : (joined_at all up).parent ≡ up = omega (arith, m, h.parent up inside) in
            absurd (omega (arith, ints, h.root up inside own, same, low))
      ];
      deficit = omega (arith, ints, given n u v d now next moves (h.node up inside) (h.apart up place l walk.inside), z, low);
      unchanged = λ k m. still n u v (joined_at all k).node d now next moves (h.node k (omega (arith, m, inside))) (h.apart k up m inside) (h.apart k place (omega (arith, m, l)) walk.inside) ∙ walk.unchanged k (omega (arith, m, l));
      same_flow = λ k m over. others (joined_at all k).index (other-arc problem flows potentials first all k place h (omega (arith, m, l)) walk.inside over walk.not_root) ∙ walk.same_flow k (omega (arith, m, l)) over;
    }

-- the walk begins at a deficit
pub walk-start : (problem : Problem) (flows potentials excess : List ℤ) (all : List Joined) (place : ℕ) → IsForest problem flows potentials excess all → place < length all → get_or excess (joined_at all place).node (pos 0) <ℤ pos 0 → IsWalk problem flows flows excess excess all place
walk-start problem flows potentials excess all place h inside low = record {
  inside = inside;
  not_root = elim (cases_lt (joined_at all place).parent place) as (λ _. (joined_at all place).parent < place) [
    | inl m ↦ m
    | inr m ↦ absurd (omega (arith, ints, h.root place inside (omega (arith, m, h.parent place inside)), low))
  ];
  deficit = low;
  unchanged = λ k l. refl;
  same_flow = λ k l m. refl;
}

-- what is known of the step up from a place
pub record Step (problem : Problem) (all : List Joined) (place : ℕ) (d : ℤ) (now next : List ℤ) : Type 0 where
  pub up : (joined_at all (joined_at all place).parent).node < vec_len problem.supplies
  pub apart : (joined_at all (joined_at all place).parent).node ≢ (joined_at all place).node
  pub moves : Moves (vec_len problem.supplies) (joined_at all (joined_at all place).parent).node (joined_at all place).node d now next

pub step-up : (problem : Problem) (flows before potentials first now next : List ℤ) (all : List Joined) (place : ℕ) (d : ℤ) → IsForest problem flows potentials first all → IsWalk problem flows before first now all place
    → Moves (vec_len problem.supplies) (tail_of (joined_at all place) (arc_at problem (joined_at all place).index)) (joined_at all place).node d now next → Step problem all place d now next
step-up problem flows before potentials first now next all place d h walk moves =
    let up = (joined_at all place).parent in
    let l : up < place = walk.not_root in
    let link = h.link place walk.inside l in
    record {
      up = h.node up (omega (arith, l, walk.inside));
      apart = h.apart up place l walk.inside;
      moves = subst (λ (u : ℕ). Moves (vec_len problem.supplies) u (joined_at all place).node d now next) link.tail moves;
    }
