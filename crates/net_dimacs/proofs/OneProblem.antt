-- A text contains at most one problem: its lines determine the counts, the named supplies and the arcs.
use Rattle.std.proofs.Common.{◌≡◌, ◌<◌, ℕ, ◌+◌, List, [], ◌∷◌, ◌++◌, ℤ, pos, refl, sym, ap, ◌∙◌, length, get_or, map, arith}
use Rattle.std.proofs.lemmas.List.{get_or_default, same_lists}
use Rattle.net_normal.specs.declared.problem.FlowArc.{FlowArc}
use Rattle.net_dimacs.specs.declared.problem_line.LineStatement.TheVariants as statements
use Rattle.net_dimacs.specs.Problems.{Named, node_statement, arc_statement, supply_after, IsProblemText}

same_head : {A : Type 0} (x y : A) (xs ys : List A) → x ∷ xs ≡ y ∷ ys → (x ≡ y) × (xs ≡ ys)
same_head x y xs ys e = (cc, cc)

-- equal statements have equal parts
equal_numbers : (n m : ℕ) → pos (n + 1) ≡ pos (m + 1) → n ≡ m
equal_numbers n m e = let k : n + 1 ≡ m + 1 = cc in omega (arith, k)

equal_nodes : (n m : Named) → node_statement n ≡ node_statement m → n ≡ m
equal_nodes n m e =
    let node : n.0 ≡ m.0 = equal_numbers n.0 m.0 cc in
    let supply : n.1 ≡ m.1 = cc in
    λ t. (node t, supply t)

equal_arcs : (a b : FlowArc) → arc_statement a ≡ arc_statement b → a ≡ b
equal_arcs a b e =
    let src : a.src ≡ b.src = equal_numbers a.src b.src cc in
    let dst : a.dst ≡ b.dst = equal_numbers a.dst b.dst cc in
    let low : a.low ≡ b.low = cc in
    let cap : a.cap ≡ b.cap = cc in
    let cost : a.cost ≡ b.cost = cc in
    λ t. record { src = src t; dst = dst t; low = low t; cap = cap t; cost = cost t }

same_arcs : (a b : List FlowArc) → map arc_statement a ≡ map arc_statement b → a ≡ b
same_arcs [] [] e = refl
same_arcs [] (y ∷ b) e = absurd cc
same_arcs (x ∷ a) [] e = absurd cc
same_arcs (x ∷ a) (y ∷ b) e =
    let both = same_head (arc_statement x) (arc_statement y) (map arc_statement a) (map arc_statement b) e in
    let first = equal_arcs x y both.0 in
    let rest = same_arcs a b both.1 in
    λ t. first t ∷ rest t

same_lines : (ns ms : List Named) (a b : List FlowArc) → map node_statement ns ++ map arc_statement a ≡ map node_statement ms ++ map arc_statement b → (ns ≡ ms) × (a ≡ b)
same_lines [] [] a b e = (refl, same_arcs a b e)
same_lines [] (m ∷ ms) [] b e = absurd cc
same_lines [] (m ∷ ms) (x ∷ a) b e = absurd cc
same_lines (n ∷ ns) [] a [] e = absurd cc
same_lines (n ∷ ns) [] a (y ∷ b) e = absurd cc
same_lines (n ∷ ns) (m ∷ ms) a b e =
    let both = same_head (node_statement n) (node_statement m) (map node_statement ns ++ map arc_statement a) (map node_statement ms ++ map arc_statement b) e in
    let first = equal_nodes n m both.0 in
    let rest = same_lines ns ms a b both.1 in
    (λ t. first t ∷ rest.0 t, rest.1)

-- a text contains at most one problem
pub one_problem : (text : List ℕ) (s t : List ℤ) (a b : List FlowArc) → IsProblemText text s a → IsProblemText text t b → (s ≡ t) × (a ≡ b)
one_problem text s t a b p q = (same_lists s t long each, lines_same.1)
  where
    both : (statements.Problem (pos (length s)) (pos (length a)) ≡ statements.Problem (pos (length t)) (pos (length b))) × (map node_statement p.named ++ map arc_statement a ≡ map node_statement q.named ++ map arc_statement b)
    both = same_head _ _ _ _ (sym p.says ∙ q.says)

    long : length s ≡ length t
    long = let e = both.0 in cc

    lines_same : (p.named ≡ q.named) × (a ≡ b)
    lines_same = same_lines p.named q.named a b both.1

    each : (k : ℕ) (d : ℤ) → k < length s → get_or s k d ≡ get_or t k d
    each k d h =
        let there : k < length t = omega (arith, h, long) in
        get_or_default s k d (pos 0) h
        ∙ p.supply k h
        ∙ ap (λ (ns : List Named). supply_after ns k (pos 0)) lines_same.0
        ∙ sym (q.supply k there)
        ∙ get_or_default t k (pos 0) d there
