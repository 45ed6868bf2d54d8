-- The link lines say nothing of a problem, so a compiled text is its problem's.
use Rattle.std.proofs.Common.{◌≡◌, ℕ, suc, ◌+◌, ◌^◌, ◌<◌, ◌==◌, Bool, true, false, ◌&&◌, ◌||◌, if◌then◌else◌, List, [], ◌∷◌, ◌++◌, length, ℤ, pos, negsuc, refl, sym, ap, ◌∙◌, codes, decimal, arith, append_assoc, inl, inr}
use Rattle.std.specs.List.{AllByRecursion, list_all}
use Rattle.std.specs.Fmt.{signed_decimal}
use Rattle.std.proofs.lemmas.Bool.{cases_Bool}
use Rattle.std.proofs.lemmas.Bool.Decides.{nat_tests}
use Rattle.std.proofs.lemmas.Int.{ints}
use Rattle.std.proofs.lemmas.List.Elements.{recursion_from_All}
use Rattle.net_lex.specs.Characters.{continues_name}
use Rattle.net_normal.specs.Limits.{IsSized, value_limit, constant_limit}
use Rattle.net_normal.specs.NormalForm.{is_left_out, numbers_from}
use Rattle.net_normal.specs.declared.instance.InstArc.{InstArc}
use Rattle.net_normal.specs.declared.instance.Sense.{Sense}
use Rattle.net_normal.specs.declared.instance.Sense.TheVariants.{Minimise, Maximise}
use Rattle.net_normal.specs.declared.problem.Link.{Link}
use Rattle.net_normal.specs.declared.problem.FlowArc.{FlowArc}
use Rattle.net_normal.specs.declared.profile.Profile.{Profile}
use Rattle.net_dimacs.specs.Problems.{statements_of, IsProblemText, IsOnlyProblem}
use Rattle.net_dimacs.proofs.Comments.{comment_skipped}
use Rattle.net_dimacs.proofs.Decimals.{IsPrintable, IsSolid, solid_decimal}
use Rattle.net_dimacs.proofs.Lists.{all_map, all_append}
use Rattle.net_dimacs.proofs.WrittenLines.{IsPlain}
use Rattle.net_report.specs.Links.{constant_line, sign_line, within_line, in_line, node_line, node_lines, arc_line, arc_lines, link_lines}

abbrev Name : Type 0
Name = List ℕ

abbrev pub Plain : List ℕ → Type 0
Plain bytes = AllByRecursion IsPlain bytes

-- ---- numbers have no line ends

plain_number : (z : ℤ) → IsPrintable z → Plain (signed_decimal z)
plain_number z fit = all_map IsSolid IsPlain (signed_decimal z) (λ b s. record { no_feed = s.no_feed; no_return = s.no_return }) (solid_decimal z fit)

printable_sized : (l : ℕ) (z : ℤ) → l < 2 ^ 127 → IsSized l z → IsPrintable z
printable_sized l (pos n) small h = let b = h.below in omega (arith, ints)
printable_sized l (negsuc n) small h = let b = h.above in omega (arith, ints)

-- ---- the lines

both_true : (s t : Bool) → (s && t) ≡ true → (s ≡ true) × (t ≡ true)
both_true true true e = (refl, refl)
both_true true false e = absurd (let h = e in cc)
both_true false t e = absurd (let h = e in cc)

plain_byte : (b : ℕ) → (b == 10) ≡ false → (b == 13) ≡ false → IsPlain b
plain_byte b p q = record { no_feed = p; no_return = q }

abbrev in_words : ℕ → Bool
in_words b = continues_name b || b == 32

other_than : (b k : ℕ) → in_words k ≡ false → in_words b ≡ true → (b == k) ≡ false
other_than b k not_k is_b =
    elim (cases_Bool (b == k)) [
      | inl e ↦ let same : b ≡ k = grind (arith, nat_tests) in absurd (let h = sym is_b ∙ ap in_words same ∙ not_k in cc)
      | inr e ↦ e
    ]

all_plain : (bytes : List ℕ) → list_all in_words bytes ≡ true → Plain bytes
all_plain [] e = tt
all_plain (b ∷ bytes) e =
    let both = both_true (in_words b) (list_all in_words bytes) e in
    (plain_byte b (other_than b 10 refl both.0) (other_than b 13 refl both.0), all_plain bytes both.1)

plain_or_blank : (b : ℕ) (feed return' : Bool) → (b == 10) ≡ feed → (b == 13) ≡ return' → IsPlain (if feed || return' then 32 else b)
plain_or_blank b true r p q = plain_byte 32 refl refl
plain_or_blank b false true p q = plain_byte 32 refl refl
plain_or_blank b false false p q = plain_byte b p q

-- a name in a line has no line end
plain_name : (bytes : List ℕ) → Plain (in_line bytes)
plain_name [] = tt
plain_name (b ∷ bytes) = (plain_or_blank b (b == 10) (b == 13) refl refl, plain_name bytes)

constant_skipped : (k : ℤ) (rest : List ℕ) → IsPrintable k → statements_of (constant_line k ++ rest) ≡ statements_of rest
constant_skipped k rest fit =
    comment_skipped (constant_line k) (codes "constant " ++ signed_decimal k) rest refl
    (all_append IsPlain (codes "constant ") (signed_decimal k) (all_plain (codes "constant ") refl) (plain_number k fit))

sign_skipped : (sense : Sense) (rest : List ℕ) → statements_of (sign_line sense ++ rest) ≡ statements_of rest
sign_skipped Minimise rest = comment_skipped (sign_line Minimise) (codes "sign 1") rest refl (all_plain (codes "sign 1") refl)
sign_skipped Maximise rest = comment_skipped (sign_line Maximise) (codes "sign -1") rest refl
    (all_append IsPlain (codes "sign ") (codes "-1") (all_plain (codes "sign ") refl) (plain_byte 45 refl refl, all_plain (codes "1") refl))

abbrev spaced : List ℕ → List ℕ → List ℕ
spaced front back = front ++ (32 ∷ back)

spaced_plain : (front back : List ℕ) → Plain front → Plain back → Plain (spaced front back)
spaced_plain front back f b = all_append IsPlain front (32 ∷ back) f (plain_byte 32 refl refl, b)

node_skipped : (n : ℕ) (node_name rest : List ℕ) → n < 2 ^ 128 → statements_of (node_line n node_name ++ rest) ≡ statements_of rest
node_skipped n node_name rest fit =
    let written = in_line node_name in
    comment_skipped (node_line n node_name) (codes "node " ++ spaced (decimal n) written) rest
    (ap (λ (l : List ℕ). codes "c node " ++ l) (sym (append_assoc (decimal n) (32 ∷ written) (10 ∷ []))))
    (all_append IsPlain (codes "node ") (spaced (decimal n) written) (all_plain (codes "node ") refl) (spaced_plain (decimal n) written (plain_number (pos n) fit) (plain_name node_name)))

nodes_skipped : (n : ℕ) (names : List Name) (rest : List ℕ) → n + length names < 2 ^ 128 → statements_of (node_lines n names ++ rest) ≡ statements_of rest
nodes_skipped n [] rest few = refl
nodes_skipped n (m ∷ names) rest few =
    ap statements_of (append_assoc (node_line (n + 1) m) (node_lines (n + 1) names) rest)
    ∙ node_skipped (n + 1) m (node_lines (n + 1) names ++ rest) (omega (arith, few))
    ∙ nodes_skipped (n + 1) names rest (omega (arith, few))

arc_skipped : (n : ℕ) (offset : ℤ) (arc_name rest : List ℕ) → n < 2 ^ 128 → IsPrintable offset → statements_of (arc_line n offset arc_name ++ rest) ≡ statements_of rest
arc_skipped n offset arc_name rest fit fit_offset =
    let written = in_line arc_name in
    let back = spaced (signed_decimal offset) written in
    comment_skipped (arc_line n offset arc_name) (codes "arc " ++ spaced (decimal n) back) rest
    (ap (λ (l : List ℕ). codes "c arc " ++ l)
    (ap (λ (l : List ℕ). decimal n ++ (32 ∷ l)) (sym (append_assoc (signed_decimal offset) (32 ∷ written) (10 ∷ []))) ∙ sym (append_assoc (decimal n) (32 ∷ back) (10 ∷ []))))
    (all_append IsPlain (codes "arc ") (spaced (decimal n) back) (all_plain (codes "arc ") refl)
    (spaced_plain (decimal n) back (plain_number (pos n) fit) (spaced_plain (signed_decimal offset) written (plain_number offset fit_offset) (plain_name arc_name))))

arcs_skipped : (numbers : List ℕ) (offsets : List ℤ) (names : List Name) (rest : List ℕ) → AllByRecursion (λ n. n < 2 ^ 128) numbers → AllByRecursion IsPrintable offsets
    → statements_of (arc_lines numbers offsets names ++ rest) ≡ statements_of rest
arcs_skipped numbers offsets [] rest f o = refl
arcs_skipped [] offsets (m ∷ names) rest f o = refl
arcs_skipped (n ∷ numbers) [] (m ∷ names) rest f o = refl
arcs_skipped (n ∷ numbers) (offset ∷ offsets) (m ∷ names) rest f o =
    ap statements_of (append_assoc (arc_line n offset m) (arc_lines numbers offsets names) rest)
    ∙ arc_skipped n offset m (arc_lines numbers offsets names ++ rest) f.0 o.0
    ∙ arcs_skipped numbers offsets names rest f.1 o.1

pub links_skipped : (link : Link) (nodes arcs : List Name) (rest : List ℕ) → length nodes < 2 ^ 127 → AllByRecursion (λ n. n < 2 ^ 128) link.numbers.items
    → statements_of (link_lines link nodes arcs ++ rest) ≡ statements_of rest
links_skipped link nodes arcs rest few numbers =
    let constant = constant_line link.constant in
    let sign = sign_line link.sense in
    let names = node_lines 0 nodes in
    let last = arc_lines link.numbers.items link.offsets.items arcs in
    let offsets = all_map (IsSized value_limit) IsPrintable link.offsets.items (λ z h. printable_sized value_limit z (omega arith) h) (recursion_from_All (IsSized value_limit) link.offsets.items link.offsets_fit) in
    ap statements_of (append_assoc constant (sign ++ (names ++ last)) rest)
    ∙ constant_skipped link.constant ((sign ++ (names ++ last)) ++ rest) (printable_sized constant_limit link.constant (omega arith) link.constant_fits)
    ∙ ap statements_of (append_assoc sign (names ++ last) rest)
    ∙ sign_skipped link.sense ((names ++ last) ++ rest)
    ∙ ap statements_of (append_assoc names last rest)
    ∙ nodes_skipped 0 nodes (last ++ rest) (omega (arith, few))
    ∙ arcs_skipped link.numbers.items link.offsets.items arcs rest numbers offsets

pub numbers_small : (p : Profile) (k : ℕ) (arcs : List InstArc) → k + length arcs < 2 ^ 128 → AllByRecursion (λ n. n < 2 ^ 128) (numbers_from p k arcs)
numbers_small p k [] h = tt
numbers_small p k (a ∷ arcs) h =
    elim (is_left_out p a) as (λ b. AllByRecursion (λ n. n < 2 ^ 128) (if b then 0 ∷ numbers_from p k arcs else k ∷ numbers_from p (suc k) arcs)) [
      | true ↦ (omega arith, numbers_small p k arcs (omega (arith, h)))
      | false ↦ (omega (arith, h), numbers_small p (suc k) arcs (omega (arith, h)))
    ]

-- what says the same is the same problem's text
pub same_problem : (text other : List ℕ) (supplies : List ℤ) (arcs : List FlowArc) → statements_of text ≡ statements_of other → IsProblemText other supplies arcs → IsProblemText text supplies arcs
same_problem text other supplies arcs e h = record { named = h.named; says = e ∙ h.says; nodes = h.nodes; distinct = h.distinct; supply = h.supply }

pub same_only : (text other : List ℕ) (supplies : List ℤ) (arcs : List FlowArc) → statements_of text ≡ statements_of other → IsOnlyProblem other supplies arcs → IsOnlyProblem text supplies arcs
same_only text other supplies arcs e h = λ s a t. h s a (same_problem other text s a (sym e) t)
