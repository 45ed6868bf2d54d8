-- The pass over the arcs of a network: what is made so far, with what the arcs to come will make, is what all arcs make.
use Rattle.std.proofs.Common.{◌≡◌, ℕ, suc, ◌+◌, ◌*◌, ◌^◌, ◌<◌, ◌≤◌, Bool, true, false, cond, List, [], ◌∷◌, ◌++◌, length, drop, get_or, ℤ, pos, ◌+ℤ◌, ◌-ℤ◌, ◌*ℤ◌, vec_len, All, refl, sym, ◌∙◌, ap, subst, arith, append_assoc, append-nil, length-append, replicate}
use Rattle.std.proofs.lemmas.Int.{ints}
use Rattle.std.proofs.Math.Seq.{drop-cons}
use Rattle.std.proofs.Math.ListN.{length-replicate}
use Rattle.std.proofs.lemmas.List.{get_or-replicate}
use Rattle.std.proofs.lemmas.Grind.{common_steps}
use Rattle.net_normal.specs.Limits.{IsSized, IsArcOf, value_limit, constant_limit}
use Rattle.net_normal.specs.Sums.{price_of}
use Rattle.net_normal.specs.Assignments.{enters, leaves}
use Rattle.net_normal.specs.NormalForm.{offset_of, offsets_of, is_left_out, numbers_from, flow_arc_of, written_arcs, least_inflow, most_inflow, shift_of, constant_of}
use Rattle.net_normal.specs.NodeSums.{AreSized, AreSumsOf, no_sums, entered, left, counted_head, counted_tail, CountsArc}
use Rattle.net_normal.specs.declared.instance.Instance.{Instance}
use Rattle.net_normal.specs.declared.instance.InstArc.{InstArc}
use Rattle.net_normal.specs.declared.problem.FlowArc.{FlowArc}
use Rattle.net_normal.specs.declared.node_sums.NodeSums.{NodeSums}
use Rattle.net_normal.specs.declared.arc_part.ArcPart.{ArcPart}
use Rattle.net_normal.specs.declared.profile.Profile.{Profile}
use Rattle.net_normal.proofs.WholeNumbers.{sized-mul}
use Rattle.net_normal.proofs.Sizes.{offset_sized}

-- a node's sums lack only the arcs to come
pub record LackOnly (p : Profile) (rest all : List InstArc) (v : ℕ) (sums : NodeSums) : Type 0 where
  pub least : sums.least +ℤ least_inflow rest v ≡ least_inflow all v
  pub most : sums.most +ℤ most_inflow rest v ≡ most_inflow all v
  pub shift : sums.shift +ℤ shift_of p rest v ≡ shift_of p all v

-- what the next arc adds to each sum
counted_least : (profile : Profile) (p q : Bool) (a : InstArc) (s : NodeSums) → (let at_head : NodeSums = cond p (entered profile a s) s in cond q (left profile a at_head) at_head).least ≡ (s.least +ℤ cond p a.lower (pos 0)) -ℤ cond q a.upper (pos 0)
counted_least profile true true a s = refl
counted_least profile true false a s = omega (arith, ints)
counted_least profile false true a s = omega (arith, ints)
counted_least profile false false a s = omega (arith, ints)

counted_most : (profile : Profile) (p q : Bool) (a : InstArc) (s : NodeSums) → (let at_head : NodeSums = cond p (entered profile a s) s in cond q (left profile a at_head) at_head).most ≡ (s.most +ℤ cond p a.upper (pos 0)) -ℤ cond q a.lower (pos 0)
counted_most profile true true a s = refl
counted_most profile true false a s = omega (arith, ints)
counted_most profile false true a s = omega (arith, ints)
counted_most profile false false a s = omega (arith, ints)

counted_shift : (profile : Profile) (p q : Bool) (a : InstArc) (s : NodeSums) → (let at_head : NodeSums = cond p (entered profile a s) s in cond q (left profile a at_head) at_head).shift ≡ (s.shift +ℤ cond p (offset_of profile a) (pos 0)) -ℤ cond q (offset_of profile a) (pos 0)
counted_shift profile true true a s = refl
counted_shift profile true false a s = omega (arith, ints)
counted_shift profile false true a s = omega (arith, ints)
counted_shift profile false false a s = omega (arith, ints)

lacks_less : (p : Profile) (a : InstArc) (rest all : List InstArc) (v : ℕ) (s : NodeSums) → LackOnly p (a ∷ rest) all v s → LackOnly p rest all v (counted_tail p a v (counted_head p a v s))
lacks_less p a rest all v s h = record {
  least = omega (arith, ints, counted_least p (enters v a) (leaves v a) a s, h.least);
  most = omega (arith, ints, counted_most p (enters v a) (leaves v a) a s, h.most);
  shift = omega (arith, ints, counted_shift p (enters v a) (leaves v a) a s, h.shift);
}

grown : (n : ℕ) (p q : Bool) (s x y z : ℤ) → IsSized n s → IsSized value_limit x → IsSized value_limit y → z ≡ (s +ℤ cond p x (pos 0)) -ℤ cond q y (pos 0) → IsSized (n + 2 * 10 ^ 12) z
grown n true true s x y z h k l e = record { above = omega (arith, ints, h.above, k.above, l.below, e); below = omega (arith, ints, h.below, k.below, l.above, e) }
grown n true false s x y z h k l e = record { above = omega (arith, ints, h.above, k.above, e); below = omega (arith, ints, h.below, k.below, e) }
grown n false true s x y z h k l e = record { above = omega (arith, ints, h.above, l.below, e); below = omega (arith, ints, h.below, l.above, e) }
grown n false false s x y z h k l e = record { above = omega (arith, ints, h.above, e); below = omega (arith, ints, h.below, e) }

counted_sized : (p : Profile) (nodes n : ℕ) (a : InstArc) (v : ℕ) (s : NodeSums) → IsArcOf nodes a → AreSized n s → AreSized (n + 2 * 10 ^ 12) (counted_tail p a v (counted_head p a v s))
counted_sized p nodes n a v s fits h =
    let both = counted_tail p a v (counted_head p a v s) in
    let offset = offset_sized p a fits.lower in
    record {
      least = grown n (enters v a) (leaves v a) s.least a.lower a.upper both.least h.least fits.lower fits.upper (counted_least p (enters v a) (leaves v a) a s);
      most = grown n (enters v a) (leaves v a) s.most a.upper a.lower both.most h.most fits.upper fits.lower (counted_most p (enters v a) (leaves v a) a s);
      shift = grown n (enters v a) (leaves v a) s.shift (offset_of p a) (offset_of p a) both.shift h.shift offset offset (counted_shift p (enters v a) (leaves v a) a s);
    }

-- how far the pass has come after i arcs
pub record HasRead (p : Profile) (instance : Instance) (i : ℕ) (part : ArcPart) : Type 0 where
  pub arcs : part.arcs.items ++ written_arcs p instance.sense (vec_len instance.nodes) (drop i instance.arcs.items) ≡ written_arcs p instance.sense (vec_len instance.nodes) instance.arcs.items
  pub count : vec_len part.arcs ≤ i
  pub numbers : part.numbers.items ++ numbers_from p (suc (vec_len part.arcs)) (drop i instance.arcs.items) ≡ numbers_from p 1 instance.arcs.items
  pub offsets : part.offsets.items ++ offsets_of p (drop i instance.arcs.items) ≡ offsets_of p instance.arcs.items
  pub constant : part.constant +ℤ price_of (λ a. a.coefficient) (drop i instance.arcs.items) (offsets_of p (drop i instance.arcs.items)) ≡ constant_of p instance
  pub size : IsSized (10 ^ 12 + 10 ^ 24 * i) part.constant
  pub nodes : vec_len part.sums ≡ vec_len instance.nodes
  pub sums : (v : ℕ) (d : NodeSums) → v < length part.sums.items → LackOnly p (drop i instance.arcs.items) instance.arcs.items v (get_or part.sums.items v d)
  pub sizes : All (AreSized (2 * 10 ^ 12 * i)) part.sums.items

-- one more element at the end of what is made
pub snoc_step : {A : Type 0} (old new : List A) (x : A) (mid rest whole : List A) → new ≡ old ++ x ∷ [] → mid ≡ x ∷ rest → old ++ mid ≡ whole → new ++ rest ≡ whole
snoc_step old new x mid rest whole e f h = ap (λ (zs : List _). zs ++ rest) e ∙ append_assoc old (x ∷ []) rest ∙ ap (λ (zs : List _). old ++ zs) (sym f) ∙ h

-- one more, or none where it is left out
written_step : (b : Bool) (old new : List FlowArc) (x : FlowArc) (rest whole : List FlowArc) → new ≡ old ++ cond b [] (x ∷ []) → old ++ cond b rest (x ∷ rest) ≡ whole → new ++ rest ≡ whole
written_step true old new x rest whole e h = ap (λ (zs : List FlowArc). zs ++ rest) e ∙ append_assoc old [] rest ∙ h
written_step false old new x rest whole e h = ap (λ (zs : List FlowArc). zs ++ rest) e ∙ append_assoc old (x ∷ []) rest ∙ h

-- and what comes next is numbered on, or as before
counted_on : (b : Bool) (old new : List FlowArc) (x : FlowArc) (n m : ℕ) → n ≡ length old → m ≡ length new → new ≡ old ++ cond b [] (x ∷ []) → m ≡ cond b n (suc n)
counted_on true old new x n m h k e = omega (arith, h, k, ap length e, length-append old [])
counted_on false old new x n m h k e = omega (arith, h, k, ap length e, length-append old (x ∷ []))

numbers_step : (b : Bool) (old new : List ℕ) (n m : ℕ) (rest : ℕ → List ℕ) (whole : List ℕ) → new ≡ old ++ cond b 0 (n + 1) ∷ [] → m ≡ cond b n (suc n) → old ++ cond b (0 ∷ rest (suc n)) (suc n ∷ rest (suc (suc n))) ≡ whole → new ++ rest (suc m) ≡ whole
numbers_step true old new n m rest whole e k h = ap (λ (zs : List ℕ). zs ++ rest (suc m)) e ∙ append_assoc old (0 ∷ []) (rest (suc m)) ∙ ap (λ (l : ℕ). old ++ (0 ∷ rest (suc l))) k ∙ h
numbers_step false old new n m rest whole e k h =
    let same : n + 1 ≡ suc n = omega arith in
    ap (λ (zs : List ℕ). zs ++ rest (suc m)) e ∙ append_assoc old ((n + 1) ∷ []) (rest (suc m)) ∙ ap (λ (l : ℕ). old ++ ((n + 1) ∷ rest (suc l))) k ∙ ap (λ (l : ℕ). old ++ (l ∷ rest (suc (suc n)))) same ∙ h

-- what `add` says of the next arc
pub record Adds (p : Profile) (instance : Instance) (a : InstArc) (old new : ArcPart) : Type 0 where
  pub arcs : new.arcs.items ≡ old.arcs.items ++ cond (is_left_out p a) [] (flow_arc_of p instance.sense (vec_len old.sums) a ∷ [])
  pub numbers : new.numbers.items ≡ old.numbers.items ++ cond (is_left_out p a) 0 (vec_len old.arcs + 1) ∷ []
  pub offsets : new.offsets.items ≡ old.offsets.items ++ offset_of p a ∷ []
  pub constant : new.constant ≡ old.constant +ℤ a.coefficient *ℤ offset_of p a
  pub nodes : vec_len new.sums ≡ vec_len old.sums
  pub sums : CountsArc p a old.sums.items new.sums.items

counted_upto : (b : Bool) (n m i : ℕ) → n ≤ i → m ≡ cond b n (suc n) → m ≤ suc i
counted_upto true n m i h e = omega (arith, h, e)
counted_upto false n m i h e = omega (arith, h, e)

constant_step : (x y p q z : ℤ) → y ≡ x +ℤ p → x +ℤ (p +ℤ q) ≡ z → y +ℤ q ≡ z
constant_step x y p q z e h = omega (arith, ints)

size_step : (i : ℕ) (x y p : ℤ) → y ≡ x +ℤ p → IsSized (10 ^ 12 + 10 ^ 24 * i) x → IsSized (10 ^ 24) p → IsSized (10 ^ 12 + 10 ^ 24 * suc i) y
size_step i x y p e h k = record { above = omega (arith, ints, h.above, k.above); below = omega (arith, ints, h.below, k.below) }

has_read_more : (p : Profile) (instance : Instance) (i : ℕ) (a d : InstArc) (old new : ArcPart) → i < length instance.arcs.items → a ≡ get_or instance.arcs.items i d → HasRead p instance i old → Adds p instance a old new → HasRead p instance (suc i) new
has_read_more p instance i a d old new inside read h adds =
    let arcs = instance.arcs.items in
    let outside = vec_len instance.nodes in
    let written = written_arcs p instance.sense outside in
    let made = flow_arc_of p instance.sense outside a in
    let out = is_left_out p a in
    let rest = drop (suc i) arcs in
    let split : drop i arcs ≡ a ∷ rest = drop-cons arcs i d inside ∙ ap (λ (x : InstArc). x ∷ rest) (sym read) in
    let fits : IsArcOf outside a = subst (IsArcOf outside) (sym read) (instance.arcs_fit i d inside) in
    let same_length : length new.sums.items ≡ length old.sums.items = sym new.sums.ok.0 ∙ (adds.nodes ∙ old.sums.ok.0) in
    let next : 2 * 10 ^ 12 * i + 2 * 10 ^ 12 ≡ 2 * 10 ^ 12 * suc i = omega arith in
    let one_more : new.arcs.items ≡ old.arcs.items ++ cond out [] (made ∷ []) = adds.arcs ∙ ap (λ (n : ℕ). old.arcs.items ++ cond out [] (flow_arc_of p instance.sense n a ∷ [])) h.nodes in
    let counted : vec_len new.arcs ≡ cond out (vec_len old.arcs) (suc (vec_len old.arcs)) = counted_on out old.arcs.items new.arcs.items made (vec_len old.arcs) (vec_len new.arcs) old.arcs.ok.0 new.arcs.ok.0 one_more in
    record {
      arcs = written_step out old.arcs.items new.arcs.items made (written rest) (written arcs) one_more (ap (λ (bs : List InstArc). old.arcs.items ++ written bs) (sym split) ∙ h.arcs);
      count = counted_upto out (vec_len old.arcs) (vec_len new.arcs) i h.count counted;
      numbers = numbers_step out old.numbers.items new.numbers.items (vec_len old.arcs) (vec_len new.arcs) (λ n. numbers_from p n rest) (numbers_from p 1 arcs) adds.numbers counted
          (ap (λ (bs : List InstArc). old.numbers.items ++ numbers_from p (suc (vec_len old.arcs)) bs) (sym split) ∙ h.numbers);
      offsets = snoc_step old.offsets.items new.offsets.items (offset_of p a) (offsets_of p (drop i arcs)) (offsets_of p rest) (offsets_of p arcs) adds.offsets (ap (offsets_of p) split) h.offsets;
      constant = constant_step old.constant new.constant (a.coefficient *ℤ offset_of p a) (price_of (λ (b : InstArc). b.coefficient) rest (offsets_of p rest)) (constant_of p instance) adds.constant
          (ap (λ (bs : List InstArc). old.constant +ℤ price_of (λ (b : InstArc). b.coefficient) bs (offsets_of p bs)) (sym split) ∙ h.constant);
      size = size_step i old.constant new.constant (a.coefficient *ℤ offset_of p a) adds.constant h.size (sized-mul value_limit value_limit a.coefficient (offset_of p a) fits.coefficient (offset_sized p a fits.lower));
      nodes = adds.nodes ∙ h.nodes;
      sums = λ v e in'. subst (LackOnly p rest arcs v) (sym (adds.sums v e (omega arith)))
          (lacks_less p a rest arcs v (get_or old.sums.items v e) (subst (λ (bs : List InstArc). LackOnly p bs arcs v (get_or old.sums.items v e)) split (h.sums v e (omega arith))));
      sizes = λ v e in'. subst (λ (n : ℕ). AreSized n (get_or new.sums.items v e)) next
          (subst (AreSized (2 * 10 ^ 12 * i + 2 * 10 ^ 12)) (sym (adds.sums v e (omega arith))) (counted_sized p outside (2 * 10 ^ 12 * i) a v (get_or old.sums.items v e) fits (h.sizes v e (omega arith))));
    }

pub has_read_next : (p : Profile) (instance : Instance) (items : List InstArc) (i : ℕ) (d : InstArc) (old new : ArcPart) → items ≡ instance.arcs.items → i < length items → HasRead p instance i old → Adds p instance (get_or items i d) old new → HasRead p instance (i + 1) new
has_read_next p instance items i d old new same inside h adds =
    let inside' : i < length instance.arcs.items = omega (arith, inside, ap length same) in
    let next : suc i ≡ i + 1 = omega arith in
    subst (λ (n : ℕ). HasRead p instance n new) next
    (has_read_more p instance i (get_or items i d) d old new inside' (ap (λ (bs : List InstArc). get_or bs i d) same) h adds)

smaller : (m n : ℕ) (x : ℤ) → m ≤ n → IsSized m x → IsSized n x
smaller m n x l h = record { above = omega (arith, ints, h.above); below = omega (arith, ints, h.below) }

pub sums-small : (i : ℕ) (sums : NodeSums) → i ≤ 100000 → AreSized (2 * 10 ^ 12 * i) sums → AreSized (2 * 10 ^ 17) sums
sums-small i sums l h =
    let m : 2 * 10 ^ 12 * i ≤ 2 * 10 ^ 17 = omega arith in
    record {
      least = smaller (2 * 10 ^ 12 * i) (2 * 10 ^ 17) sums.least m h.least;
      most = smaller (2 * 10 ^ 12 * i) (2 * 10 ^ 17) sums.most m h.most;
      shift = smaller (2 * 10 ^ 12 * i) (2 * 10 ^ 17) sums.shift m h.shift;
    }

pub constant_small : (p : Profile) (instance : Instance) (i : ℕ) (part : ArcPart) → i ≤ 100000 → HasRead p instance i part → IsSized constant_limit part.constant
constant_small p instance i part few h = smaller (10 ^ 12 + 10 ^ 24 * i) constant_limit part.constant (omega arith) h.size

-- ---- before the first arc, and behind the last

none_lack : (p : Profile) (arcs : List InstArc) (v : ℕ) → LackOnly p arcs arcs v no_sums
none_lack p arcs v = record { least = omega (arith, ints); most = omega (arith, ints); shift = omega (arith, ints) }

none_sized : AreSized 0 no_sums
none_sized = record {
  least = record { above = omega (arith, ints); below = omega (arith, ints) };
  most = record { above = omega (arith, ints); below = omega (arith, ints) };
  shift = record { above = omega (arith, ints); below = omega (arith, ints) };
}

pub none_read : (p : Profile) (instance : Instance) (part : ArcPart) → part.arcs.items ≡ [] → part.numbers.items ≡ [] → part.offsets.items ≡ [] → part.constant ≡ instance.constant → part.sums.items ≡ replicate (vec_len instance.nodes) no_sums → HasRead p instance 0 part
none_read p instance part arcs numbers offsets constant sums =
    let all = instance.arcs.items in
    let count : length part.sums.items ≡ vec_len instance.nodes = ap length sums ∙ length-replicate (vec_len instance.nodes) no_sums in
    let none : vec_len part.arcs ≡ 0 = part.arcs.ok.0 ∙ ap length arcs in
    let here : (v : ℕ) (d : NodeSums) → v < length part.sums.items → no_sums ≡ get_or part.sums.items v d = λ v d l.
    sym (ap (λ (xs : List NodeSums). get_or xs v d) sums ∙ get_or-replicate (vec_len instance.nodes) v no_sums d (omega (arith, l, count))) in
    let fits = instance.constant_fits in
    record {
      arcs = ap (λ (xs : List FlowArc). xs ++ written_arcs p instance.sense (vec_len instance.nodes) all) arcs;
      count = omega (arith, none);
      numbers = ap (λ (xs : List ℕ). xs ++ numbers_from p (suc (vec_len part.arcs)) all) numbers ∙ ap (λ (n : ℕ). numbers_from p (suc n) all) none;
      offsets = ap (λ (xs : List ℤ). xs ++ offsets_of p all) offsets;
      constant = ap (λ (z : ℤ). z +ℤ price_of (λ (a : InstArc). a.coefficient) all (offsets_of p all)) constant;
      size = record { above = omega (arith, ints, fits.above, constant); below = omega (arith, ints, fits.below, constant) };
      nodes = part.sums.ok.0 ∙ count;
      sums = λ v d l. subst (LackOnly p all all v) (here v d l) (none_lack p all v);
      sizes = λ v d l. subst (AreSized 0) (here v d l) none_sized;
    }

-- what the pass has made of all arcs
pub record AllRead (p : Profile) (instance : Instance) (part : ArcPart) : Type 0 where
  pub arcs : part.arcs.items ≡ written_arcs p instance.sense (vec_len instance.nodes) instance.arcs.items
  pub numbers : part.numbers.items ≡ numbers_from p 1 instance.arcs.items
  pub offsets : part.offsets.items ≡ offsets_of p instance.arcs.items
  pub constant : part.constant ≡ constant_of p instance
  pub nodes : vec_len part.sums ≡ vec_len instance.nodes
  pub sums : AreSumsOf p instance.arcs.items part.sums.items

all_dropped : (xs : List InstArc) (i : ℕ) → length xs ≤ i → drop i xs ≡ []
all_dropped xs i h = grind (arith, common_steps)

pub all_read : (p : Profile) (instance : Instance) (i : ℕ) (part : ArcPart) → length instance.arcs.items ≤ i → HasRead p instance i part → AllRead p instance part
all_read p instance i part past h =
    let all = instance.arcs.items in
    let none : drop i all ≡ [] = all_dropped all i past in
    let written = written_arcs p instance.sense (vec_len instance.nodes) in
    let paid : part.constant +ℤ pos 0 ≡ constant_of p instance =
    ap (λ (bs : List InstArc). part.constant +ℤ price_of (λ (a : InstArc). a.coefficient) bs (offsets_of p bs)) (sym none) ∙ h.constant in
    record {
      arcs = sym (append-nil part.arcs.items) ∙ ap (λ (bs : List InstArc). part.arcs.items ++ written bs) (sym none) ∙ h.arcs;
      numbers = sym (append-nil part.numbers.items) ∙ ap (λ (bs : List InstArc). part.numbers.items ++ numbers_from p (suc (vec_len part.arcs)) bs) (sym none) ∙ h.numbers;
      offsets = sym (append-nil part.offsets.items) ∙ ap (λ (bs : List InstArc). part.offsets.items ++ offsets_of p bs) (sym none) ∙ h.offsets;
      constant = omega (arith, ints, paid);
      nodes = h.nodes;
      sums = λ v d l.
          let here : LackOnly p [] all v (get_or part.sums.items v d) = subst (λ (bs : List InstArc). LackOnly p bs all v (get_or part.sums.items v d)) none (h.sums v d l) in
          record { least = omega (arith, ints, here.least); most = omega (arith, ints, here.most); shift = omega (arith, ints, here.shift) };
    }
