-- The world that the code computes is the world that AMPL defines.
use Rattle.std.specs.Prelude.{◌≡◌, ◌+◌, ℕ, Bool, true, false, List, [], ◌∷◌, ◌++◌, length, take, slice_get, Option, Some, Ok}
use Rattle.std.specs.List.{AllByRecursion}
use Rattle.std.proofs.Common.{refl, ap, sym, ◌∙◌, subst, append_assoc, append-nil}
use Rattle.std.proofs.lemmas.List.{length-append}
use Rattle.net_base.specs.Outcomes.{Outcome, and_then, each}
use Rattle.net_lex.specs.declared.token.Token.{Token}
use Rattle.net_data.specs.declared.statement.Statement.{Statement}
use Rattle.net_data.specs.Meaning.{IsStatement, all_judged}
use Rattle.net_tree.specs.Declarations.{AreDeclarations}
use Rattle.net_tree.specs.Erasure.{declarations}
use Rattle.net_tree.specs.Phrases.{AreSetPhrases}
use Rattle.net_tree.specs.Tree.{Tree, Braces, Phrase, Declaration, set, param, check, node, arc, objective}
use Rattle.net_expr.specs.declared.world.Entry.{Entry}
use Rattle.net_expr.specs.declared.world.Entry.TheVariants.{Set}
use Rattle.net_expr.specs.SetValues.{HasSets}
use Rattle.net_expr.specs.Worlds.{Name, World}
use Rattle.net_meaning.specs.OfTrees.{meant_world, IsValue, AreIndexed, IsSet, IsParameter, Binds}
use Rattle.net_meaning.specs.Operators.{Truth}
use Rattle.net_meaning.specs.Values.{Key}
use Rattle.net_meaning.specs.World as world
use Rattle.net_meaning.proofs.Meant.{meant_with}
use Rattle.net_bind.specs.Binding as binding
use Rattle.net_bind.specs.Binding.{widths, next_data, with_entry, declare, checked, check_one, after_checks, with_given, AreNew}
use Rattle.net_bind.specs.BoundParameters.{bound_parameter}
use Rattle.net_bind.specs.BoundSets.{bound_set}
use Rattle.net_bind.specs.DataByName.{Sorted, data_by_name}
use Rattle.net_bind.specs.DataFor.{data_for}
use Rattle.net_bind.specs.DataValues.{HaveValues, NamesNoSet}
use Rattle.net_bind.specs.Names.{Declared, declared}
use Rattle.net_bind.specs.Soundness.{WorldsAreSound}
use Rattle.net_bind.proofs.HeldEntries.{AreEntries, sets_of, declared_entries, no_entries}
use Rattle.net_bind.proofs.NamesDeclared.{AreNamed, all_named, names_are_declared, no_parameter, no_set, all_with}
use Rattle.net_bind.proofs.RowsTaken.{then_ok, is_ok}
use Rattle.net_bind.proofs.Sorting.{place_is, sorted_by_name}
use Rattle.net_bind.proofs.SoundChecks.{checks_are_sound}
use Rattle.net_bind.proofs.SoundGivenSets.{set_is}
use Rattle.net_bind.proofs.SoundParameters.{parameters_are_sound}

-- ---- lists

take_own : {A : Type 0} (xs ys : List A) → take (length xs) (xs ++ ys) ≡ xs
take_own [] [] = refl
take_own [] (y ∷ ys) = refl
take_own (x ∷ xs) ys = ap (λ z. x ∷ z) (take_own xs ys)

next_there : (front : Declared) (n : Name) (k : Bool) (ds : Declared) → slice_get (front ++ (n, k) ∷ ds) (length front) ≡ Some (n, k)
next_there [] n k ds = refl
next_there (d ∷ front) n k ds = next_there front n k ds

-- ---- worlds grow at the end

pub record IsFront (before w : World) : Type 0 where
  pub more : World
  pub is : w ≡ before ++ more

front_more : (n : Name) (x : Entry) (before w : World) → IsFront (before ++ (n, x) ∷ []) w → IsFront before w
front_more n x before w h = record { more = (n, x) ∷ h.more; is = h.is ∙ append_assoc before ((n, x) ∷ []) h.more }

entered_front : (n : Token) (o : Outcome Entry) (before next w : World) → and_then o (with_entry before n) ≡ Ok next → IsFront next w → IsFront before w
entered_front n o before next w e h = then_ok o (with_entry before n) next e (λ x i k. front_more n.text x before w (subst (λ z. IsFront z w) (sym (is_ok (before ++ (n.text, x) ∷ []) next k)) h))

one_front : (given : Sorted) (d : Declaration) (before next w : World) → declare given d before ≡ Ok next → IsFront next w → IsFront before w
one_front given (set k n ps z) before next w e h = entered_front n (bound_set before (widths before) n ps (next_data given before)) before next w e h
one_front given (param k n b ps z) before next w e h = entered_front n (bound_parameter before (widths before) n b ps (next_data given before)) before next w e h
one_front given (check k b m x z) before next w e h = subst (λ z. IsFront z w) (sym (is_ok before next e)) h
one_front given (node k n b c z) before next w e h = subst (λ z. IsFront z w) (sym (is_ok before next e)) h
one_front given (arc k n b ps z) before next w e h = subst (λ z. IsFront z w) (sym (is_ok before next e)) h
one_front given (objective k n p z) before next w e h = subst (λ z. IsFront z w) (sym (is_ok before next e)) h

all_front : (given : Sorted) (ds : List Declaration) (before w : World) → each (declare given) ds before ≡ Ok w → IsFront before w
all_front given [] before w e = record { more = []; is = sym (is_ok before w e) ∙ sym (append-nil before) }
all_front given (d ∷ ds) before w e = then_ok (declare given d before) (each (declare given) ds) w e (λ next i k. one_front given d before next w i (all_front given ds next w k))

front_taken : (before w : World) (known : ℕ) → IsFront before w → known ≡ length before → take known w ≡ before
front_taken before w known h e = ap (λ z. take z w) e ∙ ap (take (length before)) h.is ∙ take_own before h.more

-- ---- declaration by declaration

-- all declarations and statements, and the data for each name
module _ (all : List Declaration) (ss : List Statement) (given : Sorted) (new : AreNew [] all) (sorted : data_by_name (declared all) ss ≡ Ok given)
    (are : AllByRecursion IsStatement ss) (whole : all_judged ss ≡ Ok tt) (valued : AllByRecursion HaveValues ss) where
  said_is : (front ds : Declared) (before : World) (n : Name) (k : Bool) → declared all ≡ front ++ (n, k) ∷ ds → length front ≡ length before
      → (slice_get (declared all) (length before) ≡ Some (n, k)) × (next_data given before ≡ data_for (declared all) (length before) n ss)
  said_is front ds before n k e size =
      let there = ap (λ z. slice_get (declared all) z) (sym size) ∙ ap (λ z. slice_get z (length front)) e ∙ next_there front n k ds in
      (there, sorted_by_name all ss given new sorted (length before) n k there)

  next_front : (front ds : Declared) (d : _) → front ++ d ∷ ds ≡ (front ++ d ∷ []) ++ ds
  next_front front ds d = sym (append_assoc front (d ∷ []) ds)

  size_more : {A B : Type 0} (xs : List A) (ys : List B) (x : A) (y : B) → length xs ≡ length ys → length (xs ++ x ∷ []) ≡ length (ys ++ y ∷ [])
  size_more xs ys x y e = length-append xs (x ∷ []) ∙ ap (λ z. z + 1) e ∙ sym (length-append ys (y ∷ []))

  known_more : (before : World) (x : _) (known : ℕ) → known ≡ length before → known + 1 ≡ length (before ++ x ∷ [])
  known_more before x known e = ap (λ z. z + 1) e ∙ sym (length-append before (x ∷ []))

  set_next : (front ds : Declared) (before next : World) (n : Token) (ps : List Phrase) → declared all ≡ front ++ (n.text, true) ∷ ds → length front ≡ length before → AreEntries before → AreSetPhrases ps
      → and_then (bound_set before (widths before) n ps (next_data given before)) (with_entry before n) ≡ Ok next
      → (d : ℕ) × (ts : _) × IsSet before ss n.text ps ts × (next ≡ before ++ (n.text, Set d ts) ∷ [])
  set_next front ds before next n ps e size entries well i =
      let (there, said) = said_is front ds before n.text true e size in
      let place = place_is all new (length before) n.text true there in
      let none = all_with (AreNamed (declared all)) _ (no_parameter (declared all) n.text (length before) place.own) ss (all_named (declared all) ss given sorted) in
      then_ok (bound_set before (widths before) n ps (next_data given before)) (with_entry before n) next i (λ x f g.
      let (d, ts, same, is) =
      set_is before (widths before) n ps (declared all) (length before) ss x (sets_of before entries) well are whole valued none (ap (bound_set before (widths before) n ps) (sym said) ∙ f)
      in
      (d, ts, is, sym (is_ok (before ++ (n.text, x) ∷ []) next g) ∙ ap (λ z. before ++ (n.text, z) ∷ []) same))

  param_next : (front ds : Declared) (before next : World) (n : Token) (b : Option Braces) (ps : List Phrase) → declared all ≡ front ++ (n.text, false) ∷ ds → length front ≡ length before → AreEntries before
      → and_then (bound_parameter before (widths before) n b ps (next_data given before)) (with_entry before n) ≡ Ok next
      → (x : Entry) × IsParameter before ss n.text b ps x × (next ≡ before ++ (n.text, x) ∷ [])
  param_next front ds before next n b ps e size entries i =
      let (there, said) = said_is front ds before n.text false e size in
      let place = place_is all new (length before) n.text false there in
      let none = all_with (AreNamed (declared all)) (NamesNoSet n.text) (no_set (declared all) n.text (length before) place.own) ss (all_named (declared all) ss given sorted) in
      then_ok (bound_parameter before (widths before) n b ps (next_data given before)) (with_entry before n) next i (λ x f g. (
        x,
        parameters_are_sound before (widths before) n b ps (declared all) (length before) ss x (sets_of before entries) are valued none (ap (bound_parameter before (widths before) n b ps) (sym said) ∙ f),
        sym (is_ok (before ++ (n.text, x) ∷ []) next g),
      ))

  check_next : (w before : World) → HasSets before → (b : Option Braces) (x : Tree) (known next : ℕ) → take known w ≡ before → and_then (checked (take known w) b x) (λ u. Ok known) ≡ Ok next
      → (keys : List Key) × AreIndexed before b keys × AllByRecursion (λ (k : Key). IsValue k.env x (Truth true)) keys × (known ≡ next)
  check_next w before sets b x known next same e =
      then_ok (checked (take known w) b x) (λ u. Ok known) next e (λ u f g.
      let (keys, indexed, hold) = checks_are_sound before b x sets (ap (λ z. checked z b x) (sym same) ∙ f) in
      (keys, indexed, hold, is_ok known next g))

  binds : (w : World) (front : Declared) (ds : List Declaration) (before : World) (known last : ℕ) → declared all ≡ front ++ declared ds → length front ≡ length before → known ≡ length before → AreEntries before
      → AreDeclarations ds → each (declare given) ds before ≡ Ok w → each (check_one w) ds known ≡ Ok last → Binds ss before ds w
  binds w front [] before known last e size count entries well i j = ap meant_world (sym (is_ok before w i))
  binds w front (set k n ps z ∷ ds) before known last e size count entries well i j =
      then_ok (declare given (set k n ps z) before) (each (declare given) ds) w i (λ next f g.
      let (d, ts, is, grown) = set_next front (declared ds) before next n ps e size entries well.0.2 f in
      let later = declared_entries given (set k n ps z) before next entries f in (
        ts,
        is,
        subst (λ v. world.Binds ss v (declarations ds) (meant_world w)) (meant_with before n.text (Set d ts))
            (binds w (front ++ (n.text, true) ∷ []) ds (before ++ (n.text, Set d ts) ∷ []) (known + 1) last (e ∙ next_front front (declared ds) (n.text, true)) (size_more front before (n.text, true) (n.text, Set d ts) size)
            (known_more before (n.text, Set d ts) known count) (subst AreEntries grown later) well.1 (subst (λ v. each (declare given) ds v ≡ Ok w) grown g) j),
      ))
  binds w front (param k n b ps z ∷ ds) before known last e size count entries well i j =
      then_ok (declare given (param k n b ps z) before) (each (declare given) ds) w i (λ next f g.
      let (x, (o, same, is), grown) = param_next front (declared ds) before next n b ps e size entries f in
      let later = declared_entries given (param k n b ps z) before next entries f in (
        o,
        is,
        subst (λ v. world.Binds ss v (declarations ds) (meant_world w)) (meant_with before n.text x ∙ ap (λ y. meant_world before ++ (n.text, y) ∷ []) same)
            (binds w (front ++ (n.text, false) ∷ []) ds (before ++ (n.text, x) ∷ []) (known + 1) last (e ∙ next_front front (declared ds) (n.text, false)) (size_more front before (n.text, false) (n.text, x) size)
            (known_more before (n.text, x) known count) (subst AreEntries grown later) well.1 (subst (λ v. each (declare given) ds v ≡ Ok w) grown g) j),
      ))
  binds w front (check k b m x z ∷ ds) before known last e size count entries well i j =
      then_ok (check_one w (check k b m x z) known) (each (check_one w) ds) last j (λ next f g.
      let same = front_taken before w known (all_front given ds before w i) count in
      let (keys, indexed, hold, stays) = check_next w before (sets_of before entries) b x known next same f in
      (keys, indexed, hold, binds w front ds before known last e size count entries well.1 i (ap (each (check_one w) ds) stays ∙ g)))
  binds w front (node k n b c z ∷ ds) before known last e size count entries well i j = binds w front ds before known last e size count entries well.1 i j
  binds w front (arc k n b ps z ∷ ds) before known last e size count entries well i j = binds w front ds before known last e size count entries well.1 i j
  binds w front (objective k n p z ∷ ds) before known last e size count entries well i j = binds w front ds before known last e size count entries well.1 i j

pub worlds_are_sound : WorldsAreSound
unfolding binding.world
worlds_are_sound ds ss w well new are whole valued e =
    then_ok (data_by_name (declared ds) ss) (with_given ds) w e (λ given f g.
    then_ok (each (declare given) ds []) (after_checks ds) w g (λ v h k.
    then_ok (each (check_one v) ds 0) (λ known. Ok v) w k (λ known i j.
    record {
      bound = subst (Binds ss [] ds) (is_ok v w j) (binds ds ss given new f are whole valued v [] ds [] 0 known refl refl refl no_entries well h i);
      declared = names_are_declared ds ss given f;
    })))
