-- If no name is declared twice, data that name declared sets and parameters alone have content for each name: no name is rejected.
use Rattle.std.specs.Prelude.{◌≡◌, ◌+◌, ℕ, zero, suc, Bool, true, false, List, [], ◌∷◌, length, Option, None, Some, Err}
use Rattle.std.specs.List.{AllByRecursion, Contains, IsDistinct}
use Rattle.std.specs.Option.{ForSome}
use Rattle.std.specs.Str.{bytes_eq}
use Rattle.std.proofs.Common.{refl, subst, arith}
use Rattle.std.proofs.lemmas.Map.Keys.{IsDistinct-head, IsDistinct-tail}
use Rattle.std.proofs.lemmas.Slice.Eq.{bytes_eq-Decides}
use Rattle.net_base.specs.Outcomes.{and_then, each}
use Rattle.net_base.specs.Places.{Places, Finds}
use Rattle.net_base.specs.declared.diagnostic.Diagnostic.{Diagnostic}
use Rattle.net_base.proofs.Found.{finds_then}
use Rattle.net_lex.specs.declared.token.Token.{Token}
use Rattle.net_data.specs.declared.statement.NamedSet.{NamedSet}
use Rattle.net_data.specs.declared.statement.Statement.{Statement}
use Rattle.net_data.specs.declared.statement.Statement.TheVariants.{Set, List as Listed, Table, Columns}
use Rattle.net_tree.specs.Tree.{Declaration, set, param, check, node, arc, objective}
use Rattle.net_expr.specs.Worlds.{Name}
use Rattle.net_meaning.specs.OfTrees.{sets_in, params_in, AreDeclared}
use Rattle.net_meaning.specs.World.{AreNamesIn}
use Rattle.net_bind.specs.DataByName.{Sorted, no_data, with_named, set_first, first_of, or_zero, lesser, headed, set_headed, in_statement, data_by_name}
use Rattle.net_bind.specs.Names.{Declared, declared, target}
use Rattle.net_bind.proofs.NamesDeclared.{IsNamed, AreNamed}
use Rattle.net_inst.specs.Soundness.{names_in}
use Rattle.net_sets.specs.Names.{located}

-- ---- names that are declared are found

-- the names of declared sets, or of declared parameters
abbrev of_kind : Bool → List Declaration → List Name
of_kind true ds = sets_in ds
of_kind false ds = params_in ds

-- the elements of a list that has one more in front
more : (n : Name) (ns : List Name) (m : Name) → Contains ns m → Contains (n ∷ ns) m
more n ns m (k, within, is) = (suc k, omega (arith, within), is)

differs : (n : Name) (ns : List Name) (m : Name) → AllByRecursion (λ x. bytes_eq n x ≡ false) ns → Contains ns m → bytes_eq n m ≡ false
differs n [] m h (k, within, is) = absurd (omega (arith, within))
differs n (x ∷ ns) m h (zero, within, is) = subst (λ y. bytes_eq n y ≡ false) is h.0
differs n (x ∷ ns) m h (suc k, within, is) = differs n ns m h.1 (k, omega (arith, within), is)

either : (P : Type 0) (n : Name) (ns : List Name) (m : Name) → Contains (n ∷ ns) m → (n ≡ m → P) → (Contains ns m → P) → P
either P n ns m (zero, within, is) here later = here is
either P n ns m (suc k, within, is) here later = later (k, omega (arith, within), is)

-- a set or a parameter is a declared name
is_declared : (b : Bool) (ds : List Declaration) (m : Name) → Contains (of_kind b ds) m → Contains (names_in ds) m
is_declared true [] m h = h
is_declared false [] m h = h
is_declared true (set w n ps z ∷ ds) m h = either _ n.text (sets_in ds) m h (λ e. (zero, omega arith, e)) (λ i. more n.text (names_in ds) m (is_declared true ds m i))
is_declared false (set w n ps z ∷ ds) m h = more n.text (names_in ds) m (is_declared false ds m h)
is_declared true (param w n b ps z ∷ ds) m h = more n.text (names_in ds) m (is_declared true ds m h)
is_declared false (param w n b ps z ∷ ds) m h = either _ n.text (params_in ds) m h (λ e. (zero, omega arith, e)) (λ i. more n.text (names_in ds) m (is_declared false ds m i))
is_declared true (check w b x y z ∷ ds) m h = is_declared true ds m h
is_declared false (check w b x y z ∷ ds) m h = is_declared false ds m h
is_declared true (node w n b c z ∷ ds) m h = more n.text (names_in ds) m (is_declared true ds m h)
is_declared false (node w n b c z ∷ ds) m h = more n.text (names_in ds) m (is_declared false ds m h)
is_declared true (arc w n b ps z ∷ ds) m h = more n.text (names_in ds) m (is_declared true ds m h)
is_declared false (arc w n b ps z ∷ ds) m h = more n.text (names_in ds) m (is_declared false ds m h)
is_declared true (objective w n p z ∷ ds) m h = more n.text (names_in ds) m (is_declared true ds m h)
is_declared false (objective w n p z ∷ ds) m h = more n.text (names_in ds) m (is_declared false ds m h)

-- the name has this kind among declared names
abbrev IsFound : ℕ → Declared → Name → Bool → Type 0
IsFound o ds m b = (j : ℕ) × (located o ds m ≡ Some (j, b))

found_here : (o : ℕ) (b : Bool) (ds : Declared) (n m : Name) → n ≡ m → IsFound o ((n, b) ∷ ds) m b
found_here o b ds n m e = (o, rw ((bytes_eq-Decides n m).1 e) refl)

found_later : (o : ℕ) (k b : Bool) (ds : Declared) (n m : Name) → bytes_eq n m ≡ false → IsFound (o + 1) ds m b → IsFound o ((n, k) ∷ ds) m b
found_later o k b ds n m e (j, h) = (j, rw e h)

module _ (b : Bool) (m : Name) where
  -- a later name is not that of this declaration
  apart : (n : Name) (ds : List Declaration) → IsDistinct bytes_eq (n ∷ names_in ds) → Contains (of_kind b ds) m → bytes_eq n m ≡ false
  apart n ds once h = differs n (names_in ds) m (IsDistinct-head bytes_eq n (names_in ds) once) (is_declared b ds m h)

found : (b : Bool) (o : ℕ) (ds : List Declaration) (m : Name) → IsDistinct bytes_eq (names_in ds) → Contains (of_kind b ds) m → IsFound o (declared ds) m b
found true o [] m once (k, within, is) = absurd (omega (arith, within))
found false o [] m once (k, within, is) = absurd (omega (arith, within))
found true o (set w n ps z ∷ ds) m once h =
    either _ n.text (sets_in ds) m h (found_here o true (declared ds) n.text m)
    (λ i. found_later o true true (declared ds) n.text m (apart true m n.text ds once i) (found true (o + 1) ds m (IsDistinct-tail bytes_eq n.text (names_in ds) once) i))
found false o (set w n ps z ∷ ds) m once h = found_later o true false (declared ds) n.text m (apart false m n.text ds once h) (found false (o + 1) ds m (IsDistinct-tail bytes_eq n.text (names_in ds) once) h)
found true o (param w n b ps z ∷ ds) m once h = found_later o false true (declared ds) n.text m (apart true m n.text ds once h) (found true (o + 1) ds m (IsDistinct-tail bytes_eq n.text (names_in ds) once) h)
found false o (param w n b ps z ∷ ds) m once h =
    either _ n.text (params_in ds) m h (found_here o false (declared ds) n.text m)
    (λ i. found_later o false false (declared ds) n.text m (apart false m n.text ds once i) (found false (o + 1) ds m (IsDistinct-tail bytes_eq n.text (names_in ds) once) i))
found true o (check w b x y z ∷ ds) m once h = found true o ds m once h
found false o (check w b x y z ∷ ds) m once h = found false o ds m once h
found true o (node w n b c z ∷ ds) m once h = found true o ds m (IsDistinct-tail bytes_eq n.text (names_in ds) once) h
found false o (node w n b c z ∷ ds) m once h = found false o ds m (IsDistinct-tail bytes_eq n.text (names_in ds) once) h
found true o (arc w n b ps z ∷ ds) m once h = found true o ds m (IsDistinct-tail bytes_eq n.text (names_in ds) once) h
found false o (arc w n b ps z ∷ ds) m once h = found false o ds m (IsDistinct-tail bytes_eq n.text (names_in ds) once) h
found true o (objective w n p z ∷ ds) m once h = found true o ds m (IsDistinct-tail bytes_eq n.text (names_in ds) once) h
found false o (objective w n p z ∷ ds) m once h = found false o ds m (IsDistinct-tail bytes_eq n.text (names_in ds) once) h

module _ (ds : List Declaration) (once : IsDistinct bytes_eq (names_in ds)) where
  all_found : (b : Bool) (ts : List Token) → AreNamesIn (of_kind b ds) ts → AllByRecursion (IsNamed (declared ds) b) ts
  all_found b [] h = tt
  all_found b (t ∷ ts) h = (found b 0 ds t.text once h.0, all_found b ts h.1)

  statement_found : (s : Statement) → AreDeclared ds s → AreNamed (declared ds) s
  statement_found (Set s) h = (all_found true (s.name ∷ []) h).0
  statement_found (Listed l) h = (all_found false (l.name ∷ []) h).0
  statement_found (Table t) h = (all_found false (t.name ∷ []) h).0
  statement_found (Columns c) h = (λ s e. (all_found true (s.name ∷ []) (h.0 s e)).0, all_found false c.names h.1)

-- ---- names that are found are accepted

-- nothing can be wrong anywhere
abbrev nowhere : Places
nowhere text at = ⊥

target_found : (ds : Declared) (b : Bool) (t : Token) → IsNamed ds b t → Finds nowhere (target ds b t)
target_found ds true t (j, e) = rw e tt
target_found ds false t (j, e) = rw e tt

module _ (ds : Declared) where
  accepts_named : (b : Bool) (t : Token) (m : _) (all : Sorted) → IsNamed ds b t → Finds nowhere (with_named ds b t m all)
  accepts_named b t m all h = finds_then nowhere (target ds b t) _ (target_found ds b t h) (λ i. tt)

  accepts_first : (o : Option NamedSet) → ForSome o (λ s. IsNamed ds true s.name) → Finds nowhere (set_first ds o)
  accepts_first None h = tt
  accepts_first (Some s) h = finds_then nowhere (target ds true s.name) _ (target_found ds true s.name (h s refl)) (λ i. tt)

  accepts_first_of : (ts : List Token) → AllByRecursion (IsNamed ds false) ts → (first : Option ℕ) → Finds nowhere (first_of ds ts first)
  accepts_first_of [] h first = tt
  accepts_first_of (t ∷ ts) h first = finds_then nowhere (target ds false t) _ (target_found ds false t h.0) (λ i. accepts_first_of ts h.1 (Some (lesser first i)))

  accepts_headed : (leader values : ℕ) (cells : List Token) (place : ℕ) (ts : List Token) → AllByRecursion (IsNamed ds false) ts → (all : Sorted) → Finds nowhere (headed ds leader values cells place ts all)
  accepts_headed leader values cells place [] h all = tt
  accepts_headed leader values cells place (t ∷ ts) h all =
      finds_then nowhere (with_named ds false t _ all) (headed ds leader values cells (place + 1) ts) (accepts_named false t _ all h.0) (accepts_headed leader values cells (place + 1) ts h.1)

  accepts_set_headed : (leader values : ℕ) (cells : List Token) (o : Option NamedSet) → ForSome o (λ s. IsNamed ds true s.name) → (all : Sorted) → Finds nowhere (set_headed ds leader values cells o all)
  accepts_set_headed leader values cells None h all = tt
  accepts_set_headed leader values cells (Some s) h all = accepts_named true s.name _ all (h s refl)

  accepts_statement : (s : Statement) → AreNamed ds s → (all : Sorted) → Finds nowhere (in_statement ds s all)
  accepts_statement (Set s) h all = accepts_named true s.name _ all h
  accepts_statement (Listed l) h all = accepts_named false l.name _ all h
  accepts_statement (Table t) h all = accepts_named false t.name _ all h
  accepts_statement (Columns c) h all =
      finds_then nowhere (and_then (set_first ds c.set) (first_of ds c.names)) _
      (finds_then nowhere (set_first ds c.set) (first_of ds c.names) (accepts_first c.set h.0) (accepts_first_of c.names h.1)) (λ first.
      finds_then nowhere (set_headed ds (or_zero first) (length c.names) c.cells c.set all) (headed ds (or_zero first) (length c.names) c.cells 0 c.names)
      (accepts_set_headed (or_zero first) (length c.names) c.cells c.set h.0 all) (accepts_headed (or_zero first) (length c.names) c.cells 0 c.names h.1))

  accepts_statements : (ss : List Statement) → AllByRecursion (AreNamed ds) ss → (all : Sorted) → Finds nowhere (each (in_statement ds) ss all)
  accepts_statements [] h all = tt
  accepts_statements (s ∷ ss) h all = finds_then nowhere (in_statement ds s all) (each (in_statement ds) ss) (accepts_statement s h.0 all) (accepts_statements ss h.1)

all_statements : (ds : List Declaration) → IsDistinct bytes_eq (names_in ds) → (ss : List Statement) → AllByRecursion (AreDeclared ds) ss → AllByRecursion (AreNamed (declared ds)) ss
all_statements ds once [] h = tt
all_statements ds once (s ∷ ss) h = (statement_found ds once s h.0, all_statements ds once ss h.1)

pub no_name_is_rejected : (ds : List Declaration) (ss : List Statement) (r : Diagnostic) → IsDistinct bytes_eq (names_in ds) → AllByRecursion (AreDeclared ds) ss → data_by_name (declared ds) ss ≡ Err r → ⊥
no_name_is_rejected ds ss r once h found = subst (Finds nowhere) found (accepts_statements (declared ds) ss (all_statements ds once ss h) (no_data (declared ds)))
