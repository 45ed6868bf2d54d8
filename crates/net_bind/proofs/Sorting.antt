-- The data that are sorted for a declared name are those that the statements give the name.
use Rattle.std.specs.Prelude.{◌≡◌, ◌+◌, ◌<◌, ℕ, zero, suc, Bool, true, false, List, [], ◌∷◌, ◌++◌, length, nat_eq, is_some, slice_get, slice_index_or, slice_set, Option, None, Some, if◌then◌else◌, Ok}
use Rattle.std.specs.Str.{bytes_eq}
use Rattle.std.proofs.Common.{refl, ap, sym, ◌∙◌, subst, arith, append_assoc, append-nil}
use Rattle.std.proofs.lemmas.Bool.{eqb-true, or_parts}
use Rattle.std.proofs.lemmas.Bool.Decides.{nat_tests}
use Rattle.std.proofs.lemmas.List.{get_or-set_same, get_or-set_other, length-set}
use Rattle.std.proofs.lemmas.Option.{slice_get_within}
use Rattle.std.proofs.lemmas.Slice.Eq.{bytes_eq-Decides}
use Rattle.net_lex.specs.declared.token.Token.{Token}
use Rattle.net_data.specs.declared.statement.ColumnsStatement.{ColumnsStatement}
use Rattle.net_data.specs.declared.statement.NamedSet.{NamedSet}
use Rattle.net_data.specs.declared.statement.Statement.{Statement}
use Rattle.net_data.specs.declared.statement.Statement.TheVariants.{Set, List as Listed, Table, Columns}
use Rattle.net_tree.specs.Tree.{Declaration, set, param, check, node, arc, objective}
use Rattle.net_expr.specs.Worlds.{Name}
use Rattle.net_base.specs.Outcomes.{and_then, each}
use Rattle.net_bind.specs.declared.given.DataContent.TheVariants as given
use Rattle.net_bind.specs.declared.given.NamedData.{NamedData}
use Rattle.net_bind.specs.Binding.{is_among, AreNew}
use Rattle.net_bind.specs.DataByName.{Sorted, no_data, with_named_data, with_named, default_word, given_cells, grouped, gridded, named, set_first, first_of, or_zero, headed, set_headed, in_columns, in_statement, data_by_name}
use Rattle.net_sets.specs.Names.{located}
use Rattle.net_bind.specs.Names.{Declared, declared, as_wanted, at_place, target}
use Rattle.net_bind.specs.DataFor.{leader_in, leader, headed_for, set_for, data_in, data_for}
use Rattle.net_bind.proofs.RowsTaken.{then_ok, is_ok}

-- ---- declared names

pub same_name : (a b : Name) → bytes_eq a b ≡ true → a ≡ b
same_name a b e = (bytes_eq-Decides a b).0 e

pub itself : (a : Name) → bytes_eq a a ≡ true
itself a = (bytes_eq-Decides a a).1 refl

abbrev first_or : {A B : Type 0} → A → Option (A × B) → A
first_or a None = a
first_or a (Some p) = p.0

abbrev second_or : {A B : Type 0} → B → Option (A × B) → B
second_or b None = b
second_or b (Some p) = p.1

pub pairs : {A B : Type 0} (a c : A) (b d : B) → ◌≡◌ {A = Option (A × B)} (Some (a, b)) (Some (c, d)) → (a ≡ c) × (b ≡ d)
pairs a c b d e = (ap (first_or a) e, ap (second_or b) e)

-- a declared name, counted from o, is new and found at its own index
pub record IsFound (o : ℕ) (known : List Name) (ds : Declared) (i : ℕ) (n : Name) (k : Bool) : Type 0 where
  pub is : located o ds n ≡ Some (o + i, k)
  pub new : is_among known n ≡ false

found_first : (o : ℕ) (known : List Name) (m : Name) (b : Bool) (ds : Declared) (n : Name) (k : Bool) → is_among known m ≡ false → ◌≡◌ {A = Option (Name × Bool)} (Some (m, b)) (Some (n, k)) → IsFound o known ((m, b) ∷ ds) zero n k
found_first o known m b ds n k new e =
    let (same, kind) = pairs m n b k e in
    record {
      is = ap (λ (t : Bool). if t then Some (o, b) else located (o + 1) ds n) (subst (λ z. bytes_eq m z ≡ true) same (itself m)) ∙ ap (λ z. Some (o, z)) kind ∙ ap (λ j. Some (j, k)) (omega arith);
      new = subst (λ z. is_among known z ≡ false) same new;
    }

found_later : (o : ℕ) (known : List Name) (m : Name) (b : Bool) (ds : Declared) (i : ℕ) (n : Name) (k : Bool) → IsFound (o + 1) (m ∷ known) ds i n k → IsFound o known ((m, b) ∷ ds) (suc i) n k
found_later o known m b ds i n k h =
    let (other, new) = or_parts (bytes_eq m n) (is_among known n) h.new in
    record {
      is = ap (λ (t : Bool). if t then Some (o, b) else located (o + 1) ds n) other ∙ h.is ∙ ap (λ j. Some (j, k)) (omega arith);
      new = new;
    }

found_at : (o : ℕ) (known : List Name) (ds : List Declaration) → AreNew known ds → (i : ℕ) (n : Name) (k : Bool) → slice_get (declared ds) i ≡ Some (n, k) → IsFound o known (declared ds) i n k
found_at o known [] h i n k e = cc
found_at o known (set w m ps x ∷ ds) h zero n k e = found_first o known m.text true (declared ds) n k h.0 e
found_at o known (set w m ps x ∷ ds) h (suc i) n k e = found_later o known m.text true (declared ds) i n k (found_at (o + 1) (m.text ∷ known) ds h.1 i n k e)
found_at o known (param w m c ps x ∷ ds) h zero n k e = found_first o known m.text false (declared ds) n k h.0 e
found_at o known (param w m c ps x ∷ ds) h (suc i) n k e = found_later o known m.text false (declared ds) i n k (found_at (o + 1) (m.text ∷ known) ds h.1 i n k e)
found_at o known (check w c m x z ∷ ds) h i n k e = found_at o known ds h i n k e
found_at o known (node w m c x z ∷ ds) h i n k e = found_at o known ds h i n k e
found_at o known (arc w m c ps z ∷ ds) h i n k e = found_at o known ds h i n k e
found_at o known (objective w m p z ∷ ds) h i n k e = found_at o known ds h i n k e

-- the declared name at the index at which a name is found
pub record Stands (o : ℕ) (ds : Declared) (m : Name) (j : ℕ) (b : Bool) : Type 0 where
  pub place : ℕ
  pub is : j ≡ o + place
  pub own : Name
  pub there : slice_get ds place ≡ Some (own, b)
  pub same : bytes_eq own m ≡ true

pub found_stands : (o : ℕ) (ds : Declared) (m : Name) (j : ℕ) (b : Bool) → located o ds m ≡ Some (j, b) → Stands o ds m j b
found_stands o [] m j b e = cc
found_stands o (d ∷ ds) m j b e = go (bytes_eq d.0 m) refl e (found_stands (o + 1) ds m j b)
  where
    go : (t : Bool) → bytes_eq d.0 m ≡ t → (if t then Some (o, d.1) else located (o + 1) ds m) ≡ Some (j, b) → (located (o + 1) ds m ≡ Some (j, b) → Stands (o + 1) ds m j b) → Stands o (d ∷ ds) m j b
    go true s f more =
        let (at, kind) = pairs o j d.1 b f in
        record { place = 0; is = sym at ∙ omega arith; own = d.0; there = ap (λ z. Some (d.0, z)) kind; same = s }
    go false s f more =
        let h = more f in
        record { place = suc h.place; is = h.is ∙ omega arith; own = h.own; there = h.there; same = h.same }

-- the name n of kind k has the index i, and a name that is found has this index if and only if it is n
pub record IsPlace (ds : Declared) (i : ℕ) (n : Name) (k : Bool) : Type 0 where
  pub within : i < length ds
  pub own : located 0 ds n ≡ Some (i, k)
  pub reports : (m : Name) (j : ℕ) (b : Bool) → located 0 ds m ≡ Some (j, b) → bytes_eq m n ≡ nat_eq j i

same_number : (j i : ℕ) → j ≡ i → nat_eq j i ≡ true
same_number j i e = grind (arith, nat_tests)

other_number : (j i : ℕ) → (j ≡ i → ⊥) → nat_eq j i ≡ false
other_number j i f = go (nat_eq j i) refl
  where
    go : (b : Bool) → nat_eq j i ≡ b → b ≡ false
    go true e = absurd (f (eqb-true j i e))
    go false e = refl

pub place_is : (ds : List Declaration) → AreNew [] ds → (i : ℕ) (n : Name) (k : Bool) → slice_get (declared ds) i ≡ Some (n, k) → IsPlace (declared ds) i n k
place_is ds h i n k e = record { within = slice_get_within (declared ds) i (n, k) e; own = own; reports = λ m j b f. go m j b f (bytes_eq m n) refl }
  where
    own : located 0 (declared ds) n ≡ Some (i, k)
    own = (found_at 0 [] ds h i n k e).is ∙ ap (λ z. Some (z, k)) (omega arith)

    go : (m : Name) (j : ℕ) (b : Bool) → located 0 (declared ds) m ≡ Some (j, b) → (t : Bool) → bytes_eq m n ≡ t → t ≡ nat_eq j i
    go m j b f true s =
        let copied : located 0 (declared ds) m ≡ Some (i, k) = subst (λ z. located 0 (declared ds) z ≡ Some (i, k)) (sym (same_name m n s)) own in
        sym (same_number j i (pairs j i b k (sym f ∙ copied)).0)
    go m j b f false s = sym (other_number j i (λ same. elsewhere (found_stands 0 (declared ds) m j b f) same))
      where
        elsewhere : Stands 0 (declared ds) m j b → j ≡ i → ⊥
        elsewhere g same =
            let at : g.place ≡ i = omega (arith, g.is, same) in
            let there : ◌≡◌ {A = Option (Name × Bool)} (Some (g.own, b)) (Some (n, k)) = sym g.there ∙ ap (slice_get (declared ds)) at ∙ e in
            let name : n ≡ m = sym (pairs g.own n b k there).0 ∙ same_name g.own m g.same in
            let yes : bytes_eq m n ≡ true = subst (λ z. bytes_eq z n ≡ true) name (itself n) in
            cc

-- ---- one name more

-- a statement adds xs to the data for the name with index i
pub record Adds (i : ℕ) (all more : Sorted) (xs : List NamedData) : Type 0 where
  pub size : length more ≡ length all
  pub at : slice_index_or more i [] ≡ slice_index_or all i [] ++ xs

adds_none : (i : ℕ) (all : Sorted) → Adds i all all []
adds_none i all = record { size = refl; at = sym (append-nil (slice_index_or all i [])) }

adds_both : (i : ℕ) (all next more : Sorted) (xs ys : List NamedData) → Adds i all next xs → Adds i next more ys → Adds i all more (xs ++ ys)
adds_both i all next more xs ys g h = record { size = h.size ∙ g.size; at = h.at ∙ ap (λ z. z ++ ys) g.at ∙ append_assoc (slice_index_or all i []) xs ys }

-- the index that a token in the data has
pub record IsTarget (ds : Declared) (is_set : Bool) (t : Token) (j : ℕ) : Type 0 where
  pub found : located 0 ds t.text ≡ Some (j, is_set)

pub target_is : (ds : Declared) (is_set : Bool) (t : Token) (j : ℕ) → target ds is_set t ≡ Ok j → IsTarget ds is_set t j
target_is ds is_set t j e = go (located 0 ds t.text) refl is_set e
  where
    go : (o : Option (ℕ × Bool)) → located 0 ds t.text ≡ o → (w : Bool) → at_place t (as_wanted w o) ≡ Ok j → IsTarget ds w t j
    go None f w h = cc
    go (Some (p, true)) f true h = record { found = f ∙ ap (λ z. Some (z, true)) (is_ok p j h) }
    go (Some (p, false)) f true h = cc
    go (Some (p, true)) f false h = cc
    go (Some (p, false)) f false h = record { found = f ∙ ap (λ z. Some (z, false)) (is_ok p j h) }

-- the data of a name, if it is the name n
abbrev if_named : Token → Name → NamedData → List NamedData
if_named t n m = if bytes_eq t.text n then m ∷ [] else []

named_adds : (ds : Declared) (i : ℕ) (n : Name) (k : Bool) → IsPlace ds i n k → (is_set : Bool) (t : Token) (m : ℕ → NamedData) (all more : Sorted) → length all ≡ length ds → with_named ds is_set t m all ≡ Ok more
    → Adds i all more (if_named t n (m i))
named_adds ds i n k h is_set t m all more size e =
    then_ok (target ds is_set t) (λ j. Ok (with_named_data j (m j) all)) more e (λ j f g.
    let found = (target_is ds is_set t j f).found in
    subst (λ u. Adds i all u (if_named t n (m i))) (is_ok (with_named_data j (m j) all) more g) (go j found (nat_eq j i) refl (h.reports t.text j is_set found)))
  where
    go : (j : ℕ) → located 0 ds t.text ≡ Some (j, is_set) → (b : Bool) → nat_eq j i ≡ b → bytes_eq t.text n ≡ nat_eq j i → Adds i all (with_named_data j (m j) all) (if_named t n (m i))
    go j found true same alike =
        let here = eqb-true j i same in
        let within = h.within in
        record {
          size = length-set all j (slice_index_or all j [] ++ m j ∷ []);
          at =
              ap (λ z. slice_index_or (slice_set all z (slice_index_or all z [] ++ m z ∷ [])) i []) here
              ∙ get_or-set_same all i (slice_index_or all i [] ++ m i ∷ []) [] (omega (arith, within, size))
              ∙ ap (λ (b : Bool). slice_index_or all i [] ++ (if b then m i ∷ [] else [])) (sym (alike ∙ same));
        }
    go j found false other alike = record {
      size = length-set all j (slice_index_or all j [] ++ m j ∷ []);
      at =
          get_or-set_other all j i (slice_index_or all j [] ++ m j ∷ []) [] (λ same. absurd (let yes = same_number j i (sym same) in cc))
          ∙ sym (append-nil (slice_index_or all i []))
          ∙ ap (λ (b : Bool). slice_index_or all i [] ++ (if b then m i ∷ [] else [])) (sym (alike ∙ other));
    }

-- ---- headings

headed_adds : (ds : Declared) (i : ℕ) (n : Name) (k : Bool) → IsPlace ds i n k → (first values : ℕ) (cells : List Token) (place : ℕ) (ts : List Token) (all more : Sorted) → length all ≡ length ds
    → headed ds first values cells place ts all ≡ Ok more → Adds i all more (headed_for first values cells place n ts)
headed_adds ds i n k h first values cells place [] all more size e = subst (λ u. Adds i all u []) (is_ok all more e) (adds_none i all)
headed_adds ds i n k h first values cells place (t ∷ ts) all more size e =
    then_ok (with_named ds false t (λ j. named t None (grouped first values place cells)) all) (headed ds first values cells (place + 1) ts) more e (λ next f g.
    let here = named_adds ds i n k h false t (λ j. named t None (grouped first values place cells)) all next size f in
    adds_both i all next more _ _ here (headed_adds ds i n k h first values cells (place + 1) ts next more (here.size ∙ size) g))

set_adds : (ds : Declared) (i : ℕ) (n : Name) (k : Bool) → IsPlace ds i n k → (first values : ℕ) (cells : List Token) (s : Option NamedSet) (all more : Sorted) → length all ≡ length ds
    → set_headed ds first values cells s all ≡ Ok more → Adds i all more (set_for first values cells n s)
set_adds ds i n k h first values cells None all more size e = subst (λ u. Adds i all u []) (is_ok all more e) (adds_none i all)
set_adds ds i n k h first values cells (Some s) all more size e = named_adds ds i n k h true s.name (λ j. named s.name None (grouped first values 0 cells)) all more size e

columns_add : (ds : Declared) (i : ℕ) (n : Name) (k : Bool) → IsPlace ds i n k → (c : ColumnsStatement) (all more : Sorted) → length all ≡ length ds → in_columns ds c.set c.names c.cells all ≡ Ok more
    → Adds i all more (set_for (leader ds c) (length c.names) c.cells n c.set ++ headed_for (leader ds c) (length c.names) c.cells 0 n c.names)
columns_add ds i n k h c all more size e =
    then_ok (and_then (set_first ds c.set) (first_of ds c.names)) _ more e (λ first f g.
    then_ok (set_headed ds (or_zero first) (length c.names) c.cells c.set all) (headed ds (or_zero first) (length c.names) c.cells 0 c.names) more g (λ next p q.
    let of_set = set_adds ds i n k h (or_zero first) (length c.names) c.cells c.set all next size p in
    let of_names = headed_adds ds i n k h (or_zero first) (length c.names) c.cells 0 c.names next more (of_set.size ∙ size) q in
    subst (λ l. Adds i all more (set_for l (length c.names) c.cells n c.set ++ headed_for l (length c.names) c.cells 0 n c.names)) (sym (ap (λ o. leader_in o) f)) (adds_both i all next more _ _ of_set of_names)))

-- ---- statements

statement_adds : (ds : Declared) (i : ℕ) (n : Name) (k : Bool) → IsPlace ds i n k → (s : Statement) (all more : Sorted) → length all ≡ length ds → in_statement ds s all ≡ Ok more → Adds i all more (data_in ds i n s)
statement_adds ds i n k h (Set s) all more size e = named_adds ds i n k h true s.name (λ j. named s.name None (given.Members s.items)) all more size e
statement_adds ds i n k h (Listed l) all more size e =
    named_adds ds i n k h false l.name (λ j. named l.name (default_word l.default) (grouped j 1 0 (given_cells l.given))) all more size e
statement_adds ds i n k h (Table t) all more size e =
    named_adds ds i n k h false t.name (λ j. named t.name (default_word t.default) (gridded (is_some t.transposed) t.columns t.cells)) all more size e
statement_adds ds i n k h (Columns c) all more size e = columns_add ds i n k h c all more size e

statements_add : (ds : Declared) (i : ℕ) (n : Name) (k : Bool) → IsPlace ds i n k → (ss : List Statement) (all more : Sorted) → length all ≡ length ds → each (in_statement ds) ss all ≡ Ok more → Adds i all more (data_for ds i n ss)
statements_add ds i n k h [] all more size e = subst (λ u. Adds i all u []) (is_ok all more e) (adds_none i all)
statements_add ds i n k h (s ∷ ss) all more size e =
    then_ok (in_statement ds s all) (each (in_statement ds) ss) more e (λ next f g.
    let here = statement_adds ds i n k h s all next size f in
    adds_both i all next more _ _ here (statements_add ds i n k h ss next more (here.size ∙ size) g))

unsaid_size : (ds : Declared) → length (no_data ds) ≡ length ds
unsaid_size [] = refl
unsaid_size (d ∷ ds) = ap suc (unsaid_size ds)

unsaid_none : (ds : Declared) (i : ℕ) → slice_index_or (no_data ds) i [] ≡ []
unsaid_none [] i = refl
unsaid_none (d ∷ ds) zero = refl
unsaid_none (d ∷ ds) (suc i) = unsaid_none ds i

-- the data that are sorted for a declared name
pub sorted_by_name : (ds : List Declaration) (ss : List Statement) (all : Sorted) → AreNew [] ds → data_by_name (declared ds) ss ≡ Ok all → (i : ℕ) (n : Name) (k : Bool) → slice_get (declared ds) i ≡ Some (n, k)
    → slice_index_or all i [] ≡ data_for (declared ds) i n ss
sorted_by_name ds ss all new e i n k at =
    (statements_add (declared ds) i n k (place_is ds new i n k at) ss (no_data (declared ds)) all (unsaid_size (declared ds)) e).at
    ∙ ap (λ z. z ++ data_for (declared ds) i n ss) (unsaid_none (declared ds) i)
