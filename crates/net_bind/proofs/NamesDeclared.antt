-- Data statements that are accepted name declared sets and parameters alone.
use Rattle.std.specs.Prelude.{◌≡◌, ◌+◌, ℕ, suc, Bool, true, false, List, [], ◌∷◌, length, Option, None, Some, if◌then◌else◌, Ok}
use Rattle.std.specs.List.{AllByRecursion, Contains}
use Rattle.std.specs.Option.{ForSome}
use Rattle.std.specs.Str.{bytes_eq}
use Rattle.std.proofs.Common.{refl, sym, ◌∙◌, subst, arith}
use Rattle.net_lex.specs.declared.token.Token.{Token}
use Rattle.net_data.specs.declared.statement.NamedSet.{NamedSet}
use Rattle.net_data.specs.declared.statement.Statement.{Statement}
use Rattle.net_data.specs.declared.statement.Statement.TheVariants.{Set, List as Listed, Table, Columns}
use Rattle.net_tree.specs.Tree.{Declaration, set, param, check, node, arc, objective}
use Rattle.net_expr.specs.Worlds.{Name}
use Rattle.net_base.specs.Outcomes.{and_then, each}
use Rattle.net_meaning.specs.OfTrees.{sets_in, params_in, AreDeclared}
use Rattle.net_meaning.specs.World.{is_set_named, AreNamesIn}
use Rattle.net_bind.specs.declared.given.NamedData.{NamedData}
use Rattle.net_bind.specs.DataByName.{Sorted, no_data, with_named_data, with_named, set_first, first_of, or_zero, headed, set_headed, in_statement, data_by_name}
use Rattle.net_bind.specs.DataValues.{NamesNoSet}
use Rattle.net_sets.specs.Names.{located}
use Rattle.net_bind.specs.Names.{Declared, declared, target}
use Rattle.net_bind.proofs.RowsTaken.{then_ok}
use Rattle.net_bind.proofs.Sorting.{same_name, pairs, target_is}

-- the token names a declared set, or a declared parameter
abbrev pub IsNamed : Declared → Bool → Token → Type 0
IsNamed ds is_set t = (j : ℕ) × (located 0 ds t.text ≡ Some (j, is_set))

abbrev pub AreNamed : Declared → Statement → Type 0
AreNamed ds (Set s) = IsNamed ds true s.name
AreNamed ds (Listed l) = IsNamed ds false l.name
AreNamed ds (Table t) = IsNamed ds false t.name
AreNamed ds (Columns c) = ForSome c.set (λ s. IsNamed ds true s.name) × AllByRecursion (IsNamed ds false) c.names

-- ---- what is accepted names what is declared

one_named : (ds : Declared) (is_set : Bool) (t : Token) (m : ℕ → NamedData) (all more : Sorted) → with_named ds is_set t m all ≡ Ok more → IsNamed ds is_set t
one_named ds is_set t m all more e = then_ok (target ds is_set t) (λ j. Ok (with_named_data j (m j) all)) more e (λ j f g. (j, (target_is ds is_set t j f).found))

headed_named : (ds : Declared) (first values : ℕ) (cells : List Token) (place : ℕ) (ts : List Token) (all more : Sorted) → headed ds first values cells place ts all ≡ Ok more → AllByRecursion (IsNamed ds false) ts
headed_named ds first values cells place [] all more e = tt
headed_named ds first values cells place (t ∷ ts) all more e =
    then_ok (with_named ds false t _ all) (headed ds first values cells (place + 1) ts) more e (λ next f g.
    (one_named ds false t _ all next f, headed_named ds first values cells (place + 1) ts next more g))

set_named : (ds : Declared) (first values : ℕ) (cells : List Token) (o : Option NamedSet) (all more : Sorted) → set_headed ds first values cells o all ≡ Ok more → ForSome o (λ s. IsNamed ds true s.name)
set_named ds first values cells None all more e = λ s f. cc
set_named ds first values cells (Some s) all more e = λ z f. subst (λ (z : NamedSet). IsNamed ds true z.name) (same s z f) (one_named ds true s.name _ all more e)
  where
    same : (s z : NamedSet) → Some s ≡ Some z → s ≡ z
    same s z f = cc

statement_named : (ds : Declared) (s : Statement) (all more : Sorted) → in_statement ds s all ≡ Ok more → AreNamed ds s
statement_named ds (Set s) all more e = one_named ds true s.name _ all more e
statement_named ds (Listed l) all more e = one_named ds false l.name _ all more e
statement_named ds (Table t) all more e = one_named ds false t.name _ all more e
statement_named ds (Columns c) all more e =
    then_ok (and_then (set_first ds c.set) (first_of ds c.names)) _ more e (λ first f g.
    then_ok (set_headed ds (or_zero first) (length c.names) c.cells c.set all) (headed ds (or_zero first) (length c.names) c.cells 0 c.names) more g (λ next p q.
    (set_named ds (or_zero first) (length c.names) c.cells c.set all next p, headed_named ds (or_zero first) (length c.names) c.cells 0 c.names next more q)))

statements_named : (ds : Declared) (ss : List Statement) (all more : Sorted) → each (in_statement ds) ss all ≡ Ok more → AllByRecursion (AreNamed ds) ss
statements_named ds [] all more e = tt
statements_named ds (s ∷ ss) all more e =
    then_ok (in_statement ds s all) (each (in_statement ds) ss) more e (λ next f g. (statement_named ds s all next f, statements_named ds ss next more g))

pub all_named : (ds : Declared) (ss : List Statement) (all : Sorted) → data_by_name ds ss ≡ Ok all → AllByRecursion (AreNamed ds) ss
all_named ds ss all e = statements_named ds ss (no_data ds) all e

-- ---- declared names by kind

first_name : (n m : Name) (ns : List Name) → bytes_eq n m ≡ true → Contains (n ∷ ns) m
first_name n m ns e = (0, omega arith, same_name n m e)

later_name : (n m : Name) (ns : List Name) → Contains ns m → Contains (n ∷ ns) m
later_name n m ns (k, within, is) = (suc k, omega (arith, within), is)

-- in the first declaration or in a later one
either_name : (b k : Bool) (m n : Name) (o : ℕ) (ds : Declared) (j : ℕ) (P : Type 0) → (if bytes_eq n m then Some (o, k) else located (o + 1) ds m) ≡ Some (j, b) → (bytes_eq n m ≡ true → k ≡ b → P)
    → (located (o + 1) ds m ≡ Some (j, b) → P) → P
either_name b k m n o ds j P e here later = go (bytes_eq n m) refl e
  where
    go : (t : Bool) → bytes_eq n m ≡ t → (if t then Some (o, k) else located (o + 1) ds m) ≡ Some (j, b) → P
    go true s f = here s (pairs o j k b f).1
    go false s f = later f

declared_set : (o : ℕ) (ds : List Declaration) (m : Name) (j : ℕ) → located o (declared ds) m ≡ Some (j, true) → Contains (sets_in ds) m
declared_set o [] m j e = cc
declared_set o (set w n ps z ∷ ds) m j e =
    either_name true true m n.text o (declared ds) j (Contains (n.text ∷ sets_in ds) m) e (λ s k. first_name n.text m (sets_in ds) s) (λ f. later_name n.text m (sets_in ds) (declared_set (o + 1) ds m j f))
declared_set o (param w n b ps z ∷ ds) m j e = either_name true false m n.text o (declared ds) j (Contains (sets_in ds) m) e (λ s k. cc) (λ f. declared_set (o + 1) ds m j f)
declared_set o (check w b c x z ∷ ds) m j e = declared_set o ds m j e
declared_set o (node w n b c z ∷ ds) m j e = declared_set o ds m j e
declared_set o (arc w n b ps z ∷ ds) m j e = declared_set o ds m j e
declared_set o (objective w n p z ∷ ds) m j e = declared_set o ds m j e

declared_param : (o : ℕ) (ds : List Declaration) (m : Name) (j : ℕ) → located o (declared ds) m ≡ Some (j, false) → Contains (params_in ds) m
declared_param o [] m j e = cc
declared_param o (set w n ps z ∷ ds) m j e = either_name false true m n.text o (declared ds) j (Contains (params_in ds) m) e (λ s k. cc) (λ f. declared_param (o + 1) ds m j f)
declared_param o (param w n b ps z ∷ ds) m j e =
    either_name false false m n.text o (declared ds) j (Contains (n.text ∷ params_in ds) m) e (λ s k. first_name n.text m (params_in ds) s) (λ f. later_name n.text m (params_in ds) (declared_param (o + 1) ds m j f))
declared_param o (check w b c x z ∷ ds) m j e = declared_param o ds m j e
declared_param o (node w n b c z ∷ ds) m j e = declared_param o ds m j e
declared_param o (arc w n b ps z ∷ ds) m j e = declared_param o ds m j e
declared_param o (objective w n p z ∷ ds) m j e = declared_param o ds m j e

as_sets : (ds : List Declaration) (t : Token) → IsNamed (declared ds) true t → AreNamesIn (sets_in ds) (t ∷ [])
as_sets ds t (j, e) = (declared_set 0 ds t.text j e, tt)

as_param : (ds : List Declaration) (t : Token) → IsNamed (declared ds) false t → Contains (params_in ds) t.text
as_param ds t (j, e) = declared_param 0 ds t.text j e

as_params : (ds : List Declaration) (ts : List Token) → AllByRecursion (IsNamed (declared ds) false) ts → AreNamesIn (params_in ds) ts
as_params ds [] h = tt
as_params ds (t ∷ ts) h = (as_param ds t h.0, as_params ds ts h.1)

statement_declared : (ds : List Declaration) (s : Statement) → AreNamed (declared ds) s → AreDeclared ds s
statement_declared ds (Set s) h = as_sets ds s.name h
statement_declared ds (Listed l) h = (as_param ds l.name h, tt)
statement_declared ds (Table t) h = (as_param ds t.name h, tt)
statement_declared ds (Columns c) h = (λ s e. as_sets ds s.name (h.0 s e), as_params ds c.names h.1)

all_declared : (ds : List Declaration) (ss : List Statement) → AllByRecursion (AreNamed (declared ds)) ss → AllByRecursion (AreDeclared ds) ss
all_declared ds [] h = tt
all_declared ds (s ∷ ss) h = (statement_declared ds s h.0, all_declared ds ss h.1)

pub names_are_declared : (ds : List Declaration) (ss : List Statement) (all : Sorted) → data_by_name (declared ds) ss ≡ Ok all → AllByRecursion (AreDeclared ds) ss
names_are_declared ds ss all e = all_declared ds ss (all_named (declared ds) ss all e)

-- ---- a name of one kind

-- what names sets does not name a parameter, and the other way round
pub other_kind : (ds : Declared) (n : Name) (i : ℕ) (k : Bool) (t : Token) (b : Bool) → located 0 ds n ≡ Some (i, k) → IsNamed ds b t → (k ≡ b → ⊥) → bytes_eq t.text n ≡ false
other_kind ds n i k t b own (j, e) apart = go (bytes_eq t.text n) refl
  where
    go : (c : Bool) → bytes_eq t.text n ≡ c → c ≡ false
    go true s =
        let copied : located 0 ds t.text ≡ Some (i, k) = subst (λ z. located 0 ds z ≡ Some (i, k)) (sym (same_name t.text n s)) own in
        absurd (apart (pairs i j k b (sym copied ∙ e)).1)
    go false s = refl

-- no statement names a parameter n
abbrev pub NamesNoParameter : Name → Statement → Type 0
NamesNoParameter n (Set s) = Unit {0}
NamesNoParameter n (Listed l) = bytes_eq l.name.text n ≡ false
NamesNoParameter n (Table t) = bytes_eq t.name.text n ≡ false
NamesNoParameter n (Columns c) = AllByRecursion (λ (t : Token). bytes_eq t.text n ≡ false) c.names

true_false : true ≡ false → ⊥
true_false e = cc

false_true : false ≡ true → ⊥
false_true e = cc

none_of : (ds : Declared) (n : Name) (i : ℕ) → located 0 ds n ≡ Some (i, true) → (ts : List Token) → AllByRecursion (IsNamed ds false) ts → AllByRecursion (λ (t : Token). bytes_eq t.text n ≡ false) ts
none_of ds n i own [] h = tt
none_of ds n i own (t ∷ ts) h = (other_kind ds n i true t false own h.0 true_false, none_of ds n i own ts h.1)

pub no_parameter : (ds : Declared) (n : Name) (i : ℕ) → located 0 ds n ≡ Some (i, true) → (s : Statement) → AreNamed ds s → NamesNoParameter n s
no_parameter ds n i own (Set s) h = tt
no_parameter ds n i own (Listed l) h = other_kind ds n i true l.name false own h true_false
no_parameter ds n i own (Table t) h = other_kind ds n i true t.name false own h true_false
no_parameter ds n i own (Columns c) h = none_of ds n i own c.names h.1

pub no_set : (ds : Declared) (n : Name) (i : ℕ) → located 0 ds n ≡ Some (i, false) → (s : Statement) → AreNamed ds s → NamesNoSet n s
no_set ds n i own (Set s) h = tt
no_set ds n i own (Listed l) h = tt
no_set ds n i own (Table t) h = tt
no_set ds n i own (Columns c) h = go c.set h.0
  where
    go : (o : Option NamedSet) → ForSome o (λ s. IsNamed ds true s.name) → is_set_named o n ≡ false
    go None k = refl
    go (Some s) k = other_kind ds n i false s.name true own (k s refl) false_true

pub all_with : {A : Type 0} (P Q : A → Type 0) → ((x : A) → P x → Q x) → (xs : List A) → AllByRecursion P xs → AllByRecursion Q xs
all_with P Q f [] h = tt
all_with P Q f (x ∷ xs) h = (f x h.0, all_with P Q f xs h.1)
