-- The names, lines and values of declarations with their rows, one declaration after the other.
use Rattle.std.proofs.Common.{◌≡◌, ℕ, zero, suc, ◌+◌, ◌≤◌, ◌<◌, Bool, true, false, List, [], ◌∷◌, ◌++◌, length, map, take, drop, ℤ, refl, sym, ap, ◌∙◌, append_assoc, arith, length-append, length-drop, get_or, add-one, pos}
use Rattle.std.specs.Prelude.{Some, slice_get, if◌then◌else◌}
use Rattle.std.specs.List.{flat_map}
use Rattle.std.proofs.lemmas.List.{map-append, length-map, drop_all}
use Rattle.std.proofs.Math.Seq.{drop-cons}
use Rattle.net_sets.specs.Sets.{Tuple}
use Rattle.net_expr.specs.declared.row.Row.{Row}
use Rattle.net_expr.specs.Rows.{keys_of}
use Rattle.net_inst.specs.declared.network_names.Declared.{Declared}
use Rattle.net_inst.specs.declared.network_names.DeclaredRows.{DeclaredRows}
use Rattle.net_inst.specs.Lists.{keyed, keyed_rows, listed_rows}
use Rattle.net_report.specs.References.{declared_name, name_in, names_in, names_of}
use Rattle.net_report.specs.Links as links
use Rattle.net_report.specs.Cuts as cuts

-- the items from the one with this index on
pub left_at : {A : Type 0} (xs : List A) (i : ℕ) (x : A) → i < length xs → x ≡ get_or xs i x → drop i xs ≡ x ∷ drop (i + 1) xs
left_at xs i x inside is = let a = drop-cons xs i x inside in let b = add-one i in cc

abbrev Name : Type 0
Name = List ℕ

abbrev declared : DeclaredRows → Declared
declared x = x.declared

get_at : (pre : List DeclaredRows) (x : DeclaredRows) (xs : List DeclaredRows) → slice_get (map declared (pre ++ x ∷ xs)) (length pre) ≡ Some (declared x)
get_at [] x xs = refl
get_at (p ∷ pre) x xs = get_at pre x xs

own_names : (decls : List Declared) (d : ℕ) (x : DeclaredRows) (rows : List Row) → slice_get decls d ≡ Some (declared x)
    → map (name_in decls) (map (keyed d) rows) ≡ map (λ (row : Row). declared_name (Some x.declared) row.key) rows
own_names decls d x [] h = refl
own_names decls d x (row ∷ rows) h = λ i. declared_name (h i) row.key ∷ own_names decls d x rows h i

names_from : (pre xs : List DeclaredRows) → map (name_in (map declared (pre ++ xs))) (keyed_rows (length pre) xs) ≡ flat_map names_of xs
names_from pre [] = refl
names_from pre (x ∷ xs) =
    let decls = map declared (pre ++ x ∷ xs) in
    let d = length pre in
    let more : map (name_in decls) (keyed_rows (suc d) xs) ≡ flat_map names_of xs =
    ap (λ (l : List DeclaredRows). map (name_in (map declared l)) (keyed_rows (suc d) xs)) (sym (append_assoc pre (x ∷ []) xs))
    ∙ ap (λ (n : ℕ). map (name_in (map declared ((pre ++ x ∷ []) ++ xs))) (keyed_rows n xs)) (let e : suc d ≡ length (pre ++ x ∷ []) = omega (arith, length-append pre (x ∷ [])) in e)
    ∙ names_from (pre ++ x ∷ []) xs in
    map-append (name_in decls) (map (keyed d) x.rows) (keyed_rows (suc d) xs)
    ∙ ap (λ (l : List Name). l ++ map (name_in decls) (keyed_rows (suc d) xs)) (own_names decls d x x.rows (get_at pre x xs))
    ∙ ap (λ (l : List Name). names_of x ++ l) more

-- the names of all declarations
pub names_listed : (xs : List DeclaredRows) → names_in (listed_rows xs) ≡ flat_map names_of xs
names_listed xs = names_from [] xs

pub name_count : (xs : List DeclaredRows) → length (listed_rows xs).keys ≡ length (flat_map names_of xs)
name_count xs = sym (length-map (listed_rows xs).keys (name_in (listed_rows xs).declarations)) ∙ ap length (names_listed xs)

pub own_count : (x : DeclaredRows) → length (names_of x) ≡ length x.rows
own_count x = length-map x.rows (λ (row : Row). declared_name (Some x.declared) row.key)

-- ---- lines

pub nodes_split : (n : ℕ) (xs ys : List Name) → links.node_lines n (xs ++ ys) ≡ links.node_lines n xs ++ links.node_lines (n + length xs) ys
nodes_split n [] ys = ap (λ (k : ℕ). links.node_lines k ys) (let e : n ≡ n + 0 = omega arith in e)
nodes_split n (x ∷ xs) ys =
    ap (λ (l : List ℕ). links.node_line (n + 1) x ++ l)
    (nodes_split (n + 1) xs ys ∙ ap (λ (k : ℕ). links.node_lines (n + 1) xs ++ links.node_lines k ys) (let e : n + 1 + length xs ≡ n + length (x ∷ xs) = omega arith in e))
    ∙ sym (append_assoc (links.node_line (n + 1) x) (links.node_lines (n + 1) xs) (links.node_lines (n + length (x ∷ xs)) ys))

pub arcs_split : (xs ys : List Name) (numbers : List ℕ) (offsets : List ℤ) → length xs ≤ length numbers → length xs ≤ length offsets
    → links.arc_lines numbers offsets (xs ++ ys)
    ≡ links.arc_lines (take (length xs) numbers) (take (length xs) offsets) xs ++ links.arc_lines (drop (length xs) numbers) (drop (length xs) offsets) ys
arcs_split [] ys numbers offsets h k = refl
arcs_split (x ∷ xs) ys [] offsets h k = absurd (omega (arith, h))
arcs_split (x ∷ xs) ys (n ∷ numbers) [] h k = absurd (omega (arith, k))
arcs_split (x ∷ xs) ys (n ∷ numbers) (o ∷ offsets) h k =
    ap (λ (l : List ℕ). links.arc_line n o x ++ l) (arcs_split xs ys numbers offsets (omega (arith, h)) (omega (arith, k)))
    ∙ sym (append_assoc (links.arc_line n o x) (links.arc_lines (take (length xs) numbers) (take (length xs) offsets) xs) (links.arc_lines (drop (length xs) numbers) (drop (length xs) offsets) ys))

pub cut_split : (xs ys : List Name) (flags : List Bool) → length xs ≤ length flags
    → cuts.node_lines flags (xs ++ ys) ≡ cuts.node_lines (take (length xs) flags) xs ++ cuts.node_lines (drop (length xs) flags) ys
cut_split [] ys flags h = refl
cut_split (x ∷ xs) ys [] h = absurd (omega (arith, h))
cut_split (x ∷ xs) ys (f ∷ flags) h =
    ap (λ (l : List ℕ). (if f then cuts.node_line x else []) ++ l) (cut_split xs ys flags (omega (arith, h)))
    ∙ sym (append_assoc (if f then cuts.node_line x else []) (cuts.node_lines (take (length xs) flags) xs) (cuts.node_lines (drop (length xs) flags) ys))

pub none_left : (flags : List Bool) → cuts.node_lines flags [] ≡ []
none_left [] = refl
none_left (f ∷ flags) = refl

pub no_arcs_left : (numbers : List ℕ) (offsets : List ℤ) → links.arc_lines numbers offsets [] ≡ []
no_arcs_left numbers offsets = refl

-- ---- declarations and rows in turn

name_at : (one : Declared) (rows : List Row) (k : ℕ) → k < length rows
    → get_or (map (λ (row : Row). declared_name (Some one) row.key) rows) k [] ≡ declared_name (Some one) (get_or (map (λ (row : Row). row.key) rows) k [])
name_at one [] k inside = absurd (omega (arith, inside))
name_at one (r ∷ rows) zero inside = refl
name_at one (r ∷ rows) (suc k) inside = name_at one rows k (omega (arith, inside))

-- the names from the row with this index on
pub names_next : (x : DeclaredRows) (k : ℕ) (key : Tuple) → k < length x.rows → key ≡ get_or (keys_of x.rows) k []
    → drop k (names_of x) ≡ declared_name (Some x.declared) key ∷ drop (k + 1) (names_of x)
names_next x k key inside is =
    drop-cons (names_of x) k [] (omega (arith, inside, own_count x))
    ∙ ap (λ (n : Name). n ∷ drop (suc k) (names_of x)) (name_at x.declared x.rows k inside ∙ ap (declared_name (Some x.declared)) (sym is))
    ∙ ap (λ (n : ℕ). declared_name (Some x.declared) key ∷ drop n (names_of x)) (sym (add-one k))

pub none_next : (x : DeclaredRows) (k : ℕ) → length x.rows ≤ k → drop k (names_of x) ≡ []
none_next x k past = drop_all k (names_of x) (omega (arith, past, own_count x))

pub declared_next : (xs : List DeclaredRows) (k : ℕ) (x : DeclaredRows) → k < length xs → x ≡ get_or xs k x → flat_map names_of (drop k xs) ≡ names_of x ++ flat_map names_of (drop (k + 1) xs)
declared_next xs k x inside is =
    ap (flat_map names_of) (left_at xs k x inside is)

pub declared_end : (xs : List DeclaredRows) (k : ℕ) → length xs ≤ k → flat_map names_of (drop k xs) ≡ []
declared_end xs k past = ap (flat_map names_of) (drop_all k xs past)

pub node_at : (count k : ℕ) (names : List Name) (name : Name) → drop k names ≡ name ∷ drop (k + 1) names
    → links.node_lines (count + k) (drop k names) ≡ links.node_line (count + k + 1) name ++ links.node_lines (count + (k + 1)) (drop (k + 1) names)
node_at count k names name is =
    ap (links.node_lines (count + k)) is
    ∙ ap (λ (n : ℕ). links.node_line (count + k + 1) name ++ links.node_lines n (drop (k + 1) names)) (let e : count + k + 1 ≡ count + (k + 1) = omega arith in e)

pub arc_at : (numbers : List ℕ) (offsets : List ℤ) (names : List Name) (k : ℕ) (name : Name) → k < length numbers → k < length offsets → drop k names ≡ name ∷ drop (k + 1) names
    → links.arc_lines (drop k numbers) (drop k offsets) (drop k names)
    ≡ links.arc_line (get_or numbers k 0) (get_or offsets k (pos 0)) name ++ links.arc_lines (drop (k + 1) numbers) (drop (k + 1) offsets) (drop (k + 1) names)
arc_at numbers offsets names k name in_numbers in_offsets is =
    let next_number : drop k numbers ≡ get_or numbers k 0 ∷ drop (k + 1) numbers = drop-cons numbers k 0 in_numbers ∙ ap (λ (n : ℕ). get_or numbers k 0 ∷ drop n numbers) (sym (add-one k)) in
    let next_offset : drop k offsets ≡ get_or offsets k (pos 0) ∷ drop (k + 1) offsets = drop-cons offsets k (pos 0) in_offsets ∙ ap (λ (n : ℕ). get_or offsets k (pos 0) ∷ drop n offsets) (sym (add-one k)) in
    ap (λ (l : List ℕ). links.arc_lines l (drop k offsets) (drop k names)) next_number
    ∙ ap (λ (l : List ℤ). links.arc_lines (get_or numbers k 0 ∷ drop (k + 1) numbers) l (drop k names)) next_offset
    ∙ ap (λ (l : List Name). links.arc_lines (get_or numbers k 0 ∷ drop (k + 1) numbers) (get_or offsets k (pos 0) ∷ drop (k + 1) offsets) l) is

-- the arcs of a declaration, and those after them
pub record ArcsTurn (x : DeclaredRows) (rest : List Name) (numbers own_numbers later_numbers : List ℕ) (offsets own_offsets later_offsets : List ℤ) : Type 0 where
  pub lines : links.arc_lines numbers offsets (names_of x ++ rest) ≡ links.arc_lines own_numbers own_offsets (names_of x) ++ links.arc_lines later_numbers later_offsets rest
  pub numbers_left : length later_numbers ≡ length rest
  pub offsets_left : length later_offsets ≡ length rest

pub arcs_turn : (x : DeclaredRows) (rest : List Name) (n : ℕ) (numbers own_numbers later_numbers : List ℕ) (offsets own_offsets later_offsets : List ℤ) → n ≡ length x.rows
    → own_numbers ≡ take n numbers → later_numbers ≡ drop n numbers → own_offsets ≡ take n offsets → later_offsets ≡ drop n offsets
    → length numbers ≡ length (names_of x ++ rest) → length offsets ≡ length (names_of x ++ rest) → ArcsTurn x rest numbers own_numbers later_numbers offsets own_offsets later_offsets
arcs_turn x rest n numbers own_numbers later_numbers offsets own_offsets later_offsets is e₁ e₂ e₃ e₄ h k =
    let size : length (names_of x) ≡ n = own_count x ∙ sym is in
    let both = length-append (names_of x) rest in
    record {
      lines =
          arcs_split (names_of x) rest numbers offsets (omega (arith, h, both)) (omega (arith, k, both))
          ∙ ap (λ (m : ℕ). links.arc_lines (take m numbers) (take m offsets) (names_of x) ++ links.arc_lines (drop m numbers) (drop m offsets) rest) size
          ∙ ap (λ (l : List ℕ). links.arc_lines l (take n offsets) (names_of x) ++ links.arc_lines (drop n numbers) (drop n offsets) rest) (sym e₁)
          ∙ ap (λ (l : List ℤ). links.arc_lines own_numbers l (names_of x) ++ links.arc_lines (drop n numbers) (drop n offsets) rest) (sym e₃)
          ∙ ap (λ (l : List ℕ). links.arc_lines own_numbers own_offsets (names_of x) ++ links.arc_lines l (drop n offsets) rest) (sym e₂)
          ∙ ap (λ (l : List ℤ). links.arc_lines own_numbers own_offsets (names_of x) ++ links.arc_lines later_numbers l rest) (sym e₄);
      numbers_left = omega (arith, ap length e₂, length-drop n numbers, h, both, size);
      offsets_left = omega (arith, ap length e₄, length-drop n offsets, k, both, size);
    }

pub cut_at : (flags : List Bool) (names : List Name) (k : ℕ) (name : Name) → k < length flags → drop k names ≡ name ∷ drop (k + 1) names
    → cuts.node_lines (drop k flags) (drop k names) ≡ (if get_or flags k false then cuts.node_line name else []) ++ cuts.node_lines (drop (k + 1) flags) (drop (k + 1) names)
cut_at flags names k name inside is =
    ap (λ (l : List Bool). cuts.node_lines l (drop k names)) (drop-cons flags k false inside ∙ ap (λ (n : ℕ). get_or flags k false ∷ drop n flags) (sym (add-one k)))
    ∙ ap (cuts.node_lines (get_or flags k false ∷ drop (k + 1) flags)) is

pub cut_in : (flags : List Bool) (names : List Name) (k : ℕ) (name text : List ℕ) → k < length flags → drop k names ≡ name ∷ drop (k + 1) names → get_or flags k false ≡ true
    → (text ++ cuts.node_line name) ++ cuts.node_lines (drop (k + 1) flags) (drop (k + 1) names) ≡ text ++ cuts.node_lines (drop k flags) (drop k names)
cut_in flags names k name text inside is flag =
    append_assoc text (cuts.node_line name) (cuts.node_lines (drop (k + 1) flags) (drop (k + 1) names))
    ∙ ap (λ (l : List ℕ). text ++ l)
    (ap (λ (b : Bool). (if b then cuts.node_line name else []) ++ cuts.node_lines (drop (k + 1) flags) (drop (k + 1) names)) (sym flag) ∙ sym (cut_at flags names k name inside is))

pub cut_out : (flags : List Bool) (names : List Name) (k : ℕ) (name text : List ℕ) → k < length flags → drop k names ≡ name ∷ drop (k + 1) names → get_or flags k false ≡ false
    → text ++ cuts.node_lines (drop (k + 1) flags) (drop (k + 1) names) ≡ text ++ cuts.node_lines (drop k flags) (drop k names)
cut_out flags names k name text inside is flag =
    ap (λ (l : List ℕ). text ++ l)
    (ap (λ (b : Bool). (if b then cuts.node_line name else []) ++ cuts.node_lines (drop (k + 1) flags) (drop (k + 1) names)) (sym flag) ∙ sym (cut_at flags names k name inside is))
