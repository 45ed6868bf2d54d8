-- The plan of declarations with their rows, one declaration after the other.
use Rattle.std.proofs.Common.{◌≡◌, ℕ, suc, ◌+◌, ◌≤◌, ◌<◌, Bool, true, false, cond, List, [], ◌∷◌, ◌++◌, length, map, take, drop, ℤ, codes, refl, ap, ◌∙◌, arith, length-append, length-take, length-drop}
use Rattle.std.specs.Prelude.{nat_eq, if◌then◌else◌}
use Rattle.std.specs.List.{flat_map, zip, take_while, prefix_len}
use Rattle.std.proofs.lemmas.Bool.Decides.{nat_tests}
use Rattle.std.proofs.lemmas.List.{length-map}
use Rattle.net_expr.specs.declared.row.Row.{Row}
use Rattle.net_expr.specs.Rows.{keys_of}
use Rattle.net_inst.specs.declared.network_names.DeclaredRows.{DeclaredRows}
use Rattle.net_inst.specs.Lists.{Key, keyed, keyed_rows}
use Rattle.net_report.specs.Displays.{Assigned, value_line, row, key_row, key_rows, declared_block, block, blocks, is_of}

-- the declarations, each with the values of its arcs
abbrev pub declared_blocks : List DeclaredRows → List ℤ → List ℕ
declared_blocks [] numbers = []
declared_blocks (x ∷ xs) numbers = declared_block x (take (length x.rows) numbers) ++ declared_blocks xs (drop (length x.rows) numbers)

same : (d : ℕ) → nat_eq d d ≡ true
same d = grind (arith, nat_tests)

later : (d e : ℕ) → d < e → nat_eq e d ≡ false
later d e l = grind (arith, nat_tests)

-- the arcs of later declarations are none of declaration d
none_within : (d e : ℕ) (rows : List Row) (more : List Key) (zs : List ℤ) → d < e → ((zs : List ℤ) → prefix_len (is_of d) (zip more zs) ≡ 0)
    → prefix_len (is_of d) (zip (map (keyed e) rows ++ more) zs) ≡ 0
none_within d e [] more zs l h = h zs
none_within d e (r ∷ rows) more [] l h = refl
none_within d e (r ∷ rows) more (z ∷ zs) l h = ap (λ (b : Bool). cond b (1 + prefix_len (is_of d) (zip (map (keyed e) rows ++ more) zs)) 0) (later d e l)

none_own : (d e : ℕ) (xs : List DeclaredRows) (zs : List ℤ) → d < e → prefix_len (is_of d) (zip (keyed_rows e xs) zs) ≡ 0
none_own d e [] zs l = refl
none_own d e (x ∷ xs) zs l = none_within d e x.rows (keyed_rows (suc e) xs) zs l (λ ys. none_own d (suc e) xs ys (omega (arith, l)))

own_len : (d : ℕ) (rows : List Row) (xs : List DeclaredRows) (zs : List ℤ) → length rows ≤ length zs → prefix_len (is_of d) (zip (map (keyed d) rows ++ keyed_rows (suc d) xs) zs) ≡ length rows
own_len d [] xs zs h = none_own d (suc d) xs zs (omega arith)
own_len d (r ∷ rows) xs [] h = absurd (omega (arith, h))
own_len d (r ∷ rows) xs (z ∷ zs) h =
    ap (λ (b : Bool). cond b (1 + prefix_len (is_of d) (zip (map (keyed d) rows ++ keyed_rows (suc d) xs) zs)) 0) (same d)
    ∙ ap (λ (n : ℕ). 1 + n) (own_len d rows xs zs (omega (arith, h)))
    ∙ (let e : 1 + length rows ≡ length (r ∷ rows) = omega arith in e)

own_taken : (d : ℕ) (rows : List Row) (xs : List DeclaredRows) (zs : List ℤ) → length rows ≤ length zs
    → take (length rows) (zip (map (keyed d) rows ++ keyed_rows (suc d) xs) zs) ≡ zip (map (keyed d) rows) (take (length rows) zs)
own_taken d [] xs zs h = refl
own_taken d (r ∷ rows) xs [] h = absurd (omega (arith, h))
own_taken d (r ∷ rows) xs (z ∷ zs) h = ap (λ (l : List Assigned). (keyed d r, z) ∷ l) (own_taken d rows xs zs (omega (arith, h)))

own_dropped : (d : ℕ) (rows : List Row) (xs : List DeclaredRows) (zs : List ℤ) → length rows ≤ length zs
    → drop (length rows) (zip (map (keyed d) rows ++ keyed_rows (suc d) xs) zs) ≡ zip (keyed_rows (suc d) xs) (drop (length rows) zs)
own_dropped d [] xs zs h = refl
own_dropped d (r ∷ rows) xs [] h = absurd (omega (arith, h))
own_dropped d (r ∷ rows) xs (z ∷ zs) h = own_dropped d rows xs zs (omega (arith, h))

rows_same : (d : ℕ) (rows : List Row) (zs : List ℤ) → flat_map row (zip (map (keyed d) rows) zs) ≡ key_rows (keys_of rows) zs
rows_same d [] zs = refl
rows_same d (r ∷ rows) [] = refl
rows_same d (r ∷ rows) (z ∷ zs) = ap (λ (l : List ℕ). key_row r.key z ++ l) (rows_same d rows zs)

values_same : (d : ℕ) (name : List ℕ) (rows : List Row) (zs : List ℤ) → length zs ≤ length rows → flat_map (λ (a : Assigned). value_line name a.1) (zip (map (keyed d) rows) zs) ≡ flat_map (value_line name) zs
values_same d name [] [] h = refl
values_same d name [] (z ∷ zs) h = absurd (omega (arith, h))
values_same d name (r ∷ rows) [] h = refl
values_same d name (r ∷ rows) (z ∷ zs) h = ap (λ (l : List ℕ). value_line name z ++ l) (values_same d name rows zs (omega (arith, h)))

block_same : (d : ℕ) (x : DeclaredRows) (zs : List ℤ) → length zs ≤ length x.rows → block x.declared (zip (map (keyed d) x.rows) zs) ≡ declared_block x zs
block_same d x zs h =
    ap (λ (l : List ℕ). if x.declared.indexed then x.declared.name ++ (codes " :=\n" ++ (l ++ codes ";\n")) else flat_map (λ (a : Assigned). value_line x.declared.name a.1) (zip (map (keyed d) x.rows) zs))
    (rows_same d x.rows zs)
    ∙ ap (λ (l : List ℕ). if x.declared.indexed then x.declared.name ++ (codes " :=\n" ++ (key_rows (keys_of x.rows) zs ++ codes ";\n")) else l) (values_same d x.declared.name x.rows zs h)

-- the plan of all declarations from index d on
pub blocks_same : (d : ℕ) (xs : List DeclaredRows) (zs : List ℤ) → length (keyed_rows d xs) ≤ length zs
    → blocks d (map (λ (x : DeclaredRows). x.declared) xs) (zip (keyed_rows d xs) zs) ≡ declared_blocks xs zs
blocks_same d [] zs h = refl
blocks_same d (x ∷ xs) zs h =
    let arcs = zip (keyed_rows d (x ∷ xs)) zs in
    let decls = map (λ (y : DeclaredRows). y.declared) xs in
    let n = length x.rows in
    let total : length (keyed_rows d (x ∷ xs)) ≡ n + length (keyed_rows (suc d) xs) =
    length-append (map (keyed d) x.rows) (keyed_rows (suc d) xs) ∙ ap (λ (k : ℕ). k + length (keyed_rows (suc d) xs)) (length-map x.rows (keyed d)) in
    let fits : n ≤ length zs = omega (arith, h, total) in
    let own : prefix_len (is_of d) arcs ≡ n = own_len d x.rows xs zs fits in
    let taken : take_while (is_of d) arcs ≡ zip (map (keyed d) x.rows) (take n zs) = ap (λ (k : ℕ). take k arcs) own ∙ own_taken d x.rows xs zs fits in
    let dropped : drop (prefix_len (is_of d) arcs) arcs ≡ zip (keyed_rows (suc d) xs) (drop n zs) = ap (λ (k : ℕ). drop k arcs) own ∙ own_dropped d x.rows xs zs fits in
    ap (λ (l : List Assigned). block x.declared l ++ blocks (suc d) decls (drop (prefix_len (is_of d) arcs) arcs)) taken
    ∙ ap (λ (l : List Assigned). block x.declared (zip (map (keyed d) x.rows) (take n zs)) ++ blocks (suc d) decls l) dropped
    ∙ ap (λ (l : List ℕ). l ++ blocks (suc d) decls (zip (keyed_rows (suc d) xs) (drop n zs))) (block_same d x (take n zs) (omega (arith, length-take n zs)))
    ∙ ap (λ (l : List ℕ). declared_block x (take n zs) ++ l) (blocks_same (suc d) xs (drop n zs) (omega (arith, h, total, length-drop n zs)))
