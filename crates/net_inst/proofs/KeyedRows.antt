-- One more declaration, with its nodes or arcs.
use Rattle.std.proofs.Common.{◌≡◌, ℕ, suc, ◌+◌, List, [], ◌∷◌, ◌++◌, length, map, sym, ap, ◌∙◌, append_assoc, append-nil, arith}
use Rattle.std.specs.Prelude.{Option, is_some}
use Rattle.std.proofs.lemmas.List.{map-append, length-map}
use Rattle.net_expr.specs.declared.row.Row.{Row}
use Rattle.net_expr.specs.Worlds.{Name}
use Rattle.net_inst.specs.declared.network_names.Declared.{Declared}
use Rattle.net_inst.specs.declared.network_names.DeclaredRows.{DeclaredRows}
use Rattle.net_inst.specs.Lists.{Key, Listed, keyed, keyed_rows, listed_rows, listed_with}

keyed_on : (d : ℕ) (xs : List DeclaredRows) (x : DeclaredRows) → keyed_rows d (xs ++ x ∷ []) ≡ keyed_rows d xs ++ map (keyed (d + length xs)) x.rows
keyed_on d [] x =
    append-nil (map (keyed d) x.rows)
    ∙ ap (λ (k : ℕ). map (keyed k) x.rows) (let e : d ≡ d + 0 = omega arith in e)
keyed_on d (y ∷ ys) x =
    ap (λ (l : List Key). map (keyed d) y.rows ++ l) (keyed_on (suc d) ys x)
    ∙ sym (append_assoc (map (keyed d) y.rows) (keyed_rows (suc d) ys) (map (keyed (suc d + length ys)) x.rows))
    ∙ ap (λ (k : ℕ). keyed_rows d (y ∷ ys) ++ map (keyed k) x.rows) (let e : suc d + length ys ≡ d + length (y ∷ ys) = omega arith in e)

pub listed_on : (xs : List DeclaredRows) (name : Name) (count : Option ℕ) (rows : List Row)
    → listed_rows (xs ++ (record { declared = record { name = name; indexed = is_some count }; rows = rows }) ∷ []) ≡ listed_with (listed_rows xs) name count rows
listed_on xs name count rows =
    let one : Declared = record { name = name; indexed = is_some count } in
    let x : DeclaredRows = record { declared = one; rows = rows } in
    let names = map (λ (y : DeclaredRows). y.declared) xs in
    let with_keys : List Key → Listed = λ l. record { declarations = names ++ one ∷ []; keys = l } in
    let same : keyed_rows 0 (xs ++ x ∷ []) ≡ keyed_rows 0 xs ++ map (keyed (length names)) rows =
    keyed_on 0 xs x
    ∙ ap (λ (k : ℕ). keyed_rows 0 xs ++ map (keyed k) rows) (let e : 0 + length xs ≡ length names = omega (arith, length-map xs (λ (y : DeclaredRows). y.declared)) in e) in
    ap (λ (l : List Declared). let r : Listed = record { declarations = l; keys = keyed_rows 0 (xs ++ x ∷ []) } in r) (map-append (λ (y : DeclaredRows). y.declared) xs (x ∷ []))
    ∙ ap with_keys same
