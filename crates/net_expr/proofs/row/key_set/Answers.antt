use Rattle.std.specs.Prelude.{◌≡◌, ◌<◌, ℕ, suc, List, ◌∷◌, Err, length, drop, get_or}
use Rattle.std.proofs.Common.{refl, sym, ap, ◌∙◌, rules, arith}
use Rattle.std.proofs.lemmas.Grind.{common_steps}
use Rattle.std.proofs.Math.Seq.{drop-cons}
use Rattle.net_sets.specs.declared.tuple_set.SetFault.{SetFault}
use Rattle.net_sets.specs.Made.{IsMade}
use Rattle.net_sets.specs.Operations.{union}
use Rattle.net_sets.specs.Sets.{Tuple, added}
use Rattle.net_sets.proofs.Unions.{rejected_in_turn, handed_on}
use Rattle.net_expr.specs.declared.row.Row.{Row}
use Rattle.net_expr.specs.Rows.{keys_of}
use Rattle.net_expr.proofs.row.key_set.Goals as goal

-- a key that a set rejects is rejected in the set of all keys
rejected_key : (wanted all : List Tuple) (rows : List Row) (i : ℕ) (row : Row) (t : Tuple) (rejected : SetFault) → union all (keys_of (drop i rows)) ≡ wanted → i < length rows → row ≡ get_or rows i row → t ≡ row.key
    → IsMade (added all t) (Err rejected) → IsMade wanted (Err rejected)
rejected_key wanted all rows i row t rejected goes_on h is alike made =
    let next : keys_of (drop i rows) ≡ row.key ∷ keys_of (drop (suc i) rows) = ap keys_of (drop-cons rows i row h ∙ ap (λ (x : Row). x ∷ drop (suc i) rows) (sym is)) in
    rejected_in_turn wanted all (row.key ∷ keys_of (drop (suc i) rows)) 0 row.key t rejected (ap (union all) (sym next) ∙ goes_on) (omega arith) refl alike made

pub loop-row-preserved : goal.loop-row-preserved
loop-row-preserved c = grind (arith, common_steps)

pub returns : goal.returns
returns c = grind (arith, common_steps)

pub returns-in_err-add : goal.returns-in_err-add
returns-in_err-add c =
    let is : c.from_residual.result ≡ Err c.in_err-add.field-0.0 = search rules in
    handed_on _ _ _ is (rejected_key _ c.loop-row.keys _ _ _ c.copied.result _ c.loop-row.invariant.goes_on c.loop-row-test.true c.row-item.is c.copied.ensures c.in_err-add.ensures.made)
