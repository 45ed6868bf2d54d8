use Rattle.std.proofs.Common.{◌≡◌, ◌<◌, ◌+◌, ◌∙◌, ℕ, suc, List, map, drop, get_or, length, false, refl, sym, ap, add-one, cond, arith}
use Rattle.std.proofs.lemmas.Grind.{common_steps}
use Rattle.std.proofs.Math.Seq.{drop-cons}
use Rattle.std.specs.Borrow.{Bor}
use Rattle.std.specs.Str.{bytes_eq}
use Rattle.net_tree.specs.declared.operator.BinOp.{BinOp}
use Rattle.net_tree.specs.Operations.{operation_in}
use Rattle.net_tree.proofs.operator.operation_in.Goals as goal

abbrev plain : List (Bor (List ℕ) × BinOp) → List (List ℕ × BinOp)
plain table = map (λ (word : Bor (List ℕ) × BinOp). (word.0.now, word.1)) table

-- an entry of another text is passed over
passed : (table : List (Bor (List ℕ) × BinOp)) (i : ℕ) (text : List ℕ) (d : Bor (List ℕ) × BinOp)
    → i < length table → bytes_eq (get_or table i d).0.now text ≡ false → operation_in (plain (drop (i + 1) table)) text ≡ operation_in (plain (drop i table)) text
passed table i text d h e =
    let here = ap (λ rest. operation_in (plain rest) text) (drop-cons table i d h) in
    let next = ap (λ k. operation_in (plain (drop k table)) text) (add-one i) in
    let over = ap (λ b. cond b (get_or table i d).1 (operation_in (plain (drop (suc i) table)) text)) e in
    next ∙ sym (here ∙ over)

pub loop-word-init : goal.loop-word-init
loop-word-init c = refl

pub loop-word-preserved : goal.loop-word-preserved
loop-word-preserved c =
    passed c.args.table.now c.loop-word.word-index c.args.text.now _ c.loop-word-test.true (sym c.eq.ensures ∙ c.if-eq.false) ∙ c.loop-word.invariant

pub returns : goal.returns
returns c = grind (arith, common_steps)

pub returns-then-eq : goal.returns-then-eq
returns-then-eq c = grind (arith, common_steps)
