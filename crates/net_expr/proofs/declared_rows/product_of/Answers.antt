use Rattle.std.specs.Prelude.{◌≡◌, ◌≤◌, ◌+◌, ◌*◌, List, Some, length, map}
use Rattle.std.proofs.Common.{ap, sym, subst, ◌∙◌, arith}
use Rattle.net_sets.specs.Limits.{tuples_limit}
use Rattle.net_sets.specs.Operations.{product}
use Rattle.net_sets.proofs.Crossing.{length_product}
use Rattle.net_expr.specs.declared.indexing.Indexing.{Indexing}
use Rattle.net_expr.specs.declared.row.Row.{Row}
use Rattle.net_expr.specs.DeclaredRows.{AreWide}
use Rattle.net_expr.specs.RowLists.{row_of}
use Rattle.net_expr.proofs.DeclaredRows.{no_wider}
use Rattle.net_expr.proofs.declared_rows.product_of.Goals as goal

pub of_product-keys-requires-clause-short : goal.of_product-keys-requires-clause-short
of_product-keys-requires-clause-short c =
    let first = no_wider c.args.first.width c.in_ok-first.first (subst (AreWide c.args.first.width) (sym c.in_ok-first.ensures) c.requires.first) in
    let second = no_wider c.args.second.width c.in_ok-second.second (subst (AreWide c.args.second.width) (sym c.in_ok-second.ensures) c.requires.second) in
    let short = c.if-width-more-gt-ARITY_LIMIT.false in
    omega (arith, first, second, short)

pub returns : goal.returns
returns c =
    let one : c.len.result ≡ length c.args.first.set = c.len.ensures.value ∙ ap length c.get.ensures in
    let two : c.len-else-width-more-gt-ARITY_LIMIT.result ≡ length c.args.second.set = c.len-else-width-more-gt-ARITY_LIMIT.ensures.value ∙ ap length c.get-else-width-more-gt-ARITY_LIMIT.ensures in
    let size : c.len.result * c.len-else-width-more-gt-ARITY_LIMIT.result ≡ length (product c.args.first.set c.args.second.set) =
    ap (λ n. n * c.len-else-width-more-gt-ARITY_LIMIT.result) one ∙ ap (λ n. length c.args.first.set * n) two ∙ sym (length_product c.args.first.set c.args.second.set) in
    let keys = c.of_product-keys.ensures ∙ ap (λ xs. product xs c.in_ok-second.second) c.in_ok-first.ensures ∙ ap (λ ys. product c.args.first.set ys) c.in_ok-second.ensures in
    let rows : c.of_keys.result ≡ map (row_of c.args.names.items) (product c.args.first.set c.args.second.set) =
    c.of_keys.ensures ∙ ap (λ ns. map (row_of ns) c.of_product-keys.result) c.new.ensures ∙ ap (map (row_of c.args.names.items)) keys in
    record {
      short = c.if-width-more-gt-ARITY_LIMIT.false;
      few = subst (λ n. n ≤ tuples_limit) size c.if-len-gt-TUPLES_LIMIT.false;
      is = ap (λ (r : List Row). let i : Indexing = record { count = Some (c.args.first.width + c.args.second.width); rows = r } in i) rows;
    }
