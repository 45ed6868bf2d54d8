use Rattle.std.proofs.Common.{ℕ, ◌+◌, Ok, Err, take, subst, ap, arith}
use Rattle.net_lex.specs.Scanning.{IsKindOf}
use Rattle.net_base.specs.declared.diagnostic.Span.{Span}
use Rattle.net_lex.proofs.ScanLemmas.{front_found, numeral_error_code, found_token}
use Rattle.net_lex.proofs.scan.token_of.Goals as goal

pub split_at-requires : goal.split_at-requires
split_at-requires c = (front_found c.args.language c.args.text.now c.args.shape c.args.len c.utf8.text c.requires.some c.requires.found).cut

pub kind_of-requires : goal.kind_of-requires
kind_of-requires c =
    rw (c.split_at.ensures.front) (front_found c.args.language c.args.text.now c.args.shape c.args.len c.utf8.text c.requires.some c.requires.found).formed

pub returns-in-Ok : goal.returns-in-Ok
returns-in-Ok c =
    let text = c.args.text.now in
    let found = front_found c.args.language text c.args.shape c.args.len c.utf8.text c.requires.some c.requires.found in
    let kind : IsKindOf c.args.language (take c.args.len text) (Ok c.in-Ok.found.kind) = rw (← c.split_at.ensures.front) c.in-Ok.ensures.kind in
    record {
      token = rw (c.new-text.ensures, c.split_at.ensures.front, c.split_at.ensures.back) (found_token c.args.language c.args.at text c.args.shape c.args.len c.in-Ok.found.kind c.utf8.text found c.requires.short kind);
      value = rw c.new-text.ensures c.in-Ok.ensures.value;
    }

pub returns-in-Err : goal.returns-in-Err
returns-in-Err c =
    let text = c.args.text.now in
    let found = front_found c.args.language text c.args.shape c.args.len c.utf8.text c.requires.some c.requires.found in
    let kind : IsKindOf c.args.language (take c.args.len text) (Err c.in-Err.error_code) = subst (λ w. IsKindOf c.args.language w (Err c.in-Err.error_code)) c.split_at.ensures.front c.in-Err.ensures.kind in
    record {
      token = (
        0,
        c.args.len,
        numeral_error_code c.args.language text c.args.shape c.args.len c.in-Err.error_code found c.requires.short kind,
        ap (λ (k : ℕ). let s : Span = record { start = k; end = c.args.at + c.args.len } in s) (omega arith),
      );
      value = tt;
    }
