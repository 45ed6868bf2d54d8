-- The grammar of data files derives what `Mean` accepts.
use Rattle.std.proofs.Common.{[], refl, ap, ◌∙◌, codes}
use Rattle.net_data.specs.Commas.{before}
use Rattle.net_data.specs.Printing.{put_single, put_all}
use Rattle.net_data.specs.GrammarLaws.{IsComplete, IsSound, IsUnambiguous}
use Rattle.net_data.proofs.Promise.{one_meaning}
use Rattle.net_data.proofs.GrammarTerms.{commas_bare, end_commas}
use Rattle.net_data.proofs.GrammarStatements.{single_agrees, statements_agree}

pub complete : IsComplete
complete tokens file mean full =
    let opening = single_agrees (codes "data") file.opening refl in
    let ending = single_agrees (codes "end") file.ending refl in
    let a = opening.complete tokens (put_all file.statements (put_single file.ending [])) mean.are.opening mean.printed in
    let b = (statements_agree file.statements).complete a.0 (put_single file.ending []) (mean.are.statements, full) a.2 in
    let c = ending.complete b.0 [] mean.are.ending b.2 in
    (a.0, a.1, (b.0, b.1, (c.0, c.1, end_commas before c.0 refl c.2)))

pub sound : IsSound
sound tokens file (m1, a, (m2, b, (m3, c, d))) =
    let opening = (single_agrees (codes "data") file.opening refl).sound tokens m1 a in
    let statements = (statements_agree file.statements).sound m1 m2 b in
    let ending = (single_agrees (codes "end") file.ending refl).sound m2 m3 c in
    let over = commas_bare before m3 [] refl d in
    let ends = ending.0 ∙ ap (put_single file.ending) over in (
      record {
        printed = opening.0 ∙ ap (put_single file.opening) (statements.0 ∙ ap (put_all file.statements) ends);
        are = record { opening = opening.1; statements = statements.1.0; ending = ending.1 };
      },
      statements.1.1,
    )

pub unambiguous : IsUnambiguous
unambiguous tokens x y one other =
    let (mean, full) = sound tokens x one in
    let (also, whole) = sound tokens y other in
    one_meaning tokens x y mean also full
