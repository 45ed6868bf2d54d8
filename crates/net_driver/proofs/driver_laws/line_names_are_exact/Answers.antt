use Rattle.net_driver.proofs.LineNames.{names_exact, built_exact}
use Rattle.net_model.proofs.GrammarModelsSound.{model-sound}
use Rattle.net_data.proofs.GrammarAgrees.{sound}
use Rattle.net_report.proofs.LineNames.{names_unchanged}
use Rattle.net_driver.proofs.Compilations.{compilations_are_sound}
use Rattle.net_driver.proofs.driver_laws.line_names_are_exact.Goals as goal

pub returns : goal.returns
returns c =
    let models = model-sound in
    let data_files = sound in
    let same = names_unchanged in
    record { names = names_exact models data_files same; built = built_exact models data_files same compilations_are_sound }
