-- What a text is, is what its tokens are read as.
use Rattle.std.specs.Prelude.{◌≡◌, ℕ, List, Ok}
use Rattle.std.proofs.Common.{ap, ◌∙◌}
use Rattle.net_tree.specs.Tree.{Declaration}
use Rattle.net_model.specs.Models.{meant}
use Rattle.net_model.proofs.NamedModels.{named_meant}
use Rattle.net_data.specs.declared.statement.Tables.{Tables}
use Rattle.net_data.specs.Reading.{tables, ◌>>=◌}
use Rattle.net_data.proofs.TablesMean.{tables-complete}
use Rattle.net_driver.specs.Reading.{IsModel, IsData}

pub model_meant : (text : List ℕ) (ds : List Declaration) (is : IsModel text ds) → meant is.tokens ≡ Ok ds
model_meant text ds is = named_meant is.tokens ds is.means is.named

pub data_meant : (text : List ℕ) (x : Tables) (is : IsData text x) → tables is.tokens ≡ Ok x
data_meant text x is = tables-complete is.tokens x is.written ∙ ap (λ j. j >>= (λ full. Ok x)) is.full
