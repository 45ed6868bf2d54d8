-- Which errors show that the inputs mean no network (AMPL book, chapter 15). With the others netflow can also reject inputs that mean one.
use Rattle.std.specs.Prelude.{◌≡◌, ℕ, true, List, Option, Err}
use Rattle.net_base.specs.declared.diagnostic.Diagnostic.{Diagnostic}
use Rattle.net_base.specs.ErrorCodes.{says_no_network}
use Rattle.net_data.specs.declared.statement.Tables.{Tables}
use Rattle.net_tree.specs.Tree.{Declaration}
use Rattle.net_bind.specs.DataByName.{data_by_name}
use Rattle.net_bind.specs.Names.{declared}
use Rattle.net_expr.specs.Worlds.{Name}
use Rattle.net_meaning.specs.Network.{Network}
use Rattle.net_driver.specs.FirstFaults.{IsModelFault, IsDataFault, IsFirstFault}
use Rattle.net_driver.specs.Meaning.{MeanNetwork}
use Rattle.net_driver.specs.Reading.{IsModel, IsData}

-- If the first error has one of these codes, the inputs mean no network.
abbrev pub ErrorsAreSound : Type 0
ErrorsAreSound = (requested : Option Name) (model_text data_text : List ℕ) (d : Diagnostic) → IsFirstFault requested model_text data_text d → says_no_network d.error_code ≡ true
    → (network : Network) → MeanNetwork requested model_text data_text network → ⊥

-- an error that is found before anything is evaluated: in the tokens, the grammar or the names of the model; in the tokens or the statements of
-- the data; or in the names of sets and parameters that the data use
pub data IsTextFault (model_text data_text : List ℕ) (d : Diagnostic) : Type 0 where
  of_model : IsModelFault model_text d → IsTextFault model_text data_text d
  of_data : (ds : List Declaration) → IsModel model_text ds → IsDataFault data_text d → IsTextFault model_text data_text d
  of_names : (ds : List Declaration) (tables : Tables) → IsModel model_text ds → IsData data_text tables → data_by_name (declared ds) tables.statements ≡ Err d → IsTextFault model_text data_text d

-- such an error is the first one
abbrev pub TextFaultsAreFirst : Type 0
TextFaultsAreFirst = (requested : Option Name) (model_text data_text : List ℕ) (d : Diagnostic) → IsTextFault model_text data_text d → IsFirstFault requested model_text data_text d
