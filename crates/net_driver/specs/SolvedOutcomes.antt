-- The outcome for a model with its data, without the compiled model.
use Rattle.std.specs.Prelude.{ℕ, List, Bool, Option}
use Rattle.net_expr.specs.Worlds.{Name}
use Rattle.net_driver.specs.declared.answer.Outcome.{Outcome}
use Rattle.net_driver.specs.declared.compiled.Compiled.{Compiled}
use Rattle.net_driver.specs.IsSolved.{IsSolved}
use Rattle.net_driver.specs.Meaning.{IsSolution}

-- with the compiled model of the two inputs, the outcome is an answer by the code's definitions and by the meaning of the inputs
abbrev pub IsOutcomeFor : (lean : Bool) (requested : Option Name) (model_text data_text : List ℕ) → Outcome → Type 0
IsOutcomeFor lean requested model_text data_text outcome =
    (c : Compiled)
    × IsSolved lean requested model_text data_text (record { compiled = c; outcome = outcome })
    × IsSolution requested model_text data_text (record { compiled = c; outcome = outcome })
