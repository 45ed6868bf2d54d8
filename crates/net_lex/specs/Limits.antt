-- Limits of model and data files in this profile: lengths of files and tokens in bytes, and the
-- absolute value of a numeral.
use Rattle.std.specs.Prelude.{ℕ}
use Rattle.net_normal.specs.Limits.{value_limit}
use Rattle.net_base.specs.declared.diagnostic.Language.{Language}
use Rattle.net_base.specs.declared.diagnostic.Language.TheVariants.{Model, Data}

-- the maximum length of a token, and the maximum absolute value of a numeral
pub record Limits : Type 0 where
  pub token : ℕ
  pub value : ℕ

abbrev pub limits : Limits
limits = record { token = 255; value = value_limit }

-- 1 MiB for a model, 16 MiB for a data file
abbrev pub text_limit : Language → ℕ
text_limit Model = 1048576
text_limit Data = 16777216
