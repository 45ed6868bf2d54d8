-- Which files are a model with its data, and the network that they describe.
use Rattle.std.specs.Prelude.{◌≡◌, ℕ, List, Option, Ok}
use Rattle.net_base.specs.declared.diagnostic.Language.TheVariants as languages
use Rattle.net_lex.specs.declared.token.Token.{Token}
use Rattle.net_lex.specs.Lexing.{AreTokensOf}
use Rattle.net_tree.specs.Tree.{Declaration}
use Rattle.net_names.specs.Names.{IsWellNamed}
use Rattle.net_model.specs.Meaning.{Means}
use Rattle.net_data.specs.declared.statement.Tables.{Tables}
use Rattle.net_data.specs.Meaning.{Mean, all_judged}
use Rattle.net_bind.specs.Binding as binding
use Rattle.net_expr.specs.Worlds.{Name, World}
use Rattle.net_inst.specs.Instances.{Network, network}

-- a model file contains these declarations: they have the file's tokens, are well-formed, and have
-- no name errors
pub record IsModel (text : List ℕ) (ds : List Declaration) : Type 0 where
  pub tokens : List Token
  pub read : AreTokensOf languages.Model text tokens
  pub means : Means tokens ds
  pub named : IsWellNamed ds

-- a data file contains these statements: they have the file's tokens, without commas outside
-- tuples, and their tables are complete
pub record IsData (text : List ℕ) (tables : Tables) : Type 0 where
  pub tokens : List Token
  pub read : AreTokensOf languages.Data text tokens
  pub written : Mean tokens tables
  pub full : all_judged tables.statements ≡ Ok tt

-- declarations and statements have a world, and in it this network, with the objective of the given
-- name or the only one
pub record ComeTo (wanted : Option Name) (ds : List Declaration) (tables : Tables) (n : Network) : Type 0 where
  pub world : World
  pub bound : binding.world ds tables.statements ≡ Ok world
  pub network : network wanted world ds ≡ Ok n

-- a model file and a data file describe this network
pub record IsNetworkOf (wanted : Option Name) (model_text data_text : List ℕ) (n : Network) : Type 0 where
  pub declarations : List Declaration
  pub model : IsModel model_text declarations
  pub tables : Tables
  pub statements : IsData data_text tables
  pub network : ComeTo wanted declarations tables n
