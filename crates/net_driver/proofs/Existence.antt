-- Two texts have a network or a first error.
use Rattle.std.specs.Prelude.{◌≡◌, ℕ, List, Option, Result, Ok, Err, ◌⊎◌}
use Rattle.std.proofs.Common.{refl, inl, inr}
use Rattle.net_base.specs.declared.diagnostic.Diagnostic.{Diagnostic}
use Rattle.net_base.specs.declared.diagnostic.Language.TheVariants as languages
use Rattle.net_base.specs.Outcomes.{Outcome, bare}
use Rattle.net_lex.specs.declared.token.Token.{Token}
use Rattle.net_lex.specs.Lexing.{AreTokensOf}
use Rattle.net_tree.specs.Tree.{Declaration}
use Rattle.net_model.specs.Models.{Decided, model, rejected}
use Rattle.net_model.proofs.Deciding as parser
use Rattle.net_model.proofs.NamedModels.{meant_well_named}
use Rattle.net_data.specs.declared.data_parser.ParseError.{ParseError as DataStop}
use Rattle.net_data.specs.declared.statement.Tables.{Tables}
use Rattle.net_data.specs.Reading as data_reading
use Rattle.net_data.proofs.TablesMean.{tables-sound}
use Rattle.net_bind.specs.Binding as binding
use Rattle.net_expr.specs.Worlds.{Name, World}
use Rattle.net_inst.specs.Instances.{Network, network}
use Rattle.net_driver.specs.Reading.{IsModel, IsData, IsNetworkOf}
use Rattle.net_driver.specs.FirstFaults as faults
use Rattle.net_driver.specs.FirstFaults.{IsFirstFault, IsLexed, place_of}

module _ (wanted : Option Name) (m d : List ℕ) where
  abbrev One : Type 0
  One = ((n : Network) × IsNetworkOf wanted m d n) ⊎ ((diagnostic : Diagnostic) × IsFirstFault wanted m d diagnostic)

  by_network : (ds : List Declaration) (is : IsModel m ds) (tables : Tables) (are : IsData d tables) (w : World) → binding.world ds tables.statements ≡ Ok w
      → (o : Outcome Network) → network wanted w ds ≡ o → One
  by_network ds is tables are w bound (Ok n) h =
      inl (n, record { declarations = ds; model = is; tables = tables; statements = are; network = record { world = w; bound = bound; network = h } })
  by_network ds is tables are w bound (Err r) h = inr (r, faults.both ds tables r is are (faults.unbuilt w r bound h))

  by_world : (ds : List Declaration) (is : IsModel m ds) (tables : Tables) (are : IsData d tables) (o : Outcome World) → binding.world ds tables.statements ≡ o → One
  by_world ds is tables are (Ok w) h = by_network ds is tables are w h (network wanted w ds) refl
  by_world ds is tables are (Err r) h = inr (r, faults.both ds tables r is are (faults.unbound r h))

  by_tables : (ds : List Declaration) (is : IsModel m ds) (tokens : List Token) → AreTokensOf languages.Data d tokens
      → (r : Result Tables DataStop) → data_reading.tables tokens ≡ r → One
  by_tables ds is tokens read (Ok tables) h =
      let sound = tables-sound tokens tables h in
      let are : IsData d tables = record { tokens = tokens; read = read; written = sound.mean; full = sound.judged } in
      by_world ds is tables are (binding.world ds tables.statements) refl
  by_tables ds is tokens read (Err s) h =
      inr (bare languages.Data s.error_code (place_of tokens s), faults.statements ds _ is (faults.statement tokens s read h))

  by_data : (ds : List Declaration) → IsModel m ds → IsLexed languages.Data d → One
  by_data ds is (inl (tokens, read)) = by_tables ds is tokens read (data_reading.tables tokens) refl
  by_data ds is (inr (error_code, at, error)) = inr (bare languages.Data error_code at, faults.statements ds _ is (faults.IsDataFault.token error_code at error))

  by_model : (tokens : List Token) → AreTokensOf languages.Model m tokens → Decided tokens → IsLexed languages.Data d → One
  by_model tokens read (model ds means h) other =
      by_data ds (record { tokens = tokens; read = read; means = means; named = meant_well_named tokens ds h }) other
  by_model tokens read (rejected diagnostic h) other = inr (diagnostic, faults.model diagnostic (faults.grammar tokens diagnostic read h))

  pub one_of_both : IsLexed languages.Model m → IsLexed languages.Data d → One
  one_of_both (inl (tokens, read)) other = by_model tokens read (parser.decided tokens) other
  one_of_both (inr (error_code, at, error)) other = inr (bare languages.Model error_code at, faults.model _ (faults.IsModelFault.token error_code at error))
