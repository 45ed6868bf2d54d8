-- What a model and its data are refused for together stands at their parts.
use Rattle.std.specs.Prelude.{ℕ, List, [], ◌∷◌, length, take, Option}
use Rattle.net_base.specs.declared.diagnostic.Language.TheVariants as languages
use Rattle.net_base.specs.declared.diagnostic.Span.{Span}
use Rattle.net_base.specs.Outcomes.{and_then, each}
use Rattle.net_tree.specs.Spans.{span_of}
use Rattle.net_tree.specs.Tree.{Tree, Braces, Declaration, set, param, check, node, arc, objective}
use Rattle.net_data.specs.declared.statement.Statement.{Statement}
use Rattle.net_expr.specs.declared.row.Row.{Row}
use Rattle.net_expr.specs.Operators.{truth}
use Rattle.net_expr.specs.Values.{value}
use Rattle.net_expr.specs.Worlds.{World}
use Rattle.net_bind.specs.Names.{declared}
use Rattle.net_bind.specs.DataByName.{Sorted, data_by_name}
use Rattle.net_bind.specs.BoundSets.{bound_set}
use Rattle.net_bind.specs.BoundParameters.{bound_parameter}
use Rattle.net_bind.specs.Binding.{widths, next_data, declare, judged, hold, checked, check_one, after_checks, with_given, world}
use Rattle.net_base.specs.Places.{Places, Finds, Model, Data, Refuted}
use Rattle.net_tree.specs.Standing.{Stands, IndexingHasSpans, DeclarationHasSpans, DeclarationsHaveSpans}
use Rattle.net_base.proofs.Found.{finds_then, finds_if, finds_after}
use Rattle.net_base.proofs.Elements.{all_index}
use Rattle.net_expr.proofs.OperatorFaults.{finds_truth}
use Rattle.net_expr.proofs.ValueFaults.{whole_stands, finds_value}
use Rattle.net_data.specs.Standing.{StatementsHaveSpans}
use Rattle.net_bind.proofs.NameFaults.{MentionsStand, SortedStands, gives_said}
use Rattle.net_bind.proofs.SetFaults.{finds_bound_set}
use Rattle.net_bind.proofs.ParameterFaults.{finds_indexing_in, finds_bound_parameter}
use Rattle.net_expr.specs.Indexings.{indexing_in}

module _ (P : Places) where
  finds_declare : (given : Sorted) → SortedStands (P Data) given → (d : Declaration) → DeclarationHasSpans (P Model) d → (w : World) → Finds P (declare given d w)
  finds_declare given g (set k n ps e) h w =
      finds_then P (bound_set w (widths w) n ps (next_data given w)) _ (finds_bound_set P w (widths w) n h.0 ps h.1 (next_data given w) (all_index (MentionsStand (P Data)) given (length w) [] g tt)) (λ x. tt)
  finds_declare given g (param k n b ps e) h w =
      finds_then P (bound_parameter w (widths w) n b ps (next_data given w)) _
      (finds_bound_parameter P w (widths w) n h.0 b h.1 ps h.2 (next_data given w) (all_index (MentionsStand (P Data)) given (length w) [] g tt)) (λ x. tt)
  finds_declare given g (check k b m x e) h w = tt
  finds_declare given g (node k n b c e) h w = tt
  finds_declare given g (arc k n b ps e) h w = tt
  finds_declare given g (objective k n p e) h w = tt

  finds_hold : (w : World) (x : Tree) → Stands (P Model) x → (rows : List Row) → Finds P (hold w x rows)
  finds_hold w x h [] = tt
  finds_hold w x h (r ∷ rows) =
      finds_then P (and_then (and_then (value w r.scope x) (truth (span_of x))) (judged x)) _
      (finds_then P (and_then (value w r.scope x) (truth (span_of x))) (judged x)
      (finds_then P (value w r.scope x) (truth (span_of x)) (finds_value P w r.scope x h) (finds_truth P (span_of x) (whole_stands (P Model) x h)))
      (λ b. finds_if P b _ _ tt (whole_stands (P Model) x h))) (λ u. finds_hold w x h rows)

  finds_checked : (w : World) (b : Option Braces) → IndexingHasSpans (P Model) b → (x : Tree) → Stands (P Model) x → Finds P (checked w b x)
  finds_checked w b h x k = finds_then P (indexing_in w b) _ (finds_indexing_in P w b h) (λ i. finds_hold w x k i.rows)

  finds_check_one : (w : World) (d : Declaration) → DeclarationHasSpans (P Model) d → (known : ℕ) → Finds P (check_one w d known)
  finds_check_one w (set k n ps e) h known = tt
  finds_check_one w (param k n b ps e) h known = tt
  finds_check_one w (check k b m x e) h known = finds_then P (checked (take known w) b x) _ (finds_checked (take known w) b h.0 x h.1) (λ u. tt)
  finds_check_one w (node k n b c e) h known = tt
  finds_check_one w (arc k n b ps e) h known = tt
  finds_check_one w (objective k n p e) h known = tt

  finds_declarations : (given : Sorted) → SortedStands (P Data) given → (ds : List Declaration) → DeclarationsHaveSpans (P Model) ds → (w : World) → Finds P (each (declare given) ds w)
  finds_declarations given g [] h w = tt
  finds_declarations given g (d ∷ ds) h w = finds_then P (declare given d w) (each (declare given) ds) (finds_declare given g d h.0 w) (finds_declarations given g ds h.1)

  finds_checks : (w : World) (ds : List Declaration) → DeclarationsHaveSpans (P Model) ds → (known : ℕ) → Finds P (each (check_one w) ds known)
  finds_checks w [] h known = tt
  finds_checks w (d ∷ ds) h known = finds_then P (check_one w d known) (each (check_one w) ds) (finds_check_one w d h.0 known) (finds_checks w ds h.1)

  -- only the names in the data can show that there is no network
  pub finds_with_given : (given : Sorted) → SortedStands (P Data) given → (ds : List Declaration) → DeclarationsHaveSpans (P Model) ds → Finds P (with_given ds given)
  finds_with_given given g ds h =
      finds_then P (each (declare given) ds []) (after_checks ds) (finds_declarations given g ds h []) (λ w. finds_then P (each (check_one w) ds 0) _ (finds_checks w ds h 0) (λ known. tt))

  pub finds_world : ((at : Span) → P Data at → P (Refuted languages.Data) at) → (ds : List Declaration) (ss : List Statement) → DeclarationsHaveSpans (P Model) ds → StatementsHaveSpans (P Data) ss → Finds P (world ds ss)
  unfolding world
  finds_world unnamed ds ss h k =
      finds_after P (SortedStands (P Data)) (data_by_name (declared ds) ss) (with_given ds) (gives_said P unnamed (declared ds) ss k) (λ given g. finds_with_given given g ds h)
