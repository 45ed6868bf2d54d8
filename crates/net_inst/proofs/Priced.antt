-- What a phrase gives an arc, where it is one of the objective's.
use Rattle.std.specs.Prelude.{◌≡◌, ℕ, true, Option, Result}
use Rattle.std.proofs.Common.{sym, subst}
use Rattle.net_lex.specs.declared.token.Token.{Token}
use Rattle.net_tree.specs.Tree.{Tree, Body, priced}
use Rattle.net_expr.specs.Worlds.{World, Scope}
use Rattle.net_linear.specs.Forms.{Linear}
use Rattle.net_base.specs.declared.diagnostic.Fault.{Fault}
use Rattle.net_base.specs.Outcomes.{Updates}
use Rattle.net_inst.specs.declared.draft.ChosenObjective.{ChosenObjective}
use Rattle.net_inst.specs.Arcs.{is_goal, priced_by, price_in}

pub price_taken : (g : Option ChosenObjective) (w : World) (s : Scope) (a : ℕ) (b : Body) (n : Token) (x : Tree) (f new : Linear) (r : Result (Unit {0}) Fault) → b ≡ priced n x → is_goal g n.text ≡ true
    → Updates (priced_by w s a x f) r new → Updates (price_in g w s a b f) r new
price_taken g w s a b n x f new r is goal h =
    subst (λ (c : Body). Updates (price_in g w s a c f) r new) (sym is) (rw goal h)
