-- The tokens of a well-formed model are the model that the grammar derives.
use Rattle.std.specs.Prelude.{List, [], ◌∷◌}
use Rattle.std.proofs.Common.{refl, arith}
use Rattle.net_lex.specs.declared.token.Token.{Token}
use Rattle.net_tree.specs.Erasure.{declaration, declarations, clause}
use Rattle.net_tree.specs.Precedence.{of_or}
use Rattle.net_tree.specs.Print.{put_part, put_declaration, print}
use Rattle.net_tree.specs.Tree.{Part, absent, part, Declaration, set, param, check, node, arc, objective}
use Rattle.net_tree.specs.Declarations as trees
use Rattle.net_model.specs.GrammarOfDeclarations.{IsObjective, IsDeclaration, IsModel}
use Rattle.net_model.proofs.GrammarSpelling.{at-colon, at-semicolon, at-name}
use Rattle.net_model.proofs.GrammarKeywords.{as-set, as-param, as-check, as-node, as-arc, as-objective}
use Rattle.net_model.proofs.GrammarComplete.{tree-complete, indexing-complete, value-complete}
use Rattle.net_model.proofs.GrammarConditions.{condition-complete}
use Rattle.net_model.proofs.GrammarPhrases.{set_phrases-complete, param_phrases-complete, arc_phrases-complete}

objective-complete : (p : Part) (rest : List Token) → trees.IsObjective p → IsObjective (clause p) (put_part p rest) rest
objective-complete absent rest h = refl
objective-complete (part m x) rest h = (_, at-colon m _ h.0, value-complete x rest h.1 h.2)

declaration-complete : (d : Declaration) (rest : List Token) → trees.IsDeclaration d → IsDeclaration (declaration d) (put_declaration d rest) rest
declaration-complete (set w n ps e) rest h = (_, as-set w _ h.0, (_, at-name n _ h.1, (_, set_phrases-complete ps _ h.2, at-semicolon e rest h.3)))
declaration-complete (param w n b ps e) rest h =
    (_, as-param w _ h.0, (_, at-name n _ h.1, (_, indexing-complete b _ h.2, (_, param_phrases-complete ps _ h.3, at-semicolon e rest h.4))))
declaration-complete (check w b m x e) rest h =
    (_, as-check w _ h.0, (_, indexing-complete b _ h.1, (_, at-colon m _ h.2, (_, tree-complete x of_or _ h.3 h.4 (omega arith), at-semicolon e rest h.5))))
declaration-complete (node w n b c e) rest h = (_, as-node w _ h.0, (_, at-name n _ h.1, (_, indexing-complete b _ h.2, (_, condition-complete c _ h.3, at-semicolon e rest h.4))))
declaration-complete (arc w n b ps e) rest h =
    (_, as-arc w _ h.0, (_, at-name n _ h.1, (_, indexing-complete b _ h.2, (_, arc_phrases-complete ps _ h.3, at-semicolon e rest h.4))))
declaration-complete (objective w n p e) rest h = (_, as-objective w _ h.0, (_, at-name n _ h.1, (_, objective-complete p _ h.2, at-semicolon e rest h.3)))

pub model-complete : (ds : List Declaration) → trees.AreDeclarations ds → IsModel (declarations ds) (print ds)
model-complete [] h = refl
model-complete (d ∷ ds) h = (_, declaration-complete d (print ds) h.0, model-complete ds h.1)
