use Rattle.std.proofs.Common.{◌≡◌, ◌≤◌, ◌+◌, ◌-◌, sym, ap, ◌∙◌, arith, length, length-append, map, [], ◌∷◌, true, false, refl, Ok, Option}
use Rattle.std.proofs.lemmas.Grind.{common_steps}
use Rattle.std.proofs.lemmas.Result.{err_from_is_err_and}
use Rattle.net_tree.specs.View.{declaration_of}
use Rattle.net_tree.specs.declared.declaration.Decl.{Decl}
use Rattle.net_model.specs.Declarations.{declaration_at, declaration_step, any_left, model_at}
use Rattle.net_model.specs.declared.model_parser.ParseError.{ParseError}
use Rattle.net_model.specs.declared.model_parser.ParseError.TheVariants.{OutOfMemory, Rejected, TooDeep}
use Rattle.net_model.specs.Expressions.{Inner, nested}
use Rattle.net_model.specs.Rows.{row}
use Rattle.net_model.proofs.RowLemmas.{row_read, row_turn, row_stops}
use Rattle.net_model.specs.Reading.{Tokens, Fails}
use Rattle.net_model.proofs.declarations.declarations.Goals as goal

more_left : (ts : Tokens) → any_left ts ≡ true → 1 ≤ length ts
more_left [] h = cc
more_left (t ∷ ts) h = omega arith

none_left : (ts : Tokens) → any_left ts ≡ false → ts ≡ []
none_left [] h = refl
none_left (t ∷ ts) h = cc

step_stops : (o : Option Inner) (ts : Tokens) (e : ParseError) → Fails e (declaration_at o ts) → Fails e (declaration_step o tt ts)
unfolding declaration_step
step_stops o ts OutOfMemory h = tt
step_stops o ts (Rejected n a) h = rw h refl
step_stops o ts (TooDeep n) h = rw h refl

step_read : (o : Option Inner) (ts : Tokens) (d : Decl) (rest : Tokens) → declaration_at o ts ≡ Ok (declaration_of d, rest) → declaration_step o tt ts ≡ Ok ((declaration_of d, tt), rest)
unfolding declaration_step
step_read o ts d rest h = rw h refl

pub returns-clause-whole : goal.returns-clause-whole
returns-clause-whole c = none_left c.loop-alloc.tokens (sym c.has_more.ensures ∙ c.loop-alloc-test.false)

pub returns-in_err-declaration-clause-value : goal.returns-in_err-declaration-clause-value
unfolding model_at
returns-in_err-declaration-clause-value c =
    let on : any_left c.loop-alloc.tokens ≡ true = sym c.has_more.ensures ∙ c.loop-alloc-test.true in
    let y = err_from_is_err_and c.from_residual.result c.from_residual.ensures.1 in
    rw y.1 (rw y.2
    (row_stops declaration_of c.loop-alloc.found.items (length c.args.tokens.now) (declaration_step (nested c.args.depth)) (λ s. any_left) tt c.loop-alloc.tokens
    (row (length c.args.tokens.now) (declaration_step (nested c.args.depth)) (λ s. any_left) tt c.args.tokens.now) c.in_err-declaration.field-0.0
    (more_left c.loop-alloc.tokens on) c.loop-alloc.invariant.room on c.loop-alloc.invariant.read (step_stops (nested c.args.depth) c.loop-alloc.tokens c.in_err-declaration.field-0.0 c.in_err-declaration.ensures.value)))

pub returns-clause-value : goal.returns-clause-value
unfolding model_at
returns-clause-value c =
    row_read declaration_of c.loop-alloc.found.items (length c.args.tokens.now - length c.loop-alloc.found.items) (declaration_step (nested c.args.depth)) (λ s. any_left) tt c.loop-alloc.tokens
    (row (length c.args.tokens.now) (declaration_step (nested c.args.depth)) (λ s. any_left) tt c.args.tokens.now)
    (sym c.has_more.ensures ∙ c.loop-alloc-test.false) c.loop-alloc.invariant.read
    ∙ ap (λ l. Ok ((map declaration_of l, tt), c.loop-alloc.tokens)) (sym c.new.ensures)

pub loop-alloc-preserved : goal.loop-alloc-preserved
loop-alloc-preserved c =
    let on : any_left c.loop-alloc.tokens ≡ true = sym c.has_more.ensures ∙ c.loop-alloc-test.true in
    let more : length c.push.new.list.items ≡ length c.loop-alloc.found.items + 1 = omega (arith, ap length c.in_ok-push.ensures.items, length-append c.loop-alloc.found.items (c.in_ok-declaration.declaration ∷ [])) in
    record {
      read =
          row_turn declaration_of c.loop-alloc.found.items c.push.new.list.items c.in_ok-declaration.declaration (length c.args.tokens.now) (declaration_step (nested c.args.depth)) (λ s. any_left) tt tt
          c.loop-alloc.tokens c.declaration_at.new.tokens (row (length c.args.tokens.now) (declaration_step (nested c.args.depth)) (λ s. any_left) tt c.args.tokens.now)
          (more_left c.loop-alloc.tokens on) c.loop-alloc.invariant.room on (step_read (nested c.args.depth) c.loop-alloc.tokens c.in_ok-declaration.declaration c.declaration_at.new.tokens c.in_ok-declaration.ensures.value) c.in_ok-push.ensures.items c.loop-alloc.invariant.read;
      room = omega (arith, more, c.in_ok-declaration.ensures.shorter, c.loop-alloc.invariant.room);
    }

pub loop-alloc-smaller : goal.loop-alloc-smaller
loop-alloc-smaller c = grind (arith, common_steps)

pub loop-alloc-init : goal.loop-alloc-init
loop-alloc-init c = grind (arith)
