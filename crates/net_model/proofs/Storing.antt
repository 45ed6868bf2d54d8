-- What is put into a box is what was read, unless memory runs out.
use Rattle.std.specs.Prelude.{◌≡◌, Result, Ok, Err, IfOk, IfErr}
use Rattle.net_model.specs.declared.model_parser.ParseError.{ParseError}
use Rattle.net_model.specs.declared.model_parser.ParseError.TheVariants.{OutOfMemory}
use Rattle.net_model.specs.Reading.{Tokens, Read, Gives}

pub stored : {X A : Type 0} (f : X → A) {x : X} {rest : Tokens} {read : Read A} (r : Result X ParseError) → IfOk r (λ s. s ≡ x) → IfErr r (λ e. e ≡ OutOfMemory) → read ≡ Ok (f x, rest) → Gives f r rest read
stored f (Ok s) value memory h = rw value h
stored f (Err e) value memory h = rw memory tt
