-- How diagnostics go through what definitions are made of.
use Rattle.std.specs.Prelude.{◌≡◌, ⊤, Bool, true, false, List, [], ◌∷◌, Option, None, Some, if◌then◌else◌, Ok, Err}
use Rattle.std.specs.List.{AllByRecursion}
use Rattle.std.proofs.Common.{refl}
use Rattle.net_base.specs.Outcomes.{Outcome, and_then, each}
use Rattle.net_base.specs.ErrorCodes.{says_no_network}
use Rattle.net_base.specs.Places.{Places, Finds, region}

pub finds_then : (P : Places) {A B : Type 0} (o : Outcome A) (f : A → Outcome B) → Finds P o → ((a : A) → Finds P (f a)) → Finds P (and_then o f)
finds_then P (Ok a) f h k = k a
finds_then P (Err r) f h k = h

-- the same, knowing the value
pub finds_then_is : (P : Places) {A B : Type 0} (o : Outcome A) (f : A → Outcome B) → Finds P o → ((a : A) → o ≡ Ok a → Finds P (f a)) → Finds P (and_then o f)
finds_then_is P (Ok a) f h k = k a refl
finds_then_is P (Err r) f h k = h

pub finds_if : (P : Places) {A : Type 0} (b : Bool) (o u : Outcome A) → Finds P o → Finds P u → Finds P (if b then o else u)
finds_if P true o u h k = h
finds_if P false o u h k = k

pub finds_each : (P : Places) {A B : Type 0} (f : A → B → Outcome B) → ((x : A) (y : B) → Finds P (f x y)) → (xs : List A) (y : B) → Finds P (each f xs y)
finds_each P f h [] y = tt
finds_each P f h (x ∷ xs) y = finds_then P (f x y) (each f xs) (h x y) (finds_each P f h xs)

-- what comes out is so, or what is found stands at one of the places
abbrev pub Gives : Places → {A : Type 0} → (A → Type 0) → Outcome A → Type 0
Gives P Q (Ok a) = Q a
Gives P Q (Err r) = P (region (says_no_network r.error_code) r.text) r.at

pub gives_then : (P : Places) {A B : Type 0} (Q : A → Type 0) (R : B → Type 0) (o : Outcome A) (f : A → Outcome B) → Gives P Q o → ((a : A) → Q a → Gives P R (f a)) → Gives P R (and_then o f)
gives_then P Q R (Ok a) f h k = k a h
gives_then P Q R (Err r) f h k = h

pub gives_if : (P : Places) {A : Type 0} (Q : A → Type 0) (b : Bool) (o u : Outcome A) → Gives P Q o → Gives P Q u → Gives P Q (if b then o else u)
gives_if P Q true o u h k = h
gives_if P Q false o u h k = k

-- each element is as R says, and so is what was found before it
pub gives_each : (P : Places) {A B : Type 0} (R : A → Type 0) (Q : B → Type 0) (f : A → B → Outcome B) → ((x : A) → R x → (y : B) → Q y → Gives P Q (f x y))
    → (xs : List A) → AllByRecursion R xs → (y : B) → Q y → Gives P Q (each f xs y)
gives_each P R Q f h [] k y q = q
gives_each P R Q f h (x ∷ xs) k y q = gives_then P Q Q (f x y) (each f xs) (h x k.0 y q) (gives_each P R Q f h xs k.1)

pub gives_found : (P : Places) {A : Type 0} (Q : A → Type 0) (o : Outcome A) → Gives P Q o → Finds P o
gives_found P Q (Ok a) h = tt
gives_found P Q (Err r) h = h

pub found_gives : (P : Places) {A : Type 0} (o : Outcome A) → Finds P o → Gives P (λ _. ⊤) o
found_gives P (Ok a) h = tt
found_gives P (Err r) h = h

-- what goes on from where only the diagnostic counts
pub gives_after : (P : Places) {A B : Type 0} (R : B → Type 0) (o : Outcome A) (f : A → Outcome B) → Finds P o → ((a : A) → Gives P R (f a)) → Gives P R (and_then o f)
gives_after P R (Ok a) f h k = k a
gives_after P R (Err r) f h k = h

pub finds_after : (P : Places) {A B : Type 0} (Q : A → Type 0) (o : Outcome A) (f : A → Outcome B) → Gives P Q o → ((a : A) → Q a → Finds P (f a)) → Finds P (and_then o f)
finds_after P Q (Ok a) f h k = k a h
finds_after P Q (Err r) f h k = h

pub finds_after_is : (P : Places) {A B : Type 0} (Q : A → Type 0) (o : Outcome A) (f : A → Outcome B) → Gives P Q o → ((a : A) → o ≡ Ok a → Q a → Finds P (f a)) → Finds P (and_then o f)
finds_after_is P Q (Ok a) f h k = k a refl h
finds_after_is P Q (Err r) f h k = h

pub finds_each_of : (P : Places) {A B : Type 0} (R : A → Type 0) (f : A → B → Outcome B) → ((x : A) → R x → (y : B) → Finds P (f x y)) → (xs : List A) → AllByRecursion R xs → (y : B) → Finds P (each f xs y)
finds_each_of P R f h [] k y = tt
finds_each_of P R f h (x ∷ xs) k y = finds_then P (f x y) (each f xs) (h x k.0 y) (finds_each_of P R f h xs k.1)
