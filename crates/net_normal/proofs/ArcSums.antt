-- Laws of sums over the arcs of a network, by induction on the arcs.
use Rattle.std.proofs.Common.{◌≡◌, suc, Bool, false, cond, List, [], ◌∷◌, ◌++◌, map, length, ℤ, pos, ◌+ℤ◌, ◌-ℤ◌, ◌*ℤ◌, ◌≤ℤ◌, refl, sym, ◌∙◌, ap, arith}
use Rattle.std.proofs.lemmas.Int.{ints}
use Rattle.std.specs.List.{AllZip}
use Rattle.net_normal.specs.Sums.{flow_on, price_of}
use Rattle.net_normal.proofs.WholeNumbers.{mul-add, choice-add, choice-le}

-- two flows on the same arcs, added
abbrev pub added : List ℤ → List ℤ → List ℤ
added [] others = []
added (x ∷ flows) [] = []
added (x ∷ flows) (y ∷ others) = (x +ℤ y) ∷ added flows others

-- the second taken from the first
abbrev pub lessened : List ℤ → List ℤ → List ℤ
lessened [] others = []
lessened (x ∷ flows) [] = []
lessened (x ∷ flows) (y ∷ others) = (x -ℤ y) ∷ lessened flows others

pub flow_on-append : {A : Type 0} (test : A → Bool) (arcs more : List A) (xs ys : List ℤ) → length arcs ≡ length xs → flow_on test (arcs ++ more) (xs ++ ys) ≡ flow_on test arcs xs +ℤ flow_on test more ys
flow_on-append test [] more [] ys h = omega (arith, ints)
flow_on-append test [] more (x ∷ xs) ys h = absurd (omega (arith, h))
flow_on-append test (a ∷ arcs) more [] ys h = absurd (omega (arith, h))
flow_on-append test (a ∷ arcs) more (x ∷ xs) ys h = let same : length arcs ≡ length xs = omega (arith, h) in omega (arith, ints, flow_on-append test arcs more xs ys same)

pub price_of-append : {A : Type 0} (price : A → ℤ) (arcs more : List A) (xs ys : List ℤ) → length arcs ≡ length xs → price_of price (arcs ++ more) (xs ++ ys) ≡ price_of price arcs xs +ℤ price_of price more ys
price_of-append price [] more [] ys h = omega (arith, ints)
price_of-append price [] more (x ∷ xs) ys h = absurd (omega (arith, h))
price_of-append price (a ∷ arcs) more [] ys h = absurd (omega (arith, h))
price_of-append price (a ∷ arcs) more (x ∷ xs) ys h = let same : length arcs ≡ length xs = omega (arith, h) in omega (arith, ints, price_of-append price arcs more xs ys same)

-- a sum over made arcs
pub flow_on-map : {A B : Type 0} (test : B → Bool) (make : A → B) (arcs : List A) (xs : List ℤ) → flow_on test (map make arcs) xs ≡ flow_on (λ a. test (make a)) arcs xs
flow_on-map test make [] xs = refl
flow_on-map test make (a ∷ arcs) [] = refl
flow_on-map test make (a ∷ arcs) (x ∷ xs) = ap (λ (s : ℤ). cond (test (make a)) x (pos 0) +ℤ s) (flow_on-map test make arcs xs)

pub price_of-map : {A B : Type 0} (price : B → ℤ) (make : A → B) (arcs : List A) (xs : List ℤ) → price_of price (map make arcs) xs ≡ price_of (λ a. price (make a)) arcs xs
price_of-map price make [] xs = refl
price_of-map price make (a ∷ arcs) [] = refl
price_of-map price make (a ∷ arcs) (x ∷ xs) = ap (λ (s : ℤ). price (make a) *ℤ x +ℤ s) (price_of-map price make arcs xs)

-- tests that agree at each arc
pub flow_on-agree : {A : Type 0} (p q : A → Bool) → ((a : A) → p a ≡ q a) → (arcs : List A) (xs : List ℤ) → flow_on p arcs xs ≡ flow_on q arcs xs
flow_on-agree p q same [] xs = refl
flow_on-agree p q same (a ∷ arcs) [] = refl
flow_on-agree p q same (a ∷ arcs) (x ∷ xs) = ap (λ (b : Bool). cond b x (pos 0) +ℤ flow_on p arcs xs) (same a) ∙ ap (λ (s : ℤ). cond (q a) x (pos 0) +ℤ s) (flow_on-agree p q same arcs xs)

-- flows that are added
pub flow_on-added : {A : Type 0} (test : A → Bool) (arcs : List A) (xs ys : List ℤ) → length arcs ≡ length xs → length arcs ≡ length ys → flow_on test arcs (added xs ys) ≡ flow_on test arcs xs +ℤ flow_on test arcs ys
flow_on-added test [] xs ys h k = omega (arith, ints)
flow_on-added test (a ∷ arcs) [] ys h k = absurd (omega (arith, h))
flow_on-added test (a ∷ arcs) (x ∷ xs) [] h k = absurd (omega (arith, k))
flow_on-added test (a ∷ arcs) (x ∷ xs) (y ∷ ys) h k =
    let m : length arcs ≡ length xs = omega (arith, h) in
    let n : length arcs ≡ length ys = omega (arith, k) in
    omega (arith, ints, flow_on-added test arcs xs ys m n, choice-add (test a) x y)

pub price_of-added : {A : Type 0} (price : A → ℤ) (arcs : List A) (xs ys : List ℤ) → length arcs ≡ length xs → length arcs ≡ length ys → price_of price arcs (added xs ys) ≡ price_of price arcs xs +ℤ price_of price arcs ys
price_of-added price [] xs ys h k = omega (arith, ints)
price_of-added price (a ∷ arcs) [] ys h k = absurd (omega (arith, h))
price_of-added price (a ∷ arcs) (x ∷ xs) [] h k = absurd (omega (arith, k))
price_of-added price (a ∷ arcs) (x ∷ xs) (y ∷ ys) h k =
    let m : length arcs ≡ length xs = omega (arith, h) in
    let n : length arcs ≡ length ys = omega (arith, k) in
    omega (arith, ints, price_of-added price arcs xs ys m n, mul-add (price a) x y)

-- an order between flows is one between sums
pub flow_on-le : {A : Type 0} (test : A → Bool) (least : A → ℤ) (arcs : List A) (xs : List ℤ) → AllZip (λ a x. least a ≤ℤ x) arcs xs → flow_on test arcs (map least arcs) ≤ℤ flow_on test arcs xs
flow_on-le test least [] xs h = omega (arith, ints)
flow_on-le test least (a ∷ arcs) [] h = absurd h
flow_on-le test least (a ∷ arcs) (x ∷ xs) h = omega (arith, ints, choice-le (test a) (least a) x h.0, flow_on-le test least arcs xs h.1)

pub flow_on-ge : {A : Type 0} (test : A → Bool) (most : A → ℤ) (arcs : List A) (xs : List ℤ) → AllZip (λ a x. x ≤ℤ most a) arcs xs → flow_on test arcs xs ≤ℤ flow_on test arcs (map most arcs)
flow_on-ge test most [] xs h = omega (arith, ints)
flow_on-ge test most (a ∷ arcs) [] h = absurd h
flow_on-ge test most (a ∷ arcs) (x ∷ xs) h = omega (arith, ints, choice-le (test a) x (most a) h.0, flow_on-ge test most arcs xs h.1)

-- a sum where no arc passes
pub flow_on-none : {A : Type 0} (test : A → Bool) → ((a : A) → test a ≡ false) → (arcs : List A) (xs : List ℤ) → flow_on test arcs xs ≡ pos 0
flow_on-none test none [] xs = refl
flow_on-none test none (a ∷ arcs) [] = refl
flow_on-none test none (a ∷ arcs) (x ∷ xs) = ap (λ (b : Bool). cond b x (pos 0) +ℤ flow_on test arcs xs) (none a) ∙ omega (arith, ints, flow_on-none test none arcs xs)

-- flows that go to two lists of arcs, one after the other
pub zipped_parts : {A : Type 0} (R : A → ℤ → Type 0) (arcs more : List A) (flows : List ℤ) → AllZip R (arcs ++ more) flows → (xs : List ℤ) × (ys : List ℤ) × (flows ≡ xs ++ ys) × AllZip R arcs xs × AllZip R more ys
zipped_parts R [] more flows h = ([], flows, refl, tt, h)
zipped_parts R (a ∷ arcs) more [] h = absurd h
zipped_parts R (a ∷ arcs) more (x ∷ flows) h =
    let rest = zipped_parts R arcs more flows h.1 in
    (x ∷ rest.0, rest.1, ap (λ (zs : List ℤ). x ∷ zs) rest.2, (h.0, rest.3), rest.4)

pub zipped_whole : {A : Type 0} (R : A → ℤ → Type 0) (arcs more : List A) (xs ys : List ℤ) → AllZip R arcs xs → AllZip R more ys → AllZip R (arcs ++ more) (xs ++ ys)
zipped_whole R [] more [] ys h k = k
zipped_whole R [] more (x ∷ xs) ys h k = absurd h
zipped_whole R (a ∷ arcs) more [] ys h k = absurd h
zipped_whole R (a ∷ arcs) more (x ∷ xs) ys h k = (h.0, zipped_whole R arcs more xs ys h.1 k)

pub zipped-weaker : {A : Type 0} (R S : A → ℤ → Type 0) → ((a : A) (x : ℤ) → R a x → S a x) → (arcs : List A) (xs : List ℤ) → AllZip R arcs xs → AllZip S arcs xs
zipped-weaker R S f [] [] h = tt
zipped-weaker R S f [] (x ∷ xs) h = absurd h
zipped-weaker R S f (a ∷ arcs) [] h = absurd h
zipped-weaker R S f (a ∷ arcs) (x ∷ xs) h = (f a x h.0, zipped-weaker R S f arcs xs h.1)

-- what is added can be taken away again
pub added-lessened : (xs ys : List ℤ) → length xs ≡ length ys → added (lessened xs ys) ys ≡ xs
added-lessened [] ys h = refl
added-lessened (x ∷ xs) [] h = absurd (omega (arith, h))
added-lessened (x ∷ xs) (y ∷ ys) h =
    let same : length xs ≡ length ys = omega (arith, h) in
    let first : (x -ℤ y) +ℤ y ≡ x = omega (arith, ints) in
    ap (λ (z : ℤ). z ∷ added (lessened xs ys) ys) first ∙ ap (λ (zs : List ℤ). x ∷ zs) (added-lessened xs ys same)

pub lessened-added : (xs ys : List ℤ) → length xs ≡ length ys → lessened (added xs ys) ys ≡ xs
lessened-added [] ys h = refl
lessened-added (x ∷ xs) [] h = absurd (omega (arith, h))
lessened-added (x ∷ xs) (y ∷ ys) h =
    let same : length xs ≡ length ys = omega (arith, h) in
    let first : (x +ℤ y) -ℤ y ≡ x = omega (arith, ints) in
    ap (λ (z : ℤ). z ∷ lessened (added xs ys) ys) first ∙ ap (λ (zs : List ℤ). x ∷ zs) (lessened-added xs ys same)

pub length-lessened : (xs ys : List ℤ) → length xs ≡ length ys → length (lessened xs ys) ≡ length xs
length-lessened [] ys h = refl
length-lessened (x ∷ xs) [] h = absurd (omega (arith, h))
length-lessened (x ∷ xs) (y ∷ ys) h = let same : length xs ≡ length ys = omega (arith, h) in omega (arith, length-lessened xs ys same)

pub length-added : (xs ys : List ℤ) → length xs ≡ length ys → length (added xs ys) ≡ length xs
length-added [] ys h = refl
length-added (x ∷ xs) [] h = absurd (omega (arith, h))
length-added (x ∷ xs) (y ∷ ys) h = let same : length xs ≡ length ys = omega (arith, h) in omega (arith, length-added xs ys same)

-- an arc that does not pass is passed over
abbrev pub rest_of : List ℤ → List ℤ
rest_of [] = []
rest_of (x ∷ xs) = xs

pub flow_on-nil : {A : Type 0} (test : A → Bool) (arcs : List A) → flow_on test arcs [] ≡ pos 0
flow_on-nil test [] = refl
flow_on-nil test (a ∷ arcs) = refl

pub flow_on-skip : {A : Type 0} (test : A → Bool) (a : A) (arcs : List A) (xs : List ℤ) → test a ≡ false → flow_on test (a ∷ arcs) xs ≡ flow_on test arcs (rest_of xs)
flow_on-skip test a arcs [] h = sym (flow_on-nil test arcs)
flow_on-skip test a arcs (x ∷ xs) h = ap (λ (b : Bool). cond b x (pos 0) +ℤ flow_on test arcs xs) h ∙ omega (arith, ints)

pub zipped-length : {A : Type 0} (R : A → ℤ → Type 0) (arcs : List A) (xs : List ℤ) → AllZip R arcs xs → length arcs ≡ length xs
zipped-length R [] [] h = refl
zipped-length R [] (x ∷ xs) h = absurd h
zipped-length R (a ∷ arcs) [] h = absurd h
zipped-length R (a ∷ arcs) (x ∷ xs) h = ap suc (zipped-length R arcs xs h.1)
