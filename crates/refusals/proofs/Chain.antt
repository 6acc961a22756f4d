-- Laws of what a call tells: an answer is fixed by what it means, and the first refusal of a chain.
use mathlib.Core.Path.{◌≡◌, refl, sym, ap, ◌∙◌}
use mathlib.Core.Bool.{Bool, true, false}
use mathlib.Core.List.{List, []}
use mathlib.Core.Logic.{◌⊎◌, inl, inr}
use Prim.Native.Nat.{ℕ, zero, suc, ◌+◌, ◌≤◌, ◌<◌}
use native.Mathlib.Nat.{not-suc-le-zero, le_refl}
use native.Mathlib.Numerals.{add-one}
use native.Mathlib.Decide.{ℕ_discrete}
use native.Mathlib.Omega.{arith}
use Rattle.refusals.specs.declared.Refusal.{Refusal}
use Rattle.std.specs.Prelude.{⊤, ◌-◌, get_or, ◌∷◌, Result, Ok, Err, IsErr, IsErrAnd}
use Rattle.refusals.specs.declared.Reason.{Reason}
use Rattle.refusals.specs.declared.Reason.TheVariants.{Short, Long, Version, Kind, Shape, Value, Perm, Key, Room, Draw, Stage, Weak, First, Second, SelfCheck}
use Rattle.refusals.specs.declared.Buffer.{Buffer}
use Rattle.refusals.specs.declared.Buffer.TheVariants.{NoBuffer, System, Public, Secret, Choices, Commitments, Challenges, Answers, Bits, Openings, Random, Output}
use Rattle.refusals.specs.Number.{reason_number}
use Rattle.refusals.specs.Buffer.{buffer_number}
use Rattle.refusals.specs.Told.{Told, done, refused, fine, told, means, means_count, outcome, first, first_below, demand}

-- ---- an answer is fixed by what it means: the way back

abbrev reasons : List Reason
reasons = Short ∷ Long ∷ Version ∷ Kind ∷ Shape ∷ Value ∷ Perm ∷ Key ∷ Room ∷ Draw ∷ Stage ∷ Weak ∷ First ∷ Second ∷ SelfCheck ∷ []

abbrev buffers : List Buffer
buffers = NoBuffer ∷ System ∷ Public ∷ Secret ∷ Choices ∷ Commitments ∷ Challenges ∷ Answers ∷ Bits ∷ Openings ∷ Random ∷ Output ∷ []

-- reasons are numbered from 1
abbrev reason_of : ℕ → Reason
reason_of number = get_or reasons (number - 1) Short

abbrev buffer_of : ℕ → Buffer
buffer_of number = get_or buffers number NoBuffer

reason-number : (r : Reason) → reason_of (reason_number r) ≡ r
reason-number Short = refl
reason-number Long = refl
reason-number Version = refl
reason-number Kind = refl
reason-number Shape = refl
reason-number Value = refl
reason-number Perm = refl
reason-number Key = refl
reason-number Room = refl
reason-number Draw = refl
reason-number Stage = refl
reason-number Weak = refl
reason-number First = refl
reason-number Second = refl
reason-number SelfCheck = refl

buffer-number : (b : Buffer) → buffer_of (buffer_number b) ≡ b
buffer-number NoBuffer = refl
buffer-number System = refl
buffer-number Public = refl
buffer-number Secret = refl
buffer-number Choices = refl
buffer-number Commitments = refl
buffer-number Challenges = refl
buffer-number Answers = refl
buffer-number Bits = refl
buffer-number Openings = refl
buffer-number Random = refl
buffer-number Output = refl

-- the refusal of these numbers
abbrev refusal_of : ℕ → ℕ → ℕ → Refusal
refusal_of number buffer place = record { reason = reason_of number; buffer = buffer_of buffer; place = place }

pub refusal-told : (r : Refusal) → refusal_of (reason_number r.reason) (buffer_number r.buffer) r.place ≡ r
refusal-told r = rw (reason-number r.reason, buffer-number r.buffer) refl

-- an answer by what it means, where `value` finds the value of a success in its list
abbrev answering : {A : Type 0} → (List ℕ → A) → Told → Result A Refusal
answering value (done values) = Ok (value values)
answering value (refused number buffer place) = Err (refusal_of number buffer place)

-- it is the answer itself, where the values that a success tells are enough to find it again
pub answering-means : {A : Type 0} (values : A → List ℕ) (value : List ℕ → A) → ((x : A) → value (values x) ≡ x)
    → (r : Result A Refusal) → answering value (outcome values r) ≡ r
answering-means values value back (Ok x) = ap Ok (back x)
answering-means values value back (Err r) = ap Err (refusal-told r)

-- and then no second answer has the same meaning
pub outcome_fixes : {A : Type 0} (values : A → List ℕ) (value : List ℕ → A) → ((x : A) → value (values x) ≡ x)
    → (a b : Result A Refusal) → outcome values a ≡ outcome values b → a ≡ b
outcome_fixes values value back a b e =
    let found = answering-means values value back in
    sym (found a) ∙ ap (answering value) e ∙ found b

pub means_fixes : (a b : Result ⊤ Refusal) → means a ≡ means b → a ≡ b
means_fixes = outcome_fixes (λ nothing. []) (λ values. tt) (λ nothing. refl)

pub count_fixes : (a b : Result ℕ Refusal) → means_count a ≡ means_count b → a ≡ b
count_fixes = outcome_fixes (λ n. n ∷ []) (λ values. get_or values 0 0) (λ n. refl)

-- ---- a chain, as the code goes through it: `r` is a callee's answer and `a` what it has to mean

-- past an answer that refuses nothing the rest of the chain counts
pub past : {A : Type 0} (values : A → List ℕ) {r : Result A Refusal} {a b c : Told} {x : A} → outcome values r ≡ a → r ≡ Ok x → c ≡ b → c ≡ first a b
past values {b = b} m e n = n ∙ ap (λ (t : Told). first t b) (sym (ap (outcome values) e) ∙ m)

-- an answer that refuses ends it, whatever was to come next
pub ends : {A : Type 0} (values : A → List ℕ) (b : Told) {r : Result A Refusal} {a : Told} {x : Refusal} → outcome values r ≡ a → r ≡ Err x → told x ≡ first a b
ends values b m e = ap (λ (t : Told). first t b) (sym (ap (outcome values) e) ∙ m)

-- what a `?` hands on is the refusal that it got
pub handed_on : {A : Type 0} {r : Result A Refusal} {x : Refusal} → IsErr r × IsErrAnd r (λ y. y ≡ x) → r ≡ Err x
handed_on {r = Ok v} (e, h) = absurd h
handed_on {r = Err y} (e, h) = ap Err h

-- the same of a check
pub goes_on : {r : Result ⊤ Refusal} {a b c : Told} {x : ⊤} → means r ≡ a → r ≡ Ok x → c ≡ b → c ≡ first a b
goes_on = past (λ nothing. [])

pub stops : (b : Told) {r : Result ⊤ Refusal} {a : Told} {x : Refusal} → means r ≡ a → r ≡ Err x → told x ≡ first a b
stops = ends (λ nothing. [])

-- ---- what the outcome of a chain says of its links

-- a chain in a chain
pub first_assoc : (a b c : Told) → first (first a b) c ≡ first a (first b c)
first_assoc (done values) b c = refl
first_assoc (refused number buffer place) b c = refl

-- a check that found nothing
abbrev pub Passed : Told → Type 0
Passed a = (values : List ℕ) × (a ≡ done values)

pub first_done : (a b : Told) (values : List ℕ) → first a b ≡ done values → Passed a × (b ≡ done values)
first_done (done v) b values e = ((v, refl), e)
first_done (refused k l p) b values e = let z : ◌≡◌ {A = ℕ} 0 1 = cc in absurd (omega arith)

pub demand_done : (test : Bool) (k l p : ℕ) (values : List ℕ) → demand test k l p ≡ done values → test ≡ true
demand_done true k l p values e = refl
demand_done false k l p values e = let z : ◌≡◌ {A = ℕ} 0 1 = cc in absurd (omega arith)

-- the values of a success: those of the chain's end, and a test has none
pub ends_done : (a : Told) (v values : List ℕ) → first a (done v) ≡ done values → values ≡ v
ends_done a v values e = let q = (first_done a (done v) values e).1 in cc

pub demand-none : (test : Bool) (k l p : ℕ) (values : List ℕ) → demand test k l p ≡ done values → values ≡ []
demand-none true k l p values e = cc
demand-none false k l p values e = let z : ◌≡◌ {A = ℕ} 0 1 = cc in absurd (omega arith)

-- a refusal is this link's, or this one found nothing and it is the rest's
pub first_refused : (a b : Told) (k l p : ℕ) → first a b ≡ refused k l p → (a ≡ refused k l p) ⊎ (Passed a × (b ≡ refused k l p))
first_refused (done v) b k l p e = inr ((v, refl), e)
first_refused (refused x y z) b k l p e = inl e

-- ---- the numbers that a chain refuses by: document 01's start at 1

abbrev pub UpTo : ℕ → Told → Type 0
UpTo most a = (k l p : ℕ) → a ≡ refused k l p → (1 ≤ k) × (k ≤ most)

pub done_most : (most : ℕ) (values : List ℕ) → UpTo most (done values)
done_most most values k l p e = let z : ◌≡◌ {A = ℕ} 0 1 = cc in absurd (omega arith)

pub demand-most : (most : ℕ) (test : Bool) (x y z : ℕ) → 1 ≤ x → x ≤ most → UpTo most (demand test x y z)
demand-most most true x y z g h k l p e = done_most most [] k l p e
demand-most most false x y z g h k l p e = let q : x ≡ k = cc in (omega arith, omega arith)

pub first-most : (most : ℕ) (a b : Told) → UpTo most a → UpTo most b → UpTo most (first a b)
first-most most (done v) b f g = g
first-most most (refused x y z) b f g = f

-- a test in front of a chain
pub test_most : (most : ℕ) (test : Bool) (x y z : ℕ) (rest : Told) → 1 ≤ x → x ≤ most → UpTo most rest → UpTo most (first (demand test x y z) rest)
test_most most test x y z rest g h = first-most most (demand test x y z) rest (demand-most most test x y z g h)

pub below-most : (most n : ℕ) (f : ℕ → Told) → ((k : ℕ) → UpTo most (f k)) → UpTo most (first_below n f)
unfolding first_below
below-most most zero f h = done_most most []
below-most most (suc n) f h = first-most most (first_below n f) (f n) (below-most most n f h) (h n)

pub most-more : (few most : ℕ) (a : Told) → few ≤ most → UpTo few a → UpTo most a
most-more few most a h f k l p e =
    let x = (f k l p e).0 in
    let y = (f k l p e).1 in
    (omega arith, omega arith)

-- ---- the first refusal below n, as a loop goes through it: at the place k none was found before

pub below_none : (f : ℕ → Told) → first_below 0 f ≡ fine
unfolding first_below
below_none f = refl

module _ (f : ℕ → Told) (k : ℕ) (none : first_below k f ≡ fine) where
  pub below_more : f k ≡ fine → first_below (k + 1) f ≡ fine
  unfolding first_below
  below_more e = rw (add-one, none) e

  -- the refusal found at k is the whole's
  pub below-stops : (n : ℕ) {x y z : ℕ} → k < n → f k ≡ refused x y z → refused x y z ≡ first_below n f
  unfolding first_below
  below-stops zero l e = absurd (not-suc-le-zero l)
  below-stops (suc n) {x} {y} {z} l e = step (ℕ_discrete k n) (λ l. below-stops n l e)
    where
      step : Dec (k ≡ n) → (k < n → refused x y z ≡ first_below n f) → refused x y z ≡ first (first_below n f) (f n)
      step (yes q) ih = rw (← q, none) (sym e)
      step (no q) ih = rw (← ih (omega arith))

-- a chain below n refuses nothing exactly where no link does
pub below_passed : (n : ℕ) (f : ℕ → Told) (values : List ℕ) → first_below n f ≡ done values → (k : ℕ) → k < n → Passed (f k)
unfolding first_below
below_passed zero f values e k l = absurd (not-suc-le-zero l)
below_passed (suc n) f values e k l = step (ℕ_discrete k n) (first_done (first_below n f) (f n) values e) (λ v e l. below_passed n f v e k l)
  where
    step : Dec (k ≡ n) → Passed (first_below n f) × (f n ≡ done values) → ((v : List ℕ) → first_below n f ≡ done v → k < n → Passed (f k)) → Passed (f k)
    step (yes q) (a, b) ih = rw q (values, b)
    step (no q) ((v, a), b) ih = ih v a (omega arith)

pub below-fine : (n : ℕ) (f : ℕ → Told) → ((k : ℕ) → k < n → f k ≡ fine) → first_below n f ≡ fine
unfolding first_below
below-fine zero f h = refl
below-fine (suc n) f h = rw (below-fine n f (λ k l. h k (omega arith))) (h n (le_refl (suc n)))
