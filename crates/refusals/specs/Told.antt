-- What a call tells its caller, in document 01's terms.
use Rattle.std.specs.Prelude.{Bool, true, false, List, [], ◌∷◌, ℕ, zero, suc, ⊤, Result, Ok, Err}
use Rattle.refusals.specs.declared.Refusal.{Refusal}
use Rattle.refusals.specs.Number.{reason_number}
use Rattle.refusals.specs.Buffer.{buffer_number}

-- a success with its values, or a refusal: its number, buffer and place
pub data Told : Type 0 where
  done : List ℕ → Told
  refused : ℕ → ℕ → ℕ → Told

-- a success that has no value
abbrev pub fine : Told
fine = done []

abbrev pub told : Refusal → Told
told r = refused (reason_number r.reason) (buffer_number r.buffer) r.place

-- what an answer means, by the values that a success tells
abbrev pub outcome : {A : Type 0} → (A → List ℕ) → Result A Refusal → Told
outcome values (Ok x) = done (values x)
outcome values (Err r) = told r

-- that of a check, and of a call that counts: the bytes written or used, or the rounds accepted
abbrev pub means : Result ⊤ Refusal → Told
means = outcome (λ nothing. [])

abbrev pub means_count : Result ℕ Refusal → Told
means_count = outcome (λ n. n ∷ [])

-- the first refusal of a chain: what comes next counts only where this refuses nothing
abbrev pub first : Told → Told → Told
first (done values) next = next
first (refused number buffer place) next = refused number buffer place

-- the first refusal of f 0, f 1, .., f (n - 1)
unfoldable pub first_below : ℕ → (ℕ → Told) → Told
first_below zero f = fine
first_below (suc n) f = first (first_below n f) (f n)

-- a test that has to hold, and the refusal where it does not
abbrev pub demand : Bool → ℕ → ℕ → ℕ → Told
demand true number buffer place = fine
demand false number buffer place = refused number buffer place
