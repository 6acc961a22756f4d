-- What a drawing tells and writes: numbers and frames, then ROOM, then DRAW (document 01, "Refusal numbers").
use Rattle.refusals.specs.declared.Refusal.{Refusal}
use Rattle.refusals.specs.declared.Reason.{Reason}
use Rattle.refusals.specs.declared.Buffer.{Buffer}
use Rattle.std.specs.Prelude.{◌≡◌, Bool, ◌&&◌, List, [], ◌∷◌, ℕ, leb, length, Option, Some, None, Result, Ok, Err}
use Rattle.refusals.specs.Number.{SHAPE, ROOM, DRAW}
use Rattle.refusals.specs.Buffer.{NONE, RANDOM, OUTPUT}
use Rattle.refusals.specs.Told.{Told, done, refused, first, demand, means_count}
use Rattle.random.specs.Drawings.{Drawing, used_by, drawn_over}
use Rattle.kinds.specs.Kinds.{limits, within, alone}

-- a refusal as an answer
abbrev pub refusal : Reason → Buffer → ℕ → Result ℕ Refusal
refusal reason buffer place = Err (record { reason = reason; buffer = buffer; place = place })

-- bare numbers
abbrev pub bare : Bool → Told
bare test = demand test SHAPE NONE 0

-- n and N of choices, N up to the greatest that is asked
abbrev pub choices_fit : ℕ → ℕ → ℕ → Bool
choices_fit greatest n N = within alone.places n && within (limits 1 greatest) N

-- the bytes used; DRAW where they ran out, and its place is the number of bytes lent
abbrev pub used_told : Option ℕ → ℕ → Told
used_told (Some used) lent = done (used ∷ [])
used_told None lent = refused DRAW RANDOM lent

-- `numbers` is what the numbers and frames tell, `need` the bytes to be written, `room` the output's length
unfoldable pub telling : Told → ℕ → ℕ → Option ℕ → ℕ → Told
telling numbers need room used lent =
    first numbers (first (demand (leb need room) ROOM OUTPUT need) (used_told used lent))

-- the output afterwards: what was drawn over its front, or all that it held
abbrev pub drawn_after : Result ℕ Refusal → Drawing → List ℕ → List ℕ
drawn_after (Ok used) drawing out = drawn_over drawing out
drawn_after (Err r) drawing out = out

-- what a drawing promises: its answer, and every byte of the output
pub record Draws (numbers : Told) (need : ℕ) (drawing : Drawing) (random out : List ℕ) (answer : Result ℕ Refusal) (after : List ℕ) : Type 0 where
  pub says : means_count answer ≡ telling numbers need (length out) (used_by drawing) (length random)
  pub writes : after ≡ drawn_after answer drawing out
