-- What a writer tells and writes (document 01, "Frames" and "Refusal numbers").
use Rattle.refusals.specs.declared.Refusal.{Refusal}
use Rattle.std.specs.Prelude.{◌≡◌, List, [], ◌∷◌, ◌++◌, ℕ, ◌+◌, ◌-◌, ◌/◌, ◌%◌, leb, eqb, length, take, Result, Ok, Err}
use Rattle.refusals.specs.Number.{SHAPE, ROOM}
use Rattle.refusals.specs.Buffer.{NONE, OUTPUT}
use Rattle.refusals.specs.Told.{Told, done, first, demand, means_count}
use Rattle.algebra.specs.Lists.{over}
use Rattle.kinds.specs.declared.Kind.{Kind}
use Rattle.kinds.specs.Kinds.{table, fits, alone, frame_size}
use Rattle.bodies.specs.Bodies.{spare_clear, content}

-- the count in two bytes, the version, the kind, the first number and, where there are two, the second
abbrev pub heading : Kind → ℕ → ℕ → ℕ → List ℕ
heading k count a b =
    take (table k).start (count / 256 ∷ count % 256 ∷ (table k).version ∷ (table k).number ∷ a ∷ b ∷ [])

-- a frame; its count leaves out the two bytes that hold it
unfoldable pub frame : Kind → ℕ → ℕ → List ℕ → List ℕ
frame k a b rest = heading k ((table k).start - 2 + length rest) a b ++ rest

-- the numbers, then the plain buffer: its length, its bytes, its unused bits
unfoldable pub plain_check : Kind → ℕ → ℕ → List ℕ → Told
plain_check k a b plain =
    first (demand (fits k alone a b) SHAPE NONE 0)
    (first (demand (eqb (length plain) ((table k).size a b)) SHAPE (table k).buffer 0)
    (first (content k a b 0 plain) (demand (spare_clear k a plain) SHAPE (table k).buffer 0)))

-- then ROOM; a success tells the bytes written
unfoldable pub writing : Kind → ℕ → ℕ → List ℕ → ℕ → Told
writing k a b plain room =
    first (plain_check k a b plain)
    (first (demand (leb (frame_size k a b) room) ROOM OUTPUT (frame_size k a b)) (done (frame_size k a b ∷ [])))

-- the output afterwards: l over its front, or all that it held
abbrev pub out_after : Result ℕ Refusal → List ℕ → List ℕ → List ℕ
out_after (Ok bytes) l out = over l out
out_after (Err r) l out = out

-- what a writer promises: its answer, and every byte of the output
pub record Writes (k : Kind) (a b : ℕ) (plain out : List ℕ) (answer : Result ℕ Refusal) (after : List ℕ) : Type 0 where
  pub says : means_count answer ≡ writing k a b plain (length out)
  pub writes : after ≡ out_after answer (frame k a b plain) out
