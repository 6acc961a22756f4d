-- The hash call: what it tells, and the digest.
use Rattle.std.specs.Prelude.{List, [], ◌≡◌, ℕ, leb, length, replicate, Result, Ok, Err}
use Rattle.refusals.specs.Buffer.{CHOICES}
use Rattle.refusals.specs.Number.{SHAPE}
use Rattle.refusals.specs.Told.{Told, done, refused, outcome, demand}
use Rattle.sha256.specs.Standard.{digest_of}
use Rattle.refusals.specs.declared.Refusal.{Refusal}

-- document 01: the hash call takes 0 to 65,535 bytes
abbrev pub LONGEST : ℕ
LONGEST = 65535

-- more is SHAPE, buffer 4, at place 0
unfoldable pub told_of : List ℕ → Told
told_of message = demand (leb (length message) LONGEST) SHAPE CHOICES 0

-- the digest, or 32 zeros where the call is refused
abbrev pub shown_of : Told → List ℕ → List ℕ
shown_of (done values) message = digest_of message
shown_of (refused number buffer place) message = replicate 32 0

-- what the call answers means: the digest is no value that is told
abbrev pub means_digest : Result (List ℕ) Refusal → Told
means_digest = outcome (λ digest. [])

-- the digest handed back, and 32 zeros for none
abbrev pub shown : Result (List ℕ) Refusal → List ℕ
shown (Ok digest) = digest
shown (Err r) = replicate 32 0

-- the contract of the call
pub record Hashes (message : List ℕ) (r : Result (List ℕ) Refusal) : Type 0 where
  pub says : means_digest r ≡ told_of message
  pub shows : shown r ≡ shown_of (told_of message) message
