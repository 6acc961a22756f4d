-- What the C functions beside the card's answer and write: what the calls tell.
use Rattle.std.specs.Prelude.{◌≡◌, List, [], ◌∷◌, ℕ, ◌+◌, ◌*◌, leb, length}
use Rattle.refusals.specs.Number.{ROOM}
use Rattle.refusals.specs.Buffer.{OUTPUT}
use Rattle.refusals.specs.Told.{Told, done, first, demand}
use Rattle.algebra.specs.Lists.{over}
use Rattle.random.specs.Drawings.{Drawing, used_by, drawn_over}
use Rattle.sha256.specs.Standard.{digest_of}
use Rattle.sha256.specs.Call.{told_of}
use Rattle.kinds.specs.declared.Kind.{Kind}
use Rattle.kinds.specs.declared.Kind.TheVariants.{Openings}
use Rattle.kinds.specs.Kinds.{alone, table}
use Rattle.frames.specs.Reading.{first_of, reading, opening_check}
use Rattle.writers.specs.Writing.{frame, writing}
use Rattle.draw_rules.specs.Telling.{telling}
use Rattle.stand_in_round.specs.Bytes.{round_bytes}
use Rattle.stand_in.specs.Standing.{standing, stand_in_of}
use Rattle.card_for_c.specs.declared.Answer.{Answer}
use Rattle.card_for_c.specs.Answers.{answer_of, if_done}

-- a call that writes: its answer, from what it tells, and every byte of the output; `filled` is the output after a success
pub record OutputForC (t : Told) (filled out : List ℕ) (answer : Answer) (after : List ℕ) : Type 0 where
  pub says : answer ≡ answer_of t
  pub writes : after ≡ if_done answer filled out

-- ---- the hash: SHAPE, then ROOM; a success tells the bytes of the digest

abbrev pub digest_size : ℕ
digest_size = 32

unfoldable pub hash_told : List ℕ → ℕ → Told
hash_told message room = first (told_of message) (first (demand (leb digest_size room) ROOM OUTPUT digest_size) (done (digest_size ∷ [])))

abbrev pub HashForC : List ℕ → List ℕ → Answer → List ℕ → Type 0
HashForC message out answer after = OutputForC (hash_told message (length out)) (over (digest_of message) out) out answer after

-- ---- readers, of any kind

abbrev pub ReadForC : Kind → List ℕ → Answer → Type 0
ReadForC kind s answer = answer ≡ answer_of (reading kind alone s)

-- where the permutation of a round stands in the openings frame
abbrev pub opening_place : List ℕ → ℕ → ℕ
opening_place s round = (table Openings).start + round * first_of s

unfoldable pub opening_told : List ℕ → ℕ → Told
opening_told s round = first (opening_check s round) (done (opening_place s round ∷ []))

-- ---- writers, of any kind

abbrev pub WriteForC : Kind → ℕ → ℕ → List ℕ → List ℕ → Answer → List ℕ → Type 0
WriteForC kind a b plain out answer after = OutputForC (writing kind a b plain (length out)) (over (frame kind a b plain) out) out answer after

-- ---- drawings: `numbers` is what the numbers and frames tell, `need` the bytes to be written

abbrev pub DrawForC : Told → ℕ → Drawing → List ℕ → List ℕ → Answer → List ℕ → Type 0
DrawForC numbers need drawing random out answer after =
    OutputForC (telling numbers need (length out) (used_by drawing) (length random)) (drawn_over drawing out) out answer after

-- ---- the stand-in

abbrev pub StandInForC : ℕ → ℕ → List ℕ → List ℕ → List ℕ → List ℕ → Answer → List ℕ → Type 0
StandInForC challenge bit system key lent out answer after =
    OutputForC (standing challenge bit system key lent (length out)) (over (round_bytes (stand_in_of challenge bit system key lent)) out) out answer after
