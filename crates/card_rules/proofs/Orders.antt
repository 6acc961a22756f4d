-- Laws of the orders of refusals, an answer each, as the code finds them.
use Rattle.frames.specs.declared.read.Frame.{Frame}
use Rattle.std.specs.Prelude.{Result, Ok, Err}
use mathlib.Core.Path.{◌≡◌, refl, ◌∙◌}
use mathlib.Core.Bool.{Bool, true, false}
use mathlib.Core.List.{List}
use Prim.Native.Nat.{ℕ, ◌≤◌, ◌<◌}
use borrow.Author.Tests.{eq-eqb, ne_eqb, lt-leb, le-leb}
use lib.Dec.{eqb, leb}
use Rattle.refusals.specs.declared.Refusal.{Refusal}
use Rattle.refusals.specs.Number.{KEY, ROOM, STAGE}
use Rattle.refusals.specs.Buffer.{NONE, SECRET, OUTPUT}
use Rattle.refusals.specs.Told.{Told, refused, fine, told, first, demand}
use Rattle.kinds.specs.declared.Kind.TheVariants.{System, Public, Secret, Bits}
use Rattle.kinds.specs.Kinds.{within, alone, of_places, exactly}
use Rattle.frames.specs.Reading.{reading, Reads}
use Rattle.readers.specs.Choosing.{choices_check}
use Rattle.frames.proofs.Orders.{frame_goes_on, frame-stops}
use Rattle.card_rules.specs.declared.session.Session.{Session}
use Rattle.card_rules.specs.Stages.{COMMITTED, ANSWERED}
use Rattle.card_rules.specs.Keys.{Keys, places_of, rows_of, fault_of, keys_check, valid_check}
use Rattle.card_rules.specs.Asking.{staged, at_rest, record_fits, kept_fit, commitments_size, openings_size, rest_check, begin_check, answer_check, open_check}

-- ---- document 01's order: the choices, KEY, ROOM; and at open the rest of STAGE, the message

pub rest_in_order : (k : Keys) (N : ℕ) (choices : List ℕ) (need room : ℕ)
    → rest_check k N choices need room ≡ first (choices_check (places_of k) N choices) (first (valid_check k) (demand (leb need room) ROOM OUTPUT need))
unfolding rest_check
rest_in_order k N choices need room = refl

pub open_in_order : (s : Session) (k : Keys) (message choices : List ℕ) (room : ℕ)
    → open_check s k message choices room
    ≡ first (staged (eqb s.stage ANSWERED))
    (first (keys_check k)
    (first (staged (record_fits s (places_of k) (rows_of k)))
    (first (staged (kept_fit s.rounds s.challenges))
    (first (reading Bits (exactly (places_of k) s.rounds) message)
    (rest_check k s.rounds choices (openings_size (places_of k) s.rounds) room)))))
unfolding open_check
open_in_order s k message choices room = refl

-- ---- links of a chain that are tests

pub test_stops : (x y z : ℕ) (next : Told) {test : Bool} → test ≡ false → refused x y z ≡ first (demand test x y z) next
test_stops x y z next e = rw e

pub test_goes_on : (x y z : ℕ) {next a : Told} {test : Bool} → test ≡ true → a ≡ next → a ≡ first (demand test x y z) next
test_goes_on x y z e q = rw e q

-- ---- buffers 1, 2, 3

module _ (k : Keys) (r : Result Frame Refusal) (m : Reads System alone k.system r) where
  pub bad_system : (x : Refusal) → r ≡ Err x → told x ≡ keys_check k
  unfolding keys_check
  bad_system x e = frame-stops _ m.says e

  module _ (f : Frame) (e : r ≡ Ok f) (p : Result Frame Refusal) (g : Reads Public (of_places (places_of k)) k.public p) where
    pub bad-public : (x : Refusal) → p ≡ Err x → told x ≡ keys_check k
    unfolding keys_check
    bad-public x h = frame_goes_on m.says e (frame-stops _ g.says h)

    module _ (f' : Frame) (e' : p ≡ Ok f') (q : Result Frame Refusal) (h : Reads Secret (of_places (places_of k)) k.secret q) where
      pub bad-secret : (x : Refusal) → q ≡ Err x → told x ≡ keys_check k
      unfolding keys_check
      bad-secret x i = frame_goes_on m.says e (frame_goes_on g.says e' (frame-stops _ h.says i))

      pub good-keys : (f : Frame) → q ≡ Ok f → fine ≡ keys_check k
      unfolding keys_check
      good-keys f i = frame_goes_on m.says e (frame_goes_on g.says e' (frame_goes_on h.says i refl))

-- ---- KEY; `fault` and `rows` are what the code works out

module _ (k : Keys) (fault rows : ℕ) (e : fault ≡ fault_of k) (q : rows ≡ rows_of k) where
  pub bad_key : (fault ≡ rows → ⊥) → refused KEY SECRET fault ≡ valid_check k
  unfolding valid_check
  bad_key f = rw (← e, ← q, ne_eqb fault rows f)

  pub good-key : fault ≡ rows → fine ≡ valid_check k
  unfolding valid_check
  good-key f = rw (← e, ← q, eq-eqb fault rows f)

-- ---- ROOM

pub no_room : (need room : ℕ) → room < need → refused ROOM OUTPUT need ≡ demand (leb need room) ROOM OUTPUT need
no_room need room l = rw (lt-leb need room l)

pub room_enough : (need room : ℕ) → need ≤ room → fine ≡ demand (leb need room) ROOM OUTPUT need
room_enough need room l = rw (le-leb need room l)

-- ---- the wrong stage, whatever is lent

pub no_answer-at : (s : Session) (k : Keys) (message choices : List ℕ) (room : ℕ) → (s.stage ≡ COMMITTED → ⊥) → answer_check s k message choices room ≡ refused STAGE NONE 0
unfolding answer_check
no_answer-at s k message choices room f = rw (ne_eqb s.stage COMMITTED f)

pub no_open_at : (s : Session) (k : Keys) (message choices : List ℕ) (room : ℕ) → (s.stage ≡ ANSWERED → ⊥) → open_check s k message choices room ≡ refused STAGE NONE 0
no_open_at s k message choices room f = open_in_order s k message choices room ∙ rw (ne_eqb s.stage ANSWERED f)

-- ---- begin over choices that are refused, once all before them has passed

pub choices_stop : (s : Session) (N : ℕ) (k : Keys) (choices : List ℕ) (room : ℕ) → at_rest s.stage ≡ true → within alone.rounds N ≡ true → keys_check k ≡ fine
    → {x y z : ℕ} → choices_check (places_of k) N choices ≡ refused x y z → begin_check s N k choices room ≡ refused x y z
unfolding begin_check
choices_stop s N k choices room a b c e = rw (a, b, c, rest_in_order k N choices (commitments_size N) room, e)
