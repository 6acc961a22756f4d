-- No second outcome fits what the key check promises. It writes nothing. And the numbers that the calls refuse by.
use Rattle.refusals.specs.declared.Refusal.{Refusal}
use Rattle.std.specs.Prelude.{⊤, Result}
use mathlib.Core.Path.{◌≡◌, sym, ◌∙◌}
use mathlib.Core.List.{List, []}
use Prim.Native.Nat.{ℕ}
use native.Mathlib.Omega.{arith}
use lib.Dec.{eqb, leb}
use Rattle.refusals.specs.Number.{SHAPE, PERM, KEY, ROOM, STAGE}
use Rattle.refusals.specs.Buffer.{NONE, SECRET, OUTPUT}
use Rattle.refusals.specs.Told.{Told, done, fine, first, demand}
use Rattle.refusals.proofs.Chain.{means_fixes, UpTo, first_done, demand-none, done_most, demand-most, first-most, most-more, test_most}
use Rattle.kinds.specs.declared.Kind.TheVariants.{System, Public, Secret, Challenges, Bits}
use Rattle.kinds.specs.Kinds.{within, alone, of_places, exactly}
use Rattle.frames.specs.Reading.{reading}
use Rattle.readers.specs.Choosing.{choices_check}
use Rattle.readers.proofs.Outcomes.{frame-most, choices-most}
use Rattle.card_rules.specs.declared.session.Session.{Session}
use Rattle.card_rules.specs.Stages.{COMMITTED, ANSWERED}
use Rattle.card_rules.specs.Keys.{Keys, places_of, rows_of, fault_of, keys_check, valid_check, key_check, ChecksKey}
use Rattle.card_rules.specs.Asking.{staged, at_rest, record_fits, kept_fit, commitments_size, answers_size, openings_size, rest_check, begin_check, answer_check, open_check}
use Rattle.card_rules.proofs.Orders.{rest_in_order, open_in_order}

pub one_key_check : (k : Keys) (a b : Result ⊤ Refusal) → ChecksKey k a → ChecksKey k b → a ≡ b
one_key_check k a b p q = means_fixes a b (p.says ∙ sym q.says)

-- ---- the numbers up to STAGE

keys-most : (k : Keys) (rest : Told) → UpTo STAGE rest → UpTo STAGE (first (keys_check k) rest)
unfolding keys_check
keys-most k rest =
    let e = of_places (places_of k) in
    let r3 : Told = first (reading Secret e k.secret) fine in
    let r2 : Told = first (reading Public e k.public) r3 in
    first-most STAGE (first (reading System alone k.system) r2) rest
    (frame-most STAGE System alone k.system r2 (omega arith)
    (frame-most STAGE Public e k.public r3 (omega arith)
    (frame-most STAGE Secret e k.secret fine (omega arith) (done_most STAGE []))))

-- the key check, which tells no value
pub key-most : (k : Keys) → UpTo STAGE (key_check k)
unfolding key_check valid_check
key-most k =
    let valid = eqb (fault_of k) (rows_of k) in
    keys-most k (demand valid KEY SECRET (fault_of k)) (demand-most STAGE valid KEY SECRET (fault_of k) (omega arith) (omega arith))

pub key-none : (k : Keys) (values : List ℕ) → key_check k ≡ done values → values ≡ []
unfolding key_check valid_check
key-none k values e =
    let valid = eqb (fault_of k) (rows_of k) in
    demand-none valid KEY SECRET (fault_of k) values (first_done (keys_check k) (demand valid KEY SECRET (fault_of k)) values e).1

rest-most : (k : Keys) (N : ℕ) (choices : List ℕ) (need room : ℕ) → UpTo STAGE (rest_check k N choices need room)
unfolding valid_check
rest-most k N choices need room =
    let n = places_of k in
    let r3 : Told = demand (leb need room) ROOM OUTPUT need in
    let r2 : Told = first (valid_check k) r3 in
    let h : UpTo STAGE (first (choices_check n N choices) r2) =
    first-most STAGE (choices_check n N choices) r2 (most-more PERM STAGE (choices_check n N choices) (omega arith) (choices-most n N choices))
    (test_most STAGE (eqb (fault_of k) (rows_of k)) KEY SECRET (fault_of k) r3 (omega arith) (omega arith)
    (demand-most STAGE (leb need room) ROOM OUTPUT need (omega arith) (omega arith))) in
    rw (rest_in_order k N choices need room) h

pub begin-most : (s : Session) (N : ℕ) (k : Keys) (choices : List ℕ) (room : ℕ) → UpTo STAGE (begin_check s N k choices room)
unfolding begin_check
begin-most s N k choices room =
    let r4 : Told = rest_check k N choices (commitments_size N) room in
    let r3 : Told = first (keys_check k) r4 in
    let r2 : Told = first (demand (within alone.rounds N) SHAPE NONE 0) r3 in
    test_most STAGE (at_rest s.stage) STAGE NONE 0 r2 (omega arith) (omega arith)
    (test_most STAGE (within alone.rounds N) SHAPE NONE 0 r3 (omega arith) (omega arith)
    (keys-most k r4 (rest-most k N choices (commitments_size N) room)))

module _ (s : Session) (k : Keys) (message choices : List ℕ) (room : ℕ) where
  pub answer-most : UpTo STAGE (answer_check s k message choices room)
  unfolding answer_check
  answer-most =
      let n = places_of k in
      let N = s.rounds in
      let r5 : Told = rest_check k N choices (answers_size n N) room in
      let r4 : Told = first (reading Challenges (exactly n N) message) r5 in
      let r3 : Told = first (staged (record_fits s n (rows_of k))) r4 in
      test_most STAGE (eqb s.stage COMMITTED) STAGE NONE 0 (first (keys_check k) r3) (omega arith) (omega arith)
      (keys-most k r3
      (test_most STAGE (record_fits s n (rows_of k)) STAGE NONE 0 r4 (omega arith) (omega arith)
      (frame-most STAGE Challenges (exactly n N) message r5 (omega arith) (rest-most k N choices (answers_size n N) room))))

  pub open_most : UpTo STAGE (open_check s k message choices room)
  open_most =
      let n = places_of k in
      let N = s.rounds in
      let r6 : Told = rest_check k N choices (openings_size n N) room in
      let r5 : Told = first (reading Bits (exactly n N) message) r6 in
      let r4 : Told = first (staged (kept_fit N s.challenges)) r5 in
      let r3 : Told = first (staged (record_fits s n (rows_of k))) r4 in
      let h : UpTo STAGE (first (staged (eqb s.stage ANSWERED)) (first (keys_check k) r3)) =
      test_most STAGE (eqb s.stage ANSWERED) STAGE NONE 0 (first (keys_check k) r3) (omega arith) (omega arith)
      (keys-most k r3
      (test_most STAGE (record_fits s n (rows_of k)) STAGE NONE 0 r4 (omega arith) (omega arith)
      (test_most STAGE (kept_fit N s.challenges) STAGE NONE 0 r5 (omega arith) (omega arith)
      (frame-most STAGE Bits (exactly n N) message r6 (omega arith) (rest-most k N choices (openings_size n N) room))))) in
      rw (open_in_order s k message choices room) h
