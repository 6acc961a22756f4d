-- What a check that refuses nothing says of what is lent, as plain facts.
use mathlib.Core.Path.{◌≡◌, refl, sym, ◌∙◌, subst}
use mathlib.Core.Bool.{true}
use mathlib.Core.List.{List}
use Prim.Native.Nat.{ℕ, ◌≤◌, ◌<◌}
use native.Mathlib.Omega.{arith}
use borrow.Author.Tests.{eqb-true, leb-true}
use lib.Dec.{eqb, leb}
use lib.ListN.{length, get_or}
use Rattle.refusals.specs.Number.{KEY, ROOM, SHAPE, STAGE}
use Rattle.refusals.specs.Buffer.{SECRET, OUTPUT, NONE}
use Rattle.refusals.specs.Told.{Told, done, fine, first, demand}
use Rattle.refusals.proofs.Chain.{first_done, demand_done}
use Rattle.algebra.specs.Residues.{modulus}
use Rattle.algebra.specs.Permutations.{IsPerm}
use Rattle.matrices.specs.Matrices.{key_fault, SystemFits}
use Rattle.algebra.proofs.Lists.{stretch-fits}
use Rattle.matrices.proofs.Matrices.{valid→}
use Rattle.kinds.specs.declared.Kind.TheVariants.{System, Public, Secret, Challenges, Bits}
use Rattle.kinds.specs.Kinds.{within, alone, of_places, exactly}
use Rattle.frames.specs.Reading.{first_of, reading}
use Rattle.readers.specs.Choosing.{choice_size, choices_check}
use Rattle.frames.proofs.Facts.{test_holds, rest_done, within-told, rest-length, FrameFits, reading-told, first-asked}
use Rattle.frames.proofs.Orders.{from, rest_part}
use Rattle.readers.proofs.Passing.{system-fits}
use Rattle.readers.proofs.Chosen.{values-told, permutation-told, choices-told}
use Rattle.scheme.specs.Round.{System as Matrix, ValidKey}
use Rattle.rounds.proofs.Cuts.{own, vector-length}
use Rattle.card_rules.specs.declared.session.Session.{Session}
use Rattle.card_rules.specs.Stages.{COMMITTED, ANSWERED}
use Rattle.card_rules.specs.Keys.{Keys, places_of, rows_of, public_of, secret_of, fault_of, keys_check, valid_check}
use Rattle.card_rules.specs.Lent.{KeysFit, matrix_of, LentFits}
use Rattle.card_rules.specs.Asking.{staged, at_rest, record_fits, kept_fit, commitments_size, answers_size, openings_size, rest_check, begin_check, answer_check, open_check}
use Rattle.card_rules.proofs.Orders.{rest_in_order, open_in_order}
use Rattle.card_rules.proofs.Records.{record_told, kept-told}

-- ---- the frames

-- each is read, and n is the system's
pub record KeysRead (k : Keys) : Type 0 where
  pub system : FrameFits System alone k.system
  pub public : FrameFits Public (of_places (places_of k)) k.public
  pub secret : FrameFits Secret (of_places (places_of k)) k.secret

keys_fit : (k : Keys) → KeysRead k → KeysFit k
keys_fit k h =
    let n = places_of k in
    let s = h.system in
    let p = h.public in
    let q = h.secret in
    let a = first-asked Secret (of_places n) k.secret q.form n refl in
    let l : length (secret_of k) ≡ n = rest-length Secret (of_places n) k.secret q.form ∙ a in
    record {
      system_there = s.form.there;
      public_there = p.form.there;
      secret_there = q.form.there;
      system = system-fits k.system s;
      vector = rest-length Public (of_places n) k.public p.form ∙ first-asked Public (of_places n) k.public p.form n refl;
      residues = values-told _ _ (public_of k) p.content.0 p.content.1;
      perm = subst (λ (z : ℕ). IsPerm z (secret_of k)) a (permutation-told _ (first_of k.secret) _ (secret_of k) q.content.0 (omega arith) q.content.1);
    }

pub keys-read : (k : Keys) (v : List ℕ) → keys_check k ≡ done v → KeysRead k
unfolding keys_check
keys-read k v e =
    let n = places_of k in
    let r3 : Told = first (reading Secret (of_places n) k.secret) fine in
    let r2 : Told = first (reading Public (of_places n) k.public) r3 in
    let a = first_done (reading System alone k.system) r2 v e in
    let b = first_done (reading Public (of_places n) k.public) r3 v a.1 in
    let c = first_done (reading Secret (of_places n) k.secret) fine v b.1 in
    record {
      system = (reading-told System alone k.system a.0.0 a.0.1).0;
      public = (reading-told Public (of_places n) k.public b.0.0 b.0.1).0;
      secret = (reading-told Secret (of_places n) k.secret c.0.0 c.0.1).0;
    }

pub keys-told : (k : Keys) (v : List ℕ) → keys_check k ≡ done v → KeysFit k
keys-told k v e = keys_fit k (keys-read k v e)

-- ---- the key

pub valid-told : (k : Keys) (v : List ℕ) → KeysFit k → valid_check k ≡ done v → ValidKey (matrix_of k) (public_of k) (secret_of k)
unfolding valid_check
valid-told k v f e =
    record {
      perm = f.perm;
      zero = valid→ modulus _ _ _ _ _ (eqb-true _ _ (demand_done (eqb (fault_of k) (rows_of k)) KEY SECRET (fault_of k) v e));
    }

-- ---- the values lent, as the code cuts them

module _ (k : Keys) (n m : ℕ) (p : n ≡ places_of k) (q : m ≡ rows_of k) where
  pub parts_fit : KeysFit k → SystemFits (from 6 k.system) n m
      × IsPerm (length (from 5 k.secret)) (from 5 k.secret)
      × (length (from 5 k.secret) ≡ n)
      × (length (from 5 k.public) ≡ n)
  parts_fit f =
      rw (rest_part System k.system 6 refl, rest_part Public k.public 5 refl, rest_part Secret k.secret 5 refl, p, q)
      (f.system, own (places_of k) (secret_of k) f.perm, f.perm.len, f.vector)

pub parts_fault : (k : Keys) (s : Matrix) (v π : List ℕ) → s ≡ matrix_of k → v ≡ public_of k → π ≡ secret_of k → key_fault modulus s.entries s.n s.m v π ≡ fault_of k
parts_fault k s v π e p q = rw (e, p, q)

-- ---- the choices, KEY and ROOM

pub rest-told : (k : Keys) (N : ℕ) (choices : List ℕ) (need room : ℕ) (v : List ℕ) → KeysFit k → 1 ≤ N → N ≤ 64 → rest_check k N choices need room ≡ done v
    → LentFits k N choices × (need ≤ room)
rest-told k N choices need room v f some most e =
    let n = places_of k in
    let r3 : Told = demand (leb need room) ROOM OUTPUT need in
    let r2 : Told = first (valid_check k) r3 in
    let a = first_done (choices_check n N choices) r2 v (sym (rest_in_order k N choices need room) ∙ e) in
    let b = first_done (valid_check k) r3 v a.1 in
    let c = choices-told n N choices a.0.0 a.0.1 in (
      record {
        keys = f;
        some = some;
        most = most;
        valid = valid-told k b.0.0 f b.0.1;
        well = record {
          size = c.0;
          each = λ j l. record {
            size = vector-length n choices j (rw c.0 (stretch-fits (choice_size n) j N l));
            residues = (c.1 j l).residues;
            perm = (c.1 j l).perm;
          };
        };
      },
      leb-true _ _ (demand_done (leb need room) ROOM OUTPUT need v b.1),
    )

-- ---- begin, answer and open

pub record BeginFits (s : Session) (N : ℕ) (k : Keys) (choices : List ℕ) (room : ℕ) : Type 0 where
  pub stage : at_rest s.stage ≡ true
  pub read : KeysRead k
  pub lent : LentFits k N choices
  pub enough : commitments_size N ≤ room

pub begin-told : (s : Session) (N : ℕ) (k : Keys) (choices : List ℕ) (room : ℕ) (v : List ℕ) → begin_check s N k choices room ≡ done v → BeginFits s N k choices room
unfolding begin_check
begin-told s N k choices room v e =
    let r4 : Told = rest_check k N choices (commitments_size N) room in
    let r3 : Told = first (keys_check k) r4 in
    let r2 : Told = first (demand (within alone.rounds N) SHAPE NONE 0) r3 in
    let e2 = rest_done (at_rest s.stage) STAGE NONE 0 r2 v e in
    let w = within-told alone.rounds N (test_holds (within alone.rounds N) SHAPE NONE 0 r3 v e2) in
    let f = first_done (keys_check k) r4 v (rest_done (within alone.rounds N) SHAPE NONE 0 r3 v e2) in
    let t = rest-told k N choices (commitments_size N) room v (keys-told k f.0.0 f.0.1) w.0 w.1 f.1 in
    record { stage = test_holds (at_rest s.stage) STAGE NONE 0 r2 v e; read = keys-read k f.0.0 f.0.1; lent = t.0; enough = t.1 }

pub record AnswerFits (s : Session) (k : Keys) (message choices : List ℕ) (room : ℕ) : Type 0 where
  pub stage : s.stage ≡ COMMITTED
  pub places : s.n ≡ places_of k
  pub rows : s.m ≡ rows_of k
  pub sent : FrameFits Challenges (exactly (places_of k) s.rounds) message
  pub lent : LentFits k s.rounds choices
  pub enough : answers_size (places_of k) s.rounds ≤ room

pub answer-told : (s : Session) (k : Keys) (message choices : List ℕ) (room : ℕ) (v : List ℕ) → answer_check s k message choices room ≡ done v
    → AnswerFits s k message choices room
unfolding answer_check
answer-told s k message choices room v e =
    let n = places_of k in
    let N = s.rounds in
    let t1 = eqb s.stage COMMITTED in
    let t3 = record_fits s n (rows_of k) in
    let r5 : Told = rest_check k N choices (answers_size n N) room in
    let r4 : Told = first (reading Challenges (exactly n N) message) r5 in
    let r3 : Told = first (staged t3) r4 in
    let r2 : Told = first (keys_check k) r3 in
    let f = first_done (keys_check k) r3 v (rest_done t1 STAGE NONE 0 r2 v e) in
    let h = record_told s n (rows_of k) (test_holds t3 STAGE NONE 0 r4 v f.1) in
    let m = first_done (reading Challenges (exactly n N) message) r5 v (rest_done t3 STAGE NONE 0 r4 v f.1) in
    let t = rest-told k N choices (answers_size n N) room v (keys-told k f.0.0 f.0.1) h.2 h.3 m.1 in
    record {
      stage = eqb-true _ _ (test_holds t1 STAGE NONE 0 r2 v e);
      places = h.0;
      rows = h.1;
      sent = (reading-told Challenges (exactly n N) message m.0.0 m.0.1).0;
      lent = t.0;
      enough = t.1;
    }

pub record OpenFits (s : Session) (k : Keys) (message choices : List ℕ) (room : ℕ) : Type 0 where
  pub stage : s.stage ≡ ANSWERED
  pub places : s.n ≡ places_of k
  pub rows : s.m ≡ rows_of k
  pub kept : (j : ℕ) → j < s.rounds → get_or s.challenges j 0 < modulus
  pub sent : FrameFits Bits (exactly (places_of k) s.rounds) message
  pub lent : LentFits k s.rounds choices
  pub enough : openings_size (places_of k) s.rounds ≤ room

pub open_told_lem : (s : Session) (k : Keys) (message choices : List ℕ) (room : ℕ) (v : List ℕ) → open_check s k message choices room ≡ done v
    → OpenFits s k message choices room
open_told_lem s k message choices room v e =
    let n = places_of k in
    let N = s.rounds in
    let t1 = eqb s.stage ANSWERED in
    let t3 = record_fits s n (rows_of k) in
    let t4 = kept_fit N s.challenges in
    let r6 : Told = rest_check k N choices (openings_size n N) room in
    let r5 : Told = first (reading Bits (exactly n N) message) r6 in
    let r4 : Told = first (staged t4) r5 in
    let r3 : Told = first (staged t3) r4 in
    let r2 : Told = first (keys_check k) r3 in
    let q : first (staged t1) r2 ≡ done v = sym (open_in_order s k message choices room) ∙ e in
    let f = first_done (keys_check k) r3 v (rest_done t1 STAGE NONE 0 r2 v q) in
    let h = record_told s n (rows_of k) (test_holds t3 STAGE NONE 0 r4 v f.1) in
    let e4 = rest_done t3 STAGE NONE 0 r4 v f.1 in
    let m = first_done (reading Bits (exactly n N) message) r6 v (rest_done t4 STAGE NONE 0 r5 v e4) in
    let t = rest-told k N choices (openings_size n N) room v (keys-told k f.0.0 f.0.1) h.2 h.3 m.1 in
    record {
      stage = eqb-true _ _ (test_holds t1 STAGE NONE 0 r2 v q);
      places = h.0;
      rows = h.1;
      kept = kept-told N s.challenges (test_holds t4 STAGE NONE 0 r5 v e4);
      sent = (reading-told Bits (exactly n N) message m.0.0 m.0.1).0;
      lent = t.0;
      enough = t.1;
    }
