-- For each writer: no second outcome fits what it promises, and a refused one changes nothing. And what it tells.
use Rattle.std.specs.Prelude.{Result, Err}
use mathlib.Core.Path.{◌≡◌, sym, ap, ◌∙◌}
use mathlib.Core.List.{List, [], ◌∷◌}
use Prim.Native.Nat.{ℕ}
use native.Mathlib.Omega.{arith}
use lib.Dec.{eqb, leb}
use lib.ListN.{length}
use Rattle.refusals.specs.declared.Refusal.{Refusal}
use Rattle.refusals.specs.Number.{SHAPE, PERM, ROOM}
use Rattle.refusals.specs.Buffer.{NONE, OUTPUT}
use Rattle.refusals.specs.Told.{Told, done, first, demand}
use Rattle.refusals.proofs.Chain.{count_fixes, UpTo, first_done, ends_done, done_most, demand-most, first-most, test_most, most-more}
use Rattle.kinds.specs.declared.Kind.{Kind}
use Rattle.kinds.specs.Kinds.{alone, table, fits, frame_size}
use Rattle.bodies.specs.Bodies.{spare_clear, content}
use Rattle.readers.proofs.Outcomes.{content-most}
use Rattle.writers.specs.Writing.{frame, plain_check, writing, out_after, Writes}

pub one_writing : (k : Kind) (a b : ℕ) (plain out : List ℕ) (r q : Result ℕ Refusal) (x y : List ℕ)
    → Writes k a b plain out r x → Writes k a b plain out q y → (r ≡ q) × (x ≡ y)
one_writing k a b plain out r q x y p s =
    let e : r ≡ q = count_fixes r q (p.says ∙ sym s.says) in
    (e, p.writes ∙ ap (λ (t : Result ℕ Refusal). out_after t (frame k a b plain) out) e ∙ sym s.writes)

pub refused_writes_nothing : (k : Kind) (a b : ℕ) (plain out : List ℕ) (r : Refusal) (after : List ℕ)
    → Writes k a b plain out (Err r) after → after ≡ out
refused_writes_nothing k a b plain out r after p = p.writes

-- ---- ROOM after a check, and then the bytes written: by which numbers it is refused, and what a success tells

module _ (check : Told) (need room : ℕ) where
  abbrev room_told : Told
  room_told = first (demand (leb need room) ROOM OUTPUT need) (done (need ∷ []))

  pub room_most : UpTo ROOM check → UpTo ROOM (first check room_told)
  room_most h =
      first-most ROOM check room_told h (test_most ROOM (leb need room) ROOM OUTPUT need (done (need ∷ [])) (omega arith) (omega arith) (done_most ROOM (need ∷ [])))

  pub room_one : (values : List ℕ) → first check room_told ≡ done values → values ≡ need ∷ []
  room_one values e = ends_done (demand (leb need room) ROOM OUTPUT need) (need ∷ []) values (first_done check room_told values e).1

plain_most : (k : Kind) (a b : ℕ) (plain : List ℕ) → UpTo ROOM (plain_check k a b plain)
unfolding plain_check
plain_most k a b plain =
    let buffer = (table k).buffer in
    let body = content k a b 0 plain in
    let r4 : Told = demand (spare_clear k a plain) SHAPE buffer 0 in
    let r3 : Told = first body r4 in
    let r2 : Told = first (demand (eqb (length plain) ((table k).size a b)) SHAPE buffer 0) r3 in
    test_most ROOM (fits k alone a b) SHAPE NONE 0 r2 (omega arith) (omega arith)
    (test_most ROOM (eqb (length plain) ((table k).size a b)) SHAPE buffer 0 r3 (omega arith) (omega arith)
    (first-most ROOM body r4 (most-more PERM ROOM body (omega arith) (content-most k a b 0 plain))
    (demand-most ROOM (spare_clear k a plain) SHAPE buffer 0 (omega arith) (omega arith))))

module _ (k : Kind) (a b : ℕ) (plain : List ℕ) (room : ℕ) where
  pub writing-most : UpTo ROOM (writing k a b plain room)
  unfolding writing
  writing-most = room_most (plain_check k a b plain) (frame_size k a b) room (plain_most k a b plain)

  pub writing-one : (values : List ℕ) → writing k a b plain room ≡ done values → values ≡ frame_size k a b ∷ []
  unfolding writing
  writing-one values e = room_one (plain_check k a b plain) (frame_size k a b) room values e
