-- Laws of writing: the heading, and the orders of refusals, an answer each, as the code finds them.
use Rattle.std.specs.Prelude.{⊤, Result, Ok, Err}
use mathlib.Core.Path.{◌≡◌, refl, sym, ◌∙◌}
use mathlib.Core.Bool.{true, false}
use mathlib.Core.List.{List, [], ◌∷◌}
use mathlib.Core.Logic.{◌⊎◌, inl, inr}
use Prim.Native.Nat.{ℕ, ◌+◌, ◌-◌, ◌/◌, ◌%◌, ◌≤◌, ◌<◌}
use native.Mathlib.Omega.{arith}
use borrow.Author.Tests.{eqb-true, eq-eqb, ne_eqb, lt-leb, le-leb}
use lib.Dec.{eqb, leb}
use lib.ListN.{length, take}
use lib.Seq.{length-take-le}
use Rattle.refusals.specs.declared.Refusal.{Refusal}
use Rattle.refusals.specs.Number.{SHAPE, ROOM}
use Rattle.refusals.specs.Buffer.{NONE, OUTPUT}
use Rattle.refusals.specs.Told.{Told, done, refused, fine, told, means, first, demand}
use Rattle.refusals.proofs.Chain.{goes_on, stops, Passed, first_done, demand_done}
use Rattle.algebra.specs.Lists.{over, over_at}
use Rattle.algebra.proofs.Lists.{over-behind}
use Rattle.kinds.specs.declared.Kind.{Kind}
use Rattle.kinds.specs.declared.Kind.TheVariants.{System, Public, Secret, Commitments, Challenges, Answers, Bits, Openings}
use Rattle.kinds.specs.Kinds.{alone, table, fits}
use Rattle.bodies.specs.Bodies.{spare_clear, content}
use Rattle.writers.specs.Writing.{heading, frame, plain_check}
use Rattle.frames.proofs.Facts.{test_holds, rest_done}

-- the heading as the code lays it out, the first `start` of an array
abbrev pub laid : ℕ → ℕ → ℕ → ℕ → ℕ → ℕ → List ℕ
laid start count version number a b = take start (count / 256 ∷ count % 256 ∷ version ∷ number ∷ a ∷ b ∷ [])

pub laid-length : (start count version number a b : ℕ) → start ≤ 6 → length (laid start count version number a b) ≡ start
laid-length start count version number a b l = length-take-le start _ l

pub laid-heading : (k : Kind) (start size version number a b : ℕ) → start ≡ (table k).start → version ≡ (table k).version → number ≡ (table k).number
    → laid start (start - 2 + size) version number a b ≡ heading k ((table k).start - 2 + size) a b
laid-heading k start size version number a b p q r = rw (p, q, r)

-- one number or two
pub starts : (k : Kind) → ((table k).start ≡ 5) ⊎ ((table k).start ≡ 6)
starts System = inr refl
starts Public = inl refl
starts Secret = inl refl
starts Commitments = inl refl
starts Challenges = inl refl
starts Answers = inr refl
starts Bits = inl refl
starts Openings = inr refl

start_six : (k : Kind) → (table k).start ≤ 6
start_six k = small (starts k)
  where
    small : ((table k).start ≡ 5) ⊎ ((table k).start ≡ 6) → (table k).start ≤ 6
    small (inl e) = omega arith
    small (inr e) = omega arith

pub heading-length : (k : Kind) (count a b : ℕ) → length (heading k count a b) ≡ (table k).start
heading-length k count a b = laid-length (table k).start count _ _ a b (start_six k)

-- a frame is its heading and then the rest
pub framed : (k : Kind) (a b : ℕ) (rest out : List ℕ) (start : ℕ) → start ≡ (table k).start
    → over_at rest start (over (heading k ((table k).start - 2 + length rest) a b) out) ≡ over (frame k a b rest) out
unfolding frame
framed k a b rest out start p = over-behind (heading k _ a b) rest out start (heading-length k _ a b ∙ sym p)

-- ---- the plain buffer; b' is the kind's buffer

module _ (k : Kind) (a b : ℕ) (plain : List ℕ) where
  pub bad_numbers : fits k alone a b ≡ false → refused SHAPE NONE 0 ≡ plain_check k a b plain
  unfolding plain_check
  bad_numbers f = rw f

  module _ (t : fits k alone a b ≡ true) where
    pub bad-length : (b' : ℕ) → b' ≡ (table k).buffer → (length plain ≡ (table k).size a b → ⊥) → refused SHAPE b' 0 ≡ plain_check k a b plain
    unfolding plain_check
    bad-length b' e f = rw (t, ne_eqb (length plain) ((table k).size a b) f, e)

    module _ (n : length plain ≡ (table k).size a b) (r : Result ⊤ Refusal) (m : means r ≡ content k a b 0 plain) where
      pub bad-content : (x : Refusal) → r ≡ Err x → told x ≡ plain_check k a b plain
      unfolding plain_check
      bad-content x e = rw (t, eq-eqb (length plain) ((table k).size a b) n) (stops _ m e)

      pub bad-spare : (b' : ℕ) → b' ≡ (table k).buffer → r ≡ (Ok tt) → spare_clear k a plain ≡ false → refused SHAPE b' 0 ≡ plain_check k a b plain
      unfolding plain_check
      bad-spare b' p e f = rw (t, eq-eqb (length plain) ((table k).size a b) n) (goes_on m e (rw (f, p)))

      pub good-plain : r ≡ (Ok tt) → spare_clear k a plain ≡ true → fine ≡ plain_check k a b plain
      unfolding plain_check
      good-plain e f = rw (t, eq-eqb (length plain) ((table k).size a b) n) (goes_on m e (rw f))

-- what a plain buffer that is not refused says
pub record Plain (k : Kind) (a b : ℕ) (plain : List ℕ) : Type 0 where
  pub numbers : fits k alone a b ≡ true
  pub size : length plain ≡ (table k).size a b
  pub content : Passed (content k a b 0 plain)
  pub spare : spare_clear k a plain ≡ true

pub plain_told : (k : Kind) (a b : ℕ) (plain v : List ℕ) → plain_check k a b plain ≡ done v → Plain k a b plain
unfolding plain_check
plain_told k a b plain v e =
    let t1 = fits k alone a b in
    let t2 = eqb (length plain) ((table k).size a b) in
    let t4 = spare_clear k a plain in
    let r4 : Told = demand t4 SHAPE (table k).buffer 0 in
    let r3 : Told = first (content k a b 0 plain) r4 in
    let r2 : Told = first (demand t2 SHAPE (table k).buffer 0) r3 in
    let e2 = rest_done t1 SHAPE NONE 0 r2 v e in
    let e3 = rest_done t2 SHAPE (table k).buffer 0 r3 v e2 in
    let p = first_done (content k a b 0 plain) r4 v e3 in
    record {
      numbers = test_holds t1 SHAPE NONE 0 r2 v e;
      size = eqb-true _ _ (test_holds t2 SHAPE (table k).buffer 0 r3 v e2);
      content = p.0;
      spare = demand_done t4 SHAPE (table k).buffer 0 v p.1;
    }

-- ---- ROOM, before `size` bytes are written; `need` is what the code works out

module _ (size need room : ℕ) (e : need ≡ size) where
  pub no_room : room < need → refused ROOM OUTPUT need ≡ first (demand (leb size room) ROOM OUTPUT size) (done (size ∷ []))
  no_room l = let m : room < size = omega arith in rw (lt-leb size room m, e)

  pub room_enough : need ≤ room → done (need ∷ []) ≡ first (demand (leb size room) ROOM OUTPUT size) (done (size ∷ []))
  room_enough l = let m : size ≤ room = omega arith in rw (le-leb size room m, e)
