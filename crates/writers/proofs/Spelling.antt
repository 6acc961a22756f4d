-- One spelling: what a writer wrote is read as its values, a frame that is read is the one that the writer writes of its values, and two frames
-- that are read as the same values are equal, byte for byte. Stated over the kind, so for each of the eight.
use mathlib.Core.Path.{◌≡◌, refl, sym, ap, ap₂, ◌∙◌}
use mathlib.Core.Bool.{true}
use mathlib.Core.List.{List, [], ◌∷◌, ◌++◌}
use mathlib.Core.Logic.{◌⊎◌, inl, inr}
use Prim.Native.Nat.{ℕ, zero, suc, ◌+◌, ◌-◌, ◌*◌, ◌/◌, ◌%◌, ◌≤◌}
use native.Mathlib.Nat.{div-add-mod', mul_comm, suc-mul, zero-mul}
use native.Mathlib.Omega.{arith}
use borrow.Author.Tests.{eq-eqb}
use lib.Dec.{leb}
use lib.ListN.{length, take, drop, length-drop, take-append-drop}
use lib.Seq.{get_or-drop}
use Rattle.refusals.specs.Number.{ROOM}
use Rattle.refusals.specs.Buffer.{OUTPUT}
use Rattle.refusals.specs.Told.{Told, done, fine, first, demand}
use Rattle.refusals.proofs.Chain.{Passed, first_done}
use Rattle.kinds.specs.declared.Kind.{Kind}
use Rattle.kinds.specs.declared.Kind.TheVariants.{System, Public, Secret, Commitments, Challenges, Answers, Bits, Openings}
use Rattle.kinds.specs.declared.Expected.{Expected}
use Rattle.kinds.specs.Kinds.{alone, table, fits, frame_size}
use Rattle.packed_bits.specs.PackedBits.{Bytes}
use Rattle.writers.specs.Values.{cut, values_of}
use Rattle.bodies.specs.Bodies.{spare_clear, values, permutations, content}
use Rattle.frames.specs.Reading.{first_of, second_of, rest_of, reading}
use Rattle.writers.specs.Writing.{frame, plain_check, writing}
use Rattle.frames.proofs.Facts.{Headed, FrameFits, second-within, rest-length, fits_read}
use Rattle.readers.proofs.Passing.{residues-pass, permutations-pass}
use Rattle.readers.proofs.Chosen.{values-told, permutations-told}
use Rattle.writers.proofs.Writing.{starts, Plain, plain_told}
use Rattle.packed_bits.proofs.PackedBits.{same_bits}

-- ---- one number or two

-- where there is one number the second is 0
no_second : (k : Kind) (e : Expected) (a b : ℕ) → (table k).start ≡ 5 → fits k e a b ≡ true → b ≡ 0
no_second System e a b s t = absurd (omega arith)
no_second Public e a b s t = let w = second-within Public e a b t in omega arith
no_second Secret e a b s t = let w = second-within Secret e a b t in omega arith
no_second Commitments e a b s t = let w = second-within Commitments e a b t in omega arith
no_second Challenges e a b s t = let w = second-within Challenges e a b t in omega arith
no_second Answers e a b s t = absurd (omega arith)
no_second Bits e a b s t = let w = second-within Bits e a b t in omega arith
no_second Openings e a b s t = absurd (omega arith)

frame-one : (k : Kind) (a b : ℕ) (rest : List ℕ) → (table k).start ≡ 5
    → frame k a b rest ≡ (3 + length rest) / 256 ∷ (3 + length rest) % 256 ∷ (table k).version ∷ (table k).number ∷ a ∷ rest
unfolding frame
frame-one k a b rest e = rw e

frame-two : (k : Kind) (a b : ℕ) (rest : List ℕ) → (table k).start ≡ 6
    → frame k a b rest ≡ (4 + length rest) / 256 ∷ (4 + length rest) % 256 ∷ (table k).version ∷ (table k).number ∷ a ∷ b ∷ rest
unfolding frame
frame-two k a b rest e = rw e

-- ---- what a frame spells

pub record Spells (k : Kind) (a b : ℕ) (rest s : List ℕ) : Type 0 where
  pub head : Headed k s
  pub one : first_of s ≡ a
  pub two : second_of k s ≡ b
  pub tail : rest_of k s ≡ rest
  pub size : length s ≡ (table k).start + length rest

pub frame-spells : (k : Kind) (a b : ℕ) (rest : List ℕ) → fits k alone a b ≡ true → Spells k a b rest (frame k a b rest)
frame-spells k a b rest t = go (starts k)
  where
    n : ℕ
    n = length rest

    go : ((table k).start ≡ 5) ⊎ ((table k).start ≡ 6) → Spells k a b rest (frame k a b rest)
    go (inl e) =
        let d = div-add-mod' (3 + n) 256 in
        let z = no_second k alone a b e t in
        rw (frame-one k a b rest e)
        (record {
          head = record { four = omega arith; whole = omega arith; version = refl; number = refl };
          one = refl;
          two = rw e (sym z);
          tail = rw e refl;
          size = rw e (omega arith);
        })
    go (inr e) =
        let d = div-add-mod' (4 + n) 256 in
        rw (frame-two k a b rest e)
        (record {
          head = record { four = omega arith; whole = omega arith; version = refl; number = refl };
          one = refl;
          two = rw e refl;
          tail = rw e refl;
          size = rw e (omega arith);
        })

-- a frame that is read has no other spelling
pub one_spelling : (k : Kind) (e : Expected) (s : List ℕ) → Bytes s → FrameFits k e s → s ≡ frame k (first_of s) (second_of k s) (rest_of k s)
one_spelling k e s w f = go (starts k)
  where
    spelled-one : (table k).start ≡ 5 → (t : List ℕ) → Bytes t → Headed k t → 5 ≤ length t → t ≡ frame k (first_of t) (second_of k t) (rest_of k t)
    spelled-one q [] w h l = absurd (omega arith)
    spelled-one q (x0 ∷ []) w h l = absurd (omega arith)
    spelled-one q (x0 ∷ x1 ∷ []) w h l = absurd (omega arith)
    spelled-one q (x0 ∷ x1 ∷ x2 ∷ []) w h l = absurd (omega arith)
    spelled-one q (x0 ∷ x1 ∷ x2 ∷ x3 ∷ []) w h l = absurd (omega arith)
    spelled-one q (x0 ∷ x1 ∷ x2 ∷ x3 ∷ x4 ∷ r) w h l =
        let n = h.whole in
        let b = w 1 in
        let q0 : (3 + length r) / 256 ≡ x0 = omega arith in
        let q1 : (3 + length r) % 256 ≡ x1 = omega arith in
        let d : rest_of k (x0 ∷ x1 ∷ x2 ∷ x3 ∷ x4 ∷ r) ≡ r = ap (λ (z : ℕ). drop z (x0 ∷ x1 ∷ x2 ∷ x3 ∷ x4 ∷ r)) q in
        sym (ap (frame k x4 _) d ∙ frame-one k x4 _ r q ∙ rw (q0, q1, h.version, h.number))

    spelled-two : (table k).start ≡ 6 → (t : List ℕ) → Bytes t → Headed k t → 6 ≤ length t → t ≡ frame k (first_of t) (second_of k t) (rest_of k t)
    spelled-two q [] w h l = absurd (omega arith)
    spelled-two q (x0 ∷ []) w h l = absurd (omega arith)
    spelled-two q (x0 ∷ x1 ∷ []) w h l = absurd (omega arith)
    spelled-two q (x0 ∷ x1 ∷ x2 ∷ []) w h l = absurd (omega arith)
    spelled-two q (x0 ∷ x1 ∷ x2 ∷ x3 ∷ []) w h l = absurd (omega arith)
    spelled-two q (x0 ∷ x1 ∷ x2 ∷ x3 ∷ x4 ∷ []) w h l = absurd (omega arith)
    spelled-two q (x0 ∷ x1 ∷ x2 ∷ x3 ∷ x4 ∷ x5 ∷ r) w h l =
        let n = h.whole in
        let b = w 1 in
        let t = x0 ∷ x1 ∷ x2 ∷ x3 ∷ x4 ∷ x5 ∷ r in
        let q0 : (4 + length r) / 256 ≡ x0 = omega arith in
        let q1 : (4 + length r) % 256 ≡ x1 = omega arith in
        let d : rest_of k (x0 ∷ x1 ∷ x2 ∷ x3 ∷ x4 ∷ x5 ∷ r) ≡ r = ap (λ (z : ℕ). drop z (x0 ∷ x1 ∷ x2 ∷ x3 ∷ x4 ∷ x5 ∷ r)) q in
        let c : second_of k (x0 ∷ x1 ∷ x2 ∷ x3 ∷ x4 ∷ x5 ∷ r) ≡ x5 = rw q refl in
        sym (ap₂ (frame k x4) c d ∙ frame-two k x4 x5 r q ∙ rw (q0, q1, h.version, h.number))

    go : ((table k).start ≡ 5) ⊎ ((table k).start ≡ 6) → s ≡ frame k (first_of s) (second_of k s) (rest_of k s)
    go (inl q) = let l = f.form.there in spelled-one q s w f.head (omega arith)
    go (inr q) = let l = f.form.there in spelled-two q s w f.head (omega arith)

-- ---- the place of a body does not matter to what it holds

values_moved : (b at to : ℕ) (l v : List ℕ) → values b at l ≡ done v → values b to l ≡ fine
values_moved b at to l v e = residues-pass b to l (values-told b at l v e)

permutations_moved : (b n at to count : ℕ) (l v : List ℕ) → permutations b n at count l ≡ done v → permutations b n to count l ≡ fine
permutations_moved b n at to count l v e = permutations-pass b n to count l (permutations-told b n at count l v e)

content_moved : (k : Kind) (a b at to : ℕ) (rest : List ℕ) → Passed (content k a b at rest) → content k a b to rest ≡ fine
content_moved System a b at to rest p = values_moved _ at to rest p.0 p.1
content_moved Public a b at to rest p = values_moved _ at to rest p.0 p.1
content_moved Secret a b at to rest p = permutations_moved _ a at to 1 rest p.0 p.1
content_moved Commitments a b at to rest p = refl
content_moved Challenges a b at to rest p = values_moved _ at to rest p.0 p.1
content_moved Answers a b at to rest p = values_moved _ at to rest p.0 p.1
content_moved Bits a b at to rest p = refl
content_moved Openings a b at to rest p = permutations_moved _ a at to b rest p.0 p.1

-- ---- a frame that a writer wrote is read, and reads as its values

pub written_read : (k : Kind) (a b : ℕ) (plain : List ℕ) → Plain k a b plain → reading k alone (frame k a b plain) ≡ done (a ∷ b ∷ (table k).start ∷ [])
written_read k a b plain p =
    let s = frame k a b plain in
    let q = frame-spells k a b plain p.numbers in
    let e = q.size in
    let z = p.size in
    let w : length s ≡ (table k).start + (table k).size a b = omega arith in
    fits_read k alone s
    (record {
      head = q.head;
      form = record {
        there = omega arith;
        numbers = rw (q.one, q.two) p.numbers;
        whole = rw (q.one, q.two) w;
        spare = rw (q.one, q.tail) p.spare;
      };
      content = ([], rw (q.one, q.two, q.tail) (content_moved k a b 0 (table k).start plain p.content));
    })
    ∙ rw (q.one, q.two)

-- the same of the writer's answer
pub wrote_read : (k : Kind) (a b : ℕ) (plain : List ℕ) (room : ℕ) (v : List ℕ) → writing k a b plain room ≡ done v
    → (reading k alone (frame k a b plain) ≡ done (a ∷ b ∷ (table k).start ∷ [])) × (rest_of k (frame k a b plain) ≡ plain)
unfolding writing
wrote_read k a b plain room v e =
    let r : Told = first (demand (leb (frame_size k a b) room) ROOM OUTPUT (frame_size k a b)) (done (frame_size k a b ∷ [])) in
    let p = (first_done (plain_check k a b plain) r v e).0 in
    let h = plain_told k a b plain p.0 p.1 in
    (written_read k a b plain h, (frame-spells k a b plain h.numbers).tail)

-- ---- a frame that is read is the one that the writer writes of its values

pub read_written : (k : Kind) (s : List ℕ) → Bytes s → FrameFits k alone s
    → (s ≡ frame k (first_of s) (second_of k s) (rest_of k s)) × (plain_check k (first_of s) (second_of k s) (rest_of k s) ≡ fine)
unfolding plain_check
read_written k s w f = (
  one_spelling k alone s w f,
  rw (
    f.form.numbers,
    eq-eqb (length (rest_of k s)) ((table k).size (first_of s) (second_of k s)) (rest-length k alone s f.form),
    content_moved k (first_of s) (second_of k s) (table k).start 0 (rest_of k s) f.content,
    f.form.spare,
  ),
)

-- ---- two frames that are read as the same values are equal

cut-same : (count size : ℕ) (x y : List ℕ) → length x ≡ count * size → length y ≡ count * size → cut count size x ≡ cut count size y → x ≡ y
unfolding cut
cut-same zero size [] [] lx ly e = refl
cut-same zero size [] (y ∷ ys) lx ly e = absurd (omega (arith, zero-mul size))
cut-same zero size (x ∷ xs) y lx ly e = absurd (omega (arith, zero-mul size))
cut-same (suc count) size x y lx ly e =
    let h : take size x ≡ take size y = cc in
    let t : cut count size (drop size x) ≡ cut count size (drop size y) = cc in
    let m = suc-mul count size in
    sym (take-append-drop size x)
    ∙ ap₂ (λ (a b : List ℕ). a ++ b) h (cut-same count size (drop size x) (drop size y) (simp length-drop (omega arith)) (simp length-drop (omega arith)) t)
    ∙ take-append-drop size y

-- the values tell the rest
values_tell : (k : Kind) (a b : ℕ) (x y : List ℕ) → Bytes x → Bytes y → length x ≡ (table k).size a b → length y ≡ (table k).size a b
    → spare_clear k a x ≡ true → spare_clear k a y ≡ true → values_of k a b x ≡ values_of k a b y → x ≡ y
values_tell System n m x y bx by lx ly sx sy e = cut-same m (n - m) x y lx ly e
values_tell Public n z x y bx by lx ly sx sy e = cut-same 1 n x y (omega arith) (omega arith) e
values_tell Secret n z x y bx by lx ly sx sy e = cut-same 1 n x y (omega arith) (omega arith) e
values_tell Commitments N z x y bx by lx ly sx sy e = cut-same (N + N) 32 x y (omega arith) (omega arith) e
values_tell Challenges N z x y bx by lx ly sx sy e = cut-same 1 N x y (omega arith) (omega arith) e
values_tell Answers n N x y bx by lx ly sx sy e = cut-same N n x y (lx ∙ mul_comm n N) (ly ∙ mul_comm n N) e
values_tell Bits N z x y bx by lx ly sx sy e = same_bits N x y bx by (lx ∙ sym ly) sx sy (cc)
values_tell Openings n N x y bx by lx ly sx sy e = cut-same N n x y (lx ∙ mul_comm n N) (ly ∙ mul_comm n N) e

-- the values of a frame
abbrev pub values_in : Kind → List ℕ → List (List ℕ)
values_in k s = values_of k (first_of s) (second_of k s) (rest_of k s)

pub same-values : (k : Kind) (e d : Expected) (s t : List ℕ) → Bytes s → Bytes t → FrameFits k e s → FrameFits k d t
    → first_of s ≡ first_of t → second_of k s ≡ second_of k t → values_in k s ≡ values_in k t → s ≡ t
same-values k e d s t ws wt fs ft p q v =
    let x = rest_of k s in
    let y = rest_of k t in
    let ly : length y ≡ (table k).size (first_of s) (second_of k s) = rest-length k d t ft.form ∙ sym (ap₂ (table k).size p q) in
    let sy : spare_clear k (first_of s) y ≡ true = ap (λ (n : ℕ). spare_clear k n y) p ∙ ft.form.spare in
    let vy : values_of k (first_of s) (second_of k s) x ≡ values_of k (first_of s) (second_of k s) y = v ∙ sym (ap₂ (λ (a b : ℕ). values_of k a b y) p q) in
    let r = values_tell k (first_of s) (second_of k s) x y (rest-bytes s ws) (rest-bytes t wt) (rest-length k e s fs.form) ly fs.form.spare sy vy in
    one_spelling k e s ws fs ∙ ap₂ (λ (a b : ℕ). frame k a b x) p q ∙ ap (frame k (first_of t) (second_of k t)) r ∙ sym (one_spelling k d t wt ft)
  where
    rest-bytes : (u : List ℕ) → Bytes u → Bytes (rest_of k u)
    rest-bytes u w j = rw (get_or-drop (table k).start u j 0) (w ((table k).start + j))
