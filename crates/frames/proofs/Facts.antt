-- What a check that refuses nothing says, as plain facts.
use Rattle.frames.specs.declared.read.Frame.{Frame}
use Rattle.refusals.specs.declared.Refusal.{Refusal}
use Rattle.std.specs.Prelude.{Result, Ok}
use mathlib.Core.Path.{◌≡◌, refl, sym, ap, ◌∙◌}
use mathlib.Core.Bool.{Bool, true}
use mathlib.Core.List.{List, [], ◌∷◌}
use Prim.Native.Nat.{ℕ, ◌+◌, ◌-◌, ◌*◌, ◌≤◌}
use native.Mathlib.Nat.{le_trans, mul-le-mul_left, mul-le-mul_right}
use native.Mathlib.Omega.{arith}
use borrow.Author.Tests.{leb-true, eqb-true}
use lib.Dec.{leb, eqb}
use lib.ListN.{length, get_or, length-drop}
use Rattle.refusals.specs.Number.{SHORT, LONG, VERSION, KIND, SHAPE}
use Rattle.refusals.specs.Told.{Told, done, first, demand}
use Rattle.refusals.proofs.Chain.{Passed, first_done, demand_done}
use Rattle.algebra.specs.Permutations.{longest}
use Rattle.algebra.proofs.Lists.{&&-left, &&-right}
use Rattle.kinds.specs.declared.Kind.{Kind}
use Rattle.kinds.specs.declared.Kind.TheVariants.{System, Public, Secret, Commitments, Challenges, Answers, Bits, Openings}
use Rattle.kinds.specs.declared.Limits.{Limits}
use Rattle.kinds.specs.declared.Expected.{Expected}
use Rattle.kinds.specs.Kinds.{limits, within, alone, Modest, table, fits}
use Rattle.bodies.specs.Bodies.{spare_clear, content}
use Rattle.frames.specs.Reading.{count_of, header, first_of, second_of, rest_of, shape, reading, read_means, Reads}
use Rattle.frames.proofs.Orders.{headed, spare_decides}

-- ---- the header

pub record Headed (k : Kind) (s : List ℕ) : Type 0 where
  pub four : 4 ≤ length s
  pub whole : length s ≡ count_of s + 2
  pub version : get_or s 2 0 ≡ (table k).version
  pub number : get_or s 3 0 ≡ (table k).number

-- a test in front of a chain that refuses nothing
module _ (test : Bool) (x y z : ℕ) (rest : Told) (v : List ℕ) (e : first (demand test x y z) rest ≡ done v) where
  pub test_holds : test ≡ true
  test_holds = let p = (first_done (demand test x y z) rest v e).0 in demand_done test x y z p.0 p.1

  pub rest_done : rest ≡ done v
  rest_done = (first_done (demand test x y z) rest v e).1

pub header-told : (k : Kind) (s v : List ℕ) → header k s ≡ done v → Headed k s
unfolding header
header-told k s v e =
    let b = (table k).buffer in
    let t1 = leb 4 (length s) in
    let t2 = leb (count_of s + 2) (length s) in
    let t3 = leb (length s) (count_of s + 2) in
    let t4 = eqb (get_or s 2 0) (table k).version in
    let t5 = eqb (get_or s 3 0) (table k).number in
    let r5 : Told = demand t5 KIND b 3 in
    let r4 : Told = first (demand t4 VERSION b 2) r5 in
    let r3 : Told = first (demand t3 LONG b 0) r4 in
    let r2 : Told = first (demand t2 SHORT b 0) r3 in
    let e2 = rest_done t1 SHORT b 0 r2 v e in
    let e3 = rest_done t2 SHORT b 0 r3 v e2 in
    let e4 = rest_done t3 LONG b 0 r4 v e3 in
    let l : count_of s + 2 ≤ length s = leb-true _ _ (test_holds t2 SHORT b 0 r3 v e2) in
    let g : length s ≤ count_of s + 2 = leb-true _ _ (test_holds t3 LONG b 0 r4 v e3) in
    record {
      four = leb-true 4 (length s) (test_holds t1 SHORT b 0 r2 v e);
      whole = omega arith;
      version = eqb-true _ _ (test_holds t4 VERSION b 2 r5 v e4);
      number = eqb-true _ _ (demand_done t5 KIND b 3 v (rest_done t4 VERSION b 2 r5 v e4));
    }

-- ---- the numbers

pub within-told : (l : Limits) (x : ℕ) → within l x ≡ true → (l.least ≤ x) × (x ≤ l.greatest)
within-told l x e =
    (leb-true _ _ (&&-left (leb l.least x) (leb x l.greatest) e), leb-true _ _ (&&-right (leb l.least x) (leb x l.greatest) e))

module _ (k : Kind) (e : Expected) (a b : ℕ) (t : fits k e a b ≡ true) where
  pub first-within : (((table k).first e).least ≤ a) × (a ≤ ((table k).first e).greatest)
  first-within = within-told ((table k).first e) a (&&-left _ (within ((table k).second e a) b) t)

  pub second-within : (((table k).second e a).least ≤ b) × (b ≤ ((table k).second e a).greatest)
  second-within = within-told ((table k).second e a) b (&&-right (within ((table k).first e) a) _ t)

modest_first : (k : Kind) (e : Expected) → Modest e → ((table k).first e).greatest ≤ longest
modest_first System e m = m.places
modest_first Public e m = m.places
modest_first Secret e m = m.places
modest_first Commitments e m = m.rounds
modest_first Challenges e m = m.rounds
modest_first Answers e m = m.places
modest_first Bits e m = m.rounds
modest_first Openings e m = m.places

pub first_modest : (k : Kind) (e : Expected) (a b : ℕ) → Modest e → fits k e a b ≡ true → a ≤ longest
first_modest k e a b m t = let p = modest_first k e m in let q = (first-within k e a b t).1 in omega arith

-- ---- SHAPE

pub record Shaped (k : Kind) (e : Expected) (s : List ℕ) : Type 0 where
  pub there : (table k).start ≤ length s
  pub numbers : fits k e (first_of s) (second_of k s) ≡ true
  pub whole : length s ≡ (table k).start + (table k).size (first_of s) (second_of k s)
  pub spare : spare_clear k (first_of s) (rest_of k s) ≡ true

pub shape-told : (k : Kind) (e : Expected) (s : List ℕ) → shape k e s ≡ true → Shaped k e s
unfolding shape
shape-told k e s t =
    let t2 = &&-right (leb (table k).start (length s)) _ t in
    let t3 = &&-right (fits k e (first_of s) (second_of k s)) _ t2 in
    record {
      there = leb-true _ _ (&&-left (leb (table k).start (length s)) _ t);
      numbers = &&-left (fits k e (first_of s) (second_of k s)) _ t2;
      whole = eqb-true _ _ (&&-left (eqb (length s) ((table k).start + (table k).size (first_of s) (second_of k s))) _ t3);
      spare = &&-right (eqb (length s) ((table k).start + (table k).size (first_of s) (second_of k s))) _ t3;
    }

pub rest-length : (k : Kind) (e : Expected) (s : List ℕ) → Shaped k e s → length (rest_of k s) ≡ (table k).size (first_of s) (second_of k s)
rest-length k e s h = let w = h.whole in omega (arith, length-drop (table k).start s)

-- a rest starts after the numbers
pub start_five : (k : Kind) → 5 ≤ (table k).start
start_five System = omega arith
start_five Public = omega arith
start_five Secret = omega arith
start_five Commitments = omega arith
start_five Challenges = omega arith
start_five Answers = omega arith
start_five Bits = omega arith
start_five Openings = omega arith

-- ---- numbers alone

pub modest_alone : Modest alone
modest_alone = record { places = omega arith; rounds = omega arith }

second-small : (k : Kind) (a b : ℕ) → fits k alone a b ≡ true → b ≤ longest
second-small System a b t = let p = first-within System alone a b t in let q = second-within System alone a b t in omega arith
second-small Public a b t = let q = second-within Public alone a b t in omega arith
second-small Secret a b t = let q = second-within Secret alone a b t in omega arith
second-small Commitments a b t = let q = second-within Commitments alone a b t in omega arith
second-small Challenges a b t = let q = second-within Challenges alone a b t in omega arith
second-small Answers a b t = (second-within Answers alone a b t).1
second-small Bits a b t = let q = second-within Bits alone a b t in omega arith
second-small Openings a b t = (second-within Openings alone a b t).1

pub numbers-small : (k : Kind) (a b : ℕ) → fits k alone a b ≡ true → (a ≤ longest) × (b ≤ longest)
numbers-small k a b t = (first_modest k alone a b modest_alone t, second-small k a b t)

product_small : (a b : ℕ) → a ≤ longest → b ≤ longest → a * b ≤ 4096
product_small a b h k = le_trans (mul-le-mul_left a k) (le_trans (mul-le-mul_right longest h) (omega arith))

pub size_small : (k : Kind) (a b : ℕ) → a ≤ longest → b ≤ longest → (table k).size a b ≤ 4096
size_small System a b h k = product_small b (a - b) k (omega arith)
size_small Public a b h k = omega arith
size_small Secret a b h k = omega arith
size_small Commitments a b h k = omega arith
size_small Challenges a b h k = omega arith
size_small Answers a b h k = product_small a b h k
size_small Bits a b h k = omega arith
size_small Openings a b h k = product_small a b h k

-- ---- a frame that is read

pub record FrameFits (k : Kind) (e : Expected) (s : List ℕ) : Type 0 where
  pub head : Headed k s
  pub form : Shaped k e s
  pub content : Passed (content k (first_of s) (second_of k s) (table k).start (rest_of k s))

pub reading-told : (k : Kind) (e : Expected) (s v : List ℕ) → reading k e s ≡ done v
    → FrameFits k e s × (first_of s ∷ second_of k s ∷ (table k).start ∷ [] ≡ v)
unfolding reading
reading-told k e s v q =
    let r4 : Told = done (first_of s ∷ second_of k s ∷ (table k).start ∷ []) in
    let r3 : Told = first (content k (first_of s) (second_of k s) (table k).start (rest_of k s)) r4 in
    let r2 : Told = first (demand (shape k e s) SHAPE (table k).buffer 4) r3 in
    let h = first_done (header k s) r2 v q in
    let p = first_done (content k (first_of s) (second_of k s) (table k).start (rest_of k s)) r4 v (rest_done (shape k e s) SHAPE (table k).buffer 4 r3 v h.1) in (
      record {
        head = header-told k s h.0.0 h.0.1;
        form = shape-told k e s (test_holds (shape k e s) SHAPE (table k).buffer 4 r3 v h.1);
        content = p.0;
      },
      cc,
    )

-- and such a frame is read
pub fits_read : (k : Kind) (e : Expected) (s : List ℕ) → FrameFits k e s → reading k e s ≡ done (first_of s ∷ second_of k s ∷ (table k).start ∷ [])
unfolding reading
fits_read k e s f =
    let h = f.head in
    let g = f.form in
    rw (
      ← headed k s (table k).buffer refl h.four h.whole h.version h.number,
      ← spare_decides k e s (first_of s) (second_of k s) refl refl g.there g.numbers g.whole true (sym g.spare),
      f.content.1,
    )

-- what is asked of the numbers is all that differs from call to call
pub refit : (k : Kind) (e d : Expected) (s : List ℕ) → FrameFits k e s → fits k d (first_of s) (second_of k s) ≡ true → FrameFits k d s
refit k e d s f t =
    let g = f.form in
    record { head = f.head; form = record { there = g.there; numbers = t; whole = g.whole; spare = g.spare }; content = f.content }

-- what a reader's answer says
pub frame-fits : (k : Kind) (e : Expected) (s : List ℕ) (r : Result Frame Refusal) (f : Frame) → Reads k e s r → r ≡ Ok f → FrameFits k e s
frame-fits k e s r f m q = (reading-told k e s _ (sym m.says ∙ ap read_means q)).0

-- ---- the numbers of a frame of which one is asked

module _ (k : Kind) (e : Expected) (s : List ℕ) (h : Shaped k e s) where
  pub first-asked : (n : ℕ) → (table k).first e ≡ limits n n → first_of s ≡ n
  first-asked n q = let p = rw q at (first-within k e (first_of s) (second_of k s) h.numbers) in omega arith

  pub second-asked : (n : ℕ) → (table k).second e (first_of s) ≡ limits n n → second_of k s ≡ n
  second-asked n q = let p = rw q at (second-within k e (first_of s) (second_of k s) h.numbers) in omega arith
