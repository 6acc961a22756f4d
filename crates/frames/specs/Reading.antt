-- What a reader tells: the header, then SHAPE, then the bytes in order (document 01, "Frames" and "Refusal numbers").
use Rattle.frames.specs.declared.read.Frame.{Frame}
use Rattle.refusals.specs.declared.Refusal.{Refusal}
use Rattle.std.specs.Prelude.{◌≡◌, Bool, cond, ◌&&◌, List, [], ◌∷◌, ℕ, ◌+◌, ◌*◌, leb, ltb, eqb, length, get_or, drop, Result}
use Rattle.refusals.specs.Number.{SHORT, LONG, VERSION, KIND, SHAPE}
use Rattle.refusals.specs.Buffer.{NONE}
use Rattle.refusals.specs.Told.{Told, done, refused, outcome, first, demand}
use Rattle.algebra.specs.Lists.{stretch}
use Rattle.kinds.specs.declared.Kind.{Kind}
use Rattle.kinds.specs.declared.Kind.TheVariants.{Openings}
use Rattle.kinds.specs.declared.Expected.{Expected}
use Rattle.kinds.specs.Kinds.{table, fits, alone}
use Rattle.bodies.specs.Bodies.{spare_clear, content}

-- the count of all bytes after the first two, big-endian
abbrev pub count_of : List ℕ → ℕ
count_of s = get_or s 0 0 * 256 + get_or s 1 0

-- SHORT, LONG, VERSION, KIND
unfoldable pub header : Kind → List ℕ → Told
header k s =
    first (demand (leb 4 (length s)) SHORT (table k).buffer 0)
    (first (demand (leb (count_of s + 2) (length s)) SHORT (table k).buffer 0)
    (first (demand (leb (length s) (count_of s + 2)) LONG (table k).buffer 0)
    (first (demand (eqb (get_or s 2 0) (table k).version) VERSION (table k).buffer 2)
    (demand (eqb (get_or s 3 0) (table k).number) KIND (table k).buffer 3))))

-- the numbers after the header
abbrev pub first_of : List ℕ → ℕ
first_of s = get_or s 4 0

abbrev pub second_of : Kind → List ℕ → ℕ
second_of k s = cond (eqb (table k).start 6) (get_or s 5 0) 0

abbrev pub rest_of : Kind → List ℕ → List ℕ
rest_of k s = drop (table k).start s

-- the numbers are there and within their limits, the length is as tabled, and no unused bit is set
unfoldable pub shape : Kind → Expected → List ℕ → Bool
shape k e s =
    leb (table k).start (length s)
    && (fits k e (first_of s) (second_of k s)
    && (eqb (length s) ((table k).start + (table k).size (first_of s) (second_of k s)) && spare_clear k (first_of s) (rest_of k s)))

-- a frame: the numbers and where the rest starts, or the first refusal
unfoldable pub reading : Kind → Expected → List ℕ → Told
reading k e s =
    first (header k s)
    (first (demand (shape k e s) SHAPE (table k).buffer 4)
    (first (content k (first_of s) (second_of k s) (table k).start (rest_of k s))
    (done (first_of s ∷ second_of k s ∷ (table k).start ∷ []))))

-- what a reader's answer means
abbrev pub read_means : Result Frame Refusal → Told
read_means = outcome (λ f. f.first ∷ f.second ∷ f.start ∷ [])

-- what a reader promises; it writes nothing
pub record Reads (k : Kind) (e : Expected) (s : List ℕ) (answer : Result Frame Refusal) : Type 0 where
  pub says : read_means answer ≡ reading k e s

-- ---- the opening of a named round

-- the frame's own refusals, and then a round that it does not have
unfoldable pub opening_check : List ℕ → ℕ → Told
opening_check s round = first (reading Openings alone s) (demand (ltb round (second_of Openings s)) SHAPE NONE 0)

abbrev pub where_fine : Told → List ℕ → List ℕ
where_fine (done values) l = l
where_fine (refused number buffer place) l = []

-- the round's permutation, a stretch of the frame; nothing where the check refuses
unfoldable pub opening_of : List ℕ → ℕ → List ℕ
opening_of s round = where_fine (opening_check s round) (stretch (first_of s) round (rest_of Openings s))
