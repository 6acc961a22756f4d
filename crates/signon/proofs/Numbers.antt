-- The numbers that the code works out: those that a reader answers, and the place of a named round.
use Rattle.frames.specs.declared.read.Frame.{Frame}
use Rattle.std.specs.Prelude.{Ok}
use mathlib.Core.Path.{◌≡◌, sym, ap}
use mathlib.Core.List.{List, [], ◌∷◌}
use Prim.Native.Nat.{ℕ, ◌+◌, ◌*◌, ◌≤◌}
use native.Mathlib.Omega.{arith}
use lib.ListN.{length, get_or}
use Rattle.refusals.specs.declared.Refusal.{Refusal}
use Rattle.refusals.specs.Told.{done, fine, told}
use Rattle.kinds.specs.declared.Kind.{Kind}
use Rattle.kinds.specs.declared.Kind.TheVariants.{Openings}
use Rattle.kinds.specs.Kinds.{alone, table}
use Rattle.frames.specs.Reading.{first_of, second_of, Reads, opening_check}
use Rattle.frames.proofs.Facts.{reading-told}
use Rattle.readers.proofs.OpeningLaws.{opening-told, opening_ends}
use Rattle.signon.specs.Calls.{opening_told}
use Rattle.signon.proofs.Holding.{numbers-read}

-- the numbers that a reader answers are far below 256
pub frame-numbers : (k : Kind) (s : List ℕ) (f : Frame) → Reads k alone s (Ok f) → (f.first ≤ 64) × (f.second ≤ 64)
frame-numbers k s f m =
    let t = (reading-told k alone s _ (sym m.says)).1 in
    let p : first_of s ≡ f.first = ap (λ (l : List ℕ). get_or l 0 0) t in
    let o : second_of k s ≡ f.second = ap (λ (l : List ℕ). get_or l 1 0) t in
    rw (p, o) at (numbers-read k s _ (sym m.says))

-- ---- the check of a named round

module _ (s : List ℕ) (round : ℕ) where
  pub place-fits : (n : ℕ) → n ≡ first_of s → opening_check s round ≡ fine → (round * n ≤ 4096) × (6 ≤ length s)
  place-fits n e q =
      let p = opening-told s round [] q in
      let f = opening_ends s round n e p.0 p.1 in
      (omega arith, omega arith)

  pub place-told : (start n : ℕ) → start ≡ (table Openings).start → n ≡ first_of s → opening_check s round ≡ fine → done ((start + round * n) ∷ []) ≡ opening_told s round
  unfolding opening_told
  place-told start n d e q = rw (q, d, e)

  pub no_place-told : (x : Refusal) → opening_check s round ≡ told x → told x ≡ opening_told s round
  unfolding opening_told
  no_place-told x q = rw q
