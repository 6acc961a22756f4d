-- Laws of the opening of a named round.
use mathlib.Core.Path.{◌≡◌, sym, ap, ◌∙◌}
use mathlib.Core.List.{List, [], ◌∷◌}
use Prim.Native.Nat.{ℕ, ◌+◌, ◌-◌, ◌*◌, ◌≤◌, ◌<◌}
use native.Mathlib.Nat.{mul_comm}
use native.Mathlib.Omega.{arith}
use borrow.Author.Tests.{lt-ltb, le-ltb, ltb-true}
use lib.Dec.{ltb}
use lib.ListN.{length, get_or, take, drop}
use lib.Seq.{drop-drop}
use Rattle.refusals.specs.Number.{SHAPE}
use Rattle.refusals.specs.Buffer.{NONE}
use Rattle.refusals.specs.Told.{done, refused, fine, demand}
use Rattle.refusals.proofs.Chain.{first_done, demand_done}
use Rattle.algebra.specs.Lists.{stretch}
use Rattle.algebra.proofs.Lists.{stretch-fits}
use Rattle.kinds.specs.declared.Kind.TheVariants.{Openings}
use Rattle.kinds.specs.Kinds.{alone}
use Rattle.frames.specs.Reading.{first_of, second_of, reading, opening_check, opening_of}
use Rattle.frames.proofs.Facts.{FrameFits, Shaped, reading-told, numbers-small, size_small}

-- the numbers, as they were read, and what is known of the frame then
module _ (s : List ℕ) (a b start : ℕ) (e : done (a ∷ b ∷ start ∷ []) ≡ reading Openings alone s) where
  told : FrameFits Openings alone s × (first_of s ∷ second_of Openings s ∷ 6 ∷ [] ≡ a ∷ b ∷ start ∷ [])
  told = reading-told Openings alone s _ (sym e)

  pub first-read : a ≡ first_of s
  first-read = sym (ap (λ (l : List ℕ). get_or l 0 0) told.1)

  pub second-read : b ≡ second_of Openings s
  second-read = sym (ap (λ (l : List ℕ). get_or l 1 0) told.1)

  pub start-read : start ≡ 6
  start-read = sym (ap (λ (l : List ℕ). get_or l 2 0) told.1)

  -- where round k ends, of which there are b
  pub round_ends : (k : ℕ) → k < b → (k ≤ 64) × (k * a + a ≤ 4096) × (start + k * a + a ≤ length s)
  round_ends k l =
      let h = told.0.form in
      let N = second_of Openings s in
      let t = numbers-small Openings (first_of s) N h.numbers in
      let m = size_small Openings (first_of s) N t.0 t.1 in
      let w = h.whole in
      let f = stretch-fits a k N (rw second-read at l) in
      let q : N * a ≡ first_of s * N = mul_comm N a ∙ ap (λ (z : ℕ). z * N) first-read in
      let z = start-read in
      let y = second-read in
      (omega arith, omega arith, omega arith)

module _ (s : List ℕ) (round : ℕ) where
  pub no_frame : (x y z : ℕ) → refused x y z ≡ reading Openings alone s → refused x y z ≡ opening_check s round
  unfolding opening_check
  no_frame x y z e = rw (← e)

  pub no_round : (v : List ℕ) → done v ≡ reading Openings alone s → second_of Openings s ≤ round → refused SHAPE NONE 0 ≡ opening_check s round
  unfolding opening_check
  no_round v e l = rw (← e, le-ltb round (second_of Openings s) l)

  pub a_round : (v : List ℕ) → done v ≡ reading Openings alone s → round < second_of Openings s → fine ≡ opening_check s round
  unfolding opening_check
  a_round v e l = rw (← e, lt-ltb round (second_of Openings s) l)

  -- what a check that refuses nothing says
  pub opening-told : (v : List ℕ) → opening_check s round ≡ done v → Shaped Openings alone s × (round < second_of Openings s)
  unfolding opening_check
  opening-told v e =
      let t = ltb round (second_of Openings s) in
      let p = first_done (reading Openings alone s) (demand t SHAPE NONE 0) v e in
      ((reading-told Openings alone s p.0.0 p.0.1).0.form, ltb-true _ _ (demand_done t SHAPE NONE 0 v p.1))

  -- the stretch as the code cuts it, n being the first number
  pub opening-cut : (n start : ℕ) → n ≡ first_of s → start ≡ 6 → fine ≡ opening_check s round
      → take (start + round * n + n - (start + round * n)) (drop (start + round * n) s) ≡ opening_of s round
  unfolding opening_of stretch
  opening-cut n start e d q =
      let z : start + round * n + n - (start + round * n) ≡ n = omega arith in
      rw (← q, z, d, drop-drop (round * first_of s) 6 s, e)

-- where it ends
pub opening_ends : (s : List ℕ) (round n : ℕ) → n ≡ first_of s → Shaped Openings alone s → round < second_of Openings s
    → (round ≤ 64) × (round * n + n ≤ 4096) × (6 + round * n + n ≤ length s)
opening_ends s round n e h l =
    let N = second_of Openings s in
    let t = numbers-small Openings (first_of s) N h.numbers in
    let m = size_small Openings (first_of s) N t.0 t.1 in
    let w = h.whole in
    let f = stretch-fits n round N l in
    let q : N * n ≡ first_of s * N = mul_comm N n ∙ ap (λ (z : ℕ). z * N) e in
    (omega arith, omega arith, omega arith)
