-- For each call: no second outcome fits what it promises, and a refused call changes nothing. One record serves them all. And what it tells.
use mathlib.Core.Path.{◌≡◌, sym, ap, ◌∙◌}
use mathlib.Core.List.{List, [], ◌∷◌}
use Prim.Native.Nat.{ℕ}
use native.Mathlib.Omega.{arith}
use lib.Dec.{leb}
use lib.ListN.{length}
use Rattle.refusals.specs.declared.Refusal.{Refusal}
use Rattle.refusals.specs.Number.{ROOM, DRAW}
use Rattle.refusals.specs.Buffer.{OUTPUT}
use Rattle.refusals.specs.Told.{Told, done, first, demand}
use Rattle.refusals.proofs.Chain.{count_fixes, UpTo, first_done, done_most, first-most, test_most}
use Rattle.algebra.specs.Lists.{over}
use Rattle.random.specs.Drawings.{Drawing, drew, ran_out}
use Rattle.std.specs.Prelude.{Option, Some, None, Result, Ok, Err}
use Rattle.draw_rules.specs.Telling.{telling, used_told, drawn_after, Draws}

module _ (numbers : Told) (need : ℕ) (drawing : Drawing) (random out : List ℕ) where
  pub one_drawing : (a b : Result ℕ Refusal) (x y : List ℕ) → Draws numbers need drawing random out a x → Draws numbers need drawing random out b y → (a ≡ b) × (x ≡ y)
  one_drawing a b x y p q =
      let e : a ≡ b = count_fixes a b (p.says ∙ sym q.says) in
      (e, p.writes ∙ ap (λ (t : Result ℕ Refusal). drawn_after t drawing out) e ∙ sym q.writes)

  pub refused_draws_nothing : (r : Refusal) (after : List ℕ) → Draws numbers need drawing random out (Err r) after → after ≡ out
  refused_draws_nothing r after p = p.writes

-- a success: the bytes used are those that the definition consumes, and what it draws stands over the output's front
module _ (numbers : Told) (need : ℕ) (random out : List ℕ) (used : ℕ) (after : List ℕ) where
  told-used : (u : Option ℕ) → done (used ∷ []) ≡ telling numbers need (length out) u (length random) → used_told u (length random) ≡ done (used ∷ [])
  unfolding telling
  told-used u e =
      let room = demand (leb need (length out)) ROOM OUTPUT need in
      let rest = used_told u (length random) in
      (first_done room rest (used ∷ []) (first_done numbers (first room rest) (used ∷ []) (sym e)).1).1

  pub taken_drew : (drawing : Drawing) → Draws numbers need drawing random out (Ok used) after
      → (s : List ℕ) × (drawing ≡ drew s used) × (after ≡ over s out)
  taken_drew (drew s p) d = let e = told-used (Some p) d.says in let q : p ≡ used = cc in (s, ap (drew s) q, d.writes)
  taken_drew ran_out d = let e = told-used None d.says in let z : ◌≡◌ {A = ℕ} 0 1 = cc in absurd (omega arith)

-- ---- what a drawing tells: one value, the bytes used, or a refusal by the numbers up to DRAW where its numbers and frames refuse by those

used_most : (used : Option ℕ) (lent : ℕ) → UpTo DRAW (used_told used lent)
used_most (Some used) lent = done_most DRAW (used ∷ [])
used_most None lent = λ k l p e. let q : DRAW ≡ k = cc in (omega arith, omega arith)

used_one : (used : Option ℕ) (lent : ℕ) (values : List ℕ) → used_told used lent ≡ done values → (bytes : ℕ) × (values ≡ bytes ∷ [])
used_one (Some used) lent values e = (used, cc)
used_one None lent values e = let z : ◌≡◌ {A = ℕ} 0 1 = cc in absurd (omega arith)

module _ (numbers : Told) (need room : ℕ) (used : Option ℕ) (lent : ℕ) where
  pub telling-most : UpTo DRAW numbers → UpTo DRAW (telling numbers need room used lent)
  unfolding telling
  telling-most h =
      let rest = used_told used lent in
      first-most DRAW numbers (first (demand (leb need room) ROOM OUTPUT need) rest) h
      (test_most DRAW (leb need room) ROOM OUTPUT need rest (omega arith) (omega arith) (used_most used lent))

  pub telling-one : (values : List ℕ) → telling numbers need room used lent ≡ done values → (bytes : ℕ) × (values ≡ bytes ∷ [])
  unfolding telling
  telling-one values e =
      let full = demand (leb need room) ROOM OUTPUT need in
      let rest = used_told used lent in
      used_one used lent values (first_done full rest values (first_done numbers (first full rest) values e).1).1
