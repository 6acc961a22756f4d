-- Laws of the order of refusals: an answer each, as the code finds it.
use mathlib.Core.Path.{◌≡◌, refl, sym, ◌∙◌, subst}
use mathlib.Core.Bool.{Bool, true, false}
use mathlib.Core.List.{List}
use Prim.Native.Nat.{ℕ, ◌≤◌, ◌<◌}
use borrow.Author.Tests.{lt-leb, le-leb}
use lib.ListN.{length}
use Rattle.refusals.specs.declared.Refusal.{Refusal}
use Rattle.refusals.specs.declared.Reason.TheVariants.{Shape, Room, Draw}
use Rattle.refusals.specs.declared.Buffer.TheVariants.{NoBuffer, Random, Output}
use Rattle.refusals.specs.Told.{Told, done, told, fine}
use Rattle.std.specs.Prelude.{Some, None, Result, Ok, Err}
use Rattle.random.specs.Drawings.{Drawing, used_by, drawn_over}
use Rattle.draw_rules.specs.Telling.{refusal, bare, telling, Draws}

-- bare numbers within their limits
pub good-numbers : (test : Bool) → test ≡ true → bare test ≡ fine
good-numbers test e = rw e

module _ (need : ℕ) (drawing : Drawing) (random out : List ℕ) where
  -- a refusal leaves the output alone
  refuses : (numbers : Told) {answer : Result ℕ Refusal} {r : Refusal} → answer ≡ Err r
      → told r ≡ telling numbers need (length out) (used_by drawing) (length random) → Draws numbers need drawing random out answer out
  refuses numbers e t = subst (λ (a : Result ℕ Refusal). Draws numbers need drawing random out a out) (sym e) (record { says = t; writes = refl })

  -- numbers out of their limits
  pub bad_numbers : (test : Bool) {answer : Result ℕ Refusal} → test ≡ false → answer ≡ refusal Shape NoBuffer 0 → Draws (bare test) need drawing random out answer out
  unfolding telling
  bad_numbers test f e = refuses (bare test) e (rw f)

  -- a frame that is refused
  pub bad_frame : (numbers : Told) {r : Refusal} → told r ≡ numbers → Draws numbers need drawing random out (Err r) out
  unfolding telling
  bad_frame numbers e = record { says = rw (← e); writes = refl }

  -- numbers and frames that refuse nothing
  module _ (numbers : Told) (values : List ℕ) (p : numbers ≡ done values) where
    pub no_room : {answer : Result ℕ Refusal} → length out < need → answer ≡ refusal Room Output need → Draws numbers need drawing random out answer out
    unfolding telling
    no_room l e = refuses numbers e (rw (p, lt-leb need (length out) l))

    pub runs-out : {answer : Result ℕ Refusal} → need ≤ length out → None ≡ used_by drawing → answer ≡ refusal Draw Random (length random)
        → Draws numbers need drawing random out answer out
    unfolding telling
    runs-out l u e = refuses numbers e (rw (p, le-leb need (length out) l, ← u))

    pub takes : {used : ℕ} {after : List ℕ} → need ≤ length out → Some used ≡ used_by drawing → after ≡ drawn_over drawing out
        → Draws numbers need drawing random out (Ok used) after
    unfolding telling
    takes l u w = record { says = rw (p, le-leb need (length out) l, ← u); writes = w }

    -- what was found past the frame
    pub past-frame : {answer : Result ℕ Refusal} {after : List ℕ} → Draws fine need drawing random out answer after → Draws numbers need drawing random out answer after
    unfolding telling
    past-frame d = record { says = d.says ∙ rw p; writes = d.writes }
