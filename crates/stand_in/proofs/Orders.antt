-- Laws of the order of refusals, an answer each, as the code finds them.
use Rattle.frames.specs.declared.read.Frame.{Frame}
use Rattle.std.specs.Prelude.{Result, Ok, Err}
use mathlib.Core.Path.{◌≡◌}
use mathlib.Core.List.{List}
use mathlib.Core.Logic.{◌⊎◌, inl, inr}
use Prim.Native.Nat.{ℕ, ◌≤◌, ◌<◌}
use borrow.Author.Tests.{lt-ltb, le-ltb}
use Rattle.refusals.specs.declared.Refusal.{Refusal}
use Rattle.refusals.specs.Number.{SHAPE}
use Rattle.refusals.specs.Buffer.{NONE}
use Rattle.refusals.specs.Told.{Told, refused, told}
use Rattle.algebra.specs.Residues.{modulus}
use Rattle.kinds.specs.declared.Kind.TheVariants.{System, Public}
use Rattle.kinds.specs.Kinds.{alone, of_places}
use Rattle.frames.specs.Reading.{first_of, Reads}
use Rattle.readers.specs.Choosing.{choices_check}
use Rattle.frames.proofs.Orders.{frame_goes_on, frame-stops}
use Rattle.stand_in.specs.Standing.{lent_check}

-- ---- what is lent

module _ (c bit : ℕ) (system key lent : List ℕ) where
  pub bad_numbers : (modulus ≤ c) ⊎ ((c < modulus) × (2 ≤ bit)) → refused SHAPE NONE 0 ≡ lent_check c bit system key lent
  unfolding lent_check
  bad_numbers (inl h) = rw (le-ltb c modulus h)
  bad_numbers (inr (h, l)) = rw (lt-ltb c modulus h, le-ltb bit 2 l)

  pub bad_challenge : modulus ≤ c → refused SHAPE NONE 0 ≡ lent_check c bit system key lent
  bad_challenge h = bad_numbers (inl h)

  module _ (h : c < modulus) (l : bit < 2) (r : Result Frame Refusal) (m : Reads System alone system r) where
    pub bad_system : (x : Refusal) → r ≡ Err x → told x ≡ lent_check c bit system key lent
    unfolding lent_check
    bad_system x e = rw (lt-ltb c modulus h, lt-ltb bit 2 l) (frame-stops _ m.says e)

    module _ (f : Frame) (e : r ≡ Ok f) (q : Result Frame Refusal) (k : Reads Public (of_places (first_of system)) key q) where
      pub bad_key : (x : Refusal) → q ≡ Err x → told x ≡ lent_check c bit system key lent
      unfolding lent_check
      bad_key x i = rw (lt-ltb c modulus h, lt-ltb bit 2 l) (frame_goes_on m.says e (frame-stops _ k.says i))

      pub choices-decide : (g : Frame) → q ≡ Ok g → (t : Told) → t ≡ choices_check (first_of system) 1 lent → t ≡ lent_check c bit system key lent
      unfolding lent_check
      choices-decide g i t d = rw (lt-ltb c modulus h, lt-ltb bit 2 l) (frame_goes_on m.says e (frame_goes_on k.says i d))
