-- Laws of open: what its checks say, and SELF.
use mathlib.Core.Path.{◌≡◌, refl, sym}
use mathlib.Core.List.{List}
use Prim.Native.Nat.{ℕ}
use native.Mathlib.Omega.{arith}
use borrow.Author.Tests.{eq-eqb, ne_eqb}
use Rattle.refusals.specs.Number.{SELF}
use Rattle.refusals.specs.Buffer.{CHOICES}
use Rattle.refusals.specs.Told.{done, refused, fine}
use Rattle.refusals.proofs.Chain.{first_done}
use Rattle.kinds.specs.declared.Kind.TheVariants.{Bits}
use Rattle.frames.specs.Reading.{rest_of}
use Rattle.frames.proofs.Orders.{from, rest_part}
use Rattle.scheme.specs.Round.{System as Matrix}
use Rattle.card_rules.specs.declared.session.Session.{Session}
use Rattle.card_rules.specs.Keys.{Keys, public_of, secret_of}
use Rattle.card_rules.specs.Lent.{matrix_of}
use Rattle.card_rules.specs.Asking.{open_check}
use Rattle.card_rules.proofs.Facts.{OpenFits, open_told_lem}
use Rattle.own_check.specs.Own.{own_failing}
use Rattle.card_steps.specs.Steps.{faulty_round, OpenReady, own_check, open_refusal}
use Rattle.own_check.proofs.Own.{own_never_fails}
use Rattle.card_steps.proofs.Parts.{bits-sent}

module _ (s : Session) (k : Keys) (message choices : List ℕ) where
  -- ---- past the checks

  pub open_ready : (room : ℕ) → OpenFits s k message choices room → OpenReady s k message choices
  open_ready room h = record { lent = h.lent; kept = h.kept; there = h.sent.form.there; bits = bits-sent _ _ message h.sent }

  pub refusal-told : (room : ℕ) (v : List ℕ) → open_refusal s k message choices room ≡ done v → OpenFits s k message choices room
  unfolding open_refusal
  refusal-told room v e =
      let p = (first_done (open_check s k message choices room) (own_check s k message choices) v e).0 in
      open_told_lem s k message choices room p.0 p.1

  -- ---- the card's own check, of the values lent as the code cuts them

  pub faulty_formed : (a : Matrix) (v π : List ℕ) (N : ℕ) → a ≡ matrix_of k → v ≡ public_of k → π ≡ secret_of k → N ≡ s.rounds
      → own_failing a v π N choices s.challenges (from 5 message) ≡ faulty_round s k message choices
  faulty_formed a v π N e p q r = rw (rest_part Bits message 5 refl, e, p, q, r)

  module _ (failing N : ℕ) (e : failing ≡ faulty_round s k message choices) (q : N ≡ s.rounds) where
    pub own-fails : (failing ≡ N → ⊥) → refused SELF CHOICES failing ≡ own_check s k message choices
    unfolding own_check
    own-fails f = rw (← e, ← q, ne_eqb failing N f)

    pub own-holds : failing ≡ N → fine ≡ own_check s k message choices
    unfolding own_check
    own-holds f = rw (← e, ← q, eq-eqb failing N f)

  -- with a valid key and challenges that are residues it is never SELF
  pub own-fine : OpenReady s k message choices → fine ≡ own_check s k message choices
  own-fine h =
      own-holds s.rounds s.rounds
      (sym (own_never_fails (matrix_of k) (public_of k) (secret_of k) (record { some = omega arith; fits = h.lent.keys.system }) h.lent.valid s.rounds choices h.lent.well s.challenges (rest_of Bits message) (λ j l. let q = h.kept j l in omega arith)))
      refl refl
