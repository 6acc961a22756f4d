-- What the contract of the hash call promises: when it is refused and when not, that it fixes the whole outcome, and what a refused call answers.
use Rattle.refusals.specs.declared.Refusal.{Refusal}
use Rattle.std.specs.Prelude.{Result, Ok, Err}
use mathlib.Core.List.{List}
use mathlib.Core.Path.{◌≡◌, refl, sym, ap, ap₂, ◌∙◌}
use Prim.Native.Nat.{ℕ, ◌≤◌, ◌<◌}
use borrow.Author.Tests.{le-leb, lt-leb}
use native.Mathlib.Omega.{arith}
use lib.Dec.{leb}
use lib.ListN.{length, replicate}
use Rattle.refusals.proofs.Chain.{outcome_fixes, UpTo, demand-most}
use Rattle.refusals.specs.Buffer.{CHOICES}
use Rattle.refusals.specs.Number.{SHAPE}
use Rattle.refusals.specs.Told.{Told, done, refused, fine, outcome, first}
use Rattle.sha256.specs.Call.{LONGEST, Hashes, means_digest, shown, told_of, shown_of}
use Rattle.sha256.specs.Standard.{digest_of}

pub told-fine : (m : List ℕ) → length m ≤ LONGEST → fine ≡ told_of m
unfolding told_of
told-fine m h = rw (le-leb (length m) LONGEST h)

pub told_long : (m : List ℕ) → LONGEST < length m → refused SHAPE CHOICES 0 ≡ told_of m
unfolding told_of
told_long m h = rw (lt-leb (length m) LONGEST h)

-- no second outcome fits the contract
pub one_outcome : (m : List ℕ) (r q : Result (List ℕ) Refusal) → Hashes m r → Hashes m q → r ≡ q
one_outcome m r q h k =
    outcome_fixes (λ digest. digest) (λ values. values) (λ digest. refl) r q
    (both r ∙ ap₂ (λ (t : Told) (d : List ℕ). first t (done d)) (h.says ∙ sym k.says) (h.shows ∙ sym k.shows) ∙ sym (both q))
  where
    both : (r : Result (List ℕ) Refusal) → outcome (λ digest. digest) r ≡ first (means_digest r) (done (shown r))
    both (Ok digest) = refl
    both (Err x) = refl

-- nothing is lent to the call for writing: all that a refused call leaves is its refusal, whatever the message
pub refused_shows_nothing : (m : List ℕ) (r : Result (List ℕ) Refusal) → Hashes m r → LONGEST < length m → (means_digest r ≡ refused SHAPE CHOICES 0) × (shown r ≡ replicate 32 0)
refused_shows_nothing m r h long =
    let t = sym (told_long m long) in
    (h.says ∙ t, h.shows ∙ ap (λ (x : Told). shown_of x m) t)

-- any other call has the digest
pub fine_shows_digest : (m : List ℕ) (r : Result (List ℕ) Refusal) → Hashes m r → length m ≤ LONGEST → (means_digest r ≡ fine) × (shown r ≡ digest_of m)
fine_shows_digest m r h fits =
    let t = sym (told-fine m fits) in
    (h.says ∙ t, h.shows ∙ ap (λ (x : Told). shown_of x m) t)

-- and hands it back
pub hands_back : (m d : List ℕ) → Hashes m (Ok d) → d ≡ digest_of m
hands_back m d h = h.shows ∙ ap (λ (x : Told). shown_of x m) (sym h.says)

-- the call refuses by SHAPE alone
pub told-most : (m : List ℕ) → UpTo SHAPE (told_of m)
unfolding told_of
told-most m = demand-most SHAPE (leb (length m) LONGEST) SHAPE CHOICES 0 (omega arith) (omega arith)
