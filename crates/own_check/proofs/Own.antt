-- Laws of the card's own check.
use mathlib.Core.Path.{◌≡◌, sym, ap, ◌∙◌, subst}
use mathlib.Core.Bool.{Bool, true, false, not, false≢true}
use mathlib.Core.List.{List}
use Prim.Native.Nat.{ℕ, ◌≤◌, ◌<◌}
use native.Mathlib.Nat.{zero-add}
use native.Mathlib.Decide.{dec_lt}
use native.Mathlib.Omega.{arith}
use lib.ListN.{get_or}
use Rattle.algebra.specs.Lists.{first_from}
use Rattle.algebra.proofs.Lists.{Found, found}
use Rattle.sha256.specs.Standard.{digest_of}
use Rattle.packed_bits.specs.PackedBits.{bit_at}
use Rattle.scheme.specs.Round.{System, Sound, ValidKey, Pair, first_answer, opening, Honest, opened, opened_of, passes}
use Rattle.scheme.proofs.Laws.{honest-shows, honest-passes}
use Rattle.rounds.specs.Layout.{pair_at, AllWell}
use Rattle.own_check.specs.Own.{committed, own_passes, own_fails, own_failing}

own-formed : (s : System) (v π : List ℕ) (c : ℕ) (bit : Bool) (x : Pair)
    → passes s v c bit (opened (digest_of (committed s π bit x)) (first_answer s.p v π c x) (opening π bit x.permutation)) ≡ own_passes s v π c bit x
unfolding committed own_passes
own-formed s v π c false x = ap (λ (h : Honest). passes s v c false (opened_of false h)) (sym (honest-shows s v π c false x))
own-formed s v π c true x = ap (λ (h : Honest). passes s v c true (opened_of true h)) (sym (honest-shows s v π c true x))

-- what is opened of a round, as the code forms it
pub own-parts : (s : System) (v π : List ℕ) (c : ℕ) (bit : Bool) (x : Pair) (d w θ : List ℕ) → d ≡ digest_of (committed s π bit x) → w ≡ first_answer s.p v π c x
    → θ ≡ opening π bit x.permutation → passes s v c bit (opened d w θ) ≡ own_passes s v π c bit x
own-parts s v π c bit x d w θ p q r = rw (p, q, r) (own-formed s v π c bit x)

-- ---- with a valid key it passes every round, for all challenges and bits

pub own_never_fails : (s : System) (v π : List ℕ) → Sound s → ValidKey s v π → (N : ℕ) (choices : List ℕ) → AllWell s N choices → (challenges bits : List ℕ)
    → ((k : ℕ) → k < N → get_or challenges k 0 ≤ s.p) → own_failing s v π N choices challenges bits ≡ N
unfolding own_failing own_passes
own_never_fails s v π ok key N choices well challenges bits small = step (dec_lt at N)
  where
    f : ℕ → Bool
    f = own_fails s v π choices challenges bits

    at : ℕ
    at = first_from N 0 f

    search : Found f 0 N at
    search = subst (λ (end : ℕ). Found f 0 end at) (zero-add N) (found f N 0)

    passes_at : at < N → f at ≡ false
    passes_at l = ap not (honest-passes s v π ok key (get_or challenges at 0) (pair_at s.n choices at) (well.each at l) (small at l) (bit_at bits at))

    step : Dec (at < N) → at ≡ N
    step (yes l) = absurd (false≢true (sym (passes_at l) ∙ search.here l))
    step (no q) = let m = search.most in omega arith
