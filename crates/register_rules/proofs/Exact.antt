-- The exact verdict, both ways, for every grade and all bytes lent. Accepted N: every frame is well formed and agrees with the earlier ones,
-- N suffices for the grade, and every round passes. FIRST or SECOND at r: frames and grade as before, the rounds below r pass and round r,
-- which is of that bit, does not.
use Rattle.std.specs.Prelude.{Result, Ok, Err}
use mathlib.Core.Path.{◌≡◌, refl, sym, ap, ◌∙◌, subst}
use mathlib.Core.Bool.{Bool, true, false, cond, false≢true}
use mathlib.Core.List.{List, [], ◌∷◌}
use mathlib.Core.Logic.{◌⊎◌, inl, inr}
use Prim.Native.Nat.{ℕ, ◌<◌}
use native.Mathlib.Decide.{ℕ_discrete, dec_lt}
use native.Mathlib.Omega.{arith}
use borrow.Author.Tests.{eqb-true, eq-eqb, ne_eqb, not-false, not-true}
use lib.Dec.{eqb}
use lib.ListN.{get_or}
use Rattle.refusals.specs.declared.Refusal.{Refusal}
use Rattle.refusals.specs.declared.Reason.{Reason}
use Rattle.refusals.specs.declared.Reason.TheVariants.{First, Second}
use Rattle.refusals.specs.declared.Buffer.TheVariants.{Openings as OpeningsBuffer}
use Rattle.refusals.specs.Number.{PERM, WEAK, reason_number}
use Rattle.refusals.specs.Buffer.{NONE, OPENINGS, buffer_number}
use Rattle.refusals.specs.Told.{Told, done, refused, fine, first, demand, means_count}
use Rattle.refusals.proofs.Chain.{count_fixes, Passed, first_done, first_refused, demand_done, UpTo, done_most, demand-most, first-most}
use Rattle.kinds.specs.declared.Kind.TheVariants.{System, Public, Commitments, Challenges, Answers, Bits, Openings}
use Rattle.kinds.specs.Kinds.{alone, of_places, exactly}
use Rattle.frames.specs.Reading.{reading}
use Rattle.frames.proofs.Facts.{fits_read, test_holds, rest_done}
use Rattle.readers.proofs.Outcomes.{reading-most}
use Rattle.rounds.proofs.Runs.{failing_found, all_pass}
use Rattle.register_rules.specs.Verdict.{SignOn, places_in, rounds_in, basis_check, exchange_check, frames_check, enough, system_in, vector_in, messages_in, bit_in, round_passes, rounds_passed, number_of, rounds_check, judging, Judges}
use Rattle.register_rules.proofs.Orders.{in_order}
use Rattle.register_rules.proofs.Facts.{FramesFit, frames-told}

-- when a sign-on is accepted
pub record Accepts (grade : ℕ) (x : SignOn) : Type 0 where
  pub frames : FramesFit x
  pub suffices : enough grade (rounds_in x) ≡ true
  pub pass : (k : ℕ) → k < rounds_in x → round_passes x k ≡ true

-- when it fails at round r, which is of the bit
pub record Fails (grade : ℕ) (x : SignOn) (bit : Bool) (r : ℕ) : Type 0 where
  pub frames : FramesFit x
  pub suffices : enough grade (rounds_in x) ≡ true
  pub below : r < rounds_in x
  pub before : (k : ℕ) → k < r → round_passes x k ≡ true
  pub here : round_passes x r ≡ false
  pub asked : bit_in x r ≡ bit

-- ---- frames and grade

frames-fine : (x : SignOn) → FramesFit x → frames_check x ≡ fine
unfolding frames_check basis_check exchange_check
frames-fine x h =
    let n = places_in x in
    let q = exactly (places_in x) (rounds_in x) in
    rw (
      fits_read System alone x.system h.basis.system,
      fits_read Public (of_places n) x.key h.basis.key,
      fits_read Commitments (of_places n) x.commitments h.basis.commitments,
      fits_read Challenges q x.challenges h.exchange.challenges,
      fits_read Answers q x.answers h.exchange.answers,
      fits_read Bits q x.bits h.exchange.bits,
      fits_read Openings q x.openings h.exchange.openings,
    )

-- frames refuse by the numbers up to PERM alone
frames-most : (x : SignOn) → UpTo PERM (frames_check x)
unfolding frames_check basis_check exchange_check
frames-most x =
    let n = places_in x in
    let q = exactly n (rounds_in x) in
    let r7 : Told = first (reading Openings (exactly n (rounds_in x)) x.openings) fine in
    let r6 : Told = first (reading Bits (exactly n (rounds_in x)) x.bits) r7 in
    let r5 : Told = first (reading Answers (exactly n (rounds_in x)) x.answers) r6 in
    let r4 : Told = first (reading Challenges (exactly n (rounds_in x)) x.challenges) r5 in
    let r3 : Told = first (reading Commitments (of_places n) x.commitments) fine in
    let r2 : Told = first (reading Public (of_places n) x.key) r3 in
    first-most PERM (first (reading System alone x.system) r2) r4
    (first-most PERM (reading System alone x.system) r2 (reading-most System alone x.system)
    (first-most PERM (reading Public (of_places n) x.key) r3 (reading-most Public (of_places n) x.key)
    (first-most PERM (reading Commitments (of_places n) x.commitments) fine (reading-most Commitments (of_places n) x.commitments) (done_most PERM []))))
    (first-most PERM (reading Challenges q x.challenges) r5 (reading-most Challenges q x.challenges)
    (first-most PERM (reading Answers q x.answers) r6 (reading-most Answers q x.answers)
    (first-most PERM (reading Bits q x.bits) r7 (reading-most Bits q x.bits)
    (first-most PERM (reading Openings q x.openings) fine (reading-most Openings q x.openings) (done_most PERM [])))))

-- past both the rounds decide
past_both : (grade : ℕ) (x : SignOn) → FramesFit x → enough grade (rounds_in x) ≡ true → judging grade x ≡ rounds_check x
past_both grade x h s = in_order grade x ∙ rw (frames-fine x h, s)

-- ---- what the rounds say

picked_done : (t : Bool) (u v : List ℕ) (k b p : ℕ) → cond t (done u) (refused k b p) ≡ done v → (t ≡ true) × (u ≡ v)
picked_done true u v k b p e = (refl, cc)
picked_done false u v k b p e = let z : ◌≡◌ {A = ℕ} 0 1 = cc in absurd (omega arith)

picked_refused : (t : Bool) (u : List ℕ) (k b p l c q : ℕ) → cond t (done u) (refused k b p) ≡ refused l c q → (t ≡ false) × (k ≡ l) × (b ≡ c) × (p ≡ q)
picked_refused true u k b p l c q e = let z : ◌≡◌ {A = ℕ} 0 1 = cc in absurd (omega arith)
picked_refused false u k b p l c q e = (refl, cc, cc, cc)

module _ (x : SignOn) where
  abbrev at : ℕ
  at = rounds_passed x

  passed-before : (k : ℕ) → k < at → round_passes x k ≡ true
  passed-before k l = not-false _ ((failing_found (system_in x) (vector_in x) (messages_in x) (rounds_in x)).before k (omega arith) l)

  fails-here : at < rounds_in x → round_passes x at ≡ false
  fails-here l = not-true _ ((failing_found (system_in x) (vector_in x) (messages_in x) (rounds_in x)).here l)

  -- the first round that does not pass is the one before which all pass
  found_at : (r : ℕ) → r < rounds_in x → ((k : ℕ) → k < r → round_passes x k ≡ true) → round_passes x r ≡ false → at ≡ r
  found_at r l before here = by (dec_lt at r) (dec_lt r at)
    where
      by : Dec (at < r) → Dec (r < at) → at ≡ r
      by (yes m) q = absurd (false≢true (sym (fails-here (omega arith)) ∙ before at m))
      by (no m) (yes q) = absurd (false≢true (sym here ∙ passed-before r q))
      by (no m) (no q) = omega arith

  rounds-accepted : (v : List ℕ) → rounds_check x ≡ done v → (at ≡ rounds_in x) × (rounds_in x ∷ [] ≡ v)
  unfolding rounds_check
  rounds-accepted v e =
      let p = picked_done (eqb at (rounds_in x)) (rounds_in x ∷ []) v (number_of (bit_in x at)) OPENINGS at e in
      (eqb-true _ _ p.0, p.1)

  rounds-refused : (k b r : ℕ) → rounds_check x ≡ refused k b r → (at < rounds_in x) × (number_of (bit_in x at) ≡ k) × (OPENINGS ≡ b) × (at ≡ r)
  unfolding rounds_check
  rounds-refused k b r e =
      let p = picked_refused (eqb at (rounds_in x)) (rounds_in x ∷ []) (number_of (bit_in x at)) OPENINGS at k b r e in
      (short (ℕ_discrete at (rounds_in x)) p.0, p.1, p.2, p.3)
    where
      short : Dec (at ≡ rounds_in x) → eqb at (rounds_in x) ≡ false → at < rounds_in x
      short (yes e) q = absurd (false≢true (sym q ∙ eq-eqb at (rounds_in x) e))
      short (no f) q = let m = (failing_found (system_in x) (vector_in x) (messages_in x) (rounds_in x)).most in omega arith

-- ---- FIRST and SECOND are told apart by the bit, and from every earlier refusal

number_late : (bit : Bool) → WEAK < number_of bit
number_late false = omega arith
number_late true = omega arith

number_tells : (a b : Bool) → number_of a ≡ number_of b → a ≡ b
number_tells false false e = refl
number_tells false true e = absurd (omega arith)
number_tells true false e = absurd (omega arith)
number_tells true true e = refl

-- ---- the definition of the verdict

module _ (grade : ℕ) (x : SignOn) where
  abbrev weak : Told
  weak = demand (enough grade (rounds_in x)) WEAK NONE 0

  pub accepted→ : (v : List ℕ) → judging grade x ≡ done v → (rounds_in x ∷ [] ≡ v) × Accepts grade x
  accepted→ v e =
      let a = first_done (frames_check x) (first weak (rounds_check x)) v (sym (in_order grade x) ∙ e) in
      let r = rounds-accepted x v (rest_done (enough grade (rounds_in x)) WEAK NONE 0 (rounds_check x) v a.1) in
      let z = r.0 in (
        r.1,
        record {
          frames = frames-told x a.0.0 a.0.1;
          suffices = test_holds (enough grade (rounds_in x)) WEAK NONE 0 (rounds_check x) v a.1;
          pass = λ k l. passed-before x k (omega arith);
        },
      )

  pub accepted← : Accepts grade x → judging grade x ≡ done (rounds_in x ∷ [])
  unfolding rounds_check
  accepted← h =
      past_both grade x h.frames h.suffices
      ∙ rw (eq-eqb (rounds_passed x) (rounds_in x) (all_pass (system_in x) (vector_in x) (messages_in x) (rounds_in x) h.pass))

  pub failed→ : (bit : Bool) (b r : ℕ) → judging grade x ≡ refused (number_of bit) b r → (OPENINGS ≡ b) × Fails grade x bit r
  failed→ bit b r e = past-frames (first_refused (frames_check x) (first weak (rounds_check x)) (number_of bit) b r (sym (in_order grade x) ∙ e))
    where
      past_all : FramesFit x → enough grade (rounds_in x) ≡ true → rounds_check x ≡ refused (number_of bit) b r → (OPENINGS ≡ b) × Fails grade x bit r
      past_all f s q =
          let p = rounds-refused x (number_of bit) b r q in
          let tells = number_tells (bit_in x (rounds_passed x)) bit p.1 in (
            p.2,
            subst (Fails grade x bit) p.3
                (record {
                  frames = f;
                  suffices = s;
                  below = p.0;
                  before = passed-before x;
                  here = fails-here x p.0;
                  asked = tells;
                }),
          )

      past-grade : FramesFit x → (weak ≡ refused (number_of bit) b r) ⊎ (Passed weak × (rounds_check x ≡ refused (number_of bit) b r)) → (OPENINGS ≡ b) × Fails grade x bit r
      past-grade f (inl q) = let m = (demand-most WEAK (enough grade (rounds_in x)) WEAK NONE 0 (omega arith) (omega arith) (number_of bit) b r q).1 in let l = number_late bit in absurd (omega arith)
      past-grade f (inr (p, q)) = past_all f (demand_done (enough grade (rounds_in x)) WEAK NONE 0 p.0 p.1) q

      past-frames : (frames_check x ≡ refused (number_of bit) b r) ⊎ (Passed (frames_check x) × (first weak (rounds_check x) ≡ refused (number_of bit) b r))
          → (OPENINGS ≡ b) × Fails grade x bit r
      past-frames (inl q) = let m = (frames-most x (number_of bit) b r q).1 in let l = number_late bit in absurd (omega arith)
      past-frames (inr (p, q)) = past-grade (frames-told x p.0 p.1) (first_refused weak (rounds_check x) (number_of bit) b r q)

  pub failed← : (bit : Bool) (r : ℕ) → Fails grade x bit r → judging grade x ≡ refused (number_of bit) OPENINGS r
  unfolding rounds_check
  failed← bit r h =
      let e = found_at x r h.below h.before h.here in
      let l = h.below in
      past_both grade x h.frames h.suffices
      ∙ rw (ne_eqb (rounds_passed x) (rounds_in x) (λ q. absurd (omega arith)), e, h.asked)

-- ---- the same of the call's answer

-- what the code calls FIRST and SECOND
abbrev pub reason_of : Bool → Reason
reason_of false = First
reason_of true = Second

reason-told : (bit : Bool) → number_of bit ≡ reason_number (reason_of bit)
reason-told false = refl
reason-told true = refl

module _ (grade : ℕ) (x : SignOn) (answer : Result ℕ Refusal) (j : Judges grade x answer) where
  pub answer-accepted→ : (N : ℕ) → answer ≡ Ok N → (N ≡ rounds_in x) × Accepts grade x
  answer-accepted→ N e =
      let a = accepted→ grade x (N ∷ []) (sym j.says ∙ ap means_count e) in
      (sym (ap (λ (v : List ℕ). get_or v 0 0) a.0), a.1)

  pub answer-accepted← : Accepts grade x → answer ≡ Ok (rounds_in x)
  answer-accepted← h = count_fixes answer (Ok (rounds_in x)) (j.says ∙ accepted← grade x h)

  pub answer-failed→ : (bit : Bool) (refusal : Refusal) → reason_number refusal.reason ≡ number_of bit → answer ≡ Err refusal
      → (OPENINGS ≡ buffer_number refusal.buffer) × Fails grade x bit refusal.place
  answer-failed→ bit refusal n e =
      failed→ grade x bit (buffer_number refusal.buffer) refusal.place
      (sym j.says ∙ ap means_count e ∙ ap (λ (k : ℕ). refused k (buffer_number refusal.buffer) refusal.place) n)

  pub answer-failed← : (bit : Bool) (r : ℕ) → Fails grade x bit r → answer ≡ Err (record { reason = reason_of bit; buffer = OpeningsBuffer; place = r })
  answer-failed← bit r h =
      count_fixes answer (Err (record { reason = reason_of bit; buffer = OpeningsBuffer; place = r }))
      (j.says ∙ failed← grade x bit r h ∙ ap (λ (k : ℕ). refused k OPENINGS r) (reason-told bit))
