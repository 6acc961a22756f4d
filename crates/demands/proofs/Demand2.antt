-- Demand 2. "Card and register do what the scheme says. The register accepts well-formed messages with enough rounds exactly when every round opens its
-- commitment, and nothing else. A card with a valid key, lent the same system, keys and choices at its three calls, its record as it left it, and
-- refused at none, is accepted for all challenges and bits. Each frame written reads back as its values; each frame read has no other spelling."
-- Here: the card. The exact verdict: crates/register_rules/proofs/Exact.antt. Frames and their values: crates/writers/proofs/Spelling.antt,
-- crates/card_steps/proofs/ReadBack.antt.
use Rattle.std.specs.Prelude.{Ok}
use mathlib.Core.Path.{◌≡◌, refl, sym, ap, ◌∙◌, subst}
use mathlib.Core.Bool.{true}
use mathlib.Core.List.{List, [], ◌∷◌}
use Prim.Native.Nat.{ℕ, ◌<◌}
use native.Mathlib.Nat.{le_refl}
use native.Mathlib.Omega.{arith}
use borrow.Author.Tests.{le-leb}
use lib.ListN.{get_or, take}
use Rattle.refusals.specs.Told.{done}
use Rattle.algebra.specs.Residues.{modulus}
use Rattle.algebra.proofs.Lists.{front}
use Rattle.kinds.specs.declared.Kind.{Kind}
use Rattle.kinds.specs.declared.Kind.TheVariants.{Commitments, Challenges, Answers, Bits, Openings}
use Rattle.kinds.specs.declared.Expected.{Expected}
use Rattle.kinds.specs.Kinds.{limits, within, alone, of_places, exactly, fits}
use Rattle.frames.specs.Reading.{rest_of}
use Rattle.writers.specs.Writing.{frame}
use Rattle.frames.proofs.Facts.{FrameFits, reading-told, refit, rest-length, first-asked}
use Rattle.readers.proofs.Chosen.{values-told}
use Rattle.rounds.specs.Layout.{Messages}
use Rattle.rounds.specs.Rounds.{honest_run, passes_at}
use Rattle.rounds.proofs.Runs.{honest_round_passes}
use Rattle.card_rules.specs.declared.session.Session.{Session}
use Rattle.card_rules.specs.Keys.{Keys, places_of, public_of, secret_of}
use Rattle.card_rules.specs.Lent.{matrix_of, LentFits}
use Rattle.card_steps.specs.declared.Step.{Step}
use Rattle.card_steps.specs.Steps.{commitments_of, BeginStep, answers_of, AnswerStep, openings_of, OpenStep}
use Rattle.card_steps.proofs.ReadBack.{ReadBack, honest-messages}
use Rattle.card_steps.proofs.Written.{BeginWrote, begin_wrote, AnswerWrote, answer_wrote, OpenWrote, open_wrote}
use Rattle.register_rules.specs.Verdict.{SignOn, sign_on, rounds_in, enough, messages_in, round_passes, judging}
use Rattle.register_rules.proofs.Facts.{ExchangeFits, FramesFit}
use Rattle.register_rules.proofs.Exact.{accepted←}

-- ---- a frame that was written, once n and N are known

module _ (k : Kind) (a b : ℕ) (rest : List ℕ) (r : ReadBack k a b rest) where
  sent-fits : (e : Expected) → fits k e a b ≡ true → FrameFits k e (frame k a b rest)
  sent-fits e t = refit k alone e (frame k a b rest) (reading-told k alone (frame k a b rest) _ r.reads).0 (rw (r.spells.one, r.spells.two) t)

exact : (x : ℕ) → within (limits x x) x ≡ true
exact x = rw (le-leb x x (le_refl x))

-- ---- the three calls of a card, each given the record as the call before left it, and refused at none

pub record SignedOn (N : ℕ) (k : Keys) (choices challenges bits : List ℕ) : Type 0 where
  pub record₀ : Session
  pub out₁ : List ℕ
  pub begin : Step
  pub commitments : List ℕ
  pub bytes₁ : ℕ
  pub begins : BeginStep record₀ N k choices out₁ begin commitments
  pub begin-told : begin.told ≡ Ok bytes₁
  pub out₂ : List ℕ
  pub answer : Step
  pub answers : List ℕ
  pub bytes₂ : ℕ
  pub answering : AnswerStep begin.next k challenges choices out₂ answer answers
  pub answer-told : answer.told ≡ Ok bytes₂
  pub out₃ : List ℕ
  pub open' : Step
  pub left : List ℕ
  pub openings : List ℕ
  pub bytes₃ : ℕ
  pub opens : OpenStep answer.next k bits choices out₃ open' left openings
  pub open-told : open'.told ≡ Ok bytes₃

-- what the register is lent: the frames written, as many bytes as each call told, and the frames sent
abbrev pub sent_by : (N : ℕ) (k : Keys) (choices challenges bits : List ℕ) → SignedOn N k choices challenges bits → SignOn
sent_by N k choices challenges bits c =
    sign_on k.system k.public (take c.bytes₁ c.commitments) challenges (take c.bytes₂ c.answers) bits (take c.bytes₃ c.openings)

-- ---- it is accepted, wherever N suffices for the grade

module _ (N : ℕ) (k : Keys) (choices challenges bits : List ℕ) (c : SignedOn N k choices challenges bits) where
  abbrev n : ℕ
  n = places_of k

  pub begun_facts : BeginWrote c.record₀ N k choices c.out₁ c.begin.next c.commitments c.bytes₁
  begun_facts = begin_wrote c.record₀ N k choices c.out₁ c.begin c.commitments c.bytes₁ c.begins c.begin-told

  answered-facts : AnswerWrote c.begin.next k challenges choices c.out₂ c.answer.next c.answers c.bytes₂
  answered-facts = answer_wrote c.begin.next k challenges choices c.out₂ c.answer c.answers c.bytes₂ c.answer-told c.answering

  opened-facts : OpenWrote c.answer.next k bits choices c.out₃ c.open'.next c.left c.openings c.bytes₃
  opened-facts = open_wrote c.answer.next k bits choices c.out₃ c.open' c.openings c.bytes₃ c.open-told c.left c.opens

  -- the record keeps N
  rounds₁ : c.begin.next.rounds ≡ N
  rounds₁ = begun_facts.rounds

  rounds₂ : c.answer.next.rounds ≡ N
  rounds₂ = answered-facts.rounds ∙ rounds₁

  pub lent : LentFits k N choices
  lent = begun_facts.found.lent

  -- the frames written
  commitments-frame : List ℕ
  commitments-frame = frame Commitments N 0 (commitments_of N k choices)

  answers-frame : List ℕ
  answers-frame = frame Answers n N (answers_of N k challenges choices)

  openings-frame : List ℕ
  openings-frame = frame Openings n N (openings_of N k bits choices)

  answers-back : ReadBack Answers n N (answers_of N k challenges choices)
  answers-back = rw rounds₁ at answered-facts.reads

  openings-back : ReadBack Openings n N (openings_of N k bits choices)
  openings-back = rw rounds₂ at opened-facts.reads

  commitments-sent : take c.bytes₁ c.commitments ≡ commitments-frame
  unfolding commitments-frame
  commitments-sent = front _ c.out₁ c.commitments c.bytes₁ (begun_facts.reads.size ∙ sym begun_facts.size) begun_facts.output

  answers-sent : take c.bytes₂ c.answers ≡ answers-frame
  unfolding answers-frame
  answers-sent =
      front _ c.out₂ c.answers c.bytes₂ (answers-back.size ∙ sym (rw rounds₁ at answered-facts.size)) (rw rounds₁ at answered-facts.output)

  openings-sent : take c.bytes₃ c.openings ≡ openings-frame
  unfolding openings-frame
  openings-sent =
      front _ c.out₃ c.openings c.bytes₃ (openings-back.size ∙ sym (rw rounds₂ at opened-facts.size)) (rw rounds₂ at opened-facts.output)

  sent : SignOn
  sent = sign_on k.system k.public commitments-frame challenges answers-frame bits openings-frame

  -- N is that of the commitments
  rounds-sent : rounds_in sent ≡ N
  unfolding sent commitments-frame
  rounds-sent = begun_facts.reads.spells.one

  frames-fit : FramesFit sent
  unfolding sent commitments-frame answers-frame openings-frame
  frames-fit =
      record {
        basis = record {
          system = begun_facts.found.read.system;
          key = begun_facts.found.read.public;
          commitments = sent-fits Commitments N 0 _ begun_facts.reads (of_places n) (rw (le-leb 1 N lent.some, le-leb N 64 lent.most));
        };
        exchange = subst (λ (z : ℕ). ExchangeFits n z challenges answers-frame bits openings-frame) (sym rounds-sent)
            (record {
              challenges = rw rounds₁ at answered-facts.found.sent;
              answers = sent-fits Answers n N _ answers-back (exactly n N) (rw (exact n, exact N));
              bits = rw rounds₂ at opened-facts.found.sent;
              openings = sent-fits Openings n N _ openings-back (exactly n N) (rw (exact n, exact N));
            });
      }

  -- the messages are those of an honest run
  messages-sent : messages_in sent ≡ honest_run (matrix_of k) (public_of k) (secret_of k) N choices (rest_of Challenges challenges) (rest_of Bits bits)
  unfolding sent commitments-frame answers-frame openings-frame
  messages-sent =
      rw (begun_facts.reads.spells.tail, answers-back.spells.tail, openings-back.spells.tail) (honest-messages k N choices challenges bits)

  -- every challenge is a residue
  pub challenge-below : (j : ℕ) → j < N → get_or (rest_of Challenges challenges) j 0 < modulus
  challenge-below j l =
      let f = answered-facts.found.sent in
      let e = rest-length Challenges _ challenges f.form ∙ first-asked Challenges _ challenges f.form _ refl ∙ rounds₁ in
      values-told _ _ (rest_of Challenges challenges) f.content.0 f.content.1 j (omega arith)

  round-passes : (j : ℕ) → j < N → round_passes sent j ≡ true
  unfolding sent
  round-passes j l =
      ap (λ (x : Messages). passes_at (matrix_of k) (public_of k) x j) messages-sent
      ∙ honest_round_passes (matrix_of k) (public_of k) (secret_of k) (record { some = omega arith; fits = lent.keys.system }) lent.valid N choices lent.well (rest_of Challenges challenges) (rest_of Bits bits) j l (let h = challenge-below j l in omega arith)

  same : sent_by N k choices challenges bits c ≡ sent
  unfolding sent
  same = rw (commitments-sent, answers-sent, openings-sent)

  pub sent-messages : messages_in (sent_by N k choices challenges bits c) ≡ honest_run (matrix_of k) (public_of k) (secret_of k) N choices (rest_of Challenges challenges) (rest_of Bits bits)
  sent-messages = ap messages_in same ∙ messages-sent

  pub honest-card-accepted : (grade : ℕ) → enough grade N ≡ true → judging grade (sent_by N k choices challenges bits c) ≡ done (N ∷ [])
  honest-card-accepted grade e =
      ap (λ (z : SignOn). judging grade z) same
      ∙ accepted← grade sent (record { frames = frames-fit; suffices = rw rounds-sent e; pass = λ j l. round-passes j (rw rounds-sent at l) })
      ∙ ap (λ (z : ℕ). done (z ∷ [])) rounds-sent
