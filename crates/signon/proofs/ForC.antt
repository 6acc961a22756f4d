-- What the calls that write promise, with their answers as C takes them.
use Rattle.std.specs.Prelude.{Result, Ok, Err}
use mathlib.Core.Path.{◌≡◌, sym, ◌∙◌}
use mathlib.Core.List.{List, [], ◌∷◌}
use Prim.Native.Nat.{ℕ}
use lib.ListN.{length}
use Rattle.refusals.specs.declared.Refusal.{Refusal}
use Rattle.refusals.specs.Number.{DRAW}
use Rattle.refusals.specs.Told.{Told, done, told, means_count}
use Rattle.refusals.proofs.Chain.{UpTo}
use Rattle.algebra.specs.Lists.{over}
use Rattle.random.specs.Drawings.{Drawing, used_by, drawn_over}
use Rattle.kinds.specs.declared.Kind.{Kind}
use Rattle.writers.specs.Writing.{out_after, Writes}
use Rattle.draw_rules.specs.Telling.{drawn_after, Draws}
use Rattle.stand_in.specs.Standing.{StandsIn}
use Rattle.card_for_c.specs.declared.Answer.{Answer}
use Rattle.card_for_c.specs.Answers.{answer_of, Held}
use Rattle.signon.specs.Calls.{OutputForC, WriteForC, DrawForC, StandInForC}
use Rattle.card_for_c.proofs.Answering.{refused_left}
use Rattle.card_for_c.proofs.Holding.{one}
use Rattle.signon.proofs.Holding.{write_held, stand_in_held, draw_held}

-- ---- calls that write

module _ (t : Told) (h : Held one t) (answer : Answer) (after filled out : List ℕ) where
  pub done_for_c : (values : List ℕ) → t ≡ done values → answer ≡ answer_of (done values) → after ≡ filled → OutputForC t filled out answer after
  done_for_c values q e p = record { says = rw q e; writes = rw e p }

  pub refused_for_c : (r : Refusal) → t ≡ told r → answer ≡ answer_of (told r) → after ≡ out → OutputForC t filled out answer after
  refused_for_c r q e p = record { says = rw q e; writes = rw e (p ∙ refused_left one r (rw (← q) h) filled out) }

module _ (t : Told) (h : Held one t) (answer : Answer) (after out : List ℕ) where
  written-for-c : (w : Result ℕ Refusal) → answer ≡ answer_of (means_count w) → means_count w ≡ t → (l : List ℕ) → after ≡ out_after w l out
      → OutputForC t (over l out) out answer after
  written-for-c (Ok bytes) e q l p = done_for_c t h answer after (over l out) out (bytes ∷ []) (sym q) e p
  written-for-c (Err r) e q l p = refused_for_c t h answer after (over l out) out r (sym q) e p

  drawn-for-c : (w : Result ℕ Refusal) → answer ≡ answer_of (means_count w) → means_count w ≡ t → (d : Drawing) → after ≡ drawn_after w d out
      → OutputForC t (drawn_over d out) out answer after
  drawn-for-c (Ok used) e q d p = done_for_c t h answer after (drawn_over d out) out (used ∷ []) (sym q) e p
  drawn-for-c (Err r) e q d p = refused_for_c t h answer after (drawn_over d out) out r (sym q) e p

pub write_for_c : (k : Kind) (a b : ℕ) (plain out : List ℕ) (w : Result ℕ Refusal) (answer : Answer) (after : List ℕ)
    → answer ≡ answer_of (means_count w) → Writes k a b plain out w after → WriteForC k a b plain out answer after
write_for_c k a b plain out w answer after e p = written-for-c _ (write_held k a b plain (length out)) answer after out w e p.says _ p.writes

pub stand_in_for_c : (c bit : ℕ) (system key lent out : List ℕ) (w : Result ℕ Refusal) (answer : Answer) (after : List ℕ)
    → answer ≡ answer_of (means_count w) → StandsIn c bit system key lent out w after → StandInForC c bit system key lent out answer after
stand_in_for_c c bit system key lent out w answer after e p =
    written-for-c _ (stand_in_held c bit system key lent (length out)) answer after out w e p.says _ p.writes

pub draw_for_c : (numbers : Told) (need : ℕ) (drawing : Drawing) (random out : List ℕ) (w : Result ℕ Refusal) (answer : Answer) (after : List ℕ) → UpTo DRAW numbers
    → answer ≡ answer_of (means_count w) → Draws numbers need drawing random out w after → DrawForC numbers need drawing random out answer after
draw_for_c numbers need drawing random out w answer after h e p =
    drawn-for-c _ (draw_held numbers h need (length out) (used_by drawing) (length random)) answer after out w e p.says drawing p.writes
