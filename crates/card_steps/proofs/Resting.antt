-- A card at rest answers nothing and opens nothing. After open, and after giving up, it is at rest, and only begin takes it on.
use Rattle.refusals.specs.declared.Refusal.{Refusal}
use Rattle.std.specs.Prelude.{Result, Ok, Err}
use mathlib.Core.Path.{◌≡◌, refl, ap, ◌∙◌}
use mathlib.Core.Bool.{true}
use mathlib.Core.List.{List, [], ◌∷◌}
use Prim.Native.Nat.{ℕ, zero, suc, ◌*◌}
use native.Mathlib.Omega.{arith}
use lib.ListN.{length, length-replicate}
use Rattle.refusals.specs.Number.{PERM, STAGE}
use Rattle.refusals.specs.Buffer.{NONE, CHOICES}
use Rattle.refusals.specs.Told.{done, refused, fine, means_count}
use Rattle.refusals.proofs.Chain.{first_done}
use Rattle.kinds.specs.Kinds.{within, alone}
use Rattle.readers.specs.Choosing.{choice_size}
use Rattle.frames.proofs.Facts.{within-told}
use Rattle.readers.proofs.Chosen.{Zeros, zeros_refused, zeros_not_chosen}
use Rattle.card_rules.specs.declared.session.Session.{Session}
use Rattle.card_rules.specs.Keys.{Keys, places_of, keys_check}
use Rattle.card_rules.specs.Asking.{at_rest, commitments_size, begin_check}
use Rattle.card_rules.proofs.Records.{rests_apart}
use Rattle.card_rules.proofs.Orders.{no_answer-at, no_open_at, choices_stop}
use Rattle.card_rules.proofs.Facts.{keys-told, begin-told}
use Rattle.card_steps.specs.declared.Step.{Step}
use Rattle.card_steps.specs.Steps.{unless_refused, zeroed, begin_told, answer_told, AnswerStep, open_refusal, open_told, closed, OpenStep, fresh, GiveUpStep}

-- a refusal that a step tells leaves the record
kept : (t : Result ℕ Refusal) (next s : Session) {x y z : ℕ} → means_count t ≡ refused x y z → unless_refused t next s ≡ s
kept (Ok bytes) next s e = let z : ◌≡◌ {A = ℕ} 0 1 = cc in absurd (omega arith)
kept (Err r) next s e = refl

module _ (s : Session) (rest : at_rest s.stage ≡ true) (k : Keys) (message choices out : List ℕ) (step : Step) where
  -- answer and open are STAGE, whatever is lent, and leave the card at rest
  pub no_answer : (after : List ℕ) → AnswerStep s k message choices out step after → (means_count step.told ≡ refused STAGE NONE 0) × (step.next ≡ s)
  unfolding answer_told
  no_answer after p =
      let f = (rests_apart s.stage rest).0 in
      let e : means_count step.told ≡ refused STAGE NONE 0 =
      p.says ∙ rw (no_answer-at s k message choices (length out) f) in
      (e, p.moves ∙ kept step.told _ s e)

  pub no_opening : (left after : List ℕ) → OpenStep s k message choices out step left after → (means_count step.told ≡ refused STAGE NONE 0) × (step.next ≡ s)
  unfolding open_told open_refusal
  no_opening left after p =
      let f = (rests_apart s.stage rest).1 in
      let e : means_count step.told ≡ refused STAGE NONE 0 =
      p.says ∙ rw (no_open_at s k message choices (length out) f) in
      (e, p.moves ∙ kept step.told _ s e)

-- after an opening the card is at rest
pub opened_rests : (s : Session) (k : Keys) (message choices out : List ℕ) (step : Step) (left after : List ℕ) (bytes : ℕ)
    → OpenStep s k message choices out step left after → step.told ≡ Ok bytes → at_rest step.next.stage ≡ true
unfolding closed at_rest
opened_rests s k message choices out step left after bytes p e =
    ap (λ (n : Session). at_rest n.stage) (p.moves ∙ ap (λ (t : Result ℕ Refusal). unless_refused t (closed s) s) e)

pub given_up_rests : (s : Session) (choices : List ℕ) (next : Session) (left : List ℕ) → GiveUpStep s choices next left → at_rest next.stage ≡ true
unfolding fresh at_rest
given_up_rests s choices next left p = ap (λ (n : Session). at_rest n.stage) p.moves

-- ---- zeroed choices, as open and give up leave them

zeros_of : (l : List ℕ) → Zeros (zeroed l)
zeros_of [] j = refl
zeros_of (x ∷ xs) zero = refl
zeros_of (x ∷ xs) (suc j) = zeros_of xs j

module _ (s : Session) (N : ℕ) (k : Keys) (choices : List ℕ) (room : ℕ) where
  -- once all before them has passed: PERM at n
  pub zeroed_refused : at_rest s.stage ≡ true → within alone.rounds N ≡ true → keys_check k ≡ fine → length choices ≡ N * choice_size (places_of k)
      → begin_told s N k (zeroed choices) room ≡ refused PERM CHOICES (places_of k)
  unfolding begin_told
  zeroed_refused a b c e =
      let f = (keys-told k [] c).system in
      let p = f.some in
      let q = f.less in
      let w = within-told alone.rounds N b in
      rw (choices_stop s N k (zeroed choices) room a b c (zeros_refused (places_of k) (omega arith) N (zeroed choices) w.0 (length-replicate (length choices) 0 ∙ e) (zeros_of choices)))

  -- and refused whatever else is lent
  pub zeroed_never_begins : (v : List ℕ) → begin_told s N k (zeroed choices) room ≡ done v → ⊥
  unfolding begin_told
  zeroed_never_begins v e =
      let p = (first_done (begin_check s N k (zeroed choices) room) (done (commitments_size N ∷ [])) v e).0 in
      let h = (begin-told s N k (zeroed choices) room p.0 p.1).lent in
      let f = h.keys.system in
      let a = f.some in
      let b = f.less in
      zeros_not_chosen (places_of k) (omega arith) (zeroed choices) 0 (zeros_of choices) (h.well.each 0 h.some).perm
