-- For each C function: no second outcome fits what it promises, and a refused call changes nothing.
use mathlib.Core.Path.{◌≡◌, refl, sym, ap, ◌∙◌}
use mathlib.Core.List.{List}
use Prim.Native.Nat.{ℕ, ◌+◌, ◌-◌, ◌*◌}
use native.Mathlib.Omega.{arith}
use lib.ListN.{take, drop}
use Rattle.refusals.specs.Told.{Told, fine}
use Rattle.frames.specs.Reading.{first_of, opening_check, opening_of}
use Rattle.readers.proofs.OpeningLaws.{opening-cut}
use Rattle.card_rules.specs.declared.session.Session.{Session}
use Rattle.card_rules.specs.Keys.{Keys}
use Rattle.card_steps.proofs.Outcomes.{one_give_up}
use Rattle.card_for_c.specs.declared.Answer.{Answer}
use Rattle.card_for_c.specs.Answers.{if_done}
use Rattle.card_for_c.specs.Card.{BeginForC, AnswerForC, OpenForC, GiveUpForC}
use Rattle.signon.specs.Calls.{OutputForC, opening_place}
use Rattle.card_for_c.proofs.Answering.{refused_leaves}

-- the same answer leaves the same
same_left : {A : Type 0} (a b : Answer) → a ≡ b → (next was x y : A) → x ≡ if_done a next was → y ≡ if_done b next was → x ≡ y
same_left a b e next was x y p q = p ∙ ap (λ (t : Answer). if_done t next was) e ∙ sym q

-- ---- hash, writers, drawings, key making, the stand-in: one record serves them all. Readers, key check and verdict promise an equation.

module _ (t : Told) (filled out : List ℕ) (a : Answer) (x : List ℕ) (p : OutputForC t filled out a x) where
  pub one_output_for_c : (b : Answer) (y : List ℕ) → OutputForC t filled out b y → (a ≡ b) × (x ≡ y)
  one_output_for_c b y q =
      let e = p.says ∙ sym q.says in
      (e, same_left a b e filled out x y p.writes q.writes)

  pub refused_output_for_c : (a.number ≡ 0 → ⊥) → x ≡ out
  refused_output_for_c f = p.writes ∙ refused_leaves a f filled out

-- ---- the card

module _ (s : Session) (N : ℕ) (k : Keys) (choices out : List ℕ) (a : Answer) (n : Session) (x : List ℕ) (p : BeginForC s N k choices out a n x) where
  pub one_begin_for_c : (b : Answer) (m : Session) (y : List ℕ) → BeginForC s N k choices out b m y → (a ≡ b) × (n ≡ m) × (x ≡ y)
  one_begin_for_c b m y q =
      let e = p.says ∙ sym q.says in
      (e, same_left a b e _ s n m p.moves q.moves, same_left a b e _ out x y p.writes q.writes)

  pub refused_begin_for_c : (a.number ≡ 0 → ⊥) → (n ≡ s) × (x ≡ out)
  refused_begin_for_c f = (p.moves ∙ refused_leaves a f _ s, p.writes ∙ refused_leaves a f _ out)

module _ (s : Session) (k : Keys) (message choices out : List ℕ) (a : Answer) (n : Session) (x : List ℕ) (p : AnswerForC s k message choices out a n x) where
  pub one_answer_for_c : (b : Answer) (m : Session) (y : List ℕ) → AnswerForC s k message choices out b m y → (a ≡ b) × (n ≡ m) × (x ≡ y)
  one_answer_for_c b m y q =
      let e = p.says ∙ sym q.says in
      (e, same_left a b e _ s n m p.moves q.moves, same_left a b e _ out x y p.writes q.writes)

  pub refused_answer_for_c : (a.number ≡ 0 → ⊥) → (n ≡ s) × (x ≡ out)
  refused_answer_for_c f = (p.moves ∙ refused_leaves a f _ s, p.writes ∙ refused_leaves a f _ out)

module _ (s : Session) (k : Keys) (message choices out : List ℕ) (a : Answer) (n : Session) (u x : List ℕ) (p : OpenForC s k message choices out a n u x) where
  pub one_open_for_c : (b : Answer) (m : Session) (v y : List ℕ) → OpenForC s k message choices out b m v y → (a ≡ b) × (n ≡ m) × (u ≡ v) × (x ≡ y)
  one_open_for_c b m v y q =
      let e = p.says ∙ sym q.says in (
        e,
        same_left a b e _ s n m p.moves q.moves,
        same_left a b e _ choices u v p.clears q.clears,
        same_left a b e _ out x y p.writes q.writes,
      )

  pub refused_open_for_c : (a.number ≡ 0 → ⊥) → (n ≡ s) × (u ≡ choices) × (x ≡ out)
  refused_open_for_c f = (p.moves ∙ refused_leaves a f _ s, p.clears ∙ refused_leaves a f _ choices, p.writes ∙ refused_leaves a f _ out)

-- never refused
pub one_give_up_for_c : (s : Session) (choices : List ℕ) (a b : Answer) (n m : Session) (u v : List ℕ)
    → GiveUpForC s choices a n u → GiveUpForC s choices b m v → (a ≡ b) × (n ≡ m) × (u ≡ v)
one_give_up_for_c s choices a b n m u v p q = let l = one_give_up s choices n m u v p.leaves q.leaves in (p.says ∙ sym q.says, l.0, l.1)

-- ---- a named round: its permutation starts at the place that is answered

pub opening-there : (s : List ℕ) (round : ℕ) → opening_check s round ≡ fine → take (first_of s) (drop (opening_place s round) s) ≡ opening_of s round
opening-there s round q =
    let n = first_of s in
    let z : 6 + round * n + n - (6 + round * n) ≡ n = omega arith in
    rw z at (opening-cut s round n 6 refl refl (sym q))
