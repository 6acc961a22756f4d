-- `signon_hash` meets its contract in each of its three ends.
use mathlib.Core.Path.{ap, ◌∙◌}
use Prim.Native.Nat.{ℕ}
use Rattle.std.specs.Prelude.{Result}
use Rattle.refusals.specs.declared.Refusal.{Refusal}
use Rattle.refusals.specs.Told.{means_count}
use Rattle.card_for_c.specs.Answers.{answer_of}
use Rattle.signon.proofs.Hashing.{hash_refused, hash_no_room, hash_wrote}
use Rattle.signon.proofs.hash.signon_hash.Goals as goal

pub returns-in-Err : goal.returns-in-Err
returns-in-Err c = hash_refused _ _ _ (c.in-Err.ensures) _ c.refusal.ensures

pub returns-then-out-lt-DIGEST : goal.returns-then-out-lt-DIGEST
returns-then-out-lt-DIGEST c = hash_no_room _ _ c.in-Ok.ensures _ _ c.if-out-lt-DIGEST.true (c.of_count.ensures ∙ ap (λ (r : Result ℕ Refusal). answer_of (means_count r)) c.refuse.ensures)

pub returns : goal.returns
returns c = hash_wrote _ _ c.in-Ok.ensures _ _ c.if-out-lt-DIGEST.false c.success.ensures _ c.copy_into.ensures
