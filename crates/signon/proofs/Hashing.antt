-- The three ends of `signon_hash`, by what the hash call has answered.
use Rattle.std.specs.Prelude.{Ok, Err}
use mathlib.Core.Path.{◌≡◌, refl, ap, ◌∙◌}
use mathlib.Core.List.{List, [], ◌∷◌}
use Prim.Native.Nat.{ℕ, ◌≤◌, ◌<◌}
use borrow.Author.Tests.{le-leb, lt-leb}
use lib.ListN.{length}
use Rattle.refusals.specs.declared.Refusal.{Refusal}
use Rattle.refusals.specs.Number.{ROOM}
use Rattle.refusals.specs.Buffer.{OUTPUT}
use Rattle.refusals.specs.Told.{done, refused, told}
use Rattle.algebra.specs.Lists.{over}
use Rattle.refusals.specs.declared.Reason.TheVariants.{Room}
use Rattle.refusals.specs.declared.Buffer.TheVariants.{Output}
use Rattle.sha256.proofs.Call.{hands_back}
use Rattle.sha256.specs.Call.{Hashes}
use Rattle.sha256.proofs.Digest.{digest_length}
use Rattle.card_for_c.specs.declared.Answer.{Answer}
use Rattle.card_for_c.specs.Answers.{answer_of}
use Rattle.signon.specs.Calls.{digest_size, hash_told, HashForC}
use Rattle.signon.proofs.Holding.{hash_held}
use Rattle.signon.proofs.ForC.{done_for_c, refused_for_c}

module _ (message digest : List ℕ) (h : Hashes message (Ok digest)) where
  pub digest_fits : (room : ℕ) → digest_size ≤ room → length digest ≤ room
  digest_fits room l = rw (hands_back message digest h, digest_length message) l

  module _ (out : List ℕ) (answer : Answer) where
    pub hash_no_room : length out < digest_size → answer ≡ answer_of (refused ROOM OUTPUT digest_size) → HashForC message out answer out
    unfolding hash_told
    hash_no_room l e =
        refused_for_c _ (hash_held message (length out)) answer out _ out (record { reason = Room; buffer = Output; place = digest_size })
        (rw (← h.says, lt-leb digest_size (length out) l)) e refl

    pub hash_wrote : digest_size ≤ length out → answer ≡ answer_of (done (digest_size ∷ [])) → (after : List ℕ) → after ≡ over digest out → HashForC message out answer after
    unfolding hash_told
    hash_wrote l e after p =
        done_for_c _ (hash_held message (length out)) answer after _ out (digest_size ∷ []) (rw (← h.says, le-leb digest_size (length out) l)) e
        (p ∙ ap (λ (d : List ℕ). over d out) (hands_back message digest h))

pub hash_refused : (message out : List ℕ) (x : Refusal) → Hashes message (Err x) → (answer : Answer) → answer ≡ answer_of (told x) → HashForC message out answer out
unfolding hash_told
hash_refused message out x h answer e = refused_for_c _ (hash_held message (length out)) answer out _ out x (rw (← h.says)) e refl
