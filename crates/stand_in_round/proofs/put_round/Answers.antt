-- `put_round` meets its contract: commitment, W and permutation, one behind the other.
use mathlib.Core.Path.{subst, ◌∙◌}
use Prim.Native.Nat.{ℕ}
use Rattle.algebra.specs.Permutations.{IsPerm}
use Rattle.scheme.specs.Round.{as_system}
use Rattle.round.specs.Parts.{as_pair}
use Rattle.stand_in_round.proofs.Laid.{round_laid}
use Rattle.stand_in_round.proofs.put_round.Goals as goal

pub returns : goal.returns
returns c = let x = c.args.x in
    let h = subst (λ (k : ℕ). IsPerm k x.permutation.now) c.requires.3 c.requires.2 in
    round_laid (as_system c.args.a.now) c.args.v.now c.args.c c.args.bit (as_pair x) c.args.a.now.n (x.even ∙ c.requires.3) h _ _ _ _ _
    c.stand_in_commitment-commitment.ensures c.copy_into.ensures c.put_answer.ensures c.copy_at.ensures
