-- `front_end` meets its contract: where bytes are missing the frame is all that is left.
use mathlib.Core.Path.{ap, ◌∙◌}
use native.Mathlib.Omega.{arith}
use Prim.Native.Nat.{ℕ, ◌+◌, min}
use lib.ListN.{length}
use Rattle.register_input.proofs.Cuts.{all_in_front, counted_of_all}
use Rattle.register_input.proofs.front_end.Goals as goal

pub returns-then-s-lt2 : goal.returns-then-s-lt2
returns-then-s-lt2 c = all_in_front _ (omega arith)

pub returns : goal.returns
returns c = counted_of_all _ _ (c.min.ensures ∙ ap (λ (k : ℕ). min (length c.args.s.now) (k + 2)) c.count_of.ensures.0)
