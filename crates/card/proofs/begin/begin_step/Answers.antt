-- `begin_step` meets its contract: nothing is written before the last check.
use mathlib.Core.Path.{refl, sym, ap, ◌∙◌}
use mathlib.Core.List.{List, []}
use Prim.Native.Nat.{ℕ}
use native.Mathlib.Omega.{arith}
use lib.ListN.{length}
use Rattle.algebra.specs.Lists.{over}
use Rattle.card_rules.proofs.Facts.{BeginFits, begin-told}
use Rattle.card_rules.specs.Parts.{as_keys}
use Rattle.card_steps.proofs.Parts.{commitments-formed, key-parts}
use Rattle.card_steps.specs.Steps.{begin_told, begun}
use Rattle.writers.specs.Writing.{frame}
use Rattle.kinds.specs.declared.Kind.TheVariants.{Commitments}
use Rattle.refusals.proofs.Chain.{goes_on, stops}
use Rattle.refusals.specs.Told.{means}
use Rattle.card.proofs.begin.begin_step.Goals as goal
use Rattle.card.proofs.begin.begin_step.Goals.{In_default}

-- past the checks
past : (c : In_default) → BeginFits c.args.session c.args.rounds (as_keys c.args.keys.now) c.args.choices.now (length c.args.out.now)
past c = begin-told _ _ _ _ _ [] (sym c.check_begin.ensures ∙ ap means c.in_default.is)

pub returns-in-Err : goal.returns-in-Err
unfolding begin_told
returns-in-Err c = record { says = stops _ c.check_begin.ensures c.in-Err.is; moves = refl; writes = refl }

pub matrix-a-requires : goal.matrix-a-requires
matrix-a-requires c = (past (goal.at.matrix-a-requires c).In_default).lent.keys

pub permutation-requires : goal.permutation-requires
permutation-requires c = (past (goal.at.permutation-requires c).In_default).lent.keys

pub put_commitments-requires : goal.put_commitments-requires
put_commitments-requires c = let h = past (goal.at.put_commitments-requires c).In_default in
    (key-parts (as_keys c.args.keys.now) _ _ h.lent _ _ c.matrix-a.ensures.places c.permutation.ensures, h.lent.most, h.enough)

pub overflow_mul-result : goal.overflow_mul-result
overflow_mul-result c = let t = (past (goal.at.overflow_mul-result c).In_default).lent.most in omega arith

pub overflow_add-result : goal.overflow_add-result
overflow_add-result c = let t = (past (goal.at.overflow_add-result c).In_default).lent.most in omega arith

pub overflow_cast-result-3 : goal.overflow_cast-result-3
overflow_cast-result-3 c = let t = (past (goal.at.overflow_cast-result-3 c).In_default).lent.most in omega arith

pub returns : goal.returns
unfolding begin_told begun
returns c = let g = c.args in let h = past (goal.at.returns c).In_default in let k = as_keys g.keys.now in
    record {
      says = goes_on c.check_begin.ensures c.in_default.is refl;
      moves = rw (c.matrix-a.ensures.places, c.matrix-a.ensures.rows);
      writes = c.put_commitments.ensures ∙ ap (λ (l : List ℕ). over (frame Commitments g.rounds 0 l) g.out.now) (commitments-formed k _ _ _ _ c.matrix-a.ensures.system c.permutation.ensures);
    }
