-- `check_frames` meets its contract: the frames that fix n and N, and then those that have to agree.
use mathlib.Core.Path.{sym, ap, ◌∙◌}
use mathlib.Core.List.{[]}
use native.Mathlib.Omega.{arith}
use Rattle.refusals.proofs.Chain.{goes_on, stops, handed_on}
use Rattle.refusals.specs.Told.{means}
use Rattle.register_rules.proofs.Facts.{BasisFits, numbers-most, basis-told}
use Rattle.register_rules.specs.Verdict.{frames_check}
use Rattle.register.proofs.check.check_frames.Goals as goal
use Rattle.register.proofs.check.check_frames.Goals.{In_ok-check_basis}

-- past the first three
basis_fine : (c : In_ok-check_basis) → BasisFits c.args.x.now.system.now c.args.x.now.key.now c.args.x.now.commitments.now
basis_fine c = basis-told _ _ _ [] (sym c.check_basis.ensures ∙ ap means c.in_ok-check_basis.was)

pub returns-in_err-check_basis : goal.returns-in_err-check_basis
unfolding frames_check
returns-in_err-check_basis c = ap means (handed_on c.from_residual.ensures) ∙ stops _ c.check_basis.ensures c.in_err-check_basis.was

pub bounds-x-4 : goal.bounds-x-4
bounds-x-4 c = let t = (basis_fine (goal.at.bounds-x-4 c).In_ok-check_basis).system.form.there in omega arith

pub bounds-x-4-2 : goal.bounds-x-4-2
bounds-x-4-2 c = let t = (basis_fine (goal.at.bounds-x-4-2 c).In_ok-check_basis).commitments.form.there in omega arith

pub check_exchange-requires : goal.check_exchange-requires
check_exchange-requires c = let m = numbers-most _ _ _ (basis_fine (goal.at.check_exchange-requires c).In_ok-check_basis) in (omega (arith, c.from-n.ensures), omega (arith, c.from-rounds.ensures))

pub returns : goal.returns
unfolding frames_check
returns c = goes_on c.check_basis.ensures c.in_ok-check_basis.was (rw (c.from-n.ensures, c.from-rounds.ensures) at c.check_exchange.ensures)
