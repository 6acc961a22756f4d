-- `open_step` meets its contract: nothing is written and nothing zeroed before the last check.
use mathlib.Core.Path.{refl, sym, ap, ◌∙◌}
use mathlib.Core.List.{List, []}
use Prim.Native.Nat.{ℕ}
use native.Mathlib.Omega.{arith}
use lib.ListN.{length}
use Rattle.algebra.specs.Lists.{over}
use Rattle.card_rules.proofs.Facts.{OpenFits}
use Rattle.card_rules.specs.Parts.{as_keys}
use Rattle.card_rules.specs.Keys.{places_of}
use Rattle.card_steps.proofs.Opening.{refusal-told}
use Rattle.card_steps.proofs.Parts.{bits-sent, key-parts, openings-formed}
use Rattle.card_steps.specs.Steps.{closed, open_told}
use Rattle.frames.proofs.Orders.{rest_part}
use Rattle.writers.specs.Writing.{frame}
use Rattle.kinds.specs.declared.Kind.TheVariants.{Bits, Openings}
use Rattle.refusals.proofs.Chain.{goes_on, stops}
use Rattle.refusals.specs.Told.{means}
use Rattle.card.proofs.open.open_step.Goals as goal
use Rattle.card.proofs.open.open_step.Goals.{In_default}

-- past the checks
past : (c : In_default) → OpenFits c.args.session (as_keys c.args.keys.now) c.args.message.now c.args.choices.now (length c.args.out.now)
past c = refusal-told _ _ _ _ _ [] (sym c.check_all.ensures ∙ ap means c.in_default.is)

pub returns-in-Err : goal.returns-in-Err
unfolding open_told
returns-in-Err c = record { says = stops _ c.check_all.ensures c.in-Err.is; moves = refl; clears = refl; writes = refl }

pub matrix-n-requires : goal.matrix-n-requires
matrix-n-requires c = (past (goal.at.matrix-n-requires c).In_default).lent.keys

pub permutation-requires : goal.permutation-requires
permutation-requires c = (past (goal.at.permutation-requires c).In_default).lent.keys

pub slice_bounds-put_openings-count : goal.slice_bounds-put_openings-count
slice_bounds-put_openings-count c = let t = (past (goal.at.slice_bounds-put_openings-count c).In_default).sent.form.there in omega arith

pub slice_bounds-put_openings-start : goal.slice_bounds-put_openings-start
slice_bounds-put_openings-start c = let t = (past (goal.at.slice_bounds-put_openings-start c).In_default).sent.form.there in omega arith

pub put_openings-requires : goal.put_openings-requires
put_openings-requires c = let g = c.args in let h = past (goal.at.put_openings-requires c).In_default in let k = as_keys g.keys.now in
    rw (c.matrix-n.ensures.places, c.from-rounds.ensures, rest_part Bits g.message.now 5 refl) (key-parts k _ _ h.lent _ _ refl c.permutation.ensures, h.lent.keys.system.most, h.lent.most, bits-sent _ _ g.message.now h.sent, h.enough)

pub returns : goal.returns
unfolding open_told closed
returns c = let g = c.args in let h = past (goal.at.returns c).In_default in let k = as_keys g.keys.now in
    let n = places_of k in
    record {
      says = goes_on c.check_all.ensures c.in_default.is (rw (c.matrix-n.ensures.places, c.from-rounds.ensures));
      moves = refl;
      clears = c.fill.ensures.after (λ y e. e);
      writes =
          rw (c.matrix-n.ensures.places, c.from-rounds.ensures) at c.put_openings.ensures
          ∙ ap (λ (l : List ℕ). over (frame Openings n g.session.rounds l) g.out.now) (openings-formed k _ _ h.lent _ _ refl c.permutation.ensures g.message.now);
    }
