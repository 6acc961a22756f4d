-- `write_permutation` meets its contract: a shuffle of the identity is the drawing.
use mathlib.Core.Path.{sym, ap, ◌∙◌, subst}
use native.Mathlib.Omega.{arith}
use Rattle.random.specs.Drawings.{Drawing, draw_permutation, used_by, drawn_over, Enough}
use Rattle.random.proofs.Drawings.{drawn-perm, shuffle-identity, drawn-over-identity}
use Rattle.random.proofs.draw.write_permutation.Goals as goal

pub shuffle_front-requires : goal.shuffle_front-requires
shuffle_front-requires c = let w = c.write_identity in (
  subst Enough (sym (shuffle-identity _ _ _ _ _ w.ensures)) c.requires.0,
  omega arith,
  omega (arith, w.auto),
)

pub returns : goal.returns
returns c = let w = c.write_identity in
    let s = c.shuffle_front.ensures in
    let e = shuffle-identity c.args.n c.args.random.now c.args.at _ _ w.ensures in
    let drawn = draw_permutation c.args.n c.args.random.now c.args.at in
    let out = w.new.out in (
      s.0 ∙ ap used_by e,
      s.1 ∙ ap (λ (m : Drawing). drawn_over m out) e ∙ ap (drawn_over drawn) w.ensures
          ∙ drawn-over-identity _ drawn _ (drawn-perm _ _ _ c.requires.1) c.requires.0,
    )
