-- `check_own` meets its contract: the rounds formed anew, and the first that does not pass.
use mathlib.Core.Path.{refl, ap, ◌∙◌}
use native.Mathlib.Omega.{arith}
use Rattle.refusals.specs.Told.{means}
use Rattle.card_rules.specs.Parts.{as_keys}
use Rattle.card_steps.proofs.Opening.{faulty_formed, own-fails, own-holds}
use Rattle.card_steps.proofs.Parts.{card-parts}
use Rattle.frames.proofs.Orders.{rest_part}
use Rattle.kinds.specs.declared.Kind.TheVariants.{Bits}
use Rattle.card.proofs.open.check_own.Goals as goal

pub own_failing-requires : goal.own_failing-requires
own_failing-requires c = let g = c.args in let h = c.requires in
    rw (c.from-rounds.ensures, rest_part Bits g.message.now 5 refl)
    (card-parts (as_keys g.keys.now) _ _ h.lent _ _ _ c.matrix.ensures.places c.vector.ensures c.permutation.ensures, h.lent.most, h.kept, h.bits)

pub returns-in-Some : goal.returns-in-Some
returns-in-Some c = let g = c.args in let k = as_keys g.keys.now in let b = c.in-Some.ensures.below in
    ap means c.refuse.ensures
    ∙ own-fails g.session k g.message.now g.choices.now _ _ (c.in-Some.ensures.first ∙ faulty_formed g.session k g.message.now g.choices.now _ _ _ _ c.matrix.ensures.system c.vector.ensures c.permutation.ensures c.from-rounds.ensures) c.from-rounds.ensures (omega arith)

pub returns-in-None : goal.returns-in-None
returns-in-None c = let g = c.args in let k = as_keys g.keys.now in
    own-holds g.session k g.message.now g.choices.now _ _ (c.in-None.ensures.first ∙ faulty_formed g.session k g.message.now g.choices.now _ _ _ _ c.matrix.ensures.system c.vector.ensures c.permutation.ensures c.from-rounds.ensures) c.from-rounds.ensures refl
