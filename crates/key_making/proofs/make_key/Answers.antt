-- `make_key` meets its contract: a system that is read fits, and its entries are the rest of its frame.
use mathlib.Core.Path.{sym}
use Rattle.kinds.specs.Kinds.{alone}
use Rattle.frames.proofs.Facts.{reading-told}
use Rattle.refusals.proofs.Chain.{handed_on}
use Rattle.draw_rules.proofs.Orders.{bad_frame, past-frame}
use Rattle.readers.proofs.Passing.{system-fits}
use Rattle.kinds.specs.declared.Kind.TheVariants.{System}
use Rattle.key_making.proofs.make_key.Goals as goal

pub matrix_of-a-requires : goal.matrix_of-a-requires
matrix_of-a-requires c = let s = c.args.system.now in
    let f = (reading-told System alone s _ (sym c.in_ok-read.ensures.says)).0 in
    (f.form.there, system-fits s f)

pub returns-in_err-read : goal.returns-in_err-read
returns-in_err-read c = rw (handed_on c.from_residual.ensures) (bad_frame _ _ _ _ _ c.in_err-read.ensures.says)

pub returns : goal.returns
returns c = let a = c.matrix_of-a.ensures in
    past-frame _ _ _ _ _ _ (sym c.in_ok-read.ensures.says) (rw (a.entries, a.places, a.rows) at c.draw_key.ensures)
