-- `hash` refuses by the length alone; else it is a stream that absorbs the message and is finished.
use mathlib.Core.List.{[]}
use mathlib.Core.Path.{ap, ◌∙◌}
use native.Mathlib.Omega.{arith}
use Rattle.refusals.specs.Told.{Told}
use Rattle.sha256.specs.Call.{means_digest, shown, shown_of}
use Rattle.sha256.proofs.Call.{told-fine, told_long}
use Rattle.sha256.proofs.hash.Goals as goal

pub returns-then-message-gt-LONGEST : goal.returns-then-message-gt-LONGEST
returns-then-message-gt-LONGEST c = let m = c.args.message.now in
    let t = told_long m (omega arith) in
    record { says = ap means_digest c.refuse.ensures ∙ t; shows = ap shown c.refuse.ensures ∙ ap (λ (x : Told). shown_of x m) t }

pub returns : goal.returns
returns c = let m = c.args.message.now in
    let t = told-fine m (omega arith) in
    record { says = t; shows = c.finish.ensures m (c.absorb.ensures.message [] c.start.ensures) ∙ ap (λ (x : Told). shown_of x m) t }
