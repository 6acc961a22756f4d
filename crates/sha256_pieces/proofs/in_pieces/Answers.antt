-- `in_pieces` is the hash call itself where it is refused or not cut, and else has the digest by `pieces`.
use mathlib.Core.Path.{ap, ◌∙◌}
use native.Mathlib.Omega.{arith}
use Rattle.refusals.specs.Told.{Told}
use Rattle.sha256.specs.Call.{shown_of}
use Rattle.sha256.proofs.Call.{told-fine}
use Rattle.sha256_pieces.proofs.in_pieces.Goals as goal

pub returns : goal.returns
returns c = let m = c.args.message.now in
    let t = told-fine m (omega arith) in
    record { says = t; shows = c.pieces.ensures ∙ ap (λ (x : Told). shown_of x m) t }
